-- What the optimiser asks of the code of a program.
use Rattle.std.specs.Prelude.{◌≡◌, ℕ, List, Ok}
use Rattle.c65_csem.specs.declared.items.Parts.{Parts}
use Rattle.c65_code.specs.declared.code.Code.{Code}
use Rattle.c65_genframe.specs.declared.modes.Modes.{Modes}
use Rattle.c65_genstmt.specs.Programs.{program_of}
use Rattle.c65_opt_law_whole.specs.Laws.{HasConstantLiterals}

-- the literals of a program's code are constant data of bytes (C90 6.1.4)
abbrev pub LiteralsAreConstant : Type 0
LiteralsAreConstant = (parts : Parts) (main : ℕ) (names : List (List ℕ)) (modes : Modes) (code : Code) → program_of parts main names modes ≡ Ok code → HasConstantLiterals code
