-- That the functions of a program's code are compiled.
use Rattle.std.specs.Prelude.{◌≡◌, ℕ, ◌+◌, ◌^◌, ◌≤◌, Some, Ok, List, length, slice_get}
use Rattle.c65_csem.specs.Trees.{Stmt, FuncTy}
use Rattle.c65_csem.specs.Units.{IsUnit}
use Rattle.c65_csem.specs.Views.{unit_of}
use Rattle.c65_code.specs.declared.code.Code.{Code}
use Rattle.c65_code.specs.Placement.{Placement, setting_of}
use Rattle.c65_genstmt.specs.Programs.{program_of}
use Rattle.c65_gen_law_calls.specs.Travels.{Program, Compiled, IsCompiled}

-- The machine that is set to the code of a well typed program has the lines of each function that has a body, wherever the code is
-- placed, where the symbols have numbers of their own.
abbrev pub ProgramsAreCompiled : Type 0
ProgramsAreCompiled = (p : Program) (names : List (List ℕ)) (code : Code) (place : Placement) (i : ℕ) (g : FuncTy) (body : Stmt)
    → program_of p.parts p.main names p.modes ≡ Ok code → IsUnit (unit_of p.parts)
    → length p.parts.objects.items + length p.parts.literals.items + length p.parts.funcs.items ≤ 2 ^ 32
    → slice_get (unit_of p.parts).funcs i ≡ Some g → g.body ≡ Some body
    → (c : Compiled) × (c.index ≡ i) × (c.func ≡ g) × (c.body ≡ body) × IsCompiled (setting_of code place) p c
