-- Plain programs can be written.
use Rattle.std.specs.Prelude.{◌≡◌, ℕ, List, Ok}
use Rattle.c65_csem.specs.declared.items.Parts.{Parts}
use Rattle.c65_csem.specs.Units.{IsProgram}
use Rattle.c65_csem.specs.Views.{unit_of}
use Rattle.c65_csem_plain.specs.Plain.{IsPlain}
use Rattle.c65_code.specs.declared.code.Code.{Code}
use Rattle.c65_code.specs.Writable.{IsWritable}
use Rattle.c65_genframe.specs.declared.modes.Modes.{Modes}
use Rattle.c65_genstmt.specs.Programs.{program_of}
use Rattle.c65_asm.specs.Renumbered.{IsOfTypes}
use Rattle.c65_asm_law.specs.Items.{HasNames}

-- Its first values, the sizes of its objects and the number of its items are as they are asked for.
abbrev pub PlainProgramsAreWritable : Type 0
PlainProgramsAreWritable = (parts : Parts) (main : ℕ) (names : List (List ℕ)) (modes : Modes) (code : Code) → IsProgram (unit_of parts) main → IsPlain names (unit_of parts) main → HasNames names parts
    → program_of parts main names modes ≡ Ok code → IsWritable code × IsOfTypes code
