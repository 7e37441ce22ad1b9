-- Programs whose assembly text can be written and reads back (docs/TEXT.md).
use Rattle.std.specs.Prelude.{◌≡◌, ℕ, ◌+◌, ◌^◌, ◌≤◌, List, length, Ok}
use Rattle.c65_csem.specs.declared.items.Parts.{Parts}
use Rattle.c65_csem.specs.Units.{IsUnit}
use Rattle.c65_csem.specs.Views.{unit_of}
use Rattle.c65_code.specs.declared.code.Code.{Code}
use Rattle.c65_code.specs.Writable.{IsWritable}
use Rattle.c65_genframe.specs.declared.modes.Modes.{Modes}
use Rattle.c65_genstmt.specs.Programs.{program_of}
use Rattle.c65_asm.specs.Renumbered.{IsOfTypes, renumbered}
use Rattle.c65_asm.specs.Read.{read_text}
use Rattle.c65_asm.specs.Text.{text_of}
use Rattle.c65_asm.specs.declared.reading.Answer.TheVariants as answers
use Rattle.c65_asm_law.specs.Items.{HasNames, HasData}

-- what a program is asked for beside being well typed: the numbers of its items are of 32 bits
pub record IsPrintable (names : List (List ℕ)) (parts : Parts) : Type 0 where
  pub unit : IsUnit (unit_of parts)
  pub spelled : HasNames names parts
  pub stored : HasData parts
  pub few : length parts.objects.items + length parts.literals.items + length parts.funcs.items ≤ 2 ^ 32

-- the code of such a program can be written
abbrev pub ProgramsAreWritable : Type 0
ProgramsAreWritable = (parts : Parts) (main : ℕ) (names : List (List ℕ)) (modes : Modes) (code : Code) → IsPrintable names parts → program_of parts main names modes ≡ Ok code → IsWritable code × IsOfTypes code

-- and what is printed of it is read back, as the same code with its symbols numbered anew
abbrev pub ProgramsReadBack : Type 0
ProgramsReadBack = (parts : Parts) (main : ℕ) (names : List (List ℕ)) (modes : Modes) (code : Code) → IsPrintable names parts → program_of parts main names modes ≡ Ok code → read_text (text_of code) ≡ answers.Code (renumbered code)
