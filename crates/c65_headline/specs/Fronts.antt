-- The program that told files are, and the code that is made of it.
use Rattle.std.specs.Prelude.{◌≡◌, ℕ, List, Ok, Err}
use Rattle.c65_base.specs.declared.refusal.Size.TheVariants as sizes
use Rattle.c65_base.specs.Answers.{large}
use Rattle.c65_ppdir.specs.Units.{Held}
use Rattle.c65_csem.specs.declared.items.Parts.{Parts}
use Rattle.c65_csem.specs.Views.{unit_of}
use Rattle.c65_meaning.specs.Program.{ProgramTy}
use Rattle.c65_code.specs.declared.code.Code.{Code}
use Rattle.c65_genframe.specs.declared.modes.Modes.{Modes}
use Rattle.c65_genframe.specs.Modes.{modes_of}
use Rattle.c65_genstmt.specs.Programs.{program_of}
use Rattle.c65_driver_chain.specs.Front.{Command, command, programs, IsGood}
use Rattle.c65_driver_words.specs.Commands.{Spelled}
use Rattle.c65_commands.specs.Compiled.{IsPrintedAs}
use Rattle.c65_headline.specs.Lines.{StandsForBy}

abbrev pub command_of : Held → Spelled → Command
command_of held c = command held c.options c.defines c.folders

-- the program is well formed: the front gives it
pub record IsFront (held : Held) (c : Spelled) (p : ProgramTy) : Type 0 where
  pub names : List (List ℕ)
  pub gives : programs (command_of held c) c.files (Ok ((p.unit, p.main), names))

-- the code that was made is what the text of the program's code reads as, rewritten where that is asked for: it could be written
pub record IsMadeOf (held : Held) (c : Spelled) (code : Code) : Type 0 where
  pub parts : Parts
  pub main : ℕ
  pub names : List (List ℕ)
  pub front : programs (command_of held c) c.files (Ok ((unit_of parts, main), names))
  pub good : IsGood names (unit_of parts) main
  pub generated : Code
  pub generates : program_of parts main names (modes_of c.options) ≡ Ok generated
  pub rewritten : Code
  pub rewrites : StandsForBy c.options generated rewritten
  pub printed : IsPrintedAs c.options.cpu rewritten code

-- the limit Frame: the generator refuses the program
pub record HasLargeFrame (p : ProgramTy) (modes : Modes) (value : ℕ) : Type 0 where
  pub parts : Parts
  pub names : List (List ℕ)
  pub same : unit_of parts ≡ p.unit
  pub refused : program_of parts p.main names modes ≡ Err (large sizes.Frame value)
