-- What the layers between the front and the simulator owe to the main theorem, each in words and as a type.
use Rattle.std.specs.Prelude.{◌≡◌, ℕ, ◌*◌, ◌^◌, ◌<◌, ◌≤◌, true, List, All, Some, Ok, Err}
use Rattle.c65_base.specs.Answers.{Fault, large}
use Rattle.c65_base.specs.declared.refusal.Size.TheVariants as sizes
use Rattle.c65_mach.specs.Run.{Setting, Progress, cycles_after}
use Rattle.c65_code.specs.declared.code.Code.{Code}
use Rattle.c65_csem.specs.declared.items.Parts.{Parts}
use Rattle.c65_csem.specs.Views.{unit_of}
use Rattle.c65_genframe.specs.declared.modes.Modes.{Modes}
use Rattle.c65_genframe.specs.Symbols.{numbers_of, function_symbol}
use Rattle.c65_genstmt.specs.Programs.{program_of}
use Rattle.c65_driver_chain.specs.Front.{IsGood}
use Rattle.c65_driver_words.specs.Commands.{Spelled}
use Rattle.c65_driver_words.specs.Words.{spelling_of, Is}
use Rattle.c65_commands.specs.Setups.{setup_of}
use Rattle.c65_headline.specs.Images.{AreBytes}
use Rattle.c65_headline.specs.Lines.{LineAgrees}

-- ---- words

-- the arguments of a command are bytes, and `-x` names less than 2 ^ 32 cycles
pub record IsSpelled (command : Spelled) : Type 0 where
  pub args : All AreBytes (setup_of true command).args
  pub cycles : (n : ℕ) → command.cycles ≡ Some n → n < 2 ^ 32

abbrev pub WordsAreSpelled : Type 0
WordsAreSpelled = (words : List (List ℕ)) (command : Spelled) → All AreBytes words → spelling_of words ≡ Is command → IsSpelled command

-- ---- from a program to its code

-- from the first line of its main function on, the lines of a good program's code show what its meaning shows
abbrev pub ProgramsAgree : Type 0
ProgramsAgree = (parts : Parts) (main : ℕ) (names : List (List ℕ)) (modes : Modes) (code : Code)
    → IsGood names (unit_of parts) main → program_of parts main names modes ≡ Ok code
    → LineAgrees (record { unit = unit_of parts; main = main }) code (function_symbol (numbers_of parts) main).0

-- the generator refuses for the limit Frame alone
abbrev pub OnlyFramesAreRefused : Type 0
OnlyFramesAreRefused = (parts : Parts) (main : ℕ) (names : List (List ℕ)) (modes : Modes) (fault : Fault) → program_of parts main names modes ≡ Err fault
    → (value : ℕ) × (fault ≡ large sizes.Frame value)

-- ---- from a code to what the optimiser makes of it

-- ---- from a code to its image

-- a row takes at most 7 cycles
abbrev pub RowsTakeSeven : Type 0
RowsTakeSeven = (setting : Setting) (rows : ℕ) (start : Progress) → cycles_after setting rows start ≤ 7 * rows
