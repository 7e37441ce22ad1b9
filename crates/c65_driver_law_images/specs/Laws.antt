-- The codes that the tool makes, and their images.
use Rattle.std.specs.Prelude.{◌≡◌, ℕ, ◌≤◌, Bool, All, List, Option, Some, Result}
use Rattle.c65_base.specs.declared.options.Cpu.{Cpu}
use Rattle.c65_base.specs.declared.refusal.Refusal.{Refusal}
use Rattle.c65_mach.specs.declared.image.Image.{Image}
use Rattle.c65_code.specs.declared.code.Code.{Code}
use Rattle.c65_code.specs.LineState.{State}
use Rattle.c65_code.specs.Placement.{setting_of}
use Rattle.c65_code.specs.Processors.{RunsOn}
use Rattle.c65_code.specs.Starts.{IsMain, IsStart}
use Rattle.c65_code.specs.Comes.{Seen, Shown, ComesFrom}
use Rattle.c65_asm.specs.Renumbered.{renumbered}
use Rattle.c65_sim.specs.View.{arguments_size}
use Rattle.c65_link_law_spots.specs.Places.{place_in}
use Rattle.c65_link_law_spots.specs.Sound.{IsSound}
use Rattle.c65_link_law_laid.specs.Laws.{AreLineNumbers}
use Rattle.c65_link_law_bytes.specs.Laws.{AreCellNumbers}
use Rattle.c65_link_law_reach.specs.Reach.{code_ground, HasArrived}
use Rattle.c65_link_law_images.specs.Reaches.{Reaches}
use Rattle.c65_link_law_images.specs.Laws.{AreBytes, IsRun}
use Rattle.c65_driver_words.specs.Commands.{Spelled}
use Rattle.c65_driver_words.specs.Words.{Is}
use Rattle.c65_commands.specs.Compiled.{IsPrintedAs}
use Rattle.c65_commands.specs.Outside.{Outside}
use Rattle.c65_commands.specs.Tool.{Performs}

-- What the laws of images ask of a code: the processor has its rows; it can be written, its functions are segments, and each of its
-- symbols has lines or a datum or is named; its numbers are of bytes.
pub record IsLinkable (cpu : Cpu) (code : Code) : Type 0 where
  pub runs : RunsOn cpu code
  pub sound : IsSound code
  pub lines : AreLineNumbers code
  pub cells : AreCellNumbers code

abbrev pub PrintedCodesAreSound : Type 0
PrintedCodesAreSound = (cpu : Cpu) (written code : Code) → IsPrintedAs cpu written code → IsLinkable cpu code

-- It is the code that was written, with its symbols numbered in the order of the text.
abbrev pub PrintedCodesReadBack : Type 0
PrintedCodesReadBack = (cpu : Cpu) (written code : Code) → IsPrintedAs cpu written code → code ≡ renumbered written

-- By whatever command, from whatever files, and rewritten or not.
abbrev pub MadeCodesAreSound : Type 0
MadeCodesAreSound = (command : Spelled) (old new : Outside) (code : Code) (image : Option Image) (answer : Result ℕ Refusal)
    → Performs (Is command) old new (Some code) image answer → IsLinkable command.options.cpu code

-- From the first row on the image comes to what the lines come to from every state in which main may be called with these arguments
-- and this input, as c65_link_law_images has it of a linked code.
abbrev pub MadeImagesFollow : Type 0
MadeImagesFollow = (command : Spelled) (old new : Outside) (code : Code) (image : Image) (answer : Result ℕ Refusal)
    → Performs (Is command) old new (Some code) (Some image) answer → (main : ℕ) → IsMain code main
    → (args : List (List ℕ)) (input : List ℕ) (test : Shown → Seen → Bool) (w : ℕ) → All AreBytes args → AreBytes input → arguments_size args ≤ 1024
    → ((t : State) → IsStart code (place_in code) args input t → ComesFrom (setting_of code (place_in code)) main test w t)
    → Reaches (HasArrived (code_ground command.options.cpu code image) code (IsRun code main args input)) image args input test w
