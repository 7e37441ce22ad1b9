-- How large the images are that the tool makes, against the programs of their files.
use Rattle.std.specs.Prelude.{◌≡◌, ℕ, ◌≤◌, List, length, Some, None, Result, Ok, Err, ⊤}
use Rattle.c65_base.specs.declared.refusal.Refusal.{Refusal}
use Rattle.c65_base.specs.declared.refusal.Refusal.TheVariants.{TooLarge}
use Rattle.c65_base.specs.declared.refusal.Size.TheVariants as sizes
use Rattle.c65_mach.specs.declared.image.Image.{Image}
use Rattle.c65_code.specs.declared.code.Code.{Code}
use Rattle.c65_csem.specs.declared.items.Parts.{Parts}
use Rattle.c65_csem.specs.Views.{unit_of}
use Rattle.c65_gen_law_size.specs.Bulk.{bulk_of}
use Rattle.c65_ppdir.specs.Units.{Held}
use Rattle.c65_driver_chain.specs.Front.{command, programs}
use Rattle.c65_driver_words.specs.Commands.{Spelled}
use Rattle.c65_driver_words.specs.Words.{Is}
use Rattle.c65_driver_words.specs.declared.command.CommandKind.{CommandKind}
use Rattle.c65_driver_words.specs.declared.command.CommandKind.TheVariants as kinds
use Rattle.c65_commands.specs.Outside.{Outside}
use Rattle.c65_commands.specs.Tool.{Performs}

-- so many bytes are within the bulk of the program that told files are
pub record IsWithinBulk (held : Held) (c : Spelled) (bytes : ℕ) : Type 0 where
  pub parts : Parts
  pub main : ℕ
  pub names : List (List ℕ)
  pub front : programs (command held c.options c.defines c.folders) c.files (Ok ((unit_of parts, main), names))
  pub within : bytes ≤ bulk_of parts

-- the commands that make an image of files
abbrev pub TakesFiles : CommandKind → Type 0
TakesFiles kinds.Go = ⊤
TakesFiles kinds.Build = ⊤
TakesFiles kinds.Text = ⊤
TakesFiles _ = ⊥

-- Where a code was made of told files and no image, since that would be too large, the size that is told is within their program's bulk:
-- a program whose bulk is at most 62,960 bytes is never refused so, rewritten or not.
abbrev pub RefusedImagesAreWithinTheirBulk : Type 0
RefusedImagesAreWithinTheirBulk = (c : Spelled) (old new : Outside) (code : Code) (size : ℕ) (held : Held)
    → TakesFiles c.kind → old.files.contents ≡ Some held → Performs (Is c) old new (Some code) None (Err (TooLarge sizes.Image size)) → IsWithinBulk held c size

-- So are the bytes of each image's file that was made.
abbrev pub MadeImagesAreWithinTheirBulk : Type 0
MadeImagesAreWithinTheirBulk = (c : Spelled) (old new : Outside) (code : Code) (image : Image) (answer : Result ℕ Refusal) (held : Held)
    → TakesFiles c.kind → old.files.contents ≡ Some held → Performs (Is c) old new (Some code) (Some image) answer → IsWithinBulk held c (length image.payload)
