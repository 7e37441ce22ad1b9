-- An image's file consists of bytes.
use Rattle.std.specs.Prelude.{◌≡◌, ℕ, ◌<◌, All, Some, Ok, slice_get}
use Rattle.c65_base.specs.declared.options.Cpu.{Cpu}
use Rattle.c65_mach.specs.declared.image.Image.{Image}
use Rattle.c65_code.specs.declared.code.Code.{Code}
use Rattle.c65_code.specs.declared.code.Datum.{Datum}
use Rattle.c65_code.specs.declared.code.DataCell.TheVariants.{Byte}
use Rattle.c65_asm.specs.Renumbered.{IsOfTypes, renumbered}
use Rattle.c65_link.specs.Linked.{linked_for}
use Rattle.c65_link_law_laid.specs.Laws.{AreLineNumbers}

-- the numbers in the cells of data are of bytes
abbrev pub AreCellNumbers : Code → Type 0
AreCellNumbers code = (k j v : ℕ) (datum : Datum) → slice_get code.datums k ≡ Some datum → slice_get datum.cells j ≡ Some (Byte v) → v < 256

-- Where a code's numbers are of bytes, its file's are.
abbrev pub FilesAreBytes : Type 0
FilesAreBytes = (cpu : Cpu) (code : Code) (image : Image) → AreLineNumbers code → AreCellNumbers code → linked_for cpu code ≡ Ok image → All (λ v. v < 256) image.payload

-- The numbers of a code that was read are of bytes.
abbrev pub ReadCodesHaveBytes : Type 0
ReadCodesHaveBytes = (code : Code) → IsOfTypes code → AreLineNumbers (renumbered code) × AreCellNumbers (renumbered code)
