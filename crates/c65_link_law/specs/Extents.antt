-- How many bytes the parts of an image take at most.
use Rattle.std.specs.Prelude.{◌≡◌, ℕ, ◌+◌, ◌≤◌, List, [], ◌∷◌, Ok, length}
use Rattle.c65_mach.specs.declared.image.Image.{Image}
use Rattle.c65_code.specs.declared.line.Sym.{Sym}
use Rattle.c65_code.specs.declared.line.Line.{Line}
use Rattle.c65_code.specs.declared.code.Code.{Code}
use Rattle.c65_code.specs.declared.code.Datum.{Datum}
use Rattle.c65_code.specs.Placement.{cells_size}
use Rattle.c65_code.specs.Segments.{Segment}
use Rattle.c65_code.specs.Weights.{functions_size, extent_of}
use Rattle.c65_link.specs.Bodies.{body_of}
use Rattle.c65_link.specs.Bytes.{Written, Tables, with_functions}
use Rattle.c65_link.specs.Linked.{linked}
use Rattle.c65_link_law.specs.Coded.{spot_for, bytes_at}

-- Functions take no more bytes than their lines with every branch a long one.
abbrev pub CodeIsWithinItsExtent : Type 0
CodeIsWithinItsExtent = (tables : Tables) (written : Written) (functions : List (Sym × Segment)) → length (with_functions tables written functions).bytes ≤ length written.bytes + functions_size functions

-- Lines are as many bytes as the size says by which the addresses behind them are placed.
abbrev pub SizesAreLengths : Type 0
SizesAreLengths = (lines : List Line) (base : ℕ) (symbols routines : List ℕ) → (body_of lines).size ≤ 65535 → length (bytes_at (spot_for lines base symbols routines) lines) ≡ (body_of lines).size

abbrev pub data_size : List Datum → ℕ
data_size [] = 0
data_size (datum ∷ datums) = cells_size datum.cells + data_size datums

-- The start and all routines together.
abbrev pub runtime_most : ℕ
runtime_most = 8192

-- An image's file is the code within its extent, the data, and at most 8,192 bytes of the runtime.
abbrev pub ImagesAreBounded : Type 0
ImagesAreBounded = (code : Code) (image : Image) → linked code ≡ Ok image → length image.payload ≤ extent_of code + data_size code.datums + runtime_most
