-- What the linker's layout keeps.
use Rattle.std.specs.Prelude.{◌≡◌, ℕ, ◌+◌, ◌<◌, ◌≤◌, IsTrue, Some, Ok, slice_get, length}
use Rattle.c65_base.specs.declared.options.Cpu.{Cpu}
use Rattle.c65_mach.specs.declared.image.Image.{Image}
use Rattle.c65_mach.specs.State.{read, loaded_memory}
use Rattle.c65_code.specs.declared.routine.Routine.{Routine}
use Rattle.c65_code.specs.declared.routine.Routine.TheVariants as routines
use Rattle.c65_code.specs.declared.line.Sym.{Sym}
use Rattle.c65_code.specs.declared.line.Line.{Line}
use Rattle.c65_code.specs.declared.line.Line.TheVariants.{Call}
use Rattle.c65_code.specs.declared.line.Callee.TheVariants as callees
use Rattle.c65_code.specs.declared.code.Code.{Code}
use Rattle.c65_code.specs.declared.code.Datum.{Datum}
use Rattle.c65_code.specs.Segments.{Segment, IsSegment}
use Rattle.c65_code.specs.Numbering.{number_of}
use Rattle.c65_code.specs.Placement.{IsPlacement, IsDatumOf, initial_byte, cells_size, size_of_datum, program_start}
use Rattle.c65_link.specs.Bodies.{body_of}
use Rattle.c65_link.specs.Runtime.{has_lines, routine_lines}
use Rattle.c65_link.specs.Linked.{entry_of, linked_for}
use Rattle.c65_link_law.specs.Coded.{Memory, Stands, AreCoded}
use Rattle.c65_link_law.specs.Placed.{routines_in}
use Rattle.c65_link_law_spots.specs.Places.{place_in, address_in, code_end, routine_count, lines_in, base_in, spot_in}
use Rattle.c65_link_law_spots.specs.Sound.{IsSound}

-- the routine stands in the image
pub record IsChosen (code : Code) (r : Routine) : Type 0 where
  pub place : ℕ
  pub there : slice_get (routines_in code) place ≡ Some r

-- the routine that a line calls: that behind a call through ptr4 is CallPtr4
abbrev pub CallsRoutine : Line → Routine → Type 0
CallsRoutine (Call (callees.Routine r)) q = r ≡ q
CallsRoutine (Call (callees.Pointer reads gives)) q = routines.CallPtr4 ≡ q
CallsRoutine _ q = ⊥

-- A routine that the start, a function or a routine that stands in the image calls stands in the image too, where it has lines.
pub record AreUsesChosen (code : Code) : Type 0 where
  pub entry : (j : ℕ) (line : Line) (r : Routine) → slice_get (routine_lines (entry_of code)) j ≡ Some line → CallsRoutine line r → IsTrue (has_lines r) → IsChosen code r
  pub function : (k j : ℕ) (f : Sym × Segment) (line : Line) (r : Routine) → slice_get code.functions k ≡ Some f → slice_get f.1.lines j ≡ Some line → CallsRoutine line r → IsTrue (has_lines r) → IsChosen code r
  pub routine : (k j : ℕ) (q : Routine) (line : Line) (r : Routine) → slice_get (routines_in code) k ≡ Some q → slice_get (routine_lines q) j ≡ Some line → CallsRoutine line r → IsTrue (has_lines r) → IsChosen code r

abbrev pub UsesAreChosen : Type 0
UsesAreChosen = (code : Code) → AreUsesChosen code

-- The addresses that the linker gives are a placement of the code, whichever processor the image is for.
abbrev pub PlacesArePlacements : Type 0
PlacesArePlacements = (code : Code) (cpu : Cpu) (image : Image) → IsSound code → linked_for cpu code ≡ Ok image → IsPlacement code (place_in code)

-- a unit whose lines stand in the image: a function of the code, a routine that is chosen, or the start
pub data IsUnit (code : Code) (f : ℕ) : Type 0 where
  function : (k : ℕ) (g : Sym × Segment) → slice_get code.functions k ≡ Some g → g.0.0 ≡ f → IsUnit code f
  routine : (r : Routine) → IsChosen code r → f ≡ length code.symbols + number_of r → IsUnit code f
  start : f ≡ length code.symbols + routine_count → IsUnit code f

-- where the unit ends
abbrev pub end_in : Code → ℕ → ℕ
end_in code f = base_in code f + (body_of (lines_in code f)).size

-- between the first address of the program and the data
pub record IsUnitPlaced (code : Code) (m : Memory) (f : ℕ) : Type 0 where
  pub coded : AreCoded m (spot_in code f) (base_in code f) (lines_in code f) (end_in code f)
  pub segment : IsSegment (lines_in code f)
  pub from : program_start ≤ base_in code f
  pub to : end_in code f ≤ code_end code

-- Where an image's file stands in memory, the lines of each unit stand there as machine code.
abbrev pub UnitsStand : Type 0
UnitsStand = (code : Code) (cpu : Cpu) (image : Image) (m : Memory) → IsSound code → linked_for cpu code ≡ Ok image → Stands m program_start image.payload → (f : ℕ) → IsUnit code f → IsUnitPlaced code m f

-- what memory has of the data when a run begins
pub record AreDataLoaded (code : Code) (image : Image) : Type 0 where
  pub stored : (i k v : ℕ) (datum : Datum) → IsDatumOf code i datum → initial_byte (place_in code) datum k ≡ Some v → read (loaded_memory image) (address_in code datum.sym.0 + k) ≡ v
  pub zeros : (i k : ℕ) (datum : Datum) → IsDatumOf code i datum → cells_size datum.cells ≤ k → k < size_of_datum datum → read (loaded_memory image) (address_in code datum.sym.0 + k) ≡ 0
  pub file : Stands (read (loaded_memory image)) program_start image.payload

-- The data stand at their symbols' addresses, those of zeros too, which are behind the file.
abbrev pub DataAreLoaded : Type 0
DataAreLoaded = (code : Code) (cpu : Cpu) (image : Image) → IsSound code → linked_for cpu code ≡ Ok image → AreDataLoaded code image
