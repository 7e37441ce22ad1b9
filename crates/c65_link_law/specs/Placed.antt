-- Where the functions of a linked code stand in memory.
use Rattle.std.specs.Prelude.{◌≡◌, ℕ, ◌+◌, ◌<◌, ◌%◌, IsTrue, List, [], ◌∷◌, ◌++◌, map, length, take, slice_get, slice_index, Some, Ok}
use Rattle.c65_mach.specs.declared.image.Image.{Image}
use Rattle.c65_code.specs.declared.line.Sym.{Sym}
use Rattle.c65_code.specs.declared.code.Code.{Code}
use Rattle.c65_code.specs.Placement.{program_start}
use Rattle.c65_code.specs.declared.code.Datum.{Datum}
use Rattle.c65_code.specs.Segments.{Segment, IsSegment, is_distinct}
use Rattle.c65_code.specs.declared.routine.Routine.{Routine}
use Rattle.c65_code.specs.Numbering.{number_of}
use Rattle.c65_link.specs.Runtime.{routine_lines}
use Rattle.c65_link.specs.Bodies.{body_of, plus}
use Rattle.c65_link.specs.Symbols.{targets_of}
use Rattle.c65_link.specs.Layouts.{Layout, layout_of}
use Rattle.c65_link.specs.Linked.{entry_of, parts_of, main_address, linked}
use Rattle.c65_link_law.specs.Coded.{Memory, Stands, AreCoded, spot_for}

-- the address behind functions that stand one behind another
abbrev pub behind : ℕ → List (Sym × Segment) → ℕ
behind at [] = at
behind at (f ∷ functions) = behind (plus at (body_of f.1.lines).size) functions

-- functions stand behind the start, in the order of the code
abbrev pub first_address : Code → ℕ
first_address code = plus program_start (body_of (routine_lines (entry_of code))).size

abbrev pub address_of : Code → ℕ → ℕ
address_of code k = behind (first_address code) (take k code.functions)

abbrev pub layout_in : Code → Layout
layout_in code = layout_of code (targets_of code) (entry_of code) (parts_of code (targets_of code))

-- Where an image's file stands in memory, each function's lines stand as machine code at the function's address.
abbrev pub FunctionsStand : Type 0
FunctionsStand = (code : Code) (image : Image) (m : Memory) (k : ℕ) (f : Sym × Segment) → linked code ≡ Ok image → Stands m program_start image.payload → slice_get code.functions k ≡ Some f → IsSegment f.1.lines → AreCoded m (spot_for f.1.lines (address_of code k) (layout_in code).symbols (layout_in code).routines) (address_of code k) f.1.lines (address_of code k + (body_of f.1.lines).size)

-- the symbols of functions and of data
abbrev pub function_number : Sym × Segment → ℕ
function_number f = f.0.0

abbrev pub datum_number : Datum → ℕ
datum_number datum = datum.sym.0

abbrev pub numbers_of : Code → List ℕ
numbers_of code = map function_number code.functions ++ map datum_number code.datums

-- Where no symbol is defined twice, a function's symbol has the function's address.
abbrev pub SymbolsLead : Type 0
SymbolsLead = (code : Code) (k : ℕ) (f : Sym × Segment) → slice_get code.functions k ≡ Some f → f.0.0 < length code.symbols → IsTrue (is_distinct (numbers_of code)) → slice_index (layout_in code).symbols f.0.0 ≡ address_of code k % 65536

-- the routines that are used, and the address behind routines that stand one behind another
abbrev pub routines_in : Code → List Routine
routines_in code = parts_of code (targets_of code)

abbrev pub behind_routines : ℕ → List Routine → ℕ
behind_routines at [] = at
behind_routines at (r ∷ rs) = behind_routines (plus at (body_of (routine_lines r)).size) rs

-- routines stand behind the functions
abbrev pub routine_address : Code → ℕ → ℕ
routine_address code k = behind_routines (behind (first_address code) code.functions) (take k (routines_in code))

-- where routines are called, their addresses are these; in their lines symbol 0 is main
abbrev pub AreRoutineLines : Code → Memory → Routine → ℕ → Type 0
AreRoutineLines code m r at = AreCoded m (spot_for (routine_lines r) at (main_address code (layout_in code) ∷ []) (layout_in code).routines) at (routine_lines r) (at + (body_of (routine_lines r)).size)

-- Where an image's file stands in memory, the lines of each routine that is used stand as machine code at the address
-- that calls of it have.
abbrev pub RoutinesStand : Type 0
RoutinesStand = (code : Code) (image : Image) (m : Memory) (k : ℕ) (r : Routine) → linked code ≡ Ok image → Stands m program_start image.payload → slice_get (routines_in code) k ≡ Some r → IsSegment (routine_lines r) → (slice_index (layout_in code).routines (number_of r) ≡ routine_address code k) × AreRoutineLines code m r (routine_address code k)
