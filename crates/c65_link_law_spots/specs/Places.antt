-- Where the linker puts the symbols of a code.
use Rattle.std.specs.Prelude.{ℕ, ◌+◌, ◌-◌, ◌==◌, ◌&&◌, Bool, true, false, if◌then◌else◌, nat_lt, nat_le, List, [], ◌∷◌, length, Option, Some, None, slice_get, slice_index}
use Rattle.std.specs.List.{list_any}
use Rattle.c65_code.specs.declared.routine.Routine.{Routine}
use Rattle.c65_code.specs.declared.routine.TheConstants.Routine.{ALL}
use Rattle.c65_code.specs.declared.line.Line.{Line}
use Rattle.c65_code.specs.declared.code.Code.{Code}
use Rattle.c65_code.specs.declared.code.Datum.{Datum}
use Rattle.c65_code.specs.declared.code.DatumKind.{DatumKind}
use Rattle.c65_code.specs.declared.code.DatumKind.TheVariants.{Const}
use Rattle.c65_code.specs.Placement.{Placement, program_start, segment_of, size_of_datum, initial_byte}
use Rattle.c65_link.specs.Runtime.{routine_lines}
use Rattle.c65_link.specs.Bytes.{Spot}
use Rattle.c65_link.specs.Linked.{entry_of, main_address}
use Rattle.c65_link_law.specs.Coded.{spot_for}
use Rattle.c65_link_law.specs.Placed.{layout_in, first_address, behind, behind_routines, routines_in}

-- a symbol's address
abbrev pub address_in : Code → ℕ → ℕ
address_in code i = slice_index (layout_in code).symbols i

-- the address behind the last routine: data follow
abbrev pub code_end : Code → ℕ
code_end code = behind_routines (behind (first_address code) code.functions) (routines_in code)

abbrev pub is_in : (ℕ → ℕ) → ℕ → Datum → Bool
is_in address b datum = nat_le (address datum.sym.0) b && nat_lt b (address datum.sym.0 + size_of_datum datum)

abbrev pub is_const : DatumKind → Bool
is_const Const = true
is_const _ = false

-- the byte of the const object that lies at an address
abbrev pub constant_at : Placement → List Datum → ℕ → Option ℕ
constant_at place [] b = None
constant_at place (datum ∷ datums) b =
    if is_const datum.kind && is_in place.address b datum then initial_byte place datum (b - place.address datum.sym.0) else constant_at place datums b

abbrev pub addresses_in : Code → Placement
addresses_in code = record { address = address_in code; is_data = λ b. list_any (is_in (address_in code) b) code.datums; constant = λ b. None }

-- the placement of a linked code
abbrev pub place_in : Code → Placement
place_in code = record (addresses_in code) { constant = constant_at (addresses_in code) code.datums }

-- Units of lines: functions have the numbers of their symbols, routines their own numbers behind all symbols, and the start,
-- which stands once by itself, the number behind all routines.

abbrev pub routine_count : ℕ
routine_count = 123

abbrev pub lines_by : Option Routine → List Line
lines_by None = []
lines_by (Some r) = routine_lines r

abbrev pub runtime_lines : Code → ℕ → List Line
runtime_lines code n = if n == routine_count then routine_lines (entry_of code) else lines_by (slice_get ALL n)

abbrev pub lines_in : Code → ℕ → List Line
lines_in code f = if nat_lt f (length code.symbols) then (segment_of code.functions f).lines else runtime_lines code (f - length code.symbols)

abbrev pub runtime_base : Code → ℕ → ℕ
runtime_base code n = if n == routine_count then program_start else slice_index (layout_in code).routines n

-- where a unit begins
abbrev pub base_in : Code → ℕ → ℕ
base_in code f = if nat_lt f (length code.symbols) then address_in code f else runtime_base code (f - length code.symbols)

-- what symbols mean in a unit's lines: in those of the runtime symbol 0 is main
abbrev pub symbols_in : Code → ℕ → List ℕ
symbols_in code f = if nat_lt f (length code.symbols) then (layout_in code).symbols else main_address code (layout_in code) ∷ []

abbrev pub spot_in : Code → ℕ → Spot
spot_in code f = spot_for (lines_in code f) (base_in code f) (symbols_in code f) (layout_in code).routines
