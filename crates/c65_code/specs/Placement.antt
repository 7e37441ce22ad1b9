-- Where the symbols of a code stand, and what a code is as functions of symbols.
use Rattle.std.specs.Prelude.{◌≡◌, ℕ, ◌+◌, ◌%◌, ◌/◌, ◌<◌, ◌≤◌, ◌==◌, Bool, true, false, IsTrue, if◌then◌else◌, List, [], ◌∷◌, ◌++◌, Option, Some, None, slice_get, codes, bytes_eq, length, not, nat_lt, ◌&&◌, ◌||◌, is_some}
use Rattle.c65_code.specs.declared.parts.RegSet.{RegSet}
use Rattle.c65_code.specs.declared.line.Sym.{Sym}
use Rattle.c65_code.specs.declared.line.Operand.{Operand}
use Rattle.c65_code.specs.declared.line.Operand.TheVariants as operands
use Rattle.c65_code.specs.declared.line.Line.{Line}
use Rattle.c65_base.specs.declared.library.Library.{Library}
use Rattle.c65_code.specs.declared.code.Code.{Code}
use Rattle.c65_code.specs.declared.code.Symbol.{Symbol}
use Rattle.c65_code.specs.declared.code.Datum.{Datum}
use Rattle.c65_code.specs.declared.code.DatumKind.TheVariants.{Const}
use Rattle.c65_code.specs.declared.code.DataCell.{DataCell}
use Rattle.c65_code.specs.declared.code.DataCell.TheVariants.{Byte, Address}
use Rattle.c65_code.specs.Parts.{no_parts}
use Rattle.c65_base.specs.Library.{library_name, library_functions}
use Rattle.c65_code.specs.Segments.{Segment}

-- program space begins at $0200, and the software stack at $F7F0
abbrev pub program_start : ℕ
program_start = 512

abbrev pub stack_start : ℕ
stack_start = 63472

abbrev pub stack_end : ℕ
stack_end = 65520

-- the address of each symbol, which addresses belong to data, and the bytes of literals and const objects
pub record Placement : Type 0 where
  pub address : ℕ → ℕ
  pub is_data : ℕ → Bool
  pub constant : ℕ → Option ℕ

-- the address so far behind a symbol
abbrev pub located : Placement → Sym → ℕ → ℕ
located place sym offset = (place.address sym.0 + offset) % 65536

-- the number that an operand stands for
abbrev pub word_of : Placement → Operand → ℕ
word_of place operands.Nothing = 0
word_of place (operands.Byte v) = v
word_of place (operands.Low sym offset) = located place sym offset % 256
word_of place (operands.High sym offset) = located place sym offset / 256
word_of place (operands.Zero i) = i
word_of place (operands.At sym offset) = located place sym offset
word_of place (operands.To l) = l

-- what the machine on lines is set to: the lines of each function and what it gives, which symbols are functions, the
-- library functions among those without a body, and the placement
pub record Setting : Type 0 where
  pub lines : ℕ → List Line
  pub gives : ℕ → RegSet
  pub is_function : ℕ → Bool
  pub library : ℕ → Option Library
  pub place : Placement

abbrev pub segment_of : List (Sym × Segment) → ℕ → Segment
segment_of [] f = record { lines = []; out = no_parts }
segment_of (g ∷ functions) f = if g.0.0 == f then g.1 else segment_of functions f

abbrev pub is_nothing : List Line → Bool
is_nothing [] = true
is_nothing (line ∷ lines) = false

-- the library function of an external name: an underscore and its name
abbrev pub library_named : List Library → List ℕ → Option Library
library_named [] spelling = None
library_named (f ∷ fs) spelling = if bytes_eq (codes "_" ++ library_name f) spelling then Some f else library_named fs spelling

abbrev pub library_of : Option Symbol → Option Library
library_of None = None
library_of (Some symbol) = library_named library_functions symbol.spelling

abbrev pub has_datum : List Datum → ℕ → Bool
has_datum [] f = false
has_datum (datum ∷ datums) f = if datum.sym.0 == f then true else has_datum datums f

abbrev pub has_segment : List (Sym × Segment) → ℕ → Bool
has_segment [] f = false
has_segment (g ∷ functions) f = if g.0.0 == f then true else has_segment functions f

-- lines of its own, or the name of a function of the library
abbrev pub has_body : Code → ℕ → Bool
has_body code f = has_segment code.functions f || is_some (library_of (slice_get code.symbols f))

-- A symbol with a body and without a datum is that of a function. One with neither, as of an object in a frame, is nothing here
-- and needs no address.
abbrev pub is_function_of : Code → ℕ → Bool
is_function_of code f = (nat_lt f (length code.symbols) && not (has_datum code.datums f)) && has_body code f

-- the code at a placement
abbrev pub setting_of : Code → Placement → Setting
setting_of code place = record {
  lines = λ f. (segment_of code.functions f).lines;
  gives = λ f. (segment_of code.functions f).out;
  is_function = is_function_of code;
  library = λ f. if is_function_of code f && is_nothing (segment_of code.functions f).lines then library_of (slice_get code.symbols f) else None;
  place = place;
}

-- the bytes of data at a placement
abbrev pub cell_bytes : Placement → DataCell → List ℕ
cell_bytes place (Byte v) = v ∷ []
cell_bytes place (Address sym offset) = (located place sym offset % 256) ∷ (located place sym offset / 256) ∷ []

abbrev pub bytes_of_cells : Placement → List DataCell → List ℕ
bytes_of_cells place [] = []
bytes_of_cells place (cell ∷ cells) = cell_bytes place cell ++ bytes_of_cells place cells

abbrev pub cell_size : DataCell → ℕ
cell_size (Byte v) = 1
cell_size (Address sym offset) = 2

abbrev pub cells_size : List DataCell → ℕ
cells_size [] = 0
cells_size (cell ∷ cells) = cell_size cell + cells_size cells

abbrev pub size_of_datum : Datum → ℕ
size_of_datum datum = cells_size datum.cells + datum.zeros

-- the address lies in the datum
pub record IsIn (place : Placement) (datum : Datum) (b : ℕ) : Type 0 where
  pub from : place.address datum.sym.0 ≤ b
  pub to : b < place.address datum.sym.0 + size_of_datum datum

-- the datum's bytes stand at this address
abbrev pub initial_byte : Placement → Datum → ℕ → Option ℕ
initial_byte place datum offset = slice_get (bytes_of_cells place datum.cells) offset

abbrev pub IsDatumOf : Code → ℕ → Datum → Type 0
IsDatumOf code i datum = slice_get code.datums i ≡ Some datum

abbrev pub IsFunction : Code → ℕ → Type 0
IsFunction code f = IsTrue (is_function_of code f)

-- each data symbol has its own range of program space, and each symbol of a function an address of its own there outside these
pub record IsPlacement (code : Code) (place : Placement) : Type 0 where
  pub low : (i : ℕ) (datum : Datum) → IsDatumOf code i datum → program_start ≤ place.address datum.sym.0
  pub high : (i : ℕ) (datum : Datum) → IsDatumOf code i datum → place.address datum.sym.0 + size_of_datum datum ≤ stack_start
  pub apart : (i j b : ℕ) (d e : Datum) → IsDatumOf code i d → IsDatumOf code j e → IsIn place d b → IsIn place e b → i ≡ j
  pub data_in : (i b : ℕ) (datum : Datum) → IsDatumOf code i datum → IsIn place datum b → IsTrue (place.is_data b)
  pub data_of : (b : ℕ) → IsTrue (place.is_data b) → (i : ℕ) × (datum : Datum) × IsDatumOf code i datum × IsIn place datum b
  pub function_low : (f : ℕ) → IsFunction code f → program_start ≤ place.address f
  pub function_high : (f : ℕ) → IsFunction code f → place.address f < stack_start
  pub function_outside : (f : ℕ) → IsFunction code f → place.is_data (place.address f) ≡ false
  pub function_own : (f g : ℕ) → IsFunction code f → IsFunction code g → place.address f ≡ place.address g → f ≡ g
  pub constant_in : (i k v : ℕ) (datum : Datum) → IsDatumOf code i datum → datum.kind ≡ Const → initial_byte place datum k ≡ Some v → place.constant (place.address datum.sym.0 + k) ≡ Some v
  pub constant_of : (b v : ℕ) → place.constant b ≡ Some v → (i : ℕ) × (k : ℕ) × (datum : Datum) × IsDatumOf code i datum × (datum.kind ≡ Const) × (b ≡ place.address datum.sym.0 + k) × (initial_byte place datum k ≡ Some v)
