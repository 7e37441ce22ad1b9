-- The store: blocks by number, without addresses (C90 3.2, 3.14, 6.1.2.4, 6.1.2.6, 6.5.2.1).
use Rattle.std.specs.Prelude.{ℕ, zero, suc, ◌+◌, ◌-◌, ◌*◌, ◌/◌, ◌%◌, ◌^◌, ◌==◌, ◌&&◌, Bool, true, false, ℤ, List, [], ◌∷◌, Result, Ok, Err, Option, Some, None, length, nat_lt, nat_le, bit_and, bit_or, if◌then◌else◌}
use Rattle.c65_ints.specs.declared.types.IntType.{IntType}
use Rattle.c65_ints.specs.Ranges.{width_of, is_signed_of, residue, placed}
use Rattle.c65_ctype.specs.Sizes.{bytes_of}
use Rattle.c65_meaning.specs.declared.action.Action.{Action}
use Rattle.c65_meaning.specs.declared.action.Action.TheVariants.{UnsetBit, OutsideObject, ReadOnly, EndedObject}
use Rattle.c65_meaning.specs.Why.{Why, By, Unfit, ◌>>=◌}
use Rattle.c65_meaning.specs.Integers.{byte_at}

-- A byte whose bits in `known` are set and whose other bits are not, one of the two pieces of a pointer, or a byte whose number
-- may not be used. Bits of `value` outside `known` are 0.
pub data Cell : Type 0 where
  Bits : (known value : ℕ) → Cell
  Piece : (i b o : ℕ) → Cell
  Clouded : Cell

abbrev pub unset : Cell
unset = Bits 0 0

abbrev pub byte : ℕ → Cell
byte v = Bits 255 v

-- `holds` counts its cells: all of its size, and none of a function. A `sealed` block is a literal or a const object.
pub record Block : Type 0 where
  pub size : ℕ
  pub holds : ℕ
  pub live : Bool
  pub sealed : Bool
  pub cells : ℕ → Cell

-- a number that has named a block never names another one
abbrev pub Store : Type 0
Store = ℕ → Option Block

-- Place is a byte offset in a block. Opaque is what an integer made from a pointer is worth. Cells are those of a structure or union that is
-- passed or returned. NoValue is the missing result of a function, and the value of a void expression.
pub data Value : Type 0 where
  Whole : (z : ℤ) → Value
  Null : Value
  Place : (b o : ℕ) → Value
  Opaque : Value
  Cells : (xs : List Cell) → Value
  NoValue : Value

-- how an object lies in its cells; a bit-field lies in a unit of two bytes
pub data Shape : Type 0 where
  Number : (t : IntType) → Shape
  Field : (t : IntType) (low width : ℕ) → Shape
  Pointer : (size : ℕ) → Shape
  Area : (size : ℕ) → Shape

abbrev pub size_in : Shape → ℕ
size_in (Number t) = bytes_of t
size_in (Field t low width) = 2
size_in (Pointer size) = 2
size_in (Area size) = size

abbrev pub set_block : Store → ℕ → Block → Store
set_block s b x c = if c == b then Some x else s c

-- the n cells from o on, anew
abbrev pub set_cells : (ℕ → Cell) → ℕ → ℕ → (ℕ → Cell) → ℕ → Cell
set_cells cells o n new p = if nat_lt p o then cells p else (if nat_lt (p - o) n then new (p - o) else cells p)

-- ---- reading

-- what cells come to: a bit of them is unset, a number may not be used, or a number
pub data Gathered : Type 0 where
  Lacking : Gathered
  Hidden : Gathered
  Found : (n : ℕ) → Gathered

abbrev pub hide : Gathered → Gathered
hide Lacking = Lacking
hide Hidden = Hidden
hide (Found n) = Hidden

abbrev pub below : ℕ → Gathered → Gathered
below v Lacking = Lacking
below v Hidden = Hidden
below v (Found n) = Found (v + 256 * n)

-- a whole byte, and higher cells above it
abbrev pub gather : Cell → Gathered → Gathered
gather (Bits known value) g = if known == 255 then below value g else Lacking
gather (Piece i b o) g = hide g
gather Clouded g = hide g

-- the number in n cells, low byte first
abbrev pub gathered : ℕ → (ℕ → Cell) → ℕ → Gathered
gathered zero cells o = Found 0
gathered (suc n) cells o = gather (cells o) (gathered n cells (suc o))

-- the bits of a cell in a mask, and higher cells above them
abbrev pub gather_part : ℕ → Cell → Gathered → Gathered
gather_part zero x g = below 0 g
gather_part (suc m) (Bits known value) g = if bit_and known (suc m) == suc m then below (bit_and value (suc m)) g else Lacking
gather_part (suc m) (Piece i b o) g = hide g
gather_part (suc m) Clouded g = hide g

-- the mask of a bit-field in its unit
abbrev pub mask_of : ℕ → ℕ → ℕ
mask_of low width = (2 ^ width - 1) * 2 ^ low

abbrev pub gathered_field : ℕ → (ℕ → Cell) → ℕ → Gathered
gathered_field mask cells o = gather_part (mask % 256) (cells o) (gather_part (mask / 256) (cells (suc o)) (Found 0))

abbrev pub moved_down : ℕ → Gathered → Gathered
moved_down low Lacking = Lacking
moved_down low Hidden = Hidden
moved_down low (Found n) = Found (n / 2 ^ low)

abbrev pub as_number : Bool → ℕ → Gathered → Result Value Why
as_number sign width Lacking = Err (By UnsetBit)
as_number sign width Hidden = Ok Opaque
as_number sign width (Found n) = Ok (Whole (placed sign (2 ^ width) n))

abbrev pub as_pointer : Gathered → Result Value Why
as_pointer Lacking = Err (By UnsetBit)
as_pointer Hidden = Ok Opaque
as_pointer (Found zero) = Ok Null
as_pointer (Found (suc n)) = Ok Opaque

-- two pieces of one place, low one first
abbrev pub are_of_one : ℕ → ℕ → ℕ → ℕ → ℕ → ℕ → Bool
are_of_one i b o j c p = i == 0 && (j == 1 && (b == c && o == p))

abbrev pub read_pair : Cell → Cell → Result Value Why
read_pair (Piece i b o) (Piece j c p) = if are_of_one i b o j c p then Ok (Place b o) else Ok Opaque
read_pair x y = as_pointer (gather x (gather y (Found 0)))

-- the value in cells
abbrev pub read_cells : Shape → (ℕ → Cell) → ℕ → Result Value Why
read_cells (Number t) cells o = as_number (is_signed_of t) (width_of t) (gathered (bytes_of t) cells o)
read_cells (Field t low width) cells o = as_number (is_signed_of t) width (moved_down low (gathered_field (mask_of low width) cells o))
read_cells (Pointer size) cells o = read_pair (cells o) (cells (suc o))
read_cells (Area size) cells o = Err Unfit

-- a block of which the n cells from o on may be read; the action if they do not lie in it
abbrev pub reached_or : Action → Option Block → ℕ → ℕ → Result Block Why
reached_or action None o n = Err Unfit
reached_or action (Some x) o n = if x.live then (if nat_le (o + n) x.holds then Ok x else Err (By action)) else Err (By EndedObject)

abbrev pub reached : Option Block → ℕ → ℕ → Result Block Why
reached b o n = reached_or OutsideObject b o n

abbrev pub read : Shape → Store → ℕ → ℕ → Result Value Why
read f s b o = reached (s b) o (size_in f) >>= λ x. read_cells f x.cells o

-- the n cells from o on
abbrev pub cells_at : ℕ → (ℕ → Cell) → ℕ → List Cell
cells_at zero cells o = []
cells_at (suc n) cells o = cells o ∷ cells_at n cells (suc o)

-- the cells of a structure or union as they are, unset bits and pieces included
abbrev pub packed : ℕ → Store → ℕ → ℕ → Result Value Why
packed n s b o = reached (s b) o n >>= λ x. Ok (Cells (cells_at n x.cells o))

-- ---- writing

-- cell i of a list, and an unset one behind its end
abbrev pub nth_cell : List Cell → ℕ → Cell
nth_cell [] i = unset
nth_cell (x ∷ xs) zero = x
nth_cell (x ∷ xs) (suc i) = nth_cell xs i

-- cell i of a value, low byte first
abbrev pub cell_of : Value → ℕ → Cell
cell_of (Whole z) i = byte (byte_at i z)
cell_of Null i = byte 0
cell_of (Place b o) i = Piece i b o
cell_of Opaque i = Clouded
cell_of (Cells xs) i = nth_cell xs i
cell_of NoValue i = unset

-- a bit-field's bits within one cell: those in the mask are set, the others stay; of a piece or a clouded cell none stay
abbrev pub with_bits : ℕ → ℕ → Cell → Cell
with_bits zero bits x = x
with_bits (suc m) bits (Bits known value) = Bits (bit_or known (suc m)) (bit_or (bit_and value (254 - m)) bits)
with_bits (suc m) bits (Piece i b o) = Bits (suc m) bits
with_bits (suc m) bits Clouded = Bits (suc m) bits

abbrev pub cloud_over : ℕ → Cell → Cell
cloud_over zero x = x
cloud_over (suc m) x = Clouded

-- the two cells of a bit-field's unit after a store
abbrev pub field_cell : ℕ → ℕ → ℕ → Value → Cell → Cell → ℕ → Cell
field_cell mask low width (Whole z) x y zero = with_bits (mask % 256) (residue (2 ^ width) z * 2 ^ low % 256) x
field_cell mask low width (Whole z) x y (suc i) = with_bits (mask / 256) (residue (2 ^ width) z * 2 ^ low / 256) y
field_cell mask low width v x y zero = cloud_over (mask % 256) x
field_cell mask low width v x y (suc i) = cloud_over (mask / 256) y

abbrev pub new_cells : Shape → Value → (ℕ → Cell) → ℕ → ℕ → Cell
new_cells (Field t low width) v cells o = field_cell (mask_of low width) low width v (cells o) (cells (suc o))
new_cells _ v cells o = cell_of v

abbrev pub with_value : Shape → Block → ℕ → Value → Block
with_value f x o v = record x { cells = set_cells x.cells o (size_in f) (new_cells f v x.cells o) }

-- the store of an initial value may write a const object, and no other store may
abbrev pub writable : Bool → Block → Result Block Why
writable true x = Ok x
writable false x = if x.sealed then Err (By ReadOnly) else Ok x

abbrev pub reached_to_write : Bool → Option Block → ℕ → ℕ → Result Block Why
reached_to_write first b o n = reached b o n >>= writable first

abbrev pub write : Bool → Shape → Store → ℕ → ℕ → Value → Result Store Why
write first f s b o v = reached_to_write first (s b) o (size_in f) >>= λ x. Ok (set_block s b (with_value f x o v))

-- ---- cells carried along

abbrev pub with_cell : Block → ℕ → Cell → Block
with_cell x o c = record x { cells = set_cells x.cells o 1 (λ i. c) }

abbrev pub put_cell : Bool → Store → ℕ → ℕ → Cell → Result Store Why
put_cell first s b o c = reached_to_write first (s b) o 1 >>= λ x. Ok (set_block s b (with_cell x o c))

-- one cell from a place to a place
abbrev pub carry : Bool → Store → ℕ → ℕ → ℕ → ℕ → Result Store Why
carry first s b o c p = reached (s b) o 1 >>= λ x. put_cell first s c p (x.cells o)

-- the n cells of a value
abbrev pub cells_of_value : ℕ → Value → List Cell
cells_of_value n v = cells_at n (cell_of v) 0

-- ---- beginning and end of a block

abbrev pub unset_block : ℕ → Bool → Block
unset_block size sealed = record { size = size; holds = size; live = true; sealed = sealed; cells = λ i. unset }

-- a block of these cells
abbrev pub list_block : List Cell → Block
list_block xs = record { size = length xs; holds = length xs; live = true; sealed = false; cells = nth_cell xs }

abbrev pub function_block : Block
function_block = record { size = 1; holds = 0; live = true; sealed = true; cells = λ i. unset }

abbrev pub end_in : Store → ℕ → Option Block → Store
end_in s b None = s
end_in s b (Some x) = set_block s b (record x { live = false })

abbrev pub end_block : Store → ℕ → Store
end_block s b = end_in s b (s b)

-- ---- places

abbrev pub lives_in : Option Block → Bool
lives_in None = false
lives_in (Some x) = x.live

abbrev pub size_in_store : Option Block → ℕ
size_in_store None = 0
size_in_store (Some x) = x.size

abbrev pub is_live : Store → ℕ → Bool
is_live s b = lives_in (s b)

abbrev pub block_size : Store → ℕ → ℕ
block_size s b = size_in_store (s b)
