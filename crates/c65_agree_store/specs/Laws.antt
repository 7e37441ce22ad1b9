-- What holds of a store that stands.
use Rattle.std.specs.Prelude.{◌≡◌, ℕ, zero, suc, ◌+◌, ◌*◌, ◌/◌, ◌%◌, ◌<◌, ◌≤◌, ◌==◌, Bool, if◌then◌else◌, List, length, Ok, Some, None}
use Rattle.c65_meaning.specs.Store.{Cell, Block, Store, Cells, Place, Found, gathered, read_pair, packed, nth_cell, set_block, set_cells, unset_block, end_block}
use Rattle.c65_code.specs.LineState.{Bytes}
use Rattle.c65_agree_store.specs.Stands.{Spot, Placing, Banks, byte_in, CellIs, ValueIs, IsAt, LiesIn, AreApart, Stands}

-- ---- stores

-- the block with other cells from o on
abbrev pub with_cells : Block → ℕ → ℕ → (ℕ → Cell) → Block
with_cells x o n new = record x { cells = set_cells x.cells o n new }

-- Of one live block n cells are new and stand where they lie, and each byte of a live block elsewhere is as before.
pub record ArePut (s : Store) (w : Placing) (m : Bytes) (k : Banks) (b : ℕ) (x : Block) (q : Spot) (o n : ℕ) (new : ℕ → Cell) (m2 : Bytes) (k2 : Banks) : Type 0 where
  pub block : IsAt s w b x q
  pub fits : o + n ≤ x.holds
  pub there : (i : ℕ) → i < n → CellIs w (new i) (byte_in m2 k2 q (o + i))
  pub here : (p : ℕ) → p < x.holds → (p < o → byte_in m2 k2 q p ≡ byte_in m k q p) × (o + n ≤ p → byte_in m2 k2 q p ≡ byte_in m k q p)
  pub elsewhere : (c : ℕ) (y : Block) (r : Spot) (p : ℕ) → IsAt s w c y r → (c ≡ b → ⊥) → p < y.holds → byte_in m2 k2 r p ≡ byte_in m k r p

abbrev pub StoresGoOnStanding : Type 0
StoresGoOnStanding = (s : Store) (w : Placing) (m m2 : Bytes) (k k2 : Banks) (b : ℕ) (x : Block) (q : Spot) (o n : ℕ) (new : ℕ → Cell)
    → Stands s w m k → ArePut s w m k b x q o n new m2 k2 → Stands (set_block s b (with_cells x o n new)) w m2 k2

-- bytes of no live block may change
abbrev pub FreeBytesChange : Type 0
FreeBytesChange = (s : Store) (w : Placing) (m m2 : Bytes) (k k2 : Banks) → Stands s w m k
    → ((c : ℕ) (y : Block) (r : Spot) (p : ℕ) → IsAt s w c y r → p < y.holds → byte_in m2 k2 r p ≡ byte_in m k r p) → Stands s w m2 k2

-- ---- beginning and end of a block

-- a block more
abbrev pub put_at : Placing → ℕ → Spot → Placing
put_at w b q c = if c == b then Some q else w c

-- a place for a new block: it lies in memory or regbank, and no live block has a byte of it
pub record HasRoom (s : Store) (w : Placing) (b size : ℕ) (q : Spot) : Type 0 where
  pub new : w b ≡ None
  pub lies : LiesIn q size
  pub free : (c : ℕ) (y : Block) (r : Spot) → IsAt s w c y r → AreApart q size r y.size

-- the block's cells stand there already, as those of arguments that were passed
abbrev pub BlocksBegin : Type 0
BlocksBegin = (s : Store) (w : Placing) (m : Bytes) (k : Banks) (b : ℕ) (x : Block) (q : Spot)
    → Stands s w m k → HasRoom s w b x.size q → x.holds ≤ x.size → ((o : ℕ) → o < x.holds → CellIs w (x.cells o) (byte_in m k q o))
    → Stands (set_block s b x) (put_at w b q) m k

abbrev pub UnsetBlocksBegin : Type 0
UnsetBlocksBegin = (s : Store) (w : Placing) (m : Bytes) (k : Banks) (b size : ℕ) (sealed : Bool) (q : Spot)
    → Stands s w m k → HasRoom s w b size q → Stands (set_block s b (unset_block size sealed)) (put_at w b q) m k

abbrev pub BlocksEnd : Type 0
BlocksEnd = (s : Store) (w : Placing) (m : Bytes) (k : Banks) (b : ℕ) → Stands s w m k → Stands (end_block s b) w m k

-- ---- reading

-- so many bytes as a number, the lowest first
abbrev pub number_in : (ℕ → ℕ) → ℕ → ℕ → ℕ
number_in f zero o = 0
number_in f (suc n) o = f o + 256 * number_in f n (suc o)

abbrev pub NumbersAreRead : Type 0
NumbersAreRead = (w : Placing) (cells : ℕ → Cell) (f : ℕ → ℕ) (n o v : ℕ)
    → ((p : ℕ) → f p < 256) → ((p : ℕ) → o ≤ p → p < o + n → CellIs w (cells p) (f p)) → gathered n cells o ≡ Found v → number_in f n o ≡ v

abbrev pub PlacesAreRead : Type 0
PlacesAreRead = (w : Placing) (x y : Cell) (low high b o : ℕ) → CellIs w x low → CellIs w y high → read_pair x y ≡ Ok (Place b o)
    → ValueIs w 65536 (Place b o) (low + 256 * high)

-- a structure or union that is passed or returned, as a word
abbrev pub AreasAreRead : Type 0
AreasAreRead = (s : Store) (w : Placing) (m : Bytes) (k : Banks) (b : ℕ) (x : Block) (q : Spot) (n o words : ℕ) (xs : List Cell)
    → Stands s w m k → IsAt s w b x q → ((p : ℕ) → byte_in m k q p < 256) → packed n s b o ≡ Ok (Cells xs)
    → ValueIs w words (Cells xs) (number_in (byte_in m k q) n o)

-- byte i of a word, the lowest first
abbrev pub byte_of : ℕ → ℕ → ℕ
byte_of zero n = n % 256
byte_of (suc i) n = byte_of i (n / 256)

abbrev pub CellsAreLaid : Type 0
CellsAreLaid = (w : Placing) (xs : List Cell) (words n i : ℕ) → ValueIs w words (Cells xs) n → i < length xs → CellIs w (nth_cell xs i) (byte_of i n)
