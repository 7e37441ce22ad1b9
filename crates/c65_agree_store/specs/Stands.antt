-- How the store of the meaning stands in memory and in regbank.
use Rattle.std.specs.Prelude.{◌≡◌, ℕ, zero, suc, ◌+◌, ◌/◌, ◌%◌, ◌<◌, ◌≤◌, true, List, [], ◌∷◌, Option, Some, bit_and}
use Rattle.c65_ints.specs.Ranges.{residue}
use Rattle.c65_meaning.specs.Store.{Cell, Bits, Piece, Clouded, Block, Store, Value, Whole, Null, Place, Opaque, Cells, NoValue}
use Rattle.c65_code.specs.LineState.{Bytes, State}

-- where a block stands: from an address on, or from a byte of regbank on, as the call with so many calls behind it has it
pub data Spot : Type 0 where
  At : (a : ℕ) → Spot
  Banked : (d k : ℕ) → Spot

-- where blocks stand, also those that have ended
abbrev pub Placing : Type 0
Placing = ℕ → Option Spot

-- the bytes of regbank of each active call, by the number of calls behind it: the active one has its own in the zero page, those
-- behind it have theirs where they will be brought back from
abbrev pub Banks : Type 0
Banks = ℕ → ℕ → ℕ

-- no block that has a place loses it
abbrev pub Grows : Placing → Placing → Type 0
Grows w w2 = (b : ℕ) (q : Spot) → w b ≡ Some q → w2 b ≡ Some q

-- the spot so many bytes on
abbrev pub beyond : Spot → ℕ → Spot
beyond (At a) o = At (a + o)
beyond (Banked d i) o = Banked d (i + o)

abbrev pub byte_in : Bytes → Banks → Spot → ℕ → ℕ
byte_in m k (At a) o = m (a + o)
byte_in m k (Banked d i) o = k d (i + o)

-- the machine's byte so far behind a spot
abbrev pub stored_at : State → Spot → ℕ → ℕ
stored_at t (At at) o = t.mem (at + o)
stored_at t (Banked d i) o = t.zp (20 + (i + o))

-- the two bytes of an address
abbrev pub part_of : ℕ → ℕ → ℕ
part_of zero n = n % 256
part_of (suc i) n = n / 256

-- the set bits are those of the byte; a block that a pointer names stands in memory
abbrev pub CellIs : Placing → Cell → ℕ → Type 0
CellIs w (Bits known value) byte = bit_and byte known ≡ value
CellIs w (Piece i b o) byte = (a : ℕ) × (w b ≡ Some (At a)) × (byte ≡ part_of i (a + o))
CellIs w Clouded byte = Unit {0}

-- the bytes of a word are these cells, the lowest first; those behind the last cell may be any
abbrev pub CellsAre : Placing → List Cell → ℕ → Type 0
CellsAre w [] n = Unit {0}
CellsAre w (x ∷ xs) n = CellIs w x (n % 256) × CellsAre w xs (n / 256)

-- a value as a word of the primary register, of which there are `words`; what may not be used may be any
-- (the place of an object in regbank has no word: such a place is never a value that is stored)
abbrev pub ValueIs : Placing → ℕ → Value → ℕ → Type 0
ValueIs w words (Whole z) n = n ≡ residue words z
ValueIs w words Null n = n ≡ 0
ValueIs w words (Place b o) n = (a : ℕ) × (w b ≡ Some (At a)) × (n ≡ a + o)
ValueIs w words Opaque n = Unit {0}
ValueIs w words (Cells xs) n = CellsAre w xs n
ValueIs w words NoValue n = Unit {0}

-- a live block stands there
pub record IsAt (s : Store) (w : Placing) (b : ℕ) (x : Block) (q : Spot) : Type 0 where
  pub is : s b ≡ Some x
  pub live : x.live ≡ true
  pub place : w b ≡ Some q

-- in program space or the software stack, or in the six bytes of regbank
abbrev pub LiesIn : Spot → ℕ → Type 0
LiesIn (At a) size = (512 ≤ a) × (a + size ≤ 65520)
LiesIn (Banked d i) size = i + size ≤ 6

-- no byte is in both; what has no byte is apart from everything, wherever it stands
abbrev pub AreApart : Spot → ℕ → Spot → ℕ → Type 0
AreApart q n r m = (i j : ℕ) → i < n → j < m → beyond q i ≡ beyond r j → ⊥

-- each live block has a place, its cells stand there, and no two live blocks have a byte in common
pub record Stands (s : Store) (w : Placing) (m : Bytes) (k : Banks) : Type 0 where
  pub placed : (b : ℕ) (x : Block) → s b ≡ Some x → x.live ≡ true → (q : Spot) × (w b ≡ Some q)
  pub lies : (b : ℕ) (x : Block) (q : Spot) → IsAt s w b x q → LiesIn q x.size
  pub whole : (b : ℕ) (x : Block) → s b ≡ Some x → x.holds ≤ x.size
  pub cells : (b : ℕ) (x : Block) (q : Spot) (o : ℕ) → IsAt s w b x q → o < x.holds → CellIs w (x.cells o) (byte_in m k q o)
  pub apart : (b c : ℕ) (x y : Block) (q r : Spot) → IsAt s w b x q → IsAt s w c y r → (b ≡ c → ⊥) → AreApart q x.size r y.size

-- no live block has the byte there
abbrev pub IsFree : Store → Placing → Spot → Type 0
IsFree s w p = (b : ℕ) (x : Block) (q : Spot) (i : ℕ) → IsAt s w b x q → i < x.size → beyond q i ≡ p → ⊥
