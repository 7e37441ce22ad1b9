-- Values from 0 to 255 of which the low byte alone is brought to A, or read where it lies.
use Rattle.std.specs.Prelude.{◌≡◌, ℕ, ◌+◌, ◌<◌, Bool, List, ◌∷◌, length}
use Rattle.c65_ints.specs.declared.types.IntType.{IntType}
use Rattle.c65_ints.specs.declared.types.IntType.TheVariants.{UChar}
use Rattle.c65_ints.specs.Ranges.{InRange, residue}
use Rattle.c65_meaning.specs.Store.{Value, Whole, Number}
use Rattle.c65_meaning.specs.Fits.{Fits}
use Rattle.c65_meaning.specs.Items.{Item}
use Rattle.c65_meaning.specs.State.{Scene, Running}
use Rattle.c65_code.specs.declared.line.Line.{Line}
use Rattle.c65_code.specs.LineState.{Place as Spot, State}
use Rattle.c65_code.specs.Comes.{Seen}
use Rattle.c65_gendirect.specs.declared.bytes.OperandByte.{OperandByte}
use Rattle.c65_agree_store.specs.Stands.{Placing, Banks, Grows}
use Rattle.c65_agree_state.specs.World.{World, Active, lines_of, place_in, HasAt, HasTurns}
use Rattle.c65_agree_state.specs.Follows.{Follows}
use Rattle.c65_agree_state.specs.Exprs.{Ready, Valued, MayFit, Kept}
use Rattle.c65_agree_direct.specs.Operands.{byte_in, MayRead}
use Rattle.c65_agree_operate.specs.Manners.{Manner, Where, IsLeft}

-- a number is one of an unsigned char
abbrev pub IsByte : Value → Type 0
IsByte (Whole z) = InRange UChar z
IsByte v = Unit {0}

-- and this is its low byte
abbrev pub ByteIs : Value → ℕ → Type 0
ByteIs (Whole z) n = n ≡ residue 256 z
ByteIs v n = Unit {0}

-- nothing is asked of it
abbrev pub Any : Value → Type 0
Any v = Unit {0}

module _ (g : World) (a : Active) (m : Manner) where
  -- wherever lines end that brought the low byte of such a value to A, the rest is followed; X is anything
  abbrev pub RestOfLow : (Value → Type 0) → IntType → ℕ → ℕ → List Item → List Value → ℕ → Scene → Placing → Banks → State → Type 0
  RestOfLow IsSo t n w k vs p c q b s = (j : ℕ) (v : Value) (c2 : Scene) (q2 : Placing) (b2 : Banks) (u : State) (seen : Seen)
      → j < n → Kept g a c q b s c2 q2 b2 u → MayFit Valued (Number t) v → IsSo v → ByteIs v u.regs.a → IsLeft m c s c2 u → HasTurns g c2.turns (place_in g a p) seen
      → Follows g j (w + 2600 + m.over) (Running k (v ∷ vs) c2) (place_in g a p) u seen

  -- the lines do the work, and bring the low byte to A
  abbrev pub LowsIn : (Value → Type 0) → IntType → (List Item → List Item) → ℕ → ℕ → List Line → Type 0
  LowsIn IsSo t work needs pushed lines = (n w p : ℕ) (k : List Item) (vs : List Value) (c : Scene) (q : Placing) (b : Banks) (s : State) (seen : Seen)
      → HasAt (lines_of g a) p lines → Ready g a pushed needs c q b s → HasTurns g c.turns (place_in g a p) seen
      → RestOfLow IsSo t n w k vs (p + length lines) c q b s
      → Follows g n w (Running (work k) vs c) (place_in g a p) s seen

  -- the value is a byte
  abbrev pub BytesIn : IntType → (List Item → List Item) → ℕ → ℕ → List Line → Type 0
  BytesIn = LowsIn IsByte

-- The work takes no lines, and its value is a byte that is read there.
abbrev pub IsByteRead : World → Active → ℕ → IntType → (List Item → List Item) → OperandByte → Type 0
IsByteRead g a pushed t work x = (needs n weight : ℕ) (k : List Item) (vs : List Value) (c : Scene) (w : Placing) (b : Banks) (p : Spot) (s : State) (seen : Seen)
    → Ready g a pushed needs c w b s → HasTurns g c.turns p seen
    → ((j : ℕ) (v : Value) → j < n → Fits (Number t) v → IsByte v → MayRead g s x × ByteIs v (byte_in g s x) → Follows g j (weight + 4000) (Running k (v ∷ vs) c) p s seen)
    → Follows g n weight (Running (work k) vs c) p s seen

-- Behind the lines of another value too; where that is pure, in the same scene.
abbrev pub IsByteBehind : World → Active → Bool → ℕ → IntType → (List Item → List Item) → OperandByte → Type 0
IsByteBehind g a pure pushed t work x = (needs n weight : ℕ) (k : List Item) (vs : List Value) (c : Scene) (w : Placing) (b : Banks) (p : Spot) (s : State) (seen : Seen)
    → Ready g a pushed needs c w b s → HasTurns g c.turns p seen
    → ((j : ℕ) (v : Value) → j < n → Fits (Number t) v → IsByte v → ((more_needs : ℕ) (c2 : Scene) (w2 : Placing) (b2 : Banks) (u : State) → Where pure (c2 ≡ c) → Grows w w2 → Ready g a pushed more_needs c2 w2 b2 u → MayRead g u x × ByteIs v (byte_in g u x))
    → Follows g j (weight + 4000) (Running k (v ∷ vs) c) p s seen)
    → Follows g n weight (Running (work k) vs c) p s seen
