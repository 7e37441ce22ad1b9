-- The cells of a structure or union as the bytes of a word.
use Rattle.std.proofs.Common.{◌≡◌, ℕ, zero, suc, ◌+◌, ◌/◌, ◌%◌, ◌<◌, ◌≤◌, List, [], ◌∷◌, length, refl, ap, subst, arith}
use Rattle.std.specs.Prelude.{bit_and}
use Rattle.std.proofs.lemmas.Nat.{and_le_r}
use Rattle.c65_meaning.specs.Store.{Cell, Value, Whole, Null, Place, Opaque, Cells, NoValue, Area, cells_at, nth_cell}
use Rattle.c65_code.specs.LineState.{State, eax_of}
use Rattle.c65_agree_store.specs.Laws.{byte_of}
use Rattle.c65_agree_store.specs.Stands.{Placing, CellIs, CellsAre}
use Rattle.c65_agree_store.proofs.Areas.{cells_are_laid}
use Rattle.c65_agree_state.specs.Exprs.{Valued, IsAreaValue, ResultIs, width_in}
use Rattle.c65_agree_argument.specs.Arguments.{AreHeld}

-- another word with the same lowest bytes has the same cells
pub cells_move : (w : Placing) (xs : List Cell) (n m : ℕ) → ((i : ℕ) → i < length xs → byte_of i n ≡ byte_of i m) → CellsAre w xs n → CellsAre w xs m
cells_move w [] n m same is = tt
cells_move w (x ∷ xs) n m same is = (subst (CellIs w x) (same 0 (omega arith)) is.0, cells_move w xs (n / 256) (m / 256) (λ i lt. same (suc i) (omega (arith, lt))) is.1)

-- cells that stand in the bytes of a word are those of it
pub cells_stand : (w : Placing) (cells : ℕ → Cell) (count o n : ℕ) → ((i : ℕ) → i < count → CellIs w (cells (o + i)) (byte_of i n)) → CellsAre w (cells_at count cells o) n
cells_stand w cells zero o n is = tt
cells_stand w cells (suc count) o n is = (subst (λ p. CellIs w (cells p) (n % 256)) here (is 0 (omega arith)), cells_stand w cells count (suc o) (n / 256) (λ i lt. subst (λ p. CellIs w (cells p) (byte_of i (n / 256))) (next i) (is (suc i) (omega (arith, lt)))))
  where
    here : o + 0 ≡ o
    here = omega arith

    next : (i : ℕ) → o + suc i ≡ suc o + i
    next i = omega arith

-- and so are those behind the last one, which are unset
pub cells_are_anywhere : (w : Placing) (xs : List Cell) (n i : ℕ) → CellsAre w xs n → CellIs w (nth_cell xs i) (byte_of i n)
cells_are_anywhere w [] n i is = let h : bit_and (byte_of i n) 0 ≤ 0 = and_le_r (byte_of i n) 0 in omega arith
cells_are_anywhere w (x ∷ xs) n zero is = is.0
cells_are_anywhere w (x ∷ xs) n (suc i) is = cells_are_anywhere w xs (n / 256) i is.1

pub cells_count : (count : ℕ) (cells : ℕ → Cell) (o : ℕ) → length (cells_at count cells o) ≡ count
cells_count zero cells o = refl
cells_count (suc count) cells o = ap suc (cells_count count cells (suc o))

-- they are held as they are passed, and a missing value has no bytes
pub cells_are_held : (w : Placing) (xs : List Cell) (t : State) (count : ℕ) → length xs ≡ count → CellsAre w xs (eax_of t) → AreHeld w t count (Cells xs)
cells_are_held w xs t count e is i lt = cells_are_laid w xs 65536 (eax_of t) i is (omega (arith, e, lt))

pub none_is_held : (w : Placing) (t : State) (count : ℕ) → AreHeld w t count NoValue
none_is_held w t count i lt = let h : bit_and (byte_of i (eax_of t)) 0 ≤ 0 = and_le_r (byte_of i (eax_of t)) 0 in omega arith

-- ---- values

-- the cells of a structure or union, or none where a function gives no value
pub area_by : (size : ℕ) → 1 ≤ size → (P : Value → Type 0) → ((xs : List Cell) → length xs ≡ size → P (Cells xs)) → P NoValue → (v : Value) → IsAreaValue size v → P v
area_by zero least P cells none v fits = absurd (omega (arith, least))
area_by (suc n) least P cells none (Cells xs) fits = cells xs fits
area_by (suc n) least P cells none NoValue fits = none
area_by (suc n) least P cells none (Whole z) fits = absurd fits
area_by (suc n) least P cells none Null fits = absurd fits
area_by (suc n) least P cells none (Place b o) fits = absurd fits
area_by (suc n) least P cells none Opaque fits = absurd fits

pub cells_fit : (size : ℕ) (xs : List Cell) → 1 ≤ size → length xs ≡ size → IsAreaValue size (Cells xs)
cells_fit zero xs least e = absurd (omega (arith, least))
cells_fit (suc n) xs least e = e

pub areas_are_held : (w : Placing) (size : ℕ) (v : Value) (t : State) → 1 ≤ size → IsAreaValue size v → ResultIs Valued w (width_in (Area size)) v t → AreHeld w t size v
areas_are_held w size v t least fits is =
    area_by size least (λ x. ResultIs Valued w (width_in (Area size)) x t → AreHeld w t size x) (λ xs known is_x. cells_are_held w xs t size known is_x) (λ is_x. none_is_held w t size) v fits is
