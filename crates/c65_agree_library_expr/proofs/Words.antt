-- Values of two bytes, in AX and where they wait.
use Rattle.std.proofs.Common.{◌≡◌, ℕ, ◌+◌, ◌*◌, ◌%◌, ◌<◌, ℤ, pos, negsuc, List, [], ◌∷◌, sym, ◌∙◌, subst, arith}
use Rattle.std.specs.Prelude.{bit_and, Some}
use Rattle.std.proofs.lemmas.Nat.{and_mask}
use Rattle.std.proofs.Math.Nat.{mod-eq_of_lt}
use Rattle.c65_ints.specs.Ranges.{residue}
use Rattle.c65_meaning.specs.Integers.{byte_at}
use Rattle.c65_meaning.specs.Store.{Value, Whole, Null, Place, Opaque, Cells, NoValue, cell_of}
use Rattle.c65_code.specs.LineState.{Bytes, State, ax_of, eax_of, word_at, IsBytes}
use Rattle.c65_agree_store.specs.Laws.{byte_of}
use Rattle.c65_agree_store.specs.Stands.{At, Placing, CellIs, ValueIs}
use Rattle.c65_agree_argument.specs.Arguments.{LieAt, AreHeld}

-- ---- words

-- all but the cells of a structure or union
abbrev pub IsWord : Value → Type 0
IsWord (Cells xs) = ⊥
IsWord _ = Unit {0}

abbrev pub AreWords : List Value → Type 0
AreWords [] = Unit {0}
AreWords (v ∷ vs) = IsWord v × AreWords vs

number_by : (z : ℤ) (low high : ℕ) → low ≡ byte_at 0 z → high ≡ byte_at 1 z → low + 256 * high ≡ residue 65536 z
number_by (pos n) low high l h = omega (arith, l, h)
number_by (negsuc n) low high l h = omega (arith, l, h)

-- a byte that is a cell with all bits set
whole_byte : (b n : ℕ) → b < 256 → bit_and b 255 ≡ n → b ≡ n
whole_byte b n lt is = let same : bit_and b 255 ≡ b % 256 = and_mask b 8 in sym (mod-eq_of_lt lt) ∙ (sym same ∙ is)

-- two bytes are a word's
pub word_by : (w : Placing) (v : Value) (low high : ℕ) → IsWord v → low < 256 → high < 256 → CellIs w (cell_of v 0) low → CellIs w (cell_of v 1) high → ValueIs w 65536 v (low + 256 * high)
word_by w (Whole z) low high word l h first second = number_by z low high (whole_byte low (byte_at 0 z) l first) (whole_byte high (byte_at 1 z) h second)
word_by w Null low high word l h first second = let a : low ≡ 0 = whole_byte low 0 l first in let b : high ≡ 0 = whole_byte high 0 h second in omega (arith, a, b)
word_by w (Place b o) low high word l h first second =
    let same : Some (At first.0) ≡ Some (At second.0) = sym first.1 ∙ second.1 in
    let one : first.0 ≡ second.0 = cc in
    (first.0, first.1, omega (arith, first.2, second.2, one, l, h))
word_by w Opaque low high word l h first second = tt
word_by w (Cells xs) low high word l h first second = absurd word
word_by w NoValue low high word l h first second = tt

-- in AX
pub word_held : (w : Placing) (v : Value) (t : State) → IsWord v → IsBytes t → AreHeld w t 2 v → ValueIs w 65536 v (ax_of t)
word_held w v t word b held =
    let low : byte_of 0 (eax_of t) ≡ t.regs.a = omega (arith, b.a, b.x, b.zp 2, b.zp 3) in
    let high : byte_of 1 (eax_of t) ≡ t.regs.x = omega (arith, b.a, b.x, b.zp 2, b.zp 3) in
    word_by w v t.regs.a t.regs.x word b.a b.x (subst (CellIs w (cell_of v 0)) low (held 0 (omega arith))) (subst (CellIs w (cell_of v 1)) high (held 1 (omega arith)))

-- and where it lies
pub word_lies : (w : Placing) (v : Value) (m : Bytes) (at : ℕ) → IsWord v → ((n : ℕ) → m n < 256) → LieAt w m at 2 v → ValueIs w 65536 v (word_at m at)
word_lies w v m at word b lies =
    let here : at + 0 ≡ at = omega arith in
    word_by w v (m at) (m (at + 1)) word (b at) (b (at + 1)) (subst (λ n. CellIs w (cell_of v 0) (m n)) here (lies 0 (omega arith))) (lies 1 (omega arith))
