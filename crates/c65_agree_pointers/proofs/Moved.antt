-- What a sum with a pointer gives, and its word.
use Rattle.std.proofs.Common.{◌≡◌, ℕ, zero, suc, ◌+◌, ◌-◌, ◌*◌, ◌%◌, ◌<◌, ◌≤◌, ℤ, pos, negsuc, ◌+ℤ◌, ◌*ℤ◌, neg_ℤ, unsigned_abs, Bool, true, false, Some, refl, sym, ap, ◌∙◌, subst, arith}
use native.Mathlib.Nat.{mul_comm}
use Rattle.std.specs.Prelude.{nat_lt, if◌then◌else◌, Ok}
use Rattle.std.proofs.lemmas.Bool.{ltb-true, ltb-false}
use Rattle.std.proofs.lemmas.Int.{ints, unsigned_abs-mul}
use Rattle.c65_base.specs.declared.operators.BinaryOp.{BinaryOp}
use Rattle.c65_base.specs.declared.operators.BinaryOp.TheVariants as ops
use Rattle.c65_ints.specs.declared.types.IntType.{IntType}
use Rattle.c65_ints.specs.Ranges.{residue}
use Rattle.c65_meaning.specs.Store.{Store, Value, Whole, Null, Place, Opaque, Cells, NoValue, Number, Pointer}
use Rattle.c65_meaning.specs.Operators.{moved, binary}
use Rattle.c65_code.specs.LineState.{Bytes}
use Rattle.c65_code.specs.declared.routine.Width.TheVariants.{Ax}
use Rattle.c65_agree_store.specs.Stands.{At, Placing, Banks, Grows, ValueIs, Stands}
use Rattle.c65_agree_numbers.proofs.Residues.{product_word}
use Rattle.c65_agree_operate_bytes.specs.Laws.{IsSum}
use Rattle.c65_agree_operate_bytes.proofs.Words.{word_on}
use Rattle.c65_agree_store.proofs.Moved.{IsMoved, is_moved, address_below}
use Rattle.c65_agree_pointers.specs.Sums.{told}

-- ---- the number of bytes

-- that of so many elements, or its negative
abbrev pub bytes_by : BinaryOp → ℕ → ℤ → ℤ
bytes_by ops.Sub size z = neg_ℤ (pos size *ℤ z)
bytes_by _ size z = pos size *ℤ z

-- a sum with a pointer has a value on a place and a number alone
pub record IsSummed (s : Store) (op : BinaryOp) (size : ℕ) (v w x : Value) : Type 0 where
  pub count : ℤ
  pub right : w ≡ Whole count
  pub moved : IsMoved s v x (bytes_by op size count)

first_summed : (s : Store) (op : BinaryOp) (size : ℕ) (t : IntType) (v x : Value) (z : ℤ) → IsSum op → binary s op (Pointer size) (Number t) v (Whole z) ≡ Ok x → IsSummed s op size v (Whole z) x
first_summed s ops.Add size t v x z o h = record { count = z; right = refl; moved = is_moved s v x (pos size *ℤ z) h }
first_summed s ops.Sub size t v x z o h = record { count = z; right = refl; moved = is_moved s v x (neg_ℤ (pos size *ℤ z)) h }
first_summed s _ size t v x z o h = absurd o

pub pointer_summed : (s : Store) (op : BinaryOp) (size : ℕ) (t : IntType) (v w x : Value) → IsSum op → binary s op (Pointer size) (Number t) v w ≡ Ok x → IsSummed s op size v w x
pointer_summed s op size t v (Whole z) x o h = first_summed s op size t v x z o h
pointer_summed s op size t v Null x o h = absurd (cc)
pointer_summed s op size t v (Place b p) x o h = absurd (cc)
pointer_summed s op size t v Opaque x o h = absurd (cc)
pointer_summed s op size t v (Cells xs) x o h = absurd (cc)
pointer_summed s op size t v NoValue x o h = absurd (cc)

-- the number may stand first
pub number_summed : (s : Store) (size : ℕ) (t : IntType) (v w x : Value) → binary s ops.Add (Number t) (Pointer size) v w ≡ Ok x → IsSummed s ops.Add size w v x
number_summed s size t (Whole z) w x h = record { count = z; right = refl; moved = is_moved s w x (pos size *ℤ z) h }
number_summed s size t Null w x h = absurd (cc)
number_summed s size t (Place b p) w x h = absurd (cc)
number_summed s size t Opaque w x h = absurd (cc)
number_summed s size t (Cells xs) w x h = absurd (cc)
number_summed s size t NoValue w x h = absurd (cc)

-- ---- the word

-- a number that takes a place to another one lies between them
near : (o p : ℕ) (d : ℤ) → o < 65536 → p < 65536 → pos o +ℤ d ≡ pos p → unsigned_abs d < 65536
near o p (pos n) left right e = omega (arith, ints, left, right, e)
near o p (negsuc n) left right e = omega (arith, ints, left, right, e)

far_side : (d : ℤ) → unsigned_abs (neg_ℤ d) ≡ unsigned_abs d
far_side (pos zero) = refl
far_side (pos (suc n)) = refl
far_side (negsuc n) = refl

none_is : (d : ℤ) → unsigned_abs d ≡ 0 → residue 65536 d ≡ 0
none_is (pos n) e = omega (arith, e)
none_is (negsuc n) e = absurd (omega (arith, e))

-- no element of more than 65,535 bytes is near
none_large : (size : ℕ) (z : ℤ) → 65536 ≤ size → unsigned_abs (pos size *ℤ z) < 65536 → residue 65536 (pos size *ℤ z) ≡ 0
none_large size z big few = none_is (pos size *ℤ z) (by (unsigned_abs z) (sym (unsigned_abs-mul (pos size) z)))
  where
    by : (n : ℕ) → size * n ≡ unsigned_abs (pos size *ℤ z) → unsigned_abs (pos size *ℤ z) ≡ 0
    by zero e = omega (arith, e)
    by (suc n) e = let more : size * suc n ≡ size * n + size = omega arith in absurd (omega (arith, e, few, big, more))

-- the word of a number of bytes, from that of the number of elements
bytes_word : (size : ℕ) (z : ℤ) → unsigned_abs (pos size *ℤ z) < 65536 → residue 65536 (pos size *ℤ z) ≡ (residue 65536 z * told size) % 65536
bytes_word size z few = by (nat_lt size 65536) refl
  where
    by : (b : Bool) → nat_lt size 65536 ≡ b → residue 65536 (pos size *ℤ z) ≡ (residue 65536 z * (if b then size else 0)) % 65536
    by true e =
        let small : size < 65536 = ltb-true size 65536 e in
        let same : size % 65536 ≡ size = omega (arith, small) in
        product_word (pos size) z Ax ∙ ap (λ n. (n * residue 65536 z) % 65536) same ∙ ap (λ n. n % 65536) (mul_comm size (residue 65536 z))
    by false e =
        let zero_is : (residue 65536 z * 0) % 65536 ≡ 0 = omega arith in
        none_large size z (ltb-false size 65536 e) few ∙ sym zero_is

added : (at o p : ℕ) (d : ℤ) → at + o < 65536 → at + p < 65536 → pos o +ℤ d ≡ pos p → (at + o + residue 65536 d) % 65536 ≡ at + p
added at o p (pos n) left right e = let f : o + n ≡ p = omega (arith, ints, e) in omega (arith, f, left, right)
added at o p (negsuc n) left right e = let f : o ≡ p + suc n = omega (arith, ints, e) in omega (arith, f, left, right)

taken : (at o p : ℕ) (d : ℤ) → at + o < 65536 → at + p < 65536 → pos o +ℤ neg_ℤ d ≡ pos p → (at + o + 65536 - residue 65536 d) % 65536 ≡ at + p
taken at o p (pos n) left right e = let f : o ≡ p + n = omega (arith, ints, e) in omega (arith, f, left, right)
taken at o p (negsuc n) left right e = let f : o + suc n ≡ p = omega (arith, ints, e) in omega (arith, f, left, right)

-- the word of a place that is moved, from those of the place and of the number of elements
pub moved_word : (op : BinaryOp) (size at o p : ℕ) (z : ℤ) → IsSum op → at + o < 65536 → at + p < 65536 → pos o +ℤ bytes_by op size z ≡ pos p → word_on op (at + o) ((residue 65536 z * told size) % 65536) ≡ at + p
moved_word ops.Add size at o p z sums left right e =
    let d : ℤ = pos size *ℤ z in
    let few : unsigned_abs d < 65536 = near o p d (omega (arith, left)) (omega (arith, right)) e in
    ap (λ n. (at + o + n) % 65536) (sym (bytes_word size z few)) ∙ added at o p d left right e
moved_word ops.Sub size at o p z sums left right e =
    let d : ℤ = pos size *ℤ z in
    let few : unsigned_abs d < 65536 = subst (λ n. n < 65536) (far_side d) (near o p (neg_ℤ d) (omega (arith, left)) (omega (arith, right)) e) in
    ap (λ n. (at + o + 65536 - n) % 65536) (sym (bytes_word size z few)) ∙ taken at o p d left right e
moved_word _ size at o p z sums left right e = absurd sums

-- ---- addresses

-- the address of a place that is moved
pub moved_is : (s : Store) (w w2 : Placing) (m : Bytes) (k : Banks) (op : BinaryOp) (size n : ℕ) (v x : Value) (z : ℤ) → Stands s w2 m k → Grows w w2 → IsSum op → n < 65536 → ValueIs w 65536 v n → IsMoved s v x (bytes_by op size z)
    → ValueIs w2 65536 x (word_on op n ((residue 65536 z * told size) % 65536))
moved_is s w w2 m k op size n v x z stands grows sums few is h =
    let there : ValueIs w 65536 (Place h.block h.from) n = subst (λ y. ValueIs w 65536 y n) h.left is in
    let at : ℕ = there.0 in
    let place : w2 h.block ≡ Some (At at) = grows h.block (At at) there.1 in
    let first : n ≡ at + h.from = there.2 in
    let low : at + h.to ≤ 65520 = address_below s w2 m k h.block at h.to stands h.live place h.within in
    let word : word_on op n ((residue 65536 z * told size) % 65536) ≡ at + h.to =
    ap (λ y. word_on op y ((residue 65536 z * told size) % 65536)) first ∙ moved_word op size at h.from h.to z sums (omega (arith, few, first)) (omega (arith, low)) h.sum in
    subst (λ y. ValueIs w2 65536 y (word_on op n ((residue 65536 z * told size) % 65536))) (sym h.result) (at, place, word)
