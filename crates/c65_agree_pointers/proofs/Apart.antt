-- What a difference of pointers gives, and its word.
use Rattle.std.proofs.Common.{◌≡◌, ℕ, suc, ◌+◌, ◌-◌, ◌%◌, ◌<◌, ◌≤◌, ℤ, pos, negsuc, ◌-ℤ◌, int_div, unsigned_abs, Bool, true, false, Some, refl, sym, ap, ◌∙◌, subst, arith}
use Rattle.std.specs.Prelude.{◌==◌, nat_le, if◌then◌else◌, Result, Ok, Err}
use Rattle.std.proofs.lemmas.Bool.{leb-true, eqb-true}
use Rattle.std.proofs.lemmas.Int.{ints}
use Rattle.c65_base.specs.declared.operators.BinaryOp.TheVariants.{Sub}
use Rattle.c65_ints.specs.Ranges.{residue}
use Rattle.c65_meaning.specs.declared.action.Action.TheVariants.{EndedObject, PointersApart}
use Rattle.c65_meaning.specs.Why.{By}
use Rattle.c65_meaning.specs.Store.{Store, Value, Whole, Null, Place, Opaque, Cells, NoValue, Pointer, is_live}
use Rattle.c65_meaning.specs.Operators.{elements_between, binary}
use Rattle.c65_agree_store.specs.Stands.{At, Placing, Grows, ValueIs}
use Rattle.c65_agree_operate_bytes.proofs.Words.{word_on}

-- two places of one block, as many bytes apart as an int can say
pub record AreApart (s : Store) (size : ℕ) (v w x : Value) : Type 0 where
  pub block : ℕ
  pub from : ℕ
  pub to : ℕ
  pub left : v ≡ Place block from
  pub right : w ≡ Place block to
  pub live : is_live s block ≡ true
  pub few : unsigned_abs (pos from -ℤ pos to) ≤ 32767
  pub result : x ≡ Whole (int_div (pos from -ℤ pos to) (pos size))

pub are_apart : (s : Store) (size other : ℕ) (v w x : Value) → binary s Sub (Pointer size) (Pointer other) v w ≡ Ok x → AreApart s size v w x
are_apart s size other (Place b o) (Place c p) x h = alive (is_live s b) (is_live s c) (b == c) (nat_le (unsigned_abs (pos o -ℤ pos p)) 32767) refl refl refl h
  where
    alive : (one two same near : Bool) → is_live s b ≡ one → (b == c) ≡ same → nat_le (unsigned_abs (pos o -ℤ pos p)) 32767 ≡ near
        → (if one then (if two then (if same then (if near then Ok (Whole (int_div (pos o -ℤ pos p) (pos size))) else Err (By PointersApart)) else Err (By PointersApart)) else Err (By EndedObject)) else Err (By EndedObject)) ≡ Ok x → AreApart s size (Place b o) (Place c p) x
    alive true true true true l e f h = record { block = b; from = o; to = p; left = refl; live = l; right = ap (λ n. Place n p) (sym (eqb-true b c e)); few = leb-true (unsigned_abs (pos o -ℤ pos p)) 32767 f; result = cc }
    alive true true true false l e f h = absurd (cc)
    alive true true false near l e f h = absurd (cc)
    alive true false same near l e f h = absurd (cc)
    alive false two same near l e f h = absurd (cc)
are_apart s size other (Place b o) Null x h = by (is_live s b) h
  where
    by : (c : Bool) → (if c then Err (By PointersApart) else Err (By EndedObject)) ≡ Ok x → AreApart s size (Place b o) Null x
    by true h = absurd (cc)
    by false h = absurd (cc)
are_apart s size other Null (Place b o) x h = by (is_live s b) h
  where
    by : (c : Bool) → (if c then Err (By PointersApart) else Err (By EndedObject)) ≡ Ok x → AreApart s size Null (Place b o) x
    by true h = absurd (cc)
    by false h = absurd (cc)
are_apart s size other Null Null x h = absurd (cc)
are_apart s size other (Place b o) (Whole z) x h = absurd (cc)
are_apart s size other (Place b o) Opaque x h = absurd (cc)
are_apart s size other (Place b o) (Cells xs) x h = absurd (cc)
are_apart s size other (Place b o) NoValue x h = absurd (cc)
are_apart s size other Null (Whole z) x h = absurd (cc)
are_apart s size other Null Opaque x h = absurd (cc)
are_apart s size other Null (Cells xs) x h = absurd (cc)
are_apart s size other Null NoValue x h = absurd (cc)
are_apart s size other (Whole z) w x h = absurd (cc)
are_apart s size other Opaque w x h = absurd (cc)
are_apart s size other (Cells xs) w x h = absurd (cc)
are_apart s size other NoValue w x h = absurd (cc)

-- ---- the word

between : (at o p : ℕ) (d : ℤ) → at + o < 65536 → at + p < 65536 → pos o -ℤ pos p ≡ d → (at + o + 65536 - (at + p)) % 65536 ≡ residue 65536 d
between at o p (pos n) left right e = let f : o ≡ p + n = omega (arith, ints, e) in omega (arith, f, left, right)
between at o p (negsuc n) left right e = let f : o + suc n ≡ p = omega (arith, ints, e) in omega (arith, f, left, right)

pub same_block : (w : Placing) (b a c : ℕ) → w b ≡ Some (At a) → w b ≡ Some (At c) → a ≡ c
same_block w b a c e f = let same : Some (At a) ≡ Some (At c) = sym e ∙ f in cc

-- the word of the bytes between two places, from their addresses
pub apart_is : (s : Store) (w w2 : Placing) (size n m : ℕ) (v u x : Value) → Grows w w2 → n < 65536 → m < 65536 → ValueIs w 65536 v n → ValueIs w2 65536 u m → (h : AreApart s size v u x) → word_on Sub n m ≡ residue 65536 (pos h.from -ℤ pos h.to)
apart_is s w w2 size n m v u x grows few few2 is is2 h =
    let one : ValueIs w 65536 (Place h.block h.from) n = subst (λ y. ValueIs w 65536 y n) h.left is in
    let two : ValueIs w2 65536 (Place h.block h.to) m = subst (λ y. ValueIs w2 65536 y m) h.right is2 in
    let same : one.0 ≡ two.0 = same_block w2 h.block one.0 two.0 (grows h.block (At one.0) one.1) two.1 in
    let second : m ≡ one.0 + h.to = two.2 ∙ ap (λ a. a + h.to) (sym same) in
    ap (λ k. (k + 65536 - m) % 65536) one.2 ∙ ap (λ k. (one.0 + h.from + 65536 - k) % 65536) second ∙ between one.0 h.from h.to (pos h.from -ℤ pos h.to) (omega (arith, few, one.2)) (omega (arith, few2, second)) refl
