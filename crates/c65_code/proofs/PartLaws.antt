-- The parts that made sets have.
use Rattle.std.proofs.Common.{◌≡◌, ℕ, zero, suc, ◌+◌, ◌%◌, ◌^◌, ◌<◌, ◌≤◌, ◌==◌, ◌&&◌, ◌||◌, ◌⊎◌, ◌↔◌, not, Bool, true, false, IsTrue, bit_and, bit_or, bit_xor, min, max, refl, sym, ◌∙◌, ap, subst, inl, inr, arith}
use Rattle.std.specs.Int.{bit_at}
use Rattle.std.specs.Bool.{beq}
use Rattle.std.proofs.lemmas.Nat.Bits.{bit_at_or, bit_at_and, bit_at_xor, bit_at-pow_same, bit_at-pow_other, bit_at-lt, bit_at-zero, same_from_bits, bit_at_ones, bit_at_ones_above}
use Rattle.std.proofs.lemmas.Nat.{pow_below}
use Rattle.std.proofs.lemmas.Bool.{cases_eq, eqb-true, eq-eqb, cases_lt, and_parts, and_from}
use Rattle.c65_code.specs.declared.parts.Part.{Part}
use Rattle.c65_code.specs.declared.parts.Part.TheVariants.{A, X, Y, Zp, N, V, Z, C}
use Rattle.c65_code.specs.declared.parts.RegSet.{RegSet}
use Rattle.c65_code.specs.Parts.{IsPart, has_part, no_parts, all_parts, with_part, union_of, minus_of, IsWithin}

pub or_iff : (a b : Bool) → IsTrue (a || b) ↔ (IsTrue a ⊎ IsTrue b)
or_iff true b = (λ _. inl refl, λ _. refl)
or_iff false true = (λ _. inr refl, λ _. refl)
or_iff false false = (λ h. inl h, λ h. elim h as (λ _. IsTrue false) [ inl x ↦ x | inr x ↦ x ])

pub minus_iff : (a b : Bool) → IsTrue (a && not b) ↔ (IsTrue a × ¬ (IsTrue b))
minus_iff true true = (λ h. absurd (let e : true ≡ false = sym h in cc), λ h. absurd (h.1 refl))
minus_iff true false = (λ _. (refl, λ h. cc), λ _. refl)
minus_iff false b = (λ h. absurd (let e : false ≡ true = h in cc), λ h. h.0)

bits_or : (x y : ℕ) → x < 2 → y < 2 → (max x y == 1) ≡ ((x == 1) || (y == 1))
bits_or zero zero p q = refl
bits_or zero (suc zero) p q = refl
bits_or (suc zero) zero p q = refl
bits_or (suc zero) (suc zero) p q = refl
bits_or (suc (suc x)) y p q = absurd (omega arith)
bits_or x (suc (suc y)) p q = absurd (omega arith)

bits_minus : (x y : ℕ) → x < 2 → y < 2 → ((x + min x y) % 2 == 1) ≡ ((x == 1) && not (y == 1))
bits_minus zero zero p q = refl
bits_minus zero (suc zero) p q = refl
bits_minus (suc zero) zero p q = refl
bits_minus (suc zero) (suc zero) p q = refl
bits_minus (suc (suc x)) y p q = absurd (omega arith)
bits_minus x (suc (suc y)) p q = absurd (omega arith)

union_bit : (a b i : ℕ) → (bit_at (bit_or a b) i == 1) ≡ ((bit_at a i == 1) || (bit_at b i == 1))
union_bit a b i = ap (λ n. n == 1) (bit_at_or a b i) ∙ bits_or (bit_at a i) (bit_at b i) (bit_at-lt a i) (bit_at-lt b i)

minus_bit : (a b i : ℕ) → (bit_at (bit_xor a (bit_and a b)) i == 1) ≡ ((bit_at a i == 1) && not (bit_at b i == 1))
minus_bit a b i =
    ap (λ n. n == 1) (bit_at_xor a (bit_and a b) i)
    ∙ (ap (λ n. (bit_at a i + n) % 2 == 1) (bit_at_and a b i)
    ∙ bits_minus (bit_at a i) (bit_at b i) (bit_at-lt a i) (bit_at-lt b i))

pub has_part-union : (s t : RegSet) (p : Part) → has_part (union_of s t) p ≡ (has_part s p || has_part t p)
has_part-union s t A = refl
has_part-union s t X = refl
has_part-union s t Y = refl
has_part-union s t (Zp i) = union_bit s.zero_page t.zero_page i
has_part-union s t N = refl
has_part-union s t V = refl
has_part-union s t Z = refl
has_part-union s t C = refl

pub has_part-minus : (s t : RegSet) (p : Part) → has_part (minus_of s t) p ≡ (has_part s p && not (has_part t p))
has_part-minus s t A = refl
has_part-minus s t X = refl
has_part-minus s t Y = refl
has_part-minus s t (Zp i) = minus_bit s.zero_page t.zero_page i
has_part-minus s t N = refl
has_part-minus s t V = refl
has_part-minus s t Z = refl
has_part-minus s t C = refl

same_bits : (x y : ℕ) → x < 2 → y < 2 → (x == 1) ≡ (y == 1) → x ≡ y
same_bits zero zero p q e = refl
same_bits zero (suc zero) p q e = absurd (let f : false ≡ true = e in cc)
same_bits (suc zero) zero p q e = absurd (let f : true ≡ false = e in cc)
same_bits (suc zero) (suc zero) p q e = refl
same_bits (suc (suc x)) y p q e = absurd (omega arith)
same_bits x (suc (suc y)) p q e = absurd (omega arith)

same_bit : (a b i : ℕ) → (bit_at a i == 1) ≡ (bit_at b i == 1) → bit_at a i ≡ bit_at b i
same_bit a b i e = same_bits (bit_at a i) (bit_at b i) (bit_at-lt a i) (bit_at-lt b i) e

make : Bool → Bool → Bool → Bool → Bool → Bool → Bool → ℕ → RegSet
make a x y n v z c zero_page = record { a = a; x = x; y = y; n = n; v = v; z = z; c = c; zero_page = zero_page }

made : (s : RegSet) → s ≡ make s.a s.x s.y s.n s.v s.z s.c s.zero_page
unfolding make
made s = refl

-- sets with the same parts are equal
pub same_parts : (s t : RegSet) → ((p : Part) → has_part s p ≡ has_part t p) → s ≡ t
same_parts s t h =
    made s ∙ (congruent ∙ sym (made t))
  where
    congruent : make s.a s.x s.y s.n s.v s.z s.c s.zero_page ≡ make t.a t.x t.y t.n t.v t.z t.c t.zero_page
    congruent =
        let a : s.a ≡ t.a = h A in
        let x : s.x ≡ t.x = h X in
        let y : s.y ≡ t.y = h Y in
        let n : s.n ≡ t.n = h N in
        let v : s.v ≡ t.v = h V in
        let z : s.z ≡ t.z = h Z in
        let c : s.c ≡ t.c = h C in
        let zero_page : s.zero_page ≡ t.zero_page = same_from_bits s.zero_page t.zero_page (λ i. same_bit s.zero_page t.zero_page i (h (Zp i))) in
        cc

pub has_part-empty : (p : Part) → has_part no_parts p ≡ false
has_part-empty A = refl
has_part-empty X = refl
has_part-empty Y = refl
has_part-empty (Zp i) = ap (λ n. n == 1) (bit_at-zero i)
has_part-empty N = refl
has_part-empty V = refl
has_part-empty Z = refl
has_part-empty C = refl

pub all_iff : (p : Part) → IsTrue (has_part all_parts p) ↔ IsPart p
all_iff A = (λ _. tt, λ _. refl)
all_iff X = (λ _. tt, λ _. refl)
all_iff Y = (λ _. tt, λ _. refl)
all_iff (Zp i) = elim (cases_lt i 26) as (λ _. IsTrue (bit_at 0x3FFFFFF i == 1) ↔ (i < 26)) [
  | inl low ↦ (λ _. low, λ _. ap (λ n. n == 1) (bit_at_ones 26 i low))
  | inr high ↦ (λ h. absurd (let e : false ≡ true = sym (ap (λ n. n == 1) (bit_at_ones_above 26 i high)) ∙ h in cc), λ h. absurd (omega arith))
]
all_iff N = (λ _. tt, λ _. refl)
all_iff V = (λ _. tt, λ _. refl)
all_iff Z = (λ _. tt, λ _. refl)
all_iff C = (λ _. tt, λ _. refl)

-- one part more
with_byte : (a i j : ℕ) → IsTrue (bit_at (bit_or a (2 ^ i)) j == 1) ↔ ((Zp j ≡ Zp i) ⊎ IsTrue (bit_at a j == 1))
with_byte a i j = elim (cases_eq j i) as (λ _. IsTrue (bit_at (bit_or a (2 ^ i)) j == 1) ↔ ((Zp j ≡ Zp i) ⊎ IsTrue (bit_at a j == 1))) [
  | inl e ↦ (λ _. inl (ap Zp e), λ _. union_bit a (2 ^ i) j ∙ subst (λ k. ((bit_at a k == 1) || (bit_at (2 ^ i) k == 1)) ≡ true) (sym e) (ap (λ n. (bit_at a i == 1) || (n == 1)) (bit_at-pow_same i) ∙ or_true (bit_at a i == 1)))
  | inr ne ↦ (λ h. inr (sym (or_false (bit_at a j == 1)) ∙ (sym (other j i ne) ∙ (sym (union_bit a (2 ^ i) j) ∙ h))), λ h. elim h as (λ _. IsTrue (bit_at (bit_or a (2 ^ i)) j == 1)) [ inl e ↦ absurd (ne (same_byte e)) | inr e ↦ union_bit a (2 ^ i) j ∙ (other j i ne ∙ (or_false (bit_at a j == 1) ∙ e)) ])
]
  where
    or_true : (b : Bool) → (b || true) ≡ true
    or_true true = refl
    or_true false = refl

    or_false : (b : Bool) → (b || false) ≡ b
    or_false true = refl
    or_false false = refl

    other : (j i : ℕ) → (j ≡ i → ⊥) → ((bit_at a j == 1) || (bit_at (2 ^ i) j == 1)) ≡ ((bit_at a j == 1) || false)
    other j i ne = ap (λ n. (bit_at a j == 1) || (n == 1)) (bit_at-pow_other i j ne)

    same_byte : Zp j ≡ Zp i → j ≡ i
    same_byte e = cc

pub with_iff : (s : RegSet) (p q : Part) → IsTrue (has_part (with_part p s) q) ↔ ((q ≡ p) ⊎ IsTrue (has_part s q))
with_iff s (Zp i) (Zp j) = with_byte s.zero_page i j
with_iff s (Zp i) A = (λ h. inr h, λ h. elim h [ inl e ↦ absurd cc | inr e ↦ e ])
with_iff s (Zp i) X = (λ h. inr h, λ h. elim h [ inl e ↦ absurd cc | inr e ↦ e ])
with_iff s (Zp i) Y = (λ h. inr h, λ h. elim h [ inl e ↦ absurd cc | inr e ↦ e ])
with_iff s (Zp i) N = (λ h. inr h, λ h. elim h [ inl e ↦ absurd cc | inr e ↦ e ])
with_iff s (Zp i) V = (λ h. inr h, λ h. elim h [ inl e ↦ absurd cc | inr e ↦ e ])
with_iff s (Zp i) Z = (λ h. inr h, λ h. elim h [ inl e ↦ absurd cc | inr e ↦ e ])
with_iff s (Zp i) C = (λ h. inr h, λ h. elim h [ inl e ↦ absurd cc | inr e ↦ e ])
with_iff s A A = (λ _. inl refl, λ _. refl)
with_iff s X X = (λ _. inl refl, λ _. refl)
with_iff s Y Y = (λ _. inl refl, λ _. refl)
with_iff s N N = (λ _. inl refl, λ _. refl)
with_iff s V V = (λ _. inl refl, λ _. refl)
with_iff s Z Z = (λ _. inl refl, λ _. refl)
with_iff s C C = (λ _. inl refl, λ _. refl)
with_iff s p q = (λ h. inr h, λ h. elim h [ inl e ↦ absurd cc | inr e ↦ e ])

beq-true : (a b : Bool) → beq a b ≡ true → a ≡ b
beq-true true true e = refl
beq-true false false e = refl
beq-true true false e = absurd (let f : false ≡ true = e in cc)
beq-true false true e = absurd (let f : false ≡ true = e in cc)

beq-same : (a : Bool) → beq a a ≡ true
beq-same true = refl
beq-same false = refl

-- the comparison of two sets part by part
abbrev pub are_same : RegSet → RegSet → Bool
are_same s t = beq s.a t.a && (beq s.x t.x && (beq s.y t.y && (beq s.n t.n && (beq s.v t.v && (beq s.z t.z && (beq s.c t.c && (s.zero_page == t.zero_page)))))))

pub are_same-itself : (s : RegSet) → are_same s s ≡ true
are_same-itself s = and_from _ _ (beq-same s.a) (and_from _ _ (beq-same s.x) (and_from _ _ (beq-same s.y) (and_from _ _ (beq-same s.n) (and_from _ _ (beq-same s.v) (and_from _ _ (beq-same s.z) (and_from _ _ (beq-same s.c) (eq-eqb s.zero_page s.zero_page refl)))))))

pub are_same-equal : (s t : RegSet) → are_same s t ≡ true → s ≡ t
are_same-equal s t h =
    let a = and_parts _ _ h in
    let x = and_parts _ _ a.1 in
    let y = and_parts _ _ x.1 in
    let n = and_parts _ _ y.1 in
    let v = and_parts _ _ n.1 in
    let z = and_parts _ _ v.1 in
    let c = and_parts _ _ z.1 in
    same_parts s t (λ p. same_at p (beq-true _ _ a.0) (beq-true _ _ x.0) (beq-true _ _ y.0) (beq-true _ _ n.0) (beq-true _ _ v.0) (beq-true _ _ z.0) (beq-true _ _ c.0) (eqb-true s.zero_page t.zero_page c.1))
  where
    same_at : (p : Part) → s.a ≡ t.a → s.x ≡ t.x → s.y ≡ t.y → s.n ≡ t.n → s.v ≡ t.v → s.z ≡ t.z → s.c ≡ t.c → s.zero_page ≡ t.zero_page → has_part s p ≡ has_part t p
    same_at A a x y n v z c b = a
    same_at X a x y n v z c b = x
    same_at Y a x y n v z c b = y
    same_at (Zp i) a x y n v z c b = ap (λ k. bit_at k i == 1) b
    same_at N a x y n v z c b = n
    same_at V a x y n v z c b = v
    same_at Z a x y n v z c b = z
    same_at C a x y n v z c b = c

pub within_iff : (s t : RegSet) → (minus_of s t ≡ no_parts) ↔ IsWithin s t
within_iff s t = (
  λ e p h. not_not (has_part t p) (λ out. bad (sym (has_part-minus s t p ∙ (ap (λ b. b && not (has_part t p)) h ∙ ap not out)) ∙ (ap (λ r. has_part r p) e ∙ has_part-empty p))),
  λ h. same_parts (minus_of s t) no_parts (λ p. has_part-minus s t p ∙ (gone (has_part s p) (has_part t p) (h p) ∙ sym (has_part-empty p))),
)
  where
    not_not : (b : Bool) → (b ≡ false → ⊥) → b ≡ true
    not_not true h = refl
    not_not false h = absurd (h refl)

    bad : true ≡ false → ⊥
    bad e = cc

    gone : (a b : Bool) → (a ≡ true → b ≡ true) → (a && not b) ≡ false
    gone false b h = refl
    gone true b h = ap not (h refl)

pub pow_at_most : (i j : ℕ) → i ≤ j → 2 ^ i ≤ 2 ^ j
pow_at_most i j h = elim (cases_lt i j) as (λ _. 2 ^ i ≤ 2 ^ j) [ inl lt ↦ omega (arith, pow_below i j lt) | inr ge ↦ let e : i ≡ j = omega arith in subst (λ k. 2 ^ i ≤ 2 ^ k) e (omega arith) ]
