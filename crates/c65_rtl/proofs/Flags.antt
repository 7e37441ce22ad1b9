-- What the flags tell after words were compared.
use Rattle.std.proofs.Common.{◌≡◌, ◌≢◌, ℕ, ◌+◌, ◌/◌, ◌%◌, ◌<◌, ◌≤◌, ◌⊎◌, inl, inr, Bool, true, false, not, nat_eq, refl, sym, ap, ◌∙◌, arith}
use Rattle.std.specs.Prelude.{if◌then◌else◌, nat_lt, nat_le, bit_and, bit_or, bit_xor}
use Rattle.std.proofs.lemmas.Nat.{and_le_l, and_le_r, le_or_l, le_or_r, and_shr, xor_shr, xor_of_8}
use Rattle.std.specs.Int.Bits.{or_add_and, xor_add_and, xor_self}
use Rattle.std.proofs.lemmas.Bool.Decides.{leb_tells, eqb_tells}
use Rattle.c65_mach.specs.Step.{is_not, negative}
use Rattle.c65_code.specs.Numbers.{truth}
use Rattle.c65_rtl.proofs.Widenings.{below_is, not_below}

-- tests that hold together
pub le_same : (a b c d : ℕ) → (a ≤ b → c ≤ d) → (c ≤ d → a ≤ b) → nat_le a b ≡ nat_le c d
le_same a b c d to from = by (leb_tells a b) (leb_tells c d)
  where
    by : ((nat_le a b ≡ true) × (a ≤ b)) ⊎ ((nat_le a b ≡ false) × (b < a)) → ((nat_le c d ≡ true) × (c ≤ d)) ⊎ ((nat_le c d ≡ false) × (d < c)) → nat_le a b ≡ nat_le c d
    by (inl p) (inl q) = p.0 ∙ sym q.0
    by (inl p) (inr q) = let h = to p.1 in let g = q.1 in absurd (omega arith)
    by (inr p) (inl q) = let h = from q.1 in let g = p.1 in absurd (omega arith)
    by (inr p) (inr q) = p.0 ∙ sym q.0

pub eq_same : (a b c d : ℕ) → (a ≡ b → c ≡ d) → (c ≡ d → a ≡ b) → nat_eq a b ≡ nat_eq c d
eq_same a b c d to from = by (eqb_tells a b) (eqb_tells c d)
  where
    by : ((nat_eq a b ≡ true) × (a ≡ b)) ⊎ ((nat_eq a b ≡ false) × (a ≢ b)) → ((nat_eq c d ≡ true) × (c ≡ d)) ⊎ ((nat_eq c d ≡ false) × (c ≢ d)) → nat_eq a b ≡ nat_eq c d
    by (inl p) (inl q) = p.0 ∙ sym q.0
    by (inl p) (inr q) = absurd (q.1 (to p.1))
    by (inr p) (inl q) = absurd (p.1 (from q.1))
    by (inr p) (inr q) = p.0 ∙ sym q.0

pub not_le : (a b : ℕ) → nat_le a b ≡ not (nat_lt b a)
not_le a b = by (leb_tells a b)
  where
    by : ((nat_le a b ≡ true) × (a ≤ b)) ⊎ ((nat_le a b ≡ false) × (b < a)) → nat_le a b ≡ not (nat_lt b a)
    by (inl p) = p.0 ∙ sym (ap not (not_below b a p.1))
    by (inr p) = p.0 ∙ sym (ap not (below_is b a p.1))

pub is_not_not : (b : Bool) → is_not b ≡ not b
is_not_not true = refl
is_not_not false = refl

pub not_not : (b : Bool) → b ≡ not (not b)
not_not true = refl
not_not false = refl

-- the truth of a test, from the branch that is taken where it fails
pub record Decided (taken test : Bool) : Type 0 where
  pub a : (if taken then 0 else 1) ≡ truth test % 256
  pub x : 0 ≡ truth test / 256 % 256

pub decided : (taken test : Bool) → taken ≡ not test → Decided taken test
decided true true e = absurd (let f : true ≡ false = e in cc)
decided true false e = record { a = refl; x = refl }
decided false true e = record { a = refl; x = refl }
decided false false e = absurd (let f : false ≡ true = e in cc)

-- bytes that differ in no bit
pub xor_none : (a b : ℕ) → bit_xor a b ≡ 0 → a ≡ b
xor_none a b none =
    let sum = xor_add_and a b in
    let l = and_le_l a b in
    let r = and_le_r a b in
    omega arith

pub xor_same : (a b : ℕ) → a ≡ b → bit_xor a b ≡ 0
xor_same a b e = ap (λ (k : ℕ). bit_xor a k) (sym e) ∙ xor_self a

pub or_none_left : (a b : ℕ) → bit_or a b ≡ 0 → a ≡ 0
or_none_left a b none = let l = le_or_l a b in omega arith

pub or_none_right : (a b : ℕ) → bit_or a b ≡ 0 → b ≡ 0
or_none_right a b none = let r = le_or_r a b in omega arith

pub or_both : (a b : ℕ) → a ≡ 0 → b ≡ 0 → bit_or a b ≡ 0
or_both a b ea eb = let sum = or_add_and a b in omega arith

-- the highest bit of a byte
sign_bit : (n : ℕ) → n < 256 → ((negative n ≡ true) × (n / 128 ≡ 1)) ⊎ ((negative n ≡ false) × (n / 128 ≡ 0))
sign_bit n small = by (leb_tells 128 n)
  where
    by : ((nat_le 128 n ≡ true) × (128 ≤ n)) ⊎ ((nat_le 128 n ≡ false) × (n < 128)) → ((negative n ≡ true) × (n / 128 ≡ 1)) ⊎ ((negative n ≡ false) × (n / 128 ≡ 0))
    by (inl p) = let h = p.1 in inl (p.0, omega arith)
    by (inr p) = let h = p.1 in inr (p.0, omega arith)

-- negative where the half is 1
negative_by : (n k : ℕ) → n < 256 → n / 128 ≡ k → negative n ≡ nat_eq k 1
negative_by n k small e = by (sign_bit n small)
  where
    by : ((negative n ≡ true) × (n / 128 ≡ 1)) ⊎ ((negative n ≡ false) × (n / 128 ≡ 0)) → negative n ≡ nat_eq k 1
    by (inl p) = p.0 ∙ ap (λ (j : ℕ). nat_eq j 1) (sym p.1 ∙ e)
    by (inr p) = p.0 ∙ ap (λ (j : ℕ). nat_eq j 1) (sym p.1 ∙ e)

abbrev pub differ : Bool → Bool → Bool
differ a b = if a then is_not b else b

abbrev pub both : Bool → Bool → Bool
both a b = if a then b else false

negative_xor : (p q : ℕ) → p < 256 → q < 256 → negative (bit_xor p q) ≡ differ (negative p) (negative q)
negative_xor p q lp lq = by (sign_bit p lp) (sign_bit q lq)
  where
    small : bit_xor p q < 256
    small = xor_of_8 p q lp lq

    half : bit_xor p q / 128 ≡ bit_xor (p / 128) (q / 128)
    half = xor_shr p q 7

    by : ((negative p ≡ true) × (p / 128 ≡ 1)) ⊎ ((negative p ≡ false) × (p / 128 ≡ 0)) → ((negative q ≡ true) × (q / 128 ≡ 1)) ⊎ ((negative q ≡ false) × (q / 128 ≡ 0)) → negative (bit_xor p q) ≡ differ (negative p) (negative q)
    by (inl a) (inl b) = negative_by (bit_xor p q) 0 small (half ∙ (ap (λ (k : ℕ). bit_xor k (q / 128)) a.1 ∙ ap (λ (k : ℕ). bit_xor 1 k) b.1)) ∙ sym (ap (λ (k : Bool). differ k (negative q)) a.0 ∙ ap (λ (k : Bool). differ true k) b.0)
    by (inl a) (inr b) = negative_by (bit_xor p q) 1 small (half ∙ (ap (λ (k : ℕ). bit_xor k (q / 128)) a.1 ∙ ap (λ (k : ℕ). bit_xor 1 k) b.1)) ∙ sym (ap (λ (k : Bool). differ k (negative q)) a.0 ∙ ap (λ (k : Bool). differ true k) b.0)
    by (inr a) (inl b) = negative_by (bit_xor p q) 1 small (half ∙ (ap (λ (k : ℕ). bit_xor k (q / 128)) a.1 ∙ ap (λ (k : ℕ). bit_xor 0 k) b.1)) ∙ sym (ap (λ (k : Bool). differ k (negative q)) a.0 ∙ ap (λ (k : Bool). differ false k) b.0)
    by (inr a) (inr b) = negative_by (bit_xor p q) 0 small (half ∙ (ap (λ (k : ℕ). bit_xor k (q / 128)) a.1 ∙ ap (λ (k : ℕ). bit_xor 0 k) b.1)) ∙ sym (ap (λ (k : Bool). differ k (negative q)) a.0 ∙ ap (λ (k : Bool). differ false k) b.0)

negative_and : (p q : ℕ) → p < 256 → q < 256 → negative (bit_and p q) ≡ both (negative p) (negative q)
negative_and p q lp lq = by (sign_bit p lp) (sign_bit q lq)
  where
    small : bit_and p q < 256
    small = let le = and_le_l p q in omega arith

    half : bit_and p q / 128 ≡ bit_and (p / 128) (q / 128)
    half = and_shr p q 7

    by : ((negative p ≡ true) × (p / 128 ≡ 1)) ⊎ ((negative p ≡ false) × (p / 128 ≡ 0)) → ((negative q ≡ true) × (q / 128 ≡ 1)) ⊎ ((negative q ≡ false) × (q / 128 ≡ 0)) → negative (bit_and p q) ≡ both (negative p) (negative q)
    by (inl a) (inl b) = negative_by (bit_and p q) 1 small (half ∙ (ap (λ (k : ℕ). bit_and k (q / 128)) a.1 ∙ ap (λ (k : ℕ). bit_and 1 k) b.1)) ∙ sym (ap (λ (k : Bool). both k (negative q)) a.0 ∙ ap (λ (k : Bool). both true k) b.0)
    by (inl a) (inr b) = negative_by (bit_and p q) 0 small (half ∙ (ap (λ (k : ℕ). bit_and k (q / 128)) a.1 ∙ ap (λ (k : ℕ). bit_and 1 k) b.1)) ∙ sym (ap (λ (k : Bool). both k (negative q)) a.0 ∙ ap (λ (k : Bool). both true k) b.0)
    by (inr a) (inl b) = negative_by (bit_and p q) 0 small (half ∙ (ap (λ (k : ℕ). bit_and k (q / 128)) a.1 ∙ ap (λ (k : ℕ). bit_and 0 k) b.1)) ∙ sym (ap (λ (k : Bool). both k (negative q)) a.0 ∙ ap (λ (k : Bool). both false k) b.0)
    by (inr a) (inr b) = negative_by (bit_and p q) 0 small (half ∙ (ap (λ (k : ℕ). bit_and k (q / 128)) a.1 ∙ ap (λ (k : ℕ). bit_and 0 k) b.1)) ∙ sym (ap (λ (k : Bool). both k (negative q)) a.0 ∙ ap (λ (k : Bool). both false k) b.0)

-- N, turned where V is set
abbrev pub flipped : Bool → Bool → Bool
flipped v n = differ v n

pub negative_turned : (a : ℕ) → a < 256 → negative (bit_xor a 128) ≡ is_not (negative a)
negative_turned a small = negative_xor a 128 small (omega arith) ∙ swapped (negative a)
  where
    swapped : (b : Bool) → differ b true ≡ is_not b
    swapped true = refl
    swapped false = refl

-- the sign of a sum of signed bytes
sign_cases : (x w c low : ℕ) → x < 256 → w < 256 → c ≤ 1 → low ≡ (x + w + c) % 256
    → ((negative x ≡ true) × (x / 128 ≡ 1)) ⊎ ((negative x ≡ false) × (x / 128 ≡ 0)) → ((negative w ≡ true) × (w / 128 ≡ 1)) ⊎ ((negative w ≡ false) × (w / 128 ≡ 0)) → ((negative low ≡ true) × (low / 128 ≡ 1)) ⊎ ((negative low ≡ false) × (low / 128 ≡ 0))
    → flipped (both (differ (negative x) (negative low)) (differ (negative w) (negative low))) (negative low) ≡ nat_lt ((x + 128) % 256 + (w + 128) % 256 + c) 256
sign_cases x w c low lx lw lc e (inl p) (inl q) (inl r) = let h = p.1 in let g = q.1 in rw (p.0, q.0, r.0) (sym (below_is ((x + 128) % 256 + (w + 128) % 256 + c) 256 (omega arith)))
sign_cases x w c low lx lw lc e (inl p) (inl q) (inr r) = let h = p.1 in let g = q.1 in rw (p.0, q.0, r.0) (sym (below_is ((x + 128) % 256 + (w + 128) % 256 + c) 256 (omega arith)))
sign_cases x w c low lx lw lc e (inr p) (inr q) (inl r) = let h = p.1 in let g = q.1 in rw (p.0, q.0, r.0) (sym (not_below ((x + 128) % 256 + (w + 128) % 256 + c) 256 (omega arith)))
sign_cases x w c low lx lw lc e (inr p) (inr q) (inr r) = let h = p.1 in let g = q.1 in rw (p.0, q.0, r.0) (sym (not_below ((x + 128) % 256 + (w + 128) % 256 + c) 256 (omega arith)))
sign_cases x w c low lx lw lc e (inl p) (inr q) (inl r) = let h = p.1 in let g = q.1 in let i = r.1 in rw (p.0, q.0, r.0) (sym (below_is ((x + 128) % 256 + (w + 128) % 256 + c) 256 (omega arith)))
sign_cases x w c low lx lw lc e (inl p) (inr q) (inr r) = let h = p.1 in let g = q.1 in let i = r.1 in rw (p.0, q.0, r.0) (sym (not_below ((x + 128) % 256 + (w + 128) % 256 + c) 256 (omega arith)))
sign_cases x w c low lx lw lc e (inr p) (inl q) (inl r) = let h = p.1 in let g = q.1 in let i = r.1 in rw (p.0, q.0, r.0) (sym (below_is ((x + 128) % 256 + (w + 128) % 256 + c) 256 (omega arith)))
sign_cases x w c low lx lw lc e (inr p) (inl q) (inr r) = let h = p.1 in let g = q.1 in let i = r.1 in rw (p.0, q.0, r.0) (sym (not_below ((x + 128) % 256 + (w + 128) % 256 + c) 256 (omega arith)))

pub sign_of_sum : (x w c : ℕ) → x < 256 → w < 256 → c ≤ 1
    → flipped (negative (bit_and (bit_xor x ((x + w + c) % 256)) (bit_xor w ((x + w + c) % 256)))) (negative ((x + w + c) % 256)) ≡ nat_lt ((x + 128) % 256 + (w + 128) % 256 + c) 256
sign_of_sum x w c lx lw lc =
    let low : ℕ = (x + w + c) % 256 in
    let ll : low < 256 = omega arith in
    let v : negative (bit_and (bit_xor x low) (bit_xor w low)) ≡ both (differ (negative x) (negative low)) (differ (negative w) (negative low)) =
    negative_and (bit_xor x low) (bit_xor w low) (xor_of_8 x low lx ll) (xor_of_8 w low lw ll)
    ∙ (ap (λ (k : Bool). both k (negative (bit_xor w low))) (negative_xor x low lx ll) ∙ ap (λ (k : Bool). both (differ (negative x) (negative low)) k) (negative_xor w low lw ll)) in
    ap (λ (k : Bool). flipped k (negative low)) v ∙ sign_cases x w c low lx lw lc refl (sign_bit x lx) (sign_bit w lw) (sign_bit low ll)
