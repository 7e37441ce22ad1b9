-- Which bytes begin which tokens.
use Rattle.std.proofs.Common.{◌≡◌, ℕ, zero, suc, ◌<◌, List, [], ◌∷◌, take, refl, ap, ◌∙◌, arith, Bool, true, false, ◌⊎◌, inl, inr}
use Rattle.std.specs.Prelude.{◌==◌, ◌&&◌, ◌||◌, not, codes}
use Rattle.std.proofs.lemmas.Bool.Decides.{nat_tests}
use Rattle.c65_lex.specs.Spellings.{among, are_all, is_punct1, is_punct2, is_punct3, is_punct, begins_header}

pub eq_is : (a b : ℕ) → (a == b) ≡ true → a ≡ b
eq_is a b h = grind (arith, nat_tests)

pub both : (a b : Bool) → a && b ≡ true → (a ≡ true) × (b ≡ true)
both true b e = (refl, e)
both false b e = absurd cc

pub either : (a b : Bool) → a || b ≡ true → (a ≡ true) ⊎ (b ≡ true)
either true b e = inl refl
either false b e = inr e

pub neither : (a b : Bool) → a || b ≡ false → (a ≡ false) × (b ≡ false)
neither true b e = absurd cc
neither false b e = (refl, e)

pub not_true : (a : Bool) → not a ≡ true → a ≡ false
not_true true e = absurd cc
not_true false e = refl

pub and_false : (a b : Bool) → b ≡ false → a && b ≡ false
and_false true b e = e
and_false false b e = refl

pub no_both : (a : Bool) → a ≡ true → a ≡ false → ⊥
no_both a e f = cc

-- a byte of a class is none that lacks it
pub apart : (p : ℕ → Bool) (b k : ℕ) → p b ≡ true → p k ≡ false → (b == k) ≡ false
apart p b k h l = by (b == k) refl
  where
    by : (t : Bool) → (b == k) ≡ t → t ≡ false
    by true e = absurd (no_both (p b) h (ap p (eq_is b k e) ∙ l))
    by false e = refl

abbrev pub all_fail : (ℕ → Bool) → List ℕ → Bool
all_fail p [] = true
all_fail p (k ∷ ks) = not (p k) && all_fail p ks

abbrev pub all_pass : (ℕ → Bool) → List ℕ → Bool
all_pass p [] = true
all_pass p (k ∷ ks) = p k && all_pass p ks

pub among_passes : (p : ℕ → Bool) (ks : List ℕ) (b : ℕ) → all_pass p ks ≡ true → among ks b ≡ true → p b ≡ true
among_passes p [] b a h = absurd cc
among_passes p (k ∷ ks) b a h = by (either (b == k) (among ks b) h) (both (p k) (all_pass p ks) a) (among_passes p ks b)
  where
    by : ((b == k) ≡ true) ⊎ (among ks b ≡ true) → (p k ≡ true) × (all_pass p ks ≡ true) → (all_pass p ks ≡ true → among ks b ≡ true → p b ≡ true) → p b ≡ true
    by (inl e) q f = ap p (eq_is b k e) ∙ q.0
    by (inr m) q f = f q.1 m

pub among_fails : (p : ℕ → Bool) (ks : List ℕ) (b : ℕ) → all_fail p ks ≡ true → among ks b ≡ true → p b ≡ false
among_fails p ks b a h = not_true (p b) (among_passes (λ x. not (p x)) ks b (same ks a) h)
  where
    same : (ks : List ℕ) → all_fail p ks ≡ true → all_pass (λ x. not (p x)) ks ≡ true
    same ks a = a

abbrev pub puncts : List ℕ
puncts = codes "[](){}.&*+-~!/%<>^|?:=,#;"

pub punct_fails : (p : ℕ → Bool) (b : ℕ) → all_fail p puncts ≡ true → is_punct1 b ≡ true → p b ≡ false
punct_fails p b a h = among_fails p puncts b a h

second_first : (b c : ℕ) → is_punct2 b c ≡ true → is_punct1 b ≡ true
second_first b c h = one (either ((c == 61) && among (codes "<>=!*/%+-&^|") b) (((c == b) && among (codes "+-<>&|#") b) || ((b == 45) && (c == 62))) h)
  where
    two : (((c == b) && among (codes "+-<>&|#") b) ≡ true) ⊎ (((b == 45) && (c == 62)) ≡ true) → is_punct1 b ≡ true
    two (inl e) = among_passes is_punct1 (codes "+-<>&|#") b refl (both (c == b) (among (codes "+-<>&|#") b) e).1
    two (inr e) = ap is_punct1 (eq_is b 45 (both (b == 45) (c == 62) e).0)

    one : (((c == 61) && among (codes "<>=!*/%+-&^|") b) ≡ true) ⊎ ((((c == b) && among (codes "+-<>&|#") b) || ((b == 45) && (c == 62))) ≡ true) → is_punct1 b ≡ true
    one (inl e) = among_passes is_punct1 (codes "<>=!*/%+-&^|") b refl (both (c == 61) (among (codes "<>=!*/%+-&^|") b) e).1
    one (inr e) = two (either ((c == b) && among (codes "+-<>&|#") b) ((b == 45) && (c == 62)) e)

third_first : (b c d : ℕ) → is_punct3 b c d ≡ true → is_punct1 b ≡ true
third_first b c d h = one (either ((c == b) && (among (codes "<>") b && (d == 61))) ((b == 46) && ((c == 46) && (d == 46))) h)
  where
    one : (((c == b) && (among (codes "<>") b && (d == 61))) ≡ true) ⊎ (((b == 46) && ((c == 46) && (d == 46))) ≡ true) → is_punct1 b ≡ true
    one (inl e) = among_passes is_punct1 (codes "<>") b refl (both (among (codes "<>") b) (d == 61) (both (c == b) (among (codes "<>") b && (d == 61)) e).1).0
    one (inr e) = ap is_punct1 (eq_is b 46 (both (b == 46) ((c == 46) && (d == 46)) e).0)

-- the first byte of a punctuator is one
pub punct_first : (b : ℕ) (bs : List ℕ) → is_punct (b ∷ bs) ≡ true → is_punct1 b ≡ true
punct_first b [] h = h
punct_first b (c ∷ []) h = second_first b c h
punct_first b (c ∷ d ∷ []) h = third_first b c d h
punct_first b (c ∷ d ∷ e ∷ bs) h = absurd cc

-- no punctuator that begins with < has a >
pub less_has_no_greater : (bs : List ℕ) → is_punct (60 ∷ bs) ≡ true → are_all (λ x. not (x == 62)) bs ≡ true
less_has_no_greater [] h = refl
less_has_no_greater (c ∷ []) h = grind (arith, nat_tests)
less_has_no_greater (c ∷ d ∷ []) h = grind (arith, nat_tests)
less_has_no_greater (c ∷ d ∷ e ∷ bs) h = absurd cc

-- a header name begins with < or a quote
pub no_header : (b : ℕ) (bs : List ℕ) → (b == 60) ≡ false → (b == 34) ≡ false → begins_header (b ∷ bs) ≡ false
no_header b [] e f = refl
no_header b (c ∷ bs) e f = rw (e, f) refl

-- whether one begins shows at two bytes
pub header_take : (b j : ℕ) (bs : List ℕ) → begins_header (b ∷ take j bs) ≡ true → begins_header (b ∷ bs) ≡ true
header_take b zero bs h = absurd cc
header_take b (suc j) [] h = absurd cc
header_take b (suc j) (c ∷ bs) h = h

pub header_front : (b j : ℕ) (bs : List ℕ) → 0 < j → begins_header (b ∷ bs) ≡ true → begins_header (b ∷ take j bs) ≡ true
header_front b zero bs l h = absurd (omega arith)
header_front b (suc j) [] l h = absurd cc
header_front b (suc j) (c ∷ bs) l h = h
