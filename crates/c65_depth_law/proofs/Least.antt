-- Rounds stay below all numbers that cover the costs.
use Rattle.std.proofs.Common.{◌≡◌, ℕ, zero, suc, ◌+◌, ◌<◌, ◌≤◌, ◌⊎◌, inl, inr, List, [], ◌∷◌, ◌++◌, length, Option, Some, None, slice_get, refl, sym, ap, ◌∙◌, subst, arith}
use Rattle.c65_depth.specs.declared.calls.Call.{Call}
use Rattle.c65_depth.specs.declared.facts.Facts.{Facts}
use Rattle.c65_depth.specs.declared.numbers.Numbers.{Numbers}
use Rattle.c65_depth.specs.Facts.{calls_at}
use Rattle.c65_depth.specs.Numbers.{flat, or_zero, zero_numbers, numbers_of, greatest_soft, greatest_hard, raised, numbers_after}
use Rattle.c65_depth.specs.Tables.{each}
use Rattle.c65_depth_law.specs.Least.{AnyNames, AreCovering, IsAtMost}

-- ---- tables

pub each_long : {A : Type 0} (n : ℕ) (h : ℕ → A) → length (each n h) ≡ n
each_long zero h = refl
each_long (suc n) h = snoc_long (each n h) (h n) ∙ ap suc (each_long n h)
  where
    snoc_long : {A : Type 0} (xs : List A) (x : A) → length (xs ++ x ∷ []) ≡ suc (length xs)
    snoc_long [] x = refl
    snoc_long (y ∷ xs) x = ap suc (snoc_long xs x)

-- an entry of a longer list: one of the list, or the new one
snoc_get : {A : Type 0} (xs : List A) (x : A) (f : ℕ) → (slice_get (xs ++ x ∷ []) f ≡ slice_get xs f) ⊎ ((f ≡ length xs) × (slice_get (xs ++ x ∷ []) f ≡ Some x))
snoc_get [] x zero = inr (refl, refl)
snoc_get [] x (suc f) = inl refl
snoc_get (y ∷ xs) x zero = inl refl
snoc_get (y ∷ xs) x (suc f) = later (snoc_get xs x f)
  where
    later : (slice_get (xs ++ x ∷ []) f ≡ slice_get xs f) ⊎ ((f ≡ length xs) × (slice_get (xs ++ x ∷ []) f ≡ Some x)) → (slice_get (xs ++ x ∷ []) f ≡ slice_get xs f) ⊎ ((suc f ≡ suc (length xs)) × (slice_get (xs ++ x ∷ []) f ≡ Some x))
    later (inl e) = inl e
    later (inr e) = inr (ap suc e.0, e.1)

pub each_get : {A : Type 0} (n : ℕ) (h : ℕ → A) (f : ℕ) → (slice_get (each n h) f ≡ None) ⊎ (slice_get (each n h) f ≡ Some (h f))
each_get zero h f = inl refl
each_get (suc n) h f = by_last (snoc_get (each n h) (h n) f) (each_get n h f)
  where
    by_last : (slice_get (each (suc n) h) f ≡ slice_get (each n h) f) ⊎ ((f ≡ length (each n h)) × (slice_get (each (suc n) h) f ≡ Some (h n))) → (slice_get (each n h) f ≡ None) ⊎ (slice_get (each n h) f ≡ Some (h f)) → (slice_get (each (suc n) h) f ≡ None) ⊎ (slice_get (each (suc n) h) f ≡ Some (h f))
    by_last (inl e) (inl w) = inl (e ∙ w)
    by_last (inl e) (inr w) = inr (e ∙ w)
    by_last (inr e) w = inr (e.1 ∙ ap (λ i. Some (h i)) (sym (e.0 ∙ each_long n h)))

none_within : {A : Type 0} (xs : List A) (f : ℕ) → f < length xs → slice_get xs f ≡ None → ⊥
none_within [] f few e = omega arith
none_within (x ∷ xs) zero few e = cc
none_within (x ∷ xs) (suc f) few e = none_within xs f (omega (arith, few)) e

-- an entry of the table
pub each_has : {A : Type 0} (n : ℕ) (h : ℕ → A) (f : ℕ) → f < n → slice_get (each n h) f ≡ Some (h f)
each_has n h f few = by_entry (each_get n h f)
  where
    by_entry : (slice_get (each n h) f ≡ None) ⊎ (slice_get (each n h) f ≡ Some (h f)) → slice_get (each n h) f ≡ Some (h f)
    by_entry (inr e) = e
    by_entry (inl e) = absurd (none_within (each n h) f (let long = each_long n h in omega (arith, few, long)) e)

-- ---- bounds

pub zero_least : (m : Numbers) → IsAtMost zero_numbers m
zero_least m = record { soft = omega arith; hard = omega arith }

entry_least : (n : ℕ) (h : ℕ → Numbers) (f : ℕ) (m : Numbers) → IsAtMost (h f) m → IsAtMost (or_zero (slice_get (each n h) f)) m
entry_least n h f m least = by_entry (slice_get (each n h) f) (each_get n h f)
  where
    by_entry : (o : Option Numbers) → (o ≡ None) ⊎ (o ≡ Some (h f)) → IsAtMost (or_zero o) m
    by_entry o (inl e) = subst (λ (o : Option Numbers). IsAtMost (or_zero o) m) (sym e) (zero_least m)
    by_entry o (inr e) = subst (λ (o : Option Numbers). IsAtMost (or_zero o) m) (sym e) least

module _ (all : List Numbers) (numbers : ℕ → Numbers) (below : (h : ℕ) → IsAtMost (or_zero (slice_get all h)) (numbers h)) where
  pub soft_bound : (cost n : ℕ) (calls : List Call) → cost ≤ n → ((h : ℕ) → AnyNames h calls → cost + (numbers h).soft ≤ n) → cost + greatest_soft all calls ≤ n
  soft_bound cost n [] own covers = omega (arith, own)
  soft_bound cost n (c ∷ calls) own covers =
      let rest = soft_bound cost n calls own (λ h told. covers h (inr told)) in
      let one = one_soft c.callee (λ h is. covers h (inl is)) in
      omega (arith, rest, one)
    where
      one_soft : (callee : Option ℕ) → ((h : ℕ) → callee ≡ Some h → cost + (numbers h).soft ≤ n) → cost + (numbers_of all callee).soft ≤ n
      one_soft None f = omega (arith, own)
      one_soft (Some h) f = let b = (below h).soft in let w = f h refl in omega (arith, b, w)

  pub hard_bound : (n : ℕ) (calls : List Call) → 2 ≤ n → ((h : ℕ) → AnyNames h calls → 2 + (numbers h).hard ≤ n) → 2 + greatest_hard all calls ≤ n
  hard_bound n [] own covers = omega (arith, own)
  hard_bound n (c ∷ calls) own covers =
      let rest = hard_bound n calls own (λ h told. covers h (inr told)) in
      let one = one_hard c.callee (λ h is. covers h (inl is)) in
      omega (arith, rest, one)
    where
      one_hard : (callee : Option ℕ) → ((h : ℕ) → callee ≡ Some h → 2 + (numbers h).hard ≤ n) → 2 + (numbers_of all callee).hard ≤ n
      one_hard None f = omega (arith, own)
      one_hard (Some h) f = let b = (below h).hard in let w = f h refl in omega (arith, b, w)

-- ---- rounds

module _ (g : List Facts) (costs : List (Option ℕ)) (numbers : ℕ → Numbers) (covers : AreCovering g costs numbers) where
  raised_least : (all : List Numbers) → ((h : ℕ) → IsAtMost (or_zero (slice_get all h)) (numbers h)) → (f : ℕ) (o : Option ℕ) → flat (slice_get costs f) ≡ o → IsAtMost (raised all (calls_at g f) o) (numbers f)
  raised_least all below f None is = zero_least (numbers f)
  raised_least all below f (Some cost) is =
      let soft = soft_bound all numbers below cost (numbers f).soft (calls_at g f) (covers.own_soft f cost is) (λ h told. covers.soft f cost h is told) in
      let hard = hard_bound all numbers below (numbers f).hard (calls_at g f) (covers.own_hard f cost is) (λ h told. covers.hard f cost h is told) in
      record { soft = omega (arith, soft); hard = omega (arith, hard) }

  pub rounds_least : (k f : ℕ) → IsAtMost (or_zero (slice_get (numbers_after g costs k) f)) (numbers f)
  rounds_least zero f = entry_least (length g) (λ i. zero_numbers) f (numbers f) (zero_least (numbers f))
  rounds_least (suc k) f =
      entry_least (length g) (λ i. raised (numbers_after g costs k) (calls_at g i) (flat (slice_get costs i))) f (numbers f)
      (raised_least (numbers_after g costs k) (rounds_least k) f (flat (slice_get costs f)) refl)
