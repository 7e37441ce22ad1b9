-- Rounds of marks: after as many as there are functions one more changes nothing.
use Rattle.std.proofs.Common.{◌≡◌, ℕ, zero, suc, ◌<◌, ◌≤◌, ◌||◌, ◌⊎◌, inl, inr, Bool, true, false, List, [], ◌∷◌, ◌++◌, length, Option, Some, None, slice_get, refl, sym, ap, ◌∙◌, arith}
use Rattle.std.specs.Prelude.{⊤, ◌==◌}
use Rattle.std.proofs.lemmas.Option.{slice_get_within}
use Rattle.c65_depth.specs.declared.calls.Call.{Call}
use Rattle.c65_depth.specs.declared.facts.Facts.{Facts}
use Rattle.c65_depth.specs.Facts.{calls_in, calls_at}
use Rattle.c65_depth.specs.Reached.{is_marked, leads_by, any_leads, next_leads, leads_after}
use Rattle.c65_depth.specs.Tables.{each}
use Rattle.c65_depth_law.proofs.Least.{each_get, each_has, each_long}
use Rattle.c65_depth_law_ways.proofs.Calls.{either_true, left_true, right_true}

abbrev pub marked : List Bool → ℕ → Bool
marked marks f = is_marked (slice_get marks f)

-- ---- more and more marks

abbrev pub trues : List Bool → ℕ
trues [] = 0
trues (true ∷ xs) = suc (trues xs)
trues (false ∷ xs) = trues xs

-- what is marked in one list is marked in the other
abbrev pub Under : List Bool → List Bool → Type 0
Under [] [] = ⊤
Under [] (y ∷ ys) = ⊥
Under (x ∷ xs) [] = ⊥
Under (x ∷ xs) (y ∷ ys) = (x ≡ true → y ≡ true) × Under xs ys

pub trues_few : (xs : List Bool) → trues xs ≤ length xs
trues_few [] = omega arith
trues_few (true ∷ xs) = let rest = trues_few xs in omega (arith, rest)
trues_few (false ∷ xs) = let rest = trues_few xs in omega (arith, rest)

same_or_more : (n m : ℕ) (xs ys : List Bool) → (xs ≡ ys) ⊎ (trues xs < trues ys) → trues xs ≤ trues ys
same_or_more n m xs ys (inl e) = let same : trues xs ≡ trues ys = ap trues e in omega (arith, same)
same_or_more n m xs ys (inr few) = omega (arith, few)

-- no mark more, or the count has grown
pub same_or_fewer : (xs ys : List Bool) → Under xs ys → (xs ≡ ys) ⊎ (trues xs < trues ys)
same_or_fewer [] [] h = inl refl
same_or_fewer [] (y ∷ ys) h = absurd h
same_or_fewer (x ∷ xs) [] h = absurd h
same_or_fewer (true ∷ xs) (true ∷ ys) h = both (same_or_fewer xs ys h.1)
  where
    both : (xs ≡ ys) ⊎ (trues xs < trues ys) → ((true ∷ xs) ≡ (true ∷ ys)) ⊎ (suc (trues xs) < suc (trues ys))
    both (inl e) = inl (ap (λ zs. true ∷ zs) e)
    both (inr few) = inr (omega (arith, few))
same_or_fewer (false ∷ xs) (false ∷ ys) h = both (same_or_fewer xs ys h.1)
  where
    both : (xs ≡ ys) ⊎ (trues xs < trues ys) → ((false ∷ xs) ≡ (false ∷ ys)) ⊎ (trues xs < trues ys)
    both (inl e) = inl (ap (λ zs. false ∷ zs) e)
    both (inr few) = inr few
same_or_fewer (true ∷ xs) (false ∷ ys) h = absurd (let clash : false ≡ true = h.0 refl in cc)
same_or_fewer (false ∷ xs) (true ∷ ys) h = inr (let few = same_or_more 0 0 xs ys (same_or_fewer xs ys h.1) in omega (arith, few))

pub under_marked : (xs ys : List Bool) → Under xs ys → (f : ℕ) → marked xs f ≡ true → marked ys f ≡ true
under_marked [] [] h f e = e
under_marked [] (y ∷ ys) h f e = absurd h
under_marked (x ∷ xs) [] h f e = absurd h
under_marked (x ∷ xs) (y ∷ ys) h zero e = h.0 e
under_marked (x ∷ xs) (y ∷ ys) h (suc f) e = under_marked xs ys h.1 f e

under_one_more : (xs ys : List Bool) (x y : Bool) → Under xs ys → (x ≡ true → y ≡ true) → Under (xs ++ x ∷ []) (ys ++ y ∷ [])
under_one_more [] [] x y h e = (e, tt)
under_one_more [] (z ∷ ys) x y h e = absurd h
under_one_more (z ∷ xs) [] x y h e = absurd h
under_one_more (w ∷ xs) (z ∷ ys) x y h e = (h.0, under_one_more xs ys x y h.1 e)

pub under_each : (n : ℕ) (h k : ℕ → Bool) → ((i : ℕ) → h i ≡ true → k i ≡ true) → Under (each n h) (each n k)
under_each zero h k e = tt
under_each (suc n) h k e = under_one_more (each n h) (each n k) (h n) (k n) (under_each n h k e) (e n)

-- ---- rounds

module _ (g : List Facts) (to : ℕ) where
  -- a function is marked in the next round where a call leads on
  pub mark_is : (marks : List Bool) (f : ℕ) → marked (next_leads g to marks) f ≡ any_leads to marks (calls_at g f)
  mark_is marks f = by_entry (each_get (length g) (λ i. any_leads to marks (calls_at g i)) f)
    where
      none : (o : Option Facts) → slice_get g f ≡ o → slice_get (next_leads g to marks) f ≡ None → false ≡ any_leads to marks (calls_in o)
      none None is e = refl
      none (Some x) is e = let there = each_has (length g) (λ i. any_leads to marks (calls_at g i)) f (slice_get_within g f x is) in absurd (let clash : None ≡ Some (any_leads to marks (calls_at g f)) = sym e ∙ there in cc)

      by_entry : (slice_get (next_leads g to marks) f ≡ None) ⊎ (slice_get (next_leads g to marks) f ≡ Some (any_leads to marks (calls_at g f))) → marked (next_leads g to marks) f ≡ any_leads to marks (calls_at g f)
      by_entry (inl e) = ap is_marked e ∙ none (slice_get g f) refl e
      by_entry (inr e) = ap is_marked e

  leads_on : (marks more : List Bool) → ((f : ℕ) → marked marks f ≡ true → marked more f ≡ true) → (o : Option ℕ) → leads_by to marks o ≡ true → leads_by to more o ≡ true
  leads_on marks more grow None e = e
  leads_on marks more grow (Some f) e = by_either (either_true (f == to) (marked marks f) e)
    where
      by_either : ((f == to) ≡ true) ⊎ (marked marks f ≡ true) → (f == to || marked more f) ≡ true
      by_either (inl is) = left_true (f == to) (marked more f) is
      by_either (inr is) = right_true (f == to) (marked more f) (grow f is)

  any_on : (marks more : List Bool) → ((f : ℕ) → marked marks f ≡ true → marked more f ≡ true) → (calls : List Call) → any_leads to marks calls ≡ true → any_leads to more calls ≡ true
  any_on marks more grow [] e = e
  any_on marks more grow (c ∷ calls) e = by_either (either_true (leads_by to marks c.callee) (any_leads to marks calls) e) (any_on marks more grow calls)
    where
      by_either : (leads_by to marks c.callee ≡ true) ⊎ (any_leads to marks calls ≡ true) → (any_leads to marks calls ≡ true → any_leads to more calls ≡ true) → any_leads to more (c ∷ calls) ≡ true
      by_either (inl is) rest = left_true (leads_by to more c.callee) (any_leads to more calls) (leads_on marks more grow c.callee is)
      by_either (inr is) rest = right_true (leads_by to more c.callee) (any_leads to more calls) (rest is)

  grows : (k : ℕ) → Under (leads_after g to k) (leads_after g to (suc k))
  grows zero = under_each (length g) (λ i. false) (λ i. any_leads to (leads_after g to 0) (calls_at g i)) (λ i e. absurd (let clash : false ≡ true = e in cc))
  grows (suc k) =
      under_each (length g) (λ i. any_leads to (leads_after g to k) (calls_at g i)) (λ i. any_leads to (leads_after g to (suc k)) (calls_at g i))
      (λ i e. any_on (leads_after g to k) (leads_after g to (suc k)) (under_marked (leads_after g to k) (leads_after g to (suc k)) (grows k)) (calls_at g i) e)

  -- each round that changes something marks one more at least
  abbrev Progress : ℕ → Type 0
  Progress k = (leads_after g to (suc k) ≡ leads_after g to k) ⊎ (suc k ≤ trues (leads_after g to (suc k)))

  one_round : (k least : ℕ) → least ≤ trues (leads_after g to k) → (leads_after g to k ≡ leads_after g to (suc k)) ⊎ (trues (leads_after g to k) < trues (leads_after g to (suc k))) → (leads_after g to (suc k) ≡ leads_after g to k) ⊎ (suc least ≤ trues (leads_after g to (suc k)))
  one_round k least few (inl e) = inl (sym e)
  one_round k least few (inr more) = inr (omega (arith, few, more))

  progress : (k : ℕ) → Progress k
  progress zero = one_round zero zero (omega arith) (same_or_fewer (leads_after g to zero) (leads_after g to 1) (grows zero))
  progress (suc k) = by_last (progress k)
    where
      by_last : Progress k → Progress (suc k)
      by_last (inl same) = inl (ap (next_leads g to) same)
      by_last (inr few) = one_round (suc k) (suc k) few (same_or_fewer (leads_after g to (suc k)) (leads_after g to (suc (suc k))) (grows (suc k)))

  pub settled : leads_after g to (suc (length g)) ≡ leads_after g to (length g)
  settled = by_last (progress (length g))
    where
      by_last : Progress (length g) → leads_after g to (suc (length g)) ≡ leads_after g to (length g)
      by_last (inl same) = same
      by_last (inr few) =
          let most = trues_few (leads_after g to (suc (length g))) in
          let long = each_long (length g) (λ i. any_leads to (leads_after g to (length g)) (calls_at g i)) in
          absurd (omega (arith, few, most, long))
