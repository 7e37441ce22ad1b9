-- What a function's cost counts for what it is passed is at most what some call passes.
use Rattle.std.proofs.Common.{◌≡◌, ℕ, zero, suc, ◌<◌, ◌≤◌, ◌⊎◌, inl, inr, Bool, true, false, List, [], ◌∷◌, length, Option, Some, None, slice_get, refl, sym, ap, ◌∙◌, subst, arith, if◌then◌else◌}
use Rattle.std.specs.Prelude.{Contains, min, max, ◌==◌}
use Rattle.std.proofs.lemmas.Bool.{eqb-true}
use Rattle.c65_meaning.specs.Program.{ProgramTy}
use Rattle.c65_meaning.specs.Costs.{bytes_of_objects}
use Rattle.c65_meaning.specs.Step.{params_of}
use Rattle.c65_depth.specs.declared.calls.Call.{Call}
use Rattle.c65_depth.specs.Calls.{most}
use Rattle.c65_depth.specs.Facts.{calls_at, first_bytes}
use Rattle.c65_depth.specs.Reached.{reachable_at}
use Rattle.c65_depth.specs.Numbers.{names, bytes_to, largest_to, largest_from}
use Rattle.c65_depth.specs.Tables.{greatest_of}
use Rattle.c65_depth.specs.Certificates.{IsReachable, first, next, IsPassed, at_start, by_one}
use Rattle.c65_depth_law_ways.proofs.Calls.{in_rest, graph_long, has_call}
use Rattle.c65_depth_law_ways.proofs.Ways.{reach_is}
use Rattle.c65_depth_law_fits.proofs.Passed.{g, all_standings, passed_to}

ordered : (a b : ℕ) → (a ≤ b) ⊎ (b ≤ a)
ordered zero b = inl (omega arith)
ordered (suc a) zero = inr (omega arith)
ordered (suc a) (suc b) = one_more (ordered a b)
  where
    one_more : (a ≤ b) ⊎ (b ≤ a) → (suc a ≤ suc b) ⊎ (suc b ≤ suc a)
    one_more (inl h) = inl (omega (arith, h))
    one_more (inr h) = inr (omega (arith, h))

-- ---- the greatest of a table is one of it, or nothing

record IsGreatest (n : ℕ) (k : ℕ → ℕ) : Type 0 where
  pub at : ℕ
  pub within : at < n
  pub is : greatest_of n k ≡ k at

greatest_at : (n : ℕ) (k : ℕ → ℕ) → (greatest_of n k ≡ 0) ⊎ IsGreatest n k
greatest_at zero k = inl refl
greatest_at (suc n) k = by_order (ordered (greatest_of n k) (k n)) (greatest_at n k)
  where
    by_order : (greatest_of n k ≤ k n) ⊎ (k n ≤ greatest_of n k) → (greatest_of n k ≡ 0) ⊎ IsGreatest n k → (max (greatest_of n k) (k n) ≡ 0) ⊎ IsGreatest (suc n) k
    by_order (inl h) rest = inr (record { at = n; within = omega arith; is = omega (arith, h) })
    by_order (inr h) (inl none) = inl (omega (arith, h, none))
    by_order (inr h) (inr found) = inr (record { at = found.at; within = (let few = found.within in omega (arith, few)); is = (let same = found.is in omega (arith, h, same)) })

record IsLargest (h : ℕ) (calls : List Call) : Type 0 where
  pub call : Call
  pub among : Contains calls call
  pub named : call.callee ≡ Some h
  pub is : largest_to h calls ≡ call.bytes

-- the bytes of one call to a function
one_bytes : (h : ℕ) (d : Call) → (bytes_to h d ≡ 0) ⊎ ((d.callee ≡ Some h) × (bytes_to h d ≡ d.bytes))
one_bytes h d = by_callee d.callee refl
  where
    by_name : (i : ℕ) → d.callee ≡ Some i → (b : Bool) → (h == i) ≡ b → (i == h) ≡ b → (bytes_to h d ≡ 0) ⊎ ((d.callee ≡ Some h) × (bytes_to h d ≡ d.bytes))
    by_name i is true e f = inr (is ∙ ap (λ (j : ℕ). Some j) (eqb-true i h f), ap (λ (o : Option ℕ). if names h o then d.bytes else 0) is ∙ ap (λ (b : Bool). if b then d.bytes else 0) f)
    by_name i is false e f = inl (ap (λ (o : Option ℕ). if names h o then d.bytes else 0) is ∙ ap (λ (b : Bool). if b then d.bytes else 0) f)

    by_callee : (o : Option ℕ) → d.callee ≡ o → (bytes_to h d ≡ 0) ⊎ ((d.callee ≡ Some h) × (bytes_to h d ≡ d.bytes))
    by_callee None is = inl (ap (λ (o : Option ℕ). if names h o then d.bytes else 0) is)
    by_callee (Some i) is = by_name i is (i == h) (turned i) refl
      where
        turned : (i : ℕ) → (h == i) ≡ (i == h)
        turned i = grind arith

largest_at : (h : ℕ) (calls : List Call) → (largest_to h calls ≡ 0) ⊎ IsLargest h calls
largest_at h [] = inl refl
largest_at h (d ∷ calls) = by_order (ordered (bytes_to h d) (largest_to h calls)) (one_bytes h d) (largest_at h calls)
  where
    by_order : (bytes_to h d ≤ largest_to h calls) ⊎ (largest_to h calls ≤ bytes_to h d) → (bytes_to h d ≡ 0) ⊎ ((d.callee ≡ Some h) × (bytes_to h d ≡ d.bytes)) → (largest_to h calls ≡ 0) ⊎ IsLargest h calls → (max (bytes_to h d) (largest_to h calls) ≡ 0) ⊎ IsLargest h (d ∷ calls)
    by_order (inl e) one (inl none) = inl (omega (arith, e, none))
    by_order (inl e) one (inr found) = inr (record { call = found.call; among = in_rest d calls found.call found.among; named = found.named; is = (let same = found.is in omega (arith, e, same)) })
    by_order (inr e) (inl none) rest = inl (omega (arith, e, none))
    by_order (inr e) (inr one) rest = inr (record { call = d; among = (0, omega arith, refl); named = one.0; is = (let same = one.1 in omega (arith, e, same)) })

-- ---- of a program

module _ (p : ProgramTy) where
  pub some_passed : (f : ℕ) → IsReachable p f → (n : ℕ) × IsPassed p f n
  some_passed f first = (bytes_of_objects p.unit (params_of (slice_get p.unit.funcs p.main)), at_start)
  some_passed f (next r names) = (names.call.bytes, by_one r names.has names.named)

  abbrev from_calls : ℕ → ℕ
  from_calls f = greatest_of (length (g p)) (largest_from (g p) (all_standings p) f)

  abbrev from_start : ℕ → ℕ
  from_start f = if f == p.main then first_bytes p.unit p.main else 0

  pub record IsAttained (f : ℕ) : Type 0 where
    pub bytes : ℕ
    pub passed : IsPassed p f bytes
    pub least : passed_to p f ≤ bytes

  module _ (f : ℕ) (r : IsReachable p f) where
    -- where nothing is counted any call will do
    any_will_do : passed_to p f ≡ 0 → IsAttained f
    any_will_do none = let n = some_passed f r in record { bytes = n.0; passed = n.1; least = omega (arith, none) }

    by_caller : (i : ℕ) → i < length p.unit.funcs → passed_to p f ≡ largest_from (g p) (all_standings p) f i → IsAttained f
    by_caller i few is = by_reach (reachable_at (all_standings p) i) refl
      where
        by_largest : IsReachable p i → passed_to p f ≡ largest_to f (calls_at (g p) i) → (largest_to f (calls_at (g p) i) ≡ 0) ⊎ IsLargest f (calls_at (g p) i) → IsAttained f
        by_largest reached e (inl none) = any_will_do (e ∙ none)
        by_largest reached e (inr l) = record { bytes = l.call.bytes; passed = by_one reached (has_call p i l.call l.among) l.named; least = (let same : passed_to p f ≡ l.call.bytes = e ∙ l.is in omega (arith, same)) }

        by_reach : (b : Bool) → reachable_at (all_standings p) i ≡ b → IsAttained f
        by_reach false e = any_will_do (is ∙ ap (λ (b : Bool). if b then largest_to f (calls_at (g p) i) else 0) e)
        by_reach true e = by_largest ((reach_is p i few).0 e) (is ∙ ap (λ (b : Bool). if b then largest_to f (calls_at (g p) i) else 0) e) (largest_at f (calls_at (g p) i))

    by_calls : passed_to p f ≡ from_calls f → (from_calls f ≡ 0) ⊎ IsGreatest (length (g p)) (largest_from (g p) (all_standings p) f) → IsAttained f
    by_calls is (inl none) = any_will_do (is ∙ none)
    by_calls is (inr found) = by_caller found.at (subst (λ n. found.at < n) (graph_long p.unit p.unit.funcs) found.within) (is ∙ found.is)

    by_start : (b : Bool) → (f == p.main) ≡ b → passed_to p f ≡ from_start f → IsAttained f
    by_start false e is = any_will_do (is ∙ ap (λ (b : Bool). if b then first_bytes p.unit p.main else 0) e)
    by_start true e is =
        let bytes = bytes_of_objects p.unit (params_of (slice_get p.unit.funcs p.main)) in
        let same : passed_to p f ≡ min bytes most = is ∙ ap (λ (b : Bool). if b then first_bytes p.unit p.main else 0) e in
        record { bytes = bytes; passed = subst (λ (j : ℕ). IsPassed p j bytes) (sym (eqb-true f p.main e)) at_start; least = omega (arith, same) }

    by_order : (from_start f ≤ from_calls f) ⊎ (from_calls f ≤ from_start f) → IsAttained f
    by_order (inl e) = by_calls (greater (from_start f) (from_calls f) e) (greatest_at (length (g p)) (largest_from (g p) (all_standings p) f))
      where
        greater : (a b : ℕ) → a ≤ b → max a b ≡ b
        greater a b h = omega (arith, h)
    by_order (inr e) = by_start (f == p.main) refl (lesser (from_start f) (from_calls f) e)
      where
        lesser : (a b : ℕ) → b ≤ a → max a b ≡ a
        lesser a b h = omega (arith, h)

    pub attained : IsAttained f
    attained = by_order (ordered (from_start f) (from_calls f))
