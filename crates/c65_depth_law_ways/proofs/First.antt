-- The first function without a bound.
use Rattle.std.proofs.Common.{◌≡◌, ℕ, zero, suc, ◌<◌, ◌≤◌, ◌&&◌, ◌||◌, ◌⊎◌, inl, inr, Bool, true, false, List, length, Option, Some, None, refl, sym, ap, ◌∙◌, subst, arith}
use Rattle.std.specs.Prelude.{nat_lt, is_none}
use Rattle.std.proofs.lemmas.Bool.Decides.{nat_tests}
use Rattle.std.proofs.lemmas.Bool.{ltb-true}
use Rattle.c65_meaning.specs.Program.{ProgramTy}
use Rattle.c65_depth.specs.declared.program.CertRow.{CertRow}
use Rattle.c65_depth.specs.Facts.{graph, calls_at}
use Rattle.c65_depth.specs.Reached.{reachable_at, cycle_at, any_pointer, numbers, is_unbounded, is_numbered_unbounded}
use Rattle.c65_depth.specs.Numbers.{standings_of, unbounded_of, rows_unless, rows, all_numbers, costs_of}
use Rattle.c65_depth.specs.Tables.{or_this, first_of}
use Rattle.c65_depth.specs.Certificates.{CallsPointer, Leads, by_call, by_calls, IsUnbounded, on_cycle, by_pointer}
use Rattle.c65_depth_law.proofs.Checked.{both_true, last}
use Rattle.c65_depth_law_ways.specs.Ways.{HasNoBound, IsFirstWithoutBound, UnboundedIsFirst, NoneWhereUnbounded}
use Rattle.c65_depth_law_ways.proofs.Calls.{either_true, left_true, right_true, any_true, true_any, graph_long, call_in, has_call, is_numbered}
use Rattle.c65_depth_law_ways.proofs.Ways.{cycles_lead_back, reach_is}

-- ---- the first number that passes

abbrev Told : ℕ → (ℕ → Bool) → Option ℕ → Type 0
Told n h None = (i : ℕ) → i < n → h i ≡ false
Told n h (Some f) = (f < n) × (h f ≡ true) × ((i : ℕ) → i < f → h i ≡ false)

one_more : (n : ℕ) (h : ℕ → Bool) (o : Option ℕ) (b : Bool) → h n ≡ b → Told n h o → Told (suc n) h (or_this b n o)
one_more n h (Some f) b is t = ((let few = t.0 in omega (arith, few)), t.1, t.2)
one_more n h None true is t = (omega arith, is, t)
one_more n h None false is t = λ i few. by_last i (last n i few)
  where
    by_last : (i : ℕ) → (i < n) ⊎ (i ≡ n) → h i ≡ false
    by_last i (inl few) = t i few
    by_last i (inr e) = ap h e ∙ is

first_told : (n : ℕ) (h : ℕ → Bool) → Told n h (first_of n h)
first_told zero h = λ i few. absurd (omega (arith, few))
first_told (suc n) h = one_more n h (first_of n h) (h n) refl (first_told n h)

both_hold : (a b : Bool) → a ≡ true → b ≡ true → (a && b) ≡ true
both_hold true b h i = i
both_hold false b h i = absurd cc

below_limit : (n m : ℕ) → n < m → nat_lt n m ≡ true
below_limit n m few = grind (arith, nat_tests)

module _ (p : ProgramTy) where
  -- ---- calls through a pointer

  pointer_called : (f : ℕ) → any_pointer (calls_at (graph p.unit) f) ≡ true → CallsPointer p f
  pointer_called f e =
      let found = any_true (λ c. is_none c.callee) (calls_at (graph p.unit) f) e in
      record { call = found.call; has = has_call p f found.call found.among; unnamed = none found.call.callee found.passes }
    where
      none : (o : Option ℕ) → is_none o ≡ true → o ≡ None
      none None e = refl
      none (Some i) e = cc

  called_pointer : (f : ℕ) → CallsPointer p f → any_pointer (calls_at (graph p.unit) f) ≡ true
  called_pointer f c = true_any (λ d. is_none d.callee) (calls_at (graph p.unit) f) c.call (call_in p f c.call c.has) (ap (λ (o : Option ℕ). is_none o) c.unnamed)

  -- ---- functions without a bound

  leads_numbered : (f h : ℕ) → Leads p f h → f < length p.unit.funcs
  leads_numbered f h (by_call named) = is_numbered p f named.has.body named.has.is_body
  leads_numbered f h (by_calls named way) = is_numbered p f named.has.body named.has.is_body

  pub unbounded_numbered : (f : ℕ) → IsUnbounded p f → f < length p.unit.funcs
  unbounded_numbered f (on_cycle way) = leads_numbered f f way
  unbounded_numbered f (by_pointer c) = is_numbered p f c.has.body c.has.is_body

  bound_told : (f : ℕ) → f < length p.unit.funcs → is_unbounded (graph p.unit) (standings_of p.unit p.main) f ≡ true → HasNoBound p f
  bound_told f few e =
      let parts = both_true (reachable_at (standings_of p.unit p.main) f) (cycle_at (standings_of p.unit p.main) f || any_pointer (calls_at (graph p.unit) f)) e in
      record { reached = (reach_is p f few).0 parts.0; unbounded = by_either (either_true (cycle_at (standings_of p.unit p.main) f) (any_pointer (calls_at (graph p.unit) f)) parts.1) }
    where
      by_either : (cycle_at (standings_of p.unit p.main) f ≡ true) ⊎ (any_pointer (calls_at (graph p.unit) f) ≡ true) → IsUnbounded p f
      by_either (inl cycle) = on_cycle ((cycles_lead_back p f few).0 cycle)
      by_either (inr pointer) = by_pointer (pointer_called f pointer)

  unbounded_tested : (f : ℕ) → f < length p.unit.funcs → IsUnbounded p f → (cycle_at (standings_of p.unit p.main) f || any_pointer (calls_at (graph p.unit) f)) ≡ true
  unbounded_tested f few (on_cycle way) = left_true (cycle_at (standings_of p.unit p.main) f) (any_pointer (calls_at (graph p.unit) f)) ((cycles_lead_back p f few).1 way)
  unbounded_tested f few (by_pointer c) = right_true (cycle_at (standings_of p.unit p.main) f) (any_pointer (calls_at (graph p.unit) f)) (called_pointer f c)

  no_bound_tested : (f : ℕ) → f < numbers → HasNoBound p f → is_numbered_unbounded (graph p.unit) (standings_of p.unit p.main) f ≡ true
  no_bound_tested f few h =
      let there = unbounded_numbered f h.unbounded in
      both_hold (nat_lt f numbers) (is_unbounded (graph p.unit) (standings_of p.unit p.main) f) (below_limit f numbers few)
      (both_hold (reachable_at (standings_of p.unit p.main) f) (cycle_at (standings_of p.unit p.main) f || any_pointer (calls_at (graph p.unit) f)) ((reach_is p f there).1 h.reached) (unbounded_tested f there h.unbounded))

  abbrev test : ℕ → Bool
  test f = is_numbered_unbounded (graph p.unit) (standings_of p.unit p.main) f

  refuted : (f : ℕ) → test f ≡ false → test f ≡ true → ⊥
  refuted f h i = let clash : true ≡ false = sym i ∙ h in cc

  pub first_without_bound : (f : ℕ) → unbounded_of p.unit p.main ≡ Some f → IsFirstWithoutBound p f
  first_without_bound f is =
      let told : Told (length (graph p.unit)) test (Some f) = subst (λ (o : Option ℕ). Told (length (graph p.unit)) test o) is (first_told (length (graph p.unit)) test) in
      let parts = both_true (nat_lt f numbers) (is_unbounded (graph p.unit) (standings_of p.unit p.main) f) told.1 in
      let few : f < length p.unit.funcs = subst (λ n. f < n) (graph_long p.unit p.unit.funcs) told.0 in
      let small = ltb-true f numbers parts.0 in
      record {
        itself = bound_told f few parts.1;
        first = λ h below no_bound. refuted h (told.2 h below) (no_bound_tested h (omega (arith, below, small)) no_bound);
      }

  -- where none is found there is none
  pub all_bounded : length p.unit.funcs ≤ numbers → unbounded_of p.unit p.main ≡ None → (f : ℕ) → HasNoBound p f → ⊥
  all_bounded enough is f h =
      let told : Told (length (graph p.unit)) test None = subst (λ (o : Option ℕ). Told (length (graph p.unit)) test o) is (first_told (length (graph p.unit)) test) in
      let there = unbounded_numbered f h.unbounded in
      refuted f (told f (subst (λ n. f < n) (sym (graph_long p.unit p.unit.funcs)) there)) (no_bound_tested f (omega (arith, there, enough)) h)

  none_told : (o : Option ℕ) (rs : List CertRow) → unbounded_of p.unit p.main ≡ o → rows_unless o rs ≡ None → (f : ℕ) × HasNoBound p f
  none_told None rs is e = cc
  none_told (Some f) rs is e = (f, (first_without_bound f is).itself)

  no_rows : length p.unit.funcs ≤ numbers → (f : ℕ) → HasNoBound p f → (o : Option ℕ) (rs : List CertRow) → unbounded_of p.unit p.main ≡ o → rows_unless o rs ≡ None
  no_rows enough f h None rs is = absurd (all_bounded enough is f h)
  no_rows enough f h (Some i) rs is = refl

pub unbounded_is_first : UnboundedIsFirst
unbounded_is_first p f is = first_without_bound p f is

pub none_where_unbounded : NoneWhereUnbounded
none_where_unbounded p enough =
    let rs = rows (graph p.unit) (standings_of p.unit p.main) (all_numbers (graph p.unit) (costs_of p.unit p.main)) in
    (λ e. none_told p (unbounded_of p.unit p.main) rs refl e, λ h. no_rows p enough h.0 h.1 (unbounded_of p.unit p.main) rs refl)
