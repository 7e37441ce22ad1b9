-- Marks stand exactly where calls lead on.
use Rattle.std.proofs.Common.{◌≡◌, ℕ, zero, suc, ◌<◌, ◌||◌, ◌⊎◌, inl, inr, true, false, List, length, Option, Some, None, slice_get, refl, sym, ap, ◌∙◌, subst, arith}
use Rattle.std.specs.Prelude.{◌↔◌, ◌==◌}
use Rattle.std.proofs.lemmas.Bool.{eqb-true}
use Rattle.c65_meaning.specs.Program.{ProgramTy}
use Rattle.c65_depth.specs.declared.calls.Call.{Call}
use Rattle.c65_depth.specs.declared.facts.Facts.{Facts}
use Rattle.c65_depth.specs.Facts.{graph, calls_at}
use Rattle.c65_depth.specs.Reached.{leads_by, leads_after, leads, standing, standings, reachable_in, cycle_in, reachable_at, cycle_at}
use Rattle.c65_depth.specs.Numbers.{standings_of}
use Rattle.c65_depth.specs.Certificates.{HasCall, Names, IsReachable, first, next, Leads, by_call, by_calls}
use Rattle.c65_depth_law.proofs.Least.{each_get, each_has}
use Rattle.c65_depth_law_ways.specs.Ways.{ReachedIsReachable, CyclesLeadBack}
use Rattle.c65_depth_law_ways.proofs.Calls.{either_true, left_true, right_true, any_true, true_any, graph_long, call_in, has_call}
use Rattle.c65_depth_law_ways.proofs.Marks.{marked, mark_is, settled}

pub same_number : (a b : ℕ) → a ≡ b → (a == b) ≡ true
same_number a b e = grind arith

module _ (p : ProgramTy) where
  abbrev g : List Facts
  g = graph p.unit

  -- ---- a mark tells of a way

  mark_leads : (k to f : ℕ) → marked (leads_after g to k) f ≡ true → Leads p f to
  mark_leads zero to f h = by_entry (each_get (length g) (λ i. false) f)
    where
      by_entry : (slice_get (leads_after g to 0) f ≡ None) ⊎ (slice_get (leads_after g to 0) f ≡ Some false) → Leads p f to
      by_entry (inl e) = cc
      by_entry (inr e) = cc
  mark_leads (suc k) to f h =
      let found = any_true (λ c. leads_by to (leads_after g to k) c.callee) (calls_at g f) (sym (mark_is g to (leads_after g to k) f) ∙ h) in
      by_callee found.call (has_call p f found.call found.among) found.call.callee refl found.passes (λ i mark. mark_leads k to i mark)
    where
      by_callee : (c : Call) → HasCall p f c → (o : Option ℕ) → c.callee ≡ o → leads_by to (leads_after g to k) o ≡ true → ((i : ℕ) → marked (leads_after g to k) i ≡ true → Leads p i to) → Leads p f to
      by_callee c has None is e rest = absurd cc
      by_callee c has (Some i) is e rest = by_either (either_true (i == to) (marked (leads_after g to k) i) e)
        where
          named : Names p f i
          named = record { call = c; has = has; named = is }

          by_either : ((i == to) ≡ true) ⊎ (marked (leads_after g to k) i ≡ true) → Leads p f to
          by_either (inl same) = subst (λ (j : ℕ). Leads p f j) (eqb-true i to same) (by_call named)
          by_either (inr mark) = by_calls named (rest i mark)

  -- ---- and each way is marked

  one_call : (f i to : ℕ) → Names p f i → ((i == to) ≡ true) ⊎ (marked (leads g to) i ≡ true) → marked (leads g to) f ≡ true
  one_call f i to named by =
      ap (λ marks. marked marks f) (sym (settled g to))
      ∙ (mark_is g to (leads g to) f ∙ true_any (λ c. leads_by to (leads g to) c.callee) (calls_at g f) named.call (call_in p f named.call named.has) (ap (leads_by to (leads g to)) named.named ∙ by_either by))
    where
      by_either : ((i == to) ≡ true) ⊎ (marked (leads g to) i ≡ true) → (i == to || marked (leads g to) i) ≡ true
      by_either (inl same) = left_true (i == to) (marked (leads g to) i) same
      by_either (inr mark) = right_true (i == to) (marked (leads g to) i) mark

  leads_mark : (f to : ℕ) → Leads p f to → marked (leads g to) f ≡ true
  leads_mark f to (by_call {f = f'} {h = h} named) = one_call f h to named (inl (same_number h to refl))
  leads_mark f to (by_calls {f = f'} {h = h} {i = i} named way) = one_call f h to named (inr (leads_mark h to way))

  pub marks_lead : (f to : ℕ) → (marked (leads g to) f ≡ true) ↔ Leads p f to
  marks_lead f to = (λ h. mark_leads (length g) to f h, λ way. leads_mark f to way)

  -- ---- standings

  standing_there : (f : ℕ) → f < length p.unit.funcs → slice_get (standings g p.main) f ≡ Some (standing g p.main f)
  standing_there f few = each_has (length g) (standing g p.main) f (subst (λ n. f < n) (sym (graph_long p.unit p.unit.funcs)) few)

  pub cycle_is : (f : ℕ) → f < length p.unit.funcs → cycle_at (standings_of p.unit p.main) f ≡ marked (leads g f) f
  cycle_is f few = ap cycle_in (standing_there f few)

  reachable_is : (f : ℕ) → f < length p.unit.funcs → reachable_at (standings_of p.unit p.main) f ≡ (f == p.main || marked (leads g f) p.main)
  reachable_is f few = ap reachable_in (standing_there f few)

  one_more : (f h i : ℕ) → Leads p f h → Names p h i → Leads p f i
  one_more f h i (by_call named) last = by_calls named (by_call last)
  one_more f h i (by_calls {h = j} named way) last = by_calls named (one_more j h i way last)

  reached_by : (f : ℕ) → IsReachable p f → (f ≡ p.main) ⊎ Leads p p.main f
  reached_by f first = inl refl
  reached_by f (next {f = h} way named) = from_there (reached_by h way)
    where
      from_there : (h ≡ p.main) ⊎ Leads p p.main h → (f ≡ p.main) ⊎ Leads p p.main f
      from_there (inl is) = inr (subst (λ (j : ℕ). Leads p j f) is (by_call named))
      from_there (inr ways) = inr (one_more p.main h f ways named)

  reached_from : (f h : ℕ) → IsReachable p f → Leads p f h → IsReachable p h
  reached_from f h r (by_call named) = next r named
  reached_from f h r (by_calls {h = i} named way) = reached_from i h (next r named) way

  pub reach_is : (f : ℕ) → f < length p.unit.funcs → (reachable_at (standings_of p.unit p.main) f ≡ true) ↔ IsReachable p f
  reach_is f few = (λ e. found (either_true (f == p.main) (marked (leads g f) p.main) (sym (reachable_is f few) ∙ e)), λ r. reachable_is f few ∙ holds (reached_by f r))
    where
      found : ((f == p.main) ≡ true) ⊎ (marked (leads g f) p.main ≡ true) → IsReachable p f
      found (inl same) = subst (IsReachable p) (sym (eqb-true f p.main same)) first
      found (inr mark) = reached_from p.main f first ((marks_lead p.main f).0 mark)

      holds : (f ≡ p.main) ⊎ Leads p p.main f → (f == p.main || marked (leads g f) p.main) ≡ true
      holds (inl same) = left_true (f == p.main) (marked (leads g f) p.main) (same_number f p.main same)
      holds (inr way) = right_true (f == p.main) (marked (leads g f) p.main) ((marks_lead p.main f).1 way)

pub reached_is_reachable : ReachedIsReachable
reached_is_reachable p f few = reach_is p f few

pub cycles_lead_back : CyclesLeadBack
cycles_lead_back p f few = (λ e. (marks_lead p f f).0 (sym (cycle_is p f few) ∙ e), λ way. cycle_is p f few ∙ (marks_lead p f f).1 way)
