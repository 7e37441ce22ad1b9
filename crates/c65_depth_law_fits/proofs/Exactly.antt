-- Where the numbers of the rows cover the program, `check` says yes.
use Rattle.std.proofs.Common.{◌≡◌, ℕ, zero, suc, ◌+◌, ◌*◌, ◌<◌, ◌≤◌, ◌&&◌, ◌||◌, not, Bool, true, false, List, [], ◌∷◌, length, Option, Some, None, slice_get, nat_le, refl, sym, ap, ◌∙◌, subst, arith}
use Rattle.std.specs.Prelude.{Contains, min, IsSome}
use Rattle.std.proofs.lemmas.Bool.Decides.{nat_tests}
use Rattle.c65_csem.specs.Trees.{Stmt}
use Rattle.c65_csem_need.specs.Needs.{greatest_need}
use Rattle.c65_meaning.specs.Program.{ProgramTy}
use Rattle.c65_meaning.specs.Costs.{local_bytes, soft_cost}
use Rattle.c65_depth.specs.declared.calls.Call.{Call}
use Rattle.c65_depth.specs.declared.numbers.Numbers.{Numbers}
use Rattle.c65_depth.specs.declared.program.CertRow.{CertRow}
use Rattle.c65_depth.specs.Calls.{most}
use Rattle.c65_depth.specs.Facts.{facts_of, calls_at, cost_at, body_cost, most_waiting}
use Rattle.c65_depth.specs.Numbers.{zero_numbers, or_zero, flat, with_passed, costs_of}
use Rattle.c65_depth.specs.Reached.{reachable_at}
use Rattle.c65_depth.specs.Checks.{flat_numbers, given_by, given_to, given_all, given_at, covers, covers_if, covers_all, is_covered, meets, fits, is_met, is_checked, soft_limit, hard_limit}
use Rattle.c65_depth.specs.Tables.{every}
use Rattle.c65_depth.specs.Certificates.{HasCall, Names, IsReachable, first, next, body_at, numbers_by, CoversCallee, Covers, Fits}
use Rattle.c65_depth_law.proofs.Least.{each_has}
use Rattle.c65_depth_law_ways.proofs.Calls.{graph_long, has_call, is_numbered}
use Rattle.c65_depth_law_ways.proofs.Ways.{reach_is}
use Rattle.c65_depth_law_fits.specs.Fits.{NamesFunctions, FittingIsChecked}
use Rattle.c65_depth_law_fits.proofs.Passed.{g, all_standings, numbered, passed_to, cost_there, cost_is}
use Rattle.c65_depth_law_fits.proofs.Attained.{some_passed, attained}

le_true : (a b : ℕ) → a ≤ b → nat_le a b ≡ true
le_true a b h = grind (arith, nat_tests)

both_hold : (a b : Bool) → a ≡ true → b ≡ true → (a && b) ≡ true
both_hold true b h i = i
both_hold false b h i = absurd cc

every_true : (n : ℕ) (h : ℕ → Bool) → ((i : ℕ) → i < n → h i ≡ true) → every n h ≡ true
every_true zero h all = refl
every_true (suc n) h all = both_hold (every n h) (h n) (every_true n h (λ i few. all i (omega (arith, few)))) (all n (omega arith))

same_numbers : (o : Option Numbers) (n m : Numbers) → o ≡ Some n → o ≡ Some m → n ≡ m
same_numbers o n m h i = ap or_zero (sym h ∙ i)

covers_true : (cost : ℕ) (n m : Numbers) → cost + m.soft ≤ n.soft → 2 + m.hard ≤ n.hard → covers cost n m ≡ true
covers_true cost n m h i = both_hold (nat_le (cost + m.soft) n.soft) (nat_le (2 + m.hard) n.hard) (le_true (cost + m.soft) n.soft h) (le_true (2 + m.hard) n.hard i)

-- a cost that stands still at the greatest number is no more
pub no_more : (passed locals waiting bytes above soft : ℕ) → passed ≤ bytes → bytes + locals + 6 + 8 * waiting + above ≤ soft → min (passed + min (locals + 6 + 8 * min waiting most_waiting) most) most + above ≤ soft
no_more passed locals waiting bytes above soft h i = omega (arith, h, i)

pub with_none : (cost soft : ℕ) → cost ≤ soft → cost + 0 ≤ soft
with_none cost soft h = omega (arith, h)

two_more : (n : ℕ) → 2 ≤ n → 2 + 0 ≤ n
two_more n h = omega (arith, h)

less_room : (own room : ℕ) → own + room ≤ 1984 → own ≤ 1984
less_room own room h = omega (arith, h)

less_callee : (cost callee own : ℕ) → cost + callee ≤ own → own ≤ 1984 → callee ≤ 1984
less_callee cost callee own h i = omega (arith, h, i)

all_covered : (cost : ℕ) (n : Numbers) (given : List (Option Numbers)) (calls : List Call) → ((c : Call) → Contains calls c → covers_if cost n (given_at given c.callee) ≡ true) → covers_all cost n given calls ≡ true
all_covered cost n given [] h = refl
all_covered cost n given (c ∷ calls) h = both_hold (covers_if cost n (given_at given c.callee)) (covers_all cost n given calls) (h c (0, omega arith, refl)) (all_covered cost n given calls (λ d k. h d (suc k.0, (let few = k.1 in omega (arith, few)), k.2)))

module _ (p : ProgramTy) (rows : List CertRow) (room : ℕ) (main_body : IsSome (body_at p p.main)) (named : NamesFunctions p) (fitting : Fits p (given_by rows) room) where
  abbrev given : List (Option Numbers)
  given = given_all (g p) rows

  given_is : (h : ℕ) → h < length p.unit.funcs → flat_numbers (slice_get given h) ≡ numbers_by p (given_by rows) h (body_at p h)
  given_is h few = ap flat_numbers (each_has (length (g p)) (λ i. given_to rows i (cost_at (g p) i)) h (numbered p h few)) ∙ (ap (given_to rows h) (cost_there p h) ∙ by_body (body_at p h))
    where
      by_body : (o : Option Stmt) → given_to rows h (facts_of p.unit o).cost ≡ numbers_by p (given_by rows) h o
      by_body None = refl
      by_body (Some body) = refl

  main_is : (o : Option Stmt) → IsSome o → numbers_by p (given_by rows) p.main o ≡ Some fitting.own
  main_is None there = absurd cc
  main_is (Some body) there = fitting.is_own

  main_numbered : p.main < length p.unit.funcs
  main_numbered = by_body (body_at p p.main) refl main_body
    where
      by_body : (o : Option Stmt) → body_at p p.main ≡ o → IsSome o → p.main < length p.unit.funcs
      by_body None is there = absurd cc
      by_body (Some body) is there = is_numbered p p.main body is

  own_is : (f : ℕ) (body : Stmt) (r : IsReachable p f) (is : body_at p f ≡ Some body) → numbers_by p (given_by rows) f (body_at p f) ≡ Some (fitting.covered f body r is).own
  own_is f body r is = ap (numbers_by p (given_by rows) f) is ∙ (fitting.covered f body r is).is_own

  -- no number is above that of `main`
  small : (f : ℕ) → IsReachable p f → (m : Numbers) → numbers_by p (given_by rows) f (body_at p f) ≡ Some m → m.soft ≤ 1984
  small f first m is =
      subst (λ (n : Numbers). n.soft ≤ 1984) (same_numbers (numbers_by p (given_by rows) p.main (body_at p p.main)) fitting.own m (main_is (body_at p p.main) main_body) is)
      (less_room fitting.own.soft room fitting.soft)
  small f (next {f = i} {h = h} r names) m is =
      let body = names.has.body in
      let is_body = names.has.is_body in
      let cov = fitting.covered i body r is_body in
      let q = some_passed p i r in
      let c : CoversCallee p (given_by rows) (soft_cost p.unit q.0 body) cov.own h = cov.callees q.0 h q.1 names in
      subst (λ (n : Numbers). n.soft ≤ 1984) (same_numbers (numbers_by p (given_by rows) h (body_at p h)) c.callee m c.is_callee is)
      (less_callee (soft_cost p.unit q.0 body) c.callee.soft cov.own.soft c.soft (small i r cov.own (own_is i body r is_body)))

  module _ (f : ℕ) (few : f < length p.unit.funcs) (r : IsReachable p f) (body : Stmt) (is_body : body_at p f ≡ Some body) where
    abbrev cov : Covers p (given_by rows) f body
    cov = fitting.covered f body r is_body

    abbrev cost : ℕ
    cost = min (passed_to p f + body_cost p.unit body) most

    cost_above : (above : ℕ) → soft_cost p.unit (attained p f r).bytes body + above ≤ cov.own.soft → cost + above ≤ cov.own.soft
    cost_above above h = no_more (passed_to p f) (local_bytes p.unit body) (greatest_need body) (attained p f r).bytes above cov.own.soft (attained p f r).least h

    call_covered : (c : Call) → HasCall p f c → (o : Option ℕ) → c.callee ≡ o → covers_if cost cov.own (given_at given o) ≡ true
    call_covered c has None is = absurd (cov.no_pointer (record { call = c; has = has; unnamed = is }))
    call_covered c has (Some h) is =
        let names : Names p f h = record { call = c; has = has; named = is } in
        let callee : CoversCallee p (given_by rows) (soft_cost p.unit (attained p f r).bytes body) cov.own h = cov.callees (attained p f r).bytes h (attained p f r).passed names in
        let found : flat_numbers (slice_get given h) ≡ Some callee.callee = given_is h (named f h names) ∙ callee.is_callee in
        ap (covers_if cost cov.own) found ∙ covers_true cost cov.own callee.callee (cost_above callee.callee.soft callee.soft) callee.hard

    it_is_covered : is_covered cost (calls_at (g p) f) given (Some cov.own) ≡ true
    it_is_covered =
        both_hold (nat_le cov.own.soft soft_limit && covers cost cov.own zero_numbers) (covers_all cost cov.own given (calls_at (g p) f))
        (both_hold (nat_le cov.own.soft soft_limit) (covers cost cov.own zero_numbers) (le_true cov.own.soft soft_limit (small f r cov.own (own_is f body r is_body)))
        (covers_true cost cov.own zero_numbers (cost_above 0 (with_none (soft_cost p.unit (attained p f r).bytes body) cov.own.soft (cov.soft (attained p f r).bytes (attained p f r).passed))) (two_more cov.own.hard cov.hard)))
        (all_covered cost cov.own given (calls_at (g p) f) (λ c among. call_covered c (has_call p f c among) c.callee refl))

    meets_it : meets (calls_at (g p) f) given (flat_numbers (slice_get given f)) (flat (slice_get (costs_of p.unit p.main) f)) ≡ true
    meets_it =
        ap (λ (n : Option Numbers). meets (calls_at (g p) f) given n (flat (slice_get (costs_of p.unit p.main) f))) (given_is f few ∙ own_is f body r is_body)
        ∙ (ap (λ (o : Option ℕ). meets (calls_at (g p) f) given (Some cov.own) o) (cost_is p f few ∙ ap (λ o. with_passed (passed_to p f) (facts_of p.unit o).cost) is_body)
        ∙ it_is_covered)

  module _ (f : ℕ) (few : f < length p.unit.funcs) where
    meets_by : (o : Option Stmt) → body_at p f ≡ o → IsReachable p f → meets (calls_at (g p) f) given (flat_numbers (slice_get given f)) (flat (slice_get (costs_of p.unit p.main) f)) ≡ true
    meets_by None is r = ap (meets (calls_at (g p) f) given (flat_numbers (slice_get given f))) (cost_is p f few ∙ ap (λ o. with_passed (passed_to p f) (facts_of p.unit o).cost) is)
    meets_by (Some body) is r = meets_it f few r body is

    met_by : (b m : Bool) → reachable_at (all_standings p) f ≡ b → (IsReachable p f → m ≡ true) → (not b || m) ≡ true
    met_by false m e h = refl
    met_by true m e h = h ((reach_is p f few).0 e)

    met : is_met (g p) (costs_of p.unit p.main) (all_standings p) given f ≡ true
    met = met_by (reachable_at (all_standings p) f) (meets (calls_at (g p) f) given (flat_numbers (slice_get given f)) (flat (slice_get (costs_of p.unit p.main) f))) refl (meets_by (body_at p f) refl)

  main_fits : fits room (flat_numbers (slice_get given p.main)) ≡ true
  main_fits =
      ap (fits room) (given_is p.main main_numbered ∙ main_is (body_at p p.main) main_body)
      ∙ both_hold (nat_le (fitting.own.soft + room) soft_limit) (nat_le fitting.own.hard hard_limit) (le_true (fitting.own.soft + room) soft_limit fitting.soft) (le_true fitting.own.hard hard_limit fitting.hard)

  pub says_yes : is_checked p.unit p.main rows room ≡ true
  says_yes =
      both_hold (every (length (g p)) (is_met (g p) (costs_of p.unit p.main) (all_standings p) given)) (fits room (flat_numbers (slice_get given p.main)))
      (every_true (length (g p)) (is_met (g p) (costs_of p.unit p.main) (all_standings p) given) (λ f few. met f (subst (λ n. f < n) (graph_long p.unit p.unit.funcs) few)))
      main_fits

pub fitting_is_checked : FittingIsChecked
fitting_is_checked p rows room main_body named fitting = says_yes p rows room main_body named fitting
