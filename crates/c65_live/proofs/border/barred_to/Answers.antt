use Rattle.std.proofs.Common.{◌≡◌, ◌-◌, ◌≤◌, Some, slice_get, inl, inr, subst, arith}
use Rattle.std.proofs.lemmas.Bool.{cases_lt}
use Rattle.std.proofs.lemmas.Option.{get_or_from_slice_get, slice_get_within}
use Rattle.c65_live.proofs.border.barred_to.Goals as goal

pub loop-first-init : goal.loop-first-init
loop-first-init c = record {
  low = omega arith;
  within = omega arith;
  barred = λ q r far e. absurd (omega (arith, far, slice_get_within c.args.places.now q (Some r) e));
}

pub loop-first-preserved : goal.loop-first-preserved
loop-first-preserved c =
    let kept = c.loop-first.invariant in
    let made = c.lower-first.ensures in
    let places = c.args.places.now in
    record {
      low = omega (arith, kept.low, made.low);
      within = omega (arith, kept.within);
      barred = λ q r far e. elim (cases_lt q c.loop-first.at) as (λ _. c.lower-first.result ≤ r) [
        | inl here ↦
            let at : q ≡ c.loop-first.at - 1 = omega (arith, far, here) in
            made.place r (get_or_from_slice_get places (c.loop-first.at - 1) (Some r) _ (subst (λ k. slice_get places k ≡ Some (Some r)) at e))
        | inr behind ↦ let before : c.loop-first.first ≤ r = kept.barred q r behind e in omega (arith, made.low, before)
      ];
    }

pub returns-clause-barred : goal.returns-clause-barred
returns-clause-barred c q r far e = c.loop-first.invariant.barred q r (omega (arith, far, c.loop-first-test.false)) e
