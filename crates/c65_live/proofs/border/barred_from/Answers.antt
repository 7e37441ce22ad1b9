use Rattle.std.proofs.Common.{◌≡◌, ◌≤◌, Some, slice_get, inl, inr, subst, arith}
use Rattle.std.proofs.lemmas.Bool.{cases_lt}
use Rattle.std.proofs.lemmas.Option.{get_or_from_slice_get, slice_get_within}
use Rattle.c65_live.proofs.border.barred_from.Goals as goal

pub loop-at-preserved : goal.loop-at-preserved
loop-at-preserved c =
    let kept = c.loop-at.invariant in
    let made = c.raised-end.ensures in
    let places = c.args.places.now in
    record {
      past = omega (arith, kept.past, made.past);
      within = made.within;
      last = kept.last;
      most = omega (arith, c.loop-at-test.true);
      barred = λ q r less far e. elim (cases_lt q c.loop-at.at) as (λ _. c.raised-end.result ≤ r) [
        | inl earlier ↦
            let same : c.raised-end.result ≡ c.loop-at.end = made.same (omega (arith, far, earlier)) in
            let before : c.loop-at.end ≤ r = kept.barred q r earlier (omega (arith, far, same)) e in
            omega (arith, same, before)
        | inr here ↦
            let at : q ≡ c.loop-at.at = omega (arith, less, here) in
            made.place r (get_or_from_slice_get places c.loop-at.at (Some r) _ (subst (λ k. slice_get places k ≡ Some (Some r)) at e)) (omega (arith, far, at))
      ];
    }

pub returns-clause-barred : goal.returns-clause-barred
returns-clause-barred c q r far e =
    let kept = c.loop-at.invariant in
    kept.barred q r (omega (arith, slice_get_within c.args.places.now q (Some r) e, kept.last, c.loop-at-test.false)) far e
