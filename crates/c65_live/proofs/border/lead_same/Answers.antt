use Rattle.std.proofs.Common.{◌≡◌, Some, slice_get, inl, inr, subst, arith}
use Rattle.std.proofs.lemmas.Bool.{cases_lt}
use Rattle.std.proofs.lemmas.Option.{get_or_from_slice_get}
use Rattle.c65_live.specs.Regions.{IsSame}
use Rattle.c65_live.proofs.border.lead_same.Goals as goal

pub loop-at-preserved : goal.loop-at-preserved
loop-at-preserved c =
    let places = c.args.places.now in
    record {
      most = omega (arith, c.loop-at-test.true);
      same = λ q r less e far. elim (cases_lt q c.loop-at.at) as (λ _. IsSame c.args.change.at c.args.change.count c.args.change.new c.args.old.now c.args.live.now r) [
        | inl earlier ↦ c.loop-at.invariant.same q r earlier e far
        | inr here ↦
            let at : q ≡ c.loop-at.at = omega (arith, less, here) in
            c.leads_same.ensures c.if-not-leads_same.false r (get_or_from_slice_get places c.loop-at.at (Some r) _ (subst (λ k. slice_get places k ≡ Some (Some r)) at e)) far
      ];
    }

pub returns : goal.returns
returns c h q r less e far = c.loop-at.invariant.same q r (omega (arith, less, c.loop-at-test.false)) e far
