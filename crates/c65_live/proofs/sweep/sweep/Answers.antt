use Rattle.std.proofs.Common.{◌≡◌, ℕ, ◌<◌, ◌≤◌, ◌-◌, true, false, List, get_or, sym, ◌∙◌, subst, arith}
use Rattle.c65_code.specs.declared.parts.RegSet.{RegSet}
use Rattle.c65_code.specs.Parts.{no_parts}
use Rattle.c65_live.specs.Flows.{joined_at}
use Rattle.c65_live.specs.Sweeps.{AreSound, room}
use Rattle.c65_live.proofs.Tables.{same_set, sound_step, one_lower, no_more}
use Rattle.c65_live.proofs.sweep.sweep.Goals as goal
use Rattle.c65_live.proofs.sweep.sweep.Goals.{then-raise, else-raise}

pub loop-at-preserved : goal.loop-at-preserved
loop-at-preserved c = elim c.if-raise.branch [
  | then-raise w ↦
      let kept = c.loop-at.invariant in
      let at_most : room c.loop-at.live ≤ room c.args.live.now = no_more c.loop-at.risen c.loop-at.live c.args.live.now kept.same kept.less in
      let less : room c.raise.new.live < room c.loop-at.live = c.raise.ensures.rises w.if-raise.true in
      record {
        next = c.before-next.ensures;
        sound = λ lines out e s. subst (AreSound lines out) (sym c.raise.ensures.set) (sound_step lines out c.args.flows.now c.loop-at.live (c.loop-at.at - 1) e (omega (arith, c.loop-at.auto.at, c.loop-at.auto.live, c.loop-at-test.true, c.requires)) (kept.sound lines out e s));
        same = λ h. absurd (let f : true ≡ false = sym w.risen-is ∙ h in cc);
        closed = λ h. absurd (let f : true ≡ false = sym w.risen-is ∙ h in cc);
        less = λ _. omega arith;
      }
  | else-raise w ↦
      let kept = c.loop-at.invariant in
      let here : joined_at c.args.flows.now c.loop-at.live (c.loop-at.at - 1) ≡ get_or c.loop-at.live (c.loop-at.at - 1) no_parts = c.raise.ensures.same w.if-raise.false in
      let unchanged : c.raise.new.live ≡ c.loop-at.live = c.raise.ensures.set ∙ same_set c.loop-at.live (c.loop-at.at - 1) _ here in
      record {
        next = c.before-next.ensures;
        sound = λ lines out e s. subst (AreSound lines out) (sym unchanged) (kept.sound lines out e s);
        same = λ h. unchanged ∙ kept.same (sym w.risen-is ∙ h);
        closed = λ h. subst (λ (live : List RegSet). (q : ℕ) → c.loop-at.at - 1 ≤ q → joined_at c.args.flows.now live q ≡ get_or live q no_parts) (sym unchanged)
            (one_lower (λ q. joined_at c.args.flows.now c.loop-at.live q ≡ get_or c.loop-at.live q no_parts) c.loop-at.at (kept.closed (sym w.risen-is ∙ h)) here);
        less = λ h. subst (λ live. room live < room c.args.live.now) (sym unchanged) (kept.less (sym w.risen-is ∙ h));
      }
]
