use Rattle.std.proofs.Common.{◌≡◌, ℕ, ◌<◌, ◌≤◌, ◌-◌, true, false, List, get_or, refl, sym, ◌∙◌, ap, subst, arith}
use Rattle.std.proofs.lemmas.List.{get_or-set_other}
use Rattle.c65_code.specs.declared.parts.RegSet.{RegSet}
use Rattle.c65_code.specs.Parts.{no_parts}
use Rattle.c65_live.specs.Flows.{flows_of, joined_at}
use Rattle.c65_live.specs.Sweeps.{AreSound, room}
use Rattle.c65_live.proofs.Tables.{same_set, sound_step, one_lower, no_more}
use Rattle.c65_live.proofs.region.sweep.Goals as goal
use Rattle.c65_live.proofs.region.sweep.Goals.{then-raise, else-raise}

pub loop-at-preserved : goal.loop-at-preserved
loop-at-preserved c = elim c.if-raise.branch [
  | then-raise w ↦
      let kept = c.loop-at.invariant in
      let lines = c.args.lines.now in
      let out = c.args.out in
      let at_most : room c.loop-at.live ≤ room c.args.live.now = no_more c.loop-at.risen c.loop-at.live c.args.live.now kept.same kept.less in
      let less : room c.raise.new.live < room c.loop-at.live = c.raise.ensures.rises w.if-raise.true in
      record {
        most = omega (arith, kept.most);
        next = c.before_at-next-in-loop-at.ensures;
        sound = λ s. subst (AreSound lines out) (sym c.raise.ensures.set) (sound_step lines out (flows_of lines out) c.loop-at.live (c.loop-at.at - 1) refl (omega (arith, c.loop-at.auto.at, c.loop-at.auto.live, c.loop-at-test.true, kept.most, c.requires)) (kept.sound s));
        behind = λ q far. ap (λ sets. get_or sets q no_parts) c.raise.ensures.set ∙ (get_or-set_other c.loop-at.live (c.loop-at.at - 1) q _ no_parts (λ e. omega (arith, e, far, kept.most, c.loop-at-test.true)) ∙ kept.behind q far);
        same = λ h. absurd (let f : true ≡ false = sym w.risen-is ∙ h in cc);
        closed = λ h. absurd (let f : true ≡ false = sym w.risen-is ∙ h in cc);
        less = λ _. omega arith;
      }
  | else-raise w ↦
      let kept = c.loop-at.invariant in
      let lines = c.args.lines.now in
      let out = c.args.out in
      let here : joined_at (flows_of lines out) c.loop-at.live (c.loop-at.at - 1) ≡ get_or c.loop-at.live (c.loop-at.at - 1) no_parts = c.raise.ensures.same w.if-raise.false in
      let unchanged : c.raise.new.live ≡ c.loop-at.live = c.raise.ensures.set ∙ same_set c.loop-at.live (c.loop-at.at - 1) _ here in
      record {
        most = omega (arith, kept.most);
        next = c.before_at-next-in-loop-at.ensures;
        sound = λ s. subst (AreSound lines out) (sym unchanged) (kept.sound s);
        behind = λ q far. ap (λ sets. get_or sets q no_parts) unchanged ∙ kept.behind q far;
        same = λ h. unchanged ∙ kept.same (sym w.risen-is ∙ h);
        closed = λ h. subst (λ (live : List RegSet). (q : ℕ) → c.loop-at.at - 1 ≤ q → q < c.args.end → joined_at (flows_of lines out) live q ≡ get_or live q no_parts) (sym unchanged)
            (one_lower (λ q. q < c.args.end → joined_at (flows_of lines out) c.loop-at.live q ≡ get_or c.loop-at.live q no_parts) c.loop-at.at (kept.closed (sym w.risen-is ∙ h)) (λ _. here));
        less = λ h. subst (λ live. room live < room c.args.live.now) (sym unchanged) (kept.less (sym w.risen-is ∙ h));
      }
]
