use Rattle.std.proofs.Common.{◌∙◌, nat_eq, ap, arith}
use Rattle.std.specs.Map.{lookup}
use Rattle.c65_know.proofs.Passes.{pass_more}
use Rattle.c65_know.proofs.IndexLaws.{next_note, more_index}
use Rattle.c65_know.proofs.index.pass.Goals as goal

pub loop-at-preserved : goal.loop-at-preserved
loop-at-preserved c =
    let kept = c.loop-at.invariant in
    record {
      right = pass_more c.args.lines.now c.loop-at.notes c.loop-at.way c.after_line-way.result c.loop-at.at _ c.note_at-note.result (omega (arith, c.loop-at-test.true)) (omega (arith, c.loop-at.auto.notes, c.requires))
          (next_note c.args.lines.now c.loop-at.notes c.loop-at.way c.loop-at.ways.entries c.in_ok-backs.backs.items c.loop-at.at _ c.note_at-note.result _ _ (omega (arith, c.loop-at-test.true)) c.in_ok-backs.ensures.each c.index.ensures c.note_at-note.ensures kept.index)
          c.after_line-way.ensures kept.right;
      index = λ l. ap (lookup (nat_eq l)) c.in_ok-lead.ensures ∙ more_index c.args.lines.now c.loop-at.notes c.loop-at.at _ c.note_at-note.result c.loop-at.ways.entries (omega (arith, c.loop-at-test.true)) (omega (arith, c.loop-at.auto.notes, c.requires)) kept.index l;
    }
