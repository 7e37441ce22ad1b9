use Rattle.std.proofs.Common.{◌≡◌, ◌∙◌, get_or, nat_eq, ap, arith}
use Rattle.std.specs.Map.{lookup}
use Rattle.c65_know.specs.Notes.{nothing_known}
use Rattle.c65_know.proofs.Passes.{pass_more, all_stand, passed_more}
use Rattle.c65_know.proofs.IndexLaws.{next_note, more_index}
use Rattle.c65_know.proofs.index.settle.Goals as goal

pub loop-at-init : goal.loop-at-init
loop-at-init c = record {
  right = c.requires.right;
  index = c.in_ok-ways.ensures;
  passed = λ e. c.requires.passed;
}

pub returns-then-stands : goal.returns-then-stands
returns-then-stands c =
    let kept = c.loop-at.invariant in
    let same : c.note_at-note.result ≡ get_or c.loop-at.notes c.loop-at.at nothing_known = c.stands.ensures.same c.if-stands.true in
    all_stand c.args.lines.now c.loop-at.notes c.loop-at.way c.loop-at.at _ _ c.note_at-note.result c.loop-at-test.true (omega arith)
    (next_note c.args.lines.now c.loop-at.notes c.loop-at.way c.loop-at.ways.entries c.in_ok-backs.backs.items c.loop-at.at _ c.note_at-note.result _ _ (omega (arith, c.loop-at-test.true)) c.in_ok-backs.ensures.each c.index.ensures c.note_at-note.ensures kept.index)
    same kept.right (kept.passed (c.stands.ensures.before c.if-stands.true))

pub loop-at-preserved : goal.loop-at-preserved
loop-at-preserved c =
    let kept = c.loop-at.invariant in
    record {
      right = pass_more c.args.lines.now c.loop-at.notes c.loop-at.way c.after_line-way.result c.loop-at.at _ c.note_at-note.result (omega (arith, c.loop-at-test.true)) (omega (arith, c.loop-at.auto.notes, c.requires.lengths))
          (next_note c.args.lines.now c.loop-at.notes c.loop-at.way c.loop-at.ways.entries c.in_ok-backs.backs.items c.loop-at.at _ c.note_at-note.result _ _ (omega (arith, c.loop-at-test.true)) c.in_ok-backs.ensures.each c.index.ensures c.note_at-note.ensures kept.index)
          c.after_line-way.ensures kept.right;
      index = λ l. ap (lookup (nat_eq l)) c.in_ok-lead.ensures ∙ more_index c.args.lines.now c.loop-at.notes c.loop-at.at _ c.note_at-note.result c.loop-at.ways.entries (omega (arith, c.loop-at-test.true)) (omega (arith, c.loop-at.auto.notes, c.requires.lengths)) kept.index l;
      passed = λ e. passed_more c.args.lines.now c.loop-at.notes c.loop-at.at _ c.note_at-note.result c.note_at-note.result (omega (arith, c.loop-at-test.true)) (omega (arith, c.loop-at.auto.notes, c.requires.lengths)) (c.stays-as_before.ensures.straight e) (kept.passed (c.stays-as_before.ensures.before e));
    }
