use Rattle.std.proofs.Common.{◌≡◌, get_or, arith}
use Rattle.c65_know.specs.Notes.{nothing_known}
use Rattle.c65_know.proofs.Passes.{pass_more, all_stand, passed_more}
use Rattle.c65_know.proofs.ways.settle.Goals as goal

pub returns-then-is_same : goal.returns-then-is_same
returns-then-is_same c =
    let same : c.note_at-note.result ≡ get_or c.loop-at.notes c.loop-at.at nothing_known = c.is_same.ensures c.if-is_same.true in
    all_stand c.args.lines.now c.loop-at.notes c.loop-at.way c.loop-at.at _ _ c.note_at-note.result c.loop-at-test.true (omega arith) c.note_at-note.ensures same c.loop-at.invariant.right c.loop-at.invariant.passed

pub loop-at-preserved : goal.loop-at-preserved
loop-at-preserved c = record {
  right = pass_more c.args.lines.now c.loop-at.notes c.loop-at.way c.after_line-way.result c.loop-at.at _ c.note_at-note.result c.loop-at-test.true (omega arith) c.note_at-note.ensures c.after_line-way.ensures c.loop-at.invariant.right;
  passed = passed_more c.args.lines.now c.loop-at.notes c.loop-at.at _ c.note_at-note.result c.note_at-note.result c.loop-at-test.true (omega arith) (c.refers.ensures c.if-refers.false) c.loop-at.invariant.passed;
}
