use Rattle.std.proofs.Common.{refl, ◌∙◌, arith}
use Rattle.std.proofs.lemmas.List.{take-set-le, drop-set-lt}
use Rattle.c65_know.proofs.Passes.{pass_from, pass_more}
use Rattle.c65_know.proofs.ways.renew_to.Goals as goal

pub loop-at-init : goal.loop-at-init
loop-at-init c = record {
  right = pass_from _ _ _ _ c.requires.before c.way_to-way.ensures;
  first = refl;
  rest = refl;
}

pub loop-at-preserved : goal.loop-at-preserved
loop-at-preserved c = record {
  right = pass_more c.args.lines.now c.loop-at.notes c.loop-at.way c.after_line-way.result c.loop-at.at _ c.note_at-note.result (omega arith) (omega arith) c.note_at-note.ensures c.after_line-way.ensures c.loop-at.invariant.right;
  first = take-set-le c.args.from c.loop-at.notes c.loop-at.at c.note_at-note.result (omega arith) ∙ c.loop-at.invariant.first;
  rest = drop-set-lt c.args.to c.loop-at.notes c.loop-at.at c.note_at-note.result c.loop-at-test.true ∙ c.loop-at.invariant.rest;
}
