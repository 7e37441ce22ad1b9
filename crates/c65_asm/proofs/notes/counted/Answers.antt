use Rattle.std.proofs.Common.{sym, ap, ◌∙◌, option_map}
use Rattle.c65_asm.specs.Lent.{parts}
use Rattle.c65_asm.specs.Noted.{whole_lines, counted}
use Rattle.c65_asm.proofs.NoteLaws.{shorter_behind, counted_here, counted_behind, counted_end}
use Rattle.c65_asm.proofs.notes.counted.Goals as goal

pub loop-line-smaller : goal.loop-line-smaller
loop-line-smaller c = shorter_behind c.loop-line.rest.now c.in-Some.line.now c.in-Some.after.now (sym c.cut.ensures ∙ ap (option_map parts) c.in-Some.is)

pub loop-line-preserved : goal.loop-line-preserved
loop-line-preserved c =
    ap (λ k. counted c.in-Some-left_behind.more k (whole_lines c.in-Some.after.now)) c.next_number-at.ensures
    ∙ sym (counted_behind c.loop-line.left c.in-Some-left_behind.more c.loop-line.at c.loop-line.rest.now c.in-Some.line.now c.in-Some.after.now (sym c.cut.ensures ∙ ap (option_map parts) c.in-Some.is) (sym c.left_behind.ensures ∙ c.in-Some-left_behind.is))
    ∙ c.loop-line.invariant

pub returns-in-None : goal.returns-in-None
returns-in-None c =
    sym (counted_here c.loop-line.left c.loop-line.at c.loop-line.rest.now c.in-Some.line.now c.in-Some.after.now (sym c.cut.ensures ∙ ap (option_map parts) c.in-Some.is) (sym c.left_behind.ensures ∙ c.in-None.is))
    ∙ c.loop-line.invariant

pub returns : goal.returns
returns c = sym (counted_end c.loop-line.left c.loop-line.at c.loop-line.rest.now (sym c.cut.ensures ∙ ap (option_map parts) c.in_default.is)) ∙ c.loop-line.invariant
