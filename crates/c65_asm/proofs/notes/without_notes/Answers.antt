use Rattle.std.proofs.Common.{◌++◌, sym, ap, ◌∙◌, option_map}
use Rattle.c65_asm.specs.Lent.{parts}
use Rattle.c65_asm.specs.Noted.{without_notes}
use Rattle.c65_asm.proofs.NoteLaws.{shorter_behind, others_behind, others_end}
use Rattle.c65_asm.proofs.notes.without_notes.Goals as goal

pub loop-line-smaller : goal.loop-line-smaller
loop-line-smaller c = shorter_behind c.loop-line.rest.now c.in-Some.line.now c.in-Some.after.now (sym c.cut.ensures ∙ ap (option_map parts) c.in-Some.is)

pub loop-line-preserved : goal.loop-line-preserved
loop-line-preserved c =
    ap (λ t. t ++ without_notes c.in-Some.after.now) c.in_ok-put_other.ensures
    ∙ others_behind c.loop-line.others.items c.loop-line.rest.now c.in-Some.line.now c.in-Some.after.now (sym c.cut.ensures ∙ ap (option_map parts) c.in-Some.is)
    ∙ c.loop-line.invariant

pub returns : goal.returns
returns c =
    c.in_ok-extend_from_slice.ensures.items
    ∙ ap (λ t. c.loop-line.others.items ++ t) (sym (others_end c.loop-line.rest.now (sym c.cut.ensures ∙ ap (option_map parts) c.in_default.is)))
    ∙ c.loop-line.invariant
