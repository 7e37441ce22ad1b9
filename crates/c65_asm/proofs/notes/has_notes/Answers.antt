use Rattle.std.proofs.Common.{sym, ap, ◌∙◌, option_map}
use Rattle.c65_asm.specs.Lent.{parts}
use Rattle.c65_asm.proofs.NoteLaws.{shorter_behind, noted_here, noted_behind, noted_nowhere}
use Rattle.c65_asm.proofs.notes.has_notes.Goals as goal

pub returns-then-is_note : goal.returns-then-is_note
returns-then-is_note c = sym (noted_here c.loop-line.rest.now c.in-Some.line.now c.in-Some.after.now (sym c.cut.ensures ∙ ap (option_map parts) c.in-Some.is) (sym c.is_note.ensures ∙ c.if-is_note.true)) ∙ c.loop-line.invariant

pub loop-line-smaller : goal.loop-line-smaller
loop-line-smaller c = shorter_behind c.loop-line.rest.now c.in-Some.line.now c.in-Some.after.now (sym c.cut.ensures ∙ ap (option_map parts) c.in-Some.is)

pub loop-line-preserved : goal.loop-line-preserved
loop-line-preserved c = sym (noted_behind c.loop-line.rest.now c.in-Some.line.now c.in-Some.after.now (sym c.cut.ensures ∙ ap (option_map parts) c.in-Some.is) (sym c.is_note.ensures ∙ c.if-is_note.false)) ∙ c.loop-line.invariant

pub returns : goal.returns
returns c = sym (noted_nowhere c.loop-line.rest.now (sym c.cut.ensures ∙ ap (option_map parts) c.in_default.is)) ∙ c.loop-line.invariant
