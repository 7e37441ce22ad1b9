use Rattle.std.proofs.Common.{◌∙◌}
use Rattle.c65_asm.proofs.LabelLaws.{with_label, with_do, with_call}
use Rattle.c65_asm.proofs.reader.add_label.Goals as goal

pub returns-in_ok-add-in-Label : goal.returns-in_ok-add-in-Label
returns-in_ok-add-in-Label c = λ ls e h. with_label ls c.args.line.now c.in-Label.label c.args.labels.now c.add.new.self c.in-Label.is c.in_ok-add-in-Label.ensures.numbers e h

pub returns-in-Do : goal.returns-in-Do
returns-in-Do c = λ ls e h. e ∙ with_do ls c.args.line.now _ _ _ c.in-Do.is

pub returns-in-Call : goal.returns-in-Call
returns-in-Call c = λ ls e h. e ∙ with_call ls c.args.line.now _ c.in-Call.is
