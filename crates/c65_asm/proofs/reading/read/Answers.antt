use Rattle.c65_asm.proofs.NotedLaws.{text_is, back_is}
use Rattle.c65_asm.proofs.reading.read.Goals as goal

pub returns-clause-text : goal.returns-clause-text
returns-clause-text c = text_is c.args.text.now c.in_ok-answer.answer c.code_in.result c.in_ok-answer.ensures c.code_in.ensures

pub returns-clause-printed : goal.returns-clause-printed
returns-clause-printed c = back_is c.args.text.now c.in_ok-answer.answer c.code_in.result c.in_ok-answer.ensures c.code_in.ensures
