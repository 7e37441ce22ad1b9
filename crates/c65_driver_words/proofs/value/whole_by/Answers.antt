use Rattle.std.proofs.Common.{◌∙◌}
use Rattle.c65_driver_words.proofs.NumberLaws.{whole_ok, whole_err}
use Rattle.c65_driver_words.proofs.value.whole_by.Goals as goal

pub returns-in-Ok : goal.returns-in-Ok
returns-in-Ok c = c.above_zero.ensures ∙ whole_ok c.args.word.now c.parse.result c.in-Ok.number c.requires c.parse.ensures.value.0 c.in-Ok.is

pub returns-in-Err : goal.returns-in-Err
returns-in-Err c = whole_err c.args.word.now c.parse.result c.in-Err.field-0 c.requires c.parse.ensures.value.0 c.in-Err.is
