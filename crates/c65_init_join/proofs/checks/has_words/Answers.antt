use Rattle.std.proofs.Common.{◌∙◌, ap}
use Rattle.std.specs.Prelude.{not}
use Rattle.c65_init_join.proofs.CheckLaws.{words_given}
use Rattle.c65_init_join.proofs.checks.has_words.Goals as goal

pub returns-in-Some : goal.returns-in-Some
returns-in-Some c =
    ap not c.is_empty.ensures ∙ words_given c.args.ty.now c.in-Some.params c.deref-types.result.now c.in-Some.is c.deref-types.ensures.value
