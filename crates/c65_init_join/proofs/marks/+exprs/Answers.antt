use Rattle.std.proofs.Common.{◌∙◌, ap}
use Rattle.c65_csem.specs.Views.{nodes_of}
use Rattle.c65_init_join.specs.Uses.{marks_of, named_in}
use Rattle.c65_init_join.proofs.UseLaws.{call_named}
use Rattle.c65_init_join.proofs.marks.+exprs.Goals as goal

pub mark_kind-returns-in-Call : goal.mark_kind-returns-in-Call
mark_kind-returns-in-Call t c =
    c.mark_exprs.ensures
    ∙ ap (named_in (nodes_of c.deref-given.result.now)) c.mark_expr-in-Call.ensures
    ∙ call_named (marks_of c.args.marks.now) c.args.kind.now c.in-Call.function c.in-Call.arguments c.deref-callee.result.now c.deref-given.result.now c.in-Call.is c.deref-callee.ensures c.deref-given.ensures.value
