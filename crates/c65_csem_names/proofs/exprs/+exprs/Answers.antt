use Rattle.std.proofs.Common.{◌∙◌}
use Rattle.c65_csem.specs.Views.{unit_of}
use Rattle.c65_csem_names.proofs.CodeLaws.{both_same, call_node}
use Rattle.c65_csem_names.proofs.exprs.+exprs.Goals as goal

pub is_scoped_in-returns-in-Call : goal.is_scoped_in-returns-in-Call
is_scoped_in-returns-in-Call t c =
    c.are_both.ensures
    ∙ both_same c.is_scoped_in-a.ensures c.are_scoped_in-b.ensures
    ∙ call_node (unit_of c.args.parts.now) c.args.variadic c.args.marks.now c.args.e.now.kind c.in-Call.function c.in-Call.arguments c.deref-callee.result.now c.deref-given.result.now c.in-Call.is c.deref-callee.ensures c.deref-given.ensures.value
