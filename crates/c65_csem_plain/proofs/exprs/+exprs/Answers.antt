use Rattle.std.proofs.Common.{◌∙◌}
use Rattle.c65_ctype.specs.Views.{ty_of, types_of}
use Rattle.c65_csem_plain.proofs.CodeLaws.{both_same, call_node}
use Rattle.c65_csem_plain.proofs.exprs.+exprs.Goals as goal

pub is_plain_in-returns-in-Call : goal.is_plain_in-returns-in-Call
is_plain_in-returns-in-Call t c =
    c.are_both.ensures
    ∙ both_same c.is_plain_in-a.ensures c.are_plain_in-b.ensures
    ∙ call_node (types_of c.args.types.now) (ty_of c.args.e.now.ty.ty) c.args.e.now.kind c.in-Call.function c.in-Call.arguments c.deref-callee.result.now c.deref-given.result.now c.in-Call.is c.deref-callee.ensures c.deref-given.ensures.value
