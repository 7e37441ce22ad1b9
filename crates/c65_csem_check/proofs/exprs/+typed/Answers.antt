use Rattle.std.proofs.Common.{◌∙◌}
use Rattle.c65_ctype.specs.Views.{qty_of}
use Rattle.c65_csem.specs.Views.{unit_of}
use Rattle.c65_csem_check.proofs.CodeLaws.{all_same, call_parts, call_node, packed_by, packed_never}
use Rattle.c65_csem_check.proofs.exprs.+typed.Goals as goal

pub is_whole_call-returns-in-Call : goal.is_whole_call-returns-in-Call
is_whole_call-returns-in-Call t c =
    c.are_all.ensures
    ∙ all_same c.is_typed-a.ensures c.are_typed-b.ensures c.is_call-c.ensures
    ∙ call_parts (unit_of c.args.parts.now) (qty_of c.args.e.now.ty) c.args.e.now.kind c.in-Call.function c.in-Call.arguments c.deref-callee.result.now c.deref-given.result.now c.in-Call.is c.deref-callee.ensures c.deref-given.ensures.value

pub is_typed-returns-then-is_usual : goal.is_typed-returns-then-is_usual
is_typed-returns-then-is_usual t c =
    c.is_whole_call.ensures
    ∙ call_node (unit_of c.args.parts.now) (qty_of c.args.e.now.ty) c.args.e.now.kind c.in-Call.field-0 c.in-Call.field-1 c.is_usual.result c.in-Call.is c.is_usual.ensures c.if-is_usual.true

pub is_packed-returns-then-is_typed : goal.is_packed-returns-then-is_typed
is_packed-returns-then-is_typed t c =
    c.is_pack.ensures
    ∙ packed_by (unit_of c.args.parts.now) (qty_of c.args.e.now.ty) c.args.e.now.kind c.in-Pack.a c.deref.result.now c.deref-then-is_typed.result.now c.is_typed.result c.in-Pack.is c.deref.ensures c.deref-then-is_typed.ensures c.is_typed.ensures c.if-is_typed.true

pub is_packed-returns-else-is_typed : goal.is_packed-returns-else-is_typed
is_packed-returns-else-is_typed t c =
    packed_never (unit_of c.args.parts.now) (qty_of c.args.e.now.ty) c.args.e.now.kind c.in-Pack.a c.deref.result.now c.is_typed.result c.in-Pack.is c.deref.ensures c.is_typed.ensures c.if-is_typed.false
