use Rattle.std.proofs.Common.{◌≡◌, ◌+◌, ap, ◌∙◌, arith}
use Rattle.std.specs.Prelude.{max}
use Rattle.c65_tree.proofs.Lists.{deepest_next, total_next}
use Rattle.c65_tree.proofs.Views
use Rattle.c65_tree.specs.Lists.{deepest, total, of_option}
use Rattle.c65_tree.specs.Depth.{expr_depth, specifier_depth, declarator_depth, params_depth}
use Rattle.c65_tree.specs.Nodes.{expr_nodes, specifier_nodes, declarator_nodes, params_nodes}
use Rattle.c65_tree.specs.Parts as part
use Rattle.c65_tree.specs.View.{expr_of, expr_at, specifier_of, specifier_at, declarator_of, params_of}
use Rattle.c65_tree.specs.declared.expr.Expr.{Expr}
use Rattle.c65_tree.specs.declared.expr.ExprKind.{ExprKind}
use Rattle.c65_tree.specs.declared.expr.SpecifierKind.{SpecifierKind}
use Rattle.c65_tree.specs.declared.expr.SpecifierKind.TheVariants as s
use Rattle.c65_tree.specs.declared.expr.Params.{Params}
use Rattle.c65_tree.proofs.extent.+extent.Goals as goal

pub exprs_extent-loop-e-preserved : goal.exprs_extent-loop-e-preserved
exprs_extent-loop-e-preserved t c = record {
  depth = omega (arith, deepest_next (λ e. expr_depth (expr_of e)) c.args.exprs.now c.loop-e.e-index c.e-item.result c.loop-e-test.true c.e-item.is);
  nodes = omega (arith, total_next (λ e. expr_nodes (expr_of e)) c.args.exprs.now c.loop-e.e-index c.e-item.result c.loop-e-test.true c.e-item.is);
}

pub items_extent-loop-item-preserved : goal.items_extent-loop-item-preserved
items_extent-loop-item-preserved t c = record {
  depth = omega (arith, deepest_next (λ q. specifier_depth (specifier_of q)) c.args.items.now c.loop-item.item-index c.item-item.result c.loop-item-test.true c.item-item.is);
  nodes = omega (arith, total_next (λ q. specifier_nodes (specifier_of q)) c.args.items.now c.loop-item.item-index c.item-item.result c.loop-item-test.true c.item-item.is);
}

pub member_decls_extent-loop-decl-preserved : goal.member_decls_extent-loop-decl-preserved
member_decls_extent-loop-decl-preserved t c = record {
  depth = omega (arith, deepest_next part.member_decl_depth c.args.decls.now c.loop-decl.decl-index c.decl-item.result c.loop-decl-test.true c.decl-item.is, Views.member_decl_depth c.decl-item.result, ap (deepest part.one_member_depth) c.deref.ensures.value);
  nodes = omega (arith, total_next part.member_decl_nodes c.args.decls.now c.loop-decl.decl-index c.decl-item.result c.loop-decl-test.true c.decl-item.is, Views.member_decl_nodes c.decl-item.result, ap (total part.one_member_nodes) c.deref.ensures.value);
}

pub members_extent-loop-member-preserved : goal.members_extent-loop-member-preserved
members_extent-loop-member-preserved t c = record {
  depth = omega (arith, deepest_next part.one_member_depth c.args.members.now c.loop-member.member-index c.member-item.result c.loop-member-test.true c.member-item.is);
  nodes = omega (arith, total_next part.one_member_nodes c.args.members.now c.loop-member.member-index c.member-item.result c.loop-member-test.true c.member-item.is);
}

pub enumerators_extent-loop-enumerator-preserved : goal.enumerators_extent-loop-enumerator-preserved
enumerators_extent-loop-enumerator-preserved t c = record {
  depth = omega (arith, deepest_next part.one_enumerator_depth c.args.enumerators.now c.loop-enumerator.enumerator-index c.enumerator-item.result c.loop-enumerator-test.true c.enumerator-item.is, Views.enumerator_depth c.enumerator-item.result);
  nodes = omega (arith, total_next part.one_enumerator_nodes c.args.enumerators.now c.loop-enumerator.enumerator-index c.enumerator-item.result c.loop-enumerator-test.true c.enumerator-item.is, Views.enumerator_nodes c.enumerator-item.result);
}

pub param_types_extent-loop-param-preserved : goal.param_types_extent-loop-param-preserved
param_types_extent-loop-param-preserved t c = record {
  depth = omega (arith, deepest_next part.param_depth c.args.params.now c.loop-param.param-index c.param-item.result c.loop-param-test.true c.param-item.is, Views.param_depth c.param-item.result);
  nodes = omega (arith, total_next part.param_nodes c.args.params.now c.loop-param.param-index c.param-item.result c.loop-param-test.true c.param-item.is, Views.param_nodes c.param-item.result);
}

pub expr_extent-returns-in-Call-clause-depth : goal.expr_extent-returns-in-Call-clause-depth
expr_extent-returns-in-Call-clause-depth t c =
    let k = c.in-Call in
    let e : expr_depth (expr_of c.args.expr.now) ≡ max (expr_depth (expr_of k.f.value)) (deepest (λ e. expr_depth (expr_of e)) k.arguments.items) + 1 = ap (λ (y : ExprKind). expr_depth (expr_at c.args.expr.now.pos y)) k.is ∙ Views.call_depth c.args.expr.now.pos k.f k.arguments in
    omega (arith, e, ap (λ (y : Expr). expr_depth (expr_of y)) c.deref-in-Call.ensures, ap (deepest (λ e. expr_depth (expr_of e))) c.deref-in-Call-2.ensures.value)

pub expr_extent-returns-in-Call-clause-nodes : goal.expr_extent-returns-in-Call-clause-nodes
expr_extent-returns-in-Call-clause-nodes t c =
    let k = c.in-Call in
    let e : expr_nodes (expr_of c.args.expr.now) ≡ expr_nodes (expr_of k.f.value) + total (λ e. expr_nodes (expr_of e)) k.arguments.items + 1 = ap (λ (y : ExprKind). expr_nodes (expr_at c.args.expr.now.pos y)) k.is ∙ Views.call_nodes c.args.expr.now.pos k.f k.arguments in
    omega (arith, e, ap (λ (y : Expr). expr_nodes (expr_of y)) c.deref-in-Call.ensures, ap (total (λ e. expr_nodes (expr_of e))) c.deref-in-Call-2.ensures.value)

pub params_extent-returns-in-Types-clause-depth : goal.params_extent-returns-in-Types-clause-depth
params_extent-returns-in-Types-clause-depth t c =
    let k = c.in-Types in
    let e : params_depth (params_of c.args.params.now) ≡ deepest part.param_depth k.types.items = ap (λ (y : Params). params_depth (params_of y)) k.is ∙ Views.types_depth k.types k.field-1 in
    omega (arith, e, ap (deepest part.param_depth) c.deref.ensures.value)

pub specifiers_extent-returns-clause-depth : goal.specifiers_extent-returns-clause-depth
specifiers_extent-returns-clause-depth t c = omega (arith, Views.specifiers_depth c.args.specifiers.now, ap (deepest (λ k. specifier_depth (specifier_of k))) c.deref.ensures.value)

pub member_extent-returns-in-Some-clause-depth : goal.member_extent-returns-in-Some-clause-depth
member_extent-returns-in-Some-clause-depth t c = omega (arith, Views.member_depth c.args.member.now, ap (of_option (λ d. declarator_depth (declarator_of d))) c.in-Some.is)

pub params_extent-returns-in-Types-clause-nodes : goal.params_extent-returns-in-Types-clause-nodes
params_extent-returns-in-Types-clause-nodes t c =
    let k = c.in-Types in
    let e : params_nodes (params_of c.args.params.now) ≡ total part.param_nodes k.types.items = ap (λ (y : Params). params_nodes (params_of y)) k.is ∙ Views.types_nodes k.types k.field-1 in
    omega (arith, e, ap (total part.param_nodes) c.deref.ensures.value)

pub specifiers_extent-returns-clause-nodes : goal.specifiers_extent-returns-clause-nodes
specifiers_extent-returns-clause-nodes t c = omega (arith, Views.specifiers_nodes c.args.specifiers.now, ap (total (λ k. specifier_nodes (specifier_of k))) c.deref.ensures.value)

pub member_extent-returns-in-Some-clause-nodes : goal.member_extent-returns-in-Some-clause-nodes
member_extent-returns-in-Some-clause-nodes t c = omega (arith, Views.member_nodes c.args.member.now, ap (of_option (λ d. declarator_nodes (declarator_of d))) c.in-Some.is)

pub specifier_extent-returns-in-Some-clause-depth : goal.specifier_extent-returns-in-Some-clause-depth
specifier_extent-returns-in-Some-clause-depth t c =
    let k = c.in-Tagged in
    let q = c.args.specifier.now in
    let x = c.in-Some.decls in
    omega (arith, ap (λ (y : SpecifierKind). specifier_depth (specifier_at q.pos y)) (k.is ∙ ap (s.Tagged k.field-0 k.field-1) c.in-Some.is) ∙ Views.tagged_depth q.pos k.field-0 k.field-1 x, ap (deepest part.member_decl_depth) c.deref.ensures.value)

pub specifier_extent-returns-in-Some-enumerators-clause-depth : goal.specifier_extent-returns-in-Some-enumerators-clause-depth
specifier_extent-returns-in-Some-enumerators-clause-depth t c =
    let k = c.in-Enum in
    let q = c.args.specifier.now in
    let x = c.in-Some-enumerators.list in
    omega (arith, ap (λ (y : SpecifierKind). specifier_depth (specifier_at q.pos y)) (k.is ∙ ap (s.Enum k.field-0) c.in-Some-enumerators.is) ∙ Views.enum_depth q.pos k.field-0 x, ap (deepest part.one_enumerator_depth) c.deref-in-Some-enumerators.ensures.value)

pub specifier_extent-returns-in-Some-clause-nodes : goal.specifier_extent-returns-in-Some-clause-nodes
specifier_extent-returns-in-Some-clause-nodes t c =
    let k = c.in-Tagged in
    let q = c.args.specifier.now in
    let x = c.in-Some.decls in
    omega (arith, ap (λ (y : SpecifierKind). specifier_nodes (specifier_at q.pos y)) (k.is ∙ ap (s.Tagged k.field-0 k.field-1) c.in-Some.is) ∙ Views.tagged_nodes q.pos k.field-0 k.field-1 x, ap (total part.member_decl_nodes) c.deref.ensures.value)

pub specifier_extent-returns-in-Some-enumerators-clause-nodes : goal.specifier_extent-returns-in-Some-enumerators-clause-nodes
specifier_extent-returns-in-Some-enumerators-clause-nodes t c =
    let k = c.in-Enum in
    let q = c.args.specifier.now in
    let x = c.in-Some-enumerators.list in
    omega (arith, ap (λ (y : SpecifierKind). specifier_nodes (specifier_at q.pos y)) (k.is ∙ ap (s.Enum k.field-0) c.in-Some-enumerators.is) ∙ Views.enum_nodes q.pos k.field-0 x, ap (total part.one_enumerator_nodes) c.deref-in-Some-enumerators.ensures.value)
