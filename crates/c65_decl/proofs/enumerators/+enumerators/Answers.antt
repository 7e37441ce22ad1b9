use Rattle.std.proofs.Common.{◌≡◌, ◌+◌, List, drop, ap, ◌∙◌, sym, subst}
use Rattle.std.specs.Prelude.{IfOk}
use Rattle.c65_base.specs.declared.names.Name.{Name}
use Rattle.c65_tree.specs.declared.expr.Expr.{Expr}
use Rattle.c65_tree.specs.declared.expr.ExprKind.{ExprKind}
use Rattle.c65_tree.specs.declared.expr.SpecifierKind.{SpecifierKind}
use Rattle.c65_tree.specs.declared.expr.SpecifierKind.TheVariants as s
use Rattle.c65_tree.specs.View.{expr_of, expr_at, specifier_at}
use Rattle.c65_decl.specs.Enumerators.{each, in_expr, in_specifier, one_expr, one_specifier, one_member_decl, one_member, one_enumerator}
use Rattle.c65_decl.proofs.Enumerating.{each_next, call_is, tagged_is, enum_is}
use Rattle.c65_decl.proofs.enumerators.+enumerators.Goals as goal

pub in_exprs-loop-e-preserved : goal.in_exprs-loop-e-preserved
in_exprs-loop-e-preserved t c = ap (λ (ns : List Name). each one_expr ns (drop (c.loop-e.e-index + 1) c.args.exprs.now)) c.in_ok-all.ensures ∙ sym (each_next one_expr c.loop-e.all.items c.args.exprs.now c.loop-e.e-index c.e-item.result c.loop-e-test.true c.e-item.is) ∙ c.loop-e.invariant

pub in_items-loop-item-preserved : goal.in_items-loop-item-preserved
in_items-loop-item-preserved t c = ap (λ (ns : List Name). each one_specifier ns (drop (c.loop-item.item-index + 1) c.args.items.now)) c.in_ok-all.ensures ∙ sym (each_next one_specifier c.loop-item.all.items c.args.items.now c.loop-item.item-index c.item-item.result c.loop-item-test.true c.item-item.is) ∙ c.loop-item.invariant

pub in_member_decls-loop-decl-preserved : goal.in_member_decls-loop-decl-preserved
in_member_decls-loop-decl-preserved t c = ap (λ (ns : List Name). each one_member_decl ns (drop (c.loop-decl.decl-index + 1) c.args.decls.now)) c.in_ok-all.ensures ∙ sym (each_next one_member_decl c.loop-decl.all.items c.args.decls.now c.loop-decl.decl-index c.decl-item.result c.loop-decl-test.true c.decl-item.is) ∙ c.loop-decl.invariant

pub in_members-loop-member-preserved : goal.in_members-loop-member-preserved
in_members-loop-member-preserved t c = ap (λ (ns : List Name). each one_member ns (drop (c.loop-member.member-index + 1) c.args.members.now)) c.in_ok-all.ensures ∙ sym (each_next one_member c.loop-member.all.items c.args.members.now c.loop-member.member-index c.member-item.result c.loop-member-test.true c.member-item.is) ∙ c.loop-member.invariant

pub in_enumerators-loop-enumerator-preserved : goal.in_enumerators-loop-enumerator-preserved
in_enumerators-loop-enumerator-preserved t c = ap (λ (ns : List Name). each one_enumerator ns (drop (c.loop-enumerator.enumerator-index + 1) c.args.enumerators.now)) c.in_ok-all.ensures ∙ sym (each_next one_enumerator c.loop-enumerator.all.items c.args.enumerators.now c.loop-enumerator.enumerator-index c.enumerator-item.result c.loop-enumerator-test.true c.enumerator-item.is) ∙ c.loop-enumerator.invariant

pub in_expr-returns-in_ok-names-in-Call : goal.in_expr-returns-in_ok-names-in-Call
in_expr-returns-in_ok-names-in-Call t c =
    let k = c.in-Call in
    let p = c.args.expr.now.pos in
    let ns = c.args.names.items in
    let called = c.in_ok-names-in-Call.ensures ∙ ap (λ (e : Expr). in_expr ns (expr_of e)) c.deref-in-Call.ensures in
    let whole = ap (λ (e : ExprKind). in_expr ns (expr_at p e)) k.is ∙ call_is p k.f k.arguments ns in
    subst (λ (ms : List Name). IfOk c.in_exprs.result (λ r. r.items ≡ ms))
    (ap (each one_expr c.in_ok-names-in-Call.names.items) c.deref-in-Call-2.ensures.value ∙ ap (λ (ms : List Name). each one_expr ms k.arguments.items) called ∙ sym whole) c.in_exprs.ensures

pub in_specifier-returns-in-Some : goal.in_specifier-returns-in-Some
in_specifier-returns-in-Some t c =
    let k = c.in-Tagged in
    let p = c.args.specifier.now.pos in
    let ns = c.args.names.items in
    let whole = ap (λ (y : SpecifierKind). in_specifier ns (specifier_at p y)) (k.is ∙ ap (s.Tagged k.field-0 k.field-1) c.in-Some.is) ∙ tagged_is p k.field-0 k.field-1 c.in-Some.decls ns in
    subst (λ (ms : List Name). IfOk c.in_member_decls.result (λ r. r.items ≡ ms)) (ap (each one_member_decl ns) c.deref.ensures.value ∙ sym whole) c.in_member_decls.ensures

pub in_specifier-returns-in-Some-enumerators : goal.in_specifier-returns-in-Some-enumerators
in_specifier-returns-in-Some-enumerators t c =
    let k = c.in-Enum in
    let p = c.args.specifier.now.pos in
    let ns = c.args.names.items in
    let whole = ap (λ (y : SpecifierKind). in_specifier ns (specifier_at p y)) (k.is ∙ ap (s.Enum k.field-0) c.in-Some-enumerators.is) ∙ enum_is p k.field-0 c.in-Some-enumerators.list ns in
    subst (λ (ms : List Name). IfOk c.in_enumerators.result (λ r. r.items ≡ ms)) (ap (each one_enumerator ns) c.deref-in-Some-enumerators.ensures.value ∙ sym whole) c.in_enumerators.ensures
