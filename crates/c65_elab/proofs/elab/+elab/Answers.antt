use Rattle.std.proofs.Common.{◌≡◌, ℤ, rules, ap, ◌∙◌, sym, subst, arith, map, take, to_z, w64, to_z-of_z, Ok}
use Rattle.std.proofs.lemmas.Grind.{common_steps}
use Rattle.std.proofs.lemmas.Int.{ints}
use Rattle.std.proofs.lemmas.List.{map_push}
use Rattle.c65_csem.specs.Views.{typed_of, nodes_of}
use Rattle.c65_ctype.specs.Views.{qty_of, field_of}
use Rattle.c65_elab_declare.specs.Declarators.{formal_of}
use Rattle.c65_elab_declare.specs.Drafts.{draft_of}
use Rattle.c65_elab_scope.specs.Scopes.{scope_of}
use Rattle.c65_elab.proofs.Listing.{args_walk, args_next, args_refused, drafts_walk, drafts_next, drafts_refused, enums_walk, enums_next, enums_refused, fields_walk, fields_next, fields_refused, members_walk, members_next, members_refused, params_walk, params_next, params_refused, params_many}
use Rattle.c65_base.specs.declared.refusal.Pos.{Pos}
use Rattle.c65_base.specs.Answers.{Fails}
use Rattle.c65_elab.specs.Constants.{value_at}
use Rattle.c65_tree.specs.declared.expr.ExprKind.{ExprKind}
use Rattle.c65_tree.specs.declared.expr.Params.{Params}
use Rattle.c65_tree.specs.declared.expr.SpecifierKind.{SpecifierKind}
use Rattle.c65_tree.specs.declared.expr.SpecifierKind.TheVariants as k
use Rattle.c65_tree.specs.View.{expr_at, params_of, specifier_at}
use Rattle.c65_elab.specs.Typing.{typed, formals_in, specifier_in}
use Rattle.c65_elab.proofs.Knots.{call_is, tagged_is, enum_is, types_is, specified_is}
use Rattle.c65_elab.proofs.Parts.{place_is}
use Rattle.c65_elab.proofs.Walks.{whole, fails_bind}
use Rattle.c65_elab.proofs.elab.+elab.Goals as goal

pub expressions-loop-expr-preserved : goal.expressions-loop-expr-preserved
expressions-loop-expr-preserved t c =
    rw c.in_ok-push.ensures.items (args_next (scope_of c.args.scope.now) (scope_of c.loop-expr.scope) (scope_of c.expression.new.scope) c.args.list.now c.loop-expr.expr-index c.expr-item.result c.loop-expr.typed.items c.in_ok-e.e c.loop-expr-test.true c.expr-item.is c.loop-expr.invariant c.in_ok-e.ensures)

pub expressions-returns-in_err-e : goal.expressions-returns-in_err-e
expressions-returns-in_err-e t c =
    let fault = args_refused (scope_of c.args.scope.now) (scope_of c.loop-expr.scope) c.args.list.now c.loop-expr.expr-index c.expr-item.result c.loop-expr.typed.items c.in_err-e.field-0.0 c.loop-expr-test.true c.expr-item.is c.loop-expr.invariant c.in_err-e.ensures in
    first_of (search (rules, fault), grind (arith, common_steps, fault))

pub expressions-returns : goal.expressions-returns
expressions-returns t c = whole (args_walk (scope_of c.args.scope.now)) c.args.list.now c.loop-expr.expr-index (nodes_of c.loop-expr.typed.items, scope_of c.loop-expr.scope) c.loop-expr-test.false c.loop-expr.invariant

pub drafted-loop-item-preserved : goal.drafted-loop-item-preserved
drafted-loop-item-preserved t c =
    drafts_next c.args.sole (scope_of c.args.scope.now) (scope_of c.loop-item.scope) (scope_of c.specifier.new.scope) c.args.items.now c.loop-item.item-index c.item-item.result (draft_of c.loop-item.draft) (draft_of c.in_ok-draft.draft) c.loop-item-test.true c.item-item.is c.loop-item.invariant c.in_ok-draft.ensures

pub drafted-returns-in_err-draft : goal.drafted-returns-in_err-draft
drafted-returns-in_err-draft t c =
    let fault = drafts_refused c.args.sole (scope_of c.args.scope.now) (scope_of c.loop-item.scope) c.args.items.now c.loop-item.item-index c.item-item.result (draft_of c.loop-item.draft) c.in_err-draft.field-0.0 c.loop-item-test.true c.item-item.is c.loop-item.invariant c.in_err-draft.ensures in
    first_of (search (rules, fault), grind (arith, common_steps, fault))

pub drafted-returns : goal.drafted-returns
drafted-returns t c = whole (drafts_walk c.args.sole (scope_of c.args.scope.now)) c.args.items.now c.loop-item.item-index (draft_of c.loop-item.draft, scope_of c.loop-item.scope) c.loop-item-test.false c.loop-item.invariant

pub enumerators-loop-item-preserved : goal.enumerators-loop-item-preserved
enumerators-loop-item-preserved t c =
    let done = enums_next (scope_of c.args.scope.now) (scope_of c.loop-item.scope) (scope_of c.enumerator.new.scope) c.args.list.now c.loop-item.item-index c.item-item.result (to_z w64 c.loop-item.next-bits) c.in_ok-next.next c.loop-item-test.true c.item-item.is c.loop-item.invariant c.in_ok-next.ensures in
    first_of (search (rules, done), grind (arith, to_z-of_z, done), grind (arith, ints, to_z-of_z, done), search (arith, ints, to_z-of_z, done))

pub enumerators-returns-in_err-next : goal.enumerators-returns-in_err-next
enumerators-returns-in_err-next t c =
    let fault = enums_refused (scope_of c.args.scope.now) (scope_of c.loop-item.scope) c.args.list.now c.loop-item.item-index c.item-item.result (to_z w64 c.loop-item.next-bits) c.in_err-next.field-0.0 c.loop-item-test.true c.item-item.is c.loop-item.invariant c.in_err-next.ensures in
    first_of (search (rules, fault), grind (arith, common_steps, fault))

pub enumerators-returns : goal.enumerators-returns
enumerators-returns t c =
    let so_far = subst (λ (z : ℤ). enums_walk (scope_of c.args.scope.now) (take c.loop-item.item-index c.args.list.now) ≡ Ok (z, scope_of c.loop-item.scope)) c.loop-item.next-is c.loop-item.invariant in
    let done = whole (enums_walk (scope_of c.args.scope.now)) c.args.list.now c.loop-item.item-index (c.loop-item.next, scope_of c.loop-item.scope) c.loop-item-test.false so_far in
    first_of (search (rules, done), grind (arith, to_z-of_z, done), grind (arith, ints, to_z-of_z, done))

pub fields-loop-item-preserved : goal.fields-loop-item-preserved
fields-loop-item-preserved t c =
    fields_next (scope_of c.args.scope.now) (scope_of c.loop-item.scope) (scope_of c.and_fields.new.scope) c.args.list.now c.loop-item.item-index c.item-item.result (map field_of c.loop-item.all.items) (map field_of c.in_ok-all.all.items) c.loop-item-test.true c.item-item.is c.loop-item.invariant c.in_ok-all.ensures

pub fields-returns-in_err-all : goal.fields-returns-in_err-all
fields-returns-in_err-all t c =
    let fault = fields_refused (scope_of c.args.scope.now) (scope_of c.loop-item.scope) c.args.list.now c.loop-item.item-index c.item-item.result (map field_of c.loop-item.all.items) c.in_err-all.field-0.0 c.loop-item-test.true c.item-item.is c.loop-item.invariant c.in_err-all.ensures in
    first_of (search (rules, fault), grind (arith, common_steps, fault))

pub fields-returns : goal.fields-returns
fields-returns t c = whole (fields_walk (scope_of c.args.scope.now)) c.args.list.now c.loop-item.item-index (map field_of c.loop-item.all.items, scope_of c.loop-item.scope) c.loop-item-test.false c.loop-item.invariant

pub members-loop-item-preserved : goal.members-loop-item-preserved
members-loop-item-preserved t c =
    members_next (map field_of c.args.fields.items) (qty_of c.args.base.now) c.args.signed (scope_of c.args.scope.now) (scope_of c.loop-item.scope) (scope_of c.a_member.new.scope) c.args.list.now c.loop-item.item-index c.item-item.result (map field_of c.loop-item.all.items) (map field_of c.push.new.self.items) (field_of c.in_ok-field.field) c.loop-item-test.true c.item-item.is c.loop-item.invariant c.in_ok-field.ensures (ap (map field_of) c.in_ok-push.ensures.items ∙ map_push field_of c.loop-item.all.items c.in_ok-field.field)

pub members-returns-in_err-field : goal.members-returns-in_err-field
members-returns-in_err-field t c =
    let fault = members_refused (map field_of c.args.fields.items) (qty_of c.args.base.now) c.args.signed (scope_of c.args.scope.now) (scope_of c.loop-item.scope) c.args.list.now c.loop-item.item-index c.item-item.result (map field_of c.loop-item.all.items) c.in_err-field.field-0.0 c.loop-item-test.true c.item-item.is c.loop-item.invariant c.in_err-field.ensures in
    first_of (search (rules, fault), grind (arith, common_steps, fault))

pub members-returns : goal.members-returns
members-returns t c = whole (members_walk (map field_of c.args.fields.items) (qty_of c.args.base.now) c.args.signed (scope_of c.args.scope.now)) c.args.list.now c.loop-item.item-index (map field_of c.loop-item.all.items, scope_of c.loop-item.scope) c.loop-item-test.false c.loop-item.invariant

pub prototype-loop-param-preserved : goal.prototype-loop-param-preserved
prototype-loop-param-preserved t c = record {
  walk = params_next c.args.sole (scope_of c.args.scope.now) (scope_of c.loop-param.scope) (scope_of c.parameter.new.scope) c.args.params.now c.loop-param.param-index c.param-item.result (map formal_of c.loop-param.formals.items) (map formal_of c.push.new.self.items) c.loop-param.bytes c.in_ok-bytes.bytes (formal_of c.in_ok-formal.formal) c.loop-param-test.true c.param-item.is c.loop-param.invariant.walk c.in_ok-formal.ensures (rw c.types.ensures at c.in_ok-bytes.ensures.exact) (ap (map formal_of) c.in_ok-push.ensures.items ∙ map_push formal_of c.loop-param.formals.items c.in_ok-formal.formal);
  few = c.in_ok-bytes.ensures.few;
}

pub prototype-returns-in_err-formal : goal.prototype-returns-in_err-formal
prototype-returns-in_err-formal t c =
    let fault = params_refused c.args.sole (scope_of c.args.scope.now) (scope_of c.loop-param.scope) c.args.params.now c.loop-param.param-index c.param-item.result (map formal_of c.loop-param.formals.items) c.loop-param.bytes c.in_err-formal.field-0.0 c.loop-param-test.true c.param-item.is c.loop-param.invariant.walk c.in_err-formal.ensures in
    first_of (search (rules, fault), grind (arith, common_steps, fault))

pub prototype-returns-in_err-bytes : goal.prototype-returns-in_err-bytes
prototype-returns-in_err-bytes t c =
    let fault = params_many c.args.sole (scope_of c.args.scope.now) (scope_of c.loop-param.scope) (scope_of c.parameter.new.scope) c.args.params.now c.loop-param.param-index c.param-item.result (map formal_of c.loop-param.formals.items) c.loop-param.bytes (formal_of c.in_ok-formal.formal) c.in_err-bytes.field-0.0 c.loop-param-test.true c.param-item.is c.loop-param.invariant.walk c.in_ok-formal.ensures (rw c.types.ensures at c.in_err-bytes.ensures.exact) in
    first_of (search (rules, fault), grind (arith, common_steps, fault))

pub prototype-returns : goal.prototype-returns
prototype-returns t c = whole (params_walk c.args.sole (scope_of c.args.scope.now)) c.args.params.now c.loop-param.param-index ((map formal_of c.loop-param.formals.items, c.loop-param.bytes), scope_of c.loop-param.scope) c.loop-param-test.false c.loop-param.invariant.walk

pub expression-returns-in_err-given-in-Call : goal.expression-returns-in_err-given-in-Call
expression-returns-in_err-given-in-Call t c =
    let all = ap (λ (y : ExprKind). typed (expr_at c.args.expr.now.pos y) (scope_of c.args.scope.now)) c.in-Call.is ∙ call_is c.args.expr.now.pos c.in-Call.f c.in-Call.arguments (scope_of c.args.scope.now) in
    let fault = subst (Fails c.in_err-given-in-Call.field-0.0) (sym all) (first_of (search rules, search (rules, fails_bind), grind (arith, common_steps), grind (arith, common_steps, fails_bind))) in
    first_of (search (rules, fault), grind (arith, common_steps, fault))

pub expression-returns-in_ok-given-in-Call : goal.expression-returns-in_ok-given-in-Call
expression-returns-in_ok-given-in-Call t c =
    let all = ap (λ (y : ExprKind). typed (expr_at c.args.expr.now.pos y) (scope_of c.args.scope.now)) c.in-Call.is ∙ call_is c.args.expr.now.pos c.in-Call.f c.in-Call.arguments (scope_of c.args.scope.now) in
    rw all (first_of (search rules, grind (arith, common_steps)))

pub formals-returns-in_err-formals-in-Types : goal.formals-returns-in_err-formals-in-Types
formals-returns-in_err-formals-in-Types t c =
    let all = ap (λ (y : Params). formals_in (params_of y) c.args.stays (scope_of c.args.scope.now)) c.in-Types.is ∙ types_is c.in-Types.list c.in-Types.variadic c.args.stays (scope_of c.args.scope.now) in
    let fault = subst (Fails c.in_err-formals-in-Types.field-0.0) (sym all) (first_of (search rules, search (rules, fails_bind), grind (arith, common_steps), grind (arith, common_steps, fails_bind))) in
    first_of (search (rules, fault), grind (arith, common_steps, fault))

pub formals-returns-in_ok-formals-in-Types : goal.formals-returns-in_ok-formals-in-Types
formals-returns-in_ok-formals-in-Types t c =
    let all = ap (λ (y : Params). formals_in (params_of y) c.args.stays (scope_of c.args.scope.now)) c.in-Types.is ∙ types_is c.in-Types.list c.in-Types.variadic c.args.stays (scope_of c.args.scope.now) in
    rw all (first_of (search rules, grind (arith, common_steps)))

pub value_in-returns-in_err-value_at-in-Some : goal.value_in-returns-in_err-value_at-in-Some
value_in-returns-in_err-value_at-in-Some t c = first_of (search (rules, place_is), grind (arith, common_steps, place_is))

pub value_in-returns-in_ok-value_at-in-Some : goal.value_in-returns-in_ok-value_at-in-Some
value_in-returns-in_ok-value_at-in-Some t c = first_of (search (rules, place_is), grind (arith, common_steps, place_is))

pub specifier-returns-in_err-fields-in-Some : goal.specifier-returns-in_err-fields-in-Some
specifier-returns-in_err-fields-in-Some t c =
    let all = ap (λ (y : SpecifierKind). specifier_in (specifier_at c.args.item.now.pos y) (draft_of c.args.draft) c.args.sole (scope_of c.args.scope.now)) (c.in-Tagged.is ∙ ap (k.Tagged c.in-Tagged.is_union c.in-Tagged.name) c.in-Some.is) ∙ tagged_is c.args.item.now.pos c.in-Tagged.is_union c.in-Tagged.name c.in-Some.list (draft_of c.args.draft) c.args.sole (scope_of c.args.scope.now) in
    let fault = subst (Fails c.in_err-fields-in-Some.field-0.0) (sym all) (first_of (search rules, search (rules, fails_bind), grind (arith, common_steps), grind (arith, common_steps, fails_bind))) in
    first_of (search (rules, fault), grind (arith, common_steps, fault))

pub specifier-returns-in_err-finish_tag-in-Some : goal.specifier-returns-in_err-finish_tag-in-Some
specifier-returns-in_err-finish_tag-in-Some t c =
    let all = ap (λ (y : SpecifierKind). specifier_in (specifier_at c.args.item.now.pos y) (draft_of c.args.draft) c.args.sole (scope_of c.args.scope.now)) (c.in-Tagged.is ∙ ap (k.Tagged c.in-Tagged.is_union c.in-Tagged.name) c.in-Some.is) ∙ tagged_is c.args.item.now.pos c.in-Tagged.is_union c.in-Tagged.name c.in-Some.list (draft_of c.args.draft) c.args.sole (scope_of c.args.scope.now) in
    let fault = subst (Fails c.in_err-finish_tag-in-Some.field-0.0) (sym all) (first_of (search rules, search (rules, fails_bind), grind (arith, common_steps), grind (arith, common_steps, fails_bind))) in
    first_of (search (rules, fault), grind (arith, common_steps, fault))

pub specifier-returns-in_err-enumerators-in-Some-given : goal.specifier-returns-in_err-enumerators-in-Some-given
specifier-returns-in_err-enumerators-in-Some-given t c =
    let all = ap (λ (y : SpecifierKind). specifier_in (specifier_at c.args.item.now.pos y) (draft_of c.args.draft) c.args.sole (scope_of c.args.scope.now)) (c.in-Enum.is ∙ ap (k.Enum c.in-Enum.name) c.in-Some-given.is) ∙ enum_is c.args.item.now.pos c.in-Enum.name c.in-Some-given.list (draft_of c.args.draft) c.args.sole (scope_of c.args.scope.now) in
    let fault = subst (Fails c.in_err-enumerators-in-Some-given.field-0.0) (sym all) (first_of (search rules, search (rules, fails_bind), grind (arith, common_steps), grind (arith, common_steps, fails_bind))) in
    first_of (search (rules, fault), grind (arith, common_steps, fault))

pub specifier-returns-in_ok-finish_tag-in-Some : goal.specifier-returns-in_ok-finish_tag-in-Some
specifier-returns-in_ok-finish_tag-in-Some t c =
    let all = ap (λ (y : SpecifierKind). specifier_in (specifier_at c.args.item.now.pos y) (draft_of c.args.draft) c.args.sole (scope_of c.args.scope.now)) (c.in-Tagged.is ∙ ap (k.Tagged c.in-Tagged.is_union c.in-Tagged.name) c.in-Some.is) ∙ tagged_is c.args.item.now.pos c.in-Tagged.is_union c.in-Tagged.name c.in-Some.list (draft_of c.args.draft) c.args.sole (scope_of c.args.scope.now) in
    rw all (first_of (search rules, grind (arith, common_steps)))

pub specifier-returns-in_ok-enumerators-in-Some-given : goal.specifier-returns-in_ok-enumerators-in-Some-given
specifier-returns-in_ok-enumerators-in-Some-given t c =
    let all = ap (λ (y : SpecifierKind). specifier_in (specifier_at c.args.item.now.pos y) (draft_of c.args.draft) c.args.sole (scope_of c.args.scope.now)) (c.in-Enum.is ∙ ap (k.Enum c.in-Enum.name) c.in-Some-given.is) ∙ enum_is c.args.item.now.pos c.in-Enum.name c.in-Some-given.list (draft_of c.args.draft) c.args.sole (scope_of c.args.scope.now) in
    rw all (first_of (search rules, grind (arith, common_steps)))

pub specifiers-returns-in_err-draft : goal.specifiers-returns-in_err-draft
specifiers-returns-in_err-draft t c =
    let all = specified_is c.args.list.now c.args.alone (scope_of c.args.scope.now) in
    let fault = subst (Fails c.in_err-draft.field-0.0) (sym all) (first_of (search rules, search (rules, fails_bind), grind (arith, common_steps), grind (arith, common_steps, fails_bind))) in
    first_of (search (rules, fault), grind (arith, common_steps, fault))

pub specifiers-returns : goal.specifiers-returns
specifiers-returns t c =
    let all = specified_is c.args.list.now c.args.alone (scope_of c.args.scope.now) in
    rw all (first_of (search rules, grind (arith, common_steps)))
