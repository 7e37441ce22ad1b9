use Rattle.std.proofs.Common.{◌≡◌, ◌∙◌, List, length, map, ap, option_map, Some, rules, sym, subst, arith}
use Rattle.std.proofs.lemmas.Grind.{common_steps}
use Rattle.c65_base.specs.Answers.{Fails}
use Rattle.c65_ctype.specs.Views.{qty_of, types_of}
use Rattle.c65_elab_scope.specs.Scopes.{scope_of}
use Rattle.c65_tree.specs.declared.stmt.InitKind.{InitKind}
use Rattle.c65_tree.specs.declared.stmt.Initialiser.{Initialiser}
use Rattle.c65_tree.specs.View.{init_of, init_at}
use Rattle.c65_init_cells.specs.Parts.{part_of, pair_of, next_member}
use Rattle.c65_init_cells.specs.Sinks.{sink_of}
use Rattle.c65_init.specs.Initials.{list_of, braced_of, one_of}
use Rattle.c65_init.proofs.Filling.{element_next, element_unmade, element_refused, elements_done, member_next, member_refused, members_done, braced_list}
use Rattle.c65_init.proofs.initial.+initial.Goals as goal

pub elements-loop-turn-preserved : goal.elements-loop-turn-preserved
elements-loop-turn-preserved t c =
    let next = element_next (one_of c.args.left) (qty_of c.args.element.now) c.args.base c.args.size c.args.count c.args.items.now c.loop-turn.turn c.loop-turn.at c.loop-turn.taken c.in_ok-at.at (sink_of c.loop-turn.sink, scope_of c.loop-turn.scope) (sink_of c.one_part.new.sink, scope_of c.one_part.new.scope) (part_of c.in_ok-inner.inner) (omega arith) (omega arith) (first_of (search (rules, c.is_below.ensures), grind (arith, c.is_below.ensures))) c.in_ok-inner.ensures c.in_ok-at.ensures in
    let kept = sym next ∙ c.loop-turn.invariant in
    first_of (search (rules, kept), grind (arith, common_steps, kept))

pub elements-returns-in_err-inner : goal.elements-returns-in_err-inner
elements-returns-in_err-inner t c =
    let fault = subst (Fails c.in_err-inner.field-0.0) c.loop-turn.invariant (element_unmade c.in_err-inner.field-0.0 (one_of c.args.left) (qty_of c.args.element.now) c.args.base c.args.size c.args.count c.args.items.now c.loop-turn.turn c.loop-turn.at c.loop-turn.taken (sink_of c.loop-turn.sink, scope_of c.loop-turn.scope) (omega arith) (omega arith) (first_of (search (rules, c.is_below.ensures), grind (arith, c.is_below.ensures))) c.in_err-inner.ensures) in
    first_of (search (rules, fault), grind (arith, common_steps, fault))

pub elements-returns-in_err-at : goal.elements-returns-in_err-at
elements-returns-in_err-at t c =
    let fault = subst (Fails c.in_err-at.field-0.0) c.loop-turn.invariant (element_refused c.in_err-at.field-0.0 (one_of c.args.left) (qty_of c.args.element.now) c.args.base c.args.size c.args.count c.args.items.now c.loop-turn.turn c.loop-turn.at c.loop-turn.taken (sink_of c.loop-turn.sink, scope_of c.loop-turn.scope) (part_of c.in_ok-inner.inner) (omega arith) (omega arith) (first_of (search (rules, c.is_below.ensures), grind (arith, c.is_below.ensures))) c.in_ok-inner.ensures c.in_err-at.ensures) in
    first_of (search (rules, fault), grind (arith, common_steps, fault))

pub elements-returns : goal.elements-returns
elements-returns t c = sym c.loop-turn.invariant ∙ elements_done (one_of c.args.left) (qty_of c.args.element.now) c.args.base c.args.size c.args.count (map init_of c.args.items.now) (length c.args.items.now) c.loop-turn.turn c.loop-turn.at c.loop-turn.taken (sink_of c.loop-turn.sink, scope_of c.loop-turn.scope) (omega arith)

pub members-returns : goal.members-returns
members-returns t c = sym c.loop-turn.invariant ∙ members_done (one_of c.args.left) c.args.tag c.args.base (map init_of c.args.items.now) (length c.args.items.now) c.loop-turn.turn c.loop-turn.at c.loop-turn.next (sink_of c.loop-turn.sink, scope_of c.loop-turn.scope) (omega arith)

pub members-loop-turn-preserved : goal.members-loop-turn-preserved
members-loop-turn-preserved t c =
    let there : next_member (types_of c.types.result.now) c.args.tag c.args.base c.loop-turn.next ≡ Some (part_of c.in-Some.inner, c.in-Some.behind) = sym c.in_ok-found.ensures ∙ ap (option_map pair_of) c.in-Some.is in
    let here = ap (λ u. next_member (types_of u) c.args.tag c.args.base c.loop-turn.next) (sym c.types.ensures) ∙ there in
    let next = member_next (one_of c.args.left) c.args.tag c.args.base c.args.items.now c.loop-turn.turn c.loop-turn.at c.loop-turn.next c.in_ok-at.at c.in-Some.behind (sink_of c.loop-turn.sink, scope_of c.loop-turn.scope) (sink_of c.one_part.new.sink, scope_of c.one_part.new.scope) (part_of c.in-Some.inner) (omega arith) (omega arith) here c.in_ok-at.ensures in
    let kept = sym next ∙ c.loop-turn.invariant in
    first_of (search (rules, kept), grind (arith, common_steps, kept))

pub members-returns-in_err-at : goal.members-returns-in_err-at
members-returns-in_err-at t c =
    let there : next_member (types_of c.types.result.now) c.args.tag c.args.base c.loop-turn.next ≡ Some (part_of c.in-Some.inner, c.in-Some.behind) = sym c.in_ok-found.ensures ∙ ap (option_map pair_of) c.in-Some.is in
    let here = ap (λ u. next_member (types_of u) c.args.tag c.args.base c.loop-turn.next) (sym c.types.ensures) ∙ there in
    let fault = subst (Fails c.in_err-at.field-0.0) c.loop-turn.invariant (member_refused c.in_err-at.field-0.0 (one_of c.args.left) c.args.tag c.args.base c.args.items.now c.loop-turn.turn c.loop-turn.at c.loop-turn.next c.in-Some.behind (sink_of c.loop-turn.sink, scope_of c.loop-turn.scope) (part_of c.in-Some.inner) (omega arith) (omega arith) here c.in_err-at.ensures) in
    first_of (search (rules, fault), grind (arith, common_steps, fault))

pub braced-returns-in_ok-count-in-List : goal.braced-returns-in_ok-count-in-List
braced-returns-in_ok-count-in-List t c =
    ap (λ (y : InitKind). braced_of (one_of c.args.left) (part_of c.args.part.now) (init_at c.args.init.now.pos y) (sink_of c.args.sink.now, scope_of c.args.scope.now)) c.in-List.is
    ∙ braced_list (one_of c.args.left) (part_of c.args.part.now) c.args.init.now.pos c.in-List.items (sink_of c.args.sink.now, scope_of c.args.scope.now)
    ∙ ap (λ (ys : List Initialiser). list_of (one_of c.args.left) (part_of c.args.part.now) (map init_of ys) (sink_of c.args.sink.now, scope_of c.args.scope.now)) (sym c.deref.ensures.value)
    ∙ c.in_ok-count-in-List.ensures

pub braced-returns-in_err-count-in-List : goal.braced-returns-in_err-count-in-List
braced-returns-in_err-count-in-List t c =
    let same = ap (λ (y : InitKind). braced_of (one_of c.args.left) (part_of c.args.part.now) (init_at c.args.init.now.pos y) (sink_of c.args.sink.now, scope_of c.args.scope.now)) c.in-List.is ∙ braced_list (one_of c.args.left) (part_of c.args.part.now) c.args.init.now.pos c.in-List.items (sink_of c.args.sink.now, scope_of c.args.scope.now) ∙ ap (λ (ys : List Initialiser). list_of (one_of c.args.left) (part_of c.args.part.now) (map init_of ys) (sink_of c.args.sink.now, scope_of c.args.scope.now)) (sym c.deref.ensures.value) in
    let fault = subst (Fails c.in_err-count-in-List.field-0.0) (sym same) c.in_err-count-in-List.ensures in
    first_of (search (rules, fault), grind (arith, common_steps, fault))
