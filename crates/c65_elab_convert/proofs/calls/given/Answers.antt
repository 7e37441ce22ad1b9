use Rattle.std.proofs.Common.{◌≡◌, ◌<◌, ℕ, suc, ◌+◌, List, [], ◌∷◌, ◌++◌, length, drop, get_or, refl, sym, ap, ◌∙◌, subst, arith, rules, length-append, Ok, Option}
use Rattle.std.specs.Prelude.{option_map, slice_get}
use Rattle.std.proofs.lemmas.Iterator.Adapters.{YieldsList-from_vec}
use Rattle.std.proofs.lemmas.Iterator.Consumers.{YieldsList-turn, YieldsList-end}
use Rattle.c65_base.specs.declared.refusal.Pos.{Pos}
use Rattle.c65_base.specs.Answers.{Fails}
use Rattle.c65_ctype.specs.declared.types.QType.{QType}
use Rattle.c65_ctype.specs.Views.{qty_of, qtys_of, types_of}
use Rattle.c65_csem.specs.Views.{typed_of, nodes_of}
use Rattle.c65_elab_convert.specs.Calls.{argument, counted, first_place, given}
use Rattle.c65_elab_convert.proofs.ArgumentLaws.{behind, behind_end, fails_as, given_next, given_fault, given_large, given_done}
use Rattle.c65_elab_convert.proofs.calls.given.Goals as goal

pub returns-in_err-e : goal.returns-in_err-e
returns-in_err-e c =
    let types = types_of c.args.types.now in
    let h = c.into_iter-e-iterator.ensures.into_iter_gives in
    let turn = YieldsList-turn (YieldsList-from_vec c.args.arguments.items h.0 (h.1 ∙ c.args.arguments.ok.0)) c.loop-e.yielded c.loop-e.e-iterator c.loop-e.yielded_by c.next.result c.next.new.self c.in-Some.e c.in-Some.is c.next.ensures.steps in
    let i = length c.loop-e.yielded in
    let at = c.len-i.ensures ∙ c.loop-e.given.ok.0 ∙ c.loop-e.invariant.count in
    let here = subst (λ (k : ℕ). Fails c.in_err-e.field-0.0 (argument types c.args.pos (first_place c.args.pos (drop k c.args.firsts.now)) (option_map qty_of (slice_get c.args.parameters.now k)) (typed_of c.in-Some.e))) at (rw c.first_place-first.ensures at c.in_err-e.ensures) in
    let whole = given types c.args.pos c.args.firsts.now 0 (qtys_of c.args.parameters.now) (nodes_of c.args.arguments.items) in
    let fault = fails_as c.in_err-e.field-0.0 (argument types c.args.pos (first_place c.args.pos (drop i c.args.firsts.now)) (option_map qty_of (slice_get c.args.parameters.now i)) (typed_of c.in-Some.e)) whole (λ f made. given_fault types c.args.pos c.args.firsts.now c.loop-e.total c.args.parameters.now c.args.arguments.items c.loop-e.given.items i c.in-Some.e whole f turn.0 turn.1 made c.loop-e.invariant.so_far) here in
    search (rules, fault)

pub returns-in_err-total : goal.returns-in_err-total
returns-in_err-total c =
    let types = types_of c.args.types.now in
    let h = c.into_iter-e-iterator.ensures.into_iter_gives in
    let turn = YieldsList-turn (YieldsList-from_vec c.args.arguments.items h.0 (h.1 ∙ c.args.arguments.ok.0)) c.loop-e.yielded c.loop-e.e-iterator c.loop-e.yielded_by c.next.result c.next.new.self c.in-Some.e c.in-Some.is c.next.ensures.steps in
    let i = length c.loop-e.yielded in
    let at = c.len-i.ensures ∙ c.loop-e.given.ok.0 ∙ c.loop-e.invariant.count in
    let made = subst (λ (k : ℕ). argument types c.args.pos (first_place c.args.pos (drop k c.args.firsts.now)) (option_map qty_of (slice_get c.args.parameters.now k)) (typed_of c.in-Some.e) ≡ Ok (typed_of c.in_ok-e.e)) at (rw c.first_place-first.ensures at c.in_ok-e.ensures) in
    let whole = given types c.args.pos c.args.firsts.now 0 (qtys_of c.args.parameters.now) (nodes_of c.args.arguments.items) in
    let fault = fails_as c.in_err-total.field-0.0 (counted types c.args.pos c.loop-e.total (typed_of c.in_ok-e.e)) whole (λ f room. given_large types c.args.pos c.args.firsts.now c.loop-e.total c.args.parameters.now c.args.arguments.items c.loop-e.given.items i c.in-Some.e c.in_ok-e.e whole f turn.0 turn.1 made room c.loop-e.invariant.so_far) c.in_err-total.ensures.exact in
    search (rules, fault)

pub loop-e-preserved : goal.loop-e-preserved
loop-e-preserved c =
    let types = types_of c.args.types.now in
    let h = c.into_iter-e-iterator.ensures.into_iter_gives in
    let turn = YieldsList-turn (YieldsList-from_vec c.args.arguments.items h.0 (h.1 ∙ c.args.arguments.ok.0)) c.loop-e.yielded c.loop-e.e-iterator c.loop-e.yielded_by c.next.result c.next.new.self c.in-Some.e c.in-Some.is c.next.ensures.steps in
    let i = length c.loop-e.yielded in
    let at = c.len-i.ensures ∙ c.loop-e.given.ok.0 ∙ c.loop-e.invariant.count in
    let made = subst (λ (k : ℕ). argument types c.args.pos (first_place c.args.pos (drop k c.args.firsts.now)) (option_map qty_of (slice_get c.args.parameters.now k)) (typed_of c.in-Some.e) ≡ Ok (typed_of c.in_ok-e.e)) at (rw c.first_place-first.ensures at c.in_ok-e.ensures) in
    let whole = given types c.args.pos c.args.firsts.now 0 (qtys_of c.args.parameters.now) (nodes_of c.args.arguments.items) in
    let next = given_next types c.args.pos c.args.firsts.now c.loop-e.total c.in_ok-total.total c.args.parameters.now c.args.arguments.items c.loop-e.given.items i c.in-Some.e c.in_ok-e.e whole turn.0 turn.1 made c.in_ok-total.ensures.exact c.loop-e.invariant.so_far in
    let longer : length (c.loop-e.yielded ++ c.in-Some.e ∷ []) ≡ suc (length c.loop-e.yielded) = omega (arith, length-append c.loop-e.yielded (c.in-Some.e ∷ [])) in
    record {
      can_next = tt;
      is_finite = tt;
      small = c.in_ok-total.ensures.small;
      count = ap length c.in_ok-push.ensures.items ∙ omega (arith, length-append c.loop-e.given.items (c.in_ok-e.e ∷ []), length-append c.loop-e.yielded (c.in-Some.e ∷ []), c.loop-e.invariant.count);
      so_far = rw (c.in_ok-push.ensures.items, longer) next;
    }

pub returns : goal.returns
returns c =
    let types = types_of c.args.types.now in
    let h = c.into_iter-e-iterator.ensures.into_iter_gives in
    let all = (YieldsList-end (YieldsList-from_vec c.args.arguments.items h.0 (h.1 ∙ c.args.arguments.ok.0)) c.loop-e.yielded c.loop-e.e-iterator c.loop-e.yielded_by c.next.result c.next.new.self c.in-None.is c.next.ensures.steps).1 in
    sym c.loop-e.invariant.so_far ∙ given_done types c.args.pos c.args.firsts.now c.loop-e.total c.args.parameters.now c.args.arguments.items c.loop-e.given.items (length c.loop-e.yielded) all
