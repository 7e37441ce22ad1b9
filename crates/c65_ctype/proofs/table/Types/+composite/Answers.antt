use Rattle.std.proofs.Common.{◌≡◌, sym, ap, ◌∙◌, Some, None, false, drop}
use Rattle.std.specs.Prelude.{Option, option_copied, slice_get}
use Rattle.std.proofs.lemmas.Option.{slice_get_within, get_or_from_slice_get}
use Rattle.std.specs.Global.{Vec}
use Rattle.c65_ctype.specs.declared.types.QType.{QType}
use Rattle.c65_ctype.specs.declared.types.FnType.{out-FnType}
use Rattle.c65_ctype.specs.Composite.{composite_params}
use Rattle.c65_ctype.specs.Views.{params_in, qtys_of, types_of}
use Rattle.c65_ctype.specs.Trees.{Ty, qual}
use Rattle.c65_ctype.proofs.CompositeLaws.{both_next, both_past, both_end, composite_by, params_joined}
use Rattle.c65_ctype.proofs.table.Types.+composite.Goals as goal

pub composite_fn-loop-i-preserved : goal.composite_fn-loop-i-preserved
composite_fn-loop-i-preserved t c =
    let types = types_of c.args.self.now in
    let xs = c.deref-q-items.result.now in
    let ys = c.as_slice-others.result.now in
    let i = c.loop-i.i in
    let r = c.in-Some.r.now in
    let here : slice_get ys i ≡ Some r = sym c.type_at.ensures ∙ ap option_copied c.in-Some.is in
    let made = c.plain.ensures ∙ ap (λ (ty : Ty). qual ty false false) c.in_ok-ty-in-Some-Some.ensures in
    rw c.in_ok-push-in-Some-Some.ensures.items (both_next types c.loop-i.params.items xs ys i c.q-item.result r c.plain.result c.loop-i-test.true c.q-item.is (slice_get_within ys i r here) (sym (get_or_from_slice_get ys i r r here)) made ∙ c.loop-i.invariant)

pub composite_fn-returns-in_default : goal.composite_fn-returns-in_default
composite_fn-returns-in_default t c =
    let types = types_of c.args.self.now in
    let xs = c.deref-q-items.result.now in
    let ys = c.as_slice-others.result.now in
    let i = c.loop-i.i in
    let ps = c.loop-i.params in
    let none : slice_get ys i ≡ None = sym c.type_at.ensures ∙ ap option_copied c.in_default.is in
    let joins = sym (both_past types ps.items xs ys i none) ∙ c.loop-i.invariant in
    composite_by types c.args.f.now c.args.g.now _ c.in_ok-given.given (params_in (Some ps)) c.new-in_default.ensures c.in_ok-given.ensures
    (params_joined types c.args.f.now c.args.g.now c.in-Some-Some.a c.in-Some-Some.b xs ys (qtys_of ps.items) joins c.deref-q-items.ensures.value c.as_slice-others.ensures.value c.in-Some-Some.is-0 c.in-Some-Some.is-1)

pub composite_fn-returns-in_ok-params-in-None-default :
    goal.composite_fn-returns-in_ok-params-in-None-default
composite_fn-returns-in_ok-params-in-None-default t c =
    let types = types_of c.args.self.now in
    let others = params_in (out-FnType c.args.g.now).params in
    composite_by types c.args.f.now c.args.g.now _ c.in_ok-given.given (params_in c.in_ok-params-in-None-default.params) c.new.ensures c.in_ok-given.ensures
    (c.in_ok-params-in-None-default.ensures ∙ ap (λ (o : Option (Vec QType)). composite_params types (params_in o) others) (sym c.in-None-default.is-0))

pub composite_fn-returns-in_ok-params-in-Some-None :
    goal.composite_fn-returns-in_ok-params-in-Some-None
composite_fn-returns-in_ok-params-in-Some-None t c =
    let types = types_of c.args.self.now in
    let others = params_in (out-FnType c.args.g.now).params in
    composite_by types c.args.f.now c.args.g.now _ c.in_ok-given.given (params_in c.in_ok-params-in-Some-None.params) c.new-in-Some-None.ensures c.in_ok-given.ensures
    (c.in_ok-params-in-Some-None.ensures
    ∙ ap params_in c.in-Some-None.is-0
    ∙ ap (λ (o : Option (Vec QType)). composite_params types (params_in (Some c.in-Some-None.field-0-0)) (params_in o)) (sym c.in-Some-None.is-1)
    ∙ ap (λ (o : Option (Vec QType)). composite_params types (params_in o) others) (sym c.in-Some-None.is-0))

pub composite_fn-returns-after-loop-i : goal.composite_fn-returns-after-loop-i
composite_fn-returns-after-loop-i t c =
    let types = types_of c.args.self.now in
    let xs = c.deref-q-items.result.now in
    let ys = c.as_slice-others.result.now in
    let i = c.loop-i.i in
    let ps = c.loop-i.params in
    let joins = sym (both_end types ps.items xs (qtys_of (drop i ys)) i c.loop-i-test.false) ∙ c.loop-i.invariant in
    composite_by types c.args.f.now c.args.g.now _ c.in_ok-given.given (params_in (Some ps)) c.new-in-Some-Some.ensures c.in_ok-given.ensures
    (params_joined types c.args.f.now c.args.g.now c.in-Some-Some.a c.in-Some-Some.b xs ys (qtys_of ps.items) joins c.deref-q-items.ensures.value c.as_slice-others.ensures.value c.in-Some-Some.is-0 c.in-Some-Some.is-1)
