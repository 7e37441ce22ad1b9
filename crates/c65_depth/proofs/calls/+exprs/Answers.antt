use Rattle.std.proofs.Common.{◌≡◌, [], ◌∷◌, ◌++◌, ap, ◌∙◌, subst}
use Rattle.std.specs.Prelude.{OnOk}
use Rattle.c65_csem.specs.Views.{unit_of}
use Rattle.c65_depth.proofs.Trees.{call_added}
use Rattle.c65_depth.proofs.calls.+exprs.Goals as goal

pub add_calls_in-returns-in_ok-add_calls_in-in-Call : goal.add_calls_in-returns-in_ok-add_calls_in-in-Call
add_calls_in-returns-in_ok-add_calls_in-in-Call t c =
    let pushed = c.in_ok-push-in-Call.ensures.items ∙ ap (λ call. c.args.calls.now.items ++ call ∷ []) c.call_to.ensures in
    subst (λ cs. OnOk c.add_calls_in_all.result (c.add_calls_in_all.new.calls.items ≡ cs))
    (call_added (unit_of c.args.parts.now) c.args.calls.now.items c.push.new.self.items c.add_calls_in-in-Call.new.calls.items c.args.e.now.kind c.in-Call.function c.in-Call.arguments c.deref-callee.result.now c.deref-given.result.now pushed c.in_ok-add_calls_in-in-Call.ensures c.in-Call.is c.deref-callee.ensures c.deref-given.ensures.value)
    c.add_calls_in_all.ensures
