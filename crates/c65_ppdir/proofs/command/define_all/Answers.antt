use Rattle.std.proofs.Common.{◌≡◌, ◌∷◌, Err, rules}
use Rattle.c65_ppdir.specs.CommandLine.{all_defined}
use Rattle.c65_ppdir.proofs.Commands.{all_stops, all_goes}
use Rattle.c65_ppline.proofs.Relations.{onward_err}
use Rattle.c65_ppdir.proofs.command.define_all.Goals as goal

pub returns-in-Err-clause-exact : goal.returns-in-Err-clause-exact
returns-in-Err-clause-exact c =
    let here : c.loop-item.rest.now ≡ c.in-Some.item.now ∷ c.in-Some.more.now = search rules in
    onward_err c.numbered.result (all_defined c.loop-item.number c.loop-item.rest.now c.loop-item.macros c.loop-item.names) (all_defined 0 c.args.defines.now c.args.macros.now c.args.names.now) (c.loop-item.invariant (Err c.numbered.result)) (all_stops c.loop-item.number c.saturating_add-number.result c.in-Some.item.now c.in-Some.more.now c.loop-item.rest.now c.loop-item.macros c.loop-item.names c.in-Err.refusal c.numbered.result here c.saturating_add-number.ensures c.numbered.ensures.exact c.in-Err.ensures.exact)

pub loop-item-preserved : goal.loop-item-preserved
loop-item-preserved c =
    let here : c.loop-item.rest.now ≡ c.in-Some.item.now ∷ c.in-Some.more.now = search rules in
    λ z h. c.loop-item.invariant z (all_goes c.loop-item.number c.saturating_add-number.result c.in-Some.item.now c.in-Some.more.now c.loop-item.rest.now c.loop-item.macros c.define_one.new.macros c.loop-item.names c.define_one.new.names z here c.saturating_add-number.ensures c.in-Ok.ensures.exact h)
