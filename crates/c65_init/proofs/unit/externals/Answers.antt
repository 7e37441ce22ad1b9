use Rattle.std.proofs.Common.{rules}
use Rattle.std.proofs.lemmas.Grind.{common_steps}
use Rattle.std.proofs.Common.{arith}
use Rattle.c65_elab_scope.specs.Scopes.{scope_of}
use Rattle.c65_init.specs.Declarations.{locals_of}
use Rattle.c65_init.proofs.Lists.{items_walk, items_step, items_steps}
use Rattle.c65_init.proofs.Walking.{kept, stopped, ended}
use Rattle.c65_init.proofs.unit.externals.Goals as goal

pub loop-item-preserved : goal.loop-item-preserved
loop-item-preserved c = kept items_walk items_step items_steps c.args.items.now c.loop-item.item-index c.item-item.result (locals_of c.loop-item.locals, scope_of c.loop-item.scope) (locals_of c.external.new.locals, scope_of c.external.new.scope) (items_walk c.args.items.now (locals_of c.args.locals.now, scope_of c.args.scope.now)) c.loop-item-test.true c.item-item.is c.in_ok-external.ensures c.loop-item.invariant

pub returns-in_err-external : goal.returns-in_err-external
returns-in_err-external c =
    let fault = stopped items_walk items_step items_steps c.in_err-external.field-0.0 c.args.items.now c.loop-item.item-index c.item-item.result (locals_of c.loop-item.locals, scope_of c.loop-item.scope) (items_walk c.args.items.now (locals_of c.args.locals.now, scope_of c.args.scope.now)) c.loop-item-test.true c.item-item.is c.in_err-external.ensures c.loop-item.invariant in
    first_of (search (rules, fault), grind (arith, common_steps, fault))

pub returns : goal.returns
returns c = ended items_walk items_step items_steps c.args.items.now c.loop-item.item-index (locals_of c.loop-item.locals, scope_of c.loop-item.scope) (items_walk c.args.items.now (locals_of c.args.locals.now, scope_of c.args.scope.now)) c.loop-item-test.false c.loop-item.invariant
