use Rattle.std.proofs.Common.{rules}
use Rattle.std.proofs.lemmas.Grind.{common_steps}
use Rattle.std.proofs.Common.{arith}
use Rattle.c65_ctype.specs.Views.{qty_of}
use Rattle.c65_elab_scope.specs.Scopes.{scope_of}
use Rattle.c65_init.specs.Declarations.{locals_of}
use Rattle.c65_init.proofs.Lists.{begun_walk, begun_step, begun_steps}
use Rattle.c65_init.proofs.Walking.{kept, stopped, ended}
use Rattle.c65_init.proofs.declare.all_declared.Goals as goal

pub loop-item-preserved : goal.loop-item-preserved
loop-item-preserved c = kept (begun_walk c.args.storage (qty_of c.args.base.now)) (begun_step c.args.storage (qty_of c.args.base.now)) (begun_steps c.args.storage (qty_of c.args.base.now)) c.args.items.now c.loop-item.item-index c.item-item.result (locals_of c.loop-item.locals, scope_of c.loop-item.scope) (locals_of c.declared.new.locals, scope_of c.declared.new.scope) (begun_walk c.args.storage (qty_of c.args.base.now) c.args.items.now (locals_of c.args.locals.now, scope_of c.args.scope.now)) c.loop-item-test.true c.item-item.is c.in_ok-declared.ensures c.loop-item.invariant

pub returns-in_err-declared : goal.returns-in_err-declared
returns-in_err-declared c =
    let fault = stopped (begun_walk c.args.storage (qty_of c.args.base.now)) (begun_step c.args.storage (qty_of c.args.base.now)) (begun_steps c.args.storage (qty_of c.args.base.now)) c.in_err-declared.field-0.0 c.args.items.now c.loop-item.item-index c.item-item.result (locals_of c.loop-item.locals, scope_of c.loop-item.scope) (begun_walk c.args.storage (qty_of c.args.base.now) c.args.items.now (locals_of c.args.locals.now, scope_of c.args.scope.now)) c.loop-item-test.true c.item-item.is c.in_err-declared.ensures c.loop-item.invariant in
    first_of (search (rules, fault), grind (arith, common_steps, fault))

pub returns : goal.returns
returns c = ended (begun_walk c.args.storage (qty_of c.args.base.now)) (begun_step c.args.storage (qty_of c.args.base.now)) (begun_steps c.args.storage (qty_of c.args.base.now)) c.args.items.now c.loop-item.item-index (locals_of c.loop-item.locals, scope_of c.loop-item.scope) (begun_walk c.args.storage (qty_of c.args.base.now) c.args.items.now (locals_of c.args.locals.now, scope_of c.args.scope.now)) c.loop-item-test.false c.loop-item.invariant
