use Rattle.std.proofs.Common.{rules}
use Rattle.std.proofs.lemmas.Grind.{common_steps}
use Rattle.std.proofs.Common.{arith}
use Rattle.c65_ctype.specs.Views.{qty_of}
use Rattle.std.proofs.Common.{map}
use Rattle.c65_elab_scope.specs.Scopes.{scope_of}
use Rattle.c65_init.specs.Parameters.{old_of}
use Rattle.c65_init.proofs.Lists.{olds_walk, olds_step, olds_steps}
use Rattle.c65_init.proofs.Walking.{kept, stopped, ended}
use Rattle.c65_init.proofs.old_style.old_declarators.Goals as goal

pub loop-item-preserved : goal.loop-item-preserved
loop-item-preserved c = kept (olds_walk c.args.is_register (qty_of c.args.base.now)) (olds_step c.args.is_register (qty_of c.args.base.now)) (olds_steps c.args.is_register (qty_of c.args.base.now)) c.args.items.now c.loop-item.item-index c.item-item.result (map old_of c.loop-item.list.items, scope_of c.loop-item.scope) (map old_of c.old_one.new.list.items, scope_of c.old_one.new.scope) (olds_walk c.args.is_register (qty_of c.args.base.now) c.args.items.now (map old_of c.args.list.now.items, scope_of c.args.scope.now)) c.loop-item-test.true c.item-item.is c.in_ok-old_one.ensures c.loop-item.invariant

pub returns-in_err-old_one : goal.returns-in_err-old_one
returns-in_err-old_one c =
    let fault = stopped (olds_walk c.args.is_register (qty_of c.args.base.now)) (olds_step c.args.is_register (qty_of c.args.base.now)) (olds_steps c.args.is_register (qty_of c.args.base.now)) c.in_err-old_one.field-0.0 c.args.items.now c.loop-item.item-index c.item-item.result (map old_of c.loop-item.list.items, scope_of c.loop-item.scope) (olds_walk c.args.is_register (qty_of c.args.base.now) c.args.items.now (map old_of c.args.list.now.items, scope_of c.args.scope.now)) c.loop-item-test.true c.item-item.is c.in_err-old_one.ensures c.loop-item.invariant in
    first_of (search (rules, fault), grind (arith, common_steps, fault))

pub returns : goal.returns
returns c = ended (olds_walk c.args.is_register (qty_of c.args.base.now)) (olds_step c.args.is_register (qty_of c.args.base.now)) (olds_steps c.args.is_register (qty_of c.args.base.now)) c.args.items.now c.loop-item.item-index (map old_of c.loop-item.list.items, scope_of c.loop-item.scope) (olds_walk c.args.is_register (qty_of c.args.base.now) c.args.items.now (map old_of c.args.list.now.items, scope_of c.args.scope.now)) c.loop-item-test.false c.loop-item.invariant
