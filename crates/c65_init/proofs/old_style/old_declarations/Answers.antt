use Rattle.std.proofs.Common.{rules}
use Rattle.std.proofs.lemmas.Grind.{common_steps}
use Rattle.std.proofs.Common.{arith}
use Rattle.std.proofs.Common.{map}
use Rattle.c65_elab_scope.specs.Scopes.{scope_of}
use Rattle.c65_init.specs.Parameters.{old_of}
use Rattle.c65_init.proofs.Lists.{old_decls_walk, old_decls_step, old_decls_steps}
use Rattle.c65_init.proofs.Walking.{kept, stopped, ended}
use Rattle.c65_init.proofs.old_style.old_declarations.Goals as goal

pub loop-item-preserved : goal.loop-item-preserved
loop-item-preserved c = kept old_decls_walk old_decls_step old_decls_steps c.args.items.now c.loop-item.item-index c.item-item.result (map old_of c.loop-item.list.items, scope_of c.loop-item.scope) (map old_of c.old_declaration.new.list.items, scope_of c.old_declaration.new.scope) (old_decls_walk c.args.items.now (map old_of c.args.list.now.items, scope_of c.args.scope.now)) c.loop-item-test.true c.item-item.is c.in_ok-old_declaration.ensures c.loop-item.invariant

pub returns-in_err-old_declaration : goal.returns-in_err-old_declaration
returns-in_err-old_declaration c =
    let fault = stopped old_decls_walk old_decls_step old_decls_steps c.in_err-old_declaration.field-0.0 c.args.items.now c.loop-item.item-index c.item-item.result (map old_of c.loop-item.list.items, scope_of c.loop-item.scope) (old_decls_walk c.args.items.now (map old_of c.args.list.now.items, scope_of c.args.scope.now)) c.loop-item-test.true c.item-item.is c.in_err-old_declaration.ensures c.loop-item.invariant in
    first_of (search (rules, fault), grind (arith, common_steps, fault))

pub returns : goal.returns
returns c = ended old_decls_walk old_decls_step old_decls_steps c.args.items.now c.loop-item.item-index (map old_of c.loop-item.list.items, scope_of c.loop-item.scope) (old_decls_walk c.args.items.now (map old_of c.args.list.now.items, scope_of c.args.scope.now)) c.loop-item-test.false c.loop-item.invariant
