use Rattle.c65_elab_scope.specs.Scopes.{scope_of}
use Rattle.c65_init.proofs.Lists.{enumerators_walk, enumerators_step, enumerators_steps}
use Rattle.c65_init.proofs.Walking.{ended}
use Rattle.c65_init.proofs.function.declare_enumerators.Goals as goal

pub returns : goal.returns
returns c = ended (enumerators_walk c.args.pos) (enumerators_step c.args.pos) (enumerators_steps c.args.pos) c.args.list.now c.loop-enumerator.enumerator-index (scope_of c.loop-enumerator.scope) (enumerators_walk c.args.pos c.args.list.now (scope_of c.args.scope.now)) c.loop-enumerator-test.false c.loop-enumerator.invariant
