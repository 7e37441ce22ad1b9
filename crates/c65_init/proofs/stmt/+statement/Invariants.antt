use Rattle.std.proofs.Common.{◌≡◌, map, take, Ok}
use Rattle.c65_csem.specs.Views.{stmt_of}
use Rattle.c65_elab_scope.specs.Scopes.{scope_of}
use Rattle.c65_init.specs.Bodies.{body_of}
use Rattle.c65_init.proofs.Lists.{stmts_walk}
use Rattle.c65_init.proofs.stmt.+statement.Given as goal

abbrev pub invariant-block-loop-stmt : goal.invariant-block-loop-stmt
invariant-block-loop-stmt l = record {
  walk : stmts_walk (map stmt_of l.initial.locals.stmts.items) (body_of l.initial.body) (scope_of l.initial.scope) (take l.stmt-index l.stmts) ≡ Ok ((map stmt_of l.locals.stmts.items, body_of l.body), scope_of l.scope);
  same : l.locals.objects.items ≡ l.initial.locals.objects.items;
}
