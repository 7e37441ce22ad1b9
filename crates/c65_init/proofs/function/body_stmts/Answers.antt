use Rattle.std.proofs.Common.{◌∙◌, ap, rules, arith}
use Rattle.std.proofs.lemmas.Grind.{common_steps}
use Rattle.c65_elab_scope.specs.Scopes.{scope_of}
use Rattle.c65_tree.specs.declared.stmt.StmtKind.{StmtKind}
use Rattle.c65_tree.specs.View.{stmt_at}
use Rattle.c65_init.specs.Bodies.{body_of}
use Rattle.c65_init.specs.Functions.{body_in}
use Rattle.c65_init.proofs.Blocks.{body_is}
use Rattle.c65_init.proofs.function.body_stmts.Goals as goal

pub returns-in-Block : goal.returns-in-Block
returns-in-Block c =
    let all = ap (λ (y : StmtKind). body_in (stmt_at c.args.stmt.now.pos y) (body_of c.args.body.now) (scope_of c.args.scope.now)) c.in-Block.is ∙ body_is c.args.stmt.now.pos c.in-Block.decls c.in-Block.stmts (body_of c.args.body.now) (scope_of c.args.scope.now) in
    rw all (first_of (search rules, search (rules, c.block.ensures), grind (arith, common_steps)))
