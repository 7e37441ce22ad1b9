use Rattle.std.proofs.Common.{subst, rules, arith}
use Rattle.std.proofs.lemmas.Grind.{common_steps}
use Rattle.c65_base.specs.Answers.{Fails}
use Rattle.c65_ctype.specs.Views.{qty_of}
use Rattle.c65_elab_scope.specs.Scopes.{scope_of}
use Rattle.c65_tree.specs.View.{init_of}
use Rattle.c65_init_cells.specs.Sinks.{SinkTy}
use Rattle.c65_init.specs.Declarations.{locals_of}
use Rattle.c65_init.specs.Initials.{initial_of}
use Rattle.c65_init.proofs.Begun.{begun_refused}
use Rattle.c65_init.proofs.declare.begun_as.Goals as goal

pub returns-in_err-count : goal.returns-in_err-count
returns-in_err-count c =
    let fault = begun_refused c.in_err-count.field-0.0 (locals_of c.args.locals.now) c.args.number (init_of c.args.init.now) c.args.pos c.args.class (qty_of c.args.ty.now) (scope_of c.args.scope.now) (subst (λ (k : SinkTy). Fails c.in_err-count.field-0.0 (initial_of (qty_of c.args.ty.now) (init_of c.args.init.now) (k, scope_of c.args.scope.now))) c.no_values-sink.ensures c.in_err-count.ensures) in
    first_of (search (rules, fault), grind (arith, common_steps, fault))
