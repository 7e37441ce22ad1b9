use Rattle.std.proofs.Common.{◌≡◌, List, ap, ◌∙◌, sym, subst}
use Rattle.std.specs.Prelude.{Some, OnOk}
use Rattle.c65_tree.specs.declared.expr.Param.{Param}
use Rattle.c65_tree.specs.declared.expr.Params.{Params}
use Rattle.c65_tree.specs.View.{params_of}
use Rattle.c65_parse_names.specs.Scopes.{Blocks}
use Rattle.c65_parse.specs.Reading.{blocks_of}
use Rattle.c65_decl.specs.Declaring.{with_params, each_param}
use Rattle.c65_decl.proofs.Declaring.{params_are}
use Rattle.c65_decl.proofs.function.declare_all.Goals as goal

pub returns-in-Types-clause-scope : goal.returns-in-Types-clause-scope
returns-in-Types-clause-scope c =
    let k = c.in-Types in
    let before = blocks_of c.args.parser.now in
    subst (λ (scope : Blocks). OnOk c.declare_param_list.result (blocks_of c.declare_param_list.new.parser ≡ scope))
    (ap (λ (ps : List Param). each_param ps before) c.deref.ensures.value ∙ sym (ap (λ (q : Params). with_params (Some (params_of q)) before) k.is ∙ params_are k.list k.field-1 before)) c.declare_param_list.ensures.scope
