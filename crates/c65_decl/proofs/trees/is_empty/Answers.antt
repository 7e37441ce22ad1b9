use Rattle.std.proofs.Common.{◌∙◌, arith}
use Rattle.std.specs.Prelude.{vec_len}
use Rattle.c65_tree.specs.declared.expr.Specifiers.{out-Specifiers}
use Rattle.c65_decl.proofs.Specifying.{none_are}
use Rattle.c65_decl.proofs.trees.is_empty.Goals as goal

pub returns : goal.returns
returns c =
    let v = (out-Specifiers c.args.specifiers.now).items in
    c.is_empty.ensures ∙ none_are c.args.specifiers.now (vec_len v) (omega (arith, v.ok))
