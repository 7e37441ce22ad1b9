use Rattle.std.proofs.Common.{ap, sym, ◌∙◌, List, Some, subst}
use Rattle.std.specs.Prelude.{Option}
use Rattle.std.specs.Global.{Vec}
use Rattle.c65_base.specs.Answers.{Gives}
use Rattle.c65_ctype.specs.declared.types.QType.{QType}
use Rattle.c65_ctype.specs.declared.types.FnType.{out-FnType}
use Rattle.c65_ctype.specs.Views.{params_in, qtys_of, types_of}
use Rattle.c65_csem.specs.Views.{nodes_of}
use Rattle.c65_elab_convert.specs.Calls.{arguments_by, known_for}
use Rattle.c65_elab_convert.proofs.ArgumentLaws.{arguments_view}
use Rattle.c65_elab_convert.proofs.calls.arguments_for.Goals as goal

pub returns-in-Some : goal.returns-in-Some
returns-in-Some c =
    let types = types_of c.args.types.now in
    let es = nodes_of c.args.arguments.items in
    let variadic = (out-FnType c.args.function.now).variadic in
    let same =
    ap (λ (xs : List QType). known_for types c.args.pos c.args.firsts.now variadic (qtys_of xs) es) c.deref.ensures.value
    ∙ ap (λ (o : Option (Vec QType)). arguments_by types c.args.pos c.args.firsts.now (params_in o) variadic es) (sym c.in-Some.is)
    ∙ sym (arguments_view types c.args.pos c.args.firsts.now c.args.function.now es) in
    subst (Gives (λ v. nodes_of v.items) c.known.result) same c.known.ensures
