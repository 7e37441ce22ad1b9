use Rattle.std.proofs.Common.{◌∙◌, ap, sym, drop, Bool}
use Rattle.c65_ctype.specs.Views.{qtys_of, types_of}
use Rattle.c65_csem.specs.Views.{nodes_of}
use Rattle.c65_csem_check.specs.Expressions
use Rattle.c65_csem_check.proofs.CodeLaws.{given_end}
use Rattle.c65_csem_check.proofs.calls.are_given.Goals as goal

pub returns-else-variadic : goal.returns-else-variadic
returns-else-variadic c =
    let types = types_of c.args.types.now in
    let xs = c.args.parameters.now in
    let ys = c.args.arguments.now in
    given_end types xs ys c.loop-i.i c.loop-i-test.false c.loop-i.auto.i-end c.loop-i.invariant.within
    ∙ ap (λ (t : Bool). Expressions.are_given types (qtys_of (drop c.loop-i.i xs)) t (nodes_of (drop c.loop-i.i ys))) (sym c.if-variadic.false)
    ∙ c.loop-i.invariant.so_far
