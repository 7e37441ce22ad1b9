use Rattle.std.proofs.Common.{◌∙◌, drop, length, arith}
use Rattle.std.proofs.lemmas.Iterator.Adapters.{YieldsList-from_vec}
use Rattle.std.proofs.lemmas.Iterator.Consumers.{YieldsList-end}
use Rattle.c65_optimise.proofs.FunctionLaws.{none_left, drop_end}
use Rattle.c65_optimise.proofs.functions.optimised_functions.Goals as goal

pub returns-clause-rewritten : goal.returns-clause-rewritten
returns-clause-rewritten c =
    let h = c.into_iter-sym-iterator.ensures.into_iter_gives in
    let all = (YieldsList-end (YieldsList-from_vec c.args.functions.items h.0 (h.1 ∙ c.args.functions.ok.0)) c.loop-sym.yielded c.loop-sym.sym-iterator c.loop-sym.yielded_by c.next.result c.next.new.self c.in-None.is c.next.ensures.steps).1 in
    none_left c.args.options.now c.args.literals.now.items c.args.functions.items (drop (length c.loop-sym.yielded) c.args.functions.items) c.loop-sym.new.items (drop_end c.args.functions.items (length c.loop-sym.yielded) (omega (arith, all))) c.loop-sym.invariant.done
