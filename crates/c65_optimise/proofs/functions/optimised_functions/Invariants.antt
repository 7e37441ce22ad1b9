use Rattle.std.proofs.Common.{drop, length}
use Rattle.c65_optimise.proofs.FunctionLaws.{AreDone}
use Rattle.c65_optimise.proofs.functions.optimised_functions.Given as goal

abbrev pub invariant-loop-sym : goal.invariant-loop-sym
invariant-loop-sym l = record {
  can_next : (goal.iterator-loop-sym).can_next l.sym-iterator;
  is_finite : (goal.iterator-loop-sym).is_finite l.sym-iterator;
  done : AreDone l.fn.options l.fn.literals.items l.fn.functions.items (drop (length l.yielded) l.fn.functions.items) l.new.items;
}
