use Rattle.std.proofs.Common.{◌≡◌, ◌≤◌, drop, length, map, nat_le}
use Rattle.c65_csem.specs.Views.{typed_of, nodes_of, object_of, func_of, unit_of}
use Rattle.c65_ctype.specs.Views.{qtys_of, fn_of, types_of}
use Rattle.c65_csem_check.specs.Expressions as b
use Rattle.c65_csem_check.proofs.calls.are_given.Given as goal

abbrev pub invariant-loop-i : goal.invariant-loop-i
invariant-loop-i l = record {
  within : l.i ≤ length l.arguments;
  so_far : b.are_given (types_of l.types) (qtys_of (drop l.i l.parameters)) l.variadic (nodes_of (drop l.i l.arguments)) ≡ b.are_given (types_of l.types) (qtys_of l.parameters) l.variadic (nodes_of l.arguments);
}
