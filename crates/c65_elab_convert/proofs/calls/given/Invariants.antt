use Rattle.std.proofs.Common.{◌≡◌, ◌≤◌, drop, length}
use Rattle.c65_ctype.specs.Views.{qtys_of, types_of}
use Rattle.c65_csem.specs.Views.{nodes_of}
use Rattle.c65_elab_convert.specs.Calls.{given}
use Rattle.c65_elab_convert.proofs.ArgumentLaws.{behind}
use Rattle.c65_elab_convert.proofs.calls.given.Given as goal

abbrev pub invariant-loop-e : goal.invariant-loop-e
invariant-loop-e l = record {
  can_next : (goal.iterator-loop-e).can_next l.e-iterator;
  is_finite : (goal.iterator-loop-e).is_finite l.e-iterator;
  small : l.total ≤ 250;
  count : length l.given.items ≡ length l.yielded;
  so_far : behind l.given.items (given (types_of l.types) l.pos (drop (length l.yielded) l.firsts) l.total (qtys_of (drop (length l.yielded) l.parameters)) (nodes_of (drop (length l.yielded) l.fn.arguments.items))) ≡ given (types_of l.types) l.pos l.firsts 0 (qtys_of l.parameters) (nodes_of l.fn.arguments.items);
}
