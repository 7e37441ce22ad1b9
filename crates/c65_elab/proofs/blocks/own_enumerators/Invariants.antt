use Rattle.std.proofs.Common.{◌≡◌, ◌≤◌, ◌++◌, length, reverse, take}
use Rattle.c65_elab_scope.specs.Scopes.{scope_of}
use Rattle.c65_elab.specs.Headings.{enumerators_of}
use Rattle.c65_elab.proofs.blocks.own_enumerators.Given as goal

-- what is there and what is left give what the whole gives
pub record Rest (l : goal.Live-loop-left) : Type 0 where
  pub within : l.left ≤ length l.hidden
  pub so_far : l.list.items ++ enumerators_of (scope_of l.scope).names (scope_of l.scope).block (reverse (take l.left l.hidden)) ≡ enumerators_of (scope_of l.scope).names (scope_of l.scope).block (reverse l.hidden)

abbrev pub invariant-loop-left : goal.invariant-loop-left
invariant-loop-left l = Rest l

abbrev pub decreases-loop-left : goal.decreases-loop-left
decreases-loop-left l = l.left
