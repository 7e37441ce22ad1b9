use Rattle.std.proofs.Common.{◌≡◌, drop}
use Rattle.c65_elab_declare.specs.Prototypes.{first_of}
use Rattle.c65_elab_declare.proofs.params.first_storage.Given as goal

abbrev pub invariant-loop-item : goal.invariant-loop-item
invariant-loop-item l = first_of (drop l.item-index l.items) ≡ first_of l.items
