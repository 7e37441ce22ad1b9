use Rattle.std.proofs.Common.{◌≡◌, drop}
use Rattle.c65_elab_declare.specs.Tagging.{any_signed}
use Rattle.c65_elab_declare.proofs.tags.any_signed.Given as goal

abbrev pub invariant-loop-item : goal.invariant-loop-item
invariant-loop-item l = any_signed (drop l.item-index l.items) ≡ any_signed l.items
