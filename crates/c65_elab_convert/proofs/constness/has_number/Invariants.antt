use Rattle.std.proofs.Common.{◌≡◌, drop}
use Rattle.c65_elab_convert.specs.Constness.{has_number}
use Rattle.c65_elab_convert.proofs.constness.has_number.Given as goal

abbrev pub invariant-loop-other : goal.invariant-loop-other
invariant-loop-other l = has_number (drop l.other-index l.tags) l.tag ≡ has_number l.tags l.tag
