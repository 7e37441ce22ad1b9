use Rattle.std.proofs.Common.{◌≡◌, drop}
use Rattle.c65_csem_check.specs.Statements.{has_value}
use Rattle.c65_init.proofs.body.has_value.Given as goal

abbrev pub invariant-loop-other : goal.invariant-loop-other
invariant-loop-other l = has_value (drop l.other-index l.values) l.value ≡ has_value l.values l.value
