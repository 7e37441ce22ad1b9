use Rattle.std.proofs.Common.{◌≡◌, ◌+◌, ◌≤◌, drop}
use Rattle.std.specs.Prelude.{min}
use Rattle.c65_genframe.specs.Frames.{all_bytes}
use Rattle.c65_genframe.proofs.check.all_bytes.Given as goal

abbrev pub invariant-loop-object : goal.invariant-loop-object
invariant-loop-object l =
    (min (l.bytes + all_bytes l.parts (drop l.object-index l.objects)) 4294967295 ≡ min (all_bytes l.parts l.objects) 4294967295)
    × (l.bytes ≤ 4294967295)
