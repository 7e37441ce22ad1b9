use Rattle.std.proofs.Common.{◌≡◌, drop}
use Rattle.c65_link.specs.Bytes.{with_routines}
use Rattle.c65_link.proofs.bytes.Written.put_routines.Given as goal

abbrev pub invariant-loop-part : goal.invariant-loop-part
invariant-loop-part l = with_routines l.tables l.self (drop l.part-index l.parts) ≡ with_routines l.tables l.initial.self l.parts
