use Rattle.std.proofs.Common.{◌≡◌, IsTrue, drop}
use Rattle.std.specs.List.{list_all}
use Rattle.c65_code.specs.Parts.{is_part, with_parts, no_parts}
use Rattle.c65_code.proofs.parts.RegSet.of.Given as goal

abbrev pub invariant-loop-part : goal.invariant-loop-part
invariant-loop-part l = (with_parts (drop l.part-index l.parts) l.set ≡ with_parts l.parts no_parts) × IsTrue (list_all is_part (drop l.part-index l.parts))
