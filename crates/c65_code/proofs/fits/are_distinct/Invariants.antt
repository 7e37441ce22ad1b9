use Rattle.std.proofs.Common.{◌≡◌, drop}
use Rattle.c65_code.specs.Segments.{is_distinct, labels_of}
use Rattle.c65_code.proofs.fits.are_distinct.Given as goal

abbrev pub invariant-loop-at : goal.invariant-loop-at
invariant-loop-at l = is_distinct (labels_of (drop l.at l.lines)) ≡ is_distinct (labels_of l.lines)
