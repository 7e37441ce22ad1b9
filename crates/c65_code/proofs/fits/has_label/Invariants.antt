use Rattle.std.proofs.Common.{◌≡◌, drop}
use Rattle.c65_code.specs.Segments.{is_among, labels_of}
use Rattle.c65_code.proofs.fits.has_label.Given as goal

abbrev pub invariant-loop-line : goal.invariant-loop-line
invariant-loop-line l = is_among (labels_of (drop l.line-index l.lines)) l.label ≡ is_among (labels_of l.lines) l.label
