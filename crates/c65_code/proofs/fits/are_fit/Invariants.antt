use Rattle.std.proofs.Common.{◌≡◌, drop}
use Rattle.std.specs.List.{list_all}
use Rattle.c65_code.specs.Segments.{is_fit}
use Rattle.c65_code.proofs.fits.are_fit.Given as goal

abbrev pub invariant-loop-line : goal.invariant-loop-line
invariant-loop-line l = list_all is_fit (drop l.line-index l.lines) ≡ list_all is_fit l.lines
