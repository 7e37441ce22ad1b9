use Rattle.std.proofs.Common.{◌≡◌, drop}
use Rattle.std.specs.List.{list_all}
use Rattle.c65_code.specs.Segments.{is_among, targets_of}
use Rattle.c65_asm.proofs.reader.have_labels.Given as goal

abbrev pub invariant-loop-line : goal.invariant-loop-line
invariant-loop-line l = list_all (is_among l.labels) (targets_of (drop l.line-index l.lines)) ≡ list_all (is_among l.labels) (targets_of l.lines)
