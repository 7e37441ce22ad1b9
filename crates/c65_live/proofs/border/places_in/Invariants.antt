use Rattle.std.proofs.Common.{◌≡◌, take, map}
use Rattle.c65_code.specs.Segments.{target_of}
use Rattle.c65_live.specs.Flows.{found}
use Rattle.c65_live.proofs.border.places_in.Given as goal

abbrev pub invariant-loop-line : goal.invariant-loop-line
invariant-loop-line l = l.places.items ≡ map (λ line. found l.labels.entries (target_of line)) (take l.line-index l.lines)
