use Rattle.std.proofs.Common.{◌∙◌, ap, map}
use Rattle.c65_code.specs.Segments.{target_of}
use Rattle.c65_live.specs.Flows.{found}
use Rattle.c65_live.proofs.Labels.{places_found}
use Rattle.c65_live.proofs.border.places.Goals as goal

pub returns : goal.returns
returns c = c.in_ok-places.ensures ∙ (ap (λ labels. map (λ line. found labels (target_of line)) c.args.lines.now) c.in_ok-labels.ensures ∙ places_found c.args.lines.now c.requires)
