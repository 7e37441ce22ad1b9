use Rattle.std.proofs.Common.{◌∙◌, sym, arith}
use Rattle.c65_live.specs.Flows.{flows_of}
use Rattle.c65_live.proofs.Rises.{alike, apart, joined_rises}
use Rattle.c65_live.proofs.region.raise.Goals as goal

pub returns-clause-same : goal.returns-clause-same
returns-clause-same c h = sym c.joined-joined.ensures ∙ alike _ _ _ c.ne.ensures h

pub returns-clause-rises : goal.returns-clause-rises
returns-clause-rises c h = joined_rises (flows_of c.args.lines.now c.args.out) c.args.live.now c.args.at c.joined-joined.result (omega (arith, c.requires.line, c.requires.long)) c.joined-joined.ensures (omega (arith, c.joined-joined.type_inv)) (apart _ _ _ c.ne.ensures h)
