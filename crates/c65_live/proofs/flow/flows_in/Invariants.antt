use Rattle.std.proofs.Common.{◌≡◌, take, map}
use Rattle.c65_live.specs.Flows.{flow_in}
use Rattle.c65_live.proofs.flow.flows_in.Given as goal

abbrev pub invariant-loop-line : goal.invariant-loop-line
invariant-loop-line l = l.flows.items ≡ map (flow_in l.out l.labels.entries) (take l.line-index l.lines)
