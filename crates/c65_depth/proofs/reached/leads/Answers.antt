use Rattle.std.proofs.Common.{◌≤◌, length, ap, sym, ◌∙◌, arith}
use Rattle.std.proofs.Math.Bool.{beq}
use Rattle.c65_depth.specs.Reached.{next_leads}
use Rattle.c65_depth.proofs.Rounds.{leads_last}
use Rattle.c65_depth.proofs.Same.{same_lists, bools_same}
use Rattle.c65_depth.proofs.reached.leads.Goals as goal

pub returns-then-eq : goal.returns-then-eq
returns-then-eq c =
    let few : c.loop-round._round ≤ length c.args.graph.now = omega arith in
    let made = c.in_ok-next.ensures ∙ ap (next_leads c.args.graph.now c.args.to) c.deref.ensures.value in
    let same = same_lists beq bools_same c.in_ok-next.next.items c.loop-round.marks.items (sym c.eq.ensures ∙ c.if-eq.true) in
    leads_last c.args.graph.now c.args.to c.loop-round._round c.loop-round.marks.items c.in_ok-next.next.items few c.loop-round.invariant made same
