use Rattle.std.proofs.Common.{◌≤◌, length, ap, sym, ◌∙◌, arith}
use Rattle.c65_depth.specs.Numbers.{next_numbers}
use Rattle.c65_depth.proofs.Rounds.{numbers_last}
use Rattle.c65_depth.proofs.Same.{same_lists, numbers_same}
use Rattle.c65_depth.proofs.numbers.all_numbers.Goals as goal

pub returns-then-eq : goal.returns-then-eq
returns-then-eq c =
    let few : c.loop-round._round ≤ length c.args.graph.now = omega arith in
    let made = c.in_ok-next.ensures ∙ ap (next_numbers c.args.graph.now c.args.costs.now) c.deref.ensures.value in
    let same = same_lists _ numbers_same c.in_ok-next.next.items c.loop-round.all.items (sym c.eq.ensures ∙ c.if-eq.true) in
    numbers_last c.args.graph.now c.args.costs.now c.loop-round._round c.loop-round.all.items c.in_ok-next.next.items few c.loop-round.invariant made same
