use Rattle.std.proofs.Common.{◌≡◌, Bool, ap, sym, ◌+◌, ◌-◌, ◌^◌, ◌<◌, ◌≤◌, min, ℕ, inl, inr, refl, subst, ◌∙◌, arith}
use Rattle.c65_sim.specs.Budgets.{number_of, price_of}
use Rattle.c65_sim.specs.Differing.{jumps_at_page_end, either}
use Rattle.c65_sim.specs.Runs.{Goes, answer_of}
use Rattle.c65_sim.specs.declared.stop.Stop.TheVariants.{Limit}
use Rattle.c65_sim.proofs.Legs.{SoFar, none_so_far, one_more, limited, stopped}
use Rattle.c65_sim.proofs.run.go_on.Goals as goal

pub loop-rows-init : goal.loop-rows-init
loop-rows-init g c = (none_so_far c.args.budget c.args.guard c.args.count c.args.computer.now _ _ c.requires, refl, refl)

pub returns-then-spent-number-clause-leg : goal.returns-then-spent-number-clause-leg
returns-then-spent-number-clause-leg g c =
    let small : number_of c.args.budget < 2 ^ 64 = omega (arith, c.number-number.ensures, c.number-number.type_inv) in
    let over : number_of c.args.budget ≤ c.loop-rows.spent = omega (arith, c.number-number.ensures, c.if-spent-number.true) in
    limited c.args.budget c.args.guard c.args.count c.loop-rows.rows c.loop-rows.spent 0 c.loop-rows.differed c.args.computer.now c.loop-rows.computer _ _ _ _ c.loop-rows.invariant.0 small (inl over)

pub returns-in-Err-clause-leg : goal.returns-in-Err-clause-leg
returns-in-Err-clause-leg g c =
    let small : number_of c.args.budget < 2 ^ 64 = omega (arith, c.number-number.ensures, c.number-number.type_inv) in
    let free : c.loop-rows.spent < number_of c.args.budget = omega (arith, c.number-number.ensures, c.if-spent-number.false) in
    let below : c.args.count + c.loop-rows.rows < 2 ^ 64 - 1 = omega arith in
    stopped c.args.budget c.args.guard c.args.count c.loop-rows.rows c.loop-rows.spent c.loop-rows.differed c.in-Err.stop c.args.computer.now c.loop-rows.computer c.turn.new.self _ _ _ _ _ _
    c.loop-rows.invariant.0 small free below c.in-Err.ensures.turn

pub loop-rows-preserved : goal.loop-rows-preserved
loop-rows-preserved g c =
    let small : number_of c.args.budget < 2 ^ 64 = omega (arith, c.number-number.ensures, c.number-number.type_inv) in
    let free : c.loop-rows.spent < number_of c.args.budget = omega (arith, c.number-number.ensures, c.if-spent-number.false) in
    let below : c.args.count + c.loop-rows.rows < 2 ^ 64 - 1 = omega arith in
    let more = one_more c.args.budget c.args.guard c.args.count c.loop-rows.rows c.loop-rows.spent c.in-Ok.cycles c.loop-rows.differed c.args.computer.now c.loop-rows.computer c.turn.new.self
    (g.I.Source.left c.args.input.now) _ (g.I.Source.left c.turn.new.input) (g.O.Sink.written c.args.out.now) _ (g.O.Sink.written c.turn.new.out)
    c.loop-rows.invariant.0 small free below c.in-Ok.ensures.turn in
    let spent : min (c.loop-rows.spent + price_of c.args.budget c.in-Ok.cycles) (2 ^ 64 - 1) ≡ c.saturating_add-spent.result =
    omega (arith, c.saturating_add-spent.ensures, c.price.ensures) in
    let differed : either c.loop-rows.differed (jumps_at_page_end c.loop-rows.computer.machine) ≡ c.either-differed.result =
    sym (c.either-differed.ensures ∙ ap (either c.loop-rows.differed) c.jumps_at_page_end-differs.ensures) in
    let P : ℕ → Bool → Type 0 = λ n d. SoFar c.args.budget c.args.guard c.args.count (c.loop-rows.rows + 1) n d c.args.computer.now c.turn.new.self
    (g.I.Source.left c.args.input.now) (g.I.Source.left c.turn.new.input) (g.O.Sink.written c.args.out.now) (g.O.Sink.written c.turn.new.out) in
    (subst (λ d. P c.saturating_add-spent.result d) differed (subst (λ n. P n (either c.loop-rows.differed (jumps_at_page_end c.loop-rows.computer.machine))) spent more), c.in-Ok.ensures.reads ∙ c.loop-rows.invariant.1, c.in-Ok.ensures.writes ∙ c.loop-rows.invariant.2)

pub returns-clause-leg : goal.returns-clause-leg
returns-clause-leg g c =
    let small : number_of c.args.budget < 2 ^ 64 = omega (arith, c.number-number.ensures, c.number-number.type_inv) in
    let whole : c.args.count + c.loop-rows.rows ≡ 2 ^ 64 - 1 = omega arith in
    let rows : c.loop-rows.rows ≡ 18446744073709551615 - c.args.count = omega arith in
    let P : ℕ → Type 0 = λ n. Goes c.args.budget c.args.guard c.args.count c.args.computer.now c.loop-rows.computer
    (g.I.Source.left c.args.input.now) (g.I.Source.left c.loop-rows.input) (g.O.Sink.written c.args.out.now) (g.O.Sink.written c.loop-rows.out) n c.loop-rows.differed (answer_of c.args.budget 0 Limit) in
    subst P rows (limited c.args.budget c.args.guard c.args.count c.loop-rows.rows c.loop-rows.spent 0 c.loop-rows.differed c.args.computer.now c.loop-rows.computer _ _ _ _ c.loop-rows.invariant.0 small (inr whole))
