use Rattle.std.proofs.Common.{ℤ, rules, subst, w64}
use Rattle.std.proofs.lemmas.Int.{to_z-of_z}
use Rattle.c65_base.specs.Answers.{Gives}
use Rattle.c65_ints.specs.Ranges.{wrap_of}
use Rattle.c65_init.specs.Bodies.{switch_of, value_added}
use Rattle.c65_init.proofs.BodyLaws.{last_set, case_given}
use Rattle.c65_init.proofs.body.case_value.Goals as goal

pub returns-in-Some-clause-exact : goal.returns-in-Some-clause-exact
returns-in-Some-clause-exact c =
    let exact = subst (λ (z : ℤ). Gives (λ y. (y, switch_of c.add_value.new.switch)) c.add_value.result (value_added (switch_of c.in-Some.switch.now) (wrap_of c.in-Some.switch.now.kind z) c.args.pos)) (to_z-of_z w64 c.args.known c.ranges.known) c.add_value.ensures.exact in
    case_given c.args.body.now _ c.in-Some.switch.now c.add_value.new.switch c.args.known c.args.pos c.add_value.result (search rules) (search rules) (search (rules, last_set)) exact
