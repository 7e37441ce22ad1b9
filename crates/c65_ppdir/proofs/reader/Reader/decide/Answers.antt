use Rattle.std.proofs.Common.{◌≡◌, Ok, subst}
use Rattle.c65_ppline.specs.declared.directive.Test.{Test}
use Rattle.c65_ppline.specs.declared.directive.Test.TheVariants as tests
use Rattle.c65_ppexpr.specs.ConditionLines.{IsCondition}
use Rattle.c65_ppdir.specs.LineActions.{chosen, decided}
use Rattle.c65_ppdir.specs.Progress.{Progress, progress}
use Rattle.c65_ppline.specs.Relations.{just, Comes}
use Rattle.c65_ppdir.proofs.Acting.{known_ok, chosen_answer}
use Rattle.c65_ppdir.proofs.reader.Reader.decide.Goals as goal

pub returns-in-Ok-clause-exact : goal.returns-in-Ok-clause-exact
returns-in-Ok-clause-exact c =
    λ held.
    let p = progress held c.args.self.now c.args.file.now c.args.names.now in
    let q = progress held c.args.self.now c.args.file.now c.condition_line.new.names in
    let view : Unit {0} → Progress = λ x. progress held c.args.self.now (record c.args.file.now { groups = c.choose.new.groups }) c.condition_line.new.names in
    let e : tests.Condition ≡ c.args.test = cc (c.in-Condition.is) in
    subst (λ (t : Test). Comes view (decided t c.args.line p) c.choose.result) e
    (known_ok view (IsCondition c.args.self.now.macros c.args.names.now c.args.line) (λ x. just (Ok (chosen x.0 (record p { names = x.1 })))) c.condition_line.new.names c.in-Ok.holds c.choose.result c.in-Ok.ensures.exact
    (chosen_answer c.in-Ok.holds q c.choose.new.groups c.choose.result c.choose.ensures.refused c.choose.ensures.exact))
