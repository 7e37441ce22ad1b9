use Rattle.c65_base.specs.declared.options.Cpu.TheVariants.{Nmos}
use Rattle.c65_pass.proofs.Turns.{passed_alike}
use Rattle.c65_optimise.proofs.FamilyLaws.{IsTurned, turns_good, run_on_nmos, turned_on_nmos}
use Rattle.c65_optimise.specs.Optimised.{IsRuleFor}
use Rattle.c65_optimise.proofs.families.rewrite_nmos.Goals as goal

pub run_rules-requires-clause-good : goal.run_rules-requires-clause-good
run_rules-requires-clause-good c = turns_good 4

pub returns : goal.returns
returns c = passed_alike (IsTurned 4) (IsRuleFor Nmos) _ _ _ run_on_nmos turned_on_nmos c.run_rules.ensures
