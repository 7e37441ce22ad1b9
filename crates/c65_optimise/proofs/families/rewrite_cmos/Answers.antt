use Rattle.c65_base.specs.declared.options.Cpu.TheVariants.{Cmos}
use Rattle.c65_pass.proofs.Turns.{passed_alike}
use Rattle.c65_optimise.proofs.FamilyLaws.{IsTurned, turns_good, run_on_cmos, turned_on_cmos}
use Rattle.c65_optimise.specs.Optimised.{IsRuleFor}
use Rattle.c65_optimise.proofs.families.rewrite_cmos.Goals as goal

pub run_rules-requires-clause-good : goal.run_rules-requires-clause-good
run_rules-requires-clause-good c = turns_good 5

pub returns : goal.returns
returns c = passed_alike (IsTurned 5) (IsRuleFor Cmos) _ _ _ run_on_cmos turned_on_cmos c.run_rules.ensures
