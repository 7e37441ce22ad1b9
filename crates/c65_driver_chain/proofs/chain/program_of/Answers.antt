use Rattle.std.proofs.Common.{ℕ, map, subst}
use Rattle.c65_csem.specs.declared.items.Parts.{Parts}
use Rattle.c65_csem.specs.Units.{IsProgram}
use Rattle.c65_csem.specs.Views.{unit_of}
use Rattle.c65_driver_chain.proofs.Answering.{not_joined, is_joined, tested_so}
use Rattle.c65_driver_chain.proofs.chain.program_of.Goals as goal

pub returns-in-Err-clause-exact : goal.returns-in-Err-clause-exact
returns-in-Err-clause-exact c = not_joined (map unit_of c.args.units.items) c.args.names.now c.in-Err.refusal c.in-Err.ensures

pub returns-clause-exact : goal.returns-clause-exact
returns-clause-exact c = is_joined (map unit_of c.args.units.items) c.args.names.now (unit_of c.in-Ok.program.0, c.in-Ok.program.1) c.in-Ok.ensures

pub returns-clause-good : goal.returns-clause-good
returns-clause-good c = record {
  well_typed = subst (λ (p : Parts × ℕ). IsProgram (unit_of p.0) p.1) c.program.view_is c.program.invariant;
  scoped = tested_so c.is_scoped.result c.in-Ok-true.field-0 c.in-Ok-true.is c.in-Ok-true.field-0-test c.is_scoped.ensures;
  plain = tested_so c.is_plain.result c.in-Ok-true-is_plain.field-0 c.in-Ok-true-is_plain.is c.in-Ok-true-is_plain.field-0-test c.is_plain.ensures;
}
