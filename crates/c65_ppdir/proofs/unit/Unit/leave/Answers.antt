use Rattle.c65_ppdir.proofs.Standing.{told_back}
use Rattle.c65_ppdir.proofs.unit.Unit.leave.Goals as goal

pub returns-in-Some-clause-told : goal.returns-in-Some-clause-told
returns-in-Some-clause-told c =
    λ held here others. told_back held c.args.self.now.outer.items c.pop.new.self.items c.in-Some.file c.in-Some.ensures.items others
