use Rattle.std.proofs.Common.{inl}
use Rattle.c65_ppdir.proofs.unit.literal_name.Goals as goal

pub returns-in-Err-clause-exact : goal.returns-in-Err-clause-exact
returns-in-Err-clause-exact c = inl tt
