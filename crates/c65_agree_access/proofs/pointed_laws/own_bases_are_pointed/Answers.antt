use Rattle.c65_agree_access.proofs.Bases.{own_bases_are_pointed}
use Rattle.c65_agree_access.proofs.pointed_laws.own_bases_are_pointed.Goals as goal

pub returns : goal.returns
returns c = own_bases_are_pointed
