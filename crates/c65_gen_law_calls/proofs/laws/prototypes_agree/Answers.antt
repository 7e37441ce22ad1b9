use Rattle.c65_gen_law_calls.proofs.AgreementLaws.{prototypes_agree}
use Rattle.c65_gen_law_calls.proofs.laws.prototypes_agree.Goals as goal

pub returns : goal.returns
returns c = prototypes_agree
