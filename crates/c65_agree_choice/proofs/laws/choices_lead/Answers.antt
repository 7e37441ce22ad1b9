use Rattle.c65_agree_choice.proofs.Choices.{choices_lead}
use Rattle.c65_agree_choice.proofs.laws.choices_lead.Goals as goal

pub returns : goal.returns
returns c = choices_lead
