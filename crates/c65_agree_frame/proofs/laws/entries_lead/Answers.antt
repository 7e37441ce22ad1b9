use Rattle.c65_agree_frame.proofs.Entries.{entries_lead}
use Rattle.c65_agree_frame.proofs.laws.entries_lead.Goals as goal

pub returns : goal.returns
returns c = entries_lead
