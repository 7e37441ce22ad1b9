use Rattle.c65_agree_stmts.proofs.Bodies.{labels_lead}
use Rattle.c65_agree_stmts.proofs.laws.labels_lead.Goals as goal

pub returns : goal.returns
returns c = labels_lead
