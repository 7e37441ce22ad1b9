use Rattle.c65_genentry.proofs.Kept.{code_last}
use Rattle.c65_genentry.proofs.choice.+put_cases.Goals as goal

pub returns-in_ok-put_case-in-len1-up-clause-kept : goal.returns-in_ok-put_case-in-len1-up-clause-kept
returns-in_ok-put_case-in-len1-up-clause-kept t c = code_last _ _ _ _ _ _ c.in_ok-put_case-in-len1-up.ensures.lines c.put_cases.ensures.kept
