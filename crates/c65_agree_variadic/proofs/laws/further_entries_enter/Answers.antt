use Rattle.c65_agree_variadic.proofs.Passed.{further_entries_enter}
use Rattle.c65_agree_variadic.proofs.laws.further_entries_enter.Goals as goal

pub returns : goal.returns
returns c = further_entries_enter
