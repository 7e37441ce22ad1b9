use Rattle.c65_link_law.proofs.Symbols.{symbols_are_addresses}
use Rattle.c65_link_law.proofs.laws.symbols_lead.Goals as goal

pub returns : goal.returns
returns c = symbols_are_addresses
