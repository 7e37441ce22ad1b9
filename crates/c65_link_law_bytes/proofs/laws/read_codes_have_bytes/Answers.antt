use Rattle.c65_link_law_bytes.proofs.Read.{read_codes_have_bytes}
use Rattle.c65_link_law_bytes.proofs.laws.read_codes_have_bytes.Goals as goal

pub returns : goal.returns
returns c = read_codes_have_bytes
