use Rattle.c65_link_law_bytes.proofs.Files.{files_are_bytes}
use Rattle.c65_link_law_bytes.proofs.laws.files_are_bytes.Goals as goal

pub returns : goal.returns
returns c = files_are_bytes
