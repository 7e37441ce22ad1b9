use Rattle.c65_driver_law_images.proofs.Made.{printed_codes_read_back}
use Rattle.c65_driver_law_images.proofs.laws.printed_codes_read_back.Goals as goal

pub returns : goal.returns
returns c = printed_codes_read_back
