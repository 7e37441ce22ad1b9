use Rattle.c65_driver_law_images.proofs.Made.{printed_codes_are_sound}
use Rattle.c65_driver_law_images.proofs.laws.printed_codes_are_sound.Goals as goal

pub returns : goal.returns
returns c = printed_codes_are_sound
