use Rattle.c65_driver_law_images.proofs.Made.{made_codes_are_sound}
use Rattle.c65_driver_law_images.proofs.laws.made_codes_are_sound.Goals as goal

pub returns : goal.returns
returns c = made_codes_are_sound
