use Rattle.c65_driver_law_images.proofs.Made.{made_images_follow}
use Rattle.c65_driver_law_images.proofs.laws.made_images_follow.Goals as goal

pub returns : goal.returns
returns c = made_images_follow c.linked_runtimes_are_met.ensures
