use Rattle.c65_link_law_images.proofs.WithArguments.{images_follow}
use Rattle.c65_link_law_images.proofs.laws.images_follow.Goals as goal

pub returns : goal.returns
returns c = images_follow
