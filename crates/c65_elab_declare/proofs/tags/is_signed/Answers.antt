use Rattle.std.proofs.Common.{◌≡◌, ap}
use Rattle.c65_elab_declare.specs.Tagging.{any_signed}
use Rattle.c65_elab_declare.proofs.Lists.{signed_is}
use Rattle.c65_elab_declare.proofs.tags.is_signed.Goals as goal

pub returns : goal.returns
returns c = cc (signed_is c.args.specifiers.now, ap any_signed c.deref.ensures.value)
