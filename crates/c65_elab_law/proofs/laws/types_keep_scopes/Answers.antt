use Rattle.std.proofs.Common.{false}
use Rattle.c65_elab_law.proofs.HeadingLaws.{headed_keeps}
use Rattle.c65_elab_law.proofs.StepLaws.{shape_keeps}
use Rattle.c65_elab_law.proofs.TypingLaws.{specified_keeps, parts_in_keeps, type_named_keeps}
use Rattle.c65_elab_law.proofs.laws.types_keep_scopes.Goals as goal

pub returns : goal.returns
returns c = record {
  specifiers = λ q alone s x w g h. specified_keeps q w alone s x g h;
  declarators = λ base k s x w g h. shape_keeps k base (parts_in_keeps k w false) s x g h;
  headings = headed_keeps;
  type_names = λ m s x w g h. type_named_keeps m w s x g h;
}
