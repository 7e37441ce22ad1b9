use Rattle.c65_elab_law.proofs.TypingLaws.{typed_keeps}
use Rattle.c65_elab_law.proofs.laws.expressions_are_typed.Goals as goal

pub returns : goal.returns
returns c = λ e s x w g h. typed_keeps e w s x g h
