use Rattle.std.proofs.Common.{arith, refl}
use Rattle.std.proofs.lemmas.Grind.{common_steps}
use Rattle.c65_pieces.proofs.Held.{extends}
use Rattle.c65_pieces.proofs.lexer.extended.Goals as goal

pub returns : goal.returns
returns c =
    extends c.args.text.now _ c.add.new.text c.args.at c.args.piece.now c.requires.place c.requires.sorted (grind (arith, common_steps)) refl refl refl (grind (arith, common_steps)) (grind (arith, common_steps)) c.add.ensures
