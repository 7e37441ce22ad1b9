use Rattle.std.proofs.Common.{refl}
use Rattle.c65_lex.specs.Cells.{ahead}
use Rattle.c65_lex.proofs.lexer.Lexer.new.Goals as goal

pub returns : goal.returns
unfolding ahead
returns c = refl
