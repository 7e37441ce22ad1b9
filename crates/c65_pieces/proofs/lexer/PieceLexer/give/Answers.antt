use Rattle.c65_pieces.proofs.Views.{knows_more}
use Rattle.c65_pieces.proofs.lexer.PieceLexer.give.Goals as goal

pub returns-clause-ok : goal.returns-clause-ok
returns-clause-ok c =
    knows_more c.args.self.now c.self.inside.file c.self.inside.comment c.self.inside.text c.self.inside.at c.self.inside.finished c.args.piece.now c.in_ok-self-inside.field-0 c.self.view_is c.requires.room.goes_on c.in_ok-self-inside.ensures
