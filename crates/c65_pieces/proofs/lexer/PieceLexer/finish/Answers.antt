use Rattle.c65_pieces.proofs.Views.{held_closed, finishes}
use Rattle.c65_pieces.proofs.lexer.PieceLexer.finish.Goals as goal

pub invariant_of-self : goal.invariant_of-self
invariant_of-self c = held_closed c.self.inside.text c.close.new.text c.self.inside.at c.self.inside.finished c.self.invariant c.close.ensures

pub returns-then-not-self : goal.returns-then-not-self
returns-then-not-self c =
    finishes c.args.self.now c.self.inside.file c.self.inside.comment c.self.inside.text c.close.new.text c.self.inside.at c.self.inside.finished c.self.view_is c.if-not-self.true c.self.invariant c.close.ensures
