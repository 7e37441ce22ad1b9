use Rattle.std.proofs.Common.{◌≡◌, ◌+◌, arith}
use Rattle.c65_parse.proofs.Tokens.{peeked}
use Rattle.c65_parse.proofs.state.Parser.peek.Goals as goal

pub returns : goal.returns
returns c = peeked c.args.self.now.tokens.now c.args.self.now.at c.args.ahead (c.args.self.now.at + c.min-steps.result) c.index-self-self.result c.args.self.now.inside (omega (arith, c.min-steps.ensures))
