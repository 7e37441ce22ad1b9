use Rattle.std.proofs.Common.{sym}
use Rattle.c65_parse.proofs.Tokens.{next_token, last_token}
use Rattle.c65_parse.proofs.state.Parser.take.Goals as goal

pub returns-then-self-clause-rest : goal.returns-then-self-clause-rest
returns-then-self-clause-rest c = sym (next_token _ _ c.if-self.true)

pub returns-else-self-clause-rest : goal.returns-else-self-clause-rest
returns-else-self-clause-rest c = sym (last_token _ _ c.if-self.false)
