use Rattle.c65_ppline.specs.Lexing.{IsLexed, lexing}
use Rattle.c65_ppline.proofs.Lexing.{answered_token, answered_refusal, of_equal}
use Rattle.c65_ppline.proofs.calls.next_token.Goals as goal

pub returns-in-Ok-Some-clause-exact : goal.returns-in-Ok-Some-clause-exact
returns-in-Ok-Some-clause-exact c =
    answered_token c.args.header c.args.lexer.now c.next.new.self c.args.names.now c.next.new.names c.in-Ok-Some.token (rw c.in-Ok-Some.field-0-is at c.in-Ok-Some.ensures.some)

pub returns-in-Err-clause-exact : goal.returns-in-Err-clause-exact
returns-in-Err-clause-exact c =
    of_equal c.lexed_refusal.result _ (λ l. IsLexed c.args.header c.args.lexer.now c.args.names.now (lexing l c.next.new.self c.next.new.names)) c.lexed_refusal.ensures (answered_refusal c.args.header c.args.lexer.now c.next.new.self c.args.names.now c.next.new.names c.in-Err.refusal c.in-Err.ensures.some)
