use Rattle.std.proofs.Common.{Some, Result, refl, subst, sym}
use Rattle.std.specs.Prelude.{IfOk}
use Rattle.c65_base.specs.declared.refusal.Refusal.{Refusal}
use Rattle.c65_ppline.specs.declared.calls.Lexed.{Lexed}
use Rattle.c65_pptext.specs.Reading.{IsTaken}
use Rattle.c65_pptext.proofs.Taken.{taken_token, taken_end, taken_refusal, waits, edge_same, file_same}
use Rattle.c65_pptext.proofs.lexing.next_token.Goals as goal

pub returns-in-Ok-Token-clause-edge : goal.returns-in-Ok-Token-clause-edge
returns-in-Ok-Token-clause-edge c = edge_same c.args.header c.args.lexer.now c.next.new.self c.args.names.now c.next.new.names c.next.result c.next.ensures.some

pub returns-in-Ok-Token-clause-exact : goal.returns-in-Ok-Token-clause-exact
returns-in-Ok-Token-clause-exact c =
    taken_token c.args.header c.args.lexer.now c.next.new.self c.args.names.now c.next.new.names c.in-Ok-Token.token (rw c.in-Ok-Token.field-0-is at c.in-Ok-Token.ensures.some)

pub returns-in-Ok-End-clause-edge : goal.returns-in-Ok-End-clause-edge
returns-in-Ok-End-clause-edge c = edge_same c.args.header c.args.lexer.now c.next.new.self c.args.names.now c.next.new.names c.next.result c.next.ensures.some

pub returns-in-Ok-End-clause-exact : goal.returns-in-Ok-End-clause-exact
returns-in-Ok-End-clause-exact c =
    taken_end c.args.header c.args.lexer.now c.next.new.self c.args.names.now c.next.new.names (rw c.in-Ok-End.field-0-is at c.in-Ok-End.ensures.some)

pub returns-in-Ok-More-clause-edge : goal.returns-in-Ok-More-clause-edge
returns-in-Ok-More-clause-edge c = edge_same c.args.header c.args.lexer.now c.next.new.self c.args.names.now c.next.new.names c.next.result c.next.ensures.some

pub returns-in-Ok-More-clause-exact : goal.returns-in-Ok-More-clause-exact
returns-in-Ok-More-clause-exact c =
    let w = waits c.args.header c.args.lexer.now c.next.new.self c.args.names.now c.next.new.names (rw c.in-Ok-More.field-0-is at c.in-Ok-More.ensures.some) in
    (w.0, (rw c.in-Ok-More.field-0-is at c.in-Ok-More.ensures.room) refl, w.1)

pub returns-in-Ok-clause-exact : goal.returns-in-Ok-clause-exact
returns-in-Ok-clause-exact c =
    let t = taken_refusal c.args.header c.args.lexer.now c.next.new.self c.args.names.now c.next.new.names c.in-Err.refusal c.in-Err.ensures.some in
    subst (λ (x : Result Lexed Refusal). IfOk x (λ l. IsTaken c.args.header c.args.lexer.now c.args.names.now (Some l) c.next.new.self c.next.new.names)) (sym c.in-Ok.ensures) t

pub returns-in-Ok-Token-clause-file : goal.returns-in-Ok-Token-clause-file
returns-in-Ok-Token-clause-file c = file_same c.args.header c.args.lexer.now c.next.new.self c.args.names.now c.next.new.names c.next.result c.next.ensures.some

pub returns-in-Ok-End-clause-file : goal.returns-in-Ok-End-clause-file
returns-in-Ok-End-clause-file c = file_same c.args.header c.args.lexer.now c.next.new.self c.args.names.now c.next.new.names c.next.result c.next.ensures.some

pub returns-in-Ok-More-clause-file : goal.returns-in-Ok-More-clause-file
returns-in-Ok-More-clause-file c = file_same c.args.header c.args.lexer.now c.next.new.self c.args.names.now c.next.new.names c.next.result c.next.ensures.some
