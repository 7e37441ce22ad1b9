use Rattle.std.proofs.Common.{◌≡◌, ◌∙◌, ◌∷◌, ◌++◌, [], Err, false, inr, ap, sym, subst, rules}
use Rattle.c65_base.specs.declared.code.Code.TheVariants as faults
use Rattle.c65_base.specs.declared.refusal.Pos.{Pos}
use Rattle.c65_base.specs.declared.refusal.Refusal.{Refusal}
use Rattle.c65_base.specs.declared.refusal.Refusal.TheVariants as refusals
use Rattle.c65_ppline.specs.declared.calls.Lexed.TheVariants as lexeds
use Rattle.c65_ppdir.specs.CommandLine.{place, body_from, body_of}
use Rattle.c65_ppline.specs.Lexing.{IsLexed, lexing}
use Rattle.c65_ppdir.proofs.Commands.{read_ok, body_on, body_past, body_ends, body_goes, body_done, body_cut}
use Rattle.c65_ppdir.proofs.command.body_of.Goals as goal
use Rattle.c65_ppdir.proofs.command.body_of.Goals.{then-is_line_end, in-Ok-Token-3+in_ok-push-in-Ok-Token-3}

pub returns-in-Ok-Token-clause-exact : goal.returns-in-Ok-Token-clause-exact
returns-in-Ok-Token-clause-exact c =
    let left = c.next_token.new.lexer in
    let known = c.next_token.new.names in
    let what = lexeds.Token c.in-Ok-Token.field-0-0 in
    let read = read_ok c.next_token.result c.in-Ok-Token.field-0 what (λ l. IsLexed false c.loop.lexer c.loop.names (lexing l left known)) c.in-Ok-Token.is c.in-Ok-Token.field-0-is c.next_token.ensures.exact in
    let same : c.fault.result ≡ refusals.At faults.DirectiveForm place = c.fault.ensures ∙ ap (λ (p : Pos). refusals.At faults.DirectiveForm p) c.place.ensures in
    inr (subst (λ (e : Refusal). body_of c.args.names.now c.args.text.items (Err e)) (sym same) (body_on c.args.text.items c.loop.lexer left c.args.names.now c.loop.names known c.loop.has_ended c.loop.tokens.items what c.loop.invariant read
    0 (Err (refusals.At faults.DirectiveForm place)) (body_past (λ past ts. body_from 0 past ts left known) c.loop.has_ended c.loop.tokens.items c.in-Ok-Token.field-0-0 known c.if-has_ended.true)))

pub returns-in-Ok-End-clause-exact : goal.returns-in-Ok-End-clause-exact
returns-in-Ok-End-clause-exact c =
    let left = c.next_token.new.lexer in
    let known = c.next_token.new.names in
    let read = read_ok c.next_token.result c.in-Ok-End.field-0 lexeds.End (λ l. IsLexed false c.loop.lexer c.loop.names (lexing l left known)) c.in-Ok-End.is c.in-Ok-End.field-0-is c.next_token.ensures.exact in
    body_on c.args.text.items c.loop.lexer left c.args.names.now c.loop.names known c.loop.has_ended c.loop.tokens.items lexeds.End c.loop.invariant read 0 _ (body_done (λ past ts. body_from 0 past ts left known) c.loop.has_ended c.loop.tokens.items known)

pub returns-in-Ok-Cut-clause-exact : goal.returns-in-Ok-Cut-clause-exact
returns-in-Ok-Cut-clause-exact c =
    let left = c.next_token.new.lexer in
    let known = c.next_token.new.names in
    let what = lexeds.Cut c.in-Ok-Cut.cut in
    let read = read_ok c.next_token.result c.in-Ok-Cut.field-0 what (λ l. IsLexed false c.loop.lexer c.loop.names (lexing l left known)) c.in-Ok-Cut.is c.in-Ok-Cut.field-0-is c.next_token.ensures.exact in
    inr (body_on c.args.text.items c.loop.lexer left c.args.names.now c.loop.names known c.loop.has_ended c.loop.tokens.items what c.loop.invariant read
    0 (Err c.refusal.result) (body_cut (λ past ts. body_from 0 past ts left known) c.loop.has_ended c.loop.tokens.items c.in-Ok-Cut.cut known c.refusal.result c.refusal.ensures.exact))

pub loop-preserved : goal.loop-preserved
loop-preserved c =
    let left = c.next_token.new.lexer in
    let known = c.next_token.new.names in
    let token = c.in-Ok-Token.field-0-0 in
    let what = lexeds.Token token in
    let read = read_ok c.next_token.result c.in-Ok-Token.field-0 what (λ l. IsLexed false c.loop.lexer c.loop.names (lexing l left known)) c.in-Ok-Token.is c.in-Ok-Token.field-0-is c.next_token.ensures.exact in
    λ n z h. body_on c.args.text.items c.loop.lexer left c.args.names.now c.loop.names known c.loop.has_ended c.loop.tokens.items what c.loop.invariant read n z
    (elim c.if-is_line_end.branch [
      | then-is_line_end w ↦
          (let same : c.if-is_line_end.tokens.items ≡ c.loop.tokens.items = search rules in
          body_ends (λ past ts. body_from n past ts left known) c.loop.has_ended c.if-is_line_end.has_ended c.is_line_end.result c.loop.tokens.items c.if-is_line_end.tokens.items token known z c.if-has_ended.false w.has_ended-is same c.is_line_end.ensures w.if-is_line_end.true h)
      | in-Ok-Token-3+in_ok-push-in-Ok-Token-3 w ↦
          (let same : c.if-is_line_end.tokens.items ≡ c.loop.tokens.items ++ token ∷ [] = search rules in
          body_goes (λ past ts. body_from n past ts left known) c.loop.has_ended c.if-is_line_end.has_ended c.is_line_end.result c.loop.tokens.items c.if-is_line_end.tokens.items token known z c.if-has_ended.false w.has_ended-is same c.is_line_end.ensures w.if-is_line_end.false h)
    ])
