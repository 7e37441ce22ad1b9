use Rattle.std.proofs.Common.{◌≡◌, Bool, List, ℕ, refl, sym, ap, subst, ◌∙◌, Ok, Err}
use Rattle.std.specs.Result.{IsErr, IsErrAnd}
use Rattle.c65_base.specs.declared.refusal.Refusal.{Refusal}
use Rattle.c65_base.specs.declared.refusal.Refusal.TheVariants.{OutOfMemory}
use Rattle.c65_lex.specs.Next.{ended, open_comment, long_line}
use Rattle.c65_pieces.specs.declared.lexer.Lexed.TheVariants.{More, End}
use Rattle.c65_pieces.specs.Pieces.{Pieces}
use Rattle.c65_pieces.specs.Answers.{Answer, IsAnswered}
use Rattle.c65_pieces.proofs.Answering.{through, through_token, through_memory, ended_over, ended_long, ended_wanting, open_over, open_long, open_wanting, never_long, memory_answer, name_answer, token_answer}
use Rattle.c65_pieces.proofs.lexer.PieceLexer.answer.Goals as goal
use Rattle.c65_pieces.proofs.lexer.PieceLexer.answer.Goals.{in-Over, in-Long, in-Wanting}

err_is : (r : Answer) (x : Refusal) → IsErr r × IsErrAnd r (λ e. e ≡ x) → Err x ≡ r
err_is (Ok y) x h = absurd h.1
err_is (Err e) x h = ap Err (sym h.1)

-- nothing has changed
kept : (header : Bool) (names after : List (List ℕ)) (a b : Answer) (p q : Pieces) → a ≡ b → p ≡ q → IsAnswered header p names a p after → IsAnswered header q names b q after
kept header names after a b p q e f h = subst (λ (x : Answer). IsAnswered header q names x q after) e (subst (λ (x : Pieces). IsAnswered header x names a x after) f h)

changed : (header : Bool) (names after : List (List ℕ)) (a : Answer) (p q new : Pieces) → p ≡ q → IsAnswered header p names a new after → IsAnswered header q names a new after
changed header names after a p q new f h = subst (λ (x : Pieces). IsAnswered header x names a new after) f h

pub returns-in-TooLong : goal.returns-in-TooLong
returns-in-TooLong c =
    let i = c.self.inside in
    let n = through i.file i.comment i.text i.at i.finished c.self.invariant c.deref.result.now c.deref.ensures.value c.args.header long_line (rw c.in-TooLong.is at c.in_ok-scan.ensures.next) in
    absurd (never_long i.file i.comment i.text i.at i.finished c.self.invariant c.args.header n)

pub returns-in-Over-stopped : goal.returns-in-Over-stopped
returns-in-Over-stopped c =
    let i = c.self.inside in
    let n = through i.file i.comment i.text i.at i.finished c.self.invariant c.deref.result.now c.deref.ensures.value c.args.header (open_comment c.in-Unclosed.line) (rw c.in-Unclosed.is at c.in_ok-scan.ensures.next) in
    kept c.args.header c.args.names.now c.args.names.now _ _ _ _ refl c.self.view_is (open_over i.file i.comment i.text i.at i.finished c.self.invariant c.args.header c.args.names.now c.in-Unclosed.line n (sym c.in-Over-stopped.ensures))

pub returns-in-Long-stopped : goal.returns-in-Long-stopped
returns-in-Long-stopped c =
    let i = c.self.inside in
    let n = through i.file i.comment i.text i.at i.finished c.self.invariant c.deref.result.now c.deref.ensures.value c.args.header (open_comment c.in-Unclosed.line) (rw c.in-Unclosed.is at c.in_ok-scan.ensures.next) in
    kept c.args.header c.args.names.now c.args.names.now _ _ _ _ (ap Err (sym c.too_long-in-Long-stopped.ensures)) c.self.view_is (open_long i.file i.comment i.text i.at i.finished c.self.invariant c.args.header c.args.names.now c.in-Unclosed.line n (sym c.in-Long-stopped.ensures))

pub returns-in-Wanting-stopped : goal.returns-in-Wanting-stopped
returns-in-Wanting-stopped c =
    let i = c.self.inside in
    let n = through i.file i.comment i.text i.at i.finished c.self.invariant c.deref.result.now c.deref.ensures.value c.args.header (open_comment c.in-Unclosed.line) (rw c.in-Unclosed.is at c.in_ok-scan.ensures.next) in
    changed c.args.header c.args.names.now c.args.names.now (Ok More) _ _ _ c.self.view_is (open_wanting i.file i.comment i.text i.at i.finished c.self.invariant c.args.header c.args.names.now c.in-Unclosed.line n (sym c.in-Wanting-stopped.ensures))

pub returns-in_err-scan : goal.returns-in_err-scan
returns-in_err-scan c =
    let i = c.self.inside in
    let n = through_memory i.file i.comment i.text i.at i.finished c.self.invariant c.deref.result.now c.deref.ensures.value c.args.header c.in_err-scan.ensures.memory in
    kept c.args.header c.args.names.now c.args.names.now _ _ _ _ (err_is c.from_residual.result OutOfMemory c.from_residual.ensures) c.self.view_is (memory_answer i.file i.comment i.text i.at i.finished c.self.invariant c.args.header c.args.names.now n)

pub returns-in_err-token-in-Token : goal.returns-in_err-token-in-Token
returns-in_err-token-in-Token c =
    let i = c.self.inside in
    let s = c.in-Token.spelled in
    let n = through_token i.file i.comment i.text i.at i.finished c.self.invariant c.deref.result.now c.deref.ensures.value c.args.header s.kind s.spelling s.line s.space s.rest (rw c.in-Token.is at c.in_ok-scan.ensures.next) in
    let a = c.in_err-token-in-Token.ensures.refused in
    kept c.args.header c.args.names.now c.named.new.names _ _ _ _ (err_is c.from_residual-in_err-token-in-Token.result c.in_err-token-in-Token.field-0.0 c.from_residual-in_err-token-in-Token.ensures) c.self.view_is (name_answer i.file i.comment i.text i.at i.finished c.self.invariant c.args.header c.args.names.now c.named.new.names s.kind s.spelling s.line s.space _ c.in_err-token-in-Token.field-0.0 n a.0 a.1)

pub returns-in_ok-token-in-Token : goal.returns-in_ok-token-in-Token
returns-in_ok-token-in-Token c =
    let i = c.self.inside in
    let s = c.in-Token.spelled in
    let n = through_token i.file i.comment i.text i.at i.finished c.self.invariant c.deref.result.now c.deref.ensures.value c.args.header s.kind s.spelling s.line s.space s.rest (rw c.in-Token.is at c.in_ok-scan.ensures.next) in
    let m = c.min-self-inside.ensures in
    changed c.args.header c.args.names.now c.named.new.names _ _ _ _ c.self.view_is (rw m (token_answer i.file i.comment i.text i.at i.finished c.self.invariant c.args.header c.args.names.now c.named.new.names s.kind s.spelling s.line s.space s.rest c.in_ok-token-in-Token.token n c.in_ok-token-in-Token.ensures.named))

pub returns-after-stopped : goal.returns-after-stopped
returns-after-stopped c =
    let i = c.self.inside in
    let n = through i.file i.comment i.text i.at i.finished c.self.invariant c.deref.result.now c.deref.ensures.value c.args.header ended (rw c.in-Ended.is at c.in_ok-scan.ensures.next) in
    elim c.match-stopped.branch [
      | in-Over w ↦ kept c.args.header c.args.names.now c.args.names.now (Ok End) _ _ _ (sym w.result-is) c.self.view_is (ended_over i.file i.comment i.text i.at i.finished c.self.invariant c.args.header c.args.names.now n (sym w.in-Over.ensures))
      | in-Long w ↦ kept c.args.header c.args.names.now c.args.names.now _ _ _ _ (ap Err (sym w.too_long.ensures) ∙ sym w.result-is) c.self.view_is (ended_long i.file i.comment i.text i.at i.finished c.self.invariant c.args.header c.args.names.now n (sym w.in-Long.ensures))
      | in-Wanting w ↦ kept c.args.header c.args.names.now c.args.names.now (Ok More) _ _ _ (sym w.result-is) c.self.view_is (ended_wanting i.file i.comment i.text i.at i.finished c.self.invariant c.args.header c.args.names.now n (sym w.in-Wanting.ensures))
    ]
