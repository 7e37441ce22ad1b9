use Rattle.std.proofs.Common.{◌≡◌, ℕ, List, sym, subst, ◌∙◌, Option, Some, None, Result, Ok, Err, OnErr, inl, inr, Bool}
use Rattle.c65_base.specs.declared.refusal.Refusal.{Refusal}
use Rattle.c65_lex.specs.declared.token.PpToken.{PpToken}
use Rattle.c65_lex.specs.Unread.{Unread, Answers, IsKept}
use Rattle.c65_lex.specs.Next.{Next, ended, open_comment, long_line, token, IsNext}
use Rattle.c65_lex.proofs.Unique.{one_next}
use Rattle.c65_lex.proofs.lexer.Lexer.next.Goals as goal

abbrev Answer : Type 0
Answer = Result (Option PpToken) Refusal

only_for : (header : Bool) (old new : Unread) (names after : List (List ℕ)) (r : Answer) (a b : Next) → IsNext header old.cells a → Answers old names a r new after → IsNext header old.cells b → Answers old names b r new after
only_for header old new names after r a b p q s = subst (λ (x : Next). Answers old names x r new after) (one_next header old.cells a b p s) q

err_none : (r : Refusal) → (let e : Answer = Err r in e ≡ Ok None) → ⊥
err_none r e = cc

at_end : (header : Bool) (old new : Unread) (names after : List (List ℕ)) (r : Answer) (a : Next) → IsNext header old.cells a → Answers old names a r new after → r ≡ Ok None → IsNext header old.cells ended
at_end header old new names after r ended p q e = p
at_end header old new names after r (open_comment line) p q e = absurd (err_none _ (sym q.0 ∙ e))
at_end header old new names after r long_line p (inl f, k) e = absurd (err_none _ (sym f ∙ e))
at_end header old new names after r long_line p (inr f, k) e = absurd (err_none _ (sym f ∙ e))
at_end header old new names after (Ok None) (token kind spelling line space rest) p q e = absurd q
at_end header old new names after (Ok (Some given)) (token kind spelling line space rest) p q e = absurd cc
at_end header old new names after (Err refusal) (token kind spelling line space rest) p q e = absurd (err_none refusal e)

kept : (old new : Unread) (names after : List (List ℕ)) (r : Answer) (a : Next) → Answers old names a r new after → OnErr r (IsKept old names new after)
kept old new names after (Ok x) a q = tt
kept old new names after (Err x) ended q = q.1
kept old new names after (Err x) (open_comment line) q = q.1
kept old new names after (Err x) long_line q = q.1
kept old new names after (Err x) (token kind spelling line space rest) q = q.1

pub returns : goal.returns
returns c =
    let a = c.answer.ensures in
    record {
      some = a;
      only = λ next s. only_for c.args.header c.args.self.now c.answer.new.self c.args.names.now c.answer.new.names c.answer.result a.0 next a.1 a.2 s;
      end = (λ e. at_end c.args.header c.args.self.now c.answer.new.self c.args.names.now c.answer.new.names c.answer.result a.0 a.1 a.2 e, λ s. (only_for c.args.header c.args.self.now c.answer.new.self c.args.names.now c.answer.new.names c.answer.result a.0 ended a.1 a.2 s).0);
      kept = kept c.args.self.now c.answer.new.self c.args.names.now c.answer.new.names c.answer.result a.0 a.2;
    }
