-- What the lexer over pieces answers is what is read next line by line.
use Rattle.std.proofs.Common.{◌≡◌, ◌∙◌, ℕ, List, Bool, true, false, Option, Some, None, Ok, Err, inl, inr, refl, ap, sym, subst}
use Rattle.std.specs.Prelude.{IfOk}
use Rattle.c65_base.specs.declared.code.Code.TheVariants as codes
use Rattle.c65_base.specs.declared.names.Name.{Name}
use Rattle.c65_base.specs.declared.refusal.Refusal.{Refusal}
use Rattle.c65_base.specs.declared.refusal.Refusal.TheVariants as refusals
use Rattle.c65_base.specs.declared.refusal.Size.{Size}
use Rattle.c65_base.specs.Names.{RefusesName}
use Rattle.c65_base.specs.Answers.{large}
use Rattle.c65_lex.specs.declared.token.PpKind.{PpKind}
use Rattle.c65_lex.specs.declared.token.PpToken.{PpToken}
use Rattle.c65_lex.specs.Cells.{Cell}
use Rattle.c65_lex.specs.Next.{Next, ended, open_comment, long_line, token, IsNext}
use Rattle.c65_macro.specs.Items.{Outcome, done, faulty, learn}
use Rattle.c65_macro.proofs.Learning.{learned}
use Rattle.c65_pieces.specs.declared.lexer.Lexed.TheVariants as given
use Rattle.c65_pieces.specs.declared.text.Edge.{Edge}
use Rattle.c65_pieces.specs.Pieces.{Pieces, ahead_of, lines_of, is_too_long}
use Rattle.c65_pieces.specs.Answers.{Answer, IsNamed, IsGiven, IsKept, IsWaiting, ComesByLines, AnswersLines, AnswersToken, IsAnswered}
use Rattle.c65_ppline.specs.declared.calls.Lexed.{Lexed}
use Rattle.c65_ppline.specs.declared.calls.Lexed.TheVariants as kinds
use Rattle.c65_ppline.specs.declared.line.Cut.TheVariants as cuts
use Rattle.c65_ppline.specs.Lexing.{Lexing, lexing, named, lexed, token_of, lexed_refusal, cut_by_size}
use Rattle.c65_pptext.specs.Reading.{unread_of, IsTaken}
use Rattle.c65_pptext.proofs.Ahead.{token_ahead}

-- a token of these parts
same_token : (t : PpToken) (kind : PpKind) (file line : ℕ) (space : Bool) (n : ℕ) (cells : List Cell) (known : List (List ℕ)) → t.kind ≡ kind → t.pos.file ≡ file → t.pos.line ≡ line → t.space ≡ space → n ≡ file
    → lexing (kinds.Token t) (record { file = n; cells = cells }) known ≡ lexing (kinds.Token (token_of file kind t.spelling line space)) (record { file = file; cells = cells }) known
same_token t kind file line space n cells known a b c d e =
    let made : PpKind → ℕ → ℕ → Bool → ℕ → Lexing = λ k f l s m. lexing (kinds.Token (record { kind = k; spelling = t.spelling; pos = record { file = f; line = l }; space = s })) (record { file = m; cells = cells }) known in
    ap (λ (k : PpKind). made k t.pos.file t.pos.line t.space n) a
    ∙ (ap (λ (f : ℕ). made kind f t.pos.line t.space n) b
    ∙ (ap (λ (l : ℕ). made kind file l t.space n) c
    ∙ (ap (λ (s : Bool). made kind file line s n) d
    ∙ ap (λ (m : ℕ). made kind file line space m) e)))

err_is : (e f : Refusal) → (let x : Answer = Err e in x ≡ Err f) → f ≡ e
err_is e f h = cc

module _ (header : Bool) (old new : Pieces) (names known : List (List ℕ)) where
  abbrev Taken : Lexed → Type 0
  Taken l = IsTaken header old names (Some l) new known

  token_taken : (kind : PpKind) (spelling : List ℕ) (line : ℕ) (space : Bool) (t : PpToken) → IsGiven header old names kind spelling line space t new known → Taken (kinds.Token t)
  token_taken kind spelling line space t g more =
      let n : IsNamed old.file names kind spelling line space t known = g.named in
      let name : learn names spelling ≡ done known t.spelling = learned names known spelling (Ok t.spelling) n.name_is n.names_are n.room tt in (
        token kind spelling line space (ahead_of new more),
        g.by_lines more,
        same_token t kind old.file line space new.file (ahead_of new more) known n.kind_is n.file_is n.line_is n.space_is g.file_is
            ∙ sym (ap (λ (o : Outcome Name). named (unread_of old more) names kind line space (ahead_of new more) o) name),
      )

  -- of lines without a token
  kept_taken : (next : Next) (what : Lexed) → IsKept old names new known → ComesByLines header old next → ((more : List ℕ) → lexed (unread_of old more) names next ≡ lexing what (unread_of old more) names) → Taken what
  kept_taken next what k c e more =
      (next, c more, ap (λ (p : Pieces). lexing what (unread_of p more) known) k.0 ∙ (ap (λ (ns : List (List ℕ)). lexing what (unread_of old more) ns) k.1 ∙ sym (e more)))

  no_token : (long : Bool) (edge : Option Edge) (next : Next) (finished : Answer) (t : PpToken) → (Ok (given.Token t) ≡ finished → ⊥) → AnswersLines header long edge next finished old names (Ok (given.Token t)) new known → ⊥
  no_token true edge next finished t f a = absurd cc
  no_token false None next finished t f a = f a.0
  no_token false (Some edge) next finished t f a = absurd cc

  pub taken_token : (t : PpToken) → IsAnswered header old names (Ok (given.Token t)) new known → Taken (kinds.Token t)
  taken_token t (ended, n, a) = absurd (no_token (is_too_long old) old.edge ended (Ok given.End) t (λ e. absurd cc) a)
  taken_token t (open_comment line, n, a) = absurd (no_token (is_too_long old) old.edge (open_comment line) _ t (λ e. absurd cc) a)
  taken_token t (long_line, n, a) = absurd a
  taken_token t (token kind spelling line space rest, n, a) = token_taken kind spelling line space t a

  end_of_lines : (long : Bool) (edge : Option Edge) (next : Next) (finished : Answer) → AnswersLines header long edge next finished old names (Ok given.End) new known → (Ok given.End ≡ finished) × IsKept old names new known × ComesByLines header old next
  end_of_lines true edge next finished a = absurd cc
  end_of_lines false None next finished a = (a.0, a.1, a.3)
  end_of_lines false (Some edge) next finished a = absurd cc

  pub taken_end : IsAnswered header old names (Ok given.End) new known → Taken kinds.End
  taken_end (ended, n, a) =
      let x = end_of_lines (is_too_long old) old.edge ended (Ok given.End) a in
      kept_taken ended kinds.End x.1 x.2 (λ more. refl)
  taken_end (open_comment line, n, a) =
      let x = end_of_lines (is_too_long old) old.edge (open_comment line) _ a in
      absurd cc
  taken_end (long_line, n, a) = absurd a
  taken_end (token kind spelling line space rest, n, a) = absurd a

  more_of_lines : (long : Bool) (edge : Option Edge) (next : Next) (finished : Answer) → (Ok given.More ≡ finished → ⊥) → AnswersLines header long edge next finished old names (Ok given.More) new known → IsWaiting old new × (known ≡ names)
  more_of_lines true edge next finished f a = absurd cc
  more_of_lines false None next finished f a = absurd (f a.0)
  more_of_lines false (Some edge) next finished f a = (a.1, a.2)

  pub waits : IsAnswered header old names (Ok given.More) new known → IsWaiting old new × (known ≡ names)
  waits (ended, n, a) = more_of_lines (is_too_long old) old.edge ended (Ok given.End) (λ e. absurd cc) a
  waits (open_comment line, n, a) = more_of_lines (is_too_long old) old.edge (open_comment line) _ (λ e. absurd cc) a
  waits (long_line, n, a) = absurd a
  waits (token kind spelling line space rest, n, a) = absurd a

  abbrev Refused : Refusal → Type 0
  Refused e = IfOk (lexed_refusal e) Taken

  refused_lines : (long : Bool) (edge : Option Edge) (next : Next) (fault : Refusal) (e : Refusal) → (IsKept old names new known → ComesByLines header old next → Refused fault) → (let finished : Answer = Err fault in AnswersLines header long edge next finished old names (Err e) new known) → Refused e
  refused_lines true edge next fault e f a =
      subst (λ (x : Refusal). Refused x) (err_is e _ a.0) (kept_taken long_line (kinds.Cut cuts.LongLine) a.1 a.2 (λ more. refl))
  refused_lines false None next fault e f a = subst (λ (x : Refusal). Refused x) (err_is e fault a.0) (f a.1 a.3)
  refused_lines false (Some edge) next fault e f a = absurd cc

  -- one spelling too many
  full_names : (kind : PpKind) (spelling : List ℕ) (line : ℕ) (space : Bool) (rest : List Cell) (e : Refusal) → IsNext header (lines_of old) (token kind spelling line space rest) → RefusesName names spelling e → IsKept old names new known → Refused e
  full_names kind spelling line space rest refusals.OutOfMemory n r k = tt
  full_names kind spelling line space rest (refusals.TooLarge limit value) n r k =
      let full : learn names spelling ≡ faulty (large limit value) = learned names known spelling (Err (refusals.TooLarge limit value)) tt tt tt r in
      λ more.
      let a = token_ahead header old more kind spelling line space rest n in (
        token kind spelling line space a.0,
        a.1,
        ap (λ (p : Pieces). lexing (kinds.Cut (cut_by_size limit)) (unread_of p more) known) k.0
            ∙ (ap (λ (ns : List (List ℕ)). lexing (kinds.Cut (cut_by_size limit)) (unread_of old more) ns) k.1
            ∙ (ap (λ (l : Size). lexing (kinds.Cut (cut_by_size l)) (unread_of old more) names) r.0
            ∙ sym (ap (λ (o : Outcome Name). named (unread_of old more) names kind line space a.0 o) full))),
      )
  full_names kind spelling line space rest _ n r k = absurd r

  no_refusal : (long : Bool) (edge : Option Edge) (next : Next) (e : Refusal) → AnswersLines header long edge next (Ok given.End) old names (Err e) new known → Refused e
  no_refusal true edge next e a =
      subst (λ (x : Refusal). Refused x) (err_is e _ a.0) (kept_taken long_line (kinds.Cut cuts.LongLine) a.1 a.2 (λ more. refl))
  no_refusal false None next e a = absurd cc
  no_refusal false (Some edge) next e a = absurd cc

  pub taken_refusal : (e : Refusal) → IsAnswered header old names (Err e) new known → Refused e
  taken_refusal e (ended, n, a) = no_refusal (is_too_long old) old.edge ended e a
  taken_refusal e (open_comment line, n, a) =
      refused_lines (is_too_long old) old.edge (open_comment line) (refusals.At codes.OpenComment (record { file = old.file; line = line })) e (λ k c. kept_taken (open_comment line) (kinds.Cut (cuts.OpenComment (record { file = old.file; line = line }))) k c (λ more. refl)) a
  taken_refusal e (long_line, n, a) = absurd a
  taken_refusal e (token kind spelling line space rest, n, (inl m, k)) = subst (λ (x : Refusal). Refused x) (sym m) tt
  taken_refusal e (token kind spelling line space rest, n, (inr r, k)) = full_names kind spelling line space rest e n r k

  -- nothing is changed where the lexer refuses
  edge_of_lines : (long : Bool) (edge : Option Edge) (next : Next) (finished answer : Answer) → AnswersLines header long edge next finished old names answer new known → new.edge ≡ old.edge
  edge_of_lines true edge next finished answer a = ap (λ (p : Pieces). p.edge) a.1.0
  edge_of_lines false None next finished answer a = ap (λ (p : Pieces). p.edge) a.1.0
  edge_of_lines false (Some edge) next finished answer a = a.1.edge_is

  edge_of_token : (kind : PpKind) (spelling : List ℕ) (line : ℕ) (space : Bool) (answer : Answer) → AnswersToken header old names kind spelling line space answer new known → new.edge ≡ old.edge
  edge_of_token kind spelling line space (Ok (given.Token t)) a = a.edge_is
  edge_of_token kind spelling line space (Ok given.More) a = absurd a
  edge_of_token kind spelling line space (Ok given.End) a = absurd a
  edge_of_token kind spelling line space (Err e) a = ap (λ (p : Pieces). p.edge) a.1.0

  pub edge_same : (answer : Answer) → IsAnswered header old names answer new known → new.edge ≡ old.edge
  edge_same answer (ended, n, a) = edge_of_lines (is_too_long old) old.edge ended (Ok given.End) answer a
  edge_same answer (open_comment line, n, a) = edge_of_lines (is_too_long old) old.edge (open_comment line) _ answer a
  edge_same answer (long_line, n, a) = absurd a
  edge_same answer (token kind spelling line space rest, n, a) = edge_of_token kind spelling line space answer a

  file_of_lines : (long : Bool) (edge : Option Edge) (next : Next) (finished answer : Answer) → AnswersLines header long edge next finished old names answer new known → new.file ≡ old.file
  file_of_lines true edge next finished answer a = ap (λ (p : Pieces). p.file) a.1.0
  file_of_lines false None next finished answer a = ap (λ (p : Pieces). p.file) a.1.0
  file_of_lines false (Some edge) next finished answer a = a.1.file_is

  file_of_token : (kind : PpKind) (spelling : List ℕ) (line : ℕ) (space : Bool) (answer : Answer) → AnswersToken header old names kind spelling line space answer new known → new.file ≡ old.file
  file_of_token kind spelling line space (Ok (given.Token t)) a = a.file_is
  file_of_token kind spelling line space (Ok given.More) a = absurd a
  file_of_token kind spelling line space (Ok given.End) a = absurd a
  file_of_token kind spelling line space (Err e) a = ap (λ (p : Pieces). p.file) a.1.0

  pub file_same : (answer : Answer) → IsAnswered header old names answer new known → new.file ≡ old.file
  file_same answer (ended, n, a) = file_of_lines (is_too_long old) old.edge ended (Ok given.End) answer a
  file_same answer (open_comment line, n, a) = file_of_lines (is_too_long old) old.edge (open_comment line) _ answer a
  file_same answer (long_line, n, a) = absurd a
  file_same answer (token kind spelling line space rest, n, a) = file_of_token kind spelling line space answer a
