-- What the lexer answers is what the definition reads.
use Rattle.std.proofs.Common.{◌≡◌, ◌∙◌, ℕ, List, Bool, Option, Some, None, Result, Ok, Err, inl, inr, refl, ap, sym, subst}
use Rattle.std.specs.Prelude.{IfOk}
use Rattle.c65_base.specs.declared.names.Name.{Name}
use Rattle.c65_base.specs.declared.refusal.Refusal.{Refusal}
use Rattle.c65_base.specs.declared.refusal.Refusal.TheVariants as refusals
use Rattle.c65_base.specs.declared.refusal.Size.{Size}
use Rattle.c65_base.specs.Names.{RefusesName}
use Rattle.c65_base.specs.Answers.{large}
use Rattle.c65_lex.specs.declared.token.PpKind.{PpKind}
use Rattle.c65_lex.specs.declared.token.PpToken.{PpToken}
use Rattle.c65_lex.specs.Cells.{Cell}
use Rattle.c65_lex.specs.Next.{ended, open_comment, long_line, token, IsNext}
use Rattle.c65_lex.specs.Unread.{Unread, IsGiven, IsAnswered}
use Rattle.c65_macro.specs.Items.{Outcome, done, faulty, learn}
use Rattle.c65_macro.proofs.Learning.{learned}
use Rattle.c65_ppline.specs.declared.calls.Lexed.{Lexed}
use Rattle.c65_ppline.specs.declared.calls.Lexed.TheVariants as kinds
use Rattle.c65_ppline.specs.declared.line.Cut.TheVariants as cuts
use Rattle.c65_ppline.specs.Lexing.{lexing, named, token_of, IsLexed, lexed_refusal, cut_by_size}

-- a token of these parts
same_token : (given : PpToken) (kind : PpKind) (file line : ℕ) (space : Bool) (new rest : Unread) (after : List (List ℕ)) → given.kind ≡ kind → given.pos.file ≡ file → given.pos.line ≡ line → given.space ≡ space → new ≡ rest
    → lexing (kinds.Token given) new after ≡ lexing (kinds.Token (token_of file kind given.spelling line space)) rest after
same_token given kind file line space new rest after a b c d e =
    ap (λ (k : PpKind). lexing (kinds.Token (record { kind = k; spelling = given.spelling; pos = given.pos; space = given.space })) new after) a
    ∙ (ap (λ (n : ℕ). lexing (kinds.Token (record { kind = kind; spelling = given.spelling; pos = record { file = n; line = given.pos.line }; space = given.space })) new after) b
    ∙ (ap (λ (n : ℕ). lexing (kinds.Token (record { kind = kind; spelling = given.spelling; pos = record { file = file; line = n }; space = given.space })) new after) c
    ∙ (ap (λ (x : Bool). lexing (kinds.Token (token_of file kind given.spelling line x)) new after) d
    ∙ ap (λ (u : Unread). lexing (kinds.Token (token_of file kind given.spelling line space)) u after) e)))

-- a token with its name
named_token : (old new : Unread) (names after : List (List ℕ)) (kind : PpKind) (spelling : List ℕ) (line : ℕ) (space : Bool) (rest : List Cell) (given : PpToken)
    → IsGiven old names kind spelling line space rest given new after → lexing (kinds.Token given) new after ≡ named old names kind line space rest (learn names spelling)
named_token old new names after kind spelling line space rest given g =
    let name : learn names spelling ≡ done after given.spelling = learned names after spelling (Ok given.spelling) g.name_is g.names_are g.room tt in
    same_token given kind old.file line space new (record { file = old.file; cells = rest }) after g.kind_is g.file_is g.line_is g.space_is g.left
    ∙ sym (ap (λ (o : Outcome Name). named old names kind line space rest o) name)

pub answered_token : (header : Bool) (old new : Unread) (names after : List (List ℕ)) (given : PpToken) → IsAnswered header old names (Ok (Some given)) new after → IsLexed header old names (lexing (kinds.Token given) new after)
answered_token header old new names after given (ended, n, a) = absurd cc
answered_token header old new names after given (open_comment line, n, a) = absurd cc
answered_token header old new names after given (long_line, n, (inl a, k)) = absurd cc
answered_token header old new names after given (long_line, n, (inr a, k)) = absurd cc
answered_token header old new names after given (token kind spelling line space rest, n, a) =
    (token kind spelling line space rest, n, named_token old new names after kind spelling line space rest given a)

kept : (what : Lexed) (old new : Unread) (names after : List (List ℕ)) → new ≡ old → after ≡ names → lexing what new after ≡ lexing what old names
kept what old new names after e f = ap (λ (u : Unread). lexing what u after) e ∙ ap (λ (ns : List (List ℕ)). lexing what old ns) f

pub answered_end : (header : Bool) (old new : Unread) (names after : List (List ℕ)) → IsAnswered header old names (Ok None) new after → IsLexed header old names (lexing kinds.End new after)
answered_end header old new names after (ended, n, a) = (ended, n, kept kinds.End old new names after a.1.0 a.1.1)
answered_end header old new names after (open_comment line, n, a) = absurd cc
answered_end header old new names after (long_line, n, (inl a, k)) = absurd cc
answered_end header old new names after (long_line, n, (inr a, k)) = absurd cc
answered_end header old new names after (token kind spelling line space rest, n, a) = absurd a

abbrev Refused : Bool → Unread → List (List ℕ) → Unread → List (List ℕ) → Refusal → Type 0
Refused header old names new after e = IfOk (lexed_refusal e) (λ l. IsLexed header old names (lexing l new after))

full_names : (header : Bool) (old new : Unread) (names after : List (List ℕ)) (kind : PpKind) (spelling : List ℕ) (line : ℕ) (space : Bool) (rest : List Cell) (e : Refusal)
    → IsNext header old.cells (token kind spelling line space rest) → RefusesName names spelling e → new ≡ old → after ≡ names → Refused header old names new after e
full_names header old new names after kind spelling line space rest refusals.OutOfMemory n r same known = tt
full_names header old new names after kind spelling line space rest (refusals.TooLarge limit value) n r same known =
    let full : learn names spelling ≡ faulty (large limit value) = learned names after spelling (Err (refusals.TooLarge limit value)) tt tt tt r in
    (token kind spelling line space rest, n, ap (λ (l : Size). lexing (kinds.Cut (cut_by_size l)) new after) r.0 ∙ (kept (kinds.Cut cuts.Names) old new names after same known ∙ sym (ap (λ (o : Outcome Name). named old names kind line space rest o) full)))
full_names header old new names after kind spelling line space rest _ n r same known = absurd r

err_is : (e f : Refusal) → (let x : Result (Option PpToken) Refusal = Err e in x ≡ Err f) → f ≡ e
err_is e f h = cc

pub answered_refusal : (header : Bool) (old new : Unread) (names after : List (List ℕ)) (e : Refusal) → IsAnswered header old names (Err e) new after → Refused header old names new after e
answered_refusal header old new names after e (ended, n, a) = absurd cc
answered_refusal header old new names after e (open_comment line, n, a) =
    subst (λ (x : Refusal). Refused header old names new after x) (err_is e _ a.0) (open_comment line, n, kept (kinds.Cut (cuts.OpenComment (record { file = old.file; line = line }))) old new names after a.1.0 a.1.1)
answered_refusal header old new names after e (long_line, n, (inl a, k)) =
    subst (λ (x : Refusal). Refused header old names new after x) (err_is e _ a) (long_line, n, kept (kinds.Cut cuts.LongLine) old new names after k.0 k.1)
answered_refusal header old new names after e (long_line, n, (inr a, k)) =
    subst (λ (x : Refusal). Refused header old names new after x) (err_is e _ a) tt
answered_refusal header old new names after e (token kind spelling line space rest, n, (inl a, k)) =
    subst (λ (x : Refusal). Refused header old names new after x) (sym a) tt
answered_refusal header old new names after e (token kind spelling line space rest, n, (inr r, k)) =
    full_names header old new names after kind spelling line space rest e n r k.0 k.1

pub of_equal : {A E : Type 0} (r s : Result A E) (P : A → Type 0) → r ≡ s → IfOk s P → IfOk r P
of_equal {A} {E} r s P e h = subst (λ (x : Result A E). IfOk x P) (sym e) h
