-- Definitions on the command line, step by step.
use Rattle.std.proofs.Common.{◌≡◌, ◌∙◌, ◌⊎◌, ℕ, suc, List, [], ◌∷◌, ◌++◌, Bool, true, false, Option, Result, Ok, Err, inl, inr, refl, ap, sym, subst}
use Rattle.std.specs.Prelude.{IfOk}
use Rattle.c65_base.specs.Answers.{Gives}
use Rattle.c65_base.specs.declared.code.Code.TheVariants as faults
use Rattle.c65_base.specs.declared.names.Name.{Name}
use Rattle.c65_base.specs.declared.refusal.Refusal.{Refusal}
use Rattle.c65_base.specs.declared.refusal.Refusal.TheVariants as refusals
use Rattle.c65_lex.specs.declared.token.PpKind.{PpKind}
use Rattle.c65_lex.specs.declared.token.PpToken.{PpToken}
use Rattle.c65_lex.specs.Spellings.{class_of}
use Rattle.c65_lex.specs.Unread.{Unread}
use Rattle.c65_macro.specs.Answered
use Rattle.c65_macro.specs.Items.{learn}
use Rattle.c65_macro.specs.Definitions.{define}
use Rattle.c65_macro.specs.Table.{Table, is_line_end}
use Rattle.c65_ppline.specs.declared.calls.Lexed.{Lexed}
use Rattle.c65_ppline.specs.declared.calls.Lexed.TheVariants as lexeds
use Rattle.c65_lex.specs.declared.define.Define.{Define}
use Rattle.c65_ppline.specs.declared.line.Cut.{Cut}
use Rattle.c65_ppdir.specs.CommandLine.{place, body_by, body_from, body_of, is_name_class, plain_macro, with_body, defined, numbered, next_number, by_number, all_defined}
use Rattle.c65_ppline.specs.Lexing.{IsLexed, lexing}
use Rattle.c65_ppline.specs.Lines.{cut_refusal}
use Rattle.c65_ppline.specs.Relations.{Answers, just, by_test, IsFree, Comes}
use Rattle.c65_ppdir.specs.Standing.{learned}
use Rattle.c65_ppline.proofs.Relations.{goes}

pub class_test : (r : Bool) (kind : Option PpKind) (bytes name : List ℕ) → r ≡ is_name_class kind → kind ≡ class_of false bytes → bytes ≡ name → r ≡ true → is_name_class (class_of false name) ≡ true
class_test r kind bytes name a b e t = sym (a ∙ ap (λ (k : Option PpKind). is_name_class k) (b ∙ ap (λ (xs : List ℕ). class_of false xs) e)) ∙ t

pub learned_fails : (names known : List (List ℕ)) (bytes spelling : List ℕ) (e : Refusal) → bytes ≡ spelling → Answered.Gives {X = Name} (λ n. n) (Err e) known (learn names bytes) → learned names spelling (Err e)
learned_fails names known bytes spelling e same h = subst (λ (s : List ℕ). learned names s (Err e)) same (known, h)

pub learned_is : (names known : List (List ℕ)) (bytes spelling : List ℕ) (n : Name) → bytes ≡ spelling → Answered.Gives (λ (n : Name). n) (Ok n) known (learn names bytes) → learned names spelling (Ok (n, known))
learned_is names known bytes spelling n same h = subst (λ (s : List ℕ). learned names s (Ok (n, known))) same h

class_goes : (d : Define) (table : Table) (names : List (List ℕ)) (z : Result (Table × List (List ℕ)) Refusal) → is_name_class (class_of false d.name) ≡ true → with_body d table names z → defined d table names z
class_goes d table names z e h = subst (λ (b : Bool). by_test b (with_body d table names) (just (Err (refusals.At faults.DirectiveForm place))) z) (sym e) h

-- the name has no number
pub name_stops : (d : Define) (table : Table) (names : List (List ℕ)) (e : Refusal) → is_name_class (class_of false d.name) ≡ true → learned names d.name (Err e) → defined d table names (Err e)
name_stops d table names e c h = class_goes d table names (Err e) c (inl h)

-- the body is refused
pub body_stops : (d : Define) (table : Table) (names known : List (List ℕ)) (name : Name) (bytes : List ℕ) (e : Refusal) → is_name_class (class_of false d.name) ≡ true → learned names d.name (Ok (name, known)) → bytes ≡ d.body → IsFree e ⊎ body_of known bytes (Err e) → IsFree e ⊎ defined d table names (Err e)
body_stops d table names known name bytes e c l same (inl h) = inl h
body_stops d table names known name bytes e c l same (inr h) = inr (class_goes d table names (Err e) c (inr ((name, known), l, inl (subst (λ (xs : List ℕ). body_of known xs (Err e)) same h))))

-- the macro is defined, or refused
pub macro_goes : (d : Define) (table more : Table) (names known now : List (List ℕ)) (name : Name) (body : List PpToken) (bytes : List ℕ) (r : Result (Unit {0}) Refusal) → is_name_class (class_of false d.name) ≡ true → learned names d.name (Ok (name, known)) → bytes ≡ d.body → body_of known bytes (Ok (body, now))
    → Gives (λ _. more) r (define table (plain_macro name body) place) → Comes (λ _. (more, now)) (defined d table names) r
macro_goes d table more names known now name body bytes (Ok x) c l same b h =
    class_goes d table names (Ok (more, now)) c ((name, known), l, ((body, now), subst (λ (xs : List ℕ). body_of known xs (Ok (body, now))) same b, (more, h, refl)))
macro_goes d table more names known now name body bytes (Err e) c l same b h =
    inr (class_goes d table names (Err e) c (inr ((name, known), l, inr ((body, now), subst (λ (xs : List ℕ). body_of known xs (Ok (body, now))) same b, inl h))))

free_numbered : (number : ℕ) (e : Refusal) → IsFree e → IsFree (numbered number e)
free_numbered number refusals.OutOfMemory h = tt
free_numbered number refusals.ReadFault h = tt
free_numbered number _ h = absurd h

stops_at : (number : ℕ) (d : Define) (ds : List Define) (table : Table) (names : List (List ℕ)) (e r : Refusal) → IsFree r ⊎ (r ≡ numbered (next_number number) e) → IsFree e ⊎ defined d table names (Err e) → IsFree r ⊎ all_defined number (d ∷ ds) table names (Err r)
stops_at number d ds table names e r (inl h) k = inl h
stops_at number d ds table names e r (inr h) (inl k) = inl (subst (λ (x : Refusal). IsFree x) (sym h) (free_numbered (next_number number) e k))
stops_at number d ds table names e r (inr h) (inr k) = inr (inl (e, k, h))

-- a definition is refused
pub all_stops : (number number' : ℕ) (d : Define) (ds rest : List Define) (table : Table) (names : List (List ℕ)) (e r : Refusal) → rest ≡ d ∷ ds → number' ≡ next_number number → IsFree r ⊎ (r ≡ numbered number' e) → IsFree e ⊎ defined d table names (Err e) → IsFree r ⊎ all_defined number rest table names (Err r)
all_stops number number' d ds rest table names e r a b h k =
    subst (λ (xs : List Define). IsFree r ⊎ all_defined number xs table names (Err r)) (sym a) (stops_at number d ds table names e r (subst (λ (n : ℕ). IsFree r ⊎ (r ≡ numbered n e)) b h) k)

-- a definition is done
pub all_goes : (number number' : ℕ) (d : Define) (ds rest : List Define) (table more : Table) (names known : List (List ℕ)) (z : Result (Table × List (List ℕ)) Refusal) → rest ≡ d ∷ ds → number' ≡ next_number number → defined d table names (Ok (more, known)) → all_defined number' ds more known z → all_defined number rest table names z
all_goes number number' d ds rest table more names known z a b h k =
    subst (λ (xs : List Define). all_defined number xs table names z) (sym a)
    (goes (by_number (next_number number) (defined d table names)) (λ x. all_defined (next_number number) ds x.0 x.1) (more, known) z h (subst (λ (n : ℕ). all_defined n ds more known z) b k))

-- one step more of a definition's text
pub body_on : (text : List ℕ) (u left : Unread) (first names known : List (List ℕ)) (past : Bool) (ts : List PpToken) (what : Lexed)
    → ((n : ℕ) (z : Result (List PpToken × List (List ℕ)) Refusal) → body_from n past ts u names z → body_of first text z) → IsLexed false u names (lexing what left known)
    → (n : ℕ) (z : Result (List PpToken × List (List ℕ)) Refusal) → body_by (λ past ts. body_from n past ts left known) past ts what known z → body_of first text z
body_on text u left first names known past ts what before read n z h = before (suc n) z (lexing what left known, read, h)

true_false : true ≡ false → ⊥
true_false h = cc

-- what was read
pub read_ok : (r : Result Lexed Refusal) (l w : Lexed) (P : Lexed → Type 0) → r ≡ Ok l → l ≡ w → IfOk r P → P w
read_ok r l w P a b h = subst P b (subst (λ (x : Result Lexed Refusal). IfOk x P) a h)

-- a token behind the text's line
pub body_past : (go : Bool → List PpToken → Answers (List PpToken × List (List ℕ))) (past : Bool) (ts : List PpToken) (t : PpToken) (known : List (List ℕ)) → past ≡ true → body_by go past ts (lexeds.Token t) known (Err (refusals.At faults.DirectiveForm place))
body_past go true ts t known e = refl
body_past go false ts t known e = absurd (true_false (sym e))

-- the end of the text's line
pub body_ends : (go : Bool → List PpToken → Answers (List PpToken × List (List ℕ))) (past past' b : Bool) (ts us : List PpToken) (t : PpToken) (known : List (List ℕ)) (z : Result (List PpToken × List (List ℕ)) Refusal) → past ≡ false → past' ≡ true → us ≡ ts → b ≡ is_line_end t → b ≡ true → go past' us z → body_by go past ts (lexeds.Token t) known z
body_ends go true past' b ts us t known z e e' i f g h = absurd (true_false e)
body_ends go false past' b ts us t known z e e' i f g h =
    subst (λ (c : Bool). by_test c (go true ts) (go false (ts ++ t ∷ [])) z) (sym g ∙ f) (subst (λ (q : Bool). go q ts z) e' (subst (λ (vs : List PpToken). go past' vs z) i h))

-- a token of the text
pub body_goes : (go : Bool → List PpToken → Answers (List PpToken × List (List ℕ))) (past past' b : Bool) (ts us : List PpToken) (t : PpToken) (known : List (List ℕ)) (z : Result (List PpToken × List (List ℕ)) Refusal) → past ≡ false → past' ≡ past → us ≡ ts ++ t ∷ [] → b ≡ is_line_end t → b ≡ false → go past' us z → body_by go past ts (lexeds.Token t) known z
body_goes go true past' b ts us t known z e e' i f g h = absurd (true_false e)
body_goes go false past' b ts us t known z e e' i f g h =
    subst (λ (c : Bool). by_test c (go true ts) (go false (ts ++ t ∷ [])) z) (sym g ∙ f) (subst (λ (q : Bool). go q (ts ++ t ∷ []) z) e' (subst (λ (vs : List PpToken). go past' vs z) i h))

-- the end of the text, and what cuts it off
pub body_done : (go : Bool → List PpToken → Answers (List PpToken × List (List ℕ))) (past : Bool) (ts : List PpToken) (known : List (List ℕ)) → body_by go past ts lexeds.End known (Ok (ts, known))
body_done go true ts known = refl
body_done go false ts known = refl

pub body_cut : (go : Bool → List PpToken → Answers (List PpToken × List (List ℕ))) (past : Bool) (ts : List PpToken) (cut : Cut) (known : List (List ℕ)) (e : Refusal) → e ≡ cut_refusal cut → body_by go past ts (lexeds.Cut cut) known (Err e)
body_cut go true ts cut known e h = ap (λ (x : Refusal). Err x) h
body_cut go false ts cut known e h = ap (λ (x : Refusal). Err x) h
