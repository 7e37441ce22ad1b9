-- Definitions on the command line are decided once.
use Rattle.std.proofs.Common.{◌≡◌, ◌∙◌, ℕ, zero, suc, List, [], ◌∷◌, ◌++◌, Bool, true, false, Ok, Err, ap, sym, subst}
use Rattle.c65_base.specs.declared.code.Code.TheVariants as faults
use Rattle.c65_base.specs.declared.options.Options.{Options}
use Rattle.c65_base.specs.declared.refusal.Refusal.{Refusal}
use Rattle.c65_base.specs.declared.refusal.Refusal.TheVariants as refusals
use Rattle.c65_lex.specs.declared.token.PpToken.{PpToken}
use Rattle.c65_lex.specs.Spellings.{class_of}
use Rattle.c65_lex.specs.Unread.{Unread, unread}
use Rattle.c65_macro.specs.Definitions.{define}
use Rattle.c65_macro.specs.Items.{learn}
use Rattle.c65_macro.specs.Predefined.{initial}
use Rattle.c65_macro.specs.Table.{Table, is_line_end}
use Rattle.c65_ppline.specs.declared.calls.Lexed.{Lexed}
use Rattle.c65_ppline.specs.declared.calls.Lexed.TheVariants as lexeds
use Rattle.c65_lex.specs.declared.define.Define.{Define}
use Rattle.c65_ppdir.specs.CommandLine.{place, body_by, body_from, body_of, is_name_class, plain_macro, with_body, defined, numbered, by_number, next_number, all_defined}
use Rattle.c65_ppline.specs.Lexing.{Lexing}
use Rattle.c65_ppline.specs.Relations.{Answers, of, just, by_test}
use Rattle.c65_ppdir.specs.Standing.{learned}
use Rattle.c65_ppdir.specs.Units.{macros}
use Rattle.c65_ppdir_law.specs.Once.{IsFinal, AreAlike, HasOne}
use Rattle.c65_ppdir_law.proofs.Alike.{one_then, one_behind, one_just, one_of, one_test, one_outcome, no_value, is_error}
use Rattle.c65_ppdir_law.proofs.LineReads.{one_lexed}

pub one_learned : (names : List (List ℕ)) (spelling : List ℕ) → HasOne (learned names spelling)
one_learned names spelling = one_outcome (learn names spelling)

alike_test : {A : Type 0} (b : Bool) (P Q P' Q' : Answers A) → AreAlike P P' → AreAlike Q Q' → AreAlike (by_test b P Q) (by_test b P' Q')
alike_test true P Q P' Q' p q = p
alike_test false P Q P' Q' p q = q

abbrev Body : Type 0
Body = List PpToken × List (List ℕ)

alike_body_by : (go go' : Bool → List PpToken → Answers Body) (past : Bool) (ts : List PpToken) (what : Lexed) (names : List (List ℕ)) → ((past : Bool) (ts : List PpToken) → AreAlike (go past ts) (go' past ts))
    → AreAlike (λ z. body_by go past ts what names z) (λ z. body_by go' past ts what names z)
alike_body_by go go' true ts (lexeds.Token t) names h y z d e p q = p ∙ sym q
alike_body_by go go' false ts (lexeds.Token t) names h y z d e p q = alike_test (is_line_end t) (go true ts) (go false (ts ++ t ∷ [])) (go' true ts) (go' false (ts ++ t ∷ [])) (h true ts) (h false (ts ++ t ∷ [])) y z d e p q
alike_body_by go go' true ts lexeds.End names h y z d e p q = p ∙ sym q
alike_body_by go go' false ts lexeds.End names h y z d e p q = p ∙ sym q
alike_body_by go go' true ts (lexeds.Cut cut) names h y z d e p q = p ∙ sym q
alike_body_by go go' false ts (lexeds.Cut cut) names h y z d e p q = p ∙ sym q

alike_body : (n m : ℕ) (past : Bool) (ts : List PpToken) (u : Unread) (names : List (List ℕ)) → AreAlike (body_from n past ts u names) (body_from m past ts u names)
alike_body zero m past ts u names y z d e p q = absurd p
alike_body (suc n) zero past ts u names y z d e p q = absurd q
alike_body (suc n) (suc m) past ts u names y z d e (l, x, p) (l', x', q) =
    alike_body_by (λ past ts. body_from n past ts l'.rest l'.names) (λ past ts. body_from m past ts l'.rest l'.names) past ts l'.what l'.names (λ past ts. alike_body n m past ts l'.rest l'.names) y z d e
    (subst (λ (k : Lexing). body_by (λ past ts. body_from n past ts k.rest k.names) past ts k.what k.names y) (one_lexed false u names l l' x x') p) q

one_body : (names : List (List ℕ)) (text : List ℕ) → HasOne (body_of names text)
one_body names text y z d e (n, p) (m, q) = alike_body n m false [] (unread 0 text) names y z d e p q

one_with_body : (d : Define) (table : Table) (names : List (List ℕ)) → HasOne (with_body d table names)
one_with_body d table names = one_then (learned names d.name) _ (one_learned names d.name) (λ x. one_then (body_of x.1 d.body) _ (one_body x.1 d.body) (λ y. one_behind (of (define table (plain_macro x.0 y.0) place)) (λ more. Ok (more, y.1)) (one_of (define table (plain_macro x.0 y.0) place))))

one_defined : (d : Define) (table : Table) (names : List (List ℕ)) → HasOne (defined d table names)
one_defined d table names = one_test (is_name_class (class_of false d.name)) (with_body d table names) (just (Err (refusals.At faults.DirectiveForm place))) (one_with_body d table names) (one_just (Err (refusals.At faults.DirectiveForm place)))

final_numbered : (number : ℕ) (e : Refusal) → IsFinal (numbered number e) → IsFinal e
final_numbered number (refusals.At code at) h = tt
final_numbered number refusals.OutOfMemory h = h
final_numbered number refusals.ReadFault h = h
final_numbered number _ h = tt

one_by_number : {A : Type 0} (number : ℕ) (P : Answers A) → HasOne P → HasOne (by_number number P)
one_by_number number P h (Ok x) (Ok y) d e p q = h (Ok x) (Ok y) d e p q
one_by_number number P h (Ok x) (Err g) d e p (f, q, a) = let last : IsFinal (numbered number f) = rw a at e in absurd (no_value x f (h (Ok x) (Err f) d (final_numbered number f last) p q))
one_by_number number P h (Err g) (Ok y) d e (f, p, a) q = let last : IsFinal (numbered number f) = rw a at d in absurd (no_value y f (sym (h (Err f) (Ok y) (final_numbered number f last) e p q)))
one_by_number {A} number P h (Err g) (Err g') d e (f, p, a) (f', q, b) =
    let first : IsFinal (numbered number f) = rw a at d in
    let last : IsFinal (numbered number f') = rw b at e in
    let same : f ≡ f' = is_error {A = A} f f' (h (Err f) (Err f') (final_numbered number f first) (final_numbered number f' last) p q) in
    ap (λ (x : Refusal). Err x) (a ∙ (ap (λ (x : Refusal). numbered number x) same ∙ sym b))

one_all_defined : (number : ℕ) (ds : List Define) (table : Table) (names : List (List ℕ)) → HasOne (all_defined number ds table names)
one_all_defined number [] table names = one_just (Ok (table, names))
one_all_defined number (d ∷ ds) table names = one_then (by_number (next_number number) (defined d table names)) _ (one_by_number (next_number number) (defined d table names) (one_defined d table names)) (λ x. one_all_defined (next_number number) ds x.0 x.1)

-- the macros before the first line
pub one_macros : (o : Options) (ds : List Define) (names : List (List ℕ)) → HasOne (macros o ds names)
one_macros o ds names = one_then _ (λ x. all_defined 0 ds x.0 x.1) (one_outcome (initial o names)) (λ x. one_all_defined 0 ds x.0 x.1)
