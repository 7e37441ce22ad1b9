-- Definitions on the command line, in their order, before the first line of a unit.
use Rattle.std.specs.Prelude.{◌≡◌, ℕ, zero, suc, ◌+◌, min, List, [], ◌∷◌, ◌++◌, Bool, true, false, if◌then◌else◌, Option, Some, None, Ok, Err, codes}
use Rattle.c65_base.specs.declared.code.Code.TheVariants as faults
use Rattle.c65_base.specs.declared.names.Name.{Name}
use Rattle.c65_base.specs.declared.refusal.Pos.{Pos}
use Rattle.c65_base.specs.declared.refusal.Refusal.{Refusal}
use Rattle.c65_base.specs.declared.refusal.Refusal.TheVariants as refusals
use Rattle.c65_lex.specs.declared.token.PpKind.{PpKind}
use Rattle.c65_lex.specs.declared.token.PpToken.{PpToken}
use Rattle.c65_lex.specs.Spellings.{class_of}
use Rattle.c65_lex.specs.Unread.{Unread, unread}
use Rattle.c65_macro.specs.declared.item.Macro.{Macro}
use Rattle.c65_macro.specs.Definitions.{define}
use Rattle.c65_macro.specs.Table.{Table, is_name_kind, is_line_end}
use Rattle.c65_ppline.specs.declared.calls.Lexed.{Lexed}
use Rattle.c65_ppline.specs.declared.calls.Lexed.TheVariants as lexeds
use Rattle.c65_lex.specs.declared.define.Define.{Define}
use Rattle.c65_ppline.specs.Lexing.{Lexing, IsLexed}
use Rattle.c65_ppline.specs.Lines.{cut_refusal}
use Rattle.c65_ppline.specs.Relations.{Answers, of, just, by_test, ◌then◌}
use Rattle.c65_ppdir.specs.Standing.{learned}

abbrev pub place : Pos
place = record { file = 0; line = 1 }

-- a definition's text has one line: by so many steps
abbrev pub body_by : (Bool → List PpToken → Answers (List PpToken × List (List ℕ))) → Bool → List PpToken → Lexed → List (List ℕ) → Answers (List PpToken × List (List ℕ))
body_by go true ts (lexeds.Token t) names z = z ≡ Err (refusals.At faults.DirectiveForm place)
body_by go false ts (lexeds.Token t) names z = by_test (is_line_end t) (go true ts) (go false (ts ++ t ∷ [])) z
body_by go past ts lexeds.End names z = z ≡ Ok (ts, names)
body_by go past ts (lexeds.Cut cut) names z = z ≡ Err (cut_refusal cut)

abbrev pub body_from : ℕ → Bool → List PpToken → Unread → List (List ℕ) → Answers (List PpToken × List (List ℕ))
body_from zero past ts u names z = ⊥
body_from (suc n) past ts u names z = (l : Lexing) × IsLexed false u names l × body_by (λ past ts. body_from n past ts l.rest l.names) past ts l.what l.names z

abbrev pub body_of : List (List ℕ) → List ℕ → Answers (List PpToken × List (List ℕ))
body_of names text z = (n : ℕ) × body_from n false [] (unread 0 text) names z

abbrev pub is_name_class : Option PpKind → Bool
is_name_class None = false
is_name_class (Some kind) = is_name_kind kind

abbrev pub plain_macro : Name → List PpToken → Macro
plain_macro name body = record { name = name; params = None; body = body }

abbrev pub with_body : Define → Table → List (List ℕ) → Answers (Table × List (List ℕ))
with_body d table names = learned names d.name then λ x. body_of x.1 d.body then λ y. of (define table (plain_macro x.0 y.0) place) then λ more. just (Ok (more, y.1))

-- one definition
abbrev pub defined : Define → Table → List (List ℕ) → Answers (Table × List (List ℕ))
defined d table names = by_test (is_name_class (class_of false d.name)) (with_body d table names) (just (Err (refusals.At faults.DirectiveForm place)))

-- a fault has the command line as its file, and the definition's number as its line
abbrev pub numbered : ℕ → Refusal → Refusal
numbered number (refusals.At code at) = refusals.Source code (codes "<command>") number
numbered number e = e

abbrev pub by_number : {A : Type 0} → ℕ → Answers A → Answers A
by_number number P (Ok x) = P (Ok x)
by_number number P (Err e) = (fault : Refusal) × P (Err fault) × (e ≡ numbered number fault)

abbrev pub next_number : ℕ → ℕ
next_number n = min (n + 1) 4294967295

-- the definitions behind one of this number
abbrev pub all_defined : ℕ → List Define → Table → List (List ℕ) → Answers (Table × List (List ℕ))
all_defined number [] table names = just (Ok (table, names))
all_defined number (d ∷ ds) table names = by_number (next_number number) (defined d table names) then λ x. all_defined (next_number number) ds x.0 x.1
