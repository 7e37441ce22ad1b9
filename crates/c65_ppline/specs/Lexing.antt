-- What is read next of a text, with the spellings known then (C90 5.1.1.2, phase 3).
use Rattle.std.specs.Prelude.{◌≡◌, ℕ, List, Bool, Result, Ok, Err}
use Rattle.c65_base.specs.declared.names.Name.{Name}
use Rattle.c65_base.specs.declared.refusal.Refusal.{Refusal}
use Rattle.c65_base.specs.declared.refusal.Refusal.TheVariants as refusals
use Rattle.c65_base.specs.declared.refusal.Size.{Size}
use Rattle.c65_base.specs.declared.refusal.Size.TheVariants as sizes
use Rattle.c65_lex.specs.declared.token.PpKind.{PpKind}
use Rattle.c65_lex.specs.declared.token.PpToken.{PpToken}
use Rattle.c65_lex.specs.Cells.{Cell}
use Rattle.c65_lex.specs.Next.{Next, ended, open_comment, long_line, token, IsNext}
use Rattle.c65_lex.specs.Unread.{Unread}
use Rattle.c65_macro.specs.Items.{Outcome, unfinished, faulty, done, learn}
use Rattle.c65_ppline.specs.declared.calls.Lexed.{Lexed}
use Rattle.c65_ppline.specs.declared.calls.Lexed.TheVariants as kinds
use Rattle.c65_ppline.specs.declared.line.Cut.{Cut}
use Rattle.c65_ppline.specs.declared.line.Cut.TheVariants as cuts

-- what was read, what is left, and the spellings known then
pub record Lexing : Type 0 where
  pub what : Lexed
  pub rest : Unread
  pub names : List (List ℕ)

abbrev pub lexing : Lexed → Unread → List (List ℕ) → Lexing
lexing what rest names = record { what = what; rest = rest; names = names }

abbrev pub token_of : ℕ → PpKind → Name → ℕ → Bool → PpToken
token_of file kind name line space = record { kind = kind; spelling = name; pos = record { file = file; line = line }; space = space }

-- a token has the name of its spelling; one spelling too many cuts the text off
abbrev pub named : Unread → List (List ℕ) → PpKind → ℕ → Bool → List Cell → Outcome Name → Lexing
named old names kind line space rest unfinished = lexing (kinds.Cut cuts.Names) old names
named old names kind line space rest (faulty fault) = lexing (kinds.Cut cuts.Names) old names
named old names kind line space rest (done known name) = lexing (kinds.Token (token_of old.file kind name line space)) (record { file = old.file; cells = rest }) known

abbrev pub lexed : Unread → List (List ℕ) → Next → Lexing
lexed old names ended = lexing kinds.End old names
lexed old names (open_comment line) = lexing (kinds.Cut (cuts.OpenComment (record { file = old.file; line = line }))) old names
lexed old names long_line = lexing (kinds.Cut cuts.LongLine) old names
lexed old names (token kind spelling line space rest) = named old names kind line space rest (learn names spelling)

-- what is read next
abbrev pub IsLexed : Bool → Unread → List (List ℕ) → Lexing → Type 0
IsLexed header old names l = (next : Next) × IsNext header old.cells next × (l ≡ lexed old names next)

-- why the lexer may refuse: what cuts the text off, or want of memory
abbrev pub cut_by_size : Size → Cut
cut_by_size sizes.Line = cuts.LongLine
cut_by_size _ = cuts.Names

abbrev pub lexed_refusal : Refusal → Result Lexed Refusal
lexed_refusal (refusals.At code place) = Ok (kinds.Cut (cuts.OpenComment place))
lexed_refusal (refusals.TooLarge limit value) = Ok (kinds.Cut (cut_by_size limit))
lexed_refusal _ = Err refusals.OutOfMemory
