-- The tokens of a unit (C90 6.1): a class and a value for each preprocessing token, then adjacent literals joined.
use Rattle.std.specs.Prelude.{ℕ, ◌+◌, ◌==◌, ◌||◌, nat_le, if◌then◌else◌, List, [], ◌∷◌, ◌++◌, map, length, slice_get, slice_index_or, Option, Some, None, unwrap_or, Result, Ok, Err}
use Rattle.c65_base.specs.declared.code.Code.{Code}
use Rattle.c65_base.specs.declared.code.Code.TheVariants.{StrayByte, OpenLiteral, BadEscape, Wide}
use Rattle.c65_base.specs.declared.names.Name.{Name}
use Rattle.c65_base.specs.declared.refusal.Pos.{Pos}
use Rattle.c65_base.specs.declared.refusal.Size.TheVariants.{Literal}
use Rattle.c65_base.specs.Answers.{Fault, at, large}
use Rattle.c65_base.specs.Limits.{limit_of}
use Rattle.c65_ints.specs.declared.types.IntType.{IntType}
use Rattle.c65_ints.specs.declared.types.IntType.TheVariants.{Int}
use Rattle.c65_lex.specs.declared.token.PpKind.{PpKind}
use Rattle.c65_lex.specs.declared.token.PpKind.TheVariants as kinds
use Rattle.c65_lex.specs.declared.token.PpToken.{PpToken}
use Rattle.c65_scan.specs.declared.scanner.Waiting.{Waiting}
use Rattle.c65_scan.specs.declared.token.Keyword.{Keyword}
use Rattle.c65_scan.specs.declared.token.Punct.{Punct}
use Rattle.c65_scan.specs.declared.token.Token.{Token}
use Rattle.c65_scan.specs.declared.token.TokenKind.{TokenKind}
use Rattle.c65_scan.specs.declared.token.TokenKind.TheVariants as tokens
use Rattle.c65_scan.specs.declared.value.Value.{Value}
use Rattle.c65_scan.specs.declared.value.Value.TheVariants as values
use Rattle.c65_scan.specs.Words.{keyword_of, punct_of}
use Rattle.c65_scan.specs.Numbers.{number_of}
use Rattle.c65_scan.specs.Chars.{chars_of, only_char, is_wide}

abbrev pub word : Option Keyword → Name → TokenKind
word (Some k) n = tokens.Keyword k
word None n = tokens.Name n

abbrev pub number : Result (IntType × ℕ) Code → Value
number (Ok c) = values.Whole (tokens.Number c.0 c.1)
number (Err code) = values.Fault code

-- a character constant has type int, and the value of its byte
abbrev pub char_value : Result ℕ Code → Value
char_value (Ok c) = values.Whole (tokens.Number Int c)
char_value (Err code) = values.Fault code

abbrev pub text_value : Option (List ℕ) → Value
text_value (Some bytes) = values.Piece bytes
text_value None = values.Fault BadEscape

abbrev pub punct_value : Option Punct → Value
punct_value (Some p) = values.Whole (tokens.Punct p)
punct_value None = values.Fault StrayByte

-- a token Other is a stray byte, or a quote without its end
abbrev pub other_fault : List ℕ → Code
other_fault s = if (slice_index_or s 0 0 == 34) || (slice_index_or s 0 0 == 39) then OpenLiteral else StrayByte

-- class and value of a preprocessing token
abbrev pub value_of : PpKind → Name → List ℕ → Value
value_of kinds.LineEnd n s = values.Skip
value_of kinds.Name n s = values.Whole (word (keyword_of s) n)
value_of kinds.Number n s = number (number_of s)
value_of kinds.Char n s = if is_wide s then values.Fault Wide else char_value (only_char (chars_of s))
value_of kinds.Text n s = if is_wide s then values.Fault Wide else text_value (chars_of s)
value_of kinds.Punct n s = punct_value (punct_of s)
value_of kinds.Header n s = values.Fault StrayByte
value_of kinds.Other n s = values.Fault (other_fault s)

-- the spelling of a name; none for a name of another table
abbrev pub spelling_in : List (List ℕ) → Name → List ℕ
spelling_in names n = unwrap_or (slice_get names n.0) []

abbrev pub valued : List (List ℕ) → PpToken → Value × Pos
valued names t = (value_of t.kind t.spelling (spelling_in names t.spelling), t.pos)

-- a literal after one that waits is joined to it, at the place of the first
abbrev pub literal : Option Waiting → List ℕ → Pos → Waiting
literal None bytes p = record { bytes = bytes; pos = p }
literal (Some w) bytes p = record { bytes = w.bytes ++ bytes; pos = w.pos }

abbrev pub before : Option Waiting → List Token → List Token
before None ts = ts
before (Some w) ts = record { kind = tokens.Text w.bytes; pos = w.pos } ∷ ts

abbrev pub then_token : Option Waiting → Token → Result (List Token) Fault → Result (List Token) Fault
then_token w t (Ok ts) = Ok (before w (t ∷ ts))
then_token w t (Err e) = Err e

-- the tokens of the values, after a literal that waits and a token at this place
abbrev pub joined : Option Waiting → Pos → List (Value × Pos) → Result (List Token) Fault
joined w last [] = Ok (before w (record { kind = tokens.End; pos = last } ∷ []))
joined w last ((values.Skip, p) ∷ vs) = joined w last vs
joined w last ((values.Fault code, p) ∷ vs) = Err (at code p)
joined w last ((values.Piece bytes, p) ∷ vs) = if nat_le (length (literal w bytes p).bytes) (limit_of Literal) then joined (Some (literal w bytes p)) (literal w bytes p).pos vs else Err (large Literal (limit_of Literal + 1))
joined w last ((values.Whole kind, p) ∷ vs) = then_token w (record { kind = kind; pos = p }) (joined None p vs)

-- line 1 of the first file
abbrev pub start : Pos
start = record { file = 0; line = 1 }

abbrev pub tokens_of : List (List ℕ) → List PpToken → Result (List Token) Fault
tokens_of names ts = joined None start (map (valued names) ts)
