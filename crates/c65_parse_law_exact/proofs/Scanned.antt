-- Scanned tokens end once: so of what the scanner gives the grammar alone tells what the parser answers.
use Rattle.std.proofs.Common.{◌≡◌, ℕ, List, [], ◌∷◌, map, length, Bool, true, false, nat_le, if◌then◌else◌, Option, Some, None, Result, Ok, Err, refl, subst}
use Rattle.c65_base.specs.Answers.{Fault, at, large, Gives}
use Rattle.c65_base.specs.declared.code.Code.{Code}
use Rattle.c65_base.specs.declared.code.Code.TheVariants.{Wide}
use Rattle.c65_base.specs.declared.names.Name.{Name}
use Rattle.c65_base.specs.declared.refusal.Pos.{Pos}
use Rattle.c65_base.specs.declared.refusal.Size.TheVariants.{Literal}
use Rattle.c65_ints.specs.declared.types.IntType.{IntType}
use Rattle.c65_lex.specs.declared.token.PpKind.{PpKind}
use Rattle.c65_lex.specs.declared.token.PpKind.TheVariants as kinds
use Rattle.c65_lex.specs.declared.token.PpToken.{PpToken}
use Rattle.c65_scan.specs.declared.token.Keyword.{Keyword}
use Rattle.c65_scan.specs.declared.token.Punct.{Punct}
use Rattle.c65_scan.specs.declared.token.Token.{Token}
use Rattle.c65_scan.specs.declared.token.TokenKind.TheVariants as tokens
use Rattle.c65_scan.specs.declared.value.Value.{Value}
use Rattle.c65_scan.specs.declared.value.Value.TheVariants as values
use Rattle.c65_scan.specs.Numbers.{number_of}
use Rattle.c65_scan.specs.Chars.{chars_of, only_char, is_wide}
use Rattle.c65_scan.specs.Words.{keyword_of, punct_of}
use Rattle.c65_scan.specs.Tokens.{word, number, char_value, text_value, punct_value, value_of, spelling_in, valued, literal, before, then_token, joined, start}
use Rattle.c65_tree.specs.Trees as t
use Rattle.c65_decl.specs.Units.{unit_read}
use Rattle.c65_parse_law_sound.specs.Units.{EndsOnce}
use Rattle.c65_parse_law_exact.specs.Scanned.{ScannedTokensEndOnce, refused, ScannedUnitsAreRead}
use Rattle.c65_parse_law_exact.proofs.Exact.{reads_unit}

-- no value is an end
abbrev NoEnd : Value → Type 0
NoEnd (values.Whole tokens.End) = ⊥
NoEnd _ = Unit {0}

word_goes : (o : Option Keyword) (n : Name) → NoEnd (values.Whole (word o n))
word_goes (Some k) n = tt
word_goes None n = tt

number_goes : (r : Result (IntType × ℕ) Code) → NoEnd (number r)
number_goes (Ok c) = tt
number_goes (Err code) = tt

char_goes : (r : Result ℕ Code) → NoEnd (char_value r)
char_goes (Ok c) = tt
char_goes (Err code) = tt

text_goes : (o : Option (List ℕ)) → NoEnd (text_value o)
text_goes (Some bytes) = tt
text_goes None = tt

punct_goes : (o : Option Punct) → NoEnd (punct_value o)
punct_goes (Some p) = tt
punct_goes None = tt

unless_wide : (b : Bool) (v : Value) → NoEnd v → NoEnd (if b then values.Fault Wide else v)
unless_wide true v h = tt
unless_wide false v h = h

value_goes : (k : PpKind) (n : Name) (s : List ℕ) → NoEnd (value_of k n s)
value_goes kinds.LineEnd n s = tt
value_goes kinds.Name n s = word_goes (keyword_of s) n
value_goes kinds.Number n s = number_goes (number_of s)
value_goes kinds.Char n s = unless_wide (is_wide s) (char_value (only_char (chars_of s))) (char_goes (only_char (chars_of s)))
value_goes kinds.Text n s = unless_wide (is_wide s) (text_value (chars_of s)) (text_goes (chars_of s))
value_goes kinds.Punct n s = punct_goes (punct_of s)
value_goes kinds.Header n s = tt
value_goes kinds.Other n s = tt

abbrev NoEnds : List (Value × Pos) → Type 0
NoEnds [] = Unit {0}
NoEnds (v ∷ vs) = NoEnd v.0 × NoEnds vs

values_go : (names : List (List ℕ)) (ts : List PpToken) → NoEnds (map (valued names) ts)
values_go names [] = tt
values_go names (tok ∷ ts) = (value_goes tok.kind tok.spelling (spelling_in names tok.spelling), values_go names ts)

-- the last of the tokens is their only end
abbrev End : Result (List Token) Fault → Type 0
End (Ok ts) = EndsOnce ts
End (Err e) = Unit {0}

one_before : (tok : Token) (ts : List Token) → (tok.kind ≡ tokens.End → ⊥) → EndsOnce ts → EndsOnce (tok ∷ ts)
one_before tok [] other h = absurd h
one_before tok (next ∷ ts) other h = (other, h)

waiting_before : (w : Option _) (ts : List Token) → EndsOnce ts → EndsOnce (before w ts)
waiting_before None ts h = h
waiting_before (Some w) ts h = one_before (record { kind = tokens.Text w.bytes; pos = w.pos }) ts (λ e. cc) h

token_before : (w : Option _) (tok : Token) (r : Result (List Token) Fault) → (tok.kind ≡ tokens.End → ⊥) → End r → End (then_token w tok r)
token_before w tok (Ok ts) other h = waiting_before w (tok ∷ ts) (one_before tok ts other h)
token_before w tok (Err e) other h = tt

if_short : (b : Bool) (r : Result (List Token) Fault) → End r → End (if b then r else Err (large Literal 4096))
if_short true r h = h
if_short false r h = tt

joined_ends : (vs : List (Value × Pos)) → NoEnds vs → (w : Option _) (last : Pos) → End (joined w last vs)
joined_ends [] h w last = waiting_before w (record { kind = tokens.End; pos = last } ∷ []) refl
joined_ends ((values.Skip, p) ∷ vs) h w last = joined_ends vs h.1 w last
joined_ends ((values.Fault code, p) ∷ vs) h w last = tt
joined_ends ((values.Piece bytes, p) ∷ vs) h w last = if_short (nat_le (length (literal w bytes p).bytes) 4095) (joined (Some (literal w bytes p)) (literal w bytes p).pos vs) (joined_ends vs h.1 (Some (literal w bytes p)) (literal w bytes p).pos)
joined_ends ((values.Whole kind, p) ∷ vs) h w last = token_before w (record { kind = kind; pos = p }) (joined None p vs) (λ e. subst (λ k. NoEnd (values.Whole k)) e h.0) (joined_ends vs h.1 None p)

pub scanned_tokens_end_once : ScannedTokensEndOnce
scanned_tokens_end_once names ts all e = subst End e (joined_ends (map (valued names) ts) (values_go names ts) None start)

-- what a definition answers is a refusal too
gives : (r : Result t.UnitTree Fault) → Gives (λ u. u) (refused r) r
gives (Ok unit) = refl
gives (Err (at code pos)) = refl
gives (Err (large size value)) = refl

pub scanned_units_are_read : ScannedUnitsAreRead
scanned_units_are_read names ts all e = reads_unit (λ u. u) (refused (unit_read 256 all)) all (scanned_tokens_end_once names ts all e) (gives (unit_read 256 all))
