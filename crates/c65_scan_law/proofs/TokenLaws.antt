-- Each scanned token has a value in the range of its type, and so have the trees that are derived from them.
use Rattle.std.proofs.Common.{◌≡◌, ℕ, zero, suc, ◌<◌, pos, Bool, true, false, nat_le, if◌then◌else◌, List, [], ◌∷◌, ◌++◌, map, length, slice_get, unwrap_or, Option, Some, None, Result, Ok, Err, subst, arith}
use Rattle.std.proofs.lemmas.Int.{ints}
use Rattle.c65_base.specs.declared.code.Code.{Code}
use Rattle.c65_base.specs.declared.code.Code.TheVariants.{Wide}
use Rattle.c65_base.specs.declared.names.Name.{Name}
use Rattle.c65_base.specs.declared.refusal.Pos.{Pos}
use Rattle.c65_base.specs.declared.refusal.Size.TheVariants.{Literal}
use Rattle.c65_base.specs.Answers.{Fault, large}
use Rattle.c65_ints.specs.declared.types.IntType.{IntType}
use Rattle.c65_ints.specs.declared.types.IntType.TheVariants.{Int}
use Rattle.c65_ints.specs.Ranges.{InRange}
use Rattle.c65_lex.specs.declared.token.PpKind.{PpKind}
use Rattle.c65_lex.specs.declared.token.PpKind.TheVariants as kinds
use Rattle.c65_lex.specs.declared.token.PpToken.{PpToken}
use Rattle.c65_scan.specs.declared.token.Keyword.{Keyword}
use Rattle.c65_scan.specs.declared.token.Punct.{Punct}
use Rattle.c65_scan.specs.declared.token.Token.{Token}
use Rattle.c65_scan.specs.declared.token.TokenKind.TheVariants as tokens
use Rattle.c65_scan.specs.declared.value.Value.{Value}
use Rattle.c65_scan.specs.declared.value.Value.TheVariants as values
use Rattle.c65_scan.specs.Numbers.{number_of}
use Rattle.c65_scan.specs.Chars.{chars_of, only_char, is_wide}
use Rattle.c65_scan.specs.Words.{keyword_of, punct_of}
use Rattle.c65_scan.specs.Tokens.{word, number, char_value, text_value, punct_value, value_of, spelling_in, valued, literal, before, then_token, joined, start, tokens_of}
use Rattle.c65_elab_law.specs.Numbers.{IsRangedToken, AreRangedTokens}
use Rattle.c65_scan_law.specs.Scanned.{AreBytes, AreSpellings, ArePartOf}
use Rattle.c65_scan_law.proofs.NumberLaws.{IsRangedNumber, number_ranged}
use Rattle.c65_scan_law.proofs.CharLaws.{IsByteAnswer, chars_are_bytes, only_is_byte}

abbrev IsRangedValue : Value → Type 0
IsRangedValue (values.Whole kind) = IsRangedToken kind
IsRangedValue _ = Unit {0}

word_ranged : (o : Option Keyword) (n : Name) → IsRangedValue (values.Whole (word o n))
word_ranged (Some k) n = tt
word_ranged None n = tt

constant_ranged : (r : Result (IntType × ℕ) Code) → IsRangedNumber r → IsRangedValue (number r)
constant_ranged (Ok c) h = h
constant_ranged (Err code) h = tt

byte_in_range : (c : ℕ) → c < 256 → InRange Int (pos c)
byte_in_range c h = record { low = omega (arith, ints); high = omega (arith, ints) }

char_ranged : (r : Result ℕ Code) → IsByteAnswer r → IsRangedValue (char_value r)
char_ranged (Ok c) h = byte_in_range c h
char_ranged (Err code) h = tt

text_ranged : (o : Option (List ℕ)) → IsRangedValue (text_value o)
text_ranged (Some bytes) = tt
text_ranged None = tt

punct_ranged : (o : Option Punct) → IsRangedValue (punct_value o)
punct_ranged (Some p) = tt
punct_ranged None = tt

unless_wide : (b : Bool) (v : Value) → IsRangedValue v → IsRangedValue (if b then values.Fault Wide else v)
unless_wide true v h = tt
unless_wide false v h = h

value_ranged : (k : PpKind) (n : Name) (s : List ℕ) → AreBytes s → IsRangedValue (value_of k n s)
value_ranged kinds.LineEnd n s h = tt
value_ranged kinds.Name n s h = word_ranged (keyword_of s) n
value_ranged kinds.Number n s h = constant_ranged (number_of s) (number_ranged s)
value_ranged kinds.Char n s h = unless_wide (is_wide s) _ (char_ranged (only_char (chars_of s)) (only_is_byte (chars_of s) (chars_are_bytes s h)))
value_ranged kinds.Text n s h = unless_wide (is_wide s) _ (text_ranged (chars_of s))
value_ranged kinds.Punct n s h = punct_ranged (punct_of s)
value_ranged kinds.Header n s h = tt
value_ranged kinds.Other n s h = tt

found_bytes : (names : List (List ℕ)) (i : ℕ) → AreSpellings names → AreBytes (unwrap_or (slice_get names i) [])
found_bytes [] i h = tt
found_bytes (s ∷ names) zero h = h.0
found_bytes (s ∷ names) (suc i) h = found_bytes names i h.1

abbrev AreRangedValues : List (Value × Pos) → Type 0
AreRangedValues [] = Unit {0}
AreRangedValues (v ∷ vs) = IsRangedValue v.0 × AreRangedValues vs

values_ranged : (names : List (List ℕ)) (ts : List PpToken) → AreSpellings names → AreRangedValues (map (valued names) ts)
values_ranged names [] h = tt
values_ranged names (x ∷ ts) h = (value_ranged x.kind x.spelling (spelling_in names x.spelling) (found_bytes names x.spelling.0 h), values_ranged names ts h)

abbrev IsRangedAnswer : Result (List Token) Fault → Type 0
IsRangedAnswer (Ok ts) = AreRangedTokens ts
IsRangedAnswer (Err e) = Unit {0}

behind_literal : (w : Option _) (ts : List Token) → AreRangedTokens ts → AreRangedTokens (before w ts)
behind_literal None ts h = h
behind_literal (Some w) ts h = (tt, h)

behind_token : (w : Option _) (x : Token) (r : Result (List Token) Fault) → IsRangedToken x.kind → IsRangedAnswer r → IsRangedAnswer (then_token w x r)
behind_token w x (Ok ts) k h = behind_literal w (x ∷ ts) (k, h)
behind_token w x (Err e) k h = tt

joined_ranged : (w : Option _) (last : Pos) (vs : List (Value × Pos)) → AreRangedValues vs → IsRangedAnswer (joined w last vs)
joined_ranged w last [] h = behind_literal w (record { kind = tokens.End; pos = last } ∷ []) (tt, tt)
joined_ranged w last ((values.Skip, p) ∷ vs) h = joined_ranged w last vs h.1
joined_ranged w last ((values.Fault code, p) ∷ vs) h = tt
joined_ranged w last ((values.Piece bytes, p) ∷ vs) h = tested (joined_ranged (Some (literal w bytes p)) (literal w bytes p).pos vs h.1) (nat_le (length (literal w bytes p).bytes) 4095)
  where
    tested : IsRangedAnswer (joined (Some (literal w bytes p)) (literal w bytes p).pos vs) → (b : Bool) → IsRangedAnswer (if b then joined (Some (literal w bytes p)) (literal w bytes p).pos vs else Err (large Literal 4096))
    tested rest true = rest
    tested rest false = tt
joined_ranged w last ((values.Whole kind, p) ∷ vs) h = behind_token w (record { kind = kind; pos = p }) (joined None p vs) h.0 (joined_ranged None p vs h.1)

pub tokens_ranged : (names : List (List ℕ)) (ts : List PpToken) (tokens : List Token) → AreSpellings names → tokens_of names ts ≡ Ok tokens → AreRangedTokens tokens
tokens_ranged names ts tokens h same = subst IsRangedAnswer same (joined_ranged None start (map (valued names) ts) (values_ranged names ts h))

in_first : (xs ys : List Token) → AreRangedTokens (xs ++ ys) → AreRangedTokens xs
in_first [] ys w = tt
in_first (x ∷ xs) ys w = (w.0, in_first xs ys w.1)

in_second : (xs ys : List Token) → AreRangedTokens (xs ++ ys) → AreRangedTokens ys
in_second [] ys w = w
in_second (x ∷ xs) ys w = in_second xs ys w.1

pub part_ranged : (names : List (List ℕ)) (ts : List PpToken) (xs : List Token) → ArePartOf names ts xs → AreRangedTokens xs
part_ranged names ts xs part = in_second part.before xs (in_first (part.before ++ xs) part.behind (tokens_ranged names ts (part.before ++ xs ++ part.behind) part.spelled part.scanned))
