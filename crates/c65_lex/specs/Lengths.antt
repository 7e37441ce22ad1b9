-- How far the token that begins here goes, by one look from its first byte on.
use Rattle.std.specs.Prelude.{ℕ, ◌+◌, List, [], ◌∷◌, Bool, true, false, ◌==◌, ◌&&◌, ◌||◌, not, if◌then◌else◌, Option, Some, None}
use Rattle.c65_lex.specs.declared.token.PpKind.{PpKind}
use Rattle.c65_lex.specs.declared.token.PpKind.TheVariants.{Name, Number, Char, Text, Punct, Header, Other, LineEnd}
use Rattle.c65_lex.specs.Spellings.{is_letter, is_word, continues, begins_number, takes_next, begins_header, header_close, is_punct1, is_punct2, is_punct3}

abbrev pub first : List ℕ → Option ℕ
first [] = None
first (b ∷ bs) = Some b

-- each counts on from n
abbrev pub run_from : ℕ → (ℕ → Bool) → List ℕ → ℕ
run_from n p [] = n
run_from n p (b ∷ bs) = if p b then run_from (n + 1) p bs else n

abbrev pub tail_from : ℕ → ℕ → List ℕ → ℕ
tail_from n before [] = n
tail_from n before (b ∷ bs) = if continues before b then tail_from (n + 1) b bs else n

-- where the closing quote stands
abbrev pub close_from : ℕ → ℕ → Bool → Bool → List ℕ → Option ℕ
close_from n quote plain taken [] = None
close_from n quote plain taken (b ∷ bs) = if b == 10 then None else if not taken && (b == quote) then Some (n + 1) else close_from (n + 1) quote plain (takes_next plain taken b) bs

abbrev pub with_kind : PpKind → Option ℕ → Option (PpKind × ℕ)
with_kind kind None = None
with_kind kind (Some n) = Some (kind, n)

abbrev pub quote_kind : ℕ → PpKind
quote_kind b = if b == 39 then Char else Text

-- a literal whose quote stands behind n bytes
abbrev pub quoted_of : ℕ → List ℕ → Option (PpKind × ℕ)
quoted_of n [] = None
quoted_of n (b ∷ bs) = if (b == 39) || (b == 34) then with_kind (quote_kind b) (close_from (n + 1) b false false bs) else None

abbrev pub literal_of : List ℕ → Option (PpKind × ℕ)
literal_of [] = None
literal_of (b ∷ bs) = if b == 76 then quoted_of 1 bs else quoted_of 0 (b ∷ bs)

abbrev pub header_of : List ℕ → Option (PpKind × ℕ)
header_of [] = None
header_of (b ∷ bs) = if begins_header (b ∷ bs) then with_kind Header (close_from 1 (header_close b) true false bs) else None

abbrev pub punct_length : List ℕ → ℕ
punct_length [] = 0
punct_length (b ∷ []) = if is_punct1 b then 1 else 0
punct_length (b ∷ c ∷ []) = if is_punct2 b c then 2 else if is_punct1 b then 1 else 0
punct_length (b ∷ c ∷ d ∷ bs) = if is_punct3 b c d then 3 else if is_punct2 b c then 2 else if is_punct1 b then 1 else 0

abbrev pub punct_or_other : ℕ → PpKind × ℕ
punct_or_other n = if n == 0 then (Other, 1) else (Punct, n)

-- a token that is no literal and no header name
abbrev pub bare_of : ℕ → List ℕ → PpKind × ℕ
bare_of b bs = if b == 10 then (LineEnd, 1) else if is_letter b then (Name, run_from 1 is_word bs) else if begins_number b bs then (Number, tail_from 1 b bs) else punct_or_other (punct_length (b ∷ bs))

abbrev pub or_else : Option (PpKind × ℕ) → PpKind × ℕ → PpKind × ℕ
or_else None t = t
or_else (Some s) t = s

-- the class and the length of the token that begins with this byte
abbrev pub token_of : Bool → ℕ → List ℕ → PpKind × ℕ
token_of header b bs = or_else (if header then header_of (b ∷ bs) else None) (or_else (literal_of (b ∷ bs)) (bare_of b bs))
