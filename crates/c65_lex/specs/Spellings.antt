-- The classes of preprocessing tokens, each as a test of whole spellings (C90 6.1).
use Rattle.std.specs.Prelude.{◌≡◌, ℕ, ◌≤◌, List, [], ◌∷◌, length, take, Bool, true, false, ◌==◌, ◌&&◌, ◌||◌, not, nat_le, if◌then◌else◌, Option, Some, None, codes}
use Rattle.c65_lex.specs.declared.token.PpKind.{PpKind}
use Rattle.c65_lex.specs.declared.token.PpKind.TheVariants.{Name, Number, Char, Text, Punct, Header, Other, LineEnd}

abbrev pub among : List ℕ → ℕ → Bool
among [] b = false
among (k ∷ ks) b = (b == k) || among ks b

abbrev pub within : ℕ → ℕ → ℕ → Bool
within low high b = nat_le low b && nat_le b high

abbrev pub are_all : (ℕ → Bool) → List ℕ → Bool
are_all p [] = true
are_all p (b ∷ bs) = p b && are_all p bs

abbrev pub is_empty : List ℕ → Bool
is_empty [] = true
is_empty (b ∷ bs) = false

-- C90 6.1.2, nondigit and digit
abbrev pub is_letter : ℕ → Bool
is_letter b = within 97 122 b || (within 65 90 b || (b == 95))

abbrev pub is_digit : ℕ → Bool
is_digit b = within 48 57 b

abbrev pub is_word : ℕ → Bool
is_word b = is_letter b || is_digit b

-- space, tab, vertical tab and form feed (C90 6.1)
abbrev pub is_white : ℕ → Bool
is_white b = (b == 32) || ((b == 9) || ((b == 11) || (b == 12)))

-- C90 6.1.2: a letter, and then letters and digits
abbrev pub is_name : List ℕ → Bool
is_name [] = false
is_name (b ∷ bs) = is_letter b && are_all is_word bs

-- C90 6.1.8: behind its first digit a number has letters, digits, periods, and signs just behind an e
abbrev pub continues : ℕ → ℕ → Bool
continues before b = (is_word b || (b == 46)) || (((b == 43) || (b == 45)) && ((before == 101) || (before == 69)))

abbrev pub is_tail : ℕ → List ℕ → Bool
is_tail before [] = true
is_tail before (b ∷ bs) = continues before b && is_tail b bs

abbrev pub begins_digit : List ℕ → Bool
begins_digit [] = false
begins_digit (b ∷ bs) = is_digit b

abbrev pub begins_number : ℕ → List ℕ → Bool
begins_number b bs = is_digit b || ((b == 46) && begins_digit bs)

abbrev pub is_number : List ℕ → Bool
is_number [] = false
is_number (b ∷ bs) = begins_number b bs && is_tail b bs

-- What follows an opening quote: up to the first closing quote that no backslash takes, on one line.
-- In a header name, which is plain, a backslash takes nothing.
abbrev pub takes_next : Bool → Bool → ℕ → Bool
takes_next plain taken b = not plain && (not taken && (b == 92))

abbrev pub is_closed : ℕ → Bool → Bool → List ℕ → Bool
is_closed quote plain taken [] = false
is_closed quote plain taken (b ∷ bs) = if b == 10 then false else if not taken && (b == quote) then is_empty bs else is_closed quote plain (takes_next plain taken b) bs

-- C90 6.1.3.4 and 6.1.4: between quotes, with or without the prefix L
abbrev pub is_quoted : ℕ → List ℕ → Bool
is_quoted quote [] = false
is_quoted quote (b ∷ bs) = (b == quote) && is_closed quote false false bs

abbrev pub is_literal : ℕ → List ℕ → Bool
is_literal quote [] = false
is_literal quote (b ∷ bs) = is_quoted quote (b ∷ bs) || ((b == 76) && is_quoted quote bs)

-- C90 6.1.7: between < and >, or between quotes, with a byte at least
abbrev pub header_close : ℕ → ℕ
header_close b = if b == 60 then 62 else b

abbrev pub begins_header : List ℕ → Bool
begins_header [] = false
begins_header (b ∷ []) = false
begins_header (b ∷ c ∷ bs) = ((b == 60) || (b == 34)) && not (c == header_close b)

abbrev pub is_header : List ℕ → Bool
is_header [] = false
is_header (b ∷ bs) = begins_header (b ∷ bs) && is_closed (header_close b) true false bs

-- Where a header name may stand, a quote begins one, and no string literal.
abbrev pub is_header_quote : Bool → List ℕ → Bool
is_header_quote header [] = false
is_header_quote header (b ∷ bs) = (header && (b == 34)) && begins_header (b ∷ bs)

-- C90 6.1.5 and 6.1.6
abbrev pub is_punct1 : ℕ → Bool
is_punct1 b = among (codes "[](){}.&*+-~!/%<>^|?:=,#;") b

abbrev pub is_punct2 : ℕ → ℕ → Bool
is_punct2 b c = ((c == 61) && among (codes "<>=!*/%+-&^|") b) || (((c == b) && among (codes "+-<>&|#") b) || ((b == 45) && (c == 62)))

abbrev pub is_punct3 : ℕ → ℕ → ℕ → Bool
is_punct3 b c d = ((c == b) && (among (codes "<>") b && (d == 61))) || ((b == 46) && ((c == 46) && (d == 46)))

abbrev pub is_punct : List ℕ → Bool
is_punct [] = false
is_punct (b ∷ []) = is_punct1 b
is_punct (b ∷ c ∷ []) = is_punct2 b c
is_punct (b ∷ c ∷ d ∷ []) = is_punct3 b c d
is_punct (b ∷ c ∷ d ∷ e ∷ bs) = false

-- a byte that begins no token of another class, unless it is a quote that has its end on the line
abbrev pub is_stray : ℕ → Bool
is_stray b = not ((b == 10) || (is_white b || (is_word b || is_punct1 b)))

abbrev pub is_other : List ℕ → Bool
is_other [] = false
is_other (b ∷ []) = is_stray b
is_other (b ∷ c ∷ bs) = false

abbrev pub is_line_end : List ℕ → Bool
is_line_end [] = false
is_line_end (b ∷ []) = b == 10
is_line_end (b ∷ c ∷ bs) = false

-- the class of which the bytes are a spelling
abbrev pub class_of : Bool → List ℕ → Option PpKind
class_of header bs = if is_line_end bs then Some LineEnd else if header && is_header bs then Some Header else if is_literal 39 bs then Some Char else if is_literal 34 bs && not (is_header_quote header bs) then Some Text else if is_name bs then Some Name else if is_number bs then Some Number else if is_punct bs then Some Punct else if is_other bs then Some Other else None

-- The first n bytes are a token of this class: a spelling of it, and no more bytes than these are a
-- spelling of any class.
pub record IsToken (header : Bool) (bs : List ℕ) (kind : PpKind) (n : ℕ) : Type 0 where
  pub fits : n ≤ length bs
  pub spelled : class_of header (take n bs) ≡ Some kind
  pub longest : (m : ℕ) (other : PpKind) → m ≤ length bs → class_of header (take m bs) ≡ Some other → m ≤ n
