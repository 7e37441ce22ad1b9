-- The text that `printf` writes (C90 7.9.6.1), for these formats alone. A byte other than `%` and zero stands for itself. Behind
-- `%` comes `%`, which stands for itself, or a field: a width from 1 to 99 without a leading zero, or none, and one of the
-- conversions d, u, x, ld, lu, c and s.
use Rattle.std.specs.Prelude.{ℕ, ◌+◌, ◌-◌, ◌*◌, ◌/◌, ◌%◌, ◌^◌, ◌==◌, ◌&&◌, false, if◌then◌else◌, nat_lt, nat_le, List, [], ◌∷◌, ◌++◌, Option, Some, None, length, take, drop, replicate, option_and_then}
use Rattle.std.specs.Option.{option_map, unwrap_or}
use Rattle.std.specs.Fmt.{decimal, digits}

-- what a conversion writes
pub data Form : Type 0 where
  signed : Form
  unsigned : Form
  hexadecimal : Form
  signed_long : Form
  unsigned_long : Form
  character : Form
  string : Form

-- how many bytes its argument has
abbrev pub form_bytes : Form → ℕ
form_bytes signed_long = 4
form_bytes unsigned_long = 4
form_bytes _ = 2

-- a part of a format: a byte that stands for itself, or a field, where a width of 0 stands for none
pub data Part : Type 0 where
  plain : (byte : ℕ) → Part
  field : (width : ℕ) (form : Form) → Part

-- ---- reading a format

-- where in a format a byte stands: outside of fields, behind `%`, behind a width, or behind the letter l
pub data Stage : Type 0 where
  outside : Stage
  begun : Stage
  sized : (width : ℕ) → Stage
  longer : (width : ℕ) → Stage

-- what a byte does: it leads to a stage, it makes a part whole, or it cannot stand there
pub data Met : Type 0 where
  leads : Stage → Met
  gives : Part → Met
  stray : Met

abbrev pub whole_field : ℕ → Option Form → Met
whole_field w None = stray
whole_field w (Some f) = gives (field w f)

-- the conversion of a letter (d, u, x, c, s), and of one behind l (d, u)
abbrev pub short_form : ℕ → Option Form
short_form b = if b == 100 then Some signed else if b == 117 then Some unsigned else if b == 120 then Some hexadecimal else if b == 99 then Some character else if b == 115 then Some string else None

abbrev pub long_form : ℕ → Option Form
long_form b = if b == 100 then Some signed_long else if b == 117 then Some unsigned_long else None

-- a letter behind a width: 108 is l
abbrev pub met_letter : ℕ → ℕ → Met
met_letter w b = if b == 108 then leads (longer w) else whole_field w (short_form b)

-- 37 is `%`, and 48 to 57 are the digits
abbrev pub met : Stage → ℕ → Met
met outside b = if b == 37 then leads begun else gives (plain b)
met begun b = if b == 37 then gives (plain 37) else if nat_le 49 b && nat_le b 57 then leads (sized (b - 48)) else met_letter 0 b
met (sized w) b = if nat_lt w 10 && (nat_le 48 b && nat_le b 57) then leads (sized (10 * w + (b - 48))) else met_letter w b
met (longer w) b = whole_field w (long_form b)

-- what a byte does, and then what the bytes behind it are from a stage on
abbrev pub behind : Met → (Stage → Option (List Part)) → Option (List Part)
behind (leads s) rest = rest s
behind (gives p) rest = option_map (λ ps. p ∷ ps) (rest outside)
behind stray rest = None

abbrev pub parts_from : Stage → List ℕ → Option (List Part)
parts_from outside [] = Some []
parts_from _ [] = None
parts_from s (b ∷ bs) = behind (met s b) (λ next. parts_from next bs)

-- the parts of a text that is a format
abbrev pub parts_of : List ℕ → Option (List Part)
parts_of format = parts_from outside format

-- ---- the arguments

-- a number by its bytes, as an unsigned one, or the text that a pointer names
pub data Argument : Type 0 where
  number : ℕ → Argument
  text : List ℕ → Argument

-- how many bytes the arguments of a format have
abbrev pub argument_bytes : List Part → ℕ
argument_bytes [] = 0
argument_bytes (plain b ∷ ps) = argument_bytes ps
argument_bytes (field w f ∷ ps) = form_bytes f + argument_bytes ps

-- the number that bytes stand for, the lowest first
abbrev pub number_from : List ℕ → ℕ
number_from [] = 0
number_from (b ∷ bs) = b + 256 * number_from bs

-- What the fields take from a block of arguments, in which the first one ends at the block's end; none where one is lacking.
abbrev pub numbers_in : List Part → List ℕ → Option (List ℕ)
numbers_in [] block = Some []
numbers_in (plain b ∷ ps) block = numbers_in ps block
numbers_in (field w f ∷ ps) block =
    let left = length block - form_bytes f in
    if nat_lt (length block) (form_bytes f) then None else option_map (λ ns. number_from (drop left block) ∷ ns) (numbers_in ps (take left block))

-- those of the numbers that are pointers to texts
abbrev pub pointers_in : List Part → List ℕ → List ℕ
pointers_in (field w string ∷ ps) (n ∷ ns) = n ∷ pointers_in ps ns
pointers_in (field w f ∷ ps) (n ∷ ns) = pointers_in ps ns
pointers_in (plain b ∷ ps) ns = pointers_in ps ns
pointers_in _ _ = []

-- The arguments: a text for each pointer, in order, and the other numbers; none where a text is lacking.
abbrev pub arguments_in : List Part → List ℕ → List (List ℕ) → Option (List Argument)
arguments_in (field w string ∷ ps) (n ∷ ns) [] = None
arguments_in (field w string ∷ ps) (n ∷ ns) (t ∷ strings) = option_map (λ given. text t ∷ given) (arguments_in ps ns strings)
arguments_in (field w f ∷ ps) (n ∷ ns) strings = option_map (λ given. number n ∷ given) (arguments_in ps ns strings)
arguments_in (plain b ∷ ps) ns strings = arguments_in ps ns strings
arguments_in _ _ strings = Some []

-- ---- the text

-- a number of so many values as a signed one: the upper half is negative, and 45 is the minus sign
abbrev pub signed_text : ℕ → ℕ → List ℕ
signed_text values n = if nat_lt n (values / 2) then decimal n else 45 ∷ decimal (values - n)

-- the text of an argument; of one that is not of the conversion's kind there is none
abbrev pub form_text : Form → Argument → List ℕ
form_text signed (number n) = signed_text (2 ^ 16) n
form_text unsigned (number n) = decimal n
form_text hexadecimal (number n) = digits 16 false n
form_text signed_long (number n) = signed_text (2 ^ 32) n
form_text unsigned_long (number n) = decimal n
form_text character (number n) = n % 256 ∷ []
form_text string (text t) = t
form_text _ _ = []

-- a text that is shorter than the width has spaces before it, and a longer one is whole
abbrev pub wide : ℕ → List ℕ → List ℕ
wide w t = replicate (w - length t) 32 ++ t

-- what the parts write; none where an argument is lacking
abbrev pub text_of : List Part → List Argument → Option (List ℕ)
text_of [] given = Some []
text_of (plain b ∷ ps) given = option_map (λ t. b ∷ t) (text_of ps given)
text_of (field w f ∷ ps) [] = None
text_of (field w f ∷ ps) (a ∷ given) = option_map (λ t. wide w (form_text f a) ++ t) (text_of ps given)

-- the text of a format, with a block of arguments and the texts that its pointers name
abbrev pub text_by : List ℕ → List ℕ → List (List ℕ) → Option (List ℕ)
text_by format block strings = option_and_then (λ ps. option_and_then (λ ns. option_and_then (λ given. text_of ps given) (arguments_in ps ns strings)) (numbers_in ps block)) (parts_of format)

-- the pointers to those texts, and how many bytes of the block are taken
abbrev pub pointers_by : List ℕ → List ℕ → List ℕ
pointers_by format block = unwrap_or (option_and_then (λ ps. option_map (pointers_in ps) (numbers_in ps block)) (parts_of format)) []

abbrev pub taken_by : List ℕ → ℕ
taken_by format = unwrap_or (option_map argument_bytes (parts_of format)) 0
