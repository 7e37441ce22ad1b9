-- What `printf` writes, read from its format byte by byte, as its lines do: each field takes its argument off the end of what is left
-- of the block (C90 7.9.6.1).
use Rattle.std.specs.Prelude.{◌≡◌, ℕ, ◌-◌, if◌then◌else◌, nat_lt, List, [], ◌∷◌, ◌++◌, Option, Some, None, length, take, drop, map}
use Rattle.std.specs.Option.{option_map}
use Rattle.c65_base.specs.Formats.{Form, string, form_bytes, Part, plain, field, Stage, outside, Met, leads, gives, stray, met, Argument, number, text, number_from, form_text, wide, text_by, pointers_by}
use Rattle.c65_code.specs.LineState.{Bytes}
use Rattle.c65_code.specs.Texts.{text_at}

-- the argument of a conversion: a number, or the text that it points to
abbrev pub argument : Form → ℕ → Bytes → Argument
argument string n m = text (text_at n m)
argument f n m = number n

-- a part, and what is written behind it, with the block that is left
abbrev pub printed_part : Part → List ℕ → (List ℕ → Option (List ℕ)) → Bytes → Option (List ℕ)
printed_part (plain b) block rest m = option_map (λ t. b ∷ t) (rest block)
printed_part (field w f) block rest m =
    let left = length block - form_bytes f in
    if nat_lt (length block) (form_bytes f) then None else option_map (λ t. wide w (form_text f (argument f (number_from (drop left block)) m)) ++ t) (rest (take left block))

abbrev pub printed_on : Met → (Stage → List ℕ → Option (List ℕ)) → List ℕ → Bytes → Option (List ℕ)
printed_on (leads s) rest block m = rest s block
printed_on (gives p) rest block m = printed_part p block (rest outside) m
printed_on stray rest block m = None

-- what is written from a stage on, by the bytes of the format that are left
abbrev pub printed_from : Stage → List ℕ → List ℕ → Bytes → Option (List ℕ)
printed_from outside [] block m = Some []
printed_from _ [] block m = None
printed_from s (b ∷ bs) block m = printed_on (met s b) (λ next left. printed_from next bs left m) block m

-- It is the text of the format, where the texts are those that the pointers among the arguments name.
abbrev pub FormatsAreRead : Type 0
FormatsAreRead = (format block : List ℕ) (m : Bytes) → text_by format block (map (λ at. text_at at m) (pointers_by format block)) ≡ printed_from outside format block m
