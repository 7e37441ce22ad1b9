-- The text of a format, byte by byte.
use Rattle.std.proofs.Common.{◌≡◌, ℕ, ◌-◌, Bool, true, false, List, [], ◌∷◌, ◌++◌, Option, Some, None, length, refl, ap, ◌∙◌}
use Rattle.std.specs.Prelude.{if◌then◌else◌, nat_lt, take, drop, map, option_and_then}
use Rattle.std.specs.Option.{option_map, unwrap_or}
use Rattle.c65_base.specs.Formats.{Form, signed, unsigned, hexadecimal, signed_long, unsigned_long, character, string, form_bytes, Part, plain, field, Stage, outside, begun, sized, longer, Met, leads, gives, stray, met, behind, parts_from, parts_of, Argument, number, text, number_from, numbers_in, pointers_in, arguments_in, form_text, wide, text_of}
use Rattle.c65_code.specs.LineState.{Bytes}
use Rattle.c65_code.specs.Texts.{text_at}
use Rattle.c65_rtl_law_printf.specs.Reading.{argument, printed_part, printed_on, printed_from, FormatsAreRead}

-- the texts at some addresses
abbrev texts : List ℕ → Bytes → List (List ℕ)
texts places m = map (λ at. text_at at m) places

abbrev parts_text : List Part → List ℕ → Bytes → Option (List ℕ)
parts_text [] block m = Some []
parts_text (p ∷ ps) block m = printed_part p block (λ left. parts_text ps left m) m

abbrev text_with : List Part → Option (List ℕ) → Bytes → Option (List ℕ)
text_with ps None m = None
text_with ps (Some ns) m = option_and_then (λ given. text_of ps given) (arguments_in ps ns (texts (pointers_in ps ns) m))

-- ---- a part more

plain_more : (b : ℕ) (ps : List Part) (given : Option (List Argument)) → option_and_then (λ given. text_of (plain b ∷ ps) given) given ≡ option_map (λ t. b ∷ t) (option_and_then (λ given. text_of ps given) given)
plain_more b ps None = refl
plain_more b ps (Some given) = refl

field_more : (w : ℕ) (f : Form) (ps : List Part) (a : Argument) (given : Option (List Argument))
    → option_and_then (λ given. text_of (field w f ∷ ps) given) (option_map (λ given. a ∷ given) given) ≡ option_map (λ t. wide w (form_text f a) ++ t) (option_and_then (λ given. text_of ps given) given)
field_more w f ps a None = refl
field_more w f ps a (Some given) = refl

plain_with : (b : ℕ) (ps : List Part) (ns : Option (List ℕ)) (m : Bytes) → text_with (plain b ∷ ps) ns m ≡ option_map (λ t. b ∷ t) (text_with ps ns m)
plain_with b ps None m = refl
plain_with b ps (Some ns) m = plain_more b ps (arguments_in ps ns (texts (pointers_in ps ns) m))

field_with : (w : ℕ) (f : Form) (ps : List Part) (n : ℕ) (ns : Option (List ℕ)) (m : Bytes)
    → text_with (field w f ∷ ps) (option_map (λ ns. n ∷ ns) ns) m ≡ option_map (λ t. wide w (form_text f (argument f n m)) ++ t) (text_with ps ns m)
field_with w f ps n None m = refl
field_with w signed ps n (Some ns) m = field_more w signed ps (number n) (arguments_in ps ns (texts (pointers_in ps ns) m))
field_with w unsigned ps n (Some ns) m = field_more w unsigned ps (number n) (arguments_in ps ns (texts (pointers_in ps ns) m))
field_with w hexadecimal ps n (Some ns) m = field_more w hexadecimal ps (number n) (arguments_in ps ns (texts (pointers_in ps ns) m))
field_with w signed_long ps n (Some ns) m = field_more w signed_long ps (number n) (arguments_in ps ns (texts (pointers_in ps ns) m))
field_with w unsigned_long ps n (Some ns) m = field_more w unsigned_long ps (number n) (arguments_in ps ns (texts (pointers_in ps ns) m))
field_with w character ps n (Some ns) m = field_more w character ps (number n) (arguments_in ps ns (texts (pointers_in ps ns) m))
field_with w string ps n (Some ns) m = field_more w string ps (text (text_at n m)) (arguments_in ps ns (texts (pointers_in ps ns) m))

field_given : (w : ℕ) (f : Form) (ps : List Part) (n : ℕ) (ns : Option (List ℕ)) (m : Bytes) (lacks : Bool)
    → text_with (field w f ∷ ps) (if lacks then None else option_map (λ ns. n ∷ ns) ns) m ≡ (if lacks then None else option_map (λ t. wide w (form_text f (argument f n m)) ++ t) (text_with ps ns m))
field_given w f ps n ns m true = refl
field_given w f ps n ns m false = field_with w f ps n ns m

given_text : (ps : List Part) (block : List ℕ) (m : Bytes) → text_with ps (numbers_in ps block) m ≡ parts_text ps block m
given_text [] block m = refl
given_text (plain b ∷ ps) block m = plain_with b ps (numbers_in ps block) m ∙ ap (option_map (λ t. b ∷ t)) (given_text ps block m)
given_text (field w f ∷ ps) block m =
    let left : ℕ = length block - form_bytes f in
    let n : ℕ = number_from (drop left block) in
    field_given w f ps n (numbers_in ps (take left block)) m (nat_lt (length block) (form_bytes f))
    ∙ ap (λ (o : Option (List ℕ)). if nat_lt (length block) (form_bytes f) then None else option_map (λ t. wide w (form_text f (argument f n m)) ++ t) o) (given_text ps (take left block) m)

-- ---- a byte more

plain_behind : (b : ℕ) (ps : Option (List Part)) (block : List ℕ) (m : Bytes)
    → option_and_then (λ ps. parts_text ps block m) (option_map (λ ps. plain b ∷ ps) ps) ≡ option_map (λ t. b ∷ t) (option_and_then (λ ps. parts_text ps block m) ps)
plain_behind b None block m = refl
plain_behind b (Some ps) block m = refl

none_at_all : (b : Bool) → ◌≡◌ {A = Option (List ℕ)} None (if b then None else None)
none_at_all true = refl
none_at_all false = refl

field_behind : (w : ℕ) (f : Form) (ps : Option (List Part)) (block : List ℕ) (m : Bytes)
    → option_and_then (λ ps. parts_text ps block m) (option_map (λ ps. field w f ∷ ps) ps) ≡ (if nat_lt (length block) (form_bytes f) then None else
    option_map (λ t. wide w (form_text f (argument f (number_from (drop (length block - form_bytes f) block)) m)) ++ t) (option_and_then (λ ps. parts_text ps (take (length block - form_bytes f) block) m) ps))
field_behind w f None block m = none_at_all (nat_lt (length block) (form_bytes f))
field_behind w f (Some ps) block m = refl

-- what the bytes behind it write, from each stage
abbrev Reads : List ℕ → Bytes → Type 0
Reads bs m = (s : Stage) (block : List ℕ) → option_and_then (λ ps. parts_text ps block m) (parts_from s bs) ≡ printed_from s bs block m

met_text : (x : Met) (bs block : List ℕ) (m : Bytes) → Reads bs m → option_and_then (λ ps. parts_text ps block m) (behind x (λ next. parts_from next bs)) ≡ printed_on x (λ next left. printed_from next bs left m) block m
met_text (leads s) bs block m reads = reads s block
met_text (gives (plain b)) bs block m reads = plain_behind b (parts_from outside bs) block m ∙ ap (option_map (λ t. b ∷ t)) (reads outside block)
met_text (gives (field w f)) bs block m reads =
    let left : ℕ = length block - form_bytes f in
    field_behind w f (parts_from outside bs) block m
    ∙ ap (λ (o : Option (List ℕ)). if nat_lt (length block) (form_bytes f) then None else option_map (λ t. wide w (form_text f (argument f (number_from (drop left block)) m)) ++ t) o) (reads outside (take left block))
met_text stray bs block m reads = refl

read_text : (bs : List ℕ) (m : Bytes) → Reads bs m
read_text [] m outside block = refl
read_text [] m begun block = refl
read_text [] m (sized w) block = refl
read_text [] m (longer w) block = refl
read_text (b ∷ bs) m outside block = met_text (met outside b) bs block m (read_text bs m)
read_text (b ∷ bs) m begun block = met_text (met begun b) bs block m (read_text bs m)
read_text (b ∷ bs) m (sized w) block = met_text (met (sized w) b) bs block m (read_text bs m)
read_text (b ∷ bs) m (longer w) block = met_text (met (longer w) b) bs block m (read_text bs m)

-- ---- the whole

numbers_text : (ps : List Part) (all : Option (List ℕ)) (m : Bytes)
    → option_and_then (λ ns. option_and_then (λ given. text_of ps given) (arguments_in ps ns (texts (unwrap_or (option_map (pointers_in ps) all) []) m))) all ≡ text_with ps all m
numbers_text ps None m = refl
numbers_text ps (Some ns) m = refl

pub formats_are_read : FormatsAreRead
formats_are_read format block m = by (parts_of format) ∙ read_text format m outside block
  where
    by : (o : Option (List Part)) → option_and_then (λ ps. option_and_then (λ ns. option_and_then (λ given. text_of ps given) (arguments_in ps ns (texts (unwrap_or (option_and_then (λ ps. option_map (pointers_in ps) (numbers_in ps block)) o) []) m))) (numbers_in ps block)) o
        ≡ option_and_then (λ ps. parts_text ps block m) o
    by None = refl
    by (Some ps) = numbers_text ps (numbers_in ps block) m ∙ given_text ps block m
