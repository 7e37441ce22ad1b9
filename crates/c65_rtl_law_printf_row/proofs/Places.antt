-- The pointers to texts among the arguments, read from the format byte by byte.
use Rattle.std.proofs.Common.{◌≡◌, ℕ, ◌-◌, Bool, true, false, List, [], ◌∷◌, Option, Some, None, length, refl, sym, ap, subst, ◌∙◌}
use Rattle.std.specs.Prelude.{if◌then◌else◌, nat_lt, take, drop, option_and_then}
use Rattle.std.specs.Option.{option_map, unwrap_or}
use Rattle.c65_base.specs.Formats.{Form, signed, unsigned, hexadecimal, signed_long, unsigned_long, character, string, form_bytes, Part, plain, field, Stage, outside, begun, sized, longer, Met, leads, gives, stray, met, behind, parts_from, parts_of, number_from, numbers_in, pointers_in, arguments_in, text_of, text_by, pointers_by}

abbrev pub places_part : Form → ℕ → List ℕ → List ℕ
places_part string n ns = n ∷ ns
places_part _ n ns = ns

abbrev pub places_on : Met → (Stage → List ℕ → List ℕ) → List ℕ → List ℕ
places_on (leads s) rest block = rest s block
places_on (gives (plain b)) rest block = rest outside block
places_on (gives (field w f)) rest block = places_part f (number_from (drop (length block - form_bytes f) block)) (rest outside (take (length block - form_bytes f) block))
places_on stray rest block = []

-- from a stage on, with the block that is left
abbrev pub places_from : Stage → List ℕ → List ℕ → List ℕ
places_from s [] block = []
places_from s (b ∷ bs) block = places_on (met s b) (λ next left. places_from next bs left) block

some_is : {A : Type 0} (x y : A) → Some x ≡ Some y → x ≡ y
some_is x y e = cc

abbrev Reads : List ℕ → Type 0
Reads bs = (s : Stage) (block : List ℕ) (ps : List Part) (ns : List ℕ) → parts_from s bs ≡ Some ps → numbers_in ps block ≡ Some ns → pointers_in ps ns ≡ places_from s bs block

part_more : (w : ℕ) (f : Form) (ps : List Part) (n : ℕ) (ns : List ℕ) → pointers_in (field w f ∷ ps) (n ∷ ns) ≡ places_part f n (pointers_in ps ns)
part_more w signed ps n ns = refl
part_more w unsigned ps n ns = refl
part_more w hexadecimal ps n ns = refl
part_more w signed_long ps n ns = refl
part_more w unsigned_long ps n ns = refl
part_more w character ps n ns = refl
part_more w string ps n ns = refl

field_numbers : (w : ℕ) (f : Form) (bs : List ℕ) (block : List ℕ) (qs : List Part) (ns : List ℕ) → Reads bs → parts_from outside bs ≡ Some qs → (lacks : Bool) (o : Option (List ℕ)) → numbers_in qs (take (length block - form_bytes f) block) ≡ o
    → (if lacks then None else option_map (λ ns. number_from (drop (length block - form_bytes f) block) ∷ ns) o) ≡ Some ns
    → pointers_in (field w f ∷ qs) ns ≡ places_part f (number_from (drop (length block - form_bytes f) block)) (places_from outside bs (take (length block - form_bytes f) block))
field_numbers w f bs block qs ns reads parts true o e is = cc
field_numbers w f bs block qs ns reads parts false None e is = cc
field_numbers w f bs block qs ns reads parts false (Some ms) e is =
    let n : ℕ = number_from (drop (length block - form_bytes f) block) in
    let same : n ∷ ms ≡ ns = some_is (n ∷ ms) ns is in
    ap (λ (ns : List ℕ). pointers_in (field w f ∷ qs) ns) (sym same) ∙ (part_more w f qs n ms ∙ ap (places_part f n) (reads outside (take (length block - form_bytes f) block) qs ms parts e))

met_places : (x : Met) (bs block : List ℕ) (ps : List Part) (ns : List ℕ) → Reads bs → behind x (λ next. parts_from next bs) ≡ Some ps → numbers_in ps block ≡ Some ns
    → pointers_in ps ns ≡ places_on x (λ next left. places_from next bs left) block
met_places (leads s) bs block ps ns reads e is = reads s block ps ns e is
met_places (gives (plain b)) bs block ps ns reads e is = by (parts_from outside bs) refl e
  where
    by : (o : Option (List Part)) → parts_from outside bs ≡ o → option_map (λ ps. plain b ∷ ps) o ≡ Some ps → pointers_in ps ns ≡ places_from outside bs block
    by None parts f = cc
    by (Some qs) parts f =
        let same : plain b ∷ qs ≡ ps = some_is (plain b ∷ qs) ps f in
        ap (λ (ps : List Part). pointers_in ps ns) (sym same) ∙ reads outside block qs ns parts (subst (λ (ps : List Part). numbers_in ps block ≡ Some ns) (sym same) is)
met_places (gives (field w f)) bs block ps ns reads e is = by (parts_from outside bs) refl e
  where
    by : (o : Option (List Part)) → parts_from outside bs ≡ o → option_map (λ ps. field w f ∷ ps) o ≡ Some ps
        → pointers_in ps ns ≡ places_part f (number_from (drop (length block - form_bytes f) block)) (places_from outside bs (take (length block - form_bytes f) block))
    by None parts g = cc
    by (Some qs) parts g =
        let same : field w f ∷ qs ≡ ps = some_is (field w f ∷ qs) ps g in
        ap (λ (ps : List Part). pointers_in ps ns) (sym same)
        ∙ field_numbers w f bs block qs ns reads parts (nat_lt (length block) (form_bytes f)) (numbers_in qs (take (length block - form_bytes f) block)) refl (subst (λ (ps : List Part). numbers_in ps block ≡ Some ns) (sym same) is)
met_places stray bs block ps ns reads e is = cc

read_places : (bs : List ℕ) → Reads bs
read_places [] outside block ps ns e is = let same : [] ≡ ps = some_is [] ps e in ap (λ (ps : List Part). pointers_in ps ns) (sym same)
read_places [] begun block ps ns e is = cc
read_places [] (sized w) block ps ns e is = cc
read_places [] (longer w) block ps ns e is = cc
read_places (b ∷ bs) outside block ps ns e is = met_places (met outside b) bs block ps ns (read_places bs) e is
read_places (b ∷ bs) begun block ps ns e is = met_places (met begun b) bs block ps ns (read_places bs) e is
read_places (b ∷ bs) (sized w) block ps ns e is = met_places (met (sized w) b) bs block ps ns (read_places bs) e is
read_places (b ∷ bs) (longer w) block ps ns e is = met_places (met (longer w) b) bs block ps ns (read_places bs) e is

-- where the format has a text
pub pointers_are : (format block : List ℕ) (strings : List (List ℕ)) (text : List ℕ) → text_by format block strings ≡ Some text → pointers_by format block ≡ places_from outside format block
pointers_are format block strings text e = by (parts_of format) refl e
  where
    numbers : (ps : List Part) (o : Option (List ℕ)) → parts_of format ≡ Some ps → numbers_in ps block ≡ o → option_and_then (λ ns. option_and_then (λ given. text_of ps given) (arguments_in ps ns strings)) o ≡ Some text
        → unwrap_or (option_map (pointers_in ps) o) [] ≡ places_from outside format block
    numbers ps None parts f g = cc
    numbers ps (Some ns) parts f g = read_places format outside block ps ns parts f

    by : (o : Option (List Part)) → parts_of format ≡ o → option_and_then (λ ps. option_and_then (λ ns. option_and_then (λ given. text_of ps given) (arguments_in ps ns strings)) (numbers_in ps block)) o ≡ Some text
        → unwrap_or (option_and_then (λ ps. option_map (pointers_in ps) (numbers_in ps block)) o) [] ≡ places_from outside format block
    by None parts f = cc
    by (Some ps) parts f = numbers ps (numbers_in ps block) parts refl f
