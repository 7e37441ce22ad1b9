-- Lines of a text, and a text without its note lines.
use Rattle.std.proofs.Common.{◌≡◌, ℕ, ◌<◌, ◌≤◌, ◌==◌, length, drop, inl, inr, ◌||◌, not, Bool, true, false, List, [], ◌∷◌, ◌++◌, Option, Some, None, option_map, codes, refl, sym, ap, ◌∙◌, arith, append_assoc}
use Rattle.std.specs.Prelude.{if◌then◌else◌, min, ◌⊎◌}
use Rattle.std.specs.List.{list_any}
use Rattle.std.proofs.lemmas.Bool.{and_parts, or_parts, or_from, eqb-true, cases_lt}
use Rattle.std.proofs.lemmas.List.{append-nil, drop_all}
use Rattle.std.proofs.lemmas.List.Folds.{list_any-append}
use Rattle.c65_asm.specs.declared.reading.Answer.{Answer}
use Rattle.c65_asm.specs.declared.reading.Answer.TheVariants as answers
use Rattle.c65_asm.specs.Words.{and_read, cut_at}
use Rattle.c65_asm.specs.Rows.{instruction_from, row_in}
use Rattle.c65_asm.specs.Reading.{Reading, step, step_in}
use Rattle.c65_asm.specs.Read.{next_number, behind_line, lines_in}
use Rattle.c65_asm.specs.Noted.{lines_from, whole_lines, is_note, has_notes, other_line, other_lines, without_notes, left_behind, counted_on, counted, parting}
use Rattle.c65_asm.proofs.LineLaws.{longer, cut_shorter}
use Rattle.c65_asm.proofs.WordLaws.{lacks}
use Rattle.c65_code.specs.declared.code.Code.{Code}

abbrev Lines : Type 0
Lines = List (List ℕ) × List ℕ

abbrev ahead : List ℕ → Lines → Lines
ahead line later = (line ∷ later.0, later.1)

-- behind a byte, which may be a line feed
abbrev by_feed : List ℕ → ℕ → List ℕ → Bool → Lines
by_feed begun c text b = if b then ahead begun (lines_from [] text) else lines_from (begun ++ c ∷ []) text

-- by the first line

abbrev onward : List ℕ → List ℕ → Option (List ℕ × List ℕ) → Lines
onward begun text None = ([], begun ++ text)
onward begun text (Some p) = ahead (begun ++ p.0) (lines_from [] p.1)

onward_more : (begun : List ℕ) (c : ℕ) (text : List ℕ) (o : Option (List ℕ × List ℕ)) → onward (begun ++ c ∷ []) text o ≡ onward begun (c ∷ text) (longer c false text o)
onward_more begun c text None = ap (λ (l : List ℕ). (let made : Lines = ([], l) in made)) (append_assoc begun (c ∷ []) text)
onward_more begun c text (Some p) = ap (λ (l : List ℕ). ahead l (lines_from [] p.1)) (append_assoc begun (c ∷ []) p.0)

by_cut : (begun text : List ℕ) → lines_from begun text ≡ onward begun text (cut_at 10 text)
by_cut begun [] = ap (λ (l : List ℕ). (let made : Lines = ([], l) in made)) (sym (append-nil begun))
by_cut begun (c ∷ text) = by_byte (c == 10) refl (by_cut (begun ++ c ∷ []) text)
  where
    by_byte : (b : Bool) → (c == 10) ≡ b → lines_from (begun ++ c ∷ []) text ≡ onward (begun ++ c ∷ []) text (cut_at 10 text) → lines_from begun (c ∷ text) ≡ onward begun (c ∷ text) (cut_at 10 (c ∷ text))
    by_byte true e more =
        ap (λ (b : Bool). by_feed begun c text b) e
        ∙ ap (λ (l : List ℕ). ahead l (lines_from [] text)) (sym (append-nil begun))
        ∙ ap (λ (b : Bool). onward begun (c ∷ text) (longer c b text (cut_at 10 text))) (sym e)
    by_byte false e more =
        ap (λ (b : Bool). by_feed begun c text b) e
        ∙ more
        ∙ onward_more begun c text (cut_at 10 text)
        ∙ ap (λ (b : Bool). onward begun (c ∷ text) (longer c b text (cut_at 10 text))) (sym e)

pub next_line : (text line rest : List ℕ) → cut_at 10 text ≡ Some (line, rest) → lines_from [] text ≡ ahead line (lines_from [] rest)
next_line text line rest e = by_cut [] text ∙ ap (onward [] text) e

pub no_line : (text : List ℕ) → cut_at 10 text ≡ None → lines_from [] text ≡ ([], text)
no_line text e = by_cut [] text ∙ ap (onward [] text) e

pub shorter_behind : (text line rest : List ℕ) → cut_at 10 text ≡ Some (line, rest) → length rest < length text
shorter_behind text line rest e = cut_shorter text (line, rest) e

pub noted_here : (text line rest : List ℕ) → cut_at 10 text ≡ Some (line, rest) → is_note line ≡ true → has_notes text ≡ true
noted_here text line rest e h = ap (λ (l : Lines). list_any is_note l.0) (next_line text line rest e) ∙ ap (λ (b : Bool). b || has_notes rest) h

pub noted_behind : (text line rest : List ℕ) → cut_at 10 text ≡ Some (line, rest) → is_note line ≡ false → has_notes text ≡ has_notes rest
noted_behind text line rest e h = ap (λ (l : Lines). list_any is_note l.0) (next_line text line rest e) ∙ ap (λ (b : Bool). b || has_notes rest) h

pub noted_nowhere : (text : List ℕ) → cut_at 10 text ≡ None → has_notes text ≡ false
noted_nowhere text e = ap (λ (l : Lines). list_any is_note l.0) (no_line text e)

abbrev left : Lines → List ℕ
left l = other_lines l.0 ++ l.1

pub others_behind : (out text line rest : List ℕ) → cut_at 10 text ≡ Some (line, rest) → (out ++ other_line line) ++ without_notes rest ≡ out ++ without_notes text
others_behind out text line rest e =
    let later = lines_from [] rest in
    append_assoc out (other_line line) (without_notes rest)
    ∙ ap (λ (t : List ℕ). out ++ t) (sym (append_assoc (other_line line) (other_lines later.0) later.1) ∙ ap left (sym (next_line text line rest e)))

pub others_end : (text : List ℕ) → cut_at 10 text ≡ None → without_notes text ≡ text
others_end text e = ap left (no_line text e)

pub counted_here : (n at : ℕ) (text line rest : List ℕ) → cut_at 10 text ≡ Some (line, rest) → left_behind n line ≡ None → counted n at (whole_lines text) ≡ at
counted_here n at text line rest e h =
    ap (λ (l : Lines). counted n at l.0) (next_line text line rest e) ∙ ap (λ o. counted_on at o (λ m. counted m (next_number at) (whole_lines rest))) h

pub counted_behind : (n m at : ℕ) (text line rest : List ℕ) → cut_at 10 text ≡ Some (line, rest) → left_behind n line ≡ Some m → counted n at (whole_lines text) ≡ counted m (next_number at) (whole_lines rest)
counted_behind n m at text line rest e h =
    ap (λ (l : Lines). counted n at l.0) (next_line text line rest e) ∙ ap (λ o. counted_on at o (λ m. counted m (next_number at) (whole_lines rest))) h

pub counted_end : (n at : ℕ) (text : List ℕ) → cut_at 10 text ≡ None → counted n at (whole_lines text) ≡ at
counted_end n at text e = ap (λ (l : Lines). counted n at l.0) (no_line text e)

-- where two texts part

parts_nowhere : (line : ℕ) (text other : List ℕ) → ((text ≡ []) ⊎ (other ≡ [])) → parting line text other ≡ line
parts_nowhere line [] other h = refl
parts_nowhere line (x ∷ text) [] h = refl
parts_nowhere line (x ∷ text) (y ∷ other) (inl e) = absurd cc
parts_nowhere line (x ∷ text) (y ∷ other) (inr e) = absurd cc

pub parts_end : (line at : ℕ) (text other : List ℕ) → min (length text) (length other) ≤ at → parting line (drop at text) (drop at other) ≡ line
parts_end line at text other h = by_text (cases_lt at (length text))
  where
    by_text : (at < length text) ⊎ (length text ≤ at) → parting line (drop at text) (drop at other) ≡ line
    by_text (inl g) = parts_nowhere line (drop at text) (drop at other) (inr (drop_all at other (omega (arith, h, g))))
    by_text (inr g) = parts_nowhere line (drop at text) (drop at other) (inl (drop_all at text g))

-- a text that is read has no note lines

unread_note : (note : List ℕ) → row_in (9 ∷ 59 ∷ note) ≡ None
unread_note note = by_space (cut_at 32 note)
  where
    by_space : (o : Option (List ℕ × List ℕ)) → instruction_from (59 ∷ note) (option_map (λ (p : List ℕ × List ℕ). (59 ∷ p.0, p.1)) o) ≡ None
    by_space None = refl
    by_space (Some p) = refl

no_step : (r : Reading) (line : List ℕ) → is_note line ≡ true → step r line ≡ None
no_step r [] h = absurd cc
no_step r (tab ∷ []) h = absurd cc
no_step r (tab ∷ mark ∷ note) h =
    let p = and_parts (tab == 9) (mark == 59) h in
    let a : tab ≡ 9 = eqb-true tab 9 p.0 in
    let b : mark ≡ 59 = eqb-true mark 59 p.1 in
    ap (λ (t : ℕ). step r (t ∷ mark ∷ note)) a ∙ ap (λ (m : ℕ). step r (9 ∷ m ∷ note)) b ∙ ap (λ o. and_read o (step_in r r.opened)) (unread_note note)

no_note : (r s : Reading) (line : List ℕ) (b : Bool) → is_note line ≡ b → step r line ≡ Some s → b ≡ false
no_note r s line true e h = let k = sym (no_step r line e) ∙ h in absurd cc
no_note r s line false e h = refl

abbrev IsBare : List ℕ → Type 0
IsBare text = (r : Reading) (n : ℕ) (begun : List ℕ) (code : Code) → lines_in r n begun text ≡ answers.Code code → list_any is_note (lines_from begun text).0 ≡ false

abbrev fed : Reading → ℕ → List ℕ → ℕ → List ℕ → Bool → Answer
fed r n begun c text b = if b then behind_line n (step r begun) (λ next. lines_in next (next_number n) [] text) else lines_in r n (begun ++ c ∷ []) text

pub bare_from : (text : List ℕ) → IsBare text
bare_from [] = λ r n begun code h. refl
bare_from (c ∷ text) = λ r n begun code h. by_byte (bare_from text) r n begun code h (c == 10) refl
  where
    by_step : IsBare text → (r : Reading) (n : ℕ) (begun : List ℕ) (code : Code) (o : Option Reading) → step r begun ≡ o → behind_line n o (λ next. lines_in next (next_number n) [] text) ≡ answers.Code code → (is_note begun || list_any is_note (lines_from [] text).0) ≡ false
    by_step more r n begun code None e g = absurd cc
    by_step more r n begun code (Some s) e g = or_from (is_note begun) (list_any is_note (lines_from [] text).0) (no_note r s begun (is_note begun) refl e) (more s (next_number n) [] code g)

    by_byte : IsBare text → (r : Reading) (n : ℕ) (begun : List ℕ) (code : Code) → lines_in r n begun (c ∷ text) ≡ answers.Code code → (b : Bool) → (c == 10) ≡ b → list_any is_note (lines_from begun (c ∷ text)).0 ≡ false
    by_byte more r n begun code h true e =
        ap (λ (b : Bool). list_any is_note (by_feed begun c text b).0) e
        ∙ by_step more r n begun code (step r begun) refl (sym (ap (fed r n begun c text) e) ∙ h)
    by_byte more r n begun code h false e =
        ap (λ (b : Bool). list_any is_note (by_feed begun c text b).0) e
        ∙ more r n (begun ++ c ∷ []) code (sym (ap (fed r n begun c text) e) ∙ h)

-- a text without note lines is all that is left of it

abbrev IsKept : List ℕ → Type 0
IsKept text = (begun : List ℕ) → list_any is_note (lines_from begun text).0 ≡ false → other_lines (lines_from begun text).0 ++ (lines_from begun text).1 ≡ begun ++ text

kept_from : (text : List ℕ) → IsKept text
kept_from [] = λ begun h. sym (append-nil begun)
kept_from (c ∷ text) = λ begun h. by_byte (kept_from text) begun h (c == 10) refl
  where
    by_byte : IsKept text → (begun : List ℕ) → list_any is_note (lines_from begun (c ∷ text)).0 ≡ false → (b : Bool) → (c == 10) ≡ b → other_lines (lines_from begun (c ∷ text)).0 ++ (lines_from begun (c ∷ text)).1 ≡ begun ++ c ∷ text
    by_byte more begun h true e =
        let p = or_parts (is_note begun) (list_any is_note (lines_from [] text).0) (sym (ap (λ (b : Bool). list_any is_note (by_feed begun c text b).0) e) ∙ h) in
        let same : c ≡ 10 = eqb-true c 10 e in
        let later = lines_from [] text in
        ap (λ (b : Bool). other_lines (by_feed begun c text b).0 ++ (by_feed begun c text b).1) e
        ∙ ap (λ (b : Bool). ((if b then [] else begun ++ 10 ∷ []) ++ other_lines later.0) ++ later.1) p.0
        ∙ append_assoc (begun ++ 10 ∷ []) (other_lines later.0) later.1
        ∙ append_assoc begun (10 ∷ []) (other_lines later.0 ++ later.1)
        ∙ ap (λ (t : List ℕ). begun ++ 10 ∷ t) (more [] p.1)
        ∙ ap (λ (d : ℕ). begun ++ d ∷ text) (sym same)
    by_byte more begun h false e =
        ap (λ (b : Bool). other_lines (by_feed begun c text b).0 ++ (by_feed begun c text b).1) e
        ∙ more (begun ++ c ∷ []) (sym (ap (λ (b : Bool). list_any is_note (by_feed begun c text b).0) e) ∙ h)
        ∙ append_assoc begun (c ∷ []) text

pub kept : (text : List ℕ) → has_notes text ≡ false → without_notes text ≡ text
kept text h = kept_from text [] h

-- texts of whole lines, one behind another

abbrev pub IsWhole : List ℕ → Type 0
IsWhole text = (lines_from [] text).1 ≡ []

abbrev pub EndsWhole : List ℕ → Type 0
EndsWhole text = (begun : List ℕ) → (lines_from begun text).1 ≡ []

pub ends_behind : (a b : List ℕ) → EndsWhole b → EndsWhole (a ++ b)
ends_behind [] b h = h
ends_behind (c ∷ a) b h = λ begun. by_byte (ends_behind a b h) begun (c == 10) refl
  where
    by_byte : EndsWhole (a ++ b) → (begun : List ℕ) (t : Bool) → (c == 10) ≡ t → (lines_from begun (c ∷ (a ++ b))).1 ≡ []
    by_byte more begun true e = ap (λ (t : Bool). (by_feed begun c (a ++ b) t).1) e ∙ more []
    by_byte more begun false e = ap (λ (t : Bool). (by_feed begun c (a ++ b) t).1) e ∙ more (begun ++ c ∷ [])

abbrev both : Lines → Lines → Lines
both p q = (p.0 ++ q.0, q.1)

abbrev IsBoth : List ℕ → List ℕ → Type 0
IsBoth a b = (begun : List ℕ) → (lines_from begun a).1 ≡ [] → lines_from begun (a ++ b) ≡ both (lines_from begun a) (lines_from [] b)

both_from : (a b : List ℕ) → IsBoth a b
both_from [] b = λ begun h. ap (λ (l : List ℕ). lines_from l b) h
both_from (c ∷ a) b = λ begun h. by_byte (both_from a b) begun h (c == 10) refl
  where
    by_byte : IsBoth a b → (begun : List ℕ) → (lines_from begun (c ∷ a)).1 ≡ [] → (t : Bool) → (c == 10) ≡ t → lines_from begun (c ∷ (a ++ b)) ≡ both (lines_from begun (c ∷ a)) (lines_from [] b)
    by_byte more begun h true e =
        ap (by_feed begun c (a ++ b)) e
        ∙ ap (ahead begun) (more [] (sym (ap (λ (t : Bool). (by_feed begun c a t).1) e) ∙ h))
        ∙ ap (λ (t : Bool). both (by_feed begun c a t) (lines_from [] b)) (sym e)
    by_byte more begun h false e =
        ap (by_feed begun c (a ++ b)) e
        ∙ more (begun ++ c ∷ []) (sym (ap (λ (t : Bool). (by_feed begun c a t).1) e) ∙ h)
        ∙ ap (λ (t : Bool). both (by_feed begun c a t) (lines_from [] b)) (sym e)

pub whole_both : (a b : List ℕ) → IsWhole a → IsWhole b → IsWhole (a ++ b)
whole_both a b h g = ap (λ (l : Lines). l.1) (both_from a b [] h) ∙ g

-- none of two texts has note lines, where both have none together
pub bare_both : (a b : List ℕ) → IsWhole a → has_notes (a ++ b) ≡ false → (has_notes a ≡ false) × (has_notes b ≡ false)
bare_both a b h g = or_parts (has_notes a) (has_notes b) (sym (list_any-append is_note (lines_from [] a).0 (lines_from [] b).0) ∙ sym (ap (λ (l : Lines). list_any is_note l.0) (both_from a b [] h)) ∙ g)

others_both : (a b : List (List ℕ)) → other_lines (a ++ b) ≡ other_lines a ++ other_lines b
others_both [] b = refl
others_both (line ∷ a) b =
    ap (λ (t : List ℕ). other_line line ++ t) (others_both a b) ∙ sym (append_assoc (other_line line) (other_lines a) (other_lines b))

-- what a text leaves, whatever follows
abbrev pub Leaves : List ℕ → List ℕ → Type 0
Leaves text left = (rest : List ℕ) → without_notes (text ++ rest) ≡ left ++ without_notes rest

pub leaves_none : Leaves [] []
leaves_none rest = refl

pub leaves_both : (a b x y : List ℕ) → Leaves a x → Leaves b y → Leaves (a ++ b) (x ++ y)
leaves_both a b x y h g rest =
    ap without_notes (append_assoc a b rest) ∙ h (b ++ rest) ∙ ap (λ (t : List ℕ). x ++ t) (g rest) ∙ sym (append_assoc x y (without_notes rest))

pub leaves_whole : (text left : List ℕ) → IsWhole text → without_notes text ≡ left → Leaves text left
leaves_whole text left h e rest =
    let own = lines_from [] text in
    let later = lines_from [] rest in
    let own_left : other_lines own.0 ≡ left = sym (append-nil (other_lines own.0)) ∙ ap (λ (t : List ℕ). other_lines own.0 ++ t) (sym h) ∙ e in
    ap (λ (l : Lines). other_lines l.0 ++ l.1) (both_from text rest [] h)
    ∙ ap (λ (t : List ℕ). t ++ later.1) (others_both own.0 later.0)
    ∙ append_assoc (other_lines own.0) (other_lines later.0) later.1
    ∙ ap (λ (t : List ℕ). t ++ (other_lines later.0 ++ later.1)) own_left

pub leaves_same : (text : List ℕ) → IsWhole text → has_notes text ≡ false → Leaves text text
leaves_same text h g = leaves_whole text text h (kept text g)

-- a line

no_feed : (t : Bool) → not t ≡ true → t ≡ false
no_feed true h = sym h
no_feed false h = refl

one_line : (body begun : List ℕ) → lacks 10 body ≡ true → lines_from begun (body ++ 10 ∷ []) ≡ ((begun ++ body) ∷ [], [])
one_line [] begun h = ap (λ (l : List ℕ). (let made : Lines = (l ∷ [], []) in made)) (sym (append-nil begun))
one_line (c ∷ body) begun h =
    let p = and_parts (not (c == 10)) (lacks 10 body) h in
    ap (λ (t : Bool). by_feed begun c (body ++ 10 ∷ []) t) (no_feed (c == 10) p.0)
    ∙ one_line body (begun ++ c ∷ []) p.1
    ∙ ap (λ (l : List ℕ). (let made : Lines = (l ∷ [], []) in made)) (append_assoc begun (c ∷ []) body)

pub leaves_note : (fields : List ℕ) → lacks 10 fields ≡ true → Leaves (codes "\t;" ++ fields ++ codes "\n") []
leaves_note fields h =
    let e = one_line (codes "\t;" ++ fields) [] h in
    leaves_whole (codes "\t;" ++ fields ++ codes "\n") [] (ap (λ (l : Lines). l.1) e) (ap (λ (l : Lines). other_lines l.0 ++ l.1) e)
