-- Lines in place of others, and the notes with a gap where those of the new lines are to stand.
use Rattle.std.proofs.Common.{◌≡◌, ℕ, ◌+◌, ◌-◌, ◌≤◌, List, [], ◌++◌, length, take, drop, replicate, Some, refl, ap, sym, ◌∙◌, arith, append_assoc, length-append, length-drop}
use Rattle.std.proofs.lemmas.List.{length-take-le, take_at, drop_at, length-replicate}
use Rattle.c65_code.specs.declared.line.Line.{Line}
use Rattle.c65_code.specs.Segments.{targets_of, replaced}
use Rattle.c65_know.specs.declared.note.Note.{Note}
use Rattle.c65_know.specs.Notes.{nothing_known}
use Rattle.c65_know.specs.Known.{all_ways, way_after, known_from, known_of, IsPassed}
use Rattle.c65_know.proofs.Passes.{split, known_length, replaced_length, same_before_window, straight_ways}

spliced : {A : Type 0} → List A → ℕ → ℕ → List A → List A
spliced xs at count mid = take at xs ++ (mid ++ drop (at + count) xs)

spliced_take : {A : Type 0} → (xs mid : List A) (at count : ℕ) → at ≤ length xs → take at (spliced xs at count mid) ≡ take at xs
unfolding spliced
spliced_take xs mid at count a = take_at (take at xs) (mid ++ drop (at + count) xs) at (length-take-le at xs a)

spliced_drop : {A : Type 0} → (xs mid : List A) (at count n : ℕ) → at ≤ length xs → n ≡ at + length mid → drop n (spliced xs at count mid) ≡ drop (at + count) xs
unfolding spliced
spliced_drop xs mid at count n a e =
    let l : length (take at xs) ≡ at = length-take-le at xs a in
    let k : length (take at xs ++ mid) ≡ length (take at xs) + length mid = length-append (take at xs) mid in
    ap (drop n) (sym (append_assoc (take at xs) mid (drop (at + count) xs))) ∙ drop_at (take at xs ++ mid) (drop (at + count) xs) n (omega arith)

spliced_mid : {A : Type 0} → (xs mid : List A) (at count n : ℕ) → at ≤ length xs → n ≡ length mid → take n (drop at (spliced xs at count mid)) ≡ mid
unfolding spliced
spliced_mid xs mid at count n a e =
    ap (take n) (drop_at (take at xs) (mid ++ drop (at + count) xs) at (length-take-le at xs a)) ∙ take_at mid (drop (at + count) xs) n (sym e)

spliced_length : {A : Type 0} → (xs mid : List A) (at count : ℕ) → at + count ≤ length xs → length (spliced xs at count mid) ≡ at + (length mid + (length xs - (at + count)))
unfolding spliced
spliced_length xs mid at count a = grind (arith, length-append, length-take-le, length-drop)

-- what a replacement has before its notes are made
pub record IsGap (lines new now : List Line) (notes gap : List Note) (at count end : ℕ) : Type 0 where
  pub fits : at + count ≤ length lines
  pub now_is : now ≡ replaced lines at count new
  pub notes_are : notes ≡ known_of lines
  pub gap_is : gap ≡ take at notes ++ (replicate (length new) nothing_known ++ drop (at + count) notes)
  pub end_is : end ≡ length now - (length lines - (at + count))

pub gap_of : (seg old new now after : List Line) (items notes made gap : List Note) (at count : ℕ) → at + count ≤ length seg → old ≡ seg → now ≡ after → after ≡ replaced seg at count new
    → notes ≡ items → items ≡ known_of seg → made ≡ take at notes ++ (replicate (length new) nothing_known ++ drop (at + count) notes) → gap ≡ made
    → IsGap old new now notes gap at count (length now - (length old - (at + count)))
gap_of seg old new now after items notes made gap at count a b c d e f g h = record {
  fits = omega (arith, a, ap length b);
  now_is = c ∙ (d ∙ ap (λ x. replaced x at count new) (sym b));
  notes_are = e ∙ (f ∙ ap known_of (sym b));
  gap_is = h ∙ g;
  end_is = refl;
}

filler : List Line → List Note
filler new = replicate (length new) nothing_known

notes_length : (lines : List Line) (notes : List Note) → notes ≡ known_of lines → length notes ≡ length lines
notes_length lines notes e = ap length e ∙ known_length (Some nothing_known) [] lines

end_length : (lines new now : List Line) (notes gap : List Note) (at count end : ℕ) → IsGap lines new now notes gap at count end → end ≡ at + length new
end_length lines new now notes gap at count end g =
    let l : length now ≡ at + (length new + (length lines - (at + count))) = ap length g.now_is ∙ replaced_length lines new at count g.fits in
    omega (arith, g.end_is, g.fits, l)

pub gap_order : (lines new now : List Line) (notes gap : List Note) (at count end : ℕ) → IsGap lines new now notes gap at count end → at ≤ end
gap_order lines new now notes gap at count end g = omega (arith, end_length lines new now notes gap at count end g)

pub gap_place : (lines new now : List Line) (notes gap : List Note) (at count end : ℕ) → IsGap lines new now notes gap at count end → end ≤ length now
gap_place lines new now notes gap at count end g = omega (arith, g.end_is)

pub gap_lengths : (lines new now : List Line) (notes gap : List Note) (at count end : ℕ) → IsGap lines new now notes gap at count end → length now ≡ length gap
unfolding spliced filler
gap_lengths lines new now notes gap at count end g =
    let m : length notes ≡ length lines = notes_length lines notes g.notes_are in
    let fits : at + count ≤ length notes = omega (arith, g.fits, m) in
    let l : length gap ≡ at + (length (filler new) + (length notes - (at + count))) = ap length g.gap_is ∙ spliced_length notes (filler new) at count fits in
    let f : length (filler new) ≡ length new = length-replicate (length new) nothing_known in
    let n : length now ≡ at + (length new + (length lines - (at + count))) = ap length g.now_is ∙ replaced_length lines new at count g.fits in
    omega (arith, m, l, f, n)

gap_first : (lines new now : List Line) (notes gap : List Note) (at count end : ℕ) → IsGap lines new now notes gap at count end → take at gap ≡ take at (known_of lines)
unfolding spliced filler
gap_first lines new now notes gap at count end g =
    let m : length notes ≡ length lines = notes_length lines notes g.notes_are in
    ap (take at) g.gap_is ∙ (spliced_take notes (filler new) at count (omega (arith, g.fits, m)) ∙ ap (take at) g.notes_are)

pub gap_before : (lines new now : List Line) (notes gap : List Note) (at count end : ℕ) → IsGap lines new now notes gap at count end → targets_of (take (at + count - at) (drop at lines)) ≡ [] → targets_of new ≡ []
    → take at gap ≡ take at (known_of now)
gap_before lines new now notes gap at count end g e f =
    gap_first lines new now notes gap at count end g ∙ (same_before_window lines new at count g.fits e f ∙ ap (λ x. take at (known_of x)) (sym g.now_is))

pub gap_straight : (lines new now : List Line) (notes gap : List Note) (at count end : ℕ) → IsGap lines new now notes gap at count end → targets_of new ≡ [] → targets_of (take (end - at) (drop at now)) ≡ []
unfolding spliced
gap_straight lines new now notes gap at count end g f =
    let k : end - at ≡ length new = omega (arith, end_length lines new now notes gap at count end g) in
    ap (λ x. targets_of (take (end - at) (drop at x))) g.now_is ∙ (ap targets_of (spliced_mid lines new at count (end - at) (omega (arith, g.fits)) k) ∙ f)

pub gap_passed : (lines new now : List Line) (notes gap : List Note) (at count end : ℕ) → IsGap lines new now notes gap at count end → targets_of (take (at + count - at) (drop at lines)) ≡ []
    → IsPassed now gap (all_ways (take at now) (take at gap)) end
unfolding spliced filler
gap_passed lines new now notes gap at count end g e =
    let all : List Note = known_of lines in
    let p : ℕ = at + count in
    let m : length notes ≡ length lines = notes_length lines notes g.notes_are in
    let l : length all ≡ length lines = known_length (Some nothing_known) [] lines in
    let f : length (filler new) ≡ length new = length-replicate (length new) nothing_known in
    let k : end ≡ at + length new = end_length lines new now notes gap at count end g in
    let way = way_after (Some nothing_known) (take p lines) (take p all) in
    let later : drop p all ≡ known_from way (all_ways (take p lines) (take p all)) (drop p lines) =
    ap (drop p) (split p lines (Some nothing_known) []) ∙ drop_at (take p all) (known_from way (all_ways (take p lines) (take p all)) (drop p lines)) p (length-take-le p all (omega (arith, g.fits, l))) in
    let first : take at now ≡ take at lines = ap (take at) g.now_is ∙ spliced_take lines new at count (omega (arith, g.fits)) in
    let ways : all_ways (take p lines) (take p all) ≡ all_ways (take at now) (take at gap) =
    straight_ways lines all at p (omega arith) g.fits (sym l) e
    ∙ (ap (λ x. all_ways x (take at all)) (sym first) ∙ ap (all_ways (take at now)) (sym (gap_first lines new now notes gap at count end g))) in
    let behind : drop end now ≡ drop p lines = ap (drop end) g.now_is ∙ spliced_drop lines new at count end (omega (arith, g.fits)) k in
    let notes_behind : drop end gap ≡ drop p all =
    ap (drop end) g.gap_is ∙ (spliced_drop notes (filler new) at count end (omega (arith, g.fits, m)) (omega (arith, k, f)) ∙ ap (drop p) g.notes_are) in
    (way, notes_behind ∙ (later ∙ (ap (λ x. known_from way x (drop p lines)) ways ∙ ap (known_from way (all_ways (take at now) (take at gap))) (sym behind))))
