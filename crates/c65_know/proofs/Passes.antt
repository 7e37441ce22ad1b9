-- The pass over lines, one line after another, and from a line in their midst.
use Rattle.std.proofs.Common.{◌≡◌, ℕ, zero, suc, ◌+◌, ◌-◌, ◌<◌, ◌≤◌, ◌==◌, if◌then◌else◌, List, [], ◌∷◌, ◌++◌, length, take, drop, get_or, set, Option, Some, unwrap_or, refl, ap, sym, ◌∙◌, subst, arith, append_assoc, append-nil, length-append, length-drop}
use Rattle.std.proofs.lemmas.List.{drop_more, take_more, take_more_set, length-take-le, take_all, take_rest, drop_all, take-append-drop, drop-drop, drop-take, take-take, drop-set-lt, take_at}
use Rattle.c65_code.specs.declared.line.Line.{Line}
use Rattle.c65_code.specs.declared.line.Line.TheVariants.{Label, Do, Call}
use Rattle.c65_code.specs.declared.line.Operand.TheVariants.{Nothing, Byte, Low, High, Zero, At, To}
use Rattle.c65_code.specs.Segments.{target_of, targets_of, is_among, replaced}
use Rattle.c65_know.specs.declared.note.Note.{Note}
use Rattle.c65_know.specs.Notes.{nothing_known}
use Rattle.c65_know.specs.Known.{Way, after_line, ways_of, all_ways, way_after, joined, met, note_at, known_from, known_of, IsNotedTo, IsPassed}

pub met_append : (l : ℕ) (ws vs : List Way) (way : Option Note) → met l way (ws ++ vs) ≡ met l (met l way ws) vs
met_append l [] vs way = refl
met_append l (w ∷ ws) vs way = met_append l ws vs (if w.label == l then Some (joined way w.note) else way)

all_at : (lines : List Line) (notes : List Note) (at : ℕ) (line : Line) (n : Note) → at < length lines → at < length notes
    → all_ways (drop at lines) (drop at notes) ≡ ways_of (get_or lines at line) (get_or notes at n) ++ all_ways (drop (at + 1) lines) (drop (at + 1) notes)
all_at lines notes at line n a b =
    ap (λ x. all_ways x (drop at notes)) (drop_more lines at line a)
    ∙ ap (λ x. all_ways (get_or lines at line ∷ drop (at + 1) lines) x) (drop_more notes at n b)

-- one line more of those from which a label is met
pub met_more : (l : ℕ) (known next : Option Note) (lines : List Line) (notes : List Note) (at : ℕ) (line : Line) (n : Note) → at < length lines → length lines ≡ length notes
    → next ≡ met l known (ways_of (get_or lines at line) (get_or notes at n))
    → met l next (all_ways (drop (at + 1) lines) (drop (at + 1) notes)) ≡ met l known (all_ways (drop at lines) (drop at notes))
met_more l known next lines notes at line n a b e =
    ap (λ x. met l x (all_ways (drop (at + 1) lines) (drop (at + 1) notes))) e
    ∙ (sym (met_append l (ways_of (get_or lines at line) (get_or notes at n)) (all_ways (drop (at + 1) lines) (drop (at + 1) notes)) known)
    ∙ ap (met l known) (sym (all_at lines notes at line n a (omega arith))))

pub all_push : (lines : List Line) (notes : List Note) (line : Line) (n : Note) → length lines ≡ length notes → all_ways (lines ++ line ∷ []) (notes ++ n ∷ []) ≡ all_ways lines notes ++ ways_of line n
all_push [] [] line n e = append-nil (ways_of line n)
all_push [] (m ∷ notes) line n e = absurd (omega arith)
all_push (l ∷ lines) [] line n e = absurd (omega arith)
all_push (l ∷ lines) (m ∷ notes) line n e =
    ap (λ x. ways_of l m ++ x) (all_push lines notes line n (omega arith)) ∙ sym (append_assoc (ways_of l m) (all_ways lines notes) (ways_of line n))

pub pass_more : (lines : List Line) (notes : List Note) (way next : Option Note) (at : ℕ) (line : Line) (n : Note) → at < length lines → length lines ≡ length notes
    → n ≡ note_at way (all_ways (take at lines) (take at notes)) (get_or lines at line) (take (length lines - (at + 1)) (drop (at + 1) lines)) → next ≡ after_line (get_or lines at line) n
    → IsNotedTo lines notes way at → IsNotedTo lines (set notes at n) next (at + 1)
pass_more lines notes way next at line n a b e' f h =
    let e : n ≡ note_at way (all_ways (take at lines) (take at notes)) (get_or lines at line) (drop (at + 1) lines) = e' ∙ ap (note_at way (all_ways (take at lines) (take at notes)) (get_or lines at line)) (take_rest lines (at + 1)) in
    let this : Line = get_or lines at line in
    let rest : List Line = drop (at + 1) lines in
    let old : List Note = take at notes in
    let ways : List Way = all_ways (take at lines) old in
    let m : Note = note_at way ways this rest in
    let step : known_from way ways (drop at lines) ≡ m ∷ known_from (after_line this m) (ways ++ ways_of this m) rest = ap (known_from way ways) (drop_more lines at line a) in
    let named : m ∷ known_from (after_line this m) (ways ++ ways_of this m) rest ≡ n ∷ known_from next (ways ++ ways_of this n) rest =
    ap (λ x. x ∷ known_from (after_line this x) (ways ++ ways_of this x) rest) (sym e) ∙ ap (λ x. n ∷ known_from x (ways ++ ways_of this n) rest) (sym f) in
    let pushed : all_ways (take (at + 1) lines) (old ++ n ∷ []) ≡ ways ++ ways_of this n =
    ap (λ x. all_ways x (old ++ n ∷ [])) (take_more lines at line a) ∙ all_push (take at lines) old this n (length-take-le at lines (omega arith) ∙ sym (length-take-le at notes (omega arith))) in
    let now : take (at + 1) (set notes at n) ≡ old ++ n ∷ [] = take_more_set notes at n (omega arith) in
    h ∙ (ap (λ x. old ++ x) (step ∙ named) ∙ (sym (append_assoc old (n ∷ []) (known_from next (ways ++ ways_of this n) rest))
    ∙ (ap (λ x. (old ++ n ∷ []) ++ known_from next x rest) (sym pushed)
    ∙ ap (λ x. x ++ known_from next (all_ways (take (at + 1) lines) x) rest) (sym now))))

pub pass_end : (lines : List Line) (notes : List Note) (way : Option Note) (at : ℕ) → length lines ≤ at → length lines ≡ length notes → IsNotedTo lines notes way at → notes ≡ known_of lines
pass_end lines notes way at a b h =
    sym (h ∙ (ap (λ x. take at notes ++ known_from way (all_ways (take at lines) (take at notes)) x) (drop_all at lines a)
    ∙ (append-nil (take at notes) ∙ take_all at notes (omega arith))))

pub known_length : (way : Option Note) (ways : List Way) (lines : List Line) → length (known_from way ways lines) ≡ length lines
known_length way ways [] = refl
known_length way ways (line ∷ lines) = let n = note_at way ways line lines in ap suc (known_length (after_line line n) (ways ++ ways_of line n) lines)

-- where the notes before a line are right, the pass stands there
pub split : (p : ℕ) (lines : List Line) (way : Option Note) (ways : List Way)
    → known_from way ways lines ≡ take p (known_from way ways lines) ++ known_from (way_after way (take p lines) (take p (known_from way ways lines))) (ways ++ all_ways (take p lines) (take p (known_from way ways lines))) (drop p lines)
split zero lines way ways = ap (λ x. known_from way x lines) (sym (append-nil ways))
split (suc p) [] way ways = refl
split (suc p) (line ∷ lines) way ways =
    let n : Note = note_at way ways line lines in
    let next : Option Note = after_line line n in
    let more : List Way = ways ++ ways_of line n in
    let later : List Note = take p (known_from next more lines) in
    ap (λ x. n ∷ x) (split p lines next more
    ∙ ap (λ x. later ++ known_from (way_after next (take p lines) later) x (drop p lines)) (append_assoc ways (ways_of line n) (all_ways (take p lines) later)))

pub pass_from : (lines : List Line) (notes : List Note) (way : Option Note) (from : ℕ) → take from notes ≡ take from (known_of lines) → way ≡ way_after (Some nothing_known) (take from lines) (take from notes) → IsNotedTo lines notes way from
pass_from lines notes way from e f =
    split from lines (Some nothing_known) []
    ∙ (ap (λ x. x ++ known_from (way_after (Some nothing_known) (take from lines) x) (all_ways (take from lines) x) (drop from lines)) (sym e)
    ∙ ap (λ x. take from notes ++ known_from x (all_ways (take from lines) (take from notes)) (drop from lines)) (sym f))

way_last : (p : ℕ) (lines : List Line) (notes : List Note) (way : Option Note) (line : Line) (n : Note) → p < length lines → p < length notes
    → after_line (get_or lines p line) (get_or notes p n) ≡ way_after way (take (suc p) lines) (take (suc p) notes)
way_last p [] notes way line n a b = absurd (omega arith)
way_last p (l ∷ lines) [] way line n a b = absurd (omega arith)
way_last zero (l ∷ lines) (m ∷ notes) way line n a b = refl
way_last (suc p) (l ∷ lines) (m ∷ notes) way line n a b = way_last p lines notes (after_line l m) line n (omega arith) (omega arith)

pub way_before : (at : ℕ) (lines : List Line) (notes : List Note) (way : Option Note) (line : Line) (n : Note) → ¬ (at ≡ 0) → at ≤ length lines → length lines ≡ length notes
    → after_line (get_or lines (at - 1) line) (get_or notes (at - 1) n) ≡ way_after way (take at lines) (take at notes)
way_before zero lines notes way line n z a b = absurd (z refl)
way_before (suc p) lines notes way line n z a b =
    let e : suc p - 1 ≡ p = omega arith in
    ap (λ k. after_line (get_or lines k line) (get_or notes k n)) e ∙ way_last p lines notes way line n (omega arith) (omega arith)

pub all_right : (lines : List Line) (notes : List Note) (from : ℕ) → length lines ≤ from → length notes ≡ length lines → take from notes ≡ take from (known_of lines) → notes ≡ known_of lines
all_right lines notes from a b e =
    let k : length (known_of lines) ≡ length lines = known_length (Some nothing_known) [] lines in
    sym (take_all from notes (omega arith)) ∙ (e ∙ take_all from (known_of lines) (omega arith))

targets_append : (first last : List Line) → targets_of (first ++ last) ≡ targets_of first ++ targets_of last
targets_append [] last = refl
targets_append (line ∷ first) last = ap (λ x. target_of line ++ x) (targets_append first last) ∙ sym (append_assoc (target_of line) (targets_of first) (targets_of last))

note_same : (way : Option Note) (ways : List Way) (line : Line) (later other : List Line) → targets_of later ≡ targets_of other → note_at way ways line later ≡ note_at way ways line other
note_same way ways (Label l) later other e = ap (λ x. if is_among x l then nothing_known else unwrap_or (met l way ways) nothing_known) e
note_same way ways (Do op mode operand) later other e = refl
note_same way ways (Call callee) later other e = refl

-- the notes before some lines, where others that refer to the same labels stand in their place
same_before : (pre first last : List Line) (way : Option Note) (ways : List Way) → targets_of first ≡ targets_of last
    → take (length pre) (known_from way ways (pre ++ first)) ≡ take (length pre) (known_from way ways (pre ++ last))
same_before [] first last way ways e = refl
same_before (line ∷ pre) first last way ways e =
    let both : targets_of (pre ++ first) ≡ targets_of (pre ++ last) = targets_append pre first ∙ (ap (λ x. targets_of pre ++ x) e ∙ sym (targets_append pre last)) in
    let n : Note = note_at way ways line (pre ++ first) in
    let same : n ≡ note_at way ways line (pre ++ last) = note_same way ways line (pre ++ first) (pre ++ last) both in
    ap (λ x. n ∷ x) (same_before pre first last (after_line line n) (ways ++ ways_of line n) e)
    ∙ ap (λ x. x ∷ take (length pre) (known_from (after_line line x) (ways ++ ways_of line x) (pre ++ last))) same

pub same_before_window : (lines new : List Line) (at count : ℕ) → at + count ≤ length lines → targets_of (take (at + count - at) (drop at lines)) ≡ [] → targets_of new ≡ []
    → take at (known_of lines) ≡ take at (known_of (replaced lines at count new))
same_before_window lines new at count a e' f =
    let c : count ≡ at + count - at = omega arith in
    let e : targets_of (take count (drop at lines)) ≡ [] = ap (λ (k : ℕ). targets_of (take k (drop at lines))) c ∙ e' in
    let pre : List Line = take at lines in
    let post : List Line = drop (at + count) lines in
    let cut : drop at lines ≡ take count (drop at lines) ++ post = sym (take-append-drop count (drop at lines)) ∙ ap (λ x. take count (drop at lines) ++ x) (drop-drop count at lines) in
    let old : targets_of (drop at lines) ≡ targets_of post = ap targets_of cut ∙ (targets_append (take count (drop at lines)) post ∙ ap (λ x. x ++ targets_of post) e) in
    let now : targets_of (new ++ post) ≡ targets_of post = targets_append new post ∙ ap (λ x. x ++ targets_of post) f in
    let len : length pre ≡ at = length-take-le at lines (omega arith) in
    let same : take (length pre) (known_of (pre ++ drop at lines)) ≡ take (length pre) (known_of (pre ++ (new ++ post))) = same_before pre (drop at lines) (new ++ post) (Some nothing_known) [] (old ∙ sym now) in
    let named : take at (known_of (pre ++ drop at lines)) ≡ take at (known_of (pre ++ (new ++ post))) = subst (λ (k : ℕ). take k (known_of (pre ++ drop at lines)) ≡ take k (known_of (pre ++ (new ++ post)))) len same in
    subst (λ (x : List Line). take at (known_of x) ≡ take at (known_of (pre ++ (new ++ post)))) (take-append-drop at lines) named

pub replaced_length : (lines new : List Line) (at count : ℕ) → at + count ≤ length lines → length (replaced lines at count new) ≡ at + (length new + (length lines - (at + count)))
replaced_length lines new at count a = grind (arith, length-append, length-take-le, length-drop)

-- where the pass stands at a line, the notes before it are right
pub right_before : (lines : List Line) (notes : List Note) (way : Option Note) (at : ℕ) → at ≤ length notes → IsNotedTo lines notes way at → take at notes ≡ take at (known_of lines)
right_before lines notes way at a h =
    sym (ap (take at) h ∙ take_at (take at notes) (known_from way (all_ways (take at lines) (take at notes)) (drop at lines)) at (length-take-le at notes a))

no_way : (line : Line) (n : Note) → target_of line ≡ [] → ways_of line n ≡ []
no_way (Label l) n e = refl
no_way (Do op mode (To l)) n e = let k : length (l ∷ []) ≡ 0 = ap length e in absurd (omega arith)
no_way (Do op mode Nothing) n e = refl
no_way (Do op mode (Byte v)) n e = refl
no_way (Do op mode (Low s o)) n e = refl
no_way (Do op mode (High s o)) n e = refl
no_way (Do op mode (Zero i)) n e = refl
no_way (Do op mode (At s o)) n e = refl
no_way (Call callee) n e = refl

-- one line on, where the notes from there on are those of another pass
passed_step : (lines : List Line) (notes : List Note) (ways : List Way) (way : Option Note) (at : ℕ) (line : Line) (m : Note) → at < length lines → at < length notes
    → drop at notes ≡ known_from way ways (drop at lines)
    → get_or notes at m ∷ drop (at + 1) notes ≡ known_from way ways (get_or lines at line ∷ drop (at + 1) lines)
passed_step lines notes ways way at line m a b e = sym (drop_more notes at m b) ∙ (e ∙ ap (known_from way ways) (drop_more lines at line a))

-- the first note that stands: so do all behind it
pub all_stand : (lines : List Line) (notes : List Note) (way : Option Note) (at : ℕ) (line : Line) (m n : Note) → at < length lines → length lines ≡ length notes
    → n ≡ note_at way (all_ways (take at lines) (take at notes)) (get_or lines at line) (take (length lines - (at + 1)) (drop (at + 1) lines)) → n ≡ get_or notes at m
    → IsNotedTo lines notes way at → IsPassed lines notes (all_ways (take at lines) (take at notes)) at → notes ≡ known_of lines
all_stand lines notes way at line m n a b e' s h p =
    let this : Line = get_or lines at line in
    let rest : List Line = drop (at + 1) lines in
    let ways : List Way = all_ways (take at lines) (take at notes) in
    let c : at < length notes = omega arith in
    let e : n ≡ note_at way ways this rest = e' ∙ ap (note_at way ways this) (take_rest lines (at + 1)) in
    let old : Note = note_at p.0 ways this rest in
    let whole : get_or notes at m ∷ drop (at + 1) notes ≡ old ∷ known_from (after_line this old) (ways ++ ways_of this old) rest = passed_step lines notes ways p.0 at line m a c p.1 in
    let head : get_or notes at m ≡ old = ap (λ x. get_or x 0 m) whole in
    let same : note_at way ways this rest ≡ old = sym e ∙ (s ∙ head) in
    let tail : known_from way ways (drop at lines) ≡ drop at notes =
    ap (known_from way ways) (drop_more lines at line a) ∙ (ap (λ x. x ∷ known_from (after_line this x) (ways ++ ways_of this x) rest) same
    ∙ (sym whole ∙ sym (drop_more notes at m c))) in
    sym (h ∙ (ap (λ x. take at notes ++ x) tail ∙ take-append-drop at notes))

ways_pushed : (lines : List Line) (notes : List Note) (at : ℕ) (line : Line) (n : Note) → at < length lines → length lines ≡ length notes
    → all_ways (take (at + 1) lines) (take (at + 1) (set notes at n)) ≡ all_ways (take at lines) (take at notes) ++ ways_of (get_or lines at line) n
ways_pushed lines notes at line n a b =
    ap (all_ways (take (at + 1) lines)) (take_more_set notes at n (omega arith))
    ∙ (ap (λ x. all_ways x (take at notes ++ n ∷ [])) (take_more lines at line a)
    ∙ all_push (take at lines) (take at notes) (get_or lines at line) n (length-take-le at lines (omega arith) ∙ sym (length-take-le at notes (omega arith))))

-- a line that refers to no label leaves the ways to labels as they are
pub passed_more : (lines : List Line) (notes : List Note) (at : ℕ) (line : Line) (m n : Note) → at < length lines → length lines ≡ length notes → target_of (get_or lines at line) ≡ []
    → IsPassed lines notes (all_ways (take at lines) (take at notes)) at
    → IsPassed lines (set notes at n) (all_ways (take (at + 1) lines) (take (at + 1) (set notes at n))) (at + 1)
passed_more lines notes at line m n a b t p =
    let this : Line = get_or lines at line in
    let rest : List Line = drop (at + 1) lines in
    let ways : List Way = all_ways (take at lines) (take at notes) in
    let old : Note = note_at p.0 ways this rest in
    let whole : get_or notes at m ∷ drop (at + 1) notes ≡ old ∷ known_from (after_line this old) (ways ++ ways_of this old) rest = passed_step lines notes ways p.0 at line m a (omega arith) p.1 in
    let tail : drop (at + 1) notes ≡ known_from (after_line this old) (ways ++ ways_of this old) rest = ap (drop (suc zero)) whole in
    let both : ways ++ ways_of this old ≡ all_ways (take (at + 1) lines) (take (at + 1) (set notes at n)) =
    ap (λ x. ways ++ x) (no_way this old t ∙ sym (no_way this n t)) ∙ sym (ways_pushed lines notes at line n a b) in
    (after_line this old, drop-set-lt (at + 1) notes at n (omega arith) ∙ (tail ∙ ap (λ x. known_from (after_line this old) x rest) both))

all_append : (a b : List Line) (m n : List Note) → length a ≡ length m → all_ways (a ++ b) (m ++ n) ≡ all_ways a m ++ all_ways b n
all_append [] b [] n e = refl
all_append [] b (x ∷ m) n e = absurd (omega arith)
all_append (line ∷ a) b [] n e = absurd (omega arith)
all_append (line ∷ a) b (x ∷ m) n e =
    ap (λ ws. ways_of line x ++ ws) (all_append a b m n (omega arith)) ∙ sym (append_assoc (ways_of line x) (all_ways a m) (all_ways b n))

empty : {A : Type 0} → (xs : List A) → length xs ≡ 0 → xs ≡ []
empty [] e = refl
empty (x ∷ xs) e = absurd (omega arith)

targets_empty : (line : Line) (lines : List Line) → target_of line ++ targets_of lines ≡ [] → target_of line ≡ []
targets_empty line lines e = empty (target_of line) (let k : length (target_of line) + length (targets_of lines) ≡ 0 = sym (length-append (target_of line) (targets_of lines)) ∙ ap length e in omega arith)

rest_empty : (line : Line) (lines : List Line) → target_of line ++ targets_of lines ≡ [] → targets_of lines ≡ []
rest_empty line lines e = empty (targets_of lines) (let k : length (target_of line) + length (targets_of lines) ≡ 0 = sym (length-append (target_of line) (targets_of lines)) ∙ ap length e in omega arith)

no_ways : (lines : List Line) (notes : List Note) → targets_of lines ≡ [] → all_ways lines notes ≡ []
no_ways [] notes e = refl
no_ways (line ∷ lines) [] e = refl
no_ways (line ∷ lines) (n ∷ notes) e =
    ap (λ x. x ++ all_ways lines notes) (no_way line n (targets_empty line lines e)) ∙ no_ways lines notes (rest_empty line lines e)

take_split : {A : Type 0} → (xs : List A) (from to : ℕ) → from ≤ to → take to xs ≡ take from xs ++ take (to - from) (drop from xs)
take_split xs from to a =
    let m : to ≡ from + (to - from) = omega arith in
    let d : drop from (take to xs) ≡ take (to - from) (drop from xs) = ap (λ k. drop from (take k xs)) m ∙ drop-take from (to - from) xs in
    sym (take-append-drop from (take to xs)) ∙ (ap (λ x. x ++ drop from (take to xs)) (take-take from to xs a) ∙ ap (λ x. take from xs ++ x) d)

-- lines that refer to no label add no ways
pub straight_ways : (lines : List Line) (notes : List Note) (from to : ℕ) → from ≤ to → to ≤ length lines → length lines ≡ length notes → targets_of (take (to - from) (drop from lines)) ≡ []
    → all_ways (take to lines) (take to notes) ≡ all_ways (take from lines) (take from notes)
straight_ways lines notes from to a b l e =
    ap (λ x. all_ways x (take to notes)) (take_split lines from to a)
    ∙ (ap (all_ways (take from lines ++ take (to - from) (drop from lines))) (take_split notes from to a)
    ∙ (all_append (take from lines) (take (to - from) (drop from lines)) (take from notes) (take (to - from) (drop from notes)) (length-take-le from lines (omega arith) ∙ sym (length-take-le from notes (omega arith)))
    ∙ (ap (λ x. all_ways (take from lines) (take from notes) ++ x) (no_ways (take (to - from) (drop from lines)) (take (to - from) (drop from notes)) e)
    ∙ append-nil (all_ways (take from lines) (take from notes)))))

-- the same behind such lines, once their notes are made
pub passed_straight : (lines : List Line) (notes now : List Note) (from to : ℕ) → from ≤ to → to ≤ length lines → length lines ≡ length now → targets_of (take (to - from) (drop from lines)) ≡ []
    → take from now ≡ take from notes → drop to now ≡ drop to notes → IsPassed lines notes (all_ways (take from lines) (take from notes)) to
    → IsPassed lines now (all_ways (take to lines) (take to now)) to
passed_straight lines notes now from to a b l e f d p =
    let both : all_ways (take to lines) (take to now) ≡ all_ways (take from lines) (take from notes) = straight_ways lines now from to a b l e ∙ ap (all_ways (take from lines)) f in
    (p.0, d ∙ (p.1 ∙ ap (λ x. known_from p.0 x (drop to lines)) (sym both)))
