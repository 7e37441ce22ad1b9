-- Lines in the place of others: what a segment's lines keep where new lines have the labels of the old ones.
use Rattle.std.proofs.Common.{◌≡◌, inl, ℕ, ◌+◌, ◌<◌, ◌≤◌, Bool, true, false, List, [], ◌∷◌, ◌++◌, take, drop, length, length-append, length-drop, refl, sym, subst, arith, ap, ◌∙◌}
use Rattle.std.specs.Prelude.{All}
use Rattle.std.specs.List.{list_all}
use Rattle.std.proofs.lemmas.Bool.{and_from, and_parts}
use Rattle.std.proofs.lemmas.List.{take-append-drop, drop-drop}
use Rattle.std.proofs.lemmas.List.Elements.{All-append, All-take, All-drop}
use Rattle.std.proofs.lemmas.List.Folds.{list_all-append}
use Rattle.std.proofs.Math.Seq.{drop-append_seam}
use Rattle.c65_code.specs.declared.line.Line.{Line}
use Rattle.c65_code.specs.declared.line.Line.TheVariants.{Label, Do, Call}
use Rattle.c65_code.specs.Segments.{IsSegment, is_fit, labels_of, target_of, targets_of, is_among, is_distinct, is_closing, closed_by}
use Rattle.c65_code.specs.Weights.{lines_size}
use Rattle.c65_code.specs.Writable.{IsLineWritable}
use Rattle.c65_pass.specs.Rewriting.{rewritten, bulk, IsLower, Keeps}

-- ---- lists of lines

pub labels-append : (a b : List Line) → labels_of (a ++ b) ≡ labels_of a ++ labels_of b
labels-append [] b = refl
labels-append (Label l ∷ a) b = ap (λ ls. l ∷ ls) (labels-append a b)
labels-append (Do op mode operand ∷ a) b = labels-append a b
labels-append (Call callee ∷ a) b = labels-append a b

append-assoc : (a b c : List ℕ) → (a ++ b) ++ c ≡ a ++ (b ++ c)
append-assoc [] b c = refl
append-assoc (x ∷ a) b c = ap (λ xs. x ∷ xs) (append-assoc a b c)

pub targets-append : (a b : List Line) → targets_of (a ++ b) ≡ targets_of a ++ targets_of b
targets-append [] b = refl
targets-append (line ∷ a) b = ap (λ ts. target_of line ++ ts) (targets-append a b) ∙ sym (append-assoc (target_of line) (targets_of a) (targets_of b))

pub size-append : (a b : List Line) → lines_size (a ++ b) ≡ lines_size a + lines_size b
size-append [] b = omega arith
size-append (line ∷ a) b = omega (arith, size-append a b)

pub bulk-append : (a b : List Line) → bulk (a ++ b) ≡ bulk a + bulk b
bulk-append a b = omega (arith, size-append a b, length-append a b)

pub closed-append : (b : Bool) (a c : List Line) → closed_by b (a ++ c) ≡ closed_by (closed_by b a) c
closed-append b [] c = refl
closed-append b (line ∷ a) c = closed-append (is_closing line) a c

-- a test of each element, of two lists
pub all_parts : {A : Type 0} (p : A → Bool) (a b : List A) → list_all p (a ++ b) ≡ true → (list_all p a ≡ true) × (list_all p b ≡ true)
all_parts p a b h = and_parts (list_all p a) (list_all p b) (sym (list_all-append p a b) ∙ h)

pub all_from : {A : Type 0} (p : A → Bool) (a b : List A) → list_all p a ≡ true → list_all p b ≡ true → list_all p (a ++ b) ≡ true
all_from p a b h k = list_all-append p a b ∙ and_from (list_all p a) (list_all p b) h k

-- ---- a window

-- What new lines owe in place of old ones, between those before and those behind: they are fit, have the same labels, go to
-- labels of the segment, end as the segment has to end, are no larger, and lower what rewritings lower.
pub record Fits (before old new post : List Line) : Type 0 where
  pub fit : list_all is_fit new ≡ true
  pub labels : labels_of new ≡ labels_of old
  pub targets : list_all (is_among (labels_of (before ++ (old ++ post)))) (targets_of new) ≡ true
  pub closed : (b : Bool) → closed_by b (old ++ post) ≡ true → closed_by b (new ++ post) ≡ true

pub same_labels : (before old new post : List Line) → labels_of new ≡ labels_of old → labels_of (before ++ (new ++ post)) ≡ labels_of (before ++ (old ++ post))
same_labels before old new post e =
    labels-append before (new ++ post) ∙ (ap (λ ls. labels_of before ++ ls) (labels-append new post ∙ (ap (λ ls. ls ++ labels_of post) e ∙ sym (labels-append old post)))
    ∙ sym (labels-append before (old ++ post)))

pub kept_fit : (before old new post : List Line) → list_all is_fit new ≡ true → list_all is_fit (before ++ (old ++ post)) ≡ true → list_all is_fit (before ++ (new ++ post)) ≡ true
kept_fit before old new post h k =
    let a = all_parts is_fit before (old ++ post) k in
    all_from is_fit before (new ++ post) a.0 (all_from is_fit new post h (all_parts is_fit old post a.1).1)

pub kept_targets : (p : ℕ → Bool) (before old new post : List Line) → list_all p (targets_of new) ≡ true → list_all p (targets_of (before ++ (old ++ post))) ≡ true
    → list_all p (targets_of (before ++ (new ++ post))) ≡ true
kept_targets p before old new post h k =
    let a = all_parts p (targets_of before) (targets_of (old ++ post)) (ap (list_all p) (sym (targets-append before (old ++ post))) ∙ k) in
    let b = all_parts p (targets_of old) (targets_of post) (ap (list_all p) (sym (targets-append old post)) ∙ a.1) in
    ap (list_all p) (targets-append before (new ++ post)) ∙ all_from p (targets_of before) (targets_of (new ++ post)) a.0
    (ap (list_all p) (targets-append new post) ∙ all_from p (targets_of new) (targets_of post) h b.1)

pub kept_closed : (before old new post : List Line) → ((b : Bool) → closed_by b (old ++ post) ≡ true → closed_by b (new ++ post) ≡ true)
    → closed_by false (before ++ (old ++ post)) ≡ true → closed_by false (before ++ (new ++ post)) ≡ true
kept_closed before old new post h k = closed-append false before (new ++ post) ∙ h (closed_by false before) (sym (closed-append false before (old ++ post)) ∙ k)

pub window_segment : (before old new post : List Line) → IsSegment (before ++ (old ++ post)) → Fits before old new post → IsSegment (before ++ (new ++ post))
window_segment before old new post s f =
    let labels = same_labels before old new post f.labels in
    record {
      fit = kept_fit before old new post f.fit s.fit;
      labels = ap is_distinct labels ∙ s.labels;
      targets = ap (λ ls. list_all (is_among ls) (targets_of (before ++ (new ++ post)))) labels ∙ kept_targets (is_among (labels_of (before ++ (old ++ post)))) before old new post f.targets s.targets;
      closed = kept_closed before old new post f.closed s.closed;
    }

-- ---- where a window stands

pub whole_window : (lines : List Line) (at : ℕ) (rest : List Line) → drop at lines ≡ rest → take at lines ++ rest ≡ lines
whole_window lines at rest e = ap (λ ls. take at lines ++ ls) (sym e) ∙ take-append-drop at lines

pub behind_window : (lines : List Line) (at count : ℕ) (old post : List Line) → drop at lines ≡ old ++ post → length old ≡ count → drop (at + count) lines ≡ post
behind_window lines at count old post e long =
    sym (drop-drop count at lines) ∙ (ap (drop count) e ∙ (ap (λ n. drop n (old ++ post)) (sym long) ∙ drop-append_seam old post))

pub made : (lines : List Line) (at count : ℕ) (old new post : List Line) → drop at lines ≡ old ++ post → length old ≡ count
    → rewritten lines (record { at = at; count = count; lines = new }) ≡ take at lines ++ (new ++ post)
made lines at count old new post e long = ap (λ ls. take at lines ++ (new ++ ls)) (behind_window lines at count old post e long)

within : (lines : List Line) (at count : ℕ) (old post : List Line) → drop at lines ≡ old ++ post → length old ≡ count → 0 < count → at + count ≤ length lines
within lines at count old post e long some =
    let n : length (drop at lines) ≡ length old + length post = ap length e ∙ length-append old post in
    omega (arith, n, length-drop at lines, long, some)

pub lower_bulk_of : (before old new post : List Line) → bulk new < bulk old → bulk (before ++ (new ++ post)) < bulk (before ++ (old ++ post))
lower_bulk_of before old new post h =
    omega (arith, h, bulk-append before (new ++ post), bulk-append new post, bulk-append before (old ++ post), bulk-append old post)

-- What a rewriting keeps, from what the lines from its place on keep.
pub keeps_from : (lines : List Line) (at count : ℕ) (old new post : List Line) → drop at lines ≡ old ++ post → length old ≡ count → 0 < count
    → IsSegment (take at lines ++ (new ++ post)) → lines_size new ≤ lines_size old → IsLower (take at lines ++ (new ++ post)) (take at lines ++ (old ++ post))
    → ((n : ℕ) → All (IsLineWritable n) (old ++ post) → All (IsLineWritable n) (new ++ post)) → Keeps lines (record { at = at; count = count; lines = new })
keeps_from lines at count old new post e long some segment size lower writable =
    let e2 = made lines at count old new post e long in
    let whole = whole_window lines at (old ++ post) e in
    let before = take at lines in
    record {
      within = within lines at count old post e long some;
      segment = subst IsSegment (sym e2) segment;
      size = omega (arith, size, ap lines_size e2, ap lines_size whole, size-append before (new ++ post), size-append new post, size-append before (old ++ post), size-append old post);
      lower = subst (λ ls. IsLower ls lines) (sym e2) (subst (IsLower (before ++ (new ++ post))) whole lower);
      writable = λ n all. subst (All (IsLineWritable n)) (sym e2) (All-append (IsLineWritable n) before (new ++ post) (All-take (IsLineWritable n) at lines all)
          (writable n (subst (All (IsLineWritable n)) e (All-drop (IsLineWritable n) at lines all))));
    }

-- A window of lines in a segment: what new lines owe that weigh less.
pub keeps_window : (lines : List Line) (at count : ℕ) (old new post : List Line) → drop at lines ≡ old ++ post → length old ≡ count → 0 < count → IsSegment lines
    → Fits (take at lines) old new post → lines_size new ≤ lines_size old → bulk new < bulk old
    → ((n : ℕ) → All (IsLineWritable n) (old ++ post) → All (IsLineWritable n) (new ++ post)) → Keeps lines (record { at = at; count = count; lines = new })
keeps_window lines at count old new post e long some s fits size less writable =
    let whole = whole_window lines at (old ++ post) e in
    keeps_from lines at count old new post e long some (window_segment (take at lines) old new post (subst IsSegment (sym whole) s) fits) size
    (inl (lower_bulk_of (take at lines) old new post less)) writable
