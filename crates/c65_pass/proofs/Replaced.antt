-- What rewritings of one line or two keep.
use Rattle.std.proofs.Common.{◌≡◌, ℕ, ◌<◌, ◌≤◌, Bool, true, false, List, [], ◌∷◌, ◌++◌, take, drop, Option, Some, None, refl, sym, subst, ap, ◌∙◌, arith}
use Rattle.std.specs.List.{list_all}
use Rattle.std.proofs.lemmas.Bool.{and_from, and_parts}
use Rattle.std.proofs.lemmas.List.Elements.{All-head, All-tail, All-cons}
use Rattle.c65_code.specs.declared.line.Line.{Line}
use Rattle.c65_code.specs.declared.line.Line.TheVariants.{Label, Do, Call}
use Rattle.c65_code.specs.Segments.{IsSegment, is_fit, labels_of, target_of, targets_of, is_among, is_closing, closed_by}
use Rattle.c65_code.specs.Weights.{line_size}
use Rattle.c65_code.specs.Writable.{IsLineWritable}
use Rattle.c65_pass.specs.FlowRules.{gone_if, alone_if}
use Rattle.c65_pass.specs.LoadRules.{instead}
use Rattle.c65_pass.specs.Rewriting.{Rewriting, Keeps}
use Rattle.c65_pass.proofs.Windows.{all_parts, all_from, targets-append, keeps_window, whole_window}

-- a line that is no label, and after which the next one comes
pub record IsQuiet (line : Line) : Type 0 where
  pub plain : labels_of (line ∷ []) ≡ []
  pub onward : is_closing line ≡ false

-- the segment, from the lines before a place and those from there on
there : (lines : List Line) (at : ℕ) (rest : List Line) → drop at lines ≡ rest → IsSegment lines → IsSegment (take at lines ++ rest)
there lines at rest e s = subst IsSegment (sym (whole_window lines at rest e)) s

-- lines that close a segment close it behind any line
anyhow : (post : List Line) (b : Bool) → closed_by false post ≡ true → closed_by b post ≡ true
anyhow [] b h = absurd cc
anyhow (line ∷ post) b h = h

past : (line : Line) (post : List Line) (b c : Bool) → IsQuiet line → closed_by c (line ∷ post) ≡ true → closed_by b post ≡ true
past line post b c quiet k = anyhow post b (ap (λ d. closed_by d post) (sym quiet.onward) ∙ k)

joined_labels : (line : Line) (rest : List Line) → labels_of (line ∷ []) ≡ [] → labels_of (line ∷ rest) ≡ labels_of rest
joined_labels (Label l) rest h = absurd cc
joined_labels (Do op mode operand) rest h = refl
joined_labels (Call callee) rest h = refl

fit_there : (before old post : List Line) → IsSegment (before ++ (old ++ post)) → list_all is_fit old ≡ true
fit_there before old post s = (all_parts is_fit old post (all_parts is_fit before (old ++ post) s.fit).1).0

targets_there : (before old post : List Line) → IsSegment (before ++ (old ++ post)) → list_all (is_among (labels_of (before ++ (old ++ post)))) (targets_of old) ≡ true
targets_there before old post s =
    let p = is_among (labels_of (before ++ (old ++ post))) in
    let a = all_parts p (targets_of before) (targets_of (old ++ post)) (ap (list_all p) (sym (targets-append before (old ++ post))) ∙ s.targets) in
    (all_parts p (targets_of old) (targets_of post) (ap (list_all p) (sym (targets-append old post)) ∙ a.1)).0

all_first : (p : ℕ → Bool) (line : Line) (rest : List Line) → list_all p (targets_of (line ∷ rest)) ≡ true → list_all p (targets_of (line ∷ [])) ≡ true
all_first p line rest h = all_from p (target_of line) [] (all_parts p (target_of line) (targets_of rest) h).0 refl

-- ---- a line that goes

gone : (lines : List Line) (at : ℕ) (line : Line) (post : List Line) → drop at lines ≡ line ∷ post → IsSegment lines → IsQuiet line → Keeps lines (record { at = at; count = 1; lines = [] })
gone lines at line post e s quiet =
    keeps_window lines at 1 (line ∷ []) [] post e (omega arith) (omega arith) s (record { fit = refl; labels = sym quiet.plain; targets = refl; closed = λ b k. past line post b b quiet k })
    (omega arith) (omega arith) (λ n all. All-tail (IsLineWritable n) line post all)

pub gone_keeps : (lines : List Line) (at : ℕ) (line : Line) (post : List Line) (w : Rewriting) (b : Bool) → drop at lines ≡ line ∷ post → IsSegment lines
    → (b ≡ true → IsQuiet line) → gone_if b at ≡ Some w → Keeps lines w
gone_keeps lines at line post w true e s quiet m =
    let is : record { at = at; count = 1; lines = [] } ≡ w = cc in
    subst (Keeps lines) is (gone lines at line post e s (quiet refl))
gone_keeps lines at line post w false e s quiet m = absurd cc

-- ---- the first of two lines, and the second, alone

first : (lines : List Line) (at : ℕ) (line next : Line) (post : List Line) → drop at lines ≡ line ∷ next ∷ post → IsSegment lines → IsQuiet line → IsQuiet next
    → Keeps lines (record { at = at; count = 2; lines = line ∷ [] })
first lines at line next post e s quiet after =
    let s2 = there lines at (line ∷ next ∷ post) e s in
    let p = is_among (labels_of (take at lines ++ (line ∷ next ∷ post))) in
    let fit = (and_parts (is_fit line) (list_all is_fit (next ∷ [])) (fit_there (take at lines) (line ∷ next ∷ []) post s2)).0 in
    keeps_window lines at 2 (line ∷ next ∷ []) (line ∷ []) post e (omega arith) (omega arith) s
    (record {
      fit = and_from (is_fit line) true fit refl;
      labels = quiet.plain ∙ sym (joined_labels line (next ∷ []) quiet.plain ∙ after.plain);
      targets = all_first p line (next ∷ []) (targets_there (take at lines) (line ∷ next ∷ []) post s2);
      closed = λ b k. past next post (is_closing line) (is_closing line) after k;
    })
    (omega arith) (omega arith) (λ n all. All-cons (IsLineWritable n) line post (All-head (IsLineWritable n) line (next ∷ post) all)
    (All-tail (IsLineWritable n) next post (All-tail (IsLineWritable n) line (next ∷ post) all)))

pub first_keeps : (lines : List Line) (at : ℕ) (line next : Line) (post : List Line) (w : Rewriting) (b : Bool) → drop at lines ≡ line ∷ next ∷ post → IsSegment lines
    → (b ≡ true → IsQuiet line × IsQuiet next) → alone_if b at line ≡ Some w → Keeps lines w
first_keeps lines at line next post w true e s quiet m =
    let is : record { at = at; count = 2; lines = line ∷ [] } ≡ w = cc in
    subst (Keeps lines) is (first lines at line next post e s (quiet refl).0 (quiet refl).1)
first_keeps lines at line next post w false e s quiet m = absurd cc

second : (lines : List Line) (at : ℕ) (line next : Line) (post : List Line) → drop at lines ≡ line ∷ next ∷ post → IsSegment lines → IsQuiet line
    → Keeps lines (record { at = at; count = 2; lines = next ∷ [] })
second lines at line next post e s quiet =
    let s2 = there lines at (line ∷ next ∷ post) e s in
    let p = is_among (labels_of (take at lines ++ (line ∷ next ∷ post))) in
    let fit = (and_parts (is_fit line) (list_all is_fit (next ∷ [])) (fit_there (take at lines) (line ∷ next ∷ []) post s2)).1 in
    keeps_window lines at 2 (line ∷ next ∷ []) (next ∷ []) post e (omega arith) (omega arith) s
    (record {
      fit = fit;
      labels = sym (joined_labels line (next ∷ []) quiet.plain);
      targets = (all_parts p (target_of line) (targets_of (next ∷ [])) (targets_there (take at lines) (line ∷ next ∷ []) post s2)).1;
      closed = λ b k. k;
    })
    (omega arith) (omega arith) (λ n all. All-tail (IsLineWritable n) line (next ∷ post) all)

pub second_keeps : (lines : List Line) (at : ℕ) (line next : Line) (post : List Line) (w : Rewriting) (b : Bool) → drop at lines ≡ line ∷ next ∷ post → IsSegment lines
    → (b ≡ true → IsQuiet line) → alone_if b at next ≡ Some w → Keeps lines w
second_keeps lines at line next post w true e s quiet m =
    let is : record { at = at; count = 2; lines = next ∷ [] } ≡ w = cc in
    subst (Keeps lines) is (second lines at line next post e s (quiet refl))
second_keeps lines at line next post w false e s quiet m = absurd cc

-- ---- another line

-- what a line owes in the place of one that is quiet
pub record IsSmaller (line new : Line) : Type 0 where
  pub fit : is_fit new ≡ true
  pub quiet : IsQuiet new
  pub still : target_of new ≡ []
  pub size : line_size new < line_size line
  pub writable : (n : ℕ) → IsLineWritable n new

other : (lines : List Line) (at : ℕ) (line new : Line) (post : List Line) → drop at lines ≡ line ∷ post → IsSegment lines → IsQuiet line → IsSmaller line new
    → Keeps lines (record { at = at; count = 1; lines = new ∷ [] })
other lines at line new post e s quiet small =
    let size = small.size in
    let p = is_among (labels_of (take at lines ++ (line ∷ post))) in
    keeps_window lines at 1 (line ∷ []) (new ∷ []) post e (omega arith) (omega arith) s
    (record {
      fit = and_from (is_fit new) true small.fit refl;
      labels = small.quiet.plain ∙ sym quiet.plain;
      targets = ap (λ ls. list_all p (ls ++ [])) small.still;
      closed = λ b k. ap (λ c. closed_by c post) (small.quiet.onward ∙ sym quiet.onward) ∙ k;
    })
    (omega arith) (omega arith) (λ n all. All-cons (IsLineWritable n) new post (small.writable n) (All-tail (IsLineWritable n) line post all))

pub other_keeps : (lines : List Line) (at : ℕ) (line : Line) (post : List Line) (w : Rewriting) (new : Option Line) → drop at lines ≡ line ∷ post → IsSegment lines
    → ((l : Line) → new ≡ Some l → IsQuiet line × IsSmaller line l) → instead 1 at new ≡ Some w → Keeps lines w
other_keeps lines at line post w None e s small m = absurd cc
other_keeps lines at line post w (Some l) e s small m =
    let is : record { at = at; count = 1; lines = l ∷ [] } ≡ w = cc in
    let h = small l refl in
    subst (Keeps lines) is (other lines at line l post e s h.0 h.1)

-- ---- one line in place of two

-- what a line owes in the place of two that are quiet: it is fit and writable where the first one is, and goes where that goes
pub record IsBoth (line next new : Line) : Type 0 where
  pub first : IsQuiet line
  pub second : IsQuiet next
  pub quiet : IsQuiet new
  pub fit : is_fit line ≡ true → is_fit new ≡ true
  pub same : target_of new ≡ target_of line
  pub size : line_size new ≤ line_size line
  pub writable : (n : ℕ) → IsLineWritable n line → IsLineWritable n new

both : (lines : List Line) (at : ℕ) (line next new : Line) (post : List Line) → drop at lines ≡ line ∷ next ∷ post → IsSegment lines → IsBoth line next new
    → Keeps lines (record { at = at; count = 2; lines = new ∷ [] })
both lines at line next new post e s h =
    let s2 = there lines at (line ∷ next ∷ post) e s in
    let p = is_among (labels_of (take at lines ++ (line ∷ next ∷ post))) in
    let fit = (and_parts (is_fit line) (list_all is_fit (next ∷ [])) (fit_there (take at lines) (line ∷ next ∷ []) post s2)).0 in
    let size = h.size in
    keeps_window lines at 2 (line ∷ next ∷ []) (new ∷ []) post e (omega arith) (omega arith) s
    (record {
      fit = and_from (is_fit new) true (h.fit fit) refl;
      labels = h.quiet.plain ∙ sym (joined_labels line (next ∷ []) h.first.plain ∙ h.second.plain);
      targets = ap (λ ls. list_all p (ls ++ [])) h.same ∙ all_first p line (next ∷ []) (targets_there (take at lines) (line ∷ next ∷ []) post s2);
      closed = λ b k. ap (λ c. closed_by c post) (h.quiet.onward ∙ sym h.second.onward) ∙ k;
    })
    (omega arith) (omega arith) (λ n all. All-cons (IsLineWritable n) new post (h.writable n (All-head (IsLineWritable n) line (next ∷ post) all))
    (All-tail (IsLineWritable n) next post (All-tail (IsLineWritable n) line (next ∷ post) all)))

pub both_keeps : (lines : List Line) (at : ℕ) (line next : Line) (post : List Line) (w : Rewriting) (new : Option Line) → drop at lines ≡ line ∷ next ∷ post → IsSegment lines
    → ((l : Line) → new ≡ Some l → IsBoth line next l) → instead 2 at new ≡ Some w → Keeps lines w
both_keeps lines at line next post w None e s h m = absurd cc
both_keeps lines at line next post w (Some l) e s h m =
    let is : record { at = at; count = 2; lines = l ∷ [] } ≡ w = cc in
    subst (Keeps lines) is (both lines at line next l post e s (h l refl))
