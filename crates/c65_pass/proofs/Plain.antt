-- Lines without labels in the place of others: what rewritings of whole windows keep.
use Rattle.std.proofs.Common.{◌≡◌, ℕ, ◌+◌, ◌<◌, ◌≤◌, Bool, true, List, [], ◌∷◌, ◌++◌, take, drop, length, length-append, length-drop, refl, sym, subst, arith, ap, ◌∙◌}
use Rattle.std.specs.Prelude.{All}
use Rattle.std.specs.List.{list_all}
use Rattle.std.proofs.lemmas.List.Elements.{All-nil, All-head, All-tail, All-cons, All-append, All-take, All-drop}
use Rattle.c65_code.specs.declared.line.Line.{Line}
use Rattle.c65_code.specs.Segments.{IsSegment, is_fit, labels_of, targets_of, is_among, closed_by}
use Rattle.c65_code.specs.Weights.{lines_size}
use Rattle.c65_code.specs.Writable.{IsLineWritable}
use Rattle.c65_pass.specs.Once.{Stays}
use Rattle.c65_pass.specs.Rewriting.{Rewriting, bulk, Keeps}
use Rattle.c65_pass.proofs.Windows.{all_parts, size-append, Fits, window_segment, whole_window, made, keeps_window}

-- what new lines owe in place of old ones: neither have labels, the new ones go nowhere, stand and end where the old ones do, and
-- are no larger
pub record IsStandIn (old new : List Line) : Type 0 where
  pub bare : labels_of old ≡ []
  pub plain : labels_of new ≡ []
  pub still : list_all is_fit old ≡ true → targets_of new ≡ []
  pub fit : list_all is_fit old ≡ true → list_all is_fit new ≡ true
  pub onward : (b : Bool) (post : List Line) → closed_by b (old ++ post) ≡ true → closed_by b (new ++ post) ≡ true
  pub size : lines_size new ≤ lines_size old
  pub writable : (n : ℕ) → All (IsLineWritable n) old → All (IsLineWritable n) new

pub all_cut : (P : Line → Type 0) (xs ys : List Line) → All P (xs ++ ys) → All P xs × All P ys
all_cut P [] ys h = (All-nil P, h)
all_cut P (x ∷ xs) ys h =
    let rest = all_cut P xs ys (All-tail P x (xs ++ ys) h) in
    (All-cons P x xs (All-head P x (xs ++ ys) h) rest.0, rest.1)

fits : (lines : List Line) (at : ℕ) (old new post : List Line) → drop at lines ≡ old ++ post → IsSegment lines → IsStandIn old new → Fits (take at lines) old new post
fits lines at old new post e s stand =
    let s2 = subst IsSegment (sym (whole_window lines at (old ++ post) e)) s in
    let fit = (all_parts is_fit old post (all_parts is_fit (take at lines) (old ++ post) s2.fit).1).0 in
    record {
      fit = stand.fit fit;
      labels = stand.plain ∙ sym stand.bare;
      targets = ap (list_all (is_among (labels_of (take at lines ++ (old ++ post))))) (stand.still fit);
      closed = λ b k. stand.onward b post k;
    }

writes : (old new post : List Line) (n : ℕ) → IsStandIn old new → All (IsLineWritable n) (old ++ post) → All (IsLineWritable n) (new ++ post)
writes old new post n stand all =
    let parts = all_cut (IsLineWritable n) old post all in
    All-append (IsLineWritable n) new post (stand.writable n parts.0) parts.1

inside : (lines : List Line) (at count : ℕ) (old post : List Line) → drop at lines ≡ old ++ post → length old ≡ count → 0 < count → at + count ≤ length lines
inside lines at count old post e long some =
    let n : length (drop at lines) ≡ length old + length post = ap length e ∙ length-append old post in
    omega (arith, n, length-drop at lines, long, some)

-- where the new lines are fewer
pub keeps_plain : (lines : List Line) (at count : ℕ) (old new post : List Line) (w : Rewriting) → drop at lines ≡ old ++ post → length old ≡ count → 0 < count → IsSegment lines
    → IsStandIn old new → bulk new < bulk old → record { at = at; count = count; lines = new } ≡ w → Keeps lines w
keeps_plain lines at count old new post w e long some s stand less is =
    subst (Keeps lines) is (keeps_window lines at count old new post e long some s (fits lines at old new post e s stand) stand.size less (λ n all. writes old new post n stand all))

-- where they may be more
pub stays_plain : (lines : List Line) (at count : ℕ) (old new post : List Line) (w : Rewriting) → drop at lines ≡ old ++ post → length old ≡ count → 0 < count → IsSegment lines
    → IsStandIn old new → record { at = at; count = count; lines = new } ≡ w → Stays lines at w
stays_plain lines at count old new post w e long some s stand is =
    let before = take at lines in
    let whole = whole_window lines at (old ++ post) e in
    let now = made lines at count old new post e long in
    let size = stand.size in
    subst (Stays lines at) is (record {
      here = refl;
      some = some;
      within = inside lines at count old post e long some;
      segment = subst IsSegment (sym now) (window_segment before old new post (subst IsSegment (sym whole) s) (fits lines at old new post e s stand));
      size = omega (arith, size, ap lines_size now, ap lines_size whole, size-append before (new ++ post), size-append new post, size-append before (old ++ post), size-append old post);
      writable = λ n all. subst (All (IsLineWritable n)) (sym now) (All-append (IsLineWritable n) before (new ++ post) (All-take (IsLineWritable n) at lines all)
          (writes old new post n stand (subst (All (IsLineWritable n)) e (All-drop (IsLineWritable n) at lines all))));
    })
