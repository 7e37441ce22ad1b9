-- A label to which no line refers goes.
use Rattle.std.proofs.Common.{◌≡◌, ℕ, zero, suc, ◌+◌, ◌≤◌, ◌==◌, inl, inr, Bool, true, false, not, if◌then◌else◌, List, [], ◌∷◌, ◌++◌, length, Some, refl, sym, subst, ap, ◌∙◌, arith}
use Rattle.std.specs.Prelude.{slice_get, take, drop}
use Rattle.std.proofs.lemmas.Bool.{eq-eqb, eqb-true}
use Rattle.std.proofs.lemmas.List.{take-append-drop, drop-drop}
use Rattle.c65_mach.specs.State.{Regs}
use Rattle.c65_code.proofs.PartLaws.{all_iff}
use Rattle.c65_code.specs.declared.line.Line.{Line}
use Rattle.c65_code.specs.declared.line.Line.TheVariants.{Label}
use Rattle.c65_code.specs.declared.parts.RegSet.{RegSet}
use Rattle.c65_code.specs.Follows.{Follows}
use Rattle.c65_code.specs.Forms.{Form, form_of}
use Rattle.c65_code.specs.Moves.{settle, next}
use Rattle.c65_code.specs.Parts.{all_parts}
use Rattle.c65_code.specs.Placement.{Setting}
use Rattle.c65_code.specs.Rewriting.{with_lines, mapped_in}
use Rattle.c65_code.specs.Segments.{target_of, targets_of, is_among}
use Rattle.c65_code.specs.Steady.{HasLines}
use Rattle.c65_know.specs.Known.{annotated}
use Rattle.c65_pass.specs.FlowRules.{gone_if, unused_label}
use Rattle.c65_pass.specs.Rewriting.{Rewriting, rewritten}
use Rattle.c65_pass.specs.Rules.{match_there}
use Rattle.c65_opt_law_straight.specs.Laws.{IsByteLine}
use Rattle.c65_opt_law_follow.specs.Laws.{AreByteLines, IsApt}
use Rattle.c65_opt_law_follow.proofs.Rewriting.{fit_at}
use Rattle.c65_opt_law_follow.proofs.Setup.{side, IsOut, Setup}
use Rattle.c65_opt_law_kept.specs.Laws.{IsFollowedBy, RuleIsFollowed}
use Rattle.c65_opt_law_chains.proofs.Places.{same_line, no_line, target_among, moved, IsOff, line_moves, entry_moves, suc_moves, next_moves, settles_off, next_off}

byte_at : (lines : List Line) (q : ℕ) (x : Line) → AreByteLines lines → slice_get lines q ≡ Some x → IsByteLine x
byte_at [] q x bytes e = absurd (no_line x e)
byte_at (y ∷ lines) zero x bytes e = subst IsByteLine (same_line y x e) bytes.0
byte_at (y ∷ lines) (suc q) x bytes e = byte_at lines q x bytes.1 e

has_lines : (lines : List Line) → 1 ≤ length lines → HasLines lines
has_lines [] le = absurd (omega (arith, le))
has_lines (x ∷ lines) le = tt

-- lines of two codes, where places of the one go, and the places at which it stands
record IsMoved (X Y : List Line) (m : ℕ → ℕ) (off : ℕ → Type 0) : Type 0 where
  some : HasLines X → HasLines Y
  line : (q : ℕ) (x : Line) → off q → slice_get X q ≡ Some x → slice_get Y (m q) ≡ Some x
  leads : (q : ℕ) (x : Line) (regs : Regs) → off q → slice_get X q ≡ Some x → m (next X (form_of x) q regs) ≡ next Y (form_of x) (m q) regs
  behind : (q : ℕ) → off q → m (settle X (suc q)) ≡ settle Y (suc (m q))
  entry : m (settle X 0) ≡ settle Y 0
  settles : (p : ℕ) → off (settle X p)
  stands : (form : Form) (q : ℕ) (regs : Regs) → off (next X form q regs)

-- Where no run stands at a place of a function, whatever stands there, a code with other lines follows.
abbrev pub UnreachedFollow : Type 0
UnreachedFollow = (s : Setting) (A B : ℕ → List Line) (f start main : ℕ) (old : List Line) (m : ℕ → ℕ → ℕ) → Setup s A B f start old m (λ g q. all_parts) (λ q t. q ≡ start → ⊥) → Follows m 0 (side s A) (side s B) main

module _ (s : Setting) (f main : ℕ) (out : RegSet) (front after : List Line) (l : ℕ) (apt : IsApt f out (with_lines s f (front ++ (Label l ∷ after)))) (some : 1 ≤ length (front ++ after))
    (apart : (q : ℕ) (x : Line) (k : ℕ) → slice_get (front ++ (Label l ∷ after)) q ≡ Some x → target_of x ≡ k ∷ [] → k ≡ l → ⊥) where
  abbrev A : ℕ → List Line
  A g = if g == f then front ++ (Label l ∷ after) else s.lines g

  abbrev B : ℕ → List Line
  B g = if g == f then front ++ after else s.lines g

  abbrev m : ℕ → ℕ → ℕ
  m g q = if g == f then moved front after l q else q

  abbrev Out : ℕ → ℕ → Type 0
  Out g q = IsOut f (length front) (length front + 1) g q

  off_of : (g q : ℕ) → g ≡ f → Out g q → IsOff front after l q
  off_of g q e (inl other) = absurd (other e)
  off_of g q e (inr h) = h

  moved_lines : (g : ℕ) → IsMoved (A g) (B g) (m g) (Out g)
  moved_lines g = pick (g == f) refl
    where
      pick : (b : Bool) → (g == f) ≡ b → IsMoved (if b then front ++ (Label l ∷ after) else s.lines g) (if b then front ++ after else s.lines g) (λ q. if b then moved front after l q else q) (Out g)
      pick true e =
          let is : g ≡ f = eqb-true g f e in
          record {
            some = λ h. has_lines (front ++ after) some;
            line = λ q x o h. line_moves front after l q x (off_of g q is o) h;
            leads = λ q x regs o h. next_moves front after l q x regs (off_of g q is o) (λ k t same. apart q x k h t same);
            behind = λ q o. suc_moves front after l q (off_of g q is o);
            entry = entry_moves front after l;
            settles = λ p. inr (settles_off front after l p);
            stands = λ form q regs. inr (next_off front after l form q regs);
          }
      pick false e =
          let other : g ≡ f → ⊥ = λ h. clash (g == f) (eq-eqb g f h) e in
          record { some = λ h. h; line = λ q x o h. h; leads = λ q x regs o h. refl; behind = λ q o. refl; entry = refl; settles = λ p. inl other; stands = λ form q regs. inl other }
        where
          clash : (b : Bool) → b ≡ true → b ≡ false → ⊥
          clash b h k = cc

  -- no run stands at the label
  never : (g q : ℕ) → g ≡ f → Out g q → q ≡ length front → ⊥
  never g q e (inl other) h = other e
  never g q e (inr (inl lt)) h = omega (arith, lt, h)
  never g q e (inr (inr ge)) h = omega (arith, ge, h)

  setup : Setup s A B f (length front) (Label l ∷ []) m (λ g q. all_parts) (λ q t. q ≡ length front → ⊥)
  setup = record {
    low = apt.low;
    own = apt.own;
    fit = λ g q x h. fit_at (A g) q x (apt.sound g).fit h;
    byte = λ g q x h. byte_at (A g) q x (apt.sound g).bytes h;
    there = λ g h. (moved_lines g).some h;
    line_same = λ g q x o h. (moved_lines g).line q x o h;
    next_same = λ g q x regs o h. (moved_lines g).leads q x regs o h;
    ret_same = λ g q o. (moved_lines g).behind q o;
    entry_same = λ g. (moved_lines g).entry;
    reach_next = λ g q x regs o h. inr ((moved_lines g).stands (form_of x) q regs);
    reach_ret = λ g q o. inr ((moved_lines g).settles (suc q));
    reach_entry = λ g. inr ((moved_lines g).settles 0);
    live_line = λ g q x regs h i p part y. (all_iff p).1 part;
    live_reads = λ g q x h p part y. (all_iff p).1 part;
    known_entry = λ g t e le. never g (settle (A g) 0) e ((moved_lines g).settles 0);
    known_ret = λ g q x t e h i le. never g (settle (A g) (suc q)) e ((moved_lines g).settles (suc q));
    known_step = λ g q x t u e lt h i bytes run d k. never g (next (A g) (form_of x) q t.regs) e ((moved_lines g).stands (form_of x) q t.regs);
    known_back = λ g q x regs u e le h i early. never g (next (A g) (form_of x) q regs) e ((moved_lines g).stands (form_of x) q regs);
  }

  pub label_goes : UnreachedFollow → Follows m 0 (with_lines s f (front ++ (Label l ∷ after))) (with_lines s f (front ++ after)) main
  label_goes follow = follow s A B f (length front) main (Label l ∷ []) m setup

-- ---- the rule

unused_apart : (lines : List Line) (l q k : ℕ) (x : Line) → not (is_among (targets_of lines) l) ≡ true → slice_get lines q ≡ Some x → target_of x ≡ k ∷ [] → k ≡ l → ⊥
unused_apart lines l q k x unused at target same =
    clash (is_among (targets_of lines) l) (subst (λ (n : ℕ). is_among (targets_of lines) n ≡ true) same (target_among lines q x k at target)) unused
  where
    clash : (b : Bool) → b ≡ true → not b ≡ true → ⊥
    clash true h k = cc
    clash false h k = cc

gone_is : (b : Bool) (at : ℕ) (w : Rewriting) → gone_if b at ≡ Some w → (b ≡ true) × (record { at = at; count = 1; lines = [] } ≡ w)
gone_is false at w m = absurd cc
gone_is true at w m = (refl, cc)

module _ (follow : UnreachedFollow) (f main : ℕ) (out : RegSet) (lines : List Line) (at : ℕ) (w : Rewriting) (some : 1 ≤ length (rewritten lines w)) where
  gone : (line : Line) (post : List Line) → drop at lines ≡ line ∷ post → unused_label lines at line ≡ Some w → IsFollowedBy f main out lines (rewritten lines w)
  gone (Label l) post e k =
      let made = gone_is (not (is_among (targets_of lines) l)) at w k in
      let parts : take at lines ++ (Label l ∷ post) ≡ lines = ap (λ (x : List Line). take at lines ++ x) (sym e) ∙ take-append-drop at lines in
      let rest : drop (at + 1) lines ≡ post = sym (drop-drop 1 at lines) ∙ ap (drop 1) e in
      let new : take at lines ++ post ≡ rewritten lines w = ap (λ (x : List Line). take at lines ++ x) (sym rest) ∙ ap (rewritten lines) made.1 in
      record {
        map = moved (take at lines) post l;
        more = 0;
        follows = λ s apt.
            let done = label_goes s f main out (take at lines) post l (subst (λ (x : List Line). IsApt f out (with_lines s f x)) (sym parts) apt) (subst (λ (x : List Line). 1 ≤ length x) (sym new) some)
            (subst (λ (x : List Line). (q : ℕ) (y : Line) (k : ℕ) → slice_get x q ≡ Some y → target_of y ≡ k ∷ [] → k ≡ l → ⊥) (sym parts) (λ q y k. unused_apart lines l q k y made.0)) follow in
            subst (λ (x : List Line). Follows (mapped_in f (moved (take at lines) post l)) 0 (with_lines s f lines) (with_lines s f x) main) new
            (subst (λ (x : List Line). Follows (mapped_in f (moved (take at lines) post l)) 0 (with_lines s f x) (with_lines s f (take at lines ++ post)) main) parts done);
      }
  gone _ post e k = absurd cc

pub unused_followed : UnreachedFollow → RuleIsFollowed 7
unused_followed follow f main out literals lines table at w segment is m sound some = go (drop at lines) refl m
  where
    go : (rest : List Line) → drop at lines ≡ rest → match_there 7 literals (annotated lines out) table at rest ≡ Some w → IsFollowedBy f main out lines (rewritten lines w)
    go [] e k = absurd cc
    go (line ∷ post) e k = gone follow f main out lines at w some line post e k
