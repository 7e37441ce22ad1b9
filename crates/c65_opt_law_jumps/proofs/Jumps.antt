-- Jumps and branches that go or are turned.
use Rattle.std.proofs.Common.{◌≡◌, ℕ, zero, suc, ◌+◌, ◌-◌, ◌<◌, ◌≤◌, Bool, true, false, List, [], ◌∷◌, length, Option, Some, None, IsTrue, refl, sym, subst, ap, ◌∙◌, arith}
use Rattle.std.specs.Prelude.{slice_get, take, drop}
use Rattle.std.specs.List.{list_all}
use Rattle.std.proofs.lemmas.Bool.{and_parts}
use Rattle.std.proofs.lemmas.List.{drop-drop, length-drop}
use Rattle.c65_mach.specs.declared.rows.Op.{Op}
use Rattle.c65_mach.specs.declared.rows.Op.TheVariants as ops
use Rattle.c65_mach.specs.declared.rows.Mode.TheVariants.{Absolute, Relative}
use Rattle.c65_mach.specs.Step.{is_not, is_taken}
use Rattle.c65_code.specs.declared.line.Line.{Line}
use Rattle.c65_code.specs.declared.line.Line.TheVariants.{Do}
use Rattle.c65_code.specs.declared.line.Operand.TheVariants.{To}
use Rattle.c65_code.specs.declared.line.Sym.{Sym}
use Rattle.c65_code.specs.declared.parts.RegSet.{RegSet}
use Rattle.c65_code.specs.Forms.{Form, Branch, Jump, form_of}
use Rattle.c65_code.specs.LineState.{State, IsBytes}
use Rattle.c65_code.specs.Moves.{settle, labelled}
use Rattle.c65_code.specs.Placement.{Setting}
use Rattle.c65_code.specs.Rewriting.{with_lines}
use Rattle.c65_code.specs.Segments.{IsSegment, is_fit}
use Rattle.c65_code.specs.Steady.{IsSteady, IsWithin}
use Rattle.c65_know.specs.declared.note.Note.{Note}
use Rattle.c65_know.specs.Known.{annotated, known_of}
use Rattle.c65_know_law.specs.Laws.{Knows}
use Rattle.c65_know_law.specs.Truth.{IsTrueOf}
use Rattle.c65_live.specs.Tables.{Table, IsLiveTable, live_after}
use Rattle.c65_pass.specs.FlowRules.{gone_if, opposite, inverted_if, inverted, idle_jump, idle_branch, is_passed, passed_branch, flow_rule}
use Rattle.c65_pass.specs.Labels.{jump_target, branch_target, begins_with, begins_with_target}
use Rattle.c65_pass.specs.Rewriting.{Rewriting, rewritten}
use Rattle.c65_pass.specs.Rules.{made_by, match_there, match_at}
use Rattle.c65_opt_law_follow.specs.Windows.{WayOut, Behind, ToLabel, IsPassed, IsInner, AreInner, Way, ends, goes, jumps, branches, passes, Safe, safe_end, safe_line, safe_jump, safe_branch, Answers, Starts, Justified}
use Rattle.c65_opt_law_follow.specs.Laws.{IsSound, IsApt, exit_place, before_place}
use Rattle.c65_opt_law_follow.proofs.Near.{near_itself}
use Rattle.c65_opt_law_follow.proofs.Rewriting.{fit_at}
use Rattle.c65_opt_law_kept.specs.Laws.{IsFollowedBy, RuleIsFollowed}
use Rattle.c65_opt_law_kept.proofs.Kept.{window_is_followed}
use Rattle.c65_opt_law_jumps.proofs.Labels.{at_once}
use Rattle.c65_opt_law_jumps.proofs.Branches.{branch_form, opposite_form, opposite_taken, passed_shown}

-- ---- the line at a place

pub at_line : (rule : ℕ) (out : RegSet) (literals : List (Sym × List ℕ)) (lines : List Line) (table : Table) (at : ℕ) (w : Rewriting) (P : Type 0)
    → ((line : Line) (post : List Line) → drop at lines ≡ line ∷ post → made_by rule literals (annotated lines out) table at line post ≡ Some w → P)
    → match_at rule literals (annotated lines out) table at ≡ Some w → P
at_line rule out literals lines table at w P owed m = go (drop at lines) refl m
  where
    go : (rest : List Line) → drop at lines ≡ rest → match_there rule literals (annotated lines out) table at rest ≡ Some w → P
    go [] e k = absurd cc
    go (line ∷ post) e k = owed line post e k

pub room : (lines : List Line) (at : ℕ) (line : Line) (post : List Line) → drop at lines ≡ line ∷ post → at + 1 ≤ length lines
room lines at line post e = omega (arith, ap length e, length-drop at lines)

pub get_at : (lines : List Line) (at : ℕ) (line : Line) (post : List Line) → drop at lines ≡ line ∷ post → slice_get lines at ≡ Some line
get_at [] zero line post e = absurd cc
get_at [] (suc at) line post e = absurd cc
get_at (l ∷ lines) zero line post e = let same : l ≡ line = cc in ap Some same
get_at (l ∷ lines) (suc at) line post e = get_at lines at line post e

behind_one : (lines : List Line) (at : ℕ) (line : Line) (post : List Line) → drop at lines ≡ line ∷ post → drop (at + 1) lines ≡ post
behind_one lines at line post e = sym (drop-drop 1 at lines) ∙ ap (drop 1) e

behind_two : (lines : List Line) (at : ℕ) (line next : Line) (post : List Line) → drop at lines ≡ line ∷ next ∷ post → drop (at + 2) lines ≡ post
behind_two lines at line next post e = sym (drop-drop 2 at lines) ∙ ap (drop 2) e

pub fit_line : (lines : List Line) (at : ℕ) (line : Line) (post : List Line) → IsSegment lines → drop at lines ≡ line ∷ post → is_fit line ≡ true
fit_line lines at line post segment e = fit_at lines at line segment.fit (get_at lines at line post e)

inner_by : (line : Line) (form : Form) → form_of line ≡ form → IsInner form → IsInner (form_of line)
inner_by line form e i = subst IsInner (sym e) i

-- ---- windows that go

module _ (s : Setting) (to : WayOut → ℕ) (after : WayOut → RegSet) (known : State → Type 0) where
  -- nothing stands for lines where each old way leaves as it came, to the place behind them
  goes_away : (old : List Line) → ((t : State) → t.ended ≡ None → known t → (e : WayOut) × (w : ℕ) × Way s.place old t e t w × (to e ≡ to Behind)) → Justified s to after known old []
  goes_away old way = record {
    safe = λ w t h. safe_end;
    answers = λ w t h e u v none. answer t h.running h.knows e u v none;
  }
    where
      answer : (t : State) → t.ended ≡ None → known t → (e : WayOut) (u : State) (v : ℕ) → Way s.place [] t e u v → Answers s.place to after old t e u v
      answer t r k e u v ends = let y = way t r k in record { old_exit = y.0; state = t; weighs = y.1; way = y.2; less = omega arith; same = y.3; near = near_itself (after y.0) t }

  pub jump_goes : (line : Line) (l : ℕ) → form_of line ≡ Jump l → to (ToLabel l) ≡ to Behind → Justified s to after known (line ∷ []) []
  jump_goes line l e same = goes_away (line ∷ []) (λ t r k. (ToLabel l, 1, jumps l e, same))

  pub branch_goes : (line : Line) (op : Op) (l : ℕ) → form_of line ≡ Branch op l → to (ToLabel l) ≡ to Behind → Justified s to after known (line ∷ []) []
  branch_goes line op l e same = goes_away (line ∷ []) (λ t r k. turn t (is_taken op t.regs) refl)
    where
      turn : (t : State) (b : Bool) → is_taken op t.regs ≡ b → (e : WayOut) × (w : ℕ) × Way s.place (line ∷ []) t e t w × (to e ≡ to Behind)
      turn t true z = (ToLabel l, 2, branches op l e z, same)
      turn t false z = (Behind, 2, passes op l e z ends, refl)

  pub passed_goes : (line : Line) (op : Op) (l : ℕ) → form_of line ≡ Branch op l → ((t : State) → t.ended ≡ None → known t → is_taken op t.regs ≡ false) → Justified s to after known (line ∷ []) []
  passed_goes line op l e never = goes_away (line ∷ []) (λ t r k. (Behind, 2, passes op l e (never t r k) ends, refl))

  -- a branch round a jump is turned
  steady_line : (line : Line) (op : Op) (m : ℕ) (t : State) → form_of line ≡ Branch op m → (other : Line) → IsSteady s other t → IsSteady s line t
  steady_line line op m t e other st = record { calm = st.calm; within = subst (λ (f : Form). IsWithin s f t) (sym e) tt }

  pub turned : (line next new : Line) (op other : Op) (l m : ℕ) → form_of line ≡ Branch op l → form_of next ≡ Jump m → form_of new ≡ Branch other m → ((t : State) → is_taken other t.regs ≡ is_not (is_taken op t.regs)) → to (ToLabel l) ≡ to Behind
      → Justified s to after known (line ∷ next ∷ []) (new ∷ [])
  turned line next new op other l m e f g opposite same = record {
    safe = λ w t h. safe w t h.safe;
    answers = λ w t h e2 u v way. answer t e2 u v way;
  }
    where
      safe : (w : ℕ) (t : State) → Safe s (line ∷ next ∷ []) w t → Safe s (new ∷ []) w t
      safe w t (safe_line i st le k) = absurd (subst IsPassed e i)
      safe w t (safe_jump k h st le) = absurd (apart k (sym h ∙ e))
        where
          apart : (k : ℕ) → Jump k ≡ Branch op l → ⊥
          apart k x = cc
      safe w t (safe_branch o k h st le go) = safe_branch {v = 0} other m g (steady_line new other m t g line st) (omega (arith, le)) (λ z. safe_end)

      end : (t : State) (e2 : WayOut) (u : State) (v : ℕ) → is_taken op t.regs ≡ true → Way s.place [] t e2 u v → Answers s.place to after (line ∷ next ∷ []) t e2 u (2 + v)
      end t e2 u v z ends = record { old_exit = ToLabel l; state = t; weighs = 2; way = branches op l e z; less = omega arith; same = same; near = near_itself (after (ToLabel l)) t }

      not_true : (b : Bool) → is_not b ≡ true → b ≡ false
      not_true true h = absurd cc
      not_true false h = refl

      not_false : (b : Bool) → is_not b ≡ false → b ≡ true
      not_false true h = refl
      not_false false h = absurd cc

      answer : (t : State) (e2 : WayOut) (u : State) (v : ℕ) → Way s.place (new ∷ []) t e2 u v → Answers s.place to after (line ∷ next ∷ []) t e2 u v
      answer t e2 u v (goes i d b way) = absurd (subst IsPassed g i)
      answer t e2 u v (jumps k h) = absurd (apart k (sym h ∙ g))
        where
          apart : (k : ℕ) → Jump k ≡ Branch other m → ⊥
          apart k x = cc
      answer t e2 u v (branches o k h z) =
          let ops_same : o ≡ other = first o other k m (sym h ∙ g) in
          let labels_same : m ≡ k = second o other k m (sym h ∙ g) in
          let z1 : is_taken op t.regs ≡ false = not_true (is_taken op t.regs) (sym (opposite t) ∙ subst (λ (x : Op). is_taken x t.regs ≡ true) ops_same z) in
          subst (λ (x : ℕ). Answers s.place to after (line ∷ next ∷ []) t (ToLabel x) t 2) labels_same
          (record { old_exit = ToLabel m; state = t; weighs = 3; way = passes op l e z1 (jumps m f); less = omega arith; same = refl; near = near_itself (after (ToLabel m)) t })
        where
          first : (o p : Op) (k n : ℕ) → Branch o k ≡ Branch p n → o ≡ p
          first o p k n x = cc

          second : (o p : Op) (k n : ℕ) → Branch o k ≡ Branch p n → n ≡ k
          second o p k n x = cc
      answer t e2 u v (passes o k h z way) =
          let ops_same : o ≡ other = first o other k m (sym h ∙ g) in
          end t e2 u _ (not_false (is_taken op t.regs) (sym (opposite t) ∙ subst (λ (x : Op). is_taken x t.regs ≡ false) ops_same z)) way
        where
          first : (o p : Op) (k n : ℕ) → Branch o k ≡ Branch p n → o ≡ p
          first o p k n x = cc

-- ---- the rules

-- what a window of one line owes
one_line : (f main : ℕ) (out : RegSet) (lines : List Line) (table : Table) (at : ℕ) (w : Rewriting) → IsLiveTable lines out table → IsSound (rewritten lines w) → 1 ≤ length (rewritten lines w)
    → (line : Line) (post : List Line) → drop at lines ≡ line ∷ post → record { at = at; count = 1; lines = [] } ≡ w → IsInner (form_of line)
    → ((s : Setting) → IsApt f out (with_lines s f lines) → Justified (with_lines s f lines) (exit_place lines (at + 1)) (λ e. before_place out lines (live_after table) (exit_place lines (at + 1) e)) (Knows lines at) (line ∷ []) []) → IsFollowedBy f main out lines (rewritten lines w)
one_line f main out lines table at w is sound more line post e made inner j =
    let old : take 1 (drop at lines) ≡ line ∷ [] = ap (take 1) e in
    subst (λ (x : Rewriting). IsFollowedBy f main out lines (rewritten lines x)) made
    (window_is_followed f main out lines table at (record { at = at; count = 1; lines = [] }) is refl (omega arith) (room lines at line post e) (subst AreInner (sym old) (inner, tt)) tt
    (subst (λ (x : Rewriting). IsSound (rewritten lines x)) (sym made) sound) (subst (λ (x : Rewriting). 1 ≤ length (rewritten lines x)) (sym made) more)
    (λ s apt. subst (λ (x : List Line). Justified (with_lines s f lines) (exit_place lines (at + 1)) (λ e. before_place out lines (live_after table) (exit_place lines (at + 1) e)) (Knows lines at) x []) (sym old) (j s apt)))

gone_is : (b : Bool) (at : ℕ) (w : Rewriting) → gone_if b at ≡ Some w → (b ≡ true) × (record { at = at; count = 1; lines = [] } ≡ w)
gone_is false at w m = absurd cc
gone_is true at w m = (refl, cc)

-- the label of a jump or a branch
jump_form : (line : Line) (post : List Line) → begins_with_target (jump_target line) post ≡ true → (l : ℕ) × (form_of line ≡ Jump l) × (begins_with l post ≡ true)
jump_form (Do ops.Jmp Absolute (To l)) post h = (l, refl, h)
jump_form _ post h = absurd cc

branch_line : (line : Line) (post : List Line) → is_fit line ≡ true → begins_with_target (branch_target line) post ≡ true → (op : Op) × (l : ℕ) × (form_of line ≡ Branch op l) × (begins_with l post ≡ true)
branch_line (Do op Relative (To l)) post fit h = (op, l, branch_form op l fit, h)
branch_line _ post fit h = absurd cc

pub idle_jump_followed : RuleIsFollowed 1
idle_jump_followed f main out literals lines table at w segment is m sound more =
    at_line 1 out literals lines table at w (IsFollowedBy f main out lines (rewritten lines w)) (λ line post e k.
    let made = gone_is (begins_with_target (jump_target line) post) at w k in
    let j = jump_form line post made.0 in
    let same : settle lines (labelled lines j.0) ≡ settle lines (at + 1) = at_once lines (at + 1) j.0 segment.labels (room lines at line post e) (ap (begins_with j.0) (behind_one lines at line post e) ∙ j.2) in
    one_line f main out lines table at w is sound more line post e made.1 (inner_by line (Jump j.0) j.1 tt)
    (λ s apt. jump_goes (with_lines s f lines) (exit_place lines (at + 1)) (λ e. before_place out lines (live_after table) (exit_place lines (at + 1) e)) (Knows lines at) line j.0 j.1 same)) m

pub idle_branch_followed : RuleIsFollowed 2
idle_branch_followed f main out literals lines table at w segment is m sound more =
    at_line 2 out literals lines table at w (IsFollowedBy f main out lines (rewritten lines w)) (λ line post e k.
    let made = gone_is (begins_with_target (branch_target line) post) at w k in
    let j = branch_line line post (fit_line lines at line post segment e) made.0 in
    let same : settle lines (labelled lines j.1) ≡ settle lines (at + 1) = at_once lines (at + 1) j.1 segment.labels (room lines at line post e) (ap (begins_with j.1) (behind_one lines at line post e) ∙ j.3) in
    one_line f main out lines table at w is sound more line post e made.1 (inner_by line (Branch j.0 j.1) j.2 tt)
    (λ s apt. branch_goes (with_lines s f lines) (exit_place lines (at + 1)) (λ e. before_place out lines (live_after table) (exit_place lines (at + 1) e)) (Knows lines at) line j.0 j.1 j.2 same)) m

known_branch : (known : Option Note) (line : Line) → is_fit line ≡ true → is_passed known line ≡ true → (op : Op) × (l : ℕ) × (form_of line ≡ Branch op l) × ((t : State) → IsTrueOf known t → is_taken op t.regs ≡ false)
known_branch known (Do op Relative (To l)) fit h = (op, l, branch_form op l fit, λ t k. passed_shown op known t h k)
known_branch known _ fit h = absurd cc

pub passed_branch_followed : RuleIsFollowed 8
passed_branch_followed f main out literals lines table at w segment is m sound more =
    at_line 8 out literals lines table at w (IsFollowedBy f main out lines (rewritten lines w)) (λ line post e k.
    let made = gone_is (is_passed (slice_get (known_of lines) at) line) at w k in
    let j = known_branch (slice_get (known_of lines) at) line (fit_line lines at line post segment e) made.0 in
    one_line f main out lines table at w is sound more line post e made.1 (inner_by line (Branch j.0 j.1) j.2 tt)
    (λ s apt. passed_goes (with_lines s f lines) (exit_place lines (at + 1)) (λ e. before_place out lines (live_after table) (exit_place lines (at + 1) e)) (Knows lines at) line j.0 j.1 j.2 (λ t running h. j.3 t (h running)))) m

-- a branch round a jump
inverted_is : (b : Bool) (at : ℕ) (op : Op) (o : Option ℕ) (w : Rewriting) → inverted_if b at op o ≡ Some w → (m : ℕ) × (b ≡ true) × (o ≡ Some m) × (record { at = at; count = 2; lines = Do (opposite op) Relative (To m) ∷ [] } ≡ w)
inverted_is true at op (Some m) w e = (m, refl, refl, cc)
inverted_is true at op None w e = absurd cc
inverted_is false at op o w e = absurd cc

target_form : (line : Line) (m : ℕ) → jump_target line ≡ Some m → form_of line ≡ Jump m
target_form (Do ops.Jmp Absolute (To l)) m e = let same : l ≡ m = cc in ap Jump same
target_form _ m e = absurd cc

module _ (f main : ℕ) (out : RegSet) (lines : List Line) (table : Table) (at : ℕ) (w : Rewriting) (segment : IsSegment lines) (is : IsLiveTable lines out table) (sound : IsSound (rewritten lines w)) (more : 1 ≤ length (rewritten lines w)) where
  inverted_line : (line : Line) (post : List Line) → drop at lines ≡ line ∷ post → inverted at line post ≡ Some w → IsFollowedBy f main out lines (rewritten lines w)
  inverted_line (Do op Relative (To l)) (next ∷ post) e k =
      let made = inverted_is (begins_with l post) at op (jump_target next) w k in
      let fit : is_fit (Do op Relative (To l)) ≡ true = fit_line lines at (Do op Relative (To l)) (next ∷ post) segment e in
      let form : form_of (Do op Relative (To l)) ≡ Branch op l = branch_form op l fit in
      let jump : form_of next ≡ Jump made.0 = target_form next made.0 made.2 in
      let new : form_of (Do (opposite op) Relative (To made.0)) ≡ Branch (opposite op) made.0 = opposite_form op l made.0 fit in
      let wide : at + 2 ≤ length lines = omega (arith, ap length e, length-drop at lines) in
      let same : settle lines (labelled lines l) ≡ settle lines (at + 2) = at_once lines (at + 2) l segment.labels wide (ap (begins_with l) (behind_two lines at (Do op Relative (To l)) next post e) ∙ made.1) in
      let old : take 2 (drop at lines) ≡ Do op Relative (To l) ∷ next ∷ [] = ap (take 2) e in
      subst (λ (x : Rewriting). IsFollowedBy f main out lines (rewritten lines x)) made.3
      (window_is_followed f main out lines table at (record { at = at; count = 2; lines = Do (opposite op) Relative (To made.0) ∷ [] }) is refl (omega arith) wide
      (subst AreInner (sym old) (inner_by (Do op Relative (To l)) (Branch op l) form tt, (inner_by next (Jump made.0) jump tt, tt))) (inner_by (Do (opposite op) Relative (To made.0)) (Branch (opposite op) made.0) new tt, tt)
      (subst (λ (x : Rewriting). IsSound (rewritten lines x)) (sym made.3) sound) (subst (λ (x : Rewriting). 1 ≤ length (rewritten lines x)) (sym made.3) more)
      (λ s apt. subst (λ (x : List Line). Justified (with_lines s f lines) (exit_place lines (at + 2)) (λ e. before_place out lines (live_after table) (exit_place lines (at + 2) e)) (Knows lines at) x (Do (opposite op) Relative (To made.0) ∷ [])) (sym old)
      (turned (with_lines s f lines) (exit_place lines (at + 2)) (λ e. before_place out lines (live_after table) (exit_place lines (at + 2) e)) (Knows lines at) (Do op Relative (To l)) next (Do (opposite op) Relative (To made.0)) op (opposite op) l made.0 form jump new (λ t. opposite_taken op l t fit) same)))
  inverted_line _ _ e k = absurd cc

pub inverted_followed : RuleIsFollowed 6
inverted_followed f main out literals lines table at w segment is m sound more =
    at_line 6 out literals lines table at w (IsFollowedBy f main out lines (rewritten lines w)) (λ line post e k. inverted_line f main out lines table at w segment is sound more line post e k) m
