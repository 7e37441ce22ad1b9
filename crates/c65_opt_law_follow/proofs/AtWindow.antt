-- Runs of two codes go together through the window in which they differ.
use Rattle.std.proofs.Common.{◌≡◌, ℕ, zero, suc, ◌+◌, ◌-◌, ◌<◌, ◌≤◌, ◌⊎◌, inl, inr, List, [], ◌∷◌, length, Option, Some, None, Bool, true, false, IsTrue, refl, sym, ap, ◌∙◌, subst, arith}
use Rattle.std.specs.Prelude.{slice_get, sum_by}
use Rattle.c65_code.proofs.WeightLaws.{row_costs}
use Rattle.c65_code.specs.declared.line.Line.{Line}
use Rattle.c65_code.specs.declared.parts.RegSet.{RegSet}
use Rattle.c65_code.specs.Comes.{Seen, seen_at, Shown, shown_by, Shows, Comes}
use Rattle.c65_code.specs.Follows.{IsBelow, Grows, through as at_images}
use Rattle.c65_code.specs.Forms.{Form, Branch, Run, form_of}
use Rattle.c65_code.specs.LineState.{Place, Frame, State, IsBytes}
use Rattle.c65_code.specs.Moves.{settle}
use Rattle.c65_code.specs.Placement.{Placement, Setting}
use Rattle.c65_opt_law_near.proofs.Operations.{calm_stays}
use Rattle.c65_opt_law_near.specs.Near.{Near}
use Rattle.c65_opt_law_straight.specs.Laws.{AreAsDeep}
use Rattle.c65_opt_law_follow.specs.Windows.{WayOut, Behind, weight_of, Way, ends, goes, jumps, branches, passes, Safe, EndsCalm, live_before, Starts}
use Rattle.c65_opt_law_follow.specs.Laws.{exit_place}
use Rattle.c65_opt_law_follow.proofs.Near.{near_on, near_part, hard_same}
use Rattle.c65_opt_law_follow.proofs.Seen.{seen_grows, seen_here, seen_room, seen_mono}
use Rattle.c65_opt_law_follow.proofs.Ways.{way_frames, way_bytes, empty_way, safe_near, Matched, way_near}
use Rattle.c65_opt_law_follow.proofs.Walks.{settle_up, weaken, comes_calm, Passing, through, build}
use Rattle.c65_opt_law_follow.proofs.Setup.{side, IsAt, IsOut, Setup, Window}
use Rattle.c65_opt_law_follow.proofs.Sides.{safe_side}
use Rattle.c65_opt_law_follow.proofs.Relation.{deep, framed_on, Rel, Imaged, Goal, both}

weight_one : (form : Form) (t : State) → 1 ≤ weight_of form t
weight_one (Branch op k) t = omega arith
weight_one (Run r) t = row_costs r t
weight_one _ t = omega arith

pub way_weighs : (place : Placement) (ls : List Line) (t : State) (e : WayOut) (u : State) (v : ℕ) → 1 ≤ length ls → Way place ls t e u v → 1 ≤ v
way_weighs place ls t e u v le ends = absurd (omega (arith, le))
way_weighs place ls t e u v le (goes {line = l} i d b y) = omega (arith, weight_one (form_of l) t)
way_weighs place ls t e u v le (jumps k f) = omega arith
way_weighs place ls t e u v le (branches op k f z) = omega arith
way_weighs place ls t e u v le (passes op k f z y) = omega arith

module _ (s : Setting) (A B : ℕ → List Line) (f start : ℕ) (old new : List Line) (m : ℕ → ℕ → ℕ) (live : ℕ → ℕ → RegSet) (known : ℕ → State → Type 0) (S : Setup s A B f start old m live known) (W : Window s A B f start old new m live known) (test : Shown → Seen → Bool) (grows : Grows test) where
  abbrev a : Setting
  a = side s A

  abbrev b : Setting
  b = side s B

  abbrev R : Place → State → Seen → Place → State → Seen → Type 0
  R p t sa p2 t2 sb = Rel s A B f start old m live known p t sa p2 t2 sb

  abbrev Test2 : Shown → Seen → Bool
  Test2 = Imaged s A B f start old m live known test

  abbrev Ahead : ℕ → Type 0
  Ahead n = Goal s A B f start old m live known test n

  module _ (n w : ℕ) (lt : w < suc n) (again : Ahead n) (t t2 : State) (sa sb : Seen) (shut : test (shown_by t) (at_images m (seen_at (f, m f start) sb)) ≡ false) (r : R (f, start) t sa (f, m f start) t2 sb) (run : t.ended ≡ None)
      (c : Comes a (Shows test) w (f, start) t (seen_at (f, start) sa)) where
    abbrev hi : ℕ
    hi = start + length old

    abbrev after : WayOut → RegSet
    after e = live f (exit_place (A f) (start + length old) e)

    run2 : t2.ended ≡ None
    run2 = sym r.near.ended ∙ run

    as_deep : AreAsDeep t t2
    as_deep = deep s A B f start old m live known t t2 r.frames

    bytes1 : IsBytes t
    bytes1 = (comes_calm a (Shows test) w (f, start) t (seen_at (f, start) sa) c).bytes

    passing : Passing a S.low (Shows test) f (start + length old) start (at_images m (seen_at (f, m f start) sb)) old w t sa
    passing = through a S.low (Shows test) f (start + length old) old start w t (at_images m (seen_at (f, m f start) sb)) sa W.old_at W.old_good refl bytes1
        (λ g q. omega (arith, seen_grows (f, start) sa g q, r.arrived g q))
        (λ q le h. omega (arith, r.left f q (inr (refl, refl)), seen_here (f, m f start) sb f (m f q) refl (sym (W.window_place q le h))))
        (λ q u s3 o le h. never (test (shown_by u) (at_images m (seen_at (f, m f start) sb))) (grows (shown_by u) s3 (at_images m (seen_at (f, m f start) sb)) le h) (ap (λ (x : Shown). test x (at_images m (seen_at (f, m f start) sb))) o ∙ shut))
        (subst (λ (x : ℕ). Comes a (Shows test) w (f, x) t (seen_at (f, x) sa)) (sym W.old_start) c)
      where
        never : (x : Bool) → x ≡ true → x ≡ false → ⊥
        never x h k = cc

    nearw : Near (live_before (s.gives f) (λ e. live f (exit_place (A f) (start + length old) e)) old) t t2
    nearw = near_part (live f start) (live_before (s.gives f) (λ e. live f (exit_place (A f) (start + length old) e)) old) t t2 W.live_window r.near

    calm1 : EndsCalm a old t
    calm1 e u v way = let o = passing.onward e u v way in comes_calm a (Shows test) o.1.weight (f, exit_place (A f) (start + length old) e) u (seen_at (f, exit_place (A f) (start + length old) e) o.1.seen) o.1.comes

    safe2 : Safe a old w t2
    safe2 = safe_near a S.low (s.gives f) (λ e. live f (exit_place (A f) (start + length old) e)) old w t t2 W.old_good run r.bytes as_deep nearw passing.safe calm1

    matched : (e : WayOut) (u : State) (v : ℕ) → Way s.place old t2 e u v → Matched a S.low (s.gives f) (λ e. live f (exit_place (A f) (start + length old) e)) old t e u v
    matched e u v way = way_near a S.low (s.gives f) (λ e. live f (exit_place (A f) (start + length old) e)) old w t t2 e u v W.old_good run r.bytes as_deep nearw passing.safe calm1 way

    deep_ends : (e : WayOut) (u : State) (v : ℕ) (way : Way s.place old t2 e u v) → AreAsDeep (matched e u v way).state u
    deep_ends e u v way =
        ap (sum_by (λ (g : Frame). 2 + length g.pushed)) (way_frames s.place old t e (matched e u v way).state v (matched e u v way).way) ∙ (as_deep ∙ ap (sum_by (λ (g : Frame). 2 + length g.pushed)) (sym (way_frames s.place old t2 e u v way)))

    calm_ends : EndsCalm a old t2
    calm_ends e u v way =
        let back = matched e u v way in
        calm_stays a (live f (exit_place (A f) (start + length old) e)) back.state u S.low (calm1 e back.state v back.way) (way_bytes s.place old t2 e u v r.bytes way)
        (hard_same (live f (exit_place (A f) (start + length old) e)) back.state u back.near (deep_ends e u v way)) back.near

    starts : Starts a (known start) old w t2
    starts = record { knows = r.knows refl (omega arith) run2; running = run2; bytes = r.bytes; safe = safe2; calm = calm_ends }

    compare : (e : WayOut) (u : State) (x : ℕ) (s2 : Seen) → Way s.place new t2 e u x → IsBelow sb s2 → (length new ≡ 0) ⊎ IsBelow (seen_at (f, settle (B f) start) sb) s2 → (e1 : WayOut) → exit_place (A f) (start + length old) e1 ≡ exit_place (A f) (start + length old) e
        → m f (exit_place (A f) (start + length old) e1) ≡ exit_place (B f) (start + length new) e → (s1 : Seen) → IsBelow s1 (at_images m (seen_at (f, m f start) sb)) → ((g q : ℕ) → (g ≡ f → ⊥) ⊎ ((q < start) ⊎ (start + length old ≤ q)) → s1 g q ≤ sa g q)
        → IsBelow (seen_at (f, exit_place (A f) (start + length old) e1) s1) (at_images m (seen_at (f, exit_place (B f) (start + length new) e) s2)) × ((g q : ℕ) → IsOut f start (start + length old) g q ⊎ IsAt f start f (exit_place (A f) (start + length old) e1) → s1 g q ≤ s2 g (m g q))
    compare e u x s2 way le0 (inr le1) e1 same to s1 capped other =
        let le : IsBelow s1 (at_images m s2) = λ g q. omega (arith, capped g q, moved_le g q) in
        (both s A B f start old m live known s1 s2 (f, exit_place (A f) (start + length old) e1) (f, exit_place (B f) (start + length new) e) le (ap (λ (y : ℕ). (f, y)) (sym to)), λ g q h. le g q)
      where
        moved_le : (g q : ℕ) → seen_at (f, m f start) sb g (m g q) ≤ s2 g (m g q)
        moved_le g q = subst (λ (y : ℕ). seen_at (f, y) sb g (m g q) ≤ s2 g (m g q)) (sym W.start_place) (le1 g (m g q))
    compare e u x s2 way le0 (inl empty) e1 same to s1 capped other = (arrive, stay)
      where
        e_is : e ≡ Behind
        e_is = empty_way s.place new t2 e u x empty way

        above : start + length old ≤ exit_place (A f) (start + length old) e1
        above = omega (arith, same, ap (exit_place (A f) (start + length old)) e_is, settle_up (A f) (start + length old))

        there : exit_place (B f) (start + length new) e ≡ m f start
        there = ap (exit_place (B f) (start + length new)) e_is ∙ (ap (settle (B f)) (let n : start + length new ≡ start = omega (arith, empty) in n) ∙ sym W.start_place)

        below : IsBelow s1 (at_images m (seen_at (f, exit_place (B f) (start + length new) e) s2))
        below g q = omega (arith, capped g q, grown g q)
          where
            grown : (g q : ℕ) → seen_at (f, m f start) sb g (m g q) ≤ seen_at (f, exit_place (B f) (start + length new) e) s2 g (m g q)
            grown g q = subst (λ (y : ℕ). seen_at (f, m f start) sb g (m g q) ≤ seen_at (f, y) s2 g (m g q)) (sym there) (seen_mono (f, m f start) sb s2 le0 g (m g q))

        arrive : IsBelow (seen_at (f, exit_place (A f) (start + length old) e1) s1) (at_images m (seen_at (f, exit_place (B f) (start + length new) e) s2))
        arrive = seen_room (f, exit_place (A f) (start + length old) e1) s1 (at_images m (seen_at (f, exit_place (B f) (start + length new) e) s2)) below
            (omega (arith, seen_here (f, exit_place (B f) (start + length new) e) s2 f (m f (exit_place (A f) (start + length old) e1)) refl (sym to), other f (exit_place (A f) (start + length old) e1) (inr (inr above)), r.left f (exit_place (A f) (start + length old) e1) (inr (refl, refl)), le0 f (m f (exit_place (A f) (start + length old) e1))))

        stay : (g q : ℕ) → IsOut f start (start + length old) g q ⊎ IsAt f start f (exit_place (A f) (start + length old) e1) → s1 g q ≤ s2 g (m g q)
        stay g q (inl h) = omega (arith, other g q h, r.left g q (inr (refl, refl)), le0 g (m g q))
        stay g q (inr at) = absurd (omega (arith, at.1, above, W.some))

    pub at_window : Comes b (Shows Test2) w (f, m f start) t2 (seen_at (f, m f start) sb)
    at_window =
        subst (λ (x : ℕ). Comes b (Shows Test2) w (f, x) t2 (seen_at (f, x) sb)) (sym W.start_place)
        (build b S.low (Shows Test2) f (start + length new) new start w w t2 sb W.new_at W.new_good refl run2 r.bytes (safe_side s A B new w t2 (W.justified.safe w t2 starts)) (omega arith) (λ e u x s2 way le0 le1.
        let ans = W.justified.answers w t2 starts e u x way in
        let back = matched ans.old_exit ans.state ans.weighs ans.way in
        let o = passing.onward ans.old_exit back.state ans.weighs back.way in
        let one = way_weighs s.place old t ans.old_exit back.state ans.weighs W.some back.way in
        let to : m f (exit_place (A f) (start + length old) ans.old_exit) ≡ exit_place (B f) (start + length new) e = ap (m f) ans.same ∙ W.exit_same e in
        let seen = compare e u x s2 way le0 le1 ans.old_exit ans.same to o.1.seen o.1.capped o.1.else_same in
        weaken b (Shows Test2) {w = o.1.weight} (w - x) (omega (arith, ans.less, o.1.less))
        (again o.1.weight (omega (arith, lt, o.1.less, o.0, one)) (f, exit_place (A f) (start + length old) ans.old_exit) back.state o.1.seen (f, exit_place (B f) (start + length new) e) u s2
        (record {
          place = ap (λ (y : ℕ). (f, y)) (sym to);
          reach = W.reach_exit ans.old_exit;
          near = near_on (live f (exit_place (A f) (start + length old) ans.old_exit)) back.state ans.state u back.near ans.near;
          frames = framed_on s A B f start old m live known t t2 back.state u (way_frames s.place old t ans.old_exit back.state ans.weighs back.way) (way_frames s.place new t2 e u x way) r.frames;
          knows = λ same early still. W.known_exit t ans.old_exit back.state ans.weighs back.way early u;
          bytes = way_bytes s.place new t2 e u x r.bytes way;
          arrived = seen.0;
          left = seen.1;
        }) o.1.comes)))
