-- Rules on operations in a row are followed.
use Rattle.std.proofs.Common.{◌≡◌, ℕ, zero, suc, ◌+◌, ◌-◌, ◌<◌, ◌≤◌, List, [], ◌∷◌, ◌++◌, length, Option, Some, None, Bool, true, false, IsTrue, refl, sym, subst, ap, ◌∙◌, arith}
use Rattle.std.specs.Prelude.{slice_get, take, drop}
use Rattle.std.specs.List.{list_all}
use Rattle.std.proofs.lemmas.Bool.{and_parts, and_from}
use Rattle.std.proofs.lemmas.List.{length-take-le, length-drop}
use Rattle.c65_code.specs.declared.line.Line.{Line}
use Rattle.c65_code.specs.declared.line.Sym.{Sym}
use Rattle.c65_code.specs.declared.parts.Part.{Part}
use Rattle.c65_code.specs.declared.parts.RegSet.{RegSet}
use Rattle.c65_code.specs.Forms.{form_of}
use Rattle.c65_code.specs.LineState.{State, IsBytes}
use Rattle.c65_code.specs.Moves.{settle}
use Rattle.c65_code.specs.Parts.{has_part}
use Rattle.c65_code.specs.Placement.{Setting}
use Rattle.c65_code.specs.Rewriting.{with_lines, mapped_in}
use Rattle.c65_code.specs.Follows.{Follows}
use Rattle.c65_code.specs.Segments.{is_fit, is_closing}
use Rattle.c65_know.specs.Known.{annotated, known_of}
use Rattle.c65_know_law.specs.Laws.{Knows}
use Rattle.c65_know_law.specs.Truth.{IsTrueOf}
use Rattle.c65_live.specs.Tables.{Table, IsLiveTable, live_after}
use Rattle.c65_pass.specs.Rewriting.{Rewriting, rewritten}
use Rattle.c65_pass.specs.Rules.{match_at}
use Rattle.c65_opt_law_near.specs.Laws.{IsLow}
use Rattle.c65_opt_law_near.specs.Near.{Near}
use Rattle.c65_opt_law_table.proofs.Tables.{live_tables_are_closed}
use Rattle.c65_optarith_law.specs.Straight.{Straight, Agree, IsKept}
use Rattle.c65_opt_law_straight.proofs.Windows.{agree_near}
use Rattle.c65_opt_law_follow.specs.Windows.{WayOut, Behind, ToLabel, AreInner, Way, Safe, EndsCalm, Answers, Starts, Justified}
use Rattle.c65_opt_law_follow.specs.Laws.{AreByteLines, IsSound, IsApt, exit_place, before_place, window}
use Rattle.c65_opt_law_follow.proofs.Near.{near_part}
use Rattle.c65_opt_law_follow.proofs.Ways.{AreGood}
use Rattle.c65_opt_law_follow.proofs.Walks.{HasAt}
use Rattle.c65_opt_law_follow.proofs.Tables.{next_place, passed_open, place_live}
use Rattle.c65_opt_law_follow.proofs.Rewriting.{good_at, good_lines, has_in, parted, sound_here, justified_lines_follow}
use Rattle.c65_opt_law_kept.specs.Laws.{IsFollowedBy, RuleIsFollowed}
use Rattle.c65_opt_law_kept.proofs.Steps.{IsStep, AreSteps, steps_inner, step_passed, Ran, run, way_of, IsOnly, only_way, safe_of}

-- what a rule on such lines makes
pub record InRow (lines : List Line) (at : ℕ) (w : Rewriting) : Type 0 where
  pub place : w.at ≡ at
  pub some : 1 ≤ w.count
  pub within : at + w.count ≤ length lines
  pub old : AreSteps (take w.count (drop at lines))
  pub new : AreSteps w.lines
  pub fewer : length w.lines ≤ w.count

-- behind the last of them the next line comes
last_open : (lines : List Line) (p : ℕ) (ls : List Line) → 1 ≤ length ls → HasAt lines p ls → AreSteps ls → (l : Line) × (slice_get lines (p + length ls - 1) ≡ Some l) × (is_closing l ≡ false)
last_open lines p [] some has steps = absurd (omega (arith, some))
last_open lines p (l ∷ []) some has steps = let e : p ≡ p + length (l ∷ []) - 1 = omega arith in (l, subst (λ (n : ℕ). slice_get lines n ≡ Some l) e has.0, passed_open l (step_passed (form_of l) steps.0))
last_open lines p (l ∷ k ∷ ls) some has steps =
    let more = last_open lines (suc p) (k ∷ ls) (omega arith) has.1 steps.1 in
    let e : suc p + length (k ∷ ls) - 1 ≡ p + length (l ∷ k ∷ ls) - 1 = omega arith in
    (more.0, subst (λ (n : ℕ). slice_get lines n ≡ Some more.0) e more.1, more.2)

-- what the lines of a rule do: from each state of which the note is true they lead on, to a state near that to which the old ones led
abbrev pub IsDone : Setting → List Line → Table → ℕ → Rewriting → Type 0
IsDone r lines table at w = (t u : State) → IsTrueOf (slice_get (known_of lines) at) t → Straight r (take w.count (drop at lines)) t u → (x : State) × Straight r w.lines t x × Near (live_after table (at + w.count - 1)) u x

module _ (r : Setting) (low : IsLow r.place) (out : RegSet) (lines : List Line) (table : Table) (at : ℕ) (w : Rewriting) (is : IsLiveTable lines out table)
    (kept : IsDone r lines table at w) (row : InRow lines at w) (good : AreGood (take w.count (drop at lines))) (has : HasAt lines at (take w.count (drop at lines))) where
  old : List Line
  old = take w.count (drop at lines)

  wide : length (take w.count (drop at lines)) ≡ w.count
  wide = length-take-le w.count (drop at lines) (omega (arith, row.within, length-drop at lines))

  -- what is near in what is live behind the last line is near in what is live where the machine then stands
  near_behind : (u v : State) → Near (live_after table (at + w.count - 1)) u v → Near (before_place out lines (live_after table) (settle lines (at + w.count))) u v
  near_behind u v h =
      let last = last_open lines at (take w.count (drop at lines)) (omega (arith, row.some, wide)) has row.old in
      let q : at + length (take w.count (drop at lines)) - 1 ≡ at + w.count - 1 = omega (arith, wide) in
      let there : slice_get lines (at + w.count - 1) ≡ Some last.0 = subst (λ (n : ℕ). slice_get lines n ≡ Some last.0) q last.1 in
      let next : suc (at + w.count - 1) ≡ at + w.count = omega (arith, row.some) in
      near_part (live_after table (at + w.count - 1)) (before_place out lines (live_after table) (settle lines (at + w.count))) u v
      (λ p i k. place_live lines out (live_after table) (live_tables_are_closed lines out table is) (at + w.count - 1) (suc (at + w.count - 1)) (next_place lines (at + w.count - 1) last.0 there last.2) p
      (subst (λ (n : ℕ). IsTrue (has_part (before_place out lines (live_after table) (settle lines n)) p)) (sym next) k))
      h

  ran : (v : ℕ) (t : State) → Starts r (Knows lines at) (take w.count (drop at lines)) v t → Ran r low (take w.count (drop at lines)) v t
  ran v t h = run r low (take w.count (drop at lines)) v t good row.old h.running h.safe

  made : (v : ℕ) (t : State) (h : Starts r (Knows lines at) (take w.count (drop at lines)) v t) → (x : State) × Straight r w.lines t x × Near (live_after table (at + w.count - 1)) (ran v t h).state x
  made v t h = kept t (ran v t h).state (h.knows h.running) (ran v t h).straight

  pub justified : Justified r (exit_place lines (at + w.count)) (λ e. before_place out lines (live_after table) (exit_place lines (at + w.count) e)) (Knows lines at) (take w.count (drop at lines)) w.lines
  justified = record {
    safe = λ v t h. let x = made v t h in safe_of r low w.lines v t x.0 x.1 row.new (omega (arith, row.fewer, wide, (ran v t h).enough));
    answers = λ v t h e u c way.
        let x = made v t h in
        let o = only_way r low w.lines t x.0 e u c x.1 row.new way in
        record {
          old_exit = Behind;
          state = (ran v t h).state;
          weighs = length (take w.count (drop at lines));
          way = way_of r low (ran v t h).straight row.old;
          less = omega (arith, o.weight, row.fewer, wide);
          same = ap (exit_place lines (at + w.count)) (sym o.behind);
          near = subst (λ (y : State). Near (before_place out lines (live_after table) (settle lines (at + w.count))) (ran v t h).state y) (sym o.state) (near_behind (ran v t h).state x.0 x.2);
        };
  }

has_window : (lines : List Line) (at count : ℕ) → at ≤ length lines → HasAt lines at (take count (drop at lines))
has_window lines at count le =
    let long : length (take at lines) ≡ at = length-take-le at lines le in
    subst (λ (n : ℕ). HasAt lines n (take count (drop at lines))) long (subst (λ (x : List Line). HasAt x (length (take at lines)) (take count (drop at lines))) (parted lines at count) (has_in (take at lines) (take count (drop at lines)) (drop (at + count) lines)))

-- lines in the middle of such ones
fit_part : (xs ys : List Line) → list_all is_fit (xs ++ ys) ≡ true → (list_all is_fit xs ≡ true) × (list_all is_fit ys ≡ true)
fit_part [] ys h = (refl, h)
fit_part (x ∷ xs) ys h =
    let both = and_parts (is_fit x) (list_all is_fit (xs ++ ys)) h in
    let rest = fit_part xs ys both.1 in
    (and_from (is_fit x) (list_all is_fit xs) both.0 rest.0, rest.1)

bytes_part : (xs ys : List Line) → AreByteLines (xs ++ ys) → AreByteLines xs × AreByteLines ys
bytes_part [] ys h = (tt, h)
bytes_part (x ∷ xs) ys h = let rest = bytes_part xs ys h.1 in ((h.0, rest.0), rest.1)

sound_part : (xs ys zs : List Line) → IsSound (xs ++ (ys ++ zs)) → IsSound ys
sound_part xs ys zs h = record { fit = (fit_part ys zs (fit_part xs (ys ++ zs) h.fit).1).0; bytes = (bytes_part ys zs (bytes_part xs (ys ++ zs) h.bytes).1).0 }

-- where what a rule makes is justified, it is followed
pub window_is_followed : (f main : ℕ) (out : RegSet) (lines : List Line) (table : Table) (at : ℕ) (w : Rewriting) → IsLiveTable lines out table
    → w.at ≡ at → 1 ≤ w.count → at + w.count ≤ length lines → AreInner (take w.count (drop at lines)) → AreInner w.lines → IsSound (rewritten lines w) → 1 ≤ length (rewritten lines w)
    → ((s : Setting) → IsApt f out (with_lines s f lines) → Justified (with_lines s f lines) (exit_place lines (at + w.count)) (λ e. before_place out lines (live_after table) (exit_place lines (at + w.count) e)) (Knows lines at) (take w.count (drop at lines)) w.lines)
    → IsFollowedBy f main out lines (rewritten lines w)
window_is_followed f main out lines table at w is place some within inner new_inner sound more j =
    let same : rewritten lines w ≡ take at lines ++ (w.lines ++ drop (at + w.count) lines) = ap (λ (n : ℕ). take n lines ++ (w.lines ++ drop (n + w.count) lines)) place in
    let new : IsSound w.lines = sound_part (take at lines) w.lines (drop (at + w.count) lines) (subst IsSound same sound) in
    let done = justified_lines_follow f main out lines table at w.count w.lines is within some inner new new_inner (subst (λ (x : List Line). 1 ≤ length x) same more) in
    record { map = done.0; more = 0; follows = λ s apt. subst (λ (x : List Line). Follows (mapped_in f done.0) 0 (with_lines s f lines) (with_lines s f x) main) (sym same) (done.1 s apt (j s apt)) }

-- where a rule does what such lines do, it is followed
pub done_is_followed : (rule : ℕ) → ((literals : List (Sym × List ℕ)) (out : RegSet) (lines : List Line) (table : Table) (at : ℕ) (w : Rewriting) → match_at rule literals (annotated lines out) table at ≡ Some w → InRow lines at w × ((s : Setting) → IsDone s lines table at w)) → RuleIsFollowed rule
done_is_followed rule done f main out literals lines table at w segment is m sound some =
    let both = done literals out lines table at w m in
    let row : InRow lines at w = both.0 in
    let inner : AreInner (take w.count (drop at lines)) = steps_inner (take w.count (drop at lines)) row.old in
    let has : HasAt lines at (take w.count (drop at lines)) = has_window lines at w.count (omega (arith, row.within)) in
    window_is_followed f main out lines table at w is row.place row.some row.within inner (steps_inner w.lines row.new) sound some (λ s apt.
    let here : IsSound lines = sound_here s f lines out apt in
    let good : AreGood (take w.count (drop at lines)) = good_at lines at (take w.count (drop at lines)) here.fit here.bytes inner has in
    justified (with_lines s f lines) apt.low out lines table at w is (both.1 (with_lines s f lines)) row good has)

pub kept_is_followed : (rule : ℕ) → IsKept rule → ((out : RegSet) (literals : List (Sym × List ℕ)) (lines : List Line) (table : Table) (at : ℕ) (w : Rewriting) → match_at rule literals (annotated lines out) table at ≡ Some w → InRow lines at w) → RuleIsFollowed rule
kept_is_followed rule kept rows = done_is_followed rule (λ literals out lines table at w m. (
  rows out literals lines table at w m,
  λ s t u so straight. let k = kept s literals (annotated lines out) table at w t u m so straight in (k.0, k.1, agree_near (live_after table (at + w.count - 1)) u k.0 k.2),
))
