-- A routine whose first line calls another one, of which more is known than its row says.
use Rattle.std.proofs.Common.{◌≡◌, ℕ, ◌+◌, ◌-◌, ◌≤◌, List, [], ◌∷◌, Option, Some, None, slice_get, length, refl, sym, ap, subst, ◌∙◌, arith}
use Rattle.std.specs.Prelude.{sum_by}
use Rattle.std.proofs.lemmas.List.Sums.{sum_by-cons}
use Rattle.c65_code.specs.declared.line.Callee.TheVariants as callees
use Rattle.c65_code.specs.declared.line.Line.{Line}
use Rattle.c65_code.specs.declared.routine.Routine.{Routine}
use Rattle.c65_code.specs.LineState.{Place, State, Frame, s_of, IsBytes}
use Rattle.c65_code.specs.Parts.{no_parts}
use Rattle.c65_code.specs.Forms.{Run}
use Rattle.c65_code.specs.Rows.{Row, row_of}
use Rattle.c65_code.specs.Moves.{settle}
use Rattle.c65_code.specs.RawMachine.{RawSetting, Bounds, RawComes, RawRuns, IsHookWithin, HasDone, called, entry_of, line_after, hook_row}
use Rattle.c65_rtl.specs.Assembly.{call}
use Rattle.c65_rtl.proofs.Ways.{Ends, whole_at, next_call, on_form, moved_to}
use Rattle.c65_rtl_law_walks.specs.Inside.{MayRunIn, MeetsIn}
use Rattle.c65_rtl_law_walks.proofs.Joins.{bind}
use Rattle.c65_rtl_law_walks.proofs.Walks.{Takes, called_bytes}
use Rattle.c65_rtl_law_walks.proofs.Turning.{leads_turn, turn_weight, turning, TurnsIn, turns_in}

-- behind a call, in a state of P
abbrev pub IsLeft : (State → Type 0) → Place → State → Place → State → Type 0
IsLeft P back t q u = (q ≡ back) × (u.frames ≡ t.frames) × P u × IsBytes u

-- a call within a call is two bytes deeper
pub called_hard : (hard deepest : ℕ) (back : Place) (t : State) → hard + 2 + (2 + deepest) ≤ s_of t → hard + 2 + deepest ≤ s_of (called back t)
called_hard hard deepest back t deep =
    let frame : Frame = record { back = back; pushed = t.pushed; gives = no_parts } in
    let sum : sum_by (λ (f : Frame). 2 + length f.pushed) (frame ∷ t.frames) ≡ 2 + length t.pushed + sum_by (λ (f : Frame). 2 + length f.pushed) t.frames = sum_by-cons (λ (f : Frame). 2 + length f.pushed) frame t.frames in
    omega arith

-- As `walks_turning`, for what is left rather than for a row.
pub leaves_turning : (s : RawSetting) (bounds : Bounds) (deepest : ℕ) (takes : Routine → Takes) (P : State → Type 0) (r : Routine) (back : Place) (t : State) (lines : List Line) → s.lines (s.routine r) ≡ lines
    → ((u : State) → P u → P (record u { pushed = t.pushed; frames = t.frames })) → (Inv : ℕ → ℕ → State → Type 0)
    → ((l n : ℕ) (u : State) → IsBytes u → Inv l n u → TurnsIn s bounds deepest takes P lines Inv l n u) → (most : ℕ)
    → bounds.hard + 2 + deepest ≤ s_of t → IsBytes t → t.ended ≡ None → leads_turn s bounds deepest takes P (λ j u. Inv j most u) [] lines None (called back t)
    → RawComes s bounds (IsLeft P back t) (turn_weight takes most [] lines) (entry_of s (s.routine r)) (called back t)
leaves_turning s bounds deepest takes P r back t lines has stays Inv round most deep bytes running h =
    let frame : Frame = record { back = back; pushed = t.pushed; gives = no_parts } in
    let used : ℕ = sum_by (λ (f : Frame). 2 + length f.pushed) (frame ∷ t.frames) in
    let sum : sum_by (λ (f : Frame). 2 + length f.pushed) (frame ∷ t.frames) ≡ 2 + length t.pushed + sum_by (λ (f : Frame). 2 + length f.pushed) t.frames = sum_by-cons (λ (f : Frame). 2 + length f.pushed) frame t.frames in
    let room : bounds.hard + deepest ≤ 253 - used = omega arith in
    moved_to s bounds (IsLeft P back t) (turn_weight takes most [] lines) (entry_of s (s.routine r)) (s.routine r, settle lines 0) (called back t) (called back t)
    (ap (λ (ls : List Line). let q : Place = (s.routine r, settle ls 0) in q) has) refl
    (turning s bounds deepest takes (IsLeft P back t) P (s.routine r) lines frame t.frames used has room (λ u m bytes. (refl, refl, stays u m, bytes)) (λ j u. Inv j most u) most
    (λ j u bytes own h. turns_in s bounds deepest takes (IsLeft P back t) P (s.routine r) lines frame t.frames used has room (λ u m bytes. (refl, refl, stays u m, bytes)) Inv round most j most u (omega arith) bytes own h)
    lines 0 [] None (called back t) (whole_at lines) tt (called_bytes back t bytes) (record { frames = refl; ended = running; used = refl }) h)

-- What such a routine wants: the one that it calls comes back and leaves P, and from there its other lines lead forward to a
-- state of its row.
pub record CallsFirst (s : RawSetting) (bounds : Bounds) (deepest : ℕ) (takes : Routine → Takes) (inner : Routine) (row : Row) (back : Place) (lines : List Line) (P : State → Type 0) (weight : ℕ) (t : State) : Type 0 where
  pub comes : (from : Place) → RawComes s bounds (IsLeft P from (called back t)) weight (entry_of s (s.routine inner)) (called from (called back t))
  pub goes_on : (u : State) → P u → u.ended ≡ None
  pub follows : (u : State) → P u → leads_turn s bounds deepest takes (Ends row t) (λ j u. ⊥) [] lines None u

pub calls_first : (s : RawSetting) (bounds : Bounds) (deepest : ℕ) (takes : Routine → Takes) (r inner : Routine) (row : Row) (back : Place) (t : State) (lines : List Line) (P : State → Type 0) (weight : ℕ)
    → s.lines (s.routine r) ≡ call inner ∷ lines → hook_row s.args inner (called back t) ≡ None → 2 ≤ deepest → bounds.hard + 2 + deepest ≤ s_of t → t.ended ≡ None
    → CallsFirst s bounds deepest takes inner row back lines P weight t
    → RawComes s bounds (HasDone None row back t) (2 + (weight + turn_weight takes 0 [] lines)) (entry_of s (s.routine r)) (called back t)
calls_first s bounds deepest takes r inner row back t lines P weight has no_hook two deep running first =
    let frame : Frame = record { back = back; pushed = t.pushed; gives = no_parts } in
    let used : ℕ = sum_by (λ (f : Frame). 2 + length f.pushed) (frame ∷ t.frames) in
    let sum : sum_by (λ (f : Frame). 2 + length f.pushed) (frame ∷ t.frames) ≡ 2 + length t.pushed + sum_by (λ (f : Frame). 2 + length f.pushed) t.frames = sum_by-cons (λ (f : Frame). 2 + length f.pushed) frame t.frames in
    let room : bounds.hard + deepest ≤ 253 - used = omega arith in
    let room_for : bounds.hard + 2 ≤ s_of (called back t) = omega arith in
    let Q : Place → State → Type 0 = HasDone None row back t in
    let whole : List Line = call inner ∷ lines in
    let start : Place = (s.routine r, 0) in
    let behind : Place = line_after s start in
    let rest : ℕ = turn_weight takes 0 [] lines in
    moved_to s bounds Q (2 + (weight + rest)) (entry_of s (s.routine r)) start (called back t) (called back t) (ap (λ (ls : List Line). let q : Place = (s.routine r, settle ls 0) in q) has) refl
    (on_form s bounds Q (call inner) (Run inner) (weight + rest) (2 + (weight + rest)) start (called back t) refl (ap (λ (ls : List Line). slice_get ls 0) has) running
    (subst (λ (k : Option Row). IsHookWithin s.place bounds k (called back t)) (sym no_hook) room_for) (omega arith)
    (λ q u g bytes. let enters = subst (λ (k : Option Row). RawRuns s k inner start (called back t) q u) no_hook g in
    moved_to s bounds Q (weight + rest) q (entry_of s (s.routine inner)) u (called behind (called back t)) enters.0 enters.1
    (bind s bounds (IsLeft P behind (called back t)) Q weight rest (entry_of s (s.routine inner)) (called behind (called back t)) (first.comes behind)
    (λ q u left. moved_to s bounds Q rest q (s.routine r, settle whole 1) u u (left.0 ∙ ap (λ (ls : List Line). let q' : Place = (s.routine r, settle ls 1) in q') has) refl
    (turning s bounds deepest takes Q (Ends row t) (s.routine r) whole frame t.frames used has room (λ u m bytes. (refl, m, bytes)) (λ j u. ⊥) 0 (λ j u bytes own h. absurd h)
    lines 1 [] None u (next_call whole 0 (callees.Routine inner) lines [] (whole_at whole)) tt left.3
    (record { frames = left.1; ended = first.goes_on u left.2; used = ap (sum_by (λ (f : Frame). 2 + length f.pushed)) left.1 }) (first.follows u left.2))))))

some_is : {A : Type 0} (x y : A) → Some x ≡ Some y → x ≡ y
some_is x y e = cc

-- its row is the one that is asked for
pub first_meets : (s : RawSetting) (below deepest weight : ℕ) (r : Routine) (row : State → Row) → ((t : State) → row_of r t ≡ Some (row t)) → ((t : State) → (row t).ends ≡ None)
    → ((bounds : Bounds) (back : Place) (t : State) → MayRunIn s bounds below deepest (row t) t → RawComes s bounds (HasDone None (row t) back t) weight (entry_of s (s.routine r)) (called back t))
    → MeetsIn s below deepest (λ w. weight) r
first_meets s below deepest weight r row is goes_on comes bounds given back t e may =
    let same : row t ≡ given = some_is (row t) given (sym (is t) ∙ e) in
    subst (λ (w : Row). RawComes s bounds (HasDone w.ends w back t) weight (entry_of s (s.routine r)) (called back t)) same
    (subst (λ (k : Option ℕ). RawComes s bounds (HasDone k (row t) back t) weight (entry_of s (s.routine r)) (called back t)) (sym (goes_on t))
    (comes bounds back t (subst (λ (w : Row). MayRunIn s bounds below deepest w t) (sym same) may)))
