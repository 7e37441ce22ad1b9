-- Loops of every kind: a label that was passed may be entered again where its invariant holds with less weight left.
use Rattle.std.proofs.Common.{◌≡◌, ℕ, zero, suc, ◌∙◌, ◌+◌, ◌-◌, ◌<◌, ◌≤◌, List, [], ◌∷◌, Option, None, length, refl, sym, ap, subst, arith}
use Rattle.std.specs.Prelude.{sum_by}
use Rattle.std.proofs.lemmas.List.Sums.{sum_by-cons}
use Rattle.c65_mach.specs.declared.rows.Op.{Op}
use Rattle.c65_mach.specs.declared.rows.Mode.{Mode}
use Rattle.c65_code.specs.declared.line.Operand.{Operand}
use Rattle.c65_code.specs.declared.line.Line.{Line}
use Rattle.c65_code.specs.declared.line.Line.TheVariants.{Label, Do, Call}
use Rattle.c65_code.specs.declared.routine.Routine.{Routine}
use Rattle.c65_code.specs.LineState.{Place, State, Frame, IsBytes}
use Rattle.c65_code.specs.Placement.{Placement}
use Rattle.c65_code.specs.Parts.{no_parts}
use Rattle.c65_code.specs.Moves.{settle, labelled}
use Rattle.c65_code.specs.RawMachine.{RawSetting, Bounds, RawComes, HasDone, called, entry_of, MayRun, reach_of, Runs}
use Rattle.c65_code.specs.Rows.{Row}
use Rattle.c65_rtl.proofs.Ways.{IsAt, IsOwn, whole_at, next_do, next_call, next_label, weaken, moved_to, Ends}
use Rattle.c65_rtl.proofs.Rounds.{leads_round, round_weight, rounds, behind, place_behind, passed_behind}

pub advance : (whole : List Line) (k : ℕ) (lines : List Line) (p : ℕ) (passed : List ℕ) → IsAt whole p lines passed → IsAt whole (place_behind k lines p) (behind k lines) (passed_behind k lines passed)
advance whole zero lines p passed at = at
advance whole (suc k) [] p passed at = at
advance whole (suc k) (Label j ∷ lines) p passed at = advance whole k lines (suc p) (j ∷ passed) (next_label whole p j lines passed at)
advance whole (suc k) (Do op mode operand ∷ lines) p passed at = advance whole k lines (suc p) passed (next_do whole p op mode operand lines passed at)
advance whole (suc k) (Call callee ∷ lines) p passed at = advance whole k lines (suc p) passed (next_call whole p callee lines passed at)

-- From a label, which so many lines stand before, with the weight n left: the lines lead on, and each branch back finds its
-- label's invariant with the weight `less` left.
pub record Round (place : Placement) (bounds : Bounds) (P : State → Type 0) (whole : List Line) (Inv : ℕ → ℕ → State → Type 0) (l n : ℕ) (t : State) : Type 0 where
  pub k : ℕ
  pub less : ℕ
  pub stands : settle whole (labelled whole l) ≡ settle whole (place_behind k whole 0)
  pub fewer : less < n
  pub weighs : round_weight less (passed_behind k whole []) (behind k whole) ≤ n
  pub leads : leads_round place bounds P (λ j u. Inv j less u) (passed_behind k whole []) (behind k whole) None t

pub turns : (s : RawSetting) (bounds : Bounds) (Q : Place → State → Type 0) (P : State → Type 0) (f : ℕ) (whole : List Line) (frame : Frame) (frames : List Frame) (used : ℕ)
    (has : s.lines f ≡ whole) (room : bounds.hard + 24 ≤ 253 - used) (ends : (u : State) → P u → IsBytes (record u { pushed = frame.pushed; frames = frames }) → Q frame.back (record u { pushed = frame.pushed; frames = frames }))
    (Inv : ℕ → ℕ → State → Type 0) → ((l n : ℕ) (t : State) → Inv l n t → Round s.place bounds P whole Inv l n t)
    → (fuel l n : ℕ) (t : State) → n ≤ fuel → IsOwn frame frames used t → Inv l n t → RawComes s bounds Q n (f, settle whole (labelled whole l)) t
turns s bounds Q P f whole frame frames used has room ends Inv round zero l n t le own inv =
    let fewer = (round l n t inv).fewer in
    absurd (omega arith)
turns s bounds Q P f whole frame frames used has room ends Inv round (suc fuel) l n t le own inv =
    let r : Round s.place bounds P whole Inv l n t = round l n t inv in
    let fewer = r.fewer in
    let again = turns s bounds Q P f whole frame frames used has room ends Inv round fuel in
    moved_to s bounds Q n (f, settle whole (labelled whole l)) (f, settle whole (place_behind r.k whole 0)) t t (ap (λ (n : ℕ). let q : Place = (f, n) in q) r.stands) refl
    (weaken s bounds Q (round_weight r.less (passed_behind r.k whole []) (behind r.k whole)) n (f, settle whole (place_behind r.k whole 0)) t r.weighs
    (rounds s bounds Q P f whole frame frames used has room ends (λ j u. Inv j r.less u) r.less (λ j u own h. again j r.less u (omega arith) own h)
    (behind r.k whole) (place_behind r.k whole 0) (passed_behind r.k whole []) None t (advance whole r.k whole 0 [] (whole_at whole)) tt own r.leads))

-- a routine with loops does what its row says
pub runs_loops : (s : RawSetting) (r : Routine) (row : Row) (back : Place) (t : State) (lines : List Line) → s.lines (s.routine r) ≡ lines → (Inv : ℕ → ℕ → State → Type 0)
    → ((l n : ℕ) (u : State) → Inv l n u → Round s.place (reach_of t) (Ends row t) lines Inv l n u) → (most : ℕ) → suc (round_weight most [] lines) ≤ row.cost
    → row.ends ≡ None → MayRun s row t → leads_round s.place (reach_of t) (Ends row t) (λ j u. Inv j most u) [] lines None (called back t) → Runs s r row back t
runs_loops s r row back t lines has Inv round most within ends may h =
    let deep = may.room.hard in
    let frame : Frame = record { back = back; pushed = t.pushed; gives = no_parts } in
    let used : ℕ = sum_by (λ (f : Frame). 2 + length f.pushed) (frame ∷ t.frames) in
    let sum : sum_by (λ (f : Frame). 2 + length f.pushed) (frame ∷ t.frames) ≡ 2 + length t.pushed + sum_by (λ (f : Frame). 2 + length f.pushed) t.frames = sum_by-cons (λ (f : Frame). 2 + length f.pushed) frame t.frames in
    let room : (reach_of t).hard + 24 ≤ 253 - used = omega arith in
    let weight : ℕ = round_weight most [] lines in
    record {
      weight = weight;
      within = within;
      comes = moved_to s (reach_of t) (HasDone row.ends row back t) weight (entry_of s (s.routine r)) (s.routine r, settle lines 0) (called back t) (called back t)
          (ap (λ (ls : List Line). let q : Place = (s.routine r, settle ls 0) in q) has) refl
          (subst (λ (e : Option ℕ). RawComes s (reach_of t) (HasDone e row back t) weight (s.routine r, settle lines 0) (called back t)) (sym ends)
          (rounds s (reach_of t) (HasDone None row back t) (Ends row t) (s.routine r) lines frame t.frames used has room (λ u m bytes. (refl, m, bytes)) (λ j u. Inv j most u) most
          (λ j u own h. turns s (reach_of t) (HasDone None row back t) (Ends row t) (s.routine r) lines frame t.frames used has room (λ u m bytes. (refl, m, bytes)) Inv round most j most u (omega arith) own h)
          lines 0 [] None (called back t) (whole_at lines) tt (record { frames = refl; ended = may.running; used = refl }) h));
    }

-- A round stays one where a line stands before all others.
later_place : (k : ℕ) (lines : List Line) (p : ℕ) → place_behind k lines (suc p) ≡ suc (place_behind k lines p)
later_place zero lines p = refl
later_place (suc k) [] p = refl
later_place (suc k) (l ∷ lines) p = later_place k lines (suc p)

pub behind_line : (place : Placement) (bounds : Bounds) (P : State → Type 0) (op : Op) (mode : Mode) (operand : Operand) (lines : List Line) (Inv : ℕ → ℕ → State → Type 0) (l n : ℕ) (t : State)
    → Round place bounds P lines Inv l n t → Round place bounds P (Do op mode operand ∷ lines) Inv l n t
behind_line place bounds P op mode operand lines Inv l n t r = record {
  k = suc r.k;
  less = r.less;
  stands = ap suc r.stands ∙ sym (ap (settle (Do op mode operand ∷ lines)) (later_place r.k lines 0));
  fewer = r.fewer;
  weighs = r.weighs;
  leads = r.leads;
}
