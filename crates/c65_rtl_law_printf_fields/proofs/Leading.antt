-- From a label of `printf` to others.
use Rattle.std.proofs.Common.{◌≡◌, ℕ, ◌+◌, ◌-◌, ◌≤◌, List, [], ◌∷◌, None, length, refl, sym, ap, subst, ◌∙◌, arith}
use Rattle.std.specs.Prelude.{sum_by}
use Rattle.c65_code.specs.declared.line.Line.{Line}
use Rattle.c65_code.specs.declared.routine.Routine.{Routine}
use Rattle.c65_code.specs.LineState.{Place, State, Frame, IsBytes}
use Rattle.c65_code.specs.Moves.{settle, labelled}
use Rattle.c65_code.specs.RawMachine.{RawSetting, Bounds, RawComes, here, on}
use Rattle.c65_rtl.proofs.Ways.{whole_at, weaken, moved_to}
use Rattle.c65_rtl.proofs.Rounds.{behind, place_behind, passed_behind}
use Rattle.c65_rtl_law_walks.specs.Joined.{label_in}
use Rattle.c65_rtl_law_walks.proofs.Loops.{advance}
use Rattle.c65_rtl_law_walks.proofs.Walks.{Takes}
use Rattle.c65_va.specs.Printf.{printf_lines}
use Rattle.c65_rtl_law_printf.proofs.Stops.{leads_stop, stop_weight, stops_of, more_stops, StopsIn, stops_in, stopping}

-- lines that call no routine
abbrev pub no_calls : Routine → Takes
no_calls r = record { below = 0; pushed = 0; weight = 0 }

abbrev pub To : RawSetting → Bounds → (ℕ → State → Type 0) → List ℕ → List Line → State → Type 0
To s bounds B stops lines u = leads_stop s bounds 0 no_calls (λ u. ⊥) B stops lines None u

-- all that lines come to is of bytes
pub with_bytes : (s : RawSetting) (bounds : Bounds) (Q : Place → State → Type 0) (w : ℕ) (p : Place) (t : State) → IsBytes t → RawComes s bounds Q w p t → RawComes s bounds (λ q u. Q q u × IsBytes u) w p t
with_bytes s bounds Q w p t bytes (here h) = here (h, bytes)
with_bytes s bounds Q w p t bytes (on {v = v} l is running within fits rest) = on {v = v} l is running within fits (λ q u m. with_bytes s bounds Q v q u m.bytes (rest q u m))

-- What holds at a label where the lines begin.
pub record Begins (s : RawSetting) (bounds : Bounds) (f deepest : ℕ) (t : State) (frame : Frame) (frames : List Frame) : Type 0 where
  pub has : s.lines f ≡ printf_lines
  pub frames_are : t.frames ≡ frame ∷ frames
  pub bytes : IsBytes t
  pub running : t.ended ≡ None
  pub free : bounds.hard + deepest ≤ 253 - sum_by (λ (f : Frame). 2 + length f.pushed) t.frames

module _ (s : RawSetting) (bounds : Bounds) (f deepest : ℕ) (takes : Routine → Takes) (t : State) (frame : Frame) (frames : List Frame) (begins : Begins s bounds f deepest t frame frames) (R : Place → State → Type 0) where
  at_lines : (l : ℕ) → label_in s f l ≡ (let q : Place = (f, settle printf_lines (labelled printf_lines l)) in q)
  at_lines l = ap (λ (ls : List Line). let q : Place = (f, settle ls (labelled ls l)) in q) begins.has

  -- one piece, of which the first label stands so many lines behind the first line
  pub piece_leads : (k l n : ℕ) (ahead : List ℕ) → settle printf_lines (labelled printf_lines l) ≡ settle printf_lines (place_behind k printf_lines 0) → (B : ℕ → State → Type 0)
      → ((j : ℕ) (u : State) → IsBytes u → u.frames ≡ t.frames → B j u → R (label_in s f j) u) → stop_weight takes 0 (stops_of ahead k printf_lines) (behind k printf_lines) ≤ n
      → leads_stop s bounds deepest takes (λ u. ⊥) B (stops_of ahead k printf_lines) (behind k printf_lines) None t → RawComes s bounds R n (label_in s f l) t
  piece_leads k l n ahead stands B out weighs leads =
      let used : ℕ = sum_by (λ (f : Frame). 2 + length f.pushed) t.frames in
      weaken s bounds R (stop_weight takes 0 (stops_of ahead k printf_lines) (behind k printf_lines)) n (label_in s f l) t weighs
      (moved_to s bounds R (stop_weight takes 0 (stops_of ahead k printf_lines) (behind k printf_lines)) (label_in s f l) (f, settle printf_lines (place_behind k printf_lines 0)) t t (at_lines l ∙ ap (λ (n : ℕ). let q : Place = (f, n) in q) stands) refl
      (stopping s bounds deepest takes R (λ u. ⊥) f printf_lines frame frames used begins.has begins.free (λ u h bytes. absurd h) refl B 0
      (λ j u bytes own h. here (subst (λ (q : Place). R q u) (at_lines j) (out j u bytes (own.frames ∙ sym begins.frames_are) h)))
      (behind k printf_lines) (place_behind k printf_lines 0) (stops_of ahead k printf_lines) None t
      (more_stops printf_lines (place_behind k printf_lines 0) (behind k printf_lines) ahead (passed_behind k printf_lines []) (advance printf_lines k printf_lines 0 [] (whole_at printf_lines))) tt begins.bytes
      (record { frames = begins.frames_are; ended = begins.running; used = refl }) leads))

  -- piece after piece
  pub pieces_lead : (Exit : ℕ → State → Type 0) (Inv : ℕ → ℕ → State → Type 0) → ((j : ℕ) (u : State) → IsBytes u → u.frames ≡ t.frames → Exit j u → R (label_in s f j) u)
      → ((l n : ℕ) (u : State) → IsBytes u → Inv l n u → StopsIn s bounds deepest takes (λ u. ⊥) printf_lines Exit Inv l n u) → (l n : ℕ) → Inv l n t → RawComes s bounds R n (label_in s f l) t
  pieces_lead Exit Inv out piece l n inv =
      let used : ℕ = sum_by (λ (f : Frame). 2 + length f.pushed) t.frames in
      moved_to s bounds R n (label_in s f l) (f, settle printf_lines (labelled printf_lines l)) t t (at_lines l) refl
      (stops_in s bounds deepest takes R (λ u. ⊥) f printf_lines frame frames used begins.has begins.free (λ u h bytes. absurd h) refl Exit Inv
      (λ j u bytes own e. subst (λ (q : Place). R q u) (at_lines j) (out j u bytes (own.frames ∙ sym begins.frames_are) e))
      piece n l n t (omega arith) begins.bytes (record { frames = begins.frames_are; ended = begins.running; used = refl }) inv)
