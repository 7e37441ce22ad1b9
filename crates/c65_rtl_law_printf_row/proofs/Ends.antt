-- The first lines of `printf`, and the last.
use Rattle.std.proofs.Common.{◌≡◌, ℕ, ◌+◌, ◌-◌, ◌/◌, ◌%◌, ◌<◌, ◌≤◌, ◌⊎◌, inl, inr, Bool, false, List, [], ◌∷◌, Some, None, length, refl, sym, ap, subst, ◌∙◌, arith}
use Rattle.std.specs.Prelude.{sum_by}
use Rattle.std.proofs.lemmas.List.{append-nil}
use Rattle.std.proofs.lemmas.List.Elements.{All-nil}
use Rattle.c65_base.specs.declared.library.Library.TheVariants.{Printf}
use Rattle.c65_mach.specs.declared.rows.Op.TheVariants.{Lda, Ldx, Pla, Rts, Tay}
use Rattle.c65_code.specs.declared.line.Line.{Line}
use Rattle.c65_code.specs.declared.routine.Routine.{Routine}
use Rattle.c65_code.specs.declared.routine.Routine.TheVariants as routines
use Rattle.c65_code.specs.LineState.{Place, State, Frame, sp_of, IsBytes}
use Rattle.c65_code.specs.Moves.{settle, labelled}
use Rattle.c65_code.specs.Rows.{Row, Meets, row_by, costing, print_row}
use Rattle.c65_code.specs.Segments.{is_among}
use Rattle.c65_code.specs.RawMachine.{RawSetting, Bounds, IsReachable, reach_of, HasDone}
use Rattle.c65_rtl.specs.Assembly.{ptr3, implied, zero_page, call}
use Rattle.c65_rtl.proofs.Ways.{Ends, whole_at, weaken, moved_to}
use Rattle.c65_rtl.proofs.Rounds.{behind, place_behind, passed_behind}
use Rattle.c65_rtl.proofs.Meeting.{ends_by}
use Rattle.c65_rtl_law_walks.specs.Joined.{label_in, Around}
use Rattle.c65_rtl_law_walks.proofs.Loops.{advance}
use Rattle.c65_rtl_law_walks.proofs.Walks.{Takes, Calls}
use Rattle.c65_rtl_law_inner.proofs.Beside.{returns, outside as other_place, values, rewritten}
use Rattle.c65_rtl_law_inner.proofs.Kept.{kept_from}
use Rattle.c65_rtl_law_inner.proofs.Pops.{above_or_below}
use Rattle.c65_va.specs.Printf.{printf_lines}
use Rattle.c65_rtl_law_printf.proofs.Stops.{leads_stop, stop_weight, stops_of, more_stops, stopping}
use Rattle.c65_rtl_law_printf.proofs.Writing.{added_row, add_y_comes}
use Rattle.c65_rtl_law_printf_row.proofs.Moments.{at_end, Reading, Holds, Inv}
use Rattle.c65_rtl_law_printf_row.proofs.Context.{Called, frame_of, calls_of, Turning, deep_enough}

abbrev takes : Routine → Takes
takes routines.AddYSp = record { below = 0; pushed = 1; weight = 10 }
takes _ = record { below = 0; pushed = 0; weight = 0 }

-- the row, where the format has a text
abbrev pub text_row : List ℕ → State → Row
text_row text t = print_row t (Some text) (costing 256 (row_by (routines.Library Printf) t))

-- ---- the last lines

abbrev last_gone : List ℕ
last_gone = 10 ∷ 30 ∷ 9 ∷ 29 ∷ 28 ∷ 8 ∷ 27 ∷ 26 ∷ 25 ∷ 7 ∷ 24 ∷ 6 ∷ 23 ∷ 22 ∷ 21 ∷ 20 ∷ 19 ∷ 5 ∷ 4 ∷ 18 ∷ 17 ∷ 3 ∷ 16 ∷ 15 ∷ 14 ∷ 2 ∷ 13 ∷ 1 ∷ 12 ∷ 0 ∷ 11 ∷ []

abbrev end_on : List Line → List Line
end_on rest = implied Pla ∷ implied Tay ∷ zero_page Lda ptr3 ∷ zero_page Ldx (ptr3 + 1) ∷ call routines.AddYSp ∷ rest

abbrev Last : RawSetting → Bounds → ℕ → (State → Type 0) → List Line → State → Type 0
Last s bounds deepest P lines u = leads_stop s bounds deepest takes P (λ j u. ⊥) last_gone lines None u

abbrev taken_off : State → ℕ → Bool → Bool → State
taken_off u y n z = record u { regs = record u.regs { a = u.zp 12; x = u.zp 13; y = y; n = n; z = z }; pushed = [] }

pulled_at : (s : RawSetting) (bounds : Bounds) (deepest : ℕ) (P : State → Type 0) (rest : List Line) (u : State) (y : ℕ)
    → ((n z : Bool) → Calls s bounds deepest takes routines.AddYSp (leads_stop s bounds deepest takes P (λ j u. ⊥) last_gone rest) (taken_off u y n z)) → Last s bounds deepest P (end_on rest) (record u { pushed = y ∷ [] })
unfolding leads_stop
pulled_at s bounds deepest P rest u y follows = follows _ _

end_at : (s : RawSetting) (bounds : Bounds) (deepest : ℕ) (P : State → Type 0) (rest : List Line) (u : State) (y : ℕ) → u.pushed ≡ y ∷ []
    → ((n z : Bool) → Calls s bounds deepest takes routines.AddYSp (leads_stop s bounds deepest takes P (λ j u. ⊥) last_gone rest) (taken_off u y n z)) → Last s bounds deepest P (end_on rest) u
end_at s bounds deepest P rest u y e follows =
    subst (λ (o : State). Last s bounds deepest P (end_on rest) o) (sym (ap (λ (ps : List ℕ). let o : State = record u { pushed = ps } in o) e)) (pulled_at s bounds deepest P rest u y follows)

return_at : (s : RawSetting) (bounds : Bounds) (deepest : ℕ) (P : State → Type 0) (u : State) → u.pushed ≡ [] → P u → Last s bounds deepest P (implied Rts ∷ []) u
unfolding leads_stop
return_at s bounds deepest P u none h = returns P u none h

-- the places of the zero page that may change
abbrev places : List ℕ
places = 2 ∷ 3 ∷ 4 ∷ 5 ∷ 6 ∷ 7 ∷ 8 ∷ 9 ∷ 10 ∷ 11 ∷ 12 ∷ 13 ∷ 14 ∷ 15 ∷ 16 ∷ 17 ∷ 18 ∷ 19 ∷ []

above_places : (i : ℕ) → 2 ≤ i → is_among places i ≡ false → 20 ≤ i
above_places i two out =
    let e2 = other_place places 2 i refl out in
    let e3 = other_place places 3 i refl out in
    let e4 = other_place places 4 i refl out in
    let e5 = other_place places 5 i refl out in
    let e6 = other_place places 6 i refl out in
    let e7 = other_place places 7 i refl out in
    let e8 = other_place places 8 i refl out in
    let e9 = other_place places 9 i refl out in
    let e10 = other_place places 10 i refl out in
    let e11 = other_place places 11 i refl out in
    let e12 = other_place places 12 i refl out in
    let e13 = other_place places 13 i refl out in
    let e14 = other_place places 14 i refl out in
    let e15 = other_place places 15 i refl out in
    let e16 = other_place places 16 i refl out in
    let e17 = other_place places 17 i refl out in
    let e18 = other_place places 18 i refl out in
    let e19 = other_place places 19 i refl out in
    omega arith

module _ (s : RawSetting) (t : State) (text : List ℕ) (back : Place) (call : Called s t) where
  abbrev f : ℕ
  f = s.routine (routines.Library Printf)

  abbrev bounds : Bounds
  bounds = reach_of t

  abbrev Done : Place → State → Type 0
  Done q u = HasDone None (text_row text t) back t q u

  fixed : (b : ℕ) → (b + 64 < sp_of t) ⊎ ((sp_of t ≤ b) ⊎ (sp_of t ≤ b)) → (b + 64 < sp_of t) ⊎ (sp_of t ≤ b)
  fixed b (inl below) = inl below
  fixed b (inr (inl above)) = inr above
  fixed b (inr (inr above)) = inr above

  row_ends : (p size : ℕ) (u w : State) (n z : Bool) → Reading s t text p size [] u → sp_of u ≡ sp_of t → IsBytes u → Meets (added_row (taken_off u t.regs.y n z)) (taken_off u t.regs.y n z) w → Ends (text_row text t) t w
  row_ends p size u w n z r sp_is bytes m =
      let kept = kept_from (added_row (taken_off u t.regs.y n z)) (taken_off u t.regs.y n z) w 2 m refl in
      let count = r.count in
      let b12 = bytes.zp 12 in
      let b13 = bytes.zp 13 in
      let moved : sp_of w ≡ (sp_of u + t.regs.y) % 65536 = m.sp in
      let a_is : w.regs.a ≡ u.zp 12 = m.a in
      let x_is : w.regs.x ≡ u.zp 13 = m.x in
      let nothing : length {A = ℕ} [] ≡ 0 = refl in
      ends_by (text_row text t) t w (values w.zp places) (record {
        zp = λ i two. rewritten t.zp w.zp places i (λ out. kept i two ∙ r.bank i (above_places i two out));
        fit = refl;
        small = (refl, refl, refl, refl, refl);
        low_kept = tt;
        high_kept = tt;
        a_kept = tt;
        x_kept = tt;
        sp = moved ∙ ap (λ (at : ℕ). (at + t.regs.y) % 65536) sp_is;
        a = (let g : w.regs.a ≡ length text % 256 = omega arith in g);
        x = (let g : w.regs.x ≡ length text / 256 % 256 = omega arith in g);
        sreg = tt;
        pointers = tt;
        bank = tt;
        mem = λ b h. m.mem b (above_or_below (sp_of u) b) ∙ r.mem b (fixed b h);
        input = m.input ∙ r.input;
        output = m.output ∙ (append-nil u.output ∙ (sym (append-nil u.output) ∙ r.told));
        ended = m.ended;
      })

  pub end_turn : (p size n : ℕ) (u : State) → IsBytes u → u.frames ≡ calls_of t back → Holds s t text (at_end p size) n u → Turning s t text back call Done 10 n u
  end_turn p size n u bytes same h =
      let r : Reading s t text p size [] u = h.0 in
      let enough = h.2 in
      let pushed = ap (λ (ps : List ℕ). length ps) r.pushed in
      let hard = deep_enough s t text back call Done u same (omega arith) in
      let soft = call.soft in
      let top = call.top in
      let sp_is = h.1 in
      let used : ℕ = sum_by (λ (f : Frame). 2 + length f.pushed) u.frames in
      let free : bounds.hard + 4 ≤ 253 - used = omega arith in
      let P : State → Type 0 = Ends (text_row text t) t in
      let R : Place → State → Type 0 = Around s Done f (Inv s t text (calls_of t back)) 0 in
      let lines : List Line = behind 292 printf_lines in
      record {
        less = 0;
        spent = 60;
        fewer = omega arith;
        weighs = omega arith;
        comes = moved_to s bounds R 60 (label_in s f 10) (f, settle printf_lines (place_behind 292 printf_lines 0)) u u
            (ap (λ (ls : List Line). let q : Place = (f, settle ls (labelled ls 10)) in q) call.stand.stand.printf) refl
            (weaken s bounds R (stop_weight takes 0 (stops_of [] 292 printf_lines) lines) 60 (f, settle printf_lines (place_behind 292 printf_lines 0)) u (omega arith)
            (stopping s bounds 4 takes R P f printf_lines (frame_of t back) t.frames used call.stand.stand.printf free (λ w m bytes_w. inl (refl, m, bytes_w)) refl (λ j u. ⊥) 0 (λ j u bytes own h. absurd h)
            lines (place_behind 292 printf_lines 0) (stops_of [] 292 printf_lines) None u
            (more_stops printf_lines (place_behind 292 printf_lines 0) lines [] (passed_behind 292 printf_lines []) (advance printf_lines 292 printf_lines 0 [] (whole_at printf_lines))) tt bytes
            (record { frames = same; ended = r.ended; used = refl })
            (end_at s bounds 4 P (implied Rts ∷ []) u t.regs.y r.pushed (λ n z. record {
              row = added_row (taken_off u t.regs.y n z);
              comes = λ may_in from. add_y_comes s call.stand.stand.add bounds from (taken_off u t.regs.y n z) may_in;
              goes_on = refl;
              ready = refl;
              near = All-nil (IsReachable s.place bounds);
              far = All-nil (IsReachable s.place bounds);
              soft = omega arith;
              hard = omega arith;
              high = omega arith;
              data_low = call.data_low;
              follows = λ w m inner. return_at s bounds 4 P w m.pushed (row_ends p size u w n z r sp_is bytes m);
            }))));
      }
