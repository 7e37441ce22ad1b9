-- The first lines of `printf`: ptr2 becomes the end of the arguments before the format, and ptr1 its address.
use Rattle.std.proofs.Common.{◌≡◌, ℕ, ◌+◌, ◌-◌, ◌*◌, ◌/◌, ◌%◌, ◌<◌, ◌≤◌, Bool, true, false, List, [], ◌∷◌, None, length, refl, sym, ap, ◌∙◌, arith}
use Rattle.std.specs.Prelude.{nat_lt, sum_by}
use Rattle.std.proofs.lemmas.List.Sums.{sum_by-cons}
use Rattle.c65_base.specs.declared.library.Library.TheVariants.{Printf}
use Rattle.c65_base.specs.Formats.{outside}
use Rattle.c65_mach.specs.declared.rows.Op.TheVariants.{Adc, Bcs, Clc, Dec, Iny, Lda, Ldy, Pha, Sbc, Sec, Sta, Tya}
use Rattle.c65_mach.specs.Step.{bit}
use Rattle.c65_code.specs.declared.line.Line.{Line}
use Rattle.c65_code.specs.declared.line.Line.TheVariants.{Label}
use Rattle.c65_code.specs.declared.routine.Routine.TheVariants as routines
use Rattle.c65_code.specs.LineState.{Place, State, Frame, Bytes, write, sp_of, IsBytes}
use Rattle.c65_code.specs.Moves.{settle, labelled}
use Rattle.c65_code.specs.Rows.{format_at}
use Rattle.c65_code.specs.RawMachine.{RawSetting, Bounds, RawComes, IsReachable, reach_of, called, entry_of}
use Rattle.c65_rtl.specs.Assembly.{sp, ptr1, ptr2, ptr3, implied, value, zero_page, by_y, branch}
use Rattle.c65_rtl.proofs.Ways.{whole_at, moved_to}
use Rattle.c65_rtl.proofs.Rounds.{behind}
use Rattle.c65_rtl.proofs.Meeting.{lt_true, lt_false, write_other}
use Rattle.c65_rtl.proofs.Stores.{reach_as}
use Rattle.c65_rtl.proofs.UnaryWords.{bit_carry}
use Rattle.c65_rtl_law_walks.specs.Joined.{label_in}
use Rattle.c65_rtl_law_walks.proofs.Walks.{called_bytes}
use Rattle.c65_va.specs.Printf.{printf_lines}
use Rattle.c65_rtl_law_printf.proofs.Stops.{leads_stop, stop_weight, more_stops, stopping}
use Rattle.c65_rtl_law_printf_fields.proofs.Leading.{no_calls}
use Rattle.c65_rtl_law_printf_fields.proofs.Choosing.{Lowered, low_on, both_on, lowered_low, lowered_both, with_zp}
use Rattle.c65_rtl_law_printf_row.proofs.Left.{Left}
use Rattle.c65_rtl_law_printf_row.proofs.Moments.{at_next, still, Holds}
use Rattle.c65_rtl_law_printf_row.proofs.Context.{Called, frame_of, calls_of, on_stack}

abbrev Way : RawSetting → Bounds → (ℕ → State → Type 0) → List ℕ → List Line → State → Type 0
Way s bounds B stops lines u = leads_stop s bounds 4 no_calls (λ u. ⊥) B stops lines None u

abbrev load_on : List Line → List Line
load_on rest = value Ldy 0 ∷ by_y Lda ptr2 ∷ zero_page Sta ptr1 ∷ implied Iny ∷ by_y Lda ptr2 ∷ zero_page Sta (ptr1 + 1) ∷ value Lda 0 ∷ zero_page Sta ptr3 ∷ zero_page Sta (ptr3 + 1) ∷ Label 0 ∷ rest

abbrev lower_on : List Line → List Line
lower_on rest = implied Sec ∷ zero_page Lda ptr2 ∷ value Sbc 2 ∷ zero_page Sta ptr2 ∷ branch Bcs 11 ∷ zero_page Dec (ptr2 + 1) ∷ Label 11 ∷ rest

abbrev end_on : List Line → List Line
end_on rest = implied Tya ∷ implied Pha ∷ implied Clc ∷ zero_page Adc sp ∷ zero_page Sta ptr2 ∷ zero_page Lda (sp + 1) ∷ value Adc 0 ∷ zero_page Sta (ptr2 + 1) ∷ rest

-- ---- the pieces

abbrev low_of : State → ℕ
low_of u = u.regs.y + u.zp 0 + 0

abbrev high_of : State → ℕ
high_of u = u.zp 1 + 0 + bit (nat_lt 255 (low_of u))

abbrev ended_zp : State → Bytes
ended_zp u = write (write u.zp 10 (low_of u % 256)) 11 (high_of u % 256)

abbrev with_end : State → ℕ → Bool → Bool → Bool → Bool → State
with_end u a n v z c = record u { regs = record u.regs { a = a; n = n; v = v; z = z; c = c }; zp = ended_zp u; pushed = u.regs.y ∷ u.pushed }

end_at : (s : RawSetting) (bounds : Bounds) (B : ℕ → State → Type 0) (rest : List Line) (u : State) → length u.pushed + 1 ≤ 4 → ((a : ℕ) (n v z c : Bool) → Way s bounds B (0 ∷ []) rest (with_end u a n v z c)) → Way s bounds B (0 ∷ []) (end_on rest) u
unfolding leads_stop
end_at s bounds B rest u few follows = (few, follows _ _ _ _ _)

lower_at : (s : RawSetting) (bounds : Bounds) (B : ℕ → State → Type 0) (rest : List Line) (u : State) → u.zp 10 < 256 → u.zp 11 < 256 → 2 ≤ u.zp 10 + 256 * u.zp 11
    → ((a : ℕ) (n v z c : Bool) (zp : Bytes) → Lowered 2 u.zp zp → Way s bounds B (11 ∷ 0 ∷ []) rest (with_zp u a n v z c zp)) → Way s bounds B (0 ∷ []) (lower_on rest) u
unfolding leads_stop
lower_at s bounds B rest u b10 b11 some follows = elim [
  | true ↦ λ e. follows _ _ _ _ _ (low_on 253 u.zp) (lowered_low 2 253 u.zp refl b10 b11 (lt_true _ _ e))
  | false ↦ λ e. follows _ _ _ _ _ (both_on 253 u.zp) (lowered_both 2 253 u.zp refl b10 b11 some (lt_false _ _ e))
]

abbrev first_at : State → ℕ
first_at u = (u.zp 10 + 256 * u.zp 11 + 0) % 65536

abbrev second_at : State → ℕ
second_at u = (u.zp 10 + 256 * u.zp 11 + 1) % 65536

abbrev loaded : State → Bool → Bool → State
loaded u n z = record u { regs = record u.regs { a = 0; y = 1; n = n; z = z }; zp = write (write (write (write u.zp 8 (u.mem (first_at u))) 9 (u.mem (second_at u))) 12 0) 13 0 }

load_at : (s : RawSetting) (bounds : Bounds) (B : ℕ → State → Type 0) (rest : List Line) (u : State) → IsReachable s.place bounds (first_at u) → IsReachable s.place bounds (second_at u) → ((n z : Bool) → B 0 (loaded u n z)) → Way s bounds B (11 ∷ 0 ∷ []) (load_on rest) u
unfolding leads_stop
load_at s bounds B rest u r0 r1 follows = (r0, (r1, follows _ _))

-- ---- joined

module _ (s : RawSetting) (t : State) (text : List ℕ) (back : Place) (call : Called s t) (some : 2 ≤ t.regs.y) (running : t.ended ≡ None) (bs : List ℕ) (left : Left s t outside bs (format_at t) (t.regs.y - 2) text) where
  abbrev f : ℕ
  f = s.routine (routines.Library Printf)

  abbrev extra : ℕ
  extra = 200 + still bs text

  abbrev B : ℕ → State → Type 0
  B j u = (j ≡ 0) × Holds s t text (at_next bs (format_at t) (t.regs.y - 2) text) extra u

  begin_go : (rest : List Line) → Way s (reach_of t) B (0 ∷ []) (end_on (lower_on (load_on rest))) (called back t)
  begin_go rest =
      let b0 = call.bytes.zp 0 in
      let b1 = call.bytes.zp 1 in
      let by = call.bytes.y in
      let top = call.top in
      let soft = call.soft in
      let carry : bit (nat_lt 255 (low_of (called back t))) ≡ low_of (called back t) / 256 = bit_carry (low_of (called back t)) (omega arith) in
      let word : low_of (called back t) % 256 + 256 * (high_of (called back t) % 256) ≡ sp_of t + t.regs.y = omega arith in
      end_at s (reach_of t) B (lower_on (load_on rest)) (called back t) (omega arith) (λ a n v z c.
      let u : State = with_end (called back t) a n v z c in
      lower_at s (reach_of t) B (load_on rest) u (omega arith) (omega arith) (omega arith) (λ d p q r m zp k.
      let o : State = with_zp u d p q r m zp in
      let low = k.low in
      let high = k.high in
      let lower = k.word in
      let at : ℕ = sp_of t + t.regs.y - 2 in
      let e0 : first_at o ≡ at = omega arith in
      let e1 : second_at o ≡ at + 1 = omega arith in
      let m0 : t.mem (first_at o) ≡ t.mem at = ap t.mem e0 in
      let m1 : t.mem (second_at o) ≡ t.mem (at + 1) = ap t.mem e1 in
      let z0 = k.rest 0 (omega arith) (omega arith) in
      let z1 = k.rest 1 (omega arith) (omega arith) in
      load_at s (reach_of t) B rest o (reach_as s.place (reach_of t) (first_at o) at e0 (on_stack s t text back call (λ q u. ⊥) at (omega arith) (omega arith)).reach)
      (reach_as s.place (reach_of t) (second_at o) (at + 1) e1 (on_stack s t text back call (λ q u. ⊥) (at + 1) (omega arith) (omega arith)).reach)
      (λ g h. (
        refl,
        (
          left,
          record {
            format = (let x : t.mem (first_at o) + 256 * t.mem (second_at o) ≡ format_at t = omega arith in x);
            block = (let x : zp 10 + 256 * zp 11 ≡ sp_of t + (t.regs.y - 2) = omega arith in x);
            told = refl;
            count = (let x : (0 + 256 * 0 + length text) % 65536 ≡ length text % 65536 = omega arith in x);
            bank = λ i high. kept zp _ _ i high ∙ (k.rest i (omega arith) (omega arith) ∙ (write_other (write t.zp 10 (low_of (called back t) % 256)) 11 _ i (omega arith) ∙ write_other t.zp 10 _ i (omega arith)));
            mem = λ b fixed. refl;
            pushed = refl;
            input = refl;
            ended = running;
          },
          (let x : zp 0 + 256 * zp 1 ≡ sp_of t = omega arith in x),
          (let x : 200 + still bs text ≤ 200 + still bs text = omega arith in x),
        ),
      ))))
    where
      kept : (zp : Bytes) (a b i : ℕ) → 20 ≤ i → write (write (write (write zp 8 a) 9 b) 12 0) 13 0 i ≡ zp i
      kept zp a b i high =
          write_other (write (write (write zp 8 a) 9 b) 12 0) 13 0 i (omega arith) ∙ (write_other (write (write zp 8 a) 9 b) 12 0 i (omega arith) ∙ (write_other (write zp 8 a) 9 b i (omega arith) ∙ write_other zp 8 a i (omega arith)))

  -- from there on
  pub begins : (Q : Place → State → Type 0) → ((u : State) → IsBytes u → u.frames ≡ calls_of t back → Holds s t text (at_next bs (format_at t) (t.regs.y - 2) text) extra u → RawComes s (reach_of t) Q extra (label_in s f 0) u)
      → RawComes s (reach_of t) Q (stop_weight no_calls extra (0 ∷ []) printf_lines) (entry_of s f) (called back t)
  begins Q next =
      let used : ℕ = sum_by (λ (f : Frame). 2 + length f.pushed) (calls_of t back) in
      let sum : sum_by (λ (f : Frame). 2 + length f.pushed) (calls_of t back) ≡ 2 + length t.pushed + sum_by (λ (f : Frame). 2 + length f.pushed) t.frames = sum_by-cons (λ (f : Frame). 2 + length f.pushed) (frame_of t back) t.frames in
      let hard = call.hard in
      let free : (reach_of t).hard + 4 ≤ 253 - used = omega arith in
      let has = call.stand.stand.printf in
      moved_to s (reach_of t) Q (stop_weight no_calls extra (0 ∷ []) printf_lines) (entry_of s f) (f, settle printf_lines 0) (called back t) (called back t)
      (ap (λ (ls : List Line). let q : Place = (f, settle ls 0) in q) has) refl
      (stopping s (reach_of t) 4 no_calls Q (λ u. ⊥) f printf_lines (frame_of t back) t.frames used has free (λ u h bytes. absurd h) refl B extra
      (λ j u bytes own h. moved_to s (reach_of t) Q extra (f, settle printf_lines (labelled printf_lines j)) (label_in s f 0) u u
      (ap (λ (j : ℕ). let q : Place = (f, settle printf_lines (labelled printf_lines j)) in q) h.0 ∙ sym (ap (λ (ls : List Line). let q : Place = (f, settle ls (labelled ls 0)) in q) has)) refl
      (next u bytes own.frames h.1))
      printf_lines 0 (0 ∷ []) None (called back t) (more_stops printf_lines 0 printf_lines (0 ∷ []) [] (whole_at printf_lines)) tt (called_bytes back t call.bytes)
      (record { frames = refl; ended = running; used = refl }) (begin_go (behind 25 printf_lines)))
