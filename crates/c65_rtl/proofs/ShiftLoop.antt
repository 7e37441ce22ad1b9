-- One loop for the shifts of both widths and all directions.
use Rattle.std.proofs.Common.{◌≡◌, ◌≢◌, ℕ, zero, suc, ◌+◌, ◌-◌, ◌*◌, ◌%◌, ◌<◌, ◌≤◌, Bool, true, false, IsTrue, List, [], ◌∷◌, Option, Some, None, refl, sym, ap, subst, ◌∙◌, arith}
use Rattle.std.specs.Prelude.{◌==◌, if◌then◌else◌, nat_lt}
use Rattle.c65_mach.specs.State.{Regs}
use Rattle.c65_code.specs.declared.line.Line.{Line}
use Rattle.c65_code.specs.declared.line.Line.TheVariants.{Label}
use Rattle.c65_code.specs.declared.routine.Routine.TheVariants as routines
use Rattle.c65_code.specs.declared.routine.TosOp.{TosOp}
use Rattle.c65_code.specs.declared.routine.Width.{Width}
use Rattle.c65_code.specs.declared.routine.Width.TheVariants.{Ax, Eax}
use Rattle.c65_code.specs.LineState.{Place, Bytes, State, sp_of, IsBytes}
use Rattle.c65_code.specs.Numbers.{bits_of, words_of, counted, result_width, tos_result}
use Rattle.c65_code.specs.Placement.{Placement}
use Rattle.c65_code.specs.Moves.{settle, labelled}
use Rattle.c65_code.specs.Rows.{Row, number_at, primary_of, tos_cost, tos_row}
use Rattle.c65_code.specs.RawMachine.{RawSetting, Bounds, called, MeetsRow, reach_of}
use Rattle.c65_rtl.specs.Short.{leads_on}
use Rattle.c65_rtl.proofs.Ways.{leads, Ends}
use Rattle.c65_rtl.proofs.Rounds.{leads_round, onward_round, round_weight, behind, place_behind, passed_behind, Less, Enters, IsLoop, runs_rounds}
use Rattle.c65_rtl.proofs.Meeting.{lt_true}
use Rattle.c65_rtl.proofs.Pushes.{meets_by}
use Rattle.c65_rtl.proofs.OnTos.{IsResult, IsResultIf, GivesResult, Begins, IsRow, operator_row, is_row, begins, operator_ends}
use Rattle.c65_rtl.proofs.ShiftPieces.{IsHeld, count_of, count_is, head_on, head_at, exit_lines, exit_at}

-- the state after a round
abbrev pub turned : (Bytes → ℕ → Bytes) → (Bytes → ℕ → ℕ) → State → Bool → Bool → State
turned zp_of a_of u n c = record u { regs = record u.regs { a = a_of u.zp u.regs.a; x = (u.regs.x + 255) % 256; n = n; z = (u.regs.x + 255) % 256 == 0; c = c }; zp = zp_of u.zp u.regs.a }

-- the lines of a round lead back to label 2, or on behind label 3; and to there where that label is sought
abbrev pub RoundLeads : (List Line → List Line) → (Bytes → ℕ → Bytes) → (Bytes → ℕ → ℕ) → Type 1
RoundLeads on zp_of a_of = (place : Placement) (bounds : Bounds) (P : State → Type 0) (B : ℕ → State → Type 0) (rest : List Line) (u : State) → ((n c : Bool) → (u.regs.x + 255) % 256 ≢ 0 → B 2 (turned zp_of a_of u n c))
    → ((n c : Bool) → (u.regs.x + 255) % 256 ≡ 0 → leads_round place bounds P B (3 ∷ 2 ∷ []) rest None (turned zp_of a_of u n c)) → leads_round place bounds P B (2 ∷ []) (on rest) None u

abbrev pub RoundSkips : (List Line → List Line) → Type 1
RoundSkips on = (place : Placement) (bounds : Bounds) (P : State → Type 0) (B : ℕ → State → Type 0) (rest : List Line) (u : State) → leads_round place bounds P B (3 ∷ 2 ∷ []) rest None u → leads_round place bounds P B (2 ∷ []) (on rest) (Some 3) u

-- a round makes of the number after so many shifts the number after one more
abbrev pub Steps : Width → (Bytes → ℕ → Bytes) → (Bytes → ℕ → ℕ) → (ℕ → ℕ → ℕ) → Type 0
Steps width zp_of a_of G = (v d : ℕ) (old zp : Bytes) (a : ℕ) → v < words_of width → suc d < bits_of width → IsHeld width (G v d) old zp a → IsHeld width (G v (suc d)) old (zp_of zp a) (a_of zp a)

-- the state in the loop, with so many rounds to go
pub record Turning (width : Width) (old : State) (count : ℕ) (G : ℕ → ℕ) (togo : ℕ) (u : State) : Type 0 where
  pub is : u ≡ record old { regs = u.regs; zp = u.zp }
  pub x : u.regs.x ≡ togo
  pub held : IsHeld width (G (count - togo)) old.zp u.zp u.regs.a
  pub few : togo ≤ count
  pub small : count < bits_of width

bits_small : (width : Width) → bits_of width ≤ 32
bits_small Ax = omega arith
bits_small Eax = omega arith

turns : (width : Width) (zp_of : Bytes → ℕ → Bytes) (a_of : Bytes → ℕ → ℕ) (G : ℕ → ℕ → ℕ) (v : ℕ) → v < words_of width → Steps width zp_of a_of G → (old : State) (count togo : ℕ) (u : State) (n c : Bool)
    → Turning width old count (G v) (suc togo) u → Turning width old count (G v) togo (turned zp_of a_of u n c)
turns width zp_of a_of G v word steps old count togo u n c t =
    let x_is = t.x in
    let few = t.few in
    let small = t.small in
    let bits = bits_small width in
    let d : ℕ = count - suc togo in
    let later : suc d ≡ count - togo = omega arith in
    let after : State = turned zp_of a_of u n c in
    record {
      is = ap (λ (k : State). let w : State = record k { regs = after.regs; zp = after.zp } in w) t.is;
      x = omega arith;
      held = subst (λ (k : ℕ). IsHeld width (G v k) old.zp after.zp after.regs.a) later (steps v d old.zp u.zp u.regs.a word (omega arith) t.held);
      few = omega arith;
      small = small;
    }

-- how many lines stand before the loop
abbrev pub lines_before : Width → ℕ
lines_before Ax = 9
lines_before Eax = 15

exit_onward : (width : Width) → IsTrue (leads_on (3 ∷ 2 ∷ []) (exit_lines width))
exit_onward Ax = refl
exit_onward Eax = refl

loop_stands : (width : Width) (rest : List Line) → settle (head_on width rest) (labelled (head_on width rest) 2) ≡ settle (head_on width rest) (place_behind (lines_before width) (head_on width rest) 0)
loop_stands Ax rest = refl
loop_stands Eax rest = refl

-- a loop from its label on
at_label : (width : Width) (place : Placement) (bounds : Bounds) (P : State → Type 0) (B : ℕ → State → Type 0) (rest : List Line) (u : State) → leads_round place bounds P B (2 ∷ []) rest None u
    → leads_round place bounds P B (passed_behind (lines_before width) (head_on width rest) []) (behind (lines_before width) (head_on width rest)) None u
unfolding leads_round
at_label Ax place bounds P B rest u h = h
at_label Eax place bounds P B rest u h = h

if_counted : (width : Width) (count v a x : ℕ) (zp : Bytes) → (count < bits_of width → IsResult width v a x zp) → IsResultIf width (counted width count v) a x zp
if_counted width count v a x zp h = by (nat_lt count (bits_of width)) refl
  where
    by : (b : Bool) → nat_lt count (bits_of width) ≡ b → IsResultIf width (if b then Some v else None) a x zp
    by true e = h (lt_true count (bits_of width) e)
    by false e = tt

-- a count in range is all of the primary register
same_count : (width : Width) (t : State) → IsBytes t → primary_of width t < bits_of width → count_of width t ≡ primary_of width t
same_count Ax t bytes few =
    let mask = count_is Ax t in
    let byte_a = bytes.a in
    omega arith
same_count Eax t bytes few =
    let mask = count_is Eax t in
    let byte_a = bytes.a in
    omega arith

number_small : (width : Width) (t : State) → IsBytes t → number_at width t.mem (sp_of t) < words_of width
number_small Ax t bytes =
    let m0 = bytes.mem (sp_of t) in
    let m1 = bytes.mem (sp_of t + 1) in
    omega arith
number_small Eax t bytes =
    let m0 = bytes.mem (sp_of t) in
    let m1 = bytes.mem (sp_of t + 1) in
    let m2 = bytes.mem (sp_of t + 2) in
    let m3 = bytes.mem (sp_of t + 2 + 1) in
    omega arith

count_small : (width : Width) (t : State) → count_of width t < bits_of width
count_small Ax t = let mask = count_is Ax t in omega arith
count_small Eax t = let mask = count_is Eax t in omega arith

-- the weight of a loop's lines: 9 for a round, and 40 for what follows the last one
pub record IsLight (width : Width) (on : List Line → List Line) : Type 0 where
  pub last : round_weight 0 [] (Label 2 ∷ on (exit_lines width)) ≤ 40
  pub more : (m n : ℕ) → m ≤ 9 * n + 40 → round_weight m [] (Label 2 ∷ on (exit_lines width)) ≤ 9 * suc n + 40
  pub whole : suc (round_weight (9 * bits_of width + 40) [] (head_on width (on (exit_lines width)))) ≤ 512

weight_behind : (width : Width) (m : ℕ) (rest : List Line) → round_weight m (passed_behind (lines_before width) (head_on width rest) []) (behind (lines_before width) (head_on width rest)) ≡ round_weight m [] (Label 2 ∷ rest)
weight_behind Ax m rest = refl
weight_behind Eax m rest = refl

module _ (s : RawSetting) (op : TosOp) (width : Width) (on : List Line → List Line) (zp_of : Bytes → ℕ → Bytes) (a_of : Bytes → ℕ → ℕ) (G : ℕ → ℕ → ℕ)
    (skips : RoundSkips on) (goes : RoundLeads on zp_of a_of) (starts : (v : ℕ) → v < words_of width → v ≡ G v 0) (steps : Steps width zp_of a_of G) (light : IsLight width on)
    (gives : result_width op width ≡ width) (result : (a b : ℕ) → tos_result op width a b ≡ counted width b (G a b)) (dear : tos_cost op ≡ 512) where
  abbrev lines : List Line
  lines = head_on width (on (exit_lines width))

  module _ (back : Place) (t : State) (begin : Begins width s.place (reach_of t) t) (running : t.ended ≡ None) where
    abbrev tos : ℕ
    tos = number_at width t.mem (sp_of t)

    abbrev row : Row
    row = operator_row op width (result_width op width) (tos_result op width tos (primary_of width t)) t

    abbrev P : State → Type 0
    P = Ends row t

    abbrev Inv : ℕ → State → Type 0
    Inv n u = Turning width (called back t) (count_of width t) (G tos) (suc n) u

    ends : GivesResult op width width (Some (G tos (count_of width t))) back t P
    ends a x y n v z c zp ws allowed same sp h =
        operator_ends op width (result_width op width) (tos_result op width tos (primary_of width t)) back t running a x y n v z c zp ws allowed same sp
        (subst (λ (w : Width). IsResultIf w (tos_result op width tos (primary_of width t)) a x zp) (sym gives)
        (subst (λ (r : Option ℕ). IsResultIf width r a x zp) (sym (result tos (primary_of width t)))
        (if_counted width (primary_of width t) (G tos (primary_of width t)) a x zp (λ few. subst (λ (k : ℕ). IsResult width (G tos k) a x zp) (same_count width t begin.bytes few) h))))

    exits : (B : ℕ → State → Type 0) (u : State) → Turning width (called back t) (count_of width t) (G tos) 0 u → leads_round s.place (reach_of t) P B (3 ∷ 2 ∷ []) (exit_lines width) None u
    exits B u done =
        let all : count_of width t - 0 ≡ count_of width t = omega arith in
        onward_round s.place (reach_of t) P B (exit_lines width) (3 ∷ 2 ∷ []) (exit_onward width) None u
        (subst (λ (k : State). leads s.place (reach_of t) P (exit_lines width) None k) (sym done.is)
        (exit_at width op s.place (reach_of t) P back t (G tos (count_of width t)) u.regs u.zp begin (subst (λ (k : ℕ). IsHeld width (G tos k) t.zp u.zp u.regs.a) all done.held) ends))

    one_round : (B : ℕ → State → Type 0) (n : ℕ) (u : State) → Inv n u → ((m : ℕ) → n ≡ suc m → (w : State) → Inv m w → B 2 w) → leads_round s.place (reach_of t) P B (2 ∷ []) (on (exit_lines width)) None u
    one_round B zero u turning again =
        let x_is = turning.x in
        let last : (u.regs.x + 255) % 256 ≡ 0 = omega arith in
        goes s.place (reach_of t) P B (exit_lines width) u (λ n c some. absurd (some last))
        (λ n c none. exits B (turned zp_of a_of u n c) (turns width zp_of a_of G tos (number_small width t begin.bytes) steps (called back t) (count_of width t) 0 u n c turning))
    one_round B (suc m) u turning again =
        let x_is = turning.x in
        let few = turning.few in
        let small = turning.small in
        let bits = bits_small width in
        goes s.place (reach_of t) P B (exit_lines width) u
        (λ n c some. again m refl (turned zp_of a_of u n c) (turns width zp_of a_of G tos (number_small width t begin.bytes) steps (called back t) (count_of width t) (suc m) u n c turning))
        (λ n c none. absurd (omega arith))

    loop : IsLoop s.place (reach_of t) P lines 2 (lines_before width) 9 40 Inv
    loop = record {
      stands = loop_stands width (on (exit_lines width));
      body = λ n u turning. at_label width s.place (reach_of t) P (Less 2 Inv n) (on (exit_lines width)) u (one_round (Less 2 Inv n) n u turning (λ m e w h. subst (λ (k : ℕ). Less 2 Inv k 2 w) (sym e) (refl, h)));
      last = subst (λ (k : ℕ). k ≤ 40) (sym (weight_behind width 0 (on (exit_lines width)))) light.last;
      more = λ m n le. subst (λ (k : ℕ). k ≤ 9 * suc n + 40) (sym (weight_behind width m (on (exit_lines width)))) (light.more m n le);
    }

    starting : (r : Regs) (zp : Bytes) → r.x ≡ count_of width t → IsHeld width tos t.zp zp r.a → (n : ℕ) → count_of width t ≡ n → Turning width (called back t) (count_of width t) (G tos) n (record (called back t) { regs = r; zp = zp })
    starting r zp x_is held n e =
        let none : 0 ≡ count_of width t - n = omega arith in
        record {
          is = refl;
          x = x_is ∙ e;
          held = subst (λ (v : ℕ). IsHeld width v t.zp zp r.a) (starts tos (number_small width t begin.bytes) ∙ ap (G tos) none) held;
          few = omega arith;
          small = count_small width t;
        }

    enters : (r : Regs) (zp : Bytes) → r.x ≡ count_of width t → IsHeld width tos t.zp zp r.a → (count_of width t + 256 - 0) % 256 ≢ 0 → (n : ℕ) → count_of width t ≡ n
        → leads_round s.place (reach_of t) P (Enters 2 (bits_of width) Inv) (2 ∷ []) (on (exit_lines width)) None (record (called back t) { regs = r; zp = zp })
    enters r zp x_is held some zero e = absurd (some (let g : (count_of width t + 256 - 0) % 256 ≡ 0 = omega arith in g))
    enters r zp x_is held some (suc n) e =
        let small = count_small width t in
        one_round (Enters 2 (bits_of width) Inv) n (record (called back t) { regs = r; zp = zp }) (starting r zp x_is held (suc n) e) (λ m f w h. (refl, (m, (let less : m < bits_of width = omega arith in less), h)))

    begun : leads_round s.place (reach_of t) P (Enters 2 (bits_of width) Inv) [] lines None (called back t)
    begun = head_at width s.place (reach_of t) P (Enters 2 (bits_of width) Inv) (on (exit_lines width)) back t begin
        (λ r zp x_is held none.
        let small = count_small width t in
        let bits = bits_small width in
        skips s.place (reach_of t) P (Enters 2 (bits_of width) Inv) (exit_lines width) (record (called back t) { regs = r; zp = zp })
        (exits (Enters 2 (bits_of width) Inv) (record (called back t) { regs = r; zp = zp }) (starting r zp x_is held 0 (omega arith))))
        (λ r zp x_is held some. enters r zp x_is held some (count_of width t) refl)

  pub shift_meets : s.lines (s.routine (routines.Tos op width)) ≡ lines → MeetsRow s (routines.Tos op width)
  shift_meets has = meets_by s (routines.Tos op width) (λ t. tos_row op width t) (λ t. refl) (λ back t may.
      let known : IsRow op width t (tos_row op width t) = is_row op width (result_width op width) (tos_result op width (number_at width t.mem (sp_of t)) (primary_of width t)) t in
      let begin : Begins width s.place (reach_of t) t = begins op width (tos_row op width t) s t known may in
      runs_rounds s (routines.Tos op width) (tos_row op width t) back t lines has 2 (lines_before width) 9 40 (bits_of width) (Inv back t begin may.running) (loop back t begin may.running) (λ n few. omega arith)
      (subst (λ (k : ℕ). suc (round_weight (9 * bits_of width + 40) [] lines) ≤ k) (sym (known.cost ∙ dear)) light.whole) known.ends may (begun back t begin may.running))
