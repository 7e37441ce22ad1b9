-- `tosdivax` and `tosmodax` (C90 6.3.5)
use Rattle.std.proofs.Common.{◌≡◌, ◌≢◌, ℕ, suc, ◌+◌, ◌*◌, ◌<◌, ◌≤◌, Bool, true, not, List, [], ◌∷◌, Option, None, refl, sym, ap, ◌∙◌, arith}
use Rattle.std.specs.Prelude.{nat_lt, bit_xor}
use Rattle.std.specs.Bool.{beq}
use Rattle.std.proofs.lemmas.List.Elements.{All-nil}
use Rattle.c65_mach.specs.State.{Regs}
use Rattle.c65_code.specs.declared.routine.Routine.TheVariants as routines
use Rattle.c65_code.specs.declared.routine.TosOp.TheVariants as tos
use Rattle.c65_code.specs.declared.routine.Width.TheVariants.{Ax}
use Rattle.c65_code.specs.declared.line.Line.{Line}
use Rattle.c65_code.specs.LineState.{Place, Bytes, State, write, word_at, sp_of, ax_of, IsBytes}
use Rattle.c65_code.specs.Numbers.{divided, is_negative, magnitude, with_sign, signed_quotient, signed_remainder}
use Rattle.c65_code.specs.Moves.{settle, labelled}
use Rattle.c65_code.specs.RawMachine.{RawSetting, Bounds, IsReachable, RawComes, HasDone, called, entry_of}
use Rattle.c65_rtl.proofs.Ways.{Ends}
use Rattle.c65_rtl.proofs.Meeting.{eq_false, write_other}
use Rattle.c65_rtl_law_walks.specs.Inside.{MayRunIn}
use Rattle.c65_rtl_law_walks.proofs.Turning.{turn_weight, TurnsIn}
use Rattle.c65_rtl_law_walks.proofs.Meets.{turning_meets, met_within}
use Rattle.c65_rtl_law_inner.proofs.Pops.{popax_row, pop_word_comes, Popped, popped}
use Rattle.c65_rtl_law_inner.proofs.Beside.{Beside, outside}
use Rattle.c65_rtl_law_quotients.specs.Rows.{Holds, IsMet, IsMetBy}
use Rattle.c65_rtl_law_quotients.proofs.Rounds.{Divided, after_all}
use Rattle.c65_rtl_law_quotients.proofs.Pieces.{takes, Ways, divide_on, terms_on, begun, begin_at, pointed, terms_at, held, dividend_at, quotient_on, remainder_on, back_lines, quotient_at, remainder_at}
use Rattle.c65_rtl_law_quotients.proofs.Dividing.{places, Terms, Dividing, Behind, divide_go, before}
use Rattle.c65_rtl_law_quotients.proofs.Leaving.{IsLeft, leaves_turning, calls_first, first_meets}
use Rattle.c65_rtl_law_quotients.proofs.Results.{result_row, goes_on, may_pop, may_pop_called, Leaves, still_leaves, beside_called, modest, result_ends, result_by}
use Rattle.c65_rtl_law_quotients.proofs.SignPieces.{signs_on, marked, signs_at, first_on, second_on, negated, first_at, with_sign_of, second_at, signed_on, Signs, quotient_signs, remainder_signs}
use Rattle.c65_rtl_law_quotients.proofs.SignNumbers.{word_negative, plain, turned, magnitude_fits, magnitude_some, signs_differ, minus_ax}

abbrev dividend_of : State → ℕ
dividend_of t = word_at t.mem (sp_of t)

-- the dividend's sign is in its high byte, and the quotient's in this
abbrev first_of : State → ℕ
first_of t = t.mem (sp_of t + 1)

abbrev second_of : State → ℕ
second_of t = bit_xor (first_of t) t.regs.x

abbrev signed_lines : List Line → List Line
signed_lines rest = terms_on (signs_on (first_on (second_on (divide_on rest))))

-- both terms before the loop
record Waiting (t : State) (first second v d : ℕ) (u : State) : Type 0 where
  beside : Beside t 2 u
  terms : Terms t first second d u.zp
  low : u.zp 8 < 256
  high : u.zp 9 < 256
  is : u.zp 8 + 256 * u.zp 9 ≡ v

first_go : (s : RawSetting) (bounds : Bounds) (P : State → Type 0) (B : ℕ → State → Type 0) (rest : List Line) (t : State) (first second v d : ℕ) (u : State) → u.regs.n ≡ nat_lt 127 (u.zp 9) → Waiting t first second v d u
    → ((w : State) → Waiting t first second (magnitude Ax v) d w → Ways s bounds P B (0 ∷ []) rest w) → Ways s bounds P B [] (first_on rest) u
first_go s bounds P B rest t first second v d u sign k follows =
    let is = k.is in
    first_at s bounds P B rest u
    (λ e. follows u (record { beside = k.beside; terms = k.terms; low = k.low; high = k.high; is = sym (plain (u.zp 8) (u.zp 9) k.low (sym sign ∙ e)) ∙ ap (magnitude Ax) k.is }))
    (λ n f z c e. follows (negated u 8 9 n f z c) (record {
      beside = k.beside;
      terms = kept (negated u 8 9 n f z c).zp (λ i e8 e9. write_other (write u.zp 8 _) 9 _ i e9 ∙ write_other u.zp 8 _ i e8);
      low = omega arith;
      high = omega arith;
      is = sym (turned (u.zp 8) (u.zp 9) k.low k.high (sym sign ∙ e)) ∙ ap (magnitude Ax) k.is;
    }))
  where
    kept : (new : Bytes) → ((i : ℕ) → i ≢ 8 → i ≢ 9 → new i ≡ u.zp i) → Terms t first second d new
    kept new same =
        let ten = same 10 (eq_false 10 8 refl) (eq_false 10 9 refl) in
        let eleven = same 11 (eq_false 11 8 refl) (eq_false 11 9 refl) in
        let divisor = k.terms.ptr2 in
        let low = k.terms.low in
        let high = k.terms.high in
        record {
          rest = λ i two out. same i (outside places 8 i refl out) (outside places 9 i refl out) ∙ k.terms.rest i two out;
          tmp1 = same 16 (eq_false 16 8 refl) (eq_false 16 9 refl) ∙ k.terms.tmp1;
          tmp2 = same 17 (eq_false 17 8 refl) (eq_false 17 9 refl) ∙ k.terms.tmp2;
          ptr2 = omega arith;
          low = omega arith;
          high = omega arith;
        }

second_go : (s : RawSetting) (bounds : Bounds) (P : State → Type 0) (B : ℕ → State → Type 0) (rest : List Line) (t : State) (first second v d : ℕ) (u : State) → Waiting t first second v d u
    → ((w : State) → Waiting t first second v (magnitude Ax d) w → Ways s bounds P B (1 ∷ 0 ∷ []) rest w) → Ways s bounds P B (0 ∷ []) (second_on rest) u
second_go s bounds P B rest t first second v d u k follows =
    let low = k.terms.low in
    let high = k.terms.high in
    second_at s bounds P B rest u
    (λ z e. follows (with_sign_of u z) (record {
      beside = k.beside;
      terms = record { rest = k.terms.rest; tmp1 = k.terms.tmp1; tmp2 = k.terms.tmp2; ptr2 = sym (plain (u.zp 10) (u.zp 11) low e) ∙ ap (magnitude Ax) k.terms.ptr2; low = low; high = high };
      low = k.low;
      high = k.high;
      is = k.is;
    }))
    (λ n f z c e. follows (negated u 10 11 n f z c) (record {
      beside = k.beside;
      terms = record {
        rest = λ i two out. write_other (write u.zp 10 _) 11 _ i (outside places 11 i refl out) ∙ (write_other u.zp 10 _ i (outside places 10 i refl out) ∙ k.terms.rest i two out);
        tmp1 = k.terms.tmp1;
        tmp2 = k.terms.tmp2;
        ptr2 = sym (turned (u.zp 10) (u.zp 11) low high e) ∙ ap (magnitude Ax) k.terms.ptr2;
        low = omega arith;
        high = omega arith;
      };
      low = k.low;
      high = k.high;
      is = k.is;
    }))

-- at label 2, with the weight that is left
abbrev Going : State → ℕ → ℕ → State → Type 0
Going t l n u = (l ≡ 2) × ((left : ℕ) × (suc left < 256) × (20 * left + 60 ≤ n) × Dividing t (first_of t) (second_of t) (magnitude Ax (dividend_of t)) (magnitude Ax (ax_of t)) (suc left) u)

abbrev Follows : RawSetting → Bounds → (State → Type 0) → List Line → State → Type 1
Follows s bounds P rest t = Behind s bounds P true rest t (first_of t) (second_of t) (magnitude Ax (dividend_of t)) (magnitude Ax (ax_of t))

round : (s : RawSetting) (bounds : Bounds) (P : State → Type 0) (rest : List Line) (t : State) → magnitude Ax (dividend_of t) < 65536 → ((m : ℕ) → turn_weight takes m (3 ∷ 2 ∷ 1 ∷ 0 ∷ []) rest ≤ 20) → Follows s bounds P rest t
    → (l n : ℕ) (u : State) → IsBytes u → Going t l n u → TurnsIn s bounds 2 takes P (signed_lines rest) (Going t) l n u
round s bounds P rest t small light behind l n u bytes g =
    let left : ℕ = g.1.0 in
    let few = g.1.1 in
    let enough = g.1.2 in
    let less : ℕ = 20 * left + 40 in
    let tail = light less in
    record {
      k = 32;
      less = less;
      stands = ap (λ (j : ℕ). settle (signed_lines rest) (labelled (signed_lines rest) j)) g.0;
      fewer = omega arith;
      weighs = omega arith;
      leads = divide_go s bounds P (λ j v. Going t j less v) true rest t (first_of t) (second_of t) (magnitude Ax (dividend_of t)) (magnitude Ax (ax_of t)) left u behind small few g.1.3
          (λ m w e k. (refl, (m, (omega arith), (omega arith), k)));
    }

-- once the dividend is popped, and its sign and the quotient's are kept
ready : (back : Place) (t u : State) (z : Bool) → IsBytes t → Popped (pointed (called back t)) u → Waiting t (first_of t) (second_of t) (dividend_of t) (ax_of t) (marked (held u) z)
ready back t u z bytes p =
    let a = p.a in
    let x = p.x in
    let first_low = bytes.mem (sp_of t) in
    let first_high = bytes.mem (sp_of t + 1) in
    let ten : u.zp 10 ≡ t.regs.a = p.zp 10 (omega arith) in
    let eleven : u.zp 11 ≡ t.regs.x = p.zp 11 (omega arith) in
    let high : u.regs.x ≡ first_of t = omega arith in
    record {
      beside = record { sp = p.sp; mem = p.mem; pushed = p.pushed; input = p.input; output = p.output; ended = p.ended };
      terms = record {
        rest = λ i two out. write_other (write (held u).zp 16 _) 17 _ i (outside places 17 i refl out) ∙ (write_other (held u).zp 16 _ i (outside places 16 i refl out)
            ∙ (write_other (write u.zp 8 _) 9 _ i (outside places 9 i refl out) ∙ (write_other u.zp 8 _ i (outside places 8 i refl out) ∙ (p.zp i two
            ∙ (write_other (write t.zp 10 _) 11 _ i (outside places 11 i refl out) ∙ write_other t.zp 10 _ i (outside places 10 i refl out))))));
        tmp1 = high;
        tmp2 = ap (λ (k : ℕ). bit_xor k (u.zp 11)) high ∙ ap (λ (k : ℕ). bit_xor (first_of t) k) eleven;
        ptr2 = omega arith;
        low = (let byte = bytes.a in omega arith);
        high = (let byte = bytes.x in omega arith);
      };
      low = omega arith;
      high = omega arith;
      is = omega arith;
    }

dividend_fits : (t : State) → IsBytes t → magnitude Ax (dividend_of t) < 65536
dividend_fits t bytes =
    let low = bytes.mem (sp_of t) in
    let high = bytes.mem (sp_of t + 1) in
    magnitude_fits (dividend_of t) (omega arith)

enters : (s : RawSetting) → Holds s routines.PopAx → (P : State → Type 0) (rest : List Line) (bounds : Bounds) (back : Place) (t : State) → MayRunIn s bounds 0 2 (popax_row t) t
    → Follows s bounds P rest t → Ways s bounds P (λ j v. Going t j 360 v) [] (signed_lines rest) (called back t)
enters s pops P rest bounds back t may behind =
    let B : ℕ → State → Type 0 = λ j v. Going t j 360 v in
    terms_at s bounds P B (signs_on (first_on (second_on (divide_on rest)))) (called back t) (record {
      row = popax_row (pointed (called back t));
      comes = λ may_in from. pop_word_comes s pops bounds from (pointed (called back t)) may_in;
      goes_on = refl;
      ready = refl;
      near = may.near;
      far = All-nil (IsReachable s.place bounds);
      soft = may.soft;
      hard = omega arith;
      high = may.high;
      data_low = may.data_low;
      follows = λ u m bytes. dividend_at s bounds P B (signs_on (first_on (second_on (divide_on rest)))) u
          (signs_at s bounds P B (first_on (second_on (divide_on rest))) (held u) (λ z.
          first_go s bounds P B (second_on (divide_on rest)) t (first_of t) (second_of t) (dividend_of t) (ax_of t) (marked (held u) z) refl (ready back t u z may.bytes (popped (pointed (called back t)) u m)) (λ v k.
          second_go s bounds P B (divide_on rest) t (first_of t) (second_of t) (magnitude Ax (dividend_of t)) (ax_of t) v k (λ w j.
          begin_at s bounds P B (1 ∷ 0 ∷ []) rest w (λ n f.
          divide_go s bounds P B true rest t (first_of t) (second_of t) (magnitude Ax (dividend_of t)) (magnitude Ax (ax_of t)) 15 (begun w n f) behind (dividend_fits t may.bytes) (omega arith)
          (before t (first_of t) (second_of t) (magnitude Ax (dividend_of t)) (magnitude Ax (ax_of t)) w n f j.low j.high j.is j.beside j.terms)
          (λ m w e k. (refl, (m, (omega arith), (omega arith), k))))))));
    })

-- the number with its sign
abbrev Signed : State → (State → Type 0) → Bool → Type 0
Signed u P sign = (regs : Regs) → regs.a < 256 → regs.x < 256 → regs.a + 256 * regs.x ≡ with_sign Ax sign (u.regs.a + 256 * u.regs.x) → P (record u { regs = regs })

sign_go : (sign : ℕ) (passed : List ℕ) (s : RawSetting) (bounds : Bounds) (P : State → Type 0) (B : ℕ → State → Type 0) (u : State) → Signs sign passed s bounds P B u → u.pushed ≡ [] → u.regs.a < 256 → u.regs.x < 256 → Signed u P (nat_lt 127 (u.zp sign))
    → Ways s bounds P B passed (signed_on sign back_lines) u
sign_go sign passed s bounds P B u signs none low high ends = signs none
    (λ n z e. ends (record u.regs { y = u.zp sign; n = n; z = z }) low high (sym (ap (λ (b : Bool). with_sign Ax b (u.regs.a + 256 * u.regs.x)) e)))
    (λ n v z c e. ends (record { a = _; x = _; y = _; n = n; v = v; z = z; c = c }) (omega arith) (omega arith) (minus_ax u.regs.a u.regs.x low high ∙ sym (ap (λ (b : Bool). with_sign Ax b (u.regs.a + 256 * u.regs.x)) e)))

divisor_some : (t : State) → IsBytes t → 0 < ax_of t → 0 < magnitude Ax (ax_of t)
divisor_some t bytes some =
    let low = bytes.a in
    let high = bytes.x in
    magnitude_some (ax_of t) (omega arith) some

-- what the loop leaves
finished : (t u : State) → Dividing t (first_of t) (second_of t) (magnitude Ax (dividend_of t)) (magnitude Ax (ax_of t)) 0 u → 0 < magnitude Ax (ax_of t)
    → Divided (magnitude Ax (dividend_of t)) (magnitude Ax (ax_of t)) (u.zp 8 + 256 * u.zp 9) (u.regs.a + 256 * u.zp 13)
finished t u k some = after_all 65536 (magnitude Ax (dividend_of t)) (magnitude Ax (ax_of t)) (u.zp 8 + 256 * u.zp 9) (u.regs.a + 256 * u.zp 13) (k.number some)

abbrev remainder_of : State → Option ℕ
remainder_of t = divided (ax_of t) (signed_remainder Ax (dividend_of t) (ax_of t))

abbrev remainder_lines : List Line
remainder_lines = signed_lines (remainder_on (signed_on 16 back_lines))

abbrev with_remainder : State → Bool → Bool → State
with_remainder u n z = record u { regs = record u.regs { x = u.zp 13; n = n; z = z } }

remainder_ends : (s : RawSetting) (bounds : Bounds) (t : State) → IsBytes t → Follows s bounds (Ends (result_row tos.Mod (remainder_of t) t) t) (remainder_on (signed_on 16 back_lines)) t
remainder_ends s bounds t bytes B u k =
    let P : State → Type 0 = Ends (result_row tos.Mod (remainder_of t) t) t in
    remainder_at s bounds P B (3 ∷ 2 ∷ 1 ∷ 0 ∷ []) (signed_on 16 back_lines) u (λ n z.
    sign_go 16 (3 ∷ 2 ∷ 1 ∷ 0 ∷ []) s bounds P B (with_remainder u n z) (remainder_signs s bounds P B (with_remainder u n z)) k.beside.pushed k.remainder_low k.remainder_high
    (λ regs low high is. result_ends tos.Mod (remainder_of t) t (record u { regs = regs }) k.beside k.terms.rest
    (result_by (ax_of t) (signed_remainder Ax (dividend_of t) (ax_of t)) regs.a regs.x low high
    (λ some. is ∙ (ap (λ (b : Bool). with_sign Ax b (u.regs.a + 256 * u.zp 13)) (ap (nat_lt 127) k.terms.tmp1 ∙ sym (word_negative (t.mem (sp_of t)) (first_of t) (bytes.mem (sp_of t))))
    ∙ ap (with_sign Ax (is_negative Ax (dividend_of t))) (finished t u k (divisor_some t bytes some)).remainder)))))

pub tosmodax : IsMet tos.Mod
tosmodax s has pops = met_within s 0 2 (turn_weight takes 360 [] remainder_lines) (routines.Tos tos.Mod Ax) (λ t. result_row tos.Mod (remainder_of t) t) (λ t. refl)
    (turning_meets s 0 2 takes (routines.Tos tos.Mod Ax) (λ t. result_row tos.Mod (remainder_of t) t) remainder_lines (λ t. refl) (λ t. goes_on tos.Mod (remainder_of t) t) has Going 360
    (λ bounds back t may. let P : State → Type 0 = Ends (result_row tos.Mod (remainder_of t) t) t in record {
      round = round s bounds P (remainder_on (signed_on 16 back_lines)) t (dividend_fits t may.bytes) (λ m. omega arith) (remainder_ends s bounds t may.bytes);
      leads = enters s pops P (remainder_on (signed_on 16 back_lines)) bounds back t (may_pop s bounds 2 tos.Mod (remainder_of t) t may) (remainder_ends s bounds t may.bytes);
    }))
    (omega arith) (omega arith) (λ t. modest tos.Mod (remainder_of t) t _ (omega arith))

-- what it leaves for the quotient's routine
abbrev Left : State → State → Type 0
Left t u = Leaves t (first_of t) (second_of t) (magnitude Ax (dividend_of t)) (magnitude Ax (ax_of t)) u

remainder_leaves : (s : RawSetting) (bounds : Bounds) (t : State) → Follows s bounds (Left t) (remainder_on (signed_on 16 back_lines)) t
remainder_leaves s bounds t B u k =
    remainder_at s bounds (Left t) B (3 ∷ 2 ∷ 1 ∷ 0 ∷ []) (signed_on 16 back_lines) u (λ n z.
    sign_go 16 (3 ∷ 2 ∷ 1 ∷ 0 ∷ []) s bounds (Left t) B (with_remainder u n z) (remainder_signs s bounds (Left t) B (with_remainder u n z)) k.beside.pushed k.remainder_low k.remainder_high
    (λ regs low high is. record { beside = k.beside; terms = k.terms; low = k.low; high = k.high; quotient = λ some. (finished t u k some).quotient }))

remainder_comes : (s : RawSetting) → Holds s (routines.Tos tos.Mod Ax) → Holds s routines.PopAx → (bounds : Bounds) (back : Place) (t : State) → t.pushed ≡ [] → MayRunIn s bounds 0 2 (popax_row t) t
    → RawComes s bounds (IsLeft (Left t) back t) (turn_weight takes 360 [] remainder_lines) (entry_of s (s.routine (routines.Tos tos.Mod Ax))) (called back t)
remainder_comes s has pops bounds back t none may =
    leaves_turning s bounds 2 takes (Left t) (routines.Tos tos.Mod Ax) back t remainder_lines has
    (λ u k. still_leaves t (first_of t) (second_of t) (magnitude Ax (dividend_of t)) (magnitude Ax (ax_of t)) u none k) (Going t)
    (round s bounds (Left t) (remainder_on (signed_on 16 back_lines)) t (dividend_fits t may.bytes) (λ m. omega arith) (remainder_leaves s bounds t)) 360 may.hard may.bytes may.running
    (enters s pops (Left t) (remainder_on (signed_on 16 back_lines)) bounds back t may (remainder_leaves s bounds t))

abbrev quotient_of : State → Option ℕ
quotient_of t = divided (ax_of t) (signed_quotient Ax (dividend_of t) (ax_of t))

quotient_sign : (t : State) → IsBytes t → (k : ℕ) → k ≡ second_of t → nat_lt 127 k ≡ not (beq (is_negative Ax (dividend_of t)) (is_negative Ax (ax_of t)))
quotient_sign t bytes k is =
    let first = word_negative (t.mem (sp_of t)) (first_of t) (bytes.mem (sp_of t)) in
    let second = word_negative t.regs.a t.regs.x bytes.a in
    ap (nat_lt 127) is ∙ (signs_differ (first_of t) t.regs.x (bytes.mem (sp_of t + 1)) bytes.x
    ∙ (ap (λ (b : Bool). not (beq b (nat_lt 127 t.regs.x))) (sym first) ∙ ap (λ (b : Bool). not (beq (is_negative Ax (dividend_of t)) b)) (sym second)))

quotient_ends : (s : RawSetting) (bounds : Bounds) (back : Place) (t u : State) → IsBytes t → Left (called back t) u → Ways s bounds (Ends (result_row tos.Div (quotient_of t) t) t) (λ j w. ⊥) [] (quotient_on (signed_on 17 back_lines)) u
quotient_ends s bounds back t u bytes k =
    let P : State → Type 0 = Ends (result_row tos.Div (quotient_of t) t) t in
    quotient_at s bounds P (λ j w. ⊥) [] (signed_on 17 back_lines) u (λ n z.
    let to : State = record u { regs = record u.regs { a = u.zp 8; x = u.zp 9; n = n; z = z } } in
    sign_go 17 [] s bounds P (λ j w. ⊥) to (quotient_signs s bounds P (λ j w. ⊥) to) k.beside.pushed k.low k.high
    (λ regs low high is. result_ends tos.Div (quotient_of t) t (record u { regs = regs }) (beside_called back t (record u { regs = regs }) k.beside) k.terms.rest
    (result_by (ax_of t) (signed_quotient Ax (dividend_of t) (ax_of t)) regs.a regs.x low high
    (λ some. is ∙ (ap (λ (b : Bool). with_sign Ax b (u.zp 8 + 256 * u.zp 9)) (quotient_sign t bytes (u.zp 17) k.terms.tmp2)
    ∙ ap (with_sign Ax (not (beq (is_negative Ax (dividend_of t)) (is_negative Ax (ax_of t))))) (k.quotient (divisor_some t bytes some)))))))

abbrev quotient_weight : ℕ
quotient_weight = 2 + (turn_weight takes 360 [] remainder_lines + turn_weight takes 0 [] (quotient_on (signed_on 17 back_lines)))

quotient_comes : (s : RawSetting) → Holds s (routines.Tos tos.Div Ax) → Holds s (routines.Tos tos.Mod Ax) → Holds s routines.PopAx → (bounds : Bounds) (back : Place) (t : State) → MayRunIn s bounds 0 4 (result_row tos.Div (quotient_of t) t) t
    → RawComes s bounds (HasDone None (result_row tos.Div (quotient_of t) t) back t) quotient_weight (entry_of s (s.routine (routines.Tos tos.Div Ax))) (called back t)
quotient_comes s has calls pops bounds back t may =
    let deep = may.hard in
    let inner : MayRunIn s bounds 0 2 (popax_row (called back t)) (called back t) = may_pop_called s bounds 2 back t (may_pop s bounds 4 tos.Div (quotient_of t) t may) in
    calls_first s bounds 2 takes (routines.Tos tos.Div Ax) (routines.Tos tos.Mod Ax) (result_row tos.Div (quotient_of t) t) back t (quotient_on (signed_on 17 back_lines)) (Left (called back t)) (turn_weight takes 360 [] remainder_lines)
    has refl (omega arith) (omega arith) may.running (record {
      comes = λ from. remainder_comes s calls pops bounds from (called back t) refl inner;
      goes_on = λ u k. k.beside.ended;
      follows = λ u k. quotient_ends s bounds back t u may.bytes k;
    })

pub tosdivax : IsMetBy tos.Div tos.Mod
tosdivax s has calls pops = met_within s 0 4 quotient_weight (routines.Tos tos.Div Ax) (λ t. result_row tos.Div (quotient_of t) t) (λ t. refl)
    (first_meets s 0 4 quotient_weight (routines.Tos tos.Div Ax) (λ t. result_row tos.Div (quotient_of t) t) (λ t. refl) (λ t. goes_on tos.Div (quotient_of t) t)
    (λ bounds back t may. quotient_comes s has calls pops bounds back t may))
    (omega arith) (omega arith) (λ t. modest tos.Div (quotient_of t) t _ (omega arith))
