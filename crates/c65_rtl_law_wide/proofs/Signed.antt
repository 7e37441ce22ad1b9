-- `tosdiveax` and `tosmodeax` (C90 6.3.5)
use Rattle.std.proofs.Common.{◌≡◌, ℕ, suc, ◌+◌, ◌*◌, ◌<◌, ◌≤◌, Bool, true, false, not, List, [], ◌∷◌, Option, None, length, refl, sym, ap, subst, ◌∙◌, arith}
use Rattle.std.specs.Prelude.{nat_lt, bit_xor}
use Rattle.std.specs.Bool.{beq}
use Rattle.std.proofs.lemmas.List.{append-nil}
use Rattle.std.proofs.lemmas.List.Elements.{All-nil}
use Rattle.c65_code.specs.declared.routine.Routine.TheVariants as routines
use Rattle.c65_code.specs.declared.routine.TosOp.TheVariants as tos
use Rattle.c65_code.specs.declared.routine.UnaryRoutine.TheVariants.{Neg}
use Rattle.c65_code.specs.declared.routine.Width.TheVariants.{Eax}
use Rattle.c65_code.specs.declared.line.Line.{Line}
use Rattle.c65_code.specs.LineState.{Place, State, write, sp_of, eax_of, IsBytes}
use Rattle.c65_code.specs.Placement.{stack_end}
use Rattle.c65_code.specs.Numbers.{divided, is_negative, magnitude, minus_word, with_sign, signed_quotient, signed_remainder}
use Rattle.c65_code.specs.Moves.{settle, labelled}
use Rattle.c65_code.specs.Segments.{is_among}
use Rattle.c65_code.specs.Rows.{Meets, long_at}
use Rattle.c65_code.specs.RawMachine.{RawSetting, Bounds, IsReachable, LieLow, RawComes, HasDone, called, entry_of}
use Rattle.c65_rtl.proofs.Ways.{Ends}
use Rattle.c65_rtl_law_walks.specs.Inside.{MayRunIn}
use Rattle.c65_rtl_law_walks.proofs.Ranges.{all_in_range}
use Rattle.c65_rtl_law_walks.proofs.Turning.{turn_weight, TurnsIn}
use Rattle.c65_rtl_law_walks.proofs.Meets.{turning_meets, met_within}
use Rattle.c65_rtl_law_inner.proofs.Kept.{kept_from}
use Rattle.c65_rtl_law_inner.proofs.Loads.{low_enough}
use Rattle.c65_rtl_law_inner.proofs.Longs.{popeax_row, pop_long_comes, popped_long}
use Rattle.c65_rtl_law_inner.proofs.Pops.{above_or_below}
use Rattle.c65_rtl_law_inner.proofs.Beside.{Beside}
use Rattle.c65_rtl_law_quotients.proofs.Rounds.{Divided, after_all}
use Rattle.c65_rtl_law_quotients.proofs.Leaving.{IsLeft, leaves_turning, calls_first, first_meets}
use Rattle.c65_rtl_law_quotients.proofs.SignNumbers.{signs_differ}
use Rattle.c65_rtl_law_wide.specs.Rows.{Holds, HoldsInner, IsSignedDivided, IsSignedDividedBy}
use Rattle.c65_rtl_law_wide.proofs.Numbers.{number}
use Rattle.c65_rtl_law_wide.proofs.Terms.{takes, Ways, places, four, kept_four, kept_write, nothing_on, terms_on, pointed, terms_at, held, dividend_at, cleared, nothing_at, remainder_on, from_regsave, remainder_at, back_lines, beyond, Ready, ready}
use Rattle.c65_rtl_law_wide.proofs.Results.{result_row, goes_on, may_pop, may_pop_called, Leaves, still_leaves, beside_called, modest, result_ends, result_by}
use Rattle.c65_rtl_law_wide.proofs.Pieces.{divide_on, begun, begin_at, quotient_on, from_place, quotient_at}
use Rattle.c65_rtl_law_wide.proofs.Dividing.{AreBytes, Terms, Dividing, Behind, divide_go, before}
use Rattle.c65_rtl_law_wide.proofs.SignPieces.{signs_on, marked, signs_at, first_on, second_on, negated, first_at, with_sign_of, second_at, signed_on, signed_by, Signs, quotient_signs, remainder_signs, end_at}
use Rattle.c65_rtl_law_wide.proofs.Negation.{negeax_row, negate_long_comes}
use Rattle.c65_rtl_law_wide.proofs.SignNumbers.{long_negative, plain, turned, magnitude_fits, magnitude_some, from_bytes}

abbrev dividend_of : State → ℕ
dividend_of t = long_at t.mem (sp_of t)

-- the dividend's sign is in its highest byte, and the quotient's in this
abbrev first_of : State → ℕ
first_of t = t.mem (sp_of t + 2 + 1)

abbrev second_of : State → ℕ
second_of t = bit_xor (first_of t) (t.zp 3)

abbrev signed_lines : List Line → List Line
signed_lines rest = terms_on (signs_on (first_on (second_on (nothing_on (divide_on rest)))))

-- both terms before the loop
record Waiting (t : State) (first second v d : ℕ) (u : State) : Type 0 where
  beside : Beside t 4 u
  terms : Terms t first second d u.zp
  place : AreBytes u.zp 8 9 10 11
  is : four u.zp 8 ≡ v

first_go : (s : RawSetting) (bounds : Bounds) (P : State → Type 0) (B : ℕ → State → Type 0) (rest : List Line) (t : State) (first second v d : ℕ) (u : State) → u.regs.n ≡ nat_lt 127 (u.zp 11) → Waiting t first second v d u
    → ((w : State) → Waiting t first second (magnitude Eax v) d w → Ways s bounds P B (0 ∷ []) rest w) → Ways s bounds P B [] (first_on rest) u
first_go s bounds P B rest t first second v d u sign k follows =
    let p = k.place in
    first_at s bounds P B rest u
    (λ e. follows u (record { beside = k.beside; terms = k.terms; place = k.place; is = sym (plain (u.zp 8) (u.zp 9) (u.zp 10) (u.zp 11) p.b0 p.b1 p.b2 (sym sign ∙ e)) ∙ ap (magnitude Eax) k.is }))
    (λ n f z c e. follows (negated u 8 n f z c) (record {
      beside = k.beside;
      terms = record {
        rest = λ i two out. kept_four u.zp 8 9 10 11 _ _ _ _ i refl refl refl refl out ∙ k.terms.rest i two out;
        tmp1 = k.terms.tmp1;
        tmp2 = k.terms.tmp2;
        ptr3 = k.terms.ptr3;
        bytes = record { b0 = k.terms.bytes.b0; b1 = k.terms.bytes.b1; b2 = k.terms.bytes.b2; b3 = k.terms.bytes.b3 };
      };
      place = record { b0 = omega arith; b1 = omega arith; b2 = omega arith; b3 = omega arith };
      is = sym (turned (u.zp 8) (u.zp 9) (u.zp 10) (u.zp 11) p.b0 p.b1 p.b2 p.b3 (sym sign ∙ e)) ∙ ap (magnitude Eax) k.is;
    }))

second_go : (s : RawSetting) (bounds : Bounds) (P : State → Type 0) (B : ℕ → State → Type 0) (rest : List Line) (t : State) (first second v d : ℕ) (u : State) → Waiting t first second v d u
    → ((w : State) → Waiting t first second v (magnitude Eax d) w → Ways s bounds P B (1 ∷ 0 ∷ []) rest w) → Ways s bounds P B (0 ∷ []) (second_on rest) u
second_go s bounds P B rest t first second v d u k follows =
    let q = k.terms.bytes in
    second_at s bounds P B rest u
    (λ z e. follows (with_sign_of u z) (record {
      beside = k.beside;
      terms = record { rest = k.terms.rest; tmp1 = k.terms.tmp1; tmp2 = k.terms.tmp2; ptr3 = sym (plain (u.zp 12) (u.zp 13) (u.zp 14) (u.zp 15) q.b0 q.b1 q.b2 e) ∙ ap (magnitude Eax) k.terms.ptr3; bytes = q };
      place = k.place;
      is = k.is;
    }))
    (λ n f z c e. follows (negated u 12 n f z c) (record {
      beside = k.beside;
      terms = record {
        rest = λ i two out. kept_four u.zp 12 13 14 15 _ _ _ _ i refl refl refl refl out ∙ k.terms.rest i two out;
        tmp1 = k.terms.tmp1;
        tmp2 = k.terms.tmp2;
        ptr3 = sym (turned (u.zp 12) (u.zp 13) (u.zp 14) (u.zp 15) q.b0 q.b1 q.b2 q.b3 e) ∙ ap (magnitude Eax) k.terms.ptr3;
        bytes = record { b0 = omega arith; b1 = omega arith; b2 = omega arith; b3 = omega arith };
      };
      place = record { b0 = k.place.b0; b1 = k.place.b1; b2 = k.place.b2; b3 = k.place.b3 };
      is = k.is;
    }))

-- at label 2, with the weight that is left
abbrev Going : State → ℕ → ℕ → State → Type 0
Going t l n u = (l ≡ 2) × ((left : ℕ) × (suc left < 256) × (40 * left + 100 ≤ n) × Dividing t (first_of t) (second_of t) (magnitude Eax (dividend_of t)) (magnitude Eax (eax_of t)) (suc left) u)

abbrev Follows : RawSetting → Bounds → (State → Type 0) → List Line → State → Type 1
Follows s bounds P rest t = Behind s bounds P true rest t (first_of t) (second_of t) (magnitude Eax (dividend_of t)) (magnitude Eax (eax_of t))

round : (s : RawSetting) (bounds : Bounds) (P : State → Type 0) (rest : List Line) (t : State) → magnitude Eax (dividend_of t) < 4294967296 → ((m : ℕ) → turn_weight takes m (3 ∷ 2 ∷ 1 ∷ 0 ∷ []) rest ≤ 40) → Follows s bounds P rest t
    → (l n : ℕ) (u : State) → IsBytes u → Going t l n u → TurnsIn s bounds 3 takes P (signed_lines rest) (Going t) l n u
round s bounds P rest t small light behind l n u bytes g =
    let left : ℕ = g.1.0 in
    let few = g.1.1 in
    let enough = g.1.2 in
    let less : ℕ = 40 * left + 60 in
    let tail = light less in
    record {
      k = 54;
      less = less;
      stands = ap (λ (j : ℕ). settle (signed_lines rest) (labelled (signed_lines rest) j)) g.0;
      fewer = omega arith;
      weighs = omega arith;
      leads = divide_go s bounds P (λ j v. Going t j less v) true rest t (first_of t) (second_of t) (magnitude Eax (dividend_of t)) (magnitude Eax (eax_of t)) left u behind small few g.1.3
          (λ m w e k. (refl, (m, (omega arith), (omega arith), k)));
    }

-- both terms are there, and the signs are kept
signs_kept : (t u : State) (z : Bool) → IsBytes t → Ready t u → Waiting t (first_of t) (second_of t) (dividend_of t) (eax_of t) (marked u z)
signs_kept t u z bytes k =
    let whole = k.first in
    let m0 = bytes.mem (sp_of t) in
    let m1 = bytes.mem (sp_of t + 1) in
    let m2 = bytes.mem (sp_of t + 2) in
    let m3 = bytes.mem (sp_of t + 2 + 1) in
    let b8 = k.byte 8 in
    let b9 = k.byte 9 in
    let b10 = k.byte 10 in
    let b11 = k.byte 11 in
    let b12 = k.byte 12 in
    let b13 = k.byte 13 in
    let b14 = k.byte 14 in
    let b15 = k.byte 15 in
    let other = k.second in
    let a = bytes.a in
    let x = bytes.x in
    let l = bytes.zp 2 in
    let h = bytes.zp 3 in
    let high : u.zp 11 ≡ first_of t = omega arith in
    let top : u.regs.a ≡ first_of t = k.top ∙ high in
    let divisor_top : u.zp 15 ≡ t.zp 3 = omega arith in
    record {
      beside = k.beside;
      terms = record {
        rest = λ i two out. kept_write (write u.zp 16 u.regs.a) 17 _ i refl out ∙ (kept_write u.zp 16 u.regs.a i refl out ∙ k.rest i two out);
        tmp1 = top;
        tmp2 = ap (λ (j : ℕ). bit_xor j (u.zp 15)) top ∙ ap (λ (j : ℕ). bit_xor (first_of t) j) divisor_top;
        ptr3 = k.second;
        bytes = record { b0 = b12; b1 = b13; b2 = b14; b3 = b15 };
      };
      place = record { b0 = b8; b1 = b9; b2 = b10; b3 = b11 };
      is = k.first;
    }

dividend_fits : (t : State) → IsBytes t → magnitude Eax (dividend_of t) < 4294967296
dividend_fits t bytes =
    let m0 = bytes.mem (sp_of t) in
    let m1 = bytes.mem (sp_of t + 1) in
    let m2 = bytes.mem (sp_of t + 2) in
    let m3 = bytes.mem (sp_of t + 2 + 1) in
    magnitude_fits (dividend_of t) (omega arith)

-- the loop, from where both terms wait
loop_go : (s : RawSetting) (bounds : Bounds) (P : State → Type 0) (rest : List Line) (t w : State) → IsBytes t → Follows s bounds P rest t
    → Waiting t (first_of t) (second_of t) (magnitude Eax (dividend_of t)) (magnitude Eax (eax_of t)) w → Ways s bounds P (λ j v. Going t j 1340 v) (1 ∷ 0 ∷ []) (nothing_on (divide_on rest)) w
loop_go s bounds P rest t w bytes behind j =
    let B : ℕ → State → Type 0 = λ j v. Going t j 1340 v in
    nothing_at s bounds P B (1 ∷ 0 ∷ []) (divide_on rest) w (λ a b.
    begin_at s bounds P B (1 ∷ 0 ∷ []) rest (cleared w a b) (λ c d.
    divide_go s bounds P B true rest t (first_of t) (second_of t) (magnitude Eax (dividend_of t)) (magnitude Eax (eax_of t)) 31 (begun (cleared w a b) c d) behind (dividend_fits t bytes) (omega arith)
    (before t (first_of t) (second_of t) (magnitude Eax (dividend_of t)) (magnitude Eax (eax_of t)) (cleared w a b) c d (record { b0 = j.place.b0; b1 = j.place.b1; b2 = j.place.b2; b3 = j.place.b3 }) j.is refl refl refl refl j.beside
    (record {
      rest = λ i two out. kept_four w.zp 4 5 6 7 0 0 0 0 i refl refl refl refl out ∙ j.terms.rest i two out;
      tmp1 = j.terms.tmp1;
      tmp2 = j.terms.tmp2;
      ptr3 = j.terms.ptr3;
      bytes = record { b0 = j.terms.bytes.b0; b1 = j.terms.bytes.b1; b2 = j.terms.bytes.b2; b3 = j.terms.bytes.b3 };
    }))
    (λ m w e k. (refl, (m, (omega arith), (omega arith), k)))))

enters : (s : RawSetting) → HoldsInner s routines.PopEax → (P : State → Type 0) (rest : List Line) (bounds : Bounds) (back : Place) (t : State) → MayRunIn s bounds 0 3 (popeax_row t) t
    → Follows s bounds P rest t → Ways s bounds P (λ j v. Going t j 1340 v) [] (signed_lines rest) (called back t)
enters s pops P rest bounds back t may behind =
    let B : ℕ → State → Type 0 = λ j v. Going t j 1340 v in
    terms_at s bounds P B (signs_on (first_on (second_on (nothing_on (divide_on rest))))) (called back t) (record {
      row = popeax_row (pointed (called back t));
      comes = λ may_in from. pop_long_comes s pops bounds from (pointed (called back t)) may_in;
      goes_on = refl;
      ready = refl;
      near = may.near;
      far = All-nil (IsReachable s.place bounds);
      soft = may.soft;
      hard = omega arith;
      high = may.high;
      data_low = may.data_low;
      follows = λ u m after. dividend_at s bounds P B (signs_on (first_on (second_on (nothing_on (divide_on rest))))) u (λ n z.
          signs_at s bounds P B (first_on (second_on (nothing_on (divide_on rest)))) (held u n z) (λ f.
          first_go s bounds P B (second_on (nothing_on (divide_on rest))) t (first_of t) (second_of t) (dividend_of t) (eax_of t) (marked (held u n z) f) refl
          (signs_kept t (held u n z) f may.bytes (ready back t u n z may.bytes after (popped_long (pointed (called back t)) u m))) (λ v k.
          second_go s bounds P B (nothing_on (divide_on rest)) t (first_of t) (second_of t) (magnitude Eax (dividend_of t)) (eax_of t) v k (λ w j.
          loop_go s bounds P rest t w may.bytes behind j))));
    })

-- what is known at the end: the number with its sign, and nothing else of the zero page changed but sreg
abbrev Signed : State → State → (State → Type 0) → Bool → Type 0
Signed t u P sign = (w : State) → w.regs.a < 256 → w.regs.x < 256 → number w.regs.a w.regs.x (w.zp 2) (w.zp 3) ≡ with_sign Eax sign (number u.regs.a u.regs.x (u.zp 2) (u.zp 3)) → Beside t 4 w → ((i : ℕ) → 4 ≤ i → w.zp i ≡ u.zp i) → P w

-- what the negation leaves
turned_ends : (t u w : State) (P : State → Type 0) → Beside t 4 u → Signed t u P true → Meets (negeax_row u) u w → IsBytes w → P w
turned_ends t u w P beside ends m bytes =
    let sp_is = beside.sp in
    let same : sp_of w ≡ sp_of u = m.sp in
    ends w bytes.a bytes.x (from_bytes (minus_word Eax (eax_of u)) w.regs.a w.regs.x (w.zp 2) (w.zp 3) m.a m.x m.sreg)
    (record {
      sp = omega arith;
      mem = λ b. m.mem b (above_or_below (sp_of u) b) ∙ beside.mem b;
      pushed = m.pushed ∙ beside.pushed;
      input = m.input ∙ beside.input;
      output = m.output ∙ (append-nil u.output ∙ beside.output);
      ended = m.ended;
    })
    (kept_from (negeax_row u) u w 4 m refl)

-- what the call of `negeax` wants
record MayTurn (s : RawSetting) (bounds : Bounds) (t : State) : Type 0 where
  turns : HoldsInner s (routines.Unary Neg Eax)
  low : LieLow s.place
  soft : bounds.soft ≤ sp_of t
  high : sp_of t + 4 ≤ stack_end

sign_go : (sign : ℕ) (passed : List ℕ) (s : RawSetting) (bounds : Bounds) (P : State → Type 0) (B : ℕ → State → Type 0) (t u : State) → MayTurn s bounds t
    → Signs sign passed s bounds P B u → Beside t 4 u → u.regs.a < 256 → u.regs.x < 256 → Signed t u P (nat_lt 127 (u.zp sign))
    → Ways s bounds P B passed (signed_on sign back_lines) u
sign_go sign passed s bounds P B t u may signs beside byte_a byte_x ends = signs beside.pushed
    (λ n z e. ends (signed_by u sign n z) byte_a byte_x (sym (ap (λ (b : Bool). with_sign Eax b (number u.regs.a u.regs.x (u.zp 2) (u.zp 3))) e)) beside (λ i above. refl))
    (λ n z e. let sp_is = beside.sp in let soft = may.soft in let high = may.high in let pushed = ap (λ (ps : List ℕ). length ps) beside.pushed in record {
      row = negeax_row (signed_by u sign n z);
      comes = λ may_in from. negate_long_comes s may.turns bounds from (signed_by u sign n z) may_in;
      goes_on = refl;
      ready = refl;
      near = All-nil (IsReachable s.place bounds);
      far = All-nil (IsReachable s.place bounds);
      soft = omega arith;
      hard = omega arith;
      high = omega arith;
      data_low = may.low;
      follows = λ w m bytes. end_at s bounds P B passed w (m.pushed ∙ beside.pushed)
          (turned_ends t (signed_by u sign n z) w P beside (subst (λ (b : Bool). Signed t u P b) e ends) m bytes);
    })

divisor_some : (t : State) → IsBytes t → 0 < eax_of t → 0 < magnitude Eax (eax_of t)
divisor_some t bytes some =
    let a = bytes.a in
    let x = bytes.x in
    let l = bytes.zp 2 in
    let h = bytes.zp 3 in
    magnitude_some (eax_of t) (omega arith) some

-- what the loop leaves
finished : (t u : State) → Dividing t (first_of t) (second_of t) (magnitude Eax (dividend_of t)) (magnitude Eax (eax_of t)) 0 u → 0 < magnitude Eax (eax_of t)
    → Divided (magnitude Eax (dividend_of t)) (magnitude Eax (eax_of t)) (four u.zp 8) (four u.zp 4)
finished t u k some = after_all 4294967296 (magnitude Eax (dividend_of t)) (magnitude Eax (eax_of t)) (four u.zp 8) (four u.zp 4) (k.number some)

dividend_sign : (t : State) → IsBytes t → is_negative Eax (dividend_of t) ≡ nat_lt 127 (first_of t)
dividend_sign t bytes = long_negative (t.mem (sp_of t)) (t.mem (sp_of t + 1)) (t.mem (sp_of t + 2)) (first_of t) (bytes.mem (sp_of t)) (bytes.mem (sp_of t + 1)) (bytes.mem (sp_of t + 2))

-- what is kept where sreg takes a half of the result, and its sign is put on
kept_result : (t u w : State) (l h : ℕ) → ((i : ℕ) → 2 ≤ i → is_among places i ≡ false → u.zp i ≡ t.zp i) → ((i : ℕ) → 4 ≤ i → w.zp i ≡ write (write u.zp 2 l) 3 h i) → (i : ℕ) → 2 ≤ i → is_among places i ≡ false → w.zp i ≡ t.zp i
kept_result t u w l h rest kept i two out = kept i (beyond i two out) ∙ (kept_write (write u.zp 2 l) 3 h i refl out ∙ (kept_write u.zp 2 l i refl out ∙ rest i two out))

abbrev remainder_of : State → Option ℕ
remainder_of t = divided (eax_of t) (signed_remainder Eax (dividend_of t) (eax_of t))

abbrev remainder_lines : List Line
remainder_lines = signed_lines (remainder_on (signed_on 16 back_lines))

remainder_ends : (s : RawSetting) (bounds : Bounds) (t : State) → MayTurn s bounds t → IsBytes t → Follows s bounds (Ends (result_row tos.Mod (remainder_of t) t) t) (remainder_on (signed_on 16 back_lines)) t
remainder_ends s bounds t may bytes B u k =
    let P : State → Type 0 = Ends (result_row tos.Mod (remainder_of t) t) t in
    remainder_at s bounds P B (3 ∷ 2 ∷ 1 ∷ 0 ∷ []) (signed_on 16 back_lines) u (λ n z.
    sign_go 16 (3 ∷ 2 ∷ 1 ∷ 0 ∷ []) s bounds P B t (from_regsave u n z) may (remainder_signs s bounds P B (from_regsave u n z)) k.beside k.remainder.b0 k.remainder.b1
    (λ w byte_a byte_x is beside kept. result_ends tos.Mod (remainder_of t) t w beside (kept_result t u w (u.zp 6) (u.zp 7) k.terms.rest kept)
    (result_by (eax_of t) (signed_remainder Eax (dividend_of t) (eax_of t)) w.regs.a w.regs.x (w.zp 2) (w.zp 3) byte_a byte_x
    (λ some. is ∙ (ap (λ (b : Bool). with_sign Eax b (four u.zp 4)) (ap (nat_lt 127) k.terms.tmp1 ∙ sym (dividend_sign t bytes))
    ∙ ap (with_sign Eax (is_negative Eax (dividend_of t))) (finished t u k (divisor_some t bytes some)).remainder)))))

-- four bytes that are popped lie below the end of the software stack
may_turn : (s : RawSetting) → HoldsInner s (routines.Unary Neg Eax) → (bounds : Bounds) (deepest : ℕ) (t : State) → MayRunIn s bounds 0 deepest (popeax_row t) t → MayTurn s bounds t
may_turn s turns bounds deepest t may =
    let last : IsReachable s.place bounds (sp_of t + 3) = all_in_range (IsReachable s.place bounds) 4 (sp_of t) may.near 3 (omega arith) in
    let end = low_enough s.place bounds (sp_of t + 3) may.data_low last in
    let soft = may.soft in
    record { turns = turns; low = may.data_low; soft = omega arith; high = omega arith }

pub tosmodeax : IsSignedDivided tos.Mod
tosmodeax s has pops turns = met_within s 0 3 (turn_weight takes 1340 [] remainder_lines) (routines.Tos tos.Mod Eax) (λ t. result_row tos.Mod (remainder_of t) t) (λ t. refl)
    (turning_meets s 0 3 takes (routines.Tos tos.Mod Eax) (λ t. result_row tos.Mod (remainder_of t) t) remainder_lines (λ t. refl) (λ t. goes_on tos.Mod (remainder_of t) t) has Going 1340
    (λ bounds back t may. let P : State → Type 0 = Ends (result_row tos.Mod (remainder_of t) t) t in
    let pop : MayRunIn s bounds 0 3 (popeax_row t) t = may_pop s bounds 3 tos.Mod (remainder_of t) t may in
    let ends : Follows s bounds P (remainder_on (signed_on 16 back_lines)) t = remainder_ends s bounds t (may_turn s turns bounds 3 t pop) may.bytes in
    record { round = round s bounds P (remainder_on (signed_on 16 back_lines)) t (dividend_fits t may.bytes) (λ m. omega arith) ends; leads = enters s pops P (remainder_on (signed_on 16 back_lines)) bounds back t pop ends }))
    (omega arith) (omega arith) (λ t. modest tos.Mod (remainder_of t) t _ (omega arith))

-- what it leaves for the quotient's routine
abbrev Left : State → State → Type 0
Left t u = Leaves t (second_of t) (magnitude Eax (dividend_of t)) (magnitude Eax (eax_of t)) u

-- once the sign is put on, with what the loop left
left_by : (t u w : State) (n z : Bool) → Dividing t (first_of t) (second_of t) (magnitude Eax (dividend_of t)) (magnitude Eax (eax_of t)) 0 u → Beside t 4 w → ((i : ℕ) → 4 ≤ i → w.zp i ≡ (from_regsave u n z).zp i) → Left t w
left_by t u w n z k beside kept =
    let e8 : w.zp 8 ≡ u.zp 8 = kept 8 (omega arith) in
    let e9 : w.zp 9 ≡ u.zp 9 = kept 9 (omega arith) in
    let e10 : w.zp 10 ≡ u.zp 10 = kept 10 (omega arith) in
    let e11 : w.zp 11 ≡ u.zp 11 = kept 11 (omega arith) in
    let b8 = k.place.b0 in
    let b9 = k.place.b1 in
    let same : four w.zp 8 ≡ four u.zp 8 = omega arith in
    record {
      beside = beside;
      rest = kept_result t u w (u.zp 6) (u.zp 7) k.terms.rest kept;
      tmp2 = kept 17 (omega arith) ∙ k.terms.tmp2;
      low = omega arith;
      high = omega arith;
      quotient = λ some. same ∙ (finished t u k some).quotient;
    }

remainder_leaves : (s : RawSetting) (bounds : Bounds) (t : State) → MayTurn s bounds t → Follows s bounds (Left t) (remainder_on (signed_on 16 back_lines)) t
remainder_leaves s bounds t may B u k =
    remainder_at s bounds (Left t) B (3 ∷ 2 ∷ 1 ∷ 0 ∷ []) (signed_on 16 back_lines) u (λ n z.
    sign_go 16 (3 ∷ 2 ∷ 1 ∷ 0 ∷ []) s bounds (Left t) B t (from_regsave u n z) may (remainder_signs s bounds (Left t) B (from_regsave u n z)) k.beside k.remainder.b0 k.remainder.b1
    (λ w byte_a byte_x is beside kept. left_by t u w n z k beside kept))

remainder_comes : (s : RawSetting) → Holds s tos.Mod → HoldsInner s routines.PopEax → HoldsInner s (routines.Unary Neg Eax) → (bounds : Bounds) (back : Place) (t : State) → t.pushed ≡ [] → MayRunIn s bounds 0 3 (popeax_row t) t
    → RawComes s bounds (IsLeft (Left t) back t) (turn_weight takes 1340 [] remainder_lines) (entry_of s (s.routine (routines.Tos tos.Mod Eax))) (called back t)
remainder_comes s has pops turns bounds back t none may =
    let leaves : Follows s bounds (Left t) (remainder_on (signed_on 16 back_lines)) t = remainder_leaves s bounds t (may_turn s turns bounds 3 t may) in
    leaves_turning s bounds 3 takes (Left t) (routines.Tos tos.Mod Eax) back t remainder_lines has (λ u k. still_leaves t (second_of t) (magnitude Eax (dividend_of t)) (magnitude Eax (eax_of t)) u none k) (Going t)
    (round s bounds (Left t) (remainder_on (signed_on 16 back_lines)) t (dividend_fits t may.bytes) (λ m. omega arith) leaves) 1340 may.hard may.bytes may.running
    (enters s pops (Left t) (remainder_on (signed_on 16 back_lines)) bounds back t may leaves)

abbrev quotient_of : State → Option ℕ
quotient_of t = divided (eax_of t) (signed_quotient Eax (dividend_of t) (eax_of t))

divisor_sign : (t : State) → IsBytes t → is_negative Eax (eax_of t) ≡ nat_lt 127 (t.zp 3)
divisor_sign t bytes = long_negative t.regs.a t.regs.x (t.zp 2) (t.zp 3) bytes.a bytes.x (bytes.zp 2)

quotient_sign : (t : State) → IsBytes t → (k : ℕ) → k ≡ second_of t → nat_lt 127 k ≡ not (beq (is_negative Eax (dividend_of t)) (is_negative Eax (eax_of t)))
quotient_sign t bytes k is =
    ap (nat_lt 127) is ∙ (signs_differ (first_of t) (t.zp 3) (bytes.mem (sp_of t + 2 + 1)) (bytes.zp 3)
    ∙ (ap (λ (b : Bool). not (beq b (nat_lt 127 (t.zp 3)))) (sym (dividend_sign t bytes)) ∙ ap (λ (b : Bool). not (beq (is_negative Eax (dividend_of t)) b)) (sym (divisor_sign t bytes))))

quotient_ends : (s : RawSetting) (bounds : Bounds) (back : Place) (t u : State) → MayTurn s bounds t → IsBytes t → Left (called back t) u
    → Ways s bounds (Ends (result_row tos.Div (quotient_of t) t) t) (λ j w. ⊥) [] (quotient_on (signed_on 17 back_lines)) u
quotient_ends s bounds back t u may bytes k =
    let P : State → Type 0 = Ends (result_row tos.Div (quotient_of t) t) t in
    quotient_at s bounds P (λ j w. ⊥) [] (signed_on 17 back_lines) u (λ n z.
    sign_go 17 [] s bounds P (λ j w. ⊥) t (from_place u n z) may (quotient_signs s bounds P (λ j w. ⊥) (from_place u n z)) (beside_called back t (from_place u n z) k.beside) k.low k.high
    (λ w byte_a byte_x is beside kept. result_ends tos.Div (quotient_of t) t w beside (kept_result t u w (u.zp 10) (u.zp 11) k.rest kept)
    (result_by (eax_of t) (signed_quotient Eax (dividend_of t) (eax_of t)) w.regs.a w.regs.x (w.zp 2) (w.zp 3) byte_a byte_x
    (λ some. is ∙ (ap (λ (b : Bool). with_sign Eax b (four u.zp 8)) (quotient_sign t bytes (u.zp 17) k.tmp2)
    ∙ ap (with_sign Eax (not (beq (is_negative Eax (dividend_of t)) (is_negative Eax (eax_of t))))) (k.quotient (divisor_some t bytes some)))))))

abbrev quotient_weight : ℕ
quotient_weight = 2 + (turn_weight takes 1340 [] remainder_lines + turn_weight takes 0 [] (quotient_on (signed_on 17 back_lines)))

quotient_comes : (s : RawSetting) → Holds s tos.Div → Holds s tos.Mod → HoldsInner s routines.PopEax → HoldsInner s (routines.Unary Neg Eax) → (bounds : Bounds) (back : Place) (t : State) → MayRunIn s bounds 0 5 (result_row tos.Div (quotient_of t) t) t
    → RawComes s bounds (HasDone None (result_row tos.Div (quotient_of t) t) back t) quotient_weight (entry_of s (s.routine (routines.Tos tos.Div Eax))) (called back t)
quotient_comes s has calls pops turns bounds back t may =
    let deep = may.hard in
    let pop : MayRunIn s bounds 0 5 (popeax_row t) t = may_pop s bounds 5 tos.Div (quotient_of t) t may in
    calls_first s bounds 3 takes (routines.Tos tos.Div Eax) (routines.Tos tos.Mod Eax) (result_row tos.Div (quotient_of t) t) back t (quotient_on (signed_on 17 back_lines)) (Left (called back t)) (turn_weight takes 1340 [] remainder_lines)
    has refl (omega arith) (omega arith) may.running (record {
      comes = λ from. remainder_comes s calls pops turns bounds from (called back t) refl (may_pop_called s bounds 3 back t pop);
      goes_on = λ u k. k.beside.ended;
      follows = λ u k. quotient_ends s bounds back t u (may_turn s turns bounds 5 t pop) may.bytes k;
    })

pub tosdiveax : IsSignedDividedBy tos.Div tos.Mod
tosdiveax s has calls pops turns = met_within s 0 5 quotient_weight (routines.Tos tos.Div Eax) (λ t. result_row tos.Div (quotient_of t) t) (λ t. refl)
    (first_meets s 0 5 quotient_weight (routines.Tos tos.Div Eax) (λ t. result_row tos.Div (quotient_of t) t) (λ t. refl) (λ t. goes_on tos.Div (quotient_of t) t)
    (λ bounds back t may. quotient_comes s has calls pops turns bounds back t may))
    (omega arith) (omega arith) (λ t. modest tos.Div (quotient_of t) t _ (omega arith))
