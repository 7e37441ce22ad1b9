-- `popeax` and `negeax`, and what they leave.
use Rattle.std.proofs.Common.{◌≡◌, ℕ, ◌+◌, ◌-◌, ◌*◌, ◌/◌, ◌%◌, ◌<◌, ◌≤◌, List, [], ◌∷◌, None, refl, sym, subst, ◌∙◌, arith}
use Rattle.std.proofs.lemmas.List.{append-nil}
use Rattle.c65_mach.specs.declared.rows.Op.TheVariants.{Adc, Clc, Eor, Lda, Ldy, Rts, Sta, Tax, Tay, Txa, Tya}
use Rattle.c65_code.specs.declared.routine.Width.TheVariants.{Eax}
use Rattle.c65_code.specs.declared.routine.UnaryRoutine.TheVariants.{Neg}
use Rattle.c65_code.specs.declared.routine.Routine.TheVariants as routines
use Rattle.c65_code.specs.declared.line.Line.{Line}
use Rattle.c65_code.specs.LineState.{State, write, sp_of, eax_of}
use Rattle.c65_code.specs.Rows.{Row, Meets, row_by, popping, giving, long_at, unary_row}
use Rattle.c65_code.specs.RawMachine.{RawSetting, IsReachable, called}
use Rattle.c65_rtl.specs.Assembly.{sreg, implied, value, zero_page}
use Rattle.c65_rtl.specs.Stack.{raise_by_number}
use Rattle.c65_rtl.specs.Routines.{lines_of}
use Rattle.c65_rtl.proofs.Ways.{Ends}
use Rattle.c65_rtl.proofs.Meeting.{ends_by}
use Rattle.c65_rtl.proofs.SpPieces.{left, raise_by_at}
use Rattle.c65_rtl.proofs.SpMoves.{with_y_at}
use Rattle.c65_rtl.proofs.Pushes.{sreg_kept}
use Rattle.c65_rtl.proofs.Loads.{load_word_on, load_word_at, load_sreg_on, load_sreg_at}
use Rattle.c65_rtl.proofs.Longs.{IsLong, is_long}
use Rattle.c65_rtl.proofs.UnaryWords.{AreLongBytes}
use Rattle.c65_rtl.proofs.UnaryLongs.{negeax_at, negated_bytes}
use Rattle.c65_rtl_law_walks.proofs.Ranges.{all_in_range}
use Rattle.c65_rtl_law_inner.specs.Inner.{IsMetIn}
use Rattle.c65_rtl_law_inner.proofs.Straight.{ComesIn, straight_comes, meets_loud}
use Rattle.c65_rtl_law_inner.proofs.Loads.{low_enough}
use Rattle.c65_rtl_law_inner.proofs.Kept.{kept_from}
use Rattle.c65_rtl_law_inner.proofs.Pops.{above_or_below}

abbrev pub popeax_row : State → Row
popeax_row t = record (giving Eax (long_at t.mem (sp_of t)) (popping 4 t (row_by routines.PopEax t))) { room = 0 }

abbrev popeax_lines : List Line
popeax_lines = value Ldy 3 ∷ load_sreg_on (load_word_on (raise_by_number 4))

pub pop_long_comes : (s : RawSetting) → s.lines (s.routine routines.PopEax) ≡ lines_of routines.PopEax → ComesIn s 0 0 21 popeax_row routines.PopEax
pop_long_comes s has = straight_comes s 0 routines.PopEax popeax_row popeax_lines (λ t. refl) has refl
    (λ bounds back t may. let P : State → Type 0 = Ends (popeax_row t) t in
    let opens = all_in_range (IsReachable s.place bounds) 4 (sp_of t) may.near in
    let e : sp_of t + 0 ≡ sp_of t = omega arith in
    let r0 : IsReachable s.place bounds (sp_of t) = subst (λ (b : ℕ). IsReachable s.place bounds b) e (opens 0 (omega arith)) in
    let r1 : IsReachable s.place bounds (sp_of t + 1) = opens 1 (omega arith) in
    let r2 : IsReachable s.place bounds (sp_of t + 2) = opens 2 (omega arith) in
    let r3 : IsReachable s.place bounds (sp_of t + 3) = opens 3 (omega arith) in
    let end : sp_of t + 3 < 65520 = low_enough s.place bounds (sp_of t + 3) may.data_low r3 in
    with_y_at s.place bounds P 3 (load_sreg_on (load_word_on (raise_by_number 4))) (called back t) (λ m0 w0.
    load_sreg_at s.place bounds P (load_word_on (raise_by_number 4)) (sp_of t) (record (called back t) { regs = record t.regs { y = 3; n = m0; z = w0 } }) (omega arith) (omega arith) r2 r3
    (λ b l h m w is_l is_h. load_word_at s.place bounds P (raise_by_number 4) (sp_of t)
    (record (called back t) { regs = record t.regs { a = b; y = 1; n = m; z = w }; zp = write (write t.zp 3 h) 2 l }) (omega arith) (omega arith) r0 r1
    (λ a x y n z is_a is_x.
    let long : IsLong t.mem (sp_of t) a x l h = is_long t.mem (sp_of t) a x l h may.bytes.mem is_a is_x is_l is_h in
    raise_by_at s.place bounds P 4 (record (called back t) { regs = record t.regs { a = a; x = x; y = y; n = n; z = z }; zp = write (write t.zp 3 h) 2 l }) (may.bytes.zp 0) (may.bytes.zp 1) (omega arith) (omega arith)
    (λ y n v z c zp moved. ends_by (popeax_row t) t (left (called back t) a x y n v z c zp t.mem) ((3, h) ∷ (2, l) ∷ []) (record {
      zp = moved.rest;
      fit = refl;
      small = (refl, refl, refl, refl, refl);
      low_kept = tt;
      high_kept = tt;
      a_kept = tt;
      x_kept = tt;
      sp = moved.sp;
      a = long.a;
      x = long.x;
      sreg = sreg_kept _ _ _ moved ∙ long.sreg;
      pointers = tt;
      bank = tt;
      mem = λ b h. refl;
      input = refl;
      output = sym (append-nil t.output);
      ended = may.running;
    }))))))

pub pop_long_in : IsMetIn routines.PopEax
pop_long_in s has = meets_loud s 0 0 21 popeax_row routines.PopEax (λ t. refl) (λ t. refl) (λ t. omega arith) (pop_long_comes s has)

-- A number of 32 bits popped to EAX: all else is as before, but Y and the flags.
pub record PoppedLong (t u : State) : Type 0 where
  pub sp : sp_of u ≡ sp_of t + 4
  pub a : u.regs.a ≡ long_at t.mem (sp_of t) % 256
  pub x : u.regs.x ≡ long_at t.mem (sp_of t) / 256 % 256
  pub sreg : u.zp 2 + 256 * u.zp 3 ≡ long_at t.mem (sp_of t) / 65536
  pub zp : (i : ℕ) → 4 ≤ i → u.zp i ≡ t.zp i
  pub mem : (b : ℕ) → u.mem b ≡ t.mem b
  pub pushed : u.pushed ≡ t.pushed
  pub input : u.input ≡ t.input
  pub output : u.output ≡ t.output
  pub ended : u.ended ≡ None

pub popped_long : (t u : State) → Meets (popeax_row t) t u → PoppedLong t u
popped_long t u m = record {
  sp = m.sp;
  a = m.a;
  x = m.x;
  sreg = m.sreg;
  zp = kept_from (popeax_row t) t u 4 m refl;
  mem = λ b. m.mem b (above_or_below (sp_of t) b);
  pushed = m.pushed;
  input = m.input;
  output = m.output ∙ append-nil t.output;
  ended = m.ended;
}

abbrev pub negeax_row : State → Row
negeax_row t = record (unary_row Neg Eax t) { room = 0 }

abbrev negeax_lines : List Line
negeax_lines = implied Clc ∷ value Eor 0xFF ∷ value Adc 1 ∷ implied Tay ∷ implied Txa ∷ value Eor 0xFF ∷ value Adc 0 ∷ implied Tax ∷ zero_page Lda sreg ∷ value Eor 0xFF ∷ value Adc 0 ∷ zero_page Sta sreg ∷ zero_page Lda (sreg + 1) ∷ value Eor 0xFF ∷ value Adc 0 ∷ zero_page Sta (sreg + 1) ∷ implied Tya ∷ implied Rts ∷ []

pub negate_long_comes : (s : RawSetting) → s.lines (s.routine (routines.Unary Neg Eax)) ≡ lines_of (routines.Unary Neg Eax) → ComesIn s 0 0 18 negeax_row (routines.Unary Neg Eax)
negate_long_comes s has = straight_comes s 0 (routines.Unary Neg Eax) negeax_row negeax_lines (λ t. refl) has refl
    (λ bounds back t may. negeax_at s.place bounds (Ends (negeax_row t) t) (called back t)
    (λ a x l h y n v z c is_a is_x is_l is_h.
    let bytes : AreLongBytes ((4294967296 - eax_of t) % 4294967296) a x l h = negated_bytes t may.bytes a x l h is_a is_x is_l is_h in
    ends_by (negeax_row t) t (left (called back t) a x y n v z c (write (write t.zp 2 l) 3 h) t.mem) ((2, l) ∷ (3, h) ∷ []) (record {
      zp = λ i two. refl;
      fit = refl;
      small = (refl, refl, refl, refl, refl);
      low_kept = refl;
      high_kept = refl;
      a_kept = tt;
      x_kept = tt;
      sp = refl;
      a = bytes.a;
      x = bytes.x;
      sreg = bytes.sreg;
      pointers = tt;
      bank = tt;
      mem = λ b h. refl;
      input = refl;
      output = sym (append-nil t.output);
      ended = may.running;
    })))

pub negate_long_in : IsMetIn (routines.Unary Neg Eax)
negate_long_in s has = meets_loud s 0 0 18 negeax_row (routines.Unary Neg Eax) (λ t. refl) (λ t. refl) (λ t. omega arith) (negate_long_comes s has)
