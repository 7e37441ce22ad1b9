-- A digit of a width, or the byte behind it.
use Rattle.std.proofs.Common.{◌≡◌, ℕ, ◌+◌, ◌-◌, ◌*◌, ◌%◌, ◌<◌, ◌≤◌, ◌⊎◌, inl, Bool, true, false, List, [], ◌∷◌, None, length, nat_eq, refl, sym, ap, subst, ◌∙◌, arith}
use Rattle.std.specs.Prelude.{if◌then◌else◌, nat_lt, sum_by}
use Rattle.c65_mach.specs.declared.rows.Op.TheVariants.{Adc, Asl, Bcs, Bne, Cmp, Inc, Lda, Sbc, Sec, Sta}
use Rattle.c65_mach.specs.Step.{is_not, bit}
use Rattle.c65_code.specs.declared.line.Line.{Line}
use Rattle.c65_code.specs.declared.line.Line.TheVariants.{Label}
use Rattle.c65_code.specs.declared.routine.Routine.{Routine}
use Rattle.c65_code.specs.LineState.{Place, State, Frame, Bytes, write, zero_word}
use Rattle.c65_code.specs.Moves.{settle, labelled}
use Rattle.c65_code.specs.RawMachine.{RawSetting, Bounds, IsReachable}
use Rattle.c65_rtl.specs.Assembly.{sreg, ptr1, tmp1, implied, on_a, value, zero_page, by_y, branch}
use Rattle.c65_rtl.proofs.Ways.{moved_to}
use Rattle.c65_rtl.proofs.Rounds.{behind}
use Rattle.c65_rtl.proofs.Meeting.{eq_true, eq_false, lt_true, lt_false, not_true, not_false, write_other}
use Rattle.c65_rtl.proofs.Stores.{reach_as}
use Rattle.c65_rtl.proofs.Widenings.{below_is, not_below}
use Rattle.c65_rtl_law_walks.specs.Joined.{label_in}
use Rattle.c65_rtl_law_walks.proofs.Walks.{Takes}
use Rattle.c65_va.specs.Printf.{printf_lines, jump}
use Rattle.c65_rtl_law_printf.specs.Format.{next_byte, MayRead}
use Rattle.c65_rtl_law_printf.specs.Widths.{less_zero, after_digit, ReadsDigit, WidthsAreRead}
use Rattle.c65_rtl_law_printf.proofs.Stops.{leads_stop, stops_in}
use Rattle.c65_rtl_law_printf.proofs.Format.{low_on, both_on, Stepped, stepped_low, stepped_both}

-- these lines call no routine
abbrev takes : Routine → Takes
takes r = record { below = 0; pushed = 0; weight = 0 }

abbrev gone : List ℕ
gone = 2 ∷ 1 ∷ 12 ∷ 0 ∷ 11 ∷ []

abbrev To : RawSetting → Bounds → (ℕ → State → Type 0) → List ℕ → List Line → State → Type 0
To s bounds B stops lines u = leads_stop s bounds 0 takes (λ u. ⊥) B stops lines None u

abbrev digit_on : List Line → List Line
digit_on rest = implied Sec ∷ value Sbc 48 ∷ value Cmp 10 ∷ branch Bcs 2 ∷ zero_page Sta (sreg + 1) ∷ zero_page Lda tmp1 ∷ on_a Asl ∷ on_a Asl ∷ zero_page Adc tmp1 ∷ on_a Asl ∷ zero_page Adc (sreg + 1) ∷ zero_page Sta tmp1 ∷ jump 1 ∷ Label 2 ∷ rest

abbrev width_on : List Line → List Line
width_on rest = by_y Lda ptr1 ∷ zero_page Inc ptr1 ∷ branch Bne 13 ∷ zero_page Inc (ptr1 + 1) ∷ Label 13 ∷ digit_on rest

-- ---- the pieces

abbrev read_at : State → ℕ
read_at u = (u.zp 8 + 256 * u.zp 9 + u.regs.y) % 65536

abbrev taken : State → Bytes → State
taken u zp = record u { regs = record u.regs { a = u.mem (read_at u); n = false; z = false }; zp = zp }

width_at : (s : RawSetting) (bounds : Bounds) (B : ℕ → State → Type 0) (rest : List Line) (u : State) → IsReachable s.place bounds (read_at u)
    → (is_not (nat_eq ((u.zp 8 + 1) % 256) 0) ≡ true → To s bounds B (13 ∷ gone) (digit_on rest) (taken u (low_on u.zp)))
    → (is_not (nat_eq ((u.zp 8 + 1) % 256) 0) ≡ false → To s bounds B (13 ∷ gone) (digit_on rest) (taken u (both_on u.zp)))
    → To s bounds B gone (width_on rest) u
unfolding leads_stop
width_at s bounds B rest u reach low both = (reach, elim [ true ↦ λ e. low e | false ↦ λ e. both e ])

abbrev less : State → ℕ
less u = (u.regs.a + 207 + 1) % 256

abbrev four_times : State → ℕ
four_times u = (2 * ((2 * u.zp 16) % 256)) % 256

abbrev five_times : State → ℕ
five_times u = (four_times u + u.zp 16 + bit (nat_lt 127 ((2 * u.zp 16) % 256))) % 256

abbrev ten_times : State → ℕ
ten_times u = ((2 * five_times u) % 256 + less u + bit (nat_lt 127 (five_times u))) % 256

abbrev as_letter : State → Bool → Bool → Bool → State
as_letter u n v z = record u { regs = record u.regs { a = less u; n = n; v = v; z = z; c = nat_lt 10 (less u + 1) } }

abbrev as_digit : State → Bool → Bool → Bool → Bool → State
as_digit u n v z c = record u { regs = record u.regs { a = ten_times u; n = n; v = v; z = z; c = c }; zp = write (write u.zp 3 (less u)) 16 (ten_times u) }

digit_at : (s : RawSetting) (bounds : Bounds) (B : ℕ → State → Type 0) (rest : List Line) (u : State)
    → ((n v z : Bool) → nat_lt 10 (less u + 1) ≡ true → B 2 (as_letter u n v z)) → ((n v z c : Bool) → nat_lt 10 (less u + 1) ≡ false → B 1 (as_digit u n v z c)) → To s bounds B (13 ∷ gone) (digit_on rest) u
unfolding leads_stop
digit_at s bounds B rest u letter digit = elim [ true ↦ λ e. letter _ _ _ e | false ↦ λ e. digit _ _ _ _ e ]

-- ---- what they leave

-- a digit more
ten_is : (w d : ℕ) → w < 10 → d < 10
    → ((2 * (((2 * ((2 * w) % 256)) % 256 + w + bit (nat_lt 127 ((2 * w) % 256))) % 256)) % 256 + d + bit (nat_lt 127 (((2 * ((2 * w) % 256)) % 256 + w + bit (nat_lt 127 ((2 * w) % 256))) % 256))) % 256 ≡ 10 * w + d
ten_is w d few small =
    let two : bit (nat_lt 127 ((2 * w) % 256)) ≡ 0 = ap bit (not_below 127 ((2 * w) % 256) (omega arith)) in
    let five : ((2 * ((2 * w) % 256)) % 256 + w + bit (nat_lt 127 ((2 * w) % 256))) % 256 ≡ 5 * w = omega arith in
    let none : bit (nat_lt 127 (((2 * ((2 * w) % 256)) % 256 + w + bit (nat_lt 127 ((2 * w) % 256))) % 256)) ≡ 0 = ap bit (not_below 127 (((2 * ((2 * w) % 256)) % 256 + w + bit (nat_lt 127 ((2 * w) % 256))) % 256) (omega arith)) in
    omega arith

abbrev Exit : State → ℕ → State → Type 0
Exit t j u = (j ≡ after_digit (less_zero t)) × ReadsDigit t u

-- there is one piece alone
abbrev Going : State → ℕ → ℕ → State → Type 0
Going t l n u = (n ≡ 40) × (l ≡ 1) × (u ≡ t)

module _ (s : RawSetting) (bounds : Bounds) (t : State) (may : MayRead s bounds t) (y_is : t.regs.y ≡ 0) (rest : List Line) where
  abbrev B : ℕ → State → Type 0
  B j u = Exit t j u ⊎ Going t j 0 u

  at_is : read_at t ≡ zero_word t 8
  at_is = let fits = may.fits in omega arith

  less_is : (zp : Bytes) → less (taken t zp) ≡ less_zero t
  less_is zp = let byte : t.mem (read_at t) ≡ next_byte t = ap t.mem at_is in omega arith

  digit_go : (zp : Bytes) → Stepped t.zp zp → To s bounds B (13 ∷ gone) (digit_on rest) (taken t zp)
  digit_go zp k =
      let is = less_is zp in
      let e16 : zp 16 ≡ t.zp 16 = k.rest 16 (omega arith) (omega arith) in
      digit_at s bounds B rest (taken t zp)
      (λ n v z e. let more = lt_true 10 (less (taken t zp) + 1) e in
      inl (
        sym (ap (λ (b : Bool). if b then 1 else 2) (not_below (less_zero t) 10 (omega arith))),
        record {
          format = k.word;
          digit = λ small few. absurd (omega arith);
          letter = λ great. (is, e16);
          y = refl;
          zp = λ i e3 e8 e9 e16. k.rest i e8 e9;
          same = record { mem = λ b. refl; pushed = refl; input = refl; output = refl; ended = may.running };
        },
      ))
      (λ n v z c e. let few = lt_false 10 (less (taken t zp) + 1) e in
      inl (
        sym (ap (λ (b : Bool). if b then 1 else 2) (below_is (less_zero t) 10 (omega arith))),
        record {
          format = k.word;
          digit = λ small low. ten_is (zp 16) (less (taken t zp)) (omega arith) (omega arith) ∙ (ap (λ (w : ℕ). 10 * w + less (taken t zp)) e16 ∙ ap (λ (d : ℕ). 10 * t.zp 16 + d) is);
          letter = λ great. absurd (omega arith);
          y = refl;
          zp = λ i e3 e8 e9 e16. write_other (write zp 3 (less (taken t zp))) 16 _ i e16 ∙ (write_other zp 3 (less (taken t zp)) i e3 ∙ k.rest i e8 e9);
          same = record { mem = λ b. refl; pushed = refl; input = refl; output = refl; ended = may.running };
        },
      ))

  width_go : To s bounds B gone (width_on rest) t
  width_go =
      width_at s bounds B rest t (reach_as s.place bounds (read_at t) (zero_word t 8) at_is may.reach)
      (λ on. digit_go (low_on t.zp) (stepped_low t.zp (may.bytes.zp 8) (eq_false _ _ (not_true _ on))))
      (λ off. digit_go (both_on t.zp) (stepped_both t.zp (may.bytes.zp 8) (may.bytes.zp 9) (eq_true _ _ (not_false _ off)) may.fits))

pub widths_are_read : WidthsAreRead
widths_are_read s bounds f t frame frames has frames_are may y_is =
    let to : ℕ = after_digit (less_zero t) in
    let Q : Place → State → Type 0 = λ q u. (q ≡ label_in s f to) × (u.frames ≡ t.frames) × ReadsDigit t u in
    let used : ℕ = sum_by (λ (f : Frame). 2 + length f.pushed) t.frames in
    let hard = may.hard in
    let free : bounds.hard + 0 ≤ 253 - used = omega arith in
    moved_to s bounds Q 40 (label_in s f 1) (f, settle printf_lines (labelled printf_lines 1)) t t
    (ap (λ (ls : List Line). let q : Place = (f, settle ls (labelled ls 1)) in q) has) refl
    (stops_in s bounds 0 takes Q (λ u. ⊥) f printf_lines frame frames used has free (λ u h bytes. absurd h) refl (Exit t) (Going t)
    (λ k u bytes own e. (ap (λ (j : ℕ). let q : Place = (f, settle printf_lines (labelled printf_lines j)) in q) e.0 ∙ sym (ap (λ (ls : List Line). let q : Place = (f, settle ls (labelled ls to)) in q) has), own.frames ∙ sym frames_are, e.1))
    (λ l n u bytes g. let all = g.0 in record {
      k = 45;
      ahead = 2 ∷ [];
      less = 0;
      stands = ap (λ (j : ℕ). settle printf_lines (labelled printf_lines j)) g.1;
      fewer = omega arith;
      weighs = omega arith;
      leads = subst (λ (u : State). To s bounds (λ j u. Exit t j u ⊎ Going t j 0 u) gone (behind 45 printf_lines) u) (sym g.2) (width_go s bounds t may y_is (behind 64 printf_lines));
    })
    40 1 40 t (omega arith) may.bytes (record { frames = frames_are; ended = may.running; used = refl }) (refl, refl, refl))
