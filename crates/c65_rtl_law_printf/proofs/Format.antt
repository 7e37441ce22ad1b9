-- The next byte of the format, and the digits of a width.
use Rattle.std.proofs.Common.{◌≡◌, ◌≢◌, ℕ, ◌+◌, ◌-◌, ◌*◌, ◌%◌, ◌<◌, ◌≤◌, ◌⊎◌, inl, Bool, true, false, List, [], ◌∷◌, None, length, nat_eq, refl, sym, ap, subst, ◌∙◌, arith}
use Rattle.std.specs.Prelude.{if◌then◌else◌, sum_by}
use Rattle.std.proofs.lemmas.Bool.Decides.{nat_tests}
use Rattle.c65_mach.specs.declared.rows.Op.TheVariants.{Beq, Bne, Cmp, Inc, Inx, Lda, Ldx, Ldy, Stx}
use Rattle.c65_mach.specs.Step.{is_not}
use Rattle.c65_code.specs.declared.line.Line.{Line}
use Rattle.c65_code.specs.declared.line.Line.TheVariants.{Label}
use Rattle.c65_code.specs.declared.routine.Routine.{Routine}
use Rattle.c65_code.specs.LineState.{Place, State, Frame, Bytes, write, zero_word}
use Rattle.c65_code.specs.Moves.{settle, labelled}
use Rattle.c65_code.specs.RawMachine.{RawSetting, Bounds, IsReachable}
use Rattle.c65_rtl.specs.Assembly.{sreg, ptr1, ptr4, tmp1, tmp2, tmp3, implied, value, zero_page, by_y, branch}
use Rattle.c65_rtl.proofs.Ways.{moved_to}
use Rattle.c65_rtl.proofs.Rounds.{behind}
use Rattle.c65_rtl.proofs.Meeting.{eq_true, eq_false, not_true, not_false, write_other}
use Rattle.c65_rtl.proofs.Stores.{reach_as}
use Rattle.c65_rtl_law_walks.specs.Joined.{label_in}
use Rattle.c65_rtl_law_walks.proofs.Walks.{Takes}
use Rattle.c65_va.specs.Printf.{printf_lines}
use Rattle.c65_rtl_law_printf.specs.Format.{next_byte, after_byte, ReadsByte, MayRead, BytesAreRead}
use Rattle.c65_rtl_law_printf.proofs.Stops.{leads_stop, stops_in}

-- these lines call no routine
abbrev takes : Routine → Takes
takes r = record { below = 0; pushed = 0; weight = 0 }

abbrev gone : List ℕ
gone = 1 ∷ 8 ∷ 10 ∷ 0 ∷ 11 ∷ []

abbrev To : RawSetting → Bounds → (ℕ → State → Type 0) → List ℕ → List Line → State → Type 0
To s bounds B stops lines u = leads_stop s bounds 0 takes (λ u. ⊥) B stops lines None u

abbrev choice_on : List Line → List Line
choice_on rest = value Cmp 37 ∷ branch Bne 8 ∷ Label 1 ∷ rest

abbrev step_on : List Line → List Line
step_on rest = zero_page Inc ptr1 ∷ branch Bne 12 ∷ zero_page Inc (ptr1 + 1) ∷ Label 12 ∷ choice_on rest

abbrev note_on : List Line → List Line
note_on rest = zero_page Ldx ptr1 ∷ zero_page Stx ptr4 ∷ zero_page Ldx (ptr1 + 1) ∷ zero_page Stx (ptr4 + 1) ∷ value Ldx 0 ∷ zero_page Stx tmp1 ∷ zero_page Stx tmp3 ∷ zero_page Stx sreg ∷ implied Inx ∷ zero_page Stx tmp2 ∷ step_on rest

abbrev byte_on : List Line → List Line
byte_on rest = value Ldy 0 ∷ by_y Lda ptr1 ∷ branch Beq 10 ∷ note_on rest

-- ---- the pieces

abbrev read_at : State → ℕ
read_at u = (u.zp 8 + 256 * u.zp 9 + 0) % 65536

abbrev taken : State → Bool → Bool → State
taken u n z = record u { regs = record u.regs { a = u.mem (read_at u); y = 0; n = n; z = z } }

byte_at : (s : RawSetting) (bounds : Bounds) (B : ℕ → State → Type 0) (rest : List Line) (u : State) → IsReachable s.place bounds (read_at u)
    → ((n z : Bool) → nat_eq (u.mem (read_at u)) 0 ≡ true → B 10 (taken u n z)) → (nat_eq (u.mem (read_at u)) 0 ≡ false → To s bounds B gone (note_on rest) (taken u false false))
    → To s bounds B gone (byte_on rest) u
unfolding leads_stop
byte_at s bounds B rest u reach last more = (reach, elim [ true ↦ λ e. last _ _ e | false ↦ λ e. more e ])

abbrev noted_zp : Bytes → Bytes
noted_zp zp = write (write (write (write (write (write zp 14 (zp 8)) 15 (zp 9)) 16 0) 18 0) 2 0) 17 1

abbrev noted : State → Bool → Bool → State
noted u n z = record u { regs = record u.regs { x = 1; n = n; z = z }; zp = noted_zp u.zp }

note_at : (s : RawSetting) (bounds : Bounds) (B : ℕ → State → Type 0) (rest : List Line) (u : State) → To s bounds B gone (step_on rest) (noted u false false) → To s bounds B gone (note_on rest) u
unfolding leads_stop
note_at s bounds B rest u follows = follows

abbrev pub low_on : Bytes → Bytes
low_on zp = write zp 8 ((zp 8 + 1) % 256)

abbrev pub both_on : Bytes → Bytes
both_on zp = write (low_on zp) 9 ((zp 9 + 1) % 256)

abbrev stepped : State → Bytes → Bool → Bool → State
stepped u zp n z = record u { regs = record u.regs { n = n; z = z }; zp = zp }

step_at : (s : RawSetting) (bounds : Bounds) (B : ℕ → State → Type 0) (rest : List Line) (u : State)
    → (is_not (nat_eq ((u.zp 8 + 1) % 256) 0) ≡ true → To s bounds B (12 ∷ gone) (choice_on rest) (stepped u (low_on u.zp) false false))
    → (is_not (nat_eq ((u.zp 8 + 1) % 256) 0) ≡ false → To s bounds B (12 ∷ gone) (choice_on rest) (stepped u (both_on u.zp) false false))
    → To s bounds B gone (step_on rest) u
unfolding leads_stop
step_at s bounds B rest u low both = elim [ true ↦ λ e. low e | false ↦ λ e. both e ]

abbrev chosen : State → Bool → Bool → Bool → State
chosen u n z c = record u { regs = record u.regs { n = n; z = z; c = c } }

choice_at : (s : RawSetting) (bounds : Bounds) (B : ℕ → State → Type 0) (rest : List Line) (u : State)
    → ((n z c : Bool) → is_not (nat_eq ((u.regs.a + 256 - 37) % 256) 0) ≡ true → B 8 (chosen u n z c)) → ((n z c : Bool) → is_not (nat_eq ((u.regs.a + 256 - 37) % 256) 0) ≡ false → B 1 (chosen u n z c))
    → To s bounds B (12 ∷ gone) (choice_on rest) u
unfolding leads_stop
choice_at s bounds B rest u plain field = elim [ true ↦ λ e. plain _ _ _ e | false ↦ λ e. field _ _ _ e ]

-- ---- what they leave

pub record Stepped (zp zp_on : Bytes) : Type 0 where
  pub word : zp_on 8 + 256 * zp_on 9 ≡ zp 8 + 256 * zp 9 + 1
  pub rest : (i : ℕ) → i ≢ 8 → i ≢ 9 → zp_on i ≡ zp i

pub stepped_low : (zp : Bytes) → zp 8 < 256 → (zp 8 + 1) % 256 ≢ 0 → Stepped zp (low_on zp)
stepped_low zp b8 on = record { word = omega arith; rest = λ i e f. write_other zp 8 _ i e }

pub stepped_both : (zp : Bytes) → zp 8 < 256 → zp 9 < 256 → (zp 8 + 1) % 256 ≡ 0 → zp 8 + 256 * zp 9 + 1 < 65536 → Stepped zp (both_on zp)
stepped_both zp b8 b9 off fits = record { word = omega arith; rest = λ i e f. write_other (low_on zp) 9 _ i f ∙ write_other zp 8 _ i e }

kept_noted : (zp : Bytes) (i : ℕ) → i ≢ 2 → i ≢ 14 → i ≢ 15 → i ≢ 16 → i ≢ 17 → i ≢ 18 → noted_zp zp i ≡ zp i
kept_noted zp i e2 e14 e15 e16 e17 e18 =
    write_other (write (write (write (write (write zp 14 (zp 8)) 15 (zp 9)) 16 0) 18 0) 2 0) 17 1 i e17
    ∙ (write_other (write (write (write (write zp 14 (zp 8)) 15 (zp 9)) 16 0) 18 0) 2 0 i e2
    ∙ (write_other (write (write (write zp 14 (zp 8)) 15 (zp 9)) 16 0) 18 0 i e18
    ∙ (write_other (write (write zp 14 (zp 8)) 15 (zp 9)) 16 0 i e16
    ∙ (write_other (write zp 14 (zp 8)) 15 (zp 9) i e15 ∙ write_other zp 14 (zp 8) i e14))))

abbrev Exit : State → ℕ → State → Type 0
Exit t j u = (j ≡ after_byte (next_byte t)) × ReadsByte t u

-- there is one piece alone
abbrev Going : State → ℕ → ℕ → State → Type 0
Going t l n u = (n ≡ 40) × (l ≡ 0) × (u ≡ t)

module _ (s : RawSetting) (bounds : Bounds) (t : State) (may : MayRead s bounds t) (rest : List Line) where
  abbrev B : ℕ → State → Type 0
  B j u = Exit t j u ⊎ Going t j 0 u

  at_is : read_at t ≡ zero_word t 8
  at_is = let fits = may.fits in omega arith

  byte_is : t.mem (read_at t) ≡ next_byte t
  byte_is = ap t.mem at_is

  to_zero : next_byte t ≡ 0 → 10 ≡ after_byte (next_byte t)
  to_zero e = ap after_byte (sym e)

  to_field : next_byte t ≡ 37 → 1 ≡ after_byte (next_byte t)
  to_field e = ap after_byte (sym e)

  to_plain : (b : ℕ) → nat_eq b 0 ≡ false → nat_eq b 37 ≡ false → 8 ≡ after_byte b
  to_plain b none percent = sym (ap (λ (c : Bool). if c then 10 else if nat_eq b 37 then 1 else 8) none ∙ ap (λ (c : Bool). if c then 1 else 8) percent)

  not_equal : (b c : ℕ) → b ≢ c → nat_eq b c ≡ false
  not_equal b c other = grind (arith, nat_tests)

  reads : (zp : Bytes) (n z c : Bool) → next_byte t ≢ 0 → Stepped (noted_zp t.zp) zp → ReadsByte t (chosen (stepped (noted (taken t false false) false false) zp false false) n z c)
  reads zp n z c some k = record {
    none = λ e. absurd (some e);
    some = λ _. record {
      format = k.word;
      address = (let e14 : zp 14 ≡ t.zp 8 = k.rest 14 (omega arith) (omega arith) in let e15 : zp 15 ≡ t.zp 9 = k.rest 15 (omega arith) (omega arith) in omega arith);
      length = (let e17 : zp 17 ≡ 1 = k.rest 17 (omega arith) (omega arith) in let e18 : zp 18 ≡ 0 = k.rest 18 (omega arith) (omega arith) in omega arith);
      width = k.rest 16 (omega arith) (omega arith);
      letter = k.rest 2 (omega arith) (omega arith);
      y = refl;
      zp = λ i e2 e8 e9 e14 e15 e16 e17 e18. k.rest i e8 e9 ∙ kept_noted t.zp i e2 e14 e15 e16 e17 e18;
    };
    same = record { mem = λ b. refl; pushed = refl; input = refl; output = refl; ended = may.running };
  }

  choice_go : (zp : Bytes) → next_byte t ≢ 0 → Stepped (noted_zp t.zp) zp → To s bounds B (12 ∷ gone) (choice_on rest) (stepped (noted (taken t false false) false false) zp false false)
  choice_go zp some k =
      let byte = may.bytes.mem (zero_word t 8) in
      choice_at s bounds B rest (stepped (noted (taken t false false) false false) zp false false)
      (λ n z c e. let other = eq_false _ _ (not_true _ e) in let same = byte_is in
      inl (to_plain (next_byte t) (not_equal (next_byte t) 0 some) (not_equal (next_byte t) 37 (λ percent. other (let g : (t.mem (read_at t) + 256 - 37) % 256 ≡ 0 = omega arith in g))), reads zp n z c some k))
      (λ n z c e. let equal = eq_true _ _ (not_false _ e) in let same = byte_is in
      inl (to_field (let g : next_byte t ≡ 37 = omega arith in g), reads zp n z c some k))

  byte_go : To s bounds B gone (byte_on rest) t
  byte_go =
      let b8 = may.bytes.zp 8 in
      let b9 = may.bytes.zp 9 in
      let fits = may.fits in
      byte_at s bounds B rest t (reach_as s.place bounds (read_at t) (zero_word t 8) at_is may.reach)
      (λ n z e. let none : next_byte t ≡ 0 = sym byte_is ∙ eq_true _ _ e in
      inl (to_zero none, record { none = λ _ i. refl; some = λ some. absurd (some none); same = record { mem = λ b. refl; pushed = refl; input = refl; output = refl; ended = may.running } }))
      (λ e. let some : next_byte t ≢ 0 = (λ none. eq_false _ _ e (byte_is ∙ none)) in
      note_at s bounds B rest (taken t false false)
      (step_at s bounds B rest (noted (taken t false false) false false)
      (λ on. choice_go (low_on (noted_zp t.zp)) some (stepped_low (noted_zp t.zp) b8 (eq_false _ _ (not_true _ on))))
      (λ off. choice_go (both_on (noted_zp t.zp)) some (stepped_both (noted_zp t.zp) b8 b9 (eq_true _ _ (not_false _ off)) fits))))

pub bytes_are_read : BytesAreRead
bytes_are_read s bounds f t frame frames has frames_are may =
    let to : ℕ = after_byte (next_byte t) in
    let Q : Place → State → Type 0 = λ q u. (q ≡ label_in s f to) × (u.frames ≡ t.frames) × ReadsByte t u in
    let used : ℕ = sum_by (λ (f : Frame). 2 + length f.pushed) t.frames in
    let hard = may.hard in
    let free : bounds.hard + 0 ≤ 253 - used = omega arith in
    moved_to s bounds Q 40 (label_in s f 0) (f, settle printf_lines (labelled printf_lines 0)) t t
    (ap (λ (ls : List Line). let q : Place = (f, settle ls (labelled ls 0)) in q) has) refl
    (stops_in s bounds 0 takes Q (λ u. ⊥) f printf_lines frame frames used has free (λ u h bytes. absurd h) refl (Exit t) (Going t)
    (λ k u bytes own e. (ap (λ (j : ℕ). let q : Place = (f, settle printf_lines (labelled printf_lines j)) in q) e.0 ∙ sym (ap (λ (ls : List Line). let q : Place = (f, settle ls (labelled ls to)) in q) has), own.frames ∙ sym frames_are, e.1))
    (λ l n u bytes g. let all = g.0 in record {
      k = 25;
      ahead = 1 ∷ 8 ∷ 10 ∷ [];
      less = 0;
      stands = ap (λ (j : ℕ). settle printf_lines (labelled printf_lines j)) g.1;
      fewer = omega arith;
      weighs = omega arith;
      leads = subst (λ (u : State). To s bounds (λ j u. Exit t j u ⊎ Going t j 0 u) gone (behind 25 printf_lines) u) (sym g.2) (byte_go s bounds t may (behind 45 printf_lines));
    })
    40 0 40 t (omega arith) may.bytes (record { frames = frames_are; ended = may.running; used = refl }) (refl, refl, refl))
