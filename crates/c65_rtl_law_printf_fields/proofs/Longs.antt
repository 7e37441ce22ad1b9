-- The argument of a long, behind the letter l.
use Rattle.std.proofs.Common.{◌≡◌, ◌≢◌, ℕ, ◌+◌, ◌-◌, ◌*◌, ◌%◌, ◌<◌, ◌≤◌, Bool, true, false, List, [], ◌∷◌, All, nat_eq, refl, ap, subst, ◌∙◌, arith}
use Rattle.c65_mach.specs.declared.rows.Op.TheVariants.{Bcs, Bne, Dec, Inc, Iny, Lda, Sbc, Sec, Sta}
use Rattle.c65_mach.specs.Step.{is_not}
use Rattle.c65_code.specs.declared.line.Line.{Line}
use Rattle.c65_code.specs.declared.line.Line.TheVariants.{Label}
use Rattle.c65_code.specs.LineState.{State, Bytes, write, zero_word}
use Rattle.c65_code.specs.Texts.{range_of}
use Rattle.c65_code.specs.RawMachine.{RawSetting, Bounds, IsReachable}
use Rattle.c65_rtl.specs.Assembly.{sreg, regsave, ptr1, ptr2, implied, value, zero_page, by_y, branch}
use Rattle.c65_rtl.proofs.Rounds.{behind}
use Rattle.c65_rtl.proofs.Meeting.{eq_true, eq_false, lt_true, lt_false, not_true, not_false, write_other}
use Rattle.c65_rtl.proofs.Stores.{reach_as}
use Rattle.c65_rtl_law_walks.specs.Joined.{label_in}
use Rattle.c65_rtl_law_walks.proofs.Ranges.{all_in_range}
use Rattle.c65_va.specs.Printf.{printf_lines}
use Rattle.c65_rtl_law_printf.specs.Arguments.{SameAside, MayTake}
use Rattle.c65_rtl_law_printf.specs.Format.{next_byte, MayRead}
use Rattle.c65_rtl_law_printf.specs.Widths.{less_zero}
use Rattle.c65_rtl_law_printf.proofs.Format.{Stepped, stepped_low, stepped_both}
use Rattle.c65_rtl_law_printf_fields.specs.Choosing.{TakesLong, LongsAreTaken}
use Rattle.c65_rtl_law_printf.proofs.Stops.{leads_stop}
use Rattle.c65_rtl_law_printf_fields.proofs.Leading.{no_calls, To, Begins, piece_leads}
use Rattle.c65_rtl_law_printf_fields.proofs.Choosing.{Lowered, low_on, both_on, lowered_low, lowered_both, with_zp}

abbrev gone : List ℕ
gone = 4 ∷ 3 ∷ 16 ∷ 15 ∷ 14 ∷ 2 ∷ 13 ∷ 1 ∷ 12 ∷ 0 ∷ 11 ∷ []

abbrev upper_on : List Line → List Line
upper_on rest = implied Iny ∷ by_y Lda ptr2 ∷ zero_page Sta (regsave + 2) ∷ implied Iny ∷ by_y Lda ptr2 ∷ zero_page Sta (regsave + 3) ∷ Label 4 ∷ rest

abbrev lower_on : List Line → List Line
lower_on rest = by_y Lda ptr2 ∷ zero_page Sta regsave ∷ implied Iny ∷ by_y Lda ptr2 ∷ zero_page Sta (regsave + 1) ∷ rest

abbrev block_on : List Line → List Line
block_on rest = implied Sec ∷ value Sbc 48 ∷ zero_page Sta sreg ∷ implied Sec ∷ zero_page Lda ptr2 ∷ value Sbc 4 ∷ zero_page Sta ptr2 ∷ branch Bcs 18 ∷ zero_page Dec (ptr2 + 1) ∷ Label 18 ∷ rest

abbrev long_on : List Line → List Line
long_on rest = by_y Lda ptr1 ∷ zero_page Inc ptr1 ∷ branch Bne 17 ∷ zero_page Inc (ptr1 + 1) ∷ Label 17 ∷ rest

-- ---- the pieces

abbrev read_at : State → ℕ
read_at u = (u.zp 8 + 256 * u.zp 9 + u.regs.y) % 65536

abbrev stepped : State → Bytes → Bool → Bool → State
stepped u zp n z = record u { regs = record u.regs { a = u.mem (read_at u); n = n; z = z }; zp = zp }

abbrev next_on : Bytes → Bytes
next_on zp = write zp 8 ((zp 8 + 1) % 256)

abbrev page_on : Bytes → Bytes
page_on zp = write (next_on zp) 9 ((zp 9 + 1) % 256)

long_from : (s : RawSetting) (bounds : Bounds) (B : ℕ → State → Type 0) (rest : List Line) (u : State) → IsReachable s.place bounds (read_at u)
    → ((n z : Bool) → is_not (nat_eq ((u.zp 8 + 1) % 256) 0) ≡ true → To s bounds B (17 ∷ gone) rest (stepped u (next_on u.zp) n z))
    → ((n z : Bool) → is_not (nat_eq ((u.zp 8 + 1) % 256) 0) ≡ false → To s bounds B (17 ∷ gone) rest (stepped u (page_on u.zp) n z))
    → To s bounds B gone (long_on rest) u
unfolding leads_stop
long_from s bounds B rest u reach low both = (reach, elim [ true ↦ λ e. low _ _ e | false ↦ λ e. both _ _ e ])

abbrev letter_in : State → ℕ
letter_in u = (u.regs.a + 207 + 1) % 256

block_at : (s : RawSetting) (bounds : Bounds) (B : ℕ → State → Type 0) (rest : List Line) (u : State) → u.zp 10 < 256 → u.zp 11 < 256 → 4 ≤ u.zp 10 + 256 * u.zp 11
    → ((a : ℕ) (n v z c : Bool) (zp : Bytes) → Lowered 4 (write u.zp 2 (letter_in u)) zp → To s bounds B (18 ∷ 17 ∷ gone) rest (with_zp u a n v z c zp)) → To s bounds B (17 ∷ gone) (block_on rest) u
unfolding leads_stop
block_at s bounds B rest u b10 b11 some follows = elim [
  | true ↦ λ e. follows _ _ _ _ _ (low_on 251 (write u.zp 2 (letter_in u))) (lowered_low 4 251 (write u.zp 2 (letter_in u)) refl b10 b11 (lt_true _ _ e))
  | false ↦ λ e. follows _ _ _ _ _ (both_on 251 (write u.zp 2 (letter_in u))) (lowered_both 4 251 (write u.zp 2 (letter_in u)) refl b10 b11 some (lt_false _ _ e))
]

abbrev byte_of : State → ℕ → ℕ
byte_of u y = (u.zp 10 + 256 * u.zp 11 + y) % 65536

abbrev taken_low : State → Bool → Bool → State
taken_low u n z = record u { regs = record u.regs { a = u.mem (byte_of u ((u.regs.y + 1) % 256)); y = (u.regs.y + 1) % 256; n = n; z = z }; zp = write (write u.zp 4 (u.mem (byte_of u u.regs.y))) 5 (u.mem (byte_of u ((u.regs.y + 1) % 256))) }

lower_at : (s : RawSetting) (bounds : Bounds) (B : ℕ → State → Type 0) (rest : List Line) (u : State) → IsReachable s.place bounds (byte_of u u.regs.y) → IsReachable s.place bounds (byte_of u ((u.regs.y + 1) % 256))
    → ((n z : Bool) → To s bounds B (18 ∷ 17 ∷ gone) rest (taken_low u n z)) → To s bounds B (18 ∷ 17 ∷ gone) (lower_on rest) u
unfolding leads_stop
lower_at s bounds B rest u r0 r1 follows = (r0, (r1, follows _ _))

abbrev second_y : State → ℕ
second_y u = ((u.regs.y + 1) % 256 + 1) % 256

abbrev taken_high : State → Bool → Bool → State
taken_high u n z = record u { regs = record u.regs { a = u.mem (byte_of u (second_y u)); y = second_y u; n = n; z = z }; zp = write (write u.zp 6 (u.mem (byte_of u ((u.regs.y + 1) % 256)))) 7 (u.mem (byte_of u (second_y u))) }

upper_at : (s : RawSetting) (bounds : Bounds) (B : ℕ → State → Type 0) (rest : List Line) (u : State) → IsReachable s.place bounds (byte_of u ((u.regs.y + 1) % 256)) → IsReachable s.place bounds (byte_of u (second_y u))
    → ((n z : Bool) → B 4 (taken_high u n z)) → To s bounds B (18 ∷ 17 ∷ gone) (upper_on rest) u
unfolding leads_stop
upper_at s bounds B rest u r0 r1 follows = (r0, (r1, follows _ _))

-- ---- joined

module _ (s : RawSetting) (bounds : Bounds) (t : State) (may : MayTake s bounds t) (read : MayRead s bounds t) (some : 4 ≤ zero_word t 10) (y_is : t.regs.y ≡ 0) (reach : All (IsReachable s.place bounds) (range_of 4 (zero_word t 10 - 4))) (rest : List Line) where
  abbrev Taken : ℕ → State → Type 0
  Taken j u = (j ≡ 4) × TakesLong t u

  abbrev place : ℕ
  place = zero_word t 10 - 4

  record Lower (o : State) : Type 0 where
    pub letter : o.zp 2 ≡ less_zero t
    pub format : o.zp 8 + 256 * o.zp 9 ≡ t.zp 8 + 256 * t.zp 9 + 1
    pub low : o.zp 10 < 256
    pub high : o.zp 11 < 256
    pub block : o.zp 10 + 256 * o.zp 11 + 4 ≡ t.zp 10 + 256 * t.zp 11
    pub zp : (i : ℕ) → i ≢ 2 → i ≢ 8 → i ≢ 9 → i ≢ 10 → i ≢ 11 → o.zp i ≡ t.zp i
    pub y : o.regs.y ≡ 0
    pub same : SameAside t o

  kept_two : (zp : Bytes) (a b at i : ℕ) → i ≢ at → i ≢ at + 1 → write (write zp at a) (at + 1) b i ≡ zp i
  kept_two zp a b at i e f = write_other (write zp at a) (at + 1) b i f ∙ write_other zp at a i e

  from_lower : (o : State) → Lower o → To s bounds Taken (18 ∷ 17 ∷ gone) (lower_on (upper_on rest)) o
  from_lower o k =
      let low = k.low in
      let high = k.high in
      let block = k.block in
      let y = k.y in
      let b10 = may.bytes.zp 10 in
      let b11 = may.bytes.zp 11 in
      let a0 : byte_of o o.regs.y ≡ place = omega arith in
      let a1 : byte_of o ((o.regs.y + 1) % 256) ≡ place + 1 = omega arith in
      let a2 : byte_of o (((o.regs.y + 1) % 256 + 1) % 256) ≡ place + 2 = omega arith in
      let a3 : byte_of o ((((o.regs.y + 1) % 256 + 1) % 256 + 1) % 256) ≡ place + 3 = omega arith in
      let none : place + 0 ≡ place = omega arith in
      let all : (k : ℕ) → k < 4 → IsReachable s.place bounds (place + k) = all_in_range (IsReachable s.place bounds) 4 place reach in
      let r0 : IsReachable s.place bounds place = subst (λ (b : ℕ). IsReachable s.place bounds b) none (all 0 (omega arith)) in
      let m0 : o.mem (byte_of o o.regs.y) ≡ t.mem place = k.same.mem (byte_of o o.regs.y) ∙ ap t.mem a0 in
      let m1 : o.mem (byte_of o ((o.regs.y + 1) % 256)) ≡ t.mem (place + 1) = k.same.mem (byte_of o ((o.regs.y + 1) % 256)) ∙ ap t.mem a1 in
      let m2 : o.mem (byte_of o (((o.regs.y + 1) % 256 + 1) % 256)) ≡ t.mem (place + 2) = k.same.mem (byte_of o (((o.regs.y + 1) % 256 + 1) % 256)) ∙ ap t.mem a2 in
      let m3 : o.mem (byte_of o ((((o.regs.y + 1) % 256 + 1) % 256 + 1) % 256)) ≡ t.mem (place + 3) = k.same.mem (byte_of o ((((o.regs.y + 1) % 256 + 1) % 256 + 1) % 256)) ∙ ap t.mem a3 in
      let third : place + 2 + 1 ≡ place + 3 = omega arith in
      let last : t.mem (place + 2 + 1) ≡ t.mem (place + 3) = ap t.mem third in
      lower_at s bounds Taken (upper_on rest) o (reach_as s.place bounds (byte_of o o.regs.y) place a0 r0) (reach_as s.place bounds (byte_of o ((o.regs.y + 1) % 256)) (place + 1) a1 (all 1 (omega arith)))
      (λ n z. upper_at s bounds Taken rest (taken_low o n z) (reach_as s.place bounds (byte_of o (((o.regs.y + 1) % 256 + 1) % 256)) (place + 2) a2 (all 2 (omega arith)))
      (reach_as s.place bounds (byte_of o ((((o.regs.y + 1) % 256 + 1) % 256 + 1) % 256)) (place + 3) a3 (all 3 (omega arith)))
      (λ p q. (
        refl,
        record {
          format = k.format;
          letter = k.letter;
          block = k.block;
          number = omega arith;
          zp = λ i e2 e4 e5 e6 e7 e8 e9 e10 e11. kept_two (taken_low o n z).zp _ _ 6 i e6 e7 ∙ (kept_two o.zp _ _ 4 i e4 e5 ∙ k.zp i e2 e8 e9 e10 e11);
          same = record { mem = k.same.mem; pushed = k.same.pushed; input = k.same.input; output = k.same.output; ended = k.same.ended };
        },
      )))

  at_is : read_at t ≡ zero_word t 8
  at_is = let fits = read.fits in omega arith

  from_step : (zp : Bytes) (n z : Bool) → Stepped t.zp zp → To s bounds Taken (17 ∷ gone) (block_on (lower_on (upper_on rest))) (stepped t zp n z)
  from_step zp p q step =
      let e10 = step.rest 10 (omega arith) (omega arith) in
      let e11 = step.rest 11 (omega arith) (omega arith) in
      let b10 = may.bytes.zp 10 in
      let b11 = may.bytes.zp 11 in
      let byte : t.mem (read_at t) ≡ next_byte t = ap t.mem at_is in
      block_at s bounds Taken (lower_on (upper_on rest)) (stepped t zp p q) (omega arith) (omega arith) (omega arith) (λ a n v z c zp_on k.
      let word = k.word in
      let e8 = k.rest 8 (omega arith) (omega arith) in
      let e9 = k.rest 9 (omega arith) (omega arith) in
      let format = step.word in
      let letter : letter_in (stepped t zp p q) ≡ less_zero t = omega arith in
      from_lower (with_zp (stepped t zp p q) a n v z c zp_on) (record {
        letter = k.rest 2 (omega arith) (omega arith) ∙ letter;
        format = omega arith;
        low = k.low;
        high = k.high;
        block = omega arith;
        zp = λ i e2 e8 e9 e10 e11. k.rest i e10 e11 ∙ (write_other zp 2 _ i e2 ∙ step.rest i e8 e9);
        y = y_is;
        same = record { mem = λ b. refl; pushed = refl; input = refl; output = refl; ended = may.running };
      }))

  long_go : To s bounds Taken gone (long_on (block_on (lower_on (upper_on rest)))) t
  long_go =
      long_from s bounds Taken (block_on (lower_on (upper_on rest))) t (reach_as s.place bounds (read_at t) (zero_word t 8) at_is read.reach)
      (λ n z on. from_step (next_on t.zp) n z (stepped_low t.zp (may.bytes.zp 8) (eq_false _ _ (not_true _ on))))
      (λ n z off. from_step (page_on t.zp) n z (stepped_both t.zp (may.bytes.zp 8) (may.bytes.zp 9) (eq_true _ _ (not_false _ off)) read.fits))

pub longs_are_taken : LongsAreTaken
longs_are_taken s bounds f t frame frames has frames_are may read some y_is reach =
    let hard = may.hard in
    let begins : Begins s bounds f 0 t frame frames = record { has = has; frames_are = frames_are; bytes = may.bytes; running = may.running; free = omega arith } in
    piece_leads s bounds f 0 no_calls t frame frames begins (λ q u. (q ≡ label_in s f 4) × (u.frames ≡ t.frames) × TakesLong t u) 104 3 60 (4 ∷ []) refl (Taken s bounds t may read some y_is reach [])
    (λ j u bytes same e. (ap (label_in s f) e.0, same, e.1)) (omega arith) (long_go s bounds t may read some y_is reach (behind 131 printf_lines))
