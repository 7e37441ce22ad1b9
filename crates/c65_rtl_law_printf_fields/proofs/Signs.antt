-- The sign of a number.
use Rattle.std.proofs.Common.{◌≡◌, ◌≢◌, ℕ, ◌+◌, ◌-◌, ◌*◌, ◌/◌, ◌%◌, ◌<◌, ◌≤◌, Bool, true, false, List, [], ◌∷◌, None, nat_eq, refl, sym, ap, ◌∙◌, arith}
use Rattle.std.specs.Prelude.{if◌then◌else◌, nat_lt}
use Rattle.c65_mach.specs.declared.rows.Op.TheVariants.{Bne, Bpl, Cmp, Inc, Lda, Sbc, Sec, Sta}
use Rattle.c65_mach.specs.Step.{is_not, bit}
use Rattle.c65_code.specs.declared.line.Line.{Line}
use Rattle.c65_code.specs.declared.line.Line.TheVariants.{Label}
use Rattle.c65_code.specs.LineState.{State, Bytes, write, IsBytes}
use Rattle.c65_code.specs.RawMachine.{RawSetting, Bounds}
use Rattle.c65_rtl.specs.Assembly.{sreg, regsave, implied, value, zero_page, branch}
use Rattle.c65_rtl.proofs.Rounds.{behind}
use Rattle.c65_rtl.proofs.Meeting.{lt_true, lt_false, not_true, not_false, write_other}
use Rattle.c65_rtl.proofs.UnaryWords.{bit_carry}
use Rattle.c65_rtl.proofs.Widenings.{below_is, not_below}
use Rattle.c65_rtl_law_walks.specs.Joined.{label_in}
use Rattle.c65_va.specs.Printf.{printf_lines}
use Rattle.c65_rtl_law_printf.specs.Digits.{number_left}
use Rattle.c65_rtl_law_printf_fields.specs.Signs.{is_negative, TakesSign, SignsAreTaken}
use Rattle.c65_rtl_law_printf.proofs.Stops.{leads_stop}
use Rattle.c65_rtl_law_printf_fields.proofs.Leading.{no_calls, To, Begins, piece_leads}
use Rattle.c65_rtl_law_printf_fields.proofs.Choosing.{letter_is, letter_other, not_equal}

abbrev gone : List ℕ
gone = 5 ∷ 4 ∷ 18 ∷ 17 ∷ 3 ∷ 16 ∷ 15 ∷ 14 ∷ 2 ∷ 13 ∷ 1 ∷ 12 ∷ 0 ∷ 11 ∷ []

abbrev upper_on : List Line → List Line
upper_on rest = value Lda 0 ∷ zero_page Sbc (regsave + 2) ∷ zero_page Sta (regsave + 2) ∷ value Lda 0 ∷ zero_page Sbc (regsave + 3) ∷ zero_page Sta (regsave + 3) ∷ Label 5 ∷ rest

abbrev turn_on : List Line → List Line
turn_on rest = implied Sec ∷ value Lda 0 ∷ zero_page Sbc regsave ∷ zero_page Sta regsave ∷ value Lda 0 ∷ zero_page Sbc (regsave + 1) ∷ zero_page Sta (regsave + 1) ∷ rest

abbrev sign_on : List Line → List Line
sign_on rest = value Lda 0 ∷ zero_page Sta (sreg + 1) ∷ zero_page Lda sreg ∷ value Cmp 52 ∷ branch Bne 5 ∷ zero_page Lda (regsave + 3) ∷ branch Bpl 5 ∷ zero_page Inc (sreg + 1) ∷ rest

-- ---- the pieces

abbrev signed : State → ℕ → Bytes → Bool → Bool → Bool → State
signed u a zp n z c = record u { regs = record u.regs { a = a; n = n; z = z; c = c }; zp = zp }

sign_at : (s : RawSetting) (bounds : Bounds) (B : ℕ → State → Type 0) (rest : List Line) (u : State)
    → ((n z c : Bool) → is_not (nat_eq ((u.zp 2 + 256 - 52) % 256) 0) ≡ true → B 5 (signed u (u.zp 2) (write u.zp 3 0) n z c))
    → ((n z c : Bool) → is_not (nat_eq ((u.zp 2 + 256 - 52) % 256) 0) ≡ false → is_not (nat_lt 127 (u.zp 7)) ≡ true → B 5 (signed u (u.zp 7) (write u.zp 3 0) n z c))
    → ((n z c : Bool) → is_not (nat_eq ((u.zp 2 + 256 - 52) % 256) 0) ≡ false → is_not (nat_lt 127 (u.zp 7)) ≡ false → To s bounds B gone rest (signed u (u.zp 7) (write (write u.zp 3 0) 3 1) n z c))
    → To s bounds B gone (sign_on rest) u
unfolding leads_stop
sign_at s bounds B rest u other positive negative = elim [
  | true ↦ λ e. other _ _ _ e
  | false ↦ λ e. elim [ true ↦ λ f. positive _ _ _ e f | false ↦ λ f. negative _ _ _ e f ]
]

-- what is taken from 0, byte by byte
abbrev first_of : Bytes → ℕ
first_of zp = 0 + (255 - zp 4) + 1

abbrev second_of : Bytes → ℕ
second_of zp = 0 + (255 - zp 5) + bit (nat_lt 255 (first_of zp))

abbrev third_of : Bytes → Bool → ℕ
third_of zp c = 0 + (255 - zp 6) + bit c

abbrev fourth_of : Bytes → Bool → ℕ
fourth_of zp c = 0 + (255 - zp 7) + bit (nat_lt 255 (third_of zp c))

abbrev turned : State → ℕ → Bytes → Bool → Bool → Bool → Bool → State
turned u a zp n v z c = record u { regs = record u.regs { a = a; n = n; v = v; z = z; c = c }; zp = zp }

abbrev low_turned : Bytes → Bytes
low_turned zp = write (write zp 4 (first_of zp % 256)) 5 (second_of zp % 256)

abbrev all_turned : Bytes → Bool → Bytes
all_turned zp c = write (write zp 6 (third_of zp c % 256)) 7 (fourth_of zp c % 256)

turn_at : (s : RawSetting) (bounds : Bounds) (B : ℕ → State → Type 0) (rest : List Line) (u : State)
    → ((a : ℕ) (n v z : Bool) → To s bounds B gone rest (turned u a (low_turned u.zp) n v z (nat_lt 255 (second_of u.zp)))) → To s bounds B gone (turn_on rest) u
unfolding leads_stop
turn_at s bounds B rest u follows = follows _ _ _ _

upper_at : (s : RawSetting) (bounds : Bounds) (B : ℕ → State → Type 0) (rest : List Line) (u : State) → ((a : ℕ) (n v z c : Bool) → B 5 (turned u a (all_turned u.zp u.regs.c) n v z c)) → To s bounds B gone (upper_on rest) u
unfolding leads_stop
upper_at s bounds B rest u follows = follows _ _ _ _ _

-- ---- the number

turned_number : (zp : Bytes) → zp 4 < 256 → zp 5 < 256 → zp 6 < 256 → zp 7 < 256 → 127 < zp 7
    → (let c : Bool = nat_lt 255 (second_of zp) in
    first_of zp % 256 + 256 * (second_of zp % 256) + 65536 * (third_of zp c % 256 + 256 * (fourth_of zp c % 256)) ≡ 4294967296 - (zp 4 + 256 * zp 5 + 65536 * (zp 6 + 256 * zp 7)))
turned_number zp b4 b5 b6 b7 high =
    let c : Bool = nat_lt 255 (second_of zp) in
    let c0 : bit (nat_lt 255 (first_of zp)) ≡ first_of zp / 256 = bit_carry (first_of zp) (omega arith) in
    let s1 : second_of zp < 512 = omega arith in
    let c1 : bit c ≡ second_of zp / 256 = bit_carry (second_of zp) s1 in
    let s2 : third_of zp c < 512 = omega arith in
    let c2 : bit (nat_lt 255 (third_of zp c)) ≡ third_of zp c / 256 = bit_carry (third_of zp c) s2 in
    omega arith

other_sign : (l n : ℕ) → l ≢ 52 → is_negative l n ≡ false
other_sign l n other = ap (λ (b : Bool). if b then nat_lt 2147483647 n else false) (not_equal l 52 other)

positive_sign : (l n : ℕ) → l ≡ 52 → n ≤ 2147483647 → is_negative l n ≡ false
positive_sign l n is low = ap (λ (l : ℕ). is_negative l n) is ∙ not_below 2147483647 n low

negative_sign : (l n : ℕ) → l ≡ 52 → 2147483647 < n → is_negative l n ≡ true
negative_sign l n is high = ap (λ (l : ℕ). is_negative l n) is ∙ below_is 2147483647 n high

-- ---- joined

module _ (s : RawSetting) (bounds : Bounds) (t : State) (bytes : IsBytes t) (running : t.ended ≡ None) (rest : List Line) where
  abbrev Taken : ℕ → State → Type 0
  Taken j u = (j ≡ 5) × TakesSign t u

  kept : (a : ℕ) (n z c : Bool) → is_negative (t.zp 2) (number_left t.zp) ≡ false → Taken 5 (signed t a (write t.zp 3 0) n z c)
  kept a n z c none = (
    refl,
    record {
      sign = sym (ap (λ (b : Bool). if b then 1 else 0) none);
      number = sym (ap (λ (b : Bool). if b then 4294967296 - number_left t.zp else number_left t.zp) none);
      zp = λ i e3 e4 e5 e6 e7. write_other t.zp 3 0 i e3;
      same = record { mem = λ b. refl; pushed = refl; input = refl; output = refl; ended = running };
    },
  )

  abbrev zp_on : Bytes
  zp_on = write (write t.zp 3 0) 3 1

  kept_two : (zp : Bytes) (a b at i : ℕ) → i ≢ at → i ≢ at + 1 → write (write zp at a) (at + 1) b i ≡ zp i
  kept_two zp a b at i e f = write_other (write zp at a) (at + 1) b i f ∙ write_other zp at a i e

  sign_go : To s bounds Taken gone (sign_on (turn_on (upper_on rest))) t
  sign_go =
      let b2 = bytes.zp 2 in
      let b4 = bytes.zp 4 in
      let b5 = bytes.zp 5 in
      let b6 = bytes.zp 6 in
      let b7 = bytes.zp 7 in
      sign_at s bounds Taken (turn_on (upper_on rest)) t
      (λ n z c e. kept (t.zp 2) n z c (other_sign (t.zp 2) (number_left t.zp) (letter_other (t.zp 2) 52 (not_true _ e))))
      (λ n z c e f. let low = lt_false _ _ (not_true _ f) in kept (t.zp 7) n z c (positive_sign (t.zp 2) (number_left t.zp) (letter_is (t.zp 2) 52 b2 (omega arith) (not_false _ e)) (omega arith)))
      (λ n z c e f. let high = lt_true _ _ (not_false _ f) in
      let is = negative_sign (t.zp 2) (number_left t.zp) (letter_is (t.zp 2) 52 b2 (omega arith) (not_false _ e)) (omega arith) in
      turn_at s bounds Taken (upper_on rest) (signed t (t.zp 7) zp_on n z c) (λ a m v w.
      upper_at s bounds Taken rest (turned (signed t (t.zp 7) zp_on n z c) a (low_turned zp_on) m v w (nat_lt 255 (second_of zp_on))) (λ b p q r d. (
        refl,
        record {
          sign = sym (ap (λ (b : Bool). if b then 1 else 0) is);
          number = turned_number t.zp b4 b5 b6 b7 high ∙ sym (ap (λ (b : Bool). if b then 4294967296 - number_left t.zp else number_left t.zp) is);
          zp = λ i e3 e4 e5 e6 e7. kept_two (low_turned zp_on) _ _ 6 i e6 e7 ∙ (kept_two zp_on _ _ 4 i e4 e5 ∙ (write_other (write t.zp 3 0) 3 1 i e3 ∙ write_other t.zp 3 0 i e3));
          same = record { mem = λ b. refl; pushed = refl; input = refl; output = refl; ended = running };
        },
      ))))

pub signs_are_taken : SignsAreTaken
signs_are_taken s bounds f t frame frames has frames_are bytes running hard =
    let begins : Begins s bounds f 0 t frame frames = record { has = has; frames_are = frames_are; bytes = bytes; running = running; free = omega arith } in
    piece_leads s bounds f 0 no_calls t frame frames begins (λ q u. (q ≡ label_in s f 5) × (u.frames ≡ t.frames) × TakesSign t u) 131 4 40 (5 ∷ []) refl (Taken s bounds t bytes running [])
    (λ j u bytes same e. (ap (label_in s f) e.0, same, e.1)) (omega arith) (sign_go s bounds t bytes running (behind 153 printf_lines))
