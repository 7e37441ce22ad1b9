-- The choice of a conversion, and the argument of those that take a word.
use Rattle.std.proofs.Common.{◌≡◌, ◌≢◌, ℕ, ◌+◌, ◌-◌, ◌*◌, ◌%◌, ◌<◌, ◌≤◌, Bool, true, false, List, [], ◌∷◌, All, nat_eq, refl, sym, ap, subst, ◌∙◌, arith}
use Rattle.std.specs.Prelude.{if◌then◌else◌, nat_lt}
use Rattle.std.proofs.lemmas.Bool.Decides.{nat_tests}
use Rattle.c65_mach.specs.declared.rows.Op.TheVariants.{Bcc, Bcs, Beq, Bne, Cmp, Cpy, Dec, Dex, Iny, Lda, Ldx, Ldy, Sbc, Sec, Sta, Stx}
use Rattle.c65_mach.specs.Step.{is_not}
use Rattle.c65_code.specs.declared.line.Line.{Line}
use Rattle.c65_code.specs.declared.line.Line.TheVariants.{Label}
use Rattle.c65_code.specs.LineState.{State, Bytes, write, word_at, zero_word}
use Rattle.c65_code.specs.Texts.{range_of}
use Rattle.c65_code.specs.RawMachine.{RawSetting, Bounds, IsReachable}
use Rattle.c65_rtl.specs.Assembly.{sreg, regsave, ptr2, tmp4, implied, value, zero_page, by_y, branch}
use Rattle.c65_rtl.proofs.Rounds.{behind}
use Rattle.c65_rtl.proofs.Meeting.{eq_true, eq_false, lt_true, lt_false, not_true, not_false, write_other}
use Rattle.c65_rtl.proofs.Stores.{reach_as}
use Rattle.c65_rtl.proofs.Widenings.{below_is, not_below}
use Rattle.c65_rtl_law_walks.specs.Joined.{label_in}
use Rattle.c65_rtl_law_walks.proofs.Ranges.{all_in_range}
use Rattle.c65_va.specs.Printf.{printf_lines, jump, percent}
use Rattle.c65_rtl_law_printf.specs.Arguments.{SameAside, MayTake}
use Rattle.c65_rtl_law_printf_fields.specs.Choosing.{after_letter, Chooses, spread_by, base_by, TakesWord, LettersAreChosen, WordsAreTaken}
use Rattle.c65_rtl_law_printf.proofs.Stops.{leads_stop}
use Rattle.c65_rtl_law_printf_fields.proofs.Leading.{no_calls, To, Begins, piece_leads}

abbrev gone : List ℕ
gone = 8 ∷ 6 ∷ 7 ∷ 3 ∷ 4 ∷ 2 ∷ 13 ∷ 1 ∷ 12 ∷ 0 ∷ 11 ∷ []

abbrev spread_on : List Line → List Line
spread_on rest = value Ldx 0 ∷ zero_page Ldy sreg ∷ value Cpy 52 ∷ branch Bne 16 ∷ value Cmp 128 ∷ branch Bcc 16 ∷ implied Dex ∷ Label 16 ∷ zero_page Stx (regsave + 2) ∷ zero_page Stx (regsave + 3) ∷ jump 4 ∷ rest

abbrev word_on : List Line → List Line
word_on rest = by_y Lda ptr2 ∷ zero_page Sta regsave ∷ implied Iny ∷ by_y Lda ptr2 ∷ zero_page Sta (regsave + 1) ∷ rest

abbrev lower_on : List Line → List Line
lower_on rest = zero_page Sta sreg ∷ implied Sec ∷ zero_page Lda ptr2 ∷ value Sbc 2 ∷ zero_page Sta ptr2 ∷ branch Bcs 15 ∷ zero_page Dec (ptr2 + 1) ∷ Label 15 ∷ rest

abbrev base_on : List Line → List Line
base_on rest = value Ldx 10 ∷ zero_page Stx tmp4 ∷ value Cmp 60 ∷ branch Beq 3 ∷ value Cmp 72 ∷ branch Bne 14 ∷ value Ldx 16 ∷ zero_page Stx tmp4 ∷ Label 14 ∷ rest

abbrev choose_on : List Line → List Line
choose_on rest = value Cmp percent ∷ branch Beq 8 ∷ value Cmp 51 ∷ branch Beq 6 ∷ value Cmp 67 ∷ branch Beq 7 ∷ rest

-- ---- ptr2 goes down by so many bytes

pub record Lowered (count : ℕ) (zp zp_on : Bytes) : Type 0 where
  pub low : zp_on 10 < 256
  pub high : zp_on 11 < 256
  pub word : zp_on 10 + 256 * zp_on 11 + count ≡ zp 10 + 256 * zp 11
  pub rest : (i : ℕ) → i ≢ 10 → i ≢ 11 → zp_on i ≡ zp i

-- by what is added in its place
abbrev pub low_on : ℕ → Bytes → Bytes
low_on less zp = write zp 10 ((zp 10 + less + 1) % 256)

abbrev pub both_on : ℕ → Bytes → Bytes
both_on less zp = write (low_on less zp) 11 ((zp 11 + 255) % 256)

pub lowered_low : (count less : ℕ) (zp : Bytes) → less + count ≡ 255 → zp 10 < 256 → zp 11 < 256 → 255 < zp 10 + less + 1 → Lowered count zp (low_on less zp)
lowered_low count less zp e b10 b11 more = record { low = omega arith; high = b11; word = omega arith; rest = λ i e f. write_other zp 10 _ i e }

pub lowered_both : (count less : ℕ) (zp : Bytes) → less + count ≡ 255 → zp 10 < 256 → zp 11 < 256 → count ≤ zp 10 + 256 * zp 11 → zp 10 + less + 1 ≤ 255 → Lowered count zp (both_on less zp)
lowered_both count less zp e b10 b11 some few = record { low = omega arith; high = omega arith; word = omega arith; rest = λ i e f. write_other (low_on less zp) 11 _ i f ∙ write_other zp 10 _ i e }

abbrev pub with_zp : State → ℕ → Bool → Bool → Bool → Bool → Bytes → State
with_zp u a n v z c zp = record u { regs = record u.regs { a = a; n = n; v = v; z = z; c = c }; zp = zp }

-- ---- the pieces

abbrev flagged : State → Bool → Bool → Bool → State
flagged u n z c = record u { regs = record u.regs { n = n; z = z; c = c } }

choose_at : (s : RawSetting) (bounds : Bounds) (B : ℕ → State → Type 0) (rest : List Line) (u : State)
    → ((n z c : Bool) → nat_eq ((u.regs.a + 256 - 245) % 256) 0 ≡ true → B 8 (flagged u n z c))
    → ((n z c : Bool) → nat_eq ((u.regs.a + 256 - 51) % 256) 0 ≡ true → B 6 (flagged u n z c))
    → ((n z c : Bool) → nat_eq ((u.regs.a + 256 - 67) % 256) 0 ≡ true → B 7 (flagged u n z c))
    → ((n z c : Bool) → nat_eq ((u.regs.a + 256 - 245) % 256) 0 ≡ false → nat_eq ((u.regs.a + 256 - 51) % 256) 0 ≡ false → nat_eq ((u.regs.a + 256 - 67) % 256) 0 ≡ false → To s bounds B gone rest (flagged u n z c))
    → To s bounds B gone (choose_on rest) u
unfolding leads_stop
choose_at s bounds B rest u stands letter pointer other = elim [
  | true ↦ λ e. stands _ _ _ e
  | false ↦ λ e. elim [
    | true ↦ λ f. letter _ _ _ f
    | false ↦ λ f. elim [ true ↦ λ g. pointer _ _ _ g | false ↦ λ g. other _ _ _ e f g ]
  ]
]

abbrev based : State → ℕ → Bytes → Bool → Bool → Bool → State
based u x zp n z c = record u { regs = record u.regs { x = x; n = n; z = z; c = c }; zp = zp }

base_at : (s : RawSetting) (bounds : Bounds) (B : ℕ → State → Type 0) (rest : List Line) (u : State)
    → ((n z c : Bool) → nat_eq ((u.regs.a + 256 - 60) % 256) 0 ≡ true → B 3 (based u 10 (write u.zp 19 10) n z c))
    → ((n z c : Bool) → nat_eq ((u.regs.a + 256 - 60) % 256) 0 ≡ false → is_not (nat_eq ((u.regs.a + 256 - 72) % 256) 0) ≡ true → To s bounds B (14 ∷ gone) rest (based u 10 (write u.zp 19 10) n z c))
    → ((n z c : Bool) → nat_eq ((u.regs.a + 256 - 60) % 256) 0 ≡ false → is_not (nat_eq ((u.regs.a + 256 - 72) % 256) 0) ≡ false → To s bounds B (14 ∷ gone) rest (based u 16 (write (write u.zp 19 10) 19 16) n z c))
    → To s bounds B gone (base_on rest) u
unfolding leads_stop
base_at s bounds B rest u long decimal hexadecimal = elim [
  | true ↦ λ e. long _ _ _ e
  | false ↦ λ e. elim [ true ↦ λ f. decimal _ _ _ e f | false ↦ λ f. hexadecimal _ _ _ e f ]
]

lower_at : (s : RawSetting) (bounds : Bounds) (B : ℕ → State → Type 0) (rest : List Line) (u : State) → u.zp 10 < 256 → u.zp 11 < 256 → 2 ≤ u.zp 10 + 256 * u.zp 11
    → ((a : ℕ) (n v z c : Bool) (zp : Bytes) → Lowered 2 (write u.zp 2 u.regs.a) zp → To s bounds B (15 ∷ 14 ∷ gone) rest (with_zp u a n v z c zp)) → To s bounds B (14 ∷ gone) (lower_on rest) u
unfolding leads_stop
lower_at s bounds B rest u b10 b11 some follows = elim [
  | true ↦ λ e. follows _ _ _ _ _ (low_on 253 (write u.zp 2 u.regs.a)) (lowered_low 2 253 (write u.zp 2 u.regs.a) refl b10 b11 (lt_true _ _ e))
  | false ↦ λ e. follows _ _ _ _ _ (both_on 253 (write u.zp 2 u.regs.a)) (lowered_both 2 253 (write u.zp 2 u.regs.a) refl b10 b11 some (lt_false _ _ e))
]

abbrev first_at : State → ℕ
first_at u = (u.zp 10 + 256 * u.zp 11 + u.regs.y) % 65536

abbrev second_at : State → ℕ
second_at u = (u.zp 10 + 256 * u.zp 11 + (u.regs.y + 1) % 256) % 65536

abbrev taken : State → Bool → Bool → State
taken u n z = record u { regs = record u.regs { a = u.mem (second_at u); y = (u.regs.y + 1) % 256; n = n; z = z }; zp = write (write u.zp 4 (u.mem (first_at u))) 5 (u.mem (second_at u)) }

word_from : (s : RawSetting) (bounds : Bounds) (B : ℕ → State → Type 0) (rest : List Line) (u : State) → IsReachable s.place bounds (first_at u) → IsReachable s.place bounds (second_at u)
    → ((n z : Bool) → To s bounds B (15 ∷ 14 ∷ gone) rest (taken u n z)) → To s bounds B (15 ∷ 14 ∷ gone) (word_on rest) u
unfolding leads_stop
word_from s bounds B rest u r0 r1 follows = (r0, (r1, follows _ _))

abbrev spread : State → ℕ → Bool → Bool → Bool → State
spread u x n z c = record u { regs = record u.regs { x = x; y = u.zp 2; n = n; z = z; c = c }; zp = write (write u.zp 6 x) 7 x }

spread_at : (s : RawSetting) (bounds : Bounds) (B : ℕ → State → Type 0) (rest : List Line) (u : State)
    → ((n z c : Bool) → is_not (nat_eq ((u.zp 2 + 256 - 52) % 256) 0) ≡ true → B 4 (spread u 0 n z c))
    → ((n z c : Bool) → is_not (nat_eq ((u.zp 2 + 256 - 52) % 256) 0) ≡ false → is_not (nat_lt 128 (u.regs.a + 1)) ≡ true → B 4 (spread u 0 n z c))
    → ((n z c : Bool) → is_not (nat_eq ((u.zp 2 + 256 - 52) % 256) 0) ≡ false → is_not (nat_lt 128 (u.regs.a + 1)) ≡ false → B 4 (spread u 255 n z c))
    → To s bounds B (15 ∷ 14 ∷ gone) (spread_on rest) u
unfolding leads_stop
spread_at s bounds B rest u other low high = elim [
  | true ↦ λ e. other _ _ _ e
  | false ↦ λ e. elim [ true ↦ λ f. low _ _ _ e f | false ↦ λ f. high _ _ _ e f ]
]

-- ---- the tests

pub letter_is : (a c : ℕ) → a < 256 → c < 256 → nat_eq ((a + 256 - c) % 256) 0 ≡ true → a ≡ c
letter_is a c la lc e = let none = eq_true _ _ e in omega arith

pub letter_other : (a c : ℕ) → nat_eq ((a + 256 - c) % 256) 0 ≡ false → a ≢ c
letter_other a c e = λ same. eq_false _ _ e (let g : (a + 256 - c) % 256 ≡ 0 = omega arith in g)

pub not_equal : (b c : ℕ) → b ≢ c → nat_eq b c ≡ false
not_equal b c other = grind (arith, nat_tests)

to_word : (a : ℕ) → a ≢ 245 → a ≢ 51 → a ≢ 67 → a ≢ 60 → after_letter a ≡ 4
to_word a h245 h51 h67 h60 =
    ap (λ (c : Bool). if c then 8 else if nat_eq a 51 then 6 else if nat_eq a 67 then 7 else if nat_eq a 60 then 3 else 4) (not_equal a 245 h245)
    ∙ (ap (λ (c : Bool). if c then 6 else if nat_eq a 67 then 7 else if nat_eq a 60 then 3 else 4) (not_equal a 51 h51)
    ∙ (ap (λ (c : Bool). if c then 7 else if nat_eq a 60 then 3 else 4) (not_equal a 67 h67) ∙ ap (λ (c : Bool). if c then 3 else 4) (not_equal a 60 h60)))

-- ---- where another label is chosen

module _ (s : RawSetting) (bounds : Bounds) (t : State) (may : MayTake s bounds t) (rest : List Line) where
  abbrev Chosen : ℕ → State → Type 0
  Chosen j u = (j ≡ after_letter t.regs.a) × Chooses t u

  chosen : (j a : ℕ) (n z c : Bool) → t.regs.a ≡ a → j ≡ after_letter a → (a ≡ 60 → ⊥) → Chosen j (flagged t n z c)
  chosen j a n z c is to none = (
    to ∙ ap after_letter (sym is),
    record { base = λ long. absurd (none (sym is ∙ long)); zp = λ i other. refl; y = refl; same = record { mem = λ b. refl; pushed = refl; input = refl; output = refl; ended = may.running } },
  )

  choose_go : after_letter t.regs.a ≢ 4 → To s bounds Chosen gone (choose_on (base_on (lower_on (word_on (spread_on rest))))) t
  choose_go some =
      let a = may.bytes.a in
      choose_at s bounds Chosen (base_on (lower_on (word_on (spread_on rest)))) t
      (λ n z c e. chosen 8 245 n z c (letter_is t.regs.a 245 a (omega arith) e) refl (λ f. absurd (omega arith)))
      (λ n z c e. chosen 6 51 n z c (letter_is t.regs.a 51 a (omega arith) e) refl (λ f. absurd (omega arith)))
      (λ n z c e. chosen 7 67 n z c (letter_is t.regs.a 67 a (omega arith) e) refl (λ f. absurd (omega arith)))
      (λ n z c e f g.
      let none : nat_eq ((t.regs.a + 256 - 60) % 256) 0 ≡ false → after_letter t.regs.a ≡ 4 = λ h. to_word t.regs.a (letter_other t.regs.a 245 e) (letter_other t.regs.a 51 f) (letter_other t.regs.a 67 g) (letter_other t.regs.a 60 h) in
      base_at s bounds Chosen (lower_on (word_on (spread_on rest))) (flagged t n z c)
      (λ m w d h. (
        ap after_letter (sym (letter_is t.regs.a 60 a (omega arith) h)),
        record { base = λ long. refl; zp = λ i other. write_other t.zp 19 10 i other; y = refl; same = record { mem = λ b. refl; pushed = refl; input = refl; output = refl; ended = may.running } },
      ))
      (λ m w d h i. absurd (some (none h)))
      (λ m w d h i. absurd (some (none h))))

pub letters_are_chosen : LettersAreChosen
letters_are_chosen s bounds f t frame frames has frames_are may some =
    let hard = may.hard in
    let begins : Begins s bounds f 0 t frame frames = record { has = has; frames_are = frames_are; bytes = may.bytes; running = may.running; free = omega arith } in
    piece_leads s bounds f 0 no_calls t frame frames begins (λ q u. (q ≡ label_in s f (after_letter t.regs.a)) × (u.frames ≡ t.frames) × Chooses t u) 64 2 60 (8 ∷ 6 ∷ 7 ∷ 3 ∷ 4 ∷ []) refl (Chosen s bounds t may [])
    (λ j u bytes same e. (ap (label_in s f) e.0, same, e.1)) (omega arith) (choose_go s bounds t may (behind 103 printf_lines) some)

-- ---- where a word is taken

spread_other : (l n : ℕ) → l ≢ 52 → spread_by l n ≡ n
spread_other l n other = ap (λ (b : Bool). if b then (if nat_lt 32767 n then n + 4294901760 else n) else n) (not_equal l 52 other)

spread_low : (l n : ℕ) → l ≡ 52 → n ≤ 32767 → spread_by l n ≡ n
spread_low l n is low = ap (λ (l : ℕ). spread_by l n) is ∙ ap (λ (b : Bool). if b then n + 4294901760 else n) (not_below 32767 n low)

spread_high : (l n : ℕ) → l ≡ 52 → 32767 < n → spread_by l n ≡ n + 4294901760
spread_high l n is high = ap (λ (l : ℕ). spread_by l n) is ∙ ap (λ (b : Bool). if b then n + 4294901760 else n) (below_is 32767 n high)

module _ (s : RawSetting) (bounds : Bounds) (t : State) (may : MayTake s bounds t) (word : after_letter t.regs.a ≡ 4) (y_is : t.regs.y ≡ 0) (reach : All (IsReachable s.place bounds) (range_of 2 (zero_word t 10 - 2))) (rest : List Line) where
  abbrev Taken : ℕ → State → Type 0
  Taken j u = (j ≡ 4) × TakesWord t u

  abbrev word_place : ℕ
  word_place = zero_word t 10 - 2

  -- once the base is chosen and ptr2 is lower
  record Lower (o : State) : Type 0 where
    pub letter : o.zp 2 ≡ t.regs.a
    pub base : o.zp 19 ≡ base_by t.regs.a
    pub low : o.zp 10 < 256
    pub high : o.zp 11 < 256
    pub block : o.zp 10 + 256 * o.zp 11 + 2 ≡ t.zp 10 + 256 * t.zp 11
    pub zp : (i : ℕ) → i ≢ 2 → i ≢ 10 → i ≢ 11 → i ≢ 19 → o.zp i ≡ t.zp i
    pub y : o.regs.y ≡ 0
    pub same : SameAside t o

  kept_four : (zp : Bytes) (a b c d i : ℕ) → i ≢ 4 → i ≢ 5 → i ≢ 6 → i ≢ 7 → write (write (write (write zp 4 a) 5 b) 6 c) 7 d i ≡ zp i
  kept_four zp a b c d i e4 e5 e6 e7 =
      write_other (write (write (write zp 4 a) 5 b) 6 c) 7 d i e7 ∙ (write_other (write (write zp 4 a) 5 b) 6 c i e6 ∙ (write_other (write zp 4 a) 5 b i e5 ∙ write_other zp 4 a i e4))

  ends : (o : State) (x : ℕ) (n z p q r : Bool) → Lower o → o.mem (first_at o) + 256 * o.mem (second_at o) + 65536 * (x + 256 * x) ≡ spread_by t.regs.a (word_at t.mem word_place) → Taken 4 (spread (taken o n z) x p q r)
  ends o x n z p q r k number = (
    refl,
    record {
      letter = k.letter;
      base = k.base;
      block = k.block;
      number = number;
      zp = λ i e2 e4 e5 e6 e7 e10 e11 e19. kept_four o.zp _ _ x x i e4 e5 e6 e7 ∙ k.zp i e2 e10 e11 e19;
      same = record { mem = k.same.mem; pushed = k.same.pushed; input = k.same.input; output = k.same.output; ended = k.same.ended };
    },
  )

  from_lower : (o : State) → Lower o → To s bounds Taken (15 ∷ 14 ∷ gone) (word_on (spread_on rest)) o
  from_lower o k =
      let some = may.some in
      let low = k.low in
      let high = k.high in
      let block = k.block in
      let y = k.y in
      let b10 = may.bytes.zp 10 in
      let b11 = may.bytes.zp 11 in
      let first : first_at o ≡ word_place = omega arith in
      let second : second_at o ≡ word_place + 1 = omega arith in
      let none : word_place + 0 ≡ word_place = omega arith in
      let r0 : IsReachable s.place bounds word_place = subst (λ (b : ℕ). IsReachable s.place bounds b) none (all_in_range (IsReachable s.place bounds) 2 word_place reach 0 (omega arith)) in
      let r1 : IsReachable s.place bounds (word_place + 1) = all_in_range (IsReachable s.place bounds) 2 word_place reach 1 (omega arith) in
      let m0 : o.mem (first_at o) ≡ t.mem word_place = k.same.mem (first_at o) ∙ ap t.mem first in
      let m1 : o.mem (second_at o) ≡ t.mem (word_place + 1) = k.same.mem (second_at o) ∙ ap t.mem second in
      let l0 = may.bytes.mem word_place in
      let l1 = may.bytes.mem (word_place + 1) in
      let a = may.bytes.a in
      let letter = k.letter in
      word_from s bounds Taken (spread_on rest) o (reach_as s.place bounds (first_at o) word_place first r0) (reach_as s.place bounds (second_at o) (word_place + 1) second r1)
      (λ n z. spread_at s bounds Taken rest (taken o n z)
      (λ p q r e. let other : t.regs.a ≢ 52 = (λ h. letter_other (o.zp 2) 52 (not_true _ e) (letter ∙ h)) in
      ends o 0 n z p q r k ((let g : o.mem (first_at o) + 256 * o.mem (second_at o) + 65536 * (0 + 256 * 0) ≡ word_at t.mem word_place = omega arith in g) ∙ sym (spread_other t.regs.a (word_at t.mem word_place) other)))
      (λ p q r e f. let is : t.regs.a ≡ 52 = sym letter ∙ letter_is (o.zp 2) 52 (omega arith) (omega arith) (not_false _ e) in
      let few = lt_false _ _ (not_true _ f) in
      ends o 0 n z p q r k ((let g : o.mem (first_at o) + 256 * o.mem (second_at o) + 65536 * (0 + 256 * 0) ≡ word_at t.mem word_place = omega arith in g) ∙ sym (spread_low t.regs.a (word_at t.mem word_place) is (omega arith))))
      (λ p q r e f. let is : t.regs.a ≡ 52 = sym letter ∙ letter_is (o.zp 2) 52 (omega arith) (omega arith) (not_false _ e) in
      let more = lt_true _ _ (not_false _ f) in
      ends o 255 n z p q r k ((let g : o.mem (first_at o) + 256 * o.mem (second_at o) + 65536 * (255 + 256 * 255) ≡ word_at t.mem word_place + 4294901760 = omega arith in g) ∙ sym (spread_high t.regs.a (word_at t.mem word_place) is (omega arith)))))

  -- once the base is chosen
  from_base : (x : ℕ) (zp : Bytes) (n z c p q r : Bool) → zp 19 ≡ base_by t.regs.a → ((i : ℕ) → i ≢ 19 → zp i ≡ t.zp i) → To s bounds Taken (14 ∷ gone) (lower_on (word_on (spread_on rest))) (based (flagged t n z c) x zp p q r)
  from_base x zp n z c p q r base others =
      let e10 = others 10 (omega arith) in
      let e11 = others 11 (omega arith) in
      let b10 = may.bytes.zp 10 in
      let b11 = may.bytes.zp 11 in
      let some = may.some in
      lower_at s bounds Taken (word_on (spread_on rest)) (based (flagged t n z c) x zp p q r) (omega arith) (omega arith) (omega arith) (λ a m v w d zp_on k.
      let word = k.word in
      from_lower (with_zp (based (flagged t n z c) x zp p q r) a m v w d zp_on) (record {
        letter = k.rest 2 (omega arith) (omega arith);
        base = k.rest 19 (omega arith) (omega arith) ∙ base;
        low = k.low;
        high = k.high;
        block = omega arith;
        zp = λ i e2 e10 e11 e19. k.rest i e10 e11 ∙ (write_other zp 2 t.regs.a i e2 ∙ others i e19);
        y = y_is;
        same = record { mem = λ b. refl; pushed = refl; input = refl; output = refl; ended = may.running };
      }))

  no_word : (j a : ℕ) (u : State) → t.regs.a ≡ a → after_letter a ≢ 4 → Taken j u
  no_word j a u is other = absurd (other (ap after_letter (sym is) ∙ word))

  word_go : To s bounds Taken gone (choose_on (base_on (lower_on (word_on (spread_on rest))))) t
  word_go =
      let a = may.bytes.a in
      choose_at s bounds Taken (base_on (lower_on (word_on (spread_on rest)))) t
      (λ n z c e. no_word 8 245 _ (letter_is t.regs.a 245 a (omega arith) e) (λ f. absurd (omega arith)))
      (λ n z c e. no_word 6 51 _ (letter_is t.regs.a 51 a (omega arith) e) (λ f. absurd (omega arith)))
      (λ n z c e. no_word 7 67 _ (letter_is t.regs.a 67 a (omega arith) e) (λ f. absurd (omega arith)))
      (λ n z c e f g. base_at s bounds Taken (lower_on (word_on (spread_on rest))) (flagged t n z c)
      (λ m w d h. no_word 3 60 _ (letter_is t.regs.a 60 a (omega arith) h) (λ f. absurd (omega arith)))
      (λ m w d h i. from_base 10 (write t.zp 19 10) n z c m w d (sym (ap (λ (b : Bool). if b then 16 else 10) (not_equal t.regs.a 72 (letter_other t.regs.a 72 (not_true _ i))))) (λ k other. write_other t.zp 19 10 k other))
      (λ m w d h i. from_base 16 (write (write t.zp 19 10) 19 16) n z c m w d (sym (ap base_by (letter_is t.regs.a 72 a (omega arith) (not_false _ i))))
      (λ k other. write_other (write t.zp 19 10) 19 16 k other ∙ write_other t.zp 19 10 k other)))

pub words_are_taken : WordsAreTaken
words_are_taken s bounds f t frame frames has frames_are may word y_is reach =
    let hard = may.hard in
    let begins : Begins s bounds f 0 t frame frames = record { has = has; frames_are = frames_are; bytes = may.bytes; running = may.running; free = omega arith } in
    piece_leads s bounds f 0 no_calls t frame frames begins (λ q u. (q ≡ label_in s f 4) × (u.frames ≡ t.frames) × TakesWord t u) 64 2 60 (8 ∷ 6 ∷ 7 ∷ 3 ∷ 4 ∷ []) refl (Taken s bounds t may word y_is reach [])
    (λ j u bytes same e. (ap (label_in s f) e.0, same, e.1)) (omega arith) (word_go s bounds t may word y_is reach (behind 103 printf_lines))
