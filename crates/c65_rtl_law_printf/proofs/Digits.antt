-- A digit is taken by 32 rounds of a division, and its byte is made of the remainder.
use Rattle.std.proofs.Common.{◌≡◌, ◌≢◌, ℕ, zero, suc, ◌+◌, ◌-◌, ◌*◌, ◌/◌, ◌%◌, ◌^◌, ◌<◌, ◌≤◌, ◌⊎◌, inl, inr, Bool, true, false, List, [], ◌∷◌, None, length, nat_eq, refl, sym, ap, subst, ◌∙◌, arith}
use Rattle.std.specs.Prelude.{nat_lt, sum_by, if◌then◌else◌}
use Rattle.std.specs.Fmt.{digit_glyph}
use Rattle.c65_mach.specs.declared.rows.Op.TheVariants.{Adc, Asl, Bcc, Bne, Cmp, Dex, Inc, Lda, Ldx, Rol, Sbc}
use Rattle.c65_mach.specs.Step.{bit, is_not}
use Rattle.c65_code.specs.declared.line.Line.{Line}
use Rattle.c65_code.specs.declared.line.Line.TheVariants.{Label}
use Rattle.c65_code.specs.declared.routine.Routine.{Routine}
use Rattle.c65_code.specs.LineState.{Place, State, Frame, Bytes, write, IsBytes}
use Rattle.c65_code.specs.Moves.{settle, labelled}
use Rattle.c65_code.specs.RawMachine.{RawSetting, Bounds}
use Rattle.c65_rtl.specs.Assembly.{regsave, tmp4, implied, on_a, value, zero_page, branch}
use Rattle.c65_rtl.proofs.Ways.{moved_to}
use Rattle.c65_rtl.proofs.Rounds.{behind}
use Rattle.c65_rtl.proofs.Meeting.{lt_true, lt_false, eq_true, eq_false, not_true, not_false, write_other}
use Rattle.c65_rtl.proofs.UnaryWords.{bit_sign}
use Rattle.c65_rtl.proofs.Widenings.{below_is, not_below}
use Rattle.c65_rtl_law_walks.specs.Joined.{label_in}
use Rattle.c65_rtl_law_walks.proofs.Walks.{Takes}
use Rattle.c65_rtl_law_quotients.proofs.Rounds.{Divides, Pending, fits_step, other_step, before_all, after_all, Divided}
use Rattle.c65_rtl_law_wide.proofs.Numbers.{number}
use Rattle.c65_rtl_law_wide.proofs.Differences.{place_on, remainder_on, waits}
use Rattle.c65_va.specs.Printf.{printf_lines}
use Rattle.c65_rtl_law_printf.specs.Digits.{number_left, TakesDigit, each_digit, its_byte, DigitsAreTaken}
use Rattle.c65_rtl_law_printf.proofs.Stops.{leads_stop, StopsIn, stops_in}

-- these lines call no routine
abbrev takes : Routine → Takes
takes r = record { below = 0; pushed = 0; weight = 0 }

-- the labels before the digit, and the stops of both pieces
abbrev before : List ℕ
before = 19 ∷ 5 ∷ 4 ∷ 18 ∷ 17 ∷ 3 ∷ 16 ∷ 15 ∷ 14 ∷ 2 ∷ 13 ∷ 1 ∷ 12 ∷ 0 ∷ 11 ∷ []

abbrev gone : List ℕ
gone = 22 ∷ 20 ∷ before

abbrev To : RawSetting → Bounds → (State → Type 0) → (ℕ → State → Type 0) → List ℕ → List Line → State → Type 0
To s bounds P B stops lines u = leads_stop s bounds 0 takes P B stops lines None u

abbrev begin_on : List Line → List Line
begin_on rest = value Lda 0 ∷ value Ldx 32 ∷ Label 20 ∷ rest

abbrev tail_on : List Line → List Line
tail_on rest = implied Dex ∷ branch Bne 20 ∷ value Cmp 10 ∷ branch Bcc 22 ∷ value Adc 38 ∷ Label 22 ∷ rest

abbrev round_on : List Line → List Line
round_on rest = zero_page Asl regsave ∷ zero_page Rol (regsave + 1) ∷ zero_page Rol (regsave + 2) ∷ zero_page Rol (regsave + 3) ∷ on_a Rol ∷ zero_page Cmp tmp4 ∷ branch Bcc 21 ∷ zero_page Sbc tmp4 ∷ zero_page Inc regsave ∷ Label 21 ∷ tail_on rest

-- ---- the pieces

abbrev begun : State → Bool → Bool → State
begun u n z = record u { regs = record u.regs { a = 0; x = 32; n = n; z = z } }

begin_at : (s : RawSetting) (bounds : Bounds) (P : State → Type 0) (B : ℕ → State → Type 0) (rest : List Line) (u : State) → ((n z : Bool) → B 20 (begun u n z)) → To s bounds P B (20 ∷ before) (begin_on rest) u
unfolding leads_stop
begin_at s bounds P B rest u follows = follows _ _

-- the remainder with the next bit
abbrev high : State → ℕ
high u = (2 * u.regs.a) % 256 + bit (nat_lt 127 (u.zp 7))

abbrev moved : State → Bool → Bool → State
moved u n z = record u { regs = record u.regs { a = high u; n = n; z = z; c = nat_lt (u.zp 19) (high u + 1) }; zp = write (write (write (write u.zp 4 ((2 * u.zp 4) % 256)) 5 ((2 * u.zp 5) % 256 + bit (nat_lt 127 (u.zp 4)))) 6 ((2 * u.zp 6) % 256 + bit (nat_lt 127 (u.zp 5)))) 7 ((2 * u.zp 7) % 256 + bit (nat_lt 127 (u.zp 6))) }

abbrev taken : State → Bool → Bool → Bool → Bool → State
taken o n v z c = record o { regs = record o.regs { a = (o.regs.a + (255 - o.zp 19) + bit o.regs.c) % 256; n = n; v = v; z = z; c = c }; zp = write o.zp 4 ((o.zp 4 + 1) % 256) }

round_at : (s : RawSetting) (bounds : Bounds) (P : State → Type 0) (B : ℕ → State → Type 0) (rest : List Line) (u : State)
    → ((n z : Bool) → is_not (nat_lt (u.zp 19) (high u + 1)) ≡ true → To s bounds P B (21 ∷ gone) (tail_on rest) (moved u n z))
    → ((n z m v y c : Bool) → is_not (nat_lt (u.zp 19) (high u + 1)) ≡ false → To s bounds P B (21 ∷ gone) (tail_on rest) (taken (moved u n z) m v y c))
    → To s bounds P B gone (round_on rest) u
unfolding leads_stop
round_at s bounds P B rest u less fits = elim [ true ↦ λ e. less false false e | false ↦ λ e. fits false false false _ false _ e ]

abbrev counted : State → Bool → Bool → State
counted u n z = record u { regs = record u.regs { x = (u.regs.x + 255) % 256; n = n; z = z } }

abbrev as_digit : State → Bool → Bool → State
as_digit u n z = record u { regs = record u.regs { n = n; z = z; c = nat_lt 10 (u.regs.a + 1) } }

abbrev as_letter : State → Bool → Bool → Bool → State
as_letter u n v z = record u { regs = record u.regs { a = (u.regs.a + 38 + bit (nat_lt 10 (u.regs.a + 1))) % 256; n = n; v = v; z = z; c = nat_lt 255 (u.regs.a + 38 + bit (nat_lt 10 (u.regs.a + 1))) } }

tail_at : (s : RawSetting) (bounds : Bounds) (P : State → Type 0) (B : ℕ → State → Type 0) (rest : List Line) (u : State)
    → ((n z : Bool) → is_not (nat_eq ((u.regs.x + 255) % 256) 0) ≡ true → B 20 (counted u n z))
    → ((n z m y : Bool) → is_not (nat_eq ((u.regs.x + 255) % 256) 0) ≡ false → is_not (nat_lt 10 (u.regs.a + 1)) ≡ true → B 22 (as_digit (counted u n z) m y))
    → ((n z m v y : Bool) → is_not (nat_eq ((u.regs.x + 255) % 256) 0) ≡ false → is_not (nat_lt 10 (u.regs.a + 1)) ≡ false → B 22 (as_letter (counted u n z) m v y))
    → To s bounds P B (21 ∷ gone) (tail_on rest) u
unfolding leads_stop
tail_at s bounds P B rest u again low up = elim [
  | true ↦ λ e. again _ _ e
  | false ↦ λ e. elim [ true ↦ λ g. low false false _ _ e g | false ↦ λ g. up false false _ _ _ e g ]
]

-- ---- what is kept

-- an address that is none of regsave's
abbrev IsOther : ℕ → Type 0
IsOther i = (i + 1 ≤ 4) ⊎ (8 ≤ i)

apart : (i at : ℕ) → IsOther i → 4 ≤ at → at ≤ 7 → i ≢ at
apart i at (inl below) low end = omega arith
apart i at (inr above) low end = omega arith

kept_first : (zp : Bytes) (v i : ℕ) → IsOther i → write zp 4 v i ≡ zp i
kept_first zp v i other = write_other zp 4 v i (apart i 4 other (omega arith) (omega arith))

kept_four : (zp : Bytes) (a b c d i : ℕ) → IsOther i → write (write (write (write zp 4 a) 5 b) 6 c) 7 d i ≡ zp i
kept_four zp a b c d i other =
    write_other (write (write (write zp 4 a) 5 b) 6 c) 7 d i (apart i 7 other (omega arith) (omega arith))
    ∙ (write_other (write (write zp 4 a) 5 b) 6 c i (apart i 6 other (omega arith) (omega arith))
    ∙ (write_other (write zp 4 a) 5 b i (apart i 5 other (omega arith) (omega arith)) ∙ kept_first zp a i other))

record Aside (t u : State) : Type 0 where
  pub y : u.regs.y ≡ t.regs.y
  pub zp : (i : ℕ) → IsOther i → u.zp i ≡ t.zp i
  pub mem : (b : ℕ) → u.mem b ≡ t.mem b
  pub pushed : u.pushed ≡ t.pushed
  pub frames : u.frames ≡ t.frames
  pub input : u.input ≡ t.input
  pub output : u.output ≡ t.output
  pub ended : u.ended ≡ t.ended

-- At the loop with so many bits left of the number v.
record Dividing (t : State) (v d left : ℕ) (u : State) : Type 0 where
  pub aside : Aside t u
  pub x : u.regs.x ≡ left
  pub number : Divides 4294967296 v d (number (u.zp 4) (u.zp 5) (u.zp 6) (u.zp 7)) (number u.regs.a 0 0 0) (2 ^ left)

same_number : (v d place r place_on r_on power : ℕ) → place ≡ place_on → r ≡ r_on → Divides 4294967296 v d place r power → Divides 4294967296 v d place_on r_on power
same_number v d place r place_on r_on power same_place same_r k = subst (λ (n : ℕ). Divides 4294967296 v d n r_on power) same_place (subst (λ (n : ℕ). Divides 4294967296 v d place n power) same_r k)

shifted : (v d left : ℕ) (u : State) → IsBytes u → v < 4294967296 → d ≤ 16 → Divides 4294967296 v d (number (u.zp 4) (u.zp 5) (u.zp 6) (u.zp 7)) (number u.regs.a 0 0 0) (2 ^ suc left)
    → Pending 4294967296 v d (place_on (u.zp 4) (u.zp 5) (u.zp 6) (u.zp 7)) (number (high u) 0 0 0) (2 ^ left)
shifted v d left u bytes small base k =
    let a = bytes.a in
    let less = k.less in
    let none : 0 < 256 = omega arith in
    let sign = bit_sign u.regs.a a in
    let same : remainder_on u.regs.a 0 0 0 (bit (nat_lt 127 (u.zp 7))) ≡ number (high u) 0 0 0 = omega arith in
    subst (λ (r : ℕ). Pending 4294967296 v d (place_on (u.zp 4) (u.zp 5) (u.zp 6) (u.zp 7)) r (2 ^ left)) same
    (waits v d left (u.zp 4) (u.zp 5) (u.zp 6) (u.zp 7) u.regs.a 0 0 0 (bytes.zp 4) (bytes.zp 5) (bytes.zp 6) (bytes.zp 7) a none none none small k)

-- a round where the base does not fit
round_less : (t : State) (v d left : ℕ) (u : State) (n z f g : Bool) → IsBytes u → v < 4294967296 → d ≤ 16 → left < 255 → u.zp 19 ≡ d → Dividing t v d (suc left) u → is_not (nat_lt (u.zp 19) (high u + 1)) ≡ true
    → Dividing t v d left (counted (moved u n z) f g)
round_less t v d left u n z f g bytes small base few divisor k less =
    let x = k.x in
    let wait = shifted v d left u bytes small base k.number in
    let under = lt_false (u.zp 19) (high u + 1) (not_true _ less) in
    record {
      aside = record { y = k.aside.y; zp = λ i other. kept_four u.zp _ _ _ _ i other ∙ k.aside.zp i other; mem = k.aside.mem; pushed = k.aside.pushed; frames = k.aside.frames; input = k.aside.input; output = k.aside.output; ended = k.aside.ended };
      x = omega arith;
      number = other_step 4294967296 v d (place_on (u.zp 4) (u.zp 5) (u.zp 6) (u.zp 7)) (number (high u) 0 0 0) (2 ^ left) wait (omega arith);
    }

-- and where it does
round_fits : (t : State) (v d left : ℕ) (u : State) (n z m w y c f g : Bool) → IsBytes u → v < 4294967296 → d ≤ 16 → left < 255 → u.zp 19 ≡ d → Dividing t v d (suc left) u → is_not (nat_lt (u.zp 19) (high u + 1)) ≡ false
    → Dividing t v d left (counted (taken (moved u n z) m w y c) f g)
round_fits t v d left u n z m w y c f g bytes small base few divisor k fits =
    let x = k.x in
    let b4 = bytes.zp 4 in
    let wait = shifted v d left u bytes small base k.number in
    let over = lt_true (u.zp 19) (high u + 1) (not_false _ fits) in
    let carry : bit (nat_lt (u.zp 19) (high u + 1)) ≡ 1 = ap bit (not_false _ fits) in
    let double = wait.double in
    let place : place_on (u.zp 4) (u.zp 5) (u.zp 6) (u.zp 7) + 1 ≡ number (((2 * u.zp 4) % 256 + 1) % 256) ((2 * u.zp 5) % 256 + bit (nat_lt 127 (u.zp 4))) ((2 * u.zp 6) % 256 + bit (nat_lt 127 (u.zp 5))) ((2 * u.zp 7) % 256 + bit (nat_lt 127 (u.zp 6))) = omega arith in
    let rest : number (high u) 0 0 0 - d ≡ number ((high u + (255 - u.zp 19) + bit (nat_lt (u.zp 19) (high u + 1))) % 256) 0 0 0 = omega arith in
    record {
      aside = record { y = k.aside.y; zp = λ i other. kept_first (moved u n z).zp _ i other ∙ (kept_four u.zp _ _ _ _ i other ∙ k.aside.zp i other); mem = k.aside.mem; pushed = k.aside.pushed; frames = k.aside.frames; input = k.aside.input; output = k.aside.output; ended = k.aside.ended };
      x = omega arith;
      number = same_number v d _ _ _ _ (2 ^ left) place rest (fits_step 4294967296 v d (place_on (u.zp 4) (u.zp 5) (u.zp 6) (u.zp 7)) (number (high u) 0 0 0) (2 ^ left) wait (omega arith));
    }

-- ---- the byte

glyph_low : (r : ℕ) → r < 10 → digit_glyph false r ≡ 48 + r
glyph_low r low = ap (λ (b : Bool). if b then 48 + r else 87 + r) (below_is r 10 low)

glyph_up : (r : ℕ) → 10 ≤ r → digit_glyph false r ≡ 87 + r
glyph_up r up = ap (λ (b : Bool). if b then 48 + r else 87 + r) (not_below r 10 up)

digit_ends : (t u : State) (v d : ℕ) (m y : Bool) → t.ended ≡ None → v ≡ number_left t.zp → Dividing t v d 0 u → is_not (nat_lt 10 (u.regs.a + 1)) ≡ true → TakesDigit d t (as_digit u m y)
digit_ends t u v d m y running is k low =
    let under = lt_false 10 (u.regs.a + 1) (not_true _ low) in
    let done : Divided v d (number (u.zp 4) (u.zp 5) (u.zp 6) (u.zp 7)) (number u.regs.a 0 0 0) = after_all 4294967296 v d _ _ k.number in
    let remainder : u.regs.a ≡ v % d = (let e = done.remainder in omega arith) in
    let glyph = glyph_low u.regs.a (omega arith) in
    record {
      digit = (let e : u.regs.a + 48 ≡ 48 + u.regs.a = omega arith in e) ∙ (sym glyph ∙ ap (digit_glyph false) (remainder ∙ ap (λ (n : ℕ). n % d) is));
      carry = not_true _ low;
      quotient = done.quotient ∙ ap (λ (n : ℕ). n / d) is;
      y = k.aside.y;
      zp = k.aside.zp;
      mem = k.aside.mem;
      pushed = k.aside.pushed;
      frames = k.aside.frames;
      input = k.aside.input;
      output = k.aside.output;
      ended = k.aside.ended ∙ running;
    }

letter_ends : (t u : State) (v d : ℕ) (m w y : Bool) → t.ended ≡ None → v ≡ number_left t.zp → d ≤ 16 → Dividing t v d 0 u → is_not (nat_lt 10 (u.regs.a + 1)) ≡ false → TakesDigit d t (as_letter u m w y)
letter_ends t u v d m w y running is base k up =
    let over = lt_true 10 (u.regs.a + 1) (not_false _ up) in
    let carry : bit (nat_lt 10 (u.regs.a + 1)) ≡ 1 = ap bit (not_false _ up) in
    let less = k.number.less in
    let done : Divided v d (number (u.zp 4) (u.zp 5) (u.zp 6) (u.zp 7)) (number u.regs.a 0 0 0) = after_all 4294967296 v d _ _ k.number in
    let remainder : u.regs.a ≡ v % d = (let e = done.remainder in omega arith) in
    let glyph = glyph_up u.regs.a (omega arith) in
    record {
      digit = (let e : (u.regs.a + 38 + bit (nat_lt 10 (u.regs.a + 1))) % 256 + 48 ≡ 87 + u.regs.a = omega arith in e) ∙ (sym glyph ∙ ap (digit_glyph false) (remainder ∙ ap (λ (n : ℕ). n % d) is));
      carry = not_below 255 (u.regs.a + 38 + bit (nat_lt 10 (u.regs.a + 1))) (omega arith);
      quotient = done.quotient ∙ ap (λ (n : ℕ). n / d) is;
      y = k.aside.y;
      zp = k.aside.zp;
      mem = k.aside.mem;
      pushed = k.aside.pushed;
      frames = k.aside.frames;
      input = k.aside.input;
      output = k.aside.output;
      ended = k.aside.ended ∙ running;
    }

-- ---- piece after piece

abbrev Exit : State → ℕ → ℕ → State → Type 0
Exit t d l u = (l ≡ its_byte) × TakesDigit d t u

-- with the weight that is left
abbrev Going : State → ℕ → ℕ → ℕ → State → Type 0
Going t d l n u = ((l ≡ each_digit) × (546 ≤ n) × (u ≡ t)) ⊎ ((l ≡ 20) × (left : ℕ) × (17 * suc left ≤ n) × (left < 255) × Dividing t (number_left t.zp) d (suc left) u)

-- where a round leads
module _ (s : RawSetting) (bounds : Bounds) (t : State) (d less : ℕ) (running : t.ended ≡ None) (base : d ≤ 16) where
  abbrev B : ℕ → State → Type 0
  B j u = Exit t d j u ⊎ Going t d j less u

  abbrev P : State → Type 0
  P u = ⊥

  tail_go : (rest : List Line) (left : ℕ) (u : State) → u.regs.x ≡ suc left → left < 255 → 17 * left ≤ less → ((f g : Bool) → Dividing t (number_left t.zp) d left (counted u f g)) → To s bounds P B (21 ∷ gone) (tail_on rest) u
  tail_go rest left u x few enough done =
      tail_at s bounds P B rest u
      (λ n z e. more n z (eq_false _ _ (not_true _ e)) left refl)
      (λ n z m y e low. inl (refl, digit_ends t (counted u n z) (number_left t.zp) d m y running refl (none n z e) low))
      (λ n z m v y e up. inl (refl, letter_ends t (counted u n z) (number_left t.zp) d m v y running refl base (none n z e) up))
    where
      none : (n z : Bool) → is_not (nat_eq ((u.regs.x + 255) % 256) 0) ≡ false → Dividing t (number_left t.zp) d 0 (counted u n z)
      none n z e =
          let last = eq_true _ _ (not_false _ e) in
          let zero_is : left ≡ 0 = omega arith in
          subst (λ (m : ℕ). Dividing t (number_left t.zp) d m (counted u n z)) zero_is (done n z)

      more : (n z : Bool) → (u.regs.x + 255) % 256 ≢ 0 → (m : ℕ) → left ≡ m → B 20 (counted u n z)
      more n z some zero e = absurd (some (let g : (u.regs.x + 255) % 256 ≡ 0 = omega arith in g))
      more n z some (suc m) e = inr (inr (refl, m, omega arith, omega arith, subst (λ (m : ℕ). Dividing t (number_left t.zp) d m (counted u n z)) e (done n z)))

  round_go : (rest : List Line) (left : ℕ) (u : State) → IsBytes u → IsBytes t → left < 255 → 17 * left ≤ less → t.zp 19 ≡ d → Dividing t (number_left t.zp) d (suc left) u → To s bounds P B gone (round_on rest) u
  round_go rest left u bytes before few enough divisor k =
      let b4 = before.zp 4 in
      let b5 = before.zp 5 in
      let b6 = before.zp 6 in
      let b7 = before.zp 7 in
      let small : number_left t.zp < 4294967296 = omega arith in
      let same : u.zp 19 ≡ d = k.aside.zp 19 (inr (omega arith)) ∙ divisor in
      round_at s bounds P B rest u
      (λ n z e. tail_go rest left (moved u n z) k.x few enough (λ f g. round_less t (number_left t.zp) d left u n z f g bytes small base few same k e))
      (λ n z m v y c e. tail_go rest left (taken (moved u n z) m v y c) k.x few enough (λ f g. round_fits t (number_left t.zp) d left u n z m v y c f g bytes small base few same k e))

-- before the first round
first : (t u : State) (d : ℕ) (n z : Bool) → IsBytes t → 2 ≤ d → u ≡ t → Dividing t (number_left t.zp) d 32 (begun u n z)
first t u d n z bytes base same =
    let b4 = bytes.zp 4 in
    let b5 = bytes.zp 5 in
    let b6 = bytes.zp 6 in
    let b7 = bytes.zp 7 in
    subst (λ (u : State). Dividing t (number_left t.zp) d 32 (begun u n z)) (sym same)
    (record {
      aside = record { y = refl; zp = λ i other. refl; mem = λ b. refl; pushed = refl; frames = refl; input = refl; output = refl; ended = refl };
      x = refl;
      number = before_all 4294967296 (number_left t.zp) d (omega arith) (omega arith);
    })

piece : (s : RawSetting) (bounds : Bounds) (t : State) (d : ℕ) → IsBytes t → t.ended ≡ None → t.zp 19 ≡ d → 2 ≤ d → d ≤ 16 → (l n : ℕ) (u : State) → IsBytes u → Going t d l n u → StopsIn s bounds 0 takes (λ u. ⊥) printf_lines (Exit t d) (Going t d) l n u
piece s bounds t d before_bytes running divisor low base l n u bytes (inl g) =
    let enough = g.1 in
    record {
      k = 156;
      ahead = 20 ∷ [];
      less = 544;
      stands = ap (λ (j : ℕ). settle printf_lines (labelled printf_lines j)) g.0;
      fewer = omega arith;
      weighs = omega arith;
      leads = begin_at s bounds (λ u. ⊥) (λ j u. Exit t d j u ⊎ Going t d j 544 u) (behind 159 printf_lines) u
          (λ n z. inr (inr (refl, 31, omega arith, omega arith, first t u d n z before_bytes low g.2)));
    }
piece s bounds t d before_bytes running divisor low base l n u bytes (inr g) =
    let left : ℕ = g.1 in
    let enough = g.2 in
    record {
      k = 159;
      ahead = 22 ∷ [];
      less = 17 * left;
      stands = ap (λ (j : ℕ). settle printf_lines (labelled printf_lines j)) g.0;
      fewer = omega arith;
      weighs = omega arith;
      leads = round_go s bounds t d (17 * left) running base (behind 175 printf_lines) left u bytes before_bytes g.3 (omega arith) divisor g.4;
    }

pub digits_are_taken : DigitsAreTaken
digits_are_taken s bounds f d t frame frames has bytes running frames_are room divisor low base =
    let Q : Place → State → Type 0 = λ q u. (q ≡ label_in s f its_byte) × TakesDigit d t u in
    let used : ℕ = sum_by (λ (f : Frame). 2 + length f.pushed) t.frames in
    let free : bounds.hard + 0 ≤ 253 - used = omega arith in
    moved_to s bounds Q 600 (label_in s f each_digit) (f, settle printf_lines (labelled printf_lines each_digit)) t t
    (ap (λ (ls : List Line). let q : Place = (f, settle ls (labelled ls each_digit)) in q) has) refl
    (stops_in s bounds 0 takes Q (λ u. ⊥) f printf_lines frame frames used has free (λ u h bytes. absurd h) refl (Exit t d) (Going t d)
    (λ k u bytes own e. (ap (λ (j : ℕ). let q : Place = (f, settle printf_lines (labelled printf_lines j)) in q) e.0 ∙ sym (ap (λ (ls : List Line). let q : Place = (f, settle ls (labelled ls its_byte)) in q) has), e.1))
    (piece s bounds t d bytes running divisor low base) 600 each_digit 600 t (omega arith) bytes (record { frames = frames_are; ended = running; used = refl })
    (inl (refl, omega arith, refl)))
