-- The digits of a number are pushed, the lowest first, and then its sign.
use Rattle.std.proofs.Common.{◌≡◌, ◌≢◌, ℕ, zero, suc, ◌+◌, ◌-◌, ◌*◌, ◌/◌, ◌%◌, ◌^◌, ◌<◌, ◌≤◌, ◌⊎◌, inl, inr, Bool, true, false, List, [], ◌∷◌, None, length, nat_eq, refl, sym, ap, subst, ◌∙◌, arith}
use Rattle.std.specs.Prelude.{nat_lt, bit_or, sum_by, if◌then◌else◌}
use Rattle.std.specs.Int.Bits.{or_add_and}
use Rattle.std.specs.Fmt.{digit_glyph, digits_onto, digits}
use Rattle.std.proofs.Math.Nat.{pow-succ'}
use Rattle.std.proofs.lemmas.List.{append-nil}
use Rattle.std.proofs.lemmas.List.Elements.{All-nil, All-cons}
use Rattle.std.proofs.lemmas.Nat.{le_or_l, le_or_r}
use Rattle.c65_mach.specs.declared.rows.Op.TheVariants.{Adc, Beq, Bne, Inc, Lda, Ora, Sta}
use Rattle.c65_mach.specs.Step.{is_not, bit}
use Rattle.c65_code.specs.declared.line.Line.{Line}
use Rattle.c65_code.specs.declared.line.Line.TheVariants.{Label}
use Rattle.c65_code.specs.declared.routine.Routine.{Routine}
use Rattle.c65_code.specs.declared.routine.Routine.TheVariants as routines
use Rattle.c65_code.specs.LineState.{Place, State, Frame, Bytes, write, sp_of, IsBytes}
use Rattle.c65_code.specs.Rows.{Meets}
use Rattle.c65_code.specs.Texts.{bytes_at}
use Rattle.c65_code.specs.RawMachine.{RawSetting, Bounds, RawComes, IsReachable}
use Rattle.c65_rtl.specs.Assembly.{sp, sreg, regsave, ptr4, tmp2, value, zero_page, branch, call}
use Rattle.c65_rtl.proofs.Rounds.{behind}
use Rattle.c65_rtl.proofs.Meeting.{eq_true, eq_false, not_true, not_false, write_other}
use Rattle.c65_rtl.proofs.Pushes.{write_same}
use Rattle.c65_rtl_law_walks.specs.Joined.{label_in, Around, Turns}
use Rattle.c65_rtl_law_walks.proofs.Joins.{bind, rounds_end}
use Rattle.c65_rtl_law_walks.proofs.Walks.{Takes, Calls}
use Rattle.c65_rtl_law_inner.proofs.Kept.{kept_from}
use Rattle.c65_rtl_law_inner.proofs.Pops.{above_or_below}
use Rattle.c65_rtl_law_inner.proofs.Pushes.{pusha_row, push_byte_comes}
use Rattle.c65_va.specs.Printf.{printf_lines, jump}
use Rattle.c65_rtl_law_printf.specs.Digits.{number_left, TakesDigit}
use Rattle.c65_rtl_law_printf.proofs.Digits.{digits_are_taken}
use Rattle.c65_rtl_law_printf.proofs.Stops.{leads_stop}
use Rattle.c65_rtl_law_printf.proofs.Writing.{same_bytes}
use Rattle.c65_rtl_law_printf_fields.specs.Numbers.{AllStand, MayPush, numeral, MakesNumber, NumbersAreMade}
use Rattle.c65_rtl_law_printf_fields.proofs.Choosing.{not_equal}
use Rattle.c65_rtl_law_printf_fields.proofs.Leading.{no_calls, To, Begins, piece_leads, with_bytes}

abbrev takes : Routine → Takes
takes routines.PushA = record { below = 1; pushed = 0; weight = 8 }
takes _ = record { below = 0; pushed = 0; weight = 0 }

abbrev first_gone : List ℕ
first_gone = 19 ∷ 5 ∷ 4 ∷ 18 ∷ 17 ∷ 3 ∷ 16 ∷ 15 ∷ 14 ∷ 2 ∷ 13 ∷ 1 ∷ 12 ∷ 0 ∷ 11 ∷ []

abbrev gone : List ℕ
gone = 8 ∷ 22 ∷ 21 ∷ 20 ∷ first_gone

abbrev Way : RawSetting → Bounds → ℕ → (ℕ → State → Type 0) → List ℕ → List Line → State → Type 0
Way s bounds deepest B stops lines u = leads_stop s bounds deepest takes (λ u. ⊥) B stops lines None u

abbrev start_on : List Line → List Line
start_on rest = value Lda 0 ∷ zero_page Sta tmp2 ∷ Label 19 ∷ rest

abbrev at_on : List Line → List Line
at_on rest = zero_page Lda sp ∷ zero_page Sta ptr4 ∷ zero_page Lda (sp + 1) ∷ zero_page Sta (ptr4 + 1) ∷ jump 8 ∷ rest

abbrev longer_on : List Line → List Line
longer_on rest = zero_page Inc tmp2 ∷ Label 23 ∷ rest

abbrev sign_on : List Line → List Line
sign_on rest = zero_page Lda (sreg + 1) ∷ branch Beq 23 ∷ value Lda 45 ∷ call routines.PushA ∷ longer_on rest

abbrev more_on : List Line → List Line
more_on rest = zero_page Inc tmp2 ∷ zero_page Lda regsave ∷ zero_page Ora (regsave + 1) ∷ zero_page Ora (regsave + 2) ∷ zero_page Ora (regsave + 3) ∷ branch Bne 19 ∷ rest

abbrev byte_on : List Line → List Line
byte_on rest = value Adc 48 ∷ call routines.PushA ∷ rest

-- ---- the pieces

abbrev started : State → Bool → Bool → State
started u n z = record u { regs = record u.regs { a = 0; n = n; z = z }; zp = write u.zp 17 0 }

start_at : (s : RawSetting) (bounds : Bounds) (B : ℕ → State → Type 0) (rest : List Line) (u : State) → ((n z : Bool) → B 19 (started u n z)) → To s bounds B first_gone (start_on rest) u
unfolding leads_stop
start_at s bounds B rest u follows = follows _ _

abbrev added : State → Bool → Bool → Bool → Bool → State
added u n v z c = record u { regs = record u.regs { a = (u.regs.a + 48 + bit u.regs.c) % 256; n = n; v = v; z = z; c = c } }

byte_at : (s : RawSetting) (bounds : Bounds) (deepest : ℕ) (B : ℕ → State → Type 0) (rest : List Line) (u : State)
    → ((n v z c : Bool) → Calls s bounds deepest takes routines.PushA (leads_stop s bounds deepest takes (λ u. ⊥) B gone rest) (added u n v z c)) → Way s bounds deepest B gone (byte_on rest) u
unfolding leads_stop
byte_at s bounds deepest B rest u follows = follows _ _ _ _

abbrev bits_of : Bytes → ℕ
bits_of zp = bit_or (bit_or (bit_or (zp 4) (zp 5)) (zp 6)) (zp 7)

abbrev counted : State → ℕ → Bool → Bool → State
counted u a n z = record u { regs = record u.regs { a = a; n = n; z = z }; zp = write u.zp 17 ((u.zp 17 + 1) % 256) }

more_at : (s : RawSetting) (bounds : Bounds) (deepest : ℕ) (B : ℕ → State → Type 0) (rest : List Line) (u : State)
    → ((a : ℕ) (n z : Bool) → is_not (nat_eq (bits_of u.zp) 0) ≡ true → B 19 (counted u a n z))
    → ((a : ℕ) (n z : Bool) → is_not (nat_eq (bits_of u.zp) 0) ≡ false → Way s bounds deepest B gone rest (counted u a n z))
    → Way s bounds deepest B gone (more_on rest) u
unfolding leads_stop
more_at s bounds deepest B rest u again last = elim [ true ↦ λ e. again _ _ _ e | false ↦ λ e. last _ _ _ e ]

abbrev with_a : State → ℕ → Bool → Bool → State
with_a u a n z = record u { regs = record u.regs { a = a; n = n; z = z } }

sign_at : (s : RawSetting) (bounds : Bounds) (deepest : ℕ) (B : ℕ → State → Type 0) (rest : List Line) (u : State)
    → ((n z : Bool) → nat_eq (u.zp 3) 0 ≡ true → Way s bounds deepest B (23 ∷ gone) rest (with_a u (u.zp 3) n z))
    → ((n z : Bool) → nat_eq (u.zp 3) 0 ≡ false → Calls s bounds deepest takes routines.PushA (leads_stop s bounds deepest takes (λ u. ⊥) B gone (longer_on rest)) (with_a u 45 n z))
    → Way s bounds deepest B gone (sign_on rest) u
unfolding leads_stop
sign_at s bounds deepest B rest u none minus = elim [ true ↦ λ e. none _ _ e | false ↦ λ e. minus _ _ e ]

longer_at : (s : RawSetting) (bounds : Bounds) (deepest : ℕ) (B : ℕ → State → Type 0) (rest : List Line) (u : State) → ((n z : Bool) → Way s bounds deepest B (23 ∷ gone) rest (counted u u.regs.a n z)) → Way s bounds deepest B gone (longer_on rest) u
unfolding leads_stop
longer_at s bounds deepest B rest u follows = follows _ _

abbrev pointed : State → Bool → Bool → State
pointed u n z = record u { regs = record u.regs { a = u.zp 1; n = n; z = z }; zp = write (write u.zp 14 (u.zp 0)) 15 (u.zp 1) }

at_at : (s : RawSetting) (bounds : Bounds) (deepest : ℕ) (B : ℕ → State → Type 0) (rest : List Line) (u : State) → ((n z : Bool) → B 8 (pointed u n z)) → Way s bounds deepest B (23 ∷ gone) (at_on rest) u
unfolding leads_stop
at_at s bounds deepest B rest u follows = follows _ _

-- ---- bytes on the stack

-- These bytes stand from the sp on, below the sp of the state t.
record Stacked (t : State) (ds : List ℕ) (u : State) : Type 0 where
  pub sp : sp_of u + length ds ≡ sp_of t
  pub text : bytes_at (length ds) (sp_of u) u.mem ≡ ds
  pub mem : (b : ℕ) → (b + 11 < sp_of t) ⊎ (sp_of t ≤ b) → u.mem b ≡ t.mem b
  pub pushed : u.pushed ≡ t.pushed
  pub input : u.input ≡ t.input
  pub output : u.output ≡ t.output
  pub ended : u.ended ≡ None

apart : (t : State) (at b : ℕ) → sp_of t ≤ at + 11 → at < sp_of t → (b + 11 < sp_of t) ⊎ (sp_of t ≤ b) → b ≢ at
apart t at b near under (inl below) = omega arith
apart t at b near under (inr above) = omega arith

stacked_more : (t u w : State) (ds : List ℕ) → length ds + 1 ≤ 11 → 11 ≤ sp_of t → Stacked t ds u → Meets (pusha_row u) u w → Stacked t (u.regs.a ∷ ds) w
stacked_more t u w ds few fits k m =
    let sp_is = k.sp in
    let moved : sp_of w ≡ sp_of u - 1 = m.sp in
    let next : sp_of w + 1 ≡ sp_of u = omega arith in
    let memory : (b : ℕ) → w.mem b ≡ write u.mem (sp_of u - 1) u.regs.a b = λ b. m.mem b (above_or_below (sp_of u) b) in
    let head : w.mem (sp_of w) ≡ u.regs.a = memory (sp_of w) ∙ write_same u.mem (sp_of u - 1) u.regs.a (sp_of w) moved in
    let tail : bytes_at (length ds) (sp_of u) w.mem ≡ ds = same_bytes (length ds) (sp_of u) u.mem w.mem (λ j less. memory (sp_of u + j) ∙ write_other u.mem (sp_of u - 1) u.regs.a (sp_of u + j) (omega arith)) ∙ k.text in
    record {
      sp = omega arith;
      text = ap (λ (v : ℕ). v ∷ bytes_at (length ds) (sp_of w + 1) w.mem) head ∙ (ap (λ (at : ℕ). u.regs.a ∷ bytes_at (length ds) at w.mem) next ∙ ap (λ (vs : List ℕ). u.regs.a ∷ vs) tail);
      mem = λ b h. memory b ∙ (write_other u.mem (sp_of u - 1) u.regs.a b (apart t (sp_of u - 1) b (omega arith) (omega arith) h) ∙ k.mem b h);
      pushed = m.pushed ∙ k.pushed;
      input = m.input ∙ k.input;
      output = m.output ∙ (append-nil u.output ∙ k.output);
      ended = m.ended;
    }

-- ---- the digits

none_left : (a b c d : ℕ) → bit_or (bit_or (bit_or a b) c) d ≡ 0 → a + 256 * b + 65536 * (c + 256 * d) ≡ 0
none_left a b c d e =
    let l1 = le_or_l a b in
    let r1 = le_or_r a b in
    let l2 = le_or_l (bit_or a b) c in
    let r2 = le_or_r (bit_or a b) c in
    let l3 = le_or_l (bit_or (bit_or a b) c) d in
    let r3 = le_or_r (bit_or (bit_or a b) c) d in
    omega arith

some_left : (a b c d : ℕ) → bit_or (bit_or (bit_or a b) c) d ≢ 0 → a + 256 * b + 65536 * (c + 256 * d) ≢ 0
some_left a b c d some =
    let s1 = or_add_and a b in
    let s2 = or_add_and (bit_or a b) c in
    let s3 = or_add_and (bit_or (bit_or a b) c) d in
    λ e. absurd (some (let g : bit_or (bit_or (bit_or a b) c) d ≡ 0 = omega arith in g))

last_digit : (fuel base n : ℕ) (ds : List ℕ) → n / base ≡ 0 → digits_onto (suc fuel) base false n ds ≡ digit_glyph false (n % base) ∷ ds
last_digit fuel base n ds e = ap (λ (q : ℕ). if nat_eq q 0 then digit_glyph false (n % base) ∷ ds else digits_onto fuel base false (n / base) (digit_glyph false (n % base) ∷ ds)) e

more_digits : (fuel base n : ℕ) (ds : List ℕ) → nat_eq (n / base) 0 ≡ false → digits_onto (suc fuel) base false n ds ≡ digits_onto fuel base false (n / base) (digit_glyph false (n % base) ∷ ds)
more_digits fuel base n ds e = ap (λ (b : Bool). if b then digit_glyph false (n % base) ∷ ds else digits_onto fuel base false (n / base) (digit_glyph false (n % base) ∷ ds)) e

all_digits : (base n : ℕ) → digits_onto 64 base false n [] ≡ digits base false n
unfolding digits
all_digits base n = refl

abbrev IsBase : ℕ → Type 0
IsBase base = (base ≡ 10) ⊎ (base ≡ 16)

quotient_small : (base n p : ℕ) → IsBase base → n < 10 * p → n / base < p
quotient_small base n p (inl e) few = subst (λ (b : ℕ). n / b < p) (sym e) (let g : n / 10 < p = omega arith in g)
quotient_small base n p (inr e) few = subst (λ (b : ℕ). n / b < p) (sym e) (let g : n / 16 < p = omega arith in g)

base_range : (base : ℕ) → IsBase base → (10 ≤ base) × (base ≤ 16)
base_range base (inl e) = (omega arith, omega arith)
base_range base (inr e) = (omega arith, omega arith)

glyph_small : (base n : ℕ) → IsBase base → digit_glyph false (n % base) < 256
glyph_small base n is = by (n % base) (small is) (nat_lt (n % base) 10)
  where
    small : IsBase base → n % base < 16
    small (inl e) = subst (λ (b : ℕ). n % b < 16) (sym e) (let g : n % 10 < 16 = omega arith in g)
    small (inr e) = subst (λ (b : ℕ). n % b < 16) (sym e) (let g : n % 16 < 16 = omega arith in g)

    by : (d : ℕ) → d < 16 → (b : Bool) → (if b then 48 + d else 87 + d) < 256
    by d few true = omega arith
    by d few false = omega arith

-- ---- the loop

-- These digits are pushed, at most so many are left, and the number is the quotient of what it was.
record Making (t : State) (base : ℕ) (ds : List ℕ) (left fuel : ℕ) (u : State) : Type 0 where
  pub room : length ds + left ≡ 10
  pub enough : left ≤ fuel
  pub small : number_left u.zp < 10 ^ left
  pub digits : digits_onto fuel base false (number_left u.zp) ds ≡ digits base false (number_left t.zp)
  pub stacked : Stacked t ds u
  pub count : u.zp 17 ≡ length ds
  pub zp : (i : ℕ) → 2 ≤ i → i ≢ 4 → i ≢ 5 → i ≢ 6 → i ≢ 7 → i ≢ 17 → u.zp i ≡ t.zp i

-- with the weight that is left
abbrev Going : State → ℕ → ℕ → ℕ → State → Type 0
Going t base l n u = ((l ≡ 5) × (7300 ≤ n) × (u ≡ t)) ⊎ ((l ≡ 19) × (ds : List ℕ) × (left fuel : ℕ) × (200 + 700 * suc left ≤ n) × Making t base ds (suc left) fuel u)

abbrev Exit : State → ℕ → ℕ → State → Type 0
Exit t base j u = (j ≡ 8) × MakesNumber base t u

abbrev Inv : State → ℕ → ℕ → ℕ → State → Type 0
Inv t base l n u = IsBytes u × (u.frames ≡ t.frames) × Going t base l n u

abbrev Done : RawSetting → ℕ → ℕ → State → Place → State → Type 0
Done s f base t q u = (q ≡ label_in s f 8) × (u.frames ≡ t.frames) × MakesNumber base t u

either_way : (s : RawSetting) (f base less : ℕ) (t : State) (j : ℕ) (u : State) → IsBytes u → u.frames ≡ t.frames → Exit t base j u ⊎ Going t base j less u → Around s (Done s f base t) f (Inv t base) less (label_in s f j) u
either_way s f base less t j u bytes same (inl e) = inl (ap (label_in s f) e.0, same, e.1)
either_way s f base less t j u bytes same (inr g) = inr (j, refl, (bytes, same, g))

module _ (s : RawSetting) (bounds : Bounds) (f base : ℕ) (t : State) (stand : AllStand s f) (may : MayPush s bounds t) (is_base : IsBase base) where
  abbrev deepest : ℕ
  deepest = length t.pushed + 3

  reach : (k : ℕ) → 1 ≤ k → k ≤ 11 → (b : ℕ) → b + k ≡ sp_of t → IsReachable s.place bounds b
  reach k some few b e = let soft = may.soft in let high = may.high in inr (omega arith, omega arith)

  abbrev B : ℕ → ℕ → State → Type 0
  B less j u = Exit t base j u ⊎ Going t base j less u

  -- a byte is pushed
  push_go : (less : ℕ) (lines : List Line) (ds : List ℕ) (u : State) → length ds + 1 ≤ 11 → Stacked t ds u → ((w : State) → Stacked t (u.regs.a ∷ ds) w → ((i : ℕ) → 2 ≤ i → w.zp i ≡ u.zp i) → Way s bounds deepest (B less) gone lines w)
      → Calls s bounds deepest takes routines.PushA (leads_stop s bounds deepest takes (λ u. ⊥) (B less) gone lines) u
  push_go less lines ds u few k follows =
      let soft = may.soft in
      let top = may.high in
      let sp_is = k.sp in
      let pushed = ap (λ (ps : List ℕ). length ps) k.pushed in
      record {
        row = pusha_row u;
        comes = λ may_in from. push_byte_comes s stand.byte bounds from u may_in;
        goes_on = refl;
        ready = refl;
        near = All-cons (IsReachable s.place bounds) (sp_of u - 1) [] (reach (length ds + 1) (omega arith) few (sp_of u - 1) (omega arith)) (All-nil (IsReachable s.place bounds));
        far = All-nil (IsReachable s.place bounds);
        soft = omega arith;
        hard = omega arith;
        high = omega arith;
        data_low = may.data_low;
        follows = λ w m inner. follows w (stacked_more t u w ds few (omega arith) k m) (λ i two. kept_from (pusha_row u) u w 2 m refl i two);
      }

  -- the end
  at_go : (less : ℕ) (rest : List Line) (text : List ℕ) (u : State) → length text ≤ 11 → Stacked t text u → text ≡ numeral base (t.zp 3) (number_left t.zp) → u.zp 17 ≡ length text
      → ((i : ℕ) → 2 ≤ i → i ≢ 4 → i ≢ 5 → i ≢ 6 → i ≢ 7 → i ≢ 17 → u.zp i ≡ t.zp i) → Way s bounds deepest (B less) (23 ∷ gone) (at_on rest) u
  at_go less rest text u few k is count kept =
      let sp_is = k.sp in
      at_at s bounds deepest (B less) rest u (λ n z. inl (
        refl,
        record {
          text = ap (λ (c : ℕ). bytes_at c (sp_of u) u.mem) count ∙ (k.text ∙ is);
          length = count ∙ ap (λ (ns : List ℕ). length ns) is;
          few = omega arith;
          sp = omega arith;
          address = refl;
          zp = λ i two e4 e5 e6 e7 e14 e15 e17. write_other (write u.zp 14 (u.zp 0)) 15 (u.zp 1) i e15 ∙ (write_other u.zp 14 (u.zp 0) i e14 ∙ kept i two e4 e5 e6 e7 e17);
          mem = k.mem;
          pushed = k.pushed;
          input = k.input;
          output = k.output;
          ended = k.ended;
        },
      ))

  no_sign : (sign n : ℕ) → nat_eq sign 0 ≡ true → digits base false n ≡ numeral base sign n
  no_sign sign n e = sym (ap (λ (b : Bool). if b then digits base false n else 45 ∷ digits base false n) e)

  a_sign : (sign n : ℕ) → nat_eq sign 0 ≡ false → 45 ∷ digits base false n ≡ numeral base sign n
  a_sign sign n e = sym (ap (λ (b : Bool). if b then digits base false n else 45 ∷ digits base false n) e)

  -- the sign
  sign_go : (less : ℕ) (rest : List Line) (ds : List ℕ) (u : State) → length ds ≤ 10 → Stacked t ds u → ds ≡ digits base false (number_left t.zp) → u.zp 17 ≡ length ds
      → ((i : ℕ) → 2 ≤ i → i ≢ 4 → i ≢ 5 → i ≢ 6 → i ≢ 7 → i ≢ 17 → u.zp i ≡ t.zp i) → Way s bounds deepest (B less) gone (sign_on (at_on rest)) u
  sign_go less rest ds u few k is count kept =
      let same : u.zp 3 ≡ t.zp 3 = kept 3 (omega arith) (omega arith) (omega arith) (omega arith) (omega arith) (omega arith) in
      sign_at s bounds deepest (B less) (at_on rest) u
      (λ n z e. at_go less rest ds (with_a u (u.zp 3) n z) (omega arith) (record { sp = k.sp; text = k.text; mem = k.mem; pushed = k.pushed; input = k.input; output = k.output; ended = k.ended })
      (is ∙ no_sign (t.zp 3) (number_left t.zp) (ap (λ (v : ℕ). nat_eq v 0) (sym same) ∙ e)) count kept)
      (λ n z e. push_go less (longer_on (at_on rest)) ds (with_a u 45 n z) (omega arith) (record { sp = k.sp; text = k.text; mem = k.mem; pushed = k.pushed; input = k.input; output = k.output; ended = k.ended }) (λ w q same_zp.
      let w17 = same_zp 17 (omega arith) in
      longer_at s bounds deepest (B less) (at_on rest) w (λ m y.
      at_go less rest (45 ∷ ds) (counted w w.regs.a m y) (omega arith) (record { sp = q.sp; text = q.text; mem = q.mem; pushed = q.pushed; input = q.input; output = q.output; ended = q.ended })
      (ap (λ (vs : List ℕ). 45 ∷ vs) is ∙ a_sign (t.zp 3) (number_left t.zp) (ap (λ (v : ℕ). nat_eq v 0) (sym same) ∙ e)) (omega arith)
      (λ i two e4 e5 e6 e7 e17. write_other w.zp 17 _ i e17 ∙ (same_zp i two ∙ kept i two e4 e5 e6 e7 e17)))))

  -- from behind a digit's byte
  byte_go : (less : ℕ) (rest : List Line) (ds : List ℕ) (left fuel : ℕ) (u v : State) → Making t base ds (suc left) (suc fuel) u → TakesDigit base u v → 200 + 700 * left ≤ less → Way s bounds deepest (B less) gone (byte_on (more_on (sign_on (at_on rest)))) v
  byte_go less rest ds left fuel u v k d enough =
      let g : ℕ = digit_glyph false (number_left u.zp % base) in
      let small_glyph = glyph_small base (number_left u.zp) is_base in
      let digit = d.digit in
      let carry : bit v.regs.c ≡ 0 = ap bit d.carry in
      let byte : (v.regs.a + 48 + bit v.regs.c) % 256 ≡ g = omega arith in
      let room = k.room in
      let count = k.count in
      let same_sp : sp_of v ≡ sp_of u = (let d0 = d.zp 0 (inl (omega arith)) in let d1 = d.zp 1 (inl (omega arith)) in omega arith) in
      let sp_is = k.stacked.sp in
      let small : number_left u.zp / base < 10 ^ left = quotient_small base (number_left u.zp) (10 ^ left) is_base (subst (λ (p : ℕ). number_left u.zp < p) (pow-succ' 10 left) k.small) in
      let kept : (i : ℕ) → 2 ≤ i → i ≢ 4 → i ≢ 5 → i ≢ 6 → i ≢ 7 → i ≢ 17 → v.zp i ≡ t.zp i = λ i two e4 e5 e6 e7 e17. d.zp i (outside i e4 e5 e6 e7) ∙ k.zp i two e4 e5 e6 e7 e17 in
      let v17 = d.zp 17 (inr (omega arith)) in
      byte_at s bounds deepest (B less) (more_on (sign_on (at_on rest))) v (λ n w z c.
      push_go less (more_on (sign_on (at_on rest))) ds (added v n w z c) (omega arith)
      (record {
        sp = omega arith;
        text = ap (λ (at : ℕ). bytes_at (length ds) at v.mem) same_sp ∙ (same_bytes (length ds) (sp_of u) u.mem v.mem (λ j few. d.mem (sp_of u + j)) ∙ k.stacked.text);
        mem = λ b h. d.mem b ∙ k.stacked.mem b h;
        pushed = d.pushed ∙ k.stacked.pushed;
        input = d.input ∙ k.stacked.input;
        output = d.output ∙ k.stacked.output;
        ended = d.ended;
      })
      (λ x q same_zp.
      let stacked : Stacked t (g ∷ ds) x = subst (λ (b : ℕ). Stacked t (b ∷ ds) x) byte q in
      let x4 = same_zp 4 (omega arith) in
      let x5 = same_zp 5 (omega arith) in
      let x6 = same_zp 6 (omega arith) in
      let x7 = same_zp 7 (omega arith) in
      let x17 = same_zp 17 (omega arith) in
      let quotient = d.quotient in
      let number : number_left x.zp ≡ number_left u.zp / base = omega arith in
      let kept_x : (i : ℕ) → 2 ≤ i → i ≢ 4 → i ≢ 5 → i ≢ 6 → i ≢ 7 → i ≢ 17 → write x.zp 17 ((x.zp 17 + 1) % 256) i ≡ t.zp i = λ i two e4 e5 e6 e7 e17. write_other x.zp 17 _ i e17 ∙ (same_zp i two ∙ kept i two e4 e5 e6 e7 e17) in
      more_at s bounds deepest (B less) (sign_on (at_on rest)) x
      (λ a m y e. again x a m y stacked (some_left (x.zp 4) (x.zp 5) (x.zp 6) (x.zp 7) (eq_false _ _ (not_true _ e))) number (x17 ∙ v17) kept_x left refl)
      (λ a m y e. let none = none_left (x.zp 4) (x.zp 5) (x.zp 6) (x.zp 7) (eq_true _ _ (not_false _ e)) in
      sign_go less rest (g ∷ ds) (counted x a m y) (omega arith) (record { sp = stacked.sp; text = stacked.text; mem = stacked.mem; pushed = stacked.pushed; input = stacked.input; output = stacked.output; ended = stacked.ended })
      (sym (last_digit fuel base (number_left u.zp) ds (omega arith)) ∙ k.digits) (omega arith) kept_x)))
    where
      outside : (i : ℕ) → i ≢ 4 → i ≢ 5 → i ≢ 6 → i ≢ 7 → (i + 1 ≤ 4) ⊎ (8 ≤ i)
      outside zero e4 e5 e6 e7 = inl (omega arith)
      outside (suc zero) e4 e5 e6 e7 = inl (omega arith)
      outside (suc (suc zero)) e4 e5 e6 e7 = inl (omega arith)
      outside (suc (suc (suc zero))) e4 e5 e6 e7 = inl (omega arith)
      outside (suc (suc (suc (suc i)))) e4 e5 e6 e7 = inr (omega arith)

      again : (x : State) (a : ℕ) (m y : Bool) → Stacked t (digit_glyph false (number_left u.zp % base) ∷ ds) x → number_left x.zp ≢ 0 → number_left x.zp ≡ number_left u.zp / base → x.zp 17 ≡ u.zp 17
          → ((i : ℕ) → 2 ≤ i → i ≢ 4 → i ≢ 5 → i ≢ 6 → i ≢ 7 → i ≢ 17 → write x.zp 17 ((x.zp 17 + 1) % 256) i ≡ t.zp i) → (l : ℕ) → left ≡ l → B less 19 (counted x a m y)
      again x a m y stacked some number x17 kept_x zero e =
          let small : number_left u.zp / base < 10 ^ left = quotient_small base (number_left u.zp) (10 ^ left) is_base (subst (λ (p : ℕ). number_left u.zp < p) (pow-succ' 10 left) k.small) in
          let none : number_left u.zp / base < 1 = subst (λ (j : ℕ). number_left u.zp / base < 10 ^ j) e small in
          absurd (some (let h : number_left x.zp ≡ 0 = omega arith in h))
      again x a m y stacked some number x17 kept_x (suc l) e =
          let small : number_left u.zp / base < 10 ^ left = quotient_small base (number_left u.zp) (10 ^ left) is_base (subst (λ (p : ℕ). number_left u.zp < p) (pow-succ' 10 left) k.small) in
          let room = k.room in
          let fuel_is = k.enough in
          let count = k.count in
          inr (inr (
            refl,
            digit_glyph false (number_left u.zp % base) ∷ ds,
            l,
            fuel,
            omega arith,
            record {
              room = (let h : suc (length ds) + suc l ≡ 10 = omega arith in h);
              enough = omega arith;
              small = subst (λ (n : ℕ). n < 10 ^ suc l) (sym number) (subst (λ (j : ℕ). number_left u.zp / base < 10 ^ j) e small);
              digits = ap (λ (n : ℕ). digits_onto fuel base false n (digit_glyph false (number_left u.zp % base) ∷ ds)) number
                  ∙ (sym (more_digits fuel base (number_left u.zp) ds (not_equal (number_left u.zp / base) 0 (λ h. some (number ∙ h)))) ∙ k.digits);
              stacked = record { sp = stacked.sp; text = stacked.text; mem = stacked.mem; pushed = stacked.pushed; input = stacked.input; output = stacked.output; ended = stacked.ended };
              count = (let h : (x.zp 17 + 1) % 256 ≡ suc (length ds) = omega arith in h);
              zp = kept_x;
            },
          ))

  module _ (frame : Frame) (frames : List Frame) (frames_are : t.frames ≡ frame ∷ frames) (divisor : t.zp 19 ≡ base) where
    free : bounds.hard + deepest ≤ 253 - sum_by (λ (f : Frame). 2 + length f.pushed) t.frames
    free = let hard = may.hard in omega arith

    abbrev R : ℕ → Place → State → Type 0
    R less q u = Around s (Done s f base t) f (Inv t base) less q u

    -- the first digit is to come
    first : (n : ℕ) → 7300 ≤ n → Turns s bounds (Done s f base t) f (Inv t base) 5 n t
    first n enough =
        let b4 = may.bytes.zp 4 in
        let b5 = may.bytes.zp 5 in
        let b6 = may.bytes.zp 6 in
        let b7 = may.bytes.zp 7 in
        let hard = may.hard in
        let small : number_left t.zp < 10000000000 = omega arith in
        let none : sp_of t + 0 ≡ sp_of t = omega arith in
        let begins : Begins s bounds f 0 t frame frames = record { has = stand.stand.printf; frames_are = frames_are; bytes = may.bytes; running = may.running; free = omega arith } in
        record {
          less = 7200;
          spent = 20;
          fewer = omega arith;
          weighs = omega arith;
          comes = piece_leads s bounds f 0 no_calls t frame frames begins (R 7200) 153 5 20 (19 ∷ []) refl (B 7200) (λ j u bytes same h. either_way s f base 7200 t j u bytes same h) (omega arith)
              (start_at s bounds (B 7200) (behind 156 printf_lines) t (λ n z. inr (inr (
                refl,
                [],
                9,
                64,
                omega arith,
                record {
                  room = refl;
                  enough = omega arith;
                  small = small;
                  digits = all_digits base (number_left t.zp);
                  stacked = record { sp = none; text = refl; mem = λ b h. refl; pushed = refl; input = refl; output = refl; ended = may.running };
                  count = refl;
                  zp = λ i two e4 e5 e6 e7 e17. write_other t.zp 17 0 i e17;
                },
              ))));
        }

    -- a digit
    round : (n : ℕ) (ds : List ℕ) (left fuel : ℕ) (u : State) → IsBytes u → u.frames ≡ t.frames → 200 + 700 * suc left ≤ n → Making t base ds (suc left) fuel u → Turns s bounds (Done s f base t) f (Inv t base) 19 n u
    round n ds left zero u bytes same enough k = let some = k.enough in absurd (omega arith)
    round n ds left (suc fuel) u bytes same enough k =
        let less : ℕ = 200 + 700 * left in
        let hard = may.hard in
        let range = base_range base is_base in
        let low = range.0 in
        let pushed = ap (λ (ps : List ℕ). length ps) k.stacked.pushed in
        let calls = ap (λ (fs : List Frame). sum_by (λ (f : Frame). 2 + length f.pushed) fs) same in
        let own : u.zp 19 ≡ base = k.zp 19 (omega arith) (omega arith) (omega arith) (omega arith) (omega arith) (omega arith) ∙ divisor in
        let Digit : Place → State → Type 0 = λ q v. (q ≡ label_in s f 22) × TakesDigit base u v in
        record {
          less = less;
          spent = 600 + 100;
          fewer = omega arith;
          weighs = omega arith;
          comes = bind s bounds (λ q v. Digit q v × IsBytes v) (R less) 600 100 (label_in s f 19) u
              (with_bytes s bounds Digit 600 (label_in s f 19) u bytes (digits_are_taken s bounds f base u frame frames stand.stand.printf bytes k.stacked.ended (same ∙ frames_are) (omega arith) own (omega arith) range.1))
              (λ q v h. let d : TakesDigit base u v = h.0.1 in
              let as_before : v.frames ≡ t.frames = d.frames ∙ same in
              let begins : Begins s bounds f deepest v frame frames = record { has = stand.stand.printf; frames_are = as_before ∙ frames_are; bytes = h.1; running = d.ended; free = subst (λ (fs : List Frame). bounds.hard + deepest ≤ 253 - sum_by (λ (f : Frame). 2 + length f.pushed) fs) (sym as_before) free } in
              subst (λ (q : Place). RawComes s bounds (R less) 100 q v) (sym h.0.0)
              (piece_leads s bounds f deepest takes v frame frames begins (R less) 175 22 100 (8 ∷ []) refl (B less) (λ j w bytes_w same_w e. either_way s f base less t j w bytes_w (same_w ∙ as_before) e) (omega arith)
              (byte_go less (behind 194 printf_lines) ds left fuel u v k d (omega arith))));
        }

    turn_by : (l n : ℕ) (u : State) → IsBytes u → u.frames ≡ t.frames → Going t base l n u → Turns s bounds (Done s f base t) f (Inv t base) l n u
    turn_by l n u bytes same (inl g) = subst (λ (l : ℕ). Turns s bounds (Done s f base t) f (Inv t base) l n u) (sym g.0) (subst (λ (u : State). Turns s bounds (Done s f base t) f (Inv t base) 5 n u) (sym g.2) (first n g.1))
    turn_by l n u bytes same (inr g) = subst (λ (l : ℕ). Turns s bounds (Done s f base t) f (Inv t base) l n u) (sym g.0) (round n g.1 g.2 g.3 u bytes same g.4 g.5)

    made : RawComes s bounds (Done s f base t) 7500 (label_in s f 5) t
    made = rounds_end s bounds (Done s f base t) f (Inv t base) (λ l n u inv. turn_by l n u inv.0 inv.1 inv.2) 7500 5 7500 t (omega arith) (may.bytes, refl, inl (refl, omega arith, refl))

pub numbers_are_made : NumbersAreMade
numbers_are_made s bounds f base t frame frames stand frames_are may divisor is_base = made s bounds f base t stand may is_base frame frames frames_are divisor
