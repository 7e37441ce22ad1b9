-- The operators on the primary register alone, on words and on numbers of 32 bits.
use Rattle.std.proofs.Common.{◌≡◌, ℕ, ◌+◌, ◌-◌, ◌*◌, ◌/◌, ◌%◌, ◌<◌, Bool, IsTrue, List, [], ◌∷◌, None, nat_eq, refl, sym, subst, ◌∙◌, arith}
use Rattle.std.specs.Prelude.{nat_lt, bit_or, bit_xor}
use Rattle.std.proofs.lemmas.Nat.{le_or_l, le_or_r}
use Rattle.std.specs.Int.Bits.{or_add_and}
use Rattle.c65_mach.specs.Step.{bit}
use Rattle.c65_mach.specs.declared.rows.Op.TheVariants.{Adc, Asl, Clc, Cmp, Cpx, Cpy, Eor, Lda, Ldx, Ldy, Lsr, Ora, Rol, Ror, Rts, Sta, Stx, Tax, Tay, Txa, Tya}
use Rattle.c65_code.specs.declared.routine.Routine.TheVariants as routines
use Rattle.c65_code.specs.declared.routine.UnaryRoutine.{UnaryRoutine}
use Rattle.c65_code.specs.declared.routine.UnaryRoutine.TheVariants.{Neg, Compl, Shl1, Shr1, Asr1, BNeg}
use Rattle.c65_code.specs.declared.routine.Width.{Width}
use Rattle.c65_code.specs.declared.routine.Width.TheVariants.{Ax, Eax}
use Rattle.c65_code.specs.declared.line.Line.{Line}
use Rattle.c65_code.specs.LineState.{Place, write, State, ax_of, eax_of, IsBytes}
use Rattle.c65_code.specs.Placement.{Placement}
use Rattle.c65_code.specs.Numbers.{shifted_right, unary_result, unary_width}
use Rattle.c65_code.specs.Rows.{Row, row_by, giving, costing, unary_row, primary_of, written}
use Rattle.c65_code.specs.RawMachine.{RawSetting, Bounds, called, MeetsRow, reach_of}
use Rattle.c65_rtl.specs.Assembly.{sreg, tmp1, implied, on_a, value, zero_page}
use Rattle.c65_rtl.specs.Routines.{lines_of}
use Rattle.c65_rtl.specs.Short.{IsShort}
use Rattle.c65_rtl.proofs.Ways.{leads, Ends, runs}
use Rattle.c65_rtl.proofs.ShortLaws.{short_lines}
use Rattle.c65_rtl.proofs.SpPieces.{left, xor_ones}
use Rattle.c65_rtl.proofs.Pushes.{meets_by}
use Rattle.c65_rtl.proofs.UnaryWords.{bit_carry, bit_sign, bit_top, bit_odd, word_bytes_of, long_bytes_of, shifted_word, shifted_long, IsZeroTest, zero_test}
use Rattle.c65_rtl.proofs.UnaryLongs.{negeax_lines, negeax_at, negated_bytes}
use Rattle.c65_rtl.proofs.Plain.{is_plain, ends_plain}
use Rattle.c65_rtl.proofs.OnTos.{IsResult}

-- the lines lead to the operator's result, and write of the zero page what they may
abbrev UnaryLeads : UnaryRoutine → Width → List Line → Type 1
UnaryLeads op width lines = (place : Placement) (bounds : Bounds) (P : State → Type 0) (back : Place) (t : State) → IsBytes t
    → ((a x y : ℕ) (n v z c : Bool) (ws : List (ℕ × ℕ)) → IsTrue (is_plain (row_by (routines.Unary op width) t) ws) → written t.zp ws 0 ≡ t.zp 0 → written t.zp ws 1 ≡ t.zp 1 → IsResult (unary_width op width) (unary_result op width (primary_of width t)) a x (written t.zp ws) → P (left (called back t) a x y n v z c (written t.zp ws) t.mem))
    → leads place bounds P lines None (called back t)

abbrev row_giving : UnaryRoutine → Width → Width → ℕ → State → Row
row_giving op width gives v t = giving gives v (costing 256 (row_by (routines.Unary op width) t))

unary_ends : (op : UnaryRoutine) (width gives : Width) (r : ℕ) (back : Place) (t : State) → t.ended ≡ None → (a x y : ℕ) (n v z c : Bool) (ws : List (ℕ × ℕ)) → IsTrue (is_plain (row_by (routines.Unary op width) t) ws) → written t.zp ws 0 ≡ t.zp 0 → written t.zp ws 1 ≡ t.zp 1
    → IsResult gives r a x (written t.zp ws) → Ends (row_giving op width gives r t) t (left (called back t) a x y n v z c (written t.zp ws) t.mem)
unary_ends op width Ax r back t running a x y n v z c ws allowed z0 z1 h =
    ends_plain (row_giving op width Ax r t) back t a x y n v z c (written t.zp ws) t.mem ws allowed running (tt, tt, sym z0, sym z1) (λ i two. refl) (omega arith) (h.a, h.x, tt) (λ b m. refl)
unary_ends op width Eax r back t running a x y n v z c ws allowed z0 z1 h =
    ends_plain (row_giving op width Eax r t) back t a x y n v z c (written t.zp ws) t.mem ws allowed running (tt, tt, sym z0, sym z1) (λ i two. refl) (omega arith) (h.a, h.x, h.sreg) (λ b m. refl)

unary_cost : (op : UnaryRoutine) (width gives : Width) (r : ℕ) (t : State) → (256 ≡ (row_giving op width gives r t).cost) × ((row_giving op width gives r t).ends ≡ None)
unary_cost op width Ax r t = (refl, refl)
unary_cost op width Eax r t = (refl, refl)

unary_meets : (s : RawSetting) (op : UnaryRoutine) (width : Width) (lines : List Line) → lines ≡ lines_of (routines.Unary op width) → UnaryLeads op width lines → s.lines (s.routine (routines.Unary op width)) ≡ lines_of (routines.Unary op width) → MeetsRow s (routines.Unary op width)
unary_meets s op width lines is goes has = meets_by s (routines.Unary op width) (λ t. unary_row op width t) (λ t. refl) (λ back t may.
    let known = unary_cost op width (unary_width op width) (unary_result op width (primary_of width t)) t in
    runs s (routines.Unary op width) (unary_row op width t) back t lines (has ∙ sym is) (subst (λ (c : ℕ). IsShort c lines) known.0 (short_lines (routines.Unary op width) lines refl is)) known.1 may
    (goes s.place (reach_of t) (Ends (unary_row op width t) t) back t may.bytes (unary_ends op width (unary_width op width) (unary_result op width (primary_of width t)) back t may.running)))

abbrev negax_lines : List Line
negax_lines = implied Clc ∷ value Eor 0xFF ∷ value Adc 1 ∷ implied Tay ∷ implied Txa ∷ value Eor 0xFF ∷ value Adc 0 ∷ implied Tax ∷ implied Tya ∷ implied Rts ∷ []

negax_at : (place : Placement) (bounds : Bounds) (P : State → Type 0) (u : State)
    → ((a x y : ℕ) (n v z c : Bool) → a ≡ (bit_xor u.regs.a 255 + 1 + 0) % 256 → x ≡ (bit_xor u.regs.x 255 + 0 + bit (nat_lt 255 (bit_xor u.regs.a 255 + 1 + 0))) % 256 → P (left u a x y n v z c u.zp u.mem))
    → leads place bounds P negax_lines None (record u { pushed = [] })
unfolding leads
negax_at place bounds P u follows = follows _ _ _ _ _ _ _ refl refl

negax_leads : UnaryLeads Neg Ax negax_lines
negax_leads place bounds P back t all ends =
    let byte_a = all.a in
    let byte_x = all.x in
    negax_at place bounds P (called back t) (λ a x y n v z c is_a is_x.
    let ones_a = xor_ones t.regs.a byte_a in
    let ones_x = xor_ones t.regs.x byte_x in
    let carry : bit (nat_lt 255 (bit_xor t.regs.a 255 + 1 + 0)) ≡ (bit_xor t.regs.a 255 + 1 + 0) / 256 = bit_carry (bit_xor t.regs.a 255 + 1 + 0) (omega arith) in
    let low : a < 256 = omega arith in
    let high : x < 256 = omega arith in
    let sum : a + 256 * x ≡ (65536 - ax_of t) % 65536 = omega arith in
    ends a x y n v z c [] refl refl refl (word_bytes_of _ a x low high sum))

abbrev complax_lines : List Line
complax_lines = value Eor 0xFF ∷ implied Tay ∷ implied Txa ∷ value Eor 0xFF ∷ implied Tax ∷ implied Tya ∷ implied Rts ∷ []

complax_at : (place : Placement) (bounds : Bounds) (P : State → Type 0) (u : State)
    → ((a x y : ℕ) (n v z c : Bool) → a ≡ bit_xor u.regs.a 255 → x ≡ bit_xor u.regs.x 255 → P (left u a x y n v z c u.zp u.mem))
    → leads place bounds P complax_lines None (record u { pushed = [] })
unfolding leads
complax_at place bounds P u follows = follows _ _ _ _ _ _ _ refl refl

complax_leads : UnaryLeads Compl Ax complax_lines
complax_leads place bounds P back t all ends =
    let byte_a = all.a in
    let byte_x = all.x in
    complax_at place bounds P (called back t) (λ a x y n v z c is_a is_x.
    let ones_a = xor_ones t.regs.a byte_a in
    let ones_x = xor_ones t.regs.x byte_x in
    let low : a < 256 = omega arith in
    let high : x < 256 = omega arith in
    let sum : a + 256 * x ≡ 65536 - 1 - ax_of t = omega arith in
    ends a x y n v z c [] refl refl refl (word_bytes_of _ a x low high sum))

abbrev shlax1_lines : List Line
shlax1_lines = zero_page Stx tmp1 ∷ on_a Asl ∷ zero_page Rol tmp1 ∷ zero_page Ldx tmp1 ∷ implied Rts ∷ []

shlax1_at : (place : Placement) (bounds : Bounds) (P : State → Type 0) (u : State)
    → ((a x y : ℕ) (n v z c : Bool) → a ≡ (2 * u.regs.a) % 256 → x ≡ (2 * u.regs.x) % 256 + bit (nat_lt 127 u.regs.a) → P (left u a x y n v z c (write (write u.zp 16 u.regs.x) 16 ((2 * u.regs.x) % 256 + bit (nat_lt 127 u.regs.a))) u.mem))
    → leads place bounds P shlax1_lines None (record u { pushed = [] })
unfolding leads
shlax1_at place bounds P u follows = follows _ _ _ _ _ _ _ refl refl

shlax1_leads : UnaryLeads Shl1 Ax shlax1_lines
shlax1_leads place bounds P back t all ends =
    let byte_a = all.a in
    let byte_x = all.x in
    shlax1_at place bounds P (called back t) (λ a x y n v z c is_a is_x.
    let carry : bit (nat_lt 127 t.regs.a) ≡ t.regs.a / 128 = bit_sign t.regs.a byte_a in
    let low : a < 256 = omega arith in
    let high : x < 256 = omega arith in
    let sum : a + 256 * x ≡ (2 * ax_of t) % 65536 = omega arith in
    ends a x y n v z c ((16, t.regs.x) ∷ (16, (2 * t.regs.x) % 256 + bit (nat_lt 127 t.regs.a)) ∷ []) refl refl refl (word_bytes_of _ a x low high sum))

abbrev shrax1_lines : List Line
shrax1_lines = zero_page Stx tmp1 ∷ zero_page Lsr tmp1 ∷ on_a Ror ∷ zero_page Ldx tmp1 ∷ implied Rts ∷ []

shrax1_at : (place : Placement) (bounds : Bounds) (P : State → Type 0) (u : State)
    → ((a x y : ℕ) (n v z c : Bool) → a ≡ u.regs.a / 2 + 128 * bit (nat_eq (u.regs.x % 2) 1) → x ≡ u.regs.x / 2 → P (left u a x y n v z c (write (write u.zp 16 u.regs.x) 16 (u.regs.x / 2)) u.mem))
    → leads place bounds P shrax1_lines None (record u { pushed = [] })
unfolding leads
shrax1_at place bounds P u follows = follows _ _ _ _ _ _ _ refl refl

shrax1_leads : UnaryLeads Shr1 Ax shrax1_lines
shrax1_leads place bounds P back t all ends =
    let byte_a = all.a in
    let byte_x = all.x in
    shrax1_at place bounds P (called back t) (λ a x y n v z c is_a is_x.
    let carry : bit (nat_eq (t.regs.x % 2) 1) ≡ t.regs.x % 2 = bit_odd t.regs.x in
    let low : a < 256 = omega arith in
    let high : x < 256 = omega arith in
    let sum : a + 256 * x ≡ ax_of t / 2 = omega arith in
    ends a x y n v z c ((16, t.regs.x) ∷ (16, t.regs.x / 2) ∷ []) refl refl refl (word_bytes_of _ a x low high sum))

abbrev asrax1_lines : List Line
asrax1_lines = zero_page Stx tmp1 ∷ value Cpx 0x80 ∷ zero_page Ror tmp1 ∷ on_a Ror ∷ zero_page Ldx tmp1 ∷ implied Rts ∷ []

asrax1_at : (place : Placement) (bounds : Bounds) (P : State → Type 0) (u : State)
    → ((a x y : ℕ) (n v z c : Bool) → a ≡ u.regs.a / 2 + 128 * bit (nat_eq (u.regs.x % 2) 1) → x ≡ u.regs.x / 2 + 128 * bit (nat_lt 128 (u.regs.x + 1)) → P (left u a x y n v z c (write (write u.zp 16 u.regs.x) 16 (u.regs.x / 2 + 128 * bit (nat_lt 128 (u.regs.x + 1)))) u.mem))
    → leads place bounds P asrax1_lines None (record u { pushed = [] })
unfolding leads
asrax1_at place bounds P u follows = follows _ _ _ _ _ _ _ refl refl

asrax1_leads : UnaryLeads Asr1 Ax asrax1_lines
asrax1_leads place bounds P back t all ends =
    let byte_a = all.a in
    let byte_x = all.x in
    asrax1_at place bounds P (called back t) (λ a x y n v z c is_a is_x.
    let carry : bit (nat_eq (t.regs.x % 2) 1) ≡ t.regs.x % 2 = bit_odd t.regs.x in
    let top : bit (nat_lt 128 (t.regs.x + 1)) ≡ t.regs.x / 128 = bit_top t.regs.x byte_x in
    let low : a < 256 = omega arith in
    let high : x < 256 = omega arith in
    let small : ax_of t < 65536 = omega arith in
    let sum : a + 256 * x ≡ ax_of t / 2 + 32768 * (ax_of t / 32768) = omega arith in
    let whole : a + 256 * x ≡ shifted_right Ax (ax_of t) 1 = sum ∙ sym (shifted_word (ax_of t) small) in
    ends a x y n v z c ((16, t.regs.x) ∷ (16, t.regs.x / 2 + 128 * bit (nat_lt 128 (t.regs.x + 1))) ∷ []) refl refl refl (word_bytes_of _ a x low high whole))

abbrev bnegax_lines : List Line
bnegax_lines = zero_page Stx tmp1 ∷ zero_page Ora tmp1 ∷ value Cmp 1 ∷ value Lda 0 ∷ on_a Rol ∷ value Eor 1 ∷ value Ldx 0 ∷ implied Rts ∷ []

bnegax_at : (place : Placement) (bounds : Bounds) (P : State → Type 0) (u : State)
    → ((a x y : ℕ) (n v z c : Bool) → a ≡ bit_xor (0 + bit (nat_lt 1 (bit_or u.regs.a u.regs.x + 1))) 1 → x ≡ 0 → P (left u a x y n v z c (write u.zp 16 u.regs.x) u.mem))
    → leads place bounds P bnegax_lines None (record u { pushed = [] })
unfolding leads
bnegax_at place bounds P u follows = follows _ _ _ _ _ _ _ refl refl

bnegax_leads : UnaryLeads BNeg Ax bnegax_lines
bnegax_leads place bounds P back t all ends =
    let byte_a = all.a in
    let byte_x = all.x in
    bnegax_at place bounds P (called back t) (λ a x y n v z c is_a is_x.
    let or_a = le_or_l t.regs.a t.regs.x in
    let or_x = le_or_r t.regs.a t.regs.x in
    let both = or_add_and t.regs.a t.regs.x in
    let test : IsZeroTest (bit_or t.regs.a t.regs.x) (ax_of t) = zero_test (bit_or t.regs.a t.regs.x) (ax_of t) (λ e. omega arith) (λ e. omega arith) in
    ends a x y n v z c ((16, t.regs.x) ∷ []) refl refl refl (record { a = is_a ∙ test.a; x = is_x ∙ test.x }))

negeax_leads : UnaryLeads Neg Eax negeax_lines
negeax_leads place bounds P back t all ends =
    negeax_at place bounds P (called back t) (λ a x l h y n v z c is_a is_x is_l is_h.
    ends a x y n v z c ((2, l) ∷ (3, h) ∷ []) refl refl refl (negated_bytes t all a x l h is_a is_x is_l is_h))

abbrev compleax_lines : List Line
compleax_lines = value Eor 0xFF ∷ implied Tay ∷ implied Txa ∷ value Eor 0xFF ∷ implied Tax ∷ zero_page Lda sreg ∷ value Eor 0xFF ∷ zero_page Sta sreg ∷ zero_page Lda (sreg + 1) ∷ value Eor 0xFF ∷ zero_page Sta (sreg + 1) ∷ implied Tya ∷ implied Rts ∷ []

compleax_at : (place : Placement) (bounds : Bounds) (P : State → Type 0) (u : State)
    → ((a x l h y : ℕ) (n v z c : Bool) → a ≡ bit_xor u.regs.a 255 → x ≡ bit_xor u.regs.x 255 → l ≡ bit_xor (u.zp 2) 255 → h ≡ bit_xor (u.zp 3) 255 → P (left u a x y n v z c (write (write u.zp 2 l) 3 h) u.mem))
    → leads place bounds P compleax_lines None (record u { pushed = [] })
unfolding leads
compleax_at place bounds P u follows = follows _ _ _ _ _ _ _ _ _ refl refl refl refl

compleax_leads : UnaryLeads Compl Eax compleax_lines
compleax_leads place bounds P back t all ends =
    let byte_a = all.a in
    let byte_x = all.x in
    let byte_l = all.zp 2 in
    let byte_h = all.zp 3 in
    compleax_at place bounds P (called back t) (λ a x l h y n v z c is_a is_x is_l is_h.
    let ones_a = xor_ones t.regs.a byte_a in
    let ones_x = xor_ones t.regs.x byte_x in
    let ones_l = xor_ones (t.zp 2) byte_l in
    let ones_h = xor_ones (t.zp 3) byte_h in
    let low : a < 256 = omega arith in
    let high : x < 256 = omega arith in
    let whole : a + 256 * x + 65536 * (l + 256 * h) ≡ 4294967296 - 1 - eax_of t = omega arith in
    ends a x y n v z c ((2, l) ∷ (3, h) ∷ []) refl refl refl (long_bytes_of _ a x l h low high whole))

abbrev shleax1_lines : List Line
shleax1_lines = zero_page Stx tmp1 ∷ on_a Asl ∷ zero_page Rol tmp1 ∷ zero_page Rol sreg ∷ zero_page Rol (sreg + 1) ∷ zero_page Ldx tmp1 ∷ implied Rts ∷ []

shleax1_at : (place : Placement) (bounds : Bounds) (P : State → Type 0) (u : State)
    → ((a x l h y : ℕ) (n v z c : Bool) → a ≡ (2 * u.regs.a) % 256 → x ≡ (2 * u.regs.x) % 256 + bit (nat_lt 127 u.regs.a) → l ≡ (2 * u.zp 2) % 256 + bit (nat_lt 127 u.regs.x) → h ≡ (2 * u.zp 3) % 256 + bit (nat_lt 127 (u.zp 2)) → P (left u a x y n v z c (write (write (write (write u.zp 16 u.regs.x) 16 x) 2 l) 3 h) u.mem))
    → leads place bounds P shleax1_lines None (record u { pushed = [] })
unfolding leads
shleax1_at place bounds P u follows = follows _ _ _ _ _ _ _ _ _ refl refl refl refl

shleax1_leads : UnaryLeads Shl1 Eax shleax1_lines
shleax1_leads place bounds P back t all ends =
    let byte_a = all.a in
    let byte_x = all.x in
    let byte_l = all.zp 2 in
    let byte_h = all.zp 3 in
    shleax1_at place bounds P (called back t) (λ a x l h y n v z c is_a is_x is_l is_h.
    let c0 : bit (nat_lt 127 t.regs.a) ≡ t.regs.a / 128 = bit_sign t.regs.a byte_a in
    let c1 : bit (nat_lt 127 t.regs.x) ≡ t.regs.x / 128 = bit_sign t.regs.x byte_x in
    let c2 : bit (nat_lt 127 (t.zp 2)) ≡ t.zp 2 / 128 = bit_sign (t.zp 2) byte_l in
    let low : a < 256 = omega arith in
    let high : x < 256 = omega arith in
    let whole : a + 256 * x + 65536 * (l + 256 * h) ≡ (2 * eax_of t) % 4294967296 = omega arith in
    ends a x y n v z c ((16, t.regs.x) ∷ (16, x) ∷ (2, l) ∷ (3, h) ∷ []) refl refl refl (long_bytes_of _ a x l h low high whole))

abbrev shreax1_lines : List Line
shreax1_lines = zero_page Stx tmp1 ∷ zero_page Lsr (sreg + 1) ∷ zero_page Ror sreg ∷ zero_page Ror tmp1 ∷ on_a Ror ∷ zero_page Ldx tmp1 ∷ implied Rts ∷ []

shreax1_at : (place : Placement) (bounds : Bounds) (P : State → Type 0) (u : State)
    → ((a x l h y : ℕ) (n v z c : Bool) → a ≡ u.regs.a / 2 + 128 * bit (nat_eq (u.regs.x % 2) 1) → x ≡ u.regs.x / 2 + 128 * bit (nat_eq (u.zp 2 % 2) 1) → l ≡ u.zp 2 / 2 + 128 * bit (nat_eq (u.zp 3 % 2) 1) → h ≡ u.zp 3 / 2 → P (left u a x y n v z c (write (write (write (write u.zp 16 u.regs.x) 3 h) 2 l) 16 x) u.mem))
    → leads place bounds P shreax1_lines None (record u { pushed = [] })
unfolding leads
shreax1_at place bounds P u follows = follows _ _ _ _ _ _ _ _ _ refl refl refl refl

shreax1_leads : UnaryLeads Shr1 Eax shreax1_lines
shreax1_leads place bounds P back t all ends =
    let byte_a = all.a in
    let byte_x = all.x in
    let byte_l = all.zp 2 in
    let byte_h = all.zp 3 in
    shreax1_at place bounds P (called back t) (λ a x l h y n v z c is_a is_x is_l is_h.
    let c1 : bit (nat_eq (t.zp 3 % 2) 1) ≡ t.zp 3 % 2 = bit_odd (t.zp 3) in
    let c2 : bit (nat_eq (t.zp 2 % 2) 1) ≡ t.zp 2 % 2 = bit_odd (t.zp 2) in
    let c3 : bit (nat_eq (t.regs.x % 2) 1) ≡ t.regs.x % 2 = bit_odd t.regs.x in
    let low : a < 256 = omega arith in
    let high : x < 256 = omega arith in
    let whole : a + 256 * x + 65536 * (l + 256 * h) ≡ eax_of t / 2 = omega arith in
    ends a x y n v z c ((16, t.regs.x) ∷ (3, h) ∷ (2, l) ∷ (16, x) ∷ []) refl refl refl (long_bytes_of _ a x l h low high whole))

abbrev asreax1_lines : List Line
asreax1_lines = zero_page Stx tmp1 ∷ zero_page Ldy (sreg + 1) ∷ value Cpy 0x80 ∷ zero_page Ror (sreg + 1) ∷ zero_page Ror sreg ∷ zero_page Ror tmp1 ∷ on_a Ror ∷ zero_page Ldx tmp1 ∷ implied Rts ∷ []

asreax1_at : (place : Placement) (bounds : Bounds) (P : State → Type 0) (u : State)
    → ((a x l h y : ℕ) (n v z c : Bool) → a ≡ u.regs.a / 2 + 128 * bit (nat_eq (u.regs.x % 2) 1) → x ≡ u.regs.x / 2 + 128 * bit (nat_eq (u.zp 2 % 2) 1) → l ≡ u.zp 2 / 2 + 128 * bit (nat_eq (u.zp 3 % 2) 1) → h ≡ u.zp 3 / 2 + 128 * bit (nat_lt 128 (u.zp 3 + 1)) → P (left u a x y n v z c (write (write (write (write u.zp 16 u.regs.x) 3 h) 2 l) 16 x) u.mem))
    → leads place bounds P asreax1_lines None (record u { pushed = [] })
unfolding leads
asreax1_at place bounds P u follows = follows _ _ _ _ _ _ _ _ _ refl refl refl refl

asreax1_leads : UnaryLeads Asr1 Eax asreax1_lines
asreax1_leads place bounds P back t all ends =
    let byte_a = all.a in
    let byte_x = all.x in
    let byte_l = all.zp 2 in
    let byte_h = all.zp 3 in
    asreax1_at place bounds P (called back t) (λ a x l h y n v z c is_a is_x is_l is_h.
    let c1 : bit (nat_eq (t.zp 3 % 2) 1) ≡ t.zp 3 % 2 = bit_odd (t.zp 3) in
    let c2 : bit (nat_eq (t.zp 2 % 2) 1) ≡ t.zp 2 % 2 = bit_odd (t.zp 2) in
    let c3 : bit (nat_eq (t.regs.x % 2) 1) ≡ t.regs.x % 2 = bit_odd t.regs.x in
    let top : bit (nat_lt 128 (t.zp 3 + 1)) ≡ t.zp 3 / 128 = bit_top (t.zp 3) byte_h in
    let low : a < 256 = omega arith in
    let high : x < 256 = omega arith in
    let small : eax_of t < 4294967296 = omega arith in
    let sum : a + 256 * x + 65536 * (l + 256 * h) ≡ eax_of t / 2 + 2147483648 * (eax_of t / 2147483648) = omega arith in
    let whole : a + 256 * x + 65536 * (l + 256 * h) ≡ shifted_right Eax (eax_of t) 1 = sum ∙ sym (shifted_long (eax_of t) small) in
    ends a x y n v z c ((16, t.regs.x) ∷ (3, h) ∷ (2, l) ∷ (16, x) ∷ []) refl refl refl (long_bytes_of _ a x l h low high whole))

abbrev bnegeax_lines : List Line
bnegeax_lines = zero_page Stx tmp1 ∷ zero_page Ora tmp1 ∷ zero_page Ora sreg ∷ zero_page Ora (sreg + 1) ∷ value Cmp 1 ∷ value Lda 0 ∷ on_a Rol ∷ value Eor 1 ∷ value Ldx 0 ∷ implied Rts ∷ []

bnegeax_at : (place : Placement) (bounds : Bounds) (P : State → Type 0) (u : State)
    → ((a x y : ℕ) (n v z c : Bool) → a ≡ bit_xor (0 + bit (nat_lt 1 ((bit_or (bit_or (bit_or u.regs.a u.regs.x) (u.zp 2)) (u.zp 3)) + 1))) 1 → x ≡ 0 → P (left u a x y n v z c (write u.zp 16 u.regs.x) u.mem))
    → leads place bounds P bnegeax_lines None (record u { pushed = [] })
unfolding leads
bnegeax_at place bounds P u follows = follows _ _ _ _ _ _ _ refl refl

bnegeax_leads : UnaryLeads BNeg Eax bnegeax_lines
bnegeax_leads place bounds P back t all ends =
    let byte_a = all.a in
    let byte_x = all.x in
    let byte_l = all.zp 2 in
    let byte_h = all.zp 3 in
    bnegeax_at place bounds P (called back t) (λ a x y n v z c is_a is_x.
    let o1 : ℕ = bit_or t.regs.a t.regs.x in
    let o2 : ℕ = bit_or o1 (t.zp 2) in
    let o3 : ℕ = bit_or o2 (t.zp 3) in
    let l1 = le_or_l t.regs.a t.regs.x in
    let r1 = le_or_r t.regs.a t.regs.x in
    let l2 = le_or_l o1 (t.zp 2) in
    let r2 = le_or_r o1 (t.zp 2) in
    let l3 = le_or_l o2 (t.zp 3) in
    let r3 = le_or_r o2 (t.zp 3) in
    let s1 = or_add_and t.regs.a t.regs.x in
    let s2 = or_add_and o1 (t.zp 2) in
    let s3 = or_add_and o2 (t.zp 3) in
    let test : IsZeroTest o3 (eax_of t) = zero_test o3 (eax_of t) (λ e. omega arith) (λ e. omega arith) in
    ends a x y n v z c ((16, t.regs.x) ∷ []) refl refl refl (record { a = is_a ∙ test.a; x = is_x ∙ test.x }))

pub unary : (s : RawSetting) (op : UnaryRoutine) (width : Width) → s.lines (s.routine (routines.Unary op width)) ≡ lines_of (routines.Unary op width) → MeetsRow s (routines.Unary op width)
unary s Neg Ax = unary_meets s Neg Ax negax_lines refl negax_leads
unary s Compl Ax = unary_meets s Compl Ax complax_lines refl complax_leads
unary s Shl1 Ax = unary_meets s Shl1 Ax shlax1_lines refl shlax1_leads
unary s Shr1 Ax = unary_meets s Shr1 Ax shrax1_lines refl shrax1_leads
unary s Asr1 Ax = unary_meets s Asr1 Ax asrax1_lines refl asrax1_leads
unary s BNeg Ax = unary_meets s BNeg Ax bnegax_lines refl bnegax_leads
unary s Neg Eax = unary_meets s Neg Eax negeax_lines refl negeax_leads
unary s Compl Eax = unary_meets s Compl Eax compleax_lines refl compleax_leads
unary s Shl1 Eax = unary_meets s Shl1 Eax shleax1_lines refl shleax1_leads
unary s Shr1 Eax = unary_meets s Shr1 Eax shreax1_lines refl shreax1_leads
unary s Asr1 Eax = unary_meets s Asr1 Eax asreax1_lines refl asreax1_leads
unary s BNeg Eax = unary_meets s BNeg Eax bnegeax_lines refl bnegeax_leads
