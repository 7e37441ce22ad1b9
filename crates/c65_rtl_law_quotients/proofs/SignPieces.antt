-- The pieces of lines that take the signs of words away and put that of the result on.
use Rattle.std.proofs.Common.{◌≡◌, ℕ, ◌+◌, ◌-◌, ◌%◌, Bool, true, false, List, [], ◌∷◌}
use Rattle.std.specs.Prelude.{nat_lt, bit_xor}
use Rattle.c65_mach.specs.Step.{bit}
use Rattle.c65_mach.specs.declared.rows.Op.TheVariants.{Adc, Bpl, Clc, Eor, Lda, Ldy, Sbc, Sec, Sta, Stx, Tax, Tay, Txa, Tya}
use Rattle.c65_code.specs.declared.line.Line.{Line}
use Rattle.c65_code.specs.declared.line.Line.TheVariants.{Label}
use Rattle.c65_code.specs.LineState.{write, State}
use Rattle.c65_code.specs.RawMachine.{RawSetting, Bounds}
use Rattle.c65_rtl.specs.Assembly.{ptr1, ptr2, tmp1, tmp2, implied, value, zero_page, branch}
use Rattle.c65_rtl.proofs.Meeting.{not_true, not_false}
use Rattle.c65_rtl_law_walks.proofs.Turning.{leads_turn}
use Rattle.c65_rtl_law_inner.proofs.Beside.{returns}
use Rattle.c65_rtl_law_quotients.proofs.Pieces.{Ways, back_lines}

abbrev pub signs_on : List Line → List Line
signs_on rest = zero_page Stx tmp1 ∷ implied Txa ∷ zero_page Eor (ptr2 + 1) ∷ zero_page Sta tmp2 ∷ implied Txa ∷ rest

abbrev pub marked : State → Bool → State
marked u z = record u { regs = record u.regs { a = u.regs.x; n = nat_lt 127 u.regs.x; z = z }; zp = write (write u.zp 16 u.regs.x) 17 (bit_xor u.regs.x (u.zp 11)) }

pub signs_at : (s : RawSetting) (bounds : Bounds) (P : State → Type 0) (B : ℕ → State → Type 0) (rest : List Line) (u : State) → ((z : Bool) → Ways s bounds P B [] rest (marked u z)) → Ways s bounds P B [] (signs_on rest) u
unfolding leads_turn
signs_at s bounds P B rest u follows = follows _

-- a word becomes its negative where N is set
abbrev pub minus_low : ℕ → ℕ
minus_low l = (0 + (255 - l) + 1) % 256

abbrev pub minus_high : ℕ → ℕ → ℕ
minus_high l h = (0 + (255 - h) + bit (nat_lt 255 (0 + (255 - l) + 1))) % 256

abbrev pub first_on : List Line → List Line
first_on rest = branch Bpl 0 ∷ implied Sec ∷ value Lda 0 ∷ zero_page Sbc ptr1 ∷ zero_page Sta ptr1 ∷ value Lda 0 ∷ zero_page Sbc (ptr1 + 1) ∷ zero_page Sta (ptr1 + 1) ∷ Label 0 ∷ rest

abbrev pub second_on : List Line → List Line
second_on rest = zero_page Lda (ptr2 + 1) ∷ branch Bpl 1 ∷ implied Sec ∷ value Lda 0 ∷ zero_page Sbc ptr2 ∷ zero_page Sta ptr2 ∷ value Lda 0 ∷ zero_page Sbc (ptr2 + 1) ∷ zero_page Sta (ptr2 + 1) ∷ Label 1 ∷ rest

abbrev pub negated : State → ℕ → ℕ → Bool → Bool → Bool → Bool → State
negated u low high n v z c = record u { regs = record u.regs { a = minus_high (u.zp low) (u.zp high); n = n; v = v; z = z; c = c }; zp = write (write u.zp low (minus_low (u.zp low))) high (minus_high (u.zp low) (u.zp high)) }

pub first_at : (s : RawSetting) (bounds : Bounds) (P : State → Type 0) (B : ℕ → State → Type 0) (rest : List Line) (u : State)
    → (u.regs.n ≡ false → Ways s bounds P B (0 ∷ []) rest u) → ((n v z c : Bool) → u.regs.n ≡ true → Ways s bounds P B (0 ∷ []) rest (negated u 8 9 n v z c))
    → Ways s bounds P B [] (first_on rest) u
unfolding leads_turn
first_at s bounds P B rest u plus minus = elim [ true ↦ λ e. plus (not_true _ e) | false ↦ λ e. minus _ _ _ _ (not_false _ e) ]

abbrev pub with_sign_of : State → Bool → State
with_sign_of u z = record u { regs = record u.regs { a = u.zp 11; n = nat_lt 127 (u.zp 11); z = z } }

pub second_at : (s : RawSetting) (bounds : Bounds) (P : State → Type 0) (B : ℕ → State → Type 0) (rest : List Line) (u : State)
    → ((z : Bool) → nat_lt 127 (u.zp 11) ≡ false → Ways s bounds P B (1 ∷ 0 ∷ []) rest (with_sign_of u z)) → ((n v z c : Bool) → nat_lt 127 (u.zp 11) ≡ true → Ways s bounds P B (1 ∷ 0 ∷ []) rest (negated u 10 11 n v z c))
    → Ways s bounds P B (0 ∷ []) (second_on rest) u
unfolding leads_turn
second_at s bounds P B rest u plus minus = elim [ true ↦ λ e. plus _ (not_true _ e) | false ↦ λ e. minus _ _ _ _ (not_false _ e) ]

-- AX becomes its negative where the byte of the sign says so
abbrev pub signed_on : ℕ → List Line → List Line
signed_on sign rest = zero_page Ldy sign ∷ branch Bpl 4 ∷ value Eor 255 ∷ implied Clc ∷ value Adc 1 ∷ implied Tay ∷ implied Txa ∷ value Eor 255 ∷ value Adc 0 ∷ implied Tax ∷ implied Tya ∷ Label 4 ∷ rest

abbrev pub sum_low : State → ℕ
sum_low u = bit_xor u.regs.a 255 + 1 + 0

abbrev pub sum_high : State → ℕ
sum_high u = bit_xor u.regs.x 255 + 0 + bit (nat_lt 255 (sum_low u))

abbrev pub Signs : ℕ → List ℕ → RawSetting → Bounds → (State → Type 0) → (ℕ → State → Type 0) → State → Type 0
Signs sign passed s bounds P B u = u.pushed ≡ [] → ((n z : Bool) → nat_lt 127 (u.zp sign) ≡ false → P (record u { regs = record u.regs { y = u.zp sign; n = n; z = z } }))
    → ((n v z c : Bool) → nat_lt 127 (u.zp sign) ≡ true → P (record u { regs = record { a = sum_low u % 256; x = sum_high u % 256; y = sum_low u % 256; n = n; v = v; z = z; c = c } }))
    → Ways s bounds P B passed (signed_on sign back_lines) u

pub quotient_signs : (s : RawSetting) (bounds : Bounds) (P : State → Type 0) (B : ℕ → State → Type 0) (u : State) → Signs 17 [] s bounds P B u
unfolding leads_turn
quotient_signs s bounds P B u none plus minus = elim [ true ↦ λ e. returns P _ none (plus _ _ (not_true _ e)) | false ↦ λ e. returns P _ none (minus _ _ _ _ (not_false _ e)) ]

pub remainder_signs : (s : RawSetting) (bounds : Bounds) (P : State → Type 0) (B : ℕ → State → Type 0) (u : State) → Signs 16 (3 ∷ 2 ∷ 1 ∷ 0 ∷ []) s bounds P B u
unfolding leads_turn
remainder_signs s bounds P B u none plus minus = elim [ true ↦ λ e. returns P _ none (plus _ _ (not_true _ e)) | false ↦ λ e. returns P _ none (minus _ _ _ _ (not_false _ e)) ]
