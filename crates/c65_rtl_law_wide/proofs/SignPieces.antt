-- The pieces of lines that take the signs of numbers of 32 bits away and put that of the result on.
use Rattle.std.proofs.Common.{◌≡◌, ℕ, ◌+◌, ◌-◌, ◌%◌, Bool, true, false, List, [], ◌∷◌}
use Rattle.std.specs.Prelude.{nat_lt, bit_xor}
use Rattle.c65_mach.specs.Step.{bit}
use Rattle.c65_mach.specs.declared.rows.Op.TheVariants.{Bpl, Eor, Lda, Ldy, Sbc, Sec, Sta}
use Rattle.c65_code.specs.declared.routine.Routine.TheVariants as routines
use Rattle.c65_code.specs.declared.routine.UnaryRoutine.TheVariants.{Neg}
use Rattle.c65_code.specs.declared.routine.Width.TheVariants.{Eax}
use Rattle.c65_code.specs.declared.line.Line.{Line}
use Rattle.c65_code.specs.declared.line.Line.TheVariants.{Label}
use Rattle.c65_code.specs.LineState.{write, State}
use Rattle.c65_code.specs.RawMachine.{RawSetting, Bounds}
use Rattle.c65_rtl.specs.Assembly.{ptr1, ptr2, ptr3, ptr4, tmp1, tmp2, implied, value, zero_page, branch, call}
use Rattle.c65_rtl.proofs.Meeting.{not_true, not_false}
use Rattle.c65_rtl_law_walks.proofs.Walks.{Calls}
use Rattle.c65_rtl_law_walks.proofs.Turning.{leads_turn}
use Rattle.c65_rtl_law_inner.proofs.Beside.{returns}
use Rattle.c65_rtl_law_wide.proofs.Terms.{takes, Ways, back_lines}

abbrev pub signs_on : List Line → List Line
signs_on rest = zero_page Sta tmp1 ∷ zero_page Eor (ptr4 + 1) ∷ zero_page Sta tmp2 ∷ zero_page Lda (ptr2 + 1) ∷ rest

abbrev pub marked : State → Bool → State
marked u z = record u { regs = record u.regs { a = u.zp 11; n = nat_lt 127 (u.zp 11); z = z }; zp = write (write u.zp 16 u.regs.a) 17 (bit_xor u.regs.a (u.zp 15)) }

pub signs_at : (s : RawSetting) (bounds : Bounds) (P : State → Type 0) (B : ℕ → State → Type 0) (rest : List Line) (u : State) → ((z : Bool) → Ways s bounds P B [] rest (marked u z)) → Ways s bounds P B [] (signs_on rest) u
unfolding leads_turn
signs_at s bounds P B rest u follows = follows _

-- four bytes become their negative where N is set
abbrev pub minus_0 : ℕ → ℕ
minus_0 a = 0 + (255 - a) + 1

abbrev pub minus_1 : ℕ → ℕ → ℕ
minus_1 a b = 0 + (255 - b) + bit (nat_lt 255 (minus_0 a))

abbrev pub minus_2 : ℕ → ℕ → ℕ → ℕ
minus_2 a b c = 0 + (255 - c) + bit (nat_lt 255 (minus_1 a b))

abbrev pub minus_3 : ℕ → ℕ → ℕ → ℕ → ℕ
minus_3 a b c d = 0 + (255 - d) + bit (nat_lt 255 (minus_2 a b c))

abbrev pub negation_on : ℕ → ℕ → List Line → List Line
negation_on at label rest = branch Bpl label ∷ implied Sec ∷ value Lda 0 ∷ zero_page Sbc at ∷ zero_page Sta at ∷ value Lda 0 ∷ zero_page Sbc (at + 1) ∷ zero_page Sta (at + 1) ∷ value Lda 0 ∷ zero_page Sbc (at + 2) ∷ zero_page Sta (at + 2) ∷ value Lda 0 ∷ zero_page Sbc (at + 3) ∷ zero_page Sta (at + 3) ∷ Label label ∷ rest

abbrev pub first_on : List Line → List Line
first_on rest = negation_on ptr1 0 rest

abbrev pub second_on : List Line → List Line
second_on rest = zero_page Lda (ptr4 + 1) ∷ negation_on ptr3 1 rest

abbrev pub negated : State → ℕ → Bool → Bool → Bool → Bool → State
negated u at n v z c = record u {
  regs = record u.regs { a = minus_3 (u.zp at) (u.zp (at + 1)) (u.zp (at + 2)) (u.zp (at + 3)) % 256; n = n; v = v; z = z; c = c };
  zp = write (write (write (write u.zp at (minus_0 (u.zp at) % 256)) (at + 1) (minus_1 (u.zp at) (u.zp (at + 1)) % 256)) (at + 2) (minus_2 (u.zp at) (u.zp (at + 1)) (u.zp (at + 2)) % 256)) (at + 3) (minus_3 (u.zp at) (u.zp (at + 1)) (u.zp (at + 2)) (u.zp (at + 3)) % 256);
}

pub first_at : (s : RawSetting) (bounds : Bounds) (P : State → Type 0) (B : ℕ → State → Type 0) (rest : List Line) (u : State)
    → (u.regs.n ≡ false → Ways s bounds P B (0 ∷ []) rest u) → ((n v z c : Bool) → u.regs.n ≡ true → Ways s bounds P B (0 ∷ []) rest (negated u 8 n v z c))
    → Ways s bounds P B [] (first_on rest) u
unfolding leads_turn
first_at s bounds P B rest u plus minus = elim [ true ↦ λ e. plus (not_true _ e) | false ↦ λ e. minus _ _ _ _ (not_false _ e) ]

abbrev pub with_sign_of : State → Bool → State
with_sign_of u z = record u { regs = record u.regs { a = u.zp 15; n = nat_lt 127 (u.zp 15); z = z } }

pub second_at : (s : RawSetting) (bounds : Bounds) (P : State → Type 0) (B : ℕ → State → Type 0) (rest : List Line) (u : State)
    → ((z : Bool) → nat_lt 127 (u.zp 15) ≡ false → Ways s bounds P B (1 ∷ 0 ∷ []) rest (with_sign_of u z)) → ((n v z c : Bool) → nat_lt 127 (u.zp 15) ≡ true → Ways s bounds P B (1 ∷ 0 ∷ []) rest (negated u 12 n v z c))
    → Ways s bounds P B (0 ∷ []) (second_on rest) u
unfolding leads_turn
second_at s bounds P B rest u plus minus = elim [ true ↦ λ e. plus _ (not_true _ e) | false ↦ λ e. minus _ _ _ _ (not_false _ e) ]

-- EAX becomes its negative where the byte of the sign says so
abbrev pub signed_on : ℕ → List Line → List Line
signed_on sign rest = zero_page Ldy sign ∷ branch Bpl 4 ∷ call (routines.Unary Neg Eax) ∷ Label 4 ∷ rest

abbrev pub end_lines : List Line
end_lines = Label 4 ∷ back_lines

abbrev pub signed_by : State → ℕ → Bool → Bool → State
signed_by u sign n z = record u { regs = record u.regs { y = u.zp sign; n = n; z = z } }

abbrev pub Signs : ℕ → List ℕ → RawSetting → Bounds → (State → Type 0) → (ℕ → State → Type 0) → State → Type 0
Signs sign passed s bounds P B u = u.pushed ≡ [] → ((n z : Bool) → nat_lt 127 (u.zp sign) ≡ false → P (signed_by u sign n z))
    → ((n z : Bool) → nat_lt 127 (u.zp sign) ≡ true → Calls s bounds 3 takes (routines.Unary Neg Eax) (leads_turn s bounds 3 takes P B passed end_lines) (signed_by u sign n z))
    → Ways s bounds P B passed (signed_on sign back_lines) u

pub quotient_signs : (s : RawSetting) (bounds : Bounds) (P : State → Type 0) (B : ℕ → State → Type 0) (u : State) → Signs 17 [] s bounds P B u
unfolding leads_turn
quotient_signs s bounds P B u none plus minus = elim [ true ↦ λ e. returns P _ none (plus _ _ (not_true _ e)) | false ↦ λ e. minus _ _ (not_false _ e) ]

pub remainder_signs : (s : RawSetting) (bounds : Bounds) (P : State → Type 0) (B : ℕ → State → Type 0) (u : State) → Signs 16 (3 ∷ 2 ∷ 1 ∷ 0 ∷ []) s bounds P B u
unfolding leads_turn
remainder_signs s bounds P B u none plus minus = elim [ true ↦ λ e. returns P _ none (plus _ _ (not_true _ e)) | false ↦ λ e. minus _ _ (not_false _ e) ]

pub end_at : (s : RawSetting) (bounds : Bounds) (P : State → Type 0) (B : ℕ → State → Type 0) (passed : List ℕ) (u : State) → u.pushed ≡ [] → P u → Ways s bounds P B passed end_lines u
unfolding leads_turn
end_at s bounds P B passed u none h = returns P u none h
