-- The pieces of lines that compare TOS with the primary register.
use Rattle.std.proofs.Common.{◌≡◌, ℕ, ◌+◌, ◌-◌, ◌*◌, ◌%◌, ◌<◌, Bool, true, false, List, ◌∷◌, None, refl, sym, ap, subst, ◌∙◌}
use Rattle.std.specs.Prelude.{◌==◌, if◌then◌else◌, nat_lt, bit_or, bit_xor}
use Rattle.c65_mach.specs.Step.{bit, negative, is_taken, kind_of}
use Rattle.c65_mach.specs.declared.rows.Op.{Op}
use Rattle.c65_mach.specs.declared.rows.Mode.TheVariants.{Relative}
use Rattle.c65_code.specs.declared.line.Operand.TheVariants.{To}
use Rattle.c65_code.specs.Forms.{Form, Branch, op_form}
use Rattle.c65_mach.specs.declared.rows.Op.TheVariants.{Bne, Bvc, Clc, Eor, Iny, Lda, Ldx, Ldy, Ora, Sbc, Sec, Sta, Txa}
use Rattle.c65_code.specs.declared.line.Line.{Line}
use Rattle.c65_code.specs.declared.line.Line.TheVariants.{Label}
use Rattle.c65_code.specs.LineState.{write, State}
use Rattle.c65_code.specs.Placement.{Placement}
use Rattle.c65_code.specs.RawMachine.{Bounds, IsReachable}
use Rattle.c65_rtl.specs.Assembly.{sp, sreg, tmp1, implied, value, zero_page, by_y, branch}
use Rattle.c65_rtl.proofs.Ways.{leads, by_form}
use Rattle.c65_rtl.proofs.Meeting.{not_true, not_false}
use Rattle.c65_rtl.proofs.Stores.{reach_as}
use Rattle.c65_rtl.proofs.Comparisons.{less_1, overflow}
use Rattle.c65_rtl.proofs.Flags.{flipped, negative_turned}

false_true : (P : Type 0) → true ≡ false → P
false_true P e = absurd (let f : true ≡ false = e in cc)

-- the state once a truth is decided: 0 where the branch was taken
abbrev pub told : State → Bool → Bool → Bool → State
told u b n z = record u { regs = record u.regs { a = if b then 0 else 1; x = 0; n = n; z = z } }

-- AX = 0 where the branch is taken, else 1
abbrev pub decide_on : Op → List Line → List Line
decide_on taken rest = branch taken 3 ∷ value Lda 1 ∷ branch Bne 4 ∷ Label 3 ∷ value Lda 0 ∷ Label 4 ∷ value Ldx 0 ∷ rest

pub decide_at : (taken : Op) → op_form (kind_of taken) taken Relative (To 3) ≡ Branch taken 3 → (place : Placement) (bounds : Bounds) (P : State → Type 0) (rest : List Line) (u : State)
    → ((b n z : Bool) → is_taken taken u.regs ≡ b → leads place bounds P rest None (told u b n z)) → leads place bounds P (decide_on taken rest) None u
unfolding leads
decide_at taken is place bounds P rest u follows = subst (λ (f : Form). by_form place bounds P f (leads place bounds P (value Lda 1 ∷ branch Bne 4 ∷ Label 3 ∷ value Lda 0 ∷ Label 4 ∷ value Ldx 0 ∷ rest)) None u) (sym is) (elim [
  | true ↦ λ e. follows true _ _ e
  | false ↦ λ e. elim [ true ↦ λ g. follows false _ _ e | false ↦ λ g. false_true _ g ]
])

-- A is 0 where the words are the same
abbrev pub unlike_on : List Line → List Line
unlike_on rest = value Ldy 0 ∷ by_y Eor sp ∷ zero_page Sta tmp1 ∷ implied Iny ∷ implied Txa ∷ by_y Eor sp ∷ zero_page Ora tmp1 ∷ rest

abbrev pub unlike : ℕ → ℕ → ℕ → ℕ → ℕ
unlike a x m0 m1 = bit_or (bit_xor x m1) (bit_xor a m0)

abbrev pub matched : State → ℕ → ℕ → Bool → State
matched u m0 m1 n = record u { regs = record u.regs { a = unlike u.regs.a u.regs.x m0 m1; y = 1; n = n; z = unlike u.regs.a u.regs.x m0 m1 == 0 }; zp = write u.zp 16 (bit_xor u.regs.a m0) }

pub unlike_at : (place : Placement) (bounds : Bounds) (P : State → Type 0) (rest : List Line) (at : ℕ) (u : State) → (u.zp 0 + 256 * u.zp 1 + 0) % 65536 ≡ at → (u.zp 0 + 256 * u.zp 1 + 1) % 65536 ≡ at + 1
    → IsReachable place bounds at → IsReachable place bounds (at + 1)
    → ((m0 m1 : ℕ) (n : Bool) → m0 ≡ u.mem at → m1 ≡ u.mem (at + 1) → leads place bounds P rest None (matched u m0 m1 n)) → leads place bounds P (unlike_on rest) None u
unfolding leads
unlike_at place bounds P rest at u e0 e1 r0 r1 follows =
    let a0 : ℕ = (u.zp 0 + 256 * u.zp 1 + 0) % 65536 in
    let a1 : ℕ = (u.zp 0 + 256 * u.zp 1 + 1) % 65536 in
    (reach_as place bounds a0 at e0 r0, (reach_as place bounds a1 (at + 1) e1 r1, follows (u.mem a0) (u.mem a1) _ (ap u.mem e0) (ap u.mem e1)))

-- and the same of the high halves
abbrev pub unlike_upper_on : List Line → List Line
unlike_upper_on rest = zero_page Sta tmp1 ∷ implied Iny ∷ zero_page Lda sreg ∷ by_y Eor sp ∷ zero_page Ora tmp1 ∷ zero_page Sta tmp1 ∷ implied Iny ∷ zero_page Lda (sreg + 1) ∷ by_y Eor sp ∷ zero_page Ora tmp1 ∷ rest

abbrev pub matched_on : State → ℕ → ℕ → Bool → State
matched_on u m2 a n = record u { regs = record u.regs { a = a; y = 3; n = n; z = a == 0 }; zp = write (write u.zp 16 u.regs.a) 16 (bit_or (bit_xor (u.zp 2) m2) u.regs.a) }

pub unlike_upper_at : (place : Placement) (bounds : Bounds) (P : State → Type 0) (rest : List Line) (at : ℕ) (u : State) → (u.zp 0 + 256 * u.zp 1 + 2) % 65536 ≡ at + 2 → (u.zp 0 + 256 * u.zp 1 + 3) % 65536 ≡ at + 3
    → IsReachable place bounds (at + 2) → IsReachable place bounds (at + 3)
    → ((m2 m3 a : ℕ) (n : Bool) → m2 ≡ u.mem (at + 2) → m3 ≡ u.mem (at + 3) → a ≡ bit_or (bit_xor (u.zp 3) m3) (bit_or (bit_xor (u.zp 2) m2) u.regs.a) → leads place bounds P rest None (matched_on u m2 a n))
    → leads place bounds P (unlike_upper_on rest) None (record u { regs = record u.regs { y = 1 } })
unfolding leads
unlike_upper_at place bounds P rest at u e2 e3 r2 r3 follows =
    let a2 : ℕ = (u.zp 0 + 256 * u.zp 1 + 2) % 65536 in
    let a3 : ℕ = (u.zp 0 + 256 * u.zp 1 + 3) % 65536 in
    (reach_as place bounds a2 (at + 2) e2 r2, (reach_as place bounds a3 (at + 3) e3 r3, follows (u.mem a2) (u.mem a3) (bit_or (bit_xor (u.zp 3) (u.mem a3)) (bit_or (bit_xor (u.zp 2) (u.mem a2)) u.regs.a)) _ (ap u.mem e2) (ap u.mem e3) refl))

-- AX less the word at sp, and the flags of the difference
abbrev pub compared : ℕ → State → ℕ → ℕ → Bool → State
compared c u m0 m1 z =
    let sum : ℕ = less_1 c u.regs.a u.regs.x m0 m1 in
    record u { regs = record { a = sum % 256; x = u.regs.x; y = 1; n = negative (sum % 256); v = overflow u.regs.x (255 - m1) sum; z = z; c = nat_lt 255 sum } }

-- one more is taken off where C is clear
abbrev pub carry_of : Bool → Op
carry_of false = Clc
carry_of true = Sec

abbrev pub compare_on : Bool → List Line → List Line
compare_on k rest = implied (carry_of k) ∷ value Ldy 0 ∷ by_y Sbc sp ∷ implied Iny ∷ implied Txa ∷ by_y Sbc sp ∷ rest

pub compare_at : (k : Bool) (place : Placement) (bounds : Bounds) (P : State → Type 0) (rest : List Line) (at : ℕ) (u : State) → (u.zp 0 + 256 * u.zp 1 + 0) % 65536 ≡ at → (u.zp 0 + 256 * u.zp 1 + 1) % 65536 ≡ at + 1
    → IsReachable place bounds at → IsReachable place bounds (at + 1)
    → ((m0 m1 : ℕ) (z : Bool) → m0 ≡ u.mem at → m1 ≡ u.mem (at + 1) → leads place bounds P rest None (compared (bit k) u m0 m1 z)) → leads place bounds P (compare_on k rest) None u
unfolding leads
compare_at false place bounds P rest at u e0 e1 r0 r1 follows = (reach_as place bounds _ at e0 r0, (reach_as place bounds _ (at + 1) e1 r1, follows _ _ _ (ap u.mem e0) (ap u.mem e1)))
compare_at true place bounds P rest at u e0 e1 r0 r1 follows = (reach_as place bounds _ at e0 r0, (reach_as place bounds _ (at + 1) e1 r1, follows _ _ _ (ap u.mem e0) (ap u.mem e1)))

-- the same of the high halves, with the carry
abbrev pub compare_upper_on : List Line → List Line
compare_upper_on rest = implied Iny ∷ zero_page Lda sreg ∷ by_y Sbc sp ∷ implied Iny ∷ zero_page Lda (sreg + 1) ∷ by_y Sbc sp ∷ rest

abbrev pub compared_on : State → ℕ → ℕ → Bool → State
compared_on u m2 m3 z =
    let sum : ℕ = u.zp 3 + (255 - m3) + bit (nat_lt 255 (u.zp 2 + (255 - m2) + bit u.regs.c)) in
    record u { regs = record { a = sum % 256; x = u.regs.x; y = 3; n = negative (sum % 256); v = overflow (u.zp 3) (255 - m3) sum; z = z; c = nat_lt 255 sum } }

pub compare_upper_at : (place : Placement) (bounds : Bounds) (P : State → Type 0) (rest : List Line) (at : ℕ) (u : State) → (u.zp 0 + 256 * u.zp 1 + 2) % 65536 ≡ at + 2 → (u.zp 0 + 256 * u.zp 1 + 3) % 65536 ≡ at + 3
    → IsReachable place bounds (at + 2) → IsReachable place bounds (at + 3)
    → ((m2 m3 : ℕ) (z : Bool) → m2 ≡ u.mem (at + 2) → m3 ≡ u.mem (at + 3) → leads place bounds P rest None (compared_on u m2 m3 z)) → leads place bounds P (compare_upper_on rest) None (record u { regs = record u.regs { y = 1 } })
unfolding leads
compare_upper_at place bounds P rest at u e2 e3 r2 r3 follows =
    let a2 : ℕ = (u.zp 0 + 256 * u.zp 1 + 2) % 65536 in
    let a3 : ℕ = (u.zp 0 + 256 * u.zp 1 + 3) % 65536 in
    (reach_as place bounds a2 (at + 2) e2 r2, (reach_as place bounds a3 (at + 3) e3 r3, follows (u.mem a2) (u.mem a3) _ (ap u.mem e2) (ap u.mem e3)))

-- N becomes the true sign
abbrev pub sign_on : List Line → List Line
sign_on rest = branch Bvc 2 ∷ value Eor 0x80 ∷ Label 2 ∷ rest

abbrev pub signed_as : State → ℕ → Bool → Bool → State
signed_as u a n z = record u { regs = record u.regs { a = a; n = n; z = z } }

pub sign_at : (place : Placement) (bounds : Bounds) (P : State → Type 0) (rest : List Line) (u : State) → u.regs.a < 256
    → ((a : ℕ) (n z : Bool) → n ≡ flipped u.regs.v (negative u.regs.a) → leads place bounds P rest None (signed_as u a n z)) → leads place bounds P (sign_on rest) None (record u { regs = record u.regs { n = negative u.regs.a } })
unfolding leads
sign_at place bounds P rest u small follows = elim [
  | true ↦ λ e. follows _ _ _ (sym (ap (λ (v : Bool). flipped v (negative u.regs.a)) (not_true _ e)))
  | false ↦ λ e. follows _ _ _ (negative_turned u.regs.a small ∙ sym (ap (λ (v : Bool). flipped v (negative u.regs.a)) (not_false _ e)))
]
