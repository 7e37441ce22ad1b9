-- The pieces of lines that take TOS and the primary register together.
use Rattle.std.proofs.Common.{◌≡◌, ℕ, ◌+◌, ◌-◌, ◌*◌, ◌%◌, Bool, List, ◌∷◌, None, sym, ap, subst}
use Rattle.std.specs.Prelude.{nat_lt}
use Rattle.c65_mach.specs.Step.{bit, with_a}
use Rattle.c65_mach.specs.declared.rows.Op.{Op}
use Rattle.c65_mach.specs.declared.rows.Op.TheVariants.{Adc, Clc, Iny, Lda, Ldy, Sbc, Sec, Sta, Stx, Tax, Txa}
use Rattle.c65_code.specs.declared.line.Line.{Line}
use Rattle.c65_code.specs.LineState.{write, State}
use Rattle.c65_code.specs.Placement.{Placement}
use Rattle.c65_code.specs.RawMachine.{Bounds, IsReachable}
use Rattle.c65_rtl.specs.Assembly.{sp, sreg, tmp1, tmp2, implied, value, zero_page, by_y}
use Rattle.c65_rtl.proofs.Ways.{leads, by_form}
use Rattle.c65_rtl.proofs.Stores.{reach_as}
use Rattle.c65_code.specs.Forms.{Form}
use Rattle.c65_rtl.proofs.Bits.{IsBitwise}
use Rattle.c65_rtl.proofs.Sums.{plus_0, plus_1, minus_0, minus_1}

-- the state once A is taken from tmp1
abbrev pub released : State → Bool → Bool → State
released u n z = record u { regs = record u.regs { a = u.zp 16; n = n; z = z } }

-- ADC
abbrev pub add_on : List Line → List Line
add_on rest = implied Clc ∷ value Ldy 0 ∷ by_y Adc sp ∷ zero_page Sta tmp1 ∷ implied Iny ∷ implied Txa ∷ by_y Adc sp ∷ implied Tax ∷ rest

abbrev pub add_state : State → ℕ → ℕ → Bool → Bool → Bool → State
add_state u m0 m1 n v z = record u { regs = record { a = plus_1 u.regs.a u.regs.x m0 m1 % 256; x = plus_1 u.regs.a u.regs.x m0 m1 % 256; y = 1; n = n; v = v; z = z; c = nat_lt 255 (plus_1 u.regs.a u.regs.x m0 m1) }; zp = write u.zp 16 (plus_0 u.regs.a m0 % 256) }

pub add_at : (place : Placement) (bounds : Bounds) (P : State → Type 0) (rest : List Line) (at : ℕ) (u : State) → (u.zp 0 + 256 * u.zp 1 + 0) % 65536 ≡ at → (u.zp 0 + 256 * u.zp 1 + 1) % 65536 ≡ at + 1
    → IsReachable place bounds at → IsReachable place bounds (at + 1)
    → ((m0 m1 : ℕ) (n v z : Bool) → m0 ≡ u.mem at → m1 ≡ u.mem (at + 1) → leads place bounds P rest None (add_state u m0 m1 n v z)) → leads place bounds P (add_on rest) None u
unfolding leads
add_at place bounds P rest at u e0 e1 r0 r1 follows =
    let a0 : ℕ = (u.zp 0 + 256 * u.zp 1 + 0) % 65536 in
    let a1 : ℕ = (u.zp 0 + 256 * u.zp 1 + 1) % 65536 in
    (reach_as place bounds a0 at e0 r0, (reach_as place bounds a1 (at + 1) e1 r1, follows (u.mem a0) (u.mem a1) _ _ _ (ap u.mem e0) (ap u.mem e1)))

abbrev pub add_upper_on : List Line → List Line
add_upper_on rest = implied Iny ∷ zero_page Lda sreg ∷ by_y Adc sp ∷ zero_page Sta sreg ∷ implied Iny ∷ zero_page Lda (sreg + 1) ∷ by_y Adc sp ∷ zero_page Sta (sreg + 1) ∷ rest

abbrev pub add_upper_state : State → ℕ → ℕ → Bool → Bool → Bool → State
add_upper_state u m2 m3 n v z = record u { regs = record { a = (u.zp 3 + m3 + bit (nat_lt 255 (u.zp 2 + m2 + bit u.regs.c))) % 256; x = u.regs.x; y = 3; n = n; v = v; z = z; c = nat_lt 255 (u.zp 3 + m3 + bit (nat_lt 255 (u.zp 2 + m2 + bit u.regs.c))) }; zp = write (write u.zp 2 ((u.zp 2 + m2 + bit u.regs.c) % 256)) 3 ((u.zp 3 + m3 + bit (nat_lt 255 (u.zp 2 + m2 + bit u.regs.c))) % 256) }

pub add_upper_at : (place : Placement) (bounds : Bounds) (P : State → Type 0) (rest : List Line) (at : ℕ) (u : State) → (u.zp 0 + 256 * u.zp 1 + 2) % 65536 ≡ at + 2 → (u.zp 0 + 256 * u.zp 1 + 3) % 65536 ≡ at + 3
    → IsReachable place bounds (at + 2) → IsReachable place bounds (at + 3)
    → ((m2 m3 : ℕ) (n v z : Bool) → m2 ≡ u.mem (at + 2) → m3 ≡ u.mem (at + 3) → leads place bounds P rest None (add_upper_state u m2 m3 n v z)) → leads place bounds P (add_upper_on rest) None (record u { regs = record u.regs { y = 1 } })
unfolding leads
add_upper_at place bounds P rest at u e2 e3 r2 r3 follows =
    let a2 : ℕ = (u.zp 0 + 256 * u.zp 1 + 2) % 65536 in
    let a3 : ℕ = (u.zp 0 + 256 * u.zp 1 + 3) % 65536 in
    (reach_as place bounds a2 (at + 2) e2 r2, (reach_as place bounds a3 (at + 3) e3 r3, follows (u.mem a2) (u.mem a3) _ _ _ (ap u.mem e2) (ap u.mem e3)))

-- SBC
abbrev pub sub_on : List Line → List Line
sub_on rest = zero_page Sta tmp1 ∷ zero_page Stx tmp2 ∷ implied Sec ∷ value Ldy 0 ∷ by_y Lda sp ∷ zero_page Sbc tmp1 ∷ zero_page Sta tmp1 ∷ implied Iny ∷ by_y Lda sp ∷ zero_page Sbc tmp2 ∷ implied Tax ∷ rest

abbrev pub sub_state : State → ℕ → ℕ → Bool → Bool → Bool → State
sub_state u m0 m1 n v z = record u { regs = record { a = minus_1 u.regs.a u.regs.x m0 m1 % 256; x = minus_1 u.regs.a u.regs.x m0 m1 % 256; y = 1; n = n; v = v; z = z; c = nat_lt 255 (minus_1 u.regs.a u.regs.x m0 m1) }; zp = write (write (write u.zp 16 u.regs.a) 17 u.regs.x) 16 (minus_0 u.regs.a m0 % 256) }

pub sub_at : (place : Placement) (bounds : Bounds) (P : State → Type 0) (rest : List Line) (at : ℕ) (u : State) → (u.zp 0 + 256 * u.zp 1 + 0) % 65536 ≡ at → (u.zp 0 + 256 * u.zp 1 + 1) % 65536 ≡ at + 1
    → IsReachable place bounds at → IsReachable place bounds (at + 1)
    → ((m0 m1 : ℕ) (n v z : Bool) → m0 ≡ u.mem at → m1 ≡ u.mem (at + 1) → leads place bounds P rest None (sub_state u m0 m1 n v z)) → leads place bounds P (sub_on rest) None u
unfolding leads
sub_at place bounds P rest at u e0 e1 r0 r1 follows =
    let a0 : ℕ = (u.zp 0 + 256 * u.zp 1 + 0) % 65536 in
    let a1 : ℕ = (u.zp 0 + 256 * u.zp 1 + 1) % 65536 in
    (reach_as place bounds a0 at e0 r0, (reach_as place bounds a1 (at + 1) e1 r1, follows (u.mem a0) (u.mem a1) _ _ _ (ap u.mem e0) (ap u.mem e1)))

abbrev pub sub_upper_on : List Line → List Line
sub_upper_on rest = implied Iny ∷ by_y Lda sp ∷ zero_page Sbc sreg ∷ zero_page Sta sreg ∷ implied Iny ∷ by_y Lda sp ∷ zero_page Sbc (sreg + 1) ∷ zero_page Sta (sreg + 1) ∷ rest

abbrev pub sub_upper_state : State → ℕ → ℕ → Bool → Bool → Bool → State
sub_upper_state u m2 m3 n v z = record u { regs = record { a = (m3 + (255 - u.zp 3) + bit (nat_lt 255 (m2 + (255 - u.zp 2) + bit u.regs.c))) % 256; x = u.regs.x; y = 3; n = n; v = v; z = z; c = nat_lt 255 (m3 + (255 - u.zp 3) + bit (nat_lt 255 (m2 + (255 - u.zp 2) + bit u.regs.c))) }; zp = write (write u.zp 2 ((m2 + (255 - u.zp 2) + bit u.regs.c) % 256)) 3 ((m3 + (255 - u.zp 3) + bit (nat_lt 255 (m2 + (255 - u.zp 2) + bit u.regs.c))) % 256) }

pub sub_upper_at : (place : Placement) (bounds : Bounds) (P : State → Type 0) (rest : List Line) (at : ℕ) (u : State) → (u.zp 0 + 256 * u.zp 1 + 2) % 65536 ≡ at + 2 → (u.zp 0 + 256 * u.zp 1 + 3) % 65536 ≡ at + 3
    → IsReachable place bounds (at + 2) → IsReachable place bounds (at + 3)
    → ((m2 m3 : ℕ) (n v z : Bool) → m2 ≡ u.mem (at + 2) → m3 ≡ u.mem (at + 3) → leads place bounds P rest None (sub_upper_state u m2 m3 n v z)) → leads place bounds P (sub_upper_on rest) None (record u { regs = record u.regs { y = 1 } })
unfolding leads
sub_upper_at place bounds P rest at u e2 e3 r2 r3 follows =
    let a2 : ℕ = (u.zp 0 + 256 * u.zp 1 + 2) % 65536 in
    let a3 : ℕ = (u.zp 0 + 256 * u.zp 1 + 3) % 65536 in
    (reach_as place bounds a2 (at + 2) e2 r2, (reach_as place bounds a3 (at + 3) e3 r3, follows (u.mem a2) (u.mem a3) _ _ _ (ap u.mem e2) (ap u.mem e3)))

-- AND, ORA and EOR
by_y_at : (op : Op) (f : ℕ → ℕ → ℕ) → IsBitwise op f → (place : Placement) (bounds : Bounds) (P : State → Type 0) (rest : List Line) (at : ℕ) (u : State) → (u.zp 0 + 256 * u.zp 1 + u.regs.y) % 65536 ≡ at → IsReachable place bounds at
    → leads place bounds P rest None (record u { regs = with_a (f u.regs.a (u.mem ((u.zp 0 + 256 * u.zp 1 + u.regs.y) % 65536))) u.regs }) → leads place bounds P (by_y op sp ∷ rest) None u
unfolding leads
by_y_at op f bits place bounds P rest at u e r follows =
    subst (λ (form : Form). by_form place bounds P form (leads place bounds P rest) None u) (sym bits.form) (reach_as place bounds _ at e r, subst (leads place bounds P rest None) (sym (bits.acts 0 u)) follows)

abbrev pub bits_on : Op → List Line → List Line
bits_on op rest = value Ldy 0 ∷ by_y op sp ∷ zero_page Sta tmp1 ∷ implied Iny ∷ implied Txa ∷ by_y op sp ∷ implied Tax ∷ rest

abbrev pub bits_state : (ℕ → ℕ → ℕ) → State → ℕ → ℕ → Bool → Bool → Bool → State
bits_state f u m0 m1 n v z = record u { regs = record { a = f u.regs.x m1; x = f u.regs.x m1; y = 1; n = n; v = v; z = z; c = u.regs.c }; zp = write u.zp 16 (f u.regs.a m0) }

pub bits_at : (op : Op) (f : ℕ → ℕ → ℕ) → IsBitwise op f → (place : Placement) (bounds : Bounds) (P : State → Type 0) (rest : List Line) (at : ℕ) (u : State) → (u.zp 0 + 256 * u.zp 1 + 0) % 65536 ≡ at → (u.zp 0 + 256 * u.zp 1 + 1) % 65536 ≡ at + 1
    → IsReachable place bounds at → IsReachable place bounds (at + 1)
    → ((m0 m1 : ℕ) (n v z : Bool) → m0 ≡ u.mem at → m1 ≡ u.mem (at + 1) → leads place bounds P rest None (bits_state f u m0 m1 n v z)) → leads place bounds P (bits_on op rest) None u
unfolding leads
bits_at op f bits place bounds P rest at u e0 e1 r0 r1 follows =
    by_y_at op f bits place bounds P (zero_page Sta tmp1 ∷ implied Iny ∷ implied Txa ∷ by_y op sp ∷ implied Tax ∷ rest) at (record u { regs = record u.regs { y = 0; n = _; z = _ } }) e0 r0
    (by_y_at op f bits place bounds P (implied Tax ∷ rest) (at + 1) _ e1 r1 (follows _ _ _ _ _ (ap u.mem e0) (ap u.mem e1)))

abbrev pub bits_upper_on : Op → List Line → List Line
bits_upper_on op rest = implied Iny ∷ zero_page Lda sreg ∷ by_y op sp ∷ zero_page Sta sreg ∷ implied Iny ∷ zero_page Lda (sreg + 1) ∷ by_y op sp ∷ zero_page Sta (sreg + 1) ∷ rest

abbrev pub bits_upper_state : (ℕ → ℕ → ℕ) → State → ℕ → ℕ → Bool → Bool → Bool → State
bits_upper_state f u m2 m3 n v z = record u { regs = record { a = f (u.zp 3) m3; x = u.regs.x; y = 3; n = n; v = v; z = z; c = u.regs.c }; zp = write (write u.zp 2 (f (u.zp 2) m2)) 3 (f (u.zp 3) m3) }

pub bits_upper_at : (op : Op) (f : ℕ → ℕ → ℕ) → IsBitwise op f → (place : Placement) (bounds : Bounds) (P : State → Type 0) (rest : List Line) (at : ℕ) (u : State) → (u.zp 0 + 256 * u.zp 1 + 2) % 65536 ≡ at + 2 → (u.zp 0 + 256 * u.zp 1 + 3) % 65536 ≡ at + 3
    → IsReachable place bounds (at + 2) → IsReachable place bounds (at + 3)
    → ((m2 m3 : ℕ) (n v z : Bool) → m2 ≡ u.mem (at + 2) → m3 ≡ u.mem (at + 3) → leads place bounds P rest None (bits_upper_state f u m2 m3 n v z)) → leads place bounds P (bits_upper_on op rest) None (record u { regs = record u.regs { y = 1 } })
unfolding leads
bits_upper_at op f bits place bounds P rest at u e2 e3 r2 r3 follows =
    by_y_at op f bits place bounds P (zero_page Sta sreg ∷ implied Iny ∷ zero_page Lda (sreg + 1) ∷ by_y op sp ∷ zero_page Sta (sreg + 1) ∷ rest) (at + 2) _ e2 r2
    (by_y_at op f bits place bounds P (zero_page Sta (sreg + 1) ∷ rest) (at + 3) _ e3 r3 (follows _ _ _ _ _ (ap u.mem e2) (ap u.mem e3)))
