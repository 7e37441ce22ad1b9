-- The routines that load from the software stack, and those that pop.
use Rattle.std.proofs.Common.{◌≡◌, ℕ, ◌+◌, ◌-◌, ◌*◌, ◌/◌, ◌%◌, ◌<◌, Bool, List, [], ◌∷◌, Some, None, refl, sym, ap, subst, ◌∙◌, arith}
use Rattle.std.specs.Prelude.{nat_le}
use Rattle.c65_mach.specs.declared.rows.Op.TheVariants.{Dey, Lda, Ldy, Rts, Sta, Tax}
use Rattle.c65_code.specs.declared.routine.Routine.{Routine}
use Rattle.c65_code.specs.declared.routine.Routine.TheVariants as routines
use Rattle.c65_code.specs.declared.routine.Width.TheVariants.{Ax}
use Rattle.c65_code.specs.declared.line.Line.{Line}
use Rattle.c65_code.specs.LineState.{Place, write, word_at, State, sp_of}
use Rattle.c65_code.specs.Placement.{Placement}
use Rattle.c65_code.specs.Rows.{Row, row_by, keeping, giving, popping, reading, needing}
use Rattle.c65_code.specs.RawMachine.{RawSetting, Bounds, IsReachable, called, MayRun, Runs, MeetsRow, reach_of}
use Rattle.c65_rtl.specs.Assembly.{sp, sreg, implied, value, zero_page, by_y}
use Rattle.c65_rtl.specs.Stack.{raise_one, raise_two}
use Rattle.c65_rtl.specs.Routines.{lines_of}
use Rattle.c65_rtl.proofs.Ways.{leads, Ends, runs}
use Rattle.c65_rtl.proofs.Meeting.{lt_true}
use Rattle.c65_rtl.proofs.Plain.{ends_plain}
use Rattle.c65_rtl.proofs.Opens.{OpenBytes, opens_near}
use Rattle.c65_rtl.proofs.SpPieces.{raise_one_at, raise_two_at}
use Rattle.c65_rtl.proofs.Pushes.{meets_by, sreg_kept}
use Rattle.c65_rtl.proofs.SpMoves.{with_y_at}

-- the bytes of words
pub word_low : (l h : ℕ) → l < 256 → (l + 256 * h) % 256 ≡ l
word_low l h low = omega arith

pub word_high : (l h : ℕ) → l < 256 → h < 256 → (l + 256 * h) / 256 % 256 ≡ h
word_high l h low high = omega arith

pub long_upper : (v w : ℕ) → v < 65536 → (v + 65536 * w) / 65536 ≡ w
long_upper v w low = omega arith

pub long_low : (l h w : ℕ) → l < 256 → (l + 256 * h + 65536 * w) % 256 ≡ l
long_low l h w low = omega arith

pub long_high : (l h w : ℕ) → l < 256 → h < 256 → (l + 256 * h + 65536 * w) / 256 % 256 ≡ h
long_high l h w low high = omega arith

-- RTS
pub returns_at : (place : Placement) (bounds : Bounds) (P : State → Type 0) (u : State) → P (record u { pushed = [] }) → leads place bounds P (implied Rts ∷ []) None (record u { pushed = [] })
unfolding leads
returns_at place bounds P u h = h

-- AX from the word at an address
abbrev pub load_word_on : List Line → List Line
load_word_on rest = by_y Lda sp ∷ implied Tax ∷ implied Dey ∷ by_y Lda sp ∷ rest

abbrev pub LoadsWord : Placement → Bounds → (State → Type 0) → List Line → ℕ → State → Type 0
LoadsWord place bounds P rest at u = (a x y : ℕ) (n z : Bool) → a ≡ u.mem at → x ≡ u.mem (at + 1) → leads place bounds P rest None (record u { regs = record u.regs { a = a; x = x; y = y; n = n; z = z } })

pub load_word_at : (place : Placement) (bounds : Bounds) (P : State → Type 0) (rest : List Line) (at : ℕ) (u : State)
    → (u.zp 0 + 256 * u.zp 1 + u.regs.y) % 65536 ≡ at + 1 → (u.zp 0 + 256 * u.zp 1 + (u.regs.y + 255) % 256) % 65536 ≡ at → IsReachable place bounds at → IsReachable place bounds (at + 1)
    → LoadsWord place bounds P rest at u → leads place bounds P (load_word_on rest) None u
unfolding leads
load_word_at place bounds P rest at u first second low high follows =
    (subst (λ (b : ℕ). IsReachable place bounds b) (sym first) high, (subst (λ (b : ℕ). IsReachable place bounds b) (sym second) low, follows _ _ _ _ _ (ap u.mem second) (ap u.mem first)))

-- sreg from the upper two of the four bytes at an address
abbrev pub load_sreg_on : List Line → List Line
load_sreg_on rest = by_y Lda sp ∷ zero_page Sta (sreg + 1) ∷ implied Dey ∷ by_y Lda sp ∷ zero_page Sta sreg ∷ implied Dey ∷ rest

abbrev pub LoadsUpper : Placement → Bounds → (State → Type 0) → List Line → ℕ → State → Type 0
LoadsUpper place bounds P rest at u = (a l h : ℕ) (n z : Bool) → l ≡ u.mem (at + 2) → h ≡ u.mem (at + 3)
    → leads place bounds P rest None (record u { regs = record u.regs { a = a; y = ((u.regs.y + 255) % 256 + 255) % 256; n = n; z = z }; zp = write (write u.zp 3 h) 2 l })

pub load_sreg_at : (place : Placement) (bounds : Bounds) (P : State → Type 0) (rest : List Line) (at : ℕ) (u : State)
    → (u.zp 0 + 256 * u.zp 1 + u.regs.y) % 65536 ≡ at + 3 → (u.zp 0 + 256 * u.zp 1 + (u.regs.y + 255) % 256) % 65536 ≡ at + 2 → IsReachable place bounds (at + 2) → IsReachable place bounds (at + 3)
    → LoadsUpper place bounds P rest at u → leads place bounds P (load_sreg_on rest) None u
unfolding leads
load_sreg_at place bounds P rest at u first second low high follows =
    (subst (λ (b : ℕ). IsReachable place bounds b) (sym first) high, (subst (λ (b : ℕ). IsReachable place bounds b) (sym second) low, follows _ _ _ _ _ (ap u.mem second) (ap u.mem first)))

-- ldaxysp and ldax0sp
abbrev word_row : Routine → ℕ → State → Row
word_row r at t = giving Ax (word_at t.mem at) (keeping t (reading 2 at (row_by r t)))

abbrev ldaxysp_row : State → Row
ldaxysp_row t = needing (nat_le 1 t.regs.y) (word_row routines.LdAxYSp (sp_of t + t.regs.y - 1) t)

loads_ax_y : (s : RawSetting) → s.lines (s.routine routines.LdAxYSp) ≡ load_word_on (implied Rts ∷ []) → (back : Place) (t : State) → MayRun s (ldaxysp_row t) t → Runs s routines.LdAxYSp (ldaxysp_row t) back t
loads_ax_y s has back t may =
    let soft = may.room.soft in
    let some : 0 < t.regs.y = lt_true 0 t.regs.y may.room.ready in
    let byte = may.bytes.y in
    let at : ℕ = sp_of t + t.regs.y - 1 in
    let bytes : OpenBytes s.place (reach_of t) 2 at = opens_near s (ldaxysp_row t) 2 at t (omega arith) refl may in
    let one : 1 < 2 = omega arith in
    let two : 0 < 2 = omega arith in
    let end : at + 1 < 65520 = bytes.below 1 one in
    let low = may.bytes.mem at in
    let high = may.bytes.mem (at + 1) in
    runs s routines.LdAxYSp (ldaxysp_row t) back t (load_word_on (implied Rts ∷ [])) has (record { onward = refl; weight = refl; depth = refl }) refl may
    (load_word_at s.place (reach_of t) (Ends (ldaxysp_row t) t) (implied Rts ∷ []) at (called back t) (omega arith) (omega arith) (bytes.first two) (bytes.reach 1 one)
    (λ a x y n z is_a is_x. returns_at s.place (reach_of t) (Ends (ldaxysp_row t) t) (record (called back t) { regs = record t.regs { a = a; x = x; y = y; n = n; z = z } })
    (ends_plain (ldaxysp_row t) back t a x y n t.regs.v z t.regs.c t.zp t.mem [] refl may.running (tt, tt, refl, refl) (λ i two. refl)
    refl (is_a ∙ sym (word_low (t.mem at) (t.mem (at + 1)) low), is_x ∙ sym (word_high (t.mem at) (t.mem (at + 1)) low high), refl) (λ b h. refl))))

abbrev ldax0sp_row : State → Row
ldax0sp_row t = word_row routines.LdAx0Sp (sp_of t) t

loads_ax_0 : (s : RawSetting) → s.lines (s.routine routines.LdAx0Sp) ≡ value Ldy 1 ∷ load_word_on (implied Rts ∷ []) → (back : Place) (t : State) → MayRun s (ldax0sp_row t) t → Runs s routines.LdAx0Sp (ldax0sp_row t) back t
loads_ax_0 s has back t may =
    let soft = may.room.soft in
    let bytes : OpenBytes s.place (reach_of t) 2 (sp_of t) = opens_near s (ldax0sp_row t) 2 (sp_of t) t (omega arith) refl may in
    let one : 1 < 2 = omega arith in
    let two : 0 < 2 = omega arith in
    let end : sp_of t + 1 < 65520 = bytes.below 1 one in
    let low = may.bytes.mem (sp_of t) in
    let high = may.bytes.mem (sp_of t + 1) in
    runs s routines.LdAx0Sp (ldax0sp_row t) back t (value Ldy 1 ∷ load_word_on (implied Rts ∷ [])) has (record { onward = refl; weight = refl; depth = refl }) refl may
    (with_y_at s.place (reach_of t) (Ends (ldax0sp_row t) t) 1 (load_word_on (implied Rts ∷ [])) (called back t) (λ m w.
    load_word_at s.place (reach_of t) (Ends (ldax0sp_row t) t) (implied Rts ∷ []) (sp_of t) (record (called back t) { regs = record t.regs { y = 1; n = m; z = w } }) (omega arith) (omega arith) (bytes.first two) (bytes.reach 1 one)
    (λ a x y n z is_a is_x. returns_at s.place (reach_of t) (Ends (ldax0sp_row t) t) (record (called back t) { regs = record t.regs { a = a; x = x; y = y; n = n; z = z } })
    (ends_plain (ldax0sp_row t) back t a x y n t.regs.v z t.regs.c t.zp t.mem [] refl may.running (tt, tt, refl, refl) (λ i two. refl)
    refl (is_a ∙ sym (word_low (t.mem (sp_of t)) (t.mem (sp_of t + 1)) low), is_x ∙ sym (word_high (t.mem (sp_of t)) (t.mem (sp_of t + 1)) low high), refl) (λ b h. refl)))))

-- popax
abbrev popax_row : State → Row
popax_row t = giving Ax (word_at t.mem (sp_of t)) (keeping t (popping 2 t (row_by routines.PopAx t)))

pops_ax : (s : RawSetting) → s.lines (s.routine routines.PopAx) ≡ value Ldy 1 ∷ load_word_on raise_two → (back : Place) (t : State) → MayRun s (popax_row t) t → Runs s routines.PopAx (popax_row t) back t
pops_ax s has back t may =
    let soft = may.room.soft in
    let bytes : OpenBytes s.place (reach_of t) 2 (sp_of t) = opens_near s (popax_row t) 2 (sp_of t) t (omega arith) refl may in
    let one : 1 < 2 = omega arith in
    let two : 0 < 2 = omega arith in
    let end : sp_of t + 1 < 65520 = bytes.below 1 one in
    let low = may.bytes.mem (sp_of t) in
    let high = may.bytes.mem (sp_of t + 1) in
    runs s routines.PopAx (popax_row t) back t (value Ldy 1 ∷ load_word_on raise_two) has (record { onward = refl; weight = refl; depth = refl }) refl may
    (with_y_at s.place (reach_of t) (Ends (popax_row t) t) 1 (load_word_on raise_two) (called back t) (λ m w.
    load_word_at s.place (reach_of t) (Ends (popax_row t) t) raise_two (sp_of t) (record (called back t) { regs = record t.regs { y = 1; n = m; z = w } }) (omega arith) (omega arith) (bytes.first two) (bytes.reach 1 one)
    (λ a x y n z is_a is_x. raise_two_at s.place (reach_of t) (Ends (popax_row t) t) (record (called back t) { regs = record t.regs { a = a; x = x; y = y; n = n; z = z } }) (may.bytes.zp 0) (may.bytes.zp 1) (omega arith)
    (λ y n v z c zp moved. ends_plain (popax_row t) back t a x y n v z c zp t.mem [] refl may.running (tt, tt, tt, tt) moved.rest
    moved.sp (is_a ∙ sym (word_low (t.mem (sp_of t)) (t.mem (sp_of t + 1)) low), is_x ∙ sym (word_high (t.mem (sp_of t)) (t.mem (sp_of t + 1)) low high), sreg_kept _ _ _ moved) (λ b h. refl)))))

-- popa
top_byte_at : (place : Placement) (bounds : Bounds) (P : State → Type 0) (rest : List Line) (u : State)
    → (u.zp 0 + 256 * u.zp 1 + 0) % 65536 ≡ sp_of u → IsReachable place bounds (sp_of u)
    → ((a : ℕ) (n z : Bool) → a ≡ u.mem (sp_of u) → leads place bounds P rest None (record u { regs = record u.regs { a = a; y = 0; n = n; z = z } }))
    → leads place bounds P (value Ldy 0 ∷ by_y Lda sp ∷ rest) None u
unfolding leads
top_byte_at place bounds P rest u at reach follows = (subst (λ (b : ℕ). IsReachable place bounds b) (sym at) reach, follows _ _ _ (ap u.mem at))

abbrev popa_row : State → Row
popa_row t = record (keeping t (popping 1 t (row_by routines.PopA t))) { a = Some (t.mem (sp_of t)) }

pops_a : (s : RawSetting) → s.lines (s.routine routines.PopA) ≡ value Ldy 0 ∷ by_y Lda sp ∷ raise_one → (back : Place) (t : State) → MayRun s (popa_row t) t → Runs s routines.PopA (popa_row t) back t
pops_a s has back t may =
    let soft = may.room.soft in
    let sp_high = may.high in
    let bytes : OpenBytes s.place (reach_of t) 1 (sp_of t) = opens_near s (popa_row t) 1 (sp_of t) t (omega arith) refl may in
    let one : 0 < 1 = omega arith in
    runs s routines.PopA (popa_row t) back t (value Ldy 0 ∷ by_y Lda sp ∷ raise_one) has (record { onward = refl; weight = refl; depth = refl }) refl may
    (top_byte_at s.place (reach_of t) (Ends (popa_row t) t) raise_one (called back t) (omega arith) (bytes.first one)
    (λ a n z is_a. raise_one_at s.place (reach_of t) (Ends (popa_row t) t) (record (called back t) { regs = record t.regs { a = a; y = 0; n = n; z = z } }) (may.bytes.zp 0) (may.bytes.zp 1) (omega arith)
    (λ y n v z c zp moved. ends_plain (popa_row t) back t a t.regs.x y n v z c zp t.mem [] refl may.running (tt, refl, tt, tt) moved.rest
    moved.sp (is_a, refl, sreg_kept _ _ _ moved) (λ b h. refl))))

pub ldaxysp : (s : RawSetting) → s.lines (s.routine routines.LdAxYSp) ≡ lines_of routines.LdAxYSp → MeetsRow s routines.LdAxYSp
ldaxysp s has = meets_by s routines.LdAxYSp ldaxysp_row (λ t. refl) (loads_ax_y s has)

pub ldax0sp : (s : RawSetting) → s.lines (s.routine routines.LdAx0Sp) ≡ lines_of routines.LdAx0Sp → MeetsRow s routines.LdAx0Sp
ldax0sp s has = meets_by s routines.LdAx0Sp ldax0sp_row (λ t. refl) (loads_ax_0 s has)

pub popax : (s : RawSetting) → s.lines (s.routine routines.PopAx) ≡ lines_of routines.PopAx → MeetsRow s routines.PopAx
popax s has = meets_by s routines.PopAx popax_row (λ t. refl) (pops_ax s has)

pub popa : (s : RawSetting) → s.lines (s.routine routines.PopA) ≡ lines_of routines.PopA → MeetsRow s routines.PopA
popa s has = meets_by s routines.PopA popa_row (λ t. refl) (pops_a s has)
