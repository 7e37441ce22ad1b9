-- The routines that store through a pointer, and those of the register variables.
use Rattle.std.proofs.Common.{◌≡◌, ℕ, ◌+◌, ◌-◌, ◌*◌, ◌%◌, ◌<◌, Bool, List, [], ◌∷◌, Some, None, refl, sym, ap, ◌∙◌, arith}
use Rattle.std.proofs.lemmas.List.{append-nil}
use Rattle.c65_mach.specs.declared.rows.Op.TheVariants.{Dey, Iny, Lda, Ldy, Pla, Rts, Sta, Txa}
use Rattle.c65_code.specs.declared.routine.Routine.TheVariants as routines
use Rattle.c65_code.specs.declared.line.Line.{Line}
use Rattle.c65_code.specs.LineState.{Place, Bytes, write, word_at, State, sp_of}
use Rattle.c65_code.specs.Placement.{Placement}
use Rattle.c65_code.specs.Texts.{bytes_at}
use Rattle.c65_code.specs.Rows.{Row, row_by, keeping, popping, costing, store_row, push_row, bank_of}
use Rattle.c65_code.specs.RawMachine.{RawSetting, Bounds, IsReachable, called, MayRun, Runs, MeetsRow, reach_of}
use Rattle.c65_rtl.specs.Assembly.{sp, sreg, ptr1, tmp1, regbank, implied, value, zero_page, by_y}
use Rattle.c65_rtl.specs.Stack.{raise_two, raise_by_number}
use Rattle.c65_rtl.specs.Memory.{save_bank}
use Rattle.c65_rtl.specs.Routines.{lines_of}
use Rattle.c65_rtl.proofs.Ways.{leads, Ends, runs}
use Rattle.c65_rtl.proofs.Meeting.{ends_by}
use Rattle.c65_rtl.proofs.Plain.{ends_plain}
use Rattle.c65_rtl.proofs.Opens.{OpenBytes, opens_near, opens_far}
use Rattle.c65_rtl.proofs.SpPieces.{left, raise_two_at, lowers_by, raise_by_at}
use Rattle.c65_rtl.proofs.Pushes.{meets_by, write_where, write_cong, sreg_kept}
use Rattle.c65_rtl.proofs.Stores.{reach_as, write_like}

-- A to the address at sp, which goes to ptr1
abbrev first_on : List Line → List Line
first_on rest = zero_page Sta tmp1 ∷ value Ldy 1 ∷ by_y Lda sp ∷ zero_page Sta (ptr1 + 1) ∷ implied Dey ∷ by_y Lda sp ∷ zero_page Sta ptr1 ∷ zero_page Lda tmp1 ∷ by_y Sta ptr1 ∷ rest

-- the zero page with A in tmp1 and an address in ptr1
abbrev held : State → ℕ → ℕ → Bytes
held u l h = write (write (write u.zp 16 u.regs.a) 9 h) 8 l

first_at : (place : Placement) (bounds : Bounds) (P : State → Type 0) (rest : List Line) (at to : ℕ) (u : State)
    → (u.zp 0 + 256 * u.zp 1 + 1) % 65536 ≡ at + 1 → (u.zp 0 + 256 * u.zp 1 + 0) % 65536 ≡ at → (u.mem at + 256 * u.mem (at + 1) + 0) % 65536 ≡ to
    → IsReachable place bounds at → IsReachable place bounds (at + 1) → IsReachable place bounds to
    → ((l h : ℕ) (n z : Bool) (mem : Bytes) → l ≡ u.mem at → h ≡ u.mem (at + 1) → ((b : ℕ) → mem b ≡ write u.mem to u.regs.a b)
    → leads place bounds P rest None (record u { regs = record u.regs { y = 0; n = n; z = z }; zp = held u l h; mem = mem }))
    → leads place bounds P (first_on rest) None u
unfolding leads
first_at place bounds P rest at to u e1 e0 et r0 r1 rt follows =
    let a1 : ℕ = (u.zp 0 + 256 * u.zp 1 + 1) % 65536 in
    let a0 : ℕ = (u.zp 0 + 256 * u.zp 1 + 0) % 65536 in
    let m1 : u.mem a1 ≡ u.mem (at + 1) = ap u.mem e1 in
    let m0 : u.mem a0 ≡ u.mem at = ap u.mem e0 in
    let goes : (u.mem a0 + 256 * u.mem a1 + 0) % 65536 ≡ to = ap (λ (k : ℕ). (k + 256 * u.mem a1 + 0) % 65536) m0 ∙ (ap (λ (k : ℕ). (u.mem at + 256 * k + 0) % 65536) m1 ∙ et) in (
      reach_as place bounds a1 (at + 1) e1 r1,
      (
        reach_as place bounds a0 at e0 r0,
        (
          reach_as place bounds _ to goes rt,
          follows _ _ _ _ (write u.mem ((u.mem a0 + 256 * u.mem a1 + 0) % 65536) u.regs.a) m0 m1 (λ b. write_where u.mem _ to u.regs.a b goes),
        ),
      ),
    )

-- X to the byte behind
abbrev second_on : List Line → List Line
second_on rest = implied Iny ∷ implied Txa ∷ by_y Sta ptr1 ∷ rest

second_at : (place : Placement) (bounds : Bounds) (P : State → Type 0) (rest : List Line) (to : ℕ) (u : State) → (u.zp 8 + 256 * u.zp 9 + (u.regs.y + 1) % 256) % 65536 ≡ to → IsReachable place bounds to
    → ((n z : Bool) (mem : Bytes) → ((b : ℕ) → mem b ≡ write u.mem to u.regs.x b) → leads place bounds P rest None (record u { regs = record u.regs { a = u.regs.x; y = (u.regs.y + 1) % 256; n = n; z = z }; mem = mem }))
    → leads place bounds P (second_on rest) None u
unfolding leads
second_at place bounds P rest to u e r follows =
    (reach_as place bounds _ to e r, follows _ _ (write u.mem ((u.zp 8 + 256 * u.zp 9 + (u.regs.y + 1) % 256) % 65536) u.regs.x) (λ b. write_where u.mem _ to u.regs.x b e))

-- sreg to the two bytes behind
abbrev upper_on : List Line → List Line
upper_on rest = implied Iny ∷ zero_page Lda sreg ∷ by_y Sta ptr1 ∷ implied Iny ∷ zero_page Lda (sreg + 1) ∷ by_y Sta ptr1 ∷ rest

upper_at : (place : Placement) (bounds : Bounds) (P : State → Type 0) (rest : List Line) (low high : ℕ) (u : State)
    → (u.zp 8 + 256 * u.zp 9 + (u.regs.y + 1) % 256) % 65536 ≡ low → (u.zp 8 + 256 * u.zp 9 + ((u.regs.y + 1) % 256 + 1) % 256) % 65536 ≡ high → IsReachable place bounds low → IsReachable place bounds high
    → ((a y : ℕ) (n z : Bool) (mem : Bytes) → ((b : ℕ) → mem b ≡ write (write u.mem low (u.zp 2)) high (u.zp 3) b) → leads place bounds P rest None (record u { regs = record u.regs { a = a; y = y; n = n; z = z }; mem = mem }))
    → leads place bounds P (upper_on rest) None u
unfolding leads
upper_at place bounds P rest low high u el eh rl rh follows =
    let a : ℕ = (u.zp 8 + 256 * u.zp 9 + (u.regs.y + 1) % 256) % 65536 in
    let b : ℕ = (u.zp 8 + 256 * u.zp 9 + ((u.regs.y + 1) % 256 + 1) % 256) % 65536 in (
      reach_as place bounds a low el rl,
      (
        reach_as place bounds b high eh rh,
        follows _ _ _ _ (write (write u.mem a (u.zp 2)) b (u.zp 3)) (λ k.
            write_like (write u.mem a (u.zp 2)) (write u.mem low (u.zp 2)) b high (u.zp 3) k eh (write_where u.mem a low (u.zp 2) k el)),
      ),
    )

-- A from tmp1
pub held_at : (place : Placement) (bounds : Bounds) (P : State → Type 0) (rest : List Line) (u : State)
    → ((n z : Bool) → leads place bounds P rest None (record u { regs = record u.regs { a = u.zp 16; n = n; z = z } })) → leads place bounds P (zero_page Lda tmp1 ∷ rest) None u
unfolding leads
held_at place bounds P rest u follows = follows _ _

abbrev statos_row : State → Row
statos_row t = record (store_row routines.StATos (t.regs.a ∷ []) t) { a = Some t.regs.a }

statos_runs : (s : RawSetting) → s.lines (s.routine routines.StATos) ≡ first_on raise_two → (back : Place) (t : State) → MayRun s (statos_row t) t → Runs s routines.StATos (statos_row t) back t
statos_runs s has back t may =
    let soft = may.room.soft in
    let sp_high = may.high in
    let near : OpenBytes s.place (reach_of t) 2 (sp_of t) = opens_near s (statos_row t) 2 (sp_of t) t (omega arith) refl may in
    let to : ℕ = word_at t.mem (sp_of t) in
    let far : OpenBytes s.place (reach_of t) 1 to = opens_far s (statos_row t) 1 to t refl may in
    let n0 : 0 < 2 = omega arith in
    let n1 : 1 < 2 = omega arith in
    let near_end : sp_of t + 1 < 65520 = near.below 1 n1 in
    let k0 : 0 < 1 = omega arith in
    let far_end : to + 0 < 65520 = far.below 0 k0 in
    let P : State → Type 0 = Ends (statos_row t) t in
    runs s routines.StATos (statos_row t) back t (first_on raise_two) has (record { onward = refl; weight = refl; depth = refl }) refl may
    (first_at s.place (reach_of t) P raise_two (sp_of t) to (called back t) (omega arith) (omega arith) (omega arith) (near.first n0) (near.reach 1 n1) (far.first k0)
    (λ l h m w mem is_l is_h stored.
    raise_two_at s.place (reach_of t) P (record (called back t) { regs = record t.regs { y = 0; n = m; z = w }; zp = held t l h; mem = mem }) (may.bytes.zp 0) (may.bytes.zp 1) (omega arith)
    (λ y n v z c zp moved. ends_plain (statos_row t) back t t.regs.a t.regs.x y n v z c zp mem ((16, t.regs.a) ∷ (9, h) ∷ (8, l) ∷ []) refl may.running (refl, tt, tt, tt) moved.rest
    moved.sp (refl, tt, tt) (λ b i. stored b))))

pub statos : (s : RawSetting) → s.lines (s.routine routines.StATos) ≡ lines_of routines.StATos → MeetsRow s routines.StATos
statos s has = meets_by s routines.StATos statos_row (λ t. refl) (statos_runs s has)

abbrev staxtos_row : State → Row
staxtos_row t = record (store_row routines.StAxTos (t.regs.a ∷ t.regs.x ∷ []) t) { a = Some t.regs.a; x = Some t.regs.x }

staxtos_runs : (s : RawSetting) → s.lines (s.routine routines.StAxTos) ≡ first_on (second_on (zero_page Lda tmp1 ∷ raise_two)) → (back : Place) (t : State) → MayRun s (staxtos_row t) t → Runs s routines.StAxTos (staxtos_row t) back t
staxtos_runs s has back t may =
    let soft = may.room.soft in
    let sp_high = may.high in
    let near : OpenBytes s.place (reach_of t) 2 (sp_of t) = opens_near s (staxtos_row t) 2 (sp_of t) t (omega arith) refl may in
    let to : ℕ = word_at t.mem (sp_of t) in
    let far : OpenBytes s.place (reach_of t) 2 to = opens_far s (staxtos_row t) 2 to t refl may in
    let n0 : 0 < 2 = omega arith in
    let n1 : 1 < 2 = omega arith in
    let near_end : sp_of t + 1 < 65520 = near.below 1 n1 in
    let k0 : 0 < 2 = omega arith in
    let k1 : 1 < 2 = omega arith in
    let far_end : to + 1 < 65520 = far.below 1 k1 in
    let P : State → Type 0 = Ends (staxtos_row t) t in
    runs s routines.StAxTos (staxtos_row t) back t (first_on (second_on (zero_page Lda tmp1 ∷ raise_two))) has (record { onward = refl; weight = refl; depth = refl }) refl may
    (first_at s.place (reach_of t) P (second_on (zero_page Lda tmp1 ∷ raise_two)) (sp_of t) to (called back t) (omega arith) (omega arith) (omega arith) (near.first n0) (near.reach 1 n1) (far.first k0)
    (λ l h m w mem is_l is_h stored.
    second_at s.place (reach_of t) P (zero_page Lda tmp1 ∷ raise_two) (to + 1) (record (called back t) { regs = record t.regs { y = 0; n = m; z = w }; zp = held t l h; mem = mem }) (omega arith) (far.reach 1 k1)
    (λ m1 w1 mem1 stored1. held_at s.place (reach_of t) P raise_two (record (called back t) { regs = record t.regs { a = t.regs.x; y = 1; n = m1; z = w1 }; zp = held t l h; mem = mem1 })
    (λ m2 w2. raise_two_at s.place (reach_of t) P (record (called back t) { regs = record t.regs { y = 1; n = m2; z = w2 }; zp = held t l h; mem = mem1 }) (may.bytes.zp 0) (may.bytes.zp 1) (omega arith)
    (λ y n v z c zp moved. ends_plain (staxtos_row t) back t t.regs.a t.regs.x y n v z c zp mem1 ((16, t.regs.a) ∷ (9, h) ∷ (8, l) ∷ []) refl may.running (refl, refl, tt, tt) moved.rest
    moved.sp (refl, refl, tt) (λ b i. stored1 b ∙ write_cong mem (write t.mem to t.regs.a) (to + 1) t.regs.x b (stored b)))))))

pub staxtos : (s : RawSetting) → s.lines (s.routine routines.StAxTos) ≡ lines_of routines.StAxTos → MeetsRow s routines.StAxTos
staxtos s has = meets_by s routines.StAxTos staxtos_row (λ t. refl) (staxtos_runs s has)

abbrev steaxtos_row : State → Row
steaxtos_row t = keeping t (store_row routines.StEaxTos (t.regs.a ∷ t.regs.x ∷ t.zp 2 ∷ t.zp 3 ∷ []) t)

steaxtos_runs : (s : RawSetting) → s.lines (s.routine routines.StEaxTos) ≡ first_on (second_on (upper_on (zero_page Lda tmp1 ∷ raise_two))) → (back : Place) (t : State) → MayRun s (steaxtos_row t) t → Runs s routines.StEaxTos (steaxtos_row t) back t
steaxtos_runs s has back t may =
    let soft = may.room.soft in
    let sp_high = may.high in
    let near : OpenBytes s.place (reach_of t) 2 (sp_of t) = opens_near s (steaxtos_row t) 2 (sp_of t) t (omega arith) refl may in
    let to : ℕ = word_at t.mem (sp_of t) in
    let far : OpenBytes s.place (reach_of t) 4 to = opens_far s (steaxtos_row t) 4 to t refl may in
    let n0 : 0 < 2 = omega arith in
    let n1 : 1 < 2 = omega arith in
    let near_end : sp_of t + 1 < 65520 = near.below 1 n1 in
    let k0 : 0 < 4 = omega arith in
    let k1 : 1 < 4 = omega arith in
    let k2 : 2 < 4 = omega arith in
    let k3 : 3 < 4 = omega arith in
    let far_end : to + 3 < 65520 = far.below 3 k3 in
    let P : State → Type 0 = Ends (steaxtos_row t) t in
    runs s routines.StEaxTos (steaxtos_row t) back t (first_on (second_on (upper_on (zero_page Lda tmp1 ∷ raise_two)))) has (record { onward = refl; weight = refl; depth = refl }) refl may
    (first_at s.place (reach_of t) P (second_on (upper_on (zero_page Lda tmp1 ∷ raise_two))) (sp_of t) to (called back t) (omega arith) (omega arith) (omega arith) (near.first n0) (near.reach 1 n1) (far.first k0)
    (λ l h m w mem is_l is_h stored.
    second_at s.place (reach_of t) P (upper_on (zero_page Lda tmp1 ∷ raise_two)) (to + 1) (record (called back t) { regs = record t.regs { y = 0; n = m; z = w }; zp = held t l h; mem = mem }) (omega arith) (far.reach 1 k1)
    (λ m1 w1 mem1 stored1.
    let third : to + 1 + 1 ≡ to + 2 = omega arith in
    let fourth : to + 1 + 1 + 1 ≡ to + 3 = omega arith in
    upper_at s.place (reach_of t) P (zero_page Lda tmp1 ∷ raise_two) (to + 1 + 1) (to + 1 + 1 + 1) (record (called back t) { regs = record t.regs { a = t.regs.x; y = 1; n = m1; z = w1 }; zp = held t l h; mem = mem1 }) (omega arith) (omega arith)
    (reach_as s.place (reach_of t) (to + 1 + 1) (to + 2) third (far.reach 2 k2)) (reach_as s.place (reach_of t) (to + 1 + 1 + 1) (to + 3) fourth (far.reach 3 k3))
    (λ a2 y2 m2 w2 mem2 stored2. held_at s.place (reach_of t) P raise_two (record (called back t) { regs = record t.regs { a = a2; y = y2; n = m2; z = w2 }; zp = held t l h; mem = mem2 })
    (λ m3 w3. raise_two_at s.place (reach_of t) P (record (called back t) { regs = record t.regs { y = y2; n = m3; z = w3 }; zp = held t l h; mem = mem2 }) (may.bytes.zp 0) (may.bytes.zp 1) (omega arith)
    (λ y n v z c zp moved. ends_plain (steaxtos_row t) back t t.regs.a t.regs.x y n v z c zp mem2 ((16, t.regs.a) ∷ (9, h) ∷ (8, l) ∷ []) refl may.running (refl, refl, tt, tt) moved.rest
    moved.sp (refl, refl, sreg_kept _ _ _ moved) (λ b i.
    (let n1 : Bytes = write t.mem to t.regs.a in
    let n2 : Bytes = write n1 (to + 1) t.regs.x in
    let step : mem1 b ≡ n2 b = stored1 b ∙ write_cong mem n1 (to + 1) t.regs.x b (stored b) in
    stored2 b ∙ write_cong (write mem1 (to + 1 + 1) (t.zp 2)) (write n2 (to + 1 + 1) (t.zp 2)) (to + 1 + 1 + 1) (t.zp 3) b (write_cong mem1 n2 (to + 1 + 1) (t.zp 2) b step)))))))))

pub steaxtos : (s : RawSetting) → s.lines (s.routine routines.StEaxTos) ≡ lines_of routines.StEaxTos → MeetsRow s routines.StEaxTos
steaxtos s has = meets_by s routines.StEaxTos steaxtos_row (λ t. refl) (steaxtos_runs s has)

-- the bytes of regbank go to sp
abbrev bank_lines : List Line
bank_lines = value Ldy 0 ∷ zero_page Lda regbank ∷ by_y Sta sp ∷ implied Iny ∷ zero_page Lda (regbank + 1) ∷ by_y Sta sp ∷ implied Iny ∷ zero_page Lda (regbank + 2) ∷ by_y Sta sp ∷ implied Iny ∷ zero_page Lda (regbank + 3) ∷ by_y Sta sp ∷ implied Iny ∷ zero_page Lda (regbank + 4) ∷ by_y Sta sp ∷ implied Iny ∷ zero_page Lda (regbank + 5) ∷ by_y Sta sp ∷ implied Pla ∷ implied Rts ∷ []

bank_to : (place : Placement) (bounds : Bounds) (P : State → Type 0) (at v : ℕ) (u : State) → u.zp 0 + 256 * u.zp 1 ≡ at → at + 5 < 65536 → OpenBytes place bounds 6 at
    → ((n z : Bool) (mem : Bytes) → ((b : ℕ) → mem b ≡ write (write (write (write (write (write u.mem at (u.zp 20)) (at + 1) (u.zp 21)) (at + 1 + 1) (u.zp 22)) (at + 1 + 1 + 1) (u.zp 23)) (at + 1 + 1 + 1 + 1) (u.zp 24)) (at + 1 + 1 + 1 + 1 + 1) (u.zp 25) b) → P (left u v u.regs.x 5 n u.regs.v z u.regs.c u.zp mem))
    → leads place bounds P bank_lines None (record u { pushed = v ∷ [] })
unfolding leads
bank_to place bounds P at v u is fits bytes follows =
    let a0 : ℕ = (u.zp 0 + 256 * u.zp 1 + 0) % 65536 in
    let e0 : a0 ≡ at = omega arith in
    let k0 : 0 < 6 = omega arith in
    let a1 : ℕ = (u.zp 0 + 256 * u.zp 1 + 1) % 65536 in
    let e1 : a1 ≡ at + 1 = omega arith in
    let k1 : 1 < 6 = omega arith in
    let a2 : ℕ = (u.zp 0 + 256 * u.zp 1 + 2) % 65536 in
    let e2 : a2 ≡ at + 2 = omega arith in
    let f2 : a2 ≡ at + 1 + 1 = omega arith in
    let k2 : 2 < 6 = omega arith in
    let a3 : ℕ = (u.zp 0 + 256 * u.zp 1 + 3) % 65536 in
    let e3 : a3 ≡ at + 3 = omega arith in
    let f3 : a3 ≡ at + 1 + 1 + 1 = omega arith in
    let k3 : 3 < 6 = omega arith in
    let a4 : ℕ = (u.zp 0 + 256 * u.zp 1 + 4) % 65536 in
    let e4 : a4 ≡ at + 4 = omega arith in
    let f4 : a4 ≡ at + 1 + 1 + 1 + 1 = omega arith in
    let k4 : 4 < 6 = omega arith in
    let a5 : ℕ = (u.zp 0 + 256 * u.zp 1 + 5) % 65536 in
    let e5 : a5 ≡ at + 5 = omega arith in
    let f5 : a5 ≡ at + 1 + 1 + 1 + 1 + 1 = omega arith in
    let k5 : 5 < 6 = omega arith in
    let m0 : Bytes = write u.mem a0 (u.zp 20) in
    let m1 : Bytes = write m0 a1 (u.zp 21) in
    let m2 : Bytes = write m1 a2 (u.zp 22) in
    let m3 : Bytes = write m2 a3 (u.zp 23) in
    let m4 : Bytes = write m3 a4 (u.zp 24) in
    let m5 : Bytes = write m4 a5 (u.zp 25) in
    let n0 : Bytes = write u.mem (at) (u.zp 20) in
    let n1 : Bytes = write n0 (at + 1) (u.zp 21) in
    let n2 : Bytes = write n1 (at + 1 + 1) (u.zp 22) in
    let n3 : Bytes = write n2 (at + 1 + 1 + 1) (u.zp 23) in
    let n4 : Bytes = write n3 (at + 1 + 1 + 1 + 1) (u.zp 24) in
    (reach_as place bounds a0 at e0 (bytes.first k0), (reach_as place bounds a1 (at + 1) e1 (bytes.reach 1 k1), (reach_as place bounds a2 (at + 2) e2 (bytes.reach 2 k2), (reach_as place bounds a3 (at + 3) e3 (bytes.reach 3 k3), (reach_as place bounds a4 (at + 4) e4 (bytes.reach 4 k4), (reach_as place bounds a5 (at + 5) e5 (bytes.reach 5 k5), follows _ _ m5 (λ b. write_like m4 n4 a5 (at + 1 + 1 + 1 + 1 + 1) (u.zp 25) b f5 (write_like m3 n3 a4 (at + 1 + 1 + 1 + 1) (u.zp 24) b f4 (write_like m2 n2 a3 (at + 1 + 1 + 1) (u.zp 23) b f3 (write_like m1 n1 a2 (at + 1 + 1) (u.zp 22) b f2 (write_like m0 n0 a1 (at + 1) (u.zp 21) b e1 (write_where u.mem a0 at (u.zp 20) b e0))))))))))))

abbrev saveregs_row : State → Row
saveregs_row t = costing 256 (push_row routines.SaveRegs (bank_of t) t)

saveregs_runs : (s : RawSetting) → s.lines (s.routine routines.SaveRegs) ≡ save_bank → (back : Place) (t : State) → MayRun s (saveregs_row t) t → Runs s routines.SaveRegs (saveregs_row t) back t
saveregs_runs s has back t may =
    let soft = may.room.soft in
    let bytes : OpenBytes s.place (reach_of t) 6 (sp_of t - 6) = opens_near s (saveregs_row t) 6 (sp_of t - 6) t (omega arith) refl may in
    let k5 : 5 < 6 = omega arith in
    let end : sp_of t - 6 + 5 < 65520 = bytes.below 5 k5 in
    let P : State → Type 0 = Ends (saveregs_row t) t in
    runs s routines.SaveRegs (saveregs_row t) back t save_bank has (record { onward = refl; weight = refl; depth = refl }) refl may
    (lowers_by s.place (reach_of t) P 6 bank_lines (called back t) (may.bytes.zp 0) (may.bytes.zp 1) (omega arith) (omega arith) (omega arith) (λ a m w q c zp moved.
    bank_to s.place (reach_of t) P (sp_of t - 6) t.regs.a (record (called back t) { regs = record { a = a; x = t.regs.x; y = t.regs.y; n = m; v = w; z = q; c = c }; zp = zp }) moved.sp (omega arith) bytes
    (λ n y mem stored.
    let z0 : zp 20 ≡ t.zp 20 = moved.rest 20 (omega arith) in
    let z1 : zp 21 ≡ t.zp 21 = moved.rest 21 (omega arith) in
    let z2 : zp 22 ≡ t.zp 22 = moved.rest 22 (omega arith) in
    let z3 : zp 23 ≡ t.zp 23 = moved.rest 23 (omega arith) in
    let z4 : zp 24 ≡ t.zp 24 = moved.rest 24 (omega arith) in
    let z5 : zp 25 ≡ t.zp 25 = moved.rest 25 (omega arith) in
    ends_plain (saveregs_row t) back t t.regs.a t.regs.x 5 n w y c zp mem [] refl may.running (refl, refl, tt, tt) moved.rest
    moved.sp (refl, refl, sreg_kept _ _ _ moved) (λ b i. stored b ∙ (ap (λ (k : ℕ). write (write (write (write (write (write t.mem (sp_of t - 6) (k)) (sp_of t - 6 + 1) (zp 21)) (sp_of t - 6 + 1 + 1) (zp 22)) (sp_of t - 6 + 1 + 1 + 1) (zp 23)) (sp_of t - 6 + 1 + 1 + 1 + 1) (zp 24)) (sp_of t - 6 + 1 + 1 + 1 + 1 + 1) (zp 25) b) z0 ∙ (ap (λ (k : ℕ). write (write (write (write (write (write t.mem (sp_of t - 6) (t.zp 20)) (sp_of t - 6 + 1) (k)) (sp_of t - 6 + 1 + 1) (zp 22)) (sp_of t - 6 + 1 + 1 + 1) (zp 23)) (sp_of t - 6 + 1 + 1 + 1 + 1) (zp 24)) (sp_of t - 6 + 1 + 1 + 1 + 1 + 1) (zp 25) b) z1 ∙ (ap (λ (k : ℕ). write (write (write (write (write (write t.mem (sp_of t - 6) (t.zp 20)) (sp_of t - 6 + 1) (t.zp 21)) (sp_of t - 6 + 1 + 1) (k)) (sp_of t - 6 + 1 + 1 + 1) (zp 23)) (sp_of t - 6 + 1 + 1 + 1 + 1) (zp 24)) (sp_of t - 6 + 1 + 1 + 1 + 1 + 1) (zp 25) b) z2 ∙ (ap (λ (k : ℕ). write (write (write (write (write (write t.mem (sp_of t - 6) (t.zp 20)) (sp_of t - 6 + 1) (t.zp 21)) (sp_of t - 6 + 1 + 1) (t.zp 22)) (sp_of t - 6 + 1 + 1 + 1) (k)) (sp_of t - 6 + 1 + 1 + 1 + 1) (zp 24)) (sp_of t - 6 + 1 + 1 + 1 + 1 + 1) (zp 25) b) z3 ∙ (ap (λ (k : ℕ). write (write (write (write (write (write t.mem (sp_of t - 6) (t.zp 20)) (sp_of t - 6 + 1) (t.zp 21)) (sp_of t - 6 + 1 + 1) (t.zp 22)) (sp_of t - 6 + 1 + 1 + 1) (t.zp 23)) (sp_of t - 6 + 1 + 1 + 1 + 1) (k)) (sp_of t - 6 + 1 + 1 + 1 + 1 + 1) (zp 25) b) z4 ∙ (ap (λ (k : ℕ). write (write (write (write (write (write t.mem (sp_of t - 6) (t.zp 20)) (sp_of t - 6 + 1) (t.zp 21)) (sp_of t - 6 + 1 + 1) (t.zp 22)) (sp_of t - 6 + 1 + 1 + 1) (t.zp 23)) (sp_of t - 6 + 1 + 1 + 1 + 1) (t.zp 24)) (sp_of t - 6 + 1 + 1 + 1 + 1 + 1) (k) b) z5))))))))))

pub saveregs : (s : RawSetting) → s.lines (s.routine routines.SaveRegs) ≡ lines_of routines.SaveRegs → MeetsRow s routines.SaveRegs
saveregs s has = meets_by s routines.SaveRegs saveregs_row (λ t. refl) (saveregs_runs s has)

-- the six bytes at sp go to regbank
abbrev restore_on : List Line → List Line
restore_on rest = zero_page Sta tmp1 ∷ value Ldy 0 ∷ by_y Lda sp ∷ zero_page Sta regbank ∷ implied Iny ∷ by_y Lda sp ∷ zero_page Sta (regbank + 1) ∷ implied Iny ∷ by_y Lda sp ∷ zero_page Sta (regbank + 2) ∷ implied Iny ∷ by_y Lda sp ∷ zero_page Sta (regbank + 3) ∷ implied Iny ∷ by_y Lda sp ∷ zero_page Sta (regbank + 4) ∷ implied Iny ∷ by_y Lda sp ∷ zero_page Sta (regbank + 5) ∷ zero_page Lda tmp1 ∷ rest

restore_at : (place : Placement) (bounds : Bounds) (P : State → Type 0) (rest : List Line) (at : ℕ) (u : State) → u.zp 0 + 256 * u.zp 1 ≡ at → at + 5 < 65536 → OpenBytes place bounds 6 at
    → ((q0 q1 q2 q3 q4 q5 : ℕ) (n z : Bool) → q0 ≡ u.mem at → q1 ≡ u.mem (at + 1) → q2 ≡ u.mem (at + 2) → q3 ≡ u.mem (at + 3) → q4 ≡ u.mem (at + 4) → q5 ≡ u.mem (at + 5)
    → leads place bounds P rest None (record u { regs = record u.regs { y = 5; n = n; z = z }; zp = (write (write (write (write (write (write (write u.zp 16 u.regs.a) 20 q0) 21 q1) 22 q2) 23 q3) 24 q4) 25 q5) }))
    → leads place bounds P (restore_on rest) None u
unfolding leads
restore_at place bounds P rest at u is fits bytes follows =
    let a0 : ℕ = (u.zp 0 + 256 * u.zp 1 + 0) % 65536 in
    let k0 : 0 < 6 = omega arith in
    let e0 : a0 ≡ at = omega arith in
    let a1 : ℕ = (u.zp 0 + 256 * u.zp 1 + 1) % 65536 in
    let k1 : 1 < 6 = omega arith in
    let e1 : a1 ≡ at + 1 = omega arith in
    let a2 : ℕ = (u.zp 0 + 256 * u.zp 1 + 2) % 65536 in
    let k2 : 2 < 6 = omega arith in
    let e2 : a2 ≡ at + 2 = omega arith in
    let a3 : ℕ = (u.zp 0 + 256 * u.zp 1 + 3) % 65536 in
    let k3 : 3 < 6 = omega arith in
    let e3 : a3 ≡ at + 3 = omega arith in
    let a4 : ℕ = (u.zp 0 + 256 * u.zp 1 + 4) % 65536 in
    let k4 : 4 < 6 = omega arith in
    let e4 : a4 ≡ at + 4 = omega arith in
    let a5 : ℕ = (u.zp 0 + 256 * u.zp 1 + 5) % 65536 in
    let k5 : 5 < 6 = omega arith in
    let e5 : a5 ≡ at + 5 = omega arith in
    (reach_as place bounds a0 at e0 (bytes.first k0), (reach_as place bounds a1 (at + 1) e1 (bytes.reach 1 k1), (reach_as place bounds a2 (at + 2) e2 (bytes.reach 2 k2), (reach_as place bounds a3 (at + 3) e3 (bytes.reach 3 k3), (reach_as place bounds a4 (at + 4) e4 (bytes.reach 4 k4), (reach_as place bounds a5 (at + 5) e5 (bytes.reach 5 k5), follows _ _ _ _ _ _ _ _ (ap u.mem e0) (ap u.mem e1) (ap u.mem e2) (ap u.mem e3) (ap u.mem e4) (ap u.mem e5)))))))

abbrev restregs_row : State → Row
restregs_row t = costing 256 (record (keeping t (popping 6 t (row_by routines.RestRegs t))) { bank = Some (bytes_at 6 (sp_of t) t.mem) })

restregs_runs : (s : RawSetting) → s.lines (s.routine routines.RestRegs) ≡ restore_on (raise_by_number 6) → (back : Place) (t : State) → MayRun s (restregs_row t) t → Runs s routines.RestRegs (restregs_row t) back t
restregs_runs s has back t may =
    let soft = may.room.soft in
    let sp_high = may.high in
    let bytes : OpenBytes s.place (reach_of t) 6 (sp_of t) = opens_near s (restregs_row t) 6 (sp_of t) t (omega arith) refl may in
    let k5 : 5 < 6 = omega arith in
    let end : sp_of t + 5 < 65520 = bytes.below 5 k5 in
    let P : State → Type 0 = Ends (restregs_row t) t in
    runs s routines.RestRegs (restregs_row t) back t (restore_on (raise_by_number 6)) has (record { onward = refl; weight = refl; depth = refl }) refl may
    (restore_at s.place (reach_of t) P (raise_by_number 6) (sp_of t) (called back t) refl (omega arith) bytes
    (λ q0 q1 q2 q3 q4 q5 m w is0 is1 is2 is3 is4 is5.
    raise_by_at s.place (reach_of t) P 6 (record (called back t) { regs = record t.regs { y = 5; n = m; z = w }; zp = (write (write (write (write (write (write (write t.zp 16 t.regs.a) 20 q0) 21 q1) 22 q2) 23 q3) 24 q4) 25 q5) }) (may.bytes.zp 0) (may.bytes.zp 1) (omega arith) (omega arith)
    (λ y n v z c zp moved. ends_by (restregs_row t) t (left (called back t) t.regs.a t.regs.x y n v z c zp t.mem) ((16, t.regs.a) ∷ (20, q0) ∷ (21, q1) ∷ (22, q2) ∷ (23, q3) ∷ (24, q4) ∷ (25, q5) ∷ []) (record {
      zp = moved.rest;
      fit = refl;
      small = (refl, refl, refl, refl, refl);
      low_kept = tt;
      high_kept = tt;
      a_kept = refl;
      x_kept = refl;
      sp = moved.sp;
      a = refl;
      x = refl;
      sreg = sreg_kept _ _ _ moved;
      pointers = tt;
      bank = (moved.rest 20 (omega arith) ∙ is0, ((let e : sp_of t + 1 ≡ sp_of t + 1 = omega arith in moved.rest 21 (omega arith) ∙ (is1 ∙ ap t.mem e)), ((let e : sp_of t + 2 ≡ sp_of t + 1 + 1 = omega arith in moved.rest 22 (omega arith) ∙ (is2 ∙ ap t.mem e)), ((let e : sp_of t + 3 ≡ sp_of t + 1 + 1 + 1 = omega arith in moved.rest 23 (omega arith) ∙ (is3 ∙ ap t.mem e)), ((let e : sp_of t + 4 ≡ sp_of t + 1 + 1 + 1 + 1 = omega arith in moved.rest 24 (omega arith) ∙ (is4 ∙ ap t.mem e)), ((let e : sp_of t + 5 ≡ sp_of t + 1 + 1 + 1 + 1 + 1 = omega arith in moved.rest 25 (omega arith) ∙ (is5 ∙ ap t.mem e)), tt))))));
      mem = λ b h. refl;
      input = refl;
      output = sym (append-nil t.output);
      ended = may.running;
    }))))

pub restregs : (s : RawSetting) → s.lines (s.routine routines.RestRegs) ≡ lines_of routines.RestRegs → MeetsRow s routines.RestRegs
restregs s has = meets_by s routines.RestRegs restregs_row (λ t. refl) (restregs_runs s has)
