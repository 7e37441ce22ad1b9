-- The routines that store to the software stack.
use Rattle.std.proofs.Common.{◌≡◌, ℕ, ◌+◌, ◌*◌, ◌%◌, ◌<◌, ◌≤◌, inl, inr, Bool, true, [], ◌∷◌, None, refl, sym, subst, ◌∙◌, arith}
use Rattle.std.specs.Prelude.{nat_le}
use Rattle.std.proofs.lemmas.Bool.Decides.{leb_tells}
use Rattle.c65_mach.specs.declared.rows.Op.TheVariants.{Ldy}
use Rattle.c65_code.specs.declared.routine.Routine.TheVariants as routines
use Rattle.c65_code.specs.LineState.{Place, Bytes, write, State, sp_of}
use Rattle.c65_code.specs.Placement.{Placement}
use Rattle.c65_code.specs.Rows.{Row, row_by, keeping, storing, needing}
use Rattle.c65_code.specs.RawMachine.{RawSetting, Bounds, IsReachable, called, MayRun, Runs, MeetsRow, reach_of}
use Rattle.c65_rtl.specs.Assembly.{value}
use Rattle.c65_rtl.specs.Stack.{store_word, store_long}
use Rattle.c65_rtl.specs.Routines.{lines_of}
use Rattle.c65_rtl.proofs.Ways.{leads, Ends, runs}
use Rattle.c65_rtl.proofs.Plain.{ends_plain}
use Rattle.c65_rtl.proofs.Opens.{OpenBytes, opens_near}
use Rattle.c65_rtl.proofs.SpPieces.{left}
use Rattle.c65_rtl.proofs.Pushes.{meets_by, write_where, write_cong}
use Rattle.c65_rtl.proofs.SpMoves.{with_y_at}

pub le_true : (a b : ℕ) → nat_le a b ≡ true → a ≤ b
le_true a b h = elim (leb_tells a b) [ inl holds ↦ holds.1 | inr fails ↦ (let e = fails.0 in cc) ]

-- an address that equals one that may be reached
pub reach_as : (place : Placement) (bounds : Bounds) (a b : ℕ) → a ≡ b → IsReachable place bounds b → IsReachable place bounds a
reach_as place bounds a b e h = subst (λ (n : ℕ). IsReachable place bounds n) (sym e) h

-- writes at equal addresses to memories that are equal there
pub write_like : (m n : Bytes) (p q v b : ℕ) → p ≡ q → m b ≡ n b → write m p v b ≡ write n q v b
write_like m n p q v b e h = write_where m p q v b e ∙ write_cong m n q v b h

abbrev pub StoredAt : (State → Type 0) → Bytes → State → Type 0
StoredAt P m u = (y : ℕ) (n z : Bool) (mem : Bytes) → ((b : ℕ) → mem b ≡ m b) → P (left u u.regs.a u.regs.x y n u.regs.v z u.regs.c u.zp mem)

store_word_at : (place : Placement) (bounds : Bounds) (P : State → Type 0) (at : ℕ) (u : State) → (u.zp 0 + 256 * u.zp 1 + u.regs.y) % 65536 ≡ at → (u.zp 0 + 256 * u.zp 1 + (u.regs.y + 1) % 256) % 65536 ≡ at + 1
    → IsReachable place bounds at → IsReachable place bounds (at + 1) → StoredAt P (write (write u.mem at u.regs.a) (at + 1) u.regs.x) u → leads place bounds P store_word None (record u { pushed = [] })
unfolding leads
store_word_at place bounds P at u first second low high follows = (
  reach_as place bounds _ at first low,
  (
    reach_as place bounds _ (at + 1) second high,
    follows _ _ _ _ (λ b.
        write_like (write u.mem ((u.zp 0 + 256 * u.zp 1 + u.regs.y) % 65536) u.regs.a) (write u.mem at u.regs.a) _ (at + 1) u.regs.x b second (write_where u.mem _ at u.regs.a b first)),
  ),
)

store_long_at : (place : Placement) (bounds : Bounds) (P : State → Type 0) (at : ℕ) (u : State)
    → (u.zp 0 + 256 * u.zp 1 + u.regs.y) % 65536 ≡ at
    → (u.zp 0 + 256 * u.zp 1 + (u.regs.y + 1) % 256) % 65536 ≡ at + 1
    → (u.zp 0 + 256 * u.zp 1 + ((u.regs.y + 1) % 256 + 1) % 256) % 65536 ≡ at + 1 + 1
    → (u.zp 0 + 256 * u.zp 1 + (((u.regs.y + 1) % 256 + 1) % 256 + 1) % 256) % 65536 ≡ at + 1 + 1 + 1
    → IsReachable place bounds at → IsReachable place bounds (at + 1) → IsReachable place bounds (at + 1 + 1) → IsReachable place bounds (at + 1 + 1 + 1)
    → StoredAt P (write (write (write (write u.mem at u.regs.a) (at + 1) u.regs.x) (at + 1 + 1) (u.zp 2)) (at + 1 + 1 + 1) (u.zp 3)) u
    → leads place bounds P store_long None (record u { pushed = [] })
unfolding leads
store_long_at place bounds P at u e0 e1 e2 e3 r0 r1 r2 r3 follows =
    let a0 : ℕ = (u.zp 0 + 256 * u.zp 1 + u.regs.y) % 65536 in
    let a1 : ℕ = (u.zp 0 + 256 * u.zp 1 + (u.regs.y + 1) % 256) % 65536 in
    let a2 : ℕ = (u.zp 0 + 256 * u.zp 1 + ((u.regs.y + 1) % 256 + 1) % 256) % 65536 in
    let a3 : ℕ = (u.zp 0 + 256 * u.zp 1 + (((u.regs.y + 1) % 256 + 1) % 256 + 1) % 256) % 65536 in
    let m0 : Bytes = write u.mem a0 u.regs.a in
    let m1 : Bytes = write m0 a1 u.regs.x in
    let m2 : Bytes = write m1 a2 (u.zp 2) in
    let m3 : Bytes = write m2 a3 (u.zp 3) in
    let n0 : Bytes = write u.mem at u.regs.a in
    let n1 : Bytes = write n0 (at + 1) u.regs.x in
    let n2 : Bytes = write n1 (at + 1 + 1) (u.zp 2) in (
      reach_as place bounds a0 at e0 r0,
      (
        reach_as place bounds a1 (at + 1) e1 r1,
        (
          reach_as place bounds a2 (at + 1 + 1) e2 r2,
          (
            reach_as place bounds a3 (at + 1 + 1 + 1) e3 r3,
            follows _ _ _ m3 (λ b.
                write_like m2 n2 a3 (at + 1 + 1 + 1) (u.zp 3) b e3 (write_like m1 n1 a2 (at + 1 + 1) (u.zp 2) b e2 (write_like m0 n0 a1 (at + 1) u.regs.x b e1 (write_where u.mem a0 at u.regs.a b e0)))),
          ),
        ),
      ),
    )

-- staxysp and stax0sp
abbrev staxysp_row : State → Row
staxysp_row t = needing (nat_le t.regs.y 254) (keeping t (storing (t.regs.a ∷ t.regs.x ∷ []) (sp_of t + t.regs.y) (row_by routines.StAxYSp t)))

stores_ax_y : (s : RawSetting) → s.lines (s.routine routines.StAxYSp) ≡ store_word → (back : Place) (t : State) → MayRun s (staxysp_row t) t → Runs s routines.StAxYSp (staxysp_row t) back t
stores_ax_y s has back t may =
    let soft = may.room.soft in
    let small : t.regs.y ≤ 254 = le_true t.regs.y 254 may.room.ready in
    let at : ℕ = sp_of t + t.regs.y in
    let bytes : OpenBytes s.place (reach_of t) 2 at = opens_near s (staxysp_row t) 2 at t (omega arith) refl may in
    let one : 1 < 2 = omega arith in
    let two : 0 < 2 = omega arith in
    let end : at + 1 < 65520 = bytes.below 1 one in
    runs s routines.StAxYSp (staxysp_row t) back t store_word has (record { onward = refl; weight = refl; depth = refl }) refl may
    (store_word_at s.place (reach_of t) (Ends (staxysp_row t) t) at (called back t) (omega arith) (omega arith) (bytes.first two) (bytes.reach 1 one)
    (λ y n z mem stored. ends_plain (staxysp_row t) back t t.regs.a t.regs.x y n t.regs.v z t.regs.c t.zp mem [] refl may.running (refl, refl, refl, refl) (λ i two. refl)
    refl (refl, refl, refl) (λ b h. stored b)))

abbrev stax0sp_row : State → Row
stax0sp_row t = keeping t (storing (t.regs.a ∷ t.regs.x ∷ []) (sp_of t) (row_by routines.StAx0Sp t))

stores_ax_0 : (s : RawSetting) → s.lines (s.routine routines.StAx0Sp) ≡ value Ldy 0 ∷ store_word → (back : Place) (t : State) → MayRun s (stax0sp_row t) t → Runs s routines.StAx0Sp (stax0sp_row t) back t
stores_ax_0 s has back t may =
    let soft = may.room.soft in
    let bytes : OpenBytes s.place (reach_of t) 2 (sp_of t) = opens_near s (stax0sp_row t) 2 (sp_of t) t (omega arith) refl may in
    let one : 1 < 2 = omega arith in
    let two : 0 < 2 = omega arith in
    let end : sp_of t + 1 < 65520 = bytes.below 1 one in
    runs s routines.StAx0Sp (stax0sp_row t) back t (value Ldy 0 ∷ store_word) has (record { onward = refl; weight = refl; depth = refl }) refl may
    (with_y_at s.place (reach_of t) (Ends (stax0sp_row t) t) 0 store_word (called back t) (λ m w.
    store_word_at s.place (reach_of t) (Ends (stax0sp_row t) t) (sp_of t) (record (called back t) { regs = record t.regs { y = 0; n = m; z = w } }) (omega arith) (omega arith) (bytes.first two) (bytes.reach 1 one)
    (λ y n z mem stored. ends_plain (stax0sp_row t) back t t.regs.a t.regs.x y n t.regs.v z t.regs.c t.zp mem [] refl may.running (refl, refl, refl, refl) (λ i two. refl)
    refl (refl, refl, refl) (λ b h. stored b))))

-- steaxysp
abbrev steaxysp_row : State → Row
steaxysp_row t = needing (nat_le t.regs.y 252) (keeping t (storing (t.regs.a ∷ t.regs.x ∷ t.zp 2 ∷ t.zp 3 ∷ []) (sp_of t + t.regs.y) (row_by routines.StEaxYSp t)))

stores_eax_y : (s : RawSetting) → s.lines (s.routine routines.StEaxYSp) ≡ store_long → (back : Place) (t : State) → MayRun s (steaxysp_row t) t → Runs s routines.StEaxYSp (steaxysp_row t) back t
stores_eax_y s has back t may =
    let soft = may.room.soft in
    let small : t.regs.y ≤ 252 = le_true t.regs.y 252 may.room.ready in
    let at : ℕ = sp_of t + t.regs.y in
    let bytes : OpenBytes s.place (reach_of t) 4 at = opens_near s (steaxysp_row t) 4 at t (omega arith) refl may in
    let k0 : 0 < 4 = omega arith in
    let k1 : 1 < 4 = omega arith in
    let k2 : 2 < 4 = omega arith in
    let k3 : 3 < 4 = omega arith in
    let end : at + 3 < 65520 = bytes.below 3 k3 in
    let third : at + 1 + 1 ≡ at + 2 = omega arith in
    let fourth : at + 1 + 1 + 1 ≡ at + 3 = omega arith in
    runs s routines.StEaxYSp (steaxysp_row t) back t store_long has (record { onward = refl; weight = refl; depth = refl }) refl may
    (store_long_at s.place (reach_of t) (Ends (steaxysp_row t) t) at (called back t) (omega arith) (omega arith) (omega arith) (omega arith)
    (bytes.first k0) (bytes.reach 1 k1) (reach_as s.place (reach_of t) (at + 1 + 1) (at + 2) third (bytes.reach 2 k2)) (reach_as s.place (reach_of t) (at + 1 + 1 + 1) (at + 3) fourth (bytes.reach 3 k3))
    (λ y n z mem stored. ends_plain (steaxysp_row t) back t t.regs.a t.regs.x y n t.regs.v z t.regs.c t.zp mem [] refl may.running (refl, refl, refl, refl) (λ i two. refl)
    refl (refl, refl, refl) (λ b h. stored b)))

pub staxysp : (s : RawSetting) → s.lines (s.routine routines.StAxYSp) ≡ lines_of routines.StAxYSp → MeetsRow s routines.StAxYSp
staxysp s has = meets_by s routines.StAxYSp staxysp_row (λ t. refl) (stores_ax_y s has)

pub stax0sp : (s : RawSetting) → s.lines (s.routine routines.StAx0Sp) ≡ lines_of routines.StAx0Sp → MeetsRow s routines.StAx0Sp
stax0sp s has = meets_by s routines.StAx0Sp stax0sp_row (λ t. refl) (stores_ax_0 s has)

pub steaxysp : (s : RawSetting) → s.lines (s.routine routines.StEaxYSp) ≡ lines_of routines.StEaxYSp → MeetsRow s routines.StEaxYSp
steaxysp s has = meets_by s routines.StEaxYSp steaxysp_row (λ t. refl) (stores_eax_y s has)
