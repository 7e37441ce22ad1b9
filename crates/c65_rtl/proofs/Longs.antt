-- The routines that load, pop and push four bytes.
use Rattle.std.proofs.Common.{◌≡◌, ◌≢◌, ℕ, ◌+◌, ◌-◌, ◌*◌, ◌/◌, ◌%◌, ◌<◌, ◌≤◌, Bool, List, [], ◌∷◌, Some, None, refl, sym, ap, ◌∙◌, arith}
use Rattle.std.specs.Prelude.{nat_le}
use Rattle.std.proofs.lemmas.List.{append-nil}
use Rattle.c65_mach.specs.declared.rows.Op.TheVariants.{Dey, Lda, Ldy, Pla, Rts, Sta, Txa}
use Rattle.c65_code.specs.declared.routine.Routine.TheVariants as routines
use Rattle.c65_code.specs.declared.routine.Width.TheVariants.{Eax}
use Rattle.c65_code.specs.declared.line.Line.{Line}
use Rattle.c65_code.specs.LineState.{Place, Bytes, write, word_at, State, sp_of, sreg_of}
use Rattle.c65_code.specs.Placement.{Placement}
use Rattle.c65_code.specs.Rows.{Row, row_by, giving, popping, reading, needing, push_row, long_at}
use Rattle.c65_code.specs.RawMachine.{RawSetting, Bounds, called, MayRun, Runs, MeetsRow, reach_of}
use Rattle.c65_rtl.specs.Assembly.{sp, sreg, ptr1, ptr2, implied, value, zero_page, by_y}
use Rattle.c65_rtl.specs.Stack.{raise_by_number, push_long}
use Rattle.c65_rtl.specs.Routines.{lines_of}
use Rattle.c65_rtl.proofs.Ways.{leads, Ends, runs}
use Rattle.c65_rtl.proofs.Meeting.{ends_by, write_swap}
use Rattle.c65_rtl.proofs.Plain.{ends_plain}
use Rattle.c65_rtl.proofs.Opens.{OpenBytes, opens_near}
use Rattle.c65_rtl.proofs.SpPieces.{left, lowers_by, raise_by_at}
use Rattle.c65_rtl.proofs.Pushes.{meets_by, write_where, write_cong, sreg_kept}
use Rattle.c65_rtl.proofs.SpMoves.{with_y_at}
use Rattle.c65_rtl.proofs.Loads.{long_upper, long_low, long_high, returns_at, load_word_on, load_word_at, load_sreg_on, load_sreg_at}
use Rattle.c65_rtl.proofs.Stores.{le_true, reach_as, write_like}

-- writes in the other order
reversed3 : (m : Bytes) (p q r a b c i : ℕ) → q ≢ p → r ≢ p → r ≢ q → write (write (write m r c) q b) p a i ≡ write (write (write m p a) q b) r c i
reversed3 m p q r a b c i qp rp rq =
    write_swap (write m r c) q p b a i qp
    ∙ (write_cong (write (write m r c) p a) (write (write m p a) r c) q b i (write_swap m r p c a i rp) ∙ write_swap (write m p a) r q c b i rq)

reversed4 : (m : Bytes) (p q r s a b c d i : ℕ) → q ≢ p → r ≢ p → r ≢ q → s ≢ p → s ≢ q → s ≢ r
    → write (write (write (write m s d) r c) q b) p a i ≡ write (write (write (write m p a) q b) r c) s d i
reversed4 m p q r s a b c d i qp rp rq sp sq sr =
    let inner : write (write (write m s d) r c) p a i ≡ write (write (write m p a) s d) r c i =
    write_swap (write m s d) r p c a i rp ∙ write_cong (write (write m s d) p a) (write (write m p a) s d) r c i (write_swap m s p d a i sp) in
    write_swap (write (write m s d) r c) q p b a i qp
    ∙ (write_cong (write (write (write m s d) r c) p a) (write (write (write m p a) s d) r c) q b i inner ∙ reversed3 (write m p a) q r s b c d i rq sq sr)

-- the four bytes at sp become sreg, X and the byte that was pushed
abbrev long_lines : List Line
long_lines = value Ldy 3 ∷ zero_page Lda (sreg + 1) ∷ by_y Sta sp ∷ implied Dey ∷ zero_page Lda sreg ∷ by_y Sta sp ∷ implied Dey ∷ implied Txa ∷ by_y Sta sp ∷ implied Dey ∷ implied Pla ∷ by_y Sta sp ∷ implied Rts ∷ []

long_to : (place : Placement) (bounds : Bounds) (P : State → Type 0) (at v : ℕ) (u : State) → u.zp 0 + 256 * u.zp 1 ≡ at → at + 3 < 65536 → OpenBytes place bounds 4 at
    → ((n z : Bool) (mem : Bytes) → ((b : ℕ) → mem b ≡ write (write (write (write u.mem at v) (at + 1) u.regs.x) (at + 1 + 1) (u.zp 2)) (at + 1 + 1 + 1) (u.zp 3) b) → P (left u v u.regs.x 0 n u.regs.v z u.regs.c u.zp mem))
    → leads place bounds P long_lines None (record u { pushed = v ∷ [] })
unfolding leads
long_to place bounds P at v u is fits bytes follows =
    let k0 : 0 < 4 = omega arith in
    let k1 : 1 < 4 = omega arith in
    let k2 : 2 < 4 = omega arith in
    let k3 : 3 < 4 = omega arith in
    let a3 : ℕ = (u.zp 0 + 256 * u.zp 1 + 3) % 65536 in
    let a2 : ℕ = (u.zp 0 + 256 * u.zp 1 + 2) % 65536 in
    let a1 : ℕ = (u.zp 0 + 256 * u.zp 1 + 1) % 65536 in
    let a0 : ℕ = (u.zp 0 + 256 * u.zp 1 + 0) % 65536 in
    let e3 : a3 ≡ at + 3 = omega arith in
    let e2 : a2 ≡ at + 2 = omega arith in
    let e1 : a1 ≡ at + 1 = omega arith in
    let e0 : a0 ≡ at = omega arith in
    let f3 : a3 ≡ at + 1 + 1 + 1 = omega arith in
    let f2 : a2 ≡ at + 1 + 1 = omega arith in
    let m3 : Bytes = write u.mem a3 (u.zp 3) in
    let m2 : Bytes = write m3 a2 (u.zp 2) in
    let m1 : Bytes = write m2 a1 u.regs.x in
    let m0 : Bytes = write m1 a0 v in
    let n3 : Bytes = write u.mem (at + 1 + 1 + 1) (u.zp 3) in
    let n2 : Bytes = write n3 (at + 1 + 1) (u.zp 2) in
    let n1 : Bytes = write n2 (at + 1) u.regs.x in
    let qp : at + 1 ≢ at = omega arith in
    let rp : at + 1 + 1 ≢ at = omega arith in
    let rq : at + 1 + 1 ≢ at + 1 = omega arith in
    let wp : at + 1 + 1 + 1 ≢ at = omega arith in
    let wq : at + 1 + 1 + 1 ≢ at + 1 = omega arith in
    let wr : at + 1 + 1 + 1 ≢ at + 1 + 1 = omega arith in (
      reach_as place bounds a3 (at + 3) e3 (bytes.reach 3 k3),
      (
        reach_as place bounds a2 (at + 2) e2 (bytes.reach 2 k2),
        (
          reach_as place bounds a1 (at + 1) e1 (bytes.reach 1 k1),
          (
            reach_as place bounds a0 at e0 (bytes.first k0),
            follows _ _ m0 (λ b.
                write_like m1 n1 a0 at v b e0 (write_like m2 n2 a1 (at + 1) u.regs.x b e1 (write_like m3 n3 a2 (at + 1 + 1) (u.zp 2) b f2 (write_where u.mem a3 (at + 1 + 1 + 1) (u.zp 3) b f3)))
                ∙ reversed4 u.mem at (at + 1) (at + 1 + 1) (at + 1 + 1 + 1) v u.regs.x (u.zp 2) (u.zp 3) b qp rp rq wp wq wr),
          ),
        ),
      ),
    )

abbrev pusheax_row : State → Row
pusheax_row t = push_row routines.PushEax (t.regs.a ∷ t.regs.x ∷ t.zp 2 ∷ t.zp 3 ∷ []) t

pushes_eax : (s : RawSetting) → s.lines (s.routine routines.PushEax) ≡ push_long → (back : Place) (t : State) → MayRun s (pusheax_row t) t → Runs s routines.PushEax (pusheax_row t) back t
pushes_eax s has back t may =
    let soft = may.room.soft in
    let bytes : OpenBytes s.place (reach_of t) 4 (sp_of t - 4) = opens_near s (pusheax_row t) 4 (sp_of t - 4) t (omega arith) refl may in
    let k3 : 3 < 4 = omega arith in
    let end : sp_of t - 4 + 3 < 65520 = bytes.below 3 k3 in
    let P : State → Type 0 = Ends (pusheax_row t) t in
    runs s routines.PushEax (pusheax_row t) back t push_long has (record { onward = refl; weight = refl; depth = refl }) refl may
    (lowers_by s.place (reach_of t) P 4 long_lines (called back t) (may.bytes.zp 0) (may.bytes.zp 1) (omega arith) (omega arith) (omega arith) (λ b m w z c zp moved.
    long_to s.place (reach_of t) P (sp_of t - 4) t.regs.a (record (called back t) { regs = record { a = b; x = t.regs.x; y = t.regs.y; n = m; v = w; z = z; c = c }; zp = zp }) moved.sp (omega arith) bytes
    (λ n y mem stored.
    let l : zp 2 ≡ t.zp 2 = moved.rest 2 (omega arith) in
    let h : zp 3 ≡ t.zp 3 = moved.rest 3 (omega arith) in
    ends_plain (pusheax_row t) back t t.regs.a t.regs.x 0 n w y c zp mem [] refl may.running (refl, refl, tt, tt) moved.rest
    moved.sp (refl, refl, sreg_kept _ _ _ moved) (λ b i. stored b ∙ ap (λ (k : ℕ). write (write (write (write t.mem (sp_of t - 4) t.regs.a) (sp_of t - 4 + 1) t.regs.x) (sp_of t - 4 + 1 + 1) k) (sp_of t - 4 + 1 + 1 + 1) (zp 3) b) l
    ∙ ap (λ (k : ℕ). write (write (write (write t.mem (sp_of t - 4) t.regs.a) (sp_of t - 4 + 1) t.regs.x) (sp_of t - 4 + 1 + 1) (t.zp 2)) (sp_of t - 4 + 1 + 1 + 1) k b) h))))

-- the bytes of a number of 32 bits at an address
pub record IsLong (m : Bytes) (at : ℕ) (low high upper_low upper_high : ℕ) : Type 0 where
  pub a : low ≡ long_at m at % 256
  pub x : high ≡ long_at m at / 256 % 256
  pub sreg : upper_low + 256 * upper_high ≡ long_at m at / 65536

pub is_long : (m : Bytes) (at a x l h : ℕ) → ((b : ℕ) → m b < 256) → a ≡ m at → x ≡ m (at + 1) → l ≡ m (at + 2) → h ≡ m (at + 3) → IsLong m at a x l h
is_long m at a x l h bytes is_a is_x is_l is_h =
    let b0 = bytes at in
    let b1 = bytes (at + 1) in
    let under : m at + 256 * m (at + 1) < 65536 = omega arith in
    let e : at + 3 ≡ at + 2 + 1 = omega arith in
    let last : h ≡ m (at + 2 + 1) = is_h ∙ ap m e in
    record {
      a = is_a ∙ sym (long_low (m at) (m (at + 1)) (m (at + 2) + 256 * m (at + 2 + 1)) b0);
      x = is_x ∙ sym (long_high (m at) (m (at + 1)) (m (at + 2) + 256 * m (at + 2 + 1)) b0 b1);
      sreg = (let words : l + 256 * h ≡ m (at + 2) + 256 * m (at + 2 + 1) = omega arith in words ∙ sym (long_upper (m at + 256 * m (at + 1)) (m (at + 2) + 256 * m (at + 2 + 1)) under));
    }

abbrev ldeaxysp_row : State → Row
ldeaxysp_row t = needing (nat_le 3 t.regs.y) (giving Eax (long_at t.mem (sp_of t + t.regs.y - 3)) (reading 4 (sp_of t + t.regs.y - 3) (row_by routines.LdEaxYSp t)))

loads_eax_y : (s : RawSetting) → s.lines (s.routine routines.LdEaxYSp) ≡ load_sreg_on (load_word_on (implied Rts ∷ [])) → (back : Place) (t : State) → MayRun s (ldeaxysp_row t) t → Runs s routines.LdEaxYSp (ldeaxysp_row t) back t
loads_eax_y s has back t may =
    let soft = may.room.soft in
    let some : 3 ≤ t.regs.y = le_true 3 t.regs.y may.room.ready in
    let byte = may.bytes.y in
    let at : ℕ = sp_of t + t.regs.y - 3 in
    let bytes : OpenBytes s.place (reach_of t) 4 at = opens_near s (ldeaxysp_row t) 4 at t (omega arith) refl may in
    let k0 : 0 < 4 = omega arith in
    let k1 : 1 < 4 = omega arith in
    let k2 : 2 < 4 = omega arith in
    let k3 : 3 < 4 = omega arith in
    let end : at + 3 < 65520 = bytes.below 3 k3 in
    runs s routines.LdEaxYSp (ldeaxysp_row t) back t (load_sreg_on (load_word_on (implied Rts ∷ []))) has (record { onward = refl; weight = refl; depth = refl }) refl may
    (load_sreg_at s.place (reach_of t) (Ends (ldeaxysp_row t) t) (load_word_on (implied Rts ∷ [])) at (called back t) (omega arith) (omega arith) (bytes.reach 2 k2) (bytes.reach 3 k3)
    (λ b l h m w is_l is_h. load_word_at s.place (reach_of t) (Ends (ldeaxysp_row t) t) (implied Rts ∷ []) at
    (record (called back t) { regs = record t.regs { a = b; y = ((t.regs.y + 255) % 256 + 255) % 256; n = m; z = w }; zp = write (write t.zp 3 h) 2 l }) (omega arith) (omega arith) (bytes.first k0) (bytes.reach 1 k1)
    (λ a x y n z is_a is_x. returns_at s.place (reach_of t) (Ends (ldeaxysp_row t) t) (record (called back t) { regs = record t.regs { a = a; x = x; y = y; n = n; z = z }; zp = write (write t.zp 3 h) 2 l })
    (let long : IsLong t.mem at a x l h = is_long t.mem at a x l h may.bytes.mem is_a is_x is_l is_h in
    ends_plain (ldeaxysp_row t) back t a x y n t.regs.v z t.regs.c (write (write t.zp 3 h) 2 l) t.mem ((3, h) ∷ (2, l) ∷ []) refl may.running (tt, tt, refl, refl) (λ i two. refl)
    refl (long.a, long.x, long.sreg) (λ b h. refl)))))

-- popeax
abbrev popeax_row : State → Row
popeax_row t = giving Eax (long_at t.mem (sp_of t)) (popping 4 t (row_by routines.PopEax t))

abbrev popeax_lines : List Line
popeax_lines = value Ldy 3 ∷ load_sreg_on (load_word_on (raise_by_number 4))

pops_eax : (s : RawSetting) → s.lines (s.routine routines.PopEax) ≡ popeax_lines → (back : Place) (t : State) → MayRun s (popeax_row t) t → Runs s routines.PopEax (popeax_row t) back t
pops_eax s has back t may =
    let soft = may.room.soft in
    let sp_high = may.high in
    let bytes : OpenBytes s.place (reach_of t) 4 (sp_of t) = opens_near s (popeax_row t) 4 (sp_of t) t (omega arith) refl may in
    let k0 : 0 < 4 = omega arith in
    let k1 : 1 < 4 = omega arith in
    let k2 : 2 < 4 = omega arith in
    let k3 : 3 < 4 = omega arith in
    let end : sp_of t + 3 < 65520 = bytes.below 3 k3 in
    let P : State → Type 0 = Ends (popeax_row t) t in
    runs s routines.PopEax (popeax_row t) back t popeax_lines has (record { onward = refl; weight = refl; depth = refl }) refl may
    (with_y_at s.place (reach_of t) P 3 (load_sreg_on (load_word_on (raise_by_number 4))) (called back t) (λ m0 w0.
    load_sreg_at s.place (reach_of t) P (load_word_on (raise_by_number 4)) (sp_of t) (record (called back t) { regs = record t.regs { y = 3; n = m0; z = w0 } }) (omega arith) (omega arith) (bytes.reach 2 k2) (bytes.reach 3 k3)
    (λ b l h m w is_l is_h. load_word_at s.place (reach_of t) P (raise_by_number 4) (sp_of t)
    (record (called back t) { regs = record t.regs { a = b; y = 1; n = m; z = w }; zp = write (write t.zp 3 h) 2 l }) (omega arith) (omega arith) (bytes.first k0) (bytes.reach 1 k1)
    (λ a x y n z is_a is_x.
    let long : IsLong t.mem (sp_of t) a x l h = is_long t.mem (sp_of t) a x l h may.bytes.mem is_a is_x is_l is_h in
    raise_by_at s.place (reach_of t) P 4 (record (called back t) { regs = record t.regs { a = a; x = x; y = y; n = n; z = z }; zp = write (write t.zp 3 h) 2 l }) (may.bytes.zp 0) (may.bytes.zp 1) (omega arith) (omega arith)
    (λ y n v z c zp moved. ends_plain (popeax_row t) back t a x y n v z c zp t.mem ((3, h) ∷ (2, l) ∷ []) refl may.running (tt, tt, tt, tt) moved.rest
    moved.sp (long.a, long.x, sreg_kept _ _ _ moved ∙ long.sreg) (λ b h. refl))))))

-- the words at sp go to ptr1 and ptr2
abbrev pointers_on : List Line → List Line
pointers_on rest = value Ldy 3 ∷ by_y Lda sp ∷ zero_page Sta (ptr2 + 1) ∷ implied Dey ∷ by_y Lda sp ∷ zero_page Sta ptr2 ∷ implied Dey ∷ by_y Lda sp ∷ zero_page Sta (ptr1 + 1) ∷ implied Dey ∷ by_y Lda sp ∷ zero_page Sta ptr1 ∷ rest

pointers_at : (place : Placement) (bounds : Bounds) (P : State → Type 0) (rest : List Line) (at : ℕ) (u : State)
    → (u.zp 0 + 256 * u.zp 1 + 3) % 65536 ≡ at + 3 → (u.zp 0 + 256 * u.zp 1 + 2) % 65536 ≡ at + 2 → (u.zp 0 + 256 * u.zp 1 + 1) % 65536 ≡ at + 1 → (u.zp 0 + 256 * u.zp 1 + 0) % 65536 ≡ at
    → OpenBytes place bounds 4 at
    → ((a p0 p1 q0 q1 : ℕ) (n z : Bool) → p0 ≡ u.mem at → p1 ≡ u.mem (at + 1) → q0 ≡ u.mem (at + 2) → q1 ≡ u.mem (at + 3)
    → leads place bounds P rest None (record u { regs = record u.regs { a = a; y = 0; n = n; z = z }; zp = write (write (write (write u.zp 11 q1) 10 q0) 9 p1) 8 p0 }))
    → leads place bounds P (pointers_on rest) None u
unfolding leads
pointers_at place bounds P rest at u e3 e2 e1 e0 bytes follows =
    let k0 : 0 < 4 = omega arith in
    let k1 : 1 < 4 = omega arith in
    let k2 : 2 < 4 = omega arith in
    let k3 : 3 < 4 = omega arith in (
      reach_as place bounds _ (at + 3) e3 (bytes.reach 3 k3),
      (
        reach_as place bounds _ (at + 2) e2 (bytes.reach 2 k2),
        (
          reach_as place bounds _ (at + 1) e1 (bytes.reach 1 k1),
          (
            reach_as place bounds _ at e0 (bytes.first k0),
            follows _ _ _ _ _ _ _ (ap u.mem e0) (ap u.mem e1) (ap u.mem e2) (ap u.mem e3),
          ),
        ),
      ),
    )

abbrev popptrs_row : State → Row
popptrs_row t = record (popping 4 t (row_by routines.PopPtrs t)) { x = Some t.regs.x; sreg = Some (sreg_of t); pointers = Some (word_at t.mem (sp_of t), word_at t.mem (sp_of t + 2)) }

pops_ptrs : (s : RawSetting) → s.lines (s.routine routines.PopPtrs) ≡ pointers_on (raise_by_number 4) → (back : Place) (t : State) → MayRun s (popptrs_row t) t → Runs s routines.PopPtrs (popptrs_row t) back t
pops_ptrs s has back t may =
    let soft = may.room.soft in
    let sp_high = may.high in
    let bytes : OpenBytes s.place (reach_of t) 4 (sp_of t) = opens_near s (popptrs_row t) 4 (sp_of t) t (omega arith) refl may in
    let k3 : 3 < 4 = omega arith in
    let end : sp_of t + 3 < 65520 = bytes.below 3 k3 in
    let P : State → Type 0 = Ends (popptrs_row t) t in
    runs s routines.PopPtrs (popptrs_row t) back t (pointers_on (raise_by_number 4)) has (record { onward = refl; weight = refl; depth = refl }) refl may
    (pointers_at s.place (reach_of t) P (raise_by_number 4) (sp_of t) (called back t) (omega arith) (omega arith) (omega arith) (omega arith) bytes
    (λ a p0 p1 q0 q1 m w is_p0 is_p1 is_q0 is_q1.
    raise_by_at s.place (reach_of t) P 4 (record (called back t) { regs = record t.regs { a = a; y = 0; n = m; z = w }; zp = write (write (write (write t.zp 11 q1) 10 q0) 9 p1) 8 p0 }) (may.bytes.zp 0) (may.bytes.zp 1) (omega arith) (omega arith)
    (λ y n v z c zp moved. ends_by (popptrs_row t) t (left (called back t) a t.regs.x y n v z c zp t.mem) ((11, q1) ∷ (10, q0) ∷ (9, p1) ∷ (8, p0) ∷ []) (record {
      zp = moved.rest;
      fit = refl;
      small = (refl, refl, refl, refl, refl);
      low_kept = tt;
      high_kept = tt;
      a_kept = tt;
      x_kept = refl;
      sp = moved.sp;
      a = tt;
      x = refl;
      sreg = sreg_kept _ _ _ moved;
      pointers =
          (let z8 : zp 8 ≡ p0 = moved.rest 8 (omega arith) in
          let z9 : zp 9 ≡ p1 = moved.rest 9 (omega arith) in
          let z10 : zp 10 ≡ q0 = moved.rest 10 (omega arith) in
          let z11 : zp 11 ≡ q1 = moved.rest 11 (omega arith) in
          let e : sp_of t + 3 ≡ sp_of t + 2 + 1 = omega arith in
          let last : q1 ≡ t.mem (sp_of t + 2 + 1) = is_q1 ∙ ap t.mem e in
          (omega arith, omega arith));
      bank = tt;
      mem = λ b h. refl;
      input = refl;
      output = sym (append-nil t.output);
      ended = may.running;
    }))))

pub ldeaxysp : (s : RawSetting) → s.lines (s.routine routines.LdEaxYSp) ≡ lines_of routines.LdEaxYSp → MeetsRow s routines.LdEaxYSp
ldeaxysp s has = meets_by s routines.LdEaxYSp ldeaxysp_row (λ t. refl) (loads_eax_y s has)

pub popeax : (s : RawSetting) → s.lines (s.routine routines.PopEax) ≡ lines_of routines.PopEax → MeetsRow s routines.PopEax
popeax s has = meets_by s routines.PopEax popeax_row (λ t. refl) (pops_eax s has)

pub popptrs : (s : RawSetting) → s.lines (s.routine routines.PopPtrs) ≡ lines_of routines.PopPtrs → MeetsRow s routines.PopPtrs
popptrs s has = meets_by s routines.PopPtrs popptrs_row (λ t. refl) (pops_ptrs s has)

pub pusheax : (s : RawSetting) → s.lines (s.routine routines.PushEax) ≡ lines_of routines.PushEax → MeetsRow s routines.PushEax
pusheax s has = meets_by s routines.PushEax pusheax_row (λ t. refl) (pushes_eax s has)
