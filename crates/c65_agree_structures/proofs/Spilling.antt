-- The lines that put the bytes of the primary register where an address is.
use Rattle.std.proofs.Common.{◌≡◌, ℕ, suc, ◌+◌, ◌*◌, ◌%◌, ◌<◌, ◌≤◌, inl, List, ◌++◌, None, false, refl, sym, ap, ◌∙◌, subst, arith, length-append}
use Rattle.std.specs.Prelude.{length}
use Rattle.c65_mach.specs.declared.rows.Op.TheVariants.{Iny, Lda, Ldx, Ldy, Sta, Stx}
use Rattle.c65_mach.specs.declared.rows.Mode.TheVariants.{Implied, Immediate, ZeroPage}
use Rattle.c65_mach.specs.State.{Regs}
use Rattle.c65_mach.specs.Step.{apply}
use Rattle.c65_meaning.specs.State as meaning
use Rattle.c65_code.specs.declared.line.Operand.TheVariants.{Nothing, Byte, Zero}
use Rattle.c65_code.specs.declared.line.Line.{Line}
use Rattle.c65_code.specs.LineState.{Bytes, write, State, sp_of, ax_of, eax_of, IsBytes}
use Rattle.c65_code.specs.Placement.{IsPlacement}
use Rattle.c65_code.specs.Steady.{IsOpen}
use Rattle.c65_code.specs.Comes.{Seen}
use Rattle.c65_genload.specs.declared.places.Extent.{Extent}
use Rattle.c65_genload.specs.declared.places.Extent.TheVariants.{One, Two, Three, Four}
use Rattle.c65_genload.specs.Addresses.{address_code}
use Rattle.c65_genexpr.specs.Spills.{kept_code, first_code, next_code, further_code, again_code, spill_code}
use Rattle.c65_agree_store.specs.Laws.{byte_of}
use Rattle.c65_agree_state.specs.World.{World, Active, lines_of, place_in, HasAt, HasTurns}
use Rattle.c65_agree_state.specs.Follows.{Follows}
use Rattle.c65_agree_state.proofs.Followed.{follows_weaken}
use Rattle.c65_agree_state.proofs.Nodes.{has_front, has_back}
use Rattle.c65_agree_rows.proofs.Quiet.{write_other, write_same}
use Rattle.c65_agree_put.proofs.Stores.{HasFour, four_bytes}
use Rattle.c65_agree_frame.specs.Leads.{IsOn}
use Rattle.c65_agree_load.specs.Loads.{bytes_of}
use Rattle.c65_agree_part.proofs.Lines.{IsLike, like_itself, like_registers, like_scratch, same_sp, HasConstants, calm_like, line_goes, through_goes, filled, filled_constants}
use Rattle.c65_agree_registers.proofs.Addresses.{address_regs, address_is, address_leads}

module _ (g : World) (a : Active) (placed : IsPlacement g.code g.place) (t : State) (on : IsOn g t) (constants : HasConstants g t.mem) (at to size : ℕ) (small : at < 65536) (to_is : sp_of t + at ≡ to) (some : 1 ≤ size) (most : size ≤ 4) (inside : to + size ≤ 65520)
    (opened : (i : ℕ) → i < size → IsOpen g.place (sp_of t) (to + i)) (varying : (i : ℕ) → i < size → g.place.constant (to + i) ≡ None) (n turns : ℕ) (m : meaning.State) where
  abbrev bytes : IsBytes t
  bytes = on.stacks.calm.bytes

  abbrev f : ℕ → ℕ
  f i = byte_of i (eax_of t)

  abbrev memory : ℕ → Bytes
  memory done = filled t.mem to (λ _ j. f j) done

  four : HasFour t
  four = four_bytes t bytes

  constant : (done : ℕ) → done ≤ size → HasConstants g (memory done)
  constant done le = filled_constants t.mem to (λ _ j. f j) g done (λ i lt. varying i (omega (arith, lt, le))) constants

  on_like : (u : State) → IsLike t t.mem u → IsOn g u
  on_like u like =
      let sp = same_sp t t.mem u like in
      record {
        stacks = record { calm = calm_like g t t.mem u on.stacks.calm constants like; soft = omega (arith, sp, on.stacks.soft); hard = rw (like.pushed, like.frames) on.stacks.hard };
        running = like.ended ∙ on.running;
      }

  -- A and X are put away, and so many bytes stand there; Y counts
  record IsLaying (done : ℕ) (u : State) : Type 0 where
    like : IsLike t (memory done) u
    low : u.zp 16 ≡ t.regs.a
    high : u.zp 17 ≡ t.regs.x
    word : u.zp 8 + 256 * u.zp 9 ≡ to
    y : u.regs.y + 1 ≡ done

  abbrev Goes : ℕ → ℕ → State → Seen → Type 0
  Goes v p u seen = Follows g n v m (place_in g a p) u seen

  abbrev Come : ℕ → Seen → Type 0
  Come p seen = HasTurns g turns (place_in g a p) seen

  -- ---- A and X are put away

  abbrev z16 : Bytes
  z16 = write t.zp 16 t.regs.a

  abbrev z17 : Bytes
  z17 = write z16 17 t.regs.x

  abbrev away : State
  away = record t { zp = z17 }

  kept_goes : (v p : ℕ) (seen : Seen) → HasAt (lines_of g a) p kept_code → Come p seen → (IsLike t t.mem away → (later : Seen) → Come (p + length kept_code) later → Goes v (p + length kept_code) away later) → Goes (2 + v) p t seen
  kept_goes v p seen has turned goes =
      let itself = like_itself t bytes in
      let ends : suc (suc p) ≡ p + length kept_code = omega arith in
      follows_weaken g n (1 + (1 + v)) (2 + v) m (place_in g a p) t seen (omega arith)
      (line_goes g a n turns m t on.stacks.calm on.running (1 + v) p Sta ZeroPage (Zero 16) t.mem t seen constants itself has.0 refl (omega arith, λ h. omega arith) tt turned (λ b1 s1 h1.
      let like1 = like_scratch t t.mem t itself t.regs 16 t.regs.a (omega arith) (omega arith) b1 in
      line_goes g a n turns m t on.stacks.calm on.running v (suc p) Stx ZeroPage (Zero 17) t.mem (record t { zp = z16 }) s1 constants like1 has.1.0 refl (omega arith, λ h. omega arith) tt h1 (λ b2 s2 h2.
      let like2 = like_scratch t t.mem (record t { zp = z16 }) like1 t.regs 17 t.regs.x (omega arith) (omega arith) b2 in
      subst (λ q. Goes v q away s2) (sym ends) (goes like2 s2 (subst (λ q. Come q s2) ends h2)))))

  -- ---- the first byte

  module _ (u : State) (like : IsLike t t.mem u) (low : u.zp 16 ≡ t.regs.a) (high : u.zp 17 ≡ t.regs.x) (ax : ax_of u ≡ to) where
    abbrev z8 : Bytes
    z8 = write u.zp 8 u.regs.a

    abbrev z9 : Bytes
    z9 = write z8 9 u.regs.x

    abbrev with_both : Regs → Bytes → State
    with_both regs zp = record u { regs = regs; zp = zp }

    abbrev q1 : Regs
    q1 = apply false Ldy 0 u.regs

    abbrev q2 : Regs
    q2 = apply false Lda (z9 16) q1

    z9_16 : z9 16 ≡ t.regs.a
    z9_16 = write_other z8 9 u.regs.x 16 (λ e. omega (arith, e)) ∙ write_other u.zp 8 u.regs.a 16 (λ e. omega (arith, e)) ∙ low

    z9_17 : z9 17 ≡ t.regs.x
    z9_17 = write_other z8 9 u.regs.x 17 (λ e. omega (arith, e)) ∙ write_other u.zp 8 u.regs.a 17 (λ e. omega (arith, e)) ∙ high

    z9_word : z9 8 + 256 * z9 9 ≡ to
    z9_word =
        let first : z9 8 ≡ u.regs.a = write_other z8 9 u.regs.x 8 (λ e. omega (arith, e)) ∙ write_same u.zp 8 u.regs.a in
        let second : z9 9 ≡ u.regs.x = write_same z8 9 u.regs.x in
        omega (arith, first, second, ax)

    first_goes : (v p : ℕ) (seen : Seen) → HasAt (lines_of g a) p first_code → Come p seen → ((x : State) (later : Seen) → IsLaying 1 x → Come (p + length first_code) later → Goes v (p + length first_code) x later) → Goes (5 + v) p u seen
    first_goes v p seen has turned goes =
        let ends : suc (suc (suc (suc (suc p)))) ≡ p + length first_code = omega arith in
        let calm = on.stacks.calm in
        follows_weaken g n (1 + (1 + (1 + (1 + (1 + v))))) (5 + v) m (place_in g a p) u seen (omega arith)
        (line_goes g a n turns m t calm on.running (1 + (1 + (1 + (1 + v)))) p Sta ZeroPage (Zero 8) t.mem u seen constants like has.0 refl (omega arith, λ h. omega arith) tt turned (λ b1 s1 h1.
        let like1 = like_scratch t t.mem u like u.regs 8 u.regs.a (omega arith) (omega arith) b1 in
        line_goes g a n turns m t calm on.running (1 + (1 + (1 + v))) (suc p) Stx ZeroPage (Zero 9) t.mem (with_both u.regs z8) s1 constants like1 has.1.0 refl (omega arith, λ h. omega arith) tt h1 (λ b2 s2 h2.
        let like2 = like_scratch t t.mem (with_both u.regs z8) like1 u.regs 9 u.regs.x (omega arith) (omega arith) b2 in
        line_goes g a n turns m t calm on.running (1 + (1 + v)) (suc (suc p)) Ldy Immediate (Byte 0) t.mem (with_both u.regs z9) s2 constants like2 has.1.1.0 refl tt (omega arith) h2 (λ b3 s3 h3.
        let like3 = like_registers t t.mem (with_both u.regs z9) like2 q1 b3 in
        line_goes g a n turns m t calm on.running (1 + v) (suc (suc (suc p))) Lda ZeroPage (Zero 16) t.mem (with_both q1 z9) s3 constants like3 has.1.1.1.0 refl (omega arith, λ h. absurd h) tt h3 (λ b4 s4 h4.
        let like4 = like_registers t t.mem (with_both q1 z9) like3 q2 b4 in
        let spot : to + 0 ≡ to = omega arith in
        through_goes g a n turns m t calm on.running 8 to (omega arith) v (suc (suc (suc (suc p)))) t.mem (with_both q2 z9) s4 constants like4 z9_word (omega (arith, inside)) (opened 0 (omega (arith, some))) has.1.1.1.1.0 h4 (λ like5 s5 h5.
        let last : State = record u { regs = q2; zp = z9; mem = write u.mem (to + 0) (z9 16) } in
        let byte : z9 16 ≡ f 0 = z9_16 ∙ four.first in
        let laying : IsLaying 1 last = record { like = subst (λ b. IsLike t (write t.mem (to + 0) b) last) byte like5; low = z9_16; high = z9_17; word = z9_word; y = refl } in
        subst (λ q. Goes v q last s5) (sym ends) (goes last s5 laying (subst (λ q. Come q s5) ends h5))))))))

  -- ---- one byte more

  module _ (byte done : ℕ) (zero_page : byte < 256) (lt : done < size) (u : State) (l : IsLaying done u) (there : u.zp byte ≡ f done) where
    abbrev i1 : Regs
    i1 = apply false Iny 0 u.regs

    abbrev i2 : Regs
    i2 = apply false Lda (u.zp byte) i1

    next_goes : (v p : ℕ) (seen : Seen) → HasAt (lines_of g a) p (next_code byte) → Come p seen → ((x : State) (later : Seen) → IsLaying (suc done) x → Come (p + length (next_code byte)) later → Goes v (p + length (next_code byte)) x later) → Goes (3 + v) p u seen
    next_goes v p seen has turned goes =
        let ends : suc (suc (suc p)) ≡ p + length (next_code byte) = omega arith in
        let calm = on.stacks.calm in
        let whole = constant done (omega (arith, lt)) in
        let y0 = l.y in
        let y1 : (u.regs.y + 1) % 256 ≡ done = omega (arith, y0, lt, most) in
        follows_weaken g n (1 + (1 + (1 + v))) (3 + v) m (place_in g a p) u seen (omega arith)
        (line_goes g a n turns m t calm on.running (1 + (1 + v)) p Iny Implied Nothing (memory done) u seen whole l.like has.0 refl tt (omega arith) turned (λ b1 s1 h1.
        let like1 = like_registers t (memory done) u l.like i1 b1 in
        line_goes g a n turns m t calm on.running (1 + v) (suc p) Lda ZeroPage (Zero byte) (memory done) (record u { regs = i1 }) s1 whole like1 has.1.0 refl (zero_page, λ h. absurd h) tt h1 (λ b2 s2 h2.
        let like2 = like_registers t (memory done) (record u { regs = i1 }) like1 i2 b2 in
        let x1 : State = record u { regs = i2 } in
        let spot : to + x1.regs.y ≡ to + done = ap (λ y. to + y) y1 in
        through_goes g a n turns m t calm on.running 8 to (omega arith) v (suc (suc p)) (memory done) x1 s2 whole like2 l.word (omega (arith, inside, spot, lt)) (subst (λ q. IsOpen g.place (sp_of t) q) (sym spot) (opened done lt)) has.1.1.0 h2 (λ like3 s3 h3.
        let last : State = record x1 { mem = write u.mem (to + x1.regs.y) (u.zp byte) } in
        let laying : IsLaying (suc done) last = record { like = subst (λ b. IsLike t (write (memory done) (to + done) b) last) there (subst (λ q. IsLike t (write (memory done) q (u.zp byte)) last) spot like3); low = l.low; high = l.high; word = l.word; y = ap (λ y. y + 1) y1 ∙ omega arith } in
        subst (λ q. Goes v q last s3) (sym ends) (goes last s3 laying (subst (λ q. Come q s3) ends h3))))))

  -- ---- all bytes

  second_there : (u : State) (done : ℕ) → IsLaying done u → u.zp 17 ≡ f 1
  second_there u done l = l.high ∙ four.second

  third_there : (u : State) (done : ℕ) → IsLaying done u → u.zp 2 ≡ f 2
  third_there u done l = l.like.zp 2 (inl (omega arith)) ∙ four.third

  fourth_there : (u : State) (done : ℕ) → IsLaying done u → u.zp 3 ≡ f 3
  fourth_there u done l = l.like.zp 3 (inl (omega arith)) ∙ four.fourth

  module _ (u : State) (one : IsLaying 1 u) (v p : ℕ) (seen : Seen) (turned : Come p seen) where
    abbrev Behind : List Line → Type 0
    Behind lines = (x : State) (later : Seen) → IsLaying size x → Come (p + length lines) later → Goes v (p + length lines) x later

    further_goes : (extent : Extent) → bytes_of extent ≡ size → HasAt (lines_of g a) p (further_code extent) → Behind (further_code extent) → Goes (9 + v) p u seen
    further_goes One is has goes =
        let ends : p ≡ p + 0 = omega arith in
        follows_weaken g n v (9 + v) m (place_in g a p) u seen (omega arith)
        (subst (λ q. Goes v q u seen) (sym ends) (goes u seen (subst (λ k. IsLaying k u) is one) (subst (λ q. Come q seen) ends turned)))
    further_goes Two is has goes =
        follows_weaken g n (3 + v) (9 + v) m (place_in g a p) u seen (omega arith)
        (next_goes 17 1 (omega arith) (omega (arith, is)) u one (second_there u 1 one) v p seen has turned (λ x later l h. goes x later (subst (λ k. IsLaying k x) is l) h))
    further_goes Three is has goes =
        let ends : p + length (next_code 17) + length (next_code 2) ≡ p + length (further_code Three) = omega arith in
        follows_weaken g n (3 + (3 + v)) (9 + v) m (place_in g a p) u seen (omega arith)
        (next_goes 17 1 (omega arith) (omega (arith, is)) u one (second_there u 1 one) (3 + v) p seen (has_front (lines_of g a) p (next_code 17) (next_code 2) has) turned (λ x s1 l1 h1.
        next_goes 2 2 (omega arith) (omega (arith, is)) x l1 (third_there x 2 l1) v (p + length (next_code 17)) s1 (has_back (lines_of g a) p (next_code 17) (next_code 2) has) h1 (λ y s2 l2 h2.
        subst (λ q. Goes v q y s2) (sym ends) (goes y s2 (subst (λ k. IsLaying k y) is l2) (subst (λ q. Come q s2) ends h2)))))
    further_goes Four is has goes =
        let ends : p + length (next_code 17) + length (next_code 2) + length (next_code 3) ≡ p + length (further_code Four) = omega arith in
        let behind : HasAt (lines_of g a) (p + length (next_code 17)) (next_code 2 ++ next_code 3) = has_back (lines_of g a) p (next_code 17) (next_code 2 ++ next_code 3) has in
        follows_weaken g n (3 + (3 + (3 + v))) (9 + v) m (place_in g a p) u seen (omega arith)
        (next_goes 17 1 (omega arith) (omega (arith, is)) u one (second_there u 1 one) (3 + (3 + v)) p seen (has_front (lines_of g a) p (next_code 17) (next_code 2 ++ next_code 3) has) turned (λ x s1 l1 h1.
        next_goes 2 2 (omega arith) (omega (arith, is)) x l1 (third_there x 2 l1) (3 + v) (p + length (next_code 17)) s1 (has_front (lines_of g a) (p + length (next_code 17)) (next_code 2) (next_code 3) behind) h1 (λ y s2 l2 h2.
        next_goes 3 3 (omega arith) (omega (arith, is)) y l2 (fourth_there y 3 l2) v (p + length (next_code 17) + length (next_code 2)) s2 (has_back (lines_of g a) (p + length (next_code 17)) (next_code 2) (next_code 3) behind) h2 (λ z s3 l3 h3.
        subst (λ q. Goes v q z s3) (sym ends) (goes z s3 (subst (λ k. IsLaying k z) is l3) (subst (λ q. Come q s3) ends h3))))))

  -- ---- the address again

  -- behind the lines the bytes stand there, and the address is in AX
  pub record IsSpilled (u : State) : Type 0 where
    pub like : IsLike t (memory size) u
    pub address : ax_of u ≡ to

  module _ (u : State) (l : IsLaying size u) where
    abbrev a1 : Regs
    a1 = apply false Lda (u.zp 8) u.regs

    abbrev a2 : Regs
    a2 = apply false Ldx (u.zp 9) a1

    again_goes : (v p : ℕ) (seen : Seen) → HasAt (lines_of g a) p again_code → Come p seen → ((x : State) (later : Seen) → IsSpilled x → Come (p + length again_code) later → Goes v (p + length again_code) x later) → Goes (2 + v) p u seen
    again_goes v p seen has turned goes =
        let ends : suc (suc p) ≡ p + length again_code = omega arith in
        let whole = constant size (omega arith) in
        follows_weaken g n (1 + (1 + v)) (2 + v) m (place_in g a p) u seen (omega arith)
        (line_goes g a n turns m t on.stacks.calm on.running (1 + v) p Lda ZeroPage (Zero 8) (memory size) u seen whole l.like has.0 refl (omega arith, λ h. absurd h) tt turned (λ b1 s1 h1.
        let like1 = like_registers t (memory size) u l.like a1 b1 in
        line_goes g a n turns m t on.stacks.calm on.running v (suc p) Ldx ZeroPage (Zero 9) (memory size) (record u { regs = a1 }) s1 whole like1 has.1.0 refl (omega arith, λ h. absurd h) tt h1 (λ b2 s2 h2.
        let last : State = record u { regs = a2 } in
        subst (λ q. Goes v q last s2) (sym ends) (goes last s2 (record { like = like_registers t (memory size) (record u { regs = a1 }) like1 a2 b2; address = l.word }) (subst (λ q. Come q s2) ends h2)))))

  -- ---- the lines

  pub spill_goes : (extent : Extent) → bytes_of extent ≡ size → (v p : ℕ) (seen : Seen) → HasAt (lines_of g a) p (spill_code (address_code at) extent) → Come p seen
      → ((x : State) (later : Seen) → IsSpilled x → Come (p + length (spill_code (address_code at) extent)) later → Goes v (p + length (spill_code (address_code at) extent)) x later) → Goes (26 + v) p t seen
  spill_goes extent is v p seen has turned goes =
      let address : List Line = address_code at in
      let further : List Line = further_code extent in
      let more1 : List Line = address ++ (first_code ++ (further ++ again_code)) in
      let more2 : List Line = first_code ++ (further ++ again_code) in
      let more3 : List Line = further ++ again_code in
      let p1 : ℕ = p + length kept_code in
      let p2 : ℕ = p1 + length address in
      let p3 : ℕ = p2 + length first_code in
      let p4 : ℕ = p3 + length further in
      let has1 : HasAt (lines_of g a) p1 more1 = has_back (lines_of g a) p kept_code more1 has in
      let has2 : HasAt (lines_of g a) p2 more2 = has_back (lines_of g a) p1 address more2 has1 in
      let has3 : HasAt (lines_of g a) p3 more3 = has_back (lines_of g a) p2 first_code more3 has2 in
      let ends : p4 + length again_code ≡ p + length (spill_code address extent) = omega (arith, length-append kept_code more1, length-append address more2, length-append first_code more3, length-append further again_code) in
      follows_weaken g n (2 + (8 + (5 + (9 + (2 + v))))) (26 + v) m (place_in g a p) t seen (omega arith)
      (kept_goes (8 + (5 + (9 + (2 + v)))) p seen (has_front (lines_of g a) p kept_code more1 has) turned (λ like1 s1 h1.
      let on1 : IsOn g away = on_like away like1 in
      let sp1 = same_sp t t.mem away like1 in
      let fits : sp_of away + at < 65536 = omega (arith, sp1, to_is, inside, some) in
      address_leads away at g a placed on1 small n (5 + (9 + (2 + v))) p1 turns m s1 (has_front (lines_of g a) p1 address more2 has1) h1 (λ u s2 e h2.
      let like2 : IsLike t t.mem u = rw e.0 (like_registers t t.mem away like1 (address_regs away at) (subst IsBytes e.0 e.1)) in
      let ax : ax_of u ≡ to = ap ax_of e.0 ∙ address_is away at (like1.bytes.zp 0) fits ∙ omega (arith, sp1, to_is) in
      let low : u.zp 16 ≡ t.regs.a = ap (λ (x : State). x.zp 16) e.0 ∙ write_other z16 17 t.regs.x 16 (λ h. omega (arith, h)) ∙ write_same t.zp 16 t.regs.a in
      let high : u.zp 17 ≡ t.regs.x = ap (λ (x : State). x.zp 17) e.0 ∙ write_same z16 17 t.regs.x in
      first_goes u like2 low high ax (9 + (2 + v)) p2 s2 (has_front (lines_of g a) p2 first_code more3 has2) h2 (λ x s3 l3 h3.
      further_goes x l3 (2 + v) p3 s3 h3 extent is (has_front (lines_of g a) p3 further again_code has3) (λ y s4 l4 h4.
      again_goes y l4 v p4 s4 (has_back (lines_of g a) p3 further again_code has3) h4 (λ z s5 l5 h5.
      subst (λ q. Goes v q z s5) (sym ends) (goes z s5 l5 (subst (λ q. Come q s5) ends h5))))))))
