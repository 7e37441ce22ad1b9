-- A number or a pointer that is stored further above sp than Y reaches.
use Rattle.std.proofs.Common.{◌≡◌, ℕ, suc, ◌+◌, ◌*◌, ◌<◌, ◌≤◌, inl, inr, List, [], ◌∷◌, ◌++◌, Some, false, refl, sym, ap, ◌∙◌, subst, arith}
use Rattle.std.specs.Prelude.{length, slice_get}
use Rattle.c65_mach.specs.declared.rows.Op.TheVariants.{Iny, Lda, Ldy, Sta, Stx}
use Rattle.c65_mach.specs.declared.rows.Mode.TheVariants.{Implied, Immediate, ZeroPage}
use Rattle.c65_mach.specs.Step.{apply}
use Rattle.c65_meaning.specs.Store.{Cell, Block}
use Rattle.c65_meaning.specs.State as meaning
use Rattle.c65_meaning.specs.State.{Scene}
use Rattle.c65_code.specs.declared.line.Operand.TheVariants.{Nothing, Byte, Zero}
use Rattle.c65_code.specs.declared.line.Line.{Line}
use Rattle.c65_code.specs.LineState.{Bytes, write, State, sp_of, eax_of}
use Rattle.c65_code.specs.Placement.{IsPlacement}
use Rattle.c65_code.specs.Steady.{IsCalm, IsOpen}
use Rattle.c65_code.specs.Comes.{Seen}
use Rattle.c65_genwide.specs.Lines.{value}
use Rattle.c65_genentry.specs.Words.{implied, zero_page, by_y}
use Rattle.c65_genentry.specs.Pointers.{near_code, second_byte, upper_bytes, further_bytes, far_store}
use Rattle.c65_genload.specs.declared.places.Extent.{Extent}
use Rattle.c65_genload.specs.declared.places.Extent.TheVariants.{One, Two, Three, Four}
use Rattle.c65_agree_store.specs.Stands.{At, Placing, Banks, CellIs}
use Rattle.c65_agree_store.specs.Laws.{byte_of}
use Rattle.c65_agree_state.specs.World.{World, Active, setting_in, lines_of, place_in, HasAt, HasTurns}
use Rattle.c65_agree_state.specs.Follows.{Follows}
use Rattle.c65_agree_state.specs.Exprs.{Ready}
use Rattle.c65_agree_state.proofs.Followed.{follows_weaken, ready_is_calm}
use Rattle.c65_agree_state.proofs.Nodes.{has_front, has_back}
use Rattle.c65_agree_put.specs.Puts.{OnlyStored, AreLaid, MayPut, with_put, AreTaken}
use Rattle.c65_agree_put.proofs.Puts.{constant_beside, banks_follow, puts_are_taken}
use Rattle.c65_agree_put.proofs.Stores.{four_bytes}
use Rattle.c65_agree_rows.proofs.Quiet.{write_other, write_same}
use Rattle.c65_agree_assign.specs.Places.{bytes_in}
use Rattle.c65_agree_assign.proofs.States.{opened}
use Rattle.c65_agree_part.proofs.Lines.{IsLike, like_itself, like_registers, like_scratch, same_sp, HasConstants, line_goes, near_goes, through_goes, filled, filled_other, filled_at}

module _ (g : World) (a : Active) (needs : ℕ) (c : Scene) (w : Placing) (k : Banks) (t : State) (b : ℕ) (x : Block) (from o count : ℕ) (new : ℕ → Cell) (placed : IsPlacement g.code g.place) (r : Ready g a 0 needs c w k t) (may : MayPut g a c w b x (At from) o count) (at : ℕ) (there : sp_of t + at ≡ from + o) where
  abbrev to : ℕ
  to = sp_of t + at

  -- memory behind so many of the bytes
  abbrev stored : ℕ → Bytes
  stored i = filled t.mem to (λ _ j. byte_of j (eax_of t)) i

  constants : (i : ℕ) → i ≤ count → HasConstants g (stored i)
  constants i le l v e = filled_other t.mem to (λ _ j. byte_of j (eax_of t)) i l (λ j lt same. constant_beside g a c w k t b x (At from) o count r.joins may v l e j (omega (arith, lt, le)) (ap At (omega (arith, same, there)))) ∙ r.joins.constant l v e

  open_at : (i : ℕ) → i < count → IsOpen g.place (sp_of t) (to + i)
  open_at i lt = subst (IsOpen g.place (sp_of t)) (ap (λ y. y + i) (sym there)) (opened g a 0 needs c w k t b x from o count new placed r may i lt)

  in_page : to + count ≤ 65520
  in_page = omega (arith, there, may.fits, r.joins.stands.whole b x may.block.is, (r.joins.stands.lies b x (At from) may.block).1)

  -- all of them are stored
  all_stored : (u : State) → IsLike t (stored count) u → ((i : ℕ) → i < count → CellIs w (new i) (byte_of i (eax_of t))) → AreTaken g a 0 needs 0 c w k t (with_put c b x o count new) k u
  all_stored u like laid =
      puts_are_taken g a 0 needs 0 c w k k t u b x (At from) o count new placed r may only are_laid ((banks_follow a k t u o count).1 from r.joins.bank only) (same_sp t (stored count) u like ∙ omega arith)
    where
      only : OnlyStored a (sp_of t) (At from) o count t u
      only = record {
        mem = λ l side beside. like.mem l ∙ filled_other t.mem to (λ _ j. byte_of j (eax_of t)) count l (λ i lt e. beside i lt (ap At (omega (arith, e, there))));
        bank = λ i lt beside. sym (like.zp (20 + i) (inr (omega arith)));
        pushed = like.pushed;
        frames = like.frames;
        input = like.input;
        output = like.output;
        ended = like.ended;
        bytes = like.bytes;
      }

      are_laid : AreLaid w (At from) o count new u
      are_laid i lt =
          let e : from + (o + i) ≡ to + i = omega (arith, there) in
          subst (λ y. CellIs w (new i) y) (sym (like.mem (from + (o + i)) ∙ ap (stored count) e ∙ filled_at t.mem to (λ j. byte_of j (eax_of t)) count i lt)) (laid i lt)

  -- while they are stored: the pointer is there, and the value's bytes are at hand
  record IsOnTheWay (i last : ℕ) (u : State) : Type 0 where
    like : IsLike t (stored i) u
    word : u.zp 8 + 256 * u.zp 9 ≡ to
    y : u.regs.y ≡ last
    low : u.zp 16 ≡ t.regs.a
    high : u.zp 17 ≡ t.regs.x

  module _ (n turns : ℕ) (m : meaning.State) where
    abbrev calm : IsCalm (setting_in g) t
    calm = (ready_is_calm g a 0 needs c w k t r).calm

    -- a byte from the zero page
    byte_goes : (v p i z : ℕ) (u : State) (seen : Seen) → i < count → z < 256 → u.zp z ≡ byte_of i (eax_of t) → IsOnTheWay i i u → slice_get (lines_of g a) p ≡ Some (zero_page Lda z) → slice_get (lines_of g a) (suc p) ≡ Some (by_y Sta 8) → HasTurns g turns (place_in g a p) seen
        → ((u2 : State) (later : Seen) → IsOnTheWay (suc i) i u2 → HasTurns g turns (place_in g a (suc (suc p))) later → Follows g n v m (place_in g a (suc (suc p))) u2 later) → Follows g n (2 + v) m (place_in g a p) u seen
    byte_goes v p i z u seen lt page is h line0 line1 turned goes =
        follows_weaken g n (1 + (1 + v)) (2 + v) m (place_in g a p) u seen (omega arith)
        (line_goes g a n turns m t calm r.joins.ended (1 + v) p Lda ZeroPage (Zero z) (stored i) u seen (constants i (omega (arith, lt))) h.like line0 refl (page, λ f. absurd f) tt turned (λ b1 s1 h1.
        let u1 : State = record u { regs = apply false Lda (u.zp z) u.regs } in
        let like1 : IsLike t (stored i) u1 = like_registers t (stored i) u h.like (apply false Lda (u.zp z) u.regs) b1 in
        let y = h.y in
        let l : to + u.regs.y ≡ to + i = ap (λ q. to + q) y in
        through_goes g a n turns m t calm r.joins.ended 8 to (omega arith) v (suc p) (stored i) u1 s1 (constants i (omega (arith, lt))) like1 h.word (omega (arith, lt, y, in_page)) (subst (IsOpen g.place (sp_of t)) (sym l) (open_at i lt)) line1 h1 (λ like2 s2 h2.
        let u2 : State = record u1 { mem = write u.mem (to + u.regs.y) (u.zp z) } in
        let like3 : IsLike t (stored (suc i)) u2 = subst (λ q. IsLike t (write (stored i) (to + i) q) u2) is (subst (λ q. IsLike t (write (stored i) q (u.zp z)) u2) l like2) in
        goes u2 s2 (record { like = like3; word = h.word; y = h.y; low = h.low; high = h.high }) h2)))

    -- Y to the next byte, and that byte
    next_goes : (v p i z : ℕ) (u : State) (seen : Seen) → suc i < count → suc i < 256 → z < 256 → u.zp z ≡ byte_of (suc i) (eax_of t) → IsOnTheWay (suc i) i u → HasAt (lines_of g a) p (implied Iny ∷ zero_page Lda z ∷ by_y Sta 8 ∷ []) → HasTurns g turns (place_in g a p) seen
        → ((u2 : State) (later : Seen) → IsOnTheWay (suc (suc i)) (suc i) u2 → HasTurns g turns (place_in g a (suc (suc (suc p)))) later → Follows g n v m (place_in g a (suc (suc (suc p)))) u2 later) → Follows g n (3 + v) m (place_in g a p) u seen
    next_goes v p i z u seen lt small page is h has turned goes =
        follows_weaken g n (1 + (2 + v)) (3 + v) m (place_in g a p) u seen (omega arith)
        (line_goes g a n turns m t calm r.joins.ended (2 + v) p Iny Implied Nothing (stored (suc i)) u seen (constants (suc i) (omega (arith, lt))) h.like has.0 refl tt (omega arith) turned (λ b1 s1 h1.
        let y = h.y in
        let like1 = like_registers t (stored (suc i)) u h.like (apply false Iny 0 u.regs) b1 in
        byte_goes v (suc p) (suc i) z (record u { regs = apply false Iny 0 u.regs }) s1 lt page is (record { like = like1; word = h.word; y = omega (arith, y, small); low = h.low; high = h.high }) has.1.0 has.1.1.0 h1 goes))

    abbrev behind_pointer : ℕ → List Line
    behind_pointer bytes = value Ldy 0 ∷ zero_page Lda 16 ∷ by_y Sta 8 ∷ further_bytes bytes

    -- up to the first byte
    first_goes : (v p bytes : ℕ) (seen : Seen) → 1 ≤ count → at < 65536 → HasAt (lines_of g a) p (far_store at bytes) → HasTurns g turns (place_in g a p) seen
        → ((u : State) (later : Seen) → IsOnTheWay 1 0 u → HasTurns g turns (place_in g a (p + 12)) later → Follows g n v m (place_in g a (p + 12)) u later) → Follows g n (12 + v) m (place_in g a p) t seen
    first_goes v p bytes seen some small has turned goes =
        follows_weaken g n (1 + (1 + (7 + (1 + (2 + v))))) (12 + v) m (place_in g a p) t seen (omega arith)
        (line_goes g a n turns m t calm r.joins.ended (1 + (7 + (1 + (2 + v)))) p Sta ZeroPage (Zero 16) t.mem t seen r.joins.constant (like_itself t r.joins.bytes) has.0 refl (omega arith, λ h. omega arith) tt turned (λ b1 s1 h1.
        let u1 : State = record t { zp = write t.zp 16 t.regs.a } in
        let like1 : IsLike t t.mem u1 = like_scratch t t.mem t (like_itself t r.joins.bytes) t.regs 16 t.regs.a (omega arith) (omega arith) b1 in
        line_goes g a n turns m t calm r.joins.ended (7 + (1 + (2 + v))) (suc p) Stx ZeroPage (Zero 17) t.mem u1 s1 r.joins.constant like1 has.1.0 refl (omega arith, λ h. omega arith) tt h1 (λ b2 s2 h2.
        let u2 : State = record u1 { zp = write u1.zp 17 t.regs.x } in
        let like2 : IsLike t t.mem u2 = like_scratch t t.mem u1 like1 t.regs 17 t.regs.x (omega arith) (omega arith) b2 in
        near_goes g a n turns m t calm r.joins.ended 8 at (omega arith) (omega arith) small (omega (arith, in_page, some)) t.mem u2 r.joins.constant like2 (1 + (2 + v)) (suc (suc p)) s2 (has_front (lines_of g a) (suc (suc p)) (near_code 8 at) (behind_pointer bytes) has.1.1) h2 (λ u3 s3 is h3.
        let rest = has_back (lines_of g a) (suc (suc p)) (near_code 8 at) (behind_pointer bytes) has.1.1 in
        line_goes g a n turns m t calm r.joins.ended (2 + v) (suc (suc p) + 7) Ldy Immediate (Byte 0) t.mem u3 s3 r.joins.constant is.like rest.0 refl tt (omega arith) h3 (λ b4 s4 h4.
        let like4 = like_registers t t.mem u3 is.like (apply false Ldy 0 u3.regs) b4 in
        let ends : suc (suc (suc (suc (suc p) + 7))) ≡ p + 12 = omega arith in
        let low : u3.zp 16 ≡ t.regs.a = is.others 16 (λ e. omega (arith, e)) (λ e. omega (arith, e)) ∙ write_other u1.zp 17 t.regs.x 16 (λ e. omega (arith, e)) ∙ write_same t.zp 16 t.regs.a in
        let high : u3.zp 17 ≡ t.regs.x = is.others 17 (λ e. omega (arith, e)) (λ e. omega (arith, e)) ∙ write_same u1.zp 17 t.regs.x in
        byte_goes v (suc (suc (suc p) + 7)) 0 16 (record u3 { regs = apply false Ldy 0 u3.regs }) s4 some (omega arith) (low ∙ (four_bytes t r.joins.bytes).first) (record { like = like4; word = is.word; y = refl; low = low; high = high }) rest.1.0 rest.1.1.0 h4 (λ u5 s5 is5 h5.
        subst (λ y. Follows g n v m (place_in g a y) u5 s5) (sym ends) (goes u5 s5 is5 (subst (λ y. HasTurns g turns (place_in g a y) s5) ends h5))))))))

    -- the lines behind the first byte
    rest_stands : (p bytes : ℕ) → HasAt (lines_of g a) p (far_store at bytes) → HasAt (lines_of g a) (p + 12) (further_bytes bytes)
    rest_stands p bytes has =
        let ends : suc (suc (suc (suc (suc p) + 7))) ≡ p + 12 = omega arith in
        subst (λ y. HasAt (lines_of g a) y (further_bytes bytes)) ends (has_back (lines_of g a) (suc (suc p)) (near_code 8 at) (behind_pointer bytes) has.1.1).1.1.1

    abbrev Behind : ℕ → ℕ → Type 0
    Behind v q = (u : State) (later : Seen) → AreTaken g a 0 needs 0 c w k t (with_put c b x o count new) k u → HasTurns g turns (place_in g a q) later → Follows g n v m (place_in g a q) u later

    -- behind the last byte
    finish : (v p q i : ℕ) (u : State) (seen : Seen) → count ≡ suc i → p ≡ q → ((j : ℕ) → j < count → CellIs w (new j) (byte_of j (eax_of t))) → IsOnTheWay (suc i) i u → HasTurns g turns (place_in g a p) seen → Behind v q → Follows g n v m (place_in g a p) u seen
    finish v p q i u seen whole ends laid h turned behind =
        subst (λ y. Follows g n v m (place_in g a y) u seen) (sym ends) (behind u seen (all_stored u (subst (λ y. IsLike t (stored y) u) (sym whole) h.like) laid) (subst (λ y. HasTurns g turns (place_in g a y) seen) ends turned))

    two_goes : (v p bytes : ℕ) (seen : Seen) → count ≡ 2 → at < 65536 → HasAt (lines_of g a) p (far_store at bytes) → further_bytes bytes ≡ second_byte → ((j : ℕ) → j < count → CellIs w (new j) (byte_of j (eax_of t))) → HasTurns g turns (place_in g a p) seen → Behind v (p + 15) → Follows g n (15 + v) m (place_in g a p) t seen
    two_goes v p bytes seen whole small has two laid turned behind =
        follows_weaken g n (12 + (3 + v)) (15 + v) m (place_in g a p) t seen (omega arith)
        (first_goes (3 + v) p bytes seen (omega (arith, whole)) small has turned (λ u1 s1 is1 h1.
        next_goes v (p + 12) 0 17 u1 s1 (omega (arith, whole)) (omega arith) (omega arith) (is1.high ∙ (four_bytes t r.joins.bytes).second) is1 (subst (HasAt (lines_of g a) (p + 12)) two (rest_stands p bytes has)) h1 (λ u2 s2 is2 h2.
        finish v (suc (suc (suc (p + 12)))) (p + 15) 1 u2 s2 whole (omega arith) laid is2 h2 behind)))

    four_goes : (v p bytes : ℕ) (seen : Seen) → count ≡ 4 → at < 65536 → HasAt (lines_of g a) p (far_store at bytes) → further_bytes bytes ≡ second_byte ++ upper_bytes → ((j : ℕ) → j < count → CellIs w (new j) (byte_of j (eax_of t))) → HasTurns g turns (place_in g a p) seen → Behind v (p + 21) → Follows g n (21 + v) m (place_in g a p) t seen
    four_goes v p bytes seen whole small has four laid turned behind =
        let more : HasAt (lines_of g a) (p + 12) (second_byte ++ upper_bytes) = subst (HasAt (lines_of g a) (p + 12)) four (rest_stands p bytes has) in
        follows_weaken g n (12 + (3 + (3 + (3 + v)))) (21 + v) m (place_in g a p) t seen (omega arith)
        (first_goes (3 + (3 + (3 + v))) p bytes seen (omega (arith, whole)) small has turned (λ u1 s1 is1 h1.
        next_goes (3 + (3 + v)) (p + 12) 0 17 u1 s1 (omega (arith, whole)) (omega arith) (omega arith) (is1.high ∙ (four_bytes t r.joins.bytes).second) is1 (more.0, (more.1.0, (more.1.1.0, tt))) h1 (λ u2 s2 is2 h2.
        next_goes (3 + v) (suc (suc (suc (p + 12)))) 1 2 u2 s2 (omega (arith, whole)) (omega arith) (omega arith) (is2.like.zp 2 (inl (omega arith)) ∙ (four_bytes t r.joins.bytes).third) is2 (more.1.1.1.0, (more.1.1.1.1.0, (more.1.1.1.1.1.0, tt))) h2 (λ u3 s3 is3 h3.
        next_goes v (suc (suc (suc (suc (suc (suc (p + 12))))))) 2 3 u3 s3 (omega (arith, whole)) (omega arith) (omega arith) (is3.like.zp 3 (inl (omega arith)) ∙ (four_bytes t r.joins.bytes).fourth) is3 (more.1.1.1.1.1.1.0, (more.1.1.1.1.1.1.1.0, (more.1.1.1.1.1.1.1.1.0, tt))) h3 (λ u4 s4 is4 h4.
        finish v (suc (suc (suc (suc (suc (suc (suc (suc (suc (p + 12)))))))))) (p + 21) 3 u4 s4 whole (omega arith) laid is4 h4 behind)))))

    pub far_goes : (extent : Extent) (v p : ℕ) (seen : Seen) → count ≡ bytes_in extent → at < 65536 → HasAt (lines_of g a) p (far_store at (bytes_in extent)) → ((j : ℕ) → j < count → CellIs w (new j) (byte_of j (eax_of t))) → HasTurns g turns (place_in g a p) seen
        → Behind v (p + length (far_store at (bytes_in extent))) → Follows g n (v + 260) m (place_in g a p) t seen
    far_goes One v p seen whole small has laid turned behind =
        follows_weaken g n (12 + v) (v + 260) m (place_in g a p) t seen (omega arith)
        (first_goes v p 1 seen (omega (arith, whole)) small has turned (λ u1 s1 is1 h1. finish v (p + 12) (p + length (far_store at 1)) 0 u1 s1 whole (omega arith) laid is1 h1 behind))
    far_goes Two v p seen whole small has laid turned behind = follows_weaken g n (15 + v) (v + 260) m (place_in g a p) t seen (omega arith) (two_goes v p 2 seen whole small has refl laid turned behind)
    far_goes Three v p seen whole small has laid turned behind = follows_weaken g n (15 + v) (v + 260) m (place_in g a p) t seen (omega arith) (two_goes v p 2 seen whole small has refl laid turned behind)
    far_goes Four v p seen whole small has laid turned behind = follows_weaken g n (21 + v) (v + 260) m (place_in g a p) t seen (omega arith) (four_goes v p 4 seen whole small has refl laid turned behind)
