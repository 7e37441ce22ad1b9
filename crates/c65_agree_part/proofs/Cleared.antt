-- An object whose bytes become zero.
use Rattle.std.proofs.Common.{◌≡◌, ℕ, zero, suc, ◌+◌, ◌*◌, ◌%◌, ◌<◌, ◌≤◌, List, [], ◌∷◌, Option, Some, None, Bool, false, refl, sym, ap, ◌∙◌, subst, arith, length-append}
use Rattle.std.specs.Prelude.{length, slice_get, if◌then◌else◌, Result, Ok, Err}
use Rattle.c65_mach.specs.declared.rows.Op.TheVariants.{Inc, Lda, Ldy, Sta}
use Rattle.c65_mach.specs.declared.rows.Mode.TheVariants.{Immediate, ZeroPage}
use Rattle.c65_mach.specs.State.{Regs}
use Rattle.c65_mach.specs.Step.{apply, signed}
use Rattle.c65_meaning.specs.Why.{Why}
use Rattle.c65_meaning.specs.Store.{Value, Place, NoValue, byte}
use Rattle.c65_meaning.specs.Items.{Item, Wipe}
use Rattle.c65_meaning.specs.Shapes.{object_in, object_size, object_block}
use Rattle.c65_meaning.specs.State as meaning
use Rattle.c65_meaning.specs.State.{Scene, Running, block_in}
use Rattle.c65_meaning.specs.Step as step
use Rattle.c65_meaning.specs.Step.{perform, cleared, clear_step, at_offset}
use Rattle.c65_code.specs.declared.line.Sym.{Sym}
use Rattle.c65_code.specs.declared.line.Operand.TheVariants.{Byte, Zero}
use Rattle.c65_code.specs.declared.line.Line.{Line}
use Rattle.c65_code.specs.LineState.{Bytes, write, State, sp_of, IsBytes}
use Rattle.c65_code.specs.Placement.{IsPlacement, located}
use Rattle.c65_code.specs.Steady.{IsCalm, IsOpen}
use Rattle.c65_code.specs.Comes.{Seen}
use Rattle.c65_genwide.specs.Lines.{value}
use Rattle.c65_genentry.specs.Words.{zero_page, by_y}
use Rattle.c65_genentry.specs.Pointers.{near_code, symbol_code}
use Rattle.c65_genentry.specs.Pointers as pointers
use Rattle.c65_genentry.specs.Bytes.{block_code}
use Rattle.c65_genentry.specs.Bytes as blocks
use Rattle.c65_genstmt.specs.declared.objects.Spot as objects
use Rattle.c65_genstmt.specs.declared.objects.Spot.TheVariants as spots
use Rattle.c65_genstmt.specs.Objects.{spot_of}
use Rattle.c65_agree_store.specs.Stands.{Spot, At, Banked, Placing, Banks, CellIs, beyond}
use Rattle.c65_agree_state.specs.World.{World, unit_in, program_in, setting_in, Active, lines_of, place_in, HasAt, IsPlaced, HasTurns}
use Rattle.c65_agree_state.specs.Sizes.{AreSized}
use Rattle.c65_agree_state.specs.Joins as joined
use Rattle.c65_agree_state.specs.Follows.{Follows}
use Rattle.c65_agree_state.specs.Exprs.{Ready, Kept}
use Rattle.c65_agree_state.proofs.Followed.{follows_weaken, steps_earn, ready_is_calm}
use Rattle.c65_agree_state.proofs.Leaves.{scratch_is_kept, with_regs}
use Rattle.c65_agree_state.proofs.Nodes.{has_front, has_back}
use Rattle.c65_agree_state.proofs.Parts.{kept_goes_on}
use Rattle.c65_agree_lines.specs.Lists.{zeros_code}
use Rattle.c65_agree_numbers.proofs.Tests.{less}
use Rattle.c65_agree_rows.proofs.Quiet.{write_other, write_same, nothing_follows}
use Rattle.c65_agree_assign.proofs.Steps.{operation}
use Rattle.c65_agree_part.specs.Parts.{IsSettable}
use Rattle.c65_agree_part.specs.Laws.{ObjectsAreCleared}
use Rattle.c65_agree_part.proofs.Lines.{IsLike, like_itself, like_registers, like_scratch, same_sp, only_scratch, HasConstants, line_goes, near_goes, symbol_goes, through_goes, filled, filled_constants}
use Rattle.c65_agree_part.proofs.Loops.{EachGoes, AfterGoes, Stays, block_goes}
use Rattle.c65_agree_part.proofs.Where.{IsThere, is_there}
use Rattle.c65_agree_part.proofs.Earned.{ByteSteps, AreSteps, next_of, all_earn}
use Rattle.c65_agree_part.proofs.Bytes.{IsPut, cell_is_put, next_byte, IsReached, ready_at, was_there, reached_on, reached_first}

-- each byte is zero
abbrev zeros : Bytes → ℕ → ℕ
zeros m i = 0

-- ---- in memory

module _ (g : World) (a : Active) (needs : ℕ) (c : Scene) (w : Placing) (k : Banks) (t : State) (placed : IsPlacement g.code g.place) (r : Ready g a 0 needs c w k t) (b from : ℕ) (place_is : w b ≡ Some (At from)) (o size : ℕ) (d : Scene) (h : IsReached g a needs c w k t placed r b (At from) place_is o zeros size d) (some : 0 < size) (n turns : ℕ) (m : meaning.State) where
  abbrev to : ℕ
  to = from + o

  abbrev stored : ℕ → Bytes
  stored i = filled t.mem to zeros i

  abbrev calm : IsCalm (setting_in g) t
  calm = (ready_is_calm g a 0 needs c w k t r).calm

  -- the pointer is where it is to be, and A is zero
  abbrev Pointed : ℕ → State → Type 0
  Pointed pages u = (u.regs.a ≡ 0) × (u.zp 8 + 256 * u.zp 9 ≡ to + 256 * pages)

  in_page : to + size ≤ 65520
  in_page = let x = h.block some in omega (arith, x.fits, (r.joins.stands.lies b x.block (At from) x.at).1)

  constants : (i : ℕ) → i ≤ size → HasConstants g (stored i)
  constants i le = filled_constants t.mem to zeros g i (λ j lt. h.varying from refl j (omega (arith, lt, le))) r.joins.constant

  stays : Stays g a n turns m t stored Pointed size
  stays pages u regs e p = (e ∙ p.0, p.1)

  each_goes : EachGoes g a n turns m t stored Pointed size (by_y Sta 8 ∷ [])
  each_goes v p pages y u seen small lt has i turned goes =
      let now = i.y in
      let base = to + 256 * pages in
      let spot : base + u.regs.y ≡ to + (256 * pages + y) = omega (arith, now) in
      follows_weaken g n (1 + v) (2 + v) m (place_in g a p) u seen (omega arith)
      (through_goes g a n turns m t calm r.joins.ended 8 base (omega arith) v p (stored (256 * pages + y)) u seen (constants (256 * pages + y) (omega (arith, lt))) i.like i.at.1 (omega (arith, spot, lt, in_page)) (subst (λ l. IsOpen g.place (sp_of t) l) (sym spot) (h.opens from refl (256 * pages + y) lt)) has.0 turned (λ like s1 t1.
      let u1 : State = record u { mem = write u.mem (base + u.regs.y) u.regs.a } in
      let like2 : IsLike t (stored (suc (256 * pages + y))) u1 = subst (λ v. IsLike t (write (stored (256 * pages + y)) (to + (256 * pages + y)) v) u1) i.at.0 (subst (λ l. IsLike t (write (stored (256 * pages + y)) l u.regs.a) u1) spot like) in
      let there : suc p ≡ p + 1 = omega arith in
      subst (λ l. Follows g n v m (place_in g a l) u1 s1) (sym there) (goes u1 s1 (record { like = like2; y = i.y; at = i.at }) refl (subst (λ l. HasTurns g turns (place_in g a l) s1) there t1))))

  after_goes : AfterGoes g a n turns m t stored Pointed size (zero_page Inc 9 ∷ [])
  after_goes v p pages u seen fits has i turned goes =
      follows_weaken g n (1 + v) (2 + v) m (place_in g a p) u seen (omega arith)
      (line_goes g a n turns m t calm r.joins.ended v p Inc ZeroPage (Zero 9) (stored (256 * suc pages)) u seen (constants (256 * suc pages) fits) i.like has.0 refl (omega arith, λ f. omega arith) tt turned (λ b1 s1 t1.
      let high = (u.zp 9 + 1) % 256 in
      let regs = record (signed high u.regs) { c = u.regs.c } in
      let u1 : State = record u { regs = regs; zp = write u.zp 9 high } in
      let word = i.at.1 in
      let low : write u.zp 9 high 8 ≡ u.zp 8 = write_other u.zp 9 high 8 (λ e. omega (arith, e)) in
      let up : write u.zp 9 high 9 ≡ high = write_same u.zp 9 high in
      let moved : write u.zp 9 high 8 + 256 * write u.zp 9 high 9 ≡ to + 256 * suc pages = omega (arith, low, up, word, fits, in_page, i.like.bytes.zp 8) in
      let there : suc p ≡ p + 1 = omega arith in
      subst (λ l. Follows g n v m (place_in g a l) u1 s1) (sym there) (goes u1 s1 (record { like = like_scratch t (stored (256 * suc pages)) u i.like regs 9 high (omega arith) (omega arith) b1; y = i.y; at = (i.at.0, moved) }) refl (subst (λ l. HasTurns g turns (place_in g a l) s1) there t1))))

  -- behind the pointer
  clear_goes : (v p fresh : ℕ) (u : State) (seen : Seen) → IsPlaced (lines_of g a) → HasAt (lines_of g a) p (blocks.clear_code (size % 65536) fresh) → IsLike t t.mem u → u.zp 8 + 256 * u.zp 9 ≡ to → HasTurns g turns (place_in g a p) seen
      → ((u2 : State) (later : Seen) → IsLike t (stored size) u2 → HasTurns g turns (place_in g a (p + length (blocks.clear_code (size % 65536) fresh))) later → Follows g n v m (place_in g a (p + length (blocks.clear_code (size % 65536) fresh))) u2 later)
      → Follows g n (3 + 6 * size + v) m (place_in g a p) u seen
  clear_goes v p fresh u seen once has like word turned goes =
      let same : size % 65536 ≡ size = omega (arith, in_page) in
      let code = block_code (by_y Sta 8 ∷ []) (zero_page Inc 9 ∷ []) size fresh in
      let whole : HasAt (lines_of g a) p (value Ldy 0 ∷ value Lda 0 ∷ code) = subst (λ s. HasAt (lines_of g a) p (blocks.clear_code s fresh)) same has in
      let ends : suc (suc p) + length code ≡ p + length (blocks.clear_code (size % 65536) fresh) = let e = ap (λ s. length (blocks.clear_code s fresh)) same in omega (arith, e) in
      follows_weaken g n (1 + (1 + (6 * size + (1 + v)))) (3 + 6 * size + v) m (place_in g a p) u seen (omega arith)
      (line_goes g a n turns m t calm r.joins.ended (1 + (6 * size + (1 + v))) p Ldy Immediate (Byte 0) t.mem u seen r.joins.constant like whole.0 refl tt (omega arith) turned (λ b1 s1 t1.
      let u1 : State = record u { regs = apply false Ldy 0 u.regs } in
      let like1 = like_registers t t.mem u like (apply false Ldy 0 u.regs) b1 in
      line_goes g a n turns m t calm r.joins.ended (6 * size + (1 + v)) (suc p) Lda Immediate (Byte 0) t.mem u1 s1 r.joins.constant like1 whole.1.0 refl tt (omega arith) t1 (λ b2 s2 t2.
      let u2 : State = record u1 { regs = apply false Lda 0 u1.regs } in
      let like2 = like_registers t t.mem u1 like1 (apply false Lda 0 u1.regs) b2 in
      let start : u.zp 8 + 256 * u.zp 9 ≡ to + 256 * 0 = word ∙ omega arith in
      block_goes g a n turns m t stored Pointed size calm r.joins.ended constants stays (by_y Sta 8 ∷ []) each_goes (zero_page Inc 9 ∷ []) after_goes v (suc (suc p)) fresh u2 s2 (omega (arith, in_page)) once whole.1.1 (record { like = like2; y = refl; at = (refl, start) }) t2 (λ u3 s3 like3 t3.
      subst (λ l. Follows g n v m (place_in g a l) u3 s3) (sym ends) (goes u3 s3 like3 (subst (λ l. HasTurns g turns (place_in g a l) s3) ends t3))))))

  -- behind the lines
  abbrev Behind : ℕ → ℕ → Type 0
  Behind v q = (banks : Banks) (u : State) (later : Seen) → Kept g a c w k t d w banks u → HasTurns g turns (place_in g a q) later → Follows g n v m (place_in g a q) u later

  finish : (v q : ℕ) (u : State) (seen : Seen) → IsLike t (stored size) u → HasTurns g turns (place_in g a q) seen → Behind v q → Follows g n v m (place_in g a q) u seen
  finish v q u seen like turned behind =
      let all : State = record t { mem = stored size } in
      let last = scratch_is_kept g a 0 needs d w h.banks all u placed (ready_at g a needs c w k t placed r b (At from) place_is o zeros size d h) (only_scratch t (stored size) u like) (same_sp t (stored size) u like) in
      behind h.banks u seen (kept_goes_on g a c d d w w w k h.banks h.banks t all u h.kept last) turned

  pub near_clears : (at v p fresh : ℕ) (seen : Seen) → sp_of t + at ≡ to → IsPlaced (lines_of g a) → HasAt (lines_of g a) p (zeros_code (spots.Soft at) size fresh) → HasTurns g turns (place_in g a p) seen
      → Behind v (p + length (zeros_code (spots.Soft at) size fresh)) → Follows g n (10 + 6 * size + v) m (place_in g a p) t seen
  near_clears at v p fresh seen there once has turned behind =
      let more = blocks.clear_code (size % 65536) fresh in
      let ends : p + 7 + length more ≡ p + length (zeros_code (spots.Soft at) size fresh) = let e = length-append (near_code 8 at) more in omega (arith, e) in
      follows_weaken g n (7 + (3 + 6 * size + v)) (10 + 6 * size + v) m (place_in g a p) t seen (omega arith)
      (near_goes g a n turns m t calm r.joins.ended 8 at (omega arith) (omega arith) (omega (arith, there, in_page)) (omega (arith, there, in_page)) t.mem t r.joins.constant (like_itself t r.joins.bytes) (3 + 6 * size + v) p seen (has_front (lines_of g a) p (near_code 8 at) more has) turned (λ u1 s1 is t1.
      clear_goes v (p + 7) fresh u1 s1 once (has_back (lines_of g a) p (near_code 8 at) more has) is.like (is.word ∙ there) t1 (λ u2 s2 like t2.
      subst (λ l. Follows g n v m (place_in g a l) u2 s2) (sym ends) (finish v (p + length (zeros_code (spots.Soft at) size fresh)) u2 s2 like (subst (λ l. HasTurns g turns (place_in g a l) s2) ends t2) behind))))

  pub symbol_clears : (s : Sym) (at v p fresh : ℕ) (seen : Seen) → located g.place s at ≡ to → IsPlaced (lines_of g a) → HasAt (lines_of g a) p (zeros_code (spots.Data s at) size fresh) → HasTurns g turns (place_in g a p) seen
      → Behind v (p + length (zeros_code (spots.Data s at) size fresh)) → Follows g n (10 + 6 * size + v) m (place_in g a p) t seen
  symbol_clears s at v p fresh seen there once has turned behind =
      let more = blocks.clear_code (size % 65536) fresh in
      let ends : p + 4 + length more ≡ p + length (zeros_code (spots.Data s at) size fresh) = let e = length-append (symbol_code 8 s at) more in omega (arith, e) in
      follows_weaken g n (4 + (3 + 6 * size + v)) (10 + 6 * size + v) m (place_in g a p) t seen (omega arith)
      (symbol_goes g a n turns m t calm r.joins.ended 8 s at (omega arith) (omega arith) t.mem t r.joins.constant (like_itself t r.joins.bytes) (3 + 6 * size + v) p seen (has_front (lines_of g a) p (symbol_code 8 s at) more has) turned (λ u1 s1 is t1.
      clear_goes v (p + 4) fresh u1 s1 once (has_back (lines_of g a) p (symbol_code 8 s at) more has) is.like (is.word ∙ there) t1 (λ u2 s2 like t2.
      subst (λ l. Follows g n v m (place_in g a l) u2 s2) (sym ends) (finish v (p + length (zeros_code (spots.Data s at) size fresh)) u2 s2 like (subst (λ l. HasTurns g turns (place_in g a l) s2) ends t2) behind))))

-- ---- in regbank

module _ (g : World) (a : Active) (needs : ℕ) (c : Scene) (w : Placing) (k : Banks) (t : State) (placed : IsPlacement g.code g.place) (r : Ready g a 0 needs c w k t) (b e i : ℕ) (place_is : w b ≡ Some (Banked e i)) (o size : ℕ) (d : Scene) (h : IsReached g a needs c w k t placed r b (Banked e i) place_is o zeros size d) (some : 0 < size) (n turns : ℕ) (m : meaning.State) where
  abbrev low : ℕ
  low = 20 + (i + o)

  abbrev regs : Regs
  regs = apply false Lda 0 t.regs

  abbrev in_bank : Bytes → State
  in_bank zp = record t { regs = regs; zp = zp }

  inside : i + o + size ≤ 6
  inside = let x = h.block some in omega (arith, x.fits, r.joins.stands.lies b x.block (Banked e i) x.at)

  abbrev BankBehind : ℕ → ℕ → Type 0
  BankBehind v q = (banks : Banks) (u : State) (later : Seen) → Kept g a c w k t d w banks u → HasTurns g turns (place_in g a q) later → Follows g n v m (place_in g a q) u later

  bank_finish : (v q : ℕ) (zp : Bytes) (seen : Seen) → zp ≡ filled t.zp low zeros size → IsBytes (in_bank zp) → HasTurns g turns (place_in g a q) seen → BankBehind v q → Follows g n v m (place_in g a q) (in_bank zp) seen
  bank_finish v q zp seen same bytes turned behind =
      let all : State = record t { zp = filled t.zp low zeros size } in
      let u : State = in_bank (filled t.zp low zeros size) in
      let b2 : IsBytes u = subst (λ z. IsBytes (in_bank z)) same bytes in
      let last = scratch_is_kept g a 0 needs d w h.banks all u placed (ready_at g a needs c w k t placed r b (Banked e i) place_is o zeros size d h) (with_regs (sp_of all) all regs b2) refl in
      subst (λ z. Follows g n v m (place_in g a q) (in_bank z) seen) (sym same) (behind h.banks u seen (kept_goes_on g a c d d w w w k h.banks h.banks t all u h.kept last) turned)

  calm_bank : (v : ℕ) → IsBytes (in_bank (write t.zp low v)) → IsCalm (setting_in g) (in_bank (write t.zp low v))
  calm_bank v bytes =
      let calm = (ready_is_calm g a 0 needs c w k t r).calm in
      let first = write_other t.zp low v 0 (λ f. omega (arith, f)) in
      let second = write_other t.zp low v 1 (λ f. omega (arith, f)) in
      record { low = omega (arith, first, second, calm.low); high = omega (arith, first, second, calm.high); hard = calm.hard; constant = calm.constant; bytes = bytes }

  -- the first byte
  first_clears : (v p : ℕ) (seen : Seen) → slice_get (lines_of g a) p ≡ Some (value Lda 0) → slice_get (lines_of g a) (suc p) ≡ Some (zero_page Sta low) → HasTurns g turns (place_in g a p) seen
      → (IsBytes (in_bank (write t.zp low 0)) → (later : Seen) → HasTurns g turns (place_in g a (suc (suc p))) later → Follows g n v m (place_in g a (suc (suc p))) (in_bank (write t.zp low 0)) later) → Follows g n (2 + v) m (place_in g a p) t seen
  first_clears v p seen line0 line1 turned goes =
      let calm = (ready_is_calm g a 0 needs c w k t r).calm in
      follows_weaken g n (1 + (1 + v)) (2 + v) m (place_in g a p) t seen (omega arith)
      (line_goes g a n turns m t calm r.joins.ended (1 + v) p Lda Immediate (Byte 0) t.mem t seen r.joins.constant (like_itself t r.joins.bytes) line0 refl tt (omega arith) turned (λ b1 s1 t1.
      let like1 = like_registers t t.mem t (like_itself t r.joins.bytes) regs b1 in
      line_goes g a n turns m t calm r.joins.ended v (suc p) Sta ZeroPage (Zero low) t.mem (record t { regs = regs }) s1 r.joins.constant like1 line1 refl (omega (arith, inside), λ f. omega arith) tt t1 goes))

  pub bank_clears : (bank v p : ℕ) (seen : Seen) → bank ≡ i + o → size ≤ 2 → HasAt (lines_of g a) p (pointers.clear_code bank size) → HasTurns g turns (place_in g a p) seen
      → BankBehind v (p + length (pointers.clear_code bank size)) → Follows g n (3 + v) m (place_in g a p) t seen
  bank_clears bank v p seen there few has turned behind = go size refl
    where
      here : (20 + bank) % 256 ≡ low
      here = omega (arith, there, inside)

      next : ((20 + bank) % 256 + 1) % 256 ≡ low + 1
      next = omega (arith, there, inside)

      none : low ≡ low + 0
      none = omega arith

      go : (s : ℕ) → size ≡ s → Follows g n (3 + v) m (place_in g a p) t seen
      go zero f = absurd (omega (arith, f, some))
      go (suc zero) f =
          let lines : HasAt (lines_of g a) p (pointers.clear_code bank 1) = subst (λ s. HasAt (lines_of g a) p (pointers.clear_code bank s)) f has in
          let ends : suc (suc p) ≡ p + length (pointers.clear_code bank size) = let l = ap (λ s. length (pointers.clear_code bank s)) f in omega (arith, l) in
          let same : write t.zp low 0 ≡ filled t.zp low zeros size = ap (λ l. write t.zp l 0) none ∙ ap (filled t.zp low zeros) (sym f) in
          follows_weaken g n (2 + v) (3 + v) m (place_in g a p) t seen (omega arith)
          (first_clears v p seen lines.0 (subst (λ l. slice_get (lines_of g a) (suc p) ≡ Some (zero_page Sta l)) here lines.1.0) turned (λ b1 s1 t1.
          subst (λ l. Follows g n v m (place_in g a l) (in_bank (write t.zp low 0)) s1) (sym ends) (bank_finish v (p + length (pointers.clear_code bank size)) (write t.zp low 0) s1 same b1 (subst (λ l. HasTurns g turns (place_in g a l) s1) ends t1) behind)))
      go (suc (suc zero)) f =
          let lines : HasAt (lines_of g a) p (pointers.clear_code bank 2) = subst (λ s. HasAt (lines_of g a) p (pointers.clear_code bank s)) f has in
          let ends : suc (suc (suc p)) ≡ p + length (pointers.clear_code bank size) = let l = ap (λ s. length (pointers.clear_code bank s)) f in omega (arith, l) in
          let zp2 = write (write t.zp low 0) (low + 1) 0 in
          let same : zp2 ≡ filled t.zp low zeros size = ap (λ l. write (write t.zp l 0) (low + 1) 0) none ∙ ap (filled t.zp low zeros) (sym f) in
          let line2 : slice_get (lines_of g a) (suc (suc p)) ≡ Some (zero_page Sta (low + 1)) = subst (λ l. slice_get (lines_of g a) (suc (suc p)) ≡ Some (zero_page Sta l)) next lines.1.1.0 in
          follows_weaken g n (2 + (1 + v)) (3 + v) m (place_in g a p) t seen (omega arith)
          (first_clears (1 + v) p seen lines.0 (subst (λ l. slice_get (lines_of g a) (suc p) ≡ Some (zero_page Sta l)) here lines.1.0) turned (λ b1 s1 t1.
          operation g a n turns m v (suc (suc p)) Sta ZeroPage (Zero (low + 1)) (in_bank (write t.zp low 0)) s1 (record { there = line2; formed = refl; calm = calm_bank 0 b1; within = (omega (arith, inside), λ x. omega arith); running = r.joins.ended; given = tt; counted = t1 }) (λ b2 s2 t2.
          subst (λ l. Follows g n v m (place_in g a l) (in_bank zp2) s2) (sym ends) (bank_finish v (p + length (pointers.clear_code bank size)) zp2 s2 same b2 (subst (λ l. HasTurns g turns (place_in g a l) s2) ends t2) behind))))
      go (suc (suc (suc s))) f = absurd (omega (arith, f, few))

-- ---- the steps

module _ (g : World) (a : Active) (needs i : ℕ) (c : Scene) (w : Placing) (k : Banks) (t : State) (n v p fresh : ℕ) (work : List Item) (vs : List Value) (seen : Seen) (placed : IsPlacement g.code g.place) (once : IsPlaced (lines_of g a)) (has : HasAt (lines_of g a) p (zeros_code (spot_of a.frame i 0) (object_size (unit_in g).types (object_in (unit_in g) i)) fresh)) (r : Ready g a 0 needs c w k t) (sized : AreSized (unit_in g) c) (can : IsSettable g a i) (turned : HasTurns g c.turns (place_in g a p) seen) where
  abbrev size : ℕ
  size = object_size (unit_in g).types (object_in (unit_in g) i)

  some : 0 < size
  some = can.least

  abbrev lines : List Line
  lines = zeros_code (spot_of a.frame i 0) size fresh

  abbrev Ends : Type 0
  Ends = (j : ℕ) (d : Scene) (banks : Banks) (u : State) (later : Seen) → j < n → Kept g a c w k t d w banks u → HasTurns g d.turns (place_in g a (p + length lines)) later → Follows g j (v + 2600) (Running work vs d) (place_in g a (p + length lines)) u later

  abbrev steps : ByteSteps
  steps = record { size = size; item = λ done. Wipe i done size; work = work; values = vs; rest = vs; byte = λ done d. cleared d done (step.place_in_object (unit_in g) i 0 d) }

  -- its block
  module _ (b : ℕ) (named : block_in c.frames i ≡ Some b) where
    abbrev q : Spot
    q = joined.spot_of g a i

    place_is : w b ≡ Some q
    place_is = r.joins.homes i b named

    abbrev Reached : ℕ → Scene → Type 0
    Reached done d = IsReached g a needs c w k t placed r b q place_is 0 zeros done d

    place_of_object : (done : ℕ) (d : Scene) → Reached done d → step.place_in_object (unit_in g) i 0 d ≡ Place b 0
    place_of_object done d h =
        let same : block_in d.frames i ≡ Some b = ap (λ fs. block_in fs i) h.kept.frames ∙ named in
        ap (λ live. at_offset 0 (if live then step.place_in (block_in d.frames i) else Ok (Place (object_block (unit_in g) i) 0))) can.lives ∙ ap (λ m. at_offset 0 (step.place_in m)) same

    puts : (done : ℕ) (d e : Scene) → Reached done d → cleared d done (step.place_in_object (unit_in g) i 0 d) ≡ Ok e → Reached (suc done) e
    puts done d e h f =
        let put : IsPut d b (0 + done) (byte 0) e = cell_is_put d b (0 + done) (byte 0) e (sym (ap (cleared d done) (place_of_object done d h)) ∙ f) in
        let x = was_there g a needs c w k t placed r b q place_is 0 zeros done d h put.block put.is put.live in
        let now = ready_at g a needs c w k t placed r b q place_is 0 zeros done d h in
        let size = x.size in
        let there = is_there g a needs i c w k t placed r sized can b x.block q named (record { is = x.is; live = x.live; place = place_is }) (0 + done) 1 (omega (arith, size, put.fits, now.joins.stands.whole b put.block put.is)) in
        reached_on g a needs c w k t placed r b q place_is 0 zeros done d e (byte 0) h put (zero_cell done) (zero_small done) there.own there.varying
      where
        zero_next : (z : Spot) (done : ℕ) → next_byte t (beyond z 0) zeros done ≡ 0
        zero_next (At at) done = refl
        zero_next (Banked l j) done = refl

        zero_cell : (done : ℕ) → CellIs w (byte 0) (next_byte t (beyond q 0) zeros done)
        zero_cell done = rw (zero_next q done) refl

        zero_small : (done : ℕ) → next_byte t (beyond q 0) zeros done < 256
        zero_small done = rw (zero_next q done) (omega arith)

    are : AreSteps g steps c Reached
    are = record {
      out = λ done d h. h.out;
      turns = λ done d h. h.turns;
      performs = performs;
      none = λ e. absurd (omega (arith, e, some));
      puts = puts;
    }
      where
        performs : (done : ℕ) (d : Scene) → Reached done d → done < size → perform (program_in g) (Wipe i done size) work vs d ≡ next_of steps done (cleared d done (step.place_in_object (unit_in g) i 0 d))
        performs done d h lt = ap (λ (x : Bool). if x then step.wipe_step i done size work vs (cleared d done (step.place_in_object (unit_in g) i 0 d)) else Running work vs d) (less done size lt) ∙ by (cleared d done (step.place_in_object (unit_in g) i 0 d))
          where
            by : (s : Result Scene Why) → step.wipe_step i done size work vs s ≡ next_of steps done s
            by (Ok x) = refl
            by (Err why) = refl

    -- the lines, wherever the object lies
    by_spot : (s : objects.Spot) (z : Spot) (at : w b ≡ Some z) (d : Scene) → IsReached g a needs c w k t placed r b z at 0 zeros size d → IsThere g a t s size 0 z → HasAt (lines_of g a) p (zeros_code s size fresh) → (j turns : ℕ) (m : meaning.State) → HasTurns g turns (place_in g a p) seen
        → ((banks : Banks) (u : State) (later : Seen) → Kept g a c w k t d w banks u → HasTurns g turns (place_in g a (p + length (zeros_code s size fresh))) later → Follows g j (v + 2600) m (place_in g a (p + length (zeros_code s size fresh))) u later)
        → Follows g j (v + 3600 + 16 * size) m (place_in g a p) t seen
    by_spot (spots.Bank bank) (Banked e l) at d h there code j turns m come behind =
        let spot : Banked (length a.behind) bank ≡ Banked e (l + 0) = there.spot in
        let same : bank ≡ l + 0 = cc in
        follows_weaken g j (3 + (v + 2600)) (v + 3600 + 16 * size) m (place_in g a p) t seen (omega arith)
        (bank_clears g a needs c w k t placed r b e l at 0 size d h some j turns m bank (v + 2600) p seen same there.held code come behind)
    by_spot (spots.Bank bank) (At from) at d h there code j turns m come behind = let spot : Banked (length a.behind) bank ≡ At (from + 0) = there.spot in cc
    by_spot (spots.Soft off) (At from) at d h there code j turns m come behind =
        let spot : At (sp_of t + off) ≡ At (from + 0) = there.spot in
        let same : sp_of t + off ≡ from + 0 = cc in
        follows_weaken g j (10 + 6 * size + (v + 2600)) (v + 3600 + 16 * size) m (place_in g a p) t seen (omega arith)
        (near_clears g a needs c w k t placed r b from at 0 size d h some j turns m off (v + 2600) p fresh seen same once code come behind)
    by_spot (spots.Soft off) (Banked e l) at d h there code j turns m come behind = let spot : At (sp_of t + off) ≡ Banked e (l + 0) = there.spot in cc
    by_spot (spots.Data s off) (At from) at d h there code j turns m come behind =
        let spot : At (located g.place s off) ≡ At (from + 0) = there.spot in
        let same : located g.place s off ≡ from + 0 = cc in
        follows_weaken g j (10 + 6 * size + (v + 2600)) (v + 3600 + 16 * size) m (place_in g a p) t seen (omega arith)
        (symbol_clears g a needs c w k t placed r b from at 0 size d h some j turns m s off (v + 2600) p fresh seen same once code come behind)
    by_spot (spots.Data s off) (Banked e l) at d h there code j turns m come behind = let spot : At (located g.place s off) ≡ Banked e (l + 0) = there.spot in cc

    clears : Ends → Follows g n v (Running (Wipe i 0 size ∷ work) vs c) (place_in g a p) t seen
    clears ends =
        all_earn g a steps c Reached are t seen v p (ready_is_calm g a 0 needs c w k t r).calm r.joins.output r.joins.ended (omega (arith, turned)) n (reached_first g a needs c w k t placed r b q place_is 0 zeros) (λ j d lt h.
        let x = h.block some in
        let there = is_there g a needs i c w k t placed r sized can b x.block q named x.at 0 size (omega (arith, x.fits)) in
        by_spot (spot_of a.frame i 0) q place_is d h there has j d.turns (Running work vs d) (subst (λ s. HasTurns g s (place_in g a p) seen) (sym h.turns) turned) (λ banks u later kept come. ends j d banks u later lt kept come))

  -- where there is none nothing is defined
  by_block : Ends → (m : Option ℕ) → block_in c.frames i ≡ m → Follows g n v (Running (Wipe i 0 size ∷ work) vs c) (place_in g a p) t seen
  by_block ends (Some b) e = clears b e ends
  by_block ends None e =
      steps_earn g n v (Wipe i 0 size) work vs c (place_in g a p) t seen (ready_is_calm g a 0 needs c w k t r).calm r.joins.output r.joins.ended (omega (arith, turned)) (λ j lt.
      let none : step.place_in_object (unit_in g) i 0 c ≡ NoValue = ap (λ live. at_offset 0 (if live then step.place_in (block_in c.frames i) else Ok (Place (object_block (unit_in g) i) 0))) can.lives ∙ ap (λ m. at_offset 0 (step.place_in m)) e in
      let first : perform (program_in g) (Wipe i 0 size) work vs c ≡ step.wipe_step i 0 size work vs (cleared c 0 NoValue) = ap (λ at. clear_step i 0 size at work vs c) none ∙ ap (λ (x : Bool). if x then step.wipe_step i 0 size work vs (cleared c 0 NoValue) else Running work vs c) (less 0 size some) in
      subst (λ m. Follows g j (v + 4000) m (place_in g a p) t seen) (sym first) (nothing_follows g _ j (v + 4000) (place_in g a p) t seen))

pub objects_are_cleared : ObjectsAreCleared
objects_are_cleared g a needs i c w k t n v p fresh work vs seen placed once has r sized can turned ends =
    by_block g a needs i c w k t n v p fresh work vs seen placed once has r sized can turned ends (block_in c.frames i) refl
