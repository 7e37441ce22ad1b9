-- A structure or union that is an initial value: its bytes are carried into a part of an object.
use Rattle.std.proofs.Common.{◌≡◌, ℕ, suc, ◌+◌, ◌*◌, ◌%◌, ◌<◌, ◌≤◌, ◌⊎◌, inl, inr, List, [], ◌∷◌, Option, Some, None, Bool, true, false, refl, sym, ap, ◌∙◌, subst, arith, length-append}
use Rattle.std.specs.Prelude.{length, slice_get, ◌==◌, ◌&&◌, IsTrue, if◌then◌else◌, Result, Ok, Err}
use Rattle.std.proofs.lemmas.Bool.{cases_lt}
use Rattle.c65_mach.specs.declared.rows.Op.TheVariants.{Inc, Lda, Ldy, Sta, Stx}
use Rattle.c65_mach.specs.declared.rows.Mode.TheVariants.{Immediate, ZeroPage, IndirectY}
use Rattle.c65_mach.specs.Step.{apply, signed}
use Rattle.c65_meaning.specs.declared.action.Action.TheVariants.{PartialOverlap}
use Rattle.c65_meaning.specs.Why.{Why, By}
use Rattle.c65_meaning.specs.Store.{Value, Whole, Null, Place, Opaque, Cells, NoValue}
use Rattle.c65_meaning.specs.Items.{Item, CarryInto}
use Rattle.c65_meaning.specs.Shapes.{object_block}
use Rattle.c65_meaning.specs.State as meaning
use Rattle.c65_meaning.specs.State.{Scene, Running, block_in}
use Rattle.c65_meaning.specs.Step as step
use Rattle.c65_meaning.specs.Step.{perform, partly_overlap, carried, carried_byte, carry_into_step, set_area_step, at_offset}
use Rattle.c65_code.specs.declared.line.Sym.{Sym}
use Rattle.c65_code.specs.declared.line.Operand.TheVariants.{Byte, Zero}
use Rattle.c65_code.specs.declared.line.Line.{Line}
use Rattle.c65_code.specs.LineState.{Bytes, write, State, sp_of, ax_of}
use Rattle.c65_code.specs.Placement.{IsPlacement, located}
use Rattle.c65_code.specs.Steady.{IsCalm, IsOpen}
use Rattle.c65_code.specs.Comes.{Seen}
use Rattle.c65_genframe.specs.declared.home.Home.{Home}
use Rattle.c65_genframe.specs.declared.home.Home.TheVariants as homes
use Rattle.c65_genframe.specs.Frames.{home_of, is_raised}
use Rattle.c65_genwide.specs.Lines.{value}
use Rattle.c65_genentry.specs.Words.{zero_page, by_y}
use Rattle.c65_genentry.specs.Pointers.{near_code, symbol_code}
use Rattle.c65_genentry.specs.Bytes.{block_code}
use Rattle.c65_genentry.specs.Bytes as blocks
use Rattle.c65_genstmt.specs.declared.objects.Spot as objects
use Rattle.c65_genstmt.specs.declared.objects.Spot.TheVariants as spots
use Rattle.c65_genstmt.specs.Objects.{spot_at, spot_of}
use Rattle.c65_agree_store.specs.Stands.{At, Placing, Banks, CellIs, IsAt}
use Rattle.c65_agree_state.specs.World.{World, unit_in, program_in, setting_in, Active, lines_of, place_in, HasAt, IsPlaced, HasTurns}
use Rattle.c65_agree_state.specs.Fixed.{symbol_at}
use Rattle.c65_agree_state.specs.Sizes.{AreSized}
use Rattle.c65_agree_state.specs.Joins.{home_spot}
use Rattle.c65_agree_state.specs.Follows.{Follows}
use Rattle.c65_agree_state.specs.Exprs.{Ready, Kept}
use Rattle.c65_agree_state.proofs.Followed.{follows_weaken, steps_earn, ready_is_calm}
use Rattle.c65_agree_state.proofs.Leaves.{scratch_is_kept}
use Rattle.c65_agree_state.proofs.Nodes.{has_front, has_back}
use Rattle.c65_agree_state.proofs.Parts.{kept_goes_on}
use Rattle.c65_agree_numbers.proofs.Tests.{less}
use Rattle.c65_agree_rows.proofs.Quiet.{write_other, write_same, nothing_follows}
use Rattle.c65_agree_part.specs.Parts.{IsInMemory, IsSettable, IsSource, area_code}
use Rattle.c65_agree_part.specs.Laws.{AreasAreBegun}
use Rattle.c65_agree_part.proofs.Lines.{IsLike, like_itself, like_registers, like_scratch, same_sp, only_scratch, HasConstants, line_goes, near_goes, symbol_goes, through_goes, filled, filled_constants}
use Rattle.c65_agree_part.proofs.Loops.{EachGoes, AfterGoes, Stays, block_goes}
use Rattle.c65_agree_part.proofs.Where.{IsThere, is_there}
use Rattle.c65_agree_part.proofs.Earned.{ByteSteps, AreSteps, next_of, all_earn}
use Rattle.c65_agree_part.proofs.Bytes.{IsCarried, cell_is_carried, IsReached, ready_at, was_there, reached_on, reached_first}

-- each byte is that so far behind the source
abbrev from_source : ℕ → Bytes → ℕ → ℕ
from_source source m i = m (source + i)

module _ (g : World) (a : Active) (needs : ℕ) (c : Scene) (w : Placing) (k : Banks) (t : State) (placed : IsPlacement g.code g.place) (r : Ready g a 0 needs c w k t) (b from : ℕ) (place_is : w b ≡ Some (At from)) (o source : ℕ) where
  -- so many bytes are carried, and the machine may reach them where they were
  pub record IsOnTheWay (done : ℕ) (d : Scene) : Type 0 where
    pub reached : IsReached g a needs c w k t placed r b (At from) place_is o (from_source source) done d
    pub opens : (i : ℕ) → i < done → IsOpen g.place (sp_of t) (source + i)
    pub low : (i : ℕ) → i < done → source + i < 65520

-- ---- the lines

module _ (g : World) (a : Active) (needs : ℕ) (c : Scene) (w : Placing) (k : Banks) (t : State) (placed : IsPlacement g.code g.place) (r : Ready g a 0 needs c w k t) (b from : ℕ) (place_is : w b ≡ Some (At from)) (o source size : ℕ) (d : Scene) (h : IsOnTheWay g a needs c w k t placed r b from place_is o source size d) (some : 0 < size) (n turns : ℕ) (m : meaning.State) where
  abbrev to : ℕ
  to = from + o

  abbrev stored : ℕ → Bytes
  stored i = filled t.mem to (from_source source) i

  abbrev calm : IsCalm (setting_in g) t
  calm = (ready_is_calm g a 0 needs c w k t r).calm

  -- both pointers are where they are to be
  abbrev Pointed : ℕ → State → Type 0
  Pointed pages u = (u.zp 8 + 256 * u.zp 9 ≡ source + 256 * pages) × (u.zp 10 + 256 * u.zp 11 ≡ to + 256 * pages)

  in_page : to + size ≤ 65520
  in_page = let x = h.reached.block some in omega (arith, x.fits, (r.joins.stands.lies b x.block (At from) x.at).1)

  constants : (i : ℕ) → i ≤ size → HasConstants g (stored i)
  constants i le = filled_constants t.mem to (from_source source) g i (λ j lt. h.reached.varying from refl j (omega (arith, lt, le))) r.joins.constant

  stays : Stays g a n turns m t stored Pointed size
  stays pages u regs e p = p

  each_goes : EachGoes g a n turns m t stored Pointed size (by_y Lda 8 ∷ by_y Sta 10 ∷ [])
  each_goes v p pages y u seen small lt has i turned goes =
      let now = i.y in
      let done = 256 * pages + y in
      let word = i.at.0 in
      let room = h.low done lt in
      let l : (u.zp 8 + 256 * u.zp 9 + u.regs.y) % 65536 ≡ source + done = omega (arith, word, now, room) in
      let sp = same_sp t (stored done) u i.like in
      follows_weaken g n (1 + (1 + v)) (2 + v) m (place_in g a p) u seen (omega arith)
      (line_goes g a n turns m t calm r.joins.ended (1 + v) p Lda IndirectY (Zero 8) (stored done) u seen (constants done (omega (arith, lt))) i.like has.0 refl (subst (λ q. IsOpen g.place (sp_of u) q) (sym l) (subst (λ q. IsOpen g.place q (source + done)) (sym sp) (h.opens done lt))) tt turned (λ b1 s1 t1.
      let byte = u.mem ((u.zp 8 + 256 * u.zp 9 + u.regs.y) % 65536) in
      let regs = apply false Lda byte u.regs in
      let u1 : State = record u { regs = regs } in
      let like1 : IsLike t (stored done) u1 = like_registers t (stored done) u i.like regs b1 in
      let same : byte ≡ from_source source (stored done) done = ap u.mem l ∙ i.like.mem (source + done) in
      let base = to + 256 * pages in
      let spot : base + u.regs.y ≡ to + done = omega (arith, now) in
      through_goes g a n turns m t calm r.joins.ended 10 base (omega arith) v (suc p) (stored done) u1 s1 (constants done (omega (arith, lt))) like1 i.at.1 (omega (arith, spot, lt, in_page)) (subst (λ q. IsOpen g.place (sp_of t) q) (sym spot) (h.reached.opens from refl done lt)) has.1.0 t1 (λ like s2 t2.
      let u2 : State = record u1 { mem = write u.mem (base + u.regs.y) byte } in
      let like2 : IsLike t (stored (suc done)) u2 = subst (λ q. IsLike t (write (stored done) (to + done) q) u2) same (subst (λ q. IsLike t (write (stored done) q byte) u2) spot like) in
      let there : suc (suc p) ≡ p + 2 = omega arith in
      subst (λ q. Follows g n v m (place_in g a q) u2 s2) (sym there) (goes u2 s2 (record { like = like2; y = i.y; at = i.at }) refl (subst (λ q. HasTurns g turns (place_in g a q) s2) there t2)))))

  -- the high byte of a pointer counts
  counts : (v p byte base pages : ℕ) (memory : Bytes) (u : State) (seen : Seen) → 8 ≤ byte → byte < 19 → HasConstants g memory → IsLike t memory u → u.zp byte + 256 * u.zp (byte + 1) ≡ base + 256 * pages → base + 256 * suc pages < 65536 → slice_get (lines_of g a) p ≡ Some (zero_page Inc (byte + 1)) → HasTurns g turns (place_in g a p) seen
      → ((u2 : State) (later : Seen) → IsLike t memory u2 → u2.regs.x ≡ u.regs.x → u2.regs.y ≡ u.regs.y → ((i : ℕ) → (i ≡ byte + 1 → ⊥) → u2.zp i ≡ u.zp i) → u2.zp byte + 256 * u2.zp (byte + 1) ≡ base + 256 * suc pages → HasTurns g turns (place_in g a (suc p)) later → Follows g n v m (place_in g a (suc p)) u2 later)
      → Follows g n (1 + v) m (place_in g a p) u seen
  counts v p byte base pages memory u seen low few constant like word small there turned goes =
      line_goes g a n turns m t calm r.joins.ended v p Inc ZeroPage (Zero (byte + 1)) memory u seen constant like there refl (omega (arith, few), λ f. omega (arith, low)) tt turned (λ b1 s1 t1.
      let high = (u.zp (byte + 1) + 1) % 256 in
      let regs = record (signed high u.regs) { c = u.regs.c } in
      let one : write u.zp (byte + 1) high byte ≡ u.zp byte = write_other u.zp (byte + 1) high byte (λ e. omega (arith, e)) in
      let two : write u.zp (byte + 1) high (byte + 1) ≡ high = write_same u.zp (byte + 1) high in
      goes (record u { regs = regs; zp = write u.zp (byte + 1) high }) s1 (like_scratch t memory u like regs (byte + 1) high (omega (arith, low)) (omega (arith, few)) b1) refl refl (λ i ne. write_other u.zp (byte + 1) high i ne) (omega (arith, one, two, word, small, like.bytes.zp byte)) t1)

  after_goes : AfterGoes g a n turns m t stored Pointed size (zero_page Inc 9 ∷ zero_page Inc 11 ∷ [])
  after_goes v p pages u seen fits has i turned goes =
      let all = 256 * suc pages in
      let room = h.low (255 + 256 * pages) (omega (arith, fits)) in
      follows_weaken g n (1 + (1 + v)) (2 + v) m (place_in g a p) u seen (omega arith)
      (counts (1 + v) p 8 source pages (stored all) u seen (omega arith) (omega arith) (constants all fits) i.like i.at.0 (omega (arith, room)) has.0 turned (λ u1 s1 like1 x1 y1 others1 word1 t1.
      let ten = others1 10 (λ e. omega (arith, e)) in
      let eleven = others1 11 (λ e. omega (arith, e)) in
      let second = i.at.1 in
      counts v (suc p) 10 to pages (stored all) u1 s1 (omega arith) (omega arith) (constants all fits) like1 (omega (arith, ten, eleven, second)) (omega (arith, fits, in_page)) has.1.0 t1 (λ u2 s2 like2 x2 y2 others2 word2 t2.
      let eight = others2 8 (λ e. omega (arith, e)) in
      let nine = others2 9 (λ e. omega (arith, e)) in
      let there : suc (suc p) ≡ p + 2 = omega arith in
      subst (λ q. Follows g n v m (place_in g a q) u2 s2) (sym there) (goes u2 s2 (record { like = like2; y = y2 ∙ y1 ∙ i.y; at = (omega (arith, eight, nine, word1), word2) }) (x2 ∙ x1) (subst (λ q. HasTurns g turns (place_in g a q) s2) there t2)))))

  -- behind both pointers
  copy_goes : (v p fresh : ℕ) (u : State) (seen : Seen) → IsPlaced (lines_of g a) → HasAt (lines_of g a) p (blocks.copy_code (size % 65536) fresh) → IsLike t t.mem u → u.zp 8 + 256 * u.zp 9 ≡ source → u.zp 10 + 256 * u.zp 11 ≡ to → HasTurns g turns (place_in g a p) seen
      → ((u2 : State) (later : Seen) → IsLike t (stored size) u2 → HasTurns g turns (place_in g a (p + length (blocks.copy_code (size % 65536) fresh))) later → Follows g n v m (place_in g a (p + length (blocks.copy_code (size % 65536) fresh))) u2 later)
      → Follows g n (2 + 6 * size + v) m (place_in g a p) u seen
  copy_goes v p fresh u seen once has like word1 word2 turned goes =
      let same : size % 65536 ≡ size = omega (arith, in_page) in
      let each = by_y Lda 8 ∷ by_y Sta 10 ∷ [] in
      let after = zero_page Inc 9 ∷ zero_page Inc 11 ∷ [] in
      let code = block_code each after size fresh in
      let whole : HasAt (lines_of g a) p (value Ldy 0 ∷ code) = subst (λ s. HasAt (lines_of g a) p (blocks.copy_code s fresh)) same has in
      let ends : suc p + length code ≡ p + length (blocks.copy_code (size % 65536) fresh) = let e = ap (λ s. length (blocks.copy_code s fresh)) same in omega (arith, e) in
      follows_weaken g n (1 + (6 * size + (1 + v))) (2 + 6 * size + v) m (place_in g a p) u seen (omega arith)
      (line_goes g a n turns m t calm r.joins.ended (6 * size + (1 + v)) p Ldy Immediate (Byte 0) t.mem u seen r.joins.constant like whole.0 refl tt (omega arith) turned (λ b1 s1 t1.
      let u1 : State = record u { regs = apply false Ldy 0 u.regs } in
      let like1 = like_registers t t.mem u like (apply false Ldy 0 u.regs) b1 in
      let start1 : u.zp 8 + 256 * u.zp 9 ≡ source + 256 * 0 = word1 ∙ omega arith in
      let start2 : u.zp 10 + 256 * u.zp 11 ≡ to + 256 * 0 = word2 ∙ omega arith in
      block_goes g a n turns m t stored Pointed size calm r.joins.ended constants stays each each_goes after after_goes v (suc p) fresh u1 s1 (omega (arith, in_page)) once whole.1 (record { like = like1; y = refl; at = (start1, start2) }) t1 (λ u2 s2 like2 t2.
      subst (λ q. Follows g n v m (place_in g a q) u2 s2) (sym ends) (goes u2 s2 like2 (subst (λ q. HasTurns g turns (place_in g a q) s2) ends t2)))))

  -- behind the lines
  abbrev Behind : ℕ → ℕ → Type 0
  Behind v q = (banks : Banks) (u : State) (later : Seen) → Kept g a c w k t d w banks u → HasTurns g turns (place_in g a q) later → Follows g n v m (place_in g a q) u later

  finish : (v q : ℕ) (u : State) (seen : Seen) → IsLike t (stored size) u → HasTurns g turns (place_in g a q) seen → Behind v q → Follows g n v m (place_in g a q) u seen
  finish v q u seen like turned behind =
      let all : State = record t { mem = stored size } in
      let last = scratch_is_kept g a 0 needs d w h.reached.banks all u placed (ready_at g a needs c w k t placed r b (At from) place_is o (from_source source) size d h.reached) (only_scratch t (stored size) u like) (same_sp t (stored size) u like) in
      behind h.reached.banks u seen (kept_goes_on g a c d d w w w k h.reached.banks h.reached.banks t all u h.reached.kept last) turned

  -- the source's address goes to the first pointer
  source_goes : (v p : ℕ) (seen : Seen) → ax_of t ≡ source → slice_get (lines_of g a) p ≡ Some (zero_page Sta 8) → slice_get (lines_of g a) (suc p) ≡ Some (zero_page Stx 9) → HasTurns g turns (place_in g a p) seen
      → ((u : State) (later : Seen) → IsLike t t.mem u → u.zp 8 + 256 * u.zp 9 ≡ source → HasTurns g turns (place_in g a (suc (suc p))) later → Follows g n v m (place_in g a (suc (suc p))) u later) → Follows g n (2 + v) m (place_in g a p) t seen
  source_goes v p seen is line0 line1 turned goes =
      follows_weaken g n (1 + (1 + v)) (2 + v) m (place_in g a p) t seen (omega arith)
      (line_goes g a n turns m t calm r.joins.ended (1 + v) p Sta ZeroPage (Zero 8) t.mem t seen r.joins.constant (like_itself t r.joins.bytes) line0 refl (omega arith, λ f. omega arith) tt turned (λ b1 s1 t1.
      let zp1 = write t.zp 8 t.regs.a in
      let u1 : State = record t { zp = zp1 } in
      let like1 : IsLike t t.mem u1 = like_scratch t t.mem t (like_itself t r.joins.bytes) t.regs 8 t.regs.a (omega arith) (omega arith) b1 in
      line_goes g a n turns m t calm r.joins.ended v (suc p) Stx ZeroPage (Zero 9) t.mem u1 s1 r.joins.constant like1 line1 refl (omega arith, λ f. omega arith) tt t1 (λ b2 s2 t2.
      let zp2 = write zp1 9 t.regs.x in
      let u2 : State = record u1 { zp = zp2 } in
      let like2 : IsLike t t.mem u2 = like_scratch t t.mem u1 like1 t.regs 9 t.regs.x (omega arith) (omega arith) b2 in
      let first : zp2 8 ≡ t.regs.a = write_other zp1 9 t.regs.x 8 (λ e. omega (arith, e)) ∙ write_same t.zp 8 t.regs.a in
      let second : zp2 9 ≡ t.regs.x = write_same zp1 9 t.regs.x in
      goes u2 s2 like2 (omega (arith, first, second, is)) t2)))

  pub near_carries : (at v p fresh : ℕ) (seen : Seen) → sp_of t + at ≡ to → ax_of t ≡ source → IsPlaced (lines_of g a) → HasAt (lines_of g a) p (area_code (spots.Soft at) size fresh) → HasTurns g turns (place_in g a p) seen
      → Behind v (p + length (area_code (spots.Soft at) size fresh)) → Follows g n (11 + 6 * size + v) m (place_in g a p) t seen
  near_carries at v p fresh seen there is once has turned behind =
      let more = blocks.copy_code (size % 65536) fresh in
      let ends : suc (suc p) + 7 + length more ≡ p + length (area_code (spots.Soft at) size fresh) = let e = length-append (near_code 10 at) more in omega (arith, e) in
      follows_weaken g n (2 + (7 + (2 + 6 * size + v))) (11 + 6 * size + v) m (place_in g a p) t seen (omega arith)
      (source_goes (7 + (2 + 6 * size + v)) p seen is has.0 has.1.0 turned (λ u1 s1 like1 word1 t1.
      near_goes g a n turns m t calm r.joins.ended 10 at (omega arith) (omega arith) (omega (arith, there, in_page)) (omega (arith, there, in_page)) t.mem u1 r.joins.constant like1 (2 + 6 * size + v) (suc (suc p)) s1 (has_front (lines_of g a) (suc (suc p)) (near_code 10 at) more has.1.1) t1 (λ u2 s2 is2 t2.
      let eight = is2.others 8 (λ e. omega (arith, e)) (λ e. omega (arith, e)) in
      let nine = is2.others 9 (λ e. omega (arith, e)) (λ e. omega (arith, e)) in
      copy_goes v (suc (suc p) + 7) fresh u2 s2 once (has_back (lines_of g a) (suc (suc p)) (near_code 10 at) more has.1.1) is2.like (omega (arith, eight, nine, word1)) (is2.word ∙ there) t2 (λ u3 s3 like t3.
      subst (λ l. Follows g n v m (place_in g a l) u3 s3) (sym ends) (finish v (p + length (area_code (spots.Soft at) size fresh)) u3 s3 like (subst (λ l. HasTurns g turns (place_in g a l) s3) ends t3) behind)))))

  pub symbol_carries : (s : Sym) (at v p fresh : ℕ) (seen : Seen) → located g.place s at ≡ to → ax_of t ≡ source → IsPlaced (lines_of g a) → HasAt (lines_of g a) p (area_code (spots.Data s at) size fresh) → HasTurns g turns (place_in g a p) seen
      → Behind v (p + length (area_code (spots.Data s at) size fresh)) → Follows g n (11 + 6 * size + v) m (place_in g a p) t seen
  symbol_carries s at v p fresh seen there is once has turned behind =
      let more = blocks.copy_code (size % 65536) fresh in
      let ends : suc (suc p) + 4 + length more ≡ p + length (area_code (spots.Data s at) size fresh) = let e = length-append (symbol_code 10 s at) more in omega (arith, e) in
      follows_weaken g n (2 + (4 + (2 + 6 * size + v))) (11 + 6 * size + v) m (place_in g a p) t seen (omega arith)
      (source_goes (4 + (2 + 6 * size + v)) p seen is has.0 has.1.0 turned (λ u1 s1 like1 word1 t1.
      symbol_goes g a n turns m t calm r.joins.ended 10 s at (omega arith) (omega arith) t.mem u1 r.joins.constant like1 (2 + 6 * size + v) (suc (suc p)) s1 (has_front (lines_of g a) (suc (suc p)) (symbol_code 10 s at) more has.1.1) t1 (λ u2 s2 is2 t2.
      let eight = is2.others 8 (λ e. omega (arith, e)) (λ e. omega (arith, e)) in
      let nine = is2.others 9 (λ e. omega (arith, e)) (λ e. omega (arith, e)) in
      copy_goes v (suc (suc p) + 4) fresh u2 s2 once (has_back (lines_of g a) (suc (suc p)) (symbol_code 10 s at) more has.1.1) is2.like (omega (arith, eight, nine, word1)) (is2.word ∙ there) t2 (λ u3 s3 like t3.
      subst (λ l. Follows g n v m (place_in g a l) u3 s3) (sym ends) (finish v (p + length (area_code (spots.Data s at) size fresh)) u3 s3 like (subst (λ l. HasTurns g turns (place_in g a l) s3) ends t3) behind)))))

-- ---- the steps

-- whether areas overlap is asked at the first byte
byte_carries : (size done : ℕ) (d e : Scene) (b o p q : ℕ) → carried_byte true done size d (Place b o) (Place p q) ≡ Ok e → IsCarried d b (o + done) p (q + done) e
byte_carries size done d e b o p q h = go (done == 0 && partly_overlap size (Place b o) (Place p q)) h
  where
    go : (overlap : Bool) → (if overlap then Err (By PartialOverlap) else carried true done d (Place b o) (Place p q)) ≡ Ok e → IsCarried d b (o + done) p (q + done) e
    go true h = cc
    go false h = cell_is_carried d b (o + done) p (q + done) e h

-- an object in memory
in_memory : (g : World) (a : Active) (i o : ℕ) (h : Option Home) → IsInMemory (spot_at a.frame i o h) → (from : ℕ) × (home_spot g a i h ≡ At from)
in_memory g a i o None at = (symbol_at g i, refl)
in_memory g a i o (Some (homes.Bank n)) at = absurd at
in_memory g a i o (Some (homes.Soft d)) at = (a.base + d + (if is_raised a.frame i then a.raised else 0), refl)

module _ (g : World) (a : Active) (needs i o size : ℕ) (c : Scene) (w : Placing) (k : Banks) (t : State) (n v p fresh : ℕ) (work : List Item) (vs : List Value) (seen : Seen) (placed : IsPlacement g.code g.place) (once : IsPlaced (lines_of g a)) (has : HasAt (lines_of g a) p (area_code (spot_of a.frame i o) size fresh)) (r : Ready g a 0 needs c w k t) (sized : AreSized (unit_in g) c) (can : IsSettable g a i) (memory : IsInMemory (spot_of a.frame i o)) (some : 0 < size) (turned : HasTurns g c.turns (place_in g a p) seen) where
  abbrev lines : List Line
  lines = area_code (spot_of a.frame i o) size fresh

  abbrev Ends : Type 0
  Ends = (j : ℕ) (d : Scene) (banks : Banks) (u : State) (later : Seen) → j < n → Kept g a c w k t d w banks u → HasTurns g d.turns (place_in g a (p + length lines)) later → Follows g j (v + 2600) (Running work vs d) (place_in g a (p + length lines)) u later

  abbrev into : Scene → Value
  into d = step.place_in_object (unit_in g) i o d

  abbrev steps : Value → ByteSteps
  steps x = record { size = size; item = λ done. CarryInto i o done size; work = work; values = x ∷ vs; rest = vs; byte = λ done d. carried_byte true done size d x (into d) }

  -- its block, and the one that it is carried from
  module _ (b : ℕ) (named : block_in c.frames i ≡ Some b) (from : ℕ) (home : home_spot g a i (home_of a.frame i) ≡ At from) (s at l : ℕ) (stands : w s ≡ Some (At at)) (is : ax_of t ≡ at + l) where
    place_is : w b ≡ Some (At from)
    place_is = r.joins.homes i b named ∙ ap Some home

    abbrev source : ℕ
    source = at + l

    abbrev Way : ℕ → Scene → Type 0
    Way done d = IsOnTheWay g a needs c w k t placed r b from place_is o source done d

    place_of_object : (done : ℕ) (d : Scene) → Way done d → into d ≡ Place b o
    place_of_object done d h =
        let same : block_in d.frames i ≡ Some b = ap (λ fs. block_in fs i) h.reached.kept.frames ∙ named in
        ap (λ live. at_offset o (if live then step.place_in (block_in d.frames i) else Ok (Place (object_block (unit_in g) i) 0))) can.lives ∙ ap (λ m. at_offset o (step.place_in m)) same ∙ ap (Place b) (omega arith)

    puts : (done : ℕ) (d e : Scene) → Way done d → carried_byte true done size d (Place s l) (into d) ≡ Ok e → Way (suc done) e
    puts done d e h f =
        let one : IsCarried d s (l + done) b (o + done) e = byte_carries size done d e s l b o (sym (ap (carried_byte true done size d (Place s l)) (place_of_object done d h)) ∙ f) in
        let put = one.put in
        let x = was_there g a needs c w k t placed r b (At from) place_is o (from_source source) done d h.reached put.block put.is put.live in
        let now = ready_at g a needs c w k t placed r b (At from) place_is o (from_source source) done d h.reached in
        let count = x.size in
        let there = is_there g a needs i c w k t placed r sized can b x.block (At from) named (record { is = x.is; live = x.live; place = place_is }) (o + done) 1 (omega (arith, count, put.fits, now.joins.stands.whole b put.block put.is)) in
        let here : IsAt d.store w s one.source (At at) = record { is = one.is; live = one.live; place = stands } in
        let inside : at + (l + done) < 65520 = omega (arith, one.fits, now.joins.stands.whole s one.source one.is, (now.joins.stands.lies s one.source (At at) here).1) in
        let e1 : at + (l + done) ≡ source + done = omega arith in
        let cell : CellIs w (one.source.cells (l + done)) (filled t.mem (from + o) (from_source source) done (source + done)) = subst (λ q. CellIs w (one.source.cells (l + done)) (filled t.mem (from + o) (from_source source) done q)) e1 (now.joins.stands.cells s one.source (At at) (l + done) here (omega (arith, one.fits))) in
        record {
          reached = reached_on g a needs c w k t placed r b (At from) place_is o (from_source source) done d e (one.source.cells (l + done)) h.reached put cell (now.joins.bytes.mem (source + done)) there.own there.varying;
          opens = λ j lt. opened j (cases_lt j done) lt (now.joins.reached s one.source at (l + done) here (omega (arith, one.fits))) inside;
          low = λ j lt. under j (cases_lt j done) lt inside;
        }
      where
        opened : (j : ℕ) → (j < done) ⊎ (done ≤ j) → j < suc done → IsTrue (g.place.is_data (at + (l + done))) ⊎ (a.base ≤ at + (l + done)) → at + (l + done) < 65520 → IsOpen g.place (sp_of t) (source + j)
        opened j (inl less_than) lt reach inside = h.opens j less_than
        opened j (inr least) lt (inl data_there) inside = let e2 : at + (l + done) ≡ source + j = omega (arith, lt, least) in inl (subst (λ q. IsTrue (g.place.is_data q)) e2 data_there)
        opened j (inr least) lt (inr high) inside = inr (omega (arith, lt, least, high, r.sp), omega (arith, lt, least, inside))

        under : (j : ℕ) → (j < done) ⊎ (done ≤ j) → j < suc done → at + (l + done) < 65520 → source + j < 65520
        under j (inl less_than) lt inside = h.low j less_than
        under j (inr least) lt inside = omega (arith, lt, least, inside)

    are : AreSteps g (steps (Place s l)) c Way
    are = record {
      out = λ done d h. h.reached.out;
      turns = λ done d h. h.reached.turns;
      performs = performs;
      none = λ e. absurd (omega (arith, e, some));
      puts = puts;
    }
      where
        performs : (done : ℕ) (d : Scene) → Way done d → done < size → perform (program_in g) (CarryInto i o done size) work (Place s l ∷ vs) d ≡ next_of (steps (Place s l)) done (carried_byte true done size d (Place s l) (into d))
        performs done d h lt = ap (λ (x : Bool). if x then carry_into_step i o done size (Place s l) work vs (carried_byte true done size d (Place s l) (into d)) else Running work vs d) (less done size lt) ∙ by (carried_byte true done size d (Place s l) (into d))
          where
            by : (x : Result Scene Why) → carry_into_step i o done size (Place s l) work vs x ≡ next_of (steps (Place s l)) done x
            by (Ok e) = refl
            by (Err why) = refl

    -- the lines, wherever the object lies
    by_spot : (z : objects.Spot) → IsInMemory z → (d : Scene) → Way size d → IsThere g a t z size o (At from) → HasAt (lines_of g a) p (area_code z size fresh) → (j turns : ℕ) (m : meaning.State) → HasTurns g turns (place_in g a p) seen
        → ((banks : Banks) (u : State) (later : Seen) → Kept g a c w k t d w banks u → HasTurns g turns (place_in g a (p + length (area_code z size fresh))) later → Follows g j (v + 2600) m (place_in g a (p + length (area_code z size fresh))) u later)
        → Follows g j (v + 3600 + 16 * size) m (place_in g a p) t seen
    by_spot (spots.Bank bank) memory d h there code j turns m come behind = absurd memory
    by_spot (spots.Soft off) memory d h there code j turns m come behind =
        let spot : At (sp_of t + off) ≡ At (from + o) = there.spot in
        let same : sp_of t + off ≡ from + o = cc in
        follows_weaken g j (11 + 6 * size + (v + 2600)) (v + 3600 + 16 * size) m (place_in g a p) t seen (omega arith)
        (near_carries g a needs c w k t placed r b from place_is o source size d h some j turns m off (v + 2600) p fresh seen same is once code come behind)
    by_spot (spots.Data z off) memory d h there code j turns m come behind =
        let spot : At (located g.place z off) ≡ At (from + o) = there.spot in
        let same : located g.place z off ≡ from + o = cc in
        follows_weaken g j (11 + 6 * size + (v + 2600)) (v + 3600 + 16 * size) m (place_in g a p) t seen (omega arith)
        (symbol_carries g a needs c w k t placed r b from place_is o source size d h some j turns m z off (v + 2600) p fresh seen same is once code come behind)

    first : Way 0 c
    first = record { reached = reached_first g a needs c w k t placed r b (At from) place_is o (from_source source); opens = λ j lt. absurd (omega (arith, lt)); low = λ j lt. absurd (omega (arith, lt)) }

    pub carries : Ends → Follows g n v (Running (CarryInto i o 0 size ∷ work) (Place s l ∷ vs) c) (place_in g a p) t seen
    carries ends =
        all_earn g a (steps (Place s l)) c Way are t seen v p (ready_is_calm g a 0 needs c w k t r).calm r.joins.output r.joins.ended (omega (arith, turned)) n first (λ j d lt h.
        let x = h.reached.block some in
        let there = is_there g a needs i c w k t placed r sized can b x.block (At from) named x.at o size (omega (arith, x.fits)) in
        by_spot (spot_of a.frame i o) memory d h there has j d.turns (Running work vs d) (subst (λ q. HasTurns g q (place_in g a p) seen) (sym h.reached.turns) turned) (λ banks u later kept come. ends j d banks u later lt kept come))

  -- where there is no block, or no place, nothing is defined
  stuck : (x : Value) (why : Why) → carried_byte true 0 size c x (into c) ≡ Err why → Follows g n v (Running (CarryInto i o 0 size ∷ work) (x ∷ vs) c) (place_in g a p) t seen
  stuck x why e =
      steps_earn g n v (CarryInto i o 0 size) work (x ∷ vs) c (place_in g a p) t seen (ready_is_calm g a 0 needs c w k t r).calm r.joins.output r.joins.ended (omega (arith, turned)) (λ j lt.
      let one : perform (program_in g) (CarryInto i o 0 size) work (x ∷ vs) c ≡ carry_into_step i o 0 size x work vs (carried_byte true 0 size c x (into c)) = ap (λ (y : Bool). if y then carry_into_step i o 0 size x work vs (carried_byte true 0 size c x (into c)) else Running work vs c) (less 0 size some) in
      subst (λ m. Follows g j (v + 4000) m (place_in g a p) t seen) (sym (one ∙ ap (carry_into_step i o 0 size x work vs) e)) (nothing_follows g why j (v + 4000) (place_in g a p) t seen))

  by_block : (s l : ℕ) → ((at : ℕ) × (w s ≡ Some (At at)) × (ax_of t ≡ at + l)) → Ends → (m : Option ℕ) → block_in c.frames i ≡ m → Follows g n v (Running (CarryInto i o 0 size ∷ work) (Place s l ∷ vs) c) (place_in g a p) t seen
  by_block s l there ends (Some b) e = let home = in_memory g a i o (home_of a.frame i) memory in carries b e home.0 home.1 s there.0 l there.1 there.2 ends
  by_block s l there ends None e =
      let none : into c ≡ NoValue = ap (λ live. at_offset o (if live then step.place_in (block_in c.frames i) else Ok (Place (object_block (unit_in g) i) 0))) can.lives ∙ ap (λ m. at_offset o (step.place_in m)) e in
      stuck (Place s l) _ (ap (carried_byte true 0 size c (Place s l)) none)

  by_value : (x : Value) → IsSource w x t → Ends → Follows g n v (Running (CarryInto i o 0 size ∷ work) (x ∷ vs) c) (place_in g a p) t seen
  by_value (Place s l) there ends = by_block s l there ends (block_in c.frames i) refl
  by_value (Whole z) there ends = stuck (Whole z) _ refl
  by_value Null there ends = stuck Null _ refl
  by_value Opaque there ends = stuck Opaque _ refl
  by_value (Cells xs) there ends = stuck (Cells xs) _ refl
  by_value NoValue there ends = stuck NoValue _ refl

pub areas_are_begun : AreasAreBegun
areas_are_begun g a needs i o size c w k t x n v p fresh work vs seen placed once has r sized can memory some there turned ends =
    by_value g a needs i o size c w k t n v p fresh work vs seen placed once has r sized can memory some turned x there ends
