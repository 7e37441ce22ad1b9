-- The bytes that a call gives, put into the object that takes them.
use Rattle.std.proofs.Common.{◌≡◌, ℕ, zero, suc, ◌+◌, ◌*◌, ◌/◌, ◌<◌, ◌≤◌, inr, List, ◌∷◌, ◌++◌, Option, Some, None, Bool, true, false, refl, sym, ap, ◌∙◌, subst, arith, length-append}
use Rattle.std.specs.Prelude.{if◌then◌else◌, ◌==◌, Result, Ok, Err, length}
use Rattle.c65_ctype.specs.Trees.{QTy, type_in}
use Rattle.c65_ctype.specs.Sizes.{size_of}
use Rattle.c65_csem.specs.Trees.{node, spill}
use Rattle.c65_csem_need.specs.Needs.{need}
use Rattle.c65_meaning.specs.Why.{Why, Unfit}
use Rattle.c65_meaning.specs.Store as values
use Rattle.c65_meaning.specs.Store.{Cell, Value, Whole, Null, Opaque, Cells, NoValue, Shape, Area, nth_cell}
use Rattle.c65_meaning.specs.Items.{Item, Lay, plan}
use Rattle.c65_meaning.specs.Shapes.{shape_of, object_block}
use Rattle.c65_meaning.specs.State.{Scene, Running, Undefined, block_in}
use Rattle.c65_meaning.specs.Step as steps
use Rattle.c65_meaning.specs.Step.{perform, place_in_object, at_offset, laid, lay_on, lay_step}
use Rattle.c65_code.specs.declared.line.Line.{Line}
use Rattle.c65_code.specs.LineState.{Bytes, write, State, sp_of, ax_of, eax_of, IsBytes}
use Rattle.c65_code.specs.Placement.{IsPlacement}
use Rattle.c65_code.specs.Comes.{Seen}
use Rattle.c65_genframe.specs.Frames.{is_raised, type_bytes}
use Rattle.c65_genload.specs.Addresses.{address_code}
use Rattle.c65_genload.specs.Places.{extent_by}
use Rattle.c65_genexpr.specs.declared.wanted.Wanted.TheVariants as wanted
use Rattle.c65_genexpr.specs.Code.{expr_code}
use Rattle.c65_genexpr.specs.Places.{more, soft_code, code_at, object_code}
use Rattle.c65_genexpr.specs.Spills.{spill_code}
use Rattle.c65_agree_store.specs.Laws.{byte_of}
use Rattle.c65_agree_store.specs.Stands.{At, Placing, Banks, CellIs, IsAt}
use Rattle.c65_agree_state.specs.World.{World, unit_in, program_in, Active, lines_of, place_in, HasAt, HasTurns}
use Rattle.c65_agree_state.specs.Joins as joined
use Rattle.c65_agree_state.specs.Follows.{Follows}
use Rattle.c65_agree_state.specs.Exprs.{Ready, Kept, Yield, Valued, Placed, yield_of, ResultIs, Does, shape_in, width_in}
use Rattle.c65_agree_state.proofs.Followed.{follows_weaken, steps_earn, ready_is_calm}
use Rattle.c65_agree_state.proofs.Nodes.{has_front, has_back, ready_stays}
use Rattle.c65_agree_state.proofs.Parts.{kept_goes_on}
use Rattle.c65_agree_state.proofs.Leaves.{scratch_is_kept}
use Rattle.c65_agree_state.proofs.Scratch.{constants_are_low}
use Rattle.c65_agree_numbers.proofs.Tests.{less}
use Rattle.c65_agree_put.specs.Puts.{OnlyStored, AreLaid, MayPut, with_put, AreBanks}
use Rattle.c65_agree_put.proofs.Puts.{puts_are_kept}
use Rattle.c65_agree_rows.proofs.Quiet.{nothing_follows, write_other, write_same}
use Rattle.c65_agree_frame.specs.Leads.{IsOn}
use Rattle.c65_agree_load.proofs.Kept.{is_on}
use Rattle.c65_agree_part.proofs.Lines.{filled, same_sp, only_scratch}
use Rattle.c65_agree_part.proofs.Earned.{ByteSteps, AreSteps, next_of, all_earn}
use Rattle.c65_agree_part.proofs.Bytes.{IsPut, cell_is_put}
use Rattle.c65_agree_structures.specs.Spills.{IsTaker, SpillsDo}
use Rattle.c65_agree_structures.proofs.Sizes.{Small, small_tag, small_type, extent_bytes}
use Rattle.c65_agree_structures.proofs.Cells.{cells_are_anywhere, area_by}
use Rattle.c65_agree_structures.proofs.Packs.{bytes_are}
use Rattle.c65_agree_structures.proofs.Spilling.{spill_goes}

byte_small : (i n : ℕ) → byte_of i n < 256
byte_small zero n = omega arith
byte_small (suc i) n = byte_small i (n / 256)

write_bytes : (m : Bytes) (at v : ℕ) → ((b : ℕ) → m b < 256) → v < 256 → (b : ℕ) → write m at v b < 256
write_bytes m at v bytes small b = go (b == at)
  where
    go : (here : Bool) → (if here then v else m b) < 256
    go true = small
    go false = bytes b

-- a missing value is not put
no_value : (at : Value) (c : Scene) → (why : Why) × (laid 0 c at NoValue ≡ Err why)
no_value (values.Place b o) c = (_, refl)
no_value (Whole z) c = (_, refl)
no_value Null c = (_, refl)
no_value Opaque c = (_, refl)
no_value (Cells xs) c = (_, refl)
no_value NoValue c = (_, refl)

module _ (g : World) (a : Active) (i size : ℕ) (placed : IsPlacement g.code g.place) (taker : IsTaker g a i) (least : 1 ≤ size) (most : size ≤ 4) (pushed needs : ℕ) (c : Scene) (w : Placing) (k : Banks) (t : State) (r : Ready g a pushed needs c w k t) where
  abbrev to : ℕ
  to = a.base + taker.offset

  abbrev at : ℕ
  at = more taker.offset pushed

  abbrev on : IsOn g t
  on = is_on g a pushed needs c w k t placed r

  -- ---- the object's block

  module _ (m : ℕ) (named : block_in c.frames i ≡ Some m) where
    place_is : w m ≡ Some (At to)
    place_is =
        let raised : a.base + taker.offset + (if is_raised a.frame i then a.raised else 0) ≡ a.base + taker.offset + 0 = ap (λ s. a.base + taker.offset + (if s then a.raised else 0)) taker.low in
        let here : a.base + taker.offset + (if is_raised a.frame i then a.raised else 0) ≡ to = raised ∙ omega arith in
        r.joins.homes i m named ∙ ap (λ h. Some (joined.home_spot g a i h)) taker.home ∙ ap (λ n. Some (At n)) here

    -- constants lie below the software stack
    above : (n : ℕ) → to ≤ n → g.place.constant n ≡ None
    above n le = go (g.place.constant n) refl
      where
        go : (v : Option ℕ) → g.place.constant n ≡ v → g.place.constant n ≡ None
        go None e = e
        go (Some v) e = absurd (omega (arith, constants_are_low g placed n v e, on.stacks.soft, le, r.sp))

    module _ (xs : List Cell) (held : ResultIs Valued w (width_in (Area size)) (Cells xs) t) where
      abbrev f : ℕ → ℕ
      f j = byte_of j (eax_of t)

      abbrev memory : ℕ → Bytes
      memory done = filled t.mem to (λ _ j. f j) done

      abbrev with_bytes : ℕ → State
      with_bytes done = record t { mem = memory done }

      -- so many bytes are put
      record IsLaid (done : ℕ) (d : Scene) : Type 0 where
        kept : Kept g a c w k t d w k (with_bytes done)
        out : d.out ≡ c.out
        turns : d.turns ≡ c.turns
        inside : 0 < done → to + done ≤ 65520

      ready_at : (done : ℕ) (d : Scene) → IsLaid done d → Ready g a pushed needs d w k (with_bytes done)
      ready_at done d h = ready_stays g a pushed needs needs c d w w k k t (with_bytes done) (omega arith) r h.kept

      none_laid : IsLaid 0 c
      none_laid = record {
        kept = record { joins = r.joins; sp = refl; frames = refl; next = omega arith; bounds = λ d lt. refl; grows = λ d z e. e; kept = λ n le h. (refl, h); banks = λ d n lt. refl; own_bank = λ n le. refl; none_pushed = r.none_pushed };
        out = refl;
        turns = refl;
        inside = λ h. absurd (omega (arith, h));
      }

      -- one byte more
      laid_on : (done : ℕ) (d e : Scene) → IsLaid done d → IsPut d m (0 + done) (nth_cell xs done) e → IsLaid (suc done) e
      laid_on done d e h put = subst (IsLaid (suc done)) (sym put.scene) (record {
        kept = kept_goes_on g a c d later w w w k k k t before after h.kept (puts_are_kept g a pushed needs d w k k before after m put.block (At to) (0 + done) 1 (λ _. nth_cell xs done) placed now may only there banks refl);
        out = h.out;
        turns = h.turns;
        inside = λ _. omega (arith, put.fits, now.joins.stands.whole m put.block put.is, (now.joins.stands.lies m put.block (At to) at_block).1);
      })
        where
          before : State
          before = with_bytes done

          after : State
          after = with_bytes (suc done)

          later : Scene
          later = with_put d m put.block (0 + done) 1 (λ _. nth_cell xs done)

          now : Ready g a pushed needs d w k before
          now = ready_at done d h

          at_block : IsAt d.store w m put.block (At to)
          at_block = record { is = put.is; live = put.live; place = place_is }

          constants : (from j : ℕ) → At to ≡ At from → j < 1 → g.place.constant (from + (0 + done + j)) ≡ None
          constants from j same lt2 = let here : to ≡ from = cc in above (from + (0 + done + j)) (omega (arith, here))

          may : MayPut g a d w m put.block (At to) (0 + done) 1
          may = record { block = at_block; fits = put.fits; own = tt; writable = inr constants }

          mem_bytes : (b : ℕ) → memory (suc done) b < 256
          mem_bytes = write_bytes (memory done) (to + done) (f done) now.joins.bytes.mem (byte_small done (eax_of t))

          bytes : IsBytes after
          bytes = record { a = r.joins.bytes.a; x = r.joins.bytes.x; y = r.joins.bytes.y; zp = r.joins.bytes.zp; mem = mem_bytes; pushed = r.joins.bytes.pushed; frames = r.joins.bytes.frames }

          only : OnlyStored a (sp_of before) (At to) (0 + done) 1 before after
          only = record {
            mem = λ b side beside. write_other (memory done) (to + done) (f done) b (λ same. beside 0 (omega arith) (ap At (omega (arith, same))));
            bank = λ j few beside. refl;
            pushed = refl;
            frames = refl;
            input = refl;
            output = refl;
            ended = refl;
            bytes = bytes;
          }

          there : AreLaid w (At to) (0 + done) 1 (λ _. nth_cell xs done) after
          there j few =
              let here : to + (0 + done + j) ≡ to + done = omega (arith, few) in
              subst (CellIs w (nth_cell xs done)) (sym (ap (memory (suc done)) here ∙ write_same (memory done) (to + done) (f done))) (cells_are_anywhere w xs (eax_of t) done held)

          banks : AreBanks a k after k
          banks = record { now = now.joins.bank; others = λ l j ne. refl; past = λ j le. refl }

      -- ---- the steps

      module _ (n v p : ℕ) (work : List Item) (vs : List Value) (seen : Seen) (turned : HasTurns g c.turns (place_in g a p) seen) where
        abbrev all : ByteSteps
        all = record { size = size; item = λ done. Lay i done size; work = work; values = Cells xs ∷ vs; rest = values.Place m 0 ∷ vs; byte = λ done d. laid done d (values.Place m 0) (Cells xs) }

        object_is : (done : ℕ) (d : Scene) → IsLaid done d → place_in_object (unit_in g) i 0 d ≡ values.Place m 0
        object_is done d h =
            let same : block_in d.frames i ≡ Some m = ap (λ fs. block_in fs i) h.kept.frames ∙ named in
            ap (λ live. at_offset 0 (if live then steps.place_in (block_in d.frames i) else Ok (values.Place (object_block (unit_in g) i) 0))) taker.lives ∙ ap (λ o. at_offset 0 (steps.place_in o)) same

        are : AreSteps g all c IsLaid
        are = record {
          out = λ done d h. h.out;
          turns = λ done d h. h.turns;
          performs = performs;
          none = λ e. absurd (omega (arith, e, least));
          puts = λ done d e h f. puts done d e h f;
        }
          where
            by : (done : ℕ) (s : Result Scene Why) → lay_on i done size (Cells xs) (values.Place m 0) work vs s ≡ next_of all done s
            by done (Ok d) = refl
            by done (Err why) = refl

            performs : (done : ℕ) (d : Scene) → IsLaid done d → done < size → perform (program_in g) (Lay i done size) work (Cells xs ∷ vs) d ≡ next_of all done (laid done d (values.Place m 0) (Cells xs))
            performs done d h lt =
                ap (λ z. lay_step i done size (Cells xs) z work vs d) (object_is done d h)
                ∙ ap (λ (b : Bool). if b then lay_on i done size (Cells xs) (values.Place m 0) work vs (laid done d (values.Place m 0) (Cells xs)) else Running work (values.Place m 0 ∷ vs) d) (less done size lt)
                ∙ by done (laid done d (values.Place m 0) (Cells xs))

            puts : (done : ℕ) (d e : Scene) → IsLaid done d → laid done d (values.Place m 0) (Cells xs) ≡ Ok e → IsLaid (suc done) e
            puts done d e h f = laid_on done d e h (cell_is_put d m (0 + done) (nth_cell xs done) e f)

        -- behind the lines
        abbrev code : List Line
        code = spill_code (address_code at) (extent_by size)

        abbrev Behind : Type 0
        Behind = (j : ℕ) (d : Scene) (u : State) (later : Seen) → j < n → Kept g a c w k t d w k u → ax_of u ≡ to → HasTurns g d.turns (place_in g a (p + length code)) later → Follows g j (v + 2600) (Running work (values.Place m 0 ∷ vs) d) (place_in g a (p + length code)) u later

        module _ (has : HasAt (lines_of g a) p code) (behind : Behind) (j : ℕ) (d : Scene) (lt : j < n) (h : IsLaid size d) where
          inside : to + size ≤ 65520
          inside = h.inside (omega (arith, least))

          stores : Follows g j (v + 3600 + 16 * size) (Running work (values.Place m 0 ∷ vs) d) (place_in g a p) t seen
          stores =
              let low : sp_of t + at ≡ to = omega (arith, inside, r.sp) in
              let turned2 : HasTurns g d.turns (place_in g a p) seen = subst (λ s. HasTurns g s (place_in g a p) seen) (sym h.turns) turned in
              follows_weaken g j (26 + (v + 2600)) (v + 3600 + 16 * size) (Running work (values.Place m 0 ∷ vs) d) (place_in g a p) t seen (omega arith)
              (spill_goes g a placed t on r.joins.constant at to size (omega arith) low least most inside (λ l few. inr (omega (arith, r.sp), omega (arith, few, inside))) (λ l few. above (to + l) (omega arith)) j d.turns (Running work (values.Place m 0 ∷ vs) d)
              (extent_by size) (extent_bytes size least most) (v + 2600) p seen has turned2 (λ u later s come.
              let last = scratch_is_kept g a pushed needs d w k (with_bytes size) u placed (ready_at size d h) (only_scratch t (memory size) u s.like) (same_sp t (memory size) u s.like) in
              behind j d u later lt (kept_goes_on g a c d d w w w k k k t (with_bytes size) u h.kept last) s.address come))

        lays : HasAt (lines_of g a) p code → Behind → Follows g n v (Running (Lay i 0 size ∷ work) (Cells xs ∷ vs) c) (place_in g a p) t seen
        lays has behind =
            all_earn g a all c IsLaid are t seen v p (ready_is_calm g a pushed needs c w k t r).calm r.joins.output r.joins.ended (omega (arith, turned)) n none_laid (λ j d lt h. stores has behind j d lt h)

  -- a first byte that is not put
  refused : (n v p : ℕ) (work : List Item) (vs : List Value) (seen : Seen) (spot x : Value) (why : Why) → HasTurns g c.turns (place_in g a p) seen → place_in_object (unit_in g) i 0 c ≡ spot → laid 0 c spot x ≡ Err why → Follows g n v (Running (Lay i 0 size ∷ work) (x ∷ vs) c) (place_in g a p) t seen
  refused n v p work vs seen spot x why turned object fails =
      steps_earn g n v (Lay i 0 size) work (x ∷ vs) c (place_in g a p) t seen (ready_is_calm g a pushed needs c w k t r).calm r.joins.output r.joins.ended (omega (arith, turned)) (λ j lt.
      let first : perform (program_in g) (Lay i 0 size) work (x ∷ vs) c ≡ lay_on i 0 size x spot work vs (laid 0 c spot x) =
      ap (λ z. lay_step i 0 size x z work vs c) object ∙ ap (λ (b : Bool). if b then lay_on i 0 size x spot work vs (laid 0 c spot x) else Running work (spot ∷ vs) c) (less 0 size (omega (arith, least))) in
      let undefined : perform (program_in g) (Lay i 0 size) work (x ∷ vs) c ≡ Undefined why = first ∙ ap (lay_on i 0 size x spot work vs) fails in
      subst (λ m. Follows g j (v + 4000) m (place_in g a p) t seen) (sym undefined) (nothing_follows g why j (v + 4000) (place_in g a p) t seen))

-- ---- the law

module _ (g : World) (a : Active) (i size : ℕ) (placed : IsPlacement g.code g.place) (taker : IsTaker g a i) (least : 1 ≤ size) (most : size ≤ 4) (pushed needs : ℕ) (work : List Item → List Item) (lines : List Line) (does : Does g a Valued (Area size) work needs pushed lines) where
  abbrev stored : List Line
  stored = spill_code (address_code (more taker.offset pushed)) (extent_by size)

  spill_does : Does g a Placed (Area size) (λ k. work (Lay i 0 size ∷ k)) needs pushed (lines ++ stored)
  spill_does n w p k vs c q b t seen has r turns rest =
      does n w p (Lay i 0 size ∷ k) vs c q b t seen (has_front (lines_of g a) p lines stored has) r turns (λ j v c2 q2 b2 u later lt done turned.
      area_by size least (λ x. ResultIs Valued q2 (width_in (Area size)) x u → Follows g j (w + 2600) (Running (Lay i 0 size ∷ k) (x ∷ vs) c2) (place_in g a (p + length lines)) u later)
      (λ xs count held. cells_go j c2 q2 b2 u later lt done.kept turned xs held)
      (λ held. let none = no_value (place_in_object (unit_in g) i 0 c2) c2 in refused g a i size placed taker least most pushed needs c2 q2 b2 u (ready_behind c2 q2 b2 u done.kept) j (w + 2600) (p + length lines) k vs later (place_in_object (unit_in g) i 0 c2) NoValue none.0 turned refl none.1)
      v done.fits done.result)
    where
      ends : p + length lines + length stored ≡ p + length (lines ++ stored)
      ends = omega (arith, length-append lines stored)

      ready_behind : (c2 : Scene) (q2 : Placing) (b2 : Banks) (u : State) → Kept g a c q b t c2 q2 b2 u → Ready g a pushed needs c2 q2 b2 u
      ready_behind c2 q2 b2 u kept = ready_stays g a pushed needs needs c c2 q q2 b b2 t u (omega arith) r kept

      cells_go : (j : ℕ) (c2 : Scene) (q2 : Placing) (b2 : Banks) (u : State) (later : Seen) → j < n → Kept g a c q b t c2 q2 b2 u → HasTurns g c2.turns (place_in g a (p + length lines)) later
          → (xs : List Cell) → ResultIs Valued q2 (width_in (Area size)) (Cells xs) u → Follows g j (w + 2600) (Running (Lay i 0 size ∷ k) (Cells xs ∷ vs) c2) (place_in g a (p + length lines)) u later
      cells_go j c2 q2 b2 u later lt kept turned xs held = by_block (block_in c2.frames i) refl
        where
          ready : Ready g a pushed needs c2 q2 b2 u
          ready = ready_behind c2 q2 b2 u kept

          by_block : (o : Option ℕ) → block_in c2.frames i ≡ o → Follows g j (w + 2600) (Running (Lay i 0 size ∷ k) (Cells xs ∷ vs) c2) (place_in g a (p + length lines)) u later
          by_block None e =
              let none : place_in_object (unit_in g) i 0 c2 ≡ NoValue =
              ap (λ live. at_offset 0 (if live then steps.place_in (block_in c2.frames i) else Ok (values.Place (object_block (unit_in g) i) 0))) taker.lives ∙ ap (λ o. at_offset 0 (steps.place_in o)) e in
              refused g a i size placed taker least most pushed needs c2 q2 b2 u ready j (w + 2600) (p + length lines) k vs later NoValue (Cells xs) Unfit turned none refl
          by_block (Some m) e =
              lays g a i size placed taker least most pushed needs c2 q2 b2 u ready m e xs held j (w + 2600) (p + length lines) k vs later turned (has_back (lines_of g a) p lines stored has) (λ h d y after less kept2 ax turned2.
              let there : q2 m ≡ Some (At (a.base + taker.offset)) = place_is g a i size placed taker least most pushed needs c2 q2 b2 u ready m e in
              subst (λ z. Follows g h (w + 2600 + 2600) (Running k (values.Place m 0 ∷ vs) d) (place_in g a z) y after) (sym ends)
              (follows_weaken g h (w + 2600) (w + 2600 + 2600) (Running k (values.Place m 0 ∷ vs) d) (place_in g a (p + length (lines ++ stored))) y after (omega arith)
              (rest h (values.Place m 0) d q2 b2 y after (omega (arith, lt, less))
              (record { kept = kept_goes_on g a c c2 d q q2 q2 b b2 b2 t u y kept kept2; result = (a.base + taker.offset, there, omega (arith, ax)); fits = tt })
              (subst (λ z. HasTurns g d.turns (place_in g a z) after) ends turned2))))

pub spills_do : SpillsDo
spills_do g a i t e placed parts is taker same valued does pushed fresh =
    let small : Small (unit_in g).types (type_in t) = small_type (unit_in g).types (type_in t) is in
    let size : ℕ = size_of (unit_in g).types (type_in t) in
    let lines : List Line = expr_code a.frame pushed fresh wanted.Value e in
    let shape : shape_in g a e ≡ Area size = ap (λ (s : QTy). shape_of (unit_in g).types (type_in s)) same ∙ small.shape in
    let given : Does g a Valued (Area size) (plan (unit_in g) e) (need e) pushed lines =
    subst (λ (f : Shape). Does g a Valued f (plan (unit_in g) e) (need e) pushed lines) shape (subst (λ (y : Yield). Does g a y (shape_in g a e) (plan (unit_in g) e) (need e) pushed lines) valued (does pushed fresh)) in
    let address : object_code a.frame pushed i ≡ address_code (more taker.offset pushed) = ap (code_at a.frame pushed i) taker.home ∙ ap (λ raised. soft_code raised pushed (more taker.offset pushed) a.frame.stacked) taker.low in
    let placed_does : Does g a Placed (Area size) (λ k. plan (unit_in g) e (Lay i 0 size ∷ k)) (need e) pushed (lines ++ spill_code (address_code (more taker.offset pushed)) (extent_by size)) =
    spill_does g a i size placed taker small.least small.most pushed (need e) (plan (unit_in g) e) lines given in
    let yields : yield_of (unit_in g) (node t (spill i e)) ≡ Placed = ap (λ (b : Bool). if b then Placed else Valued) (small_tag (unit_in g).types (type_in t) is) in
    subst (λ (y : Yield). Does g a y (shape_of (unit_in g).types (type_in t)) (λ k. plan (unit_in g) e (Lay i 0 size ∷ k)) (need e) pushed (lines ++ spill_code (object_code a.frame pushed i) (extent_by (type_bytes a.frame (type_in t))))) (sym yields)
    (subst (λ (f : Shape). Does g a Placed f (λ k. plan (unit_in g) e (Lay i 0 size ∷ k)) (need e) pushed (lines ++ spill_code (object_code a.frame pushed i) (extent_by (type_bytes a.frame (type_in t))))) (sym small.shape)
    (subst (λ (ls : List Line). Does g a Placed (Area size) (λ k. plan (unit_in g) e (Lay i 0 size ∷ k)) (need e) pushed (lines ++ spill_code ls (extent_by (type_bytes a.frame (type_in t))))) (sym address)
    (subst (λ (n : ℕ). Does g a Placed (Area size) (λ k. plan (unit_in g) e (Lay i 0 size ∷ k)) (need e) pushed (lines ++ spill_code (address_code (more taker.offset pushed)) (extent_by n))) (sym (bytes_are g a t parts small)) placed_does)))
