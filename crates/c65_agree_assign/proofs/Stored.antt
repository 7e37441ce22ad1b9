-- The lines that store, by their place.
use Rattle.std.proofs.Common.{◌≡◌, ℕ, suc, ◌+◌, ◌%◌, ◌<◌, ◌≤◌, List, [], ◌∷◌, ◌++◌, Some, false, refl, sym, ap, ◌∙◌, subst, arith}
use Rattle.std.specs.Prelude.{length, slice_get}
use Rattle.c65_mach.specs.declared.rows.Op.TheVariants.{Ldy, Sta, Stx, Sty}
use Rattle.c65_mach.specs.declared.rows.Mode.TheVariants.{Immediate, ZeroPage, IndirectY, Absolute}
use Rattle.c65_mach.specs.State.{Regs}
use Rattle.c65_mach.specs.Step.{apply}
use Rattle.c65_meaning.specs.Store.{Cell, Block}
use Rattle.c65_meaning.specs.State as meaning
use Rattle.c65_meaning.specs.State.{Scene}
use Rattle.c65_code.specs.declared.line.Sym.{Sym}
use Rattle.c65_mach.specs.declared.rows.Op.{Op}
use Rattle.c65_mach.specs.declared.rows.Mode.{Mode}
use Rattle.c65_code.specs.declared.line.Operand.{Operand}
use Rattle.c65_code.specs.declared.line.Operand.TheVariants as operands
use Rattle.c65_code.specs.declared.line.Line.TheVariants.{Do}
use Rattle.c65_code.specs.Forms.{Plain, form_of}
use Rattle.c65_code.specs.Moves.{ref_of}
use Rattle.c65_code.specs.LineLaws.{IsGivenByte}
use Rattle.c65_genwide.specs.Lines.{value, call}
use Rattle.c65_genload.specs.Words.{absolute, zero_page}
use Rattle.c65_code.specs.LineState.{State, sp_of, ax_of, eax_of, word_at, IsBytes}
use Rattle.c65_code.specs.Placement.{IsPlacement, located, word_of}
use Rattle.c65_code.specs.Rows.{written, row_of}
use Rattle.c65_code.specs.Texts.{listed}
use Rattle.c65_code.specs.Steady.{IsOpen, IsWithin}
use Rattle.c65_code.specs.Weights.{row_cost}
use Rattle.c65_code.specs.Comes.{Seen}
use Rattle.c65_genload.specs.declared.places.Extent.{Extent}
use Rattle.c65_genload.specs.declared.places.Extent.TheVariants.{One, Two, Three, Four}
use Rattle.c65_genload.specs.declared.places.Place.{Place}
use Rattle.c65_genload.specs.declared.places.Place.TheVariants.{Bank, Near, Data, Far}
use Rattle.c65_genload.specs.Places.{byte_more, word_more}
use Rattle.c65_genload.specs.Stores.{bank_store, near_store, data_store, bytes_store}
use Rattle.c65_agree_store.specs.Stands.{Spot, At, Banked, Placing, Banks, CellIs, beyond}
use Rattle.c65_agree_store.specs.Laws.{byte_of}
use Rattle.c65_agree_state.specs.World.{World, Active, setting_in, lines_of, place_in, HasAt, HasTurns}
use Rattle.c65_agree_state.specs.Follows.{Follows}
use Rattle.c65_agree_state.specs.Exprs.{Ready}
use Rattle.c65_agree_state.proofs.Followed.{follows_weaken, ready_is_calm}
use Rattle.c65_agree_state.proofs.Leaves.{scratch_is_kept, with_regs}
use Rattle.c65_agree_put.specs.Puts.{MayPut, with_put, AreTaken, banks_in, Storing, WordByY, LongByY, ByteThrough, WordThrough, LongThrough, storing_of, stored_size, taken_by, GoesTo, Stays, IsStored}
use Rattle.c65_agree_put.proofs.Stores.{four_bytes, byte_item, word_item, long_item, stores_run}
use Rattle.c65_agree_assign.specs.Places.{bytes_in, IsStill}
use Rattle.c65_agree_assign.specs.Laws.{IsAssigned, NumbersAreStored}
use Rattle.c65_agree_assign.proofs.Steps.{IsAt, operation, routine}
use Rattle.c65_agree_assign.proofs.States.{calm_in_memory, opened, taken_in_memory, calm_in_bank, taken_in_bank}

module _ (g : World) (a : Active) (pushed needs : ℕ) (c : Scene) (w : Placing) (k : Banks) (t : State) (b : ℕ) (x : Block) (o : ℕ) (new : ℕ → Cell) (n v p turns : ℕ) (m : meaning.State) (seen : Seen) (placed : IsPlacement g.code g.place) where
  abbrev Behind : Place → Extent → Type 0
  Behind place extent = (later : Banks) (u : State) (after : Seen) → IsAssigned g a pushed needs place extent c w k b x o new t later u → HasTurns g turns (place_in g a (p + length (bytes_store place extent))) after
      → Follows g n v m (place_in g a (p + length (bytes_store place extent))) u after

  -- behind the last line
  finish : (place : Place) (extent : Extent) (last : ℕ) → last ≡ p + length (bytes_store place extent) → Behind place extent → (later : Banks) (u : State) (after : Seen)
      → IsAssigned g a pushed needs place extent c w k b x o new t later u → HasTurns g turns (place_in g a last) after → Follows g n v m (place_in g a last) u after
  finish place extent last e behind later u after is h =
      subst (λ y. Follows g n v m (place_in g a y) u after) (sym e) (behind later u after is (subst (λ y. HasTurns g turns (place_in g a y) after) e h))

  -- the state with some writes, and other registers
  abbrev stored_in : Regs → List (ℕ × ℕ) → State
  stored_in regs ws = record t { regs = regs; mem = written t.mem ws }

  -- ---- in memory

  module _ (at size : ℕ) (r : Ready g a (pushed + 0) needs c w k t) (may : MayPut g a c w b x (At at) o size) where
    at_line : (q : ℕ) (op : Op) (mode : Mode) (operand : Operand) (regs : Regs) (vs : List ℕ) (ws : List (ℕ × ℕ)) (later : Seen) → slice_get (lines_of g a) q ≡ Some (Do op mode operand) → form_of (Do op mode operand) ≡ Plain op mode operand
        → IsWithin (setting_in g) (Plain op mode operand) (stored_in regs ws) → IsGivenByte (ref_of mode (word_of g.place operand) (stored_in regs ws)) → ws ≡ listed vs (at + o) → length vs ≤ size → IsBytes (stored_in regs ws) → HasTurns g turns (place_in g a q) later
        → IsAt g a n turns m q op mode operand (stored_in regs ws) later
    at_line q op mode operand regs vs ws later there formed within given e le bytes h = record { there = there; formed = formed; calm = calm_in_memory g a (pushed + 0) needs c w k t b x at o size new placed r may regs vs ws e le bytes; within = within; running = r.joins.ended; given = given; counted = h }

    -- an address of the place may be reached
    reach : (l i : ℕ) → l ≡ at + o + i → i < size → IsOpen g.place (sp_of t) l
    reach l i e lt = subst (IsOpen g.place (sp_of t)) (sym e) (opened g a (pushed + 0) needs c w k t b x at o size new placed r may i lt)

    all_stored : ((i : ℕ) → i < size → CellIs w (new i) (byte_of i (eax_of t))) → (regs : Regs) (vs : List ℕ) (ws : List (ℕ × ℕ)) → ws ≡ listed vs (at + o) → length vs ≡ size → ((i : ℕ) → i < size → slice_get vs i ≡ Some (byte_of i (eax_of t))) → IsBytes (stored_in regs ws)
        → AreTaken g a pushed needs 0 c w k t (with_put c b x o size new) k (stored_in regs ws)
    all_stored laid regs vs ws e whole items bytes = taken_in_memory g a (pushed + 0) needs c w k t b x at o size new placed r may laid regs vs ws e whole items bytes pushed refl

    in_page : at + o + size ≤ 65520
    in_page = omega (arith, may.fits, r.joins.stands.whole b x may.block.is, (r.joins.stands.lies b x (At at) may.block).1)

  -- ---- at a symbol

  module _ (s : Sym) (off at : ℕ) (r : Ready g a (pushed + 0) needs c w k t) (e0 : located g.place s off ≡ at + o) (turned : HasTurns g turns (place_in g a p) seen) where
    abbrev l0 : ℕ
    l0 = located g.place s off

    abbrev l1 : ℕ
    l1 = located g.place s (word_more off 1)

    abbrev l2 : ℕ
    l2 = located g.place s (word_more off 2)

    abbrev l3 : ℕ
    l3 = located g.place s (word_more off 3)

    first : l0 ≡ at + o + 0
    first = omega (arith, e0)

    next : (i : ℕ) → at + o + i < 65520 → i < 4 → located g.place s (word_more off i) ≡ at + o + i
    next i inside few = omega (arith, e0, inside, few)

    one_written : (l0, t.regs.a) ∷ [] ≡ listed (t.regs.a ∷ []) (at + o)
    one_written = ap (λ y. (y, t.regs.a) ∷ []) e0

    one_at_symbol : MayPut g a c w b x (At at) o 1 → HasAt (lines_of g a) p (data_store s off One) → ((i : ℕ) → i < 1 → CellIs w (new i) (byte_of i (eax_of t))) → Behind (Data s off) One → Follows g n (v + 260) m (place_in g a p) t seen
    one_at_symbol may has laid behind =
        follows_weaken g n (1 + v) (v + 260) m (place_in g a p) t seen (omega arith)
        (operation g a n turns m v p Sta Absolute (operands.At s off) t seen (at_line at 1 r may p Sta Absolute (operands.At s off) t.regs [] [] seen has.0 refl (reach at 1 r may l0 0 first (omega arith)) tt refl (omega arith) r.joins.bytes turned) (λ b1 s1 h1.
        finish (Data s off) One (suc p) (omega arith) behind k (stored_in t.regs ((l0, t.regs.a) ∷ [])) s1
        (record { taken = all_stored at 1 r may laid t.regs (t.regs.a ∷ []) ((l0, t.regs.a) ∷ []) one_written refl (byte_item t (four_bytes t r.joins.bytes)) b1; value = refl }) h1))

    -- the first two bytes of a word or a long word
    module _ (size : ℕ) (may : MayPut g a c w b x (At at) o size) (many : 2 ≤ size) where
      second : l1 ≡ at + o + 1
      second = next 1 (omega (arith, many, in_page at size r may)) (omega arith)

      abbrev two : List (ℕ × ℕ)
      two = (l0, t.regs.a) ∷ (l1, t.regs.x) ∷ []

      two_written : two ≡ listed (t.regs.a ∷ t.regs.x ∷ []) (at + o)
      two_written = ap (λ y. (y, t.regs.a) ∷ (l1, t.regs.x) ∷ []) e0 ∙ ap (λ y. (at + o, t.regs.a) ∷ (y, t.regs.x) ∷ []) second

      two_stored : (more : ℕ) → slice_get (lines_of g a) p ≡ Some (absolute Sta s off) → slice_get (lines_of g a) (suc p) ≡ Some (absolute Stx s (word_more off 1))
          → (IsBytes (stored_in t.regs two) → (later : Seen) → HasTurns g turns (place_in g a (suc (suc p))) later → Follows g n more m (place_in g a (suc (suc p))) (stored_in t.regs two) later) → Follows g n (1 + (1 + more)) m (place_in g a p) t seen
      two_stored more line0 line1 goes =
          operation g a n turns m (1 + more) p Sta Absolute (operands.At s off) t seen (at_line at size r may p Sta Absolute (operands.At s off) t.regs [] [] seen line0 refl (reach at size r may l0 0 first (omega (arith, many))) tt refl (omega arith) r.joins.bytes turned) (λ b1 s1 h1.
          operation g a n turns m more (suc p) Stx Absolute (operands.At s (word_more off 1)) (stored_in t.regs ((l0, t.regs.a) ∷ [])) s1
          (at_line at size r may (suc p) Stx Absolute (operands.At s (word_more off 1)) t.regs (t.regs.a ∷ []) ((l0, t.regs.a) ∷ []) s1 line1 refl (reach at size r may l1 1 second (omega (arith, many))) tt one_written (omega (arith, many)) b1 h1) goes)

    two_at_symbol : (extent : Extent) → bytes_in extent ≡ 2 → (value : (u : State) → ax_of u ≡ ax_of t → IsStill (Data s off) extent t u) → suc (suc p) ≡ p + length (bytes_store (Data s off) extent) → MayPut g a c w b x (At at) o 2
        → slice_get (lines_of g a) p ≡ Some (absolute Sta s off) → slice_get (lines_of g a) (suc p) ≡ Some (absolute Stx s (word_more off 1)) → ((i : ℕ) → i < 2 → CellIs w (new i) (byte_of i (eax_of t))) → Behind (Data s off) extent → Follows g n (v + 260) m (place_in g a p) t seen
    two_at_symbol extent size value ends may line0 line1 laid behind =
        follows_weaken g n (1 + (1 + v)) (v + 260) m (place_in g a p) t seen (omega arith)
        (two_stored 2 may (omega arith) v line0 line1 (λ b2 s2 h2.
        finish (Data s off) extent (suc (suc p)) ends behind k (stored_in t.regs (two 2 may (omega arith))) s2
        (record { taken = subst (λ y. AreTaken g a pushed needs 0 c w k t (with_put c b x o y new) k (stored_in t.regs (two 2 may (omega arith)))) (sym size) (all_stored at 2 r may laid t.regs (t.regs.a ∷ t.regs.x ∷ []) (two 2 may (omega arith)) (two_written 2 may (omega arith)) refl (word_item t (four_bytes t r.joins.bytes)) b2); value = value (stored_in t.regs (two 2 may (omega arith))) refl }) h2))

    module _ (may : MayPut g a c w b x (At at) o 4) where
      abbrev regs2 : Regs
      regs2 = apply false Ldy (t.zp 2) t.regs

      abbrev regs3 : Regs
      regs3 = apply false Ldy (t.zp 3) regs2

      third : l2 ≡ at + o + 2
      third = next 2 (omega (arith, in_page at 4 r may)) (omega arith)

      fourth : l3 ≡ at + o + 3
      fourth = next 3 (omega (arith, in_page at 4 r may)) (omega arith)

      abbrev pair : List (ℕ × ℕ)
      pair = (l0, t.regs.a) ∷ (l1, t.regs.x) ∷ []

      abbrev three : List (ℕ × ℕ)
      three = (l0, t.regs.a) ∷ (l1, t.regs.x) ∷ (l2, t.zp 2) ∷ []

      abbrev four : List (ℕ × ℕ)
      four = (l0, t.regs.a) ∷ (l1, t.regs.x) ∷ (l2, t.zp 2) ∷ (l3, t.zp 3) ∷ []

      three_written : three ≡ listed (t.regs.a ∷ t.regs.x ∷ t.zp 2 ∷ []) (at + o)
      three_written =
          let one_on : l2 ≡ at + o + 1 + 1 = omega (arith, third) in
          ap (λ y. y ++ (l2, t.zp 2) ∷ []) (two_written 4 may (omega arith)) ∙ ap (λ y. (at + o, t.regs.a) ∷ (at + o + 1, t.regs.x) ∷ (y, t.zp 2) ∷ []) one_on

      four_written : four ≡ listed (t.regs.a ∷ t.regs.x ∷ t.zp 2 ∷ t.zp 3 ∷ []) (at + o)
      four_written =
          let one_on : l3 ≡ at + o + 1 + 1 + 1 = omega (arith, fourth) in
          ap (λ y. y ++ (l3, t.zp 3) ∷ []) three_written ∙ ap (λ y. (at + o, t.regs.a) ∷ (at + o + 1, t.regs.x) ∷ (at + o + 1 + 1, t.zp 2) ∷ (y, t.zp 3) ∷ []) one_on

      four_at_symbol : HasAt (lines_of g a) p (data_store s off Four) → ((i : ℕ) → i < 4 → CellIs w (new i) (byte_of i (eax_of t))) → Behind (Data s off) Four → Follows g n (v + 260) m (place_in g a p) t seen
      four_at_symbol has laid behind =
          follows_weaken g n (1 + (1 + (1 + (1 + (1 + (1 + v)))))) (v + 260) m (place_in g a p) t seen (omega arith)
          (two_stored 4 may (omega arith) (1 + (1 + (1 + (1 + v)))) has.0 has.1.0 (λ b2 s2 h2.
          operation g a n turns m (1 + (1 + (1 + v))) (suc (suc p)) Ldy ZeroPage (operands.Zero 2) (stored_in t.regs pair) s2
          (at_line at 4 r may (suc (suc p)) Ldy ZeroPage (operands.Zero 2) t.regs (t.regs.a ∷ t.regs.x ∷ []) pair s2 has.1.1.0 refl (omega arith, λ _. omega arith) tt (two_written 4 may (omega arith)) (omega arith) b2 h2) (λ b3 s3 h3.
          operation g a n turns m (1 + (1 + v)) (suc (suc (suc p))) Sty Absolute (operands.At s (word_more off 2)) (stored_in regs2 pair) s3
          (at_line at 4 r may (suc (suc (suc p))) Sty Absolute (operands.At s (word_more off 2)) regs2 (t.regs.a ∷ t.regs.x ∷ []) pair s3 has.1.1.1.0 refl (reach at 4 r may l2 2 third (omega arith)) tt (two_written 4 may (omega arith)) (omega arith) b3 h3) (λ b4 s4 h4.
          operation g a n turns m (1 + v) (suc (suc (suc (suc p)))) Ldy ZeroPage (operands.Zero 3) (stored_in regs2 three) s4
          (at_line at 4 r may (suc (suc (suc (suc p)))) Ldy ZeroPage (operands.Zero 3) regs2 (t.regs.a ∷ t.regs.x ∷ t.zp 2 ∷ []) three s4 has.1.1.1.1.0 refl (omega arith, λ _. omega arith) tt three_written (omega arith) b4 h4) (λ b5 s5 h5.
          operation g a n turns m v (suc (suc (suc (suc (suc p))))) Sty Absolute (operands.At s (word_more off 3)) (stored_in regs3 three) s5
          (at_line at 4 r may (suc (suc (suc (suc (suc p))))) Sty Absolute (operands.At s (word_more off 3)) regs3 (t.regs.a ∷ t.regs.x ∷ t.zp 2 ∷ []) three s5 has.1.1.1.1.1.0 refl (reach at 4 r may l3 3 fourth (omega arith)) tt three_written (omega arith) b5 h5) (λ b6 s6 h6.
          finish (Data s off) Four (suc (suc (suc (suc (suc (suc p)))))) (omega arith) behind k (stored_in regs3 four) s6
          (record { taken = all_stored at 4 r may laid regs3 (t.regs.a ∷ t.regs.x ∷ t.zp 2 ∷ t.zp 3 ∷ []) four four_written refl (long_item t (four_bytes t r.joins.bytes)) b6; value = refl }) h6))))))

  -- ---- near sp, and at the address that waits

  module _ (off at : ℕ) (r : Ready g a (pushed + 0) needs c w k t) (e0 : sp_of t + off ≡ at + o) (small : off ≤ 252) (turned : HasTurns g turns (place_in g a p) seen) where
    abbrev regs_y : Regs
    regs_y = apply false Ldy off t.regs

    with_y : (more size : ℕ) → MayPut g a c w b x (At at) o size → slice_get (lines_of g a) p ≡ Some (value Ldy off)
        → (IsBytes (stored_in regs_y []) → (later : Seen) → HasTurns g turns (place_in g a (suc p)) later → Follows g n more m (place_in g a (suc p)) (stored_in regs_y []) later) → Follows g n (1 + more) m (place_in g a p) t seen
    with_y more size may line goes =
        operation g a n turns m more p Ldy Immediate (operands.Byte off) t seen (at_line at size r may p Ldy Immediate (operands.Byte off) t.regs [] [] seen line refl tt (omega (arith, small)) refl (omega arith) r.joins.bytes turned) goes

    one_near : MayPut g a c w b x (At at) o 1 → HasAt (lines_of g a) p (near_store off One) → ((i : ℕ) → i < 1 → CellIs w (new i) (byte_of i (eax_of t))) → Behind (Near off) One → Follows g n (v + 260) m (place_in g a p) t seen
    one_near may has laid behind =
        let l0 = (sp_of t + off) % 65536 in
        let first : l0 ≡ at + o + 0 = omega (arith, e0, in_page at 1 r may) in
        let here : l0 ≡ at + o = omega (arith, first) in
        follows_weaken g n (1 + (1 + v)) (v + 260) m (place_in g a p) t seen (omega arith)
        (with_y (1 + v) 1 may has.0 (λ b1 s1 h1.
        operation g a n turns m v (suc p) Sta IndirectY (operands.Zero 0) (stored_in regs_y []) s1 (at_line at 1 r may (suc p) Sta IndirectY (operands.Zero 0) regs_y [] [] s1 has.1.0 refl (reach at 1 r may l0 0 first (omega arith)) tt refl (omega arith) b1 h1) (λ b2 s2 h2.
        finish (Near off) One (suc (suc p)) (omega arith) behind k (stored_in regs_y ((l0, t.regs.a) ∷ [])) s2
        (record { taken = all_stored at 1 r may laid regs_y (t.regs.a ∷ []) ((l0, t.regs.a) ∷ []) (ap (λ y. (y, t.regs.a) ∷ []) here) refl (byte_item t (four_bytes t r.joins.bytes)) b2; value = refl }) h2)))

    -- an expression might begin behind the load of Y
    ready_y : IsBytes (stored_in regs_y []) → Ready g a (pushed + 0) needs c w k (stored_in regs_y [])
    ready_y bytes = record { joins = (scratch_is_kept g a (pushed + 0) needs c w k t (stored_in regs_y []) placed r (with_regs (sp_of t) t regs_y bytes) refl).joins; sp = r.sp; room = r.room; none_pushed = r.none_pushed }

    by_routine : (store : Storing) (extent : Extent) → taken_by store ≡ 0 → stored_size store ≡ bytes_in extent → row_cost (row_of (storing_of store) (stored_in regs_y [])) ≤ 256 → suc (suc p) ≡ p + length (bytes_store (Near off) extent)
        → GoesTo store (at + o) (stored_in regs_y []) → ((u : State) → Stays store (stored_in regs_y []) u → IsStill (Near off) extent t u)
        → MayPut g a c w b x (At at) o (stored_size store) → slice_get (lines_of g a) p ≡ Some (value Ldy off) → slice_get (lines_of g a) (suc p) ≡ Some (call (storing_of store)) → ((i : ℕ) → i < stored_size store → CellIs w (new i) (byte_of i (eax_of t))) → Behind (Near off) extent
        → Follows g n (v + 260) m (place_in g a p) t seen
    by_routine store extent none size cost ends to still may line0 line1 laid behind =
        follows_weaken g n (1 + (256 + v)) (v + 260) m (place_in g a p) t seen (omega arith)
        (with_y (256 + v) (stored_size store) may line0 (λ b1 s1 h1.
        let ready : Ready g a (pushed + taken_by store) needs c w k (stored_in regs_y []) = subst (λ y. Ready g a (pushed + y) needs c w k (stored_in regs_y [])) (sym none) (ready_y b1) in
        routine g a n turns m v (suc p) (pushed + taken_by store) needs c w k (stored_in regs_y []) s1 (storing_of store) (IsStored g a pushed needs c w k store b x o new (stored_in regs_y [])) cost ready line1
        (stores_run g a pushed needs c w k (stored_in regs_y []) store b x at o new placed ready may to laid) h1 (λ u s2 is h2.
        finish (Near off) extent (suc (suc p)) ends behind k u s2 (record { taken = taken u is; value = still u is.value }) h2)))
      where
        taken : (u : State) → IsStored g a pushed needs c w k store b x o new (stored_in regs_y []) u → AreTaken g a pushed needs 0 c w k t (with_put c b x o (bytes_in extent) new) k u
        taken u is = subst (λ y. AreTaken g a pushed needs 0 c w k t (with_put c b x o y new) k u) size (record { ready = is.taken.ready; sp = is.taken.sp ∙ ap (λ y. sp_of t + y) none; frames = is.taken.frames; next = is.taken.next; bounds = is.taken.bounds; kept = λ n le f. is.taken.kept n (omega (arith, le, none)) f; banks = is.taken.banks; own_bank = is.taken.own_bank })

  through : (at off : ℕ) (store : Storing) (extent : Extent) → taken_by store ≡ 2 → stored_size store ≡ bytes_in extent → row_cost (row_of (storing_of store) t) ≤ 256 → suc p ≡ p + length (bytes_store (Far off) extent)
      → GoesTo store (at + o) t → ((u : State) → Stays store t u → IsStill (Far off) extent t u) → Ready g a (pushed + 2) needs c w k t → HasTurns g turns (place_in g a p) seen
      → MayPut g a c w b x (At at) o (stored_size store) → slice_get (lines_of g a) p ≡ Some (call (storing_of store)) → ((i : ℕ) → i < stored_size store → CellIs w (new i) (byte_of i (eax_of t))) → Behind (Far off) extent
      → Follows g n (v + 260) m (place_in g a p) t seen
  through at off store extent two size cost ends to still r turned may line laid behind =
      let ready : Ready g a (pushed + taken_by store) needs c w k t = subst (λ y. Ready g a (pushed + y) needs c w k t) (sym two) r in
      follows_weaken g n (256 + v) (v + 260) m (place_in g a p) t seen (omega arith)
      (routine g a n turns m v p (pushed + taken_by store) needs c w k t seen (storing_of store) (IsStored g a pushed needs c w k store b x o new t) cost ready line (stores_run g a pushed needs c w k t store b x at o new placed ready may to laid) turned (λ u s1 is h1.
      finish (Far off) extent (suc p) ends behind k u s1 (record { taken = subst (λ y. AreTaken g a pushed needs y c w k t (with_put c b x o (bytes_in extent) new) k u) two (subst (λ y. AreTaken g a pushed needs (taken_by store) c w k t (with_put c b x o y new) k u) size is.taken); value = still u is.value }) h1))

  -- ---- in regbank

  abbrev banked : List (ℕ × ℕ) → State
  banked ws = record t { zp = written t.zp ws }

  module _ (off d from : ℕ) (r : Ready g a (pushed + 0) needs c w k t) (e0 : off ≡ from + o) (turned : HasTurns g turns (place_in g a p) seen) where
    abbrev b0 : ℕ
    b0 = byte_more 20 off

    abbrev b1 : ℕ
    b1 = byte_more (byte_more 20 off) 1

    one_in_bank : MayPut g a c w b x (Banked d from) o 1 → HasAt (lines_of g a) p (bank_store off One) → ((i : ℕ) → i < 1 → CellIs w (new i) (byte_of i (eax_of t))) → Behind (Bank off) One → Follows g n (v + 260) m (place_in g a p) t seen
    one_in_bank may has laid behind =
        let lies = r.joins.stands.lies b x (Banked d from) may.block in
        let first : b0 ≡ 20 + (from + o) = omega (arith, e0, lies, may.fits, r.joins.stands.whole b x may.block.is) in
        let ws : (b0, t.regs.a) ∷ [] ≡ listed (t.regs.a ∷ []) (20 + (from + o)) = ap (λ y. (y, t.regs.a) ∷ []) first in
        follows_weaken g n (1 + v) (v + 260) m (place_in g a p) t seen (omega arith)
        (operation g a n turns m v p Sta ZeroPage (operands.Zero b0) t seen (record { there = has.0; formed = refl; calm = (ready_is_calm g a (pushed + 0) needs c w k t r).calm; within = (omega (arith, first, e0, lies), λ _. omega (arith, first)); running = r.joins.ended; given = tt; counted = turned }) (λ y1 s1 h1.
        finish (Bank off) One (suc p) (omega arith) behind (banks_in a (banked ((b0, t.regs.a) ∷ [])) k) (banked ((b0, t.regs.a) ∷ [])) s1
        (record { taken = taken_in_bank g a (pushed + 0) needs c w k t b x d from o 1 new placed r may (t.regs.a ∷ []) ((b0, t.regs.a) ∷ []) ws (omega arith) laid (byte_item t (four_bytes t r.joins.bytes)) y1 pushed refl; value = refl }) h1))

    two_in_bank : (extent : Extent) → bytes_in extent ≡ 2 → ((u : State) → ax_of u ≡ ax_of t → IsStill (Bank off) extent t u) → suc (suc p) ≡ p + length (bytes_store (Bank off) extent) → MayPut g a c w b x (Banked d from) o 2
        → slice_get (lines_of g a) p ≡ Some (zero_page Sta b0) → slice_get (lines_of g a) (suc p) ≡ Some (zero_page Stx b1) → ((i : ℕ) → i < 2 → CellIs w (new i) (byte_of i (eax_of t))) → Behind (Bank off) extent → Follows g n (v + 260) m (place_in g a p) t seen
    two_in_bank extent size value ends may line0 line1 laid behind =
        let lies = r.joins.stands.lies b x (Banked d from) may.block in
        let fits = r.joins.stands.whole b x may.block.is in
        let first : b0 ≡ 20 + (from + o) = omega (arith, e0, lies, may.fits, fits) in
        let second : b1 ≡ 20 + (from + o) + 1 = omega (arith, first, lies, may.fits, fits) in
        let ws1 : (b0, t.regs.a) ∷ [] ≡ listed (t.regs.a ∷ []) (20 + (from + o)) = ap (λ y. (y, t.regs.a) ∷ []) first in
        let ws2 : (b0, t.regs.a) ∷ (b1, t.regs.x) ∷ [] ≡ listed (t.regs.a ∷ t.regs.x ∷ []) (20 + (from + o)) = ap (λ y. (y, t.regs.a) ∷ (b1, t.regs.x) ∷ []) first ∙ ap (λ y. (20 + (from + o), t.regs.a) ∷ (y, t.regs.x) ∷ []) second in
        follows_weaken g n (1 + (1 + v)) (v + 260) m (place_in g a p) t seen (omega arith)
        (operation g a n turns m (1 + v) p Sta ZeroPage (operands.Zero b0) t seen (record { there = line0; formed = refl; calm = (ready_is_calm g a (pushed + 0) needs c w k t r).calm; within = (omega (arith, first, lies, may.fits, fits), λ _. omega (arith, first)); running = r.joins.ended; given = tt; counted = turned }) (λ y1 s1 h1.
        operation g a n turns m v (suc p) Stx ZeroPage (operands.Zero b1) (banked ((b0, t.regs.a) ∷ [])) s1 (record { there = line1; formed = refl; calm = calm_in_bank g a (pushed + 0) needs c w k t b x d from o 2 new placed r may (t.regs.a ∷ []) ((b0, t.regs.a) ∷ []) ws1 (omega arith) y1; within = (omega (arith, second, lies, may.fits, fits), λ _. omega (arith, second)); running = r.joins.ended; given = tt; counted = h1 }) (λ y2 s2 h2.
        finish (Bank off) extent (suc (suc p)) ends behind (banks_in a (banked ((b0, t.regs.a) ∷ (b1, t.regs.x) ∷ [])) k) (banked ((b0, t.regs.a) ∷ (b1, t.regs.x) ∷ [])) s2
        (record { taken = subst (λ y. AreTaken g a pushed needs 0 c w k t (with_put c b x o y new) (banks_in a (banked ((b0, t.regs.a) ∷ (b1, t.regs.x) ∷ [])) k) (banked ((b0, t.regs.a) ∷ (b1, t.regs.x) ∷ []))) (sym size) (taken_in_bank g a (pushed + 0) needs c w k t b x d from o 2 new placed r may (t.regs.a ∷ t.regs.x ∷ []) ((b0, t.regs.a) ∷ (b1, t.regs.x) ∷ []) ws2 (omega arith) laid (word_item t (four_bytes t r.joins.bytes)) y2 pushed refl); value = value (banked ((b0, t.regs.a) ∷ (b1, t.regs.x) ∷ [])) refl }) h2)))

-- ---- spots

in_memory_at : (q : Spot) (o l : ℕ) → At l ≡ beyond q o → (at : ℕ) × (q ≡ At at) × (l ≡ at + o)
in_memory_at (At at) o l e = (at, refl, cc)
in_memory_at (Banked d i) o l e = cc

in_bank_at : (q : Spot) (o d l : ℕ) → Banked d l ≡ beyond q o → (e : ℕ) × (from : ℕ) × (q ≡ Banked e from) × (l ≡ from + o)
in_bank_at (At at) o d l e = cc
in_bank_at (Banked f i) o d l e = (f, i, refl, cc)

pub numbers_are_stored : NumbersAreStored
numbers_are_stored g a pushed needs (Data s off) extent c w k t b x q o new n v p turns m seen placed has r may holds spot laid h behind =
    let where_is = in_memory_at q o (located g.place s off) spot in
    let mine : MayPut g a c w b x (At where_is.0) o (bytes_in extent) = subst (λ y. MayPut g a c w b x y o (bytes_in extent)) where_is.1 may in
    by_extent extent where_is.0 where_is.2 mine has laid behind
  where
    by_extent : (extent : Extent) (at : ℕ) → located g.place s off ≡ at + o → MayPut g a c w b x (At at) o (bytes_in extent) → HasAt (lines_of g a) p (bytes_store (Data s off) extent) → ((i : ℕ) → i < bytes_in extent → CellIs w (new i) (byte_of i (eax_of t)))
        → Behind g a pushed needs c w k t b x o new n v p turns m seen placed (Data s off) extent → Follows g n (v + 260) m (place_in g a p) t seen
    by_extent One at e mine has laid behind = one_at_symbol g a pushed needs c w k t b x o new n v p turns m seen placed s off at r e h mine has laid behind
    by_extent Two at e mine has laid behind = two_at_symbol g a pushed needs c w k t b x o new n v p turns m seen placed s off at r e h Two refl (λ u y. y) (omega arith) mine has.0 has.1.0 laid behind
    by_extent Three at e mine has laid behind = two_at_symbol g a pushed needs c w k t b x o new n v p turns m seen placed s off at r e h Three refl (λ u y. y) (omega arith) mine has.0 has.1.0 laid behind
    by_extent Four at e mine has laid behind = four_at_symbol g a pushed needs c w k t b x o new n v p turns m seen placed s off at r e h mine has laid behind
numbers_are_stored g a pushed needs (Near off) extent c w k t b x q o new n v p turns m seen placed has r may holds spot laid h behind =
    let where_is = in_memory_at q o (sp_of t + off) spot in
    let mine : MayPut g a c w b x (At where_is.0) o (bytes_in extent) = subst (λ y. MayPut g a c w b x y o (bytes_in extent)) where_is.1 may in
    by_extent extent where_is.0 where_is.2 mine has laid behind
  where
    by_extent : (extent : Extent) (at : ℕ) → sp_of t + off ≡ at + o → MayPut g a c w b x (At at) o (bytes_in extent) → HasAt (lines_of g a) p (bytes_store (Near off) extent) → ((i : ℕ) → i < bytes_in extent → CellIs w (new i) (byte_of i (eax_of t)))
        → Behind g a pushed needs c w k t b x o new n v p turns m seen placed (Near off) extent → Follows g n (v + 260) m (place_in g a p) t seen
    by_extent One at e mine has laid behind = one_near g a pushed needs c w k t b x o new n v p turns m seen placed off at r e holds h mine has laid behind
    by_extent Two at e mine has laid behind = by_routine g a pushed needs c w k t b x o new n v p turns m seen placed off at r e holds h WordByY Two refl refl (omega arith) (omega arith) (sym e, omega (arith, holds)) (λ u y. y) mine has.0 has.1.0 laid behind
    by_extent Three at e mine has laid behind = by_routine g a pushed needs c w k t b x o new n v p turns m seen placed off at r e holds h WordByY Three refl refl (omega arith) (omega arith) (sym e, omega (arith, holds)) (λ u y. y) mine has.0 has.1.0 laid behind
    by_extent Four at e mine has laid behind = by_routine g a pushed needs c w k t b x o new n v p turns m seen placed off at r e holds h LongByY Four refl refl (omega arith) (omega arith) (sym e, omega (arith, holds)) (λ u y. y) mine has.0 has.1.0 laid behind
numbers_are_stored g a pushed needs (Far off) extent c w k t b x q o new n v p turns m seen placed has r may holds spot laid h behind =
    let where_is = in_memory_at q o (word_at t.mem (sp_of t)) spot in
    let mine : MayPut g a c w b x (At where_is.0) o (bytes_in extent) = subst (λ y. MayPut g a c w b x y o (bytes_in extent)) where_is.1 may in
    by_extent extent where_is.0 where_is.2 mine has laid behind
  where
    by_extent : (extent : Extent) (at : ℕ) → word_at t.mem (sp_of t) ≡ at + o → MayPut g a c w b x (At at) o (bytes_in extent) → HasAt (lines_of g a) p (bytes_store (Far off) extent) → ((i : ℕ) → i < bytes_in extent → CellIs w (new i) (byte_of i (eax_of t)))
        → Behind g a pushed needs c w k t b x o new n v p turns m seen placed (Far off) extent → Follows g n (v + 260) m (place_in g a p) t seen
    by_extent One at e mine has laid behind = through g a pushed needs c w k t b x o new n v p turns m seen placed at off ByteThrough One refl refl (omega arith) (omega arith) (sym e) (λ u y. y) r h mine has.0 laid behind
    by_extent Two at e mine has laid behind = through g a pushed needs c w k t b x o new n v p turns m seen placed at off WordThrough Two refl refl (omega arith) (omega arith) (sym e) (λ u y. y) r h mine has.0 laid behind
    by_extent Three at e mine has laid behind = through g a pushed needs c w k t b x o new n v p turns m seen placed at off WordThrough Three refl refl (omega arith) (omega arith) (sym e) (λ u y. y) r h mine has.0 laid behind
    by_extent Four at e mine has laid behind = through g a pushed needs c w k t b x o new n v p turns m seen placed at off LongThrough Four refl refl (omega arith) (omega arith) (sym e) (λ u y. y) r h mine has.0 laid behind
numbers_are_stored g a pushed needs (Bank off) extent c w k t b x q o new n v p turns m seen placed has r may holds spot laid h behind =
    let where_is = in_bank_at q o (length a.behind) off spot in
    let mine : MayPut g a c w b x (Banked where_is.0 where_is.1) o (bytes_in extent) = subst (λ y. MayPut g a c w b x y o (bytes_in extent)) where_is.2 may in
    by_extent extent holds where_is.0 where_is.1 where_is.3 mine has laid behind
  where
    by_extent : (extent : Extent) → bytes_in extent ≤ 2 → (d from : ℕ) → off ≡ from + o → MayPut g a c w b x (Banked d from) o (bytes_in extent) → HasAt (lines_of g a) p (bytes_store (Bank off) extent) → ((i : ℕ) → i < bytes_in extent → CellIs w (new i) (byte_of i (eax_of t)))
        → Behind g a pushed needs c w k t b x o new n v p turns m seen placed (Bank off) extent → Follows g n (v + 260) m (place_in g a p) t seen
    by_extent One few d from e mine has laid behind = one_in_bank g a pushed needs c w k t b x o new n v p turns m seen placed off d from r e h mine has laid behind
    by_extent Two few d from e mine has laid behind = two_in_bank g a pushed needs c w k t b x o new n v p turns m seen placed off d from r e h Two refl (λ u y. y) (omega arith) mine has.0 has.1.0 laid behind
    by_extent Three few d from e mine has laid behind = two_in_bank g a pushed needs c w k t b x o new n v p turns m seen placed off d from r e h Three refl (λ u y. y) (omega arith) mine has.0 has.1.0 laid behind
    by_extent Four few d from e mine has laid behind = absurd (omega (arith, few))
