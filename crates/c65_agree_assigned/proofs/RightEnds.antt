-- A number or a pointer goes behind a pointer that is read behind it.
use Rattle.std.proofs.Common.{◌≡◌, ℕ, ◌+◌, ◌*◌, ◌%◌, ◌≤◌, inl, ◌++◌, false, refl, sym, ap, ◌∙◌, subst, arith}
use Rattle.c65_ints.specs.declared.types.IntType.{IntType}
use Rattle.c65_meaning.specs.Store.{Block, Value, Shape, Number, Field, Pointer, Area, size_in, new_cells}
use Rattle.c65_meaning.specs.Fits.{Fits}
use Rattle.c65_meaning.specs.State.{Scene}
use Rattle.c65_code.specs.declared.routine.Width.TheVariants.{Ax}
use Rattle.c65_code.specs.LineState.{State, ax_of, eax_of}
use Rattle.c65_code.specs.Placement.{IsPlacement}
use Rattle.c65_code.specs.Rows.{primary_of}
use Rattle.c65_genwide.specs.Wide.{width_of, narrow_code}
use Rattle.c65_genload.specs.declared.places.Extent.TheVariants.{One, Two}
use Rattle.c65_genload.specs.Places.{extent_of}
use Rattle.c65_gendirect.specs.declared.bytes.OperandByte.{OperandByte}
use Rattle.c65_gendirect.specs.Through.{byte_through_code, word_through_code}
use Rattle.c65_agree_store.specs.Stands.{At, Placing, Banks, CellIs, IsAt}
use Rattle.c65_agree_store.specs.Laws.{byte_of}
use Rattle.c65_agree_state.specs.World.{World, Active}
use Rattle.c65_agree_state.specs.Exprs.{Ready, Kept, Valued, ResultIs, width_in}
use Rattle.c65_agree_state.proofs.Parts.{kept_goes_on}
use Rattle.c65_agree_state.proofs.Nodes.{ready_stays}
use Rattle.c65_agree_numbers.specs.Words.{narrowed}
use Rattle.c65_agree_put.specs.Puts.{MayPut, with_put}
use Rattle.c65_agree_put.specs.Laws.{IsScalar}
use Rattle.c65_agree_put.proofs.Values.{values_are_laid}
use Rattle.c65_agree_assign.specs.Places.{bytes_in, extent_in, kind_in}
use Rattle.c65_agree_assign.proofs.Assigned.{size_is}
use Rattle.c65_agree_assign.proofs.Widened.{number_kept, pointer_kept}
use Rattle.c65_agree_frame.specs.Leads.{Leads}
use Rattle.c65_agree_frame.proofs.Leads.{leads_then, leads_as}
use Rattle.c65_agree_direct.specs.Operands.{byte_in, MayRead}
use Rattle.c65_agree_operate.proofs.Converted.{IsBrought, narrow_leads}
use Rattle.c65_agree_access.specs.Sums.{IsClear}
use Rattle.c65_agree_access.proofs.HeldEnds.{IsStoredThere, narrowed_alike, one_narrow, two_narrow}
use Rattle.c65_agree_assigned.proofs.Through.{IsThrough, byte_through_leads, word_through_leads}

module _ (g : World) (a : Active) (pushed needs : ℕ) (c : Scene) (w : Placing) (k : Banks) (t : State) (placed : IsPlacement g.code g.place) (r : Ready g a pushed needs c w k t) (at : ℕ) (small : at ≤ 250) (v : Value) (b o m : ℕ) (x : Block) (is : IsAt c.store w b x (At m)) (open_block : x.sealed ≡ false)
    (low high : OperandByte) (clear : IsClear high) (may_low : MayRead g t low) (may_high : MayRead g t high) (there : byte_in g t low + 256 * byte_in g t high + at ≡ m + o) where
  low_byte : byte_of 0 (eax_of t) ≡ t.regs.a
  low_byte = let b = r.joins.bytes.a in omega (arith, b)

  high_byte : byte_of 1 (eax_of t) ≡ t.regs.x
  high_byte = let b = r.joins.bytes.a in let q = r.joins.bytes.x in omega (arith, b, q)

  -- a character
  byte_stored : (kind : IntType) → extent_of kind ≡ One → Fits (Number kind) v → ResultIs Valued w (width_of kind) v t → o + size_in (Number kind) ≤ x.holds → Leads g a (byte_through_code at low high ++ narrow_code kind) 600 t (IsStoredThere g a (Number kind) c w k t b o v x)
  byte_stored kind one fits result inside =
      let narrow : width_of kind ≡ Ax = one_narrow kind one in
      let size : bytes_in (extent_of kind) ≡ 1 = ap bytes_in one in
      let new = new_cells (Number kind) v x.cells o in
      let may : MayPut g a c w b x (At m) o 1 = record { block = is; fits = omega (arith, inside, size_is (Number kind) tt, size); own = tt; writable = inl open_block } in
      let laid : CellIs w (new 0) t.regs.a = subst (CellIs w (new 0)) low_byte (values_are_laid w (Number kind) v t x.cells o 0 tt r.joins.bytes fits result (omega (arith, size, size_is (Number kind) tt))) in
      leads_as g a (byte_through_code at low high ++ narrow_code kind) (10 + 256) 600 t (IsStoredThere g a (Number kind) c w k t b o v x) (IsStoredThere g a (Number kind) c w k t b o v x) (omega arith) (λ u h. h)
      (leads_then g a (byte_through_code at low high) (narrow_code kind) 10 256 t (IsThrough g a c w k t b x o 1 new (λ u. u.regs.a)) (IsStoredThere g a (Number kind) c w k t b o v x)
      (byte_through_leads g a pushed needs c w k t b x m o new placed r at small low high clear may_low may_high there may laid) (λ u h.
      let c2 : Scene = with_put c b x o 1 new in
      let ready : Ready g a pushed needs c2 w k u = ready_stays g a pushed needs needs c c2 w w k k t u (omega arith) r h.kept in
      leads_as g a (narrow_code kind) 256 256 u (IsBrought g a c2 w k u ax_of (narrowed kind (ax_of u)) false) (IsStoredThere g a (Number kind) c w k t b o v x) (omega arith)
      (λ y d.
      let same : ax_of u % 256 ≡ ax_of t % 256 = omega (arith, h.value) in
      let word : ax_of y ≡ narrowed kind (ax_of t) = d.word ∙ narrowed_alike kind (ax_of u) (ax_of t) one same in (
        subst (λ n. Kept g a c w k t (with_put c b x o n new) w k y) (sym size) (kept_goes_on g a c c2 c2 w w w k k k t u y h.kept d.kept),
        (number_kept w kind v t fits result).brought y (subst (λ width. primary_of width y ≡ narrowed kind (primary_of width t)) (sym narrow) word),
      ))
      (narrow_leads g a pushed needs c2 w k u placed ready kind (ax_of u) false refl (λ e. absurd cc))))

  pub byte_ends : (f : Shape) → IsScalar f → extent_in f ≡ One → Fits f v → ResultIs Valued w (width_in f) v t → o + size_in f ≤ x.holds → Leads g a (byte_through_code at low high ++ narrow_code (kind_in f)) 600 t (IsStoredThere g a f c w k t b o v x)
  byte_ends (Number kind) scalar one fits result inside = byte_stored kind one fits result inside
  byte_ends (Pointer n) scalar one fits result inside = absurd cc
  byte_ends (Field kind l width) scalar one fits result inside = absurd scalar
  byte_ends (Area n) scalar one fits result inside = absurd scalar

  -- a word
  word_stored : (f : Shape) → IsScalar f → extent_in f ≡ Two → Fits f v → ResultIs Valued w (width_in f) v t → o + size_in f ≤ x.holds → ((u : State) → ax_of u ≡ ax_of t → ResultIs Valued w (width_in f) v u) → Leads g a (word_through_code at low high) 600 t (IsStoredThere g a f c w k t b o v x)
  word_stored f scalar two fits result inside again =
      let size : bytes_in (extent_in f) ≡ 2 = ap bytes_in two in
      let new = new_cells f v x.cells o in
      let may : MayPut g a c w b x (At m) o 2 = record { block = is; fits = omega (arith, inside, size_is f scalar, size); own = tt; writable = inl open_block } in
      let laid_low : CellIs w (new 0) t.regs.a = subst (CellIs w (new 0)) low_byte (values_are_laid w f v t x.cells o 0 scalar r.joins.bytes fits result (omega (arith, size, size_is f scalar))) in
      let laid_high : CellIs w (new 1) t.regs.x = subst (CellIs w (new 1)) high_byte (values_are_laid w f v t x.cells o 1 scalar r.joins.bytes fits result (omega (arith, size, size_is f scalar))) in
      leads_as g a (word_through_code at low high) 13 600 t (IsThrough g a c w k t b x o 2 new ax_of) (IsStoredThere g a f c w k t b o v x) (omega arith)
      (λ u h. (subst (λ n. Kept g a c w k t (with_put c b x o n new) w k u) (sym size) h.kept, again u h.value))
      (word_through_leads g a pushed needs c w k t b x m o new placed r at small low high clear may_low may_high there may laid_low laid_high)

  pub word_ends : (f : Shape) → IsScalar f → extent_in f ≡ Two → Fits f v → ResultIs Valued w (width_in f) v t → o + size_in f ≤ x.holds → Leads g a (word_through_code at low high) 600 t (IsStoredThere g a f c w k t b o v x)
  word_ends (Number kind) scalar two fits result inside =
      word_stored (Number kind) scalar two fits result inside (λ u e. (number_kept w kind v t fits result).same u (subst (λ width. primary_of width u ≡ primary_of width t) (sym (two_narrow kind two)) e))
  word_ends (Pointer n) scalar two fits result inside = word_stored (Pointer n) scalar two fits result inside (λ u e. (pointer_kept w n v t fits result).same u e)
  word_ends (Field kind l width) scalar two fits result inside = absurd scalar
  word_ends (Area n) scalar two fits result inside = absurd scalar
