-- A number or a pointer goes behind the address that waits in ptr2.
use Rattle.std.proofs.Common.{◌≡◌, ℕ, ◌+◌, ◌*◌, ◌%◌, ◌<◌, ◌≤◌, inl, List, [], ◌∷◌, ◌++◌, length, false, refl, sym, ap, ◌∙◌, subst, arith}
use Rattle.std.specs.Prelude.{nat_lt, if◌then◌else◌}
use Rattle.c65_ints.specs.declared.types.IntType.{IntType}
use Rattle.c65_ints.specs.declared.types.IntType.TheVariants as I
use Rattle.c65_meaning.specs.Store.{Block, Value, Shape, Number, Field, Pointer, Area, size_in, new_cells}
use Rattle.c65_meaning.specs.Fits.{Fits}
use Rattle.c65_meaning.specs.State.{Scene}
use Rattle.c65_code.specs.declared.line.Line.{Line}
use Rattle.c65_code.specs.declared.routine.Width.TheVariants.{Ax}
use Rattle.c65_code.specs.LineState.{State, ax_of}
use Rattle.c65_code.specs.Placement.{IsPlacement}
use Rattle.c65_code.specs.Rows.{primary_of}
use Rattle.c65_genwide.specs.Wide.{width_of, narrow_code}
use Rattle.c65_genload.specs.declared.places.Extent.TheVariants.{One, Two}
use Rattle.c65_genload.specs.Places.{extent_of}
use Rattle.c65_genexpr.specs.Held.{byte_behind_code, word_behind_code}
use Rattle.c65_agree_store.specs.Stands.{Spot, At, Banked, Placing, Banks, IsAt, beyond}
use Rattle.c65_agree_state.specs.World.{World, Active}
use Rattle.c65_agree_state.specs.Exprs.{Ready, Kept, Valued, ResultIs, width_in}
use Rattle.c65_agree_state.proofs.Parts.{kept_goes_on}
use Rattle.c65_agree_state.proofs.Nodes.{ready_stays}
use Rattle.c65_agree_numbers.specs.Words.{narrowed}
use Rattle.c65_agree_put.specs.Puts.{MayPut, with_put}
use Rattle.c65_agree_put.specs.Laws.{IsScalar}
use Rattle.c65_agree_put.proofs.Values.{values_are_laid}
use Rattle.c65_agree_assign.specs.Places.{bytes_in, extent_in, kind_in}
use Rattle.c65_agree_assign.proofs.Assigned.{size_is}
use Rattle.c65_agree_assign.proofs.Widened.{number_kept, pointer_kept}
use Rattle.c65_agree_frame.specs.Leads.{Leads}
use Rattle.c65_agree_frame.proofs.Leads.{leads_then, leads_as}
use Rattle.c65_agree_operate.proofs.Converted.{IsBrought, narrow_leads}
use Rattle.c65_agree_access.proofs.Held.{IsBehind, byte_leads, word_leads}

-- what lines that store a value at an address leave
abbrev pub IsStoredThere : World → Active → Shape → Scene → Placing → Banks → State → ℕ → ℕ → Value → Block → State → Type 0
IsStoredThere g a f c w k t b o v x u = Kept g a c w k t (with_put c b x o (bytes_in (extent_in f)) (new_cells f v x.cells o)) w k u × ResultIs Valued w (width_in f) v u

-- the low byte says what a character is in all of AX
pub narrowed_alike : (kind : IntType) (m n : ℕ) → extent_of kind ≡ One → m % 256 ≡ n % 256 → narrowed kind m ≡ narrowed kind n
narrowed_alike I.SChar m n one e = ap (λ x. if nat_lt 127 x then x + 65280 else x) e
narrowed_alike I.UChar m n one e = e
narrowed_alike I.Short m n one e = absurd cc
narrowed_alike I.UShort m n one e = absurd cc
narrowed_alike I.Int m n one e = absurd cc
narrowed_alike I.UInt m n one e = absurd cc
narrowed_alike I.Long m n one e = absurd cc
narrowed_alike I.ULong m n one e = absurd cc

pub one_narrow : (kind : IntType) → extent_of kind ≡ One → width_of kind ≡ Ax
one_narrow I.SChar one = refl
one_narrow I.UChar one = refl
one_narrow I.Short one = absurd cc
one_narrow I.UShort one = absurd cc
one_narrow I.Int one = absurd cc
one_narrow I.UInt one = absurd cc
one_narrow I.Long one = absurd cc
one_narrow I.ULong one = absurd cc

pub two_narrow : (kind : IntType) → extent_of kind ≡ Two → width_of kind ≡ Ax
two_narrow I.Short two = refl
two_narrow I.UShort two = refl
two_narrow I.Int two = refl
two_narrow I.UInt two = refl
two_narrow I.SChar two = absurd cc
two_narrow I.UChar two = absurd cc
two_narrow I.Long two = absurd cc
two_narrow I.ULong two = absurd cc

module _ (g : World) (a : Active) (pushed needs : ℕ) (c : Scene) (w : Placing) (k : Banks) (t : State) (placed : IsPlacement g.code g.place) (r : Ready g a pushed needs c w k t) (at : ℕ) (small : at ≤ 250) (v : Value) (b o m : ℕ) (x : Block) (is : IsAt c.store w b x (At m)) (open_block : x.sealed ≡ false) (there : t.zp 10 + 256 * t.zp 11 + at ≡ m + o) where
  -- a character
  byte_stored : (kind : IntType) → extent_of kind ≡ One → Fits (Number kind) v → ResultIs Valued w (width_of kind) v t → o + size_in (Number kind) ≤ x.holds → Leads g a (byte_behind_code at ++ narrow_code kind) 600 t (IsStoredThere g a (Number kind) c w k t b o v x)
  byte_stored kind one fits result inside =
      let narrow : width_of kind ≡ Ax = one_narrow kind one in
      let size : bytes_in (extent_of kind) ≡ 1 = ap bytes_in one in
      let new = new_cells (Number kind) v x.cells o in
      let may : MayPut g a c w b x (At m) o 1 = record { block = is; fits = omega (arith, inside, size_is (Number kind) tt, size); own = tt; writable = inl open_block } in
      leads_as g a (byte_behind_code at ++ narrow_code kind) (2 + 256) 600 t (IsStoredThere g a (Number kind) c w k t b o v x) (IsStoredThere g a (Number kind) c w k t b o v x) (omega arith) (λ u h. h)
      (leads_then g a (byte_behind_code at) (narrow_code kind) 2 256 t (IsBehind g a pushed needs c w k t b x m o new placed r 10 at small there 1 (λ u. u.regs.a)) (IsStoredThere g a (Number kind) c w k t b o v x)
      (byte_leads g a pushed needs c w k t b x m o new placed r 10 at small there may (λ i lt. values_are_laid w (Number kind) v t x.cells o i tt r.joins.bytes fits result (omega (arith, lt, size, size_is (Number kind) tt)))) (λ u h.
      let c2 : Scene = with_put c b x o 1 new in
      let ready : Ready g a pushed needs c2 w k u = ready_stays g a pushed needs needs c c2 w w k k t u (omega arith) r h.kept in
      leads_as g a (narrow_code kind) 256 256 u (IsBrought g a c2 w k u ax_of (narrowed kind (ax_of u)) false) (IsStoredThere g a (Number kind) c w k t b o v x) (omega arith)
      (λ y d.
      let low : ax_of u % 256 ≡ ax_of t % 256 = omega (arith, h.value) in
      let word : ax_of y ≡ narrowed kind (ax_of t) = d.word ∙ narrowed_alike kind (ax_of u) (ax_of t) one low in (
        subst (λ n. Kept g a c w k t (with_put c b x o n new) w k y) (sym size) (kept_goes_on g a c c2 c2 w w w k k k t u y h.kept d.kept),
        (number_kept w kind v t fits result).brought y (subst (λ width. primary_of width y ≡ narrowed kind (primary_of width t)) (sym narrow) word),
      ))
      (narrow_leads g a pushed needs c2 w k u placed ready kind (ax_of u) false refl (λ e. absurd cc))))

  pub byte_ends : (f : Shape) → IsScalar f → extent_in f ≡ One → Fits f v → ResultIs Valued w (width_in f) v t → o + size_in f ≤ x.holds → Leads g a (byte_behind_code at ++ narrow_code (kind_in f)) 600 t (IsStoredThere g a f c w k t b o v x)
  byte_ends (Number kind) scalar one fits result inside = byte_stored kind one fits result inside
  byte_ends (Pointer n) scalar one fits result inside = absurd cc
  byte_ends (Field kind low width) scalar one fits result inside = absurd scalar
  byte_ends (Area n) scalar one fits result inside = absurd scalar

  -- a word
  word_stored : (f : Shape) → IsScalar f → extent_in f ≡ Two → Fits f v → ResultIs Valued w (width_in f) v t → o + size_in f ≤ x.holds → ((u : State) → ax_of u ≡ ax_of t → ResultIs Valued w (width_in f) v u) → Leads g a (word_behind_code at) 600 t (IsStoredThere g a f c w k t b o v x)
  word_stored f scalar two fits result inside again =
      let size : bytes_in (extent_in f) ≡ 2 = ap bytes_in two in
      let new = new_cells f v x.cells o in
      let may : MayPut g a c w b x (At m) o 2 = record { block = is; fits = omega (arith, inside, size_is f scalar, size); own = tt; writable = inl open_block } in
      leads_as g a (word_behind_code at) 7 600 t (IsBehind g a pushed needs c w k t b x m o new placed r 10 at small there 2 ax_of) (IsStoredThere g a f c w k t b o v x) (omega arith)
      (λ u h. (subst (λ n. Kept g a c w k t (with_put c b x o n new) w k u) (sym size) h.kept, again u h.value))
      (word_leads g a pushed needs c w k t b x m o new placed r 10 at small there may (λ i lt. values_are_laid w f v t x.cells o i scalar r.joins.bytes fits result (omega (arith, lt, size, size_is f scalar))))

  pub word_ends : (f : Shape) → IsScalar f → extent_in f ≡ Two → Fits f v → ResultIs Valued w (width_in f) v t → o + size_in f ≤ x.holds → Leads g a (word_behind_code at) 600 t (IsStoredThere g a f c w k t b o v x)
  word_ends (Number kind) scalar two fits result inside =
      word_stored (Number kind) scalar two fits result inside (λ u e. (number_kept w kind v t fits result).same u (subst (λ width. primary_of width u ≡ primary_of width t) (sym (two_narrow kind two)) e))
  word_ends (Pointer n) scalar two fits result inside = word_stored (Pointer n) scalar two fits result inside (λ u e. (pointer_kept w n v t fits result).same u e)
  word_ends (Field kind low width) scalar two fits result inside = absurd scalar
  word_ends (Area n) scalar two fits result inside = absurd scalar
