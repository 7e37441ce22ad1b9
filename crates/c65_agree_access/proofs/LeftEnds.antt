-- A number that is read where it lies goes behind the address in ptr1.
use Rattle.std.proofs.Common.{◌≡◌, ℕ, ◌+◌, ◌*◌, ◌/◌, ◌%◌, ◌<◌, ◌≤◌, inl, List, [], ◌∷◌, ◌++◌, Option, Some, None, Bool, true, false, refl, sym, ap, ◌∙◌, subst, arith, append_assoc}
use Rattle.std.specs.Prelude.{if◌then◌else◌, option_map}
use Rattle.c65_ints.specs.declared.types.IntType.{IntType}
use Rattle.c65_mach.specs.declared.rows.Op.TheVariants.{Lda, Ldy, Sta}
use Rattle.c65_mach.specs.State.{Regs}
use Rattle.c65_meaning.specs.Store as values
use Rattle.c65_meaning.specs.Store.{Cell, Block, Value, Whole, Null, Opaque, Cells, NoValue, Number, size_in, new_cells}
use Rattle.c65_meaning.specs.Fits.{Fits}
use Rattle.c65_meaning.specs.State.{Scene}
use Rattle.c65_code.specs.declared.line.Line.{Line}
use Rattle.c65_code.specs.declared.routine.Width.TheVariants.{Ax}
use Rattle.c65_code.specs.LineState.{State, ax_of, eax_of, zero_word, IsBytes}
use Rattle.c65_code.specs.Numbers.{words_of}
use Rattle.c65_code.specs.Placement.{IsPlacement}
use Rattle.c65_code.specs.Rows.{primary_of}
use Rattle.c65_genwide.specs.Lines.{value}
use Rattle.c65_genwide.specs.Wide.{width_of, narrow_code}
use Rattle.c65_genload.specs.Words.{by_y}
use Rattle.c65_genload.specs.declared.places.Extent.TheVariants.{One, Two}
use Rattle.c65_genload.specs.Places.{extent_of}
use Rattle.c65_gendirect.specs.declared.bytes.OperandByte.{OperandByte}
use Rattle.c65_gendirect.specs.declared.bytes.OperandByte.TheVariants as operands
use Rattle.c65_gendirect.specs.declared.direct.Direct.{Direct}
use Rattle.c65_gendirect.specs.declared.direct.Direct.TheVariants as directs
use Rattle.c65_gendirect.specs.declared.through.Stored.{Stored}
use Rattle.c65_gendirect.specs.declared.through.Stored.TheVariants.{Single, Word, Fixed}
use Rattle.c65_gendirect.specs.Bytes.{op_of, number_byte, byte_of as operand_of}
use Rattle.c65_gendirect.specs.Through.{read_bytes_code}
use Rattle.c65_genexpr.specs.Direct.{is_fixed}
use Rattle.c65_genexpr.specs.Operating.{pair_of, word_in}
use Rattle.c65_genexpr.specs.Storing.{word_stored, bytes_stored}
use Rattle.c65_agree_store.specs.Stands.{At, Placing, Banks, CellIs, ValueIs, IsAt}
use Rattle.c65_agree_store.specs.Laws.{byte_of}
use Rattle.c65_agree_state.specs.World.{World, Active}
use Rattle.c65_agree_state.specs.Exprs.{Ready, Kept, Valued, ResultIs, width_in}
use Rattle.c65_agree_state.proofs.Parts.{kept_goes_on}
use Rattle.c65_agree_state.proofs.Nodes.{ready_stays}
use Rattle.c65_agree_numbers.specs.Words.{narrowed}
use Rattle.c65_agree_put.specs.Puts.{MayPut, with_put}
use Rattle.c65_agree_put.proofs.Values.{values_are_laid}
use Rattle.c65_agree_assign.specs.Places.{bytes_in}
use Rattle.c65_agree_assign.proofs.Assigned.{size_is}
use Rattle.c65_agree_assign.proofs.Widened.{number_kept}
use Rattle.c65_agree_frame.specs.Leads.{Leads}
use Rattle.c65_agree_frame.proofs.Leads.{leads_then, leads_as}
use Rattle.c65_agree_load.proofs.Kept.{is_on, kept_later, ready_later}
use Rattle.c65_agree_direct.specs.Operands.{byte_in, MayRead, IsOfLive, HasBytes, Loads}
use Rattle.c65_agree_operate.proofs.Converted.{IsBrought, narrow_leads}
use Rattle.c65_agree_operate.proofs.Exact.{at_regs, To, on_byte, operand_leads, leads_from}
use Rattle.c65_agree_access.proofs.Held.{IsBehind, byte_leads}
use Rattle.c65_agree_access.proofs.HeldEnds.{IsStoredThere, narrowed_alike, one_narrow, two_narrow}
use Rattle.c65_agree_access.proofs.Left.{IsLeft, IsSteady, fixed_leads, word_leads}

-- ---- operands

-- two bytes of a word
pub record HasTwo (d : Direct) (low high : OperandByte) : Type 0 where
  pub first : operand_of d 0 ≡ Some low
  pub second : operand_of d 1 ≡ Some high

two_of : (x y : Option OperandByte) (low high : OperandByte) → pair_of x y ≡ Some (low, high) → (x ≡ Some low) × (y ≡ Some high)
two_of (Some l) (Some h) low high e = let same : (l, h) ≡ (low, high) = cc in (ap (λ (p : OperandByte × OperandByte). Some p.0) same, ap (λ (p : OperandByte × OperandByte). Some p.1) same)
two_of (Some l) None low high e = absurd cc
two_of None y low high e = absurd cc

pub has_two : (d : Direct) (low high : OperandByte) → word_in d ≡ Some (low, high) → HasTwo d low high
has_two d low high e = let h = two_of (operand_of d 0) (operand_of d 1) low high e in record { first = h.0; second = h.1 }

steady_on : (x y : OperandByte) → Some x ≡ Some y → IsSteady x → IsSteady y
steady_on x y e s = let same : x ≡ y = cc in subst IsSteady same s

pub steady_low : (d : Direct) (low : OperandByte) → is_fixed (Some d) ≡ true → operand_of d 0 ≡ Some low → IsSteady low
steady_low (directs.Number n) low fixed e = steady_on (operands.Number (number_byte n 0)) low e tt
steady_low (directs.Address s at) low fixed e = steady_on (operands.Low s at) low e tt
steady_low (directs.Kept place kind) low fixed e = absurd cc

-- ---- the value

module _ (g : World) (a : Active) (pushed needs : ℕ) (c : Scene) (w : Placing) (k : Banks) (t : State) (placed : IsPlacement g.code g.place) (r : Ready g a pushed needs c w k t) (at : ℕ) (small : at ≤ 250) (kind : IntType) (v : Value) (fits : Fits (Number kind) v) (d : Direct) (has : HasBytes g c.store w t Ax d v) (narrow : width_of kind ≡ Ax)
    (b o m : ℕ) (x : Block) (is : IsAt c.store w b x (At m)) (unsealed : x.sealed ≡ false) (inside : o + size_in (Number kind) ≤ x.holds) (there : zero_word t 8 + at ≡ m + o) where
  is_of_live : (y : Value) → Fits (Number kind) y → IsOfLive c.store y
  is_of_live (Whole z) f = tt
  is_of_live Opaque f = tt
  is_of_live Null f = absurd f
  is_of_live (values.Place l p) f = absurd f
  is_of_live (Cells xs) f = absurd f
  is_of_live NoValue f = absurd f

  word_below : has.word < 65536
  word_below = has.fits (is_of_live v fits)

  -- a state with the word in AX
  abbrev sample : State
  sample = record t { regs = record t.regs { a = has.word % 256; x = has.word / 256 } }

  sample_ax : ax_of sample ≡ has.word
  sample_ax = omega arith

  sample_bytes : IsBytes sample
  sample_bytes = let q = r.joins.bytes in record { a = omega arith; x = omega (arith, word_below); y = q.y; zp = q.zp; mem = q.mem; pushed = q.pushed; frames = q.frames }

  in_register : (y : Value) → Fits (Number kind) y → ValueIs w 65536 y has.word → ResultIs Valued w Ax y sample
  in_register (Whole z) f value = sample_ax ∙ value
  in_register Opaque f value = tt
  in_register Null f value = absurd f
  in_register (values.Place l p) f value = absurd f
  in_register (Cells xs) f value = absurd f
  in_register NoValue f value = absurd f

  sample_value : ResultIs Valued w (width_of kind) v sample
  sample_value = subst (λ width. ResultIs Valued w width v sample) (sym narrow) (in_register v fits has.is)

  abbrev new : ℕ → Cell
  new = new_cells (Number kind) v x.cells o

  laid : (i : ℕ) → i < size_in (Number kind) → CellIs w (new i) (byte_of i (eax_of sample))
  laid i lt = values_are_laid w (Number kind) v sample x.cells o i tt sample_bytes fits sample_value lt

  low_byte : byte_of 0 (eax_of sample) ≡ byte_of 0 has.word
  low_byte = omega (arith, sample_ax)

  high_byte : byte_of 1 (eax_of sample) ≡ byte_of 1 has.word
  high_byte = omega (arith, sample_ax, word_below)

  again : (u : State) → ax_of u ≡ has.word → ResultIs Valued w (width_of kind) v u
  again u e = (number_kept w kind v sample fits sample_value).same u (subst (λ width. primary_of width u ≡ primary_of width sample) (sym narrow) (e ∙ sym sample_ax))

  narrowed_again : (u : State) → ax_of u ≡ narrowed kind has.word → ResultIs Valued w (width_of kind) v u
  narrowed_again u e = (number_kept w kind v sample fits sample_value).brought u (subst (λ width. primary_of width u ≡ narrowed kind (primary_of width sample)) (sym narrow) (e ∙ ap (narrowed kind) (sym sample_ax)))

  abbrev IsStored : State → Type 0
  IsStored = IsStoredThere g a (Number kind) c w k t b o v x

  -- a word
  module _ (two : extent_of kind ≡ Two) (low high : OperandByte) (pair : HasTwo d low high) where
    size : bytes_in (extent_of kind) ≡ 2
    size = ap bytes_in two

    lows : MayRead g t low × (byte_in g t low ≡ byte_of 0 has.word)
    lows = has.bytes 0 low (omega arith) pair.first

    highs : MayRead g t high × (byte_in g t high ≡ byte_of 1 has.word)
    highs = has.bytes 1 high (omega arith) pair.second

    may : MayPut g a c w b x (At m) o 2
    may = record { block = is; fits = omega (arith, inside, size_is (Number kind) tt, size); own = tt; writable = inl unsealed }

    laid_low : CellIs w (new 0) (byte_in g t low)
    laid_low = subst (CellIs w (new 0)) (low_byte ∙ sym lows.1) (laid 0 (omega (arith, size, size_is (Number kind) tt)))

    laid_high : CellIs w (new 1) (byte_in g t high)
    laid_high = subst (CellIs w (new 1)) (high_byte ∙ sym highs.1) (laid 1 (omega (arith, size, size_is (Number kind) tt)))

    all_there : (u : State) → IsLeft g a c w k t b x o 2 new (byte_in g t low + 256 * byte_in g t high) u → IsStored u
    all_there u h =
        let low_is = lows.1 in
        let high_is = highs.1 in
        (subst (λ n. Kept g a c w k t (with_put c b x o n new) w k u) (sym size) h.kept, again u (h.value ∙ omega (arith, low_is, high_is, word_below)))

    pub word_ends : Leads g a (read_bytes_code at (Word low high)) 600 t IsStored
    word_ends =
        leads_as g a (read_bytes_code at (Word low high)) 11 600 t (IsLeft g a c w k t b x o 2 new (byte_in g t low + 256 * byte_in g t high)) IsStored (omega arith) all_there
        (word_leads g a pushed needs c w k t b x m o new placed r at small there low high lows.0 highs.0 may laid_low laid_high)

    pub fixed_ends : IsSteady low → Leads g a (read_bytes_code at (Fixed low high)) 600 t IsStored
    fixed_ends steady =
        leads_as g a (read_bytes_code at (Fixed low high)) 9 600 t (IsLeft g a c w k t b x o 2 new (byte_in g t low + 256 * byte_in g t high)) IsStored (omega arith) all_there
        (fixed_leads g a pushed needs c w k t b x m o new placed r at small there low high lows.0 highs.0 may laid_low laid_high steady)

  -- a character
  module _ (one : extent_of kind ≡ One) (low : OperandByte) (first : operand_of d 0 ≡ Some low) where
    one_size : bytes_in (extent_of kind) ≡ 1
    one_size = ap bytes_in one

    reads : MayRead g t low × (byte_in g t low ≡ byte_of 0 has.word)
    reads = has.bytes 0 low (omega arith) first

    abbrev s1 : Regs
    s1 = on_byte g t Loads low t.regs

    may_one : MayPut g a c w b x (At m) o 1
    may_one = record { block = is; fits = omega (arith, inside, size_is (Number kind) tt, one_size); own = tt; writable = inl unsealed }

    store_line : IsBytes (at_regs t s1) → Leads g a ((value Ldy at ∷ by_y Sta 8 ∷ []) ++ narrow_code kind) (2 + 256) (at_regs t s1) IsStored
    store_line bytes =
        let u1 : State = at_regs t s1 in
        let kept1 : Kept g a c w k t c w k u1 = kept_later g a pushed needs c w k t placed r s1 t.zp (λ i e. refl) bytes in
        let ready1 : Ready g a pushed needs c w k u1 = ready_later g a pushed needs c w k t placed r s1 t.zp (λ i e. refl) bytes in
        leads_then g a (value Ldy at ∷ by_y Sta 8 ∷ []) (narrow_code kind) 2 256 u1 (IsBehind g a pushed needs c w k u1 b x m o new placed ready1 8 at small there 1 (λ u. u.regs.a)) IsStored
        (byte_leads g a pushed needs c w k u1 b x m o new placed ready1 8 at small there may_one (λ i lt.
        let none : i ≡ 0 = omega (arith, lt) in
        let byte : byte_of 0 (eax_of sample) ≡ byte_of 0 (eax_of u1) = low_byte ∙ sym reads.1 ∙ low_of_a u1 bytes.a in
        rw none (subst (CellIs w (new 0)) byte (laid 0 (omega (arith, one_size, size_is (Number kind) tt)))))) (λ u h.
        let c2 : Scene = with_put c b x o 1 new in
        let ready : Ready g a pushed needs c2 w k u = ready_stays g a pushed needs needs c c2 w w k k u1 u (omega arith) ready1 h.kept in
        leads_as g a (narrow_code kind) 256 256 u (IsBrought g a c2 w k u ax_of (narrowed kind (ax_of u)) false) IsStored (omega arith)
        (λ y e.
        let a_is : u.regs.a ≡ byte_of 0 has.word = h.value ∙ reads.1 in
        let low : ax_of u % 256 ≡ has.word % 256 = omega (arith, a_is) in
        let word : ax_of y ≡ narrowed kind has.word = e.word ∙ narrowed_alike kind (ax_of u) has.word one low in
        (subst (λ n. Kept g a c w k t (with_put c b x o n new) w k y) (sym one_size) (kept_goes_on g a c c c2 w w w k k k t u1 y kept1 (kept_goes_on g a c c2 c2 w w w k k k u1 u y h.kept e.kept)), narrowed_again y word))
        (narrow_leads g a pushed needs c2 w k u placed ready kind (ax_of u) false refl (λ e. absurd cc)))
      where
        low_of_a : (u : State) → u.regs.a < 256 → u.regs.a ≡ byte_of 0 (eax_of u)
        low_of_a u lt = omega (arith, lt)

    pub single_ends : Leads g a (read_bytes_code at (Single low) ++ narrow_code kind) 600 t IsStored
    single_ends =
        let rest : List Line = (value Ldy at ∷ by_y Sta 8 ∷ []) ++ narrow_code kind in
        subst (λ ls. Leads g a ls 600 t IsStored) (sym (append_assoc (op_of Lda low) (value Ldy at ∷ by_y Sta 8 ∷ []) (narrow_code kind)))
        (leads_as g a (op_of Lda low ++ rest) (2 + (2 + 256)) 600 t IsStored IsStored (omega arith) (λ u h. h)
        (leads_then g a (op_of Lda low) rest 2 (2 + 256) t (To t s1) IsStored (operand_leads g a t placed (is_on g a pushed needs c w k t placed r) Loads low t.regs reads.0 r.joins.bytes) (λ u e. leads_from g a rest (2 + 256) t u s1 IsStored e store_line)))
