-- A pointer that is read where it lies goes behind the address in ptr1.
use Rattle.std.proofs.Common.{◌≡◌, ℕ, ◌+◌, ◌*◌, ◌<◌, ◌≤◌, max, List, ◌∷◌, ◌++◌, length, Option, Some, None, Bool, true, false, refl, sym, ap, ◌∙◌, subst, arith, length-append, ◌/◌, ◌%◌, inl}
use Rattle.std.specs.Prelude.{if◌then◌else◌, option_map}
use Rattle.std.proofs.lemmas.List.{append-nil}
use Rattle.c65_ints.specs.declared.types.IntType.TheVariants as I
use Rattle.c65_ctype.specs.Views.{types_of}
use Rattle.c65_csem.specs.Trees.{Typed, node, assign}
use Rattle.c65_csem_need.specs.Needs.{need}
use Rattle.c65_meaning.specs.Store as values
use Rattle.c65_meaning.specs.Store.{Block, Value, Shape, size_in, new_cells, Cell, Whole, Null, Opaque, Cells, NoValue, Pointer}
use Rattle.c65_meaning.specs.Fits.{Fits}
use Rattle.c65_meaning.specs.Items.{Item, Put, plan}
use Rattle.c65_meaning.specs.Shapes.{place_shape}
use Rattle.c65_meaning.specs.State.{Scene, Running}
use Rattle.c65_code.specs.declared.line.Line.{Line}
use Rattle.c65_code.specs.declared.routine.Width.TheVariants.{Ax}
use Rattle.c65_code.specs.LineState.{State, ax_of, zero_word, eax_of, IsBytes, Place as MachinePlace}
use Rattle.c65_code.specs.Placement.{IsPlacement}
use Rattle.c65_code.specs.Comes.{Seen}
use Rattle.c65_genwide.specs.Wide.{narrow_code}
use Rattle.c65_genload.specs.declared.places.Access.{Access}
use Rattle.c65_genload.specs.declared.places.Access.TheVariants as accesses
use Rattle.c65_genload.specs.declared.places.Extent.TheVariants.{Two}
use Rattle.c65_genload.specs.declared.places.Place.{Place}
use Rattle.c65_genload.specs.declared.places.Place.TheVariants.{Far}
use Rattle.c65_genload.specs.Places.{type_in as access_type}
use Rattle.c65_gendirect.specs.declared.bytes.OperandByte.{OperandByte}
use Rattle.c65_gendirect.specs.declared.direct.Direct.{Direct}
use Rattle.c65_gendirect.specs.declared.through.Stored.{Stored}
use Rattle.c65_gendirect.specs.declared.through.Stored.TheVariants.{Word, Fixed}
use Rattle.c65_gendirect.specs.Through.{read_bytes_code}
use Rattle.c65_genexpr.specs.declared.destination.Destination.TheVariants.{Pointer as to_pointer}
use Rattle.c65_genexpr.specs.declared.storing.Storing.{Storing}
use Rattle.c65_genexpr.specs.declared.wanted.Wanted.TheVariants.{Value as wanted_value}
use Rattle.c65_genexpr.specs.Direct.{direct_of, is_fixed, is_pure}
use Rattle.c65_genexpr.specs.Operating.{is_light, word_in}
use Rattle.c65_genexpr.specs.Storing.{storing_by, word_stored, unless_changed, pointer_of, held_if, or_held, assigned_by, base_for, below_value}
use Rattle.c65_genexpr.specs.Places.{place_of}
use Rattle.c65_genexpr.specs.Types.{access_of}
use Rattle.c65_genexpr.specs.Uses.{uses}
use Rattle.c65_genexpr.specs.Code.{expr_code, base_code}
use Rattle.c65_agree_store.specs.Stands.{Spot, At, Banked, Placing, Banks, IsAt, beyond, CellIs, ValueIs}
use Rattle.c65_agree_state.specs.World.{World, unit_in, Active, lines_of, place_in, HasTurns}
use Rattle.c65_agree_state.specs.Follows.{Follows}
use Rattle.c65_agree_state.specs.Exprs.{Ready, Valued, Does, shape_in, ResultIs}
use Rattle.c65_agree_state.proofs.Followed.{follows_weaken}
use Rattle.c65_agree_state.proofs.Nodes.{has_front, has_back, ready_stays}
use Rattle.c65_agree_state.proofs.Parts.{kept_goes_on}
use Rattle.c65_agree_put.specs.Puts.{with_put, MayPut}
use Rattle.c65_agree_put.proofs.Fits.{may_fit}
use Rattle.c65_agree_assign.specs.Places.{bytes_in, extent_in, kind_in}
use Rattle.c65_agree_frame.specs.Leads.{Leads}
use Rattle.c65_agree_direct.specs.Operands.{HasBytes, byte_in, MayRead, IsLocated}
use Rattle.c65_agree_direct.specs.Laws.{IsFrameOf}
use Rattle.c65_agree_direct.proofs.Trees.{IsRead, trees_are_read}
use Rattle.c65_agree_structures.specs.Bases.{IsToldBy}
use Rattle.c65_agree_access.specs.Pointed.{with_pointer, TellsPointed}
use Rattle.c65_agree_access.proofs.Wholes.{places_are_whole}
use Rattle.c65_agree_access.proofs.HeldEnds.{IsStoredThere}
use Rattle.c65_agree_access.proofs.LeftEnds.{has_two, steady_low, HasTwo}
use Rattle.c65_agree_access.proofs.Nodes.{AreSides, are_sides}
use Rattle.c65_agree_access.proofs.Putting.{put_by, put_at}
use Rattle.c65_genwide.specs.Lines.{value}
use Rattle.c65_agree_store.specs.Laws.{byte_of}
use Rattle.c65_agree_put.proofs.Values.{values_are_laid}
use Rattle.c65_agree_assign.proofs.Widened.{pointer_kept}
use Rattle.c65_agree_frame.proofs.Leads.{leads_as}
use Rattle.c65_agree_access.proofs.Left.{IsLeft, IsSteady, fixed_leads, word_leads}
use Rattle.c65_csem.specs.Typed.{IsTyped}
use Rattle.c65_agree_direct.proofs.Values.{pointer_bytes}
use Rattle.c65_agree_access.proofs.LeftNodes.{IsReadThere, read_form_is}
use Rattle.c65_agree_assigned.specs.Laws.{LeftPointersDo}

-- ---- the bytes

module _ (g : World) (a : Active) (pushed needs : ℕ) (c : Scene) (w : Placing) (k : Banks) (t : State) (placed : IsPlacement g.code g.place) (r : Ready g a pushed needs c w k t) (at : ℕ) (small : at ≤ 250) (size : ℕ) (v : Value) (fits : Fits (Pointer size) v) (d : Direct) (has : HasBytes g c.store w t Ax d v) (word_below : has.word < 65536)
    (b o m : ℕ) (x : Block) (is : IsAt c.store w b x (At m)) (unsealed : x.sealed ≡ false) (inside : o + 2 ≤ x.holds) (there : zero_word t 8 + at ≡ m + o) where
  -- a state with the word in AX
  abbrev sample : State
  sample = record t { regs = record t.regs { a = has.word % 256; x = has.word / 256 } }

  sample_ax : ax_of sample ≡ has.word
  sample_ax = omega arith

  sample_bytes : IsBytes sample
  sample_bytes = let q = r.joins.bytes in record { a = omega arith; x = omega (arith, word_below); y = q.y; zp = q.zp; mem = q.mem; pushed = q.pushed; frames = q.frames }

  in_register : (y : Value) → Fits (Pointer size) y → ValueIs w 65536 y has.word → ResultIs Valued w Ax y sample
  in_register Null f value = sample_ax ∙ value
  in_register (values.Place l p) f value = (value.0, value.1, sample_ax ∙ value.2)
  in_register Opaque f value = tt
  in_register (Whole z) f value = absurd f
  in_register (Cells xs) f value = absurd f
  in_register NoValue f value = absurd f

  sample_value : ResultIs Valued w Ax v sample
  sample_value = in_register v fits has.is

  abbrev new : ℕ → Cell
  new = new_cells (Pointer size) v x.cells o

  laid : (i : ℕ) → i < 2 → CellIs w (new i) (byte_of i (eax_of sample))
  laid i lt = values_are_laid w (Pointer size) v sample x.cells o i tt sample_bytes fits sample_value lt

  low_byte : byte_of 0 (eax_of sample) ≡ byte_of 0 has.word
  low_byte = omega (arith, sample_ax)

  high_byte : byte_of 1 (eax_of sample) ≡ byte_of 1 has.word
  high_byte = omega (arith, sample_ax, word_below)

  abbrev IsStored : State → Type 0
  IsStored = IsStoredThere g a (Pointer size) c w k t b o v x

  module _ (low high : OperandByte) (pair : HasTwo d low high) where
    lows : MayRead g t low × (byte_in g t low ≡ byte_of 0 has.word)
    lows = has.bytes 0 low (omega arith) pair.first

    highs : MayRead g t high × (byte_in g t high ≡ byte_of 1 has.word)
    highs = has.bytes 1 high (omega arith) pair.second

    may : MayPut g a c w b x (At m) o 2
    may = record { block = is; fits = inside; own = tt; writable = inl unsealed }

    laid_low : CellIs w (new 0) (byte_in g t low)
    laid_low = subst (CellIs w (new 0)) (low_byte ∙ sym lows.1) (laid 0 (omega arith))

    laid_high : CellIs w (new 1) (byte_in g t high)
    laid_high = subst (CellIs w (new 1)) (high_byte ∙ sym highs.1) (laid 1 (omega arith))

    all_there : (u : State) → IsLeft g a c w k t b x o 2 new (byte_in g t low + 256 * byte_in g t high) u → IsStored u
    all_there u h =
        let low_is = lows.1 in
        let high_is = highs.1 in
        (h.kept, (pointer_kept w size v sample fits sample_value).same u (h.value ∙ omega (arith, low_is, high_is, word_below, sample_ax)))

    pub word_ends : Leads g a (read_bytes_code at (Word low high)) 600 t IsStored
    word_ends =
        leads_as g a (read_bytes_code at (Word low high)) 11 600 t (IsLeft g a c w k t b x o 2 new (byte_in g t low + 256 * byte_in g t high)) IsStored (omega arith) all_there
        (word_leads g a pushed needs c w k t b x m o new placed r at small there low high lows.0 highs.0 may laid_low laid_high)

    pub fixed_ends : IsSteady low → Leads g a (read_bytes_code at (Fixed low high)) 600 t IsStored
    fixed_ends steady =
        leads_as g a (read_bytes_code at (Fixed low high)) 9 600 t (IsLeft g a c w k t b x o 2 new (byte_in g t low + 256 * byte_in g t high)) IsStored (omega arith) all_there
        (fixed_leads g a pushed needs c w k t b x m o new placed r at small there low high lows.0 highs.0 may laid_low laid_high steady)

-- ---- the lines of each form

abbrev EndsLead : World → Active → ℕ → ℕ → ℕ → ℕ → Direct → List Line → Type 0
EndsLead g a pushed needs at size d end = (c : Scene) (w : Placing) (k : Banks) (t : State) (v : Value) (b o m : ℕ) (x : Block) → Ready g a pushed needs c w k t → at ≤ 250 → Fits (Pointer size) v → (h : HasBytes g c.store w t Ax d v) → h.word < 65536 → IsAt c.store w b x (At m) → x.sealed ≡ false → o + 2 ≤ x.holds → zero_word t 8 + at ≡ m + o
    → Leads g a end 600 t (IsStoredThere g a (Pointer size) c w k t b o v x)

module _ (g : World) (a : Active) (placed : IsPlacement g.code g.place) (pushed needs at size : ℕ) (d : Direct) where
  fixed_or : (stored : Stored) (low high : OperandByte) → word_in d ≡ Some (low, high) → (fixed : Bool) → is_fixed (Some d) ≡ fixed → (if fixed then Fixed low high else Word low high) ≡ stored → EndsLead g a pushed needs at size d (read_bytes_code at stored)
  fixed_or stored low high pair true e h =
      subst (λ z. EndsLead g a pushed needs at size d (read_bytes_code at z)) h
      (λ c w k t v b o m x r small fit has below is unsealed inside there. fixed_ends g a pushed needs c w k t placed r at small size v fit d has below b o m x is unsealed inside there low high (has_two d low high pair) (steady_low d low e (has_two d low high pair).first))
  fixed_or stored low high pair false e h =
      subst (λ z. EndsLead g a pushed needs at size d (read_bytes_code at z)) h
      (λ c w k t v b o m x r small fit has below is unsealed inside there. word_ends g a pushed needs c w k t placed r at small size v fit d has below b o m x is unsealed inside there low high (has_two d low high pair))

  pub words : (stored : Stored) (o : Option (OperandByte × OperandByte)) → word_in d ≡ o → option_map (word_stored (is_fixed (Some d))) o ≡ Some stored → EndsLead g a pushed needs at size d (read_bytes_code at stored)
  words stored (Some (low, high)) e h = fixed_or stored low high e (is_fixed (Some d)) refl cc
  words stored None e h = absurd cc

-- ---- the pointer

-- the word of a pointer has 16 bits, where the symbol has whose address it is
abbrev IsReadWhole : World → Active → ℕ → ℕ → (List Item → List Item) → Direct → Type 0
IsReadWhole g a pushed size work d = (needs n weight : ℕ) (k : List Item) (vs : List Value) (c : Scene) (w : Placing) (b : Banks) (p : MachinePlace) (t : State) (seen : Seen)
    → Ready g a pushed needs c w b t → HasTurns g c.turns p seen
    → ((j : ℕ) (v : Value) → j < n → Fits (Pointer size) v → (h : HasBytes g c.store w t Ax d v) → h.word < 65536 → Follows g j (weight + 4000) (Running k (v ∷ vs) c) p t seen)
    → Follows g n weight (Running (work k) vs c) p t seen

pointers_are_read : (g : World) (a : Active) (pushed size : ℕ) (e : Typed) (d : Direct) → IsPlacement g.code g.place → IsFrameOf g a → IsTyped (unit_in g) e → shape_in g a e ≡ Pointer size → direct_of a.frame pushed e ≡ Some d → IsLocated g d → IsReadWhole g a pushed size (plan (unit_in g) e) d
pointers_are_read g a pushed size e d placed frame typed shape is located needs n weight k vs c w b p t seen r turns later =
    let reads : IsRead g a pushed (Pointer size) (plan (unit_in g) e) d = subst (λ f. IsRead g a pushed f (plan (unit_in g) e) d) shape (trees_are_read g a pushed placed frame e d typed is) in
    reads needs n weight k vs c w b p t seen r turns (λ j v lt fit told.
    let h = pointer_bytes g a c w t r.joins.bytes size d v fit located (told needs w b t (λ m q same. same) r) in
    later j v lt fit h.0 h.1)

-- ---- the assignment

module _ (g : World) (a : Active) (placed : IsPlacement g.code g.place) (size at left_needs right_needs pushed : ℕ) (first second : List Item → List Item) (base end : List Line) (d : Direct) (ends_lead : EndsLead g a pushed right_needs at size d end) where
  abbrev f : Shape
  f = Pointer size

  -- the lines store where the block stands
  stores : (c : Scene) (w : Placing) (b : Banks) (s : State) → Ready g a pushed right_needs c w b s → (v : Value) (h : HasBytes g c.store w s Ax d v) → h.word < 65536 → (m o : ℕ) → IsToldBy g a (Far at) c w (with_pointer s) (values.Place m o) → Fits f v
      → (x : Block) (q : Spot) → IsAt c.store w m x q → x.sealed ≡ false → o + size_in f ≤ x.holds → Leads g a end 600 s (IsStoredThere g a f c w b s m o v x)
  stores c w b s ready v bytes below m o place fit x q live unsealed inside = by_spot q live (place.0.1 x q live).1
    where
      by_spot : (z : Spot) → IsAt c.store w m x z → At (ax_of (with_pointer s) + at) ≡ beyond z o → Leads g a end 600 s (IsStoredThere g a f c w b s m o v x)
      by_spot (Banked e i) live h = absurd (let no : At (ax_of (with_pointer s) + at) ≡ Banked e (i + o) = h in cc)
      by_spot (At l) live h = let there : ax_of (with_pointer s) + at ≡ l + o = cc in ends_lead c w b s v m o l x ready place.1 fit bytes below live unsealed inside there

  left_does : TellsPointed g a first left_needs pushed (Far at) base → IsReadWhole g a pushed size second d → Does g a Valued f (λ k. first (second (Put f ∷ k))) (max left_needs (1 + right_needs)) pushed (base ++ end)
  left_does tells reads n weight p k vs c w b s seen has ready turns rest =
      let lines = lines_of g a in
      let ends : p + length base + length end ≡ p + length (base ++ end) = omega (arith, length-append base end) in
      let ready0 : Ready g a pushed left_needs c w b s = record { joins = ready.joins; sp = ready.sp; room = omega (arith, ready.room); none_pushed = ready.none_pushed } in
      tells n weight p (second (Put f ∷ k)) vs c w b s seen (has_front lines p base end has) ready0 turns (λ j y c1 w1 b1 s1 seen1 lt kept1 told turned1.
      let ready1 : Ready g a pushed right_needs c1 w1 b1 s1 = ready_stays g a pushed (max left_needs (1 + right_needs)) right_needs c c1 w w1 b b1 s s1 (omega arith) ready kept1 in
      reads right_needs j (weight + 2500) (Put f ∷ k) (y ∷ vs) c1 w1 b1 (place_in g a (p + length base)) s1 seen1 ready1 turned1 (λ i v lt2 fit bytes below.
      put_at g a pushed right_needs f c1 w1 b1 s1 i (weight + 2500 + 4000) (p + length base) k vs seen1 ready1 turned1 v y (λ m o is.
      let place : IsToldBy g a (Far at) c1 w1 (with_pointer s1) (values.Place m o) = subst (IsToldBy g a (Far at) c1 w1 (with_pointer s1)) is told in
      put_by g a pushed right_needs f c1 w1 b1 s1 m o i (weight + 2500 + 4000) (p + length base) k vs seen1 end (has_back lines p base end has) ready1 tt turned1 v (may_fit f v tt fit) (stores c1 w1 b1 s1 ready1 v bytes below m o place) (λ l x u after less put turned2.
      let c4 : Scene = with_put c1 m x o (bytes_in (extent_in f)) (new_cells f v x.cells o) in
      follows_weaken g l (weight + 2600) (weight + 2500 + 4000 + 3400) (Running k (v ∷ vs) c4) (place_in g a (p + length base + length end)) u after (omega arith)
      (subst (λ z. Follows g l (weight + 2600) (Running k (v ∷ vs) c4) (place_in g a z) u after) (sym ends)
      (rest l v c4 w1 b1 u after (omega (arith, lt, lt2, less)) (record { kept = kept_goes_on g a c c1 c4 w w1 w1 b b1 b1 s s1 u kept1 put.0; result = put.1; fits = may_fit f v tt fit }) (subst (λ z. HasTurns g c1.turns (place_in g a z) after) ends turned2)))))))

pub left_pointers_do : LeftPointersDo
left_pointers_do g a pushed at size stored t x y placed frame typed plain pointer form located does fresh =
    let sides : AreSides g a t x y = are_sides g a t x y typed (places_are_whole g a x frame.parts typed.2 plain) in
    let place : Place = place_of a.frame pushed x in
    let access : access_of (types_of a.frame.parts.types) x ≡ accesses.Whole I.UInt = sides.whole.access ∙ ap (λ f. accesses.Whole (kind_in f)) pointer in
    let how_is : Access → Storing = λ z. or_held (storing_by place z (unless_changed (is_pure y) (pointer_of a.frame pushed x)) (direct_of a.frame pushed y)) (held_if (is_light a.frame pushed y) place z) in
    let found : IsReadThere at stored place Two (direct_of a.frame pushed y) = read_form_is at stored place I.UInt (unless_changed (is_pure y) (pointer_of a.frame pushed x)) (direct_of a.frame pushed y) (is_light a.frame pushed y) (sym (ap how_is access) ∙ form) in
    let left : List Line = base_code a.frame pushed fresh to_pointer x in
    let end : List Line = read_bytes_code at stored in
    let work : Shape → List Item → List Item = λ z k. plan (unit_in g) x (plan (unit_in g) y (Put z ∷ k)) in
    let lines : expr_code a.frame pushed fresh wanted_value (node t (assign x y)) ≡ left ++ end =
    ap (λ (z : Storing). assigned_by z place (access_of (types_of a.frame.parts.types) x) (base_code a.frame pushed fresh (base_for z) x) (expr_code a.frame (below_value z pushed place) (fresh + uses None x) wanted_value y)) form
    ∙ ap (λ (z : Access). left ++ (read_bytes_code at stored ++ narrow_code (access_type z))) access ∙ ap (λ ls. left ++ ls) (append-nil (read_bytes_code at stored)) in
    let told : TellsPointed g a (plan (unit_in g) x) (need x) pushed (Far at) left = subst (λ z. TellsPointed g a (plan (unit_in g) x) (need x) pushed z left) found.place_is (does pushed fresh) in
    let reads : IsReadWhole g a pushed size (plan (unit_in g) y) found.direct = pointers_are_read g a pushed size y found.direct placed frame typed.1 (sides.right ∙ pointer) found.is (located pushed found.direct found.is) in
    let ends : EndsLead g a pushed (need y) at size found.direct end = words g a placed pushed (need y) at size found.direct stored (word_in found.direct) refl found.bytes in
    subst (λ ls. Does g a Valued (shape_in g a (node t (assign x y))) (plan (unit_in g) (node t (assign x y))) (max (need x) (1 + need y)) pushed ls) (sym lines)
    (subst (λ z. Does g a Valued z (work (place_shape (unit_in g).types x)) (max (need x) (1 + need y)) pushed (left ++ end)) (sym (sides.shape ∙ pointer))
    (subst (λ z. Does g a Valued (Pointer size) (work z) (max (need x) (1 + need y)) pushed (left ++ end)) (sym (sides.whole.shape ∙ pointer))
    (left_does g a placed size at (need x) (need y) pushed (plan (unit_in g) x) (plan (unit_in g) y) left end found.direct ends told reads)))
