-- The low byte of what is loaded behind ptr1.
use Rattle.std.proofs.Common.{◌≡◌, ℕ, ℤ, ◌+◌, ◌*◌, ◌/◌, ◌%◌, ◌<◌, ◌≤◌, List, [], ◌∷◌, ◌++◌, Option, Some, None, refl, sym, ap, ◌∙◌, subst, arith, length-append}
use Rattle.std.specs.Prelude.{Ok, length}
use Rattle.c65_ints.specs.declared.types.IntType.{IntType}
use Rattle.c65_ints.specs.declared.types.IntType.TheVariants as I
use Rattle.c65_ints.specs.Ranges.{residue}
use Rattle.c65_ctype.specs.Sizes.{bytes_of}
use Rattle.c65_ctype.specs.Trees.{QTy, type_in}
use Rattle.c65_ctype.specs.Views.{types_of}
use Rattle.c65_csem.specs.Trees.{Typed, node, load}
use Rattle.c65_csem_need.specs.Needs.{need}
use Rattle.c65_meaning.specs.Store as values
use Rattle.c65_meaning.specs.Store.{Value, Whole, Null, Opaque, Cells, NoValue, Shape, Number, read}
use Rattle.c65_meaning.specs.Fits.{Fits}
use Rattle.c65_meaning.specs.Items.{Item, Fetch, plan}
use Rattle.c65_meaning.specs.Shapes.{place_shape}
use Rattle.c65_meaning.specs.State.{Scene, Running}
use Rattle.c65_code.specs.declared.line.Line.{Line}
use Rattle.c65_code.specs.declared.routine.Width.TheVariants.{Ax}
use Rattle.c65_code.specs.LineState.{State, ax_of}
use Rattle.c65_code.specs.Numbers.{words_of}
use Rattle.c65_code.specs.Placement.{IsPlacement}
use Rattle.c65_code.specs.Rows.{primary_of}
use Rattle.c65_genwide.specs.Wide.{width_of}
use Rattle.c65_genload.specs.Conversions.{size_of}
use Rattle.c65_genload.specs.declared.places.Access.{Access}
use Rattle.c65_genload.specs.declared.places.Access.TheVariants.{Whole as whole_access}
use Rattle.c65_genload.specs.declared.places.Extent.{Extent}
use Rattle.c65_genload.specs.declared.places.Extent.TheVariants.{One, Two, Three, Four}
use Rattle.c65_genload.specs.declared.places.Place.{Place}
use Rattle.c65_genload.specs.declared.places.Place.TheVariants.{Bank, Near, Data, Far}
use Rattle.c65_genload.specs.Places.{extent_of}
use Rattle.c65_gendirect.specs.declared.bytes.OperandByte.{OperandByte}
use Rattle.c65_gendirect.specs.Pointed.{behind_pointer_code}
use Rattle.c65_genexpr.specs.declared.destination.Destination.{Destination}
use Rattle.c65_genexpr.specs.declared.destination.Destination.TheVariants.{Registers, Pointer}
use Rattle.c65_genexpr.specs.declared.elements.Element.{Element}
use Rattle.c65_genexpr.specs.declared.wanted.Wanted.TheVariants.{Value as wanted_value}
use Rattle.c65_genexpr.specs.Comparing.{low_code}
use Rattle.c65_genexpr.specs.Destination.{destination_by}
use Rattle.c65_genexpr.specs.Elements.{element_at, element_or, element_byte_code}
use Rattle.c65_genexpr.specs.Lows.{byte_in, behind_by, behind_pointer, low_load_by}
use Rattle.c65_genexpr.specs.Places.{place_of}
use Rattle.c65_genexpr.specs.Types.{access_of}
use Rattle.c65_genexpr.specs.Code.{base_code, node_code, index_code, low_value_code}
use Rattle.c65_agree_store.specs.Stands.{Spot, At, Placing, Banks, ValueIs, stored_at}
use Rattle.c65_agree_store.specs.Laws.{number_in}
use Rattle.c65_agree_state.specs.World.{World, unit_in, Active, lines_of, place_in, HasTurns}
use Rattle.c65_agree_state.specs.Follows.{Follows}
use Rattle.c65_agree_state.specs.Exprs.{Ready, Kept, Valued, ResultIs, width_in, shape_in}
use Rattle.c65_agree_state.proofs.Followed.{follows_weaken}
use Rattle.c65_agree_state.proofs.Nodes.{has_front, has_back, ready_stays}
use Rattle.c65_agree_state.proofs.Parts.{kept_goes_on}
use Rattle.c65_agree_numbers.specs.Words.{word_of, narrowed}
use Rattle.c65_agree_put.proofs.Fits.{may_fit}
use Rattle.c65_agree_assign.specs.Places.{kind_in}
use Rattle.c65_agree_frame.specs.Leads.{Leads}
use Rattle.c65_agree_frame.proofs.Leads.{leads_as}
use Rattle.c65_agree_load.specs.Loads.{CanLoad, IsLoaded}
use Rattle.c65_agree_load.proofs.Fetched.{fits, can, result, size_of_kind}
use Rattle.c65_agree_direct.proofs.Bytes.{sizes_agree, read_byte}
use Rattle.c65_agree_operate.specs.Manners.{usual}
use Rattle.c65_agree_order.specs.Bytes.{Any, ByteIs, LowsIn}
use Rattle.c65_agree_structures.specs.Bases.{IsToldBy}
use Rattle.c65_agree_access.specs.Pointed.{with_pointer, TellsPointed, PointedDoes}
use Rattle.c65_agree_access.proofs.Members.{pointer_ready}
use Rattle.c65_agree_access.specs.LoadLaws.{IsWhole}
use Rattle.c65_agree_access.proofs.Behind.{kept_from_view, IsBehind, one_behind}
use Rattle.c65_agree_access.proofs.Fetching.{fetch_follows}
use Rattle.c65_agree_access.proofs.Wholes.{places_are_whole}
use Rattle.c65_agree_access.specs.Lows.{LowLoadsDo, LowLoadLinesAre}

-- ---- numbers of one byte or two

-- they stand in AX, and have a first byte
record IsShort (kind : IntType) : Type 0 where
  narrow : width_of kind ≡ Ax
  some : 0 < size_of kind
  few : bytes_of kind ≤ 2

short : (kind : IntType) → destination_by (extent_of kind) ≡ Pointer → IsShort kind
short I.SChar e = record { narrow = refl; some = omega arith; few = omega arith }
short I.UChar e = record { narrow = refl; some = omega arith; few = omega arith }
short I.Short e = record { narrow = refl; some = omega arith; few = omega arith }
short I.UShort e = record { narrow = refl; some = omega arith; few = omega arith }
short I.Int e = record { narrow = refl; some = omega arith; few = omega arith }
short I.UInt e = record { narrow = refl; some = omega arith; few = omega arith }
short I.Long e = absurd cc
short I.ULong e = absurd cc

-- ---- the byte

module _ (g : World) (a : Active) (pushed needs : ℕ) (kind : IntType) (c : Scene) (w : Placing) (k : Banks) (t : State) (placed : IsPlacement g.code g.place) (r : Ready g a pushed needs c w k t) (small : destination_by (extent_of kind) ≡ Pointer) (at m o : ℕ) (v : Value) (e : read (Number kind) c.store m o ≡ Ok v) (told : IsToldBy g a (Far at) c w (with_pointer t) (values.Place m o)) where
  abbrev view : State
  view = with_pointer t

  abbrev view_ready : Ready g a pushed needs c w k view
  view_ready = pointer_ready g a pushed needs c w k t placed r

  abbrev spot : Spot
  spot = At (ax_of view + at)

  abbrev bytes : ℕ → ℕ
  bytes = stored_at view spot

  byte_below : (p : ℕ) → bytes p < 256
  byte_below p = r.joins.bytes.mem (ax_of view + at + p)

  -- the low byte of the number is the first one
  first_is : (n : ℕ) → n ≡ bytes 0 → ByteIs v n
  first_is n is = go v e (result g a pushed needs (Far at) (Number kind) c w k view m o placed view_ready tt told.0.1 v e sample there)
    where
      number : ℕ
      number = narrowed kind (number_in bytes (bytes_of kind) 0)

      -- a state that has it in AX
      sample : State
      sample = record view { regs = record view.regs { a = number % 256; x = number / 256 } }

      there : primary_of (width_of kind) sample ≡ number
      there = subst (λ width. primary_of width sample ≡ number) (sym (short kind small).narrow) (omega arith)

      go : (x : Value) → read (Number kind) c.store m o ≡ Ok x → ResultIs Valued w (width_of kind) x sample → ByteIs x n
      go (Whole z) f value =
          let word : narrowed kind (number_in bytes (size_of kind) 0) ≡ word_of kind z = ap (λ l. narrowed kind (number_in bytes l 0)) (sizes_agree kind) ∙ (sym there ∙ value) in
          is ∙ sym (read_byte kind bytes z 0 byte_below word (short kind small).some)
      go Null f value = tt
      go (values.Place b p) f value = tt
      go Opaque f value = tt
      go (Cells xs) f value = tt
      go NoValue f value = tt

  -- the lines
  pub low_fetch : Fits (Number kind) v × Leads g a (behind_pointer_code at One) 526 t (λ u. Kept g a c w k t c w k u × ByteIs v u.regs.a)
  low_fetch =
      let reach : CanLoad g view spot 1 = λ i lt. can g a pushed needs (Far at) (Number kind) c w k view m o placed view_ready tt told.0.1 v e i (omega (arith, lt, size_of_kind kind, sizes_agree kind, (short kind small).some)) in (
        fits g a pushed needs (Far at) (Number kind) c w k view m o placed view_ready tt told.0.1 v e,
        leads_as g a (behind_pointer_code at One) 270 526 t (IsBehind g a pushed needs c w k t placed r at told.1 One) (λ u. Kept g a c w k t c w k u × ByteIs v u.regs.a) (omega arith)
            (λ u h. (kept_from_view g a c w k t u h.0, first_is u.regs.a (h.1 ∙ omega arith)))
            (one_behind g a pushed needs c w k t placed r at told.1 reach),
      )

-- ---- behind the lines of the base

module _ (g : World) (a : Active) (placed : IsPlacement g.code g.place) (kind : IntType) (small : destination_by (extent_of kind) ≡ Pointer) (work : List Item → List Item) (needs pushed at : ℕ) (base : List Line) where
  low_does : TellsPointed g a work needs pushed (Far at) base → LowsIn g a usual Any kind (λ k. work (Fetch (Number kind) ∷ k)) needs pushed (base ++ behind_pointer_code at One)
  low_does tells n weight p k vs c w b t seen has r turns rest =
      let ls : List Line = behind_pointer_code at One in
      let ends : p + length base + length ls ≡ p + length (base ++ ls) = omega (arith, length-append base ls) in
      tells n weight p (Fetch (Number kind) ∷ k) vs c w b t seen (has_front (lines_of g a) p base ls has) r turns (λ j v c2 w2 b2 u later lt kept told turned.
      let ready = ready_stays g a pushed needs needs c c2 w w2 b b2 t u (omega arith) r kept in
      fetch_follows g a pushed needs (Number kind) c2 w2 b2 u v (λ x y. Kept g a c2 w2 b2 u c2 w2 b2 y × ByteIs x y.regs.a) ls j (weight + 2500) (p + length base) k vs later (has_back (lines_of g a) p base ls has) ready turned
      (λ m o x is e. low_fetch g a pushed needs kind c2 w2 b2 u placed ready small at m o x e (subst (IsToldBy g a (Far at) c2 w2 (with_pointer u)) is told)) (λ i x y after less fit h turned2.
      subst (λ z. Follows g i (weight + 2500 + 3470) (Running k (x ∷ vs) c2) (place_in g a z) y after) (sym ends)
      (follows_weaken g i (weight + 2600 + 0) (weight + 2500 + 3470) (Running k (x ∷ vs) c2) (place_in g a (p + length (base ++ ls))) y after (omega arith)
      (rest i x c2 w2 b2 y after (omega (arith, lt, less)) (kept_goes_on g a c c2 c2 w w2 w2 b b2 b2 t u y kept h.0) (may_fit (Number kind) x tt fit) tt h.1 (record { scene = tt; held = tt })
      (subst (λ z. HasTurns g c2.turns (place_in g a z) after) ends turned2)))))

-- ---- the laws

record IsFar (place : Place) (d : Destination) (at : ℕ) : Type 0 where
  place_is : place ≡ Far at
  pointer : d ≡ Pointer

is_far : (place : Place) (d : Destination) (at : ℕ) → behind_by place d ≡ Some at → IsFar place d at
is_far (Far off) Pointer at e = record { place_is = cc; pointer = refl }
is_far (Far off) Registers at e = absurd cc
is_far (Bank i) d at e = absurd cc
is_far (Near i) d at e = absurd cc
is_far (Data s i) d at e = absurd cc

pub low_loads_do : LowLoadsDo
low_loads_do g a pushed fresh at t e kind placed parts typed plain number behind does =
    let whole : IsWhole g a e = places_are_whole g a e parts typed.1 plain in
    let access : access_of (types_of a.frame.parts.types) e ≡ whole_access kind = whole.access ∙ ap (λ f. whole_access (kind_in f)) number in
    let far : IsFar (place_of a.frame pushed e) (destination_by (extent_of kind)) at = is_far (place_of a.frame pushed e) (destination_by (extent_of kind)) at (subst (λ (z : Access). behind_pointer (place_of a.frame pushed e) z ≡ Some at) access behind) in
    let ls : List Line = base_code a.frame pushed fresh Pointer e ++ behind_pointer_code at One in
    subst (λ f. LowsIn g a usual Any kind (λ k. plan (unit_in g) e (Fetch f ∷ k)) (need e) pushed ls) (sym (whole.shape ∙ number))
    (low_does g a placed kind far.pointer (plan (unit_in g) e) (need e) pushed at (base_code a.frame pushed fresh Pointer e) (subst (λ z. TellsPointed g a (plan (unit_in g) e) (need e) pushed z (base_code a.frame pushed fresh Pointer e)) far.place_is (does pushed fresh)))

pub low_load_lines_are : LowLoadLinesAre
low_load_lines_are f pushed fresh at t e far none behind =
    let base : List Line = base_code f pushed fresh Pointer e in
    let other : List Line = node_code f pushed fresh wanted_value t (load e) in
    ap (λ (d : Option OperandByte). low_code d (element_or (element_at f e) (λ x. index_code f pushed fresh e ++ element_byte_code x.0) (low_load_by (behind_pointer (place_of f pushed e) (access_of (types_of f.parts.types) e)) base other))) far
    ∙ ap (λ (o : Option (Element × IntType)). element_or o (λ x. index_code f pushed fresh e ++ element_byte_code x.0) (low_load_by (behind_pointer (place_of f pushed e) (access_of (types_of f.parts.types) e)) base other)) none
    ∙ ap (λ (o : Option ℕ). low_load_by o base other) behind
