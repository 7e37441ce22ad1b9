-- The node of an assignment whose value is read behind the address in ptr1.
use Rattle.std.proofs.Common.{◌≡◌, ℕ, ◌+◌, ◌*◌, ◌<◌, ◌≤◌, max, List, [], ◌∷◌, ◌++◌, length, Option, Some, None, Bool, true, false, refl, sym, ap, ◌∙◌, subst, arith, length-append}
use Rattle.std.specs.Prelude.{if◌then◌else◌, option_map, option_and_then}
use Rattle.std.proofs.lemmas.List.{append-nil}
use Rattle.c65_ints.specs.declared.types.IntType.{IntType}
use Rattle.c65_ints.specs.declared.types.IntType.TheVariants as I
use Rattle.c65_ctype.specs.Trees.{QTy}
use Rattle.c65_ctype.specs.Views.{types_of}
use Rattle.c65_csem.specs.Trees.{Typed, node, assign}
use Rattle.c65_csem_need.specs.Needs.{need}
use Rattle.c65_meaning.specs.Store as values
use Rattle.c65_meaning.specs.Store.{Block, Value, Shape, Number, size_in, new_cells}
use Rattle.c65_meaning.specs.Fits.{Fits}
use Rattle.c65_meaning.specs.Items.{Item, Put, plan}
use Rattle.c65_meaning.specs.Shapes.{place_shape}
use Rattle.c65_meaning.specs.State.{Scene, Running}
use Rattle.c65_code.specs.declared.line.Line.{Line}
use Rattle.c65_code.specs.declared.routine.Width.TheVariants.{Ax}
use Rattle.c65_code.specs.LineState.{State, ax_of, zero_word}
use Rattle.c65_code.specs.Placement.{IsPlacement}
use Rattle.c65_code.specs.Comes.{Seen}
use Rattle.c65_genwide.specs.Wide.{width_of, narrow_code}
use Rattle.c65_genload.specs.declared.places.Access.{Access}
use Rattle.c65_genload.specs.declared.places.Access.TheVariants as accesses
use Rattle.c65_genload.specs.declared.places.Extent.{Extent}
use Rattle.c65_genload.specs.declared.places.Extent.TheVariants.{One, Two, Three, Four}
use Rattle.c65_genload.specs.declared.places.Place.{Place}
use Rattle.c65_genload.specs.declared.places.Place.TheVariants.{Bank, Near, Data, Far}
use Rattle.c65_genload.specs.Places.{type_in as access_type, extent_of}
use Rattle.c65_gendirect.specs.declared.bytes.OperandByte.{OperandByte}
use Rattle.c65_gendirect.specs.declared.direct.Direct.{Direct}
use Rattle.c65_gendirect.specs.declared.through.Stored.{Stored}
use Rattle.c65_gendirect.specs.declared.through.Stored.TheVariants.{Single, Word, Fixed}
use Rattle.c65_gendirect.specs.Bytes.{byte_of as operand_of}
use Rattle.c65_gendirect.specs.Through.{read_bytes_code}
use Rattle.c65_genexpr.specs.declared.destination.Destination.TheVariants.{Pointer}
use Rattle.c65_genexpr.specs.declared.storing.Storing.{Storing}
use Rattle.c65_genexpr.specs.declared.storing.Storing.TheVariants.{Left, RightByte, RightWord, HeldByte, HeldWord, Stacked}
use Rattle.c65_genexpr.specs.declared.wanted.Wanted.TheVariants.{Value as wanted_value}
use Rattle.c65_genexpr.specs.Direct.{direct_of, is_fixed, is_pure}
use Rattle.c65_genexpr.specs.Operating.{is_light, word_in}
use Rattle.c65_genexpr.specs.Storing.{storing_of, storing_by, by_value, by_pointer, through, word_stored, bytes_stored, unless_changed, pointer_of, held_if, held_at, or_held, assigned_by, base_for, below_value}
use Rattle.c65_genexpr.specs.Places.{place_of}
use Rattle.c65_genexpr.specs.Types.{access_of}
use Rattle.c65_genexpr.specs.Uses.{uses}
use Rattle.c65_genexpr.specs.Code.{expr_code, base_code}
use Rattle.c65_agree_store.specs.Stands.{Spot, At, Banked, Placing, Banks, IsAt, beyond}
use Rattle.c65_agree_state.specs.World.{World, unit_in, Active, lines_of, place_in, HasAt, HasTurns}
use Rattle.c65_agree_state.specs.Follows.{Follows}
use Rattle.c65_agree_state.specs.Exprs.{Ready, Kept, Valued, Rest, Does, shape_in, width_in}
use Rattle.c65_agree_state.proofs.Followed.{follows_weaken}
use Rattle.c65_agree_state.proofs.Nodes.{has_front, has_back, ready_stays}
use Rattle.c65_agree_state.proofs.Parts.{kept_goes_on}
use Rattle.c65_agree_put.specs.Puts.{with_put}
use Rattle.c65_agree_put.proofs.Fits.{may_fit}
use Rattle.c65_agree_assign.specs.Places.{bytes_in, extent_in, kind_in}
use Rattle.c65_agree_frame.specs.Leads.{Leads}
use Rattle.c65_agree_direct.specs.Operands.{HasBytes}
use Rattle.c65_agree_direct.specs.Laws.{IsFrameOf, IsReadInPlace}
use Rattle.c65_agree_direct.proofs.Trees.{direct_trees_are_read}
use Rattle.c65_agree_structures.specs.Bases.{IsToldBy}
use Rattle.c65_agree_access.specs.Pointed.{with_pointer, TellsPointed, PointedDoes}
use Rattle.c65_agree_access.proofs.Wholes.{places_are_whole}
use Rattle.c65_agree_access.specs.StoreLaws.{LeftAssignmentsDo}
use Rattle.c65_agree_access.proofs.HeldEnds.{IsStoredThere, one_narrow, two_narrow}
use Rattle.c65_agree_access.proofs.LeftEnds.{has_two, steady_low, single_ends, word_ends, fixed_ends}
use Rattle.c65_agree_access.proofs.Nodes.{AreSides, are_sides}
use Rattle.c65_agree_access.proofs.Putting.{put_by, put_at}

-- ---- the assignment

module _ (g : World) (a : Active) (placed : IsPlacement g.code g.place) (kind : IntType) (narrow : width_of kind ≡ Ax) (at left_needs right_needs pushed : ℕ) (first second : List Item → List Item) (base end : List Line) (d : Direct)
    (ends_lead : (c : Scene) (w : Placing) (k : Banks) (t : State) (v : Value) (b o m : ℕ) (x : Block) → Ready g a pushed right_needs c w k t → at ≤ 250 → Fits (Number kind) v → HasBytes g c.store w t Ax d v → IsAt c.store w b x (At m) → x.sealed ≡ false → o + size_in (Number kind) ≤ x.holds → zero_word t 8 + at ≡ m + o
    → Leads g a end 600 t (IsStoredThere g a (Number kind) c w k t b o v x)) where
  abbrev f : Shape
  f = Number kind

  pub left_does : TellsPointed g a first left_needs pushed (Far at) base → IsReadInPlace g a pushed (Number kind) second d → Does g a Valued (Number kind) (λ k. first (second (Put (Number kind) ∷ k))) (max left_needs (1 + right_needs)) pushed (base ++ end)
  left_does tells reads n weight p k vs c w b s seen has ready turns rest =
      let lines = lines_of g a in
      let ends : p + length base + length end ≡ p + length (base ++ end) = omega (arith, length-append base end) in
      let ready0 : Ready g a pushed left_needs c w b s = record { joins = ready.joins; sp = ready.sp; room = omega (arith, ready.room); none_pushed = ready.none_pushed } in
      tells n weight p (second (Put f ∷ k)) vs c w b s seen (has_front lines p base end has) ready0 turns (λ j y c1 w1 b1 s1 seen1 lt kept1 told turned1.
      let ready1 : Ready g a pushed right_needs c1 w1 b1 s1 = ready_stays g a pushed (max left_needs (1 + right_needs)) right_needs c c1 w w1 b b1 s s1 (omega arith) ready kept1 in
      reads right_needs j (weight + 2500) (Put f ∷ k) (y ∷ vs) c1 w1 b1 (place_in g a (p + length base)) s1 seen1 ready1 turned1 (λ i v lt2 fit has_bytes.
      let bytes : HasBytes g c1.store w1 s1 Ax d v = subst (λ width. HasBytes g c1.store w1 s1 width d v) narrow has_bytes in
      put_at g a pushed right_needs f c1 w1 b1 s1 i (weight + 2500 + 4000) (p + length base) k vs seen1 ready1 turned1 v y (λ m o is.
      let place : IsToldBy g a (Far at) c1 w1 (with_pointer s1) (values.Place m o) = subst (IsToldBy g a (Far at) c1 w1 (with_pointer s1)) is told in
      put_by g a pushed right_needs f c1 w1 b1 s1 m o i (weight + 2500 + 4000) (p + length base) k vs seen1 end (has_back lines p base end has) ready1 tt turned1 v (may_fit f v tt fit)
      (λ fit2 x q live unsealed inside. stores c1 w1 b1 s1 ready1 v bytes m o place fit2 x q live unsealed inside) (λ l x u after less put turned2.
      let c4 : Scene = with_put c1 m x o (bytes_in (extent_in f)) (new_cells f v x.cells o) in
      follows_weaken g l (weight + 2600) (weight + 2500 + 4000 + 3400) (Running k (v ∷ vs) c4) (place_in g a (p + length base + length end)) u after (omega arith)
      (subst (λ z. Follows g l (weight + 2600) (Running k (v ∷ vs) c4) (place_in g a z) u after) (sym ends)
      (rest l v c4 w1 b1 u after (omega (arith, lt, lt2, less)) (record { kept = kept_goes_on g a c c1 c4 w w1 w1 b b1 b1 s s1 u kept1 put.0; result = put.1; fits = may_fit f v tt fit }) (subst (λ z. HasTurns g c1.turns (place_in g a z) after) ends turned2)))))))
    where
      stores : (c1 : Scene) (w1 : Placing) (b1 : Banks) (s1 : State) → Ready g a pushed right_needs c1 w1 b1 s1 → (v : Value) → HasBytes g c1.store w1 s1 Ax d v → (m o : ℕ) → IsToldBy g a (Far at) c1 w1 (with_pointer s1) (values.Place m o) → Fits f v
          → (x : Block) (q : Spot) → IsAt c1.store w1 m x q → x.sealed ≡ false → o + size_in f ≤ x.holds → Leads g a end 600 s1 (IsStoredThere g a f c1 w1 b1 s1 m o v x)
      stores c1 w1 b1 s1 ready1 v bytes m o place fit x q live unsealed inside = by_spot q live (place.0.1 x q live).1
        where
          by_spot : (z : Spot) → IsAt c1.store w1 m x z → At (ax_of (with_pointer s1) + at) ≡ beyond z o → Leads g a end 600 s1 (IsStoredThere g a f c1 w1 b1 s1 m o v x)
          by_spot (Banked e i) live h = absurd (let no : At (ax_of (with_pointer s1) + at) ≡ Banked e (i + o) = h in cc)
          by_spot (At l) live h = let there : ax_of (with_pointer s1) + at ≡ l + o = cc in ends_lead c1 w1 b1 s1 v m o l x ready1 place.1 fit bytes live unsealed inside there

-- ---- the form

-- such a form is of a value that is read, and goes anywhere
pub record IsReadThere (at : ℕ) (stored : Stored) (place : Place) (extent : Extent) (y : Option Direct) : Type 0 where
  pub direct : Direct
  pub is : y ≡ Some direct
  pub place_is : place ≡ Far at
  pub bytes : bytes_stored extent direct ≡ Some stored

left_same : (off at : ℕ) (s stored : Stored) → Left off s ≡ Left at stored → (off ≡ at) × (s ≡ stored)
left_same off at s stored e = (cc, cc)

module _ (off at : ℕ) (stored : Stored) where
  lit_no_left : (light : Bool) (extent : Extent) → (if light then held_at off extent else Stacked) ≡ Left at stored → ⊥
  lit_no_left true One e = cc
  lit_no_left true Two e = cc
  lit_no_left true Three e = cc
  lit_no_left true Four e = cc
  lit_no_left false extent e = cc

  held_no_left : (light : Bool) (kind : IntType) → held_if light (Far off) (accesses.Whole kind) ≡ Left at stored → ⊥
  held_no_left true kind e = lit_no_left true (extent_of kind) e
  held_no_left false kind e = cc

  through_no_left : (extent : Extent) (z : Option (OperandByte × OperandByte)) (other : Storing) → (other ≡ Left at stored → ⊥) → or_held (by_pointer off extent z) other ≡ Left at stored → ⊥
  through_no_left extent None other never e = never e
  through_no_left One (Some w) other never e = cc
  through_no_left Two (Some w) other never e = cc
  through_no_left Three (Some w) other never e = never e
  through_no_left Four (Some w) other never e = never e

  by_stored : (s : Option Stored) (extent : Extent) (z : Option (OperandByte × OperandByte)) (other : Storing) → (other ≡ Left at stored → ⊥) → or_held (by_value off s (by_pointer off extent z)) other ≡ Left at stored → (s ≡ Some stored) × (off ≡ at)
  by_stored None extent z other never e = absurd (through_no_left extent z other never e)
  by_stored (Some s) extent z other never e = let h = left_same off at s stored e in (ap Some h.1, h.0)

  far_read : (kind : IntType) (x y : Option Direct) (light : Bool) → or_held (storing_by (Far off) (accesses.Whole kind) x y) (held_if light (Far off) (accesses.Whole kind)) ≡ Left at stored → IsReadThere at stored (Far off) (extent_of kind) y
  far_read kind x None light e =
      let h = by_stored None (extent_of kind) (option_and_then word_in x) (held_if light (Far off) (accesses.Whole kind)) (held_no_left light kind) e in
      absurd (let no : None ≡ Some stored = h.0 in cc)
  far_read kind x (Some d) light e =
      let h = by_stored (bytes_stored (extent_of kind) d) (extent_of kind) (option_and_then word_in x) (held_if light (Far off) (accesses.Whole kind)) (held_no_left light kind) e in
      record { direct = d; is = refl; place_is = ap Far h.1; bytes = h.0 }

pub read_form_is : (at : ℕ) (stored : Stored) (place : Place) (kind : IntType) (x y : Option Direct) (light : Bool) → or_held (storing_by place (accesses.Whole kind) x y) (held_if light place (accesses.Whole kind)) ≡ Left at stored → IsReadThere at stored place (extent_of kind) y
read_form_is at stored (Far off) kind x y light e = far_read off at stored kind x y light e
read_form_is at stored (Bank i) kind x y true e = absurd cc
read_form_is at stored (Bank i) kind x y false e = absurd cc
read_form_is at stored (Near i) kind x y true e = absurd cc
read_form_is at stored (Near i) kind x y false e = absurd cc
read_form_is at stored (Data s i) kind x y true e = absurd cc
read_form_is at stored (Data s i) kind x y false e = absurd cc

-- ---- what the lines do

two_none : (kind : IntType) → extent_of kind ≡ Two → narrow_code kind ≡ []
two_none I.Short e = refl
two_none I.UShort e = refl
two_none I.Int e = refl
two_none I.UInt e = refl
two_none I.SChar e = absurd cc
two_none I.UChar e = absurd cc
two_none I.Long e = absurd cc
two_none I.ULong e = absurd cc

abbrev EndsLead : World → Active → ℕ → ℕ → ℕ → IntType → Direct → List Line → Type 0
EndsLead g a pushed needs at kind d end = (c : Scene) (w : Placing) (k : Banks) (t : State) (v : Value) (b o m : ℕ) (x : Block) → Ready g a pushed needs c w k t → at ≤ 250 → Fits (Number kind) v → HasBytes g c.store w t Ax d v → IsAt c.store w b x (At m) → x.sealed ≡ false → o + size_in (Number kind) ≤ x.holds → zero_word t 8 + at ≡ m + o
    → Leads g a end 600 t (IsStoredThere g a (Number kind) c w k t b o v x)

-- width, and lines, by the bytes
record Ends (g : World) (a : Active) (pushed needs at : ℕ) (kind : IntType) (d : Direct) (stored : Stored) : Type 0 where
  narrow : width_of kind ≡ Ax
  leads : EndsLead g a pushed needs at kind d (read_bytes_code at stored ++ narrow_code kind)

module _ (g : World) (a : Active) (placed : IsPlacement g.code g.place) (pushed needs at : ℕ) (kind : IntType) (d : Direct) where
  of_two : (stored : Stored) → extent_of kind ≡ Two → EndsLead g a pushed needs at kind d (read_bytes_code at stored) → Ends g a pushed needs at kind d stored
  of_two stored two lead = record { narrow = two_narrow kind two; leads = subst (EndsLead g a pushed needs at kind d) (sym (ap (λ ls. read_bytes_code at stored ++ ls) (two_none kind two) ∙ append-nil (read_bytes_code at stored))) lead }

  single : (stored : Stored) → extent_of kind ≡ One → (o : Option OperandByte) → operand_of d 0 ≡ o → option_map Single o ≡ Some stored → Ends g a pushed needs at kind d stored
  single stored one (Some low) e h =
      let same : Single low ≡ stored = cc in
      subst (Ends g a pushed needs at kind d) same (record { narrow = one_narrow kind one; leads = λ c w k t v b o m x r small fit bytes is unsealed inside there. single_ends g a pushed needs c w k t placed r at small kind v fit d bytes (one_narrow kind one) b o m x is unsealed inside there one low e })
  single stored one None e h = absurd cc

  fixed_or : (stored : Stored) → extent_of kind ≡ Two → (low high : OperandByte) → word_in d ≡ Some (low, high) → (fixed : Bool) → is_fixed (Some d) ≡ fixed → (if fixed then Fixed low high else Word low high) ≡ stored → Ends g a pushed needs at kind d stored
  fixed_or stored two low high pair true e h =
      subst (Ends g a pushed needs at kind d) h
      (of_two (Fixed low high) two (λ c w k t v b o m x r small fit bytes is unsealed inside there. fixed_ends g a pushed needs c w k t placed r at small kind v fit d bytes (two_narrow kind two) b o m x is unsealed inside there two low high (has_two d low high pair) (steady_low d low e (has_two d low high pair).first)))
  fixed_or stored two low high pair false e h =
      subst (Ends g a pushed needs at kind d) h
      (of_two (Word low high) two (λ c w k t v b o m x r small fit bytes is unsealed inside there. word_ends g a pushed needs c w k t placed r at small kind v fit d bytes (two_narrow kind two) b o m x is unsealed inside there two low high (has_two d low high pair)))

  words : (stored : Stored) → extent_of kind ≡ Two → (o : Option (OperandByte × OperandByte)) → word_in d ≡ o → option_map (word_stored (is_fixed (Some d))) o ≡ Some stored → Ends g a pushed needs at kind d stored
  words stored two (Some (low, high)) e h = fixed_or stored two low high e (is_fixed (Some d)) refl cc
  words stored two None e h = absurd cc

  by_extent : (stored : Stored) (extent : Extent) → extent_of kind ≡ extent → bytes_stored extent d ≡ Some stored → Ends g a pushed needs at kind d stored
  by_extent stored One e h = single stored e (operand_of d 0) refl h
  by_extent stored Two e h = words stored e (word_in d) refl h
  by_extent stored Three e h = absurd cc
  by_extent stored Four e h = absurd cc

-- ---- the law

pub left_assignments_do : LeftAssignmentsDo
left_assignments_do g a pushed at stored t x y kind placed frame typed plain number form does fresh =
    let sides : AreSides g a t x y = are_sides g a t x y typed (places_are_whole g a x frame.parts typed.2 plain) in
    let place : Place = place_of a.frame pushed x in
    let access : access_of (types_of a.frame.parts.types) x ≡ accesses.Whole kind = sides.whole.access ∙ ap (λ f. accesses.Whole (kind_in f)) number in
    let how_is : Access → Storing = λ z. or_held (storing_by place z (unless_changed (is_pure y) (pointer_of a.frame pushed x)) (direct_of a.frame pushed y)) (held_if (is_light a.frame pushed y) place z) in
    let found : IsReadThere at stored place (extent_of kind) (direct_of a.frame pushed y) = read_form_is at stored place kind (unless_changed (is_pure y) (pointer_of a.frame pushed x)) (direct_of a.frame pushed y) (is_light a.frame pushed y) (sym (ap how_is access) ∙ form) in
    let ends : Ends g a pushed (need y) at kind found.direct stored = by_extent g a placed pushed (need y) at kind found.direct stored (extent_of kind) refl found.bytes in
    let left : List Line = base_code a.frame pushed fresh Pointer x in
    let end : List Line = read_bytes_code at stored ++ narrow_code kind in
    let work : Shape → List Item → List Item = λ z k. plan (unit_in g) x (plan (unit_in g) y (Put z ∷ k)) in
    let lines : expr_code a.frame pushed fresh wanted_value (node t (assign x y)) ≡ left ++ end =
    ap (λ (z : Storing). assigned_by z place (access_of (types_of a.frame.parts.types) x) (base_code a.frame pushed fresh (base_for z) x) (expr_code a.frame (below_value z pushed place) (fresh + uses None x) wanted_value y)) form
    ∙ ap (λ (z : Access). left ++ (read_bytes_code at stored ++ narrow_code (access_type z))) access in
    let told : TellsPointed g a (plan (unit_in g) x) (need x) pushed (Far at) left = subst (λ z. TellsPointed g a (plan (unit_in g) x) (need x) pushed z left) found.place_is (does pushed fresh) in
    let reads : IsReadInPlace g a pushed (Number kind) (plan (unit_in g) y) found.direct = subst (λ f. IsReadInPlace g a pushed f (plan (unit_in g) y) found.direct) (sides.right ∙ number) (direct_trees_are_read g a pushed y found.direct placed frame typed.1 found.is) in
    subst (λ ls. Does g a Valued (shape_in g a (node t (assign x y))) (plan (unit_in g) (node t (assign x y))) (max (need x) (1 + need y)) pushed ls) (sym lines)
    (subst (λ z. Does g a Valued z (work (place_shape (unit_in g).types x)) (max (need x) (1 + need y)) pushed (left ++ end)) (sym (sides.shape ∙ number))
    (subst (λ z. Does g a Valued (Number kind) (work z) (max (need x) (1 + need y)) pushed (left ++ end)) (sym (sides.whole.shape ∙ number))
    (left_does g a placed kind ends.narrow at (need x) (need y) pushed (plan (unit_in g) x) (plan (unit_in g) y) left end found.direct ends.leads told reads)))
