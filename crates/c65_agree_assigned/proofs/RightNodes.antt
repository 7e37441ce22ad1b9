-- The node of an assignment whose pointer is read behind the value.
use Rattle.std.proofs.Common.{◌≡◌, ℕ, ◌+◌, ◌*◌, ◌≤◌, ◌⊎◌, inl, inr, max, List, ◌∷◌, ◌++◌, length, Option, Some, None, Bool, true, false, refl, sym, ap, ◌∙◌, subst, arith, length-append}
use Rattle.std.specs.Prelude.{◌||◌, if◌then◌else◌, option_and_then}
use Rattle.c65_ints.specs.declared.types.IntType.{IntType}
use Rattle.c65_ctype.specs.Trees.{QTy}
use Rattle.c65_ctype.specs.Views.{types_of}
use Rattle.c65_csem.specs.Trees.{Typed, node, assign}
use Rattle.c65_csem_need.specs.Needs.{need}
use Rattle.c65_meaning.specs.Store as values
use Rattle.c65_meaning.specs.Store.{Block, Value, Shape, size_in, new_cells}
use Rattle.c65_meaning.specs.Fits.{Fits}
use Rattle.c65_meaning.specs.Items.{Item, Put, plan}
use Rattle.c65_meaning.specs.Shapes.{place_shape}
use Rattle.c65_meaning.specs.State.{Scene, Running}
use Rattle.c65_code.specs.declared.line.Line.{Line}
use Rattle.c65_code.specs.LineState.{State, ax_of}
use Rattle.c65_code.specs.Placement.{IsPlacement}
use Rattle.c65_genwide.specs.Wide.{narrow_code}
use Rattle.c65_genload.specs.declared.places.Access.{Access}
use Rattle.c65_genload.specs.declared.places.Access.TheVariants as accesses
use Rattle.c65_genload.specs.declared.places.Extent.{Extent}
use Rattle.c65_genload.specs.declared.places.Extent.TheVariants.{One, Two, Three, Four}
use Rattle.c65_genload.specs.declared.places.Place.{Place}
use Rattle.c65_genload.specs.declared.places.Place.TheVariants.{Bank, Near, Data, Far}
use Rattle.c65_genload.specs.Places.{type_in as access_type, extent_of}
use Rattle.c65_gendirect.specs.declared.bytes.OperandByte.{OperandByte}
use Rattle.c65_gendirect.specs.declared.direct.Direct.{Direct}
use Rattle.c65_gendirect.specs.declared.through.Stored.{Stored}
use Rattle.c65_gendirect.specs.Through.{byte_through_code, word_through_code}
use Rattle.c65_genexpr.specs.declared.storing.Storing.{Storing}
use Rattle.c65_genexpr.specs.declared.storing.Storing.TheVariants.{Left, RightByte, RightWord, Stacked}
use Rattle.c65_genexpr.specs.declared.wanted.Wanted.TheVariants.{Value as wanted_value}
use Rattle.c65_genexpr.specs.Direct.{direct_of, is_fixed, is_pure}
use Rattle.c65_genexpr.specs.Operating.{is_light, word_in}
use Rattle.c65_genexpr.specs.Storing.{storing_of, storing_by, by_value, by_pointer, bytes_stored, unless_changed, pointer_of, held_if, held_at, or_held, assigned_by, base_for, below_value}
use Rattle.c65_genexpr.specs.Places.{place_of}
use Rattle.c65_genexpr.specs.Types.{access_of}
use Rattle.c65_genexpr.specs.Uses.{uses}
use Rattle.c65_genexpr.specs.Code.{expr_code, base_code}
use Rattle.c65_agree_store.specs.Stands.{Spot, At, Banked, Placing, Banks, IsAt, beyond}
use Rattle.c65_agree_state.specs.World.{World, unit_in, Active, lines_of, place_in, HasTurns}
use Rattle.c65_agree_state.specs.Follows.{Follows}
use Rattle.c65_agree_state.specs.Exprs.{Ready, Valued, ResultIs, Does, shape_in, width_in}
use Rattle.c65_agree_state.proofs.Followed.{follows_weaken}
use Rattle.c65_agree_state.proofs.Nodes.{has_front, has_back, ready_stays}
use Rattle.c65_agree_state.proofs.Parts.{kept_goes_on}
use Rattle.c65_agree_put.specs.Puts.{with_put}
use Rattle.c65_agree_put.specs.Laws.{IsScalar}
use Rattle.c65_agree_assign.specs.Places.{bytes_in, extent_in, kind_in}
use Rattle.c65_agree_frame.specs.Leads.{Leads}
use Rattle.c65_agree_direct.specs.Operands.{byte_in, MayRead}
use Rattle.c65_agree_operate.specs.Manners.{usual, DoesIn}
use Rattle.c65_agree_structures.specs.Bases.{IsToldBy}
use Rattle.c65_agree_access.specs.Sums.{IsClear}
use Rattle.c65_agree_access.proofs.Wholes.{places_are_whole}
use Rattle.c65_agree_access.proofs.HeldEnds.{IsStoredThere}
use Rattle.c65_agree_access.proofs.HeldNodes.{kind_extent}
use Rattle.c65_agree_access.proofs.LeftEnds.{has_two}
use Rattle.c65_agree_access.proofs.Nodes.{AreSides, are_sides}
use Rattle.c65_agree_access.proofs.Putting.{put_by, put_at}
use Rattle.c65_agree_assigned.specs.Laws.{IsRightForm, RightAssignmentsDo}
use Rattle.c65_agree_assigned.proofs.Points.{viewed, IsPointed, IsFar, places_are_pointed}
use Rattle.c65_agree_assigned.proofs.RightEnds.{byte_ends, word_ends}

-- ---- the assignment

module _ (g : World) (a : Active) (placed : IsPlacement g.code g.place) (pure : Bool) (f : Shape) (scalar : IsScalar f) (at left_needs right_needs pushed : ℕ) (first second : List Item → List Item) (right end : List Line) (low high : OperandByte)
    (ends_lead : (c : Scene) (w : Placing) (k : Banks) (t : State) (v : Value) (b o m : ℕ) (x : Block) → Ready g a pushed right_needs c w k t → at ≤ 250 → IsAt c.store w b x (At m) → x.sealed ≡ false → IsClear high → MayRead g t low → MayRead g t high → byte_in g t low + 256 * byte_in g t high + at ≡ m + o
    → Fits f v → ResultIs Valued w (width_in f) v t → o + size_in f ≤ x.holds → Leads g a end 600 t (IsStoredThere g a f c w k t b o v x)) where
  -- the lines store where the block stands
  stores : (c : Scene) (w : Placing) (k : Banks) (t : State) → Ready g a pushed right_needs c w k t → IsClear high → MayRead g t low → MayRead g t high → (m o : ℕ) → IsToldBy g a (Far at) c w (viewed g t low high) (values.Place m o) → (v : Value) → ResultIs Valued w (width_in f) v t → Fits f v
      → (x : Block) (q : Spot) → IsAt c.store w m x q → x.sealed ≡ false → o + size_in f ≤ x.holds → Leads g a end 600 t (IsStoredThere g a f c w k t m o v x)
  stores c w k t ready clear may may2 m o told v result fit x q is unsealed inside = by_spot q is (told.0.1 x q is).1
    where
      by_spot : (z : Spot) → IsAt c.store w m x z → At (ax_of (viewed g t low high) + at) ≡ beyond z o → Leads g a end 600 t (IsStoredThere g a f c w k t m o v x)
      by_spot (Banked d i) is e = absurd (let no : At (ax_of (viewed g t low high) + at) ≡ Banked d (i + o) = e in cc)
      by_spot (At l) is e = let there : ax_of (viewed g t low high) + at ≡ l + o = cc in ends_lead c w k t v m o l x ready told.1 is unsealed clear may may2 there fit result inside

  right_does : IsPointed g a pure pushed first (Far at) low high → DoesIn g a (record usual { pure = pure }) Valued f second right_needs pushed right → Does g a Valued f (λ k. first (second (Put f ∷ k))) (max left_needs (1 + right_needs)) pushed (right ++ end)
  right_does points behind n weight p k vs c w b s seen has ready turns rest =
      let lines = lines_of g a in
      let from : ℕ = p + length right in
      let ends : from + length end ≡ p + length (right ++ end) = omega (arith, length-append right end) in
      let ready0 : Ready g a pushed right_needs c w b s = record { joins = ready.joins; sp = ready.sp; room = omega (arith, ready.room); none_pushed = ready.none_pushed } in
      points right_needs n weight p (second (Put f ∷ k)) vs c w b s seen ready0 turns (λ j y lt later.
      follows_weaken g j weight (weight + 4000) (Running (second (Put f ∷ k)) (y ∷ vs) c) (place_in g a p) s seen (omega arith)
      (behind j weight p (Put f ∷ k) (y ∷ vs) c w b s seen (has_front lines p right end has) ready0 turns (λ i v c3 w3 b3 s3 seen3 lt3 done3 left3 turned3.
      let ready3 : Ready g a pushed right_needs c3 w3 b3 s3 = ready_stays g a pushed right_needs right_needs c c3 w w3 b b3 s s3 (omega arith) ready0 done3.kept in
      let now = later right_needs c3 w3 b3 s3 done3.kept left3.scene ready3 in
      put_at g a pushed right_needs f c3 w3 b3 s3 i (weight + 2600 + 0) from k vs seen3 ready3 turned3 v y (λ m o is.
      let told : IsToldBy g a (Far at) c3 w3 (viewed g s3 low high) (values.Place m o) = subst (IsToldBy g a (Far at) c3 w3 (viewed g s3 low high)) is now.3 in
      put_by g a pushed right_needs f c3 w3 b3 s3 m o i (weight + 2600 + 0) from k vs seen3 end (has_back lines p right end has) ready3 scalar turned3 v done3.fits (stores c3 w3 b3 s3 ready3 now.0 now.1 now.2 m o told v done3.result) (λ l x u after less put turned4.
      let c4 : Scene = with_put c3 m x o (bytes_in (extent_in f)) (new_cells f v x.cells o) in
      follows_weaken g l (weight + 2600) (weight + 2600 + 0 + 3400) (Running k (v ∷ vs) c4) (place_in g a (from + length end)) u after (omega arith)
      (subst (λ z. Follows g l (weight + 2600) (Running k (v ∷ vs) c4) (place_in g a z) u after) (sym ends)
      (rest l v c4 w3 b3 u after (omega (arith, lt, lt3, less)) (record { kept = kept_goes_on g a c c3 c4 w w3 w3 b b3 b3 s s3 u done3.kept put.0; result = put.1; fits = done3.fits }) (subst (λ z. HasTurns g c3.turns (place_in g a z) after) ends turned4))))))))

-- ---- the form

-- such a form is of a byte or a word that goes anywhere, behind a pointer that is read
record IsRightThere (at : ℕ) (low high : OperandByte) (how : Storing) (place : Place) (extent : Extent) (x : Option Direct) : Type 0 where
  direct : Direct
  is : x ≡ Some direct
  pair : word_in direct ≡ Some (low, high)
  place_is : place ≡ Far at
  form : ((how ≡ RightByte at low high) × (extent ≡ One)) ⊎ ((how ≡ RightWord at low high) × (extent ≡ Two))

module _ (off at : ℕ) (low high : OperandByte) where
  no_left : (s : Stored) → IsRightForm (Left off s) at low high → ⊥
  no_left s (inl e) = cc
  no_left s (inr e) = cc

  no_stacked : IsRightForm Stacked at low high → ⊥
  no_stacked (inl e) = cc
  no_stacked (inr e) = cc

  lit_no_right : (light : Bool) (extent : Extent) → IsRightForm (if light then held_at off extent else Stacked) at low high → ⊥
  lit_no_right true One (inl e) = cc
  lit_no_right true One (inr e) = cc
  lit_no_right true Two (inl e) = cc
  lit_no_right true Two (inr e) = cc
  lit_no_right true Three h = no_stacked h
  lit_no_right true Four h = no_stacked h
  lit_no_right false extent h = no_stacked h

  held_no_right : (light : Bool) (kind : IntType) → IsRightForm (held_if light (Far off) (accesses.Whole kind)) at low high → ⊥
  held_no_right true kind h = lit_no_right true (extent_of kind) h
  held_no_right false kind h = no_stacked h

  abbrev Found : Storing → Extent → OperandByte × OperandByte → Type 0
  Found how extent w = (off ≡ at) × (w ≡ (low, high)) × (((how ≡ RightByte at low high) × (extent ≡ One)) ⊎ ((how ≡ RightWord at low high) × (extent ≡ Two)))

  one_found : (l h : OperandByte) → IsRightForm (RightByte off l h) at low high → Found (RightByte off l h) One (l, h)
  one_found l h (inl e) = let first : off ≡ at = cc in let second : l ≡ low = cc in let third : h ≡ high = cc in (first, ap (λ z. (z, h)) second ∙ ap (λ z. (low, z)) third, inl (e, refl))
  one_found l h (inr e) = absurd cc

  two_found : (l h : OperandByte) → IsRightForm (RightWord off l h) at low high → Found (RightWord off l h) Two (l, h)
  two_found l h (inr e) = let first : off ≡ at = cc in let second : l ≡ low = cc in let third : h ≡ high = cc in (first, ap (λ z. (z, h)) second ∙ ap (λ z. (low, z)) third, inr (e, refl))
  two_found l h (inl e) = absurd cc

  abbrev Some_found : Storing → Extent → Option (OperandByte × OperandByte) → Type 0
  Some_found how extent z = (w : OperandByte × OperandByte) × (z ≡ Some w) × Found how extent w

  by_pointer_found : (extent : Extent) (z : Option (OperandByte × OperandByte)) (other : Storing) → (IsRightForm other at low high → ⊥) → IsRightForm (or_held (by_pointer off extent z) other) at low high → Some_found (or_held (by_pointer off extent z) other) extent z
  by_pointer_found extent None other never h = absurd (never h)
  by_pointer_found One (Some (l, u)) other never h = ((l, u), refl, one_found l u h)
  by_pointer_found Two (Some (l, u)) other never h = ((l, u), refl, two_found l u h)
  by_pointer_found Three (Some w) other never h = absurd (never h)
  by_pointer_found Four (Some w) other never h = absurd (never h)

  by_value_found : (s : Option Stored) (extent : Extent) (z : Option (OperandByte × OperandByte)) (other : Storing) → (IsRightForm other at low high → ⊥) → IsRightForm (or_held (by_value off s (by_pointer off extent z)) other) at low high → Some_found (or_held (by_value off s (by_pointer off extent z)) other) extent z
  by_value_found None extent z other never h = by_pointer_found extent z other never h
  by_value_found (Some s) extent z other never h = absurd (no_left s h)

  abbrev far_how : IntType → Option Direct → Option Direct → Bool → Storing
  far_how kind x y light = or_held (storing_by (Far off) (accesses.Whole kind) x y) (held_if light (Far off) (accesses.Whole kind))

  far_right : (kind : IntType) (x y : Option Direct) (light : Bool) → IsRightForm (far_how kind x y light) at low high → IsRightThere at low high (far_how kind x y light) (Far off) (extent_of kind) x
  far_right kind None y light h =
      let found = by_value_found (option_and_then (bytes_stored (extent_of kind)) y) (extent_of kind) None (held_if light (Far off) (accesses.Whole kind)) (held_no_right light kind) h in
      absurd (let no : None ≡ Some found.0 = found.1 in cc)
  far_right kind (Some d) y light h =
      let found = by_value_found (option_and_then (bytes_stored (extent_of kind)) y) (extent_of kind) (word_in d) (held_if light (Far off) (accesses.Whole kind)) (held_no_right light kind) h in
      record { direct = d; is = refl; pair = found.1 ∙ ap Some found.2.1; place_is = ap Far found.2.0; form = found.2.2 }

module _ (at : ℕ) (low high : OperandByte) where
  abbrev how_is : Place → IntType → Option Direct → Option Direct → Bool → Storing
  how_is place kind x y light = or_held (storing_by place (accesses.Whole kind) x y) (held_if light place (accesses.Whole kind))

  right_form_is : (place : Place) (kind : IntType) (x y : Option Direct) (light : Bool) → IsRightForm (how_is place kind x y light) at low high → IsRightThere at low high (how_is place kind x y light) place (extent_of kind) x
  right_form_is (Far off) kind x y light h = far_right off at low high kind x y light h
  right_form_is (Bank i) kind x y true h = absurd (no_stacked 0 at low high h)
  right_form_is (Bank i) kind x y false h = absurd (no_stacked 0 at low high h)
  right_form_is (Near i) kind x y true h = absurd (no_stacked 0 at low high h)
  right_form_is (Near i) kind x y false h = absurd (no_stacked 0 at low high h)
  right_form_is (Data s i) kind x y true h = absurd (no_stacked 0 at low high h)
  right_form_is (Data s i) kind x y false h = absurd (no_stacked 0 at low high h)

-- the pointer is one that nothing changes, or the value changes nothing
unchanged : (pure : Bool) (p : Option Direct) (d : Direct) → unless_changed pure p ≡ Some d → (p ≡ Some d) × ((is_fixed (Some d) ≡ true) ⊎ (pure ≡ true))
unchanged pure p d e = go (is_fixed p) refl pure refl e
  where
    go : (fixed : Bool) → is_fixed p ≡ fixed → (q : Bool) → pure ≡ q → (if fixed || q then p else None) ≡ Some d → (p ≡ Some d) × ((is_fixed (Some d) ≡ true) ⊎ (pure ≡ true))
    go true f q h e = (e, inl (ap is_fixed (sym e) ∙ f))
    go false f true h e = (e, inr h)
    go false f false h e = absurd cc

-- ---- the whole

module _ (g : World) (a : Active) (pushed fresh at : ℕ) (low high : OperandByte) (t : QTy) (x y : Typed) (placed : IsPlacement g.code g.place) (sides : AreSides g a t x y) (pure : Bool)
    (there : IsRightThere at low high (storing_of a.frame pushed x y) (place_of a.frame pushed x) (extent_in (shape_in g a x)) (unless_changed pure (pointer_of a.frame pushed x))) (points : IsPointed g a pure pushed (plan (unit_in g) x) (Far at) low high)
    (does : DoesIn g a (record usual { pure = pure }) Valued (shape_in g a x) (plan (unit_in g) y) (need y) pushed (expr_code a.frame pushed (fresh + uses None x) wanted_value y)) where
  abbrev f : Shape
  f = shape_in g a x

  abbrev right : List Line
  right = expr_code a.frame pushed (fresh + uses None x) wanted_value y

  abbrev work : Shape → List Item → List Item
  work z k = plan (unit_in g) x (plan (unit_in g) y (Put z ∷ k))

  abbrev AllDoes : List Line → Type 0
  AllDoes ls = Does g a Valued (shape_in g a (node t (assign x y))) (plan (unit_in g) (node t (assign x y))) (max (need x) (1 + need y)) pushed ls

  as_typed : (ls : List Line) → Does g a Valued f (work f) (max (need x) (1 + need y)) pushed ls → AllDoes ls
  as_typed ls h =
      subst (λ z. Does g a Valued z (work (place_shape (unit_in g).types x)) (max (need x) (1 + need y)) pushed ls) (sym sides.shape)
      (subst (λ z. Does g a Valued f (work z) (max (need x) (1 + need y)) pushed ls) (sym sides.whole.shape) h)

  abbrev lines_by : Storing → Access → List Line
  lines_by z access = assigned_by z (place_of a.frame pushed x) access (base_code a.frame pushed fresh (base_for z) x) (expr_code a.frame (below_value z pushed (place_of a.frame pushed x)) (fresh + uses None x) wanted_value y)

  byte_lines : storing_of a.frame pushed x y ≡ RightByte at low high → expr_code a.frame pushed fresh wanted_value (node t (assign x y)) ≡ right ++ (byte_through_code at low high ++ narrow_code (kind_in f))
  byte_lines how = ap (λ (z : Storing). lines_by z (access_of (types_of a.frame.parts.types) x)) how ∙ ap (λ (z : Access). right ++ (byte_through_code at low high ++ narrow_code (access_type z))) sides.whole.access

  word_lines : storing_of a.frame pushed x y ≡ RightWord at low high → expr_code a.frame pushed fresh wanted_value (node t (assign x y)) ≡ right ++ word_through_code at low high
  word_lines how = ap (λ (z : Storing). lines_by z (access_of (types_of a.frame.parts.types) x)) how

  by_byte : storing_of a.frame pushed x y ≡ RightByte at low high → extent_in f ≡ One → AllDoes (expr_code a.frame pushed fresh wanted_value (node t (assign x y)))
  by_byte how one =
      let end : List Line = byte_through_code at low high ++ narrow_code (kind_in f) in
      subst AllDoes (sym (byte_lines how)) (as_typed (right ++ end)
      (right_does g a placed pure f sides.whole.scalar at (need x) (need y) pushed (plan (unit_in g) x) (plan (unit_in g) y) right end low high
      (λ c w k s v b o m z ready small is unsealed clear may may2 spot fits result inside. byte_ends g a pushed (need y) c w k s placed ready at small v b o m z is unsealed low high clear may may2 spot f sides.whole.scalar one fits result inside) points does))

  by_word : storing_of a.frame pushed x y ≡ RightWord at low high → extent_in f ≡ Two → AllDoes (expr_code a.frame pushed fresh wanted_value (node t (assign x y)))
  by_word how two =
      let end : List Line = word_through_code at low high in
      subst AllDoes (sym (word_lines how)) (as_typed (right ++ end)
      (right_does g a placed pure f sides.whole.scalar at (need x) (need y) pushed (plan (unit_in g) x) (plan (unit_in g) y) right end low high
      (λ c w k s v b o m z ready small is unsealed clear may may2 spot fits result inside. word_ends g a pushed (need y) c w k s placed ready at small v b o m z is unsealed low high clear may may2 spot f sides.whole.scalar two fits result inside) points does))

  by_right : AllDoes (expr_code a.frame pushed fresh wanted_value (node t (assign x y)))
  by_right = go there.form
    where
      go : ((storing_of a.frame pushed x y ≡ RightByte at low high) × (extent_in f ≡ One)) ⊎ ((storing_of a.frame pushed x y ≡ RightWord at low high) × (extent_in f ≡ Two)) → AllDoes (expr_code a.frame pushed fresh wanted_value (node t (assign x y)))
      go (inl h) = by_byte h.0 h.1
      go (inr h) = by_word h.0 h.1

pub right_assignments_do : RightAssignmentsDo
right_assignments_do g a pushed at low high t x y placed frame typed plain form does fresh =
    let sides : AreSides g a t x y = are_sides g a t x y typed (places_are_whole g a x frame.parts typed.2 plain) in
    let place : Place = place_of a.frame pushed x in
    let pointer : Option Direct = unless_changed (is_pure y) (pointer_of a.frame pushed x) in
    let how_by : Access → Storing = λ z. or_held (storing_by place z pointer (direct_of a.frame pushed y)) (held_if (is_light a.frame pushed y) place z) in
    let kind : IntType = kind_in (shape_in g a x) in
    let same : storing_of a.frame pushed x y ≡ how_by (accesses.Whole kind) = ap how_by sides.whole.access in
    let found : IsRightThere at low high (how_by (accesses.Whole kind)) place (extent_of kind) pointer = right_form_is at low high place kind pointer (direct_of a.frame pushed y) (is_light a.frame pushed y) (subst (λ z. IsRightForm z at low high) same form) in
    let there : IsRightThere at low high (storing_of a.frame pushed x y) place (extent_in (shape_in g a x)) pointer =
    subst (λ z. IsRightThere at low high z place (extent_in (shape_in g a x)) pointer) (sym same) (subst (λ z. IsRightThere at low high (how_by (accesses.Whole kind)) place z pointer) (kind_extent (shape_in g a x)) found) in
    let kept = unchanged (is_pure y) (pointer_of a.frame pushed x) there.direct there.is in
    let points : IsPointed g a (is_pure y) pushed (plan (unit_in g) x) (Far at) low high =
    subst (λ z. IsPointed g a (is_pure y) pushed (plan (unit_in g) x) z low high) there.place_is
    (places_are_pointed g a (is_pure y) pushed placed frame there.direct low high (has_two there.direct low high there.pair) kept.1 x typed.0 kept.0 (subst IsFar (sym there.place_is) tt)) in
    let right = subst (λ z. DoesIn g a (record usual { pure = is_pure y }) Valued z (plan (unit_in g) y) (need y) pushed (expr_code a.frame pushed (fresh + uses None x) wanted_value y)) sides.right (does (fresh + uses None x)) in
    by_right g a pushed fresh at low high t x y placed sides (is_pure y) there points right
