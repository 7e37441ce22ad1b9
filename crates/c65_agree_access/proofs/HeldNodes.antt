-- The node of an assignment whose address waits in ptr2.
use Rattle.std.proofs.Common.{◌≡◌, ℕ, ◌+◌, ◌*◌, ◌<◌, ◌≤◌, ◌⊎◌, inl, inr, max, List, [], ◌∷◌, ◌++◌, length, Option, Some, None, Bool, true, false, refl, sym, ap, ◌∙◌, subst, arith, length-append}
use Rattle.std.specs.Prelude.{if◌then◌else◌, option_and_then}
use Rattle.c65_ints.specs.declared.types.IntType.{IntType}
use Rattle.c65_ctype.specs.Trees.{QTy}
use Rattle.c65_ctype.specs.Views.{types_of}
use Rattle.c65_csem.specs.Trees.{Typed, node, assign}
use Rattle.c65_csem_need.specs.Needs.{need}
use Rattle.c65_meaning.specs.Store as values
use Rattle.c65_meaning.specs.Store.{Block, Value, Shape, Number, Pointer, Field, Area, size_in, new_cells}
use Rattle.c65_meaning.specs.Fits.{Fits}
use Rattle.c65_meaning.specs.Items.{Item, Put, plan}
use Rattle.c65_meaning.specs.Shapes.{place_shape}
use Rattle.c65_meaning.specs.State.{Scene, Running}
use Rattle.c65_code.specs.declared.line.Line.{Line}
use Rattle.c65_code.specs.LineState.{State, ax_of, IsBytes}
use Rattle.c65_code.specs.Placement.{IsPlacement}
use Rattle.c65_code.specs.Comes.{Seen}
use Rattle.c65_genwide.specs.Wide.{narrow_code}
use Rattle.c65_genload.specs.declared.places.Access.{Access}
use Rattle.c65_genload.specs.declared.places.Access.TheVariants as accesses
use Rattle.c65_genload.specs.declared.places.Extent.{Extent}
use Rattle.c65_genload.specs.declared.places.Extent.TheVariants.{One, Two, Three, Four}
use Rattle.c65_genload.specs.declared.places.Place.{Place}
use Rattle.c65_genload.specs.declared.places.Place.TheVariants.{Bank, Near, Data, Far}
use Rattle.c65_genload.specs.Places.{type_in as access_type, extent_of}
use Rattle.c65_gendirect.specs.declared.bytes.OperandByte.{OperandByte}
use Rattle.c65_gendirect.specs.declared.direct.Direct.{Direct}
use Rattle.c65_gendirect.specs.declared.through.Stored.{Stored}
use Rattle.c65_genexpr.specs.declared.destination.Destination.TheVariants.{Registers}
use Rattle.c65_genexpr.specs.declared.storing.Storing.{Storing}
use Rattle.c65_genexpr.specs.declared.storing.Storing.TheVariants.{Left, RightByte, RightWord, HeldByte, HeldWord, Stacked}
use Rattle.c65_genexpr.specs.declared.wanted.Wanted.TheVariants.{Value as wanted_value}
use Rattle.c65_genexpr.specs.Held.{keep_code, byte_behind_code, word_behind_code}
use Rattle.c65_genexpr.specs.Direct.{direct_of, is_pure}
use Rattle.c65_genexpr.specs.Operating.{is_light, word_in}
use Rattle.c65_genexpr.specs.Storing.{storing_of, storing_by, by_value, by_pointer, through, bytes_stored, unless_changed, pointer_of, held_if, held_at, or_held, assigned_by, base_for, below_value}
use Rattle.c65_genexpr.specs.Places.{place_of}
use Rattle.c65_genexpr.specs.Types.{access_of}
use Rattle.c65_genexpr.specs.Uses.{uses}
use Rattle.c65_genexpr.specs.Code.{expr_code, base_code}
use Rattle.c65_agree_store.specs.Stands.{Spot, At, Banked, Placing, Banks, IsAt, beyond}
use Rattle.c65_agree_state.specs.World.{World, unit_in, Active, lines_of, place_in, HasAt, HasTurns}
use Rattle.c65_agree_state.specs.Follows.{Follows}
use Rattle.c65_agree_state.specs.Exprs.{Ready, Kept, Valued, MayFit, ResultIs, Rest, Does, shape_in, width_in}
use Rattle.c65_agree_state.proofs.Followed.{follows_weaken}
use Rattle.c65_agree_state.proofs.Nodes.{has_front, has_back, ready_stays}
use Rattle.c65_agree_state.proofs.Parts.{kept_goes_on}
use Rattle.c65_agree_put.specs.Puts.{with_put}
use Rattle.c65_agree_put.specs.Laws.{IsScalar}
use Rattle.c65_agree_assign.specs.Places.{bytes_in, extent_in, kind_in}
use Rattle.c65_agree_frame.specs.Leads.{Leads}
use Rattle.c65_agree_operate.specs.Manners.{Manner, usual, IsHeld, DoesIn}
use Rattle.c65_agree_operate_bytes.proofs.Held.{waiting as kept_word, keep_leads, kept_waiting, ready_waiting}
use Rattle.c65_agree_structures.specs.Bases.{IsToldBy, TellsPlace, BaseDoes}
use Rattle.c65_agree_access.proofs.Wholes.{places_are_whole}
use Rattle.c65_agree_access.specs.StoreLaws.{IsHeldForm, HeldAssignmentsDo}
use Rattle.c65_agree_access.proofs.HeldEnds.{IsStoredThere, byte_ends, word_ends}
use Rattle.c65_agree_access.proofs.Nodes.{AreSides, are_sides}
use Rattle.c65_agree_access.proofs.Putting.{put_by, put_at}
use Rattle.c65_agree_access.proofs.Stacked.{Lived, lived}

-- ---- the assignment

module _ (g : World) (a : Active) (placed : IsPlacement g.code g.place) (f : Shape) (scalar : IsScalar f) (at left_needs right_needs pushed : ℕ) (first second : List Item → List Item) (base right end : List Line)
    (ends_lead : (c : Scene) (w : Placing) (k : Banks) (t : State) (v : Value) (b o m : ℕ) (x : Block) → Ready g a pushed right_needs c w k t → at ≤ 250 → IsAt c.store w b x (At m) → x.sealed ≡ false → t.zp 10 + 256 * t.zp 11 + at ≡ m + o → Fits f v → ResultIs Valued w (width_in f) v t → o + size_in f ≤ x.holds → Leads g a end 600 t (IsStoredThere g a f c w k t b o v x)) where
  abbrev all : List Line
  all = base ++ (keep_code ++ (right ++ end))

  module _ (n weight p : ℕ) (k : List Item) (vs : List Value) (c : Scene) (w : Placing) (b : Banks) (s : State) (rest : Rest g a Valued f n weight k vs (p + length all) c w b s)
      (c1 : Scene) (w1 : Placing) (b1 : Banks) (s1 : State) (kept1 : Kept g a c w b s c1 w1 b1 s1) (ready1 : Ready g a pushed (1 + right_needs) c1 w1 b1 s1) (bytes : IsBytes (kept_word s1))
      (c3 : Scene) (w3 : Placing) (b3 : Banks) (s3 : State) (v : Value) (kept3 : Kept g a c1 w1 b1 (kept_word s1) c3 w3 b3 s3) (result3 : ResultIs Valued w3 (width_in f) v s3) (fits3 : MayFit Valued f v) (held3 : IsHeld (kept_word s1) s3) where
    abbrev from : ℕ
    from = p + length base + length keep_code + length right

    ends : from + length end ≡ p + length all
    ends = omega (arith, length-append base (keep_code ++ (right ++ end)), length-append keep_code (right ++ end), length-append right end)

    whole : Kept g a c w b s c3 w3 b3 s3
    whole = kept_goes_on g a c c1 c3 w w1 w3 b b1 b3 s s1 s3 kept1 (kept_goes_on g a c1 c1 c3 w1 w1 w3 b1 b1 b3 s1 (kept_word s1) s3 (kept_waiting g a pushed (1 + right_needs) c1 w1 b1 s1 placed ready1 bytes) kept3)

    ready3 : Ready g a pushed right_needs c3 w3 b3 s3
    ready3 = ready_stays g a pushed (1 + right_needs) right_needs c1 c3 w1 w3 b1 b3 (kept_word s1) s3 (omega arith) (ready_waiting g a pushed (1 + right_needs) c1 w1 b1 s1 placed ready1 bytes) kept3

    pointer : s3.zp 10 + 256 * s3.zp 11 ≡ ax_of s1
    pointer = let low : s3.zp 10 ≡ s1.regs.a = held3.low in let high : s3.zp 11 ≡ s1.regs.x = held3.high in omega (arith, low, high)

    -- the lines store where the block stands
    stores : (m o : ℕ) → IsToldBy g a (Far at) c1 w1 s1 (values.Place m o) → Fits f v → (x : Block) (q : Spot) → IsAt c3.store w3 m x q → x.sealed ≡ false → o + size_in f ≤ x.holds → Leads g a end 600 s3 (IsStoredThere g a f c3 w3 b3 s3 m o v x)
    stores m o told fit x q is unsealed inside =
        let before : Lived g a c1 w1 m q = lived g a c1 c3 w1 w3 b1 b3 s1 (kept_word s1) s3 pushed (1 + right_needs) ready1 kept3 m told.0.0.0 told.0.0.1 x q is in
        by_spot q is (told.0.1 before.block q before.at).1
      where
        by_spot : (z : Spot) → IsAt c3.store w3 m x z → At (ax_of s1 + at) ≡ beyond z o → Leads g a end 600 s3 (IsStoredThere g a f c3 w3 b3 s3 m o v x)
        by_spot (Banked d i) is e = absurd (let no : At (ax_of s1 + at) ≡ Banked d (i + o) = e in cc)
        by_spot (At l) is e = let there : ax_of s1 + at ≡ l + o = cc in ends_lead c3 w3 b3 s3 v m o l x ready3 told.1 is unsealed (omega (arith, pointer, there)) fit result3 inside

    stored_at : (m o : ℕ) → IsToldBy g a (Far at) c1 w1 s1 (values.Place m o) → (j : ℕ) (seen : Seen) → j ≤ n → HasAt (lines_of g a) from end → HasTurns g c3.turns (place_in g a from) seen → Follows g j (weight + 2598) (Running (Put f ∷ k) (v ∷ values.Place m o ∷ vs) c3) (place_in g a from) s3 seen
    stored_at m o told j seen le has turned =
        put_by g a pushed right_needs f c3 w3 b3 s3 m o j (weight + 2598) from k vs seen end has ready3 scalar turned v fits3 (stores m o told) (λ i x u after lt put turned2.
        let c4 : Scene = with_put c3 m x o (bytes_in (extent_in f)) (new_cells f v x.cells o) in
        follows_weaken g i (weight + 2600) (weight + 2598 + 3400) (Running k (v ∷ vs) c4) (place_in g a (from + length end)) u after (omega arith)
        (subst (λ z. Follows g i (weight + 2600) (Running k (v ∷ vs) c4) (place_in g a z) u after) (sym ends)
        (rest i v c4 w3 b3 u after (omega (arith, lt, le)) (record { kept = kept_goes_on g a c c3 c4 w w3 w3 b b3 b3 s s3 u whole put.0; result = put.1; fits = fits3 }) (subst (λ z. HasTurns g c3.turns (place_in g a z) after) ends turned2))))

    stored : (y : Value) → IsToldBy g a (Far at) c1 w1 s1 y → (j : ℕ) (seen : Seen) → j ≤ n → HasAt (lines_of g a) from end → HasTurns g c3.turns (place_in g a from) seen → Follows g j (weight + 2598) (Running (Put f ∷ k) (v ∷ y ∷ vs) c3) (place_in g a from) s3 seen
    stored y told j seen le has turned = put_at g a pushed right_needs f c3 w3 b3 s3 j (weight + 2598) from k vs seen ready3 turned v y (λ m o is. stored_at m o (subst (IsToldBy g a (Far at) c1 w1 s1) is told) j seen le has turned)

  pub held_does : TellsPlace g a first left_needs pushed (Far at) base → DoesIn g a (record usual { light = true }) Valued f second right_needs pushed right → Does g a Valued f (λ k. first (second (Put f ∷ k))) (max left_needs (1 + right_needs)) pushed all
  held_does tells behind n weight p k vs c w b s seen has ready turns rest =
      let lines = lines_of g a in
      let has1 : HasAt lines (p + length base) (keep_code ++ (right ++ end)) = has_back lines p base (keep_code ++ (right ++ end)) has in
      let has2 : HasAt lines (p + length base + length keep_code) (right ++ end) = has_back lines (p + length base) keep_code (right ++ end) has1 in
      let ready0 : Ready g a pushed left_needs c w b s = record { joins = ready.joins; sp = ready.sp; room = omega (arith, ready.room); none_pushed = ready.none_pushed } in
      tells n weight p (second (Put f ∷ k)) vs c w b s seen (has_front lines p base (keep_code ++ (right ++ end)) has) ready0 turns (λ j y c1 w1 b1 s1 seen1 lt kept1 told turned1.
      let ready1 : Ready g a pushed (1 + right_needs) c1 w1 b1 s1 = ready_stays g a pushed (max left_needs (1 + right_needs)) (1 + right_needs) c c1 w w1 b b1 s s1 (omega arith) ready kept1 in
      follows_weaken g j (2 + (weight + 2598)) (weight + 2600) (Running (second (Put f ∷ k)) (y ∷ vs) c1) (place_in g a (p + length base)) s1 seen1 (omega arith)
      (keep_leads g a pushed (1 + right_needs) c1 w1 b1 s1 placed ready1 j (weight + 2598) (p + length base) c1.turns (Running (second (Put f ∷ k)) (y ∷ vs) c1) seen1 (has_front lines (p + length base) keep_code (right ++ end) has1) turned1 (λ s2 seen2 kept2 turned2.
      let bytes : IsBytes (kept_word s1) = subst IsBytes kept2.0 kept2.1 in
      let waits : Ready g a pushed (1 + right_needs) c1 w1 b1 (kept_word s1) = ready_waiting g a pushed (1 + right_needs) c1 w1 b1 s1 placed ready1 bytes in
      let fewer : Ready g a pushed right_needs c1 w1 b1 (kept_word s1) = record { joins = waits.joins; sp = waits.sp; room = omega (arith, waits.room); none_pushed = waits.none_pushed } in
      subst (λ z. Follows g j (weight + 2598) (Running (second (Put f ∷ k)) (y ∷ vs) c1) (place_in g a (p + length base + length keep_code)) z seen2) (sym kept2.0)
      (behind j (weight + 2598) (p + length base + length keep_code) (Put f ∷ k) (y ∷ vs) c1 w1 b1 (kept_word s1) seen2 (has_front lines (p + length base + length keep_code) right end has2) fewer turned2 (λ i v c3 w3 b3 s3 seen3 lt3 done3 left3 turned3.
      follows_weaken g i (weight + 2598) (weight + 2598 + 2600 + 0) (Running (Put f ∷ k) (v ∷ y ∷ vs) c3) (place_in g a (p + length base + length keep_code + length right)) s3 seen3 (omega arith)
      (stored n weight p k vs c w b s rest c1 w1 b1 s1 kept1 ready1 bytes c3 w3 b3 s3 v done3.kept done3.result done3.fits left3.held y told i seen3 (omega (arith, lt, lt3)) (has_back lines (p + length base + length keep_code) right end has2) turned3))))))

-- ---- the form

-- such a form is of a byte or a word that lies anywhere
pub record IsHeldThere (at : ℕ) (how : Storing) (place : Place) (extent : Extent) : Type 0 where
  pub place_is : place ≡ Far at
  pub form : ((how ≡ HeldByte at) × (extent ≡ One)) ⊎ ((how ≡ HeldWord at) × (extent ≡ Two))

-- no other form is
no_left : (off at : ℕ) (s : Stored) → IsHeldForm (Left off s) at → ⊥
no_left off at s (inl e) = cc
no_left off at s (inr e) = cc

pub no_stacked : (at : ℕ) → IsHeldForm Stacked at → ⊥
no_stacked at (inl e) = cc
no_stacked at (inr e) = cc

no_byte : (off at : ℕ) (l h : OperandByte) → IsHeldForm (RightByte off l h) at → ⊥
no_byte off at l h (inl e) = cc
no_byte off at l h (inr e) = cc

no_word : (off at : ℕ) (l h : OperandByte) → IsHeldForm (RightWord off l h) at → ⊥
no_word off at l h (inl e) = cc
no_word off at l h (inr e) = cc

held_byte : (off at : ℕ) → IsHeldForm (HeldByte off) at → IsHeldThere at (HeldByte off) (Far off) One
held_byte off at (inl e) = let same : off ≡ at = cc in rw same (record { place_is = refl; form = inl (refl, refl) })
held_byte off at (inr e) = absurd cc

held_word : (off at : ℕ) → IsHeldForm (HeldWord off) at → IsHeldThere at (HeldWord off) (Far off) Two
held_word off at (inl e) = absurd cc
held_word off at (inr e) = let same : off ≡ at = cc in rw same (record { place_is = refl; form = inr (refl, refl) })

module _ (off at : ℕ) where
  lit_form : (light : Bool) (extent : Extent) → IsHeldForm (if light then held_at off extent else Stacked) at → IsHeldThere at (if light then held_at off extent else Stacked) (Far off) extent
  lit_form true One h = held_byte off at h
  lit_form true Two h = held_word off at h
  lit_form true Three h = absurd (no_stacked at h)
  lit_form true Four h = absurd (no_stacked at h)
  lit_form false extent h = absurd (no_stacked at h)

  lit_is : (light : Bool) (kind : IntType) → held_if light (Far off) (accesses.Whole kind) ≡ (if light then held_at off (extent_of kind) else Stacked)
  lit_is true kind = refl
  lit_is false kind = refl

  by_pointer_form : (extent : Extent) (z : Option (OperandByte × OperandByte)) (other : Storing) → IsHeldForm (or_held (by_pointer off extent z) other) at → or_held (by_pointer off extent z) other ≡ other
  by_pointer_form extent None other h = refl
  by_pointer_form One (Some w) other h = absurd (no_byte off at w.0 w.1 h)
  by_pointer_form Two (Some w) other h = absurd (no_word off at w.0 w.1 h)
  by_pointer_form Three (Some w) other h = refl
  by_pointer_form Four (Some w) other h = refl

  pub by_value_form : (s : Option Stored) (extent : Extent) (z : Option (OperandByte × OperandByte)) (other : Storing) → IsHeldForm (or_held (by_value off s (by_pointer off extent z)) other) at → or_held (by_value off s (by_pointer off extent z)) other ≡ other
  by_value_form None extent z other h = by_pointer_form extent z other h
  by_value_form (Some s) extent z other h = absurd (no_left off at s h)

far_form : (off at : ℕ) (kind : IntType) (x y : Option Direct) (light : Bool) → IsHeldForm (or_held (storing_by (Far off) (accesses.Whole kind) x y) (held_if light (Far off) (accesses.Whole kind))) at
    → IsHeldThere at (or_held (storing_by (Far off) (accesses.Whole kind) x y) (held_if light (Far off) (accesses.Whole kind))) (Far off) (extent_of kind)
far_form off at kind x y light h =
    let extent : Extent = extent_of kind in
    let same : or_held (storing_by (Far off) (accesses.Whole kind) x y) (held_if light (Far off) (accesses.Whole kind)) ≡ (if light then held_at off extent else Stacked) =
    by_value_form off at (option_and_then (bytes_stored extent) y) extent (option_and_then word_in x) (held_if light (Far off) (accesses.Whole kind)) h ∙ lit_is off at light kind in
    subst (λ how. IsHeldThere at how (Far off) extent) (sym same) (lit_form off at light extent (subst (λ how. IsHeldForm how at) same h))

held_form_is : (at : ℕ) (place : Place) (kind : IntType) (x y : Option Direct) (light : Bool) → IsHeldForm (or_held (storing_by place (accesses.Whole kind) x y) (held_if light place (accesses.Whole kind))) at
    → IsHeldThere at (or_held (storing_by place (accesses.Whole kind) x y) (held_if light place (accesses.Whole kind))) place (extent_of kind)
held_form_is at (Far off) kind x y light h = far_form off at kind x y light h
held_form_is at (Bank i) kind x y true h = absurd (no_stacked at h)
held_form_is at (Bank i) kind x y false h = absurd (no_stacked at h)
held_form_is at (Near i) kind x y true h = absurd (no_stacked at h)
held_form_is at (Near i) kind x y false h = absurd (no_stacked at h)
held_form_is at (Data s i) kind x y true h = absurd (no_stacked at h)
held_form_is at (Data s i) kind x y false h = absurd (no_stacked at h)

-- ---- the whole

module _ (g : World) (a : Active) (pushed fresh at : ℕ) (t : QTy) (x y : Typed) (placed : IsPlacement g.code g.place) (sides : AreSides g a t x y) (there : IsHeldThere at (storing_of a.frame pushed x y) (place_of a.frame pushed x) (extent_in (shape_in g a x))) (base : BaseDoes g a x)
    (does : DoesIn g a (record usual { light = true }) Valued (shape_in g a x) (plan (unit_in g) y) (need y) pushed (expr_code a.frame pushed (fresh + uses None x) wanted_value y)) where
  abbrev f : Shape
  f = shape_in g a x

  abbrev left : List Line
  left = base_code a.frame pushed fresh Registers x

  abbrev right : List Line
  right = expr_code a.frame pushed (fresh + uses None x) wanted_value y

  abbrev work : Shape → List Item → List Item
  work z k = plan (unit_in g) x (plan (unit_in g) y (Put z ∷ k))

  told : TellsPlace g a (plan (unit_in g) x) (need x) pushed (Far at) left
  told = subst (λ z. TellsPlace g a (plan (unit_in g) x) (need x) pushed z left) there.place_is (base pushed fresh)

  abbrev AllDoes : List Line → Type 0
  AllDoes ls = Does g a Valued (shape_in g a (node t (assign x y))) (plan (unit_in g) (node t (assign x y))) (max (need x) (1 + need y)) pushed ls

  -- lines that do the work with the shape of the place
  as_typed : (ls : List Line) → Does g a Valued f (work f) (max (need x) (1 + need y)) pushed ls → AllDoes ls
  as_typed ls h =
      subst (λ z. Does g a Valued z (work (place_shape (unit_in g).types x)) (max (need x) (1 + need y)) pushed ls) (sym sides.shape)
      (subst (λ z. Does g a Valued f (work z) (max (need x) (1 + need y)) pushed ls) (sym sides.whole.shape) h)

  byte_lines : storing_of a.frame pushed x y ≡ HeldByte at → expr_code a.frame pushed fresh wanted_value (node t (assign x y)) ≡ left ++ (keep_code ++ (right ++ (byte_behind_code at ++ narrow_code (kind_in f))))
  byte_lines how =
      ap (λ (z : Storing). assigned_by z (place_of a.frame pushed x) (access_of (types_of a.frame.parts.types) x) (base_code a.frame pushed fresh (base_for z) x) (expr_code a.frame (below_value z pushed (place_of a.frame pushed x)) (fresh + uses None x) wanted_value y)) how
      ∙ ap (λ (z : Access). left ++ (keep_code ++ (right ++ (byte_behind_code at ++ narrow_code (access_type z))))) sides.whole.access

  word_lines : storing_of a.frame pushed x y ≡ HeldWord at → expr_code a.frame pushed fresh wanted_value (node t (assign x y)) ≡ left ++ (keep_code ++ (right ++ word_behind_code at))
  word_lines how =
      ap (λ (z : Storing). assigned_by z (place_of a.frame pushed x) (access_of (types_of a.frame.parts.types) x) (base_code a.frame pushed fresh (base_for z) x) (expr_code a.frame (below_value z pushed (place_of a.frame pushed x)) (fresh + uses None x) wanted_value y)) how

  by_byte : storing_of a.frame pushed x y ≡ HeldByte at → extent_in f ≡ One → AllDoes (expr_code a.frame pushed fresh wanted_value (node t (assign x y)))
  by_byte how one =
      let end : List Line = byte_behind_code at ++ narrow_code (kind_in f) in
      subst AllDoes (sym (byte_lines how)) (as_typed (left ++ (keep_code ++ (right ++ end)))
      (held_does g a placed f sides.whole.scalar at (need x) (need y) pushed (plan (unit_in g) x) (plan (unit_in g) y) left right end
      (λ c w k s v b o m z ready small is unsealed spot fits result inside. byte_ends g a pushed (need y) c w k s placed ready at small v b o m z is unsealed spot f sides.whole.scalar one fits result inside) told does))

  by_word : storing_of a.frame pushed x y ≡ HeldWord at → extent_in f ≡ Two → AllDoes (expr_code a.frame pushed fresh wanted_value (node t (assign x y)))
  by_word how two =
      let end : List Line = word_behind_code at in
      subst AllDoes (sym (word_lines how)) (as_typed (left ++ (keep_code ++ (right ++ end)))
      (held_does g a placed f sides.whole.scalar at (need x) (need y) pushed (plan (unit_in g) x) (plan (unit_in g) y) left right end
      (λ c w k s v b o m z ready small is unsealed spot fits result inside. word_ends g a pushed (need y) c w k s placed ready at small v b o m z is unsealed spot f sides.whole.scalar two fits result inside) told does))

  pub by_held : AllDoes (expr_code a.frame pushed fresh wanted_value (node t (assign x y)))
  by_held = go there.form
    where
      go : ((storing_of a.frame pushed x y ≡ HeldByte at) × (extent_in f ≡ One)) ⊎ ((storing_of a.frame pushed x y ≡ HeldWord at) × (extent_in f ≡ Two)) → AllDoes (expr_code a.frame pushed fresh wanted_value (node t (assign x y)))
      go (inl h) = by_byte h.0 h.1
      go (inr h) = by_word h.0 h.1

-- the bytes of a number or a pointer
pub kind_extent : (f : Shape) → extent_of (kind_in f) ≡ extent_in f
kind_extent (Number t) = refl
kind_extent (Pointer n) = refl
kind_extent (Field t low width) = refl
kind_extent (Area n) = refl

pub held_assignments_do : HeldAssignmentsDo
held_assignments_do g a pushed at t x y placed parts typed plain form base does fresh =
    let sides : AreSides g a t x y = are_sides g a t x y typed (places_are_whole g a x parts typed.2 plain) in
    let place : Place = place_of a.frame pushed x in
    let how_is : Access → Storing = λ z. or_held (storing_by place z (unless_changed (is_pure y) (pointer_of a.frame pushed x)) (direct_of a.frame pushed y)) (held_if (is_light a.frame pushed y) place z) in
    let kind : IntType = kind_in (shape_in g a x) in
    let same : storing_of a.frame pushed x y ≡ how_is (accesses.Whole kind) = ap how_is sides.whole.access in
    let found : IsHeldThere at (how_is (accesses.Whole kind)) place (extent_of kind) = held_form_is at place kind (unless_changed (is_pure y) (pointer_of a.frame pushed x)) (direct_of a.frame pushed y) (is_light a.frame pushed y) (subst (λ z. IsHeldForm z at) same form) in
    let there : IsHeldThere at (storing_of a.frame pushed x y) place (extent_in (shape_in g a x)) = subst (λ z. IsHeldThere at z place (extent_in (shape_in g a x))) (sym same) (subst (IsHeldThere at (how_is (accesses.Whole kind)) place) (kind_extent (shape_in g a x)) found) in
    let right = subst (λ z. DoesIn g a (record usual { light = true }) Valued z (plan (unit_in g) y) (need y) pushed (expr_code a.frame pushed (fresh + uses None x) wanted_value y)) sides.right (does (fresh + uses None x)) in
    by_held g a pushed fresh at t x y placed sides there base right
