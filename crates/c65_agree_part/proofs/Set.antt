-- Statements of initial values, and those that clear an object: their lines.
use Rattle.std.proofs.Common.{◌≡◌, ℕ, ◌+◌, ◌≤◌, inl, inr, List, ◌∷◌, ◌++◌, Option, None, Some, Bool, true, false, refl, sym, ap, ◌∙◌, subst, arith, length-append}
use Rattle.std.specs.Prelude.{length, if◌then◌else◌}
use Rattle.std.proofs.lemmas.Option.{slice_get-map}
use Rattle.c65_ints.specs.declared.types.IntType.TheVariants.{SChar, UChar, Short, UShort, Int, UInt, Long, ULong}
use Rattle.c65_ctype.specs.Trees.{Ty, TypesTy, type_in}
use Rattle.c65_ctype.specs.Trees as types
use Rattle.c65_ctype.specs.Sizes.{size_of as type_size}
use Rattle.c65_ctype.specs.Views.{types_of}
use Rattle.c65_csem.specs.declared.items.Parts.{Parts}
use Rattle.c65_csem.specs.Trees.{Typed, set_part, clear, ObjectTy}
use Rattle.c65_csem.specs.Views.{object_of, unit_of}
use Rattle.c65_csem.specs.Places.{is_place, is_tag}
use Rattle.c65_csem_need.specs.Needs.{need}
use Rattle.c65_meaning.specs.Store as values
use Rattle.c65_meaning.specs.Store.{Value, Null, Place, Opaque, Cells, NoValue, Shape, Number, Field, Pointer, Area, size_in, new_cells}
use Rattle.c65_meaning.specs.Items.{Init, CarryInto, initial_store, plan, plan_stmt}
use Rattle.c65_meaning.specs.Shapes.{shape_of, object_in, object_size}
use Rattle.c65_meaning.specs.State.{Scene, Running}
use Rattle.c65_code.specs.declared.line.Line.{Line}
use Rattle.c65_code.specs.LineState.{State}
use Rattle.c65_code.specs.Placement.{IsPlacement}
use Rattle.c65_genframe.specs.Frames.{Framed, type_bytes}
use Rattle.c65_genframe.specs.Sizes.{bytes_or}
use Rattle.c65_genframe.specs.Sizes as generated
use Rattle.c65_genload.specs.declared.places.Access.TheVariants.{Whole}
use Rattle.c65_genload.specs.Conversions.{size_of}
use Rattle.c65_genexpr.specs.declared.wanted.Wanted.TheVariants as wanted
use Rattle.c65_genexpr.specs.Code.{expr_code}
use Rattle.c65_genexpr.specs.Types.{bare, kind_of, kind_in}
use Rattle.c65_genexpr.specs.Uses.{uses}
use Rattle.c65_genstmt.specs.declared.jumps.Ways.{Ways}
use Rattle.c65_genstmt.specs.Objects.{object_bytes, spot_of, stored_code}
use Rattle.c65_agree_store.specs.Stands.{Placing, Banks}
use Rattle.c65_agree_state.specs.World.{World, unit_in, Active, lines_of, place_in, IsPlaced, HasTurns}
use Rattle.c65_agree_state.specs.Follows.{Follows}
use Rattle.c65_agree_state.specs.Exprs.{Kept, Yield, Registered, Placed, Valued, ResultIs, width_in, Does as LinesDo, is_area, yield_of, shape_in}
use Rattle.c65_agree_state.proofs.Followed.{follows_weaken}
use Rattle.c65_agree_state.proofs.Nodes.{has_front, has_back}
use Rattle.c65_agree_state.proofs.Yields.{value_yields}
use Rattle.c65_agree_start.proofs.Sizes.{bytes_are_size}
use Rattle.c65_agree_put.specs.Puts.{with_put, AreTaken}
use Rattle.c65_agree_put.specs.Laws.{IsScalar}
use Rattle.c65_agree_assign.specs.Places.{bytes_in, extent_in, kind_in as kind_of_shape}
use Rattle.c65_agree_lines.specs.Lists.{kept_code, zeros_code, stmt_code}
use Rattle.c65_agree_stmts.specs.Calling.{Calling, WorkDoes, Does, HasValue}
use Rattle.c65_agree_stmts.proofs.Standing.{Stands, ready, stands_behind}
use Rattle.c65_agree_stmts.proofs.Ahead.{IsDone, work_does}
use Rattle.c65_agree_part.specs.Parts.{IsSettable, IsSource, area_code}
use Rattle.c65_agree_part.specs.Laws.{IsAreaFor, ValuesHaveAddresses, PartsAreSet, ClearsDo}
use Rattle.c65_agree_part.proofs.Begun.{values_are_begun}
use Rattle.c65_agree_part.proofs.Cleared.{objects_are_cleared}
use Rattle.c65_agree_part.proofs.Carried.{areas_are_begun}

-- ---- types

kind_is : (us : TypesTy) (t : Ty) → IsScalar (shape_of us t) → kind_of t ≡ kind_of_shape (shape_of us t)
kind_is us (types.int kind) scalar = refl
kind_is us (types.pointer q) scalar = refl
kind_is us types.void scalar = absurd scalar
kind_is us (types.array q n) scalar = absurd scalar
kind_is us (types.function f) scalar = absurd scalar
kind_is us (types.tag n) scalar = absurd scalar

size_is : (us : TypesTy) (t : Ty) → IsScalar (shape_of us t) → size_of (kind_of t) ≡ size_in (shape_of us t)
size_is us (types.int SChar) scalar = refl
size_is us (types.int UChar) scalar = refl
size_is us (types.int Short) scalar = refl
size_is us (types.int UShort) scalar = refl
size_is us (types.int Int) scalar = refl
size_is us (types.int UInt) scalar = refl
size_is us (types.int Long) scalar = refl
size_is us (types.int ULong) scalar = refl
size_is us (types.pointer q) scalar = refl
size_is us types.void scalar = absurd scalar
size_is us (types.array q n) scalar = absurd scalar
size_is us (types.function f) scalar = absurd scalar
size_is us (types.tag n) scalar = absurd scalar

no_tag : (us : TypesTy) (t : Ty) → IsScalar (shape_of us t) → is_tag t ≡ false
no_tag us (types.int kind) scalar = refl
no_tag us (types.pointer q) scalar = refl
no_tag us types.void scalar = absurd scalar
no_tag us (types.array q n) scalar = absurd scalar
no_tag us (types.function f) scalar = absurd scalar
no_tag us (types.tag n) scalar = absurd scalar

item_is : (i o : ℕ) (f : Shape) → IsScalar f → initial_store i o f ≡ Init i o f
item_is i o (Number t) scalar = refl
item_is i o (Pointer size) scalar = refl
item_is i o (Field t low width) scalar = absurd scalar
item_is i o (Area size) scalar = absurd scalar

-- a structure or union
area_is : (us : TypesTy) (t : Ty) → is_tag t ≡ true → shape_of us t ≡ Area (type_size us t)
area_is us (types.tag n) e = refl
area_is us (types.int kind) e = cc
area_is us (types.pointer q) e = cc
area_is us types.void e = cc
area_is us (types.array q n) e = cc
area_is us (types.function f) e = cc

-- where its value is its address is in AX
source_of : (y : Yield) (size : ℕ) (w : Placing) (v : Value) (t : State) → (y ≡ Registered → ⊥) → ResultIs y w (width_in (Area size)) v t → IsSource w v t
source_of Valued size w (Place b o) t other h = h
source_of Placed size w (Place b o) t other h = h
source_of Registered size w v t other h = absurd (other refl)
source_of Valued size w (values.Whole z) t other h = tt
source_of Valued size w Null t other h = tt
source_of Valued size w Opaque t other h = tt
source_of Valued size w (Cells xs) t other h = tt
source_of Valued size w NoValue t other h = tt
source_of Placed size w (values.Whole z) t other h = tt
source_of Placed size w Null t other h = tt
source_of Placed size w Opaque t other h = tt
source_of Placed size w (Cells xs) t other h = tt
source_of Placed size w NoValue t other h = tt

abbrev bytes_of : Parts → Option ObjectTy → ℕ
bytes_of p None = 0
bytes_of p (Some o) = bytes_or (types_of p.types) (type_in o.ty) 0

-- the generator's count of an object's bytes is that of its type
object_sized : (f : Framed) (parts : Parts) (i : ℕ) → f.parts ≡ parts → 1 ≤ object_size (unit_of parts).types (object_in (unit_of parts) i) → object_size (unit_of parts).types (object_in (unit_of parts) i) ≤ 65535 → object_bytes f i ≡ object_size (unit_of parts).types (object_in (unit_of parts) i)
object_sized f parts i same least few =
    let found : object_in (unit_of parts) i ≡ generated.object_in parts i = slice_get-map object_of parts.objects.items i in
    ap (λ p. bytes_of p (generated.object_in p i)) same ∙ by (generated.object_in parts i) (subst (λ o. 1 ≤ object_size (unit_of parts).types o) found least) (subst (λ o. object_size (unit_of parts).types o ≤ 65535) found few) ∙ ap (object_size (unit_of parts).types) (sym found)
  where
    by : (o : Option ObjectTy) → 1 ≤ object_size (unit_of parts).types o → object_size (unit_of parts).types o ≤ 65535 → bytes_of parts o ≡ object_size (unit_of parts).types o
    by None least few = absurd (omega (arith, least))
    by (Some o) least few = bytes_are_size (types_of parts.types) (type_in o.ty) 0 least few

-- ---- states

-- all is kept that an expression keeps
kept_by : (g : World) (a : Active) (needs : ℕ) (c c2 : Scene) (w : Placing) (k k2 : Banks) (t u : State) → AreTaken g a 0 needs 0 c w k t c2 k2 u → Kept g a c w k t c2 w k2 u
kept_by g a needs c c2 w k k2 t u h = record {
  joins = h.ready.joins;
  sp = omega (arith, h.sp);
  frames = h.frames;
  next = omega (arith, h.next);
  bounds = λ b lt. h.bounds b;
  grows = λ b q e. e;
  kept = λ n le free. h.kept n (omega (arith, le)) free;
  banks = h.banks;
  own_bank = h.own_bank;
  none_pushed = h.ready.none_pushed;
}

module _ (x : Calling) (scope : List ℕ) (at next fresh i o : ℕ) (w : Ways) (e : Typed) (placed : IsPlacement x.world.code x.world.place) (has : HasValue x e) (value : is_place e ≡ false) (scalar : IsScalar (shape_in x.world x.active e)) (can : IsSettable x.world x.active i) where
  abbrev f : Shape
  f = shape_in x.world x.active e

  abbrev E : List Line
  E = expr_code x.active.frame 0 fresh wanted.Value e

  abbrev S : List Line
  S = stored_code (spot_of x.active.frame i o) (Whole (kind_of_shape f)) (size_in f)

  lines_are : stmt_code x.active.frame w next (set_part i o e) fresh ≡ E ++ S
  lines_are =
      let us = (unit_in x.world).types in
      ap (λ s. E ++ kept_code s x.active.frame (spot_of x.active.frame i o) e (fresh + uses None e)) (no_tag us (bare e) scalar)
      ∙ ap (λ z. E ++ stored_code (spot_of x.active.frame i o) (Whole z) (size_of (kind_in e))) (kind_is us (bare e) scalar) ∙ ap (λ z. E ++ stored_code (spot_of x.active.frame i o) (Whole (kind_of_shape f)) z) (size_is us (bare e) scalar)

  does : LinesDo x.world x.active Valued f (plan (unit_in x.world) e) (need e) 0 E
  does =
      let yields : yield_of (unit_in x.world) e ≡ Valued = value_yields (unit_in x.world) e value (no_tag (unit_in x.world).types (bare e) scalar) in
      subst (λ y. LinesDo x.world x.active y f (plan (unit_in x.world) e) (need e) 0 E) yields (has.does 0 fresh)

  done : IsDone x scope (plan_stmt (unit_in x.world) at (set_part i o e)) w (E ++ S)
  done n v p k c q b t seen le more there stands turns ahead goes =
      subst (λ item. Follows x.world n v (Running (plan (unit_in x.world) e (item ∷ k)) x.values c) (place_in x.world x.active p) t seen) (sym (item_is i o f scalar))
      (does n v p (Init i o f ∷ k) x.values c q b t seen (has_front (lines_of x.world x.active) p E S there) (ready x scope c q b t stands (need e) has.need) turns (λ j value2 c2 q2 b2 u later lt kept turns2.
      let stands2 : Stands x scope c2 q2 b2 u = stands_behind x scope c c2 q q2 b b2 t u stands kept.kept in
      let end : p + length E + length S ≡ p + length (E ++ S) = omega (arith, length-append E S) in
      values_are_begun x.world x.active x.needs i o f c2 q2 b2 u value2 j (v + 2600) (p + length E) k x.values later placed (has_back (lines_of x.world x.active) p E S there) (ready x scope c2 q2 b2 u stands2 x.needs (omega arith)) stands2.between.sized scalar kept.fits kept.result can turns2 (λ h m y b3 u2 after lt2 named taken turns3.
      let c3 : Scene = with_put c2 m y o (bytes_in (extent_in f)) (new_cells f value2 y.cells o) in
      let stands3 : Stands x scope c3 q2 b3 u2 = stands_behind x scope c2 c3 q2 q2 b2 b3 u u2 stands2 (kept_by x.world x.active x.needs c2 c3 q2 b2 b3 u u2 taken) in
      follows_weaken x.world h v (v + 2600 + 3740) _ _ u2 after (omega arith)
      (subst (λ z. Follows x.world h v (Running k x.values c3) (place_in x.world x.active z) u2 after) (sym end)
      (goes h c3 q2 b3 u2 after (omega (arith, lt, lt2)) stands3 (subst (λ z. HasTurns x.world c2.turns (place_in x.world x.active z) after) end turns3))))))

scalars_are_set : (x : Calling) (scope : List ℕ) (at next fresh i o : ℕ) (w : Ways) (e : Typed) → IsPlacement x.world.code x.world.place → HasValue x e → is_place e ≡ false → IsScalar (shape_in x.world x.active e) → IsSettable x.world x.active i → Does x scope at (set_part i o e) w next fresh
scalars_are_set x scope at next fresh i o w e placed has value scalar can =
    subst (WorkDoes x scope (plan_stmt (unit_in x.world) at (set_part i o e)) w) (sym (lines_are x scope at next fresh i o w e placed has value scalar can))
    (work_does x scope (plan_stmt (unit_in x.world) at (set_part i o e)) w (E x scope at next fresh i o w e placed has value scalar can ++ S x scope at next fresh i o w e placed has value scalar can) (done x scope at next fresh i o w e placed has value scalar can))

-- ---- structures and unions

module _ (x : Calling) (scope : List ℕ) (at next fresh i o : ℕ) (w : Ways) (e : Typed) (placed : IsPlacement x.world.code x.world.place) (once : IsPlaced (lines_of x.world x.active)) (parts : x.active.frame.parts ≡ x.world.parts) (can : IsSettable x.world x.active i) (is : IsAreaFor x i o e) where
  abbrev size : ℕ
  size = type_size (unit_in x.world).types (bare e)

  abbrev before : List Line
  before = expr_code x.active.frame 0 fresh wanted.Value e

  abbrev into : List Line
  into = area_code (spot_of x.active.frame i o) size (fresh + uses None e)

  area_lines : stmt_code x.active.frame w next (set_part i o e) fresh ≡ before ++ into
  area_lines =
      let bytes : type_bytes x.active.frame (bare e) ≡ size = ap (λ p. bytes_or (types_of p.types) (bare e) 0) parts ∙ bytes_are_size (unit_in x.world).types (bare e) 0 is.least is.few in
      ap (λ s. before ++ kept_code s x.active.frame (spot_of x.active.frame i o) e (fresh + uses None e)) is.tag
      ∙ ap (λ n. before ++ area_code (spot_of x.active.frame i o) n (fresh + uses None e)) bytes

  abbrev yield : Yield
  yield = is.address.yield

  shape_is : shape_in x.world x.active e ≡ Area size
  shape_is = area_is (unit_in x.world).types (bare e) is.tag

  area_does : LinesDo x.world x.active yield (Area size) (plan (unit_in x.world) e) (need e) 0 before
  area_does = subst (λ f. LinesDo x.world x.active yield f (plan (unit_in x.world) e) (need e) 0 before) shape_is (is.address.does fresh)

  area_done : IsDone x scope (plan_stmt (unit_in x.world) at (set_part i o e)) w (before ++ into)
  area_done n v p k c q b t seen le more there stands turns ahead goes =
      subst (λ f. Follows x.world n v (Running (plan (unit_in x.world) e (initial_store i o f ∷ k)) x.values c) (place_in x.world x.active p) t seen) (sym shape_is)
      (area_does n v p (CarryInto i o 0 size ∷ k) x.values c q b t seen (has_front (lines_of x.world x.active) p before into there) (ready x scope c q b t stands (need e) is.address.need) turns (λ j value c2 q2 b2 u later lt kept turns2.
      let stands2 : Stands x scope c2 q2 b2 u = stands_behind x scope c c2 q q2 b b2 t u stands kept.kept in
      let end : p + length before + length into ≡ p + length (before ++ into) = omega (arith, length-append before into) in
      areas_are_begun x.world x.active x.needs i o size c2 q2 b2 u value j (v + 2600) (p + length before) (fresh + uses None e) k x.values later placed once (has_back (lines_of x.world x.active) p before into there) (ready x scope c2 q2 b2 u stands2 x.needs (omega arith)) stands2.between.sized can is.memory is.least (source_of yield size q2 value u is.address.memory kept.result) turns2 (λ h c3 b3 u2 after lt2 kept2 turns3.
      let stands3 : Stands x scope c3 q2 b3 u2 = stands_behind x scope c2 c3 q2 q2 b2 b3 u u2 stands2 kept2 in
      follows_weaken x.world h v (v + 2600 + 2600) _ _ u2 after (omega arith)
      (subst (λ z. Follows x.world h v (Running k x.values c3) (place_in x.world x.active z) u2 after) (sym end)
      (goes h c3 q2 b3 u2 after (omega (arith, lt, lt2)) stands3 (subst (λ z. HasTurns x.world c3.turns (place_in x.world x.active z) after) end turns3))))))

  areas_are_set : Does x scope at (set_part i o e) w next fresh
  areas_are_set =
      subst (WorkDoes x scope (plan_stmt (unit_in x.world) at (set_part i o e)) w) (sym area_lines)
      (work_does x scope (plan_stmt (unit_in x.world) at (set_part i o e)) w (before ++ into) area_done)

pub parts_are_set : PartsAreSet
parts_are_set x scope at next fresh i o w e placed once parts can (inl is) = scalars_are_set x scope at next fresh i o w e placed is.value is.plain is.scalar can
parts_are_set x scope at next fresh i o w e placed once parts can (inr is) = areas_are_set x scope at next fresh i o w e placed once parts can is

pub values_have_addresses : ValuesHaveAddresses
values_have_addresses x e has plain = record { yield = yield_of (unit_in x.world) e; memory = memory; does = λ fresh. has.does 0 fresh; need = has.need }
  where
    by : (b area : Bool) → (if b then Placed else if area then Placed else Valued) ≡ Registered → ⊥
    by true area h = cc
    by false true h = cc
    by false false h = cc

    memory : yield_of (unit_in x.world) e ≡ Registered → ⊥
    memory f = by (is_place e) (is_area e) (sym (ap (λ r. if is_place e then (if r then Registered else Placed) else if is_area e then Placed else Valued) plain) ∙ f)

-- ---- objects that are cleared

module _ (x : Calling) (scope : List ℕ) (at next fresh i : ℕ) (w : Ways) (placed : IsPlacement x.world.code x.world.place) (once : IsPlaced (lines_of x.world x.active)) (parts : x.active.frame.parts ≡ x.world.parts) (can : IsSettable x.world x.active i) where
  abbrev bytes : ℕ
  bytes = object_size (unit_in x.world).types (object_in (unit_in x.world) i)

  abbrev zeros : List Line
  zeros = zeros_code (spot_of x.active.frame i 0) bytes fresh

  zeros_done : IsDone x scope (plan_stmt (unit_in x.world) at (clear i)) w zeros
  zeros_done n v p k c q b t seen le more there stands turns ahead goes =
      objects_are_cleared x.world x.active x.needs i c q b t n v p fresh k x.values seen placed once there (ready x scope c q b t stands x.needs (omega arith)) stands.between.sized can turns (λ j c2 b2 u later lt kept turns2.
      let stands2 : Stands x scope c2 q b2 u = stands_behind x scope c c2 q q b b2 t u stands kept in
      follows_weaken x.world j v (v + 2600) _ _ u later (omega arith) (goes j c2 q b2 u later lt stands2 turns2))

  objects_clear : Does x scope at (clear i) w next fresh
  objects_clear =
      let sized : object_bytes x.active.frame i ≡ bytes = object_sized x.active.frame x.world.parts i parts can.least can.few in
      subst (WorkDoes x scope (plan_stmt (unit_in x.world) at (clear i)) w) (ap (λ n. zeros_code (spot_of x.active.frame i 0) n fresh) (sym sized))
      (work_does x scope (plan_stmt (unit_in x.world) at (clear i)) w zeros zeros_done)

pub clears_do : ClearsDo
clears_do x scope at next fresh i w placed once parts can = objects_clear x scope at next fresh i w placed once parts can
