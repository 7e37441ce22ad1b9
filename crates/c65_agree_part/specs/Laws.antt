-- The lines that set a part of an object of a block put its cells.
use Rattle.std.specs.Prelude.{◌≡◌, ℕ, ◌+◌, ◌<◌, ◌≤◌, ◌⊎◌, true, false, List, ◌∷◌, Option, None, Some, Ok, length}
use Rattle.c65_ctype.specs.Trees.{TypesTy}
use Rattle.c65_ctype.specs.Sizes.{size_of}
use Rattle.c65_csem.specs.declared.items.Parts.{Parts}
use Rattle.c65_csem.specs.Trees.{Typed, set_part, clear, ObjectTy}
use Rattle.c65_csem.specs.Views.{unit_of}
use Rattle.c65_csem_need.specs.Needs.{need}
use Rattle.c65_csem.specs.Places.{is_place, is_tag, is_registered, is_fixed_object}
use Rattle.c65_meaning.specs.Store.{Block, Value, Shape, Area, size_in, new_cells}
use Rattle.c65_meaning.specs.Items.{Item, Init, CarryInto, Wipe, plan}
use Rattle.c65_meaning.specs.Shapes.{object_in, object_size, object_shape, lives_in_frame}
use Rattle.c65_meaning.specs.State.{Scene, Running, block_in}
use Rattle.c65_code.specs.LineState.{State}
use Rattle.c65_code.specs.Placement.{IsPlacement}
use Rattle.c65_code.specs.Comes.{Seen}
use Rattle.c65_genframe.specs.declared.modes.Modes.{Modes}
use Rattle.c65_genframe.specs.declared.home.Home.TheVariants as homes
use Rattle.c65_genframe.specs.Frames.{Framed, frame_at, home_of}
use Rattle.c65_genload.specs.declared.places.Access.TheVariants.{Whole}
use Rattle.c65_genexpr.specs.declared.wanted.Wanted.TheVariants as wanted
use Rattle.c65_genexpr.specs.Code.{expr_code}
use Rattle.c65_genexpr.specs.Types.{bare}
use Rattle.c65_genstmt.specs.declared.jumps.Ways.{Ways}
use Rattle.c65_genstmt.specs.Objects.{spot_of, stored_code}
use Rattle.c65_agree_store.specs.Stands.{Placing, Banks}
use Rattle.c65_agree_state.specs.World.{World, unit_in, Active, IsCallOf, lines_of, place_in, HasAt, IsPlaced, HasTurns}
use Rattle.c65_agree_state.specs.Fixed.{symbol_at}
use Rattle.c65_agree_state.specs.Follows.{Follows}
use Rattle.c65_agree_state.specs.Exprs.{Ready, Kept, Yield, Valued, Registered, Does as LinesDo, MayFit, ResultIs, width_in, shape_in}
use Rattle.c65_agree_state.specs.Sizes.{AreSized}
use Rattle.c65_agree_lines.specs.Lists.{zeros_code}
use Rattle.c65_agree_put.specs.Puts.{with_put, AreTaken}
use Rattle.c65_agree_put.specs.Laws.{IsScalar}
use Rattle.c65_agree_assign.specs.Places.{bytes_in, extent_in, kind_in}
use Rattle.c65_agree_stmts.specs.Calling.{Calling, Does, HasValue}
use Rattle.c65_agree_stmts.specs.Objects.{bytes_of, MayBegin}
use Rattle.c65_agree_part.specs.Parts.{IsInMemory, IsSettable, IsSource, area_code}

-- The step of an initial value, where it is in the primary register, at the lines that store it: behind them the object's block has the
-- cells of the value (C90 6.5.7).
abbrev pub ValuesAreBegun : Type 0
ValuesAreBegun = (g : World) (a : Active) (needs i o : ℕ) (f : Shape) (c : Scene) (w : Placing) (k : Banks) (t : State) (v : Value) (n weight p : ℕ) (work : List Item) (vs : List Value) (seen : Seen)
    → IsPlacement g.code g.place → HasAt (lines_of g a) p (stored_code (spot_of a.frame i o) (Whole (kind_in f)) (size_in f)) → Ready g a 0 needs c w k t → AreSized (unit_in g) c
    → IsScalar f → MayFit Valued f v → ResultIs Valued w (width_in f) v t → IsSettable g a i → HasTurns g c.turns (place_in g a p) seen
    → ((j b : ℕ) (x : Block) (later : Banks) (u : State) (after : Seen) → j < n → block_in c.frames i ≡ Some b
    → AreTaken g a 0 needs 0 c w k t (with_put c b x o (bytes_in (extent_in f)) (new_cells f v x.cells o)) later u
    → HasTurns g c.turns (place_in g a (p + length (stored_code (spot_of a.frame i o) (Whole (kind_in f)) (size_in f)))) after
    → Follows g j (weight + 3740) (Running work vs (with_put c b x o (bytes_in (extent_in f)) (new_cells f v x.cells o))) (place_in g a (p + length (stored_code (spot_of a.frame i o) (Whole (kind_in f)) (size_in f)))) u after)
    → Follows g n weight (Running (Init i o f ∷ work) (v ∷ vs) c) (place_in g a p) t seen

-- The steps that make all bytes of an object zero, at the lines that do so (C90 6.5.7).
abbrev pub ObjectsAreCleared : Type 0
ObjectsAreCleared = (g : World) (a : Active) (needs i : ℕ) (c : Scene) (w : Placing) (k : Banks) (t : State) (n v p fresh : ℕ) (work : List Item) (vs : List Value) (seen : Seen)
    → IsPlacement g.code g.place → IsPlaced (lines_of g a) → HasAt (lines_of g a) p (zeros_code (spot_of a.frame i 0) (object_size (unit_in g).types (object_in (unit_in g) i)) fresh) → Ready g a 0 needs c w k t → AreSized (unit_in g) c
    → IsSettable g a i → HasTurns g c.turns (place_in g a p) seen
    → ((j : ℕ) (d : Scene) (banks : Banks) (u : State) (later : Seen) → j < n → Kept g a c w k t d w banks u
    → HasTurns g d.turns (place_in g a (p + length (zeros_code (spot_of a.frame i 0) (object_size (unit_in g).types (object_in (unit_in g) i)) fresh))) later
    → Follows g j (v + 2600) (Running work vs d) (place_in g a (p + length (zeros_code (spot_of a.frame i 0) (object_size (unit_in g).types (object_in (unit_in g) i)) fresh))) u later)
    → Follows g n v (Running (Wipe i 0 (object_size (unit_in g).types (object_in (unit_in g) i)) ∷ work) vs c) (place_in g a p) t seen

-- The steps that carry the bytes of a structure or union into a part of an object as its initial value, at the lines that do so, where its
-- address is in AX (C90 6.5.7).
abbrev pub AreasAreBegun : Type 0
AreasAreBegun = (g : World) (a : Active) (needs i o size : ℕ) (c : Scene) (w : Placing) (k : Banks) (t : State) (x : Value) (n v p fresh : ℕ) (work : List Item) (vs : List Value) (seen : Seen)
    → IsPlacement g.code g.place → IsPlaced (lines_of g a) → HasAt (lines_of g a) p (area_code (spot_of a.frame i o) size fresh) → Ready g a 0 needs c w k t → AreSized (unit_in g) c
    → IsSettable g a i → IsInMemory (spot_of a.frame i o) → 0 < size → IsSource w x t → HasTurns g c.turns (place_in g a p) seen
    → ((j : ℕ) (d : Scene) (banks : Banks) (u : State) (later : Seen) → j < n → Kept g a c w k t d w banks u → HasTurns g d.turns (place_in g a (p + length (area_code (spot_of a.frame i o) size fresh))) later
    → Follows g j (v + 2600) (Running work vs d) (place_in g a (p + length (area_code (spot_of a.frame i o) size fresh))) u later)
    → Follows g n v (Running (CarryInto i o 0 size ∷ work) (x ∷ vs) c) (place_in g a p) t seen

-- ---- statements

-- the lines of a structure or union leave its address in AX
pub record HasAddress (x : Calling) (e : Typed) : Type 0 where
  pub yield : Yield
  pub memory : yield ≡ Registered → ⊥
  pub does : (fresh : ℕ) → LinesDo x.world x.active yield (shape_in x.world x.active e) (plan (unit_in x.world) e) (need e) 0 (expr_code x.active.frame 0 fresh wanted.Value e)
  pub need : need e ≤ x.needs

-- where its expression does its work, and it is no object of class register
abbrev pub ValuesHaveAddresses : Type 0
ValuesHaveAddresses = (x : Calling) (e : Typed) → HasValue x e → is_registered (unit_in x.world) e ≡ false → HasAddress x e

-- A structure or union of 1 to 65,535 bytes goes to an object that is not in regbank.
pub record IsAreaFor (x : Calling) (i o : ℕ) (e : Typed) : Type 0 where
  pub address : HasAddress x e
  pub tag : is_tag (bare e) ≡ true
  pub least : 0 < size_of (unit_in x.world).types (bare e)
  pub few : size_of (unit_in x.world).types (bare e) ≤ 65535
  pub memory : IsInMemory (spot_of x.active.frame i o)

-- a number or a pointer
pub record IsScalarFor (x : Calling) (e : Typed) : Type 0 where
  pub value : HasValue x e
  pub plain : is_place e ≡ false
  pub scalar : IsScalar (shape_in x.world x.active e)

-- The lines that set a part of an object do the statement's work, where those of the value do theirs.
abbrev pub PartsAreSet : Type 0
PartsAreSet = (x : Calling) (scope : List ℕ) (at next fresh i o : ℕ) (w : Ways) (e : Typed) → IsPlacement x.world.code x.world.place → IsPlaced (lines_of x.world x.active) → x.active.frame.parts ≡ x.world.parts
    → IsSettable x.world x.active i → IsScalarFor x e ⊎ IsAreaFor x i o e → Does x scope at (set_part i o e) w next fresh

-- And so do those that clear an object.
abbrev pub ClearsDo : Type 0
ClearsDo = (x : Calling) (scope : List ℕ) (at next fresh i : ℕ) (w : Ways) → IsPlacement x.world.code x.world.place → IsPlaced (lines_of x.world x.active) → x.active.frame.parts ≡ x.world.parts
    → IsSettable x.world x.active i → Does x scope at (clear i) w next fresh

-- ---- frames

-- an object that stands in regbank from byte b on: a number or a pointer of at most two bytes, which are among those that the frame takes
pub record IsHeldInBank (types : TypesTy) (bank b : ℕ) (o : Option ObjectTy) : Type 0 where
  pub few : object_size types o ≤ 2
  pub taken : b + object_size types o ≤ bank
  pub scalar : IsScalar (object_shape types o)

abbrev pub BanksHoldNumbers : Type 0
BanksHoldNumbers = (parts : Parts) (modes : Modes) (func : ℕ) (f : Framed) (i b : ℕ) → frame_at parts modes func ≡ Ok f → home_of f i ≡ Some (homes.Bank b)
    → IsHeldInBank (unit_of parts).types f.bank b (object_in (unit_of parts) i)

-- So no structure, union or array stands there.
abbrev pub AreasAreInMemory : Type 0
AreasAreInMemory = (parts : Parts) (modes : Modes) (func : ℕ) (f : Framed) (i o size : ℕ) → frame_at parts modes func ≡ Ok f → object_shape (unit_of parts).types (object_in (unit_of parts) i) ≡ Area size
    → IsInMemory (spot_of f i o)

-- An object that may begin where these are in scope may be set, if it is automatic, has from 1 to 65,535 bytes and, where it has one place for
-- the whole run, no home in the frame and no byte of a constant.
abbrev pub ObjectsMayBeSet : Type 0
ObjectsMayBeSet = (x : Calling) (scope : List ℕ) (i : ℕ) → IsCallOf x.world x.active → MayBegin x scope i → lives_in_frame (object_in (unit_in x.world) i) ≡ true
    → 0 < bytes_of x.world i → bytes_of x.world i ≤ 65535 → (is_fixed_object (object_in (unit_in x.world) i) ≡ true → home_of x.active.frame i ≡ None)
    → ((n : ℕ) → home_of x.active.frame i ≡ None → n < bytes_of x.world i → x.world.place.constant (symbol_at x.world i + n) ≡ None) → IsSettable x.world x.active i
