-- Operands that are read where they lie.
use Rattle.std.specs.Prelude.{◌≡◌, ℕ, ◌+◌, ◌<◌, Bool, false, List, ◌∷◌, Some, None}
use Rattle.c65_ints.specs.declared.types.IntType.{IntType}
use Rattle.c65_ctype.specs.Trees.{QTy}
use Rattle.c65_csem.specs.Trees.{Typed, node, load}
use Rattle.c65_csem.specs.Typed.{IsTyped}
use Rattle.c65_meaning.specs.Store.{Value, Shape}
use Rattle.c65_meaning.specs.Fits.{Fits}
use Rattle.c65_meaning.specs.Items.{Item, plan}
use Rattle.c65_meaning.specs.Shapes.{object_in, lives_in_frame}
use Rattle.c65_meaning.specs.State.{Scene, Running}
use Rattle.c65_code.specs.LineState.{Place as Spot, State, IsBytes}
use Rattle.c65_code.specs.Placement.{IsPlacement}
use Rattle.c65_code.specs.Comes.{Seen}
use Rattle.c65_genframe.specs.Frames.{home_of}
use Rattle.c65_genload.specs.declared.places.Place.{Place}
use Rattle.c65_genload.specs.declared.places.Access.TheVariants.{Whole}
use Rattle.c65_genload.specs.Places.{extent_of}
use Rattle.c65_genload.specs.Loads.{load_code}
use Rattle.c65_gendirect.specs.declared.bytes.OperandByte.{OperandByte}
use Rattle.c65_gendirect.specs.declared.direct.Direct.{Direct}
use Rattle.c65_gendirect.specs.declared.direct.Direct.TheVariants.{Kept}
use Rattle.c65_gendirect.specs.Bytes.{op_of}
use Rattle.c65_gendirect.specs.Tests.{zero_test_code}
use Rattle.c65_genexpr.specs.Direct.{direct_of, own_bytes}
use Rattle.c65_agree_store.specs.Stands.{Placing, Banks, Grows}
use Rattle.c65_agree_state.specs.World.{World, unit_in, Active, HasTurns}
use Rattle.c65_agree_state.specs.Follows.{Follows}
use Rattle.c65_agree_state.specs.Exprs.{Ready, Valued, Does, Tests, width_in, shape_in}
use Rattle.c65_agree_frame.specs.Leads.{Leads, IsOn}
use Rattle.c65_agree_load.specs.Loads.{IsKeptThere}
use Rattle.c65_agree_direct.specs.Operands.{MayRead, HasBytes, Reading, op_in, with_operand}

-- the frame is of the program, and what lives as long as the program has no home in it
pub record IsFrameOf (g : World) (a : Active) : Type 0 where
  pub parts : a.frame.parts ≡ g.parts
  pub lasting : (i : ℕ) → lives_in_frame (object_in (unit_in g) i) ≡ false → home_of a.frame i ≡ None

-- The work of a tree takes no lines: wherever the machine has come to, what is followed there with the tree's value goes on from before the
-- work. The value fits, and its bytes are those that are read there.
abbrev pub IsReadInPlace : World → Active → ℕ → Shape → (List Item → List Item) → Direct → Type 0
IsReadInPlace g a pushed f work d = (needs n weight : ℕ) (k : List Item) (vs : List Value) (c : Scene) (w : Placing) (b : Banks) (p : Spot) (t : State) (seen : Seen)
    → Ready g a pushed needs c w b t → HasTurns g c.turns p seen
    → ((j : ℕ) (v : Value) → j < n → Fits f v → HasBytes g c.store w t (width_in f) d v → Follows g j (weight + 4000) (Running k (v ∷ vs) c) p t seen)
    → Follows g n weight (Running (work k) vs c) p t seen

abbrev pub DirectTreesAreRead : Type 0
DirectTreesAreRead = (g : World) (a : Active) (pushed : ℕ) (e : Typed) (d : Direct)
    → IsPlacement g.code g.place → IsFrameOf g a → IsTyped (unit_in g) e → direct_of a.frame pushed e ≡ Some d
    → IsReadInPlace g a pushed (shape_in g a e) (plan (unit_in g) e) d

-- The same, with the bytes as they are read in each later state with the same scene, behind the lines of a tree that changes nothing.
abbrev pub IsReadOn : World → Active → ℕ → Shape → (List Item → List Item) → Direct → Type 0
IsReadOn g a pushed f work d = (needs n weight : ℕ) (k : List Item) (vs : List Value) (c : Scene) (w : Placing) (b : Banks) (p : Spot) (t : State) (seen : Seen)
    → Ready g a pushed needs c w b t → HasTurns g c.turns p seen
    → ((j : ℕ) (v : Value) → j < n → Fits f v → ((more_needs : ℕ) (w2 : Placing) (b2 : Banks) (u : State) → Grows w w2 → Ready g a pushed more_needs c w2 b2 u → HasBytes g c.store w2 u (width_in f) d v)
    → Follows g j (weight + 4000) (Running k (v ∷ vs) c) p t seen)
    → Follows g n weight (Running (work k) vs c) p t seen

abbrev pub DirectTreesAreReadOn : Type 0
DirectTreesAreReadOn = (g : World) (a : Active) (pushed : ℕ) (e : Typed) (d : Direct)
    → IsPlacement g.code g.place → IsFrameOf g a → IsTyped (unit_in g) e → direct_of a.frame pushed e ≡ Some d
    → IsReadOn g a pushed (shape_in g a e) (plan (unit_in g) e) d

-- An instruction on such a byte: everything is kept but what it says, and Y.
abbrev pub OperandBytesAreUsed : Type 0
OperandBytesAreUsed = (g : World) (a : Active) (r : Reading) (x : OperandByte) (t : State) → IsPlacement g.code g.place → IsOn g t → MayRead g t x
    → Leads g a (op_of (op_in r) x) 2 t (λ u. (u ≡ with_operand g r x t) × IsBytes u)

-- A number or a pointer that is kept there is tested by all of its bytes: the lines go to the label where its truth is the one asked for.
abbrev pub DirectLoadsAreTested : Type 0
DirectLoadsAreTested = (g : World) (a : Active) (pushed needs to : ℕ) (s : Bool) (t : QTy) (e : Typed) (place : Place) (kind : IntType)
    → IsPlacement g.code g.place → IsFrameOf g a → IsTyped (unit_in g) (node t (load e)) → direct_of a.frame pushed (node t (load e)) ≡ Some (Kept place kind)
    → Tests g a (shape_in g a (node t (load e))) s to (plan (unit_in g) (node t (load e))) needs pushed (zero_test_code (own_bytes (Kept place kind) (extent_of kind)) s to)

-- The lines that load what is kept there do the tree's work; regbank has no number of four bytes.
abbrev pub KnownPlacesAreLoaded : Type 0
KnownPlacesAreLoaded = (g : World) (a : Active) (pushed needs : ℕ) (t : QTy) (e : Typed) (place : Place) (kind : IntType)
    → IsPlacement g.code g.place → IsFrameOf g a → IsTyped (unit_in g) (node t (load e)) → direct_of a.frame pushed (node t (load e)) ≡ Some (Kept place kind) → IsKeptThere place (extent_of kind)
    → Does g a Valued (shape_in g a (node t (load e))) (plan (unit_in g) (node t (load e))) needs pushed (load_code place (Whole kind))
