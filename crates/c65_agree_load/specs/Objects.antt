-- The lines that load an object by its name, or what a pointer names.
use Rattle.std.specs.Prelude.{◌≡◌, ℕ, ◌+◌, ◌<◌, ◌≤◌, false, List, ◌∷◌, ◌++◌, Option, Some, None, length}
use Rattle.c65_ctype.specs.Trees.{QTy, type_in}
use Rattle.c65_csem.specs.Trees.{Typed, node, object, load}
use Rattle.c65_csem_need.specs.Needs.{need}
use Rattle.c65_meaning.specs.Store.{Shape, Pointer}
use Rattle.c65_meaning.specs.Items.{Item, Name, Follow, Fetch, plan}
use Rattle.c65_meaning.specs.Shapes.{shape_of, object_in, lives_in_frame}
use Rattle.c65_code.specs.declared.line.Line.{Line}
use Rattle.c65_code.specs.Placement.{IsPlacement}
use Rattle.c65_genframe.specs.declared.home.Home.{Home}
use Rattle.c65_genframe.specs.declared.home.Home.TheVariants as homes
use Rattle.c65_genframe.specs.Frames.{home_of, is_raised}
use Rattle.c65_genload.specs.declared.places.Access.TheVariants.{Whole}
use Rattle.c65_genload.specs.declared.places.Place.{Place}
use Rattle.c65_genload.specs.declared.places.Place.TheVariants.{Far}
use Rattle.c65_genload.specs.Places.{extent_of}
use Rattle.c65_genload.specs.Loads.{load_code}
use Rattle.c65_genexpr.specs.declared.wanted.Wanted.TheVariants as wanted
use Rattle.c65_genexpr.specs.Code.{expr_code}
use Rattle.c65_agree_state.specs.World.{World, unit_in, Active}
use Rattle.c65_agree_state.specs.Exprs.{Valued, Does, shape_in}
use Rattle.c65_agree_places.specs.Places.{home_place}
use Rattle.c65_agree_put.specs.Laws.{IsScalar}
use Rattle.c65_agree_assign.specs.Places.{kind_in}
use Rattle.c65_agree_load.specs.Loads.{IsNear, IsKeptThere}

-- no parameter of a variadic function; an object that is none of the frame's has its place at its symbol
pub record IsHomed (g : World) (a : Active) (i : ℕ) : Type 0 where
  pub low : is_raised a.frame i ≡ false
  pub fixed : lives_in_frame (object_in (unit_in g) i) ≡ false → (home_of a.frame i ≡ None) × (i < length g.parts.objects.items)

-- Naming an object and fetching its value, at the lines that load from where it lies.
abbrev pub NamedAreLoaded : Type 0
NamedAreLoaded = (g : World) (a : Active) (needs pushed i : ℕ) (f : Shape) (place : Place)
    → IsPlacement g.code g.place → IsScalar f → IsHomed g a i → place ≡ home_place g pushed i (home_of a.frame i) → IsNear place → IsKeptThere place (extent_of (kind_in f))
    → Does g a Valued f (λ k. Name i ∷ Fetch f ∷ k) needs pushed (load_code place (Whole (kind_in f)))

-- so far above sp that one byte can say so
abbrev pub IsTold : ℕ → Option Home → Type 0
IsTold pushed (Some (homes.Soft d)) = d + pushed ≤ 252
IsTold pushed h = Unit {0}

abbrev pub load_of : QTy → QTy → ℕ → Typed
load_of t q i = node t (load (node q (object i)))

-- A tree that loads an object of a number or pointer type does so.
abbrev pub ObjectsAreLoaded : Type 0
ObjectsAreLoaded = (g : World) (a : Active) (pushed fresh i : ℕ) (t q : QTy)
    → IsPlacement g.code g.place → IsScalar (shape_of (unit_in g).types (type_in q)) → shape_of (unit_in g).types (type_in t) ≡ shape_of (unit_in g).types (type_in q)
    → IsHomed g a i → IsTold pushed (home_of a.frame i) → IsKeptThere (home_place g pushed i (home_of a.frame i)) (extent_of (kind_in (shape_of (unit_in g).types (type_in q))))
    → Does g a Valued (shape_in g a (load_of t q i)) (plan (unit_in g) (load_of t q i)) (need (load_of t q i)) pushed (expr_code a.frame pushed fresh wanted.Value (load_of t q i))

-- What a pointer names is loaded behind the lines that give the pointer.
abbrev pub TargetsAreLoaded : Type 0
TargetsAreLoaded = (g : World) (a : Active) (size : ℕ) (f : Shape) (work : List Item → List Item) (needs pushed : ℕ) (lines : List Line)
    → IsPlacement g.code g.place → IsScalar f → Does g a Valued (Pointer size) work needs pushed lines
    → Does g a Valued f (λ k. work (Follow ∷ Fetch f ∷ k)) needs pushed (lines ++ load_code (Far 0) (Whole (kind_in f)))
