-- The node of a load.
use Rattle.std.proofs.Common.{◌≡◌, ℕ, ◌+◌, List, ◌∷◌, ◌++◌, Option, None, refl, sym, ap, ◌∙◌, subst, arith, length-append}
use Rattle.std.specs.Prelude.{length}
use Rattle.c65_ints.specs.declared.types.IntType.{IntType}
use Rattle.c65_ctype.specs.Trees.{QTy, type_in}
use Rattle.c65_ctype.specs.Views.{types_of}
use Rattle.c65_csem.specs.Trees.{Typed, node, load, type_of}
use Rattle.c65_csem_need.specs.Needs.{need}
use Rattle.c65_meaning.specs.Store.{Shape}
use Rattle.c65_meaning.specs.Items.{Item, Fetch, plan}
use Rattle.c65_meaning.specs.Shapes.{shape_of, place_shape}
use Rattle.c65_meaning.specs.State.{Running}
use Rattle.c65_code.specs.declared.line.Line.{Line}
use Rattle.c65_code.specs.Placement.{IsPlacement}
use Rattle.c65_genload.specs.declared.places.Access.{Access}
use Rattle.c65_genload.specs.declared.places.Access.TheVariants.{Whole}
use Rattle.c65_genload.specs.declared.places.Place.{Place}
use Rattle.c65_genload.specs.Places.{extent_of}
use Rattle.c65_genload.specs.Loads.{load_code}
use Rattle.c65_genexpr.specs.declared.destination.Destination.{Destination}
use Rattle.c65_genexpr.specs.declared.destination.Destination.TheVariants.{Registers, Pointer}
use Rattle.c65_genexpr.specs.declared.elements.Element.{Element}
use Rattle.c65_genexpr.specs.declared.wanted.Wanted.TheVariants.{Value}
use Rattle.c65_genexpr.specs.Destination.{destination_by, destination_of, pointed_code, fetch_by, fetch_code}
use Rattle.c65_genexpr.specs.Elements.{element_at, element_or, loaded_element}
use Rattle.c65_genexpr.specs.Places.{place_of}
use Rattle.c65_genexpr.specs.Types.{access_of}
use Rattle.c65_genexpr.specs.Code.{expr_code, base_code, index_code, load_by}
use Rattle.c65_agree_state.specs.World.{World, unit_in, Active, lines_of, place_in, HasTurns}
use Rattle.c65_agree_state.specs.Follows.{Follows}
use Rattle.c65_agree_state.specs.Exprs.{Valued, Does, shape_in}
use Rattle.c65_agree_state.proofs.Followed.{follows_weaken}
use Rattle.c65_agree_state.proofs.Nodes.{has_front, has_back, ready_stays}
use Rattle.c65_agree_state.proofs.Parts.{kept_goes_on}
use Rattle.c65_agree_put.specs.Laws.{IsScalar}
use Rattle.c65_agree_put.proofs.Fits.{may_fit}
use Rattle.c65_agree_assign.specs.Places.{kind_in}
use Rattle.c65_agree_direct.proofs.Trees.{bare_plain}
use Rattle.c65_agree_structures.specs.Bases.{IsToldBy, TellsPlace}
use Rattle.c65_agree_access.specs.Pointed.{with_pointer, TellsPointed}
use Rattle.c65_agree_access.specs.LoadLaws.{IsWhole, LoadsDo}
use Rattle.c65_agree_access.proofs.Wholes.{places_are_whole}
use Rattle.c65_agree_access.proofs.Fetching.{IsFetched, registers_fetch, pointer_fetch, fetch_follows}

-- ---- behind the lines that tell a place

module _ (g : World) (a : Active) (placed : IsPlacement g.code g.place) (f : Shape) (scalar : IsScalar f) (work : List Item → List Item) (needs pushed : ℕ) (place : Place) (base : List Line) where
  abbrev Loads : List Line → Type 0
  Loads ls = Does g a Valued f (λ k. work (Fetch f ∷ k)) needs pushed (base ++ ls)

  pub by_registers : TellsPlace g a work needs pushed place base → Loads (load_code place (Whole (kind_in f)))
  by_registers tells n weight p k vs c w b t seen has r turns rest =
      let ls : List Line = load_code place (Whole (kind_in f)) in
      let ends : p + length base + length ls ≡ p + length (base ++ ls) = omega (arith, length-append base ls) in
      tells n weight p (Fetch f ∷ k) vs c w b t seen (has_front (lines_of g a) p base ls has) r turns (λ j v c2 w2 b2 u later lt kept told turned.
      let ready = ready_stays g a pushed needs needs c c2 w w2 b b2 t u (omega arith) r kept in
      fetch_follows g a pushed needs f c2 w2 b2 u v (IsFetched g a f c2 w2 b2 u) ls j (weight + 2600) (p + length base) k vs later (has_back (lines_of g a) p base ls has) ready turned
      (λ m o x is e. registers_fetch g a pushed needs f c2 w2 b2 u placed ready scalar m o x e place (subst (IsToldBy g a place c2 w2 u) is told)) (λ i x y after less fit h turned2.
      subst (λ z. Follows g i (weight + 2600 + 3470) (Running k (x ∷ vs) c2) (place_in g a z) y after) (sym ends)
      (follows_weaken g i (weight + 2600) (weight + 2600 + 3470) (Running k (x ∷ vs) c2) (place_in g a (p + length (base ++ ls))) y after (omega arith)
      (rest i x c2 w2 b2 y after (omega (arith, lt, less)) (record { kept = kept_goes_on g a c c2 c2 w w2 w2 b b2 b2 t u y kept h.0; result = h.1; fits = may_fit f x scalar fit })
      (subst (λ z. HasTurns g c2.turns (place_in g a z) after) ends turned2)))))

  pub by_pointer : destination_by (extent_of (kind_in f)) ≡ Pointer → TellsPointed g a work needs pushed place base → Loads (pointed_code place (kind_in f))
  by_pointer small tells n weight p k vs c w b t seen has r turns rest =
      let ls : List Line = pointed_code place (kind_in f) in
      let ends : p + length base + length ls ≡ p + length (base ++ ls) = omega (arith, length-append base ls) in
      tells n weight p (Fetch f ∷ k) vs c w b t seen (has_front (lines_of g a) p base ls has) r turns (λ j v c2 w2 b2 u later lt kept told turned.
      let ready = ready_stays g a pushed needs needs c c2 w w2 b b2 t u (omega arith) r kept in
      fetch_follows g a pushed needs f c2 w2 b2 u v (IsFetched g a f c2 w2 b2 u) ls j (weight + 2500) (p + length base) k vs later (has_back (lines_of g a) p base ls has) ready turned
      (λ m o x is e. pointer_fetch g a pushed needs f c2 w2 b2 u placed ready scalar m o x e place small (subst (IsToldBy g a place c2 w2 (with_pointer u)) is told)) (λ i x y after less fit h turned2.
      subst (λ z. Follows g i (weight + 2500 + 3470) (Running k (x ∷ vs) c2) (place_in g a z) y after) (sym ends)
      (follows_weaken g i (weight + 2600) (weight + 2500 + 3470) (Running k (x ∷ vs) c2) (place_in g a (p + length (base ++ ls))) y after (omega arith)
      (rest i x c2 w2 b2 y after (omega (arith, lt, less)) (record { kept = kept_goes_on g a c c2 c2 w w2 w2 b b2 b2 t u y kept h.0; result = h.1; fits = may_fit f x scalar fit })
      (subst (λ z. HasTurns g c2.turns (place_in g a z) after) ends turned2)))))

-- ---- the lines of the generator

-- of what is no element of a small array
pub load_lines_are : (a : Active) (pushed fresh : ℕ) (t : QTy) (e : Typed) (kind : IntType) → element_at a.frame e ≡ None → access_of (types_of a.frame.parts.types) e ≡ Whole kind
    → expr_code a.frame pushed fresh Value (node t (load e)) ≡ base_code a.frame pushed fresh (destination_by (extent_of kind)) e ++ fetch_by (destination_by (extent_of kind)) (place_of a.frame pushed e) kind
load_lines_are a pushed fresh t e kind none is =
    ap (λ (o : Option (Element × IntType)). element_or o (λ x. loaded_element Value x (index_code a.frame pushed fresh e)) (load_by Value (place_of a.frame pushed e) (access_of (types_of a.frame.parts.types) e) (base_code a.frame pushed fresh (destination_of (access_of (types_of a.frame.parts.types) e)) e))) none
    ∙ ap (λ (z : Access). base_code a.frame pushed fresh (destination_of z) e ++ fetch_code (place_of a.frame pushed e) z) is

-- ---- the law

-- the type of a load is that of its place
pub load_shape : (g : World) (a : Active) (t : QTy) (e : Typed) (same : type_in t ≡ type_in (type_of e)) → shape_in g a (node t (load e)) ≡ shape_in g a e
load_shape g a t e same = ap (shape_of (unit_in g).types) same

pub loads_do : LoadsDo
loads_do g a t e placed parts typed plain none does pointed pushed fresh =
    let whole : IsWhole g a e = places_are_whole g a e parts typed.1 plain in
    let f : Shape = shape_in g a e in
    let kind : IntType = kind_in f in
    let shape : shape_in g a (node t (load e)) ≡ f = load_shape g a t e (ap type_in typed.2 ∙ bare_plain (type_of e)) in
    let lines : expr_code a.frame pushed fresh Value (node t (load e)) ≡ base_code a.frame pushed fresh (destination_by (extent_of kind)) e ++ fetch_by (destination_by (extent_of kind)) (place_of a.frame pushed e) kind = load_lines_are a pushed fresh t e kind none whole.access in
    subst (λ ls. Does g a Valued (shape_in g a (node t (load e))) (plan (unit_in g) (node t (load e))) (need e) pushed ls) (sym lines)
    (subst (λ x. Does g a Valued x (λ k. plan (unit_in g) e (Fetch (place_shape (unit_in g).types e) ∷ k)) (need e) pushed (base_code a.frame pushed fresh (destination_by (extent_of kind)) e ++ fetch_by (destination_by (extent_of kind)) (place_of a.frame pushed e) kind)) (sym shape)
    (subst (λ x. Does g a Valued f (λ k. plan (unit_in g) e (Fetch x ∷ k)) (need e) pushed (base_code a.frame pushed fresh (destination_by (extent_of kind)) e ++ fetch_by (destination_by (extent_of kind)) (place_of a.frame pushed e) kind)) (sym whole.shape)
    (go whole.scalar (destination_by (extent_of kind)) refl)))
  where
    go : IsScalar (shape_in g a e) → (d : Destination) → destination_by (extent_of (kind_in (shape_in g a e))) ≡ d
        → Does g a Valued (shape_in g a e) (λ k. plan (unit_in g) e (Fetch (shape_in g a e) ∷ k)) (need e) pushed (base_code a.frame pushed fresh d e ++ fetch_by d (place_of a.frame pushed e) (kind_in (shape_in g a e)))
    go scalar Registers same = by_registers g a placed (shape_in g a e) scalar (plan (unit_in g) e) (need e) pushed (place_of a.frame pushed e) (base_code a.frame pushed fresh Registers e) (does pushed fresh)
    go scalar Pointer same = by_pointer g a placed (shape_in g a e) scalar (plan (unit_in g) e) (need e) pushed (place_of a.frame pushed e) (base_code a.frame pushed fresh Pointer e) same (pointed pushed fresh)
