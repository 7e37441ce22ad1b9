-- The node of a load, in a manner.
use Rattle.std.proofs.Common.{◌≡◌, ℕ, ◌+◌, ◌<◌, ◌≤◌, List, ◌∷◌, ◌++◌, Option, None, true, refl, sym, ap, ◌∙◌, subst, arith, length-append}
use Rattle.std.specs.Prelude.{Ok, length}
use Rattle.c65_ints.specs.declared.types.IntType.{IntType}
use Rattle.c65_ctype.specs.Trees.{QTy}
use Rattle.c65_ctype.specs.Views.{types_of}
use Rattle.c65_csem.specs.Trees.{Typed, node, load}
use Rattle.c65_csem_need.specs.Needs.{need}
use Rattle.c65_meaning.specs.Store as values
use Rattle.c65_meaning.specs.Store.{Value, Shape, read}
use Rattle.c65_meaning.specs.Fits.{Fits}
use Rattle.c65_meaning.specs.Items.{Item, Fetch, plan}
use Rattle.c65_meaning.specs.State.{Scene, Running}
use Rattle.c65_code.specs.declared.line.Line.{Line}
use Rattle.c65_code.specs.LineState.{State}
use Rattle.c65_code.specs.Placement.{IsPlacement}
use Rattle.c65_code.specs.Comes.{Seen}
use Rattle.c65_genload.specs.declared.places.Access.{Access}
use Rattle.c65_genload.specs.declared.places.Access.TheVariants.{Whole}
use Rattle.c65_genload.specs.declared.places.Place.{Place}
use Rattle.c65_genload.specs.Places.{extent_of}
use Rattle.c65_genexpr.specs.declared.destination.Destination.{Destination}
use Rattle.c65_genexpr.specs.declared.elements.Element.{Element}
use Rattle.c65_genexpr.specs.declared.wanted.Wanted.{Wanted}
use Rattle.c65_genexpr.specs.declared.wanted.Wanted.TheVariants.{Value as OfValue}
use Rattle.c65_genexpr.specs.Destination.{destination_by, destination_of, fetch_by}
use Rattle.c65_genexpr.specs.Elements.{element_at, element_or, loaded_element}
use Rattle.c65_genexpr.specs.Operating.{is_light_load}
use Rattle.c65_genexpr.specs.Places.{place_of}
use Rattle.c65_genexpr.specs.Types.{access_of}
use Rattle.c65_genexpr.specs.Code.{expr_code, base_code, index_code, load_by}
use Rattle.c65_agree_store.specs.Stands.{Placing, Banks}
use Rattle.c65_agree_state.specs.World.{World, unit_in, Active, lines_of, place_in, HasAt, HasTurns}
use Rattle.c65_agree_state.specs.Follows.{Follows}
use Rattle.c65_agree_state.specs.Exprs.{Ready, Kept, Valued, shape_in}
use Rattle.c65_agree_state.proofs.Followed.{follows_weaken}
use Rattle.c65_agree_state.proofs.Nodes.{has_front, has_back, ready_stays}
use Rattle.c65_agree_state.proofs.Parts.{kept_goes_on}
use Rattle.c65_agree_put.specs.Laws.{IsScalar}
use Rattle.c65_agree_put.proofs.Fits.{may_fit}
use Rattle.c65_agree_assign.specs.Places.{kind_in}
use Rattle.c65_agree_frame.specs.Leads.{Leads}
use Rattle.c65_agree_operate.specs.Manners.{Manner, IsLeft, DoesIn}
use Rattle.c65_agree_operate.proofs.Manners.{left_then}
use Rattle.c65_agree_structures.specs.Bases.{IsToldBy}
use Rattle.c65_agree_loading.specs.Bases.{arrived_at, handed_on, TellsIn}
use Rattle.c65_agree_loading.specs.LoadLaws.{IsLightLoad, LoadsDoIn}
use Rattle.c65_agree_loading.proofs.Manners.{handed_high}
use Rattle.c65_agree_loading.proofs.Wholes.{IsWhole, loads_are_whole}
use Rattle.c65_agree_loading.proofs.Fetching.{IsLight, is_light, IsFetched, base_fetch, fetch_goes}

-- ---- behind the lines that tell a place

-- lines do the work of a tree, and behind them so much is told of its value, and so much left as it was
abbrev pub TellsBy : World → Active → Manner → ℕ → (Scene → Placing → State → Value → Type 0) → (List Item → List Item) → ℕ → ℕ → List Line → Type 0
TellsBy g a m extra Told work needs pushed lines = (n w p : ℕ) (k : List Item) (vs : List Value) (c : Scene) (q : Placing) (b : Banks) (t : State) (seen : Seen)
    → HasAt (lines_of g a) p lines → Ready g a pushed needs c q b t → HasTurns g c.turns (place_in g a p) seen
    → ((j : ℕ) (v : Value) (c2 : Scene) (q2 : Placing) (b2 : Banks) (u : State) (later : Seen)
    → j < n → Kept g a c q b t c2 q2 b2 u → Told c2 q2 u v → IsLeft m c t c2 u → HasTurns g c2.turns (place_in g a (p + length lines)) later
    → Follows g j (w + extra) (Running k (v ∷ vs) c2) (place_in g a (p + length lines)) u later)
    → Follows g n w (Running (work k) vs c) (place_in g a p) t seen

-- what of a place is told so is loaded by these lines
abbrev pub Fetches : World → Active → Shape → ℕ → ℕ → (Scene → Placing → State → Value → Type 0) → List Line → (Scene → Placing → Banks → State → Value → State → Type 0) → Type 0
Fetches g a f pushed needs Told ls Loaded = (c : Scene) (w : Placing) (k : Banks) (t : State) → Ready g a pushed needs c w k t → (b o : ℕ) (v : Value) → Told c w t (values.Place b o) → read f c.store b o ≡ Ok v → Fits f v × Leads g a ls 526 t (Loaded c w k t v)

module _ (g : World) (a : Active) (m : Manner) (extra : ℕ) (enough : 2500 ≤ extra) (over : m.over ≤ 2000) (f : Shape) (scalar : IsScalar f) (work : List Item → List Item) (needs pushed : ℕ) (Told : Scene → Placing → State → Value → Type 0) (base : List Line) (tells : TellsBy g a m extra Told work needs pushed base) where
  pub value_behind : (ls : List Line) → Fetches g a f pushed needs Told ls (IsFetched g a m f) → DoesIn g a m Valued f (λ k. work (Fetch f ∷ k)) needs pushed (base ++ ls)
  value_behind ls fetch n weight p k vs c w b t seen has r turns rest =
      let more : ℕ = weight + extra in
      let ends : p + length base + length ls ≡ p + length (base ++ ls) = omega (arith, length-append base ls) in
      tells n weight p (Fetch f ∷ k) vs c w b t seen (has_front (lines_of g a) p base ls has) r turns (λ j v c2 w2 b2 u later lt kept told left turned.
      let ready = ready_stays g a pushed needs needs c c2 w w2 b b2 t u (omega arith) r kept in
      fetch_goes g a pushed needs f c2 w2 b2 u v (IsFetched g a m f c2 w2 b2 u) ls j more (p + length base) k vs later (has_back (lines_of g a) p base ls has) ready turned
      (λ x o y is e. fetch c2 w2 b2 u ready x o y (subst (Told c2 w2 u) is told) e) (λ i x y after less fit h turned2.
      subst (λ z. Follows g i (more + 3470) (Running k (x ∷ vs) c2) (place_in g a z) y after) (sym ends)
      (follows_weaken g i (weight + 2600 + m.over) (more + 3470) (Running k (x ∷ vs) c2) (place_in g a (p + length (base ++ ls))) y after (omega (arith, over, enough))
      (rest i x c2 w2 b2 y after (omega (arith, lt, less)) (record { kept = kept_goes_on g a c c2 c2 w w2 w2 b b2 b2 t u y kept h.kept; result = h.result; fits = may_fit f x scalar fit }) (left_then m c c2 c2 t u y left h.left)
      (subst (λ z. HasTurns g c2.turns (place_in g a z) after) ends turned2)))))

-- ---- the lines of the generator

-- whatever is wanted of what is no element of a small array
pub load_lines : (a : Active) (pushed fresh : ℕ) (q : Wanted) (t : QTy) (e : Typed) (kind : IntType) → element_at a.frame e ≡ None → access_of (types_of a.frame.parts.types) e ≡ Whole kind
    → expr_code a.frame pushed fresh q (node t (load e)) ≡ load_by q (place_of a.frame pushed e) (Whole kind) (base_code a.frame pushed fresh (destination_by (extent_of kind)) e)
load_lines a pushed fresh q t e kind none is =
    ap (λ (o : Option (Element × IntType)). element_or o (λ x. loaded_element q x (index_code a.frame pushed fresh e)) (load_by q (place_of a.frame pushed e) (access_of (types_of a.frame.parts.types) e) (base_code a.frame pushed fresh (destination_of (access_of (types_of a.frame.parts.types) e)) e))) none
    ∙ ap (λ (z : Access). load_by q (place_of a.frame pushed e) z (base_code a.frame pushed fresh (destination_of z) e)) is

-- ---- the law

pub light_there : (a : Active) (m : Manner) (e : Typed) (kind : IntType) (pushed : ℕ) → access_of (types_of a.frame.parts.types) e ≡ Whole kind → IsLightLoad a m e → m.light ≡ true → IsLight (place_of a.frame pushed e) kind
light_there a m e kind pushed is light h = is_light (place_of a.frame pushed e) kind (subst (λ (z : Access). is_light_load (place_of a.frame pushed e) z true ≡ true) is (light pushed h))

-- what the lines of a base tell
abbrev pub ToldFrom : World → Active → Destination → Place → Scene → Placing → State → Value → Type 0
ToldFrom g a d place c w u v = IsToldBy g a place c w (arrived_at d u) v

-- the lines of a load behind those of its base
pub load_behind : (g : World) (a : Active) (m : Manner) (d : Destination) (f : Shape) (work : List Item → List Item) (needs pushed : ℕ) (place : Place) (base : List Line) → IsPlacement g.code g.place → m.over ≤ 2000 → IsScalar f → destination_by (extent_of (kind_in f)) ≡ d
    → (m.light ≡ true → IsLight place (kind_in f)) → TellsIn g a m d work needs pushed place base → DoesIn g a m Valued f (λ k. work (Fetch f ∷ k)) needs pushed (base ++ fetch_by d place (kind_in f))
load_behind g a m d f work needs pushed place base placed over scalar same light tells =
    value_behind g a m (handed_on d) (handed_high d) over f scalar work needs pushed (ToldFrom g a d place) base tells (fetch_by d place (kind_in f))
    (λ c w k t r b o v told e. base_fetch g a m pushed needs f c w k t placed r scalar b o v e d place same told light)

pub loads_do_in : LoadsDoIn
loads_do_in g a m t e placed over plain light does pushed fresh =
    let whole : IsWhole g a t e = loads_are_whole g a t e plain.parts plain.typed plain.whole in
    let f : Shape = shape_in g a e in
    let kind : IntType = kind_in f in
    let d : Destination = destination_by (extent_of kind) in
    let lines : List Line = base_code a.frame pushed fresh d e ++ fetch_by d (place_of a.frame pushed e) kind in
    subst (λ ls. DoesIn g a m Valued (shape_in g a (node t (load e))) (plan (unit_in g) (node t (load e))) (need e) pushed ls) (sym (load_lines a pushed fresh OfValue t e kind plain.single whole.access))
    (subst (λ x. DoesIn g a m Valued x (plan (unit_in g) (node t (load e))) (need e) pushed lines) (sym whole.same)
    (subst (λ x. DoesIn g a m Valued f (λ k. plan (unit_in g) e (Fetch x ∷ k)) (need e) pushed lines) (sym whole.shape)
    (load_behind g a m d f (plan (unit_in g) e) (need e) pushed (place_of a.frame pushed e) (base_code a.frame pushed fresh d e) placed (omega (arith, over)) whole.scalar refl (light_there a m e kind pushed whole.access light) (does d pushed fresh))))
