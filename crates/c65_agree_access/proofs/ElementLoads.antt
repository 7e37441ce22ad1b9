-- Loads of elements.
use Rattle.std.proofs.Common.{◌≡◌, ℕ, ◌+◌, ◌*◌, ◌%◌, ◌<◌, ◌≤◌, List, [], ◌∷◌, ◌++◌, Option, Some, None, Bool, true, false, refl, sym, ap, ◌∙◌, subst, arith, length-append}
use Rattle.std.specs.Prelude.{Ok, length, is_some, not, ◌&&◌}
use Rattle.c65_ints.specs.declared.types.IntType.{IntType}
use Rattle.c65_ctype.specs.Trees.{type_in}
use Rattle.c65_ctype.specs.Views.{types_of}
use Rattle.c65_csem.specs.Trees.{Typed, node, load, type_of}
use Rattle.c65_csem_need.specs.Needs.{need}
use Rattle.c65_meaning.specs.Store as values
use Rattle.c65_meaning.specs.Store.{Value, Whole, Null, Opaque, Cells, NoValue, Shape, size_in_store, block_size, read}
use Rattle.c65_meaning.specs.Fits.{Fits}
use Rattle.c65_meaning.specs.Items.{Item, Fetch, plan}
use Rattle.c65_meaning.specs.Shapes.{place_shape}
use Rattle.c65_meaning.specs.State.{Scene, Running}
use Rattle.c65_code.specs.declared.line.Line.{Line}
use Rattle.c65_code.specs.LineState.{State}
use Rattle.c65_code.specs.Comes.{Seen}
use Rattle.c65_code.specs.Placement.{IsPlacement}
use Rattle.c65_genwide.specs.Wide.{narrow_code}
use Rattle.c65_genload.specs.declared.places.Access.{Access}
use Rattle.c65_genload.specs.declared.places.Access.TheVariants as accesses
use Rattle.c65_genload.specs.declared.places.Extent.{Extent}
use Rattle.c65_genload.specs.declared.places.Extent.TheVariants.{One, Two, Three, Four}
use Rattle.c65_genload.specs.Places.{extent_of}
use Rattle.c65_genexpr.specs.declared.elements.Element.{Element}
use Rattle.c65_genexpr.specs.declared.wanted.Wanted.TheVariants as wanted
use Rattle.c65_genexpr.specs.Destination.{destination_of}
use Rattle.c65_genexpr.specs.Operating.{is_signed_char}
use Rattle.c65_genexpr.specs.Elements.{doublings, element_of, typed_by, element_by, element_at, element_or, reached_code, element_bytes_code, element_value_code, loaded_element}
use Rattle.c65_genexpr.specs.Places.{place_of}
use Rattle.c65_genexpr.specs.Types.{access_of}
use Rattle.c65_genexpr.specs.Code.{expr_code, base_code, index_code, load_by}
use Rattle.c65_agree_store.specs.Stands.{At, Placing, Banks}
use Rattle.c65_agree_state.specs.World.{World, unit_in, Active, lines_of, place_in, HasAt, HasTurns}
use Rattle.c65_agree_state.specs.Follows.{Follows}
use Rattle.c65_agree_state.specs.Exprs.{Ready, Kept, Valued, ResultIs, width_in, shape_in}
use Rattle.c65_agree_state.proofs.Followed.{follows_weaken}
use Rattle.c65_agree_state.proofs.Nodes.{has_front, has_back, ready_stays}
use Rattle.c65_agree_state.proofs.Parts.{kept_goes_on}
use Rattle.c65_agree_put.specs.Laws.{IsScalar}
use Rattle.c65_agree_put.proofs.Fits.{may_fit}
use Rattle.c65_agree_assign.specs.Places.{kind_in}
use Rattle.c65_agree_direct.proofs.Trees.{bare_plain}
use Rattle.c65_agree_frame.specs.Leads.{Leads}
use Rattle.c65_agree_load.proofs.Fetched.{IsRead, is_read}
use Rattle.c65_agree_operate.specs.Manners.{Manner, IsLeft, DoesIn}
use Rattle.c65_agree_operate.proofs.Manners.{left_then}
use Rattle.c65_agree_access.specs.LoadLaws.{IsWhole}
use Rattle.c65_agree_access.proofs.Wholes.{places_are_whole}
use Rattle.c65_agree_access.proofs.Fetching.{fetch_follows}
use Rattle.c65_agree_access.proofs.Loads.{load_shape}
use Rattle.c65_agree_access.specs.Elements.{IsIndexed, IsElement, TellsElement}
use Rattle.c65_agree_access.specs.ElementLaws.{ElementLoadsDo}
use Rattle.c65_agree_access.proofs.ElementNeeds.{some_bytes, element_needs}
use Rattle.c65_agree_access.proofs.Reached.{IsReached, reaches}
use Rattle.c65_agree_access.proofs.ByIndex.{IsOther, IsShort, fetched}

-- ---- the place, behind the lines that reach it

-- what is read ends within the array, so Y tells where the element begins
pub reached_is : (g : World) (a : Active) (pushed needs : ℕ) (f : Shape) (c : Scene) (w : Placing) (k : Banks) (t : State) (x : Element) (b o : ℕ) (v : Value) → Ready g a pushed needs c w k t → IsScalar f → read f c.store b o ≡ Ok v
    → (start y : ℕ) → y ≡ start % 256 → block_size c.store b ≤ 256 → o ≡ start + x.at → y + x.at ≡ o
reached_is g a pushed needs f c w k t x b o v r scalar e start y reached small offset =
    let there : IsRead f c.store b o v = is_read f c.store b o v e in
    let size : block_size c.store b ≡ there.block.size = ap size_in_store there.is in
    let whole = r.joins.stands.whole b there.block there.is in
    omega (arith, reached, small, offset, size, whole, there.fits, some_bytes f scalar)

-- lines behind the index that reach the element, and then load
module _ (g : World) (a : Active) (m : Manner) (f : Shape) (work : List Item → List Item) (needs pushed : ℕ) (some : 1 ≤ needs) (x : Element) (placed : IsPlacement g.code g.place) (light : m.light ≡ true → is_some (doublings x.size) ≡ true) (index ls : List Line) (P : Scene → Placing → Value → State → Type 0) where
  abbrev lines : List Line
  lines = index ++ (reached_code x ++ ls)

  -- what the last lines are to do
  abbrev pub Fetches : Type 0
  Fetches = (c : Scene) (w : Placing) (b : Banks) (t : State) (d o : ℕ) (v : Value) → Ready g a pushed needs c w b t → read f c.store d o ≡ Ok v → w d ≡ Some (At (g.place.address x.sym.0)) → o ≤ block_size c.store d → t.regs.y + x.at ≡ o
      → Fits f v × Leads g a ls 526 t (IsOther g a m c w b t (P c w v))

  module _ (scalar : IsScalar f) (loads : Fetches) (n weight p : ℕ) (k : List Item) (vs : List Value) (c : Scene) (w : Placing) (b : Banks) (t : State) (has : HasAt (lines_of g a) p lines) (r : Ready g a pushed needs c w b t)
      (rest : (j : ℕ) (v : Value) (c2 : Scene) (w2 : Placing) (b2 : Banks) (u : State) (later : Seen) → j < n → Kept g a c w b t c2 w2 b2 u → Fits f v → P c2 w2 v u → IsLeft m c t c2 u → HasTurns g c2.turns (place_in g a (p + length lines)) later
      → Follows g j (weight + 2700 + m.over) (Running k (v ∷ vs) c2) (place_in g a (p + length lines)) u later) where
    has_more : HasAt (lines_of g a) (p + length index) (reached_code x ++ ls)
    has_more = has_back (lines_of g a) p index (reached_code x ++ ls) has

    has_last : HasAt (lines_of g a) (p + length index + length (reached_code x)) ls
    has_last = has_back (lines_of g a) (p + length index) (reached_code x) ls has_more

    ends : p + length index + length (reached_code x) + length ls ≡ p + length lines
    ends = omega (arith, length-append index (reached_code x ++ ls), length-append (reached_code x) ls)

    module _ (j : ℕ) (lt : j < n) (c2 : Scene) (w2 : Placing) (b2 : Banks) (u : State) (later : Seen) (kept : Kept g a c w b t c2 w2 b2 u) (left : IsLeft m c t c2 u) (turned : HasTurns g c2.turns (place_in g a (p + length index)) later) where
      ready : Ready g a pushed needs c2 w2 b2 u
      ready = ready_stays g a pushed needs needs c c2 w w2 b b2 t u (omega arith) r kept

      -- nothing is defined behind what is no place
      nowhere : (v : Value) → ((d o : ℕ) → v ≡ values.Place d o → ⊥) → Follows g j (weight + 6000 + m.over) (Running (Fetch f ∷ k) (v ∷ vs) c2) (place_in g a (p + length index)) u later
      nowhere v none =
          fetch_follows g a pushed needs f c2 w2 b2 u v (λ y z. ⊥) [] j (weight + 6000 + m.over) (p + length index) k vs later tt ready turned (λ d o y same e. absurd (none d o same)) (λ i y z after less fit bad turned2. absurd bad)

      module _ (d o : ℕ) (h : IsIndexed g x c2 w2 u d o) (y : State) (after : Seen) (reached : IsReached g a m c2 w2 b2 u ((u.regs.a * x.size) % 256) y) (turned2 : HasTurns g c2.turns (place_in g a (p + length index + length (reached_code x))) after) where
        ready_there : Ready g a pushed needs c2 w2 b2 y
        ready_there = ready_stays g a pushed needs needs c2 c2 w2 w2 b2 b2 u y (omega arith) ready reached.kept

        loaded : (v : Value) → read f c2.store d o ≡ Ok v → Fits f v × Leads g a ls 526 y (IsOther g a m c2 w2 b2 y (P c2 w2 v))
        loaded v e = loads c2 w2 b2 y d o v ready_there e h.stands h.within (reached_is g a pushed needs f c2 w2 b2 y x d o v ready_there scalar e h.start y.regs.y (reached.y ∙ h.low) h.small h.offset)

        fetch : Follows g j (weight + 3600 + m.over) (Running (Fetch f ∷ k) (values.Place d o ∷ vs) c2) (place_in g a (p + length index + length (reached_code x))) y after
        fetch =
            fetch_follows g a pushed needs f c2 w2 b2 y (values.Place d o) (λ v z. IsOther g a m c2 w2 b2 y (P c2 w2 v) z) ls j (weight + 3600 + m.over) (p + length index + length (reached_code x)) k vs after has_last ready_there turned2
            (λ d2 o2 v same e. let one : d ≡ d2 = cc in let two : o ≡ o2 = cc in loaded v (ap (λ z. read f c2.store z o) one ∙ (ap (read f c2.store d2) two ∙ e))) (λ i v z last less fit l turned3.
            subst (λ q. Follows g i (weight + 3600 + m.over + 3470) (Running k (v ∷ vs) c2) (place_in g a q) z last) (sym ends)
            (follows_weaken g i (weight + 2700 + m.over) (weight + 3600 + m.over + 3470) (Running k (v ∷ vs) c2) (place_in g a (p + length lines)) z last (omega arith)
            (rest i v c2 w2 b2 z last (omega (arith, lt, less)) (kept_goes_on g a c c2 c2 w w2 w2 b b2 b2 t u z kept (kept_goes_on g a c2 c2 c2 w2 w2 w2 b2 b2 b2 u y z reached.kept l.kept)) fit l.so
            (left_then m c c2 c2 t u z left (left_then m c2 c2 c2 u y z reached.left l.left)) (subst (λ q. HasTurns g c2.turns (place_in g a q) last) ends turned3))))

      at_place : (d o : ℕ) → IsIndexed g x c2 w2 u d o → Follows g j (weight + 6000 + m.over) (Running (Fetch f ∷ k) (values.Place d o ∷ vs) c2) (place_in g a (p + length index)) u later
      at_place d o h =
          follows_weaken g j (2400 + (weight + 3600 + m.over)) (weight + 6000 + m.over) (Running (Fetch f ∷ k) (values.Place d o ∷ vs) c2) (place_in g a (p + length index)) u later (omega arith)
          (reaches g a m pushed needs c2 w2 b2 u placed ready some x h.narrow light j (weight + 3600 + m.over) (p + length index) c2.turns (Running (Fetch f ∷ k) (values.Place d o ∷ vs) c2) later (has_front (lines_of g a) (p + length index) (reached_code x) ls has_more) turned (λ y after reached turned2.
          fetch d o h y after reached turned2))

      by_value : (v : Value) → IsElement g x c2 w2 u v → Follows g j (weight + 6000 + m.over) (Running (Fetch f ∷ k) (v ∷ vs) c2) (place_in g a (p + length index)) u later
      by_value (values.Place d o) h = at_place d o h
      by_value (Whole z) h = nowhere (Whole z) (λ d o same. cc)
      by_value Null h = nowhere Null (λ d o same. cc)
      by_value Opaque h = nowhere Opaque (λ d o same. cc)
      by_value (Cells xs) h = nowhere (Cells xs) (λ d o same. cc)
      by_value NoValue h = nowhere NoValue (λ d o same. cc)

    pub element_follows : (seen : Seen) → HasTurns g c.turns (place_in g a p) seen → TellsElement g a m work needs pushed x index → Follows g n weight (Running (work (Fetch f ∷ k)) vs c) (place_in g a p) t seen
    element_follows seen turns tells =
        tells n weight p (Fetch f ∷ k) vs c w b t seen (has_front (lines_of g a) p index (reached_code x ++ ls) has) r turns (λ j v c2 w2 b2 u later lt kept element left turned.
        by_value j lt c2 w2 b2 u later kept left turned v element)

-- ---- the generator's element

pub record IsAt (a : Active) (e : Typed) (x : Element) (kind own : IntType) : Type 0 where
  pub is : element_of a.frame e ≡ Some x
  pub same : own ≡ kind
  pub short : IsShort (extent_of own)

typed : (a : Active) (e : Typed) (x : Element) (kind own : IntType) (o : Option Element) (extent : Extent) → element_of a.frame e ≡ o → extent_of own ≡ extent → typed_by own extent o ≡ Some (x, kind) → IsAt a e x kind own
typed a e x kind own (Some y) One is short h = let same : (y, own) ≡ (x, kind) = cc in record { is = is ∙ ap (λ (z : Element × IntType). Some z.0) same; same = ap (λ (z : Element × IntType). z.1) same; short = subst IsShort (sym short) tt }
typed a e x kind own (Some y) Two is short h = let same : (y, own) ≡ (x, kind) = cc in record { is = is ∙ ap (λ (z : Element × IntType). Some z.0) same; same = ap (λ (z : Element × IntType). z.1) same; short = subst IsShort (sym short) tt }
typed a e x kind own None One is short h = absurd cc
typed a e x kind own None Two is short h = absurd cc
typed a e x kind own o Three is short h = absurd cc
typed a e x kind own o Four is short h = absurd cc

-- with the type of its place
pub element_is : (g : World) (a : Active) (e : Typed) (x : Element) (kind : IntType) → IsWhole g a e → element_at a.frame e ≡ Some (x, kind) → IsAt a e x kind (kind_in (shape_in g a e))
element_is g a e x kind whole is =
    let own : IntType = kind_in (shape_in g a e) in
    typed a e x kind own (element_of a.frame e) (extent_of own) refl refl (subst (λ (z : Access). element_by z (element_of a.frame e) ≡ Some (x, kind)) whole.access is)

-- ---- the law

pub both_light : (x y : Bool) → x && not y ≡ true → (x ≡ true) × (y ≡ false)
both_light true false h = (refl, refl)
both_light true true h = absurd cc
both_light false y h = absurd cc

pub element_loads_do : ElementLoadsDo
element_loads_do g a m pushed fresh t e x kind placed parts tree plain is light does =
    let whole : IsWhole g a e = places_are_whole g a e parts tree.1 plain in
    let f : Shape = shape_in g a e in
    let own : IntType = kind_in f in
    let at : IsAt a e x kind own = element_is g a e x kind whole is in
    let shape : shape_in g a (node t (load e)) ≡ f = load_shape g a t e (ap type_in tree.2 ∙ bare_plain (type_of e)) in
    let index : List Line = index_code a.frame pushed fresh e in
    let ls : List Line = element_bytes_code x (extent_of own) ++ narrow_code own in
    let lines : expr_code a.frame pushed fresh wanted.Value (node t (load e)) ≡ index ++ (reached_code x ++ ls) =
    ap (λ (o : Option (Element × IntType)). element_or o (λ y. loaded_element wanted.Value y index) (load_by wanted.Value (place_of a.frame pushed e) (access_of (types_of a.frame.parts.types) e) (base_code a.frame pushed fresh (destination_of (access_of (types_of a.frame.parts.types) e)) e))) is
    ∙ ap (λ (z : IntType). index ++ element_value_code x z) (sym at.same) in
    let few : m.light ≡ true → is_some (doublings x.size) ≡ true = λ h. (both_light (is_some (doublings x.size)) (is_signed_char kind) (light h)).0 in
    let plain_char : m.light ≡ true → is_signed_char own ≡ false = λ h. ap is_signed_char at.same ∙ (both_light (is_some (doublings x.size)) (is_signed_char kind) (light h)).1 in
    subst (λ z. DoesIn g a m Valued (shape_in g a (node t (load e))) (plan (unit_in g) (node t (load e))) (need e) pushed z) (sym lines)
    (subst (λ z. DoesIn g a m Valued z (λ k. plan (unit_in g) e (Fetch (place_shape (unit_in g).types e) ∷ k)) (need e) pushed (index ++ (reached_code x ++ ls))) (sym shape)
    (subst (λ z. DoesIn g a m Valued f (λ k. plan (unit_in g) e (Fetch z ∷ k)) (need e) pushed (index ++ (reached_code x ++ ls))) (sym whole.shape)
    (λ n weight p k vs c w b s seen has r turned rest.
    element_follows g a m f (plan (unit_in g) e) (need e) pushed (element_needs a.frame e x at.is) x placed few index ls (λ c2 w2 v u. ResultIs Valued w2 (width_in f) v u) whole.scalar
    (λ c2 w2 b2 u d o v ready e2 stands inside reached. fetched g a m pushed (need e) f c2 w2 b2 u placed ready whole.scalar x d o v e2 stands inside reached at.short plain_char)
    n weight p k vs c w b s has r (λ j v c2 w2 b2 u later lt kept fit result left turned2.
    follows_weaken g j (weight + 2600 + m.over) (weight + 2700 + m.over) (Running k (v ∷ vs) c2) (place_in g a (p + length (index ++ (reached_code x ++ ls)))) u later (omega arith)
    (rest j v c2 w2 b2 u later lt (record { kept = kept; result = result; fits = may_fit f v whole.scalar fit }) left turned2))
    seen turned (does x pushed fresh at.is))))
