-- What a pointer names is loaded.
use Rattle.std.proofs.Common.{◌≡◌, ℕ, ◌+◌, ◌<◌, List, ◌∷◌, ◌++◌, Some, Bool, true, false, sym, ap, ◌∙◌, subst, arith, length-append}
use Rattle.std.specs.Prelude.{if◌then◌else◌, Ok, Err, length}
use Rattle.c65_ints.specs.declared.types.IntType.{IntType}
use Rattle.c65_ints.specs.declared.types.IntType.TheVariants as I
use Rattle.c65_meaning.specs.declared.action.Action.TheVariants.{OutsideObject, EndedObject}
use Rattle.c65_meaning.specs.Why.{By}
use Rattle.c65_meaning.specs.Store.{Value, Whole, Null, Opaque, Cells, NoValue, Shape, Pointer, is_live}
use Rattle.c65_meaning.specs.Store as values
use Rattle.c65_meaning.specs.Operators.{unusable, named_by}
use Rattle.c65_meaning.specs.Items.{Item, Follow, Fetch}
use Rattle.c65_meaning.specs.State.{Scene, Running}
use Rattle.c65_meaning.specs.Step.{go_on}
use Rattle.c65_code.specs.declared.line.Line.{Line}
use Rattle.c65_code.specs.LineState.{State, ax_of}
use Rattle.c65_code.specs.Placement.{IsPlacement}
use Rattle.c65_code.specs.Comes.{Seen}
use Rattle.c65_genload.specs.declared.places.Access.TheVariants as access
use Rattle.c65_genload.specs.declared.places.Place.TheVariants.{Far}
use Rattle.c65_genload.specs.Places.{extent_of}
use Rattle.c65_genload.specs.Loads.{load_code}
use Rattle.c65_agree_store.specs.Stands.{At, Placing, Banks, beyond}
use Rattle.c65_agree_state.specs.World.{World, Active, lines_of, place_in, HasAt, HasTurns}
use Rattle.c65_agree_state.specs.Follows.{Follows}
use Rattle.c65_agree_state.specs.Exprs.{Ready, Valued, ResultIs, Done, Rest, width_in}
use Rattle.c65_agree_state.proofs.Followed.{follows_weaken, steps_earn, ready_is_calm}
use Rattle.c65_agree_state.proofs.Nodes.{has_front, has_back, ready_stays}
use Rattle.c65_agree_state.proofs.Parts.{kept_goes_on}
use Rattle.c65_agree_places.specs.Places.{IsReached}
use Rattle.c65_agree_rows.proofs.Quiet.{nothing_follows}
use Rattle.c65_agree_put.specs.Laws.{IsScalar}
use Rattle.c65_agree_assign.specs.Places.{kind_in}
use Rattle.c65_agree_load.specs.Loads.{IsKeptThere, IsMeantThere}
use Rattle.c65_agree_load.specs.Objects.{TargetsAreLoaded}
use Rattle.c65_agree_load.proofs.Fetched.{fetches_are_followed}
use Rattle.c65_agree_put.proofs.Fits.{may_fit}

far_is_kept : (kind : IntType) → IsKeptThere (Far 0) (extent_of kind)
far_is_kept I.SChar = tt
far_is_kept I.UChar = tt
far_is_kept I.Short = tt
far_is_kept I.UShort = tt
far_is_kept I.Int = tt
far_is_kept I.UInt = tt
far_is_kept I.Long = tt
far_is_kept I.ULong = tt

-- a block that a pointer in AX names
named_is_meant : (g : World) (a : Active) (size : ℕ) (c : Scene) (w : Placing) (t : State) (b o : ℕ) → ResultIs Valued w (width_in (Pointer size)) (values.Place b o) t → IsMeantThere g a c w t (Far 0) b o
named_is_meant g a size c w t b o result x q is =
    let one : Some q ≡ Some (At result.0) = sym is.place ∙ result.1 in
    let same : q ≡ At result.0 = cc in
    let there : ax_of t + 0 ≡ result.0 + o = omega (arith, result.2) in
    (subst (IsReached a) (sym same) tt, ap At there ∙ ap (λ s. beyond s o) (sym same))

-- behind the lines of a pointer
module _ (g : World) (a : Active) (size : ℕ) (f : Shape) (pushed needs : ℕ) (lines : List Line) (placed : IsPlacement g.code g.place) (scalar : IsScalar f) (n weight p : ℕ) (k : List Item) (vs : List Value) (c : Scene) (w : Placing) (b : Banks) (t : State)
    (has : HasAt (lines_of g a) (p + length lines) (load_code (Far 0) (access.Whole (kind_in f)))) (rest : Rest g a Valued f n weight k vs (p + length (lines ++ load_code (Far 0) (access.Whole (kind_in f)))) c w b t) where
  abbrev load : List Line
  load = load_code (Far 0) (access.Whole (kind_in f))

  behind : p + length lines + length load ≡ p + length (lines ++ load)
  behind = omega (arith, length-append lines load)

  module _ (j : ℕ) (lt : j < n) (c2 : Scene) (w2 : Placing) (b2 : Banks) (u : State) (later : Seen) (ready : Ready g a pushed needs c2 w2 b2 u) (turned : HasTurns g c2.turns (place_in g a (p + length lines)) later) (i : ℕ) (less : i < j) where
    at_place : (m o : ℕ) → Done g a Valued (Pointer size) c w b t (values.Place m o) c2 w2 b2 u → Follows g i (weight + 2600 + 4000) (Running (Fetch f ∷ k) (values.Place m o ∷ vs) c2) (place_in g a (p + length lines)) u later
    at_place m o done =
        fetches_are_followed g a pushed needs (Far 0) f c2 w2 b2 u m o i (weight + 2600 + 4000) (p + length lines) k vs later placed has ready scalar (omega arith) (far_is_kept (kind_in f)) (named_is_meant g a size c2 w2 u m o done.result) turned (λ h v x after fewer kept result fits e turns2.
        let both : Done g a Valued f c w b t v c2 w2 b2 x = record { kept = kept_goes_on g a c c2 c2 w w2 w2 b b2 b2 t u x done.kept kept; result = result; fits = may_fit f v scalar fits } in
        subst (λ z. Follows g h (weight + 2600 + 4000 + 3470) (Running k (v ∷ vs) c2) (place_in g a z) x after) (sym behind)
        (follows_weaken g h (weight + 2600) (weight + 2600 + 4000 + 3470) (Running k (v ∷ vs) c2) (place_in g a (p + length (lines ++ load))) x after (omega arith)
        (rest h v c2 w2 b2 x after (omega (arith, lt, less, fewer)) both (subst (λ z. HasTurns g c2.turns (place_in g a z) after) behind turns2))))

    while_it_lives : (m o : ℕ) (live : Bool) → Done g a Valued (Pointer size) c w b t (values.Place m o) c2 w2 b2 u → Follows g i (weight + 2600 + 4000) (go_on (if live then Ok (values.Place m o) else Err (By EndedObject)) (Fetch f ∷ k) vs c2) (place_in g a (p + length lines)) u later
    while_it_lives m o true done = at_place m o done
    while_it_lives m o false done = nothing_follows g (By EndedObject) i (weight + 2600 + 4000) (place_in g a (p + length lines)) u later

    followed : (v : Value) → Done g a Valued (Pointer size) c w b t v c2 w2 b2 u → Follows g i (weight + 2600 + 4000) (go_on (named_by c2.store v) (Fetch f ∷ k) vs c2) (place_in g a (p + length lines)) u later
    followed (values.Place m o) done = while_it_lives m o (is_live c2.store m) done
    followed Null done = nothing_follows g (By OutsideObject) i (weight + 2600 + 4000) (place_in g a (p + length lines)) u later
    followed (Whole z) done = nothing_follows g (unusable (Whole z)) i (weight + 2600 + 4000) (place_in g a (p + length lines)) u later
    followed Opaque done = nothing_follows g (unusable Opaque) i (weight + 2600 + 4000) (place_in g a (p + length lines)) u later
    followed (Cells xs) done = nothing_follows g (unusable (Cells xs)) i (weight + 2600 + 4000) (place_in g a (p + length lines)) u later
    followed NoValue done = nothing_follows g (unusable NoValue) i (weight + 2600 + 4000) (place_in g a (p + length lines)) u later

pub targets_are_loaded : TargetsAreLoaded
targets_are_loaded g a size f work needs pushed lines placed scalar does n weight p k vs c w b t seen has r turns rest =
    does n weight p (Follow ∷ Fetch f ∷ k) vs c w b t seen (has_front (lines_of g a) p lines (load_code (Far 0) (access.Whole (kind_in f))) has) r turns (λ j v c2 w2 b2 u later lt done turned.
    let ready = ready_stays g a pushed needs needs c c2 w w2 b b2 t u (omega arith) r done.kept in
    steps_earn g j (weight + 2600) Follow (Fetch f ∷ k) (v ∷ vs) c2 (place_in g a (p + length lines)) u later (ready_is_calm g a pushed needs c2 w2 b2 u ready).calm done.kept.joins.output done.kept.joins.ended (omega (arith, turned)) (λ i less.
    followed g a size f pushed needs lines placed scalar n weight p k vs c w b t (has_back (lines_of g a) p lines (load_code (Far 0) (access.Whole (kind_in f))) has) rest j lt c2 w2 b2 u later ready turned i less v done))
