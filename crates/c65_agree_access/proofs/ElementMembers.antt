-- Members of elements (C90 6.3.2.3).
use Rattle.std.proofs.Common.{◌≡◌, ℕ, ◌+◌, ◌≤◌, List, ◌∷◌, Option, Some, None, pos, refl, sym, subst, arith}
use Rattle.std.specs.Prelude.{length, option_map}
use Rattle.c65_ctype.specs.Views.{types_of}
use Rattle.c65_csem.specs.Places.{member_at}
use Rattle.c65_csem_need.specs.Needs.{need}
use Rattle.c65_meaning.specs.Store as values
use Rattle.c65_meaning.specs.Store.{block_size}
use Rattle.c65_meaning.specs.Items.{Item, Move, plan}
use Rattle.c65_meaning.specs.Shapes.{bare_type, offset_of}
use Rattle.c65_meaning.specs.State.{Scene, Running}
use Rattle.c65_code.specs.declared.line.Line.{Line}
use Rattle.c65_code.specs.LineState.{State}
use Rattle.c65_genexpr.specs.declared.elements.Element.{Element}
use Rattle.c65_genexpr.specs.Types.{bare, offset_at}
use Rattle.c65_genexpr.specs.Elements.{onward, element_of}
use Rattle.c65_genexpr.specs.Code.{index_code}
use Rattle.c65_agree_store.specs.Stands.{Placing}
use Rattle.c65_agree_state.specs.World.{World, unit_in, Active, place_in}
use Rattle.c65_agree_state.proofs.Followed.{follows_weaken, steps_earn, ready_is_calm}
use Rattle.c65_agree_state.proofs.Nodes.{ready_stays}
use Rattle.c65_agree_operate.specs.Manners.{Manner}
use Rattle.c65_agree_structures.proofs.Members.{moves, is_moved, pos_same, offset_is}
use Rattle.c65_agree_access.specs.Elements.{IsIndexed, IsElement, TellsElement}
use Rattle.c65_agree_access.specs.ElementLaws.{MembersAreElements}

-- so much farther in the array
moved_on : (g : World) (x : Element) (c : Scene) (w : Placing) (u : State) (b o n to : ℕ) → to ≡ o + n → to ≤ block_size c.store b → IsIndexed g x c w u b o → IsIndexed g (onward n x) c w u b to
moved_on g x c w u b o n to sum inside h = record {
  start = h.start;
  low = h.low;
  stands = h.stands;
  small = h.small;
  within = inside;
  offset = omega (arith, sum, inside, h.small, h.offset);
  narrow = h.narrow;
}

moved_tells : (g : World) (a : Active) (m : Manner) (work : List Item → List Item) (needs pushed offset : ℕ) (x : Element) (lines : List Line) → TellsElement g a m work needs pushed x lines → TellsElement g a m (λ k. work (Move offset ∷ k)) needs pushed (onward offset x) lines
moved_tells g a m work needs pushed offset x lines tells n weight p k vs c w b t seen has r turned rest =
    tells n weight p (Move offset ∷ k) vs c w b t seen has r turned (λ j v c2 w2 b2 u later lt kept element left turned2.
    let ready = ready_stays g a pushed needs needs c c2 w w2 b b2 t u (omega arith) r kept in
    steps_earn g j (weight + 6000 + m.over) (Move offset) k (v ∷ vs) c2 (place_in g a (p + length lines)) u later (ready_is_calm g a pushed needs c2 w2 b2 u ready).calm kept.joins.output kept.joins.ended (omega (arith, turned2)) (λ i less.
    moves g a i (weight + 6000 + m.over + 4000) (p + length lines) k vs c2 u later (pos offset) v (λ d o y same f.
    let known = is_moved c2.store d o (pos offset) y f in
    let to_is : known.to ≡ o + offset = sym (pos_same (o + offset) known.to known.sum) in
    let there : IsElement g x c2 w2 u (values.Place d o) = subst (IsElement g x c2 w2 u) same element in
    follows_weaken g i (weight + 6000 + m.over) (weight + 6000 + m.over + 4000) (Running k (y ∷ vs) c2) (place_in g a (p + length lines)) u later (omega arith)
    (rest i y c2 w2 b2 u later (omega (arith, lt, less)) kept (subst (IsElement g (onward offset x) c2 w2 u) (sym known.is) (moved_on g x c2 w2 u d o offset known.to to_is known.inside there)) left turned2))))

pub members_are_elements : MembersAreElements
members_are_elements g a m t e n parts does x pushed fresh is = go (element_of a.frame e) refl is
  where
    offset : ℕ
    offset = offset_at (types_of a.frame.parts.types) (bare e) n

    Tells : ℕ → Element → Type 0
    Tells o y = TellsElement g a m (λ k. plan (unit_in g) e (Move o ∷ k)) (need e) pushed y (index_code a.frame pushed fresh e)

    go : (o : Option Element) → element_of a.frame e ≡ o → option_map (onward offset) o ≡ Some x → Tells (offset_of (member_at (unit_in g).types (bare_type e) n)) x
    go None f h = absurd cc
    go (Some y) f h =
        let same : onward offset y ≡ x = cc in
        subst (λ o. Tells o x) (offset_is g a e n parts)
        (subst (Tells offset) same (moved_tells g a m (plan (unit_in g) e) (need e) pushed offset y (index_code a.frame pushed fresh e) (does y pushed fresh f)))
