-- Members, and trees of objects and members.
use Rattle.std.proofs.Common.{◌≡◌, ℕ, ◌+◌, ◌%◌, ◌<◌, ◌≤◌, List, ◌∷◌, ◌++◌, length, ℤ, pos, Some, refl, sym, ap, ◌∙◌, subst, arith, length-append}
use Rattle.std.specs.Prelude.{Result, Ok, Err}
use Rattle.std.proofs.lemmas.Int.{ints}
use Rattle.c65_ctype.specs.Trees.{QTy, TypesTy}
use Rattle.c65_ctype.specs.Views.{types_of}
use Rattle.c65_csem.specs.Trees.{Typed, node, object, member}
use Rattle.c65_csem_need.specs.Needs.{need}
use Rattle.c65_meaning.specs.Why.{Why}
use Rattle.c65_meaning.specs.Store.{Value, Whole, Null, Place, Opaque, Cells, NoValue, Shape}
use Rattle.c65_meaning.specs.Items.{Item, Move, plan}
use Rattle.c65_meaning.specs.Operators.{moved}
use Rattle.c65_meaning.specs.State.{Scene, Running}
use Rattle.c65_meaning.specs.Step.{go_on}
use Rattle.c65_code.specs.declared.line.Line.{Line}
use Rattle.c65_code.specs.declared.routine.Width.TheVariants.{Ax}
use Rattle.c65_code.specs.LineState.{State, ax_of}
use Rattle.c65_code.specs.Placement.{IsPlacement}
use Rattle.c65_code.specs.Comes.{Seen}
use Rattle.c65_genload.specs.Addresses.{offset_code}
use Rattle.c65_genexpr.specs.declared.wanted.Wanted.TheVariants as wanted
use Rattle.c65_genexpr.specs.Types.{bare, offset_at}
use Rattle.c65_genexpr.specs.Code.{expr_code}
use Rattle.c65_agree_store.specs.Stands.{At, Placing, Banks, ValueIs}
use Rattle.c65_agree_state.specs.World.{World, unit_in, Active, lines_of, place_in, HasAt, HasTurns}
use Rattle.c65_agree_state.specs.Follows.{Follows}
use Rattle.c65_agree_state.specs.Exprs.{Ready, Placed, Kept, Rest, Does, shape_in}
use Rattle.c65_agree_state.proofs.Followed.{follows_weaken, steps_earn, ready_is_calm}
use Rattle.c65_agree_state.proofs.Nodes.{has_front, has_back, ready_stays}
use Rattle.c65_agree_state.proofs.Parts.{kept_goes_on}
use Rattle.c65_agree_rows.proofs.Quiet.{nothing_follows}
use Rattle.c65_agree_frame.specs.Leads.{Leads}
use Rattle.c65_agree_stmts.specs.Calling.{Calling}
use Rattle.c65_agree_part.specs.Laws.{HasAddress}
use Rattle.c65_agree_quick.specs.Laws.{IsNow}
use Rattle.c65_agree_store.proofs.Moved.{IsMoved, is_moved, address_below}
use Rattle.c65_agree_addresses.specs.Laws.{MembersArePlaced, MemberLinesAre, IsAddressedTree, TreesHaveAddresses}
use Rattle.c65_agree_addresses.proofs.Near.{offset_leads}
use Rattle.c65_agree_addresses.proofs.Objects.{objects_are_placed}

-- ---- members

module _ (g : World) (a : Active) (f h : Shape) (o needs pushed : ℕ) (placed : IsPlacement g.code g.place) where
  -- behind the structure, which began at the state s
  module _ (n weight p end : ℕ) (k : List Item) (vs : List Value) (c : Scene) (w : Placing) (b : Banks) (s : State) (rest : Rest g a Placed h n weight k vs end c w b s) (ends : p + length (offset_code o) ≡ end) (has : HasAt (lines_of g a) p (offset_code o))
      (c2 : Scene) (w2 : Placing) (b2 : Banks) (u : State) (kept : Kept g a c w b s c2 w2 b2 u) (ready : Ready g a pushed needs c2 w2 b2 u) (v : Value) (is : ValueIs w2 65536 v (ax_of u)) (seen : Seen) (turned : HasTurns g c2.turns (place_in g a p) seen) where
    stepped : (j : ℕ) → j < n → (x : Result Value Why) → moved c2.store v (pos o) ≡ x → Follows g j (weight + 2600 + 4000) (go_on x k vs c2) (place_in g a p) u seen
    stepped j lt (Err why) e = nothing_follows g why j (weight + 2600 + 4000) (place_in g a p) u seen
    stepped j lt (Ok x) e =
        let m : IsMoved c2.store v x (pos o) = is_moved c2.store v x (pos o) e in
        let there : ValueIs w2 65536 (Place m.block m.from) (ax_of u) = subst (λ y. ValueIs w2 65536 y (ax_of u)) m.left is in
        let to_is : m.from + o ≡ m.to = omega (arith, ints, m.sum) in
        let low : there.0 + m.to ≤ 65520 = address_below c2.store w2 u.mem b2 m.block there.0 m.to ready.joins.stands m.live there.1 m.within in
        let word : (ax_of u + o) % 65536 ≡ there.0 + m.to = omega (arith, there.2, to_is, low) in
        subst (λ y. Follows g j (weight + 2600 + 4000) (Running k (y ∷ vs) c2) (place_in g a p) u seen) (sym m.result)
        (follows_weaken g j (7 + (weight + 2600)) (weight + 2600 + 4000) (Running k (Place m.block m.to ∷ vs) c2) (place_in g a p) u seen (omega arith)
        (offset_leads g a pushed needs c2 w2 b2 placed o u ready j (weight + 2600) p c2.turns (Running k (Place m.block m.to ∷ vs) c2) seen has turned (λ z later now turned2.
        subst (λ q. Follows g j (weight + 2600) (Running k (Place m.block m.to ∷ vs) c2) (place_in g a q) z later) (sym ends)
        (rest j (Place m.block m.to) c2 w2 b2 z later lt (record { kept = kept_goes_on g a c c2 c2 w w2 w2 b b2 b2 s u z kept now.kept; result = (there.0, there.1, now.word ∙ word); fits = tt })
        (subst (λ q. HasTurns g c2.turns (place_in g a q) later) ends turned2)))))

    pub moved_follows : (i : ℕ) → i ≤ n → Follows g i (weight + 2600) (Running (Move o ∷ k) (v ∷ vs) c2) (place_in g a p) u seen
    moved_follows i le =
        steps_earn g i (weight + 2600) (Move o) k (v ∷ vs) c2 (place_in g a p) u seen (ready_is_calm g a pushed needs c2 w2 b2 u ready).calm ready.joins.output ready.joins.ended (omega (arith, turned)) (λ j less.
        stepped j (omega (arith, le, less)) (moved c2.store v (pos o)) refl)

pub members_are_placed : MembersArePlaced
members_are_placed g a f h o needs pushed work lines placed does n weight p k vs c w b s seen has ready turns rest =
    does n weight p (Move o ∷ k) vs c w b s seen (has_front (lines_of g a) p lines (offset_code o) has) ready turns (λ i v c2 w2 b2 u later lt done turned.
    let ready2 : Ready g a pushed needs c2 w2 b2 u = ready_stays g a pushed needs needs c c2 w w2 b b2 s u (omega arith) ready done.kept in
    moved_follows g a f h o needs pushed placed n weight (p + length lines) (p + length (lines ++ offset_code o)) k vs c w b s rest (omega (arith, length-append lines (offset_code o))) (has_back (lines_of g a) p lines (offset_code o) has) c2 w2 b2 u done.kept ready2 v done.result later turned i (omega (arith, lt)))

pub member_lines_are : MemberLinesAre
member_lines_are f pushed fresh m t e = refl

-- ---- trees

module _ (g : World) (a : Active) (placed : IsPlacement g.code g.place) (parts : a.frame.parts ≡ g.parts) where
  tree_does : (e : Typed) → IsAddressedTree g a e → (needs pushed fresh : ℕ) → Does g a Placed (shape_in g a e) (plan (unit_in g) e) needs pushed (expr_code a.frame pushed fresh wanted.Value e)
  tree_does (node t (object i)) h needs pushed fresh = objects_are_placed g a (shape_in g a (node t (object i))) needs pushed i placed parts h
  tree_does (node t (member e m)) h needs pushed fresh =
      let inner = tree_does e h needs pushed fresh in
      let o : ℕ = offset_at (types_of g.parts.types) (bare e) m in
      subst (λ p. Does g a Placed (shape_in g a (node t (member e m))) (plan (unit_in g) (node t (member e m))) needs pushed (expr_code a.frame pushed fresh wanted.Value e ++ offset_code (offset_at (types_of p.types) (bare e) m))) (sym parts)
      (members_are_placed g a (shape_in g a e) (shape_in g a (node t (member e m))) o needs pushed (plan (unit_in g) e) (expr_code a.frame pushed fresh wanted.Value e) placed inner)
  tree_does (node t _) h needs pushed fresh = absurd h

pub trees_have_addresses : TreesHaveAddresses
trees_have_addresses x e placed parts addressed few = record {
  yield = Placed;
  memory = λ h. absurd (cc);
  does = λ fresh. tree_does x.world x.active placed parts e addressed (need e) 0 fresh;
  need = few;
}
