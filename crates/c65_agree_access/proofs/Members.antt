-- Members whose structure or union is told by the address in ptr1.
use Rattle.std.proofs.Common.{◌≡◌, ℕ, ◌+◌, List, [], ◌∷◌, ◌++◌, Bool, true, false, pos, refl, sym, ap, subst, arith, append_assoc}
use Rattle.std.specs.Prelude.{if◌then◌else◌, length}
use Rattle.c65_ctype.specs.Views.{types_of}
use Rattle.c65_csem.specs.Trees.{Typed, node, member}
use Rattle.c65_csem.specs.Places.{member_at}
use Rattle.c65_csem_need.specs.Needs.{need}
use Rattle.c65_meaning.specs.Store as values
use Rattle.c65_meaning.specs.Store.{Value}
use Rattle.c65_meaning.specs.Items.{Item, Move, plan}
use Rattle.c65_meaning.specs.Shapes.{bare_type, offset_of}
use Rattle.c65_meaning.specs.State.{Scene, Running}
use Rattle.c65_code.specs.declared.line.Line.{Line}
use Rattle.c65_code.specs.LineState.{State}
use Rattle.c65_code.specs.Placement.{IsPlacement}
use Rattle.c65_genload.specs.declared.places.Place.{Place}
use Rattle.c65_genload.specs.declared.places.Place.TheVariants.{Far}
use Rattle.c65_genload.specs.Addresses.{offset_code}
use Rattle.c65_gendirect.specs.Pointed.{pointer_code}
use Rattle.c65_genexpr.specs.declared.destination.Destination.TheVariants.{Registers, Pointer}
use Rattle.c65_genexpr.specs.declared.wanted.Wanted.TheVariants as wanted
use Rattle.c65_genexpr.specs.Types.{bare, offset_at}
use Rattle.c65_genexpr.specs.Places.{moved, has_base, place_of}
use Rattle.c65_genexpr.specs.Code.{expr_code, base_code}
use Rattle.c65_agree_store.specs.Stands.{Placing, Banks}
use Rattle.c65_agree_state.specs.World.{World, unit_in, Active, place_in}
use Rattle.c65_agree_state.specs.Exprs.{Ready}
use Rattle.c65_agree_state.specs.Joins.{Joins}
use Rattle.c65_agree_state.proofs.Followed.{follows_weaken, steps_earn, ready_is_calm}
use Rattle.c65_agree_state.proofs.Nodes.{ready_stays}
use Rattle.c65_agree_frame.proofs.Entries.{append_end}
use Rattle.c65_agree_load.proofs.Kept.{ready_later}
use Rattle.c65_agree_structures.specs.Bases.{IsToldBy, TellsPlace, BaseDoes}
use Rattle.c65_agree_structures.proofs.Members.{moves, is_moved, pos_same, offset_is, told_on, far_place, members_are_bases}
use Rattle.c65_agree_access.specs.Pointed.{with_pointer, TellsPointed, PointedDoes}
use Rattle.c65_agree_access.specs.PointedLaws.{MembersArePointed}
use Rattle.c65_agree_access.proofs.Arriving.{arrives}

-- the scene belongs to the state with ptr1 in AX too
pub pointer_ready : (g : World) (a : Active) (pushed needs : ℕ) (c : Scene) (w : Placing) (b : Banks) (t : State) → IsPlacement g.code g.place → Ready g a pushed needs c w b t → Ready g a pushed needs c w b (with_pointer t)
pointer_ready g a pushed needs c w b t placed r =
    let small = r.joins.bytes in
    ready_later g a pushed needs c w b t placed r ((with_pointer t).regs) t.zp (λ i side. refl) (record { a = small.zp 8; x = small.zp 9; y = small.y; zp = small.zp; mem = small.mem; pushed = small.pushed; frames = small.frames })

module _ (g : World) (a : Active) (placed : IsPlacement g.code g.place) (e : Typed) (pointed : PointedDoes g a e) (pushed fresh offset : ℕ) where
  abbrev place : Place
  place = place_of a.frame pushed e

  abbrev lines : List Line
  lines = base_code a.frame pushed fresh Pointer e

  abbrev work : List Item → List Item
  work k = plan (unit_in g) e (Move offset ∷ k)

  by_base : has_base place offset ≡ true → TellsPointed g a work (need e) pushed (moved place offset) lines
  by_base has_one n weight p k vs c w b t seen has r turned rest =
      pointed pushed fresh n weight p (Move offset ∷ k) vs c w b t seen has r turned (λ j v c2 w2 b2 u later lt kept h turned2.
      let ready = ready_stays g a pushed (need e) (need e) c c2 w w2 b b2 t u (omega arith) r kept in
      let joins : Joins g a c2 w2 b2 (with_pointer u) = (pointer_ready g a pushed (need e) c2 w2 b2 u placed ready).joins in
      steps_earn g j (weight + 2500) (Move offset) k (v ∷ vs) c2 (place_in g a (p + length lines)) u later (ready_is_calm g a pushed (need e) c2 w2 b2 u ready).calm kept.joins.output kept.joins.ended (omega (arith, turned2)) (λ i less.
      moves g a i (weight + 2500 + 4000) (p + length lines) k vs c2 u later (pos offset) v (λ m o x same f.
      let known = is_moved c2.store m o (pos offset) x f in
      let to_is : known.to ≡ o + offset = sym (pos_same (o + offset) known.to known.sum) in
      let there : IsToldBy g a place c2 w2 (with_pointer u) (values.Place m o) = subst (IsToldBy g a place c2 w2 (with_pointer u)) same h in
      follows_weaken g i (weight + 2500) (weight + 2500 + 4000) (Running k (x ∷ vs) c2) (place_in g a (p + length lines)) u later (omega arith)
      (rest i x c2 w2 b2 u later (omega (arith, lt, less)) kept (subst (IsToldBy g a (moved place offset) c2 w2 (with_pointer u)) (sym known.is) (told_on g a c2 w2 b2 (with_pointer u) joins m o offset known.to known.inside (λ low. omega (arith, to_is, low)) place has_one there)) turned2))))

  abbrev value : List Line
  value = expr_code a.frame pushed fresh wanted.Value e

  -- lines that bring its own address
  by_address : has_base place offset ≡ false → TellsPlace g a work (need e) pushed (moved place offset) (if has_base place offset then base_code a.frame pushed fresh Registers e else value ++ (offset_code offset ++ [])) → TellsPointed g a work (need e) pushed (moved place offset) (value ++ (offset_code offset ++ pointer_code))
  by_address none tells =
      let far = far_place place offset none in
      let told : TellsPlace g a work (need e) pushed (Far 0) (value ++ (offset_code offset ++ [])) =
      subst (λ z. TellsPlace g a work (need e) pushed z (value ++ (offset_code offset ++ []))) far (subst (λ known. TellsPlace g a work (need e) pushed (moved place offset) (if known then base_code a.frame pushed fresh Registers e else value ++ (offset_code offset ++ []))) none tells) in
      let short : value ++ (offset_code offset ++ []) ≡ value ++ offset_code offset = ap (λ ls. value ++ ls) (append_end (offset_code offset)) in
      subst (λ z. TellsPointed g a work (need e) pushed z (value ++ (offset_code offset ++ pointer_code))) (sym far)
      (subst (TellsPointed g a work (need e) pushed (Far 0)) (append_assoc value (offset_code offset) pointer_code) (arrives g a work (need e) pushed 0 (value ++ offset_code offset) placed (subst (TellsPlace g a work (need e) pushed (Far 0)) short told)))

  by_place : (known : Bool) → has_base place offset ≡ known → TellsPlace g a work (need e) pushed (moved place offset) (if has_base place offset then base_code a.frame pushed fresh Registers e else value ++ (offset_code offset ++ []))
      → TellsPointed g a work (need e) pushed (moved place offset) (if known then lines else value ++ (offset_code offset ++ pointer_code))
  by_place true h tells = by_base h
  by_place false h tells = by_address h tells

pub members_are_pointed : MembersArePointed
members_are_pointed g a t e m placed parts base address pointed pushed fresh =
    let offset : ℕ = offset_at (types_of a.frame.parts.types) (bare e) m in
    let own : BaseDoes g a (node t (member e m)) = members_are_bases g a t e m placed parts base address in
    let meant : offset_of (member_at (unit_in g).types (bare_type e) m) ≡ offset = sym (offset_is g a e m parts) in
    subst (λ o. TellsPointed g a (λ k. plan (unit_in g) e (Move o ∷ k)) (need e) pushed (moved (place_of a.frame pushed e) offset) (if has_base (place_of a.frame pushed e) offset then base_code a.frame pushed fresh Pointer e else expr_code a.frame pushed fresh wanted.Value e ++ (offset_code offset ++ pointer_code))) (sym meant)
    (by_place g a placed e pointed pushed fresh offset (has_base (place_of a.frame pushed e) offset) refl
    (subst (λ o. TellsPlace g a (λ k. plan (unit_in g) e (Move o ∷ k)) (need e) pushed (moved (place_of a.frame pushed e) offset) (if has_base (place_of a.frame pushed e) offset then base_code a.frame pushed fresh Registers e else expr_code a.frame pushed fresh wanted.Value e ++ (offset_code offset ++ []))) meant (own pushed fresh)))
