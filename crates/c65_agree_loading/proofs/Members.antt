-- The bases of members.
use Rattle.std.proofs.Common.{◌≡◌, ℕ, ◌+◌, ◌<◌, List, ◌∷◌, ◌++◌, Bool, true, false, pos, refl, sym, subst, arith, append_assoc, length-append}
use Rattle.std.specs.Prelude.{if◌then◌else◌, Ok, length}
use Rattle.c65_ctype.specs.Views.{types_of}
use Rattle.c65_csem.specs.Trees.{Typed}
use Rattle.c65_csem.specs.Places.{member_at}
use Rattle.c65_csem_need.specs.Needs.{need}
use Rattle.c65_meaning.specs.Store as values
use Rattle.c65_meaning.specs.Store.{Value, Whole, Null, Opaque, Cells, NoValue, Shape}
use Rattle.c65_meaning.specs.Operators as operators
use Rattle.c65_meaning.specs.Items.{Item, Move, plan}
use Rattle.c65_meaning.specs.Shapes.{bare_type, offset_of}
use Rattle.c65_meaning.specs.State.{Scene, Running}
use Rattle.c65_code.specs.declared.line.Line.{Line}
use Rattle.c65_code.specs.LineState.{State, ax_of, IsBytes}
use Rattle.c65_code.specs.Placement.{IsPlacement}
use Rattle.c65_code.specs.Comes.{Seen}
use Rattle.c65_genload.specs.declared.places.Place.{Place}
use Rattle.c65_genload.specs.declared.places.Place.TheVariants.{Far}
use Rattle.c65_genload.specs.Addresses.{offset_code}
use Rattle.c65_gendirect.specs.Pointed.{pointer_code}
use Rattle.c65_genexpr.specs.declared.destination.Destination.{Destination}
use Rattle.c65_genexpr.specs.declared.destination.Destination.TheVariants.{Registers, Pointer}
use Rattle.c65_genexpr.specs.declared.wanted.Wanted.TheVariants as wanted
use Rattle.c65_genexpr.specs.Destination.{arrived}
use Rattle.c65_genexpr.specs.Types.{bare, offset_at}
use Rattle.c65_genexpr.specs.Places.{moved, has_base, place_of}
use Rattle.c65_genexpr.specs.Code.{expr_code, base_code}
use Rattle.c65_agree_store.specs.Stands.{At, Placing, Banks, ValueIs}
use Rattle.c65_agree_state.specs.World.{World, unit_in, Active, lines_of, place_in, HasAt, HasTurns}
use Rattle.c65_agree_state.specs.Joins.{Joins}
use Rattle.c65_agree_state.specs.Follows.{Follows}
use Rattle.c65_agree_state.specs.Exprs.{Ready, Kept, Placed, ResultIs, shape_in, width_in}
use Rattle.c65_agree_state.proofs.Followed.{follows_weaken, steps_earn, ready_is_calm}
use Rattle.c65_agree_state.proofs.Nodes.{has_front, has_back, ready_stays}
use Rattle.c65_agree_state.proofs.Parts.{kept_goes_on}
use Rattle.c65_agree_frame.proofs.Entries.{append_end}
use Rattle.c65_agree_load.proofs.Kept.{is_on, kept_later, ready_later}
use Rattle.c65_agree_direct.proofs.Spots.{live_block}
use Rattle.c65_agree_operate.specs.Manners.{Manner, IsLeft, DoesIn}
use Rattle.c65_agree_operate.proofs.Manners.{left_then, left_held}
use Rattle.c65_agree_structures.specs.Bases.{IsToldBy}
use Rattle.c65_agree_structures.proofs.Bases.{far_is_meant}
use Rattle.c65_agree_structures.proofs.Offsets.{offset_leads}
use Rattle.c65_agree_structures.proofs.Members.{IsMoved, moves, is_moved, pos_same, offset_is, told_on, far_place}
use Rattle.c65_agree_loading.specs.Bases.{arrived_at, handed_on, TellsIn, BaseDoesIn, AddressDoesIn}
use Rattle.c65_agree_loading.specs.BaseLaws.{MembersTell}
use Rattle.c65_agree_loading.proofs.Arriving.{held_by_regs, arrives}

placed_is_told : (g : World) (a : Active) (c : Scene) (w : Placing) (u : State) (v : Value) → ValueIs w 65536 v (ax_of u) → IsToldBy g a (Far 0) c w u v
placed_is_told g a c w u (values.Place b o) is = (far_is_meant g a c w u b o is, omega arith, tt)
placed_is_told g a c w u (Whole z) is = tt
placed_is_told g a c w u Null is = tt
placed_is_told g a c w u Opaque is = tt
placed_is_told g a c w u (Cells xs) is = tt
placed_is_told g a c w u NoValue is = tt

-- ---- by its own address

module _ (g : World) (a : Active) (m : Manner) (placed : IsPlacement g.code g.place) (f : Shape) (work : List Item → List Item) (needs pushed offset : ℕ) (lines : List Line) (does : DoesIn g a m Placed f work needs pushed lines) where
  abbrev add : List Line
  add = offset_code offset

  abbrev moving : List Item → List Item
  moving k = work (Move offset ∷ k)

  module _ (n weight p : ℕ) (k : List Item) (vs : List Value) (c : Scene) (w : Placing) (b : Banks) (t : State) (has : HasAt (lines_of g a) (p + length lines) add) where
    abbrev Behind : Type 0
    Behind = (j : ℕ) (v : Value) (c2 : Scene) (w2 : Placing) (b2 : Banks) (u : State) (later : Seen) → j < n → Kept g a c w b t c2 w2 b2 u → IsToldBy g a (Far 0) c2 w2 u v → IsLeft m c t c2 u → HasTurns g c2.turns (place_in g a (p + length (lines ++ add))) later
        → Follows g j (weight + 2600) (Running k (v ∷ vs) c2) (place_in g a (p + length (lines ++ add))) u later

    module _ (rest : Behind) (j : ℕ) (lt : j < n) (v : Value) (c2 : Scene) (w2 : Placing) (b2 : Banks) (u : State) (later : Seen) (r : Ready g a pushed needs c2 w2 b2 u) (kept : Kept g a c w b t c2 w2 b2 u) (result : ResultIs Placed w2 (width_in f) v u) (left : IsLeft m c t c2 u)
        (turned : HasTurns g c2.turns (place_in g a (p + length lines)) later) (i : ℕ) (less : i < j) where
      ends : p + length lines + length add ≡ p + length (lines ++ add)
      ends = omega (arith, length-append lines add)

      at_place : (x o : ℕ) (y : Value) → v ≡ values.Place x o → operators.moved c2.store (values.Place x o) (pos offset) ≡ Ok y → Follows g i (weight + 2600 + 4000) (Running k (y ∷ vs) c2) (place_in g a (p + length lines)) u later
      at_place x o y same e =
          follows_weaken g i (7 + (weight + 2600)) (weight + 2600 + 4000) (Running k (y ∷ vs) c2) (place_in g a (p + length lines)) u later (omega arith)
          (offset_leads g a placed u (is_on g a pushed needs c2 w2 b2 u placed r) offset i (weight + 2600) (p + length lines) c2.turns (Running k (y ∷ vs) c2) later has turned (λ z after s turned2.
          let bytes : IsBytes (record u { regs = s.regs }) = subst IsBytes s.is s.bytes in
          let kept2 : Kept g a c2 w2 b2 u c2 w2 b2 z = rw s.is (kept_later g a pushed needs c2 w2 b2 u placed r s.regs u.zp (λ l side. refl) bytes) in
          let value : ValueIs w2 65536 y (ax_of z) = subst (λ q. ValueIs w2 65536 q (ax_of z)) (sym known.is) (there.0, there.1, sum_is z s.sum) in
          subst (λ q. Follows g i (weight + 2600) (Running k (y ∷ vs) c2) (place_in g a q) z after) (sym ends)
          (rest i y c2 w2 b2 z after (omega (arith, lt, less)) (kept_goes_on g a c c2 c2 w w2 w2 b b2 b2 t u z kept kept2) (placed_is_told g a c2 w2 z y value) (left_then m c c2 c2 t u z left (left_held m c2 u z (held_by_regs u z s.regs s.is)))
          (subst (λ q. HasTurns g c2.turns (place_in g a q) after) ends turned2))))
        where
          there : ValueIs w2 65536 (values.Place x o) (ax_of u)
          there = subst (λ q. ValueIs w2 65536 q (ax_of u)) same result

          known : IsMoved c2.store x o (pos offset) y
          known = is_moved c2.store x o (pos offset) y e

          to_is : known.to ≡ o + offset
          to_is = sym (pos_same (o + offset) known.to known.sum)

          low : ax_of u + offset < 65536
          low =
              let block = live_block c2.store x known.live in
              let size = block.size in
              omega (arith, to_is, known.inside, size, there.2, (r.joins.stands.lies x block.block (At there.0) (record { is = block.is; live = block.live; place = there.1 })).1)

          sum_is : (z : State) → (ax_of u + offset < 65536 → ax_of z ≡ ax_of u + offset) → ax_of z ≡ there.0 + known.to
          sum_is z sum = let ax = sum low in omega (arith, ax, to_is, there.2)

  in_registers : TellsIn g a m Registers moving needs pushed (Far 0) (lines ++ add)
  in_registers n weight p k vs c w b t seen has r turns rest =
      does n weight p (Move offset ∷ k) vs c w b t seen (has_front (lines_of g a) p lines add has) r turns (λ j v c2 w2 b2 u later lt done left turned.
      let ready = ready_stays g a pushed needs needs c c2 w w2 b b2 t u (omega arith) r done.kept in
      follows_weaken g j (weight + 2600) (weight + 2600 + m.over) (Running (Move offset ∷ k) (v ∷ vs) c2) (place_in g a (p + length lines)) u later (omega arith)
      (steps_earn g j (weight + 2600) (Move offset) k (v ∷ vs) c2 (place_in g a (p + length lines)) u later (ready_is_calm g a pushed needs c2 w2 b2 u ready).calm done.kept.joins.output done.kept.joins.ended (omega (arith, turned)) (λ i less.
      moves g a i (weight + 2600 + 4000) (p + length lines) k vs c2 u later (pos offset) v (λ x o y same e.
      at_place n weight p k vs c w b t (has_back (lines_of g a) p lines add has) rest j lt v c2 w2 b2 u later ready done.kept done.result left turned i less x o y same e))))

  by_address : (d : Destination) → TellsIn g a m d moving needs pushed (Far 0) (lines ++ (add ++ arrived d))
  by_address Registers = subst (λ ls. TellsIn g a m Registers moving needs pushed (Far 0) (lines ++ ls)) (sym (append_end add)) in_registers
  by_address Pointer = subst (TellsIn g a m Pointer moving needs pushed (Far 0)) (append_assoc lines add pointer_code) (arrives g a m moving needs pushed 0 (lines ++ add) placed in_registers)

-- ---- by the base of its structure or union

-- the scene belongs to the state with the address in AX too
pub arrived_ready : (g : World) (a : Active) (d : Destination) (pushed needs : ℕ) (c : Scene) (w : Placing) (b : Banks) (t : State) → IsPlacement g.code g.place → Ready g a pushed needs c w b t → Ready g a pushed needs c w b (arrived_at d t)
arrived_ready g a Registers pushed needs c w b t placed r = r
arrived_ready g a Pointer pushed needs c w b t placed r =
    let small = r.joins.bytes in
    ready_later g a pushed needs c w b t placed r ((arrived_at Pointer t).regs) t.zp (λ i side. refl) (record { a = small.zp 8; x = small.zp 9; y = small.y; zp = small.zp; mem = small.mem; pushed = small.pushed; frames = small.frames })

module _ (g : World) (a : Active) (m : Manner) (d : Destination) (placed : IsPlacement g.code g.place) (e : Typed) (base : BaseDoesIn g a m d e) (address : AddressDoesIn g a m e) (pushed fresh offset : ℕ) where
  abbrev place : Place
  place = place_of a.frame pushed e

  abbrev lines : List Line
  lines = base_code a.frame pushed fresh d e

  abbrev value : List Line
  value = expr_code a.frame pushed fresh wanted.Value e

  abbrev work : List Item → List Item
  work k = plan (unit_in g) e (Move offset ∷ k)

  by_base : has_base place offset ≡ true → TellsIn g a m d work (need e) pushed (moved place offset) lines
  by_base has_one n weight p k vs c w b t seen has r turned rest =
      let more : ℕ = weight + handed_on d in
      base pushed fresh n weight p (Move offset ∷ k) vs c w b t seen has r turned (λ j v c2 w2 b2 u later lt kept h left turned2.
      let ready = ready_stays g a pushed (need e) (need e) c c2 w w2 b b2 t u (omega arith) r kept in
      let joins : Joins g a c2 w2 b2 (arrived_at d u) = (arrived_ready g a d pushed (need e) c2 w2 b2 u placed ready).joins in
      steps_earn g j more (Move offset) k (v ∷ vs) c2 (place_in g a (p + length lines)) u later (ready_is_calm g a pushed (need e) c2 w2 b2 u ready).calm kept.joins.output kept.joins.ended (omega (arith, turned2)) (λ i less.
      moves g a i (more + 4000) (p + length lines) k vs c2 u later (pos offset) v (λ x o y same f.
      let known = is_moved c2.store x o (pos offset) y f in
      let to_is : known.to ≡ o + offset = sym (pos_same (o + offset) known.to known.sum) in
      let there : IsToldBy g a place c2 w2 (arrived_at d u) (values.Place x o) = subst (IsToldBy g a place c2 w2 (arrived_at d u)) same h in
      follows_weaken g i more (more + 4000) (Running k (y ∷ vs) c2) (place_in g a (p + length lines)) u later (omega arith)
      (rest i y c2 w2 b2 u later (omega (arith, lt, less)) kept (subst (IsToldBy g a (moved place offset) c2 w2 (arrived_at d u)) (sym known.is) (told_on g a c2 w2 b2 (arrived_at d u) joins x o offset known.to known.inside (λ low. omega (arith, to_is, low)) place has_one there)) left turned2))))

  by_place : (known : Bool) → has_base place offset ≡ known → TellsIn g a m d work (need e) pushed (moved place offset) (if known then lines else value ++ (offset_code offset ++ arrived d))
  by_place true h = by_base h
  by_place false h = subst (λ z. TellsIn g a m d work (need e) pushed z (value ++ (offset_code offset ++ arrived d))) (sym (far_place place offset h)) (by_address g a m placed (shape_in g a e) (plan (unit_in g) e) (need e) pushed offset value (address pushed fresh) d)

pub members_tell : MembersTell
members_tell g a m d t e i placed parts base address pushed fresh =
    let offset : ℕ = offset_at (types_of a.frame.parts.types) (bare e) i in
    let meant : offset_of (member_at (unit_in g).types (bare_type e) i) ≡ offset = sym (offset_is g a e i parts) in
    subst (λ o. TellsIn g a m d (λ k. plan (unit_in g) e (Move o ∷ k)) (need e) pushed (moved (place_of a.frame pushed e) offset) (if has_base (place_of a.frame pushed e) offset then base_code a.frame pushed fresh d e else expr_code a.frame pushed fresh wanted.Value e ++ (offset_code offset ++ arrived d))) (sym meant)
    (by_place g a m d placed e base address pushed fresh offset (has_base (place_of a.frame pushed e) offset) refl)
