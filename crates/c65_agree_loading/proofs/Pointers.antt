-- What pointers name.
use Rattle.std.proofs.Common.{◌≡◌, ℕ, ◌+◌, List, ◌∷◌, ◌++◌, refl, sym, subst, arith}
use Rattle.std.specs.Prelude.{length}
use Rattle.c65_ctype.specs.Trees.{QTy}
use Rattle.c65_csem.specs.Trees.{node, Node, constant, null, literal, object, func, deref, member, load, address, decay, convert, unary, binary, both, either, choice, comma, assign, assign_op, assign_step, step, copy, call, pack, spill, rest as further}
use Rattle.c65_csem_need.specs.Needs.{need}
use Rattle.c65_meaning.specs.Store as values
use Rattle.c65_meaning.specs.Store.{Shape}
use Rattle.c65_meaning.specs.Items.{Item, Follow, Keep, plan}
use Rattle.c65_meaning.specs.State.{Running}
use Rattle.c65_code.specs.declared.line.Line.{Line}
use Rattle.c65_code.specs.Placement.{IsPlacement}
use Rattle.c65_genframe.specs.Frames.{Framed}
use Rattle.c65_genload.specs.declared.places.Place.{Place}
use Rattle.c65_genload.specs.declared.places.Place.TheVariants.{Far}
use Rattle.c65_genexpr.specs.declared.destination.Destination.{Destination}
use Rattle.c65_genexpr.specs.declared.destination.Destination.TheVariants.{Registers, Pointer}
use Rattle.c65_genexpr.specs.declared.wanted.Wanted.TheVariants as wanted
use Rattle.c65_genexpr.specs.Destination.{arrived}
use Rattle.c65_genexpr.specs.Places.{place_of, target_of}
use Rattle.c65_genexpr.specs.Code.{node_code, base_code, pointer_base_code}
use Rattle.c65_agree_state.specs.World.{World, unit_in, Active, place_in}
use Rattle.c65_agree_state.specs.Exprs.{Valued}
use Rattle.c65_agree_state.proofs.Followed.{follows_weaken, steps_earn, ready_is_calm}
use Rattle.c65_agree_state.proofs.Nodes.{ready_stays}
use Rattle.c65_agree_frame.proofs.Entries.{append_end}
use Rattle.c65_agree_operate.specs.Manners.{Manner, DoesIn}
use Rattle.c65_agree_structures.specs.Bases.{IsToldBy}
use Rattle.c65_agree_structures.specs.Members.{IsPlainPointer}
use Rattle.c65_agree_structures.proofs.Pointers.{follows_target, pointer_is_told}
use Rattle.c65_agree_loading.specs.Bases.{arrived_at, handed_on, TellsIn}
use Rattle.c65_agree_loading.specs.BaseLaws.{TargetsTell, NamesTell, PointersTell}
use Rattle.c65_agree_loading.proofs.Arriving.{arrives}

pub targets_tell : TargetsTell
targets_tell g a m d t e base pushed fresh n w p k vs c q b s seen has r turned rest =
    let lines : List Line = pointer_base_code a.frame pushed fresh d e in
    let more : ℕ = w + handed_on d in
    base pushed fresh n w p (Follow ∷ k) vs c q b s seen has r turned (λ j v c2 q2 b2 u later lt kept told left turned2.
    let ready = ready_stays g a pushed (need e) (need e) c c2 q q2 b b2 s u (omega arith) r kept in
    steps_earn g j more Follow k (v ∷ vs) c2 (place_in g a (p + length lines)) u later (ready_is_calm g a pushed (need e) c2 q2 b2 u ready).calm kept.joins.output kept.joins.ended (omega (arith, turned2)) (λ i less.
    follows_target g a i (more + 4000) (p + length lines) k vs c2 u later v (λ x o same.
    follows_weaken g i more (more + 4000) (Running k (values.Place x o ∷ vs) c2) (place_in g a (p + length lines)) u later (omega arith)
    (rest i (values.Place x o) c2 q2 b2 u later (omega (arith, lt, less)) kept (subst (IsToldBy g a (target_of a.frame pushed e) c2 q2 (arrived_at d u)) same told) left turned2))))

-- taking the address, or an array as a pointer, takes a step and no line
keeps : (g : World) (a : Active) (m : Manner) (d : Destination) (needs pushed : ℕ) (work : List Item → List Item) (place : Place) (lines : List Line) → TellsIn g a m d work needs pushed place lines → TellsIn g a m d (λ k. work (Keep ∷ k)) needs pushed place lines
keeps g a m d needs pushed work place lines base n w p k vs c q b t seen has r turned rest =
    let more : ℕ = w + handed_on d in
    base n w p (Keep ∷ k) vs c q b t seen has r turned (λ j v c2 q2 b2 u later lt kept told left turned2.
    let ready = ready_stays g a pushed needs needs c c2 q q2 b b2 t u (omega arith) r kept in
    steps_earn g j more Keep k (v ∷ vs) c2 (place_in g a (p + length lines)) u later (ready_is_calm g a pushed needs c2 q2 b2 u ready).calm kept.joins.output kept.joins.ended (omega (arith, turned2)) (λ i less.
    follows_weaken g i more (more + 4000) (Running k (v ∷ vs) c2) (place_in g a (p + length lines)) u later (omega arith)
    (rest i v c2 q2 b2 u later (omega (arith, lt, less)) kept told left turned2)))

pub names_tell : NamesTell
names_tell g a m d t e base = (
  λ pushed fresh. keeps g a m d (need e) pushed (plan (unit_in g) e) (place_of a.frame pushed e) (base_code a.frame pushed fresh d e) (base pushed fresh),
  λ pushed fresh. keeps g a m d (need e) pushed (plan (unit_in g) e) (place_of a.frame pushed e) (base_code a.frame pushed fresh d e) (base pushed fresh),
)

-- ---- by value

module _ (f : Framed) (pushed fresh : ℕ) (d : Destination) where
  abbrev IsByValue : QTy → Node → Type 0
  IsByValue t n = (pointer_base_code f pushed fresh d (node t n) ≡ node_code f pushed fresh wanted.Value t n ++ arrived d) × (target_of f pushed (node t n) ≡ Far 0)

  plain_pointer : (t : QTy) (n : Node) → IsPlainPointer (node t n) → IsByValue t n
  plain_pointer t (binary op x y) plain = absurd plain
  plain_pointer t (address e) plain = absurd plain
  plain_pointer t (decay e) plain = absurd plain
  plain_pointer t (constant z) plain = (refl, refl)
  plain_pointer t null plain = (refl, refl)
  plain_pointer t (literal i) plain = (refl, refl)
  plain_pointer t (object i) plain = (refl, refl)
  plain_pointer t (func i) plain = (refl, refl)
  plain_pointer t (deref e) plain = (refl, refl)
  plain_pointer t (member e i) plain = (refl, refl)
  plain_pointer t (load e) plain = (refl, refl)
  plain_pointer t (convert e) plain = (refl, refl)
  plain_pointer t (unary op e) plain = (refl, refl)
  plain_pointer t (both x y) plain = (refl, refl)
  plain_pointer t (either x y) plain = (refl, refl)
  plain_pointer t (choice x y z) plain = (refl, refl)
  plain_pointer t (comma x y) plain = (refl, refl)
  plain_pointer t (assign x y) plain = (refl, refl)
  plain_pointer t (assign_op op k x y) plain = (refl, refl)
  plain_pointer t (assign_step op x y) plain = (refl, refl)
  plain_pointer t (step k x) plain = (refl, refl)
  plain_pointer t (copy x y) plain = (refl, refl)
  plain_pointer t (call x es) plain = (refl, refl)
  plain_pointer t (pack x) plain = (refl, refl)
  plain_pointer t (spill i x) plain = (refl, refl)
  plain_pointer t further plain = (refl, refl)

module _ (g : World) (a : Active) (m : Manner) (placed : IsPlacement g.code g.place) (size : ℕ) (work : List Item → List Item) (needs pushed : ℕ) (lines : List Line) (does : DoesIn g a m Valued (values.Pointer size) work needs pushed lines) where
  in_registers : TellsIn g a m Registers work needs pushed (Far 0) lines
  in_registers n w p k vs c q b t seen has r turned rest =
      does n w p k vs c q b t seen has r turned (λ j v c2 q2 b2 u later lt done left turned2.
      follows_weaken g j (w + 2600) (w + 2600 + m.over) (Running k (v ∷ vs) c2) (place_in g a (p + length lines)) u later (omega arith)
      (rest j v c2 q2 b2 u later lt done.kept (pointer_is_told g a c2 q2 u size v done.result) left turned2))

  by_value : (d : Destination) → TellsIn g a m d work needs pushed (Far 0) (lines ++ arrived d)
  by_value Registers = subst (TellsIn g a m Registers work needs pushed (Far 0)) (sym (append_end lines)) in_registers
  by_value Pointer = arrives g a m work needs pushed 0 lines placed in_registers

pub pointers_tell : PointersTell
pointers_tell g a m d size (node s inner) placed plain shape does pushed fresh =
    let work : List Item → List Item = plan (unit_in g) (node s inner) in
    let needs : ℕ = need (node s inner) in
    let lines : List Line = node_code a.frame pushed fresh wanted.Value s inner in
    let own = plain_pointer a.frame pushed fresh d s inner plain in
    let pointer_does : DoesIn g a m Valued (values.Pointer size) work needs pushed lines = subst (λ (f : Shape). DoesIn g a m Valued f work needs pushed lines) shape (does pushed fresh) in
    subst (λ z. TellsIn g a m d work needs pushed z (pointer_base_code a.frame pushed fresh d (node s inner))) (sym own.1)
    (subst (TellsIn g a m d work needs pushed (Far 0)) (sym own.0) (by_value g a m placed size work needs pushed lines pointer_does d))
