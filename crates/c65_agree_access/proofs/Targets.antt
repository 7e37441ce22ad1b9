-- What pointers name, told by the pointer in ptr1.
use Rattle.std.proofs.Common.{ℕ, ◌+◌, List, ◌∷◌, subst, arith}
use Rattle.std.specs.Prelude.{length}
use Rattle.c65_csem.specs.Trees.{node, constant, null, literal, object, func, deref, member, load, address, decay, convert, unary, binary, both, either, choice, comma, assign, assign_op, assign_step, step, copy, call, pack, spill, rest as further}
use Rattle.c65_csem_need.specs.Needs.{need}
use Rattle.c65_meaning.specs.Store as values
use Rattle.c65_meaning.specs.Items.{Item, Follow, Keep, plan}
use Rattle.c65_meaning.specs.State.{Running}
use Rattle.c65_code.specs.declared.line.Line.{Line}
use Rattle.c65_genload.specs.declared.places.Place.{Place}
use Rattle.c65_genexpr.specs.declared.destination.Destination.TheVariants.{Pointer}
use Rattle.c65_genexpr.specs.Places.{place_of, target_of}
use Rattle.c65_genexpr.specs.Code.{base_code, pointer_base_code}
use Rattle.c65_agree_state.specs.World.{World, unit_in, Active, place_in}
use Rattle.c65_agree_state.proofs.Followed.{follows_weaken, steps_earn, ready_is_calm}
use Rattle.c65_agree_state.proofs.Nodes.{ready_stays}
use Rattle.c65_agree_structures.specs.Bases.{IsToldBy}
use Rattle.c65_agree_structures.proofs.Pointers.{follows_target}
use Rattle.c65_agree_access.specs.Pointed.{with_pointer, TellsPointed}
use Rattle.c65_agree_access.specs.PointedLaws.{TargetsArePointed, PointersArePointed, NamesArePointed}
use Rattle.c65_agree_access.proofs.Bases.{by_value}

pub targets_are_pointed : TargetsArePointed
targets_are_pointed g a t e base pushed fresh n w p k vs c q b s seen has r turned rest =
    let lines : List Line = pointer_base_code a.frame pushed fresh Pointer e in
    base pushed fresh n w p (Follow ∷ k) vs c q b s seen has r turned (λ j v c2 q2 b2 u later lt kept told turned2.
    let ready = ready_stays g a pushed (need e) (need e) c c2 q q2 b b2 s u (omega arith) r kept in
    steps_earn g j (w + 2500) Follow k (v ∷ vs) c2 (place_in g a (p + length lines)) u later (ready_is_calm g a pushed (need e) c2 q2 b2 u ready).calm kept.joins.output kept.joins.ended (omega (arith, turned2)) (λ i less.
    follows_target g a i (w + 2500 + 4000) (p + length lines) k vs c2 u later v (λ m o same.
    follows_weaken g i (w + 2500) (w + 2500 + 4000) (Running k (values.Place m o ∷ vs) c2) (place_in g a (p + length lines)) u later (omega arith)
    (rest i (values.Place m o) c2 q2 b2 u later (omega (arith, lt, less)) kept (subst (IsToldBy g a (target_of a.frame pushed e) c2 q2 (with_pointer u)) same told) turned2))))

-- taking the address, or an array as a pointer, takes a step and no line
keeps : (g : World) (a : Active) (needs pushed : ℕ) (work : List Item → List Item) (place : Place) (lines : List Line) → TellsPointed g a work needs pushed place lines → TellsPointed g a (λ k. work (Keep ∷ k)) needs pushed place lines
keeps g a needs pushed work place lines base n w p k vs c q b t seen has r turned rest =
    base n w p (Keep ∷ k) vs c q b t seen has r turned (λ j v c2 q2 b2 u later lt kept told turned2.
    let ready = ready_stays g a pushed needs needs c c2 q q2 b b2 t u (omega arith) r kept in
    steps_earn g j (w + 2500) Keep k (v ∷ vs) c2 (place_in g a (p + length lines)) u later (ready_is_calm g a pushed needs c2 q2 b2 u ready).calm kept.joins.output kept.joins.ended (omega (arith, turned2)) (λ i less.
    follows_weaken g i (w + 2500) (w + 2500 + 4000) (Running k (v ∷ vs) c2) (place_in g a (p + length lines)) u later (omega arith)
    (rest i v c2 q2 b2 u later (omega (arith, lt, less)) kept told turned2)))

pub names_are_pointed : NamesArePointed
names_are_pointed g a t e base = (
  λ pushed fresh. keeps g a (need e) pushed (plan (unit_in g) e) (place_of a.frame pushed e) (base_code a.frame pushed fresh Pointer e) (base pushed fresh),
  λ pushed fresh. keeps g a (need e) pushed (plan (unit_in g) e) (place_of a.frame pushed e) (base_code a.frame pushed fresh Pointer e) (base pushed fresh),
)

-- the value of such a pointer
pub pointers_are_pointed : PointersArePointed
pointers_are_pointed g a (node t (binary op x y)) placed plain does pushed fresh = absurd plain
pointers_are_pointed g a (node t (address e)) placed plain does pushed fresh = absurd plain
pointers_are_pointed g a (node t (decay e)) placed plain does pushed fresh = absurd plain
pointers_are_pointed g a (node t (constant z)) placed plain does pushed fresh = by_value g a t (constant z) pushed fresh placed (does pushed fresh)
pointers_are_pointed g a (node t null) placed plain does pushed fresh = by_value g a t null pushed fresh placed (does pushed fresh)
pointers_are_pointed g a (node t (literal n)) placed plain does pushed fresh = by_value g a t (literal n) pushed fresh placed (does pushed fresh)
pointers_are_pointed g a (node t (object i)) placed plain does pushed fresh = by_value g a t (object i) pushed fresh placed (does pushed fresh)
pointers_are_pointed g a (node t (func i)) placed plain does pushed fresh = by_value g a t (func i) pushed fresh placed (does pushed fresh)
pointers_are_pointed g a (node t (deref e)) placed plain does pushed fresh = by_value g a t (deref e) pushed fresh placed (does pushed fresh)
pointers_are_pointed g a (node t (member e m)) placed plain does pushed fresh = by_value g a t (member e m) pushed fresh placed (does pushed fresh)
pointers_are_pointed g a (node t (load e)) placed plain does pushed fresh = by_value g a t (load e) pushed fresh placed (does pushed fresh)
pointers_are_pointed g a (node t (convert e)) placed plain does pushed fresh = by_value g a t (convert e) pushed fresh placed (does pushed fresh)
pointers_are_pointed g a (node t (unary op e)) placed plain does pushed fresh = by_value g a t (unary op e) pushed fresh placed (does pushed fresh)
pointers_are_pointed g a (node t (both x y)) placed plain does pushed fresh = by_value g a t (both x y) pushed fresh placed (does pushed fresh)
pointers_are_pointed g a (node t (either x y)) placed plain does pushed fresh = by_value g a t (either x y) pushed fresh placed (does pushed fresh)
pointers_are_pointed g a (node t (choice x y z)) placed plain does pushed fresh = by_value g a t (choice x y z) pushed fresh placed (does pushed fresh)
pointers_are_pointed g a (node t (comma x y)) placed plain does pushed fresh = by_value g a t (comma x y) pushed fresh placed (does pushed fresh)
pointers_are_pointed g a (node t (assign x y)) placed plain does pushed fresh = by_value g a t (assign x y) pushed fresh placed (does pushed fresh)
pointers_are_pointed g a (node t (assign_op op k x y)) placed plain does pushed fresh = by_value g a t (assign_op op k x y) pushed fresh placed (does pushed fresh)
pointers_are_pointed g a (node t (assign_step op x y)) placed plain does pushed fresh = by_value g a t (assign_step op x y) pushed fresh placed (does pushed fresh)
pointers_are_pointed g a (node t (step k x)) placed plain does pushed fresh = by_value g a t (step k x) pushed fresh placed (does pushed fresh)
pointers_are_pointed g a (node t (copy x y)) placed plain does pushed fresh = by_value g a t (copy x y) pushed fresh placed (does pushed fresh)
pointers_are_pointed g a (node t (call x es)) placed plain does pushed fresh = by_value g a t (call x es) pushed fresh placed (does pushed fresh)
pointers_are_pointed g a (node t (pack x)) placed plain does pushed fresh = by_value g a t (pack x) pushed fresh placed (does pushed fresh)
pointers_are_pointed g a (node t (spill i x)) placed plain does pushed fresh = by_value g a t (spill i x) pushed fresh placed (does pushed fresh)
pointers_are_pointed g a (node t further) placed plain does pushed fresh = by_value g a t further pushed fresh placed (does pushed fresh)
