-- Bases of pointers.
use Rattle.std.proofs.Common.{◌≡◌, ℕ, ◌+◌, List, ◌∷◌, Option, None, Bool, true, false, refl, sym, ap, ◌∙◌, subst, arith}
use Rattle.std.specs.Prelude.{if◌then◌else◌, Ok, Err, length}
use Rattle.c65_base.specs.declared.operators.BinaryOp.{BinaryOp}
use Rattle.c65_base.specs.declared.operators.BinaryOp.TheVariants as ops
use Rattle.c65_ctype.specs.Trees.{QTy}
use Rattle.c65_csem.specs.Trees.{Typed, node, Node, constant, null, literal, object, func, deref, member, load, address, decay, convert, unary, binary, both, either, choice, comma, assign, assign_op, assign_step, step, copy, call, pack, spill, rest as further}
use Rattle.c65_csem_need.specs.Needs.{need}
use Rattle.c65_meaning.specs.declared.action.Action.TheVariants.{OutsideObject, EndedObject}
use Rattle.c65_meaning.specs.Why.{By}
use Rattle.c65_meaning.specs.Store as values
use Rattle.c65_meaning.specs.Store.{Value, Whole, Null, Opaque, Cells, NoValue, Shape, Pointer, is_live}
use Rattle.c65_meaning.specs.Operators.{unusable, named_by}
use Rattle.c65_meaning.specs.Items.{Item, Follow, Keep, plan}
use Rattle.c65_meaning.specs.State.{Scene, Running}
use Rattle.c65_meaning.specs.Step.{go_on}
use Rattle.c65_code.specs.declared.line.Line.{Line}
use Rattle.c65_code.specs.declared.line.Line.TheVariants.{Label}
use Rattle.c65_code.specs.LineState.{State}
use Rattle.c65_code.specs.Comes.{Seen}
use Rattle.c65_genframe.specs.Frames.{Framed}
use Rattle.c65_genload.specs.declared.places.Place.{Place}
use Rattle.c65_genload.specs.declared.places.Place.TheVariants.{Far}
use Rattle.c65_genexpr.specs.declared.destination.Destination.TheVariants.{Registers}
use Rattle.c65_genexpr.specs.declared.wanted.Wanted.TheVariants as wanted
use Rattle.c65_gendirect.specs.Compare.{relation_of}
use Rattle.c65_genexpr.specs.Types.{bare}
use Rattle.c65_genexpr.specs.Operands.{operands_of, constant_in}
use Rattle.c65_genexpr.specs.Places.{sum_has_base, sum_place, added_bytes, place_of, target_of}
use Rattle.c65_genexpr.specs.Code.{expr_code, node_code, base_code, pointer_base_code, sum_base_code}
use Rattle.c65_agree_store.specs.Stands.{Placing}
use Rattle.c65_agree_state.specs.World.{World, unit_in, Active, lines_of, place_in, HasAt, HasTurns}
use Rattle.c65_agree_state.specs.Follows.{Follows}
use Rattle.c65_agree_state.specs.Exprs.{Yield, Valued, ResultIs, Does, shape_in, width_in}
use Rattle.c65_agree_state.proofs.Followed.{follows_weaken, steps_earn, ready_is_calm}
use Rattle.c65_agree_state.proofs.Nodes.{ready_stays}
use Rattle.c65_agree_rows.proofs.Quiet.{nothing_follows}
use Rattle.c65_agree_frame.proofs.Entries.{append_end}
use Rattle.c65_agree_structures.specs.Bases.{IsToldBy, TellsPlace}
use Rattle.c65_agree_structures.specs.Members.{TargetsHaveAddresses, TargetsAreBases, IsPlainPointer, PointersAreBases, SumsAreBases, NamesAreBases}
use Rattle.c65_agree_structures.proofs.Bases.{far_is_meant}

-- ---- what a pointer names

-- a place while its block lives, and nothing that is defined behind another value
pub follows_target : (g : World) (a : Active) (n weight p : ℕ) (k : List Item) (vs : List Value) (c : Scene) (t : State) (seen : Seen) (v : Value)
    → ((b o : ℕ) → v ≡ values.Place b o → Follows g n weight (Running k (values.Place b o ∷ vs) c) (place_in g a p) t seen)
    → Follows g n weight (go_on (named_by c.store v) k vs c) (place_in g a p) t seen
follows_target g a n weight p k vs c t seen (values.Place b o) goes = go (is_live c.store b)
  where
    go : (live : Bool) → Follows g n weight (go_on (if live then Ok (values.Place b o) else Err (By EndedObject)) k vs c) (place_in g a p) t seen
    go true = goes b o refl
    go false = nothing_follows g (By EndedObject) n weight (place_in g a p) t seen
follows_target g a n weight p k vs c t seen Null goes = nothing_follows g (By OutsideObject) n weight (place_in g a p) t seen
follows_target g a n weight p k vs c t seen (Whole z) goes = nothing_follows g (unusable (Whole z)) n weight (place_in g a p) t seen
follows_target g a n weight p k vs c t seen Opaque goes = nothing_follows g (unusable Opaque) n weight (place_in g a p) t seen
follows_target g a n weight p k vs c t seen (Cells xs) goes = nothing_follows g (unusable (Cells xs)) n weight (place_in g a p) t seen
follows_target g a n weight p k vs c t seen NoValue goes = nothing_follows g (unusable NoValue) n weight (place_in g a p) t seen

pub targets_are_bases : TargetsAreBases
targets_are_bases g a t e base pushed fresh n w p k vs c q b s seen has r turned rest =
    let lines : List Line = pointer_base_code a.frame pushed fresh Registers e in
    base pushed fresh n w p (Follow ∷ k) vs c q b s seen has r turned (λ j v c2 q2 b2 u later lt kept told turned2.
    let ready = ready_stays g a pushed (need e) (need e) c c2 q q2 b b2 s u (omega arith) r kept in
    steps_earn g j (w + 2600) Follow k (v ∷ vs) c2 (place_in g a (p + length lines)) u later (ready_is_calm g a pushed (need e) c2 q2 b2 u ready).calm kept.joins.output kept.joins.ended (omega (arith, turned2)) (λ i less.
    follows_target g a i (w + 2600 + 4000) (p + length lines) k vs c2 u later v (λ m o same.
    follows_weaken g i (w + 2600) (w + 2600 + 4000) (Running k (values.Place m o ∷ vs) c2) (place_in g a (p + length lines)) u later (omega arith)
    (rest i (values.Place m o) c2 q2 b2 u later (omega (arith, lt, less)) kept (subst (IsToldBy g a (target_of a.frame pushed e) c2 q2 u) same told) turned2))))

-- its address is in AX where the pointer's value is
pub targets_have_addresses : TargetsHaveAddresses
targets_have_addresses g a size t e valued shape does pushed fresh n w p k vs c q b s seen has r turned rest =
    let lines : List Line = expr_code a.frame pushed fresh wanted.Value e in
    let pointer_does : Does g a Valued (Pointer size) (plan (unit_in g) e) (need e) pushed lines =
    subst (λ (f : Shape). Does g a Valued f (plan (unit_in g) e) (need e) pushed lines) shape (subst (λ (y : Yield). Does g a y (shape_in g a e) (plan (unit_in g) e) (need e) pushed lines) valued (does pushed fresh)) in
    pointer_does n w p (Follow ∷ k) vs c q b s seen has r turned (λ j v c2 q2 b2 u later lt done turned2.
    let ready = ready_stays g a pushed (need e) (need e) c c2 q q2 b b2 s u (omega arith) r done.kept in
    steps_earn g j (w + 2600) Follow k (v ∷ vs) c2 (place_in g a (p + length lines)) u later (ready_is_calm g a pushed (need e) c2 q2 b2 u ready).calm done.kept.joins.output done.kept.joins.ended (omega (arith, turned2)) (λ i less.
    follows_target g a i (w + 2600 + 4000) (p + length lines) k vs c2 u later v (λ m o same.
    follows_weaken g i (w + 2600) (w + 2600 + 4000) (Running k (values.Place m o ∷ vs) c2) (place_in g a (p + length lines)) u later (omega arith)
    (rest i (values.Place m o) c2 q2 b2 u later (omega (arith, lt, less)) (record { kept = done.kept; result = subst (λ x. ResultIs Valued q2 (width_in (Pointer size)) x u) same done.result; fits = tt }) turned2))))

-- ---- the value of a pointer

module _ (f : Framed) (pushed fresh : ℕ) where
  abbrev IsOwnBase : QTy → Node → Type 0
  IsOwnBase t n = (pointer_base_code f pushed fresh Registers (node t n) ≡ node_code f pushed fresh wanted.Value t n) × (target_of f pushed (node t n) ≡ Far 0)

  own_base : (t : QTy) (n : Node) → IsPlainPointer (node t n) → IsOwnBase t n
  own_base t (constant z) h = (append_end (node_code f pushed fresh wanted.Value t (constant z)), refl)
  own_base t null h = (append_end (node_code f pushed fresh wanted.Value t null), refl)
  own_base t (literal n) h = (append_end (node_code f pushed fresh wanted.Value t (literal n)), refl)
  own_base t (object i) h = (append_end (node_code f pushed fresh wanted.Value t (object i)), refl)
  own_base t (func i) h = (append_end (node_code f pushed fresh wanted.Value t (func i)), refl)
  own_base t (deref e) h = (append_end (node_code f pushed fresh wanted.Value t (deref e)), refl)
  own_base t (member e m) h = (append_end (node_code f pushed fresh wanted.Value t (member e m)), refl)
  own_base t (load e) h = (append_end (node_code f pushed fresh wanted.Value t (load e)), refl)
  own_base t (address e) h = absurd h
  own_base t (decay e) h = absurd h
  own_base t (convert e) h = (append_end (node_code f pushed fresh wanted.Value t (convert e)), refl)
  own_base t (unary op e) h = (append_end (node_code f pushed fresh wanted.Value t (unary op e)), refl)
  own_base t (binary op x y) h = absurd h
  own_base t (both x y) h = (append_end (node_code f pushed fresh wanted.Value t (both x y)), refl)
  own_base t (either x y) h = (append_end (node_code f pushed fresh wanted.Value t (either x y)), refl)
  own_base t (choice x y z) h = (append_end (node_code f pushed fresh wanted.Value t (choice x y z)), refl)
  own_base t (comma x y) h = (append_end (node_code f pushed fresh wanted.Value t (comma x y)), refl)
  own_base t (assign x y) h = (append_end (node_code f pushed fresh wanted.Value t (assign x y)), refl)
  own_base t (assign_op op k x y) h = (append_end (node_code f pushed fresh wanted.Value t (assign_op op k x y)), refl)
  own_base t (assign_step op x y) h = (append_end (node_code f pushed fresh wanted.Value t (assign_step op x y)), refl)
  own_base t (step k x) h = (append_end (node_code f pushed fresh wanted.Value t (step k x)), refl)
  own_base t (copy x y) h = (append_end (node_code f pushed fresh wanted.Value t (copy x y)), refl)
  own_base t (call x es) h = (append_end (node_code f pushed fresh wanted.Value t (call x es)), refl)
  own_base t (pack x) h = (append_end (node_code f pushed fresh wanted.Value t (pack x)), refl)
  own_base t (spill i x) h = (append_end (node_code f pushed fresh wanted.Value t (spill i x)), refl)
  own_base t further h = (append_end (node_code f pushed fresh wanted.Value t further), refl)

pub pointer_is_told : (g : World) (a : Active) (c : Scene) (w : Placing) (u : State) (size : ℕ) (v : Value) → ResultIs Valued w (width_in (Pointer size)) v u → IsToldBy g a (Far 0) c w u v
pointer_is_told g a c w u size (values.Place b o) is = (far_is_meant g a c w u b o is, omega arith, tt)
pointer_is_told g a c w u size (Whole z) is = tt
pointer_is_told g a c w u size Null is = tt
pointer_is_told g a c w u size Opaque is = tt
pointer_is_told g a c w u size (Cells xs) is = tt
pointer_is_told g a c w u size NoValue is = tt

-- lines that bring the value of a pointer tell what it names
pub told_by_value : (g : World) (a : Active) (size : ℕ) (s : QTy) (inner : Node) (pushed fresh : ℕ) (place : Place) (base : List Line) → base ≡ node_code a.frame pushed fresh wanted.Value s inner → place ≡ Far 0 → shape_in g a (node s inner) ≡ Pointer size
    → Does g a Valued (shape_in g a (node s inner)) (plan (unit_in g) (node s inner)) (need (node s inner)) pushed (node_code a.frame pushed fresh wanted.Value s inner) → TellsPlace g a (plan (unit_in g) (node s inner)) (need (node s inner)) pushed place base
told_by_value g a size s inner pushed fresh place base same far shape does n w p k vs c q b t seen has r turned rest =
    let lines : List Line = node_code a.frame pushed fresh wanted.Value s inner in
    let pointer_does : Does g a Valued (Pointer size) (plan (unit_in g) (node s inner)) (need (node s inner)) pushed lines = subst (λ (f : Shape). Does g a Valued f (plan (unit_in g) (node s inner)) (need (node s inner)) pushed lines) shape does in
    pointer_does n w p k vs c q b t seen (subst (HasAt (lines_of g a) p) same has) r turned (λ j v c2 q2 b2 u later lt done turned2.
    subst (λ (ls : List Line). Follows g j (w + 2600) (Running k (v ∷ vs) c2) (place_in g a (p + length ls)) u later) same
    (rest j v c2 q2 b2 u later lt done.kept (subst (λ z. IsToldBy g a z c2 q2 u v) (sym far) (pointer_is_told g a c2 q2 u size v done.result)) (subst (λ (ls : List Line). HasTurns g c2.turns (place_in g a (p + length ls)) later) (sym same) turned2)))

pub pointers_are_bases : PointersAreBases
pointers_are_bases g a size (node s inner) plain valued shape does pushed fresh =
    let e : Typed = node s inner in
    let own = own_base a.frame pushed fresh s inner plain in
    told_by_value g a size s inner pushed fresh (target_of a.frame pushed e) (pointer_base_code a.frame pushed fresh Registers e) own.0 own.1 shape
    (subst (λ (y : Yield). Does g a y (shape_in g a e) (plan (unit_in g) e) (need e) pushed (node_code a.frame pushed fresh wanted.Value s inner)) valued (does pushed fresh))

-- ---- sums

module _ (f : Framed) (pushed fresh : ℕ) (t : QTy) (x y : Typed) where
  -- the lines of a sum are those of its value
  pub sum_lines : (op : BinaryOp) → relation_of op ≡ None → sum_base_code f pushed fresh Registers t op x y ≡ node_code f pushed fresh wanted.Value t (binary op x y)
  sum_lines ops.Mul e = refl
  sum_lines ops.Div e = refl
  sum_lines ops.Rem e = refl
  sum_lines ops.Add e = refl
  sum_lines ops.Sub e = refl
  sum_lines ops.Shl e = refl
  sum_lines ops.Shr e = refl
  sum_lines ops.Lt e = cc
  sum_lines ops.Gt e = cc
  sum_lines ops.Le e = cc
  sum_lines ops.Ge e = cc
  sum_lines ops.Eq e = cc
  sum_lines ops.Ne e = cc
  sum_lines ops.BitAnd e = refl
  sum_lines ops.BitXor e = refl
  sum_lines ops.BitOr e = refl

  sum_base : (op : BinaryOp) → relation_of op ≡ None → added_bytes op (operands_of f (bare x) (bare y)) (constant_in y) ≡ None → IsOwnBase f pushed fresh t (binary op x y)
  sum_base op e none = (
    ap (λ (o : Option ℕ). if sum_has_base (target_of f pushed x) o then Label fresh ∷ pointer_base_code f pushed (fresh + 1) Registers x else sum_base_code f pushed fresh Registers t op x y) none ∙ sum_lines op e,
    ap (sum_place (target_of f pushed x)) none,
  )

pub sums_are_bases : SumsAreBases
sums_are_bases g a size t op x y arithmetic none shape does pushed fresh =
    let own = sum_base a.frame pushed fresh t x y op arithmetic none in
    told_by_value g a size t (binary op x y) pushed fresh (target_of a.frame pushed (node t (binary op x y))) (pointer_base_code a.frame pushed fresh Registers (node t (binary op x y))) own.0 own.1 shape (does pushed fresh)

-- ---- names

-- taking the address, or an array as a pointer, takes a step and no line
keeps : (g : World) (a : Active) (needs pushed : ℕ) (work : List Item → List Item) (place : Place) (lines : List Line) → TellsPlace g a work needs pushed place lines → TellsPlace g a (λ k. work (Keep ∷ k)) needs pushed place lines
keeps g a needs pushed work place lines base n w p k vs c q b t seen has r turned rest =
    base n w p (Keep ∷ k) vs c q b t seen has r turned (λ j v c2 q2 b2 u later lt kept told turned2.
    let ready = ready_stays g a pushed needs needs c c2 q q2 b b2 t u (omega arith) r kept in
    steps_earn g j (w + 2600) Keep k (v ∷ vs) c2 (place_in g a (p + length lines)) u later (ready_is_calm g a pushed needs c2 q2 b2 u ready).calm kept.joins.output kept.joins.ended (omega (arith, turned2)) (λ i less.
    follows_weaken g i (w + 2600) (w + 2600 + 4000) (Running k (v ∷ vs) c2) (place_in g a (p + length lines)) u later (omega arith)
    (rest i v c2 q2 b2 u later (omega (arith, lt, less)) kept told turned2)))

pub names_are_bases : NamesAreBases
names_are_bases g a t e base = (
  λ pushed fresh. keeps g a (need e) pushed (plan (unit_in g) e) (place_of a.frame pushed e) (base_code a.frame pushed fresh Registers e) (base pushed fresh),
  λ pushed fresh. keeps g a (need e) pushed (plan (unit_in g) e) (place_of a.frame pushed e) (base_code a.frame pushed fresh Registers e) (base pushed fresh),
)
