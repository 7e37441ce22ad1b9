-- One step goes on well.
use Rattle.std.proofs.Common.{◌≡◌, ℕ, zero, suc, pos, List, ◌∷◌, Option, None, Bool, true, false, refl, subst}
use Rattle.std.specs.Prelude.{Result, Ok}
use Rattle.c65_csem.specs.Trees.{MaybeTyped, absent, present}
use Rattle.c65_meaning.specs.Program.{ProgramTy}
use Rattle.c65_meaning.specs.declared.action.Action.TheVariants.{NoResult}
use Rattle.c65_meaning.specs.Why.{Why, By, ◌>>=◌}
use Rattle.c65_meaning.specs.Integers.{truth}
use Rattle.c65_meaning.specs.Store.{Value, Whole, NoValue}
use Rattle.c65_meaning.specs.Operators.{is_post, truth_of, converted, named_by, moved, unary, binary, bumped}
use Rattle.c65_meaning.specs.Items.{Item, Loop, Push, Name, Follow, Move, Fetch, Keep, Change, Apply1, Apply2, Both, Either, Truth, Choose, Drop, Put, Peek, Bump, PutUnder, Carry, Gather, Lay, Reach, Invoke, Busy, Skip, Init, CarryInto, Wipe, Begin, End, Branch, Test, Pass, Enter, Next, Back, Check, Redo, Select, EndSwitch, Jump, LeaveLoop, GoOn, Give, GiveNothing, Leave, plan, plan_stmt, plan_stmts, head_of}
use Rattle.c65_meaning.specs.After.{up_to_call, up_to_break, up_to_continue}
use Rattle.c65_meaning.specs.State.{Scene, State, Undefined, turned}
use Rattle.c65_meaning.specs.Step.{one, two, go_on, is_value, under, loaded, put, gathered_at, rest_place, begin_objects, end_objects, object_place, place_in_object, after_body, last_test, returned, at_the_end, perform}
use Rattle.c65_depth.specs.declared.numbers.Numbers.{Numbers}
use Rattle.c65_depth.specs.Certificates.{CallsPointer, AreCovered}
use Rattle.c65_depth_law_states.proofs.Marks.{Mark, AreMarked, Pops, PopsTwo, IsAtBase, PopsToBase, with_mark, HoldsIf, HoldsLoop, Does, Takes, Resumes, Active, funcs, HaveRoom}
use Rattle.c65_depth_law_states.proofs.Plans.{works, head_works, stmt_works, stmts_work}
use Rattle.c65_depth_law_states.proofs.Landings.{exits, breaks, continues}
use Rattle.c65_depth_law_states.proofs.Scenes.{put_in, objects_begin, objects_end}
use Rattle.c65_depth_law_states.proofs.States.{Well, covers, Works, In, goes, go_on_well, one_well, two_well, decided_well, if_well, with_scene_well, assigned_well, copy_well, set_area_well, clear_well, lay_well}
use Rattle.c65_depth_law_states.proofs.Calls.{invoked_well, library_well, left_call_well, returned_well, left_for_well, jumped_well, case_well}

under_marked : (post : Bool) (ks : List Mark) (v : Value) (vs : List Value) → AreMarked ks vs → AreMarked (with_mark post ks) (under post v vs)
under_marked true ks v vs a = (tt, a)
under_marked false ks v vs a = a

module _ (p : ProgramTy) (numbers : ℕ → Option Numbers) (covered : AreCovered p numbers) (x : Active) (xs : List Active) (room : HaveRoom p numbers (x ∷ xs)) (base : List Mark) where
  abbrev Goes : List Item → List Mark → Type 0
  Goes k ks = Works p numbers covered x xs room base k ks

  abbrev Here : Scene → Type 0
  Here c = In p numbers covered x xs room base c

  abbrev Fine : State → Type 0
  Fine s = Well p numbers covered s

  abbrev Done : Item → List Item → List Mark → Type 0
  Done i k ks = Does p x.func base i ks (λ js. Goes k js) (Resumes (funcs xs) (λ g gs b js. Takes p k g gs b js) base)

  no_pointer : CallsPointer p x.func → ⊥
  no_pointer = (covers p numbers covered x xs room.0).no_pointer

  abbrev turning : List Item → Mark → List Mark → Type 0
  turning k y js = Goes k (None ∷ js)

  -- a value is taken and another one given
  turns_well : (f : Value → Result Value Why) (k : List Item) (vs : List Value) (c : Scene) (ks : List Mark) → Here c → AreMarked ks vs → Pops ks (turning k) → Fine (one vs (λ v r. go_on (f v) k r c))
  turns_well f k vs c ks o a t = one_well p numbers covered ks vs (turning k) _ a t (λ y js v r m b g. go_on_well p numbers covered x xs room base (f v) k r c js o b g)

  joins_well : (f : Value → Value → Result Value Why) (k : List Item) (vs : List Value) (c : Scene) (ks : List Mark) → Here c → AreMarked ks vs → PopsTwo ks (λ js. Goes k (None ∷ js)) → Fine (two vs (λ w v r. go_on (f w v) k r c))
  joins_well f k vs c ks o a t = two_well p numbers covered ks vs (λ js. Goes k (None ∷ js)) _ a t (λ js w v r b g. go_on_well p numbers covered x xs room base (f w v) k r c js o b g)

  -- at the end of a value a statement goes on from what waits below its call
  based_well : (f : Value → List Value → State) (k : List Item) (vs : List Value) (c : Scene) (ks : List Mark) → AreMarked ks vs → PopsToBase base ks (λ js. Goes k js) → ((v : Value) (r : List Value) → AreMarked base r → Goes k base → Fine (f v r)) → Fine (one vs f)
  based_well f k vs c ks a t n = one_well p numbers covered ks vs (λ y js. IsAtBase base js (λ is. Goes k is)) f a t (λ y js v r m b g. n v r (subst (λ (is : List Mark). AreMarked is r) g.0 b) g.1)

  at_base : (ks : List Mark) (vs : List Value) → ks ≡ base → AreMarked ks vs → AreMarked base vs
  at_base ks vs e a = subst (λ (is : List Mark). AreMarked is vs) e a

  -- ---- loops

  after_body_well : (l : Loop) (e : MaybeTyped) (k : List Item) (vs : List Value) (c : Scene) → HoldsIf p x.func e → HoldsLoop p x.func l → Here c → AreMarked base vs → Goes k base → Fine (after_body p.unit l e k vs c)
  after_body_well l absent k vs c h i o a t = goes p numbers covered x xs room base (head_of p.unit l k) vs (turned c) base o a (head_works p x.func no_pointer (funcs xs) base l k i t)
  after_body_well l (present e) k vs c h i o a t = goes p numbers covered x xs room base (plan p.unit e (Back l ∷ k)) vs c base o a (works p x.func no_pointer (funcs xs) base e (Back l ∷ k) base h (i, (refl, t)))

  last_test_well : (l : Loop) (e : MaybeTyped) (k : List Item) (vs : List Value) (c : Scene) → HoldsIf p x.func e → HoldsLoop p x.func l → Here c → AreMarked base vs → Goes k base → Fine (last_test p.unit l e k vs c)
  last_test_well l absent k vs c h i o a t = tt
  last_test_well l (present e) k vs c h i o a t = goes p numbers covered x xs room base (plan p.unit e (Redo l ∷ k)) vs c base o a (works p x.func no_pointer (funcs xs) base e (Redo l ∷ k) base h (i, (refl, t)))

  body_works : (l : Loop) (k : List Item) → HoldsLoop p x.func l → Goes k base → Goes (plan_stmt p.unit l.at l.body k) base
  body_works l k i t = stmt_works p x.func no_pointer (funcs xs) base l.at l.body k i.2 t

  -- ---- one item

  pub perform_well : (i : Item) (k : List Item) (vs : List Value) (c : Scene) (ks : List Mark) → Here c → AreMarked ks vs → Done i k ks → Fine (perform p i k vs c)
  perform_well (Push v) k vs c ks o a t = goes p numbers covered x xs room base k (v ∷ vs) c (t.0 ∷ ks) o (t.1, a) t.2
  perform_well (Name i) k vs c ks o a t = go_on_well p numbers covered x xs room base (object_place p.unit i c) k vs c ks o a t
  perform_well Follow k vs c ks o a t = turns_well (λ v. named_by c.store v) k vs c ks o a t
  perform_well (Move n) k vs c ks o a t = turns_well (λ v. moved c.store v (pos n)) k vs c ks o a t
  perform_well (Fetch shape) k vs c ks o a t = turns_well (λ v. loaded shape c v) k vs c ks o a t
  perform_well Keep k vs c ks o a t = one_well p numbers covered ks vs (λ y js. Goes k (y ∷ js)) _ a t (λ y js v r m b g. goes p numbers covered x xs room base k (v ∷ r) c (y ∷ js) o (m, b) g)
  perform_well (Change to) k vs c ks o a t = turns_well (λ v. converted to v) k vs c ks o a t
  perform_well (Apply1 op shape) k vs c ks o a t = turns_well (λ v. unary c.store op shape v) k vs c ks o a t
  perform_well (Apply2 op left right) k vs c ks o a t = joins_well (λ w v. binary c.store op left right v w) k vs c ks o a t
  perform_well (Both e) k vs c ks o a t = one_well p numbers covered ks vs (turning k) _ a t.1 (λ y js v r m b g. decided_well p numbers covered (truth_of c.store v) _ _ (goes p numbers covered x xs room base (plan p.unit e (Truth ∷ k)) r c js o b (works p x.func no_pointer (funcs xs) base e (Truth ∷ k) js t.0 g)) (goes p numbers covered x xs room base k (Whole (pos 0) ∷ r) c (None ∷ js) o (tt, b) g))
  perform_well (Either e) k vs c ks o a t = one_well p numbers covered ks vs (turning k) _ a t.1 (λ y js v r m b g. decided_well p numbers covered (truth_of c.store v) _ _ (goes p numbers covered x xs room base k (Whole (pos 1) ∷ r) c (None ∷ js) o (tt, b) g) (goes p numbers covered x xs room base (plan p.unit e (Truth ∷ k)) r c js o b (works p x.func no_pointer (funcs xs) base e (Truth ∷ k) js t.0 g)))
  perform_well Truth k vs c ks o a t = turns_well (λ v. truth_of c.store v >>= λ b. Ok (Whole (truth b))) k vs c ks o a t
  perform_well (Choose d e) k vs c ks o a t = one_well p numbers covered ks vs (turning k) _ a t.2 (λ y js v r m b g. decided_well p numbers covered (truth_of c.store v) _ _ (goes p numbers covered x xs room base (plan p.unit d k) r c js o b (works p x.func no_pointer (funcs xs) base d k js t.0 g)) (goes p numbers covered x xs room base (plan p.unit e k) r c js o b (works p x.func no_pointer (funcs xs) base e k js t.1 g)))
  perform_well Drop k vs c ks o a t = one_well p numbers covered ks vs (λ y js. Goes k js) _ a t (λ y js v r m b g. goes p numbers covered x xs room base k r c js o b g)
  perform_well (Put shape) k vs c ks o a t = two_well p numbers covered ks vs (λ js. Goes k (None ∷ js)) _ a t (λ js v at r b g. assigned_well p numbers covered x xs room base shape at k r js (put false shape c at v) (put_in (x ∷ xs) false shape c at v o) b g)
  perform_well (Peek shape to) k vs c ks o a t = one_well p numbers covered ks vs (λ y js. Goes k (None ∷ None ∷ js)) _ a t (λ y js at r m b g. go_on_well p numbers covered x xs room base (loaded shape c at >>= converted to) k (at ∷ r) c (None ∷ js) o (tt, b) g)
  perform_well (Bump kind shape) k vs c ks o a t = two_well p numbers covered ks vs (λ js. Goes k (None ∷ None ∷ with_mark (is_post kind) js)) _ a t (λ js v at r b g. go_on_well p numbers covered x xs room base (bumped c.store kind shape v) k (at ∷ under (is_post kind) v r) c (None ∷ with_mark (is_post kind) js) o (tt, under_marked (is_post kind) js v r b) g)
  perform_well (PutUnder shape) k vs c ks o a t = two_well p numbers covered ks vs (λ js. Goes k js) _ a t (λ js v at r b g. with_scene_well p numbers covered x xs room base (put false shape c at v) k r js (put_in (x ∷ xs) false shape c at v o) b g)
  perform_well (Carry done size) k vs c ks o a t = two_well p numbers covered ks vs (λ js. Goes k (None ∷ js)) _ a t (λ js from to r b g. copy_well p numbers covered x xs room base done size from to k r c js o b g)
  perform_well (Gather size) k vs c ks o a t = turns_well (λ v. gathered_at size c v) k vs c ks o a t
  perform_well (Lay i done size) k vs c ks o a t = one_well p numbers covered ks vs (turning k) _ a t (λ y js v r m b g. lay_well p numbers covered x xs room base i done size v (place_in_object p.unit i 0 c) k r c js o b g)
  perform_well Reach k vs c ks o a t = go_on_well p numbers covered x xs room base (rest_place c) k vs c ks o a t
  perform_well (Invoke callee types) k vs c ks o a t = invoked_well p numbers covered x xs room base callee types k vs c ks t.0 o a t.1 t.2
  perform_well (Busy left f args rest) k vs c ks o a t = library_well p numbers covered x xs room base k vs c ks o a t left f args rest
  perform_well Skip k vs c ks o a t = goes p numbers covered x xs room base k vs c base o (at_base ks vs t.0 a) t.1
  perform_well (Init i n shape) k vs c ks o a t = based_well _ k vs c ks a t (λ v r b g. with_scene_well p numbers covered x xs room base (put true shape c (place_in_object p.unit i n c) v) k r base (put_in (x ∷ xs) true shape c (place_in_object p.unit i n c) v o) b g)
  perform_well (CarryInto i n done size) k vs c ks o a t = based_well _ k vs c ks a t (λ from r b g. set_area_well p numbers covered x xs room base i n done size from (place_in_object p.unit i n c) k r c o b g)
  perform_well (Wipe i done size) k vs c ks o a t = clear_well p numbers covered x xs room base i done size (place_in_object p.unit i 0 c) k vs c o (at_base ks vs t.0 a) t.1
  perform_well (Begin n objects body) k vs c ks o a t = goes p numbers covered x xs room base (plan_stmts p.unit n body (End objects ∷ k)) vs (begin_objects p.unit objects c) base (objects_begin (x ∷ xs) p.unit objects c o) (at_base ks vs t.1.0 a) (stmts_work p x.func no_pointer (funcs xs) base n body (End objects ∷ k) t.0 (refl, t.1.1))
  perform_well (End objects) k vs c ks o a t = goes p numbers covered x xs room base k vs (end_objects objects c) base (objects_end (x ∷ xs) objects c o) (at_base ks vs t.0 a) t.1
  perform_well (Branch m d n e) k vs c ks o a t = based_well _ k vs c ks a t.2 (λ v r b g. decided_well p numbers covered (truth_of c.store v) _ _ (goes p numbers covered x xs room base (plan_stmt p.unit m d k) r c base o b (stmt_works p x.func no_pointer (funcs xs) base m d k t.0 g)) (goes p numbers covered x xs room base (plan_stmt p.unit n e k) r c base o b (stmt_works p x.func no_pointer (funcs xs) base n e k t.1 g)))
  perform_well (Test l) k vs c ks o a t = based_well _ k vs c ks a t.1 (λ v r b g. decided_well p numbers covered (truth_of c.store v) _ _ (goes p numbers covered x xs room base (plan_stmt p.unit l.at l.body (Next l ∷ k)) r c base o b (body_works l (Next l ∷ k) t.0 (t.0, (refl, g)))) (goes p numbers covered x xs room base k r c base o b g))
  perform_well (Pass l) k vs c ks o a t = goes p numbers covered x xs room base (plan_stmt p.unit l.at l.body (Next l ∷ k)) vs c base o (at_base ks vs t.1.0 a) (body_works l (Next l ∷ k) t.0 (t.0, (refl, t.1.1)))
  perform_well (Enter l) k vs c ks o a t = goes p numbers covered x xs room base (plan_stmt p.unit l.at l.body (Check l ∷ k)) vs c base o (at_base ks vs t.1.0 a) (body_works l (Check l ∷ k) t.0 (t.0, (refl, t.1.1)))
  perform_well (Next l) k vs c ks o a t = after_body_well l l.next k vs c t.0.1 t.0 o (at_base ks vs t.1.0 a) t.1.1
  perform_well (Back l) k vs c ks o a t = based_well _ k vs c ks a t.1 (λ v r b g. goes p numbers covered x xs room base (head_of p.unit l k) r (turned c) base o b (head_works p x.func no_pointer (funcs xs) base l k t.0 g))
  perform_well (Check l) k vs c ks o a t = last_test_well l l.test k vs c t.0.0 t.0 o (at_base ks vs t.1.0 a) t.1.1
  perform_well (Redo l) k vs c ks o a t = based_well _ k vs c ks a t.1 (λ v r b g. decided_well p numbers covered (truth_of c.store v) _ _ (goes p numbers covered x xs room base (plan_stmt p.unit l.at l.body (Check l ∷ k)) r (turned c) base o b (body_works l (Check l ∷ k) t.0 (t.0, (refl, g)))) (goes p numbers covered x xs room base k r c base o b g))
  perform_well (Select (suc left) n body) k vs c ks o a t = goes p numbers covered x xs room base (Select left n body ∷ k) vs c ks o a t
  perform_well (Select zero n body) k vs c ks o a t = based_well _ k vs c ks a t.1 (λ v r b g. case_well p numbers covered x xs room base n body k r c v t.0 o b g)
  perform_well EndSwitch k vs c ks o a t = goes p numbers covered x xs room base k vs c base o (at_base ks vs t.0 a) t.1
  perform_well (Jump l n) k vs c ks o a t = jumped_well p numbers covered x xs room base l n vs c (up_to_call k) o (at_base ks vs t.0 a) (exits p x.func (funcs xs) base k base t.1)
  perform_well LeaveLoop k vs c ks o a t = left_for_well p numbers covered x xs room base vs c (up_to_break k) o (at_base ks vs t.0 a) (breaks p x.func (funcs xs) base k base t.1)
  perform_well GoOn k vs c ks o a t = left_for_well p numbers covered x xs room base vs c (up_to_continue k) o (at_base ks vs t.0 a) (continues p x.func (funcs xs) base k base t.1)
  perform_well Give k vs c ks o a t = based_well _ k vs c ks a t (λ v r b g. if_well p numbers covered (is_value v) (returned p.unit v r c (up_to_call k)) (Undefined (By NoResult)) (returned_well p numbers covered x xs room base v r c (up_to_call k) o b (exits p x.func (funcs xs) base k base g)) tt)
  perform_well GiveNothing k vs c ks o a t = returned_well p numbers covered x xs room base NoValue vs c (up_to_call k) o (at_base ks vs t.0 a) (exits p x.func (funcs xs) base k base t.1)
  perform_well Leave k vs c ks o a t = left_call_well p numbers covered x xs room base (at_the_end p c.frames) k vs c o (at_base ks vs t.0 a) t.1
