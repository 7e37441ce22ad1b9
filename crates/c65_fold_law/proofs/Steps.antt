-- One step of a run beside one of the folded program's.
use Rattle.std.proofs.Common.{◌≡◌, ℕ, zero, suc, pos, List, [], ◌∷◌, true, false, if◌then◌else◌, refl, sym, ap, subst}
use Rattle.std.specs.Prelude.{Result, ◌==◌}
use Rattle.c65_csem.specs.Trees.{Stmt, MaybeTyped, absent, present, UnitTy}
use Rattle.c65_csem.specs.Statements.{IsMaybe}
use Rattle.c65_meaning.specs.Program.{ProgramTy}
use Rattle.c65_meaning.specs.Why.{Why, ◌>>=◌}
use Rattle.c65_meaning.specs.Store.{Value, Whole, Null, Place, Opaque, Cells, NoValue, Shape}
use Rattle.c65_meaning.specs.Operators.{is_post, truth_of, converted}
use Rattle.c65_meaning.specs.Items.{Item, Loop, Push, Name, Follow, Move, Fetch, Keep, Change, Apply1, Apply2, Both, Either, Truth, Choose, Drop, Put, Peek, Bump, PutUnder, Carry, Gather, Lay, Reach, Invoke, Busy, Skip, Init, CarryInto, Wipe, Begin, End, Branch, Test, Pass, Enter, Next, Back, Check, Redo, Select, EndSwitch, Jump, LeaveLoop, GoOn, Give, GiveNothing, Leave, plan_stmt}
use Rattle.c65_meaning.specs.After.{ToCase, ToDefault}
use Rattle.c65_meaning.specs.State.{Frame, Scene, Running, turned}
use Rattle.c65_meaning.specs.Step.{put, is_value, under, taken, place_in_object, after_body, last_test, chosen_case, at_the_end, perform, left_call}
use Rattle.c65_fold_law.specs.Laws.{Cheaper}
use Rattle.c65_fold_law.specs.Programs.{folded_if, folded_stmt, folded_unit, folded_program}
use Rattle.c65_fold_law.proofs.Marks.{folded_loop, folded_item, TypedStmt, TypedLoop, TypedItem, Works, item, plan_works, head_works, stmt_works, stmts_work}
use Rattle.c65_fold_law.proofs.Jumps.{call_left, break_left, continue_left, or_else_land, after_land}
use Rattle.c65_fold_law.proofs.Scenes.{framed, func_in_same, Sim, SceneIf, runs, one_sim, two_sim, go_on_sim, if_sim, decided_sim, with_scene_sim, loaded_same, put_scene, assigned_sim, copy_sim, gathered_same, lay_sim, rest_place_same, set_area_sim, clear_sim, object_same, place_in_same, Now, begins, ends, goes}
use Rattle.c65_fold_law.proofs.Calls.{TypedFuncs, left_call_sim, returned_sim, left_for_sim, jumped_sim, switched_sim, library_sim, invoked_sim}

module _ (u : UnitTy) where
  -- the scene as it is
  now : (c : Scene) (gs : List Frame) → Cheaper c.frames gs → Now u c (framed gs c)
  now c gs h = record { frames = gs; cheaper = h; is = refl }

  turn : (k l : List Item) (vs : List Value) (c : Scene) (gs : List Frame) → Works u k l → Cheaper c.frames gs → Sim u (Running k vs (turned c)) (Running l vs (turned (framed gs c)))
  turn k l vs c gs w h = runs u k l vs (turned c) gs w h

  after_body_sim : (lp : Loop) → TypedLoop u lp → (o : MaybeTyped) → lp.next ≡ o → (k l : List Item) (vs : List Value) (c : Scene) (gs : List Frame) → Works u k l → Cheaper c.frames gs → Sim u (after_body u lp o k vs c) (after_body (folded_unit u) (folded_loop lp) (folded_if o) l vs (framed gs c))
  after_body_sim lp t absent e k l vs c gs w h = turn _ _ vs c gs (head_works u lp t k l w) h
  after_body_sim lp t (present x) e k l vs c gs w h = runs u _ _ vs c gs (plan_works u x (subst (λ (o : MaybeTyped). IsMaybe u o) e t.next) _ _ (item u (Back lp) k l t w)) h

  last_test_sim : (lp : Loop) → TypedLoop u lp → (o : MaybeTyped) → lp.test ≡ o → (k l : List Item) (vs : List Value) (c : Scene) (gs : List Frame) → Works u k l → Cheaper c.frames gs → Sim u (last_test u lp o k vs c) (last_test (folded_unit u) (folded_loop lp) (folded_if o) l vs (framed gs c))
  last_test_sim lp t absent e k l vs c gs w h = tt
  last_test_sim lp t (present x) e k l vs c gs w h = runs u _ _ vs c gs (plan_works u x (subst (λ (o : MaybeTyped). IsMaybe u o) e t.test) _ _ (item u (Redo lp) k l t w)) h

  body_works : (lp : Loop) → TypedLoop u lp → (k l : List Item) → Works u k l → Works u (plan_stmt u lp.at lp.body k) (plan_stmt (folded_unit u) lp.at (folded_stmt lp.body) l)
  body_works lp t k l w = stmt_works u lp.at lp.body t.body.0 t.body.1 k l w

  case_sim : (n : ℕ) (body : Stmt) → TypedStmt u body → (k l : List Item) (vs : List Value) (c : Scene) (gs : List Frame) (v : Value) → Works u k l → Cheaper c.frames gs → Sim u (chosen_case u n body k vs c v) (chosen_case (folded_unit u) n (folded_stmt body) l vs (framed gs c) v)
  case_sim n body t k l vs c gs (Whole z) w h = switched_sim u k l vs c gs _ _ (or_else_land u _ _ _ _ (after_land u (ToCase z) n body t.0 t.1 _ _ (item u EndSwitch k l tt w)) (after_land u ToDefault n body t.0 t.1 _ _ (item u EndSwitch k l tt w))) w h
  case_sim n body t k l vs c gs Null w h = tt
  case_sim n body t k l vs c gs (Place b o) w h = tt
  case_sim n body t k l vs c gs Opaque w h = tt
  case_sim n body t k l vs c gs (Cells xs) w h = tt
  case_sim n body t k l vs c gs NoValue w h = tt

module _ (p : ProgramTy) (typed : TypedFuncs p.unit) where
  end_same : (fs gs : List Frame) → Cheaper fs gs → at_the_end (folded_program p) gs ≡ at_the_end p fs
  end_same fs gs h = ap (λ (n : ℕ). if n == p.main then Whole (pos 0) else NoValue) (func_in_same fs gs h)

  init_scene : (i o : ℕ) (shape : Shape) (c : Scene) (gs : List Frame) (v : Value) → Cheaper c.frames gs → SceneIf p.unit (put true shape c (place_in_object p.unit i o c) v) (put true shape (framed gs c) (place_in_object (folded_unit p.unit) i o (framed gs c)) v)
  init_scene i o shape c gs v h = subst (λ (at : Value). SceneIf p.unit (put true shape c (place_in_object p.unit i o c) v) (put true shape (framed gs c) at v)) (sym (place_in_same p.unit i o c gs h)) (put_scene p.unit true shape c gs (place_in_object p.unit i o c) v h)

  pub perform_sim : (i : Item) → TypedItem p.unit i → (k l : List Item) → Works p.unit k l → (vs : List Value) (c : Scene) (gs : List Frame) → Cheaper c.frames gs → Sim p.unit (perform p i k vs c) (perform (folded_program p) (folded_item i) l vs (framed gs c))
  perform_sim (Push v) t k l w vs c gs h = runs p.unit k l (v ∷ vs) c gs w h
  perform_sim (Name i) t k l w vs c gs h = go_on_sim p.unit _ _ k l vs c gs (object_same p.unit i c gs h) w h
  perform_sim Follow t k l w vs c gs h = one_sim p.unit vs _ _ (λ v r. go_on_sim p.unit _ _ k l r c gs refl w h)
  perform_sim (Move o) t k l w vs c gs h = one_sim p.unit vs _ _ (λ v r. go_on_sim p.unit _ _ k l r c gs refl w h)
  perform_sim (Fetch shape) t k l w vs c gs h = one_sim p.unit vs _ _ (λ v r. go_on_sim p.unit _ _ k l r c gs (loaded_same p.unit shape c gs v) w h)
  perform_sim Keep t k l w vs c gs h = one_sim p.unit vs _ _ (λ v r. runs p.unit k l (v ∷ r) c gs w h)
  perform_sim (Change to) t k l w vs c gs h = one_sim p.unit vs _ _ (λ v r. go_on_sim p.unit _ _ k l r c gs refl w h)
  perform_sim (Apply1 op shape) t k l w vs c gs h = one_sim p.unit vs _ _ (λ v r. go_on_sim p.unit _ _ k l r c gs refl w h)
  perform_sim (Apply2 op left right) t k l w vs c gs h = two_sim p.unit vs _ _ (λ y x r. go_on_sim p.unit _ _ k l r c gs refl w h)
  perform_sim (Both b) t k l w vs c gs h = one_sim p.unit vs _ _ (λ v r. decided_sim p.unit (truth_of c.store v) _ _ _ _ (runs p.unit _ _ r c gs (plan_works p.unit b t _ _ (item p.unit Truth k l tt w)) h) (runs p.unit k l (Whole (pos 0) ∷ r) c gs w h))
  perform_sim (Either b) t k l w vs c gs h = one_sim p.unit vs _ _ (λ v r. decided_sim p.unit (truth_of c.store v) _ _ _ _ (runs p.unit k l (Whole (pos 1) ∷ r) c gs w h) (runs p.unit _ _ r c gs (plan_works p.unit b t _ _ (item p.unit Truth k l tt w)) h))
  perform_sim Truth t k l w vs c gs h = one_sim p.unit vs _ _ (λ v r. go_on_sim p.unit _ _ k l r c gs refl w h)
  perform_sim (Choose a b) t k l w vs c gs h = one_sim p.unit vs _ _ (λ v r. decided_sim p.unit (truth_of c.store v) _ _ _ _ (runs p.unit _ _ r c gs (plan_works p.unit a t.0 k l w) h) (runs p.unit _ _ r c gs (plan_works p.unit b t.1 k l w) h))
  perform_sim Drop t k l w vs c gs h = one_sim p.unit vs _ _ (λ v r. runs p.unit k l r c gs w h)
  perform_sim (Put shape) t k l w vs c gs h = two_sim p.unit vs _ _ (λ v at r. assigned_sim p.unit shape at k l r _ _ (put_scene p.unit false shape c gs at v h) w)
  perform_sim (Peek shape to) t k l w vs c gs h = one_sim p.unit vs _ _ (λ at r. go_on_sim p.unit _ _ k l (at ∷ r) c gs (ap (λ (o : Result Value Why). o >>= converted to) (loaded_same p.unit shape c gs at)) w h)
  perform_sim (Bump kind shape) t k l w vs c gs h = two_sim p.unit vs _ _ (λ v at r. go_on_sim p.unit _ _ k l (at ∷ under (is_post kind) v r) c gs refl w h)
  perform_sim (PutUnder shape) t k l w vs c gs h = two_sim p.unit vs _ _ (λ v at r. with_scene_sim p.unit _ _ k l r (put_scene p.unit false shape c gs at v h) w)
  perform_sim (Carry done size) t k l w vs c gs h = two_sim p.unit vs _ _ (λ from to r. copy_sim p.unit done size from to k l r c gs w h)
  perform_sim (Gather size) t k l w vs c gs h = one_sim p.unit vs _ _ (λ v r. go_on_sim p.unit _ _ k l r c gs (gathered_same p.unit size c gs v) w h)
  perform_sim (Lay i done size) t k l w vs c gs h = one_sim p.unit vs _ _ (λ v r. lay_sim p.unit i done size v _ _ k l r c gs (place_in_same p.unit i 0 c gs h) w h)
  perform_sim Reach t k l w vs c gs h = go_on_sim p.unit _ _ k l vs c gs (rest_place_same p.unit c gs h) w h
  perform_sim (Invoke callee types) t k l w vs c gs h = invoked_sim p.unit typed callee types k l (taken types [] vs) c gs w h
  perform_sim (Busy left f args rest) t k l w vs c gs h = library_sim p.unit left f args rest k l vs c gs w h
  perform_sim Skip t k l w vs c gs h = runs p.unit k l vs c gs w h
  perform_sim (Init i o shape) t k l w vs c gs h = one_sim p.unit vs _ _ (λ v r. with_scene_sim p.unit _ _ k l r (init_scene i o shape c gs v h) w)
  perform_sim (CarryInto i o done size) t k l w vs c gs h = one_sim p.unit vs _ _ (λ from r. set_area_sim p.unit i o done size from _ _ k l r c gs (place_in_same p.unit i o c gs h) w h)
  perform_sim (Wipe i done size) t k l w vs c gs h = clear_sim p.unit i done size _ _ k l vs c gs (place_in_same p.unit i 0 c gs h) w h
  perform_sim (Begin n objects body) t k l w vs c gs h = goes p.unit _ _ vs _ _ (stmts_work p.unit n body t.0 t.1 _ _ (item p.unit (End objects) k l tt w)) (begins p.unit objects c gs h)
  perform_sim (End objects) t k l w vs c gs h = goes p.unit k l vs _ _ w (ends p.unit objects c gs h)
  perform_sim (Branch m a n b) t k l w vs c gs h = one_sim p.unit vs _ _ (λ v r. decided_sim p.unit (truth_of c.store v) _ _ _ _ (runs p.unit _ _ r c gs (stmt_works p.unit m a t.0.0 t.0.1 k l w) h) (runs p.unit _ _ r c gs (stmt_works p.unit n b t.1.0 t.1.1 k l w) h))
  perform_sim (Test lp) t k l w vs c gs h = one_sim p.unit vs _ _ (λ v r. decided_sim p.unit (truth_of c.store v) _ _ _ _ (runs p.unit _ _ r c gs (body_works p.unit lp t _ _ (item p.unit (Next lp) k l t w)) h) (runs p.unit k l r c gs w h))
  perform_sim (Pass lp) t k l w vs c gs h = runs p.unit _ _ vs c gs (body_works p.unit lp t _ _ (item p.unit (Next lp) k l t w)) h
  perform_sim (Enter lp) t k l w vs c gs h = runs p.unit _ _ vs c gs (body_works p.unit lp t _ _ (item p.unit (Check lp) k l t w)) h
  perform_sim (Next lp) t k l w vs c gs h = after_body_sim p.unit lp t lp.next refl k l vs c gs w h
  perform_sim (Back lp) t k l w vs c gs h = one_sim p.unit vs _ _ (λ v r. turn p.unit _ _ r c gs (head_works p.unit lp t k l w) h)
  perform_sim (Check lp) t k l w vs c gs h = last_test_sim p.unit lp t lp.test refl k l vs c gs w h
  perform_sim (Redo lp) t k l w vs c gs h = one_sim p.unit vs _ _ (λ v r. decided_sim p.unit (truth_of c.store v) _ _ _ _ (turn p.unit _ _ r c gs (body_works p.unit lp t _ _ (item p.unit (Check lp) k l t w)) h) (runs p.unit k l r c gs w h))
  perform_sim (Select (suc left) n body) t k l w vs c gs h = runs p.unit _ _ vs c gs (item p.unit (Select left n body) k l t w) h
  perform_sim (Select zero n body) t k l w vs c gs h = one_sim p.unit vs _ _ (λ v r. case_sim p.unit n body t k l r c gs v w h)
  perform_sim EndSwitch t k l w vs c gs h = runs p.unit k l vs c gs w h
  perform_sim (Jump m n) t k l w vs c gs h = jumped_sim p.unit typed m n vs c gs _ _ (call_left p.unit k l w) h
  perform_sim LeaveLoop t k l w vs c gs h = left_for_sim p.unit vs c gs _ _ (break_left p.unit k l w) h
  perform_sim GoOn t k l w vs c gs h = left_for_sim p.unit vs c gs _ _ (continue_left p.unit k l w) h
  perform_sim Give t k l w vs c gs h = one_sim p.unit vs _ _ (λ v r. if_sim p.unit (is_value v) _ _ _ _ (returned_sim p.unit v r c gs _ _ (call_left p.unit k l w) h) tt)
  perform_sim GiveNothing t k l w vs c gs h = returned_sim p.unit NoValue vs c gs _ _ (call_left p.unit k l w) h
  perform_sim Leave t k l w vs c gs h =
      subst (λ (v : Value). Sim p.unit (perform p Leave k vs c) (left_call (folded_unit p.unit) v l vs (framed gs c))) (sym (end_same c.frames gs h)) (left_call_sim p.unit (at_the_end p c.frames) k l vs c (framed gs c) w (now p.unit c gs h))
