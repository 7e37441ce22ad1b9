-- Calls, their ends, jumps and the library, beside those of the free run.
use Rattle.std.proofs.Common.{◌≡◌, ℕ, zero, suc, List, [], ◌∷◌, Option, Some, None, Bool, true, false, slice_get, refl, sym, subst}
use Rattle.std.specs.Prelude.{take, Result, Ok, Err, nat_le, ◌&&◌}
use Rattle.c65_ctype.specs.Trees.{Ty}
use Rattle.c65_base.specs.declared.library.Library.{Library}
use Rattle.c65_base.specs.declared.library.Library.TheVariants.{Putchar, Getchar, Puts, Exit, Memcpy, Memset, Strcmp, Strcpy, Strlen, Printf}
use Rattle.c65_csem.specs.Trees.{Stmt, FuncTy, UnitTy}
use Rattle.c65_meaning.specs.Why.{Why}
use Rattle.c65_meaning.specs.Store.{Cell, Value, Whole, Null, Place, Opaque, Cells, NoValue}
use Rattle.c65_meaning.specs.Shapes.{object_in, object_shape}
use Rattle.c65_meaning.specs.Items.{Item, Busy, Leave, plan_stmt}
use Rattle.c65_meaning.specs.Costs.{argument_bytes, soft_cost, has_fixed}
use Rattle.c65_meaning.specs.After.{Landing, Left, without}
use Rattle.c65_meaning.specs.State.{Frame, Scene, State, turned, soft_sum, hard_sum, rest_in, name_rest}
use Rattle.c65_meaning.specs.Library.{Effect, effect_of}
use Rattle.c65_meaning.specs.Step.{begin_object, begin_objects, end_objects, end_named, with_params, new_frame, entered, called, allowed, unless_refused, accepted, call_of, invoked, status_of, back_in, behind, params_of, func_in, frames_below, without_frame, end_arguments, left_call, returned, left_for, landed, label_in, body_of, jumped, switched, ended_or, finished, library_call, served, provided, is_active, with_rest, cells_behind, further, with_passed, has_turn}
use Rattle.c65_meaning.specs.Calls.{is_variadic, named_count}
use Rattle.c65_meaning_law_free.specs.Free.{freed_scene}
use Rattle.c65_meaning_law_free.proofs.Scenes.{Room, Shallow, itself, stays_shallow, Beside, runs, one_beside, if_beside, SceneIf, scene_from, bound_scene, put_scene, Now, now_then, rest_sums, equal_is_no_more, begun, begins, one_ends, ends, turns, goes, below_lighter, unless_deep_beside}

-- ---- ends of calls

status_beside : (room : Room) (c : Scene) (v : Value) → Beside room (status_of c v) (status_of (freed_scene c) v)
status_beside room c (Whole z) = refl
status_beside room c Null = refl
status_beside room c (Place b o) = refl
status_beside room c Opaque = refl
status_beside room c (Cells xs) = refl
status_beside room c NoValue = refl

back_beside : (room : Room) (fs : List Frame) (k : List Item) (vs : List Value) (c : Scene) (v : Value) → Shallow room c → Beside room (back_in fs k vs c v) (back_in fs k vs (freed_scene c) v)
back_beside room [] k vs c v s = status_beside room c v
back_beside room (f ∷ fs) k vs c v s = runs room k (v ∷ vs) c s

-- ---- jumps

pub left_for_beside : (room : Room) (vs : List Value) (c : Scene) (o : Option Left) → Shallow room c → Beside room (left_for vs c o) (left_for vs (freed_scene c) o)
left_for_beside room vs c None s = refl
left_for_beside room vs c (Some r) s = goes room r.work vs c (end_objects r.objects c) _ (ends r.objects c) s

module _ (u : UnitTy) where
  arguments_end : (c : Scene) → Now c (end_arguments u c) (end_arguments u (freed_scene c))
  arguments_end c =
      let params : List ℕ = params_of (slice_get u.funcs (func_in c.frames)) in
      now_then c (end_objects params c) (end_objects params (freed_scene c)) (end_named (rest_in c.frames)) (ends params c) (one_ends (rest_in c.frames) (end_objects params c))

  frame_goes : (c : Scene) → Now c (without_frame (end_arguments u c)) (without_frame (end_arguments u (freed_scene c)))
  frame_goes c = now_then c (end_arguments u c) (end_arguments u (freed_scene c)) without_frame (arguments_end c) (refl, below_lighter (end_arguments u c))

  pub left_call_beside : (room : Room) (v : Value) (k : List Item) (vs : List Value) (c : Scene) → Shallow room c → Beside room (left_call u v k vs c) (left_call u v k vs (freed_scene c))
  left_call_beside room v k vs c s =
      let gone = frame_goes c in
      subst (λ (e : Scene). Beside room (left_call u v k vs c) (back_in (frames_below c.frames) k vs e v)) (sym gone.0)
      (back_beside room (frames_below c.frames) k vs (without_frame (end_arguments u c)) v (stays_shallow room c (without_frame (end_arguments u c)) gone.1 s))

  pub returned_beside : (room : Room) (v : Value) (vs : List Value) (c : Scene) (o : Option Left) → Shallow room c → Beside room (returned u v vs c o) (returned u v vs (freed_scene c) o)
  returned_beside room v vs c None s = refl
  returned_beside room v vs c (Some r) s =
      let ended = ends r.objects c in
      subst (λ (e : Scene). Beside room (returned u v vs c (Some r)) (left_call u v (behind r.work) vs e)) (sym ended.0)
      (left_call_beside room v (behind r.work) vs (end_objects r.objects c) (stays_shallow room c (end_objects r.objects c) ended.1 s))

  landed_beside : (room : Room) (n : ℕ) (vs : List Value) (c : Scene) (from : Left) (o : Option Landing) → Shallow room c → Beside room (landed u n vs c from o) (landed u n vs (freed_scene c) from o)
  landed_beside room n vs c from None s = refl
  landed_beside room n vs c from (Some to) s =
      let gone : List ℕ = without from.objects to.objects in
      let new : List ℕ = without to.objects from.objects in
      goes room to.work vs c _ _
      (now_then c (begin_objects u new (end_objects gone c)) (begin_objects u new (end_objects gone (freed_scene c))) (has_turn (nat_le to.at n))
      (now_then c (end_objects gone c) (end_objects gone (freed_scene c)) (begin_objects u new) (ends gone c) (begins u new (end_objects gone c)))
      (turns (nat_le to.at n) (begin_objects u new (end_objects gone c)))) s

  pub jumped_beside : (room : Room) (l n : ℕ) (vs : List Value) (c : Scene) (o : Option Left) → Shallow room c → Beside room (jumped u l n vs c o) (jumped u l n vs (freed_scene c) o)
  jumped_beside room l n vs c None s = refl
  jumped_beside room l n vs c (Some from) s = landed_beside room n vs c from (label_in u l from.work (body_of (slice_get u.funcs (func_in c.frames)))) s

  pub switched_beside : (room : Room) (k : List Item) (vs : List Value) (c : Scene) (o : Option Landing) → Shallow room c → Beside room (switched u k vs c o) (switched u k vs (freed_scene c) o)
  switched_beside room k vs c None s = runs room k vs c s
  switched_beside room k vs c (Some to) s = goes room to.work vs c (begin_objects u to.objects c) _ (begins u to.objects c) s

-- ---- the library

effect_same : (c : Scene) (f : Library) (args : List Value) (rest : List Cell) → effect_of (freed_scene c) f args rest ≡ effect_of c f args rest
effect_same c Putchar args rest = refl
effect_same c Getchar args rest = refl
effect_same c Puts args rest = refl
effect_same c Exit args rest = refl
effect_same c Memcpy args rest = refl
effect_same c Memset args rest = refl
effect_same c Strcmp args rest = refl
effect_same c Strcpy args rest = refl
effect_same c Strlen args rest = refl
effect_same c Printf args rest = refl

ended_or_beside : (room : Room) (k : List Item) (vs : List Value) (c : Scene) (e : Effect) (o : Option ℕ) → Shallow room c → Beside room (ended_or k vs c e o) (ended_or k vs (freed_scene c) e o)
ended_or_beside room k vs c e None s = runs room k (e.result ∷ vs) (record c { store = e.store; input = e.input; out = e.out }) s
ended_or_beside room k vs c e (Some status) s = refl

finished_beside : (room : Room) (k : List Item) (vs : List Value) (c : Scene) (o : Result Effect Why) → Shallow room c → Beside room (finished k vs c o) (finished k vs (freed_scene c) o)
finished_beside room k vs c (Err why) s = refl
finished_beside room k vs c (Ok e) s = ended_or_beside room k vs c e e.status s

pub library_beside : (room : Room) (n : ℕ) (f : Library) (args : List Value) (rest : List Cell) (k : List Item) (vs : List Value) (c : Scene) → Shallow room c → Beside room (library_call n f args rest k vs c) (library_call n f args rest k vs (freed_scene c))
library_beside room zero f args rest k vs c s = subst (λ (o : Result Effect Why). Beside room (finished k vs c (effect_of c f args rest)) (finished k vs (freed_scene c) o)) (sym (effect_same c f args rest)) (finished_beside room k vs c (effect_of c f args rest) s)
library_beside room (suc n) f args rest k vs c s = runs room (Busy n f args rest ∷ k) vs c s

served_beside : (room : Room) (f : Library) (args : List Value) (rest : List Cell) (k : List Item) (vs : List Value) (c : Scene) (o : Result Effect Why) → Shallow room c → Beside room (served f args rest k vs c o) (served f args rest k vs (freed_scene c) o)
served_beside room f args rest k vs c (Err why) s = refl
served_beside room f args rest k vs c (Ok e) s = library_beside room e.bytes f args rest k vs c s

provided_beside : (room : Room) (f : Library) (args : List Value) (rest : List Cell) (k : List Item) (vs : List Value) (c : Scene) → Shallow room c → Beside room (provided f args rest k vs c) (provided f args rest k vs (freed_scene c))
provided_beside room f args rest k vs c s = subst (λ (o : Result Effect Why). Beside room (provided f args rest k vs c) (served f args rest k vs (freed_scene c) o)) (sym (effect_same c f args rest)) (served_beside room f args rest k vs c (effect_of c f args rest) s)

-- ---- calls

module _ (u : UnitTy) where
  params_scene : (objects : List ℕ) (args : List Value) (c : Scene) → SceneIf c (with_params u objects args c) (with_params u objects args (freed_scene c))
  params_scene [] args c = (refl, itself c)
  params_scene (i ∷ objects) [] c = refl
  params_scene (i ∷ objects) (v ∷ args) c =
      let d : Scene = begin_object u i c in
      scene_from c d _ _ (begun u i c) (bound_scene d _ _ (with_params u objects args) (put_scene true (object_shape u.types (object_in u i)) d (Place c.next 0) v) (params_scene objects args))

  rest_scene : (variadic : Bool) (xs : List Cell) (c : Scene) → SceneIf c (Ok (with_rest variadic xs c)) (Ok (with_rest variadic xs (freed_scene c)))
  rest_scene true xs c = let sums = rest_sums c.frames c.next in (refl, (refl, equal_is_no_more (soft_sum (name_rest c.frames c.next)) (soft_sum c.frames) sums.0, equal_is_no_more (hard_sum (name_rest c.frames c.next)) (hard_sum c.frames) sums.1))
  rest_scene false xs c = (refl, itself c)

  passed_scene : (g : FuncTy) (types : List Ty) (args : List Value) (c : Scene) → SceneIf c (with_passed u g types args c) (with_passed u g types args (freed_scene c))
  passed_scene g types args c = bound_scene c _ _ (λ d. Ok (with_rest (is_variadic g.ty) (further u g types args) d)) (params_scene g.params args c) (rest_scene (is_variadic g.ty) (further u g types args))

  pub entered_beside : (room : Room) (f : ℕ) (g : FuncTy) (body : Stmt) (cost : ℕ) (types : List Ty) (args : List Value) (k : List Item) (vs : List Value) (c : Scene) → c.free ≡ false → Beside room (entered u f g body cost types args k vs c) (entered u f g body cost types args k vs (freed_scene c))
  entered_beside room f g body cost types args k vs c e = unless_deep_beside room (plan_stmt u 0 body (Leave ∷ k)) vs (new_frame u f cost c) _ _ (passed_scene g types args (new_frame u f cost c)) e

  called_beside : (room : Room) (f : ℕ) (types : List Ty) (args : List Value) (g : FuncTy) (body : Option Stmt) (library : Option Library) (k : List Item) (vs : List Value) (c : Scene) → Shallow room c → Beside room (called u f types args g body library k vs c) (called u f types args g body library k vs (freed_scene c))
  called_beside room f types args g (Some body) library k vs c s = if_beside room (has_fixed u body && is_active f c.frames) _ _ _ _ refl (entered_beside room f g body (soft_cost u (argument_bytes u types) body) types args k vs (turned c) s.0)
  called_beside room f types args g None (Some l) k vs c s = provided_beside room l (take (named_count g.ty) args) (cells_behind u (named_count g.ty) types args) k vs c s
  called_beside room f types args g None None k vs c s = refl

  refused_beside : (room : Room) (o : Option Why) (s t : State) → Beside room s t → Beside room (unless_refused u o s) (unless_refused u o t)
  refused_beside room None s t h = h
  refused_beside room (Some why) s t h = refl

  accepted_beside : (room : Room) (callee : Ty) (f : ℕ) (types : List Ty) (args : List Value) (o : Option FuncTy) (k : List Item) (vs : List Value) (c : Scene) → Shallow room c → Beside room (accepted u callee f types args o k vs c) (accepted u callee f types args o k vs (freed_scene c))
  accepted_beside room callee f types args None k vs c s = refl
  accepted_beside room callee f types args (Some g) k vs c s = refused_beside room (allowed u callee types args g) _ _ (called_beside room f types args g g.body g.library k vs c s)

  call_beside : (room : Room) (callee : Ty) (types : List Ty) (args : List Value) (f : Value) (k : List Item) (vs : List Value) (c : Scene) → Shallow room c → Beside room (call_of u callee types args f k vs c) (call_of u callee types args f k vs (freed_scene c))
  call_beside room callee types args (Place f zero) k vs c s = accepted_beside room callee f types args (slice_get u.funcs f) k vs c s
  call_beside room callee types args (Place f (suc o)) k vs c s = refl
  call_beside room callee types args (Whole z) k vs c s = refl
  call_beside room callee types args Null k vs c s = refl
  call_beside room callee types args Opaque k vs c s = refl
  call_beside room callee types args (Cells xs) k vs c s = refl
  call_beside room callee types args NoValue k vs c s = refl

  pub invoked_beside : (room : Room) (callee : Ty) (types : List Ty) (k : List Item) (o : Option (List Value × List Value)) (c : Scene) → Shallow room c → Beside room (invoked u callee types k o c) (invoked u callee types k o (freed_scene c))
  invoked_beside room callee types k None c s = refl
  invoked_beside room callee types k (Some r) c s = one_beside room r.1 _ _ (λ f vs. call_beside room callee types r.0 f k vs c s)
