-- Calls, their ends and the library, beside those of the folded program.
use Rattle.std.proofs.Common.{◌≡◌, ℕ, zero, suc, ◌≤◌, List, [], ◌∷◌, Option, Some, None, true, option_map, slice_get, refl, sym, ap, ◌∙◌, subst, Bool, false}
use Rattle.std.specs.Prelude.{⊤, take, Result, Ok, Err, nat_le, ◌&&◌, ◌||◌, ◌==◌, if◌then◌else◌}
use Rattle.c65_ctype.specs.Trees.{Ty}
use Rattle.c65_base.specs.declared.library.Library.{Library}
use Rattle.c65_base.specs.declared.library.Library.TheVariants.{Putchar, Getchar, Puts, Exit, Memcpy, Memset, Strcmp, Strcpy, Strlen, Printf}
use Rattle.c65_csem.specs.Trees.{Stmt, FuncTy, UnitTy}
use Rattle.c65_meaning.specs.Why.{Why, By}
use Rattle.c65_meaning.specs.Store.{Cell, Value, Whole, Null, Place, Opaque, Cells, NoValue}
use Rattle.c65_meaning.specs.Shapes.{object_in, object_shape}
use Rattle.c65_meaning.specs.Items.{Item, Busy, Leave}
use Rattle.c65_meaning.specs.Costs.{argument_bytes, soft_cost, has_fixed}
use Rattle.c65_meaning.specs.After.{ToLabel, Landing, Left, without}
use Rattle.c65_meaning.specs.State.{Frame, Scene, State, Running, turned, name_object, rest_in, name_rest, Undefined}
use Rattle.c65_meaning.specs.Library.{Effect, effect_of}
use Rattle.c65_meaning.specs.Step.{begin_object, begin_objects, end_objects, with_params, new_frame, entered, called, allowed, unless_refused, accepted, call_of, invoked, status_of, back_in, behind, params_of, func_in, frames_below, without_frame, left_call, returned, left_for, landed, label_in, body_of, jumped, switched, ended_or, finished, library_call, served, provided, is_active, entered_once, end_named, end_arguments, with_rest, cells_behind, further, with_passed}
use Rattle.c65_meaning.specs.Calls.{is_variadic, named_count}
use Rattle.c65_fold_law.specs.Laws.{Cheaper}
use Rattle.c65_fold_law.specs.Programs.{folded_stmt, folded_body, folded_func, folded_unit}
use Rattle.c65_fold_law.proofs.Kept.{func_same, cost_less, fixed_same}
use Rattle.c65_fold_law.proofs.Marks.{TypedStmt, Works, item, stmt_works}
use Rattle.c65_fold_law.proofs.Jumps.{CallIf, LeftIf, LandIf, after_land}
use Rattle.c65_fold_law.proofs.Scenes.{framed, func_in_same, below_cheaper, Sim, SceneIf, runs, one_sim, bound_scene, put_scene, Now, name_cheaper, rest_same, rest_cheaper, begins, end_at, ends, goes, turns, unless_deep_sim}
use Rattle.c65_meaning.specs.declared.action.Action.TheVariants.{FixedAgain}

-- ---- what a body is typed by

abbrev pub TypedBody : UnitTy → Option Stmt → Type 0
TypedBody u None = ⊤
TypedBody u (Some body) = TypedStmt u body

abbrev pub TypedFunc : UnitTy → Option FuncTy → Type 0
TypedFunc u None = ⊤
TypedFunc u (Some g) = TypedBody u g.body

abbrev pub TypedFuncs : UnitTy → Type 0
TypedFuncs u = (f : ℕ) → TypedFunc u (slice_get u.funcs f)

params_kept : (o : Option FuncTy) → params_of (option_map folded_func o) ≡ params_of o
params_kept None = refl
params_kept (Some g) = refl

body_kept : (o : Option FuncTy) → body_of (option_map folded_func o) ≡ folded_body (body_of o)
body_kept None = refl
body_kept (Some g) = refl

body_typed : (u : UnitTy) (o : Option FuncTy) → TypedFunc u o → TypedBody u (body_of o)
body_typed u None h = tt
body_typed u (Some g) h = h

module _ (u : UnitTy) where
  params_same : (i j : ℕ) → j ≡ i → params_of (slice_get (folded_unit u).funcs j) ≡ params_of (slice_get u.funcs i)
  params_same i j e = ap (λ (n : ℕ). params_of (slice_get (folded_unit u).funcs n)) e ∙ ap params_of (func_same u.funcs i) ∙ params_kept (slice_get u.funcs i)

  -- ---- ends of calls

  status_sim : (c : Scene) (gs : List Frame) (v : Value) → Sim u (status_of c v) (status_of (framed gs c) v)
  status_sim c gs (Whole z) = refl
  status_sim c gs Null = tt
  status_sim c gs (Place b o) = tt
  status_sim c gs Opaque = tt
  status_sim c gs (Cells xs) = tt
  status_sim c gs NoValue = tt

  back_sim : (fs gs : List Frame) (k l : List Item) (vs : List Value) (c : Scene) (hs : List Frame) (v : Value) → Cheaper fs gs → Works u k l → Cheaper c.frames hs → Sim u (back_in fs k vs c v) (back_in gs l vs (framed hs c) v)
  back_sim [] [] k l vs c hs v h w g = status_sim c hs v
  back_sim [] (f ∷ gs) k l vs c hs v h w g = absurd h
  back_sim (f ∷ fs) [] k l vs c hs v h w g = absurd h
  back_sim (f ∷ fs) (i ∷ gs) k l vs c hs v h w g = runs u k l (v ∷ vs) c hs w g

  without_frame_now : (d e : Scene) → Now u d e → Now u (without_frame d) (without_frame e)
  without_frame_now d e n = record { frames = frames_below n.frames; cheaper = below_cheaper d.frames n.frames n.cheaper; is = ap without_frame n.is }

  back_at : (fs gs : List Frame) (k l : List Item) (vs : List Value) (d e : Scene) (v : Value) → Cheaper fs gs → Works u k l → Now u d e → Sim u (back_in fs k vs d v) (back_in gs l vs e v)
  back_at fs gs k l vs d e v h w n = subst (λ (x : Scene). Sim u (back_in fs k vs d v) (back_in gs l vs x v)) (sym n.is) (back_sim fs gs k l vs d n.frames v h w n.cheaper)

  -- the parameters and the further arguments end
  arguments_end : (c : Scene) (gs : List Frame) → Cheaper c.frames gs → Now u (end_arguments u c) (end_arguments (folded_unit u) (framed gs c))
  arguments_end c gs h =
      let os = params_of (slice_get u.funcs (func_in c.frames)) in
      subst (λ (ps : List ℕ). Now u (end_arguments u c) (end_named (rest_in gs) (end_objects ps (framed gs c)))) (sym (params_same (func_in c.frames) (func_in gs) (func_in_same c.frames gs h)))
      (subst (λ (o : Option ℕ). Now u (end_arguments u c) (end_named o (end_objects os (framed gs c)))) (sym (rest_same c.frames gs h))
      (end_at u (rest_in c.frames) (end_objects os c) (end_objects os (framed gs c)) (ends u os c gs h)))

  left_framed : (v : Value) (k l : List Item) (vs : List Value) (c : Scene) (gs : List Frame) → Works u k l → Cheaper c.frames gs → Sim u (left_call u v k vs c) (left_call (folded_unit u) v l vs (framed gs c))
  left_framed v k l vs c gs w h = back_at (frames_below c.frames) (frames_below gs) k l vs (without_frame (end_arguments u c)) (without_frame (end_arguments (folded_unit u) (framed gs c))) v (below_cheaper c.frames gs h) w (without_frame_now _ _ (arguments_end c gs h))

  pub left_call_sim : (v : Value) (k l : List Item) (vs : List Value) (d e : Scene) → Works u k l → Now u d e → Sim u (left_call u v k vs d) (left_call (folded_unit u) v l vs e)
  left_call_sim v k l vs d e w n = subst (λ (x : Scene). Sim u (left_call u v k vs d) (left_call (folded_unit u) v l vs x)) (sym n.is) (left_framed v k l vs d n.frames w n.cheaper)

  pub returned_sim : (v : Value) (vs : List Value) (c : Scene) (gs : List Frame) (o r : Option Left) → CallIf u o r → Cheaper c.frames gs → Sim u (returned u v vs c o) (returned (folded_unit u) v vs (framed gs c) r)
  returned_sim v vs c gs None r h g = tt
  returned_sim v vs c gs (Some f) r h g =
      subst (λ (x : Option Left). Sim u (left_call u v (behind f.work) vs (end_objects f.objects c)) (returned (folded_unit u) v vs (framed gs c) x)) (sym h.is)
      (subst (λ (k : List Item). Sim u (left_call u v (behind k) vs (end_objects f.objects c)) (left_call (folded_unit u) v h.other vs (end_objects f.objects (framed gs c)))) (sym h.work_is)
      (left_call_sim v h.behind h.other vs (end_objects f.objects c) (end_objects f.objects (framed gs c)) h.works (ends u f.objects c gs g)))

  -- ---- jumps

  pub left_for_sim : (vs : List Value) (c : Scene) (gs : List Frame) (o r : Option Left) → LeftIf u o r → Cheaper c.frames gs → Sim u (left_for vs c o) (left_for vs (framed gs c) r)
  left_for_sim vs c gs None r h g = tt
  left_for_sim vs c gs (Some f) r h g = subst (λ (x : Option Left). Sim u (left_for vs c (Some f)) (left_for vs (framed gs c) x)) (sym h.is) (goes u f.work h.other vs _ _ h.works (ends u f.objects c gs g))

  begins_at : (objects : List ℕ) (d e : Scene) → Now u d e → Now u (begin_objects u objects d) (begin_objects (folded_unit u) objects e)
  begins_at objects d e n = subst (λ (x : Scene). Now u (begin_objects u objects d) (begin_objects (folded_unit u) objects x)) (sym n.is) (begins u objects d n.frames n.cheaper)

  landed_sim : (n : ℕ) (vs : List Value) (c : Scene) (gs : List Frame) (objects : List ℕ) (k l : List Item) (o r : Option Landing) → LandIf u o r → Cheaper c.frames gs → Sim u (landed u n vs c (record { objects = objects; work = k }) o) (landed (folded_unit u) n vs (framed gs c) (record { objects = objects; work = l }) r)
  landed_sim n vs c gs objects k l None r h g = tt
  landed_sim n vs c gs objects k l (Some to) r h g =
      subst (λ (x : Option Landing). Sim u (landed u n vs c (record { objects = objects; work = k }) (Some to)) (landed (folded_unit u) n vs (framed gs c) (record { objects = objects; work = l }) x)) (sym h.is)
      (goes u to.work h.other vs _ _ h.works (turns u (nat_le to.at n) _ _ (begins_at (without to.objects objects) _ _ (ends u (without objects to.objects) c gs g))))

  label_land : (m : ℕ) (k l : List Item) (o : Option Stmt) → TypedBody u o → Works u k l → LandIf u (label_in u m k o) (label_in (folded_unit u) m l (folded_body o))
  label_land m k l None h w = refl
  label_land m k l (Some body) h w = after_land u (ToLabel m) 0 body h.0 h.1 k l w

  bodies_same : (i j : ℕ) → j ≡ i → body_of (slice_get (folded_unit u).funcs j) ≡ folded_body (body_of (slice_get u.funcs i))
  bodies_same i j e = ap (λ (n : ℕ). body_of (slice_get (folded_unit u).funcs n)) e ∙ ap body_of (func_same u.funcs i) ∙ body_kept (slice_get u.funcs i)

  pub jumped_sim : TypedFuncs u → (m n : ℕ) (vs : List Value) (c : Scene) (gs : List Frame) (o r : Option Left) → CallIf u o r → Cheaper c.frames gs → Sim u (jumped u m n vs c o) (jumped (folded_unit u) m n vs (framed gs c) r)
  jumped_sim typed m n vs c gs None r h g = tt
  jumped_sim typed m n vs c gs (Some f) r h g =
      let body = body_of (slice_get u.funcs (func_in c.frames)) in
      subst (λ (x : Option Left). Sim u (jumped u m n vs c (Some f)) (jumped (folded_unit u) m n vs (framed gs c) x)) (sym h.is)
      (subst (λ (k : List Item). Sim u (landed u n vs c (record { objects = f.objects; work = k }) (label_in u m k body)) (jumped (folded_unit u) m n vs (framed gs c) (Some (record { objects = f.objects; work = Leave ∷ h.other })))) (sym h.work_is)
      (subst (λ (b : Option Stmt). Sim u (landed u n vs c (record { objects = f.objects; work = Leave ∷ h.behind }) (label_in u m (Leave ∷ h.behind) body)) (landed (folded_unit u) n vs (framed gs c) (record { objects = f.objects; work = Leave ∷ h.other }) (label_in (folded_unit u) m (Leave ∷ h.other) b))) (sym (bodies_same (func_in c.frames) (func_in gs) (func_in_same c.frames gs g)))
      (landed_sim n vs c gs f.objects (Leave ∷ h.behind) (Leave ∷ h.other) _ _ (label_land m _ _ body (body_typed u (slice_get u.funcs (func_in c.frames)) (typed (func_in c.frames))) (item u Leave h.behind h.other tt h.works)) g)))

  pub switched_sim : (k l : List Item) (vs : List Value) (c : Scene) (gs : List Frame) (o r : Option Landing) → LandIf u o r → Works u k l → Cheaper c.frames gs → Sim u (switched u k vs c o) (switched (folded_unit u) l vs (framed gs c) r)
  switched_sim k l vs c gs None r h w g = subst (λ (x : Option Landing). Sim u (Running k vs c) (switched (folded_unit u) l vs (framed gs c) x)) (sym h) (runs u k l vs c gs w g)
  switched_sim k l vs c gs (Some to) r h w g = subst (λ (x : Option Landing). Sim u (switched u k vs c (Some to)) (switched (folded_unit u) l vs (framed gs c) x)) (sym h.is) (goes u to.work h.other vs _ _ h.works (begins u to.objects c gs g))

  -- ---- the library

  effect_same : (c : Scene) (gs : List Frame) (f : Library) (args : List Value) (rest : List Cell) → effect_of (framed gs c) f args rest ≡ effect_of c f args rest
  effect_same c gs Putchar args rest = refl
  effect_same c gs Getchar args rest = refl
  effect_same c gs Puts args rest = refl
  effect_same c gs Exit args rest = refl
  effect_same c gs Memcpy args rest = refl
  effect_same c gs Memset args rest = refl
  effect_same c gs Strcmp args rest = refl
  effect_same c gs Strcpy args rest = refl
  effect_same c gs Strlen args rest = refl
  effect_same c gs Printf args rest = refl

  ended_or_sim : (k l : List Item) (vs : List Value) (c : Scene) (gs : List Frame) (e : Effect) (o : Option ℕ) → Works u k l → Cheaper c.frames gs → Sim u (ended_or k vs c e o) (ended_or l vs (framed gs c) e o)
  ended_or_sim k l vs c gs e None w h = runs u k l (e.result ∷ vs) (record c { store = e.store; input = e.input; out = e.out }) gs w h
  ended_or_sim k l vs c gs e (Some status) w h = refl

  finished_sim : (k l : List Item) (vs : List Value) (c : Scene) (gs : List Frame) (o : Result Effect Why) → Works u k l → Cheaper c.frames gs → Sim u (finished k vs c o) (finished l vs (framed gs c) o)
  finished_sim k l vs c gs (Err why) w h = tt
  finished_sim k l vs c gs (Ok e) w h = ended_or_sim k l vs c gs e e.status w h

  pub library_sim : (n : ℕ) (f : Library) (args : List Value) (rest : List Cell) (k l : List Item) (vs : List Value) (c : Scene) (gs : List Frame) → Works u k l → Cheaper c.frames gs → Sim u (library_call n f args rest k vs c) (library_call n f args rest l vs (framed gs c))
  library_sim zero f args rest k l vs c gs w h = subst (λ (o : Result Effect Why). Sim u (finished k vs c (effect_of c f args rest)) (finished l vs (framed gs c) o)) (sym (effect_same c gs f args rest)) (finished_sim k l vs c gs (effect_of c f args rest) w h)
  library_sim (suc n) f args rest k l vs c gs w h = runs u (Busy n f args rest ∷ k) (Busy n f args rest ∷ l) vs c gs (item u (Busy n f args rest) k l tt w) h

  served_at : (f : Library) (args : List Value) (rest : List Cell) (k l : List Item) (vs : List Value) (c : Scene) (gs : List Frame) (o : Result Effect Why) → Works u k l → Cheaper c.frames gs → Sim u (served f args rest k vs c o) (served f args rest l vs (framed gs c) o)
  served_at f args rest k l vs c gs (Err why) w h = tt
  served_at f args rest k l vs c gs (Ok e) w h = library_sim e.bytes f args rest k l vs c gs w h

  provided_sim : (f : Library) (args : List Value) (rest : List Cell) (k l : List Item) (vs : List Value) (c : Scene) (gs : List Frame) → Works u k l → Cheaper c.frames gs → Sim u (provided f args rest k vs c) (provided f args rest l vs (framed gs c))
  provided_sim f args rest k l vs c gs w h = subst (λ (o : Result Effect Why). Sim u (provided f args rest k vs c) (served f args rest l vs (framed gs c) o)) (sym (effect_same c gs f args rest)) (served_at f args rest k l vs c gs (effect_of c f args rest) w h)

  -- ---- calls

  params_scene : (objects : List ℕ) (args : List Value) (c : Scene) (gs : List Frame) → Cheaper c.frames gs → SceneIf u (with_params u objects args c) (with_params (folded_unit u) objects args (framed gs c))
  params_scene [] args c gs h = record { frames = gs; cheaper = h; is = refl }
  params_scene (i ∷ objects) [] c gs h = tt
  params_scene (i ∷ objects) (v ∷ args) c gs h =
      bound_scene u _ _ (with_params u objects args) (with_params (folded_unit u) objects args) (put_scene u true (object_shape u.types (object_in u i)) (begin_object u i c) (name_object gs i c.next) (Place c.next 0) v (name_cheaper c.frames gs i c.next h)) (λ d hs g. params_scene objects args d hs g)

  rest_scene : (variadic : Bool) (xs : List Cell) (c : Scene) (gs : List Frame) → Cheaper c.frames gs → SceneIf u (Ok (with_rest variadic xs c)) (Ok (with_rest variadic xs (framed gs c)))
  rest_scene true xs c gs h = record { frames = name_rest gs c.next; cheaper = rest_cheaper c.frames gs c.next h; is = refl }
  rest_scene false xs c gs h = record { frames = gs; cheaper = h; is = refl }

  passed_scene : (g : FuncTy) (types : List Ty) (args : List Value) (c : Scene) (gs : List Frame) → Cheaper c.frames gs → SceneIf u (with_passed u g types args c) (with_passed (folded_unit u) (folded_func g) types args (framed gs c))
  passed_scene g types args c gs h = bound_scene u _ _ (λ d. Ok (with_rest (is_variadic g.ty) (further u g types args) d)) (λ d. Ok (with_rest (is_variadic g.ty) (further u g types args) d)) (params_scene g.params args c gs h) (λ d hs i. rest_scene (is_variadic g.ty) (further u g types args) d hs i)

  pub entered_sim : (f : ℕ) (g : FuncTy) (body : Stmt) → TypedStmt u body → (cost less : ℕ) → less ≤ cost → (types : List Ty) (args : List Value) (k l : List Item) (vs : List Value) (c : Scene) (gs : List Frame) → Works u k l → Cheaper c.frames gs → Sim u (entered u f g body cost types args k vs c) (entered (folded_unit u) f (folded_func g) (folded_stmt body) less types args l vs (framed gs c))
  entered_sim f g body typed cost less cheaper types args k l vs c gs w h =
      unless_deep_sim u _ _ vs _ _ (passed_scene g types args (new_frame u f cost c) (record { func = f; object = λ i. None; cost = less; rest = None } ∷ gs) (record { func = refl; object = refl; cost = cheaper; rest = refl }, h)) (stmt_works u 0 body typed.0 typed.1 _ _ (item u Leave k l tt w))

  -- the same calls are active
  active_same : (f : ℕ) (fs gs : List Frame) → Cheaper fs gs → is_active f gs ≡ is_active f fs
  active_same f [] [] h = refl
  active_same f [] (b ∷ gs) h = absurd h
  active_same f (a ∷ fs) [] h = absurd h
  active_same f (a ∷ fs) (b ∷ gs) h = ap (λ (n : ℕ). (n == f) || is_active f gs) h.0.func ∙ ap (λ (x : Bool). (a.func == f) || x) (active_same f fs gs h.1)

  once_sim : (f : ℕ) (g : FuncTy) (body : Stmt) → TypedStmt u body → (cost less : ℕ) → less ≤ cost → (types : List Ty) (args : List Value) (k l : List Item) (vs : List Value) (c : Scene) (gs : List Frame) → Works u k l → Cheaper c.frames gs → Sim u (entered_once u f g body cost types args k vs c) (entered_once (folded_unit u) f (folded_func g) (folded_stmt body) less types args l vs (framed gs c))
  once_sim f g body typed cost less cheaper types args k l vs c gs w h =
      subst (λ (b : Bool). Sim u (entered_once u f g body cost types args k vs c) (if b then Undefined (By FixedAgain) else folded)) (sym same) (go (has_fixed u body && is_active f c.frames))
    where
      folded : State
      folded = entered (folded_unit u) f (folded_func g) (folded_stmt body) less types args l vs (framed gs c)

      same : (has_fixed (folded_unit u) (folded_stmt body) && is_active f gs) ≡ (has_fixed u body && is_active f c.frames)
      same = ap (λ (b : Bool). b && is_active f gs) (fixed_same u body) ∙ ap (λ (b : Bool). has_fixed u body && b) (active_same f c.frames gs h)

      go : (b : Bool) → Sim u (if b then Undefined (By FixedAgain) else entered u f g body cost types args k vs c) (if b then Undefined (By FixedAgain) else folded)
      go true = tt
      go false = entered_sim f g body typed cost less cheaper types args k l vs c gs w h

  called_sim : (f : ℕ) (types : List Ty) (args : List Value) (g : FuncTy) (body : Option Stmt) (lib : Option Library) → TypedBody u body → (k l : List Item) (vs : List Value) (c : Scene) (gs : List Frame) → Works u k l → Cheaper c.frames gs → Sim u (called u f types args g body lib k vs c) (called (folded_unit u) f types args (folded_func g) (folded_body body) lib l vs (framed gs c))
  called_sim f types args g (Some body) lib typed k l vs c gs w h = once_sim f g body typed (soft_cost u (argument_bytes u types) body) (soft_cost (folded_unit u) (argument_bytes (folded_unit u) types) (folded_stmt body)) (cost_less u (argument_bytes u types) body) types args k l vs (turned c) gs w h
  called_sim f types args g None (Some lib) typed k l vs c gs w h = provided_sim lib (take (named_count g.ty) args) (cells_behind u (named_count g.ty) types args) k l vs c gs w h
  called_sim f types args g None None typed k l vs c gs w h = tt

  refused_sim : (o : Option Why) (s t : State) → Sim u s t → Sim u (unless_refused u o s) (unless_refused (folded_unit u) o t)
  refused_sim None s t h = h
  refused_sim (Some why) s t h = tt

  allowed_same : (callee : Ty) (types : List Ty) (args : List Value) (g : FuncTy) → allowed (folded_unit u) callee types args (folded_func g) ≡ allowed u callee types args g
  allowed_same callee types args g = refl

  accepted_by : (callee : Ty) (f : ℕ) (types : List Ty) (args : List Value) (o : Option FuncTy) → TypedFunc u o → (k l : List Item) (vs : List Value) (c : Scene) (gs : List Frame) → Works u k l → Cheaper c.frames gs → Sim u (accepted u callee f types args o k vs c) (accepted (folded_unit u) callee f types args (option_map folded_func o) l vs (framed gs c))
  accepted_by callee f types args None typed k l vs c gs w h = tt
  accepted_by callee f types args (Some g) typed k l vs c gs w h =
      subst (λ (o : Option Why). Sim u (accepted u callee f types args (Some g) k vs c) (unless_refused (folded_unit u) o (called (folded_unit u) f types args (folded_func g) (folded_body g.body) g.library l vs (framed gs c)))) (sym (allowed_same callee types args g))
      (refused_sim (allowed u callee types args g) _ _ (called_sim f types args g g.body g.library typed k l vs c gs w h))

  call_sim : TypedFuncs u → (callee : Ty) (types : List Ty) (args : List Value) (f : Value) (k l : List Item) (vs : List Value) (c : Scene) (gs : List Frame) → Works u k l → Cheaper c.frames gs → Sim u (call_of u callee types args f k vs c) (call_of (folded_unit u) callee types args f l vs (framed gs c))
  call_sim typed callee types args (Place f zero) k l vs c gs w h = subst (λ (o : Option FuncTy). Sim u (accepted u callee f types args (slice_get u.funcs f) k vs c) (accepted (folded_unit u) callee f types args o l vs (framed gs c))) (sym (func_same u.funcs f)) (accepted_by callee f types args (slice_get u.funcs f) (typed f) k l vs c gs w h)
  call_sim typed callee types args (Place f (suc o)) k l vs c gs w h = tt
  call_sim typed callee types args (Whole z) k l vs c gs w h = tt
  call_sim typed callee types args Null k l vs c gs w h = tt
  call_sim typed callee types args Opaque k l vs c gs w h = tt
  call_sim typed callee types args (Cells xs) k l vs c gs w h = tt
  call_sim typed callee types args NoValue k l vs c gs w h = tt

  pub invoked_sim : TypedFuncs u → (callee : Ty) (types : List Ty) (k l : List Item) (o : Option (List Value × List Value)) (c : Scene) (gs : List Frame) → Works u k l → Cheaper c.frames gs → Sim u (invoked u callee types k o c) (invoked (folded_unit u) callee types l o (framed gs c))
  invoked_sim typed callee types k l None c gs w h = tt
  invoked_sim typed callee types k l (Some r) c gs w h = one_sim u r.1 _ _ (λ f vs. call_sim typed callee types r.0 f k l vs c gs w h)
