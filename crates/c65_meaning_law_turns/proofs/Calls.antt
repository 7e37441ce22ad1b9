-- A call of a function that has a body is a turn, and one of the library ends.
use Rattle.std.proofs.Common.{◌≡◌, ℕ, zero, suc, ◌≤◌, Bool, true, false, List, [], ◌∷◌, Option, Some, None, Result, Ok, Err, arith}
use Rattle.std.specs.Prelude.{⊤, take, slice_get, not, ◌&&◌, if◌then◌else◌}
use Rattle.c65_base.specs.declared.library.Library.{Library}
use Rattle.c65_ctype.specs.Trees.{Ty}
use Rattle.c65_csem.specs.Trees.{Stmt, FuncTy}
use Rattle.c65_meaning.specs.Program.{ProgramTy}
use Rattle.c65_meaning.specs.declared.action.Action.TheVariants.{FixedAgain}
use Rattle.c65_meaning.specs.Why.{Why, By, ◌>>=◌}
use Rattle.c65_meaning.specs.Store.{Cell, Value, Null, Place}
use Rattle.c65_meaning.specs.Items.{Item, Leave, plan_stmt}
use Rattle.c65_meaning.specs.Shapes.{object_in, object_shape}
use Rattle.c65_meaning.specs.Costs.{has_fixed, argument_bytes, soft_cost}
use Rattle.c65_meaning.specs.State.{Scene, State, Undefined, Deep, Running, turned}
use Rattle.c65_meaning.specs.Calls.{is_variadic, named_count}
use Rattle.c65_meaning.specs.Step.{put, begin_object, is_deep, is_active, unless_deep, with_params, with_rest, cells_behind, further, with_passed, new_frame, entered, entered_once, called, allowed, unless_refused, accepted, call_of, invoked}
use Rattle.c65_meaning_law_turns.proofs.Scenes.{IsSame, Keeps, put_same}
use Rattle.c65_meaning_law_turns.proofs.Settling.{IsOn, Settles, now, one_settles, provided_settles}

module _ (p : ProgramTy) (before : ℕ) where
  -- the turn is behind
  abbrev IsTurned : Result Scene Why → Type 0
  IsTurned (Err why) = ⊤
  IsTurned (Ok c) = suc before ≤ c.turns

  params_turned : (objects : List ℕ) (args : List Value) (c : Scene) → suc before ≤ c.turns → IsTurned (with_params p.unit objects args c)
  params_turned [] args c h = h
  params_turned (i ∷ objects) (v ∷ args) c h =
      more (put true (object_shape p.unit.types (object_in p.unit i)) (begin_object p.unit i c) (Place c.next 0) v)
      (put_same true (object_shape p.unit.types (object_in p.unit i)) (begin_object p.unit i c) (Place c.next 0) v)
      (λ x s. params_turned objects args x (let t : x.turns ≡ c.turns = s.turns in omega arith))
    where
      more : (r : Result Scene Why) → Keeps (begin_object p.unit i c) r → ((x : Scene) → IsSame (begin_object p.unit i c) x → IsTurned (with_params p.unit objects args x)) → IsTurned (r >>= with_params p.unit objects args)
      more (Err why) s f = tt
      more (Ok x) s f = f x s
  params_turned (i ∷ objects) [] c h = tt

  rest_turned : (b : Bool) (xs : List Cell) (c : Scene) → suc before ≤ c.turns → IsTurned (Ok (with_rest b xs c))
  rest_turned true xs c h = h
  rest_turned false xs c h = h

  passed_turned : (g : FuncTy) (types : List Ty) (args : List Value) (c : Scene) → suc before ≤ c.turns → IsTurned (with_passed p.unit g types args c)
  passed_turned g types args c h = more (with_params p.unit g.params args c) (params_turned g.params args c h)
    where
      more : (r : Result Scene Why) → IsTurned r → IsTurned (r >>= λ d. Ok (with_rest (is_variadic g.ty) (further p.unit g types args) d))
      more (Err why) t = tt
      more (Ok d) t = rest_turned (is_variadic g.ty) (further p.unit g types args) d t

  entered_on : (f : ℕ) (body : Stmt) (k : List Item) (vs : List Value) (r : Result Scene Why) → IsTurned r → IsOn p before (unless_deep (plan_stmt p.unit 0 body (Leave ∷ k)) vs r)
  entered_on f body k vs (Err why) h = tt
  entered_on f body k vs (Ok c) h = at (not c.free && is_deep c.frames)
    where
      at : (b : Bool) → IsOn p before (if b then Deep else Running (plan_stmt p.unit 0 body (Leave ∷ k)) vs c)
      at true = tt
      at false = h

  once_on : (f : ℕ) (g : FuncTy) (body : Stmt) (cost : ℕ) (types : List Ty) (args : List Value) (k : List Item) (vs : List Value) (c : Scene) → suc before ≤ c.turns → IsOn p before (entered_once p.unit f g body cost types args k vs c)
  once_on f g body cost types args k vs c h = at (has_fixed p.unit body && is_active f c.frames)
    where
      at : (b : Bool) → IsOn p before (if b then Undefined (By FixedAgain) else entered p.unit f g body cost types args k vs c)
      at true = tt
      at false = entered_on f body k vs (with_passed p.unit g types args (new_frame p.unit f cost c)) (passed_turned g types args (new_frame p.unit f cost c) h)

  module _ (k : List Item) (c : Scene) (le : before ≤ c.turns) (h : (vs : List Value) (d : Scene) → IsSame c d → Settles p before (Running k vs d)) where
    called_settles : (f : ℕ) (types : List Ty) (args : List Value) (g : FuncTy) (body : Option Stmt) (library : Option Library) (vs : List Value) → Settles p before (called p.unit f types args g body library k vs c)
    called_settles f types args g (Some body) library vs = now p before _ (once_on f g body (soft_cost p.unit (argument_bytes p.unit types) body) types args k vs (turned c) (let x : suc before ≤ suc c.turns = omega arith in x))
    called_settles f types args g None (Some l) vs = provided_settles p before k vs c (λ v d s. h (v ∷ vs) d s) l (take (named_count g.ty) args) (cells_behind p.unit (named_count g.ty) types args)
    called_settles f types args g None None vs = now p before _ tt

    refused_settles : (o : Option Why) (s : State) → Settles p before s → Settles p before (unless_refused p.unit o s)
    refused_settles (Some why) s g = now p before _ tt
    refused_settles None s g = g

    accepted_settles : (callee : Ty) (f : ℕ) (types : List Ty) (args : List Value) (o : Option FuncTy) (vs : List Value) → Settles p before (accepted p.unit callee f types args o k vs c)
    accepted_settles callee f types args None vs = now p before _ tt
    accepted_settles callee f types args (Some g) vs = refused_settles (allowed p.unit callee types args g) _ (called_settles f types args g g.body g.library vs)

    call_settles : (callee : Ty) (types : List Ty) (args : List Value) (v : Value) (vs : List Value) → Settles p before (call_of p.unit callee types args v k vs c)
    call_settles callee types args (Place f zero) vs = accepted_settles callee f types args (slice_get p.unit.funcs f) vs
    call_settles callee types args (Place f (suc o)) vs = now p before _ tt
    call_settles callee types args Null vs = now p before _ tt
    call_settles callee types args _ vs = now p before _ tt

    pub invoked_settles : (callee : Ty) (types : List Ty) (o : Option (List Value × List Value)) → Settles p before (invoked p.unit callee types k o c)
    invoked_settles callee types None = now p before _ tt
    invoked_settles callee types (Some r) = one_settles p before r.1 (λ f vs. call_of p.unit callee types r.0 f k vs c) (λ f vs. call_settles callee types r.0 f vs)
