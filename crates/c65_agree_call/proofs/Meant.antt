-- The step of a call.
use Rattle.std.proofs.Common.{◌≡◌, ℕ, zero, suc, ◌+◌, List, [], ◌∷◌, Some, None, Bool, true, false, refl, sym, ap, ◌∙◌, subst}
use Rattle.std.specs.Prelude.{◌&&◌, not, if◌then◌else◌, Result, Ok, Err, slice_get}
use Rattle.c65_ctype.specs.Trees.{Ty}
use Rattle.c65_csem.specs.Trees.{Stmt, FuncTy, UnitTy}
use Rattle.c65_meaning.specs.declared.action.Action.TheVariants.{CalleeType, NoResult, FixedAgain}
use Rattle.c65_meaning.specs.Why.{Why, By, ◌>>=◌}
use Rattle.c65_meaning.specs.Store.{Cell, Store, Value, Whole, Null, Place, Opaque, Cells, NoValue, Shape, write}
use Rattle.c65_meaning.specs.Shapes.{object_in, object_shape}
use Rattle.c65_meaning.specs.Items.{Item, Invoke, Leave, plan_stmt}
use Rattle.c65_meaning.specs.Calls.{is_variadic, accepts}
use Rattle.c65_meaning.specs.Costs.{has_fixed}
use Rattle.c65_meaning.specs.Sem.{IsDefined, outcome_of}
use Rattle.c65_meaning.specs.State as meaning
use Rattle.c65_meaning.specs.State.{Scene, Undefined, Deep, Running, Frame as Call, turned, soft_sum, hard_sum, name_object, name_rest}
use Rattle.c65_meaning.specs.Step.{stored, put, begin_object, are_values, is_active, is_deep, new_frame, with_params, with_rest, further, with_passed, unless_deep, called, accepted, unless_refused, invoked, steps}
use Rattle.c65_code.specs.LineState.{Place as Spot, State}
use Rattle.c65_code.specs.Comes.{Seen}
use Rattle.c65_agree_state.specs.World.{World, program_in, unit_in}
use Rattle.c65_agree_state.specs.Follows.{Follows}
use Rattle.c65_agree_state.proofs.Followed.{steps_earn}
use Rattle.c65_agree_rows.proofs.Quiet.{nothing_follows}
use Rattle.c65_agree_call.specs.Calls.{cost_of, IsMeant}
use Rattle.c65_agree_call.specs.Laws.{CallsAreMeant}

-- ---- parameters that begin

-- turns, what the calls cost, and whether a run is free are as before
pub record SameSums (c d : Scene) : Type 0 where
  pub turns : d.turns ≡ c.turns
  pub free : d.free ≡ c.free
  pub soft : soft_sum d.frames ≡ soft_sum c.frames
  pub hard : hard_sum d.frames ≡ hard_sum c.frames

stored_sums : (c d : Scene) (s : Result Store Why) → stored c s ≡ Ok d → SameSums c d
stored_sums c d (Err why) e = cc
stored_sums c d (Ok t) e =
    let same : record c { store = t } ≡ d = cc in
    record { turns = sym (ap (λ (x : Scene). x.turns) same); free = sym (ap (λ (x : Scene). x.free) same); soft = sym (ap (λ (x : Scene). soft_sum x.frames) same); hard = sym (ap (λ (x : Scene). hard_sum x.frames) same) }

put_sums : (first : Bool) (shape : Shape) (c d : Scene) (b o : ℕ) (v : Value) → put first shape c (Place b o) v ≡ Ok d → SameSums c d
put_sums first shape c d b o NoValue e = cc
put_sums first shape c d b o (Whole z) e = stored_sums c d (write first shape c.store b o (Whole z)) e
put_sums first shape c d b o Null e = stored_sums c d (write first shape c.store b o Null) e
put_sums first shape c d b o (Place x y) e = stored_sums c d (write first shape c.store b o (Place x y)) e
put_sums first shape c d b o Opaque e = stored_sums c d (write first shape c.store b o Opaque) e
put_sums first shape c d b o (Cells xs) e = stored_sums c d (write first shape c.store b o (Cells xs)) e

named_soft : (fs : List Call) (i b : ℕ) → soft_sum (name_object fs i b) ≡ soft_sum fs
named_soft [] i b = refl
named_soft (f ∷ fs) i b = refl

named_hard : (fs : List Call) (i b : ℕ) → hard_sum (name_object fs i b) ≡ hard_sum fs
named_hard [] i b = refl
named_hard (f ∷ fs) i b = refl

pub params_sums : (u : UnitTy) (is : List ℕ) (args : List Value) (c d : Scene) → with_params u is args c ≡ Ok d → SameSums c d
params_sums u [] args c d e =
    let same : c ≡ d = cc in
    subst (SameSums c) same (record { turns = refl; free = refl; soft = refl; hard = refl })
params_sums u (i ∷ is) [] c d e = cc
params_sums u (i ∷ is) (v ∷ args) c d e = go (λ c1 f. params_sums u is args c1 d f) (put true (object_shape u.types (object_in u i)) (begin_object u i c) (Place c.next 0) v) refl e
  where
    go : ((c1 : Scene) → with_params u is args c1 ≡ Ok d → SameSums c1 d)
        → (r : Result Scene Why) → put true (object_shape u.types (object_in u i)) (begin_object u i c) (Place c.next 0) v ≡ r → (r >>= with_params u is args) ≡ Ok d → SameSums c d
    go deep (Err why) f h = cc
    go deep (Ok c1) f h =
        let later = deep c1 h in
        let one = put_sums true (object_shape u.types (object_in u i)) (begin_object u i c) c1 c.next 0 v f in
        record { turns = later.turns ∙ one.turns; free = later.free ∙ one.free; soft = later.soft ∙ (one.soft ∙ named_soft c.frames i c.next); hard = later.hard ∙ (one.hard ∙ named_hard c.frames i c.next) }

abbrev rest_begun : UnitTy → FuncTy → List Ty → List Value → Bool → Scene → Result Scene Why
rest_begun u func types args more x = Ok (with_rest more (further u func types args) x)

rest_soft : (fs : List Call) (b : ℕ) → soft_sum (name_rest fs b) ≡ soft_sum fs
rest_soft [] b = refl
rest_soft (f ∷ fs) b = refl

rest_hard : (fs : List Call) (b : ℕ) → hard_sum (name_rest fs b) ≡ hard_sum fs
rest_hard [] b = refl
rest_hard (f ∷ fs) b = refl

-- nor does the block of further arguments cost anything
rest_sums : (more : Bool) (xs : List Cell) (c : Scene) → SameSums c (with_rest more xs c)
rest_sums true xs c = record { turns = refl; free = refl; soft = rest_soft c.frames c.next; hard = rest_hard c.frames c.next }
rest_sums false xs c = record { turns = refl; free = refl; soft = refl; hard = refl }

pub passed_sums : (u : UnitTy) (func : FuncTy) (types : List Ty) (args : List Value) (c d : Scene) → with_passed u func types args c ≡ Ok d → SameSums c d
passed_sums u func types args c d e = go (with_params u func.params args c) refl e
  where
    go : (r : Result Scene Why) → with_params u func.params args c ≡ r → (r >>= rest_begun u func types args (is_variadic func.ty)) ≡ Ok d → SameSums c d
    go (Err why) f h = cc
    go (Ok x) f h =
        let same : with_rest (is_variadic func.ty) (further u func types args) x ≡ d = cc in
        let one = params_sums u func.params args c x f in
        let later = rest_sums (is_variadic func.ty) (further u func types args) x in
        subst (SameSums c) same (record { turns = later.turns ∙ one.turns; free = later.free ∙ one.free; soft = later.soft ∙ one.soft; hard = later.hard ∙ one.hard })

-- a function that takes no further arguments has but its parameters
pub plain_begun : (u : UnitTy) (func : FuncTy) (types : List Ty) (args : List Value) (c d : Scene) → is_variadic func.ty ≡ false → with_passed u func types args c ≡ Ok d → with_params u func.params args c ≡ Ok d
plain_begun u func types args c d plain e = go (with_params u func.params args c) e
  where
    go : (r : Result Scene Why) → (r >>= rest_begun u func types args (is_variadic func.ty)) ≡ Ok d → r ≡ Ok d
    go (Err why) h = cc
    go (Ok x) h =
        let same : rest_begun u func types args false x ≡ Ok d = subst (λ (b : Bool). rest_begun u func types args b x ≡ Ok d) plain h in
        same

-- ---- what is not defined

deep_stays : (g : World) (n : ℕ) → steps (program_in g) n Deep ≡ Deep
deep_stays g zero = refl
deep_stays g (suc n) = deep_stays g n

deep_follows : (g : World) (n v : ℕ) (q : Spot) (t : State) (seen : Seen) → Follows g n v Deep q t seen
deep_follows g n v q t seen d = absurd (subst (λ m. IsDefined (outcome_of m)) (deep_stays g n) d.1)

-- ---- the step

module _ (g : World) (callee : Ty) (types : List Ty) (args vs : List Value) (f : ℕ) (func : FuncTy) (body : Stmt) (n w : ℕ) (k : List Item) (c : Scene) (p : Spot) (t : State) (seen : Seen)
    (goes : (c1 : Scene) → IsMeant (unit_in g) callee types args f func body c c1 → Follows g n w (Running (plan_stmt (unit_in g) 0 body (Leave ∷ k)) vs c1) p t seen) where
  abbrev u : UnitTy
  u = unit_in g

  abbrev framed : Scene
  framed = new_frame u f (cost_of u types body) (turned c)

  abbrev Is : meaning.State → Type 0
  Is s = Follows g n w s p t seen

  module _ (values : are_values args ≡ true) (fits : accepts u callee types func ≡ true) where
    shallow_by : (once : has_fixed u body ≡ true → is_active f c.frames ≡ false) (c1 : Scene) → with_passed u func types args framed ≡ Ok c1 → (free deep : Bool) → c1.free ≡ free → is_deep c1.frames ≡ deep
        → Is (if not free && deep then Deep else Running (plan_stmt u 0 body (Leave ∷ k)) vs c1)
    shallow_by once c1 begun true deep e h = goes c1 (record { values = values; accepted = fits; once = once; begun = begun; shallow = λ x. absurd (let clash : true ≡ false = sym e ∙ x in cc) })
    shallow_by once c1 begun false false e h = goes c1 (record { values = values; accepted = fits; once = once; begun = begun; shallow = λ x. h })
    shallow_by once c1 begun false true e h = deep_follows g n w p t seen

    passed_by : (once : has_fixed u body ≡ true → is_active f c.frames ≡ false) (r : Result Scene Why) → with_passed u func types args framed ≡ r → Is (unless_deep (plan_stmt u 0 body (Leave ∷ k)) vs r)
    passed_by once (Err why) e = nothing_follows g why n w p t seen
    passed_by once (Ok c1) e = shallow_by once c1 e c1.free (is_deep c1.frames) refl refl

    once_by : (fixed active : Bool) → has_fixed u body ≡ fixed → is_active f c.frames ≡ active
        → Is (if fixed && active then Undefined (By FixedAgain) else unless_deep (plan_stmt u 0 body (Leave ∷ k)) vs (with_passed u func types args framed))
    once_by true true e h = nothing_follows g (By FixedAgain) n w p t seen
    once_by true false e h = passed_by (λ x. h) (with_passed u func types args framed) refl
    once_by false active e h = passed_by (λ x. absurd (let clash : false ≡ true = sym e ∙ x in cc)) (with_passed u func types args framed) refl

    called_by : func.body ≡ Some body → Is (called u f types args func func.body func.library k vs c)
    called_by has = subst (λ o. Is (called u f types args func o func.library k vs c)) (sym has) (once_by (has_fixed u body) (is_active f c.frames) refl refl)

  allowed_by : (values fits : Bool) → are_values args ≡ values → accepts u callee types func ≡ fits → func.body ≡ Some body
      → Is (unless_refused u (if values then (if fits then None else Some (By CalleeType)) else Some (By NoResult)) (called u f types args func func.body func.library k vs c))
  allowed_by true true v a has = called_by v a has
  allowed_by true false v a has = nothing_follows g (By CalleeType) n w p t seen
  allowed_by false fits v a has = nothing_follows g (By NoResult) n w p t seen

  invoked_by : (values : List Value) → slice_get u.funcs f ≡ Some func → func.body ≡ Some body → Is (invoked u callee types k (Some (args, Place f 0 ∷ vs)) c)
  invoked_by values is has = subst (λ o. Is (accepted u callee f types args o k vs c)) (sym is) (allowed_by (are_values args) (accepts u callee types func) refl refl has)

pub calls_are_meant : CallsAreMeant
calls_are_meant g callee types args vs values f func body n w k c p t seen is has waits calm out running turns goes =
    steps_earn g n w (Invoke callee types) k values c p t seen calm out running turns (λ j lt.
    subst (λ r. Follows g j (w + 4000) (invoked (unit_in g) callee types k r c) p t seen) (sym waits)
    (invoked_by g callee types args vs f func body j (w + 4000) k c p t seen (λ c1 h. goes j c1 lt h) values is has))
