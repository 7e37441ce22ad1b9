-- Calls, and jumps and returns in them.
use Rattle.std.proofs.Common.{◌≡◌, ℕ, zero, suc, ◌+◌, ◌*◌, ◌≤◌, List, [], ◌∷◌, Option, Some, None, slice_get, refl, sym, ap, ◌∙◌, subst, arith}
use Rattle.std.specs.Prelude.{Contains, take, Result, Ok, Err, min, nat_le, ◌&&◌}
use Rattle.std.specs.List.{AllByRecursion}
use Rattle.c65_ctype.specs.Trees.{Ty}
use Rattle.c65_base.specs.declared.library.Library.{Library}
use Rattle.c65_csem.specs.Trees.{Stmt, FuncTy}
use Rattle.c65_csem_need.specs.Needs.{greatest_need}
use Rattle.c65_meaning.specs.Program.{ProgramTy}
use Rattle.c65_meaning.specs.declared.action.Action.TheVariants.{FixedAgain}
use Rattle.c65_meaning.specs.Why.{Why, By}
use Rattle.c65_meaning.specs.Store.{Cell, Value, Whole, Null, Place, Opaque, Cells, NoValue}
use Rattle.c65_meaning.specs.Costs.{argument_bytes, soft_cost, has_fixed, local_bytes}
use Rattle.c65_meaning.specs.Items.{Item, Busy, EndSwitch, Leave, plan_stmt}
use Rattle.c65_meaning.specs.After.{ToLabel, ToCase, ToDefault, Landing, Left, after, or_else, without}
use Rattle.c65_meaning.specs.State.{Frame, Scene, State, Undefined, turned}
use Rattle.c65_meaning.specs.Library.{Effect, effect_of}
use Rattle.c65_meaning.specs.Calls.{named_count}
use Rattle.c65_meaning.specs.Step.{one, taken, begin_objects, end_objects, ended_or, finished, library_call, served, is_active, new_frame, cells_behind, with_passed, entered, called, allowed, unless_refused, accepted, call_of, invoked, status_of, back_in, behind, func_in, frames_below, without_frame, has_turn, body_of, left_for, end_arguments, left_call, returned, landed, label_in, jumped, switched, chosen_case}
use Rattle.c65_depth.specs.declared.calls.Call.{Call}
use Rattle.c65_depth.specs.declared.numbers.Numbers.{Numbers}
use Rattle.c65_depth.specs.Calls.{most, calls_of}
use Rattle.c65_depth.specs.Certificates.{HasCall, Names, AreCovered, Covers, CoversCallee, next, by_one, body_at, numbers_by}
use Rattle.c65_depth_law_states.proofs.Marks.{Mark, AreMarked, HoldsStmt, IsInvoked, Takes, Resumes, Active, active, funcs, soft_of, hard_of, pushed, HasRoom, HaveRoom, GoesOn}
use Rattle.c65_depth_law_states.proofs.Plans.{stmt_works}
use Rattle.c65_depth_law_states.proofs.Landings.{Lands, lands, either_lands, Exits, Stays}
use Rattle.c65_depth_law_states.proofs.Scenes.{passed_in, objects_begin, objects_end, turn_in, arguments_end}
use Rattle.c65_depth_law_states.proofs.States.{own_is, Well, covers, covers_own, unless_deep_well, if_well, Works, In, goes}

abbrev rest_of : List Active → List Active
rest_of [] = []
rest_of (x ∷ rest) = rest

abbrev first_func : List Active → ℕ
first_func [] = 0
first_func (x ∷ rest) = x.func

-- ---- arguments

-- arguments of these types, the last one on top
abbrev above : List Ty → List Mark → List Mark
above [] ks = ks
above (t ∷ ts) ks = None ∷ above ts ks

above_one : (ts : List Ty) (ks : List Mark) → above ts (None ∷ ks) ≡ None ∷ above ts ks
above_one [] ks = refl
above_one (t ∷ ts) ks = ap (λ js. None ∷ js) (above_one ts ks)

pushed_above : (ts : List Ty) (ks : List Mark) → pushed ts ks ≡ above ts ks
pushed_above [] ks = refl
pushed_above (t ∷ ts) ks = pushed_above ts (None ∷ ks) ∙ above_one ts ks

record IsTaken (types : List Ty) (args vs : List Value) (below : List Mark) : Type 0 where
  pub rest : List Value × List Value
  pub is : taken types args vs ≡ Some rest
  pub marked : AreMarked below rest.1

takes_arguments : (types : List Ty) (args vs : List Value) (below : List Mark) → AreMarked (above types below) vs → IsTaken types args vs below
takes_arguments [] args vs below a = record { rest = (args, vs); is = refl; marked = a }
takes_arguments (t ∷ ts) args [] below a = absurd a
takes_arguments (t ∷ ts) args (v ∷ vs) below a = let r = takes_arguments ts (v ∷ args) vs below a.1 in record { rest = r.rest; is = r.is; marked = r.marked }

-- ---- the body of a function

all_contained : {A : Type 0} (P : A → Type 0) (xs : List A) → ((x : A) → Contains xs x → P x) → AllByRecursion P xs
all_contained P [] h = tt
all_contained P (x ∷ xs) h = (h x (0, omega arith, refl), all_contained P xs (λ y k. h y (suc k.0, (let few = k.1 in omega (arith, few)), k.2)))

pub holds_body : (p : ProgramTy) (f : ℕ) (body : Stmt) → body_at p f ≡ Some body → HoldsStmt p f body
holds_body p f body is = all_contained (HasCall p f) (calls_of p.unit body) (λ c among. record { body = body; is_body = is; among = among })

-- ---- the room of a call

counted : (a b l w own : ℕ) → b ≡ min a most → b + l + 6 + 8 * w ≤ own → own ≤ 1984 → a ≡ b
counted a b l w own e h few = omega (arith, e, h, few)

callee_soft : (rest cost own besides c callee : ℕ) → cost ≤ c + besides → c + callee ≤ own → rest + own + besides ≤ 1984 → cost + rest + callee + 0 ≤ 1984
callee_soft rest cost own besides c callee h i j = omega (arith, h, i, j)

callee_hard : (rest own callee : ℕ) → 2 + callee ≤ own → rest + own ≤ 224 → 2 + rest + callee ≤ 224
callee_hard rest own callee h i = omega (arith, h, i)

own_bound : (rest own besides : ℕ) → rest + own + besides ≤ 1984 → own ≤ 1984
own_bound rest own besides h = omega (arith, h)

no_more : (a b c : ℕ) → a ≡ b → c ≡ a → c ≤ b + 0
no_more a b c h i = omega (arith, h, i)

module _ (p : ProgramTy) (numbers : ℕ → Option Numbers) (covered : AreCovered p numbers) where
  -- a function that an active call names has room above it
  call_room : (x : Active) (rest : List Active) → HaveRoom p numbers (x ∷ rest) → (c : Call) (h : ℕ) (body : Stmt) (types : List Ty) → HasCall p x.func c → c.callee ≡ Some h → c.bytes ≡ min (argument_bytes p.unit types) most → body_at p h ≡ Some body → HasRoom p numbers (record { func = h; cost = soft_cost p.unit (argument_bytes p.unit types) body }) (x ∷ rest)
  call_room x rest room c h body types has named bytes is_body =
      let r = room.0 in
      let names : Names p x.func h = record { call = c; has = has; named = named } in
      let passed = by_one r.reached has named in
      let callee : CoversCallee p numbers (soft_cost p.unit r.passed r.body) (covers p numbers covered x rest r).own h = (covers p numbers covered x rest r).callees r.passed h r.is_passed names in
      let is_own : numbers h ≡ Some callee.callee = subst (λ (o : Option Stmt). numbers_by p numbers h o ≡ Some callee.callee) is_body callee.is_callee in
      let above_it : Covers p numbers h body = covered h body (next r.reached names) is_body in
      let same : above_it.own ≡ callee.callee = own_is (numbers h) above_it.own callee.callee above_it.is_own is_own in
      let whole : soft_cost p.unit c.bytes body ≤ callee.callee.soft = subst (λ (n : Numbers). soft_cost p.unit c.bytes body ≤ n.soft) same (above_it.soft c.bytes passed) in
      let soft : soft_cost p.unit r.passed r.body + callee.callee.soft ≤ r.own.soft = subst (λ (n : Numbers). soft_cost p.unit r.passed r.body + callee.callee.soft ≤ n.soft) (covers_own p numbers covered x rest r) callee.soft in
      let hard : 2 + callee.callee.hard ≤ r.own.hard = subst (λ (n : Numbers). 2 + callee.callee.hard ≤ n.hard) (covers_own p numbers covered x rest r) callee.hard in
      let fits = callee_soft (soft_of rest) x.cost r.own.soft r.besides (soft_cost p.unit r.passed r.body) callee.callee.soft r.cost soft r.soft in
      let exact : argument_bytes p.unit types ≡ c.bytes = counted (argument_bytes p.unit types) c.bytes (local_bytes p.unit body) (greatest_need body) callee.callee.soft bytes whole (own_bound (soft_of (x ∷ rest)) callee.callee.soft 0 fits) in
      record {
        reached = next r.reached names;
        body = body;
        is_body = is_body;
        passed = c.bytes;
        is_passed = passed;
        own = callee.callee;
        is_own = is_own;
        besides = 0;
        cost = no_more (soft_cost p.unit (argument_bytes p.unit types) body) (soft_cost p.unit c.bytes body) (soft_cost p.unit (argument_bytes p.unit types) body) (ap (λ n. soft_cost p.unit n body) exact) refl;
        soft = fits;
        hard = callee_hard (hard_of rest) r.own.hard callee.callee.hard hard r.hard;
      }

  module _ (x : Active) (xs : List Active) (room : HaveRoom p numbers (x ∷ xs)) (base : List Mark) where
    abbrev Goes : List Item → List Mark → Type 0
    Goes k ks = Works p numbers covered x xs room base k ks

    abbrev Here : Scene → Type 0
    Here c = In p numbers covered x xs room base c

    abbrev Fine : State → Type 0
    Fine s = Well p numbers covered s

    -- ---- a call

    module _ (k : List Item) (vs : List Value) (c : Scene) (ks : List Mark) (here : Here c) (marked : AreMarked ks vs) (goes_on : Goes k (None ∷ ks)) where
      enters : (h : ℕ) (g : FuncTy) (body : Stmt) (types : List Ty) (args : List Value) → body_at p h ≡ Some body → HasRoom p numbers (record { func = h; cost = soft_cost p.unit (argument_bytes p.unit types) body }) (x ∷ xs) → Fine (entered p.unit h g body (soft_cost p.unit (argument_bytes p.unit types) body) types args k vs (turned c))
      enters h g body types args is r =
          let cost = soft_cost p.unit (argument_bytes p.unit types) body in
          let new : Active = record { func = h; cost = cost } in
          let no_pointer = (covers p numbers covered new (x ∷ xs) r).no_pointer in
          unless_deep_well p numbers covered (new ∷ x ∷ xs) (plan_stmt p.unit 0 body (Leave ∷ k)) vs (with_passed p.unit g types args (new_frame p.unit h cost (turned c)))
          (passed_in (new ∷ x ∷ xs) p.unit g types args (new_frame p.unit h cost (turned c)) (ap (λ calls. new ∷ calls) here))
          ((r, room), ks, ks, marked, stmt_works p h no_pointer (funcs (x ∷ xs)) ks 0 body (Leave ∷ k) (holds_body p h body is) (refl, (base, goes_on)))

      finishes : (r : Result Effect Why) → Fine (finished k vs c r)
      finishes (Err why) = tt
      finishes (Ok e) = ends e.status
        where
          ends : (o : Option ℕ) → Fine (ended_or k vs c e o)
          ends None = goes p numbers covered x xs room base k (e.result ∷ vs) (record c { store = e.store; input = e.input; out = e.out }) (None ∷ ks) here (tt, marked) goes_on
          ends (Some status) = tt

      pub library_well : (left : ℕ) (f : Library) (args : List Value) (rest : List Cell) → Fine (library_call left f args rest k vs c)
      library_well zero f args rest = finishes (effect_of c f args rest)
      library_well (suc left) f args rest = goes p numbers covered x xs room base (Busy left f args rest ∷ k) vs c ks here marked goes_on

      serves : (f : Library) (args : List Value) (rest : List Cell) (r : Result Effect Why) → Fine (served f args rest k vs c r)
      serves f args rest (Err why) = tt
      serves f args rest (Ok e) = library_well e.bytes f args rest

      calls : (h : ℕ) (types : List Ty) (args : List Value) (g : FuncTy) (body : Option Stmt) (library : Option Library) → g.body ≡ body → ((b : Stmt) → body ≡ Some b → HasRoom p numbers (record { func = h; cost = soft_cost p.unit (argument_bytes p.unit types) b }) (x ∷ xs)) → body_at p h ≡ body → Fine (called p.unit h types args g body library k vs c)
      calls h types args g (Some b) library is r at = if_well p numbers covered (has_fixed p.unit b && is_active h (turned c).frames) (Undefined (By FixedAgain)) (entered p.unit h g b (soft_cost p.unit (argument_bytes p.unit types) b) types args k vs (turned c)) tt (enters h g b types args at (r b refl))
      calls h types args g None (Some l) is r at = serves l (take (named_count g.ty) args) (cells_behind p.unit (named_count g.ty) types args) (effect_of c l (take (named_count g.ty) args) (cells_behind p.unit (named_count g.ty) types args))
      calls h types args g None None is r at = tt

      unless_refused_well : (o : Option Why) (s : State) → Fine s → Fine (unless_refused p.unit o s)
      unless_refused_well None s w = w
      unless_refused_well (Some why) s w = tt

      accepts : (callee : Ty) (h : ℕ) (types : List Ty) (args : List Value) (o : Option FuncTy) → slice_get p.unit.funcs h ≡ o → ((b : Stmt) → body_at p h ≡ Some b → HasRoom p numbers (record { func = h; cost = soft_cost p.unit (argument_bytes p.unit types) b }) (x ∷ xs)) → Fine (accepted p.unit callee h types args o k vs c)
      accepts callee h types args None is r = tt
      accepts callee h types args (Some g) is r =
          let at : body_at p h ≡ g.body = ap body_of is in
          unless_refused_well (allowed p.unit callee types args g) (called p.unit h types args g g.body g.library k vs c) (calls h types args g g.body g.library refl (λ b e. r b (at ∙ e)) at)

      call_well : (callee : Ty) (types : List Ty) (args : List Value) (v : Value) (j : Call) (h : ℕ) → HasCall p x.func j → j.callee ≡ Some h → j.bytes ≡ min (argument_bytes p.unit types) most → v ≡ Place h 0 → Fine (call_of p.unit callee types args v k vs c)
      call_well callee types args v j h has named bytes is =
          subst (λ (w : Value). Fine (call_of p.unit callee types args w k vs c)) (sym is)
          (accepts callee h types args (slice_get p.unit.funcs h) refl (λ b e. call_room x xs room j h b types has named bytes e))

    pub invoked_well : (callee : Ty) (types : List Ty) (k : List Item) (vs : List Value) (c : Scene) (ks rest : List Mark) → Here c → AreMarked ks vs → IsInvoked p x.func types ks rest → Goes k (None ∷ rest) → Fine (invoked p.unit callee types k (taken types [] vs) c)
    invoked_well callee types k vs c ks rest here marked i t =
        let r = takes_arguments types [] vs (Some i.callee ∷ rest) (subst (λ (js : List Mark). AreMarked js vs) (i.waiting ∙ pushed_above types (Some i.callee ∷ rest)) marked) in
        subst (λ (o : Option (List Value × List Value)). Fine (invoked p.unit callee types k o c)) (sym r.is) (with_callee r.rest.0 r.rest.1 r.marked)
      where
        with_callee : (args below : List Value) → AreMarked (Some i.callee ∷ rest) below → Fine (one below (λ f us. call_of p.unit callee types args f k us c))
        with_callee args [] a = absurd a
        with_callee args (v ∷ us) a = call_well k us c rest here a.1 t callee types args v i.call i.callee i.has i.named i.bytes a.0

    -- ---- the end of a call

    status_well : (c : Scene) (v : Value) → Fine (status_of c v)
    status_well c (Whole z) = tt
    status_well c Null = tt
    status_well c (Place b o) = tt
    status_well c Opaque = tt
    status_well c (Cells us) = tt
    status_well c NoValue = tt

    below_in : (fs : List Frame) → active fs ≡ x ∷ xs → active (frames_below fs) ≡ xs
    below_in [] e = cc
    below_in (f ∷ fs) e = ap rest_of e

    back_well : (fs : List Frame) (k : List Item) (vs : List Value) (d : Scene) (v : Value) (calls : List Active) → active fs ≡ calls → active d.frames ≡ calls → HaveRoom p numbers calls → AreMarked base vs → Resumes (funcs calls) (λ g gs b js. Takes p k g gs b js) base → Fine (back_in fs k vs d v)
    back_well [] k vs d v calls e i r a t = status_well d v
    back_well (f ∷ fs) k vs d v [] e i r a t = cc
    back_well (f ∷ fs) k vs d v (y ∷ ys) e i r a t = subst (λ (all : List Active). GoesOn p numbers k (v ∷ vs) all) (sym i) (r, t.0, None ∷ base, (tt, a), t.1)

    pub left_call_well : (v : Value) (k : List Item) (vs : List Value) (c : Scene) → Here c → AreMarked base vs → Resumes (funcs xs) (λ g gs b js. Takes p k g gs b js) base → Fine (left_call p.unit v k vs c)
    left_call_well v k vs c here a t =
        back_well (frames_below c.frames) k vs (without_frame (end_arguments p.unit c)) v xs (below_in c.frames here) (below_in (end_arguments p.unit c).frames (arguments_end (x ∷ xs) p.unit c here)) room.1 a t

    pub returned_well : (v : Value) (vs : List Value) (c : Scene) (o : Option Left) → Here c → AreMarked base vs → Exits p x.func (funcs xs) base o → Fine (returned p.unit v vs c o)
    returned_well v vs c None here a e = tt
    returned_well v vs c (Some r) here a e =
        subst (λ (w : List Item). Fine (left_call p.unit v (behind w) vs (end_objects r.objects c))) (sym e.1)
        (left_call_well v e.0 vs (end_objects r.objects c) (objects_end (x ∷ xs) r.objects c here) a e.2.1)

    -- ---- jumps

    pub left_for_well : (vs : List Value) (c : Scene) (o : Option Left) → Here c → AreMarked base vs → Stays p x.func (funcs xs) base o → Fine (left_for vs c o)
    left_for_well vs c None here a s = tt
    left_for_well vs c (Some r) here a s = goes p numbers covered x xs room base r.work vs (end_objects r.objects c) base (objects_end (x ∷ xs) r.objects c here) a s

    abbrev Lies : Option Landing → Type 0
    Lies o = Lands p x.func (covers p numbers covered x xs room.0).no_pointer (funcs xs) base o

    landed_well : (n : ℕ) (vs : List Value) (c : Scene) (from : Left) (o : Option Landing) → Here c → AreMarked base vs → Lies o → Fine (landed p.unit n vs c from o)
    landed_well n vs c from None here a h = tt
    landed_well n vs c from (Some to) here a h =
        let gone = end_objects (without from.objects to.objects) c in
        let new = begin_objects p.unit (without to.objects from.objects) gone in
        goes p numbers covered x xs room base to.work vs (has_turn (nat_le to.at n) new) base
        (turn_in (x ∷ xs) (nat_le to.at n) new (objects_begin (x ∷ xs) p.unit (without to.objects from.objects) gone (objects_end (x ∷ xs) (without from.objects to.objects) c here))) a h

    func_is : (fs : List Frame) → active fs ≡ x ∷ xs → func_in fs ≡ x.func
    func_is [] e = cc
    func_is (f ∷ fs) e = ap first_func e

    label_lies : (l : ℕ) (k : List Item) (o : Option Stmt) → body_at p x.func ≡ o → Goes k base → Lies (label_in p.unit l k o)
    label_lies l k None is t = tt
    label_lies l k (Some body) is t = lands p x.func (covers p numbers covered x xs room.0).no_pointer (funcs xs) base (ToLabel l) 0 body k (holds_body p x.func body is) t

    pub jumped_well : (l n : ℕ) (vs : List Value) (c : Scene) (o : Option Left) → Here c → AreMarked base vs → Exits p x.func (funcs xs) base o → Fine (jumped p.unit l n vs c o)
    jumped_well l n vs c None here a e = tt
    jumped_well l n vs c (Some r) here a e =
        let same : body_of (slice_get p.unit.funcs (func_in c.frames)) ≡ body_at p x.func = ap (λ f. body_at p f) (func_is c.frames here) in
        let work : Goes r.work base = subst (λ (w : List Item). Goes w base) (sym e.1) e.2 in
        landed_well n vs c r (label_in p.unit l r.work (body_of (slice_get p.unit.funcs (func_in c.frames)))) here a
        (subst (λ (o : Option Stmt). Lies (label_in p.unit l r.work o)) (sym same) (label_lies l r.work (body_at p x.func) refl work))

    switched_well : (k : List Item) (vs : List Value) (c : Scene) (o : Option Landing) → Here c → AreMarked base vs → Goes k base → Lies o → Fine (switched p.unit k vs c o)
    switched_well k vs c None here a t h = goes p numbers covered x xs room base k vs c base here a t
    switched_well k vs c (Some to) here a t h = goes p numbers covered x xs room base to.work vs (begin_objects p.unit to.objects c) base (objects_begin (x ∷ xs) p.unit to.objects c here) a h

    pub case_well : (n : ℕ) (body : Stmt) (k : List Item) (vs : List Value) (c : Scene) (v : Value) → HoldsStmt p x.func body → Here c → AreMarked base vs → Goes k base → Fine (chosen_case p.unit n body k vs c v)
    case_well n body k vs c (Whole z) h here a t =
        let no_pointer = (covers p numbers covered x xs room.0).no_pointer in
        let behind_it : Goes (EndSwitch ∷ k) base = (refl, t) in
        switched_well k vs c (or_else (after p.unit (ToCase z) n body (EndSwitch ∷ k)) (after p.unit ToDefault n body (EndSwitch ∷ k))) here a t
        (either_lands p x.func no_pointer (funcs xs) base (after p.unit (ToCase z) n body (EndSwitch ∷ k)) (after p.unit ToDefault n body (EndSwitch ∷ k))
        (lands p x.func no_pointer (funcs xs) base (ToCase z) n body (EndSwitch ∷ k) h behind_it) (lands p x.func no_pointer (funcs xs) base ToDefault n body (EndSwitch ∷ k) h behind_it))
    case_well n body k vs c Null h here a t = tt
    case_well n body k vs c (Place b o) h here a t = tt
    case_well n body k vs c Opaque h here a t = tt
    case_well n body k vs c (Cells us) h here a t = tt
    case_well n body k vs c NoValue h here a t = tt
