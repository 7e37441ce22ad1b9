-- A call: the callee is there, takes its arguments, and its body begins; or the library serves it.
use Rattle.std.proofs.Common.{◌≡◌, ℕ, zero, suc, Bool, true, false, List, [], ◌∷◌, Option, Some, None, refl, sym, ap, ◌∙◌, subst, if◌then◌else◌}
use Rattle.std.specs.Prelude.{take, Result, Ok, Err, All, IsSome, IsTrue, slice_get, not, ◌&&◌}
use Rattle.std.proofs.lemmas.Bool.{and_parts}
use Rattle.std.proofs.lemmas.Option.{get_or_from_slice_get, slice_get_within}
use Rattle.std.proofs.lemmas.List.Elements.{All-get_or}
use Rattle.c65_ctype.specs.Trees.{Ty, pointer, function, Fn, fn, unknown, known}
use Rattle.c65_ctype.specs.Compatible.{are_compatible}
use Rattle.c65_base.specs.declared.library.Library.{Library}
use Rattle.c65_base.specs.declared.library.Library.TheVariants as the
use Rattle.c65_csem.specs.Trees.{Stmt, FuncTy}
use Rattle.c65_csem.specs.Library.{library_params, library_type}
use Rattle.c65_csem.specs.Places.{plain}
use Rattle.c65_csem.specs.Statements as st
use Rattle.c65_csem.specs.Statements.{CanBreak}
use Rattle.c65_csem.specs.Units.{IsFunc, HasBody, IsBody, MatchParams, IsLinked, IsWhole, IsProgram, context_of}
use Rattle.c65_meaning.specs.Program.{ProgramTy}
use Rattle.c65_meaning.specs.declared.action.Action.TheVariants.{CalleeType, NoResult, FixedAgain}
use Rattle.c65_meaning.specs.Why.{Why, By, Unfit}
use Rattle.c65_meaning.specs.Store.{Cell, Bits, Piece, Clouded, Value, Whole, Null, Place, Opaque, Cells, NoValue, nth_cell}
use Rattle.c65_meaning.specs.Shapes.{object_in, lives_in_frame, literal_block, object_block}
use Rattle.c65_meaning.specs.Items.{Item, Invoke, Leave, plan_stmt}
use Rattle.c65_meaning.specs.Costs.{argument_bytes, soft_cost, has_fixed}
use Rattle.c65_meaning.specs.Calls.{count_of, named_count, passed_to, fit_definition, accepts}
use Rattle.c65_meaning.specs.State.{Frame, Scene, State, Deep, Running, turned, block_in, Undefined}
use Rattle.c65_meaning.specs.Step.{place_in, are_values, is_deep, unless_deep, new_frame, with_passed, entered, called, unless_refused, accepted, call_of, invoked, provided, cells_behind, func_in, frames_below, perform, is_active}
use Rattle.c65_csem_names.specs.Scopes.{is_variadic, IsInScope, IsScoped, IsScopedBody, HasScopedBody, entering}
use Rattle.c65_csem_names.specs.Library.{IsTypedAs, HasLibraryType}
use Rattle.c65_csem_names.specs.Programs.{IsScopedProgram}
use Rattle.c65_meaning_law.specs.Laws.{HasBlock}
use Rattle.c65_meaning_law.specs.Statements.{HasFrame, IsReady}
use Rattle.c65_meaning_law.proofs.Stacks.{Kind, pointing, kind_passed, kind_given, kind_from, Below, Gives, Sound, Stands, Suits, AreSuited, CellFits, Call, inside, IsCallee, Exit, breaking, continuing, returning, Allows, D, Takes, Out, IsScene}
use Rattle.c65_meaning_law.proofs.Values.{stands}
use Rattle.c65_meaning_law.proofs.Scopes.{Grows, ready_stays, IsBegun}
use Rattle.c65_meaning_law.proofs.Statements.{suits_on, suited_on, takes_on, stmt_takes}
use Rattle.c65_meaning_law.proofs.StatementSteps.{moves_here, stands_here, fits_here}
use Rattle.c65_meaning_law.proofs.Calls.{with_frames, IsCall, AreWaiting, IsWell, IsAt}
use Rattle.c65_meaning_law.proofs.Returns.{grown_with, call_on, waiting_on, at_later}
use Rattle.c65_meaning_law.proofs.LibraryCalls.{provided_well}
use Rattle.c65_meaning_law.proofs.Arguments.{callee_kind, AllSuited, are_taken, Enough, fit_enough, objects_enough, library_arguments}
use Rattle.c65_meaning_law.proofs.Entering.{AllStand, automatic_params, passed_begin, behind_fit}

pub all_at : {A : Type 0} (P : A → Type 0) (xs : List A) (i : ℕ) (x : A) → All P xs → slice_get xs i ≡ Some x → P x
all_at P xs i x h e = subst P (get_or_from_slice_get xs i x x e) (All-get_or P xs i x (slice_get_within xs i x e) h)

pub well_if : (p : ProgramTy) (t : Bool) (a b : State) → IsWell p.unit a → IsWell p.unit b → IsWell p.unit (if t then a else b)
well_if p true a b h g = h
well_if p false a b h g = g

-- ---- a body begins

-- in no loop or switch
begins_outside : (g : FuncTy) (body : Stmt) (y : Exit) → Allows (context_of g body) y → y ≡ returning
begins_outside g body breaking (st.CanBreak.loop l) = absurd (cc)
begins_outside g body breaking (st.CanBreak.switched s) = absurd (cc)
begins_outside g body continuing a = absurd (cc)
begins_outside g body returning a = refl

abbrev placed_in : ProgramTy → Bool → Option ℕ → ℕ → Result Value Why
placed_in p t m i = if t then place_in m else Ok (Place (object_block p.unit i) 0)

outside_same : (p : ProgramTy) (t : Bool) (m n : Option ℕ) (i : ℕ) (r : Result Value Why) → (t ≡ true → ⊥) → placed_in p t m i ≡ r → placed_in p t n i ≡ r
outside_same p true m n i r h e = absurd (h refl)
outside_same p false m n i r h e = e

-- with no object in scope, what has a block has one in any call
pub ready_outside : (p : ProgramTy) (variadic : Bool) (scope : List ℕ) (c d : Scene) (f : Frame) (fs : List Frame) → d.frames ≡ f ∷ fs → ((b : ℕ) → D p.unit c b → D p.unit d b) → IsReady p.unit variadic scope c → IsReady p.unit false [] d
ready_outside p variadic scope c d f fs e g r = record { active = subst HasFrame (sym e) tt; objects = objects; literals = λ l m. g (literal_block p.unit l) (r.literals l m); funcs = λ n m. g n (r.funcs n m); rest = λ l. absurd (no_truth l) }
  where
    no_truth : IsTrue false → ⊥
    no_truth l = absurd (cc)

    objects : (i : ℕ) → IsSome (object_in p.unit i) → IsInScope p.unit [] i → HasBlock p.unit d i
    objects i m h =
        let b = r.objects i m (λ l. absurd (no_truth (h l))) in
        (b.0, outside_same p (lives_in_frame (object_in p.unit i)) (block_in c.frames i) (block_in d.frames i) i (Ok (Place b.0 0)) (λ l. no_truth (h l)) b.1, g b.0 b.2)

module _ (p : ProgramTy) (w : IsProgram p.unit p.main) (s : IsScopedProgram p.unit p.main) where
  pub body_typed : (f : ℕ) (g : FuncTy) (body : Stmt) → slice_get p.unit.funcs f ≡ Some g → g.body ≡ Some body → IsBody p.unit g body
  body_typed f g body e b = subst (HasBody p.unit g) b (all_at (IsFunc p.unit) p.unit.funcs f g w.unit.funcs e).body

  pub body_scoped : (f : ℕ) (g : FuncTy) (body : Stmt) → slice_get p.unit.funcs f ≡ Some g → g.body ≡ Some body → IsScoped p.unit (is_variadic g.ty) (entering g.params []) body
  body_scoped f g body e b = subst (IsScopedBody p.unit (is_variadic g.ty) g.params) b (all_at (HasScopedBody p.unit) p.unit.funcs f g s.bodies e)

  -- the work of a body whose parameters have begun
  pub body_runs : (f : ℕ) (g : FuncTy) (body : Stmt) (k : List Item) (ks : List Kind) (vs : List Value) (d e : Scene) → slice_get p.unit.funcs f ≡ Some g → g.body ≡ Some body → func_in d.frames ≡ f → IsBegun p.unit (is_variadic g.ty) (entering g.params []) d e → AreSuited (D p.unit e) ks vs → AreWaiting p.unit e (frames_below d.frames) (record { func = g; code = body; base = ks; behind = k }) → IsWell p.unit (Running (plan_stmt p.unit 0 body (Leave ∷ k)) vs e)
  body_runs f g body k ks vs d e i j n b a h =
      let call : Call = record { func = g; code = body; base = ks; behind = k } in
      let typed = body_typed f g body i j in
      let scoped = body_scoped f g body i j in
      record {
        scene = e;
        call = call;
        active = record { func = ap (λ (m : ℕ). slice_get p.unit.funcs m) (b.grows.func ∙ n) ∙ i; body = j; typed = typed; scoped = scoped; ready = ready_stays p.unit e (with_frames e e.frames) (own_frames e) (is_variadic g.ty) (entering g.params []) b.ready };
        running = record {
          kinds = ks;
          takes = stmt_takes (inside call) tt p.unit e (is_variadic g.ty) (entering g.params []) b.ready (context_of g body) 0 body (Leave ∷ k) ks (refl, refl) typed.typed scoped (refl, refl) (λ y l. subst (λ (x : Exit). Out (inside call) p.unit e (Leave ∷ k) x ks) (sym (begins_outside g body y l)) (refl, refl));
          suited = a;
          scene = stands_here (inside call) tt p e b.store;
        };
        waiting = subst (λ (fs : List Frame). AreWaiting p.unit e fs call) (sym b.grows.below) h;
      }
    where
      own_frames : (c : Scene) → Grows p.unit c (with_frames c c.frames)
      own_frames c = record { blocks = λ x y. y; objects = λ x y. y; rest = λ y. y; active = λ x. x; func = refl; below = refl }

  pub body_enters : (f : ℕ) (g : FuncTy) (body : Stmt) (k : List Item) (ks : List Kind) (vs : List Value) (d : Scene) (r : Result Scene Why) → slice_get p.unit.funcs f ≡ Some g → g.body ≡ Some body → func_in d.frames ≡ f → Sound (IsBegun p.unit (is_variadic g.ty) (entering g.params []) d) r → ((e : Scene) → Grows p.unit d e → AreSuited (D p.unit e) ks vs × AreWaiting p.unit e (frames_below d.frames) (record { func = g; code = body; base = ks; behind = k })) → IsWell p.unit (unless_deep (plan_stmt p.unit 0 body (Leave ∷ k)) vs r)
  body_enters f g body k ks vs d (Ok e) i j n b h =
      let more = h e b.grows in
      well_if p (not e.free && is_deep e.frames) Deep (Running (plan_stmt p.unit 0 body (Leave ∷ k)) vs e) tt (body_runs f g body k ks vs d e i j n b more.0 more.1)
  body_enters f g body k ks vs d (Err (By action)) i j n b h = tt
  body_enters f g body k ks vs d (Err Unfit) i j n b h = absurd b

  -- ---- a call from inside another

  module _ (c : Scene) (call : Call) (at : IsAt p.unit c call) where
    abbrev E : ℕ → Type 0
    E b = D p.unit c b

    waits : (e : Scene) (new : Call) → ((b : ℕ) → D p.unit c b → D p.unit e b) → (fs : List Frame) → IsCall p.unit c fs call → AreWaiting p.unit c (frames_below fs) call → Gives (kind_given new.func.ty) (Takes (inside call) p.unit (with_frames c fs) new.behind) new.base → AreWaiting p.unit e fs new
    waits e new g [] h a t = absurd h.ready.active
    waits e new g (f ∷ fs) h a t = (call, call_on p c e (f ∷ fs) (f ∷ fs) call (grown_with p c e (f ∷ fs) g) h, (t.0, t.1, takes_on (inside call) p.unit (with_frames c (f ∷ fs)) (with_frames e (f ∷ fs)) (grown_with p c e (f ∷ fs) g) new.behind (t.0 ∷ new.base) t.2), waiting_on p c e g fs call a)

    own : Grows p.unit c (with_frames c c.frames)
    own = record { blocks = λ x y. y; objects = λ x y. y; rest = λ y. y; active = λ x. x; func = refl; below = refl }

    all_stand : (ts : List Ty) (vs : List Value) → AllSuited E ts vs → AllStand E vs
    all_stand [] [] h = tt
    all_stand [] (v ∷ vs) h = absurd h
    all_stand (t ∷ ts) [] h = absurd h
    all_stand (t ∷ ts) (v ∷ vs) h = (stands E (kind_passed t) v h.0, all_stand ts vs h.1)

    all_suited_on : (e : Scene) → Grows p.unit c e → (ts : List Ty) (vs : List Value) → AllSuited E ts vs → AllSuited (D p.unit e) ts vs
    all_suited_on e g [] [] h = tt
    all_suited_on e g [] (v ∷ vs) h = absurd h
    all_suited_on e g (t ∷ ts) [] h = absurd h
    all_suited_on e g (t ∷ ts) (v ∷ vs) h = (suits_on (inside call) p.unit c e g (kind_passed t) v h.0, all_suited_on e g ts vs h.1)

    enough_of : (t : Fn) (is : List ℕ) (ts : List Ty) (vs : List Value) → MatchParams p.unit t is → fit_definition p.unit ts is t ≡ true → AllSuited E ts vs → Enough E is vs
    enough_of (fn q unknown variadic cdecl) is ts vs m f a = objects_enough E p.unit ts is vs f a
    enough_of (fn q (known ps) variadic cdecl) is ts vs m f a = fit_enough E p.unit ts variadic ps is vs f m a

    -- what a step of the call finds: the values that wait below its arguments, and the work behind it
    module _ (k : List Item) (ks : List Kind) (vs : List Value) (d : Scene) (i : IsScene p.unit c d) (suited : AreSuited E ks vs) (args : List Value) (types : List Ty) (given : AllSuited E types args) where
      moved : Grows p.unit c d
      moved = moves_here (inside call) tt p c d i

      stand_on : (e : Scene) (ts : List Ty) (ws : List Value) → ((b : ℕ) → E b → D p.unit e b) → AllSuited E ts ws → AllStand (D p.unit e) ws
      stand_on e ts ws g h = raise_all ws (all_stand ts ws h)
        where
          cell_raised : (x : Cell) → CellFits E x → CellFits (D p.unit e) x
          cell_raised (Piece i b o) h = g b h
          cell_raised (Bits n v) h = tt
          cell_raised Clouded h = tt

          raise_one : (v : Value) → Stands E v → Stands (D p.unit e) v
          raise_one (Place b o) h = g b h
          raise_one (Whole z) h = tt
          raise_one Null h = tt
          raise_one Opaque h = tt
          raise_one (Cells xs) h = λ q. cell_raised (nth_cell xs q) (h q)
          raise_one NoValue h = tt

          raise_all : (ws : List Value) → AllStand E ws → AllStand (D p.unit e) ws
          raise_all [] h = tt
          raise_all (v ∷ ws) h = (raise_one v h.0, raise_all ws h.1)

      enters : (f : ℕ) (g : FuncTy) (body : Stmt) (cost : ℕ) → slice_get p.unit.funcs f ≡ Some g → g.body ≡ Some body → Enough E g.params args → Gives (kind_given g.ty) (Takes (inside call) p.unit c k) ks → IsWell p.unit (entered p.unit f g body cost types args k vs (turned d))
      enters f g body cost m j o t =
          let first : Scene = new_frame p.unit f cost (turned d) in
          let same : Grows p.unit (with_frames c first.frames) (with_frames first first.frames) = grown_with p c first first.frames moved.blocks in
          let scope = at.active.ready in
          body_enters f g body k ks vs first (with_passed p.unit g types args first) m j refl
          (passed_begin p g types args first (automatic_params p.unit g.params (body_typed f g body m j).params) (ready_outside p (is_variadic call.func.ty) (entering call.func.params []) (with_frames c c.frames) first _ _ refl moved.blocks scope) (fits_here (inside call) tt p c d moved i.store) (stand_on first types args moved.blocks given) (enough_on first g.params args o))
          (λ e n. (
            suited_on (inside call) p.unit (with_frames c e.frames) (with_frames e e.frames) (grown_with p c e e.frames (λ b h. n.blocks b (moved.blocks b h))) ks vs suited,
            subst (λ (fs : List Frame). AreWaiting p.unit e fs (record { func = g; code = body; base = ks; behind = k })) (sym i.frames)
                (waits e (record { func = g; code = body; base = ks; behind = k }) (λ b h. n.blocks b (moved.blocks b h)) c.frames at.active at.waiting (t.0, t.1, takes_on (inside call) p.unit c (with_frames c c.frames) own k (t.0 ∷ ks) t.2)),
          ))
        where
          enough_on : (e : Scene) (os : List ℕ) (ws : List Value) → Enough E os ws → Enough (D p.unit e) os ws
          enough_on e [] ws h = tt
          enough_on e (j ∷ os) [] h = absurd h
          enough_on e (j ∷ os) (v ∷ ws) h = enough_on e os ws h

      serves : (char : Bool) (l : Library) (g : FuncTy) → g.ty ≡ library_type char l → fit_definition p.unit types g.params g.ty ≡ true → Gives (kind_given g.ty) (Takes (inside call) p.unit c k) ks → IsWell p.unit (provided l (take (named_count g.ty) args) (cells_behind p.unit (named_count g.ty) types args) k vs d)
      serves char l g e f t =
          let there = all_suited_on d moved types args given in
          let fits : fit_definition p.unit types g.params (library_type char l) ≡ true = subst (λ (y : Fn). fit_definition p.unit types g.params y ≡ true) e f in
          subst (λ (n : ℕ). IsWell p.unit (provided l (take n args) (cells_behind p.unit n types args) k vs d)) (sym (ap named_count e))
          (provided_well p d call (at_later p c d call moved at) (fits_here (inside call) tt p c d moved i.store) l (take (count_of (library_params char l)) args) (library_arguments d.store p.unit.types types char l args fits there)
          (cells_behind p.unit (count_of (library_params char l)) types args) (behind_fit (D p.unit d) p.unit.types (count_of (library_params char l)) types args (stand_on d types args moved.blocks given)) k ks vs
          (t.0, subst (λ (y : Kind). Below y t.0) (ap kind_given e ∙ library_kind char l) t.1, takes_on (inside call) p.unit c d moved k (t.0 ∷ ks) t.2)
          (suited_on (inside call) p.unit c d moved ks vs suited))
        where
          library_kind : (char : Bool) (m : Library) → kind_given (library_type char m) ≡ kind_from m
          library_kind char the.Putchar = refl
          library_kind char the.Getchar = refl
          library_kind char the.Puts = refl
          library_kind char the.Exit = refl
          library_kind char the.Memcpy = refl
          library_kind char the.Memset = refl
          library_kind char the.Strcmp = refl
          library_kind char the.Strcpy = refl
          library_kind char the.Strlen = refl
          library_kind char the.Printf = refl

      once_well : (again : Bool) (x : State) → IsWell p.unit x → IsWell p.unit (if again then Undefined (By FixedAgain) else x)
      once_well true x h = tt
      once_well false x h = h

      calls : (f : ℕ) (g : FuncTy) (body : Option Stmt) (library : Option Library) → slice_get p.unit.funcs f ≡ Some g → g.body ≡ body → g.library ≡ library → fit_definition p.unit types g.params g.ty ≡ true → Gives (kind_given g.ty) (Takes (inside call) p.unit c k) ks → IsWell p.unit (called p.unit f types args g body library k vs d)
      calls f g (Some body) library m j l o t =
          once_well (has_fixed p.unit body && is_active f (turned d).frames) _ (enters f g body (soft_cost p.unit (argument_bytes p.unit types) body) m j (enough_of g.ty g.params types args (body_typed f g body m j).prototype o given) t)
      calls f g None (Some x) m j l o t = serves s.library.0 x g (subst (λ (y : Option Library). IsTypedAs s.library.0 y g.ty) l (all_at (HasLibraryType s.library.0) p.unit.funcs f g s.library.1 m)) o t
      calls f g None None m j l o t = absurd (subst (λ (y : Option Library). IsWhole None y) l (subst (λ (x : Option Stmt). IsWhole x g.library) j (all_at IsLinked p.unit.funcs f g w.funcs m)))

      unless_refused_well : (callee : Ty) (g : FuncTy) (t q : Bool) (x : State) → accepts p.unit callee types g ≡ q → (accepts p.unit callee types g ≡ true → IsWell p.unit x) → IsWell p.unit (unless_refused p.unit (if t then (if q then None else Some (By CalleeType)) else Some (By NoResult)) x)
      unless_refused_well callee g true true x e h = h e
      unless_refused_well callee g true false x e h = tt
      unless_refused_well callee g false q x e h = tt

      module _ (callee : Ty) (h : IsCallee callee types) (t : Gives (kind_given h.type) (Takes (inside call) p.unit c k) ks) where
        accepted_well : (f : ℕ) (o : Option FuncTy) → slice_get p.unit.funcs f ≡ o → IsWell p.unit (accepted p.unit callee f types args o k vs d)
        accepted_well f None m = tt
        accepted_well f (Some g) m = unless_refused_well callee g (are_values args) (accepts p.unit callee types g) (called p.unit f types args g g.body g.library k vs d) refl (λ a. fits a)
          where
            fits : accepts p.unit callee types g ≡ true → IsWell p.unit (called p.unit f types args g g.body g.library k vs d)
            fits a =
                let same : accepts p.unit (pointer (plain (function h.type))) types g ≡ true = subst (λ (y : Ty). accepts p.unit y types g ≡ true) h.named a in
                let parts = and_parts (are_compatible p.unit.types (plain (function h.type)) (plain (function g.ty))) (fit_definition p.unit (passed_to (Some h.type) types) g.params g.ty) same in
                let fit = subst (λ (ts : List Ty). fit_definition p.unit ts g.params g.ty ≡ true) h.passed parts.1 in
                calls f g g.body g.library m refl refl fit (t.0, subst (λ (y : Kind). Below y t.0) (callee_kind p.unit.types h.type g.ty parts.0) t.1, t.2)

        pub call_well : (f : Value) → Suits E pointing f → IsWell p.unit (call_of p.unit callee types args f k vs d)
        call_well (Place f zero) a = accepted_well f (slice_get p.unit.funcs f) refl
        call_well (Place f (suc o)) a = tt
        call_well Null a = tt
        call_well Opaque a = tt
        call_well (Cells xs) a = absurd a
        call_well NoValue a = tt
        call_well (Whole z) a = absurd a

    pub invoke_well : (callee : Ty) (types : List Ty) (k : List Item) (ks : List Kind) (vs : List Value) (d : Scene) → Takes (inside call) p.unit c (Invoke callee types ∷ k) ks → IsScene p.unit c d → AreSuited E ks vs → IsWell p.unit (perform p (Invoke callee types) k vs d)
    invoke_well callee types k ks vs d t i a =
        let r = are_taken E types (pointing ∷ t.1) vs (subst (λ (js : List Kind). AreSuited E js vs) t.2 a) in
        subst (λ (o : Option (List Value × List Value)). IsWell p.unit (invoked p.unit callee types k o d)) (sym r.is) (with_callee r.args r.rest r.suited r.below)
      where
        with_callee : (args rest : List Value) → AllSuited E types args → AreSuited E (pointing ∷ t.1) rest → IsWell p.unit (invoked p.unit callee types k (Some (args, rest)) d)
        with_callee args [] g b = absurd b
        with_callee args (f ∷ rest) g b = call_well k t.1 rest d i b.1 args types g callee t.0 t.3 f b.0
