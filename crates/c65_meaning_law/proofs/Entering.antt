-- A function is entered: each parameter begins with its argument.
use Rattle.std.proofs.Common.{ℕ, zero, suc, Bool, true, List, [], ◌∷◌, length, drop, false, ◌≡◌, refl, subst}
use Rattle.std.specs.Prelude.{All, ⊤, IsTrue, Result, Ok}
use Rattle.c65_ctype.specs.Trees.{Ty, Fn, fn, TypesTy}
use Rattle.c65_ctype.specs.Sizes.{size_of}
use Rattle.c65_csem.specs.declared.items.Class.{Class}
use Rattle.c65_csem.specs.declared.items.Class.TheVariants as classes
use Rattle.c65_csem.specs.Trees.{FuncTy, UnitTy}
use Rattle.c65_csem.specs.Units.{IsParam}
use Rattle.c65_meaning.specs.Program.{ProgramTy}
use Rattle.c65_meaning.specs.Store.{Cell, Value, Place, nth_cell, cell_of, cells_of_value}
use Rattle.c65_meaning.specs.Why.{Why, ◌>>=◌}
use Rattle.c65_meaning.specs.Calls as calls
use Rattle.c65_meaning.specs.Shapes.{object_in, object_shape}
use Rattle.c65_meaning.specs.State.{Scene}
use Rattle.c65_meaning.specs.Step.{begin_object, put, with_params, rest_list, with_rest, further, with_passed}
use Rattle.c65_csem_names.specs.Scopes.{is_variadic, entering}
use Rattle.c65_meaning_law.specs.Statements.{IsReady}
use Rattle.c65_meaning_law.proofs.Stacks.{CellsFit, Sound, Stands, StoreFits, statement, D, IsScene}
use Rattle.c65_meaning_law.proofs.Values.{bind_sound, map_sound}
use Rattle.c65_meaning_law.proofs.Steps.{put_in}
use Rattle.c65_meaning_law.proofs.Scopes.{Grows, grows_same, grows_on, grows, block_new, ready_after, store_after, ready_stays, AreAutomatic, automatic_of, IsBegun, rest_begun}
use Rattle.c65_meaning_law.proofs.Stores.{cell_fits, at_fits, joined_fit}
use Rattle.c65_meaning_law.proofs.Statements.{cells_on, stands_on}
use Rattle.c65_meaning_law.proofs.StatementSteps.{moves_here, stands_here, fits_here}
use Rattle.c65_meaning_law.proofs.Arguments.{Enough}
use Rattle.c65_csem.specs.Places.{is_framed, is_automatic}

abbrev pub AllStand : (ℕ → Type 0) → List Value → Type 0
AllStand D [] = ⊤
AllStand D (v ∷ vs) = Stands D v × AllStand D vs

framed_automatic : (c : Class) → IsTrue (is_framed c) → IsTrue (is_automatic c)
framed_automatic classes.Auto h = refl
framed_automatic classes.Register h = refl
framed_automatic classes.External h = absurd (let x : false ≡ true = h in cc)
framed_automatic classes.Tentative h = absurd (let x : false ≡ true = h in cc)
framed_automatic classes.Declared h = absurd (let x : false ≡ true = h in cc)
framed_automatic classes.Static h = absurd (let x : false ≡ true = h in cc)
framed_automatic classes.Fixed h = absurd (let x : false ≡ true = h in cc)

pub automatic_params : (u : UnitTy) (params : List ℕ) → All (IsParam u) params → AreAutomatic u params
automatic_params u params h = automatic_of u params (λ k d l. let q = h k d l in (q.object, (q.framed.0, framed_automatic q.object.class q.framed.1)))

same_variadic : (f : Fn) → is_variadic f ≡ calls.is_variadic f
same_variadic (fn q ps variadic cdecl) = refl

module _ (D : ℕ → Type 0) where
  stand_behind : (n : ℕ) (vs : List Value) → AllStand D vs → AllStand D (drop n vs)
  stand_behind zero vs h = h
  stand_behind (suc n) [] h = tt
  stand_behind (suc n) (v ∷ vs) h = stand_behind n vs h.1

  -- the cells of values that stand
  list_fits : (types : TypesTy) (ts : List Ty) (vs : List Value) → AllStand D vs → CellsFit D (nth_cell (rest_list types ts vs))
  list_fits types [] vs h = λ q. tt
  list_fits types (t ∷ ts) [] h = λ q. tt
  list_fits types (t ∷ ts) (v ∷ vs) h = joined_fit D (rest_list types ts vs) (cells_of_value (size_of types t) v) (list_fits types ts vs h.1) (at_fits D (size_of types t) (cell_of v) 0 (cell_fits D v h.0))

  pub behind_fit : (types : TypesTy) (n : ℕ) (ts : List Ty) (vs : List Value) → AllStand D vs → CellsFit D (nth_cell (rest_list types (drop n ts) (drop n vs)))
  behind_fit types n ts vs h = list_fits types (drop n ts) (drop n vs) (stand_behind n vs h)

module _ (p : ProgramTy) where
  all_stand_on : (c e : Scene) → Grows p.unit c e → (vs : List Value) → AllStand (D p.unit c) vs → AllStand (D p.unit e) vs
  all_stand_on c e g [] h = tt
  all_stand_on c e g (v ∷ vs) h = (stands_on statement p.unit c e g v h.0, all_stand_on c e g vs h.1)

  later : (scope : List ℕ) (d e f : Scene) → Grows p.unit d e → IsBegun p.unit false scope e f → IsBegun p.unit false scope d f
  later scope d e f g h = record { grows = grows_on p.unit d e f g h.grows; ready = h.ready; store = h.store }

  pub params_begin : (objects : List ℕ) (args : List Value) (scope : List ℕ) (d : Scene) → AreAutomatic p.unit objects → IsReady p.unit false scope d → StoreFits (D p.unit d) d.store → AllStand (D p.unit d) args → Enough (D p.unit d) objects args → Sound (IsBegun p.unit false (entering objects scope) d) (with_params p.unit objects args d)
  params_begin [] args scope d n r h a o = record { grows = grows_same p.unit d; ready = r; store = h }
  params_begin (i ∷ objects) [] scope d n r h a o = absurd o
  params_begin (i ∷ objects) (v ∷ args) scope d n r h a o =
      let e : Scene = begin_object p.unit i d in
      let g : Grows p.unit d e = grows p.unit i d in
      bind_sound (IsScene p.unit e) (IsBegun p.unit false (entering (i ∷ objects) scope) d) (put true (object_shape p.unit.types (object_in p.unit i)) e (Place d.next 0) v) (with_params p.unit objects args)
      (put_in statement p e true (object_shape p.unit.types (object_in p.unit i)) e d.next 0 v (stands_here statement tt p e (store_after p.unit i d h)) (block_new p.unit i d) (stands_on statement p.unit d e g v a.0))
      (λ f s. let m : Grows p.unit e f = moves_here statement tt p e f s in
      let all : Grows p.unit d f = grows_on p.unit d e f g m in
      map_sound (IsBegun p.unit false (entering objects (i ∷ scope)) f) (IsBegun p.unit false (entering (i ∷ objects) scope) d) (with_params p.unit objects args f) (λ x b. later (entering objects (i ∷ scope)) d f x all b)
      (params_begin objects args (i ∷ scope) f n.1 (ready_stays p.unit e f m false (i ∷ scope) (ready_after p.unit i d false scope n.0 r)) (fits_here statement tt p e f m s.store) (all_stand_on d f all args a.1) (still_enough d f objects args o)))
    where
      still_enough : (c e : Scene) (os : List ℕ) (vs : List Value) → Enough (D p.unit c) os vs → Enough (D p.unit e) os vs
      still_enough c e [] vs h = tt
      still_enough c e (j ∷ os) [] h = absurd h
      still_enough c e (j ∷ os) (w ∷ vs) h = still_enough c e os vs h

  -- ---- and behind them the further arguments

  passed_on : (variadic : Bool) (xs : List Cell) (scope : List ℕ) (d : Scene) (r : Result Scene Why) → CellsFit (D p.unit d) (nth_cell xs) → Sound (IsBegun p.unit false scope d) r → Sound (IsBegun p.unit variadic scope d) (r >>= λ e. Ok (with_rest variadic xs e))
  passed_on variadic xs scope d r h s = bind_sound (IsBegun p.unit false scope d) (IsBegun p.unit variadic scope d) r (λ e. Ok (with_rest variadic xs e)) s (λ e b. rest_begun p.unit variadic xs scope d e b (cells_on statement p.unit d e b.grows xs h))

  pub passed_begin : (g : FuncTy) (types : List Ty) (args : List Value) (d : Scene) → AreAutomatic p.unit g.params → IsReady p.unit false [] d → StoreFits (D p.unit d) d.store → AllStand (D p.unit d) args → Enough (D p.unit d) g.params args → Sound (IsBegun p.unit (is_variadic g.ty) (entering g.params []) d) (with_passed p.unit g types args d)
  passed_begin g types args d n r h a o =
      subst (λ (v : Bool). Sound (IsBegun p.unit (is_variadic g.ty) (entering g.params []) d) (with_params p.unit g.params args d >>= λ e. Ok (with_rest v (further p.unit g types args) e))) (same_variadic g.ty)
      (passed_on (is_variadic g.ty) (further p.unit g types args) (entering g.params []) d (with_params p.unit g.params args d)
      (behind_fit (D p.unit d) p.unit.types (length g.params) types args a)
      (params_begin g.params args [] d n r h a o))
