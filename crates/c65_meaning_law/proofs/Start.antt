-- The call of `main` begins well, and so every state of the run is.
use Rattle.std.proofs.Common.{◌≡◌, ℕ, zero, suc, ◌+◌, ◌/◌, ◌%◌, ◌<◌, Bool, true, false, List, [], ◌∷◌, ◌++◌, length, Option, Some, None, refl, sym, ap, ◌∙◌, subst, arith, if◌then◌else◌}
use Rattle.std.specs.Prelude.{◌==◌, Ok, IsSome, IsTrue, slice_get, nat_lt}
use Rattle.c65_csem.specs.Trees.{Stmt, FuncTy, UnitTy}
use Rattle.c65_csem.specs.Units.{IsProgram}
use Rattle.c65_meaning.specs.Program.{ProgramTy}
use Rattle.c65_meaning.specs.declared.action.Action.TheVariants.{OffsetOutside}
use Rattle.c65_meaning.specs.Why.{By, Unfit}
use Rattle.c65_meaning.specs.Store.{Cell, Bits, Piece, Clouded, byte, Block, Store, Place, set_block}
use Rattle.c65_meaning.specs.Shapes.{object_in, lives_in_frame, literal_block, object_block, first_block}
use Rattle.c65_meaning.specs.Costs.{bytes_of_objects, soft_cost, arguments_bytes}
use Rattle.c65_meaning.specs.State.{Scene, State, Undefined, Deep, Ended, Running}
use Rattle.c65_meaning.specs.Step.{place_in, new_frame, with_passed, body_of, step, steps}
use Rattle.c65_meaning.specs.Start.{bytes_at, text_block, argv_cells, argv_block, with_texts, initial_store, objects_inside, with_arguments, first_store, first_scene, main_values, started, started_by, start_in}
use Rattle.c65_meaning.specs.Sem.{outcome_of, state_at}
use Rattle.c65_meaning_law_free.specs.Free.{free_state_at}
use Rattle.c65_meaning_law_free.proofs.Runs.{free_is_never_deep}
use Rattle.c65_csem_names.specs.Scopes.{IsInScope}
use Rattle.c65_csem_names.specs.Programs.{TakesArguments, Starts, IsScopedProgram}
use Rattle.c65_meaning_law.specs.Laws.{IsClosed, HasBlock, IsFit}
use Rattle.c65_meaning_law.specs.Statements.{IsReady}
use Rattle.c65_meaning_law.specs.Programs.{HasBlocks}
use Rattle.c65_meaning_law.specs.Runs.{IsFitAndFree, ProgramsFit}
use Rattle.c65_meaning_law.proofs.Stacks.{CellFits, CellsFit, StoreFits, D}
use Rattle.c65_meaning_law.proofs.Programs.{initial_store_fits}
use Rattle.c65_meaning_law.proofs.Arguments.{Enough}
use Rattle.c65_meaning_law.proofs.Entering.{AllStand, automatic_params, passed_begin}
use Rattle.c65_meaning_law.proofs.Calls.{IsWell}
use Rattle.c65_meaning_law.proofs.Invoking.{well_if, body_typed, body_enters}
use Rattle.c65_meaning_law.proofs.Jumps.{jumps_well}
use Rattle.c65_meaning_law.proofs.Mains.{main_gives_number}
use Rattle.c65_meaning_law.proofs.Whole.{MainGivesNumber, step_well}
use Rattle.c65_meaning_law.proofs.Expressions.{closed}

-- ---- the first store

set_some : (s : Store) (b : ℕ) (x : Block) (c : ℕ) → IsSome (s c) → IsSome (set_block s b x c)
set_some s b x c h = one (c == b)
  where
    one : (t : Bool) → IsSome (if t then Some x else s c)
    one true = refl
    one false = h

set_here : (s : Store) (b : ℕ) (x : Block) → IsSome (set_block s b x b)
set_here s b x = one (b == b) (grind arith)
  where
    one : (t : Bool) → t ≡ true → IsSome (if t then Some x else s b)
    one true e = refl
    one false e = absurd (cc)

texts_some : (b : ℕ) (args : List (List ℕ)) (s : Store) (c : ℕ) → IsSome (s c) → IsSome (with_texts b args s c)
texts_some b [] s c h = h
texts_some b (a ∷ rest) s c h = texts_some (suc b) rest (set_block s b (text_block false (a ++ 0 ∷ []))) c (set_some s b (text_block false (a ++ 0 ∷ [])) c h)

texts_there : (b : ℕ) (args : List (List ℕ)) (s : Store) (j : ℕ) → j < length args → IsSome (with_texts b args s (b + j))
texts_there b [] s j h = absurd (omega (arith, h))
texts_there b (a ∷ rest) s zero h =
    let same : b ≡ b + zero = omega arith in
    subst (λ (c : ℕ). IsSome (with_texts b (a ∷ rest) s c)) same (texts_some (suc b) rest (set_block s b (text_block false (a ++ 0 ∷ []))) b (set_here s b (text_block false (a ++ 0 ∷ []))))
texts_there b (a ∷ rest) s (suc j) h =
    let same : suc b + j ≡ b + suc j = omega arith in
    subst (λ (c : ℕ). IsSome (with_texts b (a ∷ rest) s c)) same (texts_there (suc b) rest (set_block s b (text_block false (a ++ 0 ∷ []))) j (omega (arith, h)))

module _ (E : ℕ → Type 0) where
  abbrev Fit : Store → Type 0
  Fit s = (b : ℕ) (x : Block) → s b ≡ Some x → CellsFit E x.cells

  set_fit : (s : Store) (b : ℕ) (x : Block) → Fit s → CellsFit E x.cells → Fit (set_block s b x)
  set_fit s b x h g c y e = one (c == b) e
    where
      one : (t : Bool) → (if t then Some x else s c) ≡ Some y → CellsFit E y.cells
      one true f = let same : x ≡ y = cc in subst (λ (z : Block). CellsFit E z.cells) same g
      one false f = h c y f

  bytes_fit : (text : List ℕ) → CellsFit E (bytes_at text)
  bytes_fit [] q = tt
  bytes_fit (b ∷ rest) zero = tt
  bytes_fit (b ∷ rest) (suc q) = bytes_fit rest q

  texts_fit : (b : ℕ) (args : List (List ℕ)) (s : Store) → Fit s → Fit (with_texts b args s)
  texts_fit b [] s h = h
  texts_fit b (a ∷ rest) s h = texts_fit (suc b) rest (set_block s b (text_block false (a ++ 0 ∷ []))) (set_fit s b (text_block false (a ++ 0 ∷ [])) h (bytes_fit (a ++ 0 ∷ [])))

  words_fit : (first count : ℕ) → ((j : ℕ) → j < count → E (first + j)) → CellsFit E (argv_cells first count)
  words_fit first count h q = one (nat_lt (q / 2) count) refl
    where
      one : (t : Bool) → nat_lt (q / 2) count ≡ t → CellFits E (if t then Piece (q % 2) (first + q / 2) 0 else byte 0)
      one true e = h (q / 2) (grind arith)
      one false e = tt

  closed_fit : (s : Store) → IsClosed s → ((b : ℕ) → IsSome (s b) → E b) → Fit s
  closed_fit s h g b x e q = one (x.cells q) refl
    where
      one : (y : Cell) → x.cells q ≡ y → CellFits E y
      one (Piece i d o) f = g d (h b x q i d o e f)
      one (Bits known value) f = tt
      one Clouded f = tt

module _ (u : UnitTy) (args : List (List ℕ)) where
  first_some : (params : List ℕ) (b : ℕ) → IsSome (initial_store u b) → IsSome (first_store u params args b)
  first_some [] b h = h
  first_some (i ∷ params) b h = texts_some (suc (first_block u)) args (set_block (initial_store u) (first_block u) (argv_block (suc (first_block u)) (length args))) b (set_some (initial_store u) (first_block u) (argv_block (suc (first_block u)) (length args)) b h)

  words_there : IsSome (with_arguments u args (first_block u))
  words_there = texts_some (suc (first_block u)) args (set_block (initial_store u) (first_block u) (argv_block (suc (first_block u)) (length args))) (first_block u) (set_here (initial_store u) (first_block u) (argv_block (suc (first_block u)) (length args)))

  first_fit : (params : List ℕ) → IsClosed (initial_store u) → Fit (λ b. IsSome (first_store u params args b)) (first_store u params args)
  first_fit [] h = closed_fit (λ b. IsSome (initial_store u b)) (initial_store u) h (λ b i. i)
  first_fit (i ∷ params) h =
      let words : Store = set_block (initial_store u) (first_block u) (argv_block (suc (first_block u)) (length args)) in
      texts_fit (λ b. IsSome (with_arguments u args b)) (suc (first_block u)) args words
      (set_fit (λ b. IsSome (with_arguments u args b)) (initial_store u) (first_block u) (argv_block (suc (first_block u)) (length args)) (closed_fit (λ b. IsSome (with_arguments u args b)) (initial_store u) h (first_some (i ∷ params)))
      (words_fit (λ b. IsSome (with_arguments u args b)) (suc (first_block u)) (length args) (λ j l. texts_there (suc (first_block u)) args words j l)))

-- ---- the call of `main`

module _ (p : ProgramTy) (free : Bool) (args : List (List ℕ)) (input : List ℕ) (w : IsProgram p.unit p.main) (s : IsScopedProgram p.unit p.main) where
  main : MainGivesNumber p
  main = main_gives_number p s

  abbrev There : List ℕ → ℕ → Type 0
  There params b = IsSome (first_store p.unit params args b)

  values_stand : (params : List ℕ) → AllStand (There params) (main_values p.unit args params)
  values_stand [] = tt
  values_stand (i ∷ params) = (tt, (words_there p.unit args, tt))

  values_enough : (params : List ℕ) → TakesArguments p.unit params → Enough (There params) params (main_values p.unit args params)
  values_enough [] h = tt
  values_enough (i ∷ []) h = absurd h
  values_enough (i ∷ j ∷ []) h = tt
  values_enough (i ∷ j ∷ k ∷ params) h = absurd h

  first_ready : (f cost : ℕ) (params : List ℕ) → IsReady p.unit false [] (new_frame p.unit f cost (first_scene p.unit free params args input))
  first_ready f cost params = record { active = tt; objects = objects; literals = λ l m. first_some p.unit args params (literal_block p.unit l) (blocks.literals l m); funcs = λ n m. first_some p.unit args params n (blocks.funcs n m); rest = λ l. absurd (let e : false ≡ true = l in cc) }
    where
      blocks : HasBlocks p.unit
      blocks = (initial_store_fits p.unit).0

      objects : (i : ℕ) → IsSome (object_in p.unit i) → IsInScope p.unit [] i → HasBlock p.unit (new_frame p.unit f cost (first_scene p.unit free params args input)) i
      objects i m h = one (lives_in_frame (object_in p.unit i)) refl
        where
          one : (t : Bool) → lives_in_frame (object_in p.unit i) ≡ t → HasBlock p.unit (new_frame p.unit f cost (first_scene p.unit free params args input)) i
          one true e = absurd (no_truth (h e))
            where
              no_truth : IsTrue false → ⊥
              no_truth l = absurd (cc)
          one false e = (object_block p.unit i, ap (λ (t : Bool). if t then place_in None else Ok (Place (object_block p.unit i) 0)) e, first_some p.unit args params (object_block p.unit i) (blocks.objects i m e))

  first_fits : (f cost : ℕ) (params : List ℕ) → StoreFits (D p.unit (new_frame p.unit f cost (first_scene p.unit free params args input))) (first_store p.unit params args)
  first_fits f cost params = record { there = λ b i. i; all = first_fit p.unit args params ((initial_store_fits p.unit).1 s.pointers) }

  main_enters : (g : FuncTy) (body : Stmt) → slice_get p.unit.funcs p.main ≡ Some g → g.body ≡ Some body → TakesArguments p.unit g.params → IsWell p.unit (started p.unit free p.main args input g (Some body))
  main_enters g body i j t =
      let cost : ℕ = soft_cost p.unit (bytes_of_objects p.unit g.params) body + arguments_bytes args in
      let d : Scene = new_frame p.unit p.main cost (first_scene p.unit free g.params args input) in
      body_enters p w s p.main g body [] [] [] d (with_passed p.unit g [] (main_values p.unit args g.params) d) i j refl
      (passed_begin p g [] (main_values p.unit args g.params) d (automatic_params p.unit g.params (body_typed p w s p.main g body i j).params) (first_ready p.main cost g.params) (first_fits p.main cost g.params) (values_stand g.params) (values_enough g.params t))
      (λ e n. (tt, (refl, main g i)))

  main_starts : (g : FuncTy) (o : Option Stmt) → slice_get p.unit.funcs p.main ≡ Some g → g.body ≡ o → IsSome o → TakesArguments p.unit g.params → IsWell p.unit (started p.unit free p.main args input g o)
  main_starts g None i j h t = absurd (cc)
  main_starts g (Some body) i j h t = main_enters g body i j t

  main_found : (o : Option FuncTy) → slice_get p.unit.funcs p.main ≡ o → Starts p.unit o → IsWell p.unit (started_by p.unit free p.main args input o)
  main_found None i h = absurd h
  main_found (Some g) i h =
      let same : Some w.start ≡ Some g = sym w.main_is ∙ i in
      main_starts g g.body i refl (subst (λ (o : Option FuncTy). IsSome (body_of o)) same w.has_body) h.0

  start_well : IsWell p.unit (start_in free p args input)
  start_well = well_if p (objects_inside p.unit p.unit.objects) (started_by p.unit free p.main args input (slice_get p.unit.funcs p.main)) (Undefined (By OffsetOutside)) (main_found (slice_get p.unit.funcs p.main) refl s.start) tt

  steps_well : (n : ℕ) (x : State) → IsWell p.unit x → IsWell p.unit (steps p n x)
  steps_well zero x h = h
  steps_well (suc n) x h = steps_well n (step p x) (step_well p w s main (jumps_well p) x h)

  pub state_well : (n : ℕ) → IsWell p.unit (steps p n (start_in free p args input))
  state_well n = steps_well n (start_in free p args input) start_well

-- ---- the law

fit : (p : ProgramTy) (x : State) → IsWell p.unit x → IsFit x
fit p (Undefined (By action)) h = tt
fit p (Undefined Unfit) h = absurd h
fit p Deep h = tt
fit p (Ended out status turns) h = tt
fit p (Running work vs d) h = closed p h.scene d.store h.running.scene.store

pub programs_fit : ProgramsFit state_at IsFit
programs_fit p args input n w s = fit p (state_at p args input n) (state_well p false args input w s n)

pub free_programs_fit : ProgramsFit free_state_at IsFitAndFree
free_programs_fit p args input n w s = (fit p (free_state_at p args input n) (state_well p true args input w s n), λ e. free_is_never_deep p args input n (ap outcome_of e))
