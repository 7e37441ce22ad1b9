-- No state of a program is deep whose functions are covered.
use Rattle.std.proofs.Common.{◌≡◌, ℕ, zero, suc, ◌+◌, ◌≤◌, List, [], ◌∷◌, Option, Some, None, false, slice_get, refl, sym, ap, subst, arith}
use Rattle.c65_csem.specs.Trees.{Stmt, FuncTy}
use Rattle.c65_meaning.specs.Program.{ProgramTy}
use Rattle.c65_meaning.specs.declared.action.Action.TheVariants.{OffsetOutside}
use Rattle.c65_meaning.specs.Why.{By}
use Rattle.c65_meaning.specs.Items.{Leave, plan_stmt}
use Rattle.c65_meaning.specs.Costs.{bytes_of_objects, soft_cost, arguments_bytes}
use Rattle.c65_meaning.specs.State.{State, Undefined, Deep, Ended, Running}
use Rattle.c65_meaning.specs.Step.{body_of, params_of, new_frame, with_passed, step, steps}
use Rattle.c65_meaning.specs.Start.{objects_inside, first_scene, main_values, started, started_by, start}
use Rattle.c65_depth.specs.declared.numbers.Numbers.{Numbers}
use Rattle.c65_depth.specs.Certificates.{Fits, first, at_start, body_at}
use Rattle.c65_depth_law_states.specs.States.{FittingIsNeverDeep}
use Rattle.c65_depth_law_states.proofs.Marks.{Active, active, HasRoom, GoesOn, IsWell}
use Rattle.c65_depth_law_states.proofs.Plans.{stmt_works}
use Rattle.c65_depth_law_states.proofs.Scenes.{passed_in}
use Rattle.c65_depth_law_states.proofs.States.{covers, unless_deep_well, if_well}
use Rattle.c65_depth_law_states.proofs.Calls.{holds_body}
use Rattle.c65_depth_law_states.proofs.Steps.{perform_well}

cost_is : (c : ℕ) → c ≤ c
cost_is c = omega arith

main_soft : (own args room : ℕ) → own + room ≤ 1984 → args ≤ room → 0 + own + args ≤ 1984
main_soft own args room h i = omega (arith, h, i)

main_hard : (own : ℕ) → own ≤ 224 → 0 + own ≤ 224
main_hard own h = omega (arith, h)

module _ (p : ProgramTy) (numbers : ℕ → Option Numbers) (room : ℕ) (fits : Fits p numbers room) where
  abbrev Fine : State → Type 0
  Fine s = IsWell p numbers s

  -- ---- the call of `main`

  module _ (args : List (List ℕ)) (input : List ℕ) (few : arguments_bytes args ≤ room) where
    main_room : (g : FuncTy) (body : Stmt) → slice_get p.unit.funcs p.main ≡ Some g → body_at p p.main ≡ Some body → HasRoom p numbers (record { func = p.main; cost = soft_cost p.unit (bytes_of_objects p.unit g.params) body + arguments_bytes args }) []
    main_room g body is is_body =
        let passed : ℕ = bytes_of_objects p.unit (params_of (slice_get p.unit.funcs p.main)) in
        let same : bytes_of_objects p.unit g.params ≡ passed = sym (ap (λ o. bytes_of_objects p.unit (params_of o)) is) in
        record {
          reached = first;
          body = body;
          is_body = is_body;
          passed = passed;
          is_passed = at_start;
          own = fits.own;
          is_own = fits.is_own;
          besides = arguments_bytes args;
          cost = subst (λ n. soft_cost p.unit (bytes_of_objects p.unit g.params) body + arguments_bytes args ≤ soft_cost p.unit n body + arguments_bytes args) same (cost_is (soft_cost p.unit (bytes_of_objects p.unit g.params) body + arguments_bytes args));
          soft = main_soft fits.own.soft (arguments_bytes args) room fits.soft few;
          hard = main_hard fits.own.hard fits.hard;
        }

    started_well : (g : FuncTy) (o : Option Stmt) → slice_get p.unit.funcs p.main ≡ Some g → body_at p p.main ≡ o → Fine (started p.unit false p.main args input g o)
    started_well g None is at = tt
    started_well g (Some body) is at =
        let cost = soft_cost p.unit (bytes_of_objects p.unit g.params) body + arguments_bytes args in
        let new : Active = record { func = p.main; cost = cost } in
        let r : HasRoom p numbers new [] = main_room g body is at in
        let scene = new_frame p.unit p.main cost (first_scene p.unit false g.params args input) in
        unless_deep_well p numbers fits.covered (new ∷ []) (plan_stmt p.unit 0 body (Leave ∷ [])) [] (with_passed p.unit g [] (main_values p.unit args g.params) scene)
        (passed_in (new ∷ []) p.unit g [] (main_values p.unit args g.params) scene refl)
        ((r, tt), [], [], tt, stmt_works p p.main (covers p numbers fits.covered new [] r).no_pointer [] [] 0 body (Leave ∷ []) (holds_body p p.main body at) (refl, tt))

    started_by_well : (o : Option FuncTy) → slice_get p.unit.funcs p.main ≡ o → Fine (started_by p.unit false p.main args input o)
    started_by_well None is = tt
    started_by_well (Some g) is = started_well g g.body is (ap body_of is)

    start_well : Fine (start p args input)
    start_well = if_well p numbers fits.covered (objects_inside p.unit p.unit.objects) (started_by p.unit false p.main args input (slice_get p.unit.funcs p.main)) (Undefined (By OffsetOutside)) (started_by_well (slice_get p.unit.funcs p.main) refl) tt

  -- ---- each step

  step_well : (s : State) → Fine s → Fine (step p s)
  step_well (Undefined why) w = tt
  step_well Deep w = w
  step_well (Ended out status turns) w = tt
  step_well (Running [] vs c) w = tt
  step_well (Running (i ∷ k) vs c) w = performs (active c.frames) refl w
    where
      performs : (calls : List Active) → active c.frames ≡ calls → GoesOn p numbers (i ∷ k) vs calls → Fine (step p (Running (i ∷ k) vs c))
      performs [] e g = absurd g
      performs (x ∷ xs) e g = perform_well p numbers fits.covered x xs g.0 g.1 i k vs c g.2 e g.3 g.4

  steps_well : (n : ℕ) (s : State) → Fine s → Fine (steps p n s)
  steps_well zero s w = w
  steps_well (suc n) s w = steps_well n (step p s) (step_well s w)

pub the_law : FittingIsNeverDeep
the_law p numbers room args input n fits few e = subst (IsWell p numbers) e (steps_well p numbers room fits n (start p args input) (start_well p numbers room fits args input few))
