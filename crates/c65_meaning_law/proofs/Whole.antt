-- A step of a whole program keeps what pending work finds.
use Rattle.std.proofs.Common.{◌≡◌, ℕ, true, false, List, [], ◌∷◌, Option, Some, None, refl}
use Rattle.std.specs.Prelude.{is_none, slice_get}
use Rattle.c65_csem.specs.Trees.{FuncTy}
use Rattle.c65_csem.specs.Units.{IsProgram}
use Rattle.c65_meaning.specs.Program.{ProgramTy}
use Rattle.c65_meaning.specs.Why.{By, Unfit}
use Rattle.c65_meaning.specs.Store.{Value}
use Rattle.c65_meaning.specs.Items.{Item, Invoke, Busy, End, Next, Check, EndSwitch, Jump, LeaveLoop, GoOn, Give, GiveNothing, Leave}
use Rattle.c65_meaning.specs.After.{Left, ending, up_to_break, up_to_continue}
use Rattle.c65_meaning.specs.State.{Scene, State, Undefined, Deep, Ended, Running}
use Rattle.c65_meaning.specs.Step.{perform, step}
use Rattle.c65_csem_names.specs.Programs.{IsScopedProgram}
use Rattle.c65_meaning_law.specs.Statements.{leaves}
use Rattle.c65_meaning_law.proofs.Stacks.{Kind, arithmetic, kind_given, AreSuited, Call, inside, breaking, continuing, D, Does, Takes, Out, IsScene}
use Rattle.c65_meaning_law.proofs.StatementSteps.{is_of_call, does_step}
use Rattle.c65_meaning_law.proofs.Calls.{IsWell, IsAt}
use Rattle.c65_meaning_law.proofs.Returns.{well_from, give_well, give_nothing_well, leave_well}
use Rattle.c65_meaning_law.proofs.LibraryCalls.{busy_well}
use Rattle.c65_meaning_law.proofs.Invoking.{invoke_well}

-- ---- in a call each `break` and `continue` has its loop or switch

ending_some : (objects : List ℕ) (o : Option Left) → is_none o ≡ false → is_none (ending objects o) ≡ false
ending_some objects None e = e
ending_some objects (Some r) e = refl

module _ (p : ProgramTy) (c : Scene) (call : Call) where
  break_some : (k : List Item) (ks : List Kind) → Out (inside call) p.unit c k breaking ks → is_none (up_to_break k) ≡ false
  break_some [] ks h = absurd h
  break_some (Next l ∷ k) ks h = refl
  break_some (Check l ∷ k) ks h = refl
  break_some (EndSwitch ∷ k) ks h = refl
  break_some (Leave ∷ k) ks h = absurd h
  break_some (End objects ∷ k) ks h = ending_some objects (up_to_break k) (break_some k ks h)
  break_some (_ ∷ k) ks h = break_some k ks h

  continue_some : (k : List Item) (ks : List Kind) → Out (inside call) p.unit c k continuing ks → is_none (up_to_continue k) ≡ false
  continue_some [] ks h = absurd h
  continue_some (Next l ∷ k) ks h = refl
  continue_some (Check l ∷ k) ks h = refl
  continue_some (Leave ∷ k) ks h = absurd h
  continue_some (End objects ∷ k) ks h = ending_some objects (up_to_continue k) (continue_some k ks h)
  continue_some (_ ∷ k) ks h = continue_some k ks h

-- ---- one step

-- a jump to a label keeps what pending work finds
abbrev pub JumpsWell : ProgramTy → Type 0
JumpsWell p = (c : Scene) (call : Call) → IsAt p.unit c call → (l n : ℕ) (k : List Item) (ks : List Kind) (vs : List Value) (d : Scene) → Takes (inside call) p.unit c (Jump l n ∷ k) ks → IsScene p.unit c d → AreSuited (D p.unit c) ks vs → IsWell p.unit (perform p (Jump l n) k vs d)

abbrev pub MainGivesNumber : ProgramTy → Type 0
MainGivesNumber p = (g : FuncTy) → slice_get p.unit.funcs p.main ≡ Some g → kind_given g.ty ≡ arithmetic true

module _ (p : ProgramTy) (w : IsProgram p.unit p.main) (s : IsScopedProgram p.unit p.main) (main : MainGivesNumber p) (jumps : JumpsWell p) where
  module _ (c : Scene) (call : Call) (at : IsAt p.unit c call) where
    in_call : (j : Item) (k : List Item) (ks : List Kind) (vs : List Value) (d : Scene) → leaves j k ≡ false → is_of_call j ≡ false → Does (inside call) p.unit c j k (Takes (inside call) p.unit c k) (Out (inside call) p.unit c k) ks → AreSuited (D p.unit c) ks vs → IsScene p.unit c d → IsWell p.unit (perform p j k vs d)
    in_call j k ks vs d f n t a i = let g = does_step (inside call) tt p c j k ks vs d f n t a i in well_from p c g.0 call (perform p j k vs d) at g.1 g.2

    performs_well : (j : Item) (k : List Item) (ks : List Kind) (vs : List Value) (d : Scene) → Takes (inside call) p.unit c (j ∷ k) ks → AreSuited (D p.unit c) ks vs → IsScene p.unit c d → IsWell p.unit (perform p j k vs d)
    performs_well (Invoke callee types) k ks vs d t a i = invoke_well p w s c call at callee types k ks vs d t i a
    performs_well (Busy left l args rest) k ks vs d t a i = busy_well p c call at left l args rest k ks vs d t i a
    performs_well (Jump l n) k ks vs d t a i = jumps c call at l n k ks vs d t i a
    performs_well Give k ks vs d t a i = give_well p c call at.waiting k ks vs d t i a
    performs_well GiveNothing k ks vs d t a i = give_nothing_well p c call at.waiting at.active k ks vs d t i a
    performs_well Leave k ks vs d t a i = leave_well p c call at.waiting at.active main k ks vs d t i a
    performs_well LeaveLoop k ks vs d t a i = in_call LeaveLoop k ks vs d (break_some p c call k ks t.1) refl t a i
    performs_well GoOn k ks vs d t a i = in_call GoOn k ks vs d (continue_some p c call k ks t.1) refl t a i
    performs_well j k ks vs d t a i = in_call j k ks vs d refl refl t a i

  pub step_well : (x : State) → IsWell p.unit x → IsWell p.unit (step p x)
  step_well (Undefined (By action)) h = tt
  step_well (Undefined Unfit) h = absurd h
  step_well Deep h = tt
  step_well (Ended out status turns) h = tt
  step_well (Running [] vs d) h = absurd h.running.takes
  step_well (Running (j ∷ k) vs d) h = performs_well h.scene h.call (record { active = h.active; waiting = h.waiting }) j k h.running.kinds vs d h.running.takes h.running.suited h.running.scene
