-- After a yes no state is deep.
use Rattle.std.proofs.Common.{◌≡◌, ℕ, zero, suc, Bool, true, false, List, Option, Some, None, slice_get, refl, sym, ap, subst, if◌then◌else◌}
use Rattle.std.specs.Prelude.{⊤, is_some}
use Rattle.c65_csem.specs.Trees.{Stmt, FuncTy}
use Rattle.c65_meaning.specs.Program.{ProgramTy}
use Rattle.c65_meaning.specs.declared.action.Action.TheVariants.{OffsetOutside}
use Rattle.c65_meaning.specs.Why.{By}
use Rattle.c65_meaning.specs.State.{State, Undefined, Deep, Ended, Running}
use Rattle.c65_meaning.specs.Step.{body_of, steps}
use Rattle.c65_meaning.specs.Start.{objects_inside, started, started_by, start}
use Rattle.c65_meaning.specs.Sem.{state_at}
use Rattle.c65_depth.specs.Checks.{given_by}
use Rattle.c65_depth.specs.Certificates.{body_at}
use Rattle.c65_depth_law_states.proofs.Runs.{the_law as fitting_is_never_deep}
use Rattle.c65_depth_law_fits.specs.Fits.{CheckedIsNeverDeep}
use Rattle.c65_depth_law_fits.proofs.Fitting.{checked_is_fitting}

-- without a body of `main` there is no run
abbrev IsUndefined : State → Type 0
IsUndefined (Undefined why) = ⊤
IsUndefined _ = ⊥

module _ (p : ProgramTy) where
  stays : (n : ℕ) (s : State) → IsUndefined s → IsUndefined (steps p n s)
  stays zero s h = h
  stays (suc n) (Undefined why) h = stays n (Undefined why) tt
  stays (suc n) Deep h = absurd h
  stays (suc n) (Ended out status turns) h = absurd h
  stays (suc n) (Running work vs c) h = absurd h

  module _ (args : List (List ℕ)) (input : List ℕ) where
    none_started : (o : Option FuncTy) → body_of o ≡ None → IsUndefined (started_by p.unit false p.main args input o)
    none_started None e = tt
    none_started (Some g) e = subst (λ (b : Option Stmt). IsUndefined (started p.unit false p.main args input g b)) (sym e) tt

    either_undefined : (t : Bool) (s : State) → IsUndefined s → IsUndefined (if t then s else Undefined (By OffsetOutside))
    either_undefined true s h = h
    either_undefined false s h = tt

    none_runs : body_at p p.main ≡ None → (n : ℕ) → IsUndefined (state_at p args input n)
    none_runs e n = stays n (start p args input) (either_undefined (objects_inside p.unit p.unit.objects) (started_by p.unit false p.main args input (slice_get p.unit.funcs p.main)) (none_started (slice_get p.unit.funcs p.main) e))

pub checked_is_never_deep : CheckedIsNeverDeep
checked_is_never_deep p rows room args input n said few deep = by_body (body_at p p.main) refl
  where
    by_body : (o : Option Stmt) → body_at p p.main ≡ o → ⊥
    by_body None e = subst IsUndefined deep (none_runs p args input e n)
    by_body (Some body) e = fitting_is_never_deep p (given_by rows) room args input n (checked_is_fitting p rows room (ap is_some e) said) few deep
