-- A routine is sought by its name.
use Rattle.std.proofs.Common.{◌≡◌, ℕ, List, Option, Some, None, IfSome, refl, sym, ◌∙◌, subst}
use Rattle.c65_code.specs.declared.routine.Routine.{Routine}
use Rattle.c65_code.specs.Names.{name_of, routine_named}
use Rattle.c65_code.proofs.RoutineNames.{routine_named-named}

-- where no routine has a name, none is found
pub none_named : (name : List ℕ) → ((r : Routine) → name_of r ≡ name → None ≡ Some r) → None ≡ routine_named name
none_named name found = known (routine_named name) refl
  where
    known : (o : Option Routine) → routine_named name ≡ o → None ≡ routine_named name
    known None e = sym e
    known (Some r) e =
        let h : name_of r ≡ name = subst (λ (o : Option Routine). IfSome o (λ r. name_of r ≡ name)) e (routine_named-named name) in
        found r h ∙ sym e
