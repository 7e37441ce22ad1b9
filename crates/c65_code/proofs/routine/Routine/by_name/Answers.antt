use Rattle.std.proofs.Common.{◌≡◌, IfSome, subst, sym, ◌∙◌}
use Rattle.c65_code.specs.Names.{name_of}
use Rattle.c65_code.proofs.RoutineNames.{named_from, same_routine, routine_named-named, found_by_name}
use Rattle.c65_code.proofs.routine.Routine.by_name.Goals as goal

pub returns-in-Some-clause-named : goal.returns-in-Some-clause-named
returns-in-Some-clause-named c = named_from _ c.args.name.now c.in-Some.routine (sym c.among.ensures ∙ c.in-Some.is)

pub returns-in-Some-clause-found : goal.returns-in-Some-clause-found
returns-in-Some-clause-found c = λ r e. same_routine r c.in-Some.routine (named_from _ c.args.name.now c.in-Some.routine (sym c.among.ensures ∙ c.in-Some.is) ∙ sym e)

pub returns-in-None-clause-named : goal.returns-in-None-clause-named
returns-in-None-clause-named c = subst (λ o. IfSome o (λ r. name_of r ≡ c.args.name.now)) (sym c.among-in-None.ensures) (routine_named-named c.args.name.now)

pub returns-in-None-clause-found : goal.returns-in-None-clause-found
returns-in-None-clause-found c = λ r e. c.among-in-None.ensures ∙ found_by_name c.args.name.now r e
