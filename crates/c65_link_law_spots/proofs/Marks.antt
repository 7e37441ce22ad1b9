-- Marks only come to more.
use Rattle.std.proofs.Common.{◌≡◌, ℕ, zero, suc, ◌<◌, ◌⊎◌, inl, inr, true, false, List, [], ◌∷◌, Some, length, slice_get, refl, ap, sym, ◌∙◌, subst}
use Rattle.std.proofs.lemmas.Bool.{cases_eq}
use Rattle.std.proofs.lemmas.List.{get_or-set_same, get_or-set_other, length-set}
use Rattle.std.proofs.lemmas.Option.{slice_get_within}
use Rattle.c65_code.specs.declared.routine.Routine.{Routine}
use Rattle.c65_code.specs.declared.routine.Routine.TheVariants as routines
use Rattle.c65_code.specs.declared.routine.TheConstants.Routine.{ALL}
use Rattle.c65_code.specs.Numbering.{number_of}
use Rattle.c65_code.proofs.RoutineNumbers.{routines_are_numbered}
use Rattle.c65_code.specs.declared.line.Line.{Line}
use Rattle.c65_code.specs.declared.line.Line.TheVariants.{Label, Do, Call}
use Rattle.c65_code.specs.declared.line.Callee.{Callee}
use Rattle.c65_code.specs.declared.line.Callee.TheVariants as callees
use Rattle.c65_link.specs.Runtime.{Marks, marked, is_marked, with_callee, with_call, with_calls}
use Rattle.c65_link_law_spots.specs.Laws.{CallsRoutine}
use Rattle.c65_link_law_spots.proofs.Sums.{none_there, same_there}

pub record More (a b : Marks) : Type 0 where
  pub kept : (r : Routine) → is_marked a r ≡ true → is_marked b r ≡ true
  pub size : length b ≡ length a

pub no_more : (a : Marks) → More a a
no_more a = record { kept = λ r h. h; size = refl }

pub more_on : (a b c : Marks) → More a b → More b c → More a c
more_on a b c f g = record { kept = λ r h. g.kept r (f.kept r h); size = g.size ∙ f.size }

pub numbered : (r : Routine) → number_of r < 123
numbered r = slice_get_within ALL (number_of r) r (routines_are_numbered r)

-- a routine is known by its number
pub same_number : (r q : Routine) → number_of r ≡ number_of q → r ≡ q
same_number r q e = same_there r q (sym (routines_are_numbered r) ∙ ap (slice_get ALL) e ∙ routines_are_numbered q)

pub mark_here : (a : Marks) (r : Routine) → length a ≡ 123 → is_marked (marked a r) r ≡ true
mark_here a r wide = get_or-set_same a (number_of r) true false (subst (λ (n : ℕ). number_of r < n) (sym wide) (numbered r))

pub marks_more : (a : Marks) (r : Routine) → length a ≡ 123 → More a (marked a r)
marks_more a r wide = record { kept = λ q h. kept q h (cases_eq (number_of q) (number_of r)); size = length-set a (number_of r) true }
  where
    kept : (q : Routine) → is_marked a q ≡ true → (number_of q ≡ number_of r) ⊎ (number_of q ≡ number_of r → ⊥) → is_marked (marked a r) q ≡ true
    kept q h (inl e) = subst (λ (x : Routine). is_marked (marked a r) x ≡ true) (same_number r q (sym e)) (mark_here a r wide)
    kept q h (inr other) = get_or-set_other a (number_of r) (number_of q) true false other ∙ h

pub callee_more : (a : Marks) (callee : Callee) → length a ≡ 123 → More a (with_callee a callee)
callee_more a (callees.Routine r) wide = marks_more a r wide
callee_more a (callees.Pointer reads gives) wide = marks_more a routines.CallPtr4 wide
callee_more a (callees.Function f reads gives) wide = no_more a

pub call_more : (a : Marks) (line : Line) → length a ≡ 123 → More a (with_call a line)
call_more a (Call callee) wide = callee_more a callee wide
call_more a (Label l) wide = no_more a
call_more a (Do op mode operand) wide = no_more a

pub calls_more : (lines : List Line) (a : Marks) → length a ≡ 123 → More a (with_calls a lines)
calls_more [] a wide = no_more a
calls_more (line ∷ lines) a wide =
    let first : More a (with_call a line) = call_more a line wide in
    more_on a (with_call a line) (with_calls (with_call a line) lines) first (calls_more lines (with_call a line) (first.size ∙ wide))

-- the routine that a line calls is marked by it
pub call_marks : (a : Marks) (line : Line) (r : Routine) → length a ≡ 123 → CallsRoutine line r → is_marked (with_call a line) r ≡ true
call_marks a (Call (callees.Routine q)) r wide calls = subst (λ (x : Routine). is_marked (marked a q) x ≡ true) calls (mark_here a q wide)
call_marks a (Call (callees.Pointer reads gives)) r wide calls = subst (λ (x : Routine). is_marked (marked a routines.CallPtr4) x ≡ true) calls (mark_here a routines.CallPtr4 wide)
call_marks a (Call (callees.Function f reads gives)) r wide calls = absurd calls
call_marks a (Label l) r wide calls = absurd calls
call_marks a (Do op mode operand) r wide calls = absurd calls

pub calls_mark : (lines : List Line) (a : Marks) (j : ℕ) (line : Line) (r : Routine) → length a ≡ 123 → slice_get lines j ≡ Some line → CallsRoutine line r → is_marked (with_calls a lines) r ≡ true
calls_mark [] a j line r wide here calls = none_there line here
calls_mark (l ∷ lines) a zero line r wide here calls =
    let wider : length (with_call a l) ≡ 123 = (call_more a l wide).size ∙ wide in
    (calls_more lines (with_call a l) wider).kept r (call_marks a l r wide (subst (λ (x : Line). CallsRoutine x r) (sym (same_there l line here)) calls))
calls_mark (l ∷ lines) a (suc j) line r wide here calls = calls_mark lines (with_call a l) j line r ((call_more a l wide).size ∙ wide) here calls
