-- A refusal whose file is told in another way has the same cause.
use Rattle.std.proofs.Common.{ℕ, List, Err, subst, sym}
use Rattle.c65_base.specs.declared.refusal.Refusal.{Refusal}
use Rattle.c65_base.specs.declared.refusal.Refusal.TheVariants as refusals
use Rattle.c65_ppfile.specs.Counts.{MissCause, Relocates}

of_any : (A B : Type 0) (folders : List (List ℕ)) (before now : ℕ) (e : Refusal) → MissCause {T = A} folders before now (Err e) → MissCause {T = B} folders before now (Err e)
of_any A B folders before now (refusals.Missing path) h = h
of_any A B folders before now _ h = h

pub relocated : (A B : Type 0) (folders : List (List ℕ)) (before now : ℕ) (e other : Refusal) → Relocates e other → MissCause {T = A} folders before now (Err e) → MissCause {T = B} folders before now (Err other)
relocated A B folders before now (refusals.At code place) (refusals.Source code' file line) same h = h
relocated A B folders before now (refusals.At code place) other same h = absurd same
relocated A B folders before now e other same h = subst (λ (r : Refusal). MissCause {T = B} folders before now (Err r)) (sym same) (of_any A B folders before now e h)
