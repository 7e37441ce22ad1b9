-- A table of spellings refuses what its callers may refuse.
use Rattle.std.proofs.Common.{ℕ, List, sym, subst, Result, Ok, Err}
use Rattle.std.specs.Prelude.{IfErr}
use Rattle.c65_base.specs.declared.refusal.Refusal.{Refusal}
use Rattle.c65_base.specs.declared.refusal.Refusal.TheVariants as refusals
use Rattle.c65_base.specs.Names.{RefusesName}
use Rattle.c65_macro.specs.Refusals.{StopsExpansion, IsExceeded, LacksRoom}

stops : (e : Refusal) (ns : List (List ℕ)) (s : List ℕ) → RefusesName ns s e → StopsExpansion e
stops refusals.OutOfMemory ns s h = tt
stops (refusals.TooLarge limit value) ns s h = subst (λ l. IsExceeded l value) (sym h.0) h.1
stops _ ns s h = absurd h

lacks : (e : Refusal) (ns : List (List ℕ)) (s : List ℕ) → RefusesName ns s e → LacksRoom e
lacks refusals.OutOfMemory ns s h = tt
lacks (refusals.TooLarge limit value) ns s h = (h.0, h.1)
lacks _ ns s h = absurd h

pub all_stop : {A : Type 0} (r : Result A Refusal) (ns : List (List ℕ)) (s : List ℕ) → IfErr r (λ e. RefusesName ns s e) → IfErr r StopsExpansion
all_stop (Ok x) ns s h = tt
all_stop (Err e) ns s h = stops e ns s h

pub all_lack : {A : Type 0} (r : Result A Refusal) (ns : List (List ℕ)) (s : List ℕ) → IfErr r (λ e. RefusesName ns s e) → IfErr r LacksRoom
all_lack (Ok x) ns s h = tt
all_lack (Err e) ns s h = lacks e ns s h
