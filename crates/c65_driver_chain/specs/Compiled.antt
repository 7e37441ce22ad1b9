-- What compiling does to the files, and which refusals it has.
use Rattle.std.specs.Prelude.{◌≡◌, ℕ, List, Result, IfErr}
use Rattle.c65_base.specs.declared.refusal.Refusal.{Refusal}
use Rattle.c65_io.specs.Contents.{Contents}
use Rattle.c65_ppfile.specs.Counts.{FaultCause, MissCause}
use Rattle.c65_driver_chain.specs.Refused.{StopsUnits}

-- the content and the counts before or after
pub record Outside : Type 0 where
  pub contents : Contents
  pub writes : ℕ
  pub faults : ℕ
  pub misses : ℕ

abbrev pub outside : Contents → ℕ → ℕ → ℕ → Outside
outside contents writes faults misses = record { contents = contents; writes = writes; faults = faults; misses = misses }

-- files as they were, and counts that rise with their cause alone
pub record Compiles {T : Type 0} (folders : List (List ℕ)) (old new : Outside) (answer : Result T Refusal) : Type 0 where
  pub same : new.contents ≡ old.contents
  pub written : new.writes ≡ old.writes
  pub read : FaultCause old.faults new.faults answer
  pub missing : MissCause folders old.misses new.misses answer
  pub refused : IfErr answer StopsUnits
