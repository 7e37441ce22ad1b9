-- What reading files does to their counts of faults, and which refusals it has.
use Rattle.std.specs.Prelude.{◌≡◌, ◌≤◌, ◌⊎◌, ℕ, List, [], false, Option, None, Result, Ok, Err, IfErr, ⊤}
use Rattle.c65_base.specs.declared.refusal.Refusal.{Refusal}
use Rattle.c65_base.specs.declared.refusal.Refusal.TheVariants as refusals
use Rattle.c65_io.specs.Causes.{Rose}
use Rattle.c65_io.specs.Contents.{Contents}
use Rattle.c65_ppline.specs.Causes.{StopsReading}
use Rattle.c65_ppfile.specs.Headers.{built_in_of}
use Rattle.c65_ppfile.specs.Search.{is_rooted}

-- a read fault comes only where the count of failed reads rose, and the count rises with nothing else
abbrev pub FaultCause : {T : Type 0} → ℕ → ℕ → Result T Refusal → Type 0
FaultCause before now (Err refusals.ReadFault) = (before ≤ now) × Rose before now
FaultCause before now result' = now ≡ before

-- A header in angle brackets is sought in no folder where there is none, and is then missing without a look at a file.
abbrev pub LooksAtNoFile : List (List ℕ) → List ℕ → Type 0
LooksAtNoFile folders name = (folders ≡ []) × (is_rooted name ≡ false) × (built_in_of name ≡ None)

-- a file is missing only where the count of misses rose, with one exception; the count never falls
abbrev pub MissCause : {T : Type 0} → List (List ℕ) → ℕ → ℕ → Result T Refusal → Type 0
MissCause folders before now (Err (refusals.Missing path)) = (before ≤ now) × (Rose before now ⊎ LooksAtNoFile folders path)
MissCause folders before now result' = before ≤ now

-- the counts and the content before and after
pub record Outside : Type 0 where
  pub contents : Contents
  pub writes : ℕ
  pub faults : ℕ
  pub misses : ℕ

abbrev pub outside : Contents → ℕ → ℕ → ℕ → Outside
outside contents writes faults misses = record { contents = contents; writes = writes; faults = faults; misses = misses }

-- files as they were, and counts that rise with their cause alone
pub record Serves {T : Type 0} (folders : List (List ℕ)) (old new : Outside) (answer : Result T Refusal) : Type 0 where
  pub same : new.contents ≡ old.contents
  pub written : new.writes ≡ old.writes
  pub read : FaultCause old.faults new.faults answer
  pub missing : MissCause folders old.misses new.misses answer
  pub refused : IfErr answer StopsReading

-- where no file was found the count of misses rose, unless there was no path
abbrev pub MissedAll : {T : Type 0} → List (List ℕ) → ℕ → ℕ → Result (Option T) Refusal → Type 0
MissedAll paths before now (Ok None) = Rose before now ⊎ (paths ≡ [])
MissedAll paths before now result' = ⊤

-- only a fault's file is told in another way
abbrev pub Relocates : Refusal → Refusal → Type 0
Relocates (refusals.At code place) (refusals.Source code' file line) = (code' ≡ code) × (line ≡ place.line)
Relocates (refusals.At code place) other = ⊥
Relocates refusal other = other ≡ refusal
