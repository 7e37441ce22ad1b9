-- What a call of `run` does: rows of the run's definition, up to its budget.
use Rattle.std.specs.Prelude.{◌≡◌, ℕ, ◌+◌, ◌-◌, ◌^◌, ◌<◌, ◌≤◌, ◌⊎◌, Bool, true, List, ◌++◌, take, drop, min, Option, Some, None, Result, Ok, Err, ⊤}
use Rattle.c65_base.specs.declared.refusal.Refusal.{Refusal}
use Rattle.c65_base.specs.declared.refusal.Refusal.TheVariants.{OutOfMemory, ReadFault, WriteFault, TooLarge, HardStack, Limit, Illegal}
use Rattle.c65_base.specs.declared.refusal.Size.TheVariants.{Arguments}
use Rattle.c65_io.specs.Causes.{Rose}
use Rattle.c65_io.specs.Told.{append_told}
use Rattle.c65_mach.specs.declared.image.Image.{Image}
use Rattle.c65_mach.specs.Hooks.{ax, descriptor_of, bytes_to_write}
use Rattle.c65_mach.specs.Run.{Setting, Moment, Progress, Running, Ended, Stopped, turn, onward}
use Rattle.c65_sim.specs.declared.run.Budget.{Budget}
use Rattle.c65_sim.specs.declared.stop.Stop.{Stop}
use Rattle.c65_sim.specs.declared.stop.Stop.TheVariants.{Exit, Limit as AtLimit, HardStack as AtGuard, Illegal as AtIllegal, ReadFault as AtRead, WriteFault as AtWrite}
use Rattle.c65_sim.specs.View.{RunView, ComputerView, started, arguments_size}
use Rattle.c65_sim.specs.Budgets.{number_of, spent_after, is_too_deep, start_of, IsFree}
use Rattle.c65_sim.specs.Differing.{either, differs_in}

-- these bytes, where bytes are told
abbrev pub retold : Option (List ℕ) → List ℕ → Option (List ℕ)
retold None bytes = None
retold (Some told) bytes = Some bytes

-- the input and the output stand as at this moment of the run
pub record StandAt (now : Moment) (left left' written written' : Option (List ℕ)) : Type 0 where
  pub input : left' ≡ retold left now.input
  pub output : written' ≡ append_told written now.output

-- The source failed in the hook `read` of descriptor 0. Some bytes more were taken, not above the count that was asked for.
pub record FailsToRead (setting : Setting) (now : Moment) (left left' written written' : Option (List ℕ)) : Type 0 where
  pub taken : ℕ
  pub at_hook : now.machine.pc ≡ 0xFFF6
  pub from : descriptor_of setting.sp now.machine ≡ 0
  pub some : taken < ax now.machine
  pub input : left' ≡ retold left (drop taken now.input)
  pub output : written' ≡ append_told written now.output

-- The sink failed in the hook `write` to descriptor 1. Some of its bytes were written, from the front.
pub record FailsToWrite (setting : Setting) (now : Moment) (left left' written written' : Option (List ℕ)) : Type 0 where
  pub count : ℕ
  pub at_hook : now.machine.pc ≡ 0xFFF7
  pub to : descriptor_of setting.sp now.machine ≡ 1
  pub input : left' ≡ retold left now.input
  pub output : written' ≡ append_told written (now.output ++ take count (bytes_to_write setting.sp now.machine))

-- The guard refuses the next row.
pub record IsRefused (setting : Setting) (budget : Budget) (guard : Bool) (count rows : ℕ) (start : Progress) (now : Moment) : Type 0 where
  pub budgeted : spent_after setting budget rows start < number_of budget
  pub counted : count + rows < 2 ^ 64 - 1
  pub guarded : guard ≡ true
  pub deep : is_too_deep now.machine ≡ true

-- How a call ends after so many rows, at this moment. No other refusal comes.
abbrev pub EndsBy : Setting → Budget → Bool → ℕ → ℕ → Progress → Moment → Option (List ℕ) → Option (List ℕ) → Option (List ℕ) → Option (List ℕ) → Result ℕ Refusal → Type 0
EndsBy setting budget guard count rows start now left left' written written' (Ok status) =
    IsFree setting budget guard count rows start
    × (turn setting now ≡ Ended now status)
    × StandAt now left left' written written'
EndsBy setting budget guard count rows start now left left' written written' (Err (Limit n)) =
    (n ≡ number_of budget)
    × ((number_of budget ≤ spent_after setting budget rows start) ⊎ (count + rows ≡ 2 ^ 64 - 1))
    × StandAt now left left' written written'
EndsBy setting budget guard count rows start now left left' written written' (Err (HardStack pc)) =
    IsRefused setting budget guard count rows start now
    × (pc ≡ now.machine.pc)
    × StandAt now left left' written written'
EndsBy setting budget guard count rows start now left left' written written' (Err (Illegal pc)) =
    IsFree setting budget guard count rows start
    × (turn setting now ≡ Stopped now)
    × (pc ≡ now.machine.pc)
    × StandAt now left left' written written'
EndsBy setting budget guard count rows start now left left' written written' (Err ReadFault) =
    IsFree setting budget guard count rows start × FailsToRead setting now left left' written written'
EndsBy setting budget guard count rows start now left left' written written' (Err WriteFault) =
    IsFree setting budget guard count rows start × FailsToWrite setting now left left' written written'
EndsBy setting budget guard count rows start now left left' written written' result = ⊥

-- the exit is a row too
abbrev pub count_after : ℕ → Result ℕ Refusal → ℕ
count_after rows (Ok status) = rows + 1
count_after rows (Err refusal) = rows

-- a run that answers its status has ended
abbrev pub ended_by : Result ℕ Refusal → Option ℕ
ended_by (Ok status) = Some status
ended_by (Err refusal) = None

-- what a call answers
abbrev pub answer_of : Budget → ℕ → Stop → Result ℕ Refusal
answer_of budget pc (Exit status) = Ok status
answer_of budget pc AtLimit = Err (Limit (number_of budget))
answer_of budget pc AtGuard = Err (HardStack pc)
answer_of budget pc AtIllegal = Err (Illegal pc)
answer_of budget pc AtRead = Err ReadFault
answer_of budget pc AtWrite = Err WriteFault

-- The computer went on by so many rows, over such an input, and stopped with this answer; whether a jump among them differed
-- is told.
pub record Goes (budget : Budget) (guard : Bool) (count : ℕ) (old new : ComputerView) (left left' written written' : Option (List ℕ)) (rows : ℕ) (differed : Bool) (result : Result ℕ Refusal) : Type 0 where
  pub given : List ℕ
  pub now : Moment
  pub told : left ≡ retold left given
  pub came : onward old.setting rows (start_of old.machine given) ≡ Running now
  pub earlier : (k : ℕ) → k < rows → IsFree old.setting budget guard count k (start_of old.machine given)
  pub differs : differed ≡ differs_in old.setting rows (start_of old.machine given)
  pub machine : new.machine ≡ now.machine
  pub setting : new.setting ≡ old.setting
  pub ends : EndsBy old.setting budget guard count rows (start_of old.machine given) now left left' written written' result

-- A run that goes on: over an input that begins as the source tells it, so many rows were done, each of which was free,
-- and then the call ended. A source that tells nothing gave what it gave: there is such an input.
pub record GoesOn (budget : Budget) (guard : Bool) (old new : RunView) (left left' written written' : Option (List ℕ)) (result : Result ℕ Refusal) : Type 0 where
  pub given : List ℕ
  pub rows : ℕ
  pub now : Moment
  pub told : left ≡ retold left given
  pub came : onward old.setting rows (start_of old.machine given) ≡ Running now
  pub earlier : (k : ℕ) → k < rows → IsFree old.setting budget guard old.count k (start_of old.machine given)
  pub after : new ≡ record { setting = old.setting; machine = now.machine; count = old.count + count_after rows result; differed = either old.differed (differs_in old.setting rows (start_of old.machine given)); status = ended_by result }
  pub ends : EndsBy old.setting budget guard old.count rows (start_of old.machine given) now left left' written written' result

-- on an ended run the status is answered again, and nothing is touched
abbrev pub RunsFrom : Option ℕ → Budget → Bool → RunView → RunView → Option (List ℕ) → Option (List ℕ) → Option (List ℕ) → Option (List ℕ) → Result ℕ Refusal → Type 0
RunsFrom None budget guard old new left left' written written' result = GoesOn budget guard old new left left' written written' result
RunsFrom (Some status) budget guard old new left left' written written' result =
    (result ≡ Ok status) × (new ≡ old) × (left' ≡ left) × (written' ≡ written)

abbrev pub Runs : Budget → Bool → RunView → RunView → Option (List ℕ) → Option (List ℕ) → Option (List ℕ) → Option (List ℕ) → Result ℕ Refusal → Type 0
Runs budget guard old new left left' written written' result = RunsFrom old.status budget guard old new left left' written written' result

-- the count of a source's faults: it rose where the answer is a read fault, and stands still elsewhere
abbrev pub ReadCause : {T : Type 0} → ℕ → ℕ → Result T Refusal → Type 0
ReadCause before now (Err ReadFault) = (before ≤ now) × Rose before now
ReadCause before now result = now ≡ before

-- where the call ends with a read fault
abbrev pub IfReadFails : {T : Type 0} → Result T Refusal → Type 0 → Type 0
IfReadFails (Err ReadFault) fact = fact
IfReadFails result fact = ⊤

-- the count of a sink's faults, in the same way
abbrev pub WriteCause : {T : Type 0} → ℕ → ℕ → Result T Refusal → Type 0
WriteCause before now (Err WriteFault) = (before ≤ now) × Rose before now
WriteCause before now result = now ≡ before

-- Arguments whose size is above 1,024 are refused, with the size, up to the greatest u64. Else the run stands before its
-- first row, or there was no memory.
abbrev pub Starts : Image → List (List ℕ) → Result RunView Refusal → Type 0
Starts image args (Ok run) = (arguments_size args ≤ 1024) × (run ≡ started image args)
Starts image args (Err OutOfMemory) = arguments_size args ≤ 1024
Starts image args (Err refusal) = (1024 < arguments_size args) × (refusal ≡ TooLarge Arguments (min (arguments_size args) (2 ^ 64 - 1)))
