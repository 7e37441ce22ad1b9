-- One turn of the computer: a row, or the hook at pc, over devices that may tell nothing.
use Rattle.std.specs.Prelude.{◌≡◌, ℕ, ◌<◌, ◌≤◌, Bool, true, false, ◌&&◌, List, [], ◌++◌, length, take, Option, None, Result, Ok, Err, ⊤}
use Rattle.c65_io.specs.Causes.{Rose}
use Rattle.c65_io.specs.Told.{append_told, prepend_told, IsAtEnd}
use Rattle.c65_mach.specs.State.{State}
use Rattle.c65_mach.specs.Step.{row_at}
use Rattle.c65_mach.specs.Hooks.{ax, descriptor_of, bytes_to_write}
use Rattle.c65_mach.specs.Run.{Setting, Moment, Running, turn, is_hook, next_cycles}
use Rattle.c65_sim.specs.declared.stop.Stop.{Stop}
use Rattle.c65_sim.specs.declared.stop.Stop.TheVariants.{Exit, Limit, HardStack, Illegal, ReadFault, WriteFault}
use Rattle.c65_sim.specs.View.{ComputerView}
use Rattle.c65_sim.specs.Budgets.{is_too_deep}

-- what may be behind the input that was taken: nothing, once the input has ended
abbrev pub IsRest : Bool → List ℕ → Type 0
IsRest true rest = rest ≡ []
IsRest false rest = ⊤

-- an input that is known to have ended tells no more bytes
abbrev pub EndIsTold : Bool → Option (List ℕ) → Type 0
EndIsTold true left = IsAtEnd left
EndIsTold false left = ⊤

abbrev pub moment : State → List ℕ → List ℕ → Moment
moment m input output = record { machine = m; input = input; output = output }

-- A turn from one machine to another that took these bytes of the input and wrote these, whatever the input has behind them.
-- The flags say whether the input is known to have ended.
pub record TurnsBy (taken bytes : List ℕ) (setting : Setting) (m m' : State) (is_at_end is_at_end' : Bool) (left left' written written' : Option (List ℕ)) (cycles : ℕ) : Type 0 where
  pub goes : (rest earlier : List ℕ) → IsRest is_at_end' rest
      → turn setting (moment m (taken ++ rest) earlier) ≡ Running (moment m' rest (earlier ++ bytes))
  pub before : (rest : List ℕ) → IsRest is_at_end' rest → IsRest is_at_end (taken ++ rest)
  pub ended : EndIsTold is_at_end' left'
  pub input : left ≡ prepend_told taken left'
  pub output : written' ≡ append_told written bytes
  pub costs : cycles ≡ next_cycles m

-- `read` of descriptor 0, for which some bytes were taken before the source failed
pub record ReadFails (m : State) (sp : ℕ) (is_at_end : Bool) (left left' : Option (List ℕ)) : Type 0 where
  pub taken : List ℕ
  pub at_hook : m.pc ≡ 0xFFF6
  pub from : descriptor_of sp m ≡ 0
  pub before : is_at_end ≡ false
  pub some : length taken < ax m
  pub input : left ≡ prepend_told taken left'

-- `write` to descriptor 1, of whose bytes some were written before the sink failed
pub record WriteFails (m : State) (sp : ℕ) (written written' : Option (List ℕ)) : Type 0 where
  pub count : ℕ
  pub at_hook : m.pc ≡ 0xFFF7
  pub to : descriptor_of sp m ≡ 1
  pub output : written' ≡ append_told written (take count (bytes_to_write sp m))

-- why a turn was not done, at a machine that it leaves as it is
abbrev pub Stops : Bool → State → ℕ → Bool → Option (List ℕ) → Option (List ℕ) → Option (List ℕ) → Option (List ℕ) → Stop → Type 0
Stops guard m sp is_at_end left left' written written' (Exit status) =
    ((guard && is_too_deep m) ≡ false) × (m.pc ≡ 0xFFF9) × (status ≡ m.regs.a) × (left' ≡ left) × (written' ≡ written)
Stops guard m sp is_at_end left left' written written' HardStack =
    (guard ≡ true) × (is_too_deep m ≡ true) × (left' ≡ left) × (written' ≡ written)
Stops guard m sp is_at_end left left' written written' Illegal =
    ((guard && is_too_deep m) ≡ false) × (is_hook m.pc ≡ false) × (row_at m ≡ None) × (left' ≡ left) × (written' ≡ written)
Stops guard m sp is_at_end left left' written written' ReadFault =
    ((guard && is_too_deep m) ≡ false) × ReadFails m sp is_at_end left left' × (written' ≡ written)
Stops guard m sp is_at_end left left' written written' WriteFault =
    ((guard && is_too_deep m) ≡ false) × WriteFails m sp written written' × (left' ≡ left)
Stops guard m sp is_at_end left left' written written' Limit = ⊥

-- one turn, with the guard on or off
abbrev pub Turns : Bool → ComputerView → ComputerView → Option (List ℕ) → Option (List ℕ) → Option (List ℕ) → Option (List ℕ) → Result ℕ Stop → Type 0
Turns guard old new left left' written written' (Ok cycles) =
    ((guard && is_too_deep old.machine) ≡ false) × (new.setting ≡ old.setting)
    × ((taken : List ℕ) × ((bytes : List ℕ) × TurnsBy taken bytes old.setting old.machine new.machine old.is_at_end new.is_at_end left left' written written' cycles))
Turns guard old new left left' written written' (Err stop) =
    (new ≡ old) × Stops guard old.machine old.setting.sp old.is_at_end left left' written written' stop

-- the count of a source's faults: it rose where the answer is a read fault, and stands still elsewhere
abbrev pub ReadStops : ℕ → ℕ → Result ℕ Stop → Type 0
ReadStops before now (Err ReadFault) = (before ≤ now) × Rose before now
ReadStops before now result = now ≡ before

-- the count of a sink's faults, in the same way
abbrev pub WriteStops : ℕ → ℕ → Result ℕ Stop → Type 0
WriteStops before now (Err WriteFault) = (before ≤ now) × Rose before now
WriteStops before now result = now ≡ before

-- The failed read was the last one: before it nothing had failed, and what was left then is left now.
pub record StopsAtFault {S : Type 0} (left : S → Option (List ℕ)) (faults : S → ℕ) (old new : S) : Type 0 where
  pub last : S
  pub same : left new ≡ left last
  pub first : faults last ≡ faults old

-- where the turn ends with a read fault
abbrev pub IfReadStops : Result ℕ Stop → Type 0 → Type 0
IfReadStops (Err ReadFault) fact = fact
IfReadStops result fact = ⊤

-- Bytes were read until there were as many or the input ended. Where the source failed, some had been taken.
abbrev pub Fills : {E : Type 0} → Option (List ℕ) → Option (List ℕ) → List ℕ → Result ℕ E → Type 0
Fills left left' into (Ok count) =
    (count ≤ length into) × (left ≡ prepend_told (take count into) left') × (count < length into → IsAtEnd left')
Fills left left' into (Err e) = (taken : List ℕ) × ((length taken < length into) × (left ≡ prepend_told taken left'))

-- The same, but nothing is read once the input has ended, and that it has ended is known from then on.
pub record Takes (is_at_end is_at_end' : Bool) (left left' : Option (List ℕ)) (into : List ℕ) (count : ℕ) : Type 0 where
  pub fits : count ≤ length into
  pub input : left ≡ prepend_told (take count into) left'
  pub short : count < length into → is_at_end' ≡ true
  pub ended : EndIsTold is_at_end' left'
  pub before : is_at_end ≡ true → (count ≡ 0) × (is_at_end' ≡ true)

abbrev pub TakesUpTo : {E : Type 0} → Bool → Bool → Option (List ℕ) → Option (List ℕ) → List ℕ → Result ℕ E → Type 0
TakesUpTo is_at_end is_at_end' left left' into (Ok count) = Takes is_at_end is_at_end' left left' into count
TakesUpTo is_at_end is_at_end' left left' into (Err e) =
    (is_at_end ≡ false) × (is_at_end' ≡ false) × ((taken : List ℕ) × ((length taken < length into) × (left ≡ prepend_told taken left')))

-- the hook `read`
abbrev pub Reads : {T E : Type 0} → ℕ → State → State → Bool → Bool → Option (List ℕ) → Option (List ℕ) → Result T E → Type 0
Reads sp m m' is_at_end is_at_end' left left' (Ok _) =
    (taken : List ℕ) × ((args : List (List ℕ)) (written : Option (List ℕ)) → TurnsBy taken [] (record { sp = sp; args = args }) m m' is_at_end is_at_end' left left' written written 6)
Reads sp m m' is_at_end is_at_end' left left' (Err e) =
    (m' ≡ m) × (is_at_end' ≡ is_at_end) × ReadFails m sp is_at_end left left'

-- the hook `write`
abbrev pub Writes : {T E : Type 0} → ℕ → State → State → Option (List ℕ) → Option (List ℕ) → Result T E → Type 0
Writes sp m m' written written' (Ok _) =
    (bytes : List ℕ) × ((args : List (List ℕ)) (is_at_end : Bool) (left : Option (List ℕ)) → EndIsTold is_at_end left
    → TurnsBy [] bytes (record { sp = sp; args = args }) m m' is_at_end is_at_end left left written written' 6)
Writes sp m m' written written' (Err e) = (m' ≡ m) × WriteFails m sp written written'
