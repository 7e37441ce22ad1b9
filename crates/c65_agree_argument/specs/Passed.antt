-- Arguments that are there are those that the called function takes (C90 6.3.2.2, 6.7.1; docs/MACHINE.md, "Calls").
use Rattle.std.specs.Prelude.{◌≡◌, ℕ, ◌+◌, ◌≤◌, if◌then◌else◌, Bool, true, false, IsTrue, List, [], ◌∷◌, Some, slice_get}
use Rattle.c65_csem.specs.Trees.{UnitTy}
use Rattle.c65_meaning.specs.Store.{Value, size_in}
use Rattle.c65_code.specs.LineState.{State, sp_of, IsBytes}
use Rattle.c65_genframe.specs.declared.home.Home.TheVariants.{Bank, Soft}
use Rattle.c65_genframe.specs.declared.home.Arrival.{Arrival}
use Rattle.c65_genframe.specs.declared.home.Arrival.TheVariants.{Passed, Pushed, Kept}
use Rattle.c65_genframe.specs.declared.home.Moved.{Moved}
use Rattle.c65_genframe.specs.Frames.{Framed, home_of, is_kept, saved_bytes}
use Rattle.c65_genframe.specs.Registers.{registers}
use Rattle.c65_agree_store.specs.Stands.{Placing}
use Rattle.c65_agree_state.specs.World.{World, unit_in, Active}
use Rattle.c65_agree_leave.specs.Laws.{params_in}
use Rattle.c65_agree_registers.specs.Entries.{HasMoves}
use Rattle.c65_agree_enter.specs.Params.{bytes_of, shape_in}
use Rattle.c65_agree_enter.specs.Laws.{IsAtEntry}
use Rattle.c65_agree_call.specs.Calls.{IsPassedIn, HasCome}
use Rattle.c65_agree_argument.specs.Arguments.{Argument, is_last, waiting_bytes, AreThere}

-- the bytes of all arguments, and those of the one that stays in registers
abbrev pub all_bytes : List Argument → ℕ
all_bytes [] = 0
all_bytes (x ∷ xs) = x.bytes + all_bytes xs

abbrev pub held_bytes : Bool → List Argument → ℕ
held_bytes fast [] = 0
held_bytes fast (x ∷ xs) = (if is_last fast xs then x.bytes else 0) + held_bytes fast xs

-- how that one arrives, where the function has its parameter on the software stack
abbrev pub arrival_by : Bool → List Argument → Arrival
arrival_by fast [] = Passed
arrival_by fast (x ∷ xs) = if is_last fast xs then Pushed x.bytes else arrival_by fast xs

-- so it is, or the function has it in regbank
abbrev pub ArrivesAs : Bool → List Argument → Arrival → Type 0
ArrivesAs fast xs (Kept bank bytes) = IsTrue fast
ArrivesAs fast xs last = last ≡ arrival_by fast xs

abbrev pub values_of : List Argument → List Value
values_of [] = []
values_of (x ∷ xs) = x.value ∷ values_of xs

abbrev pub AreSmall : List Argument → Type 0
AreSmall [] = Unit {0}
AreSmall (x ∷ xs) = (1 ≤ x.bytes) × (x.bytes ≤ 4) × AreSmall xs

-- ---- the frame

-- The argument for a parameter comes to this offset above sp: the parameter has its home there, or moves from there to regbank.
pub data IsTakenAt (u : UnitTy) (f : Framed) (i offset : ℕ) : Type 0 where
  stays : home_of f i ≡ Some (Soft offset) → IsTakenAt u f i offset
  moves : (k : ℕ) (m : Moved) → slice_get f.moved k ≡ Some m → home_of f i ≡ Some (Bank m.bank) → m.from ≡ offset → bytes_of u i ≤ m.bytes → IsTakenAt u f i offset

-- it comes in registers, and the parameter has its home in regbank
pub record IsKeptFor (u : UnitTy) (f : Framed) (i : ℕ) : Type 0 where
  pub bank : ℕ
  pub bytes : ℕ
  pub last : f.last ≡ Kept bank bytes
  pub home : home_of f i ≡ Some (Bank bank)
  pub size : bytes_of u i ≤ bytes

abbrev pub IsTakenBy : Bool → UnitTy → Framed → ℕ → ℕ → Type 0
IsTakenBy true u f i offset = IsKeptFor u f i
IsTakenBy false u f i offset = IsTakenAt u f i offset

-- Each comes below the one before, in the bytes in which it is passed, down to this offset: the last one too, unless it is kept in registers.
abbrev pub AllTaken : Bool → UnitTy → Framed → ℕ → List ℕ → List Argument → Type 0
AllTaken kept u f at [] [] = Unit {0}
AllTaken kept u f at (i ∷ is) (x ∷ xs) = IsTakenBy (is_last kept xs) u f i (at + waiting_bytes kept xs) × (size_in (shape_in u i) ≤ x.bytes) × AllTaken kept u f at is xs
AllTaken kept u f at _ _ = ⊥

-- of the bytes that come in registers the entry pushes these
abbrev pub entering : Arrival → ℕ → ℕ
entering last bytes = if is_kept last then 0 else bytes

-- the call of a function in the state t has passed these arguments, and the function's frame takes them
pub record Takes (g : World) (a : Active) (fast : Bool) (xs : List Argument) (t : State) : Type 0 where
  pub moves : HasMoves a.frame
  pub none_raised : a.raised ≡ 0
  pub homes : AllTaken (is_kept a.frame.last) (unit_in g) a.frame (a.frame.soft + saved_bytes a.frame.bank) (params_in g a) xs
  pub arrives : ArrivesAs fast xs a.frame.last
  pub stacked : a.frame.stacked ≡ waiting_bytes (is_kept a.frame.last) xs
  pub base : a.base + (a.frame.soft + (saved_bytes a.frame.bank + entering a.frame.last (held_bytes fast xs))) ≡ sp_of t

-- At the first line of the function each argument lies where the entry takes its parameter from.
abbrev pub ArgumentsArePassed : Type 0
ArgumentsArePassed = (g : World) (a : Active) (fast : Bool) (xs : List Argument) (w : Placing) (t u : State)
    → AreSmall xs → Takes g a fast xs t → AreThere fast w t xs → IsBytes t → IsAtEntry a t u → IsPassedIn (registers (held_bytes fast xs)) t u
    → HasCome g a (values_of xs) w u
