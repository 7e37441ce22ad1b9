-- What holds of every run, and of the store.
use Rattle.std.specs.Prelude.{◌≡◌, ℕ, suc, ◌+◌, ◌^◌, ◌≤◌, Bool, false, List, ◌++◌, Ok, Option, Some, None, ⊤}
use Rattle.c65_ints.specs.declared.types.IntType.{IntType}
use Rattle.c65_ints.specs.Ranges.{wrap_of, is_signed_of, placed, residue}
use Rattle.c65_meaning.specs.Program.{ProgramTy}
use Rattle.c65_meaning.specs.Store.{Block, Store, Value, Whole, Null, Place, Opaque, Shape, Number, Field, Pointer, size_in, read, write}
use Rattle.c65_meaning.specs.State.{State, Scene, Undefined, Deep, Ended, Running}
use Rattle.c65_meaning.specs.Items.{Item}
use Rattle.c65_meaning.specs.Step.{steps}
use Rattle.c65_meaning.specs.Sem.{Outcome, Runs, Ends, HasNone, IsDeep, sem, state_at}

-- ---- runs

-- The state after n + m steps is m steps on from the one after n steps.
abbrev pub RunsGoOn : Type 0
RunsGoOn = (p : ProgramTy) (args : List (List ℕ)) (input : List ℕ) (n m : ℕ)
    → state_at p args input (n + m) ≡ steps p m (state_at p args input n)

-- an end, an undefined action and too deep a call
abbrev pub IsLast : State → Type 0
IsLast (Undefined why) = ⊤
IsLast Deep = ⊤
IsLast (Ended out status turns) = ⊤
IsLast (Running work values at) = ⊥

-- A last state stays.
abbrev pub LastStays : Type 0
LastStays = (p : ProgramTy) (s : State) (n : ℕ) → IsLast s → steps p n s ≡ s

-- later output begins with the earlier one, and turns only rise, by at most one a step
pub record IsLater (steps : ℕ) (out : List ℕ) (turns : ℕ) (later : List ℕ) (more : ℕ) : Type 0 where
  pub written : List ℕ
  pub begins : later ≡ out ++ written
  pub least : turns ≤ more
  pub most : more ≤ turns + steps

-- what a run shows some steps after it showed this
abbrev pub Shows : ℕ → List ℕ → ℕ → Outcome → Type 0
Shows n out turns (Runs later more) = IsLater n out turns later more
Shows n out turns (Ends later status more) = IsLater n out turns later more
Shows n out turns (HasNone why) = ⊤
Shows n out turns IsDeep = ⊤

abbrev pub Follows : ℕ → Outcome → Outcome → Type 0
Follows n (Runs out turns) later = Shows n out turns later
Follows n (Ends out status turns) later = later ≡ Ends out status turns
Follows n (HasNone why) later = later ≡ HasNone why
Follows n IsDeep later = later ≡ IsDeep

-- Output only grows, turns only rise, and an end, an undefined action and too deep a call stay.
abbrev pub OutputGrows : Type 0
OutputGrows = (p : ProgramTy) (args : List (List ℕ)) (input : List ℕ) (n m : ℕ)
    → Follows m (sem p args input n) (sem p args input (n + m))

-- ---- names of blocks

-- a block some time later: as large, sealed as it was, and ended if it had ended
pub record IsLaterBlock (x y : Block) : Type 0 where
  pub same_size : y.size ≡ x.size
  pub same_holds : y.holds ≡ x.holds
  pub same_seal : y.sealed ≡ x.sealed
  pub stays_ended : x.live ≡ false → y.live ≡ false

abbrev pub IsLaterIn : Option Block → Option Block → Type 0
IsLaterIn None None = ⊤
IsLaterIn (Some x) (Some y) = IsLaterBlock x y
IsLaterIn _ _ = ⊥

-- a number below the next new one names the same block from then on, or none
pub record KeepsNames (c d : Scene) : Type 0 where
  pub later : c.next ≤ d.next
  pub blocks : (b : ℕ) → suc b ≤ c.next → IsLaterIn (c.store b) (d.store b)

-- A number that has named a block never names another one, and a block that has ended stays so.
abbrev pub NamesStay : Type 0
NamesStay = (p : ProgramTy) (n : ℕ) (work later : List Item) (values others : List Value) (c d : Scene)
    → steps p n (Running work values c) ≡ Running later others d → KeepsNames c d

-- ---- the store

-- What an object of a shape holds after a value was stored: a number as the one of its type, or of a bit-field's bits, that is
-- congruent to it; null and places as they are; and a number that may not be used as such a number.
pub data Holds : Shape → Value → Value → Type 0 where
  number_held : (t : IntType) (z : _) → Holds (Number t) (Whole z) (Whole (wrap_of t z))
  opaque_number : (t : IntType) → Holds (Number t) Opaque Opaque
  null_held : (size : ℕ) → Holds (Pointer size) Null Null
  place_held : (size b o : ℕ) → Holds (Pointer size) (Place b o) (Place b o)
  opaque_pointer : (size : ℕ) → Holds (Pointer size) Opaque Opaque
  field_held : (t : IntType) (low width : ℕ) (z : _) → low + width ≤ 16 → Holds (Field t low width) (Whole z) (Whole (placed (is_signed_of t) (2 ^ width) (residue (2 ^ width) z)))
  opaque_field : (t : IntType) (low width : ℕ) → 1 ≤ width → Holds (Field t low width) Opaque Opaque

-- What is stored is read back.
abbrev pub StoredIsRead : Type 0
StoredIsRead = (first : Bool) (f : Shape) (s t : Store) (b o : ℕ) (v w : Value)
    → Holds f v w → write first f s b o v ≡ Ok t → read f t b o ≡ Ok w

-- the same in every cell but the n cells from o on, and in all else
pub record DiffersIn (o n : ℕ) (x y : Block) : Type 0 where
  pub same_size : y.size ≡ x.size
  pub same_holds : y.holds ≡ x.holds
  pub same_life : y.live ≡ x.live
  pub same_seal : y.sealed ≡ x.sealed
  pub same_before : (p : ℕ) → suc p ≤ o → y.cells p ≡ x.cells p
  pub same_behind : (p : ℕ) → o + n ≤ p → y.cells p ≡ x.cells p

abbrev pub MayDiffer : ℕ → ℕ → Option Block → Option Block → Type 0
MayDiffer o n (Some x) (Some y) = DiffersIn o n x y
MayDiffer o n _ _ = ⊥

-- A store changes the object's own cells and nothing else.
pub record ChangesOnly (s t : Store) (b o n : ℕ) : Type 0 where
  pub other_blocks : (c : ℕ) → (c ≡ b → ⊥) → t c ≡ s c
  pub own_block : MayDiffer o n (s b) (t b)

abbrev pub StoresStay : Type 0
StoresStay = (first : Bool) (f : Shape) (s t : Store) (b o : ℕ) (v : Value)
    → write first f s b o v ≡ Ok t → ChangesOnly s t b o (size_in f)
