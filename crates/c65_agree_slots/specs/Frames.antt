-- The frame of a function brings parameters to regbank as its entry does, from where the arguments of a call come (docs/MACHINE.md, "Calls").
use Rattle.std.specs.Prelude.{◌≡◌, ℕ, ◌+◌, ◌-◌, Bool, true, List, [], ◌∷◌, Ok, Some, length, slice_get}
use Rattle.c65_csem.specs.declared.items.Parts.{Parts}
use Rattle.c65_csem.specs.Statements.{IsDistinct}
use Rattle.c65_csem.specs.Trees.{FuncTy}
use Rattle.c65_csem.specs.Views.{unit_of}
use Rattle.c65_genframe.specs.declared.modes.Modes.{Modes}
use Rattle.c65_genframe.specs.declared.home.Arrival.TheVariants.{Kept}
use Rattle.c65_genframe.specs.declared.home.Home.TheVariants.{Bank}
use Rattle.c65_genframe.specs.Sizes.{object_in, bank_bytes}
use Rattle.c65_genframe.specs.Frames.{Framed, has_prototype, frame_of, home_of, is_kept, saved_bytes, without_last}
use Rattle.c65_agree_homes.specs.Slots.{all_slots}
use Rattle.c65_agree_argument.specs.Passed.{IsTakenAt}
use Rattle.c65_agree_registers.specs.Entries.{HasMoves}

-- where parameters are distinct, no two of them come to one byte of regbank, and each comes from what the call passed
abbrev pub FramesHaveMoves : Type 0
FramesHaveMoves = (parts : Parts) (modes : Modes) (g : FuncTy) (f : Framed) → frame_of parts modes g ≡ Ok f → IsDistinct g.params → HasMoves f

-- each argument comes below the one before, in the bytes in which its parameter is passed, down to this offset
abbrev pub AreTakenFrom : Parts → Bool → Framed → ℕ → List ℕ → Type 0
AreTakenFrom parts prototype f at [] = Unit {0}
AreTakenFrom parts prototype f at (i ∷ is) = IsTakenAt (unit_of parts) f i (at + all_slots parts prototype is) × AreTakenFrom parts prototype f at is

-- the parameter that stays in registers has all its bytes in regbank
pub record IsKeptLast (parts : Parts) (f : Framed) (params : List ℕ) (bank bytes : ℕ) : Type 0 where
  pub object : ℕ
  pub is_last : slice_get params (length params - 1) ≡ Some object
  pub home : home_of f object ≡ Some (Bank bank)
  pub size : bytes ≡ bank_bytes true (object_in parts object)

-- So are the parameters taken, but for the last one where it stays in registers.
abbrev pub FramesTakeParameters : Type 0
FramesTakeParameters = (parts : Parts) (modes : Modes) (g : FuncTy) (f : Framed) → frame_of parts modes g ≡ Ok f → IsDistinct g.params
    → AreTakenFrom parts (has_prototype g.ty) f (f.soft + saved_bytes f.bank) (without_last (is_kept f.last) g.params)
    × (f.stacked ≡ all_slots parts (has_prototype g.ty) (without_last (is_kept f.last) g.params))
    × ((bank bytes : ℕ) → f.last ≡ Kept bank bytes → IsKeptLast parts f g.params bank bytes)
