-- The first function of a program for which it is refused.
use Rattle.std.specs.Prelude.{◌≡◌, ℕ, ◌+◌, ◌<◌, ◌≤◌, ◌^◌, ◌==◌, ◌⊎◌, Bool, Some, IsSome, Ok, Err, List, slice_get}
use Rattle.c65_base.specs.declared.refusal.Size.TheVariants.{Frame}
use Rattle.c65_base.specs.Answers.{Fault, large}
use Rattle.c65_csem.specs.declared.items.Parts.{Parts}
use Rattle.c65_csem.specs.declared.items.TFunc.{TFunc}
use Rattle.c65_csem.specs.Trees.{FuncTy}
use Rattle.c65_csem.specs.Views.{func_of}
use Rattle.c65_genframe.specs.declared.modes.Modes.{Modes}
use Rattle.c65_genframe.specs.Frames.{Framed, frame_of}
use Rattle.c65_genstmt.specs.Functions.{drafted_of}
use Rattle.c65_genstmt.specs.Programs.{program_of}

-- it has a frame, and its labels have numbers of 32 bits
abbrev pub HasLines : Parts → Bool → Modes → FuncTy → Type 0
HasLines parts is_main modes g = (f : Framed) × (frame_of parts modes g ≡ Ok f) × ((drafted_of parts is_main g f).labels < 2 ^ 32)

-- it has a frame, but more labels, which is told as a frame of no size
pub record HasManyLabels (parts : Parts) (is_main : Bool) (modes : Modes) (g : FuncTy) (reason : Fault) : Type 0 where
  pub frame : Framed
  pub framed : frame_of parts modes g ≡ Ok frame
  pub many : 2 ^ 32 ≤ (drafted_of parts is_main g frame).labels
  pub told : reason ≡ large Frame 0

-- a function with a body is refused for this reason, and each one with a body before it is not; the first of them has the number n
pub record IsFirst (parts : Parts) (main : ℕ) (modes : Modes) (reason : Fault) (n : ℕ) (gs : List TFunc) : Type 0 where
  pub place : ℕ
  pub function : TFunc
  pub there : slice_get gs place ≡ Some function
  pub body : IsSome (func_of function).body
  pub refused : (frame_of parts modes (func_of function) ≡ Err reason) ⊎ HasManyLabels parts (n + place == main) modes (func_of function) reason
  pub before : (j : ℕ) (g : TFunc) → j < place → slice_get gs j ≡ Some g → IsSome (func_of g).body → HasLines parts (n + j == main) modes (func_of g)

-- a program is refused for the reason of the first function that is, and for no other
pub record RefusesAsTheFirst (parts : Parts) (main : ℕ) (names : List (List ℕ)) (modes : Modes) (reason : Fault) : Type 0 where
  pub found : program_of parts main names modes ≡ Err reason → IsFirst parts main modes reason 0 parts.funcs.items
  pub only : IsFirst parts main modes reason 0 parts.funcs.items → program_of parts main names modes ≡ Err reason

abbrev pub TheFirstLargeFrameIsRefused : Type 0
TheFirstLargeFrameIsRefused = (parts : Parts) (main : ℕ) (names : List (List ℕ)) (modes : Modes) (reason : Fault) → RefusesAsTheFirst parts main names modes reason

-- the reason is a number of bytes above 1,024
abbrev pub FramesAreRefusedAboveTheirLimit : Type 0
FramesAreRefusedAboveTheirLimit = (parts : Parts) (modes : Modes) (g : FuncTy) (reason : Fault) → frame_of parts modes g ≡ Err reason → (bytes : ℕ) × (reason ≡ large Frame bytes) × (1024 < bytes)
