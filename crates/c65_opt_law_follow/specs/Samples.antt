-- Windows made by hand, which tell what a way through lines is and what justifies new ones.
use Rattle.std.specs.Prelude.{◌≡◌, ℕ, ◌+◌, ◌<◌, true, false, List, [], ◌∷◌, Option, Some, None}
use Rattle.c65_mach.specs.declared.rows.Op.TheVariants.{Bne, Ldx}
use Rattle.c65_mach.specs.declared.rows.Mode.TheVariants.{Immediate, Relative}
use Rattle.c65_code.specs.declared.line.Line.{Line}
use Rattle.c65_code.specs.declared.line.Line.TheVariants.{Do}
use Rattle.c65_code.specs.declared.line.Operand.TheVariants.{Byte, To}
use Rattle.c65_code.specs.declared.parts.Part.TheVariants.{X}
use Rattle.c65_code.specs.declared.parts.RegSet.{RegSet}
use Rattle.c65_code.specs.LineState.{State, IsBytes}
use Rattle.c65_code.specs.Parts.{no_parts, set_of}
use Rattle.c65_code.specs.Placement.{Placement, Setting}
use Rattle.c65_code.specs.Steady.{IsCalm}
use Rattle.c65_opt_law_follow.specs.Windows.{WayOut, Behind, ToLabel, Way, Justified}

-- LDX #1
abbrev pub load : Line
load = Do Ldx Immediate (Byte 1)

-- LDX #1, BNE L7
abbrev pub loaded_branch : List Line
loaded_branch = load ∷ Do Bne Relative (To 7) ∷ []

abbrev pub loaded : State → State
loaded t = record t { regs = record t.regs { x = 1; n = false; z = false } }

-- Behind the load Z is clear: the one way through goes to the label, and weighs 1 and 2.
abbrev pub BranchIsTaken : Type 0
BranchIsTaken = (place : Placement) (t : State) → IsBytes t → Way place loaded_branch t (ToLabel 7) (loaded t) 3

abbrev pub NothingPasses : Type 0
NothingPasses = (place : Placement) (t u : State) (w : ℕ) → Way place loaded_branch t Behind u w → ⊥

-- where nothing is live behind it the load may go, whatever is known
abbrev pub DeadLoadGoes : Type 0
DeadLoadGoes = (s : Setting) (to : WayOut → ℕ) → Justified s to (λ exit. no_parts) (λ t. Unit {0}) (load ∷ []) []

-- where X is live behind it, and is not 1 in some state, it may not
abbrev pub LiveLoadStays : Type 0
LiveLoadStays = (s : Setting) (to : WayOut → ℕ) (t : State) → IsCalm s t → t.ended ≡ None → t.regs.x ≡ 0 → Justified s to (λ exit. set_of (X ∷ [])) (λ t. Unit {0}) (load ∷ []) [] → ⊥

-- where X is known to be 1, and N and Z are not read, it may go although X is live
abbrev pub KnownLoadGoes : Type 0
KnownLoadGoes = (s : Setting) (to : WayOut → ℕ) → Justified s to (λ exit. set_of (X ∷ [])) (λ t. t.regs.x ≡ 1) (load ∷ []) []
