-- Why initial values are refused.
use Rattle.std.specs.Prelude.{◌≡◌, ◌<◌}
use Rattle.c65_base.specs.declared.code.Code.TheVariants.{Initialiser, NotConstant, ConstantValue}
use Rattle.c65_base.specs.declared.refusal.Pos.{Pos}
use Rattle.c65_base.specs.declared.refusal.Size.TheVariants as sizes
use Rattle.c65_base.specs.declared.refusal.Refusal.{Refusal}
use Rattle.c65_base.specs.declared.refusal.Refusal.TheVariants.{OutOfMemory, At, TooLarge}

-- want of memory, or no constant, or one that is too far from what it names
abbrev pub IsPointerFault : Pos → Refusal → Type 0
IsPointerFault p OutOfMemory = Unit {0}
IsPointerFault p (At NotConstant q) = q ≡ p
IsPointerFault p (At ConstantValue q) = q ≡ p
IsPointerFault p _ = ⊥

-- a shape that does not fit
abbrev pub IsShapeFault : Refusal → Type 0
IsShapeFault (At Initialiser q) = Unit {0}
IsShapeFault _ = ⊥

-- want of memory, too many values, or an object above 65,535 bytes
abbrev pub IsTextFault : Pos → Refusal → Type 0
IsTextFault p OutOfMemory = Unit {0}
IsTextFault p (At Initialiser q) = q ≡ p
IsTextFault p (TooLarge sizes.Object n) = 65535 < n
IsTextFault p _ = ⊥

-- want of memory, or an object above 65,535 bytes
abbrev pub IsPartFault : Refusal → Type 0
IsPartFault OutOfMemory = Unit {0}
IsPartFault (TooLarge sizes.Object n) = 65535 < n
IsPartFault _ = ⊥
