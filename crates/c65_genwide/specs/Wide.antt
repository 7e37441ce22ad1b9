-- The binary operators between TOS and the primary register (C90 6.3.5 to 6.3.12; docs/MACHINE.md, "Routines").
use Rattle.std.specs.Prelude.{Bool, true, false, List, [], ◌∷◌, if◌then◌else◌}
use Rattle.c65_base.specs.declared.operators.BinaryOp.{BinaryOp}
use Rattle.c65_base.specs.declared.operators.BinaryOp.TheVariants as ops
use Rattle.c65_ints.specs.declared.types.IntType.{IntType}
use Rattle.c65_ints.specs.declared.types.IntType.TheVariants as ints
use Rattle.c65_ints.specs.Ranges.{is_signed_of}
use Rattle.c65_mach.specs.declared.rows.Op.TheVariants.{Ldx}
use Rattle.c65_code.specs.declared.line.Line.{Line}
use Rattle.c65_code.specs.declared.routine.Routine.TheVariants.{SignA, Tos}
use Rattle.c65_code.specs.declared.routine.TosOp.{TosOp}
use Rattle.c65_code.specs.declared.routine.TosOp.TheVariants as tos
use Rattle.c65_code.specs.declared.routine.Width.{Width}
use Rattle.c65_code.specs.declared.routine.Width.TheVariants.{Ax, Eax}
use Rattle.c65_genwide.specs.Lines.{value, call}

-- where the values of a type stand
abbrev pub width_of : IntType → Width
width_of ints.Long = Eax
width_of ints.ULong = Eax
width_of _ = Ax

abbrev pub signed_or : Bool → TosOp → TosOp → TosOp
signed_or is_signed signed unsigned = if is_signed then signed else unsigned

abbrev pub tos_of : BinaryOp → Bool → TosOp
tos_of ops.Mul is_signed = tos.Mul
tos_of ops.Div is_signed = signed_or is_signed tos.Div tos.UDiv
tos_of ops.Rem is_signed = signed_or is_signed tos.Mod tos.UMod
tos_of ops.Add is_signed = tos.Add
tos_of ops.Sub is_signed = tos.Sub
tos_of ops.Shl is_signed = tos.Shl
tos_of ops.Shr is_signed = signed_or is_signed tos.Asr tos.Shr
tos_of ops.Lt is_signed = signed_or is_signed tos.Lt tos.ULt
tos_of ops.Gt is_signed = signed_or is_signed tos.Gt tos.UGt
tos_of ops.Le is_signed = signed_or is_signed tos.Le tos.ULe
tos_of ops.Ge is_signed = signed_or is_signed tos.Ge tos.UGe
tos_of ops.Eq is_signed = tos.Eq
tos_of ops.Ne is_signed = tos.Ne
tos_of ops.BitAnd is_signed = tos.And
tos_of ops.BitXor is_signed = tos.Xor
tos_of ops.BitOr is_signed = tos.Or

-- 1 or 0
abbrev pub is_comparison : BinaryOp → Bool
is_comparison ops.Lt = true
is_comparison ops.Gt = true
is_comparison ops.Le = true
is_comparison ops.Ge = true
is_comparison ops.Eq = true
is_comparison ops.Ne = true
is_comparison _ = false

-- AX as a value of a character type: X has zeros or the sign of A
abbrev pub narrow_code : IntType → List Line
narrow_code ints.UChar = value Ldx 0 ∷ []
narrow_code ints.SChar = call SignA ∷ []
narrow_code _ = []

abbrev pub wide_code : BinaryOp → IntType → List Line
wide_code op ty = call (Tos (tos_of op (is_signed_of ty)) (width_of ty)) ∷ (if is_comparison op then [] else narrow_code ty)
