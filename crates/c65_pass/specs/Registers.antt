-- Loads, stores and transfers of A, X and Y.
use Rattle.std.specs.Prelude.{ℕ, Bool, true, false, Option, Some, None}
use Rattle.c65_mach.specs.declared.rows.Op.{Op}
use Rattle.c65_mach.specs.declared.rows.Op.TheVariants as ops
use Rattle.c65_mach.specs.declared.rows.Mode.TheVariants.{Implied}
use Rattle.c65_code.specs.declared.parts.Part.{Part}
use Rattle.c65_code.specs.declared.parts.Part.TheVariants as parts
use Rattle.c65_code.specs.declared.line.Operand.TheVariants.{Nothing}
use Rattle.c65_code.specs.declared.line.Line.{Line}
use Rattle.c65_code.specs.declared.line.Line.TheVariants.{Do}
use Rattle.c65_know.specs.declared.note.Note.{Note}
use Rattle.c65_pass.specs.declared.register.Register.{Register}
use Rattle.c65_pass.specs.declared.register.Register.TheVariants.{A, X, Y}
use Rattle.c65_pass.specs.declared.register.Transfer.{Transfer}

abbrev pub is_same_register : Register → Register → Bool
is_same_register A A = true
is_same_register X X = true
is_same_register Y Y = true
is_same_register _ _ = false

abbrev pub part_of : Register → Part
part_of A = parts.A
part_of X = parts.X
part_of Y = parts.Y

-- what a note says of a register
abbrev pub value_of : Note → Register → Option ℕ
value_of note A = note.a
value_of note X = note.x
value_of note Y = note.y

-- the register that an operation loads, and that it stores
abbrev pub loaded_by : Op → Option Register
loaded_by ops.Lda = Some A
loaded_by ops.Ldx = Some X
loaded_by ops.Ldy = Some Y
loaded_by _ = None

abbrev pub stored_by : Op → Option Register
stored_by ops.Sta = Some A
stored_by ops.Stx = Some X
stored_by ops.Sty = Some Y
stored_by _ = None

abbrev pub load_op : Register → Op
load_op A = ops.Lda
load_op X = ops.Ldx
load_op Y = ops.Ldy

-- which register an operation copies, and to which
abbrev pub transfer_by : Op → Option Transfer
transfer_by ops.Tax = Some (record { from = A; to = X })
transfer_by ops.Tay = Some (record { from = A; to = Y })
transfer_by ops.Txa = Some (record { from = X; to = A })
transfer_by ops.Tya = Some (record { from = Y; to = A })
transfer_by _ = None

-- an operation on registers alone
abbrev pub alone : Op → Line
alone op = Do op Implied Nothing
