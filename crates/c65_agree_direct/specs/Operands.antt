-- Bytes that instructions read where they lie.
use Rattle.std.specs.Prelude.{◌≡◌, ℕ, ◌+◌, ◌%◌, ◌/◌, ◌<◌, true, false, Some}
use Rattle.c65_mach.specs.declared.rows.Op.{Op}
use Rattle.c65_mach.specs.declared.rows.Op.TheVariants as ops
use Rattle.c65_mach.specs.Step.{apply}
use Rattle.c65_meaning.specs.Store.{Store, Value, Place, is_live}
use Rattle.c65_code.specs.declared.routine.Width.{Width}
use Rattle.c65_code.specs.declared.routine.Width.TheVariants.{Ax, Eax}
use Rattle.c65_code.specs.LineState.{State, sp_of}
use Rattle.c65_code.specs.Placement.{located}
use Rattle.c65_code.specs.Steady.{IsOpen}
use Rattle.c65_code.specs.Numbers.{words_of}
use Rattle.c65_gendirect.specs.declared.bytes.OperandByte.{OperandByte}
use Rattle.c65_gendirect.specs.declared.bytes.OperandByte.TheVariants.{Number, Low, High, Near, Data, Zero}
use Rattle.c65_gendirect.specs.declared.direct.Direct.{Direct}
use Rattle.c65_gendirect.specs.declared.direct.Direct.TheVariants.{Address}
use Rattle.c65_gendirect.specs.Bytes.{byte_of as operand_of}
use Rattle.c65_agree_store.specs.Stands.{Placing, ValueIs}
use Rattle.c65_agree_store.specs.Laws.{byte_of}
use Rattle.c65_agree_state.specs.World.{World}

-- the byte that an instruction reads
abbrev pub byte_in : World → State → OperandByte → ℕ
byte_in g t (Number n) = n
byte_in g t (Low sym at) = located g.place sym at % 256
byte_in g t (High sym at) = located g.place sym at / 256
byte_in g t (Near at) = t.mem (sp_of t + at)
byte_in g t (Data sym at) = t.mem (located g.place sym at)
byte_in g t (Zero at) = t.zp at

-- it lies where a line may read it
abbrev pub MayRead : World → State → OperandByte → Type 0
MayRead g t (Number n) = n < 256
MayRead g t (Near at) = (at < 256) × IsOpen g.place (sp_of t) (sp_of t + at)
MayRead g t (Data sym at) = IsOpen g.place (sp_of t) (located g.place sym at)
MayRead g t (Zero at) = at < 256
MayRead g t _ = Unit {0}

-- the symbol whose address is read has one of 16 bits
abbrev pub IsLocated : World → Direct → Type 0
IsLocated g (Address sym at) = g.place.address sym.0 < 65536
IsLocated g d = Unit {0}

-- ---- the bytes of a value

abbrev pub register_bytes : Width → ℕ
register_bytes Ax = 2
register_bytes Eax = 4

-- a place is of a live block
abbrev pub IsOfLive : Store → Value → Type 0
IsOfLive s (Place b o) = is_live s b ≡ true
IsOfLive s v = Unit {0}

-- The bytes that are read are those of a word of the value. It fits into the register but where a block has ended that a place names.
pub record HasBytes (g : World) (s : Store) (w : Placing) (t : State) (width : Width) (d : Direct) (v : Value) : Type 0 where
  pub word : ℕ
  pub is : ValueIs w (words_of width) v word
  pub fits : IsOfLive s v → word < words_of width
  pub bytes : (i : ℕ) (x : OperandByte) → i < register_bytes width → operand_of d i ≡ Some x → MayRead g t x × (byte_in g t x ≡ byte_of i word)

-- ---- instructions on a byte

-- that leave no other register of the program than A or X, and the flags, with another value
pub data Reading : Type 0 where
  Loads : Reading
  LoadsX : Reading
  Adds : Reading
  Subtracts : Reading
  Compares : Reading
  ComparesX : Reading
  Conjoins : Reading
  Disjoins : Reading
  Excludes : Reading

abbrev pub op_in : Reading → Op
op_in Loads = ops.Lda
op_in LoadsX = ops.Ldx
op_in Adds = ops.Adc
op_in Subtracts = ops.Sbc
op_in Compares = ops.Cmp
op_in ComparesX = ops.Cpx
op_in Conjoins = ops.And
op_in Disjoins = ops.Ora
op_in Excludes = ops.Eor

-- Y is lost where the byte is above sp
abbrev pub y_behind : OperandByte → State → ℕ
y_behind (Near at) t = at
y_behind x t = t.regs.y

abbrev pub with_operand : World → Reading → OperandByte → State → State
with_operand g r x t = record t { regs = record (apply false (op_in r) (byte_in g t x) t.regs) { y = y_behind x t } }
