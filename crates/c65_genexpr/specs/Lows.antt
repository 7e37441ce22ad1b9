-- The low byte of a value, where nothing above it is asked for: of a sum, a difference, and bits of two numbers it depends on their low
-- bytes alone, and a conversion between numbers keeps it (C90 6.2.1.2, 6.3.6, 6.3.10 to 6.3.12).
use Rattle.std.specs.Prelude.{ℕ, ◌&&◌, if◌then◌else◌, Bool, true, false, Option, Some, None, option_and_then, List, ◌++◌}
use Rattle.c65_base.specs.declared.operators.BinaryOp.{BinaryOp}
use Rattle.c65_ctype.specs.Trees.{Ty, int}
use Rattle.c65_csem.specs.Trees.{Typed}
use Rattle.c65_code.specs.declared.line.Line.{Line}
use Rattle.c65_genframe.specs.Frames.{Framed}
use Rattle.c65_genload.specs.declared.places.Extent.TheVariants.{One}
use Rattle.c65_genload.specs.declared.places.Place.{Place}
use Rattle.c65_genload.specs.declared.places.Place.TheVariants.{Far}
use Rattle.c65_genload.specs.declared.places.Access.{Access}
use Rattle.c65_gendirect.specs.declared.bytes.OperandByte.{OperandByte}
use Rattle.c65_gendirect.specs.Bytes.{byte_of}
use Rattle.c65_gendirect.specs.Pointed.{behind_pointer_code}
use Rattle.c65_genexpr.specs.declared.destination.Destination.{Destination}
use Rattle.c65_genexpr.specs.declared.destination.Destination.TheVariants.{Pointer}
use Rattle.c65_genexpr.specs.Destination.{destination_of}
use Rattle.c65_genexpr.specs.Types.{bare}
use Rattle.c65_genexpr.specs.Direct.{direct_of}
use Rattle.c65_genexpr.specs.Operating.{takes_bytes}

abbrev pub is_number : Ty → Bool
is_number (int kind) = true
is_number t = false

-- of a value that is read where it lies
abbrev pub byte_in : Framed → ℕ → Typed → Option OperandByte
byte_in f pushed e = option_and_then (λ d. byte_of d 0) (direct_of f pushed e)

-- of an operator on two numbers the right one's
abbrev pub low_operand : Framed → ℕ → BinaryOp → Typed → Typed → Option OperandByte
low_operand f pushed op a b = if takes_bytes op && (is_number (bare a) && is_number (bare b)) then byte_in f pushed b else None

abbrev pub low_operand_or : {A : Type 0} → Option OperandByte → (OperandByte → A) → A → A
low_operand_or None f other = other
low_operand_or (Some d) f other = f d

-- how far behind ptr1 one byte or two lie that are kept anywhere
abbrev pub behind_by : Place → Destination → Option ℕ
behind_by (Far at) Pointer = Some at
behind_by place d = None

abbrev pub behind_pointer : Place → Access → Option ℕ
behind_pointer place access = behind_by place (destination_of access)

-- behind the lines of the base, or other lines
abbrev pub low_load_by : Option ℕ → List Line → List Line → List Line
low_load_by None base other = other
low_load_by (Some at) base other = base ++ behind_pointer_code at One
