-- Values whose bytes are read where they lie, with A, X and sreg as they were.
use Rattle.std.specs.Prelude.{ℕ, nat_lt, nat_le, ◌==◌, Bool, true, false, if◌then◌else◌, Option, Some, None, List, [], ◌∷◌}
use Rattle.c65_ints.specs.declared.types.IntType.{IntType}
use Rattle.c65_ints.specs.Ranges.{is_signed_of}
use Rattle.c65_mach.specs.declared.rows.Op.{Op}
use Rattle.c65_mach.specs.declared.rows.Op.TheVariants.{Ldy, Pha, Pla, Tay, Tya}
use Rattle.c65_code.specs.declared.line.Line.{Line}
use Rattle.c65_genwide.specs.Lines.{value}
use Rattle.c65_genload.specs.declared.places.Place.{Place}
use Rattle.c65_genload.specs.declared.places.Place.TheVariants as places
use Rattle.c65_genload.specs.Words.{sp, regbank, implied, zero_page, by_y, absolute, low_of, high_of}
use Rattle.c65_genload.specs.Places.{byte_more, word_more}
use Rattle.c65_genload.specs.Numbers.{first, second, third, fourth}
use Rattle.c65_genload.specs.Conversions.{size_of}
use Rattle.c65_gendirect.specs.declared.bytes.OperandByte.{OperandByte}
use Rattle.c65_gendirect.specs.declared.bytes.OperandByte.TheVariants.{Number, Low, High, Near, Data, Zero}
use Rattle.c65_gendirect.specs.declared.direct.Direct.{Direct}
use Rattle.c65_gendirect.specs.declared.direct.Direct.TheVariants as directs

-- an instruction on the byte; Y is lost where the byte is above sp
abbrev pub op_of : Op → OperandByte → List Line
op_of op (Number n) = value op n ∷ []
op_of op (Low sym at) = low_of op sym at ∷ []
op_of op (High sym at) = high_of op sym at ∷ []
op_of op (Near at) = value Ldy at ∷ by_y op sp ∷ []
op_of op (Data sym at) = absolute op sym at ∷ []
op_of op (Zero at) = zero_page op at ∷ []

abbrev pub takes_y : OperandByte → Bool
takes_y (Near at) = true
takes_y _ = false

-- while an instruction works on the byte, A waits in Y, or on the hard stack where the byte takes Y
abbrev pub aside : OperandByte → Line
aside byte = implied (if takes_y byte then Pha else Tay)

abbrev pub back : OperandByte → Line
back byte = implied (if takes_y byte then Pla else Tya)

-- the bytes of a number, from the lowest on
abbrev pub number_byte : ℕ → ℕ → ℕ
number_byte n i = if i == 0 then first n else (if i == 1 then second n else (if i == 2 then third n else fourth n))

-- an address has two bytes
abbrev pub address_byte : OperandByte → OperandByte → ℕ → Option OperandByte
address_byte low high i = if i == 0 then Some low else (if i == 1 then Some high else None)

-- so far behind the first byte of a place; a place that is anywhere is not read where it lies
abbrev pub place_byte : Place → ℕ → Option OperandByte
place_byte (places.Bank at) i = Some (Zero (byte_more (byte_more regbank at) i))
place_byte (places.Near at) i = Some (Near (byte_more at i))
place_byte (places.Data sym at) i = Some (Data sym (word_more at i))
place_byte (places.Far at) i = None

-- above its own bytes a value has zeros, or its sign, which lies nowhere
abbrev pub byte_above : IntType → Option OperandByte
byte_above kind = if is_signed_of kind then None else Some (Number 0)

-- the bytes of a value, from the lowest on, where they can be read
abbrev pub byte_of : Direct → ℕ → Option OperandByte
byte_of (directs.Number n) i = Some (Number (number_byte n i))
byte_of (directs.Address sym at) i = address_byte (Low sym at) (High sym at) i
byte_of (directs.Kept place kind) i = if nat_lt i (size_of kind) then place_byte place i else byte_above kind

-- The value as one of a type (C90 6.2.1.2): of a narrower one the low bytes, and in a wider one the value that is kept. Numbers
-- are folded before, and an address fills a type of its own size alone.
abbrev pub converted : IntType → Direct → Option Direct
converted to (directs.Number n) = None
converted to (directs.Address sym at) = if size_of to == 2 then Some (directs.Address sym at) else None
converted to (directs.Kept place from) = Some (directs.Kept place (if nat_le (size_of to) (size_of from) then to else from))
