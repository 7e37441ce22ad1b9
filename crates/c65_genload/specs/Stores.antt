-- Values put where they are kept (C90 6.3.16).
use Rattle.std.specs.Prelude.{ℕ, ◌+◌, ◌/◌, ◌%◌, ◌==◌, if◌then◌else◌, List, [], ◌∷◌, ◌++◌}
use Rattle.c65_ints.specs.declared.types.IntType.{IntType}
use Rattle.c65_mach.specs.declared.rows.Op.TheVariants.{And, Eor, Lda, Ldy, Sta, Stx, Sty, Tay, Tya}
use Rattle.c65_mach.specs.declared.rows.Mode.{Mode}
use Rattle.c65_mach.specs.declared.rows.Mode.TheVariants.{ZeroPage, IndirectY, Absolute}
use Rattle.c65_code.specs.declared.line.Sym.{Sym}
use Rattle.c65_code.specs.declared.line.Operand.{Operand}
use Rattle.c65_code.specs.declared.line.Operand.TheVariants.{Zero, At}
use Rattle.c65_code.specs.declared.line.Line.{Line}
use Rattle.c65_code.specs.declared.line.Line.TheVariants.{Do}
use Rattle.c65_code.specs.declared.routine.TosOp.TheVariants.{Or}
use Rattle.c65_code.specs.declared.routine.Width.TheVariants.{Ax}
use Rattle.c65_code.specs.declared.routine.Routine.TheVariants.{PushAx, PopAx, StAxYSp, StEaxYSp, StATos, StAxTos, StEaxTos, LdAxYSp, LdAxi, CopyTos, Tos}
use Rattle.c65_genwide.specs.Lines.{value, call}
use Rattle.c65_genwide.specs.Wide.{narrow_code}
use Rattle.c65_genload.specs.declared.places.Extent.{Extent}
use Rattle.c65_genload.specs.declared.places.Extent.TheVariants.{One, Two, Three, Four}
use Rattle.c65_genload.specs.declared.places.Field.{Field}
use Rattle.c65_genload.specs.declared.places.Place.{Place}
use Rattle.c65_genload.specs.declared.places.Place.TheVariants.{Bank, Near, Data, Far}
use Rattle.c65_genload.specs.declared.places.Access.{Access}
use Rattle.c65_genload.specs.declared.places.Access.TheVariants.{Whole, Part}
use Rattle.c65_genload.specs.Words.{sp, sreg, ptr1, ptr3, tmp1, regbank, implied, zero_page, by_y, absolute}
use Rattle.c65_genload.specs.Places.{byte_more, word_more, onward, settled, extent_of}
use Rattle.c65_genload.specs.Numbers.{first, second, mask_code}
use Rattle.c65_genload.specs.Fields.{others, is_in_byte, own_bits, up_code, byte_value_code, extract_code, aligned_code, is_unit}
use Rattle.c65_genload.specs.Loads.{bytes_code}

-- a number has no three bytes, and is stored as of two then
abbrev pub bank_store : ℕ → Extent → List Line
bank_store at One = zero_page Sta (byte_more regbank at) ∷ []
bank_store at Two = zero_page Sta (byte_more regbank at) ∷ zero_page Stx (byte_more (byte_more regbank at) 1) ∷ []
bank_store at Three = zero_page Sta (byte_more regbank at) ∷ zero_page Stx (byte_more (byte_more regbank at) 1) ∷ []
bank_store at Four = zero_page Sta (byte_more regbank at) ∷ zero_page Stx (byte_more (byte_more regbank at) 1) ∷ []

abbrev pub near_store : ℕ → Extent → List Line
near_store at One = value Ldy at ∷ by_y Sta sp ∷ []
near_store at Two = value Ldy at ∷ call StAxYSp ∷ []
near_store at Three = value Ldy at ∷ call StAxYSp ∷ []
near_store at Four = value Ldy at ∷ call StEaxYSp ∷ []

abbrev pub data_store : Sym → ℕ → Extent → List Line
data_store sym at One = absolute Sta sym at ∷ []
data_store sym at Two = absolute Sta sym at ∷ absolute Stx sym (word_more at 1) ∷ []
data_store sym at Three = absolute Sta sym at ∷ absolute Stx sym (word_more at 1) ∷ []
data_store sym at Four = absolute Sta sym at ∷ absolute Stx sym (word_more at 1) ∷ zero_page Ldy sreg ∷ absolute Sty sym (word_more at 2) ∷ zero_page Ldy (sreg + 1) ∷ absolute Sty sym (word_more at 3) ∷ []

-- at the address that waits
abbrev pub far_store : Extent → List Line
far_store One = call StATos ∷ []
far_store Two = call StAxTos ∷ []
far_store Three = call StAxTos ∷ []
far_store Four = call StEaxTos ∷ []

-- A, AX or EAX
abbrev pub bytes_store : Place → Extent → List Line
bytes_store (Bank at) extent = bank_store at extent
bytes_store (Near at) extent = near_store at extent
bytes_store (Data sym at) extent = data_store sym at extent
bytes_store (Far at) extent = far_store extent

-- a store through an address leaves A alone in place of a character
abbrev pub after_store : Place → IntType → List Line
after_store (Far at) kind = narrow_code kind
after_store _ kind = []

-- the word at a place, above whose address one word more waits
abbrev pub under_code : Place → List Line
under_code (Near at) = bytes_code (Near (byte_more at 2)) Two
under_code (Far at) = value Ldy 3 ∷ call LdAxYSp ∷ call LdAxi ∷ []
under_code place = bytes_code place Two

-- the other bits of the unit stay
abbrev pub unit_set : Place → Field → List Line
unit_set place f = aligned_code f ++ (call PushAx ∷ (under_code place ++ (mask_code (others f) ++ (call (Tos Or Ax) ∷ bytes_store place Two))))

abbrev pub unit_store : Place → Field → List Line
unit_store place f = unit_set place f ++ extract_code f

-- the address that waits comes into ptr1, and A stays
abbrev pub popped_code : List Line
popped_code = zero_page Sta tmp1 ∷ call PopAx ∷ zero_page Sta ptr1 ∷ zero_page Stx (ptr1 + 1) ∷ zero_page Lda tmp1 ∷ []

-- the bits of A that a mask has go into a byte, and A becomes that byte
abbrev pub merged_code : Mode → Operand → ℕ → List Line
merged_code mode operand mask = if mask == 255 then Do Sta mode operand ∷ [] else Do Eor mode operand ∷ value And mask ∷ Do Eor mode operand ∷ Do Sta mode operand ∷ []

abbrev pub bits_store : Place → ℕ → List Line
bits_store (Bank at) mask = merged_code ZeroPage (Zero (byte_more regbank at)) mask
bits_store (Near at) mask = value Ldy at ∷ merged_code IndirectY (Zero sp) mask
bits_store (Data sym at) mask = merged_code Absolute (At sym at) mask
bits_store (Far at) mask = popped_code ++ (value Ldy at ∷ merged_code IndirectY (Zero ptr1) mask)

-- the other bits of the byte stay
abbrev pub byte_store : Place → Field → List Line
byte_store place f = up_code (f.low % 8) ++ (bits_store (onward (settled place) (f.low / 8)) (own_bits f) ++ byte_value_code f)

abbrev pub field_store : Place → Field → List Line
field_store place f = if is_in_byte f then byte_store place f else (if is_unit f then bytes_store place Two else unit_store place f)

-- the primary register is then what the place holds
abbrev pub store_code : Place → Access → List Line
store_code place (Whole kind) = bytes_store place (extent_of kind) ++ after_store place kind
store_code place (Part field) = field_store place field

-- n bytes from the address in AX to the one that waits
abbrev pub copy_code : ℕ → List Line
copy_code n = implied Tay ∷ value Lda (first n) ∷ zero_page Sta ptr3 ∷ value Lda (second n) ∷ zero_page Sta (ptr3 + 1) ∷ implied Tya ∷ call CopyTos ∷ []
