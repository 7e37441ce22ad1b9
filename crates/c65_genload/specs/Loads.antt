-- Values taken from where they are kept (C90 6.2.2.1).
use Rattle.std.specs.Prelude.{ℕ, ◌+◌, ◌/◌, if◌then◌else◌, List, [], ◌∷◌, ◌++◌}
use Rattle.c65_mach.specs.declared.rows.Op.TheVariants.{Dey, Lda, Ldx, Ldy, Sta, Stx, Tax}
use Rattle.c65_code.specs.declared.line.Sym.{Sym}
use Rattle.c65_code.specs.declared.line.Line.{Line}
use Rattle.c65_code.specs.declared.routine.Routine.TheVariants.{PushAx, LdAxYSp, LdEaxYSp, LdEaxi}
use Rattle.c65_genwide.specs.Lines.{value, call}
use Rattle.c65_genwide.specs.Wide.{narrow_code}
use Rattle.c65_genload.specs.declared.places.Extent.{Extent}
use Rattle.c65_genload.specs.declared.places.Extent.TheVariants.{One, Two, Three, Four}
use Rattle.c65_genload.specs.declared.places.Field.{Field}
use Rattle.c65_genload.specs.declared.places.Place.{Place}
use Rattle.c65_genload.specs.declared.places.Place.TheVariants.{Bank, Near, Data, Far}
use Rattle.c65_genload.specs.declared.places.Access.{Access}
use Rattle.c65_genload.specs.declared.places.Access.TheVariants.{Whole, Part}
use Rattle.c65_genload.specs.Words.{sp, sreg, ptr1, regbank, implied, zero_page, by_y, absolute}
use Rattle.c65_genload.specs.Places.{byte_more, word_more, onward, extent_of}
use Rattle.c65_genload.specs.Addresses.{offset_code}
use Rattle.c65_genload.specs.Fields.{is_in_byte, byte_value_code, extract_code}

-- behind the base of a place that is anywhere: the address waits
abbrev pub hold_code : Place → List Line
hold_code (Far at) = offset_code at ++ (call PushAx ∷ [])
hold_code _ = []

-- of regbank at most two bytes
abbrev pub bank_code : ℕ → Extent → List Line
bank_code at One = zero_page Lda (byte_more regbank at) ∷ []
bank_code at Two = zero_page Lda (byte_more regbank at) ∷ zero_page Ldx (byte_more (byte_more regbank at) 1) ∷ []
bank_code at Three = zero_page Lda (byte_more regbank at) ∷ zero_page Ldx (byte_more (byte_more regbank at) 1) ∷ []
bank_code at Four = zero_page Lda (byte_more regbank at) ∷ zero_page Ldx (byte_more (byte_more regbank at) 1) ∷ []

abbrev pub near_code : ℕ → Extent → List Line
near_code at One = value Ldy at ∷ by_y Lda sp ∷ []
near_code at Two = value Ldy (byte_more at 1) ∷ call LdAxYSp ∷ []
near_code at Three = value Ldy (byte_more at 2) ∷ by_y Lda sp ∷ zero_page Sta sreg ∷ implied Dey ∷ call LdAxYSp ∷ []
near_code at Four = value Ldy (byte_more at 3) ∷ call LdEaxYSp ∷ []

abbrev pub data_code : Sym → ℕ → Extent → List Line
data_code sym at One = absolute Lda sym at ∷ []
data_code sym at Two = absolute Lda sym at ∷ absolute Ldx sym (word_more at 1) ∷ []
data_code sym at Three = absolute Lda sym (word_more at 2) ∷ zero_page Sta sreg ∷ absolute Lda sym at ∷ absolute Ldx sym (word_more at 1) ∷ []
data_code sym at Four = absolute Lda sym (word_more at 2) ∷ zero_page Sta sreg ∷ absolute Lda sym (word_more at 3) ∷ zero_page Sta (sreg + 1) ∷ absolute Lda sym at ∷ absolute Ldx sym (word_more at 1) ∷ []

-- so far behind the address in AX, at most 250
abbrev pub far_code : ℕ → Extent → List Line
far_code at One = zero_page Sta ptr1 ∷ zero_page Stx (ptr1 + 1) ∷ value Ldy at ∷ by_y Lda ptr1 ∷ []
far_code at Two = zero_page Sta ptr1 ∷ zero_page Stx (ptr1 + 1) ∷ value Ldy (byte_more at 1) ∷ by_y Lda ptr1 ∷ implied Tax ∷ implied Dey ∷ by_y Lda ptr1 ∷ []
far_code at Three = zero_page Sta ptr1 ∷ zero_page Stx (ptr1 + 1) ∷ value Ldy (byte_more at 2) ∷ by_y Lda ptr1 ∷ zero_page Sta sreg ∷ implied Dey ∷ by_y Lda ptr1 ∷ implied Tax ∷ implied Dey ∷ by_y Lda ptr1 ∷ []
far_code at Four = offset_code at ++ (call LdEaxi ∷ [])

-- to A, AX, AX and the low byte of sreg, or EAX
abbrev pub bytes_code : Place → Extent → List Line
bytes_code (Bank at) extent = bank_code at extent
bytes_code (Near at) extent = near_code at extent
bytes_code (Data sym at) extent = data_code sym at extent
bytes_code (Far at) extent = far_code at extent

-- of a field in one byte that byte alone
abbrev pub field_load : Place → Field → List Line
field_load place f = if is_in_byte f then bytes_code (onward place (f.low / 8)) One ++ byte_value_code f else bytes_code place Two ++ extract_code f

abbrev pub load_code : Place → Access → List Line
load_code place (Whole kind) = bytes_code place (extent_of kind) ++ narrow_code kind
load_code place (Part field) = field_load place field
