-- The byte that has all bits of a bit-field (C90 6.5.2.1): where it tells whether the field is 0, no bit is moved.
use Rattle.std.specs.Prelude.{ℕ, ◌/◌, if◌then◌else◌, Option, Some, None, List, [], ◌∷◌, ◌++◌}
use Rattle.c65_mach.specs.declared.rows.Op.TheVariants.{And}
use Rattle.c65_code.specs.declared.line.Line.{Line}
use Rattle.c65_genwide.specs.Lines.{value}
use Rattle.c65_genload.specs.declared.places.Extent.TheVariants.{One}
use Rattle.c65_genload.specs.declared.places.Field.{Field}
use Rattle.c65_genload.specs.declared.places.Place.{Place}
use Rattle.c65_genload.specs.declared.places.Access.{Access}
use Rattle.c65_genload.specs.declared.places.Access.TheVariants.{Whole, Part}
use Rattle.c65_genload.specs.Places.{onward}
use Rattle.c65_genload.specs.Fields.{is_in_byte, own_bits}
use Rattle.c65_genload.specs.Loads.{bytes_code}

-- the bit-field that is kept, where one byte has all its bits
abbrev pub byte_field : Access → Option Field
byte_field (Whole kind) = None
byte_field (Part g) = if is_in_byte g then Some g else None

-- its bits come to A where they lie in the byte, and Z says whether the field is 0
abbrev pub own_bits_code : Place → Field → List Line
own_bits_code place g = bytes_code (onward place (g.low / 8)) One ++ value And (own_bits g) ∷ []
