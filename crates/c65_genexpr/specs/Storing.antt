-- Assignments to scalars (C90 6.3.16.1): their forms, and the lines of each from the lines of its two sides.
use Rattle.std.specs.Prelude.{ℕ, ◌||◌, Bool, true, if◌then◌else◌, Option, Some, None, option_map, option_and_then, List, ◌++◌}
use Rattle.c65_ctype.specs.Views.{types_of}
use Rattle.c65_csem.specs.Trees.{Typed, node, deref, member}
use Rattle.c65_code.specs.declared.line.Line.{Line}
use Rattle.c65_genframe.specs.Frames.{Framed}
use Rattle.c65_genwide.specs.Wide.{narrow_code}
use Rattle.c65_genload.specs.declared.places.Extent.{Extent}
use Rattle.c65_genload.specs.declared.places.Extent.TheVariants.{One, Two}
use Rattle.c65_genload.specs.declared.places.Place.{Place}
use Rattle.c65_genload.specs.declared.places.Place.TheVariants.{Far}
use Rattle.c65_genload.specs.declared.places.Access.{Access}
use Rattle.c65_genload.specs.declared.places.Access.TheVariants.{Whole}
use Rattle.c65_genload.specs.Places.{held, type_in, extent_of}
use Rattle.c65_genload.specs.Loads.{hold_code}
use Rattle.c65_genload.specs.Stores.{store_code}
use Rattle.c65_gendirect.specs.declared.bytes.OperandByte.{OperandByte}
use Rattle.c65_gendirect.specs.declared.direct.Direct.{Direct}
use Rattle.c65_gendirect.specs.declared.through.Stored.{Stored}
use Rattle.c65_gendirect.specs.declared.through.Stored.TheVariants as stores
use Rattle.c65_gendirect.specs.Bytes.{byte_of}
use Rattle.c65_gendirect.specs.Through.{read_bytes_code, byte_through_code, word_through_code}
use Rattle.c65_genexpr.specs.declared.destination.Destination.{Destination}
use Rattle.c65_genexpr.specs.declared.destination.Destination.TheVariants.{Registers, Pointer}
use Rattle.c65_genexpr.specs.declared.storing.Storing.{Storing}
use Rattle.c65_genexpr.specs.declared.storing.Storing.TheVariants.{Left, RightByte, RightWord, HeldByte, HeldWord, Stacked}
use Rattle.c65_genexpr.specs.Types.{bare, offset_at, access_of}
use Rattle.c65_genexpr.specs.Places.{more, has_base, place_of}
use Rattle.c65_genexpr.specs.Direct.{direct_of, is_fixed, is_pure}
use Rattle.c65_genexpr.specs.Held.{keep_code, byte_behind_code, word_behind_code}
use Rattle.c65_genexpr.specs.Operating.{word_in, is_light}

-- the pointer behind which a place lies, where it is read where it lies
abbrev mutual
  pub pointer_of : Framed → ℕ → Typed → Option Direct
  pointer_of f pushed (node t (deref e)) = direct_of f pushed e
  pointer_of f pushed (node t (member e m)) = if has_base (place_of f pushed e) (offset_at (types_of f.parts.types) (bare e) m) then pointer_of f pushed e else None
  pointer_of f pushed (node t _) = None

-- ---- the value is read behind the address

abbrev pub word_stored : Bool → OperandByte × OperandByte → Stored
word_stored fixed w = if fixed then stores.Fixed w.0 w.1 else stores.Word w.0 w.1

abbrev pub bytes_stored : Extent → Direct → Option Stored
bytes_stored One d = option_map stores.Single (byte_of d 0)
bytes_stored Two d = option_map (word_stored (is_fixed (Some d))) (word_in d)
bytes_stored _ d = None

-- ---- the pointer is read behind the value

abbrev pub through : ℕ → Extent → OperandByte × OperandByte → Storing
through at One w = RightByte at w.0 w.1
through at Two w = RightWord at w.0 w.1
through at _ w = Stacked

-- which it is only where the value leaves it as it is
abbrev pub unless_changed : Bool → Option Direct → Option Direct
unless_changed pure d = if is_fixed d || pure then d else None

-- ---- the address waits in ptr2 while the value comes, which is light

abbrev pub held_at : ℕ → Extent → Storing
held_at at One = HeldByte at
held_at at Two = HeldWord at
held_at at _ = Stacked

abbrev pub held_if : Bool → Place → Access → Storing
held_if true (Far at) (Whole kind) = held_at at (extent_of kind)
held_if is_light place access = Stacked

abbrev pub or_held : Storing → Storing → Storing
or_held Stacked held = held
or_held how held = how

-- ---- the form

abbrev pub by_value : ℕ → Option Stored → Storing → Storing
by_value at (Some stored) other = Left at stored
by_value at None other = other

abbrev pub by_pointer : ℕ → Extent → Option (OperandByte × OperandByte) → Storing
by_pointer at extent (Some w) = through at extent w
by_pointer at extent None = Stacked

-- of a pointer and a value that can be read
abbrev pub storing_by : Place → Access → Option Direct → Option Direct → Storing
storing_by (Far at) (Whole kind) a b = by_value at (option_and_then (bytes_stored (extent_of kind)) b) (by_pointer at (extent_of kind) (option_and_then word_in a))
storing_by place access a b = Stacked

-- how a value is assigned
abbrev pub storing_of : Framed → ℕ → Typed → Typed → Storing
storing_of f pushed a b =
    let place = place_of f pushed a in
    let access = access_of (types_of f.parts.types) a in
    or_held (storing_by place access (unless_changed (is_pure b) (pointer_of f pushed a)) (direct_of f pushed b)) (held_if (is_light f pushed b) place access)

-- ---- lines

-- the bytes that wait while the value is computed
abbrev pub below_value : Storing → ℕ → Place → ℕ
below_value Stacked pushed place = more pushed (held place)
below_value _ pushed place = pushed

-- where the address of the place's base comes, of what lies anywhere
abbrev pub base_for : Storing → Destination
base_for (Left at stored) = Pointer
base_for _ = Registers

-- an assignment, from the lines of the place's base and of the value
abbrev pub assigned_by : Storing → Place → Access → List Line → List Line → List Line
assigned_by (Left at stored) place access a b = a ++ (read_bytes_code at stored ++ narrow_code (type_in access))
assigned_by (RightByte at low high) place access a b = b ++ (byte_through_code at low high ++ narrow_code (type_in access))
assigned_by (RightWord at low high) place access a b = b ++ word_through_code at low high
assigned_by (HeldByte at) place access a b = a ++ (keep_code ++ (b ++ (byte_behind_code at ++ narrow_code (type_in access))))
assigned_by (HeldWord at) place access a b = a ++ (keep_code ++ (b ++ word_behind_code at))
assigned_by Stacked place access a b = a ++ (hold_code place ++ (b ++ store_code place access))
