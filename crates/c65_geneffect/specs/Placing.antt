-- How a value is put into an element of a small array, where the value of the assignment is not used (C90 6.3.16.1). The left side is
-- had first; the right one before it only where neither can tell.
use Rattle.std.specs.Prelude.{◌≡◌, ℕ, ◌+◌, ◌==◌, ◌&&◌, not, if◌then◌else◌, Bool, true, false, Option, Some, None, is_some, option_and_then, List, [], ◌∷◌, ◌++◌}
use Rattle.c65_csem.specs.Trees.{Typed, node, deref, member, binary}
use Rattle.c65_ints.specs.declared.types.IntType.{IntType}
use Rattle.c65_mach.specs.declared.rows.Op.TheVariants.{Lda, Ldy, Pha, Pla, Sta, Stx, Tax, Tay, Txa}
use Rattle.c65_code.specs.declared.line.Sym.{Sym}
use Rattle.c65_code.specs.declared.line.Line.{Line}
use Rattle.c65_genframe.specs.Frames.{Framed}
use Rattle.c65_genload.specs.declared.places.Extent.{Extent}
use Rattle.c65_genload.specs.declared.places.Extent.TheVariants.{One, Two}
use Rattle.c65_genload.specs.Places.{word_more, extent_of}
use Rattle.c65_genload.specs.Words.{implied, zero_page}
use Rattle.c65_gendirect.specs.declared.bytes.OperandByte.{OperandByte}
use Rattle.c65_gendirect.specs.declared.bytes.OperandByte.TheVariants.{Near, Data}
use Rattle.c65_gendirect.specs.declared.direct.Direct.{Direct}
use Rattle.c65_gendirect.specs.Bytes.{op_of, takes_y, byte_of}
use Rattle.c65_genexpr.specs.declared.elements.Element.{Element}
use Rattle.c65_genexpr.specs.Direct.{direct_of, is_pure}
use Rattle.c65_genexpr.specs.Elements.{element_at, by_index, doublings, scaled_code, reached_code}
use Rattle.c65_genexpr.specs.Held.{ptr2}
use Rattle.c65_genexpr.specs.Lows.{byte_in}
use Rattle.c65_genexpr.specs.Operating.{is_light, is_light_index}
use Rattle.c65_genexpr.specs.Uses.{uses, index_uses}
use Rattle.c65_geneffect.specs.declared.placing.Placing.{Placing}
use Rattle.c65_geneffect.specs.declared.placing.Placing.TheVariants.{Read, Behind, Held, Later, Otherwise}

-- the low byte of the index, where it is read where it lies
abbrev pub sum_byte : Framed → ℕ → Typed → Option OperandByte
sum_byte f pushed (node t (binary op a b)) = byte_in f pushed b
sum_byte f pushed (node t _) = None

abbrev mutual
  pub index_byte : Framed → ℕ → Typed → Option OperandByte
  index_byte f pushed (node t (deref e)) = sum_byte f pushed e
  index_byte f pushed (node t (member e m)) = index_byte f pushed e
  index_byte f pushed (node t _) = None

-- ---- the form

-- two symbols name objects that are apart, and regbank is apart from both
abbrev pub is_apart : Sym → OperandByte → Bool
is_apart sym (Near at) = false
is_apart sym (Data other at) = not (other.0 == sym.0)
is_apart sym byte = true

abbrev pub single_read : Element → OperandByte → Option Placing
single_read x low = if takes_y low then None else Some (Read x low None)

abbrev pub double_read : Element → OperandByte → OperandByte → Option Placing
double_read x low high = if is_apart x.sym low && is_apart x.sym high then Some (Read x low (Some high)) else None

abbrev pub read_bytes : Element → Extent → Direct → OperandByte → Option Placing
read_bytes x One d low = single_read x low
read_bytes x Two d low = option_and_then (double_read x low) (byte_of d 1)
read_bytes x extent d low = None

abbrev pub read_direct : Element → Extent → Direct → Option Placing
read_direct x extent d = option_and_then (read_bytes x extent d) (byte_of d 0)

-- the value is read behind the index
abbrev pub read_by : Framed → ℕ → Element → Extent → Typed → Option Placing
read_by f pushed x extent b = option_and_then (read_direct x extent) (direct_of f pushed b)

abbrev pub placing_or : Option Placing → Placing → Placing
placing_or (Some how) other = how
placing_or None other = other

-- the index is read behind the value
abbrev pub behind_if : Bool → Element → Extent → Option OperandByte → Option Placing
behind_if true x extent (Some d) = Some (Behind x extent d)
behind_if able x extent d = None

-- in this order of choice
abbrev pub placing_by : Framed → ℕ → Element → Extent → Typed → Typed → Placing
placing_by f pushed x extent a b =
    let short = is_some (doublings x.size) in
    placing_or (read_by f pushed x extent b)
    (placing_or (behind_if (short && is_pure b) x extent (index_byte f pushed a))
    (if is_light f pushed b then Held x extent
    else (if short && (is_pure b && (is_pure a && is_light_index f pushed a)) then Later x extent else Otherwise)))

abbrev pub placing_at : Framed → ℕ → Option (Element × IntType) → Typed → Typed → Placing
placing_at f pushed (Some x) a b = placing_by f pushed x.0 (extent_of x.1) a b
placing_at f pushed None a b = Otherwise

abbrev pub placing_of : Framed → ℕ → Typed → Typed → Placing
placing_of f pushed a b = placing_at f pushed (element_at f a) a b

-- the sides that take no lines have no labels, and an element those of its index and of its sum
abbrev pub PlacesFree : Placing → Typed → Typed → Type 0
PlacesFree (Read x low high) a b = (index_uses a ≡ uses None a) × (uses None b ≡ 0)
PlacesFree (Behind x extent d) a b = uses None a ≡ 1
PlacesFree (Held x extent) a b = index_uses a ≡ uses None a
PlacesFree (Later x extent) a b = index_uses a ≡ uses None a
PlacesFree Otherwise a b = Unit {0}

-- ---- lines

-- A, or AX, goes to the element by Y
abbrev pub stored_code : Element → Extent → List Line
stored_code x One = by_index Sta x.sym x.at ∷ []
stored_code x extent = by_index Sta x.sym x.at ∷ implied Txa ∷ by_index Sta x.sym (word_more x.at 1) ∷ []

abbrev pub high_read_code : Element → Option OperandByte → List Line
high_read_code x (Some high) = op_of Lda high ++ (by_index Sta x.sym (word_more x.at 1) ∷ [])
high_read_code x None = []

-- behind the index, the bytes of the value
abbrev pub read_code : Element → OperandByte → Option OperandByte → List Line
read_code x low high = reached_code x ++ (op_of Lda low ++ (by_index Sta x.sym x.at ∷ high_read_code x high))

-- the index comes to Y while A waits
abbrev pub index_behind_code : ℕ → Extent → OperandByte → List Line
index_behind_code size One d = implied Tax ∷ (op_of Lda d ++ (scaled_code size ++ (implied Tay ∷ implied Txa ∷ [])))
index_behind_code size extent d = implied Pha ∷ (op_of Lda d ++ (scaled_code size ++ (implied Tay ∷ implied Pla ∷ [])))

-- behind the value, the index and the store
abbrev pub behind_code : Element → Extent → OperandByte → List Line
behind_code x extent d = (if (x.size == 1) && not (takes_y d) then op_of Ldy d else index_behind_code x.size extent d) ++ stored_code x extent

-- the index begins to wait
abbrev pub waiting_code : Element → List Line
waiting_code x = scaled_code x.size ++ (zero_page Sta ptr2 ∷ [])

-- behind the value, the index that waited and the store
abbrev pub held_code : Element → Extent → List Line
held_code x extent = zero_page Ldy ptr2 ∷ stored_code x extent

-- the value begins to wait
abbrev pub value_waits_code : Extent → List Line
value_waits_code One = zero_page Sta ptr2 ∷ []
value_waits_code extent = zero_page Sta ptr2 ∷ zero_page Stx (ptr2 + 1) ∷ []

abbrev pub high_later_code : Element → Extent → List Line
high_later_code x One = []
high_later_code x extent = zero_page Lda (ptr2 + 1) ∷ by_index Sta x.sym (word_more x.at 1) ∷ []

-- behind the index, the value that waited
abbrev pub later_code : Element → Extent → List Line
later_code x extent = reached_code x ++ (zero_page Lda ptr2 ∷ by_index Sta x.sym x.at ∷ high_later_code x extent)
