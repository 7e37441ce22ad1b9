-- The first values of automatic objects (C90 6.5.7).
use Rattle.std.specs.Prelude.{ℕ, ◌+◌, ◌%◌, nat_le, Bool, true, false, if◌then◌else◌, Option, None, Some, List, [], ◌∷◌}
use Rattle.c65_ctype.specs.Trees.{type_in}
use Rattle.c65_ctype.specs.Views.{types_of}
use Rattle.c65_csem.specs.Trees.{Typed, ObjectTy}
use Rattle.c65_csem.specs.Places.{is_tag}
use Rattle.c65_mach.specs.declared.rows.Op.TheVariants.{Sta, Stx}
use Rattle.c65_code.specs.declared.line.Line.{Line}
use Rattle.c65_code.specs.Segments.{Drafted}
use Rattle.c65_genframe.specs.declared.home.Home.{Home}
use Rattle.c65_genframe.specs.declared.home.Home.TheVariants as homes
use Rattle.c65_genframe.specs.Frames.{Framed, home_of, type_bytes}
use Rattle.c65_genframe.specs.Sizes.{object_in, bytes_or}
use Rattle.c65_genframe.specs.Symbols.{numbers_of, object_symbol}
use Rattle.c65_genload.specs.declared.places.Access.{Access}
use Rattle.c65_genload.specs.declared.places.Access.TheVariants.{Whole}
use Rattle.c65_genload.specs.declared.places.Place.TheVariants as places
use Rattle.c65_genload.specs.Stores.{store_code}
use Rattle.c65_genload.specs.Conversions.{size_of}
use Rattle.c65_genexpr.specs.Types.{bare, kind_in}
use Rattle.c65_genwide.specs.Lines.{with_lines}
use Rattle.c65_genentry.specs.Words.{ptr1, ptr2, zero_page, with_code}
use Rattle.c65_genentry.specs.Pointers.{near_code, symbol_code, far_store, clear_code}
use Rattle.c65_genentry.specs.Bytes.{block_labels}
use Rattle.c65_genentry.specs.Bytes as blocks
use Rattle.c65_genstmt.specs.declared.objects.Spot.{Spot}
use Rattle.c65_genstmt.specs.declared.objects.Spot.TheVariants.{Bank, Soft, Data}
use Rattle.c65_genstmt.specs.Jumps.{with_value}

-- where a byte of an object lies
abbrev pub spot_at : Framed → ℕ → ℕ → Option Home → Spot
spot_at f i offset (Some (homes.Bank bank)) = Bank ((bank + offset % 256) % 256)
spot_at f i offset (Some (homes.Soft from)) = Soft ((from + offset % 65536) % 65536)
spot_at f i offset None = Data (object_symbol (numbers_of f.parts) i) (offset % 65536)

abbrev pub spot_of : Framed → ℕ → ℕ → Spot
spot_of f i offset = spot_at f i offset (home_of f i)

abbrev pub bytes_in : Framed → Option ObjectTy → ℕ
bytes_in f None = 0
bytes_in f (Some o) = bytes_or (types_of f.parts.types) (type_in o.ty) 0

abbrev pub object_bytes : Framed → ℕ → ℕ
object_bytes f i = bytes_in f (object_in f.parts i)

-- a pointer in the zero page becomes the address of a byte
abbrev pub point_code : ℕ → Spot → List Line
point_code pointer (Bank bank) = []
point_code pointer (Soft at) = near_code pointer at
point_code pointer (Data sym at) = symbol_code pointer sym at

-- the primary register goes to a place; Y reaches 252 bytes above sp and three more
abbrev pub stored_code : Spot → Access → ℕ → List Line
stored_code (Bank bank) access bytes = store_code (places.Bank bank) access
stored_code (Soft at) access bytes = if nat_le at 252 then store_code (places.Near at) access else far_store at bytes
stored_code (Data sym at) access bytes = store_code (places.Data sym at) access

-- the draft with lines that copy so many bytes from the address in AX
abbrev pub with_copied : Spot → ℕ → Drafted → Drafted
with_copied spot bytes d =
    with_code (block_labels (bytes % 65536)) (blocks.copy_code (bytes % 65536) d.labels) (with_lines (with_lines d (zero_page Sta ptr1 ∷ zero_page Stx (ptr1 + 1) ∷ [])) (point_code ptr2 spot))

abbrev pub with_kept : Bool → Framed → Spot → Typed → Drafted → Drafted
with_kept true f spot e d = with_copied spot (type_bytes f (bare e)) d
with_kept false f spot e d = with_lines d (stored_code spot (Whole (kind_in e)) (size_of (kind_in e)))

-- with the initial value of a part of an automatic object
abbrev pub with_set : Framed → ℕ → ℕ → Typed → Drafted → Drafted
with_set f i offset e d = with_kept (is_tag (bare e)) f (spot_of f i offset) e (with_value f e d)

-- with so many bytes that become zero
abbrev pub with_zeros : Spot → ℕ → Drafted → Drafted
with_zeros (Bank bank) bytes d = with_lines d (clear_code bank bytes)
with_zeros (Soft at) bytes d = with_code (block_labels (bytes % 65536)) (blocks.clear_code (bytes % 65536) d.labels) (with_lines d (near_code ptr1 at))
with_zeros (Data sym at) bytes d = with_code (block_labels (bytes % 65536)) (blocks.clear_code (bytes % 65536) d.labels) (with_lines d (symbol_code ptr1 sym at))

-- with all bytes of an automatic object zero
abbrev pub with_cleared : Framed → ℕ → Drafted → Drafted
with_cleared f i d = with_zeros (spot_of f i 0) (object_bytes f i) d
