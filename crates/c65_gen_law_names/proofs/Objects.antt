-- The symbols of the lines about the objects of a function.
use Rattle.std.proofs.Common.{◌≡◌, ℕ, ◌+◌, ◌%◌, Bool, true, false, Option, None, Some, List, [], ◌∷◌, refl}
use Rattle.std.specs.Prelude.{nat_le}
use Rattle.c65_csem.specs.Trees.{Typed}
use Rattle.c65_csem.specs.Places.{is_tag}
use Rattle.c65_mach.specs.declared.rows.Op.TheVariants.{Sta, Stx}
use Rattle.c65_code.specs.declared.line.Line.{Line}
use Rattle.c65_code.specs.Segments.{Drafted}
use Rattle.c65_genframe.specs.declared.home.Home.{Home}
use Rattle.c65_genframe.specs.declared.home.Home.TheVariants as homes
use Rattle.c65_genframe.specs.Frames.{Framed, home_of, type_bytes}
use Rattle.c65_genframe.specs.Symbols.{numbers_of, object_symbol}
use Rattle.c65_genwide.specs.Lines.{with_lines}
use Rattle.c65_genload.specs.declared.places.Access.{Access}
use Rattle.c65_genload.specs.declared.places.Access.TheVariants.{Whole}
use Rattle.c65_genload.specs.declared.places.Place.TheVariants as places
use Rattle.c65_genload.specs.Conversions.{size_of}
use Rattle.c65_genexpr.specs.Types.{bare, kind_in}
use Rattle.c65_genexpr.specs.declared.wanted.Wanted.TheVariants.{Value, Test}
use Rattle.c65_genentry.specs.Words.{ptr1, ptr2, zero_page, with_code}
use Rattle.c65_genentry.specs.Pointers as pointers
use Rattle.c65_genentry.specs.Bytes.{block_labels}
use Rattle.c65_genentry.specs.Bytes as blocks
use Rattle.c65_genstmt.specs.declared.objects.Spot.{Spot}
use Rattle.c65_genstmt.specs.declared.objects.Spot.TheVariants.{Bank, Soft, Data}
use Rattle.c65_genstmt.specs.Jumps.{with_value, with_effect, with_test}
use Rattle.c65_genstmt.specs.Objects.{spot_at, spot_of, point_code, stored_code, with_copied, with_kept, with_set, with_zeros}
use Rattle.c65_gen_law_names.specs.Trees.{KnownObject, KnownTree}
use Rattle.c65_gen_law_names.proofs.Known.{AllKnown, known_if, known_none, known_then}
use Rattle.c65_gen_law_names.proofs.Loads.{store_known}
use Rattle.c65_gen_law_names.proofs.Entries.{bank_clear_known, clear_known, copy_known, far_store_known, near_known}
use Rattle.c65_gen_law_names.proofs.Exprs.{expr_known}
use Rattle.c65_gen_law_names.proofs.Effects.{effect_known}

-- ---- values

pub value_known : (P : ℕ → Type 0) (f : Framed) (e : Typed) (d : Drafted) → KnownTree P f e → AllKnown P d.lines → AllKnown P (with_value f e d).lines
value_known P f e d tree h = known_then h (expr_known P f 0 d.labels Value e tree)

pub effect_put_known : (P : ℕ → Type 0) (f : Framed) (e : Typed) (d : Drafted) → KnownTree P f e → AllKnown P d.lines → AllKnown P (with_effect f e d).lines
effect_put_known P f e d tree h = known_then h (effect_known P f 0 d.labels e tree)

pub test_known : (P : ℕ → Type 0) (f : Framed) (to : ℕ) (s : Bool) (e : Typed) (d : Drafted) → KnownTree P f e → AllKnown P d.lines → AllKnown P (with_test f to s e d).lines
test_known P f to s e d tree h = known_then h (expr_known P f 0 d.labels (Test to s) e tree)

-- ---- where a byte of an object lies

abbrev pub KnownSpot : (ℕ → Type 0) → Spot → Type 0
KnownSpot P (Bank bank) = Unit {0}
KnownSpot P (Soft at) = Unit {0}
KnownSpot P (Data sym at) = P sym.0

spot_at_known : (P : ℕ → Type 0) (f : Framed) (i offset : ℕ) (home : Option Home) → (home ≡ None → P (object_symbol (numbers_of f.parts) i).0) → KnownSpot P (spot_at f i offset home)
spot_at_known P f i offset (Some (homes.Bank bank)) known = tt
spot_at_known P f i offset (Some (homes.Soft from)) known = tt
spot_at_known P f i offset None known = known refl

pub spot_known : (P : ℕ → Type 0) (f : Framed) (i offset : ℕ) → KnownObject P f i → KnownSpot P (spot_of f i offset)
spot_known P f i offset known = spot_at_known P f i offset (home_of f i) known

point_known : (P : ℕ → Type 0) (pointer : ℕ) (spot : Spot) → KnownSpot P spot → AllKnown P (point_code pointer spot)
point_known P pointer (Bank bank) h = known_none
point_known P pointer (Soft at) h = near_known P pointer at
point_known P pointer (Data sym at) h = record { all = (h, (h, tt)) }

stored_known : (P : ℕ → Type 0) (spot : Spot) (access : Access) (bytes : ℕ) → KnownSpot P spot → AllKnown P (stored_code spot access bytes)
stored_known P (Bank bank) access bytes h = store_known P (places.Bank bank) access tt
stored_known P (Soft at) access bytes h = known_if (nat_le at 252) (store_known P (places.Near at) access tt) (far_store_known P at bytes)
stored_known P (Data sym at) access bytes h = store_known P (places.Data sym at) access h

-- ---- first values

pub copied_known : (P : ℕ → Type 0) (spot : Spot) (bytes : ℕ) (d : Drafted) → KnownSpot P spot → AllKnown P d.lines → AllKnown P (with_copied spot bytes d).lines
copied_known P spot bytes d at h =
    let a : Drafted = with_lines d (zero_page Sta ptr1 ∷ zero_page Stx (ptr1 + 1) ∷ []) in
    let b : Drafted = with_lines a (point_code ptr2 spot) in
    let first : AllKnown P a.lines = known_then h (record { all = tt }) in
    let second : AllKnown P b.lines = known_then first (point_known P ptr2 spot at) in
    known_then second (copy_known P (bytes % 65536) d.labels)

kept_known : (P : ℕ → Type 0) (tagged : Bool) (f : Framed) (spot : Spot) (e : Typed) (d : Drafted) → KnownSpot P spot → AllKnown P d.lines → AllKnown P (with_kept tagged f spot e d).lines
kept_known P true f spot e d at h = copied_known P spot (type_bytes f (bare e)) d at h
kept_known P false f spot e d at h = known_then h (stored_known P spot (Whole (kind_in e)) (size_of (kind_in e)) at)

pub set_known : (P : ℕ → Type 0) (f : Framed) (i offset : ℕ) (e : Typed) (d : Drafted) → KnownObject P f i → KnownTree P f e → AllKnown P d.lines → AllKnown P (with_set f i offset e d).lines
set_known P f i offset e d known tree h = kept_known P (is_tag (bare e)) f (spot_of f i offset) e (with_value f e d) (spot_known P f i offset known) (value_known P f e d tree h)

cleared_known : (P : ℕ → Type 0) (pointer : List Line) (bytes : ℕ) (d : Drafted) → AllKnown P pointer → AllKnown P d.lines → AllKnown P (with_code (block_labels bytes) (blocks.clear_code bytes d.labels) (with_lines d pointer)).lines
cleared_known P pointer bytes d p h = known_then (known_then h p) (clear_known P bytes d.labels)

pub zeros_known : (P : ℕ → Type 0) (spot : Spot) (bytes : ℕ) (d : Drafted) → KnownSpot P spot → AllKnown P d.lines → AllKnown P (with_zeros spot bytes d).lines
zeros_known P (Bank bank) bytes d at h = known_then h (bank_clear_known P bank bytes)
zeros_known P (Soft at) bytes d known h = cleared_known P (pointers.near_code ptr1 at) (bytes % 65536) d (near_known P ptr1 at) h
zeros_known P (Data sym at) bytes d known h = cleared_known P (pointers.symbol_code ptr1 sym at) (bytes % 65536) d (point_known P ptr1 (Data sym at) known) h
