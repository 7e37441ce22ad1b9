-- The lines about the objects of a function.
use Rattle.std.proofs.Common.{◌≡◌, ℕ, ◌+◌, ◌%◌, ◌<◌, ◌≤◌, ◌^◌, Bool, true, false, Option, None, Some, List, [], ◌∷◌, refl, arith, rules}
use Rattle.std.specs.Prelude.{if◌then◌else◌, nat_le}
use Rattle.std.proofs.lemmas.Bool.{leb-true}
use Rattle.c65_csem.specs.Trees.{Typed, UnitTy}
use Rattle.c65_csem.specs.Typed.{IsTyped, IsGiven}
use Rattle.c65_csem.specs.Places.{is_tag}
use Rattle.c65_mach.specs.declared.rows.Op.TheVariants.{Sta, Stx}
use Rattle.c65_code.specs.declared.line.Line.{Line}
use Rattle.c65_code.specs.Segments.{Drafted}
use Rattle.c65_genframe.specs.declared.home.Home.{Home}
use Rattle.c65_genframe.specs.declared.home.Home.TheVariants as homes
use Rattle.c65_genframe.specs.Frames.{Framed, home_of, type_bytes}
use Rattle.c65_genframe.specs.Symbols.{numbers_of, object_symbol}
use Rattle.c65_genwide.specs.Lines.{with_lines}
use Rattle.c65_genload.specs.declared.places.Access.{Access}
use Rattle.c65_genload.specs.declared.places.Access.TheVariants.{Whole}
use Rattle.c65_genload.specs.declared.places.Place.TheVariants as places
use Rattle.c65_genload.specs.Stores.{store_code}
use Rattle.c65_genload.specs.Conversions.{size_of}
use Rattle.c65_genexpr.specs.Types.{bare, kind_in}
use Rattle.c65_genexpr.specs.Uses.{uses}
use Rattle.c65_genexpr.specs.declared.wanted.Wanted.TheVariants.{Value, Test}
use Rattle.c65_genexpr.specs.Code.{expr_code}
use Rattle.c65_genentry.specs.Words.{ptr1, ptr2, zero_page, with_code}
use Rattle.c65_genentry.specs.Pointers as pointers
use Rattle.c65_genentry.specs.Bytes.{block_labels}
use Rattle.c65_genentry.specs.Bytes as blocks
use Rattle.c65_geneffect.specs.Effects.{effect_code}
use Rattle.c65_genstmt.specs.declared.objects.Spot.{Spot}
use Rattle.c65_genstmt.specs.declared.objects.Spot.TheVariants.{Bank, Soft, Data}
use Rattle.c65_genstmt.specs.Jumps.{with_value, with_effect, with_test}
use Rattle.c65_genstmt.specs.Objects.{spot_at, spot_of, point_code, stored_code, with_copied, with_kept, with_set, with_zeros}
use Rattle.c65_asm_law.proofs.Well.{AllWell, well_append, well_none}
use Rattle.c65_asm_law.proofs.Loads.{store_well}
use Rattle.c65_asm_law.proofs.Known.{Knows}
use Rattle.c65_asm_law.proofs.Exprs.{expr_well, given_well}
use Rattle.c65_asm_law.proofs.Effects.{effect_well}
use Rattle.c65_asm_law.proofs.Entries.{near_well, far_store_well, bank_clear_well, clear_well, copy_well}

-- ---- values

pub value_well : (n : ℕ) (u : UnitTy) (f : Framed) (e : Typed) (d : Drafted) → Knows f u n → IsTyped u e → (with_value f e d).labels ≤ 2 ^ 32 → AllWell n d.lines → AllWell n (with_value f e d).lines
value_well n u f e d knows typed few h = well_append n d.lines (expr_code f 0 d.labels Value e) h (expr_well n u f 0 d.labels Value e knows typed (omega arith) tt few)

pub effect_put_well : (n : ℕ) (u : UnitTy) (f : Framed) (e : Typed) (d : Drafted) → Knows f u n → IsTyped u e → (with_effect f e d).labels ≤ 2 ^ 32 → AllWell n d.lines → AllWell n (with_effect f e d).lines
effect_put_well n u f e d knows typed few h = well_append n d.lines (effect_code f 0 d.labels e) h (effect_well n u f 0 d.labels e knows typed (omega arith) few)

pub returned_well : (n : ℕ) (u : UnitTy) (f : Framed) (e : Typed) (d : Drafted) → Knows f u n → IsGiven u e → (with_value f e d).labels ≤ 2 ^ 32 → AllWell n d.lines → AllWell n (with_value f e d).lines
returned_well n u f e d knows given few h = well_append n d.lines (expr_code f 0 d.labels Value e) h (given_well n u f 0 d.labels e knows given (omega arith) few)

pub test_well : (n : ℕ) (u : UnitTy) (f : Framed) (to : ℕ) (s : Bool) (e : Typed) (d : Drafted) → Knows f u n → IsTyped u e → to < 2 ^ 32 → d.labels + uses (Some s) e ≤ 2 ^ 32 → AllWell n d.lines → AllWell n (with_test f to s e d).lines
test_well n u f to s e d knows typed low few h = well_append n d.lines (expr_code f 0 d.labels (Test to s) e) h (expr_well n u f 0 d.labels (Test to s) e knows typed (omega arith) low few)

-- ---- where a byte of an object lies

abbrev pub WellSpot : ℕ → Spot → Type 0
WellSpot n (Bank bank) = Unit {0}
WellSpot n (Soft at) = at < 2 ^ 16
WellSpot n (Data sym at) = (sym.0 < n) × (at < 2 ^ 16)

spot_at_well : (n : ℕ) (f : Framed) (i offset : ℕ) (home : Option Home) → (object_symbol (numbers_of f.parts) i).0 < n → WellSpot n (spot_at f i offset home)
spot_at_well n f i offset (Some (homes.Bank bank)) known = tt
spot_at_well n f i offset (Some (homes.Soft from)) known = omega arith
spot_at_well n f i offset None known = (known, omega arith)

pub spot_well : (n : ℕ) (f : Framed) (i offset : ℕ) → (object_symbol (numbers_of f.parts) i).0 < n → WellSpot n (spot_of f i offset)
spot_well n f i offset known = spot_at_well n f i offset (home_of f i) known

point_well : (n pointer : ℕ) (spot : Spot) → pointer < 255 → WellSpot n spot → AllWell n (point_code pointer spot)
point_well n pointer (Bank bank) low h = well_none n
point_well n pointer (Soft at) low h = near_well n pointer at low h
point_well n pointer (Data sym at) low h = record { all = search (rules, low, h) }

stored_when : (n at : ℕ) (access : Access) (bytes : ℕ) (b : Bool) → nat_le at 252 ≡ b → at < 2 ^ 16 → AllWell n (if b then store_code (places.Near at) access else pointers.far_store at bytes)
stored_when n at access bytes true h few = store_well n (places.Near at) access (omega (arith, leb-true at 252 h))
stored_when n at access bytes false h few = far_store_well n at bytes few

stored_well : (n : ℕ) (spot : Spot) (access : Access) (bytes : ℕ) → WellSpot n spot → AllWell n (stored_code spot access bytes)
stored_well n (Bank bank) access bytes h = store_well n (places.Bank bank) access tt
stored_well n (Soft at) access bytes h = stored_when n at access bytes (nat_le at 252) refl h
stored_well n (Data sym at) access bytes h = store_well n (places.Data sym at) access h

-- ---- first values

pub copied_well : (n : ℕ) (spot : Spot) (bytes : ℕ) (d : Drafted) → WellSpot n spot → (with_copied spot bytes d).labels ≤ 2 ^ 32 → AllWell n d.lines → AllWell n (with_copied spot bytes d).lines
copied_well n spot bytes d at few h =
    let a : Drafted = with_lines d (zero_page Sta ptr1 ∷ zero_page Stx (ptr1 + 1) ∷ []) in
    let b : Drafted = with_lines a (point_code ptr2 spot) in
    let first : AllWell n a.lines = well_append n d.lines _ h (record { all = search rules }) in
    let second : AllWell n b.lines = well_append n a.lines _ first (point_well n ptr2 spot (omega arith) at) in
    well_append n b.lines _ second (copy_well n (bytes % 65536) d.labels (omega arith) few)

kept_well : (n : ℕ) (tagged : Bool) (f : Framed) (spot : Spot) (e : Typed) (d : Drafted) → WellSpot n spot → (with_kept tagged f spot e d).labels ≤ 2 ^ 32 → AllWell n d.lines → AllWell n (with_kept tagged f spot e d).lines
kept_well n true f spot e d at few h = copied_well n spot (type_bytes f (bare e)) d at few h
kept_well n false f spot e d at few h = well_append n d.lines _ h (stored_well n spot (Whole (kind_in e)) (size_of (kind_in e)) at)

kept_grows : (tagged : Bool) (f : Framed) (spot : Spot) (e : Typed) (d : Drafted) → d.labels ≤ (with_kept tagged f spot e d).labels
kept_grows true f spot e d = omega arith
kept_grows false f spot e d = omega arith

pub set_grows : (f : Framed) (i offset : ℕ) (e : Typed) (d : Drafted) → d.labels ≤ (with_set f i offset e d).labels
set_grows f i offset e d = omega (arith, kept_grows (is_tag (bare e)) f (spot_of f i offset) e (with_value f e d))

pub set_well : (n : ℕ) (u : UnitTy) (f : Framed) (i offset : ℕ) (e : Typed) (d : Drafted) → Knows f u n → (object_symbol (numbers_of f.parts) i).0 < n → IsTyped u e → (with_set f i offset e d).labels ≤ 2 ^ 32 → AllWell n d.lines → AllWell n (with_set f i offset e d).lines
set_well n u f i offset e d knows known typed few h =
    kept_well n (is_tag (bare e)) f (spot_of f i offset) e (with_value f e d) (spot_well n f i offset known) few (value_well n u f e d knows typed (omega (arith, few, kept_grows (is_tag (bare e)) f (spot_of f i offset) e (with_value f e d))) h)

cleared_well : (n : ℕ) (pointer : List Line) (bytes : ℕ) (d : Drafted) → AllWell n pointer → bytes < 65536 → d.labels + block_labels bytes ≤ 2 ^ 32 → AllWell n d.lines → AllWell n (with_code (block_labels bytes) (blocks.clear_code bytes d.labels) (with_lines d pointer)).lines
cleared_well n pointer bytes d p word few h = well_append n (with_lines d pointer).lines _ (well_append n d.lines pointer h p) (clear_well n bytes d.labels word few)

pub zeros_well : (n : ℕ) (spot : Spot) (bytes : ℕ) (d : Drafted) → WellSpot n spot → (with_zeros spot bytes d).labels ≤ 2 ^ 32 → AllWell n d.lines → AllWell n (with_zeros spot bytes d).lines
zeros_well n (Bank bank) bytes d at few h = well_append n d.lines _ h (bank_clear_well n bank bytes)
zeros_well n (Soft at) bytes d low few h = cleared_well n (pointers.near_code ptr1 at) (bytes % 65536) d (near_well n ptr1 at (omega arith) low) (omega arith) few h
zeros_well n (Data sym at) bytes d low few h = cleared_well n (pointers.symbol_code ptr1 sym at) (bytes % 65536) d (point_well n ptr1 (Data sym at) (omega arith) low) (omega arith) few h

pub zeros_grow : (spot : Spot) (bytes : ℕ) (d : Drafted) → d.labels ≤ (with_zeros spot bytes d).labels
zeros_grow (Bank bank) bytes d = omega arith
zeros_grow (Soft at) bytes d = omega arith
zeros_grow (Data sym at) bytes d = omega arith
