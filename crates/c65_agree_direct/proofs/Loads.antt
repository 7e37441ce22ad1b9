-- What is told of a value that is loaded.
use Rattle.std.proofs.Common.{◌≡◌, ℕ, zero, suc, ◌+◌, ◌<◌, ◌≤◌, inl, inr, Option, Some, None, Bool, true, false, refl, sym, ap, ◌∙◌, subst, arith}
use Rattle.std.specs.Prelude.{nat_le, if◌then◌else◌, Ok, Err}
use Rattle.std.proofs.lemmas.Bool.Decides.{nat_tests}
use Rattle.c65_ints.specs.declared.types.IntType.{IntType}
use Rattle.c65_ints.specs.declared.types.IntType.TheVariants as I
use Rattle.c65_ctype.specs.Sizes.{bytes_of}
use Rattle.c65_meaning.specs.declared.action.Action.TheVariants.{OutsideObject, EndedObject}
use Rattle.c65_meaning.specs.Why.{By, ◌>>=◌}
use Rattle.c65_meaning.specs.Store as values
use Rattle.c65_meaning.specs.Store.{Block, Store, Value, Whole, Null, Opaque, Cells, NoValue, Shape, Number, Field, Pointer, Area, size_in, read_cells, read}
use Rattle.c65_meaning.specs.Fits.{Fits}
use Rattle.c65_meaning.specs.State.{Scene}
use Rattle.c65_code.specs.LineState.{State, sp_of}
use Rattle.c65_code.specs.Placement.{IsPlacement, located}
use Rattle.c65_code.specs.Steady.{IsOpen}
use Rattle.c65_genload.specs.declared.places.Place.{Place}
use Rattle.c65_genload.specs.declared.places.Place.TheVariants.{Bank, Near, Data, Far}
use Rattle.c65_genload.specs.Words.{regbank}
use Rattle.c65_genload.specs.Places.{byte_more, word_more}
use Rattle.c65_genload.specs.Conversions.{size_of}
use Rattle.c65_gendirect.specs.declared.bytes.OperandByte.{OperandByte}
use Rattle.c65_gendirect.specs.declared.bytes.OperandByte.TheVariants as operands
use Rattle.c65_gendirect.specs.Bytes.{place_byte}
use Rattle.c65_agree_store.specs.Stands.{Spot, At, Banked, Placing, Banks, ValueIs, IsAt, LiesIn, beyond, stored_at}
use Rattle.c65_agree_store.specs.Laws.{number_in}
use Rattle.c65_agree_state.specs.World.{World, Active}
use Rattle.c65_agree_state.specs.Exprs.{Ready, width_in}
use Rattle.c65_agree_numbers.specs.Words.{word_of, narrowed}
use Rattle.c65_agree_places.specs.Places.{spot_in, IsReached}
use Rattle.c65_agree_places.proofs.Held.{held_bytes_are_open, numbers_are_there, pointers_are_there}
use Rattle.c65_agree_put.specs.Laws.{IsScalar}
use Rattle.c65_agree_put.proofs.Stores.{data_is_low}
use Rattle.c65_agree_assign.specs.Places.{kind_in}
use Rattle.c65_agree_load.specs.Loads.{CanLoad}
use Rattle.c65_agree_load.proofs.Fetched.{fits}
use Rattle.c65_agree_direct.specs.Operands.{byte_in, MayRead, register_bytes}
use Rattle.c65_agree_direct.proofs.Bytes.{sizes_agree, fits_register, read_byte, read_number}
use Rattle.c65_agree_direct.proofs.Spots.{LiesThere, IsTold}
use Rattle.c65_agree_direct.proofs.Values.{bytes_at, Tells, IsInRegbank, IsKept}

-- a value that is read lies in a live block
record IsRead (f : Shape) (s : Store) (b o : ℕ) (v : Value) : Type 0 where
  block : Block
  is : s b ≡ Some block
  live : block.live ≡ true
  fits : o + size_in f ≤ block.holds

is_read : (f : Shape) (s : Store) (b o : ℕ) (v : Value) → read f s b o ≡ Ok v → IsRead f s b o v
is_read f s b o v e = go (s b) refl e
  where
    go : (x : Option Block) → s b ≡ x → (values.reached x o (size_in f) >>= λ y. read_cells f y.cells o) ≡ Ok v → IsRead f s b o v
    go None is e = cc
    go (Some x) is e = by x.live refl (nat_le (o + size_in f) x.holds) refl e
      where
        by : (live : Bool) → x.live ≡ live → (fits : Bool) → nat_le (o + size_in f) x.holds ≡ fits → ((if live then (if fits then Ok x else Err (By OutsideObject)) else Err (By EndedObject)) >>= λ y. read_cells f y.cells o) ≡ Ok v → IsRead f s b o v
        by true live true fits e = record { block = x; is = is; live = live; fits = grind (arith, nat_tests) }
        by true live false fits e = cc
        by false live true fits e = cc
        by false live false fits e = cc

-- bytes behind a spot that is so far behind another one
numbers_beyond : (t : State) (q : Spot) (o n i : ℕ) → number_in (stored_at t (beyond q o)) n i ≡ number_in (stored_at t q) n (o + i)
numbers_beyond t q o zero i = refl
numbers_beyond t q o (suc n) i =
    let next : o + suc i ≡ suc (o + i) = omega arith in
    let rest : number_in (stored_at t (beyond q o)) n (suc i) ≡ number_in (stored_at t q) n (suc (o + i)) = numbers_beyond t q o n (suc i) ∙ ap (number_in (stored_at t q) n) next in
    let byte : stored_at t (beyond q o) i ≡ stored_at t q (o + i) = byte_beyond q in
    omega (arith, byte, rest)
  where
    byte_beyond : (r : Spot) → stored_at t (beyond r o) i ≡ stored_at t r (o + i)
    byte_beyond (At at) = let e : at + o + i ≡ at + (o + i) = omega arith in ap t.mem e
    byte_beyond (Banked d l) = let e : 20 + (l + o + i) ≡ 20 + (l + (o + i)) = omega arith in ap t.zp e

-- an open byte lies below the end of memory
open_low : (g : World) (placed : IsPlacement g.code g.place) (bound n : ℕ) → IsOpen g.place bound n → n < 65520
open_low g placed bound n (inl d) = let low = data_is_low g placed n d in omega (arith, low)
open_low g placed bound n (inr h) = h.1

least : (kind : IntType) → 0 < size_of kind
least I.SChar = omega arith
least I.UChar = omega arith
least I.Short = omega arith
least I.UShort = omega arith
least I.Int = omega arith
least I.UInt = omega arith
least I.Long = omega arith
least I.ULong = omega arith

pub most : (kind : IntType) → size_of kind ≤ 4
most I.SChar = omega arith
most I.UChar = omega arith
most I.Short = omega arith
most I.UShort = omega arith
most I.Int = omega arith
most I.UInt = omega arith
most I.Long = omega arith
most I.ULong = omega arith

-- the bytes of a place that may be loaded are read where they lie
bytes_are_read : (g : World) (a : Active) (t : State) (place : Place) (kind : IntType) → IsPlacement g.code g.place → IsTold place → CanLoad g t (spot_in g a t place) (size_of kind)
    → (i : ℕ) (x : OperandByte) → i < size_of kind → place_byte place i ≡ Some x → MayRead g t x × (byte_in g t x ≡ stored_at t (spot_in g a t place) i)
bytes_are_read g a t (Bank at) kind placed told can i x lt e =
    let same : operands.Zero (byte_more (byte_more regbank at) i) ≡ x = cc in
    let there : byte_more (byte_more regbank at) i ≡ 20 + (at + i) = omega (arith, can, lt) in
    subst (λ y. MayRead g t y × (byte_in g t y ≡ t.zp (20 + (at + i)))) same (omega (arith, there, can, lt), ap t.zp there)
bytes_are_read g a t (Near at) kind placed told can i x lt e =
    let same : operands.Near (byte_more at i) ≡ x = cc in
    let there : byte_more at i ≡ at + i = omega (arith, told, lt, most kind) in
    let on : sp_of t + (at + i) ≡ sp_of t + at + i = omega arith in
    let spot : sp_of t + byte_more at i ≡ sp_of t + at + i = ap (λ n. sp_of t + n) there ∙ on in
    subst (λ y. MayRead g t y × (byte_in g t y ≡ t.mem (sp_of t + at + i))) same ((omega arith, subst (IsOpen g.place (sp_of t)) (sym spot) (can i lt)), ap t.mem spot)
bytes_are_read g a t (Data s at) kind placed told can i x lt e =
    let same : operands.Data s (word_more at i) ≡ x = cc in
    let low = open_low g placed (sp_of t) (located g.place s at + i) (can i lt) in
    let there : located g.place s (word_more at i) ≡ located g.place s at + i = omega (arith, low) in
    subst (λ y. MayRead g t y × (byte_in g t y ≡ t.mem (located g.place s at + i))) same (subst (IsOpen g.place (sp_of t)) (sym there) (can i lt), ap t.mem there)
bytes_are_read g a t (Far at) kind placed told can i x lt e = cc

size_is : (f : Shape) → IsScalar f → size_in f ≡ size_of (kind_in f)
size_is (Number t) scalar = sym (sizes_agree t)
size_is (Pointer size) scalar = refl
size_is (Field t low width) scalar = absurd scalar
size_is (Area size) scalar = absurd scalar

width_is : (f : Shape) → IsScalar f → size_of (kind_in f) ≤ register_bytes (width_in f)
width_is (Number t) scalar = fits_register t
width_is (Pointer size) scalar = omega arith
width_is (Field t low width) scalar = absurd scalar
width_is (Area size) scalar = absurd scalar

module _ (g : World) (a : Active) (pushed needs : ℕ) (place : Place) (f : Shape) (c : Scene) (w : Placing) (k : Banks) (t : State) (b o : ℕ) (placed : IsPlacement g.code g.place) (r : Ready g a pushed needs c w k t) (scalar : IsScalar f) (lies : LiesThere g a c w t place b o) (v : Value) (e : read f c.store b o ≡ Ok v) where
  abbrev size : ℕ
  size = size_of (kind_in f)

  there : IsRead f c.store b o v
  there = is_read f c.store b o v e

  stood : (q : Spot) × (w b ≡ Some q)
  stood = r.joins.stands.placed b there.block there.is there.live

  abbrev q : Spot
  q = stood.0

  at : IsAt c.store w b there.block q
  at = record { is = there.is; live = there.live; place = stood.1 }

  reached : IsReached a q
  reached = (lies.meant there.block q at).0

  spot : spot_in g a t place ≡ beyond q o
  spot = (lies.meant there.block q at).1

  inside : o + size ≤ there.block.holds
  inside = omega (arith, there.fits, size_is f scalar)

  can : CanLoad g t (spot_in g a t place) size
  can = subst (λ s. CanLoad g t s size) (sym spot) (go q refl at)
    where
      go : (s : Spot) → q ≡ s → IsAt c.store w b there.block s → CanLoad g t (beyond s o) size
      go (At n) same is = λ i lt. let on : n + (o + i) ≡ n + o + i = omega arith in subst (IsOpen g.place (sp_of t)) on (held_bytes_are_open g a pushed needs c w k t b n (o + i) there.block r is (omega (arith, lt, inside)))
      go (Banked d l) same is = let low : LiesIn (Banked d l) there.block.size = r.joins.stands.lies b there.block (Banked d l) is in omega (arith, low, inside, r.joins.stands.whole b there.block there.is)

  byte_below : (p : ℕ) → bytes_at g a c w t place p < 256
  byte_below p = go (spot_in g a t place)
    where
      go : (s : Spot) → stored_at t s p < 256
      go (At n) = r.joins.bytes.mem (n + p)
      go (Banked d l) = r.joins.bytes.zp (20 + (l + p))

  -- the number of the bytes is that of the block's
  same_number : (n : ℕ) → number_in (bytes_at g a c w t place) n 0 ≡ number_in (stored_at t q) n o
  same_number n = let none_on : o + 0 ≡ o = omega arith in ap (λ s. number_in (stored_at t s) n 0) spot ∙ numbers_beyond t q o n 0 ∙ ap (number_in (stored_at t q) n) none_on

  value_fits : Fits f v
  value_fits = fits g a pushed needs place f c w k t b o placed r scalar lies.meant v e

  tells : Tells g a c w t (kind_in f) (bytes_at g a c w t place) v
  tells = go f scalar v e value_fits
    where
      go : (f : Shape) → IsScalar f → (v : Value) → read f c.store b o ≡ Ok v → Fits f v → Tells g a c w t (kind_in f) (bytes_at g a c w t place) v
      go (Number kind) s (Whole z) e fit =
          let h = (numbers_are_there g a c w k t b o there.block q kind z r.joins at reached e).1 in
          let word : narrowed kind (number_in (bytes_at g a c w t place) (size_of kind) 0) ≡ word_of kind z = ap (λ n. narrowed kind (number_in (bytes_at g a c w t place) n 0)) (sizes_agree kind) ∙ ap (narrowed kind) (same_number (bytes_of kind)) ∙ h in
          (λ i lt. read_byte kind (bytes_at g a c w t place) z i byte_below word lt, λ u. read_number kind (bytes_at g a c w t place) z byte_below fit word u)
      go (Number kind) s Opaque e fit = tt
      go (Number kind) s Null e fit = absurd fit
      go (Number kind) s (values.Place d p) e fit = absurd fit
      go (Number kind) s (Cells xs) e fit = absurd fit
      go (Number kind) s NoValue e fit = absurd fit
      go (Pointer n) s Null e fit = (refl, same_number 2 ∙ (pointers_are_there g a c w k t b o n there.block q Null r.joins at reached e).1)
      go (Pointer n) s (values.Place d p) e fit = (refl, subst (ValueIs w 65536 (values.Place d p)) (sym (same_number 2)) (pointers_are_there g a c w k t b o n there.block q (values.Place d p) r.joins at reached e).1)
      go (Pointer n) s Opaque e fit = tt
      go (Pointer n) s (Whole z) e fit = absurd fit
      go (Pointer n) s (Cells xs) e fit = absurd fit
      go (Pointer n) s NoValue e fit = absurd fit
      go (Field kind low width) s v e fit = absurd s
      go (Area n) s v e fit = absurd s

  in_regbank : (s : Place) → CanLoad g t (spot_in g a t s) size → IsInRegbank s
  in_regbank (Bank n) h = let some = least (kind_in f) in omega (arith, h, some)
  in_regbank (Near n) h = tt
  in_regbank (Data s n) h = tt
  in_regbank (Far n) h = tt

  pub is_kept : IsKept g a c w t (width_in f) place (kind_in f) v
  is_kept = record { fits = width_is f scalar; bytes = bytes_are_read g a t place (kind_in f) placed lies.told can; bank = in_regbank place can; value = tells }

  pub loaded_fits : Fits f v
  loaded_fits = value_fits
