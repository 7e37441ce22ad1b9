-- What is told of a value whose bytes are read where they lie.
use Rattle.std.proofs.Common.{◌≡◌, ℕ, zero, suc, ◌+◌, ◌/◌, ◌%◌, ◌<◌, ◌≤◌, Some, None, Bool, true, false, ℤ, pos, refl, sym, ap, ◌∙◌, subst, arith}
use Rattle.std.specs.Prelude.{nat_le, nat_lt, ◌==◌, if◌then◌else◌, Ok}
use Rattle.std.proofs.lemmas.Bool.{eqb-true}
use Rattle.std.proofs.lemmas.Bool.Decides.{nat_tests}
use Rattle.std.proofs.Math.Nat.{mod-eq_of_lt}
use Rattle.c65_ints.specs.declared.types.IntType.{IntType}
use Rattle.c65_ints.specs.declared.types.IntType.TheVariants as I
use Rattle.c65_ints.specs.Ranges.{is_signed_of, residue, wrap_of}
use Rattle.c65_ctype.specs.Trees.{Ty, TypesTy, type_in}
use Rattle.c65_ctype.specs.Trees as types
use Rattle.c65_ctype.specs.Sizes.{size_of as bytes_of}
use Rattle.c65_csem.specs.Places.{is_scalar}
use Rattle.c65_meaning.specs.Integers.{byte_at}
use Rattle.c65_meaning.specs.Store.{Value, Whole, Null, Opaque, Cells, NoValue, is_live}
use Rattle.c65_meaning.specs.Store as values
use Rattle.c65_meaning.specs.Fits.{Fits}
use Rattle.c65_meaning.specs.Operators as meaning
use Rattle.c65_meaning.specs.Shapes.{shape_of}
use Rattle.c65_meaning.specs.State.{Scene}
use Rattle.c65_code.specs.declared.line.Sym.{Sym}
use Rattle.c65_code.specs.declared.routine.Width.{Width}
use Rattle.c65_code.specs.declared.routine.Width.TheVariants.{Ax, Eax}
use Rattle.c65_code.specs.LineState.{State, IsBytes}
use Rattle.c65_code.specs.Numbers.{words_of}
use Rattle.c65_code.specs.Placement.{located}
use Rattle.c65_genwide.specs.Wide.{width_of}
use Rattle.c65_genload.specs.declared.places.Place.{Place}
use Rattle.c65_genload.specs.declared.places.Place.TheVariants.{Bank, Near, Data, Far}
use Rattle.c65_genload.specs.Conversions.{size_of}
use Rattle.c65_genload.specs.Places.{byte_more, word_more}
use Rattle.c65_genload.specs.Words.{regbank}
use Rattle.c65_gendirect.specs.declared.bytes.OperandByte.{OperandByte}
use Rattle.c65_gendirect.specs.declared.bytes.OperandByte.TheVariants as operands
use Rattle.c65_gendirect.specs.declared.direct.Direct.{Direct}
use Rattle.c65_gendirect.specs.declared.direct.Direct.TheVariants.{Number, Address, Kept}
use Rattle.c65_gendirect.specs.Bytes.{number_byte, address_byte, place_byte, byte_of as operand_of, converted}
use Rattle.c65_genexpr.specs.Types.{kind_of}
use Rattle.c65_genexpr.specs.Operands.{residue_of}
use Rattle.c65_genexpr.specs.Direct.{takes_bytes}
use Rattle.c65_agree_store.specs.Stands.{Spot, At, Banked, Placing, ValueIs, stored_at}
use Rattle.c65_agree_store.specs.Laws.{number_in, byte_of}
use Rattle.c65_agree_state.specs.World.{World, Active}
use Rattle.c65_agree_state.specs.Exprs.{width_in}
use Rattle.c65_agree_places.specs.Places.{spot_in}
use Rattle.c65_agree_numbers.proofs.Residues.{word_below}
use Rattle.c65_agree_direct.specs.Operands.{byte_in, MayRead, register_bytes, IsLocated, HasBytes}
use Rattle.c65_agree_direct.proofs.Bytes.{fits_register, below_words, byte_is, byte_of_none, byte_first, byte_behind, number_below, wrapped_byte, wrapped_number, unsigned_stays, constant_byte, byte_below, none_byte}

none_wraps : (to : IntType) → wrap_of to (pos 0) ≡ pos 0
none_wraps I.SChar = refl
none_wraps I.UChar = refl
none_wraps I.Short = refl
none_wraps I.UShort = refl
none_wraps I.Int = refl
none_wraps I.UInt = refl
none_wraps I.Long = refl
none_wraps I.ULong = refl

taken_scalar : (to from : Ty) → takes_bytes to from ≡ true → is_scalar to ≡ true
taken_scalar (types.int x) from e = refl
taken_scalar (types.pointer q) from e = refl
taken_scalar types.void types.void e = cc
taken_scalar types.void (types.int x) e = cc
taken_scalar types.void (types.pointer r) e = cc
taken_scalar types.void (types.array r m) e = cc
taken_scalar types.void (types.tag m) e = cc
taken_scalar types.void (types.function h) e = cc
taken_scalar (types.array q n) types.void e = cc
taken_scalar (types.array q n) (types.int x) e = cc
taken_scalar (types.array q n) (types.pointer r) e = cc
taken_scalar (types.array q n) (types.array r m) e = cc
taken_scalar (types.array q n) (types.tag m) e = cc
taken_scalar (types.array q n) (types.function h) e = cc
taken_scalar (types.tag n) types.void e = cc
taken_scalar (types.tag n) (types.int x) e = cc
taken_scalar (types.tag n) (types.pointer r) e = cc
taken_scalar (types.tag n) (types.array r m) e = cc
taken_scalar (types.tag n) (types.tag m) e = cc
taken_scalar (types.tag n) (types.function h) e = cc
taken_scalar (types.function f) types.void e = cc
taken_scalar (types.function f) (types.int x) e = cc
taken_scalar (types.function f) (types.pointer r) e = cc
taken_scalar (types.function f) (types.array r m) e = cc
taken_scalar (types.function f) (types.tag m) e = cc
taken_scalar (types.function f) (types.function h) e = cc

-- regbank has six bytes
abbrev pub IsInRegbank : Place → Type 0
IsInRegbank (Bank at) = at < 6
IsInRegbank place = Unit {0}

-- above the scratch bytes of the zero page
abbrev pub IsAboveScratch : OperandByte → Type 0
IsAboveScratch (operands.Zero at) = 20 ≤ at
IsAboveScratch x = Unit {0}

module _ (g : World) (a : Active) (c : Scene) (w : Placing) (t : State) where
  -- the machine's bytes at a place
  abbrev pub bytes_at : Place → ℕ → ℕ
  bytes_at place = stored_at t (spot_in g a t place)

  -- what bytes tell of a value that is kept as an integer type
  abbrev pub Tells : IntType → (ℕ → ℕ) → Value → Type 0
  Tells kind f (Whole z) = ((i : ℕ) → i < size_of kind → byte_at i z ≡ f i) × (is_signed_of kind ≡ false → z ≡ pos (number_in f (size_of kind) 0))
  Tells kind f Opaque = Unit {0}
  Tells kind f Null = (kind ≡ I.UInt) × (number_in f 2 0 ≡ 0)
  Tells kind f (values.Place b o) = (kind ≡ I.UInt) × ValueIs w 65536 (values.Place b o) (number_in f 2 0)
  Tells kind f v = ⊥

  pub record IsKept (width : Width) (place : Place) (kind : IntType) (v : Value) : Type 0 where
    pub fits : size_of kind ≤ register_bytes width
    pub bytes : (i : ℕ) (x : OperandByte) → i < size_of kind → place_byte place i ≡ Some x → MayRead g t x × (byte_in g t x ≡ bytes_at place i)
    pub bank : IsInRegbank place
    pub value : Tells kind (bytes_at place) v

  abbrev pub IsConstant : ℕ → Value → Type 0
  IsConstant n (Whole z) = n ≡ residue_of z
  IsConstant n Null = n ≡ 0
  IsConstant n v = ⊥

  abbrev pub IsAddress : Sym → ℕ → Value → Type 0
  IsAddress s at (values.Place b o) = (x : ℕ) × (w b ≡ Some (At x)) × ((x + o) % 65536 ≡ located g.place s at) × (is_live c.store b ≡ true → x + o < 65536) × (g.place.address s.0 < 65536 → x + o < 65536)
  IsAddress s at Opaque = Unit {0}
  IsAddress s at v = ⊥

  abbrev pub IsToldBy : Width → Direct → Value → Type 0
  IsToldBy width (Number n) v = IsConstant n v
  IsToldBy width (Address s at) v = IsAddress s at v
  IsToldBy width (Kept place kind) v = IsKept width place kind v

  -- ---- its bytes

  has_constant : (width : Width) (n : ℕ) (v : Value) → IsConstant n v → HasBytes g c.store w t width (Number n) v
  has_constant width n (Whole z) e = record { word = residue (words_of width) z; is = refl; fits = λ h. word_below width z; bytes = there }
    where
      there : (i : ℕ) (x : OperandByte) → i < register_bytes width → Some (operands.Number (number_byte n i)) ≡ Some x → MayRead g t x × (byte_in g t x ≡ byte_of i (residue (words_of width) z))
      there i x lt f =
          let same : operands.Number (number_byte n i) ≡ x = cc in
          subst (λ y. MayRead g t y × (byte_in g t y ≡ byte_of i (residue (words_of width) z))) same (byte_below n i, ap (λ m. number_byte m i) e ∙ constant_byte width z i lt)
  has_constant width n Null e = record { word = 0; is = refl; fits = λ h. some width; bytes = there }
    where
      some : (width : Width) → 0 < words_of width
      some Ax = omega arith
      some Eax = omega arith

      there : (i : ℕ) (x : OperandByte) → i < register_bytes width → Some (operands.Number (number_byte n i)) ≡ Some x → MayRead g t x × (byte_in g t x ≡ byte_of i 0)
      there i x lt f =
          let same : operands.Number (number_byte n i) ≡ x = cc in
          subst (λ y. MayRead g t y × (byte_in g t y ≡ byte_of i 0)) same (byte_below n i, ap (λ m. number_byte m i) e ∙ none_byte i ∙ sym (byte_of_none i))
  has_constant width n (values.Place b o) e = absurd e
  has_constant width n Opaque e = absurd e
  has_constant width n (Cells xs) e = absurd e
  has_constant width n NoValue e = absurd e

  address_bytes : (s : Sym) (at word i : ℕ) (x : OperandByte) → word % 65536 ≡ located g.place s at → address_byte (operands.Low s at) (operands.High s at) i ≡ Some x → MayRead g t x × (byte_in g t x ≡ byte_of i word)
  address_bytes s at word i x e f = go (i == 0) refl (i == 1) refl f
    where
      go : (low : Bool) → (i == 0) ≡ low → (high : Bool) → (i == 1) ≡ high → (if low then Some (operands.Low s at) else (if high then Some (operands.High s at) else None)) ≡ Some x → MayRead g t x × (byte_in g t x ≡ byte_of i word)
      go true first high h f =
          let same : operands.Low s at ≡ x = cc in
          let is : i ≡ 0 = eqb-true i 0 first in
          let byte : located g.place s at % 256 ≡ byte_of 0 word = omega (arith, e) in
          subst (λ y. MayRead g t y × (byte_in g t y ≡ byte_of i word)) same (tt, byte ∙ ap (λ n. byte_of n word) (sym is))
      go false first true h f =
          let same : operands.High s at ≡ x = cc in
          let is : i ≡ 1 = eqb-true i 1 h in
          let byte : located g.place s at / 256 ≡ byte_of 1 word = omega (arith, e) in
          subst (λ y. MayRead g t y × (byte_in g t y ≡ byte_of i word)) same (tt, byte ∙ ap (λ n. byte_of n word) (sym is))
      go false first false h f = cc

  below_all : (width : Width) (n : ℕ) → n < 65536 → n < words_of width
  below_all Ax n lt = lt
  below_all Eax n lt = omega (arith, lt)

  has_address : (width : Width) (s : Sym) (at : ℕ) (v : Value) → IsAddress s at v → HasBytes g c.store w t width (Address s at) v
  has_address width s at (values.Place b o) h = record { word = h.0 + o; is = (h.0, h.1, refl); fits = λ live. below_all width (h.0 + o) (h.3 live); bytes = λ i x lt e. address_bytes s at (h.0 + o) i x h.2 e }
  has_address width s at Opaque h = record { word = located g.place s at; is = tt; fits = λ live. below_all width (located g.place s at) (omega arith); bytes = λ i x lt e. address_bytes s at (located g.place s at) i x (omega arith) e }
  has_address width s at (Whole z) h = absurd h
  has_address width s at Null h = absurd h
  has_address width s at (Cells xs) h = absurd h
  has_address width s at NoValue h = absurd h

  module _ (all : IsBytes t) where
    stored_below : (q : Spot) (p : ℕ) → stored_at t q p < 256
    stored_below (At at) p = all.mem (at + p)
    stored_below (Banked d i) p = all.zp (20 + (i + p))

    module _ (width : Width) (place : Place) (kind : IntType) where
      abbrev number : ℕ
      number = number_in (bytes_at place) (size_of kind) 0

      below : (p : ℕ) → bytes_at place p < 256
      below p = stored_below (spot_in g a t place) p

      -- the bytes that are kept, and zeros above them where there is no sign
      kept_bytes : ((i : ℕ) (x : OperandByte) → i < size_of kind → place_byte place i ≡ Some x → MayRead g t x × (byte_in g t x ≡ bytes_at place i)) → (word : ℕ)
          → ((i : ℕ) → i < size_of kind → bytes_at place i ≡ byte_of i word) → (is_signed_of kind ≡ false → (i : ℕ) → size_of kind ≤ i → i < register_bytes width → byte_of i word ≡ 0)
          → (i : ℕ) (x : OperandByte) → i < register_bytes width → operand_of (Kept place kind) i ≡ Some x → MayRead g t x × (byte_in g t x ≡ byte_of i word)
      kept_bytes there word low high i x lt e = go (nat_lt i (size_of kind)) refl (is_signed_of kind) refl e
        where
          go : (inside : Bool) → nat_lt i (size_of kind) ≡ inside → (sign : Bool) → is_signed_of kind ≡ sign → (if inside then place_byte place i else (if sign then None else Some (operands.Number 0))) ≡ Some x → MayRead g t x × (byte_in g t x ≡ byte_of i word)
          go true f sign h e =
              let less : i < size_of kind = grind (arith, nat_tests) in
              let h = there i x less e in (h.0, h.1 ∙ low i less)
          go false f true h e = cc
          go false f false h e =
              let more : size_of kind ≤ i = grind (arith, nat_tests) in
              let same : operands.Number 0 ≡ x = cc in
              subst (λ y. MayRead g t y × (byte_in g t y ≡ byte_of i word)) same (omega arith, sym (high h i more lt))

      -- the number of the bytes is the word
      as_number : (v : Value) → IsKept width place kind v → ValueIs w (words_of width) v number → HasBytes g c.store w t width (Kept place kind) v
      as_number v h is = record {
        word = number;
        is = is;
        fits = λ live. omega (arith, number_below kind (bytes_at place) below, below_words kind width h.fits);
        bytes = kept_bytes h.bytes number (λ i lt. sym (byte_first (bytes_at place) (size_of kind) i below lt)) (λ u i le lt. byte_behind (bytes_at place) (size_of kind) 0 i below le);
      }

      has_kept : (v : Value) → IsKept width place kind v → HasBytes g c.store w t width (Kept place kind) v
      has_kept (Whole z) h = go (is_signed_of kind) refl
        where
          go : (sign : Bool) → is_signed_of kind ≡ sign → HasBytes g c.store w t width (Kept place kind) (Whole z)
          go true e = record {
            word = residue (words_of width) z;
            is = refl;
            fits = λ live. word_below width z;
            bytes = kept_bytes h.bytes (residue (words_of width) z) (λ i lt. sym (h.value.0 i lt) ∙ sym (byte_is width z i (omega (arith, lt, h.fits)))) (λ u i le lt. let f : true ≡ false = sym e ∙ u in cc);
          }
          go false e =
              let few : number < words_of width = omega (arith, number_below kind (bytes_at place) below, below_words kind width h.fits) in
              as_number (Whole z) h (sym (ap (residue (words_of width)) (h.value.1 e) ∙ mod-eq_of_lt few))
      has_kept Opaque h = as_number Opaque h tt
      has_kept Null h = as_number Null h (ap (λ n. number_in (bytes_at place) (size_of n) 0) h.value.0 ∙ h.value.1)
      has_kept (values.Place b o) h =
          let same : number ≡ number_in (bytes_at place) 2 0 = ap (λ n. number_in (bytes_at place) (size_of n) 0) h.value.0 in
          as_number (values.Place b o) h (h.value.1.0, h.value.1.1, same ∙ h.value.1.2)
      has_kept (Cells xs) h = absurd h.value
      has_kept NoValue h = absurd h.value

    pub has_bytes : (width : Width) (d : Direct) (v : Value) → IsToldBy width d v → HasBytes g c.store w t width d v
    has_bytes width (Number n) v h = has_constant width n v h
    has_bytes width (Address s at) v h = has_address width s at v h
    has_bytes width (Kept place kind) v h = has_kept width place kind v h

    -- the word of a pointer has 16 bits, also where its block has ended
    pub pointer_bytes : (size : ℕ) (d : Direct) (v : Value) → Fits (values.Pointer size) v → IsLocated g d → IsToldBy Ax d v → (h : HasBytes g c.store w t Ax d v) × (h.word < 65536)
    unfolding has_constant has_address has_kept as_number
    pointer_bytes size (Number n) Null fit low h = let small : 0 < 65536 = omega arith in (has_constant Ax n Null h, small)
    pointer_bytes size (Number n) (values.Place b o) fit low h = absurd h
    pointer_bytes size (Number n) Opaque fit low h = absurd h
    pointer_bytes size (Address s at) Null fit low h = absurd h
    pointer_bytes size (Address s at) (values.Place b o) fit low h = (has_address Ax s at (values.Place b o) h, h.4 low)
    pointer_bytes size (Address s at) Opaque fit low h = let small : located g.place s at < 65536 = omega arith in (has_address Ax s at Opaque h, small)
    pointer_bytes size (Kept place kind) v fit low h = kept_pointer place kind v fit h
      where
        below_all_words : (place : Place) (kind : IntType) (v : Value) → IsKept Ax place kind v → number Ax place kind < 65536
        below_all_words place kind v h = omega (arith, number_below kind (bytes_at place) (below Ax place kind), below_words kind Ax h.fits)

        kept_pointer : (place : Place) (kind : IntType) (v : Value) → Fits (values.Pointer size) v → IsKept Ax place kind v → (h : HasBytes g c.store w t Ax (Kept place kind) v) × (h.word < 65536)
        kept_pointer place kind Null fit h = (has_kept Ax place kind Null h, below_all_words place kind Null h)
        kept_pointer place kind (values.Place b o) fit h = (has_kept Ax place kind (values.Place b o) h, below_all_words place kind (values.Place b o) h)
        kept_pointer place kind Opaque fit h = (has_kept Ax place kind Opaque h, below_all_words place kind Opaque h)
        kept_pointer place kind (Whole z) fit h = absurd fit
        kept_pointer place kind (Cells xs) fit h = absurd fit
        kept_pointer place kind NoValue fit h = absurd fit
    pointer_bytes size d (Whole z) fit low h = absurd fit
    pointer_bytes size d (Cells xs) fit low h = absurd fit
    pointer_bytes size d NoValue fit low h = absurd fit

  -- ---- where its bytes lie

  place_above : (place : Place) (i : ℕ) (x : OperandByte) → i < 4 → IsInRegbank place → place_byte place i ≡ Some x → IsAboveScratch x
  place_above (Bank at) i x few bank e = let same : operands.Zero (byte_more (byte_more regbank at) i) ≡ x = cc in subst IsAboveScratch same (omega (arith, few, bank))
  place_above (Near at) i x few bank e = let same : operands.Near (byte_more at i) ≡ x = cc in subst IsAboveScratch same tt
  place_above (Data s at) i x few bank e = let same : operands.Data s (word_more at i) ≡ x = cc in subst IsAboveScratch same tt
  place_above (Far at) i x few bank e = absurd cc

  kept_above : (width : Width) (place : Place) (kind : IntType) (v : Value) (i : ℕ) (x : OperandByte) → i < 4 → IsKept width place kind v → operand_of (Kept place kind) i ≡ Some x → IsAboveScratch x
  kept_above width place kind v i x few h e = go (nat_lt i (size_of kind)) (is_signed_of kind) e
    where
      go : (inside sign : Bool) → (if inside then place_byte place i else (if sign then None else Some (operands.Number 0))) ≡ Some x → IsAboveScratch x
      go true sign e = place_above place i x few h.bank e
      go false true e = absurd cc
      go false false e = let same : operands.Number 0 ≡ x = cc in subst IsAboveScratch same tt

  pub bytes_are_above : (width : Width) (d : Direct) (v : Value) (i : ℕ) (x : OperandByte) → i < 4 → IsToldBy width d v → operand_of d i ≡ Some x → IsAboveScratch x
  bytes_are_above width (Number n) v i x few h e = let same : operands.Number (number_byte n i) ≡ x = cc in subst IsAboveScratch same tt
  bytes_are_above width (Address s at) v i x few h e = go (i == 0) (i == 1) e
    where
      go : (low high : Bool) → (if low then Some (operands.Low s at) else (if high then Some (operands.High s at) else None)) ≡ Some x → IsAboveScratch x
      go true high e = let same : operands.Low s at ≡ x = cc in subst IsAboveScratch same tt
      go false true e = let same : operands.High s at ≡ x = cc in subst IsAboveScratch same tt
      go false false e = absurd cc
  bytes_are_above width (Kept place kind) v i x few h e = kept_above width place kind v i x few h e

  -- ---- conversions

  converted_address : (s : Sym) (at : ℕ) (to : Ty) (us : TypesTy) (v v2 : Value) → IsAddress s at v → meaning.converted (shape_of us to) v ≡ Ok v2 → is_scalar to ≡ true → IsAddress s at v2
  converted_address s at (types.int kind) us (values.Place b o) v2 h e scalar = let same : Opaque ≡ v2 = cc in subst (IsAddress s at) same tt
  converted_address s at (types.int kind) us Opaque v2 h e scalar = let same : Opaque ≡ v2 = cc in subst (IsAddress s at) same tt
  converted_address s at (types.pointer q) us (values.Place b o) v2 h e scalar = let same : values.Place b o ≡ v2 = cc in subst (IsAddress s at) same h
  converted_address s at (types.pointer q) us Opaque v2 h e scalar = let same : Opaque ≡ v2 = cc in subst (IsAddress s at) same tt
  converted_address s at to us (Whole z) v2 h e scalar = absurd h
  converted_address s at to us Null v2 h e scalar = absurd h
  converted_address s at to us (Cells xs) v2 h e scalar = absurd h
  converted_address s at to us NoValue v2 h e scalar = absurd h
  converted_address s at types.void us v v2 h e scalar = cc
  converted_address s at (types.array q n) us v v2 h e scalar = cc
  converted_address s at (types.tag n) us v v2 h e scalar = cc
  converted_address s at (types.function f) us v v2 h e scalar = cc

  -- as a type that is no longer than the kept one, or as the kept one
  module _ (width : Width) (place : Place) (from to : IntType) where
    abbrev f : ℕ → ℕ
    f = bytes_at place

    shorter : (v v2 : Value) → IsKept width place from v → size_of to ≤ size_of from → Tells to f v2 → IsKept (width_of to) place to v2
    shorter v v2 h le tells = record { fits = fits_register to; bytes = λ i x lt e. h.bytes i x (omega (arith, lt, le)) e; bank = h.bank; value = tells }

    longer : (v v2 : Value) → IsKept width place from v → size_of from < size_of to → Tells from f v2 → IsKept (width_of to) place from v2
    longer v v2 h lt tells = record { fits = omega (arith, lt, fits_register to); bytes = h.bytes; bank = h.bank; value = tells }

    -- a null pointer is 0
    none_at : number_in f 2 0 ≡ 0 → (i : ℕ) → i < 2 → byte_at i (pos 0) ≡ f i
    none_at e zero lt = omega (arith, e)
    none_at e (suc zero) lt = omega (arith, e)
    none_at e (suc (suc i)) lt = absurd (omega (arith, lt))

    none_tells : Tells from f Null → Tells from f (Whole (pos 0))
    none_tells h =
        let size : size_of from ≡ 2 = ap size_of h.0 in
        let same : number_in f (size_of from) 0 ≡ 0 = ap (λ n. number_in f n 0) size ∙ h.1 in
        (λ i lt. none_at h.1 i (omega (arith, lt, size)), λ u. ap pos (sym same))

    shorter_number : (z : ℤ) → Tells from f (Whole z) → size_of to ≤ size_of from → Tells to f (Whole (wrap_of to z))
    shorter_number z h le = (λ i lt. wrapped_byte to z i lt ∙ h.0 i (omega (arith, lt, le)), λ u. wrapped_number to z f u (λ i lt. h.0 i (omega (arith, lt, le))))

    longer_number : ((p : ℕ) → f p < 256) → (z : ℤ) → Tells from f (Whole z) → size_of from < size_of to → Tells from f (Whole (wrap_of to z))
    longer_number below z h more = (λ i lt. wrapped_byte to z i (omega (arith, lt, more)) ∙ h.0 i lt, λ u. ap (wrap_of to) (h.1 u) ∙ unsigned_stays from to (number_in f (size_of from) 0) more (number_below from f below))

    shorter_tells : (v v2 : Value) → Tells from f v → meaning.converted (values.Number to) v ≡ Ok v2 → size_of to ≤ size_of from → Tells to f v2
    shorter_tells (Whole z) v2 h e le = let same : Whole (wrap_of to z) ≡ v2 = cc in subst (Tells to f) same (shorter_number z h le)
    shorter_tells Null v2 h e le = let same : Whole (pos 0) ≡ v2 = cc in subst (Tells to f) (ap Whole (none_wraps to) ∙ same) (shorter_number (pos 0) (none_tells h) le)
    shorter_tells (values.Place b o) v2 h e le = let same : Opaque ≡ v2 = cc in subst (Tells to f) same tt
    shorter_tells Opaque v2 h e le = let same : Opaque ≡ v2 = cc in subst (Tells to f) same tt
    shorter_tells (Cells xs) v2 h e le = absurd h
    shorter_tells NoValue v2 h e le = absurd h

    longer_tells : ((p : ℕ) → f p < 256) → (v v2 : Value) → Tells from f v → meaning.converted (values.Number to) v ≡ Ok v2 → size_of from < size_of to → Tells from f v2
    longer_tells below (Whole z) v2 h e more = let same : Whole (wrap_of to z) ≡ v2 = cc in subst (Tells from f) same (longer_number below z h more)
    longer_tells below Null v2 h e more = let same : Whole (pos 0) ≡ v2 = cc in subst (Tells from f) same (none_tells h)
    longer_tells below (values.Place b o) v2 h e more = let same : Opaque ≡ v2 = cc in subst (Tells from f) same tt
    longer_tells below Opaque v2 h e more = let same : Opaque ≡ v2 = cc in subst (Tells from f) same tt
    longer_tells below (Cells xs) v2 h e more = absurd h
    longer_tells below NoValue v2 h e more = absurd h

    kept_as_number : IsBytes t → (v v2 : Value) → IsKept width place from v → meaning.converted (values.Number to) v ≡ Ok v2 → IsKept (width_of to) place (if nat_le (size_of to) (size_of from) then to else from) v2
    kept_as_number all v v2 h e = go (nat_le (size_of to) (size_of from)) refl
      where
        go : (less : Bool) → nat_le (size_of to) (size_of from) ≡ less → IsKept (width_of to) place (if less then to else from) v2
        go true less = let le : size_of to ≤ size_of from = grind (arith, nat_tests) in shorter v v2 h le (shorter_tells v v2 h.value e le)
        go false less = let more : size_of from < size_of to = grind (arith, nat_tests) in longer v v2 h more (longer_tells (λ p. stored_below all (spot_in g a t place) p) v v2 h.value e more)

  -- and a pointer as a pointer
  kept_as_pointer : (place : Place) (from : IntType) (size other : ℕ) (v v2 : Value) → IsKept Ax place from v → Fits (values.Pointer size) v → meaning.converted (values.Pointer other) v ≡ Ok v2 → IsKept Ax place (if nat_le 2 (size_of from) then I.UInt else from) v2
  kept_as_pointer place from size other v v2 h fit e = go (nat_le 2 (size_of from)) refl v refl fit e
    where
      same_kind : (less : Bool) → nat_le 2 (size_of from) ≡ less → from ≡ I.UInt → from ≡ (if less then I.UInt else from)
      same_kind true less e = e
      same_kind false less e = refl

      go : (less : Bool) → nat_le 2 (size_of from) ≡ less → (x : Value) → v ≡ x → Fits (values.Pointer size) x → meaning.converted (values.Pointer other) x ≡ Ok v2 → IsKept Ax place (if less then I.UInt else from) v2
      go less f Null is fit e =
          let told : Tells from (bytes_at place) Null = subst (Tells from (bytes_at place)) is h.value in
          let same : Null ≡ v2 = cc in
          subst (λ z. IsKept Ax place (if less then I.UInt else from) z) (is ∙ same) (subst (λ kind. IsKept Ax place kind v) (same_kind less f told.0) h)
      go less f (values.Place b o) is fit e =
          let told : Tells from (bytes_at place) (values.Place b o) = subst (Tells from (bytes_at place)) is h.value in
          let same : values.Place b o ≡ v2 = cc in
          subst (λ z. IsKept Ax place (if less then I.UInt else from) z) (is ∙ same) (subst (λ kind. IsKept Ax place kind v) (same_kind less f told.0) h)
      go true f Opaque is fit e =
          let le : 2 ≤ size_of from = grind (arith, nat_tests) in
          let same : Opaque ≡ v2 = cc in
          subst (λ z. IsKept Ax place I.UInt z) same (record { fits = omega arith; bytes = λ i x lt e. h.bytes i x (omega (arith, lt, le)) e; bank = h.bank; value = tt })
      go false f Opaque is fit e = let same : Opaque ≡ v2 = cc in subst (λ z. IsKept Ax place from z) same (record { fits = h.fits; bytes = h.bytes; bank = h.bank; value = tt })
      go less f (Whole z) is fit e = absurd fit
      go less f (Cells xs) is fit e = absurd fit
      go less f NoValue is fit e = absurd fit

  -- a conversion that takes bytes
  pub is_converted : (to from : Ty) (us : TypesTy) (d d2 : Direct) (v v2 : Value) → IsBytes t → takes_bytes to from ≡ true → converted (kind_of to) d ≡ Some d2 → Fits (shape_of us from) v → meaning.converted (shape_of us to) v ≡ Ok v2
      → IsToldBy (width_in (shape_of us from)) d v → IsToldBy (width_in (shape_of us to)) d2 v2
  is_converted to from us (Number n) d2 v v2 all takes e fit is told = cc
  is_converted to from us (Address s at) d2 v v2 all takes e fit is told = go (size_of (kind_of to) == 2) e
    where
      go : (two : Bool) → (if two then Some (Address s at) else None) ≡ Some d2 → IsToldBy (width_in (shape_of us to)) d2 v2
      go true e = let same : Address s at ≡ d2 = cc in subst (λ d. IsToldBy (width_in (shape_of us to)) d v2) same (converted_address s at to us v v2 told is (taken_scalar to from takes))
      go false e = cc
  is_converted (types.int to) from us (Kept place kind) d2 v v2 all takes e fit is told =
      let same : Kept place (if nat_le (size_of to) (size_of kind) then to else kind) ≡ d2 = cc in
      subst (λ d. IsToldBy (width_of to) d v2) same (kept_as_number (width_in (shape_of us from)) place kind to all v v2 told is)
  is_converted (types.pointer q) (types.pointer r) us (Kept place kind) d2 v v2 all takes e fit is told =
      let same : Kept place (if nat_le 2 (size_of kind) then I.UInt else kind) ≡ d2 = cc in
      subst (λ d. IsToldBy Ax d v2) same (kept_as_pointer place kind (bytes_of us (type_in r)) (bytes_of us (type_in q)) v v2 told fit is)
  is_converted types.void types.void us (Kept place kind) d2 v v2 all takes e fit is told = cc
  is_converted types.void (types.int x) us (Kept place kind) d2 v v2 all takes e fit is told = cc
  is_converted types.void (types.pointer r) us (Kept place kind) d2 v v2 all takes e fit is told = cc
  is_converted types.void (types.array r m) us (Kept place kind) d2 v v2 all takes e fit is told = cc
  is_converted types.void (types.tag m) us (Kept place kind) d2 v v2 all takes e fit is told = cc
  is_converted types.void (types.function h) us (Kept place kind) d2 v v2 all takes e fit is told = cc
  is_converted (types.pointer q) types.void us (Kept place kind) d2 v v2 all takes e fit is told = cc
  is_converted (types.pointer q) (types.int x) us (Kept place kind) d2 v v2 all takes e fit is told = cc
  is_converted (types.pointer q) (types.array r m) us (Kept place kind) d2 v v2 all takes e fit is told = cc
  is_converted (types.pointer q) (types.tag m) us (Kept place kind) d2 v v2 all takes e fit is told = cc
  is_converted (types.pointer q) (types.function h) us (Kept place kind) d2 v v2 all takes e fit is told = cc
  is_converted (types.array q n) types.void us (Kept place kind) d2 v v2 all takes e fit is told = cc
  is_converted (types.array q n) (types.int x) us (Kept place kind) d2 v v2 all takes e fit is told = cc
  is_converted (types.array q n) (types.pointer r) us (Kept place kind) d2 v v2 all takes e fit is told = cc
  is_converted (types.array q n) (types.array r m) us (Kept place kind) d2 v v2 all takes e fit is told = cc
  is_converted (types.array q n) (types.tag m) us (Kept place kind) d2 v v2 all takes e fit is told = cc
  is_converted (types.array q n) (types.function h) us (Kept place kind) d2 v v2 all takes e fit is told = cc
  is_converted (types.tag n) types.void us (Kept place kind) d2 v v2 all takes e fit is told = cc
  is_converted (types.tag n) (types.int x) us (Kept place kind) d2 v v2 all takes e fit is told = cc
  is_converted (types.tag n) (types.pointer r) us (Kept place kind) d2 v v2 all takes e fit is told = cc
  is_converted (types.tag n) (types.array r m) us (Kept place kind) d2 v v2 all takes e fit is told = cc
  is_converted (types.tag n) (types.tag m) us (Kept place kind) d2 v v2 all takes e fit is told = cc
  is_converted (types.tag n) (types.function h) us (Kept place kind) d2 v v2 all takes e fit is told = cc
  is_converted (types.function f) types.void us (Kept place kind) d2 v v2 all takes e fit is told = cc
  is_converted (types.function f) (types.int x) us (Kept place kind) d2 v v2 all takes e fit is told = cc
  is_converted (types.function f) (types.pointer r) us (Kept place kind) d2 v v2 all takes e fit is told = cc
  is_converted (types.function f) (types.array r m) us (Kept place kind) d2 v v2 all takes e fit is told = cc
  is_converted (types.function f) (types.tag m) us (Kept place kind) d2 v v2 all takes e fit is told = cc
  is_converted (types.function f) (types.function h) us (Kept place kind) d2 v v2 all takes e fit is told = cc
