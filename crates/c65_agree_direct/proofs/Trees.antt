-- Trees whose bytes are read where they lie.
use Rattle.std.proofs.Common.{◌≡◌, ℕ, ◌+◌, ◌<◌, List, ◌∷◌, Option, Some, None, Bool, true, false, ℤ, refl, sym, ap, ◌∙◌, subst, arith}
use Rattle.std.specs.Prelude.{if◌then◌else◌, Result, Ok, Err, length}
use Rattle.c65_ints.specs.declared.types.IntType.{IntType}
use Rattle.c65_ints.specs.Ranges.{InRange}
use Rattle.c65_ctype.specs.Trees.{Ty, QTy, qual, TypesTy, MemberTy, type_in}
use Rattle.c65_ctype.specs.Trees as types
use Rattle.c65_ctype.specs.Sizes.{size_of}
use Rattle.c65_ctype.specs.Views.{types_of}
use Rattle.c65_csem.specs.Trees.{Typed, node, constant, null, literal, object, func, deref, member, load, address, decay, convert, unary, binary, both, either, choice, comma, assign, assign_op, assign_step, step, copy, call, pack, spill, rest, type_of}
use Rattle.c65_csem.specs.Places.{is_place, is_scalar, member_at, plain, plain_of}
use Rattle.c65_csem.specs.Typed.{IsTyped, IsScalarPlace, decayed}
use Rattle.c65_csem.specs.Views.{func_of}
use Rattle.c65_meaning.specs.Why.{Why}
use Rattle.c65_meaning.specs.Store as values
use Rattle.c65_meaning.specs.Store.{Value, Whole, Null, Shape, Number, Pointer, read, is_live}
use Rattle.c65_meaning.specs.Fits.{Fits, IsTarget}
use Rattle.c65_meaning.specs.Operators as meaning
use Rattle.c65_meaning.specs.Items.{Item, Push, Fetch, Keep, Change, plan}
use Rattle.c65_meaning.specs.Shapes.{shape_of, place_shape, field_shape, member_shape}
use Rattle.c65_meaning.specs.State.{Scene, Running}
use Rattle.c65_meaning.specs.Step.{go_on}
use Rattle.c65_meaning.proofs.Fitting.{conversions_fit}
use Rattle.c65_code.specs.declared.line.Sym.{Sym}
use Rattle.c65_code.specs.LineState.{Place as Spot, State}
use Rattle.c65_code.specs.Placement.{IsPlacement, located}
use Rattle.c65_code.specs.Comes.{Seen}
use Rattle.c65_code.specs.declared.routine.Width.{Width}
use Rattle.c65_code.specs.declared.routine.Width.TheVariants.{Ax}
use Rattle.c65_genframe.specs.Frames.{Framed}
use Rattle.c65_genframe.specs.Symbols.{numbers_of, function_symbol}
use Rattle.c65_genload.specs.declared.places.Access.{Access}
use Rattle.c65_genload.specs.declared.places.Access.TheVariants as accesses
use Rattle.c65_genload.specs.declared.places.Place.{Place}
use Rattle.c65_genload.specs.declared.places.Place.TheVariants.{Bank, Near, Data, Far}
use Rattle.c65_gendirect.specs.declared.direct.Direct.{Direct}
use Rattle.c65_gendirect.specs.declared.direct.Direct.TheVariants as directs
use Rattle.c65_gendirect.specs.Bytes.{converted}
use Rattle.c65_genexpr.specs.Operands.{residue_of}
use Rattle.c65_genexpr.specs.Types.{kind_of, bare, access_of, field_or, bits_in}
use Rattle.c65_genexpr.specs.Places.{place_of, is_plain}
use Rattle.c65_genexpr.specs.Direct.{kept_at, address_at, address_of, takes_bytes, converted_if, direct_of}
use Rattle.c65_agree_store.specs.Stands.{At, Placing, Banks, LiesIn, Grows}
use Rattle.c65_agree_state.specs.World.{World, unit_in, Active, HasTurns}
use Rattle.c65_agree_state.specs.Follows.{Follows}
use Rattle.c65_agree_state.specs.Exprs.{Ready, width_in, shape_in}
use Rattle.c65_agree_rows.proofs.Quiet.{nothing_follows}
use Rattle.c65_agree_put.specs.Laws.{IsScalar}
use Rattle.c65_agree_assign.specs.Places.{kind_in}
use Rattle.c65_agree_direct.specs.Laws.{IsFrameOf, DirectTreesAreRead, DirectTreesAreReadOn}
use Rattle.c65_agree_direct.proofs.Spots.{mapped_below, IsKnown, LiesThere, live_block, lies_later}
use Rattle.c65_agree_direct.proofs.Places.{step_goes, behind_goes, PlaceIsRead, places_are_read}
use Rattle.c65_agree_direct.proofs.Values.{IsAddress, IsToldBy, has_bytes, is_converted}
use Rattle.c65_agree_direct.proofs.Loads.{is_kept, loaded_fits}

-- what is told of a value in each later state with the same scene
abbrev pub IsToldOn : World → Active → ℕ → Scene → Placing → Width → Direct → Value → Type 0
IsToldOn g a pushed c w width d v = (more_needs : ℕ) (w2 : Placing) (b2 : Banks) (u : State) → Grows w w2 → Ready g a pushed more_needs c w2 b2 u → IsToldBy g a c w2 u width d v

-- the work of a tree, as the law has it, with what is told of its value
abbrev pub IsRead : World → Active → ℕ → Shape → (List Item → List Item) → Direct → Type 0
IsRead g a pushed f work d = (needs n weight : ℕ) (k : List Item) (vs : List Value) (c : Scene) (w : Placing) (b : Banks) (p : Spot) (t : State) (seen : Seen)
    → Ready g a pushed needs c w b t → HasTurns g c.turns p seen
    → ((j : ℕ) (v : Value) → j < n → Fits f v → IsToldOn g a pushed c w (width_in f) d v → Follows g j (weight + 4000) (Running k (v ∷ vs) c) p t seen)
    → Follows g n weight (Running (work k) vs c) p t seen

-- ---- what is kept at a place

record IsWhole (place : Place) (access : Access) (d : Direct) : Type 0 where
  kind : IntType
  known : IsKnown place
  access_is : access ≡ accesses.Whole kind
  is : directs.Kept place kind ≡ d

whole_at : (place : Place) (access : Access) (d : Direct) → kept_at place access ≡ Some d → IsWhole place access d
whole_at (Far at) access d e = cc
whole_at (Bank at) (accesses.Whole kind) d e = record { kind = kind; known = tt; access_is = refl; is = cc }
whole_at (Near at) (accesses.Whole kind) d e = record { kind = kind; known = tt; access_is = refl; is = cc }
whole_at (Data s at) (accesses.Whole kind) d e = record { kind = kind; known = tt; access_is = refl; is = cc }
whole_at (Bank at) (accesses.Part field) d e = cc
whole_at (Near at) (accesses.Part field) d e = cc
whole_at (Data s at) (accesses.Part field) d e = cc

whole_kind : (x y : IntType) → accesses.Whole x ≡ accesses.Whole y → x ≡ y
whole_kind x y e = cc

no_field : (t : Ty) (s : Shape) → field_shape t None s ≡ s
no_field types.void s = refl
no_field (types.int k) s = refl
no_field (types.pointer q) s = refl
no_field (types.array q n) s = refl
no_field (types.tag n) s = refl
no_field (types.function f) s = refl

-- a member that is no bit-field
whole_member : (m : Option MemberTy) (kind x : IntType) (s : Shape) → field_or kind (bits_in m) ≡ accesses.Whole x → (x ≡ kind) × (member_shape m s ≡ s)
whole_member None kind x s e = (whole_kind x kind (sym e), refl)
whole_member (Some m) kind x s e = go m.bits refl
  where
    go : (bits : Option (ℕ × ℕ)) → m.bits ≡ bits → (x ≡ kind) × (field_shape (type_in m.ty) m.bits s ≡ s)
    go None f = (whole_kind x kind (sym e ∙ ap (field_or kind) f), ap (λ z. field_shape (type_in m.ty) z s) f ∙ no_field (type_in m.ty) s)
    go (Some z) f = let h : field_or kind (Some z) ≡ accesses.Whole x = sym (ap (field_or kind) f) ∙ e in cc

pub scalar_shape : (us : TypesTy) (t : Ty) → is_scalar t ≡ true → IsScalar (shape_of us t)
scalar_shape us (types.int k) e = tt
scalar_shape us (types.pointer q) e = tt
scalar_shape us types.void e = cc
scalar_shape us (types.array q n) e = cc
scalar_shape us (types.tag n) e = cc
scalar_shape us (types.function f) e = cc

pub kind_is : (us : TypesTy) (t : Ty) → is_scalar t ≡ true → kind_of t ≡ kind_in (shape_of us t)
kind_is us (types.int k) e = refl
kind_is us (types.pointer q) e = refl
kind_is us types.void e = cc
kind_is us (types.array q n) e = cc
kind_is us (types.tag n) e = cc
kind_is us (types.function f) e = cc

pub bare_plain : (t : QTy) → type_in (plain_of t) ≡ type_in t
bare_plain (qual t c v) = refl

-- the shape of what is loaded is that of its type
whole_shape : (us : TypesTy) (e : Typed) (x : IntType) → is_plain e ≡ true → is_place e ≡ true → access_of us e ≡ accesses.Whole x → (x ≡ kind_of (bare e)) × (place_shape us e ≡ shape_of us (bare e))
whole_shape us (node t (member e m)) x plain place h = whole_member (member_at us (bare e) m) (kind_of (type_in t)) x (shape_of us (type_in t)) h
whole_shape us (node t (literal l)) x plain place h = (whole_kind x (kind_of (type_in t)) (sym h), refl)
whole_shape us (node t (object i)) x plain place h = (whole_kind x (kind_of (type_in t)) (sym h), refl)
whole_shape us (node t (deref e)) x plain place h = (whole_kind x (kind_of (type_in t)) (sym h), refl)
whole_shape us (node t (constant z)) x plain place h = cc
whole_shape us (node t null) x plain place h = cc
whole_shape us (node t (func i)) x plain place h = cc
whole_shape us (node t (load e)) x plain place h = cc
whole_shape us (node t (address e)) x plain place h = cc
whole_shape us (node t (decay e)) x plain place h = cc
whole_shape us (node t (convert e)) x plain place h = cc
whole_shape us (node t (unary op e)) x plain place h = cc
whole_shape us (node t (binary op y z)) x plain place h = cc
whole_shape us (node t (both y z)) x plain place h = cc
whole_shape us (node t (either y z)) x plain place h = cc
whole_shape us (node t (choice y z v)) x plain place h = cc
whole_shape us (node t (comma y z)) x plain place h = cc
whole_shape us (node t (assign y z)) x plain place h = cc
whole_shape us (node t (assign_op op k y z)) x plain place h = cc
whole_shape us (node t (assign_step op y z)) x plain place h = cc
whole_shape us (node t (step how e)) x plain place h = cc
whole_shape us (node t (copy y z)) x plain place h = cc
whole_shape us (node t (call e es)) x plain place h = cc
whole_shape us (node t (pack e)) x plain place h = cc
whole_shape us (node t (spill i e)) x plain place h = cc
whole_shape us (node t rest) x plain place h = cc

-- ---- addresses

-- of a function, or of a place that is told without a sum
pub data Addressed (f : Framed) (pushed : ℕ) (e : Typed) (d : Direct) : Type 0 where
  of_function : (t : QTy) (i : ℕ) → e ≡ node t (func i) → directs.Address (function_symbol (numbers_of f.parts) i) 0 ≡ d → Addressed f pushed e d
  of_place : is_plain e ≡ true → address_at (place_of f pushed e) ≡ Some d → Addressed f pushed e d

module _ (f : Framed) (pushed : ℕ) (d : Direct) where
  if_plain : (e : Typed) → (if is_plain e then address_at (place_of f pushed e) else None) ≡ Some d → Addressed f pushed e d
  if_plain e h = go (is_plain e) refl h
    where
      go : (plain : Bool) → is_plain e ≡ plain → (if plain then address_at (place_of f pushed e) else None) ≡ Some d → Addressed f pushed e d
      go true p h = of_place p h
      go false p h = cc

  pub addressed : (e : Typed) → address_of f pushed e ≡ Some d → Addressed f pushed e d
  addressed (node t (func i)) h = of_function t i refl cc
  addressed (node t (constant z)) h = if_plain (node t (constant z)) h
  addressed (node t null) h = if_plain (node t null) h
  addressed (node t (literal l)) h = if_plain (node t (literal l)) h
  addressed (node t (object i)) h = if_plain (node t (object i)) h
  addressed (node t (deref e)) h = if_plain (node t (deref e)) h
  addressed (node t (member e m)) h = if_plain (node t (member e m)) h
  addressed (node t (load e)) h = if_plain (node t (load e)) h
  addressed (node t (address e)) h = if_plain (node t (address e)) h
  addressed (node t (decay e)) h = if_plain (node t (decay e)) h
  addressed (node t (convert e)) h = if_plain (node t (convert e)) h
  addressed (node t (unary op e)) h = if_plain (node t (unary op e)) h
  addressed (node t (binary op x y)) h = if_plain (node t (binary op x y)) h
  addressed (node t (both x y)) h = if_plain (node t (both x y)) h
  addressed (node t (either x y)) h = if_plain (node t (either x y)) h
  addressed (node t (choice x y z)) h = if_plain (node t (choice x y z)) h
  addressed (node t (comma x y)) h = if_plain (node t (comma x y)) h
  addressed (node t (assign x y)) h = if_plain (node t (assign x y)) h
  addressed (node t (assign_op op k x y)) h = if_plain (node t (assign_op op k x y)) h
  addressed (node t (assign_step op x y)) h = if_plain (node t (assign_step op x y)) h
  addressed (node t (step how e)) h = if_plain (node t (step how e)) h
  addressed (node t (copy x y)) h = if_plain (node t (copy x y)) h
  addressed (node t (call e es)) h = if_plain (node t (call e es)) h
  addressed (node t (pack e)) h = if_plain (node t (pack e)) h
  addressed (node t (spill i e)) h = if_plain (node t (spill i e)) h
  addressed (node t rest) h = if_plain (node t rest) h

decays : (q t : QTy) → decayed q ≡ Some t → (r : QTy) × (t ≡ plain (types.pointer r))
decays (qual (types.array r n) x y) t e = (r, cc)
decays (qual (types.function f) x y) t e = (qual (types.function f) false false, cc)
decays (qual types.void x y) t e = cc
decays (qual (types.int k) x y) t e = cc
decays (qual (types.pointer r) x y) t e = cc
decays (qual (types.tag n) x y) t e = cc

no_address : (d : Direct) → None ≡ Some d → ⊥
no_address d e = cc

-- ---- the work of trees

module _ (g : World) (a : Active) (pushed : ℕ) (placed : IsPlacement g.code g.place) (frame : IsFrameOf g a) where
  constant_read : (kind : IntType) (z : ℤ) → InRange kind z → IsRead g a pushed (Number kind) (λ k. Push (Whole z) ∷ k) (directs.Number (residue_of z))
  constant_read kind z range needs n weight k vs c w b p t seen r turns later = step_goes g a pushed needs n weight (Push (Whole z)) k vs c w b p t seen r turns (λ j lt. later j (Whole z) lt range (λ m w2 b2 u grows r2. refl))

  null_read : (size : ℕ) → IsRead g a pushed (Pointer size) (λ k. Push Null ∷ k) (directs.Number 0)
  null_read size needs n weight k vs c w b p t seen r turns later = step_goes g a pushed needs n weight (Push Null) k vs c w b p t seen r turns (λ j lt. later j Null lt tt (λ m w2 b2 u grows r2. refl))

  load_read : (f : Shape) (work : List Item → List Item) (place : Place) → IsScalar f → IsKnown place → PlaceIsRead g a pushed work place → IsRead g a pushed f (λ k. work (Fetch f ∷ k)) (directs.Kept place (kind_in f))
  load_read f work place scalar known whole needs n weight k vs c w b p t seen r turns later =
      whole needs n weight (Fetch f ∷ k) vs c w b p t seen r turns (λ j m o lt lies.
      behind_goes g a pushed needs j weight (Fetch f) k (values.Place m o ∷ vs) c w b p t seen r turns (λ i less. go i (omega (arith, lt, less)) m o lies (read f c.store m o) refl))
    where
      go : (i : ℕ) → i < n → (m o : ℕ) → LiesThere g a c w t place m o → (s : Result Value Why) → read f c.store m o ≡ s → Follows g i (weight + 4000) (go_on s k vs c) p t seen
      go i lt m o lies (Err why) e = nothing_follows g why i (weight + 4000) p t seen
      go i lt m o lies (Ok v) e = later i v lt (loaded_fits g a pushed needs place f c w b t m o placed r scalar lies v e) (λ more_needs w2 b2 u grows r2. is_kept g a pushed more_needs place f c w2 b2 u m o placed r2 scalar (lies_later g a pushed needs more_needs c w w2 b b2 t u r r2 grows place m o known lies) v e)

  module _ (i : ℕ) (lt : i < length g.parts.funcs.items) where
    abbrev at_symbol : ℕ
    at_symbol = g.place.address (function_symbol (numbers_of g.parts) i).0

    module _ (needs : ℕ) (c : Scene) (w : Placing) (b : Banks) (t : State) (r : Ready g a pushed needs c w b t) where
      func_small : is_live c.store i ≡ true → at_symbol + 0 < 65536
      func_small e =
          let l = live_block c.store i e in
          let lies : LiesIn (At at_symbol) l.block.size = r.joins.stands.lies i l.block (At at_symbol) (record { is = l.is; live = l.live; place = r.joins.symbols.funcs i lt }) in
          omega (arith, lies.1)

      func_told : IsAddress g a c w t (function_symbol (numbers_of g.parts) i) 0 (values.Place i 0)
      func_told = (at_symbol, r.joins.symbols.funcs i lt, refl, func_small, λ h. omega (arith, h))

    func_read : (size : ℕ) → IsRead g a pushed (Pointer size) (λ k. Push (values.Place i 0) ∷ Keep ∷ k) (directs.Address (function_symbol (numbers_of g.parts) i) 0)
    func_read size needs n weight k vs c w b p t seen r turns later =
        step_goes g a pushed needs n weight (Push (values.Place i 0)) (Keep ∷ k) vs c w b p t seen r turns (λ j less.
        behind_goes g a pushed needs j weight Keep k (values.Place i 0 ∷ vs) c w b p t seen r turns (λ h fewer. later h (values.Place i 0) (omega (arith, less, fewer)) tt (λ m w2 b2 u grows r2. func_told m c w2 b2 u r2)))

  module _ (c : Scene) (w : Placing) (t : State) (s : Sym) (at m o : ℕ) (lies : LiesThere g a c w t (Data s at) m o) where
    symbol_small : is_live c.store m ≡ true → lies.symbol.0 + o < 65536
    symbol_small live =
        let l = live_block c.store m live in
        let spot : At (located g.place s at) ≡ At (lies.symbol.0 + o) = (lies.meant l.block (At lies.symbol.0) (record { is = l.is; live = l.live; place = lies.symbol.1 })).1 in
        let same : located g.place s at ≡ lies.symbol.0 + o = cc in
        omega (arith, same)

    symbol_told : IsAddress g a c w t s at (values.Place m o)
    symbol_told = (lies.symbol.0, lies.symbol.1, lies.symbol.2, symbol_small, lies.symbol.3)

  data_read : (work : List Item → List Item) (s : Sym) (at : ℕ) (d : Direct) (size : ℕ) → directs.Address s at ≡ d → PlaceIsRead g a pushed work (Data s at) → IsRead g a pushed (Pointer size) (λ k. work (Keep ∷ k)) d
  data_read work s at d size same whole needs n weight k vs c w b p t seen r turns later =
      whole needs n weight (Keep ∷ k) vs c w b p t seen r turns (λ j m o lt lies.
      behind_goes g a pushed needs j weight Keep k (values.Place m o ∷ vs) c w b p t seen r turns (λ i less.
      later i (values.Place m o) (omega (arith, lt, less)) tt (λ more_needs w2 b2 u grows r2. subst (λ x. IsToldBy g a c w2 u Ax x (values.Place m o)) same (symbol_told c w2 u s at m o (lies_later g a pushed needs more_needs c w w2 b b2 t u r r2 grows (Data s at) m o tt lies)))))

  address_read : (work : List Item → List Item) (place : Place) (d : Direct) (size : ℕ) → address_at place ≡ Some d → PlaceIsRead g a pushed work place → IsRead g a pushed (Pointer size) (λ k. work (Keep ∷ k)) d
  address_read work (Data s at) d size e whole = let same : directs.Address s at ≡ d = cc in data_read work s at d size same whole
  address_read work (Bank at) d size e whole = absurd (no_address d e)
  address_read work (Near at) d size e whole = absurd (no_address d e)
  address_read work (Far at) d size e whole = absurd (no_address d e)

  target : (us : TypesTy) (to : Ty) → IsTarget (shape_of us to)
  target us types.void = tt
  target us (types.int k) = tt
  target us (types.pointer q) = tt
  target us (types.array q n) = tt
  target us (types.tag n) = tt
  target us (types.function f) = tt

  conversion_read : (us : TypesTy) (to from : Ty) (d d2 : Direct) (work : List Item → List Item) → takes_bytes to from ≡ true → converted (kind_of to) d ≡ Some d2
      → IsRead g a pushed (shape_of us from) work d → IsRead g a pushed (shape_of us to) (λ k. work (Change (shape_of us to) ∷ k)) d2
  conversion_read us to from d d2 work takes is whole needs n weight k vs c w b p t seen r turns later =
      whole needs n weight (Change (shape_of us to) ∷ k) vs c w b p t seen r turns (λ j v lt fit told.
      behind_goes g a pushed needs j weight (Change (shape_of us to)) k (v ∷ vs) c w b p t seen r turns (λ i less. go i (omega (arith, lt, less)) v fit told (meaning.converted (shape_of us to) v) refl))
    where
      go : (i : ℕ) → i < n → (v : Value) → Fits (shape_of us from) v → IsToldOn g a pushed c w (width_in (shape_of us from)) d v → (s : Result Value Why) → meaning.converted (shape_of us to) v ≡ s → Follows g i (weight + 4000) (go_on s k vs c) p t seen
      go i lt v fit told (Err why) e = nothing_follows g why i (weight + 4000) p t seen
      go i lt v fit told (Ok v2) e = later i v2 lt (conversions_fit (shape_of us to) v v2 (target us to) e) (λ m w2 b2 u grows r2. is_converted g a c w2 u to from us d d2 v v2 r2.joins.bytes takes is fit e (told m w2 b2 u grows r2))

  pointer_read : (e : Typed) (d : Direct) (size : ℕ) → IsTyped (unit_in g) e → address_of a.frame pushed e ≡ Some d → IsRead g a pushed (Pointer size) (λ k. plan (unit_in g) e (Keep ∷ k)) d
  pointer_read e d size typed is = go (addressed a.frame pushed d e is)
    where
      known : (place : Place) → address_at place ≡ Some d → IsKnown place
      known (Data s at) h = tt
      known (Bank at) h = tt
      known (Near at) h = tt
      known (Far at) h = cc

      go : Addressed a.frame pushed e d → IsRead g a pushed (Pointer size) (λ k. plan (unit_in g) e (Keep ∷ k)) d
      go (of_function t i named same) =
          let there : IsTyped (unit_in g) (node t (func i)) = subst (IsTyped (unit_in g)) named typed in
          let direct : directs.Address (function_symbol (numbers_of g.parts) i) 0 ≡ d = ap (λ parts. directs.Address (function_symbol (numbers_of parts) i) 0) (sym frame.parts) ∙ same in
          subst (λ x. IsRead g a pushed (Pointer size) (λ k. plan (unit_in g) x (Keep ∷ k)) d) (sym named)
          (subst (λ x. IsRead g a pushed (Pointer size) (λ k. Push (values.Place i 0) ∷ Keep ∷ k) x) direct (func_read i (mapped_below func_of g.parts.funcs.items i there.0 there.1) size))
      go (of_place plain there) = address_read (plan (unit_in g) e) (place_of a.frame pushed e) d size there (places_are_read g a pushed frame e plain typed (known (place_of a.frame pushed e) there))

  kept_read : (t : QTy) (e : Typed) (d : Direct) → IsTyped (unit_in g) e → IsScalarPlace e → t ≡ plain_of (type_of e) → is_plain e ≡ true → kept_at (place_of a.frame pushed e) (access_of (types_of a.frame.parts.types) e) ≡ Some d
      → IsRead g a pushed (shape_of (unit_in g).types (type_in t)) (λ k. plan (unit_in g) e (Fetch (place_shape (unit_in g).types e) ∷ k)) d
  kept_read t e d typed scalar same plain there =
      let us : TypesTy = (unit_in g).types in
      let place : Place = place_of a.frame pushed e in
      let whole = whole_at place (access_of (types_of a.frame.parts.types) e) d there in
      let access : access_of us e ≡ accesses.Whole whole.kind = ap (λ parts. access_of (types_of parts.types) e) (sym frame.parts) ∙ whole.access_is in
      let shape = whole_shape us e whole.kind plain scalar.0 access in
      let f : Shape = shape_of us (bare e) in
      let ty : type_in t ≡ bare e = ap type_in same ∙ bare_plain (type_of e) in
      let kind : whole.kind ≡ kind_in f = shape.0 ∙ kind_is us (bare e) scalar.1 in
      let direct : directs.Kept place (kind_in f) ≡ d = ap (directs.Kept place) (sym kind) ∙ whole.is in
      subst (λ x. IsRead g a pushed (shape_of us x) (λ k. plan (unit_in g) e (Fetch (place_shape us e) ∷ k)) d) (sym ty)
      (subst (λ x. IsRead g a pushed f (λ k. plan (unit_in g) e (Fetch x ∷ k)) d) (sym shape.1)
      (subst (IsRead g a pushed f (λ k. plan (unit_in g) e (Fetch f ∷ k))) direct
      (load_read f (plan (unit_in g) e) place (scalar_shape us (bare e) scalar.1) whole.known (places_are_read g a pushed frame e plain typed whole.known))))

  load_if : (t : QTy) (e : Typed) (d : Direct) → IsTyped (unit_in g) e → IsScalarPlace e → t ≡ plain_of (type_of e) → (plain : Bool) → is_plain e ≡ plain → (if plain then kept_at (place_of a.frame pushed e) (access_of (types_of a.frame.parts.types) e) else None) ≡ Some d
      → IsRead g a pushed (shape_of (unit_in g).types (type_in t)) (λ k. plan (unit_in g) e (Fetch (place_shape (unit_in g).types e) ∷ k)) d
  load_if t e d typed scalar same true plain there = kept_read t e d typed scalar same plain there
  load_if t e d typed scalar same false plain there = cc

  convert_if : (t : QTy) (e : Typed) (d : Direct) → ((x : Direct) → direct_of a.frame pushed e ≡ Some x → IsRead g a pushed (shape_in g a e) (plan (unit_in g) e) x) → (takes : Bool) → takes_bytes (type_in t) (bare e) ≡ takes
      → (o : Option Direct) → direct_of a.frame pushed e ≡ o → converted_if takes (kind_of (type_in t)) o ≡ Some d → IsRead g a pushed (shape_of (unit_in g).types (type_in t)) (λ k. plan (unit_in g) e (Change (shape_of (unit_in g).types (type_in t)) ∷ k)) d
  convert_if t e d part true takes (Some x) is there = conversion_read (unit_in g).types (type_in t) (bare e) x d (plan (unit_in g) e) takes there (part x is)
  convert_if t e d part true takes None is there = cc
  convert_if t e d part false takes o is there = cc

  pub trees_are_read : (e : Typed) (d : Direct) → IsTyped (unit_in g) e → direct_of a.frame pushed e ≡ Some d → IsRead g a pushed (shape_in g a e) (plan (unit_in g) e) d
  trees_are_read (node t (constant z)) d typed e =
      let same : directs.Number (residue_of z) ≡ d = cc in
      subst (λ q. IsRead g a pushed (shape_of (unit_in g).types (type_in q)) (λ k. Push (Whole z) ∷ k) d) (sym typed.1) (subst (IsRead g a pushed (Number typed.0) (λ k. Push (Whole z) ∷ k)) same (constant_read typed.0 z typed.2))
  trees_are_read (node t null) d typed e =
      let same : directs.Number 0 ≡ d = cc in
      subst (λ q. IsRead g a pushed (shape_of (unit_in g).types (type_in q)) (λ k. Push Null ∷ k) d) (sym typed.1) (subst (IsRead g a pushed (Pointer (size_of (unit_in g).types (type_in typed.0))) (λ k. Push Null ∷ k)) same (null_read (size_of (unit_in g).types (type_in typed.0))))
  trees_are_read (node t (load e)) d typed is = load_if t e d typed.0 typed.1 typed.2 (is_plain e) refl is
  trees_are_read (node t (address e)) d typed is = subst (λ q. IsRead g a pushed (shape_of (unit_in g).types (type_in q)) (λ k. plan (unit_in g) e (Keep ∷ k)) d) (sym typed.2) (pointer_read e d (size_of (unit_in g).types (bare e)) typed.0 is)
  trees_are_read (node t (decay e)) d typed is =
      let h = decays (type_of e) t typed.2 in
      subst (λ q. IsRead g a pushed (shape_of (unit_in g).types (type_in q)) (λ k. plan (unit_in g) e (Keep ∷ k)) d) (sym h.1) (pointer_read e d (size_of (unit_in g).types (type_in h.0)) typed.0 is)
  trees_are_read (node t (convert e)) d typed is = convert_if t e d (λ x h. trees_are_read e x typed.0 h) (takes_bytes (type_in t) (bare e)) refl (direct_of a.frame pushed e) refl is
  trees_are_read (node t (literal l)) d typed is = cc
  trees_are_read (node t (object i)) d typed is = cc
  trees_are_read (node t (func i)) d typed is = cc
  trees_are_read (node t (deref e)) d typed is = cc
  trees_are_read (node t (member e m)) d typed is = cc
  trees_are_read (node t (unary op e)) d typed is = cc
  trees_are_read (node t (binary op x y)) d typed is = cc
  trees_are_read (node t (both x y)) d typed is = cc
  trees_are_read (node t (either x y)) d typed is = cc
  trees_are_read (node t (choice x y z)) d typed is = cc
  trees_are_read (node t (comma x y)) d typed is = cc
  trees_are_read (node t (assign x y)) d typed is = cc
  trees_are_read (node t (assign_op op k x y)) d typed is = cc
  trees_are_read (node t (assign_step op x y)) d typed is = cc
  trees_are_read (node t (step how e)) d typed is = cc
  trees_are_read (node t (copy x y)) d typed is = cc
  trees_are_read (node t (call e es)) d typed is = cc
  trees_are_read (node t (pack e)) d typed is = cc
  trees_are_read (node t (spill i e)) d typed is = cc
  trees_are_read (node t rest) d typed is = cc

  -- of a load the number is kept as its type says
  pub record IsLoadOf (t : QTy) (e : Typed) (place : Place) (kind : IntType) : Type 0 where
    pub same : kind ≡ kind_in (shape_of (unit_in g).types (type_in t))
    pub scalar : IsScalar (shape_of (unit_in g).types (type_in t))
    pub known : IsKnown place
    pub plain : is_plain e ≡ true
    pub lies : place_of a.frame pushed e ≡ place
    pub shape : place_shape (unit_in g).types e ≡ shape_of (unit_in g).types (type_in t)

  pub load_kind : (t : QTy) (e : Typed) (place : Place) (kind : IntType) → IsTyped (unit_in g) (node t (load e)) → direct_of a.frame pushed (node t (load e)) ≡ Some (directs.Kept place kind) → IsLoadOf t e place kind
  load_kind t e place kind typed is = go (is_plain e) refl is
    where
      go : (plain : Bool) → is_plain e ≡ plain → (if plain then kept_at (place_of a.frame pushed e) (access_of (types_of a.frame.parts.types) e) else None) ≡ Some (directs.Kept place kind) → IsLoadOf t e place kind
      go false plain is = cc
      go true plain is =
          let us : TypesTy = (unit_in g).types in
          let whole = whole_at (place_of a.frame pushed e) (access_of (types_of a.frame.parts.types) e) (directs.Kept place kind) is in
          let access : access_of us e ≡ accesses.Whole whole.kind = ap (λ parts. access_of (types_of parts.types) e) (sym frame.parts) ∙ whole.access_is in
          let shape = whole_shape us e whole.kind plain typed.1.0 access in
          let ty : bare e ≡ type_in t = sym (ap type_in typed.2 ∙ bare_plain (type_of e)) in
          let same_kind : whole.kind ≡ kind = cc in
          let same_place : place_of a.frame pushed e ≡ place = cc in
          record {
            same = sym same_kind ∙ (shape.0 ∙ (kind_is us (bare e) typed.1.1 ∙ ap (λ x. kind_in (shape_of us x)) ty));
            scalar = subst (λ x. IsScalar (shape_of us x)) ty (scalar_shape us (bare e) typed.1.1);
            known = subst IsKnown same_place whole.known;
            plain = plain;
            lies = same_place;
            shape = shape.1 ∙ ap (shape_of us) ty;
          }

pub direct_trees_are_read : DirectTreesAreRead
direct_trees_are_read g a pushed e d placed frame typed is needs n weight k vs c w b p t seen r turns later =
    trees_are_read g a pushed placed frame e d typed is needs n weight k vs c w b p t seen r turns (λ j v lt fit told. later j v lt fit (has_bytes g a c w t r.joins.bytes (width_in (shape_in g a e)) d v (told needs w b t (λ m q same. same) r)))

pub direct_trees_are_read_on : DirectTreesAreReadOn
direct_trees_are_read_on g a pushed e d placed frame typed is needs n weight k vs c w b p t seen r turns later =
    trees_are_read g a pushed placed frame e d typed is needs n weight k vs c w b p t seen r turns (λ j v lt fit told.
    later j v lt fit (λ m w2 b2 u grows r2. has_bytes g a c w2 u r2.joins.bytes (width_in (shape_in g a e)) d v (told m w2 b2 u grows r2)))
