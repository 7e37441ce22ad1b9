-- Loads from regbank.
use Rattle.std.proofs.Common.{◌≡◌, ℕ, List, [], ◌++◌, Some, None, Bool, true, false, refl, sym, ap, ◌∙◌, subst}
use Rattle.std.specs.Prelude.{if◌then◌else◌, option_map}
use Rattle.c65_ints.specs.declared.types.IntType.{IntType}
use Rattle.c65_ctype.specs.Views.{types_of}
use Rattle.c65_csem.specs.Trees.{Typed, node, constant, null, literal, object, func, deref, member, load, address, decay, convert, unary, binary, both, either, choice, comma, assign, assign_op, assign_step, step, copy, call, pack, spill, rest as further}
use Rattle.c65_csem_need.specs.Needs.{need}
use Rattle.c65_meaning.specs.Items.{plan}
use Rattle.c65_code.specs.declared.line.Line.{Line}
use Rattle.c65_genframe.specs.Frames.{Framed}
use Rattle.c65_genload.specs.declared.places.Access.{Access}
use Rattle.c65_genload.specs.declared.places.Access.TheVariants.{Whole}
use Rattle.c65_genload.specs.declared.places.Extent.{Extent}
use Rattle.c65_genload.specs.declared.places.Extent.TheVariants.{One, Two, Three, Four}
use Rattle.c65_genload.specs.declared.places.Place.{Place}
use Rattle.c65_genload.specs.declared.places.Place.TheVariants.{Bank, Near, Data, Far}
use Rattle.c65_genload.specs.Places.{extent_of}
use Rattle.c65_genload.specs.Addresses.{offset_code}
use Rattle.c65_genload.specs.Loads.{load_code}
use Rattle.c65_gendirect.specs.declared.direct.Direct.TheVariants.{Kept}
use Rattle.c65_genexpr.specs.declared.destination.Destination.{Destination}
use Rattle.c65_genexpr.specs.declared.destination.Destination.TheVariants.{Registers, Pointer}
use Rattle.c65_genexpr.specs.declared.wanted.Wanted.TheVariants.{Value}
use Rattle.c65_genexpr.specs.Destination.{destination_by, arrived, fetch_by}
use Rattle.c65_genexpr.specs.Direct.{kept_at, direct_of}
use Rattle.c65_genexpr.specs.Elements.{onward, typed_by, element_by, sum_element, element_of, element_at}
use Rattle.c65_genexpr.specs.Places.{place_of, target_of, object_place, object_code, target_code, has_base, moved, is_plain}
use Rattle.c65_genexpr.specs.Types.{bare, offset_at, access_of}
use Rattle.c65_genexpr.specs.Code.{expr_code, base_code, pointer_base_code}
use Rattle.c65_agree_state.specs.World.{unit_in}
use Rattle.c65_agree_state.specs.Exprs.{Valued, Does, shape_in}
use Rattle.c65_agree_assign.specs.Places.{kind_in}
use Rattle.c65_agree_direct.proofs.Spots.{IsKnown}
use Rattle.c65_agree_direct.proofs.Known.{known_places_are_loaded}
use Rattle.c65_agree_structures.proofs.Members.{far_place}
use Rattle.c65_agree_access.specs.LoadLaws.{IsWhole, BankedLoadsDo}
use Rattle.c65_agree_access.proofs.Wholes.{places_are_whole}
use Rattle.c65_agree_access.proofs.Loads.{load_lines_are}

-- ---- a place that is known has no lines

no_lines : (place : Place) (lines : List Line) → IsKnown place → target_code place lines ≡ []
no_lines (Bank b) lines known = refl
no_lines (Near at) lines known = refl
no_lines (Data s at) lines known = refl
no_lines (Far at) lines known = absurd known

-- so is the whole of a part that is known, and tells it
record HasKnown (place : Place) (n : ℕ) : Type 0 where
  base : has_base place n ≡ true
  known : IsKnown place

has_known : (place : Place) (n : ℕ) → IsKnown (moved place n) → HasKnown place n
has_known place n known = go (has_base place n) refl
  where
    whole : (z : Place) → has_base z n ≡ true → IsKnown (moved z n) → IsKnown z
    whole (Bank b) h k = tt
    whole (Near at) h k = tt
    whole (Data s at) h k = tt
    whole (Far at) h k = absurd k

    go : (b : Bool) → has_base place n ≡ b → HasKnown place n
    go true h = record { base = h; known = whole place h known }
    go false h = absurd (subst IsKnown (far_place place n h) known)

module _ (f : Framed) (pushed fresh : ℕ) (d : Destination) where
  mutual
    known_base : (e : Typed) → is_plain e ≡ true → IsKnown (place_of f pushed e) → base_code f pushed fresh d e ≡ []
    known_base (node t (literal n)) plain known = refl
    known_base (node t (object i)) plain known = no_lines (object_place f pushed i) (object_code f pushed i ++ arrived d) known
    known_base (node t (deref e)) plain known = known_pointer e plain known
    known_base (node t (member e m)) plain known =
        let n : ℕ = offset_at (types_of f.parts.types) (bare e) m in
        let h : HasKnown (place_of f pushed e) n = has_known (place_of f pushed e) n known in
        ap (λ (b : Bool). if b then base_code f pushed fresh d e else expr_code f pushed fresh Value e ++ (offset_code n ++ arrived d)) h.base ∙ known_base e plain h.known
    known_base (node t (address e)) plain known = absurd known
    known_base (node t (decay e)) plain known = absurd known
    known_base (node t (constant z)) plain known = absurd known
    known_base (node t null) plain known = absurd known
    known_base (node t (func i)) plain known = absurd known
    known_base (node t (load e)) plain known = absurd known
    known_base (node t (convert e)) plain known = absurd known
    known_base (node t (unary op e)) plain known = absurd known
    known_base (node t (binary op y z)) plain known = absurd known
    known_base (node t (both y z)) plain known = absurd known
    known_base (node t (either y z)) plain known = absurd known
    known_base (node t (choice y z v)) plain known = absurd known
    known_base (node t (comma y z)) plain known = absurd known
    known_base (node t (assign y z)) plain known = absurd known
    known_base (node t (assign_op op k y z)) plain known = absurd known
    known_base (node t (assign_step op y z)) plain known = absurd known
    known_base (node t (step how e)) plain known = absurd known
    known_base (node t (copy y z)) plain known = absurd known
    known_base (node t (call e es)) plain known = absurd known
    known_base (node t (pack e)) plain known = absurd known
    known_base (node t (spill i e)) plain known = absurd known
    known_base (node t further) plain known = absurd known

    known_pointer : (e : Typed) → is_plain e ≡ true → IsKnown (target_of f pushed e) → pointer_base_code f pushed fresh d e ≡ []
    known_pointer (node t (address e)) plain known = known_base e plain known
    known_pointer (node t (decay e)) plain known = known_base e plain known
    known_pointer (node t (binary op y z)) plain known = absurd cc
    known_pointer (node t (literal n)) plain known = absurd known
    known_pointer (node t (object i)) plain known = absurd known
    known_pointer (node t (deref e)) plain known = absurd known
    known_pointer (node t (member e m)) plain known = absurd known
    known_pointer (node t (constant z)) plain known = absurd known
    known_pointer (node t null) plain known = absurd known
    known_pointer (node t (func i)) plain known = absurd known
    known_pointer (node t (load e)) plain known = absurd known
    known_pointer (node t (convert e)) plain known = absurd known
    known_pointer (node t (unary op e)) plain known = absurd known
    known_pointer (node t (both y z)) plain known = absurd known
    known_pointer (node t (either y z)) plain known = absurd known
    known_pointer (node t (choice y z v)) plain known = absurd known
    known_pointer (node t (comma y z)) plain known = absurd known
    known_pointer (node t (assign y z)) plain known = absurd known
    known_pointer (node t (assign_op op k y z)) plain known = absurd known
    known_pointer (node t (assign_step op y z)) plain known = absurd known
    known_pointer (node t (step how e)) plain known = absurd known
    known_pointer (node t (copy y z)) plain known = absurd known
    known_pointer (node t (call e es)) plain known = absurd known
    known_pointer (node t (pack e)) plain known = absurd known
    known_pointer (node t (spill i e)) plain known = absurd known
    known_pointer (node t further) plain known = absurd known

-- ---- a place that is told without a sum is no element

module _ (f : Framed) where
  -- of a pointer
  plain_sum : (e : Typed) → is_plain e ≡ true → sum_element f e ≡ None
  plain_sum (node t (literal n)) plain = refl
  plain_sum (node t (object i)) plain = refl
  plain_sum (node t (deref e)) plain = refl
  plain_sum (node t (member e m)) plain = refl
  plain_sum (node t (address e)) plain = refl
  plain_sum (node t (decay e)) plain = refl
  plain_sum (node t (constant z)) plain = absurd cc
  plain_sum (node t null) plain = absurd cc
  plain_sum (node t (func i)) plain = absurd cc
  plain_sum (node t (load e)) plain = absurd cc
  plain_sum (node t (convert e)) plain = absurd cc
  plain_sum (node t (unary op e)) plain = absurd cc
  plain_sum (node t (binary op y z)) plain = absurd cc
  plain_sum (node t (both y z)) plain = absurd cc
  plain_sum (node t (either y z)) plain = absurd cc
  plain_sum (node t (choice y z v)) plain = absurd cc
  plain_sum (node t (comma y z)) plain = absurd cc
  plain_sum (node t (assign y z)) plain = absurd cc
  plain_sum (node t (assign_op op k y z)) plain = absurd cc
  plain_sum (node t (assign_step op y z)) plain = absurd cc
  plain_sum (node t (step how e)) plain = absurd cc
  plain_sum (node t (copy y z)) plain = absurd cc
  plain_sum (node t (call e es)) plain = absurd cc
  plain_sum (node t (pack e)) plain = absurd cc
  plain_sum (node t (spill i e)) plain = absurd cc
  plain_sum (node t further) plain = absurd cc

  plain_none : (e : Typed) → is_plain e ≡ true → element_of f e ≡ None
  plain_none (node t (deref e)) plain = plain_sum e plain
  plain_none (node t (member e m)) plain = ap (option_map (onward (offset_at (types_of f.parts.types) (bare e) m))) (plain_none e plain)
  plain_none (node t (literal n)) plain = refl
  plain_none (node t (object i)) plain = refl
  plain_none (node t (address e)) plain = refl
  plain_none (node t (decay e)) plain = refl
  plain_none (node t (constant z)) plain = absurd cc
  plain_none (node t null) plain = absurd cc
  plain_none (node t (func i)) plain = absurd cc
  plain_none (node t (load e)) plain = absurd cc
  plain_none (node t (convert e)) plain = absurd cc
  plain_none (node t (unary op e)) plain = absurd cc
  plain_none (node t (binary op y z)) plain = absurd cc
  plain_none (node t (both y z)) plain = absurd cc
  plain_none (node t (either y z)) plain = absurd cc
  plain_none (node t (choice y z v)) plain = absurd cc
  plain_none (node t (comma y z)) plain = absurd cc
  plain_none (node t (assign y z)) plain = absurd cc
  plain_none (node t (assign_op op k y z)) plain = absurd cc
  plain_none (node t (assign_step op y z)) plain = absurd cc
  plain_none (node t (step how e)) plain = absurd cc
  plain_none (node t (copy y z)) plain = absurd cc
  plain_none (node t (call e es)) plain = absurd cc
  plain_none (node t (pack e)) plain = absurd cc
  plain_none (node t (spill i e)) plain = absurd cc
  plain_none (node t further) plain = absurd cc

none_typed : (kind : IntType) (extent : Extent) → typed_by kind extent None ≡ None
none_typed kind One = refl
none_typed kind Two = refl
none_typed kind Three = refl
none_typed kind Four = refl

pub plain_is_none : (f : Framed) (e : Typed) (kind : IntType) → is_plain e ≡ true → access_of (types_of f.parts.types) e ≡ Whole kind → element_at f e ≡ None
plain_is_none f e kind plain is = ap (λ (z : Access). element_by z (element_of f e)) is ∙ ap (typed_by kind (extent_of kind)) (plain_none f e plain) ∙ none_typed kind (extent_of kind)

-- ---- the law

fetch_there : (d : Destination) (b : ℕ) (kind : IntType) → fetch_by d (Bank b) kind ≡ load_code (Bank b) (Whole kind)
fetch_there Registers b kind = refl
fetch_there Pointer b kind = refl

pub banked_loads_do : BankedLoadsDo
banked_loads_do g a t e b placed frame typed whole_one plain lies kept_there pushed fresh =
    let whole : IsWhole g a e = places_are_whole g a e frame.parts typed.1 whole_one in
    let kind : IntType = kind_in (shape_in g a e) in
    let d : Destination = destination_by (extent_of kind) in
    let there : place_of a.frame pushed e ≡ Bank b = lies pushed in
    let direct : direct_of a.frame pushed (node t (load e)) ≡ Some (Kept (Bank b) kind) =
    ap (λ (p : Bool). if p then kept_at (place_of a.frame pushed e) (access_of (types_of a.frame.parts.types) e) else None) plain
    ∙ ap (λ (z : Access). kept_at (place_of a.frame pushed e) z) whole.access
    ∙ ap (λ (z : Place). kept_at z (Whole kind)) there in
    let lines : expr_code a.frame pushed fresh Value (node t (load e)) ≡ load_code (Bank b) (Whole kind) =
    load_lines_are a pushed fresh t e kind (plain_is_none a.frame e kind plain whole.access) whole.access
    ∙ ap (λ ls. ls ++ fetch_by d (place_of a.frame pushed e) kind) (known_base a.frame pushed fresh d e plain (subst IsKnown (sym there) tt))
    ∙ ap (λ (z : Place). fetch_by d z kind) there
    ∙ fetch_there d b kind in
    subst (λ ls. Does g a Valued (shape_in g a (node t (load e))) (plan (unit_in g) (node t (load e))) (need e) pushed ls) (sym lines) (known_places_are_loaded g a pushed (need e) t e (Bank b) kind placed frame typed direct kept_there)
