-- Places of numbers and pointers that are no bit-fields.
use Rattle.std.proofs.Common.{◌≡◌, ℕ, Option, Some, None, true, false, refl, ap, ◌∙◌}
use Rattle.std.specs.Prelude.{is_some}
use Rattle.c65_ints.specs.declared.types.IntType.{IntType}
use Rattle.c65_ctype.specs.Trees.{Ty, MemberTy, TypesTy, type_in}
use Rattle.c65_ctype.specs.Trees as types
use Rattle.c65_ctype.specs.Views.{types_of}
use Rattle.c65_csem.specs.Trees.{Typed, node, constant, null, literal, object, func, deref, member, load, address, decay, convert, unary, binary, both, either, choice, comma, assign, assign_op, assign_step, step, copy, call, pack, spill, rest as further}
use Rattle.c65_csem.specs.Places.{is_place, is_bits, is_bit_field, member_at}
use Rattle.c65_csem.specs.declared.items.Parts.{Parts}
use Rattle.c65_meaning.specs.Store.{Shape}
use Rattle.c65_meaning.specs.Shapes.{shape_of, field_shape, member_shape, place_shape}
use Rattle.c65_genload.specs.declared.places.Access.TheVariants.{Whole}
use Rattle.c65_genexpr.specs.Types.{kind_of, bare, field_or, bits_in, access_of}
use Rattle.c65_agree_state.specs.World.{unit_in}
use Rattle.c65_agree_direct.proofs.Trees.{scalar_shape, kind_is}
use Rattle.c65_agree_access.specs.LoadLaws.{PlacesAreWhole}

-- what is kept at a place is taken as whole, and has the shape of its type
abbrev AreWhole : TypesTy → Typed → Type 0
AreWhole us e = (place_shape us e ≡ shape_of us (bare e)) × (access_of us e ≡ Whole (kind_of (bare e)))

whole_bits : (t : Ty) (kind : IntType) (s : Shape) (bits : Option (ℕ × ℕ)) → is_some bits ≡ false → (field_shape t bits s ≡ s) × (field_or kind bits ≡ Whole kind)
whole_bits (types.int k) kind s None h = (refl, refl)
whole_bits types.void kind s None h = (refl, refl)
whole_bits (types.pointer q) kind s None h = (refl, refl)
whole_bits (types.array q n) kind s None h = (refl, refl)
whole_bits (types.tag n) kind s None h = (refl, refl)
whole_bits (types.function f) kind s None h = (refl, refl)
whole_bits t kind s (Some bits) h = cc

whole_member : (o : Option MemberTy) (kind : IntType) (s : Shape) → is_bits o ≡ false → (member_shape o s ≡ s) × (field_or kind (bits_in o) ≡ Whole kind)
whole_member None kind s h = (refl, refl)
whole_member (Some m) kind s h = whole_bits (type_in m.ty) kind s m.bits h

are_whole : (us : TypesTy) (e : Typed) → is_place e ≡ true → is_bit_field us e ≡ false → AreWhole us e
are_whole us (node t (literal n)) place h = (refl, refl)
are_whole us (node t (object i)) place h = (refl, refl)
are_whole us (node t (func i)) place h = (refl, refl)
are_whole us (node t (deref e)) place h = (refl, refl)
are_whole us (node t (member e m)) place h = whole_member (member_at us (bare e) m) (kind_of (type_in t)) (shape_of us (type_in t)) h
are_whole us (node t (constant z)) place h = absurd cc
are_whole us (node t null) place h = absurd cc
are_whole us (node t (load e)) place h = absurd cc
are_whole us (node t (address e)) place h = absurd cc
are_whole us (node t (decay e)) place h = absurd cc
are_whole us (node t (convert e)) place h = absurd cc
are_whole us (node t (unary op e)) place h = absurd cc
are_whole us (node t (binary op y z)) place h = absurd cc
are_whole us (node t (both y z)) place h = absurd cc
are_whole us (node t (either y z)) place h = absurd cc
are_whole us (node t (choice y z v)) place h = absurd cc
are_whole us (node t (comma y z)) place h = absurd cc
are_whole us (node t (assign y z)) place h = absurd cc
are_whole us (node t (assign_op op k y z)) place h = absurd cc
are_whole us (node t (assign_step op y z)) place h = absurd cc
are_whole us (node t (step how e)) place h = absurd cc
are_whole us (node t (copy y z)) place h = absurd cc
are_whole us (node t (call e es)) place h = absurd cc
are_whole us (node t (pack e)) place h = absurd cc
are_whole us (node t (spill i e)) place h = absurd cc
are_whole us (node t further) place h = absurd cc

pub places_are_whole : PlacesAreWhole
places_are_whole g a e parts scalar plain =
    let us : TypesTy = (unit_in g).types in
    let whole : AreWhole us e = are_whole us e scalar.0 plain in
    record {
      scalar = scalar_shape us (bare e) scalar.1;
      shape = whole.0;
      access = ap (λ (p : Parts). access_of (types_of p.types) e) parts ∙ whole.1 ∙ ap Whole (kind_is us (bare e) scalar.1);
    }
