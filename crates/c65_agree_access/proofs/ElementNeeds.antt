-- Elements have an index, so a value waits or none; and what is read has a byte.
use Rattle.std.proofs.Common.{◌≡◌, ◌≤◌, Option, Some, None, refl, arith}
use Rattle.std.specs.Prelude.{option_map}
use Rattle.c65_ints.specs.declared.types.IntType.TheVariants as I
use Rattle.c65_ctype.specs.Views.{types_of}
use Rattle.c65_csem.specs.Trees.{Typed, node, constant, null, literal, object, func, deref, member, load, address, decay, convert, unary, binary, both, either, choice, comma, assign, assign_op, assign_step, step, copy, call, pack, spill, rest as further}
use Rattle.c65_csem_need.specs.Needs.{need}
use Rattle.c65_meaning.specs.Store.{Shape, Number, Field, Pointer, Area, size_in}
use Rattle.c65_genframe.specs.Frames.{Framed}
use Rattle.c65_genexpr.specs.declared.elements.Element.{Element}
use Rattle.c65_genexpr.specs.Types.{bare, offset_at}
use Rattle.c65_genexpr.specs.Elements.{onward, sum_element, element_of}
use Rattle.c65_agree_put.specs.Laws.{IsScalar}

pub some_bytes : (f : Shape) → IsScalar f → 1 ≤ size_in f
some_bytes (Number I.SChar) scalar = omega arith
some_bytes (Number I.UChar) scalar = omega arith
some_bytes (Number I.Short) scalar = omega arith
some_bytes (Number I.UShort) scalar = omega arith
some_bytes (Number I.Int) scalar = omega arith
some_bytes (Number I.UInt) scalar = omega arith
some_bytes (Number I.Long) scalar = omega arith
some_bytes (Number I.ULong) scalar = omega arith
some_bytes (Pointer size) scalar = omega arith
some_bytes (Field kind low width) scalar = absurd scalar
some_bytes (Area size) scalar = absurd scalar

sum_needs : (f : Framed) (e : Typed) (x : Element) → sum_element f e ≡ Some x → 1 ≤ need e
sum_needs f (node t (constant z)) x h = absurd cc
sum_needs f (node t null) x h = absurd cc
sum_needs f (node t (literal n)) x h = absurd cc
sum_needs f (node t (object i)) x h = absurd cc
sum_needs f (node t (func i)) x h = absurd cc
sum_needs f (node t (deref e)) x h = absurd cc
sum_needs f (node t (member e m)) x h = absurd cc
sum_needs f (node t (load e)) x h = absurd cc
sum_needs f (node t (address e)) x h = absurd cc
sum_needs f (node t (decay e)) x h = absurd cc
sum_needs f (node t (convert e)) x h = absurd cc
sum_needs f (node t (unary op e)) x h = absurd cc
sum_needs f (node t (binary op y z)) x h = omega arith
sum_needs f (node t (both y z)) x h = absurd cc
sum_needs f (node t (either y z)) x h = absurd cc
sum_needs f (node t (choice y z v)) x h = absurd cc
sum_needs f (node t (comma y z)) x h = absurd cc
sum_needs f (node t (assign y z)) x h = absurd cc
sum_needs f (node t (assign_op op l y z)) x h = absurd cc
sum_needs f (node t (assign_step op y z)) x h = absurd cc
sum_needs f (node t (step how y)) x h = absurd cc
sum_needs f (node t (copy y z)) x h = absurd cc
sum_needs f (node t (call y es)) x h = absurd cc
sum_needs f (node t (pack y)) x h = absurd cc
sum_needs f (node t (spill i y)) x h = absurd cc
sum_needs f (node t further) x h = absurd cc

pub element_needs : (f : Framed) (e : Typed) (x : Element) → element_of f e ≡ Some x → 1 ≤ need e
element_needs f (node t (constant z)) x h = absurd cc
element_needs f (node t null) x h = absurd cc
element_needs f (node t (literal n)) x h = absurd cc
element_needs f (node t (object i)) x h = absurd cc
element_needs f (node t (func i)) x h = absurd cc
element_needs f (node t (deref e)) x h = sum_needs f e x h
element_needs f (node t (member e m)) x h = go (element_of f e) refl (element_needs f e) h
  where
    go : (o : Option Element) → element_of f e ≡ o → ((y : Element) → element_of f e ≡ Some y → 1 ≤ need e) → option_map (onward (offset_at (types_of f.parts.types) (bare e) m)) o ≡ Some x → 1 ≤ need e
    go None is deep h = absurd cc
    go (Some y) is deep h = deep y is
element_needs f (node t (load e)) x h = absurd cc
element_needs f (node t (address e)) x h = absurd cc
element_needs f (node t (decay e)) x h = absurd cc
element_needs f (node t (convert e)) x h = absurd cc
element_needs f (node t (unary op e)) x h = absurd cc
element_needs f (node t (binary op y z)) x h = absurd cc
element_needs f (node t (both y z)) x h = absurd cc
element_needs f (node t (either y z)) x h = absurd cc
element_needs f (node t (choice y z v)) x h = absurd cc
element_needs f (node t (comma y z)) x h = absurd cc
element_needs f (node t (assign y z)) x h = absurd cc
element_needs f (node t (assign_op op l y z)) x h = absurd cc
element_needs f (node t (assign_step op y z)) x h = absurd cc
element_needs f (node t (step how y)) x h = absurd cc
element_needs f (node t (copy y z)) x h = absurd cc
element_needs f (node t (call y es)) x h = absurd cc
element_needs f (node t (pack y)) x h = absurd cc
element_needs f (node t (spill i y)) x h = absurd cc
element_needs f (node t further) x h = absurd cc
