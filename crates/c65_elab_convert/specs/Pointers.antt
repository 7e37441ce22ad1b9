-- Null pointer constants, and what two pointers point to (C90 6.2.2.3, 6.3.16.1).
use Rattle.std.specs.Prelude.{ℕ, ℤ, Bool, true, false, ◌||◌, ◌&&◌, not, Option, Some, None, Result, Ok, Err}
use Rattle.c65_base.specs.declared.code.Code.TheVariants.{Operands}
use Rattle.c65_base.specs.declared.refusal.Pos.{Pos}
use Rattle.c65_base.specs.Answers.{Fault, at}
use Rattle.c65_ctype.specs.Trees.{Ty, int, pointer, QTy, qual, type_in, TypesTy}
use Rattle.c65_ctype.specs.Compatible.{are_compatible}
use Rattle.c65_ctype.specs.Sizes.{qualified_size_at}
use Rattle.c65_csem.specs.Trees.{Typed, node, Node, null, convert, type_of}
use Rattle.c65_csem.specs.Places.{is_void, plain_of}
use Rattle.c65_fold.specs.Compute.{is_zero}
use Rattle.c65_fold.specs.Constants.{constant_of}
use Rattle.c65_elab_convert.specs.Categories.{is_function}

abbrev pub is_nought : Option ℤ → Bool
is_nought None = false
is_nought (Some z) = is_zero z

abbrev pub is_zero_constant : Typed → Bool
is_zero_constant e = is_nought (constant_of e)

abbrev pub is_plain_void : QTy → Bool
is_plain_void (qual t c v) = (not c && not v) && is_void t

abbrev pub is_made_null : Typed → Bool
is_made_null (node t null) = true
is_made_null (node t (convert e)) = is_zero_constant e
is_made_null (node t _) = false

-- an integer constant expression of value 0, or such an expression cast to void *
abbrev pub null_by : Ty → Typed → Bool
null_by (int k) e = is_zero_constant e
null_by (pointer q) e = is_plain_void q && is_made_null e
null_by _ e = false

abbrev pub is_null : Typed → Bool
is_null e = null_by (type_in (type_of e)) e

-- compatible without their qualifiers
abbrev pub agree : TypesTy → QTy → QTy → Bool
agree types q r = are_compatible types (plain_of q) (plain_of r)

-- one is void and the other an object or incomplete type
abbrev pub meet_in_void : QTy → QTy → Bool
meet_in_void (qual t c v) (qual u d w) = (is_void t && not (is_function u)) || (is_void u && not (is_function t))

-- all the qualifiers of the second one
abbrev pub has_qualifiers : QTy → QTy → Bool
has_qualifiers (qual t c v) (qual u d w) = (c || not d) && (v || not w)

abbrev pub target_size_by : TypesTy → Pos → Ty → Result ℕ Fault
target_size_by types p (pointer q) = qualified_size_at types p q
target_size_by types p _ = Err (at Operands p)

-- the size of what a pointer points to
abbrev pub target_size : TypesTy → Pos → Typed → Result ℕ Fault
target_size types p e = target_size_by types p (type_in (type_of e))
