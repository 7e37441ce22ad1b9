-- Kinds of types and expressions, as operators ask for them (C90 6.1.2.5, 6.2.2.1).
use Rattle.std.specs.Prelude.{ℕ, Bool, true, false, ◌&&◌, not}
use Rattle.c65_base.specs.declared.code.Code.{Code}
use Rattle.c65_base.specs.declared.code.Code.TheVariants.{VoidValue, Operands}
use Rattle.c65_ctype.specs.Trees.{Ty, void, int, pointer, array, tag, function, QTy, qual, type_in}
use Rattle.c65_csem.specs.Trees.{Typed, node, Node, literal, object, deref, member, spill, type_of}
use Rattle.c65_elab_convert.specs.declared.classes.Category.{Category}
use Rattle.c65_elab_convert.specs.declared.classes.Category.TheVariants as categories

abbrev pub category_of : Ty → Category
category_of void = categories.Void
category_of (int k) = categories.Int k
category_of (pointer q) = categories.Pointer
category_of (array q n) = categories.Other
category_of (tag n) = categories.Tag
category_of (function f) = categories.Other

-- the category of an expression's type
abbrev pub category_in : Typed → Category
category_in e = category_of (type_in (type_of e))

-- an operand that does not fit; the value of a void expression has a fault of its own
abbrev pub unfit : Code → Category → Code
unfit code categories.Void = VoidValue
unfit code (categories.Int k) = code
unfit code categories.Pointer = code
unfit code categories.Tag = code
unfit code categories.Other = code

abbrev pub unfit_pair : Code → Category → Category → Code
unfit_pair code a b = unfit (unfit code b) a

abbrev pub unfit_operands : Typed → Typed → Code
unfit_operands a b = unfit_pair Operands (category_in a) (category_in b)

abbrev pub unfit_operand : Code → Typed → Code
unfit_operand code e = unfit code (category_in e)

abbrev pub is_function : Ty → Bool
is_function (function f) = true
is_function _ = false

abbrev pub is_array : Ty → Bool
is_array (array q n) = true
is_array _ = false

abbrev pub is_scalar_category : Category → Bool
is_scalar_category (categories.Int k) = true
is_scalar_category categories.Pointer = true
is_scalar_category categories.Tag = false
is_scalar_category categories.Void = false
is_scalar_category categories.Other = false

abbrev pub is_scalar_type : QTy → Bool
is_scalar_type q = is_scalar_category (category_of (type_in q))

-- an expression that names an object, or a part of one, that is there after the expression
abbrev mutual
  pub is_lvalue : Typed → Bool
  is_lvalue (node t e) = is_lvalue_node e

  pub is_lvalue_node : Node → Bool
  is_lvalue_node (literal n) = true
  is_lvalue_node (object i) = true
  is_lvalue_node (deref e) = true
  is_lvalue_node (member e m) = is_lvalue e
  is_lvalue_node _ = false

-- what a call gave, or a part of it, which is no object of the program (C90 6.2.2.1)
abbrev mutual
  pub is_spilled : Typed → Bool
  is_spilled (node t e) = is_spilled_node e

  pub is_spilled_node : Node → Bool
  is_spilled_node (spill i e) = true
  is_spilled_node (member e m) = is_spilled e
  is_spilled_node _ = false
