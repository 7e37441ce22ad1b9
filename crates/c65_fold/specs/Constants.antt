-- Integer constant expressions (C90 6.4), and their values.
use Rattle.std.specs.Prelude.{ℤ, Bool, true, false, ◌&&◌, Option, Some, None, option_map, option_and_then, is_some, if◌then◌else◌}
use Rattle.c65_ints.specs.declared.types.IntType.{IntType}
use Rattle.c65_ints.specs.Ranges.{wrap_of}
use Rattle.c65_ctype.specs.Trees.{Ty, int, QTy, type_in}
use Rattle.c65_csem.specs.Trees.{Typed, node, Node, constant, convert, unary, binary, both, either, choice}
use Rattle.c65_fold.specs.Compute.{is_zero, truth, unary_value, binary_value}

-- the integer type that a type is
abbrev pub number_type : Ty → Option IntType
number_type (int k) = Some k
number_type _ = None

abbrev pub is_number : QTy → Bool
is_number t = is_some (number_type (type_in t))

-- Operators on integer constants alone: no comma, assignment or call, and casts between integer types only. The operands that
-- are not evaluated are of this form too.
abbrev mutual
  pub is_constant : Typed → Bool
  is_constant (node t e) = is_number t && is_constant_node e

  pub is_constant_node : Node → Bool
  is_constant_node (constant z) = true
  is_constant_node (convert e) = is_constant e
  is_constant_node (unary op e) = is_constant e
  is_constant_node (binary op a b) = is_constant a && is_constant b
  is_constant_node (both a b) = is_constant a && is_constant b
  is_constant_node (either a b) = is_constant a && is_constant b
  is_constant_node (choice x a b) = is_constant x && (is_constant a && is_constant b)
  is_constant_node _ = false

abbrev pub and_also : ℤ → Option ℤ → Option ℤ
and_also x y = if is_zero x then Some (truth false) else option_map (λ z. truth (if is_zero z then false else true)) y

abbrev pub or_else : ℤ → Option ℤ → Option ℤ
or_else x y = if is_zero x then option_map (λ z. truth (if is_zero z then false else true)) y else Some (truth true)

abbrev pub chosen : ℤ → Option ℤ → Option ℤ → Option ℤ
chosen x y z = if is_zero x then z else y

abbrev pub unary_of : Option IntType → Option ℤ → (IntType → ℤ → Option ℤ) → Option ℤ
unary_of None x f = None
unary_of (Some k) x f = option_and_then (f k) x

-- The value, where it is defined: none for a division by zero and a shift by too much, unless it is not evaluated.
abbrev mutual
  pub value_of : Typed → Option ℤ
  value_of (node t e) = value_in e (number_type (type_in t))

  pub value_in : Node → Option IntType → Option ℤ
  value_in (constant z) k = Some z
  value_in (convert e) k = unary_of k (value_of e) (λ j x. Some (wrap_of j x))
  value_in (unary op e) k = unary_of k (value_of e) (λ j x. unary_value op j x)
  value_in (binary op a b) k = unary_of k (value_of a) (λ j x. option_and_then (λ y. binary_value op j x y) (value_of b))
  value_in (both a b) k = option_and_then (λ x. and_also x (value_of b)) (value_of a)
  value_in (either a b) k = option_and_then (λ x. or_else x (value_of b)) (value_of a)
  value_in (choice x a b) k = option_and_then (λ z. chosen z (value_of a) (value_of b)) (value_of x)
  value_in _ k = None

-- the value of an integer constant expression
abbrev pub constant_of : Typed → Option ℤ
constant_of e = if is_constant e then value_of e else None
