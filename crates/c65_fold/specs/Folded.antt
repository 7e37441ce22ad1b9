-- Operators on integer constants replaced by their values, from the leaves up (C90 6.4).
use Rattle.std.specs.Prelude.{◌≡◌, ℤ, Option, Some, None, option_and_then, if◌then◌else◌}
use Rattle.c65_ints.specs.declared.types.IntType.{IntType}
use Rattle.c65_ints.specs.Ranges.{wrap_of}
use Rattle.c65_ctype.specs.Trees.{QTy, type_in}
use Rattle.c65_csem.specs.Trees.{Typed, node, Node, constant, null, literal, object, func, deref, member, load, address, decay, convert, unary, binary, both, either, choice, comma, assign, assign_op, assign_step, step, copy, call, pack, spill, rest, Nodes, none, some}
use Rattle.c65_fold.specs.Compute.{is_zero, unary_value, binary_value}
use Rattle.c65_fold.specs.Constants.{number_type, and_also, or_else}

-- the value of an integer constant
abbrev pub known : Typed → Option ℤ
known (node t (constant z)) = Some z
known (node t _) = None

abbrev pub from_both : Option ℤ → Option ℤ → (ℤ → ℤ → Option ℤ) → Option ℤ
from_both x y f = option_and_then (λ a. option_and_then (λ b. f a b) y) x

-- the value, of this type, of an operator whose operands are all integer constants, where it is defined
abbrev pub now_value : Node → IntType → Option ℤ
now_value (convert e) k = option_and_then (λ x. Some (wrap_of k x)) (known e)
now_value (unary op e) k = option_and_then (λ x. unary_value op k x) (known e)
now_value (binary op a b) k = from_both (known a) (known b) (λ x y. binary_value op k x y)
now_value (both a b) k = from_both (known a) (known b) (λ x y. and_also x (Some y))
now_value (either a b) k = from_both (known a) (known b) (λ x y. or_else x (Some y))
now_value (choice x a b) k = option_and_then (λ z. from_both (known a) (known b) (λ y n. Some (if is_zero z then n else y))) (known x)
now_value (comma a b) k = from_both (known a) (known b) (λ x y. Some y)
now_value _ k = None

abbrev pub value_at : QTy → Node → Option ℤ
value_at t n = option_and_then (λ k. now_value n k) (number_type (type_in t))

abbrev pub by_value : QTy → Node → Option ℤ → Typed
by_value t n None = node t n
by_value t n (Some z) = node t (constant z)

abbrev pub settled : QTy → Node → Typed
settled t n = by_value t n (value_at t n)

abbrev mutual
  pub folded : Typed → Typed
  folded (node t e) = settled t (folded_node e)

  pub folded_node : Node → Node
  folded_node (constant z) = constant z
  folded_node null = null
  folded_node (literal n) = literal n
  folded_node (object i) = object i
  folded_node (func i) = func i
  folded_node (deref e) = deref (folded e)
  folded_node (member e m) = member (folded e) m
  folded_node (load e) = load (folded e)
  folded_node (address e) = address (folded e)
  folded_node (decay e) = decay (folded e)
  folded_node (convert e) = convert (folded e)
  folded_node (unary op e) = unary op (folded e)
  folded_node (binary op a b) = binary op (folded a) (folded b)
  folded_node (both a b) = both (folded a) (folded b)
  folded_node (either a b) = either (folded a) (folded b)
  folded_node (choice x a b) = choice (folded x) (folded a) (folded b)
  folded_node (comma a b) = comma (folded a) (folded b)
  folded_node (assign a b) = assign (folded a) (folded b)
  folded_node (assign_op op k a b) = assign_op op k (folded a) (folded b)
  folded_node (assign_step op a b) = assign_step op (folded a) (folded b)
  folded_node (step how e) = step how (folded e)
  folded_node (copy a b) = copy (folded a) (folded b)
  folded_node (call f es) = call (folded f) (folded_nodes es)
  folded_node (pack e) = pack (folded e)
  folded_node (spill i e) = spill i (folded e)
  folded_node rest = rest

  pub folded_nodes : Nodes → Nodes
  folded_nodes none = none
  folded_nodes (some e es) = some (folded e) (folded_nodes es)

-- no operator is left whose operands are all integer constants and whose value is defined
abbrev mutual
  pub IsFolded : Typed → Type 0
  IsFolded (node t e) = (value_at t e ≡ None) × IsFoldedNode e

  pub IsFoldedNode : Node → Type 0
  IsFoldedNode (deref e) = IsFolded e
  IsFoldedNode (member e m) = IsFolded e
  IsFoldedNode (load e) = IsFolded e
  IsFoldedNode (address e) = IsFolded e
  IsFoldedNode (decay e) = IsFolded e
  IsFoldedNode (convert e) = IsFolded e
  IsFoldedNode (unary op e) = IsFolded e
  IsFoldedNode (binary op a b) = IsFolded a × IsFolded b
  IsFoldedNode (both a b) = IsFolded a × IsFolded b
  IsFoldedNode (either a b) = IsFolded a × IsFolded b
  IsFoldedNode (choice x a b) = IsFolded x × IsFolded a × IsFolded b
  IsFoldedNode (comma a b) = IsFolded a × IsFolded b
  IsFoldedNode (assign a b) = IsFolded a × IsFolded b
  IsFoldedNode (assign_op op k a b) = IsFolded a × IsFolded b
  IsFoldedNode (assign_step op a b) = IsFolded a × IsFolded b
  IsFoldedNode (step how e) = IsFolded e
  IsFoldedNode (copy a b) = IsFolded a × IsFolded b
  IsFoldedNode (call f es) = IsFolded f × AreFolded es
  IsFoldedNode (pack e) = IsFolded e
  IsFoldedNode (spill i e) = IsFolded e
  IsFoldedNode _ = Unit {0}

  pub AreFolded : Nodes → Type 0
  AreFolded none = Unit {0}
  AreFolded (some e es) = IsFolded e × AreFolded es
