-- Folding leaves no operator on constants, and keeps types and places.
use Rattle.std.proofs.Common.{◌≡◌, ℕ, ℤ, false, Option, Some, None, option_and_then, refl, sym, ap, ◌∙◌, ◌+◌}
use Rattle.c65_ctype.specs.Sizes.{size_of}
use Rattle.c65_ctype.specs.Trees.{QTy, type_in, TypesTy}
use Rattle.c65_csem.specs.Trees.{Typed, node, Node, constant, null, literal, object, func, deref, member, load, address, decay, convert, unary, binary, both, either, choice, comma, assign, assign_op, assign_step, step, copy, call, pack, spill, rest, Nodes, none, some, type_of, UnitTy}
use Rattle.c65_csem.specs.Places.{is_place, is_bits, member_at, is_bit_field, is_registered, is_registered_node}
use Rattle.c65_csem.specs.Typed.{arguments_size}
use Rattle.c65_fold.specs.Constants.{number_type}
use Rattle.c65_fold.specs.Folded.{value_at, by_value, folded, folded_node, folded_nodes, IsFolded, IsFoldedNode, AreFolded}

-- a test that always fails
abbrev pub no_value : {A : Type 0} → A → Option ℤ
no_value k = None

pub never : {A : Type 0} → (o : Option A) → option_and_then no_value o ≡ None
never None = refl
never (Some k) = refl

settle_done : (t : QTy) (n : Node) (o : Option ℤ) → value_at t n ≡ o → IsFoldedNode n → IsFolded (by_value t n o)
settle_done t n None h w = (h, w)
settle_done t n (Some z) h w = (never (number_type (type_in t)), tt)

mutual
  pub done : (e : Typed) → IsFolded (folded e)
  done (node t e) = settle_done t (folded_node e) (value_at t (folded_node e)) refl (done_node e)

  done_node : (e : Node) → IsFoldedNode (folded_node e)
  done_node (constant z) = tt
  done_node null = tt
  done_node (literal n) = tt
  done_node (object i) = tt
  done_node (func i) = tt
  done_node (deref e) = done e
  done_node (member e m) = done e
  done_node (load e) = done e
  done_node (address e) = done e
  done_node (decay e) = done e
  done_node (convert e) = done e
  done_node (unary op e) = done e
  done_node (binary op a b) = (done a, done b)
  done_node (both a b) = (done a, done b)
  done_node (either a b) = (done a, done b)
  done_node (choice x a b) = (done x, done a, done b)
  done_node (comma a b) = (done a, done b)
  done_node (assign a b) = (done a, done b)
  done_node (assign_op op k a b) = (done a, done b)
  done_node (assign_step op a b) = (done a, done b)
  done_node (step how e) = done e
  done_node (copy a b) = (done a, done b)
  done_node (call f es) = (done f, done_nodes es)
  done_node (pack e) = done e
  done_node (spill i e) = done e
  done_node rest = tt

  done_nodes : (es : Nodes) → AreFolded (folded_nodes es)
  done_nodes none = tt
  done_nodes (some e es) = (done e, done_nodes es)

settled_type : (t : QTy) (n : Node) (o : Option ℤ) → type_of (by_value t n o) ≡ t
settled_type t n None = refl
settled_type t n (Some z) = refl

pub kept_type : (e : Typed) → type_of (folded e) ≡ type_of e
kept_type (node t e) = settled_type t (folded_node e) (value_at t (folded_node e))

pub is_some_of : {A : Type 0} → (o : Option A) (z : A) → o ≡ Some z → o ≡ None → ⊥
is_some_of None z h k = cc
is_some_of (Some y) z h k = cc

-- a node that has a value is no place
no_place : (t : QTy) (n : Node) (z : ℤ) → value_at t n ≡ Some z → is_place (node t n) ≡ false
no_place t (literal n) z h = absurd (is_some_of _ z h (never (number_type (type_in t))))
no_place t (object i) z h = absurd (is_some_of _ z h (never (number_type (type_in t))))
no_place t (func i) z h = absurd (is_some_of _ z h (never (number_type (type_in t))))
no_place t (deref e) z h = absurd (is_some_of _ z h (never (number_type (type_in t))))
no_place t (member e m) z h = absurd (is_some_of _ z h (never (number_type (type_in t))))
no_place t (constant y) z h = refl
no_place t null z h = refl
no_place t (load e) z h = refl
no_place t (address e) z h = refl
no_place t (decay e) z h = refl
no_place t (convert e) z h = refl
no_place t (unary op e) z h = refl
no_place t (binary op a b) z h = refl
no_place t (both a b) z h = refl
no_place t (either a b) z h = refl
no_place t (choice x a b) z h = refl
no_place t (comma a b) z h = refl
no_place t (assign a b) z h = refl
no_place t (assign_op op k a b) z h = refl
no_place t (assign_step op a b) z h = refl
no_place t (step how e) z h = refl
no_place t (copy a b) z h = refl
no_place t (call f es) z h = refl
no_place t (pack e) z h = refl
no_place t (spill i e) z h = refl
no_place t rest z h = refl

settled_place : (t : QTy) (n : Node) (o : Option ℤ) → value_at t n ≡ o → is_place (by_value t n o) ≡ is_place (node t n)
settled_place t n None h = refl
settled_place t n (Some z) h = sym (no_place t n z h)

node_place : (t : QTy) (e : Node) → is_place (node t (folded_node e)) ≡ is_place (node t e)
node_place t (constant z) = refl
node_place t null = refl
node_place t (literal n) = refl
node_place t (object i) = refl
node_place t (func i) = refl
node_place t (deref e) = refl
node_place t (member e m) = refl
node_place t (load e) = refl
node_place t (address e) = refl
node_place t (decay e) = refl
node_place t (convert e) = refl
node_place t (unary op e) = refl
node_place t (binary op a b) = refl
node_place t (both a b) = refl
node_place t (either a b) = refl
node_place t (choice x a b) = refl
node_place t (comma a b) = refl
node_place t (assign a b) = refl
node_place t (assign_op op k a b) = refl
node_place t (assign_step op a b) = refl
node_place t (step how e) = refl
node_place t (copy a b) = refl
node_place t (call f es) = refl
node_place t (pack e) = refl
node_place t (spill i e) = refl
node_place t rest = refl

pub kept_place : (e : Typed) → is_place (folded e) ≡ is_place e
kept_place (node t e) = settled_place t (folded_node e) (value_at t (folded_node e)) refl ∙ node_place t e

-- a node that has a value is no bit-field, and no object of class register
no_bits : (types : TypesTy) (t : QTy) (n : Node) (z : ℤ) → value_at t n ≡ Some z → is_bit_field types (node t n) ≡ false
no_bits types t (literal n) z h = refl
no_bits types t (object i) z h = refl
no_bits types t (func i) z h = refl
no_bits types t (deref e) z h = refl
no_bits types t (member e m) z h = absurd (is_some_of _ z h (never (number_type (type_in t))))
no_bits types t (constant y) z h = refl
no_bits types t null z h = refl
no_bits types t (load e) z h = refl
no_bits types t (address e) z h = refl
no_bits types t (decay e) z h = refl
no_bits types t (convert e) z h = refl
no_bits types t (unary op e) z h = refl
no_bits types t (binary op a b) z h = refl
no_bits types t (both a b) z h = refl
no_bits types t (either a b) z h = refl
no_bits types t (choice x a b) z h = refl
no_bits types t (comma a b) z h = refl
no_bits types t (assign a b) z h = refl
no_bits types t (assign_op op k a b) z h = refl
no_bits types t (assign_step op a b) z h = refl
no_bits types t (step how e) z h = refl
no_bits types t (copy a b) z h = refl
no_bits types t (call f es) z h = refl
no_bits types t (pack e) z h = refl
no_bits types t (spill i e) z h = refl
no_bits types t rest z h = refl

settled_bits : (types : TypesTy) (t : QTy) (n : Node) (o : Option ℤ) → value_at t n ≡ o → is_bit_field types (by_value t n o) ≡ is_bit_field types (node t n)
settled_bits types t n None h = refl
settled_bits types t n (Some z) h = sym (no_bits types t n z h)

node_bits : (types : TypesTy) (t : QTy) (e : Node) → is_bit_field types (node t (folded_node e)) ≡ is_bit_field types (node t e)
node_bits types t (constant z) = refl
node_bits types t null = refl
node_bits types t (literal n) = refl
node_bits types t (object i) = refl
node_bits types t (func i) = refl
node_bits types t (deref e) = refl
node_bits types t (member e m) = ap (λ (q : QTy). is_bits (member_at types (type_in q) m)) (kept_type e)
node_bits types t (load e) = refl
node_bits types t (address e) = refl
node_bits types t (decay e) = refl
node_bits types t (convert e) = refl
node_bits types t (unary op e) = refl
node_bits types t (binary op a b) = refl
node_bits types t (both a b) = refl
node_bits types t (either a b) = refl
node_bits types t (choice x a b) = refl
node_bits types t (comma a b) = refl
node_bits types t (assign a b) = refl
node_bits types t (assign_op op k a b) = refl
node_bits types t (assign_step op a b) = refl
node_bits types t (step how e) = refl
node_bits types t (copy a b) = refl
node_bits types t (call f es) = refl
node_bits types t (pack e) = refl
node_bits types t (spill i e) = refl
node_bits types t rest = refl

pub kept_bits : (types : TypesTy) (e : Typed) → is_bit_field types (folded e) ≡ is_bit_field types e
kept_bits types (node t e) = settled_bits types t (folded_node e) (value_at t (folded_node e)) refl ∙ node_bits types t e

no_register : (u : UnitTy) (t : QTy) (n : Node) (z : ℤ) → value_at t n ≡ Some z → is_registered_node u n ≡ false
no_register u t (literal n) z h = refl
no_register u t (object i) z h = absurd (is_some_of _ z h (never (number_type (type_in t))))
no_register u t (func i) z h = refl
no_register u t (deref e) z h = refl
no_register u t (member e m) z h = absurd (is_some_of _ z h (never (number_type (type_in t))))
no_register u t (constant y) z h = refl
no_register u t null z h = refl
no_register u t (load e) z h = refl
no_register u t (address e) z h = refl
no_register u t (decay e) z h = refl
no_register u t (convert e) z h = refl
no_register u t (unary op e) z h = refl
no_register u t (binary op a b) z h = refl
no_register u t (both a b) z h = refl
no_register u t (either a b) z h = refl
no_register u t (choice x a b) z h = refl
no_register u t (comma a b) z h = refl
no_register u t (assign a b) z h = refl
no_register u t (assign_op op k a b) z h = refl
no_register u t (assign_step op a b) z h = refl
no_register u t (step how e) z h = refl
no_register u t (copy a b) z h = refl
no_register u t (call f es) z h = refl
no_register u t (pack e) z h = refl
no_register u t (spill i e) z h = refl
no_register u t rest z h = refl

settled_register : (u : UnitTy) (t : QTy) (n : Node) (o : Option ℤ) → value_at t n ≡ o → is_registered u (by_value t n o) ≡ is_registered_node u n
settled_register u t n None h = refl
settled_register u t n (Some z) h = sym (no_register u t n z h)

mutual
  pub kept_register : (u : UnitTy) (e : Typed) → is_registered u (folded e) ≡ is_registered u e
  kept_register u (node t e) = settled_register u t (folded_node e) (value_at t (folded_node e)) refl ∙ node_register u e

  node_register : (u : UnitTy) (e : Node) → is_registered_node u (folded_node e) ≡ is_registered_node u e
  node_register u (constant z) = refl
  node_register u null = refl
  node_register u (literal n) = refl
  node_register u (object i) = refl
  node_register u (func i) = refl
  node_register u (deref e) = refl
  node_register u (member e m) = kept_register u e
  node_register u (load e) = refl
  node_register u (address e) = refl
  node_register u (decay e) = refl
  node_register u (convert e) = refl
  node_register u (unary op e) = refl
  node_register u (binary op a b) = refl
  node_register u (both a b) = refl
  node_register u (either a b) = refl
  node_register u (choice x a b) = refl
  node_register u (comma a b) = refl
  node_register u (assign a b) = refl
  node_register u (assign_op op k a b) = refl
  node_register u (assign_step op a b) = refl
  node_register u (step how e) = refl
  node_register u (copy a b) = refl
  node_register u (call f es) = refl
  node_register u (pack e) = refl
  node_register u (spill i e) = refl
  node_register u rest = refl

by_head : (types : TypesTy) (t : QTy) (n : Node) (o : Option ℤ) (es : Nodes) → arguments_size types (some (by_value t n o) es) ≡ size_of types (type_in t) + arguments_size types es
by_head types t n None es = refl
by_head types t n (Some z) es = refl

pub kept_size : (types : TypesTy) (es : Nodes) → arguments_size types (folded_nodes es) ≡ arguments_size types es
kept_size types none = refl
kept_size types (some (node t e) es) = by_head types t (folded_node e) (value_at t (folded_node e)) (folded_nodes es) ∙ ap (λ (n : ℕ). size_of types (type_in t) + n) (kept_size types es)
