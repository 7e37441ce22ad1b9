-- How many labels the lines of an expression have.
use Rattle.std.specs.Prelude.{ℕ, ◌+◌, Bool, true, false, not, Option, Some, None}
use Rattle.c65_base.specs.declared.operators.UnaryOp.{UnaryOp}
use Rattle.c65_base.specs.declared.operators.UnaryOp.TheVariants.{Not}
use Rattle.c65_ctype.specs.Trees.{QTy, type_in}
use Rattle.c65_csem.specs.Trees.{Typed, node, Node, constant, null, literal, object, func, deref, member, load, address, decay, convert, unary, binary, both, either, choice, comma, assign, assign_op, assign_step, step, copy, call, pack, spill, rest, Nodes, none, some}
use Rattle.c65_gendirect.specs.declared.relation.Relation.{Relation}
use Rattle.c65_gendirect.specs.Compare.{relation_of}
use Rattle.c65_genexpr.specs.Types.{bare}
use Rattle.c65_genexpr.specs.Calls.{named}
use Rattle.c65_genexpr.specs.Operands.{same_truth}
use Rattle.c65_genexpr.specs.Wanted.{handed_sense, aimed_sense, truth_labels, is_straight, way_labels}
use Rattle.c65_genexpr.specs.Comparing.{relation_by, tested_by}

-- a function that is called by its name takes no lines of its own
abbrev pub unless_named : Option ℕ → ℕ → ℕ
unless_named (Some i) n = 0
unless_named None n = n

-- `!`, or another operator
abbrev pub by_operator : {A : Type 0} → UnaryOp → A → A → A
by_operator Not truth other = truth
by_operator op truth other = other

-- a comparison has the labels of its own by its relation, another operator has none
abbrev pub by_relation : {A : Type 0} → Option Relation → A → (Relation → A) → A
by_relation None other f = other
by_relation (Some r) other f = f r

abbrev mutual
  -- of a test in a sense, or of a value
  pub uses : Option Bool → Typed → ℕ
  uses s (node t n) = node_uses s t n

  pub node_uses : Option Bool → QTy → Node → ℕ
  node_uses s t (constant z) = 0
  node_uses s t null = 0
  node_uses s t (literal n) = 0
  node_uses s t (object i) = 0
  node_uses s t (func i) = 0
  node_uses s t (deref e) = uses None e
  node_uses s t (member e m) = uses None e
  node_uses s t (load e) = uses None e
  node_uses s t (address e) = uses None e
  node_uses s t (decay e) = uses None e
  node_uses s t (convert e) = uses (handed_sense (same_truth (type_in t) (bare e)) s) e
  node_uses s t (unary op e) = by_operator op (truth_labels s + uses (Some (not (aimed_sense s))) e) (uses None e)
  node_uses s t (binary op a b) =
      by_relation (relation_of op) (1 + (uses None a + uses None b)) (λ r.
      let q = relation_by (aimed_sense s) r in
      truth_labels s + (1 + (uses (tested_by q b) a + uses (tested_by q a) b)))
  node_uses s t (both a b) = truth_labels s + (way_labels (is_straight false (aimed_sense s)) + (uses (Some false) a + uses (Some (aimed_sense s)) b))
  node_uses s t (either a b) = truth_labels s + (way_labels (is_straight true (aimed_sense s)) + (uses (Some true) a + uses (Some (aimed_sense s)) b))
  node_uses s t (choice c a b) = 2 + (uses (Some false) c + (uses None a + uses None b))
  node_uses s t (comma a b) = uses None a + uses s b
  node_uses s t (assign a b) = uses None a + uses None b
  node_uses s t (assign_op op k a b) = uses None a + uses None b
  node_uses s t (assign_step op a b) = uses None a + uses None b
  node_uses s t (step how e) = 1 + uses None e
  node_uses s t (copy a b) = uses None a + uses None b
  node_uses s t (call f es) = unless_named (named f) (uses None f) + args_uses es
  node_uses s t (pack e) = uses None e
  node_uses s t (spill i e) = uses None e
  node_uses s t rest = 0

  pub args_uses : Nodes → ℕ
  args_uses none = 0
  args_uses (some e es) = uses None e + args_uses es

-- of the index of an element of a small array, and of its sum
abbrev mutual
  pub index_uses : Typed → ℕ
  index_uses (node t (deref e)) = sum_index_uses e
  index_uses (node t (member e m)) = index_uses e
  index_uses (node t n) = 0

  pub sum_index_uses : Typed → ℕ
  sum_index_uses (node t (binary op a b)) = 1 + uses None b
  sum_index_uses (node t n) = 0

abbrev pub head_uses : Typed → ℕ
head_uses f = unless_named (named f) (uses None f)

-- a comparison by a relation
abbrev pub comparison_uses : Relation → Typed → Typed → ℕ
comparison_uses q a b = 1 + (uses (tested_by q b) a + uses (tested_by q a) b)

-- a unary operator whose value is wanted
abbrev pub unary_uses : UnaryOp → Typed → ℕ
unary_uses op e = by_operator op (2 + uses (Some true) e) (uses None e)

-- how many trees a tree has, itself among them; more than its arguments have places
abbrev mutual
  pub count : Typed → ℕ
  count (node t n) = node_count n

  pub node_count : Node → ℕ
  node_count (constant z) = 1
  node_count null = 1
  node_count (literal n) = 1
  node_count (object i) = 1
  node_count (func i) = 1
  node_count (deref e) = 1 + count e
  node_count (member e m) = 1 + count e
  node_count (load e) = 1 + count e
  node_count (address e) = 1 + count e
  node_count (decay e) = 1 + count e
  node_count (convert e) = 1 + count e
  node_count (unary op e) = 1 + count e
  node_count (binary op a b) = 1 + (count a + count b)
  node_count (both a b) = 1 + (count a + count b)
  node_count (either a b) = 1 + (count a + count b)
  node_count (choice c a b) = 1 + (count c + (count a + count b))
  node_count (comma a b) = 1 + (count a + count b)
  node_count (assign a b) = 1 + (count a + count b)
  node_count (assign_op op k a b) = 1 + (count a + count b)
  node_count (assign_step op a b) = 1 + (count a + count b)
  node_count (step how e) = 1 + count e
  node_count (copy a b) = 1 + (count a + count b)
  node_count (call f es) = 1 + (count f + args_count es)
  node_count (pack e) = 1 + count e
  node_count (spill i e) = 1 + count e
  node_count rest = 1

  pub args_count : Nodes → ℕ
  args_count none = 1
  args_count (some e es) = 1 + (count e + args_count es)
