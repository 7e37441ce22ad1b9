-- Trees with the numbers and the tags of the program.
use Rattle.std.specs.Prelude.{ℕ, ◌+◌, map, Option, Some, slice_get}
use Rattle.c65_ctype.specs.Raised.{raised}
use Rattle.c65_csem.specs.declared.items.Cell.{Cell}
use Rattle.c65_csem.specs.declared.items.Cell.TheVariants.{Byte, Piece}
use Rattle.c65_csem.specs.declared.items.Target.{Target}
use Rattle.c65_csem.specs.declared.items.Target.TheVariants as targets
use Rattle.c65_csem.specs.Trees
use Rattle.c65_csem.specs.Trees.{Typed, node, Node, Nodes, none, some, MaybeTyped, absent, present, Stmt, Stmts, no_stmts, and_stmts}
use Rattle.c65_init_join.specs.Numbers.{NumbersTy}

abbrev pub given_or_none : Option (Option ℕ) → ℕ
given_or_none (Some (Some n)) = n
given_or_none _ = 0

-- the number of an object, a function and a literal in the program; what a tree names has one
abbrev pub object_number : NumbersTy → ℕ → ℕ
object_number ns i = given_or_none (slice_get ns.objects i)

abbrev pub func_number : NumbersTy → ℕ → ℕ
func_number ns i = given_or_none (slice_get ns.funcs i)

abbrev pub literal_number : NumbersTy → ℕ → ℕ
literal_number ns i = ns.literals + i

abbrev mutual
  pub renumbered : NumbersTy → Typed → Typed
  renumbered ns (node t e) = node (raised ns.tags t) (renumbered_node ns e)

  pub renumbered_node : NumbersTy → Node → Node
  renumbered_node ns (Trees.constant z) = Trees.constant z
  renumbered_node ns Trees.null = Trees.null
  renumbered_node ns (Trees.literal i) = Trees.literal (literal_number ns i)
  renumbered_node ns (Trees.object i) = Trees.object (object_number ns i)
  renumbered_node ns (Trees.func i) = Trees.func (func_number ns i)
  renumbered_node ns (Trees.deref a) = Trees.deref (renumbered ns a)
  renumbered_node ns (Trees.member a m) = Trees.member (renumbered ns a) m
  renumbered_node ns (Trees.load a) = Trees.load (renumbered ns a)
  renumbered_node ns (Trees.address a) = Trees.address (renumbered ns a)
  renumbered_node ns (Trees.decay a) = Trees.decay (renumbered ns a)
  renumbered_node ns (Trees.convert a) = Trees.convert (renumbered ns a)
  renumbered_node ns (Trees.unary op a) = Trees.unary op (renumbered ns a)
  renumbered_node ns (Trees.binary op a b) = Trees.binary op (renumbered ns a) (renumbered ns b)
  renumbered_node ns (Trees.both a b) = Trees.both (renumbered ns a) (renumbered ns b)
  renumbered_node ns (Trees.either a b) = Trees.either (renumbered ns a) (renumbered ns b)
  renumbered_node ns (Trees.choice x a b) = Trees.choice (renumbered ns x) (renumbered ns a) (renumbered ns b)
  renumbered_node ns (Trees.comma a b) = Trees.comma (renumbered ns a) (renumbered ns b)
  renumbered_node ns (Trees.assign a b) = Trees.assign (renumbered ns a) (renumbered ns b)
  renumbered_node ns (Trees.assign_op op k a b) = Trees.assign_op op k (renumbered ns a) (renumbered ns b)
  renumbered_node ns (Trees.assign_step op a b) = Trees.assign_step op (renumbered ns a) (renumbered ns b)
  renumbered_node ns (Trees.step how a) = Trees.step how (renumbered ns a)
  renumbered_node ns (Trees.copy a b) = Trees.copy (renumbered ns a) (renumbered ns b)
  renumbered_node ns (Trees.call f es) = Trees.call (renumbered ns f) (renumbered_nodes ns es)
  renumbered_node ns (Trees.pack a) = Trees.pack (renumbered ns a)
  renumbered_node ns (Trees.spill i a) = Trees.spill (object_number ns i) (renumbered ns a)
  renumbered_node ns Trees.rest = Trees.rest

  pub renumbered_nodes : NumbersTy → Nodes → Nodes
  renumbered_nodes ns none = none
  renumbered_nodes ns (some e es) = some (renumbered ns e) (renumbered_nodes ns es)

abbrev pub renumbered_maybe : NumbersTy → MaybeTyped → MaybeTyped
renumbered_maybe ns absent = absent
renumbered_maybe ns (present e) = present (renumbered ns e)

abbrev mutual
  pub renumbered_stmt : NumbersTy → Stmt → Stmt
  renumbered_stmt ns Trees.empty = Trees.empty
  renumbered_stmt ns (Trees.eval e) = Trees.eval (renumbered ns e)
  renumbered_stmt ns (Trees.set_part i offset e) = Trees.set_part (object_number ns i) offset (renumbered ns e)
  renumbered_stmt ns (Trees.clear i) = Trees.clear (object_number ns i)
  renumbered_stmt ns (Trees.block os ss) = Trees.block (map (object_number ns) os) (renumbered_stmts ns ss)
  renumbered_stmt ns (Trees.if_stmt e a b) = Trees.if_stmt (renumbered ns e) (renumbered_stmt ns a) (renumbered_stmt ns b)
  renumbered_stmt ns (Trees.while e a) = Trees.while (renumbered ns e) (renumbered_stmt ns a)
  renumbered_stmt ns (Trees.do_while a e) = Trees.do_while (renumbered_stmt ns a) (renumbered ns e)
  renumbered_stmt ns (Trees.for_loop i c n a) = Trees.for_loop (renumbered_maybe ns i) (renumbered_maybe ns c) (renumbered_maybe ns n) (renumbered_stmt ns a)
  renumbered_stmt ns (Trees.switch e a) = Trees.switch (renumbered ns e) (renumbered_stmt ns a)
  renumbered_stmt ns (Trees.case z a) = Trees.case z (renumbered_stmt ns a)
  renumbered_stmt ns (Trees.default a) = Trees.default (renumbered_stmt ns a)
  renumbered_stmt ns (Trees.label l a) = Trees.label l (renumbered_stmt ns a)
  renumbered_stmt ns (Trees.goto l) = Trees.goto l
  renumbered_stmt ns Trees.break = Trees.break
  renumbered_stmt ns Trees.continue = Trees.continue
  renumbered_stmt ns (Trees.return e) = Trees.return (renumbered_maybe ns e)

  pub renumbered_stmts : NumbersTy → Stmts → Stmts
  renumbered_stmts ns no_stmts = no_stmts
  renumbered_stmts ns (and_stmts a ss) = and_stmts (renumbered_stmt ns a) (renumbered_stmts ns ss)

abbrev pub renumbered_target : NumbersTy → Target → Target
renumbered_target ns (targets.Object i) = targets.Object (object_number ns i)
renumbered_target ns (targets.Literal i) = targets.Literal (literal_number ns i)
renumbered_target ns (targets.Func i) = targets.Func (func_number ns i)

abbrev pub renumbered_cell : NumbersTy → Cell → Cell
renumbered_cell ns (Byte b) = Byte b
renumbered_cell ns (Piece target offset part) = Piece (renumbered_target ns target) offset part
