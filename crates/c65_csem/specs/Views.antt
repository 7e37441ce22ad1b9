-- The typed trees of the code, as trees without Box and Vec.
use Rattle.std.specs.Prelude.{ℕ, List, [], ◌∷◌, map, Option, Some, None, option_map}
use Rattle.c65_ctype.specs.Views.{qty_of, fn_of, types_of}
use Rattle.c65_csem.specs.declared.expr.TExpr.{TExpr}
use Rattle.c65_csem.specs.declared.expr.TKind.{TKind, Row_of-TExpr, end_of-TExpr, more_of-TExpr}
use Rattle.c65_csem.specs.declared.expr.TKind.TheVariants as x
use Rattle.c65_csem.specs.declared.stmt.TStmt.{TStmt, Row_of-TStmt, end_of-TStmt, more_of-TStmt}
use Rattle.c65_csem.specs.declared.stmt.TStmt.TheVariants as s
use Rattle.c65_csem.specs.declared.items.TObject.{TObject}
use Rattle.c65_csem.specs.declared.items.TFunc.{TFunc}
use Rattle.c65_csem.specs.declared.items.Parts.{Parts}
use Rattle.c65_csem.specs.Trees

abbrev mutual
  pub node_of : TKind → Trees.Node
  node_of (x.Const z) = Trees.constant z
  node_of x.Null = Trees.null
  node_of (x.Literal n) = Trees.literal n
  node_of (x.Object n) = Trees.object n
  node_of (x.Func n) = Trees.func n
  node_of (x.Deref' p t e) = Trees.deref (Trees.node (qty_of t) (node_of e))
  node_of (x.Member' p t e i) = Trees.member (Trees.node (qty_of t) (node_of e)) i
  node_of (x.Load' p t e) = Trees.load (Trees.node (qty_of t) (node_of e))
  node_of (x.Address' p t e) = Trees.address (Trees.node (qty_of t) (node_of e))
  node_of (x.Decay' p t e) = Trees.decay (Trees.node (qty_of t) (node_of e))
  node_of (x.Convert' p t e) = Trees.convert (Trees.node (qty_of t) (node_of e))
  node_of (x.Unary' o p t e) = Trees.unary o (Trees.node (qty_of t) (node_of e))
  node_of (x.Binary' o p t a q u b) = Trees.binary o (Trees.node (qty_of t) (node_of a)) (Trees.node (qty_of u) (node_of b))
  node_of (x.And' p t a q u b) = Trees.both (Trees.node (qty_of t) (node_of a)) (Trees.node (qty_of u) (node_of b))
  node_of (x.Or' p t a q u b) = Trees.either (Trees.node (qty_of t) (node_of a)) (Trees.node (qty_of u) (node_of b))
  node_of (x.Cond' p t a q u b r v c) = Trees.choice (Trees.node (qty_of t) (node_of a)) (Trees.node (qty_of u) (node_of b)) (Trees.node (qty_of v) (node_of c))
  node_of (x.Comma' p t a q u b) = Trees.comma (Trees.node (qty_of t) (node_of a)) (Trees.node (qty_of u) (node_of b))
  node_of (x.Assign' p t a q u b) = Trees.assign (Trees.node (qty_of t) (node_of a)) (Trees.node (qty_of u) (node_of b))
  node_of (x.AssignOp' o k p t a q u b) = Trees.assign_op o k (Trees.node (qty_of t) (node_of a)) (Trees.node (qty_of u) (node_of b))
  node_of (x.AssignStep' o p t a q u b) = Trees.assign_step o (Trees.node (qty_of t) (node_of a)) (Trees.node (qty_of u) (node_of b))
  node_of (x.Step' how p t e) = Trees.step how (Trees.node (qty_of t) (node_of e))
  node_of (x.Copy' p t a q u b) = Trees.copy (Trees.node (qty_of t) (node_of a)) (Trees.node (qty_of u) (node_of b))
  node_of (x.Call' p t f shape es) = Trees.call (Trees.node (qty_of t) (node_of f)) (row_nodes es)
  node_of (x.Pack' p t e) = Trees.pack (Trees.node (qty_of t) (node_of e))
  node_of (x.Spill' i p t e) = Trees.spill i (Trees.node (qty_of t) (node_of e))
  node_of x.Rest = Trees.rest

  pub row_nodes : {m : _} → Row_of-TExpr m → Trees.Nodes
  row_nodes end_of-TExpr = Trees.none
  row_nodes (more_of-TExpr t e es) = Trees.some (Trees.node (qty_of t) (node_of e)) (row_nodes es)

abbrev pub typed_of : TExpr → Trees.Typed
typed_of e = Trees.node (qty_of e.ty) (node_of e.kind)

abbrev pub nodes_of : List TExpr → Trees.Nodes
nodes_of [] = Trees.none
nodes_of (e ∷ es) = Trees.some (typed_of e) (nodes_of es)

abbrev pub maybe_of : Option TExpr → Trees.MaybeTyped
maybe_of None = Trees.absent
maybe_of (Some e) = Trees.present (typed_of e)

abbrev mutual
  pub stmt_of : TStmt → Trees.Stmt
  stmt_of s.Empty = Trees.empty
  stmt_of (s.Eval e) = Trees.eval (typed_of e)
  stmt_of (s.Set i o e) = Trees.set_part i o (typed_of e)
  stmt_of (s.Clear i) = Trees.clear i
  stmt_of (s.Block' os shape row) = Trees.block os.items (row_stmts row)
  stmt_of (s.If' e p a q b) = Trees.if_stmt (typed_of e) (stmt_of a) (stmt_of b)
  stmt_of (s.While' e p b) = Trees.while (typed_of e) (stmt_of b)
  stmt_of (s.DoWhile' p b e) = Trees.do_while (stmt_of b) (typed_of e)
  stmt_of (s.For' i c n p b) = Trees.for_loop (maybe_of i) (maybe_of c) (maybe_of n) (stmt_of b)
  stmt_of (s.Switch' e p b) = Trees.switch (typed_of e) (stmt_of b)
  stmt_of (s.Case' z p b) = Trees.case z (stmt_of b)
  stmt_of (s.Default' p b) = Trees.default (stmt_of b)
  stmt_of (s.Label' l p b) = Trees.label l (stmt_of b)
  stmt_of (s.Goto l) = Trees.goto l
  stmt_of s.Break = Trees.break
  stmt_of s.Continue = Trees.continue
  stmt_of (s.Return e) = Trees.return (maybe_of e)

  pub row_stmts : {m : _} → Row_of-TStmt m → Trees.Stmts
  row_stmts end_of-TStmt = Trees.no_stmts
  row_stmts (more_of-TStmt b row) = Trees.and_stmts (stmt_of b) (row_stmts row)

abbrev pub stmts_of : List TStmt → Trees.Stmts
stmts_of [] = Trees.no_stmts
stmts_of (b ∷ bs) = Trees.and_stmts (stmt_of b) (stmts_of bs)

abbrev pub object_of : TObject → Trees.ObjectTy
object_of o = record { name = o.name; ty = qty_of o.ty; class = o.class; init = option_map (λ v. v.items) o.init }

abbrev pub func_of : TFunc → Trees.FuncTy
func_of f = record { name = f.name; ty = fn_of f.ty; external = f.external; params = f.params.items; body = option_map stmt_of f.body; library = f.library }

abbrev pub unit_of : Parts → Trees.UnitTy
unit_of u = record { types = types_of u.types; objects = map object_of u.objects.items; literals = u.literals.items; funcs = map func_of u.funcs.items }
