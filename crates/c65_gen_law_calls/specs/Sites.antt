-- The calls of a typed body (C90 6.3.2.2), in the order of their lines.
use Rattle.std.specs.Prelude.{◌≡◌, ℕ, false, Option, Some, None, List, [], ◌∷◌, ◌++◌}
use Rattle.c65_ctype.specs.Trees.{QTy}
use Rattle.c65_csem.specs.Trees.{Typed, node, Node, deref, member, load, address, decay, convert, unary, binary, both, either, choice, comma, assign, assign_op, assign_step, step, copy, call, pack, spill, Nodes, none, some, MaybeTyped, absent, present, Stmt, eval, set_part, block, if_stmt, while, do_while, for_loop, switch, case, default, label, return, Stmts, no_stmts, and_stmts, UnitTy, type_of}
use Rattle.c65_csem.specs.Places.{is_place}
use Rattle.c65_csem.specs.Typed.{IsTyped, AreTyped, IsCall, IsResult}
use Rattle.c65_genframe.specs.Frames.{Framed}
use Rattle.c65_genexpr.specs.Types.{bare}
use Rattle.c65_genexpr.specs.Arguments.{is_fast}
use Rattle.c65_genexpr.specs.Calls.{named}
use Rattle.c65_gen_law_lines.specs.Stack.{passed}

-- a call: its type, the called pointer and the arguments
pub record Site : Type 0 where
  pub type : QTy
  pub callee : Typed
  pub args : Nodes

abbrev pub site_by : QTy → Typed → Nodes → Site
site_by t g es = record { type = t; callee = g; args = es }

-- it is well typed, whether it stands alone or an object takes what it gives
pub record IsSite (u : UnitTy) (s : Site) : Type 0 where
  pub callee : IsTyped u s.callee
  pub value : is_place s.callee ≡ false
  pub made : IsCall u s.type (type_of s.callee) s.args
  pub result : IsResult u s.type
  pub args : AreTyped u s.args

-- what waits for it when its function is called, the last argument first, in a function with this frame
abbrev pub bytes_of : Framed → Site → List ℕ
bytes_of f s = passed f (is_fast (bare s.callee)) s.args

-- a function that is called by its name is no expression with lines
abbrev pub unless_named : Option ℕ → List Site → List Site
unless_named (Some i) sites = []
unless_named None sites = sites

abbrev mutual
  pub sites_of : Typed → List Site
  sites_of (node t n) = node_sites t n

  pub node_sites : QTy → Node → List Site
  node_sites t (deref e) = sites_of e
  node_sites t (member e m) = sites_of e
  node_sites t (load e) = sites_of e
  node_sites t (address e) = sites_of e
  node_sites t (decay e) = sites_of e
  node_sites t (convert e) = sites_of e
  node_sites t (unary op e) = sites_of e
  node_sites t (binary op a b) = sites_of a ++ sites_of b
  node_sites t (both a b) = sites_of a ++ sites_of b
  node_sites t (either a b) = sites_of a ++ sites_of b
  node_sites t (choice c a b) = sites_of c ++ (sites_of a ++ sites_of b)
  node_sites t (comma a b) = sites_of a ++ sites_of b
  node_sites t (assign a b) = sites_of a ++ sites_of b
  node_sites t (assign_op op k a b) = sites_of a ++ sites_of b
  node_sites t (assign_step op a b) = sites_of a ++ sites_of b
  node_sites t (step how e) = sites_of e
  node_sites t (copy a b) = sites_of a ++ sites_of b
  node_sites t (call g es) = unless_named (named g) (sites_of g) ++ (args_sites es ++ site_by t g es ∷ [])
  node_sites t (pack e) = sites_of e
  node_sites t (spill i e) = sites_of e
  node_sites t _ = []

  pub args_sites : Nodes → List Site
  args_sites none = []
  args_sites (some e es) = sites_of e ++ args_sites es

abbrev pub maybe_sites : MaybeTyped → List Site
maybe_sites absent = []
maybe_sites (present e) = sites_of e

abbrev mutual
  pub statement_sites : Stmt → List Site
  statement_sites (eval e) = sites_of e
  statement_sites (set_part i offset e) = sites_of e
  statement_sites (block os ss) = statements_sites ss
  statement_sites (if_stmt e a b) = sites_of e ++ (statement_sites a ++ statement_sites b)
  statement_sites (while e a) = sites_of e ++ statement_sites a
  statement_sites (do_while a e) = statement_sites a ++ sites_of e
  statement_sites (for_loop i c n a) = maybe_sites i ++ (maybe_sites c ++ (statement_sites a ++ maybe_sites n))
  statement_sites (switch e a) = sites_of e ++ statement_sites a
  statement_sites (case z a) = statement_sites a
  statement_sites (default a) = statement_sites a
  statement_sites (label n a) = statement_sites a
  statement_sites (return e) = maybe_sites e
  statement_sites _ = []

  pub statements_sites : Stmts → List Site
  statements_sites no_stmts = []
  statements_sites (and_stmts a ss) = statement_sites a ++ statements_sites ss
