-- The labels of a statement, in their order (C90 6.6.1).
use Rattle.std.specs.Prelude.{List, [], ◌∷◌, ◌++◌}
use Rattle.c65_base.specs.declared.names.Name.{Name}
use Rattle.c65_tree.specs.Trees as t

abbrev mutual
  pub labels_of : t.StmtTree → List Name
  labels_of (t.label p m b) = m ∷ labels_of b
  labels_of (t.case p e b) = labels_of b
  labels_of (t.default p b) = labels_of b
  labels_of (t.block p ds ss) = labels_in ss
  labels_of (t.eval p e) = []
  labels_of (t.if_stmt p e a b) = labels_of a ++ else_labels b
  labels_of (t.switch p e b) = labels_of b
  labels_of (t.while p e b) = labels_of b
  labels_of (t.do_while p b e) = labels_of b
  labels_of (t.for p i c n b) = labels_of b
  labels_of (t.goto p m) = []
  labels_of (t.continue p) = []
  labels_of (t.break p) = []
  labels_of (t.return p e) = []

  pub else_labels : t.MaybeStmt → List Name
  else_labels t.no_stmt = []
  else_labels (t.a_stmt b) = labels_of b

  pub labels_in : t.StmtList → List Name
  labels_in t.no_stmts = []
  labels_in (t.and_stmt ss b) = labels_in ss ++ labels_of b
