-- Trees whose items have symbols that are known. Lines name no object that has a home in the frame (docs/MACHINE.md, "Symbols").
use Rattle.std.proofs.Common.{◌≡◌, ℕ, None}
use Rattle.c65_csem.specs.Trees.{Typed, node, Node, constant, null, literal, object, func, deref, member, load, address, decay, convert, unary, binary, both, either, choice, comma, assign, assign_op, assign_step, step, copy, call, pack, spill, rest, Nodes, none, some, MaybeTyped, absent, present, Stmt, empty, eval, set_part, clear, block, if_stmt, while, do_while, for_loop, switch, case, default, label, goto, break, continue, return, Stmts, no_stmts, and_stmts}
use Rattle.c65_genframe.specs.Frames.{Framed, home_of}
use Rattle.c65_genframe.specs.Symbols.{numbers_of, object_symbol, literal_symbol, function_symbol}

abbrev pub KnownObject : (ℕ → Type 0) → Framed → ℕ → Type 0
KnownObject P f i = home_of f i ≡ None → P (object_symbol (numbers_of f.parts) i).0

abbrev mutual
  pub KnownTree : (ℕ → Type 0) → Framed → Typed → Type 0
  KnownTree P f (node t n) = KnownNode P f n

  pub KnownNode : (ℕ → Type 0) → Framed → Node → Type 0
  KnownNode P f (constant z) = Unit {0}
  KnownNode P f null = Unit {0}
  KnownNode P f (literal l) = P (literal_symbol (numbers_of f.parts) l).0
  KnownNode P f (object i) = KnownObject P f i
  KnownNode P f (func i) = P (function_symbol (numbers_of f.parts) i).0
  KnownNode P f (deref e) = KnownTree P f e
  KnownNode P f (member e m) = KnownTree P f e
  KnownNode P f (load e) = KnownTree P f e
  KnownNode P f (address e) = KnownTree P f e
  KnownNode P f (decay e) = KnownTree P f e
  KnownNode P f (convert e) = KnownTree P f e
  KnownNode P f (unary op e) = KnownTree P f e
  KnownNode P f (binary op a b) = KnownTree P f a × KnownTree P f b
  KnownNode P f (both a b) = KnownTree P f a × KnownTree P f b
  KnownNode P f (either a b) = KnownTree P f a × KnownTree P f b
  KnownNode P f (choice c a b) = KnownTree P f c × KnownTree P f a × KnownTree P f b
  KnownNode P f (comma a b) = KnownTree P f a × KnownTree P f b
  KnownNode P f (assign a b) = KnownTree P f a × KnownTree P f b
  KnownNode P f (assign_op op k a b) = KnownTree P f a × KnownTree P f b
  KnownNode P f (assign_step op a b) = KnownTree P f a × KnownTree P f b
  KnownNode P f (step how e) = KnownTree P f e
  KnownNode P f (copy a b) = KnownTree P f a × KnownTree P f b
  KnownNode P f (call g es) = KnownTree P f g × KnownTrees P f es
  KnownNode P f (pack e) = KnownTree P f e
  KnownNode P f (spill i e) = KnownObject P f i × KnownTree P f e
  KnownNode P f rest = Unit {0}

  pub KnownTrees : (ℕ → Type 0) → Framed → Nodes → Type 0
  KnownTrees P f none = Unit {0}
  KnownTrees P f (some e es) = KnownTree P f e × KnownTrees P f es

abbrev pub KnownMaybeTree : (ℕ → Type 0) → Framed → MaybeTyped → Type 0
KnownMaybeTree P f absent = Unit {0}
KnownMaybeTree P f (present e) = KnownTree P f e

abbrev mutual
  pub KnownStmt : (ℕ → Type 0) → Framed → Stmt → Type 0
  KnownStmt P f empty = Unit {0}
  KnownStmt P f (eval e) = KnownTree P f e
  KnownStmt P f (set_part i o e) = KnownObject P f i × KnownTree P f e
  KnownStmt P f (clear i) = KnownObject P f i
  KnownStmt P f (block os ss) = KnownStmts P f ss
  KnownStmt P f (if_stmt e a b) = KnownTree P f e × KnownStmt P f a × KnownStmt P f b
  KnownStmt P f (while e a) = KnownTree P f e × KnownStmt P f a
  KnownStmt P f (do_while a e) = KnownStmt P f a × KnownTree P f e
  KnownStmt P f (for_loop i t n a) = KnownMaybeTree P f i × KnownMaybeTree P f t × KnownMaybeTree P f n × KnownStmt P f a
  KnownStmt P f (switch e a) = KnownTree P f e × KnownStmt P f a
  KnownStmt P f (case z a) = KnownStmt P f a
  KnownStmt P f (default a) = KnownStmt P f a
  KnownStmt P f (label l a) = KnownStmt P f a
  KnownStmt P f (goto l) = Unit {0}
  KnownStmt P f break = Unit {0}
  KnownStmt P f continue = Unit {0}
  KnownStmt P f (return e) = KnownMaybeTree P f e

  pub KnownStmts : (ℕ → Type 0) → Framed → Stmts → Type 0
  KnownStmts P f no_stmts = Unit {0}
  KnownStmts P f (and_stmts a ss) = KnownStmt P f a × KnownStmts P f ss
