-- Names in their scope (C90 6.1.2.1, 6.1.2.4).
use Rattle.std.specs.Prelude.{ℕ, Bool, List, [], ◌∷◌, Option, Some, None, IsTrue, ⊤}
use Rattle.c65_ctype.specs.Trees.{Fn, fn}
use Rattle.c65_csem.specs.Trees.{Typed, node, Node, constant, null, literal, object, func, deref, member, load, address, decay, convert, unary, binary, both, either, choice, comma, assign, assign_op, assign_step, step, copy, call, pack, spill, rest, Nodes, none, some, Stmt, empty, eval, set_part, clear, block, if_stmt, while, do_while, for_loop, switch, case, default, label, goto, break, continue, return, Stmts, no_stmts, and_stmts, MaybeTyped, absent, present, FuncTy, UnitTy}
use Rattle.c65_meaning.specs.Shapes.{object_in, lives_in_frame}
use Rattle.c65_meaning.specs.After.{is_among}

-- whether further arguments may follow
abbrev pub is_variadic : Fn → Bool
is_variadic (fn q ps variadic cdecl) = variadic

-- the objects of a block come into scope one after another
abbrev pub entering : List ℕ → List ℕ → List ℕ
entering [] scope = scope
entering (i ∷ is) scope = entering is (i ∷ scope)

module _ (u : UnitTy) where
  -- an automatic object is in scope; any other one always is
  abbrev pub IsInScope : List ℕ → ℕ → Type 0
  IsInScope scope i = IsTrue (lives_in_frame (object_in u i)) → IsTrue (is_among scope i)

  module _ (variadic : Bool) where
    abbrev mutual
      -- an expression names only objects in scope, and further arguments only where the function has some
      pub IsScopedIn : List ℕ → Typed → Type 0
      IsScopedIn s (node t e) = IsScopedNode s e

      pub IsScopedNode : List ℕ → Node → Type 0
      IsScopedNode s (constant z) = ⊤
      IsScopedNode s null = ⊤
      IsScopedNode s (literal l) = ⊤
      IsScopedNode s (object i) = IsInScope s i
      IsScopedNode s (func f) = ⊤
      IsScopedNode s (deref a) = IsScopedIn s a
      IsScopedNode s (member a m) = IsScopedIn s a
      IsScopedNode s (load a) = IsScopedIn s a
      IsScopedNode s (address a) = IsScopedIn s a
      IsScopedNode s (decay a) = IsScopedIn s a
      IsScopedNode s (convert a) = IsScopedIn s a
      IsScopedNode s (unary op a) = IsScopedIn s a
      IsScopedNode s (binary op a b) = IsScopedIn s a × IsScopedIn s b
      IsScopedNode s (both a b) = IsScopedIn s a × IsScopedIn s b
      IsScopedNode s (either a b) = IsScopedIn s a × IsScopedIn s b
      IsScopedNode s (choice d a b) = IsScopedIn s d × IsScopedIn s a × IsScopedIn s b
      IsScopedNode s (comma a b) = IsScopedIn s a × IsScopedIn s b
      IsScopedNode s (assign a b) = IsScopedIn s a × IsScopedIn s b
      IsScopedNode s (assign_op op k a b) = IsScopedIn s a × IsScopedIn s b
      IsScopedNode s (assign_step op a b) = IsScopedIn s a × IsScopedIn s b
      IsScopedNode s (step kind a) = IsScopedIn s a
      IsScopedNode s (copy a b) = IsScopedIn s a × IsScopedIn s b
      IsScopedNode s (call f es) = IsScopedIn s f × AreScopedIn s es
      IsScopedNode s (pack a) = IsScopedIn s a
      IsScopedNode s (spill i a) = IsInScope s i × IsScopedIn s a
      IsScopedNode s rest = IsTrue variadic

      pub AreScopedIn : List ℕ → Nodes → Type 0
      AreScopedIn s none = ⊤
      AreScopedIn s (some e es) = IsScopedIn s e × AreScopedIn s es

    abbrev pub IsScopedMaybe : List ℕ → MaybeTyped → Type 0
    IsScopedMaybe s absent = ⊤
    IsScopedMaybe s (present e) = IsScopedIn s e

    abbrev mutual
      -- a statement names an automatic object only inside the object's block
      pub IsScoped : List ℕ → Stmt → Type 0
      IsScoped s empty = ⊤
      IsScoped s (eval e) = IsScopedIn s e
      IsScoped s (set_part i o e) = IsInScope s i × IsScopedIn s e
      IsScoped s (clear i) = IsInScope s i
      IsScoped s (block objects ss) = AreScoped (entering objects s) ss
      IsScoped s (if_stmt e a b) = IsScopedIn s e × IsScoped s a × IsScoped s b
      IsScoped s (while e a) = IsScopedIn s e × IsScoped s a
      IsScoped s (do_while a e) = IsScoped s a × IsScopedIn s e
      IsScoped s (for_loop i t n a) = IsScopedMaybe s i × IsScopedMaybe s t × IsScopedMaybe s n × IsScoped s a
      IsScoped s (switch e a) = IsScopedIn s e × IsScoped s a
      IsScoped s (case z a) = IsScoped s a
      IsScoped s (default a) = IsScoped s a
      IsScoped s (label l a) = IsScoped s a
      IsScoped s (goto l) = ⊤
      IsScoped s break = ⊤
      IsScoped s continue = ⊤
      IsScoped s (return e) = IsScopedMaybe s e

      pub AreScoped : List ℕ → Stmts → Type 0
      AreScoped s no_stmts = ⊤
      AreScoped s (and_stmts a ss) = IsScoped s a × AreScoped s ss

  abbrev pub IsScopedBody : Bool → List ℕ → Option Stmt → Type 0
  IsScopedBody variadic params None = ⊤
  IsScopedBody variadic params (Some body) = IsScoped variadic (entering params []) body

  -- the first scope of a body is that of the function's parameters
  abbrev pub HasScopedBody : FuncTy → Type 0
  HasScopedBody f = IsScopedBody (is_variadic f.ty) f.params f.body
