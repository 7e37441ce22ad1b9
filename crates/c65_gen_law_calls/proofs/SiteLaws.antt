-- The calls of a body: what each takes away, and that each is well typed.
use Rattle.std.proofs.Common.{◌≡◌, ℕ, zero, suc, Option, None, Some, List, [], ◌∷◌, ◌++◌, slice_get, refl, sym, ap, subst, ◌∙◌}
use Rattle.c65_ctype.specs.Trees.{QTy}
use Rattle.c65_csem.specs.Trees.{Typed, node, Node, constant, null, literal, object, func, deref, member, load, address, decay, convert, unary, binary, both, either, choice, comma, assign, assign_op, assign_step, step, copy, call, pack, spill, rest as further, Nodes, none, some, MaybeTyped, absent, present, Stmt, empty, eval, set_part, clear, block, if_stmt, while, do_while, for_loop, switch, case, default, label, goto, break, continue, return, Stmts, no_stmts, and_stmts, UnitTy}
use Rattle.c65_csem.specs.Typed as typing
use Rattle.c65_csem.specs.Typed.{IsTyped, IsNode, IsGiven, IsCalled, AreTyped, IsUsual, IsResult}
use Rattle.c65_genframe.specs.Frames.{Framed}
use Rattle.c65_csem.specs.Statements.{Context, looping, switching, IsStmt, AreStmts, IsMaybe, IsMaybeCondition, IsReturn}
use Rattle.c65_genexpr.specs.Types.{bare}
use Rattle.c65_genexpr.specs.Arguments.{is_fast}
use Rattle.c65_genexpr.specs.Calls.{named}
use Rattle.c65_gen_law_lines.specs.Stack.{passed, calls_of, node_calls, args_calls, maybe_calls, statement_calls, statements_calls}
use Rattle.c65_gen_law_lines.specs.Stack as stack
use Rattle.c65_gen_law_calls.specs.Sites.{Site, site_by, IsSite, bytes_of, unless_named, sites_of, node_sites, args_sites, maybe_sites, statement_sites, statements_sites}

-- ---- what they take away

abbrev pub all_bytes : Framed → List Site → List (List ℕ)
all_bytes f [] = []
all_bytes f (s ∷ ss) = bytes_of f s ∷ all_bytes f ss

bytes_append : (f : Framed) (ss ts : List Site) → all_bytes f (ss ++ ts) ≡ all_bytes f ss ++ all_bytes f ts
bytes_append f [] ts = refl
bytes_append f (s ∷ ss) ts = ap (λ (x : List (List ℕ)). bytes_of f s ∷ x) (bytes_append f ss ts)

two : (f : Framed) (xs ys : List (List ℕ)) (ss ts : List Site) → xs ≡ all_bytes f ss → ys ≡ all_bytes f ts → xs ++ ys ≡ all_bytes f (ss ++ ts)
two f xs ys ss ts p q = ap (λ (x : List (List ℕ)). x ++ ys) p ∙ (ap (λ (y : List (List ℕ)). all_bytes f ss ++ y) q ∙ sym (bytes_append f ss ts))

unnamed : (f : Framed) (n : Option ℕ) (xs : List (List ℕ)) (ss : List Site) → xs ≡ all_bytes f ss → stack.unless_named n xs ≡ all_bytes f (unless_named n ss)
unnamed f None xs ss p = p
unnamed f (Some i) xs ss p = refl

mutual
  calls_are : (f : Framed) (e : Typed) → calls_of f e ≡ all_bytes f (sites_of e)
  calls_are f (node t n) = node_calls_are f t n

  node_calls_are : (f : Framed) (t : QTy) (n : Node) → node_calls f n ≡ all_bytes f (node_sites t n)
  node_calls_are f t (constant z) = refl
  node_calls_are f t null = refl
  node_calls_are f t (literal n) = refl
  node_calls_are f t (object i) = refl
  node_calls_are f t (func i) = refl
  node_calls_are f t (deref e) = calls_are f e
  node_calls_are f t (member e m) = calls_are f e
  node_calls_are f t (load e) = calls_are f e
  node_calls_are f t (address e) = calls_are f e
  node_calls_are f t (decay e) = calls_are f e
  node_calls_are f t (convert e) = calls_are f e
  node_calls_are f t (unary op e) = calls_are f e
  node_calls_are f t (binary op a b) = two f (calls_of f a) (calls_of f b) (sites_of a) (sites_of b) (calls_are f a) (calls_are f b)
  node_calls_are f t (both a b) = two f (calls_of f a) (calls_of f b) (sites_of a) (sites_of b) (calls_are f a) (calls_are f b)
  node_calls_are f t (either a b) = two f (calls_of f a) (calls_of f b) (sites_of a) (sites_of b) (calls_are f a) (calls_are f b)
  node_calls_are f t (choice c a b) = two f (calls_of f c) (calls_of f a ++ calls_of f b) (sites_of c) (sites_of a ++ sites_of b) (calls_are f c) (two f (calls_of f a) (calls_of f b) (sites_of a) (sites_of b) (calls_are f a) (calls_are f b))
  node_calls_are f t (comma a b) = two f (calls_of f a) (calls_of f b) (sites_of a) (sites_of b) (calls_are f a) (calls_are f b)
  node_calls_are f t (assign a b) = two f (calls_of f a) (calls_of f b) (sites_of a) (sites_of b) (calls_are f a) (calls_are f b)
  node_calls_are f t (assign_op op k a b) = two f (calls_of f a) (calls_of f b) (sites_of a) (sites_of b) (calls_are f a) (calls_are f b)
  node_calls_are f t (assign_step op a b) = two f (calls_of f a) (calls_of f b) (sites_of a) (sites_of b) (calls_are f a) (calls_are f b)
  node_calls_are f t (step how e) = calls_are f e
  node_calls_are f t (copy a b) = two f (calls_of f a) (calls_of f b) (sites_of a) (sites_of b) (calls_are f a) (calls_are f b)
  node_calls_are f t (call g es) =
      two f (stack.unless_named (named g) (calls_of f g)) (args_calls f es ++ passed f (is_fast (bare g)) es ∷ []) (unless_named (named g) (sites_of g)) (args_sites es ++ site_by t g es ∷ []) (unnamed f (named g) (calls_of f g) (sites_of g) (calls_are f g))
      (two f (args_calls f es) (passed f (is_fast (bare g)) es ∷ []) (args_sites es) (site_by t g es ∷ []) (args_calls_are f es) refl)
  node_calls_are f t (pack e) = calls_are f e
  node_calls_are f t (spill i e) = calls_are f e
  node_calls_are f t further = refl

  args_calls_are : (f : Framed) (es : Nodes) → args_calls f es ≡ all_bytes f (args_sites es)
  args_calls_are f none = refl
  args_calls_are f (some e es) = two f (calls_of f e) (args_calls f es) (sites_of e) (args_sites es) (calls_are f e) (args_calls_are f es)

none_in : (f : Framed) (ss : List Site) → all_bytes f ss ≡ [] → ss ≡ []
none_in f [] e = refl
none_in f (s ∷ ss) e = absurd cc

-- what takes away nothing calls nothing
pub calls_nothing : (f : Framed) (e : Typed) → calls_of f e ≡ [] → sites_of e ≡ []
calls_nothing f e h = none_in f (sites_of e) (sym (calls_are f e) ∙ h)

maybe_calls_are : (f : Framed) (e : MaybeTyped) → maybe_calls f e ≡ all_bytes f (maybe_sites e)
maybe_calls_are f absent = refl
maybe_calls_are f (present e) = calls_are f e

mutual
  pub statement_calls_are : (f : Framed) (s : Stmt) → statement_calls f s ≡ all_bytes f (statement_sites s)
  statement_calls_are f empty = refl
  statement_calls_are f (eval e) = calls_are f e
  statement_calls_are f (set_part i o e) = calls_are f e
  statement_calls_are f (clear i) = refl
  statement_calls_are f (block os ss) = statements_calls_are f ss
  statement_calls_are f (if_stmt e a b) = two f (calls_of f e) (statement_calls f a ++ statement_calls f b) (sites_of e) (statement_sites a ++ statement_sites b) (calls_are f e) (two f (statement_calls f a) (statement_calls f b) (statement_sites a) (statement_sites b) (statement_calls_are f a) (statement_calls_are f b))
  statement_calls_are f (while e a) = two f (calls_of f e) (statement_calls f a) (sites_of e) (statement_sites a) (calls_are f e) (statement_calls_are f a)
  statement_calls_are f (do_while a e) = two f (statement_calls f a) (calls_of f e) (statement_sites a) (sites_of e) (statement_calls_are f a) (calls_are f e)
  statement_calls_are f (for_loop i c n a) =
      two f (maybe_calls f i) (maybe_calls f c ++ (statement_calls f a ++ maybe_calls f n)) (maybe_sites i) (maybe_sites c ++ (statement_sites a ++ maybe_sites n)) (maybe_calls_are f i)
      (two f (maybe_calls f c) (statement_calls f a ++ maybe_calls f n) (maybe_sites c) (statement_sites a ++ maybe_sites n) (maybe_calls_are f c)
      (two f (statement_calls f a) (maybe_calls f n) (statement_sites a) (maybe_sites n) (statement_calls_are f a) (maybe_calls_are f n)))
  statement_calls_are f (switch e a) = two f (calls_of f e) (statement_calls f a) (sites_of e) (statement_sites a) (calls_are f e) (statement_calls_are f a)
  statement_calls_are f (case z a) = statement_calls_are f a
  statement_calls_are f (default a) = statement_calls_are f a
  statement_calls_are f (label n a) = statement_calls_are f a
  statement_calls_are f (goto n) = refl
  statement_calls_are f break = refl
  statement_calls_are f continue = refl
  statement_calls_are f (return e) = maybe_calls_are f e

  statements_calls_are : (f : Framed) (ss : Stmts) → statements_calls f ss ≡ all_bytes f (statements_sites ss)
  statements_calls_are f no_stmts = refl
  statements_calls_are f (and_stmts a ss) = two f (statement_calls f a) (statements_calls f ss) (statement_sites a) (statements_sites ss) (statement_calls_are f a) (statements_calls_are f ss)

-- ---- their types

abbrev pub AreSites : UnitTy → List Site → Type 0
AreSites u [] = Unit {0}
AreSites u (s ∷ ss) = IsSite u s × AreSites u ss

sites_append : (u : UnitTy) (ss ts : List Site) → AreSites u ss → AreSites u ts → AreSites u (ss ++ ts)
sites_append u [] ts p q = q
sites_append u (s ∷ ss) ts p q = (p.0, sites_append u ss ts p.1 q)

pub site_in : (u : UnitTy) (ss : List Site) (k : ℕ) (s : Site) → AreSites u ss → slice_get ss k ≡ Some s → IsSite u s
site_in u [] k s p e = absurd cc
site_in u (r ∷ ss) zero s p e = let same : r ≡ s = cc in subst (λ (x : Site). IsSite u x) same p.0
site_in u (r ∷ ss) (suc k) s p e = site_in u ss k s p.1 e

unnamed_sites : (u : UnitTy) (n : Option ℕ) (ss : List Site) → AreSites u ss → AreSites u (unless_named n ss)
unnamed_sites u None ss p = p
unnamed_sites u (Some i) ss p = tt

usual_result : (u : UnitTy) (t : QTy) → IsUsual t → IsResult u t
usual_result u t typing.nothing = typing.nothing
usual_result u t (typing.scalar h) = typing.scalar h

mutual
  expr_sites : (u : UnitTy) (e : Typed) → IsTyped u e → AreSites u (sites_of e)
  expr_sites u (node t n) h = typed_sites u t n h

  typed_sites : (u : UnitTy) (t : QTy) (n : Node) → IsNode u t n → AreSites u (node_sites t n)
  typed_sites u t (constant z) h = tt
  typed_sites u t null h = tt
  typed_sites u t (literal n) h = tt
  typed_sites u t (object i) h = tt
  typed_sites u t (func i) h = tt
  typed_sites u t (deref e) h = expr_sites u e h.0
  typed_sites u t (member e m) h = expr_sites u e h.0
  typed_sites u t (load e) h = expr_sites u e h.0
  typed_sites u t (address e) h = expr_sites u e h.0
  typed_sites u t (decay e) h = expr_sites u e h.0
  typed_sites u t (convert e) h = expr_sites u e h.0
  typed_sites u t (unary op e) h = expr_sites u e h.0
  typed_sites u t (binary op a b) h = sites_append u (sites_of a) (sites_of b) (expr_sites u a h.0) (expr_sites u b h.1)
  typed_sites u t (both a b) h = sites_append u (sites_of a) (sites_of b) (expr_sites u a h.0) (expr_sites u b h.1)
  typed_sites u t (either a b) h = sites_append u (sites_of a) (sites_of b) (expr_sites u a h.0) (expr_sites u b h.1)
  typed_sites u t (choice c a b) h = sites_append u (sites_of c) (sites_of a ++ sites_of b) (expr_sites u c h.0) (sites_append u (sites_of a) (sites_of b) (expr_sites u a h.1) (expr_sites u b h.2))
  typed_sites u t (comma a b) h = sites_append u (sites_of a) (sites_of b) (expr_sites u a h.0) (expr_sites u b h.1)
  typed_sites u t (assign a b) h = sites_append u (sites_of a) (sites_of b) (expr_sites u a h.0) (expr_sites u b h.1)
  typed_sites u t (assign_op op k a b) h = sites_append u (sites_of a) (sites_of b) (expr_sites u a h.0) (expr_sites u b h.1)
  typed_sites u t (assign_step op a b) h = sites_append u (sites_of a) (sites_of b) (expr_sites u a h.0) (expr_sites u b h.1)
  typed_sites u t (step how e) h = expr_sites u e h.0
  typed_sites u t (copy a b) h = sites_append u (sites_of a) (sites_of b) (expr_sites u a h.0) (expr_sites u b h.1)
  typed_sites u t (call g es) h =
      sites_append u (unless_named (named g) (sites_of g)) (args_sites es ++ site_by t g es ∷ []) (unnamed_sites u (named g) (sites_of g) (expr_sites u g h.0))
      (sites_append u (args_sites es) (site_by t g es ∷ []) (argument_sites u es h.4) (record { callee = h.0; value = h.1; made = h.2; result = usual_result u t h.3; args = h.4 }, tt))
  typed_sites u t (pack e) h = absurd h
  typed_sites u t (spill i e) h = called_sites u t e h.0
  typed_sites u t further h = tt

  -- a call that gives a structure
  called_sites : (u : UnitTy) (t : QTy) (e : Typed) → IsCalled u t e → AreSites u (sites_of e)
  called_sites u t (node s (call g es)) h =
      sites_append u (unless_named (named g) (sites_of g)) (args_sites es ++ site_by s g es ∷ []) (unnamed_sites u (named g) (sites_of g) (expr_sites u g h.2))
      (sites_append u (args_sites es) (site_by s g es ∷ []) (argument_sites u es h.5) (record { callee = h.2; value = h.3; made = h.4; result = typing.structure h.1; args = h.5 }, tt))
  called_sites u t (node s _) h = absurd h

  argument_sites : (u : UnitTy) (es : Nodes) → AreTyped u es → AreSites u (args_sites es)
  argument_sites u none h = tt
  argument_sites u (some e es) h = sites_append u (sites_of e) (args_sites es) (given_sites u e h.0) (argument_sites u es h.1)

  -- an argument or a returned value
  given_sites : (u : UnitTy) (e : Typed) → IsGiven u e → AreSites u (sites_of e)
  given_sites u (node t (pack e)) h = expr_sites u e h.0
  given_sites u (node t n) h = typed_sites u t n h.0

some_sites : (u : UnitTy) (e : MaybeTyped) → IsMaybe u e → AreSites u (maybe_sites e)
some_sites u absent h = tt
some_sites u (present e) h = expr_sites u e h

condition_sites : (u : UnitTy) (e : MaybeTyped) → IsMaybeCondition u e → AreSites u (maybe_sites e)
condition_sites u absent h = tt
condition_sites u (present e) h = expr_sites u e h.0

return_sites : (u : UnitTy) (c : Context) (e : MaybeTyped) → IsReturn u c e → AreSites u (maybe_sites e)
return_sites u c absent h = tt
return_sites u c (present e) h = given_sites u e h.0

mutual
  pub stmt_sites : (u : UnitTy) (c : Context) (s : Stmt) → IsStmt u c s → AreSites u (statement_sites s)
  stmt_sites u c empty h = tt
  stmt_sites u c (eval e) h = expr_sites u e h
  stmt_sites u c (set_part i o e) h = expr_sites u e h.typed
  stmt_sites u c (clear i) h = tt
  stmt_sites u c (block os ss) h = stmts_sites u c ss h.1
  stmt_sites u c (if_stmt e a b) h = sites_append u (sites_of e) (statement_sites a ++ statement_sites b) (expr_sites u e h.0.0) (sites_append u (statement_sites a) (statement_sites b) (stmt_sites u c a h.1) (stmt_sites u c b h.2))
  stmt_sites u c (while e a) h = sites_append u (sites_of e) (statement_sites a) (expr_sites u e h.0.0) (stmt_sites u (looping c) a h.1)
  stmt_sites u c (do_while a e) h = sites_append u (statement_sites a) (sites_of e) (stmt_sites u (looping c) a h.0) (expr_sites u e h.1.0)
  stmt_sites u c (for_loop i t n a) h =
      sites_append u (maybe_sites i) (maybe_sites t ++ (statement_sites a ++ maybe_sites n)) (some_sites u i h.0)
      (sites_append u (maybe_sites t) (statement_sites a ++ maybe_sites n) (condition_sites u t h.1)
      (sites_append u (statement_sites a) (maybe_sites n) (stmt_sites u (looping c) a h.3) (some_sites u n h.2)))
  stmt_sites u c (switch e a) h = sites_append u (sites_of e) (statement_sites a) (expr_sites u e h.1.typed) (stmt_sites u (switching h.0 c) a h.2)
  stmt_sites u c (case z a) h = stmt_sites u c a h.1
  stmt_sites u c (default a) h = stmt_sites u c a h.1
  stmt_sites u c (label n a) h = stmt_sites u c a h
  stmt_sites u c (goto n) h = tt
  stmt_sites u c break h = tt
  stmt_sites u c continue h = tt
  stmt_sites u c (return e) h = return_sites u c e h

  stmts_sites : (u : UnitTy) (c : Context) (ss : Stmts) → AreStmts u c ss → AreSites u (statements_sites ss)
  stmts_sites u c no_stmts h = tt
  stmts_sites u c (and_stmts a ss) h = sites_append u (statement_sites a) (statements_sites ss) (stmt_sites u c a h.0) (stmts_sites u c ss h.1)
