-- Statements (C90 6.6): one equation for each. Its parts are gone through in the order of the source.
use Rattle.std.specs.Prelude.{ℤ, false, List, [], ◌∷◌, ◌++◌, Option, Some, None, Result, Ok}
use Rattle.c65_base.specs.declared.refusal.Pos.{Pos}
use Rattle.c65_base.specs.Answers.{Fault, ◌>>=◌}
use Rattle.c65_ints.specs.declared.types.IntType.{IntType}
use Rattle.c65_ints.specs.declared.types.IntType.TheVariants as ints
use Rattle.c65_ctype.specs.Trees.{Ty, int, type_in}
use Rattle.c65_csem.specs.Trees as n
use Rattle.c65_csem.specs.Trees.{Stmt, Stmts, no_stmts, and_stmts, Typed, MaybeTyped, type_of}
use Rattle.c65_csem.specs.Views.{maybe_of}
use Rattle.c65_fold.specs.Folded.{folded}
use Rattle.c65_elab_convert.specs.Logic.{switch_value_of}
use Rattle.c65_elab_scope.specs.Scopes.{ScopeTy, opened, closed}
use Rattle.c65_tree.specs.Trees as t
use Rattle.c65_elab.specs.Constants.{value_at}
use Rattle.c65_elab.specs.Places.{place_of}
use Rattle.c65_elab.specs.Typing.{typed}
use Rattle.c65_init.specs.declared.stmt.Head.{Head}
use Rattle.c65_init.specs.Bodies.{BodyTy, label_met, label_named, case_met, default_met, in_switch, behind_switch, in_loop, behind_loop, may_continue, may_break}
use Rattle.c65_init.specs.Declarations.{no_locals, declarations_of}
use Rattle.c65_init.specs.Values.{unused_of, maybe_unused, test_of, maybe_test, given_of}

abbrev pub kind_in : Ty → IntType
kind_in (int kind) = kind
kind_in _ = ints.Int

abbrev pub listed : List Stmt → Stmts
listed [] = no_stmts
listed (x ∷ xs) = and_stmts x (listed xs)

-- what stands between the parentheses of a `for`
pub record HeadTy : Type 0 where
  pub first : MaybeTyped
  pub until : MaybeTyped
  pub next : MaybeTyped

abbrev pub head_of : Head → HeadTy
head_of h = record { first = maybe_of h.first; until = maybe_of h.until; next = maybe_of h.next }

abbrev pub head_in : Option t.ExprTree → Option t.ExprTree → Option t.ExprTree → Pos → ScopeTy → Result (HeadTy × ScopeTy) Fault
head_in i c e p s = do
  first ← maybe_unused i s
  until ← maybe_test c p first.1
  next ← maybe_unused e until.1
  Ok (record { first = first.0; until = until.0; next = next.0 }, next.1)

-- a constant expression, whose value is entered into the switch
abbrev pub case_in : t.ExprTree → Pos → BodyTy → ScopeTy → Result ((ℤ × BodyTy) × ScopeTy) Fault
case_in e p k s = do
  x ← typed e s
  z ← value_at x.0 (place_of e)
  l ← case_met k z p
  Ok (l, x.1)

-- the value on which a switch depends
abbrev pub switched_on : t.ExprTree → Pos → ScopeTy → Result (Typed × ScopeTy) Fault
switched_on e p s = do
  x ← typed e s
  c ← switch_value_of x.1.unit.types p x.0
  Ok (folded c, x.1)

abbrev mutual
  pub statement_of : t.StmtTree → BodyTy → ScopeTy → Result ((Stmt × BodyTy) × ScopeTy) Fault
  -- C90 6.6.1
  statement_of (t.label p m b) k s = do
    l ← label_met k m p
    x ← statement_of b l.1 s
    Ok ((n.label l.0 x.0.0, x.0.1), x.1)
  statement_of (t.case p e b) k s = do
    l ← case_in e p k s
    x ← statement_of b l.0.1 l.1
    Ok ((n.case l.0.0 x.0.0, x.0.1), x.1)
  statement_of (t.default p b) k s = do
    l ← default_met k p
    x ← statement_of b l s
    Ok ((n.default x.0.0, x.0.1), x.1)
  -- C90 6.6.2
  statement_of (t.block p ds ss) k s = do
    u ← opened false s
    l ← declarations_of ds no_locals u
    xs ← statements_of ss l.0.stmts k l.1
    Ok ((n.block l.0.objects (listed xs.0.0), xs.0.1), closed xs.1)
  -- C90 6.6.3
  statement_of (t.eval p None) k s = Ok ((n.empty, k), s)
  statement_of (t.eval p (Some e)) k s = unused_of e s >>= (λ x. Ok ((n.eval x.0, k), x.1))
  -- C90 6.6.4
  statement_of (t.if_stmt p e a b) k s = do
    c ← test_of e p s
    x ← statement_of a k c.1
    z ← else_of b x.0.1 x.1
    Ok ((n.if_stmt c.0 x.0.0 z.0.0, z.0.1), z.1)
  statement_of (t.switch p e b) k s = do
    c ← switched_on e p s
    x ← statement_of b (in_switch k (kind_in (type_in (type_of c.0)))) c.1
    Ok ((n.switch c.0 x.0.0, behind_switch x.0.1), x.1)
  -- C90 6.6.5
  statement_of (t.while p e b) k s = do
    c ← test_of e p s
    x ← statement_of b (in_loop k) c.1
    Ok ((n.while c.0 x.0.0, behind_loop x.0.1), x.1)
  statement_of (t.do_while p b e) k s = do
    x ← statement_of b (in_loop k) s
    c ← test_of e p x.1
    Ok ((n.do_while x.0.0 c.0, behind_loop x.0.1), c.1)
  statement_of (t.for p i c e b) k s = do
    h ← head_in i c e p s
    x ← statement_of b (in_loop k) h.1
    Ok ((n.for_loop h.0.first h.0.until h.0.next x.0.0, behind_loop x.0.1), x.1)
  -- C90 6.6.6
  statement_of (t.goto p m) k s = label_named k m p >>= (λ l. Ok ((n.goto l, k), s))
  statement_of (t.continue p) k s = may_continue k p >>= (λ x. Ok ((n.continue, k), s))
  statement_of (t.break p) k s = may_break k p >>= (λ x. Ok ((n.break, k), s))
  statement_of (t.return p e) k s = given_of (type_in k.gives) e p s >>= (λ x. Ok ((n.return x.0, k), x.1))

  pub else_of : t.MaybeStmt → BodyTy → ScopeTy → Result ((Stmt × BodyTy) × ScopeTy) Fault
  else_of t.no_stmt k s = Ok ((n.empty, k), s)
  else_of (t.a_stmt b) k s = statement_of b k s

  -- statements behind others
  pub statements_of : t.StmtList → List Stmt → BodyTy → ScopeTy → Result ((List Stmt × BodyTy) × ScopeTy) Fault
  statements_of t.no_stmts before k s = Ok ((before, k), s)
  statements_of (t.and_stmt ss b) before k s = do
    xs ← statements_of ss before k s
    x ← statement_of b xs.0.1 xs.1
    Ok ((xs.0.0 ++ x.0.0 ∷ [], x.0.1), x.1)

-- declarations, whose objects live in the block and are begun in it, and then statements
abbrev pub block_in : List t.DeclTree → t.StmtList → BodyTy → ScopeTy → Result ((Stmt × BodyTy) × ScopeTy) Fault
block_in ds ss k s = do
  l ← declarations_of ds no_locals s
  xs ← statements_of ss l.0.stmts k l.1
  Ok ((n.block l.0.objects (listed xs.0.0), xs.0.1), xs.1)
