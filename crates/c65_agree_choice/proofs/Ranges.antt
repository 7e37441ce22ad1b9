-- The cases of a switch are numbers of its type (C90 6.6.4.2).
use Rattle.std.proofs.Common.{◌≡◌, ℤ, List, [], ◌∷◌, ◌++◌, Some, sym, ◌∙◌, subst}
use Rattle.std.specs.Prelude.{All}
use Rattle.std.proofs.lemmas.List.Elements.{All-nil, All-cons, All-head, All-tail}
use Rattle.c65_ints.specs.declared.types.IntType.{IntType}
use Rattle.c65_ints.specs.Ranges.{InRange}
use Rattle.c65_csem.specs.Trees.{Stmt, empty, eval, set_part, clear, block, if_stmt, while, do_while, for_loop, switch, case, default, label, goto, break, continue, return, Stmts, no_stmts, and_stmts, UnitTy}
use Rattle.c65_csem.specs.Statements.{Context, looping, IsCase, IsStmt, AreStmts, cases_of, cases_in}
use Rattle.c65_agree_choice.specs.Laws.{CasesAreOfType}

all_both : (P : ℤ → Type 0) (xs ys : List ℤ) → All P xs → All P ys → All P (xs ++ ys)
all_both P [] ys h k = k
all_both P (x ∷ xs) ys h k = All-cons P x (xs ++ ys) (All-head P x xs h) (all_both P xs ys (All-tail P x xs h) k)

module _ (u : UnitTy) (kind : IntType) where
  abbrev Fit : List ℤ → Type 0
  Fit zs = All (InRange kind) zs

  of_case : (c : Context) (z : ℤ) → c.in_switch ≡ Some kind → IsCase c z → InRange kind z
  of_case c z e h =
      let both : Some h.kind ≡ Some kind = sym h.belongs ∙ e in
      let same : h.kind ≡ kind = cc in
      subst (λ k. InRange k z) same h.value

  mutual
    cases_fit : (c : Context) (s : Stmt) → c.in_switch ≡ Some kind → IsStmt u c s → Fit (cases_of s)
    cases_fit c empty e h = All-nil (InRange kind)
    cases_fit c (eval v) e h = All-nil (InRange kind)
    cases_fit c (set_part i o v) e h = All-nil (InRange kind)
    cases_fit c (clear i) e h = All-nil (InRange kind)
    cases_fit c (block os ss) e h = all_fit c ss e h.1
    cases_fit c (if_stmt v a b) e h = all_both (InRange kind) (cases_of a) (cases_of b) (cases_fit c a e h.1) (cases_fit c b e h.2)
    cases_fit c (while v a) e h = cases_fit (looping c) a e h.1
    cases_fit c (do_while a v) e h = cases_fit (looping c) a e h.0
    cases_fit c (for_loop i t n a) e h = cases_fit (looping c) a e h.3
    cases_fit c (switch v a) e h = All-nil (InRange kind)
    cases_fit c (case z a) e h = All-cons (InRange kind) z (cases_of a) (of_case c z e h.0) (cases_fit c a e h.1)
    cases_fit c (default a) e h = cases_fit c a e h.1
    cases_fit c (label l a) e h = cases_fit c a e h
    cases_fit c (goto l) e h = All-nil (InRange kind)
    cases_fit c break e h = All-nil (InRange kind)
    cases_fit c continue e h = All-nil (InRange kind)
    cases_fit c (return v) e h = All-nil (InRange kind)

    all_fit : (c : Context) (ss : Stmts) → c.in_switch ≡ Some kind → AreStmts u c ss → Fit (cases_in ss)
    all_fit c no_stmts e h = All-nil (InRange kind)
    all_fit c (and_stmts a ss) e h = all_both (InRange kind) (cases_of a) (cases_in ss) (cases_fit c a e h.0) (all_fit c ss e h.1)

pub cases_are_of_type : CasesAreOfType
cases_are_of_type u c kind s h e = cases_fit u kind c s e h
