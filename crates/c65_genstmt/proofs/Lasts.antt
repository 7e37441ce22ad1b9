-- The last statement of a block.
use Rattle.std.proofs.Common.{◌≡◌, ℕ, ◌≤◌, List, [], ◌∷◌, ◌++◌, refl, subst, sym, arith}
use Rattle.c65_csem.specs.declared.stmt.TStmt.{TStmt}
use Rattle.c65_csem.specs.Views.{stmt_of, stmts_of}
use Rattle.c65_code.specs.Segments.{Drafted}
use Rattle.c65_genframe.specs.Frames.{Framed}
use Rattle.c65_genstmt.specs.declared.jumps.Ways.{Ways}
use Rattle.c65_genstmt.specs.Stmts.{case_behind, case_behind_all, with_stmt, with_stmts, with_last, with_lasts, returns_last, any_last}
use Rattle.c65_genstmt.proofs.Counts.{count, counts}

count_last : (before : List TStmt) (x : TStmt) → count (stmt_of x) ≤ counts (stmts_of (before ++ (x ∷ [])))
count_last [] x = omega arith
count_last (y ∷ ys) x = omega (arith, count_last ys x)

pub last_of : (xs before : List TStmt) (x : TStmt) → xs ≡ before ++ (x ∷ []) → count (stmt_of x) ≤ counts (stmts_of xs)
last_of xs before x is = subst (λ (ys : List TStmt). count (stmt_of x) ≤ counts (stmts_of ys)) (sym is) (count_last before x)

lasts_are : (f : Framed) (w : Ways) (l : ℕ) (before : List TStmt) (x : TStmt) (d : Drafted) → with_lasts f w l (stmts_of (before ++ (x ∷ []))) d ≡ with_last f w (case_behind_all l (stmts_of before)) (stmt_of x) (with_stmts f w l (stmts_of before) d)
lasts_are f w l [] x d = refl
lasts_are f w l (y ∷ []) x d = refl
lasts_are f w l (y ∷ z ∷ zs) x d = lasts_are f w (case_behind l (stmt_of y)) (z ∷ zs) x (with_stmt f w l (stmt_of y) d)

pub lasts_is : (f : Framed) (w : Ways) (l : ℕ) (xs before : List TStmt) (x : TStmt) (d : Drafted) → xs ≡ before ++ (x ∷ []) → with_lasts f w l (stmts_of xs) d ≡ with_last f w (case_behind_all l (stmts_of before)) (stmt_of x) (with_stmts f w l (stmts_of before) d)
lasts_is f w l xs before x d is = subst (λ (ys : List TStmt). with_lasts f w l (stmts_of ys) d ≡ with_last f w (case_behind_all l (stmts_of before)) (stmt_of x) (with_stmts f w l (stmts_of before) d)) (sym is) (lasts_are f w l before x d)

any_are : (before : List TStmt) (x : TStmt) → any_last (stmts_of (before ++ (x ∷ []))) ≡ returns_last (stmt_of x)
any_are [] x = refl
any_are (y ∷ []) x = refl
any_are (y ∷ z ∷ zs) x = any_are (z ∷ zs) x

pub any_is : (xs before : List TStmt) (x : TStmt) → xs ≡ before ++ (x ∷ []) → any_last (stmts_of xs) ≡ returns_last (stmt_of x)
any_is xs before x is = subst (λ (ys : List TStmt). any_last (stmts_of ys) ≡ returns_last (stmt_of x)) (sym is) (any_are before x)
