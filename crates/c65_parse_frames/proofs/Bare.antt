-- Whether a block has statements.
use Rattle.std.proofs.Common.{◌≡◌, ℕ, suc, List, [], ◌∷◌, length, ◌∙◌, sym, refl, inl, inr, false, eq-eqb, eqb-true, arith}
use Rattle.std.specs.Prelude.{nat_eq}
use Rattle.std.proofs.lemmas.Bool.{cases_Bool}
use Rattle.c65_tree.specs.declared.stmt.Stmt.{Stmt}
use Rattle.c65_tree.specs.Trees as t
use Rattle.c65_tree.specs.View.{stmt_of, stmts_from}
use Rattle.c65_parse_frames.specs.Frames.{is_no_stmts, stmts_of}

some_stmts : (ss : List Stmt) (xs : t.StmtList) (s : t.StmtTree) → is_no_stmts (stmts_from (t.and_stmt xs s) ss) ≡ false
some_stmts [] xs s = refl
some_stmts (r ∷ ss) xs s = some_stmts ss (t.and_stmt xs s) (stmt_of r)

not_none : (m : ℕ) (rs : List Stmt) → m ≡ suc (length rs) → m ≡ 0 → ⊥
not_none m rs g k = omega (arith, g, k)

-- whether there are no statements, by their number
pub no_stmts_are : (ss : List Stmt) (n : ℕ) → n ≡ length ss → nat_eq n 0 ≡ is_no_stmts (stmts_of ss)
no_stmts_are [] n h = eq-eqb n 0 h
no_stmts_are (s ∷ ss) n h = elim (cases_Bool (nat_eq n 0)) [ inl e ↦ absurd (not_none n ss h (eqb-true n 0 e)) | inr e ↦ e ∙ sym (some_stmts ss t.no_stmts (stmt_of s)) ]
