-- Places of trees, and lists of statements, as the code takes them.
use Rattle.std.proofs.Common.{◌≡◌, ◌∙◌, ◌≤◌, List, [], ◌∷◌, length, get_or, map, refl, sym, ap, arith, false, Err}
use Rattle.c65_base.specs.declared.code.Code.TheVariants.{ParameterList}
use Rattle.c65_base.specs.declared.refusal.Pos.{Pos}
use Rattle.c65_base.specs.Answers.{at}
use Rattle.c65_ctype.specs.Trees.{Fn, function, fn, unknown}
use Rattle.c65_ctype.specs.declared.types.FnType.{FnType, out-FnType}
use Rattle.c65_ctype.specs.Views.{qty_of, fn_of}
use Rattle.c65_ctype.proofs.ViewLaws.{fn_view}
use Rattle.c65_csem.specs.declared.stmt.TStmt.{TStmt}
use Rattle.c65_csem.specs.Trees.{and_stmts}
use Rattle.c65_csem.specs.Views.{stmt_of, stmts_of}
use Rattle.c65_init_cells.specs.Items.{place_of as init_place_of}
use Rattle.c65_init_cells.proofs.ItemLaws.{place_is as init_place_is}
use Rattle.c65_tree.specs.declared.expr.Expr.{Expr}
use Rattle.c65_tree.specs.declared.expr.Specifiers.{out-Specifiers}
use Rattle.c65_tree.specs.declared.stmt.Decl.{Decl}
use Rattle.c65_tree.specs.declared.stmt.Initialiser.{Initialiser}
use Rattle.c65_tree.specs.View.{expr_of, decl_of, init_of}
use Rattle.c65_tree.proofs.Views.{specifiers_view}
use Rattle.c65_init_cells.specs.Items.{place_of as item_place_of}
use Rattle.c65_init_cells.proofs.ItemLaws.{place_is as item_is}
use Rattle.c65_elab.specs.Places.{place_of}
use Rattle.c65_elab.proofs.Parts.{place_is}
use Rattle.c65_init.specs.Functions.{result_in, is_variadic}
use Rattle.c65_init.specs.Settled.{unprototyped}
use Rattle.c65_init.specs.Parameters.{specifiers_place, no_declarations}
use Rattle.c65_init.specs.Statements.{listed}

pub place_at : (e : Expr) → place_of (expr_of e) ≡ e.pos
place_at e = place_is e.pos e.kind

pub init_place_at : (i : Initialiser) → init_place_of (init_of i) ≡ i.pos
init_place_at i = init_place_is i.pos i.kind

pub item_place : (i : Initialiser) → item_place_of (init_of i) ≡ i.pos
item_place i = item_is i.pos i.kind

pub listed_is : (xs : List TStmt) → stmts_of xs ≡ listed (map stmt_of xs)
listed_is [] = refl
listed_is (x ∷ xs) = ap (and_stmts (stmt_of x)) (listed_is xs)

pub result_is : (f : FnType) → result_in (fn_of f) ≡ qty_of (out-FnType f).result
result_is f = ap result_in (fn_view f)

pub variadic_is : (f : FnType) → is_variadic (function (fn_of f)) ≡ (out-FnType f).variadic
variadic_is f = ap (λ (g : Fn). is_variadic (function g)) (fn_view f)

pub unprototyped_is : (f : FnType) → unprototyped (fn_of f) ≡ fn (qty_of (out-FnType f).result) unknown false (out-FnType f).cdecl
unprototyped_is f = ap unprototyped (fn_view f)

pub declarations_stand : (ds : List Decl) (x : Decl) → 1 ≤ length ds → x ≡ get_or ds 0 x → no_declarations (map decl_of ds) ≡ Err (at ParameterList (out-Specifiers x.specifiers).pos)
declarations_stand [] x h is = absurd (omega (arith, h))
declarations_stand (y ∷ ys) x h is = ap (λ (l : Pos). Err (at ParameterList l)) (ap specifiers_place (specifiers_view y.specifiers) ∙ ap (λ (d : Decl). (out-Specifiers d.specifiers).pos) (sym is))
