-- Statements of a block, one by one.
use Rattle.std.proofs.Common.{◌≡◌, ◌∙◌, ℕ, ◌+◌, ◌<◌, List, [], ◌∷◌, ◌++◌, length, map, take, get_or, Vec, Global, false, refl, sym, ap, Ok}
use Rattle.std.specs.Prelude.{Result}
use Rattle.c65_base.specs.declared.refusal.Pos.{Pos}
use Rattle.c65_base.specs.declared.refusal.Refusal.{Refusal}
use Rattle.c65_base.specs.Answers.{Fault, Fails, ◌>>=◌}
use Rattle.c65_csem.specs.declared.stmt.TStmt.{TStmt}
use Rattle.c65_csem.specs.Trees as n
use Rattle.c65_csem.specs.Views.{stmt_of, stmts_of}
use Rattle.c65_elab_scope.specs.Scopes.{ScopeTy, variadic_in, opened, closed}
use Rattle.c65_tree.specs.declared.stmt.Decl.{Decl}
use Rattle.c65_tree.specs.declared.stmt.Stmt.{Stmt}
use Rattle.c65_tree.specs.declared.stmt.StmtKind.TheVariants as k
use Rattle.c65_tree.specs.Trees as t
use Rattle.c65_tree.specs.View as v
use Rattle.c65_tree.proofs.Views.{block_view}
use Rattle.c65_elab.proofs.Walks.{next, refused, fails_bind, then_ok, then_fails, regrouped}
use Rattle.c65_init.specs.Bodies.{BodyTy}
use Rattle.c65_init.specs.Declarations.{LocalsTy, no_locals, declarations_of}
use Rattle.c65_init.specs.Functions.{body_in}
use Rattle.c65_init.specs.Statements.{listed, statement_of, statements_of, block_in}
use Rattle.c65_init.proofs.Lists.{stmts_walk, stmts_step, stmts_go}
use Rattle.c65_init.proofs.Places.{listed_is}

pub stmts_next : (before : List n.Stmt) (k : BodyTy) (s : ScopeTy) (j : BodyTy) (u : ScopeTy) (i : BodyTy) (w : ScopeTy) (bs : List Stmt) (at : ℕ) (x : Stmt) (all more : List n.Stmt) (b : n.Stmt) → at < length bs → x ≡ get_or bs at x → stmts_walk before k s (take at bs) ≡ Ok ((all, j), u) → statement_of (v.stmt_of x) j u ≡ Ok ((b, i), w) → more ≡ all ++ b ∷ [] → stmts_walk before k s (take (at + 1) bs) ≡ Ok ((more, i), w)
stmts_next before k s j u i w bs at x all more b below is so_far done longer =
    next (stmts_walk before k s) stmts_step (stmts_go before k s) bs at x ((all, j), u) ((more, i), w) below is so_far
    (then_ok (statement_of (v.stmt_of x) j u) ((b, i), w) (λ y. Ok ((all ++ y.0.0 ∷ [], y.0.1), y.1)) (Ok ((more, i), w)) done (ap (λ (ys : List n.Stmt). Ok ((ys, i), w)) (sym longer)))

pub stmts_refused : (before : List n.Stmt) (k : BodyTy) (s : ScopeTy) (j : BodyTy) (u : ScopeTy) (bs : List Stmt) (at : ℕ) (x : Stmt) (all : List n.Stmt) (e : Refusal) → at < length bs → x ≡ get_or bs at x → stmts_walk before k s (take at bs) ≡ Ok ((all, j), u) → Fails e (statement_of (v.stmt_of x) j u) → Fails e (stmts_walk before k s bs)
stmts_refused before k s j u bs at x all e below is so_far h =
    refused (stmts_walk before k s) stmts_step (stmts_go before k s) e bs at x ((all, j), u) below is so_far (fails_bind e (statement_of (v.stmt_of x) j u) (λ y. Ok ((all ++ y.0.0 ∷ [], y.0.1), y.1)) h)

abbrev begun_in : List ℕ → (List n.Stmt × BodyTy) × ScopeTy → Result ((n.Stmt × BodyTy) × ScopeTy) Fault
begun_in os xs = Ok ((n.block os (listed xs.0.0), xs.0.1), xs.1)

abbrev closed_in : List ℕ → (List n.Stmt × BodyTy) × ScopeTy → Result ((n.Stmt × BodyTy) × ScopeTy) Fault
closed_in os xs = Ok ((n.block os (listed xs.0.0), xs.0.1), closed xs.1)

abbrev pub closing : (n.Stmt × BodyTy) × ScopeTy → Result ((n.Stmt × BodyTy) × ScopeTy) Fault
closing x = Ok (x.0, closed x.1)

closes : (ds : List t.DeclTree) (ss : t.StmtList) (k : BodyTy) (u : ScopeTy) → (declarations_of ds no_locals u >>= (λ l. statements_of ss l.0.stmts k l.1 >>= closed_in l.0.objects)) ≡ (block_in ds ss k u >>= closing)
closes ds ss k u =
    sym (regrouped (declarations_of ds no_locals u) (λ l. statements_of ss l.0.stmts k l.1 >>= begun_in l.0.objects) closing (λ l. statements_of ss l.0.stmts k l.1 >>= closed_in l.0.objects)
    (λ l. regrouped (statements_of ss l.0.stmts k l.1) (begun_in l.0.objects) closing (closed_in l.0.objects) (λ xs. refl)))

-- C90 6.6.2
pub block_is : (l : Pos) (ds : Vec Decl Global) (bs : Vec Stmt Global) (j : BodyTy) (s : ScopeTy) → statement_of (v.stmt_at l (k.Block ds bs)) j s ≡ (opened false s >>= (λ u. block_in (map v.decl_of ds.items) (v.stmts_from t.no_stmts bs.items) j u >>= closing))
block_is l ds bs j s = ap (λ (b : t.StmtTree). statement_of b j s) (block_view l ds bs) ∙ closes (map v.decl_of ds.items) (v.stmts_from t.no_stmts bs.items) j (record s { block = s.block + 1; variadic = variadic_in false (s.block + 1) s.variadic })

-- the body of a function (C90 6.7.1)
pub body_is : (l : Pos) (ds : Vec Decl Global) (bs : Vec Stmt Global) (j : BodyTy) (s : ScopeTy) → body_in (v.stmt_at l (k.Block ds bs)) j s ≡ block_in (map v.decl_of ds.items) (v.stmts_from t.no_stmts bs.items) j s
body_is l ds bs j s = ap (λ (b : t.StmtTree). body_in b j s) (block_view l ds bs)

pub block_given : (ds : List t.DeclTree) (bs : List Stmt) (k j : BodyTy) (s u w : ScopeTy) (l : LocalsTy) (all : List TStmt) (os : List ℕ) (b : n.Stmt) → declarations_of ds no_locals s ≡ Ok (l, u) → stmts_walk l.stmts k u bs ≡ Ok ((map stmt_of all, j), w) → os ≡ l.objects → b ≡ n.block os (stmts_of all) → block_in ds (v.stmts_from t.no_stmts bs) k s ≡ Ok ((b, j), w)
block_given ds bs k j s u w l all os b declared walked same made =
    let is : n.block l.objects (listed (map stmt_of all)) ≡ b = sym (made ∙ ap (λ (o : List ℕ). n.block o (stmts_of all)) same ∙ ap (n.block l.objects) (listed_is all)) in
    then_ok (declarations_of ds no_locals s) (l, u) (λ x. statements_of (v.stmts_from t.no_stmts bs) x.0.stmts k x.1 >>= begun_in x.0.objects) (Ok ((b, j), w)) declared
    (then_ok (stmts_walk l.stmts k u bs) ((map stmt_of all, j), w) (begun_in l.objects) (Ok ((b, j), w)) walked (ap (λ (y : n.Stmt). Ok ((y, j), w)) is))

pub block_stops : (e : Refusal) (ds : List t.DeclTree) (bs : List Stmt) (k : BodyTy) (s u : ScopeTy) (l : LocalsTy) → declarations_of ds no_locals s ≡ Ok (l, u) → Fails e (stmts_walk l.stmts k u bs) → Fails e (block_in ds (v.stmts_from t.no_stmts bs) k s)
block_stops e ds bs k s u l declared h =
    then_fails e (declarations_of ds no_locals s) (l, u) (λ x. statements_of (v.stmts_from t.no_stmts bs) x.0.stmts k x.1 >>= begun_in x.0.objects) declared (fails_bind e (stmts_walk l.stmts k u bs) (begun_in l.objects) h)
