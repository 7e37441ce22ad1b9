-- The places where arguments begin, and a call behind its arguments.
use Rattle.std.proofs.Common.{◌≡◌, ◌∙◌, ℕ, ◌+◌, ◌<◌, ◌≤◌, List, [], ◌∷◌, ◌++◌, length, take, get_or, sym, ap, Vec, Box, Global, subst, Ok}
use Rattle.std.specs.Prelude.{Result}
use Rattle.std.proofs.lemmas.List.{take_more, take_all}
use Rattle.c65_base.specs.declared.refusal.Pos.{Pos}
use Rattle.c65_base.specs.declared.refusal.Refusal.{Refusal}
use Rattle.c65_base.specs.Answers.{Fails, Gives, ◌>>=◌}
use Rattle.c65_csem.specs.Trees.{Typed, Nodes}
use Rattle.c65_elab_convert.specs.Calls.{call_of}
use Rattle.c65_elab_scope.specs.Scopes.{ScopeTy}
use Rattle.c65_tree.specs.declared.expr.Expr.{Expr}
use Rattle.c65_tree.specs.declared.expr.ExprKind.TheVariants as x
use Rattle.c65_tree.specs.Trees as t
use Rattle.c65_tree.specs.View as v
use Rattle.c65_tree.proofs.Growing.{exprs_push}
use Rattle.c65_elab.specs.Naming.{called_first}
use Rattle.c65_elab.specs.Operators.{spilled}
use Rattle.c65_elab.specs.Places.{first_of, firsts_of}
use Rattle.c65_elab.specs.Typing.{typed}
use Rattle.c65_elab.proofs.Knots.{call_is}
use Rattle.c65_elab.proofs.Listing.{args_walk}
use Rattle.c65_elab.proofs.Walks.{fails_bind, then_fails, gives_then}

abbrev pub firsts_walk : List Expr → List Pos
firsts_walk es = firsts_of (v.exprs_from t.no_exprs es)

pub firsts_next : (es : List Expr) (i : ℕ) (e : Expr) (done more : List Pos) (place : Pos) → i < length es → e ≡ get_or es i e → firsts_walk (take i es) ≡ done → place ≡ first_of (v.expr_of e) → more ≡ done ++ place ∷ [] → firsts_walk (take (i + 1) es) ≡ more
firsts_next es i e done more place below is so_far here pushed =
    ap firsts_walk (take_more es i e below ∙ ap (λ y. take i es ++ y ∷ []) (sym is))
    ∙ ap firsts_of (exprs_push t.no_exprs (take i es) e)
    ∙ ap (λ xs. xs ++ first_of (v.expr_of e) ∷ []) so_far
    ∙ ap (λ p. done ++ p ∷ []) (sym here)
    ∙ sym pushed

pub firsts_whole : (es : List Expr) (i : ℕ) (done : List Pos) → length es ≤ i → firsts_walk (take i es) ≡ done → done ≡ firsts_walk es
firsts_whole es i done past so_far = sym so_far ∙ ap firsts_walk (take_all i es past)

-- a call whose parts are typed
pub call_stops : (l : Pos) (f : Box Expr Global) (es : Vec Expr Global) (s u w z : ScopeTy) (e : Typed) (ns : Nodes) (places : List Pos) (r : Refusal) → called_first (v.expr_of f.value) s ≡ Ok u → typed (v.expr_of f.value) u ≡ Ok (e, w) → args_walk w es.items ≡ Ok (ns, z) → places ≡ firsts_walk es.items → Fails r (call_of z.unit.types l places e ns) → Fails r (typed (v.expr_at l (x.Call f es)) s)
call_stops l f es s u w z e ns places r first is all begin h =
    let here : Fails r (call_of z.unit.types l (firsts_walk es.items) e ns) = subst (λ (ps : List Pos). Fails r (call_of z.unit.types l ps e ns)) begin h in
    subst (Fails r) (sym (call_is l f es s))
    (then_fails r (called_first (v.expr_of f.value) s) u (λ u. typed (v.expr_of f.value) u >>= (λ e. args_walk e.1 es.items >>= (λ zs. call_of zs.1.unit.types l (firsts_walk es.items) e.0 zs.0 >>= (λ y. spilled zs.1 y)))) first
    (then_fails r (typed (v.expr_of f.value) u) (e, w) (λ e. args_walk e.1 es.items >>= (λ zs. call_of zs.1.unit.types l (firsts_walk es.items) e.0 zs.0 >>= (λ y. spilled zs.1 y))) is
    (then_fails r (args_walk w es.items) (ns, z) (λ zs. call_of zs.1.unit.types l (firsts_walk es.items) e zs.0 >>= (λ y. spilled zs.1 y)) all
    (fails_bind r (call_of z.unit.types l (firsts_walk es.items) e ns) (λ y. spilled z y) here))))

pub call_gives : {X : Type 0} (view : X → Typed × ScopeTy) (l : Pos) (f : Box Expr Global) (es : Vec Expr Global) (s u w z : ScopeTy) (e y : Typed) (ns : Nodes) (places : List Pos) (result : Result X Refusal) → called_first (v.expr_of f.value) s ≡ Ok u → typed (v.expr_of f.value) u ≡ Ok (e, w) → args_walk w es.items ≡ Ok (ns, z) → places ≡ firsts_walk es.items → call_of z.unit.types l places e ns ≡ Ok y → Gives view result (spilled z y) → Gives view result (typed (v.expr_at l (x.Call f es)) s)
call_gives view l f es s u w z e y ns places result first is all begin made h =
    let here : call_of z.unit.types l (firsts_walk es.items) e ns ≡ Ok y = subst (λ (ps : List Pos). call_of z.unit.types l ps e ns ≡ Ok y) begin made in
    subst (Gives view result) (sym (call_is l f es s))
    (gives_then view result (called_first (v.expr_of f.value) s) u (λ u. typed (v.expr_of f.value) u >>= (λ e. args_walk e.1 es.items >>= (λ zs. call_of zs.1.unit.types l (firsts_walk es.items) e.0 zs.0 >>= (λ y. spilled zs.1 y)))) first
    (gives_then view result (typed (v.expr_of f.value) u) (e, w) (λ e. args_walk e.1 es.items >>= (λ zs. call_of zs.1.unit.types l (firsts_walk es.items) e.0 zs.0 >>= (λ y. spilled zs.1 y))) is
    (gives_then view result (args_walk w es.items) (ns, z) (λ zs. call_of zs.1.unit.types l (firsts_walk es.items) e zs.0 >>= (λ y. spilled zs.1 y)) all
    (gives_then view result (call_of z.unit.types l (firsts_walk es.items) e ns) y (λ y. spilled z y) here h))))
