-- The trees of the code, level by level, as the tests go through them.
use Rattle.std.proofs.Common.{◌≡◌, ℕ, zero, suc, ◌+◌, min, ◌<◌, ◌≤◌, List, [], ◌∷◌, length, drop, map, refl, sym, ap, ◌∙◌, arith, Some, None, Bool, true, false, nat_eq, not, ◌&&◌, Global, Box}
use Rattle.std.specs.Prelude.{Option, if◌then◌else◌}
use Rattle.std.specs.Global.{Vec}
use Rattle.std.proofs.lemmas.Bool.{eqb-true, eqb-false}
use Rattle.std.proofs.lemmas.List.{drop_all}
use Rattle.c65_ctype.specs.declared.types.QType.{QType}
use Rattle.c65_ctype.specs.declared.types.FnType.{FnType, out-FnType}
use Rattle.c65_ctype.specs.Compatible.{same_bool}
use Rattle.c65_ctype.specs.Trees.{Fn, fn, QTy, QTys, end, more, TypesTy}
use Rattle.c65_ctype.specs.Views.{qty_of, fn_of, qtys_of, params_in}
use Rattle.c65_ctype.proofs.ViewLaws.{fn_view}
use Rattle.c65_csem.specs.Trees.{Typed, node, Node, call, Nodes, none, some, UnitTy}
use Rattle.c65_csem.specs.declared.expr.TExpr.{TExpr}
use Rattle.c65_csem.specs.declared.expr.TKind.{TKind}
use Rattle.c65_csem.specs.declared.expr.TKind.TheVariants as x
use Rattle.c65_csem.specs.declared.stmt.TStmt.{TStmt}
use Rattle.c65_csem.specs.declared.stmt.TStmt.TheVariants as s
use Rattle.c65_csem.specs.Statements.{Context, labels_of, labels_in, cases_of, cases_in, defaults_of, defaults_in}
use Rattle.c65_csem.specs.Views.{typed_of, node_of, nodes_of, stmt_of, stmts_of}
use Rattle.c65_csem.proofs.RowLaws.{node_of_call, stmt_of_block}
use Rattle.c65_csem_check.specs.Kinds as kinds
use Rattle.c65_csem_check.specs.Expressions as exprs
use Rattle.c65_csem_check.specs.Statements as stmts
use Rattle.c65_csem_check.specs.Units as units

-- the parts before the parameters agree
pub same_by : (f g : FnType) (x y z : Bool) → x ≡ same_bool (out-FnType f).variadic (out-FnType g).variadic → y ≡ same_bool (out-FnType f).cdecl (out-FnType g).cdecl → z ≡ kinds.same (qty_of (out-FnType f).result) (qty_of (out-FnType g).result) → x ≡ true → y ≡ true → z ≡ true → kinds.same_fn (fn_of f) (fn_of g) ≡ kinds.same_params (params_in (out-FnType f).params) (params_in (out-FnType g).params)
same_by f g x y z p q r i j k =
    let F = out-FnType f in
    let G = out-FnType g in
    let rest = kinds.same_params (params_in F.params) (params_in G.params) in
    ap (λ (w : Fn). kinds.same_fn w (fn_of g)) (fn_view f)
    ∙ ap (λ (w : Fn). kinds.same_fn (fn (qty_of F.result) (params_in F.params) F.variadic F.cdecl) w) (fn_view g)
    ∙ ap (λ (t : Bool). t && same_bool F.cdecl G.cdecl && kinds.same (qty_of F.result) (qty_of G.result) && rest) (sym p ∙ i)
    ∙ ap (λ (t : Bool). t && kinds.same (qty_of F.result) (qty_of G.result) && rest) (sym q ∙ j)
    ∙ ap (λ (t : Bool). t && rest) (sym r ∙ k)

types_left : (ys : List QType) (i : ℕ) → i < length ys → (q : QTy) × (qs : QTys) × (qtys_of (drop i ys) ≡ more q qs)
types_left [] i below = absurd (omega arith)
types_left (y ∷ ys) zero below = (qty_of y, qtys_of ys, refl)
types_left (y ∷ ys) (suc i) below = types_left ys i (omega arith)

nodes_left : (ys : List TExpr) (i : ℕ) → i < length ys → (e : Typed) × (es : Nodes) × (nodes_of (drop i ys) ≡ some e es)
nodes_left [] i below = absurd (omega arith)
nodes_left (y ∷ ys) zero below = (typed_of y, nodes_of ys, refl)
nodes_left (y ∷ ys) (suc i) below = nodes_left ys i (omega arith)

numbers_left : (ys : List ℕ) (i : ℕ) → i < length ys → (n : ℕ) × (ns : List ℕ) × (drop i ys ≡ n ∷ ns)
numbers_left [] i below = absurd (omega arith)
numbers_left (y ∷ ys) zero below = (y, ys, refl)
numbers_left (y ∷ ys) (suc i) below = numbers_left ys i (omega arith)

-- a whole list was gone through: the other one has to be as long
pub same_end : (xs ys : List QType) (i : ℕ) → length xs ≤ i → i ≤ length xs → i ≤ length ys → nat_eq (length xs) (length ys) ≡ kinds.same_all (qtys_of (drop i xs)) (qtys_of (drop i ys))
same_end xs ys i past within inside =
    tested (nat_eq (length xs) (length ys)) refl ∙ ap (λ (zs : List QType). kinds.same_all (qtys_of zs) (qtys_of (drop i ys))) (sym (drop_all i xs past))
  where
    tested : (t : Bool) → nat_eq (length xs) (length ys) ≡ t → nat_eq (length xs) (length ys) ≡ kinds.same_all end (qtys_of (drop i ys))
    tested true e =
        let same = eqb-true (length xs) (length ys) e in
        e ∙ ap (λ (zs : List QType). kinds.same_all end (qtys_of zs)) (sym (drop_all i ys (omega arith)))
    tested false e =
        let other = eqb-false (length xs) (length ys) e in
        let below : i < length ys = omega arith in
        let left = types_left ys i below in
        e ∙ ap (kinds.same_all end) (sym left.2)

pub given_end : (types : TypesTy) (xs : List QType) (ys : List TExpr) (i : ℕ) → length xs ≤ i → i ≤ length xs → i ≤ length ys → nat_eq (length xs) (length ys) ≡ exprs.are_given types (qtys_of (drop i xs)) false (nodes_of (drop i ys))
given_end types xs ys i past within inside =
    tested (nat_eq (length xs) (length ys)) refl ∙ ap (λ (zs : List QType). exprs.are_given types (qtys_of zs) false (nodes_of (drop i ys))) (sym (drop_all i xs past))
  where
    tested : (t : Bool) → nat_eq (length xs) (length ys) ≡ t → nat_eq (length xs) (length ys) ≡ exprs.are_given types end false (nodes_of (drop i ys))
    tested true e =
        let same = eqb-true (length xs) (length ys) e in
        e ∙ ap (λ (zs : List TExpr). exprs.are_given types end false (nodes_of zs)) (sym (drop_all i ys (omega arith)))
    tested false e =
        let other = eqb-false (length xs) (length ys) e in
        let below : i < length ys = omega arith in
        let left = nodes_left ys i below in
        e ∙ ap (exprs.are_given types end false) (sym left.2)

pub match_end : (u : UnitTy) (xs : List QType) (ys : List ℕ) (i : ℕ) → length xs ≤ i → i ≤ length xs → i ≤ length ys → nat_eq (length xs) (length ys) ≡ units.params_match u (qtys_of (drop i xs)) (drop i ys)
match_end u xs ys i past within inside =
    tested (nat_eq (length xs) (length ys)) refl ∙ ap (λ (zs : List QType). units.params_match u (qtys_of zs) (drop i ys)) (sym (drop_all i xs past))
  where
    tested : (t : Bool) → nat_eq (length xs) (length ys) ≡ t → nat_eq (length xs) (length ys) ≡ units.params_match u end (drop i ys)
    tested true e =
        let same = eqb-true (length xs) (length ys) e in
        e ∙ ap (λ (zs : List ℕ). units.params_match u end zs) (sym (drop_all i ys (omega arith)))
    tested false e =
        let other = eqb-false (length xs) (length ys) e in
        let below : i < length ys = omega arith in
        let left = numbers_left ys i below in
        e ∙ ap (units.params_match u end) (sym left.2)

-- a prototype
pub fits_by : (types : TypesTy) (f : FnType) (params : Vec QType) (ys : List QType) (es : Nodes) → (out-FnType f).params ≡ Some params → ys ≡ params.items → exprs.are_given types (qtys_of ys) (out-FnType f).variadic es ≡ exprs.fits_fn types (fn_of f) es
fits_by types f params ys es is list =
    ap (λ (zs : List QType). exprs.are_given types (qtys_of zs) (out-FnType f).variadic es) list
    ∙ ap (λ (o : Option (Vec QType)). exprs.fits types (params_in o) (out-FnType f).variadic es) (sym is)
    ∙ ap (λ (w : Fn). exprs.fits_fn types w es) (sym (fn_view f))

pub matches_by : (u : UnitTy) (f : FnType) (types : Vec QType) (ys : List QType) (ns : List ℕ) → (out-FnType f).params ≡ Some types → ys ≡ types.items → units.params_match u (qtys_of ys) ns ≡ units.prototype_matches u (fn_of f) ns
matches_by u f types ys ns is list =
    ap (λ (zs : List QType). units.params_match u (qtys_of zs) ns) list
    ∙ ap (λ (o : Option (Vec QType)). units.prototype_matches u (fn (qty_of (out-FnType f).result) (params_in o) (out-FnType f).variadic (out-FnType f).cdecl) ns) (sym is)
    ∙ ap (λ (w : Fn). units.prototype_matches u w ns) (sym (fn_view f))

-- calls and blocks

pub all_same : {a b c x y z : Bool} → a ≡ x → b ≡ y → c ≡ z → (a && b && c) ≡ (x && y && z)
all_same {b = b} {c = c} {x = x} {y = y} p q r = ap (λ (t : Bool). t && b && c) p ∙ ap (λ (t : Bool). x && t && c) q ∙ ap (λ (t : Bool). x && y && t) r

pub call_parts : (u : UnitTy) (t : QTy) (k : TKind) (f : Box TExpr Global) (v : Vec TExpr) (g : TExpr) (ys : List TExpr) → k ≡ x.Call f v → g ≡ f.value → ys ≡ v.items → (exprs.is_typed u (typed_of g) && exprs.are_typed u (nodes_of ys) && exprs.is_call u.types t (typed_of g) (nodes_of ys)) ≡ exprs.is_whole_call u (node t (node_of k))
call_parts u t k f v g ys is one all =
    ap (λ (e : TExpr). exprs.is_typed u (typed_of e) && exprs.are_typed u (nodes_of ys) && exprs.is_call u.types t (typed_of e) (nodes_of ys)) one
    ∙ ap (λ (zs : List TExpr). exprs.is_typed u (typed_of f.value) && exprs.are_typed u (nodes_of zs) && exprs.is_call u.types t (typed_of f.value) (nodes_of zs)) all
    ∙ sym (ap (λ (j : TKind). exprs.is_whole_call u (node t (node_of j))) is ∙ ap (λ (n : Node). exprs.is_whole_call u (node t n)) (node_of_call f v))

pub call_node : (u : UnitTy) (t : QTy) (k : TKind) (f : Box TExpr Global) (v : Vec TExpr) (y : Bool) → k ≡ x.Call f v → y ≡ kinds.is_usual t → y ≡ true → exprs.is_whole_call u (node t (node_of k)) ≡ exprs.is_node u t (node_of k)
call_node u t k f v y is usual holds =
    let same = ap node_of is ∙ node_of_call f v in
    ap (λ (n : Node). exprs.is_whole_call u (node t n)) same
    ∙ ap (λ (w : Bool). w && exprs.is_whole_call u (node t (call (typed_of f.value) (nodes_of v.items)))) (sym (sym usual ∙ holds))
    ∙ sym (ap (exprs.is_node u t) same)

packed_node : (u : UnitTy) (t : QTy) (k : TKind) (a : Box TExpr Global) → k ≡ x.Pack a → (exprs.is_typed u (typed_of a.value) && exprs.is_pack u.types t (typed_of a.value)) ≡ exprs.is_packed u (node t (node_of k))
packed_node u t k a is = sym (ap (λ (j : TKind). exprs.is_packed u (node t (node_of j))) is)

pub packed_by : (u : UnitTy) (t : QTy) (k : TKind) (a : Box TExpr Global) (g h : TExpr) (y : Bool) → k ≡ x.Pack a → g ≡ a.value → h ≡ a.value → y ≡ exprs.is_typed u (typed_of g) → y ≡ true → exprs.is_pack u.types t (typed_of h) ≡ exprs.is_packed u (node t (node_of k))
packed_by u t k a g h y is one other typed holds =
    ap (λ (e : TExpr). exprs.is_pack u.types t (typed_of e)) other
    ∙ ap (λ (w : Bool). w && exprs.is_pack u.types t (typed_of a.value)) (sym (sym (typed ∙ ap (λ (e : TExpr). exprs.is_typed u (typed_of e)) one) ∙ holds))
    ∙ packed_node u t k a is

pub packed_never : (u : UnitTy) (t : QTy) (k : TKind) (a : Box TExpr Global) (g : TExpr) (y : Bool) → k ≡ x.Pack a → g ≡ a.value → y ≡ exprs.is_typed u (typed_of g) → y ≡ false → y ≡ exprs.is_packed u (node t (node_of k))
packed_never u t k a g y is one typed fails =
    fails
    ∙ ap (λ (w : Bool). w && exprs.is_pack u.types t (typed_of a.value)) (sym (sym (typed ∙ ap (λ (e : TExpr). exprs.is_typed u (typed_of e)) one) ∙ fails))
    ∙ packed_node u t k a is

pub block_labels : (k : TStmt) (os : Vec ℕ) (v : Vec TStmt) (ys : List TStmt) → k ≡ s.Block os v → ys ≡ v.items → labels_in (stmts_of ys) ≡ labels_of (stmt_of k)
block_labels k os v ys is list = ap (λ (zs : List TStmt). labels_in (stmts_of zs)) list ∙ sym (ap (λ (j : TStmt). labels_of (stmt_of j)) is ∙ ap labels_of (stmt_of_block os v))

pub block_cases : (k : TStmt) (os : Vec ℕ) (v : Vec TStmt) (ys : List TStmt) → k ≡ s.Block os v → ys ≡ v.items → cases_in (stmts_of ys) ≡ cases_of (stmt_of k)
block_cases k os v ys is list = ap (λ (zs : List TStmt). cases_in (stmts_of zs)) list ∙ sym (ap (λ (j : TStmt). cases_of (stmt_of j)) is ∙ ap cases_of (stmt_of_block os v))

pub block_defaults : (k : TStmt) (os : Vec ℕ) (v : Vec TStmt) (ys : List TStmt) → k ≡ s.Block os v → ys ≡ v.items → defaults_in (stmts_of ys) ≡ defaults_of (stmt_of k)
block_defaults k os v ys is list = ap (λ (zs : List TStmt). defaults_in (stmts_of zs)) list ∙ sym (ap (λ (j : TStmt). defaults_of (stmt_of j)) is ∙ ap defaults_of (stmt_of_block os v))

pub seen_end : (ys : List TStmt) (i seen : ℕ) → length ys ≤ i → seen ≤ 2 → seen ≡ min (seen + defaults_in (stmts_of (drop i ys))) 2
seen_end ys i seen past small = at_end (defaults_in (stmts_of (drop i ys))) (ap (λ (zs : List TStmt). defaults_in (stmts_of zs)) (drop_all i ys past))
  where
    at_end : (n : ℕ) → n ≡ 0 → seen ≡ min (seen + n) 2
    at_end n e = omega arith

pub block_stmt : (u : UnitTy) (c : Context) (k : TStmt) (os : Vec ℕ) (v : Vec TStmt) (ns : List ℕ) (ys : List TStmt) → k ≡ s.Block os v → ns ≡ os.items → ys ≡ v.items → (stmts.are_automatic u ns && stmts.are_stmts u c (stmts_of ys)) ≡ stmts.is_stmt u c (stmt_of k)
block_stmt u c k os v ns ys is numbers list =
    ap (λ (ms : List ℕ). stmts.are_automatic u ms && stmts.are_stmts u c (stmts_of ys)) numbers
    ∙ ap (λ (zs : List TStmt). stmts.are_automatic u os.items && stmts.are_stmts u c (stmts_of zs)) list
    ∙ sym (ap (λ (j : TStmt). stmts.is_stmt u c (stmt_of j)) is ∙ ap (stmts.is_stmt u c) (stmt_of_block os v))

pub both_same : {a b x y : Bool} → a ≡ x → b ≡ y → (a && b) ≡ (x && y)
both_same {b = b} {x = x} p q = ap (λ (t : Bool). t && b) p ∙ ap (λ (t : Bool). x && t) q
