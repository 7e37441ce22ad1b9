-- The trees of the code, level by level.
use Rattle.std.proofs.Common.{◌≡◌, ℕ, ◌+◌, List, [], ◌∷◌, Vec, Global, Box, refl, sym, ap, ◌∙◌, arith}
use Rattle.std.specs.Prelude.{max, map, Option, Some}
use mathlib.Core.Former.{Count}
use denote.Hole.Carrier
use Rattle.c65_base.specs.declared.refusal.Pos.{Pos}
use Rattle.c65_base.specs.declared.names.Name.{Name}
use Rattle.c65_tree.specs.declared.expr.Expr.{Expr}
use Rattle.c65_tree.specs.declared.expr.Specifier.{Specifier}
use Rattle.c65_tree.specs.declared.expr.Specifiers.{Specifiers, Specifiers', out-Specifiers}
use Rattle.c65_tree.specs.declared.expr.Param.{Param, Param', out-Param}
use Rattle.c65_tree.specs.declared.expr.Enumerator.{Enumerator, Enumerator', out-Enumerator}
use Rattle.c65_tree.specs.declared.expr.MemberDeclarator.{MemberDeclarator, MemberDeclarator', out-MemberDeclarator}
use Rattle.c65_tree.specs.declared.expr.MemberDecl.{MemberDecl, MemberDecl', out-MemberDecl}
use Rattle.c65_tree.specs.declared.expr.Params.{Params}
use Rattle.c65_tree.specs.declared.expr.ExprKind.{ExprKind}
use Rattle.c65_tree.specs.declared.expr.ExprKind.TheVariants as x
use Rattle.c65_tree.specs.declared.expr.SpecifierKind.{SpecifierKind}
use Rattle.c65_tree.specs.declared.expr.SpecifierKind.TheVariants as s
use Rattle.c65_tree.specs.declared.expr.Params.TheVariants as p
use Rattle.c65_tree.specs.declared.expr.DeclaratorKind.TheBlock as b
use Rattle.c65_tree.specs.declared.stmt.Initialiser.{Initialiser}
use Rattle.c65_tree.specs.declared.stmt.InitKind.{InitKind, Row_of-Initialiser, end_of-Initialiser, more_of-Initialiser, items-the_row-Initialiser, items_hidden-the_row-Initialiser-0}
use Rattle.c65_tree.specs.declared.stmt.InitKind.TheVariants as i
use Rattle.c65_tree.specs.declared.stmt.Decl.{Decl}
use Rattle.c65_tree.specs.declared.stmt.Stmt.{Stmt}
use Rattle.c65_tree.specs.declared.stmt.StmtKind.{StmtKind, Row_of-Stmt, end_of-Stmt, more_of-Stmt, items-the_row-Stmt, items_hidden-the_row-Stmt-0}
use Rattle.c65_tree.specs.declared.stmt.StmtKind.TheVariants as t
use Rattle.c65_tree.specs.Trees
use Rattle.c65_tree.specs.Lists.{deepest, total, of_option}
use Rattle.c65_tree.specs.Depth as depth
use Rattle.c65_tree.specs.Nodes as nodes
use Rattle.c65_tree.specs.Parts as part
use Rattle.c65_tree.specs.View as v

exprs_row : (n : Count) (xs : Trees.ExprList) (row : b.Row_of-Expr n) → v.exprs_in xs row ≡ v.exprs_from xs (b.items-the_row-Expr n row)
exprs_row n xs b.end_of-Expr = refl
exprs_row n xs (b.more_of-Expr l e rest) = exprs_row _ (Trees.and_expr xs (v.expr_at l e)) rest

pub specifiers_row : (n : Count) (xs : Trees.SpecifierList) (row : b.Row_of-Specifier n) → v.specifiers_in xs row ≡ v.specifiers_from xs (b.items-the_row-Specifier n row)
specifiers_row n xs b.end_of-Specifier = refl
specifiers_row n xs (b.more_of-Specifier l k rest) = specifiers_row _ (Trees.and_specifier xs (v.specifier_at l k)) rest

params_row : (n : Count) (xs : Trees.ParamList) (row : b.Row_of-Param n) → v.params_in xs row ≡ v.params_from xs (b.items-the_row-Param n row)
params_row n xs b.end_of-Param = refl
params_row n xs (b.more_of-Param (Param' q l k) rest) = params_row _ (v.with_param xs (Param' q l k)) rest

enumerators_row : (n : Count) (xs : Trees.EnumeratorList) (row : b.Row_of-Enumerator n) → v.enumerators_in xs row ≡ v.enumerators_from xs (b.items-the_row-Enumerator n row)
enumerators_row n xs b.end_of-Enumerator = refl
enumerators_row n xs (b.more_of-Enumerator (Enumerator' l m w) rest) = enumerators_row _ (v.with_enumerator xs (Enumerator' l m w)) rest

pub members_row : (n : Count) (xs : Trees.MemberList) (row : b.Row_of-MemberDeclarator n) → v.members_in xs row ≡ v.members_from xs (b.items-the_row-MemberDeclarator n row)
members_row n xs b.end_of-MemberDeclarator = refl
members_row n xs (b.more_of-MemberDeclarator (MemberDeclarator' l k w) rest) = members_row _ (v.with_member xs (MemberDeclarator' l k w)) rest

member_decls_row : (n : Count) (xs : Trees.MemberDeclList) (row : b.Row_of-MemberDecl n) → v.member_decls_in xs row ≡ v.member_decls_from xs (b.items-the_row-MemberDecl n row)
member_decls_row n xs b.end_of-MemberDecl = refl
member_decls_row n xs (b.more_of-MemberDecl (MemberDecl' q shape ms) rest) = member_decls_row _ (v.with_member_decl xs (MemberDecl' q shape ms)) rest

abbrev expr_row : ExprKind → (n : Count) × b.Row_of-Expr n
expr_row (x.Call' b l f shape row) = (_, row)
expr_row _ = (_, b.end_of-Expr)

pub call_view : (l : Pos) (f : Box Expr Global) (es : Vec Expr Global) → v.expr_at l (x.Call f es) ≡ Trees.call l (v.expr_of f.value) (v.exprs_from Trees.no_exprs es.items)
call_view l f es =
    let row = expr_row (x.Call f es) in
    let same = b.items_hidden-the_row-Expr-0 es in
    ap (Trees.call l (v.expr_of f.value)) (exprs_row row.0 Trees.no_exprs row.1 ∙ ap (v.exprs_from Trees.no_exprs) same)

abbrev param_row : Params → (n : Count) × b.Row_of-Param n
param_row (p.Types' shape row more) = (_, row)
param_row _ = (_, b.end_of-Param)

pub types_view : (ps : Vec Param Global) (more : _) → v.params_of (p.Types ps more) ≡ Trees.param_types (v.params_from Trees.no_more_params ps.items) more
types_view ps more =
    let row = param_row (p.Types ps more) in
    let same = b.items_hidden-the_row-Param-1 ps in
    ap (λ (qs : Trees.ParamList). Trees.param_types qs more) (params_row row.0 Trees.no_more_params row.1 ∙ ap (v.params_from Trees.no_more_params) same)

abbrev member_decl_row : SpecifierKind → (n : Count) × b.Row_of-MemberDecl n
member_decl_row (s.Tagged' union tag (b.SpecifierKind-Tagged-2-Some' shape row)) = (_, row)
member_decl_row _ = (_, b.end_of-MemberDecl)

pub tagged_view : (l : Pos) (union : _) (tag : Option Name) (ms : Vec MemberDecl Global) → v.specifier_at l (s.Tagged union tag (Some ms)) ≡ Trees.tagged l union tag (Trees.the_members (v.member_decls_from Trees.no_member_decls ms.items))
tagged_view l union tag ms =
    let row = member_decl_row (s.Tagged union tag (Some ms)) in
    let same = b.items_hidden-the_row-MemberDecl-2 ms in
    ap (λ (ds : Trees.MemberDeclList). Trees.tagged l union tag (Trees.the_members ds)) (member_decls_row row.0 Trees.no_member_decls row.1 ∙ ap (v.member_decls_from Trees.no_member_decls) same)

abbrev enumerator_row : SpecifierKind → (n : Count) × b.Row_of-Enumerator n
enumerator_row (s.Enum' tag (b.SpecifierKind-Enum-1-Some' shape row)) = (_, row)
enumerator_row _ = (_, b.end_of-Enumerator)

pub enum_view : (l : Pos) (tag : Option Name) (es : Vec Enumerator Global) → v.specifier_at l (s.Enum tag (Some es)) ≡ Trees.enum l tag (Trees.the_enumerators (v.enumerators_from Trees.no_more_enumerators es.items))
enum_view l tag es =
    let row = enumerator_row (s.Enum tag (Some es)) in
    let same = b.items_hidden-the_row-Enumerator-3 es in
    ap (λ (ds : Trees.EnumeratorList). Trees.enum l tag (Trees.the_enumerators ds)) (enumerators_row row.0 Trees.no_more_enumerators row.1 ∙ ap (v.enumerators_from Trees.no_more_enumerators) same)

pub specifiers_view : (q : Specifiers) → v.specifiers_of q ≡ Trees.specifiers (out-Specifiers q).pos (v.specifiers_from Trees.no_specifiers (out-Specifiers q).items.items)
unfolding out-Specifiers Carrier.out
specifiers_view (Specifiers' l shape row) = ap (Trees.specifiers l) (specifiers_row _ Trees.no_specifiers row ∙ ap (v.specifiers_from Trees.no_specifiers) (sym (b.items_shown-the_row-Specifier-5 shape row)))

pub member_decl_view : (xs : Trees.MemberDeclList) (d : MemberDecl) → v.with_member_decl xs d ≡ Trees.and_member_decl xs (v.specifiers_of (out-MemberDecl d).specifiers) (v.members_from Trees.no_more_members (out-MemberDecl d).declarators.items)
unfolding out-MemberDecl Carrier.out
member_decl_view xs (MemberDecl' q shape row) = ap (Trees.and_member_decl xs (v.specifiers_of q)) (members_row _ Trees.no_more_members row ∙ ap (v.members_from Trees.no_more_members) (sym (b.items_shown-the_row-MemberDeclarator-4 shape row)))

pub param_view : (xs : Trees.ParamList) (q : Param) → v.with_param xs q ≡ Trees.and_param xs (v.specifiers_of (out-Param q).specifiers) (v.declarator_of (out-Param q).declarator)
unfolding out-Param Carrier.out
param_view xs (Param' q l k) = refl

pub exprs_deep : (xs : Trees.ExprList) (es : List Expr) → depth.exprs_depth (v.exprs_from xs es) ≡ max (depth.exprs_depth xs) (deepest (λ e. depth.expr_depth (v.expr_of e)) es)
exprs_deep xs [] = omega arith
exprs_deep xs (e ∷ es) = omega (arith, exprs_deep (Trees.and_expr xs (v.expr_of e)) es)

pub exprs_many : (xs : Trees.ExprList) (es : List Expr) → nodes.exprs_nodes (v.exprs_from xs es) ≡ nodes.exprs_nodes xs + total (λ e. nodes.expr_nodes (v.expr_of e)) es
exprs_many xs [] = omega arith
exprs_many xs (e ∷ es) = omega (arith, exprs_many (Trees.and_expr xs (v.expr_of e)) es)

pub specifiers_deep : (xs : Trees.SpecifierList) (es : List Specifier) → depth.specifier_list_depth (v.specifiers_from xs es) ≡ max (depth.specifier_list_depth xs) (deepest (λ q. depth.specifier_depth (v.specifier_of q)) es)
specifiers_deep xs [] = omega arith
specifiers_deep xs (q ∷ es) = omega (arith, specifiers_deep (Trees.and_specifier xs (v.specifier_of q)) es)

pub specifiers_many : (xs : Trees.SpecifierList) (es : List Specifier) → nodes.specifier_list_nodes (v.specifiers_from xs es) ≡ nodes.specifier_list_nodes xs + total (λ q. nodes.specifier_nodes (v.specifier_of q)) es
specifiers_many xs [] = omega arith
specifiers_many xs (q ∷ es) = omega (arith, specifiers_many (Trees.and_specifier xs (v.specifier_of q)) es)

pub params_deep : (xs : Trees.ParamList) (es : List Param) → depth.param_list_depth (v.params_from xs es) ≡ max (depth.param_list_depth xs) (deepest part.param_depth es)
params_deep xs [] = omega arith
params_deep xs (Param' q l k ∷ es) = omega (arith, params_deep (v.with_param xs (Param' q l k)) es)

pub params_many : (xs : Trees.ParamList) (es : List Param) → nodes.param_list_nodes (v.params_from xs es) ≡ nodes.param_list_nodes xs + total part.param_nodes es
params_many xs [] = omega arith
params_many xs (Param' q l k ∷ es) = omega (arith, params_many (v.with_param xs (Param' q l k)) es)

pub enumerators_deep : (xs : Trees.EnumeratorList) (es : List Enumerator) → depth.enumerator_list_depth (v.enumerators_from xs es) ≡ max (depth.enumerator_list_depth xs) (deepest part.one_enumerator_depth es)
enumerators_deep xs [] = omega arith
enumerators_deep xs (Enumerator' l n w ∷ es) = omega (arith, enumerators_deep (v.with_enumerator xs (Enumerator' l n w)) es)

pub enumerators_many : (xs : Trees.EnumeratorList) (es : List Enumerator) → nodes.enumerator_list_nodes (v.enumerators_from xs es) ≡ nodes.enumerator_list_nodes xs + total part.one_enumerator_nodes es
enumerators_many xs [] = omega arith
enumerators_many xs (Enumerator' l n w ∷ es) = omega (arith, enumerators_many (v.with_enumerator xs (Enumerator' l n w)) es)

pub members_deep : (xs : Trees.MemberList) (es : List MemberDeclarator) → depth.member_list_depth (v.members_from xs es) ≡ max (depth.member_list_depth xs) (deepest part.one_member_depth es)
members_deep xs [] = omega arith
members_deep xs (MemberDeclarator' l k w ∷ es) = omega (arith, members_deep (v.with_member xs (MemberDeclarator' l k w)) es)

pub members_many : (xs : Trees.MemberList) (es : List MemberDeclarator) → nodes.member_list_nodes (v.members_from xs es) ≡ nodes.member_list_nodes xs + total part.one_member_nodes es
members_many xs [] = omega arith
members_many xs (MemberDeclarator' l k w ∷ es) = omega (arith, members_many (v.with_member xs (MemberDeclarator' l k w)) es)

pub member_decls_deep : (xs : Trees.MemberDeclList) (es : List MemberDecl) → depth.member_decls_depth (v.member_decls_from xs es) ≡ max (depth.member_decls_depth xs) (deepest part.member_decl_depth es)
member_decls_deep xs [] = omega arith
member_decls_deep xs (MemberDecl' q shape row ∷ es) = omega (arith, member_decls_deep (v.with_member_decl xs (MemberDecl' q shape row)) es)

pub member_decls_many : (xs : Trees.MemberDeclList) (es : List MemberDecl) → nodes.member_decls_nodes (v.member_decls_from xs es) ≡ nodes.member_decls_nodes xs + total part.member_decl_nodes es
member_decls_many xs [] = omega arith
member_decls_many xs (MemberDecl' q shape row ∷ es) = omega (arith, member_decls_many (v.with_member_decl xs (MemberDecl' q shape row)) es)

-- the depth and the nodes of what holds a Vec or a part that may lack
pub call_depth : (l : Pos) (f : Box Expr Global) (es : Vec Expr Global) → depth.expr_depth (v.expr_at l (x.Call f es)) ≡ max (depth.expr_depth (v.expr_of f.value)) (deepest (λ e. depth.expr_depth (v.expr_of e)) es.items) + 1
call_depth l f es = omega (arith, ap depth.expr_depth (call_view l f es), exprs_deep Trees.no_exprs es.items)

pub call_nodes : (l : Pos) (f : Box Expr Global) (es : Vec Expr Global) → nodes.expr_nodes (v.expr_at l (x.Call f es)) ≡ nodes.expr_nodes (v.expr_of f.value) + total (λ e. nodes.expr_nodes (v.expr_of e)) es.items + 1
call_nodes l f es = omega (arith, ap nodes.expr_nodes (call_view l f es), exprs_many Trees.no_exprs es.items)

pub types_depth : (ps : Vec Param Global) (more : _) → depth.params_depth (v.params_of (p.Types ps more)) ≡ deepest part.param_depth ps.items
types_depth ps more = omega (arith, ap depth.params_depth (types_view ps more), params_deep Trees.no_more_params ps.items)

pub types_nodes : (ps : Vec Param Global) (more : _) → nodes.params_nodes (v.params_of (p.Types ps more)) ≡ total part.param_nodes ps.items
types_nodes ps more = omega (arith, ap nodes.params_nodes (types_view ps more), params_many Trees.no_more_params ps.items)

pub tagged_depth : (l : Pos) (union : _) (tag : Option Name) (ms : Vec MemberDecl Global) → depth.specifier_depth (v.specifier_at l (s.Tagged union tag (Some ms))) ≡ deepest part.member_decl_depth ms.items + 1
tagged_depth l union tag ms = omega (arith, ap depth.specifier_depth (tagged_view l union tag ms), member_decls_deep Trees.no_member_decls ms.items)

pub tagged_nodes : (l : Pos) (union : _) (tag : Option Name) (ms : Vec MemberDecl Global) → nodes.specifier_nodes (v.specifier_at l (s.Tagged union tag (Some ms))) ≡ total part.member_decl_nodes ms.items
tagged_nodes l union tag ms = omega (arith, ap nodes.specifier_nodes (tagged_view l union tag ms), member_decls_many Trees.no_member_decls ms.items)

pub enum_depth : (l : Pos) (tag : Option Name) (es : Vec Enumerator Global) → depth.specifier_depth (v.specifier_at l (s.Enum tag (Some es))) ≡ deepest part.one_enumerator_depth es.items + 1
enum_depth l tag es = omega (arith, ap depth.specifier_depth (enum_view l tag es), enumerators_deep Trees.no_more_enumerators es.items)

pub enum_nodes : (l : Pos) (tag : Option Name) (es : Vec Enumerator Global) → nodes.specifier_nodes (v.specifier_at l (s.Enum tag (Some es))) ≡ total part.one_enumerator_nodes es.items
enum_nodes l tag es = omega (arith, ap nodes.specifier_nodes (enum_view l tag es), enumerators_many Trees.no_more_enumerators es.items)

pub specifiers_depth : (q : Specifiers) → depth.specifiers_depth (v.specifiers_of q) ≡ deepest (λ k. depth.specifier_depth (v.specifier_of k)) (out-Specifiers q).items.items
specifiers_depth q = omega (arith, ap depth.specifiers_depth (specifiers_view q), specifiers_deep Trees.no_specifiers (out-Specifiers q).items.items)

pub specifiers_nodes : (q : Specifiers) → nodes.specifiers_nodes (v.specifiers_of q) ≡ total (λ k. nodes.specifier_nodes (v.specifier_of k)) (out-Specifiers q).items.items
specifiers_nodes q = omega (arith, ap nodes.specifiers_nodes (specifiers_view q), specifiers_many Trees.no_specifiers (out-Specifiers q).items.items)

pub member_decl_depth : (d : MemberDecl) → part.member_decl_depth d ≡ max (depth.specifiers_depth (v.specifiers_of (out-MemberDecl d).specifiers)) (deepest part.one_member_depth (out-MemberDecl d).declarators.items)
member_decl_depth d = omega (arith, ap depth.member_decls_depth (member_decl_view Trees.no_member_decls d), members_deep Trees.no_more_members (out-MemberDecl d).declarators.items)

pub member_decl_nodes : (d : MemberDecl) → part.member_decl_nodes d ≡ nodes.specifiers_nodes (v.specifiers_of (out-MemberDecl d).specifiers) + total part.one_member_nodes (out-MemberDecl d).declarators.items
member_decl_nodes d = omega (arith, ap nodes.member_decls_nodes (member_decl_view Trees.no_member_decls d), members_many Trees.no_more_members (out-MemberDecl d).declarators.items)

pub param_depth : (q : Param) → part.param_depth q ≡ max (depth.specifiers_depth (v.specifiers_of (out-Param q).specifiers)) (depth.declarator_depth (v.declarator_of (out-Param q).declarator))
param_depth q = omega (arith, ap depth.param_list_depth (param_view Trees.no_more_params q))

pub param_nodes : (q : Param) → part.param_nodes q ≡ nodes.specifiers_nodes (v.specifiers_of (out-Param q).specifiers) + nodes.declarator_nodes (v.declarator_of (out-Param q).declarator)
param_nodes q = omega (arith, ap nodes.param_list_nodes (param_view Trees.no_more_params q))

pub enumerator_depth : (e : Enumerator) → part.one_enumerator_depth e ≡ of_option (λ e. depth.expr_depth (v.expr_of e)) (out-Enumerator e).value
unfolding out-Enumerator Carrier.out
enumerator_depth (Enumerator' l n b.Enumerator-value-None') = omega arith
enumerator_depth (Enumerator' l n (b.Enumerator-value-Some' k w)) = omega arith

pub enumerator_nodes : (e : Enumerator) → part.one_enumerator_nodes e ≡ of_option (λ e. nodes.expr_nodes (v.expr_of e)) (out-Enumerator e).value
unfolding out-Enumerator Carrier.out
enumerator_nodes (Enumerator' l n b.Enumerator-value-None') = omega arith
enumerator_nodes (Enumerator' l n (b.Enumerator-value-Some' k w)) = omega arith

pub member_depth : (m : MemberDeclarator) → part.one_member_depth m ≡ max (of_option (λ d. depth.declarator_depth (v.declarator_of d)) (out-MemberDeclarator m).declarator) (of_option (λ e. depth.expr_depth (v.expr_of e)) (out-MemberDeclarator m).width)
unfolding out-MemberDeclarator Carrier.out
member_depth (MemberDeclarator' l b.MemberDeclarator-declarator-None' b.Enumerator-value-None') = omega arith
member_depth (MemberDeclarator' l b.MemberDeclarator-declarator-None' (b.Enumerator-value-Some' k w)) = omega arith
member_depth (MemberDeclarator' l (b.MemberDeclarator-declarator-Some' j d) b.Enumerator-value-None') = omega arith
member_depth (MemberDeclarator' l (b.MemberDeclarator-declarator-Some' j d) (b.Enumerator-value-Some' k w)) = omega arith

pub member_nodes : (m : MemberDeclarator) → part.one_member_nodes m ≡ of_option (λ d. nodes.declarator_nodes (v.declarator_of d)) (out-MemberDeclarator m).declarator + of_option (λ e. nodes.expr_nodes (v.expr_of e)) (out-MemberDeclarator m).width
unfolding out-MemberDeclarator Carrier.out
member_nodes (MemberDeclarator' l b.MemberDeclarator-declarator-None' b.Enumerator-value-None') = omega arith
member_nodes (MemberDeclarator' l b.MemberDeclarator-declarator-None' (b.Enumerator-value-Some' k w)) = omega arith
member_nodes (MemberDeclarator' l (b.MemberDeclarator-declarator-Some' j d) b.Enumerator-value-None') = omega arith
member_nodes (MemberDeclarator' l (b.MemberDeclarator-declarator-Some' j d) (b.Enumerator-value-Some' k w)) = omega arith

abbrev init_row : InitKind → (n : Count) × Row_of-Initialiser n
init_row (i.List' shape row) = (_, row)
init_row _ = (_, end_of-Initialiser)

inits_row : (n : Count) (xs : Trees.InitList) (row : Row_of-Initialiser n) → v.inits_in xs row ≡ v.inits_from xs (items-the_row-Initialiser n row)
inits_row n xs end_of-Initialiser = refl
inits_row n xs (more_of-Initialiser l k rest) = inits_row _ (Trees.and_init xs (v.init_at l k)) rest

pub list_view : (l : Pos) (is : Vec Initialiser Global) → v.init_at l (i.List is) ≡ Trees.list l (v.inits_from Trees.no_inits is.items)
list_view l is =
    let row = init_row (i.List is) in
    let same = items_hidden-the_row-Initialiser-0 is in
    ap (Trees.list l) (inits_row row.0 Trees.no_inits row.1 ∙ ap (v.inits_from Trees.no_inits) same)

abbrev stmt_row : StmtKind → (n : Count) × Row_of-Stmt n
stmt_row (t.Block' ds shape row) = (_, row)
stmt_row _ = (_, end_of-Stmt)

stmts_row : (n : Count) (xs : Trees.StmtList) (row : Row_of-Stmt n) → v.stmts_in xs row ≡ v.stmts_from xs (items-the_row-Stmt n row)
stmts_row n xs end_of-Stmt = refl
stmts_row n xs (more_of-Stmt l k rest) = stmts_row _ (Trees.and_stmt xs (v.stmt_at l k)) rest

pub block_view : (l : Pos) (ds : Vec Decl Global) (ss : Vec Stmt Global) → v.stmt_at l (t.Block ds ss) ≡ Trees.block l (map v.decl_of ds.items) (v.stmts_from Trees.no_stmts ss.items)
block_view l ds ss =
    let row = stmt_row (t.Block ds ss) in
    let same = items_hidden-the_row-Stmt-0 ss in
    ap (Trees.block l (map v.decl_of ds.items)) (stmts_row row.0 Trees.no_stmts row.1 ∙ ap (v.stmts_from Trees.no_stmts) same)

inits_many : (xs : Trees.InitList) (es : List Initialiser) → nodes.inits_nodes (v.inits_from xs es) ≡ nodes.inits_nodes xs + total (λ e. nodes.init_nodes (v.init_of e)) es
inits_many xs [] = omega arith
inits_many xs (e ∷ es) = omega (arith, inits_many (Trees.and_init xs (v.init_of e)) es)

stmts_many : (xs : Trees.StmtList) (es : List Stmt) → nodes.stmts_nodes (v.stmts_from xs es) ≡ nodes.stmts_nodes xs + total (λ e. nodes.stmt_nodes (v.stmt_of e)) es
stmts_many xs [] = omega arith
stmts_many xs (e ∷ es) = omega (arith, stmts_many (Trees.and_stmt xs (v.stmt_of e)) es)

pub total_map : {A B : Type 0} (f : B → ℕ) (g : A → B) (xs : List A) → total f (map g xs) ≡ total (λ x. f (g x)) xs
total_map f g [] = refl
total_map f g (x ∷ xs) = omega (arith, total_map f g xs)

pub list_nodes : (l : Pos) (is : Vec Initialiser Global) → nodes.init_nodes (v.init_at l (i.List is)) ≡ total (λ e. nodes.init_nodes (v.init_of e)) is.items
list_nodes l is = omega (arith, ap nodes.init_nodes (list_view l is), inits_many Trees.no_inits is.items)

pub block_nodes : (l : Pos) (ds : Vec Decl Global) (ss : Vec Stmt Global) → nodes.stmt_nodes (v.stmt_at l (t.Block ds ss)) ≡ total (λ d. nodes.decl_nodes (v.decl_of d)) ds.items + total (λ e. nodes.stmt_nodes (v.stmt_of e)) ss.items + 1
block_nodes l ds ss = omega (arith, ap nodes.stmt_nodes (block_view l ds ss), total_map nodes.decl_nodes v.decl_of ds.items, stmts_many Trees.no_stmts ss.items)
