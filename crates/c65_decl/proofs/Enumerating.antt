-- The enumerators in trees, by the lists of the code.
use Rattle.std.proofs.Common.{◌≡◌, ℕ, ◌+◌, ◌<◌, List, [], ◌∷◌, ◌++◌, length, drop, get_or, add-one, Bool, Vec, Box, Global, refl, sym, ap, ◌∙◌}
use Rattle.std.specs.Prelude.{Option, Some}
use Rattle.std.proofs.Math.Seq.{drop-cons}
use denote.Hole.Carrier
use Rattle.c65_base.specs.declared.names.Name.{Name}
use Rattle.c65_base.specs.declared.refusal.Pos.{Pos}
use Rattle.c65_tree.specs.declared.expr.Expr.{Expr}
use Rattle.c65_tree.specs.declared.expr.Specifier.{Specifier}
use Rattle.c65_tree.specs.declared.expr.Specifiers.{Specifiers, out-Specifiers}
use Rattle.c65_tree.specs.declared.expr.MemberDecl.{MemberDecl, MemberDecl', out-MemberDecl}
use Rattle.c65_tree.specs.declared.expr.MemberDeclarator.{MemberDeclarator, MemberDeclarator', out-MemberDeclarator}
use Rattle.c65_tree.specs.declared.expr.Enumerator.{Enumerator, Enumerator', out-Enumerator}
use Rattle.c65_tree.specs.declared.expr.ExprKind.TheVariants as x
use Rattle.c65_tree.specs.declared.expr.SpecifierKind.TheVariants as s
use Rattle.c65_tree.specs.declared.expr.DeclaratorKind.TheBlock as b
use Rattle.c65_tree.specs.Trees as t
use Rattle.c65_tree.specs.View as v
use Rattle.c65_tree.proofs.Views.{call_view, specifiers_view, tagged_view, enum_view, member_decl_view}
use Rattle.c65_decl.specs.Enumerators as n

pub each_next : {A : Type 0} (f : List Name → A → List Name) (ns : List Name) (xs : List A) (i : ℕ) (y : A) → i < length xs → y ≡ get_or xs i y → n.each f ns (drop i xs) ≡ n.each f (f ns y) (drop (i + 1) xs)
each_next f ns xs i y h is =
    let e : drop i xs ≡ get_or xs i y ∷ drop (i + 1) xs = rw (add-one, drop-cons xs i y) refl in
    ap (n.each f ns) e ∙ ap (λ z. n.each f (f ns z) (drop (i + 1) xs)) (sym is)

exprs_are : (es : List Expr) (xs : t.ExprList) (ns : List Name) → n.each n.one_expr (n.in_exprs ns xs) es ≡ n.in_exprs ns (v.exprs_from xs es)
exprs_are [] xs ns = refl
exprs_are (e ∷ es) xs ns = exprs_are es (t.and_expr xs (v.expr_of e)) ns

pub call_is : (l : Pos) (f : Box Expr Global) (es : Vec Expr Global) (ns : List Name) → n.in_expr ns (v.expr_at l (x.Call f es)) ≡ n.each n.one_expr (n.in_expr ns (v.expr_of f.value)) es.items
call_is l f es ns = ap (n.in_expr ns) (call_view l f es) ∙ sym (exprs_are es.items t.no_exprs (n.in_expr ns (v.expr_of f.value)))

list_is : (qs : List Specifier) (xs : t.SpecifierList) (ns : List Name) → n.each n.one_specifier (n.in_list ns xs) qs ≡ n.in_list ns (v.specifiers_from xs qs)
list_is [] xs ns = refl
list_is (q ∷ qs) xs ns = list_is qs (t.and_specifier xs (v.specifier_of q)) ns

pub specifiers_are : (q : Specifiers) (ns : List Name) → n.in_specifiers ns (v.specifiers_of q) ≡ n.each n.one_specifier ns (out-Specifiers q).items.items
specifiers_are q ns = ap (n.in_specifiers ns) (specifiers_view q) ∙ sym (list_is (out-Specifiers q).items.items t.no_specifiers ns)

member_next : (xs : t.MemberList) (m : MemberDeclarator) (ns : List Name) → n.one_member (n.in_member_list ns xs) m ≡ n.in_member_list ns (v.with_member xs m)
member_next xs (MemberDeclarator' l k w) ns = refl

members_are : (ms : List MemberDeclarator) (xs : t.MemberList) (ns : List Name) → n.each n.one_member (n.in_member_list ns xs) ms ≡ n.in_member_list ns (v.members_from xs ms)
members_are [] xs ns = refl
members_are (m ∷ ms) xs ns = ap (λ (k : List Name). n.each n.one_member k ms) (member_next xs m ns) ∙ members_are ms (v.with_member xs m) ns

pub member_is : (m : MemberDeclarator) (ns : List Name) → n.one_member ns m ≡ n.in_option (n.in_option_declarator ns (out-MemberDeclarator m).declarator) (out-MemberDeclarator m).width
unfolding out-MemberDeclarator Carrier.out
member_is (MemberDeclarator' l b.MemberDeclarator-declarator-None' b.Enumerator-value-None') ns = refl
member_is (MemberDeclarator' l b.MemberDeclarator-declarator-None' (b.Enumerator-value-Some' k w)) ns = refl
member_is (MemberDeclarator' l (b.MemberDeclarator-declarator-Some' j d) b.Enumerator-value-None') ns = refl
member_is (MemberDeclarator' l (b.MemberDeclarator-declarator-Some' j d) (b.Enumerator-value-Some' k w)) ns = refl

member_decl_next : (xs : t.MemberDeclList) (d : MemberDecl) (ns : List Name) → n.one_member_decl (n.in_member_decls ns xs) d ≡ n.in_member_decls ns (v.with_member_decl xs d)
member_decl_next xs (MemberDecl' q shape row) ns = refl

member_decls_are : (ds : List MemberDecl) (xs : t.MemberDeclList) (ns : List Name) → n.each n.one_member_decl (n.in_member_decls ns xs) ds ≡ n.in_member_decls ns (v.member_decls_from xs ds)
member_decls_are [] xs ns = refl
member_decls_are (d ∷ ds) xs ns = ap (λ (k : List Name). n.each n.one_member_decl k ds) (member_decl_next xs d ns) ∙ member_decls_are ds (v.with_member_decl xs d) ns

pub member_decl_is : (d : MemberDecl) (ns : List Name) → n.one_member_decl ns d ≡ n.each n.one_member (n.in_specifiers ns (v.specifiers_of (out-MemberDecl d).specifiers)) (out-MemberDecl d).declarators.items
member_decl_is d ns = ap (n.in_member_decls ns) (member_decl_view t.no_member_decls d) ∙ sym (members_are (out-MemberDecl d).declarators.items t.no_more_members (n.in_specifiers ns (v.specifiers_of (out-MemberDecl d).specifiers)))

pub tagged_is : (l : Pos) (union : Bool) (tag : Option Name) (ms : Vec MemberDecl Global) (ns : List Name) → n.in_specifier ns (v.specifier_at l (s.Tagged union tag (Some ms))) ≡ n.each n.one_member_decl ns ms.items
tagged_is l union tag ms ns = ap (n.in_specifier ns) (tagged_view l union tag ms) ∙ sym (member_decls_are ms.items t.no_member_decls ns)

enumerator_next : (xs : t.EnumeratorList) (e : Enumerator) (ns : List Name) → n.one_enumerator (n.in_enumerator_list ns xs) e ≡ n.in_enumerator_list ns (v.with_enumerator xs e)
enumerator_next xs (Enumerator' l k w) ns = refl

enumerators_are : (es : List Enumerator) (xs : t.EnumeratorList) (ns : List Name) → n.each n.one_enumerator (n.in_enumerator_list ns xs) es ≡ n.in_enumerator_list ns (v.enumerators_from xs es)
enumerators_are [] xs ns = refl
enumerators_are (e ∷ es) xs ns = ap (λ (k : List Name). n.each n.one_enumerator k es) (enumerator_next xs e ns) ∙ enumerators_are es (v.with_enumerator xs e) ns

pub enumerator_is : (e : Enumerator) (ns : List Name) → n.one_enumerator ns e ≡ n.in_option ns (out-Enumerator e).value ++ (out-Enumerator e).name ∷ []
unfolding out-Enumerator Carrier.out
enumerator_is (Enumerator' l k b.Enumerator-value-None') ns = refl
enumerator_is (Enumerator' l k (b.Enumerator-value-Some' j w)) ns = refl

pub enum_is : (l : Pos) (tag : Option Name) (es : Vec Enumerator Global) (ns : List Name) → n.in_specifier ns (v.specifier_at l (s.Enum tag (Some es))) ≡ n.each n.one_enumerator ns es.items
enum_is l tag es ns = ap (n.in_specifier ns) (enum_view l tag es) ∙ sym (enumerators_are es.items t.no_more_enumerators ns)
