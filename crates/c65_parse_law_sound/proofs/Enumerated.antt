-- The scope behind a tree is the one that its enumerators are declared in.
use Rattle.std.proofs.Common.{◌≡◌, List, [], ◌∷◌, ◌++◌, false, refl, ap, ◌∙◌}
use Rattle.std.specs.Prelude.{Option, None, Some}
use Rattle.c65_base.specs.declared.names.Name.{Name}
use Rattle.c65_tree.specs.Trees as t
use Rattle.c65_parse_names.specs.Scopes.{Blocks, opened}
use Rattle.c65_decl.specs.Enumerators as n
use Rattle.c65_decl.specs.Declaring.{declared_maybe, with_names, enumerators_in, with_param, with_param_list}
use Rattle.c65_decl.specs.Declaring as blocks
use Rattle.c65_parse_grammar.specs.Parts.{declared_name, is_typedef, nearest_params}
use Rattle.c65_parse_grammar.specs.Scopes.{Scope, declare, declare_maybe, after, after_exprs, after_maybe, after_type, after_specifiers, after_list, after_specifier, after_members, after_member_decls, after_member_list, after_enumerators, after_enumerator_list, after_declarator, after_maybe_declarator, after_params, with_params, in_function}
use Rattle.c65_parse_law_sound.proofs.Parts.{declared_is}

-- names that are no types, one after another
abbrev pub naming : Scope → List Name → Scope
naming sc [] = sc
naming sc (m ∷ ms) = naming (declare m false sc) ms

one_more : (sc : Scope) (ms : List Name) (m : Name) → naming sc (ms ++ m ∷ []) ≡ declare m false (naming sc ms)
one_more sc [] m = refl
one_more sc (l ∷ ms) m = one_more (declare l false sc) ms m

mutual
  in_expr : (sc : Scope) (ns : List Name) (e : t.ExprTree) → naming sc (n.in_expr ns e) ≡ after (naming sc ns) e
  in_expr sc ns (t.name l m) = refl
  in_expr sc ns (t.number l ty m) = refl
  in_expr sc ns (t.text l bs) = refl
  in_expr sc ns (t.paren l e) = in_expr sc ns e
  in_expr sc ns (t.index l a i) = in_expr sc (n.in_expr ns a) i ∙ ap (λ s. after s i) (in_expr sc ns a)
  in_expr sc ns (t.call l f es) = in_exprs sc (n.in_expr ns f) es ∙ ap (λ s. after_exprs s es) (in_expr sc ns f)
  in_expr sc ns (t.member l e arrow m) = in_expr sc ns e
  in_expr sc ns (t.step l how e) = in_expr sc ns e
  in_expr sc ns (t.unary l op e) = in_expr sc ns e
  in_expr sc ns (t.sizeof_expr l e) = in_expr sc ns e
  in_expr sc ns (t.sizeof_type l ty) = in_type sc ns ty
  in_expr sc ns (t.cast l ty e) = in_expr sc (n.in_type ns ty) e ∙ ap (λ s. after s e) (in_type sc ns ty)
  in_expr sc ns (t.binary l op a b) = in_expr sc (n.in_expr ns a) b ∙ ap (λ s. after s b) (in_expr sc ns a)
  in_expr sc ns (t.and_also l a b) = in_expr sc (n.in_expr ns a) b ∙ ap (λ s. after s b) (in_expr sc ns a)
  in_expr sc ns (t.or_else l a b) = in_expr sc (n.in_expr ns a) b ∙ ap (λ s. after s b) (in_expr sc ns a)
  in_expr sc ns (t.conditional l c a b) = in_expr sc (n.in_expr (n.in_expr ns c) a) b ∙ ap (λ s. after s b) (in_expr sc (n.in_expr ns c) a ∙ ap (λ s. after s a) (in_expr sc ns c))
  in_expr sc ns (t.assign l op a b) = in_expr sc (n.in_expr ns a) b ∙ ap (λ s. after s b) (in_expr sc ns a)
  in_expr sc ns (t.comma l a b) = in_expr sc (n.in_expr ns a) b ∙ ap (λ s. after s b) (in_expr sc ns a)

  in_exprs : (sc : Scope) (ns : List Name) (es : t.ExprList) → naming sc (n.in_exprs ns es) ≡ after_exprs (naming sc ns) es
  in_exprs sc ns t.no_exprs = refl
  in_exprs sc ns (t.and_expr es e) = in_expr sc (n.in_exprs ns es) e ∙ ap (λ s. after s e) (in_exprs sc ns es)

  in_maybe : (sc : Scope) (ns : List Name) (v : t.MaybeExpr) → naming sc (n.in_maybe ns v) ≡ after_maybe (naming sc ns) v
  in_maybe sc ns t.no_expr = refl
  in_maybe sc ns (t.an_expr e) = in_expr sc ns e

  in_type : (sc : Scope) (ns : List Name) (ty : t.TypeTree) → naming sc (n.in_type ns ty) ≡ after_type (naming sc ns) ty
  in_type sc ns (t.type_name q d) = in_declarator sc (n.in_specifiers ns q) d ∙ ap (λ s. after_declarator s d) (in_specifiers sc ns q)

  pub in_specifiers : (sc : Scope) (ns : List Name) (q : t.SpecifiersTree) → naming sc (n.in_specifiers ns q) ≡ after_specifiers (naming sc ns) q
  in_specifiers sc ns (t.specifiers l qs) = in_list sc ns qs

  in_list : (sc : Scope) (ns : List Name) (qs : t.SpecifierList) → naming sc (n.in_list ns qs) ≡ after_list (naming sc ns) qs
  in_list sc ns t.no_specifiers = refl
  in_list sc ns (t.and_specifier qs q) = in_specifier sc (n.in_list ns qs) q ∙ ap (λ s. after_specifier s q) (in_list sc ns qs)

  in_specifier : (sc : Scope) (ns : List Name) (q : t.SpecifierTree) → naming sc (n.in_specifier ns q) ≡ after_specifier (naming sc ns) q
  in_specifier sc ns (t.storage l c) = refl
  in_specifier sc ns (t.word l w) = refl
  in_specifier sc ns (t.typedef_name l m) = refl
  in_specifier sc ns (t.tagged l union tag ms) = in_members sc ns ms
  in_specifier sc ns (t.enum l tag es) = in_enumerators sc ns es

  in_members : (sc : Scope) (ns : List Name) (ms : t.MaybeMembers) → naming sc (n.in_members ns ms) ≡ after_members (naming sc ns) ms
  in_members sc ns t.no_members = refl
  in_members sc ns (t.the_members ds) = in_member_decls sc ns ds

  in_member_decls : (sc : Scope) (ns : List Name) (ds : t.MemberDeclList) → naming sc (n.in_member_decls ns ds) ≡ after_member_decls (naming sc ns) ds
  in_member_decls sc ns t.no_member_decls = refl
  in_member_decls sc ns (t.and_member_decl ds q ms) = in_member_list sc (n.in_specifiers (n.in_member_decls ns ds) q) ms ∙ ap (λ s. after_member_list s ms) (in_specifiers sc (n.in_member_decls ns ds) q ∙ ap (λ s. after_specifiers s q) (in_member_decls sc ns ds))

  in_member_list : (sc : Scope) (ns : List Name) (ms : t.MemberList) → naming sc (n.in_member_list ns ms) ≡ after_member_list (naming sc ns) ms
  in_member_list sc ns t.no_more_members = refl
  in_member_list sc ns (t.and_member ms l d w) = in_maybe sc (n.in_maybe_declarator (n.in_member_list ns ms) d) w ∙ ap (λ s. after_maybe s w) (in_maybe_declarator sc (n.in_member_list ns ms) d ∙ ap (λ s. after_maybe_declarator s d) (in_member_list sc ns ms))

  in_maybe_declarator : (sc : Scope) (ns : List Name) (d : t.MaybeDeclarator) → naming sc (n.in_maybe_declarator ns d) ≡ after_maybe_declarator (naming sc ns) d
  in_maybe_declarator sc ns t.no_declarator = refl
  in_maybe_declarator sc ns (t.a_declarator d) = in_declarator sc ns d

  in_enumerators : (sc : Scope) (ns : List Name) (es : t.MaybeEnumerators) → naming sc (n.in_enumerators ns es) ≡ after_enumerators (naming sc ns) es
  in_enumerators sc ns t.no_enumerators = refl
  in_enumerators sc ns (t.the_enumerators es) = in_enumerator_list sc ns es

  in_enumerator_list : (sc : Scope) (ns : List Name) (es : t.EnumeratorList) → naming sc (n.in_enumerator_list ns es) ≡ after_enumerator_list (naming sc ns) es
  in_enumerator_list sc ns t.no_more_enumerators = refl
  in_enumerator_list sc ns (t.and_enumerator es l m v) = one_more sc (n.in_maybe (n.in_enumerator_list ns es) v) m ∙ ap (declare m false) (in_maybe sc (n.in_enumerator_list ns es) v ∙ ap (λ s. after_maybe s v) (in_enumerator_list sc ns es))

  pub in_declarator : (sc : Scope) (ns : List Name) (d : t.DeclaratorTree) → naming sc (n.in_declarator ns d) ≡ after_declarator (naming sc ns) d
  in_declarator sc ns (t.nameless l) = refl
  in_declarator sc ns (t.named l m) = refl
  in_declarator sc ns (t.grouped l d) = in_declarator sc ns d
  in_declarator sc ns (t.calling l cdecl d) = in_declarator sc ns d
  in_declarator sc ns (t.pointer l c v d) = in_declarator sc ns d
  in_declarator sc ns (t.array l d b) = in_maybe sc (n.in_declarator ns d) b ∙ ap (λ s. after_maybe s b) (in_declarator sc ns d)
  in_declarator sc ns (t.function l d ps) = in_declarator sc ns d

named : (ms : List Name) (sc : Scope) (outer : Blocks) → with_names ms (sc ∷ outer) ≡ naming sc ms ∷ outer
named [] sc outer = refl
named (m ∷ ms) sc outer = named ms (declare m false sc) outer

param_is : (q : t.SpecifiersTree) (d : t.DeclaratorTree) (sc : Scope) (outer : Blocks) → with_param q d (sc ∷ outer) ≡ declare_maybe (declared_name d) (is_typedef q) (after_declarator (after_specifiers sc q) d) ∷ outer
param_is q d sc outer = ap (declared_maybe (declared_name d) (is_typedef q)) (named (enumerators_in q d) sc outer ∙ ap (λ s. s ∷ outer) (in_declarator sc (n.in_specifiers [] q) d ∙ ap (λ s. after_declarator s d) (in_specifiers sc [] q))) ∙ declared_is (declared_name d) (is_typedef q) (after_declarator (after_specifiers sc q) d) outer

params_are : (ps : t.ParamList) (sc : Scope) (outer : Blocks) → with_param_list ps (sc ∷ outer) ≡ after_params sc ps ∷ outer
params_are t.no_more_params sc outer = refl
params_are (t.and_param ps q d) sc outer = ap (with_param q d) (params_are ps sc outer) ∙ param_is q d (after_params sc ps) outer

all_params : (ps : Option t.ParamsTree) (sc : Scope) (outer : Blocks) → blocks.with_params ps (sc ∷ outer) ≡ with_params sc ps ∷ outer
all_params None sc outer = refl
all_params (Some t.no_params) sc outer = refl
all_params (Some (t.param_names ns)) sc outer = refl
all_params (Some (t.param_types ps more)) sc outer = params_are ps sc outer

-- the block of a function definition
pub function_block : (d : t.DeclaratorTree) (sc : Scope) (outer : Blocks) → blocks.in_function d (opened (sc ∷ outer)) ≡ in_function sc d ∷ sc ∷ outer
function_block d sc outer = all_params (nearest_params d) sc (sc ∷ outer)
