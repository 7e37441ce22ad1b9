-- The walks of the lists of a tree.
use Rattle.std.proofs.Common.{◌≡◌, ℕ, suc, ◌+◌, List, [], ◌∷◌, ◌++◌, length, take, get_or, ◌<◌, map, Bool, true, false, Vec, Global, refl, sym, ap, ◌∙◌, subst, arith, Ok, Err}
use Rattle.std.specs.Prelude.{Result, ℤ, pos, ◌+ℤ◌, unwrap_or, Option, Some, None, ◌==◌}
use Rattle.std.proofs.lemmas.Bool.Decides.{nat_tests}
use denote.Hole.Carrier
use Rattle.c65_base.specs.declared.refusal.Refusal.{Refusal}
use Rattle.c65_base.specs.Answers.{Fault, Fails, ◌>>=◌}
use Rattle.c65_ctype.specs.Trees.{QTy, FieldTy}
use Rattle.c65_csem.specs.declared.expr.TExpr.{TExpr}
use Rattle.c65_csem.specs.Trees as n
use Rattle.c65_csem.specs.Trees.{Nodes}
use Rattle.c65_csem.specs.Views.{typed_of, nodes_of}
use Rattle.c65_base.specs.declared.refusal.Pos.{Pos}
use Rattle.c65_elab_declare.specs.Declarators.{FormalTy, PartTy}
use Rattle.c65_elab_declare.specs.Drafts.{DraftTy}
use Rattle.c65_elab_scope.specs.Scopes.{ScopeTy}
use Rattle.c65_tree.specs.declared.expr.Expr.{Expr}
use Rattle.c65_tree.specs.declared.expr.Specifier.{Specifier}
use Rattle.c65_tree.specs.declared.expr.Enumerator.{Enumerator, Enumerator', out-Enumerator}
use Rattle.c65_tree.specs.declared.expr.MemberDecl.{MemberDecl, out-MemberDecl}
use Rattle.c65_tree.specs.declared.expr.MemberDeclarator.{MemberDeclarator, MemberDeclarator', out-MemberDeclarator}
use Rattle.c65_tree.specs.declared.expr.Param.{Param, out-Param}
use Rattle.c65_base.specs.declared.names.Name.{Name}
use Rattle.c65_tree.specs.declared.expr.Storage.{Storage}
use Rattle.c65_tree.specs.declared.expr.DeclaratorKind.TheBlock as b
use Rattle.c65_tree.specs.Optional.{maybe_expr, maybe_declarator}
use Rattle.c65_tree.specs.Trees as t
use Rattle.c65_tree.specs.View as v
use Rattle.c65_tree.proofs.Growing.{exprs_push, specifiers_push, enumerators_push, members_push, member_decls_push, params_push}
use Rattle.c65_tree.proofs.Views.{member_decl_view, param_view}
use Rattle.c65_elab_declare.specs.Calling.{name_place}
use Rattle.c65_elab_declare.specs.Constants.{field_in}
use Rattle.c65_elab_declare.specs.Prototypes.{param_storage, formal_in, more_bytes}
use Rattle.c65_elab_declare.specs.Shapes.{shaped}
use Rattle.c65_elab.specs.Typing.{typed, typed_list, value_in, specified, drafted, specifier_in, enumerators_in, enumerator_in, fields_in, fields_with, members_in, member_in, a_member_in, parts_in, prototype_in, parameter_in, beside, and_node, is_one, is_single}
use Rattle.c65_elab.proofs.Walks.{Goes, next, refused, fails_bind, then_ok, then_fails, regrouped, each_step}

-- ---- arguments

abbrev pub args_walk : ScopeTy → List Expr → Result (Nodes × ScopeTy) Fault
args_walk s es = typed_list (v.exprs_from t.no_exprs es) s

abbrev pub args_step : Expr → Nodes × ScopeTy → Result (Nodes × ScopeTy) Fault
args_step e xs = typed (v.expr_of e) xs.1 >>= (λ x. Ok (and_node xs.0 x.0, x.1))

pub args_go : (s : ScopeTy) → Goes (args_walk s) args_step
args_go s = record { on = λ es e. ap (λ (xs : t.ExprList). typed_list xs s) (exprs_push t.no_exprs es e) }

pub nodes_push : (xs : List TExpr) (x : TExpr) → nodes_of (xs ++ x ∷ []) ≡ and_node (nodes_of xs) (typed_of x)
nodes_push [] x = refl
nodes_push (y ∷ xs) x = ap (n.some (typed_of y)) (nodes_push xs x)

-- ---- specifiers

abbrev pub drafts_walk : Bool → ScopeTy → List Specifier → Result (DraftTy × ScopeTy) Fault
drafts_walk sole s qs = drafted (v.specifiers_from t.no_specifiers qs) sole s

abbrev pub drafts_step : Bool → Specifier → DraftTy × ScopeTy → Result (DraftTy × ScopeTy) Fault
drafts_step sole q x = specifier_in (v.specifier_of q) x.0 sole x.1

pub drafts_go : (sole : Bool) (s : ScopeTy) → Goes (drafts_walk sole s) (drafts_step sole)
drafts_go sole s = record { on = λ qs q. ap (λ (xs : t.SpecifierList). drafted xs sole s) (specifiers_push t.no_specifiers qs q) }

-- more than one specifier
many : (xs : t.SpecifierList) (a b : t.SpecifierTree) (qs : List Specifier) → is_one (v.specifiers_from (t.and_specifier (t.and_specifier xs a) b) qs) ≡ false
many xs a b [] = refl
many xs a b (q ∷ qs) = many (t.and_specifier xs a) b (v.specifier_of q) qs

not_one : (n : ℕ) → (suc (suc n) == 1) ≡ false
not_one n = grind (arith, nat_tests)

pub one_of : (qs : List Specifier) → is_one (v.specifiers_from t.no_specifiers qs) ≡ (length qs == 1)
one_of [] = refl
one_of (q ∷ []) = refl
one_of (q ∷ r ∷ qs) = many t.no_specifiers (v.specifier_of q) (v.specifier_of r) qs ∙ sym (not_one (length qs))

-- ---- enumerators

enumerator_view : (xs : t.EnumeratorList) (e : Enumerator) → v.with_enumerator xs e ≡ t.and_enumerator xs (out-Enumerator e).pos (out-Enumerator e).name (maybe_expr (out-Enumerator e).value)
unfolding out-Enumerator Carrier.out
enumerator_view xs (Enumerator' l m b.Enumerator-value-None') = refl
enumerator_view xs (Enumerator' l m (b.Enumerator-value-Some' k w)) = refl

abbrev pub enums_walk : ScopeTy → List Enumerator → Result (ℤ × ScopeTy) Fault
enums_walk s es = enumerators_in (v.enumerators_from t.no_more_enumerators es) s

abbrev pub enums_step : Enumerator → ℤ × ScopeTy → Result (ℤ × ScopeTy) Fault
enums_step e x = enumerator_in (maybe_expr (out-Enumerator e).value) (out-Enumerator e).pos (out-Enumerator e).name x.0 x.1

pub enums_go : (s : ScopeTy) → Goes (enums_walk s) enums_step
enums_go s = record { on = λ es e. ap (λ (xs : t.EnumeratorList). enumerators_in xs s) (enumerators_push t.no_more_enumerators es e ∙ enumerator_view (v.enumerators_from t.no_more_enumerators es) e) }

-- ---- members

member_view : (xs : t.MemberList) (m : MemberDeclarator) → v.with_member xs m ≡ t.and_member xs (out-MemberDeclarator m).pos (maybe_declarator (out-MemberDeclarator m).declarator) (maybe_expr (out-MemberDeclarator m).width)
unfolding out-MemberDeclarator Carrier.out
member_view xs (MemberDeclarator' l b.MemberDeclarator-declarator-None' b.Enumerator-value-None') = refl
member_view xs (MemberDeclarator' l b.MemberDeclarator-declarator-None' (b.Enumerator-value-Some' k w)) = refl
member_view xs (MemberDeclarator' l (b.MemberDeclarator-declarator-Some' j d) b.Enumerator-value-None') = refl
member_view xs (MemberDeclarator' l (b.MemberDeclarator-declarator-Some' j d) (b.Enumerator-value-Some' k w)) = refl

abbrev pub members_walk : List FieldTy → QTy → Bool → ScopeTy → List MemberDeclarator → Result (List FieldTy × ScopeTy) Fault
members_walk fs base signed s ms = members_in (v.members_from t.no_more_members ms) fs base signed s

abbrev pub members_step : QTy → Bool → MemberDeclarator → List FieldTy × ScopeTy → Result (List FieldTy × ScopeTy) Fault
members_step base signed m xs = a_member_in (maybe_declarator (out-MemberDeclarator m).declarator) (maybe_expr (out-MemberDeclarator m).width) (out-MemberDeclarator m).pos base signed xs.1 >>= (λ f. Ok (xs.0 ++ f.0 ∷ [], f.1))

abbrev and_field : List FieldTy → FieldTy × ScopeTy → Result (List FieldTy × ScopeTy) Fault
and_field fs f = Ok (fs ++ f.0 ∷ [], f.1)

abbrev sized_field : t.MaybeExpr → Pos → Bool → (Option Name × QTy) × ScopeTy → Result (FieldTy × ScopeTy) Fault
sized_field v p signed x = value_in v x.1 >>= (λ z. beside z.1 (field_in x.0.0 x.0.1 signed z.0 p))

abbrev sized_fields : List FieldTy → t.MaybeExpr → Pos → Bool → (Option Name × QTy) × ScopeTy → Result (List FieldTy × ScopeTy) Fault
sized_fields fs v p signed x = value_in v x.1 >>= (λ z. field_in x.0.0 x.0.1 signed z.0 p >>= (λ f. Ok (fs ++ f ∷ [], z.1)))

member_step_is : (k : t.MaybeDeclarator) (v : t.MaybeExpr) (p : Pos) (base : QTy) (signed : Bool) (xs : List FieldTy × ScopeTy) → (member_in k base xs.1 >>= sized_fields xs.0 v p signed) ≡ (a_member_in k v p base signed xs.1 >>= and_field xs.0)
member_step_is k v p base signed xs =
    sym (regrouped (member_in k base xs.1) (sized_field v p signed) (and_field xs.0) (sized_fields xs.0 v p signed)
    (λ x. regrouped (value_in v x.1) (λ z. beside z.1 (field_in x.0.0 x.0.1 signed z.0 p)) (and_field xs.0) (λ z. field_in x.0.0 x.0.1 signed z.0 p >>= (λ f. Ok (xs.0 ++ f ∷ [], z.1)))
    (λ z. regrouped (field_in x.0.0 x.0.1 signed z.0 p) (λ f. Ok (f, z.1)) (and_field xs.0) (λ f. Ok (xs.0 ++ f ∷ [], z.1)) (λ f. refl))))

then_member : (ms : t.MemberList) (p : Pos) (k : t.MaybeDeclarator) (v : t.MaybeExpr) (fs : List FieldTy) (base : QTy) (signed : Bool) (s : ScopeTy) → members_in (t.and_member ms p k v) fs base signed s ≡ (members_in ms fs base signed s >>= (λ xs. a_member_in k v p base signed xs.1 >>= and_field xs.0))
then_member ms p k v fs base signed s = each_step (members_in ms fs base signed s) (λ xs. member_in k base xs.1 >>= sized_fields xs.0 v p signed) (λ xs. a_member_in k v p base signed xs.1 >>= and_field xs.0) (member_step_is k v p base signed)

pub members_go : (fs : List FieldTy) (base : QTy) (signed : Bool) (s : ScopeTy) → Goes (members_walk fs base signed s) (members_step base signed)
members_go fs base signed s = record { on = λ ms m. ap (λ (xs : t.MemberList). members_in xs fs base signed s) (members_push t.no_more_members ms m ∙ member_view (v.members_from t.no_more_members ms) m) ∙ then_member (v.members_from t.no_more_members ms) (out-MemberDeclarator m).pos (maybe_declarator (out-MemberDeclarator m).declarator) (maybe_expr (out-MemberDeclarator m).width) fs base signed s }

abbrev pub fields_walk : ScopeTy → List MemberDecl → Result (List FieldTy × ScopeTy) Fault
fields_walk s ds = fields_in (v.member_decls_from t.no_member_decls ds) s

abbrev pub fields_step : MemberDecl → List FieldTy × ScopeTy → Result (List FieldTy × ScopeTy) Fault
fields_step d xs = fields_with (v.members_from t.no_more_members (out-MemberDecl d).declarators.items) (v.specifiers_of (out-MemberDecl d).specifiers) xs.0 xs.1

pub fields_go : (s : ScopeTy) → Goes (fields_walk s) fields_step
fields_go s = record { on = λ ds d. ap (λ (xs : t.MemberDeclList). fields_in xs s) (member_decls_push t.no_member_decls ds d ∙ member_decl_view (v.member_decls_from t.no_member_decls ds) d) }

-- ---- parameters

many_params : (xs : t.ParamList) (q r : t.SpecifiersTree) (d k : t.DeclaratorTree) (ps : List Param) → is_single (v.params_from (t.and_param (t.and_param xs q d) r k) ps) ≡ false
many_params xs q r d k [] = refl
many_params xs q r d k (p ∷ ps) =
    ap (λ (ys : t.ParamList). is_single (v.params_from ys ps)) (param_view (t.and_param (t.and_param xs q d) r k) p)
    ∙ many_params (t.and_param xs q d) r (v.specifiers_of (out-Param p).specifiers) k (v.declarator_of (out-Param p).declarator) ps

pub single_of : (ps : List Param) → is_single (v.params_from t.no_more_params ps) ≡ (length ps == 1)
single_of [] = refl
single_of (p ∷ []) = ap is_single (param_view t.no_more_params p)
single_of (p ∷ q ∷ ps) =
    ap (λ (ys : t.ParamList). is_single (v.params_from (v.with_param ys q) ps)) (param_view t.no_more_params p)
    ∙ ap (λ (ys : t.ParamList). is_single (v.params_from ys ps)) (param_view (t.and_param t.no_more_params (v.specifiers_of (out-Param p).specifiers) (v.declarator_of (out-Param p).declarator)) q)
    ∙ many_params t.no_more_params (v.specifiers_of (out-Param p).specifiers) (v.specifiers_of (out-Param q).specifiers) (v.declarator_of (out-Param p).declarator) (v.declarator_of (out-Param q).declarator) ps
    ∙ sym (not_one (length ps))

abbrev pub params_walk : Bool → ScopeTy → List Param → Result ((List FormalTy × ℕ) × ScopeTy) Fault
params_walk sole s ps = prototype_in (v.params_from t.no_more_params ps) sole s

abbrev pub param_counted : List FormalTy → ℕ → FormalTy × ScopeTy → Result ((List FormalTy × ℕ) × ScopeTy) Fault
param_counted fs n f = more_bytes f.1.unit.types n f.0 >>= (λ m. Ok ((fs ++ f.0 ∷ [], m), f.1))

abbrev pub params_step : Bool → Param → (List FormalTy × ℕ) × ScopeTy → Result ((List FormalTy × ℕ) × ScopeTy) Fault
params_step sole p xs = parameter_in (v.specifiers_of (out-Param p).specifiers) (v.declarator_of (out-Param p).declarator) sole xs.1 >>= param_counted xs.0.0 xs.0.1

-- what follows the specifiers of a parameter, and what follows its storage class and its parts
abbrev formed : t.DeclaratorTree → Bool → QTy → Bool → (Option Name × List PartTy) × ScopeTy → Result (FormalTy × ScopeTy) Fault
formed k sole base register x = shaped x.1.unit.types base k x.0.1 >>= (λ u. formal_in x.1 x.0.0 u register sole (name_place k))

abbrev stored : t.DeclaratorTree → Bool → (Option Storage × QTy) × ScopeTy → Bool → Result (FormalTy × ScopeTy) Fault
stored k sole b register = parts_in k false b.1 >>= formed k sole b.0.1 register

abbrev formed_with : List FormalTy → ℕ → t.DeclaratorTree → Bool → QTy → Bool → (Option Name × List PartTy) × ScopeTy → Result ((List FormalTy × ℕ) × ScopeTy) Fault
formed_with fs n k sole base register x = shaped x.1.unit.types base k x.0.1 >>= (λ u. formal_in x.1 x.0.0 u register sole (name_place k) >>= param_counted fs n)

abbrev stored_with : List FormalTy → ℕ → t.DeclaratorTree → Bool → (Option Storage × QTy) × ScopeTy → Bool → Result ((List FormalTy × ℕ) × ScopeTy) Fault
stored_with fs n k sole b register = parts_in k false b.1 >>= formed_with fs n k sole b.0.1 register

param_step_is : (q : t.SpecifiersTree) (k : t.DeclaratorTree) (sole : Bool) (xs : (List FormalTy × ℕ) × ScopeTy) → (specified q false xs.1 >>= (λ b. param_storage b.0.0 q >>= stored_with xs.0.0 xs.0.1 k sole b)) ≡ (parameter_in q k sole xs.1 >>= param_counted xs.0.0 xs.0.1)
param_step_is q k sole xs =
    sym (regrouped (specified q false xs.1) (λ b. param_storage b.0.0 q >>= stored k sole b) (param_counted xs.0.0 xs.0.1) (λ b. param_storage b.0.0 q >>= stored_with xs.0.0 xs.0.1 k sole b)
    (λ b. regrouped (param_storage b.0.0 q) (stored k sole b) (param_counted xs.0.0 xs.0.1) (stored_with xs.0.0 xs.0.1 k sole b)
    (λ r. regrouped (parts_in k false b.1) (formed k sole b.0.1 r) (param_counted xs.0.0 xs.0.1) (formed_with xs.0.0 xs.0.1 k sole b.0.1 r)
    (λ x. regrouped (shaped x.1.unit.types b.0.1 k x.0.1) (λ u. formal_in x.1 x.0.0 u r sole (name_place k)) (param_counted xs.0.0 xs.0.1) (λ u. formal_in x.1 x.0.0 u r sole (name_place k) >>= param_counted xs.0.0 xs.0.1) (λ u. refl)))))

then_param : (ps : t.ParamList) (q : t.SpecifiersTree) (k : t.DeclaratorTree) (sole : Bool) (s : ScopeTy) → prototype_in (t.and_param ps q k) sole s ≡ (prototype_in ps sole s >>= (λ xs. parameter_in q k sole xs.1 >>= param_counted xs.0.0 xs.0.1))
then_param ps q k sole s = each_step (prototype_in ps sole s) (λ xs. specified q false xs.1 >>= (λ b. param_storage b.0.0 q >>= stored_with xs.0.0 xs.0.1 k sole b)) (λ xs. parameter_in q k sole xs.1 >>= param_counted xs.0.0 xs.0.1) (param_step_is q k sole)

pub params_go : (sole : Bool) (s : ScopeTy) → Goes (params_walk sole s) (params_step sole)
params_go sole s = record { on = λ ps p. ap (λ (xs : t.ParamList). prototype_in xs sole s) (params_push t.no_more_params ps p ∙ param_view (v.params_from t.no_more_params ps) p) ∙ then_param (v.params_from t.no_more_params ps) (v.specifiers_of (out-Param p).specifiers) (v.declarator_of (out-Param p).declarator) sole s }

-- ---- one item further, and the first fault

pub args_next : (s u w : ScopeTy) (es : List Expr) (i : ℕ) (x : Expr) (vs : List TExpr) (e : TExpr) → i < length es → x ≡ get_or es i x → args_walk s (take i es) ≡ Ok (nodes_of vs, u) → typed (v.expr_of x) u ≡ Ok (typed_of e, w) → args_walk s (take (i + 1) es) ≡ Ok (nodes_of (vs ++ e ∷ []), w)
args_next s u w es i x vs e below is so_far done =
    next (args_walk s) args_step (args_go s) es i x (nodes_of vs, u) (nodes_of (vs ++ e ∷ []), w) below is so_far
    (ap (λ (r : Result (n.Typed × ScopeTy) Fault). r >>= (λ y. Ok (and_node (nodes_of vs) y.0, y.1))) done ∙ ap (λ (ns : Nodes). Ok (ns, w)) (sym (nodes_push vs e)))

pub args_refused : (s u : ScopeTy) (es : List Expr) (i : ℕ) (x : Expr) (vs : List TExpr) (e : Refusal) → i < length es → x ≡ get_or es i x → args_walk s (take i es) ≡ Ok (nodes_of vs, u) → Fails e (typed (v.expr_of x) u) → Fails e (args_walk s es)
args_refused s u es i x vs e below is so_far h =
    refused (args_walk s) args_step (args_go s) e es i x (nodes_of vs, u) below is so_far (fails_bind e (typed (v.expr_of x) u) (λ y. Ok (and_node (nodes_of vs) y.0, y.1)) h)

pub drafts_next : (sole : Bool) (s u w : ScopeTy) (qs : List Specifier) (i : ℕ) (x : Specifier) (d k : DraftTy) → i < length qs → x ≡ get_or qs i x → drafts_walk sole s (take i qs) ≡ Ok (d, u) → specifier_in (v.specifier_of x) d sole u ≡ Ok (k, w) → drafts_walk sole s (take (i + 1) qs) ≡ Ok (k, w)
drafts_next sole s u w qs i x d k below is so_far done = next (drafts_walk sole s) (drafts_step sole) (drafts_go sole s) qs i x (d, u) (k, w) below is so_far done

pub drafts_refused : (sole : Bool) (s u : ScopeTy) (qs : List Specifier) (i : ℕ) (x : Specifier) (d : DraftTy) (e : Refusal) → i < length qs → x ≡ get_or qs i x → drafts_walk sole s (take i qs) ≡ Ok (d, u) → Fails e (specifier_in (v.specifier_of x) d sole u) → Fails e (drafts_walk sole s qs)
drafts_refused sole s u qs i x d e below is so_far h = refused (drafts_walk sole s) (drafts_step sole) (drafts_go sole s) e qs i x (d, u) below is so_far h

pub enums_next : (s u w : ScopeTy) (es : List Enumerator) (i : ℕ) (x : Enumerator) (z k : ℤ) → i < length es → x ≡ get_or es i x → enums_walk s (take i es) ≡ Ok (z, u) → enums_step x (z, u) ≡ Ok (k, w) → enums_walk s (take (i + 1) es) ≡ Ok (k, w)
enums_next s u w es i x z k below is so_far done = next (enums_walk s) enums_step (enums_go s) es i x (z, u) (k, w) below is so_far done

pub enums_refused : (s u : ScopeTy) (es : List Enumerator) (i : ℕ) (x : Enumerator) (z : ℤ) (e : Refusal) → i < length es → x ≡ get_or es i x → enums_walk s (take i es) ≡ Ok (z, u) → Fails e (enums_step x (z, u)) → Fails e (enums_walk s es)
enums_refused s u es i x z e below is so_far h = refused (enums_walk s) enums_step (enums_go s) e es i x (z, u) below is so_far h

pub fields_next : (s u w : ScopeTy) (ds : List MemberDecl) (i : ℕ) (x : MemberDecl) (fs gs : List FieldTy) → i < length ds → x ≡ get_or ds i x → fields_walk s (take i ds) ≡ Ok (fs, u) → fields_step x (fs, u) ≡ Ok (gs, w) → fields_walk s (take (i + 1) ds) ≡ Ok (gs, w)
fields_next s u w ds i x fs gs below is so_far done = next (fields_walk s) fields_step (fields_go s) ds i x (fs, u) (gs, w) below is so_far done

pub fields_refused : (s u : ScopeTy) (ds : List MemberDecl) (i : ℕ) (x : MemberDecl) (fs : List FieldTy) (e : Refusal) → i < length ds → x ≡ get_or ds i x → fields_walk s (take i ds) ≡ Ok (fs, u) → Fails e (fields_step x (fs, u)) → Fails e (fields_walk s ds)
fields_refused s u ds i x fs e below is so_far h = refused (fields_walk s) fields_step (fields_go s) e ds i x (fs, u) below is so_far h

abbrev pub member_of_list : QTy → Bool → MemberDeclarator → ScopeTy → Result (FieldTy × ScopeTy) Fault
member_of_list base signed m s = a_member_in (maybe_declarator (out-MemberDeclarator m).declarator) (maybe_expr (out-MemberDeclarator m).width) (out-MemberDeclarator m).pos base signed s

pub members_next : (fs : List FieldTy) (base : QTy) (signed : Bool) (s u w : ScopeTy) (ms : List MemberDeclarator) (i : ℕ) (x : MemberDeclarator) (gs hs : List FieldTy) (f : FieldTy) → i < length ms → x ≡ get_or ms i x → members_walk fs base signed s (take i ms) ≡ Ok (gs, u) → member_of_list base signed x u ≡ Ok (f, w) → hs ≡ gs ++ f ∷ [] → members_walk fs base signed s (take (i + 1) ms) ≡ Ok (hs, w)
members_next fs base signed s u w ms i x gs hs f below is so_far made more =
    next (members_walk fs base signed s) (members_step base signed) (members_go fs base signed s) ms i x (gs, u) (hs, w) below is so_far
    (ap (λ (r : Result (FieldTy × ScopeTy) Fault). r >>= (λ y. Ok (gs ++ y.0 ∷ [], y.1))) made ∙ ap (λ (ys : List FieldTy). Ok (ys, w)) (sym more))

pub members_refused : (fs : List FieldTy) (base : QTy) (signed : Bool) (s u : ScopeTy) (ms : List MemberDeclarator) (i : ℕ) (x : MemberDeclarator) (gs : List FieldTy) (e : Refusal) → i < length ms → x ≡ get_or ms i x → members_walk fs base signed s (take i ms) ≡ Ok (gs, u) → Fails e (member_of_list base signed x u) → Fails e (members_walk fs base signed s ms)
members_refused fs base signed s u ms i x gs e below is so_far h =
    refused (members_walk fs base signed s) (members_step base signed) (members_go fs base signed s) e ms i x (gs, u) below is so_far (fails_bind e (member_of_list base signed x u) (λ y. Ok (gs ++ y.0 ∷ [], y.1)) h)

abbrev pub param_of_list : Bool → Param → ScopeTy → Result (FormalTy × ScopeTy) Fault
param_of_list sole p s = parameter_in (v.specifiers_of (out-Param p).specifiers) (v.declarator_of (out-Param p).declarator) sole s

pub params_next : (sole : Bool) (s u w : ScopeTy) (ps : List Param) (i : ℕ) (x : Param) (fs gs : List FormalTy) (n m : ℕ) (f : FormalTy) → i < length ps → x ≡ get_or ps i x → params_walk sole s (take i ps) ≡ Ok ((fs, n), u) → param_of_list sole x u ≡ Ok (f, w) → more_bytes w.unit.types n f ≡ Ok m → gs ≡ fs ++ f ∷ [] → params_walk sole s (take (i + 1) ps) ≡ Ok ((gs, m), w)
params_next sole s u w ps i x fs gs n m f below is so_far made bytes more =
    next (params_walk sole s) (params_step sole) (params_go sole s) ps i x ((fs, n), u) ((gs, m), w) below is so_far
    (then_ok (param_of_list sole x u) (f, w) (param_counted fs n) _ made
    (then_ok (more_bytes w.unit.types n f) m (λ k. Ok ((fs ++ f ∷ [], k), w)) _ bytes (ap (λ (ys : List FormalTy). Ok ((ys, m), w)) (sym more))))

pub params_refused : (sole : Bool) (s u : ScopeTy) (ps : List Param) (i : ℕ) (x : Param) (fs : List FormalTy) (n : ℕ) (e : Refusal) → i < length ps → x ≡ get_or ps i x → params_walk sole s (take i ps) ≡ Ok ((fs, n), u) → Fails e (param_of_list sole x u) → Fails e (params_walk sole s ps)
params_refused sole s u ps i x fs n e below is so_far h =
    refused (params_walk sole s) (params_step sole) (params_go sole s) e ps i x ((fs, n), u) below is so_far (fails_bind e (param_of_list sole x u) (param_counted fs n) h)

pub params_many : (sole : Bool) (s u w : ScopeTy) (ps : List Param) (i : ℕ) (x : Param) (fs : List FormalTy) (n : ℕ) (f : FormalTy) (e : Refusal) → i < length ps → x ≡ get_or ps i x → params_walk sole s (take i ps) ≡ Ok ((fs, n), u) → param_of_list sole x u ≡ Ok (f, w) → Fails e (more_bytes w.unit.types n f) → Fails e (params_walk sole s ps)
params_many sole s u w ps i x fs n f e below is so_far made h =
    refused (params_walk sole s) (params_step sole) (params_go sole s) e ps i x ((fs, n), u) below is so_far
    (then_fails e (param_of_list sole x u) (f, w) (param_counted fs n) made (fails_bind e (more_bytes w.unit.types n f) (λ k. Ok ((fs ++ f ∷ [], k), w)) h))
