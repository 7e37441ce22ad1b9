-- The typed tree of an expression is well typed, and each part of a declaration keeps the scope.
use Rattle.std.proofs.Common.{◌≡◌, ℕ, Bool, false, Option, Some, None, Ok, refl, subst, List, [], ℤ, pos}
use Rattle.std.specs.Prelude.{◌&&◌, not}
use Rattle.c65_base.specs.declared.names.Name.{Name}
use Rattle.c65_base.specs.declared.refusal.Pos.{Pos}
use Rattle.c65_tree.specs.declared.expr.Storage.{Storage}
use Rattle.c65_tree.specs.Trees as t
use Rattle.c65_ctype.specs.Trees.{QTy, FieldTy}
use Rattle.c65_csem.specs.Trees.{Typed, Nodes}
use Rattle.c65_elab_scope.specs.Scopes.{ScopeTy}
use Rattle.c65_elab_declare.specs.Declarators as d
use Rattle.c65_elab_declare.specs.Declarators.{PartTy, FormalTy, FormalsTy}
use Rattle.c65_elab_declare.specs.Drafts as drafts
use Rattle.c65_elab_declare.specs.Drafts.{DraftTy}
use Rattle.c65_elab_declare.specs.Tagging.{is_signed}
use Rattle.c65_elab_convert.specs.Access as access
use Rattle.c65_elab_convert.specs.Binaries.{binary_of}
use Rattle.c65_elab_convert.specs.Changes.{step_of}
use Rattle.c65_elab_convert.specs.Logic.{both_of, either_of}
use Rattle.c65_elab.specs.Naming.{named}
use Rattle.c65_elab.specs.Operators.{on_place, assigning}
use Rattle.c65_elab.specs.Typing.{is_one, is_single, word_in, typed, typed_list, value_in, type_named, specified, drafted, specifier_in, tagged_in, enum_in, enumerators_in, fields_in, members_in, member_in, parts_in, formals_in, prototype_in}
use Rattle.c65_elab_law.specs.Numbers.{IsRanged, AreRanged, IsRangedMaybe, IsRangedType, AreRangedSpecifiers, AreRangedWords, IsRangedSpecifier, AreRangedMembers, AreRangedFields, AreRangedList, AreRangedEnumerators, AreRangedValues, IsRangedDeclarator, IsRangedOptional, AreRangedParams, AreRangedPrototype}
use Rattle.c65_elab_law.specs.Scoped.{IsScope, Keeps, IsAnswer}
use Rattle.c65_elab_law.proofs.OperatorLaws.{ok_is, binary_typed}
use Rattle.c65_elab_law.proofs.UnaryLaws.{both_typed, either_typed}
use Rattle.c65_elab_law.proofs.ChangeLaws.{step_typed}
use Rattle.c65_elab_law.proofs.AccessLaws.{index_typed, member_typed}
use Rattle.c65_elab_law.proofs.ScopeLaws.{keeps_self}
use Rattle.c65_elab_law.proofs.NamingLaws.{named_typed, literal_keeps, on_place_typed, assigning_typed}
use Rattle.c65_elab_law.proofs.AnswerLaws.{beside_keeps, ended, one_keeps, two_keeps, AreAnswers, given_keeps}
use Rattle.c65_elab_law.proofs.StepLaws.{call_keeps, size_expr_keeps, size_type_keeps, cast_keeps, conditional_keeps, comma_keeps, list_keeps, value_keeps, named_keeps, words_keep, word_keeps, typedef_keeps, tag_keeps, members_keep, enum_keeps, enumerators_keep, enumerator_keeps, field_keeps, member_keeps, shape_keeps, pointer_keeps, array_keeps, function_keeps, formals_keep, prototype_keeps}

mutual
  pub typed_keeps : (e : t.ExprTree) → IsRanged e → (s : ScopeTy) (x : Typed × ScopeTy) → IsScope s → typed e s ≡ Ok x → IsAnswer s x
  typed_keeps (t.name p m) w s x g h = ended s s (named s m p) x (keeps_self s g) (λ e k. named_typed s m p e g k) h
  typed_keeps (t.number p k m) w s x g h = subst (IsAnswer s) (ok_is _ _ h) (record { typed = (k, refl, w); kept = keeps_self s g })
  typed_keeps (t.text p bytes) w s x g h = literal_keeps s bytes x g h
  typed_keeps (t.paren p e) w s x g h = typed_keeps e w s x g h
  typed_keeps (t.index p a b) w s x g h = two_keeps s (typed a s) (λ u. typed b u) (λ u i j. access.index_of u.unit.types p i j) x (λ y k. typed_keeps a w.0 s y g k) (λ u z v k. typed_keeps b w.1 u z v k) (λ u i j e v wi wj k. index_typed u.unit p i j e wi wj k) h
  typed_keeps (t.call p f es) w s x g h = call_keeps p f es (typed_keeps f w.0) (typed_list_keeps es w.1) s x g h
  typed_keeps (t.member p e arrow m) w s x g h = one_keeps s (typed e s) (λ u i. access.member_of_name u.unit.types p arrow i m) x (λ y k. typed_keeps e w s y g k) (λ u i r v wi k. member_typed u.unit p arrow i r m wi k) h
  typed_keeps (t.step p how e) w s x g h = one_keeps s (typed e s) (λ u i. step_of u.unit.types p how i) x (λ y k. typed_keeps e w s y g k) (λ u i r v wi k. step_typed u.unit p how i r wi k) h
  typed_keeps (t.unary p op e) w s x g h = one_keeps s (typed e s) (λ u i. on_place u p op i) x (λ y k. typed_keeps e w s y g k) (λ u i r v wi k. on_place_typed u p op i r wi k) h
  typed_keeps (t.sizeof_expr p e) w s x g h = size_expr_keeps p e (typed_keeps e w) s x g h
  typed_keeps (t.sizeof_type p m) w s x g h = size_type_keeps p m (type_named_keeps m w) s x g h
  typed_keeps (t.cast p m e) w s x g h = cast_keeps p m e (type_named_keeps m w.0) (typed_keeps e w.1) s x g h
  typed_keeps (t.binary p op a b) w s x g h = two_keeps s (typed a s) (λ u. typed b u) (λ u i j. binary_of u.unit.types p op i j) x (λ y k. typed_keeps a w.0 s y g k) (λ u z v k. typed_keeps b w.1 u z v k) (λ u i j e v wi wj k. binary_typed u.unit p op i j e wi wj k) h
  typed_keeps (t.and_also p a b) w s x g h = two_keeps s (typed a s) (λ u. typed b u) (λ u i j. both_of p i j) x (λ y k. typed_keeps a w.0 s y g k) (λ u z v k. typed_keeps b w.1 u z v k) (λ u i j e v wi wj k. both_typed u.unit p i j e wi wj k) h
  typed_keeps (t.or_else p a b) w s x g h = two_keeps s (typed a s) (λ u. typed b u) (λ u i j. either_of p i j) x (λ y k. typed_keeps a w.0 s y g k) (λ u z v k. typed_keeps b w.1 u z v k) (λ u i j e v wi wj k. either_typed u.unit p i j e wi wj k) h
  typed_keeps (t.conditional p c a b) w s x g h = conditional_keeps p c a b (typed_keeps c w.0) (typed_keeps a w.1) (typed_keeps b w.2) s x g h
  typed_keeps (t.assign p op a b) w s x g h = two_keeps s (typed a s) (λ u. typed b u) (λ u i j. assigning u.unit.types p op i j) x (λ y k. typed_keeps a w.0 s y g k) (λ u z v k. typed_keeps b w.1 u z v k) (λ u i j e v wi wj k. assigning_typed u.unit p op i j e wi wj k) h
  typed_keeps (t.comma p a b) w s x g h = comma_keeps p a b (typed_keeps a w.0) (typed_keeps b w.1) s x g h

  pub typed_list_keeps : (es : t.ExprList) → AreRanged es → (s : ScopeTy) (x : Nodes × ScopeTy) → IsScope s → typed_list es s ≡ Ok x → AreAnswers s x
  typed_list_keeps t.no_exprs w s x g h = subst (AreAnswers s) (ok_is _ _ h) (record { typed = tt; kept = keeps_self s g })
  typed_list_keeps (t.and_expr es e) w s x g h = list_keeps es e (typed_list_keeps es w.0) (typed_keeps e w.1) s x g h

  pub value_in_keeps : (v : t.MaybeExpr) → IsRangedMaybe v → (s : ScopeTy) (x : Option ℤ × ScopeTy) → IsScope s → value_in v s ≡ Ok x → Keeps s x.1
  value_in_keeps t.no_expr w s x g h = given_keeps s s None x (keeps_self s g) h
  value_in_keeps (t.an_expr e) w s x g h = value_keeps e (typed_keeps e w) s x g h

  pub type_named_keeps : (m : t.TypeTree) → IsRangedType m → (s : ScopeTy) (x : QTy × ScopeTy) → IsScope s → type_named m s ≡ Ok x → Keeps s x.1
  type_named_keeps (t.type_name q k) w s x g h = named_keeps q k (specified_keeps q w.0 false) (parts_in_keeps k w.1 false) s x g h

  pub specified_keeps : (q : t.SpecifiersTree) → AreRangedSpecifiers q → (alone : Bool) (s : ScopeTy) (x : (Option Storage × QTy) × ScopeTy) → IsScope s → specified q alone s ≡ Ok x → Keeps s x.1
  specified_keeps (t.specifiers p qs) w alone s x g h = words_keep p qs alone (drafted_keeps qs w (alone && is_one qs)) s x g h

  drafted_keeps : (qs : t.SpecifierList) → AreRangedWords qs → (sole : Bool) (s : ScopeTy) (x : DraftTy × ScopeTy) → IsScope s → drafted qs sole s ≡ Ok x → Keeps s x.1
  drafted_keeps t.no_specifiers w sole s x g h = given_keeps s s drafts.no_draft x (keeps_self s g) h
  drafted_keeps (t.and_specifier qs q) w sole s x g h = word_keeps qs q sole (drafted_keeps qs w.0 sole) (λ z. specifier_in_keeps q w.1 z sole) s x g h

  specifier_in_keeps : (q : t.SpecifierTree) → IsRangedSpecifier q → (z : DraftTy) (sole : Bool) (s : ScopeTy) (x : DraftTy × ScopeTy) → IsScope s → specifier_in q z sole s ≡ Ok x → Keeps s x.1
  specifier_in_keeps (t.storage p c) w z sole s x g h = beside_keeps s s (drafts.storage_in z c p) x (keeps_self s g) h
  specifier_in_keeps (t.word p k) w z sole s x g h = beside_keeps s s (word_in z k p) x (keeps_self s g) h
  specifier_in_keeps (t.typedef_name p m) w z sole s x g h = typedef_keeps p m z sole s x g h
  specifier_in_keeps (t.tagged p is_union m ms) w z sole s x g h = tagged_in_keeps ms w p is_union m z sole s x g h
  specifier_in_keeps (t.enum p m es) w z sole s x g h = enum_in_keeps es w p m z s x g h

  tagged_in_keeps : (ms : t.MaybeMembers) → AreRangedMembers ms → (p : Pos) (is_union : Bool) (m : Option Name) (z : DraftTy) (sole : Bool) (s : ScopeTy) (x : DraftTy × ScopeTy) → IsScope s → tagged_in ms p is_union m z sole s ≡ Ok x → Keeps s x.1
  tagged_in_keeps t.no_members w p is_union m z sole s x g h = tag_keeps p is_union m z sole s x g h
  tagged_in_keeps (t.the_members ms) w p is_union m z sole s x g h = members_keep ms p is_union m z sole (fields_in_keeps ms w) s x g h

  enum_in_keeps : (es : t.MaybeEnumerators) → AreRangedEnumerators es → (p : Pos) (m : Option Name) (z : DraftTy) (s : ScopeTy) (x : DraftTy × ScopeTy) → IsScope s → enum_in es p m z s ≡ Ok x → Keeps s x.1
  enum_in_keeps t.no_enumerators w p m z s x g h = enum_keeps p m z s x g h
  enum_in_keeps (t.the_enumerators es) w p m z s x g h = enumerators_keep es p m z (enumerators_in_keeps es w) s x g h

  enumerators_in_keeps : (es : t.EnumeratorList) → AreRangedValues es → (s : ScopeTy) (x : ℤ × ScopeTy) → IsScope s → enumerators_in es s ≡ Ok x → Keeps s x.1
  enumerators_in_keeps t.no_more_enumerators w s x g h = given_keeps s s (pos 0) x (keeps_self s g) h
  enumerators_in_keeps (t.and_enumerator es p m v) w s x g h = enumerator_keeps es p m v (enumerators_in_keeps es w.0) (value_in_keeps v w.1) s x g h

  fields_in_keeps : (ds : t.MemberDeclList) → AreRangedFields ds → (s : ScopeTy) (x : List FieldTy × ScopeTy) → IsScope s → fields_in ds s ≡ Ok x → Keeps s x.1
  fields_in_keeps t.no_member_decls w s x g h = given_keeps s s [] x (keeps_self s g) h
  fields_in_keeps (t.and_member_decl ds q ms) w s x g h = field_keeps ds q ms (fields_in_keeps ds w.0) (specified_keeps q w.1 false) (λ fs base. members_in_keeps ms w.2 fs base (is_signed q)) s x g h

  members_in_keeps : (ms : t.MemberList) → AreRangedList ms → (fs : List FieldTy) (base : QTy) (signed : Bool) (s : ScopeTy) (x : List FieldTy × ScopeTy) → IsScope s → members_in ms fs base signed s ≡ Ok x → Keeps s x.1
  members_in_keeps t.no_more_members w fs base signed s x g h = given_keeps s s fs x (keeps_self s g) h
  members_in_keeps (t.and_member ms p k v) w fs base signed s x g h = member_keeps ms p k v fs base signed (members_in_keeps ms w.0 fs base signed) (member_in_keeps k w.1 base) (value_in_keeps v w.2) s x g h

  pub member_in_keeps : (k : t.MaybeDeclarator) → IsRangedOptional k → (base : QTy) (s : ScopeTy) (x : (Option Name × QTy) × ScopeTy) → IsScope s → member_in k base s ≡ Ok x → Keeps s x.1
  member_in_keeps t.no_declarator w base s x g h = given_keeps s s (None, base) x (keeps_self s g) h
  member_in_keeps (t.a_declarator k) w base s x g h = shape_keeps k base (parts_in_keeps k w false) s x g h

  pub parts_in_keeps : (k : t.DeclaratorTree) → IsRangedDeclarator k → (defines : Bool) (s : ScopeTy) (x : (Option Name × List PartTy) × ScopeTy) → IsScope s → parts_in k defines s ≡ Ok x → Keeps s x.1
  parts_in_keeps (t.nameless p) w defines s x g h = given_keeps s s (None, []) x (keeps_self s g) h
  parts_in_keeps (t.named p m) w defines s x g h = given_keeps s s (Some m, []) x (keeps_self s g) h
  parts_in_keeps (t.grouped p k) w defines s x g h = parts_in_keeps k w defines s x g h
  parts_in_keeps (t.calling p cdecl k) w defines s x g h = parts_in_keeps k w defines s x g h
  parts_in_keeps (t.pointer p c v k) w defines s x g h = pointer_keeps p c v k defines (parts_in_keeps k w defines) s x g h
  parts_in_keeps (t.array p k e) w defines s x g h = array_keeps p k e defines (parts_in_keeps k w.0 defines) (value_in_keeps e w.1) s x g h
  parts_in_keeps (t.function p k ps) w defines s x g h = function_keeps p k ps defines (parts_in_keeps k w.0 defines) (formals_in_keeps ps w.1) s x g h

  formals_in_keeps : (ps : t.ParamsTree) → AreRangedParams ps → (stay : Bool) (s : ScopeTy) (x : FormalsTy × ScopeTy) → IsScope s → formals_in ps stay s ≡ Ok x → Keeps s x.1
  formals_in_keeps t.no_params w stay s x g h = given_keeps s s d.nothing x (keeps_self s g) h
  formals_in_keeps (t.param_names ms) w stay s x g h = given_keeps s s (d.names ms) x (keeps_self s g) h
  formals_in_keeps (t.param_types ps variadic) w stay s x g h = formals_keep ps variadic stay (prototype_in_keeps ps w (is_single ps && not variadic)) s x g h

  prototype_in_keeps : (ps : t.ParamList) → AreRangedPrototype ps → (sole : Bool) (s : ScopeTy) (x : (List FormalTy × ℕ) × ScopeTy) → IsScope s → prototype_in ps sole s ≡ Ok x → Keeps s x.1
  prototype_in_keeps t.no_more_params w sole s x g h = given_keeps s s ([], 0) x (keeps_self s g) h
  prototype_in_keeps (t.and_param ps q k) w sole s x g h = prototype_keeps ps q k sole (prototype_in_keeps ps w.0 sole) (specified_keeps q w.1 false) (parts_in_keeps k w.2 false) s x g h
