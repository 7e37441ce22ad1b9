-- Each construct of a declaration keeps the scope where its parts do.
use Rattle.std.proofs.Common.{◌≡◌, ℕ, Bool, true, false, Option, Some, None, Ok, refl, subst, List, [], ◌∷◌, ◌++◌, length, pos}
use Rattle.std.specs.Prelude.{Result, ◌==◌, ◌&&◌, not, is_some, unwrap_or, ◌+ℤ◌}
use Rattle.c65_base.specs.declared.names.Name.{Name}
use Rattle.c65_base.specs.declared.refusal.Pos.{Pos}
use Rattle.c65_base.specs.Answers.{Fault, ◌>>=◌}
use Rattle.c65_ints.specs.declared.types.IntType.TheVariants as ints
use Rattle.c65_tree.specs.declared.expr.Storage.{Storage}
use Rattle.c65_tree.specs.Trees as t
use Rattle.c65_ctype.specs.Trees as types
use Rattle.c65_ctype.specs.Trees.{Ty, QTy, FieldTy, type_in}
use Rattle.c65_csem.specs.declared.items.Class.TheVariants as c
use Rattle.c65_csem.specs.Places.{is_small, is_tag, plain}
use Rattle.c65_csem.specs.Trees as n
use Rattle.c65_csem.specs.Trees.{Typed, node, Nodes, type_of}
use Rattle.c65_csem.specs.Typed.{IsSmall, IsSpot}
use Rattle.c65_elab_scope.specs.Scopes.{ScopeTy, opened, char_of}
use Rattle.c65_elab_scope.specs.Parts.{with_objects, new_object, spill_added, without_spills, fewer_objects}
use Rattle.c65_elab_scope.specs.Declaring.{enumerator_declared, tag_finished}
use Rattle.c65_elab_declare.specs.Calling.{name_place}
use Rattle.c65_elab_declare.specs.Constants.{enumerator_value, field_in}
use Rattle.c65_elab_declare.specs.Declarators as d
use Rattle.c65_elab_declare.specs.Declarators.{PartTy, FormalTy, FormalsTy}
use Rattle.c65_elab_declare.specs.Drafts as drafts
use Rattle.c65_elab_declare.specs.Drafts.{DraftTy}
use Rattle.c65_elab_declare.specs.Prototypes.{param_storage, formal_in, more_bytes, without_void}
use Rattle.c65_elab_declare.specs.Shapes.{shaped}
use Rattle.c65_elab_declare.specs.Tagging.{named_tag, begun_tag, named_enumeration, begun_enumeration, is_signed}
use Rattle.c65_elab_convert.specs.Access as access
use Rattle.c65_elab_convert.specs.Calls.{call_of}
use Rattle.c65_elab_convert.specs.Casts.{cast_of}
use Rattle.c65_elab_convert.specs.Choices.{choice_of}
use Rattle.c65_elab_convert.specs.Logic.{comma_of}
use Rattle.c65_elab.specs.Constants.{value_at}
use Rattle.c65_elab.specs.Naming.{called_first, typedef_type}
use Rattle.c65_elab.specs.Operators.{spilled}
use Rattle.c65_elab.specs.Places.{place_of, firsts_of}
use Rattle.c65_elab.specs.Typing.{beside, and_node, is_one, is_single, counted, with_part, left, typed, typed_list, value_in, type_named, specified, drafted, specifier_in, tagged_in, enum_in, enumerators_in, fields_in, members_in, member_in, parts_in, formals_in, prototype_in}
use Rattle.c65_elab_law.specs.Scoped.{has_elements, IsScope, Keeps, IsAnswer}
use Rattle.c65_elab_law.specs.WellTyped.{IsCallTree}
use Rattle.c65_elab_law.proofs.GrowthLaws.{stays, expressions_stay, small_tag, small_laid, called_small, called_stays}
use Rattle.c65_elab_law.proofs.OperatorLaws.{bind_ok, ok_is}
use Rattle.c65_elab_law.proofs.UnaryLaws.{cast_typed, comma_typed}
use Rattle.c65_elab_law.proofs.ChoiceLaws.{choice_typed}
use Rattle.c65_elab_law.proofs.SizeLaws.{size_typed, size_expr_typed}
use Rattle.c65_elab_law.proofs.CallLaws.{call_typed}
use Rattle.c65_elab_law.proofs.ScopeLaws.{keeps_self, keeps_on, renamed, object_added_keeps, fewer_keeps}
use Rattle.c65_elab_law.proofs.DeclaringLaws.{enumerator_declared_keeps}
use Rattle.c65_elab_law.proofs.TagLaws.{tag_finished_keeps}
use Rattle.c65_elab_law.proofs.TaggingLaws.{named_tag_keeps, begun_tag_keeps, begun_enumeration_keeps, enumerator_in_range, formal_in_keeps}
use Rattle.c65_elab_law.proofs.NamingLaws.{get_last, called_first_keeps}
use Rattle.c65_elab_law.proofs.AnswerLaws.{beside_keeps, ended, AreAnswers, one_more_typed, left_keeps, chain, keeps_then, given_keeps, Part}

-- ---- expressions

-- what a call gives has an object of its own
pub spill_keeps : (s : ScopeTy) (q : QTy) (x : ℕ × ScopeTy) → IsScope s → IsSmall s.unit q → spill_added s q ≡ Ok x → Keeps s x.1 × IsSpot x.1.unit x.0 q
spill_keeps s q x g w h =
    let u = with_objects s (s.unit.objects ++ new_object None q c.Auto ∷ []) in
    let v : ScopeTy = record u { spills = s.spills ++ length s.unit.objects ∷ [] } in
    let k = small_tag s.unit.types (type_in q) w.0 in
    let l = small_laid s.unit.types k.0 (subst (λ (y : Ty). is_small s.unit.types y ≡ true) k.1 w.0) in
    let placed : has_elements s.unit.types (type_in q) ≡ true = rw k.1 (rw l.1 refl) in
    let first = object_added_keeps s None q c.Auto g placed in
    let second = keeps_on s u v first (renamed u v refl first.scope first.scope.names) in
    let spot : IsSpot v.unit (length s.unit.objects) q = record { object = new_object None q c.Auto; there = get_last s.unit.objects (new_object None q c.Auto); unnamed = refl; class = refl; same = refl } in
    subst (λ (y : ℕ × ScopeTy). Keeps s y.1 × IsSpot y.1.unit y.0 q) (ok_is _ _ h) (second, spot)

spilled_keeps : (s u : ScopeTy) (y : Typed) (x : Typed × ScopeTy) → Keeps s u → IsCallTree u.unit y → spilled u y ≡ Ok x → IsAnswer s x
spilled_keeps s u y x g (IsCallTree.usual k w) h = subst (IsAnswer s) (ok_is _ _ (rw k at h)) (record { typed = w; kept = g })
spilled_keeps s u y x g (IsCallTree.whole w) h =
    let small = called_small u.unit (type_of y) y w in
    let k = small_tag u.unit.types (type_in (type_of y)) small.0 in
    let is : is_tag (type_in (type_of y)) ≡ true = rw k.1 refl in
    let (z, hz, r) = bind_ok (spill_added u (type_of y)) (λ z. Ok (node (type_of y) (n.spill z.0 y), z.1)) x (rw is at h) in
    let a = spill_keeps u (type_of y) z g.scope small hz in
    subst (IsAnswer s) (ok_is _ _ r) (record { typed = (called_stays u.unit z.1.unit a.0.grown (type_of y) y w, a.1); kept = keeps_on s u z.1 g a.0 })

pub call_keeps : (p : Pos) (f : t.ExprTree) (es : t.ExprList) → ((s : ScopeTy) (x : Typed × ScopeTy) → IsScope s → typed f s ≡ Ok x → IsAnswer s x) → ((s : ScopeTy) (x : Nodes × ScopeTy) → IsScope s → typed_list es s ≡ Ok x → AreAnswers s x) → (s : ScopeTy) (x : Typed × ScopeTy) → IsScope s → typed (t.call p f es) s ≡ Ok x → IsAnswer s x
call_keeps p f es first others s x g h =
    chain (called_first f s) (λ u. typed f u >>= λ y. typed_list es y.1 >>= λ zs. call_of zs.1.unit.types p (firsts_of es) y.0 zs.0 >>= λ e. spilled zs.1 e) x (IsAnswer s x) (λ u hu h1.
    chain (typed f u) (λ y. typed_list es y.1 >>= λ zs. call_of zs.1.unit.types p (firsts_of es) y.0 zs.0 >>= λ e. spilled zs.1 e) x (IsAnswer s x) (λ y hy h2.
    chain (typed_list es y.1) (λ zs. call_of zs.1.unit.types p (firsts_of es) y.0 zs.0 >>= λ e. spilled zs.1 e) x (IsAnswer s x) (λ zs hz h3. last u (called_first_keeps f s u g hu) y (first u y (called_first_keeps f s u g hu).scope hy) zs (others y.1 zs (first u y (called_first_keeps f s u g hu).scope hy).kept.scope hz) h3) h2) h1) h
  where
    last : (u : ScopeTy) → Keeps s u → (y : Typed × ScopeTy) → IsAnswer u y → (zs : Nodes × ScopeTy) → AreAnswers y.1 zs → (call_of zs.1.unit.types p (firsts_of es) y.0 zs.0 >>= λ e. spilled zs.1 e) ≡ Ok x → IsAnswer s x
    last u k y a zs b r = chain (call_of zs.1.unit.types p (firsts_of es) y.0 zs.0) (λ e. spilled zs.1 e) x (IsAnswer s x) (λ e he h4. spilled_keeps s zs.1 e x (keeps_on s y.1 zs.1 (keeps_on s u y.1 k a.kept) b.kept) (call_typed zs.1.unit p (firsts_of es) y.0 e zs.0 (stays y.1.unit zs.1.unit b.kept.grown y.0 a.typed) b.typed he) h4) r

-- the objects that the operand of a size made are forgotten
pub size_expr_keeps : (p : Pos) (e : t.ExprTree) → ((s : ScopeTy) (x : Typed × ScopeTy) → IsScope s → typed e s ≡ Ok x → IsAnswer s x) → (s : ScopeTy) (x : Typed × ScopeTy) → IsScope s → typed (t.sizeof_expr p e) s ≡ Ok x → IsAnswer s x
size_expr_keeps p e part s x g h =
    chain (typed e s) (λ y. beside (fewer_objects y.1 (length s.unit.objects)) (access.size_of_expr y.1.unit.types p y.0)) x (IsAnswer s x) (λ y hy h1. last y (fewer_keeps s y.1 (part s y g hy).kept) h1) h
  where
    last : (y : Typed × ScopeTy) → Keeps s (fewer_objects y.1 (length s.unit.objects)) → beside (fewer_objects y.1 (length s.unit.objects)) (access.size_of_expr y.1.unit.types p y.0) ≡ Ok x → IsAnswer s x
    last y k r = ended s (fewer_objects y.1 (length s.unit.objects)) (access.size_of_expr y.1.unit.types p y.0) x k (λ q i. size_expr_typed (fewer_objects y.1 (length s.unit.objects)).unit p y.0 q k.scope.types i) r

pub size_type_keeps : (p : Pos) (m : t.TypeTree) → Part (type_named m) → (s : ScopeTy) (x : Typed × ScopeTy) → IsScope s → typed (t.sizeof_type p m) s ≡ Ok x → IsAnswer s x
size_type_keeps p m part s x g h =
    chain (type_named m s) (λ y. beside y.1 (access.size_of_type y.1.unit.types p (type_in y.0))) x (IsAnswer s x) (λ y hy h1. last y (part s y g hy) h1) h
  where
    last : (y : QTy × ScopeTy) → Keeps s y.1 → beside y.1 (access.size_of_type y.1.unit.types p (type_in y.0)) ≡ Ok x → IsAnswer s x
    last y k r = ended s y.1 (access.size_of_type y.1.unit.types p (type_in y.0)) x k (λ e i. size_typed y.1.unit p (type_in y.0) e k.scope.types i) r

pub cast_keeps : (p : Pos) (m : t.TypeTree) (e : t.ExprTree) → Part (type_named m) → ((s : ScopeTy) (x : Typed × ScopeTy) → IsScope s → typed e s ≡ Ok x → IsAnswer s x) → (s : ScopeTy) (x : Typed × ScopeTy) → IsScope s → typed (t.cast p m e) s ≡ Ok x → IsAnswer s x
cast_keeps p m e part inner s x g h =
    chain (type_named m s) (λ y. typed e y.1 >>= λ z. beside z.1 (cast_of z.1.unit.types p y.0 z.0)) x (IsAnswer s x) (λ y hy h1.
    chain (typed e y.1) (λ z. beside z.1 (cast_of z.1.unit.types p y.0 z.0)) x (IsAnswer s x) (λ z hz h2. last y (part s y g hy) z (inner y.1 z (part s y g hy).scope hz) h2) h1) h
  where
    last : (y : QTy × ScopeTy) → Keeps s y.1 → (z : Typed × ScopeTy) → IsAnswer y.1 z → beside z.1 (cast_of z.1.unit.types p y.0 z.0) ≡ Ok x → IsAnswer s x
    last y k z a r = ended s z.1 (cast_of z.1.unit.types p y.0 z.0) x (keeps_on s y.1 z.1 k a.kept) (λ q i. cast_typed z.1.unit p y.0 z.0 q a.typed i) r

pub conditional_keeps : (p : Pos) (c a b : t.ExprTree) → ((s : ScopeTy) (x : Typed × ScopeTy) → IsScope s → typed c s ≡ Ok x → IsAnswer s x) → ((s : ScopeTy) (x : Typed × ScopeTy) → IsScope s → typed a s ≡ Ok x → IsAnswer s x) → ((s : ScopeTy) (x : Typed × ScopeTy) → IsScope s → typed b s ≡ Ok x → IsAnswer s x) → (s : ScopeTy) (x : Typed × ScopeTy) → IsScope s → typed (t.conditional p c a b) s ≡ Ok x → IsAnswer s x
conditional_keeps p c a b first second third s x g h =
    chain (typed c s) (λ y. typed a y.1 >>= λ z. typed b z.1 >>= λ v. beside v.1 (choice_of v.1.unit.types p y.0 z.0 v.0)) x (IsAnswer s x) (λ y hy h1. behind y (first s y g hy) h1) h
  where
    last : (y z v : Typed × ScopeTy) → IsAnswer s y → IsAnswer y.1 z → IsAnswer z.1 v → beside v.1 (choice_of v.1.unit.types p y.0 z.0 v.0) ≡ Ok x → IsAnswer s x
    last y z v i j k r = ended s v.1 (choice_of v.1.unit.types p y.0 z.0 v.0) x (keeps_on s z.1 v.1 (keeps_on s y.1 z.1 i.kept j.kept) k.kept) (λ e q. choice_typed v.1.unit p y.0 z.0 v.0 e (stays z.1.unit v.1.unit k.kept.grown y.0 (stays y.1.unit z.1.unit j.kept.grown y.0 i.typed)) (stays z.1.unit v.1.unit k.kept.grown z.0 j.typed) k.typed q) r

    after : (y z : Typed × ScopeTy) → IsAnswer s y → IsAnswer y.1 z → (typed b z.1 >>= λ v. beside v.1 (choice_of v.1.unit.types p y.0 z.0 v.0)) ≡ Ok x → IsAnswer s x
    after y z i j r = chain (typed b z.1) (λ v. beside v.1 (choice_of v.1.unit.types p y.0 z.0 v.0)) x (IsAnswer s x) (λ v hv h3. last y z v i j (third z.1 v j.kept.scope hv) h3) r

    behind : (y : Typed × ScopeTy) → IsAnswer s y → (typed a y.1 >>= λ z. typed b z.1 >>= λ v. beside v.1 (choice_of v.1.unit.types p y.0 z.0 v.0)) ≡ Ok x → IsAnswer s x
    behind y i r = chain (typed a y.1) (λ z. typed b z.1 >>= λ v. beside v.1 (choice_of v.1.unit.types p y.0 z.0 v.0)) x (IsAnswer s x) (λ z hz h2. after y z i (second y.1 z i.kept.scope hz) h2) r

pub comma_keeps : (p : Pos) (a b : t.ExprTree) → ((s : ScopeTy) (x : Typed × ScopeTy) → IsScope s → typed a s ≡ Ok x → IsAnswer s x) → ((s : ScopeTy) (x : Typed × ScopeTy) → IsScope s → typed b s ≡ Ok x → IsAnswer s x) → (s : ScopeTy) (x : Typed × ScopeTy) → IsScope s → typed (t.comma p a b) s ≡ Ok x → IsAnswer s x
comma_keeps p a b first second s x g h =
    chain (typed a s) (λ y. typed b y.1 >>= λ z. Ok (comma_of y.0 z.0, z.1)) x (IsAnswer s x) (λ y hy h1.
    chain (typed b y.1) (λ z. Ok (comma_of y.0 z.0, z.1)) x (IsAnswer s x) (λ z hz h2. last y z (first s y g hy) (second y.1 z (first s y g hy).kept.scope hz) h2) h1) h
  where
    last : (y z : Typed × ScopeTy) → IsAnswer s y → IsAnswer y.1 z → ◌≡◌ {A = Result (Typed × ScopeTy) Fault} (Ok (comma_of y.0 z.0, z.1)) (Ok x) → IsAnswer s x
    last y z i j r = subst (IsAnswer s) (ok_is _ _ r) (record { typed = comma_typed z.1.unit y.0 z.0 (stays y.1.unit z.1.unit j.kept.grown y.0 i.typed) j.typed; kept = keeps_on s y.1 z.1 i.kept j.kept })

pub list_keeps : (es : t.ExprList) (e : t.ExprTree) → ((s : ScopeTy) (x : Nodes × ScopeTy) → IsScope s → typed_list es s ≡ Ok x → AreAnswers s x) → ((s : ScopeTy) (x : Typed × ScopeTy) → IsScope s → typed e s ≡ Ok x → IsAnswer s x) → (s : ScopeTy) (x : Nodes × ScopeTy) → IsScope s → typed_list (t.and_expr es e) s ≡ Ok x → AreAnswers s x
list_keeps es e first second s x g h =
    chain (typed_list es s) (λ ys. typed e ys.1 >>= λ z. Ok (and_node ys.0 z.0, z.1)) x (AreAnswers s x) (λ ys hy h1.
    chain (typed e ys.1) (λ z. Ok (and_node ys.0 z.0, z.1)) x (AreAnswers s x) (λ z hz h2. last ys z (first s ys g hy) (second ys.1 z (first s ys g hy).kept.scope hz) h2) h1) h
  where
    last : (ys : Nodes × ScopeTy) (z : Typed × ScopeTy) → AreAnswers s ys → IsAnswer ys.1 z → ◌≡◌ {A = Result (Nodes × ScopeTy) Fault} (Ok (and_node ys.0 z.0, z.1)) (Ok x) → AreAnswers s x
    last ys z i j r = subst (AreAnswers s) (ok_is _ _ r) (record { typed = one_more_typed z.1.unit ys.0 z.0 (expressions_stay ys.1.unit z.1.unit j.kept.grown ys.0 i.typed) j.typed; kept = keeps_on s ys.1 z.1 i.kept j.kept })

pub value_keeps : (e : t.ExprTree) → ((s : ScopeTy) (x : Typed × ScopeTy) → IsScope s → typed e s ≡ Ok x → IsAnswer s x) → Part (value_in (t.an_expr e))
value_keeps e part s x g h =
    chain (typed e s) (λ y. value_at y.0 (place_of e) >>= λ z. Ok (Some z, y.1)) x (Keeps s x.1) (λ y hy h1.
    chain (value_at y.0 (place_of e)) (λ z. Ok (Some z, y.1)) x (Keeps s x.1) (λ z hz h2. given_keeps s y.1 (Some z) x (part s y g hy).kept h2) h1) h

-- ---- types and specifiers

pub named_keeps : (q : t.SpecifiersTree) (k : t.DeclaratorTree) → Part (specified q false) → Part (parts_in k false) → Part (type_named (t.type_name q k))
named_keeps q k first second s x g h =
    chain (specified q false s) (λ b. parts_in k false b.1 >>= λ y. beside y.1 (shaped y.1.unit.types b.0.1 k y.0.1)) x (Keeps s x.1) (λ b hb h1.
    chain (parts_in k false b.1) (λ y. beside y.1 (shaped y.1.unit.types b.0.1 k y.0.1)) x (Keeps s x.1) (λ y hy h2.
    beside_keeps s y.1 (shaped y.1.unit.types b.0.1 k y.0.1) x (keeps_then s b.1 y.1 (first s b g hb) (λ g1. second b.1 y g1 hy)) h2) h1) h

pub words_keep : (p : Pos) (qs : t.SpecifierList) (alone : Bool) → Part (drafted qs (alone && is_one qs)) → Part (specified (t.specifiers p qs) alone)
words_keep p qs alone part s x g h =
    chain (drafted qs (alone && is_one qs) s) (λ y. beside y.1 (drafts.draft_finished y.0 (char_of y.1.signed_chars) alone p)) x (Keeps s x.1) (λ y hy h1.
    beside_keeps s y.1 (drafts.draft_finished y.0 (char_of y.1.signed_chars) alone p) x (part s y g hy) h1) h

pub word_keeps : (qs : t.SpecifierList) (q : t.SpecifierTree) (sole : Bool) → Part (drafted qs sole) → ((z : DraftTy) → Part (specifier_in q z sole)) → Part (drafted (t.and_specifier qs q) sole)
word_keeps qs q sole first second s x g h =
    chain (drafted qs sole s) (λ y. specifier_in q y.0 sole y.1) x (Keeps s x.1) (λ y hy h1.
    keeps_then s y.1 x.1 (first s y g hy) (λ g1. second y.0 y.1 x g1 h1)) h

pub typedef_keeps : (p : Pos) (m : Name) (z : DraftTy) (sole : Bool) → Part (specifier_in (t.typedef_name p m) z sole)
typedef_keeps p m z sole s x g h =
    chain (typedef_type s m p) (λ u. beside s (drafts.type_in_draft z u false p)) x (Keeps s x.1) (λ u hu h1.
    beside_keeps s s (drafts.type_in_draft z u false p) x (keeps_self s g) h1) h

pub tag_keeps : (p : Pos) (is_union : Bool) (m : Option Name) (z : DraftTy) (sole : Bool) → Part (tagged_in t.no_members p is_union m z sole)
tag_keeps p is_union m z sole s x g h =
    chain (named_tag s is_union m sole p) (λ u. beside u.1 (drafts.type_in_draft z (plain (types.tag u.0)) (is_some m) p)) x (Keeps s x.1) (λ u hu h1.
    beside_keeps s u.1 (drafts.type_in_draft z (plain (types.tag u.0)) (is_some m) p) x (named_tag_keeps s is_union m sole p u g hu) h1) h

pub members_keep : (ms : t.MemberDeclList) (p : Pos) (is_union : Bool) (m : Option Name) (z : DraftTy) (sole : Bool) → Part (fields_in ms) → Part (tagged_in (t.the_members ms) p is_union m z sole)
members_keep ms p is_union m z sole part s x g h =
    chain (begun_tag s is_union m p) (λ u. fields_in ms u.1 >>= λ fs. tag_finished fs.1 u.0 fs.0 p >>= λ v. beside v (drafts.type_in_draft z (plain (types.tag u.0)) (is_some m) p)) x (Keeps s x.1) (λ u hu h1.
    chain (fields_in ms u.1) (λ fs. tag_finished fs.1 u.0 fs.0 p >>= λ v. beside v (drafts.type_in_draft z (plain (types.tag u.0)) (is_some m) p)) x (Keeps s x.1) (λ fs hf h2.
    chain (tag_finished fs.1 u.0 fs.0 p) (λ v. beside v (drafts.type_in_draft z (plain (types.tag u.0)) (is_some m) p)) x (Keeps s x.1) (λ v hv h3.
    beside_keeps s v (drafts.type_in_draft z (plain (types.tag u.0)) (is_some m) p) x (keeps_then s u.1 v (begun_tag_keeps s is_union m p u g hu) (λ g1. keeps_then u.1 fs.1 v (part u.1 fs g1 hf) (λ g2. tag_finished_keeps fs.1 u.0 fs.0 p v g2 hv))) h3) h2) h1) h

pub enum_keeps : (p : Pos) (m : Option Name) (z : DraftTy) → Part (enum_in t.no_enumerators p m z)
enum_keeps p m z s x g h =
    chain (named_enumeration s m p) (λ u. beside s (drafts.type_in_draft z u true p)) x (Keeps s x.1) (λ u hu h1.
    beside_keeps s s (drafts.type_in_draft z u true p) x (keeps_self s g) h1) h

pub enumerators_keep : (es : t.EnumeratorList) (p : Pos) (m : Option Name) (z : DraftTy) → Part (enumerators_in es) → Part (enum_in (t.the_enumerators es) p m z)
enumerators_keep es p m z part s x g h =
    chain (begun_enumeration s m p) (λ u. enumerators_in es u >>= λ v. beside v.1 (drafts.type_in_draft z (plain (types.int ints.Int)) true p)) x (Keeps s x.1) (λ u hu h1.
    chain (enumerators_in es u) (λ v. beside v.1 (drafts.type_in_draft z (plain (types.int ints.Int)) true p)) x (Keeps s x.1) (λ v hv h2.
    beside_keeps s v.1 (drafts.type_in_draft z (plain (types.int ints.Int)) true p) x (keeps_then s u v.1 (begun_enumeration_keeps s m p u g hu) (λ g1. part u v g1 hv)) h2) h1) h

pub enumerator_keeps : (es : t.EnumeratorList) (p : Pos) (m : Name) (v : t.MaybeExpr) → Part (enumerators_in es) → Part (value_in v) → Part (enumerators_in (t.and_enumerator es p m v))
enumerator_keeps es p m v first second s x g h =
    chain (enumerators_in es s) (λ y. value_in v y.1 >>= λ u. enumerator_value (unwrap_or u.0 y.0) p >>= λ z. enumerator_declared u.1 m z p >>= λ k. Ok (z +ℤ pos 1, k)) x (Keeps s x.1) (λ y hy h1.
    chain (value_in v y.1) (λ u. enumerator_value (unwrap_or u.0 y.0) p >>= λ z. enumerator_declared u.1 m z p >>= λ k. Ok (z +ℤ pos 1, k)) x (Keeps s x.1) (λ u hu h2.
    chain (enumerator_value (unwrap_or u.0 y.0) p) (λ z. enumerator_declared u.1 m z p >>= λ k. Ok (z +ℤ pos 1, k)) x (Keeps s x.1) (λ z hz h3.
    chain (enumerator_declared u.1 m z p) (λ k. Ok (z +ℤ pos 1, k)) x (Keeps s x.1) (λ k hk h4.
    given_keeps s k (z +ℤ pos 1) x (keeps_then s y.1 k (first s y g hy) (λ g1. keeps_then y.1 u.1 k (second y.1 u g1 hu) (λ g2. enumerator_declared_keeps u.1 m z p k g2 (enumerator_in_range (unwrap_or u.0 y.0) p z hz) hk))) h4) h3) h2) h1) h

pub field_keeps : (ds : t.MemberDeclList) (q : t.SpecifiersTree) (ms : t.MemberList) → Part (fields_in ds) → Part (specified q false) → ((fs : List FieldTy) (base : QTy) → Part (members_in ms fs base (is_signed q))) → Part (fields_in (t.and_member_decl ds q ms))
field_keeps ds q ms first second third s x g h =
    chain (fields_in ds s) (λ y. specified q false y.1 >>= λ b. members_in ms y.0 b.0.1 (is_signed q) b.1) x (Keeps s x.1) (λ y hy h1.
    chain (specified q false y.1) (λ b. members_in ms y.0 b.0.1 (is_signed q) b.1) x (Keeps s x.1) (λ b hb h2.
    keeps_then s y.1 x.1 (first s y g hy) (λ g1. keeps_then y.1 b.1 x.1 (second y.1 b g1 hb) (λ g2. third y.0 b.0.1 b.1 x g2 h2))) h1) h

pub member_keeps : (ms : t.MemberList) (p : Pos) (k : t.MaybeDeclarator) (v : t.MaybeExpr) (fs : List FieldTy) (base : QTy) (signed : Bool) → Part (members_in ms fs base signed) → Part (member_in k base) → Part (value_in v) → Part (members_in (t.and_member ms p k v) fs base signed)
member_keeps ms p k v fs base signed first second third s x g h =
    chain (members_in ms fs base signed s) (λ a. member_in k base a.1 >>= λ y. value_in v y.1 >>= λ z. field_in y.0.0 y.0.1 signed z.0 p >>= λ f. Ok (a.0 ++ f ∷ [], z.1)) x (Keeps s x.1) (λ a ha h1.
    chain (member_in k base a.1) (λ y. value_in v y.1 >>= λ z. field_in y.0.0 y.0.1 signed z.0 p >>= λ f. Ok (a.0 ++ f ∷ [], z.1)) x (Keeps s x.1) (λ y hy h2.
    chain (value_in v y.1) (λ z. field_in y.0.0 y.0.1 signed z.0 p >>= λ f. Ok (a.0 ++ f ∷ [], z.1)) x (Keeps s x.1) (λ z hz h3.
    chain (field_in y.0.0 y.0.1 signed z.0 p) (λ f. Ok (a.0 ++ f ∷ [], z.1)) x (Keeps s x.1) (λ f hf h4.
    given_keeps s z.1 (a.0 ++ f ∷ []) x (keeps_then s a.1 z.1 (first s a g ha) (λ g1. keeps_then a.1 y.1 z.1 (second a.1 y g1 hy) (λ g2. third y.1 z g2 hz))) h4) h3) h2) h1) h

pub shape_keeps : (k : t.DeclaratorTree) (base : QTy) → Part (parts_in k false) → Part (member_in (t.a_declarator k) base)
shape_keeps k base part s x g h =
    chain (parts_in k false s) (λ y. shaped y.1.unit.types base k y.0.1 >>= λ u. Ok ((y.0.0, u), y.1)) x (Keeps s x.1) (λ y hy h1.
    chain (shaped y.1.unit.types base k y.0.1) (λ u. Ok ((y.0.0, u), y.1)) x (Keeps s x.1) (λ u hu h2.
    given_keeps s y.1 (y.0.0, u) x (part s y g hy) h2) h1) h

-- ---- declarators

pub pointer_keeps : (p : Pos) (c v : Bool) (k : t.DeclaratorTree) (defines : Bool) → Part (parts_in k defines) → Part (parts_in (t.pointer p c v k) defines)
pointer_keeps p c v k defines part s x g h =
    chain (parts_in k defines s) (λ y. Ok (with_part y.0 (d.pointing c v), y.1)) x (Keeps s x.1) (λ y hy h1.
    given_keeps s y.1 (with_part y.0 (d.pointing c v)) x (part s y g hy) h1) h

pub array_keeps : (p : Pos) (k : t.DeclaratorTree) (e : t.MaybeExpr) (defines : Bool) → Part (parts_in k defines) → Part (value_in e) → Part (parts_in (t.array p k e) defines)
array_keeps p k e defines first second s x g h =
    chain (parts_in k defines s) (λ y. value_in e y.1 >>= λ v. counted v.0 p >>= λ m. Ok (with_part y.0 (d.counting m p), v.1)) x (Keeps s x.1) (λ y hy h1.
    chain (value_in e y.1) (λ v. counted v.0 p >>= λ m. Ok (with_part y.0 (d.counting m p), v.1)) x (Keeps s x.1) (λ v hv h2.
    chain (counted v.0 p) (λ m. Ok (with_part y.0 (d.counting m p), v.1)) x (Keeps s x.1) (λ m hm h3.
    given_keeps s v.1 (with_part y.0 (d.counting m p)) x (keeps_then s y.1 v.1 (first s y g hy) (λ g1. second y.1 v g1 hv)) h3) h2) h1) h

pub function_keeps : (p : Pos) (k : t.DeclaratorTree) (ps : t.ParamsTree) (defines : Bool) → Part (parts_in k defines) → ((stay : Bool) → Part (formals_in ps stay)) → Part (parts_in (t.function p k ps) defines)
function_keeps p k ps defines first second s x g h =
    chain (parts_in k defines s) (λ y. formals_in ps (defines && (length y.0.1 == 0)) y.1 >>= λ f. Ok (with_part y.0 (d.calling f.0 p), f.1)) x (Keeps s x.1) (λ y hy h1.
    chain (formals_in ps (defines && (length y.0.1 == 0)) y.1) (λ f. Ok (with_part y.0 (d.calling f.0 p), f.1)) x (Keeps s x.1) (λ f hf h2.
    given_keeps s f.1 (with_part y.0 (d.calling f.0 p)) x (keeps_then s y.1 f.1 (first s y g hy) (λ g1. second (defines && (length y.0.1 == 0)) y.1 f g1 hf)) h2) h1) h

-- a block begins
pub opened_keeps : (variadic : Bool) (s u : ScopeTy) → IsScope s → opened variadic s ≡ Ok u → Keeps s u
opened_keeps variadic s u g h = subst (Keeps s) (ok_is _ _ h) (renamed s _ refl g g.names)

-- a function begins
pub function_begins : (s : ScopeTy) → IsScope s → Keeps s (without_spills s)
function_begins s g = renamed s (without_spills s) refl g g.names

pub formals_keep : (ps : t.ParamList) (variadic stay : Bool) → Part (prototype_in ps (is_single ps && not variadic)) → Part (formals_in (t.param_types ps variadic) stay)
formals_keep ps variadic stay part s x g h =
    chain (opened false s) (λ u. prototype_in ps (is_single ps && not variadic) u >>= λ y. Ok (d.prototype (without_void y.0.0) variadic, left stay y.1 (length s.unit.objects))) x (Keeps s x.1) (λ u hu h1.
    chain (prototype_in ps (is_single ps && not variadic) u) (λ y. Ok (d.prototype (without_void y.0.0) variadic, left stay y.1 (length s.unit.objects))) x (Keeps s x.1) (λ y hy h2.
    given_keeps s (left stay y.1 (length s.unit.objects)) (d.prototype (without_void y.0.0) variadic) x (left_keeps stay s y.1 (keeps_then s u y.1 (opened_keeps false s u g hu) (λ g1. part u y g1 hy))) h2) h1) h

-- one parameter behind its specifiers
abbrev param_behind : (List FormalTy × ℕ) → Option Storage × QTy → t.SpecifiersTree → t.DeclaratorTree → Bool → ScopeTy → Result ((List FormalTy × ℕ) × ScopeTy) Fault
param_behind a b q k sole s = param_storage b.0 q >>= λ r. parts_in k false s >>= λ y. shaped y.1.unit.types b.1 k y.0.1 >>= λ u. formal_in y.1 y.0.0 u r sole (name_place k) >>= λ f. more_bytes f.1.unit.types a.1 f.0 >>= λ m. Ok ((a.0 ++ f.0 ∷ [], m), f.1)

param_keeps : (a : List FormalTy × ℕ) (b : Option Storage × QTy) (q : t.SpecifiersTree) (k : t.DeclaratorTree) (sole : Bool) → Part (parts_in k false) → Part (param_behind a b q k sole)
param_keeps a b q k sole part s x g h =
    chain (param_storage b.0 q) (λ r. parts_in k false s >>= λ y. shaped y.1.unit.types b.1 k y.0.1 >>= λ u. formal_in y.1 y.0.0 u r sole (name_place k) >>= λ f. more_bytes f.1.unit.types a.1 f.0 >>= λ m. Ok ((a.0 ++ f.0 ∷ [], m), f.1)) x (Keeps s x.1) (λ r hr h3.
    chain (parts_in k false s) (λ y. shaped y.1.unit.types b.1 k y.0.1 >>= λ u. formal_in y.1 y.0.0 u r sole (name_place k) >>= λ f. more_bytes f.1.unit.types a.1 f.0 >>= λ m. Ok ((a.0 ++ f.0 ∷ [], m), f.1)) x (Keeps s x.1) (λ y hy h4.
    chain (shaped y.1.unit.types b.1 k y.0.1) (λ u. formal_in y.1 y.0.0 u r sole (name_place k) >>= λ f. more_bytes f.1.unit.types a.1 f.0 >>= λ m. Ok ((a.0 ++ f.0 ∷ [], m), f.1)) x (Keeps s x.1) (λ u hu h5.
    chain (formal_in y.1 y.0.0 u r sole (name_place k)) (λ f. more_bytes f.1.unit.types a.1 f.0 >>= λ m. Ok ((a.0 ++ f.0 ∷ [], m), f.1)) x (Keeps s x.1) (λ f hf h6.
    chain (more_bytes f.1.unit.types a.1 f.0) (λ m. Ok ((a.0 ++ f.0 ∷ [], m), f.1)) x (Keeps s x.1) (λ m hm h7.
    given_keeps s f.1 (a.0 ++ f.0 ∷ [], m) x (keeps_then s y.1 f.1 (part s y g hy) (λ g1. formal_in_keeps y.1 y.0.0 u r sole (name_place k) f g1 hf)) h7) h6) h5) h4) h3) h

pub prototype_keeps : (ps : t.ParamList) (q : t.SpecifiersTree) (k : t.DeclaratorTree) (sole : Bool) → Part (prototype_in ps sole) → Part (specified q false) → Part (parts_in k false) → Part (prototype_in (t.and_param ps q k) sole)
prototype_keeps ps q k sole first second third s x g h =
    chain (prototype_in ps sole s) (λ a. specified q false a.1 >>= λ b. param_behind a.0 b.0 q k sole b.1) x (Keeps s x.1) (λ a ha h1.
    chain (specified q false a.1) (λ b. param_behind a.0 b.0 q k sole b.1) x (Keeps s x.1) (λ b hb h2.
    keeps_then s a.1 x.1 (first s a g ha) (λ g1. keeps_then a.1 b.1 x.1 (second a.1 b g1 hb) (λ g2. param_keeps a.0 b.0 q k sole third b.1 x g2 h2))) h1) h
