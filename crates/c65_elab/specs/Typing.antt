-- The types and typed trees of syntax trees (C90 6.3 to 6.5): one equation for each construct. Its parts
-- are gone through in the order of the source, each in the scope that the parts before it left, and then
-- the construct itself; the first fault of this walk is the answer.
use Rattle.std.specs.Prelude.{ℕ, ℤ, pos, ◌+◌, List, [], ◌∷◌, ◌++◌, length, Bool, true, false, not, ◌&&◌, ◌==◌, Option, Some, None, is_some, unwrap_or, ◌+ℤ◌, Result, Ok, Err}
use Rattle.c65_base.specs.declared.names.Name.{Name}
use Rattle.c65_base.specs.declared.refusal.Pos.{Pos}
use Rattle.c65_base.specs.declared.code.Code.TheVariants.{Float}
use Rattle.c65_base.specs.Answers.{Fault, at, ◌>>=◌}
use Rattle.c65_ints.specs.declared.types.IntType.TheVariants as ints
use Rattle.c65_tree.specs.declared.expr.Storage.{Storage}
use Rattle.c65_tree.specs.Trees as t
use Rattle.c65_ctype.specs.Trees as y
use Rattle.c65_ctype.specs.Trees.{QTy, FieldTy, type_in}
use Rattle.c65_csem.specs.Places.{plain}
use Rattle.c65_csem.specs.Trees as n
use Rattle.c65_csem.specs.Trees.{Typed, Nodes}
use Rattle.c65_elab_scope.specs.Scopes.{ScopeTy, opened, closed, char_of}
use Rattle.c65_elab_scope.specs.Parts.{fewer_objects}
use Rattle.c65_elab_scope.specs.Declaring.{enumerator_declared, tag_finished}
use Rattle.c65_elab_declare.specs.Calling.{name_place}
use Rattle.c65_elab_declare.specs.Constants.{array_count, enumerator_value, field_in}
use Rattle.c65_elab_declare.specs.Declarators as d
use Rattle.c65_elab_declare.specs.Declarators.{PartTy, FormalTy, FormalsTy}
use Rattle.c65_elab_declare.specs.Drafts as w
use Rattle.c65_elab_declare.specs.Drafts.{DraftTy}
use Rattle.c65_elab_declare.specs.Prototypes.{param_storage, formal_in, more_bytes, without_void}
use Rattle.c65_elab_declare.specs.Shapes.{shaped}
use Rattle.c65_elab_declare.specs.Tagging.{named_tag, begun_tag, named_enumeration, begun_enumeration, is_signed}
use Rattle.c65_elab_declare.specs.declared.words.Keyword.TheVariants as keywords
use Rattle.c65_elab_convert.specs.Access as access
use Rattle.c65_elab_convert.specs.Binaries.{binary_of}
use Rattle.c65_elab_convert.specs.Calls.{call_of}
use Rattle.c65_elab_convert.specs.Casts.{cast_of}
use Rattle.c65_elab_convert.specs.Changes.{step_of}
use Rattle.c65_elab_convert.specs.Choices.{choice_of}
use Rattle.c65_elab_convert.specs.Logic.{both_of, either_of, comma_of}
use Rattle.c65_elab.specs.Constants.{value_at}
use Rattle.c65_elab.specs.Naming.{named, called_first, typedef_type, literal_typed}
use Rattle.c65_elab.specs.Operators.{on_place, assigning, spilled}
use Rattle.c65_elab.specs.Places.{place_of, firsts_of}

-- an answer, and the scope behind it
abbrev pub beside : {A : Type 0} → ScopeTy → Result A Fault → Result (A × ScopeTy) Fault
beside s r = r >>= (λ a. Ok (a, s))

-- one more argument
abbrev pub and_node : Nodes → Typed → Nodes
and_node n.none e = n.some e n.none
and_node (n.some x xs) e = n.some x (and_node xs e)

abbrev pub is_one : t.SpecifierList → Bool
is_one t.no_specifiers = false
is_one (t.and_specifier t.no_specifiers q) = true
is_one (t.and_specifier _ q) = false

abbrev pub is_single : t.ParamList → Bool
is_single t.no_more_params = false
is_single (t.and_param t.no_more_params q d) = true
is_single (t.and_param _ q d) = false

-- a specifier that is one keyword (C90 6.5.2, 6.5.3)
abbrev pub word_in : DraftTy → t.Word → Pos → Result DraftTy Fault
word_in x t.const p = w.const_in x p
word_in x t.volatile p = w.volatile_in x p
word_in x t.void p = w.keyword_in x keywords.Void p
word_in x t.char p = w.keyword_in x keywords.Char p
word_in x t.short p = w.keyword_in x keywords.Short p
word_in x t.int p = w.keyword_in x keywords.Int p
word_in x t.long p = w.keyword_in x keywords.Long p
word_in x t.float p = Err (at Float p)
word_in x t.double p = Err (at Float p)
word_in x t.signed p = w.sign_in x true p
word_in x t.unsigned p = w.sign_in x false p

abbrev pub counted : Option ℤ → Pos → Result (Option ℕ) Fault
counted None p = Ok None
counted (Some z) p = array_count z p >>= (λ m. Ok (Some m))

abbrev pub with_part : Option Name × List PartTy → PartTy → Option Name × List PartTy
with_part x part = (x.0, x.1 ++ part ∷ [])

-- the end of a prototype's block, unless it stays open
abbrev pub left : Bool → ScopeTy → ℕ → ScopeTy
left true s objects = s
left false s objects = fewer_objects (closed s) objects

abbrev mutual
  -- C90 6.3
  pub typed : t.ExprTree → ScopeTy → Result (Typed × ScopeTy) Fault
  typed (t.name p m) s = beside s (named s m p)
  typed (t.number p k m) s = Ok (n.node (plain (y.int k)) (n.constant (pos m)), s)
  typed (t.text p bytes) s = literal_typed s bytes
  typed (t.paren p e) s = typed e s
  typed (t.index p a b) s = do
    x ← typed a s
    z ← typed b x.1
    beside z.1 (access.index_of z.1.unit.types p x.0 z.0)
  typed (t.call p f es) s = do
    u ← called_first f s
    x ← typed f u
    zs ← typed_list es x.1
    y ← call_of zs.1.unit.types p (firsts_of es) x.0 zs.0
    spilled zs.1 y
  typed (t.member p e arrow m) s = do
    x ← typed e s
    beside x.1 (access.member_of_name x.1.unit.types p arrow x.0 m)
  typed (t.step p how e) s = do
    x ← typed e s
    beside x.1 (step_of x.1.unit.types p how x.0)
  typed (t.unary p op e) s = do
    x ← typed e s
    beside x.1 (on_place x.1 p op x.0)
  -- the operand is not evaluated, so what its calls give needs no object
  typed (t.sizeof_expr p e) s = do
    x ← typed e s
    beside (fewer_objects x.1 (length s.unit.objects)) (access.size_of_expr x.1.unit.types p x.0)
  typed (t.sizeof_type p m) s = do
    x ← type_named m s
    beside x.1 (access.size_of_type x.1.unit.types p (type_in x.0))
  typed (t.cast p m e) s = do
    x ← type_named m s
    z ← typed e x.1
    beside z.1 (cast_of z.1.unit.types p x.0 z.0)
  typed (t.binary p op a b) s = do
    x ← typed a s
    z ← typed b x.1
    beside z.1 (binary_of z.1.unit.types p op x.0 z.0)
  typed (t.and_also p a b) s = do
    x ← typed a s
    z ← typed b x.1
    beside z.1 (both_of p x.0 z.0)
  typed (t.or_else p a b) s = do
    x ← typed a s
    z ← typed b x.1
    beside z.1 (either_of p x.0 z.0)
  typed (t.conditional p c a b) s = do
    x ← typed c s
    z ← typed a x.1
    v ← typed b z.1
    beside v.1 (choice_of v.1.unit.types p x.0 z.0 v.0)
  typed (t.assign p op a b) s = do
    x ← typed a s
    z ← typed b x.1
    beside z.1 (assigning z.1.unit.types p op x.0 z.0)
  typed (t.comma p a b) s = do
    x ← typed a s
    z ← typed b x.1
    Ok (comma_of x.0 z.0, z.1)

  pub typed_list : t.ExprList → ScopeTy → Result (Nodes × ScopeTy) Fault
  typed_list t.no_exprs s = Ok (n.none, s)
  typed_list (t.and_expr es e) s = do
    xs ← typed_list es s
    x ← typed e xs.1
    Ok (and_node xs.0 x.0, x.1)

  -- C90 6.4
  pub value_in : t.MaybeExpr → ScopeTy → Result (Option ℤ × ScopeTy) Fault
  value_in t.no_expr s = Ok (None, s)
  value_in (t.an_expr e) s = do
    x ← typed e s
    z ← value_at x.0 (place_of e)
    Ok (Some z, x.1)

  -- C90 6.5.5
  pub type_named : t.TypeTree → ScopeTy → Result (QTy × ScopeTy) Fault
  type_named (t.type_name q d) s = do
    b ← specified q false s
    x ← parts_in d false b.1
    beside x.1 (shaped x.1.unit.types b.0.1 d x.0.1)

  -- C90 6.5.1 to 6.5.3
  pub specified : t.SpecifiersTree → Bool → ScopeTy → Result ((Option Storage × QTy) × ScopeTy) Fault
  specified (t.specifiers p qs) alone s = do
    x ← drafted qs (alone && is_one qs) s
    beside x.1 (w.draft_finished x.0 (char_of x.1.signed_chars) alone p)

  pub drafted : t.SpecifierList → Bool → ScopeTy → Result (DraftTy × ScopeTy) Fault
  drafted t.no_specifiers sole s = Ok (w.no_draft, s)
  drafted (t.and_specifier qs q) sole s = do
    x ← drafted qs sole s
    specifier_in q x.0 sole x.1

  pub specifier_in : t.SpecifierTree → DraftTy → Bool → ScopeTy → Result (DraftTy × ScopeTy) Fault
  specifier_in (t.storage p c) x sole s = beside s (w.storage_in x c p)
  specifier_in (t.word p k) x sole s = beside s (word_in x k p)
  specifier_in (t.typedef_name p m) x sole s = do
    u ← typedef_type s m p
    beside s (w.type_in_draft x u false p)
  specifier_in (t.tagged p is_union m ms) x sole s = tagged_in ms p is_union m x sole s
  specifier_in (t.enum p m es) x sole s = enum_in es p m x s

  -- C90 6.5.2.1, 6.5.2.3
  pub tagged_in : t.MaybeMembers → Pos → Bool → Option Name → DraftTy → Bool → ScopeTy → Result (DraftTy × ScopeTy) Fault
  tagged_in t.no_members p is_union m x sole s = do
    u ← named_tag s is_union m sole p
    beside u.1 (w.type_in_draft x (plain (y.tag u.0)) (is_some m) p)
  tagged_in (t.the_members ms) p is_union m x sole s = do
    u ← begun_tag s is_union m p
    fs ← fields_in ms u.1
    v ← tag_finished fs.1 u.0 fs.0 p
    beside v (w.type_in_draft x (plain (y.tag u.0)) (is_some m) p)

  -- C90 6.5.2.2
  pub enum_in : t.MaybeEnumerators → Pos → Option Name → DraftTy → ScopeTy → Result (DraftTy × ScopeTy) Fault
  enum_in t.no_enumerators p m x s = do
    u ← named_enumeration s m p
    beside s (w.type_in_draft x u true p)
  enum_in (t.the_enumerators es) p m x s = do
    u ← begun_enumeration s m p
    v ← enumerators_in es u
    beside v.1 (w.type_in_draft x (plain (y.int ints.Int)) true p)

  -- the value that the next enumerator has, where it is given none
  pub enumerators_in : t.EnumeratorList → ScopeTy → Result (ℤ × ScopeTy) Fault
  enumerators_in t.no_more_enumerators s = Ok (pos 0, s)
  enumerators_in (t.and_enumerator es p m v) s = do
    x ← enumerators_in es s
    u ← value_in v x.1
    z ← enumerator_value (unwrap_or u.0 x.0) p
    k ← enumerator_declared u.1 m z p
    Ok (z +ℤ pos 1, k)

  pub fields_in : t.MemberDeclList → ScopeTy → Result (List FieldTy × ScopeTy) Fault
  fields_in t.no_member_decls s = Ok ([], s)
  fields_in (t.and_member_decl ds q ms) s = do
    xs ← fields_in ds s
    b ← specified q false xs.1
    members_in ms xs.0 b.0.1 (is_signed q) b.1

  pub members_in : t.MemberList → List FieldTy → QTy → Bool → ScopeTy → Result (List FieldTy × ScopeTy) Fault
  members_in t.no_more_members fs base signed s = Ok (fs, s)
  members_in (t.and_member ms p k v) fs base signed s = do
    xs ← members_in ms fs base signed s
    x ← member_in k base xs.1
    z ← value_in v x.1
    f ← field_in x.0.0 x.0.1 signed z.0 p
    Ok (xs.0 ++ f ∷ [], z.1)

  pub member_in : t.MaybeDeclarator → QTy → ScopeTy → Result ((Option Name × QTy) × ScopeTy) Fault
  member_in t.no_declarator base s = Ok ((None, base), s)
  member_in (t.a_declarator k) base s = do
    x ← parts_in k false s
    u ← shaped x.1.unit.types base k x.0.1
    Ok ((x.0.0, u), x.1)

  -- C90 6.5.4: the name, and the parts from the name outward; the flag is that of a function definition,
  -- where the block of the parameters next to the name stays open
  pub parts_in : t.DeclaratorTree → Bool → ScopeTy → Result ((Option Name × List PartTy) × ScopeTy) Fault
  parts_in (t.nameless p) defines s = Ok ((None, []), s)
  parts_in (t.named p m) defines s = Ok ((Some m, []), s)
  parts_in (t.grouped p k) defines s = parts_in k defines s
  parts_in (t.calling p cdecl k) defines s = parts_in k defines s
  parts_in (t.pointer p c v k) defines s = do
    x ← parts_in k defines s
    Ok (with_part x.0 (d.pointing c v), x.1)
  parts_in (t.array p k e) defines s = do
    x ← parts_in k defines s
    v ← value_in e x.1
    m ← counted v.0 p
    Ok (with_part x.0 (d.counting m p), v.1)
  parts_in (t.function p k ps) defines s = do
    x ← parts_in k defines s
    f ← formals_in ps (defines && (length x.0.1 == 0)) x.1
    Ok (with_part x.0 (d.calling f.0 p), f.1)

  -- C90 6.5.4.3: the names of a prototype's parameters are of a block of their own
  pub formals_in : t.ParamsTree → Bool → ScopeTy → Result (FormalsTy × ScopeTy) Fault
  formals_in t.no_params stays s = Ok (d.nothing, s)
  formals_in (t.param_names ms) stays s = Ok (d.names ms, s)
  formals_in (t.param_types ps variadic) stays s = do
    u ← opened false s
    x ← prototype_in ps (is_single ps && not variadic) u
    Ok (d.prototype (without_void x.0.0) variadic, left stays x.1 (length s.unit.objects))

  -- the parameters, and their bytes
  pub prototype_in : t.ParamList → Bool → ScopeTy → Result ((List FormalTy × ℕ) × ScopeTy) Fault
  prototype_in t.no_more_params sole s = Ok (([], 0), s)
  prototype_in (t.and_param ps q k) sole s = do
    xs ← prototype_in ps sole s
    b ← specified q false xs.1
    r ← param_storage b.0.0 q
    x ← parts_in k false b.1
    u ← shaped x.1.unit.types b.0.1 k x.0.1
    f ← formal_in x.1 x.0.0 u r sole (name_place k)
    m ← more_bytes f.1.unit.types xs.0.1 f.0
    Ok ((xs.0.0 ++ f.0 ∷ [], m), f.1)

-- one enumerator; one declaration of members behind others; one member; one parameter
abbrev pub enumerator_in : t.MaybeExpr → Pos → Name → ℤ → ScopeTy → Result (ℤ × ScopeTy) Fault
enumerator_in v p m next s = do
  u ← value_in v s
  z ← enumerator_value (unwrap_or u.0 next) p
  k ← enumerator_declared u.1 m z p
  Ok (z +ℤ pos 1, k)

abbrev pub fields_with : t.MemberList → t.SpecifiersTree → List FieldTy → ScopeTy → Result (List FieldTy × ScopeTy) Fault
fields_with ms q fs s = do
  b ← specified q false s
  members_in ms fs b.0.1 (is_signed q) b.1

abbrev pub a_member_in : t.MaybeDeclarator → t.MaybeExpr → Pos → QTy → Bool → ScopeTy → Result (FieldTy × ScopeTy) Fault
a_member_in k v p base signed s = do
  x ← member_in k base s
  z ← value_in v x.1
  beside z.1 (field_in x.0.0 x.0.1 signed z.0 p)

abbrev pub parameter_in : t.SpecifiersTree → t.DeclaratorTree → Bool → ScopeTy → Result (FormalTy × ScopeTy) Fault
parameter_in q k sole s = do
  b ← specified q false s
  r ← param_storage b.0.0 q
  x ← parts_in k false b.1
  u ← shaped x.1.unit.types b.0.1 k x.0.1
  formal_in x.1 x.0.0 u r sole (name_place k)
