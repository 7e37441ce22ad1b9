-- A tree that the grammar derives from tokens has their constants.
use Rattle.std.proofs.Common.{◌≡◌, ◌≤◌, Bool, true, false, subst, List, [], ◌∷◌, ◌++◌}
use Rattle.std.specs.Prelude.{is_some}
use Rattle.c65_base.specs.declared.refusal.Pos.{Pos}
use Rattle.c65_scan.specs.declared.token.Punct.TheVariants as puncts
use Rattle.c65_scan.specs.declared.token.Token.{Token}
use Rattle.c65_tree.specs.Trees as t
use Rattle.c65_parse_grammar.specs.Phrases.{Phrase, nothing, given, mark, some_mark}
use Rattle.c65_parse_grammar.specs.Parts.{level_of_step, level, list_has_type, has_type, declared_name}
use Rattle.c65_parse_grammar.specs.Spellings.{is_before, step_punct}
use Rattle.c65_parse_grammar.specs.Scopes.{Scope, after, after_exprs, after_type, after_specifiers, after_list, after_member_decls, after_member_list, after_enumerator_list, after_declarator, after_maybe_declarator, after_params}
use Rattle.c65_parse_grammar.specs.Expressions.{Sort, param, member, abstract, has_expr, width_mark, in_order, expr, arguments, optional_constant, type_name, specifiers, specifier_list, specifier, members_in_braces, member_decls, members, member_declarator, enumerators_in_braces, enumerators, declarator, params, param_list}
use Rattle.c65_elab_law.specs.Numbers.{AreRangedTokens, IsRanged, AreRanged, IsRangedMaybe, IsRangedType, AreRangedSpecifiers, AreRangedWords, IsRangedSpecifier, AreRangedMembers, AreRangedFields, AreRangedList, AreRangedEnumerators, AreRangedValues, IsRangedDeclarator, IsRangedOptional, AreRangedParams, AreRangedPrototype}

-- the tokens of the first of two parts, and of the second
in_first : (xs ys : List Token) → AreRangedTokens (xs ++ ys) → AreRangedTokens xs
in_first [] ys w = tt
in_first (x ∷ xs) ys w = (w.0, in_first xs ys w.1)

in_second : (xs ys : List Token) → AreRangedTokens (xs ++ ys) → AreRangedTokens ys
in_second [] ys w = w
in_second (x ∷ xs) ys w = in_second xs ys w.1

front : (ts xs ys : List Token) → ts ≡ xs ++ ys → AreRangedTokens ts → AreRangedTokens xs
front ts xs ys h w = in_first xs ys (subst AreRangedTokens h w)

back : (ts xs ys : List Token) → ts ≡ xs ++ ys → AreRangedTokens ts → AreRangedTokens ys
back ts xs ys h w = in_second xs ys (subst AreRangedTokens h w)

-- the operand of a step, on either side
record HasPart (phrase : Phrase) : Type 0 where
  tokens : List Token
  ranged : AreRangedTokens tokens
  is_part : phrase tokens

operand : (before : Bool) (operator part : Phrase) (ts : List Token) → AreRangedTokens ts → in_order before operator part ts → HasPart part
operand true operator part ts w (xs, ys, s, a, b) = record { tokens = ys; ranged = back ts xs ys s w; is_part = b }
operand false operator part ts w (xs, ys, s, a, b) = record { tokens = xs; ranged = front ts xs ys s w; is_part = a }

-- the expression of a constant that may lack
abbrev ConstantPart : Scope → t.MaybeExpr → Type 0
ConstantPart sc t.no_expr = Unit {0}
ConstantPart sc (t.an_expr e) = (ys : List Token) × AreRangedTokens ys × expr sc e ys

constant_part : (sc : Scope) (before : Phrase) (v : t.MaybeExpr) (ts : List Token) → AreRangedTokens ts → optional_constant sc before v ts → ConstantPart sc v
constant_part sc before t.no_expr ts w h = tt
constant_part sc before (t.an_expr e) ts w (xs, ys, s, a, (v, b)) = (ys, back ts xs ys s w, b)

mutual
  pub expr_ranged : (sc : Scope) (e : t.ExprTree) (ts : List Token) → AreRangedTokens ts → expr sc e ts → IsRanged e
  expr_ranged sc (t.name l n) ts w h = tt
  expr_ranged sc (t.number l k n) ts w h = (subst AreRangedTokens h w).0
  expr_ranged sc (t.text l bs) ts w h = tt
  expr_ranged sc (t.paren l e) ts w (xs, ys, s, m, (xs2, ys2, s2, a, c)) = expr_ranged sc e xs2 (front ys xs2 ys2 s2 (back ts xs ys s w)) a
  expr_ranged sc (t.index l a i) ts w (xs, ys, s, (v, ha), (xs2, ys2, s2, m, (xs3, ys3, s3, hi, c))) = (expr_ranged sc a xs (front ts xs ys s w) ha, expr_ranged (after sc a) i xs3 (front ys2 xs3 ys3 s3 (back ys xs2 ys2 s2 (back ts xs ys s w))) hi)
  expr_ranged sc (t.call l f es) ts w (xs, ys, s, (v, ha), (xs2, ys2, s2, m, (xs3, ys3, s3, hi, c))) = (expr_ranged sc f xs (front ts xs ys s w) ha, arguments_ranged (after sc f) es xs3 (front ys2 xs3 ys3 s3 (back ys xs2 ys2 s2 (back ts xs ys s w))) hi)
  expr_ranged sc (t.member l e arrow n) ts w (xs, ys, s, (v, a), b) = expr_ranged sc e xs (front ts xs ys s w) a
  expr_ranged sc (t.step l how e) ts w h =
      let x = operand (is_before how) (mark l (step_punct how)) (given (level_of_step (is_before how) ≤ level e) (expr sc e)) ts w h in
      expr_ranged sc e x.tokens x.ranged x.is_part.1
  expr_ranged sc (t.unary l op e) ts w (xs, ys, s, m, (v, a)) = expr_ranged sc e ys (back ts xs ys s w) a
  expr_ranged sc (t.sizeof_expr l e) ts w (xs, ys, s, m, (v, a)) = expr_ranged sc e ys (back ts xs ys s w) a
  expr_ranged sc (t.sizeof_type l m) ts w (xs, ys, s, a, (xs2, ys2, s2, b, (k, (xs3, ys3, s3, c, d)))) = type_ranged sc k m xs3 (front ys2 xs3 ys3 s3 (back ys xs2 ys2 s2 (back ts xs ys s w))) c
  expr_ranged sc (t.cast l m e) ts w (xs, ys, s, a, (xs2, ys2, s2, (k, (xs3, ys3, s3, c, d)), (v, b))) = (type_ranged sc k m xs3 (front xs2 xs3 ys3 s3 (front ys xs2 ys2 s2 (back ts xs ys s w))) c, expr_ranged (after_type sc m) e ys2 (back ys xs2 ys2 s2 (back ts xs ys s w)) b)
  expr_ranged sc (t.binary l op a b) ts w (xs, ys, s, (u, ha), (xs2, ys2, s2, m, (v, hb))) = (expr_ranged sc a xs (front ts xs ys s w) ha, expr_ranged (after sc a) b ys2 (back ys xs2 ys2 s2 (back ts xs ys s w)) hb)
  expr_ranged sc (t.and_also l a b) ts w (xs, ys, s, (u, ha), (xs2, ys2, s2, m, (v, hb))) = (expr_ranged sc a xs (front ts xs ys s w) ha, expr_ranged (after sc a) b ys2 (back ys xs2 ys2 s2 (back ts xs ys s w)) hb)
  expr_ranged sc (t.or_else l a b) ts w (xs, ys, s, (u, ha), (xs2, ys2, s2, m, (v, hb))) = (expr_ranged sc a xs (front ts xs ys s w) ha, expr_ranged (after sc a) b ys2 (back ys xs2 ys2 s2 (back ts xs ys s w)) hb)
  expr_ranged sc (t.conditional l c a b) ts w (xs, ys, s, (u, hc), (xs2, ys2, s2, m, (xs3, ys3, s3, ha, (xs4, ys4, s4, k, (v, hb))))) = (expr_ranged sc c xs (front ts xs ys s w) hc, expr_ranged (after sc c) a xs3 (front ys2 xs3 ys3 s3 (back ys xs2 ys2 s2 (back ts xs ys s w))) ha, expr_ranged (after (after sc c) a) b ys4 (back ys3 xs4 ys4 s4 (back ys2 xs3 ys3 s3 (back ys xs2 ys2 s2 (back ts xs ys s w)))) hb)
  expr_ranged sc (t.assign l op a b) ts w (xs, ys, s, (u, ha), (xs2, ys2, s2, m, (v, hb))) = (expr_ranged sc a xs (front ts xs ys s w) ha, expr_ranged (after sc a) b ys2 (back ys xs2 ys2 s2 (back ts xs ys s w)) hb)
  expr_ranged sc (t.comma l a b) ts w (xs, ys, s, ha, (xs2, ys2, s2, m, (v, hb))) = (expr_ranged sc a xs (front ts xs ys s w) ha, expr_ranged (after sc a) b ys2 (back ys xs2 ys2 s2 (back ts xs ys s w)) hb)

  arguments_ranged : (sc : Scope) (es : t.ExprList) (ts : List Token) → AreRangedTokens ts → arguments sc es ts → AreRanged es
  arguments_ranged sc t.no_exprs ts w h = tt
  arguments_ranged sc (t.and_expr es e) ts w (xs, ys, s, a, (xs2, ys2, s2, b, (v, c))) = (arguments_ranged sc es xs (front ts xs ys s w) a, expr_ranged (after_exprs sc es) e ys2 (back ys xs2 ys2 s2 (back ts xs ys s w)) c)

  constant_ranged : (sc : Scope) (v : t.MaybeExpr) → ConstantPart sc v → IsRangedMaybe v
  constant_ranged sc t.no_expr h = tt
  constant_ranged sc (t.an_expr e) (ys, w, h) = expr_ranged sc e ys w h

  pub type_ranged : (sc : Scope) (k : Pos) (m : t.TypeTree) (ts : List Token) → AreRangedTokens ts → type_name sc k m ts → IsRangedType m
  type_ranged sc k (t.type_name q d) ts w (xs, ys, s, a, b) = (specifiers_ranged sc false q xs (front ts xs ys s w) a, declarator_ranged abstract (after_specifiers sc q) k d ys (back ts xs ys s w) b)

  pub specifiers_ranged : (sc : Scope) (storage : Bool) (q : t.SpecifiersTree) (ts : List Token) → AreRangedTokens ts → specifiers sc storage q ts → AreRangedSpecifiers q
  specifiers_ranged sc storage (t.specifiers l qs) ts w (v, h) = words_ranged sc storage qs ts w h

  words_ranged : (sc : Scope) (storage : Bool) (qs : t.SpecifierList) (ts : List Token) → AreRangedTokens ts → specifier_list sc storage qs ts → AreRangedWords qs
  words_ranged sc storage t.no_specifiers ts w h = tt
  words_ranged sc storage (t.and_specifier qs q) ts w (xs, ys, s, a, b) = (words_ranged sc storage qs xs (front ts xs ys s w) a, specifier_ranged (after_list sc qs) storage (list_has_type qs) q ys (back ts xs ys s w) b)

  specifier_ranged : (sc : Scope) (storage typed : Bool) (q : t.SpecifierTree) (ts : List Token) → AreRangedTokens ts → specifier sc storage typed q ts → IsRangedSpecifier q
  specifier_ranged sc storage typed (t.storage l c) ts w h = tt
  specifier_ranged sc storage typed (t.word l k) ts w h = tt
  specifier_ranged sc storage typed (t.typedef_name l n) ts w h = tt
  specifier_ranged sc storage typed (t.tagged l union tag ms) ts w (xs, ys, s, a, (xs2, ys2, s2, b, c)) = braces_ranged sc (is_some tag) ms ys2 (back ys xs2 ys2 s2 (back ts xs ys s w)) c
  specifier_ranged sc storage typed (t.enum l tag es) ts w (xs, ys, s, a, (xs2, ys2, s2, b, c)) = enumeration_ranged sc (is_some tag) es ys2 (back ys xs2 ys2 s2 (back ts xs ys s w)) c

  braces_ranged : (sc : Scope) (has_tag : Bool) (ms : t.MaybeMembers) (ts : List Token) → AreRangedTokens ts → members_in_braces sc has_tag ms ts → AreRangedMembers ms
  braces_ranged sc has_tag t.no_members ts w h = tt
  braces_ranged sc has_tag (t.the_members ds) ts w (v, (xs, ys, s, a, (xs2, ys2, s2, b, c))) = fields_ranged sc ds xs2 (front ys xs2 ys2 s2 (back ts xs ys s w)) b

  fields_ranged : (sc : Scope) (ds : t.MemberDeclList) (ts : List Token) → AreRangedTokens ts → member_decls sc ds ts → AreRangedFields ds
  fields_ranged sc t.no_member_decls ts w h = tt
  fields_ranged sc (t.and_member_decl ds q ms) ts w (xs, ys, s, a, (xs2, ys2, s2, b, (xs3, ys3, s3, (v, c), d))) = (fields_ranged sc ds xs (front ts xs ys s w) a, specifiers_ranged (after_member_decls sc ds) false q xs2 (front ys xs2 ys2 s2 (back ts xs ys s w)) b, members_ranged (after_specifiers (after_member_decls sc ds) q) (has_type q) ms xs3 (front ys2 xs3 ys3 s3 (back ys xs2 ys2 s2 (back ts xs ys s w))) c)

  members_ranged : (sc : Scope) (typed : Bool) (ms : t.MemberList) (ts : List Token) → AreRangedTokens ts → members sc typed ms ts → AreRangedList ms
  members_ranged sc typed t.no_more_members ts w h = tt
  members_ranged sc typed (t.and_member ms l d v) ts w (xs, ys, s, a, (xs2, ys2, s2, b, (xs3, ys3, s3, c, e))) = (members_ranged sc typed ms xs (front ts xs ys s w) a, optional_ranged (after_member_list sc ms) typed l (has_expr v) d xs3 (front ys2 xs3 ys3 s3 (back ys xs2 ys2 s2 (back ts xs ys s w))) c, constant_ranged (after_maybe_declarator (after_member_list sc ms) d) v (constant_part (after_maybe_declarator (after_member_list sc ms) d) (width_mark l d) v ys3 (back ys2 xs3 ys3 s3 (back ys xs2 ys2 s2 (back ts xs ys s w))) e))

  optional_ranged : (sc : Scope) (typed : Bool) (l : Pos) (has_width : Bool) (d : t.MaybeDeclarator) (ts : List Token) → AreRangedTokens ts → member_declarator sc typed l has_width d ts → IsRangedOptional d
  optional_ranged sc typed l has_width t.no_declarator ts w h = tt
  optional_ranged sc typed l has_width (t.a_declarator d) ts w (v, h) = declarator_ranged (member typed) sc l d ts w h

  enumeration_ranged : (sc : Scope) (has_tag : Bool) (es : t.MaybeEnumerators) (ts : List Token) → AreRangedTokens ts → enumerators_in_braces sc has_tag es ts → AreRangedEnumerators es
  enumeration_ranged sc has_tag t.no_enumerators ts w h = tt
  enumeration_ranged sc has_tag (t.the_enumerators es) ts w (v, (xs, ys, s, a, (xs2, ys2, s2, b, c))) = values_ranged sc es xs2 (front ys xs2 ys2 s2 (back ts xs ys s w)) b

  values_ranged : (sc : Scope) (es : t.EnumeratorList) (ts : List Token) → AreRangedTokens ts → enumerators sc es ts → AreRangedValues es
  values_ranged sc t.no_more_enumerators ts w h = tt
  values_ranged sc (t.and_enumerator es l n v) ts w (xs, ys, s, a, (xs2, ys2, s2, b, (xs3, ys3, s3, c, d))) = (values_ranged sc es xs (front ts xs ys s w) a, constant_ranged (after_enumerator_list sc es) v (constant_part (after_enumerator_list sc es) (some_mark puncts.Equal) v ys3 (back ys2 xs3 ys3 s3 (back ys xs2 ys2 s2 (back ts xs ys s w))) d))

  pub declarator_ranged : (sort : Sort) (sc : Scope) (m : Pos) (d : t.DeclaratorTree) (ts : List Token) → AreRangedTokens ts → declarator sort sc m d ts → IsRangedDeclarator d
  declarator_ranged sort sc m (t.nameless l) ts w h = tt
  declarator_ranged sort sc m (t.named l n) ts w h = tt
  declarator_ranged sort sc m (t.grouped l d) ts w (v, (xs, ys, s, a, (k, (xs2, ys2, s2, b, c)))) = declarator_ranged sort sc k d xs2 (front ys xs2 ys2 s2 (back ts xs ys s w)) b
  declarator_ranged sort sc m (t.calling l cdecl d) ts w (xs, ys, s, a, b) = declarator_ranged sort sc m d ys (back ts xs ys s w) b
  declarator_ranged sort sc m (t.pointer l c v d) ts w (xs, ys, s, a, (xs2, ys2, s2, b, e)) = declarator_ranged sort sc m d ys2 (back ys xs2 ys2 s2 (back ts xs ys s w)) e
  declarator_ranged sort sc m (t.array l d n) ts w (xs, ys, s, (v, a), (xs2, ys2, s2, b, (xs3, ys3, s3, c, e))) = (declarator_ranged sort sc l d xs (front ts xs ys s w) a, constant_ranged (after_declarator sc d) n (constant_part (after_declarator sc d) nothing n xs3 (front ys2 xs3 ys3 s3 (back ys xs2 ys2 s2 (back ts xs ys s w))) c))
  declarator_ranged sort sc m (t.function l d ps) ts w (xs, ys, s, (v, a), (xs2, ys2, s2, b, c)) = (declarator_ranged sort sc l d xs (front ts xs ys s w) a, params_ranged (after_declarator sc d) (is_some (declared_name d)) ps ys2 (back ys xs2 ys2 s2 (back ts xs ys s w)) c)

  params_ranged : (sc : Scope) (has_name : Bool) (ps : t.ParamsTree) (ts : List Token) → AreRangedTokens ts → params sc has_name ps ts → AreRangedParams ps
  params_ranged sc has_name t.no_params ts w h = tt
  params_ranged sc has_name (t.param_names ns) ts w h = tt
  params_ranged sc has_name (t.param_types ps true) ts w (xs, ys, s, (v, (k, (xs2, ys2, s2, a, b))), c) = prototype_ranged sc k ps xs2 (front xs xs2 ys2 s2 (front ts xs ys s w)) a
  params_ranged sc has_name (t.param_types ps false) ts w (v, (k, (xs2, ys2, s2, a, b))) = prototype_ranged sc k ps xs2 (front ts xs2 ys2 s2 w) a

  prototype_ranged : (sc : Scope) (m : Pos) (ps : t.ParamList) (ts : List Token) → AreRangedTokens ts → param_list sc m ps ts → AreRangedPrototype ps
  prototype_ranged sc m t.no_more_params ts w h = tt
  prototype_ranged sc m (t.and_param ps q d) ts w (xs, ys, s, (k, (xs2, ys2, s2, a, b)), (xs3, ys3, s3, c, e)) = (prototype_ranged sc k ps xs2 (front xs xs2 ys2 s2 (front ts xs ys s w)) a, specifiers_ranged (after_params sc ps) true q xs3 (front ys xs3 ys3 s3 (back ts xs ys s w)) c, declarator_ranged (param (has_type q)) (after_specifiers (after_params sc ps) q) m d ys3 (back ys xs3 ys3 s3 (back ts xs ys s w)) e)
