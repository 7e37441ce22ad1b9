-- Syntax trees whose integer constants each lie in the range of their type (C90 6.1.3.2), as scanning gives them.
use Rattle.std.specs.Prelude.{pos, List, [], ◌∷◌}
use Rattle.c65_ints.specs.Ranges.{InRange}
use Rattle.c65_scan.specs.declared.token.Token.{Token}
use Rattle.c65_scan.specs.declared.token.TokenKind.{TokenKind}
use Rattle.c65_scan.specs.declared.token.TokenKind.TheVariants as kinds
use Rattle.c65_tree.specs.Trees as t

abbrev pub IsRangedToken : TokenKind → Type 0
IsRangedToken (kinds.Number k n) = InRange k (pos n)
IsRangedToken _ = Unit {0}

abbrev pub AreRangedTokens : List Token → Type 0
AreRangedTokens [] = Unit {0}
AreRangedTokens (x ∷ xs) = IsRangedToken x.kind × AreRangedTokens xs

abbrev mutual
  pub IsRanged : t.ExprTree → Type 0
  IsRanged (t.name p m) = Unit {0}
  IsRanged (t.number p k m) = InRange k (pos m)
  IsRanged (t.text p bytes) = Unit {0}
  IsRanged (t.paren p e) = IsRanged e
  IsRanged (t.index p a b) = IsRanged a × IsRanged b
  IsRanged (t.call p f es) = IsRanged f × AreRanged es
  IsRanged (t.member p e arrow m) = IsRanged e
  IsRanged (t.step p how e) = IsRanged e
  IsRanged (t.unary p op e) = IsRanged e
  IsRanged (t.sizeof_expr p e) = IsRanged e
  IsRanged (t.sizeof_type p m) = IsRangedType m
  IsRanged (t.cast p m e) = IsRangedType m × IsRanged e
  IsRanged (t.binary p op a b) = IsRanged a × IsRanged b
  IsRanged (t.and_also p a b) = IsRanged a × IsRanged b
  IsRanged (t.or_else p a b) = IsRanged a × IsRanged b
  IsRanged (t.conditional p c a b) = IsRanged c × IsRanged a × IsRanged b
  IsRanged (t.assign p op a b) = IsRanged a × IsRanged b
  IsRanged (t.comma p a b) = IsRanged a × IsRanged b

  pub AreRanged : t.ExprList → Type 0
  AreRanged t.no_exprs = Unit {0}
  AreRanged (t.and_expr es e) = AreRanged es × IsRanged e

  pub IsRangedMaybe : t.MaybeExpr → Type 0
  IsRangedMaybe t.no_expr = Unit {0}
  IsRangedMaybe (t.an_expr e) = IsRanged e

  pub IsRangedType : t.TypeTree → Type 0
  IsRangedType (t.type_name q d) = AreRangedSpecifiers q × IsRangedDeclarator d

  pub AreRangedSpecifiers : t.SpecifiersTree → Type 0
  AreRangedSpecifiers (t.specifiers p qs) = AreRangedWords qs

  pub AreRangedWords : t.SpecifierList → Type 0
  AreRangedWords t.no_specifiers = Unit {0}
  AreRangedWords (t.and_specifier qs q) = AreRangedWords qs × IsRangedSpecifier q

  pub IsRangedSpecifier : t.SpecifierTree → Type 0
  IsRangedSpecifier (t.storage p c) = Unit {0}
  IsRangedSpecifier (t.word p k) = Unit {0}
  IsRangedSpecifier (t.typedef_name p m) = Unit {0}
  IsRangedSpecifier (t.tagged p is_union m ms) = AreRangedMembers ms
  IsRangedSpecifier (t.enum p m es) = AreRangedEnumerators es

  pub AreRangedMembers : t.MaybeMembers → Type 0
  AreRangedMembers t.no_members = Unit {0}
  AreRangedMembers (t.the_members ds) = AreRangedFields ds

  pub AreRangedFields : t.MemberDeclList → Type 0
  AreRangedFields t.no_member_decls = Unit {0}
  AreRangedFields (t.and_member_decl ds q ms) = AreRangedFields ds × AreRangedSpecifiers q × AreRangedList ms

  pub AreRangedList : t.MemberList → Type 0
  AreRangedList t.no_more_members = Unit {0}
  AreRangedList (t.and_member ms p k v) = AreRangedList ms × IsRangedOptional k × IsRangedMaybe v

  pub AreRangedEnumerators : t.MaybeEnumerators → Type 0
  AreRangedEnumerators t.no_enumerators = Unit {0}
  AreRangedEnumerators (t.the_enumerators es) = AreRangedValues es

  pub AreRangedValues : t.EnumeratorList → Type 0
  AreRangedValues t.no_more_enumerators = Unit {0}
  AreRangedValues (t.and_enumerator es p m v) = AreRangedValues es × IsRangedMaybe v

  pub IsRangedDeclarator : t.DeclaratorTree → Type 0
  IsRangedDeclarator (t.nameless p) = Unit {0}
  IsRangedDeclarator (t.named p m) = Unit {0}
  IsRangedDeclarator (t.grouped p k) = IsRangedDeclarator k
  IsRangedDeclarator (t.calling p cdecl k) = IsRangedDeclarator k
  IsRangedDeclarator (t.pointer p c v k) = IsRangedDeclarator k
  IsRangedDeclarator (t.array p k e) = IsRangedDeclarator k × IsRangedMaybe e
  IsRangedDeclarator (t.function p k ps) = IsRangedDeclarator k × AreRangedParams ps

  pub IsRangedOptional : t.MaybeDeclarator → Type 0
  IsRangedOptional t.no_declarator = Unit {0}
  IsRangedOptional (t.a_declarator k) = IsRangedDeclarator k

  pub AreRangedParams : t.ParamsTree → Type 0
  AreRangedParams t.no_params = Unit {0}
  AreRangedParams (t.param_names ms) = Unit {0}
  AreRangedParams (t.param_types ps variadic) = AreRangedPrototype ps

  pub AreRangedPrototype : t.ParamList → Type 0
  AreRangedPrototype t.no_more_params = Unit {0}
  AreRangedPrototype (t.and_param ps q k) = AreRangedPrototype ps × AreRangedSpecifiers q × IsRangedDeclarator k
