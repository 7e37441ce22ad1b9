-- The constants of scanned tokens lie in the ranges of their types (C90 6.1.3.2, 6.1.3.4).
use Rattle.std.specs.Prelude.{◌≡◌, ◌<◌, ℕ, List, [], ◌∷◌, ◌++◌, Bool, Ok}
use Rattle.c65_base.specs.declared.refusal.Pos.{Pos}
use Rattle.c65_lex.specs.declared.token.PpToken.{PpToken}
use Rattle.c65_scan.specs.declared.token.Token.{Token}
use Rattle.c65_scan.specs.Tokens.{tokens_of}
use Rattle.c65_tree.specs.Trees as t
use Rattle.c65_parse_grammar.specs.Expressions.{Sort, expr, type_name, specifiers, declarator}
use Rattle.c65_parse_grammar.specs.Scopes.{Scope}
use Rattle.c65_elab_law.specs.Numbers.{AreRangedTokens, IsRanged, IsRangedType, AreRangedSpecifiers, IsRangedDeclarator}

abbrev pub AreBytes : List ℕ → Type 0
AreBytes [] = Unit {0}
AreBytes (b ∷ s) = (b < 256) × AreBytes s

-- names are of bytes
abbrev pub AreSpellings : List (List ℕ) → Type 0
AreSpellings [] = Unit {0}
AreSpellings (s ∷ names) = AreBytes s × AreSpellings names

abbrev pub ScannedTokensAreRanged : Type 0
ScannedTokensAreRanged = (names : List (List ℕ)) (ts : List PpToken) (tokens : List Token) → AreSpellings names → tokens_of names ts ≡ Ok tokens → AreRangedTokens tokens

-- tokens of a scanned unit, one after another
pub record ArePartOf (names : List (List ℕ)) (ts : List PpToken) (xs : List Token) : Type 0 where
  pub before : List Token
  pub behind : List Token
  pub spelled : AreSpellings names
  pub scanned : tokens_of names ts ≡ Ok (before ++ xs ++ behind)

pub record ScannedConstantsAreRanged : Type 0 where
  pub expressions : (names : List (List ℕ)) (ts : List PpToken) (xs : List Token) → ArePartOf names ts xs → (sc : Scope) (e : t.ExprTree) → expr sc e xs → IsRanged e
  pub type_names : (names : List (List ℕ)) (ts : List PpToken) (xs : List Token) → ArePartOf names ts xs → (sc : Scope) (p : Pos) (m : t.TypeTree) → type_name sc p m xs → IsRangedType m
  pub specifiers : (names : List (List ℕ)) (ts : List PpToken) (xs : List Token) → ArePartOf names ts xs → (sc : Scope) (storage : Bool) (q : t.SpecifiersTree) → specifiers sc storage q xs → AreRangedSpecifiers q
  pub declarators : (names : List (List ℕ)) (ts : List PpToken) (xs : List Token) → ArePartOf names ts xs → (sort : Sort) (sc : Scope) (p : Pos) (d : t.DeclaratorTree) → declarator sort sc p d xs → IsRangedDeclarator d
