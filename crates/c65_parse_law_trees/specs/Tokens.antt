-- What tokens are to the laws: the level to which they go on, and whether a declarator may begin or go on with them.
use Rattle.std.specs.Prelude.{ℕ}
use Rattle.c65_scan.specs.declared.token.Keyword.TheVariants as keywords
use Rattle.c65_scan.specs.declared.token.Punct.TheVariants as puncts
use Rattle.c65_scan.specs.declared.token.TokenKind.{TokenKind}
use Rattle.c65_scan.specs.declared.token.TokenKind.TheVariants as kinds
use Rattle.c65_parse_trees.specs.Signs.{sign_of_kind, rank_of}
use Rattle.c65_parse.specs.declared.frame.Sort.{Sort}
use Rattle.c65_parse.specs.declared.frame.Sort.TheVariants as sorts
use Rattle.c65_parse_grammar.specs.Scopes.{no_types}
use Rattle.c65_parse_grammar.specs.Expressions as g

-- the sort of a declarator, in the grammar's words
abbrev pub sort_of : Sort → g.Sort
sort_of (sorts.Named typed) = g.named typed
sort_of (sorts.Param typed) = g.param typed
sort_of (sorts.Member typed) = g.member typed
sort_of sorts.Abstract = g.abstract

-- the level of the expression that a token goes on to; 0 where it goes on with none
abbrev pub rank : TokenKind → ℕ
rank k = rank_of (sign_of_kind no_types k)

-- a token with which no declarator begins, nor a qualifier behind a star (C90 6.5.4, 6.5.5)
abbrev pub Bare : TokenKind → Type 0
Bare (kinds.Name n) = ⊥
Bare (kinds.Keyword keywords.FastCall) = ⊥
Bare (kinds.Keyword keywords.CDecl) = ⊥
Bare (kinds.Keyword keywords.Const) = ⊥
Bare (kinds.Keyword keywords.Volatile) = ⊥
Bare (kinds.Punct puncts.Star) = ⊥
Bare (kinds.Punct puncts.OpenParen) = ⊥
Bare _ = Unit {0}

-- a token that goes on with no direct declarator
abbrev pub NoSuffix : TokenKind → Type 0
NoSuffix (kinds.Punct puncts.OpenParen) = ⊥
NoSuffix (kinds.Punct puncts.OpenBracket) = ⊥
NoSuffix _ = Unit {0}
