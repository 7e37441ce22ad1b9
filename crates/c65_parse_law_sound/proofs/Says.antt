-- What the sign of a token says of it.
use Rattle.std.proofs.Common.{◌≡◌, Bool, true, false, refl}
use Rattle.std.specs.Prelude.{Option, None, Some}
use Rattle.c65_base.specs.declared.names.Name.{Name}
use Rattle.c65_scan.specs.declared.token.Keyword.{Keyword}
use Rattle.c65_scan.specs.declared.token.Keyword.TheVariants as keywords
use Rattle.c65_scan.specs.declared.token.Punct.{Punct}
use Rattle.c65_scan.specs.declared.token.Punct.TheVariants as puncts
use Rattle.c65_scan.specs.declared.token.TokenKind.{TokenKind}
use Rattle.c65_scan.specs.declared.token.TokenKind.TheVariants as kinds
use Rattle.c65_parse_trees.specs.declared.operator.Infix.{Infix}
use Rattle.c65_parse_trees.specs.declared.operator.Infix.TheVariants as infixes
use Rattle.c65_parse_trees.specs.declared.sign.Sign.{Sign}
use Rattle.c65_parse_trees.specs.declared.sign.Sign.TheVariants as signs
use Rattle.c65_parse_trees.specs.declared.sign.TagWord.{TagWord}
use Rattle.c65_parse_trees.specs.declared.sign.TagWord.TheVariants as tags
use Rattle.c65_parse_trees.specs.Signs.{word_of, sign_of_keyword, sign_of_punct, sign_of_kind}
use Rattle.c65_parse_grammar.specs.Spellings.{binary_punct, assign_punct, unary_punct, member_punct, word_keyword, storage_keyword, calling_keyword}

abbrev pub tag_word : TagWord → Keyword
tag_word tags.Struct = keywords.Struct
tag_word tags.Union = keywords.Union
tag_word tags.Enum = keywords.Enum

abbrev pub twice : Bool → Punct
twice false = puncts.PlusPlus
twice true = puncts.MinusMinus

abbrev pub is_mark : Option Punct → TokenKind → Type 0
is_mark None k = ⊥
is_mark (Some p) k = k ≡ kinds.Punct p

abbrev pub InfixSays : Infix → TokenKind → Type 0
InfixSays (infixes.Binary op) k = k ≡ kinds.Punct (binary_punct op)
InfixSays infixes.And k = k ≡ kinds.Punct puncts.AndAnd
InfixSays infixes.Or k = k ≡ kinds.Punct puncts.OrOr
InfixSays (infixes.Assign op) k = is_mark (assign_punct op) k
InfixSays infixes.Comma k = k ≡ kinds.Punct puncts.Comma

abbrev pub IsLiteral : TokenKind → Type 0
IsLiteral (kinds.Number t n) = Unit {0}
IsLiteral (kinds.Text bytes) = Unit {0}
IsLiteral _ = ⊥

abbrev pub IsNoOperand : TokenKind → Type 0
IsNoOperand (kinds.Name n) = ⊥
IsNoOperand (kinds.Number t n) = ⊥
IsNoOperand (kinds.Text bytes) = ⊥
IsNoOperand _ = Unit {0}

abbrev pub Says : (Name → Bool) → Sign → TokenKind → Type 0
Says sc (signs.Name n is_type) k = (k ≡ kinds.Name n) × (sc n ≡ is_type)
Says sc signs.Literal k = IsLiteral k
Says sc (signs.Word w) k = k ≡ kinds.Keyword (word_keyword (word_of w))
Says sc (signs.Storage c) k = k ≡ kinds.Keyword (storage_keyword c)
Says sc (signs.Tag w) k = k ≡ kinds.Keyword (tag_word w)
Says sc (signs.Calling cdecl) k = k ≡ kinds.Keyword (calling_keyword cdecl)
Says sc signs.Sizeof k = k ≡ kinds.Keyword keywords.Sizeof
Says sc signs.Open k = k ≡ kinds.Punct puncts.OpenParen
Says sc signs.Close k = k ≡ kinds.Punct puncts.CloseParen
Says sc signs.OpenBracket k = k ≡ kinds.Punct puncts.OpenBracket
Says sc signs.CloseBracket k = k ≡ kinds.Punct puncts.CloseBracket
Says sc signs.OpenBrace k = k ≡ kinds.Punct puncts.OpenBrace
Says sc signs.CloseBrace k = k ≡ kinds.Punct puncts.CloseBrace
Says sc signs.Comma k = k ≡ kinds.Punct puncts.Comma
Says sc signs.Colon k = k ≡ kinds.Punct puncts.Colon
Says sc signs.Semicolon k = k ≡ kinds.Punct puncts.Semicolon
Says sc signs.Ellipsis k = k ≡ kinds.Punct puncts.Ellipsis
Says sc signs.Question k = k ≡ kinds.Punct puncts.Question
Says sc (signs.Member arrow) k = k ≡ kinds.Punct (member_punct arrow)
Says sc (signs.Step down) k = k ≡ kinds.Punct (twice down)
Says sc signs.Star k = k ≡ kinds.Punct puncts.Star
Says sc (signs.Unary op) k = k ≡ kinds.Punct (unary_punct op)
Says sc (signs.Either before op) k = (k ≡ kinds.Punct (unary_punct before)) × (k ≡ kinds.Punct (binary_punct op))
Says sc (signs.Infix i) k = InfixSays i k
Says sc signs.Other k = IsNoOperand k

says_keyword : (sc : Name → Bool) (k : Keyword) → Says sc (sign_of_keyword k) (kinds.Keyword k)
says_keyword sc keywords.Auto = refl
says_keyword sc keywords.Break = tt
says_keyword sc keywords.Case = tt
says_keyword sc keywords.Char = refl
says_keyword sc keywords.Const = refl
says_keyword sc keywords.Continue = tt
says_keyword sc keywords.Default = tt
says_keyword sc keywords.Do = tt
says_keyword sc keywords.Double = refl
says_keyword sc keywords.Else = tt
says_keyword sc keywords.Enum = refl
says_keyword sc keywords.Extern = refl
says_keyword sc keywords.Float = refl
says_keyword sc keywords.For = tt
says_keyword sc keywords.Goto = tt
says_keyword sc keywords.If = tt
says_keyword sc keywords.Int = refl
says_keyword sc keywords.Long = refl
says_keyword sc keywords.Register = refl
says_keyword sc keywords.Return = tt
says_keyword sc keywords.Short = refl
says_keyword sc keywords.Signed = refl
says_keyword sc keywords.Sizeof = refl
says_keyword sc keywords.Static = refl
says_keyword sc keywords.Struct = refl
says_keyword sc keywords.Switch = tt
says_keyword sc keywords.Typedef = refl
says_keyword sc keywords.Union = refl
says_keyword sc keywords.Unsigned = refl
says_keyword sc keywords.Void = refl
says_keyword sc keywords.Volatile = refl
says_keyword sc keywords.While = tt
says_keyword sc keywords.FastCall = refl
says_keyword sc keywords.CDecl = refl
says_keyword sc keywords.Asm = tt
says_keyword sc keywords.UnderscoredAsm = tt

says_punct : (sc : Name → Bool) (p : Punct) → Says sc (sign_of_punct p) (kinds.Punct p)
says_punct sc puncts.Ampersand = (refl, refl)
says_punct sc puncts.Plus = (refl, refl)
says_punct sc puncts.Minus = (refl, refl)
says_punct sc puncts.Hash = tt
says_punct sc puncts.HashHash = tt
says_punct sc _ = refl

pub says : (sc : Name → Bool) (k : TokenKind) → Says sc (sign_of_kind sc k) k
says sc (kinds.Keyword k) = says_keyword sc k
says sc (kinds.Name n) = (refl, refl)
says sc (kinds.Number t n) = tt
says sc (kinds.Text bytes) = tt
says sc (kinds.Punct p) = says_punct sc p
says sc kinds.End = tt
