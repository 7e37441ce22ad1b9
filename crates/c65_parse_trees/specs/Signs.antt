-- What a token is to a parser.
use Rattle.std.specs.Prelude.{ℕ, Bool, true, false, Option, None, Some}
use Rattle.c65_base.specs.declared.names.Name.{Name}
use Rattle.c65_base.specs.declared.operators.BinaryOp.TheVariants as ops
use Rattle.c65_base.specs.declared.operators.StepKind.TheVariants as steps
use Rattle.c65_base.specs.declared.operators.UnaryOp.TheVariants as unaries
use Rattle.c65_scan.specs.declared.token.Keyword.{Keyword}
use Rattle.c65_scan.specs.declared.token.Keyword.TheVariants as keywords
use Rattle.c65_scan.specs.declared.token.Punct.{Punct}
use Rattle.c65_scan.specs.declared.token.Punct.TheVariants as puncts
use Rattle.c65_scan.specs.declared.token.Token.{Token}
use Rattle.c65_scan.specs.declared.token.TokenKind.{TokenKind}
use Rattle.c65_scan.specs.declared.token.TokenKind.TheVariants as kinds
use Rattle.c65_tree.specs.declared.expr.Storage.TheVariants as storages
use Rattle.c65_tree.specs.Trees
use Rattle.c65_parse_trees.specs.declared.operator.Infix.{Infix}
use Rattle.c65_parse_trees.specs.declared.operator.Infix.TheVariants as infixes
use Rattle.c65_parse_trees.specs.declared.operator.Prefix.{Prefix}
use Rattle.c65_parse_trees.specs.declared.operator.Prefix.TheVariants as prefixes
use Rattle.c65_parse_trees.specs.declared.sign.Sign.{Sign}
use Rattle.c65_parse_trees.specs.declared.sign.Sign.TheVariants as signs
use Rattle.c65_parse_trees.specs.declared.sign.TagWord.TheVariants as tags
use Rattle.c65_parse_trees.specs.declared.sign.Word.{Word}
use Rattle.c65_parse_trees.specs.declared.sign.Word.TheVariants as words
use Rattle.c65_parse_trees.specs.Levels.{level_of_binary, level_of_infix, left_of_infix}

abbrev pub word_of : Word → Trees.Word
word_of words.Const = Trees.const
word_of words.Volatile = Trees.volatile
word_of words.Void = Trees.void
word_of words.Char = Trees.char
word_of words.Short = Trees.short
word_of words.Int = Trees.int
word_of words.Long = Trees.long
word_of words.Float = Trees.float
word_of words.Double = Trees.double
word_of words.Signed = Trees.signed
word_of words.Unsigned = Trees.unsigned

-- a type specifier, and not a qualifier
abbrev pub is_type_word : Word → Bool
is_type_word words.Const = false
is_type_word words.Volatile = false
is_type_word words.Void = true
is_type_word words.Char = true
is_type_word words.Short = true
is_type_word words.Int = true
is_type_word words.Long = true
is_type_word words.Float = true
is_type_word words.Double = true
is_type_word words.Signed = true
is_type_word words.Unsigned = true

-- C90 6.1.1
abbrev pub sign_of_keyword : Keyword → Sign
sign_of_keyword keywords.Auto = signs.Storage storages.Auto
sign_of_keyword keywords.Break = signs.Other
sign_of_keyword keywords.Case = signs.Other
sign_of_keyword keywords.Char = signs.Word words.Char
sign_of_keyword keywords.Const = signs.Word words.Const
sign_of_keyword keywords.Continue = signs.Other
sign_of_keyword keywords.Default = signs.Other
sign_of_keyword keywords.Do = signs.Other
sign_of_keyword keywords.Double = signs.Word words.Double
sign_of_keyword keywords.Else = signs.Other
sign_of_keyword keywords.Enum = signs.Tag tags.Enum
sign_of_keyword keywords.Extern = signs.Storage storages.Extern
sign_of_keyword keywords.Float = signs.Word words.Float
sign_of_keyword keywords.For = signs.Other
sign_of_keyword keywords.Goto = signs.Other
sign_of_keyword keywords.If = signs.Other
sign_of_keyword keywords.Int = signs.Word words.Int
sign_of_keyword keywords.Long = signs.Word words.Long
sign_of_keyword keywords.Register = signs.Storage storages.Register
sign_of_keyword keywords.Return = signs.Other
sign_of_keyword keywords.Short = signs.Word words.Short
sign_of_keyword keywords.Signed = signs.Word words.Signed
sign_of_keyword keywords.Sizeof = signs.Sizeof
sign_of_keyword keywords.Static = signs.Storage storages.Static
sign_of_keyword keywords.Struct = signs.Tag tags.Struct
sign_of_keyword keywords.Switch = signs.Other
sign_of_keyword keywords.Typedef = signs.Storage storages.Typedef
sign_of_keyword keywords.Union = signs.Tag tags.Union
sign_of_keyword keywords.Unsigned = signs.Word words.Unsigned
sign_of_keyword keywords.Void = signs.Word words.Void
sign_of_keyword keywords.Volatile = signs.Word words.Volatile
sign_of_keyword keywords.While = signs.Other
sign_of_keyword keywords.FastCall = signs.Calling false
sign_of_keyword keywords.CDecl = signs.Calling true
sign_of_keyword keywords.Asm = signs.Other
sign_of_keyword keywords.UnderscoredAsm = signs.Other

-- C90 6.1.5, 6.1.6
abbrev pub sign_of_punct : Punct → Sign
sign_of_punct puncts.OpenBracket = signs.OpenBracket
sign_of_punct puncts.CloseBracket = signs.CloseBracket
sign_of_punct puncts.OpenParen = signs.Open
sign_of_punct puncts.CloseParen = signs.Close
sign_of_punct puncts.OpenBrace = signs.OpenBrace
sign_of_punct puncts.CloseBrace = signs.CloseBrace
sign_of_punct puncts.Comma = signs.Comma
sign_of_punct puncts.Colon = signs.Colon
sign_of_punct puncts.Semicolon = signs.Semicolon
sign_of_punct puncts.Ellipsis = signs.Ellipsis
sign_of_punct puncts.Question = signs.Question
sign_of_punct puncts.Dot = signs.Member false
sign_of_punct puncts.Arrow = signs.Member true
sign_of_punct puncts.PlusPlus = signs.Step false
sign_of_punct puncts.MinusMinus = signs.Step true
sign_of_punct puncts.Ampersand = signs.Either unaries.Address ops.BitAnd
sign_of_punct puncts.Star = signs.Star
sign_of_punct puncts.Plus = signs.Either unaries.Plus ops.Add
sign_of_punct puncts.Minus = signs.Either unaries.Neg ops.Sub
sign_of_punct puncts.Tilde = signs.Unary unaries.BitNot
sign_of_punct puncts.Exclamation = signs.Unary unaries.Not
sign_of_punct puncts.Slash = signs.Infix (infixes.Binary ops.Div)
sign_of_punct puncts.Percent = signs.Infix (infixes.Binary ops.Rem)
sign_of_punct puncts.ShiftLeft = signs.Infix (infixes.Binary ops.Shl)
sign_of_punct puncts.ShiftRight = signs.Infix (infixes.Binary ops.Shr)
sign_of_punct puncts.Less = signs.Infix (infixes.Binary ops.Lt)
sign_of_punct puncts.Greater = signs.Infix (infixes.Binary ops.Gt)
sign_of_punct puncts.LessEqual = signs.Infix (infixes.Binary ops.Le)
sign_of_punct puncts.GreaterEqual = signs.Infix (infixes.Binary ops.Ge)
sign_of_punct puncts.EqualEqual = signs.Infix (infixes.Binary ops.Eq)
sign_of_punct puncts.NotEqual = signs.Infix (infixes.Binary ops.Ne)
sign_of_punct puncts.Caret = signs.Infix (infixes.Binary ops.BitXor)
sign_of_punct puncts.Bar = signs.Infix (infixes.Binary ops.BitOr)
sign_of_punct puncts.AndAnd = signs.Infix infixes.And
sign_of_punct puncts.OrOr = signs.Infix infixes.Or
sign_of_punct puncts.Equal = signs.Infix (infixes.Assign None)
sign_of_punct puncts.StarEqual = signs.Infix (infixes.Assign (Some ops.Mul))
sign_of_punct puncts.SlashEqual = signs.Infix (infixes.Assign (Some ops.Div))
sign_of_punct puncts.PercentEqual = signs.Infix (infixes.Assign (Some ops.Rem))
sign_of_punct puncts.PlusEqual = signs.Infix (infixes.Assign (Some ops.Add))
sign_of_punct puncts.MinusEqual = signs.Infix (infixes.Assign (Some ops.Sub))
sign_of_punct puncts.ShiftLeftEqual = signs.Infix (infixes.Assign (Some ops.Shl))
sign_of_punct puncts.ShiftRightEqual = signs.Infix (infixes.Assign (Some ops.Shr))
sign_of_punct puncts.AmpersandEqual = signs.Infix (infixes.Assign (Some ops.BitAnd))
sign_of_punct puncts.CaretEqual = signs.Infix (infixes.Assign (Some ops.BitXor))
sign_of_punct puncts.BarEqual = signs.Infix (infixes.Assign (Some ops.BitOr))
sign_of_punct puncts.Hash = signs.Other
sign_of_punct puncts.HashHash = signs.Other

abbrev pub sign_of_kind : (Name → Bool) → TokenKind → Sign
sign_of_kind is_type (kinds.Keyword k) = sign_of_keyword k
sign_of_kind is_type (kinds.Name n) = signs.Name n (is_type n)
sign_of_kind is_type (kinds.Number t n) = signs.Literal
sign_of_kind is_type (kinds.Text bytes) = signs.Literal
sign_of_kind is_type (kinds.Punct p) = sign_of_punct p
sign_of_kind is_type kinds.End = signs.Other

-- what a token is, where these names are types
abbrev pub sign_of : (Name → Bool) → Token → Sign
sign_of is_type token = sign_of_kind is_type token.kind

-- the least level of an expression that the token goes on with, and 16, which none has, where it goes on with none
abbrev pub left_of : Sign → ℕ
left_of signs.Open = 15
left_of signs.OpenBracket = 15
left_of (signs.Member arrow) = 15
left_of (signs.Step down) = 15
left_of signs.Star = 12
left_of (signs.Either before op) = level_of_binary op
left_of (signs.Infix op) = left_of_infix op
left_of signs.Question = 3
left_of signs.Comma = 0
left_of _ = 16

-- the level of the expression that the token goes on to
abbrev pub rank_of : Sign → ℕ
rank_of signs.Open = 15
rank_of signs.OpenBracket = 15
rank_of (signs.Member arrow) = 15
rank_of (signs.Step down) = 15
rank_of signs.Star = 12
rank_of (signs.Either before op) = level_of_binary op
rank_of (signs.Infix op) = level_of_infix op
rank_of signs.Question = 2
rank_of _ = 0

abbrev pub infix_of : Sign → Option Infix
infix_of signs.Star = Some (infixes.Binary ops.Mul)
infix_of (signs.Either before op) = Some (infixes.Binary op)
infix_of (signs.Infix op) = Some op
infix_of signs.Comma = Some infixes.Comma
infix_of _ = None

-- but for sizeof
abbrev pub prefix_of : Sign → Option Prefix
prefix_of signs.Star = Some (prefixes.Unary unaries.Deref)
prefix_of (signs.Unary op) = Some (prefixes.Unary op)
prefix_of (signs.Either op between) = Some (prefixes.Unary op)
prefix_of (signs.Step false) = Some (prefixes.Step steps.PreInc)
prefix_of (signs.Step true) = Some (prefixes.Step steps.PreDec)
prefix_of _ = None

-- the first token of a type name (C90 6.5.5)
abbrev pub begins_type : Sign → Bool
begins_type (signs.Word w) = true
begins_type (signs.Tag w) = true
begins_type (signs.Name n is_type) = is_type
begins_type _ = false

-- the first token of declaration specifiers (C90 6.5)
abbrev pub begins_specifiers : Sign → Bool
begins_specifiers (signs.Storage c) = true
begins_specifiers (signs.Word w) = true
begins_specifiers (signs.Tag w) = true
begins_specifiers (signs.Name n is_type) = is_type
begins_specifiers _ = false
