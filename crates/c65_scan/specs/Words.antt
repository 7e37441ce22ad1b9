-- The spellings of keywords, operators and punctuators.
use Rattle.std.specs.Prelude.{ℕ, List, [], ◌∷◌, Option, find, codes, bytes_eq}
use Rattle.c65_scan.specs.declared.token.Keyword.{Keyword}
use Rattle.c65_scan.specs.declared.token.Keyword.TheVariants as keywords
use Rattle.c65_scan.specs.declared.token.Punct.{Punct}
use Rattle.c65_scan.specs.declared.token.Punct.TheVariants as puncts

-- C90 6.1.1, and four words of this compiler
abbrev pub keyword_spelling : Keyword → List ℕ
keyword_spelling keywords.Auto = codes "auto"
keyword_spelling keywords.Break = codes "break"
keyword_spelling keywords.Case = codes "case"
keyword_spelling keywords.Char = codes "char"
keyword_spelling keywords.Const = codes "const"
keyword_spelling keywords.Continue = codes "continue"
keyword_spelling keywords.Default = codes "default"
keyword_spelling keywords.Do = codes "do"
keyword_spelling keywords.Double = codes "double"
keyword_spelling keywords.Else = codes "else"
keyword_spelling keywords.Enum = codes "enum"
keyword_spelling keywords.Extern = codes "extern"
keyword_spelling keywords.Float = codes "float"
keyword_spelling keywords.For = codes "for"
keyword_spelling keywords.Goto = codes "goto"
keyword_spelling keywords.If = codes "if"
keyword_spelling keywords.Int = codes "int"
keyword_spelling keywords.Long = codes "long"
keyword_spelling keywords.Register = codes "register"
keyword_spelling keywords.Return = codes "return"
keyword_spelling keywords.Short = codes "short"
keyword_spelling keywords.Signed = codes "signed"
keyword_spelling keywords.Sizeof = codes "sizeof"
keyword_spelling keywords.Static = codes "static"
keyword_spelling keywords.Struct = codes "struct"
keyword_spelling keywords.Switch = codes "switch"
keyword_spelling keywords.Typedef = codes "typedef"
keyword_spelling keywords.Union = codes "union"
keyword_spelling keywords.Unsigned = codes "unsigned"
keyword_spelling keywords.Void = codes "void"
keyword_spelling keywords.Volatile = codes "volatile"
keyword_spelling keywords.While = codes "while"
keyword_spelling keywords.FastCall = codes "__fastcall__"
keyword_spelling keywords.CDecl = codes "__cdecl__"
keyword_spelling keywords.Asm = codes "asm"
keyword_spelling keywords.UnderscoredAsm = codes "__asm__"

abbrev pub all_keywords : List Keyword
all_keywords = keywords.Auto ∷ keywords.Break ∷ keywords.Case ∷ keywords.Char ∷ keywords.Const ∷ keywords.Continue ∷ keywords.Default ∷ keywords.Do ∷ keywords.Double ∷ keywords.Else ∷ keywords.Enum ∷ keywords.Extern ∷ keywords.Float ∷ keywords.For ∷ keywords.Goto ∷ keywords.If ∷ keywords.Int ∷ keywords.Long ∷ keywords.Register ∷ keywords.Return ∷ keywords.Short ∷ keywords.Signed ∷ keywords.Sizeof ∷ keywords.Static ∷ keywords.Struct ∷ keywords.Switch ∷ keywords.Typedef ∷ keywords.Union ∷ keywords.Unsigned ∷ keywords.Void ∷ keywords.Volatile ∷ keywords.While ∷ keywords.FastCall ∷ keywords.CDecl ∷ keywords.Asm ∷ keywords.UnderscoredAsm ∷ []

abbrev pub keyword_of : List ℕ → Option Keyword
keyword_of spelling = find (λ k. bytes_eq (keyword_spelling k) spelling) all_keywords

-- C90 6.1.5 and 6.1.6
abbrev pub punct_spelling : Punct → List ℕ
punct_spelling puncts.OpenBracket = codes "["
punct_spelling puncts.CloseBracket = codes "]"
punct_spelling puncts.OpenParen = codes "("
punct_spelling puncts.CloseParen = codes ")"
punct_spelling puncts.OpenBrace = codes "{"
punct_spelling puncts.CloseBrace = codes "}"
punct_spelling puncts.Comma = codes ","
punct_spelling puncts.Colon = codes ":"
punct_spelling puncts.Semicolon = codes ";"
punct_spelling puncts.Ellipsis = codes "..."
punct_spelling puncts.Question = codes "?"
punct_spelling puncts.Dot = codes "."
punct_spelling puncts.Arrow = codes "->"
punct_spelling puncts.PlusPlus = codes "++"
punct_spelling puncts.MinusMinus = codes "--"
punct_spelling puncts.Ampersand = codes "&"
punct_spelling puncts.Star = codes "*"
punct_spelling puncts.Plus = codes "+"
punct_spelling puncts.Minus = codes "-"
punct_spelling puncts.Tilde = codes "~"
punct_spelling puncts.Exclamation = codes "!"
punct_spelling puncts.Slash = codes "/"
punct_spelling puncts.Percent = codes "%"
punct_spelling puncts.ShiftLeft = codes "<<"
punct_spelling puncts.ShiftRight = codes ">>"
punct_spelling puncts.Less = codes "<"
punct_spelling puncts.Greater = codes ">"
punct_spelling puncts.LessEqual = codes "<="
punct_spelling puncts.GreaterEqual = codes ">="
punct_spelling puncts.EqualEqual = codes "=="
punct_spelling puncts.NotEqual = codes "!="
punct_spelling puncts.Caret = codes "^"
punct_spelling puncts.Bar = codes "|"
punct_spelling puncts.AndAnd = codes "&&"
punct_spelling puncts.OrOr = codes "||"
punct_spelling puncts.Equal = codes "="
punct_spelling puncts.StarEqual = codes "*="
punct_spelling puncts.SlashEqual = codes "/="
punct_spelling puncts.PercentEqual = codes "%="
punct_spelling puncts.PlusEqual = codes "+="
punct_spelling puncts.MinusEqual = codes "-="
punct_spelling puncts.ShiftLeftEqual = codes "<<="
punct_spelling puncts.ShiftRightEqual = codes ">>="
punct_spelling puncts.AmpersandEqual = codes "&="
punct_spelling puncts.CaretEqual = codes "^="
punct_spelling puncts.BarEqual = codes "|="
punct_spelling puncts.Hash = codes "#"
punct_spelling puncts.HashHash = codes "##"

abbrev pub all_puncts : List Punct
all_puncts = puncts.OpenBracket ∷ puncts.CloseBracket ∷ puncts.OpenParen ∷ puncts.CloseParen ∷ puncts.OpenBrace ∷ puncts.CloseBrace ∷ puncts.Comma ∷ puncts.Colon ∷ puncts.Semicolon ∷ puncts.Ellipsis ∷ puncts.Question ∷ puncts.Dot ∷ puncts.Arrow ∷ puncts.PlusPlus ∷ puncts.MinusMinus ∷ puncts.Ampersand ∷ puncts.Star ∷ puncts.Plus ∷ puncts.Minus ∷ puncts.Tilde ∷ puncts.Exclamation ∷ puncts.Slash ∷ puncts.Percent ∷ puncts.ShiftLeft ∷ puncts.ShiftRight ∷ puncts.Less ∷ puncts.Greater ∷ puncts.LessEqual ∷ puncts.GreaterEqual ∷ puncts.EqualEqual ∷ puncts.NotEqual ∷ puncts.Caret ∷ puncts.Bar ∷ puncts.AndAnd ∷ puncts.OrOr ∷ puncts.Equal ∷ puncts.StarEqual ∷ puncts.SlashEqual ∷ puncts.PercentEqual ∷ puncts.PlusEqual ∷ puncts.MinusEqual ∷ puncts.ShiftLeftEqual ∷ puncts.ShiftRightEqual ∷ puncts.AmpersandEqual ∷ puncts.CaretEqual ∷ puncts.BarEqual ∷ puncts.Hash ∷ puncts.HashHash ∷ []

abbrev pub punct_of : List ℕ → Option Punct
punct_of spelling = find (λ p. bytes_eq (punct_spelling p) spelling) all_puncts
