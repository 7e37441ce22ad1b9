-- What a token is to statements, declarations and units.
use Rattle.std.specs.Prelude.{ℕ, Bool, true, false, ◌||◌, ◌&&◌, not, if◌then◌else◌}
use Rattle.c65_base.specs.declared.names.Name.{Name}
use Rattle.c65_scan.specs.declared.token.Keyword.{Keyword}
use Rattle.c65_scan.specs.declared.token.Keyword.TheVariants as keywords
use Rattle.c65_scan.specs.declared.token.Punct.{Punct}
use Rattle.c65_scan.specs.declared.token.Punct.TheVariants as puncts
use Rattle.c65_scan.specs.declared.token.TokenKind.{TokenKind}
use Rattle.c65_scan.specs.declared.token.TokenKind.TheVariants as kinds
use Rattle.c65_parse_frames.specs.declared.sign.Sign.{Sign}
use Rattle.c65_parse_frames.specs.declared.sign.Sign.TheVariants as signs
use Rattle.c65_parse_frames.specs.declared.sign.Mark.{Mark}
use Rattle.c65_parse_frames.specs.declared.sign.Mark.TheVariants as marks

-- C90 6.5.1 to 6.5.3 and 6.6
abbrev pub sign_of_keyword : Keyword → Sign
sign_of_keyword keywords.Sizeof = signs.Operand
sign_of_keyword keywords.Case = signs.Case
sign_of_keyword keywords.Default = signs.Default
sign_of_keyword keywords.If = signs.If
sign_of_keyword keywords.Else = signs.Else
sign_of_keyword keywords.Switch = signs.Switch
sign_of_keyword keywords.While = signs.While
sign_of_keyword keywords.Do = signs.Do
sign_of_keyword keywords.For = signs.For
sign_of_keyword keywords.Goto = signs.Goto
sign_of_keyword keywords.Continue = signs.Continue
sign_of_keyword keywords.Break = signs.Break
sign_of_keyword keywords.Return = signs.Return
sign_of_keyword keywords.FastCall = signs.Other
sign_of_keyword keywords.CDecl = signs.Other
sign_of_keyword keywords.Asm = signs.Other
sign_of_keyword keywords.UnderscoredAsm = signs.Other
sign_of_keyword _ = signs.Specifier

-- the operators are those before an operand (C90 6.3.3)
abbrev pub sign_of_punct : Punct → Sign
sign_of_punct puncts.OpenParen = signs.OpenParen
sign_of_punct puncts.CloseParen = signs.CloseParen
sign_of_punct puncts.OpenBrace = signs.OpenBrace
sign_of_punct puncts.CloseBrace = signs.CloseBrace
sign_of_punct puncts.Comma = signs.Comma
sign_of_punct puncts.Colon = signs.Colon
sign_of_punct puncts.Semicolon = signs.Semicolon
sign_of_punct puncts.Equal = signs.Equal
sign_of_punct puncts.PlusPlus = signs.Operand
sign_of_punct puncts.MinusMinus = signs.Operand
sign_of_punct puncts.Ampersand = signs.Operand
sign_of_punct puncts.Star = signs.Operand
sign_of_punct puncts.Plus = signs.Operand
sign_of_punct puncts.Minus = signs.Operand
sign_of_punct puncts.Tilde = signs.Operand
sign_of_punct puncts.Exclamation = signs.Operand
sign_of_punct _ = signs.Other

abbrev pub sign_of : TokenKind → Sign
sign_of (kinds.Keyword k) = sign_of_keyword k
sign_of (kinds.Name n) = signs.Name n
sign_of (kinds.Number ty n) = signs.Operand
sign_of (kinds.Text bs) = signs.Operand
sign_of (kinds.Punct p) = sign_of_punct p
sign_of kinds.End = signs.End

abbrev pub is_mark : Mark → Sign → Bool
is_mark marks.OpenParen signs.OpenParen = true
is_mark marks.CloseParen signs.CloseParen = true
is_mark marks.OpenBrace signs.OpenBrace = true
is_mark marks.CloseBrace signs.CloseBrace = true
is_mark marks.Comma signs.Comma = true
is_mark marks.Colon signs.Colon = true
is_mark marks.Semicolon signs.Semicolon = true
is_mark marks.Equal signs.Equal = true
is_mark marks.Else signs.Else = true
is_mark marks.While signs.While = true
is_mark marks.End signs.End = true
is_mark _ _ = false

-- a type's name begins a declaration, unless it is a label
abbrev pub starts_declaration : Sign → Bool → Bool → Bool
starts_declaration signs.Specifier is_type colon_follows = true
starts_declaration (signs.Name n) is_type colon_follows = is_type && not colon_follows
starts_declaration _ is_type colon_follows = false

-- where only a statement may stand a type's name is a label (C90 6.6.1)
abbrev pub is_label : Sign → Bool → Bool → Bool
is_label (signs.Name n) is_type colon_follows = is_type || colon_follows
is_label _ is_type colon_follows = false

-- how deep a statement is at least that begins with a token, and 0 where none does
abbrev pub least_depth : Sign → Bool → ℕ
least_depth (signs.Name n) label = if label then 2 else 1
least_depth signs.Case label = 2
least_depth signs.Default label = 2
least_depth signs.If label = 2
least_depth signs.Switch label = 2
least_depth signs.While label = 2
least_depth signs.Do label = 2
least_depth signs.For label = 2
least_depth signs.Operand label = 1
least_depth signs.OpenParen label = 1
least_depth signs.OpenBrace label = 1
least_depth signs.Semicolon label = 1
least_depth signs.Goto label = 1
least_depth signs.Continue label = 1
least_depth signs.Break label = 1
least_depth signs.Return label = 1
least_depth _ label = 0
