-- What signs begin, where a statement or the rest of a declaration stands (C90 6.5, 6.6).
use Rattle.std.specs.Prelude.{Bool, true, false, Option, Some, None}
use Rattle.c65_base.specs.declared.names.Name.{Name}
use Rattle.c65_parse_frames.specs.declared.sign.Sign.{Sign}
use Rattle.c65_parse_frames.specs.declared.sign.Sign.TheVariants as signs
use Rattle.c65_decl.specs.declared.words.Word.{Word}
use Rattle.c65_decl.specs.declared.words.Word.TheVariants as words

-- the word or the brace that begins a statement
abbrev pub word_of : Sign → Option Word
word_of signs.Case = Some words.Case
word_of signs.Default = Some words.Default
word_of signs.If = Some words.If
word_of signs.Switch = Some words.Switch
word_of signs.While = Some words.While
word_of signs.Do = Some words.Do
word_of signs.For = Some words.For
word_of signs.Goto = Some words.Goto
word_of signs.Continue = Some words.Continue
word_of signs.Break = Some words.Break
word_of signs.Return = Some words.Return
word_of signs.OpenBrace = Some words.OpenBrace
word_of _ = None

abbrev pub name_of : Sign → Option Name
name_of (signs.Name n) = Some n
name_of _ = None

abbrev pub is_specifier : Sign → Bool
is_specifier signs.Specifier = true
is_specifier _ = false

-- an expression statement, or the empty one (C90 6.6.3)
abbrev pub is_evaluated : Sign → Bool
is_evaluated (signs.Name n) = true
is_evaluated signs.Operand = true
is_evaluated signs.OpenParen = true
is_evaluated signs.Semicolon = true
is_evaluated _ = false

-- a declaration behind a declarator
abbrev pub goes_on : Sign → Bool
goes_on signs.Comma = true
goes_on signs.Equal = true
goes_on signs.Semicolon = true
goes_on _ = false
