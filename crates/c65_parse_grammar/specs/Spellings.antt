-- The tokens of operators and words.
use Rattle.std.specs.Prelude.{◌≡◌, Bool, true, false, Option, None, Some, [], ◌∷◌}
use Rattle.c65_base.specs.declared.names.Name.{Name}
use Rattle.c65_base.specs.declared.operators.BinaryOp.{BinaryOp}
use Rattle.c65_base.specs.declared.operators.BinaryOp.TheVariants as ops
use Rattle.c65_base.specs.declared.operators.StepKind.{StepKind}
use Rattle.c65_base.specs.declared.operators.StepKind.TheVariants as steps
use Rattle.c65_base.specs.declared.operators.UnaryOp.{UnaryOp}
use Rattle.c65_base.specs.declared.operators.UnaryOp.TheVariants as unaries
use Rattle.c65_scan.specs.declared.token.Keyword.{Keyword}
use Rattle.c65_scan.specs.declared.token.Keyword.TheVariants as keywords
use Rattle.c65_scan.specs.declared.token.Punct.{Punct}
use Rattle.c65_scan.specs.declared.token.Punct.TheVariants as puncts
use Rattle.c65_scan.specs.declared.token.TokenKind.TheVariants as kinds
use Rattle.c65_tree.specs.declared.expr.Storage.{Storage}
use Rattle.c65_tree.specs.declared.expr.Storage.TheVariants as storages
use Rattle.c65_tree.specs.Trees as t
use Rattle.c65_parse_grammar.specs.Phrases.{Phrase, nothing, some, some_mark}

abbrev pub binary_punct : BinaryOp → Punct
binary_punct ops.Mul = puncts.Star
binary_punct ops.Div = puncts.Slash
binary_punct ops.Rem = puncts.Percent
binary_punct ops.Add = puncts.Plus
binary_punct ops.Sub = puncts.Minus
binary_punct ops.Shl = puncts.ShiftLeft
binary_punct ops.Shr = puncts.ShiftRight
binary_punct ops.Lt = puncts.Less
binary_punct ops.Gt = puncts.Greater
binary_punct ops.Le = puncts.LessEqual
binary_punct ops.Ge = puncts.GreaterEqual
binary_punct ops.Eq = puncts.EqualEqual
binary_punct ops.Ne = puncts.NotEqual
binary_punct ops.BitAnd = puncts.Ampersand
binary_punct ops.BitXor = puncts.Caret
binary_punct ops.BitOr = puncts.Bar

-- C90 6.3.16; a comparison has no compound form
abbrev pub compound_punct : BinaryOp → Option Punct
compound_punct ops.Mul = Some puncts.StarEqual
compound_punct ops.Div = Some puncts.SlashEqual
compound_punct ops.Rem = Some puncts.PercentEqual
compound_punct ops.Add = Some puncts.PlusEqual
compound_punct ops.Sub = Some puncts.MinusEqual
compound_punct ops.Shl = Some puncts.ShiftLeftEqual
compound_punct ops.Shr = Some puncts.ShiftRightEqual
compound_punct ops.BitAnd = Some puncts.AmpersandEqual
compound_punct ops.BitXor = Some puncts.CaretEqual
compound_punct ops.BitOr = Some puncts.BarEqual
compound_punct _ = None

abbrev pub assign_punct : Option BinaryOp → Option Punct
assign_punct None = Some puncts.Equal
assign_punct (Some op) = compound_punct op

abbrev pub unary_punct : UnaryOp → Punct
unary_punct unaries.Neg = puncts.Minus
unary_punct unaries.Plus = puncts.Plus
unary_punct unaries.BitNot = puncts.Tilde
unary_punct unaries.Not = puncts.Exclamation
unary_punct unaries.Deref = puncts.Star
unary_punct unaries.Address = puncts.Ampersand

abbrev pub step_punct : StepKind → Punct
step_punct steps.PreInc = puncts.PlusPlus
step_punct steps.PreDec = puncts.MinusMinus
step_punct steps.PostInc = puncts.PlusPlus
step_punct steps.PostDec = puncts.MinusMinus

abbrev pub is_before : StepKind → Bool
is_before steps.PreInc = true
is_before steps.PreDec = true
is_before steps.PostInc = false
is_before steps.PostDec = false

abbrev pub member_punct : Bool → Punct
member_punct true = puncts.Arrow
member_punct false = puncts.Dot

abbrev pub word_keyword : t.Word → Keyword
word_keyword t.const = keywords.Const
word_keyword t.volatile = keywords.Volatile
word_keyword t.void = keywords.Void
word_keyword t.char = keywords.Char
word_keyword t.short = keywords.Short
word_keyword t.int = keywords.Int
word_keyword t.long = keywords.Long
word_keyword t.float = keywords.Float
word_keyword t.double = keywords.Double
word_keyword t.signed = keywords.Signed
word_keyword t.unsigned = keywords.Unsigned

abbrev pub storage_keyword : Storage → Keyword
storage_keyword storages.Typedef = keywords.Typedef
storage_keyword storages.Extern = keywords.Extern
storage_keyword storages.Static = keywords.Static
storage_keyword storages.Auto = keywords.Auto
storage_keyword storages.Register = keywords.Register

-- of a union, or of a structure
abbrev pub tag_keyword : Bool → Keyword
tag_keyword true = keywords.Union
tag_keyword false = keywords.Struct

abbrev pub calling_keyword : Bool → Keyword
calling_keyword true = keywords.CDecl
calling_keyword false = keywords.FastCall

-- a tag that may lack
abbrev pub optional_name : Option Name → Phrase
optional_name None = nothing
optional_name (Some n) = some (kinds.Name n)

-- the comma before each item of a list but the first
abbrev pub comma_unless : Bool → Phrase
comma_unless true = nothing
comma_unless false = some_mark puncts.Comma

-- qualifiers behind a star, in any order and number: whether const and volatile are among them, beside those before
-- (C90 6.5.4.1)
abbrev pub qualifiers_from : Bool → Bool → Bool → Bool → Phrase
qualifiers_from had_const had_volatile c v [] = (had_const ≡ c) × (had_volatile ≡ v)
qualifiers_from had_const had_volatile c v (q ∷ qs) = elim q.kind as (λ _. Type 0) [
  | kinds.Keyword keywords.Const ↦ qualifiers_from true had_volatile c v qs
  | kinds.Keyword keywords.Volatile ↦ qualifiers_from had_const true c v qs
  | _ ↦ ⊥
]

abbrev pub qualifiers : Bool → Bool → Phrase
qualifiers = qualifiers_from false false
