-- Lines of #if and #elif: from tokens to whether the condition holds (C90 6.8.1).
use Rattle.std.specs.Prelude.{◌≡◌, ℕ, pos, List, [], ◌∷◌, ◌++◌, Bool, true, false, not, ◌&&◌, ◌||◌, nat_lt, if◌then◌else◌, Option, Some, None, Result, Ok, Err}
use Rattle.c65_base.specs.declared.code.Code.{Code}
use Rattle.c65_base.specs.declared.code.Code.TheVariants as faults
use Rattle.c65_base.specs.declared.operators.BinaryOp.TheVariants as ops
use Rattle.c65_base.specs.declared.refusal.Pos.{Pos}
use Rattle.c65_base.specs.declared.refusal.Refusal.{Refusal}
use Rattle.c65_base.specs.declared.refusal.Refusal.TheVariants.{OutOfMemory}
use Rattle.c65_base.specs.Answers.{Fault, at, large, Gives, ◌>>=◌}
use Rattle.c65_lex.specs.declared.token.PpKind.{PpKind}
use Rattle.c65_lex.specs.declared.token.PpKind.TheVariants as kinds
use Rattle.c65_lex.specs.declared.token.PpToken.{PpToken}
use Rattle.c65_lex.specs.Spellings.{among}
use Rattle.c65_macro.specs.Items.{Outcome, unfinished, faulty, done}
use Rattle.c65_macro.specs.Table.{Table}
use Rattle.c65_scan.specs.declared.token.Punct.{Punct}
use Rattle.c65_scan.specs.declared.token.Punct.TheVariants as puncts
use Rattle.c65_scan.specs.declared.token.Token.{Token}
use Rattle.c65_scan.specs.declared.token.TokenKind.{TokenKind}
use Rattle.c65_scan.specs.declared.token.TokenKind.TheVariants as tokens
use Rattle.c65_scan.specs.Tokens.{spelling_in, tokens_of}
use Rattle.c65_ppexpr.specs.declared.expression.Symbol.{Symbol}
use Rattle.c65_ppexpr.specs.declared.expression.Symbol.TheVariants as symbols
use Rattle.c65_ppline.specs.declared.line.Cut.{Cut}
use Rattle.c65_ppline.specs.declared.line.Line.{Line}
use Rattle.c65_ppexpr.specs.declared.value.Flaw.{Flaw}
use Rattle.c65_ppexpr.specs.declared.value.Flaw.TheVariants.{Division, Shift}
use Rattle.c65_ppexpr.specs.declared.value.Infix.TheVariants as infixes
use Rattle.c65_ppexpr.specs.declared.value.Value.{Value}
use Rattle.c65_ppexpr.specs.Arithmetic.{value, is_zero}
use Rattle.c65_ppline.specs.Expansions.{ReadsExpansion}
use Rattle.c65_ppexpr.specs.Expressions.{value_of}
use Rattle.c65_ppline.specs.Lines.{rest, cut_fault}
use Rattle.c65_ppline.specs.Tokens.{is_kind_number}
use Rattle.c65_ppexpr.specs.Resolved.{anything, resolved}

abbrev pub symbol_of_punct : Punct → Symbol
symbol_of_punct puncts.OpenParen = symbols.Opening
symbol_of_punct puncts.CloseParen = symbols.Closing
symbol_of_punct puncts.Question = symbols.Question
symbol_of_punct puncts.Colon = symbols.Colon
symbol_of_punct puncts.Tilde = symbols.BitNot
symbol_of_punct puncts.Exclamation = symbols.Not
symbol_of_punct puncts.Star = symbols.Operator (infixes.Both ops.Mul)
symbol_of_punct puncts.Slash = symbols.Operator (infixes.Both ops.Div)
symbol_of_punct puncts.Percent = symbols.Operator (infixes.Both ops.Rem)
symbol_of_punct puncts.Plus = symbols.Operator (infixes.Both ops.Add)
symbol_of_punct puncts.Minus = symbols.Operator (infixes.Both ops.Sub)
symbol_of_punct puncts.ShiftLeft = symbols.Operator (infixes.Both ops.Shl)
symbol_of_punct puncts.ShiftRight = symbols.Operator (infixes.Both ops.Shr)
symbol_of_punct puncts.Less = symbols.Operator (infixes.Both ops.Lt)
symbol_of_punct puncts.Greater = symbols.Operator (infixes.Both ops.Gt)
symbol_of_punct puncts.LessEqual = symbols.Operator (infixes.Both ops.Le)
symbol_of_punct puncts.GreaterEqual = symbols.Operator (infixes.Both ops.Ge)
symbol_of_punct puncts.EqualEqual = symbols.Operator (infixes.Both ops.Eq)
symbol_of_punct puncts.NotEqual = symbols.Operator (infixes.Both ops.Ne)
symbol_of_punct puncts.Ampersand = symbols.Operator (infixes.Both ops.BitAnd)
symbol_of_punct puncts.Caret = symbols.Operator (infixes.Both ops.BitXor)
symbol_of_punct puncts.Bar = symbols.Operator (infixes.Both ops.BitOr)
symbol_of_punct puncts.AndAnd = symbols.Operator infixes.And
symbol_of_punct puncts.OrOr = symbols.Operator infixes.Or
symbol_of_punct _ = symbols.Stranger

-- a number is unsigned by its suffix, and a value where long has it not
abbrev pub is_unsigned : PpKind → List ℕ → ℕ → Bool
is_unsigned kind spelling n = (is_kind_number kind && (among spelling 117 || among spelling 85)) || nat_lt 2147483647 n

abbrev pub symbol_in : PpKind → List ℕ → TokenKind → Symbol
symbol_in kind spelling (tokens.Number type n) = symbols.Operand (value (is_unsigned kind spelling n) (pos n))
symbol_in kind spelling (tokens.Punct p) = symbol_of_punct p
symbol_in kind spelling _ = symbols.Stranger

abbrev pub first_symbol : PpKind → List ℕ → List Token → Symbol
first_symbol kind spelling [] = symbols.Stranger
first_symbol kind spelling (t ∷ ts) = symbol_in kind spelling t.kind

-- the faults of a token which is none; that a constant is no integer is not among them
abbrev pub is_token_fault : Code → Bool
is_token_fault faults.StrayByte = true
is_token_fault faults.OpenLiteral = true
is_token_fault faults.BadNumber = true
is_token_fault faults.NumberRange = true
is_token_fault faults.BadEscape = true
is_token_fault faults.CharConstant = true
is_token_fault faults.Wide = true
is_token_fault _ = false

abbrev pub scanned : PpKind → List ℕ → Result (List Token) Fault → Result Symbol Fault
scanned kind spelling (Ok ts) = Ok (first_symbol kind spelling ts)
scanned kind spelling (Err (at code place)) = if is_token_fault code then Err (at code place) else Ok symbols.Stranger
scanned kind spelling (Err (large limit number)) = Ok symbols.Stranger

-- a name that is left stands for 0
abbrev pub symbol_by : List (List ℕ) → PpKind → PpToken → Result Symbol Fault
symbol_by names kinds.Name t = Ok (symbols.Operand (value false (pos 0)))
symbol_by names kinds.Text t = Ok symbols.Stranger
symbol_by names _ t = scanned t.kind (spelling_in names t.spelling) (tokens_of names (t ∷ []))

abbrev pub symbol_of : List (List ℕ) → PpToken → Result Symbol Fault
symbol_of names t = symbol_by names t.kind t

abbrev pub symbols_of : List (List ℕ) → List Symbol → List PpToken → Result (List Symbol) Fault
symbols_of names out [] = Ok out
symbols_of names out (t ∷ ts) = symbol_of names t >>= λ s. symbols_of names (out ++ s ∷ []) ts

-- a flaw in a part that counts is a fault of the directive
abbrev pub by_flaw : Pos → Value → Option Flaw → Result Bool Fault
by_flaw hash v None = Ok (not (is_zero v))
by_flaw hash v (Some Division) = Err (at faults.IfDivision hash)
by_flaw hash v (Some Shift) = Err (at faults.IfExpression hash)

abbrev pub decided : Pos → Option Value → Result Bool Fault
decided hash None = Err (at faults.IfExpression hash)
decided hash (Some v) = by_flaw hash v v.flaw

-- whether the condition of expanded tokens holds
abbrev pub holds : Pos → List (List ℕ) → List PpToken → Result Bool Fault
holds hash names ts = symbols_of names [] ts >>= λ ss. decided hash (value_of ss)

-- the rest is expanded behind each `defined`
abbrev pub IsHeld : Table → Pos → Outcome (Option (List PpToken)) → List (List ℕ) → Result Bool Refusal → Type 0
IsHeld table hash unfinished known result' = result' ≡ Err OutOfMemory
IsHeld table hash (faulty fault) known result' = Gives {Y = Bool} (λ b. b) result' (Err fault)
IsHeld table hash (done names None) known result' = Gives {Y = Bool} (λ b. b) result' (Err (at faults.IfExpression hash))
IsHeld table hash (done names (Some ts)) known result' = ReadsExpansion (λ b. b) (holds hash) table names ts known result'

abbrev pub IsConditionOf : Option Cut → Table → List (List ℕ) → Line → List (List ℕ) → Result Bool Refusal → Type 0
IsConditionOf (Some cut) table names line known result' = Gives {Y = Bool} (λ b. b) result' (Err (cut_fault cut)) × (known ≡ names)
IsConditionOf None table names line known result' = IsHeld table line.hash (resolved table anything names [] (rest line)) known result'

-- whether the condition of an #if or #elif line holds
abbrev pub IsCondition : Table → List (List ℕ) → Line → List (List ℕ) → Result Bool Refusal → Type 0
IsCondition table names line known result' = IsConditionOf line.cut table names line known result'
