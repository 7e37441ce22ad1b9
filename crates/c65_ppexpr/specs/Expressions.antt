-- Constant expressions of #if (C90 6.4 and 6.8.1), read with a stack of what is open: one step for each symbol.
use Rattle.std.specs.Prelude.{ℕ, List, [], ◌∷◌, nat_le, if◌then◌else◌, Option, Some, None}
use Rattle.c65_base.specs.declared.operators.BinaryOp.TheVariants as ops
use Rattle.c65_ppexpr.specs.declared.value.Value.{Value}
use Rattle.c65_ppexpr.specs.declared.value.Prefix.TheVariants as prefixes
use Rattle.c65_ppexpr.specs.declared.value.Infix.{Infix}
use Rattle.c65_ppexpr.specs.declared.value.Infix.TheVariants as infixes
use Rattle.c65_ppexpr.specs.declared.expression.Symbol.{Symbol}
use Rattle.c65_ppexpr.specs.declared.expression.Symbol.TheVariants as symbols
use Rattle.c65_ppexpr.specs.declared.expression.Frame.{Frame}
use Rattle.c65_ppexpr.specs.declared.expression.Frame.TheVariants as frames
use Rattle.c65_ppexpr.specs.Arithmetic.{prefixed, combined, chosen}

-- how tightly an operator binds (C90 6.3.5 to 6.3.14)
abbrev pub strength : Infix → ℕ
strength infixes.Or = 3
strength infixes.And = 4
strength (infixes.Both ops.BitOr) = 5
strength (infixes.Both ops.BitXor) = 6
strength (infixes.Both ops.BitAnd) = 7
strength (infixes.Both ops.Eq) = 8
strength (infixes.Both ops.Ne) = 8
strength (infixes.Both ops.Lt) = 9
strength (infixes.Both ops.Gt) = 9
strength (infixes.Both ops.Le) = 9
strength (infixes.Both ops.Ge) = 9
strength (infixes.Both ops.Shl) = 10
strength (infixes.Both ops.Shr) = 10
strength (infixes.Both ops.Add) = 11
strength (infixes.Both ops.Sub) = 11
strength (infixes.Both ops.Mul) = 12
strength (infixes.Both ops.Div) = 12
strength (infixes.Both ops.Rem) = 12

-- how tightly a construct holds the value in its last place; 0 where only a symbol of its own closes that place
abbrev pub hold : Frame → ℕ
hold (frames.Before op) = 13
hold frames.Paren = 0
hold (frames.Left op a) = strength op
hold (frames.Then c) = 0
hold (frames.Else c a) = 1

-- the value of a construct with a value in its last place
abbrev pub filled : Frame → Value → Value
filled (frames.Before op) v = prefixed op v
filled frames.Paren v = v
filled (frames.Left op a) v = combined op a v
filled (frames.Then c) v = v
filled (frames.Else c a) v = chosen c a v

-- a value behind which something this tight stands, once the constructs that hold it at least as tightly have it
abbrev pub reduced : ℕ → Value → List Frame → Value × List Frame
reduced tightness v [] = (v, [])
reduced tightness v (f ∷ fs) = if nat_le tightness (hold f) then reduced tightness (filled f v) fs else (v, f ∷ fs)

-- a value is needed next, or one was read
pub data State : Type 0 where
  need : List Frame → State
  have : Value → List Frame → State

abbrev pub needed : List Frame → Symbol → Option State
needed fs (symbols.Operand v) = Some (have v fs)
needed fs (symbols.Operator (infixes.Both ops.Add)) = Some (need (frames.Before prefixes.Plus ∷ fs))
needed fs (symbols.Operator (infixes.Both ops.Sub)) = Some (need (frames.Before prefixes.Neg ∷ fs))
needed fs symbols.BitNot = Some (need (frames.Before prefixes.BitNot ∷ fs))
needed fs symbols.Not = Some (need (frames.Before prefixes.Not ∷ fs))
needed fs symbols.Opening = Some (need (frames.Paren ∷ fs))
needed fs _ = None

abbrev pub closed : Value × List Frame → Option State
closed (v, frames.Paren ∷ fs) = Some (have v fs)
closed _ = None

abbrev pub parted : Value × List Frame → Option State
parted (v, frames.Then c ∷ fs) = Some (need (frames.Else c v ∷ fs))
parted _ = None

abbrev pub opened : (Value → Frame) → Value × List Frame → State
opened frame r = need (frame r.0 ∷ r.1)

-- behind a value: an operator, ? and : of a conditional expression (6.3.15), or a closing parenthesis
abbrev pub behind : Value → List Frame → Symbol → Option State
behind v fs (symbols.Operator op) = Some (opened (frames.Left op) (reduced (strength op) v fs))
behind v fs symbols.Question = Some (opened frames.Then (reduced 2 v fs))
behind v fs symbols.Colon = parted (reduced 1 v fs)
behind v fs symbols.Closing = closed (reduced 1 v fs)
behind v fs _ = None

abbrev pub step : State → Symbol → Option State
step (need fs) symbol = needed fs symbol
step (have v fs) symbol = behind v fs symbol

abbrev pub whole : Value × List Frame → Option Value
whole (v, []) = Some v
whole (v, f ∷ fs) = None

abbrev pub ended : State → Option Value
ended (need fs) = None
ended (have v fs) = whole (reduced 1 v fs)

abbrev pub run : Option State → List Symbol → Option Value
run None symbols = None
run (Some state) [] = ended state
run (Some state) (symbol ∷ symbols) = run (step state symbol) symbols

-- the value of an expression, or None where the symbols are none
abbrev pub value_of : List Symbol → Option Value
value_of symbols = run (Some (need [])) symbols
