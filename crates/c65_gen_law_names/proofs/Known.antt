-- Lines all of whose symbols are known.
use Rattle.std.proofs.Common.{ℕ, Bool, true, false, List, [], ◌∷◌, ◌++◌}
use Rattle.std.specs.Prelude.{if◌then◌else◌}
use Rattle.c65_code.specs.declared.line.Operand.{Operand}
use Rattle.c65_code.specs.declared.line.Operand.TheVariants as operands
use Rattle.c65_code.specs.declared.line.Callee.{Callee}
use Rattle.c65_code.specs.declared.line.Callee.TheVariants as callees
use Rattle.c65_code.specs.declared.line.Line.{Line}
use Rattle.c65_code.specs.declared.line.Line.TheVariants.{Label, Do, Call}

abbrev pub KnownOperand : (ℕ → Type 0) → Operand → Type 0
KnownOperand P (operands.Low sym offset) = P sym.0
KnownOperand P (operands.High sym offset) = P sym.0
KnownOperand P (operands.At sym offset) = P sym.0
KnownOperand P _ = Unit {0}

abbrev pub KnownCallee : (ℕ → Type 0) → Callee → Type 0
KnownCallee P (callees.Function f reads gives) = P f.0
KnownCallee P _ = Unit {0}

abbrev pub KnownLine : (ℕ → Type 0) → Line → Type 0
KnownLine P (Label l) = Unit {0}
KnownLine P (Do op mode operand) = KnownOperand P operand
KnownLine P (Call callee) = KnownCallee P callee

abbrev AlsoOperand : (ℕ → Type 0) → Operand → Type 0 → Type 0
AlsoOperand P (operands.Low sym offset) rest = P sym.0 × rest
AlsoOperand P (operands.High sym offset) rest = P sym.0 × rest
AlsoOperand P (operands.At sym offset) rest = P sym.0 × rest
AlsoOperand P _ rest = rest

abbrev AlsoCallee : (ℕ → Type 0) → Callee → Type 0 → Type 0
AlsoCallee P (callees.Function f reads gives) rest = P f.0 × rest
AlsoCallee P _ rest = rest

abbrev AlsoLine : (ℕ → Type 0) → Line → Type 0 → Type 0
AlsoLine P (Label l) rest = rest
AlsoLine P (Do op mode operand) rest = AlsoOperand P operand rest
AlsoLine P (Call callee) rest = AlsoCallee P callee rest

-- a line that names no symbol asks for nothing
abbrev pub EachKnown : (ℕ → Type 0) → List Line → Type 0
EachKnown P [] = Unit {0}
EachKnown P (line ∷ lines) = AlsoLine P line (EachKnown P lines)

pub record AllKnown (P : ℕ → Type 0) (lines : List Line) : Type 0 where
  pub all : EachKnown P lines

with_operand : (P : ℕ → Type 0) (operand : Operand) (A : Type 0) → KnownOperand P operand → A → AlsoOperand P operand A
with_operand P operands.Nothing A p a = a
with_operand P (operands.Byte v) A p a = a
with_operand P (operands.Low sym offset) A p a = (p, a)
with_operand P (operands.High sym offset) A p a = (p, a)
with_operand P (operands.Zero at) A p a = a
with_operand P (operands.At sym offset) A p a = (p, a)
with_operand P (operands.To label) A p a = a

with_line : (P : ℕ → Type 0) (line : Line) (A : Type 0) → KnownLine P line → A → AlsoLine P line A
with_line P (Label l) A p a = a
with_line P (Do op mode operand) A p a = with_operand P operand A p a
with_line P (Call (callees.Routine r)) A p a = a
with_line P (Call (callees.Function f reads gives)) A p a = (p, a)
with_line P (Call (callees.Pointer reads gives)) A p a = a

operand_of : (P : ℕ → Type 0) (operand : Operand) (A : Type 0) → AlsoOperand P operand A → KnownOperand P operand × A
operand_of P operands.Nothing A a = (tt, a)
operand_of P (operands.Byte v) A a = (tt, a)
operand_of P (operands.Low sym offset) A a = a
operand_of P (operands.High sym offset) A a = a
operand_of P (operands.Zero at) A a = (tt, a)
operand_of P (operands.At sym offset) A a = a
operand_of P (operands.To label) A a = (tt, a)

pub line_of : (P : ℕ → Type 0) (line : Line) (A : Type 0) → AlsoLine P line A → KnownLine P line × A
line_of P (Label l) A a = (tt, a)
line_of P (Do op mode operand) A a = operand_of P operand A a
line_of P (Call (callees.Routine r)) A a = (tt, a)
line_of P (Call (callees.Function f reads gives)) A a = a
line_of P (Call (callees.Pointer reads gives)) A a = (tt, a)

each_then : (P : ℕ → Type 0) (a b : List Line) → EachKnown P a → EachKnown P b → EachKnown P (a ++ b)
each_then P [] b p q = q
each_then P (line ∷ a) b p q = let first = line_of P line (EachKnown P a) p in with_line P line (EachKnown P (a ++ b)) first.0 (each_then P a b first.1 q)

pub known_none : {P : ℕ → Type 0} → AllKnown P []
known_none = record { all = tt }

pub known_then : {P : ℕ → Type 0} {a b : List Line} → AllKnown P a → AllKnown P b → AllKnown P (a ++ b)
known_then {P = P} {a = a} {b = b} p q = record { all = each_then P a b p.all q.all }

pub known_more : {P : ℕ → Type 0} {line : Line} {lines : List Line} → KnownLine P line → AllKnown P lines → AllKnown P (line ∷ lines)
known_more {P = P} {line = line} {lines = lines} p q = record { all = with_line P line (EachKnown P lines) p q.all }

pub known_if : {P : ℕ → Type 0} (b : Bool) {x y : List Line} → AllKnown P x → AllKnown P y → AllKnown P (if b then x else y)
known_if true p q = p
known_if false p q = q
