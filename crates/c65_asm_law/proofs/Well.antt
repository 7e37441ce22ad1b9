-- Lines that the text can write, and whose numbers are of their types.
use Rattle.std.proofs.Common.{ℕ, ◌<◌, ◌^◌, Bool, true, false, List, [], ◌∷◌, ◌++◌, refl}
use Rattle.std.specs.Prelude.{if◌then◌else◌}
use Rattle.c65_code.specs.declared.line.Operand.{Operand}
use Rattle.c65_code.specs.declared.line.Operand.TheVariants as operands
use Rattle.c65_code.specs.declared.line.Callee.{Callee}
use Rattle.c65_code.specs.declared.line.Callee.TheVariants as callees
use Rattle.c65_code.specs.declared.line.Line.{Line}
use Rattle.c65_code.specs.declared.line.Line.TheVariants.{Label, Do, Call}
use Rattle.c65_code.specs.Parts.{no_parts}
use Rattle.c65_code.specs.Effects.{only_a, only_y, ax, eax}
use Rattle.c65_code.specs.Writable.{IsLetters, without_sreg, with_sreg, IsDirect}

-- a symbol is one of so many
abbrev pub WellOperand : ℕ → Operand → Type 0
WellOperand n (operands.Byte v) = v < 2 ^ 8
WellOperand n (operands.Low sym offset) = (sym.0 < n) × (offset < 2 ^ 16)
WellOperand n (operands.High sym offset) = (sym.0 < n) × (offset < 2 ^ 16)
WellOperand n (operands.Zero at) = at < 2 ^ 8
WellOperand n (operands.At sym offset) = (sym.0 < n) × (offset < 2 ^ 16)
WellOperand n (operands.To label) = label < 2 ^ 32
WellOperand n operands.Nothing = Unit {0}

abbrev pub WellCallee : ℕ → Callee → Type 0
WellCallee n (callees.Routine r) = Unit {0}
WellCallee n (callees.Function f reads gives) = (f.0 < n) × (IsLetters reads × IsLetters gives)
WellCallee n (callees.Pointer reads gives) = IsLetters reads × IsLetters gives

abbrev pub Well : ℕ → Line → Type 0
Well n (Label l) = l < 2 ^ 32
Well n (Do op mode operand) = IsDirect mode × WellOperand n operand
Well n (Call callee) = WellCallee n callee

abbrev pub EachWell : ℕ → List Line → Type 0
EachWell n [] = Unit {0}
EachWell n (line ∷ lines) = Well n line × EachWell n lines

pub record AllWell (n : ℕ) (lines : List Line) : Type 0 where
  pub all : EachWell n lines

each_append : (n : ℕ) (a b : List Line) → EachWell n a → EachWell n b → EachWell n (a ++ b)
each_append n [] b p q = q
each_append n (line ∷ a) b p q = (p.0, each_append n a b p.1 q)

pub well_append : (n : ℕ) (a b : List Line) → AllWell n a → AllWell n b → AllWell n (a ++ b)
well_append n a b p q = record { all = each_append n a b p.all q.all }

pub well_none : (n : ℕ) → AllWell n []
well_none n = record { all = tt }

pub well_more : (n : ℕ) (line : Line) (lines : List Line) → Well n line → AllWell n lines → AllWell n (line ∷ lines)
well_more n line lines p q = record { all = (p, q.all) }

pub well_if : (n : ℕ) (b : Bool) (x y : List Line) → AllWell n x → AllWell n y → AllWell n (if b then x else y)
well_if n true x y p q = p
well_if n false x y p q = q

pub letters_none : IsLetters no_parts
letters_none = without_sreg refl

pub letters_a : IsLetters only_a
letters_a = without_sreg refl

pub letters_y : IsLetters only_y
letters_y = without_sreg refl

pub letters_ax : IsLetters ax
letters_ax = without_sreg refl

pub letters_eax : IsLetters eax
letters_eax = with_sreg refl
