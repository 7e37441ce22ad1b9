-- Lines whose symbols are known name no others, those of an expression and of a function among them.
use Rattle.std.proofs.Common.{◌≡◌, ℕ, zero, suc, Some, List, [], ◌∷◌, slice_get, subst}
use Rattle.std.specs.Prelude.{IsTrue}
use Rattle.c65_code.specs.declared.line.Operand.{Operand}
use Rattle.c65_code.specs.declared.line.Operand.TheVariants as operands
use Rattle.c65_code.specs.declared.line.Callee.TheVariants as callees
use Rattle.c65_code.specs.declared.line.Line.{Line}
use Rattle.c65_code.specs.declared.line.Line.TheVariants.{Label, Do, Call}
use Rattle.c65_code.specs.Named.{OperandNames, LineNames}
use Rattle.c65_genexpr.specs.Code.{expr_code}
use Rattle.c65_genstmt.specs.Functions.{no_lines, with_function}
use Rattle.c65_gen_law_names.specs.Laws.{ExpressionsNameTheirItems, FunctionsNameTheirItems}
use Rattle.c65_gen_law_names.proofs.Known.{EachKnown, KnownLine, KnownOperand, line_of}
use Rattle.c65_gen_law_names.proofs.Exprs.{expr_known}
use Rattle.c65_gen_law_names.proofs.Functions.{body_known}

operand_there : (P : ℕ → Type 0) (operand : Operand) (k : ℕ) → KnownOperand P operand → OperandNames operand k → P k
operand_there P operands.Nothing k p e = absurd e
operand_there P (operands.Byte v) k p e = absurd e
operand_there P (operands.Low s offset) k p e = subst P e p
operand_there P (operands.High s offset) k p e = subst P e p
operand_there P (operands.Zero at) k p e = absurd e
operand_there P (operands.At s offset) k p e = subst P e p
operand_there P (operands.To label) k p e = absurd e

pub line_there : (P : ℕ → Type 0) (line : Line) (k : ℕ) → KnownLine P line → LineNames line k → P k
line_there P (Label l) k p e = absurd e
line_there P (Do op mode operand) k p e = operand_there P operand k p e
line_there P (Call (callees.Routine r)) k p e = absurd e
line_there P (Call (callees.Function g reads gives)) k p e = subst P e p
line_there P (Call (callees.Pointer reads gives)) k p e = absurd e

pub lines_at : (P : ℕ → Type 0) (lines : List Line) (i : ℕ) (line : Line) → EachKnown P lines → slice_get lines i ≡ Some line → KnownLine P line
lines_at P [] i line h e = absurd cc
lines_at P (x ∷ lines) zero line h e = let same : x ≡ line = cc in subst (KnownLine P) same (line_of P x (EachKnown P lines) h).0
lines_at P (x ∷ lines) (suc i) line h e = lines_at P lines i line (line_of P x (EachKnown P lines) h).1 e

pub expressions_name_their_items : ExpressionsNameTheirItems
expressions_name_their_items known f pushed fresh w e i symbol line h at named =
    line_there (λ s. IsTrue (known s)) line symbol (lines_at (λ s. IsTrue (known s)) (expr_code f pushed fresh w e) i line (expr_known (λ s. IsTrue (known s)) f pushed fresh w e h).all at) named

pub functions_name_their_items : FunctionsNameTheirItems
functions_name_their_items known f is_main body out i symbol line h at named =
    line_there (λ s. IsTrue (known s)) line symbol (lines_at (λ s. IsTrue (known s)) (with_function f is_main (Some body) (no_lines out)).lines i line (body_known (λ s. IsTrue (known s)) f is_main body out h).all at) named
