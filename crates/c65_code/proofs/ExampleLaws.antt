-- Results of operators from their rows.
use Rattle.std.proofs.Common.{◌≡◌, ℕ, ◌<◌, Option, Some, ◌∙◌, ap, subst, arith, lit<}
use Rattle.c65_code.specs.declared.routine.Width.{Width}
use Rattle.c65_code.specs.declared.routine.Width.TheVariants.{Ax, Eax}
use Rattle.c65_code.specs.declared.routine.TosOp.{TosOp}
use Rattle.c65_code.specs.declared.routine.TosOp.TheVariants.{Mul, Div, Asr, UMod}
use Rattle.c65_code.specs.declared.routine.Routine.TheVariants.{Tos}
use Rattle.c65_code.specs.Numbers.{tos_result}
use Rattle.c65_code.specs.LineState.{State, ax_of, eax_of}
use Rattle.c65_code.specs.Rows.{Row, Meets, giving_if, costing, popping, tos_cost, row_by}
use Rattle.c65_code.specs.Examples.{GivesResult}

word_given : (o : Option ℕ) (v : ℕ) (row : Row) (t u : State) → o ≡ Some v → v < 65536 → Meets (giving_if Ax o row) t u → ax_of u ≡ v
word_given o v row t u e below m =
    let given : Meets (giving_if Ax (Some v) row) t u = subst (λ p. Meets (giving_if Ax p row) t u) e m in
    omega (arith, given.a, given.x)

long_given : (o : Option ℕ) (v : ℕ) (row : Row) (t u : State) → o ≡ Some v → v < 4294967296 → Meets (giving_if Eax o row) t u → eax_of u ≡ v
long_given o v row t u e below m =
    let given : Meets (giving_if Eax (Some v) row) t u = subst (λ p. Meets (giving_if Eax p row) t u) e m in
    omega (arith, given.a, given.x, given.sreg)

result_at : (op : TosOp) (width : Width) (n p a b : ℕ) → n ≡ a → p ≡ b → tos_result op width n p ≡ tos_result op width a b
result_at op width n p a b e f = ap (λ x. tos_result op width x p) e ∙ ap (λ y. tos_result op width a y) f

pub product : GivesResult Mul Ax 300 300 24464
product t u a b m = word_given _ 24464 (costing (tos_cost Mul) (popping 2 t (row_by (Tos Mul Ax) t))) t u (result_at Mul Ax _ _ 300 300 a b) (lit< tt) m

pub quotient : GivesResult Div Ax 65529 2 0xFFFD
quotient t u a b m = word_given _ 0xFFFD (costing (tos_cost Div) (popping 2 t (row_by (Tos Div Ax) t))) t u (result_at Div Ax _ _ 65529 2 a b) (lit< tt) m

pub shift : GivesResult Asr Ax 65528 1 0xFFFC
shift t u a b m = word_given _ 0xFFFC (costing (tos_cost Asr) (popping 2 t (row_by (Tos Asr Ax) t))) t u (result_at Asr Ax _ _ 65528 1 a b) (lit< tt) m

pub remainder : GivesResult UMod Eax 605032704 251 216
remainder t u a b m = long_given _ 216 (costing (tos_cost UMod) (popping 4 t (row_by (Tos UMod Eax) t))) t u (result_at UMod Eax _ _ 605032704 251 a b) (lit< tt) m
