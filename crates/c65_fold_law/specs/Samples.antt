-- Small programs whose meaning is computed, and one of them folded.
use Rattle.std.specs.Prelude.{ℕ, pos, [], ◌∷◌}
use Rattle.c65_base.specs.declared.operators.BinaryOp.TheVariants.{Add, Mul, Div, Rem, Shr, Eq}
use Rattle.c65_ints.specs.declared.types.IntType.TheVariants as I
use Rattle.c65_ctype.specs.Trees.{int}
use Rattle.c65_csem.specs.Trees.{Typed, node, constant, eval, label, goto}
use Rattle.c65_csem.specs.Places.{plain}
use Rattle.c65_meaning.specs.Program.{ProgramTy}
use Rattle.c65_meaning.specs.Building.{integer, number, below_zero, place, value, with, beside, store, scope, give, initial, local, main_of, program_of}

-- int main(void) { return 300 * 300 == 24464; }
abbrev pub product_wraps : ProgramTy
product_wraps = program_of [] (main_of (give (with Eq (with Mul (number 300) (number 300)) (number 24464))) ∷ [])

-- int main(void) { return -7 / 2 == -3; }
abbrev pub quotient_cut : ProgramTy
quotient_cut = program_of [] (main_of (give (with Eq (with Div (below_zero 6) (number 2)) (below_zero 2))) ∷ [])

-- int main(void) { return -8 >> 1 == -4; }
abbrev pub shift_down : ProgramTy
shift_down = program_of [] (main_of (give (with Eq (with Shr (below_zero 7) (number 1)) (below_zero 3))) ∷ [])

-- a number of type unsigned long
abbrev pub long_number : ℕ → Typed
long_number n = node (plain (int I.ULong)) (constant (pos n))

-- int main(void) { return 605032704UL % 251UL == 216UL; }
abbrev pub long_remainder : ProgramTy
long_remainder = program_of [] (main_of (give (with Eq (beside Rem (long_number 605032704) (long_number 251)) (long_number 216))) ∷ [])

-- int main(void) { int i = 1; { int k = 2; i = k; goto out; } out: return i; }
abbrev pub jump_out : ProgramTy
jump_out = program_of (local integer ∷ local integer ∷ []) (main_of (scope (0 ∷ []) (initial 0 (number 1) ∷ scope (1 ∷ []) (initial 1 (number 2) ∷ eval (store (place integer 0) (value 1)) ∷ goto 0 ∷ []) ∷ label 0 (give (value 0)) ∷ [])) ∷ [])

-- int main(void) { return 1 + 2 * 3; }
abbrev pub sum_of_constants : ProgramTy
sum_of_constants = program_of [] (main_of (give (with Add (number 1) (with Mul (number 2) (number 3)))) ∷ [])
