-- What holds of the lines of every routine.
use Rattle.std.proofs.Common.{◌≡◌, ℕ, zero, suc, ◌<◌, ◌||◌, not, Bool, true, false, nat_lt, List, [], ◌∷◌, Option, Some, None, slice_get, refl, ap, sym, ◌∙◌, ltb-true}
use Rattle.std.specs.List.{list_all}
use Rattle.std.proofs.lemmas.Bool.{and_parts}
use Rattle.c65_code.specs.declared.routine.Routine.{Routine}
use Rattle.c65_code.specs.declared.routine.TheConstants.Routine.{ALL}
use Rattle.c65_code.specs.Numbering.{number_of}
use Rattle.c65_code.proofs.RoutineNumbers.{routines_are_numbered}
use Rattle.c65_code.specs.declared.line.Operand.{Operand}
use Rattle.c65_code.specs.declared.line.Operand.TheVariants as operands
use Rattle.c65_code.specs.declared.line.Line.{Line}
use Rattle.c65_code.specs.declared.line.Line.TheVariants.{Do}
use Rattle.c65_code.specs.Processors.{is_nmos_line}
use Rattle.c65_link.specs.Runtime.{has_lines, routine_lines}
use Rattle.c65_link_law_follow.specs.Laid.{IsOperandNumber, IsLineNumber, hook_address}
use Rattle.c65_link_law_laid.proofs.Walk.{same_there, names_none}

pub all_there : {A : Type 0} (test : A → Bool) (xs : List A) (i : ℕ) (x : A) → list_all test xs ≡ true → slice_get xs i ≡ Some x → test x ≡ true
all_there test [] i x h here = absurd cc
all_there test (y ∷ xs) zero x h here = ap test (sym (same_there y x here)) ∙ (and_parts (test y) (list_all test xs) h).0
all_there test (y ∷ xs) (suc i) x h here = all_there test xs i x (and_parts (test y) (list_all test xs) h).1 here

-- a test that all routines pass
pub of_all : (test : Routine → Bool) (r : Routine) → list_all test ALL ≡ true → test r ≡ true
of_all test r h = all_there test ALL (number_of r) r h (routines_are_numbered r)

abbrev is_operand_number : Operand → Bool
is_operand_number (operands.Byte v) = nat_lt v 256
is_operand_number (operands.Zero i) = nat_lt i 256
is_operand_number _ = true

abbrev pub is_line_number : Line → Bool
is_line_number (Do op mode operand) = is_operand_number operand
is_line_number _ = true

operand_number : (operand : Operand) → is_operand_number operand ≡ true → IsOperandNumber operand
operand_number (operands.Byte v) h = ltb-true v 256 h
operand_number (operands.Zero i) h = ltb-true i 256 h
operand_number _ h = tt

pub line_number : (line : Line) → is_line_number line ≡ true → IsLineNumber line
line_number (Do op mode operand) h = operand_number operand h
line_number _ h = tt

pub numbers_there : (r : Routine) (p : ℕ) (l : Line) → slice_get (routine_lines r) p ≡ Some l → IsLineNumber l
numbers_there r p l here = line_number l (all_there is_line_number (routine_lines r) p l (of_all (λ r. list_all is_line_number (routine_lines r)) r refl) here)

pub nmos_there : (r : Routine) (p : ℕ) (l : Line) → slice_get (routine_lines r) p ≡ Some l → is_nmos_line l ≡ true
nmos_there r p l here = all_there is_nmos_line (routine_lines r) p l (of_all (λ r. list_all is_nmos_line (routine_lines r)) r refl) here

-- the two starts
abbrev pub is_start : Routine → Bool
is_start r = nat_lt (number_of r) 2

pub either : (a b : Bool) → (a || b) ≡ true → a ≡ false → b ≡ true
either true b h e = absurd cc
either false b h e = h

pub none_named : (r : Routine) → is_start r ≡ false → list_all names_none (routine_lines r) ≡ true
none_named r h = either (is_start r) (list_all names_none (routine_lines r)) (of_all (λ r. is_start r || list_all names_none (routine_lines r)) r refl) h

-- a routine has lines or is a hook
abbrev is_some : Option ℕ → Bool
is_some None = false
is_some (Some n) = true

pub lined : (r : Routine) → hook_address r ≡ None → has_lines r ≡ true
lined r h = either (is_some (hook_address r)) (has_lines r) (of_all (λ r. is_some (hook_address r) || has_lines r) r refl) (ap is_some h)

pub low_number : (r : Routine) → has_lines r ≡ true → number_of r < 117
low_number r h = ltb-true (number_of r) 117 (either (not (has_lines r)) (nat_lt (number_of r) 117) (of_all (λ r. not (has_lines r) || nat_lt (number_of r) 117) r refl) (ap not h))
