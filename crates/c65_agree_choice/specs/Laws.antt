-- The lines that choose the case of a `switch` lead where its value says (C90 6.6.4.2).
use Rattle.std.specs.Prelude.{◌≡◌, ℕ, ℤ, true, All, List, Some}
use Rattle.c65_ints.specs.declared.types.IntType.{IntType}
use Rattle.c65_ints.specs.Ranges.{InRange}
use Rattle.c65_csem.specs.Trees.{Stmt, UnitTy}
use Rattle.c65_csem.specs.Statements.{Context, IsStmt, cases_of}
use Rattle.c65_meaning.specs.Integers.{same_number}
use Rattle.c65_agree_stmts.specs.Calling.{Calling}
use Rattle.c65_agree_stmts.specs.Choices.{ChoiceLeads}
use Rattle.c65_agree_choice.specs.Cases.{number_word, HasCases}

-- numbers of one type are the same where their words are
abbrev pub WordsTellNumbers : Type 0
WordsTellNumbers = (kind : IntType) (z y : ℤ) → InRange kind z → InRange kind y
    → (same_number z y ≡ true → number_word kind z ≡ number_word kind y) × (number_word kind z ≡ number_word kind y → same_number z y ≡ true)

-- in a well typed program the cases in the body of a switch are numbers of its type (C90 6.6.4.2)
abbrev pub CasesAreOfType : Type 0
CasesAreOfType = (u : UnitTy) (c : Context) (kind : IntType) (s : Stmt) → IsStmt u c s → c.in_switch ≡ Some kind → All (InRange kind) (cases_of s)

-- for each case by itself, in two or four bytes, and where all cases are bytes by the low byte of a word
abbrev pub ChoicesLead : Type 0
ChoicesLead = (x : Calling) (kind : IntType) (other next first : ℕ) (zs : List ℤ) → HasCases x kind zs → ChoiceLeads x kind other next first zs
