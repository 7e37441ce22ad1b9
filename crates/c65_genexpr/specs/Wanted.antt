-- What is wanted of an expression, and of its parts.
use Rattle.std.specs.Prelude.{ℕ, ◌+◌, Bool, true, false, not, if◌then◌else◌, Option, Some, None, List, [], ◌∷◌, ◌++◌}
use Rattle.c65_mach.specs.declared.rows.Op.{Op}
use Rattle.c65_mach.specs.declared.rows.Op.TheVariants.{Beq, Bne, Jmp}
use Rattle.c65_mach.specs.declared.rows.Mode.TheVariants.{Absolute}
use Rattle.c65_code.specs.declared.line.Operand.TheVariants.{To}
use Rattle.c65_code.specs.declared.line.Line.{Line}
use Rattle.c65_code.specs.declared.line.Line.TheVariants.{Label, Do}
use Rattle.c65_code.specs.declared.routine.Width.{Width}
use Rattle.c65_genload.specs.Words.{branch}
use Rattle.c65_genload.specs.Conversions.{test_code}
use Rattle.c65_gendirect.specs.Tests.{truth_code}
use Rattle.c65_genexpr.specs.declared.wanted.Wanted.{Wanted}
use Rattle.c65_genexpr.specs.declared.wanted.Wanted.TheVariants.{Value, Test}

-- the sense of a test; a value has none
abbrev pub sense_of : Wanted → Option Bool
sense_of Value = None
sense_of (Test to s) = Some s

-- a test in this sense, or a value
abbrev pub wanted_by : Option Bool → ℕ → Wanted
wanted_by None to = Value
wanted_by (Some s) to = Test to s

-- a part that has the same truth is tested in its place; else its value is wanted
abbrev pub handed : Bool → Wanted → Wanted
handed same Value = Value
handed same (Test to s) = if same then Test to s else Value

abbrev pub handed_sense : Bool → Option Bool → Option Bool
handed_sense same None = None
handed_sense same (Some s) = if same then Some s else None

-- by whether a value is not zero, behind a test of it
abbrev pub by_sense : Bool → Op
by_sense s = if s then Bne else Beq

abbrev pub branch_code : Bool → ℕ → List Line
branch_code s to = branch (by_sense s) to ∷ []

-- behind a value
abbrev pub value_test_code : Width → Bool → ℕ → List Line
value_test_code width s to = test_code width ++ branch_code s to

-- the lines of a value, from which the truth is taken where a test is wanted
abbrev pub wanted : Wanted → Width → List Line → List Line
wanted Value width lines = lines
wanted (Test to s) width lines = lines ++ value_test_code width s to

-- a truth that is known: a jump where it is s
abbrev pub decided_code : Bool → Bool → ℕ → List Line
decided_code true true to = Do Jmp Absolute (To to) ∷ []
decided_code false false to = Do Jmp Absolute (To to) ∷ []
decided_code _ _ to = []

-- ---- comparisons, `!`, `&&` and `||`: where the value is wanted, a test leads to the first of two labels if it fails

abbrev pub aimed : Wanted → ℕ → ℕ
aimed Value fresh = fresh
aimed (Test to s) fresh = to

abbrev pub aimed_sense : Option Bool → Bool
aimed_sense None = false
aimed_sense (Some s) = s

abbrev pub sense : Wanted → Bool
sense w = aimed_sense (sense_of w)

abbrev pub truth_labels : Option Bool → ℕ
truth_labels None = 2
truth_labels (Some s) = 0

-- the first label behind these
abbrev pub inner : Wanted → ℕ → ℕ
inner w fresh = fresh + truth_labels (sense_of w)

-- behind such a test
abbrev pub truth_by : Wanted → ℕ → List Line → List Line
truth_by Value fresh lines = lines ++ truth_code fresh
truth_by (Test to s) fresh lines = lines

-- ---- `&&` and `||`, which a left side decides whose truth is stop

-- whether the whole then has the truth that a test asks for: the left side leads where the whole does, else behind the right one
abbrev pub is_straight : Bool → Bool → Bool
is_straight stop s = if stop then s else not s

abbrev pub way : Bool → ℕ → ℕ → ℕ
way straight to own = if straight then to else own

abbrev pub way_labels : Bool → ℕ
way_labels straight = if straight then 0 else 1

abbrev pub joined : Bool → ℕ → List Line → List Line → List Line
joined straight own a b = a ++ (b ++ (if straight then [] else Label own ∷ []))
