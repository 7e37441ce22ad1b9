-- Assignments of numbers and pointers (C90 6.3.16.1).
use Rattle.std.specs.Prelude.{◌≡◌, ℕ, ◌+◌, ◌≤◌, ◌⊎◌, true, false, Some}
use Rattle.c65_ctype.specs.Trees.{QTy}
use Rattle.c65_ints.specs.declared.types.IntType.{IntType}
use Rattle.c65_csem.specs.Trees.{Typed, node, object, assign}
use Rattle.c65_csem.specs.Places.{is_bit_field}
use Rattle.c65_csem.specs.Typed.{IsTyped}
use Rattle.c65_csem_need.specs.Needs.{need}
use Rattle.c65_meaning.specs.Store.{Number}
use Rattle.c65_meaning.specs.Items.{plan}
use Rattle.c65_gendirect.specs.declared.through.Stored.{Stored}
use Rattle.c65_code.specs.Placement.{IsPlacement}
use Rattle.c65_genframe.specs.declared.home.Home.TheVariants as homes
use Rattle.c65_genframe.specs.Frames.{home_of}
use Rattle.c65_genexpr.specs.declared.storing.Storing.TheVariants.{Left, HeldByte, HeldWord, Stacked}
use Rattle.c65_genexpr.specs.declared.storing.Storing.{Storing}
use Rattle.c65_genexpr.specs.declared.wanted.Wanted.TheVariants.{Value}
use Rattle.c65_genexpr.specs.Storing.{storing_of}
use Rattle.c65_genexpr.specs.Code.{expr_code}
use Rattle.c65_agree_state.specs.World.{World, unit_in, Active}
use Rattle.c65_agree_state.specs.Exprs.{Valued, Does, shape_in, ExpressionDoes}
use Rattle.c65_agree_assign.specs.Places.{bytes_in, extent_in}
use Rattle.c65_agree_direct.specs.Laws.{IsFrameOf}
use Rattle.c65_agree_load.specs.Objects.{IsHomed}
use Rattle.c65_agree_access.specs.Pointed.{PointedDoes}
use Rattle.c65_agree_operate.specs.Manners.{usual, DoesIn}
use Rattle.c65_agree_structures.specs.Bases.{BaseDoes}

-- the lines of an assignment do its work, where so many bytes wait
abbrev pub AssignmentDoes : World → Active → ℕ → QTy → Typed → Typed → Type 0
AssignmentDoes g a pushed t x y = (fresh : ℕ) → Does g a Valued (shape_in g a (node t (assign x y))) (plan (unit_in g) (node t (assign x y))) (need (node t (assign x y))) pushed (expr_code a.frame pushed fresh Value (node t (assign x y)))

-- So they do where the place is known, or its address waits on the software stack while the value comes.
abbrev pub StackedAssignmentsDo : Type 0
StackedAssignmentsDo = (g : World) (a : Active) (pushed : ℕ) (t : QTy) (x y : Typed) → IsPlacement g.code g.place → a.frame.parts ≡ g.parts → IsTyped (unit_in g) (node t (assign x y)) → is_bit_field (unit_in g).types x ≡ false
    → storing_of a.frame pushed x y ≡ Stacked → BaseDoes g a x → ExpressionDoes g a y → AssignmentDoes g a pushed t x y

-- the address waits in ptr2 while the value comes
abbrev pub IsHeldForm : Storing → ℕ → Type 0
IsHeldForm how at = (how ≡ HeldByte at) ⊎ (how ≡ HeldWord at)

-- So they do where those of the value leave ptr2.
abbrev pub HeldAssignmentsDo : Type 0
HeldAssignmentsDo = (g : World) (a : Active) (pushed at : ℕ) (t : QTy) (x y : Typed) → IsPlacement g.code g.place → a.frame.parts ≡ g.parts → IsTyped (unit_in g) (node t (assign x y)) → is_bit_field (unit_in g).types x ≡ false
    → IsHeldForm (storing_of a.frame pushed x y) at → BaseDoes g a x → ((fresh : ℕ) → DoesIn g a (record usual { light = true }) Valued (shape_in g a y) (plan (unit_in g) y) (need y) pushed (expr_code a.frame pushed fresh Value y)) → AssignmentDoes g a pushed t x y

-- And where the number is read behind the address of the place in ptr1.
abbrev pub LeftAssignmentsDo : Type 0
LeftAssignmentsDo = (g : World) (a : Active) (pushed at : ℕ) (stored : Stored) (t : QTy) (x y : Typed) (kind : IntType) → IsPlacement g.code g.place → IsFrameOf g a → IsTyped (unit_in g) (node t (assign x y)) → is_bit_field (unit_in g).types x ≡ false
    → shape_in g a x ≡ Number kind → storing_of a.frame pushed x y ≡ Left at stored → PointedDoes g a x → AssignmentDoes g a pushed t x y

-- And so they do where the object has its home in regbank, among the bytes that the function's frame takes: no number of four bytes has.
abbrev pub BankedAssignmentsDo : Type 0
BankedAssignmentsDo = (g : World) (a : Active) (t s : QTy) (i b : ℕ) (y : Typed) → IsPlacement g.code g.place → a.frame.parts ≡ g.parts → IsTyped (unit_in g) (node t (assign (node s (object i)) y))
    → IsHomed g a i → home_of a.frame i ≡ Some (homes.Bank b) → bytes_in (extent_in (shape_in g a (node s (object i)))) ≤ 2 → b + bytes_in (extent_in (shape_in g a (node s (object i)))) ≤ a.frame.bank
    → ExpressionDoes g a y → ExpressionDoes g a (node t (assign (node s (object i)) y))
