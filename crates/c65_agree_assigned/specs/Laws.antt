-- Assignments of numbers and pointers, in whatever form the generator has them (C90 6.3.16.1).
use Rattle.std.specs.Prelude.{◌≡◌, ℕ, ◌+◌, ◌≤◌, ◌⊎◌, false, Some, None}
use Rattle.c65_ctype.specs.Trees.{QTy}
use Rattle.c65_csem.specs.Trees.{Typed, node, object, assign}
use Rattle.c65_csem.specs.Places.{is_bit_field}
use Rattle.c65_csem.specs.Typed.{IsTyped}
use Rattle.c65_csem_need.specs.Needs.{need}
use Rattle.c65_meaning.specs.Store.{Pointer}
use Rattle.c65_meaning.specs.Items.{plan}
use Rattle.c65_code.specs.Placement.{IsPlacement}
use Rattle.c65_genframe.specs.declared.home.Home.TheVariants as homes
use Rattle.c65_genframe.specs.Frames.{home_of}
use Rattle.c65_gendirect.specs.declared.bytes.OperandByte.{OperandByte}
use Rattle.c65_gendirect.specs.declared.direct.Direct.{Direct}
use Rattle.c65_gendirect.specs.declared.through.Stored.{Stored}
use Rattle.c65_genexpr.specs.declared.storing.Storing.{Storing}
use Rattle.c65_genexpr.specs.declared.storing.Storing.TheVariants.{Left, RightByte, RightWord}
use Rattle.c65_genexpr.specs.declared.wanted.Wanted.TheVariants.{Value}
use Rattle.c65_genexpr.specs.Code.{expr_code}
use Rattle.c65_genexpr.specs.Direct.{direct_of, is_pure}
use Rattle.c65_genexpr.specs.Elements.{element_at}
use Rattle.c65_genexpr.specs.Operating.{is_light}
use Rattle.c65_genexpr.specs.Storing.{storing_of}
use Rattle.c65_agree_state.specs.World.{World, unit_in, Active}
use Rattle.c65_agree_state.specs.Exprs.{Valued, shape_in, ExpressionDoes}
use Rattle.c65_agree_assign.specs.Places.{bytes_in, extent_in}
use Rattle.c65_agree_direct.specs.Operands.{IsLocated}
use Rattle.c65_agree_direct.specs.Laws.{IsFrameOf}
use Rattle.c65_agree_load.specs.Objects.{IsHomed}
use Rattle.c65_agree_stmts.specs.Effects.{EffectDoes}
use Rattle.c65_agree_operate.specs.Manners.{usual, DoesIn}
use Rattle.c65_agree_structures.specs.Bases.{BaseDoes}
use Rattle.c65_agree_access.specs.Pointed.{PointedDoes}
use Rattle.c65_agree_access.specs.StoreLaws.{AssignmentDoes}

-- ---- the pointer is read behind the value

-- and comes to ptr1 then
abbrev pub IsRightForm : Storing → ℕ → OperandByte → OperandByte → Type 0
IsRightForm how at low high = (how ≡ RightByte at low high) ⊎ (how ≡ RightWord at low high)

-- The lines of an assignment do its work where those of the value do theirs, and change nothing where the generator says so.
abbrev pub RightAssignmentsDo : Type 0
RightAssignmentsDo = (g : World) (a : Active) (pushed at : ℕ) (low high : OperandByte) (t : QTy) (x y : Typed) → IsPlacement g.code g.place → IsFrameOf g a → IsTyped (unit_in g) (node t (assign x y)) → is_bit_field (unit_in g).types x ≡ false
    → IsRightForm (storing_of a.frame pushed x y) at low high
    → ((fresh : ℕ) → DoesIn g a (record usual { pure = is_pure y }) Valued (shape_in g a y) (plan (unit_in g) y) (need y) pushed (expr_code a.frame pushed fresh Value y)) → AssignmentDoes g a pushed t x y

-- ---- the value is a pointer that is read behind the address

-- The symbols whose addresses a tree takes are below 2 to the 16, as all that have a datum or lines are.
abbrev pub AreLocated : World → Active → Typed → Type 0
AreLocated g a e = (pushed : ℕ) (d : Direct) → direct_of a.frame pushed e ≡ Some d → IsLocated g d

-- So do they where a pointer is read behind the address of the place in ptr1.
abbrev pub LeftPointersDo : Type 0
LeftPointersDo = (g : World) (a : Active) (pushed at size : ℕ) (stored : Stored) (t : QTy) (x y : Typed) → IsPlacement g.code g.place → IsFrameOf g a → IsTyped (unit_in g) (node t (assign x y)) → is_bit_field (unit_in g).types x ≡ false
    → shape_in g a x ≡ Pointer size → storing_of a.frame pushed x y ≡ Left at stored → AreLocated g a y → PointedDoes g a x → AssignmentDoes g a pushed t x y

-- ---- all forms

-- an object of the call that has its home in regbank, among the bytes that the function's frame takes: no number of four bytes has
abbrev pub IsBanked : World → Active → Typed → Type 0
IsBanked g a (node t (object i)) = (b : ℕ) × IsHomed g a i × (home_of a.frame i ≡ Some (homes.Bank b)) × (bytes_in (extent_in (shape_in g a (node t (object i)))) ≤ 2) × (b + bytes_in (extent_in (shape_in g a (node t (object i)))) ≤ a.frame.bank)
IsBanked g a e = ⊥

-- a place in memory that is told by the lines of its base, wherever they are to bring its address, or one in regbank
abbrev pub IsDestination : World → Active → Typed → Type 0
IsDestination g a e = (BaseDoes g a e × PointedDoes g a e) ⊎ IsBanked g a e

-- The lines of a tree do its work, and leave as it is what the generator says that they leave: the scene where the tree is pure, and ptr2
-- where its lines are light.
abbrev pub ValueDoes : World → Active → Typed → Type 0
ValueDoes g a e = (pushed fresh : ℕ) → DoesIn g a (record usual { pure = is_pure e; light = is_light a.frame pushed e }) Valued (shape_in g a e) (plan (unit_in g) e) (need e) pushed (expr_code a.frame pushed fresh Value e)

-- Whatever form the generator chooses, the lines of an assignment to a number or a pointer do its work where those of its two sides do theirs.
abbrev pub AssignmentsDo : Type 0
AssignmentsDo = (g : World) (a : Active) (t : QTy) (x y : Typed) → IsPlacement g.code g.place → IsFrameOf g a → IsTyped (unit_in g) (node t (assign x y)) → is_bit_field (unit_in g).types x ≡ false
    → AreLocated g a y → IsDestination g a x → ValueDoes g a y → ExpressionDoes g a (node t (assign x y))

-- So do the lines of one whose value is not used, which may be a byte that is stored twice, where the place is no element of a small array.
abbrev pub AssignmentEffectsDo : Type 0
AssignmentEffectsDo = (g : World) (a : Active) (t : QTy) (x y : Typed) → IsPlacement g.code g.place → IsFrameOf g a → IsTyped (unit_in g) (node t (assign x y)) → is_bit_field (unit_in g).types x ≡ false → element_at a.frame x ≡ None
    → AreLocated g a y → IsDestination g a x → ValueDoes g a y → EffectDoes g a (node t (assign x y))
