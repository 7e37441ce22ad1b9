-- What comes back of a call that gives nothing, or a structure or union (C90 6.3.2.2, 6.6.6.4).
use Rattle.std.specs.Prelude.{◌≡◌, IsTrue}
use Rattle.c65_ctype.specs.Trees.{QTy, void, type_in}
use Rattle.c65_csem.specs.Places.{is_small}
use Rattle.c65_csem.specs.Typed.{IsResult}
use Rattle.c65_meaning.specs.Shapes.{shape_of}
use Rattle.c65_code.specs.declared.parts.RegSet.{RegSet}
use Rattle.c65_code.specs.Moves.{common_of}
use Rattle.c65_code.specs.Placement.{IsPlacement}
use Rattle.c65_genexpr.specs.Types.{outcome_of}
use Rattle.c65_genexpr.specs.Calls.{result_code}
use Rattle.c65_agree_state.specs.World.{World, unit_in, Active}
use Rattle.c65_agree_invoke.specs.Nodes.{gives_in, ResultsCome}

-- Of a call that gives nothing there is no value, whatever is in the registers.
abbrev pub NothingComesBack : Type 0
NothingComesBack = (g : World) (a : Active) (t : QTy) (common : RegSet) → IsPlacement g.code g.place → type_in t ≡ void
    → ResultsCome g a (shape_of (unit_in g).types (type_in t)) common (result_code (outcome_of a.frame (type_in t)))

-- A structure or union of 1 to 4 bytes comes back where the call and the function give the same registers.
abbrev pub StructuresComeBack : Type 0
StructuresComeBack = (g : World) (a : Active) (t : QTy) (gives : RegSet) → IsPlacement g.code g.place → a.frame.parts ≡ g.parts → IsTrue (is_small (unit_in g).types (type_in t)) → gives ≡ gives_in a.frame t
    → ResultsCome g a (shape_of (unit_in g).types (type_in t)) (common_of (gives_in a.frame t) gives) (result_code (outcome_of a.frame (type_in t)))

-- So comes back all that a function may give.
abbrev pub ResultsComeBack : Type 0
ResultsComeBack = (g : World) (a : Active) (t : QTy) (gives : RegSet) → IsPlacement g.code g.place → a.frame.parts ≡ g.parts → IsResult (unit_in g) t → gives ≡ gives_in a.frame t
    → ResultsCome g a (shape_of (unit_in g).types (type_in t)) (common_of (gives_in a.frame t) gives) (result_code (outcome_of a.frame (type_in t)))
