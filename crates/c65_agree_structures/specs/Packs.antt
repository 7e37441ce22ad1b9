-- Structures and unions of 1 to 4 bytes that are passed or returned (C90 6.3.2.2, 6.6.6.4; docs/MACHINE.md, "Calls").
use Rattle.std.specs.Prelude.{◌≡◌, IsTrue}
use Rattle.c65_ctype.specs.Trees.{QTy, type_in}
use Rattle.c65_csem.specs.Trees.{Typed, node, pack}
use Rattle.c65_csem.specs.Places.{is_small}
use Rattle.c65_code.specs.Placement.{IsPlacement}
use Rattle.c65_agree_state.specs.World.{World, unit_in, Active}
use Rattle.c65_agree_state.specs.Exprs.{shape_in, ExpressionDoes}
use Rattle.c65_agree_stmts.specs.Calling.{Calling, HasValue, HasResult}
use Rattle.c65_agree_argument.specs.Arguments.{ArgumentDoes}
use Rattle.c65_agree_structures.specs.Bases.{BaseDoes}

-- The lines that bring its bytes to the primary register do its work, where those of its base do theirs.
abbrev pub PacksDo : Type 0
PacksDo = (g : World) (a : Active) (t : QTy) (e : Typed) → IsPlacement g.code g.place → a.frame.parts ≡ g.parts → IsTrue (is_small (unit_in g).types (type_in t)) → BaseDoes g a e → ExpressionDoes g a (node t (pack e))

-- So it is an argument.
abbrev pub PacksAreArguments : Type 0
PacksAreArguments = (g : World) (a : Active) (t : QTy) (e : Typed) → a.frame.parts ≡ g.parts → IsTrue (is_small (unit_in g).types (type_in t)) → ExpressionDoes g a (node t (pack e)) → ArgumentDoes g a (node t (pack e))

-- And it is what a function gives whose result has its size.
abbrev pub PacksAreResults : Type 0
PacksAreResults = (x : Calling) (t : QTy) (e : Typed) → HasValue x (node t (pack e)) → shape_in x.world x.active (node t (pack e)) ≡ x.result → HasResult x (node t (pack e))
