-- Parameters of functions that take further arguments, which lie higher by these (C90 6.3.1, 6.7.1).
use Rattle.std.specs.Prelude.{◌≡◌, ℕ, ◌+◌, ◌≤◌, true, List}
use Rattle.c65_ctype.specs.Trees.{QTy}
use Rattle.c65_csem.specs.Trees.{node, object, FuncTy}
use Rattle.c65_meaning.specs.After.{is_among}
use Rattle.c65_code.specs.Placement.{IsPlacement, program_start, stack_end}
use Rattle.c65_genframe.specs.Frames.{is_raised}
use Rattle.c65_agree_state.specs.World.{World, Active}
use Rattle.c65_agree_state.specs.Joins.{call_bytes}
use Rattle.c65_agree_state.specs.Exprs.{ExpressionDoes}
use Rattle.c65_agree_homes.specs.Frames.{IsCallIn}
use Rattle.c65_agree_addresses.specs.Laws.{IsAddressed}
use Rattle.c65_agree_structures.specs.Bases.{BaseDoes}
use Rattle.c65_agree_structures.specs.Copies.{AddressDoes}

-- An object that stands in memory is an expression, of whatever class, and its lines leave its address.
abbrev pub AddressedAreExpressions : Type 0
AddressedAreExpressions = (g : World) (a : Active) (t : QTy) (i : ℕ) → IsPlacement g.code g.place → a.frame.parts ≡ g.parts → IsAddressed g a i → ExpressionDoes g a (node t (object i)) × AddressDoes g a (node t (object i))

-- Such a parameter is told by its address.
abbrev pub RaisedAreBases : Type 0
RaisedAreBases = (g : World) (a : Active) (t : QTy) (i : ℕ) → IsPlacement g.code g.place → a.frame.parts ≡ g.parts → IsAddressed g a i → is_raised a.frame i ≡ true → BaseDoes g a (node t (object i))

-- In a call of a function of a plain program each of them stands in memory.
abbrev pub RaisedAreAddressed : Type 0
RaisedAreAddressed = (g : World) (names : List (List ℕ)) (a : Active) (f : FuncTy) (i : ℕ) → IsCallIn g names a f → program_start ≤ a.base → a.base + call_bytes a ≤ stack_end → is_among f.params i ≡ true → is_raised a.frame i ≡ true → IsAddressed g a i
