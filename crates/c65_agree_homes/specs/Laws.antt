-- The frame of a function gives what the simulation asks of it.
use Rattle.std.specs.Prelude.{◌≡◌, ℕ, suc, ◌+◌, ◌^◌, ◌≤◌, true, false, List, ◌++◌, None, Some, Ok, Contains, length, slice_get}
use Rattle.c65_ctype.specs.Views.{types_of}
use Rattle.c65_csem.specs.Trees.{Stmt, FuncTy}
use Rattle.c65_csem.specs.Statements.{labels_of}
use Rattle.c65_csem.specs.Units.{IsUnit}
use Rattle.c65_meaning.specs.Items.{Item}
use Rattle.c65_meaning.specs.After.{ToLabel, after, is_among}
use Rattle.c65_meaning.specs.Sites.{jumps}
use Rattle.c65_code.specs.declared.line.Line.{Line}
use Rattle.c65_code.specs.declared.line.Line.TheVariants.{Label}
use Rattle.c65_code.specs.Placement.{program_start, stack_end}
use Rattle.c65_genframe.specs.Objects.{locals_of}
use Rattle.c65_genframe.specs.declared.home.Arrival.TheVariants.{Passed, Pushed}
use Rattle.c65_genframe.specs.Sizes.{object_in, slot_bytes}
use Rattle.c65_genframe.specs.Frames.{has_prototype, register_param, saved_bytes}
use Rattle.c65_genstmt.specs.Jumps.{following}
use Rattle.c65_genstmt.specs.Stmts.{ways}
use Rattle.c65_genstmt.specs.Programs.{program_of}
use Rattle.c65_gen_law_calls.specs.Lines.{is_calling}
use Rattle.c65_agree_store.specs.Stands.{At}
use Rattle.c65_agree_state.specs.World.{World, program_in, unit_in, Active, lines_of, place_in, owned_at}
use Rattle.c65_agree_state.specs.Joins.{spot_of, call_bytes}
use Rattle.c65_agree_frame.specs.Entries.{IsPlainFrame}
use Rattle.c65_agree_lines.specs.Turns.{LoopAt}
use Rattle.c65_agree_leave.specs.Laws.{params_in}
use Rattle.c65_agree_enter.specs.Params.{AreDistinct}
use Rattle.c65_agree_enter.specs.Entries.{HaveHomes}
use Rattle.c65_agree_stmts.specs.Calling.{Calling, HeadIsCounted, GotosAreCounted}
use Rattle.c65_agree_stmts.specs.Objects.{MayAllBegin, MayLand, HasGround}
use Rattle.c65_agree_stmts.specs.Trees.{HasParts}
use Rattle.c65_agree_homes.specs.Slots.{all_slots, behind_slots}
use Rattle.c65_agree_homes.specs.Turns.{first_label, body_turns, CountsTurns}
use Rattle.c65_agree_homes.specs.Frames.{IsCallIn, HasFewLabels, IsCalling}
use Rattle.c65_agree_homes.specs.Work.{HasWork}

-- ---- parameters

-- the parameters are distinct, and have their homes above the objects of blocks, wherever the call lies
abbrev pub ParametersHaveHomes : Type 0
ParametersHaveHomes = (g : World) (names : List (List ℕ)) (a : Active) (f : FuncTy) → IsCallIn g names a f → program_start ≤ a.base → a.base + call_bytes a ≤ stack_end
    → HaveHomes g a (params_in g a) × AreDistinct (params_in g a)

-- Where the frame keeps none of them in regbank they stand one below the other, the first highest, as they are passed.
abbrev pub ParametersStandInOrder : Type 0
ParametersStandInOrder = (g : World) (names : List (List ℕ)) (a : Active) (f : FuncTy) → IsCallIn g names a f → IsPlainFrame a.frame
    → ((i : ℕ) → is_among f.params i ≡ true → spot_of g a i ≡ At (a.base + (a.frame.soft + saved_bytes a.frame.bank) + behind_slots g.parts (has_prototype f.ty) f.params i))
    × (a.frame.stacked ≡ all_slots g.parts (has_prototype f.ty) f.params)

-- and the last one arrives in registers, if any does, from which the entry pushes it
abbrev pub LastParametersArrive : Type 0
LastParametersArrive = (g : World) (names : List (List ℕ)) (a : Active) (f : FuncTy) → IsCallIn g names a f → IsPlainFrame a.frame
    → (register_param f ≡ None → a.frame.last ≡ Passed)
    × ((i : ℕ) → register_param f ≡ Some i → a.frame.last ≡ Pushed (slot_bytes (types_of g.parts.types) (has_prototype f.ty) (object_in g.parts i)))

-- ---- objects of blocks

-- distinct objects of the function's blocks may begin one behind another, where others of the function are in scope
abbrev pub ObjectsMayBegin : Type 0
ObjectsMayBegin = (x : Calling) (names : List (List ℕ)) (f : FuncTy) (scope is : List ℕ) → IsCalling x names f → AreDistinct is
    → ((i : ℕ) → is_among is i ≡ true → (is_among (locals_of f) i ≡ true) × (is_among scope i ≡ false))
    → ((i : ℕ) → is_among scope i ≡ true → is_among (f.params ++ locals_of f) i ≡ true)
    → MayAllBegin x scope is

-- a `goto` may lead to each label, from any blocks
abbrev pub LabelsMayLand : Type 0
LabelsMayLand = (x : Calling) (names : List (List ℕ)) (f : FuncTy) (l : ℕ) (k : List Item) → IsCalling x names f → MayLand x (after (unit_in x.world) (ToLabel l) 0 x.body k)

-- and objects that have one place for the whole run lie below the software stack
abbrev pub GroundIsGiven : Type 0
GroundIsGiven = (x : Calling) (names : List (List ℕ)) (f : FuncTy) → IsCalling x names f → x.active.first ≤ x.first.next → HasGround x

-- ---- labels

-- where the code of a program was made, its labels have numbers of 32 bits
abbrev pub CallsHaveFewLabels : Type 0
CallsHaveFewLabels = (g : World) (names : List (List ℕ)) (a : Active) (f : FuncTy) (body : Stmt) → IsCallIn g names a f → f.body ≡ Some body → HasFewLabels g a f body

-- ---- turns

-- the label of each loop stands at a line at which turns are counted
abbrev pub HeadsAreCounted : Type 0
HeadsAreCounted = (x : Calling) (names : List (List ℕ)) (f : FuncTy) (label q : ℕ) → IsCalling x names f → CountsTurns x.world
    → Contains (body_turns x.active.frame x.body) (LoopAt q) → slice_get (lines_of x.world x.active) q ≡ Some (Label label) → HeadIsCounted x label

-- each jump to a label of the function is that of a `goto`, and counts its turn
abbrev pub GotosCountTheirTurns : Type 0
GotosCountTheirTurns = (x : Calling) (names : List (List ℕ)) (f : FuncTy) (l : ℕ) → IsCalling x names f → CountsTurns x.world
    → Contains (labels_of x.body) l → GotosAreCounted x (following l)

-- and so does each line that calls a function
abbrev pub CallsCountTheirTurns : Type 0
CallsCountTheirTurns = (g : World) (names : List (List ℕ)) (a : Active) (f : FuncTy) (body : Stmt) (p : ℕ) (line : Line) → IsCallIn g names a f → f.body ≡ Some body → CountsTurns g
    → slice_get (lines_of g a) p ≡ Some line → is_calling line ≡ true → 1 ≤ owned_at g.owns (place_in g a p)

-- These lines are at most as many as the places from which the meaning takes turns: with each as often as it stands among them there are
-- no more turns than so many arrivals at one of them.
abbrev pub TurnsAreFew : Type 0
TurnsAreFew = (g : World) (names : List (List ℕ)) → program_of g.parts g.main names g.modes ≡ Ok g.code → IsUnit (unit_in g)
    → length (unit_in g).objects + length (unit_in g).literals + length (unit_in g).funcs ≤ 2 ^ 32 → CountsTurns g
    → suc (length g.heads + length g.owns) ≤ jumps (program_in g)

-- ---- statements

-- where the expressions and initial values of the body do their work, all is given that is asked of its statements
abbrev pub PartsAreGiven : Type 0
PartsAreGiven = (x : Calling) (names : List (List ℕ)) (f : FuncTy) → IsCalling x names f → CountsTurns x.world
    → HasWork x x.params 0 x.body (ways 0 0 0) 0 (first_label x.body) → HasParts x x.params 0 x.body (ways 0 0 0) 0 (first_label x.body)
