-- Groups of #if, #elif, #else and #endif (C90 6.8.1). The innermost open group is the first of a list.
use Rattle.std.specs.Prelude.{◌+◌, List, [], ◌∷◌, length, reverse, Bool, true, false, nat_le, Option, Some, None, Result, Ok, Err, if◌then◌else◌}
use Rattle.c65_base.specs.declared.code.Code.TheVariants.{LooseConditional}
use Rattle.c65_base.specs.declared.refusal.Pos.{Pos}
use Rattle.c65_base.specs.declared.refusal.Size.TheVariants.{Conditionals}
use Rattle.c65_base.specs.Answers.{Fault, at, large}
use Rattle.c65_base.specs.Limits.{limit_of}
use Rattle.c65_ppline.specs.declared.condition.Choice.{Choice}
use Rattle.c65_ppline.specs.declared.condition.Choice.TheVariants.{Taken, Sought, Passed}
use Rattle.c65_ppline.specs.declared.condition.Group.{Group}

abbrev pub is_taken : Choice → Bool
is_taken Taken = true
is_taken Sought = false
is_taken Passed = false

abbrev pub is_sought : Choice → Bool
is_sought Taken = false
is_sought Sought = true
is_sought Passed = false

-- lines are read where no group is open and in the part of a group that is taken
abbrev pub is_active : List Group → Bool
is_active [] = true
is_active (g ∷ gs) = is_taken g.choice

-- a group within lines that are skipped has no part that is taken
abbrev pub first_choice : Bool → Choice
first_choice true = Sought
first_choice false = Passed

-- an #if opens a group; at most 64 are open
abbrev pub begin : Pos → List Group → Result (Bool × List Group) Fault
begin place gs = if nat_le (limit_of Conditionals) (length gs) then Err (large Conditionals (limit_of Conditionals + 1)) else Ok (is_active gs, record { pos = place; choice = first_choice (is_active gs); has_else = false } ∷ gs)

-- its condition holds
abbrev pub taken : List Group → List Group
taken [] = []
taken (g ∷ gs) = record { pos = g.pos; choice = Taken; has_else = g.has_else } ∷ gs

-- behind a part that was taken all others are skipped
abbrev pub behind : Choice → Choice
behind Taken = Passed
behind Sought = Sought
behind Passed = Passed

-- an #elif is read only where no part was taken
abbrev pub alternate : Pos → List Group → Result (Bool × List Group) Fault
alternate place [] = Err (at LooseConditional place)
alternate place (g ∷ gs) = if g.has_else then Err (at LooseConditional place) else Ok (is_sought (behind g.choice), record { pos = g.pos; choice = behind g.choice; has_else = false } ∷ gs)

-- the part of an #else is taken where no other was
abbrev pub last_choice : Choice → Choice
last_choice Taken = Passed
last_choice Sought = Taken
last_choice Passed = Passed

abbrev pub otherwise : Pos → List Group → Result (List Group) Fault
otherwise place [] = Err (at LooseConditional place)
otherwise place (g ∷ gs) = if g.has_else then Err (at LooseConditional place) else Ok (record { pos = g.pos; choice = last_choice g.choice; has_else = true } ∷ gs)

abbrev pub end : Pos → List Group → Result (List Group) Fault
end place [] = Err (at LooseConditional place)
end place (g ∷ gs) = Ok gs

-- the place of the #if of the outermost group, the last of the list
abbrev pub first_pos : List Group → Option Pos
first_pos [] = None
first_pos (g ∷ gs) = Some g.pos

abbrev pub first_open : List Group → Option Pos
first_open gs = first_pos (reverse gs)
