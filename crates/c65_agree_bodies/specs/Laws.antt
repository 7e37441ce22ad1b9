-- Where expressions do their work by what calls do in fewer steps, all bodies do theirs.
use Rattle.std.specs.Prelude.{◌≡◌, ℕ, Ok, List}
use Rattle.c65_ints.specs.declared.types.IntType.TheVariants.{Int}
use Rattle.c65_csem.specs.Units.{IsProgram}
use Rattle.c65_csem_plain.specs.Plain.{IsPlain}
use Rattle.c65_meaning.specs.Store.{Number}
use Rattle.c65_code.specs.Placement.{IsPlacement}
use Rattle.c65_genstmt.specs.Programs.{program_of}
use Rattle.c65_agree_state.specs.World.{World, unit_in}
use Rattle.c65_agree_homes.specs.Turns.{CountsTurns}
use Rattle.c65_agree_bodies.specs.Bodies.{for_steps, Allotted, AllBodiesDo, AllHaveWork}

-- A call takes a step before its body begins. So of n steps the bodies of called functions have fewer, and where with these all expressions
-- of the program do their work for n steps, its bodies do theirs for any number.
abbrev pub BodiesDoForAll : Type 0
BodiesDoForAll = (g : World) (names : List (List ℕ)) (z : Allotted)
    → program_of g.parts g.main names g.modes ≡ Ok g.code → IsProgram (unit_in g) g.main → IsPlain names (unit_in g) g.main
    → IsPlacement g.code g.place → CountsTurns g → z.result g.main ≡ Number Int
    → ((n : ℕ) → AllBodiesDo (for_steps n g) z n → AllHaveWork (for_steps n g) z)
    → (n m : ℕ) → AllBodiesDo (for_steps n g) z m
