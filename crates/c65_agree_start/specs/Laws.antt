-- The first store stands where main begins.
use Rattle.std.specs.Prelude.{◌≡◌, ℕ, ◌≤◌, Bool, true, List, Ok, slice_get}
use Rattle.c65_csem.specs.Units.{IsProgram}
use Rattle.c65_csem_names.specs.Initial.{HasStaticPointers}
use Rattle.c65_csem_plain.specs.Plain.{IsPlain}
use Rattle.c65_meaning.specs.Start.{objects_inside, first_scene}
use Rattle.c65_meaning.specs.Step.{params_of}
use Rattle.c65_code.specs.LineState.{State, sp_of}
use Rattle.c65_code.specs.Placement.{IsPlacement, stack_start}
use Rattle.c65_code.specs.Starts.{IsStart}
use Rattle.c65_genstmt.specs.Programs.{program_of}
use Rattle.c65_agree_state.specs.World.{World, unit_in}
use Rattle.c65_agree_start.specs.First.{first_placing, HasBegun}

-- The code is that of a plain program, none of whose initial values points outside what it names, and the arguments of the program have
-- left the software stack at least where it begins.
abbrev pub TheFirstStoreStands : Type 0
TheFirstStoreStands = (g : World) (names args : List (List ℕ)) (input : List ℕ) (free : Bool) (t : State)
    → program_of g.parts g.main names g.modes ≡ Ok g.code → IsPlacement g.code g.place → IsStart g.code g.place args input t → stack_start ≤ sp_of t
    → IsProgram (unit_in g) g.main → IsPlain names (unit_in g) g.main → HasStaticPointers (unit_in g) → objects_inside (unit_in g) (unit_in g).objects ≡ true
    → HasBegun g (first_scene (unit_in g) free (params_of (slice_get (unit_in g).funcs g.main)) args input) (first_placing g args) t
