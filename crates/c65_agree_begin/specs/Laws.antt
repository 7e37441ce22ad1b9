-- Where main begins it may be entered (C90 5.1.2.2.1).
use Rattle.std.specs.Prelude.{◌≡◌, ℕ, ◌<◌, ◌≤◌, true, false, List, Ok, slice_get, All}
use Rattle.c65_csem.specs.Units.{IsProgram}
use Rattle.c65_csem_names.specs.Initial.{HasStaticPointers}
use Rattle.c65_csem_plain.specs.Plain.{IsPlain}
use Rattle.c65_meaning.specs.Start.{objects_inside, first_scene}
use Rattle.c65_meaning.specs.Step.{params_of}
use Rattle.c65_code.specs.LineState.{State, sp_of}
use Rattle.c65_code.specs.Placement.{IsPlacement, stack_start}
use Rattle.c65_code.specs.Starts.{IsStart}
use Rattle.c65_genstmt.specs.Programs.{program_of}
use Rattle.c65_agree_store.specs.Stands.{Banks}
use Rattle.c65_agree_state.specs.World.{World, unit_in}
use Rattle.c65_agree_start.specs.First.{first_placing, arguments_from}
use Rattle.c65_agree_enter.specs.Entries.{MayEnter, FixedAreLow}

-- The code is that of a plain program, none of whose initial values points outside what it names: no function is active, no block is in
-- regbank or where an object of a block has its one place for the whole run, and what lies on the software stack lies above what was pushed.
abbrev pub MainMayBeEntered : Type 0
MainMayBeEntered = (g : World) (names args : List (List ℕ)) (input : List ℕ) (t : State) (k : Banks)
    → All (λ v. v < 256) input → program_of g.parts g.main names g.modes ≡ Ok g.code → IsPlacement g.code g.place → IsStart g.code g.place args input t → stack_start ≤ sp_of t
    → IsProgram (unit_in g) g.main → IsPlain names (unit_in g) g.main → HasStaticPointers (unit_in g) → objects_inside (unit_in g) (unit_in g).objects ≡ true
    → MayEnter g 0 (arguments_from g.code.main_args t) (first_scene (unit_in g) false (params_of (slice_get (unit_in g).funcs g.main)) args input) (first_placing g args) k t

-- in every run of its code the objects of blocks that have one place for the whole run lie below the software stack
abbrev pub FixedObjectsAreLow : Type 0
FixedObjectsAreLow = (g : World) (names : List (List ℕ)) → program_of g.parts g.main names g.modes ≡ Ok g.code → IsPlacement g.code g.place → IsPlain names (unit_in g) g.main → FixedAreLow g
