-- What a code keeps once its symbols are numbered anew.
use Rattle.std.specs.Prelude.{◌≡◌, ℕ, Bool, List, Ok, Err}
use Rattle.c65_mach.specs.declared.image.Image.{Image}
use Rattle.c65_code.specs.declared.code.Code.{Code}
use Rattle.c65_code.specs.LineState.{State}
use Rattle.c65_code.specs.Named.{IsNamed}
use Rattle.c65_code.specs.Placement.{Placement, IsPlacement, setting_of}
use Rattle.c65_code.specs.Starts.{IsStart, IsMain}
use Rattle.c65_code.specs.Comes.{Seen, Shown, ComesFrom}
use Rattle.c65_code.specs.Follows.{Grows}
use Rattle.c65_code.specs.Writable.{IsWritable}
use Rattle.c65_asm.specs.Renumbered.{IsOfTypes, renumbered}
use Rattle.c65_link.specs.Linked.{linked, undefined}
use Rattle.c65_link_law_spots.specs.Places.{place_in}
use Rattle.c65_link_law_spots.specs.Sound.{IsSound}
use Rattle.c65_asm_law_names.specs.Numbers.{HasSegment, IsClosed, number_in, by_number}

-- the linker can take it
abbrev pub RenumberedIsSound : Type 0
RenumberedIsSound = (code : Code) → IsWritable code → IsOfTypes code → IsSound (renumbered code)

-- and its main function is the one that has lines
abbrev pub MainIsNumbered : Type 0
MainIsNumbered = (code : Code) (main : ℕ) → IsWritable code → IsMain code main → HasSegment code main → IsMain (renumbered code) (number_in code main)

-- It comes to what the code comes to, at the linker's placement. A function's symbol that its text does not name (the last line
-- that named it was rewritten) has no address there, so that the code is taken at every placement. Such a function has no lines:
-- it is one of the ten of the library, for which there is room within the entry.
abbrev pub RenumberedComes : Type 0
RenumberedComes = (code : Code) (image : Image) (main : ℕ) (args : List (List ℕ)) (input : List ℕ) (test : Shown → Seen → Bool) (w : ℕ)
    → IsWritable code → IsOfTypes code → linked (renumbered code) ≡ Ok image → IsMain code main → HasSegment code main → Grows test
    → ((place : Placement) (t : State) → IsPlacement code place → IsStart code place args input t → ComesFrom (setting_of code place) main test w t)
    → (t : State) → IsStart (renumbered code) (place_in (renumbered code)) args input t
    → ComesFrom (setting_of (renumbered code) (place_in (renumbered code))) (number_in code main) (λ shown seen. test shown (by_number code seen)) w t

-- the linker misses nothing of a code in which all that is named has a body, and main is named
abbrev pub NothingIsUndefined : Type 0
NothingIsUndefined = (code : Code) (main : ℕ) (name : List ℕ) → IsWritable code → IsOfTypes code → IsClosed code → IsMain code main → IsNamed code main → linked (renumbered code) ≡ Err (undefined name) → ⊥
