-- What stays the same along a run, and along one call: the program, its code and where it is placed; the active function, its frame
-- and the sp that stands there while no value waits.
use Rattle.std.specs.Prelude.{◌≡◌, ℕ, suc, ◌+◌, ◌≤◌, ◌==◌, ◌&&◌, Bool, true, false, if◌then◌else◌, List, [], ◌∷◌, Some, Ok, slice_get}
use Rattle.c65_csem.specs.declared.items.Parts.{Parts}
use Rattle.c65_csem.specs.Trees.{UnitTy}
use Rattle.c65_csem.specs.Views.{unit_of}
use Rattle.c65_meaning.specs.Program.{ProgramTy}
use Rattle.c65_meaning.specs.State.{Frame as Call}
use Rattle.c65_code.specs.declared.code.Code.{Code}
use Rattle.c65_code.specs.declared.line.Line.{Line}
use Rattle.c65_code.specs.declared.line.Line.TheVariants.{Label}
use Rattle.c65_code.specs.LineState.{Place, Frame}
use Rattle.c65_code.specs.Placement.{Placement, Setting, setting_of}
use Rattle.c65_code.specs.Moves.{labelled}
use Rattle.c65_code.specs.Comes.{Seen}
use Rattle.c65_genframe.specs.declared.modes.Modes.{Modes}
use Rattle.c65_genframe.specs.Frames.{Framed, frame_at}
use Rattle.c65_genframe.specs.Symbols.{numbers_of, function_symbol}
use Rattle.c65_agree_step.specs.Ways.{place_at}

-- the whole run
pub record World : Type 0 where
  pub parts : Parts
  pub main : ℕ
  pub modes : Modes
  pub code : Code
  pub place : Placement
  -- the lines at which turns are counted: of each goto and call its own line, where the machine has come to it before the turn is
  -- taken, and of each loop the line at its head, to which it comes with the turn; a line may stand here for several of them
  pub owns : List Place
  pub heads : List Place
  -- no run of more steps of the meaning is spoken of, so that what calls do may be shown from what they do in fewer
  pub most : ℕ

abbrev pub unit_in : World → UnitTy
unit_in g = unit_of g.parts

abbrev pub program_in : World → ProgramTy
program_in g = record { unit = unit_in g; main = g.main }

abbrev pub setting_in : World → Setting
setting_in g = setting_of g.code g.place

-- one call: the number of its function, and of that function's symbol, its frame, the sp while no value waits, the number of the first
-- block that it began, by how many bytes the parameters of a variadic function lie higher, the machine's frames behind it, the meaning's calls behind it, and how many bytes it may
-- push beside those of the values that wait, which some nodes do
pub record Active : Type 0 where
  pub func : ℕ
  pub symbol : ℕ
  pub frame : Framed
  pub base : ℕ
  pub first : ℕ
  pub raised : ℕ
  pub behind : List Frame
  pub calls : List Call
  pub spare : ℕ

-- the symbol and the frame are the function's
pub record IsCallOf (g : World) (a : Active) : Type 0 where
  pub symbol : a.symbol ≡ (function_symbol (numbers_of g.parts) a.func).0
  pub frame : frame_at g.parts g.modes a.func ≡ Ok a.frame

abbrev pub lines_of : World → Active → List Line
lines_of g a = (setting_in g).lines a.symbol

-- where the machine stands that has come to a line of the active function
abbrev pub place_in : World → Active → ℕ → Place
place_in g a p = place_at (setting_in g) a.symbol p

-- the lines stand there, one behind another
abbrev pub HasAt : List Line → ℕ → List Line → Type 0
HasAt code p [] = Unit {0}
HasAt code p (l ∷ ls) = (slice_get code p ≡ Some l) × HasAt code (suc p) ls

-- each label has one place
abbrev pub IsPlaced : List Line → Type 0
IsPlaced code = (q l : ℕ) → slice_get code q ≡ Some (Label l) → labelled code l ≡ q

-- the arrivals at lines together
abbrev pub total : List Place → Seen → ℕ
total [] seen = 0
total (q ∷ qs) seen = seen q.0 q.1 + total qs seen

abbrev pub total_in : World → Seen → ℕ
total_in g seen = total g.owns seen + total g.heads seen

-- how many of these lines stand at a place
abbrev pub owned_at : List Place → Place → ℕ
owned_at [] q = 0
owned_at (p ∷ ps) q = (if (p.0 == q.0) && (p.1 == q.1) then 1 else 0) + owned_at ps q

-- there were no more turns than arrivals, and those that are still to be taken at this line are among these
abbrev pub HasTurns : World → ℕ → Place → Seen → Type 0
HasTurns g turns q seen = turns + owned_at g.owns q ≤ total_in g seen

-- The machine has just come to this line, by a jump or a branch: beside these the turns of the loops whose head it is are among the arrivals,
-- and may be taken.
abbrev pub HasCome : World → ℕ → Place → Seen → Type 0
HasCome g turns q seen = turns + owned_at g.owns q + owned_at g.heads q ≤ total_in g seen

-- so it is where a branch was taken
abbrev pub HasBranched : World → Bool → ℕ → Place → Seen → Type 0
HasBranched g true turns q seen = HasCome g turns q seen
HasBranched g false turns q seen = HasTurns g turns q seen
