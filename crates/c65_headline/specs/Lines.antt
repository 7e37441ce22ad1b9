-- The codes on the way: the lines of a program show what its meaning shows, and a code that follows another one does so too.
use Rattle.std.specs.Prelude.{◌≡◌, ℕ, suc, ◌+◌, ◌*◌, ◌<◌, ◌==◌, ◌&&◌, Bool, true, false, nat_le, bytes_eq, List, All, Option, Some, None}
use Rattle.std.specs.List.{list_any}
use Rattle.c65_base.specs.declared.options.Options.{Options}
use Rattle.c65_meaning.specs.Program.{ProgramTy}
use Rattle.c65_meaning.specs.Sites.{jumps}
use Rattle.c65_meaning.specs.Sem.{Outcome, Runs, Ends, IsDefined, sem}
use Rattle.c65_code.specs.declared.code.Code.{Code}
use Rattle.c65_code.specs.LineState.{Place, State}
use Rattle.c65_code.specs.Named.{IsNamed}
use Rattle.c65_code.specs.Placement.{Placement, IsPlacement, setting_of}
use Rattle.c65_code.specs.Starts.{IsStart}
use Rattle.c65_code.specs.Comes.{Seen, Shown, ComesFrom}
use Rattle.c65_asm_law_names.specs.Numbers.{HasSegment}
use Rattle.c65_opt_law_chains.specs.Laws.{FollowsUntilEndEverywhere}

-- ---- one moment at which the lines show what the meaning shows

-- both go on, or both have ended with one status
abbrev pub same_end : Option ℕ → Option ℕ → Bool
same_end None None = true
same_end (Some a) (Some b) = a == b
same_end _ _ = false

-- one of these lines has been reached often enough for so many turns
abbrev pub has_turned : List Place → ℕ → ℕ → Seen → Bool
has_turned places most turns seen = list_any (λ (q : Place). nat_le turns (most * seen q.0 q.1)) places

-- the output and the end are those of the meaning, and its turns are behind
abbrev pub shows : List Place → ℕ → Outcome → Shown → Seen → Bool
shows places most (Runs out turns) s seen = bytes_eq s.output out && (same_end s.ended None && has_turned places most turns seen)
shows places most (Ends out status turns) s seen = bytes_eq s.output out && (same_end s.ended (Some status) && has_turned places most turns seen)
shows places most _ s seen = false

-- Whatever the placement, the arguments and the input: where the meaning is defined through n steps, the lines come to a moment
-- that shows it, within 4,000 for each of these steps and the start.
pub record LineAgrees (p : ProgramTy) (code : Code) (main : ℕ) : Type 0 where
  pub places : List Place
  pub by : (place : Placement) (args : List (List ℕ)) (input : List ℕ) (n : ℕ) (t : State)
      → IsPlacement code place → All (λ b. b < 256) input → IsStart code place args input t → IsDefined (sem p args input n)
      → ComesFrom (setting_of code place) main (shows places (jumps p) (sem p args input n)) (4000 * (n + 1)) t

-- ---- what survives a rewriting: two moments, the late one with no bound that counts

-- the output and the end alone
abbrev pub shows_state : Outcome → Shown → Bool
shows_state (Runs out turns) s = bytes_eq s.output out && same_end s.ended None
shows_state (Ends out status turns) s = bytes_eq s.output out && same_end s.ended (Some status)
shows_state _ s = false

-- one of these lines has been reached often enough, or will have been with one arrival more
abbrev pub has_almost_turned : List Place → ℕ → ℕ → Seen → Bool
has_almost_turned places most turns seen = list_any (λ (q : Place). nat_le turns (most * suc (seen q.0 q.1))) places

-- Before the end: the output is that of the meaning, and its turns are behind; of a meaning that ends, its turns but for the last
-- arrival, which may be at the end itself.
abbrev pub shows_before_end : List Place → ℕ → Outcome → Shown → Seen → Bool
shows_before_end places most (Runs out turns) s seen = bytes_eq s.output out && (same_end s.ended None && has_turned places most turns seen)
shows_before_end places most (Ends out status turns) s seen = same_end s.ended None && has_almost_turned places most turns seen
shows_before_end places most _ s seen = false

-- One list of lines and one number, whatever the placement, the arguments, the input and n: the early moment is bounded by the
-- steps, and the late one, before the end, has the turns.
pub record CodeAgrees (p : ProgramTy) (code : Code) (main : ℕ) : Type 0 where
  pub places : List Place
  pub more : ℕ
  pub early : (place : Placement) (args : List (List ℕ)) (input : List ℕ) (n : ℕ) (t : State)
      → IsPlacement code place → All (λ b. b < 256) input → IsStart code place args input t → IsDefined (sem p args input n)
      → ComesFrom (setting_of code place) main (λ shown seen. shows_state (sem p args input n) shown) (4000 * (n + 1)) t
  pub late : (place : Placement) (args : List (List ℕ)) (input : List ℕ) (n : ℕ) (t : State)
      → IsPlacement code place → All (λ b. b < 256) input → IsStart code place args input t → IsDefined (sem p args input n)
      → ComesFrom (setting_of code place) main (shows_before_end places (jumps p) (sem p args input n)) (4000 * (n + 1) + more) t

-- A new code that can stand for the old one: its functions do what the old ones do, with the arrivals before the end, and it names
-- nothing that the old one does not name.
pub record StandsFor (old new : Code) : Type 0 where
  pub symbols : new.symbols ≡ old.symbols
  pub datums : new.datums ≡ old.datums
  pub main_args : new.main_args ≡ old.main_args
  pub defined : (f : ℕ) → HasSegment old f → HasSegment new f
  pub names : (f : ℕ) → IsNamed new f → IsNamed old f
  pub follows : (main : ℕ) → FollowsUntilEndEverywhere old new main

abbrev pub StandsForIf : Bool → Code → Code → Type 0
StandsForIf false old new = new ≡ old
StandsForIf true old new = StandsFor old new

abbrev pub StandsForBy : Options → Code → Code → Type 0
StandsForBy options old new = StandsForIf options.optimise old new
