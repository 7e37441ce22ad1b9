-- One rewriting, as the two codes see it.
use Rattle.std.proofs.Common.{◌≡◌, ℕ, suc, ◌+◌, ◌<◌, ◌≤◌, ◌⊎◌, List, [], ◌∷◌, length, Option, Some, None, true, IsTrue}
use Rattle.std.specs.Prelude.{slice_get}
use Rattle.c65_mach.specs.State.{Regs}
use Rattle.c65_code.specs.declared.line.Line.{Line}
use Rattle.c65_code.specs.declared.parts.Part.{Part}
use Rattle.c65_code.specs.declared.parts.RegSet.{RegSet}
use Rattle.c65_code.specs.Access.{line_reads}
use Rattle.c65_code.specs.Forms.{Form, IsLocal, form_of}
use Rattle.c65_code.specs.LineState.{State, IsBytes}
use Rattle.c65_code.specs.Moves.{settle, next, Does}
use Rattle.c65_code.specs.Parts.{IsPart, has_part}
use Rattle.c65_code.specs.Placement.{Setting}
use Rattle.c65_code.specs.Segments.{is_fit}
use Rattle.c65_code.specs.Steady.{HasLines}
use Rattle.c65_know_law.specs.Laws.{IsCall}
use Rattle.c65_opt_law_near.specs.Laws.{IsLow}
use Rattle.c65_opt_law_near.specs.Near.{before}
use Rattle.c65_opt_law_straight.specs.Laws.{IsByteLine}
use Rattle.c65_opt_law_follow.specs.Windows.{WayOut, Way, live_before, Justified}
use Rattle.c65_opt_law_follow.specs.Laws.{exit_place}
use Rattle.c65_opt_law_follow.proofs.Ways.{AreGood}
use Rattle.c65_opt_law_follow.proofs.Walks.{HasAt}

-- a setting with other lines
abbrev pub side : Setting → (ℕ → List Line) → Setting
side s lines = record s { lines = lines }

-- the window of function f from a line on; places outside of it
abbrev pub IsAt : ℕ → ℕ → ℕ → ℕ → Type 0
IsAt f start g q = (g ≡ f) × (q ≡ start)

abbrev pub IsOut : ℕ → ℕ → ℕ → ℕ → ℕ → Type 0
IsOut f start hi g q = (g ≡ f → ⊥) ⊎ ((q < start) ⊎ (hi ≤ q))

abbrev pub IsReached : ℕ → ℕ → ℕ → ℕ → ℕ → Type 0
IsReached f start hi g q = IsAt f start g q ⊎ IsOut f start hi g q

-- What holds outside of the window: lines keep their order and their targets, what is live is closed under the lines of the old code,
-- and what is known before the window comes from lines before it.
pub record Setup (s : Setting) (A B : ℕ → List Line) (f start : ℕ) (old : List Line) (m : ℕ → ℕ → ℕ) (live : ℕ → ℕ → RegSet) (known : ℕ → State → Type 0) : Type 0 where
  pub low : IsLow s.place
  pub own : (g h : ℕ) → IsTrue (s.is_function g) → IsTrue (s.is_function h) → s.place.address g ≡ s.place.address h → g ≡ h
  pub fit : (g q : ℕ) (l : Line) → slice_get (A g) q ≡ Some l → is_fit l ≡ true
  pub byte : (g q : ℕ) (l : Line) → slice_get (A g) q ≡ Some l → IsByteLine l
  pub there : (g : ℕ) → HasLines (A g) → HasLines (B g)
  pub line_same : (g q : ℕ) (l : Line) → IsOut f start (start + length old) g q → slice_get (A g) q ≡ Some l → slice_get (B g) (m g q) ≡ Some l
  pub next_same : (g q : ℕ) (l : Line) (regs : Regs) → IsOut f start (start + length old) g q → slice_get (A g) q ≡ Some l → m g (next (A g) (form_of l) q regs) ≡ next (B g) (form_of l) (m g q) regs
  pub ret_same : (g q : ℕ) → IsOut f start (start + length old) g q → m g (settle (A g) (suc q)) ≡ settle (B g) (suc (m g q))
  pub entry_same : (g : ℕ) → m g (settle (A g) 0) ≡ settle (B g) 0
  pub reach_next : (g q : ℕ) (l : Line) (regs : Regs) → IsOut f start (start + length old) g q → slice_get (A g) q ≡ Some l → IsReached f start (start + length old) g (next (A g) (form_of l) q regs)
  pub reach_ret : (g q : ℕ) → IsOut f start (start + length old) g q → IsReached f start (start + length old) g (settle (A g) (suc q))
  pub reach_entry : (g : ℕ) → IsReached f start (start + length old) g (settle (A g) 0)
  pub live_line : (g q : ℕ) (l : Line) (regs : Regs) → slice_get (A g) q ≡ Some l → IsLocal (form_of l) → (p : Part) → IsPart p → IsTrue (has_part (before (s.gives g) l (live g (next (A g) (form_of l) q regs))) p) → IsTrue (has_part (live g q) p)
  pub live_reads : (g q : ℕ) (l : Line) → slice_get (A g) q ≡ Some l → (p : Part) → IsPart p → IsTrue (has_part (line_reads (s.gives g) l) p) → IsTrue (has_part (live g q) p)
  pub known_entry : (g : ℕ) (t : State) → g ≡ f → settle (A g) 0 ≤ start → known (settle (A g) 0) t
  pub known_ret : (g q : ℕ) (l : Line) (t : State) → g ≡ f → slice_get (A g) q ≡ Some l → IsCall (form_of l) → settle (A g) (suc q) ≤ start → known (settle (A g) (suc q)) t
  pub known_step : (g q : ℕ) (l : Line) (t u : State) → g ≡ f → q < start → slice_get (A g) q ≡ Some l → IsLocal (form_of l) → IsBytes t → t.ended ≡ None → Does s.place (form_of l) t u → known q t → known (next (A g) (form_of l) q t.regs) u
  pub known_back : (g q : ℕ) (l : Line) (regs : Regs) (u : State) → g ≡ f → start + length old ≤ q → slice_get (A g) q ≡ Some l → IsLocal (form_of l) → next (A g) (form_of l) q regs ≤ start → known (next (A g) (form_of l) q regs) u

-- What holds of the window.
pub record Window (s : Setting) (A B : ℕ → List Line) (f start : ℕ) (old new : List Line) (m : ℕ → ℕ → ℕ) (live : ℕ → ℕ → RegSet) (known : ℕ → State → Type 0) : Type 0 where
  pub some : 1 ≤ length old
  pub reach_exit : (e : WayOut) → IsReached f start (start + length old) f (exit_place (A f) (start + length old) e)
  pub old_at : HasAt (A f) start old
  pub old_good : AreGood old
  pub old_start : settle (A f) start ≡ start
  pub new_at : HasAt (B f) start new
  pub new_good : AreGood new
  pub window_place : (q : ℕ) → start ≤ q → q < start + length old → m f q ≡ m f start
  pub start_place : m f start ≡ settle (B f) start
  pub exit_same : (e : WayOut) → m f (exit_place (A f) (start + length old) e) ≡ exit_place (B f) (start + length new) e
  pub live_window : (p : Part) → IsPart p → IsTrue (has_part (live_before (s.gives f) (λ e. live f (exit_place (A f) (start + length old) e)) old) p) → IsTrue (has_part (live f start) p)
  pub known_exit : (t : State) (e : WayOut) (u : State) (v : ℕ) → Way s.place old t e u v → exit_place (A f) (start + length old) e ≤ start → (x : State) → known (exit_place (A f) (start + length old) e) x
  pub justified : Justified (side s A) (exit_place (A f) (start + length old)) (λ e. live f (exit_place (A f) (start + length old) e)) (known start) old new
