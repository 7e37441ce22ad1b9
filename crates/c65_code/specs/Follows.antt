-- When one code follows another: whatever all runs of the old one come to, all runs of the new one come to
-- (docs/MEANING.md, "Following").
use Rattle.std.specs.Prelude.{◌≡◌, ℕ, ◌+◌, ◌≤◌, Bool, IsTrue, []}
use Rattle.c65_code.specs.declared.code.Code.{Code}
use Rattle.c65_code.specs.LineState.{State}
use Rattle.c65_code.specs.Placement.{Placement, Setting, setting_of, IsPlacement}
use Rattle.c65_code.specs.Comes.{Seen, Shown, ComesFrom}

abbrev pub IsBelow : Seen → Seen → Type 0
IsBelow seen more = (f p : ℕ) → seen f p ≤ more f p

-- a test that more arrivals do not fail
abbrev pub Grows : (Shown → Seen → Bool) → Type 0
Grows test = (shown : Shown) (seen more : Seen) → IsBelow seen more → IsTrue (test shown seen) → IsTrue (test shown more)

-- the arrivals of a code at the images of the lines of another
abbrev pub through : (ℕ → ℕ → ℕ) → Seen → Seen
through map seen f p = seen f (map f p)

-- Wherever all runs of the old code come, steadily and within a weight, to what passes a test, all runs of the new code do so
-- too. The same holds of tests on arrivals, where an arrival at a line is one at its image by the map, and the weight may be
-- greater by `more`.
pub record Follows (map : ℕ → ℕ → ℕ) (more : ℕ) (old new : Setting) (main : ℕ) : Type 0 where
  pub by : (test : Shown → Bool) (w : ℕ) (t : State) → t.frames ≡ [] → t.pushed ≡ [] → ComesFrom old main (λ shown seen. test shown) w t → ComesFrom new main (λ shown seen. test shown) w t
  pub turns : (test : Shown → Seen → Bool) → Grows test → (w : ℕ) (t : State) → t.frames ≡ [] → t.pushed ≡ [] → ComesFrom old main test w t → ComesFrom new main (λ shown seen. test shown (through map seen)) (w + more) t

-- one map and one weight serve at every placement of the old code
pub record FollowsEverywhere (old new : Code) (main : ℕ) : Type 0 where
  pub map : ℕ → ℕ → ℕ
  pub more : ℕ
  pub at : (place : Placement) → IsPlacement old place → Follows map more (setting_of old place) (setting_of new place) main
