-- The table of what is live after each line.
use Rattle.std.specs.Prelude.{◌≡◌, ℕ, ◌<◌, ◌==◌, ◌&&◌, ◌↔◌, Bool, IsTrue, List, length, get_or}
use Rattle.std.specs.Bool.{beq}
use Rattle.c65_code.specs.declared.parts.Part.{Part}
use Rattle.c65_code.specs.declared.parts.RegSet.{RegSet}
use Rattle.c65_code.specs.declared.line.Line.{Line}
use Rattle.c65_code.specs.Parts.{no_parts, has_part, minus_of}
use Rattle.c65_live.specs.Live.{IsLive}

-- a set for each line
pub record Table : Type 0 where
  pub after : List RegSet

-- what is live after a line; nothing past the end
abbrev pub live_after : Table → ℕ → RegSet
live_after table q = get_or table.after q no_parts

-- the table of these lines of a function that gives `out`: each part is in the set of a line exactly where it is live after it
pub record IsLiveTable (lines : List Line) (out : RegSet) (table : Table) : Type 0 where
  pub long : length table.after ≡ length lines
  pub each : (q : ℕ) → q < length lines → (part : Part) → IsTrue (has_part (live_after table q) part) ↔ IsLive lines out q part

abbrev pub is_same : RegSet → RegSet → Bool
is_same s t = beq s.a t.a && (beq s.x t.x && (beq s.y t.y && (beq s.n t.n && (beq s.v t.v && (beq s.z t.z && (beq s.c t.c && (s.zero_page == t.zero_page)))))))

-- none of the parts is live after the line: without what is live there all of them are left
abbrev pub is_dead : Table → ℕ → RegSet → Bool
is_dead table q parts = is_same (minus_of parts (live_after table q)) parts
