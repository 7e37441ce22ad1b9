-- What sweeps keep, and how long they go on.
use Rattle.std.specs.Prelude.{◌≡◌, ℕ, ◌+◌, ◌-◌, ◌^◌, Bool, cond, IsTrue, List, length, get_or}
use Rattle.std.specs.List.{sum_by}
use Rattle.c65_code.specs.declared.parts.Part.{Part}
use Rattle.c65_code.specs.declared.parts.RegSet.{RegSet}
use Rattle.c65_code.specs.declared.line.Line.{Line}
use Rattle.c65_code.specs.Parts.{no_parts, has_part}
use Rattle.c65_live.specs.declared.flow.Flow.{Flow}
use Rattle.c65_live.specs.Live.{IsLive}
use Rattle.c65_live.specs.Flows.{flows_of, IsClosed}

-- each part in the set of a line is live after it
abbrev pub AreSound : List Line → RegSet → List RegSet → Type 0
AreSound lines out live = (q : ℕ) (part : Part) → IsTrue (has_part (get_or live q no_parts) part) → IsLive lines out q part

abbrev pub lack : Bool → ℕ
lack b = cond b 0 1

-- how far a set is from having all parts; greater sets are nearer
abbrev pub lacks : RegSet → ℕ
lacks s = lack s.a + (lack s.x + (lack s.y + (lack s.n + (lack s.v + (lack s.z + (lack s.c + (2 ^ 32 - s.zero_page)))))))

-- how far the sets of a table may rise
abbrev pub room : List RegSet → ℕ
room live = sum_by lacks live

-- sets in which sweeps change nothing any more, and that have only what is live
pub record IsSettled (flows : List Flow) (live : List RegSet) : Type 0 where
  pub long : length live ≡ length flows
  pub closed : IsClosed flows live
  pub sound : (lines : List Line) (out : RegSet) → flows ≡ flows_of lines out → AreSound lines out live
