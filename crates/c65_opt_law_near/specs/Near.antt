-- States that nothing behind a line tells apart.
use Rattle.std.specs.Prelude.{◌≡◌, ℕ, ◌<◌, ◌≤◌, ◌⊎◌, IsTrue}
use Rattle.c65_code.specs.declared.line.Line.{Line}
use Rattle.c65_code.specs.declared.parts.Part.{Part}
use Rattle.c65_code.specs.declared.parts.RegSet.{RegSet}
use Rattle.c65_code.specs.Access.{line_reads, line_sets}
use Rattle.c65_code.specs.LineState.{State, sp_of, Same}
use Rattle.c65_code.specs.Parts.{has_part, union_of, minus_of}
use Rattle.c65_code.specs.Placement.{stack_start}

-- what is live before a line of a function that gives `out`, by what is live after it
abbrev pub before : RegSet → Line → RegSet → RegSet
before out line after = union_of (line_reads out line) (minus_of after (line_sets line))

-- The same in each live part, in sp, in the zero page above the parts, in memory outside the free bytes of the software stack,
-- in what the function has pushed, and in input and output.
pub record Near (live : RegSet) (t u : State) : Type 0 where
  pub part : (p : Part) → IsTrue (has_part live p) → Same p t u
  pub sp_low : t.zp 0 ≡ u.zp 0
  pub sp_high : t.zp 1 ≡ u.zp 1
  pub high : (i : ℕ) → 26 ≤ i → t.zp i ≡ u.zp i
  pub mem : (b : ℕ) → (b < stack_start) ⊎ (sp_of t ≤ b) → t.mem b ≡ u.mem b
  pub pushed : t.pushed ≡ u.pushed
  pub input : t.input ≡ u.input
  pub output : t.output ≡ u.output
  pub ended : t.ended ≡ u.ended
