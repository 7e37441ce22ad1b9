-- Calls of functions and returns lead from states that are near one another to such states again, in whatever two codes.
use Rattle.std.specs.Prelude.{◌≡◌, ℕ, List, [], ◌∷◌}
use Rattle.c65_code.specs.declared.parts.RegSet.{RegSet}
use Rattle.c65_code.specs.Effects.{kept_at_calls}
use Rattle.c65_code.specs.LineState.{Place, Frame, State, IsBytes}
use Rattle.c65_code.specs.Moves.{settle, Enters, Returns}
use Rattle.c65_code.specs.Parts.{all_parts, union_of, IsWithin}
use Rattle.c65_code.specs.Placement.{Setting}
use Rattle.c65_opt_law_near.specs.Near.{Near}

-- Where a function is called from the second of two near states, in which all that the call passes is live, it is called from the
-- first one with a state near that in each part.
abbrev pub CallsStayNear : Type 0
CallsStayNear = (s r : Setting) (f : ℕ) (reads gives live : RegSet) (p q at : Place) (t u v : State) → Near live t u → IsWithin (union_of reads kept_at_calls) live → IsBytes t → IsBytes v
    → Enters r f reads gives at u q v → (x : State) × Enters s f reads gives p t (f, settle (s.lines f) 0) x × IsBytes x × Near all_parts x v

-- Where a function returns from the second of two near states, in which all that it gives is live, it returns from the first one,
-- whose caller has pushed as much and takes the same as given, with a state near that in each part.
abbrev pub ReturnsStayNear : Type 0
ReturnsStayNear = (s r : Setting) (live : RegSet) (p q at : Place) (frame other : Frame) (frames others : List Frame) (t u v : State) → Near live t u → s.gives p.0 ≡ r.gives at.0
    → IsWithin (union_of (r.gives at.0) kept_at_calls) live → frame.pushed ≡ other.pushed → frame.gives ≡ other.gives → t.frames ≡ frame ∷ frames → IsBytes t → IsBytes v
    → Returns r (other ∷ others) at u q v → (x : State) × Returns s (frame ∷ frames) p t frame.back x × IsBytes x × Near all_parts x v

-- The return of main ends both runs alike.
abbrev pub EndsStayNear : Type 0
EndsStayNear = (s r : Setting) (live : RegSet) (p q at : Place) (t u v : State) → Near live t u → s.gives p.0 ≡ r.gives at.0 → IsWithin (r.gives at.0) live → IsBytes t
    → Returns r [] at u q v → (x : State) × Returns s [] p t p x × IsBytes x × Near live x v
