-- n steps of the meaning are followed within a weight of 4,000 each, and w beside.
use Rattle.std.specs.Prelude.{◌≡◌, ℕ, ◌+◌, ◌*◌, ◌≤◌, Some, None}
use Rattle.c65_meaning.specs.Sem.{IsDefined, outcome_of}
use Rattle.c65_meaning.specs.State as meaning
use Rattle.c65_meaning.specs.State.{Undefined, Deep, Ended, Running}
use Rattle.c65_meaning.specs.Step.{steps}
use Rattle.c65_code.specs.LineState.{Place, State}
use Rattle.c65_code.specs.Comes.{Seen, Comes}
use Rattle.c65_agree_state.specs.World.{World, program_in, setting_in, total_in}

-- the machine shows what the meaning shows, and has come to its lines as often as there were turns
abbrev pub Agrees : World → meaning.State → Place → State → Seen → Type 0
Agrees g (Undefined why) p t seen = ⊥
Agrees g Deep p t seen = ⊥
Agrees g (Ended out status turns) p t seen = (t.output ≡ out) × (t.ended ≡ Some status) × (turns ≤ total_in g seen)
Agrees g (Running work values c) p t seen = (t.output ≡ c.out) × (t.ended ≡ None) × (c.turns ≤ total_in g seen)

-- so many steps are spoken of, and the meaning is defined through them
abbrev pub IsSpokenOf : World → ℕ → meaning.State → Type 0
IsSpokenOf g n m = (n ≤ g.most) × IsDefined (outcome_of (steps (program_in g) n m))

abbrev pub Follows : World → ℕ → ℕ → meaning.State → Place → State → Seen → Type 0
Follows g n w m p t seen = IsSpokenOf g n m → Comes (setting_in g) (Agrees g (steps (program_in g) n m)) (4000 * n + w) p t seen
