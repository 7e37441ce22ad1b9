-- Runs of lines one behind the other, and round after round. Here the ends and invariants are tests; the lemmas of proofs/ are
-- of all properties.
use Rattle.std.specs.Prelude.{◌≡◌, ℕ, ◌+◌, ◌<◌, ◌≤◌, ◌⊎◌, Bool, IsTrue}
use Rattle.c65_code.specs.LineState.{Place, State}
use Rattle.c65_code.specs.Moves.{settle, labelled}
use Rattle.c65_code.specs.RawMachine.{RawSetting, Bounds, RawComes}

-- The lines come to where the first test holds, and from there on to where the second does.
abbrev pub RunsAreJoined : Type 0
RunsAreJoined = (s : RawSetting) (bounds : Bounds) (first second : Place → State → Bool) (v w : ℕ) (p : Place) (t : State)
    → RawComes s bounds (λ q u. IsTrue (first q u)) v p t
    → ((q : Place) (u : State) → IsTrue (first q u) → RawComes s bounds (λ q u. IsTrue (second q u)) w q u)
    → RawComes s bounds (λ q u. IsTrue (second q u)) (v + w) p t

-- the place of a label in the lines of a unit
abbrev pub label_in : RawSetting → ℕ → ℕ → Place
label_in s f l = (f, settle (s.lines f) (labelled (s.lines f) l))

-- where a round ends: at Q, or at a label again, where its invariant holds with so much of the weight left
abbrev pub Around : RawSetting → (Place → State → Type 0) → ℕ → (ℕ → ℕ → State → Type 0) → ℕ → Place → State → Type 0
Around s Q f Inv less p t = Q p t ⊎ ((l : ℕ) × (p ≡ label_in s f l) × Inv l less t)

-- One round, from a label with the weight n left: it takes of it, and leaves less.
pub record Turns (s : RawSetting) (bounds : Bounds) (Q : Place → State → Type 0) (f : ℕ) (Inv : ℕ → ℕ → State → Type 0) (l n : ℕ) (t : State) : Type 0 where
  pub less : ℕ
  pub spent : ℕ
  pub fewer : less < n
  pub weighs : spent + less ≤ n
  pub comes : RawComes s bounds (Around s Q f Inv less) spent (label_in s f l) t

-- From a label where its invariant holds the lines come to where they should, with the weight that is left there.
abbrev pub LoopsEnd : Type 0
LoopsEnd = (s : RawSetting) (bounds : Bounds) (done : Place → State → Bool) (f : ℕ) (inv : ℕ → ℕ → State → Bool)
    → ((l n : ℕ) (t : State) → IsTrue (inv l n t) → Turns s bounds (λ q u. IsTrue (done q u)) f (λ l n u. IsTrue (inv l n u)) l n t)
    → (l n : ℕ) (t : State) → IsTrue (inv l n t) → RawComes s bounds (λ q u. IsTrue (done q u)) n (label_in s f l) t
