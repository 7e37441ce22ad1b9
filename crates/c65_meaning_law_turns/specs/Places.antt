-- From which place of its function on the gotos of pending work stand.
use Rattle.std.specs.Prelude.{ℕ, ◌≤◌, List, [], ◌∷◌, ⊤}
use Rattle.c65_meaning.specs.Items.{Item, Begin, Branch, Test, Pass, Enter, Select, Jump, Leave}

-- up to the end of the active call, each goto of the work and of what it lays out stands at this place or behind it
abbrev pub IsFrom : ℕ → List Item → Type 0
IsFrom low [] = ⊤
IsFrom low (Begin n objects ss ∷ k) = (low ≤ n) × IsFrom low k
IsFrom low (Branch m a n b ∷ k) = (low ≤ m) × (low ≤ n) × IsFrom low k
IsFrom low (Test l ∷ k) = (low ≤ l.at) × IsFrom low k
IsFrom low (Pass l ∷ k) = (low ≤ l.at) × IsFrom low k
IsFrom low (Enter l ∷ k) = (low ≤ l.at) × IsFrom low k
IsFrom low (Select left n body ∷ k) = (low ≤ n) × IsFrom low k
IsFrom low (Jump l n ∷ k) = (low ≤ n) × IsFrom low k
IsFrom low (Leave ∷ k) = ⊤
IsFrom low (_ ∷ k) = IsFrom low k
