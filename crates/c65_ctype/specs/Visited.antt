-- Pairs of tags, each once, in the order in which they came.
use Rattle.std.specs.Prelude.{ℕ, [], ◌∷◌, ◌++◌, Bool, true, false, ◌==◌, ◌&&◌, if◌then◌else◌}
use Rattle.c65_ctype.specs.Compatible.{Pairs}

abbrev pub has_pair : Pairs → ℕ × ℕ → Bool
has_pair [] p = false
has_pair (q ∷ qs) p = if (q.0 == p.0) && (q.1 == p.1) then true else has_pair qs p

abbrev pub with_one : Pairs → ℕ × ℕ → Pairs
with_one seen p = if has_pair seen p then seen else seen ++ p ∷ []

abbrev pub with_new : Pairs → Pairs → Pairs
with_new seen [] = seen
with_new seen (p ∷ ps) = with_new (with_one seen p) ps
