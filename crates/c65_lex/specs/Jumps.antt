-- Bytes among which nothing vanishes.
use Rattle.std.specs.Prelude.{ℕ, List, [], ◌∷◌, Bool, true, ◌==◌, ◌&&◌, ◌||◌, not}

-- no line feed, and none of the byte that is sought
abbrev pub are_plain : ℕ → List ℕ → Bool
are_plain stop [] = true
are_plain stop (b ∷ bs) = not ((b == 10) || (b == stop)) && are_plain stop bs
