-- Labels that a draft gives.
use Rattle.std.specs.Prelude.{ℕ, ◌+◌}
use Rattle.c65_code.specs.Segments.{Drafted}

-- so many labels more
abbrev pub with_labels : ℕ → Drafted → Drafted
with_labels n draft = record draft { labels = draft.labels + n }
