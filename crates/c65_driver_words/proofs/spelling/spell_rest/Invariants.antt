use Rattle.std.proofs.Common.{◌≡◌, ◌-◌, ◌≤◌, length, map, drop, string_bytes}
use Rattle.c65_driver_words.specs.Words.{words_from, nothing_told}
use Rattle.c65_driver_words.proofs.spelling.spell_rest.Given as goal

abbrev pub invariant-loop-at : goal.invariant-loop-at
invariant-loop-at l =
    (l.at ≤ length l.words)
    × (words_from 1 (nothing_told l.fn.kind) (drop 1 (map string_bytes l.words)) ≡ words_from l.at l.told (drop l.at (map string_bytes l.words)))

abbrev pub decreases-loop-at : goal.decreases-loop-at
decreases-loop-at l = length l.words - l.at
