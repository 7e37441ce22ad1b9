use Rattle.std.proofs.Common.{◌≡◌, ◌-◌, ◌≤◌, [], length, map, drop, string_bytes}
use Rattle.c65_driver_words.specs.Words.{args_from}
use Rattle.c65_driver_words.proofs.spelling.with_args.Given as goal

abbrev pub invariant-loop-at : goal.invariant-loop-at
invariant-loop-at l =
    (l.at ≤ length l.words)
    × (args_from l.first l.fn.told [] (drop l.first (map string_bytes l.words)) ≡ args_from l.at l.fn.told l.args.items (drop l.at (map string_bytes l.words)))

abbrev pub decreases-loop-at : goal.decreases-loop-at
decreases-loop-at l = length l.words - l.at
