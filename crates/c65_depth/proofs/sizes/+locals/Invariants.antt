use Rattle.std.proofs.Common.{◌≡◌, ◌+◌, ◌≤◌, drop}
use Rattle.std.specs.Prelude.{min}
use Rattle.c65_csem.specs.Views.{stmts_of, unit_of}
use Rattle.c65_meaning.specs.Costs.{all_local_bytes}
use Rattle.c65_depth.specs.Calls.{most}
use Rattle.c65_depth.proofs.sizes.+locals.Given as goal

abbrev pub invariant-all_local_bytes-loop-stmt : goal.invariant-all_local_bytes-loop-stmt
invariant-all_local_bytes-loop-stmt l =
    (min (l.bytes + all_local_bytes (unit_of l.parts) (stmts_of (drop l.stmt-index l.stmts))) most ≡ min (all_local_bytes (unit_of l.parts) (stmts_of l.stmts)) most)
    × (l.bytes ≤ most)
