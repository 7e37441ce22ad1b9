use Rattle.std.proofs.Common.{◌≡◌, drop, map}
use Rattle.c65_scan.specs.Tokens.{valued}
use Rattle.c65_scan.specs.Steps.{run, first}
use Rattle.c65_scan.proofs.scanner.scan.Given as goal

abbrev pub invariant-loop-token : goal.invariant-loop-token
invariant-loop-token l = run l.scanned (map (valued l.names) (drop l.token-index l.token-items)) ≡ run first (map (valued l.names) l.token-items)
