use Rattle.std.proofs.Common.{◌≡◌, ◌≤◌, drop}
use Rattle.c65_ppfile.specs.Search
use Rattle.c65_ppfile.proofs.files.folder_of.Given as goal

abbrev pub invariant-loop-at : goal.invariant-loop-at
invariant-loop-at l = (Search.up_to_slash l.at l.count (drop l.at l.path) ≡ Search.up_to_slash 0 0 l.path) × (l.count ≤ l.at)
