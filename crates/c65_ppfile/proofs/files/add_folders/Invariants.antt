use Rattle.std.proofs.Common.{◌≡◌, ◌++◌, map, length}
use Rattle.c65_ppfile.specs.Search
use Rattle.c65_ppfile.proofs.files.add_folders.Given as goal

abbrev pub invariant-loop-folder : goal.invariant-loop-folder
invariant-loop-folder l = l.paths.items ++ map (Search.in_folder l.name) l.rest ≡ l.fn.paths.items ++ map (Search.in_folder l.name) l.fn.folders

abbrev pub decreases-loop-folder : goal.decreases-loop-folder
decreases-loop-folder l = length l.rest
