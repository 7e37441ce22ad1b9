use Rattle.std.proofs.Common.{◌≡◌, ℕ, List, [], map, drop, Some, Result, Ok}
use Rattle.c65_base.specs.declared.refusal.Refusal.{Refusal}
use Rattle.c65_csem.specs.Trees.{UnitTy}
use Rattle.c65_csem.specs.Views.{unit_of}
use Rattle.c65_ppdir.specs.Units.{Held}
use Rattle.c65_driver_chain.specs.Compiled.{Compiles, outside}
use Rattle.c65_driver_chain.specs.Front.{command, files_typed}
use Rattle.c65_driver_chain.proofs.chain.typed_units.Given as goal

abbrev pub invariant-loop-path : goal.invariant-loop-path
invariant-loop-path g l = record {
  compiles : Compiles {T = Unit {0}} l.fn.folders (outside (g.F.Files.contents l.fn.files) (g.F.Files.write_faults l.fn.files) (g.F.Files.faults l.fn.files) (g.F.Files.misses l.fn.files)) (outside (g.F.Files.contents l.files) (g.F.Files.write_faults l.files) (g.F.Files.faults l.files) (g.F.Files.misses l.files)) (Ok tt);
  goes : (held : Held) → g.F.Files.contents l.fn.files ≡ Some held → (z : Result (List UnitTy × List (List ℕ)) Refusal) → files_typed (command held l.fn.options l.fn.defines l.fn.folders) l.fn.rest (drop l.path-index l.paths) (map unit_of l.units.items) l.names z → files_typed (command held l.fn.options l.fn.defines l.fn.folders) l.fn.rest l.fn.paths [] l.fn.names z;
}
