use Rattle.std.proofs.Common.{◌≡◌, ℕ, Ok, ◌+◌, ◌∷◌, ◌++◌, [], List, map, drop, Err, ◌∙◌, subst}
use Rattle.c65_csem.specs.Trees.{UnitTy}
use Rattle.c65_csem.specs.Views.{unit_of}
use Rattle.c65_init_join.proofs.TurnLaws.{drop_next}
use Rattle.c65_ppline.proofs.Relations.{onward_err}
use Rattle.c65_driver_chain.specs.Compiled.{outside}
use Rattle.c65_driver_chain.specs.Front.{command, files_typed}
use Rattle.c65_driver_chain.proofs.ChainLaws.{compiles_then, compiles_ok}
use Rattle.c65_driver_chain.proofs.Answering.{files_stop, files_go, one_unit_more}
use Rattle.c65_driver_chain.proofs.chain.typed_units.Goals as goal

pub returns-in-Err-clause-exact : goal.returns-in-Err-clause-exact
returns-in-Err-clause-exact g c = λ held told.
    let k = command held c.args.options.now c.args.defines.now c.args.folders.now in
    let done : List UnitTy = map unit_of c.loop-path.units.items in
    let left : List (List ℕ) = drop c.loop-path.path-index c.args.paths.now in
    let here : left ≡ c.path-item.result ∷ drop (c.loop-path.path-index + 1) c.args.paths.now = drop_next c.args.paths.now c.loop-path.path-index c.path-item.result c.loop-path-test.true c.path-item.is in
    onward_err c.in-Err.refusal (files_typed k c.args.rest left done c.loop-path.names) (files_typed k c.args.rest c.args.paths.now [] c.args.names.now) (c.loop-path.invariant.goes held told (Err c.in-Err.refusal))
    (files_stop k c.args.rest c.path-item.result (drop (c.loop-path.path-index + 1) c.args.paths.now) left done c.loop-path.names c.in-Err.refusal here (c.in-Err.ensures.exact held (c.loop-path.invariant.compiles.same ∙ told)))

pub loop-path-preserved : goal.loop-path-preserved
loop-path-preserved g c = record {
  compiles =
      let old = outside (g.F.Files.contents c.args.files.now) (g.F.Files.write_faults c.args.files.now) (g.F.Files.faults c.args.files.now) (g.F.Files.misses c.args.files.now) in
      let mid = outside (g.F.Files.contents c.loop-path.files) (g.F.Files.write_faults c.loop-path.files) (g.F.Files.faults c.loop-path.files) (g.F.Files.misses c.loop-path.files) in
      let new = outside (g.F.Files.contents c.typed_unit.new.files) (g.F.Files.write_faults c.typed_unit.new.files) (g.F.Files.faults c.typed_unit.new.files) (g.F.Files.misses c.typed_unit.new.files) in
      compiles_ok c.args.folders.now old new c.in-Ok.unit tt (compiles_then c.args.folders.now old mid new tt (Ok c.in-Ok.unit) c.loop-path.invariant.compiles c.in-Ok.ensures.compiles);
  goes = λ held told z h.
      let k = command held c.args.options.now c.args.defines.now c.args.folders.now in
      let done : List UnitTy = map unit_of c.loop-path.units.items in
      let left : List (List ℕ) = drop c.loop-path.path-index c.args.paths.now in
      let here : left ≡ c.path-item.result ∷ drop (c.loop-path.path-index + 1) c.args.paths.now = drop_next c.args.paths.now c.loop-path.path-index c.path-item.result c.loop-path-test.true c.path-item.is in
      let more : map unit_of c.push.new.self.items ≡ done ++ unit_of c.in-Ok.unit ∷ [] = one_unit_more c.loop-path.units.items c.in-Ok.unit c.push.new.self.items c.in-Ok-push.ensures.items in
      c.loop-path.invariant.goes held told z
      (files_go k c.args.rest c.path-item.result (drop (c.loop-path.path-index + 1) c.args.paths.now) left done c.loop-path.names c.typed_unit.new.names (unit_of c.in-Ok.unit) z here
      (c.in-Ok.ensures.exact held (c.loop-path.invariant.compiles.same ∙ told))
      (subst (λ (us : List UnitTy). files_typed k c.args.rest (drop (c.loop-path.path-index + 1) c.args.paths.now) us c.typed_unit.new.names z) more h));
}
