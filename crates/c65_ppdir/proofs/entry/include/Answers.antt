use Rattle.std.proofs.Common.{◌≡◌, ◌∙◌, ℕ, List, Some, Ok, sym, subst, rules}
use Rattle.c65_ppfile.specs.Finding.{path_at}
use Rattle.c65_ppfile.specs.Search.{paths_of}
use Rattle.c65_ppdir.specs.Units.{reached, source_of}
use Rattle.c65_ppfile.proofs.Finding.{found_is_there}
use Rattle.c65_ppdir.proofs.Units.{found_short, seeks_source, includes_found, on_ok}
use Rattle.c65_ppdir.proofs.entry.include.Goals as goal

pub enter-requires : goal.enter-requires
enter-requires g c = found_short (g.F.Files.contents c.args.files.now) c.path_at.result.now c.args.folders.now c.args.header c.in-Ok.found c.in-Ok.ensures.seeks

pub returns-in-Ok-clause-told : goal.returns-in-Ok-clause-told
returns-in-Ok-clause-told g c =
    let header = c.args.header in
    on_ok c.enter.result c.enter.ensures.told (λ f held told units.
    let s = seeks_source (g.F.Files.contents c.args.files.now) held c.path_at.result.now c.args.folders.now header c.in-Ok.found told c.in-Ok.ensures.seeks in
    f held s.0 (found_is_there (g.F.Files.contents c.args.files.now) (Some held) c.path_at.result.now c.args.folders.now header c.in-Ok.found (sym told) c.in-Ok.ensures.seeks) s.2 units)

pub returns-in-Ok-clause-exact : goal.returns-in-Ok-clause-exact
returns-in-Ok-clause-exact g c =
    λ held told.
    let header = c.args.header in
    let s = seeks_source (g.F.Files.contents c.args.files.now) held c.path_at.result.now c.args.folders.now header c.in-Ok.found told c.in-Ok.ensures.seeks in
    let here : c.path_at.result.now ≡ path_at c.args.paths.now.items c.args.number = search rules in
    includes_found (λ (x : Unit {0}). reached held c.enter.new.unit c.enter.new.names c.enter.new.paths.items) held c.args.folders.now c.args.unit.now.included.is_char_signed header c.args.number (reached held c.args.unit.now c.args.names.now c.args.paths.now.items) s.0 c.enter.result
    (subst (λ (p : List ℕ). Ok s.0 ≡ source_of held (paths_of p c.args.folders.now header.is_quoted header.name) header.name) here s.1)
    (c.enter.ensures.exact held s.0 (found_is_there (g.F.Files.contents c.args.files.now) (Some held) c.path_at.result.now c.args.folders.now header c.in-Ok.found (sym told) c.in-Ok.ensures.seeks) s.2)
