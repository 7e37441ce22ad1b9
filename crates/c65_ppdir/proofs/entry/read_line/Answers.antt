use Rattle.std.proofs.Common.{◌∙◌, Bool, refl}
use Rattle.c65_ppfile.specs.Finding.{path_at}
use Rattle.c65_ppdir.specs.Standing.{standing}
use Rattle.c65_ppdir.specs.Units.{around, reached}
use Rattle.c65_ppfile.proofs.Missing.{included_misses}
use Rattle.c65_ppdir.proofs.Units.{line_steps, end_steps, fault_steps, include_steps, missing_steps, no_miss, told_where}
use Rattle.c65_ppdir.proofs.entry.read_line.Goals as goal

pub returns-in-Err-clause-misses : goal.returns-in-Err-clause-misses
returns-in-Err-clause-misses g c =
    λ units.
    no_miss Bool (g.F.Files.contents c.args.files.now) c.args.folders.now c.in-Err.refusal (λ held told.
    let u = told_where (g.F.Files.contents c.args.files.now) held c.args.unit.now told units in
    (c.in-Err.ensures.exact held told u.0 u.1).2)

pub returns-in-Err-include-clause-misses : goal.returns-in-Err-include-clause-misses
returns-in-Err-include-clause-misses g c =
    λ units.
    included_misses (Unit {0}) Bool (g.F.Files.contents c.args.files.now) (g.F.Files.contents c.advance.new.files) (path_at c.args.paths.now.items c.in-Ok-Include.number) c.args.folders.now c.in-Ok-Include.header c.in-Err-include.refusal c.advance.ensures.serves.same c.in-Err-include.ensures.includes

pub returns-in-Ok-Line-clause-told : goal.returns-in-Ok-Line-clause-told
returns-in-Ok-Line-clause-told g c = λ held told units. let x = c.in-Ok-Line.ensures.exact held told units.0 units.1 in (x.0, x.1)

pub returns-in-Ok-End-clause-told : goal.returns-in-Ok-End-clause-told
returns-in-Ok-End-clause-told g c = λ held told units. let x = c.in-Ok-End.ensures.exact held told units.0 units.1 in (x.0, x.1)

pub returns-in-Ok-clause-told : goal.returns-in-Ok-clause-told
returns-in-Ok-clause-told g c = λ held told units. let x = c.in-Ok-Include.ensures.exact held told units.0 units.1 in c.in-Ok.ensures.told held (c.advance.ensures.serves.same ∙ told) (x.0, x.1)

pub returns-in-Ok-Line-clause-exact : goal.returns-in-Ok-Line-clause-exact
returns-in-Ok-Line-clause-exact g c =
    λ held told units.
    let x = c.in-Ok-Line.ensures.exact held told units.0 units.1 in
    let now = c.advance.new.self in
    line_steps (around held c.args.folders.now c.args.unit.now.included.is_char_signed) (reached held c.args.unit.now c.args.names.now c.args.paths.now.items)
    (standing held now.reader now.file now.outer.items now.included.headers.items c.advance.new.names) (rw c.in-Ok-Line.field-0-is at x.3)

pub returns-in-Ok-End-clause-exact : goal.returns-in-Ok-End-clause-exact
returns-in-Ok-End-clause-exact g c =
    λ held told units.
    let x = c.in-Ok-End.ensures.exact held told units.0 units.1 in
    let now = c.advance.new.self in
    end_steps (around held c.args.folders.now c.args.unit.now.included.is_char_signed) (reached held c.args.unit.now c.args.names.now c.args.paths.now.items)
    (standing held now.reader now.file now.outer.items now.included.headers.items c.advance.new.names) (rw c.in-Ok-End.field-0-is at x.3)

pub returns-in-Err-clause-exact : goal.returns-in-Err-clause-exact
returns-in-Err-clause-exact g c =
    λ held told units.
    let x = c.in-Err.ensures.exact held told units.0 units.1 in
    fault_steps (around held c.args.folders.now c.args.unit.now.included.is_char_signed) (reached held c.args.unit.now c.args.names.now c.args.paths.now.items) (reached held c.advance.new.self c.advance.new.names c.args.paths.now.items) c.in-Err.refusal refl x.3

pub returns-in-Ok-clause-exact : goal.returns-in-Ok-clause-exact
returns-in-Ok-clause-exact g c =
    λ held told units.
    let x = c.in-Ok-Include.ensures.exact held told units.0 units.1 in
    let now = c.advance.new.self in
    include_steps held c.args.folders.now c.args.unit.now.included.is_char_signed now.included.is_char_signed (reached held c.args.unit.now c.args.names.now c.args.paths.now.items) c.in-Ok-Include.header c.in-Ok-Include.number
    (standing held now.reader now.file now.outer.items now.included.headers.items c.advance.new.names) (reached held c.include.new.unit c.include.new.names c.include.new.paths.items) (rw c.in-Ok-Include.field-0-is at x.3) c.advance.ensures.signed (c.in-Ok.ensures.exact held (c.advance.ensures.serves.same ∙ told))

pub returns-in-Err-include-clause-exact : goal.returns-in-Err-include-clause-exact
returns-in-Err-include-clause-exact g c =
    λ held told units.
    let x = c.in-Ok-Include.ensures.exact held told units.0 units.1 in
    let now = c.advance.new.self in
    missing_steps held c.args.folders.now c.args.unit.now.included.is_char_signed now.included.is_char_signed (reached held c.args.unit.now c.args.names.now c.args.paths.now.items) c.in-Ok-Include.header c.in-Ok-Include.number
    (standing held now.reader now.file now.outer.items now.included.headers.items c.advance.new.names) (reached held c.include.new.unit c.include.new.names c.include.new.paths.items) c.in-Err-include.refusal (rw c.in-Ok-Include.field-0-is at x.3) c.advance.ensures.signed (c.in-Err-include.ensures.exact held (c.advance.ensures.serves.same ∙ told))
