use Rattle.std.proofs.Common.{◌∙◌, ◌≤◌, ℕ, List, length, sym, subst}
use Rattle.c65_lex.specs.declared.token.PpToken.{PpToken}
use Rattle.c65_ppfile.specs.Finding.{BeginsAt}
use Rattle.c65_ppdir.specs.Units.{around, reached, unit_of}
use Rattle.c65_ppdir.proofs.Wholes.{main_begins, told_main, unit_misses, begin_refused, unit_goes}
use Rattle.c65_ppdir.proofs.entry.read_unit.Goals as goal

pub returns-in-Ok-begin-clause-misses : goal.returns-in-Ok-begin-clause-misses
returns-in-Ok-begin-clause-misses g c =
    let there = subst (λ (xs : List ℕ). BeginsAt (g.F.Files.contents c.args.files.now) c.args.path.now xs) (sym c.deref.ensures.value) c.in-Ok.ensures.reads.0 in
    unit_misses (List PpToken) (g.F.Files.contents c.args.files.now) (g.F.Files.contents c.begin_main.new.files) c.args.folders.now c.args.path.now c.read_lines.result c.in-Ok.ensures.serves.same
    (c.read_lines.ensures.misses (told_main (g.F.Files.contents c.args.files.now) (g.F.Files.contents c.begin_main.new.files) c.args.path.now c.deref.result.now c.in-Ok-begin.unit c.in-Ok.ensures.serves.same there c.in-Ok-begin.ensures.told))

pub returns-in-Ok-begin-clause-exact : goal.returns-in-Ok-begin-clause-exact
returns-in-Ok-begin-clause-exact g c =
    λ held told nil.
    let there = subst (λ (xs : List ℕ). BeginsAt (g.F.Files.contents c.args.files.now) c.args.path.now xs) (sym c.deref.ensures.value) c.in-Ok.ensures.reads.0 in
    let m = main_begins (g.F.Files.contents c.args.files.now) held c.args.path.now c.deref.result.now told there in
    unit_goes (λ (ts : List PpToken). (unit_of ts c.read_lines.new.paths.items, c.read_lines.new.names)) held c.args.folders.now c.args.options.now.signed_chars c.in-Ok-begin.unit.included.is_char_signed c.args.path.now m.0 c.args.macros c.args.names.now c.args.paths.now.items
    c.read_lines.new.paths.items (reached held c.in-Ok-begin.unit c.begin.new.names c.begin.new.paths.items) c.read_lines.result m.1 nil (c.in-Ok-begin.ensures.exact held m.0 m.1 m.2) c.in-Ok-begin.ensures.signed
    (c.read_lines.ensures.exact held (c.in-Ok.ensures.serves.same ∙ told) (c.in-Ok-begin.ensures.told held m.0 m.1 m.2))

pub begin-requires : goal.begin-requires
begin-requires g c = subst (λ (xs : List ℕ). length xs ≤ 4096) (sym c.deref.ensures.value) c.in-Ok.ensures.reads.1

pub returns-clause-exact : goal.returns-clause-exact
returns-clause-exact g c =
    λ held told nil.
    let there = subst (λ (xs : List ℕ). BeginsAt (g.F.Files.contents c.args.files.now) c.args.path.now xs) (sym c.deref.ensures.value) c.in-Ok.ensures.reads.0 in
    let m = main_begins (g.F.Files.contents c.args.files.now) held c.args.path.now c.deref.result.now told there in
    begin_refused (λ (ts : List PpToken). (unit_of ts c.begin.new.paths.items, c.begin.new.names)) (around held c.args.folders.now c.args.options.now.signed_chars) c.args.path.now m.0 c.args.macros c.args.names.now c.args.paths.now.items
    c.begin.new.paths.items c.in-Err-begin.refusal m.1 nil (c.in-Err-begin.ensures.exact held m.0 m.1 m.2)
