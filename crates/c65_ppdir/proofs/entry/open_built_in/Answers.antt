use Rattle.std.proofs.Common.{◌≡◌, ◌∙◌, ℕ, List, length, ap, sym, rules, arith}
use Rattle.c65_pptext.specs.Reading.{text_of}
use Rattle.c65_ppdir.specs.Units.{reached}
use Rattle.c65_ppdir.proofs.Units.{on_ok, told_same, enters_built_in, with_header_more}
use Rattle.c65_ppdir.proofs.entry.open_built_in.Goals as goal

pub returns-in-Ok-clause-told : goal.returns-in-Ok-clause-told
returns-in-Ok-clause-told c =
    on_ok c.open.result c.open.ensures.told (λ f held units. f held (c.in-Ok.ensures.exact held).0 (told_same held c.args.unit.now c.built_in.new.self c.built_in.ensures.same.1 c.built_in.ensures.same.2 units))

pub returns-in-Ok-clause-exact : goal.returns-in-Ok-clause-exact
returns-in-Ok-clause-exact c =
    λ held.
    let size : c.len.result ≡ length c.args.paths.now.items = first_of (search rules, omega (arith, c.args.paths.now.ok.0), cc (c.args.paths.now.ok.0, c.len.ensures)) in
    enters_built_in (λ (x : Unit {0}). reached held c.open.new.unit c.open.new.names c.open.new.paths.items) c.args.unit.now.included.is_char_signed c.args.header (reached held c.args.unit.now c.args.names.now c.args.paths.now.items) (reached held c.built_in.new.self c.args.names.now c.args.paths.now.items)
    c.in_ok-path.path c.deref.result.now c.open.result (c.in_ok-path.ensures ∙ c.path.ensures) (c.deref.ensures.value ∙ c.in_ok-bytes.ensures.text)
    (with_header_more held c.args.names.now c.args.paths.now.items c.args.unit.now c.built_in.new.self c.args.header c.built_in.ensures.same.0 c.built_in.ensures.same.1 c.built_in.ensures.same.2 c.in_ok-bytes.ensures.headers)
    (c.open.ensures.exact held c.deref.result.now ((c.in-Ok.ensures.exact held).1 ∙ ap (λ (n : ℕ). text_of n c.deref.result.now) size))
