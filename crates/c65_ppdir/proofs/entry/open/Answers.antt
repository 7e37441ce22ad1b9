use Rattle.std.proofs.Common.{◌≡◌, ◌∙◌, ℕ, ◌∷◌, ◌++◌, [], length, ap, sym, rules, arith}
use Rattle.c65_pptext.specs.Reading.{text_of}
use Rattle.c65_ppdir.specs.Units.{reached}
use Rattle.c65_ppdir.proofs.Units.{opens, opens_not}
use Rattle.c65_ppdir.proofs.entry.open.Goals as goal

pub returns-clause-told : goal.returns-clause-told
returns-clause-told c = λ held told units. c.in-Ok.ensures.told held told units.0 units.1

pub returns-clause-exact : goal.returns-clause-exact
returns-clause-exact c =
    λ held bytes there.
    let size : c.len-number.result ≡ length c.args.paths.now.items = first_of (search rules, omega (arith, c.args.paths.now.ok.0), cc (c.args.paths.now.ok.0, c.len-number.ensures)) in
    let spelled : c.as_slice.result.now ≡ c.args.path = search rules in
    let added : c.push.new.self.items ≡ c.args.paths.now.items ++ c.args.path ∷ [] = search rules in
    opens (reached held c.args.unit.now c.args.names.now c.args.paths.now.items) c.args.path c.as_slice.result.now bytes c.len-number.result _ c.push.new.self.items size spelled (c.in-Ok.ensures.exact held bytes (there ∙ ap (λ (n : ℕ). text_of n bytes) (sym size))) added

pub returns-in-Err-clause-exact : goal.returns-in-Err-clause-exact
returns-in-Err-clause-exact c =
    λ held bytes there.
    let size : c.len-number.result ≡ length c.args.paths.now.items = first_of (search rules, omega (arith, c.args.paths.now.ok.0), cc (c.args.paths.now.ok.0, c.len-number.ensures)) in
    let spelled : c.as_slice.result.now ≡ c.args.path = search rules in
    opens_not (reached held c.args.unit.now c.args.names.now c.args.paths.now.items) c.args.path c.as_slice.result.now bytes c.len-number.result c.in-Err.refusal size spelled (c.in-Err.ensures.exact held bytes (there ∙ ap (λ (n : ℕ). text_of n bytes) (sym size)))
