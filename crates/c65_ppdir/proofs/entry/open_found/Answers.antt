use Rattle.std.proofs.Common.{◌≡◌, ◌∙◌, ℕ, List, Some, length, ap, sym, rules, arith}
use Rattle.c65_pptext.specs.Reading.{text_of}
use Rattle.c65_ppdir.proofs.Units.{on_ok}
use Rattle.c65_ppdir.proofs.entry.open_found.Goals as goal

pub returns-in-Ok-clause-told : goal.returns-in-Ok-clause-told
returns-in-Ok-clause-told c =
    on_ok c.open.result c.open.ensures.told (λ f held bytes here first units. f held (c.in-Ok.ensures.exact held bytes (ap (λ (p : List ℕ). held p) c.in_ok-read_from.ensures ∙ here) first).0 units)

pub returns-in-Ok-clause-exact : goal.returns-in-Ok-clause-exact
returns-in-Ok-clause-exact c =
    λ held bytes here first.
    let size : c.len.result ≡ length c.args.paths.now.items = first_of (search rules, omega (arith, c.args.paths.now.ok.0), cc (c.args.paths.now.ok.0, c.len.ensures)) in
    c.open.ensures.exact held bytes ((c.in-Ok.ensures.exact held bytes (ap (λ (p : List ℕ). held p) c.in_ok-read_from.ensures ∙ here) first).1 ∙ ap (λ (n : ℕ). text_of n bytes) size)
