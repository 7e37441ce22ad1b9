use Rattle.std.proofs.Common.{◌≡◌, ◌∙◌, ℕ, List, inl, ap, rules}
use Rattle.c65_ppline.proofs.Relations.{is_free}
use Rattle.c65_ppdir.proofs.Texts.{memory_stops}
use Rattle.c65_ppdir.proofs.Wholes.{begins, begins_not}
use Rattle.c65_ppdir.proofs.entry.begin.Goals as goal

pub returns-in-Ok-add_path-clause-told : goal.returns-in-Ok-add_path-clause-told
returns-in-Ok-add_path-clause-told c =
    λ held bytes here first.
    c.in-Ok-begin.ensures.told held (c.in-Ok.ensures.exact held bytes (ap (λ (p : List ℕ). held p) c.in_ok-read_from.ensures ∙ here) first).0

pub returns-in-Ok-add_path-clause-exact : goal.returns-in-Ok-add_path-clause-exact
returns-in-Ok-add_path-clause-exact c =
    λ held bytes here first.
    let spelled : c.as_slice.result.now ≡ c.args.path.now = search rules in
    begins c.args.macros c.args.path.now c.as_slice.result.now bytes c.args.names.now c.args.paths.now.items c.add_path.new.paths.items _ spelled
    (c.in-Ok-begin.ensures.exact held bytes (c.in-Ok.ensures.exact held bytes (ap (λ (p : List ℕ). held p) c.in_ok-read_from.ensures ∙ here) first).1) c.in-Ok-add_path.ensures.added

pub returns-in-Err-begin-clause-exact : goal.returns-in-Err-begin-clause-exact
returns-in-Err-begin-clause-exact c =
    λ held bytes here first.
    let spelled : c.as_slice.result.now ≡ c.args.path.now = search rules in
    begins_not c.args.macros c.args.path.now c.as_slice.result.now bytes c.args.names.now c.args.paths.now.items c.in-Err-begin.refusal spelled
    (c.in-Err-begin.ensures.exact held bytes (c.in-Ok.ensures.exact held bytes (ap (λ (p : List ℕ). held p) c.in_ok-read_from.ensures ∙ here) first).1)

pub returns-in-Err-add_path-clause-stops : goal.returns-in-Err-add_path-clause-stops
returns-in-Err-add_path-clause-stops c = memory_stops c.in-Err-add_path.refusal c.in-Err-add_path.ensures.refused

pub returns-in-Err-add_path-clause-exact : goal.returns-in-Err-add_path-clause-exact
returns-in-Err-add_path-clause-exact c = λ held bytes here first. inl (is_free c.in-Err-add_path.refusal c.in-Err-add_path.ensures.refused)
