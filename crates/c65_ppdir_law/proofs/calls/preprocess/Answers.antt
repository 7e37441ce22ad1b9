use Rattle.c65_lex.specs.declared.token.PpUnit.{PpUnit}
use Rattle.c65_ppdir.specs.Units.{preprocessed}
use Rattle.c65_ppdir_law.proofs.Units.{units_are_one, is_answered}
use Rattle.c65_ppdir_law.proofs.calls.preprocess.Goals as goal

pub returns : goal.returns
returns g c =
    λ held z told d p.
    is_answered (λ (u : PpUnit). (u, c.preprocess.new.names)) (preprocessed held c.args.options.now c.args.defines.now c.args.folders.now c.args.path.now c.args.names.now) c.preprocess.result z
    (units_are_one held c.args.options.now c.args.defines.now c.args.folders.now c.args.path.now c.args.names.now) (c.preprocess.ensures.exact held told) d p
