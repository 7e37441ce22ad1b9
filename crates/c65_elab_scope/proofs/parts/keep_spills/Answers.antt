use Rattle.std.proofs.Common.{rules, arith}
use Rattle.std.specs.Prelude.{nat_lt}
use Rattle.std.proofs.lemmas.Fn.{filter_same}
use Rattle.c65_elab_scope.proofs.parts.keep_spills.Goals as goal

pub returns : goal.returns
returns c = filter_same _ (λ i. nat_lt i c.args.count) _ (λ x b f' k. first_of (search rules, grind arith)) _ _ c.retain.ensures.filtered
