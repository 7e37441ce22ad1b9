use Rattle.c65_biggen.specs.Generated.{functions, calls}
use Rattle.c65_biggen.proofs.SourceLaws.{four_parts}
use Rattle.c65_biggen.proofs.source.biggen.Goals as goal

pub returns-clause-ok : goal.returns-clause-ok
returns-clause-ok c =
    four_parts (functions c.args.number 0 c.args.number) _ (calls c.args.number 0) _ _ _ _ _ _ c.new-source.ensures.items c.in_ok-push_functions.ensures
    c.in_ok-extend_from_slice.ensures.items c.in_ok-push_calls.ensures c.in_ok-extend_from_slice-2.ensures.items
