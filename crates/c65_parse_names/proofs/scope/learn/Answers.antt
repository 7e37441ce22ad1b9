use Rattle.std.proofs.Common.{ap, ◌∙◌}
use Rattle.c65_parse_names.specs.Blocks.{with_kind_of, Stacks}
use Rattle.c65_parse_names.proofs.Blocks.{pushed_on}
use Rattle.c65_parse_names.proofs.scope.learn.Goals as goal

pub returns-in_ok-push : goal.returns-in_ok-push
returns-in_ok-push c = pushed_on c.grow.new.kinds.items c.args.name c.in-Some.stack.now c.push.new.self c.args.is_type c.in_ok-grow.ensures.room c.in-Some.ensures.value c.in_ok-push.ensures.items ∙ ap (λ (s : Stacks). with_kind_of s c.args.name c.args.is_type) c.in_ok-grow.ensures.stacks
