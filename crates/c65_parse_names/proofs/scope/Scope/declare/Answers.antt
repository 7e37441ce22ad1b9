use Rattle.c65_parse_names.proofs.Blocks.{declared_scope, declared_outside, empty}
use Rattle.c65_parse_names.proofs.scope.Scope.declare.Goals as goal

pub returns-in_ok-push-2 : goal.returns-in_ok-push-2
returns-in_ok-push-2 c =
    declared_scope c.args.self.now.kinds.items c.learn.new.kinds.items c.args.self.now.blocks.items c.pop.new.self.items c.push-in-Some.new.self.items
    c.in-Some.block c.push.new.self c.args.name c.args.is_type c.in-Some.ensures.items c.in_ok-push-2.ensures.items c.in_ok-push.ensures.items c.in_ok-learn.ensures

pub returns-in_default : goal.returns-in_default
returns-in_default c =
    declared_outside c.args.self.now.kinds.items c.learn.new.kinds.items c.args.self.now.blocks.items c.pop.new.self.items c.args.name c.args.is_type
    (empty c.args.self.now.blocks c.in_default.ensures.cases.0) (empty c.pop.new.self c.in_default.ensures.cases.1) c.in_ok-learn.ensures
