use Rattle.std.proofs.Common.{◌≡◌, drop}
use Rattle.c65_tree.specs.View.{declarator_of}
use Rattle.c65_parse.specs.Reading.{rest_of, blocks_of}
use Rattle.c65_decl.specs.Decls.{declarators_of, declarators_run, declarators_read}
use Rattle.c65_decl.proofs.declaration.declarators.Given as goal

abbrev pub invariant-loop-step : goal.invariant-loop-step
invariant-loop-step l = declarators_run 256 l.unit l.naming (drop l._step-index l.unit) (declarators_of l.before.items) (declarator_of l.declarator) (blocks_of l.parser) (rest_of l.parser) ≡ declarators_read 256 l.unit l.naming (declarator_of l.fn.first) (blocks_of l.fn.parser) (rest_of l.fn.parser)
