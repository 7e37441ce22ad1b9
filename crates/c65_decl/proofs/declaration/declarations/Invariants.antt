use Rattle.std.proofs.Common.{◌≡◌, drop}
use Rattle.c65_parse.specs.Reading.{rest_of, blocks_of}
use Rattle.c65_decl.specs.Decls.{decls_of, declarations_run, declarations_read}
use Rattle.c65_decl.proofs.declaration.declarations.Given as goal

abbrev pub invariant-loop-step : goal.invariant-loop-step
invariant-loop-step l = declarations_run 256 l.unit (drop l._step-index l.unit) (decls_of l.decls.items) (blocks_of l.parser) (rest_of l.parser) ≡ declarations_read 256 l.unit (blocks_of l.fn.parser) (rest_of l.fn.parser)
