use Rattle.std.proofs.Common.{◌≡◌, drop}
use Rattle.c65_parse.specs.Reading.{rest_of, blocks_of}
use Rattle.c65_decl.specs.Declaring.{with_names}
use Rattle.c65_decl.proofs.function.declare_names.Given as goal

abbrev pub invariant-loop-name : goal.invariant-loop-name
invariant-loop-name l = record {
  scope : with_names (drop l.name-index l.names) (blocks_of l.parser) ≡ with_names l.names (blocks_of l.fn.parser);
  rest : rest_of l.parser ≡ rest_of l.fn.parser;
}
