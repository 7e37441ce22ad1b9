use Rattle.std.proofs.Common.{◌≡◌, drop}
use Rattle.c65_parse.specs.Reading.{rest_of, blocks_of}
use Rattle.c65_decl.specs.Declaring.{each_param}
use Rattle.c65_decl.proofs.function.declare_param_list.Given as goal

abbrev pub invariant-loop-param : goal.invariant-loop-param
invariant-loop-param l = record {
  scope : each_param (drop l.param-index l.params) (blocks_of l.parser) ≡ each_param l.params (blocks_of l.fn.parser);
  rest : rest_of l.parser ≡ rest_of l.fn.parser;
}
