use Rattle.std.proofs.Common.{◌≡◌, drop}
use Rattle.c65_link.specs.Symbols.{with_function_uses}
use Rattle.c65_link.proofs.uses.Chosen.mark_functions.Given as goal

abbrev pub invariant-loop-function : goal.invariant-loop-function
invariant-loop-function l = record l.self { marks = with_function_uses l.targets l.self.marks (drop l.function-index l.functions) } ≡ record l.initial.self { marks = with_function_uses l.targets l.initial.self.marks l.functions }
