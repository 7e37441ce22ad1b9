use Rattle.std.proofs.Common.{◌≡◌, ◌++◌, take}
use Rattle.c65_commands.proofs.run.arguments.Given as goal

abbrev pub invariant-loop-arg : goal.invariant-loop-arg
invariant-loop-arg l = l.texts.items ≡ take 1 l.files ++ take l.arg-index l.args
