use Rattle.std.proofs.Common.{◌≡◌, drop}
use Rattle.c65_pass.specs.KnownCalls.{literal_length}
use Rattle.c65_optlib.proofs.texts.literal_length.Given as goal

abbrev pub invariant-loop-name : goal.invariant-loop-name
invariant-loop-name l = literal_length (drop l.name-index l.literals) l.sym ≡ literal_length l.literals l.sym
