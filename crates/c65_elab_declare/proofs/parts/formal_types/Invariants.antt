use Rattle.std.proofs.Common.{◌≡◌, take, map}
use Rattle.c65_ctype.specs.Views.{qtys_of}
use Rattle.c65_elab_declare.specs.Declarators.{formal_of, formal_tys}
use Rattle.c65_elab_declare.proofs.parts.formal_types.Given as goal

abbrev pub invariant-loop-formal : goal.invariant-loop-formal
invariant-loop-formal l = qtys_of l.types.items ≡ formal_tys (map formal_of (take l.formal-index l.formals))
