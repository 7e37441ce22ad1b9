use Rattle.std.proofs.Common.{◌≡◌, take}
use Rattle.c65_ctype.specs.Raised.{raised_all}
use Rattle.c65_ctype.specs.Views.{qtys_of}
use Rattle.c65_ctype.proofs.raise.+raise.Given as goal

abbrev pub invariant-raised_function-loop-ty : goal.invariant-raised_function-loop-ty
invariant-raised_function-loop-ty l = qtys_of l.copies.items ≡ raised_all l.by (qtys_of (take l.ty-index l.ty-items))
