use Rattle.std.proofs.Common.{◌≡◌, take}
use Rattle.c65_ctype.specs.Views.{qtys_of}
use Rattle.c65_ctype.proofs.copy.+copy.Given as goal

abbrev pub invariant-copied_fn-loop-ty : goal.invariant-copied_fn-loop-ty
invariant-copied_fn-loop-ty l = qtys_of l.copies.items ≡ qtys_of (take l.ty-index l.ty-items)
