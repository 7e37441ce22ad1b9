use Rattle.std.proofs.Common.{◌≡◌, take}
use Rattle.c65_ctype.specs.Views.{qtys_of}
use Rattle.c65_ctype.proofs.composite.copy_params.Given as goal

abbrev pub invariant-loop-ty : goal.invariant-loop-ty
invariant-loop-ty l = qtys_of l.copies.items ≡ qtys_of (take l.ty-index l.ty-items)
