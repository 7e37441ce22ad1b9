use Rattle.std.proofs.Common.{◌≡◌, take}
use Rattle.std.specs.Prelude.{min}
use Rattle.c65_ctype.specs.Depth.{qtys_depth}
use Rattle.c65_ctype.specs.Views.{qtys_of}
use Rattle.c65_ctype.proofs.depth.+depth.Given as goal

abbrev pub invariant-depth_in-loop-ty : goal.invariant-depth_in-loop-ty
invariant-depth_in-loop-ty l = l.depth ≡ min (qtys_depth (qtys_of (take l.ty-index l.ty-items))) 4294967295
