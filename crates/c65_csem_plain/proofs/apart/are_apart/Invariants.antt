use Rattle.std.proofs.Common.{◌≡◌, ◌++◌, drop, map}
use Rattle.c65_csem.specs.Views.{func_of, unit_of}
use Rattle.c65_csem_plain.specs.Plain.{all_own_objects}
use Rattle.c65_csem_plain.proofs.apart.are_apart.Given as goal

abbrev pub invariant-loop-func : goal.invariant-loop-func
invariant-loop-func l = (l.objects.items ++ all_own_objects (map func_of (drop l.func-index l.func-items))) ≡ all_own_objects (unit_of l.parts).funcs
