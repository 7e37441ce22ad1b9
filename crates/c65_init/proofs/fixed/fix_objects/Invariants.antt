use Rattle.std.proofs.Common.{◌≡◌, drop, map}
use Rattle.c65_csem.specs.Views.{object_of}
use Rattle.c65_init.specs.Fixed.{fixed_from}
use Rattle.c65_init.proofs.fixed.fix_objects.Given as goal

-- what is left gives what the whole gives
abbrev pub invariant-loop-number : goal.invariant-loop-number
invariant-loop-number l = fixed_from l.honoured (drop l.number l.marks) l.number (map object_of l.objects.items) ≡ fixed_from l.honoured l.marks 0 (map object_of l.initial.objects.items)
