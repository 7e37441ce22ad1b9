use Rattle.std.proofs.Common.{◌≡◌, drop, map}
use Rattle.c65_ctype.specs.Views.{types_of}
use Rattle.c65_csem.specs.Views.{object_of}
use Rattle.c65_gendata.specs.Data.{with_objects}
use Rattle.c65_gendata.proofs.data.add_objects.Given as goal

abbrev pub invariant-loop-number : goal.invariant-loop-number
invariant-loop-number l = with_objects (types_of l.parts.types) l.numbers l.number (map object_of (drop l.number l.parts.objects.items)) l.into.items ≡ with_objects (types_of l.parts.types) l.numbers 0 (map object_of l.parts.objects.items) l.initial.into.items
