use Rattle.std.proofs.Common.{◌≡◌, map, drop}
use Rattle.c65_ctype.specs.Views.{field_of}
use Rattle.c65_ctype.specs.Layouts.{any_named}
use Rattle.c65_ctype.proofs.layout.any_named.Given as goal

abbrev pub invariant-loop-field : goal.invariant-loop-field
invariant-loop-field l = any_named (map field_of (drop l.field-index l.fields)) ≡ any_named (map field_of l.fields)
