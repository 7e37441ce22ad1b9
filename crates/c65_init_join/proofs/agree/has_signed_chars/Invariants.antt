use Rattle.std.proofs.Common.{◌≡◌, map, drop}
use Rattle.c65_ctype.specs.Views.{types_of}
use Rattle.c65_init_join.specs.Checks.{any_is, is_signed_at}
use Rattle.c65_init_join.specs.Items.{items_of}
use Rattle.c65_init_join.specs.Tables.{table_of}
use Rattle.c65_init_join.proofs.agree.has_signed_chars.Given as goal

abbrev pub invariant-loop-name : goal.invariant-loop-name
invariant-loop-name l = any_is (is_signed_at l.names (map items_of l.units) (types_of l.types) (table_of l.table)) (drop l.name-index l.name-items) ≡ any_is (is_signed_at l.names (map items_of l.units) (types_of l.types) (table_of l.table)) l.name-items
