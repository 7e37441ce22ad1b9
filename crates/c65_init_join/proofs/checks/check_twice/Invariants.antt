use Rattle.std.proofs.Common.{◌≡◌, drop}
use Rattle.c65_base.specs.declared.refusal.LinkKind.TheVariants.{Twice}
use Rattle.c65_init_join.specs.Answers.{none_is}
use Rattle.c65_init_join.specs.Checks.{is_twice_at}
use Rattle.c65_init_join.specs.Tables.{table_of}
use Rattle.c65_init_join.proofs.checks.check_twice.Given as goal

abbrev pub invariant-loop-name : goal.invariant-loop-name
invariant-loop-name l = none_is l.names Twice (is_twice_at l.names (table_of l.table)) (drop l.name-index l.name-items) ≡ none_is l.names Twice (is_twice_at l.names (table_of l.table)) l.name-items
