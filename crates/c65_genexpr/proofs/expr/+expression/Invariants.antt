use Rattle.std.proofs.Common.{◌+◌, ◌*◌}
use Rattle.c65_csem.specs.Views.{typed_of, nodes_of}
use Rattle.c65_genexpr.specs.Uses.{count, args_count}
use Rattle.c65_genexpr.proofs.expr.+expression.Given as goal

abbrev pub decreases-put_expr : goal.decreases-put_expr
decreases-put_expr l = 8 * count (typed_of l.e.now)

abbrev pub decreases-put_plain_test : goal.decreases-put_plain_test
decreases-put_plain_test l = 8 * count (typed_of l.e.now) + 1

abbrev pub decreases-put_test : goal.decreases-put_test
decreases-put_test l = 8 * count (typed_of l.e.now) + 2

abbrev pub decreases-put_wanted : goal.decreases-put_wanted
decreases-put_wanted l = 8 * count (typed_of l.e.now) + 3

abbrev pub decreases-put_base : goal.decreases-put_base
decreases-put_base l = 8 * count (typed_of l.a.now) + 2

abbrev pub decreases-put_part_base : goal.decreases-put_part_base
decreases-put_part_base l = 8 * count (typed_of l.e.now) + 3

abbrev pub decreases-put_pointer_base : goal.decreases-put_pointer_base
decreases-put_pointer_base l = 8 * count (typed_of l.e.now) + 3

abbrev pub decreases-put_base_by : goal.decreases-put_base_by
decreases-put_base_by l = 8 * count (typed_of l.a.now) + 1

abbrev pub decreases-put_pointer_by : goal.decreases-put_pointer_by
decreases-put_pointer_by l = 8 * count (typed_of l.e.now) + 2

abbrev pub decreases-put_low : goal.decreases-put_low
decreases-put_low l = 8 * count (typed_of l.e.now) + 3

abbrev pub decreases-put_low_read : goal.decreases-put_low_read
decreases-put_low_read l = 8 * count (typed_of l.e.now) + 2

abbrev pub decreases-put_low_by : goal.decreases-put_low_by
decreases-put_low_by l = 8 * count (typed_of l.e.now) + 1

abbrev pub decreases-put_low_load : goal.decreases-put_low_load
decreases-put_low_load l = 8 * count (typed_of l.a.now) + 5

abbrev pub decreases-put_index : goal.decreases-put_index
decreases-put_index l = 8 * count (typed_of l.e.now) + 3

abbrev pub decreases-put_sum_index : goal.decreases-put_sum_index
decreases-put_sum_index l = 8 * count (typed_of l.e.now) + 3

abbrev pub decreases-put_load_value : goal.decreases-put_load_value
decreases-put_load_value l = 8 * count (typed_of l.a.now) + 4

abbrev pub decreases-put_kept_test : goal.decreases-put_kept_test
decreases-put_kept_test l = 8 * count (typed_of l.a.now) + 4

abbrev pub decreases-put_load_test : goal.decreases-put_load_test
decreases-put_load_test l = 8 * count (typed_of l.a.now) + 5

abbrev pub decreases-put_unary_value : goal.decreases-put_unary_value
decreases-put_unary_value l = 8 * count (typed_of l.a.now) + 4

abbrev pub decreases-put_side : goal.decreases-put_side
decreases-put_side l = 8 * (count (typed_of l.a.now) + count (typed_of l.b.now)) + 4

abbrev pub decreases-put_low_side : goal.decreases-put_low_side
decreases-put_low_side l = 8 * (count (typed_of l.a.now) + count (typed_of l.b.now)) + 4

abbrev pub decreases-put_comparison : goal.decreases-put_comparison
decreases-put_comparison l = 8 * (count (typed_of l.a.now) + count (typed_of l.b.now)) + 5

abbrev pub decreases-put_operator : goal.decreases-put_operator
decreases-put_operator l = 8 * (count (typed_of l.a.now) + count (typed_of l.b.now)) + 5

abbrev pub decreases-put_joint : goal.decreases-put_joint
decreases-put_joint l = 8 * (count (typed_of l.a.now) + count (typed_of l.b.now)) + 5

abbrev pub decreases-put_choice : goal.decreases-put_choice
decreases-put_choice l = 8 * (count (typed_of l.c.now) + (count (typed_of l.a.now) + count (typed_of l.b.now))) + 5

abbrev pub decreases-put_assign : goal.decreases-put_assign
decreases-put_assign l = 8 * (count (typed_of l.a.now) + count (typed_of l.b.now)) + 5

abbrev pub decreases-put_step_value : goal.decreases-put_step_value
decreases-put_step_value l = 8 * count (typed_of l.a.now) + 5

abbrev pub decreases-put_compound : goal.decreases-put_compound
decreases-put_compound l = 8 * (count (typed_of l.a.now) + count (typed_of l.b.now)) + 5

abbrev pub decreases-put_call : goal.decreases-put_call
decreases-put_call l = 8 * (count (typed_of l.callee.now) + args_count (nodes_of l.args.now)) + 5

abbrev pub decreases-put_args : goal.decreases-put_args
decreases-put_args l = 8 * args_count (nodes_of l.args.now)
