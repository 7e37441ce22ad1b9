use Rattle.c65_elab_law.proofs.ValueLaws.{had}
use Rattle.c65_elab_law.proofs.OperatorLaws.{binary_typed}
use Rattle.c65_elab_law.proofs.UnaryLaws.{unary_typed, cast_typed, both_typed, either_typed, comma_typed, condition_typed, switch_typed}
use Rattle.c65_elab_law.proofs.ChoiceLaws.{choice_typed}
use Rattle.c65_elab_law.proofs.ChangeLaws.{assigned_typed, assign_typed, assign_op_typed, step_typed}
use Rattle.c65_elab_law.proofs.AccessLaws.{index_typed, member_typed}
use Rattle.c65_elab_law.proofs.SizeLaws.{size_typed, size_expr_typed}
use Rattle.c65_elab_law.proofs.CallLaws.{call_typed, packed_typed}
use Rattle.c65_elab_law.proofs.laws.constructs_are_typed.Goals as goal

pub returns : goal.returns
returns c = record {
  values = λ u e w. (had u e w).0;
  unaries = unary_typed;
  casts = cast_typed;
  binaries = binary_typed;
  ands = both_typed;
  ors = either_typed;
  commas = comma_typed;
  conditions = condition_typed;
  switches = switch_typed;
  choices = choice_typed;
  assigned = assigned_typed;
  assignments = assign_typed;
  compound = assign_op_typed;
  steps = step_typed;
  elements = index_typed;
  members = member_typed;
  sizes = size_typed;
  sizes_of = size_expr_typed;
  calls = call_typed;
  packed = packed_typed;
}
