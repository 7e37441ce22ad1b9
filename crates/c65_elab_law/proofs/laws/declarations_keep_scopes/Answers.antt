use Rattle.c65_elab_law.proofs.DeclaringLaws.{declared_keeps, func_declared_keeps, enumerator_declared_keeps}
use Rattle.c65_elab_law.proofs.HeadingLaws.{literal_added_keeps, completed_keeps}
use Rattle.c65_elab_law.proofs.ScopeLaws.{closed_keeps, fewer_keeps}
use Rattle.c65_elab_law.proofs.StepLaws.{opened_keeps, spill_keeps, function_begins}
use Rattle.c65_elab_law.proofs.TagLaws.{tag_opened_keeps, tag_bound_keeps, tag_finished_keeps}
use Rattle.c65_elab_law.proofs.laws.declarations_keep_scopes.Goals as goal

pub returns : goal.returns
returns c = record {
  opens = opened_keeps;
  closes = closed_keeps;
  names = declared_keeps;
  functions = func_declared_keeps;
  enumerators = enumerator_declared_keeps;
  counts = completed_keeps;
  forgets = fewer_keeps;
  spills = spill_keeps;
  functions_begin = function_begins;
  literals = literal_added_keeps;
  tags = tag_opened_keeps;
  tag_names = tag_bound_keeps;
  members = tag_finished_keeps;
}
