use Rattle.std.proofs.Common.{◌∙◌, length, ap}
use Rattle.c65_biggen.specs.Generated.{generated_source}
use Rattle.c65_commands.specs.Generated.{gen_line}
use Rattle.c65_commands.proofs.generated.told_run.Goals as goal

pub returns-in-Ok-line_of : goal.returns-in-Ok-line_of
returns-in-Ok-line_of c = record {
  rows = c.in-Ok-run_image.ended.rows;
  status = c.in-Ok-run_image.ended.status;
  run = c.in-Ok-run_image.ensures;
  text = c.in-Ok-line_of.ensures.ok ∙ ap (λ source. gen_line c.args.number source c.in-Ok.size c.in-Ok-run_image.ended.rows c.in-Ok-run_image.ended.status) c.requires
      ∙ ap (λ size. gen_line c.args.number (length (generated_source c.args.number)) size c.in-Ok-run_image.ended.rows c.in-Ok-run_image.ended.status) c.in-Ok.ensures.ok;
}
