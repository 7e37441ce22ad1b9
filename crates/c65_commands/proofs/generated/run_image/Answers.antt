use Rattle.std.proofs.Common.{◌∙◌, Some, ap, refl, sym, subst}
use Rattle.c65_io.specs.Memory.{MemSourceView, MemSinkView}
use Rattle.c65_commands.specs.Generated.{StopsAlone}
use Rattle.c65_commands.proofs.GenLaws.{run_stops, run_ends}
use Rattle.c65_commands.proofs.generated.run_image.Goals as goal

pub returns-in-Ok-answer : goal.returns-in-Ok-answer
returns-in-Ok-answer c =
    run_ends c.args.image.now c.in-Ok.run' c.run-answer.new.self _ c.count-rows.result c.in-Ok-answer.status _ _ _ _ c.in-Ok.ensures.1 refl
    (ap (λ (source : MemSourceView). Some source.left) c.mem_source-input.ensures ∙ ap Some c.new-2.ensures.items) (ap (λ (sink : MemSinkView). Some sink.written) c.mem_sink-out.ensures) c.in-Ok-answer.ensures.run c.count-rows.ensures

pub returns : goal.returns
returns c =
    subst (StopsAlone c.args.image.now) (sym c.in_memory.ensures)
    (run_stops c.args.image.now c.in-Ok.run' c.run-answer.new.self _ c.count-rows.result _ _ _ _ c.in-Err-answer.refusal c.in-Ok.ensures.1 refl
    (ap (λ (source : MemSourceView). Some source.left) c.mem_source-input.ensures ∙ ap Some c.new-2.ensures.items) (ap (λ (sink : MemSinkView). Some sink.written) c.mem_sink-out.ensures) c.in-Err-answer.ensures.run c.count-rows.ensures)
