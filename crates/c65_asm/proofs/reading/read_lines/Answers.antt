use Rattle.std.proofs.Common.{[], sym, ap, ◌∙◌, arith, option_map}
use Rattle.c65_asm.specs.Read.{seen, seen_first, lines_in}
use Rattle.c65_asm.proofs.LineLaws.{goes_on, stops, shorter}
use Rattle.c65_asm.proofs.reading.read_lines.Goals as goal

pub loop-rest-smaller : goal.loop-rest-smaller
loop-rest-smaller c = shorter (seen c.loop-rest.reader) (seen c.put_first_line.new.reader) c.loop-rest.rest.now c.in-Ok-Some.after.now (sym c.in-Ok-Some.ensures ∙ ap (option_map (seen_first c.put_first_line.new.reader)) c.in-Ok-Some.field-0-is)

pub loop-rest-preserved : goal.loop-rest-preserved
loop-rest-preserved c =
    ap (λ n. lines_in (seen c.put_first_line.new.reader) n [] c.in-Ok-Some.after.now) c.next_number-line.ensures
    ∙ sym (goes_on (seen c.loop-rest.reader) (seen c.put_first_line.new.reader) c.loop-rest.line c.loop-rest.rest.now c.in-Ok-Some.after.now (sym c.in-Ok-Some.ensures ∙ ap (option_map (seen_first c.put_first_line.new.reader)) c.in-Ok-Some.field-0-is))
    ∙ c.loop-rest.invariant

pub returns-in-Ok-None : goal.returns-in-Ok-None
returns-in-Ok-None c = sym (stops (seen c.loop-rest.reader) c.loop-rest.line c.loop-rest.rest.now (sym c.in-Ok-None.ensures ∙ ap (option_map (seen_first c.put_first_line.new.reader)) c.in-Ok-None.field-0-is) (omega arith)) ∙ c.loop-rest.invariant
