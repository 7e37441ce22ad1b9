use Rattle.std.proofs.Common.{◌+◌, ◌*◌, ◌<◌, min, length, drop, get_or, ap, sym, ◌∙◌, arith}
use Rattle.std.proofs.lemmas.List.{at_drop_more}
use Rattle.c65_scan.specs.Numbers.{integer_from, capped}
use Rattle.c65_scan.proofs.Constants.{digit_step}
use Rattle.c65_scan.proofs.number.read_integer.Goals as goal

pub loop-at-preserved : goal.loop-at-preserved
loop-at-preserved c =
    let h : c.loop-at.at < length c.args.text.now = omega arith in
    let n = c.min-value.ensures ∙ ap (λ r. min (c.loop-at.value * r + c.in-Some.next) 4294967296) c.radix.ensures.value in
    record {
      bounded = omega arith;
      same = digit_step c.args.base c.loop-at.value c.in-Some.next c.min-value.result (get_or c.args.text.now c.loop-at.at 0) (drop (c.loop-at.at + 1) c.args.text.now) (sym c.in-Some.ensures.value) n
          ∙ sym (at_drop_more (λ xs. capped (integer_from c.args.base c.loop-at.value xs)) c.args.text.now c.loop-at.at 0 h)
          ∙ c.loop-at.invariant.same;
    }
