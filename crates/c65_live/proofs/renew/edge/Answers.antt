use Rattle.std.proofs.Common.{◌≡◌, ◌-◌, List, true, take, drop, get_or, ap, sym, ◌∙◌, subst, arith}
use Rattle.c65_code.specs.declared.line.Line.{Line}
use Rattle.c65_code.specs.declared.line.Line.TheVariants.{Label}
use Rattle.c65_code.specs.Parts.{no_parts}
use Rattle.c65_live.specs.Renewals.{are_plain, before_line, before_all, widened}
use Rattle.c65_live.proofs.Edges.{widened_more, plain_with}
use Rattle.c65_live.proofs.renew.edge.Goals as goal

pub loop-first-preserved : goal.loop-first-preserved
loop-first-preserved c =
    let i = c.loop-first.invariant in
    let lines : List Line = c.args.lines.now in
    let window : List Line = take c.args.count (drop c.args.at lines) in
    let line : Line = get_or lines (c.loop-first.first - 1) (Label 0) in
    let old = widened_more lines window c.loop-first.first c.args.at (Label 0) c.loop-first-test.true i.before (omega (arith, c.requires)) in
    let new = widened_more lines c.args.new.now c.loop-first.first c.args.at (Label 0) c.loop-first-test.true i.before (omega (arith, c.requires)) in
    let plain = sym c.is_plain.ensures ∙ c.if-not-is_plain.false in
    record {
      before = omega (arith, i.before);
      old_plain = subst (λ ls. are_plain ls ≡ true) (sym old) (plain_with line (widened lines c.loop-first.first c.args.at window) plain i.old_plain);
      new_plain = subst (λ ls. are_plain ls ≡ true) (sym new) (plain_with line (widened lines c.loop-first.first c.args.at c.args.new.now) plain i.new_plain);
      old = c.before-sides.ensures.old ∙ (ap (before_line c.args.out line) i.old ∙ sym (ap (λ ls. before_all c.args.out ls c.args.after) old));
      new = c.before-sides.ensures.new ∙ (ap (before_line c.args.out line) i.new ∙ sym (ap (λ ls. before_all c.args.out ls c.args.after) new));
      old_reads = c.before-sides.ensures.old_reads ∙ (ap (before_line c.args.out line) i.old_reads ∙ sym (ap (λ ls. before_all c.args.out ls no_parts) old));
      new_reads = c.before-sides.ensures.new_reads ∙ (ap (before_line c.args.out line) i.new_reads ∙ sym (ap (λ ls. before_all c.args.out ls no_parts) new));
    }
