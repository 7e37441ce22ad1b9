use Rattle.c65_genentry.specs.Choice.{word_test}
use Rattle.c65_genentry.proofs.Lines.{lines_twice}
use Rattle.c65_genentry.proofs.choice.put_long_test.Goals as goal

pub returns-clause-lines : goal.returns-clause-lines
returns-clause-lines c =
    let first = rw (c.byte_of.ensures, c.byte_of-2.ensures) at c.in_ok-put.ensures.lines in
    lines_twice c.args.draft.now c.put.new.draft c.put_word_test.new.draft _ (word_test c.args.bits c.args.other c.args.case) first c.in_ok-put_word_test.ensures.lines
