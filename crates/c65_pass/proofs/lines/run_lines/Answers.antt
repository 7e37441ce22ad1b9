use Rattle.std.proofs.Common.{rules}
use Rattle.c65_pass.proofs.Chains.{refused_early, run_copied, run_idle, run_noted}
use Rattle.c65_pass.proofs.lines.run_lines.Goals as goal

pub returns-in_err-copy-clause-run : goal.returns-in_err-copy-clause-run
returns-in_err-copy-clause-run g c = refused_early _ _ _ _ c.seg.ensures.kept (search rules) (search rules)

pub returns-in_err-made-clause-run : goal.returns-in_err-made-clause-run
returns-in_err-made-clause-run g c = refused_early _ _ _ _ c.seg.ensures.kept (search rules) (search rules)

pub returns-in_err-noted-clause-run : goal.returns-in_err-noted-clause-run
returns-in_err-noted-clause-run g c = refused_early _ _ _ _ c.seg.ensures.kept (search rules) (search rules)

pub returns-then-made-eq0-clause-run : goal.returns-then-made-eq0-clause-run
returns-then-made-eq0-clause-run g c =
    let run = run_copied c.args.pass.now.rule c.args.pass.now.literals.now.items c.args.code.now _ _ _ _ c.seg.ensures.lines c.seg.ensures.out c.seg.ensures.noted c.in_ok-copy.ensures.ok c.in_ok-made.ensures in
    run_idle c.args.pass.now.rule c.args.pass.now.literals.now.items c.args.code.now _ _ run c.if-made-eq0.true

pub returns-clause-run : goal.returns-clause-run
returns-clause-run g c =
    let run = run_copied c.args.pass.now.rule c.args.pass.now.literals.now.items c.args.code.now _ _ _ _ c.seg.ensures.lines c.seg.ensures.out c.seg.ensures.noted c.in_ok-copy.ensures.ok c.in_ok-made.ensures in
    run_noted c.args.pass.now.rule c.args.pass.now.literals.now.items c.args.code.now _ _ _ c.in_ok-noted.ensures.notes run
