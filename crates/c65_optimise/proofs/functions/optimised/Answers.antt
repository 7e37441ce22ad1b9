use Rattle.std.proofs.Common.{◌≡◌, subst}
use Rattle.std.specs.Prelude.{All}
use Rattle.c65_optimise.specs.Optimised.{HasByte}
use Rattle.c65_know.specs.Known.{Annotated, known_of}
use Rattle.c65_optimise.proofs.FunctionLaws.{rewritten_of}
use Rattle.c65_optimise.proofs.functions.optimised.Goals as goal

pub returns-clause-rewritten : goal.returns-clause-rewritten
returns-clause-rewritten c =
    let walked = c.in_ok-inline_calls.ensures in
    let made = c.in_ok-rewrite.ensures in
    rewritten_of c.args.options.now c.args.literals.now.items c.args.seg c.into_seg.result c.in_ok-noted.noted c.inline_calls.new.code c.rewrite.new.code walked.once.0 made.chain.0 c.lines.ensures.kept (subst (All HasByte) c.lines.ensures.lines c.have_bytes.ensures) c.in_ok-noted.ensures.notes
    (subst (λ (a : Annotated). a.notes ≡ known_of a.lines) c.noted-2.view_is c.noted-2.invariant.1) c.into_seg.ensures.lines c.into_seg.ensures.out walked.out made.out walked.once.1 made.chain.1 made.none walked.extent made.extent walked.writable made.writable
