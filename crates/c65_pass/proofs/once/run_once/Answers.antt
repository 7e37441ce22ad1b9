use Rattle.std.proofs.Common.{rules}
use Rattle.c65_pass.specs.Passes.{none}
use Rattle.c65_pass.proofs.Walks.{walked_copy}
use Rattle.c65_pass.proofs.once.run_once.Goals as goal

pub returns-in_err-copy-clause-chain : goal.returns-in_err-copy-clause-chain
returns-in_err-copy-clause-chain g c = (0, none, search rules)

pub returns-in_err-made-clause-chain : goal.returns-in_err-made-clause-chain
returns-in_err-made-clause-chain g c = (0, none, search rules)

pub returns-in_err-noted-clause-chain : goal.returns-in_err-noted-clause-chain
returns-in_err-noted-clause-chain g c = (0, none, search rules)

pub returns-clause-once : goal.returns-clause-once
returns-clause-once g c =
    let w = walked_copy _ _ c.args.code.now _ _ _ _ _ c.seg.ensures.lines c.seg.ensures.out c.in_ok-copy.ensures.ok (search rules) c.in_ok-noted.ensures.notes c.in_ok-made.ensures.walked in
    (w.0.times, w.0.once, w.0.made)

pub returns-clause-chain : goal.returns-clause-chain
returns-clause-chain g c =
    let w = walked_copy _ _ c.args.code.now _ _ _ _ _ c.seg.ensures.lines c.seg.ensures.out c.in_ok-copy.ensures.ok (search rules) c.in_ok-noted.ensures.notes c.in_ok-made.ensures.walked in
    (w.0.times, w.0.chain, w.0.made)

pub returns-clause-segments : goal.returns-clause-segments
returns-clause-segments g c = (walked_copy _ _ c.args.code.now _ _ _ _ _ c.seg.ensures.lines c.seg.ensures.out c.in_ok-copy.ensures.ok (search rules) c.in_ok-noted.ensures.notes c.in_ok-made.ensures.walked).0.segments

pub returns-clause-extent : goal.returns-clause-extent
returns-clause-extent g c = (walked_copy _ _ c.args.code.now _ _ _ _ _ c.seg.ensures.lines c.seg.ensures.out c.in_ok-copy.ensures.ok (search rules) c.in_ok-noted.ensures.notes c.in_ok-made.ensures.walked).0.extent

pub returns-clause-writable : goal.returns-clause-writable
returns-clause-writable g c = (walked_copy _ _ c.args.code.now _ _ _ _ _ c.seg.ensures.lines c.seg.ensures.out c.in_ok-copy.ensures.ok (search rules) c.in_ok-noted.ensures.notes c.in_ok-made.ensures.walked).0.writable

pub returns-clause-out : goal.returns-clause-out
returns-clause-out g c = (walked_copy _ _ c.args.code.now _ _ _ _ _ c.seg.ensures.lines c.seg.ensures.out c.in_ok-copy.ensures.ok (search rules) c.in_ok-noted.ensures.notes c.in_ok-made.ensures.walked).1
