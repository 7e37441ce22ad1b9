use Rattle.c65_genentry.specs.Words.{ptr1}
use Rattle.c65_genentry.specs.Pointers.{near_code, further_bytes}
use Rattle.c65_genentry.proofs.Lines.{lines_twice}
use Rattle.c65_genentry.proofs.pointers.store_far.Goals as goal

pub returns-clause-lines : goal.returns-clause-lines
returns-clause-lines c =
    let d = c.args.draft.now in
    let e = c.put.new.draft in
    let f = c.point_near.new.draft in
    let g = c.put-2.new.draft in
    let h = c.store_further.new.draft in
    lines_twice d e h _ _ c.in_ok-put.ensures.lines (lines_twice e f h (near_code ptr1 c.args.at) _ c.in_ok-point_near.ensures.lines (lines_twice f g h _ (further_bytes c.args.bytes) c.in_ok-put-2.ensures.lines c.in_ok-store_further.ensures.lines))
