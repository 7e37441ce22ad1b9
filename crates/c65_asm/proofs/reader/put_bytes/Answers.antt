use Rattle.std.proofs.Common.{sym, subst, arith}
use Rattle.std.proofs.lemmas.List.{take_rest}
use Rattle.c65_asm.proofs.ByteLaws.{Put, put_none, put_more}
use Rattle.c65_asm.proofs.reader.put_bytes.Goals as goal

pub loop-rest-init : goal.loop-rest-init
loop-rest-init c = put_none c.args.cells.now.items c.args.text.now

pub loop-rest-preserved : goal.loop-rest-preserved
loop-rest-preserved c =
    let rest = c.loop-rest.rest.now in
    subst (Put c.args.cells.now.items c.push.new.self.items c.args.text.now) (sym (take_rest rest 4))
    (put_more c.args.cells.now.items c.loop-rest.cells.items c.push.new.self.items c.args.text.now rest c.in-Some.value c.loop-rest.invariant (omega arith) (omega arith) (sym c.in-Some.ensures) c.in_ok-push.ensures.items)
