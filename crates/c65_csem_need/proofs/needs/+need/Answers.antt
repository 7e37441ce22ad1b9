use Rattle.std.proofs.Common.{arith}
use Rattle.c65_csem_need.proofs.Trees.{call_need, nodes_next, nodes_past}
use Rattle.c65_csem_need.proofs.needs.+need.Goals as goal

pub need-returns-in-Call : goal.need-returns-in-Call
need-returns-in-Call t c =
    omega (arith, call_need c.args.e.now.kind c.in-Call.function c.in-Call.arguments c.deref-callee.result.now c.deref-given.result.now c.in-Call.is c.deref-callee.ensures c.deref-given.ensures.value, c.max-in-Call.ensures, c.need-a.ensures, c.need_of_all-b.ensures)

pub need_of_all-loop-e-init : goal.need_of_all-loop-e-init
need_of_all-loop-e-init t c = record { waits = omega arith; reaches = omega arith; so_far = omega arith }

pub need_of_all-loop-e-preserved : goal.need_of_all-loop-e-preserved
need_of_all-loop-e-preserved t c =
    let waits = c.loop-e.invariant.waits in
    let later = nodes_next c.args.es.now c.loop-e.e-index c.e-item.result c.loop-e-test.true c.e-item.is in
    record {
      waits = omega (arith, waits, c.saturating_add-waiting.ensures);
      reaches = omega (arith, c.saturating_add-waiting.ensures, c.saturating_add.ensures, c.max-most.ensures);
      so_far = omega (arith, later, waits, c.loop-e.invariant.so_far, c.saturating_add-waiting.ensures, c.need.ensures, c.saturating_add.ensures, c.max-most.ensures);
    }

pub need_of_all-returns : goal.need_of_all-returns
need_of_all-returns t c =
    omega (arith, nodes_past c.args.es.now c.loop-e.e-index c.loop-e-test.false, c.loop-e.invariant.waits, c.loop-e.invariant.reaches, c.loop-e.invariant.so_far)
