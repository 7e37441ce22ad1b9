use Rattle.c65_c02.proofs.Good.{processor_good}
use Rattle.c65_optarith.proofs.Good.{arith_good}
use Rattle.c65_optflow.proofs.Good.{flow_good}
use Rattle.c65_optlib.proofs.Good.{call_good, known_good}
use Rattle.c65_optload.proofs.Good.{load_good}
use Rattle.c65_optstack.proofs.Good.{stack_good}
use Rattle.c65_opt_law_chains.specs.Laws.{RuleIsFollowedUntilEnd}
use Rattle.c65_opt_law_whole.proofs.Ranges.{by_family, good_all}
use Rattle.c65_opt_law_whole.proofs.Serves.{until, optimised_followed}
use Rattle.c65_opt_law_whole.proofs.laws.optimised_is_followed.Goals as goal

pub returns : goal.returns
returns c =
    let holds = c.following_until_end_composes.ensures.holds in
    let jumps = c.jumps_are_followed.ensures in
    let unreached = c.unreached_lines_go.ensures in
    let chains = c.chains_are_followed.ensures in
    let loads = c.loads_are_followed.ensures in
    let sums = c.arithmetic_is_followed.ensures in
    let calls = c.calls_are_followed.ensures in
    let added = c.processor_lines_are_followed.ensures in
    optimised_followed c.live_tables_exist.ensures c.following_until_end_composes.ensures.composes
    (by_family RuleIsFollowedUntilEnd
    (until holds 33 calls.taken_back, (until holds 34 calls.moved_at_once, (until holds 35 calls.moved_by_byte, (until holds 36 calls.zero_pushed, (until holds 37 calls.word_at_sp, (until holds 38 c.operators_are_followed.ensures, tt))))))
    (until holds 1 jumps.idle_jump, (until holds 2 jumps.idle_branch, (until holds 3 unreached.closed, (chains.jump, (chains.branch, (until holds 6 jumps.inverted, (until holds 7 c.unused_labels_go.ensures, (until holds 8 jumps.passed_branch, (until holds 9 unreached.taken, tt))))))))) (
      until holds 10 loads.idle_load,
      (
        until holds 11 loads.dead_load,
        (
          until holds 12 loads.dead_store,
          (
            until holds 13 loads.reload,
            (
              until holds 14 loads.restore,
              (
                until holds 15 loads.overwritten,
                (
                  until holds 16 loads.dead_transfer,
                  (until holds 17 loads.idle_transfer, (until holds 18 loads.back, (until holds 19 loads.transferred, (until holds 20 loads.idle_byte_load, (until holds 21 loads.idle_store, (until holds 22 loads.stepped, (until holds 23 loads.moved_on, tt))))))),
                ),
              ),
            ),
          ),
        ),
      ),
    )
    (until holds 24 sums.idle_carry, (until holds 25 sums.dead_carry, (until holds 26 sums.idle_compare, (until holds 27 sums.dead_compare, (until holds 28 sums.idle_mask, (until holds 29 sums.stepped_back, (until holds 30 sums.idle_sum, (until holds 31 sums.joined, (until holds 32 sums.dead_arithmetic, tt)))))))))
    (until holds 41 added.zero_stored, (until holds 42 added.stepped_up, (until holds 43 added.stepped_down, (until holds 44 added.loaded_through, (until holds 45 added.stored_through, tt))))))
    (good_all stack_good flow_good load_good arith_good processor_good) call_good known_good
