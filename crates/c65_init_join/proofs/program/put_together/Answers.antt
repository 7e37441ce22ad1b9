use Rattle.std.proofs.Common.{◌≡◌, ◌∙◌, ◌+◌, [], ◌∷◌, ◌++◌, length, map, drop, sym, arith, length-append}
use Rattle.std.proofs.lemmas.Iterator.Adapters.{YieldsList-from_vec}
use Rattle.std.proofs.lemmas.Iterator.Consumers.{YieldsList-turn, YieldsList-end}
use Rattle.c65_csem.specs.Views.{unit_of}
use Rattle.c65_init_join.specs.Numbers.{assigned_of}
use Rattle.c65_init_join.specs.Tables.{table_of}
use Rattle.c65_init_join.proofs.PartsLaws.{parts_next, parts_end}
use Rattle.c65_init_join.proofs.program.put_together.Goals as goal

pub loop-unit-preserved : goal.loop-unit-preserved
loop-unit-preserved c =
    let h = c.into_iter-unit-iterator.ensures.into_iter_gives in
    let turn = YieldsList-turn (YieldsList-from_vec c.args.units.items h.0 (h.1 ∙ c.args.units.ok.0)) c.loop-unit.yielded c.loop-unit.unit-iterator c.loop-unit.yielded_by c.next.result c.next.new.self c.in-Some.unit c.in-Some.is c.next.ensures.steps in
    let i = length c.loop-unit.yielded in
    let longer : length (c.loop-unit.yielded ++ c.in-Some.unit ∷ []) ≡ i + 1 = omega (arith, length-append c.loop-unit.yielded (c.in-Some.unit ∷ [])) in
    let here = c.loop-unit.invariant.count in
    let found = sym c.in-Some-assigned_at.ensures in
    let next = parts_next c.args.names.now c.args.signed_chars (table_of c.args.table.now) (unit_of c.loop-unit.program) c.args.units.items (map assigned_of c.args.all.now) i c.in-Some.unit (assigned_of c.in-Some-assigned_at.assigned.now) turn.0 turn.1 (rw here at found) in
    record {
      can_next = tt;
      is_finite = tt;
      count = omega (arith, c.in-Some-checked_add.ensures.1, here, longer);
      so_far = rw (c.in_ok-add_unit.ensures, c.in_ok-numbers.ensures, c.in-Some-checked_add.ensures.1, here, longer) (next ∙ rw here at c.loop-unit.invariant.so_far);
    }

pub returns : goal.returns
returns c =
    let h = c.into_iter-unit-iterator.ensures.into_iter_gives in
    let all = (YieldsList-end (YieldsList-from_vec c.args.units.items h.0 (h.1 ∙ c.args.units.ok.0)) c.loop-unit.yielded c.loop-unit.unit-iterator c.loop-unit.yielded_by c.next.result c.next.new.self c.in-None.is c.next.ensures.steps).1 in
    sym (parts_end c.args.names.now c.args.signed_chars (table_of c.args.table.now) (unit_of c.loop-unit.program) c.args.units.items (drop c.loop-unit.i (map assigned_of c.args.all.now)) (length c.loop-unit.yielded) (omega (arith, all))) ∙ c.loop-unit.invariant.so_far
