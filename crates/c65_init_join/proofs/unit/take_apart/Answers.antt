use Rattle.std.proofs.Common.{◌≡◌, ◌∙◌, ◌+◌, [], ◌∷◌, ◌++◌, length, map, sym, arith, length-append}
use Rattle.std.proofs.lemmas.Iterator.Adapters.{YieldsList-from_vec}
use Rattle.std.proofs.lemmas.Iterator.Consumers.{YieldsList-turn, YieldsList-end}
use Rattle.c65_ctype.specs.Views.{types_of}
use Rattle.c65_csem.specs.Views.{unit_of}
use Rattle.c65_init_join.specs.Items.{items_of, all_types, all_items}
use Rattle.c65_init_join.proofs.TurnLaws.{types_next, items_next, map_snoc, nothing_more, drop_end}
use Rattle.c65_init_join.proofs.unit.take_apart.Goals as goal

pub loop-unit-preserved : goal.loop-unit-preserved
loop-unit-preserved c =
    let h = c.into_iter-unit-iterator.ensures.into_iter_gives in
    let turn = YieldsList-turn (YieldsList-from_vec c.args.units.items h.0 (h.1 ∙ c.args.units.ok.0)) c.loop-unit.yielded c.loop-unit.unit-iterator c.loop-unit.yielded_by c.next.result c.next.new.self c.in-Some.unit c.in-Some.is c.next.ensures.steps in
    let i = length c.loop-unit.yielded in
    let longer : length (c.loop-unit.yielded ++ c.in-Some.unit ∷ []) ≡ i + 1 = omega (arith, length-append c.loop-unit.yielded (c.in-Some.unit ∷ [])) in
    let types = types_next (types_of c.loop-unit.types) c.args.units.items i c.in-Some.unit (all_types (types_of c.args.types.now) (map unit_of c.args.units.items)) turn.0 turn.1 c.loop-unit.invariant.types in
    let items = items_next (types_of c.loop-unit.types) c.args.units.items i c.in-Some.unit (map items_of c.loop-unit.taken_units.items) (all_items (types_of c.args.types.now) (map unit_of c.args.units.items)) turn.0 turn.1 c.loop-unit.invariant.items in
    record { can_next = tt; is_finite = tt; types = rw (longer, c.in_ok-unit.ensures.types) types; items = rw (c.in_ok-push.ensures.items, map_snoc items_of c.loop-unit.taken_units.items c.in_ok-unit.unit, c.in_ok-unit.ensures.items, longer, c.in_ok-unit.ensures.types) items }

pub returns : goal.returns
returns c =
    let h = c.into_iter-unit-iterator.ensures.into_iter_gives in
    let all = (YieldsList-end (YieldsList-from_vec c.args.units.items h.0 (h.1 ∙ c.args.units.ok.0)) c.loop-unit.yielded c.loop-unit.unit-iterator c.loop-unit.yielded_by c.next.result c.next.new.self c.in-None.is c.next.ensures.steps).1 in
    let none = drop_end c.args.units.items (length c.loop-unit.yielded) (omega (arith, all)) in
    record {
      items = sym (nothing_more (map items_of c.loop-unit.taken_units.items)) ∙ rw none at c.loop-unit.invariant.items;
      types = rw none at c.loop-unit.invariant.types;
    }
