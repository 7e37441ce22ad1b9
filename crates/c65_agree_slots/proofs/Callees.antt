-- A function with such a frame may be called.
use Rattle.std.proofs.Common.{◌+◌, ◌≤◌, Bool, sym, subst}
use Rattle.std.specs.Prelude.{◌*◌}
use Rattle.c65_meaning.specs.Shapes.{types_of}
use Rattle.c65_genframe.specs.Frames.{saved_bytes}
use Rattle.c65_genexpr.specs.Arguments.{passed_of}
use Rattle.c65_agree_state.specs.World.{unit_in}
use Rattle.c65_agree_homes.proofs.Distinct.{are_distinct}
use Rattle.c65_agree_call.specs.Calls.{cost_of}
use Rattle.c65_agree_argument.specs.Passed.{entering}
use Rattle.c65_agree_invoke.specs.Nodes.{IsArrival}
use Rattle.c65_agree_slots.specs.Slots.{TakesArguments}
use Rattle.c65_agree_slots.specs.Callees.{FunctionsMayBeCalled}
use Rattle.c65_agree_slots.proofs.Frames.{frames_have_moves}
use Rattle.c65_agree_slots.proofs.Slots.{frames_have_slots}

pub functions_may_be_called : FunctionsMayBeCalled
functions_may_be_called g f i h needs spare e function body fast es is sizes registers =
    let t : TakesArguments g.parts function f h es = frames_have_slots g.parts g.modes function f h es is.framed is.distinct sizes in
    record {
      own = is.own;
      lines = is.lines;
      ends = is.ends;
      is_function = is.is_function;
      has_body = is.has_body;
      all_named = is.all_named;
      fixed = is.fixed;
      moves = frames_have_moves g.parts g.modes function h is.framed is.distinct;
      homes = is.homes;
      distinct = are_distinct function.params is.distinct;
      slots = t.slots;
      arrives = subst (λ (b : Bool). IsArrival f b es h.last) (sym registers) t.arrives;
      stacked = t.stacked;
      few = t.few;
      small = is.small;
      short = is.short;
      asks = is.asks;
      costs = subst (λ (b : Bool). h.soft + (saved_bytes h.bank + entering h.last (passed_of f b es).last) + 8 * needs + spare ≤ cost_of (unit_in g) (types_of es) body) (sym registers) is.costs;
    }
