-- Calls as expressions.
use Rattle.std.proofs.Common.{ℕ, ◌≤◌, arith}
use Rattle.c65_ctype.specs.Trees.{QTy, type_in}
use Rattle.c65_csem.specs.Trees.{Typed, Nodes, Stmt}
use Rattle.c65_meaning.specs.Store.{Shape}
use Rattle.c65_meaning.specs.Shapes.{shape_of}
use Rattle.c65_genframe.specs.Frames.{Framed}
use Rattle.c65_agree_state.specs.World.{World, unit_in, Active}
use Rattle.c65_agree_invoke.specs.Nodes.{BodiesDo, TargetsMayBeCalled}
use Rattle.c65_agree_invoke.specs.Expressions.{NamedCallsAreExpressions, PointerCallsAreExpressions}
use Rattle.c65_agree_invoke.proofs.Named.{named_calls_do}
use Rattle.c65_agree_invoke.proofs.Reaching.{pointer_calls_do}

-- for fewer steps
fewer_do : (g : World) (i : ℕ) (h : Framed) (needs spare : ℕ) (body : Stmt) (result : Shape) (n m : ℕ) → n ≤ m → BodiesDo g i h needs spare body result m → BodiesDo g i h needs spare body result n
fewer_do g i h needs spare body result n m le bodies a below vs j v calling high lt enough = bodies a below vs j v calling high (omega (arith, lt, le)) enough

fewer_may_be_called : (g : World) (a : Active) (t : QTy) (f : Typed) (es : Nodes) (n m : ℕ) → n ≤ m → TargetsMayBeCalled g a t f es m → TargetsMayBeCalled g a t f es n
fewer_may_be_called g a t f es n m le targets i function is fits =
    let target = targets i function is fits in
    record {
      body = target.body;
      frame = target.frame;
      needs = target.needs;
      spare = target.spare;
      end = target.end;
      callee = target.callee;
      bodies = λ its below vs j v calling high lt enough. target.bodies its below vs j v calling high (omega (arith, lt, le)) enough;
      comes = target.comes;
      few = target.few;
      is_code = target.is_code;
    }

pub named_calls_are_expressions : NamedCallsAreExpressions
named_calls_are_expressions g a i h needs spare e function body t s r es placed low owned spared parts no_library uncounted callee arguments bodies come pushed fresh n w p k vs c q b u seen has ready turns rest spoken =
    named_calls_do g a i h needs spare e n function body t s r es pushed fresh placed low owned spared parts no_library uncounted callee arguments (fewer_do g i h needs spare body (shape_of (unit_in g).types (type_in t)) n g.most spoken.0 bodies) come w p k vs c q b u seen has ready turns rest spoken

pub pointer_calls_are_expressions : PointerCallsAreExpressions
pointer_calls_are_expressions g a size t f es placed low owned spared unnamed uncounted valued shape few does arguments targets pushed fresh n w p k vs c q b u seen has ready turns rest spoken =
    pointer_calls_do g a n size t f es pushed fresh placed low owned spared unnamed uncounted valued shape few does arguments (fewer_may_be_called g a t f es n g.most spoken.0 targets) w p k vs c q b u seen has ready turns rest spoken
