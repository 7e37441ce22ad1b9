-- Calls of functions that take further arguments.
use Rattle.std.proofs.Common.{◌≡◌, ℕ, true, false, sym, ap, ◌∙◌, subst}
use Rattle.c65_ctype.specs.Trees.{Ty, pointer, function as function_type, type_in}
use Rattle.c65_csem.specs.Places.{plain}
use Rattle.c65_csem.specs.Units.{HasBody, IsBody}
use Rattle.c65_meaning.specs.Store.{Shape}
use Rattle.c65_meaning.specs.Shapes.{shape_of, types_of}
use Rattle.c65_meaning.specs.Calls.{accepts}
use Rattle.c65_genexpr.specs.Arguments.{is_counted}
use Rattle.c65_agree_state.specs.World.{unit_in}
use Rattle.c65_agree_call.specs.Calls.{BodyDoes}
use Rattle.c65_agree_homes.proofs.Own.{has_body}
use Rattle.c65_agree_bodies.specs.Bodies.{IsCallWith}
use Rattle.c65_agree_invoke.proofs.Accepted.{accepted_calls_agree}
use Rattle.c65_agree_slots.specs.Functions.{any_call}
use Rattle.c65_agree_slots.specs.Results.{IsNoWider}
use Rattle.c65_agree_slots.proofs.Shapes.{results_have_shapes, bodies_give_wider_results}
use Rattle.c65_agree_variadic_function.specs.Calls.{FurtherCallsHaveCallees, BodiesServeFurtherCalls, AcceptedBodiesServeFurtherCalls}
use Rattle.c65_agree_variadic_function.proofs.Arguments.{accepted_further_arguments_are_taken}
use Rattle.c65_agree_variadic_function.proofs.Functions.{variadic, in_call, call, further_functions_may_be_called}

pub further_calls_have_callees : FurtherCallsHaveCallees
further_calls_have_callees g names i h function body f t c es is own given declared known typed accepted =
    let type : type_in c ≡ pointer (plain (function_type given.callee)) = ap type_in given.named in
    let mine : accepts (unit_in g) (pointer (plain (function_type given.callee))) (types_of es) function ≡ true = ap (λ (x : Ty). accepts (unit_in g) x (types_of es) function) (sym type) ∙ accepted in
    let agree = accepted_calls_agree (unit_in g) given.callee false false (types_of es) function declared known mine in
    let well : IsBody (unit_in g) function body = subst (HasBody (unit_in g) function) is.has_body (has_body g names (any_call g i h) function (call g names i h function body is) i function is.is_function) in
    let taken = accepted_further_arguments_are_taken (unit_in g) t c es function body given typed well known is.further_too accepted in
    (ap is_counted type ∙ (agree.1 ∙ variadic g names i h function body is), further_functions_may_be_called g names i h function body f es is own taken)

pub bodies_serve_further_calls : BodiesServeFurtherCalls
bodies_serve_further_calls g names i h function body z n is all a below vs j v calling high lt enough =
    subst (λ (k : ℕ). BodyDoes g a (z.needs k) body (z.result k) below vs j v) calling.func (all a function body below vs j v its_call lt enough)
  where
    its_call : IsCallWith g z a function body
    its_call =
        let its = in_call g names i h function body is (z.spare i) a calling in
        record { call = its.call; function = its.function; has_body = is.has_body; high = high; spare = calling.spare_bytes ∙ ap z.spare (sym calling.func) }

pub accepted_bodies_serve_further_calls : AcceptedBodiesServeFurtherCalls
accepted_bodies_serve_further_calls g names i h function body z n t c es is all result call_is given accepted a below vs j v calling high lt enough =
    let shapes = results_have_shapes g names (any_call g i h) function body t c es (call g names i h function body is) is.has_body call_is given accepted in
    let wider : IsNoWider (z.result i) (shape_of (unit_in g).types (type_in t)) = subst (λ (x : Shape). IsNoWider x (shape_of (unit_in g).types (type_in t))) (sym result) shapes in
    bodies_give_wider_results g a (z.needs i) body (z.result i) (shape_of (unit_in g).types (type_in t)) below vs j v wider (bodies_serve_further_calls g names i h function body z n is all a below vs j v calling high lt enough)
