-- Calls of the functions of a plain program.
use Rattle.std.proofs.Common.{◌≡◌, ℕ, true, false, sym, ap, ◌∙◌, subst}
use Rattle.c65_ctype.specs.Trees.{Ty, pointer, function as function_type, Fn, fn, unknown, known, type_in}
use Rattle.c65_csem.specs.Places.{plain}
use Rattle.c65_csem.specs.Units.{HasBody, IsBody}
use Rattle.c65_meaning.specs.Shapes.{types_of}
use Rattle.c65_meaning.specs.Calls.{accepts}
use Rattle.c65_genframe.specs.Frames.{is_variadic, has_prototype}
use Rattle.c65_genexpr.specs.Arguments.{is_fast, is_counted}
use Rattle.c65_agree_state.specs.World.{unit_in}
use Rattle.c65_agree_call.specs.Calls.{BodyDoes}
use Rattle.c65_agree_homes.proofs.Own.{has_body}
use Rattle.c65_agree_bodies.specs.Bodies.{IsCallWith}
use Rattle.c65_agree_invoke.specs.Accepted.{IsDeclared}
use Rattle.c65_agree_invoke.proofs.Accepted.{accepted_calls_agree}
use Rattle.c65_agree_slots.specs.Functions.{any_call}
use Rattle.c65_agree_slots.specs.Calls.{CallsHaveCallees, BodiesServeCalls}
use Rattle.c65_agree_slots.proofs.Accepted.{accepted_arguments_are_taken}
use Rattle.c65_agree_slots.proofs.Callees.{functions_may_be_called}
use Rattle.c65_agree_slots.proofs.Functions.{same_variadic, in_call, call, all_named, frames_are_functions}
use Rattle.c65_agree_slots.proofs.Taken.{taken_arguments_have_sizes}

-- a function without further arguments is so declared
named_declared : (t : Fn) → is_variadic t ≡ false → IsDeclared t
named_declared (fn q unknown v c) e = e
named_declared (fn q (known ps) v c) e = tt

pub calls_have_callees : CallsHaveCallees
calls_have_callees g names i h function body f t c es is own given declared typed accepted =
    let type : type_in c ≡ pointer (plain (function_type given.callee)) = ap type_in given.named in
    let mine : accepts (unit_in g) (pointer (plain (function_type given.callee))) (types_of es) function ≡ true = ap (λ (x : Ty). accepts (unit_in g) x (types_of es) function) (sym type) ∙ accepted in
    let named = all_named g names i h function body is in
    let further : is_variadic function.ty ≡ false = sym (same_variadic function.ty) ∙ named in
    let agree = accepted_calls_agree (unit_in g) given.callee false false (types_of es) function declared (named_declared function.ty further) mine in
    let well : IsBody (unit_in g) function body = subst (HasBody (unit_in g) function) is.has_body (has_body g names (any_call g i h) function (call g names i h function body is) i function is.is_function) in
    let taken = accepted_arguments_are_taken (unit_in g) t c es function body given typed well named accepted in
    let its = frames_are_functions g names i h function body f es is own taken in
    let sizes = taken_arguments_have_sizes g.parts (has_prototype function.ty) f function.params es own taken in (
      ap is_counted type ∙ (agree.1 ∙ further),
      functions_may_be_called g f i h _ _ _ function body (is_fast (type_in c)) es its sizes (ap is_fast type ∙ agree.0),
    )

pub bodies_serve_calls : BodiesServeCalls
bodies_serve_calls g names i h function body z n is all a below vs j v calling high lt enough =
    subst (λ (k : ℕ). BodyDoes g a (z.needs k) body (z.result k) below vs j v) calling.func (all a function body below vs j v its_call lt enough)
  where
    its_call : IsCallWith g z a function body
    its_call =
        let its = in_call g names i h function body is (z.spare i) a calling in
        record { call = its.call; function = its.function; has_body = is.has_body; high = high; spare = calling.spare_bytes ∙ ap z.spare (sym calling.func) }
