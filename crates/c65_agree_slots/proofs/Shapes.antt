-- The values that functions give are such as their calls take.
use Rattle.std.proofs.Common.{◌≡◌, ℕ, refl, sym, ap, ◌∙◌, subst}
use Rattle.c65_ctype.specs.Trees.{Ty, void, int, pointer, array, tag, function as function_type, type_in, TypesTy}
use Rattle.c65_ctype.specs.Sizes.{size_of}
use Rattle.c65_csem.specs.Places.{plain_of}
use Rattle.c65_csem.specs.Typed.{result_of}
use Rattle.c65_csem.specs.Units.{HasBody, IsBody}
use Rattle.c65_meaning.specs.Store.{Value, Shape, Whole, Null, Place, Opaque, Cells, NoValue, Pointer, Area}
use Rattle.c65_meaning.specs.Shapes.{shape_of}
use Rattle.c65_agree_state.specs.World.{unit_in}
use Rattle.c65_agree_state.specs.Exprs.{Valued, MayFit, ResultIs}
use Rattle.c65_agree_homes.proofs.Own.{has_body}
use Rattle.c65_gen_law_stack.proofs.ParameterLaws.{plain_type}
use Rattle.c65_agree_slots.specs.Functions.{any_call}
use Rattle.c65_agree_slots.specs.Results.{IsNoWider, ResultsHaveShapes, BodiesGiveWiderResults, AcceptedBodiesServeCalls}
use Rattle.c65_agree_slots.proofs.Accepted.{Meets, met_int, met_pointer, met_tag}
use Rattle.c65_agree_slots.proofs.Functions.{call}
use Rattle.c65_agree_slots.proofs.Calls.{bodies_serve_calls}
use Rattle.c65_agree_slots.proofs.Results.{IsGivenType, result_given, met_void, tag_bounds, accepted_results_meet}

same_shape : (from to : Shape) → from ≡ to → IsNoWider from to
same_shape from to e = subst (IsNoWider from) e (refl, λ v fits. fits)

-- whatever it points to, a pointer is null or a place
pointers_fit : (n m : ℕ) (v : Value) → MayFit Valued (Pointer n) v → MayFit Valued (Pointer m) v
pointers_fit n m NoValue fits = fits
pointers_fit n m Null fits = fits
pointers_fit n m (Place b o) fits = fits
pointers_fit n m Opaque fits = fits
pointers_fit n m (Whole z) fits = fits
pointers_fit n m (Cells xs) fits = fits

shapes_meet : (types : TypesTy) (t r : Ty) → IsGivenType types t → IsGivenType types r → Meets types t r → IsNoWider (shape_of types r) (shape_of types t)
shapes_meet types void r given other met = same_shape (shape_of types r) (shape_of types void) (ap (shape_of types) (met_void types r met))
shapes_meet types (int k) r given other met = same_shape (shape_of types r) (shape_of types (int k)) (ap (shape_of types) (met_int types k r met))
shapes_meet types (pointer q) r given other met =
    let p = met_pointer types q r met in
    subst (λ (x : Ty). IsNoWider (shape_of types x) (shape_of types (pointer q))) (sym p.1) (refl, pointers_fit (size_of types (type_in p.0)) (size_of types (type_in q)))
shapes_meet types (tag m) r given other met =
    let s = met_tag types m r met in
    let sizes : size_of types (tag m) ≡ size_of types (tag s.0) = s.2 (tag_bounds types (tag m) m refl given) (tag_bounds types r s.0 s.1 other) in
    same_shape (shape_of types r) (shape_of types (tag m)) (ap (shape_of types) s.1 ∙ ap Area (sym sizes))
shapes_meet types (array q n) r given other met = absurd cc
shapes_meet types (function_type f) r given other met = absurd cc

pub results_have_shapes : ResultsHaveShapes
results_have_shapes g names b function body t c es h is call_is result accepted =
    let well : IsBody (unit_in g) function body = subst (HasBody (unit_in g) function) is (has_body g names b function h b.func function h.function) in
    let own = result_given (unit_in g) (plain_of (result_of function.ty)) well.gives in
    let met = accepted_results_meet (unit_in g) t c es function call_is accepted in
    subst (λ (x : Ty). IsNoWider (shape_of (unit_in g).types x) (shape_of (unit_in g).types (type_in t))) (plain_type (result_of function.ty))
    (shapes_meet (unit_in g).types (type_in t) (type_in (plain_of (result_of function.ty))) (result_given (unit_in g) t result) own met)

pub bodies_give_wider_results : BodiesGiveWiderResults
bodies_give_wider_results g a needs body from to below vs n v wider does c q b t seen first between turns leads =
    does c q b t seen first between turns (λ j r c2 q2 b2 t2 later lt between2 keeping value fits turns2.
    leads j r c2 q2 b2 t2 later lt between2 keeping (subst (λ w. ResultIs Valued q2 w r t2) wider.0 value) (wider.1 r fits) turns2)

pub accepted_bodies_serve_calls : AcceptedBodiesServeCalls
accepted_bodies_serve_calls g names i h function body z n t c es is all result call_is given accepted a below vs j v calling high lt enough =
    let shapes = results_have_shapes g names (any_call g i h) function body t c es (call g names i h function body is) is.has_body call_is given accepted in
    let wider : IsNoWider (z.result i) (shape_of (unit_in g).types (type_in t)) = subst (λ (x : Shape). IsNoWider x (shape_of (unit_in g).types (type_in t))) (sym result) shapes in
    bodies_give_wider_results g a (z.needs i) body (z.result i) (shape_of (unit_in g).types (type_in t)) below vs j v wider (bodies_serve_calls g names i h function body z n is all a below vs j v calling high lt enough)
