-- Functions that take further arguments may be called.
use Rattle.std.proofs.Common.{◌≡◌, ℕ, ◌+◌, ◌≤◌, true, Option, None, Some, List, [], ◌∷◌, refl, sym, ap, subst, ◌∙◌, slice_get, arith}
use Rattle.std.specs.Prelude.{if◌then◌else◌, option_map, Ok}
use Rattle.std.proofs.lemmas.Option.{slice_get-map}
use Rattle.c65_ctype.specs.Sizes as ctype
use Rattle.c65_ctype.specs.Trees.{Ty, TypesTy, type_in}
use Rattle.c65_ctype.specs.Trees as types
use Rattle.c65_ctype.specs.Views.{types_of}
use Rattle.c65_csem.specs.declared.items.Parts.{Parts}
use Rattle.c65_csem.specs.Places.{is_scalar}
use Rattle.c65_csem.specs.Trees.{Typed, node, pack, Nodes, none, some, Stmt, FuncTy}
use Rattle.c65_csem.specs.Views.{unit_of, func_of}
use Rattle.c65_meaning.specs.After.{is_among}
use Rattle.c65_meaning.specs.Costs.{local_bytes, argument_bytes}
use Rattle.c65_meaning.specs.Shapes as shapes
use Rattle.c65_meaning.specs.Step.{params_of}
use Rattle.c65_code.specs.Placement.{program_start, stack_end, is_function_of}
use Rattle.c65_code.specs.Steady.{HasLines}
use Rattle.c65_genframe.specs.declared.home.Arrival.{Arrival}
use Rattle.c65_genframe.specs.Marks.{lowest}
use Rattle.c65_genframe.specs.Objects.{objects_in, objects_of, locals_of}
use Rattle.c65_genframe.specs.Symbols.{numbers_of, function_symbol}
use Rattle.c65_genframe.specs.Frames.{Framed, is_variadic, has_prototype, all_bytes, saved_bytes, register_param, last_bytes, bytes_without, first_arrivals, passed_bytes, placed_in, without_last, is_kept, frame_in}
use Rattle.c65_genload.specs.Conversions.{size_of}
use Rattle.c65_genexpr.specs.Types.{kind_of, bare}
use Rattle.c65_genexpr.specs.Arguments.{passed_size}
use Rattle.c65_gen_law_lines.proofs.FrameLaws.{frames_are_small}
use Rattle.c65_gen_law_room.specs.Room.{kept_bytes, moved_bytes}
use Rattle.c65_gen_law_room.proofs.Entries.{entries_take_their_objects}
use Rattle.c65_gen_law_stack.specs.Parameters.{IsArgument, AreArguments, passed_type, IsTaken, AreTaken}
use Rattle.c65_gen_law_stack.specs.Parameters as parameters
use Rattle.c65_gen_law_stack.proofs.ParameterLaws.{scalar_size}
use Rattle.c65_agree_state.specs.World.{World, unit_in, setting_in, Active}
use Rattle.c65_agree_state.specs.Joins.{call_bytes}
use Rattle.c65_agree_leave.specs.Laws.{params_in}
use Rattle.c65_agree_enter.specs.Entries.{HaveHomes}
use Rattle.c65_agree_call.specs.Calls.{HasEnds}
use Rattle.c65_agree_homes.specs.Frames.{IsCallIn}
use Rattle.c65_agree_homes.specs.Slots.{all_slots}
use Rattle.c65_agree_homes.proofs.Distinct.{distinct_first}
use Rattle.c65_agree_homes.proofs.Own.{own_distinct, params_distinct}
use Rattle.c65_agree_homes.proofs.Params.{parameters_have_homes}
use Rattle.c65_agree_function.specs.Functions.{end_line}
use Rattle.c65_agree_function.proofs.Body.{functions_have_ends}
use Rattle.c65_agree_function.proofs.Given.{some_lines}
use Rattle.c65_agree_slots.specs.Frames.{AreTakenFrom}
use Rattle.c65_agree_slots.specs.Functions.{bytes_to_spare, any_call}
use Rattle.c65_agree_slots.proofs.Asked.{asked_within}
use Rattle.c65_agree_slots.proofs.Bytes.{in_statement}
use Rattle.c65_agree_slots.proofs.Frames.{frames_have_moves, frames_take_parameters}
use Rattle.c65_agree_slots.proofs.Functions.{no_library, same_variadic}
use Rattle.c65_agree_slots.proofs.Taken.{object_fits, small_bytes, int_fits, taken_within}
use Rattle.c65_agree_variadic.specs.Frames.{IsFurtherFrame}
use Rattle.c65_agree_variadic.proofs.Given.{whole, is_whole, no_register, further_frames_are_given, parameters_lie_above}
use Rattle.c65_agree_argument.specs.Passed.{IsTakenAt}
use Rattle.c65_agree_variadic_call.specs.Callees.{named_sizes, AreWhole, AreTakenAt, IsCallingFurther, HasHomesAbove}
use Rattle.c65_agree_variadic_function.specs.Arguments.{named_of, further_of}
use Rattle.c65_agree_variadic_function.specs.Functions.{IsFurtherFunctionOf, FurtherFramesAreWithin, FurtherFunctionsMayBeCalled}
use Rattle.c65_agree_variadic_function.proofs.Moved.{moved_within}

-- ---- sizes of arguments

scalar_same : (ts : TypesTy) (t : Ty) → is_scalar t ≡ true → size_of (kind_of t) ≡ ctype.size_of ts t
scalar_same ts (types.int k) h = sym (int_fits ts k).0
scalar_same ts (types.pointer q) h = refl
scalar_same ts types.void h = absurd cc
scalar_same ts (types.array q n) h = absurd cc
scalar_same ts (types.tag n) h = absurd cc
scalar_same ts (types.function f) h = absurd cc

-- each is passed in the bytes of its type
argument_whole : (f : Framed) (e : Typed) → IsArgument (unit_of f.parts) e → passed_size f e ≡ ctype.size_of (types_of f.parts.types) (shapes.bare_type e)
argument_whole f e (parameters.value scalar) = scalar_size f e scalar ∙ scalar_same (types_of f.parts.types) (bare e) scalar
argument_whole f (node q (pack e)) (parameters.bytes small) = small_bytes (types_of f.parts.types) (type_in q) small

all_whole : (f : Framed) (es : Nodes) → AreArguments (unit_of f.parts) es → AreWhole (unit_of f.parts) f es
all_whole f none args = tt
all_whole f (some e es) args = (argument_whole f e args.0, all_whole f es args.1)

-- ---- the frame takes them

module _ (g : World) (names : List (List ℕ)) (i : ℕ) (h : Framed) (function : FuncTy) (body : Stmt) (is : IsFurtherFunctionOf g names i h function body) where
  pub variadic : is_variadic function.ty ≡ true
  variadic = sym (same_variadic function.ty) ∙ is.further_too

  frame : IsFurtherFrame h
  frame = further_frames_are_given g.parts g.modes function h is.framed variadic

  -- ---- its calls

  module _ (spare : ℕ) (a : Active) (its : IsCallingFurther g i h spare a) where
    item : option_map func_of (slice_get g.parts.funcs.items a.func) ≡ Some function
    item = sym (slice_get-map func_of g.parts.funcs.items a.func) ∙ (ap (slice_get (unit_in g).funcs) its.func ∙ is.is_function)

    pub in_call : IsCallIn g names a function
    in_call = record {
      code = is.code;
      program = is.program;
      plain = is.plain;
      call = record { symbol = its.symbol ∙ ap (λ (k : ℕ). (function_symbol (numbers_of g.parts) k).0) (sym its.func); frame = ap (frame_in g.parts g.modes) item ∙ (is.framed ∙ ap (λ (z : Framed). Ok z) (sym its.frame)) };
      function = ap (slice_get (unit_in g).funcs) its.func ∙ is.is_function;
    }

    abbrev call_at : ℕ → Framed → Active
    call_at k z = record (any_call g i h) { func = k; frame = z }

    ends : HasEnds g a (end_line g (any_call g i h) body)
    ends =
        let same : end_line g a body ≡ end_line g (any_call g i h) body = ap (λ (k : ℕ). end_line g (call_at k a.frame) body) its.func ∙ ap (λ (z : Framed). end_line g (call_at i z) body) its.frame in
        subst (λ (n : ℕ). HasEnds g a n) same (functions_have_ends g names a function body in_call is.has_body)

    own_params : params_in g a ≡ function.params
    own_params = ap params_of in_call.function

    lies : program_start ≤ a.base → a.base + call_bytes a ≤ stack_end → HasHomesAbove g a function.params
    lies low high = record {
      homes = subst (HaveHomes g a) own_params (parameters_have_homes g names a function in_call low high).0;
      above = λ k at among there. parameters_lie_above g names a function k at in_call variadic (ap (λ ks. is_among ks k) own_params ∙ among) there;
    }

  any_is : IsCallingFurther g i h bytes_to_spare (any_call g i h)
  any_is = record { func = refl; symbol = refl; frame = refl; spare_bytes = refl }

  pub call : IsCallIn g names (any_call g i h) function
  call = in_call bytes_to_spare (any_call g i h) any_is

  own_lines : HasLines ((setting_in g).lines (function_symbol (numbers_of g.parts) i).0)
  own_lines = some_lines ((setting_in g).lines (function_symbol (numbers_of g.parts) i).0) (end_line g (any_call g i h) body) (ends bytes_to_spare (any_call g i h) any_is).end.0

  own_name : (setting_in g).library (function_symbol (numbers_of g.parts) i).0 ≡ None
  own_name = no_library _ (is_function_of g.code (function_symbol (numbers_of g.parts) i).0) ((setting_in g).lines (function_symbol (numbers_of g.parts) i).0) own_lines

  -- ---- its objects

  within : h.soft + saved_bytes h.bank ≤ local_bytes (unit_in g) body + moved_bytes h.moved + 1
  within =
      let locals : all_bytes g.parts (locals_of function) ≡ all_bytes g.parts (objects_in body) = ap (λ (o : Option Stmt). all_bytes g.parts (objects_of o)) is.has_body in
      let kept : kept_bytes h.last ≡ 0 = ap kept_bytes frame.passed in
      let counted : (if h.variadic then 1 else 0) ≡ 1 = ap {B = ℕ} (λ b. if b then 1 else 0) frame.further in
      omega (arith, entries_take_their_objects g.parts g.modes function h is.framed, locals, in_statement g names (any_call g i h) function call body, kept, counted)

  -- none arrives in registers
  none_there : last_bytes g.parts (has_prototype function.ty) (register_param function) ≡ 0
  none_there = ap (last_bytes g.parts (has_prototype function.ty)) (no_register g.parts g.modes function h is.framed variadic)

  -- ---- its parameters

  none_left : without_last (is_kept h.last) function.params ≡ function.params
  none_left = ap (λ l. without_last (is_kept l) function.params) frame.passed

  module _ (f : Framed) (own : f.parts ≡ g.parts) where
    all_taken : (at : ℕ) (ks : List ℕ) (es : Nodes) → AreTakenFrom g.parts (has_prototype function.ty) h at ks → AreTaken (unit_in g) (has_prototype function.ty) (named_of ks es) ks → AreArguments (unit_in g) (further_of ks es)
        → AreTakenAt (unit_in g) f h at ks es × (all_slots g.parts (has_prototype function.ty) ks ≡ named_sizes f ks es)
    all_taken at [] es from named more = (subst (λ (x : Parts). AreWhole (unit_of x) f es) own (all_whole f es (subst (λ (x : Parts). AreArguments (unit_of x) es) (sym own) more)), refl)
    all_taken at (k ∷ ks) none from named more = absurd named
    all_taken at (k ∷ ks) (some e es) from named more =
        let rest = all_taken at ks es from.1 named.3 more in
        let fits = object_fits g.parts f (has_prototype function.ty) k named.0 e own named.1 named.2 in
        let sum : at + all_slots g.parts (has_prototype function.ty) ks ≡ at + named_sizes f ks es = ap (λ n. at + n) rest.1 in
        ((subst (IsTakenAt (unit_in g) h k) sum from.0, fits.1, rest.0), omega (arith, fits.0, rest.1))

    -- the bytes of the named ones are among those of all
    named_within : (ks : List ℕ) (es : Nodes) → AreTaken (unit_in g) (has_prototype function.ty) (named_of ks es) ks → named_sizes f ks es ≤ argument_bytes (unit_in g) (shapes.types_of es)
    named_within [] es named = omega arith
    named_within (k ∷ ks) none named = omega arith
    named_within (k ∷ ks) (some e es) named =
        let first : passed_size f e ≤ ctype.size_of (types_of g.parts.types) (shapes.bare_type e) =
        subst (λ (x : Parts). passed_size f e ≤ ctype.size_of (types_of x.types) (shapes.bare_type e)) own (taken_within f (passed_type (has_prototype function.ty) (type_in named.0.ty)) e (subst (λ (x : Parts). IsTaken (unit_of x) (passed_type (has_prototype function.ty) (type_in named.0.ty)) e) (sym own) named.2)) in
        omega (arith, first, named_within ks es named.3)

  -- no more bytes move to regbank than the parameters are passed in
  moved_few : moved_bytes h.moved ≤ all_slots g.parts (has_prototype function.ty) function.params
  moved_few =
      let made : whole g.parts g.modes function h is.framed ≡ h = is_whole g.parts g.modes function h is.framed in
      let p = placed_in g.parts g.modes function in
      let last : Arrival = (whole g.parts g.modes function h is.framed).last in
      let ks : List ℕ = without_last (is_kept last) function.params in
      let same : ks ≡ function.params = ap (λ l. without_last (is_kept l) function.params) (ap (λ (x : Framed). x.last) made ∙ frame.passed) in
      let stacked : ℕ = bytes_without (is_kept last) (passed_bytes g.parts function) (last_bytes g.parts (has_prototype function.ty) (register_param function)) in
      omega (arith, ap moved_bytes (ap (λ (x : Framed). x.moved) made), ap (all_slots g.parts (has_prototype function.ty)) same, moved_within g.parts (has_prototype function.ty) (lowest (locals_of function) function.params) (p.soft + saved_bytes p.bank) ks (first_arrivals p stacked))

pub further_frames_are_within : FurtherFramesAreWithin
further_frames_are_within g names i h function body is = within g names i h function body is

pub further_functions_may_be_called : FurtherFunctionsMayBeCalled
further_functions_may_be_called g names i h function body f es is own taken =
    let c : IsCallIn g names (any_call g i h) function = call g names i h function body is in
    let distinct = params_distinct g names (any_call g i h) function c in
    let from = frames_take_parameters g.parts g.modes function h is.framed distinct in
    let at : ℕ = h.soft + saved_bytes h.bank in
    let ks : List ℕ = function.params in
    let same = none_left g names i h function body is in
    let all = all_taken g names i h function body is f own at ks es (subst (λ js. AreTakenFrom g.parts (has_prototype function.ty) h at js) same from.0) taken.named taken.further in
    let stacked : h.stacked ≡ all_slots g.parts (has_prototype function.ty) ks = from.1 ∙ ap (all_slots g.parts (has_prototype function.ty)) same in
    record {
      own = own_name g names i h function body is;
      lines = own_lines g names i h function body is;
      ends = ends g names i h function body is 5;
      is_function = is.is_function;
      has_body = is.has_body;
      further_too = is.further_too;
      framed = frame g names i h function body is;
      has_moves = frames_have_moves g.parts g.modes function h is.framed distinct;
      distinct = distinct_first function.params (locals_of function) (own_distinct g names (any_call g i h) function c);
      lies = lies g names i h function body is 5;
      takes = all.0;
      stacked = stacked ∙ all.1;
      small = (frames_are_small g.parts g.modes function h is.framed).0;
      costs = omega (arith, within g names i h function body is, moved_few g names i h function body is, all.1, named_within g names i h function body is f own ks es taken.named);
      asks = omega (arith, asked_within g names (any_call g i h) function c h body is.has_body is.framed, none_there g names i h function body is);
    }
