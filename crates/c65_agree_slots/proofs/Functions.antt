-- The frame of a function of a plain program takes no more of the software stack than the source counts.
use Rattle.std.proofs.Common.{◌≡◌, ℕ, ◌+◌, ◌≤◌, Bool, true, false, Option, None, Some, List, [], ◌∷◌, refl, sym, ap, subst, ◌∙◌, slice_get, arith}
use Rattle.std.specs.Prelude.{if◌then◌else◌, ◌&&◌, nat_lt, option_map, Ok}
use Rattle.std.proofs.lemmas.Option.{slice_get-map}
use Rattle.c65_base.specs.declared.refusal.Size.TheVariants as sizes_refused
use Rattle.c65_base.specs.Answers.{large}
use Rattle.c65_ctype.specs.Trees.{Fn, fn}
use Rattle.c65_csem.specs.Trees.{Stmt, FuncTy}
use Rattle.c65_csem.specs.Views.{func_of}
use Rattle.c65_meaning.specs.Calls as meaning
use Rattle.c65_meaning.specs.Costs.{local_bytes}
use Rattle.c65_meaning.specs.Step.{params_of}
use Rattle.c65_base.specs.declared.library.Library.{Library}
use Rattle.c65_code.specs.declared.line.Line.{Line}
use Rattle.c65_code.specs.Placement.{program_start, stack_end, is_nothing, is_function_of}
use Rattle.c65_code.specs.Steady.{HasLines}
use Rattle.c65_genframe.specs.Marks.{lowest}
use Rattle.c65_genframe.specs.Objects.{objects_in, objects_of, locals_of}
use Rattle.c65_genframe.specs.Symbols.{numbers_of, function_symbol}
use Rattle.c65_genframe.specs.Frames.{Framed, is_variadic, has_prototype, all_bytes, saved_bytes, check_of, settled, passed_bytes, placed_in, frame_in}
use Rattle.c65_gen_law_lines.proofs.FrameLaws.{frames_are_small}
use Rattle.c65_gen_law_room.specs.Room.{kept_bytes, moved_bytes}
use Rattle.c65_gen_law_room.proofs.Entries.{entries_take_their_objects}
use Rattle.c65_agree_state.specs.World.{World, unit_in, setting_in, Active}
use Rattle.c65_agree_state.specs.Joins.{call_bytes}
use Rattle.c65_agree_leave.specs.Laws.{params_in}
use Rattle.c65_agree_enter.specs.Entries.{HaveHomes}
use Rattle.c65_agree_call.specs.Calls.{HasEnds}
use Rattle.c65_agree_invoke.specs.Nodes.{IsCalling}
use Rattle.c65_agree_homes.specs.Frames.{IsCallIn}
use Rattle.c65_agree_homes.proofs.Own.{params_distinct}
use Rattle.c65_agree_homes.proofs.Params.{parameters_have_homes}
use Rattle.c65_agree_function.specs.Functions.{end_line}
use Rattle.c65_agree_function.proofs.Body.{functions_have_ends}
use Rattle.c65_agree_function.proofs.Given.{some_lines}
use Rattle.c65_agree_slots.specs.Functions.{bytes_to_spare, any_call, IsFunctionOf, FramesAreWithinTheirObjects, FramesAreFunctions}
use Rattle.c65_agree_slots.proofs.Asked.{asked_within, last_within}
use Rattle.c65_agree_slots.proofs.Bytes.{in_statement}
use Rattle.c65_agree_slots.proofs.Slots.{answered}
use Rattle.c65_agree_slots.proofs.Taken.{taken_arguments_have_sizes}
use Rattle.c65_agree_slots.proofs.Paid.{sizes_within, registers_are_paid}

-- ---- frames

-- a symbol with lines is that of no function of the library
pub no_library : (o : Option Library) (b : Bool) (ls : List Line) → HasLines ls → (if b && is_nothing ls then o else None) ≡ None
no_library o b [] has = absurd has
no_library o true (l ∷ ls) has = refl
no_library o false (l ∷ ls) has = refl

pub same_variadic : (t : Fn) → meaning.is_variadic t ≡ is_variadic t
same_variadic (fn q ps v c) = refl

module _ (g : World) (names : List (List ℕ)) (i : ℕ) (h : Framed) (function : FuncTy) (body : Stmt) (is : IsFunctionOf g names i h function body) where
  -- ---- its calls

  module _ (spare : ℕ) (a : Active) (its : IsCalling g i h spare a) where
    item : option_map func_of (slice_get g.parts.funcs.items a.func) ≡ Some function
    item = sym (slice_get-map func_of g.parts.funcs.items a.func) ∙ (ap (slice_get (unit_in g).funcs) its.func ∙ is.is_function)

    pub in_call : IsCallIn g names a function
    in_call = record {
      code = is.code;
      program = is.program;
      plain = is.plain;
      call = record { symbol = its.symbol ∙ ap (λ (k : ℕ). (function_symbol (numbers_of g.parts) k).0) (sym its.func); frame = ap (frame_in g.parts g.modes) item ∙ (is.framed ∙ ap (λ (z : Framed). Ok z) (sym its.frame)) };
      function = ap (slice_get (unit_in g).funcs) its.func ∙ is.is_function;
    }

    abbrev call_at : ℕ → Framed → Active
    call_at k z = record (any_call g i h) { func = k; frame = z }

    ends : HasEnds g a (end_line g (any_call g i h) body)
    ends =
        let same : end_line g a body ≡ end_line g (any_call g i h) body = ap (λ (k : ℕ). end_line g (call_at k a.frame) body) its.func ∙ ap (λ (z : Framed). end_line g (call_at i z) body) its.frame in
        subst (λ (n : ℕ). HasEnds g a n) same (functions_have_ends g names a function body in_call is.has_body)

  any_is : IsCalling g i h bytes_to_spare (any_call g i h)
  any_is = record { func = refl; symbol = refl; frame = refl; raised = refl; spare_bytes = refl }

  pub call : IsCallIn g names (any_call g i h) function
  call = in_call bytes_to_spare (any_call g i h) any_is

  -- ---- its objects

  within : h.soft + saved_bytes h.bank ≤ local_bytes (unit_in g) body + (kept_bytes h.last + moved_bytes h.moved)
  within =
      let locals : all_bytes g.parts (locals_of function) ≡ all_bytes g.parts (objects_in body) = ap (λ (o : Option Stmt). all_bytes g.parts (objects_of o)) is.has_body in
      let counted : (if h.variadic then 1 else 0) ≡ 0 = ap {B = ℕ} (λ b. if b then 1 else 0) is.fixed in
      omega (arith, entries_take_their_objects g.parts g.modes function h is.framed, locals, in_statement g names (any_call g i h) function call body, counted)

  -- ---- its lines and its parameters

  own_lines : HasLines ((setting_in g).lines (function_symbol (numbers_of g.parts) i).0)
  own_lines = some_lines ((setting_in g).lines (function_symbol (numbers_of g.parts) i).0) (end_line g (any_call g i h) body) (ends bytes_to_spare (any_call g i h) any_is).end.0

  own_name : (setting_in g).library (function_symbol (numbers_of g.parts) i).0 ≡ None
  own_name = no_library _ (is_function_of g.code (function_symbol (numbers_of g.parts) i).0) ((setting_in g).lines (function_symbol (numbers_of g.parts) i).0) own_lines

  homes : (a : Active) → IsCalling g i h bytes_to_spare a → program_start ≤ a.base → a.base + call_bytes a ≤ stack_end → HaveHomes g a function.params
  homes a its low high =
      let same : params_in g a ≡ function.params = ap params_of (in_call bytes_to_spare a its).function in
      subst (HaveHomes g a) same (parameters_have_homes g names a function (in_call bytes_to_spare a its) low high).0

  pub all_named : meaning.is_variadic function.ty ≡ false
  all_named =
      let p = placed_in g.parts g.modes function in
      let made = answered (nat_lt 1024 p.total) (large sizes_refused.Frame p.total) (settled g.parts (check_of g.parts g.modes function) function (lowest (locals_of function) function.params) (passed_bytes g.parts function) p) h is.framed in
      same_variadic function.ty ∙ (ap (λ (z : Framed). z.variadic) made ∙ is.fixed)

pub frames_are_within_their_objects : FramesAreWithinTheirObjects
frames_are_within_their_objects g names i h function body is = within g names i h function body is

pub frames_are_functions : FramesAreFunctions
frames_are_functions g names i h function body f es is own taken =
    let small = frames_are_small g.parts g.modes function h is.framed in
    let sizes = taken_arguments_have_sizes g.parts (has_prototype function.ty) f function.params es own taken in
    let paid = registers_are_paid g.parts g.modes function h is.framed f es sizes in
    let whole = sizes_within g.parts f (has_prototype function.ty) function.params es own taken in
    record {
      own = own_name g names i h function body is;
      lines = own_lines g names i h function body is;
      ends = ends g names i h function body is bytes_to_spare;
      is_function = is.is_function;
      has_body = is.has_body;
      all_named = all_named g names i h function body is;
      fixed = is.fixed;
      distinct = params_distinct g names (any_call g i h) function (call g names i h function body is);
      framed = is.framed;
      homes = homes g names i h function body is;
      small = small.0;
      short = small.1;
      costs = omega (arith, within g names i h function body is, paid, whole);
      asks = omega (arith, asked_within g names (any_call g i h) function (call g names i h function body is) h body is.has_body is.framed, last_within g.parts (has_prototype function.ty) f function es sizes, whole);
    }
