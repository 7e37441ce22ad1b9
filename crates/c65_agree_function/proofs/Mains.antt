-- The arguments of main lie where its parameters have their homes.
use Rattle.std.proofs.Common.{◌≡◌, ℕ, zero, suc, ◌+◌, ◌-◌, ◌<◌, ◌≤◌, Bool, true, false, pos, Option, None, Some, List, [], ◌∷◌, length, refl, sym, ◌∙◌, ap, subst, slice_get, arith}
use Rattle.std.specs.Prelude.{◌==◌, ◌||◌, not, if◌then◌else◌, option_map}
use Rattle.std.proofs.lemmas.Bool.{eq-eqb, ne_eqb}
use Rattle.std.proofs.lemmas.Option.{slice_get-map}
use Rattle.c65_ints.specs.declared.types.IntType.{IntType}
use Rattle.c65_ints.specs.declared.types.IntType.TheVariants.{Int}
use Rattle.c65_ctype.specs.Trees.{Ty, void, int, pointer, array, tag, function, Fn, fn, type_in, TypesTy}
use Rattle.c65_ctype.specs.Views.{types_of}
use Rattle.c65_csem.specs.declared.items.TFunc.{TFunc}
use Rattle.c65_csem.specs.Trees.{ObjectTy, FuncTy}
use Rattle.c65_csem.specs.Views.{func_of}
use Rattle.c65_csem_plain.specs.Plain.{IsUsual, Starts}
use Rattle.c65_meaning.specs.After.{is_among}
use Rattle.c65_meaning.specs.Store.{Value, Shape, Number, Pointer, Whole, Place, size_in, cell_of, new_cells}
use Rattle.c65_meaning.specs.Shapes.{first_block, shape_of, object_in, object_shape}
use Rattle.c65_meaning.specs.Start.{main_values}
use Rattle.c65_meaning.specs.Step.{params_of}
use Rattle.c65_code.specs.LineState.{Bytes, write, State, sp_of}
use Rattle.c65_code.specs.Rows.{written}
use Rattle.c65_code.specs.Starts.{IsStart, HasArguments, IsMainCalled, list_start}
use Rattle.c65_code.specs.Texts.{listed}
use Rattle.c65_genframe.specs.declared.home.Arrival.{Arrival}
use Rattle.c65_genframe.specs.declared.home.Arrival.TheVariants.{Passed, Pushed}
use Rattle.c65_genframe.specs.Sizes as frames
use Rattle.c65_genframe.specs.Sizes.{passed_bytes, slot_bytes}
use Rattle.c65_genframe.specs.Frames.{has_prototype, takes_stack, register_param, saved_bytes}
use Rattle.c65_genstmt.specs.Programs.{has_params}
use Rattle.c65_agree_store.specs.Stands.{Spot, At, Banks, byte_in, part_of, CellIs}
use Rattle.c65_agree_store.specs.Laws.{byte_of}
use Rattle.c65_agree_state.specs.World.{World, unit_in, Active}
use Rattle.c65_agree_state.specs.Joins.{spot_of}
use Rattle.c65_agree_numbers.specs.Words.{word_of}
use Rattle.c65_agree_numbers.proofs.Bytes.{numbers_are_laid}
use Rattle.c65_agree_numbers.proofs.Tests.{not_less}
use Rattle.c65_agree_rows.proofs.Quiet.{write_other, write_same}
use Rattle.c65_agree_frame.specs.Entries.{arriving, IsPlainFrame}
use Rattle.c65_agree_start.specs.First.{argument_spot_if, program_spot, first_placing}
use Rattle.c65_agree_start.proofs.Given.{is_code}
use Rattle.c65_agree_leave.specs.Laws.{params_in}
use Rattle.c65_agree_enter.specs.Params.{shape_in, no_cells, ArePassed}
use Rattle.c65_agree_enter.specs.Entries.{banks_with}
use Rattle.c65_agree_enter.specs.Laws.{with_arriving, AllPassed}
use Rattle.c65_agree_enter.proofs.Lines.{arguments_lie_at_homes}
use Rattle.c65_agree_call.specs.Calls.{HasCome}
use Rattle.c65_agree_homes.specs.Slots.{all_slots, behind_slots}
use Rattle.c65_agree_homes.specs.Frames.{IsCallIn}
use Rattle.c65_agree_homes.proofs.Among.{among_here, among_more}
use Rattle.c65_agree_homes.proofs.Own.{object_same, params_distinct}
use Rattle.c65_agree_homes.proofs.Params.{parameters_stand_in_order, last_parameters_arrive}
use Rattle.c65_agree_function.specs.Functions.{TakesProgramArguments}
use Rattle.c65_agree_function.specs.Laws.{MainsArgumentsLie}

-- ---- what main is

usual_takes : (t : Fn) → IsUsual t → takes_stack t ≡ false
usual_takes (fn q ps variadic cdecl) u = ap (λ (b : Bool). b || cdecl) u.0 ∙ u.1

pointer_slot : (types : TypesTy) (prototype : Bool) (t : Ty) (size : ℕ) → shape_of types t ≡ Pointer size → passed_bytes types prototype t ≡ 2
pointer_slot types true (pointer q) size e = refl
pointer_slot types false (pointer q) size e = refl
pointer_slot types prototype void size e = cc
pointer_slot types prototype (int k) size e = cc
pointer_slot types prototype (array q n) size e = cc
pointer_slot types prototype (tag n) size e = cc
pointer_slot types prototype (function f) size e = cc

int_slot : (types : TypesTy) (prototype : Bool) (t : Ty) → shape_of types t ≡ Number Int → passed_bytes types prototype t ≡ 2
int_slot types prototype (int k) e = let same : k ≡ Int = cc in ap {B = ℕ} (λ (x : IntType). passed_bytes types prototype (int x)) same ∙ by prototype
  where
    by : (b : Bool) → passed_bytes types b (int Int) ≡ 2
    by true = refl
    by false = refl
int_slot types prototype void e = cc
int_slot types prototype (pointer q) e = cc
int_slot types prototype (array q n) e = cc
int_slot types prototype (tag n) e = cc
int_slot types prototype (function f) e = cc

module _ (types : TypesTy) (prototype : Bool) where
  pointer_bytes : (o : Option ObjectTy) (size : ℕ) → object_shape types o ≡ Pointer size → slot_bytes types prototype o ≡ 2
  pointer_bytes None size e = cc
  pointer_bytes (Some x) size e = pointer_slot types prototype (type_in x.ty) size e

  int_bytes : (o : Option ObjectTy) → object_shape types o ≡ Number Int → slot_bytes types prototype o ≡ 2
  int_bytes None e = cc
  int_bytes (Some x) e = int_slot types prototype (type_in x.ty) e

module _ (g : World) (names args : List (List ℕ)) (a : Active) (f : FuncTy) (input : List ℕ) (t : State) (k : Banks) (h : IsCallIn g names a f) (main : a.func ≡ g.main) (plain : IsPlainFrame a.frame) (start : IsStart g.code g.place args input t)
    (top : a.base + (a.frame.soft + (saved_bytes a.frame.bank + length (arriving a.frame.last t))) ≡ sp_of t) where
  abbrev prototype : Bool
  prototype = has_prototype f.ty

  abbrev low : ℕ
  low = a.base + (a.frame.soft + saved_bytes a.frame.bank)

  is_main : slice_get (unit_in g).funcs g.main ≡ Some f
  is_main = ap (slice_get (unit_in g).funcs) (sym main) ∙ h.function

  takes : takes_stack f.ty ≡ false
  takes = usual_takes f.ty (subst (Starts names) is_main h.plain.start).usual

  registered : register_param f ≡ slice_get f.params (length f.params - 1)
  registered = ap (λ (b : Bool). if b then None else slice_get f.params (length f.params - 1)) takes

  params_are : f.params ≡ params_in g a
  params_are = sym (ap params_of h.function)

  abbrev Given : List ℕ → Type 0
  Given is = HasCome g a (main_values (unit_in g) args is) (first_placing g args) t

  abbrev Lie : List ℕ → Type 0
  Lie is = ArePassed (unit_in g) (first_placing g args) (with_arriving a t) (banks_with a t k) (spot_of g a) is (main_values (unit_in g) args is)

  given : (is : List ℕ) → f.params ≡ is → length (arriving a.frame.last t) ≤ a.frame.stacked → Lie is → Given is
  given is e few lies =
      let all : AllPassed g a (first_placing g args) t is (main_values (unit_in g) args is) = arguments_lie_at_homes g a (first_placing g args) k t is (main_values (unit_in g) args is) (λ n among. (low + behind_slots g.parts prototype f.params n, at_home n (ap (λ (ps : List ℕ). is_among ps n) e ∙ among))) lies in
      record { stacked = top; few = few; lies = subst (λ (ps : List ℕ). AllPassed g a (first_placing g args) t ps (main_values (unit_in g) args is)) (sym e ∙ params_are) all }
    where
      at_home : (n : ℕ) → is_among f.params n ≡ true → spot_of g a n ≡ At (low + behind_slots g.parts prototype f.params n)
      at_home = (parameters_stand_in_order g names a f h plain).0

  -- ---- no arguments

  none_given : f.params ≡ [] → Given []
  none_given e =
      let last : a.frame.last ≡ Passed = (last_parameters_arrive g names a f h plain).0 (registered ∙ ap (λ (ps : List ℕ). slice_get ps (length ps - 1)) e) in
      let none : length (arriving a.frame.last t) ≡ 0 = ap {B = ℕ} (λ (x : Arrival). length (arriving x t)) last in
      given [] e (omega (arith, none)) tt

  -- ---- two

  module _ (i j size : ℕ) (two : f.params ≡ i ∷ j ∷ []) (first : shape_in (unit_in g) i ≡ Number Int) (second : shape_in (unit_in g) j ≡ Pointer size) where
    slot_i : slot_bytes (types_of g.parts.types) prototype (frames.object_in g.parts i) ≡ 2
    slot_i = ap {B = ℕ} (slot_bytes (types_of g.parts.types) prototype) (sym (object_same g names a f h i)) ∙ int_bytes (types_of g.parts.types) prototype (object_in (unit_in g) i) first

    slot_j : slot_bytes (types_of g.parts.types) prototype (frames.object_in g.parts j) ≡ 2
    slot_j = ap {B = ℕ} (slot_bytes (types_of g.parts.types) prototype) (sym (object_same g names a f h j)) ∙ pointer_bytes (types_of g.parts.types) prototype (object_in (unit_in g) j) size second

    last : a.frame.last ≡ Pushed 2
    last = (last_parameters_arrive g names a f h plain).1 j (registered ∙ ap (λ (ps : List ℕ). slice_get ps (length ps - 1)) two) ∙ ap Pushed slot_j

    at_top : low + 2 ≡ sp_of t
    at_top =
        let pair : length (arriving a.frame.last t) ≡ 2 = ap {B = ℕ} (λ (x : Arrival). length (arriving x t)) last in
        omega (arith, top, pair)

    memory : with_arriving a t ≡ write (write t.mem low t.regs.a) (low + 1) t.regs.x
    memory = ap (λ (x : Arrival). written t.mem (listed (arriving x t) low)) last

    -- ---- where they stand

    differ : i ≡ j → ⊥
    differ e =
        let distinct = params_distinct g names a f h in
        let same : 0 ≡ 1 = distinct.once 0 1 j (ap (λ (ps : List ℕ). slice_get ps 0) two ∙ ap Some e) (ap (λ (ps : List ℕ). slice_get ps 1) two) in
        omega (arith, same)

    order : (n : ℕ) → is_among f.params n ≡ true → spot_of g a n ≡ At (low + behind_slots g.parts prototype f.params n)
    order = (parameters_stand_in_order g names a f h plain).0

    spot_i : spot_of g a i ≡ At (sp_of t)
    spot_i =
        let member : is_among f.params i ≡ true = ap (λ (ps : List ℕ). is_among ps i) two ∙ among_here i (j ∷ []) in
        let behind : behind_slots g.parts prototype f.params i ≡ slot_bytes (types_of g.parts.types) prototype (frames.object_in g.parts j) + 0 =
        ap {B = ℕ} (λ (ps : List ℕ). behind_slots g.parts prototype ps i) two ∙ ap {B = ℕ} (λ (b : Bool). if b then all_slots g.parts prototype (j ∷ []) else behind_slots g.parts prototype (j ∷ []) i) (eq-eqb i i refl) in
        let sum : low + behind_slots g.parts prototype f.params i ≡ sp_of t = omega (arith, behind, slot_j, at_top) in
        order i member ∙ ap At sum

    spot_j : spot_of g a j ≡ At low
    spot_j =
        let member : is_among f.params j ≡ true = ap (λ (ps : List ℕ). is_among ps j) two ∙ among_more i (j ∷ []) j (among_here j []) in
        let behind : behind_slots g.parts prototype f.params j ≡ 0 =
        ap {B = ℕ} (λ (ps : List ℕ). behind_slots g.parts prototype ps j) two ∙ (ap {B = ℕ} (λ (b : Bool). if b then all_slots g.parts prototype (j ∷ []) else behind_slots g.parts prototype (j ∷ []) j) (ne_eqb i j differ)
        ∙ ap {B = ℕ} (λ (b : Bool). if b then all_slots g.parts prototype [] else behind_slots g.parts prototype [] j) (eq-eqb j j refl)) in
        let sum : low + behind_slots g.parts prototype f.params j ≡ low = omega (arith, behind) in
        order j member ∙ ap At sum

    -- ---- the state

    taken : g.code.main_args ≡ true
    taken = (is_code g names h.code).main_args ∙ by (slice_get g.parts.funcs.items g.main) refl (sym (slice_get-map func_of g.parts.funcs.items g.main) ∙ is_main)
      where
        by : (o : Option TFunc) → slice_get g.parts.funcs.items g.main ≡ o → option_map func_of o ≡ Some f → has_params o ≡ true
        by None e s = cc
        by (Some x) e s =
            let same : func_of x ≡ f = cc in
            ap (λ (z : FuncTy). not (length z.params == 0)) same ∙ ap (λ (ps : List ℕ). not (length ps == 0)) two

    has : HasArguments args t
    has = subst (λ (b : Bool). IsMainCalled b args t) taken start.called

    abbrev Cells : Shape → Value → Spot → Type 0
    Cells s v q = (o : ℕ) → o < size_in s → CellIs (first_placing g args) (new_cells s v no_cells 0 o) (byte_in (with_arriving a t) (banks_with a t k) q o)

    abbrev count : ℕ
    count = length args

    above : (o : ℕ) → with_arriving a t (sp_of t + o) ≡ t.mem (sp_of t + o)
    above o =
        ap (λ (m : Bytes). m (sp_of t + o)) memory
        ∙ (write_other (write t.mem low t.regs.a) (low + 1) t.regs.x (sp_of t + o) (λ e. omega (arith, e, at_top))
        ∙ write_other t.mem low t.regs.a (sp_of t + o) (λ e. omega (arith, e, at_top)))

    first_lies : Cells (Number Int) (Whole (pos count)) (At (sp_of t))
    first_lies zero lt =
        let byte : byte_of 0 (word_of Int (pos count)) ≡ t.mem (sp_of t) = omega (arith, has.argc, start.bytes.mem (sp_of t), start.bytes.mem (sp_of t + 1)) in
        let here : with_arriving a t (sp_of t + 0) ≡ t.mem (sp_of t) = above 0 ∙ ap t.mem (none_more (sp_of t)) in
        subst (CellIs (first_placing g args) (cell_of (Whole (pos count)) 0)) (byte ∙ sym here) (numbers_are_laid (first_placing g args) Int (pos count) 0 (omega arith))
      where
        none_more : (n : ℕ) → n + 0 ≡ n
        none_more n = omega arith
    first_lies (suc zero) lt =
        let byte : byte_of 1 (word_of Int (pos count)) ≡ t.mem (sp_of t + 1) = omega (arith, has.argc, start.bytes.mem (sp_of t), start.bytes.mem (sp_of t + 1)) in
        subst (CellIs (first_placing g args) (cell_of (Whole (pos count)) 1)) (byte ∙ sym (above 1)) (numbers_are_laid (first_placing g args) Int (pos count) 1 (omega arith))
    first_lies (suc (suc o)) lt = absurd (omega (arith, lt))

    -- the list of the arguments
    placed : first_placing g args (first_block (unit_in g)) ≡ Some (At (list_start count))
    placed =
        let fb : ℕ = first_block (unit_in g) in
        let none : fb - fb ≡ 0 = omega arith in
        ap (λ (b : Bool). if b then program_spot g fb else argument_spot_if g.code.main_args args (fb - fb)) (not_less fb fb (omega arith))
        ∙ (ap (λ (n : ℕ). argument_spot_if g.code.main_args args n) none ∙ ap (λ (b : Bool). argument_spot_if b args 0) taken)

    second_lies : Cells (Pointer size) (Place (first_block (unit_in g)) 0) (At low)
    second_lies zero lt =
        let here : with_arriving a t (low + 0) ≡ t.regs.a = ap (λ (n : ℕ). with_arriving a t n) (none_more low) ∙ (ap (λ (m : Bytes). m low) memory ∙ (write_other (write t.mem low t.regs.a) (low + 1) t.regs.x low (λ e. omega (arith, e)) ∙ write_same t.mem low t.regs.a)) in
        let byte : t.regs.a ≡ part_of 0 (list_start count + 0) = omega (arith, has.argv, start.bytes.a, start.bytes.x) in
        (list_start count, placed, here ∙ byte)
      where
        none_more : (n : ℕ) → n + 0 ≡ n
        none_more n = omega arith
    second_lies (suc zero) lt =
        let here : with_arriving a t (low + 1) ≡ t.regs.x = ap (λ (m : Bytes). m (low + 1)) memory ∙ write_same (write t.mem low t.regs.a) (low + 1) t.regs.x in
        let byte : t.regs.x ≡ part_of 1 (list_start count + 0) = omega (arith, has.argv, start.bytes.a, start.bytes.x) in
        (list_start count, placed, here ∙ byte)
    second_lies (suc (suc o)) lt = absurd (omega (arith, lt))

    two_given : Given (i ∷ j ∷ [])
    two_given =
        let pair : length (arriving a.frame.last t) ≡ 2 = ap {B = ℕ} (λ (x : Arrival). length (arriving x t)) last in
        let slots : a.frame.stacked ≡ slot_bytes (types_of g.parts.types) prototype (frames.object_in g.parts i) + (slot_bytes (types_of g.parts.types) prototype (frames.object_in g.parts j) + 0) = (parameters_stand_in_order g names a f h plain).1 ∙ ap {B = ℕ} (all_slots g.parts prototype) two in
        let one : Cells (shape_in (unit_in g) i) (Whole (pos count)) (spot_of g a i) = subst (λ (s : Shape). Cells s (Whole (pos count)) (spot_of g a i)) (sym first) (subst (Cells (Number Int) (Whole (pos count))) (sym spot_i) first_lies) in
        let other : Cells (shape_in (unit_in g) j) (Place (first_block (unit_in g)) 0) (spot_of g a j) = subst (λ (s : Shape). Cells s (Place (first_block (unit_in g)) 0) (spot_of g a j)) (sym second) (subst (Cells (Pointer size) (Place (first_block (unit_in g)) 0)) (sym spot_j) second_lies) in
        given (i ∷ j ∷ []) two (omega (arith, pair, slots, slot_i, slot_j)) (one, (other, tt))

  all_given : (is : List ℕ) → f.params ≡ is → TakesProgramArguments (unit_in g) is → Given is
  all_given [] e takes = none_given e
  all_given (i ∷ []) e takes = absurd takes
  all_given (i ∷ j ∷ []) e takes = two_given i j takes.1 e takes.0 takes.2
  all_given (i ∷ j ∷ n ∷ is) e takes = absurd takes

pub mains_arguments_lie : MainsArgumentsLie
mains_arguments_lie g names args a f input t h main plain takes start top = all_given g names args a f input t (λ d i. 0) h main plain start top f.params refl takes
