-- The labels in an expression's lines, and what waits there.
use Rattle.std.proofs.Common.{◌≡◌, ℕ, ◌+◌, ◌==◌, inl, inr, ◌&&◌, Bool, true, false, not, Option, None, Some, IsSome, List, [], ◌∷◌, ◌++◌, refl, sym, ◌∙◌, ap, subst}
use Rattle.std.specs.Prelude.{if◌then◌else◌, is_some}
use Rattle.std.specs.List.{list_all}
use Rattle.std.proofs.lemmas.Bool.{eq-eqb}
use Rattle.c65_base.specs.declared.operators.UnaryOp.TheVariants as unaries
use Rattle.c65_base.specs.declared.operators.BinaryOp.{BinaryOp}
use Rattle.c65_ints.specs.declared.types.IntType.{IntType}
use Rattle.c65_ints.specs.declared.types.IntType.TheVariants.{UInt}
use Rattle.c65_ctype.specs.Trees.{Ty, QTy, type_in}
use Rattle.c65_ctype.specs.Views.{types_of}
use Rattle.c65_base.specs.declared.library.Library.{Library}
use Rattle.c65_csem.specs.Trees.{Typed, node, Node, constant, null, literal, object, func, deref, member, load, address, decay, convert, unary, binary, both, either, choice, comma, assign, assign_op, assign_step, step, copy, call, pack, spill, rest as further, Nodes, none, some}
use Rattle.c65_mach.specs.declared.rows.Op.TheVariants.{Jmp, Lda, Tay}
use Rattle.c65_mach.specs.declared.rows.Mode.TheVariants.{Absolute}
use Rattle.c65_code.specs.declared.line.Callee.TheVariants.{Routine, Function, Pointer}
use Rattle.c65_code.specs.declared.line.Operand.TheVariants.{To}
use Rattle.c65_code.specs.declared.line.Line.{Line}
use Rattle.c65_code.specs.declared.line.Line.TheVariants.{Label, Do, Call}
use Rattle.c65_code.specs.declared.routine.Count.TheVariants.{Two as two_bytes}
use Rattle.c65_code.specs.declared.routine.Routine.TheVariants.{IncSp, Library as library_routine}
use Rattle.c65_code.specs.declared.routine.Width.{Width}
use Rattle.c65_code.specs.declared.routine.Width.TheVariants.{Ax}
use Rattle.c65_genframe.specs.Symbols.{numbers_of, function_symbol, literal_symbol}
use Rattle.c65_genframe.specs.Frames.{Framed, type_bytes}
use Rattle.c65_genframe.specs.Registers.{registers}
use Rattle.c65_genwide.specs.Wide.{width_of}
use Rattle.c65_genload.specs.declared.places.Place.{Place}
use Rattle.c65_genload.specs.declared.places.Place.TheVariants as places
use Rattle.c65_genload.specs.declared.places.Access.{Access}
use Rattle.c65_genload.specs.declared.places.Extent.{Extent}
use Rattle.c65_genload.specs.Words.{implied}
use Rattle.c65_genload.specs.Places.{type_in as type_at, extent_of, extent_by}
use Rattle.c65_genload.specs.Conversions.{waiting}
use Rattle.c65_gendirect.specs.declared.bytes.OperandByte.{OperandByte}
use Rattle.c65_gendirect.specs.declared.direct.Direct.{Direct}
use Rattle.c65_gendirect.specs.declared.compare.Sides.TheVariants.{Word}
use Rattle.c65_gendirect.specs.declared.relation.Relation.{Relation}
use Rattle.c65_gendirect.specs.Compare.{relation_of}
use Rattle.c65_genshift.specs.Shifts.{labelled}
use Rattle.c65_genexpr.specs.declared.destination.Destination.{Destination}
use Rattle.c65_genexpr.specs.declared.destination.Destination.TheVariants.{Registers}
use Rattle.c65_genexpr.specs.declared.destination.Destination.TheVariants as destinations
use Rattle.c65_genexpr.specs.declared.operands.Operands.{Operands}
use Rattle.c65_genexpr.specs.declared.operands.Operands.TheVariants.{Numbers, PointerFirst, PointerLast, Pointers}
use Rattle.c65_genexpr.specs.declared.operating.Operating.{Operating}
use Rattle.c65_genexpr.specs.declared.operating.Operating.TheVariants as operating
use Rattle.c65_genexpr.specs.declared.comparing.Side.{Side}
use Rattle.c65_genexpr.specs.declared.comparing.Side.TheVariants.{Left, Right}
use Rattle.c65_genexpr.specs.declared.comparing.Comparing.{Comparing}
use Rattle.c65_genexpr.specs.declared.comparing.Comparing.TheVariants.{Truth, Byte, Whole, Stacked, Held, HeldByte}
use Rattle.c65_genexpr.specs.declared.storing.Storing.{Storing}
use Rattle.c65_genexpr.specs.declared.storing.Storing.TheVariants as storing
use Rattle.c65_genexpr.specs.declared.wanted.Wanted.{Wanted}
use Rattle.c65_genexpr.specs.declared.wanted.Wanted.TheVariants.{Value, Test}
use Rattle.c65_genexpr.specs.declared.arguments.Passed.{Passed}
use Rattle.c65_genexpr.specs.declared.types.Outcome.{Outcome}
use Rattle.c65_genexpr.specs.declared.types.Outcome.TheVariants.{Nothing, Number, Area}
use Rattle.c65_genexpr.specs.Types.{kind_of, outcome_of, given_bytes, kind_in, bare, offset_at, access_of, target_bytes}
use Rattle.c65_genexpr.specs.Places.{more, has_base, added_bytes, sum_has_base, object_place, place_of, target_of, object_code, target_code}
use Rattle.c65_genexpr.specs.Wanted.{wanted_by, handed, wanted, sense, aimed, inner, truth_by, way, way_labels, joined, branch_code}
use Rattle.c65_genexpr.specs.Operands.{residue_of, constant_in, operands_of, computes, between_code, behind_code, same_truth, conversion_by}
use Rattle.c65_genexpr.specs.Direct.{kept_at, own_bytes, direct_of, is_pure, is_byte}
use Rattle.c65_genexpr.specs.Comparing.{relation_by, tested_by, compared_by, comparing_of, takes_low, on, low_code, below_side, comparison_by, held_by, or_held}
use Rattle.c65_genexpr.specs.Operating.{operating_of, waiting_code, stacked_code, below_operand, operator_by, is_light}
use Rattle.c65_genexpr.specs.Destination.{arrived, destination_of}
use Rattle.c65_genexpr.specs.Storing.{storing_of, below_value, base_for, assigned_by}
use Rattle.c65_genexpr.specs.Held.{held_low, held_high}
use Rattle.c65_genexpr.specs.Steps.{amount_of}
use Rattle.c65_genexpr.specs.Arguments.{is_fast, is_counted, stays, passed_size, passed_of, reads_of}
use Rattle.c65_genexpr.specs.Arguments as arguments
use Rattle.c65_genexpr.specs.Calls.{named, count_code, fetch_code, result_code, library_at, named_by, named_code, pointer_code, direct_code, ptr4_code}
use Rattle.c65_genexpr.specs.Uses.{uses, by_relation}
use Rattle.c65_genexpr.specs.declared.elements.Element.{Element}
use Rattle.c65_genexpr.specs.Elements.{sum_element, element_of, element_at, element_or, loaded_element, element_byte_code}
use Rattle.c65_genexpr.specs.Lows.{is_number, byte_in, low_operand, low_operand_or, behind_pointer, low_load_by}
use Rattle.c65_gendirect.specs.Words.{first_byte_code}
use Rattle.c65_genload.specs.declared.places.Extent.TheVariants.{One as one_byte}
use Rattle.c65_genfield.specs.Bits.{byte_field}
use Rattle.c65_genexpr.specs.Code.{width_in, tested_load, load_by, behind_open, compound, call_by, expr_code, node_code, base_code, pointer_base_code, low_value_code, index_code, sum_index_code, args_code}
use Rattle.c65_gen_law_lines.specs.Stack.{waiting_by, taken, left, waits, argument_bytes, passed, unless_named, calls_of, node_calls, args_calls}
use Rattle.c65_gen_law_lines.proofs.Made.{is_plain, piece_append}
use Rattle.c65_gen_law_lines.proofs.Pieces.{narrow_piece, keep_piece, byte_behind_piece, word_behind_piece, read_bytes_piece, byte_through_piece, word_through_piece, symbol_piece, offset_piece, object_piece, conversion_piece, push_piece, argument_piece, hold_piece, part_piece, store_piece, copy_piece, spill_piece, further_piece, unary_piece, between_piece, behind_piece, wide_piece, open_piece, close_piece, named_piece, pointer_piece, direct_piece}
use Rattle.c65_gen_law_lines.proofs.Leaves.{waits_append, Leaves, leaves_then, leaves_none, Still}
use Rattle.c65_gen_law_lines.proofs.StackPieces.{narrow_still, keep_still, byte_behind_still, word_behind_still, read_bytes_still, byte_through_still, word_through_still, object_still, further_still, offset_still, conversion_still, push_leaves, argument_leaves, holding, hold_leaves, bytes_still, stored_leaves, copy_leaves, spill_still, unary_still, between_leaves, behind_leaves, wide_leaves, open_leaves, close_leaves}
use Rattle.c65_gen_law_lines.proofs.Pointed.{arrived_piece, arrived_still, fetch_piece, fetch_still, behind_pointer_piece, behind_pointer_still}
use Rattle.c65_gen_law_lines.proofs.Drops.{Unstored, storing_calls, sum_calls, low_left, low_right}
use Rattle.c65_gen_law_lines.proofs.StackLaws.{nothing_more}
use Rattle.c65_gen_law_stack.proofs.Levels.{Level, Nowhere, level_then, level_end, level_behind, level_plain, level_piece, level_none, Closed, closed_open, closed_then, closed_behind, closed_as}
use Rattle.c65_gen_law_stack.proofs.EvenLines.{Labels, No, One, Both, At, Even, even_end, even_label, even_jump, even_lines}
use Rattle.c65_gen_law_stack.proofs.EvenShifts.{elements_even}
use Rattle.c65_gen_law_stack.proofs.EvenDirects.{byte_even, first_even, compare_even, compare_byte_even, zero_test_even, truth_even}
use Rattle.c65_gen_law_stack.proofs.EvenForms.{loaded_test_even, Aim, value_test_even, routine_test_even, constant_even, keep_even, form_even, end_even}
use Rattle.c65_gen_law_stack.proofs.EvenElements.{keep_byte_even, element_value_even, element_test_even, element_byte_even}
use Rattle.c65_gen_law_lines.proofs.Elements.{sum_indexes, onward_from, element_from, byte_idle, low_reads}
use Rattle.c65_gen_law_stack.proofs.StepLevels.{step_level}
use Rattle.c65_gen_law_stack.proofs.ReadSides.{Reaches, direct_reached, First, Compared, compared_reached, or_held_reached, tested_reached, Operated, operating_reached}

-- a piece of lines behind closed ones, and before
behind : {cs : List (List ℕ)} {v u t : List ℕ} {a b : List Line} → Closed cs v a u → Leaves u b t → list_all is_plain b ≡ true → Closed cs v (a ++ b) t
behind p q plain = closed_behind p (level_piece q plain)

before : {cs : List (List ℕ)} {v u t : List ℕ} {a b : List Line} → Leaves v a u → list_all is_plain a ≡ true → Closed cs u b t → Closed cs v (a ++ b) t
before p plain q = closed_then (level_piece p plain) q

-- ---- operands that are read where they lie

no_calls : (f : Framed) → Reaches (λ e. calls_of f e ≡ [])
no_calls f = record {
  constant = λ t z. refl;
  null = λ t. refl;
  literal = λ t n. refl;
  object = λ t i. refl;
  func = λ t i. refl;
  deref = λ t e h. h;
  member = λ t e m h. h;
  load = λ t e h. h;
  address = λ t e h. h;
  decay = λ t e h. h;
  convert = λ t e h. h;
}

target_level : {v : List ℕ} {code : List Line} (p : Place) → Closed [] v code v → Closed [] v (target_code p code) v
target_level (places.Far at) d = d
target_level (places.Bank b) d = level_none
target_level (places.Near at) d = level_none
target_level (places.Data s at) d = level_none

-- the calls of one operand alone, where the other has none
pub left_calls : (cs ds : List (List ℕ)) → ds ≡ [] → cs ≡ cs ++ ds
left_calls cs ds h = sym (nothing_more cs) ∙ ap (λ (x : List (List ℕ)). cs ++ x) (sym h)

pub right_calls : (cs ds : List (List ℕ)) → cs ≡ [] → ds ≡ cs ++ ds
right_calls cs ds h = ap (λ (x : List (List ℕ)). x ++ ds) (sym h)

-- ---- calls

same_taken : (n : ℕ) (x y : Option (List ℕ)) → (if n == n then x else y) ≡ x
same_taken n x y = ap (λ b. if b then x else y) (eq-eqb n n refl)

taken_all : (ns v : List ℕ) → taken ns (ns ++ v) ≡ Some v
taken_all [] v = refl
taken_all (n ∷ ns) v = same_taken n (taken ns (ns ++ v)) None ∙ taken_all ns v

append_assoc : (xs ys zs : List ℕ) → (xs ++ ys) ++ zs ≡ xs ++ (ys ++ zs)
append_assoc [] ys zs = refl
append_assoc (x ∷ xs) ys zs = ap (λ l. x ∷ l) (append_assoc xs ys zs)

-- lines that lead from some values to others by these calls
record Does (cs : List (List ℕ)) (v : List ℕ) (a : List Line) (u : List ℕ) : Type 0 where
  to : (rest : List (List ℕ)) → waits (Some (waiting_by v (cs ++ rest))) a ≡ Some (waiting_by u rest)

does_behind : {cs : List (List ℕ)} {v u t : List ℕ} {a b : List Line} → Does cs v a u → Leaves u b t → Does cs v (a ++ b) t
does_behind {cs = cs} {v = v} {a = a} {b = b} p q = record { to = λ rest. waits_append a b (Some (waiting_by v (cs ++ rest))) ∙ (ap (λ w. waits w b) (p.to rest) ∙ q.to rest) }

does_before : {cs : List (List ℕ)} {v u t : List ℕ} {a b : List Line} → Leaves v a u → Does cs u b t → Does cs v (a ++ b) t
does_before {cs = cs} {v = v} {a = a} {b = b} p q = record { to = λ rest. waits_append a b (Some (waiting_by v (cs ++ rest))) ∙ (ap (λ w. waits w b) (p.to (cs ++ rest)) ∙ q.to rest) }

count_still : (counted : Bool) (p : Passed) → Still (count_code counted p)
count_still true p v = record { to = λ calls. refl }
count_still false p v = leaves_none

result_still : (given : Outcome) → Still (result_code given)
result_still Nothing v = leaves_none
result_still (Number kind) v = narrow_still kind v
result_still (Area bytes) v = leaves_none

named_does : (f : Framed) (i : ℕ) (l : Option Library) (counted : Bool) (p : Passed) (given : Outcome) (ns v : List ℕ) → Does (ns ∷ []) (ns ++ v) (named_by f i l counted p given) v
named_does f i None counted p given ns v =
    let line : Line = Call (Function (function_symbol (numbers_of f.parts) i) (reads_of counted p) (registers (given_bytes given))) in
    let one : Does (ns ∷ []) (ns ++ v) (line ∷ []) v = record { to = λ rest. ap (left rest) (taken_all ns v) } in
    does_before (count_still counted p (ns ++ v)) (does_behind one (result_still given v))
named_does f i (Some l) counted p given ns v =
    let line : Line = Call (Routine (library_routine l)) in
    let one : Does (ns ∷ []) (ns ++ v) (line ∷ []) v = record { to = λ rest. ap (left rest) (taken_all ns v) } in
    does_before (count_still counted p (ns ++ v)) (does_behind one (result_still given v))

pointer_does : (counted : Bool) (p : Passed) (given : Outcome) (ns v : List ℕ) → Does (ns ∷ []) (ns ++ 2 ∷ v) (pointer_code counted p given) v
pointer_does counted p given ns v =
    let line : Line = Call (Pointer (reads_of counted p) (registers (given_bytes given))) in
    let one : Does (ns ∷ []) (ns ++ 2 ∷ v) (line ∷ []) (2 ∷ v) = record { to = λ rest. ap (left rest) (taken_all ns (2 ∷ v)) } in
    let two : Leaves (2 ∷ v) (Call (Routine (IncSp two_bytes)) ∷ []) v = record { to = λ calls. refl } in
    let fetch : Leaves (ns ++ 2 ∷ v) (fetch_code p) (ns ++ 2 ∷ v) = record { to = λ calls. refl } in
    does_before fetch (does_before (count_still counted p (ns ++ 2 ∷ v)) (does_behind one (leaves_then two (result_still given v))))

direct_does : (counted : Bool) (p : Passed) (given : Outcome) (v : List ℕ) → Does ([] ∷ []) v (direct_code counted p given) v
direct_does counted p given v =
    let line : Line = Call (Pointer (reads_of counted p) (registers (given_bytes given))) in
    let one : Does ([] ∷ []) v (line ∷ []) v = record { to = λ rest. ap (left rest) (taken_all [] v) } in
    let stored : Leaves v ptr4_code v = record { to = λ calls. refl } in
    does_before stored (does_before (count_still counted p v) (does_behind one (result_still given v)))

call_level : {cs : List (List ℕ)} {v : List ℕ} {callee args above : List Line} (f : Framed) (n : Option ℕ) (given : Outcome) (g : Typed) (es : Nodes) → Closed cs v callee v → Closed (args_calls f es) v args (passed f (is_fast (bare g)) es ++ v)
    → Closed (args_calls f es) (2 ∷ v) above (passed f (is_fast (bare g)) es ++ 2 ∷ v) → Closed (unless_named n cs ++ (args_calls f es ++ passed f (is_fast (bare g)) es ∷ [])) v (call_by f n given g es callee args above) v
call_level {v = v} f (Some i) given g es dc da db =
    let ns : List ℕ = passed f (is_fast (bare g)) es in
    let p : Passed = passed_of f (is_fast (bare g)) es in
    let does : Does (ns ∷ []) (ns ++ v) (named_code f i (is_counted (bare g)) p given) v = named_does f i (library_at f i) (is_counted (bare g)) p given ns v in
    closed_then da (level_plain does.to (named_piece f i (is_counted (bare g)) p given).plain)
call_level {v = v} f None given g none dc da db =
    let p : Passed = passed_of f (is_fast (bare g)) none in
    let does : Does ([] ∷ []) v (direct_code (is_counted (bare g)) p given) v = direct_does (is_counted (bare g)) p given v in
    closed_then dc (level_plain does.to (direct_piece (is_counted (bare g)) p given).plain)
call_level {v = v} f None given g (some e rest) dc da db =
    let es : Nodes = some e rest in
    let ns : List ℕ = passed f (is_fast (bare g)) es in
    let p : Passed = passed_of f (is_fast (bare g)) es in
    let does : Does (ns ∷ []) (ns ++ 2 ∷ v) (pointer_code (is_counted (bare g)) p given) v = pointer_does (is_counted (bare g)) p given ns v in
    closed_then dc (before (push_leaves Ax v) (push_piece Ax).plain (closed_then db (level_plain does.to (pointer_piece (is_counted (bare g)) p given).plain)))

-- ---- what is wanted

-- lines with these calls, before and behind which the same values wait, and which lead elsewhere to these labels alone, where they wait
abbrev pub Leading : Labels → List (List ℕ) → List ℕ → List Line → Type 0
Leading X cs v a = Level Nowhere (At X v) cs v a v

abbrev pub Aimed : Wanted → List (List ℕ) → List ℕ → List Line → Type 0
Aimed w cs v a = Leading (Aim w) cs v a

leading_closed : {X : Labels} {cs : List (List ℕ)} {v : List ℕ} {a : List Line} → Closed cs v a v → Leading X cs v a
leading_closed p = closed_open p

pub closed_value : {cs : List (List ℕ)} {v : List ℕ} {a : List Line} → Leading No cs v a → Closed cs v a v
closed_value p = level_end p (λ l h z. z) (λ l h z. inr z.0)

leading_even : {X : Labels} {v : List ℕ} {a : List Line} → Even No X a → Leading X [] v a
leading_even {v = v} e = level_end (e.level v) (λ l h z. absurd z) (λ l h z. inr z)

leading_then : {X : Labels} {cs ds : List (List ℕ)} {v : List ℕ} {a b : List Line} → Leading X cs v a → Leading X ds v b → Leading X (cs ++ ds) v (a ++ b)
leading_then p q = level_end (level_then p q) (λ l h z. absurd z) (λ l h z. inr z)

leading_behind : {X : Labels} {cs : List (List ℕ)} {v : List ℕ} {a b : List Line} → Leading X cs v a → Even No X b → Leading X cs v (a ++ b)
leading_behind {v = v} p e = level_end (level_behind p (e.level v)) (λ l h z. absurd z) (λ l h z. inr z)

leading_as : {X : Labels} {cs ds : List (List ℕ)} {v : List ℕ} {a : List Line} → cs ≡ ds → Leading X cs v a → Leading X ds v a
leading_as {X = X} {v = v} {a = a} e p = subst (λ (x : List (List ℕ)). Leading X x v a) e p

leading_wider : {X Y : Labels} {cs : List (List ℕ)} {v : List ℕ} {a : List Line} → ((l : ℕ) → X l → Y l) → Leading X cs v a → Leading Y cs v a
leading_wider wider p = level_end p (λ l h z. z) (λ l h z. inr (wider l z.0, z.1))

-- a label behind lines that lead to it
leading_close : {X : Labels} {cs : List (List ℕ)} {v : List ℕ} {a : List Line} (m : ℕ) → Leading (Both (One m) X) cs v a → Leading X cs v (a ++ Label m ∷ [])
leading_close {v = v} m p =
    level_end (level_behind p ((even_label m).level v)) (λ l h z. absurd z) (λ l h z. elim z.0 [ inl x ↦ inl (inr (x, z.1)) | inr y ↦ inr (y, z.1) ])

leading_labelled : {X : Labels} {cs : List (List ℕ)} {v : List ℕ} {a : List Line} (m : ℕ) → Leading X cs v a → Leading X cs v (labelled m a)
leading_labelled m p = leading_close m (leading_wider (λ l z. inr z) p)

wanted_level : {cs : List (List ℕ)} {v : List ℕ} {a : List Line} (w : Wanted) (width : Width) → Closed cs v a v → Aimed w cs v (wanted w width a)
wanted_level Value width d = leading_closed d
wanted_level (Test to s) width d = leading_behind (leading_closed d) (value_test_even width s to refl)

-- a truth value, from a test that leads to its first label
truth_level : {cs : List (List ℕ)} {v : List ℕ} {a : List Line} (w : Wanted) (fresh : ℕ) → Leading (One (aimed w fresh)) cs v a → Aimed w cs v (truth_by w fresh a)
truth_level {v = v} Value fresh p =
    let last : Even (One fresh) (One fresh) _ = even_end (truth_even fresh) (λ l z. z) (λ l z. absurd z) in
    level_end (level_behind p (last.level v)) (λ l h z. absurd z) (λ l h z. inl (inr z))
truth_level (Test to s) fresh p = p

-- `&&` and `||`
joined_level : {cs ds : List (List ℕ)} {v : List ℕ} {a b : List Line} (straight : Bool) (to m : ℕ) → Leading (One (way straight to m)) cs v a → Leading (One to) ds v b → Leading (One to) (cs ++ ds) v (joined straight m a b)
joined_level true to m da db = leading_then da (leading_behind db (even_lines [] refl))
joined_level {v = v} false to m da db =
    let first = leading_wider {Y = Both (One m) (One to)} (λ l z. inl z) da in
    let second = leading_wider {Y = Both (One m) (One to)} (λ l z. inr z) db in
    level_end (level_then first (level_behind second ((even_label m).level v))) (λ l h z. absurd z) (λ l h z. elim z.0 [ inl x ↦ inl (inr (inr (x, z.1))) | inr y ↦ inr (y, z.1) ])

choice_level : {bs cs ds : List (List ℕ)} {v : List ℕ} {c a b : List Line} (j k : ℕ) → Leading (One j) bs v c → Closed cs v a v → Closed ds v b v
    → Closed (bs ++ (cs ++ ds)) v (c ++ (a ++ (Do Jmp Absolute (To k) ∷ Label j ∷ (b ++ Label k ∷ [])))) v
choice_level {v = v} j k dc da db =
    let test = leading_wider {Y = Both (One j) (One k)} (λ l z. inl z) dc in
    let over = leading_even {X = Both (One j) (One k)} {v = v} (even_jump k (inr refl)) in
    level_end (level_then test (level_then (closed_open da) (level_then over (level_then ((even_label j).level v) (level_behind (closed_open db) ((even_label k).level v))))))
    (λ l h z. absurd z)
    (λ l h z. elim z.0 [ inl x ↦ inl (inr (inr (inr (inl (x, z.1))))) | inr y ↦ inl (inr (inr (inr (inr (inr (y, z.1)))))) ])

-- a value that is tested where it lies, or when it is loaded
tested_level : {cs : List (List ℕ)} {v : List ℕ} {base test : List Line} (o : Option Direct) (kind : IntType) (s : Bool) (to : ℕ) → Closed cs v base v → Even No (One to) test → Leading (One to) cs v (tested_load o kind s to base test)
tested_level (Some d) kind s to pb p = leading_behind (leading_closed pb) (zero_test_even (own_bytes d (extent_of kind)) s to refl)
tested_level None kind s to pb p = leading_behind (leading_closed pb) p

load_level : {cs : List (List ℕ)} {v : List ℕ} {a : List Line} (w : Wanted) (place : Place) (access : Access) → Closed cs v a v → Aimed w cs v (load_by w place access a)
load_level {v = v} Value place access p = leading_closed (behind p (fetch_still place access v) (fetch_piece place access).plain)
load_level (Test to s) place access p = tested_level (kept_at place access) (type_at access) s to p (loaded_test_even (byte_field access) place access s to refl)

converted_level : {cs : List (List ℕ)} {v : List ℕ} {a : List Line} (t : Ty) (from : IntType) → Closed cs v a v → Closed cs v (conversion_by Value true t from a) v
converted_level {v = v} t from p = behind p (conversion_still t from v) (conversion_piece t from).plain

conversion_level : {cs : List (List ℕ)} {v : List ℕ} {a : List Line} (w : Wanted) (same : Bool) (t : Ty) (from : IntType) → Aimed (handed same w) cs v a → Aimed w cs v (conversion_by w same t from a)
conversion_level Value same t from p = leading_closed (converted_level t from (closed_value p))
conversion_level (Test to s) true t from p = p
conversion_level (Test to s) false t from p = wanted_level (Test to s) (width_of (kind_of t)) (converted_level t from (closed_value p))

-- ---- operators

-- lines that leave what waits, as closed ones
pub shut : {a : List Line} → Even No No a → (v : List ℕ) → Closed [] v a v
shut e v = closed_value (leading_even e)

between_level : (operands : Operands) (v : List ℕ) → Closed [] v (between_code operands) (waiting (width_of (computes operands)) ∷ v)
between_level operands v = level_piece (between_leaves operands v) (between_piece operands).plain

waiting_level : (operands : Operands) (v : List ℕ) → Closed [] v (waiting_code operands) (waiting (width_of (computes operands)) ∷ v)
waiting_level (Numbers kind) v = between_level (Numbers kind) v
waiting_level (PointerFirst size) v = between_level (PointerFirst size) v
waiting_level (PointerLast size) v = closed_behind (shut (elements_even size) v) (level_piece (push_leaves Ax v) (push_piece Ax).plain)
waiting_level (Pointers size) v = between_level (Pointers size) v

behind_level : (op : BinaryOp) (operands : Operands) (right : IntType) (v : List ℕ) → Closed [] (waiting (width_of (computes operands)) ∷ v) (behind_code op operands right) v
behind_level op operands right v = level_piece (behind_leaves op operands right v) (behind_piece op operands right).plain

stacked_level : (op : BinaryOp) (operands : Operands) (right : IntType) (v : List ℕ) → Closed [] (waiting (width_of (computes operands)) ∷ v) (stacked_code op operands right) v
stacked_level op (Numbers kind) right v = behind_level op (Numbers kind) right v
stacked_level op (PointerFirst size) right v = closed_then (shut (elements_even size) (2 ∷ v)) (level_piece (wide_leaves op UInt v) (wide_piece op UInt).plain)
stacked_level op (PointerLast size) right v = behind_level op (PointerLast size) right v
stacked_level op (Pointers size) right v = behind_level op (Pointers size) right v

operator_level : {cs ds : List (List ℕ)} {v : List ℕ} {a b : List Line} (d : Destination) (how : Operating) (op : BinaryOp) (operands : Operands) (right : IntType) (label : ℕ) → Operated (cs ≡ []) (ds ≡ []) how → ((u : List ℕ) → Closed cs u a u) → ((u : List ℕ) → Closed ds u b u)
    → Closed (cs ++ ds) v (operator_by d how op operands right label a b) v
operator_level {cs = cs} {ds = ds} {v = v} d (operating.Left form) op operands right label empty da db = closed_as (left_calls cs ds empty) (closed_value (leading_behind (leading_closed (da v)) (form_even d form label)))
operator_level {cs = cs} {ds = ds} {v = v} d (operating.Right form) op operands right label empty da db = closed_as (right_calls cs ds empty) (closed_value (leading_behind (leading_closed (db v)) (form_even d form label)))
operator_level {v = v} d (operating.Held form) op operands right label empty da db =
    closed_value (leading_then (leading_closed (da v)) (leading_then (leading_even keep_even) (leading_behind (leading_closed (db v)) (form_even d form label))))
operator_level {v = v} d operating.Stacked op operands right label empty da db =
    closed_then (da v) (closed_then (waiting_level operands v) (closed_behind (db (waiting (width_of (computes operands)) ∷ v)) (closed_then (stacked_level op operands right v) (shut (end_even d label) v))))

-- ---- comparisons

-- the lines of one side
side_level : {cs ds : List (List ℕ)} {v : List ℕ} {a b : List Line} (side : Side) → First side (ds ≡ []) (cs ≡ []) → Closed cs v a v → Closed ds v b v → Closed (cs ++ ds) v (on side a b) v
side_level {cs = cs} {ds = ds} Left empty da db = closed_as (left_calls cs ds empty) da
side_level {cs = cs} {ds = ds} Right empty da db = closed_as (right_calls cs ds empty) db

-- or the low byte of it, where it lies
low_level : {cs ds : List (List ℕ)} {v : List ℕ} {a b : List Line} (side : Side) (low : Option OperandByte) → First side (ds ≡ []) (cs ≡ []) → (IsSome low → First side (cs ≡ []) (ds ≡ [])) → Closed cs v a v → Closed ds v b v
    → Closed (cs ++ ds) v (low_code low (on side a b)) v
low_level side None empty own da db = side_level side empty da db
low_level {cs = cs} {ds = ds} {v = v} Left (Some d) empty own da db = closed_as (sym (own refl) ∙ left_calls cs ds empty) (shut (byte_even Lda d refl) v)
low_level {cs = cs} {ds = ds} {v = v} Right (Some d) empty own da db = closed_as (sym (own refl) ∙ right_calls cs ds empty) (shut (byte_even Lda d refl) v)

plain_comparison_level : {cs ds : List (List ℕ)} {v : List ℕ} {a b : List Line} (how : Comparing) (op : BinaryOp) (operands : Operands) (right : IntType) (s : Bool) (to m : ℕ) → Compared (cs ≡ []) (ds ≡ []) how → ((u : List ℕ) → Closed cs u a u) → ((u : List ℕ) → Closed ds u b u)
    → Leading (One to) (cs ++ ds) v (comparison_by how op operands right s to m a b)
plain_comparison_level {v = v} (Truth side) op operands right s to m given da db = leading_labelled m (leading_closed (side_level side given (da v) (db v)))
plain_comparison_level {v = v} (Byte side low r d) op operands right s to m given da db = leading_labelled m (leading_behind (leading_closed (low_level side low given.0 given.1 (da v) (db v))) (compare_byte_even r d to refl))
plain_comparison_level {v = v} (Whole side r is_signed sides) op operands right s to m given da db = leading_behind (leading_closed (side_level side given (da v) (db v))) (compare_even r is_signed sides m to refl)
plain_comparison_level {v = v} (Held r is_signed) op operands right s to m given da db =
    leading_then (leading_closed (da v)) (leading_then (leading_even keep_even) (leading_behind (leading_closed (db v)) (compare_even r is_signed (Word held_low held_high) m to refl)))
plain_comparison_level {v = v} (HeldByte r) op operands right s to m given da db =
    leading_labelled m (leading_then (leading_closed (da v)) (leading_then (leading_even keep_byte_even) (leading_behind (leading_closed (db v)) (compare_byte_even r held_low to refl))))
plain_comparison_level {v = v} Stacked op operands right s to m given da db =
    let w : ℕ = waiting (width_of (computes operands)) in
    let test : Leading (One to) [] v (implied Tay ∷ branch_code s to) = leading_even (routine_test_even s to refl) in
    let end = level_end {Q = Nowhere} {Y = At (One to) v} (level_then (closed_open (behind_level op operands right v)) test) (λ l h z. absurd z) (λ l h z. inr z) in
    let right_side = level_end {Q = Nowhere} {Y = At (One to) v} (level_behind (closed_open (db (w ∷ v))) end) (λ l h z. absurd z) (λ l h z. inr z) in
    let push = level_end {Q = Nowhere} {Y = At (One to) v} (level_then (closed_open (between_level operands v)) right_side) (λ l h z. absurd z) (λ l h z. inr z) in
    leading_labelled m (level_end (level_then (closed_open (da v)) push) (λ l h z. absurd z) (λ l h z. inr z))

comparison_level : {cs ds : List (List ℕ)} {v : List ℕ} {a b : List Line} (x y : Option Bool) (how : Comparing) (op : BinaryOp) (operands : Operands) (right : IntType) (s : Bool) (to m : ℕ) → (is_some x ≡ true → ds ≡ []) → (is_some y ≡ true → cs ≡ []) → Compared (cs ≡ []) (ds ≡ []) how
    → ((u : List ℕ) → Aimed (wanted_by x to) cs u a) → ((u : List ℕ) → Aimed (wanted_by y to) ds u b)
    → Leading (One to) (cs ++ ds) v (comparison_by (if is_some x then Truth Left else (if is_some y then Truth Right else how)) op operands right s to m a b)
comparison_level {cs = cs} {ds = ds} {v = v} (Some x) y how op operands right s to m first second given da db = leading_labelled m (leading_as (left_calls cs ds (first refl)) (da v))
comparison_level {cs = cs} {ds = ds} {v = v} None (Some y) how op operands right s to m first second given da db = leading_labelled m (leading_as (right_calls cs ds (second refl)) (db v))
comparison_level None None how op operands right s to m first second given da db = plain_comparison_level how op operands right s to m given (λ u. closed_value (da u)) (λ u. closed_value (db u))

-- a side, or the low byte of it
low_side : {cs : List (List ℕ)} {v : List ℕ} {low whole : List Line} (x : Option Bool) (to : ℕ) (b : Bool) → (b ≡ true → x ≡ None) → Closed cs v low v → Aimed (wanted_by x to) cs v whole → Aimed (wanted_by x to) cs v (if b then low else whole)
low_side {cs = cs} {v = v} {low = low} x to true plain dl dw = subst (λ (y : Option Bool). Aimed (wanted_by y to) cs v low) (sym (plain refl)) (leading_closed dl)
low_side x to false plain dl dw = dw

relation_level : (w : Wanted) {cs : List (List ℕ)} {v : List ℕ} (o : Option Relation) {other : List Line} {f : Relation → List Line} → Aimed w cs v other → ((r : Relation) → Aimed w cs v (f r)) → Aimed w cs v (by_relation o other f)
relation_level w None p q = p
relation_level w (Some r) p q = q r

-- ---- assignments

assigned_level : {cs ds : List (List ℕ)} {v : List ℕ} {a b : List Line} (how : Storing) (place : Place) (access : Access) → Unstored how (cs ≡ []) (ds ≡ []) → ((u : List ℕ) → Closed cs u a u) → ((u : List ℕ) → Closed ds u b u)
    → Closed (cs ++ ds) v (assigned_by how place access a b) v
assigned_level {cs = cs} {ds = ds} {v = v} (storing.Left at stored) place access unread da db =
    closed_as (left_calls cs ds unread) (behind (da v) (leaves_then (read_bytes_still at stored v) (narrow_still (type_at access) v)) (piece_append 18 3 _ _ (read_bytes_piece at stored) (narrow_piece (type_at access))).plain)
assigned_level {cs = cs} {ds = ds} {v = v} (storing.RightByte at low high) place access unread da db =
    closed_as (right_calls cs ds unread) (behind (db v) (leaves_then (byte_through_still at low high v) (narrow_still (type_at access) v)) (piece_append 22 3 _ _ (byte_through_piece at low high) (narrow_piece (type_at access))).plain)
assigned_level {cs = cs} {ds = ds} {v = v} (storing.RightWord at low high) place access unread da db = closed_as (right_calls cs ds unread) (behind (db v) (word_through_still at low high v) (word_through_piece at low high).plain)
assigned_level {v = v} (storing.HeldByte at) place access unread da db =
    closed_then (da v) (before (keep_still v) keep_piece.plain (behind (db v) (leaves_then (byte_behind_still at v) (narrow_still (type_at access) v)) (piece_append 4 3 _ _ (byte_behind_piece at) (narrow_piece (type_at access))).plain))
assigned_level {v = v} (storing.HeldWord at) place access unread da db =
    closed_then (da v) (before (keep_still v) keep_piece.plain (behind (db v) (word_behind_still at v) (word_behind_piece at).plain))
assigned_level {v = v} storing.Stacked place access unread da db =
    closed_then (da v) (before (hold_leaves place v) (hold_piece place).plain (behind (db (holding place v)) (stored_leaves place access v) (store_piece place access).plain))

-- ---- the bases of places

arrived_level : {cs : List (List ℕ)} {v : List ℕ} {a : List Line} (d : Destination) → Closed cs v a v → Closed cs v (a ++ arrived d) v
arrived_level {v = v} d p = behind p (arrived_still d v) (arrived_piece d).plain

either_level : {cs : List (List ℕ)} {v : List ℕ} {a b : List Line} (c : Bool) → Closed cs v a v → Closed cs v b v → Closed cs v (if c then a else b) v
either_level true da db = da
either_level false da db = db

pub label_level : {cs : List (List ℕ)} {v : List ℕ} {a : List Line} (m : ℕ) → Closed cs v a v → Closed cs v (Label m ∷ a) v
label_level {v = v} m d = level_end (level_then ((even_label {X = No} m).level v) (closed_open d)) (λ l h z. absurd z) (λ l h z. absurd z.0)

sum_level : {cs ds : List (List ℕ)} {v : List ℕ} {a b : List Line} (c : Bool) (m : ℕ) → (c ≡ true → ds ≡ []) → Closed cs v a v → Closed (cs ++ ds) v b v → Closed (cs ++ ds) v (if c then Label m ∷ a else b) v
sum_level {cs = cs} {ds = ds} true m quiet da db = closed_as (left_calls cs ds (quiet refl)) (label_level m da)
sum_level false m quiet da db = db

-- ---- elements and low bytes

element_load_level : {cs : List (List ℕ)} {v : List ℕ} {index : List Line} (w : Wanted) (x : Element × IntType) → Closed cs v index v → Aimed w cs v (loaded_element w x index)
element_load_level {v = v} Value x d = leading_closed (closed_behind d (shut (element_value_even x.0 x.1) v))
element_load_level (Test to s) x d = leading_behind (leading_closed d) (element_test_even x.0 x.1 s to refl)

element_level : {cs : List (List ℕ)} {v : List ℕ} {whole : List Line} (w : Wanted) (o : Option (Element × IntType)) (code : Element × IntType → List Line) → ((x : Element × IntType) → o ≡ Some x → Aimed w cs v (code x)) → Aimed w cs v whole → Aimed w cs v (element_or o code whole)
element_level w None code found other = other
element_level w (Some x) code found other = found x refl

low_by_level : {cs : List (List ℕ)} {v : List ℕ} {code : List Line} (o : Option OperandByte) → ((d : OperandByte) → o ≡ Some d → cs ≡ []) → Closed cs v code v → Closed cs v (low_code o code) v
low_by_level None quiet d = d
low_by_level {v = v} (Some byte) quiet d = closed_as (sym (quiet byte refl)) (shut (byte_even Lda byte refl) v)

low_operand_level : {cs : List (List ℕ)} {v : List ℕ} {whole : List Line} (o : Option OperandByte) (code : OperandByte → List Line) → ((d : OperandByte) → o ≡ Some d → Closed cs v (code d) v) → Closed cs v whole v → Closed cs v (low_operand_or o code whole) v
low_operand_level None code found other = other
low_operand_level (Some d) code found other = found d refl

low_load_level : {cs : List (List ℕ)} {v : List ℕ} {base other : List Line} (o : Option ℕ) → Closed cs v base v → Closed cs v other v → Closed cs v (low_load_by o base other) v
low_load_level None db d = d
low_load_level {v = v} (Some at) db d = behind db (behind_pointer_still at one_byte v) (behind_pointer_piece at one_byte).plain

-- ---- the whole tree

closed_to : {cs : List (List ℕ)} {v u t : List ℕ} {a : List Line} → u ≡ t → Closed cs v a u → Closed cs v a t
closed_to {cs = cs} {v = v} {a = a} e p = subst (λ (x : List ℕ). Closed cs v a x) e p

compound_level : {ds : List (List ℕ)} {left right : List Line} (f : Framed) (pushed : ℕ) (op : BinaryOp) (operands : Operands) (a b : Typed) (v : List ℕ) → Closed (calls_of f a) v left v
    → Closed ds (waiting (width_of (computes operands)) ∷ holding (place_of f pushed a) v) right (waiting (width_of (computes operands)) ∷ holding (place_of f pushed a) v) → Closed (calls_of f a ++ ds) v (compound f pushed op operands a b left right) v
compound_level f pushed op operands a b v da db =
    let place : Place = place_of f pushed a in
    let access : Access = access_of (types_of f.parts.types) a in
    closed_then da (before (open_leaves place access (computes operands) v) (open_piece place access (computes operands)).plain (behind db (close_leaves op operands (kind_in b) place access v) (close_piece op operands (kind_in b) place access).plain))

mutual
  pub expr_level : (f : Framed) (pushed lo : ℕ) (w : Wanted) (e : Typed) (v : List ℕ) → Aimed w (calls_of f e) v (expr_code f pushed lo w e)
  expr_level f pushed lo w (node t n) v = node_level f pushed lo w t n v

  -- of a value
  pub value_level : (f : Framed) (pushed lo : ℕ) (e : Typed) (v : List ℕ) → Closed (calls_of f e) v (expr_code f pushed lo Value e) v
  value_level f pushed lo (node t n) v = closed_value (node_level f pushed lo Value t n v)

  node_level : (f : Framed) (pushed lo : ℕ) (w : Wanted) (t : QTy) (n : Node) (v : List ℕ) → Aimed w (node_calls f n) v (node_code f pushed lo w t n)
  node_level f pushed lo w t (constant z) v = leading_even (constant_even w (width_in t) (residue_of z))
  node_level f pushed lo w t null v = leading_even (constant_even w Ax 0)
  node_level f pushed lo w t (literal n) v = wanted_level w (width_in t) (level_plain (λ rest. refl) (symbol_piece (literal_symbol (numbers_of f.parts) n) 0).plain)
  node_level f pushed lo w t (object i) v = wanted_level w (width_in t) (level_piece (object_still f pushed i v) (object_piece f pushed i).plain)
  node_level f pushed lo w t (func i) v = wanted_level w (width_in t) (level_plain (λ rest. refl) (symbol_piece (function_symbol (numbers_of f.parts) i) 0).plain)
  node_level f pushed lo w t (deref e) v = wanted_level w (width_in t) (value_level f pushed lo e v)
  node_level f pushed lo w t (member e m) v = wanted_level w (width_in t) (behind (value_level f pushed lo e v) (offset_still (offset_at (types_of f.parts.types) (bare e) m) v) (offset_piece (offset_at (types_of f.parts.types) (bare e) m)).plain)
  node_level f pushed lo w t (load e) v =
      let access : Access = access_of (types_of f.parts.types) e in
      element_level w (element_at f e) (λ x. loaded_element w x (index_code f pushed lo e)) (λ x h. element_load_level w x (element_from f e x (λ y found. index_level f pushed lo e y found v) h))
      (load_level w (place_of f pushed e) access (base_level f pushed lo (destination_of access) e v))
  node_level f pushed lo w t (address e) v = wanted_level w (width_in t) (value_level f pushed lo e v)
  node_level f pushed lo w t (decay e) v = wanted_level w (width_in t) (value_level f pushed lo e v)
  node_level f pushed lo w t (convert e) v =
      let same : Bool = same_truth (type_in t) (bare e) in
      conversion_level w same (type_in t) (kind_in e) (expr_level f pushed lo (handed same w) e v)
  node_level f pushed lo w t (unary unaries.Not e) v = truth_level w lo (expr_level f pushed (inner w lo) (Test (aimed w lo) (not (sense w))) e v)
  node_level f pushed lo w t (unary op e) v = wanted_level w (width_in t) (behind (value_level f pushed lo e v) (unary_still op (width_of (kind_in e)) v) (unary_piece op (width_of (kind_in e))).plain)
  node_level f pushed lo w t (binary op a b) v =
      let operands : Operands = operands_of f (bare a) (bare b) in
      let bytes : ℕ = waiting (width_of (computes operands)) in
      let operator : Operating = operating_of f pushed op operands a b in
      relation_level w (relation_of op)
      (wanted_level w (width_in t) (operator_level Registers operator op operands (kind_in b) lo (operating_reached (no_calls f) f pushed op operands a b) (value_level f pushed (lo + 1) a) (value_level f (below_operand operator pushed bytes) (lo + 1 + uses None a) b)))
      (λ r.
      let q : Relation = relation_by (sense w) r in
      let kind : IntType = computes operands in
      let how : Comparing = comparing_of f pushed q kind a b in
      let to : ℕ = aimed w lo in
      let own : ℕ = inner w lo in
      let below : ℕ = below_side how pushed bytes in
      let next : ℕ = own + 1 + uses (tested_by q b) a in
      let plain : Comparing = compared_by q (is_byte a && is_byte b) kind (is_pure b) (direct_of f pushed a) (direct_of f pushed b) in
      let compared : Comparing = or_held plain (held_by (is_light f pushed b) (is_byte a && is_byte b) (width_of kind) q kind) in
      let given : Compared (calls_of f a ≡ []) (calls_of f b ≡ []) compared = or_held_reached (calls_of f a ≡ []) (calls_of f b ≡ []) plain (is_light f pushed b) (is_byte a && is_byte b) (width_of kind) q kind (compared_reached (calls_of f a ≡ []) (calls_of f b ≡ []) q (is_byte a && is_byte b) kind (is_pure b) (direct_of f pushed a) (direct_of f pushed b) (direct_reached (no_calls f) f pushed a) (direct_reached (no_calls f) f pushed b)) in
      truth_level w lo (comparison_level (tested_by q b) (tested_by q a) compared op operands (kind_in b) (sense w) to own (tested_reached (no_calls f) q b) (tested_reached (no_calls f) q a) given
      (λ u. low_side (tested_by q b) to (takes_low how) (low_left f pushed q kind a b) (low_value_level f pushed (own + 1) a u) (expr_level f pushed (own + 1) (wanted_by (tested_by q b) to) a u))
      (λ u. low_side (tested_by q a) to (takes_low how) (low_right f pushed q kind a b) (low_value_level f below next b u) (expr_level f below next (wanted_by (tested_by q a) to) b u))))
  node_level f pushed lo w t (both a b) v =
      let straight : Bool = not (sense w) in
      let own : ℕ = inner w lo in
      let first : ℕ = own + way_labels straight in
      truth_level w lo (joined_level straight (aimed w lo) own (expr_level f pushed first (Test (way straight (aimed w lo) own) false) a v) (expr_level f pushed (first + uses (Some false) a) (Test (aimed w lo) (sense w)) b v))
  node_level f pushed lo w t (either a b) v =
      let straight : Bool = sense w in
      let own : ℕ = inner w lo in
      let first : ℕ = own + way_labels straight in
      truth_level w lo (joined_level straight (aimed w lo) own (expr_level f pushed first (Test (way straight (aimed w lo) own) true) a v) (expr_level f pushed (first + uses (Some true) a) (Test (aimed w lo) (sense w)) b v))
  node_level f pushed lo w t (choice c a b) v =
      let first : ℕ = lo + 2 + uses (Some false) c in
      wanted_level w (width_in t) (choice_level lo (lo + 1) (expr_level f pushed (lo + 2) (Test lo false) c v) (value_level f pushed first a v) (value_level f pushed (first + uses None a) b v))
  node_level f pushed lo w t (comma a b) v = leading_then (leading_closed (value_level f pushed lo a v)) (expr_level f pushed (lo + uses None a) w b v)
  node_level f pushed lo w t (assign a b) v =
      let place : Place = place_of f pushed a in
      let access : Access = access_of (types_of f.parts.types) a in
      let how : Storing = storing_of f pushed a b in
      wanted_level w (width_in t) (assigned_level how place access (storing_calls f pushed a b) (base_level f pushed lo (base_for how) a) (value_level f (below_value how pushed place) (lo + uses None a) b))
  node_level f pushed lo w t (assign_op op k a b) v = wanted_level w (width_in t) (compound_level f pushed op (Numbers k) a b v (base_level f pushed lo Registers a v) (value_level f (behind_open f pushed (Numbers k) a) (lo + uses None a) b (waiting (width_of k) ∷ holding (place_of f pushed a) v)))
  node_level f pushed lo w t (assign_step op a b) v =
      let operands : Operands = PointerFirst (target_bytes f (bare a)) in
      wanted_level w (width_in t) (compound_level f pushed op operands a b v (base_level f pushed lo Registers a v) (value_level f (behind_open f pushed operands a) (lo + uses None a) b (2 ∷ holding (place_of f pushed a) v)))
  node_level f pushed lo w t (step how e) v =
      let place : Place = place_of f pushed e in
      let access : Access = access_of (types_of f.parts.types) e in
      wanted_level w (width_in t) (closed_behind (base_level f pushed (lo + 1) Registers e v) (step_level how (target_bytes f (bare e)) (amount_of f how (bare e)) place access lo v))
  node_level f pushed lo w t (copy a b) v =
      wanted_level w (width_in t) (closed_then (value_level f pushed lo a v) (before (push_leaves Ax v) (push_piece Ax).plain (behind (value_level f (more pushed 2) (lo + uses None a) b (2 ∷ v)) (copy_leaves (type_bytes f (type_in t)) v) (copy_piece (type_bytes f (type_in t))).plain)))
  node_level f pushed lo w t (call g es) v =
      wanted_level w (width_in t) (call_level f (named g) (outcome_of f (type_in t)) g es (value_level f pushed lo g v) (args_level f pushed lo (is_fast (bare g)) es v) (args_level f (more pushed 2) (lo + uses None g) (is_fast (bare g)) es (2 ∷ v)))
  node_level f pushed lo w t (pack e) v =
      let place : Place = place_of f pushed e in
      let extent : Extent = extent_by (type_bytes f (type_in t)) in
      wanted_level w (width_in t) (behind (base_level f pushed lo Registers e v) (bytes_still place extent v) (part_piece place extent).plain)
  node_level f pushed lo w t (spill i e) v =
      let extent : Extent = extent_by (type_bytes f (type_in t)) in
      wanted_level w (width_in t) (behind (value_level f pushed lo e v) (spill_still (object_code f pushed i) extent (object_still f pushed i) v) (spill_piece (object_code f pushed i) extent (object_piece f pushed i)).plain)
  node_level f pushed lo w t further v = wanted_level w (width_in t) (level_piece (further_still f pushed v) (further_piece f pushed).plain)

  pub base_level : (f : Framed) (pushed lo : ℕ) (d : Destination) (e : Typed) (v : List ℕ) → Closed (calls_of f e) v (base_code f pushed lo d e) v
  base_level f pushed lo d (node t (literal n)) v = level_none
  base_level f pushed lo d (node t (object i)) v = target_level (object_place f pushed i) (arrived_level d (closed_value (node_level f pushed lo Value t (object i) v)))
  base_level f pushed lo d (node t (deref e)) v = pointer_base_level f pushed lo d e v
  base_level f pushed lo d (node t (member e m)) v =
      let n : ℕ = offset_at (types_of f.parts.types) (bare e) m in
      either_level (has_base (place_of f pushed e) n) (base_level f pushed lo d e v) (behind (value_level f pushed lo e v) (leaves_then (offset_still n v) (arrived_still d v)) (piece_append 9 4 _ _ (offset_piece n) (arrived_piece d)).plain)
  base_level f pushed lo d (node t n) v = arrived_level d (closed_value (node_level f pushed lo Value t n v))

  pointer_base_level : (f : Framed) (pushed lo : ℕ) (d : Destination) (e : Typed) (v : List ℕ) → Closed (calls_of f e) v (pointer_base_code f pushed lo d e) v
  pointer_base_level f pushed lo d (node t (binary op a b)) v =
      let operands : Operands = operands_of f (bare a) (bare b) in
      let place : Place = target_of f pushed a in
      let operator : Operating = operating_of f pushed op operands a b in
      sum_level (sum_has_base place (added_bytes op operands (constant_in b))) lo (λ h. sum_calls f place op operands b h) (pointer_base_level f pushed (lo + 1) d a v)
      (closed_value (relation_level Value (relation_of op)
      (leading_closed (operator_level d operator op operands (kind_in b) lo (operating_reached (no_calls f) f pushed op operands a b) (value_level f pushed (lo + 1) a) (value_level f (below_operand operator pushed (waiting (width_of (computes operands)))) (lo + 1 + uses None a) b)))
      (λ r. leading_closed (arrived_level d (closed_value (node_level f pushed lo Value t (binary op a b) v))))))
  pointer_base_level f pushed lo d (node t (address e)) v = base_level f pushed lo d e v
  pointer_base_level f pushed lo d (node t (decay e)) v = base_level f pushed lo d e v
  pointer_base_level f pushed lo d (node t n) v = arrived_level d (closed_value (node_level f pushed lo Value t n v))

  pub low_value_level : (f : Framed) (pushed lo : ℕ) (e : Typed) (v : List ℕ) → Closed (calls_of f e) v (low_value_code f pushed lo e) v
  low_value_level f pushed lo (node t (convert e)) v =
      low_by_level (byte_in f pushed (node t (convert e))) (λ d h. (byte_idle f pushed (node t (convert e)) d h).calls) (either_level (is_number (type_in t) && is_number (bare e)) (low_value_level f pushed lo e v) (closed_value (node_level f pushed lo Value t (convert e) v)))
  low_value_level f pushed lo (node t (binary op a b)) v =
      low_by_level (byte_in f pushed (node t (binary op a b))) (λ d h. (byte_idle f pushed (node t (binary op a b)) d h).calls)
      (low_operand_level (low_operand f pushed op a b) (λ d. Label lo ∷ (low_value_code f pushed (lo + 1) a ++ first_byte_code op d))
      (λ d h. closed_as (left_calls (calls_of f a) (calls_of f b) (low_reads f pushed op a b d h).right.calls) (label_level lo (closed_behind (low_value_level f pushed (lo + 1) a v) (shut (first_even op d) v))))
      (closed_value (node_level f pushed lo Value t (binary op a b) v)))
  low_value_level f pushed lo (node t (load e)) v =
      low_by_level (byte_in f pushed (node t (load e))) (λ d h. (byte_idle f pushed (node t (load e)) d h).calls)
      (closed_value (element_level Value (element_at f e) (λ x. index_code f pushed lo e ++ element_byte_code x.0)
      (λ x h. leading_closed (closed_behind (element_from f e x (λ y found. index_level f pushed lo e y found v) h) (shut (element_byte_even x.0) v)))
      (leading_closed (low_load_level (behind_pointer (place_of f pushed e) (access_of (types_of f.parts.types) e)) (base_level f pushed lo destinations.Pointer e v) (closed_value (node_level f pushed lo Value t (load e) v))))))
  low_value_level f pushed lo (node t n) v = low_by_level (byte_in f pushed (node t n)) (λ d h. (byte_idle f pushed (node t n) d h).calls) (closed_value (node_level f pushed lo Value t n v))

  pub index_level : (f : Framed) (pushed lo : ℕ) (e : Typed) (x : Element) → element_of f e ≡ Some x → (v : List ℕ) → Closed (calls_of f e) v (index_code f pushed lo e) v
  index_level f pushed lo (node t (deref e)) x h v = sum_index_level f pushed lo e x h v
  index_level f pushed lo (node t (member e m)) x h v = onward_from (offset_at (types_of f.parts.types) (bare e) m) (element_of f e) x (λ y found. index_level f pushed lo e y found v) h
  index_level f pushed lo (node t _) x h v = absurd cc

  sum_index_level : (f : Framed) (pushed lo : ℕ) (e : Typed) (x : Element) → sum_element f e ≡ Some x → (v : List ℕ) → Closed (calls_of f e) v (sum_index_code f pushed lo e) v
  sum_index_level f pushed lo (node t (binary op a b)) x h v = closed_as (right_calls (calls_of f a) (calls_of f b) (sum_indexes f t op a b x h).array.calls) (label_level lo (low_value_level f pushed (lo + 1) b v))
  sum_index_level f pushed lo (node t _) x h v = absurd cc

  args_level : (f : Framed) (pushed lo : ℕ) (fast : Bool) (es : Nodes) (v : List ℕ) → Closed (args_calls f es) v (args_code f pushed lo fast es) (passed f fast es ++ v)
  args_level f pushed lo fast none v = level_none
  args_level f pushed lo fast (some e es) v =
      let kept : Bool = stays fast es in
      let size : ℕ = passed_size f e in
      let own : List ℕ = argument_bytes kept size in
      let rest : Closed (args_calls f es) (own ++ v) (args_code f (more pushed (arguments.argument_bytes kept size)) (lo + uses None e) fast es) (passed f fast es ++ (own ++ v)) = args_level f (more pushed (arguments.argument_bytes kept size)) (lo + uses None e) fast es (own ++ v) in
      closed_to (sym (append_assoc (passed f fast es) own v)) (closed_then (value_level f pushed lo e v) (before (argument_leaves f kept e v) (argument_piece kept size).plain rest))
