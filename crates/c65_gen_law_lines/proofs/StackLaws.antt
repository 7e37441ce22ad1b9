-- An expression's lines leave what waits, and each call takes away what was passed to it.
use Rattle.std.proofs.Common.{◌≡◌, ℕ, ◌+◌, ◌%◌, ◌==◌, Bool, true, false, not, Option, None, Some, List, [], ◌∷◌, ◌++◌, refl, sym, ◌∙◌, ap, subst, arith}
use Rattle.std.specs.Prelude.{◌&&◌, if◌then◌else◌}
use Rattle.std.proofs.lemmas.Bool.{eq-eqb}
use Rattle.c65_base.specs.declared.operators.BinaryOp.{BinaryOp}
use Rattle.c65_base.specs.declared.operators.UnaryOp.{UnaryOp}
use Rattle.c65_base.specs.declared.operators.UnaryOp.TheVariants as unary_ops
use Rattle.c65_ints.specs.declared.types.IntType.{IntType}
use Rattle.c65_ctype.specs.Trees.{Ty, QTy, type_in}
use Rattle.c65_ctype.specs.Views.{types_of}
use Rattle.c65_base.specs.declared.library.Library.{Library}
use Rattle.c65_csem.specs.Trees.{Typed, node, Node, constant, null, literal, object, func, deref, member, load, address, decay, convert, unary, binary, both, either, choice, comma, assign, assign_op, assign_step, step, copy, call, pack, spill, rest as further, Nodes, none, some}
use Rattle.c65_mach.specs.declared.rows.Op.TheVariants.{Jmp, Tay}
use Rattle.c65_mach.specs.declared.rows.Mode.TheVariants.{Absolute}
use Rattle.c65_code.specs.declared.line.Operand.TheVariants.{To}
use Rattle.c65_code.specs.declared.line.Callee.TheVariants.{Routine, Function, Pointer}
use Rattle.c65_code.specs.declared.line.Line.{Line}
use Rattle.c65_code.specs.declared.line.Line.TheVariants.{Label, Do, Call}
use Rattle.c65_code.specs.declared.routine.Count.TheVariants.{Two as two_bytes}
use Rattle.c65_code.specs.declared.routine.Routine.TheVariants.{IncSp, Library as library_routine}
use Rattle.c65_code.specs.declared.routine.Width.{Width}
use Rattle.c65_code.specs.declared.routine.Width.TheVariants.{Ax}
use Rattle.c65_genframe.specs.Symbols.{numbers_of, function_symbol}
use Rattle.c65_genframe.specs.Frames.{Framed, type_bytes}
use Rattle.c65_genframe.specs.Registers.{registers}
use Rattle.c65_genwide.specs.Wide.{width_of}
use Rattle.c65_genload.specs.declared.places.Place.{Place}
use Rattle.c65_genload.specs.declared.places.Place.TheVariants as places
use Rattle.c65_genload.specs.declared.places.Access.{Access}
use Rattle.c65_genload.specs.declared.places.Access.TheVariants.{Whole, Part}
use Rattle.c65_genload.specs.declared.places.Extent.{Extent}
use Rattle.c65_genload.specs.declared.places.Extent.TheVariants.{One}
use Rattle.c65_genload.specs.Words.{implied}
use Rattle.c65_genload.specs.declared.places.Field.{Field}
use Rattle.c65_genload.specs.Places.{extent_by, extent_of}
use Rattle.c65_genload.specs.Places as loads
use Rattle.c65_genload.specs.Conversions.{waiting}
use Rattle.c65_gendirect.specs.declared.bytes.OperandByte.{OperandByte}
use Rattle.c65_gendirect.specs.declared.direct.Direct.{Direct}
use Rattle.c65_gendirect.specs.declared.compare.Sides.TheVariants.{Word}
use Rattle.c65_gendirect.specs.declared.relation.Relation.{Relation}
use Rattle.c65_gendirect.specs.Compare.{relation_of}
use Rattle.c65_genexpr.specs.declared.comparing.Side.TheVariants as side
use Rattle.c65_genexpr.specs.declared.comparing.Comparing.{Comparing}
use Rattle.c65_genexpr.specs.declared.comparing.Comparing.TheVariants as comparing
use Rattle.c65_genexpr.specs.declared.operating.Operating.{Operating}
use Rattle.c65_genexpr.specs.declared.operating.Operating.TheVariants as operating
use Rattle.c65_genexpr.specs.declared.storing.Storing.{Storing}
use Rattle.c65_genexpr.specs.declared.storing.Storing.TheVariants as storing
use Rattle.c65_genexpr.specs.declared.wanted.Wanted.{Wanted}
use Rattle.c65_genexpr.specs.declared.wanted.Wanted.TheVariants.{Value, Test}
use Rattle.c65_genexpr.specs.declared.destination.Destination.{Destination}
use Rattle.c65_genexpr.specs.declared.destination.Destination.TheVariants.{Registers}
use Rattle.c65_genexpr.specs.declared.destination.Destination.TheVariants as destinations
use Rattle.c65_genexpr.specs.declared.operands.Operands.{Operands}
use Rattle.c65_genexpr.specs.declared.operands.Operands.TheVariants.{Numbers, PointerFirst}
use Rattle.c65_genexpr.specs.declared.arguments.Passed.{Passed}
use Rattle.c65_genexpr.specs.declared.types.Outcome.{Outcome}
use Rattle.c65_genexpr.specs.declared.types.Outcome.TheVariants.{Nothing, Number, Area}
use Rattle.c65_genexpr.specs.Types.{kind_of, outcome_of, given_bytes, kind_in, bare, offset_at, access_of, target_bytes}
use Rattle.c65_genexpr.specs.Places.{more, has_base, added_bytes, sum_has_base, object_place, place_of, target_of, object_code, target_code}
use Rattle.c65_genexpr.specs.Operands.{residue_of, constant_in, operands_of, computes, unary_code, same_truth, conversion_by}
use Rattle.c65_genexpr.specs.Direct.{kept_at, own_bytes}
use Rattle.c65_genexpr.specs.declared.elements.Element.{Element}
use Rattle.c65_genexpr.specs.Elements.{sum_element, element_of, element_at, element_or, loaded_element, element_byte_code}
use Rattle.c65_genexpr.specs.Lows.{is_number, byte_in, low_operand, low_operand_or, behind_pointer, low_load_by}
use Rattle.c65_gendirect.specs.Words.{first_byte_code}
use Rattle.c65_genexpr.specs.Wanted.{decided_code, wanted_by, handed, branch_code, value_test_code, wanted, aimed, sense, inner, truth_by, is_straight, way, way_labels, joined as both_joined}
use Rattle.c65_genexpr.specs.Held.{held_low, held_high}
use Rattle.c65_genexpr.specs.Comparing.{relation_by, tested_by, comparing_of, takes_low, low_code, below_side, comparison_by}
use Rattle.c65_genexpr.specs.Operating.{operating_of, below_operand, operator_by}
use Rattle.c65_genexpr.specs.Destination.{arrived, destination_of, fetch_code as loaded_code}
use Rattle.c65_genexpr.specs.Storing.{storing_of, below_value, base_for, assigned_by}
use Rattle.c65_genexpr.specs.Steps.{amount_of}
use Rattle.c65_genexpr.specs.Arguments.{is_fast, is_counted, stays, passed_size, passed_of, reads_of}
use Rattle.c65_genexpr.specs.Arguments as arguments
use Rattle.c65_genexpr.specs.Calls.{named, count_code, fetch_code, result_code, library_at, named_by, pointer_code, direct_code, ptr4_code}
use Rattle.c65_genexpr.specs.Uses.{by_relation, uses}
use Rattle.c65_genfield.specs.Bits.{byte_field}
use Rattle.c65_genexpr.specs.Fields.{byte_test, number_test, loaded_test}
use Rattle.c65_genexpr.specs.Code.{width_in, constant_code, tested_load, load_by, behind_open, compound, call_by, expr_code, node_code, base_code, pointer_base_code, args_code, operator_code, comparison_code, low_value_code, index_code, sum_index_code}
use Rattle.c65_gen_law_lines.specs.Stack.{bytes_in, Waiting, waiting_by, taken, left, waits, argument_bytes, passed, unless_named, calls_of, node_calls, args_calls}
use Rattle.c65_gen_law_lines.specs.Laws.{ExpressionsKeepTheStack, CallsAreCounted}
use Rattle.c65_gen_law_lines.proofs.Directs.{loaded_quiet, first_quiet, compare_quiet, compare_byte_quiet, zero_test_quiet, truth_quiet}
use Rattle.c65_gen_law_lines.proofs.Drops.{IfRead, Unread, comparing_calls, Unstored, storing_calls, sum_calls, Unused, operating_calls}
use Rattle.c65_gen_law_lines.proofs.Forms.{form_quiet, waiting_leaves, stacked_leaves, keep_quiet, keep_byte_quiet}
use Rattle.c65_gen_law_lines.proofs.Elements.{sum_indexes, onward_from, element_from, byte_idle, low_reads, element_value_quiet, element_test_quiet, element_byte_quiet}
use Rattle.c65_gen_law_lines.proofs.Pointed.{arrived_still, behind_pointer_still, fetch_still}
use Rattle.c65_gen_law_lines.proofs.StepForms.{step_quiet}
use Rattle.c65_gen_law_lines.proofs.FieldForms.{own_bits_still}
use Rattle.c65_gen_law_lines.proofs.StackPieces.{keep_still, byte_behind_still, word_behind_still, waits_append, Leaves, leaves_then, leaves_none, leaves_if, Still, narrow_still, number_still, object_still, further_still, offset_still, conversion_still, push_leaves, argument_leaves, test_still, holding, hold_leaves, bytes_still, load_still, stored_leaves, read_bytes_still, byte_through_still, word_through_still, copy_leaves, spill_still, unary_still, between_leaves, behind_leaves, open_leaves, close_leaves}

-- lines lead from some values that wait to others by these calls
pub record Does (cs : List (List ℕ)) (v : List ℕ) (a : List Line) (u : List ℕ) : Type 0 where
  pub to : (rest : List (List ℕ)) → waits (Some (waiting_by v (cs ++ rest))) a ≡ Some (waiting_by u rest)

pub joined : (xs ys zs : List (List ℕ)) → (xs ++ ys) ++ zs ≡ xs ++ (ys ++ zs)
joined [] ys zs = refl
joined (x ∷ xs) ys zs = ap (λ l. x ∷ l) (joined xs ys zs)

pub does_leaves : {v u : List ℕ} {a : List Line} → Leaves v a u → Does [] v a u
does_leaves p = record { to = p.to }

pub does_then : {cs ds : List (List ℕ)} {v u t : List ℕ} {a b : List Line} → Does cs v a u → Does ds u b t → Does (cs ++ ds) v (a ++ b) t
does_then {cs = cs} {ds = ds} {v = v} {a = a} {b = b} p q = record {
  to = λ rest. ap (λ calls. waits (Some (waiting_by v calls)) (a ++ b)) (joined cs ds rest) ∙ (waits_append a b (Some (waiting_by v (cs ++ (ds ++ rest)))) ∙ (ap (λ w. waits w b) (p.to (ds ++ rest)) ∙ q.to rest));
}

pub does_behind : {cs : List (List ℕ)} {v u t : List ℕ} {a b : List Line} → Does cs v a u → Leaves u b t → Does cs v (a ++ b) t
does_behind {cs = cs} {v = v} {a = a} {b = b} p q = record { to = λ rest. waits_append a b (Some (waiting_by v (cs ++ rest))) ∙ (ap (λ w. waits w b) (p.to rest) ∙ q.to rest) }

pub does_before : {cs : List (List ℕ)} {v u t : List ℕ} {a b : List Line} → Leaves v a u → Does cs u b t → Does cs v (a ++ b) t
does_before {cs = cs} {v = v} {a = a} {b = b} p q = record { to = λ rest. waits_append a b (Some (waiting_by v (cs ++ rest))) ∙ (ap (λ w. waits w b) (p.to (cs ++ rest)) ∙ q.to rest) }

-- a label, a branch or a jump
pub does_line : {cs : List (List ℕ)} {v u : List ℕ} {a : List Line} (line : Line) → ((w : Waiting) → waits (Some w) (line ∷ []) ≡ Some w) → Does cs v a u → Does cs v (line ∷ a) u
does_line {cs = cs} {v = v} {a = a} line still p = record { to = λ rest. waits_append (line ∷ []) a (Some (waiting_by v (cs ++ rest))) ∙ (ap (λ w. waits w a) (still (waiting_by v (cs ++ rest))) ∙ p.to rest) }

does_none : {v : List ℕ} → Does [] v [] v
does_none = record { to = λ rest. refl }

pub does_as : {cs ds : List (List ℕ)} {v u : List ℕ} {a : List Line} → cs ≡ ds → Does cs v a u → Does ds v a u
does_as {v = v} {u = u} {a = a} e p = subst (λ (x : List (List ℕ)). Does x v a u) e p

pub nothing_more : (xs : List (List ℕ)) → xs ++ [] ≡ xs
nothing_more [] = refl
nothing_more (x ∷ xs) = ap (λ l. x ∷ l) (nothing_more xs)

-- ---- places that are known

target_does : {v : List ℕ} {code : List Line} (p : Place) → Does [] v code v → Does [] v (target_code p code) v
target_does (places.Far at) d = d
target_does (places.Bank b) d = does_none
target_does (places.Near at) d = does_none
target_does (places.Data s at) d = does_none

-- ---- values and tests

pub one_label : {v : List ℕ} (l : ℕ) → Leaves v (Label l ∷ []) v
one_label l = record { to = λ calls. refl }

wanted_does : {cs : List (List ℕ)} {v : List ℕ} {a : List Line} (w : Wanted) (width : Width) → Does cs v a v → Does cs v (wanted w width a) v
wanted_does Value width d = d
wanted_does {v = v} (Test to s) width d = does_behind d (leaves_then (test_still width v) (record { to = λ calls. refl }))

decided_leaves : (truth s : Bool) (to : ℕ) (v : List ℕ) → Leaves v (decided_code truth s to) v
decided_leaves true true to v = record { to = λ calls. refl }
decided_leaves false false to v = record { to = λ calls. refl }
decided_leaves true false to v = leaves_none
decided_leaves false true to v = leaves_none

constant_leaves : (w : Wanted) (width : Width) (n : ℕ) (v : List ℕ) → Leaves v (constant_code w width n) v
constant_leaves Value width n v = number_still width n v
constant_leaves (Test to s) width n v = decided_leaves (not (n == 0)) s to v

fetched_still : (place : Place) (kind : IntType) (s : Bool) (to : ℕ) → Still (loaded_code place (Whole kind) ++ value_test_code (width_of kind) s to)
fetched_still place kind s to v = leaves_then (fetch_still place (Whole kind) v) (leaves_then (test_still (width_of kind) v) (record { to = λ calls. refl }))

byte_still : (place : Place) (kind : IntType) (e : Extent) (s : Bool) (to : ℕ) → Still (byte_test place kind e s to)
byte_still (places.Far at) kind One s to v = leaves_then (behind_pointer_still at One v) (record { to = λ calls. refl })
byte_still place kind e s to v = fetched_still place kind s to v

number_test_still : (place : Place) (access : Access) (s : Bool) (to : ℕ) → Still (number_test place access s to)
number_test_still place (Whole kind) s to v = byte_still place kind (extent_of kind) s to v
number_test_still place (Part field) s to v = leaves_then (load_still place (Part field) v) (leaves_then (test_still (width_of field.kind) v) (record { to = λ calls. refl }))

test_still_by : (field : Option Field) (place : Place) (access : Access) (s : Bool) (to : ℕ) → Still (loaded_test field place access s to)
test_still_by (Some g) place access s to v = leaves_then (own_bits_still place g v) (record { to = λ calls. refl })
test_still_by None place access s to v = number_test_still place access s to v

tested_does : {cs : List (List ℕ)} {v : List ℕ} {base test : List Line} (d : Option Direct) (kind : IntType) (s : Bool) (to : ℕ) → Does cs v base v → Leaves v test v → Does cs v (tested_load d kind s to base test) v
tested_does {v = v} (Some d) kind s to db still = does_behind db ((zero_test_quiet {ok = λ l. true} (own_bytes d (extent_of kind)) s to refl).still v)
tested_does None kind s to db still = does_behind db still

load_does : {cs : List (List ℕ)} {v : List ℕ} {a : List Line} (w : Wanted) (place : Place) (access : Access) → Does cs v a v → Does cs v (load_by w place access a) v
load_does {v = v} Value place access d = does_behind d (fetch_still place access v)
load_does {v = v} (Test to s) place access d = tested_does (kept_at place access) (loads.type_in access) s to d (test_still_by (byte_field access) place access s to v)

converted_does : {cs : List (List ℕ)} {v : List ℕ} {a : List Line} (w : Wanted) (same : Bool) (to : Ty) (from : IntType) → Does cs v a v → Does cs v (conversion_by w same to from a) v
converted_does {v = v} Value same to from d = does_behind d (conversion_still to from v)
converted_does (Test l s) true to from d = d
converted_does {v = v} (Test l s) false to from d = wanted_does (Test l s) (width_of (kind_of to)) (does_behind d (conversion_still to from v))

truth_does : {cs : List (List ℕ)} {v : List ℕ} {a : List Line} (w : Wanted) (lo : ℕ) → Does cs v a v → Does cs v (truth_by w lo a) v
truth_does {v = v} Value lo d = does_behind d ((truth_quiet {ok = λ l. true} lo refl).still v)
truth_does (Test to s) lo d = d

joined_does : {cs ds : List (List ℕ)} {v : List ℕ} {a b : List Line} (straight : Bool) (own : ℕ) → Does cs v a v → Does ds v b v → Does (cs ++ ds) v (both_joined straight own a b) v
joined_does straight own da db = does_then da (does_behind db (leaves_if straight leaves_none (one_label own)))

-- ---- comparisons and operators

-- lines that leave whatever waits, by these calls
abbrev pub Doing : List (List ℕ) → List Line → Type 0
Doing cs a = (v : List ℕ) → Does cs v a v

-- one of the two sides calls nothing
pub left_alone : {cs ds : List (List ℕ)} {v : List ℕ} {a : List Line} → ds ≡ [] → Does cs v a v → Does (cs ++ ds) v a v
left_alone {cs = cs} quiet d = does_as (sym (nothing_more cs) ∙ ap (λ l. cs ++ l) (sym quiet)) d

pub right_alone : {cs ds : List (List ℕ)} {v : List ℕ} {a : List Line} → cs ≡ [] → Does ds v a v → Does (cs ++ ds) v a v
right_alone {ds = ds} quiet d = does_as (ap (λ l. l ++ ds) (sym quiet)) d

low_does : {cs : List (List ℕ)} {v : List ℕ} {a : List Line} (low : Option OperandByte) → IfRead low (cs ≡ []) → Does cs v a v → Does cs v (low_code low a) v
low_does None quiet d = d
low_does {v = v} (Some byte) quiet d = does_as (sym quiet) (does_leaves ((loaded_quiet {ok = λ l. true} byte).still v))

comparison_does : {cs ds : List (List ℕ)} {a b : List Line} (how : Comparing) (op : BinaryOp) (operands : Operands) (right : IntType) (s : Bool) (to own : ℕ) → Unread how (cs ≡ []) (ds ≡ []) → Doing cs a → Doing ds b → Doing (cs ++ ds) (comparison_by how op operands right s to own a b)
comparison_does (comparing.Truth side.Left) op operands right s to own quiet da db v = left_alone quiet (does_behind (da v) (one_label own))
comparison_does (comparing.Truth side.Right) op operands right s to own quiet da db v = right_alone quiet (does_behind (db v) (one_label own))
comparison_does (comparing.Byte side.Left low r d) op operands right s to own quiet da db v = left_alone quiet.1 (does_behind (does_behind (low_does low quiet.0 (da v)) ((compare_byte_quiet {ok = λ l. true} r d to refl).still v)) (one_label own))
comparison_does (comparing.Byte side.Right low r d) op operands right s to own quiet da db v = right_alone quiet.1 (does_behind (does_behind (low_does low quiet.0 (db v)) ((compare_byte_quiet {ok = λ l. true} r d to refl).still v)) (one_label own))
comparison_does (comparing.Whole side.Left r is_signed sides) op operands right s to own quiet da db v = left_alone quiet (does_behind (da v) ((compare_quiet {ok = λ l. true} r is_signed sides own to refl refl).still v))
comparison_does (comparing.Whole side.Right r is_signed sides) op operands right s to own quiet da db v = right_alone quiet (does_behind (db v) ((compare_quiet {ok = λ l. true} r is_signed sides own to refl refl).still v))
comparison_does (comparing.Held r is_signed) op operands right s to own quiet da db v =
    does_then (da v) (does_before ((keep_quiet {ok = λ l. true}).still v) (does_behind (db v) ((compare_quiet {ok = λ l. true} r is_signed (Word held_low held_high) own to refl refl).still v)))
comparison_does (comparing.HeldByte r) op operands right s to own quiet da db v =
    does_behind (does_then (da v) (does_before ((keep_byte_quiet {ok = λ l. true}).still v) (does_behind (db v) ((compare_byte_quiet {ok = λ l. true} r held_low to refl).still v)))) (one_label own)
comparison_does comparing.Stacked op operands right s to own quiet da db v =
    let last : Leaves v (implied Tay ∷ branch_code s to) v = record { to = λ calls. refl } in
    does_behind (does_then (da v) (does_before (between_leaves operands v) (does_behind (db (waiting (width_of (computes operands)) ∷ v)) (leaves_then (behind_leaves op operands right v) last)))) (one_label own)

-- a side, or the low byte of it
side_does : {cs : List (List ℕ)} {v : List ℕ} {low whole : List Line} (b : Bool) → Does cs v low v → Does cs v whole v → Does cs v (if b then low else whole) v
side_does true dl dw = dl
side_does false dl dw = dw

operator_does : {cs ds : List (List ℕ)} {a b : List Line} (d : Destination) (how : Operating) (op : BinaryOp) (operands : Operands) (right : IntType) (own : ℕ) → Unused how (cs ≡ []) (ds ≡ []) → Doing cs a → Doing ds b → Doing (cs ++ ds) (operator_by d how op operands right own a b)
operator_does d (operating.Left form) op operands right own small da db v = left_alone small.1 (does_behind (da v) ((form_quiet {ok = λ l. true} d form own refl small.0).still v))
operator_does d (operating.Right form) op operands right own small da db v = right_alone small.1 (does_behind (db v) ((form_quiet {ok = λ l. true} d form own refl small.0).still v))
operator_does d (operating.Held form) op operands right own small da db v =
    does_then (da v) (does_before ((keep_quiet {ok = λ l. true}).still v) (does_behind (db v) ((form_quiet {ok = λ l. true} d form own refl small).still v)))
operator_does d operating.Stacked op operands right own small da db v =
    does_then (da v) (does_before (waiting_leaves operands v) (does_behind (db (waiting (width_of (computes operands)) ∷ v)) (leaves_then (stacked_leaves op operands right v) (leaves_then (one_label own) (arrived_still d v)))))

-- ---- assignments

assigned_does : {cs ds : List (List ℕ)} {a b : List Line} (how : Storing) (place : Place) (access : Access) → Unstored how (cs ≡ []) (ds ≡ []) → Doing cs a → Doing ds b → Doing (cs ++ ds) (assigned_by how place access a b)
assigned_does (storing.Left at stored) place access unread da db v = left_alone unread (does_behind (da v) (leaves_then (read_bytes_still at stored v) (narrow_still (loads.type_in access) v)))
assigned_does (storing.RightByte at low high) place access unread da db v = right_alone unread (does_behind (db v) (leaves_then (byte_through_still at low high v) (narrow_still (loads.type_in access) v)))
assigned_does (storing.RightWord at low high) place access unread da db v = right_alone unread (does_behind (db v) (word_through_still at low high v))
assigned_does (storing.HeldByte at) place access unread da db v = does_then (da v) (does_before (keep_still v) (does_behind (db v) (leaves_then (byte_behind_still at v) (narrow_still (loads.type_in access) v))))
assigned_does (storing.HeldWord at) place access unread da db v = does_then (da v) (does_before (keep_still v) (does_behind (db v) (word_behind_still at v)))
assigned_does storing.Stacked place access unread da db v = does_then (da v) (does_before (hold_leaves place v) (does_behind (db (holding place v)) (stored_leaves place access v)))

either_does : {cs : List (List ℕ)} {v : List ℕ} {a b : List Line} (c : Bool) → Does cs v a v → Does cs v b v → Does cs v (if c then a else b) v
either_does true da db = da
either_does false da db = db

sum_does : {cs ds : List (List ℕ)} {v : List ℕ} {a b : List Line} (c : Bool) (lo : ℕ) → (c ≡ true → ds ≡ []) → Does cs v a v → Does (cs ++ ds) v b v → Does (cs ++ ds) v (if c then Label lo ∷ a else b) v
sum_does true lo quiet da db = left_alone (quiet refl) (does_line (Label lo) (λ w. refl) da)
sum_does false lo quiet da db = db

-- ---- calls

same_taken : (n : ℕ) (x y : Option (List ℕ)) → (if n == n then x else y) ≡ x
same_taken n x y = ap (λ b. if b then x else y) (eq-eqb n n refl)

-- what was pushed is there
taken_all : (ns v : List ℕ) → taken ns (ns ++ v) ≡ Some v
taken_all [] v = refl
taken_all (n ∷ ns) v = same_taken n (taken ns (ns ++ v)) None ∙ taken_all ns v

append_assoc : (xs ys zs : List ℕ) → (xs ++ ys) ++ zs ≡ xs ++ (ys ++ zs)
append_assoc [] ys zs = refl
append_assoc (x ∷ xs) ys zs = ap (λ l. x ∷ l) (append_assoc xs ys zs)

count_still : (counted : Bool) (p : Passed) → Still (count_code counted p)
count_still true p v = record { to = λ calls. refl }
count_still false p v = leaves_none

result_still : (given : Outcome) → Still (result_code given)
result_still Nothing v = leaves_none
result_still (Number kind) v = narrow_still kind v
result_still (Area bytes) v = leaves_none

named_does : (f : Framed) (i : ℕ) (l : Option Library) (counted : Bool) (p : Passed) (given : Outcome) (ns v : List ℕ) → Does (ns ∷ []) (ns ++ v) (named_by f i l counted p given) v
named_does f i None counted p given ns v =
    let line : Line = Call (Function (function_symbol (numbers_of f.parts) i) (reads_of counted p) (registers (given_bytes given))) in
    let one : Does (ns ∷ []) (ns ++ v) (line ∷ []) v = record { to = λ rest. ap (left rest) (taken_all ns v) } in
    does_before (count_still counted p (ns ++ v)) (does_behind one (result_still given v))
named_does f i (Some l) counted p given ns v =
    let line : Line = Call (Routine (library_routine l)) in
    let one : Does (ns ∷ []) (ns ++ v) (line ∷ []) v = record { to = λ rest. ap (left rest) (taken_all ns v) } in
    does_before (count_still counted p (ns ++ v)) (does_behind one (result_still given v))

pointer_does : (counted : Bool) (p : Passed) (given : Outcome) (ns v : List ℕ) → Does (ns ∷ []) (ns ++ 2 ∷ v) (pointer_code counted p given) v
pointer_does counted p given ns v =
    let line : Line = Call (Pointer (reads_of counted p) (registers (given_bytes given))) in
    let one : Does (ns ∷ []) (ns ++ 2 ∷ v) (line ∷ []) (2 ∷ v) = record { to = λ rest. ap (left rest) (taken_all ns (2 ∷ v)) } in
    let two : Leaves (2 ∷ v) (Call (Routine (IncSp two_bytes)) ∷ []) v = record { to = λ calls. refl } in
    let fetch : Leaves (ns ++ 2 ∷ v) (fetch_code p) (ns ++ 2 ∷ v) = record { to = λ calls. refl } in
    does_before fetch (does_before (count_still counted p (ns ++ 2 ∷ v)) (does_behind one (leaves_then two (result_still given v))))

direct_does : (counted : Bool) (p : Passed) (given : Outcome) (v : List ℕ) → Does ([] ∷ []) v (direct_code counted p given) v
direct_does counted p given v =
    let line : Line = Call (Pointer (reads_of counted p) (registers (given_bytes given))) in
    let one : Does ([] ∷ []) v (line ∷ []) v = record { to = λ rest. ap (left rest) (taken_all [] v) } in
    let stored : Leaves v ptr4_code v = record { to = λ calls. refl } in
    does_before stored (does_before (count_still counted p v) (does_behind one (result_still given v)))

call_does : {cs : List (List ℕ)} {v : List ℕ} {callee args above : List Line} (f : Framed) (n : Option ℕ) (given : Outcome) (g : Typed) (es : Nodes) → Does cs v callee v → Does (args_calls f es) v args (passed f (is_fast (bare g)) es ++ v) → Does (args_calls f es) (2 ∷ v) above (passed f (is_fast (bare g)) es ++ 2 ∷ v)
    → Does (unless_named n cs ++ (args_calls f es ++ passed f (is_fast (bare g)) es ∷ [])) v (call_by f n given g es callee args above) v
call_does {v = v} f (Some i) given g es dc da db = does_then da (named_does f i (library_at f i) (is_counted (bare g)) (passed_of f (is_fast (bare g)) es) given (passed f (is_fast (bare g)) es) v)
call_does {v = v} f None given g none dc da db = does_then dc (direct_does (is_counted (bare g)) (passed_of f (is_fast (bare g)) none) given v)
call_does {v = v} f None given g (some e es) dc da db =
    let all : Nodes = some e es in
    does_then dc (does_before (push_leaves Ax v) (does_then db (pointer_does (is_counted (bare g)) (passed_of f (is_fast (bare g)) all) given (passed f (is_fast (bare g)) all) v)))

-- ---- elements and low bytes

element_load_does : {cs : List (List ℕ)} {v : List ℕ} {index : List Line} (w : Wanted) (x : Element × IntType) → Does cs v index v → Does cs v (loaded_element w x index) v
element_load_does {v = v} Value x d = does_behind d ((element_value_quiet {ok = λ l. true} x.0 x.1).still v)
element_load_does {v = v} (Test to s) x d = does_behind d ((element_test_quiet {ok = λ l. true} x.0 x.1 s to refl).still v)

element_does : {cs : List (List ℕ)} {v : List ℕ} {whole : List Line} (o : Option (Element × IntType)) (code : Element × IntType → List Line) → ((x : Element × IntType) → o ≡ Some x → Does cs v (code x) v) → Does cs v whole v → Does cs v (element_or o code whole) v
element_does None code found other = other
element_does (Some x) code found other = found x refl

low_does_by : {cs : List (List ℕ)} {v : List ℕ} {code : List Line} (o : Option OperandByte) → ((d : OperandByte) → o ≡ Some d → cs ≡ []) → Does cs v code v → Does cs v (low_code o code) v
low_does_by None free d = d
low_does_by {v = v} (Some byte) free d = does_as (sym (free byte refl)) (does_leaves ((loaded_quiet {ok = λ l. true} byte).still v))

low_operand_does : {cs : List (List ℕ)} {v : List ℕ} {whole : List Line} (o : Option OperandByte) (code : OperandByte → List Line) → ((d : OperandByte) → o ≡ Some d → Does cs v (code d) v) → Does cs v whole v → Does cs v (low_operand_or o code whole) v
low_operand_does None code found other = other
low_operand_does (Some d) code found other = found d refl

low_load_does : {cs : List (List ℕ)} {v : List ℕ} {base other : List Line} (o : Option ℕ) → Does cs v base v → Does cs v other v → Does cs v (low_load_by o base other) v
low_load_does None db d = d
low_load_does {v = v} (Some at) db d = does_behind db (behind_pointer_still at One v)

-- ---- the whole tree

does_to : {cs : List (List ℕ)} {v u t : List ℕ} {a : List Line} → u ≡ t → Does cs v a u → Does cs v a t
does_to {cs = cs} {v = v} {a = a} e p = subst (λ (x : List ℕ). Does cs v a x) e p

compound_does : {ds : List (List ℕ)} {left right : List Line} (f : Framed) (pushed : ℕ) (op : BinaryOp) (operands : Operands) (a b : Typed) (v : List ℕ) → Does (calls_of f a) v left v
    → Does ds (waiting (width_of (computes operands)) ∷ holding (place_of f pushed a) v) right (waiting (width_of (computes operands)) ∷ holding (place_of f pushed a) v) → Does (calls_of f a ++ ds) v (compound f pushed op operands a b left right) v
compound_does f pushed op operands a b v da db =
    let place : Place = place_of f pushed a in
    let access : Access = access_of (types_of f.parts.types) a in
    does_then da (does_before (open_leaves place access (computes operands) v) (does_behind db (close_leaves op operands (kind_in b) place access v)))

-- the lines of an expression wherever they stand
abbrev Acts : Framed → Typed → Type 0
Acts f e = (pushed lo : ℕ) (w : Wanted) → Doing (calls_of f e) (expr_code f pushed lo w e)

-- and those of its low byte
abbrev LowActs : Framed → Typed → Type 0
LowActs f e = (pushed lo : ℕ) → Doing (calls_of f e) (low_value_code f pushed lo e)

binary_does : (f : Framed) (pushed lo : ℕ) (w : Wanted) (t : QTy) (op : BinaryOp) (a b : Typed) → Acts f a → Acts f b → LowActs f a → LowActs f b → (r : Option Relation)
    → Doing (calls_of f a ++ calls_of f b) (by_relation r (wanted w (width_in t) (operator_code f pushed lo Registers op a b)) (λ q. truth_by w lo (comparison_code f pushed (inner w lo) (aimed w lo) (sense w) op q a b)))
binary_does f pushed lo w t op a b da db la lb None v =
    let operands : Operands = operands_of f (bare a) (bare b) in
    let how : Operating = operating_of f pushed op operands a b in
    wanted_does w (width_in t) (operator_does Registers how op operands (kind_in b) lo (operating_calls f pushed op operands a b) (da pushed (lo + 1) Value) (db (below_operand how pushed (waiting (width_of (computes operands)))) (lo + 1 + uses None a) Value) v)
binary_does f pushed lo w t op a b da db la lb (Some r) v =
    let operands : Operands = operands_of f (bare a) (bare b) in
    let q : Relation = relation_by (sense w) r in
    let how : Comparing = comparing_of f pushed q (computes operands) a b in
    let to : ℕ = aimed w lo in
    let own : ℕ = inner w lo in
    let below : ℕ = below_side how pushed (waiting (width_of (computes operands))) in
    let behind : ℕ = own + 1 + uses (tested_by q b) a in
    truth_does w lo (comparison_does how op operands (kind_in b) (sense w) to own (comparing_calls f pushed q (computes operands) a b)
    (λ u. side_does (takes_low how) (la pushed (own + 1) u) (da pushed (own + 1) (wanted_by (tested_by q b) to) u)) (λ u. side_does (takes_low how) (lb below behind u) (db below behind (wanted_by (tested_by q a) to) u)) v)

sum_base_does : (f : Framed) (pushed lo : ℕ) (d : Destination) (t : QTy) (op : BinaryOp) (a b : Typed) → Acts f a → Acts f b → (r : Option Relation) → Doing (calls_of f a ++ calls_of f b) (node_code f pushed lo Value t (binary op a b))
    → Doing (calls_of f a ++ calls_of f b) (by_relation r (operator_code f pushed lo d op a b) (λ q. node_code f pushed lo Value t (binary op a b) ++ arrived d))
sum_base_does f pushed lo d t op a b da db None whole v =
    let operands : Operands = operands_of f (bare a) (bare b) in
    let how : Operating = operating_of f pushed op operands a b in
    operator_does d how op operands (kind_in b) lo (operating_calls f pushed op operands a b) (da pushed (lo + 1) Value) (db (below_operand how pushed (waiting (width_of (computes operands)))) (lo + 1 + uses None a) Value) v
sum_base_does f pushed lo d t op a b da db (Some r) whole v = does_behind (whole v) (arrived_still d v)

unary_does : {cs : List (List ℕ)} {v : List ℕ} {a : List Line} (w : Wanted) (t : QTy) (op : UnaryOp) (width : Width) → Does cs v a v → Does cs v (wanted w (width_in t) (a ++ unary_code op width)) v
unary_does {v = v} w t op width d = wanted_does w (width_in t) (does_behind d (unary_still op width v))

mutual
  pub expr_does : (f : Framed) (pushed lo : ℕ) (w : Wanted) (e : Typed) (v : List ℕ) → Does (calls_of f e) v (expr_code f pushed lo w e) v
  expr_does f pushed lo w (node t n) v = node_does f pushed lo w t n v

  node_does : (f : Framed) (pushed lo : ℕ) (w : Wanted) (t : QTy) (n : Node) (v : List ℕ) → Does (node_calls f n) v (node_code f pushed lo w t n) v
  node_does f pushed lo w t (constant z) v = does_leaves (constant_leaves w (width_in t) (residue_of z) v)
  node_does f pushed lo w t null v = does_leaves (constant_leaves w Ax 0 v)
  node_does f pushed lo w t (literal n) v = wanted_does w (width_in t) (record { to = λ rest. refl })
  node_does f pushed lo w t (object i) v = wanted_does w (width_in t) (does_leaves (object_still f pushed i v))
  node_does f pushed lo w t (func i) v = wanted_does w (width_in t) (record { to = λ rest. refl })
  node_does f pushed lo w t (deref e) v = wanted_does w (width_in t) (expr_does f pushed lo Value e v)
  node_does f pushed lo w t (member e m) v = wanted_does w (width_in t) (does_behind (expr_does f pushed lo Value e v) (offset_still (offset_at (types_of f.parts.types) (bare e) m) v))
  node_does f pushed lo w t (load e) v =
      let access : Access = access_of (types_of f.parts.types) e in
      element_does (element_at f e) (λ x. loaded_element w x (index_code f pushed lo e)) (λ x h. element_load_does w x (element_from f e x (λ y found. index_does f pushed lo e y found v) h))
      (load_does w (place_of f pushed e) access (base_does f pushed lo (destination_of access) e v))
  node_does f pushed lo w t (address e) v = wanted_does w (width_in t) (expr_does f pushed lo Value e v)
  node_does f pushed lo w t (decay e) v = wanted_does w (width_in t) (expr_does f pushed lo Value e v)
  node_does f pushed lo w t (convert e) v =
      let same : Bool = same_truth (type_in t) (bare e) in
      converted_does w same (type_in t) (kind_in e) (expr_does f pushed lo (handed same w) e v)
  node_does f pushed lo w t (unary unary_ops.Not e) v = truth_does w lo (expr_does f pushed (inner w lo) (Test (aimed w lo) (not (sense w))) e v)
  node_does f pushed lo w t (unary unary_ops.Neg e) v = unary_does w t unary_ops.Neg (width_of (kind_in e)) (expr_does f pushed lo Value e v)
  node_does f pushed lo w t (unary unary_ops.BitNot e) v = unary_does w t unary_ops.BitNot (width_of (kind_in e)) (expr_does f pushed lo Value e v)
  node_does f pushed lo w t (unary unary_ops.Plus e) v = unary_does w t unary_ops.Plus (width_of (kind_in e)) (expr_does f pushed lo Value e v)
  node_does f pushed lo w t (unary unary_ops.Deref e) v = unary_does w t unary_ops.Deref (width_of (kind_in e)) (expr_does f pushed lo Value e v)
  node_does f pushed lo w t (unary unary_ops.Address e) v = unary_does w t unary_ops.Address (width_of (kind_in e)) (expr_does f pushed lo Value e v)
  node_does f pushed lo w t (binary op a b) v = binary_does f pushed lo w t op a b (λ p l u. expr_does f p l u a) (λ p l u. expr_does f p l u b) (λ p l. low_value_does f p l a) (λ p l. low_value_does f p l b) (relation_of op) v
  node_does f pushed lo w t (both a b) v =
      let straight : Bool = is_straight false (sense w) in
      let own : ℕ = inner w lo in
      let first : ℕ = own + way_labels straight in
      truth_does w lo (joined_does straight own (expr_does f pushed first (Test (way straight (aimed w lo) own) false) a v) (expr_does f pushed (first + uses (Some false) a) (Test (aimed w lo) (sense w)) b v))
  node_does f pushed lo w t (either a b) v =
      let straight : Bool = is_straight true (sense w) in
      let own : ℕ = inner w lo in
      let first : ℕ = own + way_labels straight in
      truth_does w lo (joined_does straight own (expr_does f pushed first (Test (way straight (aimed w lo) own) true) a v) (expr_does f pushed (first + uses (Some true) a) (Test (aimed w lo) (sense w)) b v))
  node_does f pushed lo w t (choice c a b) v =
      let first : ℕ = lo + 2 + uses (Some false) c in
      wanted_does w (width_in t) (does_then (expr_does f pushed (lo + 2) (Test lo false) c v) (does_then (expr_does f pushed first Value a v) (does_line (Do Jmp Absolute (To (lo + 1))) (λ u. refl) (does_line (Label lo) (λ u. refl)
      (does_behind (expr_does f pushed (first + uses None a) Value b v) (one_label (lo + 1)))))))
  node_does f pushed lo w t (comma a b) v = does_then (expr_does f pushed lo Value a v) (expr_does f pushed (lo + uses None a) w b v)
  node_does f pushed lo w t (assign a b) v =
      let place : Place = place_of f pushed a in
      let how : Storing = storing_of f pushed a b in
      wanted_does w (width_in t) (assigned_does how place (access_of (types_of f.parts.types) a) (storing_calls f pushed a b) (base_does f pushed lo (base_for how) a) (expr_does f (below_value how pushed place) (lo + uses None a) Value b) v)
  node_does f pushed lo w t (assign_op op k a b) v =
      wanted_does w (width_in t) (compound_does f pushed op (Numbers k) a b v (base_does f pushed lo Registers a v) (expr_does f (behind_open f pushed (Numbers k) a) (lo + uses None a) Value b (waiting (width_of k) ∷ holding (place_of f pushed a) v)))
  node_does f pushed lo w t (assign_step op a b) v =
      let operands : Operands = PointerFirst (target_bytes f (bare a)) in
      wanted_does w (width_in t) (compound_does f pushed op operands a b v (base_does f pushed lo Registers a v) (expr_does f (behind_open f pushed operands a) (lo + uses None a) Value b (2 ∷ holding (place_of f pushed a) v)))
  node_does f pushed lo w t (step how e) v =
      let place : Place = place_of f pushed e in
      wanted_does w (width_in t) (does_behind (base_does f pushed (lo + 1) Registers e v) ((step_quiet {ok = λ l. true} how (target_bytes f (bare e)) (amount_of f how (bare e)) place (access_of (types_of f.parts.types) e) lo refl).still v))
  node_does f pushed lo w t (copy a b) v =
      wanted_does w (width_in t) (does_then (expr_does f pushed lo Value a v) (does_before (push_leaves Ax v) (does_behind (expr_does f (more pushed 2) (lo + uses None a) Value b (2 ∷ v)) (copy_leaves (type_bytes f (type_in t)) v))))
  node_does f pushed lo w t (call g es) v =
      wanted_does w (width_in t) (call_does f (named g) (outcome_of f (type_in t)) g es (expr_does f pushed lo Value g v) (args_does f pushed lo (is_fast (bare g)) es v) (args_does f (more pushed 2) (lo + uses None g) (is_fast (bare g)) es (2 ∷ v)))
  node_does f pushed lo w t (pack e) v = wanted_does w (width_in t) (does_behind (base_does f pushed lo Registers e v) (bytes_still (place_of f pushed e) (extent_by (type_bytes f (type_in t))) v))
  node_does f pushed lo w t (spill i e) v = wanted_does w (width_in t) (does_behind (expr_does f pushed lo Value e v) (spill_still (object_code f pushed i) (extent_by (type_bytes f (type_in t))) (object_still f pushed i) v))
  node_does f pushed lo w t further v = wanted_does w (width_in t) (does_leaves (further_still f pushed v))

  pub base_does : (f : Framed) (pushed lo : ℕ) (d : Destination) (e : Typed) (v : List ℕ) → Does (calls_of f e) v (base_code f pushed lo d e) v
  base_does f pushed lo d (node t (literal n)) v = does_none
  base_does f pushed lo d (node t (object i)) v = target_does (object_place f pushed i) (does_leaves (leaves_then (object_still f pushed i v) (arrived_still d v)))
  base_does f pushed lo d (node t (deref e)) v = pointer_base_does f pushed lo d e v
  base_does f pushed lo d (node t (member e m)) v =
      let n : ℕ = offset_at (types_of f.parts.types) (bare e) m in
      either_does (has_base (place_of f pushed e) n) (base_does f pushed lo d e v) (does_behind (expr_does f pushed lo Value e v) (leaves_then (offset_still n v) (arrived_still d v)))
  base_does f pushed lo d (node t n) v = does_behind (node_does f pushed lo Value t n v) (arrived_still d v)

  pointer_base_does : (f : Framed) (pushed lo : ℕ) (d : Destination) (e : Typed) (v : List ℕ) → Does (calls_of f e) v (pointer_base_code f pushed lo d e) v
  pointer_base_does f pushed lo d (node t (binary op a b)) v =
      let operands : Operands = operands_of f (bare a) (bare b) in
      let place : Place = target_of f pushed a in
      sum_does (sum_has_base place (added_bytes op operands (constant_in b))) lo (λ h. sum_calls f place op operands b h) (pointer_base_does f pushed (lo + 1) d a v)
      (sum_base_does f pushed lo d t op a b (λ p l u. expr_does f p l u a) (λ p l u. expr_does f p l u b) (relation_of op) (node_does f pushed lo Value t (binary op a b)) v)
  pointer_base_does f pushed lo d (node t (address e)) v = base_does f pushed lo d e v
  pointer_base_does f pushed lo d (node t (decay e)) v = base_does f pushed lo d e v
  pointer_base_does f pushed lo d (node t n) v = does_behind (node_does f pushed lo Value t n v) (arrived_still d v)

  pub low_value_does : (f : Framed) (pushed lo : ℕ) (e : Typed) (v : List ℕ) → Does (calls_of f e) v (low_value_code f pushed lo e) v
  low_value_does f pushed lo (node t (convert e)) v =
      low_does_by (byte_in f pushed (node t (convert e))) (λ d h. (byte_idle f pushed (node t (convert e)) d h).calls) (either_does (is_number (type_in t) && is_number (bare e)) (low_value_does f pushed lo e v) (node_does f pushed lo Value t (convert e) v))
  low_value_does f pushed lo (node t (binary op a b)) v =
      low_does_by (byte_in f pushed (node t (binary op a b))) (λ d h. (byte_idle f pushed (node t (binary op a b)) d h).calls)
      (low_operand_does (low_operand f pushed op a b) (λ d. Label lo ∷ (low_value_code f pushed (lo + 1) a ++ first_byte_code op d))
      (λ d h. left_alone (low_reads f pushed op a b d h).right.calls (does_line (Label lo) (λ w. refl) (does_behind (low_value_does f pushed (lo + 1) a v) ((first_quiet {ok = λ l. true} op d).still v))))
      (node_does f pushed lo Value t (binary op a b) v))
  low_value_does f pushed lo (node t (load e)) v =
      low_does_by (byte_in f pushed (node t (load e))) (λ d h. (byte_idle f pushed (node t (load e)) d h).calls)
      (element_does (element_at f e) (λ x. index_code f pushed lo e ++ element_byte_code x.0)
      (λ x h. does_behind (element_from f e x (λ y found. index_does f pushed lo e y found v) h) ((element_byte_quiet {ok = λ l. true} x.0).still v))
      (low_load_does (behind_pointer (place_of f pushed e) (access_of (types_of f.parts.types) e)) (base_does f pushed lo destinations.Pointer e v) (node_does f pushed lo Value t (load e) v)))
  low_value_does f pushed lo (node t n) v = low_does_by (byte_in f pushed (node t n)) (λ d h. (byte_idle f pushed (node t n) d h).calls) (node_does f pushed lo Value t n v)

  pub index_does : (f : Framed) (pushed lo : ℕ) (e : Typed) (x : Element) → element_of f e ≡ Some x → (v : List ℕ) → Does (calls_of f e) v (index_code f pushed lo e) v
  index_does f pushed lo (node t (deref e)) x h v = sum_index_does f pushed lo e x h v
  index_does f pushed lo (node t (member e m)) x h v = onward_from (offset_at (types_of f.parts.types) (bare e) m) (element_of f e) x (λ y found. index_does f pushed lo e y found v) h
  index_does f pushed lo (node t _) x h v = absurd cc

  sum_index_does : (f : Framed) (pushed lo : ℕ) (e : Typed) (x : Element) → sum_element f e ≡ Some x → (v : List ℕ) → Does (calls_of f e) v (sum_index_code f pushed lo e) v
  sum_index_does f pushed lo (node t (binary op a b)) x h v = right_alone (sum_indexes f t op a b x h).array.calls (does_line (Label lo) (λ w. refl) (low_value_does f pushed (lo + 1) b v))
  sum_index_does f pushed lo (node t _) x h v = absurd cc

  args_does : (f : Framed) (pushed lo : ℕ) (fast : Bool) (es : Nodes) (v : List ℕ) → Does (args_calls f es) v (args_code f pushed lo fast es) (passed f fast es ++ v)
  args_does f pushed lo fast none v = does_none
  args_does f pushed lo fast (some e es) v =
      let kept : Bool = stays fast es in
      let size : ℕ = passed_size f e in
      let own : List ℕ = argument_bytes kept size in
      let rest : Does (args_calls f es) (own ++ v) (args_code f (more pushed (arguments.argument_bytes kept size)) (lo + uses None e) fast es) (passed f fast es ++ (own ++ v)) = args_does f (more pushed (arguments.argument_bytes kept size)) (lo + uses None e) fast es (own ++ v) in
      does_to (sym (append_assoc (passed f fast es) own v)) (does_then (expr_does f pushed lo Value e v) (does_before (argument_leaves f kept e v) rest))

pub expressions_keep_the_stack : ExpressionsKeepTheStack
expressions_keep_the_stack f pushed fresh w e values calls = (expr_does f pushed fresh w e values).to calls

-- ---- the number of bytes that a call passes

bytes_append : (xs ys : List ℕ) → bytes_in (xs ++ ys) ≡ bytes_in xs + bytes_in ys
bytes_append [] ys = omega arith
bytes_append (x ∷ xs) ys = omega (arith, bytes_append xs ys)

counted_by : (kept : Bool) (size : ℕ) (p : Passed) (n : ℕ) → p.stacked ≡ n % 256 → (arguments.joined kept size p).stacked ≡ (n + bytes_in (argument_bytes kept size)) % 256
counted_by true size p n e = e ∙ ap (λ m. m % 256) (omega arith)
counted_by false size p n e = omega (arith, e)

pub calls_are_counted : CallsAreCounted
calls_are_counted f fast none = refl
calls_are_counted f fast (some e es) =
    let kept : Bool = stays fast es in
    let size : ℕ = passed_size f e in
    counted_by kept size (passed_of f fast es) (bytes_in (passed f fast es)) (calls_are_counted f fast es) ∙ ap (λ m. m % 256) (sym (bytes_append (passed f fast es) (argument_bytes kept size)))
