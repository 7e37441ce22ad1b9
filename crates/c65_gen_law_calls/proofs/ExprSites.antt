-- The lines of an expression call as its calls do, in their order.
use Rattle.std.proofs.Common.{◌≡◌, ℕ, ◌+◌, Bool, true, false, not, Option, None, Some, IsSome, List, [], ◌∷◌, ◌++◌, refl, sym, ap, ◌∙◌}
use Rattle.std.specs.Prelude.{◌&&◌, if◌then◌else◌}
use Rattle.c65_base.specs.declared.operators.BinaryOp.{BinaryOp}
use Rattle.c65_ints.specs.declared.types.IntType.{IntType}
use Rattle.c65_ints.specs.declared.types.IntType.TheVariants.{UInt}
use Rattle.c65_ctype.specs.Trees.{Ty, QTy, type_in}
use Rattle.c65_ctype.specs.Views.{types_of}
use Rattle.c65_base.specs.declared.library.Library.{Library}
use Rattle.c65_csem.specs.Trees.{Typed, node, Node, constant, null, literal, object, func, deref, member, load, address, decay, convert, unary, binary, both, either, choice, comma, assign, assign_op, assign_step, step, copy, call, pack, spill, rest as further, Nodes, none, some}
use Rattle.c65_base.specs.declared.operators.UnaryOp.TheVariants as unaries
use Rattle.c65_mach.specs.declared.rows.Op.TheVariants.{Jmp, Lda}
use Rattle.c65_mach.specs.declared.rows.Mode.TheVariants.{Absolute}
use Rattle.c65_code.specs.declared.line.Operand.TheVariants.{To}
use Rattle.c65_code.specs.declared.line.Line.{Line}
use Rattle.c65_code.specs.declared.line.Callee.TheVariants.{Routine}
use Rattle.c65_code.specs.declared.line.Line.TheVariants.{Label, Do, Call}
use Rattle.c65_code.specs.declared.routine.Count.TheVariants.{Two as two_bytes}
use Rattle.c65_code.specs.declared.routine.Routine.TheVariants.{IncSp}
use Rattle.c65_code.specs.declared.routine.Width.{Width}
use Rattle.c65_code.specs.declared.routine.Width.TheVariants.{Ax}
use Rattle.c65_genframe.specs.Frames.{Framed, type_bytes}
use Rattle.c65_genwide.specs.Wide.{width_of}
use Rattle.c65_genload.specs.declared.places.Place.{Place}
use Rattle.c65_genload.specs.declared.places.Place.TheVariants as places
use Rattle.c65_genload.specs.declared.places.Access.{Access}
use Rattle.c65_genload.specs.Places.{type_in as type_at, extent_of, extent_by}
use Rattle.c65_genload.specs.Conversions.{waiting}
use Rattle.c65_gendirect.specs.declared.bytes.OperandByte.{OperandByte}
use Rattle.c65_gendirect.specs.declared.direct.Direct.{Direct}
use Rattle.c65_gendirect.specs.declared.compare.Sides.TheVariants.{Word}
use Rattle.c65_gendirect.specs.declared.relation.Relation.{Relation}
use Rattle.c65_gendirect.specs.Compare.{relation_of}
use Rattle.c65_genshift.specs.Shifts.{labelled}
use Rattle.c65_genexpr.specs.declared.destination.Destination.{Destination}
use Rattle.c65_genexpr.specs.declared.destination.Destination.TheVariants.{Registers, Pointer}
use Rattle.c65_genexpr.specs.declared.operands.Operands.{Operands}
use Rattle.c65_genexpr.specs.declared.operands.Operands.TheVariants.{Numbers, PointerFirst, PointerLast, Pointers}
use Rattle.c65_genexpr.specs.declared.operating.Operating.{Operating}
use Rattle.c65_genexpr.specs.declared.operating.Operating.TheVariants as operating
use Rattle.c65_genexpr.specs.declared.comparing.Side.{Side}
use Rattle.c65_genexpr.specs.declared.comparing.Side.TheVariants.{Left, Right}
use Rattle.c65_genexpr.specs.declared.comparing.Comparing.{Comparing}
use Rattle.c65_genexpr.specs.declared.comparing.Comparing.TheVariants.{Truth, Byte, Whole, Stacked, Held, HeldByte}
use Rattle.c65_genexpr.specs.declared.storing.Storing.{Storing}
use Rattle.c65_genexpr.specs.declared.storing.Storing.TheVariants as storing
use Rattle.c65_genexpr.specs.declared.wanted.Wanted.{Wanted}
use Rattle.c65_genexpr.specs.declared.wanted.Wanted.TheVariants.{Value, Test}
use Rattle.c65_genexpr.specs.declared.arguments.Passed.{Passed}
use Rattle.c65_genexpr.specs.declared.types.Outcome.{Outcome}
use Rattle.c65_genexpr.specs.declared.types.Outcome.TheVariants.{Nothing, Number, Area}
use Rattle.c65_genexpr.specs.Types.{kind_of, outcome_of, kind_in, bare, offset_at, access_of, target_bytes}
use Rattle.c65_genexpr.specs.Places.{more, has_base, added_bytes, sum_has_base, object_place, place_of, target_of, object_code, target_code}
use Rattle.c65_genexpr.specs.Wanted.{wanted_by, handed, wanted, sense, aimed, inner, truth_by, way, way_labels, joined}
use Rattle.c65_genexpr.specs.Operands.{residue_of, constant_in, operands_of, computes, same_truth, conversion_by}
use Rattle.c65_genexpr.specs.Direct.{kept_at, own_bytes}
use Rattle.c65_genexpr.specs.Comparing.{relation_by, tested_by, comparing_of, takes_low, on, low_code, below_side, comparison_by}
use Rattle.c65_genexpr.specs.Held.{held_low, held_high}
use Rattle.c65_genexpr.specs.Operating.{operating_of, waiting_code, stacked_code, below_operand, operator_by}
use Rattle.c65_genexpr.specs.Destination.{arrived, destination_of}
use Rattle.c65_genexpr.specs.Storing.{storing_of, below_value, base_for, assigned_by}
use Rattle.c65_genexpr.specs.Steps.{amount_of}
use Rattle.c65_genexpr.specs.Arguments.{is_fast, is_counted, stays, passed_size, passed_of}
use Rattle.c65_genexpr.specs.Arguments as arguments
use Rattle.c65_genexpr.specs.Calls.{named, library_at, count_code, fetch_code, result_code, named_by, pointer_code, direct_code, ptr4_code}
use Rattle.c65_genexpr.specs.Uses.{uses, by_relation}
use Rattle.c65_genfield.specs.Bits.{byte_field}
use Rattle.c65_genexpr.specs.Code.{width_in, tested_load, load_by, behind_open, compound, call_by, expr_code, node_code, base_code, pointer_base_code, low_value_code, index_code, sum_index_code, args_code}
use Rattle.c65_genload.specs.declared.places.Extent.TheVariants.{One as one_byte}
use Rattle.c65_gendirect.specs.Words.{first_byte_code}
use Rattle.c65_genexpr.specs.declared.elements.Element.{Element}
use Rattle.c65_genexpr.specs.Elements.{sum_element, element_of, element_at, element_or, loaded_element, element_byte_code}
use Rattle.c65_genexpr.specs.Lows.{is_number, byte_in, low_operand, low_operand_or, behind_pointer, low_load_by}
use Rattle.c65_gen_law_lines.proofs.Elements.{sum_indexes, onward_from, element_from, byte_idle, low_reads}
use Rattle.c65_gen_law_lines.proofs.Drops.{Unstored}
use Rattle.c65_gen_law_lines.proofs.Pointed.{arrived_still, fetch_still, behind_pointer_still}
use Rattle.c65_gen_law_lines.proofs.StepForms.{step_quiet}
use Rattle.c65_gen_law_lines.proofs.StackPieces.{narrow_still, keep_still, byte_behind_still, word_behind_still, read_bytes_still, byte_through_still, word_through_still, object_still, further_still, offset_still, conversion_still, push_leaves, argument_leaves, hold_leaves, bytes_still, stored_leaves, copy_leaves, spill_still, unary_still, between_leaves, behind_leaves, wide_leaves, open_leaves, close_leaves}
use Rattle.c65_gen_law_stack.proofs.EvenLines.{Labels, No, One, Even, even_label, even_leaves}
use Rattle.c65_gen_law_stack.proofs.EvenShifts.{elements_even}
use Rattle.c65_gen_law_stack.proofs.EvenDirects.{byte_even, first_even, compare_even, compare_byte_even, zero_test_even, truth_even}
use Rattle.c65_gen_law_stack.proofs.EvenForms.{loaded_test_even, value_test_even, routine_test_even, constant_even, form_even, end_even, keep_even}
use Rattle.c65_gen_law_stack.proofs.EvenElements.{keep_byte_even, element_value_even, element_test_even, element_byte_even}
use Rattle.c65_gen_law_stack.proofs.ReadSides.{Reaches, storing_reached, sum_reached, First, Compared, comparing_reached, Operated, operating_reached}
use Rattle.c65_gen_law_calls.specs.Sites.{Site, site_by, unless_named, sites_of, node_sites, args_sites}
use Rattle.c65_gen_law_calls.specs.Lines.{is_calling, named_line, line_by, line_of}
use Rattle.c65_gen_law_calls.specs.Found.{ExpressionsCallInOrder}
use Rattle.c65_gen_law_calls.proofs.SiteLaws.{calls_nothing}
use Rattle.c65_gen_law_calls.proofs.Callings.{Free, free_leaves, free_append, free_none, free_if, Has, has_then, has_behind, has_before, has_line, has_none, has_free, has_as}

-- ---- operands that are read where they lie

no_site : Reaches (λ e. sites_of e ≡ [])
no_site = record {
  constant = λ t z. refl;
  null = λ t. refl;
  literal = λ t n. refl;
  object = λ t i. refl;
  func = λ t i. refl;
  deref = λ t e h. h;
  member = λ t e m h. h;
  load = λ t e h. h;
  address = λ t e h. h;
  decay = λ t e h. h;
  convert = λ t e h. h;
}

target_has : {f : Framed} {code : List Line} (p : Place) → Has f [] code → Has f [] (target_code p code)
target_has (places.Far at) d = d
target_has (places.Bank b) d = has_none
target_has (places.Near at) d = has_none
target_has (places.Data s at) d = has_none

pub no_sites : (xs : List Site) → xs ++ [] ≡ xs
no_sites [] = refl
no_sites (x ∷ xs) = ap (λ (l : List Site). x ∷ l) (no_sites xs)

-- the calls of one operand alone, where the other has none
pub left_sites : (ss ts : List Site) → ts ≡ [] → ss ≡ ss ++ ts
left_sites ss ts h = sym (no_sites ss) ∙ ap (λ (x : List Site). ss ++ x) (sym h)

pub right_sites : (ss ts : List Site) → ss ≡ [] → ts ≡ ss ++ ts
right_sites ss ts h = ap (λ (x : List Site). x ++ ts) (sym h)

-- ---- what is wanted

pub even_free : {P X : Labels} {a : List Line} → Even P X a → Free a
even_free e = free_leaves (even_leaves e [])

wanted_has : {f : Framed} {ss : List Site} {a : List Line} (w : Wanted) (width : Width) → Has f ss a → Has f ss (wanted w width a)
wanted_has Value width d = d
wanted_has (Test to s) width d = has_behind d (even_free (value_test_even {X = One to} width s to refl))

truth_has : {f : Framed} {ss : List Site} {a : List Line} (w : Wanted) (fresh : ℕ) → Has f ss a → Has f ss (truth_by w fresh a)
truth_has Value fresh d = has_behind d (even_free (truth_even fresh))
truth_has (Test to s) fresh d = d

labelled_has : {f : Framed} {ss : List Site} {a : List Line} (label : ℕ) → Has f ss a → Has f ss (labelled label a)
labelled_has label d = has_behind d (even_free (even_label {X = No} label))

tested_has : {f : Framed} {ss : List Site} {base test : List Line} (o : Option Direct) (kind : IntType) (s : Bool) (to : ℕ) → Has f ss base → Free test → Has f ss (tested_load o kind s to base test)
tested_has (Some d) kind s to pb free = has_behind pb (even_free (zero_test_even {X = One to} (own_bytes d (extent_of kind)) s to refl))
tested_has None kind s to pb free = has_behind pb free

load_has : {f : Framed} {ss : List Site} {a : List Line} (w : Wanted) (place : Place) (access : Access) → Has f ss a → Has f ss (load_by w place access a)
load_has Value place access p = has_behind p (free_leaves (fetch_still place access []))
load_has (Test to s) place access p = tested_has (kept_at place access) (type_at access) s to p (even_free (loaded_test_even {X = One to} (byte_field access) place access s to refl))

conversion_has : {f : Framed} {ss : List Site} {a : List Line} (w : Wanted) (same : Bool) (t : Ty) (from : IntType) → Has f ss a → Has f ss (conversion_by w same t from a)
conversion_has Value same t from p = has_behind p (free_leaves (conversion_still t from []))
conversion_has (Test to s) true t from p = p
conversion_has (Test to s) false t from p = wanted_has (Test to s) (width_of (kind_of t)) (has_behind p (free_leaves (conversion_still t from [])))

joined_has : {f : Framed} {ss ts : List Site} {a b : List Line} (straight : Bool) (m : ℕ) → Has f ss a → Has f ts b → Has f (ss ++ ts) (joined straight m a b)
joined_has straight m da db = has_then da (has_behind db (free_if straight free_none (even_free (even_label {X = No} m))))

-- ---- operators

waiting_free : (operands : Operands) → Free (waiting_code operands)
waiting_free (Numbers kind) = free_leaves (between_leaves (Numbers kind) [])
waiting_free (PointerFirst size) = free_leaves (between_leaves (PointerFirst size) [])
waiting_free (PointerLast size) = free_append (even_free (elements_even {X = No} size)) (free_leaves (push_leaves Ax []))
waiting_free (Pointers size) = free_leaves (between_leaves (Pointers size) [])

stacked_free : (op : BinaryOp) (operands : Operands) (right : IntType) → Free (stacked_code op operands right)
stacked_free op (Numbers kind) right = free_leaves (behind_leaves op (Numbers kind) right [])
stacked_free op (PointerFirst size) right = free_append (even_free (elements_even {X = No} size)) (free_leaves (wide_leaves op UInt []))
stacked_free op (PointerLast size) right = free_leaves (behind_leaves op (PointerLast size) right [])
stacked_free op (Pointers size) right = free_leaves (behind_leaves op (Pointers size) right [])

operator_has : {f : Framed} {ss ts : List Site} {a b : List Line} (d : Destination) (how : Operating) (op : BinaryOp) (operands : Operands) (right : IntType) (label : ℕ) → Operated (ss ≡ []) (ts ≡ []) how → Has f ss a → Has f ts b → Has f (ss ++ ts) (operator_by d how op operands right label a b)
operator_has {ss = ss} {ts = ts} d (operating.Left form) op operands right label empty da db = has_as (left_sites ss ts empty) (has_behind da (even_free (form_even {X = No} d form label)))
operator_has {ss = ss} {ts = ts} d (operating.Right form) op operands right label empty da db = has_as (right_sites ss ts empty) (has_behind db (even_free (form_even {X = No} d form label)))
operator_has d (operating.Held form) op operands right label empty da db = has_then da (has_before (even_free (keep_even {X = No})) (has_behind db (even_free (form_even {X = No} d form label))))
operator_has d operating.Stacked op operands right label empty da db = has_then da (has_before (waiting_free operands) (has_behind db (free_append (stacked_free op operands right) (even_free (end_even {X = No} d label)))))

-- ---- assignments

assigned_has : {f : Framed} {ss ts : List Site} {a b : List Line} (how : Storing) (place : Place) (access : Access) → Unstored how (ss ≡ []) (ts ≡ []) → Has f ss a → Has f ts b → Has f (ss ++ ts) (assigned_by how place access a b)
assigned_has {ss = ss} {ts = ts} (storing.Left at stored) place access empty da db = has_as (left_sites ss ts empty) (has_behind da (free_append (free_leaves (read_bytes_still at stored [])) (free_leaves (narrow_still (type_at access) []))))
assigned_has {ss = ss} {ts = ts} (storing.RightByte at low high) place access empty da db =
    has_as (right_sites ss ts empty) (has_behind db (free_append (free_leaves (byte_through_still at low high [])) (free_leaves (narrow_still (type_at access) []))))
assigned_has {ss = ss} {ts = ts} (storing.RightWord at low high) place access empty da db = has_as (right_sites ss ts empty) (has_behind db (free_leaves (word_through_still at low high [])))
assigned_has (storing.HeldByte at) place access empty da db = has_then da (has_before (free_leaves (keep_still [])) (has_behind db (free_append (free_leaves (byte_behind_still at [])) (free_leaves (narrow_still (type_at access) [])))))
assigned_has (storing.HeldWord at) place access empty da db = has_then da (has_before (free_leaves (keep_still [])) (has_behind db (free_leaves (word_behind_still at []))))
assigned_has storing.Stacked place access empty da db = has_then da (has_before (free_leaves (hold_leaves place [])) (has_behind db (free_leaves (stored_leaves place access []))))

either_has : {f : Framed} {ss : List Site} {a b : List Line} (c : Bool) → Has f ss a → Has f ss b → Has f ss (if c then a else b)
either_has true da db = da
either_has false da db = db

sum_has : {f : Framed} {ss ts : List Site} {a b : List Line} (c : Bool) (lo : ℕ) → (c ≡ true → ts ≡ []) → Has f ss a → Has f (ss ++ ts) b → Has f (ss ++ ts) (if c then Label lo ∷ a else b)
sum_has {ss = ss} {ts = ts} true lo empty da db = has_as (left_sites ss ts (empty refl)) (has_line (Label lo) refl da)
sum_has false lo empty da db = db

arrived_has : {f : Framed} {ss : List Site} {a : List Line} (d : Destination) → Has f ss a → Has f ss (a ++ arrived d)
arrived_has d p = has_behind p (free_leaves (arrived_still d []))

-- ---- comparisons

side_has : {f : Framed} {ss ts : List Site} {a b : List Line} (side : Side) → First side (ts ≡ []) (ss ≡ []) → Has f ss a → Has f ts b → Has f (ss ++ ts) (on side a b)
side_has {ss = ss} {ts = ts} Left empty da db = has_as (left_sites ss ts empty) da
side_has {ss = ss} {ts = ts} Right empty da db = has_as (right_sites ss ts empty) db

low_has : {f : Framed} {ss ts : List Site} {a b : List Line} (side : Side) (low : Option OperandByte) → First side (ts ≡ []) (ss ≡ []) → (IsSome low → First side (ss ≡ []) (ts ≡ [])) → Has f ss a → Has f ts b → Has f (ss ++ ts) (low_code low (on side a b))
low_has side None empty own da db = side_has side empty da db
low_has {ss = ss} {ts = ts} Left (Some d) empty own da db = has_as (sym (own refl) ∙ left_sites ss ts empty) (has_free (even_free (byte_even {X = No} Lda d refl)))
low_has {ss = ss} {ts = ts} Right (Some d) empty own da db = has_as (sym (own refl) ∙ right_sites ss ts empty) (has_free (even_free (byte_even {X = No} Lda d refl)))

comparison_has : {f : Framed} {ss ts : List Site} {a b : List Line} (how : Comparing) (op : BinaryOp) (operands : Operands) (right : IntType) (s : Bool) (to m : ℕ) → Compared (ss ≡ []) (ts ≡ []) how → Has f ss a → Has f ts b → Has f (ss ++ ts) (comparison_by how op operands right s to m a b)
comparison_has (Truth side) op operands right s to m given da db = labelled_has m (side_has side given da db)
comparison_has (Byte side low r d) op operands right s to m given da db = labelled_has m (has_behind (low_has side low given.0 given.1 da db) (even_free (compare_byte_even {X = One to} r d to refl)))
comparison_has (Whole side r is_signed sides) op operands right s to m given da db = has_behind (side_has side given da db) (even_free (compare_even {X = One to} r is_signed sides m to refl))
comparison_has (Held r is_signed) op operands right s to m given da db =
    has_then da (has_before (even_free (keep_even {X = No})) (has_behind db (even_free (compare_even {X = One to} r is_signed (Word held_low held_high) m to refl))))
comparison_has (HeldByte r) op operands right s to m given da db =
    labelled_has m (has_then da (has_before (even_free (keep_byte_even {X = No})) (has_behind db (even_free (compare_byte_even {X = One to} r held_low to refl)))))
comparison_has Stacked op operands right s to m given da db =
    labelled_has m (has_then da (has_before (free_leaves (between_leaves operands [])) (has_behind db (free_append (free_leaves (behind_leaves op operands right [])) (even_free (routine_test_even {X = One to} s to refl))))))

relation_has : {f : Framed} {ss : List Site} (o : Option Relation) {other : List Line} {g : Relation → List Line} → Has f ss other → ((r : Relation) → Has f ss (g r)) → Has f ss (by_relation o other g)
relation_has None p q = p
relation_has (Some r) p q = q r

-- ---- elements and low bytes

element_load_has : {f : Framed} {ss : List Site} {index : List Line} (w : Wanted) (x : Element × IntType) → Has f ss index → Has f ss (loaded_element w x index)
element_load_has Value x d = has_behind d (even_free (element_value_even {X = No} x.0 x.1))
element_load_has (Test to s) x d = has_behind d (even_free (element_test_even {X = One to} x.0 x.1 s to refl))

element_has : {f : Framed} {ss : List Site} {whole : List Line} (o : Option (Element × IntType)) (code : Element × IntType → List Line) → ((x : Element × IntType) → o ≡ Some x → Has f ss (code x)) → Has f ss whole → Has f ss (element_or o code whole)
element_has None code found other = other
element_has (Some x) code found other = found x refl

byte_has : {f : Framed} {ss : List Site} {code : List Line} (o : Option OperandByte) → ((d : OperandByte) → o ≡ Some d → ss ≡ []) → Has f ss code → Has f ss (low_code o code)
byte_has None quiet d = d
byte_has (Some byte) quiet d = has_as (sym (quiet byte refl)) (has_free (even_free (byte_even {X = No} Lda byte refl)))

byte_sites : (f : Framed) (pushed : ℕ) (e : Typed) (d : OperandByte) → byte_in f pushed e ≡ Some d → sites_of e ≡ []
byte_sites f pushed e d h = calls_nothing f e (byte_idle f pushed e d h).calls

low_operand_has : {f : Framed} {ss : List Site} {whole : List Line} (o : Option OperandByte) (code : OperandByte → List Line) → ((d : OperandByte) → o ≡ Some d → Has f ss (code d)) → Has f ss whole → Has f ss (low_operand_or o code whole)
low_operand_has None code found other = other
low_operand_has (Some d) code found other = found d refl

low_load_has : {f : Framed} {ss : List Site} {base other : List Line} (o : Option ℕ) → Has f ss base → Has f ss other → Has f ss (low_load_by o base other)
low_load_has None db d = d
low_load_has (Some at) db d = has_behind db (free_leaves (behind_pointer_still at one_byte []))

-- ---- calls

count_free : (counted : Bool) (p : Passed) → Free (count_code counted p)
count_free true p = record { none = refl }
count_free false p = free_none

result_free : (given : Outcome) → Free (result_code given)
result_free Nothing = free_none
result_free (Number kind) = free_leaves (narrow_still kind [])
result_free (Area bytes) = free_none

-- the line of a call
one_call : {f : Framed} (site : Site) (line : Line) → is_calling line ≡ true → line_of f site ≡ line → Has f (site ∷ []) (line ∷ [])
one_call site line h e = record { is = ap (λ (b : Bool). if b then line ∷ [] else []) h ∙ ap (λ (x : Line). x ∷ []) (sym e) }

named_has : {f : Framed} (i : ℕ) (l : Option Library) (site : Site) → line_of f site ≡ named_line f i l site
    → Has f (site ∷ []) (named_by f i l (is_counted (bare site.callee)) (passed_of f (is_fast (bare site.callee)) site.args) (outcome_of f (type_in site.type)))
named_has {f = f} i None site e =
    has_before (count_free (is_counted (bare site.callee)) (passed_of f (is_fast (bare site.callee)) site.args)) (has_behind (one_call site (named_line f i None site) refl e) (result_free (outcome_of f (type_in site.type))))
named_has {f = f} i (Some l) site e =
    has_before (count_free (is_counted (bare site.callee)) (passed_of f (is_fast (bare site.callee)) site.args)) (has_behind (one_call site (named_line f i (Some l) site) refl e) (result_free (outcome_of f (type_in site.type))))

pointer_has : {f : Framed} (site : Site) → line_of f site ≡ line_by f None site
    → Has f (site ∷ []) (pointer_code (is_counted (bare site.callee)) (passed_of f (is_fast (bare site.callee)) site.args) (outcome_of f (type_in site.type)))
pointer_has {f = f} site e =
    let counted : Bool = is_counted (bare site.callee) in
    let p : Passed = passed_of f (is_fast (bare site.callee)) site.args in
    let fetch : Free (fetch_code p) = record { none = refl } in
    let two : Free (Call (Routine (IncSp two_bytes)) ∷ []) = record { none = refl } in
    has_before fetch (has_before (count_free counted p) (has_behind (one_call site (line_by f None site) refl e) (free_append two (result_free (outcome_of f (type_in site.type))))))

direct_has : {f : Framed} (site : Site) → line_of f site ≡ line_by f None site
    → Has f (site ∷ []) (direct_code (is_counted (bare site.callee)) (passed_of f (is_fast (bare site.callee)) site.args) (outcome_of f (type_in site.type)))
direct_has {f = f} site e =
    let counted : Bool = is_counted (bare site.callee) in
    let p : Passed = passed_of f (is_fast (bare site.callee)) site.args in
    let stored : Free ptr4_code = record { none = refl } in
    has_before stored (has_before (count_free counted p) (has_behind (one_call site (line_by f None site) refl e) (result_free (outcome_of f (type_in site.type)))))

call_has : {f : Framed} {ss : List Site} {callee args above : List Line} (n : Option ℕ) (t : QTy) (g : Typed) (es : Nodes) → named g ≡ n → Has f ss callee → Has f (args_sites es) args → Has f (args_sites es) above
    → Has f (unless_named n ss ++ (args_sites es ++ site_by t g es ∷ [])) (call_by f n (outcome_of f (type_in t)) g es callee args above)
call_has {f = f} (Some i) t g es e dc da db = has_then da (named_has i (library_at f i) (site_by t g es) (ap (λ (n : Option ℕ). line_by f n (site_by t g es)) e))
call_has {f = f} None t g none e dc da db = has_then dc (direct_has (site_by t g none) (ap (λ (n : Option ℕ). line_by f n (site_by t g none)) e))
call_has {f = f} None t g (some a more_args) e dc da db =
    let es : Nodes = some a more_args in
    has_then dc (has_before (free_leaves (push_leaves Ax [])) (has_then db (pointer_has (site_by t g es) (ap (λ (n : Option ℕ). line_by f n (site_by t g es)) e))))

-- ---- the whole tree

compound_has : {f : Framed} {ts : List Site} {left right : List Line} (pushed : ℕ) (op : BinaryOp) (operands : Operands) (a b : Typed) → Has f (sites_of a) left → Has f ts right → Has f (sites_of a ++ ts) (compound f pushed op operands a b left right)
compound_has {f = f} pushed op operands a b da db =
    let place : Place = place_of f pushed a in
    let access : Access = access_of (types_of f.parts.types) a in
    has_then da (has_before (free_leaves (open_leaves place access (computes operands) [])) (has_behind db (free_leaves (close_leaves op operands (kind_in b) place access []))))

mutual
  expr_has : (f : Framed) (pushed lo : ℕ) (w : Wanted) (e : Typed) → Has f (sites_of e) (expr_code f pushed lo w e)
  expr_has f pushed lo w (node t n) = node_has f pushed lo w t n

  node_has : (f : Framed) (pushed lo : ℕ) (w : Wanted) (t : QTy) (n : Node) → Has f (node_sites t n) (node_code f pushed lo w t n)
  node_has f pushed lo w t (constant z) = has_free (even_free (constant_even w (width_in t) (residue_of z)))
  node_has f pushed lo w t null = has_free (even_free (constant_even w Ax 0))
  node_has f pushed lo w t (literal n) = wanted_has w (width_in t) (record { is = refl })
  node_has f pushed lo w t (object i) = wanted_has w (width_in t) (has_free (free_leaves (object_still f pushed i [])))
  node_has f pushed lo w t (func i) = wanted_has w (width_in t) (record { is = refl })
  node_has f pushed lo w t (deref e) = wanted_has w (width_in t) (expr_has f pushed lo Value e)
  node_has f pushed lo w t (member e m) = wanted_has w (width_in t) (has_behind (expr_has f pushed lo Value e) (free_leaves (offset_still (offset_at (types_of f.parts.types) (bare e) m) [])))
  node_has f pushed lo w t (load e) =
      let access : Access = access_of (types_of f.parts.types) e in
      element_has (element_at f e) (λ x. loaded_element w x (index_code f pushed lo e)) (λ x h. element_load_has w x (element_from f e x (λ y found. index_has f pushed lo e y found) h))
      (load_has w (place_of f pushed e) access (base_has f pushed lo (destination_of access) e))
  node_has f pushed lo w t (address e) = wanted_has w (width_in t) (expr_has f pushed lo Value e)
  node_has f pushed lo w t (decay e) = wanted_has w (width_in t) (expr_has f pushed lo Value e)
  node_has f pushed lo w t (convert e) =
      let same : Bool = same_truth (type_in t) (bare e) in
      conversion_has w same (type_in t) (kind_in e) (expr_has f pushed lo (handed same w) e)
  node_has f pushed lo w t (unary unaries.Not e) = truth_has w lo (expr_has f pushed (inner w lo) (Test (aimed w lo) (not (sense w))) e)
  node_has f pushed lo w t (unary op e) = wanted_has w (width_in t) (has_behind (expr_has f pushed lo Value e) (free_leaves (unary_still op (width_of (kind_in e)) [])))
  node_has f pushed lo w t (binary op a b) =
      let operands : Operands = operands_of f (bare a) (bare b) in
      let bytes : ℕ = waiting (width_of (computes operands)) in
      let operator : Operating = operating_of f pushed op operands a b in
      relation_has (relation_of op)
      (wanted_has w (width_in t) (operator_has Registers operator op operands (kind_in b) lo (operating_reached no_site f pushed op operands a b) (expr_has f pushed (lo + 1) Value a) (expr_has f (below_operand operator pushed bytes) (lo + 1 + uses None a) Value b)))
      (λ r.
      let q : Relation = relation_by (sense w) r in
      let how : Comparing = comparing_of f pushed q (computes operands) a b in
      let to : ℕ = aimed w lo in
      let own : ℕ = inner w lo in
      let next : ℕ = own + 1 + uses (tested_by q b) a in
      let below : ℕ = below_side how pushed bytes in
      truth_has w lo (comparison_has how op operands (kind_in b) (sense w) to own (comparing_reached no_site f pushed q (computes operands) a b)
      (either_has (takes_low how) (low_value_has f pushed (own + 1) a) (expr_has f pushed (own + 1) (wanted_by (tested_by q b) to) a))
      (either_has (takes_low how) (low_value_has f below next b) (expr_has f below next (wanted_by (tested_by q a) to) b))))
  node_has f pushed lo w t (both a b) =
      let straight : Bool = not (sense w) in
      let own : ℕ = inner w lo in
      let first : ℕ = own + way_labels straight in
      truth_has w lo (joined_has straight own (expr_has f pushed first (Test (way straight (aimed w lo) own) false) a) (expr_has f pushed (first + uses (Some false) a) (Test (aimed w lo) (sense w)) b))
  node_has f pushed lo w t (either a b) =
      let straight : Bool = sense w in
      let own : ℕ = inner w lo in
      let first : ℕ = own + way_labels straight in
      truth_has w lo (joined_has straight own (expr_has f pushed first (Test (way straight (aimed w lo) own) true) a) (expr_has f pushed (first + uses (Some true) a) (Test (aimed w lo) (sense w)) b))
  node_has f pushed lo w t (choice c a b) =
      let first : ℕ = lo + 2 + uses (Some false) c in
      wanted_has w (width_in t) (has_then (expr_has f pushed (lo + 2) (Test lo false) c) (has_then (expr_has f pushed first Value a) (has_line (Do Jmp Absolute (To (lo + 1))) refl (has_line (Label lo) refl (has_behind (expr_has f pushed (first + uses None a) Value b) (record { none = refl }))))))
  node_has f pushed lo w t (comma a b) = has_then (expr_has f pushed lo Value a) (expr_has f pushed (lo + uses None a) w b)
  node_has f pushed lo w t (assign a b) =
      let place : Place = place_of f pushed a in
      let how : Storing = storing_of f pushed a b in
      wanted_has w (width_in t) (assigned_has how place (access_of (types_of f.parts.types) a) (storing_reached no_site f pushed a b) (base_has f pushed lo (base_for how) a) (expr_has f (below_value how pushed place) (lo + uses None a) Value b))
  node_has f pushed lo w t (assign_op op k a b) = wanted_has w (width_in t) (compound_has pushed op (Numbers k) a b (base_has f pushed lo Registers a) (expr_has f (behind_open f pushed (Numbers k) a) (lo + uses None a) Value b))
  node_has f pushed lo w t (assign_step op a b) =
      let operands : Operands = PointerFirst (target_bytes f (bare a)) in
      wanted_has w (width_in t) (compound_has pushed op operands a b (base_has f pushed lo Registers a) (expr_has f (behind_open f pushed operands a) (lo + uses None a) Value b))
  node_has f pushed lo w t (step how e) =
      let place : Place = place_of f pushed e in
      wanted_has w (width_in t) (has_behind (base_has f pushed (lo + 1) Registers e) (free_leaves ((step_quiet {ok = λ l. true} how (target_bytes f (bare e)) (amount_of f how (bare e)) place (access_of (types_of f.parts.types) e) lo refl).still [])))
  node_has f pushed lo w t (copy a b) =
      wanted_has w (width_in t) (has_then (expr_has f pushed lo Value a) (has_before (free_leaves (push_leaves Ax [])) (has_behind (expr_has f (more pushed 2) (lo + uses None a) Value b) (free_leaves (copy_leaves (type_bytes f (type_in t)) [])))))
  node_has f pushed lo w t (call g es) =
      wanted_has w (width_in t) (call_has (named g) t g es refl (expr_has f pushed lo Value g) (args_has f pushed lo (is_fast (bare g)) es) (args_has f (more pushed 2) (lo + uses None g) (is_fast (bare g)) es))
  node_has f pushed lo w t (pack e) = wanted_has w (width_in t) (has_behind (base_has f pushed lo Registers e) (free_leaves (bytes_still (place_of f pushed e) (extent_by (type_bytes f (type_in t))) [])))
  node_has f pushed lo w t (spill i e) = wanted_has w (width_in t) (has_behind (expr_has f pushed lo Value e) (free_leaves (spill_still (object_code f pushed i) (extent_by (type_bytes f (type_in t))) (object_still f pushed i) [])))
  node_has f pushed lo w t further = wanted_has w (width_in t) (has_free (free_leaves (further_still f pushed [])))

  pub base_has : (f : Framed) (pushed lo : ℕ) (d : Destination) (e : Typed) → Has f (sites_of e) (base_code f pushed lo d e)
  base_has f pushed lo d (node t (literal n)) = has_none
  base_has f pushed lo d (node t (object i)) = target_has (object_place f pushed i) (arrived_has d (node_has f pushed lo Value t (object i)))
  base_has f pushed lo d (node t (deref e)) = pointer_base_has f pushed lo d e
  base_has f pushed lo d (node t (member e m)) =
      let n : ℕ = offset_at (types_of f.parts.types) (bare e) m in
      either_has (has_base (place_of f pushed e) n) (base_has f pushed lo d e) (has_behind (expr_has f pushed lo Value e) (free_append (free_leaves (offset_still n [])) (free_leaves (arrived_still d []))))
  base_has f pushed lo d (node t n) = arrived_has d (node_has f pushed lo Value t n)

  pointer_base_has : (f : Framed) (pushed lo : ℕ) (d : Destination) (e : Typed) → Has f (sites_of e) (pointer_base_code f pushed lo d e)
  pointer_base_has f pushed lo d (node t (binary op a b)) =
      let operands : Operands = operands_of f (bare a) (bare b) in
      let place : Place = target_of f pushed a in
      let operator : Operating = operating_of f pushed op operands a b in
      sum_has (sum_has_base place (added_bytes op operands (constant_in b))) lo (λ h. sum_reached no_site place op operands b h) (pointer_base_has f pushed (lo + 1) d a)
      (relation_has (relation_of op)
      (operator_has d operator op operands (kind_in b) lo (operating_reached no_site f pushed op operands a b) (expr_has f pushed (lo + 1) Value a) (expr_has f (below_operand operator pushed (waiting (width_of (computes operands)))) (lo + 1 + uses None a) Value b))
      (λ r. arrived_has d (node_has f pushed lo Value t (binary op a b))))
  pointer_base_has f pushed lo d (node t (address e)) = base_has f pushed lo d e
  pointer_base_has f pushed lo d (node t (decay e)) = base_has f pushed lo d e
  pointer_base_has f pushed lo d (node t n) = arrived_has d (node_has f pushed lo Value t n)

  low_value_has : (f : Framed) (pushed lo : ℕ) (e : Typed) → Has f (sites_of e) (low_value_code f pushed lo e)
  low_value_has f pushed lo (node t (convert e)) =
      byte_has (byte_in f pushed (node t (convert e))) (byte_sites f pushed (node t (convert e))) (either_has (is_number (type_in t) && is_number (bare e)) (low_value_has f pushed lo e) (node_has f pushed lo Value t (convert e)))
  low_value_has f pushed lo (node t (binary op a b)) =
      byte_has (byte_in f pushed (node t (binary op a b))) (byte_sites f pushed (node t (binary op a b)))
      (low_operand_has (low_operand f pushed op a b) (λ d. Label lo ∷ (low_value_code f pushed (lo + 1) a ++ first_byte_code op d))
      (λ d h. has_as (left_sites (sites_of a) (sites_of b) (calls_nothing f b (low_reads f pushed op a b d h).right.calls)) (has_line (Label lo) refl (has_behind (low_value_has f pushed (lo + 1) a) (even_free (first_even {X = No} op d)))))
      (node_has f pushed lo Value t (binary op a b)))
  low_value_has f pushed lo (node t (load e)) =
      byte_has (byte_in f pushed (node t (load e))) (byte_sites f pushed (node t (load e)))
      (element_has (element_at f e) (λ x. index_code f pushed lo e ++ element_byte_code x.0)
      (λ x h. has_behind (element_from f e x (λ y found. index_has f pushed lo e y found) h) (even_free (element_byte_even {X = No} x.0)))
      (low_load_has (behind_pointer (place_of f pushed e) (access_of (types_of f.parts.types) e)) (base_has f pushed lo Pointer e) (node_has f pushed lo Value t (load e))))
  low_value_has f pushed lo (node t n) = byte_has (byte_in f pushed (node t n)) (byte_sites f pushed (node t n)) (node_has f pushed lo Value t n)

  pub index_has : (f : Framed) (pushed lo : ℕ) (e : Typed) (x : Element) → element_of f e ≡ Some x → Has f (sites_of e) (index_code f pushed lo e)
  index_has f pushed lo (node t (deref e)) x h = sum_index_has f pushed lo e x h
  index_has f pushed lo (node t (member e m)) x h = onward_from (offset_at (types_of f.parts.types) (bare e) m) (element_of f e) x (λ y found. index_has f pushed lo e y found) h
  index_has f pushed lo (node t _) x h = absurd cc

  sum_index_has : (f : Framed) (pushed lo : ℕ) (e : Typed) (x : Element) → sum_element f e ≡ Some x → Has f (sites_of e) (sum_index_code f pushed lo e)
  sum_index_has f pushed lo (node t (binary op a b)) x h =
      has_as (right_sites (sites_of a) (sites_of b) (calls_nothing f a (sum_indexes f t op a b x h).array.calls)) (has_line (Label lo) refl (low_value_has f pushed (lo + 1) b))
  sum_index_has f pushed lo (node t _) x h = absurd cc

  args_has : (f : Framed) (pushed lo : ℕ) (fast : Bool) (es : Nodes) → Has f (args_sites es) (args_code f pushed lo fast es)
  args_has f pushed lo fast none = has_none
  args_has f pushed lo fast (some e es) =
      let kept : Bool = stays fast es in
      has_then (expr_has f pushed lo Value e) (has_before (free_leaves (argument_leaves f kept e [])) (args_has f (more pushed (arguments.argument_bytes kept (passed_size f e))) (lo + uses None e) fast es))

pub has_expression : (f : Framed) (pushed fresh : ℕ) (w : Wanted) (e : Typed) → Has f (sites_of e) (expr_code f pushed fresh w e)
has_expression f pushed fresh w e = expr_has f pushed fresh w e

pub expressions_call_in_order : ExpressionsCallInOrder
expressions_call_in_order f pushed fresh w e = (expr_has f pushed fresh w e).is
