-- The lines of an expression: its labels, its size, and the form of each line.
use Rattle.std.proofs.Common.{◌≡◌, ℕ, ◌+◌, ◌-◌, ◌*◌, ◌≤◌, Bool, true, false, not, Option, None, Some, List, [], ◌∷◌, ◌++◌, add-zero, refl, sym, ap, arith}
use Rattle.std.specs.Prelude.{◌&&◌, nat_lt, if◌then◌else◌}
use Rattle.c65_base.specs.declared.operators.BinaryOp.{BinaryOp}
use Rattle.c65_base.specs.declared.operators.UnaryOp.{UnaryOp}
use Rattle.c65_base.specs.declared.operators.UnaryOp.TheVariants as unary_ops
use Rattle.c65_ints.specs.declared.types.IntType.{IntType}
use Rattle.c65_ints.specs.declared.types.IntType.TheVariants as ints
use Rattle.c65_ctype.specs.Trees.{QTy, TypesTy, type_in}
use Rattle.c65_ctype.specs.Views.{types_of}
use Rattle.c65_csem.specs.Trees.{Typed, node, Node, constant, null, literal, object, func, deref, member, load, address, decay, convert, unary, binary, both, either, choice, comma, assign, assign_op, assign_step, step, copy, call, pack, spill, rest as further, Nodes, none, some}
use Rattle.c65_code.specs.declared.line.Line.{Line}
use Rattle.c65_code.specs.declared.line.Line.TheVariants.{Label}
use Rattle.c65_code.specs.declared.routine.Width.TheVariants.{Ax}
use Rattle.c65_genframe.specs.Symbols.{numbers_of, literal_symbol, function_symbol}
use Rattle.c65_genframe.specs.Frames.{Framed, type_bytes}
use Rattle.c65_genwide.specs.Wide.{width_of}
use Rattle.c65_genload.specs.declared.places.Place.{Place}
use Rattle.c65_genload.specs.declared.places.Place.TheVariants as places
use Rattle.c65_genload.specs.declared.places.Access.{Access}
use Rattle.c65_genload.specs.declared.places.Access.TheVariants.{Whole, Part}
use Rattle.c65_genfield.specs.Bits.{byte_field}
use Rattle.c65_genload.specs.Places.{extent_by}
use Rattle.c65_genload.specs.Places as loads
use Rattle.c65_genload.specs.Conversions.{waiting, size_of}
use Rattle.c65_gendirect.specs.declared.relation.Relation.{Relation}
use Rattle.c65_gendirect.specs.Compare.{relation_of}
use Rattle.c65_genexpr.specs.declared.types.Outcome.{Outcome}
use Rattle.c65_genexpr.specs.declared.destination.Destination.{Destination}
use Rattle.c65_genexpr.specs.declared.destination.Destination.TheVariants.{Registers, Pointer}
use Rattle.c65_genexpr.specs.declared.operands.Operands.{Operands}
use Rattle.c65_genexpr.specs.declared.operands.Operands.TheVariants.{Numbers, PointerFirst}
use Rattle.c65_genexpr.specs.declared.comparing.Comparing.{Comparing}
use Rattle.c65_genexpr.specs.declared.operating.Operating.{Operating}
use Rattle.c65_genexpr.specs.declared.storing.Storing.{Storing}
use Rattle.c65_genexpr.specs.declared.storing.Storing.TheVariants as storing
use Rattle.c65_genexpr.specs.declared.wanted.Wanted.{Wanted}
use Rattle.c65_genexpr.specs.declared.wanted.Wanted.TheVariants.{Value, Test}
use Rattle.c65_genexpr.specs.Types.{kind_of, outcome_of, kind_in, bare, offset_at, bits_at, field_or, access_of, target_bytes}
use Rattle.c65_genexpr.specs.Places.{more, has_base, added_bytes, sum_has_base, object_place, place_of, target_of, object_code, target_code}
use Rattle.c65_genexpr.specs.Operands.{residue_of, constant_in, operands_of, computes, unary_code, same_truth}
use Rattle.c65_genexpr.specs.Direct.{kept_at}
use Rattle.c65_genexpr.specs.declared.elements.Element.{Element}
use Rattle.c65_genexpr.specs.Elements.{sum_element, element_of, element_at, element_or, loaded_element, element_byte_code}
use Rattle.c65_genexpr.specs.Lows.{is_number, byte_in, low_operand, low_operand_or, behind_pointer, low_load_by}
use Rattle.c65_gendirect.specs.declared.bytes.OperandByte.{OperandByte}
use Rattle.c65_gendirect.specs.Words.{first_byte_code}
use Rattle.c65_genload.specs.declared.places.Extent.TheVariants.{One}
use Rattle.c65_genexpr.specs.Wanted.{sense_of, wanted_by, handed, handed_sense, wanted, aimed, sense, truth_labels, inner, truth_by, is_straight, way, way_labels}
use Rattle.c65_genexpr.specs.Comparing.{relation_by, tested_by, comparing_of, takes_low, low_code, below_side}
use Rattle.c65_genexpr.specs.Operating.{operating_of, below_operand}
use Rattle.c65_genexpr.specs.Destination.{arrived, destination_of}
use Rattle.c65_genexpr.specs.Storing.{storing_of, below_value, base_for, assigned_by}
use Rattle.c65_genexpr.specs.Steps.{amount_of}
use Rattle.c65_genexpr.specs.Arguments.{is_fast, is_counted, stays, passed_size, passed_of, argument_bytes}
use Rattle.c65_genexpr.specs.Calls.{named}
use Rattle.c65_genexpr.specs.Uses.{unless_named, by_relation, uses, node_uses, args_uses, comparison_uses}
use Rattle.c65_genexpr.specs.Code.{width_in, load_by, behind_open, compound, call_by, expr_code, node_code, base_code, pointer_base_code, args_code, operator_code, comparison_code, low_value_code, index_code, sum_index_code}
use Rattle.c65_gen_law_lines.specs.Bulk.{nodes, nodes_in}
use Rattle.c65_gen_law_lines.specs.Labels.{aims, may_lead}
use Rattle.c65_gen_law_lines.specs.Laws.{ExpressionsOwnTheirLabels, ExpressionsAreSmall, ExpressionsAreFit}
use Rattle.c65_gen_law_lines.proofs.Made.{all_fit, among_split, among_one, among_none, piece_append, stretch_then, stretch_label, stretch_made, made_stretch, leads_within, leads_inner, once_at, Made, made_piece, made_append, made_behind, made_before, made_wider, made_as, made_none, leads_outer}
use Rattle.c65_gen_law_lines.proofs.Pieces.{narrow_piece, keep_piece, byte_behind_piece, word_behind_piece, read_bytes_piece, byte_through_piece, word_through_piece, by_access, passing_by, passing, part_piece, spill_piece, further_piece, symbol_piece, object_piece, offset_piece, unary_piece, push_piece, hold_piece, store_piece, copy_piece, open_piece, close_piece, named_piece, pointer_piece, argument_piece, direct_piece}
use Rattle.c65_gen_law_lines.proofs.Pointed.{arrived_piece, fetch_piece, behind_pointer_piece}
use Rattle.c65_gen_law_lines.proofs.Quiet.{Quiet, made_still}
use Rattle.c65_gen_law_lines.proofs.Directs.{loaded_quiet, first_quiet}
use Rattle.c65_gen_law_lines.proofs.Elements.{Indexes, sum_indexes, onward_from, element_from, Reads, byte_idle, low_reads, element_value_quiet, element_test_quiet, element_byte_quiet}
use Rattle.c65_gen_law_lines.proofs.StepForms.{step_quiet}
use Rattle.c65_gen_law_lines.proofs.Drops.{comparing_uses, low_left, low_right, Unstored, storing_uses, sum_uses, operating_uses}
use Rattle.c65_gen_law_lines.proofs.Wants.{made_from, made_closed, wanted_made, constant_made, test_part, tested_made, converted_made, truth_made, joined_made, comparison_made, operator_made, choice_made}

-- ---- places that are known

-- the address of an object, where it takes lines
target_made : {outside : List ℕ} {lo k : ℕ} {code : List Line} (p : Place) → Made outside lo 0 k code → Made outside lo 0 k (target_code p code)
target_made (places.Far at) made = made
target_made (places.Bank b) made = made_none
target_made (places.Near at) made = made_none
target_made (places.Data s at) made = made_none

-- ---- sizes

pub some_nodes : (e : Typed) → 1 ≤ nodes e
some_nodes (node t (constant z)) = omega arith
some_nodes (node t null) = omega arith
some_nodes (node t (literal n)) = omega arith
some_nodes (node t (object i)) = omega arith
some_nodes (node t (func i)) = omega arith
some_nodes (node t (deref e)) = omega arith
some_nodes (node t (member e m)) = omega arith
some_nodes (node t (load e)) = omega arith
some_nodes (node t (address e)) = omega arith
some_nodes (node t (decay e)) = omega arith
some_nodes (node t (convert e)) = omega arith
some_nodes (node t (unary op e)) = omega arith
some_nodes (node t (binary op a b)) = omega arith
some_nodes (node t (both a b)) = omega arith
some_nodes (node t (either a b)) = omega arith
some_nodes (node t (choice c a b)) = omega arith
some_nodes (node t (comma a b)) = omega arith
some_nodes (node t (assign a b)) = omega arith
some_nodes (node t (assign_op op k a b)) = omega arith
some_nodes (node t (assign_step op a b)) = omega arith
some_nodes (node t (step how e)) = omega arith
some_nodes (node t (copy a b)) = omega arith
some_nodes (node t (call g es)) = omega arith
some_nodes (node t (pack e)) = omega arith
some_nodes (node t (spill i e)) = omega arith
some_nodes (node t further) = omega arith

-- A member takes few lines, which leaves room for the lines of a bit-field; and so do the bytes of a structure, which leaves room
-- to push three of them.
abbrev pub slack : Typed → ℕ
slack (node t (member e m)) = 104
slack (node t (pack e)) = 13
slack _ = 0

-- a member has at least two nodes
pub slack_fits : (e : Typed) → 3 + slack e ≤ 128 * nodes e
slack_fits (node t (member e m)) = omega (arith, some_nodes e)
slack_fits (node t (pack e)) = omega (arith, some_nodes e)
slack_fits (node t n) = omega (arith, some_nodes (node t n))

-- what is left of 128 bytes a node when an argument is pushed
abbrev pub room : Typed → ℕ
room e = 128 * nodes e - (3 + slack e)

passing_few : (a b c : Bool) → passing_by a b c ≤ 16
passing_few true b c = omega arith
passing_few false true c = omega arith
passing_few false false true = omega arith
passing_few false false false = omega arith

passing_number : (kind : IntType) → passing (size_of kind) ≤ 3
passing_number ints.SChar = omega arith
passing_number ints.UChar = omega arith
passing_number ints.Short = omega arith
passing_number ints.UShort = omega arith
passing_number ints.Int = omega arith
passing_number ints.UInt = omega arith
passing_number ints.Long = omega arith
passing_number ints.ULong = omega arith

-- only the bytes of a structure may be three
passing_fits : (f : Framed) (e : Typed) → passing (passed_size f e) ≤ 3 + slack e
passing_fits f (node t (pack e)) =
    let n : ℕ = passed_size f (node t (pack e)) in
    omega (arith, passing_few (nat_lt n 2) (nat_lt n 3) (nat_lt n 4))
passing_fits f (node t n) = omega (arith, passing_number (kind_of (type_in t)))

field_fits : (whole part : ℕ) (kind : IntType) (bits : Option (ℕ × ℕ)) → whole ≤ part → by_access whole part (field_or kind bits) ≤ part
field_fits whole part kind None le = le
field_fits whole part kind (Some bits) le = omega arith

-- what is kept in a whole object takes fewer lines than a bit-field, which is a member
access_fits : (whole part : ℕ) (types : TypesTy) (e : Typed) → whole ≤ part → part ≤ whole + 104 → by_access whole part (access_of types e) ≤ whole + slack e
access_fits whole part types (node t (member e m)) le most = omega (arith, most, field_fits whole part (kind_of (type_in t)) (bits_at types (bare e) m) le)
access_fits whole part types (node t _) le most = omega arith

-- ---- nodes over lines that are given

assigned_made : {lo n m j k w : ℕ} {a b : List Line} (how : Storing) (place : Place) (access : Access) → Unstored how (n ≡ 0) (m ≡ 0) → by_access 19 86 access ≤ w → Made [] lo n j a → Made [] (lo + n) m k b
    → Made [] lo (n + m) (j + k + (25 + w)) (assigned_by how place access a b)
assigned_made (storing.Left at stored) place access unread le ma mb = made_as (omega (arith, unread)) (made_wider (made_behind ma (piece_append 18 3 _ _ (read_bytes_piece at stored) (narrow_piece (loads.type_in access)))) (omega arith))
assigned_made (storing.RightByte at low high) place access unread le ma mb =
    made_as (omega (arith, unread)) (made_from (omega (arith, unread)) (made_wider (made_behind mb (piece_append 22 3 _ _ (byte_through_piece at low high) (narrow_piece (loads.type_in access)))) (omega arith)))
assigned_made (storing.RightWord at low high) place access unread le ma mb = made_as (omega (arith, unread)) (made_from (omega (arith, unread)) (made_wider (made_behind mb (word_through_piece at low high)) (omega arith)))
assigned_made (storing.HeldByte at) place access unread le ma mb =
    made_wider (made_append ma (made_before keep_piece (made_behind mb (piece_append 4 3 _ _ (byte_behind_piece at) (narrow_piece (loads.type_in access)))))) (omega arith)
assigned_made (storing.HeldWord at) place access unread le ma mb = made_wider (made_append ma (made_before keep_piece (made_behind mb (word_behind_piece at)))) (omega arith)
assigned_made storing.Stacked place access unread le ma mb = made_wider (made_append ma (made_before (hold_piece place) (made_behind mb (store_piece place access)))) (omega (arith, le))

-- a step has a label of its own
stepped_made : {lo n j k : ℕ} {base lines : List Line} → Made [] (lo + 1) n j base → Quiet (may_lead lo (1 + n) []) (once_at lo) k lines → Made [] lo (1 + n) (j + k) (base ++ lines)
stepped_made {lo = lo} {n = n} made quiet = made_stretch
    (stretch_then (stretch_made made (leads_within [] (lo + 1) n lo (1 + n) (omega arith) (omega arith)) refl) quiet.part)
    (λ l. omega (arith, among_split lo 1 n l, among_one lo l))

-- a part, or a whole
either_made : {lo n k : ℕ} {a b : List Line} (c : Bool) → Made [] lo n k a → Made [] lo n k b → Made [] lo n k (if c then a else b)
either_made true ma mb = ma
either_made false ma mb = mb

-- the label of a sum that is left out
pub labelled_made : {lo n k : ℕ} {a : List Line} → Made [] (lo + 1) n k a → Made [] lo (1 + n) k (Label lo ∷ a)
labelled_made {lo = lo} {n = n} m = made_wider (made_stretch
    (stretch_then (stretch_label lo) (stretch_made m (leads_within [] (lo + 1) n lo (1 + n) (omega arith) (omega arith)) refl))
    (λ l. omega (arith, among_split lo 1 n l, among_one lo l)))
    (omega arith)

sum_made : {lo n m k : ℕ} {a b : List Line} (c : Bool) → (c ≡ true → n ≡ 1 + m) → Made [] (lo + 1) m k a → Made [] lo n k b → Made [] lo n k (if c then Label lo ∷ a else b)
sum_made true same ma mb = made_as (sym (same refl)) (labelled_made ma)
sum_made false same ma mb = mb

open_and_close : (access : Access) → by_access 37 54 access + by_access 41 108 access ≤ by_access 78 162 access
open_and_close (Whole kind) = omega arith
open_and_close (Part field) = omega arith

compound_made : {lo m j k : ℕ} {left right : List Line} (f : Framed) (pushed : ℕ) (op : BinaryOp) (operands : Operands) (a b : Typed) → Made [] lo (uses None a) j left → Made [] (lo + uses None a) m k right → Made [] lo (uses None a + m) (j + k + (78 + slack a)) (compound f pushed op operands a b left right)
compound_made f pushed op operands a b ma mb =
    let place : Place = place_of f pushed a in
    let access : Access = access_of (types_of f.parts.types) a in
    made_wider (made_append ma (made_before (open_piece place access (computes operands)) (made_behind mb (close_piece op operands (kind_in b) place access))))
    (omega (arith, open_and_close access, access_fits 78 162 (types_of f.parts.types) a (omega arith) (omega arith)))

call_made : {lo u j k : ℕ} {callee args above : List Line} (f : Framed) (n : Option ℕ) (given : Outcome) (g : Typed) (es : Nodes) → Made [] lo u j callee → Made [] lo (args_uses es) k args → Made [] (lo + u) (args_uses es) k above → Made [] lo (unless_named n u + args_uses es) (j + k + 65) (call_by f n given g es callee args above)
call_made f (Some i) given g es mc ma mb = made_as (omega arith) (made_wider (made_behind ma (named_piece f i (is_counted (bare g)) (passed_of f (is_fast (bare g)) es) given)) (omega arith))
call_made f None given g none mc ma mb = made_as (omega arith) (made_wider (made_behind mc (direct_piece (is_counted (bare g)) (passed_of f (is_fast (bare g)) none) given)) (omega arith))
call_made f None given g (some e more_args) mc ma mb =
    let es : Nodes = some e more_args in
    made_wider (made_append mc (made_before (push_piece Ax) (made_behind mb (pointer_piece (is_counted (bare g)) (passed_of f (is_fast (bare g)) es) given)))) (omega arith)

some_load : (access : Access) → 4 ≤ by_access 19 36 access
some_load (Whole kind) = omega arith
some_load (Part field) = omega arith

-- a load, or a test of what is kept
load_made : {lo n k w : ℕ} {a : List Line} (wants : Wanted) (place : Place) (access : Access) → by_access 19 36 access ≤ w → Made [] lo n k a → Made (aims wants) lo n (k + w + 19) (load_by wants place access a)
load_made Value place access le m = made_wider (made_behind m (fetch_piece place access)) (omega (arith, le))
load_made {lo = lo} {n = n} (Test to s) place access le m =
    tested_made (kept_at place access) (loads.type_in access) s to (omega (arith, le, some_load access)) (omega (arith, le)) m (test_part (byte_field access) place access s to (leads_outer lo n to))

-- an element, or a test of it
element_load_made : {lo n k : ℕ} {index : List Line} (w : Wanted) (x : Element × IntType) → Made [] lo n k index → Made (aims w) lo n (k + 103) (loaded_element w x index)
element_load_made Value x m = made_wider (made_still m (element_value_quiet x.0 x.1)) (omega arith)
element_load_made {lo = lo} {n = n} (Test to s) x m = made_still (made_closed (to ∷ []) m) (element_test_quiet x.0 x.1 s to (leads_outer lo n to))

-- an element, or a place that is none
element_made : {outside : List ℕ} {lo n k : ℕ} {whole : List Line} (o : Option (Element × IntType)) (code : Element × IntType → List Line) → ((x : Element × IntType) → o ≡ Some x → Made outside lo n k (code x)) → Made outside lo n k whole → Made outside lo n k (element_or o code whole)
element_made None code found other = other
element_made (Some x) code found other = found x refl

-- ---- low bytes

-- behind a value that is read where it lies, or the lines of it
low_made_by : {lo n k : ℕ} {code : List Line} (o : Option OperandByte) → 4 ≤ k → ((d : OperandByte) → o ≡ Some d → n ≡ 0) → Made [] lo n k code → Made [] lo n k (low_code o code)
low_made_by None few free m = m
low_made_by {lo = lo} (Some d) few free m = made_as (sym (free d refl)) (made_wider (made_stretch (loaded_quiet d).part (λ l. sym (among_none lo l))) few)

-- an operator with an operand that is read
low_operand_made : {lo n k : ℕ} {whole : List Line} (o : Option OperandByte) (code : OperandByte → List Line) → ((d : OperandByte) → o ≡ Some d → Made [] lo n k (code d)) → Made [] lo n k whole → Made [] lo n k (low_operand_or o code whole)
low_operand_made None code found other = other
low_operand_made (Some d) code found other = found d refl

low_load_made : {lo n j k : ℕ} {base other : List Line} (o : Option ℕ) → j + 8 ≤ k → Made [] lo n j base → Made [] lo n k other → Made [] lo n k (low_load_by o base other)
low_load_made None le mb mo = mo
low_load_made (Some at) le mb mo = made_wider (made_behind mb (behind_pointer_piece at One)) le

-- ---- the whole tree

leaf : {outside : List ℕ} {lo k : ℕ} {code : List Line} (e : Typed) → k + 3 ≤ 128 → slack e ≡ 0 → Made outside lo 0 k code → Made outside lo 0 (room e) code
leaf e le flat m = made_wider m (omega (arith, some_nodes e))

handed_is : (same : Bool) (w : Wanted) → sense_of (handed same w) ≡ handed_sense same (sense_of w)
handed_is same Value = refl
handed_is true (Test to s) = refl
handed_is false (Test to s) = refl

unary_made : {lo : ℕ} {code : List Line} (w : Wanted) (t : QTy) (op : UnaryOp) (e : Typed) → Made [] lo (uses None e) (room e) code → Made (aims w) lo (uses None e) (room (node t (unary op e))) (wanted w (width_in t) (code ++ unary_code op (width_of (kind_in e))))
unary_made w t op e m = made_wider (wanted_made w (width_in t) (made_behind m (unary_piece op (width_of (kind_in e))))) (omega (arith, some_nodes e))

-- a side of which a value or a test is wanted
tested_side : {lo k : ℕ} {code : List Line} (e : Typed) (s : Option Bool) (to : ℕ) → Made (aims (wanted_by s to)) lo (uses (sense_of (wanted_by s to)) e) k code → Made (to ∷ []) lo (uses s e) k code
tested_side e None to m = made_closed (to ∷ []) m
tested_side e (Some s) to m = m

-- a side, or the low byte of it
side_made : {to lo n m k : ℕ} {low whole : List Line} (b : Bool) → (b ≡ true → n ≡ m) → Made [] lo n k low → Made (to ∷ []) lo m k whole → Made (to ∷ []) lo m k (if b then low else whole)
side_made {to = to} true same ml mw = made_as (same refl) (made_closed (to ∷ []) ml)
side_made false same ml mw = mw

-- the lines of an expression for each place of its labels and whatever is wanted
abbrev Parts : Framed → Typed → Type 0
Parts f e = (pushed lo : ℕ) (w : Wanted) → Made (aims w) lo (uses (sense_of w) e) (room e) (expr_code f pushed lo w e)

-- and those of its low byte
abbrev Lows : Framed → Typed → Type 0
Lows f e = (pushed lo : ℕ) → Made [] lo (uses None e) (room e) (low_value_code f pushed lo e)

binary_made : (f : Framed) (pushed lo : ℕ) (w : Wanted) (t : QTy) (op : BinaryOp) (a b : Typed) → Parts f a → Parts f b → Lows f a → Lows f b → (r : Option Relation)
    → Made (aims w) lo (by_relation r (1 + (uses None a + uses None b)) (λ q. truth_labels (sense_of w) + comparison_uses (relation_by (sense w) q) a b)) (room (node t (binary op a b)))
    (by_relation r (wanted w (width_in t) (operator_code f pushed lo Registers op a b)) (λ q. truth_by w lo (comparison_code f pushed (inner w lo) (aimed w lo) (sense w) op q a b)))
binary_made f pushed lo w t op a b ma mb la lb None =
    let operands : Operands = operands_of f (bare a) (bare b) in
    let how : Operating = operating_of f pushed op operands a b in
    made_wider (wanted_made w (width_in t) (operator_made Registers how op operands (kind_in b) lo (operating_uses f pushed op operands a b) (ma pushed (lo + 1) Value) (mb (below_operand how pushed (waiting (width_of (computes operands)))) (lo + 1 + uses None a) Value))) (omega (arith, some_nodes a, some_nodes b))
binary_made f pushed lo w t op a b ma mb la lb (Some r) =
    let operands : Operands = operands_of f (bare a) (bare b) in
    let q : Relation = relation_by (sense w) r in
    let how : Comparing = comparing_of f pushed q (computes operands) a b in
    let to : ℕ = aimed w lo in
    let own : ℕ = inner w lo in
    let below : ℕ = below_side how pushed (waiting (width_of (computes operands))) in
    let behind : ℕ = own + 1 + uses (tested_by q b) a in
    made_wider (truth_made w lo (comparison_made how op operands (kind_in b) (sense w) to own (comparing_uses f pushed q (computes operands) a b)
    (side_made (takes_low how) (λ h. ap (λ s. uses s a) (sym (low_left f pushed q (computes operands) a b h))) (la pushed (own + 1)) (tested_side a (tested_by q b) to (ma pushed (own + 1) (wanted_by (tested_by q b) to))))
    (side_made (takes_low how) (λ h. ap (λ s. uses s b) (sym (low_right f pushed q (computes operands) a b h))) (lb below behind) (tested_side b (tested_by q a) to (mb below behind (wanted_by (tested_by q a) to)))))) (omega (arith, some_nodes a, some_nodes b))

-- a sum goes straight to where its address is wanted; a comparison, which is none, has its lines
sum_base_made : (f : Framed) (pushed lo : ℕ) (d : Destination) (t : QTy) (op : BinaryOp) (a b : Typed) → Parts f a → Parts f b → (r : Option Relation)
    → Made [] lo (by_relation r (1 + (uses None a + uses None b)) (λ q. truth_labels None + comparison_uses (relation_by false q) a b)) (room (node t (binary op a b))) (node_code f pushed lo Value t (binary op a b))
    → Made [] lo (by_relation r (1 + (uses None a + uses None b)) (λ q. truth_labels None + comparison_uses (relation_by false q) a b)) (room (node t (binary op a b)) + 4)
    (by_relation r (operator_code f pushed lo d op a b) (λ q. node_code f pushed lo Value t (binary op a b) ++ arrived d))
sum_base_made f pushed lo d t op a b ma mb None whole =
    let operands : Operands = operands_of f (bare a) (bare b) in
    let how : Operating = operating_of f pushed op operands a b in
    made_wider (operator_made d how op operands (kind_in b) lo (operating_uses f pushed op operands a b) (ma pushed (lo + 1) Value) (mb (below_operand how pushed (waiting (width_of (computes operands)))) (lo + 1 + uses None a) Value)) (omega (arith, some_nodes a, some_nodes b))
sum_base_made f pushed lo d t op a b ma mb (Some r) whole = made_behind whole (arrived_piece d)

some_room : (e : Typed) → 4 ≤ room e
some_room (node t (member e m)) = omega (arith, some_nodes e)
some_room (node t (pack e)) = omega (arith, some_nodes e)
some_room (node t n) = omega (arith, some_nodes (node t n))

-- one label beside those of the operand that takes lines
read_uses : (f : Framed) (t : QTy) (op : BinaryOp) (a b : Typed) → Reads f op b → 1 + uses None a ≡ uses None (node t (binary op a b))
read_uses f t op a b r = sym (rw (r.alone, r.right.uses, add-zero) refl)

index_uses : (f : Framed) (t : QTy) (op : BinaryOp) (a b : Typed) → Indexes f op a → 1 + uses None b ≡ uses None (node t (binary op a b))
index_uses f t op a b r = sym (rw (r.alone, r.array.uses) (omega arith))

mutual
  pub expr_made : (f : Framed) (pushed lo : ℕ) (w : Wanted) (e : Typed) → Made (aims w) lo (uses (sense_of w) e) (room e) (expr_code f pushed lo w e)
  expr_made f pushed lo w (node t n) = node_made f pushed lo w t n

  node_made : (f : Framed) (pushed lo : ℕ) (w : Wanted) (t : QTy) (n : Node) → Made (aims w) lo (node_uses (sense_of w) t n) (room (node t n)) (node_code f pushed lo w t n)
  node_made f pushed lo w t (constant z) = leaf (node t (constant z)) (omega arith) refl (constant_made w (width_in t) (residue_of z))
  node_made f pushed lo w t null = leaf (node t null) (omega arith) refl (constant_made w Ax 0)
  node_made f pushed lo w t (literal n) = leaf (node t (literal n)) (omega arith) refl (wanted_made w (width_in t) (made_piece (symbol_piece (literal_symbol (numbers_of f.parts) n) 0)))
  node_made f pushed lo w t (object i) = leaf (node t (object i)) (omega arith) refl (wanted_made w (width_in t) (made_piece (object_piece f pushed i)))
  node_made f pushed lo w t (func i) = leaf (node t (func i)) (omega arith) refl (wanted_made w (width_in t) (made_piece (symbol_piece (function_symbol (numbers_of f.parts) i) 0)))
  node_made f pushed lo w t (deref e) = made_wider (wanted_made w (width_in t) (expr_made f pushed lo Value e)) (omega (arith, some_nodes e))
  node_made f pushed lo w t (member e m) = made_wider (wanted_made w (width_in t) (made_behind (expr_made f pushed lo Value e) (offset_piece (offset_at (types_of f.parts.types) (bare e) m)))) (omega (arith, some_nodes e))
  node_made f pushed lo w t (load e) =
      let place : Place = place_of f pushed e in
      let access : Access = access_of (types_of f.parts.types) e in
      element_made (element_at f e) (λ x. loaded_element w x (index_code f pushed lo e)) (λ x h. made_wider (element_load_made w x (element_from f e x (λ y found. index_made f pushed lo e y found) h)) (omega (arith, some_nodes e)))
      (made_wider (load_made w place access (access_fits 19 36 (types_of f.parts.types) e (omega arith) (omega arith)) (base_made f pushed lo (destination_of access) e)) (omega (arith, some_nodes e, slack_fits e)))
  node_made f pushed lo w t (address e) = made_wider (wanted_made w (width_in t) (expr_made f pushed lo Value e)) (omega (arith, some_nodes e))
  node_made f pushed lo w t (decay e) = made_wider (wanted_made w (width_in t) (expr_made f pushed lo Value e)) (omega (arith, some_nodes e))
  node_made f pushed lo w t (convert e) =
      let same : Bool = same_truth (type_in t) (bare e) in
      made_as (ap (λ s. uses s e) (handed_is same w)) (made_wider (converted_made w same (type_in t) (kind_in e) (expr_made f pushed lo (handed same w) e)) (omega (arith, some_nodes e)))
  node_made f pushed lo w t (unary unary_ops.Not e) = made_wider (truth_made w lo (expr_made f pushed (inner w lo) (Test (aimed w lo) (not (sense w))) e)) (omega (arith, some_nodes e))
  node_made f pushed lo w t (unary unary_ops.Neg e) = unary_made w t unary_ops.Neg e (expr_made f pushed lo Value e)
  node_made f pushed lo w t (unary unary_ops.BitNot e) = unary_made w t unary_ops.BitNot e (expr_made f pushed lo Value e)
  node_made f pushed lo w t (unary unary_ops.Plus e) = unary_made w t unary_ops.Plus e (expr_made f pushed lo Value e)
  node_made f pushed lo w t (unary unary_ops.Deref e) = unary_made w t unary_ops.Deref e (expr_made f pushed lo Value e)
  node_made f pushed lo w t (unary unary_ops.Address e) = unary_made w t unary_ops.Address e (expr_made f pushed lo Value e)
  node_made f pushed lo w t (binary op a b) = binary_made f pushed lo w t op a b (λ p l v. expr_made f p l v a) (λ p l v. expr_made f p l v b) (λ p l. low_made f p l a) (λ p l. low_made f p l b) (relation_of op)
  node_made f pushed lo w t (both a b) =
      let straight : Bool = is_straight false (sense w) in
      let own : ℕ = inner w lo in
      let first : ℕ = own + way_labels straight in
      made_wider (truth_made w lo (joined_made straight (aimed w lo) own (expr_made f pushed first (Test (way straight (aimed w lo) own) false) a) (expr_made f pushed (first + uses (Some false) a) (Test (aimed w lo) (sense w)) b))) (omega (arith, some_nodes a, some_nodes b))
  node_made f pushed lo w t (either a b) =
      let straight : Bool = is_straight true (sense w) in
      let own : ℕ = inner w lo in
      let first : ℕ = own + way_labels straight in
      made_wider (truth_made w lo (joined_made straight (aimed w lo) own (expr_made f pushed first (Test (way straight (aimed w lo) own) true) a) (expr_made f pushed (first + uses (Some true) a) (Test (aimed w lo) (sense w)) b))) (omega (arith, some_nodes a, some_nodes b))
  node_made f pushed lo w t (choice c a b) =
      let first : ℕ = lo + 2 + uses (Some false) c in
      made_wider (wanted_made w (width_in t) (choice_made lo (expr_made f pushed (lo + 2) (Test lo false) c) (expr_made f pushed first Value a) (expr_made f pushed (first + uses None a) Value b))) (omega (arith, some_nodes c, some_nodes a, some_nodes b))
  node_made f pushed lo w t (comma a b) = made_wider (made_append (made_closed (aims w) (expr_made f pushed lo Value a)) (expr_made f pushed (lo + uses None a) w b)) (omega (arith, some_nodes a, some_nodes b))
  node_made f pushed lo w t (assign a b) =
      let place : Place = place_of f pushed a in
      let access : Access = access_of (types_of f.parts.types) a in
      let how : Storing = storing_of f pushed a b in
      made_wider (wanted_made w (width_in t) (assigned_made how place access (storing_uses f pushed a b) (access_fits 19 86 (types_of f.parts.types) a (omega arith) (omega arith)) (base_made f pushed lo (base_for how) a) (expr_made f (below_value how pushed place) (lo + uses None a) Value b))) (omega (arith, some_nodes a, some_nodes b, slack_fits a))
  node_made f pushed lo w t (assign_op op k a b) =
      made_wider (wanted_made w (width_in t) (compound_made f pushed op (Numbers k) a b (base_made f pushed lo Registers a) (expr_made f (behind_open f pushed (Numbers k) a) (lo + uses None a) Value b))) (omega (arith, some_nodes a, some_nodes b, slack_fits a))
  node_made f pushed lo w t (assign_step op a b) =
      let operands : Operands = PointerFirst (target_bytes f (bare a)) in
      made_wider (wanted_made w (width_in t) (compound_made f pushed op operands a b (base_made f pushed lo Registers a) (expr_made f (behind_open f pushed operands a) (lo + uses None a) Value b))) (omega (arith, some_nodes a, some_nodes b, slack_fits a))
  node_made f pushed lo w t (step how e) =
      let place : Place = place_of f pushed e in
      let access : Access = access_of (types_of f.parts.types) e in
      made_wider (wanted_made w (width_in t) (stepped_made (base_made f pushed (lo + 1) Registers e) (step_quiet how (target_bytes f (bare e)) (amount_of f how (bare e)) place access lo (leads_inner [] lo (1 + uses None e) lo (omega arith) (omega arith))))) (omega (arith, some_nodes e, access_fits 92 196 (types_of f.parts.types) e (omega arith) (omega arith), slack_fits e))
  node_made f pushed lo w t (copy a b) =
      made_wider (wanted_made w (width_in t) (made_append (expr_made f pushed lo Value a) (made_before (push_piece Ax) (made_behind (expr_made f (more pushed 2) (lo + uses None a) Value b) (copy_piece (type_bytes f (type_in t))))))) (omega (arith, some_nodes a, some_nodes b))
  node_made f pushed lo w t (call g es) =
      made_wider (wanted_made w (width_in t) (call_made f (named g) (outcome_of f (type_in t)) g es (expr_made f pushed lo Value g) (args_made f pushed lo (is_fast (bare g)) es) (args_made f (more pushed 2) (lo + uses None g) (is_fast (bare g)) es))) (omega (arith, some_nodes g))
  node_made f pushed lo w t (pack e) =
      let place : Place = place_of f pushed e in
      made_wider (wanted_made w (width_in t) (made_behind (base_made f pushed lo Registers e) (part_piece place (extent_by (type_bytes f (type_in t)))))) (omega (arith, some_nodes e))
  node_made f pushed lo w t (spill i e) =
      made_wider (wanted_made w (width_in t) (made_behind (expr_made f pushed lo Value e) (spill_piece (object_code f pushed i) (extent_by (type_bytes f (type_in t))) (object_piece f pushed i)))) (omega (arith, some_nodes e))
  node_made f pushed lo w t further = leaf (node t further) (omega arith) refl (wanted_made w (width_in t) (made_piece (further_piece f pushed)))

  pub base_made : (f : Framed) (pushed lo : ℕ) (d : Destination) (e : Typed) → Made [] lo (uses None e) (room e + 4) (base_code f pushed lo d e)
  base_made f pushed lo d (node t (literal n)) = made_none
  base_made f pushed lo d (node t (object i)) = made_wider (target_made (object_place f pushed i) (made_piece (piece_append 34 4 _ _ (object_piece f pushed i) (arrived_piece d)))) (omega arith)
  base_made f pushed lo d (node t (deref e)) = made_wider (pointer_base_made f pushed lo d e) (omega (arith, some_nodes e))
  base_made f pushed lo d (node t (member e m)) =
      let n : ℕ = offset_at (types_of f.parts.types) (bare e) m in
      either_made (has_base (place_of f pushed e) n) (made_wider (base_made f pushed lo d e) (omega (arith, some_nodes e))) (made_wider (made_behind (expr_made f pushed lo Value e) (piece_append 9 4 _ _ (offset_piece n) (arrived_piece d))) (omega (arith, some_nodes e)))
  base_made f pushed lo d (node t n) = made_behind (node_made f pushed lo Value t n) (arrived_piece d)

  pointer_base_made : (f : Framed) (pushed lo : ℕ) (d : Destination) (e : Typed) → Made [] lo (uses None e) (room e + 4) (pointer_base_code f pushed lo d e)
  pointer_base_made f pushed lo d (node t (binary op a b)) =
      let operands : Operands = operands_of f (bare a) (bare b) in
      let place : Place = target_of f pushed a in
      sum_made (sum_has_base place (added_bytes op operands (constant_in b))) (λ h. sum_uses f place op operands t a b h) (made_wider (pointer_base_made f pushed (lo + 1) d a) (omega (arith, some_nodes a, some_nodes b)))
      (sum_base_made f pushed lo d t op a b (λ p l v. expr_made f p l v a) (λ p l v. expr_made f p l v b) (relation_of op) (node_made f pushed lo Value t (binary op a b)))
  pointer_base_made f pushed lo d (node t (address e)) = made_wider (base_made f pushed lo d e) (omega (arith, some_nodes e))
  pointer_base_made f pushed lo d (node t (decay e)) = made_wider (base_made f pushed lo d e) (omega (arith, some_nodes e))
  pointer_base_made f pushed lo d (node t n) = made_behind (node_made f pushed lo Value t n) (arrived_piece d)

  pub low_made : (f : Framed) (pushed lo : ℕ) (e : Typed) → Made [] lo (uses None e) (room e) (low_value_code f pushed lo e)
  low_made f pushed lo (node t (convert e)) =
      low_made_by (byte_in f pushed (node t (convert e))) (some_room (node t (convert e))) (λ d h. (byte_idle f pushed (node t (convert e)) d h).uses)
      (either_made (is_number (type_in t) && is_number (bare e)) (made_wider (low_made f pushed lo e) (omega (arith, some_nodes e))) (node_made f pushed lo Value t (convert e)))
  low_made f pushed lo (node t (binary op a b)) =
      low_made_by (byte_in f pushed (node t (binary op a b))) (some_room (node t (binary op a b))) (λ d h. (byte_idle f pushed (node t (binary op a b)) d h).uses)
      (low_operand_made (low_operand f pushed op a b) (λ d. Label lo ∷ (low_value_code f pushed (lo + 1) a ++ first_byte_code op d))
      (λ d h. made_as (read_uses f t op a b (low_reads f pushed op a b d h)) (labelled_made (made_wider (made_still (low_made f pushed (lo + 1) a) (first_quiet op d)) (omega (arith, some_nodes a, some_nodes b)))))
      (node_made f pushed lo Value t (binary op a b)))
  low_made f pushed lo (node t (load e)) =
      low_made_by (byte_in f pushed (node t (load e))) (some_room (node t (load e))) (λ d h. (byte_idle f pushed (node t (load e)) d h).uses)
      (element_made (element_at f e) (λ x. index_code f pushed lo e ++ element_byte_code x.0)
      (λ x h. made_wider (made_still (element_from f e x (λ y found. index_made f pushed lo e y found) h) (element_byte_quiet x.0)) (omega (arith, some_nodes e)))
      (low_load_made (behind_pointer (place_of f pushed e) (access_of (types_of f.parts.types) e)) (omega (arith, some_nodes e, slack_fits e)) (base_made f pushed lo Pointer e) (node_made f pushed lo Value t (load e))))
  low_made f pushed lo (node t n) =
      low_made_by (byte_in f pushed (node t n)) (some_room (node t n)) (λ d h. (byte_idle f pushed (node t n) d h).uses) (node_made f pushed lo Value t n)

  pub index_made : (f : Framed) (pushed lo : ℕ) (e : Typed) (x : Element) → element_of f e ≡ Some x → Made [] lo (uses None e) (128 * nodes e - 275) (index_code f pushed lo e)
  index_made f pushed lo (node t (deref e)) x h = made_wider (sum_index_made f pushed lo e x h) (omega arith)
  index_made f pushed lo (node t (member e m)) x h = onward_from (offset_at (types_of f.parts.types) (bare e) m) (element_of f e) x (λ y found. made_wider (index_made f pushed lo e y found) (omega arith)) h
  index_made f pushed lo (node t _) x h = absurd cc

  sum_index_made : (f : Framed) (pushed lo : ℕ) (e : Typed) (x : Element) → sum_element f e ≡ Some x → Made [] lo (uses None e) (128 * nodes e - 147) (sum_index_code f pushed lo e)
  sum_index_made f pushed lo (node t (binary op a b)) x h =
      made_as (index_uses f t op a b (sum_indexes f t op a b x h)) (labelled_made (made_wider (low_made f pushed (lo + 1) b) (omega (arith, some_nodes a, some_nodes b))))
  sum_index_made f pushed lo (node t _) x h = absurd cc

  args_made : (f : Framed) (pushed lo : ℕ) (fast : Bool) (es : Nodes) → Made [] lo (args_uses es) (128 * nodes_in es) (args_code f pushed lo fast es)
  args_made f pushed lo fast none = made_none
  args_made f pushed lo fast (some e es) =
      let kept : Bool = stays fast es in
      let size : ℕ = passed_size f e in
      made_wider (made_append (expr_made f pushed lo Value e) (made_before (argument_piece kept size) (args_made f (more pushed (argument_bytes kept size)) (lo + uses None e) fast es))) (omega (arith, some_nodes e, slack_fits e, passing_fits f e))

pub expressions_own_their_labels : ExpressionsOwnTheirLabels
expressions_own_their_labels f pushed fresh w e =
    let made : Made (aims w) fresh (uses (sense_of w) e) (room e) (expr_code f pushed fresh w e) = expr_made f pushed fresh w e in
    record { once = made.once; targets = made.leads }

pub expressions_are_small : ExpressionsAreSmall
expressions_are_small f pushed fresh w e = omega (arith, (expr_made f pushed fresh w e).size)

pub expressions_are_fit : ExpressionsAreFit
expressions_are_fit f pushed fresh w e = all_fit (expr_code f pushed fresh w e) (expr_made f pushed fresh w e).fit
