-- The lines of a well typed expression can be written, and their numbers are of their types.
use Rattle.std.proofs.Common.{◌≡◌, ℕ, ◌+◌, ◌<◌, ◌≤◌, ◌^◌, ◌==◌, Bool, true, false, Option, None, Some, List, [], ◌∷◌, ◌++◌, refl, ap, subst, arith}
use Rattle.std.specs.Prelude.{◌&&◌, not, if◌then◌else◌}
use Rattle.std.proofs.lemmas.Option.{slice_get_within}
use Rattle.c65_base.specs.declared.operators.UnaryOp.TheVariants.{Not}
use Rattle.c65_base.specs.declared.operators.BinaryOp.{BinaryOp}
use Rattle.c65_ints.specs.declared.types.IntType.{IntType}
use Rattle.c65_ctype.specs.Trees.{Ty, QTy, type_in}
use Rattle.c65_ctype.specs.Views.{types_of}
use Rattle.c65_csem.specs.Trees.{Typed, node, Node, constant, null, literal, object, func, deref, member, load, address, decay, convert, unary, binary, both, either, choice, comma, assign, assign_op, assign_step, step, copy, call, pack, spill, rest as further, Nodes, none, some, UnitTy}
use Rattle.c65_csem.specs.Typed.{IsTyped, IsNode, IsGiven, IsCalled, AreTyped}
use Rattle.c65_mach.specs.declared.rows.Op.TheVariants.{Jmp}
use Rattle.c65_mach.specs.declared.rows.Mode.TheVariants.{Absolute}
use Rattle.c65_code.specs.declared.line.Operand.TheVariants.{To}
use Rattle.c65_code.specs.declared.line.Line.{Line}
use Rattle.c65_code.specs.declared.line.Line.TheVariants.{Label, Do}
use Rattle.c65_code.specs.declared.routine.Width.{Width}
use Rattle.c65_code.specs.declared.routine.Width.TheVariants.{Ax}
use Rattle.c65_genframe.specs.Symbols.{numbers_of, literal_symbol, function_symbol}
use Rattle.c65_genframe.specs.Frames.{Framed, type_bytes}
use Rattle.c65_genwide.specs.Wide.{width_of}
use Rattle.c65_genload.specs.declared.places.Place.{Place}
use Rattle.c65_genload.specs.declared.places.Place.TheVariants as places
use Rattle.c65_genload.specs.declared.places.Access.{Access}
use Rattle.c65_genload.specs.Places.{extent_of, extent_by}
use Rattle.c65_genload.specs.Places as kept
use Rattle.c65_genload.specs.Conversions.{push_code, test_code, waiting}
use Rattle.c65_genload.specs.Addresses.{offset_code}
use Rattle.c65_genload.specs.Loads.{hold_code}
use Rattle.c65_genload.specs.Stores.{store_code}
use Rattle.c65_gendirect.specs.declared.direct.Direct.{Direct}
use Rattle.c65_gendirect.specs.declared.relation.Relation.{Relation}
use Rattle.c65_gendirect.specs.Compare.{relation_of}
use Rattle.c65_gendirect.specs.Through.{read_bytes_code, byte_through_code}
use Rattle.c65_genexpr.specs.declared.storing.Storing.{Storing}
use Rattle.c65_genexpr.specs.declared.storing.Storing.TheVariants as storing
use Rattle.c65_genexpr.specs.declared.wanted.Wanted.{Wanted}
use Rattle.c65_genexpr.specs.declared.wanted.Wanted.TheVariants.{Value, Test}
use Rattle.c65_genexpr.specs.Wanted.{sense_of, decided_code, wanted_by, handed, handed_sense, value_test_code, branch_code, wanted, aimed, sense, truth_labels, inner, truth_by, is_straight, way, way_labels}
use Rattle.c65_genexpr.specs.Wanted as tests
use Rattle.c65_genexpr.specs.declared.comparing.Comparing.{Comparing}
use Rattle.c65_genexpr.specs.declared.comparing.Comparing.TheVariants as compared
use Rattle.c65_genexpr.specs.declared.operating.Operating.{Operating}
use Rattle.c65_genexpr.specs.declared.operating.Operating.TheVariants as ways
use Rattle.c65_genexpr.specs.Direct.{kept_at, own_bytes}
use Rattle.c65_genexpr.specs.Comparing.{relation_by, tested_by, comparing_of, takes_low, below_side}
use Rattle.c65_genexpr.specs.Operating.{operating_of, below_operand}
use Rattle.c65_genexpr.specs.declared.destination.Destination.{Destination}
use Rattle.c65_genexpr.specs.declared.destination.Destination.TheVariants.{Registers, Pointer}
use Rattle.c65_genexpr.specs.declared.operands.Operands.{Operands}
use Rattle.c65_genexpr.specs.declared.operands.Operands.TheVariants.{Numbers, PointerFirst}
use Rattle.c65_genexpr.specs.declared.arguments.Passed.{Passed}
use Rattle.c65_genexpr.specs.declared.types.Outcome.{Outcome}
use Rattle.c65_genexpr.specs.Types.{kind_of, outcome_of, kind_in, bare, offset_at, access_of, target_bytes}
use Rattle.c65_genexpr.specs.Places.{more, has_base, added_bytes, sum_has_base, object_place, place_of, target_of, object_code, target_code}
use Rattle.c65_genexpr.specs.Operands.{residue_of, constant_in, operands_of, computes, same_truth, conversion_code, conversion_by}
use Rattle.c65_genexpr.specs.Held.{keep_code, byte_behind_code}
use Rattle.c65_genexpr.specs.Destination.{arrived, destination_of}
use Rattle.c65_genexpr.specs.Storing.{storing_of, below_value, base_for, assigned_by}
use Rattle.c65_genexpr.specs.Steps.{amount_of, open_code, close_code}
use Rattle.c65_genexpr.specs.Arguments.{is_fast, is_counted, stays, passed_size, joined, passed_of, argument_bytes, argument_code}
use Rattle.c65_genexpr.specs.Calls.{named_in, named}
use Rattle.c65_genexpr.specs.Uses.{unless_named, by_relation, uses, node_uses, args_uses, comparison_uses}
use Rattle.c65_genfield.specs.Bits.{byte_field}
use Rattle.c65_genexpr.specs.Code.{width_in, constant_code, tested_load, load_by, behind_open, compound, call_by, expr_code, node_code, base_code, pointer_base_code, low_value_code, index_code, sum_index_code, args_code, operator_code, side_code, comparison_code, joint_code}
use Rattle.c65_gendirect.specs.Words.{first_byte_code}
use Rattle.c65_genexpr.specs.declared.elements.Element.{Element}
use Rattle.c65_genexpr.specs.Elements.{sum_element, element_of, element_at, loaded_element, element_byte_code}
use Rattle.c65_genexpr.specs.Lows.{is_number, byte_in, low_operand, behind_pointer}
use Rattle.c65_gen_law_lines.proofs.Drops.{sum_uses, low_left, low_right}
use Rattle.c65_gen_law_lines.proofs.Elements.{sum_indexes, onward_from, element_from, low_reads}
use Rattle.c65_asm_law.proofs.Well.{AllWell, well_append, well_none, well_more, well_if}
use Rattle.c65_asm_law.proofs.Loads.{WellPlace, narrow_well, bytes_well, number_well, symbol_well, offset_well, push_well, test_well, hold_well, store_well, copy_well}
use Rattle.c65_asm_law.proofs.Known.{Knows}
use Rattle.c65_asm_law.proofs.Places.{place_well, object_well, further_well, spill_well, conversion_well, unary_well, open_well, close_well, named_well, direct_well, pointer_well, argument_well}
use Rattle.c65_asm_law.proofs.Directs.{WellRead, read_bytes_well, byte_through_well, word_through_well, first_byte_well, zero_test_well, truth_well}
use Rattle.c65_asm_law.proofs.Steps.{step_well}
use Rattle.c65_asm_law.proofs.Pointed.{arrived_well, fetch_well}
use Rattle.c65_asm_law.proofs.Elements.{WellWanted, element_well, byte_in_well, operand_well, read_room, index_room, byte_of_well, loaded_well, element_or_well, operand_or_well, behind_well, low_load_well}
use Rattle.c65_asm_law.proofs.Fields.{loaded_test_well}
use Rattle.c65_asm_law.proofs.Forms.{WellStoring, storing_well, keep_well, byte_behind_well, word_behind_well, kept_well, own_well, low_well, comparing_well, comparison_well, operating_well, operator_well}

target_well : (n : ℕ) (p : Place) (code : List Line) → AllWell n code → AllWell n (target_code p code)
target_well n (places.Far at) code h = h
target_well n (places.Bank b) code h = well_none n
target_well n (places.Near at) code h = well_none n
target_well n (places.Data s at) code h = well_none n

-- ---- tests

value_test_well : (n : ℕ) (w : Width) (s : Bool) (to : ℕ) → to < 2 ^ 32 → AllWell n (value_test_code w s to)
value_test_well n w s to aim = well_append n (test_code w) (branch_code s to) (test_well n w) (record { all = ((tt, aim), tt) })

wanted_well : (n : ℕ) (w : Wanted) (width : Width) (lines : List Line) → WellWanted w → AllWell n lines → AllWell n (wanted w width lines)
wanted_well n Value width lines aim h = h
wanted_well n (Test to s) width lines aim h = well_append n lines _ h (value_test_well n width s to aim)

-- a value's test leads to a label of its own
aim_low : (w : Wanted) (lo k : ℕ) → WellWanted w → lo + (truth_labels (sense_of w) + k) ≤ 2 ^ 32 → aimed w lo < 2 ^ 32
aim_low Value lo k aim room = omega (arith, room)
aim_low (Test to s) lo k aim room = aim

truth_by_well : (n : ℕ) (w : Wanted) (lo : ℕ) (lines : List Line) → lo + truth_labels (sense_of w) ≤ 2 ^ 32 → AllWell n lines → AllWell n (truth_by w lo lines)
truth_by_well n Value lo lines room h = well_append n lines _ h (truth_well n lo (omega (arith, room)))
truth_by_well n (Test to s) lo lines room h = h

-- the label behind both sides is placed only where it is needed
way_low : (straight : Bool) (to own k : ℕ) → to < 2 ^ 32 → own + (way_labels straight + k) ≤ 2 ^ 32 → way straight to own < 2 ^ 32
way_low true to own k low room = low
way_low false to own k low room = omega (arith, room)

decided_well : (n : ℕ) (truth s : Bool) (to : ℕ) → to < 2 ^ 32 → AllWell n (decided_code truth s to)
decided_well n true true to aim = record { all = ((tt, aim), tt) }
decided_well n false false to aim = record { all = ((tt, aim), tt) }
decided_well n true false to aim = well_none n
decided_well n false true to aim = well_none n

constant_well : (n : ℕ) (w : Wanted) (width : Width) (m : ℕ) → WellWanted w → AllWell n (constant_code w width m)
constant_well n Value width m aim = number_well n width m
constant_well n (Test to s) width m aim = decided_well n (not (m == 0)) s to aim

tested_load_well : (n : ℕ) (d : Option Direct) (kind : IntType) (s : Bool) (to : ℕ) (base test : List Line) → WellRead n d → to < 2 ^ 32 → AllWell n base → AllWell n test → AllWell n (tested_load d kind s to base test)
tested_load_well n (Some d) kind s to base test h aim b k = well_append n base _ b (zero_test_well n (own_bytes d (extent_of kind)) s to (own_well n d (extent_of kind) h) aim)
tested_load_well n None kind s to base test h aim b k = well_append n base test b k

load_by_well : (n : ℕ) (w : Wanted) (place : Place) (access : Access) (lines : List Line) → WellPlace n place → WellWanted w → AllWell n lines → AllWell n (load_by w place access lines)
load_by_well n Value place access lines h aim k = well_append n lines _ k (fetch_well n place access h)
load_by_well n (Test to s) place access lines h aim k = tested_load_well n (kept_at place access) (kept.type_in access) s to lines _ (kept_well n place access h) aim k (loaded_test_well n (byte_field access) place access s to h aim)

converted_well : (n : ℕ) (w : Wanted) (same : Bool) (t : Ty) (from : IntType) (lines : List Line) → WellWanted w → AllWell n lines → AllWell n (conversion_by w same t from lines)
converted_well n Value same t from lines aim h = well_append n lines _ h (conversion_well n t from)
converted_well n (Test to s) true t from lines aim h = h
converted_well n (Test to s) false t from lines aim h = wanted_well n (Test to s) (width_of (kind_of t)) _ aim (well_append n lines (conversion_code t from) h (conversion_well n t from))

below_side_few : (how : Comparing) (pushed bytes : ℕ) → pushed < 2 ^ 16 → below_side how pushed bytes < 2 ^ 16
below_side_few compared.Stacked pushed bytes few = omega arith
below_side_few _ pushed bytes few = few

below_operand_few : (how : Operating) (pushed bytes : ℕ) → pushed < 2 ^ 16 → below_operand how pushed bytes < 2 ^ 16
below_operand_few ways.Stacked pushed bytes few = omega arith
below_operand_few _ pushed bytes few = few

-- ---- the bytes of arguments

joined_few : (kept : Bool) (size : ℕ) (p : Passed) → p.stacked < 2 ^ 8 → (joined kept size p).stacked < 2 ^ 8
joined_few true size p h = h
joined_few false size p h = omega arith

passed_few : (f : Framed) (fast : Bool) (es : Nodes) → (passed_of f fast es).stacked < 2 ^ 8
passed_few f fast none = omega arith
passed_few f fast (some e es) = joined_few (stays fast es) (passed_size f e) (passed_of f fast es) (passed_few f fast es)

-- ---- a function that is called by its name

callee_in : (n : ℕ) (u : UnitTy) (f : Framed) (e : Typed) (i : ℕ) → Knows f u n → IsTyped u e → named_in e ≡ Some i → (function_symbol (numbers_of f.parts) i).0 < n
callee_in n u f (node t (func j)) i knows h is = let same : j ≡ i = cc in subst (λ (k : ℕ). (function_symbol (numbers_of f.parts) k).0 < n) same (knows.funcs j (slice_get_within u.funcs j h.0 h.1))
callee_in n u f (node t _) i knows h is = absurd cc

callee_known : (n : ℕ) (u : UnitTy) (f : Framed) (g : Typed) (i : ℕ) → Knows f u n → IsTyped u g → named g ≡ Some i → (function_symbol (numbers_of f.parts) i).0 < n
callee_known n u f (node t (decay e)) i knows h is = callee_in n u f e i knows h.0 is
callee_known n u f (node t _) i knows h is = absurd cc

-- ---- nodes over lines that are given

joined_well : (n : ℕ) (straight : Bool) (own : ℕ) (a b : List Line) → own + way_labels straight ≤ 2 ^ 32 → AllWell n a → AllWell n b → AllWell n (tests.joined straight own a b)
joined_well n true own a b room ha hb = well_append n a _ ha (well_append n b [] hb (well_none n))
joined_well n false own a b room ha hb =
    let low : own < 2 ^ 32 = omega (arith, room) in
    well_append n a _ ha (well_append n b (Label own ∷ []) hb (record { all = (low, tt) }))

choice_well : (n lo : ℕ) (c a b : List Line) → lo + 1 < 2 ^ 32 → AllWell n c → AllWell n a → AllWell n b → AllWell n (c ++ (a ++ (Do Jmp Absolute (To (lo + 1)) ∷ Label lo ∷ (b ++ Label (lo + 1) ∷ []))))
choice_well n lo c a b room hc ha hb =
    let first : lo < 2 ^ 32 = omega (arith, room) in
    let second : AllWell n (b ++ Label (lo + 1) ∷ []) = well_append n b (Label (lo + 1) ∷ []) hb (record { all = (room, tt) }) in
    well_append n c _ hc (well_append n a _ ha (well_more n _ _ (tt, room) (well_more n _ _ first second)))

assigned_well : (n : ℕ) (how : Storing) (place : Place) (access : Access) (a b : List Line) → WellStoring n how → WellPlace n place → AllWell n a → AllWell n b → AllWell n (assigned_by how place access a b)
assigned_well n (storing.Left at stored) place access a b k h ha hb = well_append n a _ ha (well_append n (read_bytes_code at stored) _ (read_bytes_well n at stored k.0 k.1) (narrow_well n (kept.type_in access)))
assigned_well n (storing.RightByte at low high) place access a b k h ha hb = well_append n b _ hb (well_append n (byte_through_code at low high) _ (byte_through_well n at low high k.0 k.1.0 k.1.1) (narrow_well n (kept.type_in access)))
assigned_well n (storing.RightWord at low high) place access a b k h ha hb = well_append n b _ hb (word_through_well n at low high k.0 k.1)
assigned_well n (storing.HeldByte at) place access a b k h ha hb =
    well_append n a _ ha (well_append n keep_code _ (keep_well n) (well_append n b _ hb (well_append n (byte_behind_code at) _ (byte_behind_well n at k) (narrow_well n (kept.type_in access)))))
assigned_well n (storing.HeldWord at) place access a b k h ha hb = well_append n a _ ha (well_append n keep_code _ (keep_well n) (well_append n b _ hb (word_behind_well n at k)))
assigned_well n storing.Stacked place access a b k h ha hb =
    well_append n a _ ha (well_append n (hold_code place) _ (hold_well n place) (well_append n b (store_code place access) hb (store_well n place access h)))

below_value_few : (how : Storing) (pushed : ℕ) (place : Place) → pushed < 2 ^ 16 → below_value how pushed place < 2 ^ 16
below_value_few storing.Stacked pushed place few = omega arith
below_value_few _ pushed place few = few

-- ---- the bases of places

-- a sum that is left out has its label
sum_well : (n lo : ℕ) (c : Bool) (a b : List Line) → (c ≡ true → lo < 2 ^ 32) → (c ≡ true → AllWell n a) → AllWell n b → AllWell n (if c then Label lo ∷ a else b)
sum_well n lo true a b low ha hb = well_more n _ _ (low refl) (ha refl)
sum_well n lo false a b low ha hb = hb

compound_well : (n : ℕ) (f : Framed) (pushed : ℕ) (op : BinaryOp) (operands : Operands) (a b : Typed) (left right : List Line) → WellPlace n (place_of f pushed a) → AllWell n left → AllWell n right → AllWell n (compound f pushed op operands a b left right)
compound_well n f pushed op operands a b left right h ha hb =
    let place : Place = place_of f pushed a in
    let access : Access = access_of (types_of f.parts.types) a in
    well_append n left _ ha (well_append n (open_code place access (computes operands)) _ (open_well n place access (computes operands) h) (well_append n right (close_code op operands (kind_in b) place access) hb (close_well n op operands (kind_in b) place access h)))

call_well : (n : ℕ) (f : Framed) (i : Option ℕ) (given : Outcome) (g : Typed) (es : Nodes) (callee args above : List Line) → ((k : ℕ) → i ≡ Some k → (function_symbol (numbers_of f.parts) k).0 < n) → (i ≡ None → AllWell n callee) → AllWell n args → (i ≡ None → AllWell n above) → AllWell n (call_by f i given g es callee args above)
call_well n f (Some k) given g es callee args above known hc ha hb = well_append n args _ ha (named_well n f k (is_counted (bare g)) (passed_of f (is_fast (bare g)) es) given (known k refl) (passed_few f (is_fast (bare g)) es))
call_well n f None given g none callee args above known hc ha hb = well_append n callee _ (hc refl) (direct_well n (is_counted (bare g)) (passed_of f (is_fast (bare g)) none) given (passed_few f (is_fast (bare g)) none))
call_well n f None given g (some e more_args) callee args above known hc ha hb =
    let es : Nodes = some e more_args in
    well_append n callee _ (hc refl) (well_append n (push_code Ax) _ (push_well n Ax) (well_append n above _ (hb refl) (pointer_well n (is_counted (bare g)) (passed_of f (is_fast (bare g)) es) given (passed_few f (is_fast (bare g)) es))))

-- what a call uses of labels, where its function has no name
unnamed : (i : Option ℕ) (k : ℕ) → i ≡ None → unless_named i k ≡ k
unnamed None k h = refl
unnamed (Some j) k h = absurd cc

-- ---- operators, from what holds of their operands

-- the lines of a tree can be written, wherever they stand
abbrev WellTree : ℕ → Framed → Typed → Type 0
WellTree n f e = (pushed lo : ℕ) (w : Wanted) → pushed < 2 ^ 16 → WellWanted w → lo + uses (sense_of w) e ≤ 2 ^ 32 → AllWell n (expr_code f pushed lo w e)

tree_by : (n : ℕ) (f : Framed) (e : Typed) (pushed lo : ℕ) (s : Option Bool) (to : ℕ) → WellTree n f e → pushed < 2 ^ 16 → to < 2 ^ 32 → lo + uses s e ≤ 2 ^ 32 → AllWell n (expr_code f pushed lo (wanted_by s to) e)
tree_by n f e pushed lo None to tree few aim room = tree pushed lo Value few tt room
tree_by n f e pushed lo (Some s) to tree few aim room = tree pushed lo (Test to s) few aim room

tree_handed : (n : ℕ) (f : Framed) (e : Typed) (pushed lo : ℕ) (same : Bool) (w : Wanted) → WellTree n f e → pushed < 2 ^ 16 → WellWanted w → lo + uses (handed_sense same (sense_of w)) e ≤ 2 ^ 32 → AllWell n (expr_code f pushed lo (handed same w) e)
tree_handed n f e pushed lo same Value tree few aim room = tree pushed lo Value few tt room
tree_handed n f e pushed lo true (Test to s) tree few aim room = tree pushed lo (Test to s) few aim room
tree_handed n f e pushed lo false (Test to s) tree few aim room = tree pushed lo Value few tt room

-- and those of its low byte
abbrev WellLow : ℕ → Framed → Typed → Type 0
WellLow n f e = (pushed lo : ℕ) → pushed < 2 ^ 16 → lo + uses None e ≤ 2 ^ 32 → AllWell n (low_value_code f pushed lo e)

-- a side, or the low byte of it
side_well : (n : ℕ) (f : Framed) (pushed lo : ℕ) (low : Bool) (w : Wanted) (e : Typed) → (low ≡ true → AllWell n (low_value_code f pushed lo e)) → AllWell n (expr_code f pushed lo w e) → AllWell n (side_code f pushed lo low w e)
side_well n f pushed lo true w e hl hw = hl refl
side_well n f pushed lo false w e hl hw = hw

operator_in : (n : ℕ) (u : UnitTy) (f : Framed) (pushed lo : ℕ) (d : Destination) (op : BinaryOp) (a b : Typed) → Knows f u n → IsTyped u a → IsTyped u b → WellTree n f a → WellTree n f b → pushed < 2 ^ 16 → lo + (1 + (uses None a + uses None b)) ≤ 2 ^ 32 → AllWell n (operator_code f pushed lo d op a b)
operator_in n u f pushed lo d op a b knows ha hb ta tb few room =
    let operands : Operands = operands_of f (bare a) (bare b) in
    let how : Operating = operating_of f pushed op operands a b in
    let bytes : ℕ = waiting (width_of (computes operands)) in
    let left : AllWell n (expr_code f pushed (lo + 1) Value a) = ta pushed (lo + 1) Value few tt (omega (arith, room)) in
    let right : AllWell n (expr_code f (below_operand how pushed bytes) (lo + 1 + uses None a) Value b) = tb (below_operand how pushed bytes) (lo + 1 + uses None a) Value (below_operand_few how pushed bytes few) tt (omega (arith, room)) in
    operator_well n d how op operands (kind_in b) lo _ _ (operating_well n u f pushed op operands a b knows ha hb) (omega (arith, room)) left right

comparison_in : (n : ℕ) (u : UnitTy) (f : Framed) (pushed own to : ℕ) (s : Bool) (op : BinaryOp) (r : Relation) (a b : Typed) → Knows f u n → IsTyped u a → IsTyped u b → WellTree n f a → WellTree n f b → WellLow n f a → WellLow n f b → pushed < 2 ^ 16 → to < 2 ^ 32 → own + comparison_uses (relation_by s r) a b ≤ 2 ^ 32 → AllWell n (comparison_code f pushed own to s op r a b)
comparison_in n u f pushed own to s op r a b knows ha hb ta tb la lb few aim room =
    let operands : Operands = operands_of f (bare a) (bare b) in
    let q : Relation = relation_by s r in
    let how : Comparing = comparing_of f pushed q (computes operands) a b in
    let bytes : ℕ = waiting (width_of (computes operands)) in
    let below : ℕ = below_side how pushed bytes in
    let next : ℕ = own + 1 + uses (tested_by q b) a in
    let fewer : below < 2 ^ 16 = below_side_few how pushed bytes few in
    let left : AllWell n (side_code f pushed (own + 1) (takes_low how) (wanted_by (tested_by q b) to) a) = side_well n f pushed (own + 1) (takes_low how) (wanted_by (tested_by q b) to) a
    (λ h. la pushed (own + 1) few (omega (arith, room, ap (λ (x : Option Bool). uses x a) (low_left f pushed q (computes operands) a b h))))
    (tree_by n f a pushed (own + 1) (tested_by q b) to ta few aim (omega (arith, room))) in
    let right : AllWell n (side_code f below next (takes_low how) (wanted_by (tested_by q a) to) b) = side_well n f below next (takes_low how) (wanted_by (tested_by q a) to) b
    (λ h. lb below next fewer (omega (arith, room, ap (λ (x : Option Bool). uses x b) (low_right f pushed q (computes operands) a b h))))
    (tree_by n f b below next (tested_by q a) to tb fewer aim (omega (arith, room))) in
    comparison_well n how op operands (kind_in b) s to own _ _ (comparing_well n u f pushed q (computes operands) a b knows ha hb) aim (omega (arith, room)) left right

-- a comparison, or another operator
binary_well : (n : ℕ) (u : UnitTy) (f : Framed) (pushed lo : ℕ) (w : Wanted) (width : Width) (m : Option Relation) (op : BinaryOp) (a b : Typed) → Knows f u n → IsTyped u a → IsTyped u b → WellTree n f a → WellTree n f b → WellLow n f a → WellLow n f b → pushed < 2 ^ 16 → WellWanted w
    → lo + by_relation m (1 + (uses None a + uses None b)) (λ r. truth_labels (sense_of w) + comparison_uses (relation_by (sense w) r) a b) ≤ 2 ^ 32
    → AllWell n (by_relation m (wanted w width (operator_code f pushed lo Registers op a b)) (λ r. truth_by w lo (comparison_code f pushed (inner w lo) (aimed w lo) (sense w) op r a b)))
binary_well n u f pushed lo w width None op a b knows ha hb ta tb la lb few aim room = wanted_well n w width _ aim (operator_in n u f pushed lo Registers op a b knows ha hb ta tb few room)
binary_well n u f pushed lo w width (Some r) op a b knows ha hb ta tb la lb few aim room =
    let to : aimed w lo < 2 ^ 32 = aim_low w lo (comparison_uses (relation_by (sense w) r) a b) aim room in
    truth_by_well n w lo _ (omega (arith, room)) (comparison_in n u f pushed (inner w lo) (aimed w lo) (sense w) op r a b knows ha hb ta tb la lb few to (omega (arith, room)))

-- the same where the result goes elsewhere
binary_base_well : (n : ℕ) (u : UnitTy) (f : Framed) (pushed lo : ℕ) (d : Destination) (m : Option Relation) (t : QTy) (op : BinaryOp) (a b : Typed) → Knows f u n → IsTyped u a → IsTyped u b → WellTree n f a → WellTree n f b → pushed < 2 ^ 16
    → lo + by_relation m (1 + (uses None a + uses None b)) (λ r. truth_labels None + comparison_uses (relation_by false r) a b) ≤ 2 ^ 32 → AllWell n (node_code f pushed lo Value t (binary op a b))
    → AllWell n (by_relation m (operator_code f pushed lo d op a b) (λ r. node_code f pushed lo Value t (binary op a b) ++ arrived d))
binary_base_well n u f pushed lo d None t op a b knows ha hb ta tb few room whole = operator_in n u f pushed lo d op a b knows ha hb ta tb few room
binary_base_well n u f pushed lo d (Some r) t op a b knows ha hb ta tb few room whole = well_append n (node_code f pushed lo Value t (binary op a b)) (arrived d) whole (arrived_well n d)

-- `&&` and `||`
joint_in : (n : ℕ) (f : Framed) (pushed own to : ℕ) (s stop straight : Bool) (a b : Typed) → WellTree n f a → WellTree n f b → pushed < 2 ^ 16 → to < 2 ^ 32 → own + (way_labels straight + (uses (Some stop) a + uses (Some s) b)) ≤ 2 ^ 32
    → AllWell n (tests.joined straight own (expr_code f pushed (own + way_labels straight) (Test (way straight to own) stop) a) (expr_code f pushed (own + way_labels straight + uses (Some stop) a) (Test to s) b))
joint_in n f pushed own to s stop straight a b ta tb few aim room =
    let left : AllWell n (expr_code f pushed (own + way_labels straight) (Test (way straight to own) stop) a) = ta pushed (own + way_labels straight) (Test (way straight to own) stop) few (way_low straight to own (uses (Some stop) a) aim (omega (arith, room))) (omega (arith, room)) in
    joined_well n straight own _ _ (omega (arith, room)) left (tb pushed (own + way_labels straight + uses (Some stop) a) (Test to s) few aim (omega (arith, room)))

joint_well : (n : ℕ) (f : Framed) (pushed lo : ℕ) (w : Wanted) (stop : Bool) (a b : Typed) → WellTree n f a → WellTree n f b → pushed < 2 ^ 16 → WellWanted w
    → lo + (truth_labels (sense_of w) + (way_labels (is_straight stop (sense w)) + (uses (Some stop) a + uses (Some (sense w)) b))) ≤ 2 ^ 32 → AllWell n (truth_by w lo (joint_code f pushed (inner w lo) (aimed w lo) (sense w) stop a b))
joint_well n f pushed lo w stop a b ta tb few aim room =
    let straight : Bool = is_straight stop (sense w) in
    let to : aimed w lo < 2 ^ 32 = aim_low w lo (way_labels straight + (uses (Some stop) a + uses (Some (sense w)) b)) aim room in
    truth_by_well n w lo _ (omega (arith, room)) (joint_in n f pushed (inner w lo) (aimed w lo) (sense w) stop straight a b ta tb few to (omega (arith, room)))

-- ---- the whole tree

mutual
  -- so many bytes wait, and so many labels are left
  pub expr_well : (n : ℕ) (u : UnitTy) (f : Framed) (pushed lo : ℕ) (w : Wanted) (e : Typed) → Knows f u n → IsTyped u e → pushed < 2 ^ 16 → WellWanted w → lo + uses (sense_of w) e ≤ 2 ^ 32 → AllWell n (expr_code f pushed lo w e)
  expr_well n u f pushed lo w (node t e) knows h few aim room = node_well n u f pushed lo w t e knows h few aim room

  node_well : (n : ℕ) (u : UnitTy) (f : Framed) (pushed lo : ℕ) (w : Wanted) (t : QTy) (e : Node) → Knows f u n → IsNode u t e → pushed < 2 ^ 16 → WellWanted w → lo + node_uses (sense_of w) t e ≤ 2 ^ 32 → AllWell n (node_code f pushed lo w t e)
  node_well n u f pushed lo w t (constant z) knows h few aim room = constant_well n w (width_in t) (residue_of z) aim
  node_well n u f pushed lo w t null knows h few aim room = constant_well n w Ax 0 aim
  node_well n u f pushed lo w t (literal i) knows h few aim room = wanted_well n w (width_in t) _ aim (symbol_well n (literal_symbol (numbers_of f.parts) i) 0 (knows.literals i (slice_get_within u.literals i h.0 h.1)) (omega arith))
  node_well n u f pushed lo w t (object i) knows h few aim room = wanted_well n w (width_in t) _ aim (object_well n f pushed i few (knows.objects i (slice_get_within u.objects i h.0 h.1)))
  node_well n u f pushed lo w t (func i) knows h few aim room = wanted_well n w (width_in t) _ aim (symbol_well n (function_symbol (numbers_of f.parts) i) 0 (knows.funcs i (slice_get_within u.funcs i h.0 h.1)) (omega arith))
  node_well n u f pushed lo w t (deref e) knows h few aim room = wanted_well n w (width_in t) _ aim (expr_well n u f pushed lo Value e knows h.0 few tt room)
  node_well n u f pushed lo w t (member e m) knows h few aim room = wanted_well n w (width_in t) _ aim (well_append n (expr_code f pushed lo Value e) _ (expr_well n u f pushed lo Value e knows h.0 few tt room) (offset_well n (offset_at (types_of f.parts.types) (bare e) m)))
  node_well n u f pushed lo w t (load e) knows h few aim room =
      let access : Access = access_of (types_of f.parts.types) e in
      element_or_well n (element_at f e) (λ x. loaded_element w x (index_code f pushed lo e)) _ (element_well n u f e knows h.0)
      (λ x found there. loaded_well n w x _ there aim (element_from f e x (λ y is. index_well n u f pushed lo e y knows h.0 is few room) found))
      (load_by_well n w (place_of f pushed e) access _ (place_well n u f pushed e knows h.0) aim (base_well n u f pushed lo (destination_of access) e knows h.0 few room))
  node_well n u f pushed lo w t (address e) knows h few aim room = wanted_well n w (width_in t) _ aim (expr_well n u f pushed lo Value e knows h.0 few tt room)
  node_well n u f pushed lo w t (decay e) knows h few aim room = wanted_well n w (width_in t) _ aim (expr_well n u f pushed lo Value e knows h.0 few tt room)
  node_well n u f pushed lo w t (convert e) knows h few aim room =
      let same : Bool = same_truth (type_in t) (bare e) in
      converted_well n w same (type_in t) (kind_in e) _ aim (tree_handed n f e pushed lo same w (λ p l v. expr_well n u f p l v e knows h.0) few aim room)
  node_well n u f pushed lo w t (unary Not e) knows h few aim room =
      truth_by_well n w lo _ (omega (arith, room)) (expr_well n u f pushed (inner w lo) (Test (aimed w lo) (not (sense w))) e knows h.0 few (aim_low w lo (uses (Some (not (sense w))) e) aim room) (omega (arith, room)))
  node_well n u f pushed lo w t (unary op e) knows h few aim room = wanted_well n w (width_in t) _ aim (well_append n (expr_code f pushed lo Value e) _ (expr_well n u f pushed lo Value e knows h.0 few tt room) (unary_well n op (width_of (kind_in e))))
  node_well n u f pushed lo w t (binary op a b) knows h few aim room =
      binary_well n u f pushed lo w (width_in t) (relation_of op) op a b knows h.0 h.1 (λ p l v. expr_well n u f p l v a knows h.0) (λ p l v. expr_well n u f p l v b knows h.1)
      (λ p l. low_value_well n u f p l a knows h.0) (λ p l. low_value_well n u f p l b knows h.1) few aim room
  node_well n u f pushed lo w t (both a b) knows h few aim room =
      joint_well n f pushed lo w false a b (λ p l v. expr_well n u f p l v a knows h.0) (λ p l v. expr_well n u f p l v b knows h.1) few aim room
  node_well n u f pushed lo w t (either a b) knows h few aim room =
      joint_well n f pushed lo w true a b (λ p l v. expr_well n u f p l v a knows h.0) (λ p l v. expr_well n u f p l v b knows h.1) few aim room
  node_well n u f pushed lo w t (choice c a b) knows h few aim room =
      wanted_well n w (width_in t) _ aim (choice_well n lo _ _ _ (omega (arith, room)) (expr_well n u f pushed (lo + 2) (Test lo false) c knows h.0 few (omega (arith, room)) (omega (arith, room))) (expr_well n u f pushed (lo + 2 + uses (Some false) c) Value a knows h.1 few tt (omega (arith, room))) (expr_well n u f pushed (lo + 2 + uses (Some false) c + uses None a) Value b knows h.2 few tt (omega (arith, room))))
  node_well n u f pushed lo w t (comma a b) knows h few aim room =
      well_append n (expr_code f pushed lo Value a) _ (expr_well n u f pushed lo Value a knows h.0 few tt (omega (arith, room))) (expr_well n u f pushed (lo + uses None a) w b knows h.1 few aim (omega (arith, room)))
  node_well n u f pushed lo w t (assign a b) knows h few aim room =
      let place : Place = place_of f pushed a in
      let how : Storing = storing_of f pushed a b in
      wanted_well n w (width_in t) _ aim (assigned_well n how place (access_of (types_of f.parts.types) a) _ _ (storing_well n u f pushed a b knows h.0 h.1) (place_well n u f pushed a knows h.0) (base_well n u f pushed lo (base_for how) a knows h.0 few (omega (arith, room))) (expr_well n u f (below_value how pushed place) (lo + uses None a) Value b knows h.1 (below_value_few how pushed place few) tt (omega (arith, room))))
  node_well n u f pushed lo w t (assign_op op k a b) knows h few aim room =
      wanted_well n w (width_in t) _ aim (compound_well n f pushed op (Numbers k) a b _ _ (place_well n u f pushed a knows h.0) (base_well n u f pushed lo Registers a knows h.0 few (omega (arith, room))) (expr_well n u f (behind_open f pushed (Numbers k) a) (lo + uses None a) Value b knows h.1 (omega arith) tt (omega (arith, room))))
  node_well n u f pushed lo w t (assign_step op a b) knows h few aim room =
      let operands : Operands = PointerFirst (target_bytes f (bare a)) in
      wanted_well n w (width_in t) _ aim (compound_well n f pushed op operands a b _ _ (place_well n u f pushed a knows h.0) (base_well n u f pushed lo Registers a knows h.0 few (omega (arith, room))) (expr_well n u f (behind_open f pushed operands a) (lo + uses None a) Value b knows h.1 (omega arith) tt (omega (arith, room))))
  node_well n u f pushed lo w t (step how e) knows h few aim room =
      let place : Place = place_of f pushed e in
      wanted_well n w (width_in t) _ aim (well_append n (base_code f pushed (lo + 1) Registers e) _ (base_well n u f pushed (lo + 1) Registers e knows h.0 few (omega (arith, room)))
      (step_well n how (target_bytes f (bare e)) (amount_of f how (bare e)) place (access_of (types_of f.parts.types) e) lo (place_well n u f pushed e knows h.0) (omega (arith, room))))
  node_well n u f pushed lo w t (copy a b) knows h few aim room =
      wanted_well n w (width_in t) _ aim (well_append n (expr_code f pushed lo Value a) _ (expr_well n u f pushed lo Value a knows h.0 few tt (omega (arith, room))) (well_append n (push_code Ax) _ (push_well n Ax) (well_append n (expr_code f (more pushed 2) (lo + uses None a) Value b) _ (expr_well n u f (more pushed 2) (lo + uses None a) Value b knows h.1 (omega arith) tt (omega (arith, room))) (copy_well n (type_bytes f (type_in t))))))
  node_well n u f pushed lo w t (call g es) knows h few aim room =
      wanted_well n w (width_in t) _ aim (call_well n f (named g) (outcome_of f (type_in t)) g es _ _ _ (λ k is. callee_known n u f g k knows h.0 is)
      (λ none_named. expr_well n u f pushed lo Value g knows h.0 few tt (omega (arith, room, unnamed (named g) (uses None g) none_named)))
      (args_well n u f pushed lo (is_fast (bare g)) es knows h.4 few (omega (arith, room)))
      (λ none_named. args_well n u f (more pushed 2) (lo + uses None g) (is_fast (bare g)) es knows h.4 (omega arith) (omega (arith, room, unnamed (named g) (uses None g) none_named))))
  node_well n u f pushed lo w t (pack e) knows h few aim room = absurd h
  node_well n u f pushed lo w t (spill i e) knows h few aim room =
      wanted_well n w (width_in t) _ aim (well_append n (expr_code f pushed lo Value e) _ (called_well n u f pushed lo t e knows h.0 few room) (spill_well n (object_code f pushed i) (extent_by (type_bytes f (type_in t))) (object_well n f pushed i few (knows.objects i (slice_get_within u.objects i h.1.object h.1.there)))))
  node_well n u f pushed lo w t further knows h few aim room = wanted_well n w (width_in t) _ aim (further_well n f pushed few)

  pub base_well : (n : ℕ) (u : UnitTy) (f : Framed) (pushed lo : ℕ) (d : Destination) (e : Typed) → Knows f u n → IsTyped u e → pushed < 2 ^ 16 → lo + uses None e ≤ 2 ^ 32 → AllWell n (base_code f pushed lo d e)
  base_well n u f pushed lo d (node t (literal i)) knows h few room = well_none n
  base_well n u f pushed lo d (node t (object i)) knows h few room =
      target_well n (object_place f pushed i) (object_code f pushed i ++ arrived d) (well_append n (object_code f pushed i) (arrived d) (object_well n f pushed i few (knows.objects i (slice_get_within u.objects i h.0 h.1))) (arrived_well n d))
  base_well n u f pushed lo d (node t (deref e)) knows h few room = pointer_base_well n u f pushed lo d e knows h.0 few room
  base_well n u f pushed lo d (node t (member e m)) knows h few room =
      let k : ℕ = offset_at (types_of f.parts.types) (bare e) m in
      well_if n (has_base (place_of f pushed e) k) (base_code f pushed lo d e) (expr_code f pushed lo Value e ++ (offset_code k ++ arrived d)) (base_well n u f pushed lo d e knows h.0 few room)
      (well_append n (expr_code f pushed lo Value e) _ (expr_well n u f pushed lo Value e knows h.0 few tt room) (well_append n (offset_code k) (arrived d) (offset_well n k) (arrived_well n d)))
  base_well n u f pushed lo d (node t e) knows h few room = well_append n (node_code f pushed lo Value t e) (arrived d) (node_well n u f pushed lo Value t e knows h few tt room) (arrived_well n d)

  pointer_base_well : (n : ℕ) (u : UnitTy) (f : Framed) (pushed lo : ℕ) (d : Destination) (e : Typed) → Knows f u n → IsTyped u e → pushed < 2 ^ 16 → lo + uses None e ≤ 2 ^ 32 → AllWell n (pointer_base_code f pushed lo d e)
  pointer_base_well n u f pushed lo d (node t (binary op a b)) knows h few room =
      let operands : Operands = operands_of f (bare a) (bare b) in
      let place : Place = target_of f pushed a in
      sum_well n lo (sum_has_base place (added_bytes op operands (constant_in b))) (pointer_base_code f pushed (lo + 1) d a) _ (λ told. omega (arith, room, sum_uses f place op operands t a b told))
      (λ told. pointer_base_well n u f pushed (lo + 1) d a knows h.0 few (omega (arith, room, sum_uses f place op operands t a b told)))
      (binary_base_well n u f pushed lo d (relation_of op) t op a b knows h.0 h.1 (λ p l v. expr_well n u f p l v a knows h.0) (λ p l v. expr_well n u f p l v b knows h.1) few room (node_well n u f pushed lo Value t (binary op a b) knows h few tt room))
  pointer_base_well n u f pushed lo d (node t (address e)) knows h few room = base_well n u f pushed lo d e knows h.0 few room
  pointer_base_well n u f pushed lo d (node t (decay e)) knows h few room = base_well n u f pushed lo d e knows h.0 few room
  pointer_base_well n u f pushed lo d (node t e) knows h few room = well_append n (node_code f pushed lo Value t e) (arrived d) (node_well n u f pushed lo Value t e knows h few tt room) (arrived_well n d)

  low_value_well : (n : ℕ) (u : UnitTy) (f : Framed) (pushed lo : ℕ) (e : Typed) → Knows f u n → IsTyped u e → pushed < 2 ^ 16 → lo + uses None e ≤ 2 ^ 32 → AllWell n (low_value_code f pushed lo e)
  low_value_well n u f pushed lo (node t (convert e)) knows h few room =
      low_well n (byte_in f pushed (node t (convert e))) _ (byte_in_well n u f pushed (node t (convert e)) knows h)
      (well_if n (is_number (type_in t) && is_number (bare e)) (low_value_code f pushed lo e) (node_code f pushed lo Value t (convert e)) (low_value_well n u f pushed lo e knows h.0 few room) (node_well n u f pushed lo Value t (convert e) knows h few tt room))
  low_value_well n u f pushed lo (node t (binary op a b)) knows h few room =
      low_well n (byte_in f pushed (node t (binary op a b))) _ (byte_in_well n u f pushed (node t (binary op a b)) knows h)
      (operand_or_well n (low_operand f pushed op a b) (λ d. Label lo ∷ (low_value_code f pushed (lo + 1) a ++ first_byte_code op d)) _ (operand_well n u f pushed op a b knows h.1)
      (λ d found byte.
      let own = read_room f t op a b (low_reads f pushed op a b d found) in
      well_more n _ _ (omega (arith, room, own)) (well_append n (low_value_code f pushed (lo + 1) a) _ (low_value_well n u f pushed (lo + 1) a knows h.0 few (omega (arith, room, own))) (first_byte_well n op d byte)))
      (node_well n u f pushed lo Value t (binary op a b) knows h few tt room))
  low_value_well n u f pushed lo (node t (load e)) knows h few room =
      let place : Place = place_of f pushed e in
      let access : Access = access_of (types_of f.parts.types) e in
      low_well n (byte_in f pushed (node t (load e))) _ (byte_in_well n u f pushed (node t (load e)) knows h)
      (element_or_well n (element_at f e) (λ x. index_code f pushed lo e ++ element_byte_code x.0) _ (element_well n u f e knows h.0)
      (λ x found there. well_append n (index_code f pushed lo e) _ (element_from f e x (λ y is. index_well n u f pushed lo e y knows h.0 is few room) found) (byte_of_well n x.0 there))
      (low_load_well n (behind_pointer place access) _ _ (behind_well n place access (place_well n u f pushed e knows h.0)) (base_well n u f pushed lo Pointer e knows h.0 few room) (node_well n u f pushed lo Value t (load e) knows h few tt room)))
  low_value_well n u f pushed lo (node t e) knows h few room =
      low_well n (byte_in f pushed (node t e)) _ (byte_in_well n u f pushed (node t e) knows h) (node_well n u f pushed lo Value t e knows h few tt room)

  pub index_well : (n : ℕ) (u : UnitTy) (f : Framed) (pushed lo : ℕ) (e : Typed) (x : Element) → Knows f u n → IsTyped u e → element_of f e ≡ Some x → pushed < 2 ^ 16 → lo + uses None e ≤ 2 ^ 32 → AllWell n (index_code f pushed lo e)
  index_well n u f pushed lo (node t (deref e)) x knows h is few room = sum_index_well n u f pushed lo e x knows h.0 is few room
  index_well n u f pushed lo (node t (member e m)) x knows h is few room =
      onward_from (offset_at (types_of f.parts.types) (bare e) m) (element_of f e) x (λ y found. index_well n u f pushed lo e y knows h.0 found few room) is
  index_well n u f pushed lo (node t _) x knows h is few room = absurd cc

  sum_index_well : (n : ℕ) (u : UnitTy) (f : Framed) (pushed lo : ℕ) (e : Typed) (x : Element) → Knows f u n → IsTyped u e → sum_element f e ≡ Some x → pushed < 2 ^ 16 → lo + uses None e ≤ 2 ^ 32 → AllWell n (sum_index_code f pushed lo e)
  sum_index_well n u f pushed lo (node t (binary op a b)) x knows h is few room =
      let own = index_room f t op a b (sum_indexes f t op a b x is) in
      well_more n _ _ (omega (arith, room, own)) (low_value_well n u f pushed (lo + 1) b knows h.1 few (omega (arith, room, own)))
  sum_index_well n u f pushed lo (node t _) x knows h is few room = absurd cc

  -- one that gives a structure
  called_well : (n : ℕ) (u : UnitTy) (f : Framed) (pushed lo : ℕ) (t : QTy) (e : Typed) → Knows f u n → IsCalled u t e → pushed < 2 ^ 16 → lo + uses None e ≤ 2 ^ 32 → AllWell n (expr_code f pushed lo Value e)
  called_well n u f pushed lo t (node s (call g es)) knows h few room =
      call_well n f (named g) (outcome_of f (type_in s)) g es _ _ _ (λ k is. callee_known n u f g k knows h.2 is)
      (λ none_named. expr_well n u f pushed lo Value g knows h.2 few tt (omega (arith, room, unnamed (named g) (uses None g) none_named)))
      (args_well n u f pushed lo (is_fast (bare g)) es knows h.5 few (omega (arith, room)))
      (λ none_named. args_well n u f (more pushed 2) (lo + uses None g) (is_fast (bare g)) es knows h.5 (omega arith) (omega (arith, room, unnamed (named g) (uses None g) none_named)))
  called_well n u f pushed lo t (node s _) knows h few room = absurd h

  -- an argument or a returned value
  pub given_well : (n : ℕ) (u : UnitTy) (f : Framed) (pushed lo : ℕ) (e : Typed) → Knows f u n → IsGiven u e → pushed < 2 ^ 16 → lo + uses None e ≤ 2 ^ 32 → AllWell n (expr_code f pushed lo Value e)
  given_well n u f pushed lo (node t (pack e)) knows h few room =
      let place : Place = place_of f pushed e in
      well_append n (base_code f pushed lo Registers e) _ (base_well n u f pushed lo Registers e knows h.0 few room) (bytes_well n place (extent_by (type_bytes f (type_in t))) (place_well n u f pushed e knows h.0))
  given_well n u f pushed lo (node t e) knows h few room = node_well n u f pushed lo Value t e knows h.0 few tt room

  args_well : (n : ℕ) (u : UnitTy) (f : Framed) (pushed lo : ℕ) (fast : Bool) (es : Nodes) → Knows f u n → AreTyped u es → pushed < 2 ^ 16 → lo + args_uses es ≤ 2 ^ 32 → AllWell n (args_code f pushed lo fast es)
  args_well n u f pushed lo fast none knows h few room = well_none n
  args_well n u f pushed lo fast (some e es) knows h few room =
      let kept : Bool = stays fast es in
      let size : ℕ = passed_size f e in
      well_append n (expr_code f pushed lo Value e) _ (given_well n u f pushed lo e knows h.0 few (omega (arith, room))) (well_append n (argument_code kept size) _ (argument_well n kept size) (args_well n u f (more pushed (argument_bytes kept size)) (lo + uses None e) fast es knows h.1 (omega arith) (omega (arith, room))))
