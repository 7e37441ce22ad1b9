-- The lines of expressions (C90 6.3): pushed bytes of values wait on the software stack, and fresh is the first label that
-- is free. A value stands in AX, or in EAX; of a place, and of a structure or
-- union, the address. Of one that is passed or returned the bytes stand in A, X and sreg, as many as there are, the first in A.
-- A test leads to its label where the truth is the one that is asked for, and else goes on.
use Rattle.std.specs.Prelude.{ℕ, ◌+◌, ◌==◌, ◌&&◌, not, if◌then◌else◌, Bool, true, false, Option, Some, None, List, [], ◌∷◌, ◌++◌}
use Rattle.c65_base.specs.declared.operators.UnaryOp.{UnaryOp}
use Rattle.c65_base.specs.declared.operators.BinaryOp.{BinaryOp}
use Rattle.c65_base.specs.declared.operators.StepKind.{StepKind}
use Rattle.c65_ints.specs.declared.types.IntType.{IntType}
use Rattle.c65_ctype.specs.Trees.{QTy}
use Rattle.c65_ctype.specs.Trees as types
use Rattle.c65_ctype.specs.Views.{types_of}
use Rattle.c65_csem.specs.Trees.{Typed, node, Node, constant, null, literal, object, func, deref, member, load, address, decay, convert, unary, binary, both, either, choice, comma, assign, assign_op, assign_step, step, copy, call, pack, spill, rest, Nodes, none, some}
use Rattle.c65_mach.specs.declared.rows.Op.TheVariants.{Jmp}
use Rattle.c65_mach.specs.declared.rows.Mode.TheVariants.{Absolute}
use Rattle.c65_code.specs.declared.line.Operand.TheVariants.{To}
use Rattle.c65_code.specs.declared.line.Line.{Line}
use Rattle.c65_code.specs.declared.line.Line.TheVariants.{Label, Do}
use Rattle.c65_code.specs.declared.routine.Width.{Width}
use Rattle.c65_code.specs.declared.routine.Width.TheVariants.{Ax}
use Rattle.c65_genframe.specs.Symbols.{numbers_of, literal_symbol, function_symbol}
use Rattle.c65_genframe.specs.Frames.{Framed, type_bytes}
use Rattle.c65_genwide.specs.Wide.{width_of}
use Rattle.c65_genload.specs.declared.places.Place.{Place}
use Rattle.c65_genload.specs.declared.places.Access.{Access}
use Rattle.c65_genload.specs.Places.{held, type_in, extent_of, extent_by}
use Rattle.c65_genload.specs.Numbers.{number_code}
use Rattle.c65_genload.specs.Conversions.{push_code, waiting}
use Rattle.c65_genload.specs.Addresses.{symbol_code, offset_code}
use Rattle.c65_genload.specs.Loads.{bytes_code}
use Rattle.c65_genload.specs.Stores.{copy_code}
use Rattle.c65_gendirect.specs.declared.direct.Direct.{Direct}
use Rattle.c65_gendirect.specs.declared.relation.Relation.{Relation}
use Rattle.c65_gendirect.specs.Compare.{relation_of}
use Rattle.c65_gendirect.specs.Tests.{zero_test_code, truth_code}
use Rattle.c65_gendirect.specs.Words.{first_byte_code}
use Rattle.c65_genexpr.specs.declared.destination.Destination.{Destination}
use Rattle.c65_genexpr.specs.declared.destination.Destination.TheVariants.{Registers, Pointer}
use Rattle.c65_genexpr.specs.declared.wanted.Wanted.{Wanted}
use Rattle.c65_genexpr.specs.declared.wanted.Wanted.TheVariants.{Value, Test}
use Rattle.c65_genexpr.specs.declared.operands.Operands.{Operands}
use Rattle.c65_genexpr.specs.declared.operands.Operands.TheVariants.{Numbers, PointerFirst}
use Rattle.c65_genexpr.specs.declared.types.Outcome.{Outcome}
use Rattle.c65_genexpr.specs.Types.{kind_of, outcome_of, kind_in, bare, offset_at, access_of, target_bytes}
use Rattle.c65_genexpr.specs.Places.{more, has_base, added_bytes, sum_has_base, object_place, place_of, target_of, object_code, target_code, rest_code}
use Rattle.c65_genexpr.specs.Wanted.{decided_code, wanted_by, handed, wanted, sense, aimed, inner, truth_by, is_straight, way, way_labels, joined}
use Rattle.c65_genexpr.specs.Spills.{spill_code}
use Rattle.c65_genexpr.specs.Operands.{residue_of, constant_in, operands_of, computes, unary_code, same_truth, conversion_by}
use Rattle.c65_genfield.specs.Bits.{byte_field}
use Rattle.c65_genexpr.specs.Direct.{kept_at, own_bytes}
use Rattle.c65_genexpr.specs.Destination.{arrived, destination_of, fetch_code}
use Rattle.c65_genexpr.specs.Fields.{loaded_test}
use Rattle.c65_genexpr.specs.Comparing.{relation_by, tested_by, comparing_of, takes_low, low_code, below_side, comparison_by}
use Rattle.c65_genexpr.specs.Elements.{element_at, element_or, loaded_element, element_byte_code}
use Rattle.c65_genexpr.specs.Lows.{is_number, byte_in, low_operand, low_operand_or, behind_pointer, low_load_by}
use Rattle.c65_genexpr.specs.Operating.{operating_of, below_operand, operator_by}
use Rattle.c65_genexpr.specs.Storing.{storing_of, below_value, base_for, assigned_by}
use Rattle.c65_genexpr.specs.Steps.{amount_of, step_code, open_code, close_code}
use Rattle.c65_genexpr.specs.Arguments.{is_fast, is_counted, stays, passed_size, passed_of, argument_code, argument_bytes}
use Rattle.c65_genexpr.specs.Calls.{named, named_code, pointer_code, direct_code}
use Rattle.c65_genexpr.specs.Uses.{uses, node_uses, by_operator, by_relation}

-- where the values of a type stand
abbrev pub width_in : QTy → Width
width_in t = width_of (kind_of (types.type_in t))

-- a constant, or the way that its truth decides
abbrev pub constant_code : Wanted → Width → ℕ → List Line
constant_code Value width n = number_code width n
constant_code (Test to s) width n = decided_code (not (n == 0)) s to

-- a number that is kept at a known place is tested where it lies, behind the lines of its base; else what is loaded is tested
abbrev pub tested_load : Option Direct → IntType → Bool → ℕ → List Line → List Line → List Line
tested_load (Some d) kind s to base test = base ++ zero_test_code (own_bytes d (extent_of kind)) s to
tested_load None kind s to base test = base ++ test

-- behind the base of a place
abbrev pub load_by : Wanted → Place → Access → List Line → List Line
load_by Value place access base = base ++ fetch_code place access
load_by (Test to s) place access base = tested_load (kept_at place access) (type_in access) s to base (loaded_test (byte_field access) place access s to)

-- the bytes that wait for the right side of a compound assignment
abbrev pub behind_open : Framed → ℕ → Operands → Typed → ℕ
behind_open f pushed operands a = more pushed (more (held (place_of f pushed a)) (waiting (width_of (computes operands))))

-- a compound assignment, from the lines of its two sides; the address of the left one is had once
abbrev pub compound : Framed → ℕ → BinaryOp → Operands → Typed → Typed → List Line → List Line → List Line
compound f pushed op operands a b left right =
    let place = place_of f pushed a in
    let access = access_of (types_of f.parts.types) a in
    left ++ (open_code place access (computes operands) ++ (right ++ close_code op operands (kind_in b) place access))

-- a call, from the lines of the called pointer and of the arguments: without a pointer that waits, and above one; below
-- arguments alone it waits
abbrev pub call_by : Framed → Option ℕ → Outcome → Typed → Nodes → List Line → List Line → List Line → List Line
call_by f (Some i) given g es callee args above = args ++ named_code f i (is_counted (bare g)) (passed_of f (is_fast (bare g)) es) given
call_by f None given g none callee args above = callee ++ direct_code (is_counted (bare g)) (passed_of f (is_fast (bare g)) none) given
call_by f None given g (some e es) callee args above = callee ++ (push_code Ax ++ (above ++ pointer_code (is_counted (bare g)) (passed_of f (is_fast (bare g)) (some e es)) given))

abbrev mutual
  pub expr_code : Framed → ℕ → ℕ → Wanted → Typed → List Line
  expr_code f pushed fresh w (node t n) = node_code f pushed fresh w t n

  pub node_code : Framed → ℕ → ℕ → Wanted → QTy → Node → List Line
  node_code f pushed fresh w t (constant z) = constant_code w (width_in t) (residue_of z)
  node_code f pushed fresh w t null = constant_code w Ax 0
  node_code f pushed fresh w t (literal n) = wanted w (width_in t) (symbol_code (literal_symbol (numbers_of f.parts) n) 0)
  node_code f pushed fresh w t (object i) = wanted w (width_in t) (object_code f pushed i)
  node_code f pushed fresh w t (func i) = wanted w (width_in t) (symbol_code (function_symbol (numbers_of f.parts) i) 0)
  node_code f pushed fresh w t (deref e) = wanted w (width_in t) (expr_code f pushed fresh Value e)
  node_code f pushed fresh w t (member e m) = wanted w (width_in t) (expr_code f pushed fresh Value e ++ offset_code (offset_at (types_of f.parts.types) (bare e) m))
  node_code f pushed fresh w t (load e) =
      let access = access_of (types_of f.parts.types) e in
      element_or (element_at f e)
      (λ x. loaded_element w x (index_code f pushed fresh e))
      (load_by w (place_of f pushed e) access (base_code f pushed fresh (destination_of access) e))
  node_code f pushed fresh w t (address e) = wanted w (width_in t) (expr_code f pushed fresh Value e)
  node_code f pushed fresh w t (decay e) = wanted w (width_in t) (expr_code f pushed fresh Value e)
  node_code f pushed fresh w t (convert e) =
      let same = same_truth (types.type_in t) (bare e) in
      conversion_by w same (types.type_in t) (kind_in e) (expr_code f pushed fresh (handed same w) e)
  node_code f pushed fresh w t (unary op e) =
      by_operator op
      (truth_by w fresh (expr_code f pushed (inner w fresh) (Test (aimed w fresh) (not (sense w))) e))
      (wanted w (width_in t) (expr_code f pushed fresh Value e ++ unary_code op (width_of (kind_in e))))
  node_code f pushed fresh w t (binary op a b) =
      let operands = operands_of f (bare a) (bare b) in
      let bytes = waiting (width_of (computes operands)) in
      by_relation (relation_of op)
      (let how = operating_of f pushed op operands a b in
      wanted w (width_in t) (operator_by Registers how op operands (kind_in b) fresh (expr_code f pushed (fresh + 1) Value a) (expr_code f (below_operand how pushed bytes) (fresh + 1 + uses None a) Value b)))
      (λ r.
      let q = relation_by (sense w) r in
      let how = comparing_of f pushed q (computes operands) a b in
      let to = aimed w fresh in
      let own = inner w fresh in
      truth_by w fresh (comparison_by how op operands (kind_in b) (sense w) to own (if takes_low how then low_value_code f pushed (own + 1) a else expr_code f pushed (own + 1) (wanted_by (tested_by q b) to) a) (if takes_low how then low_value_code f (below_side how pushed bytes) (own + 1 + uses (tested_by q b) a) b else expr_code f (below_side how pushed bytes) (own + 1 + uses (tested_by q b) a) (wanted_by (tested_by q a) to) b)))
  node_code f pushed fresh w t (both a b) =
      let straight = is_straight false (sense w) in
      let own = inner w fresh in
      let first = own + way_labels straight in
      truth_by w fresh (joined straight own (expr_code f pushed first (Test (way straight (aimed w fresh) own) false) a) (expr_code f pushed (first + uses (Some false) a) (Test (aimed w fresh) (sense w)) b))
  node_code f pushed fresh w t (either a b) =
      let straight = is_straight true (sense w) in
      let own = inner w fresh in
      let first = own + way_labels straight in
      truth_by w fresh (joined straight own (expr_code f pushed first (Test (way straight (aimed w fresh) own) true) a) (expr_code f pushed (first + uses (Some true) a) (Test (aimed w fresh) (sense w)) b))
  node_code f pushed fresh w t (choice c a b) =
      let first = fresh + 2 + uses (Some false) c in
      wanted w (width_in t) (expr_code f pushed (fresh + 2) (Test fresh false) c ++ (expr_code f pushed first Value a ++ (Do Jmp Absolute (To (fresh + 1)) ∷ Label fresh ∷ (expr_code f pushed (first + uses None a) Value b ++ Label (fresh + 1) ∷ []))))
  node_code f pushed fresh w t (comma a b) = expr_code f pushed fresh Value a ++ expr_code f pushed (fresh + uses None a) w b
  node_code f pushed fresh w t (assign a b) =
      let place = place_of f pushed a in
      let how = storing_of f pushed a b in
      wanted w (width_in t) (assigned_by how place (access_of (types_of f.parts.types) a) (base_code f pushed fresh (base_for how) a) (expr_code f (below_value how pushed place) (fresh + uses None a) Value b))
  node_code f pushed fresh w t (assign_op op k a b) = wanted w (width_in t) (compound f pushed op (Numbers k) a b (base_code f pushed fresh Registers a) (expr_code f (behind_open f pushed (Numbers k) a) (fresh + uses None a) Value b))
  node_code f pushed fresh w t (assign_step op a b) =
      let operands = PointerFirst (target_bytes f (bare a)) in
      wanted w (width_in t) (compound f pushed op operands a b (base_code f pushed fresh Registers a) (expr_code f (behind_open f pushed operands a) (fresh + uses None a) Value b))
  node_code f pushed fresh w t (step how e) =
      wanted w (width_in t) (base_code f pushed (fresh + 1) Registers e ++ step_code how (target_bytes f (bare e)) (amount_of f how (bare e)) (place_of f pushed e) (access_of (types_of f.parts.types) e) fresh)
  node_code f pushed fresh w t (copy a b) =
      wanted w (width_in t) (expr_code f pushed fresh Value a ++ (push_code Ax ++ (expr_code f (more pushed 2) (fresh + uses None a) Value b ++ copy_code (type_bytes f (types.type_in t)))))
  node_code f pushed fresh w t (call g es) =
      wanted w (width_in t) (call_by f (named g) (outcome_of f (types.type_in t)) g es (expr_code f pushed fresh Value g) (args_code f pushed fresh (is_fast (bare g)) es) (args_code f (more pushed 2) (fresh + uses None g) (is_fast (bare g)) es))
  node_code f pushed fresh w t (pack e) =
      wanted w (width_in t) (base_code f pushed fresh Registers e ++ bytes_code (place_of f pushed e) (extent_by (type_bytes f (types.type_in t))))
  node_code f pushed fresh w t (spill i e) = wanted w (width_in t) (expr_code f pushed fresh Value e ++ spill_code (object_code f pushed i) (extent_by (type_bytes f (types.type_in t))))
  node_code f pushed fresh w t rest = wanted w (width_in t) (rest_code f pushed)

  -- the address behind which a place lies, as far as it tells, comes to where it is wanted; of one that is known only the labels of the
  -- sums that tell it
  pub base_code : Framed → ℕ → ℕ → Destination → Typed → List Line
  base_code f pushed fresh d (node t (literal n)) = []
  base_code f pushed fresh d (node t (object i)) = target_code (object_place f pushed i) (object_code f pushed i ++ arrived d)
  base_code f pushed fresh d (node t (deref e)) = pointer_base_code f pushed fresh d e
  base_code f pushed fresh d (node t (member e m)) =
      let n = offset_at (types_of f.parts.types) (bare e) m in
      if has_base (place_of f pushed e) n then base_code f pushed fresh d e else expr_code f pushed fresh Value e ++ (offset_code n ++ arrived d)
  base_code f pushed fresh d (node t n) = node_code f pushed fresh Value t n ++ arrived d

  -- the same of a pointer; the label of a sum that is left out is placed all the same
  pub pointer_base_code : Framed → ℕ → ℕ → Destination → Typed → List Line
  pointer_base_code f pushed fresh d (node t (binary op a b)) =
      let operands = operands_of f (bare a) (bare b) in
      let how = operating_of f pushed op operands a b in
      let bytes = waiting (width_of (computes operands)) in
      if sum_has_base (target_of f pushed a) (added_bytes op operands (constant_in b)) then Label fresh ∷ pointer_base_code f pushed (fresh + 1) d a
      else by_relation (relation_of op)
      (operator_by d how op operands (kind_in b) fresh (expr_code f pushed (fresh + 1) Value a) (expr_code f (below_operand how pushed bytes) (fresh + 1 + uses None a) Value b))
      (λ r. node_code f pushed fresh Value t (binary op a b) ++ arrived d)
  pointer_base_code f pushed fresh d (node t (address e)) = base_code f pushed fresh d e
  pointer_base_code f pushed fresh d (node t (decay e)) = base_code f pushed fresh d e
  pointer_base_code f pushed fresh d (node t n) = node_code f pushed fresh Value t n ++ arrived d

  -- the low byte of a value comes to A, and X is anything
  pub low_value_code : Framed → ℕ → ℕ → Typed → List Line
  low_value_code f pushed fresh (node t (convert e)) =
      low_code (byte_in f pushed (node t (convert e))) (if is_number (types.type_in t) && is_number (bare e) then low_value_code f pushed fresh e else node_code f pushed fresh Value t (convert e))
  low_value_code f pushed fresh (node t (binary op a b)) =
      low_code (byte_in f pushed (node t (binary op a b)))
      (low_operand_or (low_operand f pushed op a b)
      (λ d. Label fresh ∷ (low_value_code f pushed (fresh + 1) a ++ first_byte_code op d))
      (node_code f pushed fresh Value t (binary op a b)))
  low_value_code f pushed fresh (node t (load e)) =
      low_code (byte_in f pushed (node t (load e)))
      (element_or (element_at f e)
      (λ x. index_code f pushed fresh e ++ element_byte_code x.0)
      (low_load_by (behind_pointer (place_of f pushed e) (access_of (types_of f.parts.types) e)) (base_code f pushed fresh Pointer e) (node_code f pushed fresh Value t (load e))))
  low_value_code f pushed fresh (node t n) = low_code (byte_in f pushed (node t n)) (node_code f pushed fresh Value t n)

  -- the index of an element of a small array: the low byte of it comes to A; the label of the sum is placed all the same
  pub index_code : Framed → ℕ → ℕ → Typed → List Line
  index_code f pushed fresh (node t (deref e)) = sum_index_code f pushed fresh e
  index_code f pushed fresh (node t (member e m)) = index_code f pushed fresh e
  index_code f pushed fresh (node t n) = []

  pub sum_index_code : Framed → ℕ → ℕ → Typed → List Line
  sum_index_code f pushed fresh (node t (binary op a b)) = Label fresh ∷ low_value_code f pushed (fresh + 1) b
  sum_index_code f pushed fresh (node t n) = []

  -- arguments from left to right
  pub args_code : Framed → ℕ → ℕ → Bool → Nodes → List Line
  args_code f pushed fresh fast none = []
  args_code f pushed fresh fast (some e es) =
      let kept = stays fast es in
      let bytes = passed_size f e in
      expr_code f pushed fresh Value e ++ (argument_code kept bytes ++ args_code f (more pushed (argument_bytes kept bytes)) (fresh + uses None e) fast es)

-- ---- the same by construct

abbrev pub operator_code : Framed → ℕ → ℕ → Destination → BinaryOp → Typed → Typed → List Line
operator_code f pushed fresh d op a b =
    let operands = operands_of f (bare a) (bare b) in
    let how = operating_of f pushed op operands a b in
    operator_by d how op operands (kind_in b) fresh (expr_code f pushed (fresh + 1) Value a) (expr_code f (below_operand how pushed (waiting (width_of (computes operands)))) (fresh + 1 + uses None a) Value b)

-- a side of a comparison, of which the low byte alone may be asked for
abbrev pub side_code : Framed → ℕ → ℕ → Bool → Wanted → Typed → List Line
side_code f pushed fresh low w e = if low then low_value_code f pushed fresh e else expr_code f pushed fresh w e

-- where the truth of a comparison is s, to a label
abbrev pub comparison_code : Framed → ℕ → ℕ → ℕ → Bool → BinaryOp → Relation → Typed → Typed → List Line
comparison_code f pushed own to s op r a b =
    let operands = operands_of f (bare a) (bare b) in
    let q = relation_by s r in
    let how = comparing_of f pushed q (computes operands) a b in
    comparison_by how op operands (kind_in b) s to own (side_code f pushed (own + 1) (takes_low how) (wanted_by (tested_by q b) to) a) (side_code f (below_side how pushed (waiting (width_of (computes operands)))) (own + 1 + uses (tested_by q b) a) (takes_low how) (wanted_by (tested_by q a) to) b)

-- a unary operator whose value is wanted
abbrev pub unary_value_code : Framed → ℕ → ℕ → UnaryOp → Typed → List Line
unary_value_code f pushed fresh op e =
    by_operator op (expr_code f pushed (fresh + 2) (Test fresh true) e ++ truth_code fresh) (expr_code f pushed fresh Value e ++ unary_code op (width_of (kind_in e)))

-- a test of the value
abbrev pub plain_test_code : Framed → ℕ → ℕ → ℕ → Bool → Typed → List Line
plain_test_code f pushed fresh to s e = wanted (Test to s) (width_of (kind_in e)) (expr_code f pushed fresh Value e)

-- `&&` and `||`, which a left side decides whose truth is stop
abbrev pub joint_code : Framed → ℕ → ℕ → ℕ → Bool → Bool → Typed → Typed → List Line
joint_code f pushed own to s stop a b =
    let straight = is_straight stop s in
    let first = own + way_labels straight in
    joined straight own (expr_code f pushed first (Test (way straight to own) stop) a) (expr_code f pushed (first + uses (Some stop) a) (Test to s) b)

abbrev pub load_code : Framed → ℕ → ℕ → Wanted → Typed → List Line
load_code f pushed fresh w e =
    let access = access_of (types_of f.parts.types) e in
    element_or (element_at f e) (λ x. loaded_element w x (index_code f pushed fresh e)) (load_by w (place_of f pushed e) access (base_code f pushed fresh (destination_of access) e))

-- of one that is no element, a test
abbrev pub kept_test_code : Framed → ℕ → ℕ → ℕ → Bool → Typed → List Line
kept_test_code f pushed fresh to s e =
    let access = access_of (types_of f.parts.types) e in
    load_by (Test to s) (place_of f pushed e) access (base_code f pushed fresh (destination_of access) e)

-- its low byte alone
abbrev pub low_load_code : Framed → ℕ → ℕ → Typed → List Line
low_load_code f pushed fresh e =
    element_or (element_at f e)
    (λ x. index_code f pushed fresh e ++ element_byte_code x.0)
    (low_load_by (behind_pointer (place_of f pushed e) (access_of (types_of f.parts.types) e)) (base_code f pushed fresh Pointer e) (load_code f pushed fresh Value e))

-- the low byte of what is computed, which is not read where it lies
abbrev pub low_node_code : Framed → ℕ → ℕ → QTy → Node → List Line
low_node_code f pushed fresh t (convert e) = if is_number (types.type_in t) && is_number (bare e) then low_value_code f pushed fresh e else node_code f pushed fresh Value t (convert e)
low_node_code f pushed fresh t (binary op a b) = low_operand_or (low_operand f pushed op a b) (λ d. Label fresh ∷ (low_value_code f pushed (fresh + 1) a ++ first_byte_code op d)) (node_code f pushed fresh Value t (binary op a b))
low_node_code f pushed fresh t (load e) =
    element_or (element_at f e)
    (λ x. index_code f pushed fresh e ++ element_byte_code x.0)
    (low_load_by (behind_pointer (place_of f pushed e) (access_of (types_of f.parts.types) e)) (base_code f pushed fresh Pointer e) (node_code f pushed fresh Value t (load e)))
low_node_code f pushed fresh t n = node_code f pushed fresh Value t n

abbrev pub low_lines : Framed → ℕ → ℕ → Typed → List Line
low_lines f pushed fresh (node t n) = low_node_code f pushed fresh t n

-- the base of a part, so far behind the beginning
abbrev pub part_base_code : Framed → ℕ → ℕ → Destination → ℕ → Typed → List Line
part_base_code f pushed fresh d n e = if has_base (place_of f pushed e) n then base_code f pushed fresh d e else expr_code f pushed fresh Value e ++ (offset_code n ++ arrived d)

abbrev pub node_base_code : Framed → ℕ → ℕ → Destination → QTy → Node → List Line
node_base_code f pushed fresh d t (literal n) = []
node_base_code f pushed fresh d t (object i) = target_code (object_place f pushed i) (object_code f pushed i ++ arrived d)
node_base_code f pushed fresh d t (deref e) = pointer_base_code f pushed fresh d e
node_base_code f pushed fresh d t (member e m) = part_base_code f pushed fresh d (offset_at (types_of f.parts.types) (bare e) m) e
node_base_code f pushed fresh d t n = node_code f pushed fresh Value t n ++ arrived d

abbrev pub base_lines : Framed → ℕ → ℕ → Destination → Typed → List Line
base_lines f pushed fresh d (node t n) = node_base_code f pushed fresh d t n

-- the base of a pointer, and how many labels it has
abbrev pub sum_base_code : Framed → ℕ → ℕ → Destination → QTy → BinaryOp → Typed → Typed → List Line
sum_base_code f pushed fresh d t op a b = by_relation (relation_of op) (operator_code f pushed fresh d op a b) (λ r. node_code f pushed fresh Value t (binary op a b) ++ arrived d)

abbrev pub node_pointer_code : Framed → ℕ → ℕ → Destination → QTy → Node → List Line
node_pointer_code f pushed fresh d t (binary op a b) =
    if sum_has_base (target_of f pushed a) (added_bytes op (operands_of f (bare a) (bare b)) (constant_in b)) then Label fresh ∷ pointer_base_code f pushed (fresh + 1) d a else sum_base_code f pushed fresh d t op a b
node_pointer_code f pushed fresh d t (address e) = base_code f pushed fresh d e
node_pointer_code f pushed fresh d t (decay e) = base_code f pushed fresh d e
node_pointer_code f pushed fresh d t n = node_code f pushed fresh Value t n ++ arrived d

abbrev pub pointer_lines : Framed → ℕ → ℕ → Destination → Typed → List Line
pointer_lines f pushed fresh d (node t n) = node_pointer_code f pushed fresh d t n

abbrev pub node_pointer_uses : Framed → ℕ → QTy → Node → ℕ
node_pointer_uses f pushed t (binary op a b) =
    if sum_has_base (target_of f pushed a) (added_bytes op (operands_of f (bare a) (bare b)) (constant_in b)) then 1 + uses None a else node_uses None t (binary op a b)
node_pointer_uses f pushed t n = node_uses None t n

abbrev pub pointer_labels : Framed → ℕ → Typed → ℕ
pointer_labels f pushed (node t n) = node_pointer_uses f pushed t n

abbrev pub choice_code : Framed → ℕ → ℕ → Typed → Typed → Typed → List Line
choice_code f pushed fresh c a b =
    let first = fresh + 2 + uses (Some false) c in
    expr_code f pushed (fresh + 2) (Test fresh false) c ++ (expr_code f pushed first Value a ++ (Do Jmp Absolute (To (fresh + 1)) ∷ Label fresh ∷ (expr_code f pushed (first + uses None a) Value b ++ Label (fresh + 1) ∷ [])))

abbrev pub assign_code : Framed → ℕ → ℕ → Typed → Typed → List Line
assign_code f pushed fresh a b =
    let place = place_of f pushed a in
    let how = storing_of f pushed a b in
    assigned_by how place (access_of (types_of f.parts.types) a) (base_code f pushed fresh (base_for how) a) (expr_code f (below_value how pushed place) (fresh + uses None a) Value b)

abbrev pub step_value_code : Framed → ℕ → ℕ → StepKind → Typed → List Line
step_value_code f pushed fresh how e = base_code f pushed (fresh + 1) Registers e ++ step_code how (target_bytes f (bare e)) (amount_of f how (bare e)) (place_of f pushed e) (access_of (types_of f.parts.types) e) fresh

abbrev pub compound_code : Framed → ℕ → ℕ → BinaryOp → Operands → Typed → Typed → List Line
compound_code f pushed fresh op operands a b = compound f pushed op operands a b (base_code f pushed fresh Registers a) (expr_code f (behind_open f pushed operands a) (fresh + uses None a) Value b)

abbrev pub call_code : Framed → ℕ → ℕ → Outcome → Typed → Nodes → List Line
call_code f pushed fresh given g es = call_by f (named g) given g es (expr_code f pushed fresh Value g) (args_code f pushed fresh (is_fast (bare g)) es) (args_code f (more pushed 2) (fresh + uses None g) (is_fast (bare g)) es)
