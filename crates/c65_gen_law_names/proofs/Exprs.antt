-- The symbols of the lines of an expression.
use Rattle.std.proofs.Common.{◌≡◌, ℕ, ◌+◌, ◌==◌, Bool, true, false, Option, None, Some, List, [], ◌∷◌, ◌++◌, refl, subst}
use Rattle.std.specs.Prelude.{◌&&◌, not, if◌then◌else◌}
use Rattle.c65_base.specs.declared.operators.UnaryOp.TheVariants.{Not}
use Rattle.c65_base.specs.declared.operators.BinaryOp.{BinaryOp}
use Rattle.c65_ints.specs.declared.types.IntType.{IntType}
use Rattle.c65_ctype.specs.Trees.{Ty, QTy, type_in}
use Rattle.c65_ctype.specs.Views.{types_of}
use Rattle.c65_csem.specs.Trees.{Typed, node, Node, constant, null, literal, object, func, deref, member, load, address, decay, convert, unary, binary, both, either, choice, comma, assign, assign_op, assign_step, step, copy, call, pack, spill, rest as further, Nodes, none, some}
use Rattle.c65_mach.specs.declared.rows.Op.TheVariants.{Jmp}
use Rattle.c65_mach.specs.declared.rows.Mode.TheVariants.{Absolute}
use Rattle.c65_code.specs.declared.line.Operand.TheVariants.{To}
use Rattle.c65_code.specs.declared.line.Line.{Line}
use Rattle.c65_code.specs.declared.line.Line.TheVariants.{Label, Do}
use Rattle.c65_code.specs.declared.routine.Width.{Width}
use Rattle.c65_code.specs.declared.routine.Width.TheVariants.{Ax}
use Rattle.c65_genframe.specs.Symbols.{numbers_of, literal_symbol, function_symbol}
use Rattle.c65_genframe.specs.Frames.{Framed, type_bytes}
use Rattle.c65_genwide.specs.Wide.{width_of}
use Rattle.c65_genload.specs.declared.places.Place.{Place}
use Rattle.c65_genload.specs.declared.places.Place.TheVariants as places
use Rattle.c65_genload.specs.declared.places.Access.{Access}
use Rattle.c65_genload.specs.Places.{extent_of, extent_by}
use Rattle.c65_genload.specs.Places as kept
use Rattle.c65_genload.specs.Conversions.{waiting}
use Rattle.c65_gendirect.specs.declared.direct.Direct.{Direct}
use Rattle.c65_gendirect.specs.declared.relation.Relation.{Relation}
use Rattle.c65_gendirect.specs.Compare.{relation_of}
use Rattle.c65_genexpr.specs.declared.storing.Storing.{Storing}
use Rattle.c65_genexpr.specs.declared.storing.Storing.TheVariants as storing
use Rattle.c65_genexpr.specs.declared.wanted.Wanted.{Wanted}
use Rattle.c65_genexpr.specs.declared.wanted.Wanted.TheVariants.{Value, Test}
use Rattle.c65_genexpr.specs.Wanted.{decided_code, wanted_by, handed, value_test_code, wanted, aimed, sense, inner, truth_by, is_straight, way, way_labels}
use Rattle.c65_genexpr.specs.Wanted as tests
use Rattle.c65_genexpr.specs.declared.comparing.Comparing.{Comparing}
use Rattle.c65_genexpr.specs.declared.operating.Operating.{Operating}
use Rattle.c65_genexpr.specs.Direct.{kept_at, own_bytes}
use Rattle.c65_genexpr.specs.Comparing.{relation_by, tested_by, comparing_of, takes_low, below_side}
use Rattle.c65_genexpr.specs.Operating.{operating_of, below_operand}
use Rattle.c65_genexpr.specs.declared.destination.Destination.{Destination}
use Rattle.c65_genexpr.specs.declared.destination.Destination.TheVariants.{Registers, Pointer}
use Rattle.c65_genexpr.specs.declared.operands.Operands.{Operands}
use Rattle.c65_genexpr.specs.declared.operands.Operands.TheVariants.{Numbers, PointerFirst}
use Rattle.c65_genexpr.specs.declared.types.Outcome.{Outcome}
use Rattle.c65_genexpr.specs.Types.{kind_of, outcome_of, kind_in, bare, offset_at, access_of, target_bytes}
use Rattle.c65_genexpr.specs.Places.{more, has_base, added_bytes, sum_has_base, object_place, place_of, target_of, object_code, target_code}
use Rattle.c65_genexpr.specs.Operands.{residue_of, constant_in, operands_of, computes, same_truth, conversion_by}
use Rattle.c65_genexpr.specs.Held.{keep_code}
use Rattle.c65_genexpr.specs.Destination.{arrived, destination_of}
use Rattle.c65_genexpr.specs.Storing.{storing_of, below_value, base_for, assigned_by}
use Rattle.c65_genexpr.specs.Steps.{amount_of}
use Rattle.c65_genexpr.specs.Arguments.{is_fast, is_counted, stays, passed_size, passed_of, argument_bytes}
use Rattle.c65_genexpr.specs.Calls.{named_in, named}
use Rattle.c65_genexpr.specs.Uses.{by_relation, uses}
use Rattle.c65_genfield.specs.Bits.{byte_field}
use Rattle.c65_genexpr.specs.Code.{width_in, constant_code, tested_load, load_by, behind_open, compound, call_by, expr_code, node_code, base_code, pointer_base_code, low_value_code, index_code, sum_index_code, args_code}
use Rattle.c65_gendirect.specs.Words.{first_byte_code}
use Rattle.c65_genexpr.specs.Elements.{element_at, loaded_element, element_byte_code}
use Rattle.c65_genexpr.specs.Lows.{is_number, byte_in, low_operand, behind_pointer}
use Rattle.c65_gen_law_names.specs.Trees.{KnownNode, KnownTree, KnownTrees}
use Rattle.c65_gen_law_names.proofs.Known.{AllKnown, known_if, known_more, known_none, known_then}
use Rattle.c65_gen_law_names.proofs.Loads.{KnownPlace, bytes_known, copy_known, hold_known, narrow_known, number_known, offset_known, push_known, store_known, symbol_known, test_known}
use Rattle.c65_gen_law_names.proofs.Places.{argument_known, close_known, conversion_known, direct_known, further_known, named_known, object_known, open_known, place_known, pointer_known, spill_known, unary_known}
use Rattle.c65_gen_law_names.proofs.Directs.{KnownRead, byte_through_known, first_byte_known, read_bytes_known, truth_known, word_through_known, zero_test_known}
use Rattle.c65_gen_law_names.proofs.Pointed.{arrived_known, fetch_known}
use Rattle.c65_gen_law_names.proofs.Forms.{KnownStoring, byte_behind_known, comparing_known, comparison_known, keep_known, kept_known, low_known, operating_known, operator_known, own_known, storing_known, word_behind_known}
use Rattle.c65_gen_law_names.proofs.Elements.{element_known, byte_in_known, operand_known, byte_of_known, loaded_known, element_or_known, operand_or_known, low_load_known}
use Rattle.c65_gen_law_names.proofs.Fields.{loaded_test_known}
use Rattle.c65_gen_law_names.proofs.Steps.{step_known}

target_known : (P : ℕ → Type 0) (p : Place) (code : List Line) → AllKnown P code → AllKnown P (target_code p code)
target_known P (places.Far at) code h = h
target_known P (places.Bank b) code h = known_none
target_known P (places.Near at) code h = known_none
target_known P (places.Data s at) code h = known_none

-- ---- tests

value_test_known : (P : ℕ → Type 0) (w : Width) (s : Bool) (to : ℕ) → AllKnown P (value_test_code w s to)
value_test_known P w s to = known_then (test_known P w) (record { all = tt })

wanted_known : (P : ℕ → Type 0) (w : Wanted) (width : Width) (lines : List Line) → AllKnown P lines → AllKnown P (wanted w width lines)
wanted_known P Value width lines h = h
wanted_known P (Test to s) width lines h = known_then h (value_test_known P width s to)

truth_by_known : (P : ℕ → Type 0) (w : Wanted) (lo : ℕ) (lines : List Line) → AllKnown P lines → AllKnown P (truth_by w lo lines)
truth_by_known P Value lo lines h = known_then h (truth_known P lo)
truth_by_known P (Test to s) lo lines h = h

decided_known : (P : ℕ → Type 0) (truth s : Bool) (to : ℕ) → AllKnown P (decided_code truth s to)
decided_known P true true to = record { all = tt }
decided_known P false false to = record { all = tt }
decided_known P true false to = known_none
decided_known P false true to = known_none

constant_known : (P : ℕ → Type 0) (w : Wanted) (width : Width) (m : ℕ) → AllKnown P (constant_code w width m)
constant_known P Value width m = number_known P width m
constant_known P (Test to s) width m = decided_known P (not (m == 0)) s to

tested_load_known : (P : ℕ → Type 0) (d : Option Direct) (kind : IntType) (s : Bool) (to : ℕ) (base test : List Line) → KnownRead P d → AllKnown P base → AllKnown P test → AllKnown P (tested_load d kind s to base test)
tested_load_known P (Some d) kind s to base test h b k = known_then b (zero_test_known P (own_bytes d (extent_of kind)) s to (own_known P d (extent_of kind) h))
tested_load_known P None kind s to base test h b k = known_then b k

load_by_known : (P : ℕ → Type 0) (w : Wanted) (place : Place) (access : Access) (lines : List Line) → KnownPlace P place → AllKnown P lines → AllKnown P (load_by w place access lines)
load_by_known P Value place access lines h k = known_then k (fetch_known P place access h)
load_by_known P (Test to s) place access lines h k = tested_load_known P (kept_at place access) (kept.type_in access) s to lines _ (kept_known P place access h) k (loaded_test_known P (byte_field access) place access s to h)

converted_known : (P : ℕ → Type 0) (w : Wanted) (same : Bool) (t : Ty) (from : IntType) (lines : List Line) → AllKnown P lines → AllKnown P (conversion_by w same t from lines)
converted_known P Value same t from lines h = known_then h (conversion_known P t from)
converted_known P (Test to s) true t from lines h = h
converted_known P (Test to s) false t from lines h = wanted_known P (Test to s) (width_of (kind_of t)) _ (known_then h (conversion_known P t from))

-- ---- a function that is called by its name

callee_in : (P : ℕ → Type 0) (f : Framed) (e : Typed) (i : ℕ) → KnownTree P f e → named_in e ≡ Some i → P (function_symbol (numbers_of f.parts) i).0
callee_in P f (node t (func j)) i h is = let same : j ≡ i = cc in subst (λ (k : ℕ). P (function_symbol (numbers_of f.parts) k).0) same h
callee_in P f (node t _) i h is = absurd cc

callee_known : (P : ℕ → Type 0) (f : Framed) (g : Typed) (i : ℕ) → KnownTree P f g → named g ≡ Some i → P (function_symbol (numbers_of f.parts) i).0
callee_known P f (node t (decay e)) i h is = callee_in P f e i h is
callee_known P f (node t _) i h is = absurd cc

-- ---- nodes over lines that are given

joined_known : (P : ℕ → Type 0) (straight : Bool) (own : ℕ) (a b : List Line) → AllKnown P a → AllKnown P b → AllKnown P (tests.joined straight own a b)
joined_known P true own a b ha hb = known_then ha (known_then hb known_none)
joined_known P false own a b ha hb =
    known_then ha (known_then hb (record { all = tt }))

choice_known : (P : ℕ → Type 0) (lo : ℕ) (c a b : List Line) → AllKnown P c → AllKnown P a → AllKnown P b → AllKnown P (c ++ (a ++ (Do Jmp Absolute (To (lo + 1)) ∷ Label lo ∷ (b ++ Label (lo + 1) ∷ []))))
choice_known P lo c a b hc ha hb =
    let second : AllKnown P (b ++ Label (lo + 1) ∷ []) = known_then hb (record { all = tt }) in
    known_then hc (known_then ha (known_more tt (known_more tt second)))

assigned_known : (P : ℕ → Type 0) (how : Storing) (place : Place) (access : Access) (a b : List Line) → KnownStoring P how → KnownPlace P place → AllKnown P a → AllKnown P b → AllKnown P (assigned_by how place access a b)
assigned_known P (storing.Left at stored) place access a b k h ha hb = known_then ha (known_then (read_bytes_known P at stored k) (narrow_known P (kept.type_in access)))
assigned_known P (storing.RightByte at low high) place access a b k h ha hb = known_then hb (known_then (byte_through_known P at low high k.0 k.1) (narrow_known P (kept.type_in access)))
assigned_known P (storing.RightWord at low high) place access a b k h ha hb = known_then hb (word_through_known P at low high k.0 k.1)
assigned_known P (storing.HeldByte at) place access a b k h ha hb =
    known_then ha (known_then {a = keep_code} (keep_known P) (known_then hb (known_then (byte_behind_known P at) (narrow_known P (kept.type_in access)))))
assigned_known P (storing.HeldWord at) place access a b k h ha hb = known_then ha (known_then {a = keep_code} (keep_known P) (known_then hb (word_behind_known P at)))
assigned_known P storing.Stacked place access a b k h ha hb =
    known_then ha (known_then (hold_known P place) (known_then hb (store_known P place access h)))

-- ---- the bases of places

-- a sum that is left out has its label
sum_known : (P : ℕ → Type 0) (lo : ℕ) (c : Bool) (a b : List Line) → AllKnown P a → AllKnown P b → AllKnown P (if c then Label lo ∷ a else b)
sum_known P lo true a b ha hb = known_more tt ha
sum_known P lo false a b ha hb = hb

compound_known : (P : ℕ → Type 0) (f : Framed) (pushed : ℕ) (op : BinaryOp) (operands : Operands) (a b : Typed) (left right : List Line) → KnownPlace P (place_of f pushed a) → AllKnown P left → AllKnown P right → AllKnown P (compound f pushed op operands a b left right)
compound_known P f pushed op operands a b left right h ha hb =
    let place : Place = place_of f pushed a in
    let access : Access = access_of (types_of f.parts.types) a in
    known_then ha (known_then (open_known P place access (computes operands) h) (known_then hb (close_known P op operands (kind_in b) place access h)))

call_known : (P : ℕ → Type 0) (f : Framed) (i : Option ℕ) (given : Outcome) (g : Typed) (es : Nodes) (callee args above : List Line) → ((k : ℕ) → i ≡ Some k → P (function_symbol (numbers_of f.parts) k).0) → AllKnown P callee → AllKnown P args → AllKnown P above → AllKnown P (call_by f i given g es callee args above)
call_known P f (Some k) given g es callee args above known hc ha hb = known_then ha (named_known P f k (is_counted (bare g)) (passed_of f (is_fast (bare g)) es) given (known k refl))
call_known P f None given g none callee args above known hc ha hb = known_then hc (direct_known P (is_counted (bare g)) (passed_of f (is_fast (bare g)) none) given)
call_known P f None given g (some e more_args) callee args above known hc ha hb =
    let es : Nodes = some e more_args in
    known_then hc (known_then (push_known P Ax) (known_then hb (pointer_known P (is_counted (bare g)) (passed_of f (is_fast (bare g)) es) given)))

relation_known : {P : ℕ → Type 0} (o : Option Relation) {other : List Line} {g : Relation → List Line} → AllKnown P other → ((r : Relation) → AllKnown P (g r)) → AllKnown P (by_relation o other g)
relation_known None p q = p
relation_known (Some r) p q = q r

-- ---- the whole tree

mutual
  pub expr_known : (P : ℕ → Type 0) (f : Framed) (pushed lo : ℕ) (w : Wanted) (e : Typed) → KnownTree P f e → AllKnown P (expr_code f pushed lo w e)
  expr_known P f pushed lo w (node t n) h = node_known P f pushed lo w t n h

  node_known : (P : ℕ → Type 0) (f : Framed) (pushed lo : ℕ) (w : Wanted) (t : QTy) (n : Node) → KnownNode P f n → AllKnown P (node_code f pushed lo w t n)
  node_known P f pushed lo w t (constant z) h = constant_known P w (width_in t) (residue_of z)
  node_known P f pushed lo w t null h = constant_known P w Ax 0
  node_known P f pushed lo w t (literal i) h = wanted_known P w (width_in t) _ (symbol_known P (literal_symbol (numbers_of f.parts) i) 0 h)
  node_known P f pushed lo w t (object i) h = wanted_known P w (width_in t) _ (object_known P f pushed i h)
  node_known P f pushed lo w t (func i) h = wanted_known P w (width_in t) _ (symbol_known P (function_symbol (numbers_of f.parts) i) 0 h)
  node_known P f pushed lo w t (deref e) h = wanted_known P w (width_in t) _ (expr_known P f pushed lo Value e h)
  node_known P f pushed lo w t (member e m) h = wanted_known P w (width_in t) _ (known_then (expr_known P f pushed lo Value e h) (offset_known P (offset_at (types_of f.parts.types) (bare e) m)))
  node_known P f pushed lo w t (load e) h =
      let access : Access = access_of (types_of f.parts.types) e in
      element_or_known P (element_at f e) (λ x. loaded_element w x (index_code f pushed lo e)) _ (element_known P f e h) (λ x s. loaded_known P w x _ s (index_known P f pushed lo e h))
      (load_by_known P w (place_of f pushed e) access _ (place_known P f pushed e h) (base_known P f pushed lo (destination_of access) e h))
  node_known P f pushed lo w t (address e) h = wanted_known P w (width_in t) _ (expr_known P f pushed lo Value e h)
  node_known P f pushed lo w t (decay e) h = wanted_known P w (width_in t) _ (expr_known P f pushed lo Value e h)
  node_known P f pushed lo w t (convert e) h =
      let same : Bool = same_truth (type_in t) (bare e) in
      converted_known P w same (type_in t) (kind_in e) _ (expr_known P f pushed lo (handed same w) e h)
  node_known P f pushed lo w t (unary Not e) h = truth_by_known P w lo _ (expr_known P f pushed (inner w lo) (Test (aimed w lo) (not (sense w))) e h)
  node_known P f pushed lo w t (unary op e) h = wanted_known P w (width_in t) _ (known_then (expr_known P f pushed lo Value e h) (unary_known P op (width_of (kind_in e))))
  node_known P f pushed lo w t (binary op a b) h =
      let operands : Operands = operands_of f (bare a) (bare b) in
      let bytes : ℕ = waiting (width_of (computes operands)) in
      let how : Operating = operating_of f pushed op operands a b in
      relation_known (relation_of op)
      (wanted_known P w (width_in t) _ (operator_known P Registers how op operands (kind_in b) lo _ _ (operating_known P f pushed op operands a b h.0 h.1) (expr_known P f pushed (lo + 1) Value a h.0) (expr_known P f (below_operand how pushed bytes) (lo + 1 + uses None a) Value b h.1)))
      (λ r.
      let q : Relation = relation_by (sense w) r in
      let how : Comparing = comparing_of f pushed q (computes operands) a b in
      let to : ℕ = aimed w lo in
      let own : ℕ = inner w lo in
      let next : ℕ = own + 1 + uses (tested_by q b) a in
      let below : ℕ = below_side how pushed bytes in
      truth_by_known P w lo _ (comparison_known P how op operands (kind_in b) (sense w) to own _ _ (comparing_known P f pushed q (computes operands) a b h.0 h.1)
      (known_if (takes_low how) (low_value_known P f pushed (own + 1) a h.0) (expr_known P f pushed (own + 1) (wanted_by (tested_by q b) to) a h.0))
      (known_if (takes_low how) (low_value_known P f below next b h.1) (expr_known P f below next (wanted_by (tested_by q a) to) b h.1))))
  node_known P f pushed lo w t (both a b) h =
      let straight : Bool = is_straight false (sense w) in
      let own : ℕ = inner w lo in
      let first : ℕ = own + way_labels straight in
      truth_by_known P w lo _ (joined_known P straight own _ _ (expr_known P f pushed first (Test (way straight (aimed w lo) own) false) a h.0) (expr_known P f pushed (first + uses (Some false) a) (Test (aimed w lo) (sense w)) b h.1))
  node_known P f pushed lo w t (either a b) h =
      let straight : Bool = is_straight true (sense w) in
      let own : ℕ = inner w lo in
      let first : ℕ = own + way_labels straight in
      truth_by_known P w lo _ (joined_known P straight own _ _ (expr_known P f pushed first (Test (way straight (aimed w lo) own) true) a h.0) (expr_known P f pushed (first + uses (Some true) a) (Test (aimed w lo) (sense w)) b h.1))
  node_known P f pushed lo w t (choice c a b) h =
      let first : ℕ = lo + 2 + uses (Some false) c in
      wanted_known P w (width_in t) _ (choice_known P lo _ _ _ (expr_known P f pushed (lo + 2) (Test lo false) c h.0) (expr_known P f pushed first Value a h.1) (expr_known P f pushed (first + uses None a) Value b h.2))
  node_known P f pushed lo w t (comma a b) h = known_then (expr_known P f pushed lo Value a h.0) (expr_known P f pushed (lo + uses None a) w b h.1)
  node_known P f pushed lo w t (assign a b) h =
      let place : Place = place_of f pushed a in
      let how : Storing = storing_of f pushed a b in
      wanted_known P w (width_in t) _ (assigned_known P how place (access_of (types_of f.parts.types) a) _ _ (storing_known P f pushed a b h.0 h.1) (place_known P f pushed a h.0) (base_known P f pushed lo (base_for how) a h.0) (expr_known P f (below_value how pushed place) (lo + uses None a) Value b h.1))
  node_known P f pushed lo w t (assign_op op k a b) h =
      wanted_known P w (width_in t) _ (compound_known P f pushed op (Numbers k) a b _ _ (place_known P f pushed a h.0) (base_known P f pushed lo Registers a h.0) (expr_known P f (behind_open f pushed (Numbers k) a) (lo + uses None a) Value b h.1))
  node_known P f pushed lo w t (assign_step op a b) h =
      let operands : Operands = PointerFirst (target_bytes f (bare a)) in
      wanted_known P w (width_in t) _ (compound_known P f pushed op operands a b _ _ (place_known P f pushed a h.0) (base_known P f pushed lo Registers a h.0) (expr_known P f (behind_open f pushed operands a) (lo + uses None a) Value b h.1))
  node_known P f pushed lo w t (step how e) h =
      let place : Place = place_of f pushed e in
      wanted_known P w (width_in t) _ (known_then (base_known P f pushed (lo + 1) Registers e h)
      (step_known P how (target_bytes f (bare e)) (amount_of f how (bare e)) place (access_of (types_of f.parts.types) e) lo (place_known P f pushed e h)))
  node_known P f pushed lo w t (copy a b) h =
      wanted_known P w (width_in t) _ (known_then (expr_known P f pushed lo Value a h.0) (known_then (push_known P Ax) (known_then (expr_known P f (more pushed 2) (lo + uses None a) Value b h.1) (copy_known P (type_bytes f (type_in t))))))
  node_known P f pushed lo w t (call g es) h =
      wanted_known P w (width_in t) _ (call_known P f (named g) (outcome_of f (type_in t)) g es _ _ _ (λ k is. callee_known P f g k h.0 is)
      (expr_known P f pushed lo Value g h.0) (args_known P f pushed lo (is_fast (bare g)) es h.1) (args_known P f (more pushed 2) (lo + uses None g) (is_fast (bare g)) es h.1))
  node_known P f pushed lo w t (pack e) h =
      let place : Place = place_of f pushed e in
      wanted_known P w (width_in t) _ (known_then (base_known P f pushed lo Registers e h) (bytes_known P place (extent_by (type_bytes f (type_in t))) (place_known P f pushed e h)))
  node_known P f pushed lo w t (spill i e) h =
      wanted_known P w (width_in t) _ (known_then (expr_known P f pushed lo Value e h.1) (spill_known P (object_code f pushed i) (extent_by (type_bytes f (type_in t))) (object_known P f pushed i h.0)))
  node_known P f pushed lo w t further h = wanted_known P w (width_in t) _ (further_known P f pushed)

  pub base_known : (P : ℕ → Type 0) (f : Framed) (pushed lo : ℕ) (d : Destination) (e : Typed) → KnownTree P f e → AllKnown P (base_code f pushed lo d e)
  base_known P f pushed lo d (node t (literal i)) h = known_none
  base_known P f pushed lo d (node t (object i)) h = target_known P (object_place f pushed i) (object_code f pushed i ++ arrived d) (known_then (object_known P f pushed i h) (arrived_known P d))
  base_known P f pushed lo d (node t (deref e)) h = pointer_base_known P f pushed lo d e h
  base_known P f pushed lo d (node t (member e m)) h =
      let k : ℕ = offset_at (types_of f.parts.types) (bare e) m in
      known_if (has_base (place_of f pushed e) k) (base_known P f pushed lo d e h) (known_then (expr_known P f pushed lo Value e h) (known_then (offset_known P k) (arrived_known P d)))
  base_known P f pushed lo d (node t n) h = known_then (node_known P f pushed lo Value t n h) (arrived_known P d)

  pointer_base_known : (P : ℕ → Type 0) (f : Framed) (pushed lo : ℕ) (d : Destination) (e : Typed) → KnownTree P f e → AllKnown P (pointer_base_code f pushed lo d e)
  pointer_base_known P f pushed lo d (node t (binary op a b)) h =
      let operands : Operands = operands_of f (bare a) (bare b) in
      let place : Place = target_of f pushed a in
      let how : Operating = operating_of f pushed op operands a b in
      let bytes : ℕ = waiting (width_of (computes operands)) in
      sum_known P lo (sum_has_base place (added_bytes op operands (constant_in b))) (pointer_base_code f pushed (lo + 1) d a) _ (pointer_base_known P f pushed (lo + 1) d a h.0)
      (relation_known (relation_of op)
      (operator_known P d how op operands (kind_in b) lo _ _ (operating_known P f pushed op operands a b h.0 h.1) (expr_known P f pushed (lo + 1) Value a h.0) (expr_known P f (below_operand how pushed bytes) (lo + 1 + uses None a) Value b h.1))
      (λ r. known_then (node_known P f pushed lo Value t (binary op a b) h) (arrived_known P d)))
  pointer_base_known P f pushed lo d (node t (address e)) h = base_known P f pushed lo d e h
  pointer_base_known P f pushed lo d (node t (decay e)) h = base_known P f pushed lo d e h
  pointer_base_known P f pushed lo d (node t n) h = known_then (node_known P f pushed lo Value t n h) (arrived_known P d)

  low_value_known : (P : ℕ → Type 0) (f : Framed) (pushed lo : ℕ) (e : Typed) → KnownTree P f e → AllKnown P (low_value_code f pushed lo e)
  low_value_known P f pushed lo (node t (convert e)) h =
      low_known P (byte_in f pushed (node t (convert e))) _ (byte_in_known P f pushed (node t (convert e)) h)
      (known_if (is_number (type_in t) && is_number (bare e)) (low_value_known P f pushed lo e h) (node_known P f pushed lo Value t (convert e) h))
  low_value_known P f pushed lo (node t (binary op a b)) h =
      low_known P (byte_in f pushed (node t (binary op a b))) _ (byte_in_known P f pushed (node t (binary op a b)) h)
      (operand_or_known P (low_operand f pushed op a b) (λ d. Label lo ∷ (low_value_code f pushed (lo + 1) a ++ first_byte_code op d)) _ (operand_known P f pushed op a b h.1)
      (λ d k. known_more tt (known_then (low_value_known P f pushed (lo + 1) a h.0) (first_byte_known P op d k)))
      (node_known P f pushed lo Value t (binary op a b) h))
  low_value_known P f pushed lo (node t (load e)) h =
      low_known P (byte_in f pushed (node t (load e))) _ (byte_in_known P f pushed (node t (load e)) h)
      (element_or_known P (element_at f e) (λ x. index_code f pushed lo e ++ element_byte_code x.0) _ (element_known P f e h)
      (λ x s. known_then (index_known P f pushed lo e h) (byte_of_known P x.0 s))
      (low_load_known P (behind_pointer (place_of f pushed e) (access_of (types_of f.parts.types) e)) _ _ (base_known P f pushed lo Pointer e h) (node_known P f pushed lo Value t (load e) h)))
  low_value_known P f pushed lo (node t n) h = low_known P (byte_in f pushed (node t n)) _ (byte_in_known P f pushed (node t n) h) (node_known P f pushed lo Value t n h)

  pub index_known : (P : ℕ → Type 0) (f : Framed) (pushed lo : ℕ) (e : Typed) → KnownTree P f e → AllKnown P (index_code f pushed lo e)
  index_known P f pushed lo (node t (deref e)) h = sum_index_known P f pushed lo e h
  index_known P f pushed lo (node t (member e m)) h = index_known P f pushed lo e h
  index_known P f pushed lo (node t _) h = known_none

  sum_index_known : (P : ℕ → Type 0) (f : Framed) (pushed lo : ℕ) (e : Typed) → KnownTree P f e → AllKnown P (sum_index_code f pushed lo e)
  sum_index_known P f pushed lo (node t (binary op a b)) h = known_more tt (low_value_known P f pushed (lo + 1) b h.1)
  sum_index_known P f pushed lo (node t _) h = known_none

  args_known : (P : ℕ → Type 0) (f : Framed) (pushed lo : ℕ) (fast : Bool) (es : Nodes) → KnownTrees P f es → AllKnown P (args_code f pushed lo fast es)
  args_known P f pushed lo fast none h = known_none
  args_known P f pushed lo fast (some e es) h =
      let kept : Bool = stays fast es in
      let size : ℕ = passed_size f e in
      known_then (expr_known P f pushed lo Value e h.0) (known_then (argument_known P kept size) (args_known P f (more pushed (argument_bytes kept size)) (lo + uses None e) fast es h.1))
