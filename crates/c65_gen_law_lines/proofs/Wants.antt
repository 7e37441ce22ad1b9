-- Lines of which a value or a test is wanted: their labels, their size, and the form of each line.
use Rattle.std.proofs.Common.{◌≡◌, ℕ, ◌+◌, ◌≤◌, ◌==◌, Bool, true, false, not, Option, Some, None, List, [], ◌∷◌, ◌++◌, length, refl, sym, ◌∙◌, ap, subst, arith}
use Rattle.std.specs.List.{list_all}
use Rattle.std.proofs.lemmas.Bool.{and_from}
use Rattle.c65_base.specs.declared.operators.BinaryOp.{BinaryOp}
use Rattle.c65_ints.specs.declared.types.IntType.{IntType}
use Rattle.c65_ctype.specs.Trees.{Ty}
use Rattle.c65_mach.specs.declared.rows.Op.TheVariants.{Jmp, Tay}
use Rattle.c65_mach.specs.declared.rows.Mode.TheVariants.{Absolute, Relative}
use Rattle.c65_code.specs.declared.line.Operand.TheVariants.{To}
use Rattle.c65_code.specs.declared.line.Line.{Line}
use Rattle.c65_code.specs.declared.line.Line.TheVariants.{Label, Do}
use Rattle.c65_code.specs.declared.routine.Width.{Width}
use Rattle.c65_code.specs.declared.routine.Width.TheVariants.{Ax, Eax}
use Rattle.c65_genload.specs.declared.places.Extent.{Extent}
use Rattle.c65_genload.specs.declared.places.Extent.TheVariants.{One, Two, Three, Four}
use Rattle.c65_genload.specs.Words.{implied}
use Rattle.c65_genload.specs.declared.places.Field.{Field}
use Rattle.c65_genload.specs.declared.places.Place.{Place}
use Rattle.c65_genload.specs.declared.places.Access.{Access}
use Rattle.c65_genload.specs.declared.places.Access.TheVariants.{Whole, Part}
use Rattle.c65_genload.specs.Places.{extent_of}
use Rattle.c65_genload.specs.declared.places.Place.TheVariants as places
use Rattle.c65_genwide.specs.Wide.{width_of}
use Rattle.c65_gendirect.specs.declared.bytes.OperandByte.{OperandByte}
use Rattle.c65_gendirect.specs.declared.direct.Direct.{Direct}
use Rattle.c65_gendirect.specs.declared.compare.Sides.{Sides}
use Rattle.c65_gendirect.specs.declared.compare.Sides.TheVariants.{Word, Long}
use Rattle.c65_gendirect.specs.Bytes.{byte_of}
use Rattle.c65_genexpr.specs.declared.comparing.Side.TheVariants as side
use Rattle.c65_genexpr.specs.declared.comparing.Comparing.{Comparing}
use Rattle.c65_genexpr.specs.declared.comparing.Comparing.TheVariants as comparing
use Rattle.c65_genexpr.specs.declared.operating.Operating.{Operating}
use Rattle.c65_genexpr.specs.declared.operating.Operating.TheVariants as operating
use Rattle.c65_genexpr.specs.declared.destination.Destination.{Destination}
use Rattle.c65_genexpr.specs.declared.operands.Operands.{Operands}
use Rattle.c65_genexpr.specs.declared.wanted.Wanted.{Wanted}
use Rattle.c65_genexpr.specs.declared.wanted.Wanted.TheVariants.{Value, Test}
use Rattle.c65_genexpr.specs.Types.{kind_of}
use Rattle.c65_genexpr.specs.Direct.{sides_of, listed, alone, own_bytes}
use Rattle.c65_genexpr.specs.Held.{held_low, held_high}
use Rattle.c65_genexpr.specs.Operands.{conversion_by}
use Rattle.c65_genexpr.specs.Wanted.{decided_code, sense_of, handed, by_sense, value_test_code, wanted, aimed, truth_labels, inner, truth_by, way, way_labels, joined}
use Rattle.c65_genexpr.specs.Comparing.{low_code, comparison_by}
use Rattle.c65_genexpr.specs.Operating.{operator_by}
use Rattle.c65_genexpr.specs.Destination.{fetch_code}
use Rattle.c65_genexpr.specs.Fields.{byte_test, number_test, loaded_test}
use Rattle.c65_genexpr.specs.Code.{constant_code, tested_load}
use Rattle.c65_gen_law_lines.specs.Labels.{among, aims, may_lead}
use Rattle.c65_gen_law_lines.proofs.Made.{is_early, among_split, among_one, among_none, Piece, piece_none, Stretch, Made, once_at, stretch_then, stretch_piece, stretch_label, stretch_branch, stretch_jump, stretch_wider, stretch_as, stretch_made, made_stretch, leads_inner, leads_within, leads_outer, made_piece, made_behind, made_wider, made_as, made_none, nowhere}
use Rattle.c65_gen_law_lines.proofs.Pieces.{number_piece, conversion_piece, test_piece, between_piece, behind_piece, by_access, load_piece}
use Rattle.c65_gen_law_lines.proofs.Directs.{loaded_quiet, compare_quiet, compare_byte_quiet, zero_test_quiet, truth_quiet}
use Rattle.c65_gen_law_lines.proofs.FieldForms.{own_bits_piece}
use Rattle.c65_gen_law_lines.proofs.Pointed.{arrived_piece, behind_pointer_piece, fetch_piece}
use Rattle.c65_gen_law_lines.proofs.Drops.{IfRead, Unread, Unused}
use Rattle.c65_gen_law_lines.proofs.Forms.{keep_quiet, keep_byte_quiet, stacked_sizes, form_quiet, waiting_part, stacked_part}

-- the same labels, from a number that is the same
pub made_from : {outside : List ℕ} {lo to n k : ℕ} {a : List Line} → lo ≡ to → Made outside lo n k a → Made outside to n k a
made_from {outside = outside} {n = n} {k = k} {a = a} e made = subst (λ (x : ℕ). Made outside x n k a) e made

-- lines that lead nowhere else stand anywhere
pub made_closed : {lo n k : ℕ} {a : List Line} → (outside : List ℕ) → Made [] lo n k a → Made outside lo n k a
made_closed {lo = lo} {n = n} outside m = made_stretch (stretch_made m (leads_within outside lo n lo n (omega arith) (omega arith)) refl) (λ l. refl)

pub sense_fits : (s : Bool) → is_early (Do (by_sense s) Relative (To 0)) ≡ true
sense_fits true = refl
sense_fits false = refl

pub wanted_made : {lo n k : ℕ} {a : List Line} (w : Wanted) (width : Width) → Made [] lo n k a → Made (aims w) lo n (k + 13) (wanted w width a)
wanted_made Value width m = made_wider m (omega arith)
wanted_made {lo = lo} {n = n} (Test to s) width m = made_stretch
    (stretch_then (stretch_made m (leads_within (to ∷ []) lo n lo n (omega arith) (omega arith)) refl) (stretch_then (stretch_piece (test_piece width)) (stretch_branch (by_sense s) to (sense_fits s) (leads_outer lo n to))))
    (λ l. omega arith)

decided_made : {lo : ℕ} (truth s : Bool) (to : ℕ) → Made (to ∷ []) lo 0 3 (decided_code truth s to)
decided_made {lo = lo} true true to = made_stretch (stretch_jump to (leads_outer lo 0 to)) (λ l. sym (among_none lo l))
decided_made {lo = lo} false false to = made_stretch (stretch_jump to (leads_outer lo 0 to)) (λ l. sym (among_none lo l))
decided_made true false to = made_none
decided_made false true to = made_none

pub constant_made : {lo : ℕ} (w : Wanted) (width : Width) (n : ℕ) → Made (aims w) lo 0 12 (constant_code w width n)
constant_made Value width n = made_piece (number_piece width n)
constant_made (Test to s) width n = made_wider (decided_made (not (n == 0)) s to) (omega arith)

alone_few : (d : Option OperandByte) → length (alone d) ≤ 4
alone_few None = omega arith
alone_few (Some d) = omega arith

listed_few : (sides : Option Sides) → length (listed sides) ≤ 4
listed_few None = omega arith
listed_few (Some (Word low high)) = omega arith
listed_few (Some (Long first second third fourth)) = omega arith

few_bytes : (d : Direct) (e : Extent) → length (own_bytes d e) ≤ 4
few_bytes d One = alone_few (byte_of d 0)
few_bytes d Two = listed_few (sides_of Ax d)
few_bytes d Three = listed_few (sides_of Eax d)
few_bytes d Four = listed_few (sides_of Eax d)

-- behind the base of a place
test_sizes : (access : Access) → 27 ≤ by_access 19 36 access + 13
test_sizes (Whole kind) = omega arith
test_sizes (Part g) = omega arith

fetched_test : {ok : ℕ → Bool} (place : Place) (kind : IntType) (s : Bool) (to : ℕ) → ok to ≡ true → Stretch ok nowhere 32 (fetch_code place (Whole kind) ++ value_test_code (width_of kind) s to)
fetched_test place kind s to passes =
    stretch_as (λ l. refl) (stretch_then (stretch_piece (fetch_piece place (Whole kind))) (stretch_then (stretch_piece (test_piece (width_of kind))) (stretch_branch (by_sense s) to (sense_fits s) passes)))

byte_part : {ok : ℕ → Bool} (place : Place) (kind : IntType) (e : Extent) (s : Bool) (to : ℕ) → ok to ≡ true → Stretch ok nowhere 32 (byte_test place kind e s to)
byte_part (places.Far at) kind One s to passes = stretch_wider (stretch_as (λ l. refl) (stretch_then (stretch_piece (behind_pointer_piece at One)) (stretch_branch (by_sense s) to (sense_fits s) passes))) (omega arith)
byte_part place kind e s to passes = fetched_test place kind s to passes

number_part : {ok : ℕ → Bool} (place : Place) (access : Access) (s : Bool) (to : ℕ) → ok to ≡ true → Stretch ok nowhere (by_access 19 36 access + 13) (number_test place access s to)
number_part place (Whole kind) s to passes = stretch_wider (byte_part place kind (extent_of kind) s to passes) (omega arith)
number_part place (Part field) s to passes =
    stretch_wider (stretch_as (λ l. refl) (stretch_then (stretch_piece (load_piece place (Part field))) (stretch_then (stretch_piece (test_piece (width_of field.kind))) (stretch_branch (by_sense s) to (sense_fits s) passes)))) (omega arith)

pub test_part : {ok : ℕ → Bool} (field : Option Field) (place : Place) (access : Access) (s : Bool) (to : ℕ) → ok to ≡ true → Stretch ok nowhere (by_access 19 36 access + 13) (loaded_test field place access s to)
test_part (Some g) place access s to passes =
    stretch_wider (stretch_as (λ l. refl) (stretch_then (stretch_piece (own_bits_piece place g)) (stretch_branch (by_sense s) to (sense_fits s) passes))) (test_sizes access)
test_part None place access s to passes = number_part place access s to passes

-- the test of a value that is read where it lies, or of one that is loaded
pub tested_made : {lo n i j k : ℕ} {base test : List Line} (d : Option Direct) (kind : IntType) (s : Bool) (to : ℕ) → j + 23 ≤ k → j + i ≤ k → Made [] lo n j base → Stretch (may_lead lo n (to ∷ [])) nowhere i test → Made (to ∷ []) lo n k (tested_load d kind s to base test)
tested_made {lo = lo} {n = n} (Some d) kind s to first second mb mt =
    let few : length (own_bytes d (extent_of kind)) ≤ 4 = few_bytes d (extent_of kind) in
    made_wider (made_stretch
    (stretch_then (stretch_made mb (leads_within (to ∷ []) lo n lo n (omega arith) (omega arith)) refl) (zero_test_quiet (own_bytes d (extent_of kind)) s to (leads_outer lo n to)).part)
    (λ l. omega arith)) (omega (arith, few, first))
tested_made {lo = lo} {n = n} None kind s to first second mb mt =
    made_wider (made_stretch (stretch_then (stretch_made mb (leads_within (to ∷ []) lo n lo n (omega arith) (omega arith)) refl) mt) (λ l. omega arith)) second

pub converted_made : {lo n k : ℕ} {a : List Line} (w : Wanted) (same : Bool) (to : Ty) (from : IntType) → Made (aims (handed same w)) lo n k a → Made (aims w) lo n (k + 16) (conversion_by w same to from a)
converted_made Value same to from m = made_wider (made_behind m (conversion_piece to from)) (omega arith)
converted_made (Test l s) true to from m = made_wider m (omega arith)
converted_made (Test l s) false to from m = made_wider (wanted_made (Test l s) (width_of (kind_of to)) (made_behind m (conversion_piece to from))) (omega arith)

-- ---- truth values

pub truth_made : {n k : ℕ} {a : List Line} (w : Wanted) (lo : ℕ) → Made (aimed w lo ∷ []) (inner w lo) n k a → Made (aims w) lo (truth_labels (sense_of w) + n) (k + 11) (truth_by w lo a)
truth_made {n = n} Value lo m = made_stretch
    (stretch_then (stretch_made m (leads_within [] (lo + 2) n lo (2 + n) (omega arith) (omega arith)) (and_from (may_lead lo (2 + n) [] lo) true (leads_inner [] lo (2 + n) lo (omega arith) (omega arith)) refl)) (truth_quiet lo (leads_inner [] lo (2 + n) (lo + 1) (omega arith) (omega arith))).part)
    (λ l. omega (arith, among_split lo 2 n l, among_split lo 1 1 l, among_one lo l, among_one (lo + 1) l))
truth_made {n = n} (Test to s) lo m = made_as (omega arith) (made_from (omega arith) (made_wider m (omega arith)))

-- ---- `&&` and `||`

pub joined_made : {na nb j k : ℕ} {a b : List Line} (straight : Bool) (to own : ℕ) → Made (way straight to own ∷ []) (own + way_labels straight) na j a → Made (to ∷ []) (own + way_labels straight + na) nb k b → Made (to ∷ []) own (way_labels straight + (na + nb)) (j + k) (joined straight own a b)
joined_made {na = na} {nb = nb} true to own ma mb = made_wider (made_stretch
    (stretch_then (stretch_made ma (leads_within (to ∷ []) (own + 0) na own (0 + (na + nb)) (omega arith) (omega arith)) (and_from (may_lead own (0 + (na + nb)) (to ∷ []) to) true (leads_outer own (0 + (na + nb)) to) refl))
    (stretch_then (stretch_made mb (leads_within (to ∷ []) (own + 0 + na) nb own (0 + (na + nb)) (omega arith) (omega arith)) (and_from (may_lead own (0 + (na + nb)) (to ∷ []) to) true (leads_outer own (0 + (na + nb)) to) refl)) (stretch_piece (piece_none 0))))
    (λ l. omega (arith, among_split own 0 (na + nb) l, among_none own l, among_split (own + 0) na nb l)))
    (omega arith)
joined_made {na = na} {nb = nb} false to own ma mb = made_wider (made_stretch
    (stretch_then (stretch_made ma (leads_within (to ∷ []) (own + 1) na own (1 + (na + nb)) (omega arith) (omega arith)) (and_from (may_lead own (1 + (na + nb)) (to ∷ []) own) true (leads_inner (to ∷ []) own (1 + (na + nb)) own (omega arith) (omega arith)) refl))
    (stretch_then (stretch_made mb (leads_within (to ∷ []) (own + 1 + na) nb own (1 + (na + nb)) (omega arith) (omega arith)) (and_from (may_lead own (1 + (na + nb)) (to ∷ []) to) true (leads_outer own (1 + (na + nb)) to) refl)) (stretch_label own)))
    (λ l. omega (arith, among_split own 1 (na + nb) l, among_one own l, among_split (own + 1) na nb l)))
    (omega arith)

-- ---- comparisons

-- no labels
none_among : (lo n l : ℕ) → n ≡ 0 → among lo n l ≡ 0
none_among lo n l e = ap (λ (m : ℕ). among lo m l) e ∙ among_none lo l

low_part : {ok : ℕ → Bool} {k : ℕ} {a : List Line} (lo n : ℕ) (low : Option OperandByte) → IfRead low (n ≡ 0) → Stretch ok (among lo n) k a → Stretch ok (among lo n) (k + 4) (low_code low a)
low_part lo n None none p = stretch_wider p (omega arith)
low_part lo n (Some d) none p = stretch_wider (stretch_as (λ l. sym (none_among lo n l none)) (loaded_quiet d).part) (omega arith)

-- the label of its own, and those of both sides
abbrev both_sides : ℕ → ℕ → ℕ → ℕ → ℕ → ℕ → ℕ
both_sides own la na lb nb l = once_at own l + (among la na l + among lb nb l)

comparison_part : {ok : ℕ → Bool} {j k : ℕ} {a b : List Line} (na nb : ℕ) (how : Comparing) (op : BinaryOp) (operands : Operands) (right : IntType) (s : Bool) (to own la lb : ℕ) → Unread how (na ≡ 0) (nb ≡ 0) → ok own ≡ true → ok to ≡ true
    → Stretch ok (among la na) j a → Stretch ok (among lb nb) k b → Stretch ok (both_sides own la na lb nb) (j + k + 50) (comparison_by how op operands right s to own a b)
comparison_part na nb (comparing.Truth side.Left) op operands right s to own la lb none mine other p q = stretch_wider (stretch_as (λ l. omega (arith, none_among lb nb l none)) (stretch_then p (stretch_label own))) (omega arith)
comparison_part na nb (comparing.Truth side.Right) op operands right s to own la lb none mine other p q = stretch_wider (stretch_as (λ l. omega (arith, none_among la na l none)) (stretch_then q (stretch_label own))) (omega arith)
comparison_part na nb (comparing.Byte side.Left low r d) op operands right s to own la lb none mine other p q =
    stretch_wider (stretch_as (λ l. omega (arith, none_among lb nb l none.1)) (stretch_then (stretch_then (low_part la na low none.0 p) (compare_byte_quiet r d to other).part) (stretch_label own))) (omega arith)
comparison_part na nb (comparing.Byte side.Right low r d) op operands right s to own la lb none mine other p q =
    stretch_wider (stretch_as (λ l. omega (arith, none_among la na l none.1)) (stretch_then (stretch_then (low_part lb nb low none.0 q) (compare_byte_quiet r d to other).part) (stretch_label own))) (omega arith)
comparison_part na nb (comparing.Whole side.Left r is_signed sides) op operands right s to own la lb none mine other p q =
    stretch_wider (stretch_as (λ l. omega (arith, none_among lb nb l none)) (stretch_then p (compare_quiet r is_signed sides own to mine other).part)) (omega arith)
comparison_part na nb (comparing.Whole side.Right r is_signed sides) op operands right s to own la lb none mine other p q =
    stretch_wider (stretch_as (λ l. omega (arith, none_among la na l none)) (stretch_then q (compare_quiet r is_signed sides own to mine other).part)) (omega arith)
comparison_part na nb (comparing.Held r is_signed) op operands right s to own la lb none mine other p q =
    stretch_wider (stretch_as (λ l. omega arith) (stretch_then p (stretch_then keep_quiet.part (stretch_then q (compare_quiet r is_signed (Word held_low held_high) own to mine other).part)))) (omega arith)
comparison_part na nb (comparing.HeldByte r) op operands right s to own la lb none mine other p q =
    stretch_wider (stretch_as (λ l. omega arith) (stretch_then (stretch_then p (stretch_then keep_byte_quiet.part (stretch_then q (compare_byte_quiet r held_low to other).part))) (stretch_label own))) (omega arith)
comparison_part na nb comparing.Stacked op operands right s to own la lb none mine other p q =
    let result : Piece 1 (implied Tay ∷ []) = record { plain = refl; fit = refl; size = omega arith } in
    stretch_wider (stretch_as (λ l. omega arith) (stretch_then
    (stretch_then p (stretch_then (stretch_piece (between_piece operands)) (stretch_then q (stretch_then (stretch_piece (behind_piece op operands right)) (stretch_then (stretch_piece result) (stretch_branch (by_sense s) to (sense_fits s) other))))))
    (stretch_label own))) (omega arith)

-- labels of an operator's own and of its operands, one behind the other
own_and_sides : (own na nb l : ℕ) → both_sides own (own + 1) na (own + 1 + na) nb l ≡ among own (1 + (na + nb)) l
own_and_sides own na nb l = omega (arith, among_split own 1 (na + nb) l, among_one own l, among_split (own + 1) na nb l)

outer_stays : (own n to : ℕ) → list_all (may_lead own n (to ∷ [])) (to ∷ []) ≡ true
outer_stays own n to = and_from (may_lead own n (to ∷ []) to) true (leads_outer own n to) refl

pub comparison_made : {na nb j k : ℕ} {a b : List Line} (how : Comparing) (op : BinaryOp) (operands : Operands) (right : IntType) (s : Bool) (to own : ℕ) → Unread how (na ≡ 0) (nb ≡ 0)
    → Made (to ∷ []) (own + 1) na j a → Made (to ∷ []) (own + 1 + na) nb k b → Made (to ∷ []) own (1 + (na + nb)) (j + k + 50) (comparison_by how op operands right s to own a b)
comparison_made {na = na} {nb = nb} how op operands right s to own none ma mb =
    let n : ℕ = 1 + (na + nb) in
    made_stretch (comparison_part na nb how op operands right s to own (own + 1) (own + 1 + na) none (leads_inner (to ∷ []) own n own (omega arith) (omega arith)) (leads_outer own n to)
    (stretch_made ma (leads_within (to ∷ []) (own + 1) na own n (omega arith) (omega arith)) (outer_stays own n to))
    (stretch_made mb (leads_within (to ∷ []) (own + 1 + na) nb own n (omega arith) (omega arith)) (outer_stays own n to)))
    (own_and_sides own na nb)

-- ---- operators that give a number or a pointer

operator_part : {ok : ℕ → Bool} {j k : ℕ} {a b : List Line} (d : Destination) (na nb : ℕ) (how : Operating) (op : BinaryOp) (operands : Operands) (right : IntType) (own la lb : ℕ) → Unused how (na ≡ 0) (nb ≡ 0) → ok own ≡ true
    → Stretch ok (among la na) j a → Stretch ok (among lb nb) k b → Stretch ok (both_sides own la na lb nb) (j + k + 117) (operator_by d how op operands right own a b)
operator_part d na nb (operating.Left form) op operands right own la lb small mine p q = stretch_wider (stretch_as (λ l. omega (arith, none_among lb nb l small.1)) (stretch_then p (form_quiet d form own mine small.0).part)) (omega arith)
operator_part d na nb (operating.Right form) op operands right own la lb small mine p q = stretch_wider (stretch_as (λ l. omega (arith, none_among la na l small.1)) (stretch_then q (form_quiet d form own mine small.0).part)) (omega arith)
operator_part d na nb (operating.Held form) op operands right own la lb small mine p q =
    stretch_wider (stretch_as (λ l. omega arith) (stretch_then p (stretch_then keep_quiet.part (stretch_then q (form_quiet d form own mine small).part)))) (omega arith)
operator_part d na nb operating.Stacked op operands right own la lb small mine p q =
    stretch_wider (stretch_as (λ l. omega arith)
    (stretch_then p (stretch_then (waiting_part operands) (stretch_then q (stretch_then (stacked_part op operands right) (stretch_then (stretch_label own) (stretch_piece (arrived_piece d)))))))) (omega (arith, stacked_sizes operands))

pub operator_made : {na nb j k : ℕ} {a b : List Line} (d : Destination) (how : Operating) (op : BinaryOp) (operands : Operands) (right : IntType) (own : ℕ) → Unused how (na ≡ 0) (nb ≡ 0)
    → Made [] (own + 1) na j a → Made [] (own + 1 + na) nb k b → Made [] own (1 + (na + nb)) (j + k + 117) (operator_by d how op operands right own a b)
operator_made {na = na} {nb = nb} d how op operands right own small ma mb =
    let n : ℕ = 1 + (na + nb) in
    made_stretch (operator_part d na nb how op operands right own (own + 1) (own + 1 + na) small (leads_inner [] own n own (omega arith) (omega arith))
    (stretch_made ma (leads_within [] (own + 1) na own n (omega arith) (omega arith)) refl) (stretch_made mb (leads_within [] (own + 1 + na) nb own n (omega arith) (omega arith)) refl))
    (own_and_sides own na nb)

-- ---- `?:`

pub choice_made : {u n m i j k : ℕ} {c a b : List Line} (lo : ℕ) → Made (lo ∷ []) (lo + 2) u i c → Made [] (lo + 2 + u) n j a → Made [] (lo + 2 + u + n) m k b → Made [] lo (2 + (u + (n + m))) (i + (j + k) + 3) (c ++ (a ++ (Do Jmp Absolute (To (lo + 1)) ∷ Label lo ∷ (b ++ Label (lo + 1) ∷ []))))
choice_made {u = u} {n = n} {m = m} lo mc ma mb =
    let count : ℕ = 2 + (u + (n + m)) in
    let first : may_lead lo count [] lo ≡ true = leads_inner [] lo count lo (omega arith) (omega arith) in
    made_wider (made_stretch
    (stretch_then (stretch_made mc (leads_within [] (lo + 2) u lo count (omega arith) (omega arith)) (and_from (may_lead lo count [] lo) true first refl))
    (stretch_then (stretch_made ma (leads_within [] (lo + 2 + u) n lo count (omega arith) (omega arith)) refl) (stretch_then (stretch_jump (lo + 1) (leads_inner [] lo count (lo + 1) (omega arith) (omega arith))) (stretch_then (stretch_label lo)
    (stretch_then (stretch_made mb (leads_within [] (lo + 2 + u + n) m lo count (omega arith) (omega arith)) refl) (stretch_label (lo + 1)))))))
    (λ l. omega (arith, among_split lo 2 (u + (n + m)) l, among_split (lo + 2) u (n + m) l, among_split (lo + 2 + u) n m l, among_split lo 1 1 l, among_one lo l, among_one (lo + 1) l)))
    (omega arith)
