-- Elements of small arrays and low bytes: an element has its labels and its calls in its index alone, and the size of the lines.
use Rattle.std.proofs.Common.{◌≡◌, ℕ, ℤ, ◌==◌, Bool, true, false, Option, Some, None, List, [], ◌∷◌, ◌++◌, refl, ◌∙◌, ap, arith}
use Rattle.std.specs.Prelude.{◌&&◌, if◌then◌else◌, option_map, option_and_then}
use Rattle.std.proofs.lemmas.Bool.{and_parts}
use Rattle.c65_base.specs.declared.operators.BinaryOp.{BinaryOp}
use Rattle.c65_base.specs.declared.operators.BinaryOp.TheVariants as ops
use Rattle.c65_ints.specs.declared.types.IntType.{IntType}
use Rattle.c65_ctype.specs.Trees.{QTy}
use Rattle.c65_ctype.specs.Views.{types_of}
use Rattle.c65_csem.specs.Trees.{Typed, node, literal, object, func, constant, null, deref, member, load, address, decay, convert, unary, binary, both, either, choice, comma, pack, rest as further}
use Rattle.c65_mach.specs.declared.rows.Op.TheVariants.{Asl, Lda, Tay}
use Rattle.c65_code.specs.declared.line.Sym.{Sym}
use Rattle.c65_genframe.specs.Frames.{Framed, type_bytes}
use Rattle.c65_genload.specs.Words.{implied, shift_a}
use Rattle.c65_genload.specs.declared.places.Access.{Access}
use Rattle.c65_genload.specs.declared.places.Access.TheVariants.{Whole, Part}
use Rattle.c65_genload.specs.declared.places.Extent.{Extent}
use Rattle.c65_genload.specs.declared.places.Extent.TheVariants.{One, Two, Three, Four}
use Rattle.c65_genload.specs.Places.{extent_of}
use Rattle.c65_gendirect.specs.declared.bytes.OperandByte.{OperandByte}
use Rattle.c65_gendirect.specs.declared.direct.Direct.{Direct}
use Rattle.c65_gendirect.specs.Bytes.{byte_of}
use Rattle.c65_gendirect.specs.Compare.{relation_of}
use Rattle.c65_genexpr.specs.declared.elements.Element.{Element}
use Rattle.c65_genexpr.specs.declared.operands.Operands.{Operands}
use Rattle.c65_genexpr.specs.declared.operands.Operands.TheVariants.{Numbers, PointerFirst, PointerLast, Pointers}
use Rattle.c65_genexpr.specs.Types.{bare, access_of}
use Rattle.c65_genexpr.specs.Operands.{operands_of, constant_in}
use Rattle.c65_genexpr.specs.Operating.{takes_bytes}
use Rattle.c65_genexpr.specs.Direct.{direct_of, is_pure}
use Rattle.c65_genexpr.specs.Lows.{is_number, byte_in, low_operand}
use Rattle.c65_genexpr.specs.Wanted.{by_sense}
use Rattle.c65_genexpr.specs.Elements.{is_small, whole_symbol, array_of, sum_by, sum_element, onward, element_of, typed_by, element_by, element_at, by_index, doublings, doubled_code, scaled_by, scaled_code, reached_code, element_bytes_code, element_value_code, element_byte_code, either_byte_code, element_test_code}
use Rattle.c65_gen_law_lines.specs.Stack.{calls_of}
use Rattle.c65_gen_law_lines.proofs.Made.{nowhere}
use Rattle.c65_gen_law_lines.proofs.Quiet.{Quiet, quiet_then, quiet_piece, quiet_branch, quiet_none, quiet_wider, quiet_as, quiet_if}
use Rattle.c65_gen_law_lines.proofs.Pieces.{narrow_piece}
use Rattle.c65_gen_law_lines.proofs.StackPieces.{narrow_still}
use Rattle.c65_gen_law_lines.proofs.Shifts.{elements_quiet}
use Rattle.c65_gen_law_lines.proofs.Wants.{sense_fits}
use Rattle.c65_gen_law_lines.proofs.Drops.{Idle, direct_idle}

-- ---- the index of an element

some_of : {A : Type 0} (b : Bool) (o : Option A) (x : A) → (if b then o else None) ≡ Some x → o ≡ Some x
some_of true o x h = h
some_of false o x h = absurd cc

whole_idle : (f : Framed) (e : Typed) (s : Sym) → whole_symbol f e ≡ Some s → Idle f e
whole_idle f (node t (literal n)) s h = record { uses = refl; calls = refl }
whole_idle f (node t (object i)) s h = record { uses = refl; calls = refl }
whole_idle f (node t _) s h = absurd cc

array_idle : (f : Framed) (e : Typed) (s : Sym) → array_of f e ≡ Some s → Idle f e
array_idle f (node t (decay e)) s h = let idle : Idle f e = whole_idle f e s (some_of (is_small (type_bytes f (bare e))) (whole_symbol f e) s h) in record { uses = idle.uses; calls = idle.calls }
array_idle f (node t _) s h = absurd cc

-- the sum is none of a relation, and the array is known
array_in : (op : BinaryOp) (operands : Operands) (z : Option ℤ) (o : Option Sym) (x : Element) → sum_by op operands z o ≡ Some x → (relation_of op ≡ None) × ((s : Sym) × (o ≡ Some s))
array_in ops.Add (PointerFirst size) None (Some s) x h = (refl, (s, refl))
array_in ops.Add (PointerFirst size) None None x h = absurd cc
array_in ops.Add (PointerFirst size) (Some z) o x h = absurd cc
array_in ops.Add (Numbers kind) z o x h = absurd cc
array_in ops.Add (PointerLast size) z o x h = absurd cc
array_in ops.Add (Pointers size) z o x h = absurd cc
array_in _ operands z o x h = absurd cc

-- of the sum that tells an element the left side takes no lines
pub record Indexes (f : Framed) (op : BinaryOp) (a : Typed) : Type 0 where
  pub alone : relation_of op ≡ None
  pub array : Idle f a

pub sum_indexes : (f : Framed) (t : QTy) (op : BinaryOp) (a b : Typed) (x : Element) → sum_element f (node t (binary op a b)) ≡ Some x → Indexes f op a
sum_indexes f t op a b x h =
    let known = array_in op (operands_of f (bare a) (bare b)) (constant_in b) (array_of f a) x h in
    record { alone = known.0; array = array_idle f a known.1.0 known.1.1 }

pub onward_from : {A : Type 0} (n : ℕ) (o : Option Element) (x : Element) → ((y : Element) → o ≡ Some y → A) → option_map (onward n) o ≡ Some x → A
onward_from n None x found h = absurd cc
onward_from n (Some y) x found h = found y refl

typed_from : {A : Type 0} (kind : IntType) (e : Extent) (o : Option Element) (x : Element × IntType) → ((y : Element) → o ≡ Some y → A) → typed_by kind e o ≡ Some x → A
typed_from kind One None x found h = absurd cc
typed_from kind One (Some y) x found h = found y refl
typed_from kind Two None x found h = absurd cc
typed_from kind Two (Some y) x found h = found y refl
typed_from kind Three o x found h = absurd cc
typed_from kind Four o x found h = absurd cc

accessed_from : {A : Type 0} (access : Access) (o : Option Element) (x : Element × IntType) → ((y : Element) → o ≡ Some y → A) → element_by access o ≡ Some x → A
accessed_from (Whole kind) o x found h = typed_from kind (extent_of kind) o x found h
accessed_from (Part field) o x found h = absurd cc

pub element_from : {A : Type 0} (f : Framed) (e : Typed) (x : Element × IntType) → ((y : Element) → element_of f e ≡ Some y → A) → element_at f e ≡ Some x → A
element_from f e x found h = accessed_from (access_of (types_of f.parts.types) e) (element_of f e) x found h

-- ---- values that are read where they lie

read_first : {A : Type 0} (o : Option Direct) (d : OperandByte) → ((x : Direct) → o ≡ Some x → A) → option_and_then (λ x. byte_of x 0) o ≡ Some d → A
read_first None d found h = absurd cc
read_first (Some x) d found h = found x refl

pub byte_idle : (f : Framed) (pushed : ℕ) (e : Typed) (d : OperandByte) → byte_in f pushed e ≡ Some d → Idle f e
byte_idle f pushed e d h = read_first (direct_of f pushed e) d (λ x found. direct_idle f pushed e x found) h

bytes_alone : (op : BinaryOp) → takes_bytes op ≡ true → relation_of op ≡ None
bytes_alone ops.Add h = refl
bytes_alone ops.Sub h = refl
bytes_alone ops.BitAnd h = refl
bytes_alone ops.BitXor h = refl
bytes_alone ops.BitOr h = refl
bytes_alone _ h = absurd cc

-- an operator whose right operand is read
pub record Reads (f : Framed) (op : BinaryOp) (b : Typed) : Type 0 where
  pub alone : relation_of op ≡ None
  pub right : Idle f b

reads_if : {A : Type 0} (b : Bool) (o : Option A) (x : A) → (if b then o else None) ≡ Some x → b ≡ true
reads_if true o x h = refl
reads_if false o x h = absurd cc

pub low_reads : (f : Framed) (pushed : ℕ) (op : BinaryOp) (a b : Typed) (d : OperandByte) → low_operand f pushed op a b ≡ Some d → Reads f op b
low_reads f pushed op a b d h =
    let able : Bool = takes_bytes op && (is_number (bare a) && is_number (bare b)) in
    let both = and_parts (takes_bytes op) (is_number (bare a) && is_number (bare b)) (reads_if able (byte_in f pushed b) d h) in
    record { alone = bytes_alone op both.0; right = byte_idle f pushed b d (some_of able (byte_in f pushed b) d h) }

-- ---- what changes nothing calls nothing

pub none_of : {A : Type 0} (xs ys : List A) → xs ≡ [] → ys ≡ [] → xs ++ ys ≡ []
none_of xs ys p q = ap (λ l. l ++ ys) p ∙ q

pub pure_calls : (f : Framed) (e : Typed) → is_pure e ≡ true → calls_of f e ≡ []
pure_calls f (node t (constant z)) h = refl
pure_calls f (node t null) h = refl
pure_calls f (node t (literal n)) h = refl
pure_calls f (node t (object i)) h = refl
pure_calls f (node t (func i)) h = refl
pure_calls f (node t (deref e)) h = pure_calls f e h
pure_calls f (node t (member e m)) h = pure_calls f e h
pure_calls f (node t (load e)) h = pure_calls f e h
pure_calls f (node t (address e)) h = pure_calls f e h
pure_calls f (node t (decay e)) h = pure_calls f e h
pure_calls f (node t (convert e)) h = pure_calls f e h
pure_calls f (node t (unary op e)) h = pure_calls f e h
pure_calls f (node t (binary op a b)) h = let p = and_parts (is_pure a) (is_pure b) h in none_of (calls_of f a) (calls_of f b) (pure_calls f a p.0) (pure_calls f b p.1)
pure_calls f (node t (both a b)) h = let p = and_parts (is_pure a) (is_pure b) h in none_of (calls_of f a) (calls_of f b) (pure_calls f a p.0) (pure_calls f b p.1)
pure_calls f (node t (either a b)) h = let p = and_parts (is_pure a) (is_pure b) h in none_of (calls_of f a) (calls_of f b) (pure_calls f a p.0) (pure_calls f b p.1)
pure_calls f (node t (choice c a b)) h =
    let p = and_parts (is_pure c) (is_pure a && is_pure b) h in
    let q = and_parts (is_pure a) (is_pure b) p.1 in
    none_of (calls_of f c) (calls_of f a ++ calls_of f b) (pure_calls f c p.0) (none_of (calls_of f a) (calls_of f b) (pure_calls f a q.0) (pure_calls f b q.1))
pure_calls f (node t (comma a b)) h = let p = and_parts (is_pure a) (is_pure b) h in none_of (calls_of f a) (calls_of f b) (pure_calls f a p.0) (pure_calls f b p.1)
pure_calls f (node t (pack e)) h = pure_calls f e h
pure_calls f (node t further) h = refl
pure_calls f (node t _) h = absurd cc

-- ---- lines

doubled_quiet : {ok : ℕ → Bool} (n : ℕ) → Quiet ok nowhere 3 (doubled_code n)
doubled_quiet {ok = ok} n =
    let one : Quiet ok nowhere 3 (shift_a Asl ∷ []) = quiet_piece (record { plain = refl; fit = refl; size = omega arith }) (λ v. record { to = λ calls. refl }) in
    let two : Quiet ok nowhere 3 (shift_a Asl ∷ shift_a Asl ∷ []) = quiet_piece (record { plain = refl; fit = refl; size = omega arith }) (λ v. record { to = λ calls. refl }) in
    let three : Quiet ok nowhere 3 (shift_a Asl ∷ shift_a Asl ∷ shift_a Asl ∷ []) = quiet_piece (record { plain = refl; fit = refl; size = omega arith }) (λ v. record { to = λ calls. refl }) in
    quiet_if (n == 0) quiet_none (quiet_if (n == 1) one (quiet_if (n == 2) two three))

scaled_by_quiet : {ok : ℕ → Bool} (size : ℕ) (n : Option ℕ) → Quiet ok nowhere 91 (scaled_by size n)
scaled_by_quiet size None = elements_quiet size
scaled_by_quiet size (Some n) = quiet_wider (doubled_quiet n) (omega arith)

pub scaled_quiet : {ok : ℕ → Bool} (size : ℕ) → Quiet ok nowhere 91 (scaled_code size)
scaled_quiet size = scaled_by_quiet size (doublings size)

pub reached_quiet : {ok : ℕ → Bool} (x : Element) → Quiet ok nowhere 92 (reached_code x)
reached_quiet {ok = ok} x =
    let tay : Quiet ok nowhere 1 (implied Tay ∷ []) = quiet_piece (record { plain = refl; fit = refl; size = omega arith }) (λ v. record { to = λ calls. refl }) in
    quiet_as (λ l. refl) (quiet_then (scaled_quiet x.size) tay)

element_bytes_quiet : {ok : ℕ → Bool} (x : Element) (e : Extent) → Quiet ok nowhere 6 (element_bytes_code x e)
element_bytes_quiet x One = quiet_piece (record { plain = refl; fit = refl; size = omega arith }) (λ v. record { to = λ calls. refl })
element_bytes_quiet x _ = quiet_piece (record { plain = refl; fit = refl; size = omega arith }) (λ v. record { to = λ calls. refl })

pub element_value_quiet : {ok : ℕ → Bool} (x : Element) (kind : IntType) → Quiet ok nowhere 101 (element_value_code x kind)
element_value_quiet x kind = quiet_as (λ l. refl) (quiet_then (reached_quiet x) (quiet_then (element_bytes_quiet x (extent_of kind)) (quiet_piece (narrow_piece kind) (narrow_still kind))))

pub element_byte_quiet : {ok : ℕ → Bool} (x : Element) → Quiet ok nowhere 95 (element_byte_code x)
element_byte_quiet {ok = ok} x =
    let byte : Quiet ok nowhere 3 (by_index Lda x.sym x.at ∷ []) = quiet_piece (record { plain = refl; fit = refl; size = omega arith }) (λ v. record { to = λ calls. refl }) in
    quiet_as (λ l. refl) (quiet_then (reached_quiet x) byte)

either_byte_quiet : {ok : ℕ → Bool} (x : Element) (e : Extent) → Quiet ok nowhere 6 (either_byte_code x e)
either_byte_quiet x One = quiet_piece (record { plain = refl; fit = refl; size = omega arith }) (λ v. record { to = λ calls. refl })
either_byte_quiet x _ = quiet_piece (record { plain = refl; fit = refl; size = omega arith }) (λ v. record { to = λ calls. refl })

pub element_test_quiet : {ok : ℕ → Bool} (x : Element) (kind : IntType) (s : Bool) (to : ℕ) → ok to ≡ true → Quiet ok nowhere 103 (element_test_code x kind s to)
element_test_quiet x kind s to passes = quiet_as (λ l. refl) (quiet_then (reached_quiet x) (quiet_then (either_byte_quiet x (extent_of kind)) (quiet_branch (by_sense s) to (sense_fits s) passes)))
