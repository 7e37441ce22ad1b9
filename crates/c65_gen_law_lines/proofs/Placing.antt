-- How a value is put into an element of a small array: what is so of the sides whose lines are not taken, and the lines of each form.
use Rattle.std.proofs.Common.{◌≡◌, ℕ, ◌==◌, Bool, true, false, not, Option, Some, None, List, [], ◌∷◌, refl, arith}
use Rattle.std.specs.Prelude.{◌&&◌, if◌then◌else◌, is_some, option_and_then}
use Rattle.std.proofs.lemmas.Bool.{and_parts}
use Rattle.c65_ints.specs.declared.types.IntType.{IntType}
use Rattle.c65_ctype.specs.Views.{types_of}
use Rattle.c65_csem.specs.Trees.{Typed, node, deref, member, binary}
use Rattle.c65_mach.specs.declared.rows.Op.TheVariants.{Lda, Ldy, Pha, Pla, Sta, Tax, Tay, Txa}
use Rattle.c65_code.specs.declared.line.Line.{Line}
use Rattle.c65_genframe.specs.Frames.{Framed}
use Rattle.c65_genload.specs.Words.{implied, zero_page}
use Rattle.c65_genload.specs.declared.places.Extent.{Extent}
use Rattle.c65_genload.specs.declared.places.Extent.TheVariants.{One, Two, Three, Four}
use Rattle.c65_genload.specs.Places.{word_more, extent_of}
use Rattle.c65_gendirect.specs.declared.bytes.OperandByte.{OperandByte}
use Rattle.c65_gendirect.specs.declared.bytes.OperandByte.TheVariants.{Number, Low, High, Near, Data, Zero}
use Rattle.c65_gendirect.specs.declared.direct.Direct.{Direct}
use Rattle.c65_gendirect.specs.Bytes.{op_of, takes_y, byte_of}
use Rattle.c65_genexpr.specs.declared.elements.Element.{Element}
use Rattle.c65_genexpr.specs.Types.{bare, offset_at}
use Rattle.c65_genexpr.specs.Direct.{direct_of, is_pure}
use Rattle.c65_genexpr.specs.Held.{ptr2}
use Rattle.c65_genexpr.specs.Uses.{uses}
use Rattle.c65_genexpr.specs.Operating.{is_light, is_light_index}
use Rattle.c65_genexpr.specs.Elements.{element_of, element_at, sum_element, by_index, doublings}
use Rattle.c65_geneffect.specs.declared.placing.Placing.{Placing}
use Rattle.c65_geneffect.specs.declared.placing.Placing.TheVariants.{Read, Behind, Held, Later, Otherwise}
use Rattle.c65_geneffect.specs.Placing.{sum_byte, index_byte, is_apart, double_read, read_bytes, read_direct, read_by, placing_or, behind_if, placing_by, placing_at, placing_of, stored_code, high_read_code, read_code, index_behind_code, behind_code, waiting_code, held_code, value_waits_code, high_later_code, later_code}
use Rattle.c65_gen_law_lines.specs.Stack.{calls_of}
use Rattle.c65_gen_law_lines.proofs.Made.{nowhere}
use Rattle.c65_gen_law_lines.proofs.Quiet.{Quiet, quiet_then, quiet_piece, quiet_none, quiet_wider, quiet_as}
use Rattle.c65_gen_law_lines.proofs.Directs.{loaded_quiet}
use Rattle.c65_gen_law_lines.proofs.Drops.{Idle, direct_idle}
use Rattle.c65_gen_law_lines.proofs.Elements.{Indexes, sum_indexes, onward_from, element_from, byte_idle, pure_calls, none_of, scaled_quiet, reached_quiet}

-- ---- the form

-- an element whose index is read where it lies has the label of its sum alone
pub record Single (f : Framed) (e : Typed) : Type 0 where
  pub uses : uses None e ≡ 1
  pub calls : calls_of f e ≡ []

sum_single : (f : Framed) (pushed : ℕ) (e : Typed) (x : Element) (d : OperandByte) → sum_element f e ≡ Some x → sum_byte f pushed e ≡ Some d → Single f e
sum_single f pushed (node t (binary op a b)) x d h g =
    let i : Indexes f op a = sum_indexes f t op a b x h in
    let idle : Idle f b = byte_idle f pushed b d g in
    record { uses = rw (i.alone, i.array.uses, idle.uses) refl; calls = none_of (calls_of f a) (calls_of f b) i.array.calls idle.calls }
sum_single f pushed (node t _) x d h g = absurd cc

index_single : (f : Framed) (pushed : ℕ) (e : Typed) (x : Element) (d : OperandByte) → element_of f e ≡ Some x → index_byte f pushed e ≡ Some d → Single f e
index_single f pushed (node t (deref e)) x d h g = let s : Single f e = sum_single f pushed e x d h g in record { uses = s.uses; calls = s.calls }
index_single f pushed (node t (member e m)) x d h g =
    let s : Single f e = onward_from (offset_at (types_of f.parts.types) (bare e) m) (element_of f e) x (λ y found. index_single f pushed e y d found g) h in
    record { uses = s.uses; calls = s.calls }
index_single f pushed (node t _) x d h g = absurd cc

-- what is so of the two sides
abbrev pub Placeable : Framed → Placing → Typed → Typed → Type 0
Placeable f (Read x low high) a b = ((y : Element) × (element_of f a ≡ Some y)) × Idle f b
Placeable f (Behind x extent d) a b = Single f a
Placeable f (Held x extent) a b = (y : Element) × (element_of f a ≡ Some y)
Placeable f (Later x extent) a b = ((y : Element) × (element_of f a ≡ Some y)) × ((calls_of f a ≡ []) × (calls_of f b ≡ []))
Placeable f Otherwise a b = Unit {0}

abbrev AllPlaceable : Framed → Option Placing → Typed → Typed → Type 0
AllPlaceable f None a b = Unit {0}
AllPlaceable f (Some how) a b = Placeable f how a b

or_placeable : (f : Framed) (a b : Typed) (o : Option Placing) (other : Placing) → AllPlaceable f o a b → Placeable f other a b → Placeable f (placing_or o other) a b
or_placeable f a b None other p q = q
or_placeable f a b (Some how) other p q = p

if_placeable : (f : Framed) (a b : Typed) (c : Bool) (x y : Placing) → (c ≡ true → Placeable f x a b) → Placeable f y a b → Placeable f (if c then x else y) a b
if_placeable f a b true x y p q = p refl
if_placeable f a b false x y p q = q

some_placeable : (f : Framed) (a b : Typed) (c : Bool) (x y : Option Placing) → AllPlaceable f x a b → AllPlaceable f y a b → AllPlaceable f (if c then x else y) a b
some_placeable f a b true x y p q = p
some_placeable f a b false x y p q = q

double_placeable : (f : Framed) (a b : Typed) (x : Element) (low : OperandByte) (high : Option OperandByte) → (y : Element) × (element_of f a ≡ Some y) → Idle f b → AllPlaceable f (option_and_then (double_read x low) high) a b
double_placeable f a b x low None there idle = tt
double_placeable f a b x low (Some high) there idle = some_placeable f a b (is_apart x.sym low && is_apart x.sym high) (Some (Read x low (Some high))) None (there, idle) tt

bytes_placeable : (f : Framed) (a b : Typed) (x : Element) (e : Extent) (d : Direct) (low : Option OperandByte) → (y : Element) × (element_of f a ≡ Some y) → Idle f b → AllPlaceable f (option_and_then (read_bytes x e d) low) a b
bytes_placeable f a b x e d None there idle = tt
bytes_placeable f a b x One d (Some low) there idle = some_placeable f a b (takes_y low) None (Some (Read x low None)) tt (there, idle)
bytes_placeable f a b x Two d (Some low) there idle = double_placeable f a b x low (byte_of d 1) there idle
bytes_placeable f a b x Three d (Some low) there idle = tt
bytes_placeable f a b x Four d (Some low) there idle = tt

read_placeable : (f : Framed) (a b : Typed) (x : Element) (e : Extent) (o : Option Direct) → (y : Element) × (element_of f a ≡ Some y) → ((d : Direct) → o ≡ Some d → Idle f b) → AllPlaceable f (option_and_then (read_direct x e) o) a b
read_placeable f a b x e None there idle = tt
read_placeable f a b x e (Some d) there idle = bytes_placeable f a b x e d (byte_of d 0) there (idle d refl)

behind_placeable : (f : Framed) (a b : Typed) (able : Bool) (x : Element) (e : Extent) (o : Option OperandByte) → ((d : OperandByte) → o ≡ Some d → Single f a) → AllPlaceable f (behind_if able x e o) a b
behind_placeable f a b true x e (Some d) single = single d refl
behind_placeable f a b true x e None single = tt
behind_placeable f a b false x e o single = tt

by_placeable : (f : Framed) (pushed : ℕ) (x : Element) (e : Extent) (a b : Typed) → (y : Element) × (element_of f a ≡ Some y) → Placeable f (placing_by f pushed x e a b) a b
by_placeable f pushed x e a b there =
    let short : Bool = is_some (doublings x.size) in
    or_placeable f a b (read_by f pushed x e b) _ (read_placeable f a b x e (direct_of f pushed b) there (λ d h. direct_idle f pushed b d h))
    (or_placeable f a b (behind_if (short && is_pure b) x e (index_byte f pushed a)) _ (behind_placeable f a b (short && is_pure b) x e (index_byte f pushed a) (λ d h. index_single f pushed a there.0 d there.1 h))
    (if_placeable f a b (is_light f pushed b) (Held x e) _ (λ h. there)
    (if_placeable f a b (short && (is_pure b && (is_pure a && is_light_index f pushed a))) (Later x e) Otherwise
    (λ h.
    let p = and_parts short (is_pure b && (is_pure a && is_light_index f pushed a)) h in
    let q = and_parts (is_pure b) (is_pure a && is_light_index f pushed a) p.1 in
    (there, (pure_calls f a (and_parts (is_pure a) (is_light_index f pushed a) q.1).0, pure_calls f b q.0))) tt)))

pub placing_placeable : (f : Framed) (pushed : ℕ) (a b : Typed) → Placeable f (placing_of f pushed a b) a b
placing_placeable f pushed a b = go (element_at f a) refl
  where
    go : (o : Option (Element × IntType)) → element_at f a ≡ o → Placeable f (placing_at f pushed o a b) a b
    go None e = tt
    go (Some x) e = by_placeable f pushed x.0 (extent_of x.1) a b (element_from f a x (λ y h. (y, h)) e)

-- ---- lines

stored_quiet : {ok : ℕ → Bool} (x : Element) (e : Extent) → Quiet ok nowhere 7 (stored_code x e)
stored_quiet x One = quiet_piece (record { plain = refl; fit = refl; size = omega arith }) (λ v. record { to = λ calls. refl })
stored_quiet x _ = quiet_piece (record { plain = refl; fit = refl; size = omega arith }) (λ v. record { to = λ calls. refl })

store_quiet : {ok : ℕ → Bool} (x : Element) (at : ℕ) → Quiet ok nowhere 3 (by_index Sta x.sym at ∷ [])
store_quiet x at = quiet_piece (record { plain = refl; fit = refl; size = omega arith }) (λ v. record { to = λ calls. refl })

high_read_quiet : {ok : ℕ → Bool} (x : Element) (high : Option OperandByte) → Quiet ok nowhere 7 (high_read_code x high)
high_read_quiet x None = quiet_none
high_read_quiet x (Some high) = quiet_as (λ l. refl) (quiet_then (loaded_quiet high) (store_quiet x (word_more x.at 1)))

pub read_quiet : {ok : ℕ → Bool} (x : Element) (low : OperandByte) (high : Option OperandByte) → Quiet ok nowhere 106 (read_code x low high)
read_quiet x low high = quiet_as (λ l. refl) (quiet_then (reached_quiet x) (quiet_then (loaded_quiet low) (quiet_then (store_quiet x x.at) (high_read_quiet x high))))

index_behind_quiet : {ok : ℕ → Bool} (size : ℕ) (e : Extent) (d : OperandByte) → Quiet ok nowhere 98 (index_behind_code size e d)
index_behind_quiet {ok = ok} size One d =
    let tax : Quiet ok nowhere 1 (implied Tax ∷ []) = quiet_piece (record { plain = refl; fit = refl; size = omega arith }) (λ v. record { to = λ calls. refl }) in
    let back : Quiet ok nowhere 2 (implied Tay ∷ implied Txa ∷ []) = quiet_piece (record { plain = refl; fit = refl; size = omega arith }) (λ v. record { to = λ calls. refl }) in
    quiet_as (λ l. refl) (quiet_then tax (quiet_then (loaded_quiet d) (quiet_then (scaled_quiet size) back)))
index_behind_quiet {ok = ok} size _ d =
    let pha : Quiet ok nowhere 1 (implied Pha ∷ []) = quiet_piece (record { plain = refl; fit = refl; size = omega arith }) (λ v. record { to = λ calls. refl }) in
    let back : Quiet ok nowhere 2 (implied Tay ∷ implied Pla ∷ []) = quiet_piece (record { plain = refl; fit = refl; size = omega arith }) (λ v. record { to = λ calls. refl }) in
    quiet_as (λ l. refl) (quiet_then pha (quiet_then (loaded_quiet d) (quiet_then (scaled_quiet size) back)))

-- Y is loaded by no pointer
to_y_quiet : {ok : ℕ → Bool} (d : OperandByte) → not (takes_y d) ≡ true → Quiet ok nowhere 3 (op_of Ldy d)
to_y_quiet (Number n) h = quiet_piece (record { plain = refl; fit = refl; size = omega arith }) (λ v. record { to = λ calls. refl })
to_y_quiet (Low sym at) h = quiet_piece (record { plain = refl; fit = refl; size = omega arith }) (λ v. record { to = λ calls. refl })
to_y_quiet (High sym at) h = quiet_piece (record { plain = refl; fit = refl; size = omega arith }) (λ v. record { to = λ calls. refl })
to_y_quiet (Near at) h = absurd cc
to_y_quiet (Data sym at) h = quiet_piece (record { plain = refl; fit = refl; size = omega arith }) (λ v. record { to = λ calls. refl })
to_y_quiet (Zero at) h = quiet_piece (record { plain = refl; fit = refl; size = omega arith }) (λ v. record { to = λ calls. refl })

either_quiet : {ok : ℕ → Bool} {k : ℕ} {x y : List Line} (b : Bool) → (b ≡ true → Quiet ok nowhere k x) → Quiet ok nowhere k y → Quiet ok nowhere k (if b then x else y)
either_quiet true p q = p refl
either_quiet false p q = q

pub behind_quiet : {ok : ℕ → Bool} (x : Element) (e : Extent) (d : OperandByte) → Quiet ok nowhere 105 (behind_code x e d)
behind_quiet x e d =
    quiet_as (λ l. refl) (quiet_then
    (either_quiet ((x.size == 1) && not (takes_y d)) (λ h. quiet_wider (to_y_quiet d (and_parts (x.size == 1) (not (takes_y d)) h).1) (omega arith)) (index_behind_quiet x.size e d))
    (stored_quiet x e))

pub waiting_quiet : {ok : ℕ → Bool} (x : Element) → Quiet ok nowhere 93 (waiting_code x)
waiting_quiet {ok = ok} x =
    let kept : Quiet ok nowhere 2 (zero_page Sta ptr2 ∷ []) = quiet_piece (record { plain = refl; fit = refl; size = omega arith }) (λ v. record { to = λ calls. refl }) in
    quiet_as (λ l. refl) (quiet_then (scaled_quiet x.size) kept)

pub held_quiet : {ok : ℕ → Bool} (x : Element) (e : Extent) → Quiet ok nowhere 9 (held_code x e)
held_quiet {ok = ok} x e =
    let back : Quiet ok nowhere 2 (zero_page Ldy ptr2 ∷ []) = quiet_piece (record { plain = refl; fit = refl; size = omega arith }) (λ v. record { to = λ calls. refl }) in
    quiet_as (λ l. refl) (quiet_then back (stored_quiet x e))

pub value_waits_quiet : {ok : ℕ → Bool} (e : Extent) → Quiet ok nowhere 4 (value_waits_code e)
value_waits_quiet One = quiet_piece (record { plain = refl; fit = refl; size = omega arith }) (λ v. record { to = λ calls. refl })
value_waits_quiet _ = quiet_piece (record { plain = refl; fit = refl; size = omega arith }) (λ v. record { to = λ calls. refl })

high_later_quiet : {ok : ℕ → Bool} (x : Element) (e : Extent) → Quiet ok nowhere 5 (high_later_code x e)
high_later_quiet x One = quiet_none
high_later_quiet x _ = quiet_piece (record { plain = refl; fit = refl; size = omega arith }) (λ v. record { to = λ calls. refl })

pub later_quiet : {ok : ℕ → Bool} (x : Element) (e : Extent) → Quiet ok nowhere 102 (later_code x e)
later_quiet {ok = ok} x e =
    let low : Quiet ok nowhere 5 (zero_page Lda ptr2 ∷ by_index Sta x.sym x.at ∷ []) = quiet_piece (record { plain = refl; fit = refl; size = omega arith }) (λ v. record { to = λ calls. refl }) in
    quiet_as (λ l. refl) (quiet_then (reached_quiet x) (quiet_then low (high_later_quiet x e)))
