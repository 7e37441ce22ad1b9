-- The labels of the sides of an assignment to an element of a small array.
use Rattle.std.proofs.Common.{◌≡◌, ◌+◌, ℕ, Bool, true, false, Option, Some, None, sym, ap, ◌∙◌}
use Rattle.std.specs.Prelude.{◌&&◌, if◌then◌else◌, is_some, option_and_then}
use Rattle.c65_ints.specs.declared.types.IntType.{IntType}
use Rattle.c65_csem.specs.Trees.{Typed, node, deref, member, binary}
use Rattle.c65_genframe.specs.Frames.{Framed}
use Rattle.c65_genload.specs.declared.places.Extent.{Extent}
use Rattle.c65_genload.specs.declared.places.Extent.TheVariants.{One, Two, Three, Four}
use Rattle.c65_genload.specs.Places.{extent_of}
use Rattle.c65_gendirect.specs.declared.bytes.OperandByte.{OperandByte}
use Rattle.c65_gendirect.specs.declared.direct.Direct.{Direct}
use Rattle.c65_gendirect.specs.Bytes.{takes_y, byte_of}
use Rattle.c65_genexpr.specs.declared.elements.Element.{Element}
use Rattle.c65_genexpr.specs.Direct.{direct_of, is_pure}
use Rattle.c65_genexpr.specs.Elements.{element_at, doublings}
use Rattle.c65_genexpr.specs.Leaving.{ElementFree}
use Rattle.c65_genexpr.specs.Operating.{is_light, is_light_index}
use Rattle.c65_genexpr.specs.Uses.{uses, index_uses, sum_index_uses}
use Rattle.c65_genexpr.proofs.Known.{IsThere, direct_uses}
use Rattle.c65_genexpr.proofs.Indexes.{byte_uses, element_free}
use Rattle.c65_geneffect.specs.declared.placing.Placing.{Placing}
use Rattle.c65_geneffect.specs.declared.placing.Placing.TheVariants.{Read, Held, Later, Otherwise}
use Rattle.c65_geneffect.specs.Placing.{sum_byte, index_byte, is_apart, double_read, read_bytes, read_direct, placing_or, behind_if, placing_by, placing_at, placing_of, PlacesFree}

-- ---- an index that is read where it lies

sum_one : (f : Framed) (pushed : ℕ) (e : Typed) → IsThere (sum_byte f pushed e) → sum_index_uses e ≡ 1
sum_one f pushed (node t (binary op a b)) h = ap (λ (n : ℕ). 1 + n) (byte_uses f pushed b h)
sum_one f pushed (node t _) h = absurd h

index_one : (f : Framed) (pushed : ℕ) (e : Typed) → IsThere (index_byte f pushed e) → index_uses e ≡ 1
index_one f pushed (node t (deref e)) h = sum_one f pushed e h
index_one f pushed (node t (member e m)) h = index_one f pushed e h
index_one f pushed (node t _) h = absurd h

-- ---- forms

abbrev AllFree : Option Placing → Typed → Typed → Type 0
AllFree None a b = Unit {0}
AllFree (Some how) a b = PlacesFree how a b

or_free : (how : Option Placing) (other : Placing) (a b : Typed) → AllFree how a b → PlacesFree other a b → PlacesFree (placing_or how other) a b
or_free (Some how) other a b p q = p
or_free None other a b p q = q

single_free : (y : Bool) (x : Element) (low : OperandByte) (a b : Typed) → PlacesFree (Read x low None) a b → AllFree (if y then None else Some (Read x low None)) a b
single_free true x low a b free = tt
single_free false x low a b free = free

double_free : (apart : Bool) (x : Element) (low high : OperandByte) (a b : Typed) → PlacesFree (Read x low (Some high)) a b → AllFree (if apart then Some (Read x low (Some high)) else None) a b
double_free true x low high a b free = free
double_free false x low high a b free = tt

high_free : (x : Element) (low : OperandByte) (high : Option OperandByte) (a b : Typed) → index_uses a ≡ uses None a → uses None b ≡ 0 → AllFree (option_and_then (double_read x low) high) a b
high_free x low None a b same none = tt
high_free x low (Some high) a b same none = double_free (is_apart x.sym low && is_apart x.sym high) x low high a b (same, none)

bytes_free : (x : Element) (extent : Extent) (d : Direct) (low : OperandByte) (a b : Typed) → index_uses a ≡ uses None a → uses None b ≡ 0 → AllFree (read_bytes x extent d low) a b
bytes_free x One d low a b same none = single_free (takes_y low) x low a b (same, none)
bytes_free x Two d low a b same none = high_free x low (byte_of d 1) a b same none
bytes_free x Three d low a b same none = tt
bytes_free x Four d low a b same none = tt

low_free : (x : Element) (extent : Extent) (d : Direct) (low : Option OperandByte) (a b : Typed) → index_uses a ≡ uses None a → uses None b ≡ 0 → AllFree (option_and_then (read_bytes x extent d) low) a b
low_free x extent d None a b same none = tt
low_free x extent d (Some low) a b same none = bytes_free x extent d low a b same none

read_free : (x : Element) (extent : Extent) (d : Option Direct) (a b : Typed) → index_uses a ≡ uses None a → (IsThere d → uses None b ≡ 0) → AllFree (option_and_then (read_direct x extent) d) a b
read_free x extent None a b same none = tt
read_free x extent (Some d) a b same none = low_free x extent d (byte_of d 0) a b same (none tt)

behind_free : (able : Bool) (x : Element) (extent : Extent) (d : Option OperandByte) (a b : Typed) → (IsThere d → uses None a ≡ 1) → AllFree (behind_if able x extent d) a b
behind_free true x extent (Some d) a b one = one tt
behind_free true x extent None a b one = tt
behind_free false x extent d a b one = tt

held_free : (light later : Bool) (x : Element) (extent : Extent) (a b : Typed) → index_uses a ≡ uses None a → PlacesFree (if light then Held x extent else (if later then Later x extent else Otherwise)) a b
held_free true later x extent a b same = same
held_free false true x extent a b same = same
held_free false false x extent a b same = tt

by_free : (f : Framed) (pushed : ℕ) (x : Element) (extent : Extent) (a b : Typed) → index_uses a ≡ uses None a → PlacesFree (placing_by f pushed x extent a b) a b
by_free f pushed x extent a b same =
    let short : Bool = is_some (doublings x.size) in
    or_free _ _ a b (read_free x extent (direct_of f pushed b) a b same (direct_uses f pushed b))
    (or_free _ _ a b (behind_free (short && is_pure b) x extent (index_byte f pushed a) a b (λ h. sym same ∙ index_one f pushed a h))
    (held_free (is_light f pushed b) (short && (is_pure b && (is_pure a && is_light_index f pushed a))) x extent a b same))

at_free : (f : Framed) (pushed : ℕ) (x : Option (Element × IntType)) (a b : Typed) → ElementFree x a → PlacesFree (placing_at f pushed x a b) a b
at_free f pushed None a b same = tt
at_free f pushed (Some x) a b same = by_free f pushed x.0 (extent_of x.1) a b same

pub places_free : (f : Framed) (pushed : ℕ) (a b : Typed) → PlacesFree (placing_of f pushed a b) a b
places_free f pushed a b = at_free f pushed (element_at f a) a b (element_free f a)
