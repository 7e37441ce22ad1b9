-- Texts in memory at their literals.
use Rattle.std.proofs.Common.{◌≡◌, ℕ, zero, suc, ◌+◌, ◌-◌, ◌*◌, ◌/◌, ◌%◌, ◌<◌, ◌≤◌, ◌==◌, ◌&&◌, Bool, true, false, not, if◌then◌else◌, List, [], ◌∷◌, length, Option, Some, None, refl, sym, subst, ap, ◌∙◌, arith}
use Rattle.std.specs.Prelude.{slice_get, nat_lt}
use Rattle.std.specs.List.{position, position_or_len}
use Rattle.std.proofs.lemmas.Bool.{eqb-true, ltb-true}
use Rattle.c65_code.specs.declared.line.Operand.{Operand}
use Rattle.c65_code.specs.declared.line.Operand.TheVariants.{High, Low}
use Rattle.c65_code.specs.declared.line.Sym.{Sym}
use Rattle.c65_code.specs.LineState.{Bytes}
use Rattle.c65_code.specs.Rewriting.{HasLiterals}
use Rattle.c65_code.specs.Placement.{Placement, stack_start, located, word_of}
use Rattle.c65_code.specs.Texts.{length_within, text_length}
use Rattle.c65_pass.specs.KnownCalls.{literal_length, text_loaded}
use Rattle.c65_opt_law_near.specs.Laws.{IsLow}

-- ---- a text in memory

-- the bytes lie from an address on
abbrev pub LieAt : Bytes → ℕ → List ℕ → Type 0
LieAt m at bytes = (k v : ℕ) → slice_get bytes k ≡ Some v → m (at + k) ≡ v

pub lie_behind : (m : Bytes) (at v : ℕ) (vs : List ℕ) → LieAt m at (v ∷ vs) → LieAt m (at + 1) vs
lie_behind m at v vs lie k w e = let same : at + suc k ≡ at + 1 + k = omega arith in subst (λ (n : ℕ). m n ≡ w) same (lie (suc k) w e)

pub lie_first : (m : Bytes) (at v : ℕ) (vs : List ℕ) → LieAt m at (v ∷ vs) → m at ≡ v
lie_first m at v vs lie = let same : at + 0 ≡ at = omega arith in subst (λ (n : ℕ). m n ≡ v) same (lie 0 v refl)

-- the first zero among bytes, one by one
abbrev pub first_zero : List ℕ → ℕ
first_zero bytes = position_or_len (λ byte. byte == 0) bytes

one_on : (b : Bool) (fuel at : ℕ) (m : Bytes) (vs : List ℕ) → (first_zero vs < length vs → length_within fuel (at + 1) m ≡ first_zero vs) → (if not b then 1 + first_zero vs else 0) < suc (length vs)
    → (if b then 0 else suc (length_within fuel (at + 1) m)) ≡ (if not b then 1 + first_zero vs else 0)
one_on true fuel at m vs later found = refl
one_on false fuel at m vs later found = let e : length_within fuel (at + 1) m ≡ first_zero vs = later (omega (arith, found)) in omega (arith, e)

-- the text that begins there ends at the first zero
within : (bytes : List ℕ) (fuel at : ℕ) (m : Bytes) → length bytes ≤ fuel → LieAt m at bytes → first_zero bytes < length bytes → length_within fuel at m ≡ first_zero bytes
within [] fuel at m le lie found = absurd (omega (arith, found))
within (v ∷ vs) zero at m le lie found = absurd (omega (arith, le))
within (v ∷ vs) (suc fuel) at m le lie found =
    subst (λ (x : ℕ). (if x == 0 then 0 else suc (length_within fuel (at + 1) m)) ≡ first_zero (v ∷ vs)) (sym (lie_first m at v vs lie))
    (one_on (v == 0) fuel at m vs (λ less. within vs fuel (at + 1) m (omega (arith, le)) (lie_behind m at v vs lie) less) found)

-- a text that ends at this place
pub record EndsAt (bytes : List ℕ) (n : ℕ) : Type 0 where
  pub last : n < length bytes
  pub first : first_zero bytes ≡ n

zero_at : (bytes : List ℕ) (n : ℕ) → position (λ byte. byte == 0) bytes ≡ Some n → EndsAt bytes n
zero_at bytes n e = pick (nat_lt (first_zero bytes) (length bytes)) refl e
  where
    pick : (b : Bool) → nat_lt (first_zero bytes) (length bytes) ≡ b → (if b then Some (first_zero bytes) else None) ≡ Some n → EndsAt bytes n
    pick true h k = let same : first_zero bytes ≡ n = cc in let less : first_zero bytes < length bytes = ltb-true (first_zero bytes) (length bytes) h in record { last = omega (arith, same, less); first = same }
    pick false h k = absurd cc

pub text_ends : (bytes : List ℕ) (n at : ℕ) (m : Bytes) → LieAt m at bytes → EndsAt bytes n → length bytes ≤ 65536 → text_length at m ≡ n
unfolding text_length
text_ends bytes n at m lie ends le = within bytes 65536 at m le lie (omega (arith, ends.first, ends.last)) ∙ ends.first

-- ---- literals

-- the bytes of a literal stand at its address, and are constant
abbrev pub IsTextAt : Placement → Sym × List ℕ → Type 0
IsTextAt place literal = (k v : ℕ) → slice_get literal.1 k ≡ Some v → place.constant (place.address literal.0.0 + k) ≡ Some v

abbrev pub AreTextsAt : Placement → List (Sym × List ℕ) → Type 0
AreTextsAt place [] = Unit {0}
AreTextsAt place (literal ∷ literals) = IsTextAt place literal × AreTextsAt place literals

pub texts_each : (place : Placement) (literals : List (Sym × List ℕ)) → HasLiterals literals place → AreTextsAt place literals
texts_each place [] has = tt
texts_each place (literal ∷ literals) has = (λ k v e. has 0 k v literal refl e, texts_each place literals (λ i k v l e f. has (suc i) k v l e f))

pub texts_all : (place : Placement) (literals : List (Sym × List ℕ)) → AreTextsAt place literals → HasLiterals literals place
texts_all place [] each i k v literal e byte = absurd cc
texts_all place (l ∷ literals) each zero k v literal e byte = let same : l ≡ literal = cc in subst (IsTextAt place) same each.0 k v byte
texts_all place (l ∷ literals) each (suc i) k v literal e byte = texts_all place literals each.1 i k v literal e byte

-- a literal at its address
pub record IsKnownText (place : Placement) (n : ℕ) (at : ℕ) : Type 0 where
  pub bytes : List ℕ
  pub ends : EndsAt bytes n
  pub constant : (k v : ℕ) → slice_get bytes k ≡ Some v → place.constant (at + k) ≡ Some v

literal_at : (place : Placement) (literals : List (Sym × List ℕ)) (s : Sym) (n : ℕ) → AreTextsAt place literals → literal_length literals s ≡ Some n → IsKnownText place n (place.address s.0)
literal_at place [] s n all e = absurd cc
literal_at place (literal ∷ literals) s n all e = pick (literal.0.0 == s.0) refl e (literal_at place literals s n all.1)
  where
    pick : (b : Bool) → (literal.0.0 == s.0) ≡ b → (if b then position (λ byte. byte == 0) literal.1 else literal_length literals s) ≡ Some n → (literal_length literals s ≡ Some n → IsKnownText place n (place.address s.0)) → IsKnownText place n (place.address s.0)
    pick true h k later = let same : literal.0.0 ≡ s.0 = eqb-true literal.0.0 s.0 h in record { bytes = literal.1; ends = zero_at literal.1 n k; constant = λ i v e. subst (λ (x : ℕ). place.constant (place.address x + i) ≡ Some v) same (all.0 i v e) }
    pick false h k later = later k

-- each byte has a value
get_some : (bytes : List ℕ) (k : ℕ) → k < length bytes → (v : ℕ) × (slice_get bytes k ≡ Some v)
get_some [] k less = absurd (omega (arith, less))
get_some (v ∷ vs) zero less = (v, refl)
get_some (v ∷ vs) (suc k) less = get_some vs k (omega (arith, less))

-- a word that is loaded, which is the address of a text of this length
pub record IsTextLoaded (place : Placement) (word : Option (Operand × Operand)) (n : ℕ) : Type 0 where
  pub pair : Operand × Operand
  pub shown : word ≡ Some pair
  pub low : word_of place pair.1 < 256
  pub high : word_of place pair.0 < 256
  pub text : IsKnownText place n (word_of place pair.1 + 256 * word_of place pair.0)

-- it lies below the software stack, and is as long as this at most
pub text_below : (place : Placement) (n at : ℕ) → IsLow place → (text : IsKnownText place n at) → at + length text.bytes ≤ stack_start
text_below place n at low text = pick text.bytes text.ends.last text.constant
  where
    pick : (bytes : List ℕ) → n < length bytes → ((k v : ℕ) → slice_get bytes k ≡ Some v → place.constant (at + k) ≡ Some v) → at + length bytes ≤ stack_start
    pick bytes last constant =
        let end = get_some bytes (length bytes - 1) (omega (arith, last)) in
        let below : at + (length bytes - 1) < stack_start = low.constant_below (at + (length bytes - 1)) end.0 (constant (length bytes - 1) end.0 end.1) in
        omega (arith, below, last)

pub text_word : (place : Placement) (literals : List (Sym × List ℕ)) (word : Option (Operand × Operand)) (n : ℕ) → IsLow place → AreTextsAt place literals → text_loaded literals word ≡ Some n → IsTextLoaded place word n
text_word place literals (Some (High s o, Low t p)) n low texts e = pick (s.0 == t.0) (o == 0) (p == 0) refl refl refl e
  where
    pick : (b c d : Bool) → (s.0 == t.0) ≡ b → (o == 0) ≡ c → (p == 0) ≡ d → (if b && (c && d) then literal_length literals s else None) ≡ Some n → IsTextLoaded place (Some (High s o, Low t p)) n
    pick false c d h i j k = absurd cc
    pick true false d h i j k = absurd cc
    pick true true false h i j k = absurd cc
    pick true true true h i j k =
        let one : s.0 ≡ t.0 = eqb-true s.0 t.0 h in
        let zero_high : o ≡ 0 = eqb-true o 0 i in
        let zero_low : p ≡ 0 = eqb-true p 0 j in
        let text : IsKnownText place n (place.address s.0) = literal_at place literals s n texts k in
        let below : place.address s.0 + length text.bytes ≤ stack_start = text_below place n (place.address s.0) low text in
        let same : place.address s.0 ≡ place.address t.0 = ap place.address one in
        let at : place.address s.0 ≡ located place t p % 256 + 256 * (located place s o / 256) = omega (arith, below, same, zero_high, zero_low) in
        record { pair = (High s o, Low t p); shown = refl; low = omega arith; high = omega arith; text = subst (IsKnownText place n) at text }
text_word place literals _ n low texts e = absurd cc

-- the byte at which a text ends
step_on : (b : Bool) (v : ℕ) (vs : List ℕ) → (v == 0) ≡ b → (first_zero vs < length vs → slice_get vs (first_zero vs) ≡ Some 0) → (if not b then 1 + first_zero vs else 0) < suc (length vs) → slice_get (v ∷ vs) (if not b then 1 + first_zero vs else 0) ≡ Some 0
step_on true v vs e later found = ap Some (eqb-true v 0 e)
step_on false v vs e later found = let next : 1 + first_zero vs ≡ suc (first_zero vs) = omega arith in subst (λ (k : ℕ). slice_get (v ∷ vs) k ≡ Some 0) (sym next) (later (omega (arith, found)))

zero_there : (bytes : List ℕ) → first_zero bytes < length bytes → slice_get bytes (first_zero bytes) ≡ Some 0
zero_there [] found = absurd (omega (arith, found))
zero_there (v ∷ vs) found = step_on (v == 0) v vs refl (λ less. zero_there vs less) found

pub text_zero : (place : Placement) (n at : ℕ) → (text : IsKnownText place n at) → n ≡ 0 → place.constant at ≡ Some 0
text_zero place n at text e =
    let first : first_zero text.bytes ≡ 0 = text.ends.first ∙ e in
    let zero_byte : slice_get text.bytes 0 ≡ Some 0 = subst (λ (k : ℕ). slice_get text.bytes k ≡ Some 0) first (zero_there text.bytes (omega (arith, text.ends.first, text.ends.last))) in
    let same : at + 0 ≡ at = omega arith in
    subst (λ (b : ℕ). place.constant b ≡ Some 0) same (text.constant 0 0 zero_byte)
