-- A value above 32 bits may be counted as 2 to the 32.
use Rattle.std.proofs.Common.{◌≡◌, ℕ, ◌+◌, ◌*◌, ◌<◌, ◌≤◌, min, Bool, true, false, nat_le, int_le, List, [], ◌∷◌, Option, Some, None, unwrap_or, option_map, Result, Ok, Err, find, pos, refl, ap, sym, ◌∙◌, arith}
use Rattle.std.proofs.lemmas.Bool.{leb-true}
use Rattle.std.proofs.lemmas.Int.{ints}
use Rattle.std.proofs.lemmas.Bool.Decides.{nat_tests}
use Rattle.c65_base.specs.declared.code.Code.TheVariants.{NumberRange}
use Rattle.c65_base.specs.declared.code.Code.{Code}
use Rattle.c65_ints.specs.declared.types.IntType.{IntType}
use Rattle.c65_ints.specs.declared.types.IntType.TheVariants.{SChar, UChar, Short, UShort, Int, UInt, Long, ULong}
use Rattle.c65_ints.specs.Ranges.{greatest_of}
use Rattle.c65_scan.specs.declared.number.Base.{Base}
use Rattle.c65_scan.specs.declared.number.Base.TheVariants.{Octal, Decimal, Hexadecimal}
use Rattle.c65_scan.specs.declared.number.Suffix.{Suffix}
use Rattle.c65_scan.specs.declared.number.Suffix.TheVariants as suffixes
use Rattle.c65_scan.specs.Numbers.{radix_of, digit_of, digits_of, suffix_from, integer_from, integer_of, row_of, typed, capped, base_of, no_integer, number_in, number_of}

step_same : (b : Base) (v w d : ℕ) → min v 4294967296 ≡ min w 4294967296 → min (v * radix_of b + d) 4294967296 ≡ min (w * radix_of b + d) 4294967296
step_same Octal v w d e = omega arith
step_same Decimal v w d e = omega arith
step_same Hexadecimal v w d e = omega arith

pub same_capped : (b : Base) (v w : ℕ) (cs : List ℕ) → min v 4294967296 ≡ min w 4294967296 → capped (integer_from b v cs) ≡ capped (integer_from b w cs)
same_capped b v w [] e = ap (λ x. Some (x, suffixes.Plain)) e
same_capped b v w (c ∷ cs) e =
    elim (digit_of b c) as (λ o. capped (elim o [ Some d ↦ integer_from b (v * radix_of b + d) cs | None ↦ option_map (λ x. (v, x)) (suffix_from suffixes.Plain (c ∷ cs)) ]) ≡ capped (elim o [ Some d ↦ integer_from b (w * radix_of b + d) cs | None ↦ option_map (λ x. (w, x)) (suffix_from suffixes.Plain (c ∷ cs)) ])) [
      | Some d ↦ same_capped b (v * radix_of b + d) (w * radix_of b + d) cs (step_same b v w d e)
      | None ↦ ended (suffix_from suffixes.Plain (c ∷ cs))
    ]
  where
    ended : (m : Option Suffix) → capped (option_map (λ x. (v, x)) m) ≡ capped (option_map (λ x. (w, x)) m)
    ended (Some x) = ap (λ y. Some (y, x)) e
    ended None = refl

-- one more digit
pub digit_step : (b : Base) (v d n c : ℕ) (cs : List ℕ) → digit_of b c ≡ Some d → n ≡ min (v * radix_of b + d) 4294967296 → capped (integer_from b n cs) ≡ capped (integer_from b v (c ∷ cs))
digit_step b v d n c cs h e =
    let k : min n 4294967296 ≡ min (v * radix_of b + d) 4294967296 = omega arith in
    same_capped b n (v * radix_of b + d) cs k ∙ ap (λ o. capped (elim o [ Some d ↦ integer_from b (v * radix_of b + d) cs | None ↦ option_map (λ x. (v, x)) (suffix_from suffixes.Plain (c ∷ cs)) ])) (sym h)

not_held : (t : IntType) (w : ℕ) → 4294967296 ≤ w → int_le (pos w) (greatest_of t) ≡ false
not_held SChar w h = grind (arith, ints, nat_tests)
not_held UChar w h = grind (arith, ints, nat_tests)
not_held Short w h = grind (arith, ints, nat_tests)
not_held UShort w h = grind (arith, ints, nat_tests)
not_held Int w h = grind (arith, ints, nat_tests)
not_held UInt w h = grind (arith, ints, nat_tests)
not_held Long w h = grind (arith, ints, nat_tests)
not_held ULong w h = grind (arith, ints, nat_tests)

none_holds : (ts : List IntType) (w : ℕ) → 4294967296 ≤ w → find (λ t. int_le (pos w) (greatest_of t)) ts ≡ None
none_holds [] w h = refl
none_holds (t ∷ ts) w h = rw (not_held t w h) (none_holds ts w h)

held_below : (t : IntType) (w : ℕ) → int_le (pos w) (greatest_of t) ≡ true → w < 4294967296
held_below t w e = elim (nat_le 4294967296 w) as (λ b. nat_le 4294967296 w ≡ b → w < 4294967296) [ true ↦ λ h. absurd (differ (sym e ∙ not_held t w (leb-true _ _ h))) | false ↦ λ h. grind (arith, nat_tests) ] refl
  where
    differ : true ≡ false → ⊥
    differ h = cc

pub type_held : (ts : List IntType) (w : ℕ) (t : IntType) → find (λ t. int_le (pos w) (greatest_of t)) ts ≡ Some t → w < 4294967296
type_held [] w t e = cc
type_held (u ∷ ts) w t e = tested (type_held ts w t) (int_le (pos w) (greatest_of u)) refl
  where
    tested : (find (λ t. int_le (pos w) (greatest_of t)) ts ≡ Some t → w < 4294967296) → (b : Bool) → int_le (pos w) (greatest_of u) ≡ b → w < 4294967296
    tested rest true h = held_below u w h
    tested rest false h = rest (rw h at e)

typed_none : (b : Base) (x : Suffix) (w : ℕ) → 4294967296 ≤ w → typed b (w, x) ≡ Err NumberRange
typed_none b x w h = ap (λ (o : Option IntType). elim o as (λ _. Result (IntType × ℕ) Code) [ Some t ↦ Ok (t, w) | None ↦ Err NumberRange ]) (none_holds (row_of b x) w h)

typed_capped : (b : Base) (x : Suffix) (w : ℕ) → typed b (min w 4294967296, x) ≡ typed b (w, x)
typed_capped b x w = tested (nat_le 4294967296 w) refl
  where
    tested : (q : Bool) → nat_le 4294967296 w ≡ q → typed b (min w 4294967296, x) ≡ typed b (w, x)
    tested false h = let e : min w 4294967296 ≡ w = grind (arith, nat_tests) in ap (λ v. typed b (v, x)) e
    tested true h =
        let k : 4294967296 ≤ w = leb-true _ _ h in
        let e : min w 4294967296 ≡ 4294967296 = omega arith in
        ap (λ v. typed b (v, x)) e ∙ typed_none b x 4294967296 (omega arith) ∙ sym (typed_none b x w k)

pub number_some : (b : Base) (s : List ℕ) (v : ℕ) (x : Suffix) → Some (v, x) ≡ capped (integer_of b (digits_of b s)) → typed b (v, x) ≡ number_in b s
number_some b s v x e = given (integer_of b (digits_of b s)) e
  where
    given : (o : Option (ℕ × Suffix)) → Some (v, x) ≡ capped o → typed b (v, x) ≡ elim o [ Some c ↦ typed b c | None ↦ no_integer s ]
    given None e = cc
    given (Some c) e =
        let p : v ≡ min c.0 4294967296 = ap (λ (y : Option (ℕ × Suffix)). (unwrap_or {T = ℕ × Suffix} y (v, x)).0) e in
        let q : x ≡ c.1 = ap (λ (y : Option (ℕ × Suffix)). (unwrap_or {T = ℕ × Suffix} y (v, x)).1) e in
        rw (p, q) (typed_capped b c.1 c.0)

pub number_none : (b : Base) (s : List ℕ) → None ≡ capped (integer_of b (digits_of b s)) → no_integer s ≡ number_in b s
number_none b s e = given (integer_of b (digits_of b s)) e
  where
    given : (o : Option (ℕ × Suffix)) → None ≡ capped o → no_integer s ≡ elim o [ Some c ↦ typed b c | None ↦ no_integer s ]
    given None e = refl
    given (Some c) e = cc

pub number_read : (s : List ℕ) (b : Base) (ds : List ℕ) (v : ℕ) (x : Suffix) (r : Result (IntType × ℕ) Code) → r ≡ typed b (v, x) → b ≡ base_of s → ds ≡ digits_of b s → Some (v, x) ≡ capped (integer_of b ds) → r ≡ number_of s
number_read s b ds v x r is base digits found =
    let e : Some (v, x) ≡ capped (integer_of b (digits_of b s)) = found ∙ ap (λ y. capped (integer_of b y)) digits in
    is ∙ number_some b s v x e ∙ ap (λ y. number_in y s) base
