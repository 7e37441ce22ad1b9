-- Laws of reading a number.
use Rattle.std.proofs.Common.{◌≡◌, ℕ, ◌^◌, ◌<◌, ◌≤◌, ◌⊎◌, inl, inr, Bool, true, false, cond, nat_lt, ◌&&◌, List, [], ◌∷◌, length, Option, Some, None, Result, Ok, Err, refl, ap, sym, subst, ◌∙◌, arith}
use Rattle.std.proofs.lemmas.Bool.{cases_lt, lt-ltb, le-ltb}
use Rattle.std.proofs.lemmas.Str.Parse.{parse_digits, numerals_by_value, tells_all_ascii_digits}
use Rattle.std.specs.List.{list_all}
use Rattle.std.specs.Char.{is_ascii_digit}
use Rattle.std.specs.Str.{all_ascii_digits}
use Rattle.std.specs.Str.Parse.{ParsesUnsigned, digits_value}
use Rattle.std.specs.Result.{OkIff}
use Rattle.c65_driver_words.specs.Values.{whole_by}

same_digits : (ds : List ℕ) → list_all is_ascii_digit ds ≡ all_ascii_digits ds
same_digits [] = refl
same_digits (d ∷ ds) = ap (λ b. is_ascii_digit d && b) (same_digits ds)

parsed : {E : Type 0} (word : List ℕ) (r : Result ℕ E) → list_all is_ascii_digit word ≡ true → ParsesUnsigned 32 10 word r
    → OkIff r ((0 < length word) × (digits_value 10 word < 2 ^ 32)) (digits_value 10 word)
parsed word r digits parses =
    parse_digits (numerals_by_value (λ ds. all_ascii_digits ds ≡ true) tells_all_ascii_digits) 32 word r parses (sym (same_digits word) ∙ digits)

abbrev picked : (a b : Bool) → ℕ → Option ℕ
picked a b v = cond (a && b) (Some v) None

picked_first : (a : Bool) (v : ℕ) → cond a (Some v) None ≡ picked a true v
picked_first true v = refl
picked_first false v = refl

picked_none : (a : Bool) (v : ℕ) → picked a false v ≡ None
picked_none true v = refl
picked_none false v = refl

pub whole_ok : {E : Type 0} (word : List ℕ) (r : Result ℕ E) (n : ℕ) → list_all is_ascii_digit word ≡ true → ParsesUnsigned 32 10 word r → r ≡ Ok n
    → cond (nat_lt 0 n) (Some n) None ≡ whole_by word
whole_ok {E} word r n digits parses is =
    let v : ℕ = digits_value 10 word in
    let found : OkIff {E = E} (Ok n) ((0 < length word) × (v < 2 ^ 32)) v =
    subst (λ (q : Result ℕ E). OkIff q ((0 < length word) × (v < 2 ^ 32)) v) is (parsed word r digits parses) in
    ap (λ m. cond (nat_lt 0 m) (Some m) None) found.1
    ∙ picked_first (nat_lt 0 v) v
    ∙ ap (λ b. picked (nat_lt 0 v) b v) (sym (lt-ltb v (2 ^ 32) found.0.1))

past_all : (word : List ℕ) → (((0 < length word) × (digits_value 10 word < 2 ^ 32)) → ⊥) → None ≡ whole_by word
past_all [] none = refl
past_all (c ∷ cs) none = by (cases_lt (digits_value 10 (c ∷ cs)) (2 ^ 32))
  where
    by : (digits_value 10 (c ∷ cs) < 2 ^ 32) ⊎ (2 ^ 32 ≤ digits_value 10 (c ∷ cs)) → None ≡ whole_by (c ∷ cs)
    by (inl less) = absurd (none (omega arith, less))
    by (inr more) =
        let v : ℕ = digits_value 10 (c ∷ cs) in
        sym (ap (λ t. picked (nat_lt 0 v) t v) (le-ltb v (2 ^ 32) more) ∙ picked_none (nat_lt 0 v) v)

pub whole_err : {E : Type 0} (word : List ℕ) (r : Result ℕ E) (e : E) → list_all is_ascii_digit word ≡ true → ParsesUnsigned 32 10 word r → r ≡ Err e → None ≡ whole_by word
whole_err {E} word r e digits parses is =
    let v : ℕ = digits_value 10 word in
    past_all word (subst (λ (q : Result ℕ E). OkIff q ((0 < length word) × (v < 2 ^ 32)) v) is (parsed word r digits parses))
