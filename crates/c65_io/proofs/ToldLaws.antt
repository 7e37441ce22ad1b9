-- Laws of told bytes.
use Rattle.std.proofs.Common.{◌≡◌, ℕ, ◌+◌, ◌-◌, ◌<◌, ◌≤◌, min, List, [], ◌++◌, length, take, drop, None, Some, Option, ap, refl, sym, ◌∙◌, append_assoc, arith}
use Rattle.std.proofs.lemmas.List.{drop-drop, take-append-drop, take_at, append-nil, take_rest, drop_all, length-drop, length-take-le, take_min, take-append-le}
use Rattle.std.proofs.Math.Seq.{take-add, take-append-add}
use Rattle.c65_io.specs.Told.{append_told}

pub append_told-nil : (told : Option (List ℕ)) → append_told told [] ≡ told
append_told-nil None = refl
append_told-nil (Some xs) = ap Some (append-nil xs)

pub append_told-append : (told : Option (List ℕ)) (xs ys : List ℕ) → append_told (append_told told xs) ys ≡ append_told told (xs ++ ys)
append_told-append None xs ys = refl
append_told-append (Some zs) xs ys = ap Some (append_assoc zs xs ys)

-- what a read copies, and what it leaves
pub copied_then_left : (bytes into src : List ℕ) (at n : ℕ) → at + n ≤ length bytes → src ≡ take ((at + n) - at) (drop at bytes)
    → take n (src ++ drop n into) ++ drop (at + n) bytes ≡ drop at bytes
copied_then_left bytes into src at n fits is =
    let shorter : at + n - at ≡ n = omega arith in
    let is' : src ≡ take n (drop at bytes) = is ∙ ap (λ k. take k (drop at bytes)) shorter in
    let len : length src ≡ n = ap length is' ∙ length-take-le n (drop at bytes) (omega (arith, length-drop at bytes)) in
    ap (λ xs. xs ++ drop (at + n) bytes) (take_at src (drop n into) n len ∙ is')
    ∙ ap (λ xs. take n (drop at bytes) ++ xs) (sym (drop-drop n at bytes))
    ∙ take-append-drop n (drop at bytes)

-- a written piece joins the pieces before it
pub one_more_piece : (start now next : Option (List ℕ)) (bytes : List ℕ) (at n : ℕ)
    → now ≡ append_told start (take at bytes)
    → next ≡ append_told now (take n (take (length bytes - at) (drop at bytes)))
    → next ≡ append_told start (take (at + n) bytes)
one_more_piece start now next bytes at n before step =
    step
    ∙ ap (λ told. append_told told (take n (take (length bytes - at) (drop at bytes)))) before
    ∙ ap (λ rest. append_told (append_told start (take at bytes)) (take n rest)) (take_rest bytes at)
    ∙ append_told-append start (take at bytes) (take n (drop at bytes))
    ∙ ap (append_told start) (sym (take-add at n bytes))

-- where nothing is left to copy, nothing is left
pub none_left : (bytes : List ℕ) (at room : ℕ) → at ≤ length bytes → min (length bytes - at) room ≡ 0 → 0 < room → drop at bytes ≡ []
none_left bytes at room in_range none some = drop_all at bytes (omega arith)

-- a part of what is next, behind what there is, is a part of the whole
pub part_of_more : (start told told' : Option (List ℕ)) (xs ys zs : List ℕ) (k : ℕ)
    → told ≡ append_told start xs → told' ≡ append_told told (take k ys)
    → (j : ℕ) × (told' ≡ append_told start (take j (xs ++ (ys ++ zs))))
part_of_more start told told' xs ys zs k before part =
    let n : ℕ = min k (length ys) in
    let fits : n ≤ length ys = omega arith in (
      length xs + n,
      part
          ∙ ap (λ t. append_told t (take k ys)) before
          ∙ append_told-append start xs (take k ys)
          ∙ ap (λ p. append_told start (xs ++ p)) (sym (take_min k ys) ∙ sym (take-append-le n ys zs fits))
          ∙ ap (append_told start) (sym (take-append-add xs (ys ++ zs) n)),
    )
