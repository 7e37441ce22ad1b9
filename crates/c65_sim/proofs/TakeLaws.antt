-- Laws of bytes that are read.
use Rattle.std.proofs.Common.{◌≡◌, ℕ, ◌+◌, ◌-◌, ◌≤◌, List, ◌++◌, length, take, Option, Some, None, ap, sym, refl, ◌∙◌, append_assoc}
use Rattle.std.proofs.lemmas.List.{length-take-le, take-append-le}
use Rattle.std.proofs.Math.Seq.{take-append-add}
use borrow.Rule.Slice.PartMut.{put_mid, post_of}
use Rattle.c65_io.specs.Told.{prepend_told}

pub prepend_told-append : (xs ys : List ℕ) (told : Option (List ℕ)) → prepend_told xs (prepend_told ys told) ≡ prepend_told (xs ++ ys) told
prepend_told-append xs ys None = refl
prepend_told-append xs ys (Some zs) = ap Some (sym (append_assoc xs ys zs))

-- what a read adds to what was read before
pub filled_more : (left0 left left' : Option (List ℕ)) (into sub : List ℕ) (at n : ℕ) → at ≤ length into → n ≤ length sub
    → left0 ≡ prepend_told (take at into) left → left ≡ prepend_told (take n sub) left'
    → left0 ≡ prepend_told (take (at + n) (put_mid at (length into - at) into sub)) left'
filled_more left0 left left' into sub at n fits within before step =
    let len : length (take at into) ≡ at = length-take-le at into fits in
    let rest : List ℕ = post_of at (length into - at) into in
    before
    ∙ ap (prepend_told (take at into)) step
    ∙ prepend_told-append (take at into) (take n sub) left'
    ∙ ap (λ xs. prepend_told (take at into ++ xs) left') (sym (take-append-le n sub rest within))
    ∙ ap (λ xs. prepend_told xs left') (sym (take-append-add (take at into) (sub ++ rest) n))
    ∙ ap (λ k. prepend_told (take (k + n) (take at into ++ (sub ++ rest))) left') len

-- what was taken before a read failed
pub failed_after : (left0 left left' : Option (List ℕ)) (xs : List ℕ) → left0 ≡ prepend_told xs left → left' ≡ left → left0 ≡ prepend_told xs left'
failed_after left0 left left' xs before same = before ∙ ap (prepend_told xs) (sym same)
