-- The items of the next unit are added.
use Rattle.std.proofs.Common.{◌≡◌, ◌∙◌, ℕ, zero, suc, ◌+◌, ◌<◌, ◌≤◌, List, [], ◌∷◌, length, map, drop, get_or, sym, ap, arith}
use Rattle.std.specs.Prelude.{Bool, Some, slice_get}
use Rattle.c65_csem.specs.Trees.{UnitTy}
use Rattle.c65_init_join.specs.declared.unit.Unit.{Unit as UnitParts}
use Rattle.c65_init_join.specs.Items.{items_of}
use Rattle.c65_init_join.specs.Joined.{with_items, with_all}
use Rattle.c65_init_join.specs.Numbers.{AssignedTy, completed}
use Rattle.c65_init_join.specs.Tables.{TableTy}
use Rattle.c65_init_join.proofs.TurnLaws.{one_on, drop_next, drop_end}

drop_some : {A : Type 0} (xs : List A) (i : ℕ) (x : A) → slice_get xs i ≡ Some x → drop i xs ≡ x ∷ drop (suc i) xs
drop_some [] i x is = absurd cc
drop_some {A} (y ∷ ys) zero x is = ap (λ (z : A). z ∷ ys) (grind (arith, is))
drop_some (y ∷ ys) (suc i) x is = drop_some ys i x is

pub parts_next : (names : List (List ℕ)) (is_signed : Bool) (t : TableTy) (p : UnitTy) (us : List UnitParts) (xs : List AssignedTy) (i : ℕ) (u : UnitParts) (a : AssignedTy) → i < length us → u ≡ get_or us i u → slice_get xs i ≡ Some a → with_all names is_signed t (with_items names is_signed a (completed t (items_of u) a) p (items_of u)) (map items_of (drop (i + 1) us)) (drop (i + 1) xs) ≡ with_all names is_signed t p (map items_of (drop i us)) (drop i xs)
parts_next names is_signed t p us xs i u a below is found =
    sym (
    ap (λ (vs : List UnitParts). with_all names is_signed t p (map items_of vs) (drop i xs)) (drop_next us i u below is)
    ∙ ap (λ (ys : List AssignedTy). with_all names is_signed t p (items_of u ∷ map items_of (drop (i + 1) us)) ys) (drop_some xs i a found ∙ ap (λ (k : ℕ). a ∷ drop k xs) (one_on i)))

pub parts_end : (names : List (List ℕ)) (is_signed : Bool) (t : TableTy) (p : UnitTy) (us : List UnitParts) (xs : List AssignedTy) (i : ℕ) → length us ≤ i → with_all names is_signed t p (map items_of (drop i us)) xs ≡ p
parts_end names is_signed t p us xs i h = ap (λ (vs : List UnitParts). with_all names is_signed t p (map items_of vs) xs) (drop_end us i h)
