-- The rows are in order.
use Rattle.std.proofs.Common.{◌≡◌, ℕ, zero, suc, ◌<◌, List, [], ◌∷◌, ◌++◌, length, Option, Some, None, refl, sym, subst, arith}
use Rattle.std.specs.List.{AllByRecursion}
use Rattle.c65_depth.specs.declared.program.CertRow.{CertRow}
use Rattle.c65_depth.specs.Numbers.{row_of}
use Rattle.c65_depth.specs.Tables.{add_if, some_of}
use Rattle.c65_depth_law_fits.proofs.Passed.{g, all_standings}
use Rattle.c65_depth_law_rows.specs.Rows.{AreInOrder, RowsAreInOrder}
use Rattle.c65_depth_law_rows.proofs.Rows.{all, row_func, same_rows}

one_more : (P : CertRow → Type 0) (xs : List CertRow) (x : CertRow) → AllByRecursion P xs → P x → AllByRecursion P (xs ++ x ∷ [])
one_more P [] x h i = (i, tt)
one_more P (y ∷ xs) x h i = (h.0, one_more P xs x h.1 i)

weaker : (P Q : CertRow → Type 0) → ((r : CertRow) → P r → Q r) → (xs : List CertRow) → AllByRecursion P xs → AllByRecursion Q xs
weaker P Q f [] h = tt
weaker P Q f (x ∷ xs) h = (f x h.0, weaker P Q f xs h.1)

-- a row behind all others
in_order : (xs : List CertRow) (x : CertRow) → AreInOrder xs → AllByRecursion (λ (r : CertRow). r.func < x.func) xs → AreInOrder (xs ++ x ∷ [])
in_order [] x h i = (tt, tt)
in_order (y ∷ xs) x h i = (one_more (λ (r : CertRow). y.func < r.func) xs x h.0 i.0, in_order xs x h.1 i.1)

abbrev Below : ℕ → List CertRow → Type 0
Below n xs = AllByRecursion (λ (r : CertRow). r.func < n) xs

one_later : (n m : ℕ) → n < m → n < suc m
one_later n m h = omega (arith, h)

module _ (h : ℕ → Option CertRow) (funcs : (i : ℕ) (r : CertRow) → h i ≡ Some r → r.func ≡ i) where
  below : (n : ℕ) → Below n (some_of n h)
  below zero = tt
  below (suc n) = by_row (h n) refl (weaker (λ (r : CertRow). r.func < n) (λ (r : CertRow). r.func < suc n) (λ r few. one_later r.func n few) (some_of n h) (below n))
    where
      by_row : (o : Option CertRow) → h n ≡ o → Below (suc n) (some_of n h) → Below (suc n) (add_if o (some_of n h))
      by_row None is rest = rest
      by_row (Some x) is rest = one_more (λ (r : CertRow). r.func < suc n) (some_of n h) x rest (let same = funcs n x is in omega (arith, same))

  ordered : (n : ℕ) → AreInOrder (some_of n h)
  ordered zero = tt
  ordered (suc n) = by_row (h n) refl (ordered n)
    where
      by_row : (o : Option CertRow) → h n ≡ o → AreInOrder (some_of n h) → AreInOrder (add_if o (some_of n h))
      by_row None is rest = rest
      by_row (Some x) is rest = in_order (some_of n h) x rest (subst (λ (m : ℕ). Below m (some_of n h)) (sym (funcs n x is)) (below n))

pub rows_are_in_order : RowsAreInOrder
rows_are_in_order p rs e = subst AreInOrder (same_rows p rs e) (ordered (row_of (g p) (all_standings p) (all p)) (row_func p) (length (g p)))
