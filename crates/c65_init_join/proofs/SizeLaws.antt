-- A size that is answered is the size of the type.
use Rattle.std.proofs.Common.{◌≡◌, ◌∙◌, ℕ, ◌*◌, refl, ap, Ok, Err}
use Rattle.std.specs.Prelude.{Bool, true, false, Option, Some, None, Result, nat_le, if◌then◌else◌}
use Rattle.c65_base.specs.declared.refusal.Pos.{Pos}
use Rattle.c65_base.specs.declared.refusal.Size.TheVariants.{Object}
use Rattle.c65_base.specs.Answers.{Fault, large, ◌>>=◌}
use Rattle.c65_ctype.specs.Trees.{Ty, void, int, pointer, array, tag, function, QTy, qual, LayoutTy, TypesTy}
use Rattle.c65_ctype.specs.Tables.{layout_at}
use Rattle.c65_ctype.specs.Sizes.{size_at, qualified_size_at, elements, finished_size, size_of, qualified_size_of, size_in}

abbrev value_in : Result ℕ Fault → ℕ
value_in (Ok n) = n
value_in (Err e) = 0

tested : (b : Bool) (v n : ℕ) → ◌≡◌ {A = Result ℕ Fault} (if b then Ok v else Err (large Object v)) (Ok n) → v ≡ n
tested true v n h = ap value_in h
tested false v n h = absurd cc

uncounted : (r : Result ℕ Fault) (p : Pos) (n : ℕ) → (r >>= elements p None) ≡ Ok n → ⊥
uncounted (Ok m) p n h = absurd cc
uncounted (Err e) p n h = absurd cc

counted : (r : Result ℕ Fault) (p : Pos) (m k n : ℕ) → ((x : ℕ) → r ≡ Ok x → m ≡ x) → (r >>= elements p (Some k)) ≡ Ok n → m * k ≡ n
counted (Ok x) p m k n same h = ap (λ y. y * k) (same x refl) ∙ tested (nat_le (x * k) 65535) (x * k) n h
counted (Err e) p m k n same h = absurd cc

finished : (p : Pos) (o : Option LayoutTy) (n : ℕ) → finished_size p o ≡ Ok n → size_in o ≡ n
finished p None n h = absurd cc
finished p (Some l) n h = ap value_in h

mutual
  pub size_known : (types : TypesTy) (p : Pos) (t : Ty) (n : ℕ) → size_at types p t ≡ Ok n → size_of types t ≡ n
  size_known types p void n h = absurd cc
  size_known types p (int k) n h = ap value_in h
  size_known types p (pointer q) n h = ap value_in h
  size_known types p (array q None) n h = absurd (uncounted (qualified_size_at types p q) p n h)
  size_known types p (array q (Some k)) n h = counted (qualified_size_at types p q) p (qualified_size_of types q) k n (λ x is. qualified_known types p q x is) h
  size_known types p (tag m) n h = finished p (layout_at types m) n h
  size_known types p (function f) n h = absurd cc

  qualified_known : (types : TypesTy) (p : Pos) (q : QTy) (n : ℕ) → qualified_size_at types p q ≡ Ok n → qualified_size_of types q ≡ n
  qualified_known types p (qual t c v) n h = size_known types p t n h
