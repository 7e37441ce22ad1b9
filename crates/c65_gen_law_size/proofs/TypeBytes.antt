-- The bytes of a type are its size.
use Rattle.std.proofs.Common.{◌≡◌, ℕ, ◌*◌, Bool, true, false, Option, None, Some, refl, ◌∙◌, ap}
use Rattle.std.specs.Prelude.{if◌then◌else◌, nat_lt, option_and_then}
use Rattle.c65_ctype.specs.Trees.{Ty, void, int, pointer, array, tag, function, qual, TypesTy, LayoutTy}
use Rattle.c65_ctype.specs.Tables.{layout_at}
use Rattle.c65_ctype.specs.Sizes.{size_in, size_of}
use Rattle.c65_genframe.specs.Sizes.{limited, elements, bytes_at}

by_limit : (b : Bool) (m n : ℕ) → (if b then None else Some m) ≡ Some n → m ≡ n
by_limit true m n h = absurd cc
by_limit false m n h = cc

elements_size : (o : Option ℕ) (size m n : ℕ) → ((k : ℕ) → o ≡ Some k → size ≡ k) → elements o m ≡ Some n → size * m ≡ n
elements_size None size m n f h = absurd cc
elements_size (Some k) size m n f h = ap (λ z. z * m) (f k refl) ∙ by_limit (nat_lt 65535 (k * m)) (k * m) n h

layout_size : (o : Option LayoutTy) (n : ℕ) → option_and_then (λ l. limited l.size) o ≡ Some n → size_in o ≡ n
layout_size None n h = absurd cc
layout_size (Some l) n h = by_limit (nat_lt 65535 l.size) l.size n h

pub size_is : (types : TypesTy) (t : Ty) (n : ℕ) → bytes_at types t ≡ Some n → size_of types t ≡ n
size_is types void n h = absurd cc
size_is types (int k) n h = cc
size_is types (pointer q) n h = cc
size_is types (array (qual t c v) None) n h = absurd cc
size_is types (array (qual t c v) (Some m)) n h = elements_size (bytes_at types t) (size_of types t) m n (λ k e. size_is types t k e) h
size_is types (tag k) n h = layout_size (layout_at types k) n h
size_is types (function f) n h = absurd cc
