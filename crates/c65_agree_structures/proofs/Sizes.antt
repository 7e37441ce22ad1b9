-- Structures and unions of 1 to 4 bytes.
use Rattle.std.proofs.Common.{◌≡◌, ℕ, zero, suc, ◌<◌, ◌≤◌, Bool, true, false, refl, arith}
use Rattle.std.specs.Prelude.{◌&&◌, nat_lt, nat_le, Option, Some, None, IsTrue, option_and_then, unwrap_or, if◌then◌else◌}
use Rattle.std.proofs.lemmas.Bool.Decides.{nat_tests}
use Rattle.c65_ctype.specs.Trees.{Ty, void, int, pointer, array, tag, function, LayoutTy, TypesTy}
use Rattle.c65_ctype.specs.Tables.{layout_at}
use Rattle.c65_ctype.specs.Sizes.{size_in, size_of}
use Rattle.c65_csem.specs.Places.{is_small, is_tag}
use Rattle.c65_meaning.specs.Store.{Area}
use Rattle.c65_meaning.specs.Shapes.{shape_of}
use Rattle.c65_genframe.specs.Sizes.{bytes_or, limited}
use Rattle.c65_genload.specs.Places.{extent_by}
use Rattle.c65_genexpr.specs.Arguments.{clamped}
use Rattle.c65_agree_load.specs.Loads.{bytes_of}

-- what is known of such a type
pub record Small (types : TypesTy) (t : Ty) : Type 0 where
  pub least : 1 ≤ size_of types t
  pub most : size_of types t ≤ 4
  pub shape : shape_of types t ≡ Area (size_of types t)
  pub bytes : bytes_or types t 0 ≡ size_of types t

in_limit : (n : ℕ) (b : Bool) → nat_lt 65535 n ≡ b → n < 65536 → unwrap_or (if b then None else Some n) 0 ≡ n
in_limit n true e few = let over : 65535 < n = grind (arith, nat_tests) in absurd (omega (arith, over, few))
in_limit n false e few = refl

layout_bytes : (o : Option LayoutTy) → size_in o < 65536 → unwrap_or (option_and_then (λ l. limited l.size) o) 0 ≡ size_in o
layout_bytes None few = refl
layout_bytes (Some l) few = in_limit l.size (nat_lt 65535 l.size) refl few

-- the generator's bytes of a structure or union are its size, and so is its shape
pub tag_bytes : (types : TypesTy) (t : Ty) → is_tag t ≡ true → size_of types t < 65536 → bytes_or types t 0 ≡ size_of types t
tag_bytes types (tag n) is few = layout_bytes (layout_at types n) few
tag_bytes types void is few = absurd cc
tag_bytes types (int k) is few = absurd cc
tag_bytes types (pointer q) is few = absurd cc
tag_bytes types (array q n) is few = absurd cc
tag_bytes types (function f) is few = absurd cc

pub tag_shape : (types : TypesTy) (t : Ty) → is_tag t ≡ true → shape_of types t ≡ Area (size_of types t)
tag_shape types (tag n) is = refl
tag_shape types void is = absurd cc
tag_shape types (int k) is = absurd cc
tag_shape types (pointer q) is = absurd cc
tag_shape types (array q n) is = absurd cc
tag_shape types (function f) is = absurd cc

bounds : (n : ℕ) (x y : Bool) → nat_le 1 n ≡ x → nat_le n 4 ≡ y → x && y ≡ true → (1 ≤ n) × (n ≤ 4)
bounds n true true first second h = (grind (arith, nat_tests), grind (arith, nat_tests))
bounds n true false first second h = absurd cc
bounds n false y first second h = absurd cc

-- it is a structure or union
pub small_tag : (types : TypesTy) (t : Ty) → IsTrue (is_small types t) → is_tag t ≡ true
small_tag types (tag n) h = refl
small_tag types void h = absurd cc
small_tag types (int k) h = absurd cc
small_tag types (pointer q) h = absurd cc
small_tag types (array q n) h = absurd cc
small_tag types (function f) h = absurd cc

small_size : (types : TypesTy) (t : Ty) → IsTrue (is_small types t) → (1 ≤ size_of types t) × (size_of types t ≤ 4)
small_size types (tag n) h = bounds (size_of types (tag n)) (nat_le 1 (size_of types (tag n))) (nat_le (size_of types (tag n)) 4) refl refl h
small_size types void h = absurd cc
small_size types (int k) h = absurd cc
small_size types (pointer q) h = absurd cc
small_size types (array q n) h = absurd cc
small_size types (function f) h = absurd cc

pub small_type : (types : TypesTy) (t : Ty) → IsTrue (is_small types t) → Small types t
small_type types t h =
    let b = small_size types t h in
    let is = small_tag types t h in
    record { least = b.0; most = b.1; shape = tag_shape types t is; bytes = tag_bytes types t is (omega (arith, b.1)) }

-- the lines go by its bytes
pub extent_bytes : (n : ℕ) → 1 ≤ n → n ≤ 4 → bytes_of (extent_by n) ≡ n
extent_bytes zero least most = absurd (omega (arith, least))
extent_bytes (suc zero) least most = refl
extent_bytes (suc (suc zero)) least most = refl
extent_bytes (suc (suc (suc zero))) least most = refl
extent_bytes (suc (suc (suc (suc zero)))) least most = refl
extent_bytes (suc (suc (suc (suc (suc n))))) least most = absurd (omega (arith, most))

pub clamped_bytes : (n : ℕ) → 1 ≤ n → n ≤ 4 → clamped n ≡ n
clamped_bytes zero least most = absurd (omega (arith, least))
clamped_bytes (suc zero) least most = refl
clamped_bytes (suc (suc zero)) least most = refl
clamped_bytes (suc (suc (suc zero))) least most = refl
clamped_bytes (suc (suc (suc (suc zero)))) least most = refl
clamped_bytes (suc (suc (suc (suc (suc n))))) least most = absurd (omega (arith, most))
