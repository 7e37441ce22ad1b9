-- Structures within structures, level by level.
use Rattle.std.proofs.Common.{◌≡◌, ℕ, zero, suc, ◌-◌, ◌<◌, ◌≤◌, List, [], Bool, true, false, refl, sym, ap, ◌∙◌, arith}
use Rattle.c65_ctype.specs.Trees.{TypesTy}
use Rattle.c65_elab_convert.specs.Constness.{any_sealed, inner_tags, is_sealed}

pub sealed_next : (types : TypesTy) (m : ℕ) (tags inner : List ℕ) → 0 < m → any_sealed types tags ≡ false → inner ≡ inner_tags types [] tags → is_sealed types (m - 1) inner ≡ is_sealed types m tags
sealed_next types zero tags inner above none is = absurd (omega arith)
sealed_next types (suc m) tags inner above none is =
    let less : suc m - 1 ≡ m = omega arith in
    rw (less, none, is) refl

pub sealed_found : (types : TypesTy) (m : ℕ) (tags : List ℕ) → 0 < m → any_sealed types tags ≡ true → is_sealed types m tags ≡ true
sealed_found types zero tags above some = absurd (omega arith)
sealed_found types (suc m) tags above some = rw some refl

pub sealed_end : (types : TypesTy) (m : ℕ) (tags : List ℕ) → m ≤ 0 → is_sealed types m tags ≡ false
sealed_end types zero tags below = refl
sealed_end types (suc m) tags below = absurd (omega arith)
