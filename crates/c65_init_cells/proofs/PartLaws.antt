-- Members are passed one by one until one has a name.
use Rattle.std.proofs.Common.{◌≡◌, ℕ, zero, suc, ◌+◌, List, [], ◌∷◌, Option, Some, None, Bool, true, false, is_some, if◌then◌else◌, drop, map, slice_get, ap, subst, arith}
use Rattle.c65_ctype.specs.declared.types.Member.{Member}
use Rattle.c65_ctype.specs.Views.{member_of}
use Rattle.c65_init_cells.specs.Parts.{named_from}

no_member : {P : Type 0} (m : Member) → ◌≡◌ {A = Option Member} None (Some m) → P
no_member m h = absurd cc

same_name : (x m : Member) → Some x ≡ Some m → (b : Bool) → is_some m.name ≡ b → is_some x.name ≡ b
same_name x m same b h =
    let e : m ≡ x = cc in
    subst (λ (y : Member). is_some y.name ≡ b) e h

pub named_found : (ms : List Member) (at n : ℕ) (m : Member) → slice_get ms at ≡ Some m → is_some m.name ≡ true → named_from (drop at (map member_of ms)) n ≡ Some n
named_found [] at n m here h = no_member m here
named_found (x ∷ ms) zero n m here h = ap (λ (b : Bool). if b then Some n else named_from (map member_of ms) (n + 1)) (same_name x m here true h)
named_found (x ∷ ms) (suc at) n m here h = named_found ms at n m here h

passed_by : (ms : List Member) (at n : ℕ) (m : Member) → slice_get ms at ≡ Some m → is_some m.name ≡ false → named_from (drop at (map member_of ms)) n ≡ named_from (drop (suc at) (map member_of ms)) (n + 1)
passed_by [] at n m here h = no_member m here
passed_by (x ∷ ms) zero n m here h = ap (λ (b : Bool). if b then Some n else named_from (map member_of ms) (n + 1)) (same_name x m here false h)
passed_by (x ∷ ms) (suc at) n m here h = passed_by ms at n m here h

pub named_passed : (ms : List Member) (at n : ℕ) (m : Member) → slice_get ms at ≡ Some m → is_some m.name ≡ false → named_from (drop at (map member_of ms)) n ≡ named_from (drop (at + 1) (map member_of ms)) (n + 1)
named_passed ms at n m here h =
    let e : suc at ≡ at + 1 = omega arith in
    subst (λ (k : ℕ). named_from (drop at (map member_of ms)) n ≡ named_from (drop k (map member_of ms)) (n + 1)) e (passed_by ms at n m here h)
