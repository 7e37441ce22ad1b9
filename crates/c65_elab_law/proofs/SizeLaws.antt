-- A size is a value of type unsigned int.
use Rattle.std.proofs.Common.{◌≡◌, ℕ, ◌*◌, ◌≤◌, pos, Bool, true, false, Option, Some, None, Ok, refl, subst, arith}
use Rattle.std.specs.Prelude.{nat_le}
use Rattle.std.proofs.lemmas.Bool.{leb-true}
use Rattle.std.proofs.lemmas.Int.{ints}
use Rattle.c65_base.specs.declared.refusal.Pos.{Pos}
use Rattle.c65_ints.specs.declared.types.IntType.{IntType}
use Rattle.c65_ints.specs.declared.types.IntType.TheVariants.{SChar, UChar, Short, UShort, Int, UInt, Long, ULong}
use Rattle.c65_ints.specs.Ranges.{InRange}
use Rattle.c65_ctype.specs.Trees.{Ty, void, int, pointer, array, tag, function, type_in, LayoutTy, TypesTy}
use Rattle.c65_ctype.specs.Tables.{IsLaid, IsTable, layout_at}
use Rattle.c65_ctype.specs.Sizes.{bytes_of, limited, elements, finished_size, size_at, qualified_size_at}
use Rattle.c65_ctype.proofs.TableLaws.{laid_at}
use Rattle.c65_csem.specs.Trees as n
use Rattle.c65_csem.specs.Trees.{Typed, node, type_of, UnitTy}
use Rattle.c65_csem.specs.Places.{plain, is_bit_field}
use Rattle.c65_csem.specs.Typed.{IsTyped}
use Rattle.c65_elab_convert.specs.Access.{size_of_type, size_of_expr}
use Rattle.c65_elab_law.proofs.OperatorLaws.{bind_ok, ok_is, not_ok}

bytes_small : (k : IntType) → bytes_of k ≤ 65535
bytes_small SChar = omega arith
bytes_small UChar = omega arith
bytes_small Short = omega arith
bytes_small UShort = omega arith
bytes_small Int = omega arith
bytes_small UInt = omega arith
bytes_small Long = omega arith
bytes_small ULong = omega arith

limited_small : (k m : ℕ) → limited k ≡ Ok m → m ≤ 65535
limited_small k m h = tested (nat_le k 65535) refl
  where
    tested : (b : Bool) → nat_le k 65535 ≡ b → m ≤ 65535
    tested false x = absurd (not_ok _ _ (rw x at h))
    tested true x = subst (λ (z : ℕ). z ≤ 65535) (ok_is _ _ (rw x at h)) (leb-true k 65535 x)

finished_small : (p : Pos) (l : Option LayoutTy) (m : ℕ) → IsLaid l → finished_size p l ≡ Ok m → m ≤ 65535
finished_small p None m w h = absurd (not_ok _ _ h)
finished_small p (Some l) m w h = subst (λ (z : ℕ). z ≤ 65535) (ok_is _ _ h) w

pub size_small : (types : TypesTy) (p : Pos) (t : Ty) (m : ℕ) → IsTable types → size_at types p t ≡ Ok m → m ≤ 65535
size_small types p void m w h = absurd (not_ok _ _ h)
size_small types p (int k) m w h = subst (λ (z : ℕ). z ≤ 65535) (ok_is _ _ h) (bytes_small k)
size_small types p (pointer q) m w h = subst (λ (z : ℕ). z ≤ 65535) (ok_is _ _ h) (let two : 2 ≤ 65535 = omega arith in two)
size_small types p (array q None) m w h =
    let (x, hx, hy) = bind_ok (qualified_size_at types p q) (elements p None) m h in absurd (not_ok _ _ hy)
size_small types p (array q (Some k)) m w h =
    let (x, hx, hy) = bind_ok (qualified_size_at types p q) (elements p (Some k)) m h in limited_small (x * k) m hy
size_small types p (tag i) m w h = finished_small p (layout_at types i) m (laid_at types i w) h
size_small types p (function f) m w h = absurd (not_ok _ _ h)

in_range : (m : ℕ) → m ≤ 65535 → InRange UInt (pos m)
in_range m h = record { low = omega (arith, ints); high = omega (arith, ints, h) }

pub size_typed : (u : UnitTy) (p : Pos) (t : Ty) (r : Typed) → IsTable u.types → size_of_type u.types p t ≡ Ok r → IsTyped u r
size_typed u p t r w h =
    let (m, hm, g) = bind_ok (size_at u.types p t) (λ m. Ok (node (plain (int UInt)) (n.constant (pos m)))) r h in
    subst (IsTyped u) (ok_is _ _ g) (UInt, refl, in_range m (size_small u.types p t m w hm))

pub size_expr_typed : (u : UnitTy) (p : Pos) (e r : Typed) → IsTable u.types → size_of_expr u.types p e ≡ Ok r → IsTyped u r
size_expr_typed u p e r w h = tested (is_bit_field u.types e) refl
  where
    tested : (b : Bool) → is_bit_field u.types e ≡ b → IsTyped u r
    tested true x = absurd (not_ok _ _ (rw x at h))
    tested false x = size_typed u p (type_in (type_of e)) r w (rw x at h)
