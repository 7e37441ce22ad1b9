-- A number that is told to fit passes the test of its range.
use Rattle.std.proofs.Common.{◌≡◌, ℤ, pos, negsuc, Bool, true, false, Option, Some, None, refl, ap, arith, ltb-true, ltb-false, w32, w64, FitsSigned}
use Rattle.std.specs.Prelude.{◌^◌, SomeIff, OkIff, Result, Ok, Err, if◌then◌else◌}
use Rattle.std.specs.Result.{result_ok}
use Rattle.c65_init_cells.specs.Addresses.{within_32, within_64, held}

tested : (b : Bool) (r : Option ℤ) (z : ℤ) → within_64 z ≡ b → SomeIff r (FitsSigned w64 z) z → r ≡ (if b then Some z else None)
tested true None (pos n) e h = absurd (h record { sfits = ltb-true n (2 ^ 63) e })
tested true None (negsuc n) e h = absurd (h record { sfits = ltb-true n (2 ^ 63) e })
tested true (Some x) z e h = ap Some h.1
tested false None z e h = refl
tested false (Some x) (pos n) e h = absurd (omega (arith, ltb-false n (2 ^ 63) e, h.0.sfits))
tested false (Some x) (negsuc n) e h = absurd (omega (arith, ltb-false n (2 ^ 63) e, h.0.sfits))

pub held_is : (r : Option ℤ) (z : ℤ) → SomeIff r (FitsSigned w64 z) z → r ≡ held z
held_is r z h = tested (within_64 z) r z refl h

narrow : {E : Type 0} (b : Bool) (r : Result ℤ E) (z : ℤ) → within_32 z ≡ b → OkIff r (FitsSigned w32 z) z → result_ok r ≡ (if b then Some z else None)
narrow true (Err x) (pos n) e h = absurd (h record { sfits = ltb-true n (2 ^ 31) e })
narrow true (Err x) (negsuc n) e h = absurd (h record { sfits = ltb-true n (2 ^ 31) e })
narrow true (Ok x) z e h = ap Some h.1
narrow false (Err x) z e h = refl
narrow false (Ok x) (pos n) e h = absurd (omega (arith, ltb-false n (2 ^ 31) e, h.0.sfits))
narrow false (Ok x) (negsuc n) e h = absurd (omega (arith, ltb-false n (2 ^ 31) e, h.0.sfits))

pub narrow_is : {E : Type 0} (r : Result ℤ E) (z : ℤ) → OkIff r (FitsSigned w32 z) z → result_ok r ≡ (if within_32 z then Some z else None)
narrow_is r z h = narrow (within_32 z) r z refl h
