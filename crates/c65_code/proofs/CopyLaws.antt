-- What an ascending copy within one text does, and that states on the raw machine are of bytes.
use Rattle.std.proofs.Common.{◌≡◌, ℕ, zero, suc, ◌+◌, ◌<◌, ◌==◌, Bool, true, false, Option, Some, if◌then◌else◌, refl, sym, ap, ◌∙◌, subst, arith}
use Rattle.c65_base.specs.declared.library.Library.TheVariants.{Strcpy}
use Rattle.c65_code.specs.declared.routine.Routine.TheVariants as routines
use Rattle.c65_code.specs.Texts.{copied, copy_within, copy_length}
use Rattle.c65_code.specs.LineState.{Bytes, write, word_at, State, sp_of, ax_of}
use Rattle.c65_code.specs.Rows.{Row, row_of}
use Rattle.c65_code.specs.LineLaws.{UpwardCopiesGoOn, RawStatesAreBytes, RoutinesLeaveBytes}

chosen : {X : Type 0} (b : Bool) (x y : X) → b ≡ false → (if b then x else y) ≡ y
chosen true x y e = absurd cc
chosen false x y e = refl

not_zero : (v : ℕ) → 0 < v → (v == 0) ≡ false
not_zero v h = grind arith

-- the next byte is the one that was just written
passed_on : (m : Bytes) (from : ℕ) → write m (from + 1) (m from) (from + 1) ≡ m from
passed_on m from = pick (from + 1 == from + 1) refl
  where
    pick : (b : Bool) → (from + 1 == from + 1) ≡ b → (if b then m from else m (from + 1)) ≡ m from
    pick true e = refl
    pick false e = grind arith

within : (fuel from : ℕ) (m : Bytes) → 0 < m from → copy_within fuel (from + 1) from m ≡ fuel
within zero from m h = refl
within (suc fuel) from m h =
    chosen (m from == 0) 0 (suc (copy_within fuel (from + 1 + 1) (from + 1) (write m (from + 1) (m from)))) (not_zero (m from) h)
    ∙ ap suc (within fuel (from + 1) (write m (from + 1) (m from)) (subst (λ (v : ℕ). 0 < v) (sym (passed_on m from)) h))

upward : (from : ℕ) (m : Bytes) → 0 < m from → copy_length (from + 1) from m ≡ 65536
unfolding copy_length
upward from m h = within 65536 from m h

same_writes : (r q : Row) → Some r ≡ Some q → r.writes ≡ q.writes
same_writes r q e = let same : r ≡ q = cc in ap (λ (row : Row). row.writes) same

pub upward_copies_go_on : UpwardCopiesGoOn
upward_copies_go_on t row count e apart some is =
    let from : ℕ = ax_of t in
    let written = same_writes _ row e in
    sym written ∙ ap (λ (to : ℕ). copied (copy_length to from t.mem + 1) to from t.mem) apart
    ∙ ap (λ (n : ℕ). copied n (from + 1) from t.mem) (ap (λ (n : ℕ). n + 1) (upward from t.mem some) ∙ sym is)

pub raw_states_are_bytes : RawStatesAreBytes
raw_states_are_bytes s l p t q u m = m.bytes

pub routines_leave_bytes : RoutinesLeaveBytes
routines_leave_bytes row back t p u done = done.2
