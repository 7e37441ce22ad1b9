-- The bytes that a row opens may be reached.
use Rattle.std.proofs.Common.{◌≡◌, ℕ, zero, suc, ◌+◌, ◌<◌, ◌≤◌, List, All, refl, subst, arith}
use Rattle.std.specs.Prelude.{min, max}
use Rattle.std.proofs.lemmas.List.Elements.{All-head, All-tail}
use Rattle.c65_code.specs.LineState.{State, sp_of}
use Rattle.c65_code.specs.Placement.{Placement}
use Rattle.c65_code.specs.Texts.{range_of}
use Rattle.c65_code.specs.Rows.{Row}
use Rattle.c65_code.specs.Steady.{IsOpen}
use Rattle.c65_code.specs.RawMachine.{RawSetting, Bounds, IsReachable, MayRun, reach_of, LieLow}
use Rattle.c65_rtl.proofs.Meeting.{reached, below_end}

-- so many bytes from an address on may be reached, and lie below the end of the software stack
pub record OpenBytes (place : Placement) (bounds : Bounds) (count at : ℕ) : Type 0 where
  pub first : 0 < count → IsReachable place bounds at
  pub reach : (k : ℕ) → k < count → IsReachable place bounds (at + k)
  pub below : (k : ℕ) → k < count → at + k < 65520

all_of_range : (P : ℕ → Type 0) (count at : ℕ) → All P (range_of count at) → (k : ℕ) → k < count → P (at + k)
all_of_range P zero at h k few = absurd (omega arith)
all_of_range P (suc count) at h zero few = let e : at ≡ at + 0 = omega arith in subst P e (All-head P at (range_of count (at + 1)) h)
all_of_range P (suc count) at h (suc k) few =
    let e : at + 1 + k ≡ at + suc k = omega arith in
    subst P e (all_of_range P count (at + 1) (All-tail P at (range_of count (at + 1)) h) k (omega arith))

opened : (place : Placement) (bounds : Bounds) (bound count at : ℕ) → LieLow place → bounds.soft ≤ bound → All (IsOpen place bound) (range_of count at) → OpenBytes place bounds count at
opened place bounds bound count at low within all = record {
  first = λ some. let e : at ≡ at + 0 = omega arith in reached place bounds bound at (at + 0) e within (all_of_range (IsOpen place bound) count at all 0 some);
  reach = λ k few. reached place bounds bound (at + k) (at + k) refl within (all_of_range (IsOpen place bound) count at all k few);
  below = λ k few. below_end place bound (at + k) low (all_of_range (IsOpen place bound) count at all k few);
}

-- the addresses that a row counts from sp
pub opens_near : (s : RawSetting) (row : Row) (count at : ℕ) (t : State) → sp_of t ≤ row.sp + 64 → row.near ≡ range_of count at → MayRun s row t → OpenBytes s.place (reach_of t) count at
opens_near s row count at t close near may =
    let soft = may.room.soft in
    let within : (reach_of t).soft ≤ min (sp_of t) row.sp = omega arith in
    opened s.place (reach_of t) (min (sp_of t) row.sp) count at may.data_low within (subst (λ (bs : List ℕ). All (IsOpen s.place (min (sp_of t) row.sp)) bs) near may.room.near)

-- those that it takes from elsewhere
pub opens_far : (s : RawSetting) (row : Row) (count at : ℕ) (t : State) → row.far ≡ range_of count at → MayRun s row t → OpenBytes s.place (reach_of t) count at
opens_far s row count at t far may =
    let within : (reach_of t).soft ≤ max (sp_of t) row.sp = omega arith in
    opened s.place (reach_of t) (max (sp_of t) row.sp) count at may.data_low within (subst (λ (bs : List ℕ). All (IsOpen s.place (max (sp_of t) row.sp)) bs) far may.room.far)
