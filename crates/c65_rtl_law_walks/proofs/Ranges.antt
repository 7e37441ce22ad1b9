-- The addresses that a row takes from elsewhere, where they are of two ranges.
use Rattle.std.proofs.Common.{◌≡◌, ◌≢◌, ℕ, zero, suc, ◌+◌, ◌<◌, ◌≤◌, inl, inr, List, [], ◌∷◌, ◌++◌, All, length, refl, ap, subst, arith}
use Rattle.std.specs.Prelude.{max}
use Rattle.std.proofs.lemmas.List.{length-append}
use Rattle.std.proofs.lemmas.List.Elements.{All-nil, All-cons, All-head, All-tail}
use Rattle.c65_code.specs.LineState.{State, sp_of}
use Rattle.c65_code.specs.Texts.{range_of}
use Rattle.c65_code.specs.Rows.{Row}
use Rattle.c65_code.specs.Steady.{IsOpen}
use Rattle.c65_code.specs.RawMachine.{RawSetting, MayRun, reach_of}
use Rattle.c65_rtl.proofs.Opens.{OpenBytes, opens_far}

pub range_length : (count at : ℕ) → length (range_of count at) ≡ count
range_length zero at = refl
range_length (suc count) at = ap suc (range_length count (at + 1))

pub ranges_length : (count at more from : ℕ) → length (range_of count at ++ range_of more from) ≡ count + more
ranges_length count at more from =
    let first = range_length count at in
    let second = range_length more from in
    let all = length-append (range_of count at) (range_of more from) in
    omega arith

pub all_in_range : (P : ℕ → Type 0) (count at : ℕ) → All P (range_of count at) → (k : ℕ) → k < count → P (at + k)
all_in_range P zero at h k few = absurd (omega arith)
all_in_range P (suc count) at h zero few = let e : at ≡ at + 0 = omega arith in subst P e (All-head P at (range_of count (at + 1)) h)
all_in_range P (suc count) at h (suc k) few =
    let e : at + 1 + k ≡ at + suc k = omega arith in
    subst P e (all_in_range P count (at + 1) (All-tail P at (range_of count (at + 1)) h) k (omega arith))

both_all : (P : ℕ → Type 0) (xs ys : List ℕ) → All P (xs ++ ys) → All P xs × All P ys
both_all P [] ys h = (All-nil P, h)
both_all P (x ∷ xs) ys h =
    let rest = both_all P xs ys (All-tail P x (xs ++ ys) h) in
    (All-cons P x xs (All-head P x (xs ++ ys) h) rest.0, rest.1)

-- a row that takes fewer
abbrev with_far : Row → List ℕ → Row
with_far row far = record row { far = far }

fewer : (s : RawSetting) (row : Row) (far : List ℕ) (t : State) → MayRun s row t → All (IsOpen s.place (max (sp_of t) row.sp)) far → MayRun s (with_far row far) t
fewer s row far t may all = record {
  room = record { ready = may.room.ready; soft = may.room.soft; hard = may.room.hard; near = may.room.near; far = all };
  high = may.high;
  bytes = may.bytes;
  running = may.running;
  data_low = may.data_low;
}

-- Both ranges may be reached, and no byte of the second is one that the row takes off the software stack.
pub record OpenRanges (s : RawSetting) (row : Row) (t : State) (count at more from : ℕ) : Type 0 where
  pub first : OpenBytes s.place (reach_of t) count at
  pub second : OpenBytes s.place (reach_of t) more from
  pub away : (k : ℕ) → k < more → (b : ℕ) → sp_of t ≤ b → b < row.sp → b ≢ from + k

away_from : (s : RawSetting) (row : Row) (t : State) → MayRun s row t → (a b : ℕ) → IsOpen s.place (max (sp_of t) row.sp) a → sp_of t ≤ b → b < row.sp → b ≢ a
away_from s row t may a b (inl data_of) low high =
    let under = may.data_low a data_of in
    let under_end = under.1 in
    let soft = may.room.soft in
    λ e. absurd (omega arith)
away_from s row t may a b (inr within) low high =
    let above = within.0 in
    λ e. absurd (omega arith)

pub opens_both : (s : RawSetting) (row : Row) (count at more from : ℕ) (t : State) → row.far ≡ range_of count at ++ range_of more from → MayRun s row t → OpenRanges s row t count at more from
opens_both s row count at more from t far may =
    let parts = both_all (IsOpen s.place (max (sp_of t) row.sp)) (range_of count at) (range_of more from) (subst (λ (bs : List ℕ). All (IsOpen s.place (max (sp_of t) row.sp)) bs) far may.room.far) in
    record {
      first = opens_far s (with_far row (range_of count at)) count at t refl (fewer s row (range_of count at) t may parts.0);
      second = opens_far s (with_far row (range_of more from)) more from t refl (fewer s row (range_of more from) t may parts.1);
      away = λ k few b low high. away_from s row t may (from + k) b (all_in_range (IsOpen s.place (max (sp_of t) row.sp)) more from parts.1 k few) low high;
    }

-- The same of one range.
pub record OpenRange (s : RawSetting) (row : Row) (t : State) (count at : ℕ) : Type 0 where
  pub bytes : OpenBytes s.place (reach_of t) count at
  pub away : (k : ℕ) → k < count → (b : ℕ) → sp_of t ≤ b → b < row.sp → b ≢ at + k

pub opens_one : (s : RawSetting) (row : Row) (count at : ℕ) (t : State) → row.far ≡ range_of count at → MayRun s row t → OpenRange s row t count at
opens_one s row count at t far may =
    let all = subst (λ (bs : List ℕ). All (IsOpen s.place (max (sp_of t) row.sp)) bs) far may.room.far in
    record {
      bytes = opens_far s row count at t far may;
      away = λ k few b low high. away_from s row t may (at + k) b (all_in_range (IsOpen s.place (max (sp_of t) row.sp)) count at all k few) low high;
    }
