-- Quiet rows, and routines under what is followed.
use Rattle.std.proofs.Common.{◌≡◌, ℕ, zero, suc, ◌+◌, ◌*◌, ◌<◌, ◌≤◌, ◌⊎◌, inl, inr, List, [], ◌∷◌, ◌++◌, Bool, true, false, Some, None, refl, sym, ap, ◌∙◌, subst, arith}
use Rattle.std.specs.Prelude.{drop, length, All, ◌||◌, slice_get}
use Rattle.std.proofs.lemmas.Bool.Decides.{nat_tests}
use Rattle.std.proofs.lemmas.List.Elements.{All-nil, All-cons}
use Rattle.c65_code.specs.declared.parts.Part.TheVariants.{Zp}
use Rattle.c65_code.specs.declared.parts.RegSet.{RegSet}
use Rattle.c65_code.specs.declared.routine.Routine.{Routine}
use Rattle.c65_code.specs.Parts.{has_part}
use Rattle.c65_code.specs.LineState.{Place as Spot, Bytes, write, State, sp_of, IsBytes}
use Rattle.c65_code.specs.Forms.{Run}
use Rattle.c65_code.specs.Rows.{Row, Meets, written, row_of}
use Rattle.c65_code.specs.Moves.{MeetsRow}
use Rattle.c65_code.specs.Steady.{IsCalm, HasRoom}
use Rattle.c65_code.specs.Texts.{range_of, listed}
use Rattle.c65_code.specs.Weights.{row_cost}
use Rattle.c65_code.specs.Comes.{Seen, here}
use Rattle.c65_genwide.specs.Lines.{call}
use Rattle.c65_meaning.specs.Why.{Why}
use Rattle.c65_meaning.specs.Sem.{IsDefined, outcome_of}
use Rattle.c65_meaning.specs.State.{Undefined, Ended}
use Rattle.c65_meaning.specs.Step.{steps}
use Rattle.c65_agree_step.specs.Ways.{IsAtLine}
use Rattle.c65_agree_step.proofs.Ways.{weaken, routines_go}
use Rattle.c65_agree_state.specs.World.{World, program_in, setting_in, total_in}
use Rattle.c65_agree_state.specs.Follows.{Agrees, Follows}
use Rattle.c65_agree_state.specs.Laws.{OnlyScratch}
use Rattle.c65_agree_state.proofs.Followed.{ready_is_calm}
use Rattle.c65_agree_rows.specs.Rows.{IsSilent, IsQuiet, WriteBelow, AreAt}
use Rattle.c65_agree_rows.specs.Laws.{QuietRowsScratch, RoutinesAreFollowed, Runs}

pub append_nothing : (xs : List ℕ) → xs ++ [] ≡ xs
append_nothing [] = refl
append_nothing (x ∷ xs) = ap (λ ys. x ∷ ys) (append_nothing xs)

-- ---- what is written

pub write_other : (m : Bytes) (at v n : ℕ) → (n ≡ at → ⊥) → write m at v n ≡ m n
write_other m at v n h = grind (arith, nat_tests)

pub write_same : (m : Bytes) (at v : ℕ) → write m at v at ≡ v
write_same m at v = grind (arith, nat_tests)

pub written_other : (m : Bytes) (ws : List (ℕ × ℕ)) (bound n : ℕ) → WriteBelow bound ws → (n < 63472) ⊎ (bound ≤ n) → written m ws n ≡ m n
written_other m [] bound n h side = refl
written_other m (w ∷ ws) bound n h side = written_other (write m w.0 w.1) ws bound n h.2 side ∙ write_other m w.0 w.1 n (apart side)
  where
    apart : (n < 63472) ⊎ (bound ≤ n) → n ≡ w.0 → ⊥
    apart (inl lt) e = omega (arith, lt, e, h.0)
    apart (inr le) e = omega (arith, le, e, h.1)

listed_before : (m : Bytes) (vs : List ℕ) (at n : ℕ) → n < at → written m (listed vs at) n ≡ m n
listed_before m [] at n h = refl
listed_before m (v ∷ vs) at n h = listed_before (write m at v) vs (at + 1) n (omega arith) ∙ write_other m at v n (λ e. omega (arith, e, h))

-- bytes that are written one behind another stand there
pub listed_are_at : (m : Bytes) (vs : List ℕ) (at : ℕ) → AreAt (written m (listed vs at)) at vs
listed_are_at m [] at = tt
listed_are_at m (v ∷ vs) at = (listed_before (write m at v) vs (at + 1) at (omega arith) ∙ write_same m at v, listed_are_at (write m at v) vs (at + 1))

pub are_at_in : (m m2 : Bytes) (vs : List ℕ) (at : ℕ) → ((n : ℕ) → at ≤ n → m2 n ≡ m n) → AreAt m at vs → AreAt m2 at vs
are_at_in m m2 [] at same h = tt
are_at_in m m2 (v ∷ vs) at same h = (same at (omega arith) ∙ h.0, are_at_in m m2 vs (at + 1) (λ n le. same n (omega (arith, le))) h.1)

pub item_is : (m : Bytes) (vs : List ℕ) (at i v : ℕ) → AreAt m at vs → slice_get vs i ≡ Some v → m (at + i) ≡ v
item_is m [] at i v h e = cc
item_is m (x ∷ vs) at zero v h e =
    let same : x ≡ v = cc in
    let here : at + 0 ≡ at = omega arith in
    ap m here ∙ h.0 ∙ same
item_is m (x ∷ vs) at (suc i) v h e =
    let onward : at + suc i ≡ at + 1 + i = omega arith in
    ap m onward ∙ item_is m vs (at + 1) i v h.1 e

pub listed_below : (vs : List ℕ) (at bound : ℕ) → 63472 ≤ at → at + length vs ≤ bound → WriteBelow bound (listed vs at)
listed_below [] at bound low high = tt
listed_below (v ∷ vs) at bound low high = (low, omega (arith, high), listed_below vs (at + 1) bound (omega (arith, low)) (omega (arith, high)))

-- each of so many addresses
pub in_range : (P : ℕ → Type 0) (count at : ℕ) → ((i : ℕ) → i < count → P (at + i)) → All P (range_of count at)
in_range P zero at h = All-nil P
in_range P (suc count) at h =
    let first : at + 0 ≡ at = omega arith in
    All-cons P at (range_of count (at + 1)) (rw (sym first) (h 0 (omega arith))) (in_range P count (at + 1) (λ i lt. later i lt))
  where
    later : (i : ℕ) → i < count → P (at + 1 + i)
    later i lt = let e : at + 1 + i ≡ at + suc i = omega arith in rw e (h (suc i) (omega (arith, lt)))

-- ---- rows

-- whether one of so many bytes of the zero page is among the parts
abbrev has_one : ℕ → ℕ → RegSet → Bool
has_one zero at s = false
has_one (suc n) at s = has_part s (Zp at) || has_one n (suc at) s

neither : (x y : Bool) → x || y ≡ false → (x ≡ false) × (y ≡ false)
neither true y e = cc
neither false y e = (refl, e)

has_none : (n at : ℕ) (s : RegSet) → has_one n at s ≡ false → (i : ℕ) → i < n → has_part s (Zp (at + i)) ≡ false
has_none zero at s e i lt = absurd (omega arith)
has_none (suc n) at s e zero lt = let here : at + 0 ≡ at = omega arith in rw here (neither (has_part s (Zp at)) (has_one n (suc at) s) e).0
has_none (suc n) at s e (suc i) lt =
    let onward : at + suc i ≡ suc at + i = omega arith in
    rw onward (has_none n (suc at) s (neither (has_part s (Zp at)) (has_one n (suc at) s) e).1 i (omega (arith, lt)))

-- a row that takes, writes and ends nothing, of a routine that leaves the six bytes of regbank
pub silent_row : (row : Row) → row.taken ≡ 0 → row.out ≡ [] → row.ends ≡ None → has_one 6 20 row.changes ≡ false → IsSilent row
silent_row row taken out ends none = record { taken = taken; out = out; ends = ends; bank = has_none 6 20 row.changes none }

-- with 64 bytes of room
pub quiet_row : (row : Row) → row.taken ≡ 0 → row.out ≡ [] → row.ends ≡ None → row.room ≡ 64 → has_one 6 20 row.changes ≡ false → IsQuiet row
quiet_row row taken out ends room none = record { silent = silent_row row taken out ends none; room = omega (arith, room) }

-- a routine by its row
pub runs_by : (g : World) (r : Routine) (t : State) (row : Row) (Behind : State → Type 0) → row_of r t ≡ Some row → HasRoom g.place row t → ((u : State) → Meets row t u → IsBytes u → Behind u) → Runs g r t Behind
runs_by g r t row Behind is access behind = record { room = rw is access; behind = λ u meets b. behind u (subst (λ o. MeetsRow o t u) is meets) b }

-- ---- the laws

-- where its room lies in the software stack
pub silent_rows_scratch : (base : ℕ) (row : Row) (t u : State) → IsSilent row → WriteBelow base row.writes → Meets row t u → IsBytes u → t.ended ≡ None → 63472 + row.room ≤ sp_of t → sp_of t ≤ base → OnlyScratch base t u
silent_rows_scratch base row t u q below meets bytes running room le = record {
  mem = λ n h. meets.mem n (side n h) ∙ written_other t.mem row.writes base n below h;
  bank = λ i lt. meets.kept (Zp (20 + i)) (q.bank i lt);
  pushed = meets.pushed;
  frames = meets.frames;
  input = meets.input ∙ ap (λ n. drop n t.input) q.taken;
  output = meets.output ∙ ap (λ xs. t.output ++ xs) q.out ∙ append_nothing t.output;
  ended = meets.ended ∙ q.ends ∙ sym running;
  bytes = bytes;
}
  where
    side : (n : ℕ) → (n < 63472) ⊎ (base ≤ n) → (n + row.room < sp_of t) ⊎ ((sp_of t ≤ n) ⊎ (row.settled ≤ n))
    side n (inl h) = inl (omega (arith, h, room))
    side n (inr h) = inr (inl (omega (arith, h, le)))

pub quiet_rows_scratch : QuietRowsScratch
quiet_rows_scratch base row t u q below meets bytes running room le = silent_rows_scratch base row t u q.silent below meets bytes running (omega (arith, room, q.room)) le

pub routines_are_followed : RoutinesAreFollowed
routines_are_followed g a pushed needs c w k t n v p m seen r ready there room behind d =
    let q = Agrees g (steps (program_in g) n m) in
    let at : IsAtLine (setting_in g) a.symbol p t (Run r) = record { line = call r; there = there; formed = refl; calm = (ready_is_calm g a pushed needs c w k t ready).calm; within = room; running = ready.joins.ended } in
    weaken (setting_in g) q (4000 * n + (row_cost (row_of r t) + v)) (omega arith) (routines_go q (setting_in g) (4000 * n + v) a.symbol p t seen r at (λ u meets bytes. behind u meets bytes d))

-- ---- undefined actions

-- an undefined action stays
undefined_stays : (g : World) (why : Why) (n : ℕ) → steps (program_in g) n (Undefined why) ≡ Undefined why
undefined_stays g why zero = refl
undefined_stays g why (suc n) = undefined_stays g why n

pub nothing_follows : (g : World) (why : Why) (n v : ℕ) (q : Spot) (t : State) (seen : Seen) → Follows g n v (Undefined why) q t seen
nothing_follows g why n v q t seen d = absurd (subst (λ m. IsDefined (outcome_of m)) (undefined_stays g why n) d.1)

-- ---- the end

-- an end stays
ended_stays : (g : World) (n : ℕ) (out : List ℕ) (status turns : ℕ) → steps (program_in g) n (Ended out status turns) ≡ Ended out status turns
ended_stays g zero out status turns = refl
ended_stays g (suc n) out status turns = ended_stays g n out status turns

pub ends_there : (g : World) (n v : ℕ) (out : List ℕ) (status turns : ℕ) (q : Spot) (u : State) (seen : Seen) → u.output ≡ out → u.ended ≡ Some status → turns ≤ total_in g seen → IsCalm (setting_in g) u → Follows g n v (Ended out status turns) q u seen
ends_there g n v out status turns q u seen text end few calm d = here (subst (λ m. Agrees g m q u seen) (sym (ended_stays g n out status turns)) (text, end, few)) calm
