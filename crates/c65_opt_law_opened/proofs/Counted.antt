-- memcpy and memset of a few bytes.
use Rattle.std.proofs.Common.{◌≡◌, ℕ, zero, suc, ◌+◌, ◌-◌, ◌*◌, ◌<◌, ◌≤◌, ◌==◌, ◌&&◌, inl, inr, Bool, true, false, if◌then◌else◌, List, [], ◌∷◌, ◌++◌, All, min, max, Option, Some, None, refl, sym, subst, ap, ◌∙◌, arith}
use Rattle.std.specs.Prelude.{nat_le}
use Rattle.std.proofs.lemmas.Bool.{eqb-true, leb-true}
use Rattle.std.proofs.lemmas.List.{append-nil}
use Rattle.std.proofs.lemmas.List.Elements.{All-nil, All-cons, All-head, All-tail}
use Rattle.c65_base.specs.declared.library.Library.TheVariants.{Memcpy}
use Rattle.c65_mach.specs.State.{Regs}
use Rattle.c65_mach.specs.Step.{with_y}
use Rattle.c65_mach.specs.declared.rows.Op.TheVariants as ops
use Rattle.c65_code.specs.declared.line.Line.{Line}
use Rattle.c65_code.specs.declared.line.Operand.{Operand}
use Rattle.c65_code.specs.declared.line.Operand.TheVariants.{Byte}
use Rattle.c65_code.specs.declared.parts.Part.TheVariants as parts
use Rattle.c65_code.specs.declared.routine.Routine.TheVariants as routines
use Rattle.c65_code.specs.Effects.{large, sp_bytes, routine_sets}
use Rattle.c65_code.specs.LineState.{Bytes, word_at, State, sp_of, IsBytes}
use Rattle.c65_code.specs.Moves.{MeetsRow}
use Rattle.c65_code.specs.Parts.{union_of}
use Rattle.c65_code.specs.Placement.{Setting, stack_start, stack_end}
use Rattle.c65_code.specs.Rows.{written, row_of}
use Rattle.c65_code.specs.Steady.{IsCalm, IsOpen, RowHasRoom}
use Rattle.c65_code.specs.Texts.{range_of, copied}
use Rattle.c65_code.specs.Weights.{row_cost}
use Rattle.c65_pass.specs.KnownCalls as rules
use Rattle.c65_pass.specs.KnownCalls.{count_loaded, with_value, on_zero, once_and, byte_copied, byte_filled, given_back}
use Rattle.c65_pass.specs.StackRules.{call_of, word_loaded}
use Rattle.c65_opt_law_near.specs.Laws.{IsLow}
use Rattle.c65_opt_law_opened.specs.Texts.{KnownStands}
use Rattle.c65_opt_law_opened.proofs.AtSp.{with_regs}
use Rattle.c65_opt_law_opened.proofs.Chains.{weight, weight_is, leads_often}
use Rattle.c65_opt_law_opened.proofs.Known.{AreLoads, word_loads, IsCalled, served}
use Rattle.c65_opt_law_opened.proofs.Leads.{Leads, leads_on, number}
use Rattle.c65_opt_law_opened.proofs.Moved.{IsReady, IsSaid, open_said, target_ready, given_leads}
use Rattle.c65_opt_law_opened.proofs.Moving.{IsTarget, IsSource, Going, copy_once, copy_more}
use Rattle.c65_opt_law_opened.proofs.Popped.{left_out, IsUsed, open_at, open_below, IsPopped, popped_calm, leads_call}
use Rattle.c65_opt_law_opened.proofs.Writes.{after_writes, from_there, always, copied_is}

-- ---- a number that is loaded

pub record IsCounted (word : Option (Operand × Operand)) (n : ℕ) : Type 0 where
  pub shown : word ≡ Some (Byte 0, Byte n)
  pub some : 1 ≤ n
  pub few : n ≤ 8

pub counted : (word : Option (Operand × Operand)) (n : ℕ) → count_loaded word ≡ Some n → IsCounted word n
counted (Some (Byte h, Byte l)) n e = pick (h == 0) (nat_le 1 l) (nat_le l 8) refl refl refl e
  where
    pick : (b c d : Bool) → (h == 0) ≡ b → nat_le 1 l ≡ c → nat_le l 8 ≡ d → (if b && (c && d) then Some l else None) ≡ Some n → IsCounted (Some (Byte h, Byte l)) n
    pick false c d i j k e = absurd cc
    pick true false d i j k e = absurd cc
    pick true true false i j k e = absurd cc
    pick true true true i j k e =
        let same : l ≡ n = cc in
        let none : h ≡ 0 = eqb-true h 0 i in
        let some : 1 ≤ l = leb-true 1 l j in
        let few : l ≤ 8 = leb-true l 8 k in
        record { shown = ap (λ (x : ℕ). Some (Byte x, Byte l)) none ∙ ap (λ (x : ℕ). Some (Byte 0, Byte x)) same; some = omega (arith, some, same); few = omega (arith, few, same) }
counted _ n e = absurd cc

-- ---- ranges

pub range_has : (P : ℕ → Type 0) (n at : ℕ) → All P (range_of n at) → (k : ℕ) → k < n → P (at + k)
range_has P zero at all k less = absurd (omega (arith, less))
range_has P (suc n) at all zero less = let same : at ≡ at + 0 = omega arith in subst P same (All-head P at (range_of n (at + 1)) all)
range_has P (suc n) at all (suc k) less = let same : at + 1 + k ≡ at + suc k = omega arith in subst P same (range_has P n (at + 1) (All-tail P at (range_of n (at + 1)) all) k (omega (arith, less)))

pub all_both : (P : ℕ → Type 0) (xs ys : List ℕ) → All P (xs ++ ys) → All P xs × All P ys
all_both P [] ys all = (All-nil P, all)
all_both P (x ∷ xs) ys all = let rest = all_both P xs ys (All-tail P x (xs ++ ys) all) in (All-cons P x xs (All-head P x (xs ++ ys) all) rest.0, rest.1)

-- ---- behind popptrs

module _ (s : Setting) (low : IsLow s.place) (t : State) (calm : IsCalm s t) (soft : stack_start + 64 ≤ sp_of t) (m : State) (met : MeetsRow (row_of routines.PopPtrs t) t m) (bytes : IsBytes m) where
  pub pointers_popped : IsPopped t m 4
  pointers_popped = record { sp = met.sp; mem = mem; pushed = met.pushed; frames = met.frames }
    where
      mem : (b : ℕ) → IsUsed t b → m.mem b ≡ t.mem b
      mem b (inl h) = met.mem b (inl (omega (arith, h, soft)))
      mem b (inr h) = met.mem b (inr (inl h))

  pub pointers_ready : (regs : Regs) → IsBytes (with_regs m regs) → IsReady t (with_regs m regs) 4 (word_at t.mem (sp_of t + 2))
  pointers_ready regs all = record {
    sp = met.sp;
    at = met.pointers.1;
    kept = λ i out. met.kept (parts.Zp i) (left_out (routine_sets routines.PopPtrs) (union_of large sp_bytes) (parts.Zp i) refl out);
    high = met.high;
    mem = met.mem;
    pushed = met.pushed;
    frames = met.frames;
    input = met.input;
    output = met.output ∙ append-nil t.output;
    ended = met.ended;
    bytes = all;
  }

-- registers that are bytes
pub regs_bytes : (m : State) (regs : Regs) → IsBytes m → regs.a < 256 → regs.x < 256 → regs.y < 256 → IsBytes (with_regs m regs)
regs_bytes m regs b a x y = record { a = a; x = x; y = y; zp = b.zp; mem = b.mem; pushed = b.pushed; frames = b.frames }

-- ---- memcpy

module _ (s : Setting) (low : IsLow s.place) (t : State) (regs : Regs) (c : IsCalled s Memcpy t (with_regs t regs)) (k : ℕ) (is : regs.a + 256 * regs.x ≡ suc k) (few : suc k ≤ 8) where
  abbrev from : ℕ
  from = word_at t.mem (sp_of t)

  abbrev to : ℕ
  to = word_at t.mem (sp_of t + 2)

  abbrev P : State → Type 0
  P = MeetsRow (row_of (routines.Library Memcpy) (with_regs t regs)) (with_regs t regs)

  ends : All (IsOpen s.place (max (sp_of t) (sp_of t + 4))) (range_of (suc k) from) × All (IsOpen s.place (max (sp_of t) (sp_of t + 4))) (range_of (suc k) to)
  ends = all_both (IsOpen s.place (max (sp_of t) (sp_of t + 4))) (range_of (suc k) from) (range_of (suc k) to)
      (subst (λ (n : ℕ). All (IsOpen s.place (max (sp_of t) (sp_of t + 4))) (range_of n from ++ range_of n to)) is c.room.far)

  source_free : (j : ℕ) → j < suc k → IsOpen s.place (max (sp_of t) (sp_of t + 4)) (from + j)
  source_free j less = range_has (IsOpen s.place (max (sp_of t) (sp_of t + 4))) (suc k) from ends.0 j less

  target_free : (j : ℕ) → j < suc k → IsOpen s.place (max (sp_of t) (sp_of t + 4)) (to + j)
  target_free j less = range_has (IsOpen s.place (max (sp_of t) (sp_of t + 4))) (suc k) to ends.1 j less

  writes_are : written t.mem (copied (regs.a + 256 * regs.x) to from t.mem) ≡ after_writes to (from_there from) t.mem (suc k)
  writes_are = copied_is (regs.a + 256 * regs.x) to from t.mem ∙ ap (after_writes to (from_there from) t.mem) is

  alike : (x y : Bytes) (j : ℕ) → j < suc k → ((b : ℕ) → IsSaid t b → x b ≡ y b) → x (from + j) ≡ y (from + j)
  alike x y j less same = same (from + j) (open_said s t 4 (from + j) low c.room.soft (source_free j less))

  module _ (m : State) (met : MeetsRow (row_of routines.PopPtrs t) t m) (bytes : IsBytes m) where
    abbrev u : State
    u = with_regs m (with_y 0 m.regs)

    ready : IsReady t u 4 to
    ready = pointers_ready s low t c.calm c.room.soft m met bytes (with_y 0 m.regs) (regs_bytes m (with_y 0 m.regs) bytes bytes.a bytes.x (omega arith))

    target : IsTarget s u to (suc k) (from_there from)
    target = target_ready s low Memcpy refl t regs 4 to (suc k) (from_there from) (copied (regs.a + 256 * regs.x) to from t.mem) (range_of (regs.a + 256 * regs.x) from ++ range_of (regs.a + 256 * regs.x) to) refl writes_are alike (λ x j h. h (from + j)) c u ready c.room.soft few target_free

    source : IsSource s u from (suc k)
    source = record {
      at = met.pointers.0;
      free = λ j less. open_at s.place t 4 (sp_of u) (from + j) low (sym ready.sp) (source_free j less);
      low = λ j less. let below : from + j < stack_end = open_below s.place (max (sp_of t) (sp_of t + 4)) (from + j) low (source_free j less) in omega (arith, below);
    }

    copy_leads : IsCalm s u → Leads s P (once_and byte_copied k ++ given_back) (weight s P byte_copied (λ j v. Going u to (from_there from) j (suc j) v) k 2) u
    copy_leads calm = leads_often s P byte_copied (λ j v. Going u to (from_there from) j (suc j) v) k given_back 2 u calm
        (copy_once s u to from (suc k) target source 0 u (omega arith) (record { y = refl; x = refl; zp = refl; mem = refl; pushed = refl; frames = refl; input = refl; output = refl; ended = refl }))
        (λ j v less g. copy_more s u to from (suc k) target source j v (omega (arith, less)) g)
        (λ v g d. given_leads s low Memcpy refl t regs 4 to (suc k) (from_there from) (copied (regs.a + 256 * regs.x) to from t.mem) (range_of (regs.a + 256 * regs.x) from ++ range_of (regs.a + 256 * regs.x) to) refl writes_are alike (λ x j h. h (from + j)) c u ready c.room.soft k v refl g d)

  -- the sp does not rise above the software stack
  top : sp_of t + 4 ≤ stack_end
  top = let last : sp_of t + 1 + 1 + 1 < stack_end = open_below s.place (min (sp_of t) (sp_of t + 4)) (sp_of t + 1 + 1 + 1) low (c.room.near 3 0 (omega arith)) in omega (arith, last)

  pops : RowHasRoom s.place (row_of routines.PopPtrs t) t
  pops = record { ready = refl; soft = c.room.soft; hard = c.room.hard; near = c.room.near; far = All-nil (IsOpen s.place (max (sp_of t) (sp_of t + 4))) }

  abbrev copying_weight : ℕ
  copying_weight = weight s P byte_copied (λ j v. Going (with_regs t regs) 0 (always 0) j (suc j) v) k 2

  memcpy_leads : (n : ℕ) × Leads s P (call_of routines.PopPtrs ∷ with_value ops.Ldy 0 ∷ (once_and byte_copied k ++ given_back)) n t × (n ≤ row_cost (row_of (routines.Library Memcpy) (with_regs t regs)))
  memcpy_leads = (
    32 + (1 + copying_weight),
    leads_call s low P routines.PopPtrs (with_value ops.Ldy 0 ∷ (once_and byte_copied k ++ given_back)) (1 + copying_weight) t tt c.calm pops (λ m met bytes.
        leads_on s P (with_value ops.Ldy 0 ∷ []) (once_and byte_copied k ++ given_back) copying_weight m (number s ops.Ldy 0 m, tt) (popped_calm s low t m 4 c.calm (pointers_popped s low t c.calm c.room.soft m met bytes) top bytes) (λ calm. copy_leads m met bytes calm)),
    enough,
  )
    where
      enough : 32 + (1 + copying_weight) ≤ row_cost (row_of (routines.Library Memcpy) (with_regs t regs))
      enough = let sum = weight_is s P byte_copied (λ j v. Going (with_regs t regs) 0 (always 0) j (suc j) v) k 2 in omega (arith, sum, few)

record AreCopied (o : Option ℕ) (lines : List Line) : Type 0 where
  count : ℕ
  known : o ≡ Some count
  same : call_of routines.PopPtrs ∷ with_value ops.Ldy 0 ∷ (rules.times byte_copied count ++ given_back) ≡ lines

copied_by : (o : Option ℕ) (lines : List Line) → rules.copied o ≡ Some lines → AreCopied o lines
copied_by None lines e = absurd cc
copied_by (Some n) lines e = record { count = n; known = refl; same = cc }

-- a number above 0
pub above : (n : ℕ) → 1 ≤ n → n ≡ suc (n - 1)
above n some = omega (arith, some)

pub memcpy_stands : KnownStands Memcpy
memcpy_stands s literals low texts one other lines e to after =
    let made : AreCopied (count_loaded (word_loaded one other)) lines = copied_by (count_loaded (word_loaded one other)) lines e in
    let n : ℕ = made.count in
    let word : IsCounted (word_loaded one other) n = counted (word_loaded one other) n made.known in
    let loads : AreLoads s one other n 0 = word_loads s one other (Byte 0, Byte n) word.shown (omega (arith, word.few)) (omega arith) in
    let last : n ≡ suc (n - 1) = above n word.some in
    let lines_are : call_of routines.PopPtrs ∷ with_value ops.Ldy 0 ∷ (rules.times byte_copied (suc (n - 1)) ++ given_back) ≡ lines =
    subst (λ (x : ℕ). call_of routines.PopPtrs ∷ with_value ops.Ldy 0 ∷ (rules.times byte_copied x ++ given_back) ≡ lines) last made.same in
    served s Memcpy tt one other n 0 loads to after lines (λ t c.
    let regs : Regs = loads.second (loads.first t.regs) in
    let count : regs.a + 256 * regs.x ≡ suc (n - 1) = omega (arith, loads.low t.regs, loads.high t.regs, last) in
    let done = memcpy_leads s low t regs c (n - 1) count (omega (arith, last, word.few)) in
    (done.0, subst (λ (ls : List Line). Leads s (MeetsRow (row_of (routines.Library Memcpy) (with_regs t regs)) (with_regs t regs)) ls done.0 t) lines_are done.1, done.2))
