-- Rows from near states have all in common, but for registers that the routine leaves as they were.
use Rattle.std.proofs.Common.{◌≡◌, ℕ, zero, suc, ◌<◌, ◌≤◌, ◌+◌, ◌-◌, ◌*◌, ◌%◌, Bool, true, false, ◌||◌, if◌then◌else◌, ◌⊎◌, inl, inr, Option, Some, None, List, [], ◌∷◌, All, length, max, refl, subst, ap, ◌∙◌, arith}
use Rattle.std.specs.Prelude.{nat_lt, nat_le}
use Rattle.std.proofs.lemmas.Bool.{cases_eq, leb-true}
use Rattle.std.proofs.lemmas.List.Elements.{All-head, All-tail}
use Rattle.c65_base.specs.declared.library.Library.TheVariants.{Putchar, Getchar, Exit}
use Rattle.c65_code.specs.declared.parts.Part.{Part}
use Rattle.c65_code.specs.declared.parts.Part.TheVariants.{A, X, Y, Zp}
use Rattle.c65_code.specs.declared.parts.RegSet.{RegSet}
use Rattle.c65_code.specs.declared.routine.Count.{Count}
use Rattle.c65_code.specs.declared.routine.Count.TheVariants.{One, Two, Three, Four, Five, Six, Seven, Eight}
use Rattle.c65_code.specs.declared.routine.Width.{Width}
use Rattle.c65_code.specs.declared.routine.Width.TheVariants.{Ax, Eax}
use Rattle.c65_code.specs.declared.routine.Routine.{Routine}
use Rattle.c65_code.specs.declared.routine.Routine.TheVariants as routines
use Rattle.c65_code.specs.Effects.{primary, sp_bytes, routine_reads, routine_sets}
use Rattle.c65_code.specs.LineState.{word_at, State, sp_of, s_of, sreg_of, ax_of, zero_word, Same, IsBytes}
use Rattle.c65_code.specs.Numbers.{result_width, tos_result, unary_width, unary_result}
use Rattle.c65_code.specs.Parts.{has_part}
use Rattle.c65_code.specs.Placement.{Placement, stack_start}
use Rattle.c65_code.specs.Rows.{Row, row_by, long_at, number_at, size_of, primary_of, number_of, keeping, giving, giving_if, costing, pushing, push_row, popping, reading, needing, storing, far_reading, far_storing, store_row, low_byte, high_byte, tos_cost, tos_row, unary_row, read_row, bank_of, is_too_deep, check_row, row_of}
use Rattle.c65_code.specs.Steady.{IsOpen, RowHasRoom}
use Rattle.c65_code.specs.Texts.{bytes_at, range_of, listed}
use Rattle.c65_opt_law_near.specs.Laws.{IsLow}
use Rattle.c65_opt_law_near.specs.Near.{Near}
use Rattle.c65_opt_law_near.proofs.Sets.{in_left}
use Rattle.c65_opt_law_rows.proofs.Mixed.{IsWritten, IsLeft, IsBank, RowSame}

-- what two rows have in common, what they need and cost included
pub record RowAlike (row other : Row) (t : State) : Type 0 where
  pub same : RowSame row other t
  pub ready : row.ready ≡ other.ready
  pub close : row.near ≡ other.near
  pub far : row.far ≡ other.far
  pub cost : row.cost ≡ other.cost

abbrev pub AlikeIf : Option Row → Option Row → State → Type 0
AlikeIf (Some row) (Some other) t = RowAlike row other t
AlikeIf None None t = Unit {0}
AlikeIf _ _ t = ⊥

-- the routines that read bytes at fixed distances alone
abbrev pub IsSimple : Routine → Type 0
IsSimple routines.CopyTos = ⊥
IsSimple (routines.Library Putchar) = Unit {0}
IsSimple (routines.Library Getchar) = Unit {0}
IsSimple (routines.Library Exit) = Unit {0}
IsSimple (routines.Library f) = ⊥
IsSimple r = Unit {0}

-- the kinds of routines
abbrev IsOnStack : Routine → Type 0
IsOnStack routines.LdAxYSp = Unit {0}
IsOnStack routines.LdAx0Sp = Unit {0}
IsOnStack routines.LdEaxYSp = Unit {0}
IsOnStack routines.StAxYSp = Unit {0}
IsOnStack routines.StAx0Sp = Unit {0}
IsOnStack routines.StEaxYSp = Unit {0}
IsOnStack _ = ⊥

abbrev IsThroughPointer : Routine → Type 0
IsThroughPointer routines.LdAi = Unit {0}
IsThroughPointer routines.LdAxi = Unit {0}
IsThroughPointer routines.LdEaxi = Unit {0}
IsThroughPointer routines.StATos = Unit {0}
IsThroughPointer routines.StAxTos = Unit {0}
IsThroughPointer routines.StEaxTos = Unit {0}
IsThroughPointer _ = ⊥

abbrev IsOperator : Routine → Type 0
IsOperator (routines.Tos op width) = Unit {0}
IsOperator (routines.Unary op width) = Unit {0}
IsOperator routines.SignA = Unit {0}
IsOperator routines.LongAx = Unit {0}
IsOperator routines.ULongAx = Unit {0}
IsOperator routines.StkChk = Unit {0}
IsOperator (routines.Library Putchar) = Unit {0}
IsOperator (routines.Library Getchar) = Unit {0}
IsOperator (routines.Library Exit) = Unit {0}
IsOperator _ = ⊥

abbrev IsPushing : Routine → Type 0
IsPushing routines.PushA = Unit {0}
IsPushing routines.PushAx = Unit {0}
IsPushing routines.PushA0 = Unit {0}
IsPushing routines.Push0 = Unit {0}
IsPushing routines.PushEax = Unit {0}
IsPushing routines.SaveRegs = Unit {0}
IsPushing _ = ⊥

abbrev IsPopping : Routine → Type 0
IsPopping routines.PopA = Unit {0}
IsPopping routines.PopAx = Unit {0}
IsPopping routines.PopEax = Unit {0}
IsPopping routines.PopPtrs = Unit {0}
IsPopping routines.RestRegs = Unit {0}
IsPopping _ = ⊥

abbrev IsMovingSp : Routine → Type 0
IsMovingSp (routines.IncSp count) = Unit {0}
IsMovingSp routines.AddYSp = Unit {0}
IsMovingSp (routines.DecSp count) = Unit {0}
IsMovingSp routines.SubYSp = Unit {0}
IsMovingSp _ = ⊥

listed_written : (vs : List ℕ) (at b : ℕ) → at ≤ b → b < at + length vs → IsWritten b (listed vs at)
listed_written [] at b low high = absurd (omega arith)
listed_written (v ∷ vs) at b low high = pick (cases_eq b at) (λ more. listed_written vs (at + 1) b more (omega arith))
  where
    pick : (b ≡ at) ⊎ (b ≡ at → ⊥) → (at + 1 ≤ b → IsWritten b (listed vs (at + 1))) → IsWritten b ((at, v) ∷ listed vs (at + 1))
    pick (inl e) later = inl e
    pick (inr ne) later = inr (later (omega arith))

abbrev pub Covers : Row → State → Type 0
Covers row t = stack_start ≤ row.sp → (b : ℕ) → row.sp ≤ b → b < sp_of t → IsWritten b row.writes ⊎ IsLeft row t b

-- rows that are one row
pub equal_alike : (row other : Row) (t : State) → row ≡ other → IsBank row.bank → Covers row t → RowAlike row other t
equal_alike row other t e bank covers = subst (λ (o : Row). RowAlike row o t) e (record {
  same = record { sp = refl; changes = refl; reach = refl; settled = refl; a = λ h. refl; x = λ h. refl; sreg_low = λ h. refl; sreg_high = λ h. refl; pointers = refl; bank = refl; bank_long = bank; writes = refl; covers = covers; taken = refl; out = refl; ends = refl };
  ready = refl;
  close = refl;
  far = refl;
  cost = refl;
})

-- rows that keep A, X and sreg, which their routine may not change
keeping_alike : (row other : Row) (t u : State) → row ≡ other → IsBank row.bank → Covers row t → has_part row.changes A ≡ false → has_part row.changes X ≡ false → has_part row.changes (Zp 2) ≡ false → has_part row.changes (Zp 3) ≡ false
    → RowAlike (keeping t row) (keeping u other) t
keeping_alike row other t u e bank covers a x low high = subst (λ (o : Row). RowAlike (keeping t row) (keeping u o) t) e (record {
  same = record {
    sp = refl;
    changes = refl;
    reach = refl;
    settled = refl;
    a = λ h. absurd (apart (has_part row.changes A) h a);
    x = λ h. absurd (apart (has_part row.changes X) h x);
    sreg_low = λ h. absurd (apart (has_part row.changes (Zp 2)) h low);
    sreg_high = λ h. absurd (apart (has_part row.changes (Zp 3)) h high);
    pointers = refl;
    bank = refl;
    bank_long = bank;
    writes = refl;
    covers = covers;
    taken = refl;
    out = refl;
    ends = refl;
  };
  ready = refl;
  close = refl;
  far = refl;
  cost = refl;
})
  where
    apart : (b : Bool) → b ≡ true → b ≡ false → ⊥
    apart b h k = cc

-- such rows that give A, X or both
with_x_alike : (row other : Row) (t : State) (v w : Option ℕ) → RowAlike row other t → v ≡ w → RowAlike (record row { x = v }) (record other { x = w }) t
with_x_alike row other t v w h e = record {
  same = record {
    sp = h.same.sp;
    changes = h.same.changes;
    reach = h.same.reach;
    settled = h.same.settled;
    a = h.same.a;
    x = λ c. e;
    sreg_low = h.same.sreg_low;
    sreg_high = h.same.sreg_high;
    pointers = h.same.pointers;
    bank = h.same.bank;
    bank_long = h.same.bank_long;
    writes = h.same.writes;
    covers = h.same.covers;
    taken = h.same.taken;
    out = h.same.out;
    ends = h.same.ends;
  };
  ready = h.ready;
  close = h.close;
  far = h.far;
  cost = h.cost;
}

with_a_alike : (row other : Row) (t : State) (v w : Option ℕ) → RowAlike row other t → v ≡ w → RowAlike (record row { a = v }) (record other { a = w }) t
with_a_alike row other t v w h e = record {
  same = record {
    sp = h.same.sp;
    changes = h.same.changes;
    reach = h.same.reach;
    settled = h.same.settled;
    a = λ c. e;
    x = h.same.x;
    sreg_low = h.same.sreg_low;
    sreg_high = h.same.sreg_high;
    pointers = h.same.pointers;
    bank = h.same.bank;
    bank_long = h.same.bank_long;
    writes = h.same.writes;
    covers = h.same.covers;
    taken = h.same.taken;
    out = h.same.out;
    ends = h.same.ends;
  };
  ready = h.ready;
  close = h.close;
  far = h.far;
  cost = h.cost;
}

few_bytes : (count : Count) → number_of count ≤ 8
few_bytes One = omega arith
few_bytes Two = omega arith
few_bytes Three = omega arith
few_bytes Four = omega arith
few_bytes Five = omega arith
few_bytes Six = omega arith
few_bytes Seven = omega arith
few_bytes Eight = omega arith

module _ (t u : State) (live : RegSet) (n : Near live t u) where
  pub sp : sp_of t ≡ sp_of u
  sp = let low : t.zp 0 ≡ u.zp 0 = n.sp_low in let high : t.zp 1 ≡ u.zp 1 = n.sp_high in omega arith

  -- bytes from sp on
  above : (k : ℕ) → t.mem (sp_of t + k) ≡ u.mem (sp_of u + k)
  above k = n.mem (sp_of t + k) (inr (omega arith)) ∙ ap (λ (b : ℕ). u.mem (b + k)) sp

  pub word_above : (k : ℕ) → word_at t.mem (sp_of t + k) ≡ word_at u.mem (sp_of u + k)
  word_above k =
      let low : t.mem (sp_of t + k) ≡ u.mem (sp_of u + k) = above k in
      let high : t.mem (sp_of t + k + 1) ≡ u.mem (sp_of u + k + 1) = n.mem (sp_of t + k + 1) (inr (omega arith)) ∙ ap (λ (b : ℕ). u.mem (b + k + 1)) sp in
      ap (λ (x : ℕ). x + 256 * t.mem (sp_of t + k + 1)) low ∙ ap (λ (x : ℕ). u.mem (sp_of u + k) + 256 * x) high

  -- bytes at an address that is one in both
  pub at_one : (b c : ℕ) → b ≡ c → (b < stack_start) ⊎ (sp_of t ≤ b) → t.mem b ≡ u.mem c
  at_one b c e h = n.mem b h ∙ ap u.mem e

  pub word_one : (b c : ℕ) → b ≡ c → (b < stack_start) ⊎ (sp_of t ≤ b) → (b + 1 < stack_start) ⊎ (sp_of t ≤ b + 1) → word_at t.mem b ≡ word_at u.mem c
  word_one b c e h k =
      ap (λ (x : ℕ). x + 256 * t.mem (b + 1)) (at_one b c e h) ∙ ap (λ (x : ℕ). u.mem c + 256 * x) (at_one (b + 1) (c + 1) (ap (λ (x : ℕ). x + 1) e) k)

  long_one : (b c : ℕ) → b ≡ c → (b < stack_start) ⊎ (sp_of t ≤ b) → (b + 1 < stack_start) ⊎ (sp_of t ≤ b + 1) → (b + 2 < stack_start) ⊎ (sp_of t ≤ b + 2) → (b + 2 + 1 < stack_start) ⊎ (sp_of t ≤ b + 2 + 1)
      → long_at t.mem b ≡ long_at u.mem c
  long_one b c e h k l m =
      ap (λ (x : ℕ). x + 65536 * word_at t.mem (b + 2)) (word_one b c e h k) ∙ ap (λ (x : ℕ). word_at u.mem c + 65536 * x) (word_one (b + 2) (c + 2) (ap (λ (x : ℕ). x + 2) e) l m)

  number_above : (width : Width) → number_at width t.mem (sp_of t) ≡ number_at width u.mem (sp_of u)
  number_above Ax = word_one (sp_of t) (sp_of u) sp (inr (omega arith)) (inr (omega arith))
  number_above Eax = long_one (sp_of t) (sp_of u) sp (inr (omega arith)) (inr (omega arith)) (inr (omega arith)) (inr (omega arith))

  -- the row of the first group that gives nothing
  pub plain_row : (r : Routine) → row_by r t ≡ row_by r u
  plain_row r = ap (λ (x : ℕ). record { ready = true; sp = x; a = None; x = None; sreg = None; pointers = None; bank = None; writes = []; near = []; far = []; taken = 0; out = []; ends = None; room = 64; settled = x; changes = routine_sets r; cost = 32 }) sp

  pub open_one : (place : Placement) → IsLow place → (bound b : ℕ) → sp_of t ≤ bound → IsOpen place bound b → (b < stack_start) ⊎ (sp_of t ≤ b)
  open_one place low bound b le (inl h) = inl (low.data_below b h)
  open_one place low bound b le (inr h) = let at : bound ≤ b = h.0 in inr (omega arith)

  -- ---- rows before what they keep

  push_base : (r : Routine) (vs ws : List ℕ) → vs ≡ ws → pushing vs t (row_by r t) ≡ pushing ws u (row_by r u)
  push_base r vs ws e =
      ap (λ (xs : List ℕ). pushing xs t (row_by r t)) e ∙ (ap (λ (b : ℕ). record (row_by r t) { sp = b - length ws; settled = b - length ws; writes = listed ws (b - length ws); near = range_of (length ws) (b - length ws) }) sp ∙ ap (pushing ws u) (plain_row r))

  push_covers : (r : Routine) (vs : List ℕ) → Covers (pushing vs t (row_by r t)) t
  push_covers r vs above b g h = inl (listed_written vs (sp_of t - length vs) b g (omega arith))

  pub pop_base : (r : Routine) (count : ℕ) → popping count t (row_by r t) ≡ popping count u (row_by r u)
  pop_base r count = ap (λ (b : ℕ). record (row_by r t) { sp = b + count; near = range_of count b }) sp ∙ ap (popping count u) (plain_row r)

  store_base : (r : Routine) (vs ws : List ℕ) → vs ≡ ws → store_row r vs t ≡ store_row r ws u
  store_base r vs ws e =
      ap (λ (xs : List ℕ). store_row r xs t) e
      ∙ (ap (λ (b : ℕ). costing 256 (far_storing ws b (popping 2 t (row_by r t)))) (word_one (sp_of t) (sp_of u) sp (inr (omega arith)) (inr (omega arith)))
      ∙ ap (λ (row : Row). costing 256 (far_storing ws (word_at u.mem (sp_of u)) row)) (pop_base r 2))

  pushed_alike : (r : Routine) (vs ws : List ℕ) → vs ≡ ws → has_part (routine_sets r) A ≡ false → has_part (routine_sets r) X ≡ false → has_part (routine_sets r) (Zp 2) ≡ false → has_part (routine_sets r) (Zp 3) ≡ false
      → RowAlike (push_row r vs t) (push_row r ws u) t
  pushed_alike r vs ws e a x low high = keeping_alike (pushing vs t (row_by r t)) (pushing ws u (row_by r u)) t u (push_base r vs ws e) tt (push_covers r vs) a x low high

  pub bytes_one : (count b c : ℕ) → b ≡ c → sp_of t ≤ b → bytes_at count b t.mem ≡ bytes_at count c u.mem
  bytes_one zero b c e h = refl
  bytes_one (suc count) b c e h =
      ap (λ (v : ℕ). v ∷ bytes_at count (b + 1) t.mem) (at_one b c e (inr h)) ∙ ap (λ (vs : List ℕ). u.mem c ∷ vs) (bytes_one count (b + 1) (c + 1) (ap (λ (x : ℕ). x + 1) e) (omega arith))

  -- ---- words in registers

  pub ax_same : t.regs.a ≡ u.regs.a → t.regs.x ≡ u.regs.x → ax_of t ≡ ax_of u
  ax_same a x = ap (λ (v : ℕ). v + 256 * t.regs.x) a ∙ ap (λ (v : ℕ). u.regs.a + 256 * v) x

  primary_same : (width : Width) → ((p : Part) → has_part (primary width) p ≡ true → Same p t u) → primary_of width t ≡ primary_of width u
  primary_same Ax reads = ax_same (reads A refl) (reads X refl)
  primary_same Eax reads =
      ap (λ (v : ℕ). v + 65536 * sreg_of t) (ax_same (reads A refl) (reads X refl))
      ∙ (ap (λ (v : ℕ). ax_of u + 65536 * (v + 256 * t.zp 3)) (reads (Zp 2) refl) ∙ ap (λ (v : ℕ). ax_of u + 65536 * (u.zp 2 + 256 * v)) (reads (Zp 3) refl))

-- a row that only gives more
giving_alike : (width : Width) (v : ℕ) (row : Row) (t : State) → IsBank row.bank → sp_of t ≤ row.sp → RowAlike (giving width v row) (giving width v row) t
giving_alike Ax v row t bank le = equal_alike (giving Ax v row) (giving Ax v row) t refl bank (λ above b g h. absurd (omega arith))
giving_alike Eax v row t bank le = equal_alike (giving Eax v row) (giving Eax v row) t refl bank (λ above b g h. absurd (omega arith))

giving_if_alike : (width : Width) (v : Option ℕ) (row : Row) (t : State) → IsBank row.bank → sp_of t ≤ row.sp → RowAlike (giving_if width v row) (giving_if width v row) t
giving_if_alike width None row t bank le = equal_alike row row t refl bank (λ above b g h. absurd (omega arith))
giving_if_alike width (Some v) row t bank le = giving_alike width v row t bank le

check_alike : (deep : Bool) (row : Row) (t : State) → IsBank row.bank → sp_of t ≤ row.sp → RowAlike (check_row deep row) (check_row deep row) t
check_alike true row t bank le = equal_alike (check_row true row) (check_row true row) t refl bank (λ above b g h. absurd (omega arith))
check_alike false row t bank le = equal_alike row row t refl bank (λ above b g h. absurd (omega arith))

read_alike : (input : List ℕ) (row : Row) (t u : State) → IsBank row.bank → sp_of t ≤ row.sp → RowAlike (read_row input t row) (read_row input u row) t
read_alike [] row t u bank le = giving_alike Ax 65535 row t bank le
read_alike (v ∷ input) row t u bank le = equal_alike (record (giving Ax v row) { taken = 1 }) (record (giving Ax v row) { taken = 1 }) t refl bank (λ above b g h. absurd (omega arith))

-- rows with what they give of A, X and sreg
fields_alike : (row other : Row) (t : State) → row ≡ other → IsBank row.bank → Covers row t → (a d x y c e : Option ℕ) → (has_part row.changes A ≡ true → a ≡ d) → (has_part row.changes X ≡ true → x ≡ y) → (has_part row.changes (Zp 2) ≡ true → c ≡ e)
    → (has_part row.changes (Zp 3) ≡ true → c ≡ e) → RowAlike (record row { a = a; x = x; sreg = c }) (record other { a = d; x = y; sreg = e }) t
fields_alike row other t is bank covers a d x y c e f g low high = subst (λ (o : Row). RowAlike (record row { a = a; x = x; sreg = c }) (record o { a = d; x = y; sreg = e }) t) is (record {
  same = record { sp = refl; changes = refl; reach = refl; settled = refl; a = f; x = g; sreg_low = low; sreg_high = high; pointers = refl; bank = refl; bank_long = bank; writes = refl; covers = covers; taken = refl; out = refl; ends = refl };
  ready = refl;
  close = refl;
  far = refl;
  cost = refl;
})

module _ (place : Placement) (low : IsLow place) (t u : State) (live : RegSet) (n : Near live t u) (bytes : IsBytes t) (top : sp_of t ≤ 65520) (se : s_of t ≡ s_of u) where
  abbrev AreRead : Routine → Type 0
  AreRead r = (p : Part) → has_part (routine_reads r) p ≡ true → Same p t u

  abbrev Alike : Routine → Type 0
  Alike r = AlikeIf (row_of r t) (row_of r u) t

  eq_sp : sp_of t ≡ sp_of u
  eq_sp = sp t u live n

  pushes : (r : Routine) → IsPushing r → AreRead r → Alike r
  pushes routines.PushA i reads = pushed_alike t u live n routines.PushA (t.regs.a ∷ []) (u.regs.a ∷ []) (ap (λ (v : ℕ). v ∷ []) (reads A refl)) refl refl refl refl
  pushes routines.PushAx i reads =
      let a : t.regs.a ≡ u.regs.a = reads A refl in let x : t.regs.x ≡ u.regs.x = reads X refl in
      pushed_alike t u live n routines.PushAx (t.regs.a ∷ t.regs.x ∷ []) (u.regs.a ∷ u.regs.x ∷ []) (cc) refl refl refl refl
  pushes routines.PushA0 i reads =
      fields_alike (pushing (t.regs.a ∷ 0 ∷ []) t (row_by routines.PushA0 t)) (pushing (u.regs.a ∷ 0 ∷ []) u (row_by routines.PushA0 u)) t (push_base t u live n routines.PushA0 _ _ (ap (λ (v : ℕ). v ∷ 0 ∷ []) (reads A refl))) tt
      (push_covers t u live n routines.PushA0 (t.regs.a ∷ 0 ∷ [])) (Some t.regs.a) (Some u.regs.a) (Some 0) (Some 0) (Some (sreg_of t)) (Some (sreg_of u)) (λ h. absurd (cc)) (λ h. refl) (λ h. absurd (cc)) (λ h. absurd (cc))
  pushes routines.Push0 i reads =
      fields_alike (pushing (0 ∷ 0 ∷ []) t (row_by routines.Push0 t)) (pushing (0 ∷ 0 ∷ []) u (row_by routines.Push0 u)) t (push_base t u live n routines.Push0 (0 ∷ 0 ∷ []) (0 ∷ 0 ∷ []) refl) tt
      (push_covers t u live n routines.Push0 (0 ∷ 0 ∷ [])) (Some 0) (Some 0) (Some 0) (Some 0) (Some (sreg_of t)) (Some (sreg_of u)) (λ h. refl) (λ h. refl) (λ h. absurd (cc)) (λ h. absurd (cc))
  pushes routines.PushEax i reads =
      let a : t.regs.a ≡ u.regs.a = reads A refl in let x : t.regs.x ≡ u.regs.x = reads X refl in let c : t.zp 2 ≡ u.zp 2 = reads (Zp 2) refl in let d : t.zp 3 ≡ u.zp 3 = reads (Zp 3) refl in
      pushed_alike t u live n routines.PushEax (t.regs.a ∷ t.regs.x ∷ t.zp 2 ∷ t.zp 3 ∷ []) (u.regs.a ∷ u.regs.x ∷ u.zp 2 ∷ u.zp 3 ∷ []) (cc) refl refl refl refl
  pushes routines.SaveRegs i reads =
      let b0 : t.zp 20 ≡ u.zp 20 = reads (Zp 20) refl in let b1 : t.zp 21 ≡ u.zp 21 = reads (Zp 21) refl in let b2 : t.zp 22 ≡ u.zp 22 = reads (Zp 22) refl in
      let b3 : t.zp 23 ≡ u.zp 23 = reads (Zp 23) refl in let b4 : t.zp 24 ≡ u.zp 24 = reads (Zp 24) refl in let b5 : t.zp 25 ≡ u.zp 25 = reads (Zp 25) refl in
      let bank : bank_of t ≡ bank_of u = cc in
      keeping_alike (costing 256 (pushing (bank_of t) t (row_by routines.SaveRegs t))) (costing 256 (pushing (bank_of u) u (row_by routines.SaveRegs u))) t u (ap (costing 256) (push_base t u live n routines.SaveRegs (bank_of t) (bank_of u) bank)) tt
      (push_covers t u live n routines.SaveRegs (bank_of t)) refl refl refl refl
  pushes _ i reads = absurd i

  pops : (r : Routine) → IsPopping r → AreRead r → Alike r
  pops routines.PopA i reads =
      fields_alike (popping 1 t (row_by routines.PopA t)) (popping 1 u (row_by routines.PopA u)) t (pop_base t u live n routines.PopA 1) tt (λ above b g h. absurd (omega arith))
      (Some (t.mem (sp_of t))) (Some (u.mem (sp_of u))) (Some t.regs.x) (Some u.regs.x) (Some (sreg_of t)) (Some (sreg_of u)) (λ h. ap Some (at_one t u live n (sp_of t) (sp_of u) eq_sp (inr (omega arith)))) (λ h. absurd (cc)) (λ h. absurd (cc)) (λ h. absurd (cc))
  pops routines.PopAx i reads =
      let v : word_at t.mem (sp_of t) ≡ word_at u.mem (sp_of u) = word_one t u live n (sp_of t) (sp_of u) eq_sp (inr (omega arith)) (inr (omega arith)) in
      fields_alike (popping 2 t (row_by routines.PopAx t)) (popping 2 u (row_by routines.PopAx u)) t (pop_base t u live n routines.PopAx 2) tt (λ above b g h. absurd (omega arith))
      (Some (low_byte (word_at t.mem (sp_of t)))) (Some (low_byte (word_at u.mem (sp_of u)))) (Some (high_byte (word_at t.mem (sp_of t)))) (Some (high_byte (word_at u.mem (sp_of u)))) (Some (sreg_of t)) (Some (sreg_of u))
      (λ h. ap (λ (w : ℕ). Some (low_byte w)) v) (λ h. ap (λ (w : ℕ). Some (high_byte w)) v) (λ h. absurd (cc)) (λ h. absurd (cc))
  pops routines.PopEax i reads =
      equal_alike (giving Eax (long_at t.mem (sp_of t)) (popping 4 t (row_by routines.PopEax t))) (giving Eax (long_at u.mem (sp_of u)) (popping 4 u (row_by routines.PopEax u))) t
      (ap (λ (v : ℕ). giving Eax v (popping 4 t (row_by routines.PopEax t))) (number_above t u live n Eax) ∙ ap (giving Eax (long_at u.mem (sp_of u))) (pop_base t u live n routines.PopEax 4)) tt (λ above b g h. absurd (omega arith))
  pops routines.PopPtrs i reads =
      let v : word_at t.mem (sp_of t) ≡ word_at u.mem (sp_of u) = word_one t u live n (sp_of t) (sp_of u) eq_sp (inr (omega arith)) (inr (omega arith)) in
      let w : word_at t.mem (sp_of t + 2) ≡ word_at u.mem (sp_of u + 2) = word_above t u live n 2 in
      fields_alike (record (popping 4 t (row_by routines.PopPtrs t)) { pointers = Some (word_at t.mem (sp_of t), word_at t.mem (sp_of t + 2)) }) (record (popping 4 u (row_by routines.PopPtrs u)) { pointers = Some (word_at u.mem (sp_of u), word_at u.mem (sp_of u + 2)) }) t
      (ap (λ (x : ℕ). record (popping 4 t (row_by routines.PopPtrs t)) { pointers = Some (x, word_at t.mem (sp_of t + 2)) }) v ∙ (ap (λ (x : ℕ). record (popping 4 t (row_by routines.PopPtrs t)) { pointers = Some (word_at u.mem (sp_of u), x) }) w ∙ ap (λ (row : Row). record row { pointers = Some (word_at u.mem (sp_of u), word_at u.mem (sp_of u + 2)) }) (pop_base t u live n routines.PopPtrs 4))) tt (λ above b g h. absurd (omega arith))
      None None (Some t.regs.x) (Some u.regs.x) (Some (sreg_of t)) (Some (sreg_of u)) (λ h. refl) (λ h. absurd (cc)) (λ h. absurd (cc)) (λ h. absurd (cc))
  pops routines.RestRegs i reads =
      keeping_alike (costing 256 (record (popping 6 t (row_by routines.RestRegs t)) { bank = Some (bytes_at 6 (sp_of t) t.mem) })) (costing 256 (record (popping 6 u (row_by routines.RestRegs u)) { bank = Some (bytes_at 6 (sp_of u) u.mem) })) t u
      (ap (λ (vs : List ℕ). costing 256 (record (popping 6 t (row_by routines.RestRegs t)) { bank = Some vs })) (bytes_one t u live n 6 (sp_of t) (sp_of u) eq_sp (omega arith)) ∙ ap (λ (row : Row). costing 256 (record row { bank = Some (bytes_at 6 (sp_of u) u.mem) })) (pop_base t u live n routines.RestRegs 6))
      refl (λ above b g h. absurd (omega arith)) refl refl refl refl
  pops _ i reads = absurd i

  moves_sp : (r : Routine) → IsMovingSp r → AreRead r → Alike r
  moves_sp (routines.IncSp count) i reads =
      keeping_alike (record (row_by (routines.IncSp count) t) { sp = sp_of t + number_of count }) (record (row_by (routines.IncSp count) u) { sp = sp_of u + number_of count }) t u
      (ap (λ (b : ℕ). record (row_by (routines.IncSp count) t) { sp = b + number_of count }) eq_sp ∙ ap (λ (row : Row). record row { sp = sp_of u + number_of count }) (plain_row t u live n (routines.IncSp count))) tt (λ above b g h. absurd (omega arith)) refl refl refl refl
  moves_sp routines.AddYSp i reads =
      let y : t.regs.y ≡ u.regs.y = reads Y refl in
      let both : (sp_of t + t.regs.y) % 65536 ≡ (sp_of u + u.regs.y) % 65536 = ap (λ (b : ℕ). (b + t.regs.y) % 65536) eq_sp ∙ ap (λ (b : ℕ). (sp_of u + b) % 65536) y in
      keeping_alike (record (row_by routines.AddYSp t) { sp = (sp_of t + t.regs.y) % 65536 }) (record (row_by routines.AddYSp u) { sp = (sp_of u + u.regs.y) % 65536 }) t u
      (ap (λ (b : ℕ). record (row_by routines.AddYSp t) { sp = b }) both ∙ ap (λ (row : Row). record row { sp = (sp_of u + u.regs.y) % 65536 }) (plain_row t u live n routines.AddYSp)) tt (λ above b g h. absurd (wrapped above b g h bytes.y)) refl refl refl refl
    where
      wrapped : stack_start ≤ (sp_of t + t.regs.y) % 65536 → (b : ℕ) → (sp_of t + t.regs.y) % 65536 ≤ b → b < sp_of t → t.regs.y < 256 → ⊥
      wrapped above b g h y = omega arith
  moves_sp (routines.DecSp count) i reads =
      keeping_alike (record (row_by (routines.DecSp count) t) { sp = sp_of t - number_of count }) (record (row_by (routines.DecSp count) u) { sp = sp_of u - number_of count }) t u
      (ap (λ (b : ℕ). record (row_by (routines.DecSp count) t) { sp = b - number_of count }) eq_sp ∙ ap (λ (row : Row). record row { sp = sp_of u - number_of count }) (plain_row t u live n (routines.DecSp count))) tt
      (λ above b g h. inr (h, let few : number_of count ≤ 8 = few_bytes count in omega arith)) refl refl refl refl
  moves_sp routines.SubYSp i reads =
      let y : t.regs.y ≡ u.regs.y = reads Y refl in
      let both : sp_of t - t.regs.y ≡ sp_of u - u.regs.y = ap (λ (b : ℕ). b - t.regs.y) eq_sp ∙ ap (λ (b : ℕ). sp_of u - b) y in
      keeping_alike (record (row_by routines.SubYSp t) { sp = sp_of t - t.regs.y; room = max 64 t.regs.y }) (record (row_by routines.SubYSp u) { sp = sp_of u - u.regs.y; room = max 64 u.regs.y }) t u
      (ap (λ (b : ℕ). record (row_by routines.SubYSp t) { sp = b; room = max 64 t.regs.y }) both
      ∙ (ap (λ (b : ℕ). record (row_by routines.SubYSp t) { sp = sp_of u - u.regs.y; room = max 64 b }) y
      ∙ ap (λ (row : Row). record row { sp = sp_of u - u.regs.y; room = max 64 u.regs.y }) (plain_row t u live n routines.SubYSp))) tt
      (λ above b g h. inr (h, omega arith)) refl refl refl refl
  moves_sp _ i reads = absurd i

  -- ---- bytes at a distance from sp

  -- the row before what it keeps, where Y tells the distance
  load_base : (r : Routine) (count less : ℕ) (y z : ℕ) → y ≡ z → needing (nat_le less y) (reading count (sp_of t + y - less) (row_by r t)) ≡ needing (nat_le less z) (reading count (sp_of u + z - less) (row_by r u))
  load_base r count less y z e =
      ap (λ (v : ℕ). needing (nat_le less v) (reading count (sp_of t + v - less) (row_by r t))) e
      ∙ (ap (λ (b : ℕ). needing (nat_le less z) (reading count (b + z - less) (row_by r t))) eq_sp ∙ ap (λ (row : Row). needing (nat_le less z) (reading count (sp_of u + z - less) row)) (plain_row t u live n r))

  save_base : (r : Routine) (most : ℕ) (vs ws : List ℕ) (y z : ℕ) → vs ≡ ws → y ≡ z → needing (nat_le y most) (storing vs (sp_of t + y) (row_by r t)) ≡ needing (nat_le z most) (storing ws (sp_of u + z) (row_by r u))
  save_base r most vs ws y z e f =
      ap (λ (v : ℕ). needing (nat_le v most) (storing vs (sp_of t + v) (row_by r t))) f
      ∙ (ap (λ (xs : List ℕ). needing (nat_le z most) (storing xs (sp_of t + z) (row_by r t))) e
      ∙ (ap (λ (b : ℕ). needing (nat_le z most) (storing ws (b + z) (row_by r t))) eq_sp ∙ ap (λ (row : Row). needing (nat_le z most) (storing ws (sp_of u + z) row)) (plain_row t u live n r)))

  on_stack : (r : Routine) → IsOnStack r → AreRead r → RowHasRoom place (row_of r t) t → Alike r
  on_stack routines.LdAxYSp i reads room =
      let y : t.regs.y ≡ u.regs.y = reads Y refl in
      let enough : 1 ≤ t.regs.y = leb-true 1 t.regs.y room.ready in
      let at : sp_of t + t.regs.y - 1 ≡ sp_of u + u.regs.y - 1 = ap (λ (b : ℕ). b + t.regs.y - 1) eq_sp ∙ ap (λ (v : ℕ). sp_of u + v - 1) y in
      let v : word_at t.mem (sp_of t + t.regs.y - 1) ≡ word_at u.mem (sp_of u + u.regs.y - 1) = word_one t u live n _ _ at (inr (omega arith)) (inr (omega arith)) in
      fields_alike (needing (nat_le 1 t.regs.y) (reading 2 (sp_of t + t.regs.y - 1) (row_by routines.LdAxYSp t))) (needing (nat_le 1 u.regs.y) (reading 2 (sp_of u + u.regs.y - 1) (row_by routines.LdAxYSp u))) t
      (load_base routines.LdAxYSp 2 1 t.regs.y u.regs.y y) tt (λ above b g h. absurd (omega arith))
      (Some (low_byte (word_at t.mem (sp_of t + t.regs.y - 1)))) (Some (low_byte (word_at u.mem (sp_of u + u.regs.y - 1)))) (Some (high_byte (word_at t.mem (sp_of t + t.regs.y - 1)))) (Some (high_byte (word_at u.mem (sp_of u + u.regs.y - 1)))) (Some (sreg_of t)) (Some (sreg_of u))
      (λ h. ap (λ (w : ℕ). Some (low_byte w)) v) (λ h. ap (λ (w : ℕ). Some (high_byte w)) v) (λ h. absurd (cc)) (λ h. absurd (cc))
  on_stack routines.LdAx0Sp i reads room =
      let v : word_at t.mem (sp_of t) ≡ word_at u.mem (sp_of u) = word_one t u live n (sp_of t) (sp_of u) eq_sp (inr (omega arith)) (inr (omega arith)) in
      fields_alike (reading 2 (sp_of t) (row_by routines.LdAx0Sp t)) (reading 2 (sp_of u) (row_by routines.LdAx0Sp u)) t
      (ap (λ (b : ℕ). reading 2 b (row_by routines.LdAx0Sp t)) eq_sp ∙ ap (reading 2 (sp_of u)) (plain_row t u live n routines.LdAx0Sp)) tt (λ above b g h. absurd (omega arith))
      (Some (low_byte (word_at t.mem (sp_of t)))) (Some (low_byte (word_at u.mem (sp_of u)))) (Some (high_byte (word_at t.mem (sp_of t)))) (Some (high_byte (word_at u.mem (sp_of u)))) (Some (sreg_of t)) (Some (sreg_of u))
      (λ h. ap (λ (w : ℕ). Some (low_byte w)) v) (λ h. ap (λ (w : ℕ). Some (high_byte w)) v) (λ h. absurd (cc)) (λ h. absurd (cc))
  on_stack routines.LdEaxYSp i reads room =
      let y : t.regs.y ≡ u.regs.y = reads Y refl in
      let enough : 3 ≤ t.regs.y = leb-true 3 t.regs.y room.ready in
      let at : sp_of t + t.regs.y - 3 ≡ sp_of u + u.regs.y - 3 = ap (λ (b : ℕ). b + t.regs.y - 3) eq_sp ∙ ap (λ (v : ℕ). sp_of u + v - 3) y in
      let v : long_at t.mem (sp_of t + t.regs.y - 3) ≡ long_at u.mem (sp_of u + u.regs.y - 3) = long_one t u live n _ _ at (inr (omega arith)) (inr (omega arith)) (inr (omega arith)) (inr (omega arith)) in
      equal_alike (giving Eax (long_at t.mem (sp_of t + t.regs.y - 3)) (needing (nat_le 3 t.regs.y) (reading 4 (sp_of t + t.regs.y - 3) (row_by routines.LdEaxYSp t))))
      (giving Eax (long_at u.mem (sp_of u + u.regs.y - 3)) (needing (nat_le 3 u.regs.y) (reading 4 (sp_of u + u.regs.y - 3) (row_by routines.LdEaxYSp u)))) t
      (ap (λ (w : ℕ). giving Eax w (needing (nat_le 3 t.regs.y) (reading 4 (sp_of t + t.regs.y - 3) (row_by routines.LdEaxYSp t)))) v ∙ ap (giving Eax (long_at u.mem (sp_of u + u.regs.y - 3))) (load_base routines.LdEaxYSp 4 3 t.regs.y u.regs.y y)) tt (λ above b g h. absurd (omega arith))
  on_stack routines.StAxYSp i reads room =
      let a : t.regs.a ≡ u.regs.a = reads A refl in let x : t.regs.x ≡ u.regs.x = reads X refl in let y : t.regs.y ≡ u.regs.y = reads Y refl in
      let vs : t.regs.a ∷ t.regs.x ∷ [] ≡ u.regs.a ∷ u.regs.x ∷ [] = cc in
      keeping_alike (needing (nat_le t.regs.y 254) (storing (t.regs.a ∷ t.regs.x ∷ []) (sp_of t + t.regs.y) (row_by routines.StAxYSp t))) (needing (nat_le u.regs.y 254) (storing (u.regs.a ∷ u.regs.x ∷ []) (sp_of u + u.regs.y) (row_by routines.StAxYSp u))) t u
      (save_base routines.StAxYSp 254 (t.regs.a ∷ t.regs.x ∷ []) (u.regs.a ∷ u.regs.x ∷ []) t.regs.y u.regs.y vs y) tt (λ above b g h. absurd (omega arith)) refl refl refl refl
  on_stack routines.StAx0Sp i reads room =
      let a : t.regs.a ≡ u.regs.a = reads A refl in let x : t.regs.x ≡ u.regs.x = reads X refl in
      let vs : t.regs.a ∷ t.regs.x ∷ [] ≡ u.regs.a ∷ u.regs.x ∷ [] = cc in
      keeping_alike (storing (t.regs.a ∷ t.regs.x ∷ []) (sp_of t) (row_by routines.StAx0Sp t)) (storing (u.regs.a ∷ u.regs.x ∷ []) (sp_of u) (row_by routines.StAx0Sp u)) t u
      (ap (λ (xs : List ℕ). storing xs (sp_of t) (row_by routines.StAx0Sp t)) vs ∙ (ap (λ (b : ℕ). storing (u.regs.a ∷ u.regs.x ∷ []) b (row_by routines.StAx0Sp t)) eq_sp ∙ ap (storing (u.regs.a ∷ u.regs.x ∷ []) (sp_of u)) (plain_row t u live n routines.StAx0Sp)))
      tt (λ above b g h. absurd (omega arith)) refl refl refl refl
  on_stack routines.StEaxYSp i reads room =
      let a : t.regs.a ≡ u.regs.a = reads A refl in let x : t.regs.x ≡ u.regs.x = reads X refl in let y : t.regs.y ≡ u.regs.y = reads Y refl in
      let c : t.zp 2 ≡ u.zp 2 = reads (Zp 2) refl in let d : t.zp 3 ≡ u.zp 3 = reads (Zp 3) refl in
      let vs : t.regs.a ∷ t.regs.x ∷ t.zp 2 ∷ t.zp 3 ∷ [] ≡ u.regs.a ∷ u.regs.x ∷ u.zp 2 ∷ u.zp 3 ∷ [] = cc in
      keeping_alike (needing (nat_le t.regs.y 252) (storing (t.regs.a ∷ t.regs.x ∷ t.zp 2 ∷ t.zp 3 ∷ []) (sp_of t + t.regs.y) (row_by routines.StEaxYSp t)))
      (needing (nat_le u.regs.y 252) (storing (u.regs.a ∷ u.regs.x ∷ u.zp 2 ∷ u.zp 3 ∷ []) (sp_of u + u.regs.y) (row_by routines.StEaxYSp u))) t u
      (save_base routines.StEaxYSp 252 (t.regs.a ∷ t.regs.x ∷ t.zp 2 ∷ t.zp 3 ∷ []) (u.regs.a ∷ u.regs.x ∷ u.zp 2 ∷ u.zp 3 ∷ []) t.regs.y u.regs.y vs y) tt (λ above b g h. absurd (omega arith)) refl refl refl refl
  on_stack _ i reads room = absurd i

  -- ---- bytes at an address

  far_first : (bound b : ℕ) (bs : List ℕ) → sp_of t ≤ bound → All (IsOpen place bound) (b ∷ bs) → (b < stack_start) ⊎ (sp_of t ≤ b)
  far_first bound b bs le h = open_one t u live n place low bound b le (All-head (IsOpen place bound) b bs h)

  far_base : (r : Routine) (count v w b c : ℕ) (width : Width) → v ≡ w → b ≡ c → costing 256 (giving width v (far_reading count b (row_by r t))) ≡ costing 256 (giving width w (far_reading count c (row_by r u)))
  far_base r count v w b c width e f =
      ap (λ (x : ℕ). costing 256 (giving width x (far_reading count b (row_by r t)))) e
      ∙ (ap (λ (x : ℕ). costing 256 (giving width w (far_reading count x (row_by r t)))) f ∙ ap (λ (row : Row). costing 256 (giving width w (far_reading count c row))) (plain_row t u live n r))

  bound_is : sp_of t ≤ max (sp_of t) (sp_of t)
  bound_is = omega arith

  through_pointer : (r : Routine) → IsThroughPointer r → AreRead r → RowHasRoom place (row_of r t) t → Alike r
  through_pointer routines.LdAi i reads room =
      let at : ax_of t ≡ ax_of u = ax_same t u live n (reads A refl) (reads X refl) in
      equal_alike (costing 256 (giving Ax (t.mem (ax_of t)) (far_reading 1 (ax_of t) (row_by routines.LdAi t)))) (costing 256 (giving Ax (u.mem (ax_of u)) (far_reading 1 (ax_of u) (row_by routines.LdAi u)))) t
      (far_base routines.LdAi 1 (t.mem (ax_of t)) (u.mem (ax_of u)) (ax_of t) (ax_of u) Ax (at_one t u live n _ _ at (far_first (max (sp_of t) (sp_of t)) (ax_of t) [] bound_is room.far)) at) tt (λ above b g h. absurd (omega arith))
  through_pointer routines.LdAxi i reads room =
      let at : ax_of t ≡ ax_of u = ax_same t u live n (reads A refl) (reads X refl) in
      let rest : All (IsOpen place (max (sp_of t) (sp_of t))) ((ax_of t + 1) ∷ []) = All-tail (IsOpen place (max (sp_of t) (sp_of t))) (ax_of t) ((ax_of t + 1) ∷ []) room.far in
      let v : word_at t.mem (ax_of t) ≡ word_at u.mem (ax_of u) = word_one t u live n _ _ at (far_first (max (sp_of t) (sp_of t)) (ax_of t) ((ax_of t + 1) ∷ []) bound_is room.far) (far_first (max (sp_of t) (sp_of t)) (ax_of t + 1) [] bound_is rest) in
      equal_alike (costing 256 (giving Ax (word_at t.mem (ax_of t)) (far_reading 2 (ax_of t) (row_by routines.LdAxi t)))) (costing 256 (giving Ax (word_at u.mem (ax_of u)) (far_reading 2 (ax_of u) (row_by routines.LdAxi u)))) t
      (far_base routines.LdAxi 2 (word_at t.mem (ax_of t)) (word_at u.mem (ax_of u)) (ax_of t) (ax_of u) Ax v at) tt (λ above b g h. absurd (omega arith))
  through_pointer routines.LdEaxi i reads room =
      let b : ℕ = ax_of t in
      let at : ax_of t ≡ ax_of u = ax_same t u live n (reads A refl) (reads X refl) in
      let one : All (IsOpen place (max (sp_of t) (sp_of t))) ((b + 1) ∷ (b + 1 + 1) ∷ (b + 1 + 1 + 1) ∷ []) = All-tail (IsOpen place (max (sp_of t) (sp_of t))) b ((b + 1) ∷ (b + 1 + 1) ∷ (b + 1 + 1 + 1) ∷ []) room.far in
      let two : All (IsOpen place (max (sp_of t) (sp_of t))) ((b + 1 + 1) ∷ (b + 1 + 1 + 1) ∷ []) = All-tail (IsOpen place (max (sp_of t) (sp_of t))) (b + 1) ((b + 1 + 1) ∷ (b + 1 + 1 + 1) ∷ []) one in
      let three : All (IsOpen place (max (sp_of t) (sp_of t))) ((b + 1 + 1 + 1) ∷ []) = All-tail (IsOpen place (max (sp_of t) (sp_of t))) (b + 1 + 1) ((b + 1 + 1 + 1) ∷ []) two in
      let third : b + 1 + 1 ≡ b + 2 = omega arith in
      let fourth : b + 1 + 1 + 1 ≡ b + 2 + 1 = omega arith in
      let v : long_at t.mem (ax_of t) ≡ long_at u.mem (ax_of u) =
      long_one t u live n _ _ at (far_first (max (sp_of t) (sp_of t)) b ((b + 1) ∷ (b + 1 + 1) ∷ (b + 1 + 1 + 1) ∷ []) bound_is room.far) (far_first (max (sp_of t) (sp_of t)) (b + 1) ((b + 1 + 1) ∷ (b + 1 + 1 + 1) ∷ []) bound_is one)
      (subst (λ (x : ℕ). (x < stack_start) ⊎ (sp_of t ≤ x)) third (far_first (max (sp_of t) (sp_of t)) (b + 1 + 1) ((b + 1 + 1 + 1) ∷ []) bound_is two)) (subst (λ (x : ℕ). (x < stack_start) ⊎ (sp_of t ≤ x)) fourth (far_first (max (sp_of t) (sp_of t)) (b + 1 + 1 + 1) [] bound_is three)) in
      equal_alike (costing 256 (giving Eax (long_at t.mem (ax_of t)) (far_reading 4 (ax_of t) (row_by routines.LdEaxi t)))) (costing 256 (giving Eax (long_at u.mem (ax_of u)) (far_reading 4 (ax_of u) (row_by routines.LdEaxi u)))) t
      (far_base routines.LdEaxi 4 (long_at t.mem (ax_of t)) (long_at u.mem (ax_of u)) (ax_of t) (ax_of u) Eax v at) tt (λ above c g h. absurd (omega arith))
  through_pointer routines.StATos i reads room =
      let a : t.regs.a ≡ u.regs.a = reads A refl in
      with_a_alike (store_row routines.StATos (t.regs.a ∷ []) t) (store_row routines.StATos (u.regs.a ∷ []) u) t (Some t.regs.a) (Some u.regs.a)
      (equal_alike _ _ t (store_base t u live n routines.StATos (t.regs.a ∷ []) (u.regs.a ∷ []) (ap (λ (v : ℕ). v ∷ []) a)) tt (λ above b g h. absurd (omega arith))) (ap Some a)
  through_pointer routines.StAxTos i reads room =
      let a : t.regs.a ≡ u.regs.a = reads A refl in let x : t.regs.x ≡ u.regs.x = reads X refl in
      let vs : t.regs.a ∷ t.regs.x ∷ [] ≡ u.regs.a ∷ u.regs.x ∷ [] = cc in
      with_x_alike (record (store_row routines.StAxTos (t.regs.a ∷ t.regs.x ∷ []) t) { a = Some t.regs.a }) (record (store_row routines.StAxTos (u.regs.a ∷ u.regs.x ∷ []) u) { a = Some u.regs.a }) t (Some t.regs.x) (Some u.regs.x)
      (with_a_alike (store_row routines.StAxTos (t.regs.a ∷ t.regs.x ∷ []) t) (store_row routines.StAxTos (u.regs.a ∷ u.regs.x ∷ []) u) t (Some t.regs.a) (Some u.regs.a)
      (equal_alike _ _ t (store_base t u live n routines.StAxTos (t.regs.a ∷ t.regs.x ∷ []) (u.regs.a ∷ u.regs.x ∷ []) vs) tt (λ above b g h. absurd (omega arith))) (ap Some a)) (ap Some x)
  through_pointer routines.StEaxTos i reads room =
      let a : t.regs.a ≡ u.regs.a = reads A refl in let x : t.regs.x ≡ u.regs.x = reads X refl in let c : t.zp 2 ≡ u.zp 2 = reads (Zp 2) refl in let d : t.zp 3 ≡ u.zp 3 = reads (Zp 3) refl in
      let vs : t.regs.a ∷ t.regs.x ∷ t.zp 2 ∷ t.zp 3 ∷ [] ≡ u.regs.a ∷ u.regs.x ∷ u.zp 2 ∷ u.zp 3 ∷ [] = cc in
      keeping_alike (store_row routines.StEaxTos (t.regs.a ∷ t.regs.x ∷ t.zp 2 ∷ t.zp 3 ∷ []) t) (store_row routines.StEaxTos (u.regs.a ∷ u.regs.x ∷ u.zp 2 ∷ u.zp 3 ∷ []) u) t u
      (store_base t u live n routines.StEaxTos (t.regs.a ∷ t.regs.x ∷ t.zp 2 ∷ t.zp 3 ∷ []) (u.regs.a ∷ u.regs.x ∷ u.zp 2 ∷ u.zp 3 ∷ []) vs) tt (λ above b g h. absurd (omega arith)) refl refl refl refl
  through_pointer _ i reads room = absurd i

  -- ---- operators

  too_deep_same : AreRead routines.StkChk → is_too_deep t ≡ is_too_deep u
  too_deep_same reads =
      let lo : t.zp 18 ≡ u.zp 18 = reads (Zp 18) refl in let hi : t.zp 19 ≡ u.zp 19 = reads (Zp 19) refl in
      ap (λ (b : ℕ). nat_lt b (63536 + zero_word t 18) || nat_lt (s_of t) 31) eq_sp
      ∙ (ap (λ (v : ℕ). nat_lt (sp_of u) (63536 + (v + 256 * t.zp 19)) || nat_lt (s_of t) 31) lo
      ∙ (ap (λ (v : ℕ). nat_lt (sp_of u) (63536 + (u.zp 18 + 256 * v)) || nat_lt (s_of t) 31) hi
      ∙ ap (λ (v : ℕ). nat_lt (sp_of u) (63536 + zero_word u 18) || nat_lt v 31) se))

  operators : (r : Routine) → IsOperator r → AreRead r → Alike r
  operators (routines.Tos op width) i reads =
      let v : number_at width t.mem (sp_of t) ≡ number_at width u.mem (sp_of u) = number_above t u live n width in
      let w : primary_of width t ≡ primary_of width u = primary_same t u live n width (λ p h. reads p (in_left (primary width) sp_bytes p h)) in
      let is : tos_row op width t ≡ tos_row op width u =
      ap (λ (k : ℕ). giving_if (result_width op width) (tos_result op width k (primary_of width t)) (costing (tos_cost op) (popping (size_of width) t (row_by (routines.Tos op width) t)))) v
      ∙ (ap (λ (k : ℕ). giving_if (result_width op width) (tos_result op width (number_at width u.mem (sp_of u)) k) (costing (tos_cost op) (popping (size_of width) t (row_by (routines.Tos op width) t)))) w
      ∙ ap (λ (row : Row). giving_if (result_width op width) (tos_result op width (number_at width u.mem (sp_of u)) (primary_of width u)) (costing (tos_cost op) row)) (pop_base t u live n (routines.Tos op width) (size_of width))) in
      subst (λ (row : Row). RowAlike (tos_row op width t) row t) is (giving_if_alike (result_width op width) (tos_result op width (number_at width t.mem (sp_of t)) (primary_of width t)) (costing (tos_cost op) (popping (size_of width) t (row_by (routines.Tos op width) t))) t tt (omega arith))
  operators (routines.Unary op width) i reads =
      let w : primary_of width t ≡ primary_of width u = primary_same t u live n width reads in
      let is : unary_row op width t ≡ unary_row op width u =
      ap (λ (k : ℕ). giving (unary_width op width) (unary_result op width k) (costing 256 (row_by (routines.Unary op width) t))) w
      ∙ ap (λ (row : Row). giving (unary_width op width) (unary_result op width (primary_of width u)) (costing 256 row)) (plain_row t u live n (routines.Unary op width)) in
      subst (λ (row : Row). RowAlike (unary_row op width t) row t) is (giving_alike (unary_width op width) (unary_result op width (primary_of width t)) (costing 256 (row_by (routines.Unary op width) t)) t tt (omega arith))
  operators routines.SignA i reads =
      equal_alike _ _ t (ap (λ (v : ℕ). costing 256 (record (row_by routines.SignA t) { a = Some v; x = Some (if nat_lt 127 v then 255 else 0) })) (reads A refl)
      ∙ ap (λ (row : Row). costing 256 (record row { a = Some u.regs.a; x = Some (if nat_lt 127 u.regs.a then 255 else 0) })) (plain_row t u live n routines.SignA)) tt (λ above b g h. absurd (omega arith))
  operators routines.LongAx i reads =
      equal_alike _ _ t (ap (λ (v : ℕ). costing 256 (record (row_by routines.LongAx t) { a = Some v; x = Some t.regs.x; sreg = Some (if nat_lt 127 t.regs.x then 65535 else 0) })) (reads A refl)
      ∙ (ap (λ (v : ℕ). costing 256 (record (row_by routines.LongAx t) { a = Some u.regs.a; x = Some v; sreg = Some (if nat_lt 127 v then 65535 else 0) })) (reads X refl)
      ∙ ap (λ (row : Row). costing 256 (record row { a = Some u.regs.a; x = Some u.regs.x; sreg = Some (if nat_lt 127 u.regs.x then 65535 else 0) })) (plain_row t u live n routines.LongAx))) tt (λ above b g h. absurd (omega arith))
  operators routines.ULongAx i reads =
      equal_alike _ _ t (ap (λ (v : ℕ). costing 256 (record (row_by routines.ULongAx t) { a = Some v; x = Some t.regs.x; sreg = Some 0 })) (reads A refl)
      ∙ (ap (λ (v : ℕ). costing 256 (record (row_by routines.ULongAx t) { a = Some u.regs.a; x = Some v; sreg = Some 0 })) (reads X refl)
      ∙ ap (λ (row : Row). costing 256 (record row { a = Some u.regs.a; x = Some u.regs.x; sreg = Some 0 })) (plain_row t u live n routines.ULongAx))) tt (λ above b g h. absurd (omega arith))
  operators routines.StkChk i reads =
      let is : check_row (is_too_deep t) (costing 256 (row_by routines.StkChk t)) ≡ check_row (is_too_deep u) (costing 256 (row_by routines.StkChk u)) =
      ap (λ (d : Bool). check_row d (costing 256 (row_by routines.StkChk t))) (too_deep_same reads) ∙ ap (λ (row : Row). check_row (is_too_deep u) (costing 256 row)) (plain_row t u live n routines.StkChk) in
      subst (λ (row : Row). RowAlike (check_row (is_too_deep t) (costing 256 (row_by routines.StkChk t))) row t) is (check_alike (is_too_deep t) (costing 256 (row_by routines.StkChk t)) t tt (omega arith))
  operators (routines.Library Putchar) i reads =
      equal_alike _ _ t (ap (λ (v : ℕ). record (giving Ax v (costing 256 (row_by (routines.Library Putchar) t))) { out = v ∷ [] }) (reads A refl)
      ∙ ap (λ (row : Row). record (giving Ax u.regs.a (costing 256 row)) { out = u.regs.a ∷ [] }) (plain_row t u live n (routines.Library Putchar))) tt (λ above b g h. absurd (omega arith))
  operators (routines.Library Getchar) i reads =
      let is : read_row t.input u (costing 256 (row_by (routines.Library Getchar) t)) ≡ read_row u.input u (costing 256 (row_by (routines.Library Getchar) u)) =
      ap (λ (vs : List ℕ). read_row vs u (costing 256 (row_by (routines.Library Getchar) t))) n.input ∙ ap (λ (row : Row). read_row u.input u (costing 256 row)) (plain_row t u live n (routines.Library Getchar)) in
      subst (λ (row : Row). RowAlike (read_row t.input t (costing 256 (row_by (routines.Library Getchar) t))) row t) is (read_alike t.input (costing 256 (row_by (routines.Library Getchar) t)) t u tt (omega arith))
  operators (routines.Library Exit) i reads =
      equal_alike _ _ t (ap (λ (v : ℕ). record (costing 256 (row_by (routines.Library Exit) t)) { ends = Some v }) (reads A refl)
      ∙ ap (λ (row : Row). record (costing 256 row) { ends = Some u.regs.a }) (plain_row t u live n (routines.Library Exit))) tt (λ above b g h. absurd (omega arith))
  operators _ i reads = absurd i

  pub rows_alike : (r : Routine) → IsSimple r → AreRead r → RowHasRoom place (row_of r t) t → Alike r
  rows_alike routines.PushA i reads room = pushes routines.PushA tt reads
  rows_alike routines.PushAx i reads room = pushes routines.PushAx tt reads
  rows_alike routines.PushA0 i reads room = pushes routines.PushA0 tt reads
  rows_alike routines.Push0 i reads room = pushes routines.Push0 tt reads
  rows_alike routines.PushEax i reads room = pushes routines.PushEax tt reads
  rows_alike routines.SaveRegs i reads room = pushes routines.SaveRegs tt reads
  rows_alike routines.PopA i reads room = pops routines.PopA tt reads
  rows_alike routines.PopAx i reads room = pops routines.PopAx tt reads
  rows_alike routines.PopEax i reads room = pops routines.PopEax tt reads
  rows_alike routines.PopPtrs i reads room = pops routines.PopPtrs tt reads
  rows_alike routines.RestRegs i reads room = pops routines.RestRegs tt reads
  rows_alike routines.AddYSp i reads room = moves_sp routines.AddYSp tt reads
  rows_alike (routines.IncSp count) i reads room = moves_sp (routines.IncSp count) tt reads
  rows_alike routines.LdAxYSp i reads room = on_stack routines.LdAxYSp tt reads room
  rows_alike routines.LdAx0Sp i reads room = on_stack routines.LdAx0Sp tt reads room
  rows_alike routines.LdEaxYSp i reads room = on_stack routines.LdEaxYSp tt reads room
  rows_alike routines.StAxYSp i reads room = on_stack routines.StAxYSp tt reads room
  rows_alike routines.StAx0Sp i reads room = on_stack routines.StAx0Sp tt reads room
  rows_alike routines.StEaxYSp i reads room = on_stack routines.StEaxYSp tt reads room
  rows_alike routines.LdAi i reads room = through_pointer routines.LdAi tt reads room
  rows_alike routines.LdAxi i reads room = through_pointer routines.LdAxi tt reads room
  rows_alike routines.LdEaxi i reads room = through_pointer routines.LdEaxi tt reads room
  rows_alike routines.StATos i reads room = through_pointer routines.StATos tt reads room
  rows_alike routines.StAxTos i reads room = through_pointer routines.StAxTos tt reads room
  rows_alike routines.StEaxTos i reads room = through_pointer routines.StEaxTos tt reads room
  rows_alike (routines.Tos op width) i reads room = operators (routines.Tos op width) tt reads
  rows_alike (routines.Unary op width) i reads room = operators (routines.Unary op width) tt reads
  rows_alike routines.SignA i reads room = operators routines.SignA tt reads
  rows_alike routines.LongAx i reads room = operators routines.LongAx tt reads
  rows_alike routines.ULongAx i reads room = operators routines.ULongAx tt reads
  rows_alike routines.StkChk i reads room = operators routines.StkChk tt reads
  rows_alike (routines.Library Putchar) i reads room = operators (routines.Library Putchar) tt reads
  rows_alike (routines.Library Getchar) i reads room = operators (routines.Library Getchar) tt reads
  rows_alike (routines.Library Exit) i reads room = operators (routines.Library Exit) tt reads
  rows_alike (routines.DecSp count) i reads room = moves_sp (routines.DecSp count) tt reads
  rows_alike routines.SubYSp i reads room = moves_sp routines.SubYSp tt reads
  rows_alike routines.CopyTos i reads room = absurd i
  rows_alike (routines.Library f) i reads room = absurd i
  rows_alike _ i reads room = tt
