-- Routines that store.
use Rattle.std.proofs.Common.{◌≡◌, ℕ, zero, suc, ◌+◌, ◌<◌, ◌≤◌, ◌⊎◌, inl, inr, List, [], ◌∷◌, ◌++◌, Some, true, refl, sym, ap, ◌∙◌, subst, arith}
use Rattle.std.specs.Prelude.{length, min, max, All, IsTrue, slice_get, drop}
use Rattle.std.proofs.lemmas.List.Elements.{All-nil, All-cons, All-head, All-tail}
use Rattle.c65_meaning.specs.Store.{Cell, Block}
use Rattle.c65_meaning.specs.State.{Scene}
use Rattle.c65_code.specs.declared.parts.Part.TheVariants.{Zp}
use Rattle.c65_code.specs.LineState.{Bytes, write, word_at, State, sp_of, eax_of, IsBytes}
use Rattle.c65_code.specs.Placement.{IsPlacement, stack_start}
use Rattle.c65_code.specs.Texts.{range_of, listed}
use Rattle.c65_code.specs.Rows.{Row, Meets, written, row_of}
use Rattle.c65_code.specs.Steady.{IsOpen, HasRoom}
use Rattle.c65_agree_store.specs.Stands.{At, Placing, Banks, CellIs}
use Rattle.c65_agree_store.specs.Laws.{byte_of}
use Rattle.c65_agree_state.specs.World.{World, Active}
use Rattle.c65_agree_state.specs.Exprs.{Ready}
use Rattle.c65_agree_state.specs.Laws.{HasStacks}
use Rattle.c65_agree_state.proofs.Followed.{ready_is_calm}
use Rattle.c65_agree_numbers.proofs.Tests.{at_most}
use Rattle.c65_agree_rows.specs.Rows.{IsQuiet}
use Rattle.c65_agree_rows.proofs.Quiet.{append_nothing, write_other, item_is, listed_are_at, in_range, quiet_row, runs_by}
use Rattle.c65_agree_put.specs.Puts.{OnlyStored, AreLaid, MayPut, Storing, WordByY, WordAtSp, LongByY, ByteThrough, WordThrough, LongThrough, storing_of, stored_size, taken_by, GoesTo, Stays, IsStored, AreBanks}
use Rattle.c65_agree_put.specs.Laws.{StoresRun}
use Rattle.c65_agree_put.proofs.Puts.{banks_follow, puts_are_taken}

-- ---- bytes that are written one behind another

pub listed_other : (m : Bytes) (vs : List ℕ) (at n : ℕ) → ((i : ℕ) → i < length vs → at + i ≡ n → ⊥) → written m (listed vs at) n ≡ m n
listed_other m [] at n h = refl
listed_other m (v ∷ vs) at n h = listed_other (write m at v) vs (at + 1) n (λ i lt e. h (suc i) (omega (arith, lt)) (omega (arith, e))) ∙ write_other m at v n (λ e. h 0 (omega arith) (omega (arith, e)))

-- the bytes that a routine stores are those of EAX
abbrev stored_bytes : Storing → State → List ℕ
stored_bytes WordByY t = t.regs.a ∷ t.regs.x ∷ []
stored_bytes WordAtSp t = t.regs.a ∷ t.regs.x ∷ []
stored_bytes LongByY t = t.regs.a ∷ t.regs.x ∷ t.zp 2 ∷ t.zp 3 ∷ []
stored_bytes ByteThrough t = t.regs.a ∷ []
stored_bytes WordThrough t = t.regs.a ∷ t.regs.x ∷ []
stored_bytes LongThrough t = t.regs.a ∷ t.regs.x ∷ t.zp 2 ∷ t.zp 3 ∷ []

-- the bytes of the accumulators
pub record HasFour (t : State) : Type 0 where
  pub first : t.regs.a ≡ byte_of 0 (eax_of t)
  pub second : t.regs.x ≡ byte_of 1 (eax_of t)
  pub third : t.zp 2 ≡ byte_of 2 (eax_of t)
  pub fourth : t.zp 3 ≡ byte_of 3 (eax_of t)

pub four_bytes : (t : State) → IsBytes t → HasFour t
four_bytes t b = record {
  first = omega (arith, b.a, b.x, b.zp 2, b.zp 3);
  second = omega (arith, b.a, b.x, b.zp 2, b.zp 3);
  third = omega (arith, b.a, b.x, b.zp 2, b.zp 3);
  fourth = omega (arith, b.a, b.x, b.zp 2, b.zp 3);
}

module _ (t : State) (f : HasFour t) where
  pub byte_item : (i : ℕ) → i < 1 → slice_get (t.regs.a ∷ []) i ≡ Some (byte_of i (eax_of t))
  byte_item zero lt = ap Some f.first
  byte_item (suc i) lt = absurd (omega arith)

  pub word_item : (i : ℕ) → i < 2 → slice_get (t.regs.a ∷ t.regs.x ∷ []) i ≡ Some (byte_of i (eax_of t))
  word_item zero lt = ap Some f.first
  word_item (suc zero) lt = ap Some f.second
  word_item (suc (suc i)) lt = absurd (omega arith)

  pub long_item : (i : ℕ) → i < 4 → slice_get (t.regs.a ∷ t.regs.x ∷ t.zp 2 ∷ t.zp 3 ∷ []) i ≡ Some (byte_of i (eax_of t))
  long_item zero lt = ap Some f.first
  long_item (suc zero) lt = ap Some f.second
  long_item (suc (suc zero)) lt = ap Some f.third
  long_item (suc (suc (suc zero))) lt = ap Some f.fourth
  long_item (suc (suc (suc (suc i)))) lt = absurd (omega arith)

stored_item : (store : Storing) (t : State) → HasFour t → (i : ℕ) → i < stored_size store → slice_get (stored_bytes store t) i ≡ Some (byte_of i (eax_of t))
stored_item WordByY t f i lt = word_item t f i lt
stored_item WordAtSp t f i lt = word_item t f i lt
stored_item LongByY t f i lt = long_item t f i lt
stored_item ByteThrough t f i lt = byte_item t f i lt
stored_item WordThrough t f i lt = word_item t f i lt
stored_item LongThrough t f i lt = long_item t f i lt

stored_length : (store : Storing) (t : State) → length (stored_bytes store t) ≡ stored_size store
stored_length WordByY t = refl
stored_length WordAtSp t = refl
stored_length LongByY t = refl
stored_length ByteThrough t = refl
stored_length WordThrough t = refl
stored_length LongThrough t = refl

-- ---- rows

-- a byte of what is stored, and one that is counted from sp: it waits, or is stored
abbrev IsTarget : ℕ → ℕ → ℕ → Type 0
IsTarget to size b = (i : ℕ) × (i < size) × (b ≡ to + i)

abbrev IsCounted : ℕ → ℕ → ℕ → ℕ → ℕ → Type 0
IsCounted sp taken to size b = ((sp ≤ b) × (b < sp + taken)) ⊎ IsTarget to size b

-- the row of a store of these bytes from an address on
record IsStore (store : Storing) (to : ℕ) (t : State) (row : Row) : Type 0 where
  quiet : IsQuiet row
  ready : row.ready ≡ true
  sp : row.sp ≡ sp_of t + taken_by store
  writes : row.writes ≡ listed (stored_bytes store t) to
  near : All (IsCounted (sp_of t) (taken_by store) to (stored_size store)) row.near
  far : All (IsTarget to (stored_size store)) row.far

record HasStore (store : Storing) (to : ℕ) (t : State) : Type 0 where
  row : Row
  is : row_of (storing_of store) t ≡ Some row
  stores : IsStore store to t row
  value : (u : State) → Meets row t u → Stays store t u

-- the addresses of what is stored, and of what waits
targets : (to size from : ℕ) → to ≡ from → All (IsTarget to size) (range_of size from)
targets to size from e = subst (λ p. All (IsTarget to size) (range_of size p)) e (in_range (IsTarget to size) size to (λ i lt. (i, lt, refl)))

near_targets : (sp to size from : ℕ) → to ≡ from → All (IsCounted sp 0 to size) (range_of size from)
near_targets sp to size from e = subst (λ p. All (IsCounted sp 0 to size) (range_of size p)) e (in_range (IsCounted sp 0 to size) size to (λ i lt. inr (i, lt, refl)))

waiting : (sp to size : ℕ) → All (IsCounted sp 2 to size) (range_of 2 sp)
waiting sp to size = in_range (IsCounted sp 2 to size) 2 sp (λ i lt. inl (omega arith, omega (arith, lt)))

store_rows : (store : Storing) (to : ℕ) (t : State) → GoesTo store to t → HasStore store to t
store_rows WordByY to t e = record {
  row = _;
  is = refl;
  stores = record { quiet = quiet_row _ refl refl refl refl refl; ready = at_most t.regs.y 254 e.1; sp = omega arith; writes = ap (listed (t.regs.a ∷ t.regs.x ∷ [])) (sym e.0); near = near_targets (sp_of t) to 2 (sp_of t + t.regs.y) e.0; far = All-nil _ };
  value = λ u meets. let a = meets.a in let x = meets.x in omega (arith, a, x);
}
store_rows WordAtSp to t e = record {
  row = _;
  is = refl;
  stores = record { quiet = quiet_row _ refl refl refl refl refl; ready = refl; sp = omega arith; writes = ap (listed (t.regs.a ∷ t.regs.x ∷ [])) (sym e); near = near_targets (sp_of t) to 2 (sp_of t) e; far = All-nil _ };
  value = λ u meets. let a = meets.a in let x = meets.x in omega (arith, a, x);
}
store_rows LongByY to t e = record {
  row = _;
  is = refl;
  stores = record { quiet = quiet_row _ refl refl refl refl refl; ready = at_most t.regs.y 252 e.1; sp = omega arith; writes = ap (listed (t.regs.a ∷ t.regs.x ∷ t.zp 2 ∷ t.zp 3 ∷ [])) (sym e.0); near = near_targets (sp_of t) to 4 (sp_of t + t.regs.y) e.0; far = All-nil _ };
  value = λ u meets. let a = meets.a in let x = meets.x in let s = meets.sreg in omega (arith, a, x, s);
}
store_rows ByteThrough to t e = record {
  row = _;
  is = refl;
  stores = record { quiet = quiet_row _ refl refl refl refl refl; ready = refl; sp = refl; writes = ap (listed (t.regs.a ∷ [])) (sym e); near = waiting (sp_of t) to 1; far = targets to 1 (word_at t.mem (sp_of t)) e };
  value = λ u meets. meets.a;
}
store_rows WordThrough to t e = record {
  row = _;
  is = refl;
  stores = record { quiet = quiet_row _ refl refl refl refl refl; ready = refl; sp = refl; writes = ap (listed (t.regs.a ∷ t.regs.x ∷ [])) (sym e); near = waiting (sp_of t) to 2; far = targets to 2 (word_at t.mem (sp_of t)) e };
  value = λ u meets. let a = meets.a in let x = meets.x in omega (arith, a, x);
}
store_rows LongThrough to t e = record {
  row = _;
  is = refl;
  stores = record { quiet = quiet_row _ refl refl refl refl refl; ready = refl; sp = refl; writes = ap (listed (t.regs.a ∷ t.regs.x ∷ t.zp 2 ∷ t.zp 3 ∷ [])) (sym e); near = waiting (sp_of t) to 4; far = targets to 4 (word_at t.mem (sp_of t)) e };
  value = λ u meets. let a = meets.a in let x = meets.x in let s = meets.sreg in omega (arith, a, x, s);
}

-- ---- what they leave

all_by : (P Q : ℕ → Type 0) → ((b : ℕ) → P b → Q b) → (xs : List ℕ) → All P xs → All Q xs
all_by P Q f [] h = All-nil Q
all_by P Q f (x ∷ xs) h = All-cons Q x xs (f x (All-head P x xs h)) (all_by P Q f xs (All-tail P x xs h))

module _ (g : World) (placed : IsPlacement g.code g.place) where
  pub data_is_low : (b : ℕ) → IsTrue (g.place.is_data b) → b < stack_start
  data_is_low b d =
      let h = placed.data_of b d in
      omega (arith, h.3.to, placed.high h.0 h.1 h.2)

module _ (g : World) (a : Active) (pushed needs : ℕ) (c : Scene) (w : Placing) (k : Banks) (t : State) (store : Storing) (b : ℕ) (x : Block) (at o : ℕ) (new : ℕ → Cell) (placed : IsPlacement g.code g.place) (r : Ready g a (pushed + taken_by store) needs c w k t) (m : MayPut g a c w b x (At at) o (stored_size store)) (laid : (i : ℕ) → i < stored_size store → CellIs w (new i) (byte_of i (eax_of t))) where
  stacks : HasStacks g t
  stacks = ready_is_calm g a (pushed + taken_by store) needs c w k t r

  -- a byte of the place
  opened : (bound i : ℕ) → bound ≤ a.base → i < stored_size store → IsOpen g.place bound (at + o + i)
  opened bound i le lt = go (r.joins.reached b x at (o + i) m.block (omega (arith, lt, m.fits)))
    where
      inside : at + (o + i) < 65520
      inside = omega (arith, lt, m.fits, r.joins.stands.whole b x m.block.is, (r.joins.stands.lies b x (At at) m.block).1)

      go : IsTrue (g.place.is_data (at + (o + i))) ⊎ (a.base ≤ at + (o + i)) → IsOpen g.place bound (at + o + i)
      go (inl d) = let e : at + (o + i) ≡ at + o + i = omega arith in inl (rw (sym e) d)
      go (inr h) = inr (omega (arith, h, le), omega (arith, inside))

  module _ (row : Row) (s : IsStore store (at + o) t row) where
    access : HasRoom g.place row t
    access = record {
      ready = s.ready;
      soft = stacks.soft;
      hard = stacks.hard;
      near = all_by (IsCounted (sp_of t) (taken_by store) (at + o) (stored_size store)) (IsOpen g.place (min (sp_of t) row.sp)) near row.near s.near;
      far = all_by (IsTarget (at + o) (stored_size store)) (IsOpen g.place (max (sp_of t) row.sp)) (λ n h. rw h.2 (opened (max (sp_of t) row.sp) h.0 (omega (arith, r.sp, s.sp)) h.1)) row.far s.far;
    }
      where
        near : (n : ℕ) → IsCounted (sp_of t) (taken_by store) (at + o) (stored_size store) n → IsOpen g.place (min (sp_of t) row.sp) n
        near n (inl h) = inr (omega (arith, h.0), omega (arith, h.1, r.sp, r.joins.top))
        near n (inr h) = rw h.2 (opened (min (sp_of t) row.sp) h.0 (omega (arith, r.sp)) h.1)

    module _ (u : State) (meets : Meets row t u) (bytes : IsBytes u) where
      -- memory is as the writes leave it, but for scratch bytes below sp
      is_written : (n : ℕ) → (n < stack_start) ⊎ (sp_of t ≤ n) → u.mem n ≡ written t.mem (listed (stored_bytes store t) (at + o)) n
      is_written n side = meets.mem n (kept side) ∙ ap (λ ws. written t.mem ws n) s.writes
        where
          kept : (n < stack_start) ⊎ (sp_of t ≤ n) → (n + row.room < sp_of t) ⊎ ((sp_of t ≤ n) ⊎ (row.settled ≤ n))
          kept (inl h) = inl (omega (arith, h, stacks.soft, s.quiet.room))
          kept (inr h) = inr (inl h)

      only : OnlyStored a (sp_of t) (At at) o (stored_size store) t u
      only = record {
        mem = λ n side beside. is_written n side ∙ listed_other t.mem (stored_bytes store t) (at + o) n (λ i lt e. beside i (omega (arith, lt, stored_length store t)) (ap At (omega (arith, e))));
        bank = λ i lt beside. meets.kept (Zp (20 + i)) (s.quiet.silent.bank i lt);
        pushed = meets.pushed;
        frames = meets.frames;
        input = meets.input ∙ ap (λ n. drop n t.input) s.quiet.silent.taken;
        output = meets.output ∙ ap (λ xs. t.output ++ xs) s.quiet.silent.out ∙ append_nothing t.output;
        ended = meets.ended ∙ s.quiet.silent.ends ∙ sym r.joins.ended;
        bytes = bytes;
      }

      are_laid : AreLaid w (At at) o (stored_size store) new u
      are_laid i lt =
          let e : at + (o + i) ≡ at + o + i = omega arith in
          let there : u.mem (at + o + i) ≡ written t.mem (listed (stored_bytes store t) (at + o)) (at + o + i) = is_written (at + o + i) (side (opened a.base i (omega arith) lt)) in
          let item : written t.mem (listed (stored_bytes store t) (at + o)) (at + o + i) ≡ byte_of i (eax_of t) =
          item_is (written t.mem (listed (stored_bytes store t) (at + o))) (stored_bytes store t) (at + o) i (byte_of i (eax_of t)) (listed_are_at t.mem (stored_bytes store t) (at + o)) (stored_item store t (four_bytes t r.joins.bytes) i lt) in
          subst (λ v. CellIs w (new i) v) (sym (ap u.mem e ∙ there ∙ item)) (laid i lt)
        where
          side : IsOpen g.place a.base (at + o + i) → (at + o + i < stack_start) ⊎ (sp_of t ≤ at + o + i)
          side (inl d) = inl (data_is_low g placed (at + o + i) d)
          side (inr h) = inr (omega (arith, h.0, r.sp))

      is_stored : Stays store t u → IsStored g a pushed needs c w k store b x o new t u
      is_stored value =
          let sp : sp_of u ≡ sp_of t + taken_by store = meets.sp ∙ s.sp in
          let banks : AreBanks a k u k = (banks_follow a k t u o (stored_size store)).1 at r.joins.bank only in
          record {
            taken = puts_are_taken g a pushed needs (taken_by store) c w k k t u b x (At at) o (stored_size store) new placed r m only are_laid banks sp;
            value = value;
          }

pub stores_run : StoresRun
stores_run g a pushed needs c w k t store b x at o new placed r m to laid =
    let h = store_rows store (at + o) t to in
    runs_by g (storing_of store) t h.row (IsStored g a pushed needs c w k store b x o new t) h.is (access g a pushed needs c w k t store b x at o new placed r m laid h.row h.stores) (λ u meets bytes.
    is_stored g a pushed needs c w k t store b x at o new placed r m laid h.row h.stores u meets bytes (h.value u meets))
