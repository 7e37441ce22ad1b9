-- `puts` (C90 7.9.7.10)
use Rattle.std.proofs.Common.{◌≡◌, ◌≢◌, ℕ, zero, suc, ◌+◌, ◌-◌, ◌*◌, ◌/◌, ◌%◌, ◌<◌, ◌≤◌, ◌⊎◌, inl, inr, Bool, true, false, IsTrue, List, [], ◌∷◌, ◌++◌, All, None, nat_eq, length, refl, sym, ap, subst, ◌∙◌, arith}
use Rattle.std.specs.Prelude.{◌==◌, if◌then◌else◌, nat_lt, max, drop}
use Rattle.std.proofs.lemmas.List.{append-nil, append_assoc}
use Rattle.std.proofs.lemmas.List.Elements.{All-nil, All-cons}
use Rattle.std.proofs.lemmas.Bool.Decides.{eqb_tells}
use Rattle.c65_base.specs.declared.library.Library.TheVariants.{Putchar, Puts, Strlen}
use Rattle.c65_mach.specs.State.{Regs}
use Rattle.c65_mach.specs.declared.rows.Op.TheVariants.{Lda, Ldx, Ldy, Rts, Tax}
use Rattle.c65_code.specs.declared.routine.Count.TheVariants.{Four}
use Rattle.c65_code.specs.declared.routine.Routine.{Routine}
use Rattle.c65_code.specs.declared.routine.Routine.TheVariants as routines
use Rattle.c65_code.specs.declared.routine.Width.TheVariants.{Ax}
use Rattle.c65_code.specs.declared.line.Line.{Line}
use Rattle.c65_code.specs.LineState.{Place, State, Bytes, write, word_at, sp_of, ax_of, IsBytes}
use Rattle.c65_code.specs.Segments.{is_among}
use Rattle.c65_code.specs.Steady.{IsOpen}
use Rattle.c65_code.specs.Texts.{bytes_at, range_of, length_within, text_length}
use Rattle.c65_code.specs.Rows.{Row, Meets, row_by, giving, popping, costing, by_bytes}
use Rattle.c65_code.specs.RawMachine.{RawSetting, Bounds, IsReachable, called, HasDone, entry_of, quiet, write_hook, MayRun, Runs, reach_of}
use Rattle.c65_rtl.specs.Assembly.{implied, value, call}
use Rattle.c65_rtl.proofs.Ways.{Ends, weaken}
use Rattle.c65_rtl.proofs.Meeting.{write_other, ends_by}
use Rattle.c65_rtl.proofs.Opens.{OpenBytes, opens_far}
use Rattle.c65_rtl.proofs.Pushes.{write_same, meets_by}
use Rattle.c65_rtl.proofs.Stores.{write_like}
use Rattle.c65_rtl_law_walks.proofs.Ranges.{range_length, all_in_range}
use Rattle.c65_rtl_law_walks.proofs.Walks.{Takes, Calls, Hooks, leads_in, weight_in, walks_calling}
use Rattle.c65_rtl_law_inner.proofs.Kept.{keeps, kept_from}
use Rattle.c65_rtl_law_inner.proofs.Pops.{above_or_below}
use Rattle.c65_rtl_law_inner.proofs.Beside.{returns, outside, values, rewritten}
use Rattle.c65_rtl_law_inner.proofs.Pushes.{pushax_row, push_word_comes}
use Rattle.c65_rtl_law_inner.proofs.Loads.{ldaxysp_row, load_word_comes}
use Rattle.c65_rtl_law_inner.proofs.Moves.{raised_row, raise_four_comes}
use Rattle.c65_rtl_law_strings.proofs.Lengths.{IsText, text_is}
use Rattle.c65_rtl_law_strings.proofs.StringLength.{roomy_row, strlen_comes}
use Rattle.c65_rtl_law_library.specs.Rows.{Holds, LinesAreWritten}
use Rattle.c65_rtl_law_library.proofs.Deep.{open_below, all_two, all_four}
use Rattle.c65_rtl_law_library.proofs.Steps.{one}
use Rattle.c65_rtl_law_library.proofs.Putchar.{putchar_row, putchar_comes}

-- the text in another memory that has the same bytes
length_from : (fuel at : ℕ) (m : Bytes) (n : ℕ) → IsText m at n → n < fuel → length_within fuel at m ≡ n
length_from zero at m n text few = absurd (omega arith)
length_from (suc fuel) at m zero text few =
    let e : at + 0 ≡ at = omega arith in
    pick (eqb_tells (m at) 0)
  where
    here_is : m at ≡ 0
    here_is = let e : at ≡ at + 0 = omega arith in ap m e ∙ text.ends

    pick : ((nat_eq (m at) 0 ≡ true) × (m at ≡ 0)) ⊎ ((nat_eq (m at) 0 ≡ false) × (m at ≢ 0)) → length_within (suc fuel) at m ≡ 0
    pick (inl same) = ap (λ (b : Bool). if b then 0 else suc (length_within fuel (at + 1) m)) same.0
    pick (inr other) = absurd (other.1 here_is)
length_from (suc fuel) at m (suc n) text few = pick (eqb_tells (m at) 0) (length_from fuel (at + 1) m n rest (omega arith))
  where
    first : m at ≢ 0
    first = λ h. let e : at + 0 ≡ at = omega arith in text.before 0 (omega arith) (ap m e ∙ h)

    rest : IsText m (at + 1) n
    rest = record {
      ends = (let e : at + 1 + n ≡ at + suc n = omega arith in ap m e ∙ text.ends);
      before = λ j less h. (let e : at + suc j ≡ at + 1 + j = omega arith in text.before (suc j) (omega arith) (ap m e ∙ h));
    }

    pick : ((nat_eq (m at) 0 ≡ true) × (m at ≡ 0)) ⊎ ((nat_eq (m at) 0 ≡ false) × (m at ≢ 0)) → length_within fuel (at + 1) m ≡ n → length_within (suc fuel) at m ≡ suc n
    pick (inl same) again = absurd (first same.1)
    pick (inr other) again = ap (λ (b : Bool). if b then 0 else suc (length_within fuel (at + 1) m)) other.0 ∙ ap suc again

within_is : (at : ℕ) (m : Bytes) → text_length at m ≡ length_within 65536 at m
unfolding text_length
within_is at m = refl

same_length : (m n : Bytes) (at : ℕ) → text_length at m < 65536 → ((j : ℕ) → j ≤ text_length at m → n (at + j) ≡ m (at + j)) → text_length at n ≡ text_length at m
same_length m n at small same =
    let text : IsText m at (text_length at m) = text_is at m small in
    let there : IsText n at (text_length at m) = record { ends = same (text_length at m) (omega arith) ∙ text.ends; before = λ j few h. text.before j few (sym (same j (omega arith)) ∙ h) } in
    within_is at n ∙ length_from 65536 at n (text_length at m) there small

same_bytes : (count at : ℕ) (m n : Bytes) → ((j : ℕ) → j < count → n (at + j) ≡ m (at + j)) → bytes_at count at n ≡ bytes_at count at m
same_bytes zero at m n same = refl
same_bytes (suc count) at m n same =
    let e : at + 0 ≡ at = omega arith in
    let first : n at ≡ m at = subst (λ (b : ℕ). n b ≡ m b) e (same 0 (omega arith)) in
    ap (λ (v : ℕ). v ∷ bytes_at count (at + 1) n) first ∙ ap (λ (vs : List ℕ). m at ∷ vs) (same_bytes count (at + 1) m n (λ j few. let f : at + suc j ≡ at + 1 + j = omega arith in subst (λ (b : ℕ). n b ≡ m b) f (same (suc j) (omega arith))))

-- a word in memory
abbrev with_word : Bytes → ℕ → ℕ → ℕ → Bytes
with_word m at low high = write (write m at low) (at + 1) high

word_low_is : (m : Bytes) (at low high : ℕ) → with_word m at low high at ≡ low
word_low_is m at low high = let apart : at ≢ at + 1 = omega arith in write_other (write m at low) (at + 1) high at apart ∙ write_same m at low at refl

word_high_is : (m : Bytes) (at low high : ℕ) → with_word m at low high (at + 1) ≡ high
word_high_is m at low high = write_same (write m at low) (at + 1) high (at + 1) refl

word_other : (m : Bytes) (at low high b : ℕ) → b ≢ at → b ≢ at + 1 → with_word m at low high b ≡ m b
word_other m at low high b e f = write_other (write m at low) (at + 1) high b f ∙ write_other m at low b e

abbrev takes : ℕ → Routine → Takes
takes count routines.PushAx = record { below = 2; pushed = 1; weight = 15 }
takes count routines.LdAxYSp = record { below = 0; pushed = 0; weight = 5 }
takes count (routines.IncSp c) = record { below = 0; pushed = 0; weight = 10 }
takes count (routines.Library Strlen) = record { below = 0; pushed = 0; weight = 12 * count + 44 }
takes count (routines.Library Putchar) = record { below = 6; pushed = 3; weight = 87 }
takes count _ = record { below = 0; pushed = 0; weight = 0 }

abbrev Forward : RawSetting → Bounds → ℕ → (State → Type 0) → List Line → State → Type 0
Forward s bounds count P lines u = leads_in s bounds 5 (takes count) P lines None u

abbrev end_lines : List Line
end_lines = value Lda 0 ∷ implied Tax ∷ implied Rts ∷ []

abbrev feed_lines : List Line
feed_lines = value Lda 10 ∷ value Ldx 0 ∷ call (routines.Library Putchar) ∷ end_lines

abbrev drop_lines : List Line
drop_lines = call (routines.IncSp Four) ∷ feed_lines

abbrev five_on : List Line → List Line
five_on rest = value Ldy 5 ∷ call routines.LdAxYSp ∷ rest

abbrev hook_lines : List Line
hook_lines = call routines.HookWrite ∷ drop_lines

abbrev address_lines : List Line
address_lines = call routines.PushAx ∷ five_on hook_lines

abbrev file_lines : List Line
file_lines = value Lda 1 ∷ value Ldx 0 ∷ call routines.PushAx ∷ five_on address_lines

abbrev count_lines : List Line
count_lines = call routines.PushAx ∷ file_lines

abbrev puts_lines : List Line
puts_lines = call routines.PushAx ∷ call (routines.Library Strlen) ∷ count_lines

-- the pieces
push_at : (s : RawSetting) (bounds : Bounds) (count : ℕ) (P : State → Type 0) (rest : List Line) (u : State) → Calls s bounds 5 (takes count) routines.PushAx (leads_in s bounds 5 (takes count) P rest) u → Forward s bounds count P (call routines.PushAx ∷ rest) u
unfolding leads_in
push_at s bounds count P rest u h = h

strlen_at : (s : RawSetting) (bounds : Bounds) (count : ℕ) (P : State → Type 0) (rest : List Line) (u : State) → Calls s bounds 5 (takes count) (routines.Library Strlen) (leads_in s bounds 5 (takes count) P rest) u → Forward s bounds count P (call (routines.Library Strlen) ∷ rest) u
unfolding leads_in
strlen_at s bounds count P rest u h = h

abbrev fived : State → State
fived u = record u { regs = record u.regs { y = 5; n = nat_lt 127 5; z = nat_eq 5 0 } }

five_at : (s : RawSetting) (bounds : Bounds) (count : ℕ) (P : State → Type 0) (rest : List Line) (u : State) → Calls s bounds 5 (takes count) routines.LdAxYSp (leads_in s bounds 5 (takes count) P rest) (fived u) → Forward s bounds count P (five_on rest) u
unfolding leads_in
five_at s bounds count P rest u h = h

one_at : (s : RawSetting) (bounds : Bounds) (count : ℕ) (P : State → Type 0) (rest : List Line) (u : State) → Forward s bounds count P rest (one u) → Forward s bounds count P (value Lda 1 ∷ value Ldx 0 ∷ rest) u
unfolding leads_in
one_at s bounds count P rest u h = h

abbrev write_row : State → Row
write_row u = write_hook u (popping 4 u (quiet routines.HookWrite u))

write_at : (s : RawSetting) (bounds : Bounds) (count : ℕ) (P : State → Type 0) (rest : List Line) (u : State) → Hooks s bounds 5 (write_row u) (leads_in s bounds 5 (takes count) P rest) u → Forward s bounds count P (call routines.HookWrite ∷ rest) u
unfolding leads_in
write_at s bounds count P rest u h = h

raise_at : (s : RawSetting) (bounds : Bounds) (count : ℕ) (P : State → Type 0) (rest : List Line) (u : State) → Calls s bounds 5 (takes count) (routines.IncSp Four) (leads_in s bounds 5 (takes count) P rest) u → Forward s bounds count P (call (routines.IncSp Four) ∷ rest) u
unfolding leads_in
raise_at s bounds count P rest u h = h

abbrev feeding : State → State
feeding u = record u { regs = record u.regs { a = 10; x = 0; n = nat_lt 127 0; z = nat_eq 0 0 } }

feed_at : (s : RawSetting) (bounds : Bounds) (count : ℕ) (P : State → Type 0) (u : State) → Calls s bounds 5 (takes count) (routines.Library Putchar) (leads_in s bounds 5 (takes count) P end_lines) (feeding u) → Forward s bounds count P feed_lines u
unfolding leads_in
feed_at s bounds count P u h = h

end_at : (s : RawSetting) (bounds : Bounds) (count : ℕ) (P : State → Type 0) (u : State) → u.pushed ≡ [] → ((n z : Bool) → P (record u { regs = record u.regs { a = 0; x = 0; n = n; z = z } })) → Forward s bounds count P end_lines u
unfolding leads_in
end_at s bounds count P u none h = returns P _ none (h _ _)

-- So many bytes below the sp of the call, with this memory, and these bytes told: the zero page behind the scratch bytes is as at
-- the call.
record Below (t : State) (depth : ℕ) (memory : Bytes) (told : List ℕ) (u : State) : Type 0 where
  sp : sp_of u + depth ≡ sp_of t
  mem : (b : ℕ) → u.mem b ≡ memory b
  rest : (i : ℕ) → 20 ≤ i → u.zp i ≡ t.zp i
  pushed : u.pushed ≡ []
  input : u.input ≡ t.input
  output : u.output ≡ t.output ++ told
  ended : u.ended ≡ None

-- a state that differs in its registers alone
below_like : (t : State) (depth : ℕ) (memory : Bytes) (told : List ℕ) (u : State) (regs : Regs) → Below t depth memory told u → Below t depth memory told (record u { regs = regs })
below_like t depth memory told u regs k = record { sp = k.sp; mem = k.mem; rest = k.rest; pushed = k.pushed; input = k.input; output = k.output; ended = k.ended }

-- behind a row that takes no input
below_on : (t : State) (depth depth_on : ℕ) (memory memory_on : Bytes) (told told_on : List ℕ) (row : Row) (u w : State) → Below t depth memory told u → Meets row u w → row.sp + depth_on ≡ sp_of t → ((b : ℕ) → w.mem b ≡ memory_on b)
    → IsTrue (keeps 6 20 row.changes) → row.taken ≡ 0 → told ++ row.out ≡ told_on → row.ends ≡ None → Below t depth_on memory_on told_on w
below_on t depth depth_on memory memory_on told told_on row u w k m at same kept none tells goes_on =
    let moved = m.sp in
    record {
      sp = omega arith;
      mem = same;
      rest = λ i above. kept_from row u w 20 m kept i above ∙ k.rest i above;
      pushed = m.pushed ∙ k.pushed;
      input = m.input ∙ (ap (λ (n : ℕ). drop n u.input) none ∙ k.input);
      output = m.output ∙ (ap (λ (bs : List ℕ). bs ++ row.out) k.output ∙ (append_assoc t.output told row.out ∙ ap (λ (bs : List ℕ). t.output ++ bs) tells));
      ended = m.ended ∙ goes_on;
    }

abbrev count_of : State → ℕ
count_of t = text_length (ax_of t) t.mem

abbrev text_of : State → List ℕ
text_of t = bytes_at (count_of t) (ax_of t) t.mem

abbrev puts_row : State → Row
puts_row t = by_bytes (giving Ax 0 (record (costing 256 (row_by (routines.Library Puts) t)) { out = text_of t ++ 10 ∷ []; far = range_of (count_of t + 1) (ax_of t) }))

all_range : (Q : ℕ → Type 0) (count at : ℕ) → ((k : ℕ) → k < count → Q (at + k)) → All Q (range_of count at)
all_range Q zero at h = All-nil Q
all_range Q (suc count) at h =
    let e : at + 0 ≡ at = omega arith in
    All-cons Q at (range_of count (at + 1)) (subst Q e (h 0 (omega arith))) (all_range Q count (at + 1) (λ k few. let f : at + suc k ≡ at + 1 + k = omega arith in subst Q f (h (suc k) (omega arith))))

-- another memory that is the same
same_memory : (t : State) (depth : ℕ) (memory other : Bytes) (told : List ℕ) (u : State) → ((b : ℕ) → memory b ≡ other b) → Below t depth memory told u → Below t depth other told u
same_memory t depth memory other told u same k = record { sp = k.sp; mem = λ b. k.mem b ∙ same b; rest = k.rest; pushed = k.pushed; input = k.input; output = k.output; ended = k.ended }

abbrev told_row : State → Row
told_row u = record (giving Ax (ax_of u) (popping 4 u (quiet routines.HookWrite u))) { out = bytes_at (ax_of u) (word_at u.mem (sp_of u)) u.mem; far = range_of (ax_of u) (word_at u.mem (sp_of u)) }

told_is : (u : State) → word_at u.mem (sp_of u + 2) ≡ 1 → write_row u ≡ told_row u
told_is u e = ap (λ (k : ℕ). if k == 1 then told_row u else giving Ax 65535 (popping 4 u (quiet routines.HookWrite u))) e

-- the scratch bytes
abbrev places : List ℕ
places = 2 ∷ 3 ∷ 4 ∷ 5 ∷ 6 ∷ 7 ∷ 8 ∷ 9 ∷ 10 ∷ 11 ∷ 12 ∷ 13 ∷ 14 ∷ 15 ∷ 16 ∷ 17 ∷ 18 ∷ 19 ∷ []

above_places : (i : ℕ) → 2 ≤ i → is_among places i ≡ false → 20 ≤ i
above_places i two out =
    let e2 = outside places 2 i refl out in
    let e3 = outside places 3 i refl out in
    let e4 = outside places 4 i refl out in
    let e5 = outside places 5 i refl out in
    let e6 = outside places 6 i refl out in
    let e7 = outside places 7 i refl out in
    let e8 = outside places 8 i refl out in
    let e9 = outside places 9 i refl out in
    let e10 = outside places 10 i refl out in
    let e11 = outside places 11 i refl out in
    let e12 = outside places 12 i refl out in
    let e13 = outside places 13 i refl out in
    let e14 = outside places 14 i refl out in
    let e15 = outside places 15 i refl out in
    let e16 = outside places 16 i refl out in
    let e17 = outside places 17 i refl out in
    let e18 = outside places 18 i refl out in
    let e19 = outside places 19 i refl out in
    omega arith

module _ (s : RawSetting) (back : Place) (t : State) (word_has : Holds s routines.PushAx) (length_has : Holds s (routines.Library Strlen)) (load_has : Holds s routines.LdAxYSp) (raise_has : Holds s (routines.IncSp Four))
    (put_has : Holds s (routines.Library Putchar)) (pop_has : Holds s routines.PopAx) (may : MayRun s (puts_row t) t) where
  abbrev P : State → Type 0
  P = Ends (puts_row t) t

  abbrev bounds : Bounds
  bounds = reach_of t

  abbrev low : ℕ
  low = count_of t % 256

  abbrev high : ℕ
  high = count_of t / 256 % 256

  -- memory as it is pushed: the text's address, its length, the descriptor, and the address again
  abbrev one_word : Bytes
  one_word = with_word t.mem (sp_of t - 2) t.regs.a t.regs.x

  abbrev two_words : Bytes
  two_words = with_word one_word (sp_of t - 4) low high

  abbrev three_words : Bytes
  three_words = with_word two_words (sp_of t - 6) 1 0

  abbrev all_words : Bytes
  all_words = with_word three_words (sp_of t - 8) t.regs.a t.regs.x

  soft : 8 ≤ sp_of t
  soft = let room = may.room.soft in omega arith

  -- the text's bytes
  bytes : OpenBytes s.place bounds (count_of t + 1) (ax_of t)
  bytes = opens_far s (puts_row t) (count_of t + 1) (ax_of t) t refl may

  short : count_of t < 65536
  short = let end = bytes.below (count_of t) (omega arith) in omega arith

  -- what a row speaks of is none of the bytes that are pushed
  abbrev Spoken : ℕ → Type 0
  Spoken b = (b + 64 < sp_of t) ⊎ (sp_of t ≤ b)

  apart_from : (b : ℕ) → Spoken b → (a : ℕ) → a < sp_of t → sp_of t ≤ a + 64 → b ≢ a
  apart_from b (inl below) a under near = omega arith
  apart_from b (inr above) a under near = omega arith

  spoken_text : (j : ℕ) → j < count_of t + 1 → Spoken (ax_of t + j)
  spoken_text j few = by (all_in_range (IsOpen s.place (max (sp_of t) (sp_of t))) (count_of t + 1) (ax_of t) may.room.far j few)
    where
      by : IsOpen s.place (max (sp_of t) (sp_of t)) (ax_of t + j) → Spoken (ax_of t + j)
      by (inl data_of) = let under = may.data_low (ax_of t + j) data_of in let end = under.1 in let room = may.room.soft in inl (omega arith)
      by (inr within) = let above = within.0 in inr (omega arith)

  one_kept : (b : ℕ) → Spoken b → one_word b ≡ t.mem b
  one_kept b h = let fits = soft in word_other t.mem (sp_of t - 2) t.regs.a t.regs.x b (apart_from b h (sp_of t - 2) (omega arith) (omega arith)) (apart_from b h (sp_of t - 2 + 1) (omega arith) (omega arith))

  all_kept : (b : ℕ) → Spoken b → all_words b ≡ t.mem b
  all_kept b h =
      let fits = soft in
      word_other three_words (sp_of t - 8) t.regs.a t.regs.x b (apart_from b h (sp_of t - 8) (omega arith) (omega arith)) (apart_from b h (sp_of t - 8 + 1) (omega arith) (omega arith))
      ∙ (word_other two_words (sp_of t - 6) 1 0 b (apart_from b h (sp_of t - 6) (omega arith) (omega arith)) (apart_from b h (sp_of t - 6 + 1) (omega arith) (omega arith))
      ∙ (word_other one_word (sp_of t - 4) low high b (apart_from b h (sp_of t - 4) (omega arith) (omega arith)) (apart_from b h (sp_of t - 4 + 1) (omega arith) (omega arith)) ∙ one_kept b h))

  reach_below : (k : ℕ) → 1 ≤ k → k ≤ 8 → (b : ℕ) → b ≡ sp_of t - k → IsReachable s.place bounds b
  reach_below k some few b e = let room = may.room.soft in subst (λ (n : ℕ). IsReachable s.place bounds n) (sym e) (open_below s.place bounds t k some (omega arith) may.high)

  -- a word is pushed
  word_calls : (depth : ℕ) (memory : Bytes) (rest : List Line) (u : State) → depth + 2 ≤ 8 → Below t depth memory [] u
      → ((w : State) → w.regs.a ≡ u.regs.a → w.regs.x ≡ u.regs.x → Below t (depth + 2) (with_word memory (sp_of t - (depth + 2)) u.regs.a u.regs.x) [] w → Forward s bounds (count_of t) P rest w)
      → Forward s bounds (count_of t) P (call routines.PushAx ∷ rest) u
  word_calls depth memory rest u few k follows =
      let sp_is = k.sp in
      let room = may.room.soft in
      let high_sp = may.high in
      let fits = soft in
      let pushed = ap (λ (ps : List ℕ). length ps) k.pushed in
      let at : sp_of u - 2 ≡ sp_of t - (depth + 2) = omega arith in
      let next : sp_of u - 2 + 1 ≡ sp_of t - (depth + 2) + 1 = omega arith in
      push_at s bounds (count_of t) P rest u (record {
        row = pushax_row u;
        comes = λ may_in from. push_word_comes s word_has bounds from u may_in;
        goes_on = refl;
        ready = refl;
        near = all_two (IsReachable s.place bounds) (sp_of u - 2) (sp_of u - 2 + 1) (reach_below (depth + 2) (omega arith) (omega arith) (sp_of u - 2) at) (reach_below (depth + 1) (omega arith) (omega arith) (sp_of u - 2 + 1) (omega arith));
        far = All-nil (IsReachable s.place bounds);
        soft = omega arith;
        hard = omega arith;
        high = omega arith;
        data_low = may.data_low;
        follows = λ w m inner. follows w m.a m.x (below_on t depth (depth + 2) memory (with_word memory (sp_of t - (depth + 2)) u.regs.a u.regs.x) [] [] (pushax_row u) u w k m (omega arith)
            (λ b. m.mem b (above_or_below (sp_of u) b)
            ∙ write_like (write u.mem (sp_of u - 2) u.regs.a) (write memory (sp_of t - (depth + 2)) u.regs.a) (sp_of u - 2 + 1) (sp_of t - (depth + 2) + 1) u.regs.x b next (write_like u.mem memory (sp_of u - 2) (sp_of t - (depth + 2)) u.regs.a b at (k.mem b)))
            refl refl refl refl);
      })

  -- the word five bytes above the sp is loaded
  load_calls : (depth : ℕ) (memory : Bytes) (rest : List Line) (u : State) (v w : ℕ) → 6 ≤ depth → depth ≤ 8 → memory (sp_of t - (depth - 4)) ≡ v → memory (sp_of t - (depth - 4) + 1) ≡ w → v < 256 → w < 256 → Below t depth memory [] u
      → ((o : State) → o.regs.a ≡ v → o.regs.x ≡ w → Below t depth memory [] o → Forward s bounds (count_of t) P rest o) → Forward s bounds (count_of t) P (five_on rest) u
  load_calls depth memory rest u v w some few is_v is_w small_v small_w k follows =
      let sp_is = k.sp in
      let room = may.room.soft in
      let high_sp = may.high in
      let fits = soft in
      let pushed = ap (λ (ps : List ℕ). length ps) k.pushed in
      let o : State = fived u in
      let at : sp_of u + 5 - 1 ≡ sp_of t - (depth - 4) = omega arith in
      let next : sp_of u + 5 - 1 + 1 ≡ sp_of t - (depth - 4) + 1 = omega arith in
      let low_is : u.mem (sp_of u + 5 - 1) ≡ v = k.mem (sp_of u + 5 - 1) ∙ (ap memory at ∙ is_v) in
      let high_is : u.mem (sp_of u + 5 - 1 + 1) ≡ w = k.mem (sp_of u + 5 - 1 + 1) ∙ (ap memory next ∙ is_w) in
      five_at s bounds (count_of t) P rest u (record {
        row = ldaxysp_row o;
        comes = λ may_in from. load_word_comes s load_has bounds from o may_in;
        goes_on = refl;
        ready = refl;
        near = all_two (IsReachable s.place bounds) (sp_of u + 5 - 1) (sp_of u + 5 - 1 + 1) (open_at depth some few (sp_of u + 5 - 1) at) (open_next depth some few (sp_of u + 5 - 1 + 1) next);
        far = All-nil (IsReachable s.place bounds);
        soft = omega arith;
        hard = omega arith;
        high = omega arith;
        data_low = may.data_low;
        follows = λ p m inner. (let a = m.a in let x = m.x in follows p (omega arith) (omega arith) (below_on t depth depth memory memory [] [] (ldaxysp_row o) o p (below_like t depth memory [] u o.regs k) m sp_is
            (λ b. m.mem b (above_or_below (sp_of o) b) ∙ k.mem b) refl refl refl refl));
      })
    where
      open_at : (depth : ℕ) → 6 ≤ depth → depth ≤ 8 → (b : ℕ) → b ≡ sp_of t - (depth - 4) → IsReachable s.place bounds b
      open_at depth some few b e = reach_below (depth - 4) (omega arith) (omega arith) b e

      open_next : (depth : ℕ) → 6 ≤ depth → depth ≤ 8 → (b : ℕ) → b ≡ sp_of t - (depth - 4) + 1 → IsReachable s.place bounds b
      open_next depth some few b e = let fits = soft in reach_below (depth - 5) (omega arith) (omega arith) b (omega arith)

  -- the text is measured
  measure_at : (u : State) → u.regs.a ≡ t.regs.a → u.regs.x ≡ t.regs.x → Below t 2 one_word [] u → ((w : State) → w.regs.a ≡ low → w.regs.x ≡ high → Below t 2 one_word [] w → Forward s bounds (count_of t) P count_lines w)
      → Forward s bounds (count_of t) P (call (routines.Library Strlen) ∷ count_lines) u
  measure_at u a_is x_is k follows =
      let sp_is = k.sp in
      let room = may.room.soft in
      let high_sp = may.high in
      let fits = soft in
      let pushed = ap (λ (ps : List ℕ). length ps) k.pushed in
      let address : ax_of u ≡ ax_of t = ap (λ (v : ℕ). v + 256 * u.regs.x) a_is ∙ ap (λ (v : ℕ). t.regs.a + 256 * v) x_is in
      let same : text_length (ax_of u) u.mem ≡ count_of t = ap (λ (v : ℕ). text_length v u.mem) address ∙ same_length t.mem u.mem (ax_of t) short (λ j le. k.mem (ax_of t + j) ∙ one_kept (ax_of t + j) (spoken_text j (omega arith))) in
      let all : All (IsReachable s.place bounds) (range_of (count_of t + 1) (ax_of t)) = all_range (IsReachable s.place bounds) (count_of t + 1) (ax_of t) bytes.reach in
      let row : Row = roomy_row 0 (text_length (ax_of u) u.mem) u in
      strlen_at s bounds (count_of t) P count_lines u (record {
        row = row;
        comes = λ may_in from. weaken s bounds (HasDone None row from u) (12 * text_length (ax_of u) u.mem + 44) (12 * count_of t + 44) (entry_of s (s.routine (routines.Library Strlen))) (called from u) (omega arith) (strlen_comes s length_has 0 bounds from u may_in);
        goes_on = refl;
        ready = refl;
        near = All-nil (IsReachable s.place bounds);
        far = subst (λ (v : ℕ). All (IsReachable s.place bounds) (range_of (v + 1) (ax_of u))) (sym same) (subst (λ (v : ℕ). All (IsReachable s.place bounds) (range_of (count_of t + 1) v)) (sym address) all);
        soft = omega arith;
        hard = omega arith;
        high = omega arith;
        data_low = may.data_low;
        follows = λ w m inner. follows w (m.a ∙ ap (λ (v : ℕ). v % 256) same) (m.x ∙ ap (λ (v : ℕ). v / 256 % 256) same)
            (below_on t 2 2 one_word one_word [] [] row u w k m sp_is (λ b. m.mem b (above_or_below (sp_of u) b) ∙ k.mem b) refl refl refl refl);
      })

  -- once all is written but the line feed
  end_is : (u w : State) (n z : Bool) → Below t 0 all_words (text_of t) u → Meets (putchar_row (feeding u)) (feeding u) w → IsBytes w → P (record w { regs = record w.regs { a = 0; x = 0; n = n; z = z } })
  end_is u w n z k m inner =
      let sp_is = k.sp in
      let moved = m.sp in
      let t0 = may.bytes.zp 0 in
      let t1 = may.bytes.zp 1 in
      let w0 = inner.zp 0 in
      let w1 = inner.zp 1 in
      ends_by (puts_row t) t (record w { regs = record w.regs { a = 0; x = 0; n = n; z = z } }) (values w.zp places) (record {
        zp = λ i two. rewritten t.zp w.zp places i (λ out. kept_from (putchar_row (feeding u)) (feeding u) w 20 m refl i (above_places i two out) ∙ k.rest i (above_places i two out));
        fit = refl;
        small = (refl, refl, refl, refl, refl);
        low_kept = (let e : t.zp 0 ≡ w.zp 0 = omega arith in e);
        high_kept = (let e : t.zp 1 ≡ w.zp 1 = omega arith in e);
        a_kept = tt;
        x_kept = tt;
        sp = omega arith;
        a = refl;
        x = refl;
        sreg = tt;
        pointers = tt;
        bank = tt;
        mem = λ b h. m.mem b (near_by b h) ∙ (k.mem b ∙ all_kept b (spoken_by b h));
        input = m.input ∙ k.input;
        output = m.output ∙ (ap (λ (bs : List ℕ). bs ++ 10 ∷ []) k.output ∙ append_assoc t.output (text_of t) (10 ∷ []));
        ended = m.ended;
      })
    where
      same_sp : sp_of u ≡ sp_of t
      same_sp = let sp_is = k.sp in omega arith

      spoken_by : (b : ℕ) → (b + 64 < sp_of t) ⊎ ((sp_of t ≤ b) ⊎ (sp_of t ≤ b)) → Spoken b
      spoken_by b (inl below) = inl below
      spoken_by b (inr (inl above)) = inr above
      spoken_by b (inr (inr above)) = inr above

      near_by : (b : ℕ) → (b + 64 < sp_of t) ⊎ ((sp_of t ≤ b) ⊎ (sp_of t ≤ b)) → (b + 64 < sp_of u) ⊎ ((sp_of u ≤ b) ⊎ (sp_of u ≤ b))
      near_by b h = subst (λ (v : ℕ). (b + 64 < v) ⊎ ((v ≤ b) ⊎ (v ≤ b))) (sym same_sp) h

  -- the line feed
  feed_on : (u : State) → Below t 0 all_words (text_of t) u → Forward s bounds (count_of t) P feed_lines u
  feed_on u k =
      let sp_is = k.sp in
      let room = may.room.soft in
      let high_sp = may.high in
      let fits = soft in
      let pushed = ap (λ (ps : List ℕ). length ps) k.pushed in
      feed_at s bounds (count_of t) P u (record {
        row = putchar_row (feeding u);
        comes = λ may_in from. putchar_comes s put_has word_has pop_has bounds from (feeding u) may_in;
        goes_on = refl;
        ready = refl;
        near = All-nil (IsReachable s.place bounds);
        far = All-nil (IsReachable s.place bounds);
        soft = omega arith;
        hard = omega arith;
        high = omega arith;
        data_low = may.data_low;
        follows = λ w m inner. end_at s bounds (count_of t) P w (m.pushed ∙ k.pushed) (λ n z. end_is u w n z k m inner);
      })

  -- two words are dropped
  drop_on : (u : State) → Below t 4 all_words (text_of t) u → Forward s bounds (count_of t) P drop_lines u
  drop_on u k =
      let sp_is = k.sp in
      let room = may.room.soft in
      let high_sp = may.high in
      let fits = soft in
      let pushed = ap (λ (ps : List ℕ). length ps) k.pushed in
      raise_at s bounds (count_of t) P feed_lines u (record {
        row = raised_row Four u;
        comes = λ may_in from. raise_four_comes s raise_has bounds from u may_in;
        goes_on = refl;
        ready = refl;
        near = All-nil (IsReachable s.place bounds);
        far = All-nil (IsReachable s.place bounds);
        soft = omega arith;
        hard = omega arith;
        high = omega arith;
        data_low = may.data_low;
        follows = λ w m inner. feed_on w (below_on t 4 0 all_words all_words (text_of t) (text_of t) (raised_row Four u) u w k m (omega arith) (λ b. m.mem b (above_or_below (sp_of u) b) ∙ k.mem b) refl refl (append-nil (text_of t)) refl);
      })

  -- the hook writes the text
  hook_on : (u : State) → u.regs.a ≡ low → u.regs.x ≡ high → Below t 8 all_words [] u → Forward s bounds (count_of t) P hook_lines u
  hook_on u a_is x_is k =
      let sp_is = k.sp in
      let fits = soft in
      let few = short in
      let pushed = ap (λ (ps : List ℕ). length ps) k.pushed in
      let at8 : sp_of u ≡ sp_of t - 8 = omega arith in
      let at7 : sp_of u + 1 ≡ sp_of t - 8 + 1 = omega arith in
      let at6 : sp_of u + 2 ≡ sp_of t - 6 = omega arith in
      let at5 : sp_of u + 2 + 1 ≡ sp_of t - 6 + 1 = omega arith in
      let n68 : sp_of t - 6 ≢ sp_of t - 8 = omega arith in
      let n69 : sp_of t - 6 ≢ sp_of t - 8 + 1 = omega arith in
      let n58 : sp_of t - 6 + 1 ≢ sp_of t - 8 = omega arith in
      let n59 : sp_of t - 6 + 1 ≢ sp_of t - 8 + 1 = omega arith in
      let e8 : u.mem (sp_of u) ≡ t.regs.a = k.mem (sp_of u) ∙ (ap all_words at8 ∙ word_low_is three_words (sp_of t - 8) t.regs.a t.regs.x) in
      let e7 : u.mem (sp_of u + 1) ≡ t.regs.x = k.mem (sp_of u + 1) ∙ (ap all_words at7 ∙ word_high_is three_words (sp_of t - 8) t.regs.a t.regs.x) in
      let e6 : u.mem (sp_of u + 2) ≡ 1 = k.mem (sp_of u + 2) ∙ (ap all_words at6 ∙ (word_other three_words (sp_of t - 8) t.regs.a t.regs.x (sp_of t - 6) n68 n69 ∙ word_low_is two_words (sp_of t - 6) 1 0)) in
      let e5 : u.mem (sp_of u + 2 + 1) ≡ 0 = k.mem (sp_of u + 2 + 1) ∙ (ap all_words at5 ∙ (word_other three_words (sp_of t - 8) t.regs.a t.regs.x (sp_of t - 6 + 1) n58 n59 ∙ word_high_is two_words (sp_of t - 6) 1 0)) in
      let file : word_at u.mem (sp_of u + 2) ≡ 1 = omega arith in
      let address : word_at u.mem (sp_of u) ≡ ax_of t = omega arith in
      let number : ax_of u ≡ count_of t = omega arith in
      let told : bytes_at (ax_of u) (word_at u.mem (sp_of u)) u.mem ≡ text_of t = ap (λ (v : ℕ). bytes_at v (word_at u.mem (sp_of u)) u.mem) number ∙ (ap (λ (v : ℕ). bytes_at (count_of t) v u.mem) address
      ∙ same_bytes (count_of t) (ax_of t) t.mem u.mem (λ j less. k.mem (ax_of t + j) ∙ all_kept (ax_of t + j) (spoken_text j (omega arith)))) in
      let all : All (IsReachable s.place bounds) (range_of (count_of t) (ax_of t)) = all_range (IsReachable s.place bounds) (count_of t) (ax_of t) (λ j less. bytes.reach j (omega arith)) in
      write_at s bounds (count_of t) P drop_lines u
      (subst (λ (row : Row). Hooks s bounds 5 row (leads_in s bounds 5 (takes (count_of t)) P drop_lines) u) (sym (told_is u file)) (record {
        goes_on = refl;
        near = all_four (IsReachable s.place bounds) (sp_of u) (sp_of u + 1) (sp_of u + 1 + 1) (sp_of u + 1 + 1 + 1) (reach_below 8 (omega arith) (omega arith) (sp_of u) at8) (reach_below 7 (omega arith) (omega arith) (sp_of u + 1) (omega arith))
            (reach_below 6 (omega arith) (omega arith) (sp_of u + 1 + 1) (omega arith)) (reach_below 5 (omega arith) (omega arith) (sp_of u + 1 + 1 + 1) (omega arith));
        far = subst (λ (v : ℕ). All (IsReachable s.place bounds) (range_of v (word_at u.mem (sp_of u)))) (sym number) (subst (λ (v : ℕ). All (IsReachable s.place bounds) (range_of (count_of t) v)) (sym address) all);
        hard = omega arith;
        follows = λ w m inner. drop_on w (below_on t 8 4 all_words all_words [] (text_of t) (told_row u) u w k m (omega arith) (λ b. m.mem b (above_or_below (sp_of u) b) ∙ k.mem b) refl refl told refl);
      }))

  -- what is pushed before it
  length_on : (u : State) → u.regs.a ≡ t.regs.a → u.regs.x ≡ t.regs.x → Below t 6 three_words [] u → Forward s bounds (count_of t) P address_lines u
  length_on u a_is x_is k =
      let fits = soft in
      let n46 : sp_of t - 4 ≢ sp_of t - 6 = omega arith in
      let n47 : sp_of t - 4 ≢ sp_of t - 6 + 1 = omega arith in
      let n48 : sp_of t - 4 ≢ sp_of t - 8 = omega arith in
      let n49 : sp_of t - 4 ≢ sp_of t - 8 + 1 = omega arith in
      let n56 : sp_of t - 4 + 1 ≢ sp_of t - 6 = omega arith in
      let n57 : sp_of t - 4 + 1 ≢ sp_of t - 6 + 1 = omega arith in
      let n58 : sp_of t - 4 + 1 ≢ sp_of t - 8 = omega arith in
      let n59 : sp_of t - 4 + 1 ≢ sp_of t - 8 + 1 = omega arith in
      let e4 : all_words (sp_of t - 4) ≡ low = word_other three_words (sp_of t - 8) t.regs.a t.regs.x (sp_of t - 4) n48 n49 ∙ (word_other two_words (sp_of t - 6) 1 0 (sp_of t - 4) n46 n47 ∙ word_low_is one_word (sp_of t - 4) low high) in
      let e3 : all_words (sp_of t - 4 + 1) ≡ high = word_other three_words (sp_of t - 8) t.regs.a t.regs.x (sp_of t - 4 + 1) n58 n59 ∙ (word_other two_words (sp_of t - 6) 1 0 (sp_of t - 4 + 1) n56 n57 ∙ word_high_is one_word (sp_of t - 4) low high) in
      word_calls 6 three_words (five_on hook_lines) u (omega arith) k (λ w wa wx j.
      load_calls 8 all_words hook_lines w low high (omega arith) (omega arith) e4 e3 (omega arith) (omega arith)
      (same_memory t 8 (with_word three_words (sp_of t - 8) u.regs.a u.regs.x) all_words [] w
      (λ b. ap (λ (v : ℕ). with_word three_words (sp_of t - 8) v u.regs.x b) a_is ∙ ap (λ (v : ℕ). with_word three_words (sp_of t - 8) t.regs.a v b) x_is) j)
      (λ o oa ox i. hook_on o oa ox i))

  file_on : (u : State) → Below t 4 two_words [] u → Forward s bounds (count_of t) P file_lines u
  file_on u k =
      let fits = soft in
      let byte_a = may.bytes.a in
      let byte_x = may.bytes.x in
      let n24 : sp_of t - 2 ≢ sp_of t - 4 = omega arith in
      let n25 : sp_of t - 2 ≢ sp_of t - 4 + 1 = omega arith in
      let n26 : sp_of t - 2 ≢ sp_of t - 6 = omega arith in
      let n27 : sp_of t - 2 ≢ sp_of t - 6 + 1 = omega arith in
      let n34 : sp_of t - 2 + 1 ≢ sp_of t - 4 = omega arith in
      let n35 : sp_of t - 2 + 1 ≢ sp_of t - 4 + 1 = omega arith in
      let n36 : sp_of t - 2 + 1 ≢ sp_of t - 6 = omega arith in
      let n37 : sp_of t - 2 + 1 ≢ sp_of t - 6 + 1 = omega arith in
      let e2 : three_words (sp_of t - 2) ≡ t.regs.a = word_other two_words (sp_of t - 6) 1 0 (sp_of t - 2) n26 n27 ∙ (word_other one_word (sp_of t - 4) low high (sp_of t - 2) n24 n25 ∙ word_low_is t.mem (sp_of t - 2) t.regs.a t.regs.x) in
      let e1 : three_words (sp_of t - 2 + 1) ≡ t.regs.x = word_other two_words (sp_of t - 6) 1 0 (sp_of t - 2 + 1) n36 n37 ∙ (word_other one_word (sp_of t - 4) low high (sp_of t - 2 + 1) n34 n35 ∙ word_high_is t.mem (sp_of t - 2) t.regs.a t.regs.x) in
      one_at s bounds (count_of t) P (call routines.PushAx ∷ five_on address_lines) u
      (word_calls 4 two_words (five_on address_lines) (one u) (omega arith) (below_like t 4 two_words [] u (one u).regs k) (λ w wa wx j.
      load_calls 6 three_words address_lines w t.regs.a t.regs.x (omega arith) (omega arith) e2 e1 byte_a byte_x j
      (λ o oa ox i. length_on o oa ox i)))

  begins : Forward s bounds (count_of t) P puts_lines (called back t)
  begins =
      word_calls 0 t.mem (call (routines.Library Strlen) ∷ count_lines) (called back t) (omega arith)
      (record { sp = (let e : sp_of t + 0 ≡ sp_of t = omega arith in e); mem = λ b. refl; rest = λ i above. refl; pushed = refl; input = refl; output = sym (append-nil t.output); ended = may.running })
      (λ w wa wx j. measure_at w wa wx j (λ u ua ux k.
      word_calls 2 one_word file_lines u (omega arith) k (λ o oa ox i.
      file_on o (same_memory t 4 (with_word one_word (sp_of t - 4) u.regs.a u.regs.x) two_words [] o
      (λ b. ap (λ (v : ℕ). with_word one_word (sp_of t - 4) v u.regs.x b) ua ∙ ap (λ (v : ℕ). with_word one_word (sp_of t - 4) low v b) ux) i))))

  runs_so : s.lines (s.routine (routines.Library Puts)) ≡ puts_lines → Runs s (routines.Library Puts) (puts_row t) back t
  runs_so has =
      let hard = may.room.hard in
      let many : length (range_of (count_of t + 1) (ax_of t)) ≡ count_of t + 1 = range_length (count_of t + 1) (ax_of t) in
      record {
        weight = weight_in (takes (count_of t)) puts_lines;
        within = omega arith;
        comes = walks_calling s bounds 5 (takes (count_of t)) (routines.Library Puts) (puts_row t) back t puts_lines has refl (omega arith) may.bytes may.running refl begins;
      }

pub puts : LinesAreWritten
puts s has word_has length_has load_has raise_has put_has pop_has = meets_by s (routines.Library Puts) puts_row (λ t. refl) (λ back t may. runs_so s back t word_has length_has load_has raise_has put_has pop_has may has)
