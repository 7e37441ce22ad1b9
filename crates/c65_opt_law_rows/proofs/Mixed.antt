-- A state after a routine that has, where its row leaves a part open, the value of another state after it.
use Rattle.std.proofs.Common.{◌≡◌, ℕ, ◌<◌, ◌≤◌, ◌==◌, ◌+◌, ◌*◌, Bool, true, false, ◌&&◌, not, if◌then◌else◌, ◌⊎◌, inl, inr, Option, Some, None, List, [], ◌∷◌, ◌++◌, length, drop, refl, sym, subst, ap, ◌∙◌, arith}
use Rattle.std.specs.Prelude.{nat_lt, is_some}
use Rattle.std.proofs.lemmas.Bool.{cases_lt, cases_eq, lt-ltb, le-ltb}
use Rattle.c65_code.specs.declared.parts.Part.{Part}
use Rattle.c65_code.specs.declared.parts.Part.TheVariants.{A, X, Y, Zp, N, V, Z, C}
use Rattle.c65_code.specs.declared.parts.RegSet.{RegSet}
use Rattle.c65_code.specs.LineState.{Bytes, write, State, sp_of, sreg_of, Same, IsBytes}
use Rattle.c65_code.specs.Parts.{has_part}
use Rattle.c65_code.specs.Placement.{stack_start}
use Rattle.c65_code.specs.Rows.{Row, written, Gives, GivesPointers, GivesBytes, GivesBank, Meets}
use Rattle.c65_opt_law_near.specs.Near.{Near}

-- ---- writes

abbrev pub IsWritten : ℕ → List (ℕ × ℕ) → Type 0
IsWritten b [] = ⊥
IsWritten b (w ∷ ws) = (b ≡ w.0) ⊎ IsWritten b ws

written_one : (m k : Bytes) (at v b : ℕ) → (m b ≡ k b) ⊎ (b ≡ at) → write m at v b ≡ write k at v b
written_one m k at v b h = pick (b == at) refl h
  where
    pick : (c : Bool) → (b == at) ≡ c → (m b ≡ k b) ⊎ (b ≡ at) → (if c then v else m b) ≡ (if c then v else k b)
    pick true e h = refl
    pick false e (inl h) = h
    pick false e (inr h) = let yes : (b == at) ≡ true = grind arith in absurd (cc)

-- what is written is the same whatever stood there
pub written_same : (ws : List (ℕ × ℕ)) (m k : Bytes) (b : ℕ) → (m b ≡ k b) ⊎ IsWritten b ws → written m ws b ≡ written k ws b
written_same [] m k b (inl h) = h
written_same [] m k b (inr h) = absurd h
written_same (w ∷ ws) m k b (inl h) = written_same ws (write m w.0 w.1) (write k w.0 w.1) b (inl (written_one m k w.0 w.1 b (inl h)))
written_same (w ∷ ws) m k b (inr (inl h)) = written_same ws (write m w.0 w.1) (write k w.0 w.1) b (inl (written_one m k w.0 w.1 b (inr h)))
written_same (w ∷ ws) m k b (inr (inr h)) = written_same ws (write m w.0 w.1) (write k w.0 w.1) b (inr h)

-- ---- what rows from near states have in common

-- a byte below sp of which the row says nothing
abbrev pub IsLeft : Row → State → ℕ → Type 0
IsLeft row t b = (b < row.settled) × (sp_of t ≤ b + row.room)

abbrev pub IsBank : Option (List ℕ) → Type 0
IsBank None = Unit {0}
IsBank (Some vs) = length vs ≡ 6

pub record RowSame (row other : Row) (t : State) : Type 0 where
  pub sp : row.sp ≡ other.sp
  pub changes : row.changes ≡ other.changes
  pub reach : row.room ≡ other.room
  pub settled : row.settled ≡ other.settled
  pub a : has_part row.changes A ≡ true → row.a ≡ other.a
  pub x : has_part row.changes X ≡ true → row.x ≡ other.x
  pub sreg_low : has_part row.changes (Zp 2) ≡ true → row.sreg ≡ other.sreg
  pub sreg_high : has_part row.changes (Zp 3) ≡ true → row.sreg ≡ other.sreg
  pub pointers : row.pointers ≡ other.pointers
  pub bank : row.bank ≡ other.bank
  pub bank_long : IsBank row.bank
  pub writes : row.writes ≡ other.writes
  -- what the row lowers sp by, it writes or leaves open
  pub covers : stack_start ≤ row.sp → (b : ℕ) → row.sp ≤ b → b < sp_of t → IsWritten b row.writes ⊎ IsLeft row t b
  pub taken : row.taken ≡ other.taken
  pub out : row.out ≡ other.out
  pub ends : row.ends ≡ other.ends

-- ---- a choice of two values

abbrev pub chosen : {K : Type 0} → Bool → Bool → K → K → K
chosen may given new old = if may then (if given then old else new) else old

chosen_given : {K : Type 0} (may given : Bool) (new old : K) → given ≡ true → chosen may given new old ≡ old
chosen_given true true new old h = refl
chosen_given true false new old h = absurd (cc)
chosen_given false given new old h = refl

chosen_kept : {K : Type 0} (may given : Bool) (new old : K) → may ≡ false → chosen may given new old ≡ old
chosen_kept true given new old h = absurd (cc)
chosen_kept false given new old h = refl

chosen_same : {K : Type 0} (may given : Bool) (new old : K) → (may ≡ true → given ≡ true → old ≡ new) → (may ≡ false → old ≡ new) → chosen may given new old ≡ new
chosen_same true true new old h k = h refl refl
chosen_same true false new old h k = refl
chosen_same false given new old h k = k refl

chosen_byte : (may given : Bool) (new old : ℕ) → new < 256 → old < 256 → chosen may given new old < 256
chosen_byte true true new old h k = k
chosen_byte true false new old h k = h
chosen_byte false given new old h k = k

-- whether a row gives a byte of the zero page
abbrev pub is_given : Row → ℕ → Bool
is_given row i =
    if nat_lt i 2 then true else (
    if nat_lt i 4 then is_some row.sreg else (
    if nat_lt i 8 then false else (
    if nat_lt i 12 then is_some row.pointers else (
    if nat_lt i 20 then false else (
    if nat_lt i 26 then is_some row.bank else true)))))

word_parts : (a b c d : ℕ) → a < 256 → c < 256 → a + 256 * b ≡ c + 256 * d → (a ≡ c) × (b ≡ d)
word_parts a b c d h k e = (omega arith, omega arith)

bytes_given : (vs : List ℕ) (at : ℕ) (v w : Bytes) → GivesBytes at vs v → GivesBytes at vs w → (i : ℕ) → at ≤ i → i < at + length vs → v i ≡ w i
bytes_given [] at v w g h i low high = absurd (omega arith)
bytes_given (x ∷ vs) at v w g h i low high = pick (cases_eq i at) (λ more. bytes_given vs (at + 1) v w g.1 h.1 i more (omega arith))
  where
    pick : (i ≡ at) ⊎ (i ≡ at → ⊥) → (at + 1 ≤ i → v i ≡ w i) → v i ≡ w i
    pick (inl e) later = ap v e ∙ (g.0 ∙ sym h.0) ∙ ap w (sym e)
    pick (inr ne) later = later (omega arith)

module _ (row other : Row) (t u v w : State) (live after : RegSet) (n : Near live t u) (mv : Meets row t v) (mw : Meets other u w) (bv : IsBytes v) (bw : IsBytes w) (low : stack_start ≤ sp_of v) (same : RowSame row other t)
    (keeps : (p : Part) → has_part after p ≡ true → has_part row.changes p ≡ false → Same p t u) where
  same_sp : sp_of t ≡ sp_of u
  same_sp = let low : t.zp 0 ≡ u.zp 0 = n.sp_low in let high : t.zp 1 ≡ u.zp 1 = n.sp_high in omega arith

  -- a byte of memory that the row leaves open
  abbrev pub is_open : ℕ → Bool
  is_open b = nat_lt b (sp_of t) && (nat_lt b row.settled && not (nat_lt (b + row.room) (sp_of t)))

  abbrev pub may : Part → Bool
  may p = has_part row.changes p

  abbrev pub mixed : State
  mixed = record v {
    regs = record {
      a = chosen (may A) (is_some row.a) w.regs.a v.regs.a;
      x = chosen (may X) (is_some row.x) w.regs.x v.regs.x;
      y = chosen (may Y) false w.regs.y v.regs.y;
      n = chosen (may N) false w.regs.n v.regs.n;
      v = chosen (may V) false w.regs.v v.regs.v;
      z = chosen (may Z) false w.regs.z v.regs.z;
      c = chosen (may C) false w.regs.c v.regs.c;
    };
    zp = λ i. chosen (may (Zp i)) (is_given row i) (w.zp i) (v.zp i);
    mem = λ b. if is_open b then w.mem b else v.mem b;
  }

  -- ---- it meets the row

  gives : (may : Bool) (o : Option ℕ) (new old : ℕ) → Gives o old → Gives o (chosen may (is_some o) new old)
  gives may None new old g = tt
  gives may (Some x) new old g = chosen_given may true new old refl ∙ g

  zero_given : (i : ℕ) → is_given row i ≡ true → chosen (may (Zp i)) (is_given row i) (w.zp i) (v.zp i) ≡ v.zp i
  zero_given i h = chosen_given (may (Zp i)) (is_given row i) (w.zp i) (v.zp i) h

  word_mixed : (i j : ℕ) → is_given row i ≡ true → is_given row j ≡ true
      → chosen (may (Zp i)) (is_given row i) (w.zp i) (v.zp i) + 256 * chosen (may (Zp j)) (is_given row j) (w.zp j) (v.zp j) ≡ v.zp i + 256 * v.zp j
  word_mixed i j h k = ap (λ (x : ℕ). x + 256 * chosen (may (Zp j)) (is_given row j) (w.zp j) (v.zp j)) (zero_given i h) ∙ ap (λ (x : ℕ). v.zp i + 256 * x) (zero_given j k)

  sreg_met : (o : Option ℕ) → row.sreg ≡ o → Gives o (sreg_of v) → Gives o (sreg_of mixed)
  sreg_met None e g = tt
  sreg_met (Some x) e g = word_mixed 2 3 (ap is_some e) (ap is_some e) ∙ g

  pointers_met : (o : Option (ℕ × ℕ)) → row.pointers ≡ o → GivesPointers o v.zp → GivesPointers o mixed.zp
  pointers_met None e g = tt
  pointers_met (Some x) e g = (word_mixed 8 9 (ap is_some e) (ap is_some e) ∙ g.0, word_mixed 10 11 (ap is_some e) (ap is_some e) ∙ g.1)

  bank_bytes : (vs : List ℕ) (at : ℕ) → is_some row.bank ≡ true → 20 ≤ at → at + length vs ≤ 26 → GivesBytes at vs v.zp → GivesBytes at vs mixed.zp
  bank_bytes [] at e low high g = tt
  bank_bytes (x ∷ vs) at e low high g = (zero_given at (given at e low (omega arith)) ∙ g.0, bank_bytes vs (at + 1) e (omega arith) (omega arith) g.1)
    where
      given : (i : ℕ) → is_some row.bank ≡ true → 20 ≤ i → i < 26 → is_given row i ≡ true
      given i e low lt = rw (le-ltb i 2 (omega arith), le-ltb i 4 (omega arith), le-ltb i 8 (omega arith), le-ltb i 12 (omega arith), le-ltb i 20 (omega arith), lt-ltb i 26 (omega arith)) e

  bank_met : (o : Option (List ℕ)) → row.bank ≡ o → IsBank o → GivesBank o v.zp → GivesBank o mixed.zp
  bank_met None e i g = tt
  bank_met (Some vs) e i g = bank_bytes vs 20 (ap is_some e) (omega arith) (omega arith) g

  kept_part : (p : Part) → has_part row.changes p ≡ false → Same p t v → Same p t mixed
  kept_part A h k = k ∙ sym (chosen_kept (may A) (is_some row.a) w.regs.a v.regs.a h)
  kept_part X h k = k ∙ sym (chosen_kept (may X) (is_some row.x) w.regs.x v.regs.x h)
  kept_part Y h k = k ∙ sym (chosen_kept (may Y) false w.regs.y v.regs.y h)
  kept_part (Zp i) h k = k ∙ sym (chosen_kept (may (Zp i)) (is_given row i) (w.zp i) (v.zp i) h)
  kept_part N h k = k ∙ sym (chosen_kept (may N) false w.regs.n v.regs.n h)
  kept_part V h k = k ∙ sym (chosen_kept (may V) false w.regs.v v.regs.v h)
  kept_part Z h k = k ∙ sym (chosen_kept (may Z) false w.regs.z v.regs.z h)
  kept_part C h k = k ∙ sym (chosen_kept (may C) false w.regs.c v.regs.c h)

  high_given : (i : ℕ) → 26 ≤ i → is_given row i ≡ true
  high_given i h = rw (le-ltb i 2 (omega arith), le-ltb i 4 (omega arith), le-ltb i 8 (omega arith), le-ltb i 12 (omega arith), le-ltb i 20 (omega arith), le-ltb i 26 (omega arith)) refl

  closed : (b : ℕ) → (b + row.room < sp_of t) ⊎ ((sp_of t ≤ b) ⊎ (row.settled ≤ b)) → is_open b ≡ false
  closed b (inl h) = below (nat_lt b (sp_of t)) (nat_lt b row.settled) _ (lt-ltb (b + row.room) (sp_of t) h)
    where
      below : (p q r : Bool) → r ≡ true → (p && (q && not r)) ≡ false
      below true true true h = refl
      below true false true h = refl
      below false q true h = refl
      below p q false h = absurd (cc)
  closed b (inr (inl h)) = rw (le-ltb b (sp_of t) h) refl
  closed b (inr (inr h)) = second (nat_lt b (sp_of t)) _ _ (le-ltb b row.settled h)
    where
      second : (p q r : Bool) → q ≡ false → (p && (q && r)) ≡ false
      second true true r h = absurd (cc)
      second true false r h = refl
      second false q r h = refl

  pub meets : Meets row t mixed
  meets = record {
    sp = word_mixed 0 1 refl refl ∙ mv.sp;
    a = gives (may A) row.a w.regs.a v.regs.a mv.a;
    x = gives (may X) row.x w.regs.x v.regs.x mv.x;
    sreg = sreg_met row.sreg refl mv.sreg;
    pointers = pointers_met row.pointers refl mv.pointers;
    bank = bank_met row.bank refl same.bank_long mv.bank;
    kept = λ p h. kept_part p h (mv.kept p h);
    high = λ i h. mv.high i h ∙ sym (zero_given i (high_given i h));
    mem = λ b h. subst (λ (c : Bool). (if c then w.mem b else v.mem b) ≡ written t.mem row.writes b) (sym (closed b h)) (mv.mem b h);
    pushed = mv.pushed;
    frames = mv.frames;
    input = mv.input;
    output = mv.output;
    ended = mv.ended;
  }

  pub mixed_bytes : IsBytes mixed
  mixed_bytes = record {
    a = chosen_byte (may A) (is_some row.a) w.regs.a v.regs.a bw.a bv.a;
    x = chosen_byte (may X) (is_some row.x) w.regs.x v.regs.x bw.x bv.x;
    y = chosen_byte (may Y) false w.regs.y v.regs.y bw.y bv.y;
    zp = λ i. chosen_byte (may (Zp i)) (is_given row i) (w.zp i) (v.zp i) (bw.zp i) (bv.zp i);
    mem = λ b. pick b (is_open b);
    pushed = bv.pushed;
    frames = bv.frames;
  }
    where
      pick : (b : ℕ) (c : Bool) → (if c then w.mem b else v.mem b) < 256
      pick b true = bw.mem b
      pick b false = bv.mem b

  -- ---- it is near the other state

  other_kept : (p : Part) → has_part row.changes p ≡ false → Same p u w
  other_kept p h = mw.kept p (subst (λ (s : RegSet). has_part s p ≡ false) same.changes h)

  given_both : (o q : Option ℕ) (x y : ℕ) → o ≡ q → is_some o ≡ true → Gives o x → Gives q y → x ≡ y
  given_both None q x y e s g h = absurd (cc)
  given_both (Some k) None x y e s g h = absurd (cc)
  given_both (Some k) (Some j) x y e s g h = let same : k ≡ j = cc in g ∙ (same ∙ sym h)

  same_pair : (a b : ℕ × ℕ) → Some a ≡ Some b → (a.0 ≡ b.0) × (a.1 ≡ b.1)
  same_pair a b e = let f : a ≡ b = cc in (ap (λ (p : ℕ × ℕ). p.0) f, ap (λ (p : ℕ × ℕ). p.1) f)

  pointer_both : (o q : Option (ℕ × ℕ)) → o ≡ q → is_some o ≡ true → GivesPointers o v.zp → GivesPointers q w.zp → (v.zp 8 ≡ w.zp 8) × (v.zp 9 ≡ w.zp 9) × (v.zp 10 ≡ w.zp 10) × (v.zp 11 ≡ w.zp 11)
  pointer_both None q e s g h = absurd (cc)
  pointer_both (Some k) None e s g h = absurd (cc)
  pointer_both (Some k) (Some j) e s g h =
      let both = same_pair k j e in
      let one = word_parts (v.zp 8) (v.zp 9) (w.zp 8) (w.zp 9) (bv.zp 8) (bw.zp 8) (g.0 ∙ (both.0 ∙ sym h.0)) in
      let two = word_parts (v.zp 10) (v.zp 11) (w.zp 10) (w.zp 11) (bv.zp 10) (bw.zp 10) (g.1 ∙ (both.1 ∙ sym h.1)) in
      (one.0, one.1, two.0, two.1)

  bank_both : (o q : Option (List ℕ)) → o ≡ q → is_some o ≡ true → IsBank o → GivesBank o v.zp → GivesBank q w.zp → (i : ℕ) → 20 ≤ i → i < 26 → v.zp i ≡ w.zp i
  bank_both None q e s b g h i low lt = absurd (cc)
  bank_both (Some vs) None e s b g h i low lt = absurd (cc)
  bank_both (Some vs) (Some ws) e s b g h i low lt =
      let f : vs ≡ ws = cc in
      bytes_given vs 20 v.zp w.zp g (subst (λ (xs : List ℕ). GivesBytes 20 xs w.zp) (sym f) h) i low (omega arith)

  sp_both : (v.zp 0 ≡ w.zp 0) × (v.zp 1 ≡ w.zp 1)
  sp_both = word_parts (v.zp 0) (v.zp 1) (w.zp 0) (w.zp 1) (bv.zp 0) (bw.zp 0) (mv.sp ∙ (same.sp ∙ sym mw.sp))

  sreg_both : is_some row.sreg ≡ true → row.sreg ≡ other.sreg → (v.zp 2 ≡ w.zp 2) × (v.zp 3 ≡ w.zp 3)
  sreg_both s e = word_parts (v.zp 2) (v.zp 3) (w.zp 2) (w.zp 3) (bv.zp 2) (bw.zp 2) (given_both row.sreg other.sreg (sreg_of v) (sreg_of w) e s mv.sreg mw.sreg)

  high_both : (i : ℕ) → 26 ≤ i → v.zp i ≡ w.zp i
  high_both i h = sym (mv.high i h) ∙ (n.high i h ∙ mw.high i h)

  zero_both : (i : ℕ) → has_part row.changes (Zp i) ≡ true → is_given row i ≡ true → v.zp i ≡ w.zp i
  zero_both i may h = under_2 (cases_lt i 2)
    where
      first : (i < 2) → v.zp i ≡ w.zp i
      first lt = pick (cases_eq i 0)
        where
          pick : (i ≡ 0) ⊎ (i ≡ 0 → ⊥) → v.zp i ≡ w.zp i
          pick (inl e) = subst (λ (j : ℕ). v.zp j ≡ w.zp j) (sym e) sp_both.0
          pick (inr ne) = let e : i ≡ 1 = omega arith in subst (λ (j : ℕ). v.zp j ≡ w.zp j) (sym e) sp_both.1

      second : 2 ≤ i → i < 4 → v.zp i ≡ w.zp i
      second low lt = pick (cases_eq i 2)
        where
          given : is_some row.sreg ≡ true
          given = rw (le-ltb i 2 low, lt-ltb i 4 lt) at h

          pick : (i ≡ 2) ⊎ (i ≡ 2 → ⊥) → v.zp i ≡ w.zp i
          pick (inl e) = subst (λ (j : ℕ). v.zp j ≡ w.zp j) (sym e) (sreg_both given (same.sreg_low (subst (λ (j : ℕ). has_part row.changes (Zp j) ≡ true) e may))).0
          pick (inr ne) = let e : i ≡ 3 = omega arith in subst (λ (j : ℕ). v.zp j ≡ w.zp j) (sym e) (sreg_both given (same.sreg_high (subst (λ (j : ℕ). has_part row.changes (Zp j) ≡ true) e may))).1

      third : 8 ≤ i → i < 12 → v.zp i ≡ w.zp i
      third low lt = pick (cases_lt i 9) (cases_lt i 10) (cases_lt i 11)
        where
          given : is_some row.pointers ≡ true
          given = rw (le-ltb i 2 (omega arith), le-ltb i 4 (omega arith), le-ltb i 8 low, lt-ltb i 12 lt) at h

          each : (v.zp 8 ≡ w.zp 8) × (v.zp 9 ≡ w.zp 9) × (v.zp 10 ≡ w.zp 10) × (v.zp 11 ≡ w.zp 11)
          each = pointer_both row.pointers other.pointers same.pointers given mv.pointers mw.pointers

          pick : (i < 9) ⊎ (9 ≤ i) → (i < 10) ⊎ (10 ≤ i) → (i < 11) ⊎ (11 ≤ i) → v.zp i ≡ w.zp i
          pick (inl a) b c = let e : i ≡ 8 = omega arith in subst (λ (j : ℕ). v.zp j ≡ w.zp j) (sym e) each.0
          pick (inr a) (inl b) c = let e : i ≡ 9 = omega arith in subst (λ (j : ℕ). v.zp j ≡ w.zp j) (sym e) each.1
          pick (inr a) (inr b) (inl c) = let e : i ≡ 10 = omega arith in subst (λ (j : ℕ). v.zp j ≡ w.zp j) (sym e) each.2
          pick (inr a) (inr b) (inr c) = let e : i ≡ 11 = omega arith in subst (λ (j : ℕ). v.zp j ≡ w.zp j) (sym e) each.3

      never : 4 ≤ i → i < 8 → ⊥
      never low lt = let f : false ≡ true = rw (le-ltb i 2 (omega arith), le-ltb i 4 low, lt-ltb i 8 lt) at h in cc

      neither : 12 ≤ i → i < 20 → ⊥
      neither low lt = let f : false ≡ true = rw (le-ltb i 2 (omega arith), le-ltb i 4 (omega arith), le-ltb i 8 (omega arith), le-ltb i 12 low, lt-ltb i 20 lt) at h in cc

      fourth : 20 ≤ i → i < 26 → v.zp i ≡ w.zp i
      fourth low lt = bank_both row.bank other.bank same.bank given same.bank_long mv.bank mw.bank i low lt
        where
          given : is_some row.bank ≡ true
          given = rw (le-ltb i 2 (omega arith), le-ltb i 4 (omega arith), le-ltb i 8 (omega arith), le-ltb i 12 (omega arith), le-ltb i 20 low, lt-ltb i 26 lt) at h

      under_26 : 20 ≤ i → (i < 26) ⊎ (26 ≤ i) → v.zp i ≡ w.zp i
      under_26 low (inl lt) = fourth low lt
      under_26 low (inr ge) = high_both i ge

      under_20 : 12 ≤ i → (i < 20) ⊎ (20 ≤ i) → v.zp i ≡ w.zp i
      under_20 low (inl lt) = absurd (neither low lt)
      under_20 low (inr ge) = under_26 ge (cases_lt i 26)

      under_12 : 8 ≤ i → (i < 12) ⊎ (12 ≤ i) → v.zp i ≡ w.zp i
      under_12 low (inl lt) = third low lt
      under_12 low (inr ge) = under_20 ge (cases_lt i 20)

      under_8 : 4 ≤ i → (i < 8) ⊎ (8 ≤ i) → v.zp i ≡ w.zp i
      under_8 low (inl lt) = absurd (never low lt)
      under_8 low (inr ge) = under_12 ge (cases_lt i 12)

      under_4 : 2 ≤ i → (i < 4) ⊎ (4 ≤ i) → v.zp i ≡ w.zp i
      under_4 low (inl lt) = second low lt
      under_4 low (inr ge) = under_8 ge (cases_lt i 8)

      under_2 : (i < 2) ⊎ (2 ≤ i) → v.zp i ≡ w.zp i
      under_2 (inl lt) = first lt
      under_2 (inr ge) = under_4 ge (cases_lt i 4)

  part : (p : Part) → has_part after p ≡ true → Same p mixed w
  part A h = chosen_same (may A) (is_some row.a) w.regs.a v.regs.a (λ c g. given_both row.a other.a v.regs.a w.regs.a (same.a c) g mv.a mw.a) (λ c. sym (mv.kept A c) ∙ (keeps A h c ∙ other_kept A c))
  part X h = chosen_same (may X) (is_some row.x) w.regs.x v.regs.x (λ c g. given_both row.x other.x v.regs.x w.regs.x (same.x c) g mv.x mw.x) (λ c. sym (mv.kept X c) ∙ (keeps X h c ∙ other_kept X c))
  part Y h = chosen_same (may Y) false w.regs.y v.regs.y (λ c g. absurd (cc)) (λ c. sym (mv.kept Y c) ∙ (keeps Y h c ∙ other_kept Y c))
  part (Zp i) h = chosen_same (may (Zp i)) (is_given row i) (w.zp i) (v.zp i) (λ c g. zero_both i c g) (λ c. sym (mv.kept (Zp i) c) ∙ (keeps (Zp i) h c ∙ other_kept (Zp i) c))
  part N h = chosen_same (may N) false w.regs.n v.regs.n (λ c g. absurd (cc)) (λ c. sym (mv.kept N c) ∙ (keeps N h c ∙ other_kept N c))
  part V h = chosen_same (may V) false w.regs.v v.regs.v (λ c g. absurd (cc)) (λ c. sym (mv.kept V c) ∙ (keeps V h c ∙ other_kept V c))
  part Z h = chosen_same (may Z) false w.regs.z v.regs.z (λ c g. absurd (cc)) (λ c. sym (mv.kept Z c) ∙ (keeps Z h c ∙ other_kept Z c))
  part C h = chosen_same (may C) false w.regs.c v.regs.c (λ c g. absurd (cc)) (λ c. sym (mv.kept C c) ∙ (keeps C h c ∙ other_kept C c))

  -- a byte that is in both as the rows say
  mem_both : (b : ℕ) → (b < stack_start) ⊎ (row.sp ≤ b) → is_open b ≡ false → v.mem b ≡ w.mem b
  mem_both b h shut = mv.mem b here ∙ (written_same row.writes t.mem u.mem b (was h) ∙ (ap (λ (ws : List (ℕ × ℕ)). written u.mem ws b) same.writes ∙ sym (mw.mem b there)))
    where
      three : (x y z : Bool) → (b < sp_of t → x ≡ true) → (b < row.settled → y ≡ true) → (sp_of t ≤ b + row.room → z ≡ false) → (x && (y && not z)) ≡ false → (b < sp_of t) ⊎ (sp_of t ≤ b) → (b < row.settled) ⊎ (row.settled ≤ b)
          → (b + row.room < sp_of t) ⊎ (sp_of t ≤ b + row.room) → (b + row.room < sp_of t) ⊎ ((sp_of t ≤ b) ⊎ (row.settled ≤ b))
      three x y z f g k e (inr p) q r = inr (inl p)
      three x y z f g k e p (inr q) r = inr (inr q)
      three x y z f g k e p q (inl r) = inl r
      three x y z f g k e (inl p) (inl q) (inr r) = let a : x ≡ true = f p in let c : y ≡ true = g q in let d : z ≡ false = k r in absurd (clash x y z a c d e)
        where
          clash : (x y z : Bool) → x ≡ true → y ≡ true → z ≡ false → (x && (y && not z)) ≡ false → ⊥
          clash true true false a c d e = cc
          clash false y z a c d e = cc
          clash true false z a c d e = cc
          clash true true true a c d e = cc

      here : (b + row.room < sp_of t) ⊎ ((sp_of t ≤ b) ⊎ (row.settled ≤ b))
      here = three (nat_lt b (sp_of t)) (nat_lt b row.settled) (nat_lt (b + row.room) (sp_of t)) (lt-ltb b (sp_of t)) (lt-ltb b row.settled) (le-ltb (b + row.room) (sp_of t)) shut (cases_lt b (sp_of t)) (cases_lt b row.settled) (cases_lt (b + row.room) (sp_of t))

      there : (b + other.room < sp_of u) ⊎ ((sp_of u ≤ b) ⊎ (other.settled ≤ b))
      there = subst (λ (k : ℕ). (b + k < sp_of u) ⊎ ((sp_of u ≤ b) ⊎ (other.settled ≤ b))) same.reach
          (subst (λ (k : ℕ). (b + row.room < k) ⊎ ((k ≤ b) ⊎ (other.settled ≤ b))) same_sp
          (subst (λ (k : ℕ). (b + row.room < sp_of t) ⊎ ((sp_of t ≤ b) ⊎ (k ≤ b))) same.settled here))

      was : (b < stack_start) ⊎ (row.sp ≤ b) → (t.mem b ≡ u.mem b) ⊎ IsWritten b row.writes
      was (inl h) = inl (n.mem b (inl h))
      was (inr h) = pick (cases_lt b (sp_of t))
        where
          covered : (b + row.room < sp_of t) ⊎ ((sp_of t ≤ b) ⊎ (row.settled ≤ b)) → IsWritten b row.writes ⊎ IsLeft row t b → (t.mem b ≡ u.mem b) ⊎ IsWritten b row.writes
          covered k (inl w) = inr w
          covered (inl k) (inr o) = absurd (omega (arith, k, o.1))
          covered (inr (inl k)) (inr o) = inl (n.mem b (inr k))
          covered (inr (inr k)) (inr o) = absurd (omega (arith, k, o.0))

          pick : (b < sp_of t) ⊎ (sp_of t ≤ b) → (t.mem b ≡ u.mem b) ⊎ IsWritten b row.writes
          pick (inl lt) = covered here (same.covers (subst (λ (k : ℕ). stack_start ≤ k) mv.sp low) b h lt)
          pick (inr ge) = inl (n.mem b (inr ge))

  pub near : Near after mixed w
  near = record {
    part = λ p h. part p h;
    sp_low = zero_given 0 refl ∙ sp_both.0;
    sp_high = zero_given 1 refl ∙ sp_both.1;
    high = λ i h. zero_given i (high_given i h) ∙ high_both i h;
    mem = λ b h. memory b (is_open b) refl (at_sp b h);
    pushed = mv.pushed ∙ (n.pushed ∙ sym mw.pushed);
    input = mv.input ∙ (ap (λ (k : ℕ). drop k t.input) same.taken ∙ (ap (drop other.taken) n.input ∙ sym mw.input));
    output = mv.output ∙ (ap (λ (vs : List ℕ). t.output ++ vs) same.out ∙ (ap (λ (vs : List ℕ). vs ++ other.out) n.output ∙ sym mw.output));
    ended = mv.ended ∙ (same.ends ∙ sym mw.ended);
  }
    where
      at_sp : (b : ℕ) → (b < stack_start) ⊎ (sp_of mixed ≤ b) → (b < stack_start) ⊎ (row.sp ≤ b)
      at_sp b (inl h) = inl h
      at_sp b (inr h) = inr (subst (λ (k : ℕ). k ≤ b) (word_mixed 0 1 refl refl ∙ mv.sp) h)

      memory : (b : ℕ) (c : Bool) → is_open b ≡ c → (b < stack_start) ⊎ (row.sp ≤ b) → (if c then w.mem b else v.mem b) ≡ w.mem b
      memory b true e h = refl
      memory b false e h = mem_both b h e
