-- A row whose numbers are bytes and words, and which keeps what it may not change, is met by some state.
use Rattle.std.proofs.Common.{◌≡◌, ℕ, ◌+◌, ◌*◌, ◌/◌, ◌%◌, ◌<◌, ◌≤◌, Bool, true, false, List, [], ◌∷◌, ◌++◌, ◌⊎◌, inl, inr, Option, Some, None, if◌then◌else◌, refl, sym, ap, ◌∙◌, arith}
use Rattle.std.specs.Prelude.{⊤, ◌==◌, drop}
use Rattle.c65_code.specs.declared.parts.Part.{Part}
use Rattle.c65_code.specs.declared.parts.Part.TheVariants.{A, X, Y, Zp, N, V, Z, C}
use Rattle.c65_code.specs.declared.parts.RegSet.{RegSet}
use Rattle.c65_code.specs.Parts.{has_part}
use Rattle.c65_code.specs.LineState.{Bytes, write, State, Same, IsBytes}
use Rattle.c65_code.specs.Rows.{Row, written, Gives, GivesPointers, GivesBank, Meets}

-- a byte that a row gives, where the part may change or stays
abbrev pub Fits : Bool → Option ℕ → ℕ → Type 0
Fits may None old = ⊤
Fits may (Some v) old = (v < 256) × ((may ≡ true) ⊎ (v ≡ old))

-- a word in two bytes of the zero page
pub record FitsWord (changes : RegSet) (at v : ℕ) (t : State) : Type 0 where
  pub small : v < 65536
  pub kept : ((has_part changes (Zp at) ≡ true) × (has_part changes (Zp (at + 1)) ≡ true)) ⊎ (v ≡ t.zp at + 256 * t.zp (at + 1))

abbrev pub FitsSreg : RegSet → Option ℕ → State → Type 0
FitsSreg changes None t = ⊤
FitsSreg changes (Some v) t = FitsWord changes 2 v t

abbrev pub AreWritten : List (ℕ × ℕ) → Type 0
AreWritten [] = ⊤
AreWritten (w ∷ ws) = (w.1 < 256) × AreWritten ws

-- a write in the zero page that a row may do
pub record IsFit (changes : RegSet) (t : State) (w : ℕ × ℕ) : Type 0 where
  pub place : w.0 < 26
  pub byte : w.1 < 256
  pub kept : (has_part changes (Zp w.0) ≡ true) ⊎ (w.1 ≡ t.zp w.0)

abbrev pub AreFit : RegSet → State → List (ℕ × ℕ) → Type 0
AreFit changes t [] = ⊤
AreFit changes t (w ∷ ws) = IsFit changes t w × AreFit changes t ws

abbrev pub or_old : Option ℕ → ℕ → ℕ
or_old None old = old
or_old (Some v) old = v

abbrev pub word_writes : ℕ → ℕ → List (ℕ × ℕ)
word_writes at v = (at, v % 256) ∷ (at + 1, v / 256) ∷ []

abbrev pub sreg_writes : Option ℕ → List (ℕ × ℕ)
sreg_writes None = []
sreg_writes (Some v) = word_writes 2 v

-- ---- the zero page

below_written : (m : Bytes) (ws : List (ℕ × ℕ)) → AreWritten ws → ((b : ℕ) → m b < 256) → (b : ℕ) → written m ws b < 256
below_written m [] h bytes b = bytes b
below_written m (w ∷ ws) h bytes b = below_written (write m w.0 w.1) ws h.1 (λ c. pick c (c == w.0)) b
  where
    pick : (c : ℕ) (t : Bool) → (if t then w.1 else m c) < 256
    pick c true = h.0
    pick c false = bytes c

fit_written : (changes : RegSet) (t : State) (ws : List (ℕ × ℕ)) → AreFit changes t ws → AreWritten ws
fit_written changes t [] h = tt
fit_written changes t (w ∷ ws) h = (h.0.byte, fit_written changes t ws h.1)

same_number : (i j : ℕ) (b : Bool) → (i == j) ≡ b → b ≡ true → i ≡ j
same_number i j b e h = grind arith

-- what may not change is as it was
kept_written : (changes : RegSet) (t : State) (m : Bytes) (ws : List (ℕ × ℕ)) (i : ℕ) → AreFit changes t ws → has_part changes (Zp i) ≡ false → m i ≡ t.zp i → written m ws i ≡ t.zp i
kept_written changes t m [] i h g e = e
kept_written changes t m (w ∷ ws) i h g e = kept_written changes t (write m w.0 w.1) ws i h.1 g (pick (i == w.0) refl h.0.kept)
  where
    pick : (b : Bool) → (i == w.0) ≡ b → (has_part changes (Zp w.0) ≡ true) ⊎ (w.1 ≡ t.zp w.0) → (if b then w.1 else m i) ≡ t.zp i
    pick false f k = e
    pick true f (inr k) = let same : i ≡ w.0 = same_number i w.0 true f refl in k ∙ ap t.zp (sym same)
    pick true f (inl k) = let same : i ≡ w.0 = same_number i w.0 true f refl in let both : has_part changes (Zp i) ≡ true = ap (λ (j : ℕ). has_part changes (Zp j)) same ∙ k in absurd (cc)

high_written : (changes : RegSet) (t : State) (m : Bytes) (ws : List (ℕ × ℕ)) (i : ℕ) → 26 ≤ i → AreFit changes t ws → m i ≡ t.zp i → written m ws i ≡ t.zp i
high_written changes t m [] i h f e = e
high_written changes t m (w ∷ ws) i h f e = high_written changes t (write m w.0 w.1) ws i h f.1 (pick (i == w.0) refl)
  where
    pick : (b : Bool) → (i == w.0) ≡ b → (if b then w.1 else m i) ≡ t.zp i
    pick false g = e
    pick true g = let same : i ≡ w.0 = same_number i w.0 true g refl in let place : w.0 < 26 = f.0.place in absurd (omega arith)

-- ---- the state

abbrev pub zero_writes : Row → List (ℕ × ℕ) → List (ℕ × ℕ)
zero_writes row more = word_writes 0 row.sp ++ (sreg_writes row.sreg ++ more)

abbrev pub made : Row → List (ℕ × ℕ) → State → State
made row more t = record t {
  regs = record t.regs { a = or_old row.a t.regs.a; x = or_old row.x t.regs.x };
  zp = written t.zp (zero_writes row more);
  mem = written t.mem row.writes;
  input = drop row.taken t.input;
  output = t.output ++ row.out;
  ended = row.ends;
}

-- what a row's numbers are; `more` are writes in the zero page beside sp and sreg
pub record IsSound (row : Row) (more : List (ℕ × ℕ)) (t : State) : Type 0 where
  pub a : Fits (has_part row.changes A) row.a t.regs.a
  pub x : Fits (has_part row.changes X) row.x t.regs.x
  pub sp : FitsWord row.changes 0 row.sp t
  pub sreg : FitsSreg row.changes row.sreg t
  pub more_fit : AreFit row.changes t more
  pub writes : AreWritten row.writes
  pub pointers : GivesPointers row.pointers (written t.zp (zero_writes row more))
  pub bank : GivesBank row.bank (written t.zp (zero_writes row more))
  -- the other writes leave sp and sreg as they are
  pub apart : (m : Bytes) (i : ℕ) → i < 4 → written m more i ≡ m i

low_fit : (changes : RegSet) (at v : ℕ) (t : State) → IsBytes t → at + 1 < 26 → FitsWord changes at v t → IsFit changes t (at, v % 256)
low_fit changes at v t bytes below h = record { place = omega arith; byte = omega arith; kept = pick h.kept }
  where
    pick : ((has_part changes (Zp at) ≡ true) × (has_part changes (Zp (at + 1)) ≡ true)) ⊎ (v ≡ t.zp at + 256 * t.zp (at + 1)) → (has_part changes (Zp at) ≡ true) ⊎ (v % 256 ≡ t.zp at)
    pick (inl k) = inl k.0
    pick (inr k) = let low : t.zp at < 256 = bytes.zp at in inr (omega arith)

high_fit : (changes : RegSet) (at v : ℕ) (t : State) → IsBytes t → at + 1 < 26 → FitsWord changes at v t → IsFit changes t (at + 1, v / 256)
high_fit changes at v t bytes below h = let small : v < 65536 = h.small in record { place = below; byte = omega arith; kept = pick h.kept }
  where
    pick : ((has_part changes (Zp at) ≡ true) × (has_part changes (Zp (at + 1)) ≡ true)) ⊎ (v ≡ t.zp at + 256 * t.zp (at + 1)) → (has_part changes (Zp (at + 1)) ≡ true) ⊎ (v / 256 ≡ t.zp (at + 1))
    pick (inl k) = inl k.1
    pick (inr k) = let low : t.zp at < 256 = bytes.zp at in inr (omega arith)

append_fit : (changes : RegSet) (t : State) (ws vs : List (ℕ × ℕ)) → AreFit changes t ws → AreFit changes t vs → AreFit changes t (ws ++ vs)
append_fit changes t [] vs h g = g
append_fit changes t (w ∷ ws) vs h g = (h.0, append_fit changes t ws vs h.1 g)

word_fit : (changes : RegSet) (at v : ℕ) (t : State) → IsBytes t → at + 1 < 26 → FitsWord changes at v t → AreFit changes t (word_writes at v)
word_fit changes at v t bytes below h = (low_fit changes at v t bytes below h, (high_fit changes at v t bytes below h, tt))

sreg_fit : (changes : RegSet) (o : Option ℕ) (t : State) → IsBytes t → FitsSreg changes o t → AreFit changes t (sreg_writes o)
sreg_fit changes None t bytes h = tt
sreg_fit changes (Some v) t bytes h = word_fit changes 2 v t bytes (omega arith) h

all_fit : (row : Row) (more : List (ℕ × ℕ)) (t : State) → IsBytes t → IsSound row more t → AreFit row.changes t (zero_writes row more)
all_fit row more t bytes h = append_fit row.changes t (word_writes 0 row.sp) (sreg_writes row.sreg ++ more) (word_fit row.changes 0 row.sp t bytes (omega arith) h.sp) (append_fit row.changes t (sreg_writes row.sreg) more (sreg_fit row.changes row.sreg t bytes h.sreg) h.more_fit)

byte_or_old : (may : Bool) (o : Option ℕ) (old : ℕ) → old < 256 → Fits may o old → or_old o old < 256
byte_or_old may None old h f = h
byte_or_old may (Some v) old h f = f.0

kept_or_old : (may : Bool) (o : Option ℕ) (old : ℕ) → Fits may o old → may ≡ false → old ≡ or_old o old
kept_or_old may None old f h = refl
kept_or_old may (Some v) old f h = pick f.1
  where
    pick : (may ≡ true) ⊎ (v ≡ old) → old ≡ v
    pick (inl k) = absurd (cc)
    pick (inr k) = sym k

gives_or_old : (o : Option ℕ) (old : ℕ) → Gives o (or_old o old)
gives_or_old None old = tt
gives_or_old (Some v) old = refl

joined : (v : ℕ) → v % 256 + 256 * (v / 256) ≡ v
joined v = omega arith

-- sp and sreg behind all writes
sp_is : (m : Bytes) (sp : ℕ) (o : Option ℕ) (more : List (ℕ × ℕ)) → ((n : Bytes) (i : ℕ) → i < 4 → written n more i ≡ n i) → written m (word_writes 0 sp ++ (sreg_writes o ++ more)) 0 + 256 * written m (word_writes 0 sp ++ (sreg_writes o ++ more)) 1 ≡ sp
sp_is m sp None more h = ap (λ (x : ℕ). x + 256 * written m (word_writes 0 sp ++ more) 1) (h (write (write m 0 (sp % 256)) 1 (sp / 256)) 0 (omega arith)) ∙ ap (λ (x : ℕ). sp % 256 + 256 * x) (h (write (write m 0 (sp % 256)) 1 (sp / 256)) 1 (omega arith)) ∙ joined sp
sp_is m sp (Some v) more h =
    let n : Bytes = write (write (write (write m 0 (sp % 256)) 1 (sp / 256)) 2 (v % 256)) 3 (v / 256) in
    ap (λ (x : ℕ). x + 256 * written n more 1) (h n 0 (omega arith)) ∙ ap (λ (x : ℕ). sp % 256 + 256 * x) (h n 1 (omega arith)) ∙ joined sp

sreg_is : (m : Bytes) (sp : ℕ) (o : Option ℕ) (more : List (ℕ × ℕ)) → ((n : Bytes) (i : ℕ) → i < 4 → written n more i ≡ n i) → Gives o (written m (word_writes 0 sp ++ (sreg_writes o ++ more)) 2 + 256 * written m (word_writes 0 sp ++ (sreg_writes o ++ more)) 3)
sreg_is m sp None more h = tt
sreg_is m sp (Some v) more h =
    let n : Bytes = write (write (write (write m 0 (sp % 256)) 1 (sp / 256)) 2 (v % 256)) 3 (v / 256) in
    ap (λ (x : ℕ). x + 256 * written n more 3) (h n 2 (omega arith)) ∙ ap (λ (x : ℕ). v % 256 + 256 * x) (h n 3 (omega arith)) ∙ joined v

same_parts : (row : Row) (more : List (ℕ × ℕ)) (t : State) → IsBytes t → IsSound row more t → (p : Part) → has_part row.changes p ≡ false → Same p t (made row more t)
same_parts row more t bytes h A e = kept_or_old (has_part row.changes A) row.a t.regs.a h.a e
same_parts row more t bytes h X e = kept_or_old (has_part row.changes X) row.x t.regs.x h.x e
same_parts row more t bytes h Y e = refl
same_parts row more t bytes h (Zp i) e = sym (kept_written row.changes t t.zp (zero_writes row more) i (all_fit row more t bytes h) e refl)
same_parts row more t bytes h N e = refl
same_parts row more t bytes h V e = refl
same_parts row more t bytes h Z e = refl
same_parts row more t bytes h C e = refl

pub record IsMet (row : Row) (t : State) : Type 0 where
  pub after : State
  pub meets : Meets row t after
  pub bytes : IsBytes after

pub met : (row : Row) (more : List (ℕ × ℕ)) (t : State) → IsBytes t → IsSound row more t → IsMet row t
met row more t bytes h = record {
  after = made row more t;
  meets = record {
    sp = sp_is t.zp row.sp row.sreg more h.apart;
    a = gives_or_old row.a t.regs.a;
    x = gives_or_old row.x t.regs.x;
    sreg = sreg_is t.zp row.sp row.sreg more h.apart;
    pointers = h.pointers;
    bank = h.bank;
    kept = same_parts row more t bytes h;
    high = λ i g. sym (high_written row.changes t t.zp (zero_writes row more) i g (all_fit row more t bytes h) refl);
    mem = λ b g. refl;
    pushed = refl;
    frames = refl;
    input = refl;
    output = refl;
    ended = refl;
  };
  bytes = record {
    a = byte_or_old (has_part row.changes A) row.a t.regs.a bytes.a h.a;
    x = byte_or_old (has_part row.changes X) row.x t.regs.x bytes.x h.x;
    y = bytes.y;
    zp = below_written t.zp (zero_writes row more) (fit_written row.changes t (zero_writes row more) (all_fit row more t bytes h)) bytes.zp;
    mem = below_written t.mem row.writes h.writes bytes.mem;
    pushed = bytes.pushed;
    frames = bytes.frames;
  };
}

-- a row that gives no pointers and no bank
pub record IsPlain (row : Row) (t : State) : Type 0 where
  pub a : Fits (has_part row.changes A) row.a t.regs.a
  pub x : Fits (has_part row.changes X) row.x t.regs.x
  pub sp : FitsWord row.changes 0 row.sp t
  pub sreg : FitsSreg row.changes row.sreg t
  pub writes : AreWritten row.writes
  pub pointers : row.pointers ≡ None
  pub bank : row.bank ≡ None

no_pointers : (o : Option (ℕ × ℕ)) (m : Bytes) → o ≡ None → GivesPointers o m
no_pointers None m e = tt
no_pointers (Some w) m e = cc

no_bank : (o : Option (List ℕ)) (m : Bytes) → o ≡ None → GivesBank o m
no_bank None m e = tt
no_bank (Some vs) m e = cc

pub plain_met : (row : Row) (t : State) → IsBytes t → IsPlain row t → IsMet row t
plain_met row t bytes h = met row [] t bytes (record { a = h.a; x = h.x; sp = h.sp; sreg = h.sreg; more_fit = tt; writes = h.writes; pointers = no_pointers row.pointers _ h.pointers; bank = no_bank row.bank _ h.bank; apart = λ m i g. refl })
