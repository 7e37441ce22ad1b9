-- States that differ in parts that are dead.
use Rattle.std.proofs.Common.{◌≡◌, ℕ, Bool, true, false, [], ◌∷◌, refl, sym, subst}
use Rattle.std.specs.Prelude.{IsTrue}
use Rattle.c65_mach.specs.State.{Regs}
use Rattle.c65_code.specs.declared.parts.Part.{Part}
use Rattle.c65_code.specs.declared.parts.Part.TheVariants.{A, X, Y, Zp, N, V, Z, C}
use Rattle.c65_code.specs.declared.parts.RegSet.{RegSet}
use Rattle.c65_code.specs.LineState.{State, Same}
use Rattle.c65_code.specs.Parts.{has_part, set_of}
use Rattle.c65_live.specs.Samples.{DeadIsNotLive}
use Rattle.c65_live.specs.Tables.{Table, live_after, is_dead}
use Rattle.c65_optarith_law.specs.Straight.{Agree}

pub agree_same : (live : RegSet) (u v : State) → u ≡ v → Agree live u v
agree_same live u v e = subst (λ x. Agree live x v) (sym e) (record { part = same; rest = refl })
  where
    same : (p : Part) → IsTrue (has_part live p) → Same p v v
    same A h = refl
    same X h = refl
    same Y h = refl
    same (Zp i) h = refl
    same N h = refl
    same V h = refl
    same Z h = refl
    same C h = refl

-- registers that differ in these parts alone
pub record DifferIn (parts : RegSet) (r q : Regs) : Type 0 where
  pub a : has_part parts A ≡ false → r.a ≡ q.a
  pub x : has_part parts X ≡ false → r.x ≡ q.x
  pub y : has_part parts Y ≡ false → r.y ≡ q.y
  pub n : has_part parts N ≡ false → r.n ≡ q.n
  pub v : has_part parts V ≡ false → r.v ≡ q.v
  pub z : has_part parts Z ≡ false → r.z ≡ q.z
  pub c : has_part parts C ≡ false → r.c ≡ q.c

same_part : (parts : RegSet) (t : State) (r : Regs) → DifferIn parts r t.regs → (p : Part) → has_part parts p ≡ false → Same p (record t { regs = r }) t
same_part parts t r d A h = d.a h
same_part parts t r d X h = d.x h
same_part parts t r d Y h = d.y h
same_part parts t r d (Zp i) h = refl
same_part parts t r d N h = d.n h
same_part parts t r d V h = d.v h
same_part parts t r d Z h = d.z h
same_part parts t r d C h = d.c h

pub agree_dead : DeadIsNotLive → (table : Table) (q : ℕ) (parts : RegSet) (t u : State) (r : Regs) → u ≡ record t { regs = r } → is_dead table q parts ≡ true
    → DifferIn parts r t.regs → Agree (live_after table q) u t
agree_dead dead table q parts t u r e h d = subst (λ x. Agree (live_after table q) x t) (sym e) (record { part = λ p live. by_part p live (has_part parts p) refl; rest = refl })
  where
    by_part : (p : Part) → IsTrue (has_part (live_after table q) p) → (b : Bool) → has_part parts p ≡ b → Same p (record t { regs = r }) t
    by_part p live false k = same_part parts t r d p k
    by_part p live true k = let no : has_part (live_after table q) p ≡ false = dead table q parts h p k in absurd cc

-- ---- registers that differ in some parts

module _ (r : Regs) where
  pub in_carry : (c : Bool) → DifferIn (set_of (C ∷ [])) (record r { c = c }) r
  in_carry c = record { a = λ h. refl; x = λ h. refl; y = λ h. refl; n = λ h. refl; v = λ h. refl; z = λ h. refl; c = λ h. absurd cc }

  pub in_compared : (n z c : Bool) → DifferIn (set_of (N ∷ Z ∷ C ∷ [])) (record r { n = n; z = z; c = c }) r
  in_compared n z c = record { a = λ h. refl; x = λ h. refl; y = λ h. refl; n = λ h. absurd cc; v = λ h. refl; z = λ h. absurd cc; c = λ h. absurd cc }

  pub in_signs_of_a : (a : ℕ) (n z : Bool) → a ≡ r.a → DifferIn (set_of (N ∷ Z ∷ [])) (record r { a = a; n = n; z = z }) r
  in_signs_of_a a n z e = record { a = λ h. e; x = λ h. refl; y = λ h. refl; n = λ h. absurd cc; v = λ h. refl; z = λ h. absurd cc; c = λ h. refl }

  pub in_signs_of_x : (x : ℕ) (n z : Bool) → x ≡ r.x → DifferIn (set_of (N ∷ Z ∷ [])) (record r { x = x; n = n; z = z }) r
  in_signs_of_x x n z e = record { a = λ h. refl; x = λ h. e; y = λ h. refl; n = λ h. absurd cc; v = λ h. refl; z = λ h. absurd cc; c = λ h. refl }

  pub in_signs_of_y : (y : ℕ) (n z : Bool) → y ≡ r.y → DifferIn (set_of (N ∷ Z ∷ [])) (record r { y = y; n = n; z = z }) r
  in_signs_of_y y n z e = record { a = λ h. refl; x = λ h. refl; y = λ h. e; n = λ h. absurd cc; v = λ h. refl; z = λ h. absurd cc; c = λ h. refl }

  pub in_overflow : (a : ℕ) (n v z c : Bool) → a ≡ r.a → c ≡ r.c → DifferIn (set_of (N ∷ V ∷ Z ∷ [])) (record r { a = a; n = n; v = v; z = z; c = c }) r
  in_overflow a n v z c e k = record { a = λ h. e; x = λ h. refl; y = λ h. refl; n = λ h. absurd cc; v = λ h. absurd cc; z = λ h. absurd cc; c = λ h. k }

apart : (b : Bool) → b ≡ true → b ≡ false → ⊥
apart true h k = absurd cc
apart false h k = absurd cc

-- the parts that an operation sets, whatever is set beside them
module _ (parts : RegSet) (r : Regs) where
  pub set_a : (a : ℕ) (n z : Bool) → has_part parts A ≡ true → has_part parts N ≡ true → has_part parts Z ≡ true → DifferIn parts (record r { a = a; n = n; z = z }) r
  set_a a n z i j k = record { a = λ h. absurd (apart (has_part parts A) i h); x = λ h. refl; y = λ h. refl; n = λ h. absurd (apart (has_part parts N) j h); v = λ h. refl; z = λ h. absurd (apart (has_part parts Z) k h); c = λ h. refl }

  pub set_x : (x : ℕ) (n z : Bool) → has_part parts X ≡ true → has_part parts N ≡ true → has_part parts Z ≡ true → DifferIn parts (record r { x = x; n = n; z = z }) r
  set_x x n z i j k = record { a = λ h. refl; x = λ h. absurd (apart (has_part parts X) i h); y = λ h. refl; n = λ h. absurd (apart (has_part parts N) j h); v = λ h. refl; z = λ h. absurd (apart (has_part parts Z) k h); c = λ h. refl }

  pub set_y : (y : ℕ) (n z : Bool) → has_part parts Y ≡ true → has_part parts N ≡ true → has_part parts Z ≡ true → DifferIn parts (record r { y = y; n = n; z = z }) r
  set_y y n z i j k = record { a = λ h. refl; x = λ h. refl; y = λ h. absurd (apart (has_part parts Y) i h); n = λ h. absurd (apart (has_part parts N) j h); v = λ h. refl; z = λ h. absurd (apart (has_part parts Z) k h); c = λ h. refl }

  pub set_shifted : (a : ℕ) (n z c : Bool) → has_part parts A ≡ true → has_part parts N ≡ true → has_part parts Z ≡ true → has_part parts C ≡ true
      → DifferIn parts (record r { a = a; n = n; z = z; c = c }) r
  set_shifted a n z c i j k l = record { a = λ h. absurd (apart (has_part parts A) i h); x = λ h. refl; y = λ h. refl; n = λ h. absurd (apart (has_part parts N) j h); v = λ h. refl; z = λ h. absurd (apart (has_part parts Z) k h); c = λ h. absurd (apart (has_part parts C) l h) }

  pub set_summed : (a : ℕ) (n v z c : Bool) → has_part parts A ≡ true → has_part parts N ≡ true → has_part parts V ≡ true → has_part parts Z ≡ true → has_part parts C ≡ true
      → DifferIn parts (record r { a = a; n = n; v = v; z = z; c = c }) r
  set_summed a n v z c i j o k l = record { a = λ h. absurd (apart (has_part parts A) i h); x = λ h. refl; y = λ h. refl; n = λ h. absurd (apart (has_part parts N) j h); v = λ h. absurd (apart (has_part parts V) o h); z = λ h. absurd (apart (has_part parts Z) k h); c = λ h. absurd (apart (has_part parts C) l h) }
