-- From what a routine's lines leave to its row.
use Rattle.std.proofs.Common.{◌≡◌, ◌≢◌, ℕ, zero, suc, ◌+◌, ◌<◌, ◌≤◌, ◌⊎◌, inl, inr, Bool, true, false, IsTrue, List, [], ◌∷◌, ◌++◌, nat_eq, refl, sym, ap, subst, ◌∙◌, arith}
use Rattle.std.specs.Prelude.{◌&&◌, nat_lt, drop}
use Rattle.std.proofs.lemmas.Bool.Decides.{Decides-ltb, Decides-eqb, eqb_tells}
use Rattle.std.proofs.lemmas.Bool.{cases_lt}
use Rattle.c65_mach.specs.Step.{is_not}
use Rattle.c65_code.specs.declared.parts.Part.{Part}
use Rattle.c65_code.specs.declared.parts.Part.TheVariants.{A, X, Y, Zp, N, V, Z, C}
use Rattle.c65_code.specs.declared.parts.RegSet.{RegSet}
use Rattle.c65_code.specs.Parts.{has_part}
use Rattle.c65_code.specs.LineState.{Bytes, write, State, sp_of, sreg_of, Same}
use Rattle.c65_code.specs.Placement.{Placement}
use Rattle.c65_code.specs.Steady.{IsOpen}
use Rattle.c65_code.specs.RawMachine.{Bounds, IsReachable, LieLow}
use Rattle.c65_code.specs.Rows.{Row, Gives, GivesPointers, GivesBank, written}
use Rattle.c65_rtl.proofs.Ways.{Ends}

-- what tests tell
pub eq_true : (a b : ℕ) → nat_eq a b ≡ true → a ≡ b
eq_true a b h = (Decides-eqb a b).0 h

pub eq_false : (a b : ℕ) → nat_eq a b ≡ false → a ≢ b
eq_false a b h = λ e. let g = (Decides-eqb a b).1 e in cc

pub lt_true : (a b : ℕ) → nat_lt a b ≡ true → a < b
lt_true a b h = (Decides-ltb a b).0 h

pub lt_false : (a b : ℕ) → nat_lt a b ≡ false → b ≤ a
lt_false a b h = elim (cases_lt a b) [ inl less ↦ (let g = (Decides-ltb a b).1 less in cc) | inr more ↦ more ]

pub not_true : (b : Bool) → is_not b ≡ true → b ≡ false
not_true true h = cc
not_true false h = refl

pub not_false : (b : Bool) → is_not b ≡ false → b ≡ true
not_false true h = refl
not_false false h = cc

-- writes
pub write_other : (m : Bytes) (at v b : ℕ) → b ≢ at → write m at v b ≡ m b
write_other m at v b other = elim (eqb_tells b at) [ inl same ↦ absurd (other same.1) | inr apart ↦ rw apart.0 refl ]

pub write_swap : (m : Bytes) (p q v w b : ℕ) → p ≢ q → write (write m p v) q w b ≡ write (write m q w) p v b
write_swap m p q v w b apart = by (eqb_tells b p) (eqb_tells b q)
  where
    by : ((nat_eq b p ≡ true) × (b ≡ p)) ⊎ ((nat_eq b p ≡ false) × (b ≢ p)) → ((nat_eq b q ≡ true) × (b ≡ q)) ⊎ ((nat_eq b q ≡ false) × (b ≢ q)) → write (write m p v) q w b ≡ write (write m q w) p v b
    by (inl x) (inl y) = absurd (apart (sym x.1 ∙ y.1))
    by (inl x) (inr y) = rw (x.0, y.0) refl
    by (inr x) (inl y) = rw (x.0, y.0) refl
    by (inr x) (inr y) = rw (x.0, y.0) refl

-- the addresses are of the zero page's parts that may change
abbrev pub fits : RegSet → List (ℕ × ℕ) → Bool
fits changes [] = true
fits changes (w ∷ ws) = (has_part changes (Zp w.0) && nat_lt w.0 26) && fits changes ws

and_true : (a b : Bool) → IsTrue (a && b) → IsTrue a × IsTrue b
and_true true b h = (refl, h)
and_true false b h = cc

outside : (changes : RegSet) (at i : ℕ) → IsTrue (has_part changes (Zp at)) → has_part changes (Zp i) ≡ false → i ≢ at
outside changes at i in_it h = λ e. let g = ap (λ (k : ℕ). has_part changes (Zp k)) e in cc

pub written_outside : (changes : RegSet) (ws : List (ℕ × ℕ)) (m : Bytes) (i : ℕ) → IsTrue (fits changes ws) → has_part changes (Zp i) ≡ false → written m ws i ≡ m i
written_outside changes [] m i fit h = refl
written_outside changes (w ∷ ws) m i fit h =
    let parts = and_true (has_part changes (Zp w.0) && nat_lt w.0 26) (fits changes ws) fit in
    let own = and_true (has_part changes (Zp w.0)) (nat_lt w.0 26) parts.0 in
    written_outside changes ws (write m w.0 w.1) i parts.1 h ∙ write_other m w.0 w.1 i (outside changes w.0 i own.0 h)

pub written_above : (changes : RegSet) (ws : List (ℕ × ℕ)) (m : Bytes) (i : ℕ) → IsTrue (fits changes ws) → 26 ≤ i → written m ws i ≡ m i
written_above changes [] m i fit h = refl
written_above changes (w ∷ ws) m i fit h =
    let parts = and_true (has_part changes (Zp w.0) && nat_lt w.0 26) (fits changes ws) fit in
    let own = and_true (has_part changes (Zp w.0)) (nat_lt w.0 26) parts.0 in
    let low : w.0 < 26 = lt_true w.0 26 own.1 in
    let other : i ≢ w.0 = omega arith in
    written_above changes ws (write m w.0 w.1) i parts.1 h ∙ write_other m w.0 w.1 i other

-- what stays where a part may not change
abbrev pub KeptUnless : Bool → ℕ → ℕ → Type 0
KeptUnless true a b = Unit {0}
KeptUnless false a b = a ≡ b

kept_if : (b : Bool) (v w : ℕ) → b ≡ false → KeptUnless b v w → v ≡ w
kept_if true v w e h = cc
kept_if false v w e h = h

-- What the lines leave, with the zero page from address 2 on as a list of writes to the one before.
pub record Leaves (row : Row) (t u : State) (ws : List (ℕ × ℕ)) : Type 0 where
  pub zp : (i : ℕ) → 2 ≤ i → u.zp i ≡ written t.zp ws i
  pub fit : IsTrue (fits row.changes ws)
  pub small : IsTrue (has_part row.changes Y) × IsTrue (has_part row.changes N) × IsTrue (has_part row.changes V) × IsTrue (has_part row.changes Z) × IsTrue (has_part row.changes C)
  pub low_kept : KeptUnless (has_part row.changes (Zp 0)) (t.zp 0) (u.zp 0)
  pub high_kept : KeptUnless (has_part row.changes (Zp 1)) (t.zp 1) (u.zp 1)
  pub a_kept : KeptUnless (has_part row.changes A) t.regs.a u.regs.a
  pub x_kept : KeptUnless (has_part row.changes X) t.regs.x u.regs.x
  pub sp : sp_of u ≡ row.sp
  pub a : Gives row.a u.regs.a
  pub x : Gives row.x u.regs.x
  pub sreg : Gives row.sreg (sreg_of u)
  pub pointers : GivesPointers row.pointers u.zp
  pub bank : GivesBank row.bank u.zp
  pub mem : (b : ℕ) → (b + row.room < sp_of t) ⊎ ((sp_of t ≤ b) ⊎ (row.settled ≤ b)) → u.mem b ≡ written t.mem row.writes b
  pub input : u.input ≡ drop row.taken t.input
  pub output : u.output ≡ t.output ++ row.out
  pub ended : u.ended ≡ row.ends

kept_zp : (row : Row) (t u : State) (ws : List (ℕ × ℕ)) → Leaves row t u ws → (i : ℕ) → has_part row.changes (Zp i) ≡ false → t.zp i ≡ u.zp i
kept_zp row t u ws l zero h = kept_if (has_part row.changes (Zp 0)) (t.zp 0) (u.zp 0) h l.low_kept
kept_zp row t u ws l (suc zero) h = kept_if (has_part row.changes (Zp 1)) (t.zp 1) (u.zp 1) h l.high_kept
kept_zp row t u ws l (suc (suc i)) h = sym (l.zp (suc (suc i)) (omega arith) ∙ written_outside row.changes ws t.zp (suc (suc i)) l.fit h)

false_part : (b : Bool) (P : Type 0) → IsTrue b → b ≡ false → P
false_part b P holds fails = cc

kept_part : (row : Row) (t u : State) (ws : List (ℕ × ℕ)) → Leaves row t u ws → (p : Part) → has_part row.changes p ≡ false → Same p t u
kept_part row t u ws l A h = kept_if (has_part row.changes A) t.regs.a u.regs.a h l.a_kept
kept_part row t u ws l X h = kept_if (has_part row.changes X) t.regs.x u.regs.x h l.x_kept
kept_part row t u ws l Y h = false_part (has_part row.changes Y) _ l.small.0 h
kept_part row t u ws l N h = false_part (has_part row.changes N) _ l.small.1 h
kept_part row t u ws l V h = false_part (has_part row.changes V) _ l.small.2 h
kept_part row t u ws l Z h = false_part (has_part row.changes Z) _ l.small.3 h
kept_part row t u ws l C h = false_part (has_part row.changes C) _ l.small.4 h
kept_part row t u ws l (Zp i) h = kept_zp row t u ws l i h

pub ends_by : (row : Row) (t u : State) (ws : List (ℕ × ℕ)) → Leaves row t u ws → Ends row t u
ends_by row t u ws l = record {
  sp = l.sp;
  a = l.a;
  x = l.x;
  sreg = l.sreg;
  pointers = l.pointers;
  bank = l.bank;
  kept = λ p h. kept_in p h;
  high = λ i above. sym (l.zp i (omega arith) ∙ written_above row.changes ws t.zp i l.fit above);
  mem = l.mem;
  pushed = refl;
  frames = refl;
  input = l.input;
  output = l.output;
  ended = l.ended;
}
  where
    same_parts : (p : Part) → Same p t u → Same p t (record u { pushed = t.pushed; frames = t.frames })
    same_parts A h = h
    same_parts X h = h
    same_parts Y h = h
    same_parts (Zp i) h = h
    same_parts N h = h
    same_parts V h = h
    same_parts Z h = h
    same_parts C h = h

    kept_in : (p : Part) → has_part row.changes p ≡ false → Same p t (record u { pushed = t.pushed; frames = t.frames })
    kept_in p h = same_parts p (kept_part row t u ws l p h)

-- what a row opens may be reached
pub reached : (place : Placement) (bounds : Bounds) (bound b c : ℕ) → b ≡ c → bounds.soft ≤ bound → IsOpen place bound c → IsReachable place bounds b
reached place bounds bound b c e low (inl data_of) = inl (subst (λ (n : ℕ). IsTrue (place.is_data n)) (sym e) data_of)
reached place bounds bound b c e low (inr within) = inr (omega arith, omega arith)

pub below_end : (place : Placement) (bound b : ℕ) → LieLow place → IsOpen place bound b → b < 65520
below_end place bound b low (inl data_of) = let h = low b data_of in omega arith
below_end place bound b low (inr within) = omega arith
