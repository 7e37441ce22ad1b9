-- The parts of sets that are made of lists, and what is live before a line.
use Rattle.std.proofs.Common.{◌≡◌, ℕ, ◌<◌, ◌==◌, Bool, true, false, ◌&&◌, ◌||◌, not, if◌then◌else◌, ◌⊎◌, inl, inr, List, [], ◌∷◌, refl, sym, subst, ap, ◌∙◌, eq-eqb}
use Rattle.std.specs.Prelude.{nat_lt}
use Rattle.std.proofs.lemmas.Bool.{lt-ltb}
use Rattle.c65_mach.specs.declared.rows.Op.{Op}
use Rattle.c65_mach.specs.declared.rows.Op.TheVariants as ops
use Rattle.c65_mach.specs.declared.rows.Mode.{Mode}
use Rattle.c65_mach.specs.declared.rows.Mode.TheVariants.{Accumulator}
use Rattle.c65_mach.specs.State.{Regs}
use Rattle.c65_code.proofs.PartLaws.{has_part-union, has_part-minus, has_part-empty, all_iff, with_iff}
use Rattle.c65_code.specs.declared.line.Line.{Line}
use Rattle.c65_code.specs.declared.parts.Part.{Part}
use Rattle.c65_code.specs.declared.parts.Part.TheVariants.{A, X, Y, Zp, N, V, Z, C}
use Rattle.c65_code.specs.declared.parts.RegSet.{RegSet}
use Rattle.c65_code.specs.Access.{byte_at, register_reads, register_sets, line_reads, line_sets}
use Rattle.c65_code.specs.Effects.{zero_page}
use Rattle.c65_code.specs.LineState.{State, Same}
use Rattle.c65_code.specs.Parts.{has_part, no_parts, with_part, with_parts, set_of, union_of, minus_of}
use Rattle.c65_know.specs.Rows.{part_reads}
use Rattle.c65_know_law.proofs.Registers.{SameIn, AgreeOn, is_same_part, is_in}
use Rattle.c65_opt_law_near.specs.Near.{before}

or_left : (a b : Bool) → a ≡ true → (a || b) ≡ true
or_left true b h = refl
or_left false b h = absurd (cc)

or_right : (a b : Bool) → b ≡ true → (a || b) ≡ true
or_right true b h = refl
or_right false b h = h

or_none : (a b : Bool) → a ≡ false → b ≡ false → (a || b) ≡ false
or_none true b h k = absurd (cc)
or_none false b h k = k

pub in_left : (s t : RegSet) (p : Part) → has_part s p ≡ true → has_part (union_of s t) p ≡ true
in_left s t p h = has_part-union s t p ∙ or_left (has_part s p) (has_part t p) h

pub in_right : (s t : RegSet) (p : Part) → has_part t p ≡ true → has_part (union_of s t) p ≡ true
in_right s t p h = has_part-union s t p ∙ or_right (has_part s p) (has_part t p) h

pub in_none : (s t : RegSet) (p : Part) → has_part s p ≡ false → has_part t p ≡ false → has_part (union_of s t) p ≡ false
in_none s t p h k = has_part-union s t p ∙ or_none (has_part s p) (has_part t p) h k

-- what is live before a line: what it reads, and what it does not set of what is live after it
pub read_before : (out : RegSet) (line : Line) (after : RegSet) (p : Part) → has_part (line_reads out line) p ≡ true → has_part (before out line after) p ≡ true
read_before out line after p h = in_left (line_reads out line) (minus_of after (line_sets line)) p h

pub kept_before : (out : RegSet) (line : Line) (after : RegSet) (p : Part) → has_part after p ≡ true → has_part (line_sets line) p ≡ false → has_part (before out line after) p ≡ true
kept_before out line after p h k =
    in_right (line_reads out line) (minus_of after (line_sets line)) p (has_part-minus after (line_sets line) p ∙ both (has_part after p) (has_part (line_sets line) p) h k)
  where
    both : (a b : Bool) → a ≡ true → b ≡ false → (a && not b) ≡ true
    both true false h k = refl
    both true true h k = absurd (cc)
    both false b h k = absurd (cc)

-- ---- registers and flags

abbrev pub IsReg : Part → Type 0
IsReg (Zp i) = ⊥
IsReg _ = Unit {0}

with_reg : (q p : Part) (s : RegSet) → IsReg p → has_part (with_part q s) p ≡ (if is_same_part p q then true else has_part s p)
with_reg q (Zp i) s r = absurd r
with_reg (Zp j) _ s r = refl
with_reg _ _ s r = refl

pub set_reg : (parts : List Part) (s : RegSet) (p : Part) → IsReg p → has_part (with_parts parts s) p ≡ (if is_in p parts then true else has_part s p)
set_reg [] s p r = refl
set_reg (q ∷ parts) s p r = set_reg parts (with_part q s) p r ∙ (ap (λ (b : Bool). if is_in p parts then true else b) (with_reg q p s r) ∙ two (is_in p parts) (is_same_part p q) (has_part s p))
  where
    two : (a b c : Bool) → (if a then true else (if b then true else c)) ≡ (if (if b then true else a) then true else c)
    two true true c = refl
    two true false c = refl
    two false true c = refl
    two false false c = refl

pub set_has : (parts : List Part) (p : Part) → IsReg p → is_in p parts ≡ true → has_part (set_of parts) p ≡ true
set_has parts p r h = set_reg parts no_parts p r ∙ ap (λ (b : Bool). if b then true else has_part no_parts p) h

pub set_lacks : (parts : List Part) (p : Part) → IsReg p → is_in p parts ≡ false → has_part (set_of parts) p ≡ false
set_lacks parts p r h = set_reg parts no_parts p r ∙ (ap (λ (b : Bool). if b then true else has_part no_parts p) h ∙ has_part-empty p)

-- a byte of the zero page is in a set of registers and flags where it was
abbrev pub are_regs : List Part → Bool
are_regs [] = true
are_regs (Zp i ∷ parts) = false
are_regs (_ ∷ parts) = are_regs parts

set_zero : (parts : List Part) (s : RegSet) (i : ℕ) → are_regs parts ≡ true → has_part (with_parts parts s) (Zp i) ≡ has_part s (Zp i)
set_zero [] s i h = refl
set_zero (A ∷ parts) s i h = set_zero parts (with_part A s) i h
set_zero (X ∷ parts) s i h = set_zero parts (with_part X s) i h
set_zero (Y ∷ parts) s i h = set_zero parts (with_part Y s) i h
set_zero (Zp j ∷ parts) s i h = absurd (cc)
set_zero (N ∷ parts) s i h = set_zero parts (with_part N s) i h
set_zero (V ∷ parts) s i h = set_zero parts (with_part V s) i h
set_zero (Z ∷ parts) s i h = set_zero parts (with_part Z s) i h
set_zero (C ∷ parts) s i h = set_zero parts (with_part C s) i h

sets_regs : (op : Op) (mode : Mode) → are_regs (register_sets op mode) ≡ true
sets_regs ops.Asl Accumulator = refl
sets_regs ops.Asl mode = refl
sets_regs ops.Lsr Accumulator = refl
sets_regs ops.Lsr mode = refl
sets_regs ops.Rol Accumulator = refl
sets_regs ops.Rol mode = refl
sets_regs ops.Ror Accumulator = refl
sets_regs ops.Ror mode = refl
sets_regs ops.Dec Accumulator = refl
sets_regs ops.Dec mode = refl
sets_regs ops.Inc Accumulator = refl
sets_regs ops.Inc mode = refl
sets_regs _ mode = refl

pub sets_no_byte : (op : Op) (mode : Mode) (i : ℕ) → has_part (set_of (register_sets op mode)) (Zp i) ≡ false
sets_no_byte op mode i = set_zero (register_sets op mode) no_parts i (sets_regs op mode) ∙ has_part-empty (Zp i)

-- ---- bytes of the zero page

pub byte_has : (i : ℕ) → i < 26 → has_part (byte_at i) (Zp i) ≡ true
byte_has i h = subst (λ (b : Bool). has_part (if b then set_of (Zp i ∷ []) else no_parts) (Zp i) ≡ true) (sym (lt-ltb i 26 h)) ((with_iff no_parts (Zp i) (Zp i)).1 (inl refl))

pub byte_lacks : (i j : ℕ) → (i == j) ≡ false → has_part (byte_at j) (Zp i) ≡ false
byte_lacks i j e = pick (nat_lt j 26)
  where
    other : (b : Bool) → has_part (set_of (Zp j ∷ [])) (Zp i) ≡ b → b ≡ false
    other false h = refl
    other true h = absurd (which ((with_iff no_parts (Zp j) (Zp i)).0 h))
      where
        which : (Zp i ≡ Zp j) ⊎ (has_part no_parts (Zp i) ≡ true) → ⊥
        which (inl f) = let same : i ≡ j = cc in let yes : (i == j) ≡ true = eq-eqb i j same in absurd (cc)
        which (inr f) = let none : has_part no_parts (Zp i) ≡ false = has_part-empty (Zp i) in absurd (cc)

    pick : (b : Bool) → has_part (if b then set_of (Zp j ∷ []) else no_parts) (Zp i) ≡ false
    pick true = other (has_part (set_of (Zp j ∷ [])) (Zp i)) refl
    pick false = has_part-empty (Zp i)

pub byte_lacks_reg : (j : ℕ) (p : Part) → IsReg p → has_part (byte_at j) p ≡ false
byte_lacks_reg j p r = pick (nat_lt j 26) p r
  where
    pick : (b : Bool) (p : Part) → IsReg p → has_part (if b then set_of (Zp j ∷ []) else no_parts) p ≡ false
    pick b (Zp i) r = absurd r
    pick true _ r = refl
    pick false _ r = refl

pub zero_page_has : (i : ℕ) → i < 26 → has_part zero_page (Zp i) ≡ true
zero_page_has i h = (all_iff (Zp i)).1 h

-- ---- what an operation reads for a part

pub same_in : (p : Part) (t u : State) → Same p t u → SameIn p t.regs u.regs
same_in (Zp i) t u h = tt
same_in A t u h = h
same_in X t u h = h
same_in Y t u h = h
same_in N t u h = h
same_in V t u h = h
same_in Z t u h = h
same_in C t u h = h

in_first : (p : Part) (parts : List Part) → is_in p (p ∷ parts) ≡ true
in_first (Zp i) parts = ap (λ (b : Bool). if b then true else is_in (Zp i) parts) (eq-eqb i i refl)
in_first A parts = refl
in_first X parts = refl
in_first Y parts = refl
in_first N parts = refl
in_first V parts = refl
in_first Z parts = refl
in_first C parts = refl

in_later : (p q : Part) (parts : List Part) → is_in p parts ≡ true → is_in p (q ∷ parts) ≡ true
in_later p q parts h = pick (is_same_part p q)
  where
    pick : (b : Bool) → (if b then true else is_in p parts) ≡ true
    pick true = refl
    pick false = h

pub agree_on : (parts : List Part) (r q : Regs) → ((p : Part) → is_in p parts ≡ true → SameIn p r q) → AgreeOn parts r q
agree_on [] r q f = tt
agree_on (p ∷ parts) r q f = (f p (in_first p parts), agree_on parts r q (λ o h. f o (in_later o p parts h)))

rol_carry : (mode : Mode) (r q : Regs) → AgreeOn (register_reads ops.Rol mode) r q → AgreeOn (register_reads ops.Asl mode) r q
rol_carry Accumulator r q h = (h.0, tt)
rol_carry _ r q h = tt

ror_carry : (mode : Mode) (r q : Regs) → AgreeOn (register_reads ops.Ror mode) r q → AgreeOn (register_reads ops.Lsr mode) r q
ror_carry Accumulator r q h = (h.0, tt)
ror_carry _ r q h = tt

pub agree_for : (op : Op) (mode : Mode) (p : Part) (r q : Regs) → AgreeOn (register_reads op mode) r q → AgreeOn (part_reads op mode p) r q
agree_for ops.Bit mode N r q h = tt
agree_for ops.Bit mode V r q h = tt
agree_for ops.Bit mode _ r q h = h
agree_for ops.Rol mode C r q h = rol_carry mode r q h
agree_for ops.Rol mode _ r q h = h
agree_for ops.Ror mode C r q h = ror_carry mode r q h
agree_for ops.Ror mode _ r q h = h
agree_for _ mode p r q h = h
