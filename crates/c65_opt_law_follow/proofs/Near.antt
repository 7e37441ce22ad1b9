-- States that are near one another.
use Rattle.std.proofs.Common.{◌≡◌, ℕ, ◌+◌, ◌-◌, ◌<◌, ◌≤◌, ◌⊎◌, inl, inr, Bool, true, false, ◌||◌, ◌&&◌, not, List, length, Option, IsTrue, refl, sym, ap, ◌∙◌, arith}
use Rattle.std.specs.Prelude.{sum_by}
use Rattle.std.proofs.lemmas.Bool.{cases_lt}
use Rattle.c65_code.proofs.PartLaws.{has_part-union, has_part-minus}
use Rattle.c65_code.specs.declared.line.Line.{Line}
use Rattle.c65_code.specs.declared.parts.Part.{Part}
use Rattle.c65_code.specs.declared.parts.Part.TheVariants.{A, X, Y, Zp, N, V, Z, C}
use Rattle.c65_code.specs.declared.parts.RegSet.{RegSet}
use Rattle.c65_code.specs.Access.{line_reads, line_sets}
use Rattle.c65_code.specs.Comes.{shown_by}
use Rattle.c65_code.specs.LineState.{Frame, State, sp_of, s_of, Same}
use Rattle.c65_code.specs.Parts.{IsPart, has_part, minus_of}
use Rattle.c65_code.specs.Placement.{stack_start}
use Rattle.c65_opt_law_near.specs.Near.{before, Near}
use Rattle.c65_opt_law_straight.specs.Laws.{AreAsDeep}

same_itself : (p : Part) (t : State) → Same p t t
same_itself A t = refl
same_itself X t = refl
same_itself Y t = refl
same_itself (Zp i) t = refl
same_itself N t = refl
same_itself V t = refl
same_itself Z t = refl
same_itself C t = refl

same_back : (p : Part) (t u : State) → Same p t u → Same p u t
same_back A t u h = sym h
same_back X t u h = sym h
same_back Y t u h = sym h
same_back (Zp i) t u h = sym h
same_back N t u h = sym h
same_back V t u h = sym h
same_back Z t u h = sym h
same_back C t u h = sym h

same_on : (p : Part) (t u v : State) → Same p t u → Same p u v → Same p t v
same_on A t u v h k = h ∙ k
same_on X t u v h k = h ∙ k
same_on Y t u v h k = h ∙ k
same_on (Zp i) t u v h k = h ∙ k
same_on N t u v h k = h ∙ k
same_on V t u v h k = h ∙ k
same_on Z t u v h k = h ∙ k
same_on C t u v h k = h ∙ k

pub same_sp : (live : RegSet) (t u : State) → Near live t u → sp_of t ≡ sp_of u
same_sp live t u n = let low : t.zp 0 ≡ u.zp 0 = n.sp_low in let high : t.zp 1 ≡ u.zp 1 = n.sp_high in omega arith

pub near_itself : (live : RegSet) (t : State) → Near live t t
near_itself live t = record { part = λ p h. same_itself p t; sp_low = refl; sp_high = refl; high = λ i h. refl; mem = λ b h. refl; pushed = refl; input = refl; output = refl; ended = refl }

pub near_back : (live : RegSet) (t u : State) → Near live t u → Near live u t
near_back live t u n = record {
  part = λ p h. same_back p t u (n.part p h);
  sp_low = sym n.sp_low;
  sp_high = sym n.sp_high;
  high = λ i h. sym (n.high i h);
  mem = λ b h. sym (n.mem b (side b h));
  pushed = sym n.pushed;
  input = sym n.input;
  output = sym n.output;
  ended = sym n.ended;
}
  where
    side : (b : ℕ) → (b < stack_start) ⊎ (sp_of u ≤ b) → (b < stack_start) ⊎ (sp_of t ≤ b)
    side b (inl h) = inl h
    side b (inr h) = let e : sp_of t ≡ sp_of u = same_sp live t u n in inr (omega arith)

pub near_on : (live : RegSet) (t u v : State) → Near live t u → Near live u v → Near live t v
near_on live t u v n k = record {
  part = λ p h. same_on p t u v (n.part p h) (k.part p h);
  sp_low = n.sp_low ∙ k.sp_low;
  sp_high = n.sp_high ∙ k.sp_high;
  high = λ i h. n.high i h ∙ k.high i h;
  mem = λ b h. n.mem b h ∙ k.mem b (side b h);
  pushed = n.pushed ∙ k.pushed;
  input = n.input ∙ k.input;
  output = n.output ∙ k.output;
  ended = n.ended ∙ k.ended;
}
  where
    side : (b : ℕ) → (b < stack_start) ⊎ (sp_of t ≤ b) → (b < stack_start) ⊎ (sp_of u ≤ b)
    side b (inl h) = inl h
    side b (inr h) = let e : sp_of t ≡ sp_of u = same_sp live t u n in inr (omega arith)

-- the zero page above the parts is the same anyway
pub near_part : (live less : RegSet) (t u : State) → ((p : Part) → IsPart p → IsTrue (has_part less p) → IsTrue (has_part live p)) → Near live t u → Near less t u
near_part live less t u f n = record { part = part; sp_low = n.sp_low; sp_high = n.sp_high; high = n.high; mem = n.mem; pushed = n.pushed; input = n.input; output = n.output; ended = n.ended }
  where
    part : (p : Part) → IsTrue (has_part less p) → Same p t u
    part (Zp i) h = pick (cases_lt i 26)
      where
        pick : (i < 26) ⊎ (26 ≤ i) → t.zp i ≡ u.zp i
        pick (inl lt) = n.part (Zp i) (f (Zp i) lt h)
        pick (inr ge) = n.high i ge
    part A h = n.part A (f A tt h)
    part X h = n.part X (f X tt h)
    part Y h = n.part Y (f Y tt h)
    part N h = n.part N (f N tt h)
    part V h = n.part V (f V tt h)
    part Z h = n.part Z (f Z tt h)
    part C h = n.part C (f C tt h)

-- what is live before a line grows with what is live after it
pub before_grows : (out : RegSet) (line : Line) (less more : RegSet) (p : Part) → (IsTrue (has_part less p) → IsTrue (has_part more p)) → IsTrue (has_part (before out line less) p) → IsTrue (has_part (before out line more) p)
before_grows out line less more p f h =
    has_part-union (line_reads out line) (minus_of more (line_sets line)) p ∙ (ap (λ (b : Bool). has_part (line_reads out line) p || b) (has_part-minus more (line_sets line) p)
    ∙ grows (has_part (line_reads out line) p) (has_part less p) (has_part more p) (not (has_part (line_sets line) p)) f
    (sym (has_part-union (line_reads out line) (minus_of less (line_sets line)) p ∙ ap (λ (b : Bool). has_part (line_reads out line) p || b) (has_part-minus less (line_sets line) p)) ∙ h))
  where
    grows : (r x y s : Bool) → (IsTrue x → IsTrue y) → (r || (x && s)) ≡ true → (r || (y && s)) ≡ true
    grows true x y s f h = refl
    grows false true y s f h = ap (λ (b : Bool). b && s) (f refl) ∙ h
    grows false false y s f h = absurd (cc)

pub shown_same : (live : RegSet) (t u : State) → Near live t u → shown_by t ≡ shown_by u
shown_same live t u n = ap (λ (o : List ℕ). record { output = o; ended = t.ended }) n.output ∙ ap (λ (e : Option ℕ). record { output = u.output; ended = e }) n.ended

pub hard_same : (live : RegSet) (t u : State) → Near live t u → AreAsDeep t u → s_of t ≡ s_of u
hard_same live t u n deep =
    ap (λ (vs : List ℕ). 253 - (length vs + sum_by (λ (f : Frame). 2 + length f.pushed) t.frames)) n.pushed ∙ ap (λ (k : ℕ). 253 - (length u.pushed + k)) deep
