-- Lines that differ in one, which is no label, and lines that jump on.
use Rattle.std.proofs.Common.{◌≡◌, ℕ, zero, suc, ◌==◌, Bool, true, false, if◌then◌else◌, List, [], ◌∷◌, ◌++◌, length, Some, refl, sym, subst, ap, ◌∙◌}
use Rattle.std.specs.Prelude.{slice_get}
use Rattle.std.proofs.lemmas.Bool.{eq-eqb, eqb-true}
use Rattle.c65_mach.specs.declared.rows.Op.TheVariants as ops
use Rattle.c65_mach.specs.declared.rows.Mode.TheVariants.{Absolute}
use Rattle.c65_code.specs.declared.line.Line.{Line}
use Rattle.c65_code.specs.declared.line.Line.TheVariants.{Label, Do, Call}
use Rattle.c65_code.specs.declared.line.Operand.TheVariants.{To}
use Rattle.c65_code.specs.Forms.{Jump, form_of}
use Rattle.c65_code.specs.Moves.{settle, labelled}
use Rattle.c65_code.specs.Steady.{HasLines}
use Rattle.c65_pass.specs.Labels.{jump_target, behind, first_jump, hop}
use Rattle.c65_opt_law_follow.proofs.Walks.{IsInstruction}

-- ---- one line in place of another

settle_suc : (x : Line) (lines : List Line) (p : ℕ) → settle (x ∷ lines) (suc p) ≡ suc (settle lines p)
settle_suc (Label k) lines p = refl
settle_suc (Do op mode operand) lines p = refl
settle_suc (Call callee) lines p = refl

settle_here : (x : Line) (lines : List Line) → IsInstruction x → settle (x ∷ lines) 0 ≡ 0
settle_here (Label k) lines i = absurd i
settle_here (Do op mode operand) lines i = refl
settle_here (Call callee) lines i = refl

label_behind : (x : Line) (lines : List Line) (k : ℕ) → IsInstruction x → labelled (x ∷ lines) k ≡ suc (labelled lines k)
label_behind (Label j) lines k i = absurd i
label_behind (Do op mode operand) lines k i = refl
label_behind (Call callee) lines k i = refl

module _ (after : List Line) (x y : Line) (i : IsInstruction x) (h : IsInstruction y) where
  pub settle_swapped : (front : List Line) (p : ℕ) → settle (front ++ (x ∷ after)) p ≡ settle (front ++ (y ∷ after)) p
  settle_swapped [] zero = settle_here x after i ∙ sym (settle_here y after h)
  settle_swapped [] (suc p) = settle_suc x after p ∙ sym (settle_suc y after p)
  settle_swapped (Label k ∷ front) zero = ap suc (settle_swapped front 0)
  settle_swapped (Label k ∷ front) (suc p) = ap suc (settle_swapped front p)
  settle_swapped (Do op mode operand ∷ front) zero = refl
  settle_swapped (Do op mode operand ∷ front) (suc p) = ap suc (settle_swapped front p)
  settle_swapped (Call callee ∷ front) zero = refl
  settle_swapped (Call callee ∷ front) (suc p) = ap suc (settle_swapped front p)

  pub label_swapped : (front : List Line) (k : ℕ) → labelled (front ++ (x ∷ after)) k ≡ labelled (front ++ (y ∷ after)) k
  label_swapped [] k = label_behind x after k i ∙ sym (label_behind y after k h)
  label_swapped (Label j ∷ front) k = ap (λ (n : ℕ). if j == k then 0 else suc n) (label_swapped front k)
  label_swapped (Do op mode operand ∷ front) k = ap suc (label_swapped front k)
  label_swapped (Call callee ∷ front) k = ap suc (label_swapped front k)

pub get_swapped : (front after : List Line) (x y : Line) (q : ℕ) → (q ≡ length front → ⊥) → slice_get (front ++ (x ∷ after)) q ≡ slice_get (front ++ (y ∷ after)) q
get_swapped [] after x y zero ne = absurd (ne refl)
get_swapped [] after x y (suc q) ne = refl
get_swapped (l ∷ front) after x y zero ne = refl
get_swapped (l ∷ front) after x y (suc q) ne = get_swapped front after x y q (λ e. ne (ap suc e))

pub get_there : (front after : List Line) (x : Line) → slice_get (front ++ (x ∷ after)) (length front) ≡ Some x
get_there [] after x = refl
get_there (l ∷ front) after x = get_there front after x

pub has_there : (front after : List Line) (x : Line) → HasLines (front ++ (x ∷ after))
has_there [] after x = tt
has_there (l ∷ front) after x = tt

-- ---- the line at a label that jumps on

pub record IsHopAt (lines : List Line) (place k : ℕ) : Type 0 where
  pub line : Line
  pub at : slice_get lines place ≡ Some line
  pub target : jump_target line ≡ Some k

first_at : (lines : List Line) (k : ℕ) → first_jump lines ≡ Some k → IsHopAt lines (settle lines 0) k
first_at [] k e = absurd cc
first_at (Label j ∷ lines) k e = let r = first_at lines k e in record { line = r.line; at = r.at; target = r.target }
first_at (Do op mode operand ∷ lines) k e = record { line = Do op mode operand; at = refl; target = e }
first_at (Call callee ∷ lines) k e = absurd cc

pub hop_at : (lines : List Line) (j k : ℕ) → hop lines j ≡ Some k → IsHopAt lines (settle lines (labelled lines j)) k
hop_at [] j k e = absurd cc
hop_at (Label i ∷ lines) j k e = pick (j == i) refl e (hop_at lines j k)
  where
    at : (n : ℕ) → labelled (Label i ∷ lines) j ≡ n → IsHopAt (Label i ∷ lines) (settle (Label i ∷ lines) n) k → IsHopAt (Label i ∷ lines) (settle (Label i ∷ lines) (labelled (Label i ∷ lines) j)) k
    at n is r = subst (λ (x : ℕ). IsHopAt (Label i ∷ lines) (settle (Label i ∷ lines) x) k) (sym is) r

    turned : (b : Bool) → (j == i) ≡ b → (i == j) ≡ b
    turned true h = eq-eqb i j (sym (eqb-true j i h))
    turned false h = other (i == j) refl
      where
        other : (c : Bool) → (i == j) ≡ c → (i == j) ≡ false
        other true g = let yes : (j == i) ≡ true = eq-eqb j i (sym (eqb-true i j g)) in absurd cc
        other false g = g

    pick : (b : Bool) → (j == i) ≡ b → first_jump (if b then lines else behind j lines) ≡ Some k → (hop lines j ≡ Some k → IsHopAt lines (settle lines (labelled lines j)) k)
        → IsHopAt (Label i ∷ lines) (settle (Label i ∷ lines) (labelled (Label i ∷ lines) j)) k
    pick true h e later = let r = first_at lines k e in at 0 (ap (λ (b : Bool). if b then 0 else suc (labelled lines j)) (turned true h)) (record { line = r.line; at = r.at; target = r.target })
    pick false h e later = let r = later e in at (suc (labelled lines j)) (ap (λ (b : Bool). if b then 0 else suc (labelled lines j)) (turned false h)) (record { line = r.line; at = r.at; target = r.target })
hop_at (Do op mode operand ∷ lines) j k e = let r = hop_at lines j k e in record { line = r.line; at = r.at; target = r.target }
hop_at (Call callee ∷ lines) j k e = let r = hop_at lines j k e in record { line = r.line; at = r.at; target = r.target }

pub jump_form : (line : Line) (k : ℕ) → jump_target line ≡ Some k → form_of line ≡ Jump k
jump_form (Do ops.Jmp Absolute (To l)) k e = let is : l ≡ k = cc in ap Jump is
jump_form _ k e = absurd cc
