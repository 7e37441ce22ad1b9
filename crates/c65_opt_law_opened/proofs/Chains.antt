-- Lines that are done several times, with INY between.
use Rattle.std.proofs.Common.{◌≡◌, ℕ, zero, suc, ◌+◌, ◌*◌, ◌<◌, List, ◌∷◌, ◌++◌, length, sym, subst, arith}
use Rattle.std.proofs.lemmas.List.{append_assoc}
use Rattle.c65_mach.specs.declared.rows.Op.TheVariants as ops
use Rattle.c65_code.specs.declared.line.Line.{Line}
use Rattle.c65_code.specs.LineState.{State}
use Rattle.c65_code.specs.Placement.{Setting}
use Rattle.c65_code.specs.Steady.{IsCalm}
use Rattle.c65_pass.specs.KnownCalls.{once_and}
use Rattle.c65_pass.specs.Registers.{alone}
use Rattle.c65_opt_law_opened.proofs.Leads.{Leads, leads_on, AllPassable, behind}

-- a state to which lines lead, and in which something holds
pub record IsStep (s : Setting) (lines : List Line) (t : State) (Holds : State → Type 0) : Type 0 where
  pub passable : AllPassable s lines t
  pub holds : Holds (behind s lines t)

module _ (s : Setting) (P : State → Type 0) (lines : List Line) (Holds : ℕ → State → Type 0) where
  -- what they weigh with what follows
  abbrev pub weight : ℕ → ℕ → ℕ
  weight zero w = length lines + w
  weight (suc n) w = weight n (length (alone ops.Iny ∷ lines) + w)

  pub leads_often : (n : ℕ) (rest : List Line) (w : ℕ) (t : State) → IsCalm s t → IsStep s lines t (Holds 0) → ((k : ℕ) (v : State) → k < n → Holds k v → IsStep s (alone ops.Iny ∷ lines) v (Holds (suc k)))
      → ((v : State) → Holds n v → IsCalm s v → Leads s P rest w v) → Leads s P (once_and lines n ++ rest) (weight n w) t
  leads_often zero rest w t calm first more on = leads_on s P lines rest w t first.passable calm (λ c. on (behind s lines t) first.holds c)
  leads_often (suc n) rest w t calm first more on =
      subst (λ (ls : List Line). Leads s P ls (weight (suc n) w) t) (sym (append_assoc (once_and lines n) (alone ops.Iny ∷ lines) rest))
      (leads_often n ((alone ops.Iny ∷ lines) ++ rest) (length (alone ops.Iny ∷ lines) + w) t calm first (λ k v less h. more k v (omega (arith, less)) h) (λ v h c.
      let next : IsStep s (alone ops.Iny ∷ lines) v (Holds (suc n)) = more n v (omega arith) h in
      leads_on s P (alone ops.Iny ∷ lines) rest w v next.passable c (λ d. on (behind s (alone ops.Iny ∷ lines) v) next.holds d)))

  pub weight_is : (n w : ℕ) → weight n w ≡ length lines + n * (1 + length lines) + w
  weight_is zero w = omega arith
  weight_is (suc n) w = let e : weight n (length (alone ops.Iny ∷ lines) + w) ≡ length lines + n * (1 + length lines) + (length (alone ops.Iny ∷ lines) + w) = weight_is n (length (alone ops.Iny ∷ lines) + w) in omega (arith, e)
