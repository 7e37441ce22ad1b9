-- Ways of the machine through lines that lead to a label or behind them.
use Rattle.std.proofs.Common.{◌≡◌, ℕ, suc, ◌+◌, List, [], ◌∷◌, ◌++◌, length, Bool, true, false, refl, sym, ap, ◌∙◌, subst, arith, length-append}
use Rattle.c65_mach.specs.declared.rows.Op.{Op}
use Rattle.c65_mach.specs.Step.{is_taken}
use Rattle.c65_meaning.specs.State as meaning
use Rattle.c65_code.specs.declared.line.Line.{Line}
use Rattle.c65_code.specs.declared.line.Line.TheVariants.{Label}
use Rattle.c65_code.specs.LineState.{State}
use Rattle.c65_code.specs.Forms.{Branch, form_of}
use Rattle.c65_code.specs.Moves.{labelled}
use Rattle.c65_code.specs.Comes.{Seen, seen_at}
use Rattle.c65_genload.specs.Words.{branch}
use Rattle.c65_agree_step.specs.Ways.{IsAtLine}
use Rattle.c65_agree_step.proofs.Ways.{labels_are_passed}
use Rattle.c65_agree_state.specs.World.{World, setting_in, Active, lines_of, place_in, IsPlaced, HasAt, HasTurns, HasBranched}
use Rattle.c65_agree_state.specs.Follows.{Follows}
use Rattle.c65_agree_state.proofs.Followed.{follows_weaken, arrivals_count, branches_count}
use Rattle.c65_agree_state.proofs.Nodes.{has_front, has_back}
use Rattle.c65_agree_frame.specs.Leads.{Leads, IsOn}
use Rattle.c65_agree_compare.specs.Branches.{end_of}
use Rattle.c65_agree_compare.proofs.Taken.{branch_goes}

-- from the state t these lines lead within a weight to such a state, at the label where that is taken, and else behind them
abbrev pub LeadsBy : World → Active → List Line → ℕ → ℕ → Bool → State → (State → Type 0) → Type 0
LeadsBy g a lines w to taken t Behind = (n v p turns : ℕ) (m : meaning.State) (seen : Seen)
    → HasAt (lines_of g a) p lines → HasTurns g turns (place_in g a p) seen
    → ((u : State) (later : Seen) → Behind u → HasBranched g taken turns (place_in g a (end_of g a taken to (p + length lines))) later → Follows g n v m (place_in g a (end_of g a taken to (p + length lines))) u later)
    → Follows g n (w + v) m (place_in g a p) t seen

pub by_then : (g : World) (a : Active) (xs ys : List Line) (w x to : ℕ) (taken : Bool) (t : State) (R S : State → Type 0) → Leads g a xs w t R → ((u : State) → R u → LeadsBy g a ys x to taken u S) → LeadsBy g a (xs ++ ys) (w + x) to taken t S
by_then g a xs ys w x to taken t R S first second n v p turns m seen has turned k =
    let weight : w + (x + v) ≡ w + x + v = omega arith in
    let ends : p + length xs + length ys ≡ p + length (xs ++ ys) = omega (arith, length-append xs ys) in
    subst (λ z. Follows g n z m (place_in g a p) t seen) weight
    (first n (x + v) p turns m seen (has_front (lines_of g a) p xs ys has) turned (λ u later r h.
    second u r n v (p + length xs) turns m later (has_back (lines_of g a) p xs ys has) h (λ z after s h2.
    subst (λ q. Follows g n v m (place_in g a (end_of g a taken to q)) z after) (sym ends) (k z after s (subst (λ q. HasBranched g taken turns (place_in g a (end_of g a taken to q)) after) ends h2)))))

module _ (g : World) (a : Active) (op : Op) (l : ℕ) (formed : form_of (branch op l) ≡ Branch op l) (t : State) (on : IsOn g t) where
  at_branch : (p : ℕ) (ls : List Line) → HasAt (lines_of g a) p (branch op l ∷ ls) → IsAtLine (setting_in g) a.symbol p t (Branch op l)
  at_branch p ls has = record { line = branch op l; there = has.0; formed = formed; calm = on.stacks.calm; within = tt; running = on.running }

  -- a branch at the end
  pub branch_by : (taken : Bool) → is_taken op t.regs ≡ taken → LeadsBy g a (branch op l ∷ []) 2 l taken t (λ u. u ≡ t)
  branch_by taken is n v p turns m seen has turned k =
      let ends : suc p ≡ p + 1 = omega arith in
      branch_goes g n v m a.symbol p l t seen op taken (at_branch p [] has) is
      (subst (λ q. Follows g n v m (place_in g a (end_of g a taken l q)) t (seen_at (place_in g a (end_of g a taken l q)) seen)) (sym ends)
      (k t (seen_at (place_in g a (end_of g a taken l (p + 1))) seen) refl (branches_count g taken turns (place_in g a (end_of g a taken l (p + 1))) seen (omega (arith, turned)))))

  -- the lines behind a branch that is not taken
  goes_on : (ls : List Line) (w to : ℕ) (taken : Bool) (S : State → Type 0) → is_taken op t.regs ≡ false → LeadsBy g a ls w to taken t S → LeadsBy g a (branch op l ∷ ls) (2 + w) to taken t S
  goes_on ls w to taken S is next n v p turns m seen has turned k =
      let ends : suc p + length ls ≡ p + length (branch op l ∷ ls) = omega arith in
      let weight : 2 + (w + v) ≡ 2 + w + v = omega arith in
      let seen2 = seen_at (place_in g a (suc p)) seen in
      subst (λ z. Follows g n z m (place_in g a p) t seen) weight
      (branch_goes g n (w + v) m a.symbol p l t seen op false (at_branch p ls has) is
      (next n v (suc p) turns m seen2 has.1 (arrivals_count g turns (place_in g a (suc p)) seen (omega (arith, turned))) (λ u later s h.
      subst (λ q. Follows g n v m (place_in g a (end_of g a taken to q)) u later) (sym ends) (k u later s (subst (λ q. HasBranched g taken turns (place_in g a (end_of g a taken to q)) later) ends h)))))

  -- a branch to the label of the whole, and lines behind it
  pub early_by : (ls : List Line) (w : ℕ) (taken : Bool) (S : State → Type 0) (b : Bool) → is_taken op t.regs ≡ b → (b ≡ true → (taken ≡ true) × S t) → (b ≡ false → LeadsBy g a ls w l taken t S) → LeadsBy g a (branch op l ∷ ls) (2 + w) l taken t S
  early_by ls w taken S true is here next n v p turns m seen has turned k =
      let yes : taken ≡ true = (here refl).0 in
      let end : ℕ = p + length (branch op l ∷ ls) in
      let seen2 = seen_at (place_in g a (labelled (lines_of g a) l)) seen in
      let place : place_in g a (end_of g a taken l end) ≡ place_in g a (labelled (lines_of g a) l) = ap (λ x. place_in g a (end_of g a x l end)) yes in
      follows_weaken g n (2 + v) (2 + w + v) m (place_in g a p) t seen (omega arith)
      (branch_goes g n v m a.symbol p l t seen op true (at_branch p ls has) is
      (subst (λ q. Follows g n v m q t seen2) place
      (k t seen2 (here refl).1 (subst (λ x. HasBranched g x turns (place_in g a (end_of g a x l end)) seen2) (sym yes) (branches_count g true turns (place_in g a (labelled (lines_of g a) l)) seen (omega (arith, turned)))))))
  early_by ls w taken S false is here next n v p turns m seen has turned k = goes_on ls w l taken S is (next refl) n v p turns m seen has turned k

  -- a branch over the lines to their end, where the label of the whole is not taken
  pub skip_by : IsPlaced (lines_of g a) → (ls : List Line) (w to : ℕ) (taken : Bool) (S : State → Type 0) (b : Bool) → is_taken op t.regs ≡ b → (b ≡ true → (taken ≡ false) × S t) → (b ≡ false → LeadsBy g a (ls ++ Label l ∷ []) w to taken t S)
      → LeadsBy g a (branch op l ∷ (ls ++ Label l ∷ [])) (2 + w) to taken t S
  skip_by placed ls w to taken S true is here next n v p turns m seen has turned k =
      let no : taken ≡ false = (here refl).0 in
      let all : List Line = branch op l ∷ (ls ++ Label l ∷ []) in
      let end : ℕ = p + length all in
      let label = has_back (lines_of g a) (suc p) ls (Label l ∷ []) has.1 in
      let ends : suc (suc p + length ls) ≡ end = omega (arith, length-append ls (Label l ∷ [])) in
      let come : place_in g a (labelled (lines_of g a) l) ≡ place_in g a end = ap (place_in g a) (placed (suc p + length ls) l label.0) ∙ labels_are_passed (setting_in g) a.symbol (suc p + length ls) l label.0 ∙ ap (place_in g a) ends in
      let whole : place_in g a (end_of g a taken to end) ≡ place_in g a end = ap (λ x. place_in g a (end_of g a x to end)) no in
      let seen2 = seen_at (place_in g a end) seen in
      follows_weaken g n (2 + v) (2 + w + v) m (place_in g a p) t seen (omega arith)
      (branch_goes g n v m a.symbol p l t seen op true (at_branch p (ls ++ Label l ∷ []) has) is
      (subst (λ q. Follows g n v m q t (seen_at q seen)) (sym come)
      (subst (λ q. Follows g n v m q t seen2) whole
      (k t seen2 (here refl).1 (subst (λ x. HasBranched g x turns (place_in g a (end_of g a x to end)) seen2) (sym no) (arrivals_count g turns (place_in g a end) seen (omega (arith, turned))))))))
  skip_by placed ls w to taken S false is here next n v p turns m seen has turned k = goes_on (ls ++ Label l ∷ []) w to taken S is (next refl) n v p turns m seen has turned k

-- a label behind the lines
pub label_by : (g : World) (a : Active) (ls : List Line) (own w to : ℕ) (taken : Bool) (t : State) (S : State → Type 0) → LeadsBy g a ls w to taken t S → LeadsBy g a (ls ++ Label own ∷ []) w to taken t S
label_by g a ls own w to taken t S first n v p turns m seen has turned k =
    let place = same taken in
    first n v p turns m seen (has_front (lines_of g a) p ls (Label own ∷ []) has) turned (λ u later s h.
    subst (λ q. Follows g n v m q u later) (sym place) (k u later s (subst (λ q. HasBranched g taken turns q later) place h)))
  where
    same : (x : Bool) → place_in g a (end_of g a x to (p + length ls)) ≡ place_in g a (end_of g a x to (p + length (ls ++ Label own ∷ [])))
    same true = refl
    same false =
        let e : suc (p + length ls) ≡ p + length (ls ++ Label own ∷ []) = omega (arith, length-append ls (Label own ∷ [])) in
        labels_are_passed (setting_in g) a.symbol (p + length ls) own (has_back (lines_of g a) p ls (Label own ∷ []) has).0 ∙ ap (place_in g a) e
