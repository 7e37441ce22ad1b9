-- Chains of jumps: each jump is taken off the way of a line that goes to its label.
use Rattle.std.proofs.Common.{◌≡◌, ℕ, zero, suc, ◌+◌, ◌≤◌, ◌==◌, Bool, true, false, if◌then◌else◌, List, ◌∷◌, ◌++◌, length, Option, Some, None, refl, sym, subst, ap, ◌∙◌, arith}
use Rattle.std.specs.Prelude.{slice_get}
use Rattle.std.proofs.Math.Path.{fun_ext}
use Rattle.std.proofs.lemmas.Bool.{eq-eqb, eqb-true}
use Rattle.c65_code.specs.declared.line.Line.{Line}
use Rattle.c65_code.specs.Comes.{Shows}
use Rattle.c65_code.specs.Follows.{through}
use Rattle.c65_code.specs.Moves.{settle, labelled}
use Rattle.c65_code.specs.Placement.{Setting}
use Rattle.c65_code.specs.Rewriting.{with_lines, mapped_in}
use Rattle.c65_code.specs.Steady.{HasLines}
use Rattle.c65_pass.specs.FlowRules.{threaded}
use Rattle.c65_pass.specs.Labels.{jump_target, retargeted, hop, chain_from, chain_end}
use Rattle.c65_opt_law_follow.proofs.Walks.{IsInstruction, weaken}
use Rattle.c65_opt_law_chains.specs.Laws.{FollowsUntilEnd, IsFollowedUntilEnd, FollowingHolds, FollowingUntilEndComposes}
use Rattle.c65_opt_law_chains.proofs.Hop.{Aims, IsSentOn, hop_follows}
use Rattle.c65_opt_law_chains.proofs.Lines.{settle_swapped, label_swapped, get_swapped, get_there, has_there, IsHopAt, hop_at, jump_form}

-- ---- following until the end

pub following_holds : FollowingHolds
following_holds map more old new main h = record { by = h.by; turns = λ test grows before w t empty none c. h.turns test grows w t empty none c }

pub following_until_end_composes : FollowingUntilEndComposes
following_until_end_composes first second more rest a b c main h k = record {
  by = λ test w t empty none runs. k.by test w t empty none (h.by test w t empty none runs);
  turns = λ test grows before w t empty none runs.
      weaken c (Shows (λ shown seen. test shown (through (λ f p. second f (first f p)) seen))) (w + (more + rest)) (omega arith)
      (k.turns (λ shown seen. test shown (through first seen)) (λ shown s r le y. grows shown (through first s) (through first r) (λ f p. le f (first f p)) y) (λ shown seen y. before shown (through first seen) y) (w + more) t empty none
      (h.turns test grows before w t empty none runs));
}

-- every code
abbrev pub Any : Setting → Type 0
Any s = Unit {0}

module _ (f main : ℕ) where
  one_map : (first second : ℕ → ℕ) → (λ g p. mapped_in f second g (mapped_in f first g p)) ≡ mapped_in f (λ p. second (first p))
  one_map first second = fun_ext (λ g. fun_ext (λ p. pick p (g == f)))
    where
      pick : (p : ℕ) (b : Bool) → (if b then second (if b then first p else p) else (if b then first p else p)) ≡ (if b then second (first p) else p)
      pick p true = refl
      pick p false = refl

  both_followed : (old next new : List Line) → IsFollowedUntilEnd Any f main old next → IsFollowedUntilEnd Any f main next new → IsFollowedUntilEnd Any f main old new
  both_followed old next new h k = record {
    map = λ p. k.map (h.map p);
    more = h.more + k.more;
    follows = λ s any. subst (λ (m : ℕ → ℕ → ℕ). FollowsUntilEnd m (h.more + k.more) (with_lines s f old) (with_lines s f new) main) (one_map h.map k.map)
        (following_until_end_composes (mapped_in f h.map) (mapped_in f k.map) h.more k.more (with_lines s f old) (with_lines s f next) (with_lines s f new) main (h.follows s any) (k.follows s any));
  }

  no_map : (λ (g p : ℕ). p) ≡ mapped_in f (λ p. p)
  no_map = fun_ext (λ g. fun_ext (λ p. pick p (g == f)))
    where
      pick : (p : ℕ) (b : Bool) → p ≡ (if b then p else p)
      pick p true = refl
      pick p false = refl

  itself_followed : (lines : List Line) → IsFollowedUntilEnd Any f main lines lines
  itself_followed lines = record {
    map = λ p. p;
    more = 0;
    follows = λ s any. subst (λ (m : ℕ → ℕ → ℕ). FollowsUntilEnd m 0 (with_lines s f lines) (with_lines s f lines) main) no_map (record {
      by = λ test w t empty none c. c;
      turns = λ test grows before w t empty none c. weaken (with_lines s f lines) (Shows test) (w + 0) (omega arith) c;
    });
  }

-- ---- chains

-- so many jumps from one label to another, at which no jump stands
pub data Chain (lines : List Line) : ℕ → ℕ → ℕ → Type 0 where
  ends : {k : ℕ} → hop lines k ≡ None → Chain lines 0 k k
  goes : {n k j e : ℕ} → hop lines k ≡ Some j → Chain lines n j e → Chain lines (suc n) k e

chain_of : (most : ℕ) (lines : List Line) (k e : ℕ) → chain_from most lines k (hop lines k) ≡ Some e → (n : ℕ) × Chain lines n k e
chain_of zero lines k e h = go (hop lines k) refl h
  where
    go : (o : Option ℕ) → hop lines k ≡ o → chain_from 0 lines k o ≡ Some e → (n : ℕ) × Chain lines n k e
    go None is h = let same : k ≡ e = cc in (0, subst (Chain lines 0 k) same (ends is))
    go (Some j) is h = absurd cc
chain_of (suc most) lines k e h = go (hop lines k) refl h (λ j. chain_of most lines j e)
  where
    go : (o : Option ℕ) → hop lines k ≡ o → chain_from (suc most) lines k o ≡ Some e → ((j : ℕ) → chain_from most lines j (hop lines j) ≡ Some e → (n : ℕ) × Chain lines n j e) → (n : ℕ) × Chain lines n k e
    go None is h later = let same : k ≡ e = cc in (0, subst (Chain lines 0 k) same (ends is))
    go (Some j) is h later = let rest = later j h in (suc rest.0, goes is rest.1)

pub record Threads (lines : List Line) (target : Option ℕ) (e : ℕ) : Type 0 where
  pub label : ℕ
  pub is : target ≡ Some label
  pub count : ℕ
  pub chain : Chain lines count label e

pub threads : (lines : List Line) (target : Option ℕ) (e : ℕ) → threaded lines target ≡ Some e → Threads lines target e
threads lines None e h = absurd cc
threads lines (Some l) e h = go (hop lines l) refl h
  where
    go : (o : Option ℕ) → hop lines l ≡ o → chain_end lines o ≡ Some e → Threads lines (Some l) e
    go None is h = absurd cc
    go (Some k) is h = let rest = chain_of (length lines) lines k e h in record { label = l; is = refl; count = suc rest.0; chain = goes is rest.1 }

-- a chain from one label is of one length
one_length : (lines : List Line) (n m k e d : ℕ) → Chain lines n k e → Chain lines m k d → n ≡ m
one_length lines n m k e d (ends h) (ends g) = refl
one_length lines n m k e d (ends h) (goes g y) = absurd (clash (hop lines k) _ h g)
  where
    clash : (o : Option ℕ) (j : ℕ) → o ≡ None → o ≡ Some j → ⊥
    clash o j h g = cc
one_length lines n m k e d (goes g y) (ends h) = absurd (clash (hop lines k) _ h g)
  where
    clash : (o : Option ℕ) (j : ℕ) → o ≡ None → o ≡ Some j → ⊥
    clash o j h g = cc
one_length lines n m k e d (goes {n = i} {j = j} h x) (goes {n = r} {j = q} g y) = ap suc (one_length lines i r j e d x (subst (λ (z : ℕ). Chain lines r z d) (sym (same (hop lines k) j q h g)) y))
  where
    same : (o : Option ℕ) (j q : ℕ) → o ≡ Some j → o ≡ Some q → j ≡ q
    same o j q h g = cc

-- ---- the line that is sent on

-- a jump or a branch to a label, with other labels in its place
pub record IsAimed (line : Line) (l : ℕ) : Type 0 where
  pub instruction : (k : ℕ) → IsInstruction (retargeted line k)
  pub aims : (j k : ℕ) → Aims (retargeted line j) (retargeted line k) j k
  pub same : retargeted line l ≡ line
  pub back : (k : ℕ) → jump_target line ≡ Some k → k ≡ l

module _ (f main : ℕ) (front after : List Line) (line : Line) (l : ℕ) (aimed : IsAimed line l) where
  abbrev pub sent : ℕ → List Line
  sent k = front ++ (retargeted line k ∷ after)

  abbrev lines_with : Setting → ℕ → ℕ → List Line
  lines_with s k g = if g == f then front ++ (retargeted line k ∷ after) else s.lines g

  swap_settle : (j k p : ℕ) → settle (sent j) p ≡ settle (sent k) p
  swap_settle j k p = settle_swapped after (retargeted line j) (retargeted line k) (aimed.instruction j) (aimed.instruction k) front p

  swap_label : (j k n : ℕ) → labelled (sent j) n ≡ labelled (sent k) n
  swap_label j k n = label_swapped after (retargeted line j) (retargeted line k) (aimed.instruction j) (aimed.instruction k) front n

  same_place : (j k n : ℕ) → settle (sent j) (labelled (sent j) n) ≡ settle (sent k) (labelled (sent k) n)
  same_place j k n = swap_settle j k (labelled (sent j) n) ∙ ap (settle (sent k)) (swap_label j k n)

  in_f : (s : Setting) (k : ℕ) → lines_with s k f ≡ sent k
  in_f s k = let yes : (f == f) ≡ true = eq-eqb f f refl in ap (λ (b : Bool). if b then sent k else s.lines f) yes

  module _ (j k : ℕ) (r : IsHopAt (sent l) (settle (sent l) (labelled (sent l) j)) k) (away : settle (sent l) (labelled (sent l) j) ≡ length front → ⊥) where
    in_old : slice_get (sent j) (settle (sent j) (labelled (sent j) j)) ≡ Some r.line
    in_old = ap (slice_get (sent j)) (same_place j l j) ∙ (get_swapped front after (retargeted line j) (retargeted line l) (settle (sent l) (labelled (sent l) j)) away ∙ r.at)

    one_hop : (s : Setting) → IsSentOn (lines_with s j) (lines_with s k) f (length front) (settle (lines_with s j f) (labelled (lines_with s j f) j)) (settle (lines_with s j f) (labelled (lines_with s j f) k)) (retargeted line j) (retargeted line k) r.line j k
    one_hop s = record {
      settles = λ g p. settled g p (g == f);
      labels = λ g n. labelled_as g n (g == f);
      there = λ g h. there g (g == f) h;
      others = λ g q x ne h. others g q x (g == f) refl ne h;
      old_at = subst (λ (x : List Line). slice_get x (length front) ≡ Some (retargeted line j)) (sym (in_f s j)) (get_there front after (retargeted line j));
      new_at = subst (λ (x : List Line). slice_get x (length front) ≡ Some (retargeted line k)) (sym (in_f s k)) (get_there front after (retargeted line k));
      aims = aimed.aims j k;
      hop_at = subst (λ (x : List Line). slice_get x (settle x (labelled x j)) ≡ Some r.line) (sym (in_f s j)) in_old;
      hop_is = jump_form r.line k r.target;
      first_is = refl;
      last_is = refl;
      apart = λ e. away (sym (same_place j l j) ∙ (sym (ap (λ (x : List Line). settle x (labelled x j)) (in_f s j)) ∙ e));
    }
      where
        settled : (g p : ℕ) (b : Bool) → settle (if b then sent j else s.lines g) p ≡ settle (if b then sent k else s.lines g) p
        settled g p true = swap_settle j k p
        settled g p false = refl

        labelled_as : (g n : ℕ) (b : Bool) → labelled (if b then sent j else s.lines g) n ≡ labelled (if b then sent k else s.lines g) n
        labelled_as g n true = swap_label j k n
        labelled_as g n false = refl

        there : (g : ℕ) (b : Bool) → HasLines (if b then sent j else s.lines g) → HasLines (if b then sent k else s.lines g)
        there g true h = has_there front after (retargeted line k)
        there g false h = h

        others : (g q : ℕ) (x : Line) (b : Bool) → (g == f) ≡ b → ((g ≡ f) × (q ≡ length front) → ⊥) → slice_get (if b then sent j else s.lines g) q ≡ Some x → slice_get (if b then sent k else s.lines g) q ≡ Some x
        others g q x true e ne h = sym (get_swapped front after (retargeted line j) (retargeted line k) q (λ i. ne (eqb-true g f e, i))) ∙ h
        others g q x false e ne h = h

    sent_on : IsFollowedUntilEnd Any f main (sent j) (sent k)
    sent_on = record {
      map = λ q. if q == settle (sent j) (labelled (sent j) j) then settle (sent j) (labelled (sent j) k) else q;
      more = 1;
      follows = λ s any. subst (λ (x : List Line). FollowsUntilEnd (mapped_in f (λ q. if q == settle x (labelled x j) then settle x (labelled x k) else q)) 1 (with_lines s f (sent j)) (with_lines s f (sent k)) main) (in_f s j)
          (hop_follows s (lines_with s j) (lines_with s k) f (length front) (settle (lines_with s j f) (labelled (lines_with s j f) j)) (settle (lines_with s j f) (labelled (lines_with s j f) k)) (retargeted line j) (retargeted line k) r.line j k (one_hop s) main);
    }

  -- the chain does not come back to the line
  never_back : (n total j k d e : ℕ) → suc n ≤ total → Chain (sent l) total l d → hop (sent l) j ≡ Some k → Chain (sent l) n k e → settle (sent l) (labelled (sent l) j) ≡ length front → ⊥
  never_back n total j k d e le whole h rest at =
      let r = hop_at (sent l) j k h in
      let is : r.line ≡ line = same_line r.line line (sym r.at ∙ (ap (slice_get (sent l)) at ∙ (get_there front after (retargeted line l) ∙ ap Some aimed.same))) in
      let to : k ≡ l = aimed.back k (subst (λ (x : Line). jump_target x ≡ Some k) is r.target) in
      omega (arith, le, one_length (sent l) n total l e d (subst (λ (x : ℕ). Chain (sent l) n x e) to rest) whole)
    where
      same_line : (x y : Line) → Some x ≡ Some y → x ≡ y
      same_line x y e = cc

  walk : (total d : ℕ) → Chain (sent l) total l d → (n k e : ℕ) → n ≤ total → Chain (sent l) n k e → IsFollowedUntilEnd Any f main (sent k) (sent e)
  walk total d whole n k e le (ends h) = itself_followed f main (sent k)
  walk total d whole n k e le (goes {n = m} {j = j} h rest) =
      both_followed f main (sent k) (sent j) (sent e) (sent_on k j (hop_at (sent l) k j h) (never_back m total k j d e (omega (arith, le)) whole h rest)) (walk total d whole m j e (omega (arith, le)) rest)

  pub chain_is_followed : (n e : ℕ) → Chain (sent l) n l e → IsFollowedUntilEnd Any f main (sent l) (sent e)
  chain_is_followed n e chain = walk n e chain n l e (omega arith) chain
