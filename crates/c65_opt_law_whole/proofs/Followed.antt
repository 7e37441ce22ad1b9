-- What is followed until the end in one function, one after another.
use Rattle.std.proofs.Common.{◌≡◌, ℕ, ◌+◌, ◌==◌, Bool, true, false, if◌then◌else◌, List, refl, sym, subst, arith}
use Rattle.std.proofs.Math.Path.{fun_ext}
use Rattle.c65_code.specs.declared.line.Line.{Line}
use Rattle.c65_code.specs.Comes.{ComesFrom}
use Rattle.c65_code.specs.Placement.{Setting}
use Rattle.c65_code.specs.Rewriting.{with_lines, mapped_in}
use Rattle.c65_opt_law_chains.specs.Laws.{FollowsUntilEnd, IsFollowedUntilEnd, FollowingUntilEndComposes}

-- what each code follows: itself
pub itself : (s : Setting) (main : ℕ) → FollowsUntilEnd (λ f p. p) 0 s s main
itself s main = record {
  by = λ test w t none empty runs. runs;
  turns = λ test grows early w t none empty runs. let sum : w ≡ w + 0 = omega arith in subst (λ (v : ℕ). ComesFrom s main test v t) sum runs;
}

-- a map of one function that leaves it as it is
same_place : (f : ℕ) → mapped_in f (λ p. p) ≡ (λ g p. p)
same_place f = fun_ext (λ g. fun_ext (λ p. pick (g == f) p))
  where
    pick : (b : Bool) (p : ℕ) → (if b then p else p) ≡ p
    pick true p = refl
    pick false p = refl

pub followed_itself : (kind : Setting → Type 0) (f main : ℕ) (lines : List Line) → IsFollowedUntilEnd kind f main lines lines
followed_itself kind f main lines = record {
  map = λ p. p;
  more = 0;
  follows = λ s is. subst (λ (m : ℕ → ℕ → ℕ). FollowsUntilEnd m 0 (with_lines s f lines) (with_lines s f lines) main) (sym (same_place f)) (itself (with_lines s f lines) main);
}

-- what is followed in more codes
pub followed_in : (kind other : Setting → Type 0) → ((s : Setting) → other s → kind s) → (f main : ℕ) (old new : List Line) → IsFollowedUntilEnd kind f main old new → IsFollowedUntilEnd other f main old new
followed_in kind other is f main old new h = record { map = h.map; more = h.more; follows = λ s k. h.follows s (is s k) }

-- two maps of one function
both_places : (f : ℕ) (first second : ℕ → ℕ) → mapped_in f (λ p. second (first p)) ≡ (λ g p. mapped_in f second g (mapped_in f first g p))
both_places f first second = fun_ext (λ g. fun_ext (λ p. pick (g == f) p))
  where
    pick : (b : Bool) (p : ℕ) → (if b then second (first p) else p) ≡ (if b then second (if b then first p else p) else (if b then first p else p))
    pick true p = refl
    pick false p = refl

pub followed_on : FollowingUntilEndComposes → (kind : Setting → Type 0) (f main : ℕ) (old lines new : List Line) → IsFollowedUntilEnd kind f main old lines → IsFollowedUntilEnd kind f main lines new → IsFollowedUntilEnd kind f main old new
followed_on composes kind f main old lines new h k = record {
  map = λ p. k.map (h.map p);
  more = h.more + k.more;
  follows = λ s is. subst (λ (m : ℕ → ℕ → ℕ). FollowsUntilEnd m (h.more + k.more) (with_lines s f old) (with_lines s f new) main) (sym (both_places f h.map k.map))
      (composes (mapped_in f h.map) (mapped_in f k.map) h.more k.more (with_lines s f old) (with_lines s f lines) (with_lines s f new) main (h.follows s is) (k.follows s is));
}
