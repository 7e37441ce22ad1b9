-- Windows of one line and of two: what is owed of them for a rewriting.
use Rattle.std.proofs.Common.{◌≡◌, ℕ, ◌+◌, ◌-◌, Bool, true, false, List, [], ◌∷◌, take, drop, Option, Some, None, refl, subst, arith}
use Rattle.c65_code.specs.declared.line.Line.{Line}
use Rattle.c65_code.specs.declared.line.Sym.{Sym}
use Rattle.c65_code.specs.LineState.{State}
use Rattle.c65_code.specs.Placement.{Setting}
use Rattle.c65_know.specs.Known.{Annotated}
use Rattle.c65_live.specs.Tables.{Table, live_after}
use Rattle.c65_pass.specs.ArithRules.{both_gone_if}
use Rattle.c65_pass.specs.FlowRules.{gone_if, alone_if}
use Rattle.c65_pass.specs.LoadRules.{instead}
use Rattle.c65_pass.specs.Rewriting.{Rewriting}
use Rattle.c65_pass.specs.Rules.{made_by, match_there, match_at}
use Rattle.c65_optarith_law.specs.Straight.{Steps, Straight, done, by, Agree}

-- what a rewriting of the lines of a segment leads to
abbrev pub Kept : Setting → Table → ℕ → Rewriting → State → State → Type 0
Kept s table at w t u = (v : State) × Straight s w.lines t v × Agree (live_after table (at + w.count - 1)) u v

abbrev pub IsOwed : Setting → List Line → Table → ℕ → State → State → Rewriting → Type 0
IsOwed s lines table at t u w = Straight s (take w.count (drop at lines)) t u → Kept s table at w t u

pub at_line : (rule : ℕ) (literals : List (Sym × List ℕ)) (noted : Annotated) (table : Table) (at : ℕ) (w : Rewriting) (s : Setting) (t u : State)
    → ((line : Line) (post : List Line) → drop at noted.lines ≡ line ∷ post → made_by rule literals noted table at line post ≡ Some w → IsOwed s noted.lines table at t u w)
    → match_at rule literals noted table at ≡ Some w → IsOwed s noted.lines table at t u w
at_line rule literals noted table at w s t u owed m = go (drop at noted.lines) refl m
  where
    go : (rest : List Line) → drop at noted.lines ≡ rest → match_there rule literals noted table at rest ≡ Some w → IsOwed s noted.lines table at t u w
    go [] e k = absurd cc
    go (line ∷ post) e k = owed line post e k

pub one : {s : Setting} {line : Line} {t u : State} → Straight s (line ∷ []) t u → Steps s line t u
one (by step done) = step

pub two : {s : Setting} {line next : Line} {t u : State} → Straight s (line ∷ next ∷ []) t u → (m : State) × Steps s line t m × Steps s next m u
two (by {u = m} first (by second done)) = (m, first, second)

module _ (s : Setting) (lines : List Line) (table : Table) (at : ℕ) (t u : State) where
  pub gone_kept : (line : Line) (post : List Line) (w : Rewriting) (b : Bool) → drop at lines ≡ line ∷ post
      → (b ≡ true → Steps s line t u → Agree (live_after table at) u t) → gone_if b at ≡ Some w → IsOwed s lines table at t u w
  gone_kept line post w false e owed m = absurd cc
  gone_kept line post w true e owed m =
      let is : record { at = at; count = 1; lines = [] } ≡ w = cc in
      subst (IsOwed s lines table at t u) is (λ k.
      let q : at ≡ at + 1 - 1 = omega arith in
      (t, done, subst (λ i. Agree (live_after table i) u t) q (owed refl (one (subst (λ ls. Straight s (take 1 ls) t u) e k)))))

  pub alone_kept : (line next : Line) (post : List Line) (w : Rewriting) (b : Bool) → drop at lines ≡ line ∷ next ∷ post
      → (b ≡ true → (m : State) → Steps s line t m → Steps s next m u → Agree (live_after table (at + 1)) u m) → alone_if b at line ≡ Some w → IsOwed s lines table at t u w
  alone_kept line next post w false e owed m = absurd cc
  alone_kept line next post w true e owed m =
      let is : record { at = at; count = 2; lines = line ∷ [] } ≡ w = cc in
      subst (IsOwed s lines table at t u) is (λ k.
      let q : at + 1 ≡ at + 2 - 1 = omega arith in
      let both = two (subst (λ ls. Straight s (take 2 ls) t u) e k) in
      (both.0, by both.1 done, subst (λ i. Agree (live_after table i) u both.0) q (owed refl both.0 both.1 both.2)))

  pub both_gone_kept : (line next : Line) (post : List Line) (w : Rewriting) (b : Bool) → drop at lines ≡ line ∷ next ∷ post
      → (b ≡ true → (m : State) → Steps s line t m → Steps s next m u → Agree (live_after table (at + 1)) u t) → both_gone_if b at ≡ Some w → IsOwed s lines table at t u w
  both_gone_kept line next post w false e owed m = absurd cc
  both_gone_kept line next post w true e owed m =
      let is : record { at = at; count = 2; lines = [] } ≡ w = cc in
      subst (IsOwed s lines table at t u) is (λ k.
      let q : at + 1 ≡ at + 2 - 1 = omega arith in
      let both = two (subst (λ ls. Straight s (take 2 ls) t u) e k) in
      (t, done, subst (λ i. Agree (live_after table i) u t) q (owed refl both.0 both.1 both.2)))

  pub instead_kept : (line next : Line) (post : List Line) (w : Rewriting) (new : Option Line) → drop at lines ≡ line ∷ next ∷ post
      → ((l : Line) → new ≡ Some l → (m : State) → Steps s line t m → Steps s next m u → (v : State) × Steps s l t v × Agree (live_after table (at + 1)) u v)
      → instead 2 at new ≡ Some w → IsOwed s lines table at t u w
  instead_kept line next post w None e owed m = absurd cc
  instead_kept line next post w (Some l) e owed m =
      let is : record { at = at; count = 2; lines = l ∷ [] } ≡ w = cc in
      subst (IsOwed s lines table at t u) is (λ k.
      let q : at + 1 ≡ at + 2 - 1 = omega arith in
      let both = two (subst (λ ls. Straight s (take 2 ls) t u) e k) in
      let new = owed l refl both.0 both.1 both.2 in
      (new.0, by new.1 done, subst (λ i. Agree (live_after table i) u new.0) q new.2))
