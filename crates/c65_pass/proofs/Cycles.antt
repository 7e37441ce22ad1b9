-- Turns one behind the other and from the first again: which of them made nothing last.
use Rattle.std.proofs.Common.{◌≡◌, ◌⊎◌, inl, inr, ℕ, zero, suc, ◌+◌, ◌-◌, ◌*◌, ◌<◌, ◌≤◌, List, refl, sym, subst, arith, ◌∙◌}
use Rattle.std.proofs.lemmas.Bool.{cases_lt}
use Rattle.std.proofs.Math.Nat.{eq-or-lt_of_le}
use Rattle.c65_code.specs.declared.line.Line.{Line}
use Rattle.c65_code.specs.declared.parts.RegSet.{RegSet}
use Rattle.c65_know.specs.Known.{Annotated}
use Rattle.c65_pass.specs.Passes.{counted}
use Rattle.c65_pass.specs.Rewriting.{bulk}
use Rattle.c65_pass.specs.Rounds.{InTurn, AreFree, RulesRewrite}
use Rattle.c65_pass.proofs.Ranks.{rank, turn as nearer}
use Rattle.c65_pass.proofs.Turns.{rules_wider}

-- one of so many turns before this one
pub data IsRecent (first end turn idle t : ℕ) : Type 0 where
  before : t < turn → turn ≤ t + idle → IsRecent first end turn idle t
  behind : turn ≤ t → turn + (end - first) ≤ t + idle → IsRecent first end turn idle t

-- the turn behind one
pub record IsNext (first end turn next : ℕ) : Type 0 where
  pub on : turn + 1 < end → next ≡ turn + 1
  pub again : end ≡ turn + 1 → next ≡ first

which : (turn end : ℕ) → turn < end → (end ≡ turn + 1) ⊎ (turn + 1 < end)
which turn end less = go (eq-or-lt_of_le less)
  where
    go : (suc turn ≡ end) ⊎ (suc turn < end) → (end ≡ turn + 1) ⊎ (turn + 1 < end)
    go (inl e) = inl (omega (arith, e))
    go (inr more) = inr (omega (arith, more))

pub next_within : (first end turn next : ℕ) → first ≤ turn → turn < end → IsNext first end turn next → (first ≤ next) × (next < end)
next_within first end turn next from less n = go (which turn end less)
  where
    go : (end ≡ turn + 1) ⊎ (turn + 1 < end) → (first ≤ next) × (next < end)
    go (inl e) = let is = n.again e in (omega (arith, is), omega (arith, is, from, less))
    go (inr more) = let is = n.on more in (omega (arith, is, from), omega (arith, is, more))

-- no turn is among none
pub none_recent : {A : Type 0} (first end turn t : ℕ) → first ≤ turn → t < end → IsRecent first end turn 0 t → A
none_recent first end turn t from less (before earlier few) = absurd (omega (arith, earlier, few))
none_recent first end turn t from less (behind later few) = absurd (omega (arith, from, less, few))

-- one more: the last one, or one of the others
pub one_recent : (first end turn next idle t : ℕ) → first ≤ turn → turn < end → IsNext first end turn next → first ≤ t → t < end → IsRecent first end next (idle + 1) t → (t ≡ turn) ⊎ IsRecent first end turn idle t
one_recent first end turn next idle t from less n low high recent = go (which turn end less) recent
  where
    split : (t ≤ turn → turn ≤ t + idle) → (turn < t → turn + (end - first) ≤ t + idle) → (t ≡ turn) ⊎ IsRecent first end turn idle t
    split early late = first_of (cases_lt turn t)
      where
        earlier : (t ≡ turn) ⊎ (t < turn) → (t ≡ turn) ⊎ IsRecent first end turn idle t
        earlier (inl e) = inl e
        earlier (inr lower) = inr (before lower (early (omega (arith, lower))))

        first_of : (turn < t) ⊎ (t ≤ turn) → (t ≡ turn) ⊎ IsRecent first end turn idle t
        first_of (inl more) = inr (behind (omega (arith, more)) (late more))
        first_of (inr no_more) = earlier (eq-or-lt_of_le no_more)

    go : (end ≡ turn + 1) ⊎ (turn + 1 < end) → IsRecent first end next (idle + 1) t → (t ≡ turn) ⊎ IsRecent first end turn idle t
    go (inl e) (before earlier few) = let is = n.again e in absurd (omega (arith, is, earlier, low))
    go (inl e) (behind later few) = let is = n.again e in split (λ h. omega (arith, is, few, e, from, less)) (λ h. absurd (omega (arith, h, high, e)))
    go (inr more) (before earlier few) = let is = n.on more in split (λ h. omega (arith, is, few)) (λ h. absurd (omega (arith, h, is, earlier)))
    go (inr more) (behind later few) = let is = n.on more in split (λ h. absurd (omega (arith, h, is, later))) (λ h. omega (arith, is, few))

-- the rules of the last turns match nowhere: behind a turn that made nothing, and behind one that made something
pub free_still : (first end turn next idle now made : ℕ) (among : ℕ → ℕ → Type 0) (code new : Annotated) → first ≤ turn → turn < end → IsNext first end turn next
    → ((t : ℕ) → first ≤ t → t < end → IsRecent first end turn idle t → AreFree (among t) code) → AreFree (among turn) new → (now ≡ 0 → new ≡ code)
    → (now ≡ 0 → made ≡ idle + 1) → ((now ≡ 0 → ⊥) → made ≡ 1) → (t : ℕ) → first ≤ t → t < end → IsRecent first end next made t → AreFree (among t) new
free_still first end turn next idle zero made among code new from less n free own same more one t low high recent =
    go (one_recent first end turn next idle t from less n low high (subst (λ k. IsRecent first end next k t) (more refl) recent))
  where
    go : (t ≡ turn) ⊎ IsRecent first end turn idle t → AreFree (among t) new
    go (inl e) = subst (λ k. AreFree (among k) new) (sym e) own
    go (inr earlier) = subst (AreFree (among t)) (sym (same refl)) (free t low high earlier)
free_still first end turn next idle (suc now) made among code new from less n free own same more one t low high recent =
    let is : made ≡ 0 + 1 = one (λ e. absurd (omega (arith, e))) ∙ (omega arith) in
    go (one_recent first end turn next 0 t from less n low high (subst (λ k. IsRecent first end next k t) is recent))
  where
    go : (t ≡ turn) ⊎ IsRecent first end turn 0 t → AreFree (among t) new
    go (inl e) = subst (λ k. AreFree (among k) new) (sym e) own
    go (inr earlier) = none_recent first end turn t from high earlier

-- where as many turns made nothing as there are, all did
pub all_recent : (first end turn idle t : ℕ) → turn < end → first ≤ t → t < end → end - first ≤ idle → IsRecent first end turn idle t
all_recent first end turn idle t less low high all = go (cases_lt t turn)
  where
    go : (t < turn) ⊎ (turn ≤ t) → IsRecent first end turn idle t
    go (inl earlier) = before earlier (omega (arith, less, low, all))
    go (inr later) = behind later (omega (arith, later, all))

pub all_free : (first end turn idle : ℕ) (among : ℕ → ℕ → Type 0) (code : Annotated) → turn < end → end - first ≤ idle
    → ((t : ℕ) → first ≤ t → t < end → IsRecent first end turn idle t → AreFree (among t) code) → AreFree (InTurn first end among) code
all_free first end turn idle among code less all free rule r = free r.turn r.first r.before (all_recent first end turn idle r.turn less r.first r.before all) rule r.among

-- the rewritings of a turn are some of those of all turns
pub turn_rewrites : (first end turn : ℕ) (among : ℕ → ℕ → Type 0) (out : RegSet) (old new : List Line) (n : ℕ) → first ≤ turn → turn < end → RulesRewrite (among turn) out old n new → RulesRewrite (InTurn first end among) out old n new
turn_rewrites first end turn among out old new n from less = rules_wider (among turn) (InTurn first end among) out old new n (λ rule r. record { turn = turn; first = from; before = less; among = r })

pub idle_within : (first end idle now made : ℕ) → idle < end - first → (now ≡ 0 → made ≡ idle + 1) → ((now ≡ 0 → ⊥) → made ≡ 1) → made ≤ end - first
idle_within first end idle zero made less more one = omega (arith, less, more refl)
idle_within first end idle (suc now) made less more one = omega (arith, less, one (λ e. absurd (omega (arith, e))))

-- each turn makes something, or is one more that made nothing
pub cycle_smaller : (old : List Line) (code new : Annotated) (first end idle now made n : ℕ) → rank (bulk old) new.lines + n ≤ rank (bulk old) code.lines → now ≡ counted n → (now ≡ 0 → new ≡ code) → idle < end - first → (now ≡ 0 → made ≡ idle + 1)
    → rank (bulk old) new.lines * (end - first + 1) + (end - first - made) < rank (bulk old) code.lines * (end - first + 1) + (end - first - idle)
cycle_smaller old code new first end idle zero made n lower count same less more =
    let is : made ≡ idle + 1 = more refl in
    let lines : new ≡ code = same refl in
    rw (lines, is) (omega (arith, less))
cycle_smaller old code new first end idle (suc now) made n lower count same less more =
    let some : 0 < n = omega (arith, count) in
    let down : rank (bulk old) new.lines < rank (bulk old) code.lines = omega (arith, lower, some) in
    nearer (end - first) (rank (bulk old) new.lines) (rank (bulk old) code.lines) (end - first - made) (end - first - idle) down (omega arith)
