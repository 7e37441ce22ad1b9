-- Each of the rules has one turn.
use Rattle.std.proofs.Common.{◌≡◌, ◌⊎◌, inl, inr, ℕ, ◌<◌, ◌≤◌, refl, sym, subst, arith}
use Rattle.std.proofs.Math.Nat.{eq-or-lt_of_le}
use Rattle.c65_optstack.specs.Stack.{rule_of_turn, InItsTurn}
use Rattle.c65_pass.specs.Rounds.{IsRuleOf, InTurn, AreGood}
use Rattle.c65_optstack.proofs.Good.{stack_good}

-- what holds of the numbers from 33 to 38, one by one
record OfEach (P : ℕ → Type 0) : Type 0 where
  on_33 : P 33
  on_34 : P 34
  on_35 : P 35
  on_36 : P 36
  on_37 : P 37
  on_38 : P 38

of_each : (P : ℕ → Type 0) → OfEach P → (n : ℕ) → 33 ≤ n → n ≤ 38 → P n
of_each P all n first last = to_38 (eq-or-lt_of_le last)
  where
    to_33 : (n ≡ 33) ⊎ (n < 33) → P n
    to_33 (inl e) = subst P (sym e) all.on_33
    to_33 (inr less) = absurd (omega (arith, less, first))

    to_34 : (n ≡ 34) ⊎ (n < 34) → P n
    to_34 (inl e) = subst P (sym e) all.on_34
    to_34 (inr less) = let h : n ≤ 33 = omega (arith, less) in to_33 (eq-or-lt_of_le h)

    to_35 : (n ≡ 35) ⊎ (n < 35) → P n
    to_35 (inl e) = subst P (sym e) all.on_35
    to_35 (inr less) = let h : n ≤ 34 = omega (arith, less) in to_34 (eq-or-lt_of_le h)

    to_36 : (n ≡ 36) ⊎ (n < 36) → P n
    to_36 (inl e) = subst P (sym e) all.on_36
    to_36 (inr less) = let h : n ≤ 35 = omega (arith, less) in to_35 (eq-or-lt_of_le h)

    to_37 : (n ≡ 37) ⊎ (n < 37) → P n
    to_37 (inl e) = subst P (sym e) all.on_37
    to_37 (inr less) = let h : n ≤ 36 = omega (arith, less) in to_36 (eq-or-lt_of_le h)

    to_38 : (n ≡ 38) ⊎ (n < 38) → P n
    to_38 (inl e) = subst P (sym e) all.on_38
    to_38 (inr less) = let h : n ≤ 37 = omega (arith, less) in to_37 (eq-or-lt_of_le h)

-- the rule of a turn is one of them
pub turn_range : (turn : ℕ) → 33 ≤ turn → turn < 39 → IsRuleOf 33 38 (rule_of_turn turn)
turn_range turn first before =
    of_each (λ n. IsRuleOf 33 38 (rule_of_turn n)) (record {
      on_33 = record { first = omega arith; last = omega arith };
      on_34 = record { first = omega arith; last = omega arith };
      on_35 = record { first = omega arith; last = omega arith };
      on_36 = record { first = omega arith; last = omega arith };
      on_37 = record { first = omega arith; last = omega arith };
      on_38 = record { first = omega arith; last = omega arith };
    }) turn first (omega (arith, before))

pub of_turn : (rule : ℕ) → InTurn 33 39 InItsTurn rule → IsRuleOf 33 38 rule
of_turn rule t = subst (IsRuleOf 33 38) (sym t.among) (turn_range t.turn t.first t.before)

-- and each of them is the rule of a turn
pub turn_of : (rule : ℕ) → IsRuleOf 33 38 rule → InTurn 33 39 InItsTurn rule
turn_of rule r =
    of_each (InTurn 33 39 InItsTurn) (record {
      on_33 = record { turn = 33; first = omega arith; before = omega arith; among = refl };
      on_34 = record { turn = 34; first = omega arith; before = omega arith; among = refl };
      on_35 = record { turn = 35; first = omega arith; before = omega arith; among = refl };
      on_36 = record { turn = 38; first = omega arith; before = omega arith; among = refl };
      on_37 = record { turn = 37; first = omega arith; before = omega arith; among = refl };
      on_38 = record { turn = 36; first = omega arith; before = omega arith; among = refl };
    }) rule r.first r.last

pub turns_good : AreGood (InTurn 33 39 InItsTurn)
turns_good rule t = stack_good rule (of_turn rule t)
