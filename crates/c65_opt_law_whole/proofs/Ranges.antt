-- What holds of each rule of a range, and of the rules that are run.
use Rattle.std.proofs.Common.{ℕ, zero, suc, ◌+◌, ◌<◌, ◌≤◌, inl, inr, [], sym, subst, arith}
use Rattle.std.proofs.lemmas.Bool.{cases_eq}
use Rattle.c65_base.specs.declared.options.Cpu.{Cpu}
use Rattle.c65_code.specs.declared.line.Line.{Line}
use Rattle.c65_optimise.specs.declared.families.Family.{Family}
use Rattle.c65_optimise.specs.declared.families.Family.TheVariants.{Stack, Flow, Load, Arith, Processor}
use Rattle.c65_optimise.specs.Optimised.{IsRuleFor, rules_of}
use Rattle.c65_pass.specs.Passes.{IsGood}
use Rattle.c65_pass.specs.Rounds.{IsRuleOf, AreGood}
use Rattle.c65_opt_law_whole.proofs.Copies.{IsOfOperands, Makes}
use Rattle.c65_opt_law_whole.proofs.Rules.{makes_1, makes_2, makes_3, makes_4, makes_5, makes_6, makes_7, makes_8, makes_9, makes_10, makes_11, makes_12, makes_13, makes_14, makes_15, makes_16, makes_17, makes_18, makes_19, makes_20, makes_21, makes_22, makes_23, makes_24, makes_25, makes_26, makes_27, makes_28, makes_29, makes_30, makes_31, makes_32}
use Rattle.c65_opt_law_whole.proofs.Calls.{makes_33, makes_34, makes_35, makes_36, makes_37, makes_38, makes_41, makes_42, makes_43, makes_44, makes_45}

-- so many numbers from one on
abbrev pub AllFrom : (ℕ → Type 0) → ℕ → ℕ → Type 0
AllFrom P low zero = Unit {0}
AllFrom P low (suc n) = P low × AllFrom P (suc low) n

pub one_of : (P : ℕ → Type 0) (low n : ℕ) → AllFrom P low n → (rule : ℕ) → low ≤ rule → rule < low + n → P rule
one_of P low zero all rule le lt = absurd (omega (arith, le, lt))
one_of P low (suc n) all rule le lt = elim (cases_eq rule low) as (λ _. P rule) [
  | inl e ↦ subst P (sym e) all.0
  | inr ne ↦ one_of P (suc low) n all.1 rule (omega (arith, ne, le)) (omega (arith, lt))
]

-- by the families
pub by_family : (P : ℕ → Type 0) → AllFrom P 33 6 → AllFrom P 1 9 → AllFrom P 10 14 → AllFrom P 24 9 → AllFrom P 41 5 → (cpu : Cpu) (rule : ℕ) → IsRuleFor cpu rule → P rule
by_family P stack flow load arithmetic processor cpu rule (family, is, range) = pick family range
  where
    pick : (f : Family) → rules_of f rule → P rule
    pick Stack r = one_of P 33 6 stack rule r.first (omega (arith, r.last))
    pick Flow r = one_of P 1 9 flow rule r.first (omega (arith, r.last))
    pick Load r = one_of P 10 14 load rule r.first (omega (arith, r.last))
    pick Arith r = one_of P 24 9 arithmetic rule r.first (omega (arith, r.last))
    pick Processor r = one_of P 41 5 processor rule r.first (omega (arith, r.last))

-- the lines of each rule that is run
pub makes_all : (P : Line → Type 0) → IsOfOperands P → (cpu : Cpu) (rule : ℕ) → IsRuleFor cpu rule → Makes P rule
makes_all P is cpu rule among = by_family (Makes P)
    (makes_33 P is, (makes_34 P is, (makes_35 P is, (makes_36 P is, (makes_37 P is, (makes_38 P is, tt))))))
    (makes_1 P is, (makes_2 P is, (makes_3 P is, (makes_4 P is, (makes_5 P is, (makes_6 P is, (makes_7 P is, (makes_8 P is, (makes_9 P is, tt)))))))))
    (makes_10 P is, (makes_11 P is, (makes_12 P is, (makes_13 P is, (makes_14 P is, (makes_15 P is, (makes_16 P is, (makes_17 P is, (makes_18 P is, (makes_19 P is, (makes_20 P is, (makes_21 P is, (makes_22 P is, (makes_23 P is, tt))))))))))))))
    (makes_24 P is, (makes_25 P is, (makes_26 P is, (makes_27 P is, (makes_28 P is, (makes_29 P is, (makes_30 P is, (makes_31 P is, (makes_32 P is, tt)))))))))
    (makes_41 P is, (makes_42 P is, (makes_43 P is, (makes_44 P is, (makes_45 P is, tt)))))
    cpu rule among

-- each rule that is run keeps what rewritings keep
pub good_all : AreGood (IsRuleOf 33 38) → AreGood (IsRuleOf 1 9) → AreGood (IsRuleOf 10 23) → AreGood (IsRuleOf 24 32) → AreGood (IsRuleOf 41 45) → (cpu : Cpu) (rule : ℕ) → IsRuleFor cpu rule → IsGood rule []
good_all stack flow load arithmetic processor cpu rule (family, is, range) = pick family range
  where
    pick : (f : Family) → rules_of f rule → IsGood rule []
    pick Stack r = stack rule r
    pick Flow r = flow rule r
    pick Load r = load rule r
    pick Arith r = arithmetic rule r
    pick Processor r = processor rule r
