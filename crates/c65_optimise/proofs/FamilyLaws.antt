-- The families of rules, and their turns.
use Rattle.std.proofs.Common.{ℕ, zero, suc, ◌<◌, arith}
use Rattle.c65_base.specs.declared.options.Cpu.TheVariants.{Nmos, Cmos}
use Rattle.c65_pass.specs.Rounds.{InTurn, AreGood}
use Rattle.c65_c02.proofs.Good.{processor_good}
use Rattle.c65_optarith.proofs.Good.{arith_good}
use Rattle.c65_optflow.proofs.Good.{flow_good}
use Rattle.c65_optload.proofs.Good.{load_good}
use Rattle.c65_optstack.proofs.Good.{stack_good}
use Rattle.c65_optimise.specs.declared.families.Family.{Family}
use Rattle.c65_optimise.specs.declared.families.Family.TheVariants.{Stack, Flow, Load, Arith, Processor}
use Rattle.c65_optimise.specs.Optimised.{rules_of, family_at, IsFor, IsRuleFor}

-- a rule in its turn, of so many
abbrev pub IsTurned : ℕ → ℕ → Type 0
IsTurned end = InTurn 0 end (λ turn. rules_of (family_at turn))

family_good : (family : Family) → AreGood (rules_of family)
family_good Stack = stack_good
family_good Flow = flow_good
family_good Load = load_good
family_good Arith = arith_good
family_good Processor = processor_good

pub turns_good : (end : ℕ) → AreGood (IsTurned end)
turns_good end rule t = family_good (family_at t.turn) rule t.among

-- ---- four turns for the 6502

first_four : (turn : ℕ) → turn < 4 → IsFor Nmos (family_at turn)
first_four zero h = tt
first_four (suc zero) h = tt
first_four (suc (suc zero)) h = tt
first_four (suc (suc (suc zero))) h = tt
first_four (suc (suc (suc (suc turn)))) h = absurd (omega arith)

pub run_on_nmos : (rule : ℕ) → IsTurned 4 rule → IsRuleFor Nmos rule
run_on_nmos rule t = (family_at t.turn, first_four t.turn t.before, t.among)

turn_of_nmos : (family : Family) (rule : ℕ) → IsFor Nmos family → rules_of family rule → IsTurned 4 rule
turn_of_nmos Stack rule h r = record { turn = 0; first = omega arith; before = omega arith; among = r }
turn_of_nmos Flow rule h r = record { turn = 1; first = omega arith; before = omega arith; among = r }
turn_of_nmos Load rule h r = record { turn = 2; first = omega arith; before = omega arith; among = r }
turn_of_nmos Arith rule h r = record { turn = 3; first = omega arith; before = omega arith; among = r }
turn_of_nmos Processor rule h r = absurd h

pub turned_on_nmos : (rule : ℕ) → IsRuleFor Nmos rule → IsTurned 4 rule
turned_on_nmos rule b = turn_of_nmos b.0 rule b.1 b.2

-- ---- five for the 65C02

pub run_on_cmos : (rule : ℕ) → IsTurned 5 rule → IsRuleFor Cmos rule
run_on_cmos rule t = (family_at t.turn, tt, t.among)

turn_of_cmos : (family : Family) (rule : ℕ) → rules_of family rule → IsTurned 5 rule
turn_of_cmos Stack rule r = record { turn = 0; first = omega arith; before = omega arith; among = r }
turn_of_cmos Flow rule r = record { turn = 1; first = omega arith; before = omega arith; among = r }
turn_of_cmos Load rule r = record { turn = 2; first = omega arith; before = omega arith; among = r }
turn_of_cmos Arith rule r = record { turn = 3; first = omega arith; before = omega arith; among = r }
turn_of_cmos Processor rule r = record { turn = 4; first = omega arith; before = omega arith; among = r }

pub turned_on_cmos : (rule : ℕ) → IsRuleFor Cmos rule → IsTurned 5 rule
turned_on_cmos rule b = turn_of_cmos b.0 rule b.2
