-- The lines of the example stand in memory.
use Rattle.std.proofs.Common.{◌≡◌, ℕ, zero, suc, ◌≤◌, ◌⊎◌, inl, inr, true, false, nat_eq, IsTrue, [], Some, slice_get, refl, sym, subst, arith, eqb-true}
use Rattle.std.proofs.lemmas.Bool.{or_cases}
use Rattle.c65_base.specs.declared.options.Cpu.{Cpu}
use Rattle.c65_base.specs.declared.options.Cpu.TheVariants.{Nmos, Cmos}
use Rattle.c65_mach.specs.declared.rows.Op.TheVariants as ops
use Rattle.c65_mach.specs.declared.rows.Mode.TheVariants.{Implied, Immediate, Relative}
use Rattle.c65_code.specs.declared.line.Operand.TheVariants as operands
use Rattle.c65_code.specs.declared.line.Line.{Line}
use Rattle.c65_code.specs.declared.line.Line.TheVariants.{Label, Do}
use Rattle.c65_code.specs.LineState.{Place}
use Rattle.c65_code.specs.Processors.{is_nmos_line}
use Rattle.c65_code.specs.Segments.{is_fit, labels_of, is_among}
use Rattle.c65_code.specs.Moves.{labelled, settle}
use Rattle.c65_link.specs.Bytes.{Spot}
use Rattle.c65_link_law.specs.Coded.{spot_for, label_at, short, IsCoded}
use Rattle.c65_link_law_follow.specs.Agree.{Ground}
use Rattle.c65_link_law_follow.specs.Laid.{IsLineOf, IsLineNumber, IsTargetKnown, LineLeadsWell}
use Rattle.c65_link_law_follow.specs.Example.{counting, counting_ground, counting_setting, CountingIsLaid}

same_line : (a b : Line) → Some a ≡ Some b → a ≡ b
same_line a b h = cc

abbrev spot : Spot
spot = spot_for counting 0x0200 [] []

-- each property of the lines, one by one
each : (P : ℕ → Line → Type 0) → P 0 (Do ops.Ldx Immediate (operands.Byte 2)) → P 1 (Label 1) → P 2 (Do ops.Dex Implied operands.Nothing) → P 3 (Do ops.Bne Relative (operands.To 1)) → P 4 (Do ops.Rts Implied operands.Nothing)
    → (p : ℕ) (l : Line) → slice_get counting p ≡ Some l → P p l
each P a b c d e zero l h = subst (P 0) (same_line _ l h) a
each P a b c d e (suc zero) l h = subst (P 1) (same_line _ l h) b
each P a b c d e (suc (suc zero)) l h = subst (P 2) (same_line _ l h) c
each P a b c d e (suc (suc (suc zero))) l h = subst (P 3) (same_line _ l h) d
each P a b c d e (suc (suc (suc (suc zero)))) l h = subst (P 4) (same_line _ l h) e
each P a b c d e (suc (suc (suc (suc (suc p))))) l h = absurd cc

own_line : (cpu : Cpu) (l : Line) → IsTrue (is_nmos_line l) → IsLineOf cpu l
own_line Nmos l h = h
own_line Cmos l h = tt

settled : (cpu : Cpu) (p : ℕ) → (counting_ground cpu).at (0, settle counting p) ≡ (counting_ground cpu).at (0, p)
settled cpu zero = refl
settled cpu (suc zero) = refl
settled cpu (suc (suc zero)) = refl
settled cpu (suc (suc (suc zero))) = refl
settled cpu (suc (suc (suc (suc zero)))) = refl
settled cpu (suc (suc (suc (suc (suc p))))) = refl

from : (cpu : Cpu) (q : Place) → 512 ≤ (counting_ground cpu).at q
from cpu q = by q.1
  where
    by : (p : ℕ) → 512 ≤ (counting_ground cpu).at (0, p)
    by zero = omega arith
    by (suc zero) = omega arith
    by (suc (suc zero)) = omega arith
    by (suc (suc (suc zero))) = omega arith
    by (suc (suc (suc (suc zero)))) = omega arith
    by (suc (suc (suc (suc (suc p))))) = omega arith

to : (cpu : Cpu) (q : Place) → (counting_ground cpu).at q ≤ (counting_ground cpu).end
to cpu q = by q.1
  where
    by : (p : ℕ) → (counting_ground cpu).at (0, p) ≤ 0x0206
    by zero = omega arith
    by (suc zero) = omega arith
    by (suc (suc zero)) = omega arith
    by (suc (suc (suc zero))) = omega arith
    by (suc (suc (suc (suc zero)))) = omega arith
    by (suc (suc (suc (suc (suc p))))) = omega arith

label_one : (l : ℕ) → IsTrue (is_among (labels_of counting) l) → l ≡ 1
label_one l h = by (or_cases (nat_eq l 1) false h)
  where
    by : (nat_eq l 1 ≡ true) ⊎ (false ≡ true) → l ≡ 1
    by (inl e) = eqb-true l 1 e
    by (inr e) = absurd cc

labels : (cpu : Cpu) (l : ℕ) → IsTrue (is_among (labels_of counting) l) → label_at spot l ≡ (counting_ground cpu).at (0, labelled counting l)
labels cpu l h = subst (λ (k : ℕ). label_at spot k ≡ (counting_ground cpu).at (0, labelled counting k)) (sym (label_one l h)) refl

pub counting_is_laid : CountingIsLaid
counting_is_laid cpu =
    let g : Ground = counting_ground cpu in (
      record {
        from = from cpu;
        to = to cpu;
        low = omega arith;
        high = omega arith;
        data_from = λ b h. absurd cc;
        data_to = λ b h. absurd cc;
        bottom = omega arith;
        page = omega arith;
        place = refl;
        functions = λ f h. absurd cc;
      },
      record {
        spot = spot;
        coded = each (λ (p : ℕ) (l : Line). IsCoded g.byte spot (g.at (0, p)) (g.at (0, suc p)) l)
            ((refl, (refl, tt)), refl) (refl, refl) ((refl, tt), refl) (short refl refl refl) ((refl, tt), refl);
        settled = settled cpu;
        labels = labels cpu;
        symbols = λ p l sym here e. refl;
        fit = each (λ (p : ℕ) (l : Line). IsTrue (is_fit l)) refl refl refl refl refl;
        own = λ p l here. own_line cpu l (each (λ (p : ℕ) (l : Line). IsTrue (is_nmos_line l)) refl refl refl refl refl p l here);
        numbers = each (λ (p : ℕ) (l : Line). IsLineNumber l) (omega arith) tt tt tt tt;
        targets = each (λ (p : ℕ) (l : Line). IsTargetKnown counting l) tt tt tt refl tt;
        calls = each (λ (p : ℕ) (l : Line). LineLeadsWell g counting_setting spot l) tt tt tt tt tt;
      },
    )
