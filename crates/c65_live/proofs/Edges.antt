-- How the line is found before which nothing changes.
use Rattle.std.proofs.Common.{◌≡◌, inl, inr, ◌&&◌, ℕ, suc, ◌+◌, ◌-◌, ◌<◌, ◌≤◌, true, false, IsTrue, List, ◌∷◌, ◌++◌, length, take, drop, get_or, sym, ◌∙◌, ap, subst, arith}
use Rattle.std.proofs.lemmas.List.{drop_more}
use Rattle.c65_code.specs.declared.parts.RegSet.{RegSet}
use Rattle.c65_code.specs.declared.line.Line.{Line}
use Rattle.c65_code.specs.Parts.{has_part, no_parts, minus_of}
use Rattle.c65_live.specs.declared.renew.Sides.{Sides}
use Rattle.c65_live.specs.Renewals.{is_plain, are_plain, before_all, widened, AreSettled, IsSettledBefore}
use Rattle.c65_live.proofs.Sets.{minus_in, in_minus, yes_or_no}

-- what is lost is nothing that is live behind
pub settled_sides : (sides : Sides) (after lost kept : RegSet) → sides.old ≡ sides.new → lost ≡ minus_of sides.old_reads sides.new_reads → kept ≡ minus_of lost after → kept ≡ lost → AreSettled sides after
settled_sides sides after lost kept same lost_is kept_is all = record {
  same = sym same;
  read = λ p live reads. elim (yes_or_no (has_part sides.new_reads p)) as (λ _. IsTrue (has_part sides.new_reads p)) [
    | inl there ↦ there
    | inr none ↦
        let in_lost : IsTrue (has_part lost p) = subst (λ s. IsTrue (has_part s p)) (sym lost_is) (minus_in sides.old_reads sides.new_reads p reads none) in
        let in_kept : IsTrue (has_part (minus_of lost after) p) = subst (λ s. IsTrue (has_part s p)) (sym all ∙ kept_is) in_lost in
        absurd (let e : true ≡ false = sym live ∙ (in_minus lost after p in_kept).1 in cc)
  ];
}

pub widened_more : (lines window : List Line) (first at : ℕ) (line : Line) → 0 < first → first ≤ at → at ≤ length lines → widened lines (first - 1) at window ≡ get_or lines (first - 1) line ∷ widened lines first at window
widened_more lines window first at line some before within = one_more (first - 1) first (omega (arith, some)) before
  where
    one_more : (m n : ℕ) → n ≡ suc m → n ≤ at → widened lines m at window ≡ get_or lines m line ∷ widened lines n at window
    one_more m n e k =
        let cut : drop m lines ≡ get_or lines m line ∷ drop (m + 1) lines = drop_more lines m line (omega (arith, e, k, within)) in
        let one : at - m ≡ suc (at - n) = omega (arith, e, k) in
        let more : m + 1 ≡ n = omega (arith, e) in
        ap (λ i. take i (drop m lines) ++ window) one ∙ (ap (λ ls. take (suc (at - n)) ls ++ window) cut ∙ ap (λ i. get_or lines m line ∷ (take (at - n) (drop i lines) ++ window)) more)

pub widened_none : (lines window : List Line) (at : ℕ) → widened lines at at window ≡ window
widened_none lines window at = let e : at - at ≡ 0 = omega arith in ap (λ n. take n (drop at lines) ++ window) e

pub plain_with : (line : Line) (lines : List Line) → is_plain line ≡ true → are_plain lines ≡ true → are_plain (line ∷ lines) ≡ true
plain_with line lines e f = ap (λ b. b && are_plain lines) e ∙ f

pub settled_before : (out : RegSet) (old new : List Line) (after : RegSet) (sides : Sides) → AreSettled sides after → sides.old ≡ before_all out old after → sides.new ≡ before_all out new after
    → sides.old_reads ≡ before_all out old no_parts → sides.new_reads ≡ before_all out new no_parts → IsSettledBefore out old new after
settled_before out old new after sides s a b c d = record {
  same = sym b ∙ (s.same ∙ a);
  read = λ p live reads. subst (λ t. IsTrue (has_part t p)) d (s.read p live (subst (λ t. IsTrue (has_part t p)) (sym c) reads));
}
