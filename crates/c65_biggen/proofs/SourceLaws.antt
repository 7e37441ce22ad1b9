-- Laws of the source.
use Rattle.std.proofs.Common.{◌≡◌, ℕ, suc, ◌+◌, ◌-◌, ◌<◌, List, [], ◌++◌, ap, sym, ◌∙◌, arith}
use mathlib.Core.List.{append_assoc}
use Rattle.c65_biggen.specs.Generated.{next, function_line, functions, call_line, calls}

-- one line more
one_less : (count index : ℕ) → index < count → count - index ≡ suc (count - (index + 1))
one_less count index below = omega (arith, below)

pub one_function : (count index number : ℕ) (old mid new line : List ℕ) → index < count → line ≡ function_line index number → new ≡ mid ++ line
    → old ≡ mid ++ functions (count - index) index number → old ≡ new ++ functions (count - (index + 1)) (index + 1) (next number)
one_function count index number old mid new line below is added so_far =
    so_far ∙ ap (λ n. mid ++ functions n index number) (one_less count index below)
    ∙ ap (λ (l : List ℕ). mid ++ (l ++ functions (count - (index + 1)) (index + 1) (next number))) (sym is)
    ∙ sym (append_assoc mid line (functions (count - (index + 1)) (index + 1) (next number)))
    ∙ ap (λ (l : List ℕ). l ++ functions (count - (index + 1)) (index + 1) (next number)) (sym added)

pub one_call : (count index : ℕ) (old mid new line : List ℕ) → index < count → line ≡ call_line index → new ≡ mid ++ line
    → old ≡ mid ++ calls (count - index) index → old ≡ new ++ calls (count - (index + 1)) (index + 1)
one_call count index old mid new line below is added so_far =
    so_far ∙ ap (λ n. mid ++ calls n index) (one_less count index below)
    ∙ ap (λ (l : List ℕ). mid ++ (l ++ calls (count - (index + 1)) (index + 1))) (sym is)
    ∙ sym (append_assoc mid line (calls (count - (index + 1)) (index + 1)))
    ∙ ap (λ (l : List ℕ). l ++ calls (count - (index + 1)) (index + 1)) (sym added)

-- four parts, one behind the other
pub four_parts : (first second third fourth none a b c d : List ℕ) → none ≡ [] → a ≡ none ++ first → b ≡ a ++ second → c ≡ b ++ third → d ≡ c ++ fourth
    → d ≡ first ++ (second ++ (third ++ fourth))
four_parts first second third fourth none a b c d empty at_a at_b at_c at_d =
    at_d ∙ ap (λ (l : List ℕ). l ++ fourth) (at_c ∙ ap (λ (l : List ℕ). l ++ third) (at_b ∙ ap (λ (l : List ℕ). l ++ second) (at_a ∙ ap (λ (l : List ℕ). l ++ first) empty)))
    ∙ append_assoc (first ++ second) third fourth ∙ append_assoc first second (third ++ fourth)
