-- A text is read by its first line, and what is behind it.
use Rattle.std.proofs.Common.{◌≡◌, ℕ, ◌<◌, ◌==◌, Bool, true, false, List, [], ◌∷◌, ◌++◌, Option, Some, None, option_map, length, refl, sym, ap, ◌∙◌, arith, append_assoc}
use Rattle.std.specs.Prelude.{if◌then◌else◌}
use Rattle.std.proofs.lemmas.List.{append-nil}
use Rattle.c65_asm.specs.declared.reading.Answer.{Answer}
use Rattle.c65_asm.specs.declared.reading.Answer.TheVariants as answers
use Rattle.c65_asm.specs.Words.{cut_at}
use Rattle.c65_asm.specs.Reading.{Reading, step}
use Rattle.c65_asm.specs.Read.{next_number, behind_line, last_in, lines_in, at_end, finished, with_rest, first_from, first_line}

abbrev Pair : Type 0
Pair = List ℕ × List ℕ

-- one byte more at the front of the line
abbrev pub longer : ℕ → Bool → List ℕ → Option Pair → Option Pair
longer c b text o = if b then Some ([], text) else option_map (λ (p : Pair). (c ∷ p.0, p.1)) o

-- what the first line leaves to do
abbrev onward : Reading → ℕ → List ℕ → List ℕ → Option Pair → Answer
onward r n begun text None = last_in r n (begun ++ text)
onward r n begun text (Some p) = behind_line n (step r (begun ++ p.0)) (λ s. lines_in s (next_number n) [] p.1)

onward_more : (r : Reading) (n : ℕ) (begun : List ℕ) (c : ℕ) (text : List ℕ) (o : Option Pair) → onward r n (begun ++ c ∷ []) text o ≡ onward r n begun (c ∷ text) (longer c false text o)
onward_more r n begun c text None = ap (last_in r n) (append_assoc begun (c ∷ []) text)
onward_more r n begun c text (Some p) = ap (λ l. behind_line n (step r l) (λ s. lines_in s (next_number n) [] p.1)) (append_assoc begun (c ∷ []) p.0)

by_cut : (r : Reading) (n : ℕ) (begun text : List ℕ) → lines_in r n begun text ≡ onward r n begun text (cut_at 10 text)
by_cut r n begun [] = ap (last_in r n) (sym (append-nil begun))
by_cut r n begun (c ∷ text) = by_byte (c == 10) refl (by_cut r n (begun ++ c ∷ []) text)
  where
    by_byte : (b : Bool) → (c == 10) ≡ b → lines_in r n (begun ++ c ∷ []) text ≡ onward r n (begun ++ c ∷ []) text (cut_at 10 text) → lines_in r n begun (c ∷ text) ≡ onward r n begun (c ∷ text) (cut_at 10 (c ∷ text))
    by_byte true e more =
        ap (λ b. if b then behind_line n (step r begun) (λ s. lines_in s (next_number n) [] text) else lines_in r n (begun ++ c ∷ []) text) e
        ∙ ap (λ l. behind_line n (step r l) (λ s. lines_in s (next_number n) [] text)) (sym (append-nil begun))
        ∙ ap (λ b. onward r n begun (c ∷ text) (longer c b text (cut_at 10 text))) (sym e)
    by_byte false e more =
        ap (λ b. if b then behind_line n (step r begun) (λ s. lines_in s (next_number n) [] text) else lines_in r n (begun ++ c ∷ []) text) e
        ∙ more
        ∙ onward_more r n begun c text (cut_at 10 text)
        ∙ ap (λ b. onward r n begun (c ∷ text) (longer c b text (cut_at 10 text))) (sym e)

-- the line goes on

abbrev Follows : Reading → ℕ → List ℕ → Option (Reading × List ℕ) → Answer → Type 0
Follows r n text (Some p) answer = answer ≡ lines_in p.0 (next_number n) [] p.1
Follows r n text None answer = 0 < length text → answer ≡ answers.Line n

follows_step : (r : Reading) (n : ℕ) (text rest : List ℕ) (o : Option Reading) → Follows r n text (option_map (with_rest rest) o) (behind_line n o (λ s. lines_in s (next_number n) [] rest))
follows_step r n text rest None = λ _. refl
follows_step r n text rest (Some s) = refl

last_bad : (r : Reading) (n : ℕ) (text : List ℕ) → 0 < length text → last_in r n text ≡ answers.Line n
last_bad r n [] h = absurd (omega arith)
last_bad r n (c ∷ text) h = refl

follows : (r : Reading) (n : ℕ) (text : List ℕ) (o : Option Pair) → Follows r n text (first_from r o) (onward r n [] text o)
follows r n text None = λ h. last_bad r n text h
follows r n text (Some p) = follows_step r n text p.1 (step r p.0)

along : (r : Reading) (n : ℕ) (text : List ℕ) (first : Option (Reading × List ℕ)) (a b : Answer) → a ≡ b → Follows r n text first b → Follows r n text first a
along r n text (Some p) a b e h = e ∙ h
along r n text None a b e h = λ l. e ∙ h l

at_first : (r : Reading) (n : ℕ) (text : List ℕ) → Follows r n text (first_line r text) (lines_in r n [] text)
at_first r n text = along r n text (first_line r text) (lines_in r n [] text) (onward r n [] text (cut_at 10 text)) (by_cut r n [] text) (follows r n text (cut_at 10 text))

pub goes_on : (r s : Reading) (n : ℕ) (text rest : List ℕ) → first_line r text ≡ Some (s, rest) → lines_in r n [] text ≡ lines_in s (next_number n) [] rest
goes_on r s n text rest e = by_first (first_line r text) e (at_first r n text)
  where
    by_first : (first : Option (Reading × List ℕ)) → first ≡ Some (s, rest) → Follows r n text first (lines_in r n [] text) → lines_in r n [] text ≡ lines_in s (next_number n) [] rest
    by_first None e h = absurd cc
    by_first (Some p) e h =
        let same : p ≡ (s, rest) = cc in
        h ∙ ap (λ (q : Reading × List ℕ). lines_in q.0 (next_number n) [] q.1) same

pub stops : (r : Reading) (n : ℕ) (text : List ℕ) → first_line r text ≡ None → 0 < length text → lines_in r n [] text ≡ answers.Line n
stops r n text e l = by_first (first_line r text) e (at_first r n text)
  where
    by_first : (first : Option (Reading × List ℕ)) → first ≡ None → Follows r n text first (lines_in r n [] text) → lines_in r n [] text ≡ answers.Line n
    by_first None e h = h l
    by_first (Some p) e h = absurd cc

pub comes_to_end : (r : Reading) (n : ℕ) (text : List ℕ) → length text ≡ 0 → lines_in r n [] text ≡ at_end n (finished r)
comes_to_end r n [] h = refl
comes_to_end r n (c ∷ text) h = absurd (omega arith)

-- what is left is shorter

pub cut_shorter : (text : List ℕ) (p : Pair) → cut_at 10 text ≡ Some p → length p.1 < length text
cut_shorter [] p e = absurd cc
cut_shorter (c ∷ text) p e = by_byte (λ q g. cut_shorter text q g) (c == 10) refl
  where
    by_rest : ((q : Pair) → cut_at 10 text ≡ Some q → length q.1 < length text) → (o : Option Pair) → cut_at 10 text ≡ o → option_map (λ (q : Pair). (c ∷ q.0, q.1)) o ≡ Some p → length p.1 < length (c ∷ text)
    by_rest less None g h = absurd cc
    by_rest less (Some q) g h =
        let same : (let made : Pair = (c ∷ q.0, q.1) in made) ≡ p = cc in
        let at : length q.1 ≡ length p.1 = ap (λ (x : Pair). length x.1) same in
        omega (arith, less q g)

    by_byte : ((q : Pair) → cut_at 10 text ≡ Some q → length q.1 < length text) → (b : Bool) → (c == 10) ≡ b → length p.1 < length (c ∷ text)
    by_byte less true g =
        let h : (let made : Option Pair = Some ([], text) in made) ≡ Some p = sym (ap (λ b. longer c b text (cut_at 10 text)) g) ∙ e in
        let same : (let made : Pair = ([], text) in made) ≡ p = cc in
        let at : length text ≡ length p.1 = ap (λ (x : Pair). length x.1) same in
        omega arith
    by_byte less false g = by_rest less (cut_at 10 text) refl (sym (ap (λ b. longer c b text (cut_at 10 text)) g) ∙ e)

pub shorter : (r s : Reading) (text rest : List ℕ) → first_line r text ≡ Some (s, rest) → length rest < length text
shorter r s text rest e = by_cut_at (cut_at 10 text) refl e
  where
    by_step : (p : Pair) (o : Option Reading) → cut_at 10 text ≡ Some p → option_map (with_rest p.1) o ≡ Some (s, rest) → length rest < length text
    by_step p None g h = absurd cc
    by_step p (Some t) g h =
        let same : (let made : Reading × List ℕ = (t, p.1) in made) ≡ (s, rest) = cc in
        let at : length p.1 ≡ length rest = ap (λ (x : Reading × List ℕ). length x.1) same in
        let less = cut_shorter text p g in
        omega arith

    by_cut_at : (o : Option Pair) → cut_at 10 text ≡ o → first_from r o ≡ Some (s, rest) → length rest < length text
    by_cut_at None g h = absurd cc
    by_cut_at (Some p) g h = by_step p (step r p.0) g h
