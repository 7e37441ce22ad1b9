-- A text is read line by line.
use Rattle.std.proofs.Common.{◌≡◌, ℕ, ◌==◌, not, Bool, true, false, List, [], ◌∷◌, ◌++◌, Option, Some, refl, sym, ap, ◌∙◌, append_assoc}
use Rattle.std.specs.Prelude.{if◌then◌else◌}
use Rattle.std.proofs.lemmas.Bool.{and_parts}
use Rattle.std.proofs.lemmas.List.{append-nil}
use Rattle.c65_asm.specs.Reading.{Reading, step}
use Rattle.c65_asm.specs.Read.{next_number, behind_line, lines_in}
use Rattle.c65_asm.proofs.WordLaws.{lacks}

no_feed : (t : Bool) → not t ≡ true → t ≡ false
no_feed true h = sym h
no_feed false h = refl

-- bytes without a line feed go to the line that is begun
pub feed : (r : Reading) (n : ℕ) (begun chunk rest : List ℕ) → lacks 10 chunk ≡ true → lines_in r n begun (chunk ++ rest) ≡ lines_in r n (begun ++ chunk) rest
feed r n begun [] rest h = ap (λ b. lines_in r n b rest) (sym (append-nil begun))
feed r n begun (c ∷ chunk) rest h =
    let p = and_parts (not (c == 10)) (lacks 10 chunk) h in
    ap (λ (t : Bool). if t then behind_line n (step r begun) (λ next. lines_in next (next_number n) [] (chunk ++ rest)) else lines_in r n (begun ++ c ∷ []) (chunk ++ rest)) (no_feed (c == 10) p.0)
    ∙ feed r n (begun ++ c ∷ []) chunk rest p.1
    ∙ ap (λ b. lines_in r n b rest) (append_assoc begun (c ∷ []) chunk)

-- the line feed ends it
pub ends : (r s : Reading) (n : ℕ) (begun rest : List ℕ) → step r begun ≡ Some s → lines_in r n begun (10 ∷ rest) ≡ lines_in s (next_number n) [] rest
ends r s n begun rest h = ap (λ (o : Option Reading). behind_line n o (λ next. lines_in next (next_number n) [] rest)) h

-- reading goes on behind a text, in a state that does not depend on what follows
abbrev pub Reads : Reading → List ℕ → Reading → Type 0
Reads r text s = (n : ℕ) (rest : List ℕ) → (m : ℕ) × (lines_in r n [] (text ++ rest) ≡ lines_in s m [] rest)

pub reads_none : (r : Reading) → Reads r [] r
reads_none r n rest = (n, refl)

pub reads_both : (r s t : Reading) (a b : List ℕ) → Reads r a s → Reads s b t → Reads r (a ++ b) t
reads_both r s t a b h g n rest =
    let p = h n (b ++ rest) in
    let q = g p.0 rest in
    (q.0, ap (lines_in r n []) (append_assoc a b rest) ∙ p.1 ∙ q.1)

pub reads_line : (r s : Reading) (body : List ℕ) → lacks 10 body ≡ true → step r body ≡ Some s → Reads r (body ++ 10 ∷ []) s
reads_line r s body h e n rest = (next_number n, ap (lines_in r n []) (append_assoc body (10 ∷ []) rest) ∙ feed r n [] body (10 ∷ rest) h ∙ ends r s n body rest e)

pub reads_to : (r s t : Reading) (text : List ℕ) → s ≡ t → Reads r text s → Reads r text t
reads_to r s t text e h n rest = let p = h n rest in (p.0, p.1 ∙ ap (λ u. lines_in u p.0 [] rest) e)

pub reads_text : (r s : Reading) (a b : List ℕ) → a ≡ b → Reads r a s → Reads r b s
reads_text r s a b e h n rest = let p = h n rest in (p.0, ap (λ u. lines_in r n [] (u ++ rest)) (sym e) ∙ p.1)
