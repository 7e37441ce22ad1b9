-- What is live at places from which the same lines come behind.
use Rattle.std.proofs.Common.{◌≡◌, ◌⊎◌, inl, inr, ℕ, ◌+◌, List, [], ◌∷◌, Some, slice_get, sym, ◌∙◌}
use Rattle.c65_code.specs.declared.parts.Part.{Part}
use Rattle.c65_code.specs.declared.parts.RegSet.{RegSet}
use Rattle.c65_code.specs.declared.line.Line.{Line}
use Rattle.c65_code.specs.Segments.{target_of}
use Rattle.c65_code.specs.Moves.{labelled}
use Rattle.c65_live.specs.Live.{Next, onward, goes, IsLive, left, read, kept}

-- the same line, and whatever is live after it there is so here: for it is a pair of places again, or that is known
pub record Follows (xs ys : List Line) (out : RegSet) (Pair : ℕ → ℕ → Type 0) (q r : ℕ) : Type 0 where
  pub line : slice_get xs q ≡ slice_get ys r
  pub after : Pair q r ⊎ ((p : Part) → IsLive xs out q p → IsLive ys out r p)

-- pairs of places with the same line, behind which pairs come, or places where what is live is known
pub record ArePairs (xs ys : List Line) (out : RegSet) (Pair : ℕ → ℕ → Type 0) : Type 0 where
  pub line : (q r : ℕ) → Pair q r → slice_get xs q ≡ slice_get ys r
  pub on : (q r : ℕ) → Pair q r → Follows xs ys out Pair (q + 1) (r + 1)
  pub to : (q r l : ℕ) (line : Line) → Pair q r → slice_get xs q ≡ Some line → target_of line ≡ l ∷ [] → Follows xs ys out Pair (labelled xs l) (labelled ys l)

module _ (xs ys : List Line) (out : RegSet) (Pair : ℕ → ℕ → Type 0) (pairs : ArePairs xs ys out Pair) where
  data Way (r s : ℕ) : Type 0 where
    way : {t : ℕ} → Next ys r t → Follows xs ys out Pair s t → Way r s

  next_on : (q r s : ℕ) → Pair q r → Next xs q s → Way r s
  next_on q r _ h (onward e c) = way (onward (sym (pairs.line q r h) ∙ e) c) (pairs.on q r h)
  next_on q r _ h (goes {label = label} {l = line} e t) = way (goes (sym (pairs.line q r h) ∙ e) t) (pairs.to q r label line h e t)

  pub live_on : (q r : ℕ) (p : Part) → Pair q r → IsLive xs out q p → IsLive ys out r p
  live_on q r p h (left e reads) = left (sym (pairs.line q r h) ∙ e) reads
  live_on q r p h (read {r = s} n e reads) = elim (next_on q r s h n) as (λ _. IsLive ys out r p) [ way m f ↦ read m (sym f.line ∙ e) reads ]
  live_on q r p h (kept {r = s} n e k i) = elim (next_on q r s h n) as (λ _. IsLive ys out r p) [
    | way {t = t} m f ↦ kept m (sym f.line ∙ e) k (elim f.after as (λ _. IsLive ys out t p) [ inl pair ↦ live_on s t p pair i | inr known ↦ known p i ])
  ]
