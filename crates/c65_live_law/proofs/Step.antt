-- What is live after a line by the sets of the lines that may come behind it; such sets have what is live, and nothing else.
use Rattle.std.proofs.Common.{◌≡◌, ℕ, ◌+◌, ◌<◌, not, Bool, true, false, IsTrue, if◌then◌else◌, List, [], ◌∷◌, length, get_or, set, Option, Some, None, slice_get, refl, sym, ap, subst, inl, inr}
use Rattle.std.proofs.lemmas.Bool.{cases_eq}
use Rattle.std.proofs.lemmas.List.{get_or-set_same, get_or-set_other}
use Rattle.c65_code.specs.declared.line.Line.{Line}
use Rattle.c65_code.specs.declared.line.Line.TheVariants.{Label, Do, Call}
use Rattle.c65_code.specs.declared.line.Operand.TheVariants.{To}
use Rattle.c65_code.specs.declared.parts.Part.{Part}
use Rattle.c65_code.specs.declared.parts.RegSet.{RegSet}
use Rattle.c65_code.specs.Access.{line_reads, line_sets}
use Rattle.c65_code.specs.Moves.{labelled}
use Rattle.c65_code.specs.Parts.{has_part, no_parts, union_of, minus_of}
use Rattle.c65_code.specs.Segments.{target_of, is_closing}
use Rattle.c65_live.specs.Live.{Next, onward, goes, left_parts, IsLive, left, read, kept}
use Rattle.c65_live.proofs.Sets.{in_none, in_union, in_minus, union_left, union_right, minus_in}

-- what is live before a line, by what is live after it
abbrev pub before_line : RegSet → Option Line → RegSet → RegSet
before_line out None after = no_parts
before_line out (Some l) after = union_of (line_reads out l) (minus_of after (line_sets l))

abbrev pub before_at : List Line → RegSet → List RegSet → ℕ → RegSet
before_at lines out live q = before_line out (slice_get lines q) (get_or live q no_parts)

abbrev pub before_to : List Line → RegSet → List RegSet → List ℕ → RegSet
before_to lines out live [] = no_parts
before_to lines out live (l ∷ ls) = before_at lines out live (labelled lines l)

abbrev pub onward_from : List Line → RegSet → List RegSet → ℕ → Line → RegSet
onward_from lines out live q l = if not (is_closing l) then before_at lines out live (q + 1) else no_parts

abbrev pub joined_of : List Line → RegSet → List RegSet → ℕ → Option Line → RegSet
joined_of lines out live q None = get_or live q no_parts
joined_of lines out live q (Some l) = union_of (get_or live q no_parts) (union_of (left_parts out l) (union_of (onward_from lines out live q l) (before_to lines out live (target_of l))))

abbrev pub joined_at : List Line → RegSet → List RegSet → ℕ → RegSet
joined_at lines out live q = joined_of lines out live q (slice_get lines q)

abbrev pub AreSound : List Line → RegSet → List RegSet → Type 0
AreSound lines out live = (q : ℕ) (p : Part) → IsTrue (has_part (get_or live q no_parts) p) → IsLive lines out q p

-- ---- nothing that is live is missing where nothing changes

module _ (lines : List Line) (out : RegSet) (live : List RegSet) (closed : (q : ℕ) → joined_at lines out live q ≡ get_or live q no_parts) where
  joined_in : (q : ℕ) (l : Line) (p : Part) → slice_get lines q ≡ Some l → IsTrue (has_part (joined_of lines out live q (Some l)) p) → IsTrue (has_part (get_or live q no_parts) p)
  joined_in q l p e h = subst (λ (s : RegSet). IsTrue (has_part s p)) (closed q) (subst (λ (o : Option Line). IsTrue (has_part (joined_of lines out live q o) p)) (sym e) h)

  behind_in : (q : ℕ) (l : Line) (p : Part) → slice_get lines q ≡ Some l → IsTrue (has_part (union_of (onward_from lines out live q l) (before_to lines out live (target_of l))) p) → IsTrue (has_part (get_or live q no_parts) p)
  behind_in q l p e h =
      joined_in q l p e (union_right (get_or live q no_parts) (union_of (left_parts out l) (union_of (onward_from lines out live q l) (before_to lines out live (target_of l)))) p
      (union_right (left_parts out l) (union_of (onward_from lines out live q l) (before_to lines out live (target_of l))) p h))

  next_in : (q r : ℕ) (p : Part) → Next lines q r → IsTrue (has_part (before_at lines out live r) p) → IsTrue (has_part (get_or live q no_parts) p)
  next_in q r p (onward {l = l} e c) h =
      behind_in q l p e (union_left (onward_from lines out live q l) (before_to lines out live (target_of l)) p
      (subst (λ (b : Bool). IsTrue (has_part (if not b then before_at lines out live (q + 1) else no_parts) p)) (sym c) h))
  next_in q r p (goes {l = l} e t) h =
      behind_in q l p e (union_right (onward_from lines out live q l) (before_to lines out live (target_of l)) p (subst (λ (ls : List ℕ). IsTrue (has_part (before_to lines out live ls) p)) (sym t) h))

  before_in : (r : ℕ) (l : Line) (p : Part) → slice_get lines r ≡ Some l → IsTrue (has_part (before_line out (Some l) (get_or live r no_parts)) p) → IsTrue (has_part (before_at lines out live r) p)
  before_in r l p e h = subst (λ (o : Option Line). IsTrue (has_part (before_line out o (get_or live r no_parts)) p)) (sym e) h

  pub live_in : (q : ℕ) (p : Part) → IsLive lines out q p → IsTrue (has_part (get_or live q no_parts) p)
  live_in q p (left {l = l} e h) =
      joined_in q l p e (union_right (get_or live q no_parts) (union_of (left_parts out l) (union_of (onward_from lines out live q l) (before_to lines out live (target_of l)))) p
      (union_left (left_parts out l) (union_of (onward_from lines out live q l) (before_to lines out live (target_of l))) p h))
  live_in q p (read {r = r} {l = l} n e h) = next_in q r p n (before_in r l p e (union_left (line_reads out l) (minus_of (get_or live r no_parts) (line_sets l)) p h))
  live_in q p (kept {r = r} {l = l} n e f i) = next_in q r p n (before_in r l p e (union_right (line_reads out l) (minus_of (get_or live r no_parts) (line_sets l)) p (minus_in (get_or live r no_parts) (line_sets l) p (live_in r p i) f)))

-- ---- a step sets only what is live

one_target : (l : Line) (k : ℕ) (ks : List ℕ) → target_of l ≡ k ∷ ks → target_of l ≡ k ∷ []
one_target (Label j) k ks e = absurd cc
one_target (Call callee) k ks e = absurd cc
one_target (Do op mode (To j)) k ks e = let same : j ≡ k = cc in ap (λ (i : ℕ). i ∷ []) same
one_target (Do op mode _) k ks e = absurd cc

module _ (lines : List Line) (out : RegSet) (live : List RegSet) (sound : AreSound lines out live) where
  before_by : (q r : ℕ) (p : Part) → Next lines q r → (line : Option Line) → slice_get lines r ≡ line → IsTrue (has_part (before_line out line (get_or live r no_parts)) p) → IsLive lines out q p
  before_by q r p n None e h = absurd (in_none p h)
  before_by q r p n (Some l) e h = elim (in_union (line_reads out l) (minus_of (get_or live r no_parts) (line_sets l)) p h) as (λ _. IsLive lines out q p) [
    | inl reads ↦ read n e reads
    | inr rest ↦ let m = in_minus (get_or live r no_parts) (line_sets l) p rest in kept n e m.1 (sound r p m.0)
  ]

  before_live : (q r : ℕ) (p : Part) → Next lines q r → IsTrue (has_part (before_at lines out live r) p) → IsLive lines out q p
  before_live q r p n h = before_by q r p n (slice_get lines r) refl h

  onward_live : (q : ℕ) (l : Line) (p : Part) → slice_get lines q ≡ Some l → (closing : Bool) → is_closing l ≡ closing → IsTrue (has_part (if not closing then before_at lines out live (q + 1) else no_parts) p) → IsLive lines out q p
  onward_live q l p e true c h = absurd (in_none p h)
  onward_live q l p e false c h = before_live q (q + 1) p (onward e c) h

  to_live : (q : ℕ) (l : Line) (p : Part) → slice_get lines q ≡ Some l → (labels : List ℕ) → target_of l ≡ labels → IsTrue (has_part (before_to lines out live labels) p) → IsLive lines out q p
  to_live q l p e [] t h = absurd (in_none p h)
  to_live q l p e (k ∷ ks) t h = before_live q (labelled lines k) p (goes e (one_target l k ks t)) h

  joined_by : (q : ℕ) (p : Part) (line : Option Line) → slice_get lines q ≡ line → IsTrue (has_part (joined_of lines out live q line) p) → IsLive lines out q p
  joined_by q p None e h = sound q p h
  joined_by q p (Some l) e h = elim (in_union (get_or live q no_parts) (union_of (left_parts out l) (union_of (onward_from lines out live q l) (before_to lines out live (target_of l)))) p h) as (λ _. IsLive lines out q p) [
    | inl old ↦ sound q p old
    | inr new ↦ elim (in_union (left_parts out l) (union_of (onward_from lines out live q l) (before_to lines out live (target_of l))) p new) as (λ _. IsLive lines out q p) [
      | inl gone ↦ left e gone
      | inr on ↦ elim (in_union (onward_from lines out live q l) (before_to lines out live (target_of l)) p on) as (λ _. IsLive lines out q p) [
        | inl next ↦ onward_live q l p e (is_closing l) refl next
        | inr to ↦ to_live q l p e (target_of l) refl to
      ]
    ]
  ]

  joined_live : (q : ℕ) (p : Part) → IsTrue (has_part (joined_at lines out live q) p) → IsLive lines out q p
  joined_live q p h = joined_by q p (slice_get lines q) refl h

  pub sound_set : (q : ℕ) → q < length live → AreSound lines out (set live q (joined_at lines out live q))
  sound_set q within r p h = elim (cases_eq r q) as (λ _. IsLive lines out r p) [
    | inl e ↦
        let here : IsTrue (has_part (get_or (set live q (joined_at lines out live q)) q no_parts) p) = subst (λ (k : ℕ). IsTrue (has_part (get_or (set live q (joined_at lines out live q)) k no_parts) p)) e h in
        subst (λ (k : ℕ). IsLive lines out k p) (sym e) (joined_live q p (subst (λ (s : RegSet). IsTrue (has_part s p)) (get_or-set_same live q (joined_at lines out live q) no_parts within) here))
    | inr ne ↦ sound r p (subst (λ (s : RegSet). IsTrue (has_part s p)) (get_or-set_other live q r (joined_at lines out live q) no_parts ne) h)
  ]
