-- A sweep sets only what is live.
use Rattle.std.proofs.Common.{◌≡◌, ℕ, ◌+◌, ◌<◌, not, Bool, true, false, IsTrue, if◌then◌else◌, List, [], ◌∷◌, length, get_or, set, Option, Some, None, slice_get, refl, sym, ap, subst, inl, inr}
use Rattle.std.specs.Option.{option_map}
use Rattle.std.proofs.lemmas.Bool.{cases_eq}
use Rattle.std.proofs.lemmas.Option.{slice_get-map}
use Rattle.std.proofs.lemmas.List.{get_or-set_same, get_or-set_other}
use Rattle.c65_code.specs.declared.parts.Part.{Part}
use Rattle.c65_code.specs.declared.parts.RegSet.{RegSet}
use Rattle.c65_code.specs.declared.line.Operand.TheVariants.{Nothing, Byte, Low, High, Zero, At, To}
use Rattle.c65_code.specs.declared.line.Line.{Line}
use Rattle.c65_code.specs.declared.line.Line.TheVariants.{Label, Do, Call}
use Rattle.c65_code.specs.Parts.{has_part, no_parts, union_of, minus_of}
use Rattle.c65_code.specs.Access.{line_reads, line_sets}
use Rattle.c65_code.specs.Segments.{target_of, is_closing}
use Rattle.c65_code.specs.Moves.{labelled}
use Rattle.c65_live.specs.Live.{Next, onward, goes, left_parts, IsLive, left, read, kept}
use Rattle.c65_live.specs.Flows.{flow_of, flows_of, labelled_at, before_of, before_at, before_to, joined_of, joined_at}
use Rattle.c65_live.specs.Sweeps.{AreSound}
use Rattle.c65_live.proofs.Sets.{in_none, in_union, in_minus}

-- a line goes to one label at most
pub one_target : (l : Line) (k : ℕ) (ks : List ℕ) → target_of l ≡ k ∷ ks → target_of l ≡ k ∷ []
one_target (Label j) k ks e = absurd cc
one_target (Call callee) k ks e = absurd cc
one_target (Do op mode Nothing) k ks e = absurd cc
one_target (Do op mode (Byte v)) k ks e = absurd cc
one_target (Do op mode (Low s o)) k ks e = absurd cc
one_target (Do op mode (High s o)) k ks e = absurd cc
one_target (Do op mode (Zero i)) k ks e = absurd cc
one_target (Do op mode (At s o)) k ks e = absurd cc
one_target (Do op mode (To j)) k ks e = let same : j ≡ k = cc in ap (λ i. i ∷ []) same

module _ (lines : List Line) (out : RegSet) (live : List RegSet) (sound : AreSound lines out live) where
  before_by : (q r : ℕ) (p : Part) → Next lines q r → (line : Option Line) → slice_get lines r ≡ line → IsTrue (has_part (before_of (option_map (flow_of lines out) line) (get_or live r no_parts)) p) → IsLive lines out q p
  before_by q r p n None e h = absurd (in_none p h)
  before_by q r p n (Some l) e h = elim (in_union (line_reads out l) (minus_of (get_or live r no_parts) (line_sets l)) p h) as (λ _. IsLive lines out q p) [
    | inl reads ↦ read n e reads
    | inr rest ↦ let m = in_minus (get_or live r no_parts) (line_sets l) p rest in kept n e m.1 (sound r p m.0)
  ]

  before_live : (q r : ℕ) (p : Part) → Next lines q r → IsTrue (has_part (before_at (flows_of lines out) live r) p) → IsLive lines out q p
  before_live q r p n h = before_by q r p n (slice_get lines r) refl (subst (λ o. IsTrue (has_part (before_of o (get_or live r no_parts)) p)) (slice_get-map (flow_of lines out) lines r) h)

  onward_live : (q : ℕ) (l : Line) (p : Part) → slice_get lines q ≡ Some l → (closing : Bool) → is_closing l ≡ closing → IsTrue (has_part (if not closing then before_at (flows_of lines out) live (q + 1) else no_parts) p) → IsLive lines out q p
  onward_live q l p e true c h = absurd (in_none p h)
  onward_live q l p e false c h = before_live q (q + 1) p (onward e c) h

  to_live : (q : ℕ) (l : Line) (p : Part) → slice_get lines q ≡ Some l → (labels : List ℕ) → target_of l ≡ labels → IsTrue (has_part (before_to (flows_of lines out) live (labelled_at lines labels)) p) → IsLive lines out q p
  to_live q l p e [] t h = absurd (in_none p h)
  to_live q l p e (k ∷ ks) t h = before_live q (labelled lines k) p (goes e (one_target l k ks t)) h

  straight : (q : ℕ) (l : Line) → RegSet
  straight q l = if not (is_closing l) then before_at (flows_of lines out) live (q + 1) else no_parts

  jumped : (l : Line) → RegSet
  jumped l = before_to (flows_of lines out) live (labelled_at lines (target_of l))

  joined_by : (q : ℕ) (p : Part) (line : Option Line) → slice_get lines q ≡ line → IsTrue (has_part (joined_of (flows_of lines out) live q (before_at (flows_of lines out) live (q + 1)) (option_map (flow_of lines out) line)) p) → IsLive lines out q p
  unfolding straight jumped
  joined_by q p None e h = sound q p h
  joined_by q p (Some l) e h = elim (in_union (get_or live q no_parts) (union_of (left_parts out l) (union_of (straight q l) (jumped l))) p h) as (λ _. IsLive lines out q p) [
    | inl old ↦ sound q p old
    | inr new ↦ elim (in_union (left_parts out l) (union_of (straight q l) (jumped l)) p new) as (λ _. IsLive lines out q p) [
      | inl gone ↦ left e gone
      | inr on ↦ elim (in_union (straight q l) (jumped l) p on) as (λ _. IsLive lines out q p) [
        | inl next ↦ onward_live q l p e (is_closing l) refl next
        | inr to ↦ to_live q l p e (target_of l) refl to
      ]
    ]
  ]

  joined_live : (q : ℕ) (p : Part) → IsTrue (has_part (joined_at (flows_of lines out) live q) p) → IsLive lines out q p
  joined_live q p h = joined_by q p (slice_get lines q) refl (subst (λ o. IsTrue (has_part (joined_of (flows_of lines out) live q (before_at (flows_of lines out) live (q + 1)) o) p)) (slice_get-map (flow_of lines out) lines q) h)

  pub sound_set : (q : ℕ) → q < length live → AreSound lines out (set live q (joined_at (flows_of lines out) live q))
  sound_set q within r p h = elim (cases_eq r q) as (λ _. IsLive lines out r p) [
    | inl e ↦ subst (λ k. IsLive lines out k p) (sym e) (joined_live q p (subst (λ s. IsTrue (has_part s p)) (get_or-set_same live q _ no_parts within) (subst (λ k. IsTrue (has_part (get_or (set live q (joined_at (flows_of lines out) live q)) k no_parts) p)) e h)))
    | inr ne ↦ sound r p (subst (λ s. IsTrue (has_part s p)) (get_or-set_other live q r _ no_parts ne) h)
  ]
