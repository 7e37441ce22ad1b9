-- The bytes of the zero page that sweeps set lie below a bound.
use Rattle.std.proofs.Common.{◌≡◌, ℕ, zero, suc, ◌+◌, ◌^◌, ◌<◌, ◌≤◌, not, Bool, true, false, if◌then◌else◌, List, [], ◌∷◌, length, get_or, set, Option, None, Some, slice_get, bit_and, refl, sym, subst, inl, inr, arith}
use Rattle.std.proofs.lemmas.Bool.{cases_eq}
use Rattle.std.proofs.lemmas.Nat.{and_le_l, or_lt, xor_lt, pow_below}
use Rattle.std.proofs.lemmas.List.{get_or-set_same, get_or-set_other}
use Rattle.c65_code.proofs.PartLaws.{pow_at_most}
use Rattle.c65_code.specs.declared.line.Line.{Line}
use Rattle.c65_code.specs.declared.parts.RegSet.{RegSet}
use Rattle.c65_code.specs.Parts.{no_parts, union_of, minus_of}
use Rattle.c65_code.specs.Access.{line_reads, line_sets}
use Rattle.c65_code.specs.Moves.{labelled}
use Rattle.c65_code.specs.Segments.{target_of, is_closing}
use Rattle.c65_live.specs.Live.{left_parts}
use Rattle.c65_live_law.proofs.Step.{before_line, before_at, before_to, onward_from, joined_of, joined_at}

abbrev pub IsSmall : ℕ → RegSet → Type 0
IsSmall k s = s.zero_page < 2 ^ k

-- what a line reads, and what may be read behind it outside
pub record IsSmallLine (k : ℕ) (out : RegSet) (l : Line) : Type 0 where
  pub reads : IsSmall k (line_reads out l)
  pub left : IsSmall k (left_parts out l)

abbrev pub AreSmall : ℕ → RegSet → List Line → Type 0
AreSmall k out lines = (q : ℕ) (l : Line) → slice_get lines q ≡ Some l → IsSmallLine k out l

pub none_small : (k : ℕ) → IsSmall k no_parts
none_small k = let one : 1 ≤ 2 ^ k = pow_at_most 0 k (omega arith) in omega (arith, one)

union_small : (k : ℕ) (s t : RegSet) → IsSmall k s → IsSmall k t → IsSmall k (union_of s t)
union_small k s t h g = or_lt k s.zero_page t.zero_page h g

minus_small : (k : ℕ) (s t : RegSet) → IsSmall k s → IsSmall k (minus_of s t)
minus_small k s t h = xor_lt k s.zero_page (bit_and s.zero_page t.zero_page) h (let less = and_le_l s.zero_page t.zero_page in omega (arith, less, h))

module _ (k : ℕ) (lines : List Line) (out : RegSet) (small : AreSmall k out lines) (live : List RegSet) (sets : (q : ℕ) → IsSmall k (get_or live q no_parts)) where
  before_by : (q : ℕ) (line : Option Line) → slice_get lines q ≡ line → IsSmall k (before_line out line (get_or live q no_parts))
  before_by q None e = none_small k
  before_by q (Some l) e = union_small k (line_reads out l) (minus_of (get_or live q no_parts) (line_sets l)) (small q l e).reads (minus_small k (get_or live q no_parts) (line_sets l) (sets q))

  before_small : (q : ℕ) → IsSmall k (before_at lines out live q)
  before_small q = before_by q (slice_get lines q) refl

  to_small : (labels : List ℕ) → IsSmall k (before_to lines out live labels)
  to_small [] = none_small k
  to_small (l ∷ ls) = before_small (labelled lines l)

  next_small : (b : Bool) (q : ℕ) → IsSmall k (if b then before_at lines out live q else no_parts)
  next_small true q = before_small q
  next_small false q = none_small k

  joined_by : (q : ℕ) (line : Option Line) → slice_get lines q ≡ line → IsSmall k (joined_of lines out live q line)
  joined_by q None e = sets q
  joined_by q (Some l) e =
      union_small k (get_or live q no_parts) (union_of (left_parts out l) (union_of (onward_from lines out live q l) (before_to lines out live (target_of l)))) (sets q)
      (union_small k (left_parts out l) (union_of (onward_from lines out live q l) (before_to lines out live (target_of l))) (small q l e).left
      (union_small k (onward_from lines out live q l) (before_to lines out live (target_of l)) (next_small (not (is_closing l)) (q + 1)) (to_small (target_of l))))

  pub joined_small : (q : ℕ) → IsSmall k (joined_at lines out live q)
  joined_small q = joined_by q (slice_get lines q) refl

  pub set_small : (q : ℕ) (s : RegSet) → q < length live → IsSmall k s → (r : ℕ) → IsSmall k (get_or (set live q s) r no_parts)
  set_small q s within h r = elim (cases_eq r q) as (λ _. IsSmall k (get_or (set live q s) r no_parts)) [
    | inl e ↦ subst (λ (n : ℕ). IsSmall k (get_or (set live q s) n no_parts)) (sym e) (subst (IsSmall k) (sym (get_or-set_same live q s no_parts within)) h)
    | inr ne ↦ subst (IsSmall k) (sym (get_or-set_other live q r s no_parts ne)) (sets r)
  ]

-- ---- a bound for all lines

below_power : (n : ℕ) → n < 2 ^ n
below_power zero = omega arith
below_power (suc n) = let less = below_power n in let more : 2 ^ n < 2 ^ (suc n) = pow_below n (suc n) (omega arith) in omega (arith, less, more)

below_more : (n k : ℕ) → n ≤ k → n < 2 ^ k
below_more n k h = let less = below_power n in let more : 2 ^ n ≤ 2 ^ k = pow_at_most n k h in omega (arith, less, more)

wider : (j k : ℕ) (out : RegSet) (l : Line) → j ≤ k → IsSmallLine j out l → IsSmallLine k out l
wider j k out l h s =
    let more : 2 ^ j ≤ 2 ^ k = pow_at_most j k h in
    let reads = s.reads in
    let gone = s.left in
    record { reads = omega (arith, more, reads); left = omega (arith, more, gone) }

-- a bound that serves for a line and for those behind it
bound_of : ℕ → RegSet → Line → ℕ
bound_of j out l = j + ((line_reads out l).zero_page + (left_parts out l).zero_page)

first_small : (j : ℕ) (out : RegSet) (l : Line) → IsSmallLine (bound_of j out l) out l
unfolding bound_of
first_small j out l = record {
  reads = below_more (line_reads out l).zero_page (bound_of j out l) (omega arith);
  left = below_more (left_parts out l).zero_page (bound_of j out l) (omega arith);
}

all_small : (j : ℕ) (out : RegSet) (line : Line) (lines : List Line) → AreSmall j out lines → AreSmall (bound_of j out line) out (line ∷ lines)
unfolding bound_of
all_small j out line lines small zero other e = let same : line ≡ other = cc in subst (IsSmallLine (bound_of j out line) out) same (first_small j out line)
all_small j out line lines small (suc q) other e = wider j (bound_of j out line) out other (omega arith) (small q other e)

none_there : (k : ℕ) (out : RegSet) → AreSmall k out []
none_there k out q l e = absurd cc

pub bound : (out : RegSet) (lines : List Line) → (k : ℕ) × AreSmall k out lines
bound out [] = (0, none_there 0 out)
bound out (line ∷ lines) = let rest = bound out lines in (bound_of rest.0 out line, all_small rest.0 out line lines rest.1)
