-- A table in which a sweep changes nothing has each part that is live.
use Rattle.std.proofs.Common.{◌≡◌, ℕ, ◌+◌, not, false, IsTrue, if◌then◌else◌, List, get_or, Some, slice_get, sym, ◌∙◌, ap, subst}
use Rattle.std.specs.Option.{option_map}
use Rattle.std.proofs.lemmas.Option.{slice_get-map}
use Rattle.c65_code.specs.declared.parts.Part.{Part}
use Rattle.c65_code.specs.declared.parts.RegSet.{RegSet}
use Rattle.c65_code.specs.declared.line.Line.{Line}
use Rattle.c65_code.specs.Parts.{has_part, no_parts, union_of, minus_of}
use Rattle.c65_code.specs.Access.{line_reads, line_sets}
use Rattle.c65_code.specs.Segments.{target_of, is_closing}
use Rattle.c65_live.specs.Live.{Next, onward, goes, left_parts, IsLive, left, read, kept}
use Rattle.c65_live.specs.Flows.{flow_of, flows_of, labelled_at, before_of, before_at, before_to, joined_of, joined_at, IsClosed}
use Rattle.c65_live.proofs.Sets.{union_left, union_right, minus_in}

module _ (lines : List Line) (out : RegSet) (live : List RegSet) where
  -- a sweep changes nothing at the line
  abbrev pub IsClosedAt : ℕ → Type 0
  IsClosedAt q = joined_at (flows_of lines out) live q ≡ get_or live q no_parts

  found_flow : (q : ℕ) (l : Line) → slice_get lines q ≡ Some l → slice_get (flows_of lines out) q ≡ Some (flow_of lines out l)
  found_flow q l e = slice_get-map (flow_of lines out) lines q ∙ ap (option_map (flow_of lines out)) e

  joined_in : (q : ℕ) (l : Line) (p : Part) → IsClosedAt q → slice_get lines q ≡ Some l → IsTrue (has_part (joined_of (flows_of lines out) live q (before_at (flows_of lines out) live (q + 1)) (Some (flow_of lines out l))) p) → IsTrue (has_part (get_or live q no_parts) p)
  joined_in q l p closed e h =
      subst (λ s. IsTrue (has_part s p)) closed
      (subst (λ o. IsTrue (has_part (joined_of (flows_of lines out) live q (before_at (flows_of lines out) live (q + 1)) o) p)) (sym (found_flow q l e)) h)

  straight : (q : ℕ) (l : Line) → RegSet
  straight q l = if not (is_closing l) then before_at (flows_of lines out) live (q + 1) else no_parts

  jumped : (l : Line) → RegSet
  jumped l = before_to (flows_of lines out) live (labelled_at lines (target_of l))

  -- what is live behind a line
  behind_in : (q : ℕ) (l : Line) (p : Part) → IsClosedAt q → slice_get lines q ≡ Some l → IsTrue (has_part (union_of (straight q l) (jumped l)) p) → IsTrue (has_part (get_or live q no_parts) p)
  unfolding straight jumped
  behind_in q l p closed e h = joined_in q l p closed e (union_right (get_or live q no_parts) (union_of (left_parts out l) (union_of (straight q l) (jumped l))) p (union_right (left_parts out l) (union_of (straight q l) (jumped l)) p h))

  next_in : (q r : ℕ) (p : Part) → IsClosedAt q → Next lines q r → IsTrue (has_part (before_at (flows_of lines out) live r) p) → IsTrue (has_part (get_or live q no_parts) p)
  unfolding straight jumped
  next_in q r p closed (onward {l = l} e c) h = behind_in q l p closed e (union_left (straight q l) (jumped l) p
      (subst (λ b. IsTrue (has_part (if not b then before_at (flows_of lines out) live (q + 1) else no_parts) p)) (sym c) h))
  next_in q r p closed (goes {l = l} e t) h = behind_in q l p closed e (union_right (straight q l) (jumped l) p
      (subst (λ ls. IsTrue (has_part (before_to (flows_of lines out) live (labelled_at lines ls)) p)) (sym t) h))

  before_in : (r : ℕ) (l : Line) (p : Part) → slice_get lines r ≡ Some l → IsTrue (has_part (before_of (Some (flow_of lines out l)) (get_or live r no_parts)) p) → IsTrue (has_part (before_at (flows_of lines out) live r) p)
  before_in r l p e h = subst (λ o. IsTrue (has_part (before_of o (get_or live r no_parts)) p)) (sym (found_flow r l e)) h

  -- each way in which a part is live after such a line
  pub left_in : (q : ℕ) (p : Part) (l : Line) → IsClosedAt q → slice_get lines q ≡ Some l → IsTrue (has_part (left_parts out l) p) → IsTrue (has_part (get_or live q no_parts) p)
  unfolding straight jumped
  left_in q p l closed e h = joined_in q l p closed e (union_right (get_or live q no_parts) (union_of (left_parts out l) (union_of (straight q l) (jumped l))) p (union_left (left_parts out l) (union_of (straight q l) (jumped l)) p h))

  pub read_in : (q r : ℕ) (p : Part) (l : Line) → IsClosedAt q → Next lines q r → slice_get lines r ≡ Some l → IsTrue (has_part (line_reads out l) p) → IsTrue (has_part (get_or live q no_parts) p)
  read_in q r p l closed n e h = next_in q r p closed n (before_in r l p e (union_left (line_reads out l) (minus_of (get_or live r no_parts) (line_sets l)) p h))

  pub kept_in : (q r : ℕ) (p : Part) (l : Line) → IsClosedAt q → Next lines q r → slice_get lines r ≡ Some l → has_part (line_sets l) p ≡ false → IsTrue (has_part (get_or live r no_parts) p) → IsTrue (has_part (get_or live q no_parts) p)
  kept_in q r p l closed n e f h = next_in q r p closed n (before_in r l p e (union_right (line_reads out l) (minus_of (get_or live r no_parts) (line_sets l)) p (minus_in (get_or live r no_parts) (line_sets l) p h f)))

  pub live_in : IsClosed (flows_of lines out) live → (q : ℕ) (p : Part) → IsLive lines out q p → IsTrue (has_part (get_or live q no_parts) p)
  live_in closed q p (left {l = l} e h) = left_in q p l (closed q) e h
  live_in closed q p (read {r = r} {l = l} n e h) = read_in q r p l (closed q) n e h
  live_in closed q p (kept {r = r} {l = l} n e f i) = kept_in q r p l (closed q) n e f (live_in closed r p i)
