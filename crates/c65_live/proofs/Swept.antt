-- What is live before and after a line, by the line and the place to which it leads.
use Rattle.std.proofs.Common.{◌≡◌, ℕ, ◌+◌, ◌-◌, ◌<◌, ◌≤◌, not, List, if◌then◌else◌, length, take, drop, get_or, Option, Some, None, slice_get, sym, ◌∙◌, ap, subst, arith}
use Rattle.std.specs.Option.{option_map}
use Rattle.std.proofs.lemmas.Option.{slice_get-map, slice_get-get_or, get_or_from_slice_get}
use Rattle.std.proofs.lemmas.List.{length-map, take_rest}
use Rattle.c65_code.specs.declared.parts.RegSet.{RegSet}
use Rattle.c65_code.specs.declared.line.Line.{Line}
use Rattle.c65_code.specs.Parts.{no_parts, union_of}
use Rattle.c65_code.specs.Segments.{is_closing}
use Rattle.c65_live.specs.Live.{left_parts}
use Rattle.c65_live.specs.Flows.{flow_of, flows_of, before_of, before_at, before_to, joined_of, joined_at}
use Rattle.c65_live.specs.Renewals.{before_line}
use Rattle.c65_live.specs.Regions.{place_of, places_of, past, IsSame, same}
use Rattle.c65_live.proofs.Lists.{get_drop}

pub before_line_at : (lines : List Line) (out : RegSet) (live : List RegSet) (q : ℕ) (line : Line) → slice_get lines q ≡ Some line → before_at (flows_of lines out) live q ≡ before_line out line (get_or live q no_parts)
before_line_at lines out live q line e = ap (λ o. before_of o (get_or live q no_parts)) (slice_get-map (flow_of lines out) lines q ∙ ap (option_map (flow_of lines out)) e)

pub before_none_at : (lines : List Line) (out : RegSet) (live : List RegSet) (q : ℕ) → slice_get lines q ≡ None → before_at (flows_of lines out) live q ≡ no_parts
before_none_at lines out live q e = ap (λ o. before_of o (get_or live q no_parts)) (slice_get-map (flow_of lines out) lines q ∙ ap (option_map (flow_of lines out)) e)

pub joined_line : (lines : List Line) (out : RegSet) (live : List RegSet) (q : ℕ) (line : Line) → slice_get lines q ≡ Some line
    → joined_at (flows_of lines out) live q ≡ union_of (get_or live q no_parts) (union_of (left_parts out line) (union_of (if not (is_closing line) then before_at (flows_of lines out) live (q + 1) else no_parts) (before_to (flows_of lines out) live (place_of lines line))))
joined_line lines out live q line e = ap (joined_of (flows_of lines out) live q (before_at (flows_of lines out) live (q + 1))) (slice_get-map (flow_of lines out) lines q ∙ ap (option_map (flow_of lines out)) e)

-- what the four sets come to that are looked up at a line
pub joined_from : (lines : List Line) (out : RegSet) (live : List RegSet) (places : List (Option ℕ)) (q : ℕ) (next l s j : RegSet) (d : Line) → q < length lines → places ≡ places_of lines
    → next ≡ before_at (flows_of lines out) live (q + 1) → l ≡ left_parts out (get_or lines q d) → s ≡ (if not (is_closing (get_or lines q d)) then next else no_parts)
    → j ≡ before_to (flows_of lines out) live (get_or places q None) → union_of (get_or live q no_parts) (union_of l (union_of s j)) ≡ joined_at (flows_of lines out) live q
joined_from lines out live places q next l s j d within places_is next_is l_is s_is j_is =
    let line : Line = get_or lines q d in
    let set : RegSet = get_or live q no_parts in
    let here : slice_get lines q ≡ Some (get_or lines q d) = slice_get-get_or lines q d within in
    let place : get_or places q None ≡ place_of lines (get_or lines q d) =
    ap (λ ps. get_or ps q None) places_is ∙ get_or_from_slice_get (places_of lines) q (place_of lines (get_or lines q d)) None (slice_get-map (place_of lines) lines q ∙ ap (option_map (place_of lines)) here) in
    ap (λ x. union_of set (union_of x (union_of s j))) l_is
    ∙ (ap (λ x. union_of set (union_of (left_parts out line) (union_of x j))) (s_is ∙ ap (λ x. if not (is_closing line) then x else no_parts) next_is)
    ∙ (ap (λ x. union_of set (union_of (left_parts out line) (union_of (if not (is_closing line) then before_at (flows_of lines out) live (q + 1) else no_parts) x))) (j_is ∙ ap (before_to (flows_of lines out) live) place)
    ∙ sym (joined_line lines out live q line here)))

pub places_long : (lines : List Line) (places : List (Option ℕ)) → places ≡ places_of lines → length places ≡ length lines
places_long lines places e = ap length e ∙ length-map lines (place_of lines)

-- a line behind those that come
pub rest_same : (old live : List RegSet) (at count new r : ℕ) → at + new ≤ r
    → get_or (take (length live - (at + new)) (drop (at + new) live)) (r - (at + new)) no_parts ≡ get_or (take (length old - (at + count)) (drop (at + count) old)) (r - (at + new)) no_parts
    → IsSame at count new old live r
rest_same old live at count new r far h =
    let k : ℕ = r - (at + new) in
    let e : at + new + (r - (at + new)) ≡ r = omega (arith, far) in
    let set : get_or live (at + new + (r - (at + new))) no_parts ≡ get_or old (at + count + (r - (at + new))) no_parts =
    sym (get_drop (at + new) live k) ∙ (ap (λ sets. get_or sets k no_parts) (sym (take_rest live (at + new)))
    ∙ (h ∙ (ap (λ sets. get_or sets k no_parts) (take_rest old (at + count)) ∙ get_drop (at + count) old k))) in
    subst (λ i. IsSame at count new old live i) e (same (past (r - (at + new))) set)
