-- A walk over the lines, so far.
use Rattle.std.proofs.Common.{◌≡◌, ℕ, suc, ◌+◌, ◌-◌, ◌^◌, ◌<◌, ◌≤◌, List, ◌++◌, Some, None, take, drop, length, length-append, length-drop, sym, subst, arith, ap, ◌∙◌}
use Rattle.std.specs.Prelude.{All}
use Rattle.std.proofs.lemmas.List.{length-take}
use Rattle.c65_code.specs.declared.line.Line.{Line}
use Rattle.c65_code.specs.declared.line.Sym.{Sym}
use Rattle.c65_code.specs.declared.parts.RegSet.{RegSet}
use Rattle.c65_code.specs.Segments.{IsSegment, Segment}
use Rattle.c65_code.specs.Weights.{lines_size}
use Rattle.c65_code.specs.Writable.{IsLineWritable}
use Rattle.c65_know.specs.Known.{Annotated, annotated}
use Rattle.c65_live.specs.Tables.{Table}
use Rattle.c65_pass.specs.Once.{Stays, IsGoodOnce, Once, IsOnce, ends, passes, makes}
use Rattle.c65_pass.specs.Passes.{IsTableOf, Rewrites, none}
use Rattle.c65_pass.specs.Rewriting.{Rewriting, rewritten}
use Rattle.c65_pass.specs.Rules.{match_at}
use Rattle.c65_pass.proofs.Chains.{next_chain, next_noted}

-- so many rewritings so far, and the place to which the walk came: a walk from there on is the rest of one over the old lines
pub record Walk (rule : ℕ) (literals : List (Sym × List ℕ)) (out : RegSet) (old : List Line) (n at : ℕ) (code : Annotated) (table : Table) : Type 0 where
  pub rest : (k : ℕ) (new : List Line) → Once rule literals out new at code.lines k → Once rule literals out new 0 old (k + n)
  pub chain : Rewrites rule literals out old n code.lines
  pub noted : code ≡ annotated code.lines out
  pub first : IsSegment old
  pub segment : IsSegment code.lines
  pub size : lines_size code.lines ≤ lines_size old
  pub writable : (count : ℕ) → All (IsLineWritable count) old → All (IsLineWritable count) code.lines
  pub live : IsTableOf code table

pub walk_none : (rule : ℕ) (literals : List (Sym × List ℕ)) (out : RegSet) (code : Annotated) (table : Table) → code ≡ annotated code.lines out → IsSegment code.lines → IsTableOf code table
    → Walk rule literals out code.lines 0 0 code table
walk_none rule literals out code table noted s live = record {
  rest = λ k new once. let e : k + 0 ≡ k = omega arith in rw e once;
  chain = none;
  noted = noted;
  first = s;
  segment = s;
  size = omega arith;
  writable = λ count all. all;
  live = live;
}

pub walk_on : (rule : ℕ) (literals : List (Sym × List ℕ)) (out : RegSet) (old : List Line) (n at : ℕ) (code : Annotated) (table : Table) → Walk rule literals out old n at code table
    → at < length code.lines → match_at rule literals code table at ≡ None → Walk rule literals out old n (at + 1) code table
walk_on rule literals out old n at code table w less idle = record {
  rest = λ k new once. w.rest k new (passes table less (subst (λ a. IsTableOf a table) w.noted w.live) (subst (λ a. match_at rule literals a table at ≡ None) w.noted idle) once);
  chain = w.chain;
  noted = w.noted;
  first = w.first;
  segment = w.segment;
  size = w.size;
  writable = w.writable;
  live = w.live;
}

pub walk_keeps : (rule : ℕ) (literals : List (Sym × List ℕ)) (out : RegSet) (old : List Line) (n at : ℕ) (code : Annotated) (table : Table) (w : Rewriting)
    → IsGoodOnce rule literals → Walk rule literals out old n at code table → match_at rule literals code table at ≡ Some w → Stays code.lines at w
walk_keeps rule literals out old n at code table w good walk matches = good code table at w walk.segment (ap (λ a. a.notes) walk.noted) walk.live matches

pub walk_more : (rule : ℕ) (literals : List (Sym × List ℕ)) (out : RegSet) (old : List Line) (n at : ℕ) (code new : Annotated) (table now : Table) (w : Rewriting)
    → IsGoodOnce rule literals → Walk rule literals out old n at code table → match_at rule literals code table at ≡ Some w
    → new ≡ annotated (rewritten code.lines w) code.out → IsTableOf new now → Walk rule literals out old (suc n) (w.at + length w.lines) new now
walk_more rule literals out old n at code new table now w good walk matches e live =
    let keeps = walk_keeps rule literals out old n at code table w good walk matches in
    let lines : new.lines ≡ rewritten code.lines w = ap (λ a. a.lines) e in
    let matched = subst (λ a. match_at rule literals a table at ≡ Some w) walk.noted matches in
    let tabled = subst (λ a. IsTableOf a table) walk.noted walk.live in
    record {
      rest = λ k final once.
          let next : Once rule literals out final at code.lines (suc k) = makes table tabled matched (subst (λ ls. Once rule literals out final (w.at + length w.lines) ls k) lines once) in
          let same : k + suc n ≡ suc k + n = omega arith in
          rw same (walk.rest (suc k) final next);
      chain = next_chain rule literals out old n code new table at w walk.chain walk.noted (λ asks. walk.live) matches e;
      noted = next_noted out code new w walk.noted e;
      first = walk.first;
      segment = subst IsSegment (sym lines) keeps.segment;
      size = subst (λ ls. lines_size ls ≤ lines_size old) (sym lines) (omega (arith, keeps.size, walk.size));
      writable = λ count all. subst (All (IsLineWritable count)) (sym lines) (keeps.writable count (walk.writable count all));
      live = live;
    }

-- the lines behind those that were put in are those behind the old ones
rewritten_length : (lines : List Line) (at : ℕ) (w : Rewriting) → Stays lines at w → length (rewritten lines w) ≡ (w.at + length w.lines) + (length lines - (w.at + w.count))
rewritten_length lines at w keeps =
    let post = drop (w.at + w.count) lines in
    omega (arith, keeps.within, length-append (take w.at lines) (w.lines ++ post), length-append w.lines post, length-take w.at lines, length-drop (w.at + w.count) lines)

pub walk_nearer : (lines new put : List Line) (at from : ℕ) (w : Rewriting) → Stays lines at w → new ≡ rewritten lines w → from ≡ w.at → put ≡ w.lines
    → length new - (from + length put) < length lines - at
walk_nearer lines new put at from w keeps e f l = omega (arith, keeps.here, keeps.some, keeps.within, rewritten_length lines at w keeps, ap length e, f, ap length l)

pub walk_fits : (lines new now put : List Line) (at from : ℕ) (w : Rewriting) → Stays lines at w → new ≡ rewritten lines w → from ≡ w.at → put ≡ w.lines → now ≡ new → length now < 2 ^ 64
    → from + length put < 2 ^ 64
walk_fits lines new now put at from w keeps e f l n few = omega (arith, keeps.within, rewritten_length lines at w keeps, ap length e, f, ap length l, ap length n, few)

pub walk_placed : (rule : ℕ) (literals : List (Sym × List ℕ)) (out : RegSet) (old put : List Line) (n from : ℕ) (code : Annotated) (table : Table) (w : Rewriting)
    → from ≡ w.at → put ≡ w.lines → Walk rule literals out old n (w.at + length w.lines) code table → Walk rule literals out old n (from + length put) code table
walk_placed rule literals out old put n from code table w f l walk = subst (λ at. Walk rule literals out old n (at + length put) code table) (sym f) (subst (λ ls. Walk rule literals out old n (w.at + length ls) code table) (sym l) walk)

pub walk_writable : (rule : ℕ) (literals : List (Sym × List ℕ)) (out : RegSet) (old : List Line) (n at : ℕ) (code new : Annotated) (table : Table) (w : Rewriting)
    → IsGoodOnce rule literals → Walk rule literals out old n at code table → match_at rule literals code table at ≡ Some w → new ≡ annotated (rewritten code.lines w) code.out
    → (count : ℕ) → All (IsLineWritable count) old → All (IsLineWritable count) new.lines
walk_writable rule literals out old n at code new table w good walk matches e = λ count all.
    subst (λ a. All (IsLineWritable count) a.lines) (sym e) ((walk_keeps rule literals out old n at code table w good walk matches).writable count (walk.writable count all))

pub walk_end : (rule : ℕ) (literals : List (Sym × List ℕ)) (out : RegSet) (old : List Line) (n at : ℕ) (code : Annotated) (table : Table) → Walk rule literals out old n at code table
    → length code.lines ≤ at → Once rule literals out code.lines 0 old n
walk_end rule literals out old n at code table walk end =
    let whole : Once rule literals out code.lines 0 old (0 + n) = walk.rest 0 code.lines (ends end) in
    let e : 0 + n ≡ n = omega arith in
    subst (λ m. Once rule literals out code.lines 0 old m) e whole

-- a walk over a copy of the lines, which are noted anew after it, is one over the lines themselves
pub walked_copy : (rule : ℕ) (literals : List (Sym × List ℕ)) (old new : Annotated) (seen copy walked : Segment) (made : ℕ) → seen.lines ≡ old.lines → seen.out ≡ old.out → copy ≡ seen
    → walked.out ≡ copy.out → new ≡ annotated walked.lines walked.out → IsOnce rule literals copy.out copy.lines walked.lines made
    → IsOnce rule literals old.out old.lines new.lines made × (new.out ≡ old.out)
walked_copy rule literals old new seen copy walked made lines out same kept noted once =
    let old_lines : copy.lines ≡ old.lines = ap (λ s. s.lines) same ∙ lines in
    let old_out : copy.out ≡ old.out = ap (λ s. s.out) same ∙ out in
    let new_lines : walked.lines ≡ new.lines = sym (ap (λ a. a.lines) noted) in (
      subst (λ ls. IsOnce rule literals old.out old.lines ls made) new_lines
          (subst (λ ls. IsOnce rule literals old.out ls walked.lines made) old_lines (subst (λ o. IsOnce rule literals o copy.lines walked.lines made) old_out once)),
      ap (λ a. a.out) noted ∙ (kept ∙ old_out),
    )
