-- What a chain of rewritings keeps.
use Rattle.std.proofs.Common.{◌≡◌, ◌⊎◌, inl, inr, ℕ, zero, suc, ◌+◌, ◌-◌, ◌*◌, ◌<◌, ◌≤◌, List, [], ◌∷◌, Some, None, drop, length, refl, sym, subst, arith, ap, ◌∙◌}
use Rattle.std.proofs.lemmas.Bool.{cases_lt}
use Rattle.std.specs.Prelude.{All, IfErr, IsErr, Result, Ok, min}
use Rattle.std.proofs.lemmas.Result.{IfOk-from_err}
use Rattle.c65_base.specs.declared.refusal.Refusal.{Refusal}
use Rattle.c65_base.specs.declared.refusal.Refusal.TheVariants.{OutOfMemory}
use Rattle.c65_code.specs.declared.line.Line.{Line}
use Rattle.c65_code.specs.declared.line.Sym.{Sym}
use Rattle.c65_code.specs.declared.parts.RegSet.{RegSet}
use Rattle.c65_code.specs.Segments.{IsSegment, Segment}
use Rattle.c65_code.specs.Weights.{lines_size}
use Rattle.c65_code.specs.Writable.{IsLineWritable}
use Rattle.c65_know.specs.Known.{Annotated, annotated, known_of}
use Rattle.c65_live.specs.Tables.{Table, IsLiveTable}
use Rattle.c65_pass.specs.Rewriting.{Rewriting, bulk, Keeps, rewritten}
use Rattle.c65_pass.specs.Rules.{match_there, match_at}
use Rattle.c65_pass.specs.Passes.{IsTableOf, IsTableFor, IsGood, Rewrites, none, more, IsFree, IsRun, counted, last_flow_rule}
use Rattle.c65_pass.proofs.Ranks.{rank, lower_rank, lower_bulk, turn}

pub record Kept (old : List Line) (n : ℕ) (new : List Line) : Type 0 where
  pub segment : IsSegment new
  pub size : lines_size new ≤ lines_size old
  pub writable : (count : ℕ) → All (IsLineWritable count) old → All (IsLineWritable count) new
  pub no_bulkier : bulk new ≤ bulk old
  pub lower : (most : ℕ) → bulk old ≤ most → rank most new + n ≤ rank most old

pub kept : (rule : ℕ) (literals : List (Sym × List ℕ)) (out : RegSet) (old new : List Line) (n : ℕ) → IsGood rule literals → IsSegment old
    → Rewrites rule literals out old n new → Kept old n new
kept rule literals out old _ _ good s none = record {
  segment = s;
  size = omega arith;
  writable = λ count all. all;
  no_bulkier = omega arith;
  lower = λ most h. omega arith;
}
kept rule literals out old _ (suc n) good s (more {lines = lines} {w = w} table at before live matches) =
    let k = kept rule literals out old lines n good s before in
    let keeps = good (annotated lines out) table at w k.segment refl live matches in
    record {
      segment = keeps.segment;
      size = omega (arith, keeps.size, k.size);
      writable = λ count all. keeps.writable count (k.writable count all);
      no_bulkier = omega (arith, lower_bulk _ lines keeps.lower, k.no_bulkier);
      lower = λ most h. omega (arith, lower_rank most _ lines (omega (arith, h, k.no_bulkier)) keeps.lower, k.lower most h);
    }

pub joined : (rule : ℕ) (literals : List (Sym × List ℕ)) (out : RegSet) (old mid new : List Line) (n m : ℕ) → Rewrites rule literals out old n mid
    → Rewrites rule literals out mid m new → Rewrites rule literals out old (m + n) new
joined rule literals out old mid _ n _ first none = let e : 0 + n ≡ n = omega arith in rw e first
joined rule literals out old mid _ n (suc m) first (more {lines = lines} {w = w} table at rest live matches) =
    let e : suc m + n ≡ suc (m + n) = omega arith in
    rw e (more table at (joined rule literals out old mid lines n m first rest) live matches)

-- one more rewriting, where the rule matches
pub keeps_next : (rule : ℕ) (literals : List (Sym × List ℕ)) (out : RegSet) (old : List Line) (n : ℕ) (code : Annotated) (table : Table) (at : ℕ) (w : Rewriting)
    → IsGood rule literals → IsSegment old → Rewrites rule literals out old n code.lines → code ≡ annotated code.lines out → IsTableFor rule code table
    → match_at rule literals code table at ≡ Some w → Keeps code.lines w
keeps_next rule literals out old n code table at w good s chain noted live matches =
    good code table at w (kept rule literals out old code.lines n good s chain).segment (ap (λ a. a.notes) noted) live matches

pub next : (rule : ℕ) (literals : List (Sym × List ℕ)) (out : RegSet) (old : List Line) (n : ℕ) (code : Annotated) (table : Table) (at : ℕ) (w : Rewriting)
    → Rewrites rule literals out old n code.lines → code ≡ annotated code.lines out → IsTableFor rule code table
    → match_at rule literals code table at ≡ Some w → Rewrites rule literals out old (suc n) (rewritten code.lines w)
next rule literals out old n code table at w chain noted live matches =
    more table at chain (subst (λ a. IsTableFor rule a table) noted live) (subst (λ a. match_at rule literals a table at ≡ Some w) noted matches)

-- what holds after some rewritings, beside their chain
pub record Done (rule : ℕ) (literals : List (Sym × List ℕ)) (out : RegSet) (old : List Line) (n : ℕ) (new : List Line) : Type 0 where
  pub chain : Rewrites rule literals out old n new
  pub size : lines_size new ≤ lines_size old
  pub writable : (count : ℕ) → All (IsLineWritable count) old → All (IsLineWritable count) new
  pub no_bulkier : bulk new ≤ bulk old

pub done_none : (rule : ℕ) (literals : List (Sym × List ℕ)) (out : RegSet) (old : List Line) → Done rule literals out old 0 old
done_none rule literals out old = record { chain = none; size = omega arith; writable = λ count all. all; no_bulkier = omega arith }

pub done_more : (rule : ℕ) (literals : List (Sym × List ℕ)) (out now : RegSet) (old mid new : List Line) (n m : ℕ) → IsGood rule literals → IsSegment mid → now ≡ out
    → Done rule literals out old n mid → Rewrites rule literals now mid m new → Done rule literals out old (m + n) new
done_more rule literals out now old mid new n m good s same d chain =
    let k = kept rule literals now mid new m good s chain in
    record {
      chain = joined rule literals out old mid new n m d.chain (subst (λ o. Rewrites rule literals o mid m new) same chain);
      size = omega (arith, k.size, d.size);
      writable = λ count all. k.writable count (d.writable count all);
      no_bulkier = omega (arith, k.no_bulkier, d.no_bulkier);
    }

-- counts that stand still at most
pub count_more : (most made now n m : ℕ) → made ≡ min n most → now ≡ min m most → min (made + now) most ≡ min (m + n) most
count_more most made now n m h k = omega (arith, h, k)

pub count_one : (most made n : ℕ) → made ≡ min n most → min (made + 1) most ≡ min (suc n) most
count_one most made n h = omega (arith, h)

pub not_none : {A : Type 0} (most made : ℕ) → 0 < most → min (made + 1) most ≡ 0 → A
not_none most made h e = absurd (omega (arith, h, e))

pub none_more : (most made now n m : ℕ) → made ≡ min n most → now ≡ min m most → now ≡ 0 → made ≡ min (m + n) most
none_more most made now n m h k e = omega (arith, h, k, e)

pub some_made : (most now m : ℕ) → now ≡ min m most → (now ≡ 0 → ⊥) → 0 < m
some_made most now m h k = omega (arith, h, k)

pub some_more : {A : Type 0} (most made now : ℕ) → 0 < most → (now ≡ 0 → ⊥) → min (made + now) most ≡ 0 → A
some_more most made now h k e = absurd (omega (arith, h, k, e))

-- lines that were a segment's when nothing was made yet, or since
pub first_segment : (made : ℕ) (first now : Annotated) → (made ≡ 0 → now ≡ first) → ((made ≡ 0 → ⊥) → IsSegment first.lines) → IsSegment now.lines → IsSegment first.lines
first_segment zero first now same since s = subst (λ a. IsSegment a.lines) (same refl) s
first_segment (suc made) first now same since s = since (λ e. absurd (omega (arith, e)))

-- after one more rewriting: its chain, its notes, and that the sweep comes nearer to its end
pub next_chain : (rule : ℕ) (literals : List (Sym × List ℕ)) (out : RegSet) (old : List Line) (n : ℕ) (code new : Annotated) (table : Table) (at : ℕ) (w : Rewriting)
    → Rewrites rule literals out old n code.lines → code ≡ annotated code.lines out → IsTableFor rule code table
    → match_at rule literals code table at ≡ Some w → new ≡ annotated (rewritten code.lines w) code.out → Rewrites rule literals out old (suc n) new.lines
next_chain rule literals out old n code new table at w chain noted live matches e =
    subst (λ a. Rewrites rule literals out old (suc n) a.lines) (sym e) (next rule literals out old n code table at w chain noted live matches)

pub next_noted : (out : RegSet) (code new : Annotated) (w : Rewriting) → code ≡ annotated code.lines out → new ≡ annotated (rewritten code.lines w) code.out
    → new ≡ annotated new.lines out
next_noted out code new w noted e =
    let same : annotated (rewritten code.lines w) code.out ≡ annotated (rewritten code.lines w) out = ap (λ a. annotated (rewritten code.lines w) a.out) noted in
    let there : annotated (rewritten code.lines w) out ≡ annotated new.lines out = ap (λ a. annotated a.lines out) (sym e) in
    (e ∙ same) ∙ there

pub next_table : (code new : Annotated) (w : Rewriting) (table : Table) → new ≡ annotated (rewritten code.lines w) code.out → IsLiveTable (rewritten code.lines w) code.out table → IsTableOf new table
next_table code new w table e live = subst (λ a. IsLiveTable a.lines a.out table) (sym e) live

pub next_smaller : (rule : ℕ) (literals : List (Sym × List ℕ)) (out : RegSet) (old : List Line) (n : ℕ) (code new : Annotated) (table : Table) (at : ℕ) (w : Rewriting)
    → IsGood rule literals → IsSegment old → Rewrites rule literals out old n code.lines → code ≡ annotated code.lines out → IsTableFor rule code table
    → match_at rule literals code table at ≡ Some w → new ≡ annotated (rewritten code.lines w) code.out
    → rank (bulk old) new.lines * (bulk old + 1) + (length new.lines - at) < rank (bulk old) code.lines * (bulk old + 1) + (length code.lines - at)
next_smaller rule literals out old n code new table at w good s chain noted live matches e =
    let k = kept rule literals out old code.lines n good s chain in
    let keeps = keeps_next rule literals out old n code table at w good s chain noted live matches in
    let lines : new.lines ≡ rewritten code.lines w = ap (λ a. a.lines) e in
    let less : rank (bulk old) (rewritten code.lines w) < rank (bulk old) code.lines = lower_rank (bulk old) (rewritten code.lines w) code.lines k.no_bulkier keeps.lower in
    let few : length (rewritten code.lines w) ≤ bulk old = omega (arith, k.no_bulkier, lower_bulk (rewritten code.lines w) code.lines keeps.lower) in
    rw lines (turn (bulk old) (rank (bulk old) (rewritten code.lines w)) (rank (bulk old) code.lines) (length (rewritten code.lines w) - at) (length code.lines - at) less (omega (arith, few)))

-- the lines as they were, where nothing could be begun
pub refused_early : (rule : ℕ) (literals : List (Sym × List ℕ)) (code : Annotated) (result : Result ℕ Refusal) → IsSegment code.lines → IsErr result
    → IfErr result (λ refusal. refusal ≡ OutOfMemory) → IsRun rule literals code code result
refused_early rule literals code result s failed e = record {
  none = IfOk-from_err result (λ _. IsFree rule literals code) failed;
  chain = (0, none, IfOk-from_err result (λ made. made ≡ counted 0) failed);
  same = IfOk-from_err result (λ made. made ≡ 0 → code ≡ code) failed;
  segments = (s, s);
  extent = omega arith;
  writable = λ n all. all;
  out = refl;
  refused = e;
}

-- one place more at which a rule does not match
pub clean_more : (rule : ℕ) (literals : List (Sym × List ℕ)) (code : Annotated) (table : Table) (at : ℕ) → ((k : ℕ) → k < at → match_at rule literals code table k ≡ None)
    → match_at rule literals code table at ≡ None → (k : ℕ) → k < at + 1 → match_at rule literals code table k ≡ None
clean_more rule literals code table at before here k less = go (cases_lt k at)
  where
    go : (k < at) ⊎ (at ≤ k) → match_at rule literals code table k ≡ None
    go (inl earlier) = before k earlier
    go (inr no_less) = let e : k ≡ at = omega (arith, less, no_less) in rw e here

-- past the end no rule matches
past : (lines : List Line) (at : ℕ) → length lines ≤ at → drop at lines ≡ []
past [] zero h = refl
past [] (suc at) h = refl
past (line ∷ lines) zero h = absurd (omega (arith, h))
past (line ∷ lines) (suc at) h = past lines at (omega (arith, h))

pub nowhere : (rule : ℕ) (literals : List (Sym × List ℕ)) (code : Annotated) (table : Table) (n : ℕ) → length code.lines ≤ n
    → ((k : ℕ) → k < n → match_at rule literals code table k ≡ None) → (at : ℕ) → match_at rule literals code table at ≡ None
nowhere rule literals code table n h before at = go (cases_lt at n)
  where
    go : (at < n) ⊎ (n ≤ at) → match_at rule literals code table at ≡ None
    go (inl less) = before at less
    go (inr no_less) = ap (match_there rule literals code table at) (past code.lines at (omega (arith, h, no_less)))

-- no rule on jumps, branches and labels asks what is live
pub unasked : (rule : ℕ) (code : Annotated) (table : Table) → rule ≤ last_flow_rule → IsTableFor rule code table
unasked rule code table flow asks = absurd (omega (arith, flow, asks))

-- a run over a copy of the lines is one over the lines themselves
pub run_copied : (rule : ℕ) (literals : List (Sym × List ℕ)) (code : Annotated) (seen copy : Segment) (now : Annotated) (result : Result ℕ Refusal) → seen.lines ≡ code.lines → seen.out ≡ code.out
    → code.notes ≡ known_of code.lines → copy ≡ seen → IsRun rule literals (annotated copy.lines copy.out) now result → IsRun rule literals code now result
run_copied rule literals code seen copy now result lines out notes same run =
    let copied : annotated copy.lines copy.out ≡ annotated seen.lines seen.out = ap (λ s. annotated s.lines s.out) same in
    let seen_out : annotated seen.lines seen.out ≡ annotated seen.lines code.out = ap (annotated seen.lines) out in
    let seen_lines : annotated seen.lines code.out ≡ annotated code.lines code.out = ap (λ ls. annotated ls code.out) lines in
    let noted : annotated code.lines code.out ≡ code = ap (λ ns. record { lines = code.lines; out = code.out; notes = ns }) (sym notes) in
    subst (λ old. IsRun rule literals old now result) (copied ∙ (seen_out ∙ (seen_lines ∙ noted))) run

pub run_noted : (rule : ℕ) (literals : List (Sym × List ℕ)) (code now noted : Annotated) (result : Result ℕ Refusal) → noted ≡ now → IsRun rule literals code now result
    → IsRun rule literals code noted result
run_noted rule literals code now noted result e run = subst (λ new. IsRun rule literals code new result) (sym e) run

-- one that made nothing leaves all as it was
pub run_idle : (rule : ℕ) (literals : List (Sym × List ℕ)) (code now : Annotated) (made : ℕ) → IsRun rule literals code now (Ok made) → made ≡ 0 → IsRun rule literals code code (Ok 0)
run_idle rule literals code now made run idle =
    subst (λ new. IsRun rule literals code new (Ok 0)) (run.same idle) (subst (λ n. IsRun rule literals code now (Ok n)) idle run)
