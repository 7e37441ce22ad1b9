-- What rewriting by several rules keeps, over all rounds.
use Rattle.std.proofs.Common.{◌≡◌, ◌⊎◌, inl, inr, ℕ, ◌+◌, ◌<◌, ◌≤◌, List, [], refl, sym, subst, arith}
use Rattle.std.specs.Prelude.{All, IfErr, IsErr, Result, min}
use Rattle.std.proofs.Math.Nat.{eq-or-lt_of_le}
use Rattle.std.proofs.lemmas.Result.{IfOk-weaker, IfOk-from_err}
use Rattle.c65_base.specs.declared.refusal.Refusal.{Refusal}
use Rattle.c65_base.specs.declared.refusal.Refusal.TheVariants.{OutOfMemory}
use Rattle.c65_code.specs.declared.line.Line.{Line}
use Rattle.c65_code.specs.declared.parts.RegSet.{RegSet}
use Rattle.c65_code.specs.Segments.{IsSegment}
use Rattle.c65_code.specs.Weights.{lines_size}
use Rattle.c65_code.specs.Writable.{IsLineWritable}
use Rattle.c65_know.specs.Known.{Annotated}
use Rattle.c65_pass.specs.Passes.{Rewrites, IsFree, IsGood, IsRun, counted}
use Rattle.c65_pass.specs.Rounds.{Only, IsRuleOf, InTurn, AreFree, AreGood, RulesRewrite, none, by, IsPassed}
use Rattle.c65_pass.specs.Rewriting.{bulk}
use Rattle.c65_pass.proofs.Chains.{Kept, kept}

pub rules_kept : (among : ℕ → Type 0) (out : RegSet) (old new : List Line) (n : ℕ) → AreGood among → IsSegment old → RulesRewrite among out old n new → Kept old n new
rules_kept among out old _ _ good s none = record { segment = s; size = omega arith; writable = λ count all. all; no_bulkier = omega arith; lower = λ most h. omega arith }
rules_kept among out old _ _ good s (by {n = n} {m = m} {lines = lines} {new = new} rule r before chain) =
    let a = rules_kept among out old lines n good s before in
    let b = kept rule [] out lines new m (good rule r) a.segment chain in
    record {
      segment = b.segment;
      size = omega (arith, a.size, b.size);
      writable = λ count all. b.writable count (a.writable count all);
      no_bulkier = omega (arith, a.no_bulkier, b.no_bulkier);
      lower = λ most h. omega (arith, a.lower most h, b.lower most (omega (arith, h, a.no_bulkier)));
    }

pub rules_joined : (among : ℕ → Type 0) (out : RegSet) (old mid new : List Line) (n m : ℕ) → RulesRewrite among out old n mid → RulesRewrite among out mid m new → RulesRewrite among out old (m + n) new
rules_joined among out old mid _ n _ first none = let e : 0 + n ≡ n = omega arith in rw e first
rules_joined among out old mid _ n _ first (by {n = k} {m = m} {lines = lines} {new = new} rule r before chain) =
    let e : (m + k) + n ≡ m + (k + n) = omega arith in
    rw e (by rule r (rules_joined among out old mid lines n k first before) chain)

-- rewritings by some rules are such by more of them
pub rules_wider : (among more : ℕ → Type 0) (out : RegSet) (old new : List Line) (n : ℕ) → ((rule : ℕ) → among rule → more rule) → RulesRewrite among out old n new → RulesRewrite more out old n new
rules_wider among more out old _ _ wide none = none
rules_wider among more out old _ _ wide (by {n = n} {lines = lines} rule r before chain) = by rule (wide rule r) (rules_wider among more out old lines n wide before) chain

-- what holds after some rewritings, beside their chain
pub record RulesDone (among : ℕ → Type 0) (out : RegSet) (old : List Line) (n : ℕ) (new : List Line) : Type 0 where
  pub chain : RulesRewrite among out old n new
  pub size : lines_size new ≤ lines_size old
  pub writable : (count : ℕ) → All (IsLineWritable count) old → All (IsLineWritable count) new
  pub no_bulkier : bulk new ≤ bulk old

pub rules_done_none : (among : ℕ → Type 0) (out : RegSet) (old : List Line) → RulesDone among out old 0 old
rules_done_none among out old = record { chain = none; size = omega arith; writable = λ count all. all; no_bulkier = omega arith }

pub rules_done_more : (among : ℕ → Type 0) (out now : RegSet) (old mid new : List Line) (n m : ℕ) → AreGood among → IsSegment mid → now ≡ out
    → RulesDone among out old n mid → RulesRewrite among now mid m new → RulesDone among out old (m + n) new
rules_done_more among out now old mid new n m good s same d chain =
    let k = rules_kept among now mid new m good s chain in
    record {
      chain = rules_joined among out old mid new n m d.chain (subst (λ o. RulesRewrite among o mid m new) same chain);
      size = omega (arith, k.size, d.size);
      writable = λ count all. k.writable count (d.writable count all);
      no_bulkier = omega (arith, k.no_bulkier, d.no_bulkier);
    }

pub both_none : (most made now : ℕ) → 0 < most → min (made + now) most ≡ 0 → (made ≡ 0) × (now ≡ 0)
both_none most made now h e = (omega (arith, h, e), omega (arith, h, e))

-- the same rules in other words
pub passed_alike : (among other : ℕ → Type 0) (old new : Annotated) (result : Result ℕ Refusal) → ((rule : ℕ) → among rule → other rule) → ((rule : ℕ) → other rule → among rule)
    → IsPassed among old new result → IsPassed other old new result
passed_alike among other old new result wide narrow p = record {
  none = IfOk-weaker result (λ made. AreFree among new) (λ made. AreFree other new) (λ made free rule r. free rule (narrow rule r)) p.none;
  chain = (p.chain.0, rules_wider among other old.out old.lines new.lines p.chain.0 wide p.chain.1, p.chain.2);
  same = p.same;
  segments = p.segments;
  extent = p.extent;
  writable = p.writable;
  out = p.out;
  refused = p.refused;
}

-- the rules of a range, each in the turn of its number
range_of : (first last rule : ℕ) → InTurn first (last + 1) Only rule → IsRuleOf first last rule
range_of first last rule t = subst (IsRuleOf first last) (sym t.among) (record { first = t.first; last = omega (arith, t.before) })

pub good_turns : (first last : ℕ) → AreGood (IsRuleOf first last) → AreGood (InTurn first (last + 1) Only)
good_turns first last good rule t = good rule (range_of first last rule t)

pub passed_range : (first last : ℕ) (old new : Annotated) (result : Result ℕ Refusal) → IsPassed (InTurn first (last + 1) Only) old new result → IsPassed (IsRuleOf first last) old new result
passed_range first last old new result p =
    passed_alike (InTurn first (last + 1) Only) (IsRuleOf first last) old new result (range_of first last)
    (λ rule r. record { turn = rule; first = r.first; before = omega (arith, r.last); among = refl }) p

-- the rewritings of one rule by itself
only_rewrites : (rule : ℕ) (out : RegSet) (old new : List Line) (n : ℕ) → Rewrites rule [] out old n new → RulesRewrite (Only rule) out old n new
only_rewrites rule out old new n r = let e : n + 0 ≡ n = omega arith in subst (λ count. RulesRewrite (Only rule) out old count new) e (by rule refl none r)

pub only_passed : (rule : ℕ) (old new : Annotated) (result : Result ℕ Refusal) → IsRun rule [] old new result → IsPassed (Only rule) old new result
only_passed rule old new result r = record {
  none = IfOk-weaker result (λ _. IsFree rule [] new) (λ _. AreFree (Only rule) new) (λ made f other is. subst (λ n. IsFree n [] new) (sym is) f) r.none;
  chain = (r.chain.0, only_rewrites rule old.out old.lines new.lines r.chain.0 r.chain.1, r.chain.2);
  same = r.same;
  segments = r.segments;
  extent = r.extent;
  writable = r.writable;
  out = r.out;
  refused = r.refused;
}

-- the lines as they were, where nothing could be begun
pub passed_early : (among : ℕ → Type 0) (code : Annotated) (result : Result ℕ Refusal) → IsSegment code.lines → IsErr result → IfErr result (λ refusal. refusal ≡ OutOfMemory)
    → IsPassed among code code result
passed_early among code result s failed e = record {
  none = IfOk-from_err result (λ _. AreFree among code) failed;
  chain = (0, none, IfOk-from_err result (λ made. made ≡ counted 0) failed);
  same = IfOk-from_err result (λ made. made ≡ 0 → code ≡ code) failed;
  segments = (s, s);
  extent = omega arith;
  writable = λ n all. all;
  out = refl;
  refused = e;
}

-- a range of rules, one rule after another
pub good_one : (rule : ℕ) → IsGood rule [] → AreGood (IsRuleOf rule rule)
good_one rule good other r = let e : other ≡ rule = omega (arith, r.first, r.last) in subst (λ n. IsGood n []) (sym e) good

pub good_more : (first last : ℕ) → AreGood (IsRuleOf first last) → IsGood (last + 1) [] → AreGood (IsRuleOf first (last + 1))
good_more first last before good rule r = go (eq-or-lt_of_le r.last)
  where
    go : (rule ≡ last + 1) ⊎ (rule < last + 1) → IsGood rule []
    go (inl e) = subst (λ n. IsGood n []) (sym e) good
    go (inr less) = before rule (record { first = r.first; last = omega (arith, less) })
