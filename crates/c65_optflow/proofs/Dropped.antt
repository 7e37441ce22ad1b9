-- Labels to which no line refers go one after another.
use Rattle.std.proofs.Common.{◌≡◌, ℕ, zero, suc, ◌+◌, ◌<◌, ◌≤◌, Bool, true, false, if◌then◌else◌, List, [], ◌∷◌, ◌++◌, take, drop, length, get_or, Some, None, refl, sym, subst, arith, ap, ◌∙◌, append_assoc, append-nil}
use Rattle.std.specs.Prelude.{not, ◌^◌, All, Ok}
use Rattle.std.proofs.lemmas.List.{drop_more}
use Rattle.c65_code.specs.declared.line.Line.{Line}
use Rattle.c65_code.specs.declared.line.Line.TheVariants.{Label, Do, Call}
use Rattle.c65_code.specs.declared.parts.RegSet.{RegSet}
use Rattle.c65_code.specs.Segments.{IsSegment, target_of, targets_of, is_among, replaced}
use Rattle.c65_code.specs.Weights.{lines_size}
use Rattle.c65_code.specs.Writable.{IsLineWritable}
use Rattle.c65_know.specs.Known.{Annotated, annotated}
use Rattle.c65_live.specs.Tables.{Table}
use Rattle.c65_pass.specs.FlowRules.{gone_if, is_unused}
use Rattle.c65_pass.specs.Passes.{Rewrites, none, more, IsFree, counted}
use Rattle.c65_pass.specs.Rounds.{Only, AreFree, RulesRewrite, by, IsPassed}
use Rattle.c65_pass.specs.Rounds as rounds
use Rattle.c65_pass.specs.Rewriting.{rewritten}
use Rattle.c65_pass.specs.Rules.{match_there, match_at}
use Rattle.c65_pass.proofs.Windows.{targets-append}
use Rattle.c65_pass.proofs.Chains.{Kept, kept}
use Rattle.c65_optflow.proofs.Good.{flow_good}
use Rattle.c65_optflow.specs.Unused.{used_lines}

-- ---- lists

take_front : (a b : List Line) → take (length a) (a ++ b) ≡ a
take_front [] b = refl
take_front (x ∷ a) b = ap (λ ls. x ∷ ls) (take_front a b)

drop_front : (a b : List Line) → drop (length a) (a ++ b) ≡ b
drop_front [] b = refl
drop_front (x ∷ a) b = drop_front a b

drop_past : (a : List Line) (l : Line) (b : List Line) → drop (length a + 1) (a ++ l ∷ b) ≡ b
drop_past [] l b = refl
drop_past (x ∷ a) l b =
    let e : suc (length a + 1) ≡ suc (length a) + 1 = omega arith in
    subst (λ (k : ℕ). drop k (x ∷ (a ++ l ∷ b)) ≡ b) e (drop_past a l b)

drop_all : (ls : List Line) → drop (length ls) ls ≡ []
drop_all [] = refl
drop_all (x ∷ ls) = drop_all ls

-- all lines are replaced
pub replaced_all : (lines new : List Line) → replaced lines 0 (length lines) new ≡ new
replaced_all lines new =
    let none : 0 + length lines ≡ length lines = omega arith in
    ap (λ (k : ℕ). new ++ drop k lines) none ∙ (ap (λ ls. new ++ ls) (drop_all lines) ∙ append-nil new)

-- ---- labels

unused_same : (a b : List Line) (line : Line) → targets_of a ≡ targets_of b → is_unused a line ≡ is_unused b line
unused_same a b (Label l) e = ap (λ ts. not (is_among ts l)) e
unused_same a b (Do op mode operand) e = refl
unused_same a b (Call callee) e = refl

no_target : (all : List Line) (line : Line) → is_unused all line ≡ true → target_of line ≡ []
no_target all (Label l) h = refl
no_target all (Do op mode operand) h = absurd cc
no_target all (Call callee) h = absurd cc

targets_by : (all rest left : List Line) (line : Line) (b : Bool) → is_unused all line ≡ b → targets_of left ≡ targets_of rest → targets_of (if b then left else line ∷ left) ≡ target_of line ++ targets_of rest
targets_by all rest left line true h e = e ∙ ap (λ ts. ts ++ targets_of rest) (sym (no_target all line h))
targets_by all rest left line false h e = ap (λ ts. target_of line ++ ts) e

targets_used : (all rest : List Line) → targets_of (used_lines all rest) ≡ targets_of rest
targets_used all [] = refl
targets_used all (line ∷ rest) = targets_by all rest (used_lines all rest) line (is_unused all line) refl (targets_used all rest)

fewer_by : (left rest : List Line) (line : Line) (b : Bool) → length left ≤ length rest → length (if b then left else line ∷ left) ≤ suc (length rest)
fewer_by left rest line true h = omega (arith, h)
fewer_by left rest line false h = omega (arith, h)

pub used_fewer : (all rest : List Line) → length (used_lines all rest) ≤ length rest
used_fewer all [] = omega arith
used_fewer all (line ∷ rest) = fewer_by (used_lines all rest) rest line (is_unused all line) (used_fewer all rest)

-- where none goes, all stay
stay_by : (left rest : List Line) (line : Line) (b : Bool) → length left ≤ length rest → (length left ≡ length rest → left ≡ rest)
    → length (if b then left else line ∷ left) ≡ suc (length rest) → (if b then left else line ∷ left) ≡ line ∷ rest
stay_by left rest line true less same h = absurd (omega (arith, h, less))
stay_by left rest line false less same h = let as_many : length left ≡ length rest = omega (arith, h) in ap (λ ls. line ∷ ls) (same as_many)

all_used : (all rest : List Line) → length (used_lines all rest) ≡ length rest → used_lines all rest ≡ rest
all_used all [] e = refl
all_used all (line ∷ rest) e = stay_by (used_lines all rest) rest line (is_unused all line) (used_fewer all rest) (all_used all rest) e

-- ---- the walk

-- one line more, which stays or goes
pub used_more : (lines used new : List Line) (at : ℕ) (line : Line) (b : Bool) → at < length lines → b ≡ is_unused lines (get_or lines at line)
    → new ≡ (if b then used else used ++ get_or lines at line ∷ [])
    → used ++ used_lines lines (drop at lines) ≡ used_lines lines lines → new ++ used_lines lines (drop (at + 1) lines) ≡ used_lines lines lines
used_more lines used new at line b less is e h =
    let this : Line = get_or lines at line in
    let cut : drop at lines ≡ this ∷ drop (at + 1) lines = drop_more lines at line less in
    go b is e (subst (λ ls. used ++ used_lines lines ls ≡ used_lines lines lines) cut h)
  where
    go : (b : Bool) → b ≡ is_unused lines (get_or lines at line) → new ≡ (if b then used else used ++ get_or lines at line ∷ [])
        → used ++ used_lines lines (get_or lines at line ∷ drop (at + 1) lines) ≡ used_lines lines lines → new ++ used_lines lines (drop (at + 1) lines) ≡ used_lines lines lines
    go true is e h =
        ap (λ ls. ls ++ used_lines lines (drop (at + 1) lines)) e
        ∙ (ap (λ (b : Bool). used ++ (if b then used_lines lines (drop (at + 1) lines) else get_or lines at line ∷ used_lines lines (drop (at + 1) lines))) is ∙ h)
    go false is e h =
        ap (λ ls. ls ++ used_lines lines (drop (at + 1) lines)) e
        ∙ (append_assoc used (get_or lines at line ∷ []) (used_lines lines (drop (at + 1) lines))
        ∙ (ap (λ (b : Bool). used ++ (if b then used_lines lines (drop (at + 1) lines) else get_or lines at line ∷ used_lines lines (drop (at + 1) lines))) is ∙ h))

-- ---- the rule

no_table : Table
no_table = record { after = [] }

idle_by : (all left : List Line) (line : Line) (noted : Annotated) (k at : ℕ) (b : Bool) → is_unused all line ≡ b → targets_of noted.lines ≡ targets_of all
    → ((at : ℕ) → match_there 7 [] noted no_table k (drop at left) ≡ None) → match_there 7 [] noted no_table k (drop at (if b then left else line ∷ left)) ≡ None
idle_by all left line noted k at true h e rest = rest at
idle_by all left line noted k zero false h e rest = ap (λ b. gone_if b k) (unused_same noted.lines all line e ∙ h)
idle_by all left line noted k (suc at) false h e rest = rest at

nothing_at : (noted : Annotated) (at k : ℕ) → match_there 7 [] noted no_table k (drop at []) ≡ None
nothing_at noted zero k = refl
nothing_at noted (suc at) k = refl

idle : (all rest : List Line) (noted : Annotated) (k : ℕ) → targets_of noted.lines ≡ targets_of all → (at : ℕ) → match_there 7 [] noted no_table k (drop at (used_lines all rest)) ≡ None
idle all [] noted k e at = nothing_at noted at k
idle all (line ∷ rest) noted k e at = idle_by all (used_lines all rest) line noted k at (is_unused all line) refl e (idle all rest noted k e)

-- the rule matches nowhere in the lines that are left
pub free_of_unused : (all : List Line) (noted : Annotated) → noted.lines ≡ used_lines all all → IsFree 7 [] noted
free_of_unused all noted e = record {
  table = no_table;
  live = λ asks. absurd (omega (arith, asks));
  nowhere = λ at. subst (λ ls. match_there 7 [] noted no_table at (drop at ls) ≡ None) (sym e) (idle all all noted at (ap targets_of e ∙ targets_used all all) at);
}

-- so many rewritings make lines that begin so, of so many lines before each
pub record Dropped (out : RegSet) (all front left : List Line) (count : ℕ) : Type 0 where
  pub made : ℕ
  pub chain : Rewrites 7 [] out all made (front ++ left)
  pub some : made + length left ≡ count

one_gone : (front rest : List Line) (line : Line) → rewritten (front ++ line ∷ rest) (record { at = length front; count = 1; lines = [] }) ≡ front ++ rest
one_gone front rest line =
    ap (λ ls. ls ++ drop (length front + 1) (front ++ line ∷ rest)) (take_front front (line ∷ rest)) ∙ ap (λ ls. front ++ ls) (drop_past front line rest)

unused_matches : (out : RegSet) (all front rest : List Line) (line : Line) → targets_of (front ++ line ∷ rest) ≡ targets_of all → is_unused all line ≡ true
    → match_at 7 [] (annotated (front ++ line ∷ rest) out) no_table (length front) ≡ Some (record { at = length front; count = 1; lines = [] })
unused_matches out all front rest line e h =
    ap (λ ls. match_there 7 [] (annotated (front ++ line ∷ rest) out) no_table (length front) ls) (drop_front front (line ∷ rest))
    ∙ ap (λ b. gone_if b (length front)) (unused_same (front ++ line ∷ rest) all line e ∙ h)

dropped_by : (out : RegSet) (all front rest left : List Line) (line : Line) (n : ℕ) (b : Bool) → is_unused all line ≡ b → targets_of (front ++ line ∷ rest) ≡ targets_of all
    → Rewrites 7 [] out all n (front ++ line ∷ rest)
    → ((begun : List Line) (m : ℕ) → targets_of (begun ++ rest) ≡ targets_of all → Rewrites 7 [] out all m (begun ++ rest) → Dropped out all begun left (m + length rest))
    → Dropped out all front (if b then left else line ∷ left) (n + suc (length rest))
dropped_by out all front rest left line n true h e chain go =
    let step = more no_table (length front) chain (λ asks. absurd (omega (arith, asks))) (unused_matches out all front rest line e h) in
    let same : targets_of (front ++ rest) ≡ targets_of (front ++ line ∷ rest) =
    targets-append front rest ∙ (ap (λ ts. targets_of front ++ (ts ++ targets_of rest)) (sym (no_target all line h)) ∙ sym (targets-append front (line ∷ rest))) in
    let d = go front (suc n) (same ∙ e) (subst (Rewrites 7 [] out all (suc n)) (one_gone front rest line) step) in
    record { made = d.made; chain = d.chain; some = omega (arith, d.some) }
dropped_by out all front rest left line n false h e chain go =
    let next : (front ++ line ∷ []) ++ rest ≡ front ++ line ∷ rest = append_assoc front (line ∷ []) rest in
    let d = go (front ++ line ∷ []) n (ap targets_of next ∙ e) (subst (Rewrites 7 [] out all n) (sym next) chain) in
    record { made = d.made; chain = subst (Rewrites 7 [] out all d.made) (append_assoc front (line ∷ []) left) d.chain; some = omega (arith, d.some) }

dropped_from : (out : RegSet) (all rest front : List Line) (n : ℕ) → targets_of (front ++ rest) ≡ targets_of all → Rewrites 7 [] out all n (front ++ rest)
    → Dropped out all front (used_lines all rest) (n + length rest)
dropped_from out all [] front n e chain = record { made = n; chain = chain; some = refl }
dropped_from out all (line ∷ rest) front n e chain = dropped_by out all front rest (used_lines all rest) line n (is_unused all line) refl e chain (dropped_from out all rest)

pub dropped : (out : RegSet) (lines : List Line) → Dropped out lines [] (used_lines lines lines) (length lines)
dropped out lines =
    let d = dropped_from out lines lines [] 0 refl none in
    record { made = d.made; chain = d.chain; some = omega (arith, d.some) }

used_kept : (out : RegSet) (lines : List Line) → IsSegment lines → Kept lines (dropped out lines).made (used_lines lines lines)
used_kept out lines s = kept 7 [] out lines (used_lines lines lines) (dropped out lines).made (flow_good 7 (record { first = omega arith; last = omega arith })) s (dropped out lines).chain

-- the lines that are left are a segment
pub used_segment : (out : RegSet) (lines : List Line) → IsSegment lines → IsSegment (used_lines lines lines)
used_segment out lines s = (used_kept out lines s).segment

alone : (noted : Annotated) → IsFree 7 [] noted → AreFree (Only 7) noted
alone noted free rule is = subst (λ r. IsFree r [] noted) (sym is) free

-- what stands where none goes
pub passed_idle : (code : Annotated) → IsSegment code.lines → length (used_lines code.lines code.lines) ≡ length code.lines → IsPassed (Only 7) code code (Ok 0)
passed_idle code s e = record {
  none = alone code (free_of_unused code.lines code (sym (all_used code.lines code.lines e)));
  chain = (0, rounds.none, refl);
  same = λ z. refl;
  segments = (s, s);
  extent = omega arith;
  writable = λ n all. all;
  out = refl;
  refused = tt;
}

-- what stands where some go
pub passed_used : (old new : Annotated) (made : ℕ) → IsSegment old.lines → new ≡ annotated (used_lines old.lines old.lines) old.out → made + length (used_lines old.lines old.lines) ≡ length old.lines
    → 0 < made → length old.lines < 2 ^ 64 → IsPassed (Only 7) old new (Ok made)
passed_used old new made s e count some long =
    let d = dropped old.out old.lines in
    let k = used_kept old.out old.lines s in
    let lines : new.lines ≡ used_lines old.lines old.lines = ap (λ (a : Annotated). a.lines) e in
    let same : d.made ≡ made = omega (arith, count, d.some) in
    let few : made ≡ counted d.made = omega (arith, same, count, long) in
    let sum : d.made + 0 ≡ d.made = omega arith in
    record {
      none = alone new (free_of_unused old.lines new lines);
      chain = (d.made, subst (λ ls. RulesRewrite (Only 7) old.out old.lines d.made ls) (sym lines) (subst (λ n. RulesRewrite (Only 7) old.out old.lines n (used_lines old.lines old.lines)) sum (by 7 refl rounds.none d.chain)), few);
      same = λ z. absurd (omega (arith, z, some));
      segments = (s, subst IsSegment (sym lines) k.segment);
      extent = subst (λ ls. lines_size ls ≤ lines_size old.lines) (sym lines) k.size;
      writable = λ n all. subst (All (IsLineWritable n)) (sym lines) (k.writable n all);
      out = ap (λ (a : Annotated). a.out) e;
      refused = tt;
    }

pub some_if : (n : ℕ) → (n ≡ 0 → ⊥) → 0 < n
some_if zero h = absurd (h refl)
some_if (suc n) h = omega arith
