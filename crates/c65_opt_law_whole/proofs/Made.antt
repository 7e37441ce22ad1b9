-- Rewritings one after another.
use Rattle.std.proofs.Common.{◌≡◌, ℕ, ◌+◌, ◌<◌, ◌≤◌, ◌⊎◌, inl, inr, ◌==◌, Bool, true, false, if◌then◌else◌, IsTrue, List, [], ◌∷◌, length, Some, refl, sym, ◌∙◌, arith}
use Rattle.std.specs.Prelude.{drop, nat_le, slice_get}
use Rattle.std.proofs.lemmas.Bool.{cases_lt, le-leb}
use Rattle.c65_code.specs.declared.line.Line.{Line}
use Rattle.c65_code.specs.declared.line.Sym.{Sym}
use Rattle.c65_code.specs.declared.parts.RegSet.{RegSet}
use Rattle.c65_code.specs.Placement.{Setting}
use Rattle.c65_code.specs.Rewriting.{with_lines}
use Rattle.c65_code.specs.Segments.{IsSegment, closed_by}
use Rattle.c65_know.specs.Known.{annotated}
use Rattle.c65_live_law.specs.Laws.{LiveTablesExist}
use Rattle.c65_live.specs.Tables.{Table, IsLiveTable}
use Rattle.c65_pass.specs.FlowRules.{flow_rule}
use Rattle.c65_pass.specs.Once.{Once, ends, passes, makes, IsGoodOnce}
use Rattle.c65_pass.specs.Passes.{Rewrites, none, more, IsGood, IsTableFor}
use Rattle.c65_pass.specs.Rewriting.{Rewriting, rewritten}
use Rattle.c65_pass.specs.Rules.{made_by, match_there, match_at}
use Rattle.c65_opt_law_chains.specs.Laws.{FollowingUntilEndComposes}
use Rattle.c65_opt_law_follow.specs.Laws.{AreByteLines, IsSound, IsApt}
use Rattle.c65_opt_law_whole.specs.Laws.{IsCodeWith, RuleServes, RuleKeepsBytes, IsMadeOf}
use Rattle.c65_opt_law_whole.proofs.Followed.{followed_itself, followed_in, followed_on}

-- ---- what new lines keep

apt_with : (s : Setting) (f : ℕ) (out : RegSet) (lines new : List Line) → IsApt f out (with_lines s f lines) → IsSound new → IsApt f out (with_lines s f new)
apt_with s f out lines new apt sound = record { gives = apt.gives; low = apt.low; own = apt.own; sound = λ g. pick g (g == f) (apt.sound g) }
  where
    pick : (g : ℕ) (b : Bool) → IsSound (if b then lines else s.lines g) → IsSound (if b then new else s.lines g)
    pick g true h = sound
    pick g false h = h

pub has_line : (lines : List Line) → IsTrue (closed_by false lines) → 1 ≤ length lines
has_line [] h = absurd (let e : false ≡ true = h in cc)
has_line (line ∷ lines) h = omega arith

-- the rules on jumps do not ask what is live
flow_at : (rule : ℕ) (literals : List (Sym × List ℕ)) (lines : List Line) (out : RegSet) (one other : Table) (at : ℕ) → rule ≤ 9 → match_at rule literals (annotated lines out) one at ≡ match_at rule literals (annotated lines out) other at
flow_at rule literals lines out one other at le = go (drop at lines)
  where
    first : nat_le rule 9 ≡ true
    first = le-leb rule 9 le

    line_made : (table : Table) (line : Line) (post : List Line) → made_by rule literals (annotated lines out) table at line post ≡ flow_rule rule lines (slice_get (annotated lines out).notes at) at line post
    line_made table line post = rw first refl

    go : (rest : List Line) → match_there rule literals (annotated lines out) one at rest ≡ match_there rule literals (annotated lines out) other at rest
    go [] = refl
    go (line ∷ post) = line_made one line post ∙ sym (line_made other line post)

-- what is made of such lines is followed in each code with the old ones
pub code_with : (literals : List (Sym × List ℕ)) (f : ℕ) (out : RegSet) (old new : List Line) → IsSound new → (s : Setting) → IsCodeWith literals f out old s → IsCodeWith literals f out new s
code_with literals f out old new sound s is = record { literal_bytes = is.literal_bytes; apt = apt_with s f out old new is.apt sound }

module _ (composes : FollowingUntilEndComposes) (literals : List (Sym × List ℕ)) (f main : ℕ) (out : RegSet) where
  pub itself_made : (old : List Line) → IsSegment old → AreByteLines old → IsMadeOf literals f main out old old
  itself_made old segment bytes = record { segment = segment; sound = record { fit = segment.fit; bytes = bytes }; followed = followed_itself (IsCodeWith literals f out old) f main old }

  pub made_on : (old lines new : List Line) → IsMadeOf literals f main out old lines → IsMadeOf literals f main out lines new → IsMadeOf literals f main out old new
  made_on old lines new h k = record {
    segment = k.segment;
    sound = k.sound;
    followed = followed_on composes (IsCodeWith literals f out old) f main old lines new h.followed
        (followed_in (IsCodeWith literals f out lines) (IsCodeWith literals f out old) (code_with literals f out old lines h.sound) f main lines new k.followed);
  }

module _ (tables : LiveTablesExist) (composes : FollowingUntilEndComposes) (rule : ℕ) (literals : List (Sym × List ℕ)) (serves : RuleServes literals rule) (keeps : RuleKeepsBytes literals rule) (f main : ℕ) (out : RegSet) where
  -- a table with which the rule matches as it did
  table_for : (lines : List Line) (table : Table) (at : ℕ) (w : Rewriting) → IsTableFor rule (annotated lines out) table → match_at rule literals (annotated lines out) table at ≡ Some w
      → (t : Table) × IsLiveTable lines out t × (match_at rule literals (annotated lines out) t at ≡ Some w)
  table_for lines table at w is m = pick (cases_lt 9 rule)
    where
      pick : (9 < rule) ⊎ (rule ≤ 9) → (t : Table) × IsLiveTable lines out t × (match_at rule literals (annotated lines out) t at ≡ Some w)
      pick (inl asks) = (table, is asks, m)
      pick (inr le) = let t = tables lines out in (t.0, t.1, flow_at rule literals lines out t.0 table at le ∙ m)

  one_more : (old lines : List Line) (table : Table) (at : ℕ) (w : Rewriting) → IsMadeOf literals f main out old lines → IsTableFor rule (annotated lines out) table
      → match_at rule literals (annotated lines out) table at ≡ Some w → IsSegment (rewritten lines w) → IsMadeOf literals f main out old (rewritten lines w)
  one_more old lines table at w made is m segment =
      let t = table_for lines table at w is m in
      let sound : IsSound (rewritten lines w) = record { fit = segment.fit; bytes = keeps out lines t.0 at w made.sound.bytes t.2 } in
      made_on composes literals f main out old lines (rewritten lines w) made
      (record { segment = segment; sound = sound; followed = serves f main out lines t.0 at w made.segment t.1 t.2 sound (has_line (rewritten lines w) segment.closed) })

  pub rewrites_made : IsGood rule literals → (old : List Line) (n : ℕ) (new : List Line) → IsSegment old → AreByteLines old → Rewrites rule literals out old n new → IsMadeOf literals f main out old new
  rewrites_made good old _ _ segment bytes none = itself_made composes literals f main out old segment bytes
  rewrites_made good old _ _ segment bytes (more {lines = lines} {w = w} table at before is m) =
      let made = rewrites_made good old _ lines segment bytes before in
      one_more old lines table at w made is m (good (annotated lines out) table at w made.segment refl is m).segment

  walk_made : IsGoodOnce rule literals → (old new lines : List Line) (at n : ℕ) → IsMadeOf literals f main out old lines → Once rule literals out new at lines n → IsMadeOf literals f main out old new
  walk_made good old new _ _ _ made (ends past) = made
  walk_made good old new _ _ _ made (passes {at = at} {n = n} {lines = lines} table within is nowhere rest) = walk_made good old new lines (at + 1) n made rest
  walk_made good old new _ _ _ made (makes {at = at} {n = n} {lines = lines} {w = w} table is m rest) =
      walk_made good old new (rewritten lines w) (w.at + length w.lines) n (one_more old lines table at w made (λ asks. is) m (good (annotated lines out) table at w made.segment refl is m).segment) rest

  pub walked : IsGoodOnce rule literals → (old : List Line) (n : ℕ) (new : List Line) → IsSegment old → AreByteLines old → Once rule literals out new 0 old n → IsMadeOf literals f main out old new
  walked good old n new segment bytes walk = walk_made good old new old 0 n (itself_made composes literals f main out old segment bytes) walk
