-- Feeding line after line comes to feeding all at once.
use Rattle.std.proofs.Common.{◌≡◌, ◌∙◌, ℕ, List, [], ◌∷◌, ◌++◌, refl, sym, ap, subst, append_assoc}
use Rattle.c65_base.specs.declared.refusal.Refusal.{Refusal}
use Rattle.c65_base.specs.declared.refusal.Refusal.TheVariants as refusals
use Rattle.c65_base.specs.Answers.{Fault, at, large}
use Rattle.c65_lex.specs.declared.token.PpToken.{PpToken}
use Rattle.c65_macro.specs.declared.feeding.Expander.{Expander}
use Rattle.c65_macro.specs.declared.sets.Node.{Node}
use Rattle.c65_macro.specs.Table.{Table}
use Rattle.c65_macro.specs.Sets.{Extends}
use Rattle.c65_macro.specs.Feeding.{Faults, Gives, Feeds, Refuses, Rejects}
use Rattle.c65_macro.proofs.HideSets.{extends_same, extends_trans}
use Rattle.c65_macro.proofs.Fed.{whole_expands, whole_rejected, whole_ends}
use Rattle.c65_macro_law.specs.Fed.{whole, AreFed, LinesAreFedAsOne, FedLinesExpand, FedLinesAreRefused, FedLinesEndRefused}

-- nothing is fed
fed_nothing : (table : Table) (names known : List (List ℕ)) (old new : Expander) (out : List PpToken) → out ≡ [] → known ≡ names → new ≡ old → Feeds table names old [] out known new
fed_nothing table names known old new out o k n =
    record {
      sets = subst (λ (e : Expander). Extends old.sets e.sets) (sym n) (extends_same old.sets);
      gives = λ nodes x more last end g.
          subst (λ (ts : List PpToken). Gives nodes table names old more (ts ++ last) end) (sym o)
          (subst (λ (ns : List (List ℕ)). Gives nodes table ns old more last end) k (subst (λ (e : Expander). Gives nodes table known e more last end) n g));
      faults = λ nodes x more fault g. subst (λ (ns : List (List ℕ)). Faults nodes table ns old more fault) k (subst (λ (e : Expander). Faults nodes table known e more fault) n g);
    }

-- two lines, one after the other
fed_both : (table : Table) (names between known : List (List ℕ)) (old mid new : Expander) (line lines came more : List PpToken) → Feeds table names old line came between mid → Feeds table between mid lines more known new → Feeds table names old (line ++ lines) (came ++ more) known new
fed_both table names between known old mid new line lines came more f g =
    record {
      sets = extends_trans old.sets mid.sets new.sets f.sets g.sets;
      gives = λ nodes x after last end h.
          let a = f.gives nodes (extends_trans mid.sets new.sets nodes g.sets x) (lines ++ after) (more ++ last) end (g.gives nodes x after last end h) in
          subst (λ (out : List PpToken). Gives nodes table names old ((line ++ lines) ++ after) out end) (sym (append_assoc came more last))
          (subst (λ (ts : List PpToken). Gives nodes table names old ts (came ++ (more ++ last)) end) (sym (append_assoc line lines after)) a);
      faults = λ nodes x after fault h.
          let a = f.faults nodes (extends_trans mid.sets new.sets nodes g.sets x) (lines ++ after) fault (g.faults nodes x after fault h) in
          subst (λ (ts : List PpToken). Faults nodes table names old ts fault) (sym (append_assoc line lines after)) a;
    }

pub fed_as_one : LinesAreFedAsOne
fed_as_one table names known old new [] out (o, k, n) = fed_nothing table names known old new out o k n
fed_as_one table names known old new (line ∷ lines) out (came, more, between, mid, f, rest, o) =
    subst (λ (ts : List PpToken). Feeds table names old (line ++ whole lines) ts known new) (sym o)
    (fed_both table names between known old mid new line (whole lines) came more f (fed_as_one table between known mid new lines more rest))

pub expand : FedLinesExpand
expand table names known end start new lines out last h fed e = whole_expands table names known end start (whole lines) out (out ++ last) last new h (fed_as_one table names known start new lines out fed) refl e

-- a refusal behind a line that was fed
refuses_behind : (nodes : List Node) (table : Table) (names known : List (List ℕ)) (old new : Expander) (line came more : List PpToken) (e : Refusal) → Extends new.sets nodes → Feeds table names old line came known new → Refuses e nodes table known new more → Refuses e nodes table names old (line ++ more)
refuses_behind nodes table names known old new line came more refusals.OutOfMemory x f r = tt
refuses_behind nodes table names known old new line came more (refusals.At code pos) x f r = f.faults nodes x more (at code pos) r
refuses_behind nodes table names known old new line came more (refusals.TooLarge limit value) x f r = f.faults nodes x more (large limit value) r
refuses_behind nodes table names known old new line came more _ x f r = absurd r

rejected_behind : (table : Table) (names known : List (List ℕ)) (old new : Expander) (lines came line after : List PpToken) (e : Refusal) → Feeds table names old lines came known new → Rejects table known new line e → Rejects table names old (lines ++ (line ++ after)) e
rejected_behind table names known old new lines came line after e f (nodes, x, r) = (
  nodes,
  extends_trans old.sets new.sets nodes f.sets x,
  λ more.
      let a : Refuses e nodes table names old (lines ++ (line ++ (after ++ more))) = refuses_behind nodes table names known old new lines came (line ++ (after ++ more)) e x f (r (after ++ more)) in
      subst (λ (ts : List PpToken). Refuses e nodes table names old ts) (sym (append_assoc lines (line ++ after) more ∙ ap (λ (ts : List PpToken). lines ++ ts) (append_assoc line after more))) a,
)

pub are_refused : FedLinesAreRefused
are_refused table names known start new lines out line more e h fed r =
    whole_rejected table names start (whole lines ++ (line ++ more)) e h (rejected_behind table names known start new (whole lines) out line more e (fed_as_one table names known start new lines out fed) r)

pub end_refused : FedLinesEndRefused
end_refused table names known start new lines out e h fed r = whole_ends table names known start (whole lines) out new e h (fed_as_one table names known start new lines out fed) r
