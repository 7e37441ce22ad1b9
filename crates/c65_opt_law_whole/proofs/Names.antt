-- What the optimiser makes of a code names nothing else.
use Rattle.std.proofs.Common.{◌≡◌, ℕ, zero, suc, Bool, true, false, List, [], ◌∷◌, ◌+◌, length, Some, refl, sym, subst, ap, ◌∙◌}
use Rattle.std.specs.Prelude.{slice_get}
use Rattle.c65_base.specs.declared.options.Options.{Options}
use Rattle.c65_code.specs.declared.code.Code.{Code}
use Rattle.c65_code.specs.declared.code.Datum.{Datum}
use Rattle.c65_code.specs.declared.line.Line.{Line}
use Rattle.c65_code.specs.declared.line.Sym.{Sym}
use Rattle.c65_code.specs.declared.parts.RegSet.{RegSet}
use Rattle.c65_code.specs.Literals.{literals_of}
use Rattle.c65_code.specs.Named.{IsNamed, function, datum, by_line, by_cell}
use Rattle.c65_code.specs.Segments.{Segment}
use Rattle.c65_optimise.specs.Optimised.{IsRuleFor, IsRewritten, AreRewritten, IsOptimised}
use Rattle.c65_optlib.specs.Library.{OnceIf}
use Rattle.c65_pass.specs.Once.{Once, ends, passes, makes}
use Rattle.c65_pass.specs.Passes.{Rewrites, none, more}
use Rattle.c65_pass.specs.Rewriting.{rewritten}
use Rattle.c65_pass.specs.Rounds.{RulesRewrite}
use Rattle.c65_pass.specs.Rounds as rounds
use Rattle.c65_opt_law_whole.specs.Laws.{OptimisedNamesNothing}
use Rattle.c65_opt_law_whole.proofs.Calls.{makes_39, makes_40}
use Rattle.c65_opt_law_whole.proofs.Copies.{IsOfOperands, Each, Makes, each_rewritten}
use Rattle.c65_opt_law_whole.proofs.Kept.{NamesIn, names_of_operands}
use Rattle.c65_opt_law_whole.proofs.Ranges.{makes_all}

each_at : (P : Line → Type 0) (lines : List Line) (k : ℕ) (l : Line) → Each P lines → slice_get lines k ≡ Some l → P l
each_at P [] k l h e = absurd cc
each_at P (line ∷ lines) zero l h e = let same : line ≡ l = cc in subst P same h.0
each_at P (line ∷ lines) (suc k) l h e = each_at P lines k l h.1 e

each_of : (P : Line → Type 0) (lines : List Line) → ((k : ℕ) (l : Line) → slice_get lines k ≡ Some l → P l) → Each P lines
each_of P [] h = tt
each_of P (line ∷ lines) h = (h 0 line refl, each_of P lines (λ k l e. h (suc k) l e))

module _ (P : Line → Type 0) (out : RegSet) where
  rewrites_each : (rule : ℕ) (literals : List (Sym × List ℕ)) → Makes P rule → (old : List Line) (n : ℕ) (new : List Line) → Rewrites rule literals out old n new → Each P old → Each P new
  rewrites_each rule literals puts old _ _ none h = h
  rewrites_each rule literals puts old _ _ (more {n = n} {lines = lines} {w = w} table at before is m) h =
      let k = rewrites_each rule literals puts old n lines before h in
      each_rewritten P lines w k (puts literals out lines table at w k m)

  walk_each : (rule : ℕ) (literals : List (Sym × List ℕ)) → Makes P rule → (new lines : List Line) (at n : ℕ) → Once rule literals out new at lines n → Each P lines → Each P new
  walk_each rule literals puts new _ _ _ (ends past) h = h
  walk_each rule literals puts new _ _ _ (passes {at = at} {n = n} {lines = lines} table within is nowhere rest) h = walk_each rule literals puts new lines (at + 1) n rest h
  walk_each rule literals puts new _ _ _ (makes {at = at} {n = n} {lines = lines} {w = w} table is m rest) h =
      walk_each rule literals puts new (rewritten lines w) (w.at + length w.lines) n rest (each_rewritten P lines w h (puts literals out lines table at w h m))

  walk_if : (asked : Bool) (rule : ℕ) (literals : List (Sym × List ℕ)) → Makes P rule → (old new : List Line) (n : ℕ) → OnceIf asked rule literals out old new n → Each P old → Each P new
  walk_if true rule literals puts old new n walk h = walk_each rule literals puts new old 0 n walk h
  walk_if false rule literals puts old new n same h = subst (Each P) (sym same.0) h

  rules_each : (among : ℕ → Type 0) → ((rule : ℕ) → among rule → Makes P rule) → (old : List Line) (n : ℕ) (new : List Line) → RulesRewrite among out old n new → Each P old → Each P new
  rules_each among puts old _ _ rounds.none h = h
  rules_each among puts old _ _ (rounds.by {n = n} {m = m} {lines = lines} {new = new} rule is before rewrites) h =
      rewrites_each rule [] (puts rule is) lines m new rewrites (rules_each among puts old n lines before h)

module _ (options : Options) (literals : List (Sym × List ℕ)) where
  function_each : (P : Line → Type 0) → IsOfOperands P → (old new : Segment) → IsRewritten options literals old new → Each P old.lines → Each P new.lines
  function_each P is old new r h =
      let walks = r.once.1 in
      let first = walk_if P old.out options.inline_more 39 literals (makes_39 P is) old.lines walks.between walks.first walks.opened h in
      let second = walk_if P old.out options.known_functions 40 literals (makes_40 P is) walks.between r.opened walks.second walks.known_ones first in
      rules_each P old.out (IsRuleFor options.cpu) (makes_all P is options.cpu) r.opened r.chain.0 new.lines r.chain.1 second

  -- the function from which one comes
  before : (fs gs : List (Sym × Segment)) (i : ℕ) (g : Sym × Segment) → AreRewritten options literals fs gs → slice_get gs i ≡ Some g → (f : Sym × Segment) × (slice_get fs i ≡ Some f) × (g.0 ≡ f.0) × IsRewritten options literals f.1 g.1
  before [] [] i g r e = absurd cc
  before [] (h ∷ gs) i g r e = absurd r
  before (f ∷ fs) [] i g r e = absurd r
  before (f ∷ fs) (h ∷ gs) zero g ((named, one), rest) e =
      let same : h ≡ g = cc in
      (f, refl, subst (λ (x : Sym × Segment). x.0 ≡ f.0) same named, subst (λ (x : Sym × Segment). IsRewritten options literals f.1 x.1) same one)
  before (f ∷ fs) (h ∷ gs) (suc i) g ((named, one), rest) e = before fs gs i g rest e

named_by : (options : Options) (old new : Code) → IsOptimised options old new → (f : ℕ) → IsNamed new f → IsNamed old f
named_by options old new o f (function i g e is) =
    let b = before options (literals_of old.symbols old.datums) old.functions new.functions i g o.functions e in
    function i b.0 b.1 (sym (ap (λ (s : Sym). s.0) b.2) ∙ is)
named_by options old new o f (datum i d e is) = datum i d (subst (λ (ds : List Datum). slice_get ds i ≡ Some d) o.datums e) is
named_by options old new o f (by_line i k g l e at names) =
    let b = before options (literals_of old.symbols old.datums) old.functions new.functions i g o.functions e in
    let lines = each_of (NamesIn (IsNamed old)) b.0.1.lines (λ j line there n says. by_line i j b.0 line b.1 there says) in
    each_at (NamesIn (IsNamed old)) g.1.lines k l (function_each options (literals_of old.symbols old.datums) (NamesIn (IsNamed old)) (names_of_operands (IsNamed old)) b.0.1 g.1 b.3 lines) at f names
named_by options old new o f (by_cell i k d c e at names) = by_cell i k d c (subst (λ (ds : List Datum). slice_get ds i ≡ Some d) o.datums e) at names

pub names_nothing : OptimisedNamesNothing
names_nothing = named_by
