-- What the optimiser makes of the lines of a function.
use Rattle.std.proofs.Common.{◌≡◌, ℕ, Bool, true, false, List, [], ◌∷◌, refl, sym, subst}
use Rattle.std.specs.Prelude.{All}
use Rattle.std.proofs.lemmas.List.Elements.{All-head, All-tail}
use Rattle.c65_base.specs.declared.options.Options.{Options}
use Rattle.c65_code.specs.declared.line.Line.{Line}
use Rattle.c65_code.specs.declared.line.Line.TheVariants.{Do}
use Rattle.c65_code.specs.declared.line.Operand.TheVariants.{Byte}
use Rattle.c65_code.specs.declared.line.Sym.{Sym}
use Rattle.c65_code.specs.declared.parts.RegSet.{RegSet}
use Rattle.c65_code.specs.Placement.{Placement}
use Rattle.c65_code.specs.Rewriting.{HasLiterals}
use Rattle.c65_code.specs.Segments.{Segment, IsSegment}
use Rattle.c65_live_law.specs.Laws.{LiveTablesExist}
use Rattle.c65_optimise.specs.Optimised.{HasByte, IsRuleFor, IsRewritten}
use Rattle.c65_optlib.specs.Library.{OnceIf}
use Rattle.c65_pass.specs.Once.{IsGoodOnce}
use Rattle.c65_pass.specs.Passes.{IsGood}
use Rattle.c65_pass.specs.Rounds.{RulesRewrite, none, by}
use Rattle.c65_opt_law_straight.specs.Laws.{IsByteLine}
use Rattle.c65_opt_law_chains.specs.Laws.{FollowingUntilEndComposes}
use Rattle.c65_opt_law_follow.specs.Laws.{AreByteLines}
use Rattle.c65_opt_law_whole.specs.Laws.{IsCodeWith, RuleServes, RuleKeepsBytes, IsMadeOf, CallsServe}
use Rattle.c65_opt_law_whole.proofs.Followed.{followed_in}
use Rattle.c65_opt_law_whole.proofs.Made.{itself_made, made_on, rewrites_made, walked}

-- what each rule that is run gives, and each that opens calls
pub record AreRulesGood (options : Options) : Type 0 where
  pub tables : LiveTablesExist
  pub composes : FollowingUntilEndComposes
  pub serve : (rule : ℕ) → IsRuleFor options.cpu rule → RuleServes [] rule
  pub bytes : (rule : ℕ) → IsRuleFor options.cpu rule → RuleKeepsBytes [] rule
  pub good : (rule : ℕ) → IsRuleFor options.cpu rule → IsGood rule []
  pub routines : (literals : List (Sym × List ℕ)) → IsGoodOnce 39 literals
  pub library : (literals : List (Sym × List ℕ)) → IsGoodOnce 40 literals
  pub routine_bytes : (literals : List (Sym × List ℕ)) → RuleKeepsBytes literals 39
  pub library_bytes : (literals : List (Sym × List ℕ)) → RuleKeepsBytes literals 40

-- lines whose numbers are bytes
byte_line : (line : Line) → HasByte line → IsByteLine line
byte_line (Do op mode (Byte v)) h = h
byte_line _ h = tt

pub byte_lines : (ls : List Line) → All HasByte ls → AreByteLines ls
byte_lines [] h = tt
byte_lines (line ∷ ls) h = (byte_line line (All-head HasByte line ls h), byte_lines ls (All-tail HasByte line ls h))

-- no literals stand anywhere
none_stand : (place : Placement) → HasLiterals [] place
none_stand place i k v literal there byte = absurd cc

module _ (options : Options) (rules : AreRulesGood options) (literals : List (Sym × List ℕ)) (f main : ℕ) (out : RegSet) where
  rules_made : (old : List Line) (n : ℕ) (new : List Line) → IsSegment old → AreByteLines old → RulesRewrite (IsRuleFor options.cpu) out old n new → IsMadeOf [] f main out old new
  rules_made old _ _ segment bytes none = itself_made rules.composes [] f main out old segment bytes
  rules_made old _ _ segment bytes (by {m = m} {lines = lines} {new = new} rule is before rewrites) =
      let made = rules_made old _ lines segment bytes before in
      made_on rules.composes [] f main out old lines new made
      (rewrites_made rules.tables rules.composes rule [] (rules.serve rule is) (rules.bytes rule is) f main out (rules.good rule is) lines m new made.segment made.sound.bytes rewrites)

  -- what is made with no literals is made with these
  made_with : (old new : List Line) → IsMadeOf [] f main out old new → IsMadeOf literals f main out old new
  made_with old new h = record {
    segment = h.segment;
    sound = h.sound;
    followed = followed_in (IsCodeWith [] f out old) (IsCodeWith literals f out old) (λ s is. record { literal_bytes = none_stand s.place; apt = is.apt }) f main old new h.followed;
  }

  walk_if : (asked : Bool) (rule : ℕ) → (asked ≡ true → RuleServes literals rule) → RuleKeepsBytes literals rule → IsGoodOnce rule literals → (old new : List Line) (n : ℕ)
      → IsSegment old → AreByteLines old → OnceIf asked rule literals out old new n → IsMadeOf literals f main out old new
  walk_if true rule serves keeps good old new n segment bytes walk = walked rules.tables rules.composes rule literals (serves refl) keeps f main out good old n new segment bytes walk
  walk_if false rule serves keeps good old new n segment bytes same = subst (IsMadeOf literals f main out old) (sym same.0) (itself_made rules.composes literals f main out old segment bytes)

  pub function_made : CallsServe options literals → (old new : Segment) → old.out ≡ out → IsRewritten options literals old new → IsMadeOf literals f main out old.lines new.lines
  function_made calls old new gives r =
      let walks = r.once.1 in
      let first = walk_if options.inline_more 39 calls.routines (rules.routine_bytes literals) (rules.routines literals) old.lines walks.between walks.first r.segment (byte_lines old.lines r.bytes)
      (subst (λ (o : RegSet). OnceIf options.inline_more 39 literals o old.lines walks.between walks.first) gives walks.opened) in
      let second = walk_if options.known_functions 40 calls.library (rules.library_bytes literals) (rules.library literals) walks.between r.opened walks.second first.segment first.sound.bytes
      (subst (λ (o : RegSet). OnceIf options.known_functions 40 literals o walks.between r.opened walks.second) gives walks.known_ones) in
      let last = rules_made r.opened r.chain.0 new.lines second.segment second.sound.bytes (subst (λ (o : RegSet). RulesRewrite (IsRuleFor options.cpu) o r.opened r.chain.0 new.lines) gives r.chain.1) in
      made_on rules.composes literals f main out old.lines walks.between new.lines first
      (made_on rules.composes literals f main out walks.between r.opened new.lines second (made_with r.opened new.lines last))
