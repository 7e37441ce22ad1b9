-- The whole optimiser, from what each rule makes.
use Rattle.std.proofs.Common.{ℕ, List, []}
use Rattle.c65_base.specs.declared.options.Cpu.{Cpu}
use Rattle.c65_code.specs.declared.line.Sym.{Sym}
use Rattle.c65_code.specs.Rewriting.{with_lines, mapped_in}
use Rattle.c65_live_law.specs.Laws.{LiveTablesExist}
use Rattle.c65_optimise.specs.Optimised.{IsRuleFor}
use Rattle.c65_pass.specs.Once.{IsGoodOnce}
use Rattle.c65_pass.specs.Passes.{IsGood}
use Rattle.c65_pass.specs.Rewriting.{rewritten}
use Rattle.c65_opt_law_straight.specs.Laws.{IsByteLine}
use Rattle.c65_opt_law_kept.specs.Laws.{RuleIsFollowed}
use Rattle.c65_opt_law_chains.specs.Laws.{RuleIsFollowedUntilEnd, FollowingHolds, FollowingUntilEndComposes}
use Rattle.c65_opt_law_follow.specs.Laws.{IsApt}
use Rattle.c65_opt_law_whole.specs.Laws.{IsCodeWith, RuleServes, OptimisedIsFollowed}
use Rattle.c65_opt_law_whole.proofs.Calls.{makes_39, makes_40}
use Rattle.c65_opt_law_whole.proofs.Codes.{code_followed}
use Rattle.c65_opt_law_whole.proofs.Followed.{followed_in}
use Rattle.c65_opt_law_whole.proofs.Functions.{AreRulesGood}
use Rattle.c65_opt_law_whole.proofs.Kept.{bytes_of_operands, keeps_bytes}
use Rattle.c65_opt_law_whole.proofs.Ranges.{makes_all}

-- what is followed is so until the end
pub until : FollowingHolds → (rule : ℕ) → RuleIsFollowed rule → RuleIsFollowedUntilEnd rule
until holds rule law f main out literals lines table at w segment live m sound some =
    let x = law f main out literals lines table at w segment live m sound some in
    record { map = x.map; more = x.more; follows = λ s apt. holds (mapped_in f x.map) x.more (with_lines s f lines) (with_lines s f (rewritten lines w)) main (x.follows s apt) }

serves : (literals : List (Sym × List ℕ)) (rule : ℕ) → RuleIsFollowedUntilEnd rule → RuleServes literals rule
serves literals rule law f main out lines table at w segment live m sound some =
    followed_in (λ s. IsApt f out (with_lines s f lines)) (IsCodeWith literals f out lines) (λ s is. is.apt) f main lines (rewritten lines w) (law f main out literals lines table at w segment live m sound some)

pub optimised_followed : LiveTablesExist → FollowingUntilEndComposes → ((cpu : Cpu) (rule : ℕ) → IsRuleFor cpu rule → RuleIsFollowedUntilEnd rule) → ((cpu : Cpu) (rule : ℕ) → IsRuleFor cpu rule → IsGood rule [])
    → ((literals : List (Sym × List ℕ)) → IsGoodOnce 39 literals) → ((literals : List (Sym × List ℕ)) → IsGoodOnce 40 literals) → OptimisedIsFollowed
optimised_followed tables composes followed good routines library options old new main constant o calls = code_followed options rules old new main constant o calls
  where
    rules : AreRulesGood options
    rules = record {
      tables = tables;
      composes = composes;
      serve = λ rule is. serves [] rule (followed options.cpu rule is);
      bytes = λ rule is. keeps_bytes [] rule (makes_all IsByteLine bytes_of_operands options.cpu rule is);
      good = good options.cpu;
      routines = routines;
      library = library;
      routine_bytes = λ literals. keeps_bytes literals 39 (makes_39 IsByteLine bytes_of_operands);
      library_bytes = λ literals. keeps_bytes literals 40 (makes_40 IsByteLine bytes_of_operands);
    }
