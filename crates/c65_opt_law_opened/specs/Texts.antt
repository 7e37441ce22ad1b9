-- Lines that do what a call of a function of the library does, with arguments that are known.
use Rattle.std.specs.Prelude.{◌≡◌, ℕ, List, [], ◌∷◌, Some}
use Rattle.c65_base.specs.declared.library.Library.{Library}
use Rattle.c65_base.specs.declared.options.Options.{Options}
use Rattle.c65_code.specs.declared.line.Line.{Line}
use Rattle.c65_code.specs.declared.line.Sym.{Sym}
use Rattle.c65_code.specs.declared.parts.RegSet.{RegSet}
use Rattle.c65_code.specs.declared.routine.Routine.TheVariants as routines
use Rattle.c65_code.specs.Rewriting.{HasLiterals}
use Rattle.c65_code.specs.Placement.{Setting}
use Rattle.c65_pass.specs.KnownCalls.{call_known}
use Rattle.c65_pass.specs.StackRules.{call_of, word_loaded}
use Rattle.c65_opt_law_near.specs.Laws.{IsLow}
use Rattle.c65_opt_law_follow.specs.Windows.{WayOut, Justified}
use Rattle.c65_opt_law_whole.specs.Laws.{CallsServe, RuleServes}

-- Where literals stand at their addresses and stay as they are, the lines that are known for a function of the library may stand for two loads of a word
-- and its call, whatever is live behind them and with nothing known before them.
abbrev pub KnownStands : Library → Type 0
KnownStands f = (s : Setting) (literals : List (Sym × List ℕ)) → IsLow s.place → HasLiterals literals s.place → (one other : Line) (lines : List Line)
    → call_known literals f one other (word_loaded one other) ≡ Some lines → (to : WayOut → ℕ) (after : WayOut → RegSet)
    → Justified s to after (λ t. Unit {0}) (one ∷ other ∷ call_of (routines.Library f) ∷ []) lines

-- Where calls of functions of the library are opened in lines of a function, each code with the lines in which these literals stand at
-- their addresses follows the code with the calls.
abbrev pub LibraryServes : Type 0
LibraryServes = (literals : List (Sym × List ℕ)) → RuleServes literals 40

-- So the rules that open calls serve, whichever the options ask for.
abbrev pub OpenedCallsServe : Type 0
OpenedCallsServe = (options : Options) (literals : List (Sym × List ℕ)) → CallsServe options literals
