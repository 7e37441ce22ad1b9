-- The clause of the tool as it is today.
use Rattle.std.proofs.Common.{◌≡◌, ◌∙◌, ℕ, Bool, true, false, List, Option, Some, None, Result, Ok, ap, sym, subst}
use Rattle.c65_base.specs.declared.options.Options.{Options}
use Rattle.c65_base.specs.declared.refusal.Refusal.{Refusal}
use Rattle.c65_mach.specs.declared.image.Image.{Image}
use Rattle.c65_code.specs.declared.code.Code.{Code}
use Rattle.c65_code.specs.Literals.{literals_of}
use Rattle.c65_csem.specs.Trees.{UnitTy}
use Rattle.c65_csem.specs.declared.items.Parts.{Parts}
use Rattle.c65_csem.specs.Views.{unit_of}
use Rattle.c65_genframe.specs.Modes.{modes_of}
use Rattle.c65_genstmt.specs.Programs.{program_of}
use Rattle.c65_opt_law_whole.specs.Laws.{HasConstantLiterals}
use Rattle.c65_optimise.specs.Optimised.{OptimisedIf, OptimisedBy}
use Rattle.c65_ppline.specs.Relations.{Answers, ◌then◌}
use Rattle.c65_ppdir.specs.Units.{Held}
use Rattle.c65_driver_chain.specs.Front.{programs, IsGood, generated}
use Rattle.c65_driver_words.specs.Commands.{Spelled}
use Rattle.c65_driver_words.specs.Words.{Spelling, Is, NoCommand, spelling_of}
use Rattle.c65_driver_words.specs.declared.command.CommandKind.{CommandKind}
use Rattle.c65_driver_words.specs.declared.command.CommandKind.TheVariants as kinds
use Rattle.c65_commands.specs.Compiled.{IsPrintedAs, IsOfSources, front}
use Rattle.c65_commands.specs.Outside.{Outside}
use Rattle.c65_commands.specs.Tool.{Serves, Performs}
use Rattle.c65_headline.specs.Fronts.{command_of, IsMadeOf}
use Rattle.c65_headline.specs.Lines.{StandsForIf}
use Rattle.c65_headline.specs.Headline.{IsMade, IsMadeBy}
use Rattle.c65_headline.specs.Laws.{HeadlineHoldsToday}
use Rattle.c65_headline.proofs.Grounds.{Grounds}
use Rattle.c65_headline.proofs.Top.{holds}

-- what a code of the front is made of
record Stems (o : Options) (P : Answers ((UnitTy × ℕ) × List (List ℕ))) (code : Code) : Type 0 where
  parts : Parts
  main : ℕ
  names : List (List ℕ)
  front : P (Ok ((unit_of parts, main), names))
  good : IsGood names (unit_of parts) main
  generates : program_of parts main names (modes_of o) ≡ Ok code

stems_by : (P : Answers ((UnitTy × ℕ) × List (List ℕ))) (o : Options) (code : Code) → (P then λ x. generated o x.1 x.0) (Ok code) → Stems o P code
stems_by P o code (x, h, (parts, u, good, g)) =
    let same : ((unit_of parts, x.0.1), x.1) ≡ x = ap (λ (z : UnitTy). let y : (UnitTy × ℕ) × List (List ℕ) = ((z, x.0.1), x.1) in y) u in
    record {
      parts = parts;
      main = x.0.1;
      names = x.1;
      front = subst (λ (y : (UnitTy × ℕ) × List (List ℕ)). P (Ok y)) (sym same) h;
      good = subst (λ (z : UnitTy). IsGood x.1 z x.0.1) (sym u) good;
      generates = g;
    }

-- what the optimiser keeps, and what its lines do
stands_if : Grounds → (asked : Bool) (options : Options) (old new : Code) → HasConstantLiterals old → OptimisedIf asked options old new → StandsForIf asked old new
stands_if grounds false options old new literals e = e
stands_if grounds true options old new literals o = record {
  symbols = o.symbols;
  datums = o.datums;
  main_args = o.main_args;
  defined = grounds.functions options old new o;
  names = grounds.names options old new o;
  follows = λ main. grounds.follows options old new main literals o
      (grounds.calls options (literals_of old.symbols old.datums));
}

made_of : Grounds → (held : Held) (command : Spelled) (code : Code)
    → (c : Code) × (new : Code) × front held command (Ok c) × OptimisedBy command.options c new × IsPrintedAs command.options.cpu new code → IsMadeOf held command code
made_of grounds held command code (c, new, h, w, r) =
    let s : Stems command.options (programs (command_of held command) command.files) c =
    stems_by (programs (command_of held command) command.files) command.options c h in
    record {
      parts = s.parts;
      main = s.main;
      names = s.names;
      front = s.front;
      good = s.good;
      generated = c;
      generates = s.generates;
      rewritten = new;
      rewrites = stands_if grounds command.options.optimise command.options c new (grounds.literals s.parts s.main s.names (modes_of command.options) c s.generates) w;
      printed = r;
    }

from_sources : (grounds : Grounds) (command : Spelled) (old : Outside) (code : Option Code) (answer : Result ℕ Refusal)
    → IsOfSources command old.files.contents code answer → (held : Held) (c : Code) → old.files.contents ≡ Some held → code ≡ Some c → IsMadeOf held command c
from_sources grounds command old None answer s held c told e = absurd (let h : (let x : Option Code = None in x ≡ Some c) = e in cc)
from_sources grounds command old (Some k) answer s held c told e =
    let same : k ≡ c = let h : (let x : Option Code = Some k in x ≡ Some c) = e in cc in
    subst (λ (x : Code). IsMadeOf held command x) same (made_of grounds held command k (s held told))

made_by : (grounds : Grounds) (kind : CommandKind) (command : Spelled) (old new : Outside) (code : Option Code) (image : Option Image) (answer : Result ℕ Refusal)
    → Serves kind command old new code image answer → IsMadeBy kind command old code
made_by grounds kinds.Go command old new code image answer s = λ held c told e. from_sources grounds command old code answer s.from_files held c told e
made_by grounds kinds.Build command old new code image answer s = λ held c told e. from_sources grounds command old code answer s.builds.from_files held c told e
made_by grounds kinds.Text command old new code image answer s = λ held c told e. from_sources grounds command old code answer s.texts.from_files held c told e
made_by grounds kinds.Run command old new code image answer s = λ held c told e. absurd (let h : (let x : Option Code = None in x ≡ Some c) = sym s.no_code ∙ e in cc)
made_by grounds kinds.Gen command old new code image answer s = tt
made_by grounds kinds.Depth command old new code image answer s = λ held c told e. absurd (let h : (let x : Option Code = None in x ≡ Some c) = sym s.no_code ∙ e in cc)

made_today : (grounds : Grounds) (spelling : Spelling) (old new : Outside) (code : Option Code) (image : Option Image) (answer : Result ℕ Refusal)
    → Performs spelling old new code image answer → IsMade spelling old code
made_today grounds (NoCommand word) old new code image answer s = tt
made_today grounds (Is command) old new code image answer s = made_by grounds command.kind command old new code image answer s

pub holds_today : Grounds → HeadlineHoldsToday
holds_today grounds laws words old new code image answer bytes s =
    holds grounds laws words old new code image answer bytes s (made_today grounds (spelling_of words) old new code image answer s)
