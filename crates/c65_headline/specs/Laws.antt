-- The main theorem, from the laws that are left.
use Rattle.std.specs.Prelude.{ℕ, List, All, Option, Result}
use Rattle.c65_base.specs.declared.refusal.Refusal.{Refusal}
use Rattle.c65_mach.specs.declared.image.Image.{Image}
use Rattle.c65_code.specs.declared.code.Code.{Code}
use Rattle.c65_driver_words.specs.Words.{spelling_of}
use Rattle.c65_commands.specs.Outside.{Outside}
use Rattle.c65_commands.specs.Tool.{Performs}
use Rattle.c65_headline.specs.Images.{AreBytes}
use Rattle.c65_headline.specs.Planned.{ProgramsAgree}
use Rattle.c65_headline.specs.Headline.{IsMade, Headline}

-- What is not proved yet. Each field is a law of the crate that it names; docs/LADDER.md has them as a table.
pub record Laws : Type 0 where
  -- The lines of a good program's code, at every placement, show what its meaning shows, within 4,000 for each step and the start,
  -- and with a line reached for each turn: the simulation, a law above c65_genstmt.
  pub lines : ProgramsAgree

-- From what is left, what the tool's clause says of words, and how the code was made, the main theorem follows.
abbrev pub HeadlineHolds : Type 0
HeadlineHolds = Laws
    → (words : List (List ℕ)) (old new : Outside) (code : Option Code) (image : Option Image) (answer : Result ℕ Refusal) → All AreBytes words
    → Performs (spelling_of words) old new code image answer → IsMade (spelling_of words) old code → Headline (spelling_of words) old new code image answer

-- The tool's clause says how the code was made: so it alone is enough.
abbrev pub HeadlineHoldsToday : Type 0
HeadlineHoldsToday = Laws
    → (words : List (List ℕ)) (old new : Outside) (code : Option Code) (image : Option Image) (answer : Result ℕ Refusal) → All AreBytes words
    → Performs (spelling_of words) old new code image answer → Headline (spelling_of words) old new code image answer
