-- Calls of the library's functions that read texts.
use Rattle.c65_base.specs.declared.library.Library.TheVariants.{Puts, Strcmp, Strlen}
use Rattle.c65_agree_library.specs.Calls.{CallsAreFollowed}

-- the length of a text (C90 7.11.6.3)
abbrev pub StrlenIsFollowed : Type 0
StrlenIsFollowed = CallsAreFollowed Strlen

-- a line is written (C90 7.9.7.10)
abbrev pub PutsIsFollowed : Type 0
PutsIsFollowed = CallsAreFollowed Puts

-- two texts are compared (C90 7.11.4.2)
abbrev pub StrcmpIsFollowed : Type 0
StrcmpIsFollowed = CallsAreFollowed Strcmp
