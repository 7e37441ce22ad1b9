-- Calls of the library's functions, one by one.
use Rattle.c65_base.specs.declared.library.Library.TheVariants.{Exit, Getchar, Putchar}
use Rattle.c65_agree_library.specs.Calls.{CallsAreFollowed}

-- a character is written (C90 7.9.7.9)
abbrev pub PutcharIsFollowed : Type 0
PutcharIsFollowed = CallsAreFollowed Putchar

-- a character is read (C90 7.9.7.6)
abbrev pub GetcharIsFollowed : Type 0
GetcharIsFollowed = CallsAreFollowed Getchar

-- the run ends (C90 7.10.4.3)
abbrev pub ExitIsFollowed : Type 0
ExitIsFollowed = CallsAreFollowed Exit
