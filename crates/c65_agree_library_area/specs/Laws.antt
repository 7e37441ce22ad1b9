-- Calls of the library's functions that write memory.
use Rattle.c65_base.specs.declared.library.Library.TheVariants.{Memcpy, Memset, Strcpy}
use Rattle.c65_agree_library.specs.Calls.{CallsAreFollowed}

-- bytes are filled (C90 7.11.6.1)
abbrev pub MemsetIsFollowed : Type 0
MemsetIsFollowed = CallsAreFollowed Memset

-- bytes are copied (C90 7.11.2.1)
abbrev pub MemcpyIsFollowed : Type 0
MemcpyIsFollowed = CallsAreFollowed Memcpy

-- a text is copied (C90 7.11.2.3)
abbrev pub StrcpyIsFollowed : Type 0
StrcpyIsFollowed = CallsAreFollowed Strcpy
