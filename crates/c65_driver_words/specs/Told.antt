-- What one word more gives.
use Rattle.std.specs.Prelude.{◌≡◌, ⊤, Bool, true, false, Option, Some, None, Result, Ok, Err}
use Rattle.c65_driver_words.specs.Words.{Told}

-- the words go on so, or they do not
abbrev pub GoesOn : {E : Type 0} → Result Bool E → Told → Option Told → Type 0
GoesOn (Ok true) told more = more ≡ Some told
GoesOn (Ok false) told more = more ≡ None
GoesOn (Err e) told more = ⊤

-- the same where no memory is taken
abbrev pub Tells : Bool → Told → Option Told → Type 0
Tells true told more = more ≡ Some told
Tells false told more = more ≡ None
