-- What reading the front of a file gives.
use Rattle.std.specs.Prelude.{◌≡◌, ℕ, List, [], length, take, Option, Some, None, Result, Ok, Err, ⊤}
use Rattle.c65_base.specs.declared.refusal.Refusal.{Refusal}
use Rattle.c65_base.specs.declared.refusal.Refusal.TheVariants.{OutOfMemory, Missing, ReadFault}
use Rattle.c65_io.specs.Contents.{Contents}

-- the bytes of a path that is there, at most so many
abbrev pub ReadsHeld : ℕ → List ℕ → Option (List ℕ) → Result (List ℕ) Refusal → Type 0
ReadsHeld most path None (Err (Missing missed)) = missed ≡ path
ReadsHeld most path held (Err OutOfMemory) = ⊤
ReadsHeld most path (Some bytes) (Ok text) = text ≡ take most bytes
ReadsHeld most path (Some bytes) (Err ReadFault) = ⊤
ReadsHeld most path held result = ⊥

abbrev pub ReadsText : ℕ → Contents → List ℕ → Result (List ℕ) Refusal → Type 0
ReadsText most None path result = ⊤
ReadsText most (Some held) path result = ReadsHeld most path (held path) result

-- no other refusal comes
abbrev pub ReadsSome : List ℕ → Result (List ℕ) Refusal → Type 0
ReadsSome path (Ok text) = ⊤
ReadsSome path (Err OutOfMemory) = ⊤
ReadsSome path (Err (Missing missed)) = missed ≡ path
ReadsSome path (Err ReadFault) = ⊤
ReadsSome path (Err refusal) = ⊥

-- the bytes so far are those at the front of the file
abbrev pub IsFront : Option (List ℕ) → List ℕ → Type 0
IsFront None text = text ≡ []
IsFront (Some bytes) text = take (length text) bytes ≡ text

abbrev pub HasRead : Contents → List ℕ → List ℕ → Type 0
HasRead None path text = ⊤
HasRead (Some held) path text = IsFront (held path) text
