-- What a note says of a state.
use Rattle.std.specs.Prelude.{◌≡◌, Option, Some, None}
use Rattle.c65_code.specs.LineState.{State}
use Rattle.c65_know.specs.declared.note.Note.{Note}

-- a value is as it is known, where it is known
abbrev pub IsAs : {A : Type 0} → Option A → A → Type 0
IsAs None v = Unit {0}
IsAs (Some w) v = w ≡ v

pub record IsNoted (note : Note) (t : State) : Type 0 where
  pub a : IsAs note.a t.regs.a
  pub x : IsAs note.x t.regs.x
  pub y : IsAs note.y t.regs.y
  pub s0 : IsAs note.s0 (t.zp 2)
  pub s1 : IsAs note.s1 (t.zp 3)
  pub p0 : IsAs note.p0 (t.zp 8)
  pub p1 : IsAs note.p1 (t.zp 9)
  pub t1 : IsAs note.t1 (t.zp 16)
  pub n : IsAs note.n t.regs.n
  pub v : IsAs note.v t.regs.v
  pub z : IsAs note.z t.regs.z
  pub c : IsAs note.c t.regs.c

-- the note at a place is true of a state
abbrev pub IsTrueOf : Option Note → State → Type 0
IsTrueOf None t = Unit {0}
IsTrueOf (Some note) t = IsNoted note t
