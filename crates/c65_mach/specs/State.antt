-- The machine's state on whole numbers.
use Rattle.std.specs.Prelude.{ℕ, Bool, false, List, ◌++◌, replicate, take, slice_index, slice_set}
use Rattle.c65_base.specs.declared.options.Cpu.{Cpu}
use Rattle.c65_base.specs.declared.options.Cpu.TheVariants.{Nmos}
use Rattle.c65_mach.specs.declared.image.Image.{Image}

-- the registers and flags that operations read and set
pub record Regs : Type 0 where
  pub a : ℕ
  pub x : ℕ
  pub y : ℕ
  pub n : Bool
  pub v : Bool
  pub z : Bool
  pub c : Bool

-- 65,536 bytes
abbrev pub Memory : Type 0
Memory = List ℕ

abbrev pub read : Memory → ℕ → ℕ
read m at = slice_index m at

abbrev pub write : Memory → ℕ → ℕ → Memory
write m at v = slice_set m at v

pub record State : Type 0 where
  pub cpu : Cpu
  pub regs : Regs
  pub s : ℕ
  pub d : Bool
  pub i : Bool
  pub pc : ℕ
  pub mem : Memory

-- a 6502 with no registers, flags or memory but S, which is $FF
abbrev pub zero_state : State
zero_state = record {
  cpu = Nmos;
  regs = record { a = 0; x = 0; y = 0; n = false; v = false; z = false; c = false };
  s = 255;
  d = false;
  i = false;
  pc = 0;
  mem = replicate 65536 0;
}

-- zero memory with the payload from the load address on; what would pass address $FFFF is left out
abbrev pub loaded_memory : Image → Memory
loaded_memory image = take 65536 (replicate image.load 0 ++ (image.payload ++ replicate 65536 0))

-- the state from which a run of an image begins
abbrev pub loaded : Image → State
loaded image = record zero_state { cpu = image.cpu; pc = image.reset; mem = loaded_memory image }
