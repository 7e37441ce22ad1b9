-- What plain programs are asked for beside.
use Rattle.std.proofs.Common.{◌≡◌, ℕ, zero, suc, ◌*◌, ◌≤◌, Bool, true, false, nat_lt, if◌then◌else◌, List, [], ◌∷◌, All, map, length, Option, Some, None, unwrap_or, subst, arith}
use Rattle.std.specs.Prelude.{option_and_then}
use Rattle.std.proofs.lemmas.List.{length-map}
use Rattle.std.proofs.lemmas.List.Elements.{All-weaker}
use Rattle.std.proofs.Math.Nat.{mul-zero, zero-mul, mul-pos}
use Rattle.c65_ctype.specs.Trees.{TypesTy, LayoutTy, Ty, void, int, pointer, array, tag, function, QTy, qual, type_in}
use Rattle.c65_ctype.specs.Tables.{layout_at}
use Rattle.c65_ctype.specs.Sizes.{size_in, size_of, qualified_size_of}
use Rattle.c65_csem.specs.declared.items.Cell.{Cell}
use Rattle.c65_csem.specs.declared.items.Cell.TheVariants.{Byte, Piece}
use Rattle.c65_csem.specs.declared.items.Parts.{Parts}
use Rattle.c65_csem.specs.Trees.{ObjectTy}
use Rattle.c65_csem.specs.Views.{func_of, object_of, unit_of}
use Rattle.c65_csem_plain.specs.Plain as plain
use Rattle.c65_genframe.specs.Sizes.{limited, elements, bytes_at, qualified_bytes_at}
use Rattle.c65_asm_law.specs.Items.{IsByte, BeginsWhole, IsStored}
use Rattle.c65_asm_law.specs.Laws.{ProgramsAreWritable}
use Rattle.c65_asm_law_plain.specs.Laws.{PlainProgramsAreWritable}

-- Sizes

abbrev HasByte : Option ℕ → Type 0
HasByte None = Unit {0}
HasByte (Some n) = 1 ≤ n

limited_byte : (n : ℕ) → 1 ≤ n → HasByte (limited n)
limited_byte n h = by (nat_lt 65535 n)
  where
    by : (b : Bool) → HasByte (if b then None else Some n)
    by true = tt
    by false = h

elements_byte : (o : Option ℕ) (n : ℕ) → HasByte o → 1 ≤ n → HasByte (elements o n)
elements_byte None n h k = tt
elements_byte (Some s) n h k = limited_byte (s * n) (mul-pos {m = s} {n = n} h k)

layout_byte : (o : Option LayoutTy) → 1 ≤ size_in o → HasByte (option_and_then (λ l. limited l.size) o)
layout_byte None h = tt
layout_byte (Some l) h = limited_byte l.size h

-- each factor of a product that is not zero is not zero
first_factor : (a b : ℕ) → 1 ≤ a * b → 1 ≤ a
first_factor zero b h = absurd (let z = zero-mul b in omega (arith, z, h))
first_factor (suc a) b h = omega arith

second_factor : (a b : ℕ) → 1 ≤ a * b → 1 ≤ b
second_factor a zero h = absurd (let z = mul-zero a in omega (arith, z, h))
second_factor a (suc b) h = omega arith

mutual
  type_byte : (types : TypesTy) (t : Ty) → 1 ≤ size_of types t → HasByte (bytes_at types t)
  type_byte types void h = tt
  type_byte types (int k) h = h
  type_byte types (pointer q) h = omega arith
  type_byte types (array q None) h = tt
  type_byte types (array q (Some n)) h = elements_byte (qualified_bytes_at types q) n (qualified_byte types q (first_factor (qualified_size_of types q) n h)) (second_factor (qualified_size_of types q) n h)
  type_byte types (tag n) h = layout_byte (layout_at types n) h
  type_byte types (function f) h = tt

  qualified_byte : (types : TypesTy) (q : QTy) → 1 ≤ qualified_size_of types q → HasByte (qualified_bytes_at types q)
  qualified_byte types (qual t c v) h = type_byte types t h

or_byte : (o : Option ℕ) → HasByte o → 1 ≤ unwrap_or o 65536
or_byte None h = omega arith
or_byte (Some n) h = h

-- First values

one_cell : (c : Cell) → plain.IsByte c → IsByte c
one_cell (Byte b) h = h
one_cell (Piece t o part) h = tt

begins_whole : (cells : List Cell) → plain.ArePaired cells → BeginsWhole cells
begins_whole [] h = tt
begins_whole (Byte b ∷ cells) h = tt
begins_whole (Piece t o part ∷ []) h = absurd h
begins_whole (Piece t o part ∷ (Byte b ∷ cells)) h = absurd h
begins_whole (Piece t o part ∷ (Piece t2 o2 part2 ∷ cells)) h = h.0

begins : (init : Option (List Cell)) (cells : List Cell) → init ≡ Some cells → plain.BeginsPlain init → All IsByte cells × BeginsWhole cells
begins None cells e h = absurd cc
begins (Some given) cells e h = (let same : given ≡ cells = cc in
    (subst (All IsByte) same (All-weaker plain.IsByte IsByte (λ c k. one_cell c k) given h.0), subst BeginsWhole same (begins_whole given h.1)))

stored : (names : List (List ℕ)) (parts : Parts) (o : ObjectTy) → plain.IsPlainObject names (unit_of parts) o → IsStored parts o
stored names parts o h = record {
  size = λ placed. or_byte (bytes_at (unit_of parts).types (type_in o.ty)) (type_byte (unit_of parts).types (type_in o.ty) h.bytes.some);
  bytes = λ cells e. (begins o.init cells e h.begins).0;
  whole = λ cells e. (begins o.init cells e h.begins).1;
}

pub plain_programs_are_writable : ProgramsAreWritable → PlainProgramsAreWritable
plain_programs_are_writable written parts main names modes code well plain_is spelled h =
    let objects : length (map object_of parts.objects.items) ≡ length parts.objects.items = length-map parts.objects.items object_of in
    let funcs : length (map func_of parts.funcs.items) ≡ length parts.funcs.items = length-map parts.funcs.items func_of in
    let few = plain_is.few in
    written parts main names modes code
    (record {
      unit = well.unit;
      spelled = spelled;
      stored = record { objects = All-weaker (plain.IsPlainObject names (unit_of parts)) (IsStored parts) (λ o k. stored names parts o k) (unit_of parts).objects plain_is.objects; literals = plain_is.literals };
      few = omega (arith, objects, funcs, few);
    }) h
