-- Structures and unions that are passed and returned, which have at most four bytes (C90 6.3.2.2, 6.6.6.4).
use Rattle.std.specs.Prelude.{ℕ, Result, Ok, Err, if◌then◌else◌}
use Rattle.c65_base.specs.declared.code.Code.TheVariants.{StructSize}
use Rattle.c65_base.specs.declared.refusal.Pos.{Pos}
use Rattle.c65_base.specs.Answers.{Fault, at, ◌>>=◌}
use Rattle.c65_ctype.specs.Trees.{Ty, type_in, TypesTy}
use Rattle.c65_ctype.specs.Sizes.{size_at}
use Rattle.c65_csem.specs.Places.{is_small, is_tag, plain_of}
use Rattle.c65_csem.specs.Trees.{Typed, node, pack, type_of}

-- the bytes of a structure or union that is passed or returned
abbrev pub structure_size : TypesTy → Pos → Ty → Result ℕ Fault
structure_size types p t = size_at types p t >>= λ n. if is_small types t then Ok n else Err (at StructSize p)

-- the bytes of a structure or union in the place of where it lies
abbrev pub packed_of : Typed → Typed
packed_of e = if is_tag (type_in (type_of e)) then node (plain_of (type_of e)) (pack e) else e

abbrev pub packed_in : TypesTy → Pos → Typed → Result Typed Fault
packed_in types p e = structure_size types p (type_in (type_of e)) >>= λ n. Ok (packed_of e)
