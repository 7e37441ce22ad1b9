-- Which type a list of keywords names (C90 6.5.2), in any order of the keywords.
use Rattle.std.specs.Prelude.{Bool, true, false, Option, Some, None, is_some, is_none, if◌then◌else◌}
use Rattle.c65_ints.specs.declared.types.IntType.{IntType}
use Rattle.c65_ints.specs.declared.types.IntType.TheVariants as ints
use Rattle.c65_ctype.specs.Trees.{Ty, void, int}
use Rattle.c65_elab_declare.specs.declared.words.Base.{Base}
use Rattle.c65_elab_declare.specs.declared.words.Base.TheVariants as b
use Rattle.c65_elab_declare.specs.declared.words.Keyword.{Keyword}
use Rattle.c65_elab_declare.specs.declared.words.Keyword.TheVariants as k
use Rattle.c65_elab_declare.specs.declared.words.Words.{Words}

abbrev pub no_words : Words
no_words = record { base = b.Nothing; sign = None }

abbrev pub nothing_in : Base → Option Bool → Bool
nothing_in b.Nothing sign = is_none sign
nothing_in _ sign = false

abbrev pub is_empty : Words → Bool
is_empty w = nothing_in w.base w.sign

abbrev pub a_base : Base → Option Bool → Option Words
a_base base sign = Some (record { base = base; sign = sign })

-- `void` has no sign
abbrev pub void_with : Option Bool → Option Words
void_with None = a_base b.Void None
void_with (Some s) = None

abbrev pub first_with : Keyword → Option Bool → Option Words
first_with k.Void sign = void_with sign
first_with k.Char sign = a_base b.Char sign
first_with k.Int sign = a_base b.Int sign
first_with k.Short sign = a_base b.Short sign
first_with k.Long sign = a_base b.Long sign

abbrev pub int_with : Keyword → Option Bool → Option Words
int_with k.Short sign = a_base b.ShortInt sign
int_with k.Long sign = a_base b.LongInt sign
int_with _ sign = None

abbrev pub and_int : Base → Keyword → Option Bool → Option Words
and_int base k.Int sign = a_base base sign
and_int base _ sign = None

abbrev pub base_with : Base → Keyword → Option Bool → Option Words
base_with b.Nothing keyword sign = first_with keyword sign
base_with b.Int keyword sign = int_with keyword sign
base_with b.Short keyword sign = and_int b.ShortInt keyword sign
base_with b.Long keyword sign = and_int b.LongInt keyword sign
base_with _ keyword sign = None

abbrev pub with_base : Words → Keyword → Option Words
with_base w keyword = base_with w.base keyword w.sign

abbrev pub signed_base : Base → Bool → Option Words
signed_base b.Void signed = None
signed_base base signed = a_base base (Some signed)

abbrev pub sign_with : Base → Option Bool → Bool → Option Words
sign_with base sign signed = if is_some sign then None else signed_base base signed

abbrev pub with_sign : Words → Bool → Option Words
with_sign w signed = sign_with w.base w.sign signed

abbrev pub by_sign : Option Bool → IntType → IntType → Ty
by_sign (Some false) signed unsigned = int unsigned
by_sign _ signed unsigned = int signed

abbrev pub signed_type : Words → IntType → IntType → Ty
signed_type w signed unsigned = by_sign w.sign signed unsigned

abbrev pub char_type : Option Bool → IntType → Ty
char_type None plain = int plain
char_type (Some true) plain = int ints.SChar
char_type (Some false) plain = int ints.UChar

abbrev pub type_by : Base → Option Bool → IntType → Ty
type_by b.Void sign plain = void
type_by b.Char sign plain = char_type sign plain
type_by b.Nothing sign plain = by_sign sign ints.Int ints.UInt
type_by b.Int sign plain = by_sign sign ints.Int ints.UInt
type_by b.Short sign plain = by_sign sign ints.Short ints.UShort
type_by b.ShortInt sign plain = by_sign sign ints.Short ints.UShort
type_by b.Long sign plain = by_sign sign ints.Long ints.ULong
type_by b.LongInt sign plain = by_sign sign ints.Long ints.ULong

abbrev pub type_of_words : Words → IntType → Ty
type_of_words w plain = type_by w.base w.sign plain
