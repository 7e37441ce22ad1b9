-- What the specifiers of a declaration say so far (C90 6.5.1 to 6.5.3).
use Rattle.std.specs.Prelude.{Bool, true, false, ◌&&◌, ◌||◌, not, Option, Some, None, is_some, option_map, Result, Ok, Err, if◌then◌else◌}
use Rattle.c65_base.specs.declared.code.Code.TheVariants.{Specifiers, StorageClass}
use Rattle.c65_base.specs.declared.refusal.Pos.{Pos}
use Rattle.c65_base.specs.Answers.{Fault, at}
use Rattle.c65_ints.specs.declared.types.IntType.{IntType}
use Rattle.c65_tree.specs.declared.expr.Storage.{Storage}
use Rattle.c65_ctype.specs.Trees.{QTy}
use Rattle.c65_ctype.specs.Views.{qty_of}
use Rattle.c65_csem.specs.Places.{plain, qualified}
use Rattle.c65_elab_declare.specs.declared.draft.Draft.{Draft}
use Rattle.c65_elab_declare.specs.declared.words.Words.{Words}
use Rattle.c65_elab_declare.specs.declared.words.Keyword.{Keyword}
use Rattle.c65_elab_declare.specs.Words.{no_words, is_empty, with_base, with_sign, type_of_words}

-- the storage class, `const`, `volatile`, the keywords of a type or a type by itself, and whether a tag or
-- enumeration constants are declared
pub record DraftTy : Type 0 where
  pub storage : Option Storage
  pub is_const : Bool
  pub is_volatile : Bool
  pub words : Words
  pub named : Option QTy
  pub declares : Bool

abbrev pub draft_of : Draft → DraftTy
draft_of d = record { storage = d.storage; is_const = d.is_const; is_volatile = d.is_volatile; words = d.words; named = option_map qty_of d.named; declares = d.declares }

abbrev pub no_draft : DraftTy
no_draft = record { storage = None; is_const = false; is_volatile = false; words = no_words; named = None; declares = false }

-- at most one storage class (C90 6.5.1)
abbrev pub storage_in : DraftTy → Storage → Pos → Result DraftTy Fault
storage_in d storage p = if is_some d.storage then Err (at StorageClass p) else Ok (record d { storage = Some storage })

-- each qualifier at most once (C90 6.5.3)
abbrev pub const_in : DraftTy → Pos → Result DraftTy Fault
const_in d p = if d.is_const then Err (at Specifiers p) else Ok (record d { is_const = true })

abbrev pub volatile_in : DraftTy → Pos → Result DraftTy Fault
volatile_in d p = if d.is_volatile then Err (at Specifiers p) else Ok (record d { is_volatile = true })

abbrev pub words_or : DraftTy → Pos → Option Words → Result DraftTy Fault
words_or d p None = Err (at Specifiers p)
words_or d p (Some words) = Ok (record d { words = words })

abbrev pub words_in : DraftTy → Option Words → Pos → Result DraftTy Fault
words_in d words p = if is_some d.named then Err (at Specifiers p) else words_or d p words

abbrev pub keyword_in : DraftTy → Keyword → Pos → Result DraftTy Fault
keyword_in d keyword p = words_in d (with_base d.words keyword) p

abbrev pub sign_in : DraftTy → Bool → Pos → Result DraftTy Fault
sign_in d signed p = words_in d (with_sign d.words signed) p

abbrev pub type_in_draft : DraftTy → QTy → Bool → Pos → Result DraftTy Fault
type_in_draft d t declares p = if is_some d.named || not (is_empty d.words) then Err (at Specifiers p) else Ok (record d { named = Some t; declares = declares })

abbrev pub base_of : Option QTy → Words → IntType → QTy
base_of (Some t) words char = t
base_of None words char = plain (type_of_words words char)

-- a declaration without a declarator declares a tag or enumeration constants (C90 6.5)
abbrev pub draft_finished : DraftTy → IntType → Bool → Pos → Result (Option Storage × QTy) Fault
draft_finished d char alone p = if alone && not d.declares then Err (at Specifiers p) else Ok (d.storage, qualified d.is_const d.is_volatile (base_of d.named d.words char))
