-- Which types are compatible (C90 6.1.2.6, 6.5.2 to 6.5.4).
--
-- Two types are gone through side by side. They differ, or they meet in some pairs of tags. Two tags of
-- one unit are compatible only where they are the same. Two tags of different units are where no path of
-- equal steps through members, elements, targets, results and parameters leads from them to two types that
-- differ; a tag that is not finished in its unit differs from none of another unit.
use Rattle.std.specs.Prelude.{◌≡◌, ℕ, zero, suc, ◌^◌, List, [], ◌∷◌, ◌++◌, Bool, true, false, not, ◌&&◌, ◌==◌, Option, Some, None, option_and_then, slice_get, if◌then◌else◌}
use Rattle.c65_base.specs.declared.names.Name.{Name}
use Rattle.c65_ints.specs.declared.types.IntType.{IntType}
use Rattle.c65_ints.specs.declared.types.IntType.TheVariants.{SChar, UChar, Short, UShort}
use Rattle.c65_ints.specs.Ranges.{number_of}
use Rattle.c65_ctype.specs.Trees.{Ty, void, int, pointer, array, tag, function, QTy, qual, Fn, fn, Params, unknown, known, QTys, end, more, MemberTy, LayoutTy, TagTy, TypesTy}

abbrev pub same_int : IntType → IntType → Bool
same_int s t = number_of s == number_of t

abbrev pub same_bool : Bool → Bool → Bool
same_bool true b = b
same_bool false b = not b

-- an array whose number of elements is not known agrees with any
abbrev pub same_count : Option ℕ → Option ℕ → Bool
same_count None n = true
same_count (Some m) None = true
same_count (Some m) (Some n) = m == n

-- a type that the default argument promotions leave as it is (C90 6.3.2.2)
abbrev pub stays_promoted : Ty → Bool
stays_promoted (int SChar) = false
stays_promoted (int UChar) = false
stays_promoted (int Short) = false
stays_promoted (int UShort) = false
stays_promoted _ = true

abbrev pub stays : QTy → Bool
stays (qual t c v) = stays_promoted t

abbrev pub all_stay : QTys → Bool
all_stay end = true
all_stay (more q qs) = if stays q then all_stay qs else false

-- the pairs of tags that were met so far, or none where a difference was found
abbrev pub Pairs : Type 0
Pairs = List (ℕ × ℕ)

abbrev mutual
  pub meet : Pairs → Ty → Ty → Option Pairs
  meet ps void void = Some ps
  meet ps (int s) (int t) = if same_int s t then Some ps else None
  meet ps (pointer q) (pointer r) = qualified_meet ps q r
  meet ps (array q m) (array r n) = if same_count m n then qualified_meet ps q r else None
  meet ps (tag s) (tag t) = Some (ps ++ (s, t) ∷ [])
  meet ps (function f) (function g) = functions_meet ps f g
  meet ps _ _ = None

  pub qualified_meet : Pairs → QTy → QTy → Option Pairs
  qualified_meet ps (qual t c v) (qual u d w) = if same_bool c d && same_bool v w then meet ps t u else None

  -- the words for the stack belong to the type
  pub functions_meet : Pairs → Fn → Fn → Option Pairs
  functions_meet ps (fn q xs va cd) (fn r ys vb ce) = if same_bool cd ce then option_and_then (λ given. params_meet given xs va ys vb) (qualified_meet ps q r) else None

  -- a function without a prototype agrees with one that is not variadic and whose parameters pass as they are
  pub params_meet : Pairs → Params → Bool → Params → Bool → Option Pairs
  params_meet ps unknown va unknown vb = Some ps
  params_meet ps unknown va (known ys) vb = if not vb && all_stay ys then Some ps else None
  params_meet ps (known xs) va unknown vb = if not va && all_stay xs then Some ps else None
  params_meet ps (known xs) va (known ys) vb = if same_bool va vb then lists_meet ps xs ys else None

  pub lists_meet : Pairs → QTys → QTys → Option Pairs
  lists_meet ps end end = Some ps
  lists_meet ps (more x xs) (more y ys) = option_and_then (λ given. lists_meet given xs ys) (parameters_meet ps x y)
  lists_meet ps _ _ = None

  -- a parameter counts without its own qualifiers
  pub parameters_meet : Pairs → QTy → QTy → Option Pairs
  parameters_meet ps (qual t c v) (qual u d w) = meet ps t u

abbrev pub same_name : Option Name → Option Name → Bool
same_name None None = true
same_name (Some m) (Some n) = m.0 == n.0
same_name _ _ = false

-- both are bit-fields of one width, or none is a bit-field
abbrev pub same_width : Option (ℕ × ℕ) → Option (ℕ × ℕ) → Bool
same_width None None = true
same_width (Some a) (Some b) = a.1 == b.1
same_width _ _ = false

abbrev pub one_meets : Pairs → MemberTy → MemberTy → Option Pairs
one_meets ps a b = if same_name a.name b.name && same_width a.bits b.bits then qualified_meet ps a.ty b.ty else None

abbrev pub members_meet : Pairs → List MemberTy → List MemberTy → Option Pairs
members_meet ps [] [] = Some ps
members_meet ps (a ∷ xs) (b ∷ ys) = option_and_then (λ given. members_meet given xs ys) (one_meets ps a b)
members_meet ps _ _ = None

-- two finished layouts differ where one is a union alone, where their sizes do, or a member
abbrev pub layouts_meet : Pairs → Option LayoutTy → Option LayoutTy → Option Pairs
layouts_meet ps None b = Some ps
layouts_meet ps (Some a) None = Some ps
layouts_meet ps (Some a) (Some b) = if same_bool a.is_union b.is_union && a.size == b.size then members_meet ps a.members b.members else None

abbrev pub tags_meet : Pairs → Option TagTy → Option TagTy → Option Pairs
tags_meet ps (Some a) (Some b) = if a.unit == b.unit then None else layouts_meet ps a.layout b.layout
tags_meet ps _ _ = None

-- one step from a pair of tags
abbrev pub next_pairs : TypesTy → ℕ × ℕ → Option Pairs
next_pairs types p = if p.0 == p.1 then Some [] else tags_meet [] (slice_get types.tags p.0) (slice_get types.tags p.1)

abbrev pub each : (ℕ × ℕ → Bool) → Pairs → Bool
each f [] = true
each f (p ∷ ps) = if f p then each f ps else false

abbrev pub each_in : (ℕ × ℕ → Bool) → Option Pairs → Bool
each_in f None = false
each_in f (Some ps) = each f ps

-- what was met, where no difference was found
abbrev pub met : Bool → Pairs → Option Pairs
met true ps = Some ps
met false ps = None

-- no path of fewer than n steps from a pair of tags leads to a difference
abbrev pub agrees : TypesTy → ℕ → ℕ × ℕ → Bool
agrees types zero p = true
agrees types (suc n) p = each_in (agrees types n) (next_pairs types p)

abbrev pub agree_within : TypesTy → ℕ → QTy → QTy → Bool
agree_within types n a b = each_in (agrees types n) (qualified_meet [] a b)

-- Two types are compatible where no path leads to a difference. There are at most 2^64 pairs of tags, and so
-- a path of at most that many steps leads to a difference where any does.
abbrev pub are_compatible : TypesTy → QTy → QTy → Bool
are_compatible types a b = agree_within types (2 ^ 64) a b

pub record AreCompatible (types : TypesTy) (a b : QTy) : Type 0 where
  pub never_differ : (n : ℕ) → agree_within types n a b ≡ true
