-- What the optimiser makes of the functions of a code.
use Rattle.std.proofs.Common.{◌≡◌, ℕ, ◌≤◌, ◌==◌, ◌&&◌, ◌||◌, not, Bool, true, false, if◌then◌else◌, List, [], ◌∷◌, length, Option, None, refl, sym, subst, ap, ◌∙◌, arith}
use Rattle.std.specs.Prelude.{slice_get, nat_lt, is_some}
use Rattle.std.proofs.Math.Path.{fun_ext}
use Rattle.c65_base.specs.declared.library.Library.{Library}
use Rattle.c65_base.specs.declared.options.Options.{Options}
use Rattle.c65_code.specs.declared.code.Code.{Code}
use Rattle.c65_code.specs.declared.code.Datum.{Datum}
use Rattle.c65_code.specs.declared.code.Symbol.{Symbol}
use Rattle.c65_code.specs.declared.line.Line.{Line}
use Rattle.c65_code.specs.declared.line.Sym.{Sym}
use Rattle.c65_code.specs.declared.parts.RegSet.{RegSet}
use Rattle.c65_code.specs.Literals.{literals_of}
use Rattle.c65_code.specs.Placement.{Placement, Setting, setting_of, segment_of, is_nothing, has_segment, has_datum, is_function_of, library_of}
use Rattle.c65_code.specs.Segments.{Segment}
use Rattle.c65_optimise.specs.Optimised.{IsRewritten, AreRewritten, IsOptimised}
use Rattle.c65_opt_law_chains.specs.Laws.{FollowsUntilEnd, FollowsUntilEndEverywhere}
use Rattle.c65_opt_law_follow.specs.Laws.{IsSound}
use Rattle.c65_opt_law_whole.specs.Laws.{IsMadeOf, HasConstantLiterals, CallsServe}
use Rattle.c65_opt_law_whole.proofs.Functions.{AreRulesGood, byte_lines, function_made}
use Rattle.c65_opt_law_whole.proofs.Made.{has_line}
use Rattle.c65_opt_law_whole.proofs.Mixed.{mixed, lines_in, gives_in, IsMixed, all_mixed}
use Rattle.c65_opt_law_whole.proofs.Placed.{open_at, literals_stand}

-- ---- functions by their names

module _ (options : Options) (literals : List (Sym × List ℕ)) where
  -- both have a segment of a name, or none
  pub has_same : (fs gs : List (Sym × Segment)) → AreRewritten options literals fs gs → (n : ℕ) → has_segment fs n ≡ has_segment gs n
  has_same [] [] r n = refl
  has_same [] (g ∷ gs) r n = absurd r
  has_same (f ∷ fs) [] r n = absurd r
  has_same (f ∷ fs) (g ∷ gs) ((named, one), rest) n =
      ap (λ (b : Bool). if f.0.0 == n then true else b) (has_same fs gs rest n) ∙ ap (λ (y : Sym). if y.0 == n then true else has_segment gs n) (sym named)

  pub rewritten_at : (fs gs : List (Sym × Segment)) → AreRewritten options literals fs gs → (n : ℕ) → has_segment fs n ≡ true → IsRewritten options literals (segment_of fs n) (segment_of gs n)
  rewritten_at [] [] r n h = absurd (let e : false ≡ true = h in cc)
  rewritten_at [] (g ∷ gs) r n h = absurd r
  rewritten_at (f ∷ fs) [] r n h = absurd r
  rewritten_at (f ∷ fs) (g ∷ gs) ((named, one), rest) n h =
      subst (λ (y : Sym). IsRewritten options literals (if f.0.0 == n then f.1 else segment_of fs n) (if y.0 == n then g.1 else segment_of gs n)) (sym named) (pick (f.0.0 == n) (λ k. rewritten_at fs gs rest n k) h)
    where
      pick : (b : Bool) → (has_segment fs n ≡ true → IsRewritten options literals (segment_of fs n) (segment_of gs n)) → (if b then true else has_segment fs n) ≡ true
          → IsRewritten options literals (if b then f.1 else segment_of fs n) (if b then g.1 else segment_of gs n)
      pick true later h = one
      pick false later h = later h

  -- where there is none, both are the same
  pub same_none : (fs gs : List (Sym × Segment)) → AreRewritten options literals fs gs → (n : ℕ) → has_segment fs n ≡ false → segment_of fs n ≡ segment_of gs n
  same_none [] [] r n h = refl
  same_none [] (g ∷ gs) r n h = absurd r
  same_none (f ∷ fs) [] r n h = absurd r
  same_none (f ∷ fs) (g ∷ gs) ((named, one), rest) n h =
      pick (f.0.0 == n) refl (λ k. same_none fs gs rest n k) h ∙ ap (λ (y : Sym). if y.0 == n then g.1 else segment_of gs n) (sym named)
    where
      pick : (b : Bool) → (f.0.0 == n) ≡ b → (has_segment fs n ≡ false → segment_of fs n ≡ segment_of gs n) → (if b then true else has_segment fs n) ≡ false → (if f.0.0 == n then f.1 else segment_of fs n) ≡ (if f.0.0 == n then g.1 else segment_of gs n)
      pick true e later h = absurd (let clash : true ≡ false = h in cc)
      pick false e later h =
          ap (λ (c : Bool). if c then f.1 else segment_of fs n) e ∙ (later h ∙ sym (ap (λ (c : Bool). if c then g.1 else segment_of gs n) e))

-- the lines of a segment are there
something : (lines : List Line) → 1 ≤ length lines → is_nothing lines ≡ false
something [] h = absurd (omega (arith, h))
something (line ∷ lines) h = refl

pub segment_none : (fs : List (Sym × Segment)) (n : ℕ) → has_segment fs n ≡ false → (segment_of fs n).lines ≡ []
segment_none [] n h = refl
segment_none (f ∷ fs) n h = pick (f.0.0 == n) (λ k. segment_none fs n k) h
  where
    pick : (b : Bool) → (has_segment fs n ≡ false → (segment_of fs n).lines ≡ []) → (if b then true else has_segment fs n) ≡ false → (if b then f.1 else segment_of fs n).lines ≡ []
    pick true later h = absurd (let e : true ≡ false = h in cc)
    pick false later h = later h

by_test : (P : Type 0) (b : Bool) → (b ≡ true → P) → (b ≡ false → P) → P
by_test P true f g = f refl
by_test P false f g = g refl

-- settings by their parts
abbrev setting_by : (ℕ → List Line) → (ℕ → RegSet) → (ℕ → Bool) → (ℕ → Option Library) → Placement → Setting
setting_by lines gives is library place = record { lines = lines; gives = gives; is_function = is; library = library; place = place }

setting_same : (lines lines2 : ℕ → List Line) (gives gives2 : ℕ → RegSet) (is is2 : ℕ → Bool) (library library2 : ℕ → Option Library) (place : Placement)
    → lines ≡ lines2 → gives ≡ gives2 → is ≡ is2 → library ≡ library2 → setting_by lines gives is library place ≡ setting_by lines2 gives2 is2 library2 place
setting_same lines lines2 gives gives2 is is2 library library2 place a b c d =
    ap (λ (x : ℕ → List Line). setting_by x gives is library place) a
    ∙ (ap (λ (x : ℕ → RegSet). setting_by lines2 x is library place) b
    ∙ (ap (λ (x : ℕ → Bool). setting_by lines2 gives2 x library place) c
    ∙ ap (λ (x : ℕ → Option Library). setting_by lines2 gives2 is2 x place) d))

-- ---- the code with the new functions

module _ (options : Options) (rules : AreRulesGood options) (old new : Code) (main : ℕ) (literals : HasConstantLiterals old) (o : IsOptimised options old new)
    (calls : CallsServe options (literals_of old.symbols old.datums)) where
  rewritten_here : (n : ℕ) → has_segment old.functions n ≡ true → IsRewritten options (literals_of old.symbols old.datums) (segment_of old.functions n) (segment_of new.functions n)
  rewritten_here n h = rewritten_at options (literals_of old.symbols old.datums) old.functions new.functions o.functions n h

  sound_lines : (n : ℕ) → IsSound (segment_of old.functions n).lines
  sound_lines n = by_test (IsSound (segment_of old.functions n).lines) (has_segment old.functions n)
      (λ h. record { fit = (rewritten_here n h).segment.fit; bytes = byte_lines (segment_of old.functions n).lines (rewritten_here n h).bytes })
      (λ h. subst IsSound (sym (segment_none old.functions n h)) (record { fit = refl; bytes = tt }))

  made_here : (n : ℕ) → has_segment old.functions n ≡ true → IsMadeOf (literals_of old.symbols old.datums) n main (gives_in old n) (lines_in old n) (lines_in new n)
  made_here n h =
      function_made options rules (literals_of old.symbols old.datums) n main (segment_of old.functions n).out calls (segment_of old.functions n) (segment_of new.functions n) refl (rewritten_here n h)

  whole : IsMixed (literals_of old.symbols old.datums) old main (lines_in new) old.functions
  whole = all_mixed rules.composes (literals_of old.symbols old.datums) old main (lines_in new) sound_lines old.functions made_here

  -- a function that has lines has some in the new code too
  some_new : (n : ℕ) → has_segment old.functions n ≡ true → is_nothing (segment_of new.functions n).lines ≡ false
  some_new n h = something (segment_of new.functions n).lines (has_line (segment_of new.functions n).lines (made_here n h).segment.closed)

  none_same : (n : ℕ) → has_segment old.functions n ≡ false → segment_of old.functions n ≡ segment_of new.functions n
  none_same n h = same_none options (literals_of old.symbols old.datums) old.functions new.functions o.functions n h

  lines_same : (n : ℕ) → (if has_segment old.functions n then (segment_of new.functions n).lines else (segment_of old.functions n).lines) ≡ (segment_of new.functions n).lines
  lines_same n = pick (has_segment old.functions n) refl
    where
      pick : (b : Bool) → has_segment old.functions n ≡ b → (if b then (segment_of new.functions n).lines else (segment_of old.functions n).lines) ≡ (segment_of new.functions n).lines
      pick true h = refl
      pick false h = ap (λ (g : Segment). g.lines) (none_same n h)

  gives_same : (n : ℕ) → (segment_of old.functions n).out ≡ (segment_of new.functions n).out
  gives_same n = by_test ((segment_of old.functions n).out ≡ (segment_of new.functions n).out) (has_segment old.functions n)
      (λ h. sym (rewritten_at options (literals_of old.symbols old.datums) old.functions new.functions o.functions n h).out)
      (λ h. ap (λ (g : Segment). g.out) (none_same n h))

  empty_same : (n : ℕ) → is_nothing (segment_of old.functions n).lines ≡ is_nothing (segment_of new.functions n).lines
  empty_same n = by_test (is_nothing (segment_of old.functions n).lines ≡ is_nothing (segment_of new.functions n).lines) (has_segment old.functions n)
      (λ h. something (segment_of old.functions n).lines (has_line (segment_of old.functions n).lines (rewritten_here n h).segment.closed) ∙ sym (some_new n h))
      (λ h. ap (λ (g : Segment). is_nothing g.lines) (none_same n h))

  function_same : (n : ℕ) → is_function_of old n ≡ is_function_of (record { symbols = old.symbols; functions = new.functions; datums = old.datums; main_args = old.main_args }) n
  function_same n =
      ap (λ (b : Bool). (nat_lt n (length old.symbols) && not (has_datum old.datums n)) && (b || is_some (library_of (slice_get old.symbols n))))
      (has_same options (literals_of old.symbols old.datums) old.functions new.functions o.functions n)

  code_same : record { symbols = old.symbols; functions = new.functions; datums = old.datums; main_args = old.main_args } ≡ new
  code_same = sym (
      ap (λ (x : List Symbol). let c : Code = record { symbols = x; functions = new.functions; datums = new.datums; main_args = new.main_args } in c) o.symbols
      ∙ (ap (λ (x : List Datum). let c : Code = record { symbols = old.symbols; functions = new.functions; datums = x; main_args = new.main_args } in c) o.datums
      ∙ ap (λ (x : Bool). let c : Code = record { symbols = old.symbols; functions = new.functions; datums = old.datums; main_args = x } in c) o.main_args))

  library_same : (n : ℕ) → (if is_function_of old n && is_nothing (segment_of old.functions n).lines then library_of (slice_get old.symbols n) else None)
      ≡ (if is_function_of (record { symbols = old.symbols; functions = new.functions; datums = old.datums; main_args = old.main_args }) n && is_nothing (segment_of new.functions n).lines then library_of (slice_get old.symbols n) else None)
  library_same n =
      ap (λ (b : Bool). if b && is_nothing (segment_of old.functions n).lines then library_of (slice_get old.symbols n) else None) (function_same n)
      ∙ ap (λ (b : Bool). if is_function_of (record { symbols = old.symbols; functions = new.functions; datums = old.datums; main_args = old.main_args }) n && b then library_of (slice_get old.symbols n) else None) (empty_same n)

  all_same : (place : Placement) → mixed (setting_of old place) (lines_in new) old.functions ≡ setting_of new place
  unfolding mixed
  all_same place =
      setting_same _ _ _ _ _ _ _ _ place (fun_ext lines_same) (fun_ext gives_same) (fun_ext function_same) (fun_ext library_same)
      ∙ ap (λ (c : Code). setting_of c place) code_same

  pub code_followed : FollowsUntilEndEverywhere old new main
  code_followed = record {
    map = whole.map;
    more = whole.more;
    at = λ place p. subst (λ (t : Setting). FollowsUntilEnd whole.map whole.more (setting_of old place) t main) (all_same place) (whole.follows place (open_at old place p) (literals_stand old place literals p));
  }
