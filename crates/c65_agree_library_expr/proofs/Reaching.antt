-- The functions of the library may be reached through pointers.
use Rattle.std.proofs.Common.{◌≡◌, ℕ, zero, suc, ◌+◌, inr, Bool, true, false, ◌∷◌, length, refl, sym, ap, ◌∙◌, subst, arith}
use Rattle.std.specs.Prelude.{◌||◌, not}
use Rattle.std.proofs.lemmas.Bool.{or_left, or_right}
use Rattle.c65_base.specs.declared.library.Library.{Library}
use Rattle.c65_base.specs.declared.library.Library.TheVariants.{Putchar, Getchar, Puts, Exit, Memcpy, Memset, Strcmp, Strcpy, Strlen, Printf}
use Rattle.c65_csem.specs.Library.{takes_more}
use Rattle.c65_csem.specs.Trees.{Nodes, none, some, UnitTy}
use Rattle.c65_meaning.specs.Store.{Place}
use Rattle.c65_meaning.specs.Shapes.{types_of}
use Rattle.c65_meaning.specs.Items.{Invoke}
use Rattle.c65_meaning.specs.State.{Running}
use Rattle.c65_code.specs.declared.parts.RegSet.{RegSet}
use Rattle.c65_code.specs.Parts.{has_part, no_parts, union_of, IsWithin}
use Rattle.c65_code.specs.Effects.{sp_bytes, bank_bytes, only_y, ax, kept_at_calls, library_reads}
use Rattle.c65_code.proofs.PartLaws.{has_part-union, has_part-empty}
use Rattle.c65_genframe.specs.Frames.{Framed}
use Rattle.c65_genframe.specs.Registers.{registers}
use Rattle.c65_genframe.specs.Symbols.{numbers_of, function_symbol}
use Rattle.c65_genexpr.specs.declared.arguments.Passed.{Passed}
use Rattle.c65_genexpr.specs.Types.{bare}
use Rattle.c65_genexpr.specs.Arguments.{is_fast, is_counted, passed_of, reads_of}
use Rattle.c65_genexpr.specs.Calls.{count_code}
use Rattle.c65_agree_state.specs.World.{unit_in, lines_of, place_in}
use Rattle.c65_agree_state.proofs.Followed.{follows_weaken}
use Rattle.c65_agree_library.specs.Calls.{IsLibraryCall}
use Rattle.c65_agree_argument.specs.Arguments.{left_of, piled}
use Rattle.c65_agree_invoke.specs.Nodes.{gives_in}
use Rattle.c65_agree_invoke.specs.Targets.{RestOfCall, CallsIt}
use Rattle.c65_agree_library_expr.specs.Callees.{named_by, AreNamed}
use Rattle.c65_agree_library_expr.specs.Laws.{LibraryFunctionsMayBeReached}
use Rattle.c65_agree_invoke.proofs.Lines.{lasts}
use Rattle.c65_agree_library_expr.proofs.Library.{library_goes}

-- what its routine reads is passed, or kept at each call
within_both : (r s k : RegSet) → IsWithin s k → IsWithin (union_of r s) (union_of r k)
within_both r s k inside part h = has_part-union r k part ∙ by (has_part r part) refl (sym (has_part-union r s part) ∙ h)
  where
    by : (first : Bool) → has_part r part ≡ first → (has_part r part || has_part s part) ≡ true → (has_part r part || has_part k part) ≡ true
    by true e both = or_left (has_part r part) (has_part k part) e
    by false e both = or_right (has_part r part) (has_part k part) (inside part (sym (ap (λ x. x || has_part s part) e) ∙ both))

within_first : (r k : RegSet) → IsWithin r (union_of r k)
within_first r k part h = has_part-union r k part ∙ or_left (has_part r part) (has_part k part) h

none_within : (k : RegSet) → IsWithin no_parts k
none_within k part h = let clash : false ≡ true = sym (has_part-empty part) ∙ h in cc

-- the last argument that is named stays in AX
last_is_held : (u : UnitTy) (f : Framed) (n : ℕ) (es : Nodes) → AreNamed u f false (suc n) es → (passed_of f true es).last ≡ 2
last_is_held u f zero none h = absurd h
last_is_held u f zero (some e none) h = h.0
last_is_held u f zero (some e (some d es)) h = absurd h.1
last_is_held u f (suc n) none h = absurd h
last_is_held u f (suc n) (some e none) h = absurd h.1
last_is_held u f (suc n) (some e (some d es)) h = last_is_held u f n (some d es) h.1

module _ (u : UnitTy) (f : Framed) (es : Nodes) where
  abbrev Passes : Library → Bool → Bool → Type 0
  Passes l fast counted = IsWithin (library_reads l) (union_of (reads_of counted (passed_of f fast es)) kept_at_calls)

  in_ax : (n : ℕ) → AreNamed u f false (suc n) es → IsWithin ax (union_of (registers (passed_of f true es).last) kept_at_calls)
  in_ax n named = subst (λ m. IsWithin ax (union_of (registers m) kept_at_calls)) (sym (last_is_held u f n es named)) (within_first ax kept_at_calls)

  in_ax_and_sp : (n : ℕ) → AreNamed u f false (suc n) es → IsWithin (union_of ax sp_bytes) (union_of (registers (passed_of f true es).last) kept_at_calls)
  in_ax_and_sp n named = subst (λ m. IsWithin (union_of ax sp_bytes) (union_of (registers m) kept_at_calls)) (sym (last_is_held u f n es named)) (within_both ax sp_bytes kept_at_calls (within_first sp_bytes bank_bytes))

  passes_by : (l : Library) (fast counted : Bool) → fast ≡ not (takes_more l) → counted ≡ takes_more l → AreNamed u f (takes_more l) (named_by l) es → Passes l fast counted
  passes_by Printf fast true e m named = within_both only_y sp_bytes kept_at_calls (within_first sp_bytes bank_bytes)
  passes_by Printf fast false e m named = cc
  passes_by Getchar fast counted e m named = none_within (union_of (reads_of counted (passed_of f fast es)) kept_at_calls)
  passes_by Putchar true false e m named = in_ax 0 named
  passes_by Puts true false e m named = in_ax 0 named
  passes_by Exit true false e m named = in_ax 0 named
  passes_by Strlen true false e m named = in_ax 0 named
  passes_by Memcpy true false e m named = in_ax_and_sp 2 named
  passes_by Memset true false e m named = in_ax_and_sp 2 named
  passes_by Strcmp true false e m named = in_ax_and_sp 1 named
  passes_by Strcpy true false e m named = in_ax_and_sp 1 named
  passes_by Putchar false counted e m named = cc
  passes_by Puts false counted e m named = cc
  passes_by Exit false counted e m named = cc
  passes_by Strlen false counted e m named = cc
  passes_by Memcpy false counted e m named = cc
  passes_by Memset false counted e m named = cc
  passes_by Strcmp false counted e m named = cc
  passes_by Strcpy false counted e m named = cc
  passes_by Putchar true true e m named = cc
  passes_by Puts true true e m named = cc
  passes_by Exit true true e m named = cc
  passes_by Strlen true true e m named = cc
  passes_by Memcpy true true e m named = cc
  passes_by Memset true true e m named = cc
  passes_by Strcmp true true e m named = cc
  passes_by Strcpy true true e m named = cc

pub library_functions_may_be_reached : LibraryFunctionsMayBeReached
library_functions_may_be_reached g a n t f es i l function placed is fits small few is_code library = record { few = few; is_code = is_code; calls = calls }
  where
    calls : CallsIt g a n t f es i
    calls pushed count j w at k vs xs c q b u c1 q1 b1 u1 seen le args over ready there callee has turns rest =
        let counted : Bool = is_counted (bare f) in
        let what : Passed = passed_of a.frame (is_fast (bare f)) es in
        let last = lasts (lines_of g a) at counted what (gives_in a.frame t) has in
        let line : IsLibraryCall g a l (at + length (count_code counted what)) u1 = inr (record {
          reads = reads_of counted what;
          gives = gives_in a.frame t;
          symbol = (function_symbol (numbers_of g.parts) i).0;
          there = last.line.0;
          callee = callee;
          library = library;
          passes = passes_by (unit_in g) a.frame es l (is_fast (bare f)) counted fits.fast fits.counted fits.taken;
        }) in
        follows_weaken g j (w + 2000) (w + 2000 + left_of es) (Running (Invoke (bare f) (types_of es) ∷ k) (piled xs (Place i 0 ∷ vs)) c1) (place_in g a at) u1 seen (omega arith)
        (library_goes g a placed i l function is t (bare f) es small fits pushed count j w k vs xs c q b u c1 q1 b1 u1 seen args at turns last.counts line over ready there
        (subst (λ m. RestOfCall g a n t f es pushed count j w m k vs c q b u) (sym last.end) rest))
