-- Where calls of functions of the library are opened, the code with the lines follows the code with the calls.
use Rattle.std.proofs.Common.{◌≡◌, ℕ, zero, suc, ◌+◌, ◌≤◌, Bool, true, false, List, [], ◌∷◌, ◌++◌, length, Option, Some, None, refl, sym, subst, ap, arith}
use Rattle.std.specs.Prelude.{take, drop}
use Rattle.std.specs.List.{list_all}
use Rattle.std.proofs.lemmas.Bool.{and_parts, and_from}
use Rattle.std.proofs.lemmas.List.{length-drop}
use Rattle.c65_base.specs.declared.library.Library.{Library}
use Rattle.c65_base.specs.declared.library.Library.TheVariants.{Memcpy, Memset, Strcmp, Strcpy, Strlen}
use Rattle.c65_mach.specs.declared.rows.Op.TheVariants as ops
use Rattle.c65_mach.specs.declared.rows.Mode.TheVariants.{Immediate}
use Rattle.c65_code.specs.declared.line.Line.{Line}
use Rattle.c65_code.specs.declared.line.Line.TheVariants.{Call, Do}
use Rattle.c65_code.specs.declared.line.Callee.TheVariants as callees
use Rattle.c65_code.specs.declared.line.Operand.{Operand}
use Rattle.c65_code.specs.declared.line.Sym.{Sym}
use Rattle.c65_code.specs.declared.parts.RegSet.{RegSet}
use Rattle.c65_code.specs.declared.routine.Routine.TheVariants as routines
use Rattle.c65_code.specs.Forms.{form_of}
use Rattle.c65_code.specs.Placement.{Setting}
use Rattle.c65_code.specs.Rewriting.{HasLiterals, with_lines, mapped_in}
use Rattle.c65_code.specs.Segments.{is_fit}
use Rattle.c65_know.specs.Known.{annotated}
use Rattle.c65_know_law.specs.Laws.{Knows}
use Rattle.c65_live.specs.Tables.{Table, live_after}
use Rattle.c65_pass.specs.KnownCalls.{at_most, text_loaded, count_loaded, measured, copied, filled, text_copied, compared, once_and, times, byte_copied, byte_filled, given_back, call_known, lines_known}
use Rattle.c65_pass.specs.Rewriting.{Rewriting, rewritten}
use Rattle.c65_pass.specs.Rules.{match_there, match_at}
use Rattle.c65_pass.specs.StackRules.{is_settled, in_place, call_of, word_loaded}
use Rattle.c65_opt_law_near.specs.Laws.{IsLow}
use Rattle.c65_opt_law_follow.specs.Windows.{WayOut, IsInner, AreInner, Justified}
use Rattle.c65_opt_law_follow.specs.Laws.{AreByteLines, IsSound, JustifiedFollow, exit_place, before_place, window}
use Rattle.c65_opt_law_chains.specs.Laws.{IsFollowedUntilEnd, FollowingHolds}
use Rattle.c65_opt_law_whole.specs.Laws.{IsCodeWith}
use Rattle.c65_opt_law_opened.specs.Texts.{LibraryServes}
use Rattle.c65_opt_law_opened.proofs.Compared.{strcmp_stands}
use Rattle.c65_opt_law_opened.proofs.Counted.{memcpy_stands}
use Rattle.c65_opt_law_opened.proofs.Filled.{memset_stands}
use Rattle.c65_opt_law_opened.proofs.Measured.{strlen_stands}
use Rattle.c65_opt_law_opened.proofs.Serves.{knowing}
use Rattle.c65_opt_law_opened.proofs.Stand.{some_is}
use Rattle.c65_opt_law_opened.proofs.TextCopied.{strcpy_stands}

-- ---- lines of a window

inner_both : (xs ys : List Line) → AreInner xs → AreInner ys → AreInner (xs ++ ys)
inner_both [] ys h k = k
inner_both (x ∷ xs) ys h k = (h.0, inner_both xs ys h.1 k)

once_inner : (lines : List Line) (n : ℕ) → AreInner lines → AreInner (once_and lines n)
once_inner lines zero h = h
once_inner lines (suc n) h = inner_both (once_and lines n) _ (once_inner lines n h) (tt, h)

times_inner : (lines : List Line) (n : ℕ) → AreInner lines → AreInner (times lines n)
times_inner lines zero h = tt
times_inner lines (suc n) h = once_inner lines n h

moved_inner : (lines : List Line) (n : ℕ) → AreInner lines → AreInner (times lines n ++ given_back)
moved_inner lines n h = inner_both (times lines n) given_back (times_inner lines n h) (tt, (tt, tt))

loads_inner : (one other : Line) (word : Operand × Operand) → word_loaded one other ≡ Some word → IsInner (form_of one) × IsInner (form_of other)
loads_inner (Do ops.Ldx Immediate x) (Do ops.Lda Immediate a) word e = (tt, tt)
loads_inner (Do ops.Lda Immediate a) (Do ops.Ldx Immediate x) word e = (tt, tt)
loads_inner _ _ word e = absurd cc

-- ---- what is known of a call

measured_inner : (o : Option ℕ) (new : List Line) → measured o ≡ Some new → AreInner new
measured_inner None new e = absurd cc
measured_inner (Some n) new e = subst AreInner (some_is _ new e) (tt, (tt, tt))

copied_inner : (o : Option ℕ) (new : List Line) → copied o ≡ Some new → AreInner new
copied_inner None new e = absurd cc
copied_inner (Some n) new e = subst AreInner (some_is _ new e) (tt, (tt, moved_inner byte_copied n (tt, (tt, tt))))

filled_inner : (o : Option ℕ) (new : List Line) → filled o ≡ Some new → AreInner new
filled_inner None new e = absurd cc
filled_inner (Some n) new e = subst AreInner (some_is _ new e) (tt, (tt, (tt, moved_inner byte_filled n (tt, tt))))

text_inner : (one other : Line) (o : Option ℕ) (new : List Line) → IsInner (form_of one) → IsInner (form_of other) → text_copied one other o ≡ Some new → AreInner new
text_inner one other None new h k e = absurd cc
text_inner one other (Some n) new h k e = subst AreInner (some_is _ new e) (h, (k, (tt, (tt, (tt, (tt, (tt, (tt, moved_inner byte_copied (n + 1) (tt, (tt, tt))))))))))

compared_inner : (o : Option ℕ) (new : List Line) → compared o ≡ Some new → AreInner new
compared_inner None new e = absurd cc
compared_inner (Some n) new e = subst AreInner (some_is _ new e) (tt, (tt, (tt, (tt, (tt, (tt, tt))))))

-- a word is loaded
word_there : (literals : List (Sym × List ℕ)) (f : Library) (one other : Line) (new : List Line) (o : Option (Operand × Operand)) → call_known literals f one other o ≡ Some new → (word : Operand × Operand) × (o ≡ Some word)
word_there literals f one other new (Some word) e = (word, refl)
word_there literals Strlen one other new None e = absurd cc
word_there literals Memcpy one other new None e = absurd cc
word_there literals Memset one other new None e = absurd cc
word_there literals Strcpy one other new None e = absurd cc
word_there literals Strcmp one other new None e = absurd cc
word_there literals _ one other new None e = absurd cc

-- the lines that are known are of the inside of a function
new_inner : (literals : List (Sym × List ℕ)) (one other : Line) (new : List Line) → IsInner (form_of one) → IsInner (form_of other) → (f : Library) → call_known literals f one other (word_loaded one other) ≡ Some new → AreInner new
new_inner literals one other new h k Strlen e = measured_inner (at_most 65535 (text_loaded literals (word_loaded one other))) new e
new_inner literals one other new h k Memcpy e = copied_inner (count_loaded (word_loaded one other)) new e
new_inner literals one other new h k Memset e = filled_inner (count_loaded (word_loaded one other)) new e
new_inner literals one other new h k Strcpy e = text_inner one other (at_most 7 (text_loaded literals (word_loaded one other))) new h k e
new_inner literals one other new h k Strcmp e = compared_inner (at_most 0 (text_loaded literals (word_loaded one other))) new e
new_inner literals one other new h k _ e = absurd cc

-- and calls of these functions are, too
silent : (literals : List (Sym × List ℕ)) (one other : Line) (new : List Line) (f : Library) → call_known literals f one other (word_loaded one other) ≡ Some new → AreInner (call_of (routines.Library f) ∷ [])
silent literals one other new Strlen e = (tt, tt)
silent literals one other new Memcpy e = (tt, tt)
silent literals one other new Memset e = (tt, tt)
silent literals one other new Strcpy e = (tt, tt)
silent literals one other new Strcmp e = (tt, tt)
silent literals one other new _ e = absurd cc

known_inner : (literals : List (Sym × List ℕ)) (one other : Line) (f : Library) (new : List Line) → call_known literals f one other (word_loaded one other) ≡ Some new → AreInner (one ∷ other ∷ call_of (routines.Library f) ∷ []) × AreInner new
known_inner literals one other f new e =
    let word = word_there literals f one other new (word_loaded one other) e in
    let loads = loads_inner one other word.0 word.1 in
    ((loads.0, (loads.1, silent literals one other new f e)), new_inner literals one other new loads.0 loads.1 f e)

-- they may stand for the two loads and the call, whatever is live behind them
known_stand : (s : Setting) (literals : List (Sym × List ℕ)) → IsLow s.place → HasLiterals literals s.place → (one other : Line) (f : Library) (new : List Line) → call_known literals f one other (word_loaded one other) ≡ Some new
    → (to : WayOut → ℕ) (after : WayOut → RegSet) → Justified s to after (λ t. Unit {0}) (one ∷ other ∷ call_of (routines.Library f) ∷ []) new
known_stand s literals low texts one other Strlen new e = strlen_stands s literals low texts one other new e
known_stand s literals low texts one other Memcpy new e = memcpy_stands s literals low texts one other new e
known_stand s literals low texts one other Memset new e = memset_stands s literals low texts one other new e
known_stand s literals low texts one other Strcpy new e = strcpy_stands s literals low texts one other new e
known_stand s literals low texts one other Strcmp new e = strcmp_stands s literals low texts one other new e
known_stand s literals low texts one other _ new e = absurd cc

-- ---- what is made

pub record LibraryAt (literals : List (Sym × List ℕ)) (lines : List Line) (at : ℕ) (w : Rewriting) : Type 0 where
  pub one : Line
  pub other : Line
  pub function : Library
  pub post : List Line
  pub new : List Line
  pub here : drop at lines ≡ one ∷ other ∷ call_of (routines.Library function) ∷ post
  pub made : record { at = at; count = 3; lines = new } ≡ w
  pub known : call_known literals function one other (word_loaded one other) ≡ Some new

placed : (o : Option (List Line)) (b : Bool) (at : ℕ) (w : Rewriting) → in_place o b 3 at ≡ Some w → (new : List Line) × (o ≡ Some new) × (record { at = at; count = 3; lines = new } ≡ w)
placed None b at w e = absurd cc
placed (Some new) true at w e = (new, refl, cc)
placed (Some new) false at w e = absurd cc

by_call : (literals : List (Sym × List ℕ)) (lines : List Line) (at : ℕ) (w : Rewriting) (one other call : Line) (post new : List Line) → drop at lines ≡ one ∷ other ∷ call ∷ post → lines_known literals one other call ≡ Some new
    → record { at = at; count = 3; lines = new } ≡ w → LibraryAt literals lines at w
by_call literals lines at w one other (Call (callees.Routine (routines.Library f))) post new e k made = record { one = one; other = other; function = f; post = post; new = new; here = e; made = made; known = k }
by_call literals lines at w one other _ post new e k made = absurd cc

library_at : (out : RegSet) (literals : List (Sym × List ℕ)) (lines : List Line) (table : Table) (at : ℕ) (w : Rewriting) → match_at 40 literals (annotated lines out) table at ≡ Some w → LibraryAt literals lines at w
library_at out literals lines table at w m = go (drop at lines) refl m
  where
    go : (rest : List Line) → drop at lines ≡ rest → match_there 40 literals (annotated lines out) table at rest ≡ Some w → LibraryAt literals lines at w
    go (one ∷ other ∷ call ∷ post) e k =
        let p = placed (lines_known literals one other call) (is_settled table (at + 2) call) at w k in
        by_call literals lines at w one other call post p.0 e p.1 p.2
    go [] e k = absurd cc
    go (one ∷ []) e k = absurd cc
    go (one ∷ other ∷ []) e k = absurd cc

-- ---- it is followed

-- lines in the middle of such as may stand in a segment
fit_part : (xs ys : List Line) → list_all is_fit (xs ++ ys) ≡ true → (list_all is_fit xs ≡ true) × (list_all is_fit ys ≡ true)
fit_part [] ys h = (refl, h)
fit_part (x ∷ xs) ys h =
    let both = and_parts (is_fit x) (list_all is_fit (xs ++ ys)) h in
    let rest = fit_part xs ys both.1 in
    (and_from (is_fit x) (list_all is_fit xs) both.0 rest.0, rest.1)

bytes_part : (xs ys : List Line) → AreByteLines (xs ++ ys) → AreByteLines xs × AreByteLines ys
bytes_part [] ys h = (tt, h)
bytes_part (x ∷ xs) ys h = let rest = bytes_part xs ys h.1 in ((h.0, rest.0), rest.1)

sound_part : (xs ys zs : List Line) → IsSound (xs ++ (ys ++ zs)) → IsSound ys
sound_part xs ys zs h = record { fit = (fit_part ys zs (fit_part xs (ys ++ zs) h.fit).1).0; bytes = (bytes_part ys zs (bytes_part xs (ys ++ zs) h.bytes).1).0 }

module _ (justify : JustifiedFollow) (holds : FollowingHolds) where
  pub library_serves : LibraryServes
  library_serves literals f main out lines table at w segment live m sound some =
      let x : LibraryAt literals lines at w = library_at out literals lines table at w m in
      subst (λ (v : Rewriting). IsFollowedUntilEnd (IsCodeWith literals f out lines) f main lines (rewritten lines v)) x.made (followed x)
    where
      followed : (x : LibraryAt literals lines at w) → IsFollowedUntilEnd (IsCodeWith literals f out lines) f main lines (rewritten lines (record { at = at; count = 3; lines = x.new }))
      followed x =
          let here : List Line = x.one ∷ x.other ∷ call_of (routines.Library x.function) ∷ [] in
          let old : window lines at 3 ≡ here = ap (take 3) x.here in
          let long : at + 3 ≤ length lines = omega (arith, ap length x.here, length-drop at lines) in
          let there = subst (λ (v : Rewriting). IsSound (rewritten lines v) × (1 ≤ length (rewritten lines v))) (sym x.made) (sound, some) in
          let new : IsSound x.new = sound_part (take at lines) x.new (drop (at + 3) lines) there.0 in
          let inner = known_inner literals x.one x.other x.function x.new x.known in
          let done = justify f main out lines table at 3 x.new live long (omega arith) (subst AreInner (sym old) inner.0) new inner.1 there.1 in
          record {
            map = done.0;
            more = 0;
            follows = λ s code.
                let r : Setting = with_lines s f lines in
                let to : WayOut → ℕ = exit_place lines (at + 3) in
                let after : WayOut → RegSet = λ exit. before_place out lines (live_after table) (exit_place lines (at + 3) exit) in
                let j : Justified r to after (Knows lines at) here x.new = knowing r to after (Knows lines at) here x.new (known_stand r literals code.apt.low code.literal_bytes x.one x.other x.function x.new x.known to after) in
                holds (mapped_in f done.0) 0 r (with_lines s f (rewritten lines (record { at = at; count = 3; lines = x.new }))) main
                (done.1 s code.apt (subst (λ (ls : List Line). Justified r to after (Knows lines at) ls x.new) (sym old) j));
          }
