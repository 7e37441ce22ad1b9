-- Where calls are opened, the code with the lines follows the code with the calls.
use Rattle.std.proofs.Common.{◌≡◌, ℕ, ◌+◌, ◌≤◌, Bool, true, false, List, [], ◌∷◌, length, Option, Some, None, refl, sym, subst, ap, arith}
use Rattle.std.specs.Prelude.{take, drop}
use Rattle.std.proofs.lemmas.List.{length-drop}
use Rattle.c65_code.specs.declared.line.Line.{Line}
use Rattle.c65_code.specs.declared.line.Line.TheVariants.{Call}
use Rattle.c65_code.specs.declared.line.Callee.TheVariants as callees
use Rattle.c65_code.specs.declared.line.Sym.{Sym}
use Rattle.c65_code.specs.declared.parts.RegSet.{RegSet}
use Rattle.c65_code.specs.declared.routine.Routine.{Routine}
use Rattle.c65_code.specs.LineState.{State}
use Rattle.c65_code.specs.Placement.{Setting}
use Rattle.c65_code.specs.Rewriting.{with_lines, mapped_in}
use Rattle.c65_know.specs.Known.{annotated}
use Rattle.c65_know_law.specs.Laws.{Knows}
use Rattle.c65_live.specs.Tables.{Table, live_after}
use Rattle.c65_pass.specs.LibraryRules.{call_opened}
use Rattle.c65_pass.specs.Rewriting.{Rewriting, rewritten}
use Rattle.c65_pass.specs.Rules.{match_there, match_at}
use Rattle.c65_pass.specs.StackRules.{is_settled, in_place, call_of}
use Rattle.c65_opt_law_follow.specs.Windows.{WayOut, AreInner, Starts, Justified}
use Rattle.c65_opt_law_follow.specs.Laws.{IsSound, JustifiedFollow, exit_place, before_place, window}
use Rattle.c65_opt_law_chains.specs.Laws.{IsFollowedUntilEnd, FollowingHolds}
use Rattle.c65_opt_law_whole.specs.Laws.{IsCodeWith}
use Rattle.c65_opt_law_opened.specs.Laws.{RoutinesServe}
use Rattle.c65_opt_law_opened.proofs.Stand.{AreOpened, routine_opened, opened_stand}

-- ---- what is made

-- a call that is opened at a place
pub record OpenedAt (lines : List Line) (at : ℕ) (w : Rewriting) : Type 0 where
  pub routine : Routine
  pub new : List Line
  pub post : List Line
  pub here : drop at lines ≡ call_of routine ∷ post
  pub made : record { at = at; count = 1; lines = new } ≡ w
  pub opened : AreOpened routine new

placed : (o : Option (List Line)) (b : Bool) (at : ℕ) (w : Rewriting) → in_place o b 1 at ≡ Some w → (new : List Line) × (o ≡ Some new) × (record { at = at; count = 1; lines = new } ≡ w)
placed None b at w e = absurd cc
placed (Some new) true at w e = (new, refl, cc)
placed (Some new) false at w e = absurd cc

opened_call : (lines : List Line) (at : ℕ) (w : Rewriting) (line : Line) (post new : List Line) → drop at lines ≡ line ∷ post → call_opened line ≡ Some new → record { at = at; count = 1; lines = new } ≡ w → OpenedAt lines at w
opened_call lines at w (Call (callees.Routine r)) post new e o made = record { routine = r; new = new; post = post; here = e; made = made; opened = routine_opened r new o }
opened_call lines at w _ post new e o made = absurd cc

call_at : (out : RegSet) (literals : List (Sym × List ℕ)) (lines : List Line) (table : Table) (at : ℕ) (w : Rewriting) → match_at 39 literals (annotated lines out) table at ≡ Some w → OpenedAt lines at w
call_at out literals lines table at w m = go (drop at lines) refl m
  where
    go : (rest : List Line) → drop at lines ≡ rest → match_there 39 literals (annotated lines out) table at rest ≡ Some w → OpenedAt lines at w
    go [] e k = absurd cc
    go (line ∷ post) e k = let p = placed (call_opened line) (is_settled table at line) at w k in opened_call lines at w line post p.0 e p.1 p.2

-- ---- it is followed

-- what is justified where nothing is known is justified whatever is known
pub knowing : (s : Setting) (to : WayOut → ℕ) (after : WayOut → RegSet) (known : State → Type 0) (old new : List Line) → Justified s to after (λ t. Unit {0}) old new → Justified s to after known old new
knowing s to after known old new j = record { safe = λ w t h. j.safe w t (forget w t h); answers = λ w t h. j.answers w t (forget w t h) }
  where
    forget : (w : ℕ) (t : State) → Starts s known old w t → Starts s (λ t. Unit {0}) old w t
    forget w t h = record { knows = tt; running = h.running; bytes = h.bytes; safe = h.safe; calm = h.calm }

module _ (justify : JustifiedFollow) (holds : FollowingHolds) where
  pub routines_serve : RoutinesServe
  routines_serve literals f main out lines table at w segment live m sound some =
      let x : OpenedAt lines at w = call_at out literals lines table at w m in
      subst (λ (v : Rewriting). IsFollowedUntilEnd (IsCodeWith literals f out lines) f main lines (rewritten lines v)) x.made (followed x)
    where
      followed : (x : OpenedAt lines at w) → IsFollowedUntilEnd (IsCodeWith literals f out lines) f main lines (rewritten lines (record { at = at; count = 1; lines = x.new }))
      followed x =
          let old : window lines at 1 ≡ call_of x.routine ∷ [] = ap (take 1) x.here in
          let long : at + 1 ≤ length lines = omega (arith, ap length x.here, length-drop at lines) in
          let there = subst (λ (v : Rewriting). IsSound (rewritten lines v) × (1 ≤ length (rewritten lines v))) (sym x.made) (sound, some) in
          let done = justify f main out lines table at 1 x.new live long (omega arith) (subst AreInner (sym old) (x.opened.silent, tt)) x.opened.sound x.opened.inner there.1 in
          record {
            map = done.0;
            more = 0;
            follows = λ s code.
                let r : Setting = with_lines s f lines in
                let to : WayOut → ℕ = exit_place lines (at + 1) in
                let after : WayOut → RegSet = λ exit. before_place out lines (live_after table) (exit_place lines (at + 1) exit) in
                let j : Justified r to after (Knows lines at) (call_of x.routine ∷ []) x.new = knowing r to after (Knows lines at) (call_of x.routine ∷ []) x.new (opened_stand r to after x.routine x.new x.opened.silent (x.opened.opens r code.apt.low)) in
                holds (mapped_in f done.0) 0 r (with_lines s f (rewritten lines (record { at = at; count = 1; lines = x.new }))) main
                (done.1 s code.apt (subst (λ (ls : List Line). Justified r to after (Knows lines at) ls x.new) (sym old) j));
          }
