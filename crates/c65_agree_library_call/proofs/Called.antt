-- The step of a call of the library's functions.
use Rattle.std.proofs.Common.{◌≡◌, ℕ, ◌+◌, ◌≤◌, List, [], ◌∷◌, refl, sym, ap, ◌∙◌, subst, arith}
use Rattle.std.specs.Prelude.{Option, Some, None, length, take, slice_get}
use Rattle.c65_base.specs.declared.library.Library.{Library}
use Rattle.c65_base.specs.declared.library.Library.TheVariants.{Exit, Getchar, Memcpy, Memset, Printf, Putchar, Puts, Strcmp, Strcpy, Strlen}
use Rattle.c65_ctype.specs.Trees.{Ty}
use Rattle.c65_csem.specs.Trees.{FuncTy, UnitTy}
use Rattle.c65_meaning.specs.Why.{Why}
use Rattle.c65_meaning.specs.Store.{Cell, Value, Place}
use Rattle.c65_meaning.specs.Items.{Item, Invoke}
use Rattle.c65_meaning.specs.State as meaning
use Rattle.c65_meaning.specs.State.{Scene, Running}
use Rattle.c65_meaning.specs.Calls.{named_count}
use Rattle.c65_meaning.specs.Step.{perform, provided, taken, cells_behind, called, allowed, unless_refused, accepted, invoked}
use Rattle.c65_code.specs.LineState.{Place as Spot, State}
use Rattle.c65_code.specs.Steady.{IsCalm}
use Rattle.c65_code.specs.Comes.{Seen}
use Rattle.c65_agree_state.specs.World.{World, unit_in, program_in, setting_in, place_in, total_in}
use Rattle.c65_agree_state.specs.Follows.{Follows}
use Rattle.c65_agree_state.proofs.Followed.{steps_earn, ready_is_calm}
use Rattle.c65_agree_rows.proofs.Quiet.{nothing_follows}
use Rattle.c65_agree_library.specs.Calls.{waiting_from, CallsAreFollowed}
use Rattle.c65_agree_library.proofs.Putchar.{putchar_is_followed}
use Rattle.c65_agree_library.proofs.Getchar.{getchar_is_followed}
use Rattle.c65_agree_library_text.proofs.Strlen.{puts_is_followed, strlen_is_followed}
use Rattle.c65_agree_library_text.proofs.Strcmp.{strcmp_is_followed}
use Rattle.c65_agree_library_area.proofs.Memcpy.{memcpy_is_followed}
use Rattle.c65_agree_library_area.proofs.Strcpy.{strcpy_is_followed}
use Rattle.c65_agree_library_area.proofs.Memset.{memset_is_followed}
use Rattle.c65_agree_library.proofs.Exit.{exit_is_followed}
use Rattle.c65_agree_library_print.proofs.Counted.{counted_printf_is_followed}
use Rattle.c65_agree_library_call.specs.Laws.{CalledIsFollowed, LibraryCallsAreFollowed, PrintfCallsAreFollowed}

-- the step of such a call
step_is : (u : UnitTy) (f : Library) (callee : Ty) (types : List Ty) (k : List Item) (args ws vs : List Value) (c : Scene) (h : ℕ) (entry : FuncTy) → taken types [] ws ≡ Some (args, Place h 0 ∷ vs) → slice_get u.funcs h ≡ Some entry → entry.body ≡ None → entry.library ≡ Some f
    → invoked u callee types k (taken types [] ws) c ≡ unless_refused u (allowed u callee types args entry) (provided f (take (named_count entry.ty) args) (cells_behind u (named_count entry.ty) types args) k vs c)
step_is u f callee types k args ws vs c h entry passed is body library =
    ap (λ o. invoked u callee types k o c) passed ∙ ap (λ o. accepted u callee h types args o k vs c) is
    ∙ ap (λ o. unless_refused u (allowed u callee types args entry) (called u h types args entry o entry.library k vs c)) body ∙ ap (λ o. unless_refused u (allowed u callee types args entry) (called u h types args entry None o k vs c)) library

-- the state behind it, where the call fits the function
abbrev pub served_by : UnitTy → Library → FuncTy → List Ty → List Value → List Item → List Value → Scene → meaning.State
served_by u f entry types args k vs c = provided f (take (named_count entry.ty) args) (cells_behind u (named_count entry.ty) types args) k vs c

-- A call that does not fit the function has no meaning, and any other is the function's.
pub provided_or_not : (g : World) (f : Library) (callee : Ty) (types : List Ty) (entry : FuncTy) (k : List Item) (args ws vs : List Value) (c : Scene) (h n v : ℕ) (q : Spot) (t : State) (seen : Seen)
    → taken types [] ws ≡ Some (args, Place h 0 ∷ vs) → slice_get (unit_in g).funcs h ≡ Some entry → entry.body ≡ None → entry.library ≡ Some f
    → IsCalm (setting_in g) t → t.output ≡ c.out → t.ended ≡ None → c.turns ≤ total_in g seen
    → (perform (program_in g) (Invoke callee types) k ws c ≡ served_by (unit_in g) f entry types args k vs c → Follows g n v (Running (Invoke callee types ∷ k) ws c) q t seen) → Follows g n v (Running (Invoke callee types ∷ k) ws c) q t seen
provided_or_not g f callee types entry k args ws vs c h n v q t seen passed is body library calm output running turns follows = go (allowed (unit_in g) callee types args entry) refl
  where
    step : perform (program_in g) (Invoke callee types) k ws c ≡ unless_refused (unit_in g) (allowed (unit_in g) callee types args entry) (served_by (unit_in g) f entry types args k vs c)
    step = step_is (unit_in g) f callee types k args ws vs c h entry passed is body library

    go : (o : Option Why) → allowed (unit_in g) callee types args entry ≡ o → Follows g n v (Running (Invoke callee types ∷ k) ws c) q t seen
    go None e = follows (step ∙ ap (λ o. unless_refused (unit_in g) o (served_by (unit_in g) f entry types args k vs c)) e)
    go (Some why) e =
        steps_earn g n v (Invoke callee types) k ws c q t seen calm output running turns (λ j lt.
        subst (λ m. Follows g j (v + 4000) m q t seen) (sym (step ∙ ap (λ o. unless_refused (unit_in g) o (served_by (unit_in g) f entry types args k vs c)) e)) (nothing_follows g why j (v + 4000) q t seen))

called_is : (f : Library) → CallsAreFollowed f → CalledIsFollowed f
called_is f follows g a pushed needs c w banks t n v p h callee types entry k args ws vs seen placed there passed is body library ready waits turns behind =
    provided_or_not g f callee types entry k args ws vs c h n v (place_in g a p) t seen passed is body library (ready_is_calm g a (pushed + waiting_from (take (named_count entry.ty) args)) needs c w banks t ready).calm ready.joins.output ready.joins.ended (omega (arith, turns)) (λ step.
    follows g a pushed needs c w banks t n v p (Invoke callee types) k (take (named_count entry.ty) args) ws vs (cells_behind (unit_in g) (named_count entry.ty) types args) seen placed there ready waits turns step behind)

pub library_calls_are_followed : LibraryCallsAreFollowed
library_calls_are_followed Putchar h = called_is Putchar putchar_is_followed
library_calls_are_followed Getchar h = called_is Getchar getchar_is_followed
library_calls_are_followed Puts h = called_is Puts puts_is_followed
library_calls_are_followed Exit h = called_is Exit exit_is_followed
library_calls_are_followed Memcpy h = called_is Memcpy memcpy_is_followed
library_calls_are_followed Memset h = called_is Memset memset_is_followed
library_calls_are_followed Strcmp h = called_is Strcmp strcmp_is_followed
library_calls_are_followed Strlen h = called_is Strlen strlen_is_followed
library_calls_are_followed Strcpy h = called_is Strcpy strcpy_is_followed
library_calls_are_followed Printf h = absurd h

pub printf_calls_are_followed : PrintfCallsAreFollowed
printf_calls_are_followed g a pushed needs c w banks t n v p h callee types entry k args ws vs format seen placed counts there few passed is body library named ready given turns behind =
    provided_or_not g Printf callee types entry k args ws vs c h n (1 + v) (place_in g a p) t seen passed is body library (ready_is_calm g a (pushed + (length rest + 2)) needs c w banks t ready).calm ready.joins.output ready.joins.ended (omega (arith, turns)) (λ step.
    counted_printf_is_followed g a pushed needs c w banks t n v p (Invoke callee types) k format ws vs rest seen placed counts there few ready given turns (step ∙ ap (λ xs. provided Printf xs rest k vs c) named) behind)
  where
    rest : List Cell
    rest = cells_behind (unit_in g) (named_count entry.ty) types args
