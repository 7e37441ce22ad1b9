-- What the lines of `,` do, and those of nodes without lines of their own.
use Rattle.std.proofs.Common.{◌≡◌, ℕ, suc, ◌+◌, max, List, [], ◌∷◌, ◌++◌, length, ap, subst, arith, length-append}
use Rattle.c65_meaning.specs.Store.{Value, Whole, Null, Place, Opaque, Cells, NoValue, Shape, Pointer}
use Rattle.c65_meaning.specs.Items.{Keep, Drop}
use Rattle.c65_meaning.specs.State.{Scene, soft_sum}
use Rattle.c65_code.specs.declared.line.Line.{Line}
use Rattle.c65_code.specs.LineState.{State}
use Rattle.c65_code.specs.Steady.{IsCalm}
use Rattle.c65_agree_store.specs.Stands.{Placing, Banks}
use Rattle.c65_agree_state.specs.World.{World, setting_in, Active, place_in, HasAt, HasTurns}
use Rattle.c65_agree_state.specs.Exprs.{Ready, Valued, Placed, Kept, Done}
use Rattle.c65_agree_state.specs.Laws.{ReadyStays, AddressesDo, CommasDo}
use Rattle.c65_agree_state.proofs.Followed.{follows_weaken, steps_earn, ready_is_calm}
use Rattle.c65_agree_state.proofs.Parts.{kept_goes_on}

pub has_front : (code : List Line) (p : ℕ) (a b : List Line) → HasAt code p (a ++ b) → HasAt code p a
has_front code p [] b h = tt
has_front code p (i ∷ a) b h = (h.0, has_front code (suc p) a b h.1)

pub has_back : (code : List Line) (p : ℕ) (a b : List Line) → HasAt code p (a ++ b) → HasAt code (p + length a) b
has_back code p [] b h = let e : p ≡ p + 0 = omega arith in subst (λ n. HasAt code n b) e h
has_back code p (i ∷ a) b h =
    let e : suc p + length a ≡ p + length (i ∷ a) = omega arith in
    subst (λ n. HasAt code n b) e (has_back code (suc p) a b h.1)

pub ready_stays : ReadyStays
ready_stays g a pushed needs fewer c c2 w w2 k k2 t t2 le r h =
    let cost : soft_sum c2.frames ≡ soft_sum c.frames = ap soft_sum h.frames in
    record { joins = h.joins; sp = omega (arith, h.sp, r.sp); room = omega (arith, le, cost, h.sp, r.room); none_pushed = h.none_pushed }

-- where an expression has ended the machine is calm
calm_behind : (g : World) (a : Active) (pushed needs : ℕ) (c c2 : Scene) (w w2 : Placing) (k k2 : Banks) (t t2 : State) → Ready g a pushed needs c w k t → Kept g a c w k t c2 w2 k2 t2 → IsCalm (setting_in g) t2
calm_behind g a pushed needs c c2 w w2 k k2 t t2 r h = (ready_is_calm g a pushed needs c2 w2 k2 t2 (ready_stays g a pushed needs needs c c2 w w2 k k2 t t2 (omega arith) r h)).calm

-- a place in memory as a pointer
as_pointer : (g : World) (a : Active) (shape : Shape) (size : ℕ) (c : Scene) (w : Placing) (k : Banks) (t : State) (v : Value) (c2 : Scene) (w2 : Placing) (k2 : Banks) (u : State) → Done g a Placed shape c w k t v c2 w2 k2 u → Done g a Valued (Pointer size) c w k t v c2 w2 k2 u
as_pointer g a shape size c w k t (Place b o) c2 w2 k2 u d = record { kept = d.kept; result = d.result; fits = tt }
as_pointer g a shape size c w k t (Whole z) c2 w2 k2 u d = absurd d.fits
as_pointer g a shape size c w k t Null c2 w2 k2 u d = absurd d.fits
as_pointer g a shape size c w k t Opaque c2 w2 k2 u d = absurd d.fits
as_pointer g a shape size c w k t (Cells xs) c2 w2 k2 u d = absurd d.fits
as_pointer g a shape size c w k t NoValue c2 w2 k2 u d = absurd d.fits

pub addresses_do : AddressesDo
addresses_do g a shape size needs pushed work lines does n w p k vs c q b t seen has r turns rest =
    does n w p (Keep ∷ k) vs c q b t seen has r turns (λ j v c2 q2 b2 u later lt done turned.
    steps_earn g j (w + 2600) Keep k (v ∷ vs) c2 _ u later (calm_behind g a pushed needs c c2 q q2 b b2 t u r done.kept) done.kept.joins.output done.kept.joins.ended (omega (arith, turned)) (λ i lt2.
    follows_weaken g i (w + 2600) (w + 2600 + 4000) _ _ u later (omega arith)
    (rest i v c2 q2 b2 u later (omega arith) (as_pointer g a shape size c q b t v c2 q2 b2 u done) turned)))

pub commas_do : CommasDo
commas_do g a left right first second m n pushed before behind code more da db steps w p k vs c q b t seen has r turns rest =
    da steps w p (Drop ∷ behind k) vs c q b t seen (has_front _ p code more has) (record { joins = r.joins; sp = r.sp; room = omega (arith, r.room); none_pushed = r.none_pushed }) turns (λ j va c1 q1 b1 u seen1 lt done turns1.
    steps_earn g j (w + 2600) Drop (behind k) (va ∷ vs) c1 _ u seen1 (calm_behind g a pushed (max m (1 + n)) c c1 q q1 b b1 t u r done.kept) done.kept.joins.output done.kept.joins.ended (omega (arith, turns1)) (λ i lt2.
    follows_weaken g i w (w + 2600 + 4000) _ _ u seen1 (omega arith)
    (db i w (p + length code) k vs c1 q1 b1 u seen1 (has_back _ p code more has) (ready_stays g a pushed (max m (1 + n)) n c c1 q q1 b b1 t u (omega arith) r done.kept) turns1 (λ h vb c2 q2 b2 x seen2 lt3 done2 turns2.
    let place : p + length code + length more ≡ p + length (code ++ more) = omega (arith, length-append code more) in
    let both : Done g a right second c q b t vb c2 q2 b2 x = record { kept = kept_goes_on g a c c1 c2 q q1 q2 b b1 b2 t u x done.kept done2.kept; result = done2.result; fits = done2.fits } in
    let turned : HasTurns g c2.turns (place_in g a (p + length (code ++ more))) seen2 = subst (λ z. HasTurns g c2.turns (place_in g a z) seen2) place turns2 in
    rw place (rest h vb c2 q2 b2 x seen2 (omega arith) both turned)))))
