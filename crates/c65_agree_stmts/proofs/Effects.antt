-- Effects from values, and the two sides of `,`.
use Rattle.std.proofs.Common.{◌≡◌, ◌+◌, max, ◌∷◌, ◌++◌, length, subst, arith, length-append}
use Rattle.c65_meaning.specs.Items.{Drop}
use Rattle.c65_agree_state.specs.World.{place_in, HasTurns}
use Rattle.c65_agree_state.proofs.Followed.{follows_weaken, steps_earn, ready_is_calm}
use Rattle.c65_agree_state.proofs.Nodes.{has_front, has_back, ready_stays}
use Rattle.c65_agree_state.proofs.Parts.{kept_goes_on}
use Rattle.c65_agree_stmts.specs.Laws.{ValuesAreEffects, EffectsJoin}

pub values_are_effects : ValuesAreEffects
values_are_effects g a yield shape work needs pushed lines does n w p k vs c q b t seen has r turns rest =
    does n w p k vs c q b t seen has r turns (λ j v c2 q2 b2 u later lt done turns2. rest j v c2 q2 b2 u later lt done.kept turns2)

pub effects_join : EffectsJoin
effects_join g a before behind m n pushed code more da db steps w p k vs c q b t seen has r turns rest =
    da steps w p (Drop ∷ behind k) vs c q b t seen (has_front _ p code more has) (record { joins = r.joins; sp = r.sp; room = omega (arith, r.room); none_pushed = r.none_pushed }) turns (λ j va c1 q1 b1 u seen1 lt kept turns1.
    steps_earn g j (w + 2600) Drop (behind k) (va ∷ vs) c1 _ u seen1 (ready_is_calm g a pushed (max m (1 + n)) c1 q1 b1 u (ready_stays g a pushed (max m (1 + n)) (max m (1 + n)) c c1 q q1 b b1 t u (omega arith) r kept)).calm kept.joins.output kept.joins.ended (omega (arith, turns1)) (λ i lt2.
    follows_weaken g i w (w + 2600 + 4000) _ _ u seen1 (omega arith)
    (db i w (p + length code) k vs c1 q1 b1 u seen1 (has_back _ p code more has) (ready_stays g a pushed (max m (1 + n)) n c c1 q q1 b b1 t u (omega arith) r kept) turns1 (λ h vb c2 q2 b2 x seen2 lt3 kept2 turns2.
    let place : p + length code + length more ≡ p + length (code ++ more) = omega (arith, length-append code more) in
    let turned : HasTurns g c2.turns (place_in g a (p + length (code ++ more))) seen2 = subst (λ z. HasTurns g c2.turns (place_in g a z) seen2) place turns2 in
    rw place (rest h vb c2 q2 b2 x seen2 (omega (arith, lt, lt2, lt3)) (kept_goes_on g a c c1 c2 q q1 q2 b b1 b2 t u x kept kept2) turned)))))
