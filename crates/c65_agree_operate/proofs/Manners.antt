-- What is left as it was.
use Rattle.std.proofs.Common.{◌≡◌, ◌+◌, ◌∷◌, Bool, true, false, length, refl, sym, ◌∙◌, arith}
use Rattle.c65_meaning.specs.State.{Scene, Running}
use Rattle.c65_agree_state.specs.World.{place_in}
use Rattle.c65_agree_state.proofs.Followed.{follows_weaken}
use Rattle.c65_code.specs.LineState.{State}
use Rattle.c65_agree_operate.specs.Manners.{Manner, Where, IsHeld, IsLeft}
use Rattle.c65_agree_operate.specs.Laws.{MannersDo, UsuallyDo}

pub manners_do : MannersDo
manners_do g a m yield shape work needs pushed lines does n w p k vs c q b t seen has r turns rest =
    does n w p k vs c q b t seen has r turns (λ j v c2 q2 b2 u later lt done left turned. follows_weaken g j (w + 2600) (w + 2600 + m.over) (Running k (v ∷ vs) c2) (place_in g a (p + length lines)) u later (omega arith) (rest j v c2 q2 b2 u later lt done turned))

pub usually_do : UsuallyDo
usually_do g a yield shape work needs pushed lines does n w p k vs c q b t seen has r turns rest =
    does n w p k vs c q b t seen has r turns (λ j v c2 q2 b2 u later lt done turned.
    follows_weaken g j (w + 2600 + 0) (w + 2600) (Running k (v ∷ vs) c2) (place_in g a (p + length lines)) u later (omega arith) (rest j v c2 q2 b2 u later lt done (record { scene = tt; held = tt }) turned))

both_where : (b : Bool) {P Q R : Type 0} → (P → Q → R) → Where b P → Where b Q → Where b R
both_where true f p q = f p q
both_where false f p q = tt

pub held_then : (t u v : State) → IsHeld t u → IsHeld u v → IsHeld t v
held_then t u v x y = record { low = y.low ∙ x.low; high = y.high ∙ x.high }

-- one part behind another
pub left_then : (m : Manner) (c c2 c3 : Scene) (t u v : State) → IsLeft m c t c2 u → IsLeft m c2 u c3 v → IsLeft m c t c3 v
left_then m c c2 c3 t u v x y = record { scene = both_where m.pure (λ e f. f ∙ e) x.scene y.scene; held = both_where m.light (held_then t u v) x.held y.held }

always : (b : Bool) {P : Type 0} → P → Where b P
always true p = p
always false p = tt

-- lines that leave ptr2
pub left_held : (m : Manner) (c : Scene) (t u : State) → IsHeld t u → IsLeft m c t c u
left_held m c t u h = record { scene = always m.pure refl; held = always m.light h }

where_so : (b : Bool) {P : Type 0} → (b ≡ true → P) → Where b P
where_so true f = f refl
where_so false f = tt

-- lines that leave ptr2 where they are light
pub left_where : (m : Manner) (c : Scene) (t u : State) → (m.light ≡ true → IsHeld t u) → IsLeft m c t c u
left_where m c t u h = record { scene = always m.pure refl; held = where_so m.light h }

-- heavy lines
pub left_heavy : (m : Manner) (c c2 : Scene) (t u v x : State) → m.light ≡ false → IsLeft m c t c2 u → IsLeft m c v c2 x
left_heavy m c c2 t u v x heavy l = record { scene = l.scene; held = where_so m.light (λ h. let clash : true ≡ false = sym h ∙ heavy in absurd (cc)) }

pub left_scene : (m : Manner) (c : Scene) (t u : State) → m.light ≡ false → IsLeft m c t c u
left_scene m c t u heavy = left_where m c t u (λ h. let clash : true ≡ false = sym h ∙ heavy in absurd (cc))

-- nothing is asked of heavy lines
pub dark : (b : Bool) (P : Type 0) → b ≡ false → Where b P
dark true P e = absurd (cc)
dark false P e = tt
