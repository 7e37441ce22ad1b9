-- What is live in made lines, by tables in which sweeps change nothing.
use Rattle.std.proofs.Common.{◌≡◌, zero, suc, ◌&&◌, not, Bool, true, false, IsTrue, List, [], ◌∷◌, refl, sym, ◌∙◌, ap, arith}
use Rattle.c65_code.specs.declared.parts.Part.TheVariants.{X, C, Zp}
use Rattle.c65_code.specs.declared.parts.RegSet.{RegSet}
use Rattle.c65_code.specs.Parts.{has_part, set_of, union_of, minus_of}
use Rattle.c65_code.specs.Effects.{ax, kept_at_calls}
use Rattle.c65_code.proofs.PartLaws.{has_part-minus, are_same-equal}
use Rattle.c65_live.specs.Live.{onward, goes, read, kept}
use Rattle.c65_live.specs.Flows.{flows_of, IsClosed}
use Rattle.c65_live.specs.Tables.{live_after}
use Rattle.c65_live.specs.Samples.{stored_last, compared_last, LoopKeepsByte, ReturnForgetsByte, ReturnForgetsCarry, ReturnKeepsSp, DeadIsNotLive}
use Rattle.c65_live.proofs.Closed.{live_in}
use Rattle.c65_live.proofs.Tables.{closed_past}

pub loop_keeps : LoopKeepsByte
loop_keeps = kept (onward refl refl) refl refl (kept (goes refl refl) refl refl (read (onward refl refl) refl refl))

pub keeps_sp : ReturnKeepsSp
keeps_sp = read (onward refl refl) refl refl

returned : RegSet
returned = union_of ax kept_at_calls

stored_sets : List RegSet
stored_sets = minus_of returned (set_of (X ∷ [])) ∷ minus_of returned (set_of (X ∷ [])) ∷ returned ∷ returned ∷ []

stored_closed : IsClosed (flows_of stored_last ax) stored_sets
unfolding returned stored_sets
stored_closed zero = refl
stored_closed (suc zero) = refl
stored_closed (suc (suc zero)) = refl
stored_closed (suc (suc (suc zero))) = refl
stored_closed (suc (suc (suc (suc q)))) = closed_past (flows_of stored_last ax) stored_sets (suc (suc (suc (suc q)))) (omega arith)

pub forgets_byte : ReturnForgetsByte
unfolding returned stored_sets
forgets_byte h = let e : false ≡ true = live_in stored_last ax stored_sets stored_closed 1 (Zp 16) h in cc

compared_sets : List RegSet
compared_sets = returned ∷ returned ∷ []

compared_closed : IsClosed (flows_of compared_last ax) compared_sets
unfolding returned compared_sets
compared_closed zero = refl
compared_closed (suc zero) = refl
compared_closed (suc (suc q)) = closed_past (flows_of compared_last ax) compared_sets (suc (suc q)) (omega arith)

pub forgets_carry : ReturnForgetsCarry
unfolding returned compared_sets
forgets_carry h = let e : false ≡ true = live_in compared_last ax compared_sets compared_closed 0 C h in cc

none_of : (a b : Bool) → (a && not b) ≡ a → IsTrue a → b ≡ false
none_of true false e h = refl
none_of true true e h = absurd (let f : false ≡ true = e in cc)
none_of false b e h = absurd (let f : false ≡ true = h in cc)

pub dead_is_not : DeadIsNotLive
dead_is_not table q parts dead p h =
    let same : minus_of parts (live_after table q) ≡ parts = are_same-equal (minus_of parts (live_after table q)) parts dead in
    none_of (has_part parts p) (has_part (live_after table q) p) (sym (has_part-minus parts (live_after table q) p) ∙ ap (λ s. has_part s p) same) h
