-- Initialisers.
use Rattle.std.proofs.Common.{ℕ, ◌+◌, ◌-◌, List, [], ◌∷◌, length, arith}
use Rattle.std.specs.Prelude.{None, Some, Ok}
use Rattle.c65_scan.specs.declared.token.Token.{Token}
use Rattle.c65_tree.specs.Trees as t
use Rattle.c65_parse_names.specs.Scopes.{Blocks}
use Rattle.c65_parse.specs.Reading.{after_token}
use Rattle.c65_parse_frames.specs.declared.sign.Mark.TheVariants as marks
use Rattle.c65_parse_frames.specs.Lists.{OpenList, Listed, listed_whole, listed_open, empty_list}
use Rattle.c65_decl.specs.Here.{is_here, pos_here, unexpected}
use Rattle.c65_decl.specs.Initialisers.{element_read, lists_closed, list_begun, initialiser_step, initialiser_next, initialiser_run, initialiser_read, optional_init_read}
use Rattle.c65_parse_law_depth.specs.Grows.{Growing, GrowsEverywhere}
use Rattle.c65_parse_law_depth.specs.Units.{InitialisersGrow}
use Rattle.c65_parse_law_depth.proofs.Growth.{same_grows, then_grows, if_grows, within_grows}
use Rattle.c65_parse_law_depth.proofs.Readings.{exprs_grow}

pub elements_grow : (around : ℕ) → GrowsEverywhere (λ limit. element_read limit around)
elements_grow around scope ts limit more fits = exprs_grow 1 scope ts (limit - around) (more - around) (omega (arith, fits))

begun_grows : (ls : List OpenList) → GrowsEverywhere (λ limit. list_begun limit ls)
begun_grows ls scope ts = within_grows (length ls + 2) (λ limit. Ok (listed_open (empty_list (pos_here ts) ∷ ls), after_token ts, scope)) (same_grows _)

pub step_grows : (ls : List OpenList) → GrowsEverywhere (λ limit. initialiser_step limit ls)
step_grows ls scope ts = if_grows (is_here marks.OpenBrace ts) (λ limit. list_begun limit ls scope ts) _ (begun_grows ls scope ts) (then_grows (λ limit. element_read limit (length ls) scope ts) (λ limit e. lists_closed ls (t.value (pos_here ts) e.0) e.2 e.1) (elements_grow (length ls) scope ts) (λ e. same_grows _))

next_grows : (us : List Token) → ((ls : List OpenList) → GrowsEverywhere (λ limit. initialiser_run limit us ls)) → (r : Listed × List Token × Blocks) → Growing (λ limit. initialiser_next (initialiser_run limit us) r)
next_grows us h (listed_whole i, ts, scope) = same_grows (Ok (i, ts, scope))
next_grows us h (listed_open ls, ts, scope) = h ls scope ts

pub run_grows : (us : List Token) (ls : List OpenList) → GrowsEverywhere (λ limit. initialiser_run limit us ls)
run_grows [] ls scope ts = same_grows (unexpected ts)
run_grows (u ∷ us) ls scope ts = then_grows (λ limit. initialiser_step limit ls scope ts) (λ limit. initialiser_next (initialiser_run limit us)) (step_grows ls scope ts) (next_grows us (run_grows us))

pub initialisers_grow : InitialisersGrow
initialisers_grow unit scope ts = run_grows unit [] scope ts

pub optional_init_grows : (unit : List Token) → GrowsEverywhere (λ limit. optional_init_read limit unit)
optional_init_grows unit scope ts = if_grows (is_here marks.Equal ts) _ (λ limit. Ok (None, ts, scope)) (then_grows (λ limit. initialiser_read limit unit scope (after_token ts)) (λ limit i. Ok (Some i.0, i.1, i.2)) (initialisers_grow unit scope (after_token ts)) (λ i. same_grows _)) (same_grows _)
