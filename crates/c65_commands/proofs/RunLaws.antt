-- From a run to what the tool says of it.
use Rattle.std.proofs.Common.{◌≡◌, ℕ, ◌≤◌, Bool, List, Option, Result, Ok, Err, sym, subst, ap, ◌∙◌}
use Rattle.c65_base.specs.declared.refusal.Refusal.{Refusal}
use Rattle.c65_base.specs.declared.refusal.Refusal.TheVariants.{OutOfMemory, TooLarge}
use Rattle.c65_mach.specs.declared.image.Image.{Image}
use Rattle.c65_sim.specs.declared.run.Budget.{Budget}
use Rattle.c65_sim.specs.View.{RunView, started, arguments_size}
use Rattle.c65_sim.specs.Runs.{Runs}
use Rattle.c65_commands.specs.Setups.{Setup, ImageRuns}

runs_by : (setup : Setup) (image : Image) (new : RunView) (l l' w w' : Option (List ℕ)) (r : Result ℕ Refusal) → arguments_size setup.args ≤ 1024
    → Runs setup.budget setup.guard (started image setup.args) new l l' w w' r → ImageRuns setup image l l' w w' r
runs_by setup image new l l' w w' (Err OutOfMemory) few runs = absurd runs.ends
runs_by setup image new l l' w w' (Err (TooLarge limit value)) few runs = absurd runs.ends
runs_by setup image new l l' w w' (Ok s) few runs = (few, (new, runs))
runs_by setup image new l l' w w' (Err r) few runs = (few, (new, runs))

pub image_runs : (setup : Setup) (budget : Budget) (guard : Bool) (args args' : List (List ℕ)) (image : Image) (old new : RunView) (l l' w w' : Option (List ℕ))
    (r : Result ℕ Refusal) → setup ≡ record { budget = budget; guard = guard; args = args } → args' ≡ args
    → (arguments_size args' ≤ 1024) × (old ≡ started image args') → Runs budget guard old new l l' w w' r → ImageRuns setup image l l' w w' r
image_runs setup budget guard args args' image old new l l' w w' r is same starts runs =
    subst (λ (s : Setup). ImageRuns s image l l' w w' r) (sym is)
    (runs_by (record { budget = budget; guard = guard; args = args }) image new l l' w w' r
    (subst (λ (xs : List (List ℕ)). arguments_size xs ≤ 1024) same starts.0)
    (subst (λ (o : RunView). Runs budget guard o new l l' w w' r) (starts.1 ∙ ap (started image) same) runs))
