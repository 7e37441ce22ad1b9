-- From a command to what the tool does.
use Rattle.std.proofs.Common.{◌≡◌, ℕ, None, Option, Result, Err, sym, subst, refl}
use Rattle.c65_base.specs.declared.refusal.Refusal.{Refusal}
use Rattle.c65_base.specs.declared.refusal.Refusal.TheVariants.{OutOfMemory, Usage}
use Rattle.c65_code.specs.declared.code.Code.{Code}
use Rattle.c65_mach.specs.declared.image.Image.{Image}
use Rattle.c65_driver_words.specs.Commands.{Spelled}
use Rattle.c65_driver_words.specs.Words.{Spelling, Is, NoCommand, Spells}
use Rattle.c65_driver_words.specs.declared.command.CommandKind.{CommandKind}
use Rattle.c65_driver_words.specs.declared.command.CommandKind.TheVariants as kinds
use Rattle.c65_commands.specs.Outside.{Outside}
use Rattle.c65_commands.specs.Tool.{Refuses, Serves, Performs}
use Rattle.c65_commands.proofs.DepthLaws.{depths_free}
use Rattle.c65_commands.proofs.GenLaws.{gens_free}
use Rattle.c65_commands.proofs.GoLaws.{goes_free}
use Rattle.c65_commands.proofs.BuildLaws.{builds_free}
use Rattle.c65_commands.proofs.ImageLaws.{runs_free}
use Rattle.c65_commands.proofs.PrintLaws.{texts_free}

refuses_free : (word : ℕ) (old : Outside) → Refuses word old old None None (Err OutOfMemory)
refuses_free word old = record { usage = tt; still = refl; no_code = refl; no_image = refl }

serves_free : (kind : CommandKind) (command : Spelled) (old : Outside) → Serves kind command old old None None (Err OutOfMemory)
serves_free kinds.Go command old = goes_free command old
serves_free kinds.Build command old = builds_free command old
serves_free kinds.Run command old = runs_free command old
serves_free kinds.Text command old = texts_free command old
serves_free kinds.Gen command old = gens_free command old
serves_free kinds.Depth command old = depths_free command old

-- want of memory
pub performs_free : (spelling : Spelling) (old : Outside) → Performs spelling old old None None (Err OutOfMemory)
performs_free (Is command) old = serves_free command.kind command old
performs_free (NoCommand word) old = refuses_free word old

-- words that are not read to a command
pub performs_not : (spelling : Spelling) (old : Outside) (r : Refusal) → Spells spelling (Err r) → Performs spelling old old None None (Err r)
performs_not spelling old OutOfMemory spells = performs_free spelling old
performs_not spelling old (Usage word) spells =
    subst (λ (s : Spelling). Performs s old old None None (Err (Usage word))) (sym spells) (record { usage = refl; still = refl; no_code = refl; no_image = refl })
performs_not spelling old r spells = absurd spells

-- a command of this kind
pub performs_by : (spelling : Spelling) (command : Spelled) (kind : CommandKind) (old new : Outside) (code : Option Code) (image : Option Image) (r : Result ℕ Refusal)
    → spelling ≡ Is command → command.kind ≡ kind → Serves kind command old new code image r → Performs spelling old new code image r
performs_by spelling command kind old new code image r is of serves =
    subst (λ (s : Spelling). Performs s old new code image r) (sym is) (subst (λ (k : CommandKind). Serves k command old new code image r) (sym of) serves)
