-- An image for another processor.
use Rattle.std.proofs.Common.{◌≡◌, ℕ, List, Result, Ok, Err, ap}
use Rattle.c65_base.specs.declared.options.Cpu.{Cpu}
use Rattle.c65_base.specs.declared.refusal.LinkKind.{LinkKind}
use Rattle.c65_base.specs.declared.refusal.LinkKind.TheVariants.{Undefined}
use Rattle.c65_base.specs.declared.refusal.Size.TheVariants as sizes
use Rattle.c65_base.specs.declared.refusal.Refusal.{Refusal}
use Rattle.c65_base.specs.declared.refusal.Refusal.TheVariants as refusals
use Rattle.c65_mach.specs.declared.image.Image.{Image}
use Rattle.c65_link.specs.Linked.{Fault, FailsAs, Fails, Gives, image_for}

fails_as : (cpu : Cpu) (kind : LinkKind) (name : List ℕ) (y : Result Image Fault) → FailsAs kind name y → FailsAs kind name (image_for cpu y)
fails_as cpu Undefined name y h = ap (image_for cpu) h
fails_as cpu _ name y h = absurd h

pub fails_for : (cpu : Cpu) (e : Refusal) (y : Result Image Fault) → Fails e y → Fails e (image_for cpu y)
fails_for cpu refusals.OutOfMemory y h = tt
fails_for cpu (refusals.Link kind name) y h = fails_as cpu kind name y h
fails_for cpu (refusals.TooLarge sizes.Image value) y h = ap (image_for cpu) h
fails_for cpu _ y h = absurd h

pub gives_for : (cpu : Cpu) (image : Image) (y : Result Image Fault) → y ≡ Ok image → image_for cpu y ≡ Ok (record image { cpu = cpu })
gives_for cpu image y h = ap (image_for cpu) h
