-- Lines that tell a place in a manner.
use Rattle.std.proofs.Common.{◌≤◌, arith}
use Rattle.c65_genexpr.specs.declared.destination.Destination.{Destination}
use Rattle.c65_genexpr.specs.declared.destination.Destination.TheVariants.{Registers, Pointer}
use Rattle.c65_agree_loading.specs.Bases.{handed_on}
use Rattle.c65_agree_loading.specs.BaseLaws.{MannersTell, UsuallyTell}

pub manners_tell : MannersTell
manners_tell g a m work needs pushed place lines tells n w p k vs c q b t seen has r turned rest = tells n w p k vs c q b t seen has r turned (λ j v c2 q2 b2 u later lt kept told left turned2. rest j v c2 q2 b2 u later lt kept told turned2)

pub usually_tell : UsuallyTell
usually_tell g a work needs pushed place lines tells n w p k vs c q b t seen has r turned rest = tells n w p k vs c q b t seen has r turned (λ j v c2 q2 b2 u later lt kept told turned2. rest j v c2 q2 b2 u later lt kept told (record { scene = tt; held = tt }) turned2)

pub handed_low : (d : Destination) → handed_on d ≤ 2600
handed_low Registers = omega arith
handed_low Pointer = omega arith

pub handed_high : (d : Destination) → 2500 ≤ handed_on d
handed_high Registers = omega arith
handed_high Pointer = omega arith
