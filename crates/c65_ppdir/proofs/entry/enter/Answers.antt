use Rattle.std.proofs.Common.{◌≡◌, ℕ, ◌+◌, refl, ap, sym, subst, rules}
use Rattle.c65_base.specs.declared.refusal.Refusal.TheVariants as refusals
use Rattle.c65_base.specs.declared.refusal.Size.TheVariants as sizes
use Rattle.c65_ppfile.specs.declared.files.Found.{Found}
use Rattle.c65_ppdir.specs.Units.{reached}
use Rattle.c65_ppdir.proofs.Units.{HasPath, HasFile, HasHeader, begins_as, file_there, enters_file, enters_header, enters_none, on_ok, short_first}
use Rattle.c65_ppdir.proofs.entry.enter.Goals as goal

pub returns-then-not-has_room-clause-exact : goal.returns-then-not-has_room-clause-exact
returns-then-not-has_room-clause-exact c =
    λ held source there is_for.
    let r = reached held c.args.unit.now c.args.names.now c.args.paths.now.items in
    enters_none (λ (x : Unit {0}). r) c.args.unit.now.included.is_char_signed c.has_room.result source r (refusals.TooLarge sizes.Includes (c.number.result + 1)) (c.has_room.ensures held c.args.names.now) c.if-not-has_room.true
    (ap (λ (n : ℕ). refusals.TooLarge sizes.Includes (n + 1)) c.number.ensures)

pub returns-in-File-clause-told : goal.returns-in-File-clause-told
returns-in-File-clause-told c =
    let has : HasFile c.args.found c.in-File.path c.deref.result.now = subst (λ (f : Found). HasFile f c.in-File.path c.deref.result.now) (sym c.in-File.is) (refl, sym c.deref.ensures.value) in
    on_ok c.open_found.result c.open_found.ensures.told (λ f held source there is_for units.
    let x = file_there held c.args.found source c.in-File.path c.deref.result.now has is_for in
    f held x.0 x.1 (begins_as held c.args.found c.in-File.path c.deref.result.now x.0 has there x.1) units)

pub returns-in-File-clause-exact : goal.returns-in-File-clause-exact
returns-in-File-clause-exact c =
    λ held source there is_for.
    let r = reached held c.args.unit.now c.args.names.now c.args.paths.now.items in
    let path_is : HasPath c.args.found c.in-File.path = subst (λ (f : Found). HasPath f c.in-File.path) (sym c.in-File.is) refl in
    let has : HasFile c.args.found c.in-File.path c.deref.result.now = subst (λ (f : Found). HasFile f c.in-File.path c.deref.result.now) (sym c.in-File.is) (refl, sym c.deref.ensures.value) in
    enters_file (λ (x : Unit {0}). reached held c.open_found.new.unit c.open_found.new.names c.open_found.new.paths.items) held c.args.found source c.in-File.path c.args.unit.now.included.is_char_signed c.has_room.result r c.open_found.result
    path_is is_for (c.has_room.ensures held c.args.names.now) c.if-not-has_room.false (λ bytes here. c.open_found.ensures.exact held bytes here (begins_as held c.args.found c.in-File.path c.deref.result.now bytes has there here))

pub returns-in-BuiltIn-clause-told : goal.returns-in-BuiltIn-clause-told
returns-in-BuiltIn-clause-told c = on_ok c.open_built_in.result c.open_built_in.ensures.told (λ f held source there is_for units. f held units)

pub returns-in-BuiltIn-clause-exact : goal.returns-in-BuiltIn-clause-exact
returns-in-BuiltIn-clause-exact c =
    λ held source there is_for.
    let r = reached held c.args.unit.now c.args.names.now c.args.paths.now.items in
    let header_is : HasHeader c.args.found c.in-BuiltIn.header = subst (λ (f : Found). HasHeader f c.in-BuiltIn.header) (sym c.in-BuiltIn.is) refl in
    enters_header (λ (x : Unit {0}). reached held c.open_built_in.new.unit c.open_built_in.new.names c.open_built_in.new.paths.items) held c.args.found source c.in-BuiltIn.header c.args.unit.now.included.is_char_signed c.has_room.result r c.open_built_in.result
    header_is is_for (c.has_room.ensures held c.args.names.now) c.if-not-has_room.false (c.open_built_in.ensures.exact held)

pub open_found-requires : goal.open_found-requires
open_found-requires c =
    let has : HasFile c.args.found c.in-File.path c.deref.result.now = subst (λ (f : Found). HasFile f c.in-File.path c.deref.result.now) (sym c.in-File.is) (refl, sym c.deref.ensures.value) in
    short_first c.args.found c.in-File.path c.deref.result.now has c.requires
