-- How far above sp the parameters stand that move to regbank.
use Rattle.std.proofs.Common.{◌≡◌, refl, ℕ, ◌+◌, ◌-◌, ◌≤◌, Bool, true, false, Option, None, Some, List, [], ◌∷◌, ◌++◌, slice_get, subst, arith}
use Rattle.std.specs.Prelude.{if◌then◌else◌, nat_lt, Ok}
use Rattle.std.proofs.lemmas.Bool.{ltb-true, ltb-false}
use Rattle.c65_base.specs.declared.refusal.Size.TheVariants as sizes
use Rattle.c65_base.specs.Answers.{large}
use Rattle.c65_ctype.specs.Views.{types_of}
use Rattle.c65_csem.specs.declared.items.Parts.{Parts}
use Rattle.c65_csem.specs.Trees.{FuncTy}
use Rattle.c65_genframe.specs.declared.modes.Modes.{Modes}
use Rattle.c65_genframe.specs.declared.home.Home.{Home}
use Rattle.c65_genframe.specs.declared.home.Home.TheVariants.{Bank, Soft}
use Rattle.c65_genframe.specs.declared.home.Arrival.{Arrival}
use Rattle.c65_genframe.specs.declared.home.Moved.{Moved}
use Rattle.c65_genframe.specs.Marks.{lowest, all_marks}
use Rattle.c65_genframe.specs.Objects.{locals_of}
use Rattle.c65_genframe.specs.Places.{Places, none_placed}
use Rattle.c65_genframe.specs.Sizes.{object_in, slot_bytes, bank_bytes}
use Rattle.c65_genframe.specs.Arrivals.{Arrivals, arrive, with_slot, arrived}
use Rattle.c65_genframe.specs.Frames.{Framed, has_prototype, is_variadic, register_param, arrival, is_kept, last_bytes, without_last, bytes_without, saved_bytes, first_arrivals, check_of, settled, passed_bytes, placed_in, frame_of}
use Rattle.c65_gen_law_lines.proofs.FrameLaws.{Room, all_room, answered}
use Rattle.c65_asm_law.proofs.Entries.{Near}

near_append : (most : ℕ) (a b : List Moved) → Near most a → Near most b → Near most (a ++ b)
near_append most [] b p q = q
near_append most (m ∷ a) b p q = (p.0, near_append most a b p.1 q)

arrive_near : (most from at bank left : ℕ) (h : Option (Option Home)) (a : Arrivals) → from ≤ most → Near most a.moved → Near most (arrive from at bank h left a).moved
arrive_near most from at bank left (Some (Some (Bank b))) a few near = near_append most a.moved (record { bank = b; from = from; bytes = bank } ∷ []) near (few, tt)
arrive_near most from at bank left (Some (Some (Soft d))) a few near = near
arrive_near most from at bank left (Some None) a few near = near
arrive_near most from at bank left None a few near = near

arrive_left : (from at bank left : ℕ) (h : Option (Option Home)) (a : Arrivals) → (arrive from at bank h left a).left ≡ left
arrive_left from at bank left (Some (Some (Bank b))) a = omega arith
arrive_left from at bank left (Some (Some (Soft d))) a = omega arith
arrive_left from at bank left (Some None) a = omega arith
arrive_left from at bank left None a = omega arith

arrived_near : (parts : Parts) (prototype : Bool) (low base most : ℕ) (ps : List ℕ) (a : Arrivals) → base + a.left ≤ most → Near most a.moved → Near most (arrived parts prototype low base ps a).moved
arrived_near parts prototype low base most [] a few near = near
arrived_near parts prototype low base most (i ∷ ps) a few near =
    let slot : ℕ = slot_bytes (types_of parts.types) prototype (object_in parts i) in
    let bank : ℕ = bank_bytes true (object_in parts i) in
    let h : Option (Option Home) = slice_get a.homes (i - low) in
    arrived_near parts prototype low base most ps (with_slot base (i - low) slot bank a) (omega (arith, few, arrive_left (base + (a.left - slot)) (i - low) bank (a.left - slot) h a)) (arrive_near most (base + (a.left - slot)) (i - low) bank (a.left - slot) h a (omega (arith, few)) near)

fewer_bytes : (kept : Bool) (passed last : ℕ) → bytes_without kept passed last ≤ passed
fewer_bytes true passed last = omega arith
fewer_bytes false passed last = omega arith

first_few : (variadic : Bool) → (if variadic then 1 else 0) ≤ 1
first_few true = omega arith
first_few false = omega arith

saved_few : (bank : ℕ) → saved_bytes bank ≤ 6
saved_few bank = by (nat_lt bank 6) refl
  where
    by : (b : Bool) → nat_lt bank 6 ≡ b → (if b then bank else 6) ≤ 6
    by true e = omega (arith, ltb-true bank 6 e)
    by false e = omega arith

-- at most 1,024 bytes of parameters, 1,025 of the frame, and 6 for regbank
pub frames_move : (parts : Parts) (modes : Modes) (g : FuncTy) (f : Framed) → frame_of parts modes g ≡ Ok f → Near 2055 f.moved
frames_move parts modes g f h =
    let p : Places = placed_in parts modes g in
    let low : ℕ = lowest (locals_of g) g.params in
    let passed : ℕ = passed_bytes parts g in
    let last : Arrival = arrival parts (has_prototype g.ty) low p.homes (register_param g) in
    let stacked : ℕ = bytes_without (is_kept last) passed (last_bytes parts (has_prototype g.ty) (register_param g)) in
    let given : (nat_lt 1024 p.total ≡ false) × (settled parts (check_of parts modes g) g low passed p ≡ f) = answered (nat_lt 1024 p.total) (large sizes.Frame p.total) (settled parts (check_of parts modes g) g low passed p) f h in
    let few : p.total ≤ 1024 = ltb-false 1024 p.total given.0 in
    let room : Room (none_placed (is_variadic g.ty) passed) p = all_room parts modes low (all_marks (locals_of g) g.params) (none_placed (is_variadic g.ty) passed) few in
    let all : Near 2055 (settled parts (check_of parts modes g) g low passed p).moved = arrived_near parts (has_prototype g.ty) low (p.soft + saved_bytes p.bank) 2055 (without_last (is_kept last) g.params) (first_arrivals p stacked) (omega (arith, few, room.few, room.soft, first_few (is_variadic g.ty), saved_few p.bank, fewer_bytes (is_kept last) passed (last_bytes parts (has_prototype g.ty) (register_param g)))) tt in
    subst (λ (z : Framed). Near 2055 z.moved) given.1 all
