use Rattle.std.proofs.Common.{◌≡◌, ℕ, ◌+◌, ◌++◌, arith, length, take, drop, get_or, refl, sym, ◌∙◌, ap, subst}
use Rattle.c65_code.specs.Parts.{no_parts}
use Rattle.c65_live.specs.Regions.{IsBarred, IsSwept, AreSame}
use Rattle.c65_live.specs.Sweeps.{AreSound}
use Rattle.c65_live.proofs.Lists.{lent_back}
use Rattle.c65_live.proofs.Regions.{begins_sound, renewed_by}
use Rattle.c65_live.proofs.region.renewed.Goals as goal

from_none : (n : ℕ) → 0 + n ≡ n
from_none n = omega arith

pub settle_up-first-requires-clause-sound : goal.settle_up-first-requires-clause-sound
settle_up-first-requires-clause-sound c =
    let end = c.barred_from-end.result in
    let barred : IsBarred c.in_ok-places.places.items end = subst (λ ps. IsBarred ps end) c.deref.ensures.value c.barred_from-end.ensures.barred in
    let sound : AreSound c.args.lines.now c.args.seg.now.out c.in_ok-live.live.items =
    begins_sound c.args.seg.now.lines c.args.lines.now c.args.new.now c.args.seg.now.out c.args.at c.args.count (length c.args.new.now) end c.args.old.now c.in_ok-live.live.items c.in_ok-places.places.items
    c.requires.place c.lines-kept.ensures.kept c.requires.kept c.requires.lines refl c.requires.table c.barred_from-end.ensures.past barred c.in_ok-places.ensures c.in_ok-live.ensures in
    subst (λ sets. AreSound c.args.lines.now c.out.result sets) (sym c.deref_mut.ensures.value) (subst (λ out. AreSound c.args.lines.now out c.in_ok-live.live.items) (sym c.out.ensures) sound)

pub returns : goal.returns
returns c =
    let end = c.barred_from-end.result in
    let first = c.settle_up-first.result in
    let live = c.settle_up-first.new.live in
    let made = c.settle_up-first.ensures in
    let places = c.in_ok-places.places.items in
    let barred : IsBarred places end = subst (λ ps. IsBarred ps end) c.deref.ensures.value c.barred_from-end.ensures.barred in
    let low : IsBarred places first = subst (λ ps. IsBarred ps first) c.deref-2.ensures.value made.barred in
    let same : AreSame c.args.at c.args.count (length c.args.new.now) c.args.old.now live places first =
    subst (λ ps. AreSame c.args.at c.args.count (length c.args.new.now) c.args.old.now live ps first) c.deref-2.ensures.value made.same in
    let swept : IsSwept c.args.lines.now c.args.seg.now.out live first end = subst (λ out. IsSwept c.args.lines.now out live first end) c.out.ensures made.swept in
    let long : length live ≡ c.in_ok-live.live.len = c.settle_up-first.auto.live ∙ c.deref_mut.ensures.len in
    let whole : take c.in_ok-live.live.len (live ++ drop (length live) c.in_ok-live.live.items) ≡ live =
    lent_back c.in_ok-live.live.len live c.in_ok-live.live.items long (sym (ap length c.deref_mut.ensures.value) ∙ c.deref_mut.ensures.len) in
    let sets = c.overwrite.ensures ∙ (ap (λ xs. take first c.args.old.now ++ drop (0 + first) xs) whole ∙ ap (λ k. take first c.args.old.now ++ drop k live) (from_none first)) in
    renewed_by c.args.seg.now.lines c.args.lines.now c.args.new.now c.args.seg.now.out c.args.at c.args.count (length c.args.new.now) end c.args.old.now c.in_ok-live.live.items places
    c.requires.place c.lines-kept.ensures.kept c.requires.kept c.requires.lines refl c.requires.table c.barred_from-end.ensures.past barred c.in_ok-places.ensures c.in_ok-live.ensures
    first live c.overwrite.new.live.items made.low low (λ q far. made.behind q far ∙ ap (λ sets. get_or sets q no_parts) c.deref_mut.ensures.value) swept same sets
