-- String literals.
use Rattle.std.proofs.Common.{◌≡◌, ℕ, ◌+◌, ◌/◌, ◌%◌, ◌<◌, ◌∷◌, false, refl, sym, ap, ◌∙◌, subst, arith}
use Rattle.c65_csem.specs.Trees.{node, literal}
use Rattle.c65_csem_need.specs.Needs.{need}
use Rattle.c65_mach.specs.State.{Regs}
use Rattle.c65_mach.specs.Step.{apply}
use Rattle.c65_mach.specs.declared.rows.Op.TheVariants.{Lda, Ldx}
use Rattle.c65_meaning.specs.Store as values
use Rattle.c65_meaning.specs.Store.{Value}
use Rattle.c65_meaning.specs.Items.{Push, plan}
use Rattle.c65_meaning.specs.Shapes.{literal_block}
use Rattle.c65_meaning.specs.State.{Running}
use Rattle.c65_code.specs.declared.line.Sym.{Sym}
use Rattle.c65_code.specs.LineState.{State, ax_of, IsBytes}
use Rattle.c65_code.specs.Placement.{IsPlacement, located}
use Rattle.c65_genframe.specs.Symbols.{numbers_of, literal_symbol}
use Rattle.c65_genload.specs.declared.places.Place.TheVariants.{Data}
use Rattle.c65_genload.specs.Addresses.{symbol_code}
use Rattle.c65_genexpr.specs.declared.destination.Destination.TheVariants.{Registers}
use Rattle.c65_genexpr.specs.declared.wanted.Wanted.TheVariants as wanted
use Rattle.c65_genexpr.specs.Places.{place_of}
use Rattle.c65_genexpr.specs.Code.{expr_code, base_code}
use Rattle.c65_agree_state.specs.World.{World, unit_in, Active, lines_of, place_in, HasAt, HasTurns}
use Rattle.c65_agree_state.specs.Follows.{Follows}
use Rattle.c65_agree_state.specs.Exprs.{Placed, shape_in}
use Rattle.c65_agree_state.proofs.Followed.{follows_weaken, steps_earn, ready_is_calm}
use Rattle.c65_agree_frame.specs.Leads.{Leads, IsOn}
use Rattle.c65_agree_frame.proofs.Leads.{kept_regs, lines_lead}
use Rattle.c65_agree_load.proofs.Kept.{is_on, kept_later}
use Rattle.c65_agree_direct.proofs.Spots.{literal_lies}
use Rattle.c65_agree_operate.specs.Manners.{usual}
use Rattle.c65_agree_operate.proofs.Manners.{left_held, manners_do}
use Rattle.c65_agree_operate.proofs.Converted.{kept_itself}
use Rattle.c65_agree_structures.specs.Bases.{IsToldBy}
use Rattle.c65_agree_loading.specs.Bases.{arrived_at, handed_on}
use Rattle.c65_agree_loading.specs.BaseLaws.{LiteralsAreBases, LiteralsTell, LiteralsDo, LiteralsDoIn}
use Rattle.c65_agree_loading.proofs.Manners.{manners_tell, handed_low}
use Rattle.c65_agree_loading.proofs.Arriving.{held_by_regs}

-- ---- as a base

pub literals_tell : LiteralsTell
literals_tell g a m d t i parts lt pushed fresh n w p k vs c q b s seen has r turned rest =
    let block : ℕ = literal_block (unit_in g) i in
    let v : Value = values.Place block 0 in
    let ends : p ≡ p + 0 = omega arith in
    let lies = literal_lies g a pushed 0 c q b s r i lt in
    let told : IsToldBy g a (Data (literal_symbol (numbers_of g.parts) i) 0) c q (arrived_at d s) v = (((_, r.joins.symbols.literals i lt), lies.meant), omega arith, tt) in
    let there : IsToldBy g a (Data (literal_symbol (numbers_of a.frame.parts) i) 0) c q (arrived_at d s) v = subst (λ ps. IsToldBy g a (Data (literal_symbol (numbers_of ps) i) 0) c q (arrived_at d s) v) (sym parts) told in
    steps_earn g n w (Push v) k vs c (place_in g a p) s seen (ready_is_calm g a pushed 0 c q b s r).calm r.joins.output r.joins.ended (omega (arith, turned)) (λ j less.
    subst (λ z. Follows g j (w + 4000) (Running k (v ∷ vs) c) (place_in g a z) s seen) (sym ends)
    (follows_weaken g j (w + handed_on d) (w + 4000) (Running k (v ∷ vs) c) (place_in g a (p + 0)) s seen (omega (arith, handed_low d))
    (rest j v c q b s seen less (kept_itself g a pushed 0 c q b s r) there (left_held m c s s (record { low = refl; high = refl })) (subst (λ z. HasTurns g c.turns (place_in g a z) seen) ends turned))))

pub literals_are_bases : LiteralsAreBases
literals_are_bases g a t i parts lt pushed fresh =
    manners_tell g a usual (plan (unit_in g) (node t (literal i))) (need (node t (literal i))) pushed (place_of a.frame pushed (node t (literal i))) (base_code a.frame pushed fresh Registers (node t (literal i)))
    (literals_tell g a usual Registers t i parts lt pushed fresh)

-- ---- as an address

module _ (g : World) (a : Active) (sy : Sym) (t : State) where
  abbrev at : ℕ
  at = located g.place sy 0

  abbrev high_there : Regs
  high_there = apply false Ldx (at / 256) t.regs

  abbrev both_there : Regs
  both_there = apply false Lda (at % 256) high_there

  symbol_leads : IsPlacement g.code g.place → IsOn g t → Leads g a (symbol_code sy 0) 2 t (λ u. (u ≡ record t { regs = both_there }) × IsBytes u)
  symbol_leads placed on = lines_lead g a (symbol_code sy 0) t placed on (refl, tt, omega arith, kept_regs t high_there, (refl, tt, omega arith, kept_regs (record t { regs = high_there }) both_there, tt))

  symbol_is : g.place.address sy.0 < 65520 → (u : State) → u ≡ record t { regs = both_there } → ax_of u ≡ g.place.address sy.0 + 0
  symbol_is low u e = ap ax_of e ∙ omega (arith, low)

pub literals_do_in : LiteralsDoIn
literals_do_in g a m t i placed over parts lt low pushed fresh n w p k vs c q b s seen has r turned rest =
    let block : ℕ = literal_block (unit_in g) i in
    let v : Value = values.Place block 0 in
    let sy : Sym = literal_symbol (numbers_of g.parts) i in
    let regs : Regs = both_there g a sy s in
    let own : HasAt (lines_of g a) p (symbol_code sy 0) = subst (λ ps. HasAt (lines_of g a) p (symbol_code (literal_symbol (numbers_of ps) i) 0)) parts has in
    steps_earn g n w (Push v) k vs c (place_in g a p) s seen (ready_is_calm g a pushed 0 c q b s r).calm r.joins.output r.joins.ended (omega (arith, turned)) (λ j less.
    follows_weaken g j (2 + (w + 2600 + m.over)) (w + 4000) (Running k (v ∷ vs) c) (place_in g a p) s seen (omega (arith, over))
    (symbol_leads g a sy s placed (is_on g a pushed 0 c q b s placed r) j (w + 2600 + m.over) p c.turns (Running k (v ∷ vs) c) seen own turned (λ u later h turned2.
    rest j v c q b u later less (record {
      kept = rw h.0 (kept_later g a pushed 0 c q b s placed r regs s.zp (λ z side. refl) (subst IsBytes h.0 h.1));
      result = (g.place.address sy.0, r.joins.symbols.literals i lt, symbol_is g a sy s low u h.0);
      fits = tt;
    })
    (left_held m c s u (held_by_regs s u regs h.0)) turned2)))

pub literals_do : LiteralsDo
literals_do g a t i placed parts lt low pushed fresh =
    manners_do g a usual Placed (shape_in g a (node t (literal i))) (plan (unit_in g) (node t (literal i))) (need (node t (literal i))) pushed (expr_code a.frame pushed fresh wanted.Value (node t (literal i)))
    (literals_do_in g a usual t i placed (omega arith) parts lt low pushed fresh)
