-- Where blocks stand.
use Rattle.std.proofs.Common.{◌≡◌, ℕ, ◌+◌, ◌-◌, Option, Some, None, Bool, true, false, refl, sym, ap, ◌∙◌, subst, arith}
use Rattle.std.specs.Prelude.{◌&&◌, if◌then◌else◌}
use Rattle.c65_meaning.specs.Store.{Block}
use Rattle.c65_meaning.specs.State.{Scene, block_in}
use Rattle.c65_code.specs.LineState.{State, sp_of}
use Rattle.c65_code.specs.Placement.{located}
use Rattle.c65_code.specs.declared.line.Sym.{Sym}
use Rattle.c65_genframe.specs.declared.home.Home.{Home}
use Rattle.c65_genframe.specs.declared.home.Home.TheVariants as homes
use Rattle.c65_genframe.specs.Frames.{home_of, is_raised, lies_above}
use Rattle.c65_genframe.specs.Symbols.{numbers_of, object_symbol, literal_symbol, function_symbol}
use Rattle.c65_genload.specs.declared.places.Place.TheVariants.{Bank, Near, Data, Far}
use Rattle.c65_agree_store.specs.Stands.{Spot, At, Placing, Banks, IsAt, LiesIn}
use Rattle.c65_agree_state.specs.World.{World, Active}
use Rattle.c65_agree_state.specs.Joins.{Joins, home_spot, spot_of}
use Rattle.c65_agree_state.specs.Exprs.{Ready}
use Rattle.c65_agree_places.specs.Places.{spot_in, home_place}
use Rattle.c65_agree_places.specs.Laws.{ObjectsAreAtHome, ParametersAreRaised, ObjectsAreAtSymbols, LiteralsAreAtSymbols, FunctionsAreAtSymbols, PartsAreBehind}

one_spot : (w : Placing) (b : ℕ) (q r : Spot) → w b ≡ Some q → w b ≡ Some r → q ≡ r
one_spot w b q r e f = let g : Some q ≡ Some r = sym e ∙ f in cc

-- a block that lives at an address of a symbol is where the symbol is
at_symbol : (g : World) (sym : Sym) (size : ℕ) → LiesIn (At (g.place.address sym.0)) size → At (g.place.address sym.0) ≡ At (located g.place sym 0)
at_symbol g sym size h = ap At (omega (arith, h.1))

module _ (g : World) (a : Active) (c : Scene) (w : Placing) (k : Banks) (t : State) (j : Joins g a c w k t) where
  -- a live block with its place at a symbol
  symbol_spot : (sym : Sym) (b : ℕ) (x : Block) (q : Spot) → IsAt c.store w b x q → w b ≡ Some (At (g.place.address sym.0)) → q ≡ At (located g.place sym 0)
  symbol_spot sym b x q at e =
      let same : q ≡ At (g.place.address sym.0) = one_spot w b q (At (g.place.address sym.0)) at.place e in
      let lies : LiesIn (At (g.place.address sym.0)) x.size = subst (λ r. LiesIn r x.size) same (j.stands.lies b x q at) in
      same ∙ at_symbol g sym x.size lies

pub objects_are_at_symbols : ObjectsAreAtSymbols
objects_are_at_symbols g a c w k t i x q j lasts lt at = symbol_spot g a c w k t j (object_symbol (numbers_of g.parts) i) _ x q at (j.symbols.objects i lasts lt)

pub literals_are_at_symbols : LiteralsAreAtSymbols
literals_are_at_symbols g a c w k t l x q j lt at = symbol_spot g a c w k t j (literal_symbol (numbers_of g.parts) l) _ x q at (j.symbols.literals l lt)

pub functions_are_at_symbols : FunctionsAreAtSymbols
functions_are_at_symbols g a c w k t f x q j lt at = symbol_spot g a c w k t j (function_symbol (numbers_of g.parts) f) f x q at (j.symbols.funcs f lt)

-- ---- at home

module _ (g : World) (a : Active) (pushed needs : ℕ) (c : Scene) (w : Placing) (k : Banks) (t : State) (r : Ready g a pushed needs c w k t) (i b : ℕ) (x : Block) (q : Spot) (named : block_in c.frames i ≡ Some b) (at : IsAt c.store w b x q) where
  home : q ≡ spot_of g a i
  home = one_spot w b q (spot_of g a i) at.place (r.joins.homes i b named)

  at_home : is_raised a.frame i ≡ false → (h : Option Home) → home_of a.frame i ≡ h → q ≡ spot_in g a t (home_place g pushed i h)
  at_home low None e = symbol_spot g a c w k t r.joins (object_symbol (numbers_of g.parts) i) b x q at (r.joins.homes i b named ∙ ap (λ h. Some (home_spot g a i h)) e)
  at_home low (Some (homes.Bank n)) e = home ∙ ap (home_spot g a i) e
  at_home low (Some (homes.Soft d)) e =
      let none : a.base + d + (if is_raised a.frame i then a.raised else 0) ≡ a.base + d + 0 = ap (λ s. a.base + d + (if s then a.raised else 0)) low in
      home ∙ ap (home_spot g a i) e ∙ ap At (none ∙ omega (arith, r.sp))

  raised : (d : ℕ) → is_raised a.frame i ≡ true → home_of a.frame i ≡ Some (homes.Soft d) → q ≡ At (sp_of t + pushed + d + (t.mem (sp_of t + pushed) - a.frame.stacked))
  raised d high e =
      let more : a.base + d + (if is_raised a.frame i then a.raised else 0) ≡ a.base + d + a.raised = ap (λ s. a.base + d + (if s then a.raised else 0)) high in
      let count : t.mem a.base ≡ a.frame.stacked + a.raised = r.joins.counted (is_first a.frame.variadic (lies_above a.frame.soft (home_of a.frame i)) high) in
      let there : t.mem (sp_of t + pushed) ≡ a.frame.stacked + a.raised = ap t.mem r.sp ∙ count in
      home ∙ ap (home_spot g a i) e ∙ ap At (more ∙ omega (arith, r.sp, there))
    where
      is_first : (x y : Bool) → x && y ≡ true → x ≡ true
      is_first true y e = refl
      is_first false y e = cc

pub objects_are_at_home : ObjectsAreAtHome
objects_are_at_home g a pushed needs c w k t i b x q r named at low = at_home g a pushed needs c w k t r i b x q named at low (home_of a.frame i) refl

pub parameters_are_raised : ParametersAreRaised
parameters_are_raised g a pushed needs c w k t i b d x q r named at high e = raised g a pushed needs c w k t r i b x q named at d high e

-- ---- parts

pub parts_are_behind : PartsAreBehind
parts_are_behind g a t (Bank b) size n lies le = refl
parts_are_behind g a t (Near o) size n lies le = ap At (omega arith)
parts_are_behind g a t (Data sym o) size n lies le = ap At (omega (arith, lies.1, le))
parts_are_behind g a t (Far o) size n lies le = ap At (omega arith)
