-- Where the places lie that a tree names without a sum.
use Rattle.std.proofs.Common.{◌≡◌, ℕ, zero, suc, ◌+◌, ◌%◌, ◌<◌, ◌≤◌, List, [], ◌∷◌, Option, Some, None, Bool, true, false, refl, sym, ap, ◌∙◌, subst, arith}
use Rattle.std.specs.Prelude.{nat_le, ◌==◌, ◌&&◌, if◌then◌else◌, slice_get, map, length}
use Rattle.std.proofs.lemmas.Bool.Decides.{nat_tests}
use Rattle.std.proofs.lemmas.Bool.{eqb-true}
use Rattle.c65_meaning.specs.Store.{Block, Store, lives_in, size_in_store, is_live, block_size}
use Rattle.c65_meaning.specs.State.{Scene, block_in}
use Rattle.c65_meaning.specs.Shapes.{literal_block, object_block, object_in, lives_in_frame}
use Rattle.c65_code.specs.declared.line.Sym.{Sym}
use Rattle.c65_code.specs.LineState.{State, sp_of}
use Rattle.c65_code.specs.Placement.{located}
use Rattle.c65_genframe.specs.declared.home.Home.{Home}
use Rattle.c65_genframe.specs.declared.home.Home.TheVariants as homes
use Rattle.c65_genframe.specs.Frames.{home_of, is_raised, lies_above}
use Rattle.c65_genframe.specs.Symbols.{numbers_of, literal_symbol, object_symbol}
use Rattle.c65_genload.specs.declared.places.Place.{Place}
use Rattle.c65_genload.specs.declared.places.Place.TheVariants.{Bank, Near, Data, Far}
use Rattle.c65_genexpr.specs.Places.{more, soft_place, place_at, object_place, moved}
use Rattle.c65_agree_store.specs.Stands.{Spot, At, Banked, Placing, Banks, Grows, IsAt, LiesIn, beyond}
use Rattle.c65_agree_state.specs.World.{World, unit_in, Active}
use Rattle.c65_agree_state.specs.Fixed.{symbol_at}
use Rattle.c65_agree_state.specs.Joins.{Joins, home_spot}
use Rattle.c65_agree_state.specs.Exprs.{Ready}
use Rattle.c65_agree_places.specs.Places.{spot_in, home_place, IsReached}
use Rattle.c65_agree_places.proofs.Spots.{objects_are_at_home, objects_are_at_symbols, literals_are_at_symbols}
use Rattle.c65_agree_load.specs.Loads.{IsMeantThere}

-- ---- lists

pub item_below : {A : Type 0} (xs : List A) (i : ℕ) (x : A) → slice_get xs i ≡ Some x → i < length xs
item_below [] i x e = cc
item_below (y ∷ xs) zero x e = omega arith
item_below (y ∷ xs) (suc i) x e = let h = item_below xs i x e in omega (arith, h)

length_mapped : {A B : Type 0} (f : A → B) (xs : List A) → length (map f xs) ≡ length xs
length_mapped f [] = refl
length_mapped f (x ∷ xs) = ap suc (length_mapped f xs)

pub mapped_below : {A B : Type 0} (f : A → B) (xs : List A) (i : ℕ) (y : B) → slice_get (map f xs) i ≡ Some y → i < length xs
mapped_below f xs i y e = subst (λ n. i < n) (length_mapped f xs) (item_below (map f xs) i y e)

-- ---- what lies there

-- a place that is known
abbrev pub IsKnown : Place → Type 0
IsKnown (Far at) = ⊥
IsKnown place = Unit {0}

-- the block of one at a symbol, also where it has ended; where the symbol's address has 16 bits, so has that of the place
abbrev pub IsAtSymbol : World → Placing → Place → ℕ → ℕ → Type 0
IsAtSymbol g w (Data sym at) b o = (x : ℕ) × (w b ≡ Some (At x)) × ((x + o) % 65536 ≡ located g.place sym at) × (g.place.address sym.0 < 65536 → x + o < 65536)
IsAtSymbol g w place b o = Unit {0}

-- one byte tells what lies so far above sp, for four bytes, and two what lies so far behind a symbol
abbrev pub IsTold : Place → Type 0
IsTold (Near at) = at ≤ 252
IsTold (Data s at) = at < 65536
IsTold place = Unit {0}

pub record LiesThere (g : World) (a : Active) (c : Scene) (w : Placing) (t : State) (place : Place) (b o : ℕ) : Type 0 where
  pub meant : IsMeantThere g a c w t place b o
  pub symbol : IsAtSymbol g w place b o
  pub told : IsTold place

beyond_none : (s : Spot) → s ≡ beyond s 0
beyond_none (At at) = ap At (omega arith)
beyond_none (Banked d i) = ap (Banked d) (omega arith)

reached_there : (g : World) (a : Active) (t : State) (place : Place) → IsReached a (spot_in g a t place)
reached_there g a t (Bank b) = refl
reached_there g a t (Near o) = tt
reached_there g a t (Data s o) = tt
reached_there g a t (Far o) = tt

-- a block that stands at the spot of a place
whole_is_meant : (g : World) (a : Active) (c : Scene) (w : Placing) (t : State) (place : Place) (b : ℕ) → ((x : Block) (q : Spot) → IsAt c.store w b x q → q ≡ spot_in g a t place) → IsMeantThere g a c w t place b 0
whole_is_meant g a c w t place b home x q at =
    let there : q ≡ spot_in g a t place = home x q at in
    (subst (IsReached a) (sym there) (reached_there g a t place), sym there ∙ beyond_none q)

module _ (g : World) (a : Active) (pushed needs : ℕ) (c : Scene) (w : Placing) (k : Banks) (t : State) (r : Ready g a pushed needs c w k t) where
  pub literal_lies : (l : ℕ) → l < length g.parts.literals.items → LiesThere g a c w t (Data (literal_symbol (numbers_of g.parts) l) 0) (literal_block (unit_in g) l) 0
  literal_lies l lt = record {
    meant = whole_is_meant g a c w t (Data (literal_symbol (numbers_of g.parts) l) 0) (literal_block (unit_in g) l) (λ x q at. literals_are_at_symbols g a c w k t l x q r.joins lt at);
    symbol = (g.place.address (literal_symbol (numbers_of g.parts) l).0, r.joins.symbols.literals l lt, refl, λ h. omega (arith, h));
    told = omega arith;
  }

  -- an object of the whole run
  pub lasting_lies : (i : ℕ) → lives_in_frame (object_in (unit_in g) i) ≡ false → i < length g.parts.objects.items → LiesThere g a c w t (Data (object_symbol (numbers_of g.parts) i) 0) (object_block (unit_in g) i) 0
  lasting_lies i lasts lt = record {
    meant = whole_is_meant g a c w t (Data (object_symbol (numbers_of g.parts) i) 0) (object_block (unit_in g) i) (λ x q at. objects_are_at_symbols g a c w k t i x q r.joins lasts lt at);
    symbol = (symbol_at g i, r.joins.symbols.objects i lasts lt, refl, λ h. omega (arith, h));
    told = omega arith;
  }

  -- an object of the call
  module _ (i b : ℕ) (named : block_in c.frames i ≡ Some b) where
    at_home : is_raised a.frame i ≡ false → (x : Block) (q : Spot) → IsAt c.store w b x q → q ≡ spot_in g a t (home_place g pushed i (home_of a.frame i))
    at_home low x q at = objects_are_at_home g a pushed needs c w k t i b x q r named at low

    low_by : (h : Option Home) → home_of a.frame i ≡ h → lies_above a.frame.soft h ≡ false → is_raised a.frame i ≡ false
    low_by h e low = ap (λ z. a.frame.variadic && lies_above a.frame.soft z) e ∙ ap (λ z. a.frame.variadic && z) low ∙ neither a.frame.variadic
      where
        neither : (z : Bool) → z && false ≡ false
        neither true = refl
        neither false = refl

    near_lies : (d : ℕ) → home_of a.frame i ≡ Some (homes.Soft d) → is_raised a.frame i ≡ false → more d pushed ≤ 252 → LiesThere g a c w t (Near (more d pushed)) b 0
    near_lies d e low few = record { meant = whole_is_meant g a c w t (Near (more d pushed)) b there; symbol = tt; told = few }
      where
        there : (x : Block) (q : Spot) → IsAt c.store w b x q → q ≡ At (sp_of t + more d pushed)
        there x q at =
            let home : q ≡ At (sp_of t + (d + pushed)) = at_home low x q at ∙ ap (λ z. spot_in g a t (home_place g pushed i z)) e in
            let lies : LiesIn (At (sp_of t + (d + pushed))) x.size = subst (λ s. LiesIn s x.size) home (r.joins.stands.lies b x q at) in
            home ∙ ap At (omega (arith, lies.1))

    own_lies : (h : Option Home) → home_of a.frame i ≡ h → IsKnown (place_at a.frame pushed i h) → LiesThere g a c w t (place_at a.frame pushed i h) b 0
    own_lies None e known = record {
      meant = whole_is_meant g a c w t (Data (object_symbol (numbers_of g.parts) i) 0) b (λ x q at. at_home (low_by None e refl) x q at ∙ ap (λ z. spot_in g a t (home_place g pushed i z)) e);
      symbol = (symbol_at g i, r.joins.homes i b named ∙ ap (λ z. Some (home_spot g a i z)) e, refl, λ h. omega (arith, h));
      told = omega arith;
    }
    own_lies (Some (homes.Bank n)) e known = record {
      meant = whole_is_meant g a c w t (Bank n) b (λ x q at. at_home (low_by (Some (homes.Bank n)) e refl) x q at ∙ ap (λ z. spot_in g a t (home_place g pushed i z)) e);
      symbol = tt;
      told = tt;
    }
    own_lies (Some (homes.Soft d)) e known = go (is_raised a.frame i) refl known
      where
        near_by : (fits : Bool) → nat_le (more d pushed) 252 ≡ fits → is_raised a.frame i ≡ false → IsKnown (if fits then Near (more d pushed) else Far 0) → LiesThere g a c w t (if fits then Near (more d pushed) else Far 0) b 0
        near_by true few low h = near_lies d e low (grind (arith, nat_tests))
        near_by false few low h = absurd h

        go : (raised : Bool) → is_raised a.frame i ≡ raised → IsKnown (soft_place raised (more d pushed)) → LiesThere g a c w t (soft_place raised (more d pushed)) b 0
        go true f h = absurd h
        go false f h = near_by (nat_le (more d pushed) 252) refl f h

    pub object_lies : IsKnown (object_place a.frame pushed i) → LiesThere g a c w t (object_place a.frame pushed i) b 0
    object_lies known = own_lies (home_of a.frame i) refl known

-- ---- parts

beyond_both : (s : Spot) (o n : ℕ) → beyond (beyond s o) n ≡ beyond s (o + n)
beyond_both (At at) o n = ap At (omega arith)
beyond_both (Banked d i) o n = ap (Banked d) (omega arith)

pub known_whole : (place : Place) (n : ℕ) → IsKnown (moved place n) → IsKnown place
known_whole (Bank b) n h = tt
known_whole (Near at) n h = tt
known_whole (Data s at) n h = tt
known_whole (Far at) n h = absurd h

-- a block that lives
pub record IsLive (s : Store) (b : ℕ) : Type 0 where
  pub block : Block
  pub is : s b ≡ Some block
  pub live : block.live ≡ true
  pub size : block_size s b ≡ block.size

pub live_block : (s : Store) (b : ℕ) → is_live s b ≡ true → IsLive s b
live_block s b e = go (s b) refl e
  where
    go : (x : Option Block) → s b ≡ x → lives_in x ≡ true → IsLive s b
    go None is e = cc
    go (Some x) is e = record { block = x; is = is; live = e; size = ap size_in_store is }

module _ (g : World) (a : Active) (c : Scene) (w : Placing) (k : Banks) (t : State) (j : Joins g a c w k t) (b o n : ℕ) (l : IsLive c.store b) (fits : o + n ≤ l.block.size) where
  lies : (x : Block) (q : Spot) → IsAt c.store w b x q → LiesIn q l.block.size
  lies x q at =
      let one : Some x ≡ Some l.block = sym at.is ∙ l.is in
      let same : x ≡ l.block = cc in
      subst (λ z. LiesIn q z.size) same (j.stands.lies b x q at)

  near_part : (at : ℕ) → at + n ≤ 252 → LiesThere g a c w t (Near at) b o → LiesThere g a c w t (Near (at + n)) b (o + n)
  near_part at few h = record { meant = λ x q is. ((h.meant x q is).0, ap At (omega arith) ∙ ap (λ s. beyond s n) (h.meant x q is).1 ∙ beyond_both q o n); symbol = tt; told = few }

  data_part : (sm : Sym) (at : ℕ) → LiesThere g a c w t (Data sm at) b o → LiesThere g a c w t (Data sm (more at (n % 65536))) b (o + n)
  data_part sm at h = record { meant = λ x q is. ((h.meant x q is).0, there q (lies x q is) (h.meant x q is).1); symbol = (h.symbol.0, h.symbol.1, omega (arith, h.symbol.2), λ _. omega (arith, fits, (lies l.block (At h.symbol.0) (record { is = l.is; live = l.live; place = h.symbol.1 })).1)); told = omega arith }
    where
      there : (q : Spot) → LiesIn q l.block.size → At (located g.place sm at) ≡ beyond q o → At (located g.place sm (more at (n % 65536))) ≡ beyond q (o + n)
      there (At p) low e = let same : located g.place sm at ≡ p + o = cc in ap At (omega (arith, same, low.1, fits))
      there (Banked d i) low e = cc

  pub part_lies : (place : Place) → IsKnown (moved place n) → LiesThere g a c w t place b o → LiesThere g a c w t (moved place n) b (o + n)
  part_lies (Bank i) known h = go (n == 0) refl known
    where
      go : (none : Bool) → (n == 0) ≡ none → IsKnown (if none then Bank i else Far 0) → LiesThere g a c w t (if none then Bank i else Far 0) b (o + n)
      go true e f = let zero_on : n ≡ 0 = eqb-true n 0 e in let same : o ≡ o + n = omega (arith, zero_on) in subst (λ z. LiesThere g a c w t (Bank i) b z) same h
      go false e f = absurd f
  part_lies (Near at) known h = go (nat_le n 252) (nat_le (at + n) 252) refl known
    where
      go : (few near : Bool) → nat_le (at + n) 252 ≡ near → IsKnown (if few then (if near then Near (at + n) else Far 0) else Far 0) → LiesThere g a c w t (if few then (if near then Near (at + n) else Far 0) else Far 0) b (o + n)
      go true true e f = near_part at (grind (arith, nat_tests)) h
      go true false e f = absurd f
      go false near e f = absurd f
  part_lies (Data sm at) known h = data_part sm at h
  part_lies (Far at) known h = absurd known

-- ---- behind other lines

-- what lies there lies there in a later state with the same scene, where blocks only gained places
module _ (g : World) (a : Active) (pushed needs more_needs : ℕ) (c : Scene) (w w2 : Placing) (k k2 : Banks) (t u : State) (r : Ready g a pushed needs c w k t) (r2 : Ready g a pushed more_needs c w2 k2 u) (grows : Grows w w2) where
  same_spot : (place : Place) → IsKnown place → spot_in g a t place ≡ spot_in g a u place
  same_spot (Bank at) known = refl
  same_spot (Near at) known = let same : sp_of t + at ≡ sp_of u + at = omega (arith, r.sp, r2.sp) in ap At same
  same_spot (Data s at) known = refl
  same_spot (Far at) known = absurd known

  same_symbol : (place : Place) (b o : ℕ) → IsAtSymbol g w place b o → IsAtSymbol g w2 place b o
  same_symbol (Bank at) b o h = tt
  same_symbol (Near at) b o h = tt
  same_symbol (Data s at) b o h = (h.0, grows b (At h.0) h.1, h.2, h.3)
  same_symbol (Far at) b o h = tt

  pub lies_later : (place : Place) (b o : ℕ) → IsKnown place → LiesThere g a c w t place b o → LiesThere g a c w2 u place b o
  lies_later place b o known lies = record { meant = λ x q at. meant x q at; symbol = same_symbol place b o lies.symbol; told = lies.told }
    where
      meant : (x : Block) (q : Spot) → IsAt c.store w2 b x q → IsReached a q × (spot_in g a u place ≡ beyond q o)
      meant x q at =
          let before = r.joins.stands.placed b x at.is at.live in
          let one : Some q ≡ Some before.0 = sym at.place ∙ grows b before.0 before.1 in
          let same : q ≡ before.0 = cc in
          let first : IsAt c.store w b x q = record { is = at.is; live = at.live; place = before.1 ∙ ap Some (sym same) } in
          let there = lies.meant x q first in
          (there.0, sym (same_spot place known) ∙ there.1)
