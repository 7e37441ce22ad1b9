-- Whole arrays of at most 256 bytes, by their names.
use Rattle.std.proofs.Common.{◌≡◌, ℕ, ◌+◌, ◌<◌, ◌≤◌, List, ◌∷◌, Option, Some, None, Bool, true, false, refl, sym, ap, ◌∙◌, subst, arith}
use Rattle.std.specs.Prelude.{if◌then◌else◌, ◌&&◌, nat_le, nat_lt, length, Ok}
use Rattle.std.proofs.lemmas.Bool.{leb-true}
use Rattle.c65_ctype.specs.Trees.{QTy, TypesTy, type_in}
use Rattle.c65_ctype.specs.Sizes.{size_of}
use Rattle.c65_ctype.specs.Views.{types_of}
use Rattle.c65_csem.specs.declared.items.Parts.{Parts}
use Rattle.c65_csem.specs.Trees.{Typed, node, constant, null, literal, object, func, deref, member, load, address, decay, convert, unary, binary, both, either, choice, comma, assign, assign_op, assign_step, step, copy, call, pack, spill, rest as further}
use Rattle.c65_csem.specs.Views.{object_of}
use Rattle.c65_csem.specs.Typed.{IsTyped, IsLiteral, of_unsigned, of_signed}
use Rattle.c65_meaning.specs.Why.{Unfit}
use Rattle.c65_meaning.specs.Store as values
use Rattle.c65_meaning.specs.Store.{Block, Value, size_in_store, block_size}
use Rattle.c65_meaning.specs.Items.{Item, Push, Name, plan}
use Rattle.c65_meaning.specs.Shapes.{literal_block, object_block, object_in, object_size, lives_in_frame}
use Rattle.c65_meaning.specs.State.{Scene, Running, block_in}
use Rattle.c65_meaning.specs.Step as steps
use Rattle.c65_meaning.specs.Step.{go_on}
use Rattle.c65_code.specs.declared.line.Sym.{Sym}
use Rattle.c65_code.specs.LineState.{State}
use Rattle.c65_code.specs.Comes.{Seen}
use Rattle.c65_genframe.specs.declared.home.Home.{Home}
use Rattle.c65_genframe.specs.Frames.{home_of, type_bytes}
use Rattle.c65_genframe.specs.Symbols.{numbers_of, literal_symbol, object_symbol}
use Rattle.c65_genexpr.specs.Types.{bare}
use Rattle.c65_genexpr.specs.Elements.{is_small, data_symbol, whole_symbol}
use Rattle.c65_agree_store.specs.Stands.{At, Placing, Banks}
use Rattle.c65_agree_state.specs.World.{World, unit_in, Active, place_in, HasTurns}
use Rattle.c65_agree_state.specs.Joins.{home_spot}
use Rattle.c65_agree_state.specs.Follows.{Follows}
use Rattle.c65_agree_state.specs.Exprs.{Ready}
use Rattle.c65_agree_state.proofs.Followed.{steps_earn, ready_is_calm}
use Rattle.c65_agree_rows.proofs.Quiet.{nothing_follows}
use Rattle.c65_agree_direct.proofs.Spots.{item_below, mapped_below}
use Rattle.c65_agree_pointers.specs.Sums.{told}
use Rattle.c65_agree_pointers.proofs.Lines.{elements_are_told}
use Rattle.c65_agree_access.specs.Elements.{HasOwnSize}
use Rattle.c65_agree_access.proofs.BlockSizes.{literal_has, object_has}

-- ---- sizes

-- what the generator takes as small is small
small_told : (size : ℕ) → is_small (told size) ≡ true → (0 < size) × (size ≤ 256)
small_told size = by (nat_lt size 65536)
  where
    few : (one many : Bool) → nat_le 1 size ≡ one → nat_le size 256 ≡ many → one && many ≡ true → (0 < size) × (size ≤ 256)
    few true true e f h = (leb-true 1 size e, leb-true size 256 f)
    few true false e f h = cc
    few false many e f h = cc

    by : (b : Bool) → is_small (if b then size else 0) ≡ true → (0 < size) × (size ≤ 256)
    by true h = few (nat_le 1 size) (nat_le size 256) refl refl h
    by false h = cc

pub small_is : (g : World) (a : Active) (t : QTy) → a.frame.parts ≡ g.parts → is_small (type_bytes a.frame (type_in t)) ≡ true → (0 < size_of (unit_in g).types (type_in t)) × (size_of (unit_in g).types (type_in t) ≤ 256)
small_is g a t parts small =
    let same : type_bytes a.frame (type_in t) ≡ told (size_of (unit_in g).types (type_in t)) = elements_are_told a.frame t ∙ ap (λ (p : Parts). told (size_of (types_of p.types) (type_in t))) parts in
    small_told (size_of (unit_in g).types (type_in t)) (ap is_small (sym same) ∙ small)

literal_size : (types : TypesTy) (t : QTy) (n : ℕ) → IsLiteral t n → size_of types (type_in t) ≡ n + 1
literal_size types t n of_unsigned = omega arith
literal_size types t n of_signed = omega arith

-- ---- blocks

-- a block of at most 256 bytes stands at the symbol
pub record IsArray (g : World) (s : Sym) (c : Scene) (w : Placing) (b : ℕ) : Type 0 where
  pub stands : w b ≡ Some (At (g.place.address s.0))
  pub small : block_size c.store b ≤ 256

module _ (g : World) (a : Active) (parts : a.frame.parts ≡ g.parts) (pushed needs : ℕ) (c : Scene) (w : Placing) (k : Banks) (s : State) (r : Ready g a pushed needs c w k s) where
  -- of an object of the active call
  own_array : (i m : ℕ) → block_in c.frames i ≡ Some m → home_of a.frame i ≡ None → object_size (unit_in g).types (object_in (unit_in g) i) ≤ 256 → IsArray g (object_symbol (numbers_of g.parts) i) c w m
  own_array i m named home few = record { stands = r.joins.homes i m named ∙ ap (λ (h : Option Home). Some (home_spot g a i h)) home; small = go (c.store m) refl }
    where
      go : (o : Option Block) → c.store m ≡ o → block_size c.store m ≤ 256
      go None e = let none : block_size c.store m ≡ 0 = ap size_in_store e in omega (arith, none)
      go (Some x) e =
          let one : block_size c.store m ≡ x.size = ap size_in_store e in
          omega (arith, one, r.joins.sized i m x named e, few)

  lasting_array : (i : ℕ) → lives_in_frame (object_in (unit_in g) i) ≡ false → i < length (unit_in g).objects → i < length g.parts.objects.items → object_size (unit_in g).types (object_in (unit_in g) i) ≤ 256 → IsArray g (object_symbol (numbers_of g.parts) i) c w (object_block (unit_in g) i)
  lasting_array i lasts lt lt2 few =
      let size = object_has (unit_in g) c.store c.next r.joins.sizes i lasts lt in
      record { stands = r.joins.symbols.objects i lasts lt2; small = omega (arith, size, few) }

  module _ (n weight : ℕ) (j : ℕ) (lt : j < n) (work : List Item) (vs : List Value) (seen : Seen) (p : ℕ) (turned : HasTurns g c.turns (place_in g a p) seen) where
    abbrev Named : Sym → Type 0
    Named sy = (m : ℕ) → IsArray g sy c w m → Follows g j (weight + 4000) (Running work (values.Place m 0 ∷ vs) c) (place_in g a p) s seen

    object_goes : (i : ℕ) → home_of a.frame i ≡ None → i < length (unit_in g).objects → i < length g.parts.objects.items → object_size (unit_in g).types (object_in (unit_in g) i) ≤ 256 → Named (object_symbol (numbers_of g.parts) i)
        → (lives : Bool) → lives_in_frame (object_in (unit_in g) i) ≡ lives → Follows g j (weight + 4000) (go_on (if lives then steps.place_in (block_in c.frames i) else Ok (values.Place (object_block (unit_in g) i) 0)) work vs c) (place_in g a p) s seen
    object_goes i home lt lt2 few goes true lives = by (block_in c.frames i) refl
      where
        by : (o : Option ℕ) → block_in c.frames i ≡ o → Follows g j (weight + 4000) (go_on (steps.place_in o) work vs c) (place_in g a p) s seen
        by None e = nothing_follows g Unfit j (weight + 4000) (place_in g a p) s seen
        by (Some m) e = goes m (own_array i m e home few)
    object_goes i home lt lt2 few goes false lasts = goes (object_block (unit_in g) i) (lasting_array i lasts lt lt2 few)

-- ---- names

module _ (g : World) (a : Active) (parts : a.frame.parts ≡ g.parts) (pushed needs n weight p : ℕ) (work : List Item) (vs : List Value) (c : Scene) (w : Placing) (k : Banks) (s : State) (seen : Seen) (r : Ready g a pushed needs c w k s) (turned : HasTurns g c.turns (place_in g a p) seen) where
  abbrev Goes : Sym → Type 0
  Goes sy = (j m : ℕ) → j < n → IsArray g sy c w m → Follows g j (weight + 4000) (Running work (values.Place m 0 ∷ vs) c) (place_in g a p) s seen

  literal_follows : (t : QTy) (l : ℕ) → IsTyped (unit_in g) (node t (literal l)) → size_of (unit_in g).types (type_in t) ≤ 256 → Goes (literal_symbol (numbers_of g.parts) l) → Follows g n weight (Running (plan (unit_in g) (node t (literal l)) work) vs c) (place_in g a p) s seen
  literal_follows t l typed few goes =
      let text : List ℕ = typed.0 in
      let lt : l < length g.parts.literals.items = item_below (unit_in g).literals l text typed.1 in
      let size = literal_has (unit_in g) c.store c.next r.joins.sizes l text typed.1 in
      let bytes = literal_size (unit_in g).types t (length text) typed.2 in
      steps_earn g n weight (Push (values.Place (literal_block (unit_in g) l) 0)) work vs c (place_in g a p) s seen (ready_is_calm g a pushed needs c w k s r).calm r.joins.output r.joins.ended (omega (arith, turned)) (λ j less.
      goes j (literal_block (unit_in g) l) less (record { stands = r.joins.symbols.literals l lt; small = omega (arith, size, bytes, few) }))

  object_follows : (t : QTy) (i : ℕ) → IsTyped (unit_in g) (node t (object i)) → HasOwnSize g (node t (object i)) → home_of a.frame i ≡ None → (0 < size_of (unit_in g).types (type_in t)) × (size_of (unit_in g).types (type_in t) ≤ 256) → Goes (object_symbol (numbers_of g.parts) i) → Follows g n weight (Running (plan (unit_in g) (node t (object i)) work) vs c) (place_in g a p) s seen
  object_follows t i typed own home few goes =
      let lt : i < length (unit_in g).objects = item_below (unit_in g).objects i typed.0 typed.1 in
      let lt2 : i < length g.parts.objects.items = mapped_below object_of g.parts.objects.items i typed.0 typed.1 in
      let small : object_size (unit_in g).types (object_in (unit_in g) i) ≤ 256 = omega (arith, own few.0, few.1) in
      steps_earn g n weight (Name i) work vs c (place_in g a p) s seen (ready_is_calm g a pushed needs c w k s r).calm r.joins.output r.joins.ended (omega (arith, turned)) (λ j less.
      object_goes g a parts pushed needs c w k s r n weight j less work vs seen p turned i home lt lt2 small (λ m is. goes j m less is) (lives_in_frame (object_in (unit_in g) i)) refl)

  by_home : (t : QTy) (i : ℕ) (sy : Sym) (h : Option Home) → home_of a.frame i ≡ h → data_symbol a.frame i h ≡ Some sy → IsTyped (unit_in g) (node t (object i)) → HasOwnSize g (node t (object i)) → (0 < size_of (unit_in g).types (type_in t)) × (size_of (unit_in g).types (type_in t) ≤ 256) → Goes sy → Follows g n weight (Running (plan (unit_in g) (node t (object i)) work) vs c) (place_in g a p) s seen
  by_home t i sy (Some h) home e typed own few goes = absurd cc
  by_home t i sy None home e typed own few goes =
      let same : object_symbol (numbers_of a.frame.parts) i ≡ sy = cc in
      let there : sy ≡ object_symbol (numbers_of g.parts) i = sym same ∙ ap (λ (ps : Parts). object_symbol (numbers_of ps) i) parts in
      object_follows t i typed own home few (subst Goes there goes)

  pub whole_follows : (e : Typed) (sy : Sym) → whole_symbol a.frame e ≡ Some sy → IsTyped (unit_in g) e → HasOwnSize g e → is_small (type_bytes a.frame (bare e)) ≡ true → Goes sy → Follows g n weight (Running (plan (unit_in g) e work) vs c) (place_in g a p) s seen
  whole_follows (node t (constant z)) sy f typed own small goes = absurd cc
  whole_follows (node t null) sy f typed own small goes = absurd cc
  whole_follows (node t (literal n)) sy e typed own small goes =
      let same : literal_symbol (numbers_of a.frame.parts) n ≡ sy = cc in
      let there : sy ≡ literal_symbol (numbers_of g.parts) n = sym same ∙ ap (λ (ps : Parts). literal_symbol (numbers_of ps) n) parts in
      literal_follows t n typed (small_is g a t parts small).1 (subst Goes there goes)
  whole_follows (node t (object i)) sy e typed own small goes = by_home t i sy (home_of a.frame i) refl e typed own (small_is g a t parts small) goes
  whole_follows (node t (func i)) sy f typed own small goes = absurd cc
  whole_follows (node t (deref e)) sy f typed own small goes = absurd cc
  whole_follows (node t (member e m)) sy f typed own small goes = absurd cc
  whole_follows (node t (load e)) sy f typed own small goes = absurd cc
  whole_follows (node t (address e)) sy f typed own small goes = absurd cc
  whole_follows (node t (decay e)) sy f typed own small goes = absurd cc
  whole_follows (node t (convert e)) sy f typed own small goes = absurd cc
  whole_follows (node t (unary op e)) sy f typed own small goes = absurd cc
  whole_follows (node t (binary op x y)) sy f typed own small goes = absurd cc
  whole_follows (node t (both x y)) sy f typed own small goes = absurd cc
  whole_follows (node t (either x y)) sy f typed own small goes = absurd cc
  whole_follows (node t (choice x y z)) sy f typed own small goes = absurd cc
  whole_follows (node t (comma x y)) sy f typed own small goes = absurd cc
  whole_follows (node t (assign x y)) sy f typed own small goes = absurd cc
  whole_follows (node t (assign_op op h x y)) sy f typed own small goes = absurd cc
  whole_follows (node t (assign_step op x y)) sy f typed own small goes = absurd cc
  whole_follows (node t (step how x)) sy f typed own small goes = absurd cc
  whole_follows (node t (copy x y)) sy f typed own small goes = absurd cc
  whole_follows (node t (call x es)) sy f typed own small goes = absurd cc
  whole_follows (node t (pack x)) sy f typed own small goes = absurd cc
  whole_follows (node t (spill i x)) sy f typed own small goes = absurd cc
  whole_follows (node t further) sy f typed own small goes = absurd cc
