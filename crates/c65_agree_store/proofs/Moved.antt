-- Places that are moved within their blocks.
use Rattle.std.proofs.Common.{◌≡◌, ℕ, ◌+◌, ◌-◌, ◌≤◌, ℤ, pos, negsuc, ◌+ℤ◌, Bool, true, false, Option, Some, None, refl, sym, ap, ◌∙◌, arith}
use Rattle.std.specs.Prelude.{nat_le, if◌then◌else◌, Ok, Err}
use Rattle.std.proofs.lemmas.Bool.{leb-true}
use Rattle.c65_meaning.specs.declared.action.Action.TheVariants.{OffsetOutside, EndedObject}
use Rattle.c65_meaning.specs.Why.{By}
use Rattle.c65_meaning.specs.Store.{Block, Store, Value, Whole, Null, Place, Opaque, Cells, NoValue, lives_in, size_in_store, is_live, block_size}
use Rattle.c65_meaning.specs.Operators.{placed_at, moved}
use Rattle.c65_code.specs.LineState.{Bytes}
use Rattle.c65_agree_store.specs.Stands.{At, Placing, Banks, Stands}

-- a place is moved by so many bytes, within its block or to its end
pub record IsMoved (s : Store) (v x : Value) (d : ℤ) : Type 0 where
  pub block : ℕ
  pub from : ℕ
  pub to : ℕ
  pub left : v ≡ Place block from
  pub result : x ≡ Place block to
  pub live : is_live s block ≡ true
  pub within : to ≤ block_size s block
  pub sum : pos from +ℤ d ≡ pos to

placed_there : (s : Store) (b o : ℕ) (d n : ℤ) (x : Value) → is_live s b ≡ true → pos o +ℤ d ≡ n → placed_at s b n ≡ Ok x → IsMoved s (Place b o) x d
placed_there s b o d (negsuc k) x live e h = absurd (cc)
placed_there s b o d (pos k) x live e h = by (nat_le k (block_size s b)) refl h
  where
    by : (c : Bool) → nat_le k (block_size s b) ≡ c → (if c then Ok (Place b k) else Err (By OffsetOutside)) ≡ Ok x → IsMoved s (Place b o) x d
    by true c h = record { block = b; from = o; to = k; left = refl; result = cc; live = live; within = leb-true k (block_size s b) c; sum = e }
    by false c h = absurd (cc)

pub is_moved : (s : Store) (v x : Value) (d : ℤ) → moved s v d ≡ Ok x → IsMoved s v x d
is_moved s (Place b o) x d h = by (is_live s b) refl h
  where
    by : (c : Bool) → is_live s b ≡ c → (if c then placed_at s b (pos o +ℤ d) else Err (By EndedObject)) ≡ Ok x → IsMoved s (Place b o) x d
    by true c h = placed_there s b o d (pos o +ℤ d) x c refl h
    by false c h = absurd (cc)
is_moved s Null x d h = absurd (cc)
is_moved s (Whole z) x d h = absurd (cc)
is_moved s Opaque x d h = absurd (cc)
is_moved s (Cells xs) x d h = absurd (cc)
is_moved s NoValue x d h = absurd (cc)

-- a place of a live block has an address below the end of the software stack
pub address_below : (s : Store) (w : Placing) (m : Bytes) (k : Banks) (b at p : ℕ) → Stands s w m k → is_live s b ≡ true → w b ≡ Some (At at) → p ≤ block_size s b → at + p ≤ 65520
address_below s w m k b at p stands live place within = by (s b) refl
  where
    by : (o : Option Block) → s b ≡ o → at + p ≤ 65520
    by None e = let clash : false ≡ true = sym (ap lives_in e) ∙ live in absurd (cc)
    by (Some x) e =
        let lives : x.live ≡ true = sym (ap lives_in e) ∙ live in
        let size : block_size s b ≡ x.size = ap size_in_store e in
        let lies = stands.lies b x (At at) (record { is = e; live = lives; place = place }) in
        omega (arith, lies.1, size, within)
