-- What a read of a file says of its bytes.
use Rattle.std.proofs.Common.{◌≡◌, ◌∙◌, ◌≤◌, ◌<◌, ◌+◌, ◌-◌, ℕ, List, length, take, drop, sym, ap, subst, arith, Option, Some, Result, Ok, Err, Bool, true, false}
use Rattle.std.specs.Prelude.{◌==◌, IfErr}
use Rattle.std.proofs.lemmas.List.{length-take-le}
use Rattle.c65_base.specs.declared.refusal.Refusal.{Refusal}
use Rattle.c65_base.specs.declared.refusal.Refusal.TheVariants.{OutOfMemory}
use Rattle.c65_io.specs.Contents.{Contents, ReadsFile, ReadsFrom}
use Rattle.c65_io.specs.declared.outside.FileFault.{FileFault}
use Rattle.c65_io.specs.declared.outside.FileFault.TheVariants.{Missing}
use Rattle.c65_ppline.specs.Relations.{IsFree}
use Rattle.c65_pptext.specs.declared.text.FileText.{FileText}
use Rattle.c65_pptext.specs.Reading.{Held, IsOnWay, IsReadBehind, bytes_of}

fits_most : (at size count long most : ℕ) → size ≡ count → count ≤ long → long ≡ most → at + most ≤ 1048576 → at + size ≤ 1048576
fits_most at size count long most a b c d = omega (arith, a, b, c, d)

few_there : (size count n : ℕ) → size ≡ count → count ≤ n → size ≤ n
few_there size count n a b = omega (arith, a, b)

pub no_bytes : (b : Bool) (n : ℕ) → b ≡ (n == 0) → b ≡ true → n ≡ 0
no_bytes b n e f = grind (arith, e, f)

pub some_bytes : (b : Bool) (n : ℕ) → b ≡ (n == 0) → b ≡ false → 0 < n
some_bytes b n e f = grind (arith, e, f)

pub free_err : {T : Type 0} (answer : Result T Refusal) → IfErr answer (λ e. e ≡ OutOfMemory) → IfErr answer IsFree
free_err (Ok x) h = tt
free_err (Err e) h = subst (λ (r : Refusal). IsFree r) (sym h) tt

module _ (c : Contents) (held : Held) (told : c ≡ Some held) (t : FileText) (path : List ℕ) (same : path ≡ t.path) (o : IsOnWay held t) (into : List ℕ) where
  from : (answer : Result ℕ FileFault) → ReadsFile c path t.at into answer → ReadsFrom (Some (bytes_of held t)) t.at into answer
  from answer h =
      let at_path : ReadsFrom (held path) t.at into answer = subst (λ (k : Contents). ReadsFile k path t.at into answer) told h in
      subst (λ (x : Option (List ℕ)). ReadsFrom x t.at into answer) (ap (λ (p : List ℕ). held p) same ∙ o.there) at_path

  -- a file that is there is not missing
  pub not_missing : ReadsFile c path t.at into (Err Missing) → ⊥
  not_missing h = from (Err Missing) h

  pub read_behind : (count most : ℕ) (piece : List ℕ) → ReadsFile c path t.at into (Ok count) → count ≤ length into → length into ≡ most → (t.at < 1048576 → t.at + most ≤ 1048576) → piece ≡ take count into → IsReadBehind (bytes_of held t) t.at piece
  read_behind count most piece h bound size within e =
      let r = from (Ok count) h in
      let n : length piece ≡ count = ap (λ (xs : List ℕ). length xs) e ∙ length-take-le count into bound in
      record {
        piece_is = e ∙ (r.0 ∙ ap (λ (k : ℕ). take k (drop t.at (bytes_of held t))) (sym n));
        there = few_there (length piece) count (length (bytes_of held t) - t.at) n r.1;
        within = λ low. fits_most t.at (length piece) count (length into) most n bound size (within low);
        none = λ z. r.2 (sym n ∙ z);
      }
