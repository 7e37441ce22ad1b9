-- The objects of a function's blocks have as many bytes in its frame as the source counts.
use Rattle.std.proofs.Common.{◌≡◌, ℕ, ◌+◌, List, [], ◌∷◌, ◌++◌, refl, sym, ap, ◌∙◌, arith}
use Rattle.std.specs.Prelude.{if◌then◌else◌}
use Rattle.c65_ctype.specs.Views.{types_of}
use Rattle.c65_csem.specs.declared.items.Parts.{Parts}
use Rattle.c65_csem.specs.Places.{is_fixed_object}
use Rattle.c65_csem.specs.Trees.{Stmt, empty, eval, set_part, clear, block, if_stmt, while, do_while, for_loop, switch, case, default, label, goto, break, continue, return, Stmts, no_stmts, and_stmts, FuncTy}
use Rattle.c65_meaning.specs.Costs.{framed_size, bytes_of_objects, local_bytes, all_local_bytes}
use Rattle.c65_meaning.specs.Shapes as shapes
use Rattle.c65_genframe.specs.Objects.{objects_in, objects_in_all}
use Rattle.c65_genframe.specs.Sizes.{object_in, object_bytes}
use Rattle.c65_genframe.specs.Frames.{framed_bytes, all_bytes}
use Rattle.c65_agree_state.specs.World.{World, unit_in, Active}
use Rattle.c65_agree_homes.specs.Frames.{IsCallIn}
use Rattle.c65_agree_homes.proofs.Own.{object_same, size_same}

bytes_behind : (parts : Parts) (is js : List ℕ) → all_bytes parts (is ++ js) ≡ all_bytes parts is + all_bytes parts js
bytes_behind parts [] js = omega arith
bytes_behind parts (i ∷ is) js = omega (arith, bytes_behind parts is js)

module _ (g : World) (names : List (List ℕ)) (a : Active) (function : FuncTy) (call : IsCallIn g names a function) where
  same_bytes : (k : ℕ) → framed_bytes g.parts k ≡ framed_size (unit_in g).types (shapes.object_in (unit_in g) k)
  same_bytes k =
      let own : object_in g.parts k ≡ shapes.object_in (unit_in g) k = sym (object_same g names a function call k) in
      let size : object_bytes (types_of g.parts.types) (object_in g.parts k) ≡ shapes.object_size (unit_in g).types (shapes.object_in (unit_in g) k) = sym (size_same g names a function call k) in
      ap (λ b. if b then 0 else object_bytes (types_of g.parts.types) (object_in g.parts k)) (ap is_fixed_object own) ∙ ap (λ (n : ℕ). if is_fixed_object (shapes.object_in (unit_in g) k) then 0 else n) size

  listed : (ks : List ℕ) → all_bytes g.parts ks ≡ bytes_of_objects (unit_in g) ks
  listed [] = refl
  listed (k ∷ ks) = omega (arith, same_bytes k, listed ks)

  mutual
    pub in_statement : (s : Stmt) → all_bytes g.parts (objects_in s) ≡ local_bytes (unit_in g) s
    in_statement (block os ss) = omega (arith, bytes_behind g.parts os (objects_in_all ss), listed os, in_statements ss)
    in_statement (if_stmt e a b) = omega (arith, bytes_behind g.parts (objects_in a) (objects_in b), in_statement a, in_statement b)
    in_statement (while e a) = in_statement a
    in_statement (do_while a e) = in_statement a
    in_statement (for_loop v c n a) = in_statement a
    in_statement (switch e a) = in_statement a
    in_statement (case z a) = in_statement a
    in_statement (default a) = in_statement a
    in_statement (label l a) = in_statement a
    in_statement empty = refl
    in_statement (eval e) = refl
    in_statement (set_part k o e) = refl
    in_statement (clear k) = refl
    in_statement (goto l) = refl
    in_statement break = refl
    in_statement continue = refl
    in_statement (return e) = refl

    in_statements : (ss : Stmts) → all_bytes g.parts (objects_in_all ss) ≡ all_local_bytes (unit_in g) ss
    in_statements no_stmts = refl
    in_statements (and_stmts a ss) = omega (arith, bytes_behind g.parts (objects_in a) (objects_in_all ss), in_statement a, in_statements ss)
