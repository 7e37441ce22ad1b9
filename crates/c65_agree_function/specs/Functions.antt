-- One call of a function of a program, from its first statement on (C90 6.7.1).
use Rattle.std.specs.Prelude.{◌≡◌, ℕ, ◌+◌, ◌==◌, ◌&&◌, not, true, List, [], ◌∷◌, length}
use Rattle.c65_ints.specs.declared.types.IntType.TheVariants.{Int}
use Rattle.c65_csem.specs.Trees.{Stmt, UnitTy}
use Rattle.c65_meaning.specs.Store.{Value, Shape, Number, Pointer}
use Rattle.c65_meaning.specs.Items.{Item}
use Rattle.c65_meaning.specs.State.{Scene}
use Rattle.c65_code.specs.LineState.{State}
use Rattle.c65_genentry.specs.Entry.{entry_code}
use Rattle.c65_genstmt.specs.Stmts.{ways, returns_last}
use Rattle.c65_genstmt.specs.Functions.{main_code}
use Rattle.c65_agree_store.specs.Stands.{Placing, Banks}
use Rattle.c65_agree_state.specs.World.{World, Active}
use Rattle.c65_agree_lines.specs.Lists.{last_code}
use Rattle.c65_agree_leave.specs.Laws.{params_in}
use Rattle.c65_agree_enter.specs.Params.{shape_in}
use Rattle.c65_agree_stmts.specs.Calling.{Calling}
use Rattle.c65_agree_homes.specs.Turns.{first_label}

-- the call that has this scene at its first statement, for up to n steps
abbrev pub calling_of : World → Active → ℕ → Stmt → Shape → List Item → List Value → ℕ → ℕ → Scene → Placing → Banks → State → Calling
calling_of g a needs body result below vs n v c q b t = record {
  world = g;
  active = a;
  needs = needs;
  first = c;
  placing = q;
  banks = b;
  state = t;
  params = params_in g a;
  result = result;
  below = below;
  values = vs;
  most = n;
  reserve = v;
  body = body;
}

-- main gives an int
abbrev pub MainGives : World → Active → Shape → Type 0
MainGives g a result = (a.func == g.main) ≡ true → result ≡ Number Int

-- the line of its end, behind those of the entry, of the body, and of what main gives at its end
abbrev pub end_line : World → Active → Stmt → ℕ
end_line g a body = length (entry_code a.frame) + length (last_code a.frame (ways 0 0 0) 0 body (first_label body)) + length (main_code ((a.func == g.main) && not (returns_last body)))

-- main takes no arguments, or their number and their list
abbrev pub TakesProgramArguments : UnitTy → List ℕ → Type 0
TakesProgramArguments u [] = Unit {0}
TakesProgramArguments u (i ∷ j ∷ []) = (shape_in u i ≡ Number Int) × (size : ℕ) × (shape_in u j ≡ Pointer size)
TakesProgramArguments u _ = ⊥
