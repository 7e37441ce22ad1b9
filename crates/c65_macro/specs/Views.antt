-- The tokens, arguments and bodies that calls work on, as the definition sees them: by the nodes of
-- the hide sets.
use Rattle.std.specs.Prelude.{ℕ, List, [], map, Option}
use Rattle.c65_base.specs.declared.names.Name.{Name}
use Rattle.c65_lex.specs.declared.token.PpToken.{PpToken}
use Rattle.c65_macro.specs.declared.sets.Node.{Node}
use Rattle.c65_macro.specs.declared.marked.Marked.{Marked}
use Rattle.c65_macro.specs.declared.fill.Used.{Used}
use Rattle.c65_macro.specs.declared.fill.Filled.{Filled}
use Rattle.c65_macro.specs.Sets.{set_of}
use Rattle.c65_macro.specs.Items.{Item, put_count}
use Rattle.c65_macro.specs.Fill.{Use, Filling}

abbrev pub item_of : List Node → Marked → Item
item_of nodes m = record { token = m.token; hide = set_of nodes m.hide.0; put = m.put }

abbrev pub items_of : List Node → List Marked → List Item
items_of nodes ms = map (item_of nodes) ms

-- how many of these replacements have put there
abbrev pub put_of : List Marked → ℕ
put_of ms = put_count (items_of [] ms)

abbrev pub lists_of : List Node → List (List Marked) → List (List Item)
lists_of nodes mss = map (items_of nodes) mss

abbrev pub tokens_of : List Marked → List PpToken
tokens_of ms = map (λ m. m.token) ms

abbrev pub use_of : List Node → Option (List Name) → Used → Use
use_of nodes params u = record { words = u.words; params = params; raw = lists_of nodes u.raw.items; full = lists_of nodes u.full.items; place = u.place }

abbrev pub filling_of : List Node → Filled → Filling
filling_of nodes f = record { ready = items_of nodes f.ready.items; chain = items_of nodes f.chain.items; glued = f.glued; hash = f.hash }
