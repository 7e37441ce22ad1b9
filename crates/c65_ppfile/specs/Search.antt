-- Under which paths the file of an #include is sought (C90 6.8.2).
use Rattle.std.specs.Prelude.{ℕ, ◌+◌, List, [], ◌∷◌, ◌++◌, map, take, Bool, true, false, ◌==◌, if◌then◌else◌}

-- how many bytes a path has up to its last /, counted on
abbrev pub up_to_slash : ℕ → ℕ → List ℕ → ℕ
up_to_slash at found [] = found
up_to_slash at found (b ∷ bs) = up_to_slash (at + 1) (if b == 47 then at + 1 else found) bs

-- the folder of a path with its /; nothing for a path without one
abbrev pub folder_of : List ℕ → List ℕ
folder_of path = take (up_to_slash 0 0 path) path

abbrev pub is_rooted : List ℕ → Bool
is_rooted [] = false
is_rooted (b ∷ bs) = b == 47

-- a folder and a name are joined by one /
abbrev pub in_folder : List ℕ → List ℕ → List ℕ
in_folder name folder = folder ++ 47 ∷ name

abbrev pub beside : Bool → List ℕ → List ℕ → List (List ℕ)
beside false including name = []
beside true including name = (folder_of including ++ name) ∷ []

-- A name that begins with / is sought under that name alone. Another one is sought in the folder of the including file where
-- it stands in quotes, and then in each folder of the list.
abbrev pub paths_of : List ℕ → List (List ℕ) → Bool → List ℕ → List (List ℕ)
paths_of including folders quoted name = if is_rooted name then name ∷ [] else beside quoted including name ++ map (in_folder name) folders
