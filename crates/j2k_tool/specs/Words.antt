-- What the words of a command line mean.
use Rattle.std.specs.Prelude.{ℕ, ◌+◌, drop, List, [], ◌∷◌, length, Bool, true, false, Option, Some, None, nat_lt, ◌==◌, ◌&&◌, not, if◌then◌else◌, filter, codes}
use Rattle.std.specs.List.{slice_split, take_while}
use Rattle.std.specs.Str.{bytes_eq}

-- the byte between two parts of a path
abbrev pub is_slash : ℕ → Bool
is_slash byte = byte == 47

-- a part of a path that isn't empty and leads elsewhere
abbrev pub is_step : List ℕ → Bool
is_step part = not (length part == 0) && not (bytes_eq part (codes "."))

-- the parts of a path, without those that are empty or a dot
abbrev pub steps : List ℕ → List (List ℕ)
steps path = filter is_step (slice_split is_slash path)

-- what stands before the first slash, and what stands after it
abbrev pub part_of : List ℕ → List ℕ
part_of path = take_while (λ byte. not (is_slash byte)) path

abbrev pub after_part : List ℕ → List ℕ
after_part path = drop (length (part_of path) + 1) path

abbrev pub is_rooted : List ℕ → Bool
is_rooted [] = false
is_rooted (byte ∷ path) = byte == 47

-- a leading slash is a part of its own
abbrev pub parts_left : Bool → List ℕ → List (List ℕ)
parts_left true path = codes "/" ∷ steps path
parts_left false path = steps path

abbrev pub parts : List ℕ → List (List ℕ)
parts path = parts_left (is_rooted path) path

-- a part that leads out of a folder
abbrev pub leads_out : List ℕ → Bool
leads_out part = bytes_eq part (codes "..")

-- Two paths meet where their parts are equal, or those of one begin those of the other and what is left doesn't lead out.
abbrev pub meet : List (List ℕ) → List (List ℕ) → Bool
meet [] [] = true
meet [] (second ∷ more) = not (leads_out second)
meet (first ∷ more) [] = not (leads_out first)
meet (first ∷ firsts) (second ∷ seconds) = bytes_eq first second && meet firsts seconds

-- two folders, named by words that aren't empty, neither of which lies in the other
abbrev pub are_folders : List ℕ → List ℕ → Bool
are_folders src dst = nat_lt 0 (length src) && nat_lt 0 (length dst) && not (meet (parts src) (parts dst))

-- the two folders of `convert SRC DST`; other words mean nothing
abbrev pub words_mean : List (List ℕ) → Option (List ℕ × List ℕ)
words_mean (command ∷ src ∷ dst ∷ []) = if bytes_eq command (codes "convert") && are_folders src dst then Some (src, dst) else None
words_mean words = None
