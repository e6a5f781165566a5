-- Faults, and the line that is printed for one.
use Rattle.std.specs.Prelude.{ℕ, ◌-◌, List, [], ◌∷◌, ◌++◌, slice_get, codes, unwrap_or}
use Rattle.std.specs.Fmt.{decimal}
use Rattle.j2k_base.specs.declared.places.Phase.{Phase}
use Rattle.j2k_base.specs.declared.places.Phase.TheVariants.{Settings, L, S, N, T, F, P, U, KL, KS, K}
use Rattle.j2k_base.specs.declared.places.Place.{Place}
use Rattle.j2k_base.specs.declared.places.Fault.{Fault}
use Rattle.java_tree.specs.declared.tokens.Position.{Position}

-- the letters of a phase's codes
abbrev pub letters_of : Phase → List ℕ
letters_of Settings = codes "C"
letters_of L = codes "L"
letters_of S = codes "S"
letters_of N = codes "N"
letters_of T = codes "T"
letters_of F = codes "F"
letters_of P = codes "P"
letters_of U = codes "U"
letters_of KL = codes "KL"
letters_of KS = codes "KS"
letters_of K = codes "K"

-- The texts of the codes, in the order of their numbers. Where a phase has one text, all its codes have it.

-- of tokens: L1 to L6
abbrev pub token_texts : List (List ℕ)
token_texts =
    codes "invalid UTF-8" ∷ codes "bad Unicode escape" ∷ codes "illegal character" ∷ codes "bad comment or literal" ∷
    codes "integer literal too large" ∷ codes "outside the profile" ∷ []

-- of spelling: S1 to S3
abbrev pub spelling_texts : List (List ℕ)
spelling_texts = codes "unmatched bracket" ∷ codes "no such form" ∷ codes "nesting too deep" ∷ []

-- of names: N0 to N6
abbrev pub name_texts : List (List ℕ)
name_texts =
    codes "not built yet" ∷ codes "unknown name" ∷ codes "declared twice" ∷ codes "cycle" ∷ codes "ambiguous name" ∷
    codes "reserved name" ∷ codes "wrong file name" ∷ []

-- of types: T1 to T7
abbrev pub type_texts : List (List ℕ)
type_texts =
    codes "operand types" ∷ codes "no applicable member" ∷ codes "ambiguous member" ∷ codes "bad override" ∷ codes "abstract" ∷
    codes "checked exception" ∷ codes "not assignable" ∷ []

-- of assignment and reachability: F1 to F5
abbrev pub flow_texts : List (List ℕ)
flow_texts =
    codes "not assigned" ∷ codes "assigned twice" ∷ codes "unreachable" ∷ codes "missing return" ∷ codes "not effectively final" ∷ []

-- the text at a place of a list, empty behind its end
abbrev pub text_in : List (List ℕ) → ℕ → List ℕ
text_in texts at = unwrap_or (slice_get texts at) []

-- the text of a code; the codes are numbered from 1, those of names from 0
abbrev pub text_of : Phase → ℕ → List ℕ
text_of Settings number = codes "bad settings"
text_of L number = text_in token_texts (number - 1)
text_of S number = text_in spelling_texts (number - 1)
text_of N number = text_in name_texts number
text_of T number = text_in type_texts (number - 1)
text_of F number = text_in flow_texts (number - 1)
text_of P number = codes "profile rule"
text_of U number = codes "must not be null"
text_of KL number = codes "kotlin lexical"
text_of KS number = codes "kotlin syntax"
text_of K number = codes "kotlin type"

-- `PATH:LINE:COLUMN`
abbrev pub place_text : Place → List ℕ
place_text place = place.path ++ codes ":" ++ decimal place.line ++ codes ":" ++ decimal place.column

abbrev pub code_text : Phase → ℕ → List ℕ
code_text phase number = letters_of phase ++ decimal number

-- a line feed
abbrev pub line_end : List ℕ
line_end = 10 ∷ []

-- `PATH:LINE:COLUMN: CODE TEXT` and a line end
unfoldable pub fault_line : Fault → List ℕ
fault_line fault =
    place_text fault.place ++ codes ": " ++ code_text fault.phase fault.number ++ codes " " ++ text_of fault.phase fault.number ++ line_end

-- a form that isn't taken yet, at a position of the file of a path
abbrev pub not_built : List ℕ → Position → Fault
not_built path at = record { phase = N; number = 0; place = record { path = path; offset = at.offset; line = at.line; column = at.column } }
