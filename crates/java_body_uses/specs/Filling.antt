-- A head, cut at its first place for a body.
use Rattle.std.specs.Prelude.{if◌then◌else◌, [], ◌∷◌}
use Rattle.java_name_uses.specs.Uses.{Uses}
use Rattle.java_body_uses.specs.Bodies.{is_block, is_place}

abbrev pub before : Uses → Uses
before [] = []
before (x ∷ xs) = if is_place x then [] else x ∷ before xs

-- the first place and what stands behind it
abbrev pub from_place : Uses → Uses
from_place [] = []
from_place (x ∷ xs) = if is_place x then x ∷ xs else from_place xs

abbrev pub behind : Uses → Uses
behind [] = []
behind (x ∷ xs) = xs

-- what stands at the place
abbrev pub placed : Uses → Uses → Uses
placed [] body = []
placed (x ∷ xs) body = if is_block x then body else []
