-- The letters of a comment's mark are passed over.
use Rattle.std.proofs.Common.{◌≡◌, ℕ, refl}
use Rattle.kotlin_tree.specs.declared.places.Position.{Position}
use Rattle.kotlin_characters.specs.Letters.{Letters, letter, stop}
use Rattle.kotlin_characters.specs.Scans.{tail}
use Rattle.kotlin_lexer.specs.Pieces.{block_piece}

pub passed : (p : Position) (n : ℕ) (t : Letters) → block_piece p 0 n (tail t) ≡ block_piece p 1 n t
passed p n (letter c q rest) = refl
passed p n (stop e q) = refl
