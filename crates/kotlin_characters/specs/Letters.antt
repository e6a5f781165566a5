-- The text of a Kotlin file: its bytes decoded, each character with its place.
use Rattle.std.specs.Prelude.{ℕ, zero, suc, ◌+◌, ◌-◌, ◌^◌, ◌<◌, ◌≤◌, false, not, ◌&&◌, ◌||◌, ◌==◌, List, [], ◌∷◌, drop, length, encode_utf8, if◌then◌else◌, Option, Some, None}
use Rattle.kotlin_tree.specs.declared.places.Position.{Position}
use Rattle.java_characters.specs.declared.letters.RawFront.{RawFront}
use Rattle.java_characters.specs.declared.letters.RawFront.TheVariants as raw
use Rattle.java_characters.specs.Letters.{character_front}
use Rattle.kotlin_characters.specs.declared.letters.Cursor.{Cursor}
use Rattle.kotlin_characters.specs.declared.letters.Ending.{Ending}
use Rattle.kotlin_characters.specs.declared.letters.Ending.TheVariants.{File, Byte}
use Rattle.kotlin_characters.specs.declared.letters.Front as front
use Rattle.kotlin_characters.specs.declared.letters.Front.TheVariants.{Stop, Letter}

-- Letters, each with its place, up to where they end and why (own rule).
pub data Letters : Type 0 where
  letter : ℕ → Position → Letters → Letters
  stop : Ending → Position → Letters

-- a character that was read (own rule)
abbrev pub read_character : RawFront → Option ℕ
read_character (raw.Stop e) = None
read_character (raw.Plain c n) = Some c
read_character (raw.Escaped c n) = None

-- the character of UTF-8 that bytes begin with, where one does (Unicode, table 3-7)
unfoldable pub first_character : List ℕ → Option ℕ
first_character [] = None
first_character (b ∷ bs) = read_character (character_front (b ∷ bs))

-- The place behind a character. A line ends at LF, CR or CR LF; a column counts bytes (own rule).
abbrev pub past : Cursor → ℕ → Cursor
past p c = record {
  position = record {
    offset = p.position.offset + length (encode_utf8 c);
    line = if (c == 13) || ((c == 10) && not p.after_return) then p.position.line + 1 else p.position.line;
    column = if (c == 13) || (c == 10) then 1 else p.position.column + length (encode_utf8 c);
  };
  after_return = c == 13;
}

-- the letter that bytes begin with, and the letters behind it, where so many more bytes belong to it (own rule)
abbrev pub from_character : Cursor → Option ℕ → (ℕ → Cursor → Letters) → Letters
from_character p None more = stop Byte p.position
from_character p (Some c) more = letter c p.position (more (length (encode_utf8 c) - 1) (past p c))

-- The letters of bytes from p on, of which so many belong to the last letter (own rule).
abbrev pub letters_from : ℕ → Cursor → List ℕ → Letters
letters_from zero p [] = stop File p.position
letters_from (suc k) p [] = stop File p.position
letters_from zero p (b ∷ bs) = from_character p (first_character (b ∷ bs)) (λ k q. letters_from k q bs)
letters_from (suc k) p (b ∷ bs) = letters_from k p bs

-- the text from p on (own rule)
unfoldable pub letters : List ℕ → Cursor → Letters
letters bytes p = letters_from 0 p (drop p.position.offset bytes)

-- the start of a file (own rule)
abbrev pub start : Cursor
start = record { position = record { offset = 0; line = 1; column = 1 }; after_return = false }

-- the text of a file (own rule)
abbrev pub text_of : List ℕ → Letters
text_of bytes = letters bytes start

-- the text at p, by what it begins with there (own rule)
abbrev pub seen : List ℕ → Cursor → front.Front → Letters
seen bytes p (Stop e) = stop e p.position
seen bytes p (Letter c next) = letter c p.position (letters bytes next)

-- A cursor stands in the bytes, of which there are few enough that each place fits 32 bits (own rule).
abbrev pub IsAt : List ℕ → Cursor → Type 0
IsAt bytes p = (length bytes < 2 ^ 32 - 1) × (p.position.offset ≤ length bytes) × (p.position.line ≤ p.position.offset + 1) × (p.position.column ≤ p.position.offset + 1)

-- q stands in the bytes, at p or behind it (own rule).
abbrev pub IsFrom : List ℕ → Cursor → Cursor → Type 0
IsFrom bytes p q = IsAt bytes q × (p.position.offset ≤ q.position.offset)

-- The letter found at p takes some bytes (own rule).
abbrev pub GoesOn : List ℕ → Cursor → front.Front → Type 0
GoesOn bytes p (Stop e) = Unit {0}
GoesOn bytes p (Letter c next) = IsAt bytes next × (p.position.offset < next.position.offset)
