-- The text of a file: its bytes decoded, its Unicode escapes translated.
use Rattle.std.specs.Prelude.{ℕ, zero, suc, ◌+◌, ◌-◌, ◌*◌, ◌^◌, ◌<◌, ◌≤◌, Bool, false, not, ◌&&◌, ◌||◌, ◌==◌, nat_lt, List, [], ◌∷◌, drop, length, slice_index, if◌then◌else◌}
use Rattle.std.specs.Int.{is_in_range}
use Rattle.std.specs.Char.{digit_value}
use Rattle.std.specs.Str.Lossy.{second_byte_min, second_byte_max}
use Rattle.java_tree.specs.declared.tokens.Position.{Position}
use Rattle.java_characters.specs.declared.letters.Cursor.{Cursor}
use Rattle.java_characters.specs.declared.letters.Ending.{Ending}
use Rattle.java_characters.specs.declared.letters.Ending.TheVariants.{File, Byte, Escape}
use Rattle.java_characters.specs.declared.letters.RawFront.{RawFront}
use Rattle.java_characters.specs.declared.letters.RawFront.TheVariants as raw
use Rattle.java_characters.specs.declared.letters.Front as front
use Rattle.java_characters.specs.declared.letters.Front.TheVariants.{Stop, Letter}

-- Letters, each with its place, up to where they end and why (own rule).
pub data Letters : Type 0 where
  letter : ℕ → Position → Letters → Letters
  stop : Ending → Position → Letters

-- a byte of UTF-8 behind the first (Unicode, table 3-7)
abbrev pub is_tail : ℕ → Bool
is_tail b = is_in_range 0x80 0xBF b

-- the second byte of UTF-8 behind the first one (Unicode, table 3-7)
abbrev pub is_second : ℕ → ℕ → Bool
is_second a b = is_in_range (second_byte_min a) (second_byte_max a) b

-- two bytes that are a character (Unicode, table 3-7)
abbrev pub is_two : ℕ → ℕ → Bool
is_two a b = is_in_range 0xC2 0xDF a && is_tail b

-- three bytes that are a character (Unicode, table 3-7)
abbrev pub is_three : ℕ → ℕ → ℕ → Bool
is_three a b c = is_in_range 0xE0 0xEF a && (is_second a b && is_tail c)

-- four bytes that are a character (Unicode, table 3-7)
abbrev pub is_four : ℕ → ℕ → ℕ → ℕ → Bool
is_four a b c d = is_in_range 0xF0 0xF4 a && (is_second a b && (is_tail c && is_tail d))

-- the character of UTF-8 that begins with these bytes, 0 for those that are missing (Unicode, table 3-7)
abbrev pub character_of : ℕ → ℕ → ℕ → ℕ → RawFront
character_of a b c d =
    if nat_lt a 0x80 then raw.Plain a 1
    else if is_two a b then raw.Plain ((a - 0xC0) * 64 + (b - 0x80)) 2
    else if is_three a b c then raw.Plain (((a - 0xE0) * 64 + (b - 0x80)) * 64 + (c - 0x80)) 3
    else if is_four a b c d then raw.Plain ((((a - 0xF0) * 64 + (b - 0x80)) * 64 + (c - 0x80)) * 64 + (d - 0x80)) 4
    else raw.Stop Byte

-- the character of UTF-8 that bytes begin with (Unicode, table 3-7)
unfoldable pub character_front : List ℕ → RawFront
character_front bs = character_of (slice_index bs 0) (slice_index bs 1) (slice_index bs 2) (slice_index bs 3)

-- four hexadecimal digits behind so many bytes (JLS 3.3)
abbrev pub are_digits : ℕ → ℕ → ℕ → ℕ → Bool
are_digits a b c d = nat_lt a 16 && (nat_lt b 16 && (nat_lt c 16 && nat_lt d 16))

-- the value of four hexadecimal digits behind so many bytes of an escape (JLS 3.3)
abbrev pub four_digits : ℕ → ℕ → ℕ → ℕ → ℕ → RawFront
four_digits n a b c d =
    if are_digits a b c d
    then raw.Escaped (((a * 16 + b) * 16 + c) * 16 + d) (n + 4) else raw.Stop Escape

-- the escape whose four digits begin these bytes (JLS 3.3)
abbrev pub digits_at : ℕ → List ℕ → RawFront
digits_at n bs = four_digits n (digit_value (slice_index bs 0)) (digit_value (slice_index bs 1)) (digit_value (slice_index bs 2)) (digit_value (slice_index bs 3))

-- what stands behind so many bytes of an escape: more `u`, then four digits (JLS 3.3)
abbrev pub escape_at : ℕ → List ℕ → RawFront
escape_at n [] = raw.Stop Escape
escape_at n (b ∷ bs) = if b == 117 then escape_at (n + 1) bs else digits_at n (b ∷ bs)

-- `\u` stands there (JLS 3.3)
abbrev pub begins_escape : List ℕ → Bool
begins_escape bs = (slice_index bs 0 == 92) && (slice_index bs 1 == 117)

-- the first unit of a surrogate pair (JLS 3.1)
abbrev pub is_high : ℕ → Bool
is_high c = is_in_range 0xD800 0xDBFF c

-- the second unit of a surrogate pair (JLS 3.1)
abbrev pub is_low : ℕ → Bool
is_low c = is_in_range 0xDC00 0xDFFF c

-- Two escapes of a surrogate pair are one letter, any other is one by itself (JLS 3.1, 3.3).
abbrev pub joined : ℕ → ℕ → RawFront → RawFront
joined c n (raw.Stop e) = raw.Escaped c n
joined c n (raw.Plain d m) = raw.Escaped c n
joined c n (raw.Escaped d m) =
    if is_high c && is_low d then raw.Escaped (0x1_0000 + ((c - 0xD800) * 0x400 + (d - 0xDC00))) (n + m) else raw.Escaped c n

-- the escape that stands behind another one, if one does (JLS 3.3)
abbrev pub next_escape : List ℕ → RawFront
next_escape bs = if begins_escape bs then escape_at 2 (drop 2 bs) else raw.Stop File

-- an escape with the one behind it, where the two are a surrogate pair (JLS 3.1, 3.3)
abbrev pub paired : RawFront → List ℕ → RawFront
paired (raw.Stop e) bs = raw.Stop e
paired (raw.Plain c n) bs = raw.Plain c n
paired (raw.Escaped c n) bs = joined c n (next_escape (drop n bs))

-- an eligible escape, or else a character (JLS 3.3)
abbrev pub some_front : Bool → List ℕ → RawFront
some_front odd bs = if not odd && begins_escape bs then paired (escape_at 2 (drop 2 bs)) bs else character_front bs

-- What bytes begin with. A backslash begins an escape where an even number of them stands directly
-- before it and a `u` follows (JLS 3.3).
unfoldable pub raw_front : Bool → List ℕ → RawFront
raw_front odd [] = raw.Stop File
raw_front odd (b ∷ bs) = some_front odd (b ∷ bs)

-- The place behind a raw character of n bytes. A line ends at LF, CR or CR LF (JLS 3.4); a column counts bytes (own rule).
abbrev pub past_plain : Cursor → ℕ → ℕ → Cursor
past_plain p c n = record {
  position = record {
    offset = p.position.offset + n;
    line = if (c == 13) || ((c == 10) && not p.after_return) then p.position.line + 1 else p.position.line;
    column = if (c == 13) || (c == 10) then 1 else p.position.column + n;
  };
  after_return = c == 13;
  odd = (c == 92) && not p.odd;
}

-- The place behind an escape of n bytes, which ends no line of the raw file (own rule).
abbrev pub past_escape : Cursor → ℕ → Cursor
past_escape p n = record {
  position = record { offset = p.position.offset + n; line = p.position.line; column = p.position.column + n };
  after_return = false;
  odd = false;
}

-- the letter that bytes begin with, and the letters behind it (own rule)
abbrev pub raw_from : Cursor → RawFront → (ℕ → Cursor → Letters) → Letters
raw_from p (raw.Stop e) more = stop e p.position
raw_from p (raw.Plain c n) more = letter c p.position (more (n - 1) (past_plain p c n))
raw_from p (raw.Escaped c n) more = letter c p.position (more (n - 1) (past_escape p n))

-- The letters of bytes from p on, of which so many belong to the last letter (own rule).
abbrev pub raw_letters : ℕ → Cursor → List ℕ → Letters
raw_letters zero p [] = stop File p.position
raw_letters (suc k) p [] = stop File p.position
raw_letters zero p (b ∷ bs) = raw_from p (raw_front p.odd (b ∷ bs)) (λ k q. raw_letters k q bs)
raw_letters (suc k) p (b ∷ bs) = raw_letters k p bs

-- the letters of the bytes from p on, a final U+001A among them (own rule)
unfoldable pub raw_at : List ℕ → Cursor → Letters
raw_at bytes p = raw_letters 0 p (drop p.position.offset bytes)

-- where a text ends whose last letter at p is ignored (JLS 3.5)
abbrev pub end_without : Ending → Position → Position → Position
end_without File p q = p
end_without Byte p q = q
end_without Escape p q = q

-- a letter c at p with the rest behind it, where others is that rest without a final U+001A (JLS 3.5)
abbrev pub final_at : ℕ → Position → Letters → Letters → Letters
final_at c p (letter d q rest) others = letter c p others
final_at c p (stop e q) others = if c == 26 then stop e (end_without e p q) else letter c p (stop e q)

-- Letters without a final U+001A, which is ignored (JLS 3.5).
abbrev pub without_final : Letters → Letters
without_final (letter c p rest) = final_at c p rest (without_final rest)
without_final (stop e q) = stop e q

-- the text from p on (own rule)
unfoldable pub letters : List ℕ → Cursor → Letters
letters bytes p = without_final (raw_at bytes p)

-- the start of a file (own rule)
abbrev pub start : Cursor
start = record { position = record { offset = 0; line = 1; column = 1 }; after_return = false; odd = false }

-- the text of a file (own rule)
abbrev pub text_of : List ℕ → Letters
text_of bytes = letters bytes start

-- how the cursor goes on behind what a text begins with (own rule)
abbrev pub raw_seen : List ℕ → Cursor → front.Front → Letters
raw_seen bytes p (Stop e q) = stop e q
raw_seen bytes p (Letter c next) = letter c p.position (raw_at bytes next)

-- the text at p, by what it begins with there (own rule)
abbrev pub seen : List ℕ → Cursor → front.Front → Letters
seen bytes p (Stop e q) = stop e q
seen bytes p (Letter c next) = letter c p.position (letters bytes next)

-- A cursor stands in the bytes, of which there are few enough that each place fits 32 bits (own rule).
abbrev pub IsAt : List ℕ → Cursor → Type 0
IsAt bytes p = (length bytes < 2 ^ 32 - 1) × (p.position.offset ≤ length bytes) × (p.position.line ≤ p.position.offset + 1) × (p.position.column ≤ p.position.offset + 1)

-- q stands in the bytes, at p or behind it (own rule).
abbrev pub IsFrom : List ℕ → Cursor → Cursor → Type 0
IsFrom bytes p q = IsAt bytes q × (p.position.offset ≤ q.position.offset)

-- The letter found at p takes some bytes, and is a code of Unicode or of a unit (own rule).
abbrev pub GoesOn : List ℕ → Cursor → front.Front → Type 0
GoesOn bytes p (Stop e q) = Unit {0}
GoesOn bytes p (Letter c next) = IsAt bytes next × (p.position.offset < next.position.offset) × (c < 0x11_0000)

-- A character or an escape takes some of so many bytes (own rule).
abbrev pub Takes : ℕ → RawFront → Type 0
Takes len (raw.Stop e) = Unit {0}
Takes len (raw.Plain c n) = (0 < n) × (n ≤ len) × (c < 0x11_0000)
Takes len (raw.Escaped c n) = (0 < n) × (n ≤ len) × (c < 0x11_0000)

-- An escape's value is below 2 ^ 16 (own rule).
abbrev pub IsUnit : RawFront → Type 0
IsUnit (raw.Stop e) = Unit {0}
IsUnit (raw.Plain c n) = Unit {0}
IsUnit (raw.Escaped c n) = c < 2 ^ 16
