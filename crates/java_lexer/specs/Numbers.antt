-- Numbers (JLS 3.10.1); floating-point literals (JLS 3.10.2), which are outside the profile.
use Rattle.std.specs.Prelude.{ℕ, ◌+◌, ◌-◌, ◌*◌, ◌^◌, min, Bool, false, ◌&&◌, ◌||◌, ◌==◌, nat_lt, if◌then◌else◌, Option, Some, None}
use Rattle.std.specs.Int.{is_in_range}
use Rattle.std.specs.Char.{digit_value}
use Rattle.java_tree.specs.declared.tokens.Position.{Position}
use Rattle.java_tree.specs.declared.tokens.TokenKind.{TokenKind}
use Rattle.java_tree.specs.declared.tokens.TokenKind.TheVariants.{Integer, LeastInteger, Long, LeastLong}
use Rattle.java_lexer.specs.declared.found.Code.TheVariants.{Form, Large, Outside}
use Rattle.java_characters.specs.Letters.{Letters, letter, stop}
use Rattle.java_characters.specs.Scans.{head, tail, drop_while}
use Rattle.java_lexer.specs.Found.{Cut, fault, token}

-- a decimal digit (JLS 3.10.1)
abbrev pub is_decimal : ℕ → Bool
is_decimal c = is_in_range 48 57 c

-- a digit of a radix, or `_` (JLS 3.10.1)
abbrev pub in_radix : ℕ → ℕ → Bool
in_radix r c = (c == 95) || nat_lt (digit_value c) r

-- the value of digits with one more digit or `_`, where 2 ^ 64 stands for all that is larger (JLS 3.10.1)
abbrev pub value_with : ℕ → ℕ → ℕ → ℕ
value_with r v c = if c == 95 then v else min (v * r + digit_value c) (2 ^ 64)

-- the value of the digits at the front of a text, behind digits of value v (JLS 3.10.1)
abbrev pub run_value : ℕ → ℕ → Letters → ℕ
run_value r v (letter c p rest) = if in_radix r c then run_value r (value_with r v c) rest else v
run_value r v (stop e q) = v

-- the last of the digits and `_` at the front of a text, or else the letter before them (JLS 3.10.1)
abbrev pub run_last : ℕ → ℕ → Letters → ℕ
run_last r last (letter c p rest) = if in_radix r c then run_last r c rest else last
run_last r last (stop e q) = last

-- the text behind its digits and `_` (JLS 3.10.1)
abbrev pub run_rest : ℕ → Letters → Letters
run_rest r t = drop_while (in_radix r) t

-- A decimal int literal is at most 2147483647, or 2147483648 behind a `-` (JLS 3.10.1).
abbrev pub decimal_int : Bool → ℕ → Option TokenKind
decimal_int minus v =
    if nat_lt v (2 ^ 31) then Some (Integer v) else if minus && (v == 2 ^ 31) then Some LeastInteger else None

-- A decimal long literal is at most 9223372036854775807, or 9223372036854775808 behind a `-` (JLS 3.10.1).
abbrev pub decimal_long : Bool → ℕ → Option TokenKind
decimal_long minus v =
    if nat_lt v (2 ^ 63) then Some (Long v) else if minus && (v == 2 ^ 63) then Some LeastLong else None

-- In another radix a literal may fill all bits (JLS 3.10.1).
abbrev pub int_kind : Bool → ℕ → ℕ → Option TokenKind
int_kind minus r v = if r == 10 then decimal_int minus v else if nat_lt v (2 ^ 32) then Some (Integer v) else None

-- In another radix a long literal may fill all 64 bits (JLS 3.10.1).
abbrev pub long_kind : Bool → ℕ → ℕ → Option TokenKind
long_kind minus r v = if r == 10 then decimal_long minus v else if nat_lt v (2 ^ 64) then Some (Long v) else None

-- an integer literal, or the fault that it is too large (JLS 3.10.1)
abbrev pub sized : Option TokenKind → Position → Letters → Cut
sized (Some kind) p t = token kind p t
sized None p t = fault Large p t

-- the suffix of a long literal (JLS 3.10.1)
abbrev pub is_long : ℕ → Bool
is_long c = (c == 76) || (c == 108)

-- an integer literal behind its digits: `L` or `l` makes it a long (JLS 3.10.1)
abbrev pub integer_piece : Bool → Position → ℕ → ℕ → Letters → Cut
integer_piece minus p r v t =
    if is_long (head t) then sized (long_kind minus r v) p (tail t) else sized (int_kind minus r v) p t

-- An integer literal behind its first digits: `_` isn't its last letter (JLS 3.10.1).
abbrev pub whole_piece : Bool → Position → ℕ → ℕ → ℕ → Letters → Cut
whole_piece minus p r last v t =
    if run_last r last t == 95 then fault Form p (run_rest r t) else integer_piece minus p r (run_value r v t) (run_rest r t)

-- what begins a decimal exponent (JLS 3.10.2)
abbrev pub is_exponent : ℕ → Bool
is_exponent c = (c == 101) || (c == 69)

-- the suffix of a floating-point literal (JLS 3.10.2)
abbrev pub is_suffix : ℕ → Bool
is_suffix c = (c == 102) || ((c == 70) || ((c == 100) || (c == 68)))

-- the sign of an exponent (JLS 3.10.2)
abbrev pub is_sign : ℕ → Bool
is_sign c = (c == 43) || (c == 45)

-- what makes a floating-point literal of decimal digits (JLS 3.10.2)
abbrev pub is_float_mark : ℕ → Bool
is_float_mark c = (c == 46) || (is_exponent c || is_suffix c)

-- the end of a floating-point literal, perhaps with a suffix (JLS 3.10.2)
abbrev pub suffix_piece : Position → Letters → Cut
suffix_piece p t = fault Outside p (if is_suffix (head t) then tail t else t)

-- the digits of an exponent (JLS 3.10.2)
abbrev pub power_piece : Position → Letters → Cut
power_piece p t =
    if is_decimal (head t)
    then (if run_last 10 0 t == 95 then fault Form p (run_rest 10 t) else suffix_piece p (run_rest 10 t)) else fault Form p t

-- an exponent behind its letter, perhaps with a sign (JLS 3.10.2)
abbrev pub exponent_piece : Position → Letters → Cut
exponent_piece p t = power_piece p (if is_sign (head t) then tail t else t)

-- behind the digits of a floating-point literal (JLS 3.10.2)
abbrev pub scale_piece : Position → Letters → Cut
scale_piece p t = if is_exponent (head t) then exponent_piece p (tail t) else suffix_piece p t

-- behind the point of a decimal floating-point literal (JLS 3.10.2)
abbrev pub fraction_piece : Position → Letters → Cut
fraction_piece p t =
    if (head t == 95) || (run_last 10 0 t == 95) then fault Form p (if head t == 95 then t else run_rest 10 t)
    else scale_piece p (run_rest 10 t)

-- behind the whole digits of a floating-point literal (JLS 3.10.2)
abbrev pub float_piece : Position → Letters → Cut
float_piece p t = if head t == 46 then fraction_piece p (tail t) else scale_piece p t

-- a number that begins with a decimal digit and has no prefix (JLS 3.10.1)
abbrev pub decimal_piece : Bool → Position → ℕ → Letters → Cut
decimal_piece minus p c rest =
    if is_float_mark (head (run_rest 10 rest))
    then (if run_last 10 c rest == 95 then fault Form p (run_rest 10 rest) else float_piece p (run_rest 10 rest))
    else if c == 48 then whole_piece minus p 8 48 0 rest
    else whole_piece minus p 10 c (c - 48) rest

-- what makes `0` a hexadecimal prefix (JLS 3.10.1)
abbrev pub is_hex_mark : ℕ → Bool
is_hex_mark c = (c == 120) || (c == 88)

-- what makes `0` a binary prefix (JLS 3.10.1)
abbrev pub is_binary_mark : ℕ → Bool
is_binary_mark c = (c == 98) || (c == 66)

-- what begins a binary exponent (JLS 3.10.2)
abbrev pub is_power_mark : ℕ → Bool
is_power_mark c = (c == 112) || (c == 80)

-- A hexadecimal floating-point literal needs its exponent (JLS 3.10.2).
abbrev pub hex_power_piece : Position → Letters → Cut
hex_power_piece p t = if is_power_mark (head t) then exponent_piece p (tail t) else fault Form p t

-- behind the point of a hexadecimal floating-point literal, with no digit before it or some (JLS 3.10.2)
abbrev pub hex_fraction_piece : Position → Bool → Letters → Cut
hex_fraction_piece p bare t =
    if head t == 95 then fault Form p t
    else if (run_last 16 0 t == 95) || (bare && (run_last 16 0 t == 0)) then fault Form p (run_rest 16 t)
    else hex_power_piece p (run_rest 16 t)

-- behind the hexadecimal digits of a number (JLS 3.10.2)
abbrev pub hex_end_piece : Position → ℕ → ℕ → Letters → Cut
hex_end_piece p last v t =
    if head t == 46 then hex_fraction_piece p (last == 0) (tail t)
    else if last == 0 then fault Form p t
    else if is_power_mark (head t) then hex_power_piece p t
    else integer_piece false p 16 v t

-- behind `0x` (JLS 3.10.1)
abbrev pub hex_piece : Position → Letters → Cut
hex_piece p t =
    if head t == 95 then fault Form p t
    else if run_last 16 0 t == 95 then fault Form p (run_rest 16 t)
    else hex_end_piece p (run_last 16 0 t) (run_value 16 0 t) (run_rest 16 t)

-- behind `0b` (JLS 3.10.1)
abbrev pub binary_piece : Position → Letters → Cut
binary_piece p t =
    if head t == 95 then fault Form p t
    else if run_last 2 0 t == 0 then fault Form p t
    else whole_piece false p 2 0 0 t

-- a number that begins with a digit, or with a point and a digit (JLS 3.10.1)
unfoldable pub number_piece : Bool → Position → ℕ → Letters → Cut
number_piece minus p c rest =
    if c == 46 then fraction_piece p rest
    else if (c == 48) && is_hex_mark (head rest) then hex_piece p (tail rest)
    else if (c == 48) && is_binary_mark (head rest) then binary_piece p (tail rest)
    else decimal_piece minus p c rest
