-- Identifiers and keywords (JLS 3.8, 3.9).
use Rattle.std.specs.Prelude.{ℕ, Bool, ◌&&◌, ◌||◌, ◌==◌, List, [], ◌++◌, Option, Some, None, encode_utf8, if◌then◌else◌}
use lib.Utf8.{scalar}
use Rattle.unicode_ident.specs.Ident.{is_xid_start, is_xid_continue}
use Rattle.java_tree.specs.declared.tokens.Position.{Position}
use Rattle.java_tree.specs.declared.tokens.TokenKind.TheVariants as kinds
use Rattle.java_lexer.specs.declared.found.Code.TheVariants as codes
use Rattle.java_keywords.specs.declared.words.WordKind.{WordKind}
use Rattle.java_keywords.specs.declared.words.WordKind.TheVariants.{Keyword, Outside}
use Rattle.java_keywords.specs.Words.{word_kind}
use Rattle.java_characters.specs.Letters.{Letters, letter, stop}
use Rattle.java_characters.specs.Scans.{drop_while}
use Rattle.java_lexer.specs.Found.{Cut, fault, token}

-- A word begins with `$`, `_` or a character of the Unicode property XID_Start (own rule for JLS 3.8).
unfoldable pub is_start : ℕ → Bool
is_start c = scalar c && ((c == 36) || ((c == 95) || is_xid_start c))

-- It goes on with `$` and characters of the Unicode property XID_Continue (own rule for JLS 3.8).
unfoldable pub is_continue : ℕ → Bool
is_continue c = scalar c && ((c == 36) || is_xid_continue c)

-- the bytes of the rest of a word at the front of a text (JLS 3.8)
abbrev pub name_of : Letters → List ℕ
name_of (letter c p rest) = if is_continue c then encode_utf8 c ++ name_of rest else []
name_of (stop e q) = []

-- a `$` stood in the word, or stands in its rest at the front of a text (JLS 3.8)
abbrev pub dollar_in : Bool → Letters → Bool
dollar_in dollar (letter c p rest) = if is_continue c then dollar_in (dollar || (c == 36)) rest else dollar
dollar_in dollar (stop e q) = dollar

-- the text behind the rest of a word (JLS 3.8)
abbrev pub word_rest : Letters → Letters
word_rest t = drop_while is_continue t

-- the token of a word, by what it is if it is no identifier (JLS 3.8, 3.9)
abbrev pub named : Position → Option WordKind → List ℕ → Letters → Cut
named p (Some (Keyword k)) name t = token (kinds.Keyword k) p t
named p (Some Outside) name t = fault codes.Outside p t
named p None name t = token (kinds.Name name) p t

-- A longest word. One with a `$` is outside the profile (own rule).
unfoldable pub word_piece : Position → ℕ → Letters → Cut
word_piece p c rest =
    if dollar_in (c == 36) rest then fault codes.Outside p (word_rest rest)
    else named p (word_kind (encode_utf8 c ++ name_of rest)) (encode_utf8 c ++ name_of rest) (word_rest rest)
